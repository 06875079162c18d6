-- What a run has printed and leaves of the file, from what its parts say.
use Rattle.std.proofs.Common.{◌≡◌, ◌∙◌, inl, inr, ℕ, ◌≤◌, ◌+◌, ◌-◌, ◌&&◌, ap, sym, refl, subst, Bool, true, false, not, List, [], ◌++◌, length, get_or, length-append, append_assoc, All, arith}
use Rattle.isp_disk.specs.Moments.{Image}
use Rattle.isp_disk.specs.declared.world.World.{Ghosts}
use Rattle.isp_writes.specs.Causes.{FillsUp}
use Rattle.isp_file_laws.proofs.KeptLaws.{kept_is_plain}
use Rattle.isp_format.proofs.Standing.{stands_once}
use Rattle.isp_format.specs.Contents.{StandsFor}
use Rattle.isp_format.specs.Control.{fanout_in, pages_in}
use Rattle.isp_format.specs.Ranges.{Contents}
use Rattle.isp_image.specs.Databases.{Database, committed, put_back, tables_of}
use Rattle.isp_chained.specs.Chained.{ChainedFile, IsKeptFile, no_chains}
use Rattle.isp_chained.proofs.PlainLaws.{chained_plain}
use Rattle.isp_page.specs.State.{FileShape}
use Rattle.isp_plain.specs.Tables.{Table}
use Rattle.isp_plan.proofs.FaithfulLaws.{whole_is_faithful}
use Rattle.isp_script.specs.BadLines.{IsBadLine}
use Rattle.isp_script.specs.Grammar.{IsScript}
use Rattle.isp_script.proofs.BadLaws.{not_both}
use Rattle.isp_serial.specs.Alone.{Full, IsAlone, IsFullWhere, run_after, run_answers}
use Rattle.isp_serial.specs.Answers.{Answer, is_end, is_full}
use Rattle.isp_serial.specs.declared.script.Script.{Script as ScriptOf}
use Rattle.isp_serial.proofs.AloneSerial.{alone_answers, alone_is_serial}
use Rattle.isp_sessions.specs.Plays.{IsAtRest, IsSmall, PlayedPart, ReachesFull}
use Rattle.isp_sessions.specs.Sql.{sql}
use Rattle.isp_run.specs.Causes.{Takes}
use Rattle.isp_run.specs.Ran.{Front, FrontOf, FrontOn, IsDatabaseIn, IsFullAfter, IsFullBetween, Ran, RanOf}
use Rattle.isp_run.specs.Reading.{HasScript}
use Rattle.isp_run.specs.Working.{HasPlayed}

-- ---- files

-- without old rows the committed tables are those of now
pub committed_none : (d : Database) → d.images ≡ [] → committed d ≡ tables_of d
committed_none d none = ap (λ images. put_back images (tables_of d)) none

-- the database of a kept file whose image stands for these contents
pub record KeptAs (image : Image) (contents : Contents) (first : List Table) : Type 0 where
  pub d : Database
  pub rests : IsAtRest (pages_in image) contents d
  pub tables : tables_of d ≡ first

pub kept_as : (image : Image) (contents : Contents) (first : List Table) → StandsFor image contents → IsKeptFile image first → KeptAs image contents first
kept_as image contents first stands is =
    let d = is.stands.db in
    let none = (chained_plain (pages_in image) is.contents d is.stands.kept).none in
    let same : is.contents ≡ contents = stands_once image is.contents contents is.stands_for stands in
    record {
      d = d;
      rests = record { kept = subst (λ c. ChainedFile (pages_in image) c d no_chains) same is.stands.kept; tidy = is.tidy };
      tables = sym (committed_none d none) ∙ is.stands.stand;
    }

-- a file that stands for contents with a database at rest
pub kept_at_rest : (image : Image) (contents : Contents) (pages : ℕ) (d : Database) (after : List Table) → pages_in image ≡ pages → StandsFor image contents → IsAtRest pages contents d → tables_of d ≡ after → IsKeptFile image after
kept_at_rest image contents pages d after count stands rests tables = record {
  contents = contents;
  stands_for = stands;
  stands = record {
    db = d;
    kept = subst (λ n. ChainedFile n contents d no_chains) (sym count) rests.kept;
    stand = committed_none d (chained_plain pages contents d rests.kept).none ∙ tables;
  };
  tidy = rests.tidy;
}

database_in : (image : Image) (contents : Contents) (pages : ℕ) (d : Database) → pages_in image ≡ pages → StandsFor image contents → IsAtRest pages contents d → IsDatabaseIn image d
database_in image contents pages d count stands rests = record { contents = contents; stands = stands; kept = subst (λ n. ChainedFile n contents d no_chains) (sym count) rests.kept }

-- ---- answers

and_first : (a b : Bool) → (a && b) ≡ true → a ≡ true
and_first true b is = refl
and_first false b is = cc

-- each answer of a full file has the cause of its statement
full_causes : (P : Type 0) (full : Full) → ((session number : ℕ) → full session number ≡ true → P) → (answers : List Answer) → All (IsFullWhere full) answers → All (λ answer. is_full answer ≡ true → P) answers
full_causes P full causes answers where_is = λ k d inside is.
    let answer = get_or answers k d in
    causes answer.session answer.number (and_first (full answer.session answer.number) (not (is_end answer)) (sym (where_is k d inside) ∙ is))

-- ---- a run

module _ {W : Type 0} (g : Ghosts W) (script : ScriptOf) (alone : IsAlone script.sessions) (small : IsSmall script) where
  -- the headline, from what the work says
  pub ran : (shape : FileShape) (old new : W) (contents : Contents) (first : List Table) → StandsFor (g.image old) contents
      → pages_in (g.image old) ≡ shape.pages → fanout_in (g.image old) ≡ shape.fanout
      → ((d : Database) → IsAtRest shape.pages contents d → HasPlayed g script shape d old new)
      → IsKeptFile (g.image old) first → Ran script first (g.printed old) (g.printed new) (g.image old) (g.image new)
  ran shape old new contents first stands pages fanout work kept =
      let is_kept = kept_as (g.image old) contents first stands kept in
      let rests : IsAtRest shape.pages contents is_kept.d = subst (λ n. IsAtRest n contents is_kept.d) pages is_kept.rests in
      let has = work is_kept.d rests in
      subst (λ tables. Ran script tables (g.printed old) (g.printed new) (g.image old) (g.image new)) is_kept.tables (from is_kept.d rests has)
    where
      from : (d : Database) → IsAtRest shape.pages contents d → HasPlayed g script shape d old new → Ran script (tables_of d) (g.printed old) (g.printed new) (g.image old) (g.image new)
      from d rests has =
          let played = has.played in
          let answers = alone_answers sql played.full (tables_of d) script whole_is_faithful (kept_is_plain shape.pages contents d rests.kept.holds.kept).lined small.0 small.1 in
          record {
            answers = run_answers sql played.full (tables_of d) script;
            printed = played.printed;
            alone = answers.alone;
            full = full_causes (IsFullBetween (g.image old) (g.image new)) played.full (λ session number is. record {
              first = d;
              last = played.last;
              first_in = database_in (g.image old) contents shape.pages d pages stands rests;
              last_in = database_in (g.image new) has.contents shape.pages played.last has.placed.pages has.placed.stands played.rests;
              was_full = subst (λ n. FillsUp n d played.last) (sym pages) (played.was_full session number is);
            }) (run_answers sql played.full (tables_of d) script) answers.full_where;
            after = run_after sql played.full (tables_of d) script;
            serial = alone_is_serial sql played.full (tables_of d) script whole_is_faithful alone;
            kept = kept_at_rest (g.image new) has.contents shape.pages played.last (run_after sql played.full (tables_of d) script) has.placed.pages has.placed.stands played.rests played.tables;
            pages_stay = has.placed.pages ∙ sym pages;
            fanout_stays = has.placed.fanout ∙ sym fanout;
            tidy = has.placed.tidy;
          }

  -- and of a run that wasn't done
  pub front : (shape : FileShape) (old new : W) (contents : Contents) (first : List Table) → StandsFor (g.image old) contents
      → pages_in (g.image old) ≡ shape.pages
      → ((d : Database) → IsAtRest shape.pages contents d → PlayedPart shape.pages script d (g.printed old) (g.printed new))
      → IsKeptFile (g.image old) first → Front script first (g.image old) (g.printed old) (g.printed new)
  front shape old new contents first stands pages work kept =
      let is_kept = kept_as (g.image old) contents first stands kept in
      let rests : IsAtRest shape.pages contents is_kept.d = subst (λ n. IsAtRest n contents is_kept.d) pages is_kept.rests in
      subst (λ tables. Front script tables (g.image old) (g.printed old) (g.printed new)) is_kept.tables (from is_kept.d rests (work is_kept.d rests))
    where
      from : (d : Database) → IsAtRest shape.pages contents d → PlayedPart shape.pages script d (g.printed old) (g.printed new) → Front script (tables_of d) (g.image old) (g.printed old) (g.printed new)
      from d rests has =
          let answers = alone_answers sql has.full (tables_of d) script whole_is_faithful (kept_is_plain shape.pages contents d rests.kept.holds.kept).lined small.0 small.1 in
          record {
            answers = run_answers sql has.full (tables_of d) script;
            alone = answers.alone;
            full = full_causes (IsFullAfter (g.image old)) has.full (λ session number is. record {
              first = d;
              first_in = database_in (g.image old) contents shape.pages d pages stands rests;
              was_full = subst (λ n. ReachesFull n d) (sym pages) (has.was_full session number is);
            }) (run_answers sql has.full (tables_of d) script) answers.full_where;
            after = run_after sql has.full (tables_of d) script;
            serial = alone_is_serial sql has.full (tables_of d) script whole_is_faithful alone;
            part = has.part;
          }

-- the script that the source's bytes are, which was read to its end
pub front_of : (bytes rest before now : List ℕ) (file : Image) (script : ScriptOf) → rest ≡ [] → IsScript bytes script → FrontOn script before now file → FrontOf bytes rest before now file
front_of bytes rest before now file script end is (inl same) = inl same
front_of bytes rest before now file script end is (inr fronts) = inr (end, λ first is_kept. (script, is, fronts first is_kept))

-- a look at the file before it
pub ran_behind : (bytes before mid now : List ℕ) (file look file_now : Image) → mid ≡ before → look ≡ file → RanOf bytes mid now look file_now → RanOf bytes before now file file_now
ran_behind bytes before mid now file look file_now printed image ran =
    subst (λ (b : List ℕ). RanOf bytes b now file file_now) printed (subst (λ (i : Image). RanOf bytes mid now i file_now) image ran)

pub front_behind : (bytes rest before mid now : List ℕ) (file look : Image) → mid ≡ before → look ≡ file → FrontOf bytes rest mid now look → FrontOf bytes rest before now file
front_behind bytes rest before mid now file look printed image front =
    subst (λ (b : List ℕ). FrontOf bytes rest b now file) printed (subst (λ (i : Image). FrontOf bytes rest mid now i) image front)

-- bytes that have a script have no bad line
pub not_bad : (bytes : List ℕ) (line : ℕ) → IsBadLine bytes line → HasScript bytes → ⊥
not_bad bytes line bad has = not_both bytes has.0 line has.1 bad

-- these bytes, and then some more
pub takes_more : (most : ℕ) (bytes before mid now : List ℕ) → before ≡ bytes ++ mid → length bytes ≤ most →
    Takes (most - length bytes) mid now → Takes most before now
takes_more most bytes before mid now first small takes =
    let count : length takes.taken ≤ most - length bytes = takes.few in
    let sum : length (bytes ++ takes.taken) ≡ length bytes + length takes.taken = length-append bytes takes.taken in
    record { taken = bytes ++ takes.taken; told = first ∙ (ap (λ xs. bytes ++ xs) takes.told ∙ sym (append_assoc bytes takes.taken now)); few = omega arith }
