-- What an image stands for, while its copies are laid over their pages and behind that.
use Rattle.std.proofs.Common.{◌≡◌, ◌≢◌, inl, inr, ℕ, ◌<◌, false, List, refl, sym, ◌∙◌, ap, subst, arith}
use Rattle.isp_disk.specs.Moments.{Image, Agree, LeavesOnly, no_place}
use Rattle.isp_disk.specs.Phases.{LeftOfPhase}
use Rattle.isp_disk.specs.declared.world.World.{Ghosts}
use Rattle.isp_disk.proofs.MomentLaws.{chains, widens}
use Rattle.isp_doublewrite.specs.Places.{gate_place, page_places}
use Rattle.isp_doublewrite.specs.Restores.{AreLaid, RestoreLeft, copied_pages, restored_places}
use Rattle.isp_doublewrite.proofs.PlaceLaws.{pages_above}
use Rattle.isp_format.specs.Contents.{StandsFor, ranges_of}
use Rattle.isp_format.specs.Control.{control_size, pages_in}
use Rattle.isp_format.specs.Doublewrite.{HasCopies, area, area_place, doublewrite_gate, laid}
use Rattle.isp_format.specs.Log.{IsLog, log_bytes, log_of, log_place}
use Rattle.isp_format.specs.Ranges.{Contents, SameIn, puts}
use Rattle.isp_format.proofs.Local.{control_same, copies_closed, fanout_same, log_kept, pages_same, stands_moved}
use Rattle.isp_format.proofs.Places.{above, below, neither}
use Rattle.isp_opening.specs.Finding.{AreInPlace, KeepsRules, file_of}
use Rattle.isp_opening.specs.Opening.{LeftOpening, StandAlike}
use Rattle.isp_opening.specs.declared.rules.FileParts.{FileParts}
use Rattle.isp_stable.specs.File.{IsFile}
use Rattle.isp_stable.proofs.FileLaws.{stands as file_stands}

-- the control block and the log have no place that a restore writes
beside : (before : Image) (place : ℕ) → gate_place place ≡ false → place < area_place → restored_places before place ≡ false
beside before place out low = neither (gate_place place) (page_places (copied_pages before) place) out (pages_above (copied_pages before) place low)

control_beside : (before left : Image) → Agree (restored_places before) before left → SameIn 0 control_size before left
control_beside before left agree place low high = agree place (beside before place (below 512 1 place (omega (arith, high))) (omega (arith, high)))

log_beside : (before left : Image) → Agree (restored_places before) before left → SameIn log_place log_bytes before left
log_beside before left agree place low high = agree place (beside before place (above 512 1 place (omega (arith, low))) (omega (arith, high)))

-- a stop within a restore leaves the same contents, in a file of the same shape
left_alike : (pages : ℕ) (before left : Image) (printed_before printed : List ℕ) (contents : Contents) → pages_in before ≡ pages → StandsFor before contents → RestoreLeft pages before printed_before left printed → StandAlike before left
left_alike pages before left printed_before printed contents are stands has =
    let control = control_beside before left has.others in
    record {
      contents = contents;
      first = stands;
      second = stands_moved before left contents stands control (log_beside before left has.others)
          (subst (λ (n : ℕ). HasCopies n left) (sym are) (has.copies (subst (λ (n : ℕ). HasCopies n before) are stands.copies)))
          (ap (puts (ranges_of stands.batches)) has.same_pages);
      pages = sym (pages_same before left control);
      fanout = sym (fanout_same before left control);
    }

-- the contents of a file that keeps the rules
abbrev pub contents_of : (image : Image) (found : FileParts) → KeepsRules image found → Contents
contents_of image found kept = puts (ranges_of kept.batches) (laid image)

pub stands : (image : Image) (found : FileParts) (kept : KeepsRules image found) → StandsFor image (contents_of image found kept)
stands image found kept = record {
  control = kept.control;
  copies = subst (λ (n : ℕ). HasCopies n image) (sym kept.pages) kept.copies;
  batches = kept.batches;
  end = found.log.end;
  log = subst (λ (n : ℕ). IsLog n (log_of image) 0 kept.batches found.log.end) (sym kept.pages) kept.log;
  contents_are = refl;
}

-- no copy counted
pub nothing_laid : (before now : Image) → before doublewrite_gate ≢ 1 → now ≡ before → AreInPlace before now
nothing_laid before now shut same = record {
  closed = λ is. shut (ap (λ (image : Image). image doublewrite_gate) (sym same) ∙ is);
  placed = ap area same ∙ (λ i. puts (sym (copies_closed before shut) i) (area before));
  control = λ place low high. ap (λ (image : Image). image place) (sym same);
  log = λ place low high. ap (λ (image : Image). image place) (sym same);
}

-- the copies were laid
pub all_laid : (pages : ℕ) (before now : Image) → AreLaid pages before now → AreInPlace before now
all_laid pages before now is = record {
  closed = λ one. absurd (omega (arith, is.gate, one));
  placed = is.placed;
  control = control_beside before now is.others;
  log = log_beside before now is.others;
}

module _ {W : Type 0} (g : Ghosts W) where
  -- the file, once its copies are laid, and that it stands for what it stood for
  abbrev pub its_file : (old now : W) (found : FileParts) → KeepsRules (g.image old) found → AreInPlace (g.image old) (g.image now) → IsFile g (file_of now found)
  its_file old now found kept placed =
      let before : Image = g.image old in
      let after : Image = g.image now in
      record {
        control = control_same before after placed.control kept.control;
        pages = sym (pages_same before after placed.control) ∙ kept.pages;
        fanout = sym (fanout_same before after placed.control) ∙ kept.fanout;
        closed = placed.closed;
        batches = kept.batches;
        log = log_kept found.control.pages before after kept.batches found.log.end placed.log kept.log;
      }

  pub alike : (old now : W) (found : FileParts) → KeepsRules (g.image old) found → AreInPlace (g.image old) (g.image now) → StandAlike (g.image old) (g.image now)
  alike old now found kept placed =
      let before : Image = g.image old in
      let after : Image = g.image now in
      record {
        contents = contents_of before found kept;
        first = stands before found kept;
        second = subst (λ (all : Contents). StandsFor after (puts (ranges_of kept.batches) all)) placed.placed (file_stands g (file_of now found) (its_file old now found kept placed));
        pages = sym (pages_same before after placed.control);
        fanout = sym (fanout_same before after placed.control);
      }

  -- up to the first good sync
  pub durable_left : (old durable : W) → LeavesOnly g.clock g.left_since old durable (LeftOfPhase g old (g.pending old)) → LeavesOnly g.clock g.left_since old durable (LeftOpening g old)
  durable_left old durable first = widens g.clock g.left_since old durable _ (LeftOpening g old) first (λ left printed has. (inl has.0, has.1))

  -- in the reads behind it
  pub tested : (old durable read : W) → LeavesOnly g.clock g.left_since old durable (LeftOfPhase g old (g.pending old)) → g.image durable ≡ g.image old → g.printed durable ≡ g.printed old
      → LeavesOnly g.clock g.left_since durable read (LeftOfPhase g durable no_place) → LeavesOnly g.clock g.left_since old read (LeftOpening g old)
  tested old durable read first same same_printed second = chains g.clock g.left_since old durable read (LeftOpening g old)
      (durable_left old durable first)
      (widens g.clock g.left_since durable read _ (LeftOpening g old) second (λ left printed has. (inl (λ place out. (λ i. sym same i place) ∙ has.0 place refl), has.1 ∙ same_printed)))

  -- while the copies are laid
  pub restored : (old read laid : W) (pages : ℕ) (contents : Contents) → pages_in (g.image old) ≡ pages → StandsFor (g.image old) contents → LeavesOnly g.clock g.left_since old read (LeftOpening g old) → g.image read ≡ g.image old → g.printed read ≡ g.printed old
      → LeavesOnly g.clock g.left_since read laid (RestoreLeft pages (g.image read) (g.printed read)) → LeavesOnly g.clock g.left_since old laid (LeftOpening g old)
  restored old read laid pages contents are stood first same same_printed second = chains g.clock g.left_since old read laid (LeftOpening g old) first
      (widens g.clock g.left_since read laid _ (LeftOpening g old) second (λ left printed has.
      let before : RestoreLeft pages (g.image old) (g.printed read) left printed = subst (λ (i : Image). RestoreLeft pages i (g.printed read) left printed) same has in
      (inr (left_alike pages (g.image old) left (g.printed read) printed contents are stood before), before.same ∙ same_printed)))
