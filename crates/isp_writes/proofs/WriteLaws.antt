-- What a row that is written leaves of an open file.
use Rattle.std.proofs.Common.{◌≡◌, ℕ, suc, pred, ℤ, ◌+◌, ◌<◌, ◌≤◌, Bool, true, false, List, length, slice_get, Option, Some, None, refl, sym, ◌∙◌, ap, subst, arith, if◌then◌else◌}
use Rattle.std.specs.Prelude.{IfOk, IfSome, Result, Ok, Err, nat_lt}
use Rattle.std.specs.Option.{option_map}
use Rattle.std.proofs.lemmas.Bool.Decides.{nat_tests}
use Rattle.isp_catalog.specs.declared.table.TableDef.{TableDef}
use Rattle.isp_changes.specs.Changes.{after_change, image_of}
use Rattle.isp_clustered.specs.Cells.{kept_of}
use Rattle.isp_clustered.specs.Rows.{find}
use Rattle.isp_clustered.specs.Trees.{IsTree, rows_of}
use Rattle.isp_clustered.specs.declared.kept.Kept.{Kept}
use Rattle.isp_file_laws.proofs.RowKeyLaws.{row_stands, rows_are_short}
use Rattle.isp_format.specs.Leaf.{Stored, most_slot}
use Rattle.isp_format.specs.Ranges.{Contents}
use Rattle.isp_format.specs.Undo.{undo_slots}
use Rattle.isp_image.specs.Databases.{Database, FileImage, FileTable, tables_of}
use Rattle.isp_image.specs.Files.{IsSpelling}
use Rattle.isp_undo.specs.Chains.{Chain}
use Rattle.isp_chained.specs.Chained.{ChainedFile, alone}
use Rattle.isp_chained.proofs.CourseLaws.{reaches_more, reaches_self}
use Rattle.isp_page.specs.declared.pages.Pages.{Ghosts}
use Rattle.isp_plain.specs.Values.{key_of}
use Rattle.isp_plain.specs.declared.value.Row.{Row}
use Rattle.isp_space.specs.Spaces.{has_room}
use Rattle.isp_trx.specs.Transactions.{HasNoted, SameTrx, TrxState, old_image}
use Rattle.isp_trx.specs.Writes.{CanWrite, Write, Wrote, chain_with, change_of, is_smaller, write_at}
use Rattle.isp_trx.specs.declared.keys.RowKey.{RowKey}
use Rattle.isp_trx_laws.specs.Written.{AreWritten}
use Rattle.isp_trx_laws.proofs.MarkLaws.{write_adds_key}
use Rattle.isp_trx_laws.proofs.StageLaws.{written_images}
use Rattle.isp_work.specs.Works.{change_by}
use Rattle.isp_tables.specs.Opened.{IsAtPlace, IsOpen, IsWritable, Stands}
use Rattle.isp_tables.proofs.TableLaws.{def_number, one_chain, open_on}
use Rattle.isp_writes.specs.Causes.{IsFull}
use Rattle.isp_writes.specs.Writing.{DidWrite, IsBytesOf, IsCopyOf, MayWrite, WritesOrFull, WroteOrFull, is_short}

-- ---- room

pub false_true : {X : Type 0} → true ≡ false → X
false_true is = cc

pub can_write : (pages : ℕ) (contents : Contents) (chains : List Chain) (slot : ℕ) (chain : Chain) (w : Write) (d : Database) (t : FileTable) (row : Row) → MayWrite pages contents chains slot chain w d t row
    → has_room pages d.space ≡ true → CanWrite pages contents chains slot chain w d t row
can_write pages contents chains slot chain w d t row may room = record {
  kept = may.kept;
  own = may.own;
  free = may.free;
  from = may.from;
  is_there = may.is_there;
  root = may.root;
  stands = may.stands;
  spells = may.spells;
  room = room;
  unmarked = may.unmarked;
}

-- ---- what stands there

pub short_is : (old : Option Kept) → is_short old ≡ true → IfSome old (λ (kept : Kept). length kept.row ≤ most_slot)
short_is None short = tt
short_is (Some kept) short = let few : length kept.row ≤ 1000 = grind (arith, nat_tests, short) in few

-- ---- what is written

number_less : (a b : ℕ) → nat_lt (a + b) a ≡ false
number_less a b = grind (arith, nat_tests)

some_bytes : (a b : List ℕ) → Some a ≡ Some b → a ≡ b
some_bytes a b is = cc

-- the tree of the table at a place
pub tree_at : {S : Type 0} (g : Ghosts S) (now : S) (defs : List TableDef) (trx : TrxState) (d : Database) (place : ℕ) (def : TableDef) → IsOpen g now defs trx d → (at : IsAtPlace place def d)
    → IsTree (g.shape now).pages (g.contents now) (suc place) def.root.0 at.table.tree
tree_at g now defs trx d place def opened at =
    subst (λ (x : TableDef). IsTree (g.shape now).pages (g.contents now) (suc place) x.root.0 at.table.tree) at.is (opened.kept.holds.kept.each place at.table at.is_there).tree

-- what a kept file has at a key is short
pub always_short : {S : Type 0} (g : Ghosts S) (now : S) (defs : List TableDef) (trx : TrxState) (d : Database) (place : ℕ) (def : TableDef) (key : ℤ) (old : Option Kept) → IsOpen g now defs trx d → (at : IsAtPlace place def d)
    → old ≡ option_map kept_of (find key (rows_of at.table.tree)) → is_short old ≡ true
always_short g now defs trx d place def key old opened at stands = ap is_short stands ∙ by (find key (rows_of at.table.tree)) refl
  where
    by : (o : Option Stored) → find key (rows_of at.table.tree) ≡ o → is_short (option_map kept_of o) ≡ true
    by None none = refl
    by (Some s) some = let few = rows_are_short (g.shape now).pages (g.contents now) d place at.table key s opened.kept.holds.kept at.is_there some in grind (arith, nat_tests, few)

-- the write of a row is one that may be
module _ {S : Type 0} (g : Ghosts S) (now : S) (defs : List TableDef) (trx : TrxState) (d : Database) (place : ℕ) (def : TableDef) (row : Row) (old : Option Kept) (opened : IsOpen g now defs trx d)
    (at : IsAtPlace place def d) (stands : old ≡ option_map kept_of (find (key_of row) (rows_of at.table.tree))) where
  number : def.number ≡ suc place
  number = def_number g now defs trx d place def opened at

  from : 1 ≤ def.number
  from = subst (λ (n : ℕ). 1 ≤ n) (sym number) (omega arith)

  there : slice_get d.tables (pred def.number) ≡ Some at.table
  there = ap (λ (n : ℕ). slice_get d.tables (pred n)) number ∙ at.is_there

  root : at.table.def.root.0 ≡ def.root.0
  root = ap (λ (x : TableDef). x.root.0) at.is

  abbrev May : List ℕ → Bool → Type 0
  May bytes deletes = MayWrite (g.shape now).pages (g.contents now) (alone trx.session opened.chain) trx.session opened.chain (write_at (record { table = def.number; key = key_of row }) def.root.0 old bytes deletes) d at.table row

  may_put : (bytes : List ℕ) → IsSpelling def.schema (key_of row) bytes row → May bytes false
  may_put bytes spells = record {
    kept = opened.kept;
    own = (one_chain g now defs trx d opened).own;
    free = (one_chain g now defs trx d opened).free (old_image (record { table = def.number; key = key_of row }) old);
    from = from;
    is_there = there;
    root = root;
    stands = stands;
    spells = subst (λ (x : TableDef). IsSpelling x.schema (key_of row) bytes row) (sym at.is) spells;
    unmarked = λ smaller. refl;
  }

  may_delete : (bytes : List ℕ) → Stands place row d → IsCopyOf old (Some bytes) → May bytes true
  may_delete bytes stood copy =
      let s = row_stands (g.shape now).pages (g.contents now) d place at.table (key_of row) row opened.kept.holds.kept at.is_there stood in
      let is : old ≡ Some (kept_of s.stored) = stands ∙ ap (option_map kept_of) s.there in
      let same : bytes ≡ s.stored.row = some_bytes bytes s.stored.row (copy (kept_of s.stored) is) in
      let holds : is_smaller (length bytes) old ≡ false = (λ i. is_smaller (length (same i)) (is i)) ∙ number_less (length s.stored.row) (length s.stored.rest) in
      record {
        kept = opened.kept;
        own = (one_chain g now defs trx d opened).own;
        free = (one_chain g now defs trx d opened).free (old_image (record { table = def.number; key = key_of row }) old);
        from = from;
        is_there = there;
        root = root;
        stands = stands;
        spells = subst (λ (l : List ℕ). IsSpelling at.table.def.schema (key_of row) l row) (sym same) s.spells;
        unmarked = λ smaller. false_true (sym smaller ∙ holds);
      }

  pub may_write_row : (bytes : List ℕ) (deletes : Bool) → IsWritable deletes place row d → IsBytesOf def.schema row deletes old (Some bytes)
      → MayWrite (g.shape now).pages (g.contents now) (alone trx.session opened.chain) trx.session opened.chain (write_at (record { table = def.number; key = key_of row }) def.root.0 old bytes deletes) d at.table row
  may_write_row bytes true stood copy = may_delete bytes stood copy
  may_write_row bytes false lined spells = may_put bytes (spells lined)

  -- the bytes of a row that stands there are there
  pub never_none : (deletes : Bool) → IsWritable deletes place row d → IsBytesOf def.schema row deletes old None → ⊥
  never_none true stood copy =
      let s = row_stands (g.shape now).pages (g.contents now) d place at.table (key_of row) row opened.kept.holds.kept at.is_there stood in
      let none : None ≡ Some s.stored.row = copy (kept_of s.stored) (stands ∙ ap (option_map kept_of) s.there) in cc
  never_none false lined is = is

-- the store is open, behind calls that change neither its pages nor what is noted
pub open_behind : {S : Type 0} (g : Ghosts S) (old now : S) (defs : List TableDef) (trx trx_now : TrxState) (d : Database) → (g.shape now).pages ≡ (g.shape old).pages → g.contents now ≡ g.contents old → SameTrx trx trx_now
    → IsOpen g old defs trx d → IsOpen g now defs trx_now d
open_behind g old now defs trx trx_now d pages contents same opened =
    let is = open_on g old now defs trx d pages contents opened in
    record {
      chain = is.chain;
      kept = subst (λ (s : ℕ). ChainedFile (g.shape now).pages (g.contents now) d (alone s is.chain)) (sym same.session) is.kept;
      slot = subst (λ (s : ℕ). s < undo_slots) (sym same.session) is.slot;
      defs_are = is.defs_are;
      noted = same.count ∙ is.noted;
      written = subst (λ (keys : List RowKey). AreWritten keys d) (sym same.keys) is.written;
    }

-- what is written is one that may be, at a key that is the row's, with the bytes that were found
pub may_write_found : {S : Type 0} (g : Ghosts S) (now : S) (defs : List TableDef) (trx : TrxState) (d : Database) (place : ℕ) (def : TableDef) (row : Row) (old : Option Kept) (found : Option (List ℕ)) (bytes : List ℕ) (key : ℤ)
    → (opened : IsOpen g now defs trx d) → (at : IsAtPlace place def d) → key ≡ key_of row → old ≡ option_map kept_of (find key (rows_of at.table.tree)) → found ≡ Some bytes → (deletes : Bool) → IsWritable deletes place row d
    → IsBytesOf def.schema row deletes old found → MayWrite (g.shape now).pages (g.contents now) (alone trx.session opened.chain) trx.session opened.chain (write_at (record { table = def.number; key = key }) def.root.0 old bytes deletes) d at.table row
may_write_found g now defs trx d place def row old found bytes key opened at same stands some deletes writable is =
    subst (λ (k : ℤ). MayWrite (g.shape now).pages (g.contents now) (alone trx.session opened.chain) trx.session opened.chain (write_at (record { table = def.number; key = k }) def.root.0 old bytes deletes) d at.table row) (sym same)
    (may_write_row g now defs trx d place def row old opened at (stands ∙ ap (λ (k : ℤ). option_map kept_of (find k (rows_of at.table.tree))) same) bytes deletes writable
    (subst (λ (b : Option (List ℕ)). IsBytesOf def.schema row deletes old b) some is))

-- ---- what was written

module _ {S : Type 0} (g : Ghosts S) (old new : S) (defs : List TableDef) (trx trx_now : TrxState) (d : Database) (place : ℕ) (def : TableDef) (row : Row) (key : ℤ) (kept : Option Kept) (bytes : List ℕ) (deletes : Bool)
    (opened : IsOpen g old defs trx d) (at : IsAtPlace place def d) (same : key ≡ key_of row) (pages : (g.shape new).pages ≡ (g.shape old).pages) where
  abbrev pub w : Write
  w = write_at (record { table = def.number; key = key }) def.root.0 kept bytes deletes

  number_is : def.number ≡ suc place
  number_is = def_number g old defs trx d place def opened at

  change : change_of w row ≡ change_by deletes place row
  change = λ i. record { table = pred (number_is i); key = same i; new = if deletes then None else Some row }

  abbrev chains : List Chain
  chains = alone trx.session opened.chain

  pub did_write : CanWrite (g.shape old).pages (g.contents old) chains trx.session opened.chain w d at.table row → Wrote (g.shape old).pages (g.contents new) chains trx.session opened.chain w row d → HasNoted w.at trx trx_now
      → DidWrite g new defs trx_now (change_by deletes place row) d
  did_write can wrote noted =
      let n = (g.shape new).pages in
      let after = chain_with w d opened.chain in
      let chains_are = (one_chain g old defs trx d opened).next after ∙ sym (ap (λ (s : ℕ). alone s after) noted.session) in
      let kept_now : ChainedFile n (g.contents new) wrote.after (alone trx_now.session after) = subst (λ (k : ℕ). ChainedFile k (g.contents new) wrote.after (alone trx_now.session after)) (sym pages)
      (subst (λ (l : List Chain). ChainedFile (g.shape old).pages (g.contents new) wrote.after l) chains_are wrote.kept) in
      let images = written_images (g.shape old).pages (g.contents new) trx.session opened.chain w row d wrote in
      let more = noted.count in
      let was = opened.noted in
      let one_more : length wrote.after.images ≡ suc (length d.images) = ap (λ (l : List FileImage). length l) images in
      record {
        room = ap (λ (k : ℕ). has_room k d.space) pages ∙ can.room;
        after = wrote.after;
        opened = record {
          chain = after;
          kept = kept_now;
          slot = subst (λ (s : ℕ). s < undo_slots) (sym noted.session) opened.slot;
          defs_are = wrote.only.defs ∙ opened.defs_are;
          noted = omega (arith, more, was, one_more);
          written = subst (λ (keys : List RowKey). AreWritten keys wrote.after) (sym noted.keys)
              (write_adds_key (g.shape old).pages (g.contents old) (g.contents new) chains trx.session opened.chain trx.keys w d at.table row can opened.written wrote);
        };
        image = wrote.image;
        noted = images;
        back = wrote.back ∙ ap (image_of (tables_of d)) change;
        tables = wrote.now ∙ ap (after_change (tables_of d)) change;
        reaches = reaches_more n d d wrote.after (reaches_self n d) wrote.step (g.contents new, alone trx_now.session after, kept_now);
      }

  pub writes_or_full : (done : Bool) → WroteOrFull (g.shape old).pages (g.contents old) (g.contents new) chains opened.chain trx trx_now w d at.table row done → WritesOrFull g new defs trx_now (change_by deletes place row) d done
  writes_or_full true did = did_write did.0 did.1 did.2
  writes_or_full false did =
      (subst (λ (t : TrxState). IsOpen g new defs t d) (sym did.1) (open_on g old new defs trx d pages did.0 opened), subst (λ (k : ℕ). IsFull k d) (sym pages) did.2)

  -- the same of a call's answer
  pub answers_or_full : {E : Type 0} (result : Result Bool E) → IfOk result (WroteOrFull (g.shape old).pages (g.contents old) (g.contents new) chains opened.chain trx trx_now w d at.table row)
      → IfOk result (WritesOrFull g new defs trx_now (change_by deletes place row) d)
  answers_or_full (Ok done) did = writes_or_full done did
  answers_or_full (Err e) did = tt
