-- The two parts of a write, by the calls below.
use Rattle.std.proofs.Common.{◌≡◌, ℕ, ℤ, Bool, true, false, List, length, sym, ◌∙◌, ap, subst}
use Rattle.std.specs.Prelude.{OnOk, Result, Ok, Err}
use Rattle.isp_clustered.specs.Puts.{CanPut, IsPut}
use Rattle.isp_clustered.specs.Rows.{with_row}
use Rattle.isp_clustered.specs.Trees.{IsEdited, IsTree, Tree, holds}
use Rattle.isp_format.specs.Ranges.{Contents}
use Rattle.isp_format.specs.Undo.{OldImage, Slot as Ends}
use Rattle.isp_space.specs.Spaces.{Space, next_free}
use Rattle.isp_undo.specs.Calls.{CanPush, Restacks, page_taken, space_after}
use Rattle.isp_undo.specs.Chains.{Chain, pushed}
use Rattle.isp_trx.specs.Noting.{CanWriteTree, PushesOld, Write, WritesTree, is_put}

-- ---- what stood there is pushed

pub push_on : (pages pages_mid pages_now : ℕ) (old mid new : Contents) (slot : ℕ) (image entry : OldImage) → pages_mid ≡ pages → pages_now ≡ pages_mid → mid ≡ old → entry ≡ image
    → ((slots : List Ends) (chain : Chain) (s : Space) → CanPush pages_mid mid slots slot chain s entry → Restacks pages_now mid new slots slot chain (pushed (next_free s) entry chain) (space_after entry chain s) (page_taken entry chain s))
    → PushesOld pages old slot image new
push_on pages pages_mid pages_now old mid new slot image entry shape shape_now same noted call =
    subst (λ (c : Contents). PushesOld pages c slot image new) same
    (subst (λ (n : ℕ). PushesOld n mid slot image new) shape
    (subst (λ (i : OldImage). PushesOld pages_mid mid slot i new) noted
    (record { makes = λ slots chain s can. subst (λ (n : ℕ). Restacks n mid new slots slot chain (pushed (next_free s) entry chain) (space_after entry chain s) (page_taken entry chain s)) shape_now (call slots chain s can) })))

pub push_sound : (pages pages_mid : ℕ) (old mid : Contents) (slots : List Ends) (slot : ℕ) (chain : Chain) (s : Space) (image entry : OldImage) → pages_mid ≡ pages → mid ≡ old → entry ≡ image → CanPush pages old slots slot chain s image → CanPush pages_mid mid slots slot chain s entry
push_sound pages pages_mid old mid slots slot chain s image entry shape same noted can =
    subst (λ (n : ℕ). CanPush n mid slots slot chain s entry) (sym shape) (subst (λ (c : Contents). CanPush pages c slots slot chain s entry) (sym same) (subst (λ (i : OldImage). CanPush pages old slots slot chain s i) (sym noted) can))

-- ---- the row is put, or written into its slot

not_both : (b : Bool) → b ≡ true → b ≡ false → ⊥
not_both true is out = cc
not_both false is out = cc

pub put_on : {T E : Type 0} (result : Result T E) (pages pages_now : ℕ) (old new : Contents) (w : Write) (key : ℤ) → key ≡ w.at.key → pages_now ≡ pages → is_put w ≡ true
    → ((table : ℕ) (tree : Tree) (s : Space) → CanPut pages old table w.root key (length w.row) tree s → OnOk result (IsPut pages_now old new table w.root key w.row tree s)) → OnOk result (WritesTree pages old w new)
put_on (Ok x) pages pages_now old new w key at shape small call = record {
  puts = λ same table tree s can.
      subst (λ (n : ℕ). IsPut n old new table w.root w.at.key w.row tree s) shape
      (subst (λ (k : ℤ). IsPut pages_now old new table w.root k w.row tree s) at
      (call table tree s (subst (λ (k : ℤ). CanPut pages old table w.root k (length w.row) tree s) (sym at) can)));
  edits = λ large. absurd (not_both (is_put w) small large);
}
put_on (Err e) pages pages_now old new w key at shape small call = tt

pub edit_on : {T E : Type 0} (result : Result T E) (pages pages_now : ℕ) (old new : Contents) (w : Write) (key : ℤ) → key ≡ w.at.key → pages_now ≡ pages → is_put w ≡ false
    → ((table : ℕ) (tree : Tree) → IsTree pages old table w.root tree → OnOk result (IsEdited pages_now old new table w.root tree (with_row key w.row w.marked))) → OnOk result (WritesTree pages old w new)
edit_on (Ok x) pages pages_now old new w key at shape large call = record {
  puts = λ small. absurd (not_both (is_put w) small large);
  edits = λ same table tree is.
      subst (λ (n : ℕ). IsEdited n old new table w.root tree (with_row w.at.key w.row w.marked)) shape
      (subst (λ (k : ℤ). IsEdited pages_now old new table w.root tree (with_row k w.row w.marked)) at (call table tree is));
}
edit_on (Err e) pages pages_now old new w key at shape large call = tt

pub put_sound : (pages : ℕ) (old : Contents) (w : Write) (table : ℕ) (tree : Tree) (s : Space) (key : ℤ) → key ≡ w.at.key → is_put w ≡ true → CanWriteTree pages old w table tree s → CanPut pages old table w.root key (length w.row) tree s
put_sound pages old w table tree s key at small can = subst (λ (k : ℤ). CanPut pages old table w.root k (length w.row) tree s) (sym at) (can.puts small)

pub edit_sound : (pages : ℕ) (old : Contents) (w : Write) (table : ℕ) (tree : Tree) (s : Space) (key : ℤ) → key ≡ w.at.key → is_put w ≡ false → CanWriteTree pages old w table tree s → holds key (length w.row) tree ≡ true
edit_sound pages old w table tree s key at large can = ap (λ (k : ℤ). holds k (length w.row) tree) at ∙ can.edits large
