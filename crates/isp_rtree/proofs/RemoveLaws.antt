-- An entry that is taken out of its leaf.
use Rattle.std.proofs.Common.{◌≡◌, inl, inr, ℕ, suc, ◌+◌, ◌≤◌, ◌==◌, ◌||◌, Bool, true, false, cond, Some, List, [], ◌∷◌, ◌++◌, length, take, get_or, refl, sym, ◌∙◌, ap, subst, arith, eqb-true}
use Rattle.std.specs.Prelude.{is_none, not, slice_get}
use Rattle.std.proofs.lemmas.Bool.Decides.{nat_tests}
use Rattle.std.proofs.lemmas.List.{append-nil, take_more}
use Rattle.std.proofs.lemmas.List.Elements.{filter-append}
use Rattle.std.proofs.lemmas.Option.{get_or_from_slice_get, slice_get_within}
use Rattle.isp_base.specs.Lists.{Has}
use Rattle.isp_format.specs.Header.{header_of}
use Rattle.isp_format.specs.Ranges.{Contents, page_of}
use Rattle.isp_page.specs.State.{FileShape, is_among}
use Rattle.isp_page.specs.Touched.{KeepsPages}
use Rattle.isp_forest.specs.declared.entry.Entry.{Entry}
use Rattle.isp_forest.specs.Steps.{is_row, remove, without}
use Rattle.isp_forest.specs.Tree.{Node, Tree, child_of, page_at}
use Rattle.isp_laws.proofs.ForestLaws.{same_page}
use Rattle.isp_laws.proofs.ListLaws.{Has-filter}
use Rattle.isp_laws.proofs.PageLaws.{Before, before}
use Rattle.isp_laws.proofs.RemoveLaws.{remove_keeps}
use Rattle.isp_rnode.specs.Nodes.{IsNode, entry_in, entry_place, node_of, to_in}
use Rattle.isp_rnode.proofs.NodeLaws.{entry_there}
use Rattle.isp_rnode.proofs.PutLaws.{Placed, there_has}
use Rattle.isp_rtree.specs.Removing.{IsAlone, others_of}
use Rattle.isp_rtree.specs.Trees.{IsTreeAt}

-- entries that all have other numbers stay
all_others : (number : ℕ) (es : List Entry) → ((e : Entry) → Has es e → is_row number e.to ≡ true → ⊥) → others_of number es ≡ es
all_others number [] none = refl
all_others number (e ∷ es) none = one (is_row number e.to) refl (all_others number es (λ x h. none x (inr h)))
  where
    one : (b : Bool) → is_row number e.to ≡ b → others_of number es ≡ es → cond (not b) (e ∷ others_of number es) (others_of number es) ≡ e ∷ es
    one true is rest = absurd (none e (inl refl) is)
    one false is rest = ap (λ (xs : List Entry). e ∷ xs) rest

fewer : (number : ℕ) (es : List Entry) → length (others_of number es) ≤ length es
fewer number [] = omega arith
fewer number (e ∷ es) = one (is_row number e.to) (fewer number es)
  where
    one : (b : Bool) → length (others_of number es) ≤ length es → length (cond (not b) (e ∷ others_of number es) (others_of number es)) ≤ suc (length es)
    one true h = omega arith
    one false h = omega arith

not_among : (a b : ℕ) → (a == b) ≡ false → is_among b (a ∷ []) ≡ false
not_among a b is = ap (λ (t : Bool). t || false) is

pub removed : (old new : Contents) (shape : FileShape) (owner root : ℕ) (tree : Tree) (leaf number : ℕ) → IsTreeAt old shape owner root tree → (alone : IsAlone tree leaf number)
    → IsNode owner leaf (without number leaf alone.leaf) (page_of new leaf) → KeepsPages (λ page. is_among page (leaf ∷ [])) old new → IsTreeAt new shape owner root (remove tree number)
removed old new shape owner root tree leaf number at alone node keeps = record {
  is = record {
    nodes = λ q page there. by q page (before (without number) tree.pages q page there) (leaf == q) refl;
    few = λ q page there. (let b : Before (without number) tree.pages q page = before (without number) tree.pages q page there in
        let most = at.is.few q b.old b.there in
        let same : length page.entries ≡ length (others_of number b.old.entries) = ap (λ (n : Node). length n.entries) (sym b.is) in
        omega (arith, most, same, fewer number b.old.entries));
    inside = λ q page there. (let b : Before (without number) tree.pages q page = before (without number) tree.pages q page there in at.is.inside q b.old b.there);
    forest = remove_keeps tree number at.is.forest;
  };
  root_is = at.root_is;
}
  where
    by : (q : ℕ) (page : Node) → Before (without number) tree.pages q page → (t : Bool) → (leaf == q) ≡ t → IsNode owner q page (page_of new q)
    by q page b true t =
        let here : leaf ≡ q = eqb-true leaf q t in
        let there : page_at tree leaf ≡ Some b.old = subst (λ (z : ℕ). page_at tree z ≡ Some b.old) (sym here) b.there in
        let same : alone.leaf ≡ b.old = same_page (page_at tree leaf) alone.leaf b.old alone.there there in
        let is : without number leaf alone.leaf ≡ page = ap (without number leaf) same ∙ b.is in
        subst (λ (z : ℕ). IsNode owner z page (page_of new z)) here (subst (λ (n : Node). IsNode owner leaf n (page_of new leaf)) is node)
    by q page b false t =
        let stays : page_of new q ≡ page_of old q = keeps q (not_among leaf q t) in
        let none : others_of number b.old.entries ≡ b.old.entries = all_others number b.old.entries (λ e has row. (let same : q ≡ leaf = alone.others q b.old e b.there has row in let no : ⊥ = grind (arith, nat_tests, same, t) in no)) in
        let is : b.old ≡ page = (λ i. record b.old { entries = sym none i }) ∙ b.is in
        subst (λ (bytes : List ℕ). IsNode owner q page bytes) (sym stays) (subst (λ (n : Node). IsNode owner q n (page_of old q)) is (at.is.nodes q b.old b.there))

-- one more entry is looked at
pub others_more : (number i count next : ℕ) (all kept now : List Entry) (e : Entry) → slice_get all i ≡ Some e → take count kept ≡ others_of number (take i all) → take next now ≡ take count kept ++ others_of number (e ∷ []) → take next now ≡ others_of number (take (i + 1) all)
others_more number i count next all kept now e there so_far one =
    let more : take (i + 1) all ≡ take i all ++ get_or all i e ∷ [] = take_more all i e (slice_get_within all i e there) in
    let read : get_or all i e ≡ e = get_or_from_slice_get all i e e there in
    one
    ∙ ap (λ (xs : List Entry). xs ++ others_of number (e ∷ [])) so_far
    ∙ sym (filter-append (λ x. not (is_row number x.to)) (take i all) (e ∷ []))
    ∙ ap (λ (x : Entry). others_of number (take i all ++ x ∷ [])) (sym read)
    ∙ ap (others_of number) (sym more)

-- an entry that is left out, and one that is put behind
pub keeps_none : (number : ℕ) (e : Entry) (xs : List Entry) → is_row number e.to ≡ true → xs ≡ xs ++ others_of number (e ∷ [])
keeps_none number e xs is = sym (append-nil xs) ∙ ap (λ (b : Bool). xs ++ cond (not b) (e ∷ []) []) (sym is)

pub keeps_one : (number : ℕ) (e : Entry) (xs : List Entry) → is_row number e.to ≡ false → xs ++ e ∷ [] ≡ xs ++ others_of number (e ∷ [])
keeps_one number e xs is = ap (λ (b : Bool). xs ++ cond (not b) (e ∷ []) []) (sym is)

-- an entry of a leaf leads to a row
row_at : (bytes : List ℕ) (at : ℕ) → is_none (child_of (entry_in 0 bytes at)) ≡ true
unfolding entry_in to_in
row_at bytes at = refl

pub leaf_rows : (bytes : List ℕ) → (header_of bytes).level ≡ 0 → (e : Entry) → Has (node_of bytes).entries e → is_none (child_of e) ≡ true
leaf_rows bytes leaf e has =
    let p : Placed (node_of bytes).entries e = there_has (node_of bytes).entries e has in
    let same : entry_in (header_of bytes).level bytes (entry_place p.k) ≡ e = same_some (entry_in (header_of bytes).level bytes (entry_place p.k)) e (sym (entry_there bytes p.k (slice_get_within (node_of bytes).entries p.k e p.there)) ∙ p.there) in
    ap (λ (x : Entry). is_none (child_of x)) (sym same) ∙ ap (λ (n : ℕ). is_none (child_of (entry_in n bytes (entry_place p.k)))) leaf ∙ row_at bytes (entry_place p.k)
  where
    same_some : (x y : Entry) → Some x ≡ Some y → x ≡ y
    same_some x y h = cc

pub others_had : (number : ℕ) (es : List Entry) (e : Entry) → Has (others_of number es) e → Has es e
others_had number es e h = Has-filter (λ x. not (is_row number x.to)) es e h
