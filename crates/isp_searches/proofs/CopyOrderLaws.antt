-- Two copies of a search commute, where neither goes from the page that the other goes to; so the copy to the page of a raised
-- root may come before those to the new pages of the splits below.
use Rattle.std.proofs.Common.{◌≡◌, inl, inr, ℕ, ◌==◌, true, false, List, [], ◌∷◌, refl, ap, sym, ◌∙◌, subst, eq-eqb}
use Rattle.isp_mbr.specs.Corners.{Corners}
use Rattle.isp_mbr.specs.Predicates.{may_hold}
use Rattle.isp_mbr.specs.declared.predicate.Predicate.{Predicate}
use Rattle.isp_forest.specs.declared.entry.Entry.{Entry}
use Rattle.isp_base.specs.Lists.{Has}
use Rattle.isp_forest.specs.Tree.{Tree, page_at, least}
use Rattle.isp_forest.specs.Forest.{Forest}
use Rattle.isp_forest.specs.Steps.{split}
use Rattle.isp_forest.specs.Place.{CanSplit, Division, CanRelieve}
use Rattle.isp_forest.specs.Search.{Search}
use Rattle.isp_forest.specs.Attach.{copied, box_of, copied_at_raise, copied_at_split, copied_up, copied_to_raised, copied_to_parts}
use Rattle.isp_laws.proofs.RaiseLaws.{apart, turned}
use Rattle.isp_laws.proofs.SplitLaws.{Splitting, split_is, split_keeps}
use Rattle.isp_laws.proofs.SplitWalkLaws.{splitting}
use Rattle.isp_searches.specs.SearchLaws.{IsLike}
use Rattle.isp_searches.proofs.SeesLaws.{not_both, IsThere}
use Rattle.isp_searches.proofs.RaiseSearchLaws.{on_copied, still_on, on_new}
use Rattle.isp_searches.proofs.SplitSearchLaws.{still}

like_refl : (x : Search) → IsLike x x
like_refl x = record {
  session = refl;
  statement = refl;
  predicate = refl;
  stack = refl;
  on = λ p h. h;
  on_back = λ p h. h;
  found = λ k h. h;
  found_back = λ k h. h;
}

like_trans : (x y z : Search) → IsLike x y → IsLike y z → IsLike x z
like_trans x y z a b = record {
  session = a.session ∙ b.session;
  statement = a.statement ∙ b.statement;
  predicate = a.predicate ∙ b.predicate;
  stack = a.stack ∙ b.stack;
  on = λ p h. b.on p (a.on p h);
  on_back = λ p h. a.on_back p (b.on_back p h);
  found = λ k h. b.found k (a.found k h);
  found_back = λ k h. a.found_back k (b.found_back k h);
}

copied_on : (p q : ℕ) (box : Corners) (x y : Search) → x.predicate ≡ y.predicate → ((r : ℕ) → Has x.on r → Has y.on r) → (r : ℕ) → Has (copied p q box x).on r → Has (copied p q box y).on r
copied_on p q box x y predicate on r h = elim (on_copied p q box x r h) [
  | inl was ↦ still_on p q box y r (on r was)
  | inr new ↦ subst (λ (z : ℕ). Has (copied p q box y).on z) new.0 (on_new p q box y (on p new.1) (subst (λ (z : Predicate). may_hold z box ≡ true) predicate new.2))
]

copied_like : (p q : ℕ) (box : Corners) (x y : Search) → IsLike x y → IsLike (copied p q box x) (copied p q box y)
copied_like p q box x y like = record {
  session = like.session;
  statement = like.statement;
  predicate = like.predicate;
  stack = like.stack;
  on = copied_on p q box x y like.predicate like.on;
  on_back = copied_on p q box y x (sym like.predicate) like.on_back;
  found = like.found;
  found_back = like.found_back;
}

swapped : (p q : ℕ) (box : Corners) (o n : ℕ) (other : Corners) (x : Search) → (n == p) ≡ false → (r : ℕ) → Has (copied p q box (copied o n other x)).on r → Has (copied o n other (copied p q box x)).on r
swapped p q box o n other x not_p r h = elim (on_copied p q box (copied o n other x) r h) [
  | inl was ↦ elim (on_copied o n other x r was) [
    | inl old ↦ still_on o n other (copied p q box x) r (still_on p q box x r old)
    | inr new ↦ subst (λ (z : ℕ). Has (copied o n other (copied p q box x)).on z) new.0 (on_new o n other (copied p q box x) (still_on p q box x o new.1) new.2)
  ]
  | inr to_q ↦ elim (on_copied o n other x p to_q.1) [
    | inl old ↦ subst (λ (z : ℕ). Has (copied o n other (copied p q box x)).on z) to_q.0 (still_on o n other (copied p q box x) q (on_new p q box x old to_q.2))
    | inr new ↦ absurd (not_both (n == p) (eq-eqb n p new.0) not_p)
  ]
]

commute : (p q : ℕ) (box : Corners) (o n : ℕ) (other : Corners) (x : Search) → (n == p) ≡ false → (q == o) ≡ false → IsLike (copied p q box (copied o n other x)) (copied o n other (copied p q box x))
commute p q box o n other x not_p not_o = record {
  session = refl;
  statement = refl;
  predicate = refl;
  stack = refl;
  on = swapped p q box o n other x not_p;
  on_back = swapped o n other p q box x not_o;
  found = λ k h. h;
  found_back = λ k h. h;
}

-- ---- the raise first

split_root : (tree : Tree) (o above : ℕ) (left right : List Entry) (n : ℕ) → Forest tree → CanSplit tree o above left right n → (split tree o above left right n).root ≡ tree.root
split_root tree o above left right n f can = ap (λ (t : Tree). t.root) (split_is (splitting tree o above left right n f can))

split_there : (tree : Tree) (o above : ℕ) (left right : List Entry) (n p : ℕ) → Forest tree → CanSplit tree o above left right n → IsThere tree p → IsThere (split tree o above left right n) p
split_there tree o above left right n p f can t =
    let c : Splitting = splitting tree o above left right n f can in
    subst (λ (z : Tree). IsThere z p) (sym (split_is c)) (still c p t)

raise_commutes : (tree : Tree) (q : ℕ) (up : List ℕ) (ds : List Division) → Forest tree → CanRelieve tree q up ds → (o n : ℕ) (box : Corners) → (n == tree.root) ≡ false → IsThere tree o
    → (x : Search) → IsLike (copied_to_raised tree q up ds (copied o n box x)) (copied o n box (copied_to_raised tree q up ds x))
raise_commutes tree q up [] f can o n box not_root there x = like_refl (copied o n box x)
raise_commutes tree q [] (d ∷ ds) f can o n box not_root there x = like_refl (copied o n box x)
raise_commutes tree q (r ∷ []) (d ∷ ds) f can o n box not_root there x =
    commute tree.root q (box_of (page_at tree tree.root)) o n box x not_root (turned o q (apart tree.pages o q there.0 there.1 can.0))
raise_commutes tree q (r ∷ above ∷ up) (d ∷ ds) f can o n box not_root there x =
    let root : (split tree r above d.left d.right d.page).root ≡ tree.root = split_root tree r above d.left d.right d.page f can.0 in
    raise_commutes (split tree r above d.left d.right d.page) q (above ∷ up) ds (split_keeps tree r above d.left d.right d.page f can.0) can.1 o n box
    (ap (λ (z : ℕ). n == z) root ∙ not_root) (split_there tree r above d.left d.right d.page o f can.0 there) x

parts_like : (q : ℕ) (up : List ℕ) (ds : List Division) (x y : Search) → IsLike x y → IsLike (copied_to_parts q up ds x) (copied_to_parts q up ds y)
parts_like q up [] x y like = like
parts_like q [] (d ∷ ds) x y like = like
parts_like q (o ∷ []) (d ∷ ds) x y like = copied_like q d.page (least d.right) x y like
parts_like q (o ∷ above ∷ up) (d ∷ ds) x y like =
    parts_like q (above ∷ up) ds (copied_at_split o d.right d.page x) (copied_at_split o d.right d.page y) (copied_like o d.page (least d.right) x y like)

pub raise_first : (tree : Tree) (q : ℕ) (up : List ℕ) (ds : List Division) (x : Search) → Forest tree → CanRelieve tree q up ds
    → IsLike (copied_up tree q up ds x) (copied_to_parts q up ds (copied_to_raised tree q up ds x))
raise_first tree q up [] x f can = like_refl x
raise_first tree q [] (d ∷ ds) x f can = like_refl x
raise_first tree q (o ∷ []) (d ∷ ds) x f can = like_refl (copied_at_split q d.right d.page (copied_at_raise tree q x))
raise_first tree q (o ∷ above ∷ up) (d ∷ ds) x f can =
    let next : Tree = split tree o above d.left d.right d.page in
    let now : Search = copied_at_split o d.right d.page x in
    let f' : Forest (split tree o above d.left d.right d.page) = split_keeps tree o above d.left d.right d.page f can.0 in
    let not_root : (d.page == tree.root) ≡ false = turned tree.root d.page (apart tree.pages tree.root d.page f.top f.rooted (can.0).free) in
    let root : (split tree o above d.left d.right d.page).root ≡ tree.root = split_root tree o above d.left d.right d.page f can.0 in
    let there : IsThere tree o = ((can.0).page, (can.0).there) in
    let rest : IsLike (copied_up next q (above ∷ up) ds now) (copied_to_parts q (above ∷ up) ds (copied_to_raised next q (above ∷ up) ds now)) = raise_first next q (above ∷ up) ds now f' can.1 in
    let swap : IsLike (copied_to_raised next q (above ∷ up) ds now) (copied_at_split o d.right d.page (copied_to_raised next q (above ∷ up) ds x)) =
    raise_commutes next q (above ∷ up) ds f' can.1 o d.page (least d.right) (ap (λ (z : ℕ). d.page == z) root ∙ not_root) (split_there tree o above d.left d.right d.page o f can.0 there) x in
    like_trans (copied_up next q (above ∷ up) ds now) (copied_to_parts q (above ∷ up) ds (copied_to_raised next q (above ∷ up) ds now))
    (copied_to_parts q (above ∷ up) ds (copied_at_split o d.right d.page (copied_to_raised next q (above ∷ up) ds x)))
    rest (parts_like q (above ∷ up) ds (copied_to_raised next q (above ∷ up) ds now) (copied_at_split o d.right d.page (copied_to_raised next q (above ∷ up) ds x)) swap)
