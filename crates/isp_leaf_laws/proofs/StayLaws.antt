-- What stays of a tree and its pages at each step.
use Rattle.std.proofs.Common.{◌≡◌, ℕ, ◌+◌, ◌≤◌, ◌==◌, Bool, true, false, cond, Some, None, List, [], ◌∷◌, reverse, refl, ap, sym, ◌∙◌, arith, subst, eqb-true, eq-eqb, ℤ}
use Rattle.isp_mbr.specs.Corners.{Corners}
use Rattle.isp_mbr.specs.Boxes.{IsBox}
use Rattle.isp_forest.specs.declared.entry.Entry.{Entry}
use Rattle.isp_forest.specs.Tree.{Node, Tree, page_at, ssn_of}
use Rattle.isp_base.specs.Lists.{Has}
use Rattle.isp_forest.specs.Forest.{Forest, IsPage}
use Rattle.isp_forest.specs.Steps.{added_to, add, raised, raise, split, without, remove}
use Rattle.isp_forest.specs.Place.{Stands, IsFree, CanRaise, CanSplit, CanRelieve, Division, relieve, place}
use Rattle.isp_laws.proofs.PageLaws.{page_in-put_same, page_in-put_other, after_each}
use Rattle.isp_laws.proofs.ForestLaws.{same_page}
use Rattle.isp_laws.proofs.RoundLaws.{rounded, Still, counter-rounded}
use Rattle.isp_laws.proofs.AddLaws.{add-still, add_keeps}
use Rattle.isp_laws.proofs.RemoveLaws.{remove-still}
use Rattle.isp_laws.proofs.RaiseLaws.{apart, turned, lifted, moved, made, raise_keeps}
use Rattle.isp_laws.proofs.SplitLaws.{Splitting, Still as Remains, after_split, split_is, counter_grows, still_there, split_keeps}
use Rattle.isp_laws.proofs.PlaceLaws.{can_raise}
use Rattle.isp_leaf_laws.specs.TreeLaws.{StaysPage, StaysTree}

pub rounded_stays : (tree : Tree) (f : ℕ → Node → Node) → Still f → StaysTree tree (rounded tree f)
rounded_stays tree f still = record {
  root = refl;
  pages = λ p page there. record {
    new = f p page;
    there = after_each f tree.pages p page there;
    level = λ other. still.level p page;
    no_lower = omega (arith, still.level p page);
  };
  counter = omega (arith, counter-rounded tree f still);
}

pub add_stays : (tree : Tree) (path : List ℕ) (box : Corners) (key : ℤ) (number : ℕ) → StaysTree tree (add tree path box key number)
add_stays tree path box key number = rounded_stays tree (added_to path box key number) (add-still path box key number)

pub remove_stays : (tree : Tree) (number : ℕ) → StaysTree tree (remove tree number)
remove_stays tree number = rounded_stays tree (without number) (remove-still number)

raised_stays : (tree : Tree) (forest : Forest tree) (q : ℕ) → IsFree tree q → StaysTree tree (raised tree q (Some forest.top))
raised_stays tree forest q free = record {
  root = refl;
  pages = λ p page there. page_of p page there;
  counter = omega (arith, ap ssn_of at_root, ap ssn_of forest.rooted);
}
  where
    at_root : page_at (raised tree q (Some forest.top)) tree.root ≡ Some (lifted forest.top q)
    at_root = page_in-put_same tree.root (lifted forest.top q) _

    page_of : (p : ℕ) (page : Node) → page_at tree p ≡ Some page → StaysPage tree.root (raised tree q (Some forest.top)) p page
    page_of p page there =
        elim (tree.root == p) as (λ b. (tree.root == p) ≡ b → StaysPage tree.root (raised tree q (Some forest.top)) p page) [
          | true ↦ λ t. (let at : tree.root ≡ p = eqb-true tree.root p t in
              let rooted : page_at tree p ≡ Some forest.top = subst (λ (z : ℕ). page_at tree z ≡ Some forest.top) at forest.rooted in
              let same : page ≡ forest.top = same_page (page_at tree p) page forest.top there rooted in
              let level : page.level ≡ forest.top.level = ap (λ (z : Node). z.level) same in
              record {
                new = lifted forest.top q;
                there = subst (λ (z : ℕ). page_at (raised tree q (Some forest.top)) z ≡ Some (lifted forest.top q)) at at_root;
                level = λ other. (let yes : (p == tree.root) ≡ true = eq_back p tree.root at in let no : ⊥ = cc in absurd no);
                no_lower = omega (arith, level);
              })
          | false ↦ λ t. (let other : (q == p) ≡ false = turned p q (apart tree.pages p q page there free) in
              record {
                new = page;
                there = page_in-put_other tree.root p (lifted forest.top q) _ t ∙ page_in-put_other q p (moved forest.top) tree.pages other ∙ there;
                level = λ h. refl;
                no_lower = omega arith;
              })
        ] refl
      where
        eq_back : (p root : ℕ) → root ≡ p → (p == root) ≡ true
        eq_back p root h = eq-eqb p root (sym h)

pub raise_stays : (tree : Tree) (forest : Forest tree) (q : ℕ) → IsFree tree q → StaysTree tree (raise tree q)
raise_stays tree forest q free = subst (λ (t : Tree). StaysTree tree t) (sym (made tree q forest.top forest.rooted)) (raised_stays tree forest q free)

parted_stays : (c : Splitting) → StaysTree c.tree (after_split c)
parted_stays c = record {
  root = refl;
  pages = λ p page there. (let s : Remains c p page.level = still_there c p page there in
      record { new = s.page; there = s.there; level = λ other. s.same; no_lower = omega (arith, s.same) });
  counter = omega (arith, counter_grows c);
}

pub split_stays : (tree : Tree) (o above : ℕ) (left right : List Entry) (n : ℕ) → Forest tree → CanSplit tree o above left right n → StaysTree tree (split tree o above left right n)
split_stays tree o above left right n forest can =
    let c : Splitting = record { tree = tree; forest = forest; o = o; above = above; n = n; left = left; right = right; can = can } in
    subst (λ (t : Tree). StaysTree tree t) (sym (split_is c)) (parted_stays c)

pub stays_same : (tree : Tree) → StaysTree tree tree
stays_same tree = record {
  root = refl;
  pages = λ p page there. record { new = page; there = there; level = λ other. refl; no_lower = omega arith };
  counter = omega arith;
}

pub stays_on : (tree between after : Tree) → StaysTree tree between → StaysTree between after → StaysTree tree after
stays_on tree between after a b = record {
  root = b.root ∙ a.root;
  pages = λ p page there. (let x : StaysPage tree.root between p page = a.pages p page there in
      let y : StaysPage between.root after p x.new = b.pages p x.new x.there in
      record {
        new = y.new;
        there = y.there;
        level = λ other. y.level (ap (λ r. p == r) a.root ∙ other) ∙ x.level other;
        no_lower = omega (arith, x.no_lower, y.no_lower);
      });
  counter = omega (arith, a.counter, b.counter);
}

relieve_stays : (tree : Tree) (q : ℕ) (up : List ℕ) (ds : List Division) → Forest tree → CanRelieve tree q up ds → StaysTree tree (relieve tree q up ds)
relieve_stays tree q up [] forest can = stays_same tree
relieve_stays tree q [] (d ∷ ds) forest can = stays_same tree
relieve_stays tree q (o ∷ []) (d ∷ ds) forest can =
    let may : CanRaise tree q = can_raise tree forest q o d.page d.left d.right can.0 can.1 in
    stays_on tree (raise tree q) (split (raise tree q) q o d.left d.right d.page) (raise_stays tree forest q can.0)
    (split_stays (raise tree q) q o d.left d.right d.page (raise_keeps tree forest q may) can.1)
relieve_stays tree q (o ∷ above ∷ up) (d ∷ ds) forest can =
    let between : Tree = split tree o above d.left d.right d.page in
    stays_on tree between (relieve between q (above ∷ up) ds) (split_stays tree o above d.left d.right d.page forest can.0)
    (relieve_stays between q (above ∷ up) ds (split_keeps tree o above d.left d.right d.page forest can.0) can.1)

pub place_stays : (tree : Tree) (path : List ℕ) (box : Corners) (key : ℤ) (number q : ℕ) (ds : List Division) → Forest tree → Stands tree path → IsBox box
    → CanRelieve (add tree path box key number) q (reverse path) ds → StaysTree tree (place tree path box key number q ds)
place_stays tree path box key number q ds forest stands is_box can =
    stays_on tree (add tree path box key number) (place tree path box key number q ds) (add_stays tree path box key number)
    (relieve_stays (add tree path box key number) q (reverse path) ds (add_keeps tree path box key number forest stands is_box) can)

-- ---- a root leaf without an entry

pub empty_forest : (root : ℕ) → Forest (record { root = root; pages = (root, record { level = 0; ssn = 0; next = None; entries = [] }) ∷ [] })
empty_forest root = record {
  top = record { level = 0; ssn = 0; next = None; entries = [] };
  rooted = rw same refl;
  alone = refl;
  once = λ q. once (root == q);
  by_one = λ q. refl;
  each = λ q page there. (let is : page ≡ record { level = 0; ssn = 0; next = None; entries = [] } = one (root == q) page there in
      subst (IsPage (record { root = root; pages = (root, record { level = 0; ssn = 0; next = None; entries = [] }) ∷ [] }) q) (sym is) (record {
        kinds = λ e has. absurd has;
        boxes = λ e has. absurd has;
        filled = λ inner. absurd (omega arith);
        numbered = omega arith;
      }));
  below = λ p q above below e there has. absurd (subst (λ (x : Node). Has x.entries e) (one (root == p) above there) has);
  linked = λ q r page there next. (let none : page.next ≡ None = ap (λ (x : Node). x.next) (one (root == q) page there) in let no : ⊥ = cc in absurd no);
}
  where
    same : (root == root) ≡ true
    same = eq-eqb root root refl

    once : (b : Bool) → cond b 1 0 + 0 ≤ 1
    once true = omega arith
    once false = omega arith

    one : (b : Bool) (page : Node) → cond b (Some (record { level = 0; ssn = 0; next = None; entries = [] })) None ≡ Some page → page ≡ record { level = 0; ssn = 0; next = None; entries = [] }
    one true page h = cc
    one false page h = cc
