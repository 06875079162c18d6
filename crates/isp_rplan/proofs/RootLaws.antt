-- The root is divided: its content moves to a page of its own first, which is divided then.
use Rattle.std.proofs.Common.{◌≡◌, inl, ℕ, suc, ◌==◌, Bool, true, false, cond, Option, Some, None, List, [], ◌∷◌, ◌++◌, map, refl, sym, ◌∙◌, ap, subst, eqb-true, eq-eqb}
use Rattle.isp_format.specs.Control.{IsFanout}
use Rattle.isp_mbr.specs.Corners.{Corners}
use Rattle.isp_forest.specs.declared.entry.Entry.{Entry}
use Rattle.isp_forest.specs.declared.entry.To.{To}
use Rattle.isp_forest.specs.Forest.{Forest}
use Rattle.isp_forest.specs.Place.{CanRaise, CanSplit, IsFree}
use Rattle.isp_forest.specs.Steps.{entry_for, raise, split}
use Rattle.isp_forest.specs.Tree.{Node, Tree, counter, least, page_at}
use Rattle.isp_laws.specs.DivisionLaws.{AreParts}
use Rattle.isp_laws.proofs.ForestLaws.{counter_is, same_page}
use Rattle.isp_laws.proofs.PageLaws.{page_in-put_other, page_in-put_same}
use Rattle.isp_laws.proofs.PlaceLaws.{raised_page}
use Rattle.isp_laws.proofs.RaiseLaws.{apart, lifted, made, moved, raise_keeps}
use Rattle.isp_rplan.specs.Plans.{AreDivided, known, with_carry}
use Rattle.isp_rplan.specs.declared.steps.Carry.{Carry}
use Rattle.isp_rplan.specs.declared.steps.PathPage.{PathPage}
use Rattle.isp_rplan.proofs.KnownLaws.{divided_known, parts_of}
use Rattle.isp_rplan.proofs.StepLaws.{AreUp, hand_known, split_at_n, split_at_o, split_at_old}

-- the root as a page that is at hand
pub at_top : (tree : Tree) (forest : Forest tree) (b : Corners) (carry : Carry) (to : To) (page : PathPage) → (u : AreUp tree b carry to page []) → u.hand.node ≡ forest.top
at_top tree forest b carry to page u = same_page (page_at tree tree.root) u.hand.node forest.top (subst (λ (q : ℕ). page_at tree q ≡ Some u.hand.node) u.up u.hand.there) forest.rooted

raised_root : (tree : Tree) (forest : Forest tree) (q : ℕ) → page_at (raise tree q) tree.root ≡ Some (lifted forest.top q)
raised_root tree forest q = ap (λ (t : Tree). page_at t tree.root) (made tree q forest.top forest.rooted) ∙ page_in-put_same tree.root (lifted forest.top q) _

pub raised_is : (tree : Tree) (forest : Forest tree) (q : ℕ) → (raise tree q).root ≡ tree.root
raised_is tree forest q = ap (λ (t : Tree). t.root) (made tree q forest.top forest.rooted)

pub raised_other : (tree : Tree) (forest : Forest tree) (q x : ℕ) → (q == x) ≡ false → (tree.root == x) ≡ false → page_at (raise tree q) x ≡ page_at tree x
raised_other tree forest q x a b =
    ap (λ (t : Tree). page_at t x) (made tree q forest.top forest.rooted)
    ∙ page_in-put_other tree.root x (lifted forest.top q) _ b ∙ page_in-put_other q x (moved forest.top) tree.pages a

pub raised_counter : (tree : Tree) (forest : Forest tree) (q : ℕ) → counter (raise tree q) ≡ counter tree
raised_counter tree forest q =
    ap (λ (r : ℕ). ssn_at (page_at (raise tree q) r)) (raised_is tree forest q) ∙ ap ssn_at (raised_root tree forest q) ∙ sym (counter_is tree forest)
  where
    ssn_at : Option Node → ℕ
    ssn_at None = 0
    ssn_at (Some page) = page.ssn

-- the raised root can be divided as the plan has it, with pages q and n
pub can_divide : (tree : Tree) (forest : Forest tree) (fanout : ℕ) → IsFanout fanout → (b : Corners) (carry : Carry) (to : To) (page : PathPage) (stays moves : List Entry) (q n : ℕ)
    → (u : AreUp tree b carry to page []) → AreDivided fanout (with_carry carry page.entries.items) stays moves → IsFree tree q → IsFree tree n → (q == n) ≡ false
    → CanSplit (raise tree q) q tree.root (map (known to) stays) (map (known to) moves) n
can_divide tree forest fanout fan b carry to page stays moves q n u d free_q free_n differ =
    let top = at_top tree forest b carry to page u in
    let all : map (known to) (with_carry carry page.entries.items) ≡ forest.top.entries = hand_known tree forest b carry to page [] u ∙ ap (λ (x : Node). x.entries) top in
    let mine : AreDivided fanout forest.top.entries (map (known to) stays) (map (known to) moves) = subst (λ (es : List Entry). AreDivided fanout es (map (known to) stays) (map (known to) moves)) all (divided_known fanout to (with_carry carry page.entries.items) stays moves d) in
    let parts : AreParts forest.top.level _ forest.top.entries (map (known to) stays) (map (known to) moves) = parts_of forest.top.level fanout forest.top.entries (map (known to) stays) (map (known to) moves) fan mine in
    record {
      page = moved forest.top;
      there = raised_page tree forest q free_q;
      entry = entry_for (least forest.top.entries) q;
      named = record { page = lifted forest.top q; there = raised_root tree forest q; has = inl refl; to = refl };
      parts = parts.division;
      free = raised_other tree forest q n differ (apart tree.pages tree.root n forest.top forest.rooted free_n) ∙ free_n;
    }

-- what stands on the root's page, and on the two new pages
abbrev pub new_root : Node → ℕ → ℕ → List Entry → List Entry → Node
new_root top q n left right = record { level = suc top.level; ssn = suc top.ssn; next = None; entries = entry_for (least left) q ∷ entry_for (least right) n ∷ [] }

pub divided_q : (tree : Tree) (forest : Forest tree) (q n : ℕ) (left right : List Entry) → CanRaise tree q → (can : CanSplit (raise tree q) q tree.root left right n) → can.page ≡ moved forest.top
    → page_at (split (raise tree q) q tree.root left right n) q ≡ Some (record { level = forest.top.level; ssn = suc forest.top.ssn; next = Some n; entries = left })
divided_q tree forest q n left right may can page =
    let raised_forest : Forest (raise tree q) = raise_keeps tree forest q may in
    split_at_o (raise tree q) raised_forest q tree.root n left right can
    ∙ (λ i. Some (record { level = (page i).level; ssn = suc ((raised_counter tree forest q ∙ counter_is tree forest) i); next = Some n; entries = left }))

pub divided_n : (tree : Tree) (forest : Forest tree) (q n : ℕ) (left right : List Entry) → CanRaise tree q → (can : CanSplit (raise tree q) q tree.root left right n) → can.page ≡ moved forest.top
    → page_at (split (raise tree q) q tree.root left right n) n ≡ Some (record { level = forest.top.level; ssn = forest.top.ssn; next = None; entries = right })
divided_n tree forest q n left right may can page =
    split_at_n (raise tree q) (raise_keeps tree forest q may) q tree.root n left right can ∙ (λ i. Some (record (page i) { entries = right }))

pub divided_root : (tree : Tree) (forest : Forest tree) (q n : ℕ) (left right : List Entry) → CanRaise tree q → IsFree tree q → (can : CanSplit (raise tree q) q tree.root left right n)
    → page_at (split (raise tree q) q tree.root left right n) tree.root ≡ Some (new_root forest.top q n left right)
divided_root tree forest q n left right may free can =
    let raised_forest : Forest (raise tree q) = raise_keeps tree forest q may in
    let other : (q == tree.root) ≡ false = other_root (q == tree.root) refl in
    split_at_old (raise tree q) raised_forest q tree.root n left right can tree.root (lifted forest.top q) other (raised_root tree forest q)
    ∙ ap Some (root_is (tree.root == (raise tree q).root) (tree.root == tree.root) (q == q) (eq-eqb tree.root (raise tree q).root (sym (raised_is tree forest q))) (eq-eqb tree.root tree.root refl) (eq-eqb q q refl) (counter (raise tree q)) (raised_counter tree forest q ∙ counter_is tree forest))
  where
    other_root : (b : Bool) → (q == tree.root) ≡ b → b ≡ false
    other_root false is = refl
    other_root true is = let there : page_at tree q ≡ Some forest.top = subst (λ (z : ℕ). page_at tree z ≡ Some forest.top) (sym (eqb-true q tree.root is)) forest.rooted in absurd (let no : ◌≡◌ {A = Option Node} None (Some forest.top) = sym free ∙ there in cc)

    root_is : (a b c : Bool) → a ≡ true → b ≡ true → c ≡ true → (s : ℕ) → s ≡ forest.top.ssn
        → ◌≡◌ {A = Node} (record { level = suc forest.top.level; ssn = cond a (suc s) forest.top.ssn; next = None; entries = (record { b = cond c (least left) (least forest.top.entries); to = (entry_for (least left) q).to }) ∷ ([] ++ cond b (entry_for (least right) n ∷ []) []) }) (new_root forest.top q n left right)
    root_is true true true ta tb tc s same = λ i. record { level = suc forest.top.level; ssn = suc (same i); next = None; entries = entry_for (least left) q ∷ entry_for (least right) n ∷ [] }
    root_is true true false ta tb tc s same = cc
    root_is true false c ta tb tc s same = cc
    root_is false b c ta tb tc s same = cc
