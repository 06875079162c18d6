-- A plan is settled on the tree from the page at hand up: what the pages of it and of those above it are, whether it is divided,
-- whole, or the root.
use Rattle.std.proofs.Common.{◌≡◌, inl, inr, ℕ, zero, suc, ◌+◌, ◌<◌, ◌≤◌, ◌==◌, Bool, true, false, cond, Option, Some, None, List, [], ◌∷◌, ◌++◌, length, map, refl, sym, ◌∙◌, ap, subst, arith, eqb-true}
use Rattle.std.specs.Option.{option_map}
use Rattle.isp_base.specs.Lists.{Has, times}
use Rattle.isp_base.specs.declared.page_no.PageNo.{PageNo}
use Rattle.isp_format.specs.Control.{IsFanout}
use Rattle.isp_mbr.specs.Corners.{Corners}
use Rattle.isp_forest.specs.declared.entry.Entry.{Entry}
use Rattle.isp_forest.specs.declared.entry.To.{To}
use Rattle.isp_forest.specs.declared.entry.To.TheVariants.{Child}
use Rattle.isp_forest.specs.Attach.{box_of}
use Rattle.isp_forest.specs.Forest.{Forest}
use Rattle.isp_forest.specs.Place.{CanRaise, CanSplit, Division, IsFree, relieve}
use Rattle.isp_forest.specs.Steps.{entry_for, put, raise, split}
use Rattle.isp_forest.specs.Tree.{Node, Tree, counter, least, numbers, page_at, page_in}
use Rattle.isp_laws.proofs.ForestLaws.{counter_is, named_not_root, same_page}
use Rattle.isp_laws.proofs.ListLaws.{times-append, times-same}
use Rattle.isp_laws.proofs.PageLaws.{numbers-append, numbers-put, page_in-put_other, put_new, times_free}
use Rattle.isp_laws.proofs.PlaceLaws.{can_raise, raised_page}
use Rattle.isp_laws.proofs.RaiseLaws.{apart, lifted, made, moved, raise_keeps, turned}
use Rattle.isp_laws.proofs.SplitLaws.{counter_grows, numbered_split, round, split_is, split_keeps}
use Rattle.isp_rnode.specs.Nodes.{link_of}
use Rattle.isp_rplan.specs.Divisions.{AreNew, division, division_page, division_root, divisions, known_after, needs, news_after, number_of, page_numbers, pages_needed, raised_to, stays_of}
use Rattle.isp_rplan.specs.Plans.{AreDivided, AreRound, AreWhole, IsPlan, carry_of, carry_up, known, moves_of, with_carry}
use Rattle.isp_rplan.specs.declared.steps.Carry.{Carry}
use Rattle.isp_rplan.specs.declared.steps.Carry.TheVariants.{Divided, Grown}
use Rattle.isp_rplan.specs.declared.steps.Moves.{Moves}
use Rattle.isp_rplan.specs.declared.steps.NodeHead.{NodeHead}
use Rattle.isp_rplan.specs.declared.steps.PathPage.{PathPage}
use Rattle.isp_rplan.specs.declared.steps.Planned.{Planned}
use Rattle.isp_rplan.proofs.DivideLaws.{fewer_new, none_above, others_differ, some_page, stays_whole}
use Rattle.isp_rplan.proofs.KnownLaws.{least_known}
use Rattle.isp_rplan.proofs.RootLaws.{can_divide, divided_n, divided_q, divided_root, raised_counter, raised_is, raised_other}
use Rattle.isp_rplan.proofs.StepLaws.{AllHave, AreUp, IsUp, can_split, divided_up, hand_known, other_entries, other_page, split_at, split_at_n, split_at_o, split_at_old, split_free, splitting, whole_known, whole_up}
use Rattle.isp_rsettle.specs.declared.outcome.Parted.{Parted}
use Rattle.isp_rsettle.specs.declared.outcome.Raised.{Raised}
use Rattle.isp_rsettle.specs.Placed.{AreParted, IsParted, IsRaised, pages_taken}
use Rattle.isp_rsettle.specs.Settling.{counter_after, left_page, node_with, part, part_page, part_root, parts, raised, raised_root, right_page, settled, settled_page, settled_root, whole_page}
use Rattle.isp_rsettle.proofs.PartLaws.{divided_parts, numbered, top_page, whole_parts}

-- ---- pages put before others

pub free_of_times : (list : List (ℕ × Node)) (x : ℕ) → times x (numbers list) ≡ 0 → page_in list x ≡ None
free_of_times [] x none = refl
free_of_times (p ∷ list) x none = by (p.0 == x) none (free_of_times list x)
  where
    by : (t : Bool) → cond t 1 0 + times x (numbers list) ≡ 0 → (times x (numbers list) ≡ 0 → page_in list x ≡ None) → ◌≡◌ {A = Option Node} (cond t (Some p.1) (page_in list x)) None
    by true none again = absurd (omega (arith, none))
    by false none again = again (omega (arith, none))

pub behind : (list pages : List (ℕ × Node)) (x : ℕ) → page_in list x ≡ None → page_in (list ++ pages) x ≡ page_in pages x
behind [] pages x free = refl
behind (p ∷ list) pages x free = by (p.0 == x) free (behind list pages x)
  where
    by : (t : Bool) → ◌≡◌ {A = Option Node} (cond t (Some p.1) (page_in list x)) None → (page_in list x ≡ None → page_in (list ++ pages) x ≡ page_in pages x) → ◌≡◌ {A = Option Node} (cond t (Some p.1) (page_in (list ++ pages) x)) (page_in pages x)
    by true free again = absurd (let bad : ◌≡◌ {A = Option Node} (Some p.1) None = free in cc)
    by false free again = again free

pub before : (list pages others : List (ℕ × Node)) (x : ℕ) → (page_in list x ≡ None → page_in pages x ≡ page_in others x) → page_in (list ++ pages) x ≡ page_in (list ++ others) x
before [] pages others x same = same refl
before (p ∷ list) pages others x same = by (p.0 == x) same (before list pages others x)
  where
    by : (t : Bool) → (◌≡◌ {A = Option Node} (cond t (Some p.1) (page_in list x)) None → page_in pages x ≡ page_in others x)
        → ((page_in list x ≡ None → page_in pages x ≡ page_in others x) → page_in (list ++ pages) x ≡ page_in (list ++ others) x)
        → ◌≡◌ {A = Option Node} (cond t (Some p.1) (page_in (list ++ pages) x)) (cond t (Some p.1) (page_in (list ++ others) x))
    by true same again = refl
    by false same again = again same

-- a number that stands on a list is another one than one that doesn't
not_at : (a x : ℕ) (list : List ℕ) → 0 < times a list → times x list ≡ 0 → (a == x) ≡ false
not_at a x list some none = by (a == x) refl
  where
    by : (t : Bool) → (a == x) ≡ t → t ≡ false
    by false is = refl
    by true is = let there : 0 < times x list = subst (λ (z : ℕ). 0 < times z list) (eqb-true a x is) some in absurd (omega (arith, there, none))

-- ---- what comes of the pages from the one at hand up

pub record Rises (tree : Tree) (up news : List ℕ) (q : ℕ) (ds : List Division) (list : List (ℕ × Node)) (told : List Parted) (top : Option Raised) : Type 0 where
  pub pages : (x : ℕ) → page_at (relieve tree q up ds) x ≡ page_in (list ++ tree.pages) x
  pub all : (x : ℕ) → times x (numbers (relieve tree q up ds).pages) ≡ times x (numbers tree.pages) + times x news
  pub root : (relieve tree q up ds).root ≡ tree.root
  pub counted : counter (relieve tree q up ds) ≡ counter tree + length ds
  pub taken : pages_taken q up ds ≡ news
  pub parted : AreParted q up ds told
  pub raises : IsRaised tree q up ds top

-- nothing is divided
rests : (tree : Tree) (up : List ℕ) (q : ℕ) → Rises tree up [] q [] [] [] None
rests tree up q = record {
  pages = λ x. refl;
  all = λ x. omega arith;
  root = refl;
  counted = omega arith;
  taken = refl;
  parted = refl;
  raises = refl;
}

-- a page that is written as it stands
whole_rises : (tree : Tree) (up : List ℕ) (o : ℕ) (node : Node) (news : List ℕ) (q : ℕ) (list : List (ℕ × Node)) (told : List Parted) (top : Option Raised)
    → page_at tree o ≡ Some node → Rises tree up news q [] list told top → Rises tree (o ∷ up) news q [] ((o, node) ∷ list) told top
whole_rises tree up o node news q list told top there r = record {
  pages = λ x. by x (o == x) refl;
  all = r.all;
  root = r.root;
  counted = r.counted;
  taken = r.taken;
  parted = r.parted;
  raises = r.raises;
}
  where
    by : (x : ℕ) (t : Bool) → (o == x) ≡ t → ◌≡◌ {A = Option Node} (page_at tree x) (cond t (Some node) (page_in (list ++ tree.pages) x))
    by x true is = subst (λ (z : ℕ). page_at tree z ≡ Some node) (eqb-true o x is) there
    by x false is = r.pages x

-- ---- a split

module _ (tree : Tree) (forest : Forest tree) (o above n : ℕ) (left right : List Entry) (can : CanSplit tree o above left right n) where
  abbrev parted_tree : Tree
  parted_tree = split tree o above left right n

  pub split_root : parted_tree.root ≡ tree.root
  split_root = ap (λ (t : Tree). t.root) (split_is (splitting tree forest o above n left right can))

  pub split_counter : counter parted_tree ≡ suc (counter tree)
  split_counter = ap counter (split_is (splitting tree forest o above n left right can)) ∙ counter_grows (splitting tree forest o above n left right can)

  pub split_numbers : (x : ℕ) → times x (numbers parted_tree.pages) ≡ times x (numbers tree.pages) + times x (n ∷ [])
  split_numbers x = ap (λ (t : Tree). times x (numbers t.pages)) (split_is (splitting tree forest o above n left right can)) ∙ numbered_split (splitting tree forest o above n left right can) x

  round_same : (x : ℕ) (page : Node) → page_at tree x ≡ Some page → (above == x) ≡ false → (tree.root == x) ≡ false → round (splitting tree forest o above n left right can) x page ≡ page
  round_same x page there not_above not_root =
      let entries = other_entries tree forest o above n left right can x page there not_above in
      let ssn : ◌≡◌ {A = ℕ} (cond (x == tree.root) (suc (counter tree)) page.ssn) page.ssn = ap (λ (t : Bool). let k : ℕ = cond t (suc (counter tree)) page.ssn in k) (turned tree.root x not_root) in
      λ i. record { level = page.level; ssn = ssn i; next = page.next; entries = entries i }

  -- a page that doesn't take part
  pub split_same : (x : ℕ) → (o == x) ≡ false → (n == x) ≡ false → (above == x) ≡ false → (tree.root == x) ≡ false → page_at parted_tree x ≡ page_at tree x
  split_same x not_o not_n not_above not_root = by (page_at tree x) refl
    where
      by : (p : Option Node) → page_at tree x ≡ p → page_at parted_tree x ≡ page_at tree x
      by None free = split_free tree forest o above n left right can x not_n free ∙ sym free
      by (Some page) there = split_at_old tree forest o above n left right can x page not_o there ∙ ap Some (round_same x page there not_above not_root) ∙ sym there

  pub divided_rises : (up news : List ℕ) (q : ℕ) (ds : List Division) (list : List (ℕ × Node)) (p : Parted) (told : List Parted) (top : Option Raised) (keeps goes : Node)
      → page_at parted_tree o ≡ Some keeps → page_at parted_tree n ≡ Some goes
      → ((x : ℕ) → times x (numbers list) ≡ times x (above ∷ up) + times x news) → 0 < times tree.root (above ∷ up)
      → times o (numbers list) ≡ 0 → times n (numbers list) ≡ 0
      → IsParted o (record { page = n; left = left; right = right }) p → Rises parted_tree (above ∷ up) news q ds list told top
      → Rises tree (o ∷ above ∷ up) (n ∷ news) q ((record { page = n; left = left; right = right }) ∷ ds) ((o, keeps) ∷ (n, goes) ∷ list) (p ∷ told) top
  divided_rises up news q ds list p told top keeps goes at_o at_n counted some_root no_o no_n is r = record {
    pages = λ x. by x (o == x) (n == x) refl refl;
    all = λ x. (let a = r.all x in let s = split_numbers x in omega (arith, a, s));
    root = r.root ∙ split_root;
    counted = let k = r.counted in let s = split_counter in omega (arith, k, s);
    taken = ap (λ (l : List ℕ). n ∷ l) r.taken;
    parted = (is, r.parted);
    raises = r.raises;
  }
    where
      here : (x : ℕ) → times x (numbers list) ≡ 0 → page_at (relieve parted_tree q (above ∷ up) ds) x ≡ page_at parted_tree x
      here x none = r.pages x ∙ behind list parted_tree.pages x (free_of_times list x none)

      some_above : 0 < times above (above ∷ up)
      some_above = let same = times-same above up in omega (arith, same)

      by : (x : ℕ) (s t : Bool) → (o == x) ≡ s → (n == x) ≡ t
          → ◌≡◌ {A = Option Node} (page_at (relieve parted_tree q (above ∷ up) ds) x) (cond s (Some keeps) (cond t (Some goes) (page_in (list ++ tree.pages) x)))
      by x true t is_o is_n = subst (λ (z : ℕ). page_at (relieve parted_tree q (above ∷ up) ds) z ≡ Some keeps) (eqb-true o x is_o) (here o no_o ∙ at_o)
      by x false true is_o is_n = subst (λ (z : ℕ). page_at (relieve parted_tree q (above ∷ up) ds) z ≡ Some goes) (eqb-true n x is_n) (here n no_n ∙ at_n)
      by x false false is_o is_n = r.pages x ∙ before list parted_tree.pages tree.pages x (λ free. (
          let none : times x (numbers list) ≡ 0 = times_free list x free in
          let other : times x (above ∷ up) ≡ 0 = (let k = counted x in omega (arith, k, none)) in
          split_same x is_o is_n (not_at above x (above ∷ up) some_above other) (not_at tree.root x (above ∷ up) some_root other)))

-- ---- the root is divided

raise_numbers : (tree : Tree) (forest : Forest tree) (q : ℕ) → IsFree tree q → (x : ℕ) → times x (numbers (raise tree q).pages) ≡ times x (numbers tree.pages) + times x (q ∷ [])
raise_numbers tree forest q free x =
    let pages : List (ℕ × Node) = put q (moved forest.top) tree.pages in
    let other : (q == tree.root) ≡ false = turned tree.root q (apart tree.pages tree.root q forest.top forest.rooted free) in
    let there : page_in (put q (moved forest.top) tree.pages) tree.root ≡ Some forest.top = page_in-put_other q tree.root (moved forest.top) tree.pages other ∙ forest.rooted in
    ap (λ (t : Tree). times x (numbers t.pages)) (made tree q forest.top forest.rooted)
    ∙ ap (times x) (numbers-put tree.root (lifted forest.top q) forest.top (put q (moved forest.top) tree.pages) there)
    ∙ ap (λ (m : List (ℕ × Node)). times x (numbers m)) (put_new q (moved forest.top) tree.pages free)
    ∙ ap (times x) (numbers-append tree.pages ((q, moved forest.top) ∷ []))
    ∙ times-append x (numbers tree.pages) (q ∷ [])

root_rises : (tree : Tree) (forest : Forest tree) (q : PageNo) (n : ℕ) (left right : List Entry) → IsFree tree q.0 → (can : CanSplit (raise tree q.0) q.0 tree.root left right n)
    → (p : Parted) (a b e : Node) (box : Corners)
    → page_at (split (raise tree q.0) q.0 tree.root left right n) q.0 ≡ Some a → page_at (split (raise tree q.0) q.0 tree.root left right n) n ≡ Some b → page_at (split (raise tree q.0) q.0 tree.root left right n) tree.root ≡ Some e
    → IsParted q.0 (record { page = n; left = left; right = right }) p → box ≡ box_of (page_at tree tree.root)
    → Rises tree (tree.root ∷ []) (q.0 ∷ n ∷ []) q.0 ((record { page = n; left = left; right = right }) ∷ []) ((q.0, a) ∷ (n, b) ∷ (tree.root, e) ∷ []) (p ∷ []) (Some (record { page = q; round = box }))
root_rises tree forest q n left right free can p a b e box at_q at_n at_root is round_is = record {
  pages = λ x. by x (q.0 == x) (n == x) (tree.root == x) refl refl refl;
  all = λ x. (let s = split_numbers (raise tree q.0) lifted_forest q.0 tree.root n left right can x in let r = raise_numbers tree forest q.0 free x in omega (arith, s, r));
  root = split_root (raise tree q.0) lifted_forest q.0 tree.root n left right can ∙ raised_is tree forest q.0;
  counted = let s = split_counter (raise tree q.0) lifted_forest q.0 tree.root n left right can in let r = raised_counter tree forest q.0 in omega (arith, s, r);
  taken = refl;
  parted = (is, refl, refl);
  raises = ap (λ (c : Corners). Some (record { page = q; round = c })) round_is;
}
  where
    lifted_forest : Forest (raise tree q.0)
    lifted_forest = raise_keeps tree forest q.0 (can_raise tree forest q.0 tree.root n left right free can)

    by : (x : ℕ) (s t u : Bool) → (q.0 == x) ≡ s → (n == x) ≡ t → (tree.root == x) ≡ u
        → ◌≡◌ {A = Option Node} (page_at (split (raise tree q.0) q.0 tree.root left right n) x) (cond s (Some a) (cond t (Some b) (cond u (Some e) (page_in tree.pages x))))
    by x true t u is_q is_n is_root = subst (λ (z : ℕ). page_at (split (raise tree q.0) q.0 tree.root left right n) z ≡ Some a) (eqb-true q.0 x is_q) at_q
    by x false true u is_q is_n is_root = subst (λ (z : ℕ). page_at (split (raise tree q.0) q.0 tree.root left right n) z ≡ Some b) (eqb-true n x is_n) at_n
    by x false false true is_q is_n is_root = subst (λ (z : ℕ). page_at (split (raise tree q.0) q.0 tree.root left right n) z ≡ Some e) (eqb-true tree.root x is_root) at_root
    by x false false false is_q is_n is_root =
        split_same (raise tree q.0) lifted_forest q.0 tree.root n left right can x is_q is_n is_root (subst (λ (r : ℕ). (r == x) ≡ false) (sym (raised_is tree forest q.0)) is_root)
        ∙ raised_other tree forest q.0 x is_q is_root

-- ---- what is known at a step

-- a page of the tree has this header, but for the number of the root
pub record HasHead (tree : Tree) (p : PathPage) : Type 0 where
  pub node : Node
  pub there : page_at tree p.page.0 ≡ Some node
  pub level : p.head.level ≡ node.level
  pub next : link_of p.head.next.0 ≡ node.next
  pub ssn : (p.page.0 == tree.root) ≡ false → p.head.ssn ≡ node.ssn

pub record CanRise (fanout : ℕ) (b : Corners) (tree : Tree) (carry : Carry) (to : To) (page : PathPage) (pages : List PathPage) (steps : List Planned) (news : List PageNo) : Type 0 where
  pub forest : Forest tree
  pub up : AreUp tree b carry to page pages
  pub few : (p : PathPage) → Has (page ∷ pages) p → length p.entries.items ≤ fanout
  pub heads : (p : PathPage) → Has (page ∷ pages) p → HasHead tree p
  pub plan : IsPlan fanout b (page ∷ pages) carry steps
  pub new : AreNew tree news
  pub count : length news ≡ pages_needed steps

-- what is to be shown of the pages from one up
abbrev pub AllRise : ℕ → Corners → PathPage → List PathPage → List Planned → Type 0
AllRise fanout b page pages steps =
    (tree : Tree) (carry : Carry) (to : To) (news : List PageNo) → CanRise fanout b tree carry to page pages steps news
    → Rises tree (page_numbers (page ∷ pages)) (map number_of news) (raised_to steps news) (divisions to steps news) (settled (counter tree) to steps news) (parts steps news) (raised steps news)

abbrev RisesBy : (tree : Tree) (up : List ℕ) (to : To) (s t : Planned) (steps : List Planned) (news : List PageNo) → Option (List Entry) → Type 0
RisesBy tree up to s t steps news m =
    Rises tree up (map number_of news) (raised_to (t ∷ steps) (news_after m news))
    (division_page to s m news ++ divisions (known_after to m news) (t ∷ steps) (news_after m news))
    (settled_page (counter tree) to s m news ++ settled (counter_after (counter tree) m) (known_after to m news) (t ∷ steps) (news_after m news))
    (part_page s m news ++ parts (t ∷ steps) (news_after m news))
    (raised (t ∷ steps) (news_after m news))

-- a header and entries that are those of a node
node_is : (a : Node) (h : NodeHead) (entries : List Entry) → h.level ≡ a.level → h.ssn ≡ a.ssn → link_of h.next.0 ≡ a.next → entries ≡ a.entries → node_with h entries ≡ a
node_is a h entries level ssn next all = λ i. record { level = level i; ssn = ssn i; next = next i; entries = all i }

link_some : (n : ℕ) → (n == 0) ≡ false → link_of n ≡ Some n
link_some zero some = absurd (let bad : true ≡ false = some in cc)
link_some (suc n) some = refl

-- the page at hand, which isn't the root, with other entries
hand_node : (fanout : ℕ) (b : Corners) (tree : Tree) (carry : Carry) (to : To) (page next : PathPage) (pages : List PathPage) (steps : List Planned) (news : List PageNo)
    → (c : CanRise fanout b tree carry to page (next ∷ pages) steps news) → (s : Planned) → s.head ≡ page.head → (entries all : List Entry) → entries ≡ all → node_with s.head entries ≡ record c.up.hand.node { entries = all }
hand_node fanout b tree carry to page next pages steps news c s head_is entries all same =
    let h : HasHead tree page = c.heads page (inl refl) in
    let node : h.node ≡ c.up.hand.node = same_page (page_at tree page.page.0) h.node c.up.hand.node h.there c.up.hand.there in
    let inner : (page.page.0 == tree.root) ≡ false = named_not_root tree c.forest next.page.0 page.page.0 c.up.up.0.0 c.up.up.0.1 in
    node_is (record c.up.hand.node { entries = all }) s.head entries
    (ap (λ (x : NodeHead). x.level) head_is ∙ h.level ∙ ap (λ (x : Node). x.level) node)
    (ap (λ (x : NodeHead). x.ssn) head_is ∙ h.ssn inner ∙ ap (λ (x : Node). x.ssn) node)
    (ap (λ (x : NodeHead). link_of x.next.0) head_is ∙ h.next ∙ ap (λ (x : Node). x.next) node)
    same

-- ---- a whole page below the root

whole_case : (fanout : ℕ) (b : Corners) (tree : Tree) (carry : Carry) (to : To) (page next : PathPage) (pages : List PathPage) (s t : Planned) (steps : List Planned) (news : List PageNo)
    → CanRise fanout b tree carry to page (next ∷ pages) (s ∷ t ∷ steps) news → moves_of s ≡ None → AllRise fanout b next pages (t ∷ steps)
    → RisesBy tree (page_numbers (page ∷ next ∷ pages)) to s t steps news None
whole_case fanout b tree carry to page next pages s t steps news c none again =
    let all = with_carry carry page.entries.items in
    let carry_is : carry_of b s ≡ Grown page.page b = ap (carry_up b s.page s.stays.items) none ∙ ap (λ (p : PageNo). Grown p b) c.plan.0.page_is in
    let plan : IsPlan fanout b (next ∷ pages) (Grown page.page b) (t ∷ steps) = subst (λ (x : Carry). IsPlan fanout b (next ∷ pages) x (t ∷ steps)) carry_is c.plan.1 in
    let none_needed : needs (moves_of s) ≡ 0 = ap needs none in
    let also : moves_of t ≡ None = stays_whole fanout next page.page b t (c.few next (inr (inl refl))) plan.0 in
    let empty : divisions to (t ∷ steps) news ≡ [] = none_above fanout b to t pages steps news (λ p h. c.few p (inr (inr h))) also plan.1 in
    let w : AreWhole fanout all s.stays.items = whole_parts fanout all s.stays.items (moves_of s) c.plan.0.parts none in
    let entries : stays_of to s ≡ c.up.hand.node.entries = whole_known tree c.forest fanout b carry to page (next ∷ pages) s.stays.items c.up w in
    let node : whole_page to s ≡ c.up.hand.node = hand_node fanout b tree carry to page next pages (s ∷ t ∷ steps) news c s c.plan.0.head_is (stays_of to s) c.up.hand.node.entries entries in
    let shown : ◌≡◌ {A = ℕ × Node} (page.page.0, c.up.hand.node) (s.page.0, whole_page to s) = λ i. ((sym c.plan.0.page_is i).0, sym node i) in
    let rest = again tree (Grown page.page b) to news (record {
      forest = c.forest;
      up = whole_up tree b carry to page next pages c.up;
      few = λ p h. c.few p (inr h);
      heads = λ p h. c.heads p (inr h);
      plan = plan;
      new = c.new;
      count = (let k = c.count in omega (arith, k, none_needed));
    }) in
    let bare = subst (λ (ds : List Division). Rises tree (page_numbers (next ∷ pages)) (map number_of news) (raised_to (t ∷ steps) news) ds (settled (counter tree) to (t ∷ steps) news) (parts (t ∷ steps) news) (raised (t ∷ steps) news)) empty rest in
    let here = whole_rises tree (page_numbers (next ∷ pages)) page.page.0 c.up.hand.node (map number_of news) (raised_to (t ∷ steps) news) (settled (counter tree) to (t ∷ steps) news) (parts (t ∷ steps) news) (raised (t ∷ steps) news) c.up.hand.there bare in
    subst (λ (w : ℕ × Node). Rises tree (page_numbers (page ∷ next ∷ pages)) (map number_of news) (raised_to (t ∷ steps) news) (divisions to (t ∷ steps) news) (w ∷ settled (counter tree) to (t ∷ steps) news) (parts (t ∷ steps) news) (raised (t ∷ steps) news))
    shown
    (subst (λ (ds : List Division). Rises tree (page_numbers (page ∷ next ∷ pages)) (map number_of news) (raised_to (t ∷ steps) news) ds ((page.page.0, c.up.hand.node) ∷ settled (counter tree) to (t ∷ steps) news) (parts (t ∷ steps) news) (raised (t ∷ steps) news)) (sym empty) here)

-- ---- a page below the root is divided

-- the new pages are none of the path
free_not_up : (tree : Tree) (b : Corners) (below : PageNo) (pages : List PathPage) (n : ℕ) → AllHave tree b below pages → IsFree tree n → times n (page_numbers pages) ≡ 0
free_not_up tree b below [] n all free = refl
free_not_up tree b below (p ∷ pages) n all free =
    let other : (p.page.0 == n) ≡ false = apart tree.pages p.page.0 n all.0.node all.0.there free in
    let zero_times : ◌≡◌ {A = ℕ} (cond (p.page.0 == n) 1 0) 0 = ap (λ (t : Bool). let k : ℕ = cond t 1 0 in k) other in
    let rest = free_not_up tree b p.page pages n all.1 free in
    omega (arith, zero_times, rest)

there_not_new : (tree : Tree) (o : ℕ) (node : Node) (news : List PageNo) → page_at tree o ≡ Some node → ((x : PageNo) → Has news x → IsFree tree x.0) → times o (map number_of news) ≡ 0
there_not_new tree o node [] there free = refl
there_not_new tree o node (x ∷ news) there free =
    let other : (x.0 == o) ≡ false = turned o x.0 (apart tree.pages o x.0 node there (free x (inl refl))) in
    let zero_times : ◌≡◌ {A = ℕ} (cond (x.0 == o) 1 0) 0 = ap (λ (t : Bool). let k : ℕ = cond t 1 0 in k) other in
    let rest = there_not_new tree o node news there (λ y h. free y (inr h)) in
    omega (arith, zero_times, rest)

root_up : (tree : Tree) (up : List ℕ) → IsUp tree up → 0 < times tree.root up
root_up tree [] is = absurd is
root_up tree (o ∷ []) is = subst (λ (z : ℕ). 0 < times z (o ∷ [])) is (let same = times-same o [] in omega (arith, same))
root_up tree (o ∷ above ∷ up) is = let later = root_up tree (above ∷ up) is.1 in omega (arith, later)

-- the headers of the pages above stay, but for the root's number
heads_still : (tree : Tree) (forest : Forest tree) (o above n : ℕ) (left right : List Entry) (can : CanSplit tree o above left right n) (pages : List PathPage) → ((q : ℕ) → times q (o ∷ page_numbers pages) ≤ 1)
    → (p : PathPage) → Has pages p → HasHead tree p → HasHead (split tree o above left right n) p
heads_still tree forest o above n left right can pages once p has h =
    let same_root : (split tree o above left right n).root ≡ tree.root = split_root tree forest o above n left right can in
    record {
      node = round (splitting tree forest o above n left right can) p.page.0 h.node;
      there = split_at_old tree forest o above n left right can p.page.0 h.node (other_page o pages p once has) h.there;
      level = h.level;
      next = h.next;
      ssn = λ inner. (
          let not_root : (p.page.0 == tree.root) ≡ false = subst (λ (r : ℕ). (p.page.0 == r) ≡ false) same_root inner in
          h.ssn not_root ∙ sym (ap (λ (t : Bool). let k : ℕ = cond t (suc (counter tree)) h.node.ssn in k) not_root));
    }

divided_case : (fanout : ℕ) → IsFanout fanout → (b : Corners) (tree : Tree) (carry : Carry) (to : To) (page next : PathPage) (pages : List PathPage) (s t : Planned) (steps : List Planned) (n : PageNo) (news : List PageNo) (moves : List Entry)
    → CanRise fanout b tree carry to page (next ∷ pages) (s ∷ t ∷ steps) (n ∷ news) → moves_of s ≡ Some moves → AllRise fanout b next pages (t ∷ steps)
    → RisesBy tree (page_numbers (page ∷ next ∷ pages)) to s t steps (n ∷ news) (Some moves)
divided_case fanout fan b tree carry to page next pages s t steps n news moves c is again =
    let all = with_carry carry page.entries.items in
    let o = page.page.0 in
    let above = next.page.0 in
    let stays = s.stays.items in
    let left = map (known to) stays in
    let right = map (known to) moves in
    let forest = c.forest in
    let u = c.up in
    let one : needs (moves_of s) ≡ 1 = ap needs is in
    let count : length news ≡ pages_needed (t ∷ steps) = (let k = c.count in omega (arith, k, one)) in
    let d : AreDivided fanout all stays moves = divided_parts fanout all stays moves (moves_of s) c.plan.0.parts is in
    let some : (n.0 == 0) ≡ false = some_page tree n news c.new in
    let free : IsFree tree n.0 = c.new.free n (inl refl) in
    let can : CanSplit tree o above left right n.0 = can_split tree forest fanout fan b carry to page next pages stays moves n.0 u d free in
    let carry_is : carry_of b s ≡ Divided page.page (least stays) (least moves) = ap (carry_up b s.page stays) is ∙ ap (λ (p : PageNo). Divided p (least stays) (least moves)) c.plan.0.page_is in
    let plan : IsPlan fanout b (next ∷ pages) (Divided page.page (least stays) (least moves)) (t ∷ steps) = subst (λ (x : Carry). IsPlan fanout b (next ∷ pages) x (t ∷ steps)) carry_is c.plan.1 in
    let first = again (split_at tree page next to stays moves n.0) (Divided page.page (least stays) (least moves)) (Child n) news (record {
      forest = split_keeps tree o above left right n.0 forest can;
      up = divided_up tree forest fanout fan b carry to page next pages stays moves n u d free some;
      few = λ p h. c.few p (inr h);
      heads = λ p h. heads_still tree forest o above n.0 left right can (next ∷ pages) u.once p h (c.heads p (inr h));
      plan = plan;
      new = record {
        free = λ x h. split_free tree forest o above n.0 left right can x.0 (others_differ tree n news c.new x h) (c.new.free x (inr h));
        once = λ q. fewer_new q n.0 (map number_of news) (c.new.once q);
      };
      count = count;
    }) in
    let rest = subst (λ (k : ℕ). Rises (split tree o above left right n.0) (page_numbers (next ∷ pages)) (map number_of news) (raised_to (t ∷ steps) news) (divisions (Child n) (t ∷ steps) news) (settled k (Child n) (t ∷ steps) news) (parts (t ∷ steps) news) (raised (t ∷ steps) news))
    (split_counter tree forest o above n.0 left right can) first in
    let counted = numbered fanout b (next ∷ pages) (Divided page.page (least stays) (least moves)) (t ∷ steps) (suc (counter tree)) (Child n) news plan count in
    let same : can.page ≡ u.hand.node = same_page (page_at tree o) can.page u.hand.node can.there u.hand.there in
    let h : HasHead tree page = c.heads page (inl refl) in
    let node : h.node ≡ u.hand.node = same_page (page_at tree o) h.node u.hand.node h.there u.hand.there in
    let level : can.page.level ≡ s.head.level = ap (λ (x : Node). x.level) (same ∙ sym node) ∙ sym h.level ∙ ap (λ (x : NodeHead). x.level) (sym c.plan.0.head_is) in
    let keeps : page_at (split tree o above left right n.0) o ≡ Some (left_page (counter tree) to s n) =
    split_at_o tree forest o above n.0 left right can ∙ (λ i. Some (record { level = level i; ssn = suc (counter tree); next = sym (link_some n.0 some) i; entries = left })) in
    let moved_node : right_page to s moves ≡ record u.hand.node { entries = right } = hand_node fanout b tree carry to page next pages (s ∷ t ∷ steps) (n ∷ news) c s c.plan.0.head_is right right refl in
    let goes : page_at (split tree o above left right n.0) n.0 ≡ Some (right_page to s moves) =
    split_at_n tree forest o above n.0 left right can ∙ (λ i. Some (record (same i) { entries = right })) ∙ ap Some (sym moved_node) in
    let no_o : times o (numbers (settled (suc (counter tree)) (Child n) (t ∷ steps) news)) ≡ 0 =
    (let k = counted o in let once = u.once o in let here = times-same o (above ∷ page_numbers pages) in let fresh = there_not_new tree o u.hand.node news u.hand.there (λ x h. c.new.free x (inr h)) in omega (arith, k, once, here, fresh)) in
    let no_n : times n.0 (numbers (settled (suc (counter tree)) (Child n) (t ∷ steps) news)) ≡ 0 =
    (let k = counted n.0 in let old = free_not_up tree b page.page (next ∷ pages) n.0 u.others free in let once = c.new.once n.0 in let here = times-same n.0 (map number_of news) in omega (arith, k, old, once, here)) in
    let told : IsParted o (division to s moves n) (part s.page s moves n) = record {
      old_is = ap (λ (p : PageNo). p.0) c.plan.0.page_is;
      new_is = refl;
      old_box = sym (least_known to stays);
      new_box = sym (least_known to moves);
    } in
    let here = divided_rises tree forest o above n.0 left right can (page_numbers pages) (map number_of news) (raised_to (t ∷ steps) news) (divisions (Child n) (t ∷ steps) news) (settled (suc (counter tree)) (Child n) (t ∷ steps) news)
    (part s.page s moves n) (parts (t ∷ steps) news) (raised (t ∷ steps) news) (left_page (counter tree) to s n) (right_page to s moves) keeps goes counted (root_up tree (above ∷ page_numbers pages) u.up.1) no_o no_n told rest in
    subst (λ (x : ℕ). Rises tree (page_numbers (page ∷ next ∷ pages)) (map number_of (n ∷ news)) (raised_to (t ∷ steps) news) (division to s moves n ∷ divisions (Child n) (t ∷ steps) news)
    ((x, left_page (counter tree) to s n) ∷ (n.0, right_page to s moves) ∷ settled (suc (counter tree)) (Child n) (t ∷ steps) news) (part s.page s moves n ∷ parts (t ∷ steps) news) (raised (t ∷ steps) news))
    (ap (λ (p : PageNo). p.0) (sym c.plan.0.page_is)) here

inner_case : (fanout : ℕ) → IsFanout fanout → (b : Corners) (tree : Tree) (carry : Carry) (to : To) (page next : PathPage) (pages : List PathPage) (s t : Planned) (steps : List Planned) (news : List PageNo) (m : Option (List Entry))
    → CanRise fanout b tree carry to page (next ∷ pages) (s ∷ t ∷ steps) news → moves_of s ≡ m → AllRise fanout b next pages (t ∷ steps)
    → RisesBy tree (page_numbers (page ∷ next ∷ pages)) to s t steps news m
inner_case fanout fan b tree carry to page next pages s t steps news None c is again = whole_case fanout b tree carry to page next pages s t steps news c is again
inner_case fanout fan b tree carry to page next pages s t steps [] (Some moves) c is again = let one : needs (moves_of s) ≡ 1 = ap needs is in absurd (let k = c.count in omega (arith, k, one))
inner_case fanout fan b tree carry to page next pages s t steps (n ∷ news) (Some moves) c is again = divided_case fanout fan b tree carry to page next pages s t steps n news moves c is again

-- ---- the root

abbrev list_of : Option Moves → Option (List Entry)
list_of m = option_map (λ (m : Moves). m.entries.items) m

abbrev RisesAtRoot : (tree : Tree) (o : ℕ) (to : To) (s : Planned) (news : List PageNo) → Option Moves → Type 0
RisesAtRoot tree o to s news m =
    Rises tree (o ∷ []) (map number_of news) (raised_to (s ∷ []) news) (division_root to s (list_of m) news) (settled_root (counter tree) to s (list_of m) news) (part_root s (list_of m) news) (raised_root m news)

root_whole : (fanout : ℕ) (b : Corners) (tree : Tree) (carry : Carry) (to : To) (page : PathPage) (s : Planned) → CanRise fanout b tree carry to page [] (s ∷ []) [] → s.moves ≡ None → RisesAtRoot tree page.page.0 to s [] None
root_whole fanout b tree carry to page s c none =
    let all = with_carry carry page.entries.items in
    let w : AreWhole fanout all s.stays.items = whole_parts fanout all s.stays.items (moves_of s) c.plan.0.parts (ap list_of none) in
    let entries : stays_of to s ≡ c.up.hand.node.entries = whole_known tree c.forest fanout b carry to page [] s.stays.items c.up w in
    let h : HasHead tree page = c.heads page (inl refl) in
    let same : h.node ≡ c.up.hand.node = same_page (page_at tree page.page.0) h.node c.up.hand.node h.there c.up.hand.there in
    let at_root : page_at tree tree.root ≡ Some c.up.hand.node = subst (λ (q : ℕ). page_at tree q ≡ Some c.up.hand.node) c.up.up c.up.hand.there in
    let number : counter tree ≡ c.up.hand.node.ssn = ap ssn_in at_root in
    let node : record (whole_page to s) { ssn = counter tree } ≡ c.up.hand.node = λ i. record {
      level = (ap (λ (x : NodeHead). x.level) c.plan.0.head_is ∙ h.level ∙ ap (λ (x : Node). x.level) same) i;
      ssn = number i;
      next = (ap (λ (x : NodeHead). link_of x.next.0) c.plan.0.head_is ∙ h.next ∙ ap (λ (x : Node). x.next) same) i;
      entries = entries i;
    } in
    let shown : ◌≡◌ {A = ℕ × Node} (page.page.0, c.up.hand.node) (s.page.0, record (whole_page to s) { ssn = counter tree }) = λ i. ((sym c.plan.0.page_is i).0, sym node i) in
    subst (λ (w : ℕ × Node). Rises tree (page.page.0 ∷ []) [] 0 [] (w ∷ []) [] None) shown
    (whole_rises tree [] page.page.0 c.up.hand.node [] 0 [] [] None c.up.hand.there (rests tree [] 0))
  where
    ssn_in : Option Node → ℕ
    ssn_in None = 0
    ssn_in (Some page) = page.ssn

root_divided_case : (fanout : ℕ) → IsFanout fanout → (b : Corners) (tree : Tree) (carry : Carry) (to : To) (page : PathPage) (s : Planned) (q n : PageNo) (m : Moves)
    → CanRise fanout b tree carry to page [] (s ∷ []) (q ∷ n ∷ []) → s.moves ≡ Some m → RisesAtRoot tree page.page.0 to s (q ∷ n ∷ []) (Some m)
root_divided_case fanout fan b tree carry to page s q n m c is =
    let all = with_carry carry page.entries.items in
    let stays = s.stays.items in
    let moves = m.entries.items in
    let left = map (known to) stays in
    let right = map (known to) moves in
    let forest = c.forest in
    let u = c.up in
    let d : AreDivided fanout all stays moves = divided_parts fanout all stays moves (moves_of s) c.plan.0.parts (ap list_of is) in
    let free_q : IsFree tree q.0 = c.new.free q (inl refl) in
    let free_n : IsFree tree n.0 = c.new.free n (inr (inl refl)) in
    let differ : (q.0 == n.0) ≡ false = others_differ tree q (n ∷ []) c.new n (inl refl) in
    let some : (n.0 == 0) ≡ false = last_some in
    let can : CanSplit (raise tree q.0) q.0 tree.root left right n.0 = can_divide tree forest fanout fan b carry to page stays moves q.0 n.0 u d free_q free_n differ in
    let may : CanRaise tree q.0 = can_raise tree forest q.0 tree.root n.0 left right free_q can in
    let page_is : can.page ≡ moved forest.top = same_page (page_at (raise tree q.0) q.0) can.page (moved forest.top) can.there (raised_page tree forest q.0 free_q) in
    let h : HasHead tree page = c.heads page (inl refl) in
    let h_there : page_at tree tree.root ≡ Some h.node = subst (λ (x : ℕ). page_at tree x ≡ Some h.node) u.up h.there in
    let u_there : page_at tree tree.root ≡ Some u.hand.node = subst (λ (x : ℕ). page_at tree x ≡ Some u.hand.node) u.up u.hand.there in
    let top : h.node ≡ forest.top = same_page (page_at tree tree.root) h.node forest.top h_there forest.rooted in
    let level : forest.top.level ≡ s.head.level = ap (λ (x : Node). x.level) (sym top) ∙ sym h.level ∙ ap (λ (x : NodeHead). x.level) (sym c.plan.0.head_is) in
    let next : ◌≡◌ {A = Option ℕ} None (link_of s.head.next.0) = sym forest.alone ∙ ap (λ (x : Node). x.next) (sym top) ∙ sym h.next ∙ ap (λ (x : NodeHead). link_of x.next.0) (sym c.plan.0.head_is) in
    let number : forest.top.ssn ≡ counter tree = sym (counter_is tree forest) in
    let at_q : page_at (split (raise tree q.0) q.0 tree.root left right n.0) q.0 ≡ Some (left_page (counter tree) to s n) =
    divided_q tree forest q.0 n.0 left right may can page_is ∙ (λ i. Some (record { level = level i; ssn = suc (number i); next = sym (link_some n.0 some) i; entries = left })) in
    let at_n : page_at (split (raise tree q.0) q.0 tree.root left right n.0) n.0 ≡ Some (record (right_page to s moves) { ssn = counter tree }) =
    divided_n tree forest q.0 n.0 left right may can page_is ∙ (λ i. Some (record { level = level i; ssn = number i; next = next i; entries = right })) in
    let at_root : page_at (split (raise tree q.0) q.0 tree.root left right n.0) tree.root ≡ Some (top_page (counter tree) s moves q n) =
    divided_root tree forest q.0 n.0 left right may free_q can
    ∙ (λ i. Some (record { level = suc (level i); ssn = suc (number i); next = None; entries = entry_for (least_known to stays i) q.0 ∷ entry_for (least_known to moves i) n.0 ∷ [] })) in
    let told : IsParted q.0 (division to s moves n) (part q s moves n) = record {
      old_is = refl;
      new_is = refl;
      old_box = sym (least_known to stays);
      new_box = sym (least_known to moves);
    } in
    let around : m.round ≡ least all = subst (λ (x : Option Moves). AreRound all x) is c.plan.0.round in
    let box : m.round ≡ box_of (page_at tree tree.root) = around ∙ sym (least_known to all) ∙ ap least (hand_known tree forest b carry to page [] u) ∙ ap box_of (sym u_there) in
    let here = root_rises tree forest q n.0 left right free_q can (part q s moves n) (left_page (counter tree) to s n) (record (right_page to s moves) { ssn = counter tree }) (top_page (counter tree) s moves q n) m.round at_q at_n at_root told box in
    let placed = subst (λ (o : ℕ). Rises tree (o ∷ []) (q.0 ∷ n.0 ∷ []) q.0 (division to s moves n ∷ [])
    ((q.0, left_page (counter tree) to s n) ∷ (n.0, record (right_page to s moves) { ssn = counter tree }) ∷ (o, top_page (counter tree) s moves q n) ∷ []) (part q s moves n ∷ []) (Some (record { page = q; round = m.round })))
    (sym u.up) here in
    subst (λ (o : ℕ). Rises tree (page.page.0 ∷ []) (q.0 ∷ n.0 ∷ []) q.0 (division to s moves n ∷ [])
    ((q.0, left_page (counter tree) to s n) ∷ (n.0, record (right_page to s moves) { ssn = counter tree }) ∷ (o, top_page (counter tree) s moves q n) ∷ []) (part q s moves n ∷ []) (Some (record { page = q; round = m.round })))
    (ap (λ (p : PageNo). p.0) (sym c.plan.0.page_is)) placed
  where
    last_some : (n.0 == 0) ≡ false
    last_some = some_page tree n [] (record { free = λ x h. c.new.free x (inr h); once = λ x. fewer_new x q.0 (n.0 ∷ []) (c.new.once x) })

root_case : (fanout : ℕ) → IsFanout fanout → (b : Corners) (tree : Tree) (carry : Carry) (to : To) (page : PathPage) (s : Planned) (news : List PageNo) (m : Option Moves)
    → CanRise fanout b tree carry to page [] (s ∷ []) news → s.moves ≡ m → RisesAtRoot tree page.page.0 to s news m
root_case fanout fan b tree carry to page s [] None c is = root_whole fanout b tree carry to page s c is
root_case fanout fan b tree carry to page s (q ∷ news) None c is = let none : needs (moves_of s) ≡ 0 = ap (λ (x : Option Moves). needs (list_of x)) is in absurd (let k = c.count in omega (arith, k, none))
root_case fanout fan b tree carry to page s [] (Some m) c is = let one : needs (moves_of s) ≡ 1 = ap (λ (x : Option Moves). needs (list_of x)) is in absurd (let k = c.count in omega (arith, k, one))
root_case fanout fan b tree carry to page s (q ∷ []) (Some m) c is = let one : needs (moves_of s) ≡ 1 = ap (λ (x : Option Moves). needs (list_of x)) is in absurd (let k = c.count in omega (arith, k, one))
root_case fanout fan b tree carry to page s (q ∷ n ∷ []) (Some m) c is = root_divided_case fanout fan b tree carry to page s q n m c is
root_case fanout fan b tree carry to page s (q ∷ n ∷ p ∷ news) (Some m) c is = let one : needs (moves_of s) ≡ 1 = ap (λ (x : Option Moves). needs (list_of x)) is in absurd (let k = c.count in omega (arith, k, one))

-- ---- from the page at hand up to the root

pub all_rise : (fanout : ℕ) → IsFanout fanout → (b : Corners) (page : PathPage) (pages : List PathPage) (steps : List Planned) → AllRise fanout b page pages steps
all_rise fanout fan b page pages [] tree carry to news c = absurd c.plan
all_rise fanout fan b page [] (s ∷ []) tree carry to news c = root_case fanout fan b tree carry to page s news s.moves c refl
all_rise fanout fan b page [] (s ∷ t ∷ steps) tree carry to news c = absurd (let bad : ◌≡◌ {A = List Planned} (t ∷ steps) [] = c.plan.1 in cc)
all_rise fanout fan b page (next ∷ pages) (s ∷ []) tree carry to news c = absurd c.plan.1
all_rise fanout fan b page (next ∷ pages) (s ∷ t ∷ steps) tree carry to news c = inner_case fanout fan b tree carry to page next pages s t steps news (moves_of s) c refl (all_rise fanout fan b next pages (t ∷ steps))
