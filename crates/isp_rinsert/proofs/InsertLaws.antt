-- From the pages that were taken and written to the tree in which the entry was placed.
use Rattle.std.proofs.Common.{inl, inr, ◌≡◌, ◌⊎◌, ℕ, zero, suc, ℤ, ◌+◌, ◌<◌, ◌≤◌, ◌==◌, ◌||◌, Bool, true, false, Option, Some, None, List, [], ◌∷◌, ◌++◌, length, map, reverse, refl, sym, ◌∙◌, ap, subst, arith, eqb-true}
use Rattle.isp_base.specs.Lists.{Has, times}
use Rattle.isp_base.specs.declared.page_no.PageNo.{PageNo}
use Rattle.isp_format.specs.Ranges.{page_of}
use Rattle.isp_mbr.specs.Corners.{Corners}
use Rattle.isp_growing.proofs.TakenLaws.{none_out, out_none}
use Rattle.isp_growing.specs.Taking.{taken_times, takes}
use Rattle.isp_growth.proofs.BesideLaws.{space_kept}
use Rattle.isp_growth.specs.Growing.{IsSpaceBeside}
use Rattle.isp_levels.proofs.PageLaws.{NoneOf, times_itself}
use Rattle.isp_laws.proofs.ListLaws.{Has-map, Has-times, Source, times-Has, times-append}
use Rattle.isp_laws.proofs.PageLaws.{There, there_or_not, times_there}
use Rattle.isp_laws.proofs.PlaceLaws.{place_forest}
use Rattle.isp_page.specs.State.{FileShape, is_among}
use Rattle.isp_page.specs.Touched.{KeepsPages}
use Rattle.isp_page.specs.declared.pages.Pages.{Ghosts}
use Rattle.isp_space.specs.Changes.{ChangesOf}
use Rattle.isp_space.specs.Spaces.{IsSpace, Space, space_pages}
use Rattle.isp_forest.specs.Forest.{Forest, IsPage}
use Rattle.isp_forest.specs.declared.entry.To.TheVariants.{Row}
use Rattle.isp_forest.specs.Tree.{Node, Tree, numbers, page_at, page_in}
use Rattle.isp_rnode.specs.Nodes.{IsNode}
use Rattle.isp_rplan.proofs.BeginLaws.{path_once}
use Rattle.isp_rplan.specs.Divisions.{divisions, pages_needed, raised_to}
use Rattle.isp_rplan.specs.declared.steps.Planned.{Planned}
use Rattle.isp_forest.specs.Steps.{add}
use Rattle.isp_rtree.specs.Growing.{AreGrowths}
use Rattle.isp_rtree.specs.declared.growing.Growth.{Growth}
use Rattle.isp_rsettle.specs.declared.outcome.Parted.{Parted}
use Rattle.isp_rsettle.specs.declared.outcome.Raised.{Raised}
use Rattle.isp_rsettle.specs.Placed.{AreParted, CanSettle, IsPathPage, IsRaised, IsSettled, Settles, page_number, path_number, placed, settled_pages}
use Rattle.isp_rsettle.specs.Settling.{node_with, nodes_of, parts, raised}
use Rattle.isp_rsettle.specs.declared.outcome.Settled.{Settled}
use Rattle.isp_rtree.specs.Making.{HasSpace}
use Rattle.isp_rtree.specs.Trees.{IsTreeIn}
use Rattle.isp_rinsert.specs.Applying.{AreTaken, AreWritten, Fits, numbers_of, written_numbers}
use Rattle.isp_rinsert.specs.Inserting.{CanInsert, IsInserted, drawn}
use Rattle.isp_rinsert.specs.Preparing.{IsPrepared}
use Rattle.isp_rinsert.specs.declared.inserting.Changes.{Changes}
use Rattle.isp_rinsert.specs.declared.preparing.Prepared.{Prepared}
use Rattle.isp_rinsert.proofs.SettledLaws.{found_at, found_in, written_are}
use Rattle.isp_rinsert.proofs.WriteLaws.{has_number}

-- ---- counts

none_of : (ps pages : List ℕ) → ((q : ℕ) → 0 < times q ps → times q pages ≡ 0) → NoneOf ps pages
none_of [] pages none = tt
none_of (p ∷ ps) pages none =
    let here : times p (p ∷ ps) ≡ 1 + times p ps = times_itself p ps in
    (none p (omega (arith, here)), none_of ps pages (λ q h. none q (omega (arith, h))))

some_or_none : (n : ℕ) → (0 < n) ⊎ (n ≡ 0)
some_or_none zero = inr refl
some_or_none (suc n) = inl (omega arith)

-- ---- before pages are written

abbrev pub steps_of : Prepared → List Planned
steps_of w = reverse w.steps.items

-- an insert whose pages were taken
pub record Took {S : Type 0} (g : Ghosts S) (old mid at : S) (owner root : ℕ) (tree : Tree) (s : Space) (path : List ℕ) (b : Corners) (w : Prepared) (news : List PageNo) : Type 0 where
  pub can : CanInsert g old owner root tree s path
  pub prepared : IsPrepared (g.shape old).fanout owner tree path b w
  pub shape_mid : g.shape mid ≡ g.shape old
  pub shape_at : g.shape at ≡ g.shape old
  pub space : HasSpace g mid (drawn s)
  pub count : length news ≡ pages_needed (steps_of w)
  pub taken : AreTaken g (length news) (drawn s) news mid at

module _ {S : Type 0} (g : Ghosts S) (old mid at : S) (owner root : ℕ) (tree : Tree) (s : Space) (path : List ℕ) (b : Corners) (w : Prepared) (news : List PageNo)
    (t : Took g old mid at owner root tree s path b w news) where
  abbrev pub all_pages : List ℕ
  all_pages = numbers tree.pages

  abbrev pub is_in : IsTreeIn (g.contents old) (g.shape old) owner tree
  is_in = t.can.is_tree.is

  -- the rest of the space lies beside the tree and the pages that were taken
  pub beside_taken : IsSpaceBeside (g.shape at).pages (g.contents at) (all_pages ++ numbers_of news) (taken_times (length news) (drawn s))
  beside_taken = t.taken.beside all_pages (record { is_space = t.space; once = t.can.beside.once; used = t.can.beside.used })

  pub one_of : (q : ℕ) → times q all_pages + times q (numbers_of news) + times q (space_pages (taken_times (length news) (drawn s))) ≤ 1
  one_of q = let once = beside_taken.once q in omega (arith, once, times-append q all_pages (numbers_of news))

  no_zero : page_at tree 0 ≡ None
  no_zero = elim (there_or_not tree.pages 0) [
    | inl there ↦ (let from = (is_in.inside 0 there.page there.there).0 in absurd (omega (arith, from)))
    | inr free ↦ free
  ]

  free_of : (q : ℕ) → 0 < times q (numbers_of news) → page_at tree q ≡ None
  free_of q h = elim (there_or_not tree.pages q) [
    | inl there ↦ (let in_tree = times_there tree.pages q there.page there.there in let one = one_of q in absurd (omega (arith, h, in_tree, one)))
    | inr free ↦ free
  ]

  pub can_settle : CanSettle (g.shape old).fanout tree path b t.prepared.pages (steps_of w) news
  can_settle = record {
    forest = is_in.forest;
    few = is_in.few;
    none = no_zero;
    fan = t.prepared.fan;
    box = t.prepared.box;
    stands = t.can.stands;
    are = t.prepared.are;
    plan = t.prepared.plan;
    count = t.count;
    free = λ q h. free_of q (times-Has q (numbers_of news) h);
    once = λ q. (let one = one_of q in omega (arith, one));
  }

  -- ---- the pages that were written

  module _ (settles : Settles) (key : ℤ) (writes : List Settled) (nodes : nodes_of writes ≡ settled_pages tree key s.entries (steps_of w) news) where
    abbrev pub is_settled : IsSettled (g.shape old).fanout tree path b key s.entries (steps_of w) news
    is_settled = settles (g.shape old).fanout tree path b key s.entries t.prepared.pages (steps_of w) news can_settle

    abbrev pub new_tree : Tree
    new_tree = placed tree path b key s.entries (steps_of w) news

    pub counted : (x : ℕ) → times x (written_numbers writes) ≡ times x path + times x (numbers_of news)
    counted x = ap (times x) (written_are writes ∙ ap numbers nodes) ∙ is_settled.are x

    pub path_there : (x : ℕ) → 0 < times x path → There tree.pages x
    path_there x h =
        let numbers_are : map path_number t.prepared.pages ≡ path = t.prepared.are.numbers in
        let h' : 0 < times x (map path_number t.prepared.pages) = subst (λ (l : List ℕ). 0 < times x l) (sym numbers_are) h in
        let from : Source path_number t.prepared.pages x = Has-map path_number t.prepared.pages x (Has-times x (map path_number t.prepared.pages) h') in
        let page : IsPathPage tree from.x = t.prepared.are.each from.x from.has in
        record { page = page.node; there = subst (λ (q : ℕ). page_at tree q ≡ Some page.node) from.is page.there }

    path_times : (x : ℕ) → times x path ≤ times x all_pages
    path_times x = elim (some_or_none (times x path)) [
      | inl some ↦ (let there = path_there x some in
          let in_tree = times_there tree.pages x there.page there.there in
          let most = path_once tree is_in.forest path x t.can.stands.steps in
          omega (arith, in_tree, most))
      | inr none ↦ omega (arith, none)
    ]

    pub written_once : (x : ℕ) → times x (written_numbers writes) ≤ 1
    written_once x = let c = counted x in let p = path_times x in let one = one_of x in omega (arith, c, p, one)

    abbrev pub all_nodes : List (ℕ × Node)
    all_nodes = nodes_of writes ++ tree.pages

    pub pages_are : (x : ℕ) → page_at new_tree x ≡ page_in all_nodes x
    pages_are x = is_settled.pages x ∙ ap (λ (l : List (ℕ × Node)). page_in (l ++ tree.pages) x) (sym nodes)

    pub new_forest : Forest new_tree
    new_forest = place_forest tree path b key s.entries (raised_to (steps_of w) news) (divisions (Row key s.entries) (steps_of w) news) is_in.forest t.can.stands t.prepared.box is_settled.can

    has_node : (list : List Settled) (x : Settled) → Has list x → Has (nodes_of list) (x.page.0, node_with x.head x.entries.items)
    has_node [] x h = absurd h
    has_node (y ∷ list) x (inl same) = inl (ap (λ (z : Settled). (z.page.0, node_with z.head z.entries.items)) same)
    has_node (y ∷ list) x (inr more) = inr (has_node list x more)

    few_of : (x : Settled) → Has writes x → length x.entries.items ≤ (g.shape old).fanout
    few_of x h = is_settled.few (x.page.0, node_with x.head x.entries.items) (subst (λ (l : List (ℕ × Node)). Has l (x.page.0, node_with x.head x.entries.items)) nodes (has_node writes x h))

    -- a page can hold its entries, and they are those of its level
    pub fits_of : (x : Settled) → Has writes x → Fits x
    fits_of x h =
        let few = few_of x h in
        let fan = t.prepared.fan in
        let there : page_at new_tree x.page.0 ≡ Some (node_with x.head x.entries.items) = pages_are x.page.0 ∙ found_at writes tree.pages x written_once h in
        let page : IsPage new_tree x.page.0 (node_with x.head x.entries.items) = new_forest.each x.page.0 (node_with x.head x.entries.items) there in
        record { few = omega (arith, few, fan.1); kinds = page.kinds }

    pub inside_of : (x : Settled) → Has writes x → (16 ≤ x.page.0) × (x.page.0 < (g.shape old).pages)
    inside_of x h =
        let some = has_number writes x h in
        let c = counted x.page.0 in
        elim (some_or_none (times x.page.0 path)) [
          | inl on_path ↦ (let there = path_there x.page.0 on_path in is_in.inside x.page.0 there.page there.there)
          | inr off ↦ new_inside x.page.0 (omega (arith, some, c, off))
        ]
      where
        new_inside : (q : ℕ) → 0 < times q (numbers_of news) → (16 ≤ q) × (q < (g.shape old).pages)
        new_inside q h =
            let from : Source page_number news q = Has-map page_number news q (Has-times q (numbers_of news) h) in
            let low : 16 ≤ from.x.0 = t.taken.from from.x from.has in
            let used : q < (taken_times (length news) (drawn s)).fresh = beside_taken.used q (omega (arith, h, times-append q all_pages (numbers_of news))) in
            let to : (taken_times (length news) (drawn s)).fresh ≤ (g.shape at).pages = beside_taken.is_space.fresh_to in
            let same : (g.shape at).pages ≡ (g.shape old).pages = ap (λ (x : FileShape). x.pages) t.shape_at in
            (subst (λ (n : ℕ). 16 ≤ n) from.is low, omega (arith, used, to, same))

    -- ---- once they are written

    module _ (new : S) (tells : g.tells) (shape_new : g.shape new ≡ g.shape old) (draws : ChangesOf g (0 ∷ []) old mid) (takes_in : ChangesOf g (0 ∷ numbers_of news) mid at)
        (writes_in : ChangesOf g (written_numbers writes) at new) (written : AreWritten owner (g.contents new) writes) where
      -- a page that is none of these stays
      stays : (x : ℕ) → times x (written_numbers writes) ≡ 0 → times x (numbers_of news) ≡ 0 → (0 == x) ≡ false → page_of (g.contents new) x ≡ page_of (g.contents old) x
      stays x unwritten untaken some =
          writes_in.others tells x (none_out x (written_numbers writes) unwritten)
          ∙ takes_in.others tells x (ap (λ (c : Bool). c || is_among x (numbers_of news)) some ∙ none_out x (numbers_of news) untaken)
          ∙ draws.others tells x (ap (λ (c : Bool). c || false) some)

      not_zero : (x : ℕ) → 16 ≤ x → (0 == x) ≡ false
      not_zero x from = by (0 == x) refl
        where
          by : (c : Bool) → (0 == x) ≡ c → c ≡ false
          by false is = refl
          by true is = let same : 0 ≡ x = eqb-true 0 x is in absurd (omega (arith, same, from))

      old_stays : (x : ℕ) (page : Node) → page_at tree x ≡ Some page → is_among x (written_numbers writes) ≡ false → page_of (g.contents new) x ≡ page_of (g.contents old) x
      old_stays x page there out =
          let in_tree = times_there tree.pages x page there in
          let one = one_of x in
          stays x (out_none x (written_numbers writes) out) (omega (arith, in_tree, one)) (not_zero x (is_in.inside x page there).0)

      node_of_new : (x : ℕ) (page : Node) → page_at new_tree x ≡ Some page → IsNode owner x page (page_of (g.contents new) x)
      node_of_new x page there = elim (found_in writes tree.pages x page (sym (pages_are x) ∙ there)) [
        | inl f ↦ subst (λ (q : ℕ). IsNode owner q page (page_of (g.contents new) q)) f.at (subst (λ (n : Node). IsNode owner f.w.page.0 n (page_of (g.contents new) f.w.page.0)) f.is (written f.w f.has))
        | inr f ↦ subst (λ (bytes : List ℕ). IsNode owner x page bytes) (sym (old_stays x page f.there f.out)) (is_in.nodes x page f.there)
      ]

      few_of_new : (x : ℕ) (page : Node) → page_at new_tree x ≡ Some page → length page.entries ≤ (g.shape old).fanout
      few_of_new x page there = elim (found_in writes tree.pages x page (sym (pages_are x) ∙ there)) [
        | inl f ↦ subst (λ (n : Node). length n.entries ≤ (g.shape old).fanout) f.is (few_of f.w f.has)
        | inr f ↦ is_in.few x page f.there
      ]

      inside_of_new : (x : ℕ) (page : Node) → page_at new_tree x ≡ Some page → (16 ≤ x) × (x < (g.shape old).pages)
      inside_of_new x page there = elim (found_in writes tree.pages x page (sym (pages_are x) ∙ there)) [
        | inl f ↦ subst (λ (q : ℕ). (16 ≤ q) × (q < (g.shape old).pages)) f.at (inside_of f.w f.has)
        | inr f ↦ is_in.inside x page f.there
      ]

      pub new_is_in : IsTreeIn (g.contents new) (g.shape new) owner new_tree
      new_is_in = subst (λ (x : FileShape). IsTreeIn (g.contents new) x owner new_tree) (sym shape_new) (record { nodes = node_of_new; few = few_of_new; inside = inside_of_new; forest = new_forest })

      pub new_beside : IsSpaceBeside (g.shape new).pages (g.contents new) (numbers new_tree.pages) (taken_times (length news) (drawn s))
      new_beside =
          let same : g.shape at ≡ g.shape new = t.shape_at ∙ sym shape_new in
          record {
            is_space = subst (λ (x : FileShape). IsSpace x.pages (g.contents new) (taken_times (length news) (drawn s))) same
                (space_kept (g.shape at).pages (g.contents at) (g.contents new) (taken_times (length news) (drawn s)) (written_numbers writes)
                (none_of (written_numbers writes) (space_pages (taken_times (length news) (drawn s))) (λ q h. (let c = counted q in let p = path_times q in let one = one_of q in omega (arith, h, c, p, one))))
                (writes_in.others tells) beside_taken.is_space);
            once = λ q. (let one = one_of q in let all = is_settled.all q in omega (arith, one, all));
            used = λ q h. beside_taken.used q (let all = is_settled.all q in omega (arith, h, all, times-append q all_pages (numbers_of news)));
          }

      new_others : KeepsPages (λ p. is_among p (0 ∷ (path ++ takes (length news) (drawn s)))) (g.contents old) (g.contents new)
      new_others x out =
          let none = out_none x (0 ∷ (path ++ takes (length news) (drawn s))) out in
          let both = times-append x path (takes (length news) (drawn s)) in
          let is : times x (numbers_of news) ≡ times x (takes (length news) (drawn s)) = ap (times x) t.taken.are in
          let c = counted x in
          stays x (omega (arith, none, both, is, c)) (omega (arith, none, both, is)) (first_out (0 == x) (is_among x (path ++ takes (length news) (drawn s))) out)
        where
          first_out : (a c : Bool) → (a || c) ≡ false → a ≡ false
          first_out false c e = refl
          first_out true c e = let bad : true ≡ false = e in cc

      pub inserted : (changes : Changes) → changes.number ≡ s.entries → changes.growths.items ≡ w.growths.items → changes.raised ≡ raised (steps_of w) news → changes.divisions.items ≡ parts (steps_of w) news → IsInserted g old new owner root tree s path b key changes
      inserted changes number growths raises told = record {
        q = raised_to (steps_of w) news;
        ds = divisions (Row key s.entries) (steps_of w) news;
        can = is_settled.can;
        divides = is_settled.divides;
        is_tree = record { is = new_is_in; root_is = is_settled.root ∙ t.can.is_tree.root_is };
        counted = is_settled.counted;
        count = length news;
        taken = is_settled.taken ∙ t.taken.are;
        all = λ x. is_settled.all x ∙ ap (λ (l : List ℕ). times x all_pages + times x l) t.taken.are;
        beside = new_beside;
        others = new_others;
        number = number;
        growths = subst (λ (l : List Growth). AreGrowths tree b path l) (sym growths) t.prepared.growths;
        raised = subst (λ (r : Option Raised). IsRaised (add tree path b key s.entries) (raised_to (steps_of w) news) (reverse path) (divisions (Row key s.entries) (steps_of w) news) r) (sym raises) is_settled.raises;
        parted = subst (λ (l : List Parted). AreParted (raised_to (steps_of w) news) (reverse path) (divisions (Row key s.entries) (steps_of w) news) l) (sym told) is_settled.parted;
      }
