-- A plan is carried out on the tree page by page: the page at hand is divided as the plan has it, and what the plan has for the
-- pages above is right for the tree that comes of it.
use Rattle.std.proofs.Common.{◌≡◌, inl, inr, ℕ, suc, ◌<◌, ◌≤◌, ◌==◌, ◌||◌, Bool, true, false, cond, Option, Some, None, List, [], ◌∷◌, ◌++◌, map, refl, sym, ◌∙◌, ap, subst, arith, eqb-true, eq-eqb}
use Rattle.std.proofs.lemmas.List.{append-nil}
use Rattle.std.proofs.lemmas.Bool.Decides.{nat_tests}
use Rattle.isp_base.specs.Lists.{Has, times}
use Rattle.isp_base.specs.declared.page_no.PageNo.{PageNo}
use Rattle.isp_format.specs.Control.{IsFanout}
use Rattle.isp_mbr.specs.Boxes.{union}
use Rattle.isp_mbr.specs.Corners.{Corners}
use Rattle.isp_forest.specs.declared.entry.Entry.{Entry}
use Rattle.isp_forest.specs.declared.entry.To.{To}
use Rattle.isp_forest.specs.declared.entry.To.TheVariants.{Child}
use Rattle.isp_forest.specs.Forest.{Forest}
use Rattle.isp_forest.specs.Place.{CanSplit, IsFree, Names}
use Rattle.isp_forest.specs.Steps.{entry_for, is_among, names, reboxed, split, widened}
use Rattle.isp_forest.specs.Tree.{Node, Tree, child_of, counter, least, page_at}
use Rattle.isp_laws.specs.DivisionLaws.{AreParts}
use Rattle.isp_laws.proofs.ForestLaws.{not_free, one_parent}
use Rattle.isp_laws.proofs.ListLaws.{Has-append_left, Has-map_of}
use Rattle.isp_laws.proofs.PageLaws.{changed, page_in-each}
use Rattle.isp_laws.proofs.SplitLaws.{Splitting, at_n, at_o, at_old, at_other, round, split_is}
use Rattle.isp_rplan.specs.Divisions.{HasEntries, page_numbers}
use Rattle.isp_rplan.specs.Plans.{AreDivided, AreWhole, known, with_carry, with_known}
use Rattle.isp_rplan.specs.declared.steps.Carry.{Carry}
use Rattle.isp_rplan.specs.declared.steps.Carry.TheVariants.{Divided, Grown}
use Rattle.isp_rplan.specs.declared.steps.PathPage.{PathPage}
use Rattle.isp_rplan.proofs.KnownLaws.{carry_known, divided_known, least_known, parts_of}

-- each page is named by the next, and the last is the root
abbrev pub IsUp : Tree → List ℕ → Type 0
IsUp tree [] = ⊥
IsUp tree (o ∷ []) = o ≡ tree.root
IsUp tree (o ∷ above ∷ up) = ((e : Entry) × Names tree above o e) × IsUp tree (above ∷ up)

-- the pages have their entries, each with the entry for the page below it grown round the box
abbrev pub AllHave : Tree → Corners → PageNo → List PathPage → Type 0
AllHave tree b below [] = Unit {0}
AllHave tree b below (p ∷ pages) = HasEntries tree p.page.0 (map (widened (below.0 ∷ []) b) p.entries.items) × AllHave tree b p.page pages

-- the pages of a path from the one at hand up, where the entries on the way have grown round the box b: it has its entries with
-- what comes from below, the others have theirs
pub record AreUp (tree : Tree) (b : Corners) (carry : Carry) (to : To) (page : PathPage) (pages : List PathPage) : Type 0 where
  pub up : IsUp tree (page.page.0 ∷ page_numbers pages)
  pub hand : HasEntries tree page.page.0 (with_known carry to page.entries.items)
  pub others : AllHave tree b page.page pages
  pub once : (q : ℕ) → times q (page.page.0 ∷ page_numbers pages) ≤ 1
  -- no tree has page 0, so no entry of this one leads nowhere
  pub none : page_at tree 0 ≡ None

has_number : (pages : List PathPage) (p : PathPage) → Has pages p → 0 < times p.page.0 (page_numbers pages)
has_number [] p h = absurd h
has_number (x ∷ pages) p (inl same) = let e : (x.page.0 == p.page.0) ≡ true = eq-eqb x.page.0 p.page.0 (ap (λ (z : PathPage). z.page.0) same) in let one : ◌≡◌ {A = ℕ} (cond (x.page.0 == p.page.0) 1 0) 1 = ap (λ (b : Bool). let n : ℕ = cond b 1 0 in n) e in omega (arith, one)
has_number (x ∷ pages) p (inr h) = let h' = has_number pages p h in omega (arith, h')

-- a page above isn't the one at hand
pub other_page : (q : ℕ) (pages : List PathPage) (p : PathPage) → ((n : ℕ) → times n (q ∷ page_numbers pages) ≤ 1) → Has pages p → (q == p.page.0) ≡ false
other_page q pages p once has = by (q == p.page.0) refl
  where
    by : (b : Bool) → (q == p.page.0) ≡ b → b ≡ false
    by false is = refl
    by true is =
        let one : ◌≡◌ {A = ℕ} (cond (q == p.page.0) 1 0) 1 = ap (λ (b : Bool). let n : ℕ = cond b 1 0 in n) is in
        absurd (omega (arith, once p.page.0, has_number pages p has, one))

fewer_times : (q : ℕ) (o : ℕ) (up : List ℕ) → ((n : ℕ) → times n (o ∷ up) ≤ 1) → times q up ≤ 1
fewer_times q o up once = let h = once q in omega (arith, h)

-- an entry of the tree leads somewhere
leads_somewhere : (tree : Tree) → Forest tree → page_at tree 0 ≡ None → (p : ℕ) (page : Node) (e : Entry) → page_at tree p ≡ Some page → Has page.entries e → (o : Option ℕ) → child_of e ≡ o → names (λ q. q == 0) o ≡ false
leads_somewhere tree forest none p page e there has None to = refl
leads_somewhere tree forest none p page e there has (Some c) to = by (c == 0) refl
  where
    by : (b : Bool) → (c == 0) ≡ b → b ≡ false
    by false is = refl
    by true is =
        let zero : c ≡ 0 = eqb-true c 0 is in
        absurd (not_free tree forest p 0 e none (record { page = page; there = there; has = has; to = to ∙ ap Some zero }))

-- the entries that the plan has for the page at hand, once the new one is known, are the page's
pub hand_known : (tree : Tree) → Forest tree → (b : Corners) (carry : Carry) (to : To) (page : PathPage) (pages : List PathPage) → (u : AreUp tree b carry to page pages) → map (known to) (with_carry carry page.entries.items) ≡ u.hand.node.entries
hand_known tree forest b carry to page pages u =
    carry_known carry to page.entries.items (λ e has. leads_somewhere tree forest u.none page.page.0 u.hand.node e u.hand.there (subst (λ (es : List Entry). Has es e) (sym u.hand.entries_are) has) (child_of e) refl)
    ∙ sym u.hand.entries_are

-- ---- a page that is whole

pub whole_known : (tree : Tree) → Forest tree → (fanout : ℕ) (b : Corners) (carry : Carry) (to : To) (page : PathPage) (pages : List PathPage) (stays : List Entry) → (u : AreUp tree b carry to page pages) → AreWhole fanout (with_carry carry page.entries.items) stays → map (known to) stays ≡ u.hand.node.entries
whole_known tree forest fanout b carry to page pages stays u w = ap (map (known to)) w.stays_is ∙ hand_known tree forest b carry to page pages u

-- its box grows, and nothing else comes from it
pub whole_up : (tree : Tree) (b : Corners) (carry : Carry) (to : To) (page next : PathPage) (pages : List PathPage) → AreUp tree b carry to page (next ∷ pages) → AreUp tree b (Grown page.page b) to next pages
whole_up tree b carry to page next pages u = record {
  up = u.up.1;
  hand = u.others.0;
  others = u.others.1;
  once = λ q. fewer_times q page.page.0 (next.page.0 ∷ page_numbers pages) u.once;
  none = u.none;
}

-- ---- a page that is divided

-- the split that the plan has for the page at hand, with page n for what moves
abbrev pub split_at : Tree → PathPage → PathPage → To → List Entry → List Entry → ℕ → Tree
split_at tree page next to stays moves n = split tree page.page.0 next.page.0 (map (known to) stays) (map (known to) moves) n

pub can_split : (tree : Tree) → Forest tree → (fanout : ℕ) → IsFanout fanout → (b : Corners) (carry : Carry) (to : To) (page next : PathPage) (pages : List PathPage) (stays moves : List Entry) (n : ℕ)
    → (u : AreUp tree b carry to page (next ∷ pages)) → AreDivided fanout (with_carry carry page.entries.items) stays moves → IsFree tree n
    → CanSplit tree page.page.0 next.page.0 (map (known to) stays) (map (known to) moves) n
can_split tree forest fanout fan b carry to page next pages stays moves n u d free =
    let all = hand_known tree forest b carry to page (next ∷ pages) u in
    let mine : AreDivided fanout u.hand.node.entries (map (known to) stays) (map (known to) moves) = subst (λ (es : List Entry). AreDivided fanout es (map (known to) stays) (map (known to) moves)) all (divided_known fanout to (with_carry carry page.entries.items) stays moves d) in
    let parts : AreParts u.hand.node.level _ u.hand.node.entries (map (known to) stays) (map (known to) moves) = parts_of u.hand.node.level fanout u.hand.node.entries (map (known to) stays) (map (known to) moves) fan mine in
    record {
      page = u.hand.node;
      there = u.hand.there;
      entry = u.up.0.0;
      named = u.up.0.1;
      parts = parts.division;
      free = free;
    }

abbrev pub splitting : (tree : Tree) → Forest tree → (o above n : ℕ) (left right : List Entry) → CanSplit tree o above left right n → Splitting
splitting tree forest o above n left right can = record { tree = tree; forest = forest; o = o; above = above; n = n; left = left; right = right; can = can }

-- what is at a page after a split
pub split_at_o : (tree : Tree) (forest : Forest tree) (o above n : ℕ) (left right : List Entry) (can : CanSplit tree o above left right n) → page_at (split tree o above left right n) o ≡ Some (record { level = can.page.level; ssn = suc (counter tree); next = Some n; entries = left })
split_at_o tree forest o above n left right can =
    let c = splitting tree forest o above n left right can in
    ap (λ (t : Tree). page_at t o) (split_is c) ∙ at_o c

pub split_at_n : (tree : Tree) (forest : Forest tree) (o above n : ℕ) (left right : List Entry) (can : CanSplit tree o above left right n) → page_at (split tree o above left right n) n ≡ Some (record can.page { entries = right })
split_at_n tree forest o above n left right can =
    let c = splitting tree forest o above n left right can in
    ap (λ (t : Tree). page_at t n) (split_is c) ∙ at_n c

-- a page that was there and isn't divided
pub split_at_old : (tree : Tree) (forest : Forest tree) (o above n : ℕ) (left right : List Entry) (can : CanSplit tree o above left right n) (x : ℕ) (page : Node) → (o == x) ≡ false → page_at tree x ≡ Some page
    → page_at (split tree o above left right n) x ≡ Some (round (splitting tree forest o above n left right can) x page)
split_at_old tree forest o above n left right can x page not_o there =
    let c = splitting tree forest o above n left right can in
    let not_n : (n == x) ≡ false = free_other (n == x) refl in
    ap (λ (t : Tree). page_at t x) (split_is c) ∙ at_old c x page not_n not_o there
  where
    free_other : (b : Bool) → (n == x) ≡ b → b ≡ false
    free_other false is = refl
    free_other true is = let at : n ≡ x = eqb-true n x is in let free : page_at tree x ≡ None = subst (λ (z : ℕ). page_at tree z ≡ None) at can.free in absurd (let no : ◌≡◌ {A = Option Node} None (Some page) = sym free ∙ there in cc)

pub split_free : (tree : Tree) (forest : Forest tree) (o above n : ℕ) (left right : List Entry) (can : CanSplit tree o above left right n) (x : ℕ) → (n == x) ≡ false → page_at tree x ≡ None → page_at (split tree o above left right n) x ≡ None
split_free tree forest o above n left right can x not_n free =
    let c = splitting tree forest o above n left right can in
    let not_o : (o == x) ≡ false = there_other (o == x) refl in
    ap (λ (t : Tree). page_at t x) (split_is c) ∙ at_other c x not_n not_o ∙ page_in-each (round c) tree.pages x ∙ ap (changed (round c) x) free
  where
    there_other : (b : Bool) → (o == x) ≡ b → b ≡ false
    there_other false is = refl
    there_other true is = let at : o ≡ x = eqb-true o x is in let there : page_at tree x ≡ Some can.page = subst (λ (z : ℕ). page_at tree z ≡ Some can.page) at can.there in absurd (let no : ◌≡◌ {A = Option Node} None (Some can.page) = sym free ∙ there in cc)

-- the entries of a page that isn't the one above don't name the divided one, so they stay
pub map_same : (f : Entry → Entry) (es : List Entry) → ((e : Entry) → Has es e → f e ≡ e) → map f es ≡ es
map_same f [] h = refl
map_same f (e ∷ es) h = ap (λ x. x ∷ map f es) (h e (inl refl)) ∙ ap (λ xs. e ∷ xs) (map_same f es (λ d k. h d (inr k)))

reboxed_other : (o : ℕ) (b : Corners) (e : Entry) (t : Bool) → names (λ q. q == o) (child_of e) ≡ t → t ≡ false → reboxed o b e ≡ e
reboxed_other o b e true is off = cc
reboxed_other o b e false is off = ap (λ (t : Bool). record { b = cond t b e.b; to = e.to }) is

names_no_o : (tree : Tree) → Forest tree → (o above p : ℕ) (page : Node) (named : (e : Entry) × Names tree above o e) → page_at tree p ≡ Some page → (above == p) ≡ false → (e : Entry) → Has page.entries e → (m : Option ℕ) → child_of e ≡ m → names (λ q. q == o) m ≡ false
names_no_o tree forest o above p page named there other e has None to = refl
names_no_o tree forest o above p page named there other e has (Some r) to = by (r == o) refl
  where
    by : (b : Bool) → (r == o) ≡ b → b ≡ false
    by false is = refl
    by true is =
        let at : r ≡ o = eqb-true r o is in
        let n : Names tree p o e = record { page = page; there = there; has = has; to = to ∙ ap Some at } in
        let same : above ≡ p = one_parent tree forest above p o named.0 e named.1 n in
        let yes : (above == p) ≡ true = eq-eqb above p same in
        absurd (let no : true ≡ false = sym yes ∙ other in cc)

-- the entries of each page after a split: of the page above; of any other that was there
pub above_entries : (tree : Tree) (forest : Forest tree) (o above n : ℕ) (left right : List Entry) (can : CanSplit tree o above left right n) (page : Node) → (round (splitting tree forest o above n left right can) above page).entries ≡ map (reboxed o (least left)) page.entries ++ entry_for (least right) n ∷ []
above_entries tree forest o above n left right can page = ap (λ (b : Bool). map (reboxed o (least left)) page.entries ++ cond b (entry_for (least right) n ∷ []) []) (eq-eqb above above refl)

pub other_entries : (tree : Tree) (forest : Forest tree) (o above n : ℕ) (left right : List Entry) (can : CanSplit tree o above left right n) (x : ℕ) (page : Node) → page_at tree x ≡ Some page → (above == x) ≡ false → (round (splitting tree forest o above n left right can) x page).entries ≡ page.entries
other_entries tree forest o above n left right can x page there other =
    ap (λ (b : Bool). map (reboxed o (least left)) page.entries ++ cond b (entry_for (least right) n ∷ []) []) (turned above x other)
    ∙ append-nil (map (reboxed o (least left)) page.entries)
    ∙ map_same (reboxed o (least left)) page.entries (λ e has. reboxed_other o (least left) e (names (λ q. q == o) (child_of e)) refl (names_no_o tree forest o above x page (can.entry, can.named) there other e has (child_of e) refl))
  where
    turned : (a b : ℕ) → (a == b) ≡ false → (b == a) ≡ false
    turned a b is = grind (arith, nat_tests, is)

-- each page above still names the one below it
names_still : (tree : Tree) (forest : Forest tree) (o above n : ℕ) (left right : List Entry) (can : CanSplit tree o above left right n) (p q : ℕ) (e : Entry) → (o == p) ≡ false → Names tree p q e → (d : Entry) × Names (split tree o above left right n) p q d
names_still tree forest o above n left right can p q e other names =
    let c = splitting tree forest o above n left right can in (
      reboxed o (least left) e,
      record {
        page = round c p names.page;
        there = split_at_old tree forest o above n left right can p names.page other names.there;
        has = Has-append_left (map (reboxed o (least left)) names.page.entries) _ (reboxed o (least left) e) (Has-map_of (reboxed o (least left)) names.page.entries e names.has);
        to = names.to;
      },
    )

up_still : (tree : Tree) (forest : Forest tree) (o above n : ℕ) (left right : List Entry) (can : CanSplit tree o above left right n) (up : List ℕ) → ((q : ℕ) → times q (o ∷ up) ≤ 1) → IsUp tree up → IsUp (split tree o above left right n) up
up_still tree forest o above n left right can [] once is = is
up_still tree forest o above n left right can (p ∷ []) once is = is ∙ sym (ap (λ (t : Tree). t.root) (split_is (splitting tree forest o above n left right can)))
up_still tree forest o above n left right can (p ∷ q ∷ up) once is =
    let other : (o == q) ≡ false = apart_of (o == q) refl in
    (names_still tree forest o above n left right can q p is.0.0 other is.0.1, up_still tree forest o above n left right can (q ∷ up) (λ x. (let h = once x in omega (arith, h))) is.1)
  where
    apart_of : (b : Bool) → (o == q) ≡ b → b ≡ false
    apart_of false is' = refl
    apart_of true is' =
        let one : ◌≡◌ {A = ℕ} (cond (o == q) 1 0) 1 = ap (λ (b : Bool). let n : ℕ = cond b 1 0 in n) is' in
        let two : ◌≡◌ {A = ℕ} (cond (q == q) 1 0) 1 = ap (λ (b : Bool). let n : ℕ = cond b 1 0 in n) (eq-eqb q q refl) in
        absurd (omega (arith, once q, one, two))

-- a box that is set afterwards needn't grow before
set_box : (t u : Bool) (x y z : Corners) → (u ≡ true → t ≡ true) → cond t x (cond u y z) ≡ cond t x z
set_box true u x y z h = refl
set_box false false x y z h = refl
set_box false true x y z h = let no : false ≡ true = h refl in cc

among_one : (o : ℕ) (m : Option ℕ) → names (is_among (o ∷ [])) m ≡ true → names (λ q. q == o) m ≡ true
among_one o None h = cc
among_one o (Some q) h = by (o == q) refl h
  where
    by : (t : Bool) → (o == q) ≡ t → (t || false) ≡ true → (q == o) ≡ true
    by true is h' = eq-eqb q o (sym (eqb-true o q is))
    by false is h' = cc

reboxed_grown : (o : ℕ) (b l : Corners) (es : List Entry) → map (reboxed o l) (map (widened (o ∷ []) b) es) ≡ map (reboxed o l) es
reboxed_grown o b l [] = refl
reboxed_grown o b l (e ∷ es) =
    ap (λ (c : Corners). (record { b = c; to = e.to }) ∷ map (reboxed o l) (map (widened (o ∷ []) b) es)) (set_box (names (λ q. q == o) (child_of e)) (names (is_among (o ∷ [])) (child_of e)) l (union e.b b) e.b (among_one o (child_of e)))
    ∙ ap (λ (xs : List Entry). reboxed o l e ∷ xs) (reboxed_grown o b l es)

-- the pages further up have their entries still
others_still : (tree : Tree) (forest : Forest tree) (o above n : ℕ) (left right : List Entry) (can : CanSplit tree o above left right n) (b : Corners) (below : PageNo) (pages : List PathPage)
    → ((q : ℕ) → times q (o ∷ page_numbers pages) ≤ 1) → ((q : ℕ) → times q (above ∷ page_numbers pages) ≤ 1) → AllHave tree b below pages → AllHave (split tree o above left right n) b below pages
others_still tree forest o above n left right can b below [] not_o not_above all = all
others_still tree forest o above n left right can b below (p ∷ pages) not_o not_above all =
    let s = all.0 in (
      record {
        node = round (splitting tree forest o above n left right can) p.page.0 s.node;
        there = split_at_old tree forest o above n left right can p.page.0 s.node (other_page o (p ∷ pages) p not_o (inl refl)) s.there;
        entries_are = other_entries tree forest o above n left right can p.page.0 s.node s.there (other_page above (p ∷ pages) p not_above (inl refl)) ∙ s.entries_are;
      },
      others_still tree forest o above n left right can b p.page pages (λ q. (let h = not_o q in omega (arith, h))) (λ q. (let h = not_above q in omega (arith, h))) all.1,
    )

-- the plan for the pages above is right for the tree that comes of the split
pub divided_up : (tree : Tree) (forest : Forest tree) (fanout : ℕ) → IsFanout fanout → (b : Corners) (carry : Carry) (to : To) (page next : PathPage) (pages : List PathPage) (stays moves : List Entry) (n : PageNo)
    → (u : AreUp tree b carry to page (next ∷ pages)) → (d : AreDivided fanout (with_carry carry page.entries.items) stays moves) → IsFree tree n.0 → (n.0 == 0) ≡ false
    → AreUp (split_at tree page next to stays moves n.0) b (Divided page.page (least stays) (least moves)) (Child n) next pages
divided_up tree forest fanout fan b carry to page next pages stays moves n u d free some =
    let o = page.page.0 in
    let above = next.page.0 in
    let left = map (known to) stays in
    let right = map (known to) moves in
    let can = can_split tree forest fanout fan b carry to page next pages stays moves n.0 u d free in
    let c = splitting tree forest o above n.0 left right can in
    let behind : (q : ℕ) → times q (above ∷ page_numbers pages) ≤ 1 = λ q. fewer_times q o (above ∷ page_numbers pages) u.once in
    let a = u.others.0 in
    record {
      up = up_still tree forest o above n.0 left right can (above ∷ page_numbers pages) u.once u.up.1;
      hand = record {
        node = round c above a.node;
        there = split_at_old tree forest o above n.0 left right can above a.node (other_page o (next ∷ pages) next u.once (inl refl)) a.there;
        entries_are = above_entries tree forest o above n.0 left right can a.node
            ∙ ap (λ (es : List Entry). map (reboxed o (least left)) es ++ entry_for (least right) n.0 ∷ []) a.entries_are
            ∙ ap (λ (es : List Entry). es ++ entry_for (least right) n.0 ∷ []) (reboxed_grown o b (least left) next.entries.items)
            ∙ (λ i. map (reboxed o (least_known to stays i)) next.entries.items ++ entry_for (least_known to moves i) n.0 ∷ []);
      };
      others = others_still tree forest o above n.0 left right can b next.page pages (λ q. (let h = u.once q in omega (arith, h))) behind u.others.1;
      once = behind;
      none = split_free tree forest o above n.0 left right can 0 some u.none;
    }
