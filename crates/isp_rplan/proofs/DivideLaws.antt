-- Exactly the pages that overflow are divided, and each of these divisions may be made: the plan is carried out on the tree from
-- the page at hand up.
use Rattle.std.proofs.Common.{◌≡◌, inl, inr, ℕ, ◌+◌, ◌<◌, ◌≤◌, ◌==◌, Bool, true, false, cond, Option, Some, None, List, [], ◌∷◌, ◌++◌, length, map, reverse, refl, sym, ◌∙◌, ap, subst, arith, eq-eqb, ℤ, ◌⊎◌}
use Rattle.std.proofs.lemmas.List.{length-map, reverse-append}
use Rattle.isp_base.specs.Lists.{Has, times}
use Rattle.isp_base.specs.declared.page_no.PageNo.{PageNo}
use Rattle.isp_format.specs.Control.{IsFanout}
use Rattle.isp_mbr.specs.Corners.{Corners}
use Rattle.isp_forest.specs.declared.entry.Entry.{Entry}
use Rattle.isp_forest.specs.declared.entry.To.{To}
use Rattle.isp_forest.specs.declared.entry.To.TheVariants.{Child, Row}
use Rattle.isp_forest.specs.Forest.{Forest}
use Rattle.isp_forest.specs.Place.{CanRelieve, CanSplit, Division, IsFree}
use Rattle.isp_forest.specs.Steps.{add, raise, widened}
use Rattle.isp_forest.specs.Tree.{Tree, least, page_at}
use Rattle.isp_laws.proofs.AddLaws.{add_keeps}
use Rattle.isp_laws.proofs.ListLaws.{Has-append}
use Rattle.isp_laws.proofs.SplitLaws.{split_keeps}
use Rattle.isp_rplan.specs.Divisions.{AreDue, AreNew, CanDivide, division_page, division_root, divisions, known_after, needs, news_after, number_of, page_numbers, pages_needed, raised_to}
use Rattle.isp_rplan.specs.Plans.{AreDivided, AreParted, AreWhole, DividesAll, IsDivided, IsPlan, IsPlanned, carry_of, carry_up, entry_count, known, moves_of, with_carry}
use Rattle.isp_rplan.specs.declared.steps.Carry.{Carry}
use Rattle.isp_rplan.specs.declared.steps.Carry.TheVariants.{Added, Divided, Grown}
use Rattle.isp_rplan.specs.declared.steps.PathPage.{PathPage}
use Rattle.isp_rplan.specs.declared.steps.Planned.{Planned}
use Rattle.isp_rplan.proofs.BeginLaws.{BeginsUp, begins_up, grown_free}
use Rattle.isp_rplan.proofs.KnownLaws.{divided_known}
use Rattle.isp_rplan.proofs.RootLaws.{can_divide}
use Rattle.isp_rplan.proofs.StepLaws.{AreUp, can_split, divided_up, hand_known, split_at, split_free, whole_known}

-- ---- new pages

counted : (n : PageNo) (news : List PageNo) → Has news n → 0 < times n.0 (map number_of news)
counted n [] h = absurd h
counted n (m ∷ news) (inl same) =
    let one : ◌≡◌ {A = ℕ} (cond (m.0 == n.0) 1 0) 1 = is_one m.0 n.0 (ap number_of same) in omega (arith, one)
  where
    is_one : (x y : ℕ) → x ≡ y → ◌≡◌ {A = ℕ} (cond (x == y) 1 0) 1
    is_one x y e = ap (λ (b : Bool). let k : ℕ = cond b 1 0 in k) (eq-eqb x y e)
counted n (m ∷ news) (inr h) = let later = counted n news h in omega (arith, later)

-- a number that stands on the list isn't the first one
apart_from : (x y : ℕ) (news : List PageNo) → cond (x == y) 1 0 + times y (map number_of news) ≤ 1 → 0 < times y (map number_of news) → (x == y) ≡ false
apart_from x y news once there = by (x == y) refl
  where
    by : (b : Bool) → (x == y) ≡ b → b ≡ false
    by false is = refl
    by true is = let one : ◌≡◌ {A = ℕ} (cond (x == y) 1 0) 1 = ap (λ (b : Bool). let k : ℕ = cond b 1 0 in k) is in absurd (omega (arith, once, there, one))

pub some_page : (tree : Tree) (n : PageNo) (rest : List PageNo) → AreNew tree (n ∷ rest) → (n.0 == 0) ≡ false
some_page tree n rest new = by (n.0 == 0) refl
  where
    by : (b : Bool) → (n.0 == 0) ≡ b → b ≡ false
    by false is = refl
    by true is =
        let one : ◌≡◌ {A = ℕ} (cond (n.0 == 0) 1 0) 1 = ap (λ (b : Bool). let k : ℕ = cond b 1 0 in k) is in
        let once : 1 + (cond (n.0 == 0) 1 0 + times 0 (map number_of rest)) ≤ 1 = new.once 0 in
        absurd (omega (arith, once, one))

pub others_differ : (tree : Tree) (n : PageNo) (rest : List PageNo) → AreNew tree (n ∷ rest) → (x : PageNo) → Has rest x → (n.0 == x.0) ≡ false
others_differ tree n rest new x h =
    let once = new.once x.0 in
    apart_from n.0 x.0 rest (omega (arith, once)) (counted x rest h)

pub fewer_new : (q n : ℕ) (rest : List ℕ) → times q (0 ∷ n ∷ rest) ≤ 1 → times q (0 ∷ rest) ≤ 1
fewer_new q n rest once = omega (arith, once)

-- ---- no page is divided above one that stays whole

abbrev AreFew : ℕ → List PathPage → Type 0
AreFew fanout pages = (p : PathPage) → Has pages p → length p.entries.items ≤ fanout

pub stays_whole : (fanout : ℕ) (page : PathPage) (child : PageNo) (b : Corners) (s : Planned) → length page.entries.items ≤ fanout → IsPlanned fanout page (Grown child b) s → moves_of s ≡ None
stays_whole fanout page child b s few is = by (moves_of s) is.parts
  where
    by : (m : Option (List Entry)) → AreParted fanout (map (widened (child.0 ∷ []) b) page.entries.items) s.stays.items m → m ≡ None
    by None w = refl
    by (Some moves) d = let long = length-map page.entries.items (widened (child.0 ∷ []) b) in absurd (omega (arith, d.over, long, few))

pub none_above : (fanout : ℕ) (b : Corners) (to : To) (s : Planned) (pages : List PathPage) (steps : List Planned) (news : List PageNo) → AreFew fanout pages → moves_of s ≡ None → IsPlan fanout b pages (carry_of b s) steps → divisions to (s ∷ steps) news ≡ []
none_above fanout b to s pages [] news few none plan = ap (λ (m : Option (List Entry)). division_root to s m news) none
none_above fanout b to s [] (next ∷ steps) news few none plan = absurd (let no : ◌≡◌ {A = List Planned} (next ∷ steps) [] = plan in cc)
none_above fanout b to s (p ∷ pages) (next ∷ steps) news few none plan =
    let up : carry_of b s ≡ Grown s.page b = ap (carry_up b s.page s.stays.items) none in
    let whole : moves_of next ≡ None = stays_whole fanout p s.page b next (few p (inl refl)) (subst (λ (c : Carry). IsPlanned fanout p c next) up plan.0) in
    ap (λ (m : Option (List Entry)). division_page to s m news ++ divisions (known_after to m news) (next ∷ steps) (news_after m news)) none
    ∙ none_above fanout b to next pages steps news (λ x h. few x (inr h)) whole plan.1

-- ---- the page at hand

whole_due : (fanout : ℕ) (b : Corners) (tree : Tree) → Forest tree → (carry : Carry) (to : To) (page : PathPage) (pages : List PathPage) (s : Planned) (steps : List Planned) (news : List PageNo)
    → AreUp tree b carry to page pages → AreFew fanout pages → IsPlan fanout b (page ∷ pages) carry (s ∷ steps) → moves_of s ≡ None → AreDue fanout tree (page_numbers (page ∷ pages)) to (s ∷ steps) news
whole_due fanout b tree forest carry to page pages s steps news u few plan none =
    let empty : divisions to (s ∷ steps) news ≡ [] = none_above fanout b to s pages steps news few none plan.1 in
    let w : AreWhole fanout (with_carry carry page.entries.items) s.stays.items = subst (λ (m : Option (List Entry)). AreParted fanout (with_carry carry page.entries.items) s.stays.items m) none plan.0.parts in
    let long : length u.hand.node.entries ≡ length s.stays.items = ap length (sym (whole_known tree forest fanout b carry to page pages s.stays.items u w)) ∙ length-map s.stays.items (known to) in
    let same : length s.stays.items ≡ length (with_carry carry page.entries.items) = ap length w.stays_is in
    let count : entry_count (page_at tree page.page.0) ≡ length u.hand.node.entries = ap entry_count u.hand.there in
    let at_most : entry_count (page_at tree page.page.0) ≤ fanout = omega (arith, count, long, same, w.few) in
    record {
      can = subst (λ (ds : List Division). CanRelieve tree (raised_to (s ∷ steps) news) (page_numbers (page ∷ pages)) ds) (sym empty) tt;
      all = subst (λ (ds : List Division). DividesAll fanout tree (raised_to (s ∷ steps) news) (page_numbers (page ∷ pages)) ds) (sym empty) at_most;
    }

-- how the page at hand is divided
divides_it : (fanout : ℕ) (tree : Tree) → Forest tree → (b : Corners) (carry : Carry) (to : To) (page : PathPage) (pages : List PathPage) (stays moves : List Entry) (n : ℕ)
    → AreUp tree b carry to page pages → AreDivided fanout (with_carry carry page.entries.items) stays moves
    → IsDivided fanout (page_at tree page.page.0) (record { page = n; left = map (known to) stays; right = map (known to) moves })
divides_it fanout tree forest b carry to page pages stays moves n u d = record {
  node = u.hand.node;
  there = u.hand.there;
  parts = subst (λ (es : List Entry). AreDivided fanout es (map (known to) stays) (map (known to) moves)) (hand_known tree forest b carry to page pages u) (divided_known fanout to (with_carry carry page.entries.items) stays moves d);
}

-- what is to be shown of a page below the root, where these move
abbrev IsDueBy : (fanout : ℕ) (tree : Tree) (up : List ℕ) (to : To) (s t : Planned) (steps : List Planned) (news : List PageNo) → Option (List Entry) → Type 0
IsDueBy fanout tree up to s t steps news m =
    CanRelieve tree (raised_to (t ∷ steps) (news_after m news)) up (division_page to s m news ++ divisions (known_after to m news) (t ∷ steps) (news_after m news))
    × DividesAll fanout tree (raised_to (t ∷ steps) (news_after m news)) up (division_page to s m news ++ divisions (known_after to m news) (t ∷ steps) (news_after m news))

-- what is to be shown of the pages above it, on the tree in which it was divided
abbrev IsDueAbove : (fanout : ℕ) (b : Corners) (page : PathPage) (pages : List PathPage) (steps : List Planned) → Type 0
IsDueAbove fanout b page pages steps =
    (tree : Tree) → Forest tree → (carry : Carry) (to : To) (news : List PageNo) → AreUp tree b carry to page pages → IsPlan fanout b (page ∷ pages) carry steps → AreNew tree news → pages_needed steps ≤ length news
    → AreDue fanout tree (page_numbers (page ∷ pages)) to steps news

divided_due : (fanout : ℕ) → IsFanout fanout → (b : Corners) (tree : Tree) → Forest tree → (carry : Carry) (to : To) (page next : PathPage) (pages : List PathPage) (s t : Planned) (steps : List Planned) (n : PageNo) (news : List PageNo) (moves : List Entry)
    → AreUp tree b carry to page (next ∷ pages) → IsPlan fanout b (page ∷ next ∷ pages) carry (s ∷ t ∷ steps) → AreNew tree (n ∷ news) → pages_needed (t ∷ steps) ≤ length news → moves_of s ≡ Some moves
    → IsDueAbove fanout b next pages (t ∷ steps) → IsDueBy fanout tree (page_numbers (page ∷ next ∷ pages)) to s t steps (n ∷ news) (Some moves)
divided_due fanout fan b tree forest carry to page next pages s t steps n news moves u plan new enough is again =
    let all = with_carry carry page.entries.items in
    let o = page.page.0 in
    let above = next.page.0 in
    let stays = s.stays.items in
    let left = map (known to) stays in
    let right = map (known to) moves in
    let d : AreDivided fanout all stays moves = subst (λ (m : Option (List Entry)). AreParted fanout all stays m) is plan.0.parts in
    let some : (n.0 == 0) ≡ false = some_page tree n news new in
    let free : IsFree tree n.0 = new.free n (inl refl) in
    let can : CanSplit tree o above left right n.0 = can_split tree forest fanout fan b carry to page next pages stays moves n.0 u d free in
    let carry_is : carry_of b s ≡ Divided page.page (least stays) (least moves) = ap (carry_up b s.page stays) is ∙ ap (λ (p : PageNo). Divided p (least stays) (least moves)) plan.0.page_is in
    let rest = again (split_at tree page next to stays moves n.0)
    (split_keeps tree o above left right n.0 forest can)
    (Divided page.page (least stays) (least moves)) (Child n) news
    (divided_up tree forest fanout fan b carry to page next pages stays moves n u d free some)
    (subst (λ (c : Carry). IsPlan fanout b (next ∷ pages) c (t ∷ steps)) carry_is plan.1)
    (record {
      free = λ x h. split_free tree forest o above n.0 left right can x.0 (others_differ tree n news new x h) (new.free x (inr h));
      once = λ q. fewer_new q n.0 (map number_of news) (new.once q);
    })
    enough in
    ((can, rest.can), (divides_it fanout tree forest b carry to page (next ∷ pages) stays moves n.0 u d, rest.all))

inner_due : (fanout : ℕ) → IsFanout fanout → (b : Corners) (tree : Tree) → Forest tree → (carry : Carry) (to : To) (page next : PathPage) (pages : List PathPage) (s t : Planned) (steps : List Planned) (news : List PageNo) (m : Option (List Entry))
    → AreUp tree b carry to page (next ∷ pages) → AreFew fanout (next ∷ pages) → IsPlan fanout b (page ∷ next ∷ pages) carry (s ∷ t ∷ steps) → AreNew tree news → pages_needed (s ∷ t ∷ steps) ≤ length news → moves_of s ≡ m
    → IsDueAbove fanout b next pages (t ∷ steps) → AreDue fanout tree (page_numbers (page ∷ next ∷ pages)) to (s ∷ t ∷ steps) news
inner_due fanout fan b tree forest carry to page next pages s t steps news None u few plan new enough is again = whole_due fanout b tree forest carry to page (next ∷ pages) s (t ∷ steps) news u few plan is
inner_due fanout fan b tree forest carry to page next pages s t steps [] (Some moves) u few plan new enough is again =
    let one : needs (moves_of s) ≡ 1 = ap needs is in absurd (omega (arith, enough, one))
inner_due fanout fan b tree forest carry to page next pages s t steps (n ∷ news) (Some moves) u few plan new enough is again =
    let one : needs (moves_of s) ≡ 1 = ap needs is in
    let due = divided_due fanout fan b tree forest carry to page next pages s t steps n news moves u plan new (omega (arith, enough, one)) is again in
    let whole : IsDueBy fanout tree (page_numbers (page ∷ next ∷ pages)) to s t steps (n ∷ news) (moves_of s) = subst (λ (m : Option (List Entry)). IsDueBy fanout tree (page_numbers (page ∷ next ∷ pages)) to s t steps (n ∷ news) m) (sym is) due in
    record { can = whole.0; all = whole.1 }

-- ---- the root

abbrev IsDueAtRoot : (fanout : ℕ) (tree : Tree) (o q : ℕ) (to : To) (s : Planned) (news : List PageNo) → Option (List Entry) → Type 0
IsDueAtRoot fanout tree o q to s news m = CanRelieve tree q (o ∷ []) (division_root to s m news) × DividesAll fanout tree q (o ∷ []) (division_root to s m news)

root_due : (fanout : ℕ) → IsFanout fanout → (b : Corners) (tree : Tree) → Forest tree → (carry : Carry) (to : To) (page : PathPage) (s : Planned) (news : List PageNo) (m : Option (List Entry))
    → AreUp tree b carry to page [] → IsPlan fanout b (page ∷ []) carry (s ∷ []) → AreNew tree news → pages_needed (s ∷ []) ≤ length news → moves_of s ≡ m
    → AreDue fanout tree (page_numbers (page ∷ [])) to (s ∷ []) news
root_due fanout fan b tree forest carry to page s news None u plan new enough is = whole_due fanout b tree forest carry to page [] s [] news u (λ p h. absurd h) plan is
root_due fanout fan b tree forest carry to page s [] (Some moves) u plan new enough is = let one : needs (moves_of s) ≡ 1 = ap needs is in absurd (omega (arith, enough, one))
root_due fanout fan b tree forest carry to page s (q ∷ []) (Some moves) u plan new enough is = let one : needs (moves_of s) ≡ 1 = ap needs is in absurd (omega (arith, enough, one))
root_due fanout fan b tree forest carry to page s (q ∷ n ∷ news) (Some moves) u plan new enough is =
    let all = with_carry carry page.entries.items in
    let stays = s.stays.items in
    let d : AreDivided fanout all stays moves = subst (λ (m : Option (List Entry)). AreParted fanout all stays m) is plan.0.parts in
    let free_q : IsFree tree q.0 = new.free q (inl refl) in
    let can : CanSplit (raise tree q.0) q.0 tree.root (map (known to) stays) (map (known to) moves) n.0 =
    can_divide tree forest fanout fan b carry to page stays moves q.0 n.0 u d free_q (new.free n (inr (inl refl))) (others_differ tree q (n ∷ news) new n (inl refl)) in
    let here : CanSplit (raise tree q.0) q.0 page.page.0 (map (known to) stays) (map (known to) moves) n.0 = subst (λ (o : ℕ). CanSplit (raise tree q.0) q.0 o (map (known to) stays) (map (known to) moves) n.0) (sym u.up) can in
    let due : IsDueAtRoot fanout tree page.page.0 q.0 to s (q ∷ n ∷ news) (Some moves) = ((free_q, here, refl), (divides_it fanout tree forest b carry to page [] stays moves n.0 u d, refl)) in
    let whole : IsDueAtRoot fanout tree page.page.0 q.0 to s (q ∷ n ∷ news) (moves_of s) = subst (λ (m : Option (List Entry)). IsDueAtRoot fanout tree page.page.0 q.0 to s (q ∷ n ∷ news) m) (sym is) due in
    record { can = whole.0; all = whole.1 }

-- ---- from the page at hand up to the root

pub plan_due : (fanout : ℕ) → IsFanout fanout → (b : Corners) (page : PathPage) (pages : List PathPage) (steps : List Planned) → AreFew fanout pages → IsDueAbove fanout b page pages steps
plan_due fanout fan b page pages [] few tree forest carry to news u plan new enough = absurd plan
plan_due fanout fan b page [] (s ∷ []) few tree forest carry to news u plan new enough = root_due fanout fan b tree forest carry to page s news (moves_of s) u plan new enough refl
plan_due fanout fan b page [] (s ∷ t ∷ steps) few tree forest carry to news u plan new enough = absurd (let no : ◌≡◌ {A = List Planned} (t ∷ steps) [] = plan.1 in cc)
plan_due fanout fan b page (next ∷ pages) (s ∷ []) few tree forest carry to news u plan new enough = absurd plan.1
plan_due fanout fan b page (next ∷ pages) (s ∷ t ∷ steps) few tree forest carry to news u plan new enough =
    inner_due fanout fan b tree forest carry to page next pages s t steps news (moves_of s) u few plan new enough refl (plan_due fanout fan b next pages (t ∷ steps) (λ p h. few p (inr h)))

-- ---- the whole path

pub Has-reverse : {X : Type 0} (xs : List X) (x : X) → Has (reverse xs) x → Has xs x
Has-reverse [] x h = h
Has-reverse (y ∷ xs) x h = by (Has-append (reverse xs) (y ∷ []) x (subst (λ (l : List _). Has l x) (reverse-append (y ∷ []) xs) h)) (Has-reverse xs x)
  where
    by : Has (reverse xs) x ⊎ Has (y ∷ []) x → (Has (reverse xs) x → Has xs x) → Has (y ∷ xs) x
    by (inl there) again = inr (again there)
    by (inr (inl same)) again = inl same
    by (inr (inr none)) again = absurd none

numbers_append : (xs ys : List PathPage) → page_numbers (xs ++ ys) ≡ page_numbers xs ++ page_numbers ys
numbers_append [] ys = refl
numbers_append (x ∷ xs) ys = ap (λ (l : List ℕ). x.page.0 ∷ l) (numbers_append xs ys)

pub numbers_reverse : (pages : List PathPage) → page_numbers (reverse pages) ≡ reverse (page_numbers pages)
numbers_reverse [] = refl
numbers_reverse (p ∷ pages) =
    ap page_numbers (reverse-append (p ∷ []) pages)
    ∙ numbers_append (reverse pages) (p ∷ [])
    ∙ ap (λ (l : List ℕ). l ++ p.page.0 ∷ []) (numbers_reverse pages)
    ∙ sym (reverse-append (p.page.0 ∷ []) (page_numbers pages))

pub plan_divides : (fanout : ℕ) (tree : Tree) (pages : List PathPage) (b : Corners) (key : ℤ) (number : ℕ) (steps : List Planned) (news : List PageNo) → CanDivide fanout tree pages b steps news
    → AreDue fanout (add tree (page_numbers pages) b key number) (reverse (page_numbers pages)) (Row key number) steps news
plan_divides fanout tree pages b key number steps news c =
    let path = page_numbers pages in
    let grown : Tree = add tree path b key number in
    let begun : BeginsUp tree path pages b key number = begins_up tree c.forest pages b key number c.stands c.none c.has in
    let due : AreDue fanout grown (page_numbers (begun.leaf ∷ begun.above)) (Row key number) steps news = plan_due fanout c.fan b begun.leaf begun.above steps
    (λ p h. c.few p (Has-reverse pages p (subst (λ (l : List PathPage). Has l p) (sym begun.is) (inr h))))
    grown (add_keeps tree path b key number c.forest c.stands c.box) (Added b) (Row key number) news begun.are_up
    (subst (λ (l : List PathPage). IsPlan fanout b l (Added b) steps) begun.is c.plan)
    (record { free = λ n h. grown_free tree c.forest path c.stands b key number n.0 (c.new.free n h); once = c.new.once })
    c.enough in
    subst (λ (up : List ℕ). AreDue fanout grown up (Row key number) steps news) (ap page_numbers (sym begun.is) ∙ numbers_reverse pages) due
