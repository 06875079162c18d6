-- What a plan has of the pages that it is for.
use Rattle.std.proofs.Common.{inl, inr, ◌≡◌, ℕ, ◌<◌, ◌≤◌, Option, Some, None, List, [], ◌∷◌, ◌++◌, length, map, reverse, refl, sym, ◌∙◌, ap, subst, arith}
use Rattle.std.specs.Prelude.{vec_capacity}
use Rattle.std.proofs.lemmas.List.{length-map, map-append, reverse-append, reverse-reverse}
use Rattle.isp_base.specs.Lists.{Has}
use Rattle.isp_base.specs.declared.page_no.PageNo.{PageNo}
use Rattle.isp_format.specs.Control.{IsFanout}
use Rattle.isp_mbr.specs.Corners.{Corners}
use Rattle.isp_forest.specs.declared.entry.Entry.{Entry}
use Rattle.isp_laws.proofs.ListLaws.{Has-append_left, Has-append_right}
use Rattle.isp_rplan.proofs.KnownLaws.{parts_of}
use Rattle.isp_rplan.specs.Plans.{AreParted, IsPlan, carry_of, moves_of}
use Rattle.isp_rplan.specs.declared.steps.Carry.{Carry}
use Rattle.isp_rplan.specs.declared.steps.Carry.TheVariants.{Added}
use Rattle.isp_rplan.specs.declared.steps.NodeHead.{NodeHead}
use Rattle.isp_rplan.specs.declared.steps.PathPage.{PathPage}
use Rattle.isp_rplan.specs.declared.steps.Planned.{Planned}
use Rattle.isp_rsettle.specs.Placed.{path_number}
use Rattle.isp_rsettle.specs.Settling.{AreSome, HasRoomFor, HaveSome}
use Rattle.isp_space.specs.Spaces.{most_counted}
use Rattle.isp_rinsert.specs.Calls.{most_taken}
use Rattle.isp_rinsert.specs.Preparing.{IsReady, IsWay, step_number}
use Rattle.isp_rinsert.specs.declared.preparing.Prepared.{Prepared}
use Rattle.isp_rinsert.specs.declared.way.Way.{Way}

-- ---- lists the other way round

pub map_reverse : {X Y : Type 0} (f : X → Y) (xs : List X) → map f (reverse xs) ≡ reverse (map f xs)
map_reverse {X = X} {Y = Y} f [] = refl
map_reverse {X = X} {Y = Y} f (x ∷ xs) =
    ap (map f) (reverse-append (x ∷ []) xs)
    ∙ map-append f (reverse xs) (x ∷ [])
    ∙ ap (λ (l : List Y). l ++ f x ∷ []) (map_reverse f xs)
    ∙ sym (reverse-append (f x ∷ []) (map f xs))

pub has_reverse : {X : Type 0} (xs : List X) (x : X) → Has xs x → Has (reverse xs) x
has_reverse {X = X} [] x h = absurd h
has_reverse {X = X} (z ∷ xs) x (inl same) = subst (λ (l : List X). Has l x) (sym (reverse-append (z ∷ []) xs)) (Has-append_right (reverse xs) (z ∷ []) x (inl same))
has_reverse {X = X} (z ∷ xs) x (inr more) = subst (λ (l : List X). Has l x) (sym (reverse-append (z ∷ []) xs)) (Has-append_left (reverse xs) (z ∷ []) x (has_reverse xs x more))

pub has_reversed : {X : Type 0} (xs : List X) (x : X) → Has (reverse xs) x → Has xs x
has_reversed {X = X} xs x h = subst (λ (l : List X). Has l x) (reverse-reverse xs) (has_reverse (reverse xs) x h)

-- ---- a plan, page by page

plan_numbers : (fanout : ℕ) (b : Corners) (pages : List PathPage) (carry : Carry) (steps : List Planned) → IsPlan fanout b pages carry steps → map step_number steps ≡ map path_number pages
plan_numbers fanout b [] carry steps plan = ap (map step_number) plan
plan_numbers fanout b (p ∷ pages) carry [] plan = absurd plan
plan_numbers fanout b (p ∷ pages) carry (s ∷ steps) plan =
    ap (λ (q : PageNo). q.0 ∷ map step_number steps) plan.0.page_is
    ∙ ap (λ (l : List ℕ). p.page.0 ∷ l) (plan_numbers fanout b pages (carry_of b s) steps plan.1)

-- what is made of one of the pages
record From (pages : List PathPage) (s : Planned) : Type 0 where
  p : PathPage
  has : Has pages p
  page_is : s.page ≡ p.page
  head_is : s.head ≡ p.head

plan_from : (fanout : ℕ) (b : Corners) (pages : List PathPage) (carry : Carry) (steps : List Planned) → IsPlan fanout b pages carry steps → (s : Planned) → Has steps s → From pages s
plan_from fanout b [] carry steps plan s h = absurd (subst (λ (l : List Planned). Has l s) plan h)
plan_from fanout b (p ∷ pages) carry [] plan s h = absurd h
plan_from fanout b (p ∷ pages) carry (x ∷ steps) plan s (inl same) = subst (From (p ∷ pages)) same (record { p = p; has = inl refl; page_is = plan.0.page_is; head_is = plan.0.head_is })
plan_from fanout b (p ∷ pages) carry (x ∷ steps) plan s (inr more) =
    let f : From pages s = plan_from fanout b pages (carry_of b x) steps plan.1 s more in
    record { p = f.p; has = inr f.has; page_is = f.page_is; head_is = f.head_is }

some_of : (fanout : ℕ) → IsFanout fanout → (all stays : List Entry) (moves : Option (List Entry)) → AreParted fanout all stays moves → AreSome stays moves
some_of fanout fan all stays None parted = tt
some_of fanout fan all stays (Some moves) parted = let parts = parts_of 0 fanout all stays moves fan parted in (parts.division.left_some, parts.division.right_some)

plan_some : (fanout : ℕ) → IsFanout fanout → (b : Corners) (pages : List PathPage) (carry : Carry) (steps : List Planned) → IsPlan fanout b pages carry steps → HaveSome steps
plan_some fanout fan b [] carry steps plan s h = absurd (subst (λ (l : List Planned). Has l s) plan h)
plan_some fanout fan b (p ∷ pages) carry [] plan s h = absurd h
plan_some fanout fan b (p ∷ pages) carry (x ∷ steps) plan s (inl same) = subst (λ (z : Planned). AreSome z.stays.items (moves_of z)) same (some_of fanout fan _ x.stays.items (moves_of x) plan.0.parts)
plan_some fanout fan b (p ∷ pages) carry (x ∷ steps) plan s (inr more) = plan_some fanout fan b pages (carry_of b x) steps plan.1 s more

-- a plan for the pages of a way can be settled
pub ready_of : (pages : ℕ) (path : List ℕ) (fanout : ℕ) (b : Corners) (way : Way) (w : Prepared) → IsFanout fanout → IsWay pages path way → IsPlan fanout b (reverse way.pages.items) (Added b) (reverse w.steps.items) → w.counter < most_counted
    → HasRoomFor (length way.pages.items) w.room → w.news.items ≡ [] → most_taken ≤ vec_capacity w.news → IsReady pages path w
ready_of pages path fanout b way w fan is plan counter room none news =
    let steps : List Planned = w.steps.items in
    let all : List PathPage = way.pages.items in
    let numbers : map step_number steps ≡ map path_number all =
    sym (reverse-reverse (map step_number steps))
    ∙ ap reverse (sym (map_reverse step_number steps) ∙ plan_numbers fanout b (reverse all) (Added b) (reverse steps) plan ∙ map_reverse path_number all)
    ∙ reverse-reverse (map path_number all) in
    let long : length steps ≡ length all = sym (length-map steps step_number) ∙ ap (λ (l : List ℕ). length l) numbers ∙ length-map all path_number in
    let few = is.few in
    record {
      path_is = numbers ∙ is.numbers;
      few = omega (arith, long, few);
      inside = λ s h. (let f = from s h in subst (λ (q : PageNo). q.0 < pages) (sym f.page_is) (is.inside f.p (has_reversed all f.p f.has)));
      low = λ s h. (let f = from s h in let low = is.low f.p (has_reversed all f.p f.has) in subst (λ (n : NodeHead). n.level < 255) (sym f.head_is) (omega (arith, low)));
      some = λ s h. plan_some fanout fan b (reverse all) (Added b) (reverse steps) plan s (has_reverse steps s h);
      counter = counter;
      room = subst (λ (n : ℕ). HasRoomFor n w.room) (sym long) room;
      none = none;
      news = news;
    }
  where
    from : (s : Planned) → Has w.steps.items s → From (reverse way.pages.items) s
    from s h = plan_from fanout b (reverse way.pages.items) (Added b) (reverse w.steps.items) plan s (has_reverse w.steps.items s h)
