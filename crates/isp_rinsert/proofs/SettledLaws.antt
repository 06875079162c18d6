-- The settled pages as a list: their numbers, and what is found among them.
use Rattle.std.proofs.Common.{inl, inr, ◌≡◌, ◌⊎◌, ℕ, zero, suc, ◌+◌, ◌<◌, ◌≤◌, ◌==◌, ◌||◌, Bool, true, false, cond, Option, Some, None, List, [], ◌∷◌, ◌++◌, length, map, reverse, refl, ◌∙◌, ap, subst, arith, eqb-true, eq-eqb}
use Rattle.std.proofs.lemmas.List.{length-map, length-reverse, reverse-append}
use Rattle.isp_base.specs.Lists.{Has, times}
use Rattle.isp_base.specs.declared.page_no.PageNo.{PageNo}
use Rattle.isp_forest.specs.declared.entry.Entry.{Entry}
use Rattle.isp_forest.specs.declared.entry.To.{To}
use Rattle.isp_forest.specs.declared.entry.To.TheVariants.{Child}
use Rattle.isp_forest.specs.Tree.{Node, numbers, page_in}
use Rattle.isp_laws.proofs.ListLaws.{Has-map, Has-times, Source, no_longer, times-append}
use Rattle.isp_page.specs.State.{is_among}
use Rattle.isp_page.specs.Touched.{AreAmong}
use Rattle.isp_rplan.specs.Plans.{moves_of}
use Rattle.isp_rplan.specs.declared.steps.Planned.{Planned}
use Rattle.isp_rsettle.specs.Placed.{page_number}
use Rattle.isp_rplan.specs.Divisions.{known_after, needs, news_after, pages_needed}
use Rattle.isp_rsettle.specs.Settling.{counter_after, node_with, nodes_of, settled, settled_page, settled_root}
use Rattle.isp_rsettle.specs.declared.outcome.Settled.{Settled}
use Rattle.isp_rinsert.specs.Applying.{written_numbers}
use Rattle.isp_rinsert.specs.Preparing.{step_number}
use Rattle.isp_rinsert.proofs.WriteLaws.{has_number}

needs_one : (m : Option (List Entry)) → needs m ≤ 1
needs_one None = omega arith
needs_one (Some moves) = omega arith

pub needed_few : (steps : List Planned) → pages_needed steps ≤ suc (length steps)
needed_few [] = omega arith
needed_few (s ∷ []) = let one = needs_one (moves_of s) in omega (arith, one)
needed_few (s ∷ next ∷ steps) = let one = needs_one (moves_of s) in let rest = needed_few (next ∷ steps) in omega (arith, one, rest)

-- they are the pages of the plan and those that are taken
pub counts : (steps : List Planned) (counter : ℕ) (to : To) (news : List PageNo) (x : ℕ) → length news ≡ pages_needed steps → times x (numbers (settled counter to steps news)) ≡ times x (map step_number steps) + times x (map page_number news)
counts [] counter to [] x e = omega arith
counts [] counter to (n ∷ news) x e = absurd (omega (arith, e))
counts (s ∷ []) counter to news x e = root (moves_of s) news e
  where
    root : (m : Option (List Entry)) (news : List PageNo) → length news ≡ needs m + needs m → times x (numbers (settled_root counter to s m news)) ≡ times x (s.page.0 ∷ []) + times x (map page_number news)
    root None [] e = omega arith
    root None (n ∷ news) e = absurd (omega (arith, e))
    root (Some moves) [] e = absurd (omega (arith, e))
    root (Some moves) (q ∷ []) e = absurd (omega (arith, e))
    root (Some moves) (q ∷ n ∷ []) e = omega arith
    root (Some moves) (q ∷ n ∷ m ∷ news) e = absurd (omega (arith, e))
counts (s ∷ next ∷ steps) counter to news x e = page (moves_of s) news e (λ c t ns k. counts (next ∷ steps) c t ns x k)
  where
    page : (m : Option (List Entry)) (news : List PageNo) → length news ≡ needs m + pages_needed (next ∷ steps)
        → ((c : ℕ) (t : To) (ns : List PageNo) → length ns ≡ pages_needed (next ∷ steps) → times x (numbers (settled c t (next ∷ steps) ns)) ≡ times x (map step_number (next ∷ steps)) + times x (map page_number ns))
        → times x (numbers (settled_page counter to s m news ++ settled (counter_after counter m) (known_after to m news) (next ∷ steps) (news_after m news))) ≡ times x (map step_number (s ∷ next ∷ steps)) + times x (map page_number news)
    page None news e rest = let r = rest counter to news (omega (arith, e)) in omega (arith, r)
    page (Some moves) [] e rest = absurd (omega (arith, e))
    page (Some moves) (n ∷ news) e rest = let r = rest (suc counter) (Child n) news (omega (arith, e)) in omega (arith, r)

times_reverse : (x : ℕ) (xs : List ℕ) → times x (reverse xs) ≡ times x xs
times_reverse x [] = refl
times_reverse x (y ∷ xs) =
    let parts : times x (reverse (y ∷ xs)) ≡ times x (reverse xs ++ y ∷ []) = ap (times x) (reverse-append (y ∷ []) xs) in
    omega (arith, parts, times-append x (reverse xs) (y ∷ []), times_reverse x xs)

map_numbers_reverse : (steps : List Planned) (x : ℕ) → times x (map step_number (reverse steps)) ≡ times x (map step_number steps)
map_numbers_reverse [] x = refl
map_numbers_reverse (s ∷ steps) x =
    let parts : times x (map step_number (reverse (s ∷ steps))) ≡ times x (map step_number (reverse steps ++ s ∷ [])) = ap (λ (l : List Planned). times x (map step_number l)) (reverse-append (s ∷ []) steps) in
    let again = map_numbers_reverse steps x in
    omega (arith, parts, pushed (reverse steps), again)
  where
    pushed : (l : List Planned) → times x (map step_number (l ++ s ∷ [])) ≡ times x (map step_number l) + times x (s.page.0 ∷ [])
    pushed [] = omega arith
    pushed (y ∷ l) = let h = pushed l in omega (arith, h)

pub written_are : (writes : List Settled) → written_numbers writes ≡ numbers (nodes_of writes)
written_are [] = refl
written_are (w ∷ writes) = ap (λ (l : List ℕ). w.page.0 ∷ l) (written_are writes)

-- the same of pages that are written for a plan that is given from the root down
pub written_counts : (steps : List Planned) (counter : ℕ) (to : To) (news : List PageNo) (writes : List Settled) → nodes_of writes ≡ settled counter to (reverse steps) news → length news ≡ pages_needed (reverse steps) → (x : ℕ) → times x (written_numbers writes) ≡ times x (map step_number steps) + times x (map page_number news)
written_counts steps counter to news writes is count x =
    ap (times x) (written_are writes ∙ ap numbers is) ∙ counts (reverse steps) counter to news x count ∙ ap (λ (n : ℕ). n + times x (map page_number news)) (map_numbers_reverse steps x)

pub among_times : (xs ys : List ℕ) → ((x : ℕ) → 0 < times x xs → 0 < times x ys) → AreAmong xs ys
among_times [] ys all = tt
among_times (x ∷ xs) ys all = (there x ys (all x (here x xs)), among_times xs ys (λ y h. all y (let more = later y x xs in omega (arith, more, h))))
  where
    here : (x : ℕ) (xs : List ℕ) → 0 < times x (x ∷ xs)
    here x xs = let e : (x == x) ≡ true = eq-eqb x x refl in let one : ◌≡◌ {A = ℕ} (cond (x == x) 1 0) 1 = ap (λ (b : Bool). let n : ℕ = cond b 1 0 in n) e in omega (arith, one)

    later : (y x : ℕ) (xs : List ℕ) → times y xs ≤ times y (x ∷ xs)
    later y x xs = omega arith

    there : (x : ℕ) (ys : List ℕ) → 0 < times x ys → is_among x ys ≡ true
    there x [] h = absurd (omega (arith, h))
    there x (y ∷ ys) h = by (y == x) refl h (there x ys)
      where
        by : (b : Bool) → (y == x) ≡ b → 0 < cond b 1 0 + times x ys → (0 < times x ys → is_among x ys ≡ true) → (b || is_among x ys) ≡ true
        by true is h again = refl
        by false is h again = again (omega (arith, h))

pub taken_among : (steps : List Planned) (counter : ℕ) (to : To) (news : List PageNo) (writes : List Settled) → nodes_of writes ≡ settled counter to (reverse steps) news → length news ≡ pages_needed (reverse steps) → AreAmong (map page_number news) (written_numbers writes)
taken_among steps counter to news writes is count = among_times (map page_number news) (written_numbers writes) (λ x h. (let c = written_counts steps counter to news writes is count x in omega (arith, c, h)))

pub written_few : (steps : List Planned) (counter : ℕ) (to : To) (news : List PageNo) (writes : List Settled) → nodes_of writes ≡ settled counter to (reverse steps) news → length news ≡ pages_needed (reverse steps) → length steps ≤ 17 → length (written_numbers writes) ≤ 35
written_few steps counter to news writes is count few =
    let all : List ℕ = map step_number steps ++ map page_number news in
    let most : length (written_numbers writes) ≤ length all = no_longer (written_numbers writes) all (λ x. (let c = written_counts steps counter to news writes is count x in omega (arith, c, times-append x (map step_number steps) (map page_number news)))) in
    let needed = needed_few (reverse steps) in
    let long : length all ≡ length steps + length news = long_both steps news in
    omega (arith, most, long, count, needed, few, length-reverse steps)
  where
    long_both : (steps : List Planned) (news : List PageNo) → length (map step_number steps ++ map page_number news) ≡ length steps + length news
    long_both [] news = let h : length (map page_number news) ≡ length news = length-map news page_number in omega (arith, h)
    long_both (s ∷ steps) news = let h = long_both steps news in omega (arith, h)

-- ---- which page is found

pub record IsIn (writes : List Settled) (x : ℕ) (page : Node) : Type 0 where
  pub w : Settled
  pub has : Has writes w
  pub at : w.page.0 ≡ x
  pub is : node_with w.head w.entries.items ≡ page

pub record IsNotIn (writes : List Settled) (rest : List (ℕ × Node)) (x : ℕ) (page : Node) : Type 0 where
  pub out : is_among x (written_numbers writes) ≡ false
  pub there : page_in rest x ≡ Some page

pub found_in : (writes : List Settled) (rest : List (ℕ × Node)) (x : ℕ) (page : Node) → page_in (nodes_of writes ++ rest) x ≡ Some page → IsIn writes x page ⊎ IsNotIn writes rest x page
found_in [] rest x page h = inr (record { out = refl; there = h })
found_in (w ∷ writes) rest x page h = by (w.page.0 == x) refl h (found_in writes rest x page)
  where
    by : (b : Bool) → (w.page.0 == x) ≡ b → cond b (Some (node_with w.head w.entries.items)) (page_in (nodes_of writes ++ rest) x) ≡ Some page → (page_in (nodes_of writes ++ rest) x ≡ Some page → IsIn writes x page ⊎ IsNotIn writes rest x page) → IsIn (w ∷ writes) x page ⊎ IsNotIn (w ∷ writes) rest x page
    by true is h again = inl (record { w = w; has = inl refl; at = eqb-true w.page.0 x is; is = cc })
    by false is h again = elim (again h) [
      | inl f ↦ inl (record { w = f.w; has = inr f.has; at = f.at; is = f.is })
      | inr f ↦ inr (record { out = ap (λ (b : Bool). b || is_among x (written_numbers writes)) is ∙ f.out; there = f.there })
    ]

-- a written page is found under its number, where no number stands twice
pub found_at : (writes : List Settled) (rest : List (ℕ × Node)) (w : Settled) → ((x : ℕ) → times x (written_numbers writes) ≤ 1) → Has writes w → page_in (nodes_of writes ++ rest) w.page.0 ≡ Some (node_with w.head w.entries.items)
found_at [] rest w once h = absurd h
found_at (v ∷ writes) rest w once (inl same) = subst (λ (z : Settled). page_in (nodes_of (v ∷ writes) ++ rest) z.page.0 ≡ Some (node_with z.head z.entries.items)) same (here (v.page.0 == v.page.0) (eq-eqb v.page.0 v.page.0 refl))
  where
    here : (b : Bool) → b ≡ true → ◌≡◌ {A = Option Node} (cond b (Some (node_with v.head v.entries.items)) (page_in (nodes_of writes ++ rest) v.page.0)) (Some (node_with v.head v.entries.items))
    here true is = refl
    here false is = cc
found_at (v ∷ writes) rest w once (inr more) = by (v.page.0 == w.page.0) refl (found_at writes rest w (λ x. (let o = once x in omega (arith, o))) more)
  where
    has_times : (l : List Settled) → Has l w → 0 < times w.page.0 (written_numbers l)
    has_times [] h = absurd h
    has_times (y ∷ l) (inl same) = let e : (y.page.0 == w.page.0) ≡ true = eq-eqb y.page.0 w.page.0 (ap (λ (z : Settled). z.page.0) same) in let one : ◌≡◌ {A = ℕ} (cond (y.page.0 == w.page.0) 1 0) 1 = ap (λ (b : Bool). let n : ℕ = cond b 1 0 in n) e in omega (arith, one)
    has_times (y ∷ l) (inr h) = let t = has_times l h in omega (arith, t)

    by : (b : Bool) → (v.page.0 == w.page.0) ≡ b → page_in (nodes_of writes ++ rest) w.page.0 ≡ Some (node_with w.head w.entries.items) → cond b (Some (node_with v.head v.entries.items)) (page_in (nodes_of writes ++ rest) w.page.0) ≡ Some (node_with w.head w.entries.items)
    by false is again = again
    by true is again =
        let one : ◌≡◌ {A = ℕ} (cond (v.page.0 == w.page.0) 1 0) 1 = ap (λ (b : Bool). let n : ℕ = cond b 1 0 in n) is in
        absurd (omega (arith, once w.page.0, one, has_times writes more))

-- all of them are pages of the file, where those of the plan and those that are taken are
pub inside_any : (pages : ℕ) (steps : List Planned) (counter : ℕ) (to : To) (news : List PageNo) (writes : List Settled) → nodes_of writes ≡ settled counter to (reverse steps) news → length news ≡ pages_needed (reverse steps)
    → ((s : Planned) → Has steps s → s.page.0 < pages) → ((p : PageNo) → Has news p → p.0 < pages) → (w : Settled) → Has writes w → w.page.0 < pages
inside_any pages steps counter to news writes is count in_steps in_news w has = by (times w.page.0 (map step_number steps)) refl
  where
    by : (n : ℕ) → times w.page.0 (map step_number steps) ≡ n → w.page.0 < pages
    by (suc n) e =
        let from : Source step_number steps w.page.0 = Has-map step_number steps w.page.0 (Has-times w.page.0 (map step_number steps) (omega (arith, e))) in
        subst (λ (q : ℕ). q < pages) from.is (in_steps from.x from.has)
    by zero e =
        let c = written_counts steps counter to news writes is count w.page.0 in
        let some = has_number writes w has in
        let from : Source page_number news w.page.0 = Has-map page_number news w.page.0 (Has-times w.page.0 (map page_number news) (omega (arith, e, c, some))) in
        subst (λ (q : ℕ). q < pages) from.is (in_news from.x from.has)
