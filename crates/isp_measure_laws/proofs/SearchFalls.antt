-- A visit comes to a page that is new to the search; or it comes to none, and the search remembers fewer pages, or as many and has one page less
-- to come to again. It asks for no links that end, as the walks of the pages that a search remembers do.
use Rattle.std.proofs.Common.{◌≡◌, ◌∙◌, inl, inr, refl, sym, ap, subst, ℕ, zero, suc, ◌+◌, ◌≤◌, ◌<◌, ◌==◌, not, cond, Bool, true, false, Option, Some, None, List, [], ◌∷◌, ◌++◌, arith, length, length-append, eqb-true}
use Rattle.std.specs.Prelude.{filter, nat_lt}
use Rattle.std.specs.List.{last_or}
use Rattle.isp_base.specs.Lists.{Has, times}
use Rattle.isp_laws.proofs.ListLaws.{Has-append_left, Has-append_right, Has-times, no_longer}
use Rattle.isp_laws.proofs.PageLaws.{There, times_there}
use Rattle.isp_forest.specs.Tree.{Node, Tree, counter, numbers, page_at}
use Rattle.isp_forest.specs.Forest.{Forest, IsLinked}
use Rattle.isp_forest.specs.Walk.{IsWalk, split_since}
use Rattle.isp_forest.specs.Steps.{is_among}
use Rattle.isp_forest.specs.Search.{Covered, IsRemembered, Search}
use Rattle.isp_forest.specs.Visit.{looked_at, remembered, visited_at}
use Rattle.isp_searches.proofs.SeesLaws.{among_has, has_among}
use Rattle.isp_events.specs.Reading.{visit_top}
use Rattle.isp_events.specs.State.{front}
use Rattle.isp_order_trees.proofs.CoveredLaws.{top_of}
use Rattle.isp_order_work.proofs.WorkParts.{none_some, some_is}
use Rattle.isp_replies.proofs.ReasonLaws.{empty_of_last}
use Rattle.isp_measure.specs.Measure.{number_or, seen_before, seen_from, total}
use Rattle.isp_measure.proofs.SumLaws.{total_less}
use Rattle.isp_measure_laws.specs.Visits.{ComesOn, VisitComesOn}

pub last_push : {X : Type 0} (o : Option X) (xs : List X) (x : X) → last_or o (xs ++ x ∷ []) ≡ Some x
last_push o [] x = refl
last_push o (y ∷ xs) x = last_push (Some y) xs x

-- ---- walks

-- two walks from one page are one
one_walk : (tree : Tree) (s p : ℕ) (xs ys : List ℕ) → IsWalk tree s (p ∷ xs) → IsWalk tree s (p ∷ ys) → xs ≡ ys
one_walk tree s p [] [] a b = refl
one_walk tree s p [] (y ∷ ys) a b = absurd (none_some y (sym a ∙ b.0))
one_walk tree s p (x ∷ xs) [] a b = absurd (none_some x (sym b ∙ a.0))
one_walk tree s p (x ∷ xs) (y ∷ ys) a b =
    let equal : x ≡ y = some_is x y (sym a.0 ∙ b.0) in
    let again : IsWalk tree s (y ∷ xs) = subst (λ q. IsWalk tree s (q ∷ xs)) equal a.1 in
    ap (λ q. q ∷ xs) equal ∙ ap (λ zs. y ∷ zs) (one_walk tree s y xs ys again b.1)

-- from a page behind its first a walk goes on, and is shorter
record Rest (tree : Tree) (s q bound : ℕ) : Type 0 where
  rest : List ℕ
  walk : IsWalk tree s (q ∷ rest)
  short : length rest < bound

rest_from : (tree : Tree) (s p : ℕ) (xs : List ℕ) (q : ℕ) → IsWalk tree s (p ∷ xs) → Has xs q → Rest tree s q (length xs)
rest_from tree s p [] q walk h = absurd h
rest_from tree s p (x ∷ xs) q walk (inl e) = record { rest = xs; walk = subst (λ k. IsWalk tree s (k ∷ xs)) e walk.1; short = omega arith }
rest_from tree s p (x ∷ xs) q walk (inr h) =
    let more : Rest tree s q (length xs) = rest_from tree s x xs q walk.1 h in
    record { rest = more.rest; walk = more.walk; short = omega (arith, more.short) }

-- the first page doesn't come again
not_again : (tree : Tree) (s p : ℕ) (xs : List ℕ) → IsWalk tree s (p ∷ xs) → times p xs ≡ 0
not_again tree s p xs walk = by_times (times p xs) refl
  where
    by_times : (n : ℕ) → times p xs ≡ n → n ≡ 0
    by_times zero is = refl
    by_times (suc n) is =
        let r : Rest tree s p (length xs) = rest_from tree s p xs p walk (Has-times p xs (omega (arith, is))) in
        let long : length xs ≡ length r.rest = ap (λ (zs : List ℕ). length zs) (one_walk tree s p xs r.rest walk r.walk) in
        absurd (omega (arith, long, r.short))

-- each page of it comes once
walk_once : (tree : Tree) (s p : ℕ) (xs : List ℕ) (q : ℕ) → IsWalk tree s (p ∷ xs) → times q (p ∷ xs) ≤ 1
walk_once tree s p [] q walk = one (p == q)
  where
    one : (b : Bool) → cond b 1 0 + 0 ≤ 1
    one true = omega arith
    one false = omega arith
walk_once tree s p (x ∷ xs) q walk = by_first (p == q) refl (walk_once tree s x xs q walk.1)
  where
    by_first : (b : Bool) → (p == q) ≡ b → times q (x ∷ xs) ≤ 1 → cond b 1 0 + times q (x ∷ xs) ≤ 1
    by_first true e rest =
        let none : times q (x ∷ xs) ≡ 0 = ap (λ k. times k (x ∷ xs)) (sym (eqb-true p q e)) ∙ not_again tree s p (x ∷ xs) walk in
        omega (arith, none)
    by_first false e rest = omega (arith, rest)

-- its pages are pages of the tree
walk_there : (tree : Tree) → Forest tree → (s p : ℕ) (xs : List ℕ) (page : Node) (q : ℕ) → page_at tree p ≡ Some page → IsWalk tree s (p ∷ xs) → Has (p ∷ xs) q → There tree.pages q
walk_there tree f s p xs page q there walk (inl e) = record { page = page; there = subst (λ k. page_at tree k ≡ Some page) e there }
walk_there tree f s p [] page q there walk (inr h) = absurd h
walk_there tree f s p (x ∷ xs) page q there walk (inr h) =
    let to : IsLinked tree page x = f.linked p x page there (next_of (nat_lt s page.ssn) (ap (split_since s) (sym there) ∙ walk.0)) in
    walk_there tree f s x xs to.right q to.there walk.1 h
  where
    next_of : (b : Bool) → cond b page.next None ≡ Some x → page.next ≡ Some x
    next_of true k = k
    next_of false k = absurd (none_some x k)

numbers_length : (m : List (ℕ × Node)) → length (numbers m) ≡ length m
numbers_length [] = refl
numbers_length (p ∷ rest) = ap suc (numbers_length rest)

-- so it has no more pages than the tree
walk_short : (tree : Tree) → Forest tree → (s p : ℕ) (xs : List ℕ) (page : Node) → page_at tree p ≡ Some page → IsWalk tree s (p ∷ xs) → length (p ∷ xs) ≤ length tree.pages
walk_short tree f s p xs page there walk =
    let short : length (p ∷ xs) ≤ length (numbers tree.pages) = no_longer (p ∷ xs) (numbers tree.pages) (λ q. by_times q (times q (p ∷ xs)) refl) in
    omega (arith, short, numbers_length tree.pages)
  where
    by_times : (q n : ℕ) → times q (p ∷ xs) ≡ n → n ≤ times q (numbers tree.pages)
    by_times q zero e = omega arith
    by_times q (suc n) e =
        let t : There tree.pages q = walk_there tree f s p xs page q there walk (Has-times q (p ∷ xs) (omega (arith, e))) in
        let once : times q (p ∷ xs) ≤ 1 = walk_once tree s p xs q walk in
        let some : 0 < times q (numbers tree.pages) = times_there tree.pages q t.page t.there in
        omega (arith, e, once, some)

-- ---- pages that it comes to again

-- of the first pages of the walk, those that it is on
abbrev seen_on : List ℕ → List ℕ → ℕ
seen_on on [] = 0
seen_on on (p ∷ rest) = cond (is_among on p) (suc (seen_on on rest)) 0

seen_is : (tree : Tree) (on : List ℕ) (s n p : ℕ) (xs : List ℕ) → IsWalk tree s (p ∷ xs) → length (p ∷ xs) ≤ n → seen_before tree on s n p ≡ seen_on on (p ∷ xs)
seen_is tree on s zero p xs walk le = absurd (omega (arith, le))
seen_is tree on s (suc n) p [] walk le = ap (λ o. cond (is_among on p) (suc (number_or (seen_before tree on s n) o)) 0) walk
seen_is tree on s (suc n) p (x ∷ xs) walk le =
    ap (λ o. cond (is_among on p) (suc (number_or (seen_before tree on s n) o)) 0) walk.0
    ∙ ap (λ k. cond (is_among on p) (suc k) 0) (seen_is tree on s n x xs walk.1 (omega (arith, le)))

-- ---- pages that it isn't on

count_is : {X : Type 0} (test : X → Bool) (xs : List X) → length (filter test xs) ≡ total (λ x. cond (test x) 1 0) xs
count_is test [] = refl
count_is test (x ∷ xs) = by_test (test x) (count_is test xs)
  where
    by_test : (b : Bool) → length (filter test xs) ≡ total (λ y. cond (test y) 1 0) xs → length (cond b (x ∷ filter test xs) (filter test xs)) ≡ cond b 1 0 + total (λ y. cond (test y) 1 0) xs
    by_test true again = omega (arith, again)
    by_test false again = omega (arith, again)

abbrev away_at : List ℕ → ℕ → ℕ
away_at on q = cond (not (is_among on q)) 1 0

closer : (tree : Tree) (on : List ℕ) (p : ℕ) (page : Node) → page_at tree p ≡ Some page → is_among on p ≡ false
    → length (filter (λ q. not (is_among (on ++ p ∷ []) q)) (numbers tree.pages)) < length (filter (λ q. not (is_among on q)) (numbers tree.pages))
closer tree on p page there new =
    let less : total (away_at (on ++ p ∷ [])) (numbers tree.pages) < total (away_at on) (numbers tree.pages) =
    total_less (away_at (on ++ p ∷ [])) (away_at on) (numbers tree.pages) p (λ q h. each q (is_among on q) refl) (Has-times p (numbers tree.pages) (times_there tree.pages p page there)) here in
    omega (arith, less, count_is (λ q. not (is_among (on ++ p ∷ []) q)) (numbers tree.pages), count_is (λ q. not (is_among on q)) (numbers tree.pages))
  where
    each : (q : ℕ) (b : Bool) → is_among on q ≡ b → away_at (on ++ p ∷ []) q ≤ away_at on q
    each q true e =
        let now : away_at (on ++ p ∷ []) q ≡ 0 = ap (λ b. cond (not b) 1 0) (has_among (on ++ p ∷ []) q (Has-append_left on (p ∷ []) q (among_has on q e))) in
        omega (arith, now)
    each q false e =
        let before : away_at on q ≡ 1 = ap (λ b. cond (not b) 1 0) e in
        let low : away_at (on ++ p ∷ []) q ≤ 1 = either (is_among (on ++ p ∷ []) q) in
        omega (arith, before, low)
      where
        either : (b : Bool) → cond (not b) 1 0 ≤ 1
        either true = omega arith
        either false = omega arith

    here : away_at (on ++ p ∷ []) p < away_at on p
    here =
        let now : away_at (on ++ p ∷ []) p ≡ 0 = ap (λ b. cond (not b) 1 0) (has_among (on ++ p ∷ []) p (Has-append_right on (p ∷ []) p (inl refl))) in
        let before : away_at on p ≡ 1 = ap (λ b. cond (not b) 1 0) new in
        omega (arith, now, before)

-- ---- a visit

module _ (tree : Tree) (f : Forest tree) (x : Search) (c : Covered tree x) (p s : ℕ) (top : last_or None x.stack ≡ Some (p, s)) where
  stack_is : x.stack ≡ front x.stack ++ (p, s) ∷ []
  stack_is = top_of x.stack (p, s) top

  is : IsRemembered tree p s
  is = c.stack p s (subst (λ (st : List (ℕ × ℕ)). Has st (p, s)) (sym stack_is) (Has-append_right (front x.stack) ((p, s) ∷ []) (p, s) (inl refl)))

  stack_long : length x.stack ≡ length (front x.stack) + 1
  stack_long = ap (λ (st : List (ℕ × ℕ)). length st) stack_is ∙ length-append (front x.stack) ((p, s) ∷ [])

  -- a page that it is on already
  again : is_among x.on p ≡ true → (r : Option ℕ) → split_since s (Some is.page) ≡ r → ComesOn tree x (record x { stack = front x.stack ++ remembered s r })
  again seen None e = inr (
    refl,
    inl (
        let now : length (front x.stack ++ []) ≡ length (front x.stack) + 0 = length-append (front x.stack) [] in
        omega (arith, now, stack_long)),
  )
  again seen (Some r) e = inr (refl, inr (omega (arith, long, stack_long), by_rest is.rest is.walk))
    where
      long : length (front x.stack ++ (r, s) ∷ []) ≡ length (front x.stack) + 1
      long = length-append (front x.stack) ((r, s) ∷ [])

      by_rest : (rest : List ℕ) → IsWalk tree s (p ∷ rest) → seen_from tree x.on (last_or None (front x.stack ++ (r, s) ∷ [])) < seen_from tree x.on (last_or None x.stack)
      by_rest [] walk = absurd (none_some r (sym walk ∙ ap (split_since s) is.there ∙ e))
      by_rest (q ∷ rest) walk =
          let to : q ≡ r = some_is q r (sym walk.0 ∙ ap (split_since s) is.there ∙ e) in
          let short : length (p ∷ q ∷ rest) ≤ length tree.pages = walk_short tree f s p (q ∷ rest) is.page is.there walk in
          let walk_on : IsWalk tree s (r ∷ rest) = subst (λ k. IsWalk tree s (k ∷ rest)) to walk.1 in
          let now : seen_from tree x.on (last_or None (front x.stack ++ (r, s) ∷ [])) ≡ seen_on x.on (r ∷ rest) =
          ap (seen_from tree x.on) (last_push None (front x.stack) (r, s)) ∙ seen_is tree x.on s (length tree.pages) r rest walk_on (omega (arith, short)) in
          let before : seen_from tree x.on (last_or None x.stack) ≡ suc (seen_on x.on (r ∷ rest)) =
          ap (seen_from tree x.on) top ∙ seen_is tree x.on s (length tree.pages) p (q ∷ rest) walk short
          ∙ ap (λ b. cond b (suc (seen_on x.on (q ∷ rest))) 0) seen ∙ ap (λ k. suc (seen_on x.on (k ∷ rest))) to in
          omega (arith, now, before)

  at_page : (b : Bool) → is_among x.on p ≡ b
      → ComesOn tree x (cond b (record x { stack = front x.stack ++ remembered s (split_since s (Some is.page)) })
      (looked_at (counter tree) is.page p (record x { stack = front x.stack ++ remembered s (split_since s (Some is.page)) })))
  at_page true e = again e (split_since s (Some is.page)) refl
  at_page false e = inl (closer tree x.on p is.page is.there e)

  comes_on : ComesOn tree x (visit_top tree x (Some (p, s)))
  comes_on =
      subst (λ (o : Option Node). ComesOn tree x (visited_at tree p s o (record x { stack = front x.stack }))) (sym is.there) (at_page (is_among x.on p) refl)

pub visit_comes_on : VisitComesOn
visit_comes_on tree x f c some = by_top (last_or None x.stack) refl
  where
    by_top : (top : Option (ℕ × ℕ)) → last_or None x.stack ≡ top → ComesOn tree x (visit_top tree x top)
    by_top None e = absurd (some (empty_of_last x.stack e))
    by_top (Some top) e = comes_on tree f x c top.0 top.1 e
