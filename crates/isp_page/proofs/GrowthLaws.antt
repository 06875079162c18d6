-- How far a mini-transaction grows: the laws of `Grows`. One in which pages of a list changed has at most as many changed pages
-- more as the list is long.
use Rattle.std.proofs.Common.{◌≡◌, ℕ, ◌+◌, ◌≤◌, ◌==◌, Bool, true, false, ◌||◌, List, [], ◌∷◌, ◌++◌, length, length-append, refl, sym, ◌∙◌, ap, subst, arith, if◌then◌else◌}
use Rattle.isp_page.specs.State.{HasRoom, MiniTransaction, is_among, most_changed, with_change, with_page}
use Rattle.isp_page.specs.Touched.{AreAmong, Grows, unchanged_of}

-- a page counts while it isn't changed yet
abbrev counted : Bool → ℕ
counted is_there = if is_there then 0 else 1

one_at_most : (is_there : Bool) → counted is_there ≤ 1
one_at_most true = omega arith
one_at_most false = omega arith

unchanged_at_most : (most changed : List ℕ) → unchanged_of most changed ≤ length most
unchanged_at_most [] changed = omega arith
unchanged_at_most (page ∷ most) changed = omega (arith, unchanged_at_most most changed, one_at_most (is_among page changed))

either_first : (a b : Bool) → a ≡ true → (a || b) ≡ true
either_first a b is = ap (λ x. x || b) is

either_second : (a b : Bool) → b ≡ true → (a || b) ≡ true
either_second true b is = refl
either_second false b is = is

three : (a b c : Bool) → (a || (b || c)) ≡ ((a || b) || c)
three true b c = refl
three false b c = refl

among_append : (page : ℕ) (xs ys : List ℕ) → is_among page (xs ++ ys) ≡ (is_among page xs || is_among page ys)
among_append page [] ys = refl
among_append page (x ∷ xs) ys = ap (λ b. (x == page) || b) (among_append page xs ys) ∙ three (x == page) (is_among page xs) (is_among page ys)

is_itself : (page : ℕ) → (page == page) ≡ true
is_itself page = grind arith

-- more pages are there
falls : (before now : Bool) → (before ≡ true → now ≡ true) → counted now ≤ counted before
falls true true keeps = omega arith
falls true false keeps = let is = keeps refl in absurd (bad is)
  where
    bad : false ≡ true → ⊥
    bad is = cc
falls false true keeps = omega arith
falls false false keeps = omega arith

fewer : (most changed : List ℕ) (page : ℕ) → unchanged_of most (changed ++ page ∷ []) ≤ unchanged_of most changed
fewer [] changed page = omega arith
fewer (p ∷ most) changed page =
    let one = falls (is_among p changed) (is_among p (changed ++ page ∷ [])) (λ is. among_append p changed (page ∷ []) ∙ either_first (is_among p changed) (is_among p (page ∷ [])) is) in
    omega (arith, fewer most changed page, one)

one_fewer : (most changed : List ℕ) (page : ℕ) → is_among page most ≡ true → is_among page changed ≡ false → unchanged_of most (changed ++ page ∷ []) + 1 ≤ unchanged_of most changed
one_fewer [] changed page in_most out = cc
one_fewer (p ∷ most) changed page in_most out = by (p == page) refl (λ deeper. one_fewer most changed page deeper out)
  where
    by : (b : Bool) → (p == page) ≡ b → (is_among page most ≡ true → unchanged_of most (changed ++ page ∷ []) + 1 ≤ unchanged_of most changed) → unchanged_of (p ∷ most) (changed ++ page ∷ []) + 1 ≤ unchanged_of (p ∷ most) changed
    by true is below =
        let same : p ≡ page = grind (arith, is) in
        let here : is_among p (changed ++ page ∷ []) ≡ true = among_append p changed (page ∷ []) ∙ either_second (is_among p changed) (is_among p (page ∷ [])) (ap (λ b. b || false) (ap (λ (q : ℕ). page == q) same ∙ is_itself page)) in
        let gone : is_among p changed ≡ false = ap (λ (q : ℕ). is_among q changed) same ∙ out in
        omega (arith, fewer most changed page, ap counted here, ap counted gone)
    by false is below =
        let deeper : is_among page most ≡ true = ap (λ b. b || is_among page most) (sym is) ∙ in_most in
        let one = falls (is_among p changed) (is_among p (changed ++ page ∷ [])) (λ here. among_append p changed (page ∷ []) ∙ either_first (is_among p changed) (is_among p (page ∷ [])) here) in
        omega (arith, below deeper, one)

one_more : (most changed : List ℕ) (page : ℕ) → is_among page most ≡ true → length (with_page page changed) + unchanged_of most (with_page page changed) ≤ length changed + unchanged_of most changed
one_more most changed page in_most = by (is_among page changed) refl
  where
    by : (b : Bool) → is_among page changed ≡ b → (let next : List ℕ = if b then changed else changed ++ page ∷ [] in length next + unchanged_of most next) ≤ length changed + unchanged_of most changed
    by true is = omega arith
    by false is = omega (arith, one_fewer most changed page in_most is, length-append changed (page ∷ []))

-- a list has its own pages
among_longer : (pages most : List ℕ) (page : ℕ) → AreAmong pages most → AreAmong pages (page ∷ most)
among_longer [] most page all = tt
among_longer (p ∷ pages) most page all = (either_second (page == p) (is_among p most) all.0, among_longer pages most page all.1)

pub among_self : (pages : List ℕ) → AreAmong pages pages
among_self [] = tt
among_self (page ∷ pages) = (either_first (page == page) (is_among page pages) (is_itself page), among_longer pages pages page (among_self pages))

pub among_both : (first second most : List ℕ) → AreAmong first most → AreAmong second most → AreAmong (first ++ second) most
among_both [] second most one other = other
among_both (p ∷ first) second most one other = (one.0, among_both first second most one.1 other)

pub among_first : (first second most : List ℕ) → AreAmong (first ++ second) most → AreAmong first most
among_first [] second most all = tt
among_first (p ∷ first) second most all = (all.0, among_first first second most all.1)

pub among_second : (first second most : List ℕ) → AreAmong (first ++ second) most → AreAmong second most
among_second [] second most all = all
among_second (p ∷ first) second most all = among_second first second most all.1

-- a change makes it longer by one at most
pub one_longer : (page : ℕ) (changed : List ℕ) → length (with_page page changed) ≤ length changed + 1
one_longer page changed = by (is_among page changed)
  where
    by : (b : Bool) → length (if b then changed else changed ++ page ∷ []) ≤ length changed + 1
    by true = omega arith
    by false = omega (arith, length-append changed (page ∷ []))

-- where a page has room, the mini-transaction with it has at most as many as it may
pub room_for : (page : ℕ) (mini : MiniTransaction) → HasRoom page mini → length mini.changed ≤ most_changed → length (with_page page mini.changed) ≤ most_changed
room_for page mini room few = by (is_among page mini.changed) refl
  where
    by : (b : Bool) → is_among page mini.changed ≡ b → length (if b then mini.changed else mini.changed ++ page ∷ []) ≤ most_changed
    by true is = few
    by false is = omega (arith, room is, length-append mini.changed (page ∷ []))

-- a page of the list has room where the list has
pub room_within : (most : List ℕ) (old new : MiniTransaction) (page : ℕ) → Grows most old new → is_among page most ≡ true → length old.changed + length most ≤ most_changed → HasRoom page new
room_within most old new page grows in_most room out =
    let whole : with_page page new.changed ≡ new.changed ++ page ∷ [] = ap (λ (b : Bool). if b then new.changed else new.changed ++ page ∷ []) out in
    omega (arith, grows.few most (among_self most), unchanged_at_most most old.changed, one_more most new.changed page in_most, ap (λ (l : List ℕ). length l) whole, length-append new.changed (page ∷ []), room)

pub grows_none : (most : List ℕ) (mini : MiniTransaction) → Grows most mini mini
grows_none most mini = record { begun = refl; within = omega arith; few = λ all among. omega arith }

-- a change of a page
pub grows_one : (page : ℕ) (old new : MiniTransaction) → new ≡ with_change page old → Grows (page ∷ []) old new
grows_one page old new is =
    let changed : new.changed ≡ with_page page old.changed = ap (λ (m : MiniTransaction). m.changed) is in
    record {
      begun = ap (λ (m : MiniTransaction). m.is_begun) is;
      within = omega (arith, one_longer page old.changed, ap (λ (l : List ℕ). length l) changed);
      few = λ all among. subst (λ (l : List ℕ). length l + unchanged_of all l ≤ length old.changed + unchanged_of all old.changed) (sym changed) (one_more all old.changed page among.0);
    }

-- one behind another
pub grows_on : (first second : List ℕ) (old mid new : MiniTransaction) → Grows first old mid → Grows second mid new → Grows (first ++ second) old new
grows_on first second old mid new one other = record {
  begun = other.begun ∙ one.begun;
  within = omega (arith, one.within, other.within, length-append first second);
  few = λ all among. omega (arith, one.few all (among_first first second all among), other.few all (among_second first second all among));
}

on_longer : (page p : ℕ) (most all : List ℕ) (b : Bool) → (p == page) ≡ b → (b || is_among page most) ≡ true → is_among p all ≡ true → (is_among page most ≡ true → is_among page all ≡ true) → is_among page all ≡ true
on_longer page p most all true same is first others = let itself : p ≡ page = grind (arith, same) in ap (λ (q : ℕ). is_among q all) (sym itself) ∙ first
on_longer page p most all false differs is first others = others is

on_list : (page : ℕ) (most all : List ℕ) → is_among page most ≡ true → AreAmong most all → is_among page all ≡ true
on_list page [] all is outer = cc
on_list page (p ∷ most) all is outer = on_longer page p most all (p == page) refl is outer.0 (λ deeper. on_list page most all deeper outer.1)

among_on : (pages most all : List ℕ) → AreAmong pages most → AreAmong most all → AreAmong pages all
among_on [] most all inner outer = tt
among_on (page ∷ pages) most all inner outer = (on_list page most all inner.0 outer, among_on pages most all inner.1 outer)

-- within a list that has the pages
pub grows_within : (pages most : List ℕ) (old new : MiniTransaction) → Grows pages old new → AreAmong pages most → Grows most old new
grows_within pages most old new grows inner = record {
  begun = grows.begun;
  within = omega (arith, grows.few most inner, unchanged_at_most most old.changed);
  few = λ all among. grows.few all (among_on pages most all inner among);
}

-- one behind another, both within a list
pub grows_among : (first second most : List ℕ) (old mid new : MiniTransaction) → Grows first old mid → Grows second mid new → AreAmong first most → AreAmong second most → Grows most old new
grows_among first second most old mid new one other in_one in_other = grows_within (first ++ second) most old new (grows_on first second old mid new one other) (among_both first second most in_one in_other)
