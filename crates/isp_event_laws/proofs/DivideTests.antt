-- Tests that compute whether pages may be divided so, where the entries keep their order from the left part to the right one.
use Rattle.std.proofs.Common.{◌≡◌, refl, sym, ap, ℕ, ◌≤◌, ◌==◌, ◌&&◌, Bool, true, false, List, [], ◌∷◌, ◌++◌, length, Option, Some, None, arith, eqb-true}
use Rattle.std.specs.Prelude.{is_none, nat_le, nat_lt}
use Rattle.std.specs.Ordering.{int_eq}
use Rattle.std.proofs.lemmas.Bool.{and_parts}
use Rattle.std.proofs.lemmas.Int.{ints}
use Rattle.isp_mbr.specs.Boxes.{same}
use Rattle.isp_mbr.proofs.BoxLaws.{same_then}
use Rattle.isp_forest.specs.declared.entry.Entry.{Entry}
use Rattle.isp_forest.specs.declared.entry.To.{To}
use Rattle.isp_forest.specs.declared.entry.To.TheVariants.{Child, Row}
use Rattle.isp_forest.specs.Tree.{Node, Tree, page_at, child_of}
use Rattle.isp_forest.specs.Steps.{names, raise, split}
use Rattle.isp_forest.specs.Place.{CanRelieve, CanSplit, Division, IsDivision, Names}
use Rattle.isp_events.specs.State.{is_empty, least_fill}
use Rattle.isp_events.specs.Next.{has_entry_for}
use Rattle.isp_events.specs.Placing.{AreFilled, DividesOverflowing, entry_count}
use Rattle.isp_event_laws.proofs.ListTests.{Passing, any_has, at_most, below, empty_is}

-- ---- the same entries

abbrev pub same_to : To → To → Bool
same_to (Child p) (Child q) = p.0 == q.0
same_to (Row key number) (Row key' number') = int_eq key key' && (number == number')
same_to _ _ = false

to_is : (a b : To) → same_to a b ≡ true → b ≡ a
to_is (Child p) (Child q) h = let e : q.0 ≡ p.0 = sym (eqb-true p.0 q.0 h) in λ i. Child (record { 0 = e i })
to_is (Row key number) (Row key' number') h =
    let parts : (int_eq key key' ≡ true) × ((number == number') ≡ true) = and_parts (int_eq key key') (number == number') h in
    let k : key' ≡ key = grind (arith, ints) in
    let n : number' ≡ number = sym (eqb-true number number' parts.1) in
    λ i. Row (k i) (n i)
to_is (Child p) (Row key number) h = let no : ⊥ = cc in absurd no
to_is (Row key number) (Child p) h = let no : ⊥ = cc in absurd no

abbrev pub same_entry : Entry → Entry → Bool
same_entry a b = same a.b b.b && same_to a.to b.to

entry_is : (a b : Entry) → same_entry a b ≡ true → b ≡ a
entry_is a b h =
    let parts : (same a.b b.b ≡ true) × (same_to a.to b.to ≡ true) = and_parts (same a.b b.b) (same_to a.to b.to) h in
    let box : b.b ≡ a.b = sym (same_then a.b b.b parts.0) in
    let to : b.to ≡ a.to = to_is a.to b.to parts.1 in
    λ i. record { b = box i; to = to i }

abbrev pub same_entries : List Entry → List Entry → Bool
same_entries [] [] = true
same_entries (a ∷ xs) (b ∷ ys) = same_entry a b && same_entries xs ys
same_entries _ _ = false

entries_are : (xs ys : List Entry) → same_entries xs ys ≡ true → ys ≡ xs
entries_are [] [] h = refl
entries_are (a ∷ xs) (b ∷ ys) h =
    let parts : (same_entry a b ≡ true) × (same_entries xs ys ≡ true) = and_parts (same_entry a b) (same_entries xs ys) h in
    let first : b ≡ a = entry_is a b parts.0 in
    let rest : ys ≡ xs = entries_are xs ys parts.1 in
    λ i. first i ∷ rest i
entries_are [] (b ∷ ys) h = let no : ⊥ = cc in absurd no
entries_are (a ∷ xs) [] h = let no : ⊥ = cc in absurd no

-- ---- one split

abbrev pub parts_test : Option Node → Division → Bool
parts_test None d = false
parts_test (Some page) d = same_entries page.entries (d.left ++ d.right) && (nat_le 2 (length d.left) && nat_le 2 (length d.right))

abbrev pub split_test : Tree → ℕ → ℕ → Division → Bool
split_test tree o above d = parts_test (page_at tree o) d && (has_entry_for (page_at tree above) o && is_none (page_at tree d.page))

record Parts (tree : Tree) (o : ℕ) (d : Division) : Type 0 where
  page : Node
  there : page_at tree o ≡ Some page
  parts : IsDivision page.level page.entries d.left d.right

parts_at : (tree : Tree) (o : ℕ) (d : Division) (p : Option Node) → page_at tree o ≡ p → parts_test p d ≡ true → Parts tree o d
parts_at tree o d None e h = let no : ⊥ = cc in absurd no
parts_at tree o d (Some page) e h =
    let size : Bool = nat_le 2 (length d.left) && nat_le 2 (length d.right) in
    let parts : (same_entries page.entries (d.left ++ d.right) ≡ true) × (size ≡ true) = and_parts (same_entries page.entries (d.left ++ d.right)) size h in
    let sizes : (nat_le 2 (length d.left) ≡ true) × (nat_le 2 (length d.right) ≡ true) = and_parts (nat_le 2 (length d.left)) (nat_le 2 (length d.right)) parts.1 in
    let left : 2 ≤ length d.left = at_most 2 (length d.left) sizes.0 in
    let right : 2 ≤ length d.right = at_most 2 (length d.right) sizes.1 in
    record {
      page = page;
      there = e;
      parts = record {
        all = record { moves = []; below = tt; is = entries_are page.entries (d.left ++ d.right) parts.0 };
        left_some = omega (arith, left);
        right_some = omega (arith, right);
        left_two = λ inner. left;
        right_two = λ inner. right;
      };
    }

record Named (tree : Tree) (above o : ℕ) : Type 0 where
  entry : Entry
  named : Names tree above o entry

name_is : (o : Option ℕ) (q : ℕ) → names (λ c. c == q) o ≡ true → o ≡ Some q
name_is None q h = let no : ⊥ = cc in absurd no
name_is (Some c) q h = ap Some (eqb-true c q h)

named_at : (tree : Tree) (above o : ℕ) (p : Option Node) → page_at tree above ≡ p → has_entry_for p o ≡ true → Named tree above o
named_at tree above o None e h = let no : ⊥ = cc in absurd no
named_at tree above o (Some page) e h =
    let p : Passing (λ f. names (λ c. c == o) (child_of f)) page.entries = any_has (λ f. names (λ c. c == o) (child_of f)) page.entries h in
    record { entry = p.x; named = record { page = page; there = e; has = p.has; to = name_is (child_of p.x) o p.passes } }

none_is : {X : Type 0} (o : Option X) → is_none o ≡ true → o ≡ None
none_is None h = refl
none_is (Some x) h = let no : ⊥ = cc in absurd no

pub split_by_test : (tree : Tree) (o above : ℕ) (d : Division) → split_test tree o above d ≡ true → CanSplit tree o above d.left d.right d.page
split_by_test tree o above d h =
    let rest : Bool = has_entry_for (page_at tree above) o && is_none (page_at tree d.page) in
    let parts : (parts_test (page_at tree o) d ≡ true) × (rest ≡ true) = and_parts (parts_test (page_at tree o) d) rest h in
    let more : (has_entry_for (page_at tree above) o ≡ true) × (is_none (page_at tree d.page) ≡ true) = and_parts (has_entry_for (page_at tree above) o) (is_none (page_at tree d.page)) parts.1 in
    let p : Parts tree o d = parts_at tree o d (page_at tree o) refl parts.0 in
    let n : Named tree above o = named_at tree above o (page_at tree above) refl more.0 in
    record { page = p.page; there = p.there; entry = n.entry; named = n.named; parts = p.parts; free = none_is (page_at tree d.page) more.1 }

-- ---- all splits

abbrev pub relieve_test : Tree → ℕ → List ℕ → List Division → Bool
relieve_test tree q up [] = true
relieve_test tree q [] (d ∷ ds) = false
relieve_test tree q (o ∷ []) (d ∷ ds) = is_none (page_at tree q) && (split_test (raise tree q) q o d && is_empty ds)
relieve_test tree q (o ∷ above ∷ up) (d ∷ ds) = split_test tree o above d && relieve_test (split tree o above d.left d.right d.page) q (above ∷ up) ds

pub relieve_by_test : (tree : Tree) (q : ℕ) (up : List ℕ) (ds : List Division) → relieve_test tree q up ds ≡ true → CanRelieve tree q up ds
relieve_by_test tree q up [] h = tt
relieve_by_test tree q [] (d ∷ ds) h = let no : ⊥ = cc in absurd no
relieve_by_test tree q (o ∷ []) (d ∷ ds) h =
    let parts : (is_none (page_at tree q) ≡ true) × ((split_test (raise tree q) q o d && is_empty ds) ≡ true) = and_parts (is_none (page_at tree q)) (split_test (raise tree q) q o d && is_empty ds) h in
    let more : (split_test (raise tree q) q o d ≡ true) × (is_empty ds ≡ true) = and_parts (split_test (raise tree q) q o d) (is_empty ds) parts.1 in
    (none_is (page_at tree q) parts.0, split_by_test (raise tree q) q o d more.0, empty_is ds more.1)
relieve_by_test tree q (o ∷ above ∷ up) (d ∷ ds) h =
    let parts : (split_test tree o above d ≡ true) × (relieve_test (split tree o above d.left d.right d.page) q (above ∷ up) ds ≡ true) =
    and_parts (split_test tree o above d) (relieve_test (split tree o above d.left d.right d.page) q (above ∷ up) ds) h in
    (split_by_test tree o above d parts.0, relieve_by_test (split tree o above d.left d.right d.page) q (above ∷ up) ds parts.1)

-- exactly the pages that hold too much are divided, and have the least fill
abbrev pub filled_test : ℕ → Division → Bool
filled_test least d = nat_le least (length d.left) && nat_le least (length d.right)

filled : (least : ℕ) (d : Division) → filled_test least d ≡ true → AreFilled least d
filled least d h =
    let parts : (nat_le least (length d.left) ≡ true) × (nat_le least (length d.right) ≡ true) = and_parts (nat_le least (length d.left)) (nat_le least (length d.right)) h in
    (at_most least (length d.left) parts.0, at_most least (length d.right) parts.1)

abbrev pub overflow_test : ℕ → Tree → ℕ → List ℕ → List Division → Bool
overflow_test fanout tree q [] ds = is_empty ds
overflow_test fanout tree q (o ∷ up) [] = nat_le (entry_count (page_at tree o)) fanout
overflow_test fanout tree q (o ∷ []) (d ∷ ds) = nat_lt fanout (entry_count (page_at tree o)) && (filled_test (least_fill fanout) d && is_empty ds)
overflow_test fanout tree q (o ∷ above ∷ up) (d ∷ ds) =
    nat_lt fanout (entry_count (page_at tree o)) && (filled_test (least_fill fanout) d && overflow_test fanout (split tree o above d.left d.right d.page) q (above ∷ up) ds)

pub overflow_by_test : (fanout : ℕ) (tree : Tree) (q : ℕ) (up : List ℕ) (ds : List Division) → overflow_test fanout tree q up ds ≡ true → DividesOverflowing fanout tree q up ds
overflow_by_test fanout tree q [] ds h = empty_is ds h
overflow_by_test fanout tree q (o ∷ up) [] h = at_most (entry_count (page_at tree o)) fanout h
overflow_by_test fanout tree q (o ∷ []) (d ∷ ds) h =
    let rest : Bool = filled_test (least_fill fanout) d && is_empty ds in
    let parts : (nat_lt fanout (entry_count (page_at tree o)) ≡ true) × (rest ≡ true) = and_parts (nat_lt fanout (entry_count (page_at tree o))) rest h in
    let more : (filled_test (least_fill fanout) d ≡ true) × (is_empty ds ≡ true) = and_parts (filled_test (least_fill fanout) d) (is_empty ds) parts.1 in
    (below fanout (entry_count (page_at tree o)) parts.0, filled (least_fill fanout) d more.0, empty_is ds more.1)
overflow_by_test fanout tree q (o ∷ above ∷ up) (d ∷ ds) h =
    let after : Tree = split tree o above d.left d.right d.page in
    let rest : Bool = filled_test (least_fill fanout) d && overflow_test fanout after q (above ∷ up) ds in
    let parts : (nat_lt fanout (entry_count (page_at tree o)) ≡ true) × (rest ≡ true) = and_parts (nat_lt fanout (entry_count (page_at tree o))) rest h in
    let more : (filled_test (least_fill fanout) d ≡ true) × (overflow_test fanout after q (above ∷ up) ds ≡ true) = and_parts (filled_test (least_fill fanout) d) (overflow_test fanout after q (above ∷ up) ds) parts.1 in
    (below fanout (entry_count (page_at tree o)) parts.0, filled (least_fill fanout) d more.0, overflow_by_test fanout after q (above ∷ up) ds more.1)
