-- The table of a statement at work, among the tables that its session saw.
use Rattle.std.proofs.Common.{◌≡◌, ◌⊎◌, ◌∙◌, ◌+◌, ◌<◌, ◌≤◌, refl, sym, ap, subst, ℕ, zero, suc, ℤ, ◌==◌, Bool, true, false, not, cond, Option, Some, None, List, [], ◌∷◌, length, map, slice_get, arith, eqb-true}
use Rattle.std.specs.Prelude.{nat_lt}
use Rattle.std.specs.List.{prefix_len}
use Rattle.std.specs.Str.{bytes_eq}
use Rattle.std.proofs.lemmas.Bool.{false≢true}
use Rattle.std.proofs.lemmas.Bool.Decides.{nat_tests}
use Rattle.std.proofs.lemmas.Slice.Eq.{bytes_eq-Decides}
use Rattle.isp_plain.specs.declared.value.Row.{Row}
use Rattle.isp_plain.specs.Does.{place_of}
use Rattle.isp_plain.specs.Tables.{Table, definition_of}
use Rattle.isp_changes.specs.Rows.{AreRising, AreRisingTables, row_at}
use Rattle.isp_changes.proofs.ChangeProofs.{rising_get}
use Rattle.isp_events.specs.Stored.{StoredTable, table_at, table_from}
use Rattle.isp_events.specs.Sessions.{SessionState, Work, session_at}
use Rattle.isp_events.specs.State.{State}
use Rattle.isp_events.specs.Views.{beginning_view, view_at_beginning}
use Rattle.isp_events.specs.Ways.{Machine}
use Rattle.isp_order.specs.Work.{IsBound, table_name}
use Rattle.isp_order.specs.InOrder.{InOrder}
use Rattle.isp_locality.proofs.TableLocal.{row_there}
use Rattle.isp_answers.specs.Course.{saw}
use Rattle.isp_views.specs.Views.{IsShown, definition_at}
use Rattle.isp_views.proofs.ViewLaws.{are_shown}

some_is : {X : Type 0} (x y : X) → Some x ≡ Some y → x ≡ y
some_is x y h = cc

none_some : {X : Type 0} (x : X) → None ≡ Some x → ⊥
none_some x h = cc

cons_head : {Y : Type 0} (x y : Y) (xs ys : List Y) → x ∷ xs ≡ y ∷ ys → x ≡ y
cons_head x y xs ys h = cc

cons_tail : {Y : Type 0} (x y : Y) (xs ys : List Y) → x ∷ xs ≡ y ∷ ys → xs ≡ ys
cons_tail x y xs ys h = cc

nil_cons : {Y : Type 0} (x : Y) (xs : List Y) → [] ≡ x ∷ xs → ⊥
nil_cons x xs h = cc

-- ---- tables of the same definitions

-- where a table is kept one is shown, of its definition
got_from : (k place : ℕ) (plain : List Table) (tables : List StoredTable) → map definition_of plain ≡ map definition_at tables → place < length tables
    → (table : Table) × (slice_get plain place ≡ Some table) × (definition_of table ≡ definition_at (table_from k tables (k + place)))
got_from k place plain [] h lt = let no : ⊥ = omega (arith, lt) in absurd no
got_from k place [] (t ∷ tables) h lt = absurd (nil_cons (definition_at t) (map definition_at tables) h)
got_from k zero (p ∷ plain) (t ∷ tables) h lt =
    (p, refl, cons_head (definition_of p) (definition_at t) (map definition_of plain) (map definition_at tables) h ∙ sym (ap definition_at (ap (λ b. cond b t (table_from (suc k) tables (k + 0))) here)))
  where
    here : (k == k + 0) ≡ true
    here = grind (arith, nat_tests)
got_from k (suc place) (p ∷ plain) (t ∷ tables) h lt =
    let r = got_from (suc k) place plain tables (cons_tail (definition_of p) (definition_at t) (map definition_of plain) (map definition_at tables) h) (omega (arith, lt)) in
    (r.0, r.1, r.2 ∙ ap (λ n. definition_at (table_from (suc k) tables n)) next ∙ sym (ap definition_at (ap (λ b. cond b t (table_from (suc k) tables (k + suc place))) apart)))
  where
    next : suc k + place ≡ k + suc place
    next = omega arith

    apart : (k == k + suc place) ≡ false
    apart = grind (arith, nat_tests)

there_from : (k place : ℕ) (plain : List Table) (tables : List StoredTable) (table : Table) → map definition_of plain ≡ map definition_at tables → slice_get plain place ≡ Some table
    → (place < length tables) × (definition_of table ≡ definition_at (table_from k tables (k + place)))
there_from k place [] tables table h is = absurd (none_some table is)
there_from k place (p ∷ plain) [] table h is = absurd (nil_cons (definition_of p) (map definition_of plain) (sym h))
there_from k zero (p ∷ plain) (t ∷ tables) table h is = (
  omega arith,
  ap definition_of (sym (some_is p table is)) ∙ cons_head (definition_of p) (definition_at t) (map definition_of plain) (map definition_at tables) h
      ∙ sym (ap definition_at (ap (λ b. cond b t (table_from (suc k) tables (k + 0))) here)),
)
  where
    here : (k == k + 0) ≡ true
    here = grind (arith, nat_tests)
there_from k (suc place) (p ∷ plain) (t ∷ tables) table h is =
    let r = there_from (suc k) place plain tables table (cons_tail (definition_of p) (definition_at t) (map definition_of plain) (map definition_at tables) h) is in
    let lt : place < length tables = r.0 in
    (omega (arith, lt), r.1 ∙ ap (λ n. definition_at (table_from (suc k) tables n)) next ∙ sym (ap definition_at (ap (λ b. cond b t (table_from (suc k) tables (k + suc place))) apart)))
  where
    next : suc k + place ≡ k + suc place
    next = omega arith

    apart : (k == k + suc place) ≡ false
    apart = grind (arith, nat_tests)

-- ---- the first table of a name

first_place : (test : Table → Bool) (plain : List Table) (place : ℕ) (table : Table) → slice_get plain place ≡ Some table → test table ≡ true
    → ((i : ℕ) (u : Table) → slice_get plain i ≡ Some u → test u ≡ true → i ≡ place)
    → (prefix_len (λ t. not (test t)) plain ≡ place) × (place < length plain)
first_place test [] place table is passes one = absurd (none_some table is)
first_place test (t ∷ plain) zero table is passes one =
    (ap (λ b. cond (not b) (1 + prefix_len (λ x. not (test x)) plain) 0) (ap test (some_is t table is) ∙ passes), omega arith)
first_place test (t ∷ plain) (suc place) table is passes one = by_test (test t) refl (first_place test plain place table is passes (λ i u h k. less i place (one (suc i) u h k)))
  where
    less : (i j : ℕ) → suc i ≡ suc j → i ≡ j
    less i j e = omega (arith, e)

    by_test : (b : Bool) → test t ≡ b → (prefix_len (λ x. not (test x)) plain ≡ place) × (place < length plain)
        → (cond (not b) (1 + prefix_len (λ x. not (test x)) plain) 0 ≡ suc place) × (suc place < length (t ∷ plain))
    by_test true e again = (let no : 0 ≡ suc place = one 0 t refl e in let f : ⊥ = omega (arith, no) in absurd f)
    by_test false e again = (let p : prefix_len (λ x. not (test x)) plain ≡ place = again.0 in let lt : place < length plain = again.1 in (omega (arith, p), omega (arith, lt)))

named_place : (plain : List Table) (name : List ℕ) (place : ℕ) (table : Table) → slice_get plain place ≡ Some table → bytes_eq table.name name ≡ true
    → ((i : ℕ) (u : Table) → slice_get plain i ≡ Some u → bytes_eq u.name name ≡ true → i ≡ place) → place_of plain name ≡ Some place
named_place plain name place table is passes one =
    let f = first_place (λ (t : Table). bytes_eq t.name name) plain place table is passes one in
    ap (λ p. cond (nat_lt p (length plain)) (Some p) None) f.0 ∙ ap (λ b. cond b (Some place) None) (below place (length plain) f.1)
  where
    below : (a b : ℕ) → a < b → nat_lt a b ≡ true
    below a b lt = grind (arith, nat_tests)

-- ---- the table of the statement at work

pub record IsTableOf (state : State) (s : ℕ) (work : Work) : Type 0 where
  pub place : ℕ
  pub number : suc place ≡ work.table
  pub table : Table
  pub place_is : place_of (beginning_view state s) (table_name work.statement) ≡ Some place
  pub there : slice_get (beginning_view state s) place ≡ Some table
  pub schema : table.schema ≡ (table_at state.tables work.table).schema
  pub rises : AreRising table.rows
  pub row : (key : ℤ) → row_at table.rows key ≡ saw state s work key

less_one : (n : ℕ) → 1 ≤ n → (p : ℕ) × (suc p ≡ n)
less_one zero h = let no : ⊥ = omega (arith, h) in absurd no
less_one (suc n) h = (n, refl)

pub its_table : (m : Machine) (state : State) → InOrder m state → (s : ℕ) (work : Work) → (session_at state.sessions s).work ≡ Some work → IsTableOf state s work
its_table m state o s work at =
    let b : IsBound m state.tables s (session_at state.sessions s) work = o.bound s work at in
    let p = less_one work.table b.first in
    let shown : IsShown state.tables (view_at_beginning state s) (beginning_view state s) = (are_shown m state o).views_shown s in
    let last : work.table ≤ length state.tables = b.last in
    let suc_is : suc p.0 ≡ work.table = p.1 in
    let lt : p.0 < length state.tables = omega (arith, last, suc_is) in
    let g = got_from 1 p.0 (beginning_view state s) state.tables shown.definitions lt in
    let number : 1 + p.0 ≡ work.table = omega (arith, suc_is) in
    let definition : definition_of g.0 ≡ definition_at (table_at state.tables work.table) = g.2 ∙ ap (λ n. definition_at (table_at state.tables n)) number in
    let named : g.0.name ≡ table_name work.statement = ap (λ d. d.0) definition ∙ b.name in
    record {
      place = p.0;
      number = p.1;
      table = g.0;
      place_is = named_place (beginning_view state s) (table_name work.statement) p.0 g.0 g.1 ((bytes_eq-Decides g.0.name (table_name work.statement)).1 named)
          (λ i u is passes. (let t = there_from 1 i (beginning_view state s) state.tables u shown.definitions is in
          o.keyed.names i p.0 t.0 lt
          (sym (ap (λ d. d.0) t.1) ∙ (bytes_eq-Decides u.name (table_name work.statement)).0 passes ∙ sym b.name ∙ ap (λ n. (table_at state.tables n).name) (sym number))));
      there = g.1;
      schema = ap (λ d. d.1) definition;
      rises = rising_get (beginning_view state s) p.0 g.0 shown.rise g.1;
      row = λ key. sym (row_there (beginning_view state s) p.0 g.0 key g.1) ∙ shown.each p.0 key ∙ ap (λ n. view_at_beginning state s n key) p.1;
    }
