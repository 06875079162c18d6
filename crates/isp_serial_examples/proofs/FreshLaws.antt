-- Sessions that have done nothing, of computed states: each by its number, whom they wait for, and what they see.
use Rattle.std.proofs.Common.{◌≡◌, ◌∙◌, ◌<◌, ◌==◌, refl, sym, ap, ℕ, zero, suc, cond, Bool, true, false, Some, None, List, [], arith, eqb-true}
use Rattle.std.specs.Prelude.{replicate, slice_index_or}
use Rattle.isp_waits.specs.Graphs.{waits_of}
use Rattle.isp_plain.specs.Tables.{Table}
use Rattle.isp_events.specs.Stored.{present, row_of, table_at}
use Rattle.isp_events.specs.Sessions.{SessionState, fresh, session_at}
use Rattle.isp_events.specs.State.{State}
use Rattle.isp_events.specs.Views.{beginning_view, committed, committed_row, first_image, has_written, row_or, seen, statement_undo}

pub some_is : {A : Type 0} (x y : A) → Some x ≡ Some y → x ≡ y
some_is x y h = cc

pub none_some : {A : Type 0} (y : A) → None ≡ Some y → ⊥
none_some y h = cc

pub nobody : (n s : ℕ) → waits_of (replicate n []) s ≡ []
nobody zero s = refl
nobody (suc n) zero = refl
nobody (suc n) (suc s) = nobody n s

pub rest_fresh : (n s : ℕ) → slice_index_or (replicate n (fresh true)) s (fresh true) ≡ fresh true
rest_fresh zero s = refl
rest_fresh (suc n) zero = refl
rest_fresh (suc n) (suc s) = rest_fresh n s

pub apart : (a b : ℕ) → a < b → (a == b) ≡ false
apart a b lt = by_test (a == b) refl
  where
    by_test : (v : Bool) → (a == b) ≡ v → v ≡ false
    by_test true e = let is : a ≡ b = eqb-true a b e in let no : ⊥ = omega (arith, lt, is) in absurd no
    by_test false e = refl

pub apart_back : (a b : ℕ) → b < a → (a == b) ≡ false
apart_back a b lt = by_test (a == b) refl
  where
    by_test : (v : Bool) → (a == b) ≡ v → v ≡ false
    by_test true e = let is : a ≡ b = eqb-true a b e in let no : ⊥ = omega (arith, lt, is) in absurd no
    by_test false e = refl

-- what a session saw as its statement began
abbrev pub seen_by : State → SessionState → List Table
seen_by now session =
    seen (λ table key. row_or (first_image (statement_undo session) table key) (cond (has_written session table key) (row_of (present (table_at now.tables table) key)) (committed_row now table key)))
    now.tables

-- is what is committed, where it has nothing to undo
pub sees_committed : (now : State) (s : ℕ) (session : SessionState) → session_at now.sessions s ≡ session → seen_by now session ≡ committed now → committed now ≡ beginning_view now s
sees_committed now s session is e = sym e ∙ ap (seen_by now) (sym is)
