-- A sweep of keys that goes on by the next of them.
use Rattle.std.proofs.Common.{◌≡◌, ℕ, zero, suc, ◌+◌, ◌<◌, ◌≤◌, List, [], ◌∷◌, ◌++◌, length, get_or, take, Some, sym, ◌∙◌, ap, subst, arith}
use Rattle.std.specs.Prelude.{Result, Ok, Err, OnOk, slice_get}
use Rattle.std.specs.List.{AllByRecursion}
use Rattle.std.proofs.lemmas.List.{take_more}
use Rattle.isp_format.specs.Ranges.{Contents}
use Rattle.isp_undo.specs.Chains.{Chain}
use Rattle.isp_image.specs.Databases.{Database}
use Rattle.isp_trx.specs.Laws.{IsOneOf}
use Rattle.isp_clustered.specs.Trees.{IsTree, Tree}
use Rattle.isp_trx.specs.Writes.{CanSweep, IsFree, Sweeps, SweepsAt, SweepsSome, place_of}
use Rattle.isp_trx.specs.declared.keys.RowKey.{RowKey}
use Rattle.isp_trx.proofs.SweepLaws.{can_sweep_on, sweeps_more, tree_of}

all_at : {X : Type 0} (P : X → Type 0) (xs : List X) (i : ℕ) (d : X) → i < length xs → AllByRecursion P xs → P (get_or xs i d)
all_at P [] i d inside all = absurd (omega (arith, inside))
all_at P (x ∷ xs) zero d inside all = all.0
all_at P (x ∷ xs) (suc i) d inside all = all_at P xs i d (omega (arith, inside)) all.1

module _ (pages pages_now : ℕ) (old mid : Contents) (roots : List ℕ) (keys : List RowKey) (i : ℕ) (at d : RowKey) (shape : pages_now ≡ pages) (inside : i < length keys) (is : at ≡ get_or keys i d)
    (so_far : Sweeps pages old roots keys (take i keys) mid) where
  one_of : IsOneOf at keys
  one_of db free = subst (λ (k : RowKey). IsFree k db) (sym is) (all_at (λ k. IsFree k db) keys i d inside free)

  pub next_swept : (new : Contents) → Sweeps pages_now mid roots (at ∷ []) (at ∷ []) new → Sweeps pages old roots keys (take (i + 1) keys) new
  next_swept new next =
      subst (λ (done : List RowKey). Sweeps pages old roots keys done new) (ap (λ (k : RowKey). take i keys ++ k ∷ []) is ∙ sym (take_more keys i d inside))
      (sweeps_more pages old mid new roots keys (take i keys) at one_of so_far (subst (λ (n : ℕ). Sweeps n mid roots (at ∷ []) (at ∷ []) new) shape next))

  pub next_some : (new : Contents) → Sweeps pages_now mid roots (at ∷ []) (at ∷ []) new → SweepsSome pages old roots keys new
  next_some new next = record { count = i + 1; sweeps = next_swept new next }

  -- the next key may be swept
  pub next_can : (chains : List Chain) (db : Database) → CanSweep pages old chains roots keys db → (now : Database) × CanSweep pages_now mid chains roots (at ∷ []) now
  next_can chains db can =
      let s = so_far.makes chains db can in
      let now = can_sweep_on pages old mid chains roots keys db can s.swept in
      (s.swept.after, subst (λ (n : ℕ). CanSweep n mid chains roots (at ∷ []) s.swept.after) (sym shape) (record { kept = now.kept; roots_are = now.roots_are; free = (one_of s.swept.after now.free, tt) }))

-- ---- one key

on_ok : {T E : Type 0} (A B : Type 0) (result : Result T E) → (A → B) → OnOk result A → OnOk result B
on_ok A B (Ok x) f is = f is
on_ok A B (Err e) f is = tt

pub key_swept : {T E : Type 0} (result : Result T E) (pages : ℕ) (old new : Contents) (roots : List ℕ) (root : ℕ) (at : RowKey) → slice_get roots (place_of at) ≡ Some root → OnOk result (SweepsAt pages old root at new) → OnOk result (Sweeps pages old roots (at ∷ []) (at ∷ []) new)
key_swept result pages old new roots root at here swept = on_ok (SweepsAt pages old root at new) (Sweeps pages old roots (at ∷ []) (at ∷ []) new) result (λ s. s.makes roots here) swept

-- its table has a root
pub key_there : (pages : ℕ) (old : Contents) (chains : List Chain) (roots : List ℕ) (at : RowKey) (db : Database) → CanSweep pages old chains roots (at ∷ []) db → (root : ℕ) × (1 ≤ at.table) × (slice_get roots (place_of at) ≡ Some root)
key_there pages old chains roots at db can = (can.free.0.table.def.root.0, can.free.0.from, can.roots_are (place_of at) can.free.0.table can.free.0.is_there)

-- and a tree there
pub key_tree : (pages : ℕ) (old : Contents) (chains : List Chain) (roots : List ℕ) (root : ℕ) (at : RowKey) (db : Database) → CanSweep pages old chains roots (at ∷ []) db → slice_get roots (place_of at) ≡ Some root → (tree : Tree) × IsTree pages old (suc (place_of at)) root tree
key_tree pages old chains roots root at db can here =
    let f = can.free.0 in
    let same = tree_of roots at root db f can.roots_are here in
    (f.table.tree, subst (λ (r : ℕ). IsTree pages old (suc (place_of at)) r f.table.tree) same (can.kept.holds.kept.each (place_of at) f.table f.is_there).tree)
