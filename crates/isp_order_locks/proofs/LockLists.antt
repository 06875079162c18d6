-- Lists of locks: one lock more, the locks of one less, and what nobody in the way of a lock means.
use Rattle.std.proofs.Common.{◌≡◌, ◌⊎◌, ◌∙◌, inl, inr, refl, sym, ap, ℕ, ℤ, ◌<◌, ◌==◌, ◌&&◌, ◌||◌, not, cond, Bool, true, false, List, [], ◌∷◌, ◌++◌, Option, Some, None, arith, eqb-true, eq-eqb}
use Rattle.std.specs.Prelude.{filter, find, if◌then◌else◌, Contains}
use Rattle.std.specs.Option.{option_eq, option_map}
use Rattle.std.specs.Ordering.{int_eq}
use Rattle.std.proofs.lemmas.Bool.{false≢true, and_parts, or_left, or_right, or_cases}
use Rattle.std.proofs.lemmas.Bool.Decides.{Decides-int_eq}
use Rattle.isp_base.specs.Lists.{Has}
use Rattle.isp_reclock.specs.declared.entries.Blocker.{Blocker}
use Rattle.isp_reclock.specs.declared.entries.Lock.{Lock}
use Rattle.isp_reclock.specs.declared.modes.Mode.{Mode}
use Rattle.isp_reclock.specs.declared.modes.Mode.TheVariants.{IS, IX, S, X}
use Rattle.isp_reclock.specs.Modes.{conflicts, is_mode, modes}
use Rattle.isp_reclock.specs.Tables.{holds, is_lock, key_lock, table_lock, takes, with_lock, without}
use Rattle.isp_reclock.specs.Blockers.{AreBlockers, blocker_of, first_conflict, lock_of}
use Rattle.isp_reclock.proofs.LockLemmas.{holds-without}
use Rattle.isp_order.specs.Locks.{Holds}

-- ---- the same lock

mode_is : (a b : Mode) → is_mode a b ≡ true → a ≡ b
mode_is IS IS h = refl
mode_is IX IX h = refl
mode_is S S h = refl
mode_is X X h = refl
mode_is a b h = let no : ⊥ = cc in absurd no

mode_same : (a : Mode) → is_mode a a ≡ true
mode_same IS = refl
mode_same IX = refl
mode_same S = refl
mode_same X = refl

int_is : (a b : ℤ) → int_eq a b ≡ true → a ≡ b
int_is a b h = (Decides-int_eq a b).0 h

int_same : (a : ℤ) → int_eq a a ≡ true
int_same a = (Decides-int_eq a a).1 refl

key_is : (a b : Option ℤ) → option_eq int_eq a b ≡ true → a ≡ b
key_is None None h = refl
key_is (Some a) (Some b) h = ap (λ x. Some x) (int_is a b h)
key_is a b h = let no : ⊥ = cc in absurd no

key_same : (a : Option ℤ) → option_eq int_eq a a ≡ true
key_same None = refl
key_same (Some a) = int_same a

pub lock_is : (a b : Lock) → is_lock a b ≡ true → a ≡ b
lock_is a b h =
    let one = and_parts (a.trx == b.trx) _ h in
    let two = and_parts (a.held.table == b.held.table) _ one.1 in
    let three = and_parts (option_eq int_eq a.held.key b.held.key) _ two.1 in
    let trx : a.trx ≡ b.trx = eqb-true a.trx b.trx one.0 in
    let table : a.held.table ≡ b.held.table = eqb-true a.held.table b.held.table two.0 in
    let key : a.held.key ≡ b.held.key = key_is a.held.key b.held.key three.0 in
    let mode : a.held.mode ≡ b.held.mode = mode_is a.held.mode b.held.mode three.1 in
    ap (λ t. record { trx = t; held = a.held }) trx
    ∙ ap (λ t. record { trx = b.trx; held = record { table = t; key = a.held.key; mode = a.held.mode } }) table
    ∙ ap (λ k. record { trx = b.trx; held = record { table = b.held.table; key = k; mode = a.held.mode } }) key
    ∙ ap (λ x. record { trx = b.trx; held = record { table = b.held.table; key = b.held.key; mode = x } }) mode

pub lock_same : (a : Lock) → is_lock a a ≡ true
lock_same a =
    let mode : is_mode a.held.mode a.held.mode ≡ true = mode_same a.held.mode in
    let key : option_eq int_eq a.held.key a.held.key ≡ true = key_same a.held.key in
    let table : (a.held.table == a.held.table) ≡ true = eq-eqb a.held.table a.held.table refl in
    let trx : (a.trx == a.trx) ≡ true = eq-eqb a.trx a.trx refl in
    rw (trx, table, key) mode

-- ---- one lock more

holds_append : (locks : List Lock) (lock other : Lock) → holds (locks ++ lock ∷ []) other ≡ true → holds locks other ≡ true ⊎ (other ≡ lock)
holds_append [] lock other h = elim (or_cases (is_lock other lock) false h) [ inl k ↦ inr (lock_is other lock k) | inr k ↦ absurd (false≢true k) ]
holds_append (x ∷ locks) lock other h = elim (or_cases (is_lock other x) (holds (locks ++ lock ∷ []) other) h) [
  | inl k ↦ inl (or_left (is_lock other x) (holds locks other) k)
  | inr k ↦ elim (holds_append locks lock other k) [ inl l ↦ inl (or_right (is_lock other x) (holds locks other) l) | inr l ↦ inr l ]
]

append_old : (locks : List Lock) (lock other : Lock) → holds locks other ≡ true → holds (locks ++ lock ∷ []) other ≡ true
append_old [] lock other h = absurd (false≢true h)
append_old (x ∷ locks) lock other h = elim (or_cases (is_lock other x) (holds locks other) h) [
  | inl k ↦ or_left (is_lock other x) (holds (locks ++ lock ∷ []) other) k
  | inr k ↦ or_right (is_lock other x) (holds (locks ++ lock ∷ []) other) (append_old locks lock other k)
]

append_new : (locks : List Lock) (lock : Lock) → holds (locks ++ lock ∷ []) lock ≡ true
append_new [] lock = or_left (is_lock lock lock) false (lock_same lock)
append_new (x ∷ locks) lock = or_right (is_lock lock x) (holds (locks ++ lock ∷ []) lock) (append_new locks lock)

with_cases : (b : Bool) (locks : List Lock) (lock other : Lock) → holds locks lock ≡ b → holds (if b then locks else locks ++ lock ∷ []) other ≡ true
    → holds locks other ≡ true ⊎ (other ≡ lock)
with_cases true locks lock other e h = inl h
with_cases false locks lock other e h = holds_append locks lock other h

-- what is held with one lock more was held before, or is that lock
pub held_before : (locks : List Lock) (lock other : Lock) → holds (with_lock locks lock) other ≡ true → holds locks other ≡ true ⊎ (other ≡ lock)
held_before locks lock other h = with_cases (holds locks lock) locks lock other refl h

old_cases : (b : Bool) (locks : List Lock) (lock other : Lock) → holds locks other ≡ true → holds (if b then locks else locks ++ lock ∷ []) other ≡ true
old_cases true locks lock other h = h
old_cases false locks lock other h = append_old locks lock other h

pub still_held : (locks : List Lock) (lock other : Lock) → holds locks other ≡ true → holds (with_lock locks lock) other ≡ true
still_held locks lock other h = old_cases (holds locks lock) locks lock other h

new_cases : (b : Bool) (locks : List Lock) (lock : Lock) → holds locks lock ≡ b → holds (if b then locks else locks ++ lock ∷ []) lock ≡ true
new_cases true locks lock e = e
new_cases false locks lock e = append_new locks lock

pub now_held : (locks : List Lock) (lock : Lock) → holds (with_lock locks lock) lock ≡ true
now_held locks lock = new_cases (holds locks lock) locks lock refl

has_cases : (b : Bool) (locks : List Lock) (lock other : Lock) → Has (if b then locks else locks ++ lock ∷ []) other → Has locks other ⊎ (lock ≡ other)
has_cases true locks lock other h = inl h
has_cases false locks lock other h = appended locks h
  where
    appended : (xs : List Lock) → Has (xs ++ lock ∷ []) other → Has xs other ⊎ (lock ≡ other)
    appended [] (inl e) = inr e
    appended [] (inr k) = absurd k
    appended (x ∷ xs) (inl e) = inl (inl e)
    appended (x ∷ xs) (inr k) = elim (appended xs k) [ inl l ↦ inl (inr l) | inr l ↦ inr l ]

pub listed_before : (locks : List Lock) (lock other : Lock) → Has (with_lock locks lock) other → Has locks other ⊎ (lock ≡ other)
listed_before locks lock other h = has_cases (holds locks lock) locks lock other h

-- ---- the locks of one less

left_cases : (b : Bool) (x other : Lock) (rest : List Lock) → (is_lock other x ≡ true → b ≡ true) → (is_lock other x || holds rest other) ≡ true → (holds rest other ≡ true → holds rest other ≡ true)
    → holds (cond b (x ∷ rest) rest) other ≡ true
left_cases true x other rest f h k = h
left_cases false x other rest f h k = elim (or_cases (is_lock other x) (holds rest other) h) [ inl l ↦ absurd (false≢true (f l)) | inr l ↦ l ]

-- what another holds stays
pub held_by_other : (locks : List Lock) (s : ℕ) (other : Lock) → (other.trx == s) ≡ false → holds locks other ≡ true → holds (without locks s) other ≡ true
held_by_other [] s other e h = absurd (false≢true h)
held_by_other (x ∷ locks) s other e h =
    left_cases (not (x.trx == s)) x other (without locks s)
    (λ same. not_of (x.trx == s) (ap (λ (l : Lock). l.trx == s) (sym (lock_is other x same)) ∙ e))
    (elim (or_cases (is_lock other x) (holds locks other) h) [
      | inl k ↦ or_left (is_lock other x) (holds (without locks s) other) k
      | inr k ↦ or_right (is_lock other x) (holds (without locks s) other) (held_by_other locks s other e k)
    ]) (λ k. k)
  where
    not_of : (b : Bool) → b ≡ false → not b ≡ true
    not_of true i = absurd (false≢true (sym i))
    not_of false i = refl

-- what is held then was held, by another
pub held_without : (locks : List Lock) (s : ℕ) (other : Lock) → holds (without locks s) other ≡ true → (holds locks other ≡ true) × ((other.trx == s) ≡ false)
held_without locks s other h = holds-without locks s other h

filtered : {Y : Type 0} (test : Y → Bool) (xs : List Y) (x : Y) → Has (filter test xs) x → Has xs x × (test x ≡ true)
filtered test [] x h = absurd h
filtered test (y ∷ xs) x h = by_test (test y) refl (filtered test xs x) h
  where
    by_test : (b : Bool) → test y ≡ b → (Has (filter test xs) x → Has xs x × (test x ≡ true)) → Has (cond b (y ∷ filter test xs) (filter test xs)) x → Has (y ∷ xs) x × (test x ≡ true)
    by_test true e again (inl k) = (inl k, ap test (sym k) ∙ e)
    by_test true e again (inr k) = (inr (again k).0, (again k).1)
    by_test false e again k = (inr (again k).0, (again k).1)

pub in_filtered : {Y : Type 0} (test : Y → Bool) (xs : List Y) (x : Y) → Has (filter test xs) x → Has xs x × (test x ≡ true)
in_filtered test xs x h = filtered test xs x h

-- ---- nobody in the way

first_of_four : (p : Mode → Bool) (mode : Mode) → p mode ≡ true → find p modes ≡ None → ⊥
first_of_four p mode h none = by_tests mode (p IS) (p IX) (p S) (p X) refl refl refl refl h none
  where
    by_tests : (mode' : Mode) (a b c d : Bool) → p IS ≡ a → p IX ≡ b → p S ≡ c → p X ≡ d → p mode' ≡ true
        → cond a (Some IS) (cond b (Some IX) (cond c (Some S) (cond d (Some X) None))) ≡ None → ⊥
    by_tests mode' true b c d e f g i k l = let no : ⊥ = cc in no
    by_tests mode' false true c d e f g i k l = let no : ⊥ = cc in no
    by_tests mode' false false true d e f g i k l = let no : ⊥ = cc in no
    by_tests mode' false false false true e f g i k l = let no : ⊥ = cc in no
    by_tests IS false false false false e f g i k l = false≢true (sym e ∙ k)
    by_tests IX false false false false e f g i k l = false≢true (sym f ∙ k)
    by_tests S false false false false e f g i k l = false≢true (sym g ∙ k)
    by_tests X false false false false e f g i k l = false≢true (sym i ∙ k)

-- where nobody stands in the way, no mode of another conflicts
pub nobody_conflicts : (locks : List Lock) (asked : Lock) (k : ℕ) (mode : Mode) → AreBlockers locks asked [] → (k == asked.trx) ≡ false
    → holds locks (lock_of k asked mode) ≡ true → conflicts mode asked.held.mode ≡ false
nobody_conflicts locks asked k mode none other held =
    elim (conflicts mode asked.held.mode) as (λ b. conflicts mode asked.held.mode ≡ b → b ≡ false) [
      | true ↦ λ e. absurd (first_of_four (λ x. conflicts x asked.held.mode && holds locks (lock_of k asked x)) mode (both e) (no_first (first_conflict locks asked k) refl))
      | false ↦ λ e. refl
    ] refl
  where
    both : conflicts mode asked.held.mode ≡ true → (conflicts mode asked.held.mode && holds locks (lock_of k asked mode)) ≡ true
    both e = rw e held

    no_first : (o : Option Mode) → first_conflict locks asked k ≡ o → first_conflict locks asked k ≡ None
    no_first None e = e
    no_first (Some first) e =
        let b : Blocker = record { trx = k; held = first } in
        let is : blocker_of locks asked k ≡ Some b =
        ap (λ t. if t then None else option_map (λ x. record { trx = k; held = x }) (first_conflict locks asked k)) other
        ∙ ap (λ o. option_map (λ x. record { trx = k; held = x }) o) e in
        absurd (nothing_in b ((none.exact b).1 is))
      where
        nothing_in : (b : Blocker) → Contains [] b → ⊥
        nothing_in b h = let lt : h.0 < 0 = h.1 in omega (arith, lt)

pub conflict_back : (a b : Mode) → conflicts a b ≡ conflicts b a
conflict_back IS IS = refl
conflict_back IS IX = refl
conflict_back IS S = refl
conflict_back IS X = refl
conflict_back IX IS = refl
conflict_back IX IX = refl
conflict_back IX S = refl
conflict_back IX X = refl
conflict_back S IS = refl
conflict_back S IX = refl
conflict_back S S = refl
conflict_back S X = refl
conflict_back X IS = refl
conflict_back X IX = refl
conflict_back X S = refl
conflict_back X X = refl

-- ---- X on a key or its table

pub takes_cases : (locks : List Lock) (table : ℕ) (key : ℤ) (s : ℕ) → takes locks table key s ≡ true → Holds locks s table (Some key) X ⊎ Holds locks s table None X
takes_cases locks table key s h = or_cases (holds locks (key_lock s table key X)) (holds locks (table_lock s table X)) h

pub takes_key : (locks : List Lock) (table : ℕ) (key : ℤ) (s : ℕ) → Holds locks s table (Some key) X → takes locks table key s ≡ true
takes_key locks table key s h = or_left (holds locks (key_lock s table key X)) (holds locks (table_lock s table X)) h

pub takes_table : (locks : List Lock) (table : ℕ) (key : ℤ) (s : ℕ) → Holds locks s table None X → takes locks table key s ≡ true
takes_table locks table key s h = or_right (holds locks (key_lock s table key X)) (holds locks (table_lock s table X)) h

-- what one holds of these locks it holds of those
abbrev pub Keeps : List Lock → List Lock → ℕ → Type 0
Keeps locks new s = (table : ℕ) (key : Option ℤ) (mode : Mode) → Holds locks s table key mode → Holds new s table key mode

pub keeps_taken : (locks new : List Lock) (s table : ℕ) (key : ℤ) → Keeps locks new s → takes locks table key s ≡ true → takes new table key s ≡ true
keeps_taken locks new s table key keep h = elim (takes_cases locks table key s h) [
  | inl k ↦ takes_key new table key s (keep table (Some key) X k)
  | inr k ↦ takes_table new table key s (keep table None X k)
]
