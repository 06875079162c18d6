-- That the derived equality is the one of the definitions, and what a lock table keeps when locks go.
use Rattle.std.proofs.Common.{◌≡◌, ◌∙◌, ◌&&◌, ◌||◌, ◌==◌, true, false, not, List, [], ◌∷◌, ℕ, refl, sym, ap, is_some, ⊎_elim}
use Rattle.std.specs.List.{list_any}
use Rattle.std.proofs.lemmas.Bool.{false≢true, and_parts, or_left, or_right, or_cases, eqb-true, cond-true, cond-false, not_from_true, not_from_false, cases_Bool}
use Rattle.std.specs.Option.{option_eq, option_cmp}
use denote.Enum.Bare.{sameb}
use Rattle.isp_reclock.specs.contracts.modes.Mode.{the_type}
use Rattle.isp_reclock.specs.contracts.entries.LockPartialEq.TheImpl.{eq-value}
use Rattle.isp_reclock.specs.contracts.modes.ModeOrd.TheImpl.{cmp-value as modecmp}
use Rattle.isp_reclock.specs.Order.{place_of, held_cmp}
use Rattle.std.specs.Ordering.{int_eq, nat_cmp, int_cmp, bool_cmp, ordering_then}
use Rattle.isp_reclock.specs.declared.modes.Mode.{Mode}
use Rattle.isp_reclock.specs.declared.modes.Mode.TheVariants.{IS, IX, S, X}
use Rattle.isp_reclock.specs.declared.entries.Held.{Held}
use Rattle.isp_reclock.specs.declared.entries.Lock.{Lock}
use Rattle.isp_reclock.specs.Modes.{is_mode}
use Rattle.isp_reclock.specs.Tables.{is_lock, holds, without}

pub mode_same : (a b : Mode) → sameb the_type a b ≡ is_mode a b
mode_same IS IS = refl
mode_same IS IX = refl
mode_same IS S = refl
mode_same IS X = refl
mode_same IX IS = refl
mode_same IX IX = refl
mode_same IX S = refl
mode_same IX X = refl
mode_same S IS = refl
mode_same S IX = refl
mode_same S S = refl
mode_same S X = refl
mode_same X IS = refl
mode_same X IX = refl
mode_same X S = refl
mode_same X X = refl

pub lock_same : (a b : Lock) → eq-value.it a b ≡ is_lock a b
lock_same a b =
    ap (λ m. (a.trx == b.trx) && ((a.held.table == b.held.table) && (option_eq int_eq a.held.key b.held.key && m)))
    (mode_same a.held.mode b.held.mode)

-- a look-up by the derived equality
pub any_same : (x : Lock) (xs : List Lock) → list_any (eq-value.it x) xs ≡ holds xs x
any_same x [] = refl
any_same x (y ∷ ys) = ap (λ b. b || list_any (eq-value.it x) ys) (lock_same x y) ∙ ap (λ b. is_lock x y || b) (any_same x ys)

-- the same lock is the same transaction's
pub is_lock-trx : (a b : Lock) → is_lock a b ≡ true → (a.trx == b.trx) ≡ true
is_lock-trx a b h = (and_parts (a.trx == b.trx) _ h).0

-- a lock that is held after a transaction's locks went is not that transaction's, and was held before
pub holds-without : (locks : List Lock) (trx : ℕ) (lock : Lock) → holds (without locks trx) lock ≡ true → (holds locks lock ≡ true) × ((lock.trx == trx) ≡ false)
holds-without [] trx lock h = absurd (false≢true h)
holds-without (x ∷ xs) trx lock h =
    let rest : holds (without xs trx) lock ≡ true → (holds (x ∷ xs) lock ≡ true) × ((lock.trx == trx) ≡ false) =
    λ there. (or_right (is_lock lock x) (holds xs lock) (holds-without xs trx lock there).0, (holds-without xs trx lock there).1) in
    ⊎_elim
    (λ its. rest (ap (λ ks. holds ks lock) (sym (cond-false (not (x.trx == trx)) (x ∷ without xs trx) (without xs trx) (not_from_true _ its))) ∙ h))
    (λ other. ⊎_elim
    (λ here. (or_left (is_lock lock x) (holds xs lock) here, ap (λ t. t == trx) (eqb-true lock.trx x.trx (is_lock-trx lock x here)) ∙ other))
    rest
    (or_cases (is_lock lock x) (holds (without xs trx) lock)
    (ap (λ ks. holds ks lock) (sym (cond-true (not (x.trx == trx)) (x ∷ without xs trx) (without xs trx) (not_from_false _ other))) ∙ h)))
    (cases_Bool (x.trx == trx))

-- the derived order of modes is their place
pub mode_order : (a b : Mode) → modecmp.it a b ≡ nat_cmp (place_of a) (place_of b)
mode_order IS IS = refl
mode_order IS IX = refl
mode_order IS S = refl
mode_order IS X = refl
mode_order IX IS = refl
mode_order IX IX = refl
mode_order IX S = refl
mode_order IX X = refl
mode_order S IS = refl
mode_order S IX = refl
mode_order S S = refl
mode_order S X = refl
mode_order X IS = refl
mode_order X IX = refl
mode_order X S = refl
mode_order X X = refl

-- the order of the tuple by which locks are sorted
pub tuple_order : (a b : Held) → ordering_then (ordering_then (ordering_then (bool_cmp (is_some a.key) (is_some b.key)) (nat_cmp a.table b.table)) (option_cmp int_cmp a.key b.key)) (modecmp.it a.mode b.mode) ≡ held_cmp a b
tuple_order a b =
    ap (ordering_then (ordering_then (ordering_then (bool_cmp (is_some a.key) (is_some b.key)) (nat_cmp a.table b.table)) (option_cmp int_cmp a.key b.key)))
    (mode_order a.mode b.mode)
