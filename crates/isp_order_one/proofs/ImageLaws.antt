-- The oldest image of a key, in one undo list and in all of them.
use Rattle.std.proofs.Common.{◌≡◌, ◌∙◌, inl, inr, refl, sym, ap, ℕ, ℤ, zero, suc, ◌==◌, ◌&&◌, Bool, true, false, cond, Option, Some, None, List, [], ◌∷◌, ◌++◌, arith, eqb-true, eq-eqb}
use Rattle.std.specs.Prelude.{find, is_some, slice_set}
use Rattle.std.specs.Option.{option_map, option_or}
use Rattle.std.specs.Ordering.{int_eq}
use Rattle.std.proofs.lemmas.Bool.{false≢true, and_parts}
use Rattle.std.proofs.lemmas.Bool.Decides.{Decides-int_eq}
use Rattle.isp_base.specs.Lists.{Has}
use Rattle.isp_events.specs.Sessions.{Image, SessionState, UndoEntry, session_at}
use Rattle.isp_events.specs.Deadlocks.{Deadlock, as_victim, with_victims}
use Rattle.isp_events.specs.Views.{first_image, first_image_of_all, has_written, is_of_key}
use Rattle.isp_order.proofs.RowLaws.{key_is}

-- ---- entries of a key

pub of_key_parts : (table : ℕ) (key : ℤ) (e : UndoEntry) → is_of_key table key e ≡ true → (e.table ≡ table) × (e.key ≡ key)
of_key_parts table key e h =
    let parts = and_parts (e.table == table) (int_eq e.key key) h in
    (eqb-true e.table table parts.0, key_is e.key key parts.1)

pub is_own_key : (table : ℕ) (key : ℤ) (e : UndoEntry) → e.table ≡ table → e.key ≡ key → is_of_key table key e ≡ true
is_own_key table key e t k =
    ap (λ b. b && int_eq e.key key) (eq-eqb e.table table t) ∙ (Decides-int_eq e.key key).1 k

pub not_own_key : (table : ℕ) (key : ℤ) (e : UndoEntry) → is_of_key table key e ≡ false → table ≡ e.table → key ≡ e.key → ⊥
not_own_key table key e h t k = false≢true (sym h ∙ is_own_key table key e (sym t) (sym k))

-- ---- the first image of an undo list, and of one with an entry more

none_some : (image : Image) → ◌≡◌ {A = Option Image} None (Some image) → ⊥
none_some image h = cc

pub push_other : (us : List UndoEntry) (e : UndoEntry) (table : ℕ) (key : ℤ) → is_of_key table key e ≡ false → first_image (us ++ e ∷ []) table key ≡ first_image us table key
push_other [] e table key h = ap (λ b. option_map (λ (u : UndoEntry). u.image) (cond b (Some e) None)) h
push_other (u ∷ us) e table key h = by_test (is_of_key table key u) (push_other us e table key h)
  where
    by_test : (b : Bool) → first_image (us ++ e ∷ []) table key ≡ first_image us table key
        → option_map (λ (v : UndoEntry). v.image) (cond b (Some u) (find (is_of_key table key) (us ++ e ∷ []))) ≡ option_map (λ (v : UndoEntry). v.image) (cond b (Some u) (find (is_of_key table key) us))
    by_test true again = refl
    by_test false again = again

pub push_after : (us : List UndoEntry) (e : UndoEntry) (table : ℕ) (key : ℤ) (image : Image) → first_image us table key ≡ Some image → first_image (us ++ e ∷ []) table key ≡ Some image
push_after [] e table key image h = absurd (none_some image h)
push_after (u ∷ us) e table key image h = by_test (is_of_key table key u) (push_after us e table key image) h
  where
    by_test : (b : Bool) → (first_image us table key ≡ Some image → first_image (us ++ e ∷ []) table key ≡ Some image)
        → option_map (λ (v : UndoEntry). v.image) (cond b (Some u) (find (is_of_key table key) us)) ≡ Some image
        → option_map (λ (v : UndoEntry). v.image) (cond b (Some u) (find (is_of_key table key) (us ++ e ∷ []))) ≡ Some image
    by_test true again k = k
    by_test false again k = again k

pub push_first : (us : List UndoEntry) (e : UndoEntry) (table : ℕ) (key : ℤ) → first_image us table key ≡ None → is_of_key table key e ≡ true → first_image (us ++ e ∷ []) table key ≡ Some e.image
push_first [] e table key h is = ap (λ b. option_map (λ (u : UndoEntry). u.image) (cond b (Some e) None)) is
push_first (u ∷ us) e table key h is = by_test (is_of_key table key u) (λ i. push_first us e table key i is) h
  where
    by_test : (b : Bool) → (first_image us table key ≡ None → first_image (us ++ e ∷ []) table key ≡ Some e.image)
        → option_map (λ (v : UndoEntry). v.image) (cond b (Some u) (find (is_of_key table key) us)) ≡ None
        → option_map (λ (v : UndoEntry). v.image) (cond b (Some u) (find (is_of_key table key) (us ++ e ∷ []))) ≡ Some e.image
    by_test true again k = absurd (none_some u.image (sym k))
    by_test false again k = again k

pub none_of_key : (us : List UndoEntry) (table : ℕ) (key : ℤ) → ((u : UndoEntry) → Has us u → is_of_key table key u ≡ false) → first_image us table key ≡ None
none_of_key [] table key h = refl
none_of_key (u ∷ us) table key h =
    ap (λ b. option_map (λ (v : UndoEntry). v.image) (cond b (Some u) (find (is_of_key table key) us))) (h u (inl refl))
    ∙ none_of_key us table key (λ v k. h v (inr k))

-- ---- the first image of all undo lists

pub all_set : (sessions : List SessionState) (s : ℕ) (new : SessionState) (table : ℕ) (key : ℤ)
    → first_image new.undo table key ≡ first_image (session_at sessions s).undo table key
    → first_image_of_all (slice_set sessions s new) table key ≡ first_image_of_all sessions table key
all_set [] s new table key h = refl
all_set (x ∷ sessions) zero new table key h = ap (λ o. option_or o (first_image_of_all sessions table key)) h
all_set (x ∷ sessions) (suc s) new table key h = ap (option_or (first_image x.undo table key)) (all_set sessions s new table key h)

pub all_victims : (sessions : List SessionState) (ds : List Deadlock) (table : ℕ) (key : ℤ) → first_image_of_all (with_victims sessions ds) table key ≡ first_image_of_all sessions table key
all_victims sessions [] table key = refl
all_victims sessions (d ∷ ds) table key =
    all_victims (slice_set sessions d.victim (as_victim (session_at sessions d.victim))) ds table key
    ∙ all_set sessions d.victim (as_victim (session_at sessions d.victim)) table key refl

pub all_none : (sessions : List SessionState) (table : ℕ) (key : ℤ) → ((j : ℕ) → first_image (session_at sessions j).undo table key ≡ None) → first_image_of_all sessions table key ≡ None
all_none [] table key h = refl
all_none (x ∷ sessions) table key h =
    ap (λ o. option_or o (first_image_of_all sessions table key)) (h 0) ∙ all_none sessions table key (λ j. h (suc j))

-- where no other names the key, it is the session's
pub all_alone : (sessions : List SessionState) (s : ℕ) (table : ℕ) (key : ℤ) → ((j : ℕ) → (j ≡ s → ⊥) → first_image (session_at sessions j).undo table key ≡ None)
    → first_image_of_all sessions table key ≡ first_image (session_at sessions s).undo table key
all_alone [] s table key h = refl
all_alone (x ∷ sessions) zero table key h =
    ap (option_or (first_image x.undo table key)) (all_none sessions table key (λ j. h (suc j) (λ e. omega (arith, e)))) ∙ or_none (first_image x.undo table key)
  where
    or_none : (o : Option Image) → option_or o None ≡ o
    or_none None = refl
    or_none (Some image) = refl
all_alone (x ∷ sessions) (suc s) table key h =
    ap (λ o. option_or o (first_image_of_all sessions table key)) (h 0 (λ e. omega (arith, e)))
    ∙ all_alone sessions s table key (λ j ne. h (suc j) (λ e. ne (omega (arith, e))))

-- a key that somebody has written has an image
pub written_some : (sessions : List SessionState) (w : ℕ) (table : ℕ) (key : ℤ) → has_written (session_at sessions w) table key ≡ true → first_image_of_all sessions table key ≡ None → ⊥
written_some [] w table key h none = false≢true h
written_some (x ∷ sessions) zero table key h none = by_found (find (is_of_key table key) x.undo) h none
  where
    by_found : (o : Option UndoEntry) → is_some o ≡ true → option_or (option_map (λ (u : UndoEntry). u.image) o) (first_image_of_all sessions table key) ≡ None → ⊥
    by_found None i k = false≢true i
    by_found (Some u) i k = none_some u.image (sym k)
written_some (x ∷ sessions) (suc w) table key h none = by_first (first_image x.undo table key) none (λ k. written_some sessions w table key h k)
  where
    by_first : (o : Option Image) → option_or o (first_image_of_all sessions table key) ≡ None → (first_image_of_all sessions table key ≡ None → ⊥) → ⊥
    by_first None k again = again k
    by_first (Some image) k again = none_some image (sym k)
