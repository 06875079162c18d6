-- What is seen, in a state in order: nothing where nothing is kept; and what is locked is seen as it stands.
use Rattle.std.proofs.Common.{◌≡◌, ◌⊎◌, ◌∙◌, ◌≤◌, inl, inr, refl, sym, ap, subst, ℕ, zero, suc, ℤ, ◌==◌, Bool, true, false, cond, Option, Some, None, List, [], ◌∷◌, ◌++◌, drop, length, is_some, eqb-true, eq-eqb}
use Rattle.std.specs.Prelude.{find}
use Rattle.std.specs.Option.{option_and_then, option_map, option_or}
use Rattle.std.proofs.lemmas.Bool.{false≢true}
use Rattle.isp_base.specs.Lists.{Has}
use Rattle.isp_reclock.specs.Tables.{takes}
use Rattle.isp_plain.specs.declared.value.Row.{Row}
use Rattle.isp_events.specs.Stored.{KeptRow, StoredTable, Version, kept_at, present, row_of, table_at, version_of}
use Rattle.isp_events.specs.Sessions.{Image, was_absent, was_there, was_marked, SessionState, UndoEntry, Work, fresh, session_at}
use Rattle.isp_events.specs.State.{State}
use Rattle.isp_events.specs.Views.{committed_row, first_image, first_image_of_all, has_written, is_of_key, length_at_beginning, row_or, statement_undo, version_in, version_or, view, view_at, view_at_beginning}
use Rattle.isp_events.specs.Ways.{Machine}
use Rattle.isp_order.specs.Trees.{AreKeyed, IsRestorable}
use Rattle.isp_order.specs.InOrder.{InOrder, IsProper}
use Rattle.isp_order_one.proofs.CommittedLaws.{not_same_is, taken_once}
use Rattle.isp_order_one.proofs.ImageLaws.{all_alone, none_of_key, of_key_parts}
use Rattle.isp_order_reads.proofs.RowFrames.{Reads, no_other_writes}
use Rattle.isp_order_trees.proofs.MissedLaws.{FromUndo, image_from}
use Rattle.isp_views.specs.Views.{AreShown, IsShown, StatesAreShown}
use Rattle.isp_views.proofs.SeenLaws.{Covers, is_shown}

some_none : {X : Type 0} (x : X) → Some x ≡ None → ⊥
some_none x h = cc

none_some : {X : Type 0} (x : X) → None ≡ Some x → ⊥
none_some x h = cc

-- ---- images

pub drop_none : {X : Type 0} (n : ℕ) (us : List X) → us ≡ [] → drop n us ≡ []
drop_none zero us h = h
drop_none (suc n) us h = ap (drop (suc n)) h

-- who has not written the key has no image of it
pub unwritten_image : (us : List UndoEntry) (t : ℕ) (k : ℤ) → is_some (find (is_of_key t k) us) ≡ false → first_image us t k ≡ None
unwritten_image us t k h = by_found (find (is_of_key t k) us) h
  where
    by_found : (o : Option UndoEntry) → is_some o ≡ false → option_map (λ (u : UndoEntry). u.image) o ≡ None
    by_found None e = refl
    by_found (Some u) e = absurd (false≢true (sym e))

pub image_unwritten : (us : List UndoEntry) (t : ℕ) (k : ℤ) → first_image us t k ≡ None → is_some (find (is_of_key t k) us) ≡ false
image_unwritten us t k h = by_found (find (is_of_key t k) us) h
  where
    by_found : (o : Option UndoEntry) → option_map (λ (u : UndoEntry). u.image) o ≡ None → is_some o ≡ false
    by_found None e = refl
    by_found (Some u) e = absurd (some_none u.image e)

-- an image of the first of them, or of a later one
pub first_of_drop : (n : ℕ) (us : List UndoEntry) (t : ℕ) (k : ℤ) → first_image us t k ≡ None → first_image (drop n us) t k ≡ None
first_of_drop zero us t k h = h
first_of_drop (suc n) [] t k h = h
first_of_drop (suc n) (u ∷ us) t k h = first_of_drop n us t k (by_test (is_of_key t k u) h)
  where
    by_test : (b : Bool) → option_map (λ (v : UndoEntry). v.image) (cond b (Some u) (find (is_of_key t k) us)) ≡ None → first_image us t k ≡ None
    by_test true e = absurd (some_none u.image e)
    by_test false e = e

-- what is seen by whose undo list
abbrev pub view_by : SessionState → Option Row → Option Row → ℕ → ℤ → Option Row
view_by session here other t k = row_or (first_image (statement_undo session) t k) (cond (has_written session t k) here other)

-- ---- what covers

module _ (m : Machine) (state : State) (o : InOrder m state) where
  present_covers : (t : ℕ) (k : ℤ) → kept_at (table_at state.tables t) k ≡ None → present (table_at state.tables t) k ≡ None
  present_covers t k h = ap (option_and_then version_of) h

  -- an image of a key that is kept nowhere is none
  image_covers : (s t : ℕ) (k : ℤ) (u : UndoEntry) → Has (session_at state.sessions s).undo u → u.table ≡ t → u.key ≡ k → kept_at (table_at state.tables t) k ≡ None → ⊥
  image_covers s t k u h table key none =
      let r : IsRestorable state.tables (session_at state.sessions s) u = o.restorable s u h in
      none_some r.kept (sym none ∙ ap (λ n. kept_at (table_at state.tables n) k) (sym table) ∙ ap (kept_at (table_at state.tables u.table)) (sym key) ∙ r.there)

  committed_covers : Covers (committed_row state) state.tables
  committed_covers t k none = by_image (first_image_of_all state.sessions t k) refl
    where
      by_image : (i : Option Image) → first_image_of_all state.sessions t k ≡ i → row_of (version_or i (present (table_at state.tables t) k)) ≡ None
      by_image None e = ap row_of (present_covers t k none)
      by_image (Some image) e =
          let from : FromUndo state.sessions t k image = image_from state.sessions t k image e in
          absurd (image_covers from.s t k from.undo from.has from.of_table from.of_key none)

  pub found_in : (us : List UndoEntry) (t : ℕ) (k : ℤ) (image : Image) → first_image us t k ≡ Some image → (u : UndoEntry) × Has us u × (u.table ≡ t) × (u.key ≡ k) × (u.image ≡ image)
  found_in [] t k image h = absurd (none_some image h)
  found_in (u ∷ us) t k image h = by_test (is_of_key t k u) refl (found_in us t k image) h
    where
      some_is : (x y : Image) → Some x ≡ Some y → x ≡ y
      some_is x y e = cc

      by_test : (b : Bool) → is_of_key t k u ≡ b → (first_image us t k ≡ Some image → (v : UndoEntry) × Has us v × (v.table ≡ t) × (v.key ≡ k) × (v.image ≡ image))
          → option_map (λ (v : UndoEntry). v.image) (cond b (Some u) (find (is_of_key t k) us)) ≡ Some image
          → (v : UndoEntry) × Has (u ∷ us) v × (v.table ≡ t) × (v.key ≡ k) × (v.image ≡ image)
      by_test true e again i = (let parts = of_key_parts t k u e in (u, inl refl, parts.0, parts.1, some_is u.image image i))
      by_test false e again i = (let r = again i in (r.0, inr r.1, r.2, r.3, r.4))

  pub has_dropped : (n : ℕ) (us : List UndoEntry) (u : UndoEntry) → Has (drop n us) u → Has us u
  has_dropped zero us u h = h
  has_dropped (suc n) [] u h = h
  has_dropped (suc n) (v ∷ us) u h = inr (has_dropped n us u h)

  view_covers : (s : ℕ) → Covers (view_at_beginning state s) state.tables
  view_covers s t k none = by_image (first_image (statement_undo (session_at state.sessions s)) t k) refl
    where
      by_written : (b : Bool) → cond b (row_of (present (table_at state.tables t) k)) (committed_row state t k) ≡ None
      by_written true = ap row_of (present_covers t k none)
      by_written false = committed_covers t k none

      by_image : (i : Option Image) → first_image (statement_undo (session_at state.sessions s)) t k ≡ i → row_or i (view_at state s t k) ≡ None
      by_image None e = by_written (has_written (session_at state.sessions s) t k)
      by_image (Some image) e =
          let r = found_in (statement_undo (session_at state.sessions s)) t k image e in
          absurd (image_covers s t k r.0 (has_dropped (length_at_beginning (session_at state.sessions s) (session_at state.sessions s).work) (session_at state.sessions s).undo r.0 r.1) r.2 r.3 none)

  sight_covers : (s : ℕ) → Covers (view_at state s) state.tables
  sight_covers s t k none = by_written (has_written (session_at state.sessions s) t k)
    where
      by_written : (b : Bool) → cond b (row_of (present (table_at state.tables t) k)) (committed_row state t k) ≡ None
      by_written true = ap row_of (present_covers t k none)
      by_written false = committed_covers t k none

  -- what a session sees now
  pub sight_shown : (s : ℕ) → IsShown state.tables (view_at state s) (view state s)
  sight_shown s = is_shown (view_at state s) state.tables o.keyed (sight_covers s)

  pub are_shown : AreShown state
  are_shown = record {
    committed_shown = is_shown (committed_row state) state.tables o.keyed committed_covers;
    views_shown = λ s. is_shown (view_at_beginning state s) state.tables o.keyed (view_covers s);
  }

  -- ---- what nobody else has written

  -- who alone may have written a key sees what stands there
  pub alone_sees : (s t : ℕ) (k : ℤ) → ((j : ℕ) → (j ≡ s → ⊥) → first_image (session_at state.sessions j).undo t k ≡ None) → view_at state s t k ≡ row_of (present (table_at state.tables t) k)
  alone_sees s t k none = by_written (has_written (session_at state.sessions s) t k) refl
    where
      by_written : (b : Bool) → has_written (session_at state.sessions s) t k ≡ b
          → cond b (row_of (present (table_at state.tables t) k)) (committed_row state t k) ≡ row_of (present (table_at state.tables t) k)
      by_written true e = refl
      by_written false e =
          ap (λ i. row_of (version_or i (present (table_at state.tables t) k)))
          (all_alone state.sessions s t k none ∙ unwritten_image (session_at state.sessions s).undo t k e)

  module _ (good : IsProper m) where
    -- who reads a key, has it alone
    pub reader_alone : (s t : ℕ) (k : ℤ) → Reads state.locks s t k → (j : ℕ) → (j ≡ s → ⊥) → first_image (session_at state.sessions j).undo t k ≡ None
    reader_alone s t k reads j ne = none_of_key (session_at state.sessions j).undo t k (λ u h. by_test u h (is_of_key t k u) refl)
      where
        by_test : (u : UndoEntry) → Has (session_at state.sessions j).undo u → (b : Bool) → is_of_key t k u ≡ b → b ≡ false
        by_test u h true e =
            let parts = of_key_parts t k u e in
            let mine : takes state.locks t k j ≡ true =
            subst (λ n. takes state.locks n k j ≡ true) parts.0 (subst (λ i. takes state.locks u.table i j ≡ true) parts.1 (o.written_locked.undone j u h)) in
            absurd (no_other_writes m state good o j s t k (not_same_is j s ne) mine reads)
        by_test u h false e = refl

    pub reader_sees : (s t : ℕ) (k : ℤ) → Reads state.locks s t k → view_at state s t k ≡ row_of (present (table_at state.tables t) k)
    reader_sees s t k reads = alone_sees s t k (reader_alone s t k reads)

    -- nobody else has written it
    pub reader_unwritten : (s t : ℕ) (k : ℤ) → Reads state.locks s t k → (j : ℕ) → (j == s) ≡ false → has_written (session_at state.sessions j) t k ≡ false
    reader_unwritten s t k reads j ne =
        image_unwritten (session_at state.sessions j).undo t k (reader_alone s t k reads j (λ e. false≢true (sym ne ∙ eq-eqb j s e)))

pub states_are_shown : StatesAreShown
states_are_shown m state o = are_shown m state o
