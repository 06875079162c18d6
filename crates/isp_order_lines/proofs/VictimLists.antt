-- Victims are those that a line names and no line behind it answers.
use Rattle.std.proofs.Common.{◌≡◌, ◌⊎◌, ◌∙◌, inl, inr, refl, sym, ap, subst, ℕ, ◌==◌, ◌||◌, cond, Bool, true, false, Option, Some, None, List, [], ◌∷◌, eqb-true, eq-eqb}
use Rattle.std.specs.List.{cons_option}
use Rattle.std.proofs.lemmas.Bool.{false≢true, or_cases}
use Rattle.isp_serial.specs.Answers.{Answer, answers_of}
use Rattle.isp_forest.specs.Steps.{is_among}
use Rattle.isp_events.specs.State.{without}
use Rattle.isp_events.specs.Lines.{Line, Told, answer, lock_list, waits_for_table, waits_for_key, waits_to_insert, deadlock, traced, answer_in, answers_in}
use Rattle.isp_order_lines.specs.Told.{IsNamedVictim, VictimsAreNamed, victims_after, victims_answered, victims_of, victims_told}
use Rattle.isp_order_lines.proofs.LineLists.{among_self, gone_other, gone_self, victims_append}

module _ (k : ℕ) where
  -- no answer of the session is among these
  abbrev Quiet : List Line → Type 0
  Quiet lines = answers_of k (answers_in lines) ≡ []

  -- an answer of another, or none, in front of them
  quiet_before : (o : Option Answer) (lines : List Line) → ((a : Answer) → o ≡ Some a → (a.session == k) ≡ false) → Quiet lines → answers_of k (cons_option o (answers_in lines)) ≡ []
  quiet_before None lines other h = h
  quiet_before (Some a) lines other h = ap (λ b. cond b (a ∷ answers_of k (answers_in lines)) (answers_of k (answers_in lines))) (other a refl) ∙ h

  quiet_after : (o : Option Answer) (lines : List Line) → answers_of k (cons_option o (answers_in lines)) ≡ [] → Quiet lines × ((a : Answer) → o ≡ Some a → (a.session == k) ≡ false)
  quiet_after None lines h = (h, λ a is. let no : ⊥ = cc in absurd no)
  quiet_after (Some b) lines h = by_test (b.session == k) refl h
    where
      by_test : (t : Bool) → (b.session == k) ≡ t → cond t (b ∷ answers_of k (answers_in lines)) (answers_of k (answers_in lines)) ≡ []
          → Quiet lines × ((a : Answer) → Some b ≡ Some a → (a.session == k) ≡ false)
      by_test true e i = let no : ⊥ = cc in absurd no
      by_test false e i = (i, λ a is. let same : b ≡ a = cc in ap (λ (x : Answer). x.session == k) (sym same) ∙ e)

  -- where it is a victim behind a line: it was one, or the line names it; and it isn't answered there
  told_before : (told : Told) (victims : List ℕ) → is_among (victims_told told victims) k ≡ true → (is_among victims k ≡ true) ⊎ ((members : List ℕ) × (told ≡ deadlock members k))
  told_before (deadlock members victim) victims h = elim (or_cases (victim == k) (is_among victims k) h) [
    | inl e ↦ inr (members, ap (deadlock members) (eqb-true victim k e))
    | inr i ↦ inl i
  ]
  told_before (answer text) victims h = inl h
  told_before (lock_list list) victims h = inl h
  told_before (waits_for_table table mode by) victims h = inl h
  told_before (waits_for_key table key mode by) victims h = inl h
  told_before (waits_to_insert table column box leaf by) victims h = inl h
  told_before (traced t) victims h = inl h

  answered_before : (o : Option Answer) (victims : List ℕ) → is_among (victims_answered o victims) k ≡ true → (is_among victims k ≡ true) × ((a : Answer) → o ≡ Some a → (a.session == k) ≡ false)
  answered_before None victims h = (h, λ a is. let no : ⊥ = cc in absurd no)
  answered_before (Some b) victims h = by_test (k == b.session) refl
    where
      flip : (k == b.session) ≡ false → (b.session == k) ≡ false
      flip e = by_back (b.session == k) refl
        where
          by_back : (t : Bool) → (b.session == k) ≡ t → t ≡ false
          by_back false i = refl
          by_back true i = absurd (false≢true (sym e ∙ eq-eqb k b.session (sym (eqb-true b.session k i))))

      by_test : (t : Bool) → (k == b.session) ≡ t → (is_among victims k ≡ true) × ((a : Answer) → Some b ≡ Some a → (a.session == k) ≡ false)
      by_test true e =
          absurd (false≢true (sym (gone_self victims b.session) ∙ subst (λ i. is_among (without b.session victims) i ≡ true) (eqb-true k b.session e) h))
      by_test false e =
          (sym (gone_other victims b.session k e) ∙ h, λ a is. let same : b ≡ a = cc in ap (λ (x : Answer). x.session == k) (sym same) ∙ flip e)

  named_in : (victims : List ℕ) (lines : List Line) → is_among (victims_after victims lines) k ≡ true → ((is_among victims k ≡ true) × Quiet lines) ⊎ IsNamedVictim lines k
  named_in victims [] h = inl (h, refl)
  named_in victims (line ∷ lines) h = elim (named_in (victims_answered (answer_in line) (victims_told line.told victims)) lines h) [
    | inr n ↦ inr (record { before = line ∷ n.before; line = n.line; members = n.members; behind = n.behind; parts = ap (λ xs. line ∷ xs) n.parts; names = n.names; unanswered = n.unanswered })
    | inl p ↦ (let a = answered_before (answer_in line) (victims_told line.told victims) p.0 in
        elim (told_before line.told victims a.0) [
          | inl was ↦ inl (was, quiet_before (answer_in line) lines a.1 p.1)
          | inr names ↦ inr (record { before = []; line = line; members = names.0; behind = lines; parts = refl; names = names.1; unanswered = p.1 })
        ])
  ]

  -- a victim stays one until it is answered
  stays_told : (told : Told) (victims : List ℕ) → is_among victims k ≡ true → is_among (victims_told told victims) k ≡ true
  stays_told (deadlock members victim) victims h = ap (λ b. (victim == k) || b) h ∙ or_true (victim == k)
    where
      or_true : (b : Bool) → (b || true) ≡ true
      or_true true = refl
      or_true false = refl
  stays_told (answer text) victims h = h
  stays_told (lock_list list) victims h = h
  stays_told (waits_for_table table mode by) victims h = h
  stays_told (waits_for_key table key mode by) victims h = h
  stays_told (waits_to_insert table column box leaf by) victims h = h
  stays_told (traced t) victims h = h

  stays_answered : (o : Option Answer) (victims : List ℕ) → ((a : Answer) → o ≡ Some a → (a.session == k) ≡ false) → is_among victims k ≡ true → is_among (victims_answered o victims) k ≡ true
  stays_answered None victims other h = h
  stays_answered (Some a) victims other h = gone_other victims a.session k (flip (k == a.session) refl) ∙ h
    where
      flip : (t : Bool) → (k == a.session) ≡ t → (k == a.session) ≡ false
      flip false e = e
      flip true e = absurd (false≢true (sym (other a refl) ∙ eq-eqb a.session k (sym (eqb-true k a.session e))))

  stays : (victims : List ℕ) (lines : List Line) → is_among victims k ≡ true → Quiet lines → is_among (victims_after victims lines) k ≡ true
  stays victims [] h quiet = h
  stays victims (line ∷ lines) h quiet =
      let q = quiet_after (answer_in line) lines quiet in
      stays (victims_answered (answer_in line) (victims_told line.told victims)) lines (stays_answered (answer_in line) (victims_told line.told victims) q.1 (stays_told line.told victims h)) q.0

-- a line that names a victim answers nobody
no_answer : (line : Line) (members : List ℕ) (k : ℕ) → line.told ≡ deadlock members k → answer_in line ≡ None
no_answer line members k h = ap (λ t. Rattle.isp_events.specs.Lines.answer_told line.turn line.whose t) h

pub victims_are_named : VictimsAreNamed
victims_are_named earlier k = (forth, back)
  where
    forth : is_among (victims_of earlier) k ≡ true → IsNamedVictim earlier k
    forth h = elim (named_in k [] earlier h) [ inl p ↦ absurd (false≢true p.0) | inr n ↦ n ]

    back : IsNamedVictim earlier k → is_among (victims_of earlier) k ≡ true
    back n =
        let v : List ℕ = victims_of n.before in
        let named : is_among (victims_answered (answer_in n.line) (victims_told n.line.told v)) k ≡ true =
        ap (λ o. is_among (victims_answered o (victims_told n.line.told v)) k) (no_answer n.line n.members k n.names)
        ∙ ap (λ t. is_among (victims_told t v) k) n.names ∙ among_self k v in
        subst (λ (lines : List Line). is_among (victims_of lines) k ≡ true) n.parts
        (ap (λ xs. is_among xs k) (victims_append [] n.before (n.line ∷ n.behind)) ∙ stays k (victims_answered (answer_in n.line) (victims_told n.line.told v)) n.behind named n.unanswered)
