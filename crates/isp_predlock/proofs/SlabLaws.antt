-- A slab of which the searches of a session went: each key has what it had, but for theirs.
use Rattle.std.proofs.Common.{◌≡◌, ℕ, zero, suc, ◌+◌, ◌==◌, Bool, true, false, not, cond, List, [], ◌∷◌, map, get_or, Option, Some, None, MutBor, refl, ap, sym, ◌∙◌, subst}
use Rattle.slab.specs.Slab.{RetainsFrom, Slab, get}
use Rattle.isp_predlock.specs.declared.entries.Sought.{Sought}
use Rattle.isp_predlock.specs.Inside.{kept_without}

at_map : (session : ℕ) (slots : List (Option Sought)) (id : ℕ) → get_or (map (kept_without session) slots) id None ≡ kept_without session (get_or slots id None)
at_map session [] id = refl
at_map session (o ∷ slots) zero = refl
at_map session (o ∷ slots) (suc id) = at_map session slots id

module _ {F : Type 0} (step : F → ℕ → MutBor Sought → Bool → MutBor Sought → F → Type 0) (session : ℕ) (f : F)
    (tells : (key : ℕ) (shown : MutBor Sought) (keep : Bool) (left : MutBor Sought) (next : F) → step f key shown keep left next
    → (keep ≡ not ((shown.now).session == session)) × (left.now ≡ shown.now) × (next ≡ f)) where
  kept_one : (b keep : Bool) (old new : Sought) → (old.session == session) ≡ b → keep ≡ not (old.session == session) → new ≡ old
      → cond keep (Some new) None ≡ kept_without session (Some old)
  kept_one true keep old new e k same =
      let gone : keep ≡ false = k ∙ ap not e in
      ap (λ (c : Bool). cond c (Some new) None) gone ∙ sym (ap (λ (c : Bool). cond c None (Some old)) e)
  kept_one false keep old new e k same =
      let stays : keep ≡ true = k ∙ ap not e in
      ap (λ (c : Bool). cond c (Some new) None) stays ∙ ap Some same ∙ sym (ap (λ (c : Bool). cond c None (Some old)) e)

  kept_slots : (key : ℕ) (slots kept : List (Option Sought)) → RetainsFrom step f key slots kept → kept ≡ map (kept_without session) slots
  kept_slots key [] kept h = h
  kept_slots key (None ∷ rest) kept h = h.1 ∙ ap (λ (l : List (Option Sought)). None ∷ l) (kept_slots (key + 1) rest h.0 h.2)
  kept_slots key (Some old ∷ rest) kept (keep, new, next, called, later, is, more) =
      let said = tells key called.shown keep called.left next called.called in
      let asked : keep ≡ not (old.session == session) = said.0 ∙ ap (λ (s : Sought). not (s.session == session)) called.shows in
      let same : new ≡ old = sym called.leaves ∙ said.1 ∙ called.shows in
      let onward : RetainsFrom step f (key + 1) rest later = subst (λ (g : F). RetainsFrom step g (key + 1) rest later) said.2 more in
      is ∙ ap (λ (o : Option Sought). o ∷ later) (kept_one (old.session == session) keep old new refl asked same)
      ∙ ap (λ (l : List (Option Sought)). kept_without session (Some old) ∷ l) (kept_slots (key + 1) rest later onward)

  pub kept_at : (old new : Slab Sought) → RetainsFrom step f 0 old.slots new.slots → (id : ℕ) → get new id ≡ kept_without session (get old id)
  kept_at old new h id = ap (λ (slots : List (Option Sought)). get_or slots id None) (kept_slots 0 old.slots new.slots h) ∙ at_map session old.slots id
