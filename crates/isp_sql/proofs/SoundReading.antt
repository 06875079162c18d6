-- What is read of tokens is what they are written for.
use Rattle.std.proofs.Common.{◌≡◌, ℕ, zero, suc, true, inl, inr, List, [], ◌∷◌, length, drop, refl}
use Rattle.isp_tokens.proofs.OneTokenSound.{bind_some, chosen, moved, IsSound, word_begins, symbol_begins, column_begins}
use Rattle.isp_sql.specs.declared.members.Going.{Going}
use Rattle.isp_sql.specs.declared.members.Going.TheVariants as going
use Rattle.isp_tokens.specs.declared.token.Symbol.TheVariants.{Comma}
use Rattle.isp_tokens.specs.declared.token.Token.{Token}
use Rattle.isp_tokens.specs.declared.words.Word.TheVariants as words
use Rattle.isp_tokens.specs.Phrases.{Phrase, word, symbol, each, list}
use Rattle.isp_tokens.specs.OneToken.{Outcome}
use Rattle.isp_sql.specs.Reading.{goes_on, others_at, more_at, list_at}

-- ---- lists

-- the phrase that separates members
abbrev pub separator : Going → Phrase
separator going.Comma = symbol Comma
separator going.And = word words.And
separator going.Column = symbol Comma

pub goes_over : (g : Going) (tokens : List Token) → goes_on g tokens ≡ true → separator g tokens (drop 1 tokens)
goes_over going.Comma tokens e = symbol_begins Comma tokens e
goes_over going.And tokens e = word_begins words.And tokens e
goes_over going.Column tokens e = column_begins tokens e

module _ {X : Type 0} (P : X → Phrase) (item : List Token → Outcome X) (sound : IsSound P item) (g : Going) where
  others_sound : (n : ℕ) → IsSound (each (separator g) P) (others_at g item n)
  others_sound zero tokens xs left e = moved (each (separator g) P) tokens [] xs tokens left e refl
  others_sound (suc n) tokens xs left e =
      elim (chosen (goes_on g tokens) _ _ _ e) [
        | inl h ↦ let f = bind_some (item (drop 1 tokens)) _ _ h.1 in
            let o = bind_some (others_at g item n f.0.1) _ _ f.2 in
            moved (each (separator g) P) tokens (f.0.0 ∷ o.0.0) xs o.0.1 left o.2
            (drop 1 tokens, goes_over g tokens h.0, (f.0.1, sound _ _ _ f.1, others_sound n f.0.1 o.0.0 o.0.1 o.1))
        | inr h ↦ moved (each (separator g) P) tokens [] xs tokens left h.1 refl
      ]

  pub more_sound : IsSound (each (separator g) P) (more_at g item)
  unfolding more_at
  more_sound tokens xs left e = others_sound (length tokens) tokens xs left e

  pub list_sound : IsSound (list (separator g) P) (list_at g item)
  unfolding list_at
  list_sound tokens xs left e =
      let f = bind_some (item tokens) _ _ e in
      let o = bind_some (more_at g item f.0.1) _ _ f.2 in
      moved (list (separator g) P) tokens (f.0.0 ∷ o.0.0) xs o.0.1 left o.2 (f.0.1, sound _ _ _ f.1, more_sound f.0.1 o.0.0 o.0.1 o.1)
