-- Tokens that are written for a value are read as it.
use Rattle.std.proofs.Common.{◌≡◌, ◌∙◌, ℕ, zero, suc, ◌≤◌, true, false, List, [], ◌∷◌, length, drop, Some, sym, ap, subst, arith}
use Rattle.isp_tokens.proofs.OneTokenComplete.{if_true, if_false, bind_is, Shrinks, one_shrinks, empty_shrinks}
use Rattle.isp_sql.specs.declared.members.Going.{Going}
use Rattle.isp_sql.specs.declared.members.Going.TheVariants as going
use Rattle.isp_tokens.specs.declared.token.Token.{Token}
use Rattle.isp_tokens.specs.Phrases.{Phrase, each, list}
use Rattle.isp_tokens.specs.OneToken.{Outcome}
use Rattle.isp_sql.specs.Reading.{goes_on, others_at, more_at, list_at}
use Rattle.isp_sql.proofs.SoundReading.{separator}

-- ---- lists

separator_shrinks : (g : Going) → Shrinks (separator g)
separator_shrinks going.Comma = one_shrinks _
separator_shrinks going.And = one_shrinks _
separator_shrinks going.Column = one_shrinks _

pub separator_one : (g : Going) (tokens left : List Token) → separator g tokens left → (drop 1 tokens ≡ left) × (length tokens ≡ suc (length left))
separator_one going.Comma tokens left e = (ap (drop 1) e, ap length e)
separator_one going.And tokens left e = (ap (drop 1) e, ap length e)
separator_one going.Column tokens left e = (ap (drop 1) e, ap length e)

-- a value is read where the tokens behind it cannot belong to it
abbrev pub IsComplete : {X : Type 0} → (X → Phrase) → (List Token → Type 0) → (List Token → Outcome X) → Type 0
IsComplete {X} P Follow item = (x : X) (tokens left : List Token) → P x tokens left → Follow left → item tokens ≡ Some (x, left)

pub each_shrinks : {X : Type 0} (P : X → Phrase) (g : Going) → ((x : X) → Shrinks (P x)) → (xs : List X) → Shrinks (each (separator g) P xs)
each_shrinks P g shrinks [] tokens left e = empty_shrinks tokens left e
each_shrinks P g shrinks (x ∷ xs) tokens left m =
    let a : length m.0 ≤ length tokens = separator_shrinks g _ _ m.1 in
    let b : length m.2.0 ≤ length m.0 = shrinks x _ _ m.2.1 in
    let c : length left ≤ length m.2.0 = each_shrinks P g shrinks xs _ _ m.2.2 in
    omega arith

-- members that follow are no more than tokens
pub enough : {X : Type 0} (P : X → Phrase) (g : Going) → ((x : X) → Shrinks (P x)) → (xs : List X) (tokens left : List Token) → each (separator g) P xs tokens left → length xs ≤ length tokens
enough P g shrinks [] tokens left e = omega arith
enough P g shrinks (x ∷ xs) tokens left m =
    let a : length tokens ≡ suc (length m.0) = (separator_one g _ _ m.1).1 in
    let b : length m.2.0 ≤ length m.0 = shrinks x _ _ m.2.1 in
    let c : length xs ≤ length m.2.0 = enough P g shrinks xs _ _ m.2.2 in
    omega arith

module _ {X : Type 0} (P : X → Phrase) (Follow : List Token → Type 0) (item : List Token → Outcome X) (g : Going) (again : IsComplete P Follow item) (shrinks : (x : X) → Shrinks (P x))
    (behind : (tokens left : List Token) → separator g tokens left → Follow tokens)
    (next : (x : X) (tokens mid left : List Token) → separator g tokens mid → P x mid left → goes_on g tokens ≡ true)
  where
    follows : (xs : List X) (tokens left : List Token) → each (separator g) P xs tokens left → Follow left → Follow tokens
    follows [] tokens left e f = subst Follow (sym e) f
    follows (x ∷ xs) tokens left m f = behind tokens m.0 m.1

    others_again : (n : ℕ) (xs : List X) (tokens left : List Token) → length xs ≤ n → each (separator g) P xs tokens left → goes_on g left ≡ false → Follow left → others_at g item n tokens ≡ Some (xs, left)
    others_again zero [] tokens left le e stop f = ap (λ (ts : List Token). Some ([], ts)) e
    others_again zero (x ∷ xs) tokens left le m stop f = absurd (omega arith)
    others_again (suc n) [] tokens left le e stop f = if_false (goes_on g tokens) _ _ (ap (goes_on g) e ∙ stop) ∙ ap (λ (ts : List Token). Some ([], ts)) e
    others_again (suc n) (x ∷ xs) tokens left le m stop f =
        let few : length xs ≤ n = omega arith in
        if_true (goes_on g tokens) _ _ (next x tokens m.0 m.2.0 m.1 m.2.1)
        ∙ (bind_is (item (drop 1 tokens)) (x, m.2.0) _ (ap item (separator_one g _ _ m.1).0 ∙ again x m.0 m.2.0 m.2.1 (follows xs m.2.0 left m.2.2 f))
        ∙ bind_is (others_at g item n m.2.0) (xs, left) _ (others_again n xs m.2.0 left few m.2.2 stop f))

    pub more_again : (xs : List X) (tokens left : List Token) → each (separator g) P xs tokens left → goes_on g left ≡ false → Follow left → more_at g item tokens ≡ Some (xs, left)
    unfolding more_at
    more_again xs tokens left m stop f = others_again (length tokens) xs tokens left (enough P g shrinks xs tokens left m) m stop f

    pub list_again : (xs : List X) (tokens left : List Token) → list (separator g) P xs tokens left → goes_on g left ≡ false → Follow left → list_at g item tokens ≡ Some (xs, left)
    unfolding list_at
    list_again [] tokens left m stop f = absurd m
    list_again (x ∷ xs) tokens left m stop f =
        bind_is (item tokens) (x, m.0) _ (again x tokens m.0 m.1 (follows xs m.0 left m.2 f))
        ∙ bind_is (more_at g item m.0) (xs, left) _ (more_again xs m.0 left m.2 stop f)

pub list_shrinks : {X : Type 0} (P : X → Phrase) (g : Going) → ((x : X) → Shrinks (P x)) → (xs : List X) → Shrinks (list (separator g) P xs)
list_shrinks P g shrinks [] tokens left m = absurd m
list_shrinks P g shrinks (x ∷ xs) tokens left m =
    let a : length m.0 ≤ length tokens = shrinks x _ _ m.1 in
    let b : length left ≤ length m.0 = each_shrinks P g shrinks xs _ _ m.2 in
    omega arith
