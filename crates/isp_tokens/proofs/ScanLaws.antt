-- Reading on, token by token.
use Rattle.std.proofs.Common.{◌≡◌, ◌∙◌, ℕ, List, [], ◌∷◌, ◌++◌, refl, sym, ap, append_assoc, Option, Some, None}
use Rattle.std.specs.Option.{option_to_list}
use Rattle.isp_tokens.specs.declared.token.Begun.{Begun}
use Rattle.isp_tokens.specs.declared.token.Next.{Next}
use Rattle.isp_tokens.specs.declared.token.Token.{Token}
use Rattle.isp_tokens.specs.Scanning.{onto, scan, step}

pub onto_none : (more : Option (List Token)) → onto [] more ≡ more
onto_none (Some others) = refl
onto_none None = refl

pub onto_both : (a b : List Token) (more : Option (List Token)) → onto a (onto b more) ≡ onto (a ++ b) more
onto_both a b (Some others) = ap Some (sym (append_assoc a b others))
onto_both a b None = refl

-- one byte further
pub turn : (tokens more : List Token) (begun : Begun) (next : Next) (b : ℕ) (text bytes : List ℕ) (all : Option (List Token)) → next ≡ step begun b
    → text ≡ b ∷ bytes → more ≡ tokens ++ option_to_list next.whole → onto tokens (scan begun text) ≡ all → onto more (scan next.begun bytes) ≡ all
turn tokens more begun next b text bytes all is front pushed so_far =
    let one : scan begun text ≡ onto (option_to_list next.whole) (scan next.begun bytes) =
    ap (scan begun) front ∙ ap (λ (s : Next). onto (option_to_list s.whole) (scan s.begun bytes)) (sym is) in
    ap (λ (ts : List Token). onto ts (scan next.begun bytes)) pushed
    ∙ (sym (onto_both tokens (option_to_list next.whole) (scan next.begun bytes)) ∙ (ap (onto tokens) (sym one) ∙ so_far))
