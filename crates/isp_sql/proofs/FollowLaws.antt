-- Reading members one after another, as a loop does.
use Rattle.std.proofs.Common.{◌≡◌, ◌∙◌, ℕ, suc, ◌-◌, ◌+◌, ◌<◌, List, [], ◌∷◌, ◌++◌, length, drop, true, Some, None, refl, sym, ap, append_assoc, arith}
use Rattle.isp_sql.specs.declared.members.Going.{Going}
use Rattle.isp_tokens.specs.declared.token.Token.{Token}
use Rattle.isp_sql.specs.Following.{with_front}
use Rattle.isp_tokens.specs.OneToken.{◌>>=◌, Outcome}
use Rattle.isp_sql.specs.Reading.{goes_on, others_at, more_at}

module _ {X : Type 0} where
  pub starts : (going : Going) (item : List Token → Outcome X) (front : List X) (tokens : List Token) (most : ℕ) → most ≡ length tokens
      → with_front front (others_at going item (most - 0) tokens) ≡ with_front front (more_at going item tokens)
  unfolding more_at
  starts going item front tokens most e =
      let k : most - 0 ≡ length tokens = omega arith in ap (λ (n : ℕ). with_front front (others_at going item n tokens)) k

  regroup : (front : List X) (n : X) (read : Outcome (List X)) → with_front front (read >>= λ x. Some (n ∷ x.0, x.1)) ≡ with_front (front ++ n ∷ []) read
  regroup front n (Some x) = ap (λ (ns : List X). Some (ns, x.1)) (sym (append_assoc front (n ∷ []) x.0))
  regroup front n None = refl

  pub continues : (going : Going) (item : List Token → Outcome X) (front pushed : List X) (most i : ℕ) (tokens behind after : List Token) (n : X) (total : Outcome (List X)) → i < most
      → goes_on going tokens ≡ true → behind ≡ drop 1 tokens → item behind ≡ Some (n, after) → pushed ≡ front ++ n ∷ []
      → with_front front (others_at going item (most - i) tokens) ≡ total → with_front pushed (others_at going item (most - (i + 1)) after) ≡ total
  continues going item front pushed most i tokens behind after n total lt h b is e so_far =
      let k : most - i ≡ suc (most - (i + 1)) = omega arith in
      let read : item (drop 1 tokens) ≡ Some (n, after) = ap item (sym b) ∙ is in
      let one : with_front front (others_at going item (most - i) tokens) ≡ with_front (front ++ n ∷ []) (others_at going item (most - (i + 1)) after) =
      rw (k, h, read) (regroup front n (others_at going item (most - (i + 1)) after)) in
      rw e (sym one ∙ so_far)
