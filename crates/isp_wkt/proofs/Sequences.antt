-- Reading members one after another, as a loop does.
use Rattle.std.proofs.Common.{◌≡◌, ℕ, suc, ◌-◌, ◌+◌, ◌≤◌, ◌<◌, List, [], ◌∷◌, ◌++◌, Bool, true, false, Ok, Err, refl, sym, ap, ◌∙◌, append_assoc, arith}
use Rattle.isp_wkt.specs.declared.cause.WktCause.TheVariants.{Truncated}
use Rattle.isp_wkt.specs.declared.cause.Stop.{Stop}
use Rattle.isp_wkt.specs.declared.cause.Stop.TheVariants.{Bad, OutOfMemory}
use Rattle.isp_wkt.specs.Reading.{◌>>=◌, Outcome, Gives, member_at, items_at, fault}

module _ {X : Type 0} where
  -- what was read before, and what is still read
  abbrev pub with_front : List X → Outcome (List X) → Outcome (List X)
  with_front front read = read >>= λ x. Ok (front ++ x.0, x.1)

  pub begins : (read : Outcome (List X)) → with_front [] read ≡ read
  begins (Ok x) = refl
  begins (Err f) = refl

  regroup : (front : List X) (n : X) (read : Outcome (List X)) → with_front front (read >>= λ x. Ok (n ∷ x.0, x.1)) ≡ with_front (front ++ n ∷ []) read
  regroup front n (Ok x) = ap (λ (ns : List X). Ok (ns, x.1)) (sym (append_assoc front (n ∷ []) x.0))
  regroup front n (Err f) = refl

  pub goes_on : (item : List ℕ → Outcome X) (front pushed : List X) (most i : ℕ) (bytes : List ℕ) (n : X) (more : Bool) (after : List ℕ) (total : Outcome (List X)) → i < most → member_at item bytes ≡ Ok ((n, more), after)
      → more ≡ true → pushed ≡ front ++ n ∷ [] → with_front front (items_at item (most - i) bytes) ≡ total → with_front pushed (items_at item (most - (i + 1)) after) ≡ total
  goes_on item front pushed most i bytes n more after total lt h is e so_far =
      let k : most - i ≡ suc (most - (i + 1)) = omega arith in
      let one : with_front front (items_at item (most - i) bytes) ≡ with_front (front ++ n ∷ []) (items_at item (most - (i + 1)) after) = rw (k, h, is) (regroup front n (items_at item (most - (i + 1)) after)) in
      rw e (sym one ∙ so_far)

  pub is_done : (item : List ℕ → Outcome X) (front pushed : List X) (most i : ℕ) (bytes : List ℕ) (n : X) (more : Bool) (after : List ℕ) (total : Outcome (List X)) → i < most → member_at item bytes ≡ Ok ((n, more), after)
      → more ≡ false → pushed ≡ front ++ n ∷ [] → with_front front (items_at item (most - i) bytes) ≡ total → total ≡ Ok (pushed, after)
  is_done item front pushed most i bytes n more after total lt h is e so_far =
      let k : most - i ≡ suc (most - (i + 1)) = omega arith in
      let one : with_front front (items_at item (most - i) bytes) ≡ Ok (front ++ n ∷ [], after) = rw (k, h, is) refl in
      rw e (sym so_far ∙ one)

  pub ends : (item : List ℕ → Outcome X) (e : Stop) (front : List X) (most i : ℕ) (bytes left : List ℕ) (total : Outcome (List X)) → i < most → Gives {X = X × Bool} (Err e) (member_at item bytes) left
      → with_front front (items_at item (most - i) bytes) ≡ total → Gives {X = List X} (Err e) total left
  ends item OutOfMemory front most i bytes left total lt h so_far = tt
  ends item (Bad f) front most i bytes left total lt h so_far =
      let k : most - i ≡ suc (most - (i + 1)) = omega arith in
      let one : with_front front (items_at item (most - i) bytes) ≡ Err f = rw (k, h) refl in
      sym so_far ∙ one

  pub runs_out : (item : List ℕ → Outcome X) (front : List X) (most i : ℕ) (bytes : List ℕ) (total : Outcome (List X)) → most ≤ i → with_front front (items_at item (most - i) bytes) ≡ total → total ≡ fault Truncated bytes
  runs_out item front most i bytes total le so_far =
      let k : most - i ≡ 0 = omega arith in
      let one : with_front front (items_at item (most - i) bytes) ≡ fault Truncated bytes = rw k refl in
      sym so_far ∙ one
