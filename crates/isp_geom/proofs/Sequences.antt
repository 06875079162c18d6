-- Reading values one after another, as a loop does.
use Rattle.std.proofs.Common.{◌≡◌, ℕ, suc, ◌-◌, ◌+◌, ◌≤◌, ◌<◌, List, [], ◌∷◌, ◌++◌, Option, Some, None, Err, refl, sym, ap, ◌∙◌, append_assoc, arith}
use Rattle.std.proofs.lemmas.List.{append-nil}
use Rattle.isp_geom.specs.declared.error.GeomError.{GeomError}
use Rattle.isp_geom.specs.declared.error.GeomError.TheVariants.{NotGeometry, OutOfMemory}
use Rattle.isp_geom.specs.Reading.{◌>>=◌, Gives, items_at}

module _ {X : Type 0} where
  -- what was read before, and what is still read
  abbrev pub with_front : List X → Option (List X × List ℕ) → Option (List X × List ℕ)
  with_front front read = read >>= λ x. Some (front ++ x.0, x.1)

  regroup : (front : List X) (n : X) (read : Option (List X × List ℕ)) → with_front front (read >>= λ x. Some (n ∷ x.0, x.1)) ≡ with_front (front ++ n ∷ []) read
  regroup front n (Some x) = ap (λ (ns : List X). Some (ns, x.1)) (sym (append_assoc front (n ∷ []) x.0))
  regroup front n None = refl

  pub begins : (read : Option (List X × List ℕ)) → with_front [] read ≡ read
  begins (Some x) = refl
  begins None = refl

  pub goes_on : (read : List ℕ → Option (X × List ℕ)) (front pushed : List X) (count i : ℕ) (bytes : List ℕ) (n : X) (after : List ℕ) (total : Option (List X × List ℕ)) → i < count → read bytes ≡ Some (n, after)
      → pushed ≡ front ++ n ∷ [] → with_front front (items_at read (count - i) bytes) ≡ total → with_front pushed (items_at read (count - (i + 1)) after) ≡ total
  goes_on read front pushed count i bytes n after total lt h e so_far =
      let k : count - i ≡ suc (count - (i + 1)) = omega arith in
      let one : with_front front (items_at read (count - i) bytes) ≡ with_front (front ++ n ∷ []) (items_at read (count - (i + 1)) after) = rw (k, h) (regroup front n (items_at read (count - (i + 1)) after)) in
      rw e (sym one ∙ so_far)

  pub ends : (read : List ℕ → Option (X × List ℕ)) (e : GeomError) (front : List X) (count i : ℕ) (bytes left : List ℕ) (total : Option (List X × List ℕ)) → i < count → Gives {X = X} (Err e) (read bytes) left
      → with_front front (items_at read (count - i) bytes) ≡ total → Gives {X = List X} (Err e) total left
  ends read OutOfMemory front count i bytes left total lt h so_far = tt
  ends read NotGeometry front count i bytes left total lt h so_far =
      let k : count - i ≡ suc (count - (i + 1)) = omega arith in
      let one : with_front front (items_at read (count - i) bytes) ≡ None = rw (k, h) refl in
      sym so_far ∙ one

  pub is_done : (read : List ℕ → Option (X × List ℕ)) (front : List X) (count i : ℕ) (bytes : List ℕ) (total : Option (List X × List ℕ)) → count ≤ i → with_front front (items_at read (count - i) bytes) ≡ total → total ≡ Some (front, bytes)
  is_done read front count i bytes total le so_far =
      let k : count - i ≡ 0 = omega arith in
      let one : with_front front (items_at read (count - i) bytes) ≡ Some (front, bytes) = rw k (ap (λ (ns : List X). Some (ns, bytes)) (append-nil front)) in
      sym so_far ∙ one
