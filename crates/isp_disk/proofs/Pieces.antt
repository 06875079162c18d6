-- A piece whose front was filled from a list.
use Rattle.std.proofs.Common.{◌≡◌, ℕ, ◌+◌, ◌<◌, min, List, ◌++◌, length, take, drop, sym, ◌∙◌, subst, arith, length-append, length-take, length-drop, take-append-drop}
use Rattle.std.proofs.lemmas.List.{take_at, drop-drop, drop_min, nil_from_length}
use Rattle.isp_disk.specs.Outside.{Gives}

front : (left piece : List ℕ) → take (min (length piece) (length left)) (take (length piece) left ++ drop (length left) piece) ≡ take (length piece) left
front left piece = take_at (take (length piece) left) (drop (length left) piece) (min (length piece) (length left)) (length-take (length piece) left)

-- the front is what stands at the front of the list, and the rest of the list is left
gives_front : (given : ℕ) (bytes piece : List ℕ) → 0 < length piece → let left = drop given bytes in let count = min (length piece) (length left) in Gives left count (take (length piece) left ++ drop (length left) piece) (drop (given + count) bytes)
gives_front given bytes piece asked =
    let left = drop given bytes in
    let count = min (length piece) (length left) in
    let back : drop (given + count) bytes ≡ drop (length piece) left = sym (drop-drop count given bytes) ∙ drop_min (length piece) left in
    record {
      fits = omega (arith, length-append (take (length piece) left) (drop (length left) piece), length-take (length piece) left, length-drop (length left) piece);
      next = sym (take-append-drop (length piece) left) ∙ (λ i. sym (front left piece) i ++ sym back i);
      end = λ none. nil_from_length left (omega (arith, none, asked));
    }

-- the same at a count and a piece that are these
gives_exactly : (given : ℕ) (bytes piece out : List ℕ) (count : ℕ) → 0 < length piece → let left = drop given bytes in count ≡ min (length piece) (length left) → out ≡ take (length piece) left ++ drop (length left) piece → Gives left count out (drop (given + count) bytes)
gives_exactly given bytes piece out count asked counts puts =
    let left = drop given bytes in
    let at_count : ℕ → Type 0 = λ n. Gives left n out (drop (given + n) bytes) in
    let most = min (length piece) (length left) in
    let at_piece : List ℕ → Type 0 = λ o. Gives left most o (drop (given + most) bytes) in
    subst at_count (sym counts) (subst at_piece (sym puts) (gives_front given bytes piece asked))

-- and where the bytes that are left are known by another name
pub reads_front : (given : ℕ) (bytes left piece out : List ℕ) (count : ℕ) → 0 < length piece → drop given bytes ≡ left → count ≡ min (length piece) (length left) → out ≡ take (length piece) left ++ drop (length left) piece → Gives left count out (drop (given + count) bytes)
reads_front given bytes left piece out count asked is =
    let P : List ℕ → Type 0 = λ l. count ≡ min (length piece) (length l) → out ≡ take (length piece) l ++ drop (length l) piece → Gives l count out (drop (given + count) bytes) in
    subst P is (gives_exactly given bytes piece out count asked)
