-- Parts of lines.
use Rattle.std.proofs.Common.{◌≡◌, ◌∙◌, ℕ, zero, suc, ◌≤◌, ◌+◌, ap, sym, refl, List, [], ◌∷◌, ◌++◌, length, length-append, take, append_assoc, append-nil, arith}
use Rattle.std.proofs.lemmas.List.{take-append-le, take_all}
use Rattle.isp_disk.specs.Outside.{PrintsPart}

-- nothing of a piece
pub none_printed : (before piece now : List ℕ) → now ≡ before → PrintsPart before piece now
none_printed before piece now is = record { count = 0; within = omega arith; printed = is ∙ sym (append-nil before) }

-- the whole of it
pub all_printed : (before piece now : List ℕ) → now ≡ before ++ piece → PrintsPart before piece now
all_printed before piece now is = record {
  count = length piece;
  within = omega arith;
  printed = is ∙ ap (λ xs. before ++ xs) (sym (take_all (length piece) piece (omega arith)));
}

-- a part of a piece is one of the piece with more behind it
pub part_longer : (before piece more now : List ℕ) → PrintsPart before piece now → PrintsPart before (piece ++ more) now
part_longer before piece more now part =
    let few : part.count ≤ length piece = part.within in
    let lengths : length (piece ++ more) ≡ length piece + length more = length-append piece more in
    record {
      count = part.count;
      within = omega (arith, few, lengths);
      printed = part.printed ∙ ap (λ xs. before ++ xs) (sym (take-append-le part.count piece more part.within));
    }

take_behind : (xs ys : List ℕ) (m n : ℕ) → m ≡ length xs + n → take m (xs ++ ys) ≡ xs ++ take n ys
take_behind [] ys m n is = ap (λ k. take k ys) (let same : m ≡ n = omega (arith, is) in same)
take_behind (x ∷ xs) ys zero n is = absurd (omega (arith, is))
take_behind (x ∷ xs) ys (suc m) n is = ap (λ zs. x ∷ zs) (take_behind xs ys m n (omega (arith, is)))

-- a part of a piece that stands behind one that was printed
pub part_behind : (before first mid piece now : List ℕ) → mid ≡ before ++ first → PrintsPart mid piece now → PrintsPart before (first ++ piece) now
part_behind before first mid piece now is part =
    let few : part.count ≤ length piece = part.within in
    let lengths : length (first ++ piece) ≡ length first + length piece = length-append first piece in
    record {
      count = length first + part.count;
      within = omega (arith, few, lengths);
      printed = part.printed ∙ (ap (λ xs. xs ++ take part.count piece) is ∙ (append_assoc before first (take part.count piece)
          ∙ ap (λ xs. before ++ xs) (sym (take_behind first piece (length first + part.count) part.count refl))));
    }
