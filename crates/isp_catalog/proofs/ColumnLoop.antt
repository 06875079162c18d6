-- Reading columns one after another, as a loop does.
use Rattle.std.proofs.Common.{◌≡◌, ℕ, suc, ◌+◌, ◌-◌, ◌*◌, ◌<◌, List, [], ◌∷◌, ◌++◌, Option, Some, None, refl, sym, ap, ◌∙◌, append_assoc, arith}
use Rattle.isp_plain.specs.declared.value.Column.{Column}
use Rattle.isp_catalog.specs.Reading.{◌>>=◌, column_in, columns_in}

-- what was read before, and what is still read
abbrev pub with_front : List Column → Option (List Column) → Option (List Column)
with_front front read = read >>= λ columns. Some (front ++ columns)

regroup : (front : List Column) (column : Column) (read : Option (List Column)) → with_front front (read >>= λ columns. Some (column ∷ columns)) ≡ with_front (front ++ column ∷ []) read
regroup front column (Some columns) = ap (λ (cs : List Column). Some cs) (sym (append_assoc front (column ∷ []) columns))
regroup front column None = refl

pub goes_on : (bytes : List ℕ) (at count k : ℕ) (front pushed : List Column) (column : Column) (total : Option (List Column)) → k < count → column_in bytes (at + 37 * k) ≡ Some column → pushed ≡ front ++ column ∷ []
    → with_front front (columns_in bytes (at + 37 * k) (count - k)) ≡ total → with_front pushed (columns_in bytes (at + 37 * (k + 1)) (count - (k + 1))) ≡ total
goes_on bytes at count k front pushed column total less is pushed_is so_far =
    let left : count - k ≡ suc (count - (k + 1)) = omega (arith, less) in
    let next : at + 37 * k + 37 ≡ at + 37 * (k + 1) = omega arith in
    let read : with_front front (columns_in bytes (at + 37 * k) (suc (count - (k + 1)))) ≡ with_front (front ++ column ∷ []) (columns_in bytes (at + 37 * k + 37) (count - (k + 1))) =
    ap (λ (r : Option Column). with_front front (r >>= λ column. columns_in bytes (at + 37 * k + 37) (count - (k + 1)) >>= λ columns. Some (column ∷ columns))) is
    ∙ regroup front column (columns_in bytes (at + 37 * k + 37) (count - (k + 1))) in
    (λ i. with_front (pushed_is i) (columns_in bytes (sym next i) (count - (k + 1)))) ∙ sym read ∙ ap (λ (n : ℕ). with_front front (columns_in bytes (at + 37 * k) n)) (sym left) ∙ so_far
