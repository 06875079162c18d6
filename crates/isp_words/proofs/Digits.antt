-- The number that up to ten digits write.
use Rattle.std.proofs.Common.{ap, sym, ◌∙◌, nat_lt, refl, arith, ◌≡◌, ℕ, ◌<◌, ◌≤◌, ◌^◌, ◌&&◌, List, [], ◌∷◌, Result, Ok, length, true, nat_le}
use Rattle.std.specs.Cmp.{first_so, second_so}
use Rattle.std.specs.Char.{is_ascii_digit}
use Rattle.std.specs.List.{list_all}
use Rattle.std.specs.Str.{all_ascii_digits}
use Rattle.std.specs.Str.Parse.{digits_value, ParsesUnsigned}
use Rattle.std.proofs.lemmas.Bool.{leb-true}
use Rattle.std.proofs.lemmas.Str.Parse.{digits_value_short, numerals_by_value, parse_gives, tells_all_ascii_digits}
use Rattle.isp_words.specs.Commands.{is_count}

pub all_digits : (ds : List ℕ) → list_all is_ascii_digit ds ≡ all_ascii_digits ds
all_digits [] = refl
all_digits (d ∷ ds) = ap (λ b. is_ascii_digit d && b) (all_digits ds)

pub counted : {E : Type 0} (bs : List ℕ) (r : Result ℕ E) → ParsesUnsigned 64 10 bs r → is_count bs ≡ true → r ≡ Ok (digits_value 10 bs)
counted bs r h count =
    let short = first_so (nat_lt 0 (length bs) && nat_le (length bs) 10) (list_all is_ascii_digit bs) count in
    let digits : all_ascii_digits bs ≡ true = sym (all_digits bs) ∙ second_so (nat_lt 0 (length bs) && nat_le (length bs) 10) (list_all is_ascii_digit bs) count in
    let some : 0 < length bs = leb-true 1 (length bs) (first_so (nat_lt 0 (length bs)) (nat_le (length bs) 10) short) in
    let few : length bs ≤ 10 = leb-true (length bs) 10 (second_so (nat_lt 0 (length bs)) (nat_le (length bs) 10) short) in
    let own = numerals_by_value (λ ds. all_ascii_digits ds ≡ true) tells_all_ascii_digits in
    let small : digits_value 10 bs < 10 ^ 10 = digits_value_short own bs 10 digits few in
    parse_gives own 64 bs r h digits some (omega arith)
