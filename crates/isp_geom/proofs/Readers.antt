-- What is read is what was spelled, and what was spelled is read again, whatever follows it.
use Rattle.std.proofs.Common.{◌≡◌, ℕ, ℤ, zero, suc, ◌^◌, ◌<◌, Bool, true, List, [], ◌∷◌, ◌++◌, length, get_or, Option, Some, None, refl, sym, ap, subst, ◌∙◌, append_assoc, arith}
use Rattle.std.specs.Prelude.{FitsSigned, nat_le}
use Rattle.std.specs.List.{flat_map, list_all}
use Rattle.std.specs.Int.{w16, w32, from_be_bytes, cast_signed, cast_unsigned}
use Rattle.std.proofs.lemmas.Bool.{and_parts}
use Rattle.std.proofs.lemmas.Bool.Decides.{nat_tests}
use Rattle.std.proofs.lemmas.Int.{to_z-of_z, of_z-to_z, ints}
use Rattle.std.proofs.lemmas.Nat.{be_bytes_2, be_bytes_4}
use Rattle.byteorder.specs.Endian.{big_bytes, big_number}
use Rattle.byteorder.specs.Numbers.{big_number-reads_back}
use Rattle.isp_geom.specs.declared.form.Point.{Point}
use Rattle.isp_geom.specs.Rules.{is_coordinate, is_point, is_list, is_count}
use Rattle.isp_geom.specs.Spelling.{coordinate, point, listed}
use Rattle.isp_geom.specs.Reading.{◌>>=◌, coordinate_at, count_at, point_at, items_at, list_at}

abbrev pub IsBytes : List ℕ → Type 0
IsBytes bytes = (i : ℕ) → get_or bytes i 0 < 256

pub IsBytes-rest : (b : ℕ) (bytes : List ℕ) → IsBytes (b ∷ bytes) → IsBytes bytes
IsBytes-rest b bytes h i = h (suc i)

-- what a reader took from the front
pub record Takes (bytes text rest : List ℕ) : Type 0 where
  pub parts : bytes ≡ text ++ rest
  pub rest_fits : IsBytes rest

pub Takes-then : (a x b y c : List ℕ) → Takes a x b → Takes b y c → Takes a (x ++ y) c
Takes-then a x b y c p q = record { parts = p.parts ∙ ap (λ (t : List ℕ). x ++ t) q.parts ∙ sym (append_assoc x y c); rest_fits = q.rest_fits }

-- the value of a step that was there
pub bind_some : {A B : Type 0} (r : Option A) (f : A → Option B) (y : B) → (r >>= f) ≡ Some y → (x : A) × (r ≡ Some x) × (f x ≡ Some y)
bind_some (Some x) f y e = (x, refl, e)
bind_some None f y e = absurd cc

pub some_is : {A : Type 0} (x y : A) → ◌≡◌ {A = Option A} (Some x) (Some y) → x ≡ y
some_is x y e = cc

-- a way to read what has this spelling, where it passes the test
pub record IsReader (X : Type 0) (spelled : X → List ℕ) (passes : X → Bool) (read : List ℕ → Option (X × List ℕ)) : Type 0 where
  pub back : (bytes : List ℕ) (x : X) (rest : List ℕ) → IsBytes bytes → read bytes ≡ Some (x, rest) → Takes bytes (spelled x) rest
  pub again : (x : X) (rest : List ℕ) → passes x ≡ true → read (spelled x ++ rest) ≡ Some (x, rest)

-- ---- numbers

-- so many bytes in a row, as std and as byteorder read them
four_bytes : (a b c d : ℕ) → big_number 4 (a ∷ b ∷ c ∷ d ∷ []) ≡ from_be_bytes w32 (a ∷ b ∷ c ∷ d ∷ [])
four_bytes a b c d = omega arith

two_bytes : (a b : ℕ) → big_number 2 (a ∷ b ∷ []) ≡ from_be_bytes w16 (a ∷ b ∷ [])
two_bytes a b = omega arith

four_below : (a b c d : ℕ) → IsBytes (a ∷ b ∷ c ∷ d ∷ []) → big_number 4 (a ∷ b ∷ c ∷ d ∷ []) < 2 ^ 32
four_below a b c d fits = omega (arith, fits 0, fits 1, fits 2, fits 3)

four_back : (a b c d : ℕ) → IsBytes (a ∷ b ∷ c ∷ d ∷ []) → coordinate (cast_signed w32 (big_number 4 (a ∷ b ∷ c ∷ d ∷ []))) ≡ a ∷ b ∷ c ∷ d ∷ []
four_back a b c d fits =
    ap (big_bytes 4) (of_z-to_z w32 (big_number 4 (a ∷ b ∷ c ∷ d ∷ [])) (four_below a b c d fits)) ∙ be_bytes_4 (a ∷ b ∷ c ∷ d ∷ []) _ refl fits (four_bytes a b c d)

four : (a b c d : ℕ) → a < 256 → b < 256 → c < 256 → d < 256 → IsBytes (a ∷ b ∷ c ∷ d ∷ [])
four a b c d p q r s zero = p
four a b c d p q r s (suc zero) = q
four a b c d p q r s (suc (suc zero)) = r
four a b c d p q r s (suc (suc (suc zero))) = s
four a b c d p q r s (suc (suc (suc (suc i)))) = omega arith

coordinate_fits : (z : ℤ) → is_coordinate z ≡ true → FitsSigned w32 z
coordinate_fits z h = grind (arith, ints, nat_tests)

cast_fits : (z : ℤ) → FitsSigned w32 z → cast_unsigned w32 z < 256 ^ 4
cast_fits z fits = omega (arith, ints)

coordinate_back : (bytes : List ℕ) (z : ℤ) (rest : List ℕ) → IsBytes bytes → coordinate_at bytes ≡ Some (z, rest) → Takes bytes (coordinate z) rest
coordinate_back (a ∷ b ∷ c ∷ d ∷ bytes) z rest fits is =
    let x : ℤ = cast_signed w32 (big_number 4 (a ∷ b ∷ c ∷ d ∷ [])) in
    let whole : coordinate x ≡ a ∷ b ∷ c ∷ d ∷ [] = four_back a b c d (four a b c d (fits 0) (fits 1) (fits 2) (fits 3)) in
    let taken : Takes (a ∷ b ∷ c ∷ d ∷ bytes) (coordinate x) bytes = record { parts = ap (λ (t : List ℕ). t ++ bytes) (sym whole); rest_fits = λ i. fits (suc (suc (suc (suc i)))) } in
    subst (λ (r : ℤ × List ℕ). Takes (a ∷ b ∷ c ∷ d ∷ bytes) (coordinate r.0) r.1) (some_is (x, bytes) (z, rest) is) taken
coordinate_back _ z rest fits is = absurd cc

coordinate_again : (z : ℤ) (rest : List ℕ) → is_coordinate z ≡ true → coordinate_at (coordinate z ++ rest) ≡ Some (z, rest)
coordinate_again z rest h =
    let small = coordinate_fits z h in
    let number : big_number 4 (coordinate z ++ []) ≡ cast_unsigned w32 z = big_number-reads_back 4 (cast_unsigned w32 z) [] (cast_fits z small) in
    ap (λ (n : ℕ). Some (cast_signed w32 n, rest)) number ∙ ap (λ (x : ℤ). Some (x, rest)) (to_z-of_z w32 z small)

-- ---- points

point_back : (bytes : List ℕ) (p : Point) (rest : List ℕ) → IsBytes bytes → point_at bytes ≡ Some (p, rest) → Takes bytes (point p) rest
unfolding point_at
point_back bytes p rest fits is =
    let x = bind_some (coordinate_at bytes) (λ x. coordinate_at x.1 >>= λ y. Some (record { x = x.0; y = y.0 }, y.1)) (p, rest) is in
    let left = coordinate_back bytes x.0.0 x.0.1 fits x.1 in
    let y = bind_some (coordinate_at x.0.1) (λ y. Some (record { x = x.0.0; y = y.0 }, y.1)) (p, rest) x.2 in
    let right = coordinate_back x.0.1 y.0.0 y.0.1 left.rest_fits y.1 in
    let q : Point = record { x = x.0.0; y = y.0.0 } in
    subst (λ (r : Point × List ℕ). Takes bytes (point r.0) r.1) (some_is (q, y.0.1) (p, rest) y.2)
    (Takes-then bytes (coordinate x.0.0) x.0.1 (coordinate y.0.0) y.0.1 left right)

point_again : (p : Point) (rest : List ℕ) → is_point p ≡ true → point_at (point p ++ rest) ≡ Some (p, rest)
unfolding point_at
point_again p rest h =
    let both = and_parts (is_coordinate p.x) (is_coordinate p.y) h in
    ap (λ (r : Option (ℤ × List ℕ)). r >>= λ x. coordinate_at x.1 >>= λ y. Some (record { x = x.0; y = y.0 }, y.1)) (coordinate_again p.x (coordinate p.y ++ rest) both.0)
    ∙ ap (λ (r : Option (ℤ × List ℕ)). r >>= λ y. Some (record { x = p.x; y = y.0 }, y.1)) (coordinate_again p.y rest both.1)

pub point_reader : IsReader Point point is_point point_at
point_reader = record { back = point_back; again = point_again }

-- ---- lists

two : (a b : ℕ) → a < 256 → b < 256 → IsBytes (a ∷ b ∷ [])
two a b p q zero = p
two a b p q (suc zero) = q
two a b p q (suc (suc i)) = omega arith

count_back : (bytes : List ℕ) (n : ℕ) (rest : List ℕ) → IsBytes bytes → count_at bytes ≡ Some (n, rest) → Takes bytes (big_bytes 2 n) rest
count_back (a ∷ b ∷ bytes) n rest fits is =
    let m : ℕ = big_number 2 (a ∷ b ∷ []) in
    let whole : big_bytes 2 m ≡ a ∷ b ∷ [] = be_bytes_2 (a ∷ b ∷ []) _ refl (two a b (fits 0) (fits 1)) (two_bytes a b) in
    let taken : Takes (a ∷ b ∷ bytes) (big_bytes 2 m) bytes = record { parts = ap (λ (t : List ℕ). t ++ bytes) (sym whole); rest_fits = λ i. fits (suc (suc i)) } in
    subst (λ (r : ℕ × List ℕ). Takes (a ∷ b ∷ bytes) (big_bytes 2 r.0) r.1) (some_is (m, bytes) (n, rest) is) taken
count_back [] n rest fits is = absurd cc
count_back (a ∷ []) n rest fits is = absurd cc

count_again : (n : ℕ) (rest : List ℕ) → n < 256 ^ 2 → count_at (big_bytes 2 n ++ rest) ≡ Some (n, rest)
count_again n rest lt =
    let number : big_number 2 (big_bytes 2 n ++ []) ≡ n = big_number-reads_back 2 n [] lt in
    ap (λ (m : ℕ). Some (m, rest)) number

module _ {X : Type 0} (spelled : X → List ℕ) (passes : X → Bool) (read : List ℕ → Option (X × List ℕ)) (reader : IsReader X spelled passes read) where
  items_back : (n : ℕ) (bytes : List ℕ) (xs : List X) (rest : List ℕ) → IsBytes bytes → items_at read n bytes ≡ Some (xs, rest) → Takes bytes (flat_map spelled xs) rest × (length xs ≡ n)
  items_back zero bytes xs rest fits e =
      subst (λ (r : List X × List ℕ). Takes bytes (flat_map spelled r.0) r.1 × (length r.0 ≡ 0)) (some_is ([], bytes) (xs, rest) e) (record { parts = refl; rest_fits = fits }, refl)
  items_back (suc n) bytes xs rest fits e =
      let b = bind_some (read bytes) (λ first. items_at read n first.1 >>= λ others. Some (first.0 ∷ others.0, others.1)) (xs, rest) e in
      let first = b.0 in
      let t = reader.back bytes first.0 first.1 fits b.1 in
      let c = bind_some (items_at read n first.1) (λ others. Some (first.0 ∷ others.0, others.1)) (xs, rest) b.2 in
      let others = c.0 in
      let u = items_back n first.1 others.0 others.1 t.rest_fits c.1 in
      subst (λ (r : List X × List ℕ). Takes bytes (flat_map spelled r.0) r.1 × (length r.0 ≡ suc n)) (some_is (first.0 ∷ others.0, others.1) (xs, rest) c.2)
      (Takes-then bytes (spelled first.0) first.1 (flat_map spelled others.0) others.1 t u.0, ap suc u.1)

  items_again : (xs : List X) (rest : List ℕ) → list_all passes xs ≡ true → items_at read (length xs) (flat_map spelled xs ++ rest) ≡ Some (xs, rest)
  items_again [] rest h = refl
  items_again (x ∷ xs) rest h =
      let both = and_parts (passes x) (list_all passes xs) h in
      let one : read ((spelled x ++ flat_map spelled xs) ++ rest) ≡ Some (x, flat_map spelled xs ++ rest) = ap read (append_assoc (spelled x) (flat_map spelled xs) rest) ∙ reader.again x (flat_map spelled xs ++ rest) both.0 in
      ap (λ (r : Option (X × List ℕ)). r >>= λ first. items_at read (length xs) first.1 >>= λ others. Some (first.0 ∷ others.0, others.1)) one
      ∙ ap (λ (r : Option (List X × List ℕ)). r >>= λ others. Some (x ∷ others.0, others.1)) (items_again xs rest both.1)

  list_back : (bytes : List ℕ) (xs : List X) (rest : List ℕ) → IsBytes bytes → list_at read bytes ≡ Some (xs, rest) → Takes bytes (listed spelled xs) rest
  unfolding list_at
  list_back bytes xs rest fits e =
      let b = bind_some (count_at bytes) (λ count. items_at read count.0 count.1) (xs, rest) e in
      let t = count_back bytes b.0.0 b.0.1 fits b.1 in
      let u = items_back b.0.0 b.0.1 xs rest t.rest_fits b.2 in
      subst (λ (n : ℕ). Takes bytes (big_bytes 2 n ++ flat_map spelled xs) rest) (sym u.1)
      (Takes-then bytes (big_bytes 2 b.0.0) b.0.1 (flat_map spelled xs) rest t u.0)

  list_again : (least : ℕ) (xs : List X) (rest : List ℕ) → is_list passes least xs ≡ true → list_at read (listed spelled xs ++ rest) ≡ Some (xs, rest)
  unfolding list_at
  list_again least xs rest h =
      let both = and_parts (is_count least (length xs)) (list_all passes xs) h in
      let few : nat_le (length xs) 65535 ≡ true = (and_parts (nat_le least (length xs)) (nat_le (length xs) 65535) both.0).1 in
      let lt : length xs < 256 ^ 2 = grind (arith, nat_tests) in
      ap (λ (t : List ℕ). count_at t >>= λ count. items_at read count.0 count.1) (append_assoc (big_bytes 2 (length xs)) (flat_map spelled xs) rest)
      ∙ ap (λ (r : Option (ℕ × List ℕ)). r >>= λ count. items_at read count.0 count.1) (count_again (length xs) (flat_map spelled xs ++ rest) lt)
      ∙ items_again xs rest both.1

  pub list_reader : (least : ℕ) → IsReader (List X) (listed spelled) (is_list passes least) (list_at read)
  list_reader least = record { back = list_back; again = list_again least }

-- a stronger test
pub stronger : {X : Type 0} (spelled : X → List ℕ) (weak strong : X → Bool) (read : List ℕ → Option (X × List ℕ)) → IsReader X spelled weak read → ((x : X) → strong x ≡ true → weak x ≡ true) → IsReader X spelled strong read
stronger spelled weak strong read reader h = record { back = reader.back; again = λ x rest p. reader.again x rest (h x p) }
