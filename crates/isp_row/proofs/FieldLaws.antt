-- Fields that are read are those that were spelled, and what was spelled is read again, whatever follows it.
use Rattle.std.proofs.Common.{◌≡◌, ℕ, ℤ, zero, suc, ◌+◌, ◌^◌, ◌<◌, ◌≤◌, Bool, true, false, List, [], ◌∷◌, ◌++◌, length, take, drop, Option, Some, None, refl, sym, ap, subst, ◌∙◌, append_assoc, arith, if◌then◌else◌}
use Rattle.std.specs.Prelude.{FitsSigned, nat_le}
use Rattle.std.specs.Int.{w16, w64, from_be_bytes, cast_signed, cast_unsigned}
use Rattle.std.proofs.Math.Seq.{drop-append_seam, take-append_seam}
use Rattle.std.proofs.Math.Facts.{sfits_to_z}
use Rattle.std.proofs.lemmas.Bool.Decides.{nat_tests}
use Rattle.std.proofs.lemmas.Int.{ints, of_z-to_z, to_z-of_z}
use Rattle.std.proofs.lemmas.List.{get_or-drop, length-append, length-take, take-append-drop}
use Rattle.std.proofs.lemmas.Nat.{be_bytes_2, be_bytes_8}
use Rattle.byteorder.specs.Endian.{big_bytes, big_number}
use Rattle.byteorder.specs.Numbers.{big_from-lt, big_number-reads_back}
use Rattle.isp_geom.specs.Reading.{◌>>=◌, count_at, form_at, is_empty, whole_at}
use Rattle.isp_geom.specs.Rules.{IsGeometry, is_form}
use Rattle.isp_geom.specs.Spelling.{spelling}
use Rattle.isp_geom.specs.declared.form.Form.{Form}
use Rattle.isp_geom.proofs.Readers.{IsBytes, Takes, Takes-then, bind_some, some_is}
use Rattle.isp_geom.proofs.Whole.{whole_again, whole_found}
use Rattle.isp_plain.specs.declared.value.Kind.{Kind}
use Rattle.isp_plain.specs.declared.value.Kind.TheVariants as kind
use Rattle.isp_plain.specs.declared.value.Value.{Value}
use Rattle.isp_plain.specs.declared.value.Value.TheVariants.{Int, Text, Geo}
use Rattle.isp_row.specs.Reading.{front_at, geometry_in, number_at, piece_at, text_within, value_at}
use Rattle.isp_row.specs.RowSpelling.{IsSpelled, IsValueOf, measured, number_spelling, value_spelling}

-- ---- numbers

eight_bytes : (a b c d e f g h : ℕ) → big_number 8 (a ∷ b ∷ c ∷ d ∷ e ∷ f ∷ g ∷ h ∷ []) ≡ from_be_bytes w64 (a ∷ b ∷ c ∷ d ∷ e ∷ f ∷ g ∷ h ∷ [])
eight_bytes a b c d e f g h = omega arith

two_bytes : (a b : ℕ) → big_number 2 (a ∷ b ∷ []) ≡ from_be_bytes w16 (a ∷ b ∷ [])
two_bytes a b = omega arith

-- bytes without those in front, and the front of bytes
front_fits : (n : ℕ) (bytes : List ℕ) → IsBytes bytes → IsBytes (take n bytes)
front_fits zero bytes fits i = omega arith
front_fits (suc n) [] fits i = omega arith
front_fits (suc n) (b ∷ bytes) fits zero = fits 0
front_fits (suc n) (b ∷ bytes) fits (suc i) = front_fits n bytes (λ k. fits (suc k)) i

rest_fits : (n : ℕ) (bytes : List ℕ) → IsBytes bytes → IsBytes (drop n bytes)
rest_fits n bytes fits i = let e = get_or-drop n bytes i 0 in let f = fits (n + i) in omega (arith, e, f)

-- a number that was read
pub record IsNumber (bytes : List ℕ) (n : ℕ) (rest : List ℕ) : Type 0 where
  pub takes : Takes bytes (number_spelling n) rest
  pub small : n < 256 ^ 8

pub number_back : (bytes : List ℕ) (n : ℕ) (rest : List ℕ) → IsBytes bytes → number_at bytes ≡ Some (n, rest) → IsNumber bytes n rest
number_back (a ∷ b ∷ c ∷ d ∷ e ∷ f ∷ g ∷ h ∷ bytes) n rest fits is =
    let field : List ℕ = a ∷ b ∷ c ∷ d ∷ e ∷ f ∷ g ∷ h ∷ [] in
    let x : ℕ = big_number 8 field in
    let field_fits : IsBytes field = front_fits 8 (a ∷ b ∷ c ∷ d ∷ e ∷ f ∷ g ∷ h ∷ bytes) fits in
    let whole : number_spelling x ≡ field = be_bytes_8 field _ refl field_fits (eight_bytes a b c d e f g h) in
    let taken : IsNumber (a ∷ b ∷ c ∷ d ∷ e ∷ f ∷ g ∷ h ∷ bytes) x bytes = record {
      takes = record { parts = ap (λ (t : List ℕ). t ++ bytes) (sym whole); rest_fits = λ i. fits (suc (suc (suc (suc (suc (suc (suc (suc i)))))))) };
      small = big_from-lt 0 8 field field_fits;
    } in
    subst (λ (r : ℕ × List ℕ). IsNumber (a ∷ b ∷ c ∷ d ∷ e ∷ f ∷ g ∷ h ∷ bytes) r.0 r.1) (some_is (x, bytes) (n, rest) is) taken
number_back _ n rest fits is = absurd cc

pub number_again : (n : ℕ) (rest : List ℕ) → n < 256 ^ 8 → number_at (number_spelling n ++ rest) ≡ Some (n, rest)
number_again n rest lt =
    let number : big_number 8 (number_spelling n ++ []) ≡ n = big_number-reads_back 8 n [] lt in
    ap (λ (m : ℕ). Some (m, rest)) number

-- ---- pieces

count_back : (bytes : List ℕ) (n : ℕ) (rest : List ℕ) → IsBytes bytes → count_at bytes ≡ Some (n, rest) → Takes bytes (big_bytes 2 n) rest × (n < 256 ^ 2)
count_back (a ∷ b ∷ bytes) n rest fits is =
    let field : List ℕ = a ∷ b ∷ [] in
    let m : ℕ = big_number 2 field in
    let field_fits : IsBytes field = front_fits 2 (a ∷ b ∷ bytes) fits in
    let whole : big_bytes 2 m ≡ field = be_bytes_2 field _ refl field_fits (two_bytes a b) in
    let taken : Takes (a ∷ b ∷ bytes) (big_bytes 2 m) bytes = record { parts = ap (λ (t : List ℕ). t ++ bytes) (sym whole); rest_fits = λ i. fits (suc (suc i)) } in
    subst (λ (r : ℕ × List ℕ). Takes (a ∷ b ∷ bytes) (big_bytes 2 r.0) r.1 × (r.0 < 256 ^ 2)) (some_is (m, bytes) (n, rest) is) (taken, big_from-lt 0 2 field field_fits)
count_back [] n rest fits is = absurd cc
count_back (a ∷ []) n rest fits is = absurd cc

count_again : (n : ℕ) (rest : List ℕ) → n < 256 ^ 2 → count_at (big_bytes 2 n ++ rest) ≡ Some (n, rest)
count_again n rest lt =
    let number : big_number 2 (big_bytes 2 n ++ []) ≡ n = big_number-reads_back 2 n [] lt in
    ap (λ (m : ℕ). Some (m, rest)) number

-- what a test lets through
pub tested : {X : Type 0} (b : Bool) (x y : X) → (if b then Some x else None) ≡ Some y → (b ≡ true) × (x ≡ y)
tested true x y is = (refl, cc)
tested false x y is = absurd cc

-- a piece that was read behind its length
pub record IsPiece (bytes piece rest : List ℕ) : Type 0 where
  pub takes : Takes bytes (measured piece) rest
  pub short : length piece < 256 ^ 2
  pub fits : IsBytes piece

front_back : (size : ℕ) (bytes piece rest : List ℕ) → IsBytes bytes → front_at size bytes ≡ Some (piece, rest) → Takes bytes piece rest × (length piece ≡ size) × IsBytes piece
front_back size bytes piece rest fits is =
    let t = tested (nat_le size (length bytes)) (take size bytes, drop size bytes) (piece, rest) is in
    let few = t.0 in
    let enough : size ≤ length bytes = grind (arith, nat_tests, few) in
    subst (λ (r : List ℕ × List ℕ). Takes bytes r.0 r.1 × (length r.0 ≡ size) × IsBytes r.0) t.1
    (record { parts = sym (take-append-drop size bytes); rest_fits = rest_fits size bytes fits }, (let e = length-take size bytes in omega (arith, e, enough)), front_fits size bytes fits)

pub piece_back : (bytes piece rest : List ℕ) → IsBytes bytes → piece_at bytes ≡ Some (piece, rest) → IsPiece bytes piece rest
piece_back bytes piece rest fits is =
    let b = bind_some (count_at bytes) (λ size. front_at size.0 size.1) (piece, rest) is in
    let c = count_back bytes b.0.0 b.0.1 fits b.1 in
    let f = front_back b.0.0 b.0.1 piece rest c.0.rest_fits b.2 in
    record {
      takes = subst (λ (n : ℕ). Takes bytes (big_bytes 2 n ++ piece) rest) (sym f.1) (Takes-then bytes (big_bytes 2 b.0.0) b.0.1 piece rest c.0 f.0);
      short = subst (λ (n : ℕ). n < 256 ^ 2) (sym f.1) c.1;
      fits = f.2;
    }

pub piece_again : (piece rest : List ℕ) → length piece < 256 ^ 2 → piece_at (measured piece ++ rest) ≡ Some (piece, rest)
piece_again piece rest short =
    let long = length-append piece rest in
    let enough : nat_le (length piece) (length (piece ++ rest)) ≡ true = grind (arith, nat_tests, long) in
    ap (λ (t : List ℕ). count_at t >>= λ size. front_at size.0 size.1) (append_assoc (big_bytes 2 (length piece)) piece rest)
    ∙ ap (λ (r : Option (ℕ × List ℕ)). r >>= λ size. front_at size.0 size.1) (count_again (length piece) (piece ++ rest) short)
    ∙ ap (λ (b : Bool). if b then Some (take (length piece) (piece ++ rest), drop (length piece) (piece ++ rest)) else None) enough
    ∙ (λ i. Some (take-append_seam piece rest i, drop-append_seam piece rest i))

-- ---- geometries

pub geometry_back : (bytes : List ℕ) (form : Form) → IsBytes bytes → geometry_in bytes ≡ Some form → IsGeometry form × (bytes ≡ spelling form)
geometry_back bytes form fits is =
    let b = bind_some (whole_at (form_at 9 bytes)) (λ x. (if is_form 9 x.0 then Some x.0 else None)) form is in
    let t = tested (is_form 9 b.0.0) b.0.0 form b.2 in
    let nothing = whole_left (form_at 9 bytes) b.0 b.1 in
    let found : whole_at (form_at 9 bytes) ≡ Some (b.0.0, []) = b.1 ∙ ap (λ (l : List ℕ). Some (b.0.0, l)) nothing in
    subst (λ (f : Form). IsGeometry f × (bytes ≡ spelling f)) t.1 (t.0, whole_found bytes b.0.0 fits found)
  where
    emptied : (f : Form) (rest : List ℕ) (x : Form × List ℕ) → (if is_empty rest then Some (f, []) else None) ≡ Some x → x.1 ≡ []
    emptied f [] x is = sym (ap (λ (r : Form × List ℕ). r.1) (some_is (f, []) x is))
    emptied f (r ∷ rest) x is = absurd cc

    whole_left : (read : Option (Form × List ℕ)) (x : Form × List ℕ) → whole_at read ≡ Some x → x.1 ≡ []
    whole_left (Some r) x is = emptied r.0 r.1 x is
    whole_left None x is = absurd cc

pub geometry_again : (form : Form) → IsGeometry form → geometry_in (spelling form) ≡ Some form
geometry_again form is =
    ap (λ (r : Option (Form × List ℕ)). r >>= λ x. (if is_form 9 x.0 then Some x.0 else None)) (whole_again (spelling form) form is refl)
    ∙ ap (λ (b : Bool). if b then Some form else None) is

pub geometry_none : (bytes : List ℕ) → IsBytes bytes → ((form : Form) → IsGeometry form → bytes ≡ spelling form → ⊥) → geometry_in bytes ≡ None
geometry_none bytes fits none = by (geometry_in bytes) refl
  where
    by : (read : Option Form) → geometry_in bytes ≡ read → read ≡ None
    by None is = refl
    by (Some form) is = let found = geometry_back bytes form fits is in absurd (none form found.0 found.1)

-- ---- values

-- a value that was read
pub record IsRead (k : Kind) (bytes : List ℕ) (v : Value) (rest : List ℕ) : Type 0 where
  pub takes : Takes bytes (value_spelling v) rest
  pub column : IsValueOf k v
  pub spelled : IsSpelled v

signed_small : (z : ℤ) → FitsSigned w64 z → cast_unsigned w64 z < 256 ^ 8
signed_small z fits = omega (arith, ints, fits)

pub value_back : (k : Kind) (bytes : List ℕ) (v : Value) (rest : List ℕ) → IsBytes bytes → value_at k bytes ≡ Some (v, rest) → IsRead k bytes v rest
value_back kind.BigInt bytes v rest fits is =
    let b = bind_some (number_at bytes) (λ n. Some (Int (cast_signed w64 n.0), n.1)) (v, rest) is in
    let n = number_back bytes b.0.0 b.0.1 fits b.1 in
    let small : b.0.0 < 2 ^ 64 = n.small in
    let same : cast_unsigned w64 (cast_signed w64 b.0.0) ≡ b.0.0 = of_z-to_z w64 b.0.0 small in
    let got : IsRead kind.BigInt bytes (Int (cast_signed w64 b.0.0)) b.0.1 = record {
      takes = subst (λ (m : ℕ). Takes bytes (number_spelling m) b.0.1) (sym same) n.takes;
      column = tt;
      spelled = sfits_to_z {w = w64} (record { fits = small });
    } in
    subst (λ (r : Value × List ℕ). IsRead kind.BigInt bytes r.0 r.1) (some_is (Int (cast_signed w64 b.0.0), b.0.1) (v, rest) b.2) got
value_back (kind.VarChar most) bytes v rest fits is =
    let b = bind_some (piece_at bytes) (λ p. text_within most p.0 >>= λ v. Some (v, p.1)) (v, rest) is in
    let p = piece_back bytes b.0.0 b.0.1 fits b.1 in
    let c = bind_some (text_within most b.0.0) (λ v. Some (v, b.0.1)) (v, rest) b.2 in
    let t = tested (nat_le (length b.0.0) most) (Text b.0.0) c.0 c.1 in
    let few = t.0 in
    let got : IsRead (kind.VarChar most) bytes (Text b.0.0) b.0.1 = record { takes = p.takes; column = grind (arith, nat_tests, few); spelled = p.short } in
    let same : (Text b.0.0, b.0.1) ≡ (v, rest) = (λ i. (t.1 i, b.0.1)) ∙ some_is (c.0, b.0.1) (v, rest) c.2 in
    subst (λ (r : Value × List ℕ). IsRead (kind.VarChar most) bytes r.0 r.1) same got
value_back kind.Geo bytes v rest fits is =
    let b = bind_some (piece_at bytes) (λ p. geometry_in p.0 >>= λ f. Some (Geo f, p.1)) (v, rest) is in
    let p = piece_back bytes b.0.0 b.0.1 fits b.1 in
    let c = bind_some (geometry_in b.0.0) (λ f. Some (Geo f, b.0.1)) (v, rest) b.2 in
    let g = geometry_back b.0.0 c.0 p.fits c.1 in
    let got : IsRead kind.Geo bytes (Geo c.0) b.0.1 = record {
      takes = subst (λ (l : List ℕ). Takes bytes (measured l) b.0.1) g.1 p.takes;
      column = tt;
      spelled = (g.0, subst (λ (l : List ℕ). length l < 256 ^ 2) g.1 p.short);
    } in
    subst (λ (r : Value × List ℕ). IsRead kind.Geo bytes r.0 r.1) (some_is (Geo c.0, b.0.1) (v, rest) c.2) got

pub value_again : (k : Kind) (v : Value) (rest : List ℕ) → IsValueOf k v → IsSpelled v → value_at k (value_spelling v ++ rest) ≡ Some (v, rest)
value_again kind.BigInt (Int z) rest column fits =
    ap (λ (r : Option (ℕ × List ℕ)). r >>= λ n. Some (Int (cast_signed w64 n.0), n.1)) (number_again (cast_unsigned w64 z) rest (signed_small z fits))
    ∙ ap (λ (x : ℤ). Some (Int x, rest)) (to_z-of_z w64 z fits)
value_again (kind.VarChar most) (Text text) rest few short =
    let passes : nat_le (length text) most ≡ true = grind (arith, nat_tests, few) in
    ap (λ (r : Option (List ℕ × List ℕ)). r >>= λ p. text_within most p.0 >>= λ v. Some (v, p.1)) (piece_again text rest short)
    ∙ ap (λ (b : Bool). (if b then Some (Text text) else None) >>= λ v. Some (v, rest)) passes
value_again kind.Geo (Geo form) rest column is =
    ap (λ (r : Option (List ℕ × List ℕ)). r >>= λ p. geometry_in p.0 >>= λ f. Some (Geo f, p.1)) (piece_again (spelling form) rest is.1)
    ∙ ap (λ (r : Option Form). r >>= λ f. Some (Geo f, rest)) (geometry_again form is.0)
value_again kind.BigInt (Text t) rest column is = absurd column
value_again kind.BigInt (Geo f) rest column is = absurd column
value_again (kind.VarChar most) (Int z) rest column is = absurd column
value_again (kind.VarChar most) (Geo f) rest column is = absurd column
value_again kind.Geo (Int z) rest column is = absurd column
value_again kind.Geo (Text t) rest column is = absurd column
