-- The printed form of a geometry is a text that means it.
use Rattle.std.proofs.Common.{◌≡◌, ℕ, ℤ, pos, negsuc, zero, suc, ◌+◌, ◌-◌, ◌*◌, ◌<◌, ◌≤◌, ◌&&◌, nat_le, Bool, true, false, inl, inr, List, [], ◌∷◌, ◌++◌, length, map, refl, sym, ap, subst, ◌∙◌, append_assoc, arith}
use Rattle.std.specs.List.{fold, list_all}
use Rattle.std.specs.Fmt.{decimal, signed_decimal}
use Rattle.std.proofs.lemmas.Bool.{and_parts}
use Rattle.std.proofs.lemmas.Bool.Decides.{nat_tests}
use Rattle.std.proofs.lemmas.Fmt.{digits_decimal, digits_value-decimal, decimal_nonempty}
use Rattle.std.proofs.lemmas.List.{append-nil}
use Rattle.std.proofs.lemmas.Str.Parse.{IsNumeralModel, IsDigitsTest, FoldsDigits, numerals_by_fold}
use Rattle.isp_geom.specs.declared.form.Form.{Form, Form-F, out-Form, roll-Form, roll-out-Form}
use Rattle.isp_geom.specs.declared.form.Form.TheVariants.{Point, LineString, Polygon, MultiPoint, MultiLineString, MultiPolygon, Collection, rolls-Point, rolls-LineString, rolls-Polygon, rolls-MultiPoint, rolls-MultiLineString, rolls-MultiPolygon, rolls-Collection}
use Rattle.isp_geom.specs.Rules.{is_coordinate, is_point, is_points, is_count, is_list, is_line, is_ring, is_closed, is_polygon, is_level, is_form, IsGeometry}
use Rattle.isp_geom.proofs.Levels.{is_form-roll}
use Rattle.isp_wkt.specs.declared.kind.Kind.{Kind}
use Rattle.isp_wkt.specs.declared.kind.Kind.TheVariants as kind
use Rattle.isp_wkt.specs.Words.{word, upper}
use Rattle.isp_wkt.specs.Grammar.{IsSize, IsNumber, IsPair, IsSingle, AreMembers, IsList, IsLine, AreLines, IsMarked, IsWorded, Means, IsText}
use Rattle.isp_wkt.specs.Printed.{printed, pair, marked, chained, listed, line, lines}
use Rattle.isp_wkt.specs.Reading.{is_digit, limit}
use Rattle.isp_wkt.proofs.SoundForms.{Means-roll}
use Rattle.isp_wkt.proofs.Texts.{text-point, text-line, text-polygon, text-points, text-lines, text-polygons, text-members}

-- ---- numbers

folds : FoldsDigits (λ n ds. fold (λ n b. n * 10 + (b - 48)) n ds)
folds = record { empty = λ n. refl; more = λ n c cs k. refl }

tests : IsDigitsTest (λ ds. list_all is_digit ds ≡ true)
tests = record {
  empty = refl;
  parts = λ c cs e. let k = and_parts (is_digit c) (list_all is_digit cs) e in (in_range c k.0, k.1);
  more = λ c cs k e. ap (λ t. t && list_all is_digit cs) (digit c k.0 k.1) ∙ e;
}
  where
    in_range : (c : ℕ) → is_digit c ≡ true → (48 ≤ c) × (c ≤ 57)
    in_range c h =
        let k = and_parts (nat_le 48 c) (nat_le c 57) h in
        let low = k.0 in
        let high = k.1 in
        (grind (arith, nat_tests), grind (arith, nat_tests))

    digit : (c : ℕ) → 48 ≤ c → c ≤ 57 → is_digit c ≡ true
    digit c h k =
        let low : nat_le 48 c ≡ true = grind (arith, nat_tests) in
        let high : nat_le c 57 ≡ true = grind (arith, nat_tests) in
        ap (λ t. t && nat_le c 57) low ∙ high

own : IsNumeralModel (λ ds. list_all is_digit ds ≡ true) (λ ds. fold (λ n b. n * 10 + (b - 48)) 0 ds)
own = numerals_by_fold (λ ds. list_all is_digit ds ≡ true) tests (λ n ds. fold (λ n b. n * 10 + (b - 48)) n ds) folds

size_means : (n : ℕ) → n ≤ limit → IsSize n (decimal n)
size_means n le = record {
  digits = decimal n;
  fraction = [];
  parts = sym (append-nil (decimal n));
  some = decimal_nonempty n (omega arith);
  all = digits_decimal own n (omega arith);
  value = digits_value-decimal own n (omega arith);
  whole = tt;
  small = le;
}

number_means : (z : ℤ) → is_coordinate z ≡ true → IsNumber z (signed_decimal z)
number_means (pos n) h = record { is_negative = false; size = n; sign = []; body = decimal n; parts = refl; signs = inl refl; sized = size_means n (small n h); value = refl }
  where
    small : (n : ℕ) → nat_le n 1073741824 ≡ true → n ≤ limit
    small n h = grind (arith, nat_tests)
number_means (negsuc n) h = record { is_negative = true; size = suc n; sign = 45 ∷ []; body = decimal (suc n); parts = refl; signs = refl; sized = size_means (suc n) (small (suc n) h); value = refl }
  where
    small : (n : ℕ) → nat_le n 1073741824 ≡ true → n ≤ limit
    small n h = grind (arith, nat_tests)

-- the printed form of a value that passes the test means it
abbrev Prints : {X : Type 0} → (X → List ℕ → Type 0) → (X → Bool) → (X → List ℕ) → Type 0
Prints {X} Lang passes spelled = (x : X) → passes x ≡ true → Lang x (spelled x)

pair_means : Prints IsPair is_point pair
pair_means point h =
    let both = and_parts (is_coordinate point.x) (is_coordinate point.y) h in
    record { left = signed_decimal point.x; blanks = 32 ∷ []; right = signed_decimal point.y; parts = refl; x = number_means point.x both.0; some = omega arith; blank = refl; y = number_means point.y both.1 }

single_means : Prints (IsSingle IsPair) is_point marked
single_means point h = record { before = []; opened = []; inside = pair point; closed = []; parts = refl; blank = (refl, refl, refl); means = pair_means point h }

marked_means : Prints IsMarked is_point marked
marked_means point h = inr (single_means point h)

-- ---- lists

module _ {X : Type 0} (Lang : X → List ℕ → Type 0) (passes : X → Bool) (spelled : X → List ℕ) (prints : Prints Lang passes spelled) where
  members_mean : (x : X) (xs : List X) → list_all passes (x ∷ xs) ≡ true → AreMembers Lang (x ∷ xs) ((spelled x ++ chained spelled 44 xs) ++ 41 ∷ [])
  members_mean x [] h = (spelled x, [], ap (λ (u : List ℕ). u ++ 41 ∷ []) (append-nil (spelled x)), prints x (and_parts (passes x) true h).0, refl)
  members_mean x (y ∷ xs) h =
      let both = and_parts (passes x) (list_all passes (y ∷ xs)) h in
      (spelled x, [], [], (spelled y ++ chained spelled 44 xs) ++ 41 ∷ [], append_assoc (spelled x) (44 ∷ (spelled y ++ chained spelled 44 xs)) (41 ∷ []), prints x both.0, refl, refl, members_mean y xs both.1)

  all_mean : (xs : List X) → 0 < length xs → list_all passes xs ≡ true → IsList Lang xs (listed spelled xs)
  all_mean [] k h = absurd (omega arith)
  all_mean (x ∷ xs) k h = record { before = []; opened = []; inside = (spelled x ++ chained spelled 44 xs) ++ 41 ∷ []; parts = refl; blank = (refl, refl); members = members_mean x xs h }

  pub list_means : (least : ℕ) → 0 < least → Prints (IsList Lang) (is_list passes least) (listed spelled)
  list_means least k xs h =
      let both = and_parts (is_count least (length xs)) (list_all passes xs) h in
      let few = (and_parts (nat_le least (length xs)) (nat_le (length xs) 65535) both.0).0 in
      all_mean xs (some least (length xs) k few) both.1
    where
      some : (least n : ℕ) → 0 < least → nat_le least n ≡ true → 0 < n
      some least n k h = grind (arith, nat_tests)

line_means : Prints (IsLine false) is_line line
line_means ps h =
    let both = and_parts (is_count 2 (length ps)) (list_all is_point ps) h in
    (list_means IsPair is_point pair pair_means 2 (omega arith) ps h, (and_parts (nat_le 2 (length ps)) (nat_le (length ps) 65535) both.0).0)

ring_means : Prints (IsLine true) is_ring line
ring_means ps h =
    let ring = and_parts (is_list is_point 4 ps) (is_closed ps) h in
    let both = and_parts (is_count 4 (length ps)) (list_all is_point ps) ring.0 in
    let four = (and_parts (nat_le 4 (length ps)) (nat_le (length ps) 65535) both.0).0 in
    (list_means IsPair is_point pair pair_means 4 (omega arith) ps ring.0, ap (λ t. t && is_closed ps) four ∙ ring.1)

polygon_means : Prints (AreLines true) is_polygon lines
polygon_means = list_means (IsLine true) is_ring line ring_means 1 (omega arith)

-- ---- the kinds

upper_word : (k : Kind) → map upper (word k) ≡ word k
unfolding word
upper_word kind.Point = refl
upper_word kind.LineString = refl
upper_word kind.Polygon = refl
upper_word kind.MultiPoint = refl
upper_word kind.MultiLineString = refl
upper_word kind.MultiPolygon = refl
upper_word kind.Collection = refl

worded : {X : Type 0} (Lang : X → List ℕ → Type 0) (passes : X → Bool) (spelled : X → List ℕ) (k : Kind) (form : X → Form) → Prints Lang passes spelled → ((x : X) → printed (form x) ≡ word k ++ spelled x) → (x : X) → passes x ≡ true → IsWorded (word k) (Lang x) (printed (form x))
worded Lang passes spelled k form prints is x h = (word k, spelled x, is x, upper_word k, prints x h)

module _ (levels : ℕ) (below : Prints (Means levels) (is_form levels) printed) where
  level_means : (x : Form-F Form) → is_level (is_form levels) x ≡ true → Means (suc levels) (roll-Form x) (printed (roll-Form x))
  level_means (Form-F.Point x) h = subst (λ (f : Form). Means (suc levels) f (printed f)) (sym (rolls-Point x)) (Means-roll levels (Form-F.Point x) (Point x) _ (rolls-Point x) (worded (IsSingle IsPair) is_point marked kind.Point Point single_means text-point x h))
  level_means (Form-F.LineString x) h = subst (λ (f : Form). Means (suc levels) f (printed f)) (sym (rolls-LineString x)) (Means-roll levels (Form-F.LineString x) (LineString x) _ (rolls-LineString x) (worded (IsLine false) is_line line kind.LineString LineString line_means text-line x h))
  level_means (Form-F.Polygon x) h = subst (λ (f : Form). Means (suc levels) f (printed f)) (sym (rolls-Polygon x)) (Means-roll levels (Form-F.Polygon x) (Polygon x) _ (rolls-Polygon x) (worded (AreLines true) is_polygon lines kind.Polygon Polygon polygon_means text-polygon x h))
  level_means (Form-F.MultiPoint x) h = subst (λ (f : Form). Means (suc levels) f (printed f)) (sym (rolls-MultiPoint x)) (Means-roll levels (Form-F.MultiPoint x) (MultiPoint x) _ (rolls-MultiPoint x) (worded (IsList IsMarked) is_points (listed marked) kind.MultiPoint MultiPoint (list_means IsMarked is_point marked marked_means 1 (omega arith)) text-points x h))
  level_means (Form-F.MultiLineString x) h = subst (λ (f : Form). Means (suc levels) f (printed f)) (sym (rolls-MultiLineString x)) (Means-roll levels (Form-F.MultiLineString x) (MultiLineString x) _ (rolls-MultiLineString x) (worded (AreLines false) (is_list is_line 1) lines kind.MultiLineString MultiLineString (list_means (IsLine false) is_line line line_means 1 (omega arith)) text-lines x h))
  level_means (Form-F.MultiPolygon x) h = subst (λ (f : Form). Means (suc levels) f (printed f)) (sym (rolls-MultiPolygon x)) (Means-roll levels (Form-F.MultiPolygon x) (MultiPolygon x) _ (rolls-MultiPolygon x) (worded (IsList (AreLines true)) (is_list is_polygon 1) (listed lines) kind.MultiPolygon MultiPolygon (list_means (AreLines true) is_polygon lines polygon_means 1 (omega arith)) text-polygons x h))
  level_means (Form-F.Collection x) h = subst (λ (f : Form). Means (suc levels) f (printed f)) (sym (rolls-Collection x)) (Means-roll levels (Form-F.Collection x) (Collection x) _ (rolls-Collection x) (worded (IsList (Means levels)) (is_list (is_form levels) 1) (listed printed) kind.Collection Collection (list_means (Means levels) (is_form levels) printed below 1 (omega arith)) text-members x h))

  form_means : Prints (Means (suc levels)) (is_form (suc levels)) printed
  form_means f h =
      let opened = roll-out-Form f in
      subst (λ (g : Form). Means (suc levels) g (printed g)) opened (level_means (out-Form f) (sym (is_form-roll levels (out-Form f)) ∙ ap (is_form (suc levels)) opened ∙ h))

no_form_means : Prints (Means 0) (is_form 0) printed
unfolding is_form
no_form_means f h = absurd cc

all_forms : (levels : ℕ) → Prints (Means levels) (is_form levels) printed
all_forms zero = no_form_means
all_forms (suc levels) = form_means levels (all_forms levels)

pub printed_means : (f : Form) → IsGeometry f → IsText f (printed f)
printed_means f h = record { before = []; body = printed f; after = []; parts = sym (append-nil (printed f)); blank = (refl, refl); means = all_forms 9 f h }
