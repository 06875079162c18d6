-- What a text of at most 65,536 bytes means keeps the rules: its lists have fewer members than it has bytes.
use Rattle.std.proofs.Common.{◌≡◌, ℕ, ℤ, zero, suc, ◌+◌, ◌<◌, ◌≤◌, ◌&&◌, nat_le, Bool, true, false, inl, inr, List, [], ◌∷◌, ◌++◌, length, refl, ap, subst, ◌∙◌, arith, length-append}
use Rattle.std.specs.List.{list_all}
use Rattle.std.proofs.lemmas.Bool.{and_parts}
use Rattle.std.proofs.lemmas.Bool.Decides.{nat_tests}
use Rattle.isp_geom.specs.declared.form.Form.{Form, Form-F, out-Form}
use Rattle.isp_geom.specs.Rules.{is_coordinate, is_point, is_points, is_count, is_list, is_line, is_ring, is_closed, is_polygon, is_level, is_form, IsGeometry}
use Rattle.isp_wkt.specs.Grammar.{IsNumber, IsPair, IsSingle, AreMembers, IsList, IsLine, AreLines, IsMarked, IsWorded, IsLevel, Means, IsText}
use Rattle.isp_wkt.specs.Reading.{limit, signed}

both_true : (a b : Bool) → a ≡ true → b ≡ true → (a && b) ≡ true
both_true a b h k = ap (λ t. t && b) h ∙ k

small_size : (is_negative : Bool) (n : ℕ) → n ≤ limit → is_coordinate (signed is_negative n) ≡ true
small_size true zero h = refl
small_size true (suc n) h = grind (arith, nat_tests)
small_size false n h = grind (arith, nat_tests)

number_rule : (z : ℤ) (t : List ℕ) → IsNumber z t → is_coordinate z ≡ true
number_rule z t m = subst (λ (y : ℤ). is_coordinate y ≡ true) m.value (small_size m.is_negative m.size m.sized.small)

-- what a short text means passes the test
abbrev IsRule : {X : Type 0} → (X → List ℕ → Type 0) → (X → Bool) → Type 0
IsRule {X} Lang passes = (x : X) (t : List ℕ) → length t ≤ 65536 → Lang x t → passes x ≡ true

pair_rule : IsRule IsPair is_point
pair_rule point t le m = both_true (is_coordinate point.x) (is_coordinate point.y) (number_rule point.x m.left m.x) (number_rule point.y m.right m.y)

single_rule : IsRule (IsSingle IsPair) is_point
single_rule point t le m = both_true (is_coordinate point.x) (is_coordinate point.y) (number_rule point.x m.means.left m.means.x) (number_rule point.y m.means.right m.means.y)

marked_rule : IsRule IsMarked is_point
marked_rule point t le (inl m) = pair_rule point t le m
marked_rule point t le (inr m) = single_rule point t le m

counted : (least n : ℕ) → least ≤ n → n ≤ 65535 → is_count least n ≡ true
counted least n h k =
    let low : nat_le least n ≡ true = grind (arith, nat_tests) in
    let high : nat_le n 65535 ≡ true = grind (arith, nat_tests) in
    both_true (nat_le least n) (nat_le n 65535) low high

module _ {X : Type 0} (Lang : X → List ℕ → Type 0) (passes : X → Bool) (rule : IsRule Lang passes) where
  members_rule : (xs : List X) (t : List ℕ) → length t ≤ 65536 → AreMembers Lang xs t → (list_all passes xs ≡ true) × (length xs ≤ length t) × (0 < length xs)
  members_rule [] t le m = absurd m
  members_rule (x ∷ []) t le m =
      let len : length t ≡ length m.0 + (length m.1 + 1) = ap length m.2 ∙ length-append m.0 (m.1 ++ 41 ∷ []) ∙ ap (λ (n : ℕ). length m.0 + n) (length-append m.1 (41 ∷ [])) in
      (both_true (passes x) true (rule x m.0 (omega arith) m.3) refl, omega arith, omega arith)
  members_rule (x ∷ y ∷ xs) t le m =
      let more : length (m.2 ++ m.3) ≡ length m.2 + length m.3 = length-append m.2 m.3 in
      let tail : length (m.1 ++ 44 ∷ (m.2 ++ m.3)) ≡ length m.1 + suc (length (m.2 ++ m.3)) = length-append m.1 (44 ∷ (m.2 ++ m.3)) in
      let len : length t ≡ length m.0 + length (m.1 ++ 44 ∷ (m.2 ++ m.3)) = ap length m.4 ∙ length-append m.0 (m.1 ++ 44 ∷ (m.2 ++ m.3)) in
      let r = members_rule (y ∷ xs) m.3 (omega arith) m.8 in
      (both_true (passes x) (list_all passes (y ∷ xs)) (rule x m.0 (omega arith) m.5) r.0, omega arith, omega arith)

  list_rule : (xs : List X) (t : List ℕ) → length t ≤ 65536 → IsList Lang xs t → (list_all passes xs ≡ true) × (length xs ≤ 65535) × (0 < length xs)
  list_rule xs t le m =
      let inner : length (m.opened ++ m.inside) ≡ length m.opened + length m.inside = length-append m.opened m.inside in
      let len : length t ≡ length m.before + suc (length (m.opened ++ m.inside)) = ap length m.parts ∙ length-append m.before (40 ∷ (m.opened ++ m.inside)) in
      let r = members_rule xs m.inside (omega arith) m.members in
      (r.0, omega arith, r.2)

  some_rule : IsRule (IsList Lang) (is_list passes 1)
  some_rule xs t le m =
      let r = list_rule xs t le m in
      both_true (is_count 1 (length xs)) (list_all passes xs) (counted 1 (length xs) r.2 r.1) r.0

line_rule : IsRule (IsLine false) is_line
line_rule ps t le m =
    let r = list_rule IsPair is_point pair_rule ps t le m.0 in
    both_true (is_count 2 (length ps)) (list_all is_point ps) (counted 2 (length ps) (two (length ps) m.1) r.1) r.0
  where
    two : (n : ℕ) → nat_le 2 n ≡ true → 2 ≤ n
    two n h = grind (arith, nat_tests)

ring_rule : IsRule (IsLine true) is_ring
ring_rule ps t le m =
    let r = list_rule IsPair is_point pair_rule ps t le m.0 in
    let k = and_parts (nat_le 4 (length ps)) (is_closed ps) m.1 in
    both_true (is_list is_point 4 ps) (is_closed ps) (both_true (is_count 4 (length ps)) (list_all is_point ps) (counted 4 (length ps) (four (length ps) k.0) r.1) r.0) k.1
  where
    four : (n : ℕ) → nat_le 4 n ≡ true → 4 ≤ n
    four n h = grind (arith, nat_tests)

polygon_rule : IsRule (AreLines true) is_polygon
polygon_rule = some_rule (IsLine true) is_ring ring_rule

-- the body behind a word
worded_rule : {X : Type 0} (Lang : X → List ℕ → Type 0) (passes : X → Bool) (w : List ℕ) → IsRule Lang passes → (x : X) (t : List ℕ) → length t ≤ 65536 → IsWorded w (Lang x) t → passes x ≡ true
worded_rule Lang passes w rule x t le m =
    let len : length t ≡ length m.0 + length m.1 = ap length m.2 ∙ length-append m.0 m.1 in
    rule x m.1 (omega arith) m.4

level_rule : (levels : ℕ) → IsRule (Means levels) (is_form levels) → (x : Form-F Form) (t : List ℕ) → length t ≤ 65536 → IsLevel (Means levels) x t → is_level (is_form levels) x ≡ true
level_rule levels below (Form-F.Point x) t le m = worded_rule (IsSingle IsPair) is_point _ single_rule x t le m
level_rule levels below (Form-F.LineString ps) t le m = worded_rule (IsLine false) is_line _ line_rule ps t le m
level_rule levels below (Form-F.Polygon rs) t le m = worded_rule (AreLines true) is_polygon _ polygon_rule rs t le m
level_rule levels below (Form-F.MultiPoint ps) t le m = worded_rule (IsList IsMarked) is_points _ (some_rule IsMarked is_point marked_rule) ps t le m
level_rule levels below (Form-F.MultiLineString ls) t le m = worded_rule (AreLines false) (is_list is_line 1) _ (some_rule (IsLine false) is_line line_rule) ls t le m
level_rule levels below (Form-F.MultiPolygon ps) t le m = worded_rule (IsList (AreLines true)) (is_list is_polygon 1) _ (some_rule (AreLines true) is_polygon polygon_rule) ps t le m
level_rule levels below (Form-F.Collection ms) t le m = worded_rule (IsList (Means levels)) (is_list (is_form levels) 1) _ (some_rule (Means levels) (is_form levels) below) ms t le m

none_rule : IsRule (Means 0) (is_form 0)
unfolding Means
none_rule f t le m = absurd m

more_rule : (levels : ℕ) → IsRule (Means levels) (is_form levels) → IsRule (Means (suc levels)) (is_form (suc levels))
unfolding Means is_form
more_rule levels below f t le m = level_rule levels below (out-Form f) t le m

form_rule : (levels : ℕ) → IsRule (Means levels) (is_form levels)
form_rule zero = none_rule
form_rule (suc levels) = more_rule levels (form_rule levels)

pub text_rule : (f : Form) (text : List ℕ) → length text ≤ 65536 → IsText f text → IsGeometry f
text_rule f text le m =
    let inner : length (m.body ++ m.after) ≡ length m.body + length m.after = length-append m.body m.after in
    let len : length text ≡ length m.before + length (m.body ++ m.after) = ap length m.parts ∙ length-append m.before (m.body ++ m.after) in
    form_rule 9 f m.body (omega arith) m.means
