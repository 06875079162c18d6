-- A form is read from each text that means it.
use Rattle.std.proofs.Common.{◌≡◌, ℕ, zero, suc, ◌-◌, ◌≤◌, ◌==◌, ◌&&◌, ◌||◌, nat_le, nat_lt, not, max, Bool, true, false, cond, inl, inr, List, [], ◌∷◌, ◌++◌, length, drop, map, Ok, Err, refl, sym, ap, subst, ◌∙◌, append_assoc, arith}
use Rattle.std.specs.List.{list_all}
use Rattle.std.proofs.lemmas.Bool.{and_parts}
use Rattle.std.proofs.lemmas.Bool.Decides.{nat_tests}
use Rattle.std.proofs.lemmas.List.{append-nil, drop_at, length-map}
use Rattle.std.proofs.lemmas.List.Folds.{list_all-append}
use Rattle.isp_geom.specs.declared.form.Point as p
use Rattle.isp_geom.specs.declared.form.Form.{Form, Form-F, out-Form, roll-Form, roll-out-Form}
use Rattle.isp_geom.specs.declared.form.Form.TheVariants.{Point, LineString, Polygon, MultiPoint, MultiLineString, MultiPolygon, Collection, rolls-Point, rolls-LineString, rolls-Polygon, rolls-MultiPoint, rolls-MultiLineString, rolls-MultiPolygon, rolls-Collection}
use Rattle.isp_geom.specs.Rules.{is_closed}
use Rattle.isp_wkt.specs.declared.cause.WktCause.{WktCause}
use Rattle.isp_wkt.specs.declared.cause.WktCause.TheVariants.{TooFew, Empty, Trailing}
use Rattle.isp_wkt.specs.declared.cause.Fault.{Fault}
use Rattle.isp_wkt.specs.declared.kind.Kind.{Kind}
use Rattle.isp_wkt.specs.declared.kind.Kind.TheVariants as kind
use Rattle.isp_wkt.specs.Words.{word, upper, common}
use Rattle.isp_wkt.specs.Grammar.{AreBlanks, IsSingle, IsPair, AreMembers, IsList, keeps, IsLine, AreLines, IsMarked, IsWorded, IsLevel, Means, IsTextOf, IsText}
use Rattle.isp_wkt.specs.Reading.{◌>>=◌, Outcome, is_blank, kinds, word_in, skipped, made, body_at, unknown_at, geometry_at, members_at, list_at, single_at, line_at, lines_at, marked_at, point_at, close_at, open_at, paren_at, items_at, ruled, rest_at, text_at}
use Rattle.isp_wkt.proofs.Sound.{chosen, ok_parts, is_it}
use Rattle.isp_wkt.proofs.SoundForms.{text_of}
use Rattle.isp_wkt.proofs.Complete.{if_true, if_false, bind_is, skipped_over, skipped_to, Ends, NotShut, IsComplete, pair_complete, list_complete, list_again, list_begins, pair_skipped, point_again, pair_begins, Begins, begins_open, open_again, close_again, ends_behind}

-- ---- points in parentheses

single_text : (blanks : List ℕ) (point : p.Point) (t rest : List ℕ) (m : IsSingle IsPair point t) → blanks ++ (t ++ rest) ≡ (blanks ++ m.before) ++ 40 ∷ (m.opened ++ (m.inside ++ (m.closed ++ 41 ∷ rest)))
single_text blanks point t rest m =
    ap (λ (u : List ℕ). blanks ++ u)
    (ap (λ (u : List ℕ). u ++ rest) m.parts ∙ append_assoc m.before (40 ∷ (m.opened ++ (m.inside ++ (m.closed ++ 41 ∷ [])))) rest
    ∙ ap (λ (u : List ℕ). m.before ++ 40 ∷ u) (append_assoc m.opened (m.inside ++ (m.closed ++ 41 ∷ [])) rest
    ∙ ap (λ (u : List ℕ). m.opened ++ u) (append_assoc m.inside (m.closed ++ 41 ∷ []) rest ∙ ap (λ (u : List ℕ). m.inside ++ u) (append_assoc m.closed (41 ∷ []) rest))))
    ∙ sym (append_assoc blanks m.before (40 ∷ (m.opened ++ (m.inside ++ (m.closed ++ 41 ∷ rest)))))

blanks_join : (a b : List ℕ) → AreBlanks a → AreBlanks b → AreBlanks (a ++ b)
blanks_join a b h k = list_all-append is_blank a b ∙ ap (λ t. t && list_all is_blank b) h ∙ k

single_again : (blanks : List ℕ) (point : p.Point) (t rest : List ℕ) → AreBlanks blanks → IsSingle IsPair point t → single_at (skipped (blanks ++ (t ++ rest))) ≡ Ok (point, rest)
unfolding single_at
single_again blanks point t rest h m =
    let after : List ℕ = m.closed ++ 41 ∷ rest in
    let inner : skipped (m.opened ++ (m.inside ++ after)) ≡ m.inside ++ after = pair_skipped m.opened point m.inside after m.blank.1 m.means in
    bind_is (open_at Empty (skipped (blanks ++ (t ++ rest)))) (tt, m.inside ++ after) _
    (ap (λ (u : List ℕ). open_at Empty (skipped u)) (single_text blanks point t rest m)
    ∙ open_again Empty (blanks ++ m.before) (m.opened ++ (m.inside ++ after)) (blanks_join blanks m.before h m.blank.0) (subst NotShut (sym inner) (begins_open (m.inside ++ after) (pair_begins point m.inside after m.means)))
    ∙ ap (λ (u : List ℕ). Ok (tt, u)) inner)
    ∙ bind_is (point_at (m.inside ++ after)) (point, after) _ (point_again point m.inside after m.means (ends_behind m.closed 41 rest m.blank.2 (refl, refl, refl)))
    ∙ bind_is (close_at after) (tt, rest) _ (close_again m.closed rest m.blank.2)

single_skipped : (blanks : List ℕ) (point : p.Point) (t rest : List ℕ) → AreBlanks blanks → (m : IsSingle IsPair point t) → skipped (blanks ++ (t ++ rest)) ≡ 40 ∷ (m.opened ++ (m.inside ++ (m.closed ++ 41 ∷ rest)))
single_skipped blanks point t rest h m = ap skipped (single_text blanks point t rest m) ∙ skipped_to (blanks ++ m.before) 40 (m.opened ++ (m.inside ++ (m.closed ++ 41 ∷ rest))) (blanks_join blanks m.before h m.blank.0) refl

single_complete : IsComplete p.Point (IsSingle IsPair) single_at
single_complete = record {
  begins = λ blanks point t rest h m. subst NotShut (sym (single_skipped blanks point t rest h m)) refl;
  again = λ blanks point t rest h m k. single_again blanks point t rest h m;
}

-- a text that begins with no parenthesis is read as a bare point
bare : (bs : List ℕ) → Begins bs → marked_at bs ≡ point_at bs
bare [] h = absurd h
bare (b ∷ bs) h = if_false (b == 40) _ _ h.1

marked_begins : (blanks : List ℕ) (point : p.Point) (t rest : List ℕ) → AreBlanks blanks → IsMarked point t → NotShut (skipped (blanks ++ (t ++ rest)))
marked_begins blanks point t rest h (inl m) = pair_complete.begins blanks point t rest h m
marked_begins blanks point t rest h (inr m) = single_complete.begins blanks point t rest h m

marked_again : (blanks : List ℕ) (point : p.Point) (t rest : List ℕ) → AreBlanks blanks → IsMarked point t → Ends rest → marked_at (skipped (blanks ++ (t ++ rest))) ≡ Ok (point, rest)
marked_again blanks point t rest h (inl m) k =
    ap marked_at (pair_skipped blanks point t rest h m) ∙ bare (t ++ rest) (pair_begins point t rest m) ∙ point_again point t rest m k
marked_again blanks point t rest h (inr m) k =
    ap marked_at (single_skipped blanks point t rest h m) ∙ ap single_at (sym (single_skipped blanks point t rest h m)) ∙ single_again blanks point t rest h m

marked_complete : IsComplete p.Point IsMarked marked_at
marked_complete = record { begins = marked_begins; again = marked_again }

-- ---- lines

ruled_again : (is_ring : Bool) (ps : List p.Point) (left : List ℕ) → keeps is_ring ps ≡ true → ruled is_ring ps left ≡ Ok (ps, left)
ruled_again true ps left h =
    let both = and_parts (nat_le 4 (length ps)) (is_closed ps) h in
    if_false (nat_lt (length ps) 4) _ _ (four (length ps) both.0) ∙ if_false (not (is_closed ps)) _ _ (ap not both.1)
  where
    four : (n : ℕ) → nat_le 4 n ≡ true → nat_lt n 4 ≡ false
    four n h = grind (arith, nat_tests)
ruled_again false ps left h = if_false (nat_lt (length ps) 2) _ _ (two (length ps) h)
  where
    two : (n : ℕ) → nat_le 2 n ≡ true → nat_lt n 2 ≡ false
    two n h = grind (arith, nat_tests)

line_again : (is_ring : Bool) (blanks : List ℕ) (ps : List p.Point) (t rest : List ℕ) → AreBlanks blanks → IsLine is_ring ps t → line_at is_ring (skipped (blanks ++ (t ++ rest))) ≡ Ok (ps, rest)
unfolding line_at
line_again is_ring blanks ps t rest h m =
    bind_is (list_at TooFew point_at (skipped (blanks ++ (t ++ rest)))) (ps, rest) _ (list_again IsPair point_at pair_complete TooFew blanks ps t rest h m.0)
    ∙ ruled_again is_ring ps rest m.1

line_complete : (is_ring : Bool) → IsComplete (List p.Point) (IsLine is_ring) (line_at is_ring)
line_complete is_ring = record {
  begins = λ blanks ps t rest h m. list_begins IsPair point_at pair_complete blanks ps t rest h m.0;
  again = λ blanks ps t rest h m k. line_again is_ring blanks ps t rest h m;
}

lines_complete : (are_rings : Bool) → IsComplete (List (List p.Point)) (AreLines are_rings) (lines_at are_rings)
lines_complete are_rings = list_complete (IsLine are_rings) (line_at are_rings) (line_complete are_rings) Empty

-- ---- words

pub upper_again : (b : ℕ) → upper (upper b) ≡ upper b
upper_again b = at (nat_le 97 b && nat_le b 122) refl
  where
    small : (nat_le 97 b && nat_le b 122) ≡ true → upper (b - 32) ≡ b - 32
    small h =
        let both = and_parts (nat_le 97 b) (nat_le b 122) h in
        let low : nat_le 97 (b - 32) ≡ false = grind (arith, nat_tests) in
        if_false (nat_le 97 (b - 32) && nat_le (b - 32) 122) _ _ (ap (λ t. t && nat_le (b - 32) 122) low)

    at : (t : Bool) → (nat_le 97 b && nat_le b 122) ≡ t → upper (cond t (b - 32) b) ≡ cond t (b - 32) b
    at true h = small h
    at false h = if_false (nat_le 97 b && nat_le b 122) _ _ h

-- a text and the same in upper case have the same in common with a word
common-upper : (w front left : List ℕ) → common w (map upper front ++ left) ≡ common w (front ++ left)
common-upper [] front left = refl
common-upper (w ∷ ws) [] left = refl
common-upper (w ∷ ws) (b ∷ front) left = ap (λ n. cond (n == w) (suc (common ws (map upper front ++ left))) 0) (upper_again b) ∙ ap (λ n. cond (upper b == w) (suc n) 0) (common-upper ws front left)

-- where two texts have the same in common with each word, one word is read from both
word_same : (ks : List Kind) (most : ℕ) (as' bs : List ℕ) (k : Kind) (rest : List ℕ) → ((w : List ℕ) → common w as' ≡ common w bs) → word_in ks most as' ≡ Ok (k, rest) → word_in ks most bs ≡ Ok (k, drop (length (word k)) bs)
word_same [] most as' bs k rest h e = none (drop most as') e
  where
    none : (left : List ℕ) → unknown_at left ≡ Ok (k, rest) → word_in [] most bs ≡ Ok (k, drop (length (word k)) bs)
    none [] e = absurd cc
    none (b ∷ left) e = absurd cc
word_same (l ∷ ks) most as' bs k rest h e =
    elim (chosen (common (word l) as' == length (word l)) _ _ _ e) [
      | inl c ↦ let q = ok_parts l k (drop (common (word l) as') as') rest c.1 in
          let long : common (word l) bs ≡ length (word l) = sym (h (word l)) ∙ is_it (common (word l) as') (length (word l)) c.0 in
          if_true (common (word l) bs == length (word l)) _ _ (ap (λ n. n == length (word l)) (sym (h (word l))) ∙ c.0)
          ∙ ap (λ (n : ℕ). Ok (l, drop n bs)) long ∙ ap (λ (j : Kind). Ok (j, drop (length (word j)) bs)) q.0
      | inr c ↦
          if_false (common (word l) bs == length (word l)) _ _ (ap (λ n. n == length (word l)) (sym (h (word l))) ∙ c.0)
          ∙ ap (λ (n : ℕ). word_in ks (max most n) bs) (sym (h (word l)))
          ∙ word_same ks (max most (common (word l) as')) as' bs k rest h c.1
    ]

-- no word begins another
word_itself : (k : Kind) (left : List ℕ) → word_in kinds 0 (word k ++ left) ≡ Ok (k, left)
unfolding word kinds
word_itself kind.Point left = refl
word_itself kind.LineString left = refl
word_itself kind.Polygon left = refl
word_itself kind.MultiPoint left = refl
word_itself kind.MultiLineString left = refl
word_itself kind.MultiPolygon left = refl
word_itself kind.Collection left = refl

pub word_again : (k : Kind) (front left : List ℕ) → map upper front ≡ word k → word_in kinds 0 (front ++ left) ≡ Ok (k, left)
word_again k front left e =
    let same : (w : List ℕ) → common w (word k ++ left) ≡ common w (front ++ left) = λ w. ap (λ (u : List ℕ). common w (u ++ left)) (sym e) ∙ common-upper w front left in
    let len : length front ≡ length (word k) = sym (length-map front upper) ∙ ap length e in
    word_same kinds 0 (word k ++ left) (front ++ left) k left same (word_itself k left)
    ∙ ap (λ (n : ℕ). Ok (k, drop n (front ++ left))) (sym len) ∙ ap (λ (u : List ℕ). Ok (k, u)) (drop_at front left (length front) refl)

-- a word begins with a letter
letter : (b : ℕ) → 65 ≤ upper b → (is_blank b ≡ false) × ((b == 41) ≡ false)
letter b h = (blank (b == 32) (b == 9) refl refl, paren (b == 41) refl)
  where
    blank : (s t : Bool) → (b == 32) ≡ s → (b == 9) ≡ t → (s || t) ≡ false
    blank true t e f = let is : b ≡ 32 = is_it b 32 e in absurd (let no : 65 ≤ upper 32 = subst (λ (c : ℕ). 65 ≤ upper c) is h in omega arith)
    blank false true e f = let is : b ≡ 9 = is_it b 9 f in absurd (let no : 65 ≤ upper 9 = subst (λ (c : ℕ). 65 ≤ upper c) is h in omega arith)
    blank false false e f = refl

    paren : (s : Bool) → (b == 41) ≡ s → s ≡ false
    paren true e = let is : b ≡ 41 = is_it b 41 e in absurd (let no : 65 ≤ upper 41 = subst (λ (c : ℕ). 65 ≤ upper c) is h in omega arith)
    paren false e = refl

abbrev Letter : List ℕ → Type 0
Letter [] = ⊥
Letter (b ∷ bs) = 65 ≤ b

word_letter : (k : Kind) → Letter (word k)
unfolding word
word_letter kind.Point = omega arith
word_letter kind.LineString = omega arith
word_letter kind.Polygon = omega arith
word_letter kind.MultiPoint = omega arith
word_letter kind.MultiLineString = omega arith
word_letter kind.MultiPolygon = omega arith
word_letter kind.Collection = omega arith

-- what begins with a word begins with no blank and no parenthesis
abbrev Worded : List ℕ → Type 0
Worded [] = ⊥
Worded (b ∷ bs) = (is_blank b ≡ false) × ((b == 41) ≡ false)

front_worded : (k : Kind) (front left : List ℕ) → map upper front ≡ word k → Worded (front ++ left)
front_worded k [] left e = absurd (subst Letter (sym e) (word_letter k))
front_worded k (b ∷ front) left e = letter b (let l : Letter (map upper (b ∷ front)) = subst Letter (sym e) (word_letter k) in l)

worded_skipped : (bs : List ℕ) → Worded bs → skipped bs ≡ bs
worded_skipped [] h = absurd h
worded_skipped (b ∷ bs) h = if_false (is_blank b) _ _ h.0

worded_open : (bs : List ℕ) → Worded bs → NotShut bs
worded_open [] h = tt
worded_open (b ∷ bs) h = h.1

-- ---- the kinds

no_blanks : AreBlanks []
no_blanks = refl

module _ (members : List ℕ → Outcome (List Form)) where
  -- what stands behind a word begins with a blank or a parenthesis, and blanks are skipped there
  abbrev Read : Form → List ℕ → Type 0
  Read f t = (rest : List ℕ) → (Worded (t ++ rest)) × (geometry_at members (t ++ rest) ≡ Ok (f, rest))

  behind : {X : Type 0} (Lang : X → List ℕ → Type 0) (item : List ℕ → Outcome X) (k : Kind) (form : X → Form)
      → ((x : X) (t rest : List ℕ) → Lang x t → item (t ++ rest) ≡ Ok (x, rest))
      → ((bytes : List ℕ) → body_at members k bytes ≡ made form (item bytes))
      → (x : X) (t : List ℕ) → IsWorded (word k) (Lang x) t → Read (form x) t
  unfolding geometry_at
  behind Lang item k form again is x t m rest =
      let whole : t ++ rest ≡ m.0 ++ (m.1 ++ rest) = ap (λ (u : List ℕ). u ++ rest) m.2 ∙ append_assoc m.0 m.1 rest in (
        subst Worded (sym whole) (front_worded k m.0 (m.1 ++ rest) m.3),
        bind_is (word_in kinds 0 (t ++ rest)) (k, m.1 ++ rest) _ (ap (word_in kinds 0) whole ∙ word_again k m.0 (m.1 ++ rest) m.3)
            ∙ is (m.1 ++ rest) ∙ ap (made form) (again x m.1 rest m.4),
      )

skip_twice : (bs : List ℕ) → skipped (skipped bs) ≡ skipped bs
skip_twice [] = refl
skip_twice (b ∷ bs) = at (skip_twice bs) (is_blank b) refl
  where
    at : skipped (skipped bs) ≡ skipped bs → (t : Bool) → is_blank b ≡ t → skipped (cond t (skipped bs) (b ∷ bs)) ≡ cond t (skipped bs) (b ∷ bs)
    at r true h = r
    at r false h = if_false (is_blank b) (skipped bs) (b ∷ bs) h

-- a list, a line and a point in parentheses skip the blanks before them
pub list_skips : {X : Type 0} (nothing : WktCause) (item : List ℕ → Outcome X) (bs : List ℕ) → list_at nothing item bs ≡ list_at nothing item (skipped bs)
unfolding list_at
list_skips nothing item bs = ap (λ (u : List ℕ). paren_at nothing u >>= λ opened. items_at item (length opened.1) opened.1) (sym (skip_twice bs))

line_skips : (is_ring : Bool) (bs : List ℕ) → line_at is_ring bs ≡ line_at is_ring (skipped bs)
unfolding line_at
line_skips is_ring bs = ap (λ (r : Outcome (List p.Point)). r >>= λ points. ruled is_ring points.0 points.1) (list_skips TooFew point_at bs)

single_skips : (bs : List ℕ) → single_at bs ≡ single_at (skipped bs)
unfolding single_at
single_skips bs = ap (λ (u : List ℕ). paren_at Empty u >>= λ opened. point_at opened.1 >>= λ point. close_at point.1 >>= λ close. Ok (point.0, close.1)) (sym (skip_twice bs))

abbrev IsRead : {X : Type 0} → (X → List ℕ → Type 0) → (List ℕ → Outcome X) → Type 0
IsRead {X} Lang item = (x : X) (t rest : List ℕ) → Lang x t → item (t ++ rest) ≡ Ok (x, rest)

single_read : IsRead (IsSingle IsPair) single_at
single_read x t rest m = single_skips (t ++ rest) ∙ single_again [] x t rest no_blanks m

line_read : (is_ring : Bool) → IsRead (IsLine is_ring) (line_at is_ring)
line_read is_ring x t rest m = line_skips is_ring (t ++ rest) ∙ line_again is_ring [] x t rest no_blanks m

list_read : {X : Type 0} (Lang : X → List ℕ → Type 0) (item : List ℕ → Outcome X) → IsComplete X Lang item → IsRead (IsList Lang) (list_at Empty item)
list_read Lang item complete x t rest m = list_skips Empty item (t ++ rest) ∙ list_again Lang item complete Empty [] x t rest no_blanks m

module _ (levels : ℕ) (members : List ℕ → Outcome (List Form)) (below : IsRead (IsList (Means levels)) members) where
  level_read : (x : Form-F Form) (t : List ℕ) → IsLevel (Means levels) x t → Read members (roll-Form x) t
  level_read (Form-F.Point x) t m = subst (λ (f : Form). Read members f t) (sym (rolls-Point x)) (behind members (IsSingle IsPair) single_at kind.Point Point single_read (λ bytes. refl) x t m)
  level_read (Form-F.LineString x) t m = subst (λ (f : Form). Read members f t) (sym (rolls-LineString x)) (behind members (IsLine false) (line_at false) kind.LineString LineString (line_read false) (λ bytes. refl) x t m)
  level_read (Form-F.Polygon x) t m = subst (λ (f : Form). Read members f t) (sym (rolls-Polygon x)) (behind members (AreLines true) (lines_at true) kind.Polygon Polygon (list_read (IsLine true) (line_at true) (line_complete true)) (λ bytes. refl) x t m)
  level_read (Form-F.MultiPoint x) t m = subst (λ (f : Form). Read members f t) (sym (rolls-MultiPoint x)) (behind members (IsList IsMarked) (list_at Empty marked_at) kind.MultiPoint MultiPoint (list_read IsMarked marked_at marked_complete) (λ bytes. refl) x t m)
  level_read (Form-F.MultiLineString x) t m = subst (λ (f : Form). Read members f t) (sym (rolls-MultiLineString x)) (behind members (AreLines false) (lines_at false) kind.MultiLineString MultiLineString (list_read (IsLine false) (line_at false) (line_complete false)) (λ bytes. refl) x t m)
  level_read (Form-F.MultiPolygon x) t m = subst (λ (f : Form). Read members f t) (sym (rolls-MultiPolygon x)) (behind members (IsList (AreLines true)) (list_at Empty (lines_at true)) kind.MultiPolygon MultiPolygon (list_read (AreLines true) (lines_at true) (lines_complete true)) (λ bytes. refl) x t m)
  level_read (Form-F.Collection x) t m = subst (λ (f : Form). Read members f t) (sym (rolls-Collection x)) (behind members (IsList (Means levels)) members kind.Collection Collection below (λ bytes. refl) x t m)

  pub form_read : (f : Form) (t : List ℕ) → Means (suc levels) f t → Read members f t
  unfolding Means
  form_read f t m = subst (λ (g : Form). Read members g t) (roll-out-Form f) (level_read (out-Form f) t m)

  form_skipped : (blanks : List ℕ) (f : Form) (t rest : List ℕ) → AreBlanks blanks → Means (suc levels) f t → skipped (blanks ++ (t ++ rest)) ≡ t ++ rest
  form_skipped blanks f t rest h m = skipped_over blanks (t ++ rest) h ∙ worded_skipped (t ++ rest) (form_read f t m rest).0

  pub form_complete : IsComplete Form (Means (suc levels)) (geometry_at members)
  form_complete = record {
    begins = λ blanks f t rest h m. subst NotShut (sym (form_skipped blanks f t rest h m)) (worded_open (t ++ rest) (form_read f t m rest).0);
    again = λ blanks f t rest h m k. ap (geometry_at members) (form_skipped blanks f t rest h m) ∙ (form_read f t m rest).1;
  }

no_members : (ms : List Form) (t : List ℕ) → AreMembers (Means 0) ms t → ⊥
unfolding Means
no_members [] t m = m
no_members (x ∷ []) t m = m.3
no_members (x ∷ y ∷ ms) t m = m.5

none_read : IsRead (IsList (Means 0)) (members_at 0)
none_read ms t rest m = absurd (no_members ms m.inside m.members)

some_read : (depth : ℕ) → IsRead (IsList (Means depth)) (members_at depth) → IsRead (IsList (Means (suc depth))) (members_at (suc depth))
unfolding members_at
some_read depth below = list_read (Means (suc depth)) (geometry_at (members_at depth)) (form_complete depth (members_at depth) below)

pub members_read : (depth : ℕ) → IsRead (IsList (Means depth)) (members_at depth)
members_read zero = none_read
members_read (suc depth) = some_read depth (members_read depth)

-- a text that means a form is read as that form
pub text_again_of : (depth : ℕ) (f : Form) (text : List ℕ) → IsTextOf (suc depth) f text → text_of depth text ≡ Ok (f, [])
text_again_of depth f text m =
    let start : skipped text ≡ m.body ++ m.after = ap skipped m.parts ∙ form_skipped depth (members_at depth) (members_read depth) m.before f m.body m.after m.blank.0 m.means in
    let end : skipped m.after ≡ [] = ap skipped (sym (append-nil m.after)) ∙ skipped_over m.after [] m.blank.1 in
    bind_is (geometry_at (members_at depth) (skipped text)) (f, m.after) _ (ap (geometry_at (members_at depth)) start ∙ (form_read depth (members_at depth) (members_read depth) f m.body m.means m.after).1)
    ∙ ap (rest_at f) end

pub text_again : (f : Form) (text : List ℕ) → IsText f text → text_at text ≡ Ok (f, [])
unfolding text_at
text_again f text m = text_again_of 8 f text m

-- a byte behind a whole text
pub text_behind : (f : Form) (front rest : List ℕ) (b : ℕ) → IsText f front → is_blank b ≡ false → text_at (front ++ b ∷ rest) ≡ Err (record { cause = Trailing; left = length (b ∷ rest) })
unfolding text_at
text_behind f front rest b m h =
    let left : List ℕ = m.after ++ b ∷ rest in
    let whole : front ++ b ∷ rest ≡ m.before ++ (m.body ++ left) = ap (λ (u : List ℕ). u ++ b ∷ rest) m.parts ∙ append_assoc m.before (m.body ++ m.after) (b ∷ rest) ∙ ap (λ (u : List ℕ). m.before ++ u) (append_assoc m.body m.after (b ∷ rest)) in
    let start : skipped (front ++ b ∷ rest) ≡ m.body ++ left = ap skipped whole ∙ form_skipped 8 (members_at 8) (members_read 8) m.before f m.body left m.blank.0 m.means in
    bind_is (geometry_at (members_at 8) (skipped (front ++ b ∷ rest))) (f, left) _ (ap (geometry_at (members_at 8)) start ∙ (form_read 8 (members_at 8) (members_read 8) f m.body m.means left).1)
    ∙ ap (rest_at f) (skipped_to m.after b rest m.blank.1 h)

pub same_form : (f g : Form) (text : List ℕ) → text_at text ≡ Ok (f, []) → IsText g text → f ≡ g
same_form f g text e m = (ok_parts f g [] [] (sym e ∙ text_again g text m)).0

pub no_fault : (fault : Fault) (g : Form) (text : List ℕ) → text_at text ≡ Err fault → IsText g text → ⊥
no_fault fault g text e m = let again = text_again g text m in cc
