-- A byte that breaks a number is a fault of this cause, wherever the number stands, if no fault stands before it.
use Rattle.std.proofs.Common.{◌≡◌, ℕ, ℤ, zero, suc, ◌+◌, ◌-◌, ◌*◌, ◌<◌, ◌≤◌, ◌==◌, ◌&&◌, ◌||◌, nat_le, nat_lt, not, max, Bool, true, false, cond, ◌⊎◌, inl, inr, List, [], ◌∷◌, ◌++◌, length, drop, map, Some, Ok, Err, refl, sym, ap, subst, ◌∙◌, append_assoc, arith, length-append, length-drop}
use Rattle.std.specs.List.{fold, list_all}
use Rattle.std.proofs.lemmas.Bool.{cases_lt, and_parts}
use Rattle.std.proofs.lemmas.Bool.Decides.{nat_tests}
use Rattle.std.proofs.lemmas.List.{map-append, append-nil}
use Rattle.isp_geom.specs.declared.form.Point as p
use Rattle.isp_geom.specs.declared.form.Form.{Form}
use Rattle.isp_geom.specs.declared.form.Form.TheVariants as form
use Rattle.isp_geom.specs.Rules.{is_closed}
use Rattle.isp_wkt.specs.declared.cause.WktCause.{WktCause}
use Rattle.isp_wkt.specs.declared.cause.WktCause.TheVariants.{Truncated, NotWhole, OutOfRange, TooDeep, TooFew, Unclosed, Empty, Trailing, Unknown}
use Rattle.isp_wkt.specs.declared.cause.Fault.{Fault}
use Rattle.isp_wkt.specs.declared.kind.Kind.{Kind}
use Rattle.isp_wkt.specs.declared.kind.Kind.TheVariants as kind
use Rattle.isp_wkt.specs.Words.{word, common, upper}
use Rattle.isp_wkt.specs.Grammar.{IsFraction, IsNumber}
use Rattle.isp_wkt.specs.Faults.{EndsIn, BreaksNumber, PassesLimit}
use Rattle.isp_wkt.specs.Reading.{◌>>=◌, Outcome, fault, is_blank, is_digit, is_e, skipped, limit, digits_at, zeros_at, fraction_at, end_at, first_at, size_at, sign_at, signed, number_at, blank_at, point_at, inside_at, paren_at, open_at, deep_paren_at, comma_at, more_at, shut_at, close_at, member_at, items_at, list_at, ruled, line_at, lines_at, single_at, marked_at, word_in, kinds, made, body_at, deep_at, geometry_at, members_at, rest_at, fault_of, text_at}
use Rattle.isp_wkt.proofs.Sound.{chosen, is_it, word_sound}
use Rattle.isp_wkt.proofs.SoundForms.{text_of}
use Rattle.isp_wkt.proofs.Complete.{if_true, if_false, blank_ends}
use Rattle.isp_wkt.proofs.LocalForms.{front_before, front_behind, unknown_left}
use Rattle.isp_wkt.proofs.Opens.{no_err}
use Rattle.isp_wkt.proofs.Stops.{text_is, faulty}

-- ---- words have no digits

letter_plain : (b : ℕ) → nat_le 65 (upper b) ≡ true → (is_digit b ≡ false) × ((b == 46) ≡ false)
letter_plain b h = (digit (is_digit b) refl, point (b == 46) refl)
  where
    small : (b : ℕ) → is_digit b ≡ true → nat_le 65 (upper b) ≡ true → ⊥
    small b k h =
        let both = and_parts (nat_le 48 b) (nat_le b 57) k in
        let high = both.1 in
        let not_small : nat_le 97 b ≡ false = grind (arith, nat_tests) in
        let same : upper b ≡ b = ap (λ (t : Bool). cond (t && nat_le b 122) (b - 32) b) not_small in
        let le : nat_le 65 b ≡ true = ap (nat_le 65) (sym same) ∙ h in
        let no : true ≡ false = sym le ∙ grind (arith, nat_tests) in
        absurd cc

    digit : (t : Bool) → is_digit b ≡ t → t ≡ false
    digit true k = absurd (small b k h)
    digit false k = refl

    point : (t : Bool) → (b == 46) ≡ t → t ≡ false
    point true k = let no : nat_le 65 (upper 46) ≡ true = ap (λ (a : ℕ). nat_le 65 (upper a)) (sym (is_it b 46 k)) ∙ h in absurd cc
    point false k = refl

letters : (k : Kind) → list_all (λ b. nat_le 65 b) (word k) ≡ true
unfolding word
letters kind.Point = refl
letters kind.LineString = refl
letters kind.Polygon = refl
letters kind.MultiPoint = refl
letters kind.MultiLineString = refl
letters kind.MultiPolygon = refl
letters kind.Collection = refl

-- a fault of a word stands at most so far behind its beginning as any word goes on
word_near : (ks : List Kind) (most n : ℕ) (bytes : List ℕ) (f : Fault) → most ≤ n → ((k : Kind) → common (word k) bytes ≤ n) → word_in ks most bytes ≡ Err f → length bytes ≤ f.left + n
word_near [] most n bytes f le h e = omega (arith, unknown_left (drop most bytes) f e, length-drop most bytes)
word_near (l ∷ ks) most n bytes f le h e =
    elim (chosen (common (word l) bytes == length (word l)) _ _ _ e) [
      | inl k ↦ no_err _ f k.1
      | inr k ↦ word_near ks (max most (common (word l) bytes)) n bytes f (omega (arith, h l)) h k.1
    ]

-- ---- readers

-- going over blanks
abbrev skip_at : List ℕ → Outcome (Unit {0})
skip_at bytes = Ok (tt, skipped bytes)

-- fronts that are followed by a byte that breaks the number at their end
pub record IsHot (Hot : List ℕ → Type 0) : Type 0 where
  pub none : Hot [] → ⊥
  pub next : (d : ℕ) (u : List ℕ) → is_digit d ≡ false → (d == 46) ≡ false → Hot (d ∷ u) → Hot u

module _ (b : ℕ) (rest : List ℕ) (c : WktCause) (Hot : List ℕ → Type 0) where
  abbrev pub T : List ℕ
  T = b ∷ rest

  -- a reader leaves such a front, or has a fault before its end or this one at it
  abbrev pub Hits : {X : Type 0} → Outcome X → Type 0
  Hits (Ok x) = (v : List ℕ) × (x.1 ≡ v ++ T) × Hot v
  Hits (Err f) = (◌≡◌ {A = Fault} (record { cause = c; left = length T }) f) ⊎ (length T < f.left)

  abbrev pub Marks : {X : Type 0} → (List ℕ → Outcome X) → Type 0
  Marks r = (u : List ℕ) → Hot u → Hits (r (u ++ T))

  hits_then : {X Y : Type 0} (o : Outcome X) (k : X × List ℕ → Outcome Y) → Hits o → ((x : X) → Marks (λ bytes. k (x, bytes))) → Hits (o >>= k)
  hits_then (Ok x) k h m = subst (λ (t : List ℕ). Hits (k (x.0, t))) (sym h.1) (m x.0 h.0 h.2)
  hits_then (Err f) k h m = h

  marks_then : {X Y : Type 0} (r : List ℕ → Outcome X) (k : X × List ℕ → Outcome Y) → Marks r → ((x : X) → Marks (λ bytes. k (x, bytes))) → Marks (λ bytes. r bytes >>= k)
  marks_then r k h m u hot = hits_then (r (u ++ T)) k (h u hot) m

  pub choice : {X : Type 0} (t : Bool) (x y : Outcome X) → (t ≡ true → Hits x) → (t ≡ false → Hits y) → Hits (cond t x y)
  choice true x y h k = h refl
  choice false x y h k = k refl

  -- a fault at a byte of the front
  pub early : (cause : WktCause) (d : ℕ) (u : List ℕ) → Hits {X = Unit {0}} (fault cause (d ∷ (u ++ T)))
  early cause d u = inr (omega (arith, length-append u T))

  done : {X : Type 0} (x : X) → Marks (λ bytes. Ok (x, bytes))
  done x u h = (u, refl, h)

  module _ (hot : IsHot Hot) (sizes : Marks size_at) where
    at_byte : {X : Type 0} (r : List ℕ → Outcome X) → ((d : ℕ) (u : List ℕ) → Hot (d ∷ u) → Hits (r (d ∷ (u ++ T)))) → Marks r
    at_byte r h [] k = absurd (hot.none k)
    at_byte r h (d ∷ u) k = h d u k

    -- a byte that is no digit and no point is gone over
    over : (d n : ℕ) (u : List ℕ) → (d == n) ≡ true → is_digit n ≡ false → (n == 46) ≡ false → Hot (d ∷ u) → Hot u
    over d n u e h k m = let is = is_it d n e in hot.next d u (ap is_digit is ∙ h) (ap (λ (a : ℕ). a == 46) is ∙ k) m

    over_blank : (d : ℕ) (u : List ℕ) → is_blank d ≡ true → Hot (d ∷ u) → Hot u
    over_blank d u e m = let ends = blank_ends d e in hot.next d u ends.0 ends.1 m

    skip_marks : Marks skip_at
    skip_marks [] k = absurd (hot.none k)
    skip_marks (d ∷ u) k = at (is_blank d) refl (λ m. skip_marks u m)
      where
        at : (t : Bool) → is_blank d ≡ t → (Hot u → Hits (skip_at (u ++ T))) → Hits {X = Unit {0}} (Ok (tt, cond t (skipped (u ++ T)) (d ∷ (u ++ T))))
        at true e r = r (over_blank d u e k)
        at false e r = (d ∷ u, refl, k)

    -- ---- numbers and points

    sign_marks : Marks sign_at
    sign_marks = at_byte sign_at (λ d u k. choice (d == 45) _ _ (λ e. (u, refl, over d 45 u e refl refl k)) (λ _. choice (d == 43) _ _ (λ e. (u, refl, over d 43 u e refl refl k)) (λ _. (d ∷ u, refl, k))))

    number_marks : Marks number_at
    unfolding number_at
    number_marks = marks_then sign_at _ sign_marks (λ is_negative. marks_then size_at _ sizes (λ size. done (signed is_negative size)))

    blank_marks : Marks blank_at
    blank_marks = at_byte blank_at (λ d u k. choice (is_blank d) _ _ (λ e. skip_marks u (over_blank d u e k)) (λ _. early Unknown d u))

    point_marks : Marks point_at
    unfolding point_at
    point_marks = marks_then number_at _ number_marks (λ x. marks_then blank_at _ blank_marks (λ _. marks_then number_at _ number_marks (λ y. done {X = p.Point} (record { x = x; y = y }))))

    -- ---- parentheses and commas

    inside_marks : (nothing : WktCause) → Marks (inside_at nothing)
    inside_marks nothing = at_byte (inside_at nothing) (λ d u k. choice (d == 41) _ _ (λ _. early nothing d u) (λ _. (d ∷ u, refl, k)))

    within : (nothing : WktCause) → Marks (λ bytes. inside_at nothing (skipped bytes))
    within nothing = marks_then skip_at (λ x. inside_at nothing x.1) skip_marks (λ _. inside_marks nothing)

    paren_marks : (nothing : WktCause) → Marks (paren_at nothing)
    paren_marks nothing = at_byte (paren_at nothing) (λ d u k. choice (d == 40) _ _ (λ e. within nothing u (over d 40 u e refl refl k)) (λ _. choice (is_e d) _ _ (λ _. early Empty d u) (λ _. early Unknown d u)))

    open_marks : (nothing : WktCause) → Marks (open_at nothing)
    open_marks nothing = marks_then skip_at (λ x. paren_at nothing x.1) skip_marks (λ _. paren_marks nothing)

    comma_marks : Marks comma_at
    comma_marks = at_byte comma_at (λ d u k. choice (d == 44) _ _ (λ e. skip_marks u (over d 44 u e refl refl k)) (λ _. choice (d == 41) _ _ (λ e. (u, refl, over d 41 u e refl refl k)) (λ _. early Unknown d u)))

    more_marks : Marks more_at
    more_marks = marks_then skip_at (λ x. comma_at x.1) skip_marks (λ _. comma_marks)

    shut_marks : Marks shut_at
    shut_marks = at_byte shut_at (λ d u k. choice (d == 41) _ _ (λ e. (u, refl, over d 41 u e refl refl k)) (λ _. early Unknown d u))

    close_marks : Marks close_at
    close_marks = marks_then skip_at (λ x. shut_at x.1) skip_marks (λ _. shut_marks)

    single_marks : Marks single_at
    unfolding single_at
    single_marks = marks_then (open_at Empty) _ (open_marks Empty) (λ _. marks_then point_at _ point_marks (λ point. marks_then close_at _ close_marks (λ _. done point)))

    marked_marks : Marks marked_at
    marked_marks = at_byte marked_at (λ d u k. choice (d == 40) _ _ (λ _. single_marks (d ∷ u) k) (λ _. point_marks (d ∷ u) k))

    -- ---- lists

    member_marks : {X : Type 0} (item : List ℕ → Outcome X) → Marks item → Marks (member_at item)
    member_marks {X} item h = marks_then item _ h (λ x. marks_then more_at _ more_marks (λ g. done {X = X × Bool} (x, g)))

    items_marks : {X : Type 0} (item : List ℕ → Outcome X) → Marks item → (n : ℕ) → Marks (items_at item n)
    items_marks item h zero = at_byte (items_at item zero) (λ d u k. early Truncated d u)
    items_marks {X} item h (suc n) = marks_then (member_at item) _ (member_marks item h) (λ x. by x.1 x (items_marks item h n))
      where
        by : (g : Bool) (x : X × Bool) → Marks (items_at item n) → Marks {X = List X} (λ bytes. cond g (items_at item n bytes >>= λ others. Ok (x.0 ∷ others.0, others.1)) (Ok (x.0 ∷ [], bytes)))
        by true x r = marks_then (items_at item n) _ r (λ others. done (x.0 ∷ others))
        by false x r = done (x.0 ∷ [])

    list_marks : {X : Type 0} (nothing : WktCause) (item : List ℕ → Outcome X) → Marks item → Marks (list_at nothing item)
    unfolding list_at
    list_marks nothing item h = marks_then (open_at nothing) (λ opened. items_at item (length opened.1) opened.1) (open_marks nothing) (λ _ u k. items_marks item h (length (u ++ T)) u k)

    ruled_marks : (is_ring : Bool) (ps : List p.Point) → Marks (ruled is_ring ps)
    ruled_marks is_ring ps u k = choice (nat_lt (length ps) (cond is_ring 4 2)) _ _ (λ _. late TooFew u k) (λ _. choice (is_ring && not (is_closed ps)) _ _ (λ _. late Unclosed u k) (λ _. (u, refl, k)))
      where
        late : (cause : WktCause) (u : List ℕ) → Hot u → Hits {X = Unit {0}} (Err (record { cause = cause; left = length (u ++ T) + 1 }))
        late cause u k = inr (omega (arith, length-append u T))

    line_marks : (is_ring : Bool) → Marks (line_at is_ring)
    unfolding line_at
    line_marks is_ring = marks_then (list_at TooFew point_at) (λ points. ruled is_ring points.0 points.1) (list_marks TooFew point_at point_marks) (λ ps. ruled_marks is_ring ps)

    lines_marks : (are_rings : Bool) → Marks (lines_at are_rings)
    lines_marks are_rings = list_marks Empty (line_at are_rings) (line_marks are_rings)

    -- ---- words

    over_letters : (front v w : List ℕ) → map upper front ≡ w → list_all (λ a. nat_le 65 a) w ≡ true → Hot (front ++ v) → Hot v
    over_letters [] v w e h k = k
    over_letters (d ∷ front) v [] e h k = absurd (omega (arith, ap length e))
    over_letters (d ∷ front) v (l ∷ w) e h k =
        let both = and_parts (nat_le 65 l) (list_all (λ a. nat_le 65 a) w) h in
        let head : upper d ≡ l = cc in
        let tail : map upper front ≡ w = cc in
        let plain = letter_plain d (ap (nat_le 65) head ∙ both.0) in
        over_letters front v w tail both.1 (hot.next d (front ++ v) plain.0 plain.1 k)

    -- the same of a front of a word
    no_letters : (front more w : List ℕ) → map upper front ++ more ≡ w → list_all (λ a. nat_le 65 a) w ≡ true → Hot front → ⊥
    no_letters [] more w e h k = hot.none k
    no_letters (d ∷ front) more [] e h k = absurd (omega (arith, ap length e))
    no_letters (d ∷ front) more (l ∷ w) e h k =
        let both = and_parts (nat_le 65 l) (list_all (λ a. nat_le 65 a) w) h in
        let head : upper d ≡ l = cc in
        let tail : map upper front ++ more ≡ w = cc in
        let plain = letter_plain d (ap (nat_le 65) head ∙ both.0) in
        no_letters front more w tail both.1 (hot.next d front plain.0 plain.1 k)

    common_short : (w u : List ℕ) → list_all (λ a. nat_le 65 a) w ≡ true → Hot u → common w (u ++ T) < length u
    common_short w [] h k = absurd (hot.none k)
    common_short [] (d ∷ u) h k = omega arith
    common_short (l ∷ w) (d ∷ u) h k =
        let both = and_parts (nat_le 65 l) (list_all (λ a. nat_le 65 a) w) h in
        at (upper d == l) refl (λ e. let plain = letter_plain d (ap (nat_le 65) (is_it (upper d) l e) ∙ both.0) in common_short w u both.1 (hot.next d u plain.0 plain.1 k))
      where
        at : (t : Bool) → (upper d == l) ≡ t → ((upper d == l) ≡ true → common w (u ++ T) < length u) → cond t (suc (common w (u ++ T))) 0 < length (d ∷ u)
        at true e r = omega (arith, r e)
        at false e r = omega arith

    some_bytes : (u : List ℕ) → Hot u → 0 < length u
    some_bytes [] k = absurd (hot.none k)
    some_bytes (d ∷ u) k = omega arith

    word_hits : (u : List ℕ) (o : Outcome Kind) → Hot u → word_in kinds 0 (u ++ T) ≡ o → Hits o
    word_hits u (Ok x) k e =
        let w = word_sound kinds 0 (u ++ T) x.0 x.1 e in
        elim (cases_lt (length rest) (length x.1)) [
          | inl lt ↦ let s = front_before b u w.0 rest x.1 w.1 (omega arith) in (s.0, s.2, over_letters w.0 s.0 (word x.0) w.2 (letters x.0) (subst Hot s.1 k))
          | inr le ↦ let s = front_behind b u w.0 rest x.1 w.1 le in
              absurd (no_letters u (map upper (b ∷ s.0)) (word x.0) (sym (map-append upper u (b ∷ s.0)) ∙ ap (map upper) (sym s.1) ∙ w.2) (letters x.0) k)
        ]
    word_hits u (Err f) k e =
        let some : 0 < length u = some_bytes u k in
        let near : length (u ++ T) ≤ f.left + (length u - 1) = word_near kinds 0 (length u - 1) (u ++ T) f (omega arith) (λ l. omega (arith, common_short (word l) u (letters l) k)) e in
        inr (omega (arith, length-append u T))

    word_marks : Marks (word_in kinds 0)
    word_marks u k = word_hits u (word_in kinds 0 (u ++ T)) k refl

    -- ---- forms

    made_marks : {X : Type 0} (form : X → Form) (r : List ℕ → Outcome X) → Marks r → Marks (λ bytes. made form (r bytes))
    made_marks form r h = marks_then r (λ x. Ok (form x.0, x.1)) h (λ x. done (form x))

    body_marks : (members : List ℕ → Outcome (List Form)) → Marks members → (k : Kind) → Marks (body_at members k)
    body_marks members h kind.Point = made_marks form.Point single_at single_marks
    body_marks members h kind.LineString = made_marks form.LineString (line_at false) (line_marks false)
    body_marks members h kind.Polygon = made_marks form.Polygon (lines_at true) (lines_marks true)
    body_marks members h kind.MultiPoint = made_marks form.MultiPoint (list_at Empty marked_at) (list_marks Empty marked_at marked_marks)
    body_marks members h kind.MultiLineString = made_marks form.MultiLineString (lines_at false) (lines_marks false)
    body_marks members h kind.MultiPolygon = made_marks form.MultiPolygon (list_at Empty (lines_at true)) (list_marks Empty (lines_at true) (lines_marks true))
    body_marks members h kind.Collection = made_marks form.Collection members h

    geometry_marks : (members : List ℕ → Outcome (List Form)) → Marks members → Marks (geometry_at members)
    unfolding geometry_at
    geometry_marks members h = marks_then (word_in kinds 0) (λ k. body_at members k.0 k.1) word_marks (λ k. body_marks members h k)

    deep_paren_marks : Marks deep_paren_at
    deep_paren_marks = at_byte deep_paren_at (λ d u k. choice (d == 40) _ _ (λ _. early TooDeep d u) (λ _. choice (is_e d) _ _ (λ _. early Empty d u) (λ _. early Unknown d u)))

    deep_marks : Marks deep_at
    deep_marks = marks_then skip_at (λ x. deep_paren_at x.1 >>= λ opened. fault TooDeep opened.1) skip_marks (λ _. marks_then deep_paren_at (λ opened. fault TooDeep opened.1) deep_paren_marks (λ _. at_byte {X = List Form} (λ bytes. fault TooDeep bytes) (λ d u k. early TooDeep d u)))

    none_marks : Marks (members_at 0)
    unfolding members_at
    none_marks = deep_marks

    some_marks : (depth : ℕ) → Marks (members_at depth) → Marks (members_at (suc depth))
    unfolding members_at
    some_marks depth h = list_marks Empty (geometry_at (members_at depth)) (geometry_marks (members_at depth) h)

    all_marks : (depth : ℕ) → Marks (members_at depth)
    all_marks zero = none_marks
    all_marks (suc depth) = some_marks depth (all_marks depth)

    text_marks : Marks (text_of 8)
    text_marks = marks_then skip_at (λ x. geometry_at (members_at 8) x.1 >>= λ form. rest_at form.0 (skipped form.1)) skip_marks
        (λ _. marks_then (geometry_at (members_at 8)) (λ form. rest_at form.0 (skipped form.1)) (geometry_marks (members_at 8) (all_marks 8))
        (λ f. marks_then skip_at (λ x. rest_at f x.1) skip_marks (λ _. at_byte (rest_at f) (λ d u k. early Trailing d u))))

    pub marked_cause : (front : List ℕ) (cause : WktCause) → Hot front → fault_of (front ++ T) ≡ Some (cause, length front) → cause ≡ c
    marked_cause front cause k h =
        let f = faulty (front ++ T) cause (length front) (text_at (front ++ T)) refl h in
        let e : text_of 8 (front ++ T) ≡ Err f.0 = sym (text_is (front ++ T)) ∙ f.1 in
        let hits : Hits {X = Form} (Err f.0) = subst (λ (o : Outcome Form). Hits o) e (text_marks front k) in
        sym f.3 ∙ at f.0 hits f.2
      where
        at : (f : Fault) → Hits {X = Form} (Err f) → length (front ++ T) - f.left ≡ length front → f.cause ≡ c
        at f (inl e) is = sym (ap (λ (g : Fault). g.cause) e)
        at f (inr lt) is = absurd (omega (arith, length-append front T, some_bytes front k))

-- ---- numbers that are broken

module _ (b : ℕ) (rest : List ℕ) (c : WktCause) (Hot : List ℕ → Type 0) where
  -- the same where the front within a number may satisfy something else
  abbrev Reaches : {X : Type 0} → (List ℕ → Type 0) → Outcome X → Type 0
  Reaches Soft (Ok x) = (v : List ℕ) × (x.1 ≡ v ++ b ∷ rest) × (Soft v ⊎ Hot v)
  Reaches Soft (Err f) = (◌≡◌ {A = Fault} (record { cause = c; left = length (b ∷ rest) }) f) ⊎ (length (b ∷ rest) < f.left)

  reach_choice : {X : Type 0} (Soft : List ℕ → Type 0) (t : Bool) (x y : Outcome X) → (t ≡ true → Reaches Soft x) → (t ≡ false → Reaches Soft y) → Reaches Soft (cond t x y)
  reach_choice Soft true x y h k = h refl
  reach_choice Soft false x y h k = k refl

  reach_early : (Soft : List ℕ → Type 0) (cause : WktCause) (d : ℕ) (u : List ℕ) → Reaches {X = Unit {0}} Soft (fault cause (d ∷ (u ++ b ∷ rest)))
  reach_early Soft cause d u = inr (omega (arith, length-append u (b ∷ rest)))

  reach_then : {X Y : Type 0} (Soft : List ℕ → Type 0) (o : Outcome X) (k : X × List ℕ → Outcome Y) → Reaches Soft o → ((x : X) (v : List ℕ) → Soft v ⊎ Hot v → Hits b rest c Hot (k (x, v ++ b ∷ rest))) → Hits b rest c Hot (o >>= k)
  reach_then Soft (Ok x) k h m = subst (λ (t : List ℕ). Hits b rest c Hot (k (x.0, t))) (sym h.1) (m x.0 h.0 h.2)
  reach_then Soft (Err f) k h m = h

  -- a number is marked where its digits, its fraction and its end are
  size_of : (Digits Fraction : List ℕ → Type 0)
      → ((u : List ℕ) → Hot u → Hits b rest c Hot (first_at (u ++ b ∷ rest)))
      → ((u : List ℕ) → Hot u → Reaches Digits (digits_at 0 (u ++ b ∷ rest)))
      → ((u : List ℕ) → Digits u ⊎ Hot u → Reaches Fraction (fraction_at (u ++ b ∷ rest)))
      → ((u : List ℕ) → Fraction u ⊎ Hot u → Hits b rest c Hot (end_at (u ++ b ∷ rest)))
      → (u : List ℕ) → Hot u → Hits b rest c Hot (size_at (u ++ b ∷ rest))
  unfolding size_at
  size_of Digits Fraction first digits fraction end u k =
      hits_then b rest c Hot (first_at (u ++ b ∷ rest)) _ (first u k) (λ _ v k. reach_then Digits (digits_at 0 (v ++ b ∷ rest)) _ (digits v k)
      (λ size v k. reach_then Fraction (fraction_at (v ++ b ∷ rest)) _ (fraction v k) (λ _ v k. hits_then b rest c Hot (end_at (v ++ b ∷ rest)) _ (end v k) (λ _ v k. (v, refl, k)))))

-- ---- E behind a number

-- a digit or a point at the end
abbrev pub EndsNumeric : List ℕ → Type 0
EndsNumeric [] = ⊥
EndsNumeric (d ∷ []) = (is_digit d || (d == 46)) ≡ true
EndsNumeric (d ∷ e ∷ u) = EndsNumeric (e ∷ u)

numeric_hot : IsHot EndsNumeric
numeric_hot = record { none = λ k. k; next = next }
  where
    next : (d : ℕ) (u : List ℕ) → is_digit d ≡ false → (d == 46) ≡ false → EndsNumeric (d ∷ u) → EndsNumeric u
    next d [] h k m = let no : (is_digit d || (d == 46)) ≡ false = ap (λ t. t || (d == 46)) h ∙ k in absurd cc
    next d (e ∷ u) h k m = m

numeric_tail : (d : ℕ) (u : List ℕ) → EndsNumeric (d ∷ u) → (u ≡ []) ⊎ EndsNumeric u
numeric_tail d [] k = inl refl
numeric_tail d (e ∷ u) k = inr k

module _ (b : ℕ) (rest : List ℕ) (is : is_e b ≡ true) (ends : (is_digit b ≡ false) × ((b == 46) ≡ false) × ((b == 48) ≡ false)) where
  abbrev AtEnd : List ℕ → Type 0
  AtEnd u = u ≡ []

  exponent_first : (u : List ℕ) → EndsNumeric u → Hits b rest NotWhole EndsNumeric (first_at (u ++ b ∷ rest))
  exponent_first [] k = absurd k
  exponent_first (d ∷ u) k = choice b rest NotWhole EndsNumeric (is_digit d) _ _ (λ _. (d ∷ u, refl, k)) (λ _. early b rest NotWhole EndsNumeric Unknown d u)

  exponent_digits : (size : ℕ) (u : List ℕ) → AtEnd u ⊎ EndsNumeric u → Reaches b rest NotWhole EndsNumeric AtEnd (digits_at size (u ++ b ∷ rest))
  exponent_digits size [] k = subst (Reaches b rest NotWhole EndsNumeric AtEnd) (sym (if_false (is_digit b) _ _ ends.0)) ([], refl, inl refl)
  exponent_digits size (d ∷ u) (inl e) = absurd (omega (arith, ap length e))
  exponent_digits size (d ∷ u) (inr k) =
      reach_choice b rest NotWhole EndsNumeric AtEnd (is_digit d) _ _
      (λ _. reach_choice b rest NotWhole EndsNumeric AtEnd (nat_le (size * 10 + (d - 48)) limit) _ _ (λ _. exponent_digits (size * 10 + (d - 48)) u (numeric_tail d u k)) (λ _. reach_early b rest NotWhole EndsNumeric AtEnd OutOfRange d u))
      (λ _. (d ∷ u, refl, inr k))

  exponent_zeros : (u : List ℕ) → AtEnd u ⊎ EndsNumeric u → Reaches b rest NotWhole EndsNumeric AtEnd (zeros_at (u ++ b ∷ rest))
  exponent_zeros [] k = subst (Reaches b rest NotWhole EndsNumeric AtEnd) (sym (if_false (b == 48) _ _ ends.2 ∙ if_false (is_digit b) _ _ ends.0)) ([], refl, inl refl)
  exponent_zeros (d ∷ u) (inl e) = absurd (omega (arith, ap length e))
  exponent_zeros (d ∷ u) (inr k) =
      reach_choice b rest NotWhole EndsNumeric AtEnd (d == 48) _ _
      (λ _. exponent_zeros u (numeric_tail d u k))
      (λ _. reach_choice b rest NotWhole EndsNumeric AtEnd (is_digit d) _ _ (λ _. reach_early b rest NotWhole EndsNumeric AtEnd NotWhole d u) (λ _. (d ∷ u, refl, inr k)))

  exponent_fraction : (u : List ℕ) → AtEnd u ⊎ EndsNumeric u → Reaches b rest NotWhole EndsNumeric AtEnd (fraction_at (u ++ b ∷ rest))
  exponent_fraction [] k = subst (Reaches b rest NotWhole EndsNumeric AtEnd) (sym (if_false (b == 46) _ _ ends.1)) ([], refl, inl refl)
  exponent_fraction (d ∷ u) (inl e) = absurd (omega (arith, ap length e))
  exponent_fraction (d ∷ u) (inr k) = reach_choice b rest NotWhole EndsNumeric AtEnd (d == 46) _ _ (λ _. exponent_zeros u (numeric_tail d u k)) (λ _. (d ∷ u, refl, inr k))

  exponent_end : (u : List ℕ) → AtEnd u ⊎ EndsNumeric u → Hits b rest NotWhole EndsNumeric (end_at (u ++ b ∷ rest))
  exponent_end [] k = subst (Hits b rest NotWhole EndsNumeric) (sym (if_true (is_e b) _ _ is)) (inl refl)
  exponent_end (d ∷ u) (inl e) = absurd (omega (arith, ap length e))
  exponent_end (d ∷ u) (inr k) = choice b rest NotWhole EndsNumeric (is_e d) _ _ (λ _. early b rest NotWhole EndsNumeric NotWhole d u) (λ _. (d ∷ u, refl, k))

  exponent_sizes : (u : List ℕ) → EndsNumeric u → Hits b rest NotWhole EndsNumeric (size_at (u ++ b ∷ rest))
  exponent_sizes = size_of b rest NotWhole EndsNumeric AtEnd AtEnd exponent_first (λ u k. exponent_digits 0 u (inr k)) exponent_fraction exponent_end

  pub exponent_cause : (front : List ℕ) (cause : WktCause) → EndsNumeric front → fault_of (front ++ b ∷ rest) ≡ Some (cause, length front) → cause ≡ NotWhole
  exponent_cause = marked_cause b rest NotWhole EndsNumeric numeric_hot exponent_sizes

-- ---- a digit in a fraction

abbrev AreZeros : List ℕ → Type 0
AreZeros u = list_all (λ z. z == 48) u ≡ true

-- a point and zeros at the end
abbrev pub EndsZeros : List ℕ → Type 0
EndsZeros u = (start : List ℕ) × (zeros : List ℕ) × (u ≡ start ++ 46 ∷ zeros) × AreZeros zeros

zeros_next : (d : ℕ) (u : List ℕ) → (d == 46) ≡ false → EndsZeros (d ∷ u) → EndsZeros u
zeros_next d u h k = at k.0 k.2
  where
    at : (start : List ℕ) → d ∷ u ≡ start ++ 46 ∷ k.1 → EndsZeros u
    at [] e = let is : d ≡ 46 = cc in absurd (let no : (46 == 46) ≡ false = ap (λ (a : ℕ). a == 46) (sym is) ∙ h in cc)
    at (s ∷ start) e = let tail : u ≡ start ++ 46 ∷ k.1 = cc in (start, k.1, tail, k.3)

zeros_none : EndsZeros [] → ⊥
zeros_none k = omega (arith, ap length k.2, length-append k.0 (46 ∷ k.1))

zeros_hot : IsHot EndsZeros
zeros_hot = record { none = zeros_none; next = λ d u h k m. zeros_next d u k m }

-- behind a point
zeros_point : (u : List ℕ) → EndsZeros (46 ∷ u) → AreZeros u ⊎ EndsZeros u
zeros_point u k = at k.0 k.2
  where
    at : (start : List ℕ) → 46 ∷ u ≡ start ++ 46 ∷ k.1 → AreZeros u ⊎ EndsZeros u
    at [] e = let tail : u ≡ k.1 = cc in inl (subst AreZeros (sym tail) k.3)
    at (s ∷ start) e = let tail : u ≡ start ++ 46 ∷ k.1 = cc in inr (start, k.1, tail, k.3)

other : (d n : ℕ) → (d == n) ≡ true → (n == 46) ≡ false → (d == 46) ≡ false
other d n e h = ap (λ (a : ℕ). a == 46) (is_it d n e) ∙ h

digit_other : (d : ℕ) → is_digit d ≡ true → (d == 46) ≡ false
digit_other d h = at (d == 46) refl
  where
    at : (t : Bool) → (d == 46) ≡ t → t ≡ false
    at true e = let no : is_digit 46 ≡ true = ap is_digit (sym (is_it d 46 e)) ∙ h in absurd cc
    at false e = refl

module _ (b : ℕ) (rest : List ℕ) (is : is_digit b ≡ true) (ends : (b == 48) ≡ false) where
  abbrev Nowhere : List ℕ → Type 0
  Nowhere u = ⊥

  fraction_first : (u : List ℕ) → EndsZeros u → Hits b rest NotWhole EndsZeros (first_at (u ++ b ∷ rest))
  fraction_first [] k = absurd (zeros_none k)
  fraction_first (d ∷ u) k = choice b rest NotWhole EndsZeros (is_digit d) _ _ (λ _. (d ∷ u, refl, k)) (λ _. early b rest NotWhole EndsZeros Unknown d u)

  fraction_digits : (size : ℕ) (u : List ℕ) → EndsZeros u → Reaches b rest NotWhole EndsZeros Nowhere (digits_at size (u ++ b ∷ rest))
  fraction_digits size [] k = absurd (zeros_none k)
  fraction_digits size (d ∷ u) k =
      reach_choice b rest NotWhole EndsZeros Nowhere (is_digit d) _ _
      (λ e. reach_choice b rest NotWhole EndsZeros Nowhere (nat_le (size * 10 + (d - 48)) limit) _ _ (λ _. fraction_digits (size * 10 + (d - 48)) u (zeros_next d u (digit_other d e) k)) (λ _. reach_early b rest NotWhole EndsZeros Nowhere OutOfRange d u))
      (λ _. (d ∷ u, refl, inr k))

  fraction_zeros : (u : List ℕ) → AreZeros u ⊎ EndsZeros u → Reaches b rest NotWhole EndsZeros Nowhere (zeros_at (u ++ b ∷ rest))
  fraction_zeros [] k = subst (Reaches b rest NotWhole EndsZeros Nowhere) (sym (if_false (b == 48) _ _ ends ∙ if_true (is_digit b) _ _ is)) (inl refl)
  fraction_zeros (d ∷ u) (inl k) =
      let both = and_parts (d == 48) (list_all (λ z. z == 48) u) k in
      subst (Reaches b rest NotWhole EndsZeros Nowhere) (sym (if_true (d == 48) _ _ both.0)) (fraction_zeros u (inl both.1))
  fraction_zeros (d ∷ u) (inr k) =
      reach_choice b rest NotWhole EndsZeros Nowhere (d == 48) _ _
      (λ e. fraction_zeros u (inr (zeros_next d u (other d 48 e refl) k)))
      (λ _. reach_choice b rest NotWhole EndsZeros Nowhere (is_digit d) _ _ (λ _. reach_early b rest NotWhole EndsZeros Nowhere NotWhole d u) (λ _. (d ∷ u, refl, inr k)))

  fraction_fraction : (u : List ℕ) → Nowhere u ⊎ EndsZeros u → Reaches b rest NotWhole EndsZeros Nowhere (fraction_at (u ++ b ∷ rest))
  fraction_fraction u (inl k) = absurd k
  fraction_fraction [] (inr k) = absurd (zeros_none k)
  fraction_fraction (d ∷ u) (inr k) = reach_choice b rest NotWhole EndsZeros Nowhere (d == 46) _ _ (λ e. fraction_zeros u (zeros_point u (subst (λ (a : ℕ). EndsZeros (a ∷ u)) (is_it d 46 e) k))) (λ _. (d ∷ u, refl, inr k))

  fraction_end : (u : List ℕ) → Nowhere u ⊎ EndsZeros u → Hits b rest NotWhole EndsZeros (end_at (u ++ b ∷ rest))
  fraction_end u (inl k) = absurd k
  fraction_end [] (inr k) = absurd (zeros_none k)
  fraction_end (d ∷ u) (inr k) = choice b rest NotWhole EndsZeros (is_e d) _ _ (λ _. early b rest NotWhole EndsZeros NotWhole d u) (λ _. (d ∷ u, refl, k))

  fraction_sizes : (u : List ℕ) → EndsZeros u → Hits b rest NotWhole EndsZeros (size_at (u ++ b ∷ rest))
  fraction_sizes = size_of b rest NotWhole EndsZeros Nowhere Nowhere fraction_first (λ u k. fraction_digits 0 u k) fraction_fraction fraction_end

  pub fraction_cause : (front : List ℕ) (cause : WktCause) → EndsZeros front → fault_of (front ++ b ∷ rest) ≡ Some (cause, length front) → cause ≡ NotWhole
  fraction_cause = marked_cause b rest NotWhole EndsZeros zeros_hot fraction_sizes

-- ---- a digit past the limit

-- digits behind a greater value have a greater value
grows : (m n : ℕ) (ds : List ℕ) → m ≤ n → fold (λ n a. n * 10 + (a - 48)) m ds ≤ fold (λ n a. n * 10 + (a - 48)) n ds
grows m n [] h = h
grows m n (d ∷ ds) h = grows (m * 10 + (d - 48)) (n * 10 + (d - 48)) ds (omega arith)

module _ (b : ℕ) (rest : List ℕ) (is : is_digit b ≡ true) where
  -- digits behind others of this value, with which the byte passes the limit
  abbrev PassesFrom : ℕ → List ℕ → Type 0
  PassesFrom size ds = (list_all is_digit ds ≡ true) × (limit < fold (λ n a. n * 10 + (a - 48)) size ds * 10 + (b - 48))

  abbrev pub EndsGreat : List ℕ → Type 0
  EndsGreat u = (start : List ℕ) × (ds : List ℕ) × (u ≡ start ++ ds) × PassesFrom 0 ds

  small_byte : b - 48 ≤ 9
  small_byte =
      let both = and_parts (nat_le 48 b) (nat_le b 57) is in
      let high : b ≤ 57 = le_of b both.1 in
      omega arith
    where
      le_of : (b : ℕ) → nat_le b 57 ≡ true → b ≤ 57
      le_of b h = grind (arith, nat_tests)

  none_passes : PassesFrom 0 [] → ⊥
  none_passes k = omega (arith, small_byte, k.1)

  great_none : EndsGreat [] → ⊥
  great_none k = at k.0 k.1 k.2 k.3
    where
      at : (start ds : List ℕ) → [] ≡ start ++ ds → PassesFrom 0 ds → ⊥
      at [] [] e m = none_passes m
      at [] (d ∷ ds) e m = absurd (omega (arith, ap length e))
      at (s ∷ start) ds e m = absurd (omega (arith, ap length e))

  -- the digits begin here or later
  great_step : (d : ℕ) (u : List ℕ) → EndsGreat (d ∷ u) → PassesFrom 0 (d ∷ u) ⊎ EndsGreat u
  great_step d u k = at k.0 k.2
    where
      at : (start : List ℕ) → d ∷ u ≡ start ++ k.1 → PassesFrom 0 (d ∷ u) ⊎ EndsGreat u
      at [] e = inl (subst (PassesFrom 0) (sym e) k.3)
      at (s ∷ start) e = let tail : u ≡ start ++ k.1 = cc in inr (start, k.1, tail, k.3)

  great_next : (d : ℕ) (u : List ℕ) → is_digit d ≡ false → EndsGreat (d ∷ u) → EndsGreat u
  great_next d u h k = at (great_step d u k)
    where
      at : PassesFrom 0 (d ∷ u) ⊎ EndsGreat u → EndsGreat u
      at (inl m) = let digit = (and_parts (is_digit d) (list_all is_digit u) m.0).0 in absurd cc
      at (inr m) = m

  great_hot : IsHot EndsGreat
  great_hot = record { none = great_none; next = λ d u h k m. great_next d u h m }

  great_first : (u : List ℕ) → EndsGreat u → Hits b rest OutOfRange EndsGreat (first_at (u ++ b ∷ rest))
  great_first [] k = absurd (great_none k)
  great_first (d ∷ u) k = choice b rest OutOfRange EndsGreat (is_digit d) _ _ (λ _. (d ∷ u, refl, k)) (λ _. early b rest OutOfRange EndsGreat Unknown d u)

  abbrev None : List ℕ → Type 0
  None u = ⊥

  great_digits : (size : ℕ) (u : List ℕ) → PassesFrom size u ⊎ EndsGreat u → Reaches b rest OutOfRange EndsGreat None (digits_at size (u ++ b ∷ rest))
  great_digits size [] (inl k) =
      let large : nat_le (size * 10 + (b - 48)) limit ≡ false = past (size * 10 + (b - 48)) k.1 in
      subst (Reaches b rest OutOfRange EndsGreat None) (sym (if_true (is_digit b) _ _ is ∙ if_false (nat_le (size * 10 + (b - 48)) limit) _ _ large)) (inl refl)
    where
      past : (m : ℕ) → limit < m → nat_le m limit ≡ false
      past m h = grind (arith, nat_tests)
  great_digits size [] (inr k) = absurd (great_none k)
  great_digits size (d ∷ u) k =
      reach_choice b rest OutOfRange EndsGreat None (is_digit d) _ _
      (λ _. reach_choice b rest OutOfRange EndsGreat None (nat_le (size * 10 + (d - 48)) limit) _ _ (λ _. great_digits (size * 10 + (d - 48)) u (on k)) (λ _. reach_early b rest OutOfRange EndsGreat None OutOfRange d u))
      (λ e. (d ∷ u, refl, inr (stays e k)))
    where
      step : PassesFrom 0 (d ∷ u) ⊎ EndsGreat u → PassesFrom (size * 10 + (d - 48)) u ⊎ EndsGreat u
      step (inl m) = inl ((and_parts (is_digit d) (list_all is_digit u) m.0).1, omega (arith, m.1, grows (0 * 10 + (d - 48)) (size * 10 + (d - 48)) u (omega arith)))
      step (inr m) = inr m

      on : PassesFrom size (d ∷ u) ⊎ EndsGreat (d ∷ u) → PassesFrom (size * 10 + (d - 48)) u ⊎ EndsGreat u
      on (inl m) = inl ((and_parts (is_digit d) (list_all is_digit u) m.0).1, m.1)
      on (inr m) = step (great_step d u m)

      stays : is_digit d ≡ false → PassesFrom size (d ∷ u) ⊎ EndsGreat (d ∷ u) → EndsGreat (d ∷ u)
      stays e (inl m) = let digit = (and_parts (is_digit d) (list_all is_digit u) m.0).0 in absurd cc
      stays e (inr m) = m

  great_zeros : (u : List ℕ) → EndsGreat u → Reaches b rest OutOfRange EndsGreat None (zeros_at (u ++ b ∷ rest))
  great_zeros [] k = absurd (great_none k)
  great_zeros (d ∷ u) k =
      reach_choice b rest OutOfRange EndsGreat None (d == 48) _ _
      (λ e. great_zeros u (behind_zero e (great_step d u k)))
      (λ _. reach_choice b rest OutOfRange EndsGreat None (is_digit d) _ _ (λ _. reach_early b rest OutOfRange EndsGreat None NotWhole d u) (λ _. (d ∷ u, refl, inr k)))
    where
      behind_zero : (d == 48) ≡ true → PassesFrom 0 (d ∷ u) ⊎ EndsGreat u → EndsGreat u
      behind_zero e (inl m) =
          let same : PassesFrom 0 (48 ∷ u) = subst (λ (a : ℕ). PassesFrom 0 (a ∷ u)) (is_it d 48 e) m in
          ([], u, refl, ((and_parts (is_digit 48) (list_all is_digit u) same.0).1, same.1))
      behind_zero e (inr m) = m

  great_fraction : (u : List ℕ) → None u ⊎ EndsGreat u → Reaches b rest OutOfRange EndsGreat None (fraction_at (u ++ b ∷ rest))
  great_fraction u (inl k) = absurd k
  great_fraction [] (inr k) = absurd (great_none k)
  great_fraction (d ∷ u) (inr k) = reach_choice b rest OutOfRange EndsGreat None (d == 46) _ _ (λ e. great_zeros u (great_next d u (ap is_digit (is_it d 46 e)) k)) (λ _. (d ∷ u, refl, inr k))

  great_end : (u : List ℕ) → None u ⊎ EndsGreat u → Hits b rest OutOfRange EndsGreat (end_at (u ++ b ∷ rest))
  great_end u (inl k) = absurd k
  great_end [] (inr k) = absurd (great_none k)
  great_end (d ∷ u) (inr k) = choice b rest OutOfRange EndsGreat (is_e d) _ _ (λ _. early b rest OutOfRange EndsGreat NotWhole d u) (λ _. (d ∷ u, refl, k))

  great_sizes : (u : List ℕ) → EndsGreat u → Hits b rest OutOfRange EndsGreat (size_at (u ++ b ∷ rest))
  great_sizes = size_of b rest OutOfRange EndsGreat None None great_first (λ u k. great_digits 0 u (inr k)) great_fraction great_end

  pub great_cause : (front : List ℕ) (cause : WktCause) → EndsGreat front → fault_of (front ++ b ∷ rest) ≡ Some (cause, length front) → cause ≡ OutOfRange
  great_cause = marked_cause b rest OutOfRange EndsGreat great_hot great_sizes

-- ---- the laws

e_ends : (b : ℕ) → is_e b ≡ true → (is_digit b ≡ false) × ((b == 46) ≡ false) × ((b == 48) ≡ false)
e_ends b h = cases (b == 69) (b == 101) refl refl h
  where
    cases : (s t : Bool) → (b == 69) ≡ s → (b == 101) ≡ t → (s || t) ≡ true → (is_digit b ≡ false) × ((b == 46) ≡ false) × ((b == 48) ≡ false)
    cases true t e f h = let is = is_it b 69 e in (ap is_digit is, ap (λ (a : ℕ). a == 46) is, ap (λ (a : ℕ). a == 48) is)
    cases false true e f h = let is = is_it b 101 f in (ap is_digit is, ap (λ (a : ℕ). a == 46) is, ap (λ (a : ℕ). a == 48) is)
    cases false false e f h = absurd cc

numeric_behind : (s u : List ℕ) → EndsNumeric u → EndsNumeric (s ++ u)
numeric_behind [] u k = k
numeric_behind (d ∷ []) [] k = absurd k
numeric_behind (d ∷ []) (e ∷ u) k = k
numeric_behind (d ∷ e ∷ s) u k = numeric_behind (e ∷ s) u k

numeric_digits : (ds : List ℕ) → list_all is_digit ds ≡ true → 0 < length ds → EndsNumeric ds
numeric_digits [] h k = absurd (omega arith)
numeric_digits (d ∷ []) h k = let both = and_parts (is_digit d) true h in ap (λ t. t || (d == 46)) both.0
numeric_digits (d ∷ e ∷ ds) h k = numeric_digits (e ∷ ds) (and_parts (is_digit d) (list_all is_digit (e ∷ ds)) h).1 (omega arith)

zeros_digits : (zs : List ℕ) → AreZeros zs → list_all is_digit zs ≡ true
zeros_digits [] h = refl
zeros_digits (z ∷ zs) h =
    let both = and_parts (z == 48) (list_all (λ z. z == 48) zs) h in
    ap (λ t. t && list_all is_digit zs) (ap is_digit (is_it z 48 both.0)) ∙ zeros_digits zs both.1

numeric_fraction : (ds f : List ℕ) → list_all is_digit ds ≡ true → 0 < length ds → IsFraction f → EndsNumeric (ds ++ f)
numeric_fraction ds [] h k m = subst EndsNumeric (sym (append-nil ds)) (numeric_digits ds h k)
numeric_fraction ds (d ∷ []) h k m = numeric_behind ds (d ∷ []) (ap (λ (a : ℕ). is_digit a || (a == 46)) m.0)
numeric_fraction ds (d ∷ z ∷ zs) h k m = numeric_behind ds (d ∷ z ∷ zs) (numeric_digits (z ∷ zs) (zeros_digits (z ∷ zs) m.1) (omega arith))

numeric_number : (z : ℤ) (t : List ℕ) → IsNumber z t → EndsNumeric t
numeric_number z t m = subst EndsNumeric (sym (m.parts ∙ ap (λ (u : List ℕ). m.sign ++ u) m.sized.parts)) (numeric_behind m.sign (m.sized.digits ++ m.sized.fraction) (numeric_fraction m.sized.digits m.sized.fraction m.sized.all m.sized.some m.sized.whole))

pub breaks_numbers : (front rest : List ℕ) (b : ℕ) (cause : WktCause) → fault_of (front ++ b ∷ rest) ≡ Some (cause, length front) → EndsIn (BreaksNumber b) front → cause ≡ NotWhole
breaks_numbers front rest b cause h w = at w.3.2
  where
    at : (is_e b ≡ true) ⊎ ((is_digit b ≡ true) × ((b == 48) ≡ false) × (digits : List ℕ) × (zeros : List ℕ) × (w.1 ≡ digits ++ 46 ∷ zeros) × (list_all (λ c. c == 48) zeros ≡ true)) → cause ≡ NotWhole
    at (inl is) = exponent_cause b rest is (e_ends b is) front cause (subst EndsNumeric (sym w.2) (numeric_behind w.0 w.1 (numeric_number w.3.0 w.1 w.3.1))) h
    at (inr d) = fraction_cause b rest d.0 d.1 front cause (w.0 ++ d.2, d.3, w.2 ∙ ap (λ (u : List ℕ). w.0 ++ u) d.4 ∙ sym (append_assoc w.0 d.2 (46 ∷ d.3)), d.5) h

pub passes_limits : (front rest : List ℕ) (b : ℕ) (cause : WktCause) → fault_of (front ++ b ∷ rest) ≡ Some (cause, length front) → EndsIn (PassesLimit b) front → cause ≡ OutOfRange
passes_limits front rest b cause h w = great_cause b rest w.3.0 front cause (w.0, w.1, w.2, (w.3.1, w.3.3)) h
