-- The readers of lists, lines and forms look no further than the byte that they stop at.
use Rattle.std.proofs.Common.{◌≡◌, ℕ, zero, suc, ◌+◌, ◌<◌, ◌≤◌, ◌==◌, ◌&&◌, nat_lt, not, max, Bool, true, false, cond, ◌⊎◌, inl, inr, List, [], ◌∷◌, ◌++◌, length, drop, map, Result, Ok, Err, refl, sym, ap, subst, ◌∙◌, append_assoc, arith, length-append, length-drop}
use Rattle.std.proofs.lemmas.Bool.Decides.{nat_tests}
use Rattle.std.proofs.lemmas.Bool.{cases_lt}
use Rattle.std.proofs.lemmas.List.{map-append}
use Rattle.isp_geom.specs.declared.form.Point as p
use Rattle.isp_geom.specs.declared.form.Form.{Form}
use Rattle.isp_geom.specs.declared.form.Form.TheVariants as form
use Rattle.isp_geom.specs.Rules.{is_closed}
use Rattle.isp_wkt.specs.declared.cause.WktCause.{WktCause}
use Rattle.isp_wkt.specs.declared.cause.WktCause.TheVariants.{Truncated, TooDeep, TooFew, Unclosed, Empty, Trailing, Unknown}
use Rattle.isp_wkt.specs.declared.cause.Fault.{Fault}
use Rattle.isp_wkt.specs.declared.kind.Kind.{Kind}
use Rattle.isp_wkt.specs.declared.kind.Kind.TheVariants as kind
use Rattle.isp_wkt.specs.Words.{word, common, upper}
use Rattle.isp_wkt.specs.Grammar.{IsPair, IsList}
use Rattle.isp_wkt.specs.Reading.{◌>>=◌, Outcome, fault, is_e, skipped, size_at, number_at, point_at, open_at, deep_paren_at, comma_at, more_at, member_at, items_at, list_at, ruled, line_at, lines_at, single_at, marked_at, word_in, unknown_at, kinds, made, body_at, deep_at, geometry_at, members_at, rest_at}
use Rattle.isp_wkt.proofs.Sound.{ok_parts, bind_ok, list_sound, point_sound, word_sound, chosen}
use Rattle.isp_wkt.proofs.Complete.{if_true, pair_complete, list_again}
use Rattle.isp_wkt.proofs.SoundForms.{text_of}
use Rattle.isp_wkt.proofs.CompleteForms.{list_skips, word_again}
use Rattle.isp_wkt.proofs.Local.{Leaves, A, B, Follows, IsLocal, fault_here, choice, leaves_choice, bind_local, done, skipped_le, skip_at, skip_local, at_byte, point_local, open_local, single_local, marked_local, items_local}

-- ---- how many rounds a list needs

-- an outcome that is no fault leaves less
abbrev Less : {X : Type 0} → Outcome X → ℕ → Type 0
Less (Ok x) n = suc (length x.1) ≤ n
Less (Err f) n = Unit {0}

less_choice : {X : Type 0} (t : Bool) (x y : Outcome X) (n : ℕ) → Less x n → Less y n → Less (cond t x y) n
less_choice true x y n h k = h
less_choice false x y n h k = k

comma_less : (bs : List ℕ) → Less (comma_at bs) (length bs)
comma_less [] = tt
comma_less (c ∷ bs) = less_choice (c == 44) _ _ (length (c ∷ bs)) (omega (arith, skipped_less bs)) (less_choice (c == 41) _ _ (length (c ∷ bs)) (omega arith) tt)
  where
    skipped_less : (bs : List ℕ) → length (skipped bs) ≤ length bs
    skipped_less bs = skipped_le 0 [] [] bs

member_less : {X : Type 0} (item : List ℕ → Outcome X) (bytes : List ℕ) (x : X × Bool) (rest : List ℕ) → Leaves (item bytes) (length bytes) → member_at item bytes ≡ Ok (x, rest) → suc (length rest) ≤ length bytes
member_less {X} item bytes x rest le e =
    let b1 = bind_ok (item bytes) _ _ e in
    let b2 = bind_ok (more_at b1.0.1) _ _ b1.2 in
    let q = ok_parts (b1.0.0, b2.0.0) x b2.0.1 rest b2.2 in
    let one : length b1.0.1 ≤ length bytes = subst (λ (o : Outcome X). Leaves o (length bytes)) b1.1 le in
    let two : suc (length b2.0.1) ≤ length (skipped b1.0.1) = subst (λ (o : Outcome Bool). Less o (length (skipped b1.0.1))) b2.1 (comma_less (skipped b1.0.1)) in
    omega (arith, skipped_le 0 [] [] b1.0.1, ap length q.1)

bind_same : {A' B' : Type 0} (o : Result A' Fault) (f g : A' → Result B' Fault) → ((x : A') → o ≡ Ok x → f x ≡ g x) → (o >>= f) ≡ (o >>= g)
bind_same (Ok x) f g h = h x refl
bind_same (Err d) f g h = refl

module _ {X : Type 0} (item : List ℕ → Outcome X) (bounded : (bytes : List ℕ) → Leaves (item bytes) (length bytes)) (empty : item [] ≡ fault Truncated []) where
  abbrev after : X × List ℕ → Outcome (X × Bool)
  after member = more_at member.1 >>= λ more. Ok ((member.0, more.0), more.1)

  abbrev goes : ℕ → (X × Bool) × List ℕ → Outcome (List X)
  goes m first = cond first.0.1 (items_at item m first.1 >>= λ others. Ok (first.0.0 ∷ others.0, others.1)) (Ok (first.0.0 ∷ [], first.1))

  at_end : (m : ℕ) (bytes : List ℕ) → length bytes ≤ 0 → items_at item m bytes ≡ fault Truncated bytes
  at_end zero bytes h = refl
  at_end (suc m) [] h = ap (λ (r : Outcome X). (r >>= after) >>= goes m) empty
  at_end (suc m) (b ∷ bytes) h = absurd (omega arith)

  enough_rounds : (n m : ℕ) (bytes : List ℕ) → length bytes ≤ n → length bytes ≤ m → items_at item n bytes ≡ items_at item m bytes
  enough_rounds zero m bytes h k = sym (at_end m bytes h)
  enough_rounds (suc n) zero bytes h k = at_end (suc n) bytes k
  enough_rounds (suc n) (suc m) bytes h k =
      bind_same (member_at item bytes) _ _ (λ x e.
      let less : suc (length x.1) ≤ length bytes = member_less item bytes x.0 x.1 (bounded bytes) e in
      ap (λ (r : Outcome (List X)). cond x.0.1 (r >>= λ others. Ok (x.0.0 ∷ others.0, others.1)) (Ok (x.0.0 ∷ [], x.1))) (enough_rounds n m x.1 (omega arith) (omega arith)))

-- ---- lists and lines

same_front : (b : ℕ) (u t more rest : List ℕ) → u ++ b ∷ more ≡ t ++ rest → length rest ≡ length more → t ≡ u ++ b ∷ []
same_front b [] [] more rest e h = absurd (omega (arith, ap length e))
same_front b [] (c ∷ []) more rest e h = cc
same_front b [] (c ∷ d ∷ t) more rest e h = absurd (omega (arith, ap length e, length-append t rest))
same_front b (c ∷ u) [] more rest e h = absurd (omega (arith, ap length e, length-append u (b ∷ more)))
same_front b (c ∷ u) (d ∷ t) more rest e h =
    let head : d ≡ c = cc in
    let tail : u ++ b ∷ more ≡ t ++ rest = cc in
    let r = same_front b u t more rest tail h in cc

-- a front that ends before the byte, and one that ends behind it
pub front_before : (b : ℕ) (u t more rest : List ℕ) → u ++ b ∷ more ≡ t ++ rest → suc (length more) ≤ length rest → (v : List ℕ) × (u ≡ t ++ v) × (rest ≡ v ++ b ∷ more)
front_before b u [] more rest e h = (u, refl, sym e)
front_before b [] (c ∷ t) more rest e h = absurd (omega (arith, ap length e, length-append t rest))
front_before b (c ∷ u) (d ∷ t) more rest e h =
    let head : c ≡ d = cc in
    let tail : u ++ b ∷ more ≡ t ++ rest = cc in
    let r = front_before b u t more rest tail h in
    (r.0, ap (λ (x : ℕ). x ∷ u) head ∙ ap (λ (x : List ℕ). d ∷ x) r.1, r.2)

pub front_behind : (b : ℕ) (u t more rest : List ℕ) → u ++ b ∷ more ≡ t ++ rest → length rest ≤ length more → (w : List ℕ) × (t ≡ u ++ b ∷ w)
front_behind b [] [] more rest e h = absurd (omega (arith, ap length e))
front_behind b [] (c ∷ t) more rest e h = (t, cc)
front_behind b (c ∷ u) [] more rest e h = absurd (omega (arith, ap length e, length-append u (b ∷ more)))
front_behind b (c ∷ u) (d ∷ t) more rest e h =
    let head : d ≡ c = cc in
    let tail : u ++ b ∷ more ≡ t ++ rest = cc in
    let r = front_behind b u t more rest tail h in
    (r.0, ap (λ (x : ℕ). x ∷ t) head ∙ ap (λ (x : List ℕ). c ∷ x) r.1)

-- the rules of a line do not depend on what stands behind it
abbrev Ruled : Bool → List p.Point → Type 0
Ruled is_ring ps = ((left : List ℕ) → ruled is_ring ps left ≡ Ok (ps, left)) ⊎ ((c : WktCause) × ((left : List ℕ) → ruled is_ring ps left ≡ Err (record { cause = c; left = length left + 1 })))

tested : (s t : Bool) (ps : List p.Point) → ((left : List ℕ) → cond {A = Outcome (List p.Point)} s (Err (record { cause = TooFew; left = length left + 1 })) (cond t (Err (record { cause = Unclosed; left = length left + 1 })) (Ok (ps, left))) ≡ Ok (ps, left))
    ⊎ ((c : WktCause) × ((left : List ℕ) → cond {A = Outcome (List p.Point)} s (Err (record { cause = TooFew; left = length left + 1 })) (cond t (Err (record { cause = Unclosed; left = length left + 1 })) (Ok (ps, left))) ≡ Err (record { cause = c; left = length left + 1 })))
tested true t ps = inr (TooFew, λ left. refl)
tested false true ps = inr (Unclosed, λ left. refl)
tested false false ps = inl (λ left. refl)

ruled_cases : (is_ring : Bool) (ps : List p.Point) → Ruled is_ring ps
ruled_cases is_ring ps = tested (nat_lt (length ps) (cond is_ring 4 2)) (is_ring && not (is_closed ps)) ps

module _ (b : ℕ) (more other : List ℕ) where
  fueled : {X : Type 0} (item : List ℕ → Outcome X) → IsLocal b more other X item → item [] ≡ fault Truncated [] → IsLocal b more other (List X) (λ bytes. items_at item (length bytes) bytes)
  fueled {X} item h empty = record {
    local = λ u.
        let n : ℕ = length (u ++ A b more other) + length (u ++ B b more other) in
        subst (λ (o : Outcome (List X)). Follows b more other o (items_at item (length (u ++ B b more other)) (u ++ B b more other))) (enough_rounds item h.bounded empty n (length (u ++ A b more other)) (u ++ A b more other) (omega arith) (omega arith))
        (subst (λ (o : Outcome (List X)). Follows b more other (items_at item n (u ++ A b more other)) o) (enough_rounds item h.bounded empty n (length (u ++ B b more other)) (u ++ B b more other) (omega arith) (omega arith))
        ((items_local b more other item h n).local u));
    bounded = λ bytes. (items_local b more other item h (length bytes)).bounded bytes;
  }

  list_local : {X : Type 0} (nothing : WktCause) (item : List ℕ → Outcome X) → IsLocal b more other X item → item [] ≡ fault Truncated [] → IsLocal b more other (List X) (list_at nothing item)
  unfolding list_at
  list_local nothing item h empty = bind_local b more other (open_at nothing) (λ opened. items_at item (length opened.1) opened.1) (open_local b more other nothing) (λ _. fueled item h empty)

point_empty : point_at [] ≡ fault Truncated []
unfolding point_at number_at size_at
point_empty = refl

list_empty : {X : Type 0} (nothing : WktCause) (item : List ℕ → Outcome X) → list_at nothing item [] ≡ fault Truncated []
unfolding list_at
list_empty nothing item = refl

line_empty : (is_ring : Bool) → line_at is_ring [] ≡ fault Truncated []
unfolding line_at
line_empty is_ring = ap (λ (r : Outcome (List p.Point)). r >>= λ points. ruled is_ring points.0 points.1) (list_empty TooFew point_at)

geometry_empty : (members : List ℕ → Outcome (List Form)) → geometry_at members [] ≡ fault Truncated []
unfolding geometry_at kinds word
geometry_empty members = refl

list_text_long : (ps : List p.Point) (t : List ℕ) → IsList IsPair ps t → 1 ≤ length t
list_text_long ps t m = omega (arith, ap length m.parts, length-append m.before (40 ∷ (m.opened ++ m.inside)))

module _ (b : ℕ) (more other : List ℕ) (is_ring : Bool) where
  points_local : IsLocal b more other (List p.Point) (list_at TooFew point_at)
  points_local = list_local b more other TooFew point_at (point_local b more other) point_empty

  lined : (u : List ℕ) (o : Outcome (List p.Point)) → list_at TooFew point_at (u ++ A b more other) ≡ o → Follows b more other (o >>= λ points. ruled is_ring points.0 points.1) (list_at TooFew point_at (u ++ B b more other) >>= λ points. ruled is_ring points.0 points.1)
  lined u (Err f) e = λ le.
      let q = subst (λ (o : Outcome (List p.Point)). Follows b more other o (list_at TooFew point_at (u ++ B b more other))) e (points_local.local u) le in
      (q.0, ap (λ t. t >>= λ points. ruled is_ring points.0 points.1) q.1)
  lined u (Ok x) e = by (ruled_cases is_ring x.0)
    where
      follows : Follows b more other (Ok x) (list_at TooFew point_at (u ++ B b more other))
      follows = subst (λ (o : Outcome (List p.Point)). Follows b more other o (list_at TooFew point_at (u ++ B b more other))) e (points_local.local u)

      -- the list ends right at the byte
      ends_there : length x.1 ≡ length more → list_at TooFew point_at (u ++ B b more other) ≡ Ok (x.0, other)
      ends_there same =
          let t = list_sound IsPair point_at point_sound TooFew (u ++ A b more other) x.0 x.1 e in
          let whole : t.text ≡ u ++ b ∷ [] = same_front b u t.text more x.1 t.parts same in
          let means : IsList IsPair x.0 (u ++ b ∷ []) = subst (IsList IsPair x.0) whole t.means in
          ap (list_at TooFew point_at) (sym (append_assoc u (b ∷ []) other)) ∙ list_skips TooFew point_at ((u ++ b ∷ []) ++ other) ∙ list_again IsPair point_at pair_complete TooFew [] x.0 (u ++ b ∷ []) other refl means

      by : Ruled is_ring x.0 → Follows b more other (ruled is_ring x.0 x.1) (list_at TooFew point_at (u ++ B b more other) >>= λ points. ruled is_ring points.0 points.1)
      by (inl keeps) = subst (λ (o : Outcome (List p.Point)). Follows b more other o (list_at TooFew point_at (u ++ B b more other) >>= λ points. ruled is_ring points.0 points.1)) (sym (keeps x.1))
          (λ le. let q = follows le in (q.0, q.1, ap (λ t. t >>= λ points. ruled is_ring points.0 points.1) q.2 ∙ keeps (q.0 ++ B b more other)))
      by (inr breaks) = subst (λ (o : Outcome (List p.Point)). Follows b more other o (list_at TooFew point_at (u ++ B b more other) >>= λ points. ruled is_ring points.0 points.1)) (sym (breaks.1 x.1)) (λ le. near (cases_lt (length x.1) (length (A b more other))) le)
        where
          near : (length x.1 < length (A b more other)) ⊎ (length (A b more other) ≤ length x.1) → length (A b more other) ≤ length x.1 + 1 → (g : Fault) × ((list_at TooFew point_at (u ++ B b more other) >>= λ points. ruled is_ring points.0 points.1) ≡ Err g)
          near (inr le) h = let q = follows le in (_, ap (λ t. t >>= λ points. ruled is_ring points.0 points.1) q.2 ∙ breaks.1 (q.0 ++ B b more other))
          near (inl lt) h = (_, ap (λ t. t >>= λ points. ruled is_ring points.0 points.1) (ends_there (omega arith)) ∙ breaks.1 other)

  line_leaves : (bytes : List ℕ) (o : Outcome (List p.Point)) → list_at TooFew point_at bytes ≡ o → Leaves (o >>= λ points. ruled is_ring points.0 points.1) (length bytes)
  line_leaves bytes (Err f) e = subst (λ (o : Outcome (List p.Point)). Leaves o (length bytes)) e (points_local.bounded bytes)
  line_leaves bytes (Ok x) e = by (ruled_cases is_ring x.0)
    where
      less : length x.1 + 1 ≤ length bytes
      less =
          let t = list_sound IsPair point_at point_sound TooFew bytes x.0 x.1 e in
          omega (arith, ap length t.parts, length-append t.text x.1, list_text_long x.0 t.text t.means)

      by : Ruled is_ring x.0 → Leaves (ruled is_ring x.0 x.1) (length bytes)
      by (inl keeps) = subst (λ (o : Outcome (List p.Point)). Leaves o (length bytes)) (sym (keeps x.1)) (omega (arith, less))
      by (inr breaks) = subst (λ (o : Outcome (List p.Point)). Leaves o (length bytes)) (sym (breaks.1 x.1)) less

  line_local : IsLocal b more other (List p.Point) (line_at is_ring)
  unfolding line_at
  line_local = record {
    local = λ u. lined u (list_at TooFew point_at (u ++ A b more other)) refl;
    bounded = λ bytes. line_leaves bytes (list_at TooFew point_at bytes) refl;
  }

-- ---- words

abbrev In : Kind → List Kind → Type 0
In k [] = ⊥
In k (l ∷ ks) = (l ≡ k) ⊎ In k ks

all_kinds : (k : Kind) → In k kinds
unfolding kinds
all_kinds kind.Point = inl refl
all_kinds kind.LineString = inr (inl refl)
all_kinds kind.Polygon = inr (inr (inl refl))
all_kinds kind.MultiPoint = inr (inr (inr (inl refl)))
all_kinds kind.MultiLineString = inr (inr (inr (inr (inl refl))))
all_kinds kind.MultiPolygon = inr (inr (inr (inr (inr (inl refl)))))
all_kinds kind.Collection = inr (inr (inr (inr (inr (inr (inl refl))))))

common_le : (w bs : List ℕ) → common w bs ≤ length bs
common_le [] bs = omega arith
common_le (w ∷ ws) [] = omega arith
common_le (w ∷ ws) (c ∷ bs) = at (upper c == w) (common_le ws bs)
  where
    at : (t : Bool) → common ws bs ≤ length bs → cond t (suc (common ws bs)) 0 ≤ length (c ∷ bs)
    at true h = omega arith
    at false h = omega arith

same_test : (n : ℕ) → (n == n) ≡ true
same_test n = grind (arith, nat_tests)

-- a word that goes on behind a front of a text has at least that front in common with it
common_long : (front w rest : List ℕ) → length front ≤ common (map upper front ++ w) (front ++ rest)
common_long [] w rest = omega arith
common_long (c ∷ front) w rest =
    subst (λ (n : ℕ). suc (length front) ≤ n) (sym (if_true (upper c == upper c) (suc (common (map upper front ++ w) (front ++ rest))) 0 (same_test (upper c)))) (omega (arith, common_long front w rest))

err_is : {X : Type 0} (f g : Fault) → ◌≡◌ {A = Outcome X} (Err f) (Err g) → f ≡ g
err_is f g e = cc

pub unknown_left : (left : List ℕ) (f : Fault) → unknown_at left ≡ Err f → f.left ≡ length left
unknown_left [] f e = let q : ◌≡◌ {A = Fault} (record { cause = Truncated; left = 0 }) f = err_is _ f e in ap (λ (g : Fault). g.left) (sym q)
unknown_left (c ∷ left) f e = let q : ◌≡◌ {A = Fault} (record { cause = Unknown; left = length (c ∷ left) }) f = err_is _ f e in ap (λ (g : Fault). g.left) (sym q)

word_ends : (ks : List Kind) (most : ℕ) (bytes : List ℕ) (f : Fault) → most ≤ length bytes → word_in ks most bytes ≡ Err f → f.left + most ≤ length bytes
word_ends [] most bytes f le e = omega (arith, unknown_left (drop most bytes) f e, length-drop most bytes)
word_ends (l ∷ ks) most bytes f le e =
    elim (chosen (common (word l) bytes == length (word l)) _ _ _ e) [
      | inl h ↦ absurd (let no : ◌≡◌ {A = Outcome Kind} (Ok (l, drop (common (word l) bytes) bytes)) (Err f) = h.1 in cc)
      | inr h ↦ let r = word_ends ks (max most (common (word l) bytes)) bytes f (omega (arith, common_le (word l) bytes)) h.1 in omega arith
    ]

-- a fault of a word stands behind what each word has in common with the text
word_past : (ks : List Kind) (most : ℕ) (bytes : List ℕ) (f : Fault) (k : Kind) → most ≤ length bytes → word_in ks most bytes ≡ Err f → In k ks → f.left + common (word k) bytes ≤ length bytes
word_past [] most bytes f k le e i = absurd i
word_past (l ∷ ks) most bytes f k le e i =
    elim (chosen (common (word l) bytes == length (word l)) _ _ _ e) [
      | inl h ↦ absurd (let no : ◌≡◌ {A = Outcome Kind} (Ok (l, drop (common (word l) bytes) bytes)) (Err f) = h.1 in cc)
      | inr h ↦
          let fits : max most (common (word l) bytes) ≤ length bytes = omega (arith, common_le (word l) bytes) in
          elim i [
            | inl same ↦ let r = word_ends ks (max most (common (word l) bytes)) bytes f fits h.1 in
                subst (λ (j : Kind). f.left + common (word j) bytes ≤ length bytes) same (omega arith)
            | inr other ↦ word_past ks (max most (common (word l) bytes)) bytes f k fits h.1 other
          ]
    ]

module _ (b : ℕ) (more other : List ℕ) where
  word_follows : (u : List ℕ) (o q : Outcome Kind) → word_in kinds 0 (u ++ A b more other) ≡ o → word_in kinds 0 (u ++ B b more other) ≡ q → Follows b more other o q
  word_follows u (Ok x) q e d = λ le.
      let w = word_sound kinds 0 (u ++ A b more other) x.0 x.1 e in
      let s = front_before b u w.0 more x.1 w.1 le in
      (s.0, s.2, sym d ∙ ap (λ (t : List ℕ). word_in kinds 0 (t ++ B b more other)) s.1 ∙ ap (word_in kinds 0) (append_assoc w.0 s.0 (B b more other)) ∙ word_again x.0 w.0 (s.0 ++ B b more other) w.2)
  word_follows u (Err f) (Err g) e d = λ le. (g, refl)
  word_follows u (Err f) (Ok x) e d = λ le. absurd (contrary (cases_lt (length x.1) (length (B b more other))) le)
    where
      w : (front : List ℕ) × (u ++ B b more other ≡ front ++ x.1) × (map upper front ≡ word x.0)
      w = word_sound kinds 0 (u ++ B b more other) x.0 x.1 d

      contrary : (length x.1 < length (B b more other)) ⊎ (length (B b more other) ≤ length x.1) → length (A b more other) ≤ f.left → ⊥
      contrary (inr le) h =
          let s = front_before b u w.0 other x.1 w.1 le in
          let again : word_in kinds 0 (u ++ A b more other) ≡ Ok (x.0, s.0 ++ A b more other) = ap (λ (t : List ℕ). word_in kinds 0 (t ++ A b more other)) s.1 ∙ ap (word_in kinds 0) (append_assoc w.0 s.0 (A b more other)) ∙ word_again x.0 w.0 (s.0 ++ A b more other) w.2 in
          let no : ◌≡◌ {A = Outcome Kind} (Err f) (Ok (x.0, s.0 ++ A b more other)) = sym e ∙ again in cc
      contrary (inl lt) h =
          let s = front_behind b u w.0 other x.1 w.1 (omega arith) in
          let spells : word x.0 ≡ map upper (u ++ b ∷ []) ++ map upper s.0 = sym w.2 ∙ ap (map upper) (s.1 ∙ sym (append_assoc u (b ∷ []) s.0)) ∙ map-append upper (u ++ b ∷ []) s.0 in
          let whole : u ++ A b more other ≡ (u ++ b ∷ []) ++ more = sym (append_assoc u (b ∷ []) more) in
          let long : length (u ++ b ∷ []) ≤ common (word x.0) (u ++ A b more other) = subst (λ (t : List ℕ). length (u ++ b ∷ []) ≤ common (word x.0) t) (sym whole) (subst (λ (t : List ℕ). length (u ++ b ∷ []) ≤ common t ((u ++ b ∷ []) ++ more)) (sym spells) (common_long (u ++ b ∷ []) (map upper s.0) more)) in
          let past = word_past kinds 0 (u ++ A b more other) f x.0 (omega arith) e (all_kinds x.0) in
          omega (arith, length-append u (b ∷ []), length-append u (A b more other))

  word_leaves : (bytes : List ℕ) (o : Outcome Kind) → word_in kinds 0 bytes ≡ o → Leaves o (length bytes)
  word_leaves bytes (Ok x) e = let w = word_sound kinds 0 bytes x.0 x.1 e in omega (arith, ap length w.1, length-append w.0 x.1)
  word_leaves bytes (Err f) e = let r = word_ends kinds 0 bytes f (omega arith) e in omega arith

  word_local : IsLocal b more other Kind (word_in kinds 0)
  word_local = record {
    local = λ u. word_follows u (word_in kinds 0 (u ++ A b more other)) (word_in kinds 0 (u ++ B b more other)) refl refl;
    bounded = λ bytes. word_leaves bytes (word_in kinds 0 bytes) refl;
  }

  -- ---- forms

  made_local : {X : Type 0} (form : X → Form) (r : List ℕ → Outcome X) → IsLocal b more other X r → IsLocal b more other Form (λ bytes. made form (r bytes))
  made_local form r h = bind_local b more other r (λ x. Ok (form x.0, x.1)) h (λ x. done b more other (form x))

  lines_local : (are_rings : Bool) → IsLocal b more other (List (List p.Point)) (lines_at are_rings)
  lines_local are_rings = list_local b more other Empty (line_at are_rings) (line_local b more other are_rings) (line_empty are_rings)

  body_local : (members : List ℕ → Outcome (List Form)) → IsLocal b more other (List Form) members → (k : Kind) → IsLocal b more other Form (body_at members k)
  body_local members h kind.Point = made_local form.Point single_at (single_local b more other)
  body_local members h kind.LineString = made_local form.LineString (line_at false) (line_local b more other false)
  body_local members h kind.Polygon = made_local form.Polygon (lines_at true) (lines_local true)
  body_local members h kind.MultiPoint = made_local form.MultiPoint (list_at Empty marked_at) (list_local b more other Empty marked_at (marked_local b more other) point_empty)
  body_local members h kind.MultiLineString = made_local form.MultiLineString (lines_at false) (lines_local false)
  body_local members h kind.MultiPolygon = made_local form.MultiPolygon (list_at Empty (lines_at true)) (list_local b more other Empty (lines_at true) (lines_local true) (list_empty Empty (line_at true)))
  body_local members h kind.Collection = made_local form.Collection members h

  geometry_local : (members : List ℕ → Outcome (List Form)) → IsLocal b more other (List Form) members → IsLocal b more other Form (geometry_at members)
  unfolding geometry_at
  geometry_local members h = bind_local b more other (word_in kinds 0) (λ k. body_at members k.0 k.1) word_local (λ k. body_local members h k)

  deep_leaves : (bytes : List ℕ) → Leaves (deep_paren_at bytes) (length bytes)
  deep_leaves [] = omega arith
  deep_leaves (c ∷ bs) = leaves_choice b more other (c == 40) _ _ (length (c ∷ bs)) (omega arith) (leaves_choice b more other (is_e c) _ _ (length (c ∷ bs)) (omega arith) (omega arith))

  deep_paren_local : IsLocal b more other (Unit {0}) deep_paren_at
  deep_paren_local = at_byte b more other deep_paren_at
      (choice b more other (b == 40) _ _ _ _ (fault_here b more other TooDeep []) (choice b more other (is_e b) _ _ _ _ (fault_here b more other Empty []) (fault_here b more other Unknown [])))
      (λ c u. choice b more other (c == 40) _ _ _ _ (fault_here b more other TooDeep (c ∷ u)) (choice b more other (is_e c) _ _ _ _ (fault_here b more other Empty (c ∷ u)) (fault_here b more other Unknown (c ∷ u))))
      deep_leaves

  deep_local : IsLocal b more other (List Form) deep_at
  deep_local = bind_local b more other (skip_at b more other) (λ x. deep_paren_at x.1 >>= λ opened. fault TooDeep opened.1) (skip_local b more other)
      (λ _. bind_local b more other deep_paren_at (λ opened. fault TooDeep opened.1) deep_paren_local (λ _. record { local = λ u. fault_here b more other TooDeep u; bounded = λ bytes. omega arith }))

  none_local : IsLocal b more other (List Form) (members_at 0)
  unfolding members_at
  none_local = deep_local

  some_local : (depth : ℕ) → IsLocal b more other (List Form) (members_at depth) → IsLocal b more other (List Form) (members_at (suc depth))
  unfolding members_at
  some_local depth h = list_local b more other Empty (geometry_at (members_at depth)) (geometry_local (members_at depth) h) (geometry_empty (members_at depth))

  all_local : (depth : ℕ) → IsLocal b more other (List Form) (members_at depth)
  all_local zero = none_local
  all_local (suc depth) = some_local depth (all_local depth)

  rest_leaves : (f : Form) (bytes : List ℕ) → Leaves (rest_at f bytes) (length bytes)
  rest_leaves f [] = omega arith
  rest_leaves f (c ∷ bs) = omega arith

  rest_local : (f : Form) → IsLocal b more other Form (rest_at f)
  rest_local f = at_byte b more other (rest_at f) (fault_here b more other Trailing []) (λ c u. fault_here b more other Trailing (c ∷ u)) (rest_leaves f)

  pub text_local_of : (depth : ℕ) → IsLocal b more other Form (text_of depth)
  text_local_of depth = bind_local b more other (skip_at b more other) (λ x. geometry_at (members_at depth) x.1 >>= λ form. rest_at form.0 (skipped form.1)) (skip_local b more other)
      (λ _. bind_local b more other (geometry_at (members_at depth)) (λ form. rest_at form.0 (skipped form.1)) (geometry_local (members_at depth) (all_local depth))
      (λ f. bind_local b more other (skip_at b more other) (λ x. rest_at f x.1) (skip_local b more other) (λ _. rest_local f)))
