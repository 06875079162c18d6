-- The bytes before a fault of words, forms and texts can be completed, where texts may have one level more.
use Rattle.std.proofs.Common.{◌≡◌, ℕ, zero, suc, ◌≤◌, ◌==◌, max, Bool, true, false, cond, ◌⊎◌, inl, inr, List, [], ◌∷◌, ◌++◌, length, take, drop, map, Ok, Err, refl, sym, ap, subst, ◌∙◌, append_assoc, arith}
use Rattle.std.proofs.lemmas.Bool.{cases_lt}
use Rattle.std.proofs.lemmas.List.{append-nil, take-append-drop, map-append}
use Rattle.isp_geom.specs.declared.form.Point as p
use Rattle.isp_geom.specs.declared.form.Form.{Form, Form-F, out-Form}
use Rattle.isp_geom.specs.declared.form.Form.TheVariants.{Point, LineString, Polygon, MultiPoint, MultiLineString, MultiPolygon, Collection, rolls-Point, rolls-LineString, rolls-Polygon, rolls-MultiPoint, rolls-MultiLineString, rolls-MultiPolygon, rolls-Collection}
use Rattle.isp_wkt.specs.declared.cause.WktCause.TheVariants.{Truncated, TooDeep, Empty, Trailing, Unknown}
use Rattle.isp_wkt.specs.declared.cause.Fault.{Fault}
use Rattle.isp_wkt.specs.declared.kind.Kind.{Kind}
use Rattle.isp_wkt.specs.declared.kind.Kind.TheVariants as kind
use Rattle.isp_wkt.specs.Words.{word, upper, common}
use Rattle.isp_wkt.specs.Grammar.{AreBlanks, IsSingle, IsPair, AreMembers, IsList, IsLine, AreLines, IsMarked, IsLevel, Means, IsTextOf}
use Rattle.isp_wkt.specs.Faults.{Begins, IsCollectionWord}
use Rattle.isp_wkt.specs.Reading.{Outcome, is_blank, is_e, kinds, word_in, unknown_at, skipped, made, body_at, geometry_at, members_at, deep_at, deep_paren_at, list_at, single_at, line_at, lines_at, marked_at, rest_at}
use Rattle.isp_wkt.proofs.Sound.{chosen, is_it, skipped_back, marked_sound, lines_sound, word_sound}
use Rattle.isp_wkt.proofs.SoundForms.{Means-roll, geometry_sound, members_sound, text_of}
use Rattle.isp_wkt.proofs.CompleteForms.{upper_again}
use Rattle.isp_wkt.proofs.Opens.{err_is, no_err, bind_err, Starts, Never, Fall, fall_at, fall_behind, fall_as, never_deep, Cut, cut_at, weaken, Nothing, says_empty, Lifts, list_open, shorter, starts_lifts, start_members, start_whole, start_next, start_inside, list_default, list_starts, single_default, single_open, marked_default, marked_open, line_default, line_open, lines_default, lines_open}

-- ---- more levels

members_more : {X : Type 0} (Low High : X → List ℕ → Type 0) → ((x : X) (t : List ℕ) → Low x t → High x t) → (xs : List X) (t : List ℕ) → AreMembers Low xs t → AreMembers High xs t
members_more Low High h [] t m = absurd m
members_more Low High h (x ∷ []) t m = (m.0, m.1, m.2, h x m.0 m.3, m.4)
members_more Low High h (x ∷ y ∷ xs) t m = (m.0, m.1, m.2, m.3, m.4, h x m.0 m.5, m.6, m.7, members_more Low High h (y ∷ xs) m.3 m.8)

level_more : (Low High : Form → List ℕ → Type 0) → ((f : Form) (t : List ℕ) → Low f t → High f t) → (x : Form-F Form) (t : List ℕ) → IsLevel Low x t → IsLevel High x t
level_more Low High h (Form-F.Point x) t m = m
level_more Low High h (Form-F.LineString x) t m = m
level_more Low High h (Form-F.Polygon x) t m = m
level_more Low High h (Form-F.MultiPoint x) t m = m
level_more Low High h (Form-F.MultiLineString x) t m = m
level_more Low High h (Form-F.MultiPolygon x) t m = m
level_more Low High h (Form-F.Collection x) t m =
    let l = m.4 in
    (m.0, m.1, m.2, m.3, record { before = l.before; opened = l.opened; inside = l.inside; parts = l.parts; blank = l.blank; members = members_more Low High h x l.inside l.members })

none_more : (f : Form) (t : List ℕ) → Means 0 f t → Means 1 f t
unfolding Means
none_more f t m = absurd m

some_more : (levels : ℕ) → ((f : Form) (t : List ℕ) → Means levels f t → Means (suc levels) f t) → (f : Form) (t : List ℕ) → Means (suc levels) f t → Means (suc (suc levels)) f t
unfolding Means
some_more levels below f t m = level_more (Means levels) (Means (suc levels)) below (out-Form f) t m

-- what a text means it means where more levels are allowed
pub more_levels : (levels : ℕ) (f : Form) (t : List ℕ) → Means levels f t → Means (suc levels) f t
more_levels zero = none_more
more_levels (suc levels) = some_more levels (more_levels levels)

pub text_more : (levels : ℕ) (f : Form) (t : List ℕ) → IsTextOf levels f t → IsTextOf (suc levels) f t
text_more levels f t m = record { before = m.before; body = m.body; after = m.after; parts = m.parts; blank = m.blank; means = more_levels levels f m.body m.means }

-- ---- words

-- a front of the word of a kind
abbrev Spelling : List ℕ → Type 0
Spelling u = (k : Kind) × (more : List ℕ) × (map upper u ++ more ≡ word k)

-- a front that has something in common with a word goes on to the word
common_front : (w bs : List ℕ) (n : ℕ) → n ≤ common w bs → map upper (take n bs) ++ drop n w ≡ w
common_front w bs zero h = refl
common_front [] bs (suc n) h = absurd (omega arith)
common_front (w ∷ ws) [] (suc n) h = absurd (omega arith)
common_front (w ∷ ws) (b ∷ bs) (suc n) h = at (λ le. common_front ws bs n le) (upper b == w) refl h
  where
    at : (n ≤ common ws bs → map upper (take n bs) ++ drop n ws ≡ ws) → (t : Bool) → (upper b == w) ≡ t → suc n ≤ cond t (suc (common ws bs)) 0 → map upper (take (suc n) (b ∷ bs)) ++ drop (suc n) (w ∷ ws) ≡ w ∷ ws
    at r true e h = ap (λ (c : ℕ). c ∷ (map upper (take n bs) ++ drop n ws)) (is_it (upper b) w e) ∙ ap (λ (v : List ℕ). w ∷ v) (r (omega arith))
    at r false e h = absurd (omega arith)

unknown_open : (front rest bytes : List ℕ) (f : Fault) → bytes ≡ front ++ rest → Spelling front → unknown_at rest ≡ Err f → Cut Spelling bytes f
unknown_open front [] bytes f is s e = cut_at Spelling Truncated front [] bytes f is (err_is _ f e) s refl
unknown_open front (b ∷ rest) bytes f is s e = cut_at Spelling Unknown front (b ∷ rest) bytes f is (err_is _ f e) s tt

word_open : (ks : List Kind) (most : ℕ) (bytes : List ℕ) (f : Fault) (k : Kind) → most ≤ common (word k) bytes → word_in ks most bytes ≡ Err f → Cut Spelling bytes f
word_open [] most bytes f k le e = unknown_open (take most bytes) (drop most bytes) bytes f (sym (take-append-drop most bytes)) (k, drop most (word k), common_front (word k) bytes most le) e
word_open (l ∷ ks) most bytes f k le e =
    elim (chosen (common (word l) bytes == length (word l)) _ _ _ e) [
      | inl h ↦ no_err _ f h.1
      | inr h ↦ elim (cases_lt most (common (word l) bytes)) [
        | inl lt ↦ word_open ks (max most (common (word l) bytes)) bytes f l (omega arith) h.1
        | inr ge ↦ word_open ks (max most (common (word l) bytes)) bytes f k (omega arith) h.1
      ]
    ]

-- ---- bodies behind words

-- what the body behind the word of a kind may be
abbrev Body : ℕ → Kind → Form → List ℕ → Type 0
Body levels kind.Point f text = (x : p.Point) × (Point x ≡ f) × IsSingle IsPair x text
Body levels kind.LineString f text = (x : List p.Point) × (LineString x ≡ f) × IsLine false x text
Body levels kind.Polygon f text = (x : List (List p.Point)) × (Polygon x ≡ f) × AreLines true x text
Body levels kind.MultiPoint f text = (x : List p.Point) × (MultiPoint x ≡ f) × IsList IsMarked x text
Body levels kind.MultiLineString f text = (x : List (List p.Point)) × (MultiLineString x ≡ f) × AreLines false x text
Body levels kind.MultiPolygon f text = (x : List (List (List p.Point))) × (MultiPolygon x ≡ f) × IsList (AreLines true) x text
Body levels kind.Collection f text = (x : List Form) × (Collection x ≡ f) × IsList (Means levels) x text

body_means : (levels : ℕ) (k : Kind) (f : Form) (front text : List ℕ) → map upper front ≡ word k → Body levels k f text → Means (suc levels) f (front ++ text)
body_means levels kind.Point f front text h b = Means-roll levels (Form-F.Point b.0) f (front ++ text) (rolls-Point b.0 ∙ b.1) (front, text, refl, h, b.2)
body_means levels kind.LineString f front text h b = Means-roll levels (Form-F.LineString b.0) f (front ++ text) (rolls-LineString b.0 ∙ b.1) (front, text, refl, h, b.2)
body_means levels kind.Polygon f front text h b = Means-roll levels (Form-F.Polygon b.0) f (front ++ text) (rolls-Polygon b.0 ∙ b.1) (front, text, refl, h, b.2)
body_means levels kind.MultiPoint f front text h b = Means-roll levels (Form-F.MultiPoint b.0) f (front ++ text) (rolls-MultiPoint b.0 ∙ b.1) (front, text, refl, h, b.2)
body_means levels kind.MultiLineString f front text h b = Means-roll levels (Form-F.MultiLineString b.0) f (front ++ text) (rolls-MultiLineString b.0 ∙ b.1) (front, text, refl, h, b.2)
body_means levels kind.MultiPolygon f front text h b = Means-roll levels (Form-F.MultiPolygon b.0) f (front ++ text) (rolls-MultiPolygon b.0 ∙ b.1) (front, text, refl, h, b.2)
body_means levels kind.Collection f front text h b = Means-roll levels (Form-F.Collection b.0) f (front ++ text) (rolls-Collection b.0 ∙ b.1) (front, text, refl, h, b.2)

body_starts : (levels : ℕ) (k : Kind) (front u : List ℕ) → map upper front ≡ word k → Starts (Body levels k) u → Starts (Means (suc levels)) (front ++ u)
body_starts levels k front u h g = (g.0, g.1, subst (Means (suc levels) g.1) (sym (append_assoc front u g.0)) (body_means levels k g.1 front (u ++ g.0) h g.2))

-- a body made of one value
as_body : {X : Type 0} (Lang : X → List ℕ → Type 0) (levels : ℕ) (k : Kind) (form : X → Form) → ((x : X) (text : List ℕ) → Lang x text → Body levels k (form x) text) → (u : List ℕ) → Starts Lang u → Starts (Body levels k) u
as_body Lang levels k form is u g = (g.0, form g.1, is g.1 (u ++ g.0) g.2)

-- the printed word is one of its spellings
upper_word : (k : Kind) → map upper (word k) ≡ word k
unfolding word
upper_word kind.Point = refl
upper_word kind.LineString = refl
upper_word kind.Polygon = refl
upper_word kind.MultiPoint = refl
upper_word kind.MultiLineString = refl
upper_word kind.MultiPolygon = refl
upper_word kind.Collection = refl

upper_twice : (u : List ℕ) → map upper (map upper u) ≡ map upper u
upper_twice [] = refl
upper_twice (b ∷ u) = ap (λ (c : ℕ). c ∷ map upper (map upper u)) (upper_again b) ∙ ap (λ (v : List ℕ). upper b ∷ v) (upper_twice u)

-- a front of a word and the rest of the word
spelled : (u more w : List ℕ) → map upper w ≡ w → map upper u ++ more ≡ w → map upper (u ++ more) ≡ w
spelled u more w h e = map-append upper u more ∙ ap (λ (v : List ℕ). v ++ map upper more) (sym (upper_twice u)) ∙ sym (map-append upper (map upper u) more) ∙ ap (map upper) e ∙ h

-- a form that is a point
pub form_default : (levels : ℕ) → Starts (Means (suc levels)) []
form_default levels = shorter (Means (suc levels)) [] (word kind.Point ++ []) (body_starts levels kind.Point (word kind.Point) [] (upper_word kind.Point) (as_body (IsSingle IsPair) levels kind.Point Point (λ x text m. (x, refl, m)) [] single_default))

-- a body for each kind but collections of no level
plain_default : (levels : ℕ) (k : Kind) → Starts (Body levels k) [] ⊎ (k ≡ kind.Collection)
plain_default levels kind.Point = inl (as_body (IsSingle IsPair) levels kind.Point Point (λ x text m. (x, refl, m)) [] single_default)
plain_default levels kind.LineString = inl (as_body (IsLine false) levels kind.LineString LineString (λ x text m. (x, refl, m)) [] (line_default false))
plain_default levels kind.Polygon = inl (as_body (AreLines true) levels kind.Polygon Polygon (λ x text m. (x, refl, m)) [] (lines_default true))
plain_default levels kind.MultiPoint = inl (as_body (IsList IsMarked) levels kind.MultiPoint MultiPoint (λ x text m. (x, refl, m)) [] (list_default IsMarked marked_default))
plain_default levels kind.MultiLineString = inl (as_body (AreLines false) levels kind.MultiLineString MultiLineString (λ x text m. (x, refl, m)) [] (lines_default false))
plain_default levels kind.MultiPolygon = inl (as_body (IsList (AreLines true)) levels kind.MultiPolygon MultiPolygon (λ x text m. (x, refl, m)) [] (list_default (AreLines true) (lines_default true)))
plain_default levels kind.Collection = inr refl

collection_body : (levels : ℕ) (u : List ℕ) → Starts (IsList (Means levels)) u → Starts (Body levels kind.Collection) u
collection_body levels u g = as_body (IsList (Means levels)) levels kind.Collection Collection (λ x text m. (x, refl, m)) u g

body_default : (levels : ℕ) (k : Kind) → Starts (Body (suc levels) k) []
body_default levels k = at (plain_default (suc levels) k)
  where
    at : Starts (Body (suc levels) k) [] ⊎ (k ≡ kind.Collection) → Starts (Body (suc levels) k) []
    at (inl g) = g
    at (inr e) = subst (λ (l : Kind). Starts (Body (suc levels) l) []) (sym e) (collection_body (suc levels) [] (list_default (Means (suc levels)) (form_default levels)))

-- ---- fronts with one level more

-- a front that is low, or one that ends in the word of a collection behind a low part, and is high
abbrev pub Either : (List ℕ → Type 0) → (List ℕ → Type 0) → List ℕ → Type 0
Either Low High front = Low front ⊎ ((part : List ℕ) × (ninth : List ℕ) × (front ≡ part ++ ninth) × Low part × IsCollectionWord ninth × High front)

pub either_lift : (Low High Low' High' : List ℕ → Type 0) (g : List ℕ → List ℕ) → ((a b : List ℕ) → g (a ++ b) ≡ g a ++ b) → ((u : List ℕ) → Low u → Low' (g u)) → ((u : List ℕ) → High u → High' (g u)) → (u : List ℕ) → Either Low High u → Either Low' High' (g u)
either_lift Low High Low' High' g app lo hi u (inl x) = inl (lo u x)
either_lift Low High Low' High' g app lo hi u (inr y) = inr (g y.0, y.1, ap g y.2 ∙ app y.0 y.1, lo y.0 y.3, y.4, hi u y.5)

-- a form of so many levels, or of one more
abbrev pub FormGoes : ℕ → List ℕ → Type 0
FormGoes depth = Either (Starts (Means (suc depth))) (Starts (Means (suc (suc depth))))

word_whole : (levels : ℕ) (k : Kind) (u more : List ℕ) → map upper u ++ more ≡ word k → Starts (Body levels k) [] → Starts (Means (suc levels)) u
word_whole levels k u more e g = shorter (Means (suc levels)) u (more ++ []) (subst (Starts (Means (suc levels))) (append_assoc u more []) (body_starts levels k (u ++ more) [] (spelled u more (word k) (upper_word k) e) g))

word_goes : (depth : ℕ) (u : List ℕ) → Spelling u → FormGoes depth u
word_goes zero u s = at (plain_default 0 s.0)
  where
    at : Starts (Body 0 s.0) [] ⊎ (s.0 ≡ kind.Collection) → FormGoes 0 u
    at (inl g) = inl (word_whole 0 s.0 u s.1 s.2 g)
    at (inr e) = inr ([], u, refl, form_default 0, record { front = u; more = s.1; blanks = []; parts = sym (append-nil u); spells = s.2 ∙ ap word e; blank = refl; whole = inr refl }, word_whole 1 s.0 u s.1 s.2 (body_default 0 s.0))
word_goes (suc depth) u s = inl (word_whole (suc depth) s.0 u s.1 s.2 (body_default depth s.0))

-- what a `(` too deep goes on to
abbrev pub FormDeep : ℕ → List ℕ → Type 0
FormDeep depth = Starts (Means (suc (suc depth)))

-- ---- bodies

made_err : {X : Type 0} (form : X → Form) (read : Outcome X) (f : Fault) → made form read ≡ Err f → read ≡ Err f
made_err form read f e = elim (bind_err read _ f e) [ inl h ↦ h | inr a ↦ no_err _ f a.2 ]

plain_body : {X : Type 0} (Lang : X → List ℕ → Type 0) (depth : ℕ) (k : Kind) (form : X → Form) → ((x : X) (text : List ℕ) → Lang x text → Body depth k (form x) text) → (front bytes : List ℕ) (f : Fault) → map upper front ≡ word k → Cut (Starts Lang) bytes f → Fall (λ u. FormGoes depth (front ++ u)) (λ u. FormDeep depth (front ++ u)) bytes f
plain_body Lang depth k form is front bytes f h c = fall_as (Starts Lang) (λ u. FormGoes depth (front ++ u)) Never (λ u. FormDeep depth (front ++ u)) bytes f (λ u g. inl (body_starts depth k front u h (as_body Lang depth k form is u g))) (λ u x. absurd x) c

-- what goes on behind the word of a collection: blanks alone, where it is one too deep
abbrev MembersGo : ℕ → List ℕ → Type 0
MembersGo zero = AreBlanks
MembersGo (suc depth) = Either (Starts (IsList (Means (suc depth)))) (Starts (IsList (Means (suc (suc depth)))))

collection_goes : (depth : ℕ) (front u : List ℕ) → map upper front ≡ word kind.Collection → MembersGo depth u → FormGoes depth (front ++ u)
collection_goes zero front u h g =
    inr (
      [],
      front ++ u,
      refl,
      form_default 0,
      record { front = front; more = []; blanks = u; parts = refl; spells = append-nil (map upper front) ∙ h; blank = g; whole = inl refl },
      body_starts 1 kind.Collection front u h (collection_body 1 u ((starts_lifts (Means 1) (form_default 0)).opening u (record { tail = 40 ∷ []; before = u; opened = []; parts = refl; blank = (g, refl) }))),
    )
collection_goes (suc depth) front u h g =
    either_lift (Starts (IsList (Means (suc depth)))) (Starts (IsList (Means (suc (suc depth))))) (Starts (Means (suc (suc depth)))) (Starts (Means (suc (suc (suc depth))))) (λ v. front ++ v) (λ a b. sym (append_assoc front a b))
    (λ v k. body_starts (suc depth) kind.Collection front v h (collection_body (suc depth) v k))
    (λ v k. body_starts (suc (suc depth)) kind.Collection front v h (collection_body (suc (suc depth)) v k))
    u g

abbrev MembersDeep : ℕ → List ℕ → Type 0
MembersDeep depth = Starts (IsList (Means (suc depth)))

abbrev Opens : ℕ → Type 0
Opens depth = (bytes : List ℕ) (f : Fault) → members_at depth bytes ≡ Err f → Fall (MembersGo depth) (MembersDeep depth) bytes f

body_open : (depth : ℕ) → Opens depth → (k : Kind) (front bytes : List ℕ) (f : Fault) → map upper front ≡ word k → body_at (members_at depth) k bytes ≡ Err f → Fall (λ u. FormGoes depth (front ++ u)) (λ u. FormDeep depth (front ++ u)) bytes f
body_open depth below kind.Point front bytes f h e = plain_body (IsSingle IsPair) depth kind.Point Point (λ x text m. (x, refl, m)) front bytes f h (single_open bytes f (made_err Point (single_at bytes) f e))
body_open depth below kind.LineString front bytes f h e = plain_body (IsLine false) depth kind.LineString LineString (λ x text m. (x, refl, m)) front bytes f h (line_open false bytes f (made_err LineString (line_at false bytes) f e))
body_open depth below kind.Polygon front bytes f h e = plain_body (AreLines true) depth kind.Polygon Polygon (λ x text m. (x, refl, m)) front bytes f h (lines_open true bytes f (made_err Polygon (lines_at true bytes) f e))
body_open depth below kind.MultiPoint front bytes f h e = plain_body (IsList IsMarked) depth kind.MultiPoint MultiPoint (λ x text m. (x, refl, m)) front bytes f h (list_starts IsMarked marked_at marked_sound marked_default marked_open bytes f (made_err MultiPoint (list_at Empty marked_at bytes) f e))
body_open depth below kind.MultiLineString front bytes f h e = plain_body (AreLines false) depth kind.MultiLineString MultiLineString (λ x text m. (x, refl, m)) front bytes f h (lines_open false bytes f (made_err MultiLineString (lines_at false bytes) f e))
body_open depth below kind.MultiPolygon front bytes f h e = plain_body (IsList (AreLines true)) depth kind.MultiPolygon MultiPolygon (λ x text m. (x, refl, m)) front bytes f h (list_starts (AreLines true) (lines_at true) (lines_sound true) (lines_default true) (lines_open true) bytes f (made_err MultiPolygon (list_at Empty (lines_at true) bytes) f e))
body_open depth below kind.Collection front bytes f h e = fall_as (MembersGo depth) (λ u. FormGoes depth (front ++ u)) (MembersDeep depth) (λ u. FormDeep depth (front ++ u)) bytes f (λ u g. collection_goes depth front u h g) (λ u g. body_starts (suc depth) kind.Collection front u h (collection_body (suc depth) u g)) (below bytes f (made_err Collection (members_at depth bytes) f e))

geometry_open : (depth : ℕ) → Opens depth → (bytes : List ℕ) (f : Fault) → geometry_at (members_at depth) bytes ≡ Err f → Fall (FormGoes depth) (FormDeep depth) bytes f
unfolding geometry_at
geometry_open depth below bytes f e =
    elim (bind_err (word_in kinds 0 bytes) _ f e) [
      | inl h ↦ never_deep (FormGoes depth) (FormDeep depth) bytes f (weaken Spelling (FormGoes depth) bytes f (word_goes depth) (word_open kinds 0 bytes f kind.Point (omega arith) h))
      | inr a ↦ let w = word_sound kinds 0 bytes a.0.0 a.0.1 a.1 in
          fall_behind (λ u. FormGoes depth (w.0 ++ u)) (FormGoes depth) (λ u. FormDeep depth (w.0 ++ u)) (FormDeep depth) w.0 bytes a.0.1 f w.1 (λ u g. g) (λ u g. g) (body_open depth below a.0.0 w.0 a.0.1 f w.2 a.2)
    ]

-- ---- collections

-- a parenthesis alone behind blanks
abbrev Paren : List ℕ → Type 0
Paren u = u ≡ 40 ∷ []

deep_paren_open : (bs : List ℕ) (f : Fault) → deep_paren_at bs ≡ Err f → Fall Nothing Paren bs f
deep_paren_open [] f e = fall_at Nothing Paren Truncated [] [] [] f refl (err_is _ f e) refl refl
deep_paren_open (b ∷ bs) f e =
    elim (chosen (b == 40) _ _ _ e) [
      | inl h ↦ let is = is_it b 40 h.0 in fall_at Nothing Paren TooDeep [] (b ∷ bs) (b ∷ bs) f refl (err_is _ f h.1) refl (is, ap (λ (c : ℕ). c ∷ []) is)
      | inr h ↦ elim (chosen (is_e b) _ _ _ h.1) [
        | inl k ↦ fall_at Nothing Paren Empty [] (b ∷ bs) (b ∷ bs) f refl (err_is _ f k.1) refl (inl (k.0, inr refl))
        | inr k ↦ fall_at Nothing Paren Unknown [] (b ∷ bs) (b ∷ bs) f refl (err_is _ f k.1) refl tt
      ]
    ]

-- a parenthesis behind blanks goes on where one level more is allowed
paren_goes : (blanks u : List ℕ) → AreBlanks blanks → Paren u → MembersDeep 0 (blanks ++ u)
paren_goes blanks u h e = (starts_lifts (Means 1) (form_default 0)).opening (blanks ++ u) (record { tail = []; before = blanks; opened = []; parts = append-nil (blanks ++ u) ∙ ap (λ (v : List ℕ). blanks ++ v) e; blank = (h, refl) })

deep_paren_never : {P : Type 0} (bs : List ℕ) (x : Unit {0} × List ℕ) → deep_paren_at bs ≡ Ok x → P
deep_paren_never [] x e = no_err x _ (sym e)
deep_paren_never (b ∷ bs) x e =
    elim (chosen (b == 40) _ _ _ e) [
      | inl h ↦ no_err x _ (sym h.1)
      | inr h ↦ elim (chosen (is_e b) _ _ _ h.1) [ inl k ↦ no_err x _ (sym k.1) | inr k ↦ no_err x _ (sym k.1) ]
    ]

deep_open : (bytes : List ℕ) (f : Fault) → deep_at bytes ≡ Err f → Fall AreBlanks (MembersDeep 0) bytes f
deep_open bytes f e =
    let r = skipped_back bytes in
    elim (bind_err (deep_paren_at (skipped bytes)) _ f e) [
      | inl h ↦ fall_behind Nothing AreBlanks Paren (MembersDeep 0) r.0 bytes (skipped bytes) f r.1 (λ u g. subst AreBlanks (sym (ap (λ (t : List ℕ). r.0 ++ t) g ∙ append-nil r.0)) r.2) (λ u g. paren_goes r.0 u r.2 g) (deep_paren_open (skipped bytes) f h)
      | inr a ↦ deep_paren_never (skipped bytes) a.0 a.1
    ]

none_open : Opens 0
unfolding members_at
none_open bytes f e = deep_open bytes f e

next_parts : (t blanks more a b : List ℕ) → t ++ (blanks ++ 44 ∷ (more ++ (a ++ b))) ≡ (t ++ (blanks ++ 44 ∷ (more ++ a))) ++ b
next_parts t blanks more a b =
    ap (λ (v : List ℕ). t ++ v) (ap (λ (v : List ℕ). blanks ++ 44 ∷ v) (sym (append_assoc more a b)) ∙ sym (append_assoc blanks (44 ∷ (more ++ a)) b)) ∙ sym (append_assoc t (blanks ++ 44 ∷ (more ++ a)) b)

inside_parts : (before opened a b : List ℕ) → before ++ 40 ∷ (opened ++ (a ++ b)) ≡ (before ++ 40 ∷ (opened ++ a)) ++ b
inside_parts before opened a b = ap (λ (v : List ℕ). before ++ 40 ∷ v) (sym (append_assoc opened a b)) ∙ sym (append_assoc before (40 ∷ (opened ++ a)) b)

module _ (depth : ℕ) where
  abbrev Low : Form → List ℕ → Type 0
  Low = Means (suc depth)

  abbrev High : Form → List ℕ → Type 0
  High = Means (suc (suc depth))

  abbrev FormsGo : List ℕ → Type 0
  FormsGo = Either (Starts (AreMembers Low)) (Starts (AreMembers High))

  form_lifts : Lifts Low (FormGoes depth) FormsGo (MembersGo (suc depth)) (FormDeep depth) (Starts (AreMembers High)) (MembersDeep (suc depth))
  form_lifts = record {
    none = inl (start_members Low [] (form_default depth));
    begun = λ u g. either_lift (Starts Low) (Starts High) (Starts (AreMembers Low)) (Starts (AreMembers High)) (λ v. v) (λ a b. refl) (start_members Low) (start_members High) u g;
    whole = λ x t u m h. inl (start_whole Low x t u m h);
    next = λ x t blanks more u m h k g. either_lift (Starts (AreMembers Low)) (Starts (AreMembers High)) (Starts (AreMembers Low)) (Starts (AreMembers High)) (λ v. t ++ (blanks ++ 44 ∷ (more ++ v))) (next_parts t blanks more) (λ v n. start_next Low x t blanks more v m h k n) (λ v n. start_next High x t blanks more v (more_levels (suc depth) x t m) h k n) u g;
    inside = λ before opened u h k g. either_lift (Starts (AreMembers Low)) (Starts (AreMembers High)) (Starts (IsList Low)) (Starts (IsList High)) (λ v. before ++ 40 ∷ (opened ++ v)) (inside_parts before opened) (λ v n. start_inside Low before opened v h k n) (λ v n. start_inside High before opened v h k n) u g;
    opening = λ u o. inl ((starts_lifts Low (form_default depth)).opening u o);
    deep_begun = start_members High;
    deep_next = λ x t blanks more u m h k g. start_next High x t blanks more u (more_levels (suc depth) x t m) h k g;
    deep_inside = start_inside High;
  }

some_open : (depth : ℕ) → Opens depth → Opens (suc depth)
unfolding members_at
some_open depth below = list_open (Means (suc depth)) (geometry_at (members_at depth)) (geometry_sound depth (members_at depth) (members_sound depth)) (FormGoes depth) (FormsGo depth) (MembersGo (suc depth)) (FormDeep depth) (Starts (AreMembers (High depth))) (MembersDeep (suc depth)) (form_lifts depth) (geometry_open depth below) Empty says_empty

members_open : (depth : ℕ) → Opens depth
members_open zero = none_open
members_open (suc depth) = some_open depth (members_open depth)

-- ---- texts

skipped_head : (bs : List ℕ) (b : ℕ) (rest : List ℕ) → skipped bs ≡ b ∷ rest → is_blank b ≡ false
skipped_head [] b rest e = absurd (omega (arith, ap length e))
skipped_head (c ∷ bs) b rest e =
    elim (chosen (is_blank c) _ _ _ e) [
      | inl h ↦ skipped_head bs b rest h.1
      | inr h ↦ let same : c ≡ b = cons_head c b bs rest h.1 in ap is_blank (sym same) ∙ h.0
    ]
  where
    cons_head : (c b : ℕ) (bs rest : List ℕ) → ◌≡◌ {A = List ℕ} (c ∷ bs) (b ∷ rest) → c ≡ b
    cons_head c b bs rest e = cc

form_begins : (levels : ℕ) (blanks u : List ℕ) → AreBlanks blanks → Starts (Means levels) u → Begins levels (blanks ++ u)
form_begins levels blanks u h g = (g.0, g.1, record { before = blanks; body = u ++ g.0; after = []; parts = append_assoc blanks u g.0 ∙ ap (λ (v : List ℕ). blanks ++ v) (sym (append-nil (u ++ g.0))); blank = (h, refl); means = g.2 })

abbrev pub TextGoes : ℕ → List ℕ → Type 0
TextGoes depth = Either (Begins (suc depth)) (Begins (suc (suc depth)))

-- a byte behind a whole text
pub record Behind (depth : ℕ) (text : List ℕ) (f : Fault) : Type 0 where
  pub front : List ℕ
  pub byte : ℕ
  pub rest : List ℕ
  pub parts : text ≡ front ++ byte ∷ rest
  pub form : Form
  pub means : IsTextOf (suc depth) form front
  pub other : is_blank byte ≡ false
  pub is : ◌≡◌ {A = Fault} (record { cause = Trailing; left = length (byte ∷ rest) }) f

rest_open : (depth : ℕ) (form : Form) (text before body left : List ℕ) (f : Fault) → text ≡ before ++ (body ++ left) → AreBlanks before → Means (suc depth) form body → (rest : List ℕ) → skipped left ≡ rest → rest_at form rest ≡ Err f → Behind depth text f
rest_open depth form text before body left f is h m [] s e = no_err _ f e
rest_open depth form text before body left f is h m (b ∷ rest) s e =
    let r = skipped_back left in
    record {
      front = before ++ (body ++ r.0);
      byte = b;
      rest = rest;
      parts = is ∙ ap (λ (v : List ℕ). before ++ v) (ap (λ (v : List ℕ). body ++ v) (r.1 ∙ ap (λ (v : List ℕ). r.0 ++ v) s) ∙ sym (append_assoc body r.0 (b ∷ rest))) ∙ sym (append_assoc before (body ++ r.0) (b ∷ rest));
      form = form;
      means = record { before = before; body = body; after = r.0; parts = refl; blank = (h, r.2); means = m };
      other = skipped_head left b rest s;
      is = err_is _ f e;
    }

pub text_open : (depth : ℕ) (text : List ℕ) (f : Fault) → text_of depth text ≡ Err f → Fall (TextGoes depth) (Begins (suc (suc depth))) text f ⊎ Behind depth text f
text_open depth text f e =
    let r = skipped_back text in
    elim (bind_err (geometry_at (members_at depth) (skipped text)) _ f e) [
      | inl h ↦ inl (fall_behind (FormGoes depth) (TextGoes depth) (FormDeep depth) (Begins (suc (suc depth))) r.0 text (skipped text) f r.1
          (λ u g. either_lift (Starts (Means (suc depth))) (Starts (Means (suc (suc depth)))) (Begins (suc depth)) (Begins (suc (suc depth))) (λ v. r.0 ++ v) (λ a b. sym (append_assoc r.0 a b)) (λ v k. form_begins (suc depth) r.0 v r.2 k) (λ v k. form_begins (suc (suc depth)) r.0 v r.2 k) u g)
          (λ u g. form_begins (suc (suc depth)) r.0 u r.2 g)
          (geometry_open depth (members_open depth) (skipped text) f h))
      | inr a ↦ let t = geometry_sound depth (members_at depth) (members_sound depth) (skipped text) a.0.0 a.0.1 a.1 in
          inr (rest_open depth a.0.0 text r.0 t.text a.0.1 f (r.1 ∙ ap (λ (v : List ℕ). r.0 ++ v) t.parts) r.2 t.means (skipped a.0.1) refl a.2)
    ]
