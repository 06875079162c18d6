-- The text of every reply is one line.
use Rattle.std.proofs.Common.{◌≡◌, ◌∙◌, ap, subst, ℕ, zero, suc, ℤ, pos, negsuc, ◌/◌, ◌%◌, Bool, true, false, not, ◌==◌, List, [], ◌∷◌, ◌++◌, map, length, refl, arith, if◌then◌else◌, codes, Option, Some, None}
use Rattle.std.specs.Fmt.{decimal, signed_decimal, digits, digits_onto, digit_glyph}
use Rattle.std.specs.List.{flat_map, list_all}
use Rattle.std.proofs.lemmas.Bool.{and_parts, not-true}
use Rattle.std.proofs.lemmas.Bool.Decides.{nat_tests}
use Rattle.std.proofs.lemmas.List.Folds.{list_all-append}
use Rattle.isp_geom.specs.declared.form.Point as p
use Rattle.isp_geom.specs.declared.form.Form.{Form, Form-F, ind-Form, map-Form}
use Rattle.isp_wkt.specs.Printed.{printed, level, pair, chained, listed, marked, line, lines}
use Rattle.isp_wkt.specs.Words.{word}
use Rattle.isp_wkt.proofs.Texts.{text-roll}
use Rattle.isp_wkt.specs.declared.kind.Kind.{Kind}
use Rattle.isp_wkt.specs.declared.kind.Kind.TheVariants as kind
use Rattle.isp_wkt.specs.declared.cause.WktCause.{WktCause}
use Rattle.isp_wkt.specs.declared.cause.WktCause.TheVariants as cause
use Rattle.isp_plain.specs.declared.refusal.Refusal.{Refusal}
use Rattle.isp_plain.specs.declared.refusal.Refusal.TheVariants.{TableExists, UnknownColumn, DuplicateKey, Syntax, FileFull, ColumnCount, NoSuchTable, Deadlock, OutOfRange, TooLong, Geometry, NotAllowedHere, RowTooLarge, OutOfLimits, WrongType, AlreadyBegun, KeyCannotBeSet}
use Rattle.isp_plain.specs.declared.value.Row.{Row}
use Rattle.isp_plain.specs.declared.value.Value.{Value}
use Rattle.isp_plain.specs.declared.value.Value.TheVariants.{Int, Text, Geo}
use Rattle.isp_plain.specs.declared.statement.Reply.{Reply}
use Rattle.isp_plain.specs.declared.statement.Reply.TheVariants as reply
use Rattle.isp_plain.specs.Lined.{is_lined_value, is_lined_row, are_lined_rows, is_lined_reply, is_one_line}
use Rattle.isp_plain.specs.Refusals.{cause_words, number, state, words, shown, shown_text, told_text, refusal_text}
use Rattle.isp_plain.specs.Texts.{ok_text, end_text, doubled, quoted, value_text, values_text, row_text, count_text, reply_text}

-- two pieces of one line are one line
pub one_line-append : (xs ys : List ℕ) → is_one_line xs ≡ true → is_one_line ys ≡ true → is_one_line (xs ++ ys) ≡ true
one_line-append xs ys first second = rw (list_all-append (λ b. not (b == 10)) xs ys, first, second) refl

pub one_line-cons : (b : ℕ) (ys : List ℕ) → (b == 10) ≡ false → is_one_line ys ≡ true → is_one_line (b ∷ ys) ≡ true
one_line-cons b ys first second = rw (first, second) refl

either : (b : Bool) (xs ys : List ℕ) → is_one_line xs ≡ true → is_one_line ys ≡ true → is_one_line (if b then xs else ys) ≡ true
either true xs ys first second = first
either false xs ys first second = second

glyph_line : (d : ℕ) → (digit_glyph false d == 10) ≡ false
glyph_line d = grind (arith, nat_tests)

onto_line : (k n : ℕ) (acc : List ℕ) → is_one_line acc ≡ true → is_one_line (digits_onto k 10 false n acc) ≡ true
onto_line zero n acc line = line
onto_line (suc k) n acc line =
    let more = one_line-cons (digit_glyph false (n % 10)) acc (glyph_line (n % 10)) line in
    either (n / 10 == 0) _ _ more (onto_line k (n / 10) (digit_glyph false (n % 10) ∷ acc) more)

decimal_line : (n : ℕ) → is_one_line (decimal n) ≡ true
unfolding digits
decimal_line n = onto_line 64 n [] refl

signed_line : (z : ℤ) → is_one_line (signed_decimal z) ≡ true
signed_line (pos n) = decimal_line n
signed_line (negsuc n) = one_line-cons 45 (decimal (suc n)) refl (decimal_line (suc n))

-- ---- geometries

word_line : (k : Kind) → is_one_line (word k) ≡ true
unfolding word
word_line kind.Point = refl
word_line kind.LineString = refl
word_line kind.Polygon = refl
word_line kind.MultiPoint = refl
word_line kind.MultiLineString = refl
word_line kind.MultiPolygon = refl
word_line kind.Collection = refl

pair_line : (x : p.Point) → is_one_line (pair x) ≡ true
pair_line x = one_line-append (signed_decimal x.x) (32 ∷ signed_decimal x.y) (signed_line x.x) (one_line-cons 32 (signed_decimal x.y) refl (signed_line x.y))

marked_line : (x : p.Point) → is_one_line (marked x) ≡ true
marked_line x = one_line-cons 40 (pair x ++ 41 ∷ []) refl (one_line-append (pair x) (41 ∷ []) (pair_line x) refl)

chained_line : {X : Type 0} (member : X → List ℕ) → ((x : X) → is_one_line (member x) ≡ true) → (before : ℕ) → (before == 10) ≡ false → (xs : List X) → is_one_line (chained member before xs) ≡ true
chained_line member each before is [] = refl
chained_line member each before is (x ∷ xs) =
    one_line-cons before (member x ++ chained member 44 xs) is
    (one_line-append (member x) (chained member 44 xs) (each x) (chained_line member each 44 refl xs))

listed_line : {X : Type 0} (member : X → List ℕ) → ((x : X) → is_one_line (member x) ≡ true) → (xs : List X) → is_one_line (listed member xs) ≡ true
listed_line member each xs = one_line-append (chained member 40 xs) (41 ∷ []) (chained_line member each 40 refl xs) refl

after_word : (k : Kind) (body : List ℕ) → is_one_line body ≡ true → is_one_line (word k ++ body) ≡ true
after_word k body is = one_line-append (word k) body (word_line k) is

lines_line : (ls : List (List p.Point)) → is_one_line (lines ls) ≡ true
lines_line ls = listed_line line (listed_line pair pair_line) ls

abbrev IsLine : Form → Type 0
IsLine form = is_one_line (printed form) ≡ true

members_line : (before : ℕ) → (before == 10) ≡ false → (members : List ((form : Form) × IsLine form)) →
    is_one_line (chained (λ member. member) before (map printed (map (λ e. e.0) members))) ≡ true
members_line before is [] = refl
members_line before is (member ∷ members) =
    let others = chained (λ member. member) 44 (map printed (map (λ e. e.0) members)) in
    one_line-cons before (printed member.0 ++ others) is (one_line-append (printed member.0) others member.1 (members_line 44 refl members))

-- one layer of a form, with the printed form of each member, where these are one line
layer_line : (y : Form-F ((form : Form) × IsLine form)) → is_one_line (level (map-Form Form (List ℕ) printed (map-Form ((form : Form) × IsLine form) Form (λ e. e.0) y))) ≡ true
layer_line (Form-F.Point x) = after_word kind.Point (marked x) (marked_line x)
layer_line (Form-F.LineString ps) = after_word kind.LineString (line ps) (listed_line pair pair_line ps)
layer_line (Form-F.Polygon rings) = after_word kind.Polygon (lines rings) (lines_line rings)
layer_line (Form-F.MultiPoint ps) = after_word kind.MultiPoint (listed marked ps) (listed_line marked marked_line ps)
layer_line (Form-F.MultiLineString ls) = after_word kind.MultiLineString (lines ls) (lines_line ls)
layer_line (Form-F.MultiPolygon ps) = after_word kind.MultiPolygon (listed lines ps) (listed_line lines lines_line ps)
layer_line (Form-F.Collection members) =
    let texts = chained (λ member. member) 40 (map printed (map (λ e. e.0) members)) in
    after_word kind.Collection (texts ++ 41 ∷ []) (one_line-append texts (41 ∷ []) (members_line 40 refl members) refl)

printed_line : (form : Form) → is_one_line (printed form) ≡ true
printed_line = ind-Form IsLine (λ x y is.
    let layer = subst (λ z. is_one_line (level (map-Form Form (List ℕ) printed z)) ≡ true) is (layer_line y) in
    ap is_one_line (text-roll x) ∙ layer)

-- ---- rows

doubled_line : (b : ℕ) → (b == 10) ≡ false → is_one_line (doubled b) ≡ true
doubled_line b is = either (b == 39) (39 ∷ 39 ∷ []) (b ∷ []) refl (one_line-cons b [] is refl)

all_doubled_line : (text : List ℕ) → is_one_line text ≡ true → is_one_line (flat_map doubled text) ≡ true
all_doubled_line [] is = refl
all_doubled_line (b ∷ text) is =
    let parts = and_parts (not (b == 10)) (is_one_line text) is in
    one_line-append (doubled b) (flat_map doubled text) (doubled_line b (not-true (b == 10) parts.0)) (all_doubled_line text parts.1)

quoted_line : (text : List ℕ) → is_one_line text ≡ true → is_one_line (quoted text) ≡ true
quoted_line text is = one_line-cons 39 (flat_map doubled text ++ 39 ∷ []) refl (one_line-append (flat_map doubled text) (39 ∷ []) (all_doubled_line text is) refl)

value_line : (value : Value) → is_lined_value value ≡ true → is_one_line (value_text value) ≡ true
value_line (Int number) is = signed_line number
value_line (Text text) is = quoted_line text is
value_line (Geo form) is = printed_line form

others_line : (values : List Value) → list_all is_lined_value values ≡ true → is_one_line (flat_map (λ value. 44 ∷ value_text value) values) ≡ true
others_line [] is = refl
others_line (value ∷ values) is =
    let parts = and_parts (is_lined_value value) (list_all is_lined_value values) is in
    one_line-append (44 ∷ value_text value) _ (one_line-cons 44 (value_text value) refl (value_line value parts.0)) (others_line values parts.1)

values_line : (values : List Value) → list_all is_lined_value values ≡ true → is_one_line (values_text values) ≡ true
values_line [] is = refl
values_line (first ∷ others) is =
    let parts = and_parts (is_lined_value first) (list_all is_lined_value others) is in
    one_line-append (value_text first) _ (value_line first parts.0) (others_line others parts.1)

row_line : (row : Row) → is_lined_row row ≡ true → is_one_line (row_text row) ≡ true
row_line row is = one_line-cons 40 (values_text row.values ++ 41 ∷ []) refl (one_line-append (values_text row.values) (41 ∷ []) (values_line row.values is) refl)

rows_line : (rows : List Row) → are_lined_rows rows ≡ true → is_one_line (flat_map (λ row. 32 ∷ row_text row) rows) ≡ true
rows_line [] is = refl
rows_line (row ∷ rows) is =
    let parts = and_parts (is_lined_row row) (are_lined_rows rows) is in
    one_line-append (32 ∷ row_text row) _ (one_line-cons 32 (row_text row) refl (row_line row parts.0)) (rows_line rows parts.1)

count_line : (n : ℕ) → is_one_line (count_text n) ≡ true
count_line n = one_line-append (codes "OK ") (decimal n ++ codes " rows") refl (one_line-append (decimal n) (codes " rows") (decimal_line n) refl)

-- ---- refusals

cause_line : (cause : WktCause) → is_one_line (cause_words cause) ≡ true
unfolding cause_words
cause_line cause.NotWhole = refl
cause_line cause.OutOfRange = refl
cause_line cause.Unclosed = refl
cause_line cause.TooFew = refl
cause_line cause.Empty = refl
cause_line cause.Unknown = refl
cause_line cause.Trailing = refl
cause_line cause.Truncated = refl
cause_line cause.TooDeep = refl

-- the state and the words of each
parts_line : (r : Refusal) → (is_one_line (state r) ≡ true) × (is_one_line (words r) ≡ true)
unfolding state words
parts_line TableExists = (refl, refl)
parts_line UnknownColumn = (refl, refl)
parts_line (DuplicateKey key) = (refl, refl)
parts_line Syntax = (refl, refl)
parts_line FileFull = (refl, refl)
parts_line ColumnCount = (refl, refl)
parts_line NoSuchTable = (refl, refl)
parts_line Deadlock = (refl, refl)
parts_line OutOfRange = (refl, refl)
parts_line TooLong = (refl, refl)
parts_line (Geometry cause at) = (refl, cause_line cause)
parts_line NotAllowedHere = (refl, refl)
parts_line RowTooLarge = (refl, refl)
parts_line OutOfLimits = (refl, refl)
parts_line WrongType = (refl, refl)
parts_line AlreadyBegun = (refl, refl)
parts_line KeyCannotBeSet = (refl, refl)

shown_line : (number : Option ℤ) → is_one_line (shown_text number) ≡ true
shown_line (Some number) = signed_line number
shown_line None = refl

pub refusal_line : (r : Refusal) → is_one_line (refusal_text r) ≡ true
refusal_line r =
    let parts = parts_line r in
    let told = one_line-append (words r) (shown_text (shown r)) parts.1 (shown_line (shown r)) in
    let behind = one_line-append (state r) (32 ∷ told_text r) parts.0 (one_line-cons 32 (told_text r) refl told) in
    one_line-append (codes "ERR ") (decimal (number r) ++ 32 ∷ (state r ++ 32 ∷ told_text r)) refl
    (one_line-append (decimal (number r)) (32 ∷ (state r ++ 32 ∷ told_text r)) (decimal_line (number r)) (one_line-cons 32 (state r ++ 32 ∷ told_text r) refl behind))

fixed_lines : (is_one_line ok_text ≡ true) × (is_one_line end_text ≡ true)
unfolding ok_text end_text
fixed_lines = (refl, refl)

pub end_line : is_one_line end_text ≡ true
end_line = fixed_lines.1

pub reply_line : (r : Reply) → is_lined_reply r ≡ true → is_one_line (reply_text r) ≡ true
reply_line reply.Ok is = fixed_lines.0
reply_line (reply.Count n) is = count_line n
reply_line (reply.Rows rows) is = one_line-append (count_text (length rows)) _ (count_line (length rows)) (rows_line rows is)
reply_line (reply.Err refusal) is = refusal_line refusal
reply_line reply.End is = fixed_lines.1
