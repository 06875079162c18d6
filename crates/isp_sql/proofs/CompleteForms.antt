-- Tokens that are written for a value are read as it, production by production.
use Rattle.std.proofs.Common.{◌≡◌, ◌∙◌, ℕ, Bool, true, false, inl, inr, List, [], ◌∷◌, drop, Option, Some, None, refl, ap}
use Rattle.isp_mbr.specs.declared.Test.{Test}
use Rattle.isp_plain.specs.declared.statement.Op.{Op}
use Rattle.isp_sql.specs.declared.members.Going.TheVariants as going
use Rattle.isp_sql.specs.declared.parsed.Literal.{Literal}
use Rattle.isp_sql.specs.declared.parsed.Literal.TheVariants as literals
use Rattle.isp_sql.specs.declared.parsed.Parsed.{Parsed}
use Rattle.isp_sql.specs.declared.parsed.Parsed.TheVariants as parsed
use Rattle.isp_sql.specs.declared.parsed.ParsedAtom.{ParsedAtom}
use Rattle.isp_sql.specs.declared.parsed.ParsedAtom.TheVariants as atoms
use Rattle.isp_sql.specs.declared.parsed.ParsedColumn.{ParsedColumn}
use Rattle.isp_sql.specs.declared.parsed.ParsedKind.{ParsedKind}
use Rattle.isp_sql.specs.declared.parsed.ParsedKind.TheVariants as kinds
use Rattle.isp_sql.specs.declared.parsed.ParsedSet.{ParsedSet}
use Rattle.isp_tokens.specs.declared.token.Symbol.TheVariants.{Open, Close, Comma, Star, Minus}
use Rattle.isp_tokens.specs.declared.token.Token.{Token}
use Rattle.isp_tokens.specs.declared.token.Token.TheVariants as token
use Rattle.isp_tokens.specs.declared.words.Word.TheVariants as words
use Rattle.isp_tokens.specs.Phrases.{Phrase, ◌⨾◌, optional, each, list, word, symbol, name, digits, zero_digit, enclosed, called}
use Rattle.isp_sql.specs.Grammar.{signed, plain, geometry, literal, row, atom, condition, not_null, kind, column, index, key_column, set, shown, statement}
use Rattle.isp_tokens.specs.OneToken.{Outcome, begins_word, begins_symbol, begins_name, begins_column, word_at, symbol_at, name_at, text_at, digits_at, zero_at, op_at, equal_at, test_at}
use Rattle.isp_sql.specs.Reading.{more_at, list_at, plain_at, system_at, geometry_at, literal_at, compared_at, column_first_at, column_second_at, arguments_at, spatial_at, atom_at, where_at, not_null_at, key_at, big_int_at, var_char_at, geo_at, kind_at, column_at, index_at, definition_at, create_at, row_at, insert_at, shown_at, select_at, set_at, update_at, delete_at, transaction_at, change_at, statement_at, parsed_in}
use Rattle.isp_tokens.specs.Tokens.{is_symbol}
use Rattle.isp_tokens.specs.Words.{is_word, exchanged}
use Rattle.isp_sql.proofs.SoundForms.{twice}
use Rattle.isp_tokens.proofs.OneTokenComplete.{if_true, if_false, bind_is, word_again, symbol_again, name_again, text_again, digits_again, op_again, zero_again, equal_again, test_again, Shrinks, one_shrinks, both_shrink, either_shrinks, empty_shrinks, called_shrinks}
use Rattle.isp_sql.proofs.CompleteReading.{IsComplete, more_again, list_again, list_shrinks}

-- whatever follows
abbrev Any : List Token → Type 0
Any left = Unit {0}

-- ---- values

signed_shrinks : (minus : Bool) (d : List ℕ) → Shrinks (signed minus d)
signed_shrinks true d = both_shrink (symbol Minus) (digits d) (one_shrinks _) (one_shrinks _)
signed_shrinks false d = one_shrinks _

plain_shrinks : (x : Literal) → Shrinks (plain x)
plain_shrinks (literals.Number minus d) tokens left m = signed_shrinks minus d tokens left m
plain_shrinks (literals.Text s) tokens left m = one_shrinks _ tokens left m
plain_shrinks (literals.Wkt s) tokens left m = absurd m

pub plain_again : (x : Literal) (tokens left : List Token) → plain x tokens left → plain_at tokens ≡ Some (x, left)
unfolding plain_at is_symbol
plain_again (literals.Number true d) tokens left m = ap plain_at (m.1 ∙ ap (λ (ts : List Token). token.Symbol Minus ∷ ts) m.2)
plain_again (literals.Number false d) tokens left m = ap plain_at m
plain_again (literals.Text s) tokens left m = ap plain_at m
plain_again (literals.Wkt s) tokens left m = absurd m

system_again : (tokens left : List Token) → optional (symbol Comma ⨾ zero_digit) tokens left → begins_symbol Comma left ≡ false → system_at tokens ≡ Some (tt, left)
unfolding system_at is_symbol
system_again tokens left (inl e) f = ap system_at e ∙ if_false (begins_symbol Comma left) _ _ f
system_again tokens left (inr m) f = ap system_at (m.1 ∙ ap (λ (ts : List Token). token.Symbol Comma ∷ ts) m.2)

geometry_shrinks : (g : List ℕ) → Shrinks (geometry g)
geometry_shrinks g =
    both_shrink _ _ (one_shrinks _) (both_shrink _ _ (one_shrinks _) (both_shrink _ _ (both_shrink _ _ (one_shrinks _)
    (either_shrinks _ _ empty_shrinks (both_shrink _ _ (one_shrinks _) (one_shrinks _)))) (one_shrinks _)))

pub geometry_again : (g : List ℕ) (tokens left : List Token) → geometry g tokens left → geometry_at tokens ≡ Some (g, left)
unfolding geometry_at is_symbol
geometry_again g tokens left m =
    let closes : begins_symbol Comma m.2.2.0 ≡ false = ap (begins_symbol Comma) m.2.2.2 in
    bind_is (word_at words.GeomFromText tokens) (tt, m.0) _ (word_again _ _ _ m.1)
    ∙ (bind_is (symbol_at Open m.0) (tt, m.2.0) _ (symbol_again _ _ _ m.2.1)
    ∙ (bind_is (text_at m.2.0) (g, m.2.2.1.0) _ (text_again _ _ _ m.2.2.1.1)
    ∙ (bind_is (system_at m.2.2.1.0) (tt, m.2.2.0) _ (system_again _ _ m.2.2.1.2 closes)
    ∙ bind_is (symbol_at Close m.2.2.0) (tt, left) _ (symbol_again _ _ _ m.2.2.2))))

literal_shrinks : (x : Literal) → Shrinks (literal x)
literal_shrinks (literals.Wkt g) = geometry_shrinks g
literal_shrinks (literals.Number minus d) = plain_shrinks (literals.Number minus d)
literal_shrinks (literals.Text s) = plain_shrinks (literals.Text s)

literal_again : IsComplete literal Any literal_at
unfolding literal_at is_word
literal_again (literals.Wkt g) tokens left m f =
    if_true (begins_word words.GeomFromText tokens) _ _ (ap (begins_word words.GeomFromText) m.1) ∙ bind_is (geometry_at tokens) (g, left) _ (geometry_again g tokens left m)
literal_again (literals.Number true d) tokens left m f = if_false (begins_word words.GeomFromText tokens) _ _ (ap (begins_word words.GeomFromText) m.1) ∙ plain_again (literals.Number true d) tokens left m
literal_again (literals.Number false d) tokens left m f = if_false (begins_word words.GeomFromText tokens) _ _ (ap (begins_word words.GeomFromText) m) ∙ plain_again (literals.Number false d) tokens left m
literal_again (literals.Text s) tokens left m f = if_false (begins_word words.GeomFromText tokens) _ _ (ap (begins_word words.GeomFromText) m) ∙ plain_again (literals.Text s) tokens left m

-- a comma is what members are separated by
comma_next : {X : Type 0} (P : X → Phrase) (x : X) (tokens mid left : List Token) → symbol Comma tokens mid → P x mid left → begins_symbol Comma tokens ≡ true
unfolding is_symbol
comma_next P x tokens mid left e m = ap (begins_symbol Comma) e

-- a list of values that end by themselves, with commas between
commas_again : {X : Type 0} (P : X → Phrase) (item : List Token → Outcome X) → IsComplete P Any item → ((x : X) → Shrinks (P x))
    → (xs : List X) (tokens left : List Token) → list (symbol Comma) P xs tokens left → begins_symbol Comma left ≡ false → list_at going.Comma item tokens ≡ Some (xs, left)
commas_again P item again shrinks xs tokens left m stop =
    list_again P Any item going.Comma again shrinks (λ ts mid e. tt) (comma_next P) xs tokens left m stop tt

row_shrinks : (x : List Literal) → Shrinks (row x)
row_shrinks x = both_shrink _ _ (one_shrinks _) (both_shrink _ _ (list_shrinks literal going.Comma literal_shrinks x) (one_shrinks _))

row_again : IsComplete row Any row_at
unfolding row_at is_symbol
row_again x tokens left m f =
    bind_is (symbol_at Open tokens) (tt, m.0) _ (symbol_again _ _ _ m.1)
    ∙ (bind_is (list_at going.Comma literal_at m.0) (x, m.2.0) _ (commas_again literal literal_at literal_again literal_shrinks x m.0 m.2.0 m.2.1 (ap (begins_symbol Comma) m.2.2))
    ∙ bind_is (symbol_at Close m.2.0) (tt, left) _ (symbol_again _ _ _ m.2.2))

-- ---- conditions

atom_shrinks : (x : ParsedAtom) → Shrinks (atom x)
atom_shrinks (atoms.Cmp c o v) = both_shrink _ _ (one_shrinks _) (both_shrink _ _ (one_shrinks _) (plain_shrinks v))
atom_shrinks (atoms.Box c t g) =
    either_shrinks _ _
    (both_shrink _ _ (called_shrinks t) (both_shrink _ _ (one_shrinks _) (both_shrink _ _ (both_shrink _ _ (one_shrinks _) (both_shrink _ _ (one_shrinks _) (geometry_shrinks g))) (one_shrinks _))))
    (both_shrink _ _ (called_shrinks (exchanged t)) (both_shrink _ _ (one_shrinks _) (both_shrink _ _ (both_shrink _ _ (geometry_shrinks g) (both_shrink _ _ (one_shrinks _) (one_shrinks _))) (one_shrinks _))))

compared_again : (c : List ℕ) (o : Op) (v : Literal) (tokens left : List Token) → atom (atoms.Cmp c o v) tokens left → compared_at tokens ≡ Some (atoms.Cmp c o v, left)
unfolding compared_at
compared_again c o v tokens left m =
    bind_is (name_at tokens) (c, m.0) _ (name_again _ _ _ m.1)
    ∙ (bind_is (op_at m.0) (o, m.2.0) _ (op_again _ _ _ m.2.1)
    ∙ bind_is (plain_at m.2.0) (v, left) _ (plain_again v _ _ m.2.2))

first_again : (c g : List ℕ) (t : Test) (tokens left : List Token) → (name c ⨾ symbol Comma ⨾ geometry g) tokens left → arguments_at t tokens ≡ Some (atoms.Box c t g, left)
unfolding arguments_at column_first_at
first_again c g t tokens left m =
    if_true (begins_name tokens) _ _ (ap begins_name m.1)
    ∙ (bind_is (name_at tokens) (c, m.0) _ (name_again _ _ _ m.1)
    ∙ (bind_is (symbol_at Comma m.0) (tt, m.2.0) _ (symbol_again _ _ _ m.2.1)
    ∙ bind_is (geometry_at m.2.0) (g, left) _ (geometry_again g _ _ m.2.2)))

second_again : (c g : List ℕ) (t : Test) (tokens left : List Token) → (geometry g ⨾ symbol Comma ⨾ name c) tokens left → arguments_at t tokens ≡ Some (atoms.Box c (exchanged t) g, left)
unfolding arguments_at column_second_at
second_again c g t tokens left m =
    if_false (begins_name tokens) _ _ (ap begins_name m.1.1)
    ∙ (bind_is (geometry_at tokens) (g, m.0) _ (geometry_again g _ _ m.1)
    ∙ (bind_is (symbol_at Comma m.0) (tt, m.2.0) _ (symbol_again _ _ _ m.2.1)
    ∙ bind_is (name_at m.2.0) (c, left) _ (name_again _ _ _ m.2.2)))

spatial_again : (a : ParsedAtom) (t : Test) (tokens opened inner closed left : List Token) → called t tokens opened → symbol Open opened inner → arguments_at t inner ≡ Some (a, closed) → symbol Close closed left
    → spatial_at tokens ≡ Some (a, left)
unfolding spatial_at
spatial_again a t tokens opened inner closed left f o args c =
    bind_is (test_at tokens) (t, opened) _ (test_again _ _ _ f)
    ∙ (bind_is (symbol_at Open opened) (tt, inner) _ (symbol_again _ _ _ o)
    ∙ (bind_is (arguments_at t inner) (a, closed) _ args
    ∙ bind_is (symbol_at Close closed) (tt, left) _ (symbol_again _ _ _ c)))

atom_again : IsComplete atom Any atom_at
unfolding atom_at
atom_again (atoms.Cmp c o v) tokens left m f = if_true (begins_name tokens) _ _ (ap begins_name m.1) ∙ compared_again c o v tokens left m
atom_again (atoms.Box c t g) tokens left (inl m) f =
    if_false (begins_name tokens) _ _ (ap begins_name m.1.2)
    ∙ spatial_again (atoms.Box c t g) t tokens m.0 m.2.0 m.2.2.0 left m.1 m.2.1 (first_again c g t _ _ m.2.2.1) m.2.2.2
atom_again (atoms.Box c t g) tokens left (inr m) f =
    if_false (begins_name tokens) _ _ (ap begins_name m.1.2)
    ∙ spatial_again (atoms.Box c t g) (exchanged t) tokens m.0 m.2.0 m.2.2.0 left m.1 m.2.1
    (second_again c g (exchanged t) _ _ m.2.2.1 ∙ ap (λ (u : Test). Some (atoms.Box c u g, m.2.2.0)) (twice t)) m.2.2.2

and_next : (x : ParsedAtom) (tokens mid left : List Token) → word words.And tokens mid → atom x mid left → begins_word words.And tokens ≡ true
unfolding is_word
and_next x tokens mid left e m = ap (begins_word words.And) e

-- a condition stands at the end
where_again : (x : List ParsedAtom) (tokens : List Token) → condition x tokens [] → where_at tokens ≡ Some (x, [])
unfolding where_at is_word
where_again [] tokens e = ap where_at e
where_again (a ∷ others) tokens m =
    if_true (begins_word words.Where tokens) _ _ (ap (begins_word words.Where) m.1)
    ∙ (ap (λ (ts : List Token). list_at going.And atom_at (drop 1 ts)) m.1
    ∙ list_again atom Any atom_at going.And atom_again atom_shrinks (λ ts mid e. tt) and_next (a ∷ others) m.0 [] m.2 refl tt)

-- no comma begins a condition
condition_stops : (x : List ParsedAtom) (tokens : List Token) → condition x tokens [] → begins_symbol Comma tokens ≡ false
condition_stops [] tokens e = ap (begins_symbol Comma) e
condition_stops (a ∷ others) tokens m = ap (begins_symbol Comma) m.1

-- ---- definitions of tables

abbrev NoNot : List Token → Type 0
NoNot left = begins_word words.Not left ≡ false

not_null_shrinks : Shrinks not_null
not_null_shrinks = either_shrinks _ _ empty_shrinks (both_shrink _ _ (one_shrinks _) (one_shrinks _))

not_null_again : (tokens left : List Token) → not_null tokens left → NoNot left → not_null_at tokens ≡ Some (tt, left)
unfolding not_null_at is_word
not_null_again tokens left (inl e) f = ap not_null_at e ∙ if_false (begins_word words.Not left) _ _ f
not_null_again tokens left (inr m) f = ap not_null_at (m.1 ∙ ap (λ (ts : List Token). token.Word words.Not ∷ ts) m.2)

key_again : (n : List ℕ) (tokens left : List Token) → key_column n tokens left → key_at tokens ≡ Some (n, left)
unfolding key_at is_word
key_again n tokens left m =
    let primary : NoNot m.2.2.0 = ap (begins_word words.Not) m.2.2.2.1 in
    bind_is (name_at tokens) (n, m.0) _ (name_again _ _ _ m.1)
    ∙ (bind_is (word_at words.BigInt m.0) (tt, m.2.0) _ (word_again _ _ _ m.2.1)
    ∙ (bind_is (not_null_at m.2.0) (tt, m.2.2.0) _ (not_null_again _ _ m.2.2.1 primary)
    ∙ (bind_is (word_at words.Primary m.2.2.0) (tt, m.2.2.2.0) _ (word_again _ _ _ m.2.2.2.1)
    ∙ bind_is (word_at words.Key m.2.2.2.0) (tt, left) _ (word_again _ _ _ m.2.2.2.2))))

kind_shrinks : (k : ParsedKind) → Shrinks (kind k)
kind_shrinks kinds.BigInt = both_shrink _ _ (one_shrinks _) not_null_shrinks
kind_shrinks (kinds.VarChar d) = both_shrink _ _ (one_shrinks _) (both_shrink _ _ (both_shrink _ _ (one_shrinks _) (both_shrink _ _ (one_shrinks _) (one_shrinks _))) not_null_shrinks)
kind_shrinks kinds.Geo = both_shrink _ _ (one_shrinks _) (both_shrink _ _ (one_shrinks _) (both_shrink _ _ (one_shrinks _) (both_shrink _ _ (one_shrinks _) (one_shrinks _))))

kind_again : IsComplete kind NoNot kind_at
unfolding kind_at big_int_at var_char_at geo_at is_word
kind_again kinds.BigInt tokens left m f =
    if_true (begins_word words.BigInt tokens) _ _ (ap (begins_word words.BigInt) m.1)
    ∙ (bind_is (word_at words.BigInt tokens) (tt, m.0) _ (word_again _ _ _ m.1)
    ∙ bind_is (not_null_at m.0) (tt, left) _ (not_null_again _ _ m.2 f))
kind_again (kinds.VarChar d) tokens left m f =
    if_false (begins_word words.BigInt tokens) _ _ (ap (begins_word words.BigInt) m.1)
    ∙ (if_true (begins_word words.VarChar tokens) _ _ (ap (begins_word words.VarChar) m.1)
    ∙ (bind_is (word_at words.VarChar tokens) (tt, m.0) _ (word_again _ _ _ m.1)
    ∙ (bind_is (symbol_at Open m.0) (tt, m.2.1.0) _ (symbol_again _ _ _ m.2.1.1)
    ∙ (bind_is (digits_at m.2.1.0) (d, m.2.1.2.0) _ (digits_again _ _ _ m.2.1.2.1)
    ∙ (bind_is (symbol_at Close m.2.1.2.0) (tt, m.2.0) _ (symbol_again _ _ _ m.2.1.2.2)
    ∙ bind_is (not_null_at m.2.0) (tt, left) _ (not_null_again _ _ m.2.2 f))))))
kind_again kinds.Geo tokens left m f =
    if_false (begins_word words.BigInt tokens) _ _ (ap (begins_word words.BigInt) m.1)
    ∙ (if_false (begins_word words.VarChar tokens) _ _ (ap (begins_word words.VarChar) m.1)
    ∙ (bind_is (word_at words.Geometry tokens) (tt, m.0) _ (word_again _ _ _ m.1)
    ∙ (bind_is (word_at words.Not m.0) (tt, m.2.0) _ (word_again _ _ _ m.2.1)
    ∙ (bind_is (word_at words.Null m.2.0) (tt, m.2.2.0) _ (word_again _ _ _ m.2.2.1)
    ∙ (bind_is (word_at words.Srid m.2.2.0) (tt, m.2.2.2.0) _ (word_again _ _ _ m.2.2.2.1)
    ∙ bind_is (zero_at m.2.2.2.0) (tt, left) _ (zero_again _ _ m.2.2.2.2))))))

column_shrinks : (c : ParsedColumn) → Shrinks (column c)
column_shrinks c = both_shrink _ _ (one_shrinks _) (kind_shrinks c.kind)

column_again : IsComplete column NoNot column_at
unfolding column_at
column_again c tokens left m f =
    bind_is (name_at tokens) (c.name, m.0) _ (name_again _ _ _ m.1)
    ∙ bind_is (kind_at m.0) (c.kind, left) _ (kind_again c.kind m.0 left m.2 f)

column_next : (c : ParsedColumn) (tokens mid left : List Token) → symbol Comma tokens mid → column c mid left → begins_column tokens ≡ true
column_next c tokens mid left e m = ap begins_column (e ∙ ap (λ (ts : List Token). token.Symbol Comma ∷ ts) m.1)

index_shrinks : (n : List ℕ) → Shrinks (index n)
index_shrinks n = both_shrink _ _ (one_shrinks _) (both_shrink _ _ (one_shrinks _) (both_shrink _ _ (one_shrinks _) (both_shrink _ _ (one_shrinks _) (one_shrinks _))))

index_again : IsComplete index Any index_at
unfolding index_at
index_again n tokens left m f =
    bind_is (word_at words.Spatial tokens) (tt, m.0) _ (word_again _ _ _ m.1)
    ∙ (bind_is (word_at words.Index m.0) (tt, m.2.0) _ (word_again _ _ _ m.2.1)
    ∙ (bind_is (symbol_at Open m.2.0) (tt, m.2.2.0) _ (symbol_again _ _ _ m.2.2.1)
    ∙ (bind_is (name_at m.2.2.0) (n, m.2.2.2.0) _ (name_again _ _ _ m.2.2.2.1)
    ∙ bind_is (symbol_at Close m.2.2.2.0) (tt, left) _ (symbol_again _ _ _ m.2.2.2.2))))

comma_begins : (tokens left : List Token) → symbol Comma tokens left → NoNot tokens
comma_begins tokens left e = ap (begins_word words.Not) e

-- behind the columns stands an index or the closing parenthesis
columns_stop : (indexes : List (List ℕ)) (tokens mid left : List Token) → each (symbol Comma) index indexes tokens mid → symbol Close mid left → (begins_column tokens ≡ false) × NoNot tokens
columns_stop [] tokens mid left e c = (ap begins_column (e ∙ c), ap (begins_word words.Not) (e ∙ c))
columns_stop (n ∷ others) tokens mid left m c =
    (ap begins_column (m.1 ∙ ap (λ (ts : List Token). token.Symbol Comma ∷ ts) m.2.1.1), ap (begins_word words.Not) m.1)

definition_again : (table key : List ℕ) (columns : List ParsedColumn) (indexes : List (List ℕ)) (tokens mid left : List Token)
    → (key_column key ⨾ each (symbol Comma) column columns ⨾ each (symbol Comma) index indexes) tokens mid → symbol Close mid left
    → definition_at table tokens ≡ Some (parsed.Create table key columns indexes, mid)
unfolding definition_at is_symbol
definition_again table key columns indexes tokens mid left m c =
    let stops = columns_stop indexes m.2.0 mid left m.2.2 c in
    bind_is (key_at tokens) (key, m.0) _ (key_again _ _ _ m.1)
    ∙ (bind_is (more_at going.Column column_at m.0) (columns, m.2.0) _
    (more_again column NoNot column_at going.Column column_again column_shrinks comma_begins column_next columns m.0 m.2.0 m.2.1 stops.0 stops.1)
    ∙ bind_is (more_at going.Comma index_at m.2.0) (indexes, mid) _
    (more_again index Any index_at going.Comma index_again index_shrinks (λ ts left e. tt) (comma_next index) indexes m.2.0 mid m.2.2 (ap (begins_symbol Comma) c) tt))

-- ---- statements

set_shrinks : (s : ParsedSet) → Shrinks (set s)
set_shrinks s = both_shrink _ _ (one_shrinks _) (both_shrink _ _ (one_shrinks _) (literal_shrinks s.v))

set_again : IsComplete set Any set_at
unfolding set_at
set_again s tokens left m f =
    bind_is (name_at tokens) (s.column, m.0) _ (name_again _ _ _ m.1)
    ∙ (bind_is (equal_at m.0) (tt, m.2.0) _ (equal_again _ _ m.2.1)
    ∙ bind_is (literal_at m.2.0) (s.v, left) _ (literal_again s.v m.2.0 left m.2.2 tt))

names_again : IsComplete name Any name_at
names_again n tokens left m f = name_again n tokens left m

shown_again : (columns : Option (List (List ℕ))) (tokens left : List Token) → shown columns tokens left → begins_symbol Comma left ≡ false → shown_at tokens ≡ Some (columns, left)
unfolding shown_at is_symbol
shown_again None tokens left e f = ap shown_at e
shown_again (Some []) tokens left m f = absurd m
shown_again (Some (n ∷ names)) tokens left m f =
    if_false (begins_symbol Star tokens) _ _ (ap (begins_symbol Star) m.1)
    ∙ bind_is (list_at going.Comma name_at tokens) (n ∷ names, left) _ (commas_again name name_at names_again (λ n. one_shrinks _) (n ∷ names) tokens left m f)

abbrev IsRead : Parsed → List Token → Type 0
IsRead p tokens = statement_at tokens ≡ Some (p, [])

create_again : (table key : List ℕ) (columns : List ParsedColumn) (indexes : List (List ℕ)) (tokens : List Token)
    → (word words.Table ⨾ name table ⨾ enclosed (key_column key ⨾ each (symbol Comma) column columns ⨾ each (symbol Comma) index indexes)) tokens []
    → create_at tokens ≡ Some (parsed.Create table key columns indexes, [])
unfolding create_at
create_again table key columns indexes tokens m =
    bind_is (word_at words.Table tokens) (tt, m.0) _ (word_again _ _ _ m.1)
    ∙ (bind_is (name_at m.0) (table, m.2.0) _ (name_again _ _ _ m.2.1)
    ∙ (bind_is (symbol_at Open m.2.0) (tt, m.2.2.0) _ (symbol_again _ _ _ m.2.2.1)
    ∙ (bind_is (definition_at table m.2.2.0) (parsed.Create table key columns indexes, m.2.2.2.0) _ (definition_again table key columns indexes _ _ [] m.2.2.2.1 m.2.2.2.2)
    ∙ bind_is (symbol_at Close m.2.2.2.0) (tt, []) _ (symbol_again _ _ _ m.2.2.2.2))))

insert_again : (table : List ℕ) (rows : List (List Literal)) (tokens : List Token) → (word words.Into ⨾ name table ⨾ word words.Values ⨾ list (symbol Comma) row rows) tokens []
    → insert_at tokens ≡ Some (parsed.Insert table rows, [])
unfolding insert_at
insert_again table rows tokens m =
    bind_is (word_at words.Into tokens) (tt, m.0) _ (word_again _ _ _ m.1)
    ∙ (bind_is (name_at m.0) (table, m.2.0) _ (name_again _ _ _ m.2.1)
    ∙ (bind_is (word_at words.Values m.2.0) (tt, m.2.2.0) _ (word_again _ _ _ m.2.2.1)
    ∙ bind_is (list_at going.Comma row_at m.2.2.0) (rows, []) _ (commas_again row row_at row_again row_shrinks rows m.2.2.0 [] m.2.2.2 refl)))

select_again : (table : List ℕ) (columns : Option (List (List ℕ))) (w : List ParsedAtom) (tokens : List Token) → (shown columns ⨾ word words.From ⨾ name table ⨾ condition w) tokens []
    → select_at tokens ≡ Some (parsed.Select table columns w, [])
unfolding select_at
select_again table columns w tokens m =
    bind_is (shown_at tokens) (columns, m.0) _ (shown_again columns tokens m.0 m.1 (ap (begins_symbol Comma) m.2.1))
    ∙ (bind_is (word_at words.From m.0) (tt, m.2.0) _ (word_again _ _ _ m.2.1)
    ∙ (bind_is (name_at m.2.0) (table, m.2.2.0) _ (name_again _ _ _ m.2.2.1)
    ∙ bind_is (where_at m.2.2.0) (w, []) _ (where_again w _ m.2.2.2)))

update_again : (table : List ℕ) (sets : List ParsedSet) (w : List ParsedAtom) (tokens : List Token) → (name table ⨾ word words.Set ⨾ list (symbol Comma) set sets ⨾ condition w) tokens []
    → update_at tokens ≡ Some (parsed.Update table sets w, [])
unfolding update_at
update_again table sets w tokens m =
    bind_is (name_at tokens) (table, m.0) _ (name_again _ _ _ m.1)
    ∙ (bind_is (word_at words.Set m.0) (tt, m.2.0) _ (word_again _ _ _ m.2.1)
    ∙ (bind_is (list_at going.Comma set_at m.2.0) (sets, m.2.2.0) _ (commas_again set set_at set_again set_shrinks sets m.2.0 m.2.2.0 m.2.2.1 (condition_stops w _ m.2.2.2))
    ∙ bind_is (where_at m.2.2.0) (w, []) _ (where_again w _ m.2.2.2)))

delete_again : (table : List ℕ) (w : List ParsedAtom) (tokens : List Token) → (word words.From ⨾ name table ⨾ condition w) tokens [] → delete_at tokens ≡ Some (parsed.Delete table w, [])
unfolding delete_at
delete_again table w tokens m =
    bind_is (word_at words.From tokens) (tt, m.0) _ (word_again _ _ _ m.1)
    ∙ (bind_is (name_at m.0) (table, m.2.0) _ (name_again _ _ _ m.2.1)
    ∙ bind_is (where_at m.2.0) (w, []) _ (where_again w _ m.2.2))

pub statement_again : (p : Parsed) (tokens : List Token) → statement p tokens [] → IsRead p tokens
unfolding statement_at change_at transaction_at is_word
statement_again (parsed.Create table key columns indexes) tokens m = ap statement_at m.1 ∙ create_again table key columns indexes m.0 m.2
statement_again (parsed.Insert table rows) tokens m = ap statement_at m.1 ∙ insert_again table rows m.0 m.2
statement_again (parsed.Select table columns w) tokens m = ap statement_at m.1 ∙ select_again table columns w m.0 m.2
statement_again (parsed.Update table sets w) tokens m = ap statement_at m.1 ∙ update_again table sets w m.0 m.2
statement_again (parsed.Delete table w) tokens m = ap statement_at m.1 ∙ delete_again table w m.0 m.2
statement_again parsed.Begin tokens (inl e) = ap statement_at e
statement_again parsed.Begin tokens (inr m) = ap statement_at (m.1 ∙ ap (λ (ts : List Token). token.Word words.Start ∷ ts) m.2)
statement_again parsed.Commit tokens e = ap statement_at e
statement_again parsed.Rollback tokens e = ap statement_at e

pub parsed_again : (p : Parsed) (tokens : List Token) → statement p tokens [] → parsed_in tokens ≡ Some p
unfolding parsed_in
parsed_again p tokens m = bind_is (statement_at tokens) (p, []) _ (statement_again p tokens m)
