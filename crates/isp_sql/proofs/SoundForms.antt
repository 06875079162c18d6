-- What is read of tokens is what they are written for, production by production.
use Rattle.std.proofs.Common.{◌≡◌, ℕ, true, false, ◌⊎◌, inl, inr, List, [], ◌∷◌, drop, Some, None, refl, sym, subst}
use Rattle.isp_mbr.specs.declared.Test.{Test}
use Rattle.isp_mbr.specs.declared.Test.TheVariants as tests
use Rattle.isp_sql.specs.declared.members.Going.TheVariants as going
use Rattle.isp_sql.specs.declared.parsed.Literal.{Literal}
use Rattle.isp_sql.specs.declared.parsed.Literal.TheVariants as literals
use Rattle.isp_sql.specs.declared.parsed.Parsed.{Parsed}
use Rattle.isp_sql.specs.declared.parsed.Parsed.TheVariants as parsed
use Rattle.isp_sql.specs.declared.parsed.ParsedAtom.{ParsedAtom}
use Rattle.isp_sql.specs.declared.parsed.ParsedAtom.TheVariants as atoms
use Rattle.isp_sql.specs.declared.parsed.ParsedColumn.{ParsedColumn}
use Rattle.isp_sql.specs.declared.parsed.ParsedKind.TheVariants as kinds
use Rattle.isp_sql.specs.declared.parsed.ParsedSet.{ParsedSet}
use Rattle.isp_tokens.specs.declared.token.Symbol.TheVariants.{Open, Close, Comma, Star, Minus}
use Rattle.isp_tokens.specs.declared.token.Token.{Token}
use Rattle.isp_tokens.specs.declared.words.Word.TheVariants as words
use Rattle.isp_tokens.specs.Phrases.{Phrase, ◌⨾◌, optional, each, list, word, symbol, name, zero_digit, called}
use Rattle.isp_sql.specs.Grammar.{plain, geometry, literal, row, atom, condition, not_null, kind, column, index, key_column, set, shown, statement}
use Rattle.isp_tokens.specs.OneToken.{begins_word, begins_symbol, begins_name, begins_digits, word_at, symbol_at, name_at, text_at, digits_at, zero_at, op_at, equal_at, test_at}
use Rattle.isp_sql.specs.Reading.{more_at, list_at, plain_at, system_at, geometry_at, literal_at, compared_at, column_first_at, column_second_at, arguments_at, spatial_at, atom_at, where_at, not_null_at, key_at, big_int_at, var_char_at, geo_at, kind_at, column_at, index_at, definition_at, create_at, row_at, insert_at, shown_at, select_at, set_at, update_at, delete_at, transaction_at, change_at, statement_at, alone, parsed_in}
use Rattle.isp_tokens.specs.Words.{exchanged}
use Rattle.isp_tokens.proofs.OneTokenSound.{bind_some, chosen, never, moved, IsSound, IsRead, word_begins, symbol_begins, word_back, symbol_back, name_sound, text_sound, digits_sound, op_sound, zero_back, equal_back, test_sound}
use Rattle.isp_sql.proofs.SoundReading.{more_sound, list_sound}

-- ---- values

pub plain_sound : IsSound plain plain_at
unfolding plain_at
plain_sound tokens x left e =
    elim (chosen (begins_symbol Minus tokens) _ _ _ e) [
      | inl h ↦ let d = bind_some (digits_at (drop 1 tokens)) _ _ h.1 in
          moved plain tokens (literals.Number true d.0.0) x d.0.1 left d.2 (drop 1 tokens, symbol_begins Minus tokens h.0, digits_sound _ _ _ d.1)
      | inr h ↦ elim (chosen (begins_digits tokens) _ _ _ h.1) [
        | inl k ↦ let d = bind_some (digits_at tokens) _ _ k.1 in moved plain tokens (literals.Number false d.0.0) x d.0.1 left d.2 (digits_sound _ _ _ d.1)
        | inr k ↦ let s = bind_some (text_at tokens) _ _ k.1 in moved plain tokens (literals.Text s.0.0) x s.0.1 left s.2 (text_sound _ _ _ s.1)
      ]
    ]

system_back : IsRead (optional (symbol Comma ⨾ zero_digit)) system_at
unfolding system_at
system_back tokens u left e =
    elim (chosen (begins_symbol Comma tokens) _ _ _ e) [
      | inl h ↦ inr (drop 1 tokens, symbol_begins Comma tokens h.0, zero_back (drop 1 tokens) u left h.1)
      | inr h ↦ moved (λ (u : Unit {0}). optional (symbol Comma ⨾ zero_digit)) tokens tt u tokens left h.1 (inl refl)
    ]

pub geometry_sound : IsSound geometry geometry_at
unfolding geometry_at
geometry_sound tokens x left e =
    let a = bind_some (word_at words.GeomFromText tokens) _ _ e in
    let b = bind_some (symbol_at Open a.0.1) _ _ a.2 in
    let s = bind_some (text_at b.0.1) _ _ b.2 in
    let z = bind_some (system_at s.0.1) _ _ s.2 in
    let c = bind_some (symbol_at Close z.0.1) _ _ z.2 in
    moved geometry tokens s.0.0 x c.0.1 left c.2
    (a.0.1, word_back _ _ _ _ a.1, (b.0.1, symbol_back _ _ _ _ b.1, (z.0.1, (s.0.1, text_sound _ _ _ s.1, system_back _ _ _ z.1), symbol_back _ _ _ _ c.1)))

plain_literal : (x : Literal) (tokens left : List Token) → plain x tokens left → literal x tokens left
plain_literal (literals.Number minus d) tokens left p = p
plain_literal (literals.Text text) tokens left p = p
plain_literal (literals.Wkt text) tokens left p = absurd p

pub literal_sound : IsSound literal literal_at
unfolding literal_at
literal_sound tokens x left e =
    elim (chosen (begins_word words.GeomFromText tokens) _ _ _ e) [
      | inl h ↦ let g = bind_some (geometry_at tokens) _ _ h.1 in moved literal tokens (literals.Wkt g.0.0) x g.0.1 left g.2 (geometry_sound _ _ _ g.1)
      | inr h ↦ plain_literal x tokens left (plain_sound tokens x left h.1)
    ]

row_sound : IsSound row row_at
unfolding row_at
row_sound tokens x left e =
    let o = bind_some (symbol_at Open tokens) _ _ e in
    let l = bind_some (list_at going.Comma literal_at o.0.1) _ _ o.2 in
    let c = bind_some (symbol_at Close l.0.1) _ _ l.2 in
    moved row tokens l.0.0 x c.0.1 left c.2
    (o.0.1, symbol_back _ _ _ _ o.1, (l.0.1, list_sound literal literal_at literal_sound going.Comma _ _ _ l.1, symbol_back _ _ _ _ c.1))

-- ---- conditions

compared_sound : IsSound atom compared_at
unfolding compared_at
compared_sound tokens x left e =
    let n = bind_some (name_at tokens) _ _ e in
    let o = bind_some (op_at n.0.1) _ _ n.2 in
    let v = bind_some (plain_at o.0.1) _ _ o.2 in
    moved atom tokens (atoms.Cmp n.0.0 o.0.0 v.0.0) x v.0.1 left v.2 (n.0.1, name_sound _ _ _ n.1, (o.0.1, op_sound _ _ _ o.1, plain_sound _ _ _ v.1))

pub twice : (t : Test) → exchanged (exchanged t) ≡ t
twice tests.Covers = refl
twice tests.Within = refl
twice tests.Intersects = refl
twice tests.Disjoint = refl
twice tests.Equals = refl

-- the arguments of a test, either way round
abbrev Arguments : Test → ParsedAtom → Phrase
Arguments t a tokens left =
    (column : List ℕ) × (g : List ℕ) × (((a ≡ atoms.Box column t g) × (name column ⨾ symbol Comma ⨾ geometry g) tokens left)
    ⊎ ((a ≡ atoms.Box column (exchanged t) g) × (geometry g ⨾ symbol Comma ⨾ name column) tokens left))

first_sound : (t : Test) → IsSound (Arguments t) (column_first_at t)
unfolding column_first_at
first_sound t tokens x left e =
    let n = bind_some (name_at tokens) _ _ e in
    let c = bind_some (symbol_at Comma n.0.1) _ _ n.2 in
    let g = bind_some (geometry_at c.0.1) _ _ c.2 in
    moved (Arguments t) tokens (atoms.Box n.0.0 t g.0.0) x g.0.1 left g.2
    (n.0.0, g.0.0, inl (refl, (n.0.1, name_sound _ _ _ n.1, (c.0.1, symbol_back _ _ _ _ c.1, geometry_sound _ _ _ g.1))))

second_sound : (t : Test) → IsSound (Arguments t) (column_second_at t)
unfolding column_second_at
second_sound t tokens x left e =
    let g = bind_some (geometry_at tokens) _ _ e in
    let c = bind_some (symbol_at Comma g.0.1) _ _ g.2 in
    let n = bind_some (name_at c.0.1) _ _ c.2 in
    moved (Arguments t) tokens (atoms.Box n.0.0 (exchanged t) g.0.0) x n.0.1 left n.2
    (n.0.0, g.0.0, inr (refl, (g.0.1, geometry_sound _ _ _ g.1, (c.0.1, symbol_back _ _ _ _ c.1, name_sound _ _ _ n.1))))

arguments_sound : (t : Test) → IsSound (Arguments t) (arguments_at t)
unfolding arguments_at
arguments_sound t tokens x left e =
    elim (chosen (begins_name tokens) _ _ _ e) [
      | inl h ↦ first_sound t tokens x left h.1
      | inr h ↦ second_sound t tokens x left h.1
    ]

-- a function, an opening parenthesis, its arguments and the closing one
atom_of : (t : Test) (a : ParsedAtom) (tokens opened inner closed left : List Token) → called t tokens opened → symbol Open opened inner → Arguments t a inner closed → symbol Close closed left → atom a tokens left
atom_of t a tokens opened inner closed left f o args c =
    elim args.2 [
      | inl h ↦ subst (λ (b : ParsedAtom). atom b tokens left) (sym h.0) (inl (opened, f, (inner, o, (closed, h.1, c))))
      | inr h ↦ subst (λ (b : ParsedAtom). atom b tokens left) (sym h.0)
          (inr (opened, subst (λ (u : Test). called u tokens opened) (sym (twice t)) f, (inner, o, (closed, h.1, c))))
    ]

spatial_sound : IsSound atom spatial_at
unfolding spatial_at
spatial_sound tokens x left e =
    let t = bind_some (test_at tokens) _ _ e in
    let o = bind_some (symbol_at Open t.0.1) _ _ t.2 in
    let a = bind_some (arguments_at t.0.0 o.0.1) _ _ o.2 in
    let c = bind_some (symbol_at Close a.0.1) _ _ a.2 in
    moved atom tokens a.0.0 x c.0.1 left c.2
    (atom_of t.0.0 a.0.0 tokens t.0.1 o.0.1 a.0.1 c.0.1 (test_sound _ _ _ t.1) (symbol_back _ _ _ _ o.1) (arguments_sound _ _ _ _ a.1) (symbol_back _ _ _ _ c.1))

atom_sound : IsSound atom atom_at
unfolding atom_at
atom_sound tokens x left e =
    elim (chosen (begins_name tokens) _ _ _ e) [
      | inl h ↦ compared_sound tokens x left h.1
      | inr h ↦ spatial_sound tokens x left h.1
    ]

-- tests behind WHERE are one or more
behind_where : (x : List ParsedAtom) (tokens left : List Token) → word words.Where tokens (drop 1 tokens) → list (word words.And) atom x (drop 1 tokens) left → condition x tokens left
behind_where [] tokens left w l = absurd l
behind_where (a ∷ others) tokens left w l = (drop 1 tokens, w, l)

where_sound : IsSound condition where_at
unfolding where_at
where_sound tokens x left e =
    elim (chosen (begins_word words.Where tokens) _ _ _ e) [
      | inl h ↦ behind_where x tokens left (word_begins words.Where tokens h.0) (list_sound atom atom_at atom_sound going.And _ _ _ h.1)
      | inr h ↦ moved condition tokens [] x tokens left h.1 refl
    ]

-- ---- definitions of tables

not_null_back : IsRead not_null not_null_at
unfolding not_null_at
not_null_back tokens u left e =
    elim (chosen (begins_word words.Not tokens) _ _ _ e) [
      | inl h ↦ inr (drop 1 tokens, word_begins words.Not tokens h.0, word_back words.Null (drop 1 tokens) u left h.1)
      | inr h ↦ moved (λ (u : Unit {0}). not_null) tokens tt u tokens left h.1 (inl refl)
    ]

key_sound : IsSound key_column key_at
unfolding key_at
key_sound tokens x left e =
    let n = bind_some (name_at tokens) _ _ e in
    let b = bind_some (word_at words.BigInt n.0.1) _ _ n.2 in
    let o = bind_some (not_null_at b.0.1) _ _ b.2 in
    let p = bind_some (word_at words.Primary o.0.1) _ _ o.2 in
    let k = bind_some (word_at words.Key p.0.1) _ _ p.2 in
    moved key_column tokens n.0.0 x k.0.1 left k.2
    (n.0.1, name_sound _ _ _ n.1, (b.0.1, word_back _ _ _ _ b.1, (o.0.1, not_null_back _ _ _ o.1, (p.0.1, word_back _ _ _ _ p.1, word_back _ _ _ _ k.1))))

big_int_sound : IsSound kind big_int_at
unfolding big_int_at
big_int_sound tokens x left e =
    let b = bind_some (word_at words.BigInt tokens) _ _ e in
    let o = bind_some (not_null_at b.0.1) _ _ b.2 in
    moved kind tokens kinds.BigInt x o.0.1 left o.2 (b.0.1, word_back _ _ _ _ b.1, not_null_back _ _ _ o.1)

var_char_sound : IsSound kind var_char_at
unfolding var_char_at
var_char_sound tokens x left e =
    let v = bind_some (word_at words.VarChar tokens) _ _ e in
    let o = bind_some (symbol_at Open v.0.1) _ _ v.2 in
    let d = bind_some (digits_at o.0.1) _ _ o.2 in
    let c = bind_some (symbol_at Close d.0.1) _ _ d.2 in
    let n = bind_some (not_null_at c.0.1) _ _ c.2 in
    moved kind tokens (kinds.VarChar d.0.0) x n.0.1 left n.2
    (v.0.1, word_back _ _ _ _ v.1, (c.0.1, (o.0.1, symbol_back _ _ _ _ o.1, (d.0.1, digits_sound _ _ _ d.1, symbol_back _ _ _ _ c.1)), not_null_back _ _ _ n.1))

geo_sound : IsSound kind geo_at
unfolding geo_at
geo_sound tokens x left e =
    let g = bind_some (word_at words.Geometry tokens) _ _ e in
    let n = bind_some (word_at words.Not g.0.1) _ _ g.2 in
    let u = bind_some (word_at words.Null n.0.1) _ _ n.2 in
    let s = bind_some (word_at words.Srid u.0.1) _ _ u.2 in
    let z = bind_some (zero_at s.0.1) _ _ s.2 in
    moved kind tokens kinds.Geo x z.0.1 left z.2
    (g.0.1, word_back _ _ _ _ g.1, (n.0.1, word_back _ _ _ _ n.1, (u.0.1, word_back _ _ _ _ u.1, (s.0.1, word_back _ _ _ _ s.1, zero_back _ _ _ z.1))))

kind_sound : IsSound kind kind_at
unfolding kind_at
kind_sound tokens x left e =
    elim (chosen (begins_word words.BigInt tokens) _ _ _ e) [
      | inl h ↦ big_int_sound tokens x left h.1
      | inr h ↦ elim (chosen (begins_word words.VarChar tokens) _ _ _ h.1) [
        | inl k ↦ var_char_sound tokens x left k.1
        | inr k ↦ geo_sound tokens x left k.1
      ]
    ]

column_sound : IsSound column column_at
unfolding column_at
column_sound tokens x left e =
    let n = bind_some (name_at tokens) _ _ e in
    let k = bind_some (kind_at n.0.1) _ _ n.2 in
    let made : ParsedColumn = record { name = n.0.0; kind = k.0.0 } in
    moved column tokens made x k.0.1 left k.2 (n.0.1, name_sound _ _ _ n.1, kind_sound _ _ _ k.1)

index_sound : IsSound index index_at
unfolding index_at
index_sound tokens x left e =
    let s = bind_some (word_at words.Spatial tokens) _ _ e in
    let i = bind_some (word_at words.Index s.0.1) _ _ s.2 in
    let o = bind_some (symbol_at Open i.0.1) _ _ i.2 in
    let n = bind_some (name_at o.0.1) _ _ o.2 in
    let c = bind_some (symbol_at Close n.0.1) _ _ n.2 in
    moved index tokens n.0.0 x c.0.1 left c.2
    (s.0.1, word_back _ _ _ _ s.1, (i.0.1, word_back _ _ _ _ i.1, (o.0.1, symbol_back _ _ _ _ o.1, (n.0.1, name_sound _ _ _ n.1, symbol_back _ _ _ _ c.1))))

-- what stands between the parentheses
abbrev Definition : List ℕ → Parsed → Phrase
Definition table p tokens left =
    (key : List ℕ) × (columns : List ParsedColumn) × (indexes : List (List ℕ)) × (p ≡ parsed.Create table key columns indexes)
    × (key_column key ⨾ each (symbol Comma) column columns ⨾ each (symbol Comma) index indexes) tokens left

definition_sound : (table : List ℕ) → IsSound (Definition table) (definition_at table)
unfolding definition_at
definition_sound table tokens x left e =
    let k = bind_some (key_at tokens) _ _ e in
    let c = bind_some (more_at going.Column column_at k.0.1) _ _ k.2 in
    let i = bind_some (more_at going.Comma index_at c.0.1) _ _ c.2 in
    moved (Definition table) tokens (parsed.Create table k.0.0 c.0.0 i.0.0) x i.0.1 left i.2
    (k.0.0, c.0.0, i.0.0, refl, (k.0.1, key_sound _ _ _ k.1, (c.0.1, more_sound column column_at column_sound going.Column _ _ _ c.1, more_sound index index_at index_sound going.Comma _ _ _ i.1)))

-- ---- statements

create_sound : (tokens : List Token) (x : Parsed) (left : List Token) → word words.Create tokens (drop 1 tokens) → create_at (drop 1 tokens) ≡ Some (x, left) → statement x tokens left
unfolding create_at
create_sound tokens x left w e =
    let t = bind_some (word_at words.Table (drop 1 tokens)) _ _ e in
    let n = bind_some (name_at t.0.1) _ _ t.2 in
    let o = bind_some (symbol_at Open n.0.1) _ _ n.2 in
    let d = bind_some (definition_at n.0.0 o.0.1) _ _ o.2 in
    let c = bind_some (symbol_at Close d.0.1) _ _ d.2 in
    let q = definition_sound n.0.0 _ _ _ d.1 in
    moved statement tokens d.0.0 x c.0.1 left c.2
    (subst (λ (p : Parsed). statement p tokens c.0.1) (sym q.3)
    (drop 1 tokens, w, (t.0.1, word_back _ _ _ _ t.1, (n.0.1, name_sound _ _ _ n.1, (o.0.1, symbol_back _ _ _ _ o.1, (d.0.1, q.4, symbol_back _ _ _ _ c.1))))))

insert_sound : (tokens : List Token) (x : Parsed) (left : List Token) → word words.Insert tokens (drop 1 tokens) → insert_at (drop 1 tokens) ≡ Some (x, left) → statement x tokens left
unfolding insert_at
insert_sound tokens x left w e =
    let i = bind_some (word_at words.Into (drop 1 tokens)) _ _ e in
    let n = bind_some (name_at i.0.1) _ _ i.2 in
    let v = bind_some (word_at words.Values n.0.1) _ _ n.2 in
    let r = bind_some (list_at going.Comma row_at v.0.1) _ _ v.2 in
    moved statement tokens (parsed.Insert n.0.0 r.0.0) x r.0.1 left r.2
    (drop 1 tokens, w, (i.0.1, word_back _ _ _ _ i.1, (n.0.1, name_sound _ _ _ n.1, (v.0.1, word_back _ _ _ _ v.1, list_sound row row_at row_sound going.Comma _ _ _ r.1))))

shown_sound : IsSound shown shown_at
unfolding shown_at
shown_sound tokens x left e =
    elim (chosen (begins_symbol Star tokens) _ _ _ e) [
      | inl h ↦ moved shown tokens None x (drop 1 tokens) left h.1 (symbol_begins Star tokens h.0)
      | inr h ↦ let l = bind_some (list_at going.Comma name_at tokens) _ _ h.1 in
          moved shown tokens (Some l.0.0) x l.0.1 left l.2 (list_sound name name_at name_sound going.Comma _ _ _ l.1)
    ]

select_sound : (tokens : List Token) (x : Parsed) (left : List Token) → word words.Select tokens (drop 1 tokens) → select_at (drop 1 tokens) ≡ Some (x, left) → statement x tokens left
unfolding select_at
select_sound tokens x left w e =
    let s = bind_some (shown_at (drop 1 tokens)) _ _ e in
    let f = bind_some (word_at words.From s.0.1) _ _ s.2 in
    let n = bind_some (name_at f.0.1) _ _ f.2 in
    let c = bind_some (where_at n.0.1) _ _ n.2 in
    moved statement tokens (parsed.Select n.0.0 s.0.0 c.0.0) x c.0.1 left c.2
    (drop 1 tokens, w, (s.0.1, shown_sound _ _ _ s.1, (f.0.1, word_back _ _ _ _ f.1, (n.0.1, name_sound _ _ _ n.1, where_sound _ _ _ c.1))))

set_sound : IsSound set set_at
unfolding set_at
set_sound tokens x left e =
    let n = bind_some (name_at tokens) _ _ e in
    let q = bind_some (equal_at n.0.1) _ _ n.2 in
    let v = bind_some (literal_at q.0.1) _ _ q.2 in
    let made : ParsedSet = record { column = n.0.0; v = v.0.0 } in
    moved set tokens made x v.0.1 left v.2 (n.0.1, name_sound _ _ _ n.1, (q.0.1, equal_back _ _ _ q.1, literal_sound _ _ _ v.1))

update_sound : (tokens : List Token) (x : Parsed) (left : List Token) → word words.Update tokens (drop 1 tokens) → update_at (drop 1 tokens) ≡ Some (x, left) → statement x tokens left
unfolding update_at
update_sound tokens x left w e =
    let n = bind_some (name_at (drop 1 tokens)) _ _ e in
    let s = bind_some (word_at words.Set n.0.1) _ _ n.2 in
    let l = bind_some (list_at going.Comma set_at s.0.1) _ _ s.2 in
    let c = bind_some (where_at l.0.1) _ _ l.2 in
    moved statement tokens (parsed.Update n.0.0 l.0.0 c.0.0) x c.0.1 left c.2
    (drop 1 tokens, w, (n.0.1, name_sound _ _ _ n.1, (s.0.1, word_back _ _ _ _ s.1, (l.0.1, list_sound set set_at set_sound going.Comma _ _ _ l.1, where_sound _ _ _ c.1))))

delete_sound : (tokens : List Token) (x : Parsed) (left : List Token) → word words.Delete tokens (drop 1 tokens) → delete_at (drop 1 tokens) ≡ Some (x, left) → statement x tokens left
unfolding delete_at
delete_sound tokens x left w e =
    let f = bind_some (word_at words.From (drop 1 tokens)) _ _ e in
    let n = bind_some (name_at f.0.1) _ _ f.2 in
    let c = bind_some (where_at n.0.1) _ _ n.2 in
    moved statement tokens (parsed.Delete n.0.0 c.0.0) x c.0.1 left c.2
    (drop 1 tokens, w, (f.0.1, word_back _ _ _ _ f.1, (n.0.1, name_sound _ _ _ n.1, where_sound _ _ _ c.1)))

transaction_sound : IsSound statement transaction_at
unfolding transaction_at
transaction_sound tokens x left e =
    elim (chosen (begins_word words.Begin tokens) _ _ _ e) [
      | inl h ↦ moved statement tokens parsed.Begin x (drop 1 tokens) left h.1 (inl (word_begins words.Begin tokens h.0))
      | inr h ↦ elim (chosen (begins_word words.Start tokens) _ _ _ h.1) [
        | inl k ↦ let b = bind_some (word_at words.Transaction (drop 1 tokens)) _ _ k.1 in
            moved statement tokens parsed.Begin x b.0.1 left b.2 (inr (drop 1 tokens, word_begins words.Start tokens k.0, word_back _ _ _ _ b.1))
        | inr k ↦ elim (chosen (begins_word words.Commit tokens) _ _ _ k.1) [
          | inl c ↦ moved statement tokens parsed.Commit x (drop 1 tokens) left c.1 (word_begins words.Commit tokens c.0)
          | inr c ↦ let b = bind_some (word_at words.Rollback tokens) _ _ c.1 in moved statement tokens parsed.Rollback x b.0.1 left b.2 (word_back _ _ _ _ b.1)
        ]
      ]
    ]

change_sound : IsSound statement change_at
unfolding change_at
change_sound tokens x left e =
    elim (chosen (begins_word words.Update tokens) _ _ _ e) [
      | inl h ↦ update_sound tokens x left (word_begins words.Update tokens h.0) h.1
      | inr h ↦ elim (chosen (begins_word words.Delete tokens) _ _ _ h.1) [
        | inl k ↦ delete_sound tokens x left (word_begins words.Delete tokens k.0) k.1
        | inr k ↦ transaction_sound tokens x left k.1
      ]
    ]

pub statement_sound : IsSound statement statement_at
unfolding statement_at
statement_sound tokens x left e =
    elim (chosen (begins_word words.Create tokens) _ _ _ e) [
      | inl h ↦ create_sound tokens x left (word_begins words.Create tokens h.0) h.1
      | inr h ↦ elim (chosen (begins_word words.Insert tokens) _ _ _ h.1) [
        | inl k ↦ insert_sound tokens x left (word_begins words.Insert tokens k.0) k.1
        | inr k ↦ elim (chosen (begins_word words.Select tokens) _ _ _ k.1) [
          | inl s ↦ select_sound tokens x left (word_begins words.Select tokens s.0) s.1
          | inr s ↦ change_sound tokens x left s.1
        ]
      ]
    ]

alone_back : (p x : Parsed) (left : List Token) → alone p left ≡ Some x → (p ≡ x) × (left ≡ [])
alone_back p x [] e = (let same : p ≡ x = cc in same, refl)
alone_back p x (t ∷ left) e = never _ e

pub parsed_sound : (tokens : List Token) (x : Parsed) → parsed_in tokens ≡ Some x → statement x tokens []
unfolding parsed_in
parsed_sound tokens x e =
    let s = bind_some (statement_at tokens) _ _ e in
    let q = alone_back s.0.0 x s.0.1 s.2 in
    subst (λ (left : List Token). statement x tokens left) q.1 (subst (λ (p : Parsed). statement p tokens s.0.1) q.0 (statement_sound _ _ _ s.1))
