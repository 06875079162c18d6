-- The whole language is faithful: a text does to transactions what the statement that it means does, no transaction begins
-- in the setup, and no statement puts a line feed into a table.
use Rattle.std.proofs.Common.{◌≡◌, ℕ, Bool, true, false, not, nat_lt, nat_le, length, ◌==◌, List, [], ◌∷◌, subst, refl, Option, Some, None, Result, Ok, Err}
use Rattle.std.specs.List.{list_all}
use Rattle.std.proofs.lemmas.Bool.{and_parts, and_from}
use Rattle.isp_serial.specs.declared.script.Place.{Place}
use Rattle.isp_serial.specs.declared.script.Place.TheVariants as place
use Rattle.isp_plain.specs.declared.statement.Assign.{Assign}
use Rattle.isp_plain.specs.declared.statement.Condition.{Condition}
use Rattle.isp_plain.specs.declared.statement.Statement.{Statement}
use Rattle.isp_plain.specs.declared.statement.Statement.TheVariants as statement
use Rattle.isp_plain.specs.declared.value.Column.{Column}
use Rattle.isp_plain.specs.declared.value.Kind.{Kind}
use Rattle.isp_plain.specs.declared.value.Kind.TheVariants as kind
use Rattle.isp_plain.specs.declared.value.Row.{Row}
use Rattle.isp_plain.specs.declared.value.Schema.{Schema}
use Rattle.isp_plain.specs.declared.value.Value.{Value}
use Rattle.isp_plain.specs.declared.value.Value.TheVariants as value
use Rattle.isp_serial.specs.Alone.{IsFaithful, MayMean}
use Rattle.isp_plain.specs.Lined.{is_lined_value, is_lined_row, are_lined_rows, is_lined_statement}
use Rattle.isp_serial.specs.Transactions.{Effect, begins, stays}
use Rattle.isp_sql.specs.declared.parsed.Literal.{Literal}
use Rattle.isp_sql.specs.declared.parsed.Literal.TheVariants as literals
use Rattle.isp_sql.specs.declared.parsed.Parsed.{Parsed}
use Rattle.isp_sql.specs.declared.parsed.Parsed.TheVariants as parsed
use Rattle.isp_sql.specs.declared.parsed.ParsedAtom.{ParsedAtom}
use Rattle.isp_sql.specs.declared.parsed.ParsedColumn.{ParsedColumn}
use Rattle.isp_sql.specs.declared.parsed.ParsedSet.{ParsedSet}
use Rattle.isp_sql.specs.Reading.{parsed_of}
use Rattle.isp_plain.specs.declared.refusal.Refusal.{Refusal}
use Rattle.isp_plain.specs.declared.refusal.Refusal.TheVariants as refusal
use Rattle.isp_plan.specs.Binding.{are_columns, are_counted, are_settable, begins_again, bound, checked, condition_of, create, delete, insert, is_allowed, is_other, is_small, is_table, meant, named, row_of, rows_of, schema_named, select, set_of, sets_of, shown, update, values_of}
use Rattle.isp_plan.specs.Creating.{is_short, schema_of, table_limit}
use Rattle.isp_plan.specs.Literals.{geometry_of, stored}
use Rattle.isp_plan.specs.Meaning.{definitions, effect, effect_in, meaning, meaning_in, whole}
use Rattle.isp_plan.specs.Numbers.{number_of}
use Rattle.isp_plan.specs.Refusals.{◌>>=◌, each, ensure, known, stated}
use Rattle.isp_plan.proofs.RefusalLaws.{Holds, any, checks, condition_own, geometry_own, looks_up, schema_own, shown_own, with}
use Rattle.isp_plan.proofs.WrittenLaws.{is_lined_literal, is_lined_literals, is_lined_parsed, is_lined_set, parsed_lined}

abbrev Given : {X : Type 0} → (X → Bool) → Result X Refusal → Type 0
Given p given = Holds (λ x. p x ≡ true) given

each_given : {A B : Type 0} (q : A → Bool) (p : B → Bool) (f : A → Result B Refusal) → ((a : A) → q a ≡ true → Given p (f a)) → (xs : List A) → list_all q xs ≡ true → Given (list_all p) (each f xs)
each_given q p f gives [] all = refl
each_given q p f gives (x ∷ xs) all =
    let parts = and_parts (q x) (list_all q xs) all in
    with (λ y. p y ≡ true) (λ ys. list_all p ys ≡ true) (f x) (λ y. each f xs >>= λ ys. Ok (y ∷ ys)) (gives x parts.0) (λ y is.
    with (λ ys. list_all p ys ≡ true) (λ ys. list_all p ys ≡ true) (each f xs) (λ ys. Ok (y ∷ ys)) (each_given q p f gives xs parts.1) (λ ys are. and_from (p y) (list_all p ys) is are))

-- ---- values without a line feed

abbrev IsLined : Value → Type 0
IsLined v = is_lined_value v ≡ true

abbrev AreLined : List Value → Type 0
AreLined vs = list_all is_lined_value vs ≡ true

stored_lined : (k : Kind) (v : Literal) → is_lined_literal v ≡ true → Given is_lined_value (stored k v)
stored_lined kind.BigInt (literals.Number minus digits) is =
    any IsLined (known refusal.OutOfRange (number_of minus digits)) (λ n. Ok (value.Int n)) (looks_up refusal.OutOfRange (number_of minus digits) refl) (λ n. refl)
stored_lined kind.BigInt (literals.Text text) is = refl
stored_lined kind.BigInt (literals.Wkt text) is = refl
stored_lined (kind.VarChar size) (literals.Number minus digits) is = refl
stored_lined (kind.VarChar size) (literals.Text text) is =
    any IsLined (ensure refusal.TooLong (nat_le (length text) size)) (λ fits. Ok (value.Text text)) (checks refusal.TooLong (nat_le (length text) size) refl) (λ fits. is)
stored_lined (kind.VarChar size) (literals.Wkt text) is = refl
stored_lined kind.Geo (literals.Number minus digits) is = refl
stored_lined kind.Geo (literals.Text text) is = refl
stored_lined kind.Geo (literals.Wkt text) is = any IsLined (geometry_of text) (λ form. Ok (value.Geo form)) (geometry_own text) (λ form. refl)

values_lined : (columns : List Column) (values : List Literal) → is_lined_literals values ≡ true → Given (list_all is_lined_value) (values_of columns values)
values_lined [] values are = refl
values_lined (column ∷ columns) [] are = refl
values_lined (column ∷ columns) (v ∷ values) are =
    let parts = and_parts (is_lined_literal v) (is_lined_literals values) are in
    with IsLined AreLined (stored column.kind v) (λ x. values_of columns values >>= λ xs. Ok (x ∷ xs)) (stored_lined column.kind v parts.0) (λ x is.
    with AreLined AreLined (values_of columns values) (λ xs. Ok (x ∷ xs)) (values_lined columns values parts.1)
    (λ xs all. and_from (is_lined_value x) (list_all is_lined_value xs) is all))

row_lined : (columns : List Column) (values : List Literal) → is_lined_literals values ≡ true → Given is_lined_row (row_of columns values)
row_lined columns values are =
    with AreLined (λ row. is_lined_row row ≡ true) (values_of columns values) (λ xs. Ok (record { values = xs })) (values_lined columns values are) (λ xs all. all)

rows_lined : (columns : List Column) (rows : List (List Literal)) → list_all is_lined_literals rows ≡ true → Given are_lined_rows (rows_of columns rows)
rows_lined columns rows are = each_given is_lined_literals is_lined_row (λ row. row_of columns row) (row_lined columns) rows are

abbrev IsLinedSet : Assign → Type 0
IsLinedSet a = is_lined_value a.v ≡ true

set_lined : (columns : List Column) (s : ParsedSet) → is_lined_set s ≡ true → Given (λ (a : Assign). is_lined_value a.v) (set_of columns s)
set_lined columns s is =
    let made : ℕ × Kind → Value → Result Assign Refusal = λ column x. Ok (record { column = column.0; v = x }) in
    any IsLinedSet (known refusal.UnknownColumn (named columns s.column)) (λ column. stored column.1 s.v >>= made column) (looks_up refusal.UnknownColumn (named columns s.column) refl) (λ column.
    with IsLined IsLinedSet (stored column.1 s.v) (made column) (stored_lined column.1 s.v is) (λ x lined. lined))

sets_lined : (columns : List Column) (sets : List ParsedSet) → list_all is_lined_set sets ≡ true → Given (list_all (λ (a : Assign). is_lined_value a.v)) (sets_of columns sets)
sets_lined columns sets are = each_given is_lined_set (λ (a : Assign). is_lined_value a.v) (λ s. set_of columns s) (set_lined columns) sets are

-- ---- statements

-- the statement has the effect, or is a refusal of its own, and puts no line feed into a table
abbrev IsGood : Effect → Statement → Type 0
IsGood effect s = MayMean effect s × (is_lined_statement s ≡ true)

abbrev Stated : Type 0
Stated = Result Statement Refusal

create_good : (tables : List (List ℕ × Schema)) (name key : List ℕ) (columns : List ParsedColumn) (indexes : List (List ℕ)) → Holds (IsGood stays) (create tables name key columns indexes)
unfolding create
create_good tables name key columns indexes =
    let made : Schema → Stated = λ schema. Ok (statement.Create name schema) in
    let short : Stated = ensure refusal.OutOfLimits (is_short name) >>= λ short. schema_of key columns indexes >>= made in
    let room : Stated = ensure refusal.OutOfLimits (nat_lt (length tables) table_limit) >>= λ room. short in
    any (IsGood stays) (ensure refusal.TableExists (not (is_table tables name))) (λ fresh. room) (checks refusal.TableExists (not (is_table tables name)) refl) (λ fresh.
    any (IsGood stays) (ensure refusal.OutOfLimits (nat_lt (length tables) table_limit)) (λ there. short) (checks refusal.OutOfLimits (nat_lt (length tables) table_limit) refl) (λ there.
    any (IsGood stays) (ensure refusal.OutOfLimits (is_short name)) (λ is. schema_of key columns indexes >>= made) (checks refusal.OutOfLimits (is_short name) refl) (λ is.
    any (IsGood stays) (schema_of key columns indexes) made (schema_own key columns indexes) (λ schema. (refl, refl)))))

insert_good : (tables : List (List ℕ × Schema)) (name : List ℕ) (rows : List (List Literal)) → list_all is_lined_literals rows ≡ true → Holds (IsGood stays) (insert tables name rows)
unfolding insert
insert_good tables name rows lined =
    let made : List Row → Stated = λ bound. Ok (statement.Insert name bound) in
    let small : Schema → List Row → Stated = λ schema bound. ensure refusal.RowTooLarge (list_all (is_small schema) bound) >>= λ small. made bound in
    let read : Schema → Stated = λ schema. rows_of schema.columns rows >>= small schema in
    any (IsGood stays) (known refusal.NoSuchTable (schema_named tables name)) (λ schema. ensure refusal.ColumnCount (are_counted schema.columns rows) >>= λ counted. read schema) (looks_up refusal.NoSuchTable (schema_named tables name) refl) (λ schema.
    any (IsGood stays) (ensure refusal.ColumnCount (are_counted schema.columns rows)) (λ counted. read schema) (checks refusal.ColumnCount (are_counted schema.columns rows) refl) (λ counted.
    with (λ bound. are_lined_rows bound ≡ true) (IsGood stays) (rows_of schema.columns rows) (small schema) (rows_lined schema.columns rows lined) (λ bound are.
    any (IsGood stays) (ensure refusal.RowTooLarge (list_all (is_small schema) bound)) (λ is. made bound) (checks refusal.RowTooLarge (list_all (is_small schema) bound) refl) (λ is. (refl, are)))))

select_good : (tables : List (List ℕ × Schema)) (name : List ℕ) (columns : Option (List (List ℕ))) (w : List ParsedAtom) → Holds (IsGood stays) (select tables name columns w)
unfolding select
select_good tables name columns w =
    let made : List ℕ → Condition → Stated = λ numbers condition. Ok (statement.Select name numbers condition) in
    let found : Schema → List ℕ → Stated = λ schema numbers. condition_of schema.columns w >>= made numbers in
    let there : Schema → List ℕ → Stated = λ schema numbers. ensure refusal.UnknownColumn (are_columns schema.columns w) >>= λ there. found schema numbers in
    any (IsGood stays) (known refusal.NoSuchTable (schema_named tables name)) (λ schema. shown schema.columns columns >>= there schema) (looks_up refusal.NoSuchTable (schema_named tables name) refl) (λ schema.
    any (IsGood stays) (shown schema.columns columns) (there schema) (shown_own schema.columns columns) (λ numbers.
    any (IsGood stays) (ensure refusal.UnknownColumn (are_columns schema.columns w)) (λ are. found schema numbers) (checks refusal.UnknownColumn (are_columns schema.columns w) refl) (λ are.
    any (IsGood stays) (condition_of schema.columns w) (made numbers) (condition_own schema.columns w) (λ condition. (refl, refl)))))

update_good : (tables : List (List ℕ × Schema)) (name : List ℕ) (sets : List ParsedSet) (w : List ParsedAtom) → list_all is_lined_set sets ≡ true → Holds (IsGood stays) (update tables name sets w)
unfolding update
update_good tables name sets w lined =
    let made : List Assign → Condition → Stated = λ bound condition. Ok (statement.Update name bound condition) in
    let found : Schema → List Assign → Stated = λ schema bound. condition_of schema.columns w >>= made bound in
    let read : Schema → Stated = λ schema. sets_of schema.columns sets >>= found schema in
    let others : Schema → Stated = λ schema. ensure refusal.KeyCannotBeSet (list_all (is_other schema.columns) sets) >>= λ others. read schema in
    let there : Schema → Stated = λ schema. ensure refusal.UnknownColumn (are_columns schema.columns w) >>= λ there. others schema in
    any (IsGood stays) (known refusal.NoSuchTable (schema_named tables name)) (λ schema. ensure refusal.UnknownColumn (are_settable schema.columns sets) >>= λ settable. there schema) (looks_up refusal.NoSuchTable (schema_named tables name) refl) (λ schema.
    any (IsGood stays) (ensure refusal.UnknownColumn (are_settable schema.columns sets)) (λ are. there schema) (checks refusal.UnknownColumn (are_settable schema.columns sets) refl) (λ are.
    any (IsGood stays) (ensure refusal.UnknownColumn (are_columns schema.columns w)) (λ known_ones. others schema) (checks refusal.UnknownColumn (are_columns schema.columns w) refl) (λ known_ones.
    any (IsGood stays) (ensure refusal.KeyCannotBeSet (list_all (is_other schema.columns) sets)) (λ no_key. read schema) (checks refusal.KeyCannotBeSet (list_all (is_other schema.columns) sets) refl) (λ no_key.
    with (λ (bound : List Assign). list_all (λ (a : Assign). is_lined_value a.v) bound ≡ true) (IsGood stays) (sets_of schema.columns sets) (found schema) (sets_lined schema.columns sets lined) (λ bound all.
    any (IsGood stays) (condition_of schema.columns w) (made bound) (condition_own schema.columns w) (λ condition. (refl, all)))))))

delete_good : (tables : List (List ℕ × Schema)) (name : List ℕ) (w : List ParsedAtom) → Holds (IsGood stays) (delete tables name w)
unfolding delete
delete_good tables name w =
    let made : Condition → Stated = λ condition. Ok (statement.Delete name condition) in
    let found : Schema → Stated = λ schema. condition_of schema.columns w >>= made in
    any (IsGood stays) (known refusal.NoSuchTable (schema_named tables name)) (λ schema. ensure refusal.UnknownColumn (are_columns schema.columns w) >>= λ there. found schema) (looks_up refusal.NoSuchTable (schema_named tables name) refl) (λ schema.
    any (IsGood stays) (ensure refusal.UnknownColumn (are_columns schema.columns w)) (λ are. found schema) (checks refusal.UnknownColumn (are_columns schema.columns w) refl) (λ are.
    any (IsGood stays) (condition_of schema.columns w) made (condition_own schema.columns w) (λ condition. (refl, refl))))

meant_good : (tables : List (List ℕ × Schema)) (p : Parsed) → is_lined_parsed p ≡ true → Holds (IsGood (effect_in (Some p))) (meant tables p)
meant_good tables (parsed.Create name key columns indexes) lined = create_good tables name key columns indexes
meant_good tables (parsed.Insert name rows) lined = insert_good tables name rows lined
meant_good tables (parsed.Select name columns w) lined = select_good tables name columns w
meant_good tables (parsed.Update name sets w) lined = update_good tables name sets w lined
meant_good tables (parsed.Delete name w) lined = delete_good tables name w
meant_good tables parsed.Begin lined = (refl, refl)
meant_good tables parsed.Commit lined = (refl, refl)
meant_good tables parsed.Rollback lined = (refl, refl)

-- ---- refusals

stated_good : (effect : Effect) (given : Result Statement Refusal) → Holds (IsGood effect) given → IsGood effect (stated given)
stated_good effect (Ok s) good = good
stated_good effect (Err r) good = (good, refl)

-- ---- texts

bound_good : (tables : List (List ℕ × Schema)) (p : Parsed) (at : Place) → is_lined_parsed p ≡ true → IsGood (effect_in (Some p)) (bound tables p at)
unfolding checked
bound_good tables p at lined =
    let effect = effect_in (Some p) in
    let first : Stated = ensure refusal.AlreadyBegun (not (begins_again at p)) >>= λ first. meant tables p in
    stated_good effect (checked tables p at)
    (any (IsGood effect) (ensure refusal.NotAllowedHere (is_allowed at p)) (λ allowed. first) (checks refusal.NotAllowedHere (is_allowed at p) refl) (λ allowed.
    any (IsGood effect) (ensure refusal.AlreadyBegun (not (begins_again at p))) (λ is. meant tables p) (checks refusal.AlreadyBegun (not (begins_again at p)) refl) (λ is. meant_good tables p lined)))

meaning_good : (tables : List (List ℕ × Schema)) (at : Place) (o : Option Parsed) → ((p : Parsed) → o ≡ Some p → is_lined_parsed p ≡ true) → IsGood (effect_in o) (meaning_in tables at o)
meaning_good tables at None lined = (refl, refl)
meaning_good tables at (Some p) lined = bound_good tables p at (lined p refl)

text_good : (tables : List (List ℕ × Schema)) (at : Place) (text : List ℕ) → IsGood (effect text) (meaning tables at text)
unfolding meaning effect
text_good tables at text = meaning_good tables at (parsed_of text) (parsed_lined text)

may_begin : (effect : Effect) (s : Statement) → MayMean effect s → s ≡ statement.Begin → effect ≡ begins
may_begin effect s may is = let P : Statement → Type 0 = MayMean effect in subst P is may

setup_of : (tables : List (List ℕ × Schema)) (o : Option Parsed) → MayMean (effect_in o) (meaning_in tables place.Setup o) → meaning_in tables place.Setup o ≡ statement.Begin → ⊥
unfolding checked
setup_of tables None may is = cc
setup_of tables (Some (parsed.Create name key columns indexes)) may is = let no : stays ≡ begins = may_begin stays _ may is in cc
setup_of tables (Some (parsed.Insert name rows)) may is = let no : stays ≡ begins = may_begin stays _ may is in cc
setup_of tables (Some (parsed.Select name columns w)) may is = let no : stays ≡ begins = may_begin stays _ may is in cc
setup_of tables (Some (parsed.Update name sets w)) may is = let no : stays ≡ begins = may_begin stays _ may is in cc
setup_of tables (Some (parsed.Delete name w)) may is = let no : stays ≡ begins = may_begin stays _ may is in cc
setup_of tables (Some parsed.Begin) may is = cc
setup_of tables (Some parsed.Commit) may is = cc
setup_of tables (Some parsed.Rollback) may is = cc

setup_text : (tables : List (List ℕ × Schema)) (text : List ℕ) → meaning tables place.Setup text ≡ statement.Begin → ⊥
unfolding meaning effect
setup_text tables text is = setup_of tables (parsed_of text) (text_good tables place.Setup text).0 is

pub whole_is_faithful : IsFaithful whole
unfolding whole
whole_is_faithful = record {
  meant = λ tables at text. (text_good (definitions tables) at text).0;
  setup = λ tables text is. setup_text (definitions tables) text is;
  lined = λ tables at text. (text_good (definitions tables) at text).1;
}
