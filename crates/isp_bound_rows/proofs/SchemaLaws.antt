-- The columns that a CREATE gives are those of a definition.
use Rattle.std.proofs.Common.{◌≡◌, ℕ, zero, suc, ◌+◌, ◌≤◌, ◌<◌, Bool, true, false, cond, not, ◌&&◌, ◌||◌, nat_le, nat_lt, List, [], ◌∷◌, All, length, get_or, Ok, refl, sym, ◌∙◌, ap, subst, arith, if◌then◌else◌}
use Rattle.std.specs.List.{AllByRecursion, list_all}
use Rattle.std.specs.Str.{bytes_eq}
use Rattle.std.proofs.lemmas.Bool.{and_from, and_parts}
use Rattle.std.proofs.lemmas.Bool.Decides.{nat_tests}
use Rattle.std.proofs.lemmas.List.Sums.{sum_by-cons}
use Rattle.std.proofs.lemmas.Slice.Eq.{bytes_eq-Decides}
use Rattle.isp_plain.specs.declared.refusal.Refusal.TheVariants.{OutOfLimits}
use Rattle.isp_plain.specs.declared.value.Column.{Column}
use Rattle.isp_plain.specs.declared.value.Kind.{Kind}
use Rattle.isp_plain.specs.declared.value.Kind.TheVariants as kind
use Rattle.isp_plain.specs.declared.value.Schema.{Schema}
use Rattle.isp_plain.specs.RowBytes.{indexed_columns}
use Rattle.isp_sql.specs.declared.parsed.ParsedColumn.{ParsedColumn}
use Rattle.isp_sql.specs.declared.parsed.ParsedKind.{ParsedKind}
use Rattle.isp_sql.specs.declared.parsed.ParsedKind.TheVariants as parsed
use Rattle.isp_plan.specs.Creating.{are_short, are_short_columns, column_of, has_geo, has_name, index_limit, is_geo, is_geo_named, is_index, is_short, key_column, keyed, kind_of, name_limit, schema_of, varchar}
use Rattle.isp_plan.specs.Creating as plan
use Rattle.isp_plan.specs.Numbers.{value_of}
use Rattle.isp_plan.specs.Refusals.{each, ensure}
use Rattle.isp_catalog.specs.Limits as limits
use Rattle.isp_catalog.specs.Limits.{AreColumns, IsName, are_within_limits, has_size, is_geometry, is_indexable, is_sized}
use Rattle.isp_bound_rows.proofs.ChainLaws.{absent, ensured, same, step}
use Rattle.isp_bound_rows.proofs.NamedLaws as named
use Rattle.isp_bound_rows.proofs.NamedLaws.{is_some_name, name_some}

-- ---- columns one by one

-- the column is the written one
pub record Stands (indexes : List (List ℕ)) (p : ParsedColumn) (c : Column) : Type 0 where
  pub name : c.name ≡ p.name
  pub indexed : c.indexed ≡ has_name indexes p.name
  pub sized : has_size c.kind ≡ true
  pub geo : is_geo p.kind ≡ true → is_geometry c.kind ≡ true

sizes : (size : ℕ) → nat_lt 0 size ≡ true → nat_le size 500 ≡ true → (nat_le 1 size && nat_le size 500) ≡ true
sizes size some most = and_from (nat_le 1 size) (nat_le size 500) (least size some) most
  where
    least : (n : ℕ) → nat_lt 0 n ≡ true → nat_le 1 n ≡ true
    least n h = grind (arith, nat_tests, h)

kind_stands : (k : ParsedKind) (found : Kind) → kind_of k ≡ Ok found → (has_size found ≡ true) × (is_geo k ≡ true → is_geometry found ≡ true)
kind_stands parsed.BigInt found is = (subst (λ (k : Kind). has_size k ≡ true) (same kind.BigInt found is) refl, λ geo. absurd (let bad : false ≡ true = geo in let no_way : ⊥ = cc in no_way))
kind_stands (parsed.VarChar written_size) found is =
    let size = value_of written_size in
    let some = step (ensure OutOfLimits (nat_lt 0 size)) _ found is in
    let few = step (ensure OutOfLimits (nat_le size 500)) _ found some.2 in (
      subst (λ (k : Kind). has_size k ≡ true) (same (kind.VarChar size) found few.2) (sizes size (ensured OutOfLimits (nat_lt 0 size) some.0 some.1) (ensured OutOfLimits (nat_le size 500) few.0 few.1)),
      λ geo. absurd (let bad : false ≡ true = geo in let no_way : ⊥ = cc in no_way),
    )
kind_stands parsed.Geo found is = (subst (λ (k : Kind). has_size k ≡ true) (same kind.Geo found is) refl, λ geo. subst (λ (k : Kind). is_geometry k ≡ true) (same kind.Geo found is) refl)

column_stands : (indexes : List (List ℕ)) (p : ParsedColumn) (c : Column) → column_of indexes p ≡ Ok c → Stands indexes p c
column_stands indexes p c is =
    let found = step (kind_of p.kind) _ c is in
    let kinds = kind_stands p.kind found.0 found.1 in
    subst (Stands indexes p) (same (record { name = p.name; kind = found.0; indexed = has_name indexes p.name }) c found.2)
    (record { name = refl; indexed = refl; sized = kinds.0; geo = kinds.1 })

-- each column is the written one at its place
abbrev pub AllStand : List (List ℕ) → List ParsedColumn → List Column → Type 0
AllStand indexes [] [] = Unit {0}
AllStand indexes (p ∷ written) (c ∷ columns) = Stands indexes p c × AllStand indexes written columns
AllStand indexes _ _ = ⊥

all_stand : (indexes : List (List ℕ)) (written : List ParsedColumn) (columns : List Column) → each (column_of indexes) written ≡ Ok columns → AllStand indexes written columns
all_stand indexes [] columns is = subst (AllStand indexes []) (same [] columns is) tt
all_stand indexes (p ∷ written) columns is =
    let first = step (column_of indexes p) _ columns is in
    let rest = step (each (column_of indexes) written) _ columns first.2 in
    subst (AllStand indexes (p ∷ written)) (same (first.0 ∷ rest.0) columns rest.2) (column_stands indexes p first.0 first.1, all_stand indexes written rest.0 rest.1)

-- ---- what is said of each column

stand_length : (indexes : List (List ℕ)) (written : List ParsedColumn) (columns : List Column) → AllStand indexes written columns → length columns ≡ length written
stand_length indexes [] [] all = refl
stand_length indexes [] (c ∷ columns) all = absurd all
stand_length indexes (p ∷ written) [] all = absurd all
stand_length indexes (p ∷ written) (c ∷ columns) all = ap suc (stand_length indexes written columns all.1)

abbrev IsGood : ParsedColumn → Bool
IsGood p = is_some_name p.name && is_short p.name

name_good : (n : List ℕ) → is_some_name n ≡ true → is_short n ≡ true → IsName n
name_good n some short = record { some = name_some n some; most = at_most (length n) short }
  where
    at_most : (k : ℕ) → nat_le k 32 ≡ true → k ≤ 32
    at_most k h = grind (arith, nat_tests, h)

names_stand : (indexes : List (List ℕ)) (written : List ParsedColumn) (columns : List Column) → AllStand indexes written columns → list_all named.has_name written ≡ true → are_short_columns written ≡ true
    → AllByRecursion (λ (c : Column). IsName c.name) columns
names_stand indexes [] [] all some short = tt
names_stand indexes [] (c ∷ columns) all some short = absurd all
names_stand indexes (p ∷ written) [] all some short = absurd all
names_stand indexes (p ∷ written) (c ∷ columns) all some short =
    let somes = and_parts (is_some_name p.name) (list_all named.has_name written) some in
    let shorts = and_parts (is_short p.name) (are_short_columns written) short in
    (subst IsName (sym all.0.name) (name_good p.name somes.0 shorts.0), names_stand indexes written columns all.1 somes.1 shorts.1)

all_places : (P : Column → Type 0) (columns : List Column) → AllByRecursion P columns → All P columns
all_places P [] all = λ k d inside. absurd (omega (arith, inside))
all_places P (c ∷ columns) all = by (all_places P columns all.1)
  where
    by : All P columns → (k : ℕ) (d : Column) → k < length (c ∷ columns) → P (get_or (c ∷ columns) k d)
    by rest zero d inside = all.0
    by rest (suc k) d inside = rest k d (omega (arith, inside))

sizes_stand : (indexes : List (List ℕ)) (written : List ParsedColumn) (columns : List Column) → AllStand indexes written columns → list_all is_sized columns ≡ true
sizes_stand indexes [] [] all = refl
sizes_stand indexes [] (c ∷ columns) all = absurd all
sizes_stand indexes (p ∷ written) [] all = absurd all
sizes_stand indexes (p ∷ written) (c ∷ columns) all = and_from (has_size c.kind) (list_all is_sized columns) all.0.sized (sizes_stand indexes written columns all.1)

has_stands : (indexes : List (List ℕ)) (written : List ParsedColumn) (columns : List Column) (name : List ℕ) → AllStand indexes written columns → limits.has_column columns name ≡ plan.has_column written name
has_stands indexes [] [] name all = refl
has_stands indexes [] (c ∷ columns) name all = absurd all
has_stands indexes (p ∷ written) [] name all = absurd all
has_stands indexes (p ∷ written) (c ∷ columns) name all =
    (λ i. bytes_eq (all.0.name i) name || limits.has_column columns name) ∙ ap (λ (b : Bool). bytes_eq p.name name || b) (has_stands indexes written columns name all.1)

distinct_stand : (indexes : List (List ℕ)) (written : List ParsedColumn) (columns : List Column) → AllStand indexes written columns → plan.are_distinct written ≡ true → limits.are_distinct columns ≡ true
distinct_stand indexes [] [] all distinct = refl
distinct_stand indexes [] (c ∷ columns) all distinct = absurd all
distinct_stand indexes (p ∷ written) [] all distinct = absurd all
distinct_stand indexes (p ∷ written) (c ∷ columns) all distinct =
    let parts = and_parts (not (plan.has_column written p.name)) (plan.are_distinct written) distinct in
    and_from (not (limits.has_column columns c.name)) (limits.are_distinct columns)
    (ap (λ (n : List ℕ). not (limits.has_column columns n)) all.0.name ∙ ap not (has_stands indexes written columns p.name all.1) ∙ parts.0)
    (distinct_stand indexes written columns all.1 parts.1)

-- ---- indexes

either_is : (a b : Bool) → (a || b) ≡ true → (a ≡ false → b ≡ true)
either_is true b is none = absurd (let bad : true ≡ false = none in let no_way : ⊥ = cc in no_way)
either_is false b is none = is

same_name : (xs ys : List ℕ) → bytes_eq xs ys ≡ true → xs ≡ ys
same_name xs ys is = (bytes_eq-Decides xs ys).0 is

its_name : (xs : List ℕ) → bytes_eq xs xs ≡ true
its_name xs = (bytes_eq-Decides xs xs).1 refl

-- of columns that are named once, the one that has the name of a column of geometries is it
geo_here : (p : ParsedColumn) (written : List ParsedColumn) → plan.has_column written p.name ≡ false → has_geo (p ∷ written) p.name ≡ true → is_geo p.kind ≡ true
geo_here p written once has = by (is_geo p.kind) refl
  where
    none : (rest : List ParsedColumn) → plan.has_column rest p.name ≡ false → has_geo rest p.name ≡ false
    none [] out = refl
    none (q ∷ rest) out = by_name (bytes_eq q.name p.name) (is_geo q.kind) (none rest) out
      where
        by_name : (a g : Bool) → (plan.has_column rest p.name ≡ false → has_geo rest p.name ≡ false) → (a || plan.has_column rest p.name) ≡ false → ((g && a) || has_geo rest p.name) ≡ false
        by_name true g later bad = absurd (let is : true ≡ false = bad in let no_way : ⊥ = cc in no_way)
        by_name false true later out = later out
        by_name false false later out = later out

    by : (g : Bool) → is_geo p.kind ≡ g → g ≡ true
    by true is = refl
    by false is =
        let first : is_geo_named p p.name ≡ false = ap (λ (b : Bool). b && bytes_eq p.name p.name) is in
        let later : has_geo written p.name ≡ true = either_is (is_geo_named p p.name) (has_geo written p.name) has first in
        let bad : true ≡ false = sym later ∙ none written once in absurd (let no_way : ⊥ = cc in no_way)

geo_later : (p : ParsedColumn) (written : List ParsedColumn) (name : List ℕ) → bytes_eq p.name name ≡ false → has_geo (p ∷ written) name ≡ true → has_geo written name ≡ true
geo_later p written name other has = either_is (is_geo_named p name) (has_geo written name) has (by (is_geo p.kind))
  where
    by : (g : Bool) → (g && bytes_eq p.name name) ≡ false
    by true = other
    by false = refl

-- each index is on a column of geometries
geo_all : (written : List ParsedColumn) (indexes : List (List ℕ)) (name : List ℕ) → plan.are_indexes written indexes ≡ true → has_name indexes name ≡ true → has_geo written name ≡ true
geo_all written [] name are has = absurd (let bad : false ≡ true = has in let no_way : ⊥ = cc in no_way)
geo_all written (i ∷ indexes) name are has =
    let parts = and_parts (is_index written i indexes) (plan.are_indexes written indexes) are in
    by (bytes_eq i name) refl (and_parts (has_geo written i) (not (has_name indexes i)) parts.0).0 (geo_all written indexes name parts.1)
  where
    by : (b : Bool) → bytes_eq i name ≡ b → has_geo written i ≡ true → (has_name indexes name ≡ true → has_geo written name ≡ true) → has_geo written name ≡ true
    by true is here later = subst (λ (n : List ℕ). has_geo written n ≡ true) (same_name i name is) here
    by false is here later = later (either_is (bytes_eq i name) (has_name indexes name) has is)

-- so columns that are indexed hold geometries, where no column is named twice
indexable_stand : (indexes : List (List ℕ)) (written : List ParsedColumn) (columns : List Column) → AllStand indexes written columns → plan.are_distinct written ≡ true
    → ((name : List ℕ) → has_name indexes name ≡ true → plan.has_column written name ≡ true → has_geo written name ≡ true) → list_all is_indexable columns ≡ true
indexable_stand indexes [] [] all distinct geo = refl
indexable_stand indexes [] (c ∷ columns) all distinct geo = absurd all
indexable_stand indexes (p ∷ written) [] all distinct geo = absurd all
indexable_stand indexes (p ∷ written) (c ∷ columns) all distinct geo =
    and_from (is_indexable c) (list_all is_indexable columns) (by c.indexed refl) (indexable_stand indexes written columns all.1 parts.1 later)
  where
    parts : (not (plan.has_column written p.name) ≡ true) × (plan.are_distinct written ≡ true)
    parts = and_parts (not (plan.has_column written p.name)) (plan.are_distinct written) distinct

    by : (b : Bool) → c.indexed ≡ b → (if b then is_geometry c.kind else true) ≡ true
    by true is =
        all.0.geo (geo_here p written (absent (plan.has_column written p.name) parts.0)
        (geo p.name (sym all.0.indexed ∙ is) (ap (λ (b : Bool). b || plan.has_column written p.name) (its_name p.name))))
    by false is = refl

    later : (name : List ℕ) → has_name indexes name ≡ true → plan.has_column written name ≡ true → has_geo written name ≡ true
    later name has there = geo_later p written name (by_name (bytes_eq p.name name) refl) (geo name has (either (bytes_eq p.name name)))
      where
        either : (b : Bool) → (b || plan.has_column written name) ≡ true
        either true = refl
        either false = there

        by_name : (b : Bool) → bytes_eq p.name name ≡ b → b ≡ false
        by_name true is =
            let out : plan.has_column written name ≡ false = subst (λ (n : List ℕ). plan.has_column written n ≡ false) (same_name p.name name is) (absent (plan.has_column written p.name) parts.0) in
            let bad : true ≡ false = sym there ∙ out in absurd (let no_way : ⊥ = cc in no_way)
        by_name false is = refl

-- ---- how many are indexed

abbrev counted : Bool → ℕ
counted b = cond b 1 0

-- how many of these columns have a name of the list
abbrev named_in : List (List ℕ) → List ParsedColumn → ℕ
named_in indexes [] = 0
named_in indexes (p ∷ written) = counted (has_name indexes p.name) + named_in indexes written

indexed_stand : (indexes : List (List ℕ)) (written : List ParsedColumn) (columns : List Column) → AllStand indexes written columns → indexed_columns columns ≡ named_in indexes written
indexed_stand indexes [] [] all = refl
indexed_stand indexes [] (c ∷ columns) all = absurd all
indexed_stand indexes (p ∷ written) [] all = absurd all
indexed_stand indexes (p ∷ written) (c ∷ columns) all =
    sum_by-cons (λ (column : Column). counted column.indexed) c columns
    ∙ (λ i. counted (all.0.indexed i) + indexed_columns columns)
    ∙ ap (λ (n : ℕ). counted (has_name indexes p.name) + n) (indexed_stand indexes written columns all.1)

-- one name, and the others
abbrev named_by : List ℕ → List ParsedColumn → ℕ
named_by name [] = 0
named_by name (p ∷ written) = counted (bytes_eq name p.name) + named_by name written

split_or : (a b : Bool) → counted (a || b) ≤ counted a + counted b
split_or true b = omega arith
split_or false b = omega arith

named_split : (name : List ℕ) (indexes : List (List ℕ)) (written : List ParsedColumn) → named_in (name ∷ indexes) written ≤ named_by name written + named_in indexes written
named_split name indexes [] = omega arith
named_split name indexes (p ∷ written) =
    let first = split_or (bytes_eq name p.name) (has_name indexes p.name) in
    let rest = named_split name indexes written in
    omega (arith, first, rest)

named_none : (name : List ℕ) (written : List ParsedColumn) → plan.has_column written name ≡ false → named_by name written ≡ 0
named_none name [] out = refl
named_none name (p ∷ written) out = by (bytes_eq name p.name) refl (named_none name written)
  where
    neither : (a b : Bool) → (a || b) ≡ false → (a ≡ false) × (b ≡ false)
    neither true b is = absurd (let bad : true ≡ false = is in let no_way : ⊥ = cc in no_way)
    neither false b is = (refl, is)

    outs : (bytes_eq p.name name ≡ false) × (plan.has_column written name ≡ false)
    outs = neither (bytes_eq p.name name) (plan.has_column written name) out

    by : (b : Bool) → bytes_eq name p.name ≡ b → (plan.has_column written name ≡ false → named_by name written ≡ 0) → counted b + named_by name written ≡ 0
    by true is rest =
        let turned : bytes_eq p.name name ≡ true = (bytes_eq-Decides p.name name).1 (sym (same_name name p.name is)) in
        let bad : true ≡ false = sym turned ∙ outs.0 in absurd (let no_way : ⊥ = cc in no_way)
    by false is rest = let none = rest outs.1 in omega (arith, none)

named_once : (name : List ℕ) (written : List ParsedColumn) → plan.are_distinct written ≡ true → named_by name written ≤ 1
named_once name [] distinct = omega arith
named_once name (p ∷ written) distinct = by (bytes_eq name p.name) refl (named_once name written parts.1)
  where
    parts : (not (plan.has_column written p.name) ≡ true) × (plan.are_distinct written ≡ true)
    parts = and_parts (not (plan.has_column written p.name)) (plan.are_distinct written) distinct

    by : (b : Bool) → bytes_eq name p.name ≡ b → named_by name written ≤ 1 → counted b + named_by name written ≤ 1
    by true is rest =
        let out : plan.has_column written name ≡ false = subst (λ (n : List ℕ). plan.has_column written n ≡ false) (sym (same_name name p.name is)) (absent (plan.has_column written p.name) parts.0) in
        let none = named_none name written out in omega (arith, none)
    by false is rest = omega (arith, rest)

named_zero : (written : List ParsedColumn) → named_in [] written ≡ 0
named_zero [] = refl
named_zero (p ∷ written) = let none = named_zero written in omega (arith, none)

named_few : (indexes : List (List ℕ)) (written : List ParsedColumn) → plan.are_distinct written ≡ true → named_in indexes written ≤ length indexes
named_few [] written distinct = let none = named_zero written in omega (arith, none)
named_few (name ∷ indexes) written distinct =
    let split = named_split name indexes written in
    let one = named_once name written distinct in
    let rest = named_few indexes written distinct in
    omega (arith, split, one, rest)

le_most : (n m most : ℕ) → n ≤ m → nat_le m most ≡ true → nat_le n most ≡ true
le_most n m most less is = grind (arith, nat_tests, less, is)

-- ---- all columns

sized_key : (key : List ℕ) (columns : List Column) → indexed_columns (key_column key ∷ columns) ≡ indexed_columns columns
sized_key key columns = sum_by-cons (λ (column : Column). counted column.indexed) (key_column key) columns ∙ zero_left (indexed_columns columns)
  where
    zero_left : (n : ℕ) → 0 + n ≡ n
    zero_left n = omega arith

pub schema_columns : (key : List ℕ) (written : List ParsedColumn) (indexes : List (List ℕ)) (schema : Schema) → schema_of key written indexes ≡ Ok schema
    → is_some_name key ≡ true → list_all named.has_name written ≡ true → AreColumns schema.columns
unfolding schema_of
schema_columns key written indexes schema is key_some columns_some =
    let few = step (ensure OutOfLimits (nat_le (length written + 1) 16)) _ schema is in
    let short = step (ensure OutOfLimits (are_short key written)) _ schema few.2 in
    let other = step (ensure OutOfLimits (not (plan.has_column written key))) _ schema short.2 in
    let distinct = step (ensure OutOfLimits (plan.are_distinct written)) _ schema other.2 in
    let indexed = step (ensure OutOfLimits (nat_le (length indexes) index_limit)) _ schema distinct.2 in
    let fit = step (ensure OutOfLimits (plan.are_indexes written indexes)) _ schema indexed.2 in
    let found = step (keyed key (each (column_of indexes) written)) _ schema fit.2 in
    let columns = step (each (column_of indexes) written) _ found.0 found.1 in
    let stand = all_stand indexes written columns.0 columns.1 in
    let shorts = and_parts (is_short key) (are_short_columns written) (ensured OutOfLimits (are_short key written) short.0 short.1) in
    let once = ensured OutOfLimits (plan.are_distinct written) distinct.0 distinct.1 in
    let indexes_are = ensured OutOfLimits (plan.are_indexes written indexes) fit.0 fit.1 in
    let long = stand_length indexes written columns.0 stand in
    let many = at_most (length written + 1) (ensured OutOfLimits (nat_le (length written + 1) 16) few.0 few.1) in
    subst (λ (s : Schema). AreColumns s.columns) (same (record { columns = found.0 }) schema found.2)
    (subst AreColumns (same (key_column key ∷ columns.0) found.0 columns.2)
    (record {
      some = omega arith;
      most = omega (arith, long, many);
      names = all_places (λ (c : Column). IsName c.name) (key_column key ∷ columns.0) (name_good key key_some shorts.0, names_stand indexes written columns.0 stand columns_some shorts.1);
      sizes = and_from true (list_all is_sized columns.0) refl (sizes_stand indexes written columns.0 stand);
      limits = within columns.0 stand once indexes_are (ensured OutOfLimits (nat_le (length indexes) index_limit) indexed.0 indexed.1) (ensured OutOfLimits (not (plan.has_column written key)) other.0 other.1);
    }))
  where
    at_most : (n : ℕ) → nat_le n 16 ≡ true → n ≤ 16
    at_most n h = grind (arith, nat_tests, h)

    within : (columns : List Column) → AllStand indexes written columns → plan.are_distinct written ≡ true → plan.are_indexes written indexes ≡ true → nat_le (length indexes) 2 ≡ true → not (plan.has_column written key) ≡ true
        → are_within_limits (key_column key ∷ columns) ≡ true
    within columns stand once are few other =
        let geo = indexable_stand indexes written columns stand once (λ name has there. geo_all written indexes name are has) in
        let count : nat_le (indexed_columns (key_column key ∷ columns)) 2 ≡ true =
        ap (λ (n : ℕ). nat_le n 2) (sized_key key columns ∙ indexed_stand indexes written columns stand) ∙ le_most (named_in indexes written) (length indexes) 2 (named_few indexes written once) few in
        let names : limits.are_distinct (key_column key ∷ columns) ≡ true =
        and_from (not (limits.has_column columns key)) (limits.are_distinct columns) (ap not (has_stands indexes written columns key stand) ∙ other) (distinct_stand indexes written columns stand once) in
        and_from true (list_all is_indexable (key_column key ∷ columns) && (nat_le (indexed_columns (key_column key ∷ columns)) 2 && limits.are_distinct (key_column key ∷ columns))) refl
        (and_from (list_all is_indexable (key_column key ∷ columns)) (nat_le (indexed_columns (key_column key ∷ columns)) 2 && limits.are_distinct (key_column key ∷ columns)) geo
        (and_from (nat_le (indexed_columns (key_column key ∷ columns)) 2) (limits.are_distinct (key_column key ∷ columns)) count names))
