-- A row that is read is spelled so, and a spelled row is read again.
use Rattle.std.proofs.Common.{◌≡◌, ℕ, ℤ, suc, ◌+◌, ◌*◌, ◌^◌, ◌<◌, Bool, true, false, cond, List, [], ◌∷◌, ◌++◌, length, Option, Some, None, refl, sym, ap, subst, ◌∙◌, append_assoc, arith, if◌then◌else◌}
use Rattle.std.specs.Prelude.{All, drop, Err}
use Rattle.std.specs.List.{flat_map, sum_by}
use Rattle.std.proofs.lemmas.List.{append-nil, length-append}
use Rattle.std.proofs.lemmas.List.Elements.{All-cons, All-nil}
use Rattle.std.proofs.lemmas.List.Sums.{sum_by-cons}
use Rattle.isp_geom.specs.Reading.{◌>>=◌}
use Rattle.isp_geom.proofs.Readers.{IsBytes, Takes, Takes-then, bind_some, some_is}
use Rattle.isp_plain.specs.RowBytes.{indexed_columns, row_bytes, value_bytes}
use Rattle.isp_plain.specs.declared.value.Column.{Column}
use Rattle.isp_plain.specs.declared.value.Kind.{Kind}
use Rattle.isp_plain.specs.declared.value.Kind.TheVariants as kind
use Rattle.isp_plain.specs.declared.value.Row.{Row}
use Rattle.isp_plain.specs.declared.value.Schema.{Schema}
use Rattle.isp_plain.specs.declared.value.Value.{Value}
use Rattle.isp_plain.specs.declared.value.Value.TheVariants.{Int, Text, Geo}
use Rattle.isp_row.specs.Laws.{BytesAreOneRow}
use Rattle.isp_row.specs.declared.error.RowError.{RowError}
use Rattle.isp_row.specs.declared.error.RowError.TheVariants.{NotRow, OutOfMemory}
use Rattle.isp_row.specs.Reading.{Gives, behind, closed, column_at, each_at, entry_at, is_number, number_at, row_in, value_at, values_at}
use Rattle.isp_row.specs.RowSpelling.{AreValuesOf, IsSpelled, IsValueOf, Spells, StartsWith, number_spelling, value_spelling}
use Rattle.isp_row.proofs.FieldLaws.{number_again, number_back, value_again, value_back}

-- ---- what is read for each column

-- what is behind a list was read
behind_some : {X : Type 0} (front : List X) (read : Option (List X × List ℕ)) (all : List X) (rest : List ℕ) → behind front read ≡ Some (all, rest) → (xs : List X) × (read ≡ Some (xs, rest)) × (all ≡ front ++ xs)
behind_some {X = X} front (Some x) all rest is =
    let pair = some_is (front ++ x.0, x.1) (all, rest) is in
    (x.0, (λ i. Some (x.0, (ap (λ (r : List X × List ℕ). r.1) pair) i)), sym (ap (λ (r : List X × List ℕ). r.0) pair))
behind_some {X = X} front None all rest is = absurd cc

-- ---- the numbers of entries

pub record AreNumbers (columns : List Column) (bytes : List ℕ) (numbers rest : List ℕ) : Type 0 where
  pub takes : Takes bytes (flat_map number_spelling numbers) rest
  pub count : length numbers ≡ indexed_columns columns
  pub small : All (λ number. number < 256 ^ 8) numbers

indexed_more : (column : Column) (columns : List Column) → indexed_columns (column ∷ columns) ≡ cond column.indexed 1 0 + indexed_columns columns
indexed_more column columns = sum_by-cons (λ c. cond c.indexed 1 0) column columns

numbers_by : (b : Bool) (column : Column) (columns : List Column) (bytes numbers rest : List ℕ) → ((bytes numbers : List ℕ) → IsBytes bytes → each_at entry_at columns bytes ≡ Some (numbers, rest) → AreNumbers columns bytes numbers rest) → IsBytes bytes → column.indexed ≡ b
    → ◌>>=◌ {A = List ℕ × List ℕ} (if b then ◌>>=◌ {A = ℕ × List ℕ} (number_at bytes) (λ n. Some (n.0 ∷ [], n.1)) else Some ([], bytes)) (λ first. behind first.0 (each_at entry_at columns first.1)) ≡ Some (numbers, rest) → AreNumbers (column ∷ columns) bytes numbers rest
numbers_by true column columns bytes numbers rest back fits has is =
    let b = bind_some (◌>>=◌ {A = ℕ × List ℕ} (number_at bytes) (λ n. Some (n.0 ∷ [], n.1))) (λ first. behind first.0 (each_at entry_at columns first.1)) (numbers, rest) is in
    let n = bind_some (number_at bytes) (λ n. Some (n.0 ∷ [], n.1)) b.0 b.1 in
    let first = number_back bytes n.0.0 n.0.1 fits n.1 in
    let pair = some_is (n.0.0 ∷ [], n.0.1) b.0 n.2 in
    let more = behind_some b.0.0 (each_at entry_at columns b.0.1) numbers rest b.2 in
    let read : each_at entry_at columns n.0.1 ≡ Some (more.0, rest) = ap (λ (r : List ℕ × List ℕ). each_at entry_at columns r.1) pair ∙ more.1 in
    let others = back n.0.1 more.0 first.takes.rest_fits read in
    let all : n.0.0 ∷ more.0 ≡ numbers = ap (λ (r : List ℕ × List ℕ). r.0 ++ more.0) pair ∙ sym more.2 in
    let number_small : n.0.0 < 256 ^ 8 = first.small in
    subst (λ (ns : List ℕ). AreNumbers (column ∷ columns) bytes ns rest) all (record {
      takes = Takes-then bytes (number_spelling n.0.0) n.0.1 (flat_map number_spelling more.0) rest first.takes others.takes;
      count = (let e = others.count in let m = indexed_more column columns in let one : cond {A = ℕ} column.indexed 1 0 ≡ 1 = ap (λ (c : Bool). cond {A = ℕ} c 1 0) has in omega (arith, e, m, one));
      small = All-cons (λ (number : ℕ). number < 256 ^ 8) n.0.0 more.0 number_small others.small;
    })
numbers_by false column columns bytes numbers rest back fits has is =
    let more = behind_some [] (each_at entry_at columns bytes) numbers rest is in
    let others = back bytes more.0 fits more.1 in
    subst (λ (ns : List ℕ). AreNumbers (column ∷ columns) bytes ns rest) (sym more.2) (record {
      takes = others.takes;
      count = (let e = others.count in let m = indexed_more column columns in let none : cond {A = ℕ} column.indexed 1 0 ≡ 0 = ap (λ (c : Bool). cond {A = ℕ} c 1 0) has in omega (arith, e, m, none));
      small = others.small;
    })

pub numbers_back : (columns : List Column) (bytes numbers rest : List ℕ) → IsBytes bytes → each_at entry_at columns bytes ≡ Some (numbers, rest) → AreNumbers columns bytes numbers rest
numbers_back [] bytes numbers rest fits is =
    subst (λ (r : List ℕ × List ℕ). AreNumbers [] bytes r.0 r.1) (some_is ([], bytes) (numbers, rest) is) (record { takes = record { parts = refl; rest_fits = fits }; count = refl; small = All-nil (λ (number : ℕ). number < 256 ^ 8) })
numbers_back (column ∷ columns) bytes numbers rest fits is =
    numbers_by column.indexed column columns bytes numbers rest (λ bytes numbers fits is. numbers_back columns bytes numbers rest fits is) fits refl is

again_by : (b : Bool) (columns : List Column) (ns rest : List ℕ) → ((ns : List ℕ) → length ns ≡ indexed_columns columns → All (λ (number : ℕ). number < 256 ^ 8) ns → each_at entry_at columns (flat_map number_spelling ns ++ rest) ≡ Some (ns, rest))
    → length ns ≡ cond b 1 0 + indexed_columns columns → All (λ (number : ℕ). number < 256 ^ 8) ns
    → ◌>>=◌ {A = List ℕ × List ℕ} (if b then ◌>>=◌ {A = ℕ × List ℕ} (number_at (flat_map number_spelling ns ++ rest)) (λ n. Some (n.0 ∷ [], n.1)) else Some ([], flat_map number_spelling ns ++ rest)) (λ first. behind first.0 (each_at entry_at columns first.1)) ≡ Some (ns, rest)
again_by true columns [] rest again count small = absurd (omega (arith, count))
again_by true columns (n ∷ ns) rest again count small =
    let one : number_at ((number_spelling n ++ flat_map number_spelling ns) ++ rest) ≡ Some (n, flat_map number_spelling ns ++ rest) = ap number_at (append_assoc (number_spelling n) (flat_map number_spelling ns) rest) ∙ number_again n (flat_map number_spelling ns ++ rest) (small 0 n (omega arith)) in
    ap (λ (r : Option (ℕ × List ℕ)). ◌>>=◌ {A = List ℕ × List ℕ} (◌>>=◌ {A = ℕ × List ℕ} r (λ n. Some (n.0 ∷ [], n.1))) (λ first. behind first.0 (each_at entry_at columns first.1))) one
    ∙ ap (λ (r : Option (List ℕ × List ℕ)). behind (n ∷ []) r) (again ns (omega (arith, count)) (λ k d h. small (suc k) d (omega (arith, h))))
again_by false columns ns rest again count small = ap (λ (r : Option (List ℕ × List ℕ)). behind [] r) (again ns (omega (arith, count)) small)

pub numbers_again : (columns : List Column) (numbers rest : List ℕ) → length numbers ≡ indexed_columns columns → All (λ number. number < 256 ^ 8) numbers
    → each_at entry_at columns (flat_map number_spelling numbers ++ rest) ≡ Some (numbers, rest)
numbers_again [] [] rest count small = refl
numbers_again [] (n ∷ numbers) rest count small = absurd (omega (arith, count))
numbers_again (column ∷ columns) numbers rest count small =
    again_by column.indexed columns numbers rest (λ ns count small. numbers_again columns ns rest count small) (count ∙ indexed_more column columns) small

-- ---- values

pub record AreRead (columns : List Column) (bytes : List ℕ) (values : List Value) (rest : List ℕ) : Type 0 where
  pub takes : Takes bytes (flat_map value_spelling values) rest
  pub are : AreValuesOf columns values
  pub spelled : All IsSpelled values

pub values_back : (columns : List Column) (bytes : List ℕ) (values : List Value) (rest : List ℕ) → IsBytes bytes → each_at column_at columns bytes ≡ Some (values, rest) → AreRead columns bytes values rest
values_back [] bytes values rest fits is =
    subst (λ (r : List Value × List ℕ). AreRead [] bytes r.0 r.1) (some_is ([], bytes) (values, rest) is) (record { takes = record { parts = refl; rest_fits = fits }; are = tt; spelled = All-nil IsSpelled })
values_back (column ∷ columns) bytes values rest fits is =
    let b = bind_some (◌>>=◌ {A = Value × List ℕ} (value_at column.kind bytes) (λ v. Some (v.0 ∷ [], v.1))) (λ first. behind first.0 (each_at column_at columns first.1)) (values, rest) is in
    let v = bind_some (value_at column.kind bytes) (λ v. Some (v.0 ∷ [], v.1)) b.0 b.1 in
    let first = value_back column.kind bytes v.0.0 v.0.1 fits v.1 in
    let pair = some_is (v.0.0 ∷ [], v.0.1) b.0 v.2 in
    let more = behind_some b.0.0 (each_at column_at columns b.0.1) values rest b.2 in
    let read : each_at column_at columns v.0.1 ≡ Some (more.0, rest) = ap (λ (r : List Value × List ℕ). each_at column_at columns r.1) pair ∙ more.1 in
    let others = values_back columns v.0.1 more.0 rest first.takes.rest_fits read in
    let all : v.0.0 ∷ more.0 ≡ values = ap (λ (r : List Value × List ℕ). r.0 ++ more.0) pair ∙ sym more.2 in
    subst (λ (vs : List Value). AreRead (column ∷ columns) bytes vs rest) all (record {
      takes = Takes-then bytes (value_spelling v.0.0) v.0.1 (flat_map value_spelling more.0) rest first.takes others.takes;
      are = (first.column, others.are);
      spelled = All-cons IsSpelled v.0.0 more.0 first.spelled others.spelled;
    })

pub values_again : (columns : List Column) (values : List Value) (rest : List ℕ) → AreValuesOf columns values → All IsSpelled values
    → each_at column_at columns (flat_map value_spelling values ++ rest) ≡ Some (values, rest)
values_again [] [] rest are spelled = refl
values_again [] (v ∷ values) rest are spelled = absurd are
values_again (column ∷ columns) [] rest are spelled = absurd are
values_again (column ∷ columns) (v ∷ values) rest are spelled =
    let one : value_at column.kind ((value_spelling v ++ flat_map value_spelling values) ++ rest) ≡ Some (v, flat_map value_spelling values ++ rest) = ap (value_at column.kind) (append_assoc (value_spelling v) (flat_map value_spelling values) rest) ∙ value_again column.kind v (flat_map value_spelling values ++ rest) are.0 (spelled 0 v (omega arith)) in
    ap (λ (r : Option (Value × List ℕ)). ◌>>=◌ {A = List Value × List ℕ} (◌>>=◌ {A = Value × List ℕ} r (λ v. Some (v.0 ∷ [], v.1))) (λ first. behind first.0 (each_at column_at columns first.1))) one
    ∙ ap (λ (r : Option (List Value × List ℕ)). behind (v ∷ []) r) (values_again columns values rest are.1 (λ k d h. spelled (suc k) d (omega (arith, h))))

-- ---- a row

-- a row's values that were read behind its key
pub record AreKeyed (columns : List Column) (key : ℤ) (bytes : List ℕ) (values : List Value) (rest : List ℕ) : Type 0 where
  pub takes : Takes bytes (flat_map value_spelling (drop 1 values)) rest
  pub are : AreValuesOf columns values
  pub first : StartsWith key values
  pub spelled : All IsSpelled (drop 1 values)

number_kind : (k : Kind) (key : ℤ) → is_number k ≡ true → IsValueOf k (Int key)
number_kind kind.BigInt key is = tt
number_kind (kind.VarChar n) key is = absurd cc
number_kind kind.Geo key is = absurd cc

kind_number : (k : Kind) (key : ℤ) → IsValueOf k (Int key) → is_number k ≡ true
kind_number kind.BigInt key is = refl
kind_number (kind.VarChar n) key is = absurd is
kind_number kind.Geo key is = absurd is

pub keyed_back : (columns : List Column) (key : ℤ) (bytes : List ℕ) (values : List Value) (rest : List ℕ) → IsBytes bytes → values_at columns key bytes ≡ Some (values, rest) → AreKeyed columns key bytes values rest
keyed_back [] key bytes values rest fits is = absurd cc
keyed_back (column ∷ columns) key bytes values rest fits is = by (is_number column.kind) refl is
  where
    by : (b : Bool) → is_number column.kind ≡ b → (if b then behind (Int key ∷ []) (each_at column_at columns bytes) else None) ≡ Some (values, rest) → AreKeyed (column ∷ columns) key bytes values rest
    by true number is =
        let more = behind_some (Int key ∷ []) (each_at column_at columns bytes) values rest is in
        let others = values_back columns bytes more.0 rest fits more.1 in
        subst (λ (vs : List Value). AreKeyed (column ∷ columns) key bytes vs rest) (sym more.2) (record {
          takes = others.takes;
          are = (number_kind column.kind key number, others.are);
          first = refl;
          spelled = others.spelled;
        })
    by false number is = absurd cc

pub keyed_again : (columns : List Column) (key : ℤ) (values : List Value) (rest : List ℕ) → AreValuesOf columns values → StartsWith key values → All IsSpelled (drop 1 values)
    → values_at columns key (flat_map value_spelling (drop 1 values) ++ rest) ≡ Some (values, rest)
keyed_again [] key [] rest are first spelled = absurd first
keyed_again [] key (v ∷ values) rest are first spelled = absurd are
keyed_again (column ∷ columns) key [] rest are first spelled = absurd are
keyed_again (column ∷ columns) key (Int z ∷ values) rest are first spelled =
    let number : is_number column.kind ≡ true = kind_number column.kind z are.0 in
    ap (λ (b : Bool). if b then behind (Int key ∷ []) (each_at column_at columns (flat_map value_spelling values ++ rest)) else None) number
    ∙ ap (λ (r : Option (List Value × List ℕ)). behind (Int key ∷ []) r) (values_again columns values rest are.1 spelled)
    ∙ ap (λ (k : ℤ). Some (Int k ∷ values, rest)) (sym first)
keyed_again (column ∷ columns) key (Text t ∷ values) rest are first spelled = absurd first
keyed_again (column ∷ columns) key (Geo f ∷ values) rest are first spelled = absurd first

closed_back : (got : List Value × List ℕ) (left : List ℕ) (x : List Value × List ℕ) → closed got left ≡ Some x → (left ≡ []) × (got ≡ x)
closed_back got [] x is = (refl, some_is got x is)
closed_back got (b ∷ left) x is = absurd cc

pub row_back : (schema : Schema) (key : ℤ) (bytes : List ℕ) (values : List Value) (numbers : List ℕ) → IsBytes bytes → row_in schema.columns key bytes ≡ Some (values, numbers) → Spells schema key bytes (record { values = values }) numbers
unfolding row_in
row_back schema key bytes values numbers fits is =
    let b = bind_some (each_at entry_at schema.columns bytes) (λ numbers. values_at schema.columns key numbers.1 >>= λ values. closed (values.0, numbers.0) values.1) (values, numbers) is in
    let ns = numbers_back schema.columns bytes b.0.0 b.0.1 fits b.1 in
    let c = bind_some (values_at schema.columns key b.0.1) (λ values. closed (values.0, b.0.0) values.1) (values, numbers) b.2 in
    let vs = keyed_back schema.columns key b.0.1 c.0.0 c.0.1 ns.takes.rest_fits c.1 in
    let end = closed_back (c.0.0, b.0.0) c.0.1 (values, numbers) c.2 in
    let whole = Takes-then bytes (flat_map number_spelling b.0.0) b.0.1 (flat_map value_spelling (drop 1 c.0.0)) c.0.1 ns.takes vs.takes in
    let got : Spells schema key bytes (record { values = c.0.0 }) b.0.0 = record {
      is_row = record { values = vs.are; first = vs.first };
      values = vs.spelled;
      count = ns.count;
      small = ns.small;
      spelled = whole.parts ∙ ap (λ (l : List ℕ). (flat_map number_spelling b.0.0 ++ flat_map value_spelling (drop 1 c.0.0)) ++ l) end.0 ∙ append-nil _;
    } in
    subst (λ (r : List Value × List ℕ). Spells schema key bytes (record { values = r.0 }) r.1) end.1 got

pub row_again : (schema : Schema) (key : ℤ) (bytes : List ℕ) (row : Row) (numbers : List ℕ) → Spells schema key bytes row numbers → row_in schema.columns key bytes ≡ Some (row.values, numbers)
unfolding row_in
row_again schema key bytes row numbers is =
    let tail : List ℕ = flat_map value_spelling (drop 1 row.values) in
    ap (λ (l : List ℕ). each_at entry_at schema.columns l >>= λ numbers. values_at schema.columns key numbers.1 >>= λ values. closed (values.0, numbers.0) values.1) is.spelled
    ∙ ap (λ (r : Option (List ℕ × List ℕ)). r >>= λ numbers. values_at schema.columns key numbers.1 >>= λ values. closed (values.0, numbers.0) values.1) (numbers_again schema.columns numbers tail is.count is.small)
    ∙ ap (λ (l : List ℕ). values_at schema.columns key l >>= λ values. closed (values.0, numbers) values.1) (sym (append-nil tail))
    ∙ ap (λ (r : Option (List Value × List ℕ)). r >>= λ values. closed (values.0, numbers) values.1) (keyed_again schema.columns key row.values [] is.is_row.values is.is_row.first is.values)

pub one_row : BytesAreOneRow
one_row schema key bytes row other numbers others is is_other =
    let same = some_is (row.values, numbers) (other.values, others) (sym (row_again schema key bytes row numbers is) ∙ row_again schema key bytes other others is_other) in
    ((λ i. record { values = (same i).0 }), (λ i. (same i).1))

-- ---- at the call

pub row_found : (schema : Schema) (key k : ℤ) (columns : List Column) (bytes : List ℕ) (values : List Value) (numbers : List ℕ) → IsBytes bytes → columns ≡ schema.columns → k ≡ key → row_in columns k bytes ≡ Some (values, numbers)
    → Spells schema key bytes (record { values = values }) numbers
row_found schema key k columns bytes values numbers fits columns_is key_is is = row_back schema key bytes values numbers fits ((λ i. row_in (sym columns_is i) (sym key_is i) bytes) ∙ is)

no_some : {X : Type 0} (x : X) → ◌≡◌ {A = Option X} None (Some x) → ⊥
no_some x is = cc

pub row_none : (schema : Schema) (key k : ℤ) (columns : List Column) (bytes : List ℕ) (row : Row) (numbers : List ℕ) → columns ≡ schema.columns → k ≡ key → row_in columns k bytes ≡ None → Spells schema key bytes row numbers → ⊥
row_none schema key k columns bytes row numbers columns_is key_is none is =
    no_some (row.values, numbers) (sym none ∙ (λ i. row_in (columns_is i) (key_is i) bytes) ∙ row_again schema key bytes row numbers is)

-- what was refused wasn't there
pub given_none : (e : RowError) (read : Option (List Value × List ℕ)) (left : List ℕ) → Gives {X = List Value} (Err e) read left → e ≡ NotRow → read ≡ None
given_none NotRow read left none is = none
given_none OutOfMemory read left none is = absurd cc

-- ---- lengths

numbers_length : (numbers : List ℕ) → length (flat_map number_spelling numbers) ≡ 8 * length numbers
numbers_length [] = refl
numbers_length (n ∷ numbers) = let rest = numbers_length numbers in omega (arith, rest)

value_length : (v : Value) → length (value_spelling v) ≡ value_bytes v
value_length (Int z) = refl
value_length (Text t) = omega arith
value_length (Geo f) = omega arith

values_length : (values : List Value) → length (flat_map value_spelling values) ≡ sum_by value_bytes values
values_length [] = refl
values_length (v ∷ values) =
    let rest = values_length values in
    let first = value_length v in
    length-append (value_spelling v) (flat_map value_spelling values) ∙ (λ i. first i + rest i) ∙ sym (sum_by-cons value_bytes v values)

pub spelled_length : (schema : Schema) (key : ℤ) (bytes : List ℕ) (row : Row) (numbers : List ℕ) → Spells schema key bytes row numbers → length bytes ≡ row_bytes schema row
spelled_length schema key bytes row numbers is =
    ap (λ (l : List ℕ). length l) is.spelled ∙ length-append (flat_map number_spelling numbers) (flat_map value_spelling (drop 1 row.values))
    ∙ (λ i. (numbers_length numbers ∙ ap (λ (n : ℕ). 8 * n) is.count) i + values_length (drop 1 row.values) i)
