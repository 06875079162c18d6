-- A definition that is read from a page stands there, and one that stands there is read.
use Rattle.std.proofs.Common.{◌≡◌, ℕ, zero, suc, ◌+◌, ◌-◌, ◌*◌, ◌<◌, ◌≤◌, ◌==◌, ◌&&◌, Bool, true, false, List, [], ◌∷◌, ◌++◌, length, map, Option, Some, None, refl, sym, ◌∙◌, ap, subst, arith, if◌then◌else◌}
use Rattle.std.specs.Prelude.{All, nat_le, nat_lt, slice_index}
use Rattle.std.specs.List.{list_all}
use Rattle.std.proofs.lemmas.Bool.{and_parts}
use Rattle.std.proofs.lemmas.Bool.Decides.{nat_tests}
use Rattle.std.proofs.lemmas.List.{length-append}
use Rattle.std.proofs.lemmas.List.Elements.{All-cons, All-nil}
use Rattle.isp_base.specs.declared.page_no.PageNo.{PageNo}
use Rattle.isp_disk.specs.Moments.{Image, image_of, slice}
use Rattle.isp_format.specs.Definition.{DefinedColumn, DefinedTable, SpellsColumn, SpellsColumns, SpellsName, SpellsTable, definition_page, definition_place, flag_byte}
use Rattle.isp_format.specs.Header.{number_in}
use Rattle.isp_format.specs.Numbers.{bytes_of}
use Rattle.isp_format.specs.Ranges.{Contents, page_of}
use Rattle.isp_format.proofs.Slices.{length-slice}
use Rattle.isp_plain.specs.declared.value.Column.{Column}
use Rattle.isp_plain.specs.declared.value.Kind.{Kind}
use Rattle.isp_plain.specs.declared.value.Kind.TheVariants as kind
use Rattle.isp_catalog.specs.Catalogue.{IsDefined, IsKind, IsTableOf, SayColumns, SaysColumn, SaysTable}
use Rattle.isp_catalog.specs.Limits.{IsName, are_within_limits, has_size, is_size, is_sized}
use Rattle.isp_catalog.specs.Reading.{◌>>=◌, all_columns_in, column_in, columns_in, flag_in, kind_in, name_in, root_in, table_in, varchar_in}
use Rattle.isp_catalog.specs.declared.table.TableDef.{TableDef}
use Rattle.isp_catalog.proofs.Standing.{AreBytes, Stands, four_stand, front_stands, number_is, number_small, slice_stands, stands_cons, stands_first, stands_front, stands_join, stands_parts, two_stand}

-- ---- options

-- the value of a step that was there
pub bind_some : {A B : Type 0} (r : Option A) (f : A → Option B) (y : B) → (r >>= f) ≡ Some y → (x : A) × (r ≡ Some x) × (f x ≡ Some y)
bind_some (Some x) f y e = (x, refl, e)
bind_some None f y e = absurd cc

pub some_is : {A : Type 0} (x y : A) → ◌≡◌ {A = Option A} (Some x) (Some y) → x ≡ y
some_is x y e = cc

-- what a test lets through
pub tested : {X : Type 0} (b : Bool) (x y : X) → (if b then Some x else None) ≡ Some y → (b ≡ true) × (x ≡ y)
tested true x y is = (refl, cc)
tested false x y is = absurd cc

passed : {X : Type 0} (b : Bool) (read : Option X) (y : X) → (if b then read else None) ≡ Some y → (b ≡ true) × (read ≡ Some y)
passed true read y is = (refl, is)
passed false read y is = absurd cc

-- ---- names

pub field_length : (name field : List ℕ) → SpellsName name field → length field ≡ 33
field_length name field spells =
    let sum : length (name ++ spells.rest) ≡ length name + length spells.rest = length-append name spells.rest in
    let filled = spells.filled in
    let long : length (length name ∷ (name ++ spells.rest)) ≡ 33 = omega (arith, sum, filled) in
    ap length spells.spelled ∙ long

pub record Named (image : Image) (at : ℕ) (name : List ℕ) : Type 0 where
  pub field : List ℕ
  pub spells : SpellsName name field
  pub stands : Stands image at field

pub name_back : (bytes : List ℕ) (at : ℕ) (name : List ℕ) → name_in bytes at ≡ Some name → Named (image_of bytes) at name
name_back bytes at name is =
    let image = image_of bytes in
    let n = slice_index bytes at in
    let t = tested (nat_le 1 n && nat_le n 32) (slice image (at + 1) n) name is in
    let both = and_parts (nat_le 1 n) (nat_le n 32) t.0 in
    let low = both.0 in
    let high = both.1 in
    let some : 1 ≤ n = grind (arith, nat_tests, low) in
    let most : n ≤ 32 = grind (arith, nat_tests, high) in
    let own : List ℕ = slice image (at + 1) n in
    let long : length own ≡ n = length-slice image (at + 1) n in
    let rest : List ℕ = slice image (at + 1 + n) (32 - n) in
    let rest_long : length rest ≡ 32 - n = length-slice image (at + 1 + n) (32 - n) in
    let named : Named image at own = record {
      field = length own ∷ (own ++ rest);
      spells = record { some = omega (arith, long, some); most = omega (arith, long, most); rest = rest; filled = omega (arith, long, rest_long, most); spelled = refl };
      stands = stands_cons image at (length own) (own ++ rest) (sym long) (stands_join image (at + 1) (at + 1 + n) own rest (omega (arith, long)) (slice_stands image (at + 1) n) (slice_stands image (at + 1 + n) (32 - n)));
    } in
    subst (λ (l : List ℕ). Named image at l) t.1 named

pub name_again : (bytes : List ℕ) (at : ℕ) (name field : List ℕ) → SpellsName name field → Stands (image_of bytes) at field → name_in bytes at ≡ Some name
name_again bytes at name field spells stands =
    let image = image_of bytes in
    let first = stands_first image at (length name) (name ++ spells.rest) (subst (Stands image at) spells.spelled stands) in
    let own = (stands_parts image (at + 1) name spells.rest first.1).0 in
    let some = spells.some in
    let most = spells.most in
    let passes : (nat_le 1 (length name) && nat_le (length name) 32) ≡ true = grind (arith, nat_tests, some, most) in
    ap (λ (n : ℕ). if nat_le 1 n && nat_le n 32 then Some (slice image (at + 1) n) else None) first.0
    ∙ ap (λ (b : Bool). if b then Some (slice image (at + 1) (length name)) else None) passes
    ∙ ap (λ (l : List ℕ). Some l) own

-- ---- columns

record KindRead (byte size : ℕ) (k : Kind) : Type 0 where
  is : IsKind k byte size
  sized : has_size k ≡ true

kind_back : (byte size : ℕ) (k : Kind) → kind_in byte size ≡ Some k → KindRead byte size k
kind_back byte size k is = first (byte == 1) refl is
  where
    third : (b : Bool) → (byte == 3) ≡ b → (if b then Some kind.Geo else None) ≡ Some k → KindRead byte size k
    third true same is = subst (λ (x : Kind). KindRead byte size x) (some_is kind.Geo k is) (record { is = grind (arith, nat_tests, same); sized = refl })
    third false other is = absurd cc

    second : (b : Bool) → (byte == 2) ≡ b → (if b then varchar_in size else (if byte == 3 then Some kind.Geo else None)) ≡ Some k → KindRead byte size k
    second true same is =
        let t = tested (is_size size) (kind.VarChar size) k is in
        subst (λ (x : Kind). KindRead byte size x) t.1 (record { is = (grind (arith, nat_tests, same), refl); sized = t.0 })
    second false other is = third (byte == 3) refl is

    first : (b : Bool) → (byte == 1) ≡ b → (if b then Some kind.BigInt else (if byte == 2 then varchar_in size else (if byte == 3 then Some kind.Geo else None))) ≡ Some k → KindRead byte size k
    first true same is = subst (λ (x : Kind). KindRead byte size x) (some_is kind.BigInt k is) (record { is = grind (arith, nat_tests, same); sized = refl })
    first false other is = second (byte == 2) refl is

kind_again : (byte size : ℕ) (k : Kind) → IsKind k byte size → has_size k ≡ true → kind_in byte size ≡ Some k
kind_again byte size kind.BigInt is sized = ap (λ (b : ℕ). kind_in b size) is
kind_again byte size (kind.VarChar most) is sized = (λ i. kind_in (is.0 i) (is.1 i)) ∙ ap (λ (b : Bool). if b then Some (kind.VarChar most) else None) sized
kind_again byte size kind.Geo is sized = ap (λ (b : ℕ). kind_in b size) is

flag_back : (byte : ℕ) (flag : Bool) → flag_in byte ≡ Some flag → byte ≡ flag_byte flag
flag_back byte flag is = first (byte == 0) refl is
  where
    second : (b : Bool) → (byte == 1) ≡ b → (if b then Some true else None) ≡ Some flag → byte ≡ flag_byte flag
    second true same is = let one : byte ≡ 1 = grind (arith, nat_tests, same) in one ∙ ap flag_byte (some_is true flag is)
    second false other is = absurd cc

    first : (b : Bool) → (byte == 0) ≡ b → (if b then Some false else (if byte == 1 then Some true else None)) ≡ Some flag → byte ≡ flag_byte flag
    first true same is = let none : byte ≡ 0 = grind (arith, nat_tests, same) in none ∙ ap flag_byte (some_is false flag is)
    first false other is = second (byte == 1) refl is

flag_again : (byte : ℕ) (flag : Bool) → byte ≡ flag_byte flag → flag_in byte ≡ Some flag
flag_again byte true is = ap flag_in is
flag_again byte false is = ap flag_in is

-- a column that was read
pub record ColumnRead (image : Image) (at : ℕ) (column : Column) : Type 0 where
  pub field : List ℕ
  pub says : DefinedColumn
  pub spells : SpellsColumn says field
  pub stands : Stands image at field
  pub is : SaysColumn says column
  pub name : IsName column.name
  pub sized : is_sized column ≡ true

pub column_length : (says : DefinedColumn) (field : List ℕ) → SpellsColumn says field → length field ≡ 37
column_length says field spells =
    let name = field_length says.name spells.name_field spells.name in
    let sum = length-append spells.name_field (says.kind ∷ (bytes_of 2 says.size ++ flag_byte says.indexed ∷ [])) in
    ap length spells.spelled ∙ omega (arith, name, sum)

pub column_back : (bytes : List ℕ) (at : ℕ) (column : Column) → AreBytes (image_of bytes) → column_in bytes at ≡ Some column → ColumnRead (image_of bytes) at column
column_back bytes at column fits is =
    let image = image_of bytes in
    let byte = slice_index bytes (at + 33) in
    let size = number_in 2 bytes (at + 34) in
    let flag = slice_index bytes (at + 36) in
    let b = bind_some (name_in bytes at) (λ name. kind_in byte size >>= λ kind. flag_in flag >>= λ indexed. Some (record { name = name; kind = kind; indexed = indexed })) column is in
    let c = bind_some (kind_in byte size) (λ kind. flag_in flag >>= λ indexed. Some (record { name = b.0; kind = kind; indexed = indexed })) column b.2 in
    let d = bind_some (flag_in flag) (λ indexed. Some (record { name = b.0; kind = c.0; indexed = indexed })) column c.2 in
    let named = name_back bytes at b.0 b.1 in
    let k = kind_back byte size c.0 c.1 in
    let f = flag_back flag d.0 d.1 in
    let long = field_length b.0 named.field named.spells in
    let says : DefinedColumn = record { name = b.0; kind = byte; size = size; indexed = d.0 } in
    let end : Stands image (at + 36) (flag_byte d.0 ∷ []) = stands_cons image (at + 36) (flag_byte d.0) [] f refl in
    let sizes : Stands image (at + 34) (bytes_of 2 size ++ flag_byte d.0 ∷ []) = stands_join image (at + 34) (at + 36) (bytes_of 2 size) (flag_byte d.0 ∷ []) (omega arith) (two_stand image (at + 34) fits) end in
    let next : at + 33 + 1 ≡ at + 34 = omega arith in
    let tail : Stands image (at + 33) (byte ∷ (bytes_of 2 size ++ flag_byte d.0 ∷ [])) = stands_cons image (at + 33) byte _ refl (subst (λ (p : ℕ). Stands image p (bytes_of 2 size ++ flag_byte d.0 ∷ [])) (sym next) sizes) in
    let got : ColumnRead image at (record { name = b.0; kind = c.0; indexed = d.0 }) = record {
      field = named.field ++ (byte ∷ (bytes_of 2 size ++ flag_byte d.0 ∷ []));
      says = says;
      spells = record { name_field = named.field; name = named.spells; kind = fits (at + 33); size = number_small 2 image (at + 34) fits; spelled = refl };
      stands = stands_join image at (at + 33) named.field (byte ∷ (bytes_of 2 size ++ flag_byte d.0 ∷ [])) (omega (arith, long)) named.stands tail;
      is = record { name = refl; kind = k.is; indexed = refl };
      name = record { some = named.spells.some; most = named.spells.most };
      sized = k.sized;
    } in
    subst (λ (x : Column). ColumnRead image at x) (some_is _ column d.2) got

pub column_again : (bytes : List ℕ) (at : ℕ) (says : DefinedColumn) (field : List ℕ) (column : Column) → SpellsColumn says field → Stands (image_of bytes) at field → SaysColumn says column → is_sized column ≡ true → column_in bytes at ≡ Some column
column_again bytes at says field column spells stands is sized =
    let image = image_of bytes in
    let tail : List ℕ = bytes_of 2 says.size ++ flag_byte says.indexed ∷ [] in
    let parts = stands_parts image at spells.name_field (says.kind ∷ tail) (subst (Stands image at) spells.spelled stands) in
    let long = field_length says.name spells.name_field spells.name in
    let place : at + length spells.name_field ≡ at + 33 = omega (arith, long) in
    let first = stands_first image (at + 33) says.kind tail (subst (λ (p : ℕ). Stands image p (says.kind ∷ tail)) place parts.1) in
    let next : at + 33 + 1 ≡ at + 34 = omega arith in
    let rest = stands_parts image (at + 34) (bytes_of 2 says.size) (flag_byte says.indexed ∷ []) (subst (λ (p : ℕ). Stands image p tail) next first.1) in
    let last : at + 34 + 2 ≡ at + 36 = omega arith in
    let flag = (stands_first image (at + 36) (flag_byte says.indexed) [] (subst (λ (p : ℕ). Stands image p (flag_byte says.indexed ∷ [])) last rest.1)).0 in
    let size = number_is 2 says.size image (at + 34) spells.size rest.0 in
    let name : name_in bytes at ≡ Some column.name = name_again bytes at says.name spells.name_field spells.name parts.0 ∙ ap (λ (l : List ℕ). Some l) (sym is.name) in
    let kind : kind_in (slice_index bytes (at + 33)) (number_in 2 bytes (at + 34)) ≡ Some column.kind = (λ i. kind_in (first.0 i) (size i)) ∙ kind_again says.kind says.size column.kind is.kind sized in
    let indexed : flag_in (slice_index bytes (at + 36)) ≡ Some column.indexed = flag_again _ column.indexed (flag ∙ ap flag_byte (sym is.indexed)) in
    (λ i. name i >>= λ name. kind i >>= λ kind. indexed i >>= λ indexed. Some (record { name = name; kind = kind; indexed = indexed }))

-- columns that were read
pub record ColumnsRead (image : Image) (at count : ℕ) (columns : List Column) : Type 0 where
  pub fields : List ℕ
  pub says : List DefinedColumn
  pub spells : SpellsColumns says fields
  pub stands : Stands image at fields
  pub is : SayColumns says columns
  pub names : All (λ column. IsName column.name) columns
  pub sizes : list_all is_sized columns ≡ true
  pub long : length columns ≡ count

pub columns_back : (bytes : List ℕ) (at count : ℕ) (columns : List Column) → AreBytes (image_of bytes) → columns_in bytes at count ≡ Some columns → ColumnsRead (image_of bytes) at count columns
columns_back bytes at zero columns fits is =
    subst (λ (x : List Column). ColumnsRead (image_of bytes) at 0 x) (some_is [] columns is) (record { fields = []; says = []; spells = refl; stands = refl; is = tt; names = All-nil (λ (column : Column). IsName column.name); sizes = refl; long = refl })
columns_back bytes at (suc more) columns fits is =
    let image = image_of bytes in
    let b = bind_some (column_in bytes at) (λ column. columns_in bytes (at + 37) more >>= λ columns. Some (column ∷ columns)) columns is in
    let c = bind_some (columns_in bytes (at + 37) more) (λ columns. Some (b.0 ∷ columns)) columns b.2 in
    let one = column_back bytes at b.0 fits b.1 in
    let others = columns_back bytes (at + 37) more c.0 fits c.1 in
    let long = column_length one.says one.field one.spells in
    let sized = one.sized in
    let sizes = others.sizes in
    let got : ColumnsRead image at (suc more) (b.0 ∷ c.0) = record {
      fields = one.field ++ others.fields;
      says = one.says ∷ others.says;
      spells = (one.field, others.fields, one.spells, others.spells, refl);
      stands = stands_join image at (at + 37) one.field others.fields (omega (arith, long)) one.stands others.stands;
      is = (one.is, others.is);
      names = All-cons (λ (column : Column). IsName column.name) b.0 c.0 one.name others.names;
      sizes = (λ i. sized i && sizes i);
      long = ap suc others.long;
    } in
    subst (λ (x : List Column). ColumnsRead image at (suc more) x) (some_is (b.0 ∷ c.0) columns c.2) got

pub columns_again : (bytes : List ℕ) (at : ℕ) (says : List DefinedColumn) (fields : List ℕ) (columns : List Column) → SpellsColumns says fields → Stands (image_of bytes) at fields → SayColumns says columns → list_all is_sized columns ≡ true
    → columns_in bytes at (length says) ≡ Some columns
columns_again bytes at [] fields [] spells stands is sizes = refl
columns_again bytes at [] fields (column ∷ columns) spells stands is sizes = absurd is
columns_again bytes at (said ∷ says) fields [] spells stands is sizes = absurd is
columns_again bytes at (said ∷ says) fields (column ∷ columns) (field, others, one, spells, spelled) stands is sizes =
    let image = image_of bytes in
    let parts = stands_parts image at field others (subst (Stands image at) spelled stands) in
    let long = column_length said field one in
    let next : at + length field ≡ at + 37 = omega (arith, long) in
    let both = and_parts (is_sized column) (list_all is_sized columns) sizes in
    let first = column_again bytes at said field column one parts.0 is.0 both.0 in
    let rest = columns_again bytes (at + 37) says others columns spells (subst (λ (p : ℕ). Stands image p others) next parts.1) is.1 both.1 in
    (λ i. first i >>= λ column. rest i >>= λ columns. Some (column ∷ columns))

-- ---- tables

said_length : (says : List DefinedColumn) (columns : List Column) → SayColumns says columns → length says ≡ length columns
said_length [] [] is = refl
said_length [] (column ∷ columns) is = absurd is
said_length (said ∷ says) [] is = absurd is
said_length (said ∷ says) (column ∷ columns) is = ap suc (said_length says columns is.1)

fields_length : (says : List DefinedColumn) (fields : List ℕ) → SpellsColumns says fields → length fields ≡ 37 * length says
fields_length [] fields spells = ap length spells
fields_length (said ∷ says) fields (field, others, one, spells, spelled) =
    let long = column_length said field one in
    let rest = fields_length says others spells in
    let sum = length-append field others in
    ap length spelled ∙ omega (arith, long, rest, sum)

root_back : (pages root got : ℕ) → root_in pages root ≡ Some got → (root ≡ got) × (16 ≤ got) × (got < pages)
root_back pages root got is =
    let t = tested (nat_le 16 root && nat_lt root pages) root got is in
    let both = and_parts (nat_le 16 root) (nat_lt root pages) t.0 in
    let low = both.0 in
    let high = both.1 in
    let same = t.1 in
    (t.1, grind (arith, nat_tests, low, same), grind (arith, nat_tests, high, same))

root_again : (pages root : ℕ) → 16 ≤ root → root < pages → root_in pages root ≡ Some root
root_again pages root from to =
    let passes : (nat_le 16 root && nat_lt root pages) ≡ true = grind (arith, nat_tests, from, to) in
    ap (λ (b : Bool). if b then Some root else None) passes

-- a table that was read from a place of an image
record TableRead (pages number : ℕ) (image : Image) (at : ℕ) (def : TableDef) : Type 0 where
  number_is : def.number ≡ number
  says : DefinedTable
  bytes : List ℕ
  spells : SpellsTable says bytes
  stands : Stands image at bytes
  short : length bytes ≤ 638
  is : SaysTable says def
  table : IsTableOf pages def

all_back : (bytes : List ℕ) (at count : ℕ) (columns : List Column) → all_columns_in bytes at count ≡ Some columns → (1 ≤ count) × (count ≤ 16) × (columns_in bytes at count ≡ Some columns) × (are_within_limits columns ≡ true)
all_back bytes at count columns is =
    let p = passed (nat_le 1 count && nat_le count 16) (columns_in bytes at count >>= λ columns. (if are_within_limits columns then Some columns else None)) columns is in
    let both = and_parts (nat_le 1 count) (nat_le count 16) p.0 in
    let low = both.0 in
    let high = both.1 in
    let b = bind_some (columns_in bytes at count) (λ columns. (if are_within_limits columns then Some columns else None)) columns p.1 in
    let t = tested (are_within_limits b.0) b.0 columns b.2 in
    (grind (arith, nat_tests, low), grind (arith, nat_tests, high), b.1 ∙ ap (λ (x : List Column). Some x) t.1, ap are_within_limits (sym t.1) ∙ t.0)

table_back : (pages number : ℕ) (bytes : List ℕ) (at : ℕ) (def : TableDef) → AreBytes (image_of bytes) → table_in pages number bytes at ≡ Some def → TableRead pages number (image_of bytes) at def
unfolding table_in
table_back pages number bytes at def fits is =
    let image = image_of bytes in
    let count = slice_index bytes (at + 33) in
    let read = number_in 4 bytes (at + 34) in
    let one = number_in 4 bytes (at + 38) in
    let two = number_in 4 bytes (at + 42) in
    let made : List ℕ → List Column → ℕ → TableDef = λ name columns root. record { number = number; name = name; schema = record { columns = columns }; root = record { 0 = root }; trees = record { 0 = one } ∷ record { 0 = two } ∷ [] } in
    let b = bind_some (name_in bytes at) (λ name. all_columns_in bytes (at + 46) count >>= λ columns. root_in pages read >>= λ root. Some (made name columns root)) def is in
    let c = bind_some (all_columns_in bytes (at + 46) count) (λ columns. root_in pages read >>= λ root. Some (made b.0 columns root)) def b.2 in
    let d = bind_some (root_in pages read) (λ root. Some (made b.0 c.0 root)) def c.2 in
    let named = name_back bytes at b.0 b.1 in
    let all = all_back bytes (at + 46) count c.0 c.1 in
    let columns = columns_back bytes (at + 46) count c.0 fits all.2 in
    let root = root_back pages read d.0 d.1 in
    let long = field_length b.0 named.field named.spells in
    let said = said_length columns.says c.0 columns.is in
    let counted : length columns.says ≡ count = said ∙ columns.long in
    let says : DefinedTable = record { name = b.0; root = read; first_tree = one; second_tree = two; columns = columns.says } in
    let r2 : Stands image (at + 42) (bytes_of 4 two ++ columns.fields) = stands_join image (at + 42) (at + 46) (bytes_of 4 two) columns.fields (omega arith) (four_stand image (at + 42) fits) columns.stands in
    let r1 : Stands image (at + 38) (bytes_of 4 one ++ (bytes_of 4 two ++ columns.fields)) = stands_join image (at + 38) (at + 42) (bytes_of 4 one) _ (omega arith) (four_stand image (at + 38) fits) r2 in
    let r0 : Stands image (at + 34) (bytes_of 4 read ++ (bytes_of 4 one ++ (bytes_of 4 two ++ columns.fields))) = stands_join image (at + 34) (at + 38) (bytes_of 4 read) _ (omega arith) (four_stand image (at + 34) fits) r1 in
    let tail : List ℕ = bytes_of 4 read ++ (bytes_of 4 one ++ (bytes_of 4 two ++ columns.fields)) in
    let next : at + 33 + 1 ≡ at + 34 = omega arith in
    let counts : Stands image (at + 33) (length columns.says ∷ tail) = stands_cons image (at + 33) (length columns.says) tail (sym counted) (subst (λ (p : ℕ). Stands image p tail) (sym next) r0) in
    let fields_long = fields_length columns.says columns.fields columns.spells in
    let most = all.1 in
    let tail_long : length tail ≡ 12 + length columns.fields = omega arith in
    let sum = length-append named.field (length columns.says ∷ tail) in
    let got : TableRead pages number image at (made b.0 c.0 d.0) = record {
      number_is = refl;
      says = says;
      bytes = named.field ++ (length columns.says ∷ tail);
      spells = record {
        name_field = named.field;
        column_fields = columns.fields;
        name = named.spells;
        columns = columns.spells;
        some = (let low = all.0 in omega (arith, counted, low));
        most = omega (arith, counted, most);
        root = number_small 4 image (at + 34) fits;
        first_tree = number_small 4 image (at + 38) fits;
        second_tree = number_small 4 image (at + 42) fits;
        spelled = refl;
      };
      stands = stands_join image at (at + 33) named.field (length columns.says ∷ tail) (omega (arith, long)) named.stands counts;
      short = omega (arith, sum, long, tail_long, fields_long, counted, most);
      is = record { name = refl; root = sym root.0; trees = refl; columns = columns.is };
      table = record {
        name = record { some = named.spells.some; most = named.spells.most };
        columns = record { some = (let low = all.0 in let c = columns.long in omega (arith, c, low)); most = (let c = columns.long in omega (arith, c, most)); names = columns.names; sizes = columns.sizes; limits = all.3 };
        from = root.1;
        to = root.2;
      };
    } in
    subst (λ (x : TableDef). TableRead pages number image at x) (some_is (made b.0 c.0 d.0) def d.2) got

two_trees : (trees : List PageNo) (one two : ℕ) → map (λ page. page.0) trees ≡ one ∷ two ∷ [] → trees ≡ record { 0 = one } ∷ record { 0 = two } ∷ []
two_trees [] one two is = absurd cc
two_trees (a ∷ []) one two is = absurd cc
two_trees (a ∷ b ∷ []) one two is =
    let first : a.0 ≡ one = cc in
    let second : b.0 ≡ two = cc in
    (λ i. record { 0 = first i } ∷ record { 0 = second i } ∷ [])
two_trees (a ∷ b ∷ c ∷ trees) one two is = absurd cc

table_again : (pages number : ℕ) (bytes : List ℕ) (at : ℕ) (def : TableDef) (says : DefinedTable) (piece : List ℕ) → def.number ≡ number → SpellsTable says piece → Stands (image_of bytes) at piece → SaysTable says def → IsTableOf pages def
    → table_in pages number bytes at ≡ Some def
unfolding table_in
table_again pages number bytes at def says piece own spells stands is table =
    let image = image_of bytes in
    let fields = spells.column_fields in
    let t2 : List ℕ = bytes_of 4 says.second_tree ++ fields in
    let t1 : List ℕ = bytes_of 4 says.first_tree ++ t2 in
    let t0 : List ℕ = bytes_of 4 says.root ++ t1 in
    let moved : (p q : ℕ) (l : List ℕ) → p ≡ q → Stands image p l → Stands image q l = λ p q l same st. subst (λ (x : ℕ). Stands image x l) same st in
    let long = field_length says.name spells.name_field spells.name in
    let parts = stands_parts image at spells.name_field (length says.columns ∷ t0) (subst (Stands image at) spells.spelled stands) in
    let first = stands_first image (at + 33) (length says.columns) t0 (moved _ (at + 33) _ (omega (arith, long)) parts.1) in
    let root = stands_parts image (at + 34) (bytes_of 4 says.root) t1 (moved _ (at + 34) _ (omega arith) first.1) in
    let one = stands_parts image (at + 38) (bytes_of 4 says.first_tree) t2 (moved _ (at + 38) _ (omega arith) root.1) in
    let two = stands_parts image (at + 42) (bytes_of 4 says.second_tree) fields (moved _ (at + 42) _ (omega arith) one.1) in
    let columns = columns_again bytes (at + 46) says.columns fields def.schema.columns spells.columns (moved _ (at + 46) _ (omega arith) two.1) is.columns table.columns.sizes in
    let said = said_length says.columns def.schema.columns is.columns in
    let some = table.columns.some in
    let most = table.columns.most in
    let few : (nat_le 1 (length says.columns) && nat_le (length says.columns) 16) ≡ true = grind (arith, nat_tests, said, some, most) in
    let name : name_in bytes at ≡ Some def.name = name_again bytes at says.name spells.name_field spells.name parts.0 ∙ ap (λ (l : List ℕ). Some l) (sym is.name) in
    let all : all_columns_in bytes (at + 46) (slice_index bytes (at + 33)) ≡ Some def.schema.columns =
    ap (λ (n : ℕ). all_columns_in bytes (at + 46) n) first.0
    ∙ ap (λ (b : Bool). if b then (columns_in bytes (at + 46) (length says.columns) >>= λ columns. (if are_within_limits columns then Some columns else None)) else None) few
    ∙ ap (λ (r : Option (List Column)). r >>= λ columns. (if are_within_limits columns then Some columns else None)) columns
    ∙ ap (λ (b : Bool). if b then Some def.schema.columns else None) table.columns.limits in
    let read : root_in pages (number_in 4 bytes (at + 34)) ≡ Some def.root.0 =
    ap (root_in pages) (number_is 4 says.root image (at + 34) spells.root root.0 ∙ sym is.root) ∙ root_again pages def.root.0 table.from table.to in
    let tree_one = number_is 4 says.first_tree image (at + 38) spells.first_tree one.0 in
    let tree_two = number_is 4 says.second_tree image (at + 42) spells.second_tree two.0 in
    let trees = two_trees def.trees says.first_tree says.second_tree is.trees in
    (λ i. name i >>= λ name. all i >>= λ columns. read i >>= λ root. Some (record { number = sym own i; name = name; schema = record { columns = columns }; root = record { 0 = root }; trees = record { 0 = tree_one i } ∷ record { 0 = tree_two i } ∷ [] }))
    ∙ (λ i. Some (record { number = def.number; name = def.name; schema = def.schema; root = def.root; trees = sym trees i }))

-- ---- at its place on its page

pub defined_back : (pages number : ℕ) (contents : Contents) (bytes : List ℕ) (def : TableDef) → AreBytes (image_of bytes) → bytes ≡ page_of contents (definition_page number) → table_in pages number bytes (definition_place number) ≡ Some def → IsDefined pages contents number def
defined_back pages number contents bytes def fits page is =
    let t = table_back pages number bytes (definition_place number) def fits is in
    let short = t.short in
    record {
      number_is = t.number_is;
      says = t.says;
      starts = record {
        bytes = t.bytes;
        more = slice (image_of bytes) (definition_place number + length t.bytes) (800 - length t.bytes);
        spells = t.spells;
        starts = ap (λ (l : List ℕ). slice (image_of l) (definition_place number) 800) (sym page) ∙ front_stands (image_of bytes) (definition_place number) 800 t.bytes (omega (arith, short)) t.stands;
      };
      is = t.is;
      table = t.table;
    }

pub defined_again : (pages number : ℕ) (contents : Contents) (def : TableDef) → IsDefined pages contents number def → table_in pages number (page_of contents (definition_page number)) (definition_place number) ≡ Some def
defined_again pages number contents def is =
    table_again pages number (page_of contents (definition_page number)) (definition_place number) def is.says is.starts.bytes is.number_is is.starts.spells
    (stands_front (image_of (page_of contents (definition_page number))) (definition_place number) 800 is.starts.bytes is.starts.more is.starts.starts) is.is is.table

-- what is defined under a number is one definition
pub defined_once : (pages number : ℕ) (contents : Contents) (one other : TableDef) → IsDefined pages contents number one → IsDefined pages contents number other → one ≡ other
defined_once pages number contents one other one_is other_is = some_is one other (sym (defined_again pages number contents one one_is) ∙ defined_again pages number contents other other_is)
