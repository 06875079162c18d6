-- A definition that is written stands in its place, and every other one stays.
use Rattle.std.proofs.Common.{◌≡◌, ℕ, suc, ◌+◌, ◌-◌, ◌*◌, ◌/◌, ◌^◌, ◌<◌, ◌≤◌, ◌==◌, Bool, true, false, List, [], ◌∷◌, ◌++◌, length, take, map, get_or, refl, sym, ◌∙◌, ap, subst, append_assoc, arith}
use Rattle.std.specs.Prelude.{All, replicate}
use Rattle.std.specs.List.{flat_map, list_all}
use Rattle.std.proofs.lemmas.Bool.{and_parts}
use Rattle.std.proofs.lemmas.Bool.Decides.{nat_tests}
use Rattle.std.proofs.lemmas.List.{flat_map_more, length-append, length-drop, length-map, length-take-le, take_all, take_more}
use Rattle.std.proofs.lemmas.List.Elements.{All-take}
use Rattle.isp_disk.specs.Moments.{Image, image_of, put, slice}
use Rattle.isp_format.specs.Definition.{DefinedColumn, DefinedTable, SpellsColumn, SpellsColumns, SpellsName, SpellsTable, definition_page, definition_place, first_tree_place, flag_byte, root_place, second_tree_place}
use Rattle.isp_format.specs.Header.{header_of}
use Rattle.isp_format.specs.Numbers.{bytes_of}
use Rattle.isp_format.specs.Ranges.{Contents, page_of}
use Rattle.isp_format.specs.Space.{IsSpacePage}
use Rattle.isp_format.proofs.Headers.{header_same, put_more}
use Rattle.isp_format.proofs.Places.{below}
use Rattle.isp_format.proofs.Slices.{put_below, slice_beside, slice_put}
use Rattle.isp_page.specs.Touched.{KeepsPages, is_page}
use Rattle.isp_plain.specs.declared.value.Column.{Column}
use Rattle.isp_plain.specs.declared.value.Kind.{Kind}
use Rattle.isp_plain.specs.declared.value.Kind.TheVariants as kind
use Rattle.isp_space.specs.Spaces.{IsSpace, Space, space_page}
use Rattle.isp_space.proofs.SpaceLaws.{chain_same}
use Rattle.isp_catalog.specs.Catalogue.{HasPlace, HasTables, IsCatalogue, IsDefined, IsKind, IsNext, IsTableOf, SayColumns, counted, definition_piece}
use Rattle.isp_catalog.specs.Limits.{IsName, has_size, is_sized}
use Rattle.isp_catalog.specs.Writing.{HasRoots, Wrote, column_field, filling, first_tree, kind_byte, kind_size, name_field, roots_field, second_tree, table_bytes}
use Rattle.isp_catalog.specs.declared.table.TableDef.{TableDef}
use Rattle.isp_catalog.proofs.CatalogueLaws.{all_moved, catalogue_more, piece_same}
use Rattle.isp_catalog.proofs.Standing.{front_stands}

-- ---- pieces put one behind the other

rest_long : (name : List ℕ) → length (filling name) ≡ 32 - length name
rest_long name = length-drop (length name) (replicate {A = ℕ} 32 0)

pub filled : (name : List ℕ) → take (32 - length name) (filling name) ≡ filling name
filled name = let long = rest_long name in take_all (32 - length name) (filling name) (omega (arith, long))

pub name_long : (name : List ℕ) → length name ≤ 32 → length (name_field name) ≡ 33
name_long name few =
    let rest = rest_long name in
    let sum = length-append name (filling name) in
    omega (arith, rest, sum, few)

pub name_put : (old first second third : Image) (at byte : ℕ) (name rest : List ℕ) → byte ≡ length name → rest ≡ filling name → first ≡ put old at (byte ∷ []) → second ≡ put first (at + 1) name → third ≡ put second (at + 1 + length name) rest
    → third ≡ put old at (name_field name)
name_put old first second third at byte name rest byte_is rest_is put_first put_second put_third =
    let one : first ≡ put old at (length name ∷ []) = put_first ∙ ap (λ (b : ℕ). put old at (b ∷ [])) byte_is in
    let two : second ≡ put old at (length name ∷ name) = put_second ∙ put_more old first at (length name ∷ []) name (at + 1) refl one in
    put_third ∙ put_more old second at (length name ∷ name) rest (at + 1 + length name) (omega arith) two ∙ ap (λ (l : List ℕ). put old at (length name ∷ (name ++ l))) rest_is

pub byte_is : (old new : Image) (at byte other : ℕ) → byte ≡ other → new ≡ put old at (byte ∷ []) → new ≡ put old at (other ∷ [])
byte_is old new at byte other is put_is = put_is ∙ ap (λ (b : ℕ). put old at (b ∷ [])) is

-- four pieces, the second a byte
pub four_put : (old one two three four : Image) (at next behind last x : ℕ) (a b d : List ℕ) → next ≡ at + length a → behind ≡ next + 1 → last ≡ behind + length b
    → one ≡ put old at a → two ≡ put one next (x ∷ []) → three ≡ put two behind b → four ≡ put three last d → four ≡ put old at (a ++ (x ∷ (b ++ d)))
four_put old one two three four at next behind last x a b d next_is behind_is last_is put_one put_two put_three put_four =
    let long_two = length-append a (x ∷ []) in
    let long_three = length-append (a ++ x ∷ []) b in
    let s2 : two ≡ put old at (a ++ x ∷ []) = put_two ∙ put_more old one at a (x ∷ []) next next_is put_one in
    let s3 : three ≡ put old at ((a ++ x ∷ []) ++ b) = put_three ∙ put_more old two at (a ++ x ∷ []) b behind (omega (arith, long_two, next_is, behind_is)) s2 in
    put_four ∙ put_more old three at ((a ++ x ∷ []) ++ b) d last (omega (arith, long_two, long_three, next_is, behind_is, last_is)) s3
    ∙ ap (put old at) (append_assoc (a ++ x ∷ []) b d ∙ append_assoc a (x ∷ []) (b ++ d))

pub roots_put : (old one two three : Image) (at : ℕ) (def : TableDef) → one ≡ put old (at + root_place) (bytes_of 4 def.root.0) → two ≡ put one (at + first_tree_place) (bytes_of 4 (first_tree def))
    → three ≡ put two (at + second_tree_place) (bytes_of 4 (second_tree def)) → three ≡ put old (at + root_place) (roots_field def)
roots_put old one two three at def put_one put_two put_three =
    let a : List ℕ = bytes_of 4 def.root.0 in
    let b : List ℕ = bytes_of 4 (first_tree def) in
    let behind : at + first_tree_place ≡ at + root_place + 4 = omega arith in
    let last : at + second_tree_place ≡ at + root_place + 8 = omega arith in
    let s2 : two ≡ put old (at + root_place) (a ++ b) = put_two ∙ put_more old one (at + root_place) a b (at + first_tree_place) behind put_one in
    put_three ∙ put_more old two (at + root_place) (a ++ b) (bytes_of 4 (second_tree def)) (at + second_tree_place) last s2 ∙ ap (put old (at + root_place)) (append_assoc a b (bytes_of 4 (second_tree def)))

pub column_long : (column : Column) → IsName column.name → length (column_field column) ≡ 37
column_long column is =
    let name = name_long column.name is.most in
    let sum = length-append (name_field column.name) (kind_byte column.kind ∷ (bytes_of 2 (kind_size column.kind) ++ flag_byte column.indexed ∷ [])) in
    omega (arith, name, sum)

pub columns_long : (columns : List Column) → All (λ column. IsName column.name) columns → length (flat_map column_field columns) ≡ 37 * length columns
columns_long [] names = refl
columns_long (column ∷ columns) names =
    let first = column_long column (names 0 column (omega arith)) in
    let rest = columns_long columns (λ k d h. names (suc k) d (omega (arith, h))) in
    let sum = length-append (column_field column) (flat_map column_field columns) in
    omega (arith, first, rest, sum)

pub columns_put : (old image next : Image) (at k : ℕ) (columns : List Column) (column : Column) → k < length columns → column ≡ get_or columns k column → All (λ column. IsName column.name) columns
    → image ≡ put old at (flat_map column_field (take k columns)) → next ≡ put image (at + 37 * k) (column_field column) → next ≡ put old at (flat_map column_field (take (k + 1) columns))
columns_put old image next at k columns column less is names so_far put_is =
    let long = columns_long (take k columns) (All-take (λ (column : Column). IsName column.name) k columns names) in
    let taken = length-take-le k columns (omega (arith, less)) in
    put_is ∙ put_more old image at (flat_map column_field (take k columns)) (column_field column) (at + 37 * k) (omega (arith, long, taken)) so_far
    ∙ ap (put old at) (flat_map_more column_field [] (take k columns) column ∙ ap (λ (cs : List Column). flat_map column_field cs) (sym (take_more columns k column less ∙ ap (λ (c : Column). take k columns ++ c ∷ []) (sym is))))

-- ---- what they spell

spells_name : (name : List ℕ) → IsName name → SpellsName name (name_field name)
spells_name name is =
    let rest = rest_long name in
    let most = is.most in
    record { some = is.some; most = is.most; rest = filling name; filled = omega (arith, rest, most); spelled = refl }

abbrev defined_column : Column → DefinedColumn
defined_column column = record { name = column.name; kind = kind_byte column.kind; size = kind_size column.kind; indexed = column.indexed }

kind_small : (k : Kind) → kind_byte k < 256
kind_small kind.BigInt = omega arith
kind_small (kind.VarChar most) = omega arith
kind_small kind.Geo = omega arith

size_small : (k : Kind) → has_size k ≡ true → kind_size k < 256 ^ 2
size_small kind.BigInt is = omega arith
size_small (kind.VarChar most) is = grind (arith, nat_tests, is)
size_small kind.Geo is = omega arith

kind_says : (k : Kind) → IsKind k (kind_byte k) (kind_size k)
kind_says kind.BigInt = refl
kind_says (kind.VarChar most) = (refl, refl)
kind_says kind.Geo = refl

spells_column : (column : Column) → IsName column.name → is_sized column ≡ true → SpellsColumn (defined_column column) (column_field column)
spells_column column name sized = record { name_field = name_field column.name; name = spells_name column.name name; kind = kind_small column.kind; size = size_small column.kind sized; spelled = refl }

spells_columns : (columns : List Column) → All (λ column. IsName column.name) columns → list_all is_sized columns ≡ true → SpellsColumns (map defined_column columns) (flat_map column_field columns)
spells_columns [] names sizes = refl
spells_columns (column ∷ columns) names sizes =
    let both = and_parts (is_sized column) (list_all is_sized columns) sizes in (
      column_field column,
      flat_map column_field columns,
      spells_column column (names 0 column (omega arith)) both.0,
      spells_columns columns (λ k d h. names (suc k) d (omega (arith, h))) both.1,
      refl,
    )

say_columns : (columns : List Column) → SayColumns (map defined_column columns) columns
say_columns [] = tt
say_columns (column ∷ columns) = (record { name = refl; kind = kind_says column.kind; indexed = refl }, say_columns columns)

abbrev defined_table : TableDef → DefinedTable
defined_table def = record { name = def.name; root = def.root.0; first_tree = first_tree def; second_tree = second_tree def; columns = map defined_column def.schema.columns }

spells_table : (pages : ℕ) (def : TableDef) → IsTableOf pages def → HasRoots def → SpellsTable (defined_table def) (table_bytes def)
spells_table pages def is roots =
    let long : length (map defined_column def.schema.columns) ≡ length def.schema.columns = length-map def.schema.columns defined_column in
    let some = is.columns.some in
    let most = is.columns.most in
    let a : List ℕ = bytes_of 4 def.root.0 in
    let b : List ℕ = bytes_of 4 (first_tree def) in
    let d : List ℕ = bytes_of 4 (second_tree def) in
    let fields : List ℕ = flat_map column_field def.schema.columns in
    record {
      name_field = name_field def.name;
      column_fields = fields;
      name = spells_name def.name is.name;
      columns = spells_columns def.schema.columns is.columns.names is.columns.sizes;
      some = omega (arith, long, some);
      most = omega (arith, long, most);
      root = roots.root;
      first_tree = roots.first;
      second_tree = roots.second;
      spelled = (λ i. name_field def.name ++ (sym long i ∷ (append_assoc a (b ++ d) fields ∙ ap (λ (l : List ℕ). a ++ l) (append_assoc b d fields)) i));
    }

table_long : (pages : ℕ) (def : TableDef) → IsTableOf pages def → length (table_bytes def) ≤ 638
table_long pages def is =
    let name = name_long def.name is.name.most in
    let fields = columns_long def.schema.columns is.columns.names in
    let most = is.columns.most in
    let roots : length (roots_field def) ≡ 12 = refl in
    let sum = length-append (roots_field def) (flat_map column_field def.schema.columns) in
    let whole = length-append (name_field def.name) (length def.schema.columns ∷ (roots_field def ++ flat_map column_field def.schema.columns)) in
    omega (arith, name, fields, most, roots, sum, whole)

-- ---- in its place

pub wrote_defined : (pages : ℕ) (def : TableDef) (old new : Contents) → IsTableOf pages def → Wrote def old new → IsDefined pages new def.number def
wrote_defined pages def old new is wrote =
    let image : Image = image_of (page_of old (definition_page def.number)) in
    let at = definition_place def.number in
    let bytes = table_bytes def in
    let few = table_long pages def is in
    record {
      number_is = refl;
      says = defined_table def;
      starts = record {
        bytes = bytes;
        more = slice (put image at bytes) (at + length bytes) (800 - length bytes);
        spells = spells_table pages def is wrote.roots;
        starts = ap (λ (i : Image). slice i at 800) wrote.put_is ∙ front_stands (put image at bytes) at 800 bytes (omega (arith, few)) (slice_put image at bytes);
      };
      is = record { name = refl; root = refl; trees = wrote.roots.are; columns = say_columns def.schema.columns };
      table = is;
    }

-- places of two definitions on one page
apart_below : (k n : ℕ) → 1 ≤ k → k < n → (k - 1) / 5 ≡ (n - 1) / 5 → definition_place k + 800 ≤ definition_place n
apart_below k n from less same = omega (arith, from, less, same)

pub other_piece : (pages k : ℕ) (def : TableDef) (old new : Contents) → IsTableOf pages def → 1 ≤ k → k < def.number → KeepsPages (is_page (definition_page def.number)) old new → Wrote def old new → definition_piece new k ≡ definition_piece old k
other_piece pages k def old new is from less keeps wrote = by (definition_page k == definition_page def.number) refl
  where
    by : (b : Bool) → (definition_page k == definition_page def.number) ≡ b → definition_piece new k ≡ definition_piece old k
    by false other = piece_same old new k (keeps (definition_page k) other)
    by true same =
        let page : definition_page k ≡ definition_page def.number = grind (arith, nat_tests, same) in
        let image : Image = image_of (page_of old (definition_page def.number)) in
        let at = definition_place def.number in
        let quotient : (k - 1) / 5 ≡ (def.number - 1) / 5 = omega (arith, page) in
        let apart = apart_below k def.number from less quotient in
        ap (λ (p : ℕ). slice (image_of (page_of new p)) (definition_place k) 800) page
        ∙ ap (λ (i : Image). slice i (definition_place k) 800) wrote.put_is
        ∙ slice_beside image at (table_bytes def) (definition_place k) 800 (λ place low high. below at (length (table_bytes def)) place (omega (arith, high, apart)))
        ∙ ap (λ (p : ℕ). slice (image_of (page_of old p)) (definition_place k) 800) (sym page)

pub head_same : (def : TableDef) (old new : Contents) → Wrote def old new → header_of (page_of new (definition_page def.number)) ≡ header_of (page_of old (definition_page def.number))
head_same def old new wrote =
    let image : Image = image_of (page_of old (definition_page def.number)) in
    header_same (page_of new (definition_page def.number)) (page_of old (definition_page def.number)) (λ place low. (λ i. wrote.put_is i place) ∙ put_below image (definition_place def.number) (table_bytes def) place (omega (arith, low)))

-- ---- the space beside it

pub not_zero : (number : ℕ) → (definition_page number == 0) ≡ false
not_zero number = grind (arith, nat_tests)

page_other : (page dp : ℕ) → 16 ≤ page → dp < 16 → (page == dp) ≡ false
page_other page dp from few = grind (arith, nat_tests)

zero_other : (dp : ℕ) → 2 ≤ dp → (0 == dp) ≡ false
zero_other dp from = grind (arith, nat_tests)

pub space_beside : (pages dp : ℕ) (old new : Contents) (s : Space) → 2 ≤ dp → dp < 16 → KeepsPages (is_page dp) old new → IsSpace pages old s → IsSpace pages new s
space_beside pages dp old new s from few keeps is = record {
  says = subst (λ (bytes : List ℕ). IsSpacePage bytes (space_page s)) (sym (keeps 0 (zero_other dp from))) is.says;
  chain = chain_same (is_page dp) old new s.free keeps (λ k d h. page_other (get_or s.free k d) dp (is.inside k d h).0 few) is.chain;
  inside = is.inside;
  once = is.once;
  fresh_from = is.fresh_from;
  fresh_to = is.fresh_to;
}

-- ---- one more

pub added : (pages : ℕ) (def : TableDef) (old mid new : Contents) (s : Space) (defs : List TableDef) → HasPlace pages def → HasTables pages old s defs → IsNext defs def → KeepsPages (is_page 0) old mid → IsSpace pages mid (counted s)
    → KeepsPages (is_page (definition_page def.number)) mid new → Wrote def mid new → HasTables pages new (counted s) (defs ++ def ∷ [])
added pages def old mid new s defs place has next count_keeps counts keeps wrote =
    let from = place.from in
    let to = place.to in
    let number = next.number in
    let few = has.catalogue.few in
    let count = has.count in
    let long = length-append defs (def ∷ []) in
    let moved : (k : ℕ) → 1 ≤ k → k < 1 + length defs → definition_piece new k ≡ definition_piece old k = λ k low high.
    other_piece pages k def mid new place.table low (omega (arith, high, number)) keeps wrote
    ∙ piece_same old mid k (count_keeps (definition_page k) (not_zero k)) in
    let before : IsCatalogue pages new defs = record { few = has.catalogue.few; each = all_moved pages 1 old new defs moved has.catalogue.each; names = has.catalogue.names } in
    record {
      space_is = space_beside pages (definition_page def.number) mid new (counted s) (omega arith) (omega (arith, to)) keeps counts;
      count = omega (arith, long, count);
      catalogue = catalogue_more pages def.number new defs def number to before (wrote_defined pages def mid new place.table wrote) next.new;
    }
