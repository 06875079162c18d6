-- The bytes of a catalogue's page are one definition at most at each of its places.
use Rattle.std.proofs.Common.{◌≡◌, ℕ, ◌+◌, Bool, true, false, List, [], ◌∷◌, ◌++◌, length, refl, sym, ◌∙◌, ap, arith}
use Rattle.std.proofs.lemmas.List.{append_assoc, length-append}
use Rattle.isp_format.specs.Definition.{DefinedColumn, DefinedTable, SpellsColumn, SpellsColumns, SpellsName, SpellsTable, StartsTable, flag_byte}
use Rattle.isp_format.specs.Numbers.{bytes_of}
use Rattle.isp_format.proofs.LogOnce.{cut, number_once}
use Rattle.isp_format.proofs.PageOnce.{head_once}

-- ---- names

field_length : (name field : List ℕ) → SpellsName name field → length field ≡ 33
field_length name field spells =
    let sum : length (name ++ spells.rest) ≡ length name + length spells.rest = length-append name spells.rest in
    let filled = spells.filled in
    let long : length (length name ∷ (name ++ spells.rest)) ≡ 33 = omega (arith, sum, filled) in
    ap length spells.spelled ∙ long

pub name_field_once : (name other field other_field more others : List ℕ) → SpellsName name field → SpellsName other other_field → field ++ more ≡ other_field ++ others → (name ≡ other) × (more ≡ others)
name_field_once name other field other_field more others one two same =
    let fields = cut field other_field more others (field_length name field one ∙ sym (field_length other other_field two)) same in
    let spelled = sym one.spelled ∙ fields.0 ∙ two.spelled in
    let parts = head_once _ _ _ _ spelled in
    let names = cut name other one.rest two.rest parts.0 parts.1 in
    (names.0, fields.1)

-- ---- columns

flag_once : (one other : Bool) → flag_byte one ≡ flag_byte other → one ≡ other
flag_once true true same = refl
flag_once true false same = absurd (omega (arith, same))
flag_once false true same = absurd (omega (arith, same))
flag_once false false same = refl

column_spread : (column : DefinedColumn) (field more : List ℕ) → (field ++ (column.kind ∷ (bytes_of 2 column.size ++ flag_byte column.indexed ∷ []))) ++ more ≡ field ++ (column.kind ∷ (bytes_of 2 column.size ++ (flag_byte column.indexed ∷ more)))
column_spread column field more =
    append_assoc field (column.kind ∷ (bytes_of 2 column.size ++ flag_byte column.indexed ∷ [])) more
    ∙ ap (λ (rest : List ℕ). field ++ (column.kind ∷ rest)) (append_assoc (bytes_of 2 column.size) (flag_byte column.indexed ∷ []) more)

column_once : (one other : DefinedColumn) (bytes other_bytes more others : List ℕ) → SpellsColumn one bytes → SpellsColumn other other_bytes → bytes ++ more ≡ other_bytes ++ others → (one ≡ other) × (more ≡ others)
column_once one other bytes other_bytes more others one_is other_is same =
    let spread = sym (ap (λ (l : List ℕ). l ++ more) one_is.spelled ∙ column_spread one one_is.name_field more) ∙ same ∙ ap (λ (l : List ℕ). l ++ others) other_is.spelled ∙ column_spread other other_is.name_field others in
    let name = name_field_once one.name other.name one_is.name_field other_is.name_field _ _ one_is.name other_is.name spread in
    let kind = head_once _ _ _ _ name.1 in
    let size = number_once 2 one.size other.size _ _ one_is.size other_is.size kind.1 in
    let flag = head_once _ _ _ _ size.1 in
    let indexed = flag_once one.indexed other.indexed flag.0 in
    ((λ i. record { name = name.0 i; kind = kind.0 i; size = size.0 i; indexed = indexed i }), flag.1)

columns_once : (one other : List DefinedColumn) (bytes other_bytes more others : List ℕ) → length one ≡ length other → SpellsColumns one bytes → SpellsColumns other other_bytes → bytes ++ more ≡ other_bytes ++ others → one ≡ other
columns_once [] [] bytes other_bytes more others long one_is other_is same = refl
columns_once [] (y ∷ ys) bytes other_bytes more others long one_is other_is same = absurd (omega (arith, long))
columns_once (x ∷ xs) [] bytes other_bytes more others long one_is other_is same = absurd (omega (arith, long))
columns_once (x ∷ xs) (y ∷ ys) bytes other_bytes more others long (field, rest, spells, spelled, is) (other_field, other_rest, other_spells, other_spelled, other_is) same =
    let joined = sym (append_assoc field rest more) ∙ ap (λ (l : List ℕ). l ++ more) (sym is) ∙ same ∙ ap (λ (l : List ℕ). l ++ others) other_is ∙ append_assoc other_field other_rest others in
    let first = column_once x y field other_field _ _ spells other_spells joined in
    let behind = columns_once xs ys rest other_rest more others (omega (arith, long)) spelled other_spelled first.1 in
    (λ i. first.0 i ∷ behind i)

-- ---- tables

table_spread : (table : DefinedTable) (name_field column_fields more : List ℕ) → (name_field ++ (length table.columns ∷ (bytes_of 4 table.root ++ (bytes_of 4 table.first_tree ++ (bytes_of 4 table.second_tree ++ column_fields))))) ++ more
    ≡ name_field ++ (length table.columns ∷ (bytes_of 4 table.root ++ (bytes_of 4 table.first_tree ++ (bytes_of 4 table.second_tree ++ (column_fields ++ more)))))
table_spread table name_field column_fields more =
    append_assoc name_field (length table.columns ∷ (bytes_of 4 table.root ++ (bytes_of 4 table.first_tree ++ (bytes_of 4 table.second_tree ++ column_fields)))) more
    ∙ ap (λ (rest : List ℕ). name_field ++ (length table.columns ∷ rest)) (append_assoc (bytes_of 4 table.root) (bytes_of 4 table.first_tree ++ (bytes_of 4 table.second_tree ++ column_fields)) more)
    ∙ ap (λ (rest : List ℕ). name_field ++ (length table.columns ∷ (bytes_of 4 table.root ++ rest))) (append_assoc (bytes_of 4 table.first_tree) (bytes_of 4 table.second_tree ++ column_fields) more)
    ∙ ap (λ (rest : List ℕ). name_field ++ (length table.columns ∷ (bytes_of 4 table.root ++ (bytes_of 4 table.first_tree ++ rest)))) (append_assoc (bytes_of 4 table.second_tree) column_fields more)

pub table_once : (one other : DefinedTable) (bytes other_bytes more others : List ℕ) → SpellsTable one bytes → SpellsTable other other_bytes → bytes ++ more ≡ other_bytes ++ others → one ≡ other
table_once one other bytes other_bytes more others one_is other_is same =
    let spread = sym (ap (λ (l : List ℕ). l ++ more) one_is.spelled ∙ table_spread one one_is.name_field one_is.column_fields more) ∙ same ∙ ap (λ (l : List ℕ). l ++ others) other_is.spelled ∙ table_spread other other_is.name_field other_is.column_fields others in
    let name = name_field_once one.name other.name one_is.name_field other_is.name_field _ _ one_is.name other_is.name spread in
    let count = head_once _ _ _ _ name.1 in
    let root = number_once 4 one.root other.root _ _ one_is.root other_is.root count.1 in
    let first = number_once 4 one.first_tree other.first_tree _ _ one_is.first_tree other_is.first_tree root.1 in
    let second = number_once 4 one.second_tree other.second_tree _ _ one_is.second_tree other_is.second_tree first.1 in
    let columns = columns_once one.columns other.columns one_is.column_fields other_is.column_fields more others count.0 one_is.columns other_is.columns second.1 in
    (λ i. record { name = name.0 i; root = root.0 i; first_tree = first.0 i; second_tree = second.0 i; columns = columns i })

pub starts_once : (one other : DefinedTable) (piece : List ℕ) → StartsTable one piece → StartsTable other piece → one ≡ other
starts_once one other piece one_is other_is =
    table_once one other one_is.bytes other_is.bytes one_is.more other_is.more one_is.spells other_is.spells (sym one_is.starts ∙ other_is.starts)
