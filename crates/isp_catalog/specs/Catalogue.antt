-- The catalogue of a file: the definitions of its tables (the data dictionary of the MySQL 8.0 manual, far simpler). Tables are
-- numbered from 1, and each number has its place: five definitions stand on a page, from page 2 on.
use Rattle.std.specs.Prelude.{◌≡◌, ◌⊎◌, ℕ, ◌+◌, ◌<◌, ◌≤◌, Bool, true, false, not, ◌&&◌, List, [], ◌∷◌, length, map, ⊤}
use Rattle.std.specs.List.{list_any}
use Rattle.std.specs.Str.{bytes_eq}
use Rattle.isp_disk.specs.Moments.{image_of, slice}
use Rattle.isp_format.specs.Definition.{DefinedColumn, DefinedTable, StartsTable, bigint_kind, definition_page, definition_place, definition_size, geometry_kind, most_tables, varchar_kind}
use Rattle.isp_format.specs.Empty.{first_fresh}
use Rattle.isp_format.specs.Ranges.{Contents, page_of}
use Rattle.isp_format.specs.Rules.{catalogue_rule, space_number, space_rule}
use Rattle.isp_plain.specs.declared.value.Column.{Column}
use Rattle.isp_plain.specs.declared.value.Kind.{Kind}
use Rattle.isp_plain.specs.declared.value.Kind.TheVariants as kind
use Rattle.isp_page.specs.declared.fault.Fault.{Fault}
use Rattle.isp_page.specs.declared.fault.Fault.TheVariants.{Memory, Store}
use Rattle.isp_page.specs.declared.fault.StoreFault.{StoreFault}
use Rattle.isp_page.specs.declared.fault.StoreFault.TheVariants.{Damaged, Disk, Print}
use Rattle.isp_space.specs.Spaces.{IsSpace, Space}
use Rattle.isp_catalog.specs.Limits.{AreColumns, IsName}
use Rattle.isp_catalog.specs.declared.table.TableDef.{TableDef}

-- ---- what a definition says

-- the byte and the size of a column are those of that kind; only a VARCHAR has a size
abbrev pub IsKind : Kind → ℕ → ℕ → Type 0
IsKind kind.BigInt byte size = byte ≡ bigint_kind
IsKind (kind.VarChar most) byte size = (byte ≡ varchar_kind) × (size ≡ most)
IsKind kind.Geo byte size = byte ≡ geometry_kind

pub record SaysColumn (says : DefinedColumn) (column : Column) : Type 0 where
  pub name : column.name ≡ says.name
  pub kind : IsKind column.kind says.kind says.size
  pub indexed : column.indexed ≡ says.indexed

abbrev pub SayColumns : List DefinedColumn → List Column → Type 0
SayColumns [] [] = Unit {0}
SayColumns (said ∷ says) (column ∷ columns) = SaysColumn said column × SayColumns says columns
SayColumns _ _ = ⊥

pub record SaysTable (says : DefinedTable) (def : TableDef) : Type 0 where
  pub name : def.name ≡ says.name
  pub root : def.root.0 ≡ says.root
  pub trees : map (λ page. page.0) def.trees ≡ says.first_tree ∷ says.second_tree ∷ []
  pub columns : SayColumns says.columns def.schema.columns

-- ---- the definitions of a file

-- the table's name, columns and root are within their limits, in a file of so many pages
pub record IsTableOf (pages : ℕ) (def : TableDef) : Type 0 where
  pub name : IsName def.name
  pub columns : AreColumns def.schema.columns
  pub from : first_fresh ≤ def.root.0
  pub to : def.root.0 < pages

-- what stands in the place of the definition of that number
abbrev pub definition_piece : Contents → ℕ → List ℕ
definition_piece contents number = slice (image_of (page_of contents (definition_page number))) (definition_place number) definition_size

-- the table of that number is defined so
pub record IsDefined (pages : ℕ) (contents : Contents) (number : ℕ) (def : TableDef) : Type 0 where
  pub number_is : def.number ≡ number
  pub says : DefinedTable
  pub starts : StartsTable says (definition_piece contents number)
  pub is : SaysTable says def
  pub table : IsTableOf pages def

-- the tables from that number on are defined so, one after another
abbrev pub AreDefined : ℕ → Contents → ℕ → List TableDef → Type 0
AreDefined pages contents number [] = Unit {0}
AreDefined pages contents number (def ∷ defs) = IsDefined pages contents number def × AreDefined pages contents (number + 1) defs

abbrev pub has_table : List TableDef → List ℕ → Bool
has_table defs name = list_any (λ def. bytes_eq def.name name) defs

-- no table is named twice
abbrev pub are_tables : List TableDef → Bool
are_tables [] = true
are_tables (def ∷ defs) = not (has_table defs def.name) && are_tables defs

-- the first definitions of a file of so many pages
pub record IsCatalogue (pages : ℕ) (contents : Contents) (defs : List TableDef) : Type 0 where
  pub few : length defs ≤ most_tables
  pub each : AreDefined pages contents 1 defs
  pub names : are_tables defs ≡ true

-- the file has this space, which counts these tables
pub record HasTables (pages : ℕ) (contents : Contents) (space : Space) (defs : List TableDef) : Type 0 where
  pub space_is : IsSpace pages contents space
  pub count : length defs ≡ space.tables
  pub catalogue : IsCatalogue pages contents defs

-- the table has a place in the catalogue of a file of so many pages
pub record HasPlace (pages : ℕ) (def : TableDef) : Type 0 where
  pub from : 1 ≤ def.number
  pub to : def.number ≤ most_tables
  pub table : IsTableOf pages def

-- its number is the next, and its name is new
pub record IsNext (defs : List TableDef) (def : TableDef) : Type 0 where
  pub number : def.number ≡ length defs + 1
  pub new : has_table defs def.name ≡ false

-- the space once one more table is counted
abbrev pub counted : Space → Space
counted space = record space { tables = space.tables + 1 }

-- ---- what breaks the rule of definitions

-- The definition of that number is the first that breaks it: those before it are a catalogue, and with it none is.
pub record IsBroken (pages : ℕ) (contents : Contents) (tables number : ℕ) : Type 0 where
  pub from : 1 ≤ number
  pub to : number ≤ tables
  pub before : List TableDef
  pub long : length before + 1 ≡ number
  pub good : IsCatalogue pages contents before
  pub none : (defs : List TableDef) → length defs ≡ number → IsCatalogue pages contents defs → ⊥

-- page 0 breaks it where it counts more tables than there may be; else the page of the first definition that does
abbrev pub BreaksRule : ℕ → Contents → ℕ → ℕ → Type 0
BreaksRule pages contents tables page =
    (page ≡ space_number) × (most_tables < tables) ⊎ (number : ℕ) × (page ≡ definition_page number) × IsBroken pages contents tables number

-- the fault names no damaged page, or this rule with such a page
abbrev pub NamesBroken : ℕ → Contents → ℕ → Fault → Type 0
NamesBroken pages contents tables (Store (Damaged page rule)) = (rule ≡ catalogue_rule) × BreaksRule pages contents tables page
NamesBroken pages contents tables _ = Unit {0}

-- the definition of that number, whatever it is, has a name that is among these
abbrev pub NoNewTable : ℕ → Contents → ℕ → List TableDef → Type 0
NoNewTable pages contents number defs = (def : TableDef) → IsDefined pages contents number def → has_table defs def.name ≡ true

-- the fault names no damaged page, or the page of that definition with this rule, where it is none that is new
abbrev pub NamesDefinition : ℕ → Contents → ℕ → List TableDef → Fault → Type 0
NamesDefinition pages contents number defs (Store (Damaged page rule)) = (rule ≡ catalogue_rule) × (page ≡ definition_page number) × NoNewTable pages contents number defs
NamesDefinition pages contents number defs _ = Unit {0}

-- a damaged page that is named breaks the rule of definitions, or one of the space
abbrev pub NamesCatalogue : StoreFault → Type 0
NamesCatalogue Disk = ⊤
NamesCatalogue Print = ⊤
NamesCatalogue (Damaged page rule) = (space_rule ≤ rule) × (rule ≤ catalogue_rule)

abbrev pub NamesCatalogueOrLacks : Fault → Type 0
NamesCatalogueOrLacks (Store fault) = NamesCatalogue fault
NamesCatalogueOrLacks Memory = ⊤
