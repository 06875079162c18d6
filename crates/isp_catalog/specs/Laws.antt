-- Laws of catalogues: they stand on their pages alone, and there is one at most.
use Rattle.std.specs.Prelude.{◌≡◌, ℕ, ◌≤◌, ◌<◌, List, length}
use Rattle.isp_format.specs.Empty.{first_fresh}
use Rattle.isp_format.specs.Ranges.{Contents, page_of}
use Rattle.isp_format.specs.Rules.{catalogue_number}
use Rattle.isp_space.specs.Spaces.{Space}
use Rattle.isp_catalog.specs.Catalogue.{HasTables, IsCatalogue}
use Rattle.isp_catalog.specs.declared.table.TableDef.{TableDef}

-- the pages of the catalogue have the same bytes
abbrev pub SameCatalogue : Contents → Contents → Type 0
SameCatalogue contents other = (page : ℕ) → catalogue_number ≤ page → page < first_fresh → page_of other page ≡ page_of contents page

-- the catalogue stands on pages 2 to 15 alone
abbrev pub CatalogueIsLocal : Type 0
CatalogueIsLocal = (pages : ℕ) (contents other : Contents) (defs : List TableDef) → SameCatalogue contents other → IsCatalogue pages contents defs → IsCatalogue pages other defs

-- of a number of tables there is one catalogue at most
abbrev pub CatalogueIsOne : Type 0
CatalogueIsOne = (pages : ℕ) (contents : Contents) (defs others : List TableDef) → length defs ≡ length others → IsCatalogue pages contents defs → IsCatalogue pages contents others → defs ≡ others

-- a file has one list of tables at most
abbrev pub TablesAreOne : Type 0
TablesAreOne = (pages : ℕ) (contents : Contents) (space other : Space) (defs others : List TableDef) → HasTables pages contents space defs → HasTables pages contents other others → defs ≡ others
