-- The tables of a file as they are loaded, and a key that is looked up.
use Rattle.std.proofs.Common.{◌≡◌, ℕ, ◌+◌, Bool, true, false, ◌&&◌, List, [], ◌∷◌, refl}
use Rattle.std.proofs.lemmas.List.Elements.{All-cons, All-nil}
use Rattle.isp_catalog.specs.Catalogue.{AreDefined, HasTables}
use Rattle.isp_catalog.specs.Limits.{has_key}
use Rattle.isp_catalog.specs.declared.table.TableDef.{TableDef}
use Rattle.isp_catalog.proofs.CatalogueLaws.{tables_one}
use Rattle.isp_format.specs.Ranges.{Contents}
use Rattle.isp_space.specs.Spaces.{Space}
use Rattle.isp_tables.specs.Calls.{AreKeyed}
use Rattle.isp_tables.specs.TableLists.{are_keyed}
use Rattle.isp_tables.proofs.CreateLaws.{keyed_of}

-- ---- keys

and_both : (a b : Bool) → a ≡ true → b ≡ true → (a && b) ≡ true
and_both true b first second = second
and_both false b first second = cc

and_first : (a b : Bool) → (a && b) ≡ true → a ≡ true
and_first true b is = refl
and_first false b is = cc

and_rest : (a b : Bool) → (a && b) ≡ true → b ≡ true
and_rest true b is = is
and_rest false b is = cc

pub all_keyed : (defs : List TableDef) → are_keyed defs ≡ true → AreKeyed defs
all_keyed [] is = All-nil (λ (def : TableDef). has_key def.schema.columns ≡ true)
all_keyed (def ∷ defs) is =
    All-cons (λ (def : TableDef). has_key def.schema.columns ≡ true) def defs (and_first (has_key def.schema.columns) (are_keyed defs) is) (all_keyed defs (and_rest (has_key def.schema.columns) (are_keyed defs) is))

defined_keyed : (pages : ℕ) (contents : Contents) (number : ℕ) (defs : List TableDef) → AreDefined pages contents number defs → are_keyed defs ≡ true
defined_keyed pages contents number [] are = refl
defined_keyed pages contents number (def ∷ defs) are =
    and_both (has_key def.schema.columns) (are_keyed defs) (keyed_of def.schema.columns are.0.table.columns) (defined_keyed pages contents (number + 1) defs are.1)

pub tables_keyed : (pages : ℕ) (contents : Contents) (s : Space) (defs : List TableDef) → HasTables pages contents s defs → are_keyed defs ≡ true
tables_keyed pages contents s defs has = defined_keyed pages contents 1 defs has.catalogue.each

pub same_tables : (pages : ℕ) (contents : Contents) (s : Space) (defs others : List TableDef) → HasTables pages contents s defs → HasTables pages contents s others → defs ≡ others
same_tables pages contents s defs others has other = tables_one pages contents s s defs others has other
