-- What a call that reads one definition says of the catalogue.
use Rattle.std.proofs.Common.{◌≡◌, ℕ, ◌+◌, ◌<◌, [], ◌∷◌, ◌++◌, length, arith, Bool, true, false, List, Option, Some, None, Ok, Err, Result, refl, sym, ◌∙◌, ap, subst, if◌then◌else◌}
use Rattle.std.specs.Prelude.{IfErr}
use Rattle.isp_format.specs.Definition.{definition_page, definition_place}
use Rattle.isp_format.specs.Ranges.{Contents, page_of}
use Rattle.isp_page.specs.declared.fault.Fault.{Fault}
use Rattle.isp_page.specs.declared.fault.Fault.TheVariants.{Store}
use Rattle.isp_page.specs.declared.fault.StoreFault.TheVariants.{Damaged}
use Rattle.isp_catalog.specs.Catalogue.{IsCatalogue, IsDefined, NamesBroken, NamesDefinition, has_table}
use Rattle.isp_catalog.specs.Reading.{Finds, table_in}
use Rattle.isp_catalog.specs.declared.table.TableDef.{TableDef}
use Rattle.isp_catalog.specs.declared.unread.Unread.{Unread}
use Rattle.isp_catalog.specs.declared.unread.Unread.TheVariants.{Broken, Lacking}
use Rattle.isp_catalog.proofs.CatalogueLaws.{catalogue_more, names_from}
use Rattle.isp_catalog.proofs.DefinitionLaws.{defined_again, defined_once}

no_some : {X : Type 0} (x : X) → ◌≡◌ {A = Option X} None (Some x) → ⊥
no_some x is = cc

-- what is refused is no definition
pub none_defined : (pages number at : ℕ) (contents : Contents) (bytes : List ℕ) (def : TableDef) (e : Unread) → at ≡ definition_place number → bytes ≡ page_of contents (definition_page number) → Finds {X = TableDef} (Err e) (table_in pages number bytes at) → e ≡ Broken
    → IsDefined pages contents number def → ⊥
none_defined pages number at contents bytes def Lacking at_is page given is defined = absurd cc
none_defined pages number at contents bytes def Broken at_is page given is defined =
    no_some def (sym given ∙ (λ i. table_in pages number (page i) (at_is i)) ∙ defined_again pages number contents def defined)

-- a definition with a name that is there isn't new, and no other stands in its place
pub name_there : (pages number p : ℕ) (contents : Contents) (defs : List TableDef) (def : TableDef) (result : Result TableDef Fault) → IsDefined pages contents number def → p ≡ definition_page number
    → result ≡ (if has_table defs def.name then Err (Store (Damaged p 6)) else Ok def) → IfErr result (NamesDefinition pages contents number defs)
name_there pages number p contents defs def result defined page is = by (has_table defs def.name) refl is
  where
    by : (b : Bool) → has_table defs def.name ≡ b → result ≡ (if b then Err (Store (Damaged p 6)) else Ok def) → IfErr result (NamesDefinition pages contents number defs)
    by true there same =
        subst (λ (r : Result TableDef Fault). IfErr r (NamesDefinition pages contents number defs)) (sym same)
        (refl, page, λ other is. ap (λ (d : TableDef). has_table defs d.name) (defined_once pages number contents other def is defined) ∙ there)
    by false new same = subst (λ (r : Result TableDef Fault). IfErr r (NamesDefinition pages contents number defs)) (sym same) tt

-- ---- in the loop

-- a definition that was read of contents that are those at the start
pub defined_there : (pages pages_now number : ℕ) (contents contents_now : Contents) (def : TableDef) → pages_now ≡ pages → contents_now ≡ contents → IsDefined pages_now contents_now number def → IsDefined pages contents number def
defined_there pages pages_now number contents contents_now def shape same is = subst (λ (n : ℕ). IsDefined n contents number def) shape (subst (λ (c : Contents). IsDefined pages_now c number def) same is)

pub names_there : (pages pages_now tables k count : ℕ) (contents contents_now : Contents) (defs slice : List TableDef) (fault : Fault) → pages_now ≡ pages → contents_now ≡ contents → slice ≡ defs → length defs ≡ k → k < count → count ≡ tables
    → IsCatalogue pages contents defs → NamesDefinition pages_now contents_now (k + 1) slice fault → NamesBroken pages contents tables fault
names_there pages pages_now tables k count contents contents_now defs slice fault shape same slice_is long less count_is is names =
    names_from pages tables (k + 1) contents defs fault (omega (arith, long)) (omega (arith, less, count_is)) is
    (subst (λ (n : ℕ). NamesDefinition n contents (k + 1) defs fault) shape
    (subst (λ (c : Contents). NamesDefinition pages_now c (k + 1) defs fault) same (subst (λ (ds : List TableDef). NamesDefinition pages_now contents_now (k + 1) ds fault) slice_is names)))

pub err_is : {T : Type 0} (P : Fault → Type 0) (result : Result T Fault) (e other : Fault) → result ≡ Err e → e ≡ other → P other → IfErr result P
err_is {T = T} P result e other is same holds = subst (λ (r : Result T Fault). IfErr r P) (sym is) (subst P (sym same) holds)

-- one more that was read
pub catalogue_next : (pages pages_now k : ℕ) (contents contents_now : Contents) (defs slice : List TableDef) (def : TableDef) → pages_now ≡ pages → contents_now ≡ contents → slice ≡ defs → length defs ≡ k → k < 64
    → IsCatalogue pages contents defs → IsDefined pages_now contents_now (k + 1) def → has_table slice def.name ≡ false → IsCatalogue pages contents (defs ++ def ∷ [])
catalogue_next pages pages_now k contents contents_now defs slice def shape same slice_is long less is defined new =
    catalogue_more pages (k + 1) contents defs def (omega (arith, long)) (omega (arith, less)) is (defined_there pages pages_now (k + 1) contents contents_now def shape same defined) (ap (λ (ds : List TableDef). has_table ds def.name) (sym slice_is) ∙ new)
