-- What calls below name are later rules.
use Rattle.std.proofs.Common.{◌≡◌, ℕ, ◌<◌, arith, inl, inr}
use Rattle.std.specs.Prelude.{◌⊎◌, IfErr, Result, Ok, Err}
use Rattle.isp_catalog.specs.Catalogue.{NamesCatalogue, NamesCatalogueOrLacks}
use Rattle.isp_clustered.specs.Calls.{NamesAnyOrLacks, NamesTreeOrSpace}
use Rattle.isp_image.specs.Faults.{NamesLater, NamesLaterOrLacks}
use Rattle.isp_levels.specs.Walks.{NamesAny}
use Rattle.isp_page.specs.Steps.{IsNoDamage, IsNoDamageOrLacks}
use Rattle.isp_page.specs.declared.fault.Fault.{Fault}
use Rattle.isp_page.specs.declared.fault.Fault.TheVariants.{Memory, Store}
use Rattle.isp_page.specs.declared.fault.StoreFault.{StoreFault}
use Rattle.isp_page.specs.declared.fault.StoreFault.TheVariants.{Damaged, Disk, Print}
use Rattle.isp_space.specs.Spaces.{NamesSpace}

-- ---- of a fault

pub later_none : (fault : StoreFault) → IsNoDamage fault → NamesLater fault
later_none Disk is = tt
later_none Print is = tt
later_none (Damaged page rule) is = absurd is

pub later_space : (fault : StoreFault) → NamesSpace fault → NamesLater fault
later_space Disk is = tt
later_space Print is = tt
later_space (Damaged page rule) is = let from = is.0 in omega (arith, from)

pub later_tree : (pages : ℕ) (fault : StoreFault) → NamesAny pages fault → NamesLater fault
later_tree pages Disk is = tt
later_tree pages Print is = tt
later_tree pages (Damaged page rule) is = let same = is.1 in omega (arith, same)

pub later_either : (pages : ℕ) (fault : StoreFault) → NamesTreeOrSpace pages fault → NamesLater fault
later_either pages Disk is = tt
later_either pages Print is = tt
later_either pages (Damaged page rule) is = by is
  where
    by : ((page < pages) × (rule ≡ 7)) ⊎ NamesSpace (Damaged page rule) → NamesLater (Damaged page rule)
    by (inl tree) = later_tree pages (Damaged page rule) tree
    by (inr space) = later_space (Damaged page rule) space

pub later_catalogue : (fault : StoreFault) → NamesCatalogue fault → NamesLater fault
later_catalogue Disk is = tt
later_catalogue Print is = tt
later_catalogue (Damaged page rule) is = let from = is.0 in omega (arith, from)

pub later_tree_or : (pages : ℕ) (fault : Fault) → NamesAnyOrLacks pages fault → NamesLaterOrLacks fault
later_tree_or pages (Store Disk) is = tt
later_tree_or pages (Store Print) is = tt
later_tree_or pages (Store (Damaged page rule)) is = let same = is.1 in omega (arith, same)
later_tree_or pages Memory is = tt

pub later_catalogue_or : (fault : Fault) → NamesCatalogueOrLacks fault → NamesLaterOrLacks fault
later_catalogue_or (Store fault) is = later_catalogue fault is
later_catalogue_or Memory is = tt

pub later_none_or : (fault : Fault) → IsNoDamageOrLacks fault → NamesLaterOrLacks fault
later_none_or (Store fault) is = later_none fault is
later_none_or Memory is = tt

-- ---- of a call's result

pub calls_later : {T E : Type 0} (P Q : E → Type 0) (result : Result T E) → ((e : E) → P e → Q e) → IfErr result P → IfErr result Q
calls_later P Q (Ok x) on is = tt
calls_later P Q (Err e) on is = on e is
