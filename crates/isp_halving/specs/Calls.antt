-- What the steps of a division ask of a store of pages; at a bound `P: Pages`.
use Rattle.std.specs.Prelude.{ℕ, ◌<◌, ◌≡◌, ◌⊎◌, false, ⊤, All}
use Rattle.isp_format.specs.Rules.{tree_rule}
use Rattle.isp_page.specs.Touched.{is_page}
use Rattle.isp_page.specs.declared.fault.StoreFault.{StoreFault}
use Rattle.isp_page.specs.declared.fault.StoreFault.TheVariants.{Damaged, Disk, Print}
use Rattle.isp_page.specs.declared.pages.Pages.{Ghosts}
use Rattle.isp_space.specs.Spaces.{IsSpace, NamesSpace, Space, space_pages}

abbrev pub HasSpace : {S : Type 0} → Ghosts S → S → Space → Type 0
HasSpace g now s = IsSpace (g.shape now).pages (g.contents now) s

-- the page isn't one of the space
abbrev pub IsApart : ℕ → Space → Type 0
IsApart page s = All (λ other. is_page page other ≡ false) (space_pages s)

-- the page was used before, and isn't one of the space
abbrev pub IsOutside : ℕ → Space → Type 0
IsOutside page s = IsApart page s × (page < s.fresh)

-- a damaged page that is named is one of the file and breaks the rule of clustered trees, or one of the space
abbrev pub NamesTreeOrSpace : ℕ → StoreFault → Type 0
NamesTreeOrSpace pages Disk = ⊤
NamesTreeOrSpace pages Print = ⊤
NamesTreeOrSpace pages (Damaged page rule) = ((page < pages) × (rule ≡ tree_rule)) ⊎ NamesSpace (Damaged page rule)
