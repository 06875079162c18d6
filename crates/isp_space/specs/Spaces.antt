-- The space of a file's pages: which are free, and the counters of page 0. Free are the pages of the free chain, each of which
-- links to the next, and those from fresh on, which were never used (space management of the MySQL 8.0 manual, far simpler).
use Rattle.std.specs.Prelude.{◌≡◌, ℕ, ◌+◌, ◌-◌, ◌^◌, ◌<◌, ◌≤◌, Bool, ◌&&◌, nat_le, nat_lt, List, [], ◌∷◌, All, length, ⊤}
use Rattle.isp_format.specs.Doublewrite.{AreDistinct}
use Rattle.isp_format.specs.Empty.{first_fresh}
use Rattle.isp_format.specs.Header.{Header, header_of}
use Rattle.isp_format.specs.Kinds.{free_kind}
use Rattle.isp_format.specs.Ranges.{Contents, page_of}
use Rattle.isp_format.specs.Rules.{chain_rule, space_number, space_rule}
use Rattle.isp_format.specs.Space.{IsSpacePage, SpacePage}
use Rattle.isp_page.specs.declared.fault.StoreFault.{StoreFault}
use Rattle.isp_page.specs.declared.fault.StoreFault.TheVariants.{Damaged, Disk, Print}

pub record Space : Type 0 where
  -- the pages of the free chain, in its order
  pub free : List ℕ
  -- the first page never used
  pub fresh : ℕ
  -- how many tables there are
  pub tables : ℕ
  -- the number of the next entry of an R-tree
  pub entries : ℕ
  -- how many bytes were put into clustered trees
  pub bytes : ℕ

-- the first page of a chain, 0 where it has none
abbrev pub first_of : List ℕ → ℕ
first_of [] = 0
first_of (page ∷ rest) = page

-- what page 0 says of the space
abbrev pub space_page : Space → SpacePage
space_page s = record { free_head = first_of s.free; free_count = length s.free; fresh = s.fresh; tables = s.tables; entries = s.entries; bytes = s.bytes }

-- each of these pages links to the next, and the last one to none
abbrev pub IsChain : Contents → List ℕ → Type 0
IsChain contents [] = Unit {0}
IsChain contents (page ∷ rest) = ((header_of (page_of contents page)).next ≡ first_of rest) × IsChain contents rest

-- the contents of a file of so many pages have this space
pub record IsSpace (pages : ℕ) (contents : Contents) (s : Space) : Type 0 where
  pub says : IsSpacePage (page_of contents space_number) (space_page s)
  pub chain : IsChain contents s.free
  pub inside : All (λ page. (first_fresh ≤ page) × (page < s.fresh)) s.free
  pub once : AreDistinct s.free
  pub fresh_from : first_fresh ≤ s.fresh
  pub fresh_to : s.fresh ≤ pages

-- the pages that the space stands on: page 0 and the free chain
abbrev pub space_pages : Space → List ℕ
space_pages s = 0 ∷ s.free

-- how many pages are free
abbrev pub free_pages : ℕ → Space → ℕ
free_pages pages s = length s.free + (pages - s.fresh)

-- how many pages a row event may take at most, and one more than what the counters may be for it
abbrev pub room_pages : ℕ
room_pages = 48

abbrev pub most_counted : ℕ
most_counted = 2 ^ 62

-- one more than what a counter may be at all
abbrev pub counter_limit : ℕ
counter_limit = 2 ^ 63

-- there is room for one more change of a row or of an entry
abbrev pub has_room : ℕ → Space → Bool
has_room pages s = nat_le room_pages (free_pages pages s) && (nat_lt s.entries most_counted && nat_lt s.bytes most_counted)

-- the page that is taken next: the first of the free chain, else the first never used
abbrev pub next_of : List ℕ → ℕ → ℕ
next_of [] fresh = fresh
next_of (page ∷ rest) fresh = page

abbrev pub next_free : Space → ℕ
next_free s = next_of s.free s.fresh

-- the free chain, and the first page never used, once that page is taken
abbrev pub rest_of : List ℕ → List ℕ
rest_of [] = []
rest_of (page ∷ rest) = rest

abbrev pub fresh_after : List ℕ → ℕ → ℕ
fresh_after [] fresh = fresh + 1
fresh_after (page ∷ rest) fresh = fresh

abbrev pub taken : Space → Space
taken s = record s { free = rest_of s.free; fresh = fresh_after s.free s.fresh }

-- a damaged page that is named breaks the rule of page 0's first page never used, or that of the free chain
abbrev pub NamesSpace : StoreFault → Type 0
NamesSpace Disk = ⊤
NamesSpace Print = ⊤
NamesSpace (Damaged page rule) = (space_rule ≤ rule) × (rule ≤ chain_rule)

-- the second space has the same free pages, and page 0 says it by these numbers
pub record IsRecounted (s t : Space) (numbers : SpacePage) : Type 0 where
  pub free : t.free ≡ s.free
  pub fresh : t.fresh ≡ s.fresh
  pub says : numbers ≡ space_page t

-- the header of a page that was just taken
abbrev pub fresh_header : ℕ → Header
fresh_header page = record { kind = free_kind; level = 0; count = 0; owner = 0; next = 0; prev = 0; ssn = 0; own = page; used = 0 }

-- the numbers of page 0 once the first page of the free chain is taken, which linked to that page
abbrev pub without_first : ℕ → SpacePage → SpacePage
without_first next n = record n { free_head = next; free_count = n.free_count - 1 }
