-- A leaf of a clustered tree in the bytes of its page.
use Rattle.std.specs.Prelude.{◌≡◌, ℕ, ◌≤◌, List, length}
use Rattle.isp_format.specs.Header.{Header, header_of}
use Rattle.isp_format.specs.Kinds.{clustered_owner, content_place, inner_kind, leaf_kind}
use Rattle.isp_format.specs.Leaf.{IsLeafPage, Stored}

-- The bytes of that page are a leaf of that table with these rows, and with their number, which links to the next page.
pub record IsLeaf (bytes : List ℕ) (table own next : ℕ) (rows : List Stored) : Type 0 where
  pub page : IsLeafPage bytes table own next rows
  pub count : (header_of bytes).count ≡ length rows

-- the header says a page of a clustered tree with that number
pub record SaysTree (root : ℕ) (header : Header) : Type 0 where
  pub from : leaf_kind ≤ header.kind
  pub to : header.kind ≤ inner_kind
  pub own : header.own ≡ root

-- the header of a leaf without rows
abbrev pub leaf_header : ℕ → ℕ → Header
leaf_header table page = record { kind = leaf_kind; level = 0; count = 0; owner = clustered_owner table; next = 0; prev = 0; ssn = 0; own = page; used = content_place }
