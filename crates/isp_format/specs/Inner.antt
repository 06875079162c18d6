-- An inner page of a clustered tree: the pages below it, each with the key from which on it has keys.
use Rattle.std.specs.Prelude.{◌≡◌, ℕ, ◌^◌, ◌*◌, ◌<◌, ◌≤◌, ℤ, List, ◌++◌, All, FitsSigned, length}
use Rattle.std.specs.Int.{w64}
use Rattle.std.specs.List.{flat_map}
use Rattle.isp_disk.specs.Moments.{image_of, slice}
use Rattle.isp_format.specs.Header.{header_of}
use Rattle.isp_format.specs.Kinds.{HasHead, clustered_owner, content_place, inner_kind}
use Rattle.isp_format.specs.Leaf.{key_bytes}
use Rattle.isp_format.specs.Numbers.{bytes_of}

-- the key from which on a page has keys, and the page
abbrev pub Name : Type 0
Name = ℤ × ℕ

abbrev pub name_size : ℕ
name_size = 12

-- where the page stands in an entry, behind the key
abbrev pub child_place : ℕ
child_place = 8

-- how many entries an inner page has at most
abbrev pub most_names : ℕ
most_names = 336

abbrev pub name_bytes : Name → List ℕ
name_bytes name = key_bytes name.0 ++ bytes_of 4 name.1

abbrev pub IsName : Name → Type 0
IsName name = FitsSigned w64 name.0 × (name.1 < 256 ^ 4)

-- the bytes of that page are an inner page of that table and level with these entries
pub record IsInnerPage (bytes : List ℕ) (table own level : ℕ) (names : List Name) : Type 0 where
  pub head : HasHead bytes inner_kind level (clustered_owner table) own
  pub count : (header_of bytes).count ≡ length names
  pub most : length names ≤ most_names
  pub spelled : slice (image_of bytes) content_place (name_size * length names) ≡ flat_map name_bytes names
  pub each : All IsName names
