-- The entries in the bytes of a page above the leaves, and what is known on the way down.
use Rattle.std.specs.Prelude.{◌≡◌, ℕ, ◌*◌, ◌≤◌, ℤ, List, All, Option, Some, length}
use Rattle.std.specs.List.{flat_map}
use Rattle.std.specs.Option.{option_map}
use Rattle.isp_base.specs.declared.page_no.PageNo.{PageNo}
use Rattle.isp_disk.specs.Moments.{Image, slice}
use Rattle.isp_format.specs.Header.{Header}
use Rattle.isp_format.specs.Inner.{IsName, Name, name_bytes, name_size}
use Rattle.isp_format.specs.Kinds.{inner_kind, leaf_kind}
use Rattle.isp_format.specs.Ranges.{Contents}
use Rattle.isp_levels.specs.Levels.{InnerNode, Lead, LevelsBegin, LevelsInside, LevelsStand, Ranged, leaf_names, most_levels, pick, TreeLeaf}

-- these entries stand in the image from a place on, packed
pub record NamesStand (image : Image) (at : ℕ) (names : List Name) : Type 0 where
  pub spelled : slice image at (name_size * length names) ≡ flat_map name_bytes names
  pub each : All IsName names

abbrev pub page_in_name : Option Name → Option ℕ
page_in_name name = option_map (λ (n : Name). n.1) name

abbrev pub page_in_leaf : Option TreeLeaf → Option ℕ
page_in_leaf leaf = option_map (λ (l : TreeLeaf). l.page) leaf

-- the number of a page
abbrev pub number_of : Option PageNo → Option ℕ
number_of page = option_map (λ (p : PageNo). p.0) page

-- what the header of a root says of a tree with so many levels above its leaves
pub record SaysRoot (root height : ℕ) (header : Header) : Type 0 where
  pub from : leaf_kind ≤ header.kind
  pub to : header.kind ≤ inner_kind
  pub own : header.own ≡ root
  pub level : header.level ≡ height
  pub most : height ≤ most_levels

-- on the way down to the leaf of a key this page is the one to go on by, so many levels above the leaves
pub record OnWay (pages : ℕ) (contents : Contents) (table : ℕ) (leaves : List TreeLeaf) (key : ℤ) (page height : ℕ) : Type 0 where
  pub names : List Name
  pub levels : List (List InnerNode)
  pub leads : Lead names levels (leaf_names leaves)
  pub begin : LevelsBegin levels
  pub stand : LevelsStand contents table levels
  pub inside : LevelsInside pages levels
  pub ranged : Ranged leaves
  pub high : length levels ≡ height
  pub picked : page_in_name (pick key names) ≡ Some page
