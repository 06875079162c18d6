-- A division on its way up, over a store of pages: what is known of the tree, of the space beside it, and of the pages that may
-- still be changed.
use Rattle.std.specs.Prelude.{◌≡◌, ℕ, suc, ◌+◌, ◌*◌, ◌≤◌, ◌||◌, ℤ, true, false, int_lt, List, [], ◌∷◌, length}
use Rattle.isp_base.specs.Lists.{times}
use Rattle.isp_format.specs.Inner.{Name}
use Rattle.isp_format.specs.Ranges.{Contents}
use Rattle.isp_format.specs.Rules.{space_number}
use Rattle.isp_growth.specs.Growing.{IsLacking, IsSpaceBeside, IsWhole, grown_pages}
use Rattle.isp_halving.specs.declared.Entry.{Entry}
use Rattle.isp_levels.specs.Levels.{InnerNode, TreeLeaf, least_key}
use Rattle.isp_page.specs.State.{is_among, most_changed}
use Rattle.isp_page.specs.Touched.{KeepsPages, is_page, unchanged_of}
use Rattle.isp_page.specs.declared.pages.Pages.{Ghosts}
use Rattle.isp_space.specs.Changes.{ChangesOf}
use Rattle.isp_space.specs.Spaces.{Space}
use Rattle.isp_growing.specs.Paths.{IsPath}
use Rattle.isp_growing.specs.Taking.{taken_times, takes}
use Rattle.isp_growing.specs.declared.path.Path.{Path}

-- how many pages a division changes at most from the lowest level above the leaves on, beside page 0, two more than from the next
-- level on
abbrev pub most_up : ℕ
most_up = 33

-- the store can be used, and a mini-transaction is begun that has room for page 0 and for those of a division from that level on
pub record MayGoUp {S : Type 0} (g : Ghosts S) (level : ℕ) (now : S) : Type 0 where
  pub usable : g.usable now ≡ true
  pub begun : (g.mini now).is_begun ≡ true
  pub room : length (g.mini now).changed + unchanged_of (space_number ∷ []) (g.mini now).changed + most_up ≤ most_changed + 2 * level

-- page 0 and at most so many others are changed
pub record GoesUp {S : Type 0} (g : Ghosts S) (level : ℕ) (old new : S) : Type 0 where
  pub list : List ℕ
  pub few : length list + 2 * level ≤ most_up
  pub changes : ChangesOf g (space_number ∷ list) old new

-- the path has the page of each level from that one on, which is the lowest of those above
pub record IsOnPath (key : ℤ) (path : Path) (level : ℕ) (up below : List (List InnerNode)) : Type 0 where
  pub pages_are : IsPath key path.pages level up
  pub level_is : level ≡ suc (length below)
  pub height_is : path.height ≡ length up + length below

-- the levels above lack the new entry alone, which goes where the key does
pub record CanGoUp (pages : ℕ) (contents : Contents) (table root : ℕ) (key : ℤ) (up below : List (List InnerNode)) (leaves : List TreeLeaf) (old : Name) (new : Entry) (s : Space) : Type 0 where
  pub lacks : IsLacking pages contents table root key up below leaves old (new.key, new.page.0)
  pub least : int_lt key least_key ≡ false
  pub beside : IsSpaceBeside pages contents (grown_pages up below leaves) s

-- The pages of the tree now are those that it had and so many that are taken, and lie beside the rest of the space; other pages
-- than page 0 and its own are as they were.
pub record HasTaken (pages : ℕ) (old new : Contents) (all now : List ℕ) (s : Space) (count : ℕ) : Type 0 where
  pub now_is : (q : ℕ) → times q now ≡ times q all + times q (takes count s)
  pub beside : IsSpaceBeside pages new now (taken_times count s)
  pub others : KeepsPages (λ q. is_page space_number q || is_among q now) old new

-- all levels lead to the leaves again
pub record HasGoneUp (pages : ℕ) (old new : Contents) (table root : ℕ) (up below : List (List InnerNode)) (leaves : List TreeLeaf) (s : Space) : Type 0 where
  pub up_now : List (List InnerNode)
  pub below_now : List (List InnerNode)
  pub whole : IsWhole pages new table root up_now below_now leaves
  pub count : ℕ
  pub few : count ≤ suc (length up)
  pub has : HasTaken pages old new (grown_pages up below leaves) (grown_pages up_now below_now leaves) s count

abbrev pub MayRise : {S : Type 0} → Ghosts S → S → ℕ → ℕ → ℤ → List (List InnerNode) → List (List InnerNode) → List TreeLeaf → Name → Entry → Space → Type 0
MayRise g now table root key up below leaves old new s = CanGoUp (g.shape now).pages (g.contents now) table root key up below leaves old new s

abbrev pub HasRisen : {S : Type 0} → Ghosts S → S → S → ℕ → ℕ → List (List InnerNode) → List (List InnerNode) → List TreeLeaf → Space → Type 0
HasRisen g old new table root up below leaves s = HasGoneUp (g.shape new).pages (g.contents old) (g.contents new) table root up below leaves s
