-- What undo chains are with one image more, and without the newest.
use Rattle.std.specs.Prelude.{ℕ, ◌+◌, ◌<◌, Bool, true, not, nat_le, List, [], ◌∷◌, ◌++◌, All, drop, length, Option, Some, None, if◌then◌else◌}
use Rattle.std.specs.List.{flat_map}
use Rattle.isp_format.specs.Doublewrite.{AreDistinct}
use Rattle.isp_format.specs.Kinds.{content_place}
use Rattle.isp_format.specs.Ranges.{page_bytes}
use Rattle.isp_format.specs.Undo.{OldImage, image_bytes}
use Rattle.isp_space.specs.Spaces.{Space}
pub use Rattle.isp_undo_walks.specs.Chains.{Chain, HasChain, IsInFile, IsLinked, IsUndoChain, UndoPage, undo_page}
pub use Rattle.isp_undo_walks.specs.Chains.{end_of, ends_of, first_page, images_of, is_empty, last_page, pages_of}

-- each of the chain's pages was used, and none of them is free
pub record IsApart (chain : Chain) (s : Space) : Type 0 where
  pub used : All (λ (p : UndoPage). p.page < s.fresh) chain
  pub once : AreDistinct (pages_of chain ++ s.free)

-- ---- one image more

-- the entry of an image has room behind those of a page
abbrev pub has_room : OldImage → List OldImage → Bool
has_room image images = nat_le (content_place + length (flat_map image_bytes images) + length (image_bytes image)) page_bytes

-- a page has to be taken for one more image
abbrev pub takes_page : OldImage → Chain → Bool
takes_page image [] = true
takes_page image (p ∷ []) = not (has_room image p.images)
takes_page image (p ∷ q ∷ rest) = takes_page image (q ∷ rest)

-- a page with one image
abbrev pub one_image : ℕ → OldImage → UndoPage
one_image page image = undo_page page (image ∷ [])

-- a page with one image more
abbrev pub with_image : OldImage → UndoPage → UndoPage
with_image image p = undo_page p.page (p.images ++ image ∷ [])

-- the chain with one more image: on its last page, or where that has no room, or there is none, on that page behind it
abbrev pub pushed : ℕ → OldImage → Chain → Chain
pushed page image [] = one_image page image ∷ []
pushed page image (p ∷ []) = if has_room image p.images then with_image image p ∷ [] else p ∷ one_image page image ∷ []
pushed page image (p ∷ q ∷ rest) = p ∷ pushed page image (q ∷ rest)

-- ---- the newest image, and the chain without it

abbrev pub newest_in : List OldImage → Option OldImage
newest_in [] = None
newest_in (i ∷ []) = Some i
newest_in (i ∷ j ∷ rest) = newest_in (j ∷ rest)

abbrev pub newest_of : Chain → Option OldImage
newest_of chain = newest_in (images_of chain)

-- all but the last
abbrev pub without_last : List OldImage → List OldImage
without_last [] = []
without_last (i ∷ []) = []
without_last (i ∷ j ∷ rest) = i ∷ without_last (j ∷ rest)

-- the same pages without the newest image
abbrev pub without_newest : Chain → Chain
without_newest [] = []
without_newest (p ∷ rest) = if is_empty (images_of rest) then undo_page p.page (without_last p.images) ∷ rest else p ∷ without_newest rest

abbrev pub joined : UndoPage → Chain → Chain
joined p [] = if is_empty p.images then [] else p ∷ []
joined p (q ∷ rest) = p ∷ q ∷ rest

-- up to the last page that has an image
abbrev pub filled : Chain → Chain
filled [] = []
filled (p ∷ rest) = joined p (filled rest)

-- the same, but with the first page in any case
abbrev pub trimmed : Chain → Chain
trimmed [] = []
trimmed (p ∷ rest) = p ∷ filled rest

-- the chain once the newest image is taken off: empty pages at its end go, but not the first page
abbrev pub popped : Chain → Chain
popped chain = trimmed (without_newest chain)

-- the pages that go then, from the first to the last
abbrev pub gone : Chain → List ℕ
gone chain = drop (length (popped chain)) (pages_of chain)
