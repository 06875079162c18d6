-- The bytes of an extent in the frame of its page are those of the contents now.
use Rattle.std.proofs.Common.{◌≡◌, ◌-◌, ℕ, List, Option, Some, None, take, drop, refl, sym, ◌∙◌, ap}
use Rattle.isp_format.specs.Ranges.{Contents, page_of}
use Rattle.isp_frames.specs.Held.{AreApart, now_over}
use Rattle.isp_frames.proofs.NowLaws.{now_page, some_is}
use Rattle.isp_mini.specs.Extents.{IsExtent, range_in}
use Rattle.isp_mini.specs.declared.changes.Extent.{Extent}
use Rattle.isp_mini.proofs.RangeLaws.{page_piece}
use Rattle.isp_format.specs.declared.page.Page.{Page}
use Rattle.isp_base.specs.declared.page_no.PageNo.{PageNo}
use Rattle.isp_pool.specs.Frames.{PoolState, content_of, frame_at, page_of as page_in}
use Rattle.isp_pool.specs.declared.frames.Frame.{Frame}

held_piece : (pool : PoolState) (i : ℕ) (extent : Extent) (page : Page) (placed : Contents) (o : Option Frame) → AreApart pool.frames → IsExtent extent → frame_at pool i ≡ o → page_in o ≡ Some extent.page → content_of o ≡ Some page
    → take (extent.end - extent.at) (drop extent.at page.bytes) ≡ (range_in (now_over pool.frames placed) extent).bytes
held_piece pool i extent page placed None apart is there number content = absurd (cc)
held_piece pool i extent page placed (Some f) apart is there number content =
    let bytes : page_of (now_over pool.frames placed) extent.page.0 ≡ page.bytes =
    ap (λ (p : PageNo). page_of (now_over pool.frames placed) p.0) (sym (some_is f.page extent.page number))
    ∙ now_page pool.frames placed apart i f there
    ∙ ap (λ (p : Page). p.bytes) (some_is f.content page content) in
    ap (λ (bs : List ℕ). take (extent.end - extent.at) (drop extent.at bs)) (sym bytes) ∙ page_piece (now_over pool.frames placed) extent is

pub piece_is : (pool : PoolState) (i : ℕ) (extent : Extent) (page : Page) (placed : Contents) → AreApart pool.frames → IsExtent extent → page_in (frame_at pool i) ≡ Some extent.page → content_of (frame_at pool i) ≡ Some page
    → take (extent.end - extent.at) (drop extent.at page.bytes) ≡ (range_in (now_over pool.frames placed) extent).bytes
piece_is pool i extent page placed apart is number content = held_piece pool i extent page placed (frame_at pool i) apart is refl number content
