-- Pages that are each the page of one of two contents, as they stood in their places or as they are now, over calls.
use Rattle.std.proofs.Common.{◌≡◌, inl, inr, ⊎_elim, ◌∙◌, ◌*◌, ◌⊎◌, false, true, List, ℕ, Option, Some, sym, ap, subst, arith, length, map}
use Rattle.std.proofs.lemmas.Bool.{cases_Bool, cases_eq}
use Rattle.isp_disk.specs.Calls.{OnlyNow}
use Rattle.isp_disk.specs.Moments.{Quiet}
use Rattle.isp_disk.specs.declared.world.World.{Ghosts}
use Rattle.isp_disk.proofs.MomentLaws.{chains, started, widens}
use Rattle.isp_doublewrite.specs.Batches.{whole_page}
use Rattle.isp_format.specs.Doublewrite.{laid}
use Rattle.isp_format.specs.Ranges.{Contents, page_bytes, page_of, place_of, puts}
use Rattle.isp_format.proofs.Places.{inside}
use Rattle.isp_format.proofs.Slices.{slice_beside}
use Rattle.isp_frames.specs.Cached.{now}
use Rattle.isp_frames.specs.Held.{AreApart, now_over, page_places, whole_frame}
use Rattle.isp_frames.specs.declared.cache.Cache.{Cache}
use Rattle.isp_format.specs.declared.page.Page.{Page}
use Rattle.isp_base.specs.declared.page_no.PageNo.{PageNo}
use Rattle.isp_pool.specs.declared.frames.Frame.{Frame}
use Rattle.isp_pool.specs.Frames.{frame_in}
use Rattle.isp_stable.specs.File.{ArePagesOf, IsFile, LaysOnly, placed}
use Rattle.isp_stable.specs.declared.stable.Stable.{Stable}
use Rattle.isp_stable.proofs.FileLaws.{reads_pages}
use Rattle.isp_frames.proofs.NowLaws.{in_place, now_page, range_is, same_page, slice_placed}

-- contents that are the first of the two
pub pages_same : (one other contents : Contents) → contents ≡ one → ArePagesOf one other contents
pages_same one other contents same page = inl (ap (λ (all : Contents). page_of all page) same)

-- contents that are the first of them, or others whose pages are of the two
pages_either : (one other more contents : Contents) → ArePagesOf one other more → (contents ≡ one) ⊎ (contents ≡ more) → ArePagesOf one other contents
pages_either one other more contents all which =
    ⊎_elim (λ same. pages_same one other contents same) (λ same. subst (λ (c : Contents). ArePagesOf one other c) (sym same) all) which

-- the page of a frame put whole over the one that stands in its place
its_page : (frames : List (Option Frame)) (before : Contents) → AreApart frames → (i : ℕ) (f : Frame) → frame_in frames i ≡ Some f → (page : ℕ) → page ≡ f.page.0 → page_of (in_place before f) page ≡ page_of (now_over frames before) page
unfolding page_of
its_page frames before apart i f e page mine =
    let start : page * page_bytes ≡ place_of (whole_frame f) = omega (arith, mine) in
    slice_placed before (place_of (whole_frame f)) (page * page_bytes) page_bytes f.content.bytes start (sym (apart.whole i f e))
    ∙ sym (now_page frames before apart i f e)
    ∙ ap (page_of (now_over frames before)) (sym mine)

-- the others stay
other_page : (before : Contents) (f : Frame) → length f.content.bytes ≡ 4096 → (page : ℕ) → (page ≡ f.page.0 → ⊥) → page_of (in_place before f) page ≡ page_of before page
unfolding page_of
other_page before f long page away =
    slice_beside before (place_of (whole_frame f)) f.content.bytes (page * page_bytes) page_bytes
    (λ place low high. range_is f long place ∙ elsewhere place (inside (page * page_bytes) page_bytes place low high))
  where
    elsewhere : (place : ℕ) → page_places page place ≡ true → page_places f.page.0 place ≡ false
    elsewhere place is =
        ⊎_elim (λ its. absurd (away (same_page page f.page.0 place is its))) (λ isnt. isnt) (cases_Bool (page_places f.page.0 place))

-- so each page is one of the two as before, where the contents now are the other one
pub pages_in_place : (one other before : Contents) (frames : List (Option Frame)) (i : ℕ) (f : Frame) → AreApart frames → frame_in frames i ≡ Some f → now_over frames before ≡ other → ArePagesOf one other before → ArePagesOf one other (in_place before f)
pages_in_place one other before frames i f apart e same so_far page =
    ⊎_elim (λ mine. inr (its_page frames before apart i f e page mine ∙ ap (λ (all : Contents). page_of all page) same))
    (λ away.
    let stays = other_page before f (apart.whole i f e) page away in
    ⊎_elim (λ first. inl (stays ∙ first)) (λ second. inr (stays ∙ second)) (so_far page))
    (cases_eq page f.page.0)

-- one call behind another that leaves the contents now as they were
pub pages_twice : (one other mid other_mid contents : Contents) → ArePagesOf one other mid → other_mid ≡ other → ArePagesOf mid other_mid contents → ArePagesOf one other contents
pages_twice one other mid other_mid contents first same second page =
    ⊎_elim (λ stayed. ⊎_elim (λ was. inl (stayed ∙ was)) (λ is. inr (stayed ∙ is)) (first page))
    (λ is. inr (is ∙ ap (λ (all : Contents). page_of all page) same)) (second page)

module _ {W : Type 0} (g : Ghosts W) where
  -- calls that leave the pages as they stand
  pub lays_read : (s : Stable W) (other : Contents) (new : W) → LaysOnly g s.world new (λ contents. contents ≡ placed g s) → LaysOnly g s.world new (ArePagesOf (placed g s) other)
  lays_read s other new leaves = widens g.clock g.left_since s.world new _ _ leaves (λ left printed same. pages_same (placed g s) other (laid left) same)

  -- a batch of pages that is written or not
  pub lays_batch : (s : Stable W) (other : Contents) (batch : List (PageNo × Page)) (new : W) → ArePagesOf (placed g s) other (puts (map whole_page batch) (placed g s))
      → LaysOnly g s.world new (λ contents. (contents ≡ placed g s) ⊎ (contents ≡ puts (map whole_page batch) (placed g s))) → LaysOnly g s.world new (ArePagesOf (placed g s) other)
  lays_batch s other batch new all leaves = widens g.clock g.left_since s.world new _ _ leaves
      (λ left printed has. pages_either (placed g s) other (puts (map whole_page batch) (placed g s)) (laid left) all has)

  -- no call at all
  pub lays_still : (s : Stable W) (other : Contents) → IsFile g s → Quiet (g.pending s.world) → OnlyNow g s.world
      → LaysOnly g s.world s.world (ArePagesOf (placed g s) other)
  lays_still s other file quiet only =
      lays_read s other s.world
      (reads_pages g s file s.world (started g.clock g.left_since s.world _ (λ left printed since. let at_now = only left printed since in ((λ place out. at_now.0 place (quiet place)), at_now.1))))

  -- one call behind another
  pub lays_twice : (old mid new : Cache W) → ArePagesOf (placed g old.stable) (now g old) (placed g mid.stable) → now g mid ≡ now g old
      → LaysOnly g old.stable.world mid.stable.world (ArePagesOf (placed g old.stable) (now g old))
      → LaysOnly g mid.stable.world new.stable.world (ArePagesOf (placed g mid.stable) (now g mid))
      → LaysOnly g old.stable.world new.stable.world (ArePagesOf (placed g old.stable) (now g old))
  lays_twice old mid new pages same first second =
      chains g.clock g.left_since old.stable.world mid.stable.world new.stable.world _ first
      (widens g.clock g.left_since mid.stable.world new.stable.world _ _ second
      (λ left printed has. pages_twice (placed g old.stable) (now g old) (placed g mid.stable) (now g mid) (laid left) pages same has))
