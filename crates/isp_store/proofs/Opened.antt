-- A file that was opened, and its log put into its pages, over any world.
use Rattle.std.proofs.Common.{◌≡◌, inr, sym, ◌∙◌, subst, ◌≤◌, length}
use Rattle.std.specs.Prelude.{ℕ, vec_capacity}
use Rattle.isp_disk.specs.Moments.{Image, Quiet}
use Rattle.isp_disk.specs.declared.world.World.{Ghosts}
use Rattle.isp_disk.proofs.MomentLaws.{chains, widens}
use Rattle.isp_format.specs.Contents.{StandsFor}
use Rattle.isp_format.specs.Ranges.{Contents}
use Rattle.isp_format.proofs.Standing.{stands_once}
use Rattle.isp_opening.specs.Opening.{IsOpened, KeepsWorld, LeftOpening, StandAlike}
use Rattle.isp_frames.specs.Held.{AreFree}
use Rattle.isp_frames.specs.declared.cache.Cache.{Cache}
use Rattle.isp_pool.specs.Frames.{PoolState}
use Rattle.isp_replay.specs.Putting.{IsFresh}
use Rattle.isp_stable.specs.File.{IsFile, StandsOnly}
use Rattle.isp_stable.specs.declared.stable.Stable.{Stable}

-- what the second stands for the first stands for
pub alike_stands : (one other : Image) → StandAlike one other → (contents : Contents) → StandsFor other contents → StandsFor one contents
alike_stands one other alike contents is = subst (StandsFor one) (stands_once other alike.contents contents alike.second is) alike.first

-- what is left alone by an opening and a replay behind it
pub keeps_replayed : {W : Type 0} (g : Ghosts W) (old : W) (s : Stable W) (new : W) → IsOpened g old s → KeepsWorld g old s.world → g.printed new ≡ g.printed s.world → g.print_faults new ≡ g.print_faults s.world → (g.tells → StandsOnly g s new (StandsFor (g.image s.world))) → KeepsWorld g old new
keeps_replayed g old s new opened kept printed printer stops = record {
  printed = printed ∙ kept.printed;
  printer = printer ∙ kept.printer;
  stops = λ tells.
      let shape = opened.shape tells in
      chains g.clock g.left_since old s.world new (LeftOpening g old) (kept.stops tells)
      (widens g.clock g.left_since s.world new _ (LeftOpening g old) (stops tells)
      (λ left printed has. (
        inr (record {
          contents = has.0.contents;
          first = alike_stands (g.image old) (g.image s.world) (opened.alike tells) has.0.contents has.0.has;
          second = has.0.stands;
          pages = has.0.pages ∙ sym shape.0;
          fanout = has.0.fanout ∙ sym shape.1;
        }),
        has.1 ∙ kept.printed,
      )));
}

-- a file that was opened, by another name
module _ {W : Type 0} (g : Ghosts W) (old : W) (s t : Stable W) (same : t ≡ s) where
  pub opened_as : IsOpened g old s → IsOpened g old t
  opened_as opened = subst (IsOpened g old) (sym same) opened

  pub keeps_opened : KeepsWorld g old s.world → KeepsWorld g old t.world
  keeps_opened kept = subst (λ (file : Stable W). KeepsWorld g old file.world) (sym same) kept

-- free frames over it
module _ {W : Type 0} (g : Ghosts W) where
  pub fresh_cache : (s : Cache W) → Quiet (g.pending s.stable.world) → (g.tells → IsFile g s.stable) → (pool : PoolState) (size : ℕ) → s.pool ≡ pool → vec_capacity s.batch ≡ size → AreFree pool → 64 ≤ length pool.frames → 64 ≤ size → IsFresh g s
  fresh_cache s quiet file pool size pool_is size_is free many room = record {
    quiet = quiet;
    file = file;
    free = subst AreFree (sym pool_is) free;
    many = subst (λ (p : PoolState). 64 ≤ length p.frames) (sym pool_is) many;
    room = subst (λ (n : ℕ). 64 ≤ n) (sym size_is) room;
  }
