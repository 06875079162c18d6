-- A cache of free frames over a file that was opened.
use Rattle.std.proofs.Common.{◌≡◌, ◌≤◌, ℕ, length, sym, subst}
use Rattle.std.specs.Prelude.{vec_capacity}
use Rattle.isp_disk.specs.declared.world.World.{Ghosts}
use Rattle.isp_frames.specs.Held.{AreFree}
use Rattle.isp_frames.specs.declared.cache.Cache.{Cache}
use Rattle.isp_opening.specs.Opening.{IsOpened}
use Rattle.isp_pool.specs.Frames.{PoolState}
use Rattle.isp_replay.specs.Putting.{IsFresh}
use Rattle.isp_stable.specs.declared.stable.Stable.{Stable}

module _ {W : Type 0} (g : Ghosts W) where
  pub fresh_opened : (old : W) (s : Cache W) (stable : Stable W) (pool : PoolState) (size : ℕ) → s.stable ≡ stable → s.pool ≡ pool → vec_capacity s.batch ≡ size → IsOpened g old stable → AreFree pool → 64 ≤ length pool.frames → 64 ≤ size → IsFresh g s
  fresh_opened old s stable pool size stable_is pool_is size_is opened free many room =
      let there = subst (IsOpened g old) (sym stable_is) opened in
      record {
        quiet = there.quiet;
        file = there.file;
        free = subst AreFree (sym pool_is) free;
        many = subst (λ (p : PoolState). 64 ≤ length p.frames) (sym pool_is) many;
        room = subst (λ (n : ℕ). 64 ≤ n) (sym size_is) room;
      }
