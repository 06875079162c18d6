-- What holds of the fields of a store.
use Rattle.std.specs.Prelude.{◌≡◌, true, false, []}
use Rattle.isp_disk.specs.declared.world.World.{Ghosts}
use Rattle.isp_format.specs.Control.{IsFanout, IsPages}
use Rattle.isp_store.specs.Running.{IsRunning}
use Rattle.isp_store.specs.State.{StoreState}
use Rattle.isp_store.specs.declared.store.Store.TheInside.{Inside}

-- what its callers see
abbrev pub seen : {W : Type 0} → Inside W → StoreState W
seen s = record {
  stable = s.cache.stable;
  pool = s.cache.pool;
  open_ranges = s.changes;
  is_begun = s.is_begun;
  is_usable = s.is_usable;
}

module _ {W : Type 0} (g : Ghosts W) where
  pub record IsStore (s : Inside W) : Type 0 where
    pub shape : IsPages s.cache.stable.pages × IsFanout s.cache.stable.fanout
    pub sound : s.is_usable ≡ true → IsRunning g s.cache s.changes
    pub closed : s.is_usable ≡ true → s.is_begun ≡ false → s.changes ≡ []
