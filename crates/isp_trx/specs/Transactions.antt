-- A transaction: its session, how many of its changes can be taken back, and the keys that it wrote.
use Rattle.std.specs.Prelude.{◌≡◌, ℕ, ◌+◌, ◌-◌, List, [], ◌∷◌, ◌++◌, Option, Some, None, if◌then◌else◌}
use Rattle.isp_clustered.specs.declared.kept.Kept.{Kept}
use Rattle.isp_format.specs.Undo.{OldImage, absent_kind, marked_kind, unmarked_kind}
use Rattle.isp_trx.specs.declared.keys.RowKey.{RowKey}

pub record TrxState : Type 0 where
  -- the session's number, which is that of its undo slot
  pub session : ℕ
  -- how many old rows its chain has
  pub count : ℕ
  -- each key that a row was written at, in order
  pub keys : List RowKey
  -- for how many more changes memory is there
  pub spare : ℕ

-- what stands at a key, as an old row
abbrev pub old_image : RowKey → Option Kept → OldImage
old_image at None = record { table = at.table; key = at.key; kind = absent_kind; row = [] }
old_image at (Some kept) = record { table = at.table; key = at.key; kind = if kept.marked then marked_kind else unmarked_kind; row = kept.row }

-- the second is the first, but for the memory that it has
pub record SameTrx (old new : TrxState) : Type 0 where
  pub session : new.session ≡ old.session
  pub count : new.count ≡ old.count
  pub keys : new.keys ≡ old.keys

-- it has noted what stood at a key, which it wrote
pub record HasNoted (at : RowKey) (old new : TrxState) : Type 0 where
  pub session : new.session ≡ old.session
  pub count : new.count ≡ old.count + 1
  pub keys : new.keys ≡ old.keys ++ at ∷ []
  pub spare : new.spare + 1 ≡ old.spare

-- it has taken back the newest change, or there is none
pub record HasUndone (old new : TrxState) : Type 0 where
  pub session : new.session ≡ old.session
  pub count : new.count ≡ old.count - 1
  pub keys : new.keys ≡ old.keys

-- none of its changes can be taken back any more
pub record HasCommitted (old new : TrxState) : Type 0 where
  pub session : new.session ≡ old.session
  pub count : new.count ≡ 0
  pub keys : new.keys ≡ old.keys

-- one that has written nothing
pub record IsNew (session : ℕ) (trx : TrxState) : Type 0 where
  pub session_is : trx.session ≡ session
  pub count : trx.count ≡ 0
  pub keys : trx.keys ≡ []
