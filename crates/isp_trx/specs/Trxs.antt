-- A transaction's fields as its value.
use Rattle.std.specs.Prelude.{◌-◌, ◌<◌, ◌≤◌, length, vec_capacity, vec_len}
use Rattle.isp_format.specs.Undo.{undo_slots}
use Rattle.isp_trx.specs.declared.trx.Trx.TheInside.{Inside}
use Rattle.isp_trx.specs.Transactions.{TrxState}

abbrev pub state_of : Inside → TrxState
state_of t = record {
  session = t.session;
  count = t.count;
  keys = t.keys.items;
  spare = vec_capacity t.keys - vec_len t.keys;
}

-- the session has an undo slot, and there are no more old rows than rows were written
pub record IsTrx (t : Inside) : Type 0 where
  pub slot : t.session < undo_slots
  pub few : t.count ≤ length t.keys.items
