-- All clauses, kept by every event.
use Rattle.std.proofs.Common.{ℕ, List, [], ◌∷◌, subst}
use Rattle.isp_events.specs.Events.{Event, MayFollow, after, after_all}
use Rattle.isp_events.specs.State.{State}
use Rattle.isp_events.specs.Ways.{Machine}
use Rattle.isp_order.specs.InOrder.{InOrder, IsProper}
use Rattle.isp_order_changes.proofs.ChangingLaws.{changing_kept}
use Rattle.isp_order_entries.proofs.EnteredLaws.{entered_kept}
use Rattle.isp_order_entries.proofs.NumberedLaws.{numbered_kept}
use Rattle.isp_order_entries.proofs.RestorableLaws.{restorable_kept}
use Rattle.isp_order_keyed.proofs.KeyedLaws.{keyed_kept}
use Rattle.isp_order_locks.proofs.CompatibleLaws.{compatible_kept}
use Rattle.isp_order_locks.proofs.CountLaws.{counted_kept}
use Rattle.isp_order_locks.proofs.CycleLaws.{no_cycle_kept}
use Rattle.isp_order_locks.proofs.IdleLaws.{idle_kept}
use Rattle.isp_order_locks.proofs.IntendedLaws.{intended_kept}
use Rattle.isp_order_locks.proofs.LockedLaws.{locked_kept}
use Rattle.isp_order_locks.proofs.WaitingLaws.{waiting_kept}
use Rattle.isp_order_one.proofs.NamedLaws.{named_kept}
use Rattle.isp_order_one.proofs.OneStatusLaws.{one_status_kept}
use Rattle.isp_order_paths.proofs.CollectedLaws.{collected_kept}
use Rattle.isp_order_paths.proofs.PathLaws.{paths_kept}
use Rattle.isp_order_reads.proofs.KeysLaws.{keys_kept}
use Rattle.isp_order_reads.proofs.ScannedLaws.{scanned_kept}
use Rattle.isp_order_reads.proofs.StandingLaws.{standing_kept}
use Rattle.isp_order_searches.proofs.BelongsLaws.{belongs_kept}
use Rattle.isp_order_status.proofs.NotedLaws.{noted_kept}
use Rattle.isp_order_trees.proofs.CoveredLaws.{covered_kept}
use Rattle.isp_order_trees.proofs.KnownLaws.{known_kept}
use Rattle.isp_order_trees.proofs.WholeLaws.{whole_kept}
use Rattle.isp_order_work.proofs.BeforeLaws.{before_kept}
use Rattle.isp_order_work.proofs.BoundLaws.{bound_kept}
use Rattle.isp_order_work.proofs.TableLockLaws.{table_kept}
use Rattle.isp_order_work.proofs.WrittenLaws.{written_kept}
use Rattle.isp_order_whole.specs.WholeOrder.{KeepsOrder, StaysInOrder}

pub order_kept : KeepsOrder
order_kept m state actor choice proper order happens = record {
  counted = counted_kept m state actor choice proper order happens;
  whole = whole_kept m state actor choice proper order happens;
  keyed = keyed_kept m state actor choice proper order happens;
  entered = entered_kept m state actor choice proper order happens;
  numbered = numbered_kept m state actor choice proper order happens;
  noted = noted_kept m state actor choice proper order happens;
  one_status = one_status_kept m state actor choice proper order happens;
  named = named_kept m state actor choice proper order happens;
  restorable = restorable_kept m state actor choice proper order happens;
  no_conflict = compatible_kept m state actor choice proper order happens;
  intended = intended_kept m state actor choice proper order happens;
  written_locked = locked_kept m state actor choice proper order happens;
  idle = idle_kept m state actor choice proper order happens;
  waiting = waiting_kept m state actor choice proper order happens;
  no_cycle = no_cycle_kept m state actor choice proper order happens;
  covered = covered_kept m state actor choice proper order happens;
  known = known_kept m state actor choice proper order happens;
  belongs = belongs_kept m state actor choice proper order happens;
  bound = bound_kept m state actor choice proper order happens;
  table_locked = table_kept m state actor choice proper order happens;
  keys_locked = keys_kept m state actor choice proper order happens;
  scanned = scanned_kept m state actor choice proper order happens;
  standing = standing_kept m state actor choice proper order happens;
  changing = changing_kept m state actor choice proper order happens;
  collected = collected_kept m state actor choice proper order happens;
  written = written_kept m state actor choice proper order happens;
  before = before_kept m state actor choice proper order happens;
  paths = paths_kept m state actor choice proper order happens;
}

all_kept : (m : Machine) (first last : ℕ) (state : State) (events : List Event) → IsProper m → InOrder m state → MayFollow m first last state events → InOrder m (after_all m state events)
all_kept m first last state [] proper order happen = order
all_kept m first last state (e ∷ events) proper order happen =
    all_kept m e.turn last (after m state e.actor e.choice) events proper (order_kept m state e.actor e.choice proper order happen.1) happen.2

pub stays_in_order : StaysInOrder
stays_in_order m first last before left lines proper order events =
    subst (InOrder m) events.ends (all_kept m first last before events.events proper order events.happen)
