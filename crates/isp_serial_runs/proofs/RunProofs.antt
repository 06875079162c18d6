-- The theorem, from what events tell and how they fit.
use Rattle.std.proofs.Common.{◌≡◌, ◌∙◌, refl, sym, ap, subst, ℕ, ℤ, Bool, true, false, cond, Option, Some, None, List, []}
use Rattle.isp_plain.specs.declared.value.Row.{Row}
use Rattle.isp_events.specs.Stored.{present, row_of, table_at}
use Rattle.isp_events.specs.Sessions.{SessionState, session_at}
use Rattle.isp_events.specs.State.{State}
use Rattle.isp_events.specs.Views.{committed, committed_row, first_image, version_or}
use Rattle.isp_events.specs.Ways.{Machine}
use Rattle.isp_events.specs.Lines.{Line, answers_in}
use Rattle.isp_event_laws.proofs.SerialLaws.{serial_computes}
use Rattle.isp_serial.specs.Serial.{none_pending}
use Rattle.isp_order.specs.InOrder.{InOrder}
use Rattle.isp_order.proofs.RestedLaws.{in_order}
use Rattle.isp_order_one.proofs.ImageLaws.{all_none}
use Rattle.isp_order_whole.proofs.WholeLaws.{stays_in_order}
use Rattle.isp_answers.proofs.RestedLaws.{same_seen}
use Rattle.isp_fits.specs.FitLaws.{RunLeads}
use Rattle.isp_fits.proofs.FitProofs.{events_fit}
use Rattle.isp_fits.proofs.RunProofs.{runs_fit, runs_lead}
use Rattle.isp_serial_laws.specs.SerialLaws.{AreReplayed}
use Rattle.isp_serial_laws.proofs.EventLaws.{events_are_replayed}
use Rattle.isp_serial_runs.specs.RunLaws.{EventsAreGuarded, EventsAreSerial, EventsCompute, RunIsSerial, RunLeavesRows}

pub events_are_serial : EventsAreSerial
events_are_serial m first last before left lines good rested events = record {
  replayed = events_are_replayed m first last before left lines good rested events;
  fitting = events_fit m first last before left lines good rested events;
}

pub events_compute : EventsCompute
events_compute m first last before left lines good rested events =
    let r : AreReplayed m before lines left = events_are_replayed m first last before left lines good rested events in
    serial_computes m.language m.script (committed before) none_pending (answers_in lines) (committed left) r.pending r.ended

pub run_is_serial : RunIsSerial
run_is_serial m before left lines good rested run =
    let l : RunLeads m before lines left = runs_lead m before left lines good rested run in
    let r : AreReplayed m before lines left = events_are_replayed m 0 l.last before left lines good rested l.events in
    record {
      fits = runs_fit m before left lines good rested run;
      pending = r.pending;
      ended = r.ended;
      still_open = r.still_open;
    }

pub run_leaves_rows : RunLeavesRows
run_leaves_rows m before left lines good rested run not_stop =
    let l : RunLeads m before lines left = runs_lead m before left lines good rested run in
    let o : InOrder m left = stays_in_order m 0 l.last before left lines good (in_order m before rested) l.events in
    same_seen (committed_row left) (λ table key. row_of (present (table_at left.tables table) key)) left.tables
    (λ table key. ap (λ i. row_of (version_or i (present (table_at left.tables table) key)))
    (all_none left.sessions table key (λ j. ap (λ us. first_image us table key) (o.idle.nothing j (o.idle.over j (l.all_over not_stop j)).0).no_undo)))

pub events_are_guarded : EventsAreGuarded
events_are_guarded m first last before left lines good rested events =
    let o : InOrder m left = stays_in_order m first last before left lines good (in_order m before rested) events in
    record { no_conflict = o.no_conflict; written_locked = o.written_locked; covered = o.covered; known = o.known }
