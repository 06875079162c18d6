-- What a table of predicate locks keeps of itself, and what is seen of it.
use Rattle.std.specs.Prelude.{◌≡◌, ℕ, ◌==◌, Bool, true, cond, is_some, List, filter_map, Option, Some, None}
use Rattle.std.specs.Option.{option_map}
use Rattle.indexmap.specs.IndexSet.{spare}
use Rattle.slab.specs.Slab.{Slab, get}
use Rattle.isp_base.specs.Lists.{Has}
use Rattle.isp_predlock.specs.declared.entries.Sought.{Sought}
use Rattle.isp_predlock.specs.declared.table.Attached.{Attached}
use Rattle.isp_predlock.specs.declared.table.PredLocks.TheInside.{Inside}
use Rattle.isp_predlock.specs.Tables.{HeldSearch, PredTable}

-- the page of a pair, if it is that search's
abbrev pub page_for : ℕ → Attached → Option ℕ
page_for id pair = cond (pair.search == id) (Some pair.page) None

abbrev pub held_as : List Attached → ℕ → Sought → HeldSearch
held_as pairs id sought = record { id = id; sought = sought; on = filter_map (page_for id) pairs }

-- the search of a number, with its pages
abbrev pub held_at : Slab Sought → List Attached → ℕ → Option HeldSearch
held_at searches pairs id = option_map (held_as pairs id) (get searches id)

abbrev pub view_of : Inside → PredTable
view_of t = record {
  searches = filter_map (held_at t.searches t.attached.keys) t.order.items;
  spare = spare t.attached;
}

-- the numbers that are listed are those of the searches that are there, and only these are attached
pub record IsKept (t : Inside) : Type 0 where
  pub there : (id : ℕ) → Has t.order.items id → is_some (get t.searches id) ≡ true
  pub listed : (id : ℕ) → is_some (get t.searches id) ≡ true → Has t.order.items id
  pub attached : (pair : Attached) → Has t.attached.keys pair → is_some (get t.searches pair.search) ≡ true

-- ---- what stays where searches go

abbrev pub kept_without : ℕ → Option Sought → Option Sought
kept_without session None = None
kept_without session (Some sought) = cond (sought.session == session) None (Some sought)

abbrev pub is_kept_id : Slab Sought → ℕ → Bool
is_kept_id searches id = is_some (get searches id)

abbrev pub is_kept_pair : Slab Sought → Attached → Bool
is_kept_pair searches pair = is_some (get searches pair.search)
