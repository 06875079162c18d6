use Rattle.std.proofs.Common.{◌≡◌, ◌++◌, ◌-◌, ◌≤◌, filter_map}
use Rattle.std.specs.List.{range_with_len}
use Rattle.isp_events.specs.State.{session_numbers}
use Rattle.isp_predlock.specs.Testing.{first_of}
use Rattle.isp_predlock.proofs.testing.firsts.Given as goal

abbrev pub invariant-loop-session : goal.invariant-loop-session
invariant-loop-session l =
    (l.list.items ++ filter_map (first_of l.all) (range_with_len l.session (17 - l.session)) ≡ filter_map (first_of l.all) session_numbers)
    × (l.session ≤ 17)
