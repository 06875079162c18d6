use Rattle.std.proofs.Common.{◌≤◌, ℕ, take}
use Rattle.isp_base.specs.Lists.{times}
use Rattle.isp_page.specs.Calls.{Continued}
use Rattle.isp_space.specs.Changes.{ChangesOf}
use Rattle.isp_rinsert.specs.Applying.{AreWritten, written_numbers}
use Rattle.isp_rinsert.proofs.writing.write_all.Given as goal

abbrev pub invariant-loop-w : goal.invariant-loop-w
invariant-loop-w g l = record {
  kept : Continued g.P.Pages l.fn.pages l.pages;
  changes : ChangesOf g.P.Pages (written_numbers l.writes) l.fn.pages l.pages;
  written : g.P.Pages.tells → ((x : ℕ) → times x (written_numbers l.writes) ≤ 1) → AreWritten l.owner (g.P.Pages.contents l.pages) (take l.w-index l.writes);
}
