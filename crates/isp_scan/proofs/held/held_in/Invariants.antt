use Rattle.std.proofs.Common.{◌≡◌, ◌++◌, List, drop}
use Rattle.isp_image.specs.Databases.{FileRow}
use Rattle.isp_scan.specs.Scanning.{AreKeptAs, AreRowsOf, held_rows}
use Rattle.isp_scan.proofs.held.held_in.Given as goal

abbrev pub invariant-loop-at : goal.invariant-loop-at
invariant-loop-at l =
    AreRowsOf l.schema l.rows
    × ((rows : List FileRow) → AreKeptAs l.schema l.leaf rows → l.rows ++ held_rows l.w (drop l.at-index rows) ≡ held_rows l.w rows)
