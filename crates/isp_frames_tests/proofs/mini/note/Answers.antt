use Rattle.std.proofs.Common.{◌+◌, arith}
use Rattle.isp_mini.proofs.ExtentLaws.{one_more_with}
use Rattle.isp_frames_tests.proofs.mini.note.Goals as goal

pub note-requires-clause-few : goal.note-requires-clause-few
note-requires-clause-few c =
    let more = one_more_with (record { 0 = c.args.page }) c.args.at (c.args.at + c.args.len) c.args.changes.now in
    omega (arith, more)
