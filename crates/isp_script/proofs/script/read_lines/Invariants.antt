use Rattle.std.proofs.Common.{◌≡◌, ◌≤◌, ◌+◌, length}
use Rattle.isp_script.specs.Lines.{lines_of}
use Rattle.isp_script.specs.Reading.{read_on}
use Rattle.isp_script.specs.declared.script.Reading.TheVariants.{Nothing}
use Rattle.isp_script.proofs.script.read_lines.Given as goal

abbrev pub invariant-lines : goal.invariant-lines
invariant-lines l = record {
  read : read_on l.reading l.line (lines_of l.rest) ≡ read_on Nothing 1 (lines_of l.bytes);
  few : l.line + length l.rest ≤ length l.bytes + 1;
}

abbrev pub decreases-lines : goal.decreases-lines
decreases-lines l = length l.rest
