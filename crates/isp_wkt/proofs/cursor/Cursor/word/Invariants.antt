use Rattle.std.proofs.Common.{◌≡◌, ◌≤◌, drop, length}
use Rattle.isp_wkt.specs.Reading.{word_in}
use Rattle.isp_wkt.proofs.cursor.Cursor.word.Given as goal

abbrev pub invariant-loop-kind : goal.invariant-loop-kind
invariant-loop-kind l = record {
  read : word_in (drop l.kind-index l.kinds) l.most l.self ≡ word_in l.kinds 0 l.fn.self;
  within : l.most ≤ length l.self;
}
