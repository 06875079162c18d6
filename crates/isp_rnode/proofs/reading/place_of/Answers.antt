use Rattle.std.proofs.Common.{arith}
use Rattle.isp_rnode.proofs.NodeLaws.{count_is, box_there}
use Rattle.isp_rnode.proofs.reading.place_of.Goals as goal

pub overflow_mul-result : goal.overflow_mul-result
overflow_mul-result c = omega (arith, count_is c.args.p.now.bytes, c.requires.inside, c.requires.readable.count)

pub overflow_add-result : goal.overflow_add-result
overflow_add-result c = omega (arith, count_is c.args.p.now.bytes, c.requires.inside, c.requires.readable.count)

pub returns-clause-within : goal.returns-clause-within
returns-clause-within c = omega (arith, count_is c.args.p.now.bytes, c.requires.inside, c.requires.readable.count)

pub returns-clause-ordered : goal.returns-clause-ordered
returns-clause-ordered c = box_there c.args.p.now.bytes c.args.i c.requires.readable (omega (arith, count_is c.args.p.now.bytes, c.requires.inside))
