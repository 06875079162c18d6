use Rattle.std.proofs.Common.{◌∙◌}
use Rattle.isp_disk.specs.Moments.{image_of}
use Rattle.isp_catalog.proofs.WritingLaws.{columns_put}
use Rattle.isp_catalog.proofs.spelling.put_columns.Goals as goal

pub loop-k-preserved : goal.loop-k-preserved
loop-k-preserved c =
    let all = columns_put (image_of c.args.p.now.bytes) (image_of c.loop-k.p.bytes) (image_of c.put_column.new.p.bytes) c.args.at c.loop-k.k c.args.columns.now c.index-columns-k.result c.loop-k-test.true c.index-columns-k.is c.requires.names (λ i place. c.loop-k.invariant.0 place i) (λ i place. c.put_column.ensures.put place i) in
    ((λ place i. all i place), c.put_column.ensures.size ∙ c.loop-k.invariant.1)
