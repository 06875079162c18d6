use Rattle.isp_rnode.specs.Nodes.{free_bytes}
use Rattle.isp_rnode.proofs.PutLaws.{child_put, child_back}
use Rattle.isp_rnode.proofs.writing.put_child.Goals as goal

pub returns-clause-put : goal.returns-clause-put
returns-clause-put c = child_put c.args.p.now.bytes c.put_u32.new.p.bytes c.put_bytes.new.p.bytes c.args.at c.args.page.0 c.put_u32.ensures.put c.put_bytes.ensures.put

pub returns-clause-back : goal.returns-clause-back
returns-clause-back c = λ level. child_back c.args.p.now.bytes c.put_u32.new.p.bytes c.put_bytes.new.p.bytes c.args.at c.args.page.0 free_bytes level c.put_u32.ensures.put c.put_bytes.ensures.put c.put_u32.ensures.fits
