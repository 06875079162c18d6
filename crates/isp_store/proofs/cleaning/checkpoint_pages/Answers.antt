use Rattle.isp_store.proofs.Cleaned.{alike_by, idle_of, stays_settled}
use Rattle.isp_store.proofs.cleaning.checkpoint_pages.Goals as goal

pub checkpoint-requires : goal.checkpoint-requires
checkpoint-requires g c = idle_of g.W.World c.args.cache.now c.requires

pub returns-clause-kept : goal.returns-clause-kept
returns-clause-kept g c = stays_settled g.W.World c.args.cache.now c.checkpoint.new.self _ c.requires c.checkpoint.ensures.file c.checkpoint.ensures.stops c.checkpoint.ensures.checkpoint c.checkpoint.ensures.cleaned

pub returns-clause-alike : goal.returns-clause-alike
returns-clause-alike g c = λ tells. alike_by g.W.World c.args.cache.now c.checkpoint.new.self _ c.requires c.checkpoint.ensures.checkpoint tells (c.checkpoint.ensures.contents tells)
