use Rattle.std.proofs.Common.{[]}
use Rattle.isp_store.proofs.Cleaned.{contents_kept, idle_of, stays_cleaned}
use Rattle.isp_store.proofs.cleaning.clean_pages.Goals as goal

pub clean_some-requires : goal.clean_some-requires
clean_some-requires g c = idle_of g.W.World c.args.cache.now c.requires

pub returns-clause-kept : goal.returns-clause-kept
returns-clause-kept g c = stays_cleaned g.W.World c.args.cache.now c.clean_some.new.self _ c.requires c.clean_some.ensures.kept c.clean_some.ensures.cleaned

pub returns-clause-contents : goal.returns-clause-contents
returns-clause-contents g c = contents_kept g.W.World c.args.cache.now c.clean_some.new.self [] _ c.requires c.clean_some.ensures.kept
