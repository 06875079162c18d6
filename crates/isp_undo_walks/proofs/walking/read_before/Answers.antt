use Rattle.isp_undo_walks.proofs.walking.read_before.Goals as goal

pub returns-then-head-next-clause-used : goal.returns-then-head-next-clause-used
returns-then-head-next-clause-used g c tells before images stands = c.in_ok-used.ensures.used tells before c.args.next.0 images stands
