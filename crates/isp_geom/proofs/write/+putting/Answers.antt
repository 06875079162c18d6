use Rattle.std.proofs.Common.{rules, append_assoc}
use Rattle.isp_geom.proofs.Spellings.{spelling-members}
use Rattle.isp_geom.proofs.write.+putting.Goals as goal

pub put_form-returns-in_ok-put_members-in-Collection : goal.put_form-returns-in_ok-put_members-in-Collection
put_form-returns-in_ok-put_members-in-Collection t c = search (rules, append_assoc, spelling-members)
