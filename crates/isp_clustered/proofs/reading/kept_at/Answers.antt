use Rattle.isp_disk.specs.Moments.{image_of}
use Rattle.isp_clustered.proofs.KeptLaws.{kept_none, kept_there}
use Rattle.isp_clustered.proofs.reading.kept_at.Goals as goal

pub returns-in_ok-kept-in-Some : goal.returns-in_ok-kept-in-Some
returns-in_ok-kept-in-Some c key rows st is = kept_there (image_of c.args.p.now.bytes) c.args.used key rows c.args.place c.in-Some.cell c.in_ok-kept-in-Some.kept st is c.in-Some.is c.in_ok-kept-in-Some.ensures

pub returns-in-None : goal.returns-in-None
returns-in-None c key rows st is = kept_none key rows c.args.place is c.in-None.is
