use Rattle.isp_ways.proofs.SoundLaws.{ways_are_sound}
use Rattle.isp_ways.proofs.ways.law_ways_are_sound.Goals as goal

pub returns : goal.returns
returns c = ways_are_sound
