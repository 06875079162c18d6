use Rattle.std.proofs.Common.{◌∙◌, ap, length}
use Rattle.isp_disk.specs.InMemory.{WorldState, held_now}
use Rattle.isp_disk.specs.Moments.{slice}
use Rattle.isp_disk.proofs.Images.{slice_of}
use Rattle.isp_disk.proofs.mem_world.MemWorld.image.Goals as goal

pub returns : goal.returns
returns c =
    let replayed = c.self.invariant.0 in
    c.deref.ensures.value
    ∙ slice_of c.self.inside.image.items _ (length c.self.inside.first.items) replayed.size replayed.bytes
    ∙ ap (λ (w : WorldState). slice (held_now w).image 0 (length w.first)) c.self.view_is
