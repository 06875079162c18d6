use Rattle.isp_disk.specs.Moments.{image_of}
use Rattle.isp_format.specs.Space.{FitsSpace}
use Rattle.isp_format.specs.SpaceValues.{page_in}
use Rattle.isp_format.proofs.SpaceLaws.{put_all, put_says}
use Rattle.isp_format.proofs.space_fields.set_space_numbers.Goals as goal

pub returns-clause-bytes : goal.returns-clause-bytes
returns-clause-bytes c =
    let all = put_all (image_of c.args.p.now.bytes) (image_of c.put_u32.new.p.bytes) (image_of c.put_u32-2.new.p.bytes) (image_of c.put_u32-3.new.p.bytes) (image_of c.put_u32-4.new.p.bytes) (image_of c.put_u64.new.p.bytes) (image_of c.put_u64-2.new.p.bytes) (page_in c.args.f.now)
    (λ i place. c.put_u32.ensures.put place i) (λ i place. c.put_u32-2.ensures.put place i) (λ i place. c.put_u32-3.ensures.put place i) (λ i place. c.put_u32-4.ensures.put place i) (λ i place. c.put_u64.ensures.put place i) (λ i place. c.put_u64-2.ensures.put place i) in
    λ place i. all i place

pub returns-clause-says : goal.returns-clause-says
returns-clause-says c = λ was says.
    let all = put_all (image_of c.args.p.now.bytes) (image_of c.put_u32.new.p.bytes) (image_of c.put_u32-2.new.p.bytes) (image_of c.put_u32-3.new.p.bytes) (image_of c.put_u32-4.new.p.bytes) (image_of c.put_u64.new.p.bytes) (image_of c.put_u64-2.new.p.bytes) (page_in c.args.f.now)
    (λ i place. c.put_u32.ensures.put place i) (λ i place. c.put_u32-2.ensures.put place i) (λ i place. c.put_u32-3.ensures.put place i) (λ i place. c.put_u32-4.ensures.put place i) (λ i place. c.put_u64.ensures.put place i) (λ i place. c.put_u64-2.ensures.put place i) in
    let fits : FitsSpace (page_in c.args.f.now) = record { free_head = c.put_u32.ensures.fits; free_count = c.put_u32-2.ensures.fits; fresh = c.put_u32-3.ensures.fits; tables = c.put_u32-4.ensures.fits; entries = c.put_u64.ensures.fits; bytes = c.put_u64-2.ensures.fits } in
    put_says c.args.p.now.bytes c.put_u64-2.new.p.bytes was (page_in c.args.f.now) says fits (λ place i. all i place)
