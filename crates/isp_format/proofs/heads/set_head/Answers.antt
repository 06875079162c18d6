use Rattle.isp_disk.specs.Moments.{image_of}
use Rattle.isp_format.proofs.Headers.{HeaderFits, header_back}
use Rattle.isp_format.specs.HeadValues.{header_in}
use Rattle.isp_format.proofs.Heading.{put_fields}
use Rattle.isp_format.proofs.heads.set_head.Goals as goal

pub returns-clause-bytes : goal.returns-clause-bytes
returns-clause-bytes c =
    let all = put_fields (image_of c.args.p.now.bytes) (image_of c.put_kind.new.p.bytes) (image_of c.put_u16.new.p.bytes) (image_of c.put_u32.new.p.bytes) (image_of c.put_u32-2.new.p.bytes) (image_of c.put_u32-3.new.p.bytes) (image_of c.put_u64.new.p.bytes) (image_of c.put_u32-4.new.p.bytes) (image_of c.put_u32-5.new.p.bytes) (header_in c.args.h.now)
    (λ i place. c.put_kind.ensures.put place i) (λ i place. c.put_u16.ensures.put place i) (λ i place. c.put_u32.ensures.put place i) (λ i place. c.put_u32-2.ensures.put place i) (λ i place. c.put_u32-3.ensures.put place i) (λ i place. c.put_u64.ensures.put place i) (λ i place. c.put_u32-4.ensures.put place i) (λ i place. c.put_u32-5.ensures.put place i) in
    λ place i. all i place

pub returns-clause-head : goal.returns-clause-head
returns-clause-head c =
    let all = put_fields (image_of c.args.p.now.bytes) (image_of c.put_kind.new.p.bytes) (image_of c.put_u16.new.p.bytes) (image_of c.put_u32.new.p.bytes) (image_of c.put_u32-2.new.p.bytes) (image_of c.put_u32-3.new.p.bytes) (image_of c.put_u64.new.p.bytes) (image_of c.put_u32-4.new.p.bytes) (image_of c.put_u32-5.new.p.bytes) (header_in c.args.h.now)
    (λ i place. c.put_kind.ensures.put place i) (λ i place. c.put_u16.ensures.put place i) (λ i place. c.put_u32.ensures.put place i) (λ i place. c.put_u32-2.ensures.put place i) (λ i place. c.put_u32-3.ensures.put place i) (λ i place. c.put_u64.ensures.put place i) (λ i place. c.put_u32-4.ensures.put place i) (λ i place. c.put_u32-5.ensures.put place i) in
    let fits : HeaderFits (header_in c.args.h.now) = record { kind = c.put_kind.ensures.fits.0; level = c.put_kind.ensures.fits.1; count = c.put_u16.ensures.fits; owner = c.put_u32.ensures.fits; next = c.put_u32-2.ensures.fits; prev = c.put_u32-3.ensures.fits; ssn = c.put_u64.ensures.fits; own = c.put_u32-4.ensures.fits; used = c.put_u32-5.ensures.fits } in
    header_back c.put_u32-5.new.p.bytes (image_of c.args.p.now.bytes) (header_in c.args.h.now) fits all
