use Rattle.std.proofs.Common.{ℕ, List, [], ◌∷◌, ◌+◌, ◌∙◌, ap, arith}
use Rattle.isp_disk.specs.Moments.{image_of, put}
use Rattle.isp_format.specs.Definition.{flag_byte}
use Rattle.isp_format.specs.Numbers.{bytes_of}
use Rattle.isp_catalog.specs.Writing.{kind_byte, kind_size, name_field}
use Rattle.isp_catalog.proofs.WritingLaws.{four_put, name_long}
use Rattle.isp_catalog.proofs.spelling.put_column.Goals as goal

pub returns-clause-put : goal.returns-clause-put
returns-clause-put c =
    let column = c.args.column.now in
    let at = c.args.at in
    let long = name_long column.name c.requires.name.most in
    let all = four_put (image_of c.args.p.now.bytes) (image_of c.put_name.new.p.bytes) (image_of c.put_byte.new.p.bytes) (image_of c.put_u16.new.p.bytes) (image_of c.put_byte-2.new.p.bytes) at (at + 33) (at + 34) (at + 36) (kind_byte column.kind) (name_field column.name) (bytes_of 2 (kind_size column.kind)) (flag_byte column.indexed ∷ [])
    (omega (arith, long)) (omega arith) (omega arith)
    ((λ i place. c.put_name.ensures.put place i) ∙ ap (λ (n : List ℕ). put (image_of c.args.p.now.bytes) at (name_field n)) c.as_slice.ensures)
    ((λ i place. c.put_byte.ensures.put place i) ∙ ap (λ (b : ℕ). put (image_of c.put_name.new.p.bytes) (at + 33) (b ∷ [])) c.kind_byte.ensures)
    ((λ i place. c.put_u16.ensures.put place i) ∙ ap (λ (n : ℕ). put (image_of c.put_byte.new.p.bytes) (at + 34) (bytes_of 2 n)) c.kind_size.ensures)
    ((λ i place. c.put_byte-2.ensures.put place i) ∙ ap (λ (b : ℕ). put (image_of c.put_u16.new.p.bytes) (at + 36) (b ∷ [])) c.flag_byte.ensures) in
    λ place i. all i place
