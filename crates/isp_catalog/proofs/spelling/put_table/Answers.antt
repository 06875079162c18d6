use Rattle.std.proofs.Common.{ℕ, List, ◌+◌, length, ◌∙◌, ap, arith}
use Rattle.std.specs.List.{flat_map}
use Rattle.isp_disk.specs.Moments.{image_of, put}
use Rattle.isp_plain.specs.declared.value.Column.{Column}
use Rattle.isp_catalog.specs.Writing.{column_field, name_field, roots_field}
use Rattle.isp_catalog.proofs.WritingLaws.{byte_is, four_put, name_long}
use Rattle.isp_catalog.proofs.spelling.put_table.Goals as goal

pub returns-clause-put : goal.returns-clause-put
returns-clause-put c =
    let t = c.args.t.now in
    let at = c.args.at in
    let long = name_long t.name c.requires.name.most in
    let few = c.requires.columns in
    let all = four_put (image_of c.args.p.now.bytes) (image_of c.put_name.new.p.bytes) (image_of c.put_byte.new.p.bytes) (image_of c.put_roots.new.p.bytes) (image_of c.put_columns.new.p.bytes) at (at + 33) (at + 34) (at + 46) (length t.schema.columns) (name_field t.name) (roots_field t) (flat_map column_field t.schema.columns)
    (omega (arith, long)) (omega arith) (omega arith)
    ((λ i place. c.put_name.ensures.put place i) ∙ ap (λ (n : List ℕ). put (image_of c.args.p.now.bytes) at (name_field n)) c.as_slice.ensures)
    (byte_is (image_of c.put_name.new.p.bytes) (image_of c.put_byte.new.p.bytes) (at + 33) _ (length t.schema.columns) (let e = c.len.ensures in omega (arith, e, few)) (λ i place. c.put_byte.ensures.put place i))
    (λ i place. c.put_roots.ensures.put place i)
    ((λ i place. c.put_columns.ensures.put place i) ∙ ap (λ (cs : List Column). put (image_of c.put_roots.new.p.bytes) (at + 46) (flat_map column_field cs)) c.as_slice-2.ensures) in
    λ place i. all i place
