use Rattle.std.proofs.Common.{rules, ◌≡◌, subst}
use Rattle.std.specs.Prelude.{FitsSigned}
use Rattle.std.specs.Int.{w32}
use Rattle.std.proofs.lemmas.Int.{to_z-of_z}
use Rattle.isp_rnode.proofs.PutLaws.{IsPut, box_put, box_back}
use Rattle.isp_rnode.specs.Nodes.{box_bytes, box_in}
use Rattle.isp_mbr.specs.Corners.{Corners}
use Rattle.isp_rnode.proofs.writing.put_box.Goals as goal

pub returns-clause-put : goal.returns-clause-put
returns-clause-put c =
    let b : Corners = record { x1 = c.b.inside.x1; y1 = c.b.inside.y1; x2 = c.b.inside.x2; y2 = c.b.inside.y2 } in
    let x1 : FitsSigned w32 b.x1 = search rules in
    let y1 : FitsSigned w32 b.y1 = search rules in
    let x2 : FitsSigned w32 b.x2 = search rules in
    let y2 : FitsSigned w32 b.y2 = search rules in
    subst (λ (x : Corners). IsPut c.args.p.now.bytes c.put_i32-4.new.p.bytes c.args.at (box_bytes x)) c.b.view_is (box_put c.args.p.now.bytes c.put_i32.new.p.bytes c.put_i32-2.new.p.bytes c.put_i32-3.new.p.bytes c.put_i32-4.new.p.bytes c.args.at b _ _ _ _ (to_z-of_z w32 b.x1 x1) (to_z-of_z w32 b.y1 y1) (to_z-of_z w32 b.x2 x2) (to_z-of_z w32 b.y2 y2)
    c.put_i32.ensures.put c.put_i32-2.ensures.put c.put_i32-3.ensures.put c.put_i32-4.ensures.put)

pub returns-clause-back : goal.returns-clause-back
returns-clause-back c =
    let b : Corners = record { x1 = c.b.inside.x1; y1 = c.b.inside.y1; x2 = c.b.inside.x2; y2 = c.b.inside.y2 } in
    let x1 : FitsSigned w32 b.x1 = search rules in
    let y1 : FitsSigned w32 b.y1 = search rules in
    let x2 : FitsSigned w32 b.x2 = search rules in
    let y2 : FitsSigned w32 b.y2 = search rules in
    subst (λ (x : Corners). box_in c.put_i32-4.new.p.bytes c.args.at ≡ x) c.b.view_is (box_back c.put_i32.new.p.bytes c.put_i32-2.new.p.bytes c.put_i32-3.new.p.bytes c.put_i32-4.new.p.bytes c.args.at b _ _ _ _ (to_z-of_z w32 b.x1 x1) (to_z-of_z w32 b.y1 y1) (to_z-of_z w32 b.x2 x2) (to_z-of_z w32 b.y2 y2)
    c.put_i32-2.ensures.put c.put_i32-3.ensures.put c.put_i32-4.ensures.put c.put_i32.ensures.back c.put_i32-2.ensures.back c.put_i32-3.ensures.back c.put_i32-4.ensures.back)
