use Rattle.std.proofs.Common.{rules, ℕ, map, ap, subst}
use Rattle.isp_page.specs.State.{FileShape}
use Rattle.isp_undo.specs.Chains.{ends_of}
use Rattle.isp_trx.specs.Noting.{WritesTree, write_at}
use Rattle.isp_trx.proofs.WriteLaws.{can_push, parts_write, tree_sound}
use Rattle.isp_trx.proofs.writing.begin_write.Goals as goal

pub returns-clause-written : goal.returns-clause-written
returns-clause-written g c tells =
    let w = write_at c.args.at c.args.root.0 c.args.old.now c.args.row.now c.args.marked in
    let shape = ap (λ (shape : FileShape). shape.pages) c.in_ok-push_old.ensures.kept.keeps.same_shape in
    let written = subst (λ (n : ℕ). WritesTree n (g.P.Pages.contents c.push_old.new.pages) w (g.P.Pages.contents c.write_tree.new.pages)) shape (c.in_ok-write_tree.ensures.written tells) in
    parts_write _ _ _ _ c.args.slot w (c.in_ok-push_old.ensures.pushed tells) written

pub returns-in_err-push_old-clause-sound : goal.returns-in_err-push_old-clause-sound
returns-in_err-push_old-clause-sound g c tells chains chain d t r can =
    let w = write_at c.args.at c.args.root.0 c.args.old.now c.args.row.now c.args.marked in
    let sound = c.in_err-push_old.ensures.sound tells (map ends_of chains) chain d.space (can_push _ _ chains c.args.slot chain w d t r can) in
    search (rules, sound, c.from_residual.ensures)

pub returns-in_err-write_tree-clause-sound : goal.returns-in_err-write_tree-clause-sound
returns-in_err-write_tree-clause-sound g c tells chains chain d t r can =
    let w = write_at c.args.at c.args.root.0 c.args.old.now c.args.row.now c.args.marked in
    let shape = ap (λ (shape : FileShape). shape.pages) c.in_ok-push_old.ensures.kept.keeps.same_shape in
    let sound = tree_sound _ _ _ _ chains c.args.slot chain w d t r _ shape can (c.in_ok-push_old.ensures.pushed tells) (c.in_err-write_tree.ensures.sound tells) in
    search (rules, sound, c.from_residual-in_err-write_tree.ensures)
