use Rattle.std.proofs.Common.{rules, Option, sym, ◌∙◌, ap, subst}
use Rattle.isp_base.specs.declared.page_no.PageNo.{PageNo}
use Rattle.isp_levels.specs.Inners.{number_of}
use Rattle.isp_work.specs.Finding.{found_in}
use Rattle.isp_scan.specs.Leaves.{IsNext}
use Rattle.isp_scan.proofs.LeafLaws.{goes_on, leaf_kept, next_leaf_is}
use Rattle.isp_scan.proofs.TakenLaws.{tree_of}
use Rattle.isp_scan.proofs.leaves.read_leaf.Goals as goal

pub returns-in_err-leaf-clause-sound : goal.returns-in_err-leaf-clause-sound
returns-in_err-leaf-clause-sound g c tells t piece left has behind =
    let n = next_leaf_is g.P.Pages c.args.pages.now c.args.def.now t (number_of c.args.after) piece left has behind in
    let sound = c.in_err-leaf.ensures.sound tells c.args.def.now.number t.tree n.leaf (tree_of g.P.Pages c.args.pages.now c.args.def.now t has) n.there in
    search (rules, sound, c.from_residual.ensures)

pub returns-in-Err-NotRow-clause-sound : goal.returns-in-Err-NotRow-clause-sound
returns-in-Err-NotRow-clause-sound g c tells t piece left has behind =
    let n = next_leaf_is g.P.Pages c.args.pages.now c.args.def.now t (number_of c.args.after) piece left has behind in
    let is = c.in_ok-leaf.ensures.leaf tells c.args.def.now.number t.tree n.leaf (tree_of g.P.Pages c.args.pages.now c.args.def.now t has) n.there in
    let kept = leaf_kept c.args.def.now.schema t.tree n.leaf n.here c.in_ok-leaf.leaf _ n.stored n.spell is c.as_slice.ensures in
    let bad = c.in-Err-NotRow.ensures.sound n.here kept in
    cc

pub returns-in-Ok-clause-found : goal.returns-in-Ok-clause-found
returns-in-Ok-clause-found g c tells t piece left has behind =
    let n = next_leaf_is g.P.Pages c.args.pages.now c.args.def.now t (number_of c.args.after) piece left has behind in
    let is = c.in_ok-leaf.ensures.leaf tells c.args.def.now.number t.tree n.leaf (tree_of g.P.Pages c.args.pages.now c.args.def.now t has) n.there in
    let kept = leaf_kept c.args.def.now.schema t.tree n.leaf n.here c.in_ok-leaf.leaf _ n.stored n.spell is c.as_slice.ensures in
    record {
      found = c.in-Ok.ensures.found n.here kept ∙ ap (found_in c.args.def.now.schema c.args.statement.now) n.piece_is;
      next = subst (λ (next : Option PageNo). IsNext t next left) (sym c.going_on-next.ensures) (goes_on t n.leaf left c.in_ok-leaf.leaf.next c.in_ok-leaf.leaf.page is.page is.next n.left_is);
    }
