use Rattle.std.proofs.Common.{rules, ℕ, List, sym, ◌∙◌, ap, subst}
use Rattle.isp_format.specs.Leaf.{IsLeafPage}
use Rattle.isp_clustered.specs.Leaves.{kept_rows_of, link_of}
use Rattle.isp_cells.proofs.CellLaws.{none_some, leaf_stands_to}
use Rattle.isp_clustered.proofs.WholeLaws.{rows_same}
use Rattle.isp_clustered.proofs.leaves.whole_leaf.Goals as goal

pub returns-in_err-used-clause-sound : goal.returns-in_err-used-clause-sound
returns-in_err-used-clause-sound g c tells table next rows leaf =
    let sound = c.in_err-used.ensures.sound tells table next rows leaf in
    search (rules, sound, c.from_residual.ensures)

pub returns-in-Some-clause-leaf : goal.returns-in-Some-clause-leaf
returns-in-Some-clause-leaf g c tells table next rows leaf =
    let u = c.in_ok-used.ensures in
    let own = c.args.page.0 in
    let read : IsLeafPage c.read_leaf.new.into.bytes table own next rows = subst (λ (bytes : List ℕ). IsLeafPage bytes table own next rows) (sym (u.page tells)) leaf in
    let stand = leaf_stands_to _ table own next _ rows read (u.stand table next rows read) in
    record {
      rows_are = rows_same _ _ c.in_ok-rows.rows c.in-Some.is (c.in_ok-rows.ensures rows stand);
      next_is = c.right_link-next.ensures ∙ ap link_of read.next_is;
    }

pub returns-in-None-clause-sound : goal.returns-in-None-clause-sound
returns-in-None-clause-sound g c tells table next rows leaf =
    let u = c.in_ok-used.ensures in
    let own = c.args.page.0 in
    let read : IsLeafPage c.read_leaf.new.into.bytes table own next rows = subst (λ (bytes : List ℕ). IsLeafPage bytes table own next rows) (sym (u.page tells)) leaf in
    let stand = leaf_stands_to _ table own next _ rows read (u.stand table next rows read) in
    absurd (none_some (kept_rows_of rows) c.in_ok-rows.rows c.in-None.is (c.in_ok-rows.ensures rows stand))
