use Rattle.std.proofs.Common.{rules, ◌<◌, ◌∷◌, List, [], sym, subst}
use Rattle.isp_page.proofs.GrowthLaws.{among_self}
use Rattle.isp_page.specs.State.{FileShape}
use Rattle.isp_rsettle.specs.declared.outcome.Settled.{Settled}
use Rattle.isp_rinsert.specs.Applying.{written_numbers}
use Rattle.isp_rinsert.proofs.ChangeLaws.{changes_among, has_room}
use Rattle.isp_rinsert.proofs.TakeLaws.{one_more}
use Rattle.isp_rinsert.proofs.WriteLaws.{has_page, item_of, written_next}
use Rattle.isp_rinsert.proofs.writing.write_all.Goals as goal

pub write_page-requires-clause-room : goal.write_page-requires-clause-room
write_page-requires-clause-room g c =
    let list : List Settled = c.args.writes.now in
    let w : Settled = c.w-item.result in
    has_room (written_numbers list) (g.P.Pages.mini c.args.pages.now) (g.P.Pages.mini c.loop-w.pages) w.page.0 c.loop-w.invariant.changes.grows c.requires.can.room (has_page list w (item_of list c.loop-w.w-index w c.w-item.is c.loop-w-test.true))

pub write_page-requires-clause-inside : goal.write_page-requires-clause-inside
write_page-requires-clause-inside g c =
    let list : List Settled = c.args.writes.now in
    let w : Settled = c.w-item.result in
    subst (λ (s : FileShape). w.page.0 < s.pages) (sym c.loop-w.invariant.kept.keeps.same_shape) (c.requires.inside w (item_of list c.loop-w.w-index w c.w-item.is c.loop-w-test.true))

pub returns-in_err-write_page-clause-sound : goal.returns-in_err-write_page-clause-sound
returns-in_err-write_page-clause-sound g c fits =
    let list : List Settled = c.args.writes.now in
    let w : Settled = c.w-item.result in
    let sound = c.in_err-write_page.ensures.sound (fits w (item_of list c.loop-w.w-index w c.w-item.is c.loop-w-test.true)) in
    search (rules, sound, c.from_residual.ensures)

pub loop-w-preserved : goal.loop-w-preserved
loop-w-preserved g c =
    let list : List Settled = c.args.writes.now in
    let w : Settled = c.w-item.result in
    let e = c.in_ok-write_page.ensures in
    let inv = c.loop-w.invariant in
    record {
      kept = one_more g.P.Pages c.args.pages.now c.loop-w.pages c.write_page.new.pages _ inv.kept e.writes.kept;
      changes = changes_among g.P.Pages (written_numbers list) (w.page.0 ∷ []) (written_numbers list) c.args.pages.now c.loop-w.pages c.write_page.new.pages inv.changes e.writes.changes (among_self (written_numbers list)) (has_page list w (item_of list c.loop-w.w-index w c.w-item.is c.loop-w-test.true), tt);
      written = λ tells once. written_next c.args.owner (g.P.Pages.contents c.loop-w.pages) (g.P.Pages.contents c.write_page.new.pages) list c.loop-w.w-index w c.w-item.is c.loop-w-test.true once (e.writes.changes.others tells) (e.written tells) (inv.written tells once);
    }
