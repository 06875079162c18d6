use Rattle.std.proofs.Common.{rules, List, ℕ, sym, ap, subst}
use Rattle.isp_chained.specs.Chained.{alone}
use Rattle.isp_creating.specs.Creating.{CanCreate}
use Rattle.isp_page.specs.State.{FileShape}
use Rattle.isp_tables.proofs.CreateLaws.{can_create, did_create}
use Rattle.isp_tables.proofs.creating.make_table.Goals as goal

pub returns-in_err-_root-clause-sound : goal.returns-in_err-_root-clause-sound
returns-in_err-_root-clause-sound g c tells trx d opened room =
    let old = c.args.pages.now in
    let can = subst (λ (n : List ℕ). CanCreate (g.P.Pages.shape old).pages (g.P.Pages.contents old) (alone trx.session opened.chain) c.next_number.result n d) (sym c.in_ok-name.ensures)
    (can_create g.P.Pages old c.args.tables.now trx d c.args.name.now c.args.schema.now c.next_number.result opened c.requires.new c.next_number.ensures room) in
    let sound = c.in_err-_root.ensures.sound tells (alone trx.session opened.chain) d can in
    search (rules, sound, c.from_residual-in_err-_root.ensures)

pub returns-clause-created : goal.returns-clause-created
returns-clause-created g c tells trx d opened room =
    let old = c.args.pages.now in
    let can = subst (λ (n : List ℕ). CanCreate (g.P.Pages.shape old).pages (g.P.Pages.contents old) (alone trx.session opened.chain) c.next_number.result n d) (sym c.in_ok-name.ensures)
    (can_create g.P.Pages old c.args.tables.now trx d c.args.name.now c.args.schema.now c.next_number.result opened c.requires.new c.next_number.ensures room) in
    did_create g.P.Pages old c.make.new.pages c.args.tables.now c.make.new.self trx d c.args.name.now c.args.schema.now _ opened
    (ap (λ (s : FileShape). s.pages) c.in_ok-_root.ensures.kept.same_shape)
    room
    c.in_ok-name.ensures
    c.in_ok-schema.ensures
    c.in_ok-_root.ensures.added
    (c.in_ok-_root.ensures.created tells (alone trx.session opened.chain) d can)
