use Rattle.std.proofs.Common.{rules, refl, ◌∙◌, ap}
use Rattle.isp_page.specs.State.{FileShape}
use Rattle.isp_tables.proofs.RootLaws.{are_within}
use Rattle.isp_trx.specs.Transactions.{TrxState}
use Rattle.isp_connection.specs.Connections.{state_of}
use Rattle.isp_chained.specs.Chained.{no_chains}
use Rattle.isp_connection.proofs.SweepLaws.{can_sweep, ended_keys, swept_tidy}
use Rattle.isp_connection.proofs.connection.Connection.sweep.Goals as goal

pub drop_marked_rows-requires-clause-roots : goal.drop_marked_rows-requires-clause-roots
drop_marked_rows-requires-clause-roots g c =
    let old = c.args.self.now.context in
    are_within (g.P.Pages.shape old.pages).pages c.roots.result.now old.tables c.roots.ensures c.requires.serves.inside

pub returns-in_err-drop_marked_rows-clause-sound : goal.returns-in_err-drop_marked_rows-clause-sound
returns-in_err-drop_marked_rows-clause-sound g c tells d state h =
    let old = c.args.self.now in
    let same = ended_keys old.context.trx c.replace-ended.result c.end.result.items c.rising-keys.result.items c.as_slice.result.now c.replace-ended.ensures.value c.end.ensures c.rising-keys.ensures.all c.as_slice.ensures.value in
    let can = can_sweep g.P.Pages old.context.pages old.context.pages (state_of old) (state_of old) state d c.roots.result.now c.as_slice.result.now h c.if-self.false c.roots.ensures same in
    let sound = c.in_err-drop_marked_rows.ensures.sound tells no_chains d can in
    search (rules, sound, c.from_residual.ensures)

pub returns-clause-swept : goal.returns-clause-swept
returns-clause-swept g c tells d state h =
    let old = c.args.self.now in
    let same = ended_keys old.context.trx c.replace-ended.result c.end.result.items c.rising-keys.result.items c.as_slice.result.now c.replace-ended.ensures.value c.end.ensures c.rising-keys.ensures.all c.as_slice.ensures.value in
    let fresh = c.replace-ended.new.dest in
    let after = c.replace-ended.ensures.after in
    let e = c.in_ok-drop_marked_rows.ensures in
    swept_tidy g.P.Pages old.context.pages c.drop_marked_rows.new.pages (state_of old) (record { inside = old.inside; defs = old.context.tables; trx = fresh }) state d c.roots.result.now c.as_slice.result.now h c.if-self.false c.roots.ensures same
    (e.swept tells) (ap (λ (s : FileShape). s.pages) e.made.keeps.same_shape) refl refl
    (record { session_is = ap (λ (trx : TrxState). trx.session) after ∙ c.begin-fresh.ensures.session_is ∙ c.session.ensures.is; count = ap (λ (trx : TrxState). trx.count) after ∙ c.begin-fresh.ensures.count; keys = ap (λ (trx : TrxState). trx.keys) after ∙ c.begin-fresh.ensures.keys })
