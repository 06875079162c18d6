use Rattle.std.proofs.Common.{false, ◌≡◌, ◌+◌, ◌≤◌, ℕ, List, length, map, refl, sym, ◌∙◌, ap, subst}
use Rattle.isp_mini.specs.Extents.{page_number}
use Rattle.isp_mini.specs.declared.changes.Extent.{Extent}
use Rattle.isp_mini.proofs.ExtentLaws.{length_with, pages_with}
use Rattle.isp_page.specs.State.{HasRoom, most_changed, with_change, with_page}
use Rattle.isp_store.specs.Inside.{seen}
use Rattle.isp_store.specs.State.{StoreState, mini}
use Rattle.isp_store.specs.declared.store.Store.TheInside.{Inside}
use Rattle.isp_store.proofs.Fields.{continues_whole, fails_whole, room_with, running_here}
use Rattle.isp_store.proofs.store.Store.change_page.Goals as goal

pub change_page-requires-clause-most : goal.change_page-requires-clause-most
change_page-requires-clause-most g c =
    let w = g.W.World in
    let s = c.self.inside in
    let running = running_here w s c.args.self.now c.self.view_is c.requires.usable c.self.invariant in
    let room : HasRoom c.args.p.0 (mini w (seen s)) = subst (λ (state : StoreState g.row.W.Denot). HasRoom c.args.p.0 (mini w state)) (sym c.self.view_is) c.requires.room in
    subst (λ (n : ℕ). n ≤ most_changed) (sym (length_with c.args.p c.args.at (c.args.at + length c.args.bytes.now) s.changes)) (room_with c.args.p.0 s.changes room running.frames.extents.few)

pub returns-in-Ok-clause-kept : goal.returns-in-Ok-clause-kept
returns-in-Ok-clause-kept g c =
    let s = c.self.inside in
    let new : Inside g.row.W.Denot = record s { cache = c.change_page.new.cache; changes = c.change_page.new.changes } in
    continues_whole g.W.World s c.args.self.now c.self.view_is c.requires.usable new new.changes _ _ g.met.W.World.counts_now refl c.in-Ok.ensures.kept

pub returns-in-Err-clause-kept : goal.returns-in-Err-clause-kept
returns-in-Err-clause-kept g c =
    let s = c.self.inside in
    let new : Inside g.row.W.Denot = record s { cache = c.change_page.new.cache; changes = c.change_page.new.changes; is_usable = false } in
    fails_whole g.W.World s c.args.self.now c.self.view_is c.requires.usable new _ new.changes _ g.met.W.World.counts_now c.in-Err.ensures.kept

pub returns-in-Ok-clause-mini : goal.returns-in-Ok-clause-mini
returns-in-Ok-clause-mini g c =
    let w = g.W.World in
    let s = c.self.inside in
    let new : StoreState g.row.W.Denot = seen (record s { cache = c.change_page.new.cache; changes = c.change_page.new.changes }) in
    let pages : map page_number c.change_page.new.changes ≡ with_page c.args.p.0 (map page_number s.changes) =
    ap (λ (es : List Extent). map page_number es) c.in-Ok.ensures.changes ∙ pages_with c.args.p c.args.at (c.args.at + length c.args.bytes.now) s.changes in
    subst (λ (state : StoreState g.row.W.Denot). mini w new ≡ with_change c.args.p.0 (mini w state)) c.self.view_is
    (λ i. record { is_begun = s.is_begun; changed = pages i })
