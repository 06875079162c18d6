use Rattle.std.proofs.Common.{rules, inl, ◌≡◌, ℕ, FitsSigned, List, [], ◌∷◌, length, refl, reverse, ◌∙◌, ap, subst, arith, w64}
use Rattle.std.proofs.lemmas.Int.{to_z-of_z}
use Rattle.std.proofs.lemmas.Result.{err_from_is_err_and}
use Rattle.isp_base.specs.declared.page_no.PageNo.{PageNo}
use Rattle.isp_growing.proofs.MiniLaws.{err_is}
use Rattle.isp_page.specs.State.{FileShape}
use Rattle.isp_page.specs.Steps.{IsNoDamage}
use Rattle.isp_page.specs.Touched.{AreAmong}
use Rattle.isp_space.specs.Changes.{ChangesOf}
use Rattle.isp_rplan.specs.Divisions.{pages_needed}
use Rattle.isp_rplan.specs.declared.steps.Planned.{Planned}
use Rattle.isp_rsettle.proofs.SettleLaws.{settles}
use Rattle.isp_rsettle.specs.Placed.{settled_pages}
use Rattle.isp_rsettle.specs.Settling.{nodes_of, parts, raised}
use Rattle.isp_rsettle.specs.declared.outcome.Settled.{Settled}
use Rattle.isp_rtree.specs.Calls.{NamesTree}
use Rattle.isp_rinsert.specs.Applying.{AreWritten, numbers_of, written_numbers}
use Rattle.isp_rinsert.specs.Calls.{NamesInsert}
use Rattle.isp_rinsert.specs.Inserting.{drawn}
use Rattle.isp_rinsert.proofs.ApplyLaws.{began, fails_behind, few_needed, free_left, needed_is, nodes_are, nodes_settled, took_of}
use Rattle.isp_rinsert.proofs.ChangeLaws.{draws_of, room_left, taken_within, written_within}
use Rattle.isp_rinsert.proofs.InsertLaws.{Took, fits_of, inserted, steps_of, written_once}
use Rattle.isp_rinsert.proofs.SettledLaws.{inside_any, taken_among, written_few}
use Rattle.isp_rinsert.proofs.TakeLaws.{one_more}
use Rattle.isp_rinsert.proofs.inserting.apply.Goals as goal

pub take_pages-requires-clause-few : goal.take_pages-requires-clause-few
take_pages-requires-clause-few g c =
    few_needed c.args.work.steps.items c.pages_needed-count.result (needed_is c.as_slice.result.now c.args.work.steps.items c.pages_needed-count.result c.pages_needed-count.ensures c.as_slice.ensures.value) c.requires.ready.1.few

pub take_pages-requires-clause-room : goal.take_pages-requires-clause-room
take_pages-requires-clause-room g c =
    let few = few_needed c.args.work.steps.items c.pages_needed-count.result (needed_is c.as_slice.result.now c.args.work.steps.items c.pages_needed-count.result c.pages_needed-count.ensures c.as_slice.ensures.value) c.requires.ready.1.few in
    omega (arith, few, c.requires.ready.1.news)

pub returns-in_err-take_pages-clause-sound : goal.returns-in_err-take_pages-clause-sound
returns-in_err-take_pages-clause-sound g c tells owner root tree s path b can prepared =
    let few = few_needed c.args.work.steps.items c.pages_needed-count.result (needed_is c.as_slice.result.now c.args.work.steps.items c.pages_needed-count.result c.pages_needed-count.ensures c.as_slice.ensures.value) c.requires.ready.1.few in
    let e = c.in_ok-number.ensures in
    let free = free_left (g.P.Pages.shape c.args.pages.now).pages (g.P.Pages.shape c.draw_number.new.pages).pages c.pages_needed-count.result s (ap (λ (x : FileShape). x.pages) e.kept.keeps.same_shape) few can.free in
    let sound = c.in_err-take_pages.ensures.sound tells (drawn s) (e.drawn tells s can.beside.is_space) free in
    search (rules, sound, c.from_residual-in_err-take_pages.ensures)

pub write_all-requires-clause-can : goal.write_all-requires-clause-can
write_all-requires-clause-can g c =
    let steps : List Planned = c.args.work.steps.items in
    let news : List PageNo = c.take_pages.new.news.items in
    let list : List Settled = c.as_slice-3.result.now in
    let e = c.in_ok-number.ensures in
    let k = c.in_ok-take_pages.ensures in
    let count : length news ≡ pages_needed (reverse steps) = k.count ∙ needed_is c.as_slice.result.now steps c.pages_needed-count.result c.pages_needed-count.ensures c.as_slice.ensures.value in
    let nodes = nodes_are _ _ _ _ _ _ _ c.as_slice-3.ensures.value c.settle-writes.ensures.writes c.as_slice-2.ensures.value in
    let among : AreAmong (numbers_of news) (written_numbers list) = taken_among steps _ _ news list nodes count in
    let draws = draws_of g.P.Pages c.args.pages.now c.draw_number.new.pages e.grown e.others in
    let taken = taken_within g.P.Pages (written_numbers list) (numbers_of news) c.args.pages.now c.draw_number.new.pages c.take_pages.new.pages draws k.takes.changes among in
    record {
      usable = k.takes.kept.keeps.goes_on.can;
      begun = taken.grows.begun ∙ c.requires.can.begun;
      room = room_left (written_numbers list) (g.P.Pages.mini c.args.pages.now) (g.P.Pages.mini c.take_pages.new.pages) taken.grows c.requires.can.room (written_few steps _ _ news list nodes count c.requires.ready.1.few);
    }

pub write_all-requires-clause-inside : goal.write_all-requires-clause-inside
write_all-requires-clause-inside g c =
    let steps : List Planned = c.args.work.steps.items in
    let news : List PageNo = c.take_pages.new.news.items in
    let list : List Settled = c.as_slice-3.result.now in
    let e = c.in_ok-number.ensures in
    let k = c.in_ok-take_pages.ensures in
    let count : length news ≡ pages_needed (reverse steps) = k.count ∙ needed_is c.as_slice.result.now steps c.pages_needed-count.result c.pages_needed-count.ensures c.as_slice.ensures.value in
    let nodes = nodes_are _ _ _ _ _ _ _ c.as_slice-3.ensures.value c.settle-writes.ensures.writes c.as_slice-2.ensures.value in
    let first : (g.P.Pages.shape c.take_pages.new.pages).pages ≡ (g.P.Pages.shape c.draw_number.new.pages).pages = ap (λ (x : FileShape). x.pages) k.takes.kept.keeps.same_shape in
    let second : (g.P.Pages.shape c.draw_number.new.pages).pages ≡ (g.P.Pages.shape c.args.pages.now).pages = ap (λ (x : FileShape). x.pages) e.kept.keeps.same_shape in
    inside_any (g.P.Pages.shape c.take_pages.new.pages).pages steps _ _ news list nodes count
    (λ s h. (let low = c.requires.ready.1.inside s h in omega (arith, low, first, second)))
    (λ p h. (let low = k.takes.inside p h in omega (arith, low, first)))

pub returns-in_err-write_all-clause-changes : goal.returns-in_err-write_all-clause-changes
returns-in_err-write_all-clause-changes g c =
    let r = c.from_residual-in_err-write_all in
    let p = err_from_is_err_and r.result r.ensures.1 in
    let shape : g.P.Pages.shape c.take_pages.new.pages ≡ g.P.Pages.shape c.args.pages.now = c.in_ok-take_pages.ensures.takes.kept.keeps.same_shape ∙ c.in_ok-number.ensures.kept.keeps.same_shape in
    let names : NamesTree (g.P.Pages.shape c.args.pages.now).pages c.in_err-write_all.field-0.0 = subst (λ (s : FileShape). NamesTree s.pages c.in_err-write_all.field-0.0) shape c.in_err-write_all.ensures.writes.names in
    let e = c.in_ok-number.ensures in
    let k = c.in_ok-take_pages.ensures in
    let first = one_more g.P.Pages c.args.pages.now c.draw_number.new.pages c.take_pages.new.pages c.in_ok-take_pages.field-0 (began _ g.P.Pages c.args.pages.now c.draw_number.new.pages c.in_ok-number.number e.kept) k.takes.kept in
    record {
      kept = fails_behind _ _ g.P.Pages c.args.pages.now c.take_pages.new.pages c.write_all.new.pages c.in_err-write_all.field-0.0 p.0 r.result p.1 p.2 first c.in_err-write_all.ensures.writes.kept;
      changes = search rules;
      names = err_is (NamesInsert (g.P.Pages.shape c.args.pages.now).pages) r.result _ _ p.1 p.2 (inl names);
    }

pub returns-in_err-write_all-clause-sound : goal.returns-in_err-write_all-clause-sound
returns-in_err-write_all-clause-sound g c tells owner root tree s path b can prepared =
    let steps : List Planned = c.args.work.steps.items in
    let news : List PageNo = c.take_pages.new.news.items in
    let list : List Settled = c.as_slice-3.result.now in
    let e = c.in_ok-number.ensures in
    let k = c.in_ok-take_pages.ensures in
    let is = needed_is c.as_slice.result.now steps c.pages_needed-count.result c.pages_needed-count.ensures c.as_slice.ensures.value in
    let few = few_needed steps c.pages_needed-count.result is c.requires.ready.1.few in
    let space = e.drawn tells s can.beside.is_space in
    let free = free_left (g.P.Pages.shape c.args.pages.now).pages (g.P.Pages.shape c.draw_number.new.pages).pages c.pages_needed-count.result s (ap (λ (x : FileShape). x.pages) e.kept.keeps.same_shape) few can.free in
    let took : Took g.P.Pages c.args.pages.now c.draw_number.new.pages c.take_pages.new.pages owner root tree s path b c.args.work news = took_of g.P.Pages c.args.pages.now c.draw_number.new.pages c.take_pages.new.pages owner root tree s path b c.args.work news c.pages_needed-count.result can prepared e.kept.keeps.same_shape k.takes.kept.keeps.same_shape space k.count is (k.taken tells (drawn s) space free) in
    let fits_key : FitsSigned w64 c.args.key = search rules in
    let nodes = nodes_are _ _ _ _ _ _ _ c.as_slice-3.ensures.value c.settle-writes.ensures.writes c.as_slice-2.ensures.value in
    let settled_nodes : nodes_of list ≡ settled_pages tree c.args.key s.entries (steps_of c.args.work) news = nodes_settled tree _ c.args.key _ s.entries _ (steps_of c.args.work) news list nodes prepared.counter_is (to_z-of_z w64 c.args.key fits_key) (e.number tells s can.beside.is_space) in
    let sound = c.in_err-write_all.ensures.sound (fits_of g.P.Pages c.args.pages.now c.draw_number.new.pages c.take_pages.new.pages owner root tree s path b c.args.work news took settles c.args.key list settled_nodes) in
    let r = c.from_residual-in_err-write_all in
    let p = err_from_is_err_and r.result r.ensures.1 in
    err_is IsNoDamage r.result _ _ p.1 p.2 sound

pub returns-clause-changes : goal.returns-clause-changes
returns-clause-changes g c =
    let steps : List Planned = c.args.work.steps.items in
    let news : List PageNo = c.take_pages.new.news.items in
    let list : List Settled = c.as_slice-3.result.now in
    let e = c.in_ok-number.ensures in
    let k = c.in_ok-take_pages.ensures in
    let count : length news ≡ pages_needed (reverse steps) = k.count ∙ needed_is c.as_slice.result.now steps c.pages_needed-count.result c.pages_needed-count.ensures c.as_slice.ensures.value in
    let nodes = nodes_are _ _ _ _ _ _ _ c.as_slice-3.ensures.value c.settle-writes.ensures.writes c.as_slice-2.ensures.value in
    let among : AreAmong (numbers_of news) (written_numbers list) = taken_among steps _ _ news list nodes count in
    let draws = draws_of g.P.Pages c.args.pages.now c.draw_number.new.pages e.grown e.others in
    let taken = taken_within g.P.Pages (written_numbers list) (numbers_of news) c.args.pages.now c.draw_number.new.pages c.take_pages.new.pages draws k.takes.changes among in
    let few = written_few steps _ _ news list nodes count c.requires.ready.1.few in
    record {
      kept = search rules;
      changes = record {
        list = 0 ∷ written_numbers list;
        few = omega (arith, few);
        changes = written_within g.P.Pages (written_numbers list) c.args.pages.now c.take_pages.new.pages c.write_all.new.pages taken c.in_ok-write_all.ensures.writes.changes;
      };
      names = tt;
    }

pub returns-clause-inserted : goal.returns-clause-inserted
returns-clause-inserted g c tells owner root tree s path b can prepared =
    let steps : List Planned = c.args.work.steps.items in
    let news : List PageNo = c.take_pages.new.news.items in
    let list : List Settled = c.as_slice-3.result.now in
    let e = c.in_ok-number.ensures in
    let k = c.in_ok-take_pages.ensures in
    let w = c.in_ok-write_all.ensures in
    let is = needed_is c.as_slice.result.now steps c.pages_needed-count.result c.pages_needed-count.ensures c.as_slice.ensures.value in
    let few = few_needed steps c.pages_needed-count.result is c.requires.ready.1.few in
    let space = e.drawn tells s can.beside.is_space in
    let free = free_left (g.P.Pages.shape c.args.pages.now).pages (g.P.Pages.shape c.draw_number.new.pages).pages c.pages_needed-count.result s (ap (λ (x : FileShape). x.pages) e.kept.keeps.same_shape) few can.free in
    let took : Took g.P.Pages c.args.pages.now c.draw_number.new.pages c.take_pages.new.pages owner root tree s path b c.args.work news = took_of g.P.Pages c.args.pages.now c.draw_number.new.pages c.take_pages.new.pages owner root tree s path b c.args.work news c.pages_needed-count.result can prepared e.kept.keeps.same_shape k.takes.kept.keeps.same_shape space k.count is (k.taken tells (drawn s) space free) in
    let fits_key : FitsSigned w64 c.args.key = search rules in
    let nodes = nodes_are _ _ _ _ _ _ _ c.as_slice-3.ensures.value c.settle-writes.ensures.writes c.as_slice-2.ensures.value in
    let number = e.number tells s can.beside.is_space in
    let settled_nodes : nodes_of list ≡ settled_pages tree c.args.key s.entries (steps_of c.args.work) news = nodes_settled tree _ c.args.key _ s.entries _ (steps_of c.args.work) news list nodes prepared.counter_is (to_z-of_z w64 c.args.key fits_key) number in
    let shape_new : g.P.Pages.shape c.write_all.new.pages ≡ g.P.Pages.shape c.args.pages.now = w.writes.kept.keeps.same_shape ∙ took.shape_at in
    let draws : ChangesOf g.P.Pages (0 ∷ []) c.args.pages.now c.draw_number.new.pages = draws_of g.P.Pages c.args.pages.now c.draw_number.new.pages e.grown e.others in
    let once = written_once g.P.Pages c.args.pages.now c.draw_number.new.pages c.take_pages.new.pages owner root tree s path b c.args.work news took settles c.args.key list settled_nodes in
    let written : AreWritten owner (g.P.Pages.contents c.write_all.new.pages) list = subst (λ (o : ℕ). AreWritten o (g.P.Pages.contents c.write_all.new.pages) list) prepared.owner_is (w.written tells once) in
    let raises = c.settle-writes.ensures.raised ∙ ap (raised (reverse steps)) c.as_slice-2.ensures.value in
    let told = c.settle-writes.ensures.parted ∙ ap (parts (reverse steps)) c.as_slice-2.ensures.value in
    inserted g.P.Pages c.args.pages.now c.draw_number.new.pages c.take_pages.new.pages owner root tree s path b c.args.work news took settles c.args.key list settled_nodes c.write_all.new.pages tells shape_new draws k.takes.changes w.writes.changes written _ number refl raises told
