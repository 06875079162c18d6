use Rattle.std.proofs.Common.{rules, ℕ, List, sym, ◌∙◌, ap, subst}
use Rattle.isp_format.specs.Ranges.{Contents, page_of}
use Rattle.isp_page.specs.State.{FileShape}
use Rattle.isp_rtree.specs.Trees.{IsAtPage, IsRootOf}
use Rattle.isp_rtree.proofs.TreeLaws.{at_root}
use Rattle.isp_rfind.specs.Walks.{ShowsChildOrLacks}
use Rattle.isp_rfind.proofs.ShowLaws.{bad_root, below_it, shows_then}
use Rattle.isp_rfind.proofs.finding.find.Goals as goal

pub returns-in_err-owner-clause-sound : goal.returns-in_err-owner-clause-sound
returns-in_err-owner-clause-sound g c tells owner tree at =
    let sound = c.in_err-owner.ensures.holds tells owner tree at in
    search (rules, sound, c.from_residual.ensures)

pub returns-in_err-found-clause-sound : goal.returns-in_err-found-clause-sound
returns-in_err-found-clause-sound g c tells owner tree at =
    let r = c.in_ok-owner.ensures in
    let told = c.in_ok-owner.owner in
    let root = c.args.root.0 in
    let bytes = c.read_root.new.into.bytes in
    let mid = g.P.Pages.contents c.read_root.new.pages in
    let shape = g.P.Pages.shape c.args.pages.now in
    let here : IsAtPage mid shape told tree root bytes = subst (λ (x : Contents). IsAtPage x shape told tree root bytes) (sym (r.reads.contents tells)) (at_root (g.P.Pages.contents c.args.pages.now) shape owner told root shape.pages tree bytes at (r.page tells) r.is) in
    let there : IsAtPage mid (g.P.Pages.shape c.read_root.new.pages) told tree root bytes = subst (λ (s : FileShape). IsAtPage mid s told tree root bytes) (sym r.reads.kept.keeps.same_shape) here in
    let sound = c.in_err-found.ensures.sound tells tree there at.root_is in
    search (rules, sound, c.from_residual-in_err-found.ensures)

pub returns-in_err-owner-clause-shows : goal.returns-in_err-owner-clause-shows
returns-in_err-owner-clause-shows g c tells =
    let r = c.in_err-owner.ensures in
    let shows = bad_root (g.P.Pages.contents c.args.pages.now) (g.P.Pages.shape c.args.pages.now).pages c.args.root.0 c.in_err-owner.field-0.0 r.reads.names (r.sound tells) in
    search (rules, shows, c.from_residual.ensures)

pub returns-in_err-found-clause-shows : goal.returns-in_err-found-clause-shows
returns-in_err-found-clause-shows g c tells =
    let r = c.in_ok-owner.ensures in
    let told = c.in_ok-owner.owner in
    let root = c.args.root.0 in
    let old = g.P.Pages.contents c.args.pages.now in
    let mid = g.P.Pages.contents c.read_root.new.pages in
    let shape = g.P.Pages.shape c.args.pages.now in
    let fault = c.in_err-found.field-0.0 in
    let read = r.page tells in
    let is : IsRootOf shape.pages told root (page_of old root) = subst (λ (bytes : List ℕ). IsRootOf shape.pages told root bytes) read r.is in
    let child : ShowsChildOrLacks mid (g.P.Pages.shape c.read_root.new.pages).pages told fault = c.in_err-found.ensures.shows tells (read ∙ ap (λ (x : Contents). page_of x root) (sym (r.reads.contents tells))) in
    let shows = below_it old shape.pages root told fault is (shows_then old mid shape (g.P.Pages.shape c.read_root.new.pages) told fault (r.reads.contents tells) r.reads.kept.keeps.same_shape child) in
    search (rules, shows, c.from_residual-in_err-found.ensures)
