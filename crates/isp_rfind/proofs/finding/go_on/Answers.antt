use Rattle.std.proofs.Common.{rules, ◌<◌, ℕ, List, sym, subst}
use Rattle.isp_rfind.specs.Stack.{AreInside, AreNext}
use Rattle.isp_rfind.specs.Walks.{AreChildren}
use Rattle.isp_rfind.specs.declared.pending.Pending.{Pending}
use Rattle.isp_rfind.proofs.ShowLaws.{added_children, bad_child, left_children}
use Rattle.isp_rfind.proofs.StackLaws.{IsBelow, added_inside, last_inside, left_inside, next_page, page_walks}
use Rattle.isp_rfind.proofs.finding.go_on.Goals as goal

pub read_below-requires-clause-page : goal.read_below-requires-clause-page
read_below-requires-clause-page g c =
    let pages : ℕ = (g.P.Pages.shape c.args.pages.now).pages in
    let all : AreInside pages c.add_children.new.stack.items = added_inside pages c.args.owner c.args.b.now c.args.page.now.bytes c.args.stack.now.items c.add_children.new.stack.items c.requires.is c.requires.inside c.in_ok-add_children.ensures in
    last_inside pages c.add_children.new.stack.items c.pop.new.self.items c.in-Some.next c.in-Some.ensures.items all

pub returns-in_err-read_below-in-Some-clause-reads : goal.returns-in_err-read_below-in-Some-clause-reads
returns-in_err-read_below-in-Some-clause-reads g c =
    let pages : ℕ = (g.P.Pages.shape c.args.pages.now).pages in
    let all : AreInside pages c.add_children.new.stack.items = added_inside pages c.args.owner c.args.b.now c.args.page.now.bytes c.args.stack.now.items c.add_children.new.stack.items c.requires.is c.requires.inside c.in_ok-add_children.ensures in
    let inside : c.in-Some.next.page.0 < pages = last_inside pages c.add_children.new.stack.items c.pop.new.self.items c.in-Some.next c.in-Some.ensures.items all in
    let names = page_walks pages c.in-Some.next.page.0 _ inside c.in_err-read_below-in-Some.ensures.reads.names in
    record {
      kept = search rules;
      contents = search rules;
      mini = search rules;
      names = search (rules, names, c.from_residual-in_err-read_below-in-Some.ensures);
    }

pub returns-in_err-read_below-in-Some-clause-sound : goal.returns-in_err-read_below-in-Some-clause-sound
returns-in_err-read_below-in-Some-clause-sound g c tells tree is next =
    let all : AreNext tree c.add_children.new.stack.items = subst (λ (xs : List Pending). AreNext tree xs) (sym c.in_ok-add_children.ensures) next in
    let below : IsBelow (g.P.Pages.contents c.args.pages.now) (g.P.Pages.shape c.args.pages.now) c.args.owner c.in-Some.next = next_page (g.P.Pages.contents c.args.pages.now) (g.P.Pages.shape c.args.pages.now) c.args.owner tree is c.add_children.new.stack.items c.pop.new.self.items c.in-Some.next c.in-Some.ensures.items all in
    let sound = c.in_err-read_below-in-Some.ensures.sound tells below.page below.level in
    search (rules, sound, c.from_residual-in_err-read_below-in-Some.ensures)

pub returns-in_ok-read_below-in-Some-clause-left : goal.returns-in_ok-read_below-in-Some-clause-left
returns-in_ok-read_below-in-Some-clause-left g c =
    let pages : ℕ = (g.P.Pages.shape c.args.pages.now).pages in
    let all : AreInside pages c.add_children.new.stack.items = added_inside pages c.args.owner c.args.b.now c.args.page.now.bytes c.args.stack.now.items c.add_children.new.stack.items c.requires.is c.requires.inside c.in_ok-add_children.ensures in
    left_inside pages c.add_children.new.stack.items c.pop.new.self.items c.in-Some.next c.in-Some.ensures.items all

pub returns-in_ok-read_below-in-Some-clause-inside : goal.returns-in_ok-read_below-in-Some-clause-inside
returns-in_ok-read_below-in-Some-clause-inside g c =
    let pages : ℕ = (g.P.Pages.shape c.args.pages.now).pages in
    let all : AreInside pages c.add_children.new.stack.items = added_inside pages c.args.owner c.args.b.now c.args.page.now.bytes c.args.stack.now.items c.add_children.new.stack.items c.requires.is c.requires.inside c.in_ok-add_children.ensures in
    last_inside pages c.add_children.new.stack.items c.pop.new.self.items c.in-Some.next c.in-Some.ensures.items all

pub returns-in_ok-read_below-in-Some-clause-on : goal.returns-in_ok-read_below-in-Some-clause-on
returns-in_ok-read_below-in-Some-clause-on g c tells way =
    let old = g.P.Pages.contents c.args.pages.now in
    let pages : ℕ = (g.P.Pages.shape c.args.pages.now).pages in
    left_children old pages c.args.owner c.add_children.new.stack.items c.pop.new.self.items c.in-Some.next c.in-Some.ensures.items
    (added_children old pages c.args.owner c.args.b.now c.args.page.now.bytes c.args.stack.now.items c.add_children.new.stack.items way c.in_ok-add_children.ensures)

pub returns-in_err-read_below-in-Some-clause-shows : goal.returns-in_err-read_below-in-Some-clause-shows
returns-in_err-read_below-in-Some-clause-shows g c tells way =
    let old = g.P.Pages.contents c.args.pages.now in
    let pages : ℕ = (g.P.Pages.shape c.args.pages.now).pages in
    let r = c.in_err-read_below-in-Some.ensures in
    let all : AreChildren old pages c.args.owner c.add_children.new.stack.items = added_children old pages c.args.owner c.args.b.now c.args.page.now.bytes c.args.stack.now.items c.add_children.new.stack.items way c.in_ok-add_children.ensures in
    let shows = bad_child old pages c.args.owner c.add_children.new.stack.items c.pop.new.self.items c.in-Some.next c.in_err-read_below-in-Some.field-0.0 c.in-Some.ensures.items all r.reads.names (r.sound tells) in
    search (rules, shows, c.from_residual-in_err-read_below-in-Some.ensures)
