use Rattle.std.proofs.Common.{rules, ◌≡◌, ◌<◌, ◌++◌, ◌+◌, ℕ, suc, false, Option, None, List, refl, sym, ◌∙◌, ap, subst, arith}
use Rattle.std.specs.Prelude.{Ok, Err, IfSome, IsTrue}
use Rattle.std.proofs.lemmas.Result.{err_from_is_err_and}
use Rattle.isp_base.specs.declared.page_no.PageNo.{PageNo}
use Rattle.isp_format.specs.Ranges.{Contents, page_of}
use Rattle.isp_page.specs.State.{FileShape}
use Rattle.isp_page.specs.declared.fault.Fault.{Fault}
use Rattle.isp_rtree.specs.Calls.{NamesTreeOrLacks}
use Rattle.isp_rtree.specs.Trees.{IsPageOf, IsTreeIn}
use Rattle.isp_rtree.proofs.TreeLaws.{fewer_pages}
use Rattle.isp_rfind.specs.Stack.{AreInside, Takes, children_of}
use Rattle.isp_rfind.specs.Walks.{AreChildren, ShowsChildOrLacks}
use Rattle.isp_rfind.specs.declared.pending.Pending.{Pending}
use Rattle.isp_rfind.proofs.FindLaws.{Looked, Looking, begins, found_here, looked_here, not_over, takes_next, takes_none}
use Rattle.isp_rfind.proofs.ShowLaws.{children_then, on_way, shows_then}
use Rattle.isp_rfind.proofs.StackLaws.{walks}
use Rattle.isp_rfind.proofs.TurnLaws.{call_ends, one_more}
use Rattle.isp_rfind.proofs.finding.search.Goals as goal

false_true : IsTrue false → ⊥
false_true h = cc

pub loop-turn-init : goal.loop-turn-init
loop-turn-init g c = record {
  kept = search rules;
  contents = λ tells. refl;
  mini = refl;
  inside = c.requires.root;
  is = c.requires.is;
  stack = subst (λ (xs : List Pending). AreInside (g.P.Pages.shape c.args.pages.now).pages xs) (sym c.new-stack.ensures.items) (λ s h. absurd h);
  read = λ tells read. read;
  on = λ tells read. subst (λ (xs : List Pending). AreChildren (g.P.Pages.contents c.args.pages.now) (g.P.Pages.shape c.args.pages.now).pages c.args.owner xs) (sym c.new-stack.ensures.items) (λ s h. absurd h);
  looking = λ tells tree at root. subst (λ (xs : List Pending). Looking tree c.args.b.now c.args.number 0 c.args.root.0 xs) (sym c.new-stack.ensures.items) (begins tree at.is.forest c.args.b.now c.args.number c.args.root.0 root);
}

pub returns-then-has_entry-clause-found : goal.returns-then-has_entry-clause-found
returns-then-has_entry-clause-found g c tells tree at root =
    let inv = c.loop-turn.invariant in
    found_here (g.P.Pages.contents c.args.pages.now) (g.P.Pages.shape c.args.pages.now) c.args.owner tree at.is c.args.b.now c.args.number c.loop-turn._turn c.loop-turn.at c.loop-turn.stack.items c.loop-turn.page.bytes (inv.read tells at.read) (inv.looking tells tree at root) (c.has_entry.ensures.0 c.if-has_entry.true)

pub returns-in_err-next-clause-reads : goal.returns-in_err-next-clause-reads
returns-in_err-next-clause-reads g c =
    let inv = c.loop-turn.invariant in
    let fault = c.in_err-next.field-0.0 in
    let names = walks (g.P.Pages.shape c.args.pages.now).pages fault (subst (λ (s : FileShape). NamesTreeOrLacks s.pages fault) inv.kept.keeps.same_shape c.in_err-next.ensures.reads.names) in
    let p = err_from_is_err_and c.from_residual.result c.from_residual.ensures.1 in
    let is : c.from_residual.result ≡ Err fault = p.1 ∙ ap (λ (f : Fault). Err f) p.2 in
    record {
      kept = call_ends g.P.Pages c.args.pages.now c.loop-turn.pages c.go_on.new.pages (Err fault) c.from_residual.result is inv.kept c.in_err-next.ensures.reads.kept;
      contents = search rules;
      mini = search rules;
      names = search (rules, names, c.from_residual.ensures);
    }

pub returns-in_err-next-clause-sound : goal.returns-in_err-next-clause-sound
returns-in_err-next-clause-sound g c tells tree at root =
    let inv = c.loop-turn.invariant in
    let old = g.P.Pages.contents c.args.pages.now in
    let shape = g.P.Pages.shape c.args.pages.now in
    let looked : Looked tree c.args.b.now c.args.number (suc c.loop-turn._turn) (c.loop-turn.stack.items ++ children_of c.args.b.now c.loop-turn.page.bytes) = looked_here old shape c.args.owner tree at.is c.args.b.now c.args.number c.loop-turn._turn c.loop-turn.at.0 c.loop-turn.stack.items c.loop-turn.page.bytes (inv.read tells at.read) (inv.looking tells tree at root) (λ has. false_true (subst IsTrue c.if-has_entry.false (c.has_entry.ensures.1 has))) in
    let here : IsTreeIn (g.P.Pages.contents c.loop-turn.pages) (g.P.Pages.shape c.loop-turn.pages) c.args.owner tree = subst (λ (s : FileShape). IsTreeIn (g.P.Pages.contents c.loop-turn.pages) s c.args.owner tree) (sym inv.kept.keeps.same_shape) (subst (λ (x : Contents). IsTreeIn x shape c.args.owner tree) (sym (inv.contents tells)) at.is) in
    let sound = c.in_err-next.ensures.sound tells tree here looked.next in
    search (rules, sound, c.from_residual.ensures)

pub returns-in_err-next-clause-shows : goal.returns-in_err-next-clause-shows
returns-in_err-next-clause-shows g c tells read =
    let inv = c.loop-turn.invariant in
    let old = g.P.Pages.contents c.args.pages.now in
    let mid = g.P.Pages.contents c.loop-turn.pages in
    let shape = g.P.Pages.shape c.args.pages.now in
    let same = inv.kept.keeps.same_shape in
    let fault = c.in_err-next.field-0.0 in
    let way = on_way old mid shape (g.P.Pages.shape c.loop-turn.pages) c.args.owner c.loop-turn.at.0 c.loop-turn.page.bytes c.loop-turn.stack.items (inv.contents tells) same inv.is (inv.read tells read) (inv.on tells read) in
    let shows : ShowsChildOrLacks old shape.pages c.args.owner fault = shows_then old mid shape (g.P.Pages.shape c.loop-turn.pages) c.args.owner fault (inv.contents tells) same (c.in_err-next.ensures.shows tells way) in
    search (rules, shows, c.from_residual.ensures)

pub returns-in-None-clause-reads : goal.returns-in-None-clause-reads
returns-in-None-clause-reads g c = record {
  kept = call_ends g.P.Pages c.args.pages.now c.loop-turn.pages c.go_on.new.pages (Ok c.in_ok-next.next) (Ok None) (ap (λ (o : Option PageNo). Ok o) (sym c.in-None.is)) c.loop-turn.invariant.kept c.in_ok-next.ensures.reads.kept;
  contents = λ tells. c.in_ok-next.ensures.reads.contents tells ∙ c.loop-turn.invariant.contents tells;
  mini = c.in_ok-next.ensures.reads.mini ∙ c.loop-turn.invariant.mini;
  names = tt;
}

pub returns-in-None-clause-found : goal.returns-in-None-clause-found
returns-in-None-clause-found g c tells tree at root =
    let inv = c.loop-turn.invariant in
    let old = g.P.Pages.contents c.args.pages.now in
    let shape = g.P.Pages.shape c.args.pages.now in
    let all : List Pending = c.loop-turn.stack.items ++ children_of c.args.b.now c.loop-turn.page.bytes in
    let looked : Looked tree c.args.b.now c.args.number (suc c.loop-turn._turn) all = looked_here old shape c.args.owner tree at.is c.args.b.now c.args.number c.loop-turn._turn c.loop-turn.at.0 c.loop-turn.stack.items c.loop-turn.page.bytes (inv.read tells at.read) (inv.looking tells tree at root) (λ has. false_true (subst IsTrue c.if-has_entry.false (c.has_entry.ensures.1 has))) in
    takes_none tree at.is.forest c.args.b.now c.args.number (suc c.loop-turn._turn) all c.go_on.new.stack.items (subst (λ (o : Option PageNo). Takes all o c.go_on.new.stack.items) c.in-None.is c.in_ok-next.ensures.takes) looked

pub loop-turn-preserved : goal.loop-turn-preserved
loop-turn-preserved g c =
    let inv = c.loop-turn.invariant in
    let step = c.in_ok-next.ensures in
    let p : PageNo = c.in-Some.p in
    let old = g.P.Pages.contents c.args.pages.now in
    let shape = g.P.Pages.shape c.args.pages.now in
    let bytes : List ℕ = c.go_on.new.page.bytes in
    let same = inv.kept.keeps.same_shape in
    let all : List Pending = c.loop-turn.stack.items ++ children_of c.args.b.now c.loop-turn.page.bytes in
    record {
      kept = one_more g.P.Pages c.args.pages.now c.loop-turn.pages c.go_on.new.pages c.in_ok-next.next inv.kept step.reads.kept;
      contents = λ tells. step.reads.contents tells ∙ inv.contents tells;
      mini = step.reads.mini ∙ inv.mini;
      inside = subst (λ (s : FileShape). p.0 < s.pages) same (subst (λ (o : Option PageNo). IfSome o (λ q. q.0 < (g.P.Pages.shape c.loop-turn.pages).pages)) c.in-Some.is step.inside);
      is = subst (λ (s : FileShape). IsPageOf s.pages c.args.owner p.0 bytes) same (subst (λ (o : Option PageNo). IfSome o (λ q. IsPageOf (g.P.Pages.shape c.loop-turn.pages).pages c.args.owner q.0 bytes)) c.in-Some.is step.is);
      stack = subst (λ (s : FileShape). AreInside s.pages c.go_on.new.stack.items) same step.left;
      read = λ tells read. subst (λ (o : Option PageNo). IfSome o (λ q. bytes ≡ page_of (g.P.Pages.contents c.loop-turn.pages) q.0)) c.in-Some.is (step.page tells) ∙ ap (λ (x : Contents). page_of x p.0) (inv.contents tells);
      on = λ tells read.
          let way = on_way old (g.P.Pages.contents c.loop-turn.pages) shape (g.P.Pages.shape c.loop-turn.pages) c.args.owner c.loop-turn.at.0 c.loop-turn.page.bytes c.loop-turn.stack.items (inv.contents tells) same inv.is (inv.read tells read) (inv.on tells read) in
          children_then old (g.P.Pages.contents c.loop-turn.pages) shape (g.P.Pages.shape c.loop-turn.pages) c.args.owner c.go_on.new.stack.items (inv.contents tells) same (step.on tells way);
      looking = λ tells tree at root.
          let looked : Looked tree c.args.b.now c.args.number (suc c.loop-turn._turn) all = looked_here old shape c.args.owner tree at.is c.args.b.now c.args.number c.loop-turn._turn c.loop-turn.at.0 c.loop-turn.stack.items c.loop-turn.page.bytes (inv.read tells at.read) (inv.looking tells tree at root) (λ has. false_true (subst IsTrue c.if-has_entry.false (c.has_entry.ensures.1 has))) in
          let one : c.loop-turn._turn + 1 ≡ suc c.loop-turn._turn = omega arith in
          takes_next tree c.args.b.now c.args.number (suc c.loop-turn._turn) (c.loop-turn._turn + 1) all c.go_on.new.stack.items p one (subst (λ (o : Option PageNo). Takes all o c.go_on.new.stack.items) c.in-Some.is step.takes) looked;
    }

pub returns-clause-sound : goal.returns-clause-sound
returns-clause-sound g c tells tree at root =
    let few = not_over tree at.is.forest c.args.b.now c.args.number c.loop-turn._turn c.loop-turn.at.0 c.loop-turn.stack.items (c.loop-turn.invariant.looking tells tree at root) in
    let less = fewer_pages (g.P.Pages.contents c.args.pages.now) (g.P.Pages.shape c.args.pages.now) c.args.owner tree at.is in
    let count = c.pages-count.ensures.count in
    let end = c.loop-turn-test.false in
    absurd (omega (arith, few, less, count, end))
