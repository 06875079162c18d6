use Rattle.std.proofs.Common.{rules, ◌≡◌, ℕ, suc, ◌-◌, ◌<◌, ℤ, List, Some, length, sym, ◌∙◌, ap, subst, arith}
use Rattle.std.specs.Prelude.{replicate, slice_index, slice_set}
use Rattle.std.specs.Int.{w64}
use Rattle.std.proofs.lemmas.Int.{to_z-of_z}
use Rattle.std.proofs.lemmas.List.{length-set}
use Rattle.isp_format.specs.Inner.{IsInnerPage}
use Rattle.isp_format.specs.Ranges.{Contents, page_of}
use Rattle.isp_page.specs.State.{FileShape}
use Rattle.isp_levels.specs.Inners.{page_in_name}
use Rattle.isp_levels.specs.Levels.{pick}
use Rattle.isp_cells.proofs.CellLaws.{number_some}
use Rattle.isp_levels.proofs.WayLaws.{root_says}
use Rattle.isp_growing.proofs.PathLaws.{OnPath, path_begins, path_ends, path_on, replicated, set_beyond, set_here, set_inside}
use Rattle.isp_growing.proofs.path.path_for.Goals as goal

pub returns-in_err-top-clause-sound : goal.returns-in_err-top-clause-sound
returns-in_err-top-clause-sound g c tells table levels leaves is =
    let sound = c.in_err-top.ensures.sound tells (length levels) (root_says _ _ table c.args.root.0 levels leaves is) in
    search (rules, sound, c.from_residual.ensures)

pub down-init : goal.down-init
down-init g c =
    let r = c.in_ok-top.ensures.reads in
    record {
      kept = search rules;
      contents = r.contents;
      mini = r.mini;
      inside = c.requires.page;
      low = c.in_ok-top.ensures.low;
      long = search rules;
      entries = λ k. replicated 16 k c.args.root.0 _ c.requires.page;
      path = λ tells table levels leaves is.
          let pages = (g.P.Pages.shape c.args.pages.now).pages in
          let contents = g.P.Pages.contents c.args.pages.now in
          let way : List ℕ = replicate 16 c.args.root.0 in
          let on = path_begins pages contents table c.args.root.0 levels leaves c.args.key c.in_ok-top.top way c.ranges.key is (c.in_ok-top.ensures.height tells) in
          subst (λ (k : ℤ). OnPath pages contents table levels leaves k c.args.root.0 c.in_ok-top.top way) (sym (to_z-of_z w64 c.args.key c.ranges.key)) on;
    }

pub down-preserved : goal.down-preserved
down-preserved g c =
    let r = c.in_ok-at.ensures.reads in
    let v = c.down.invariant in
    let positive = c.down-test.true in
    record {
      kept = search rules;
      contents = λ tells. r.contents tells ∙ v.contents tells;
      mini = r.mini ∙ v.mini;
      inside = subst (λ (s : FileShape). c.in_ok-at.at.0 < s.pages) v.kept.keeps.same_shape c.in_ok-at.ensures.inside;
      low = let low = v.low in omega (arith, low);
      long = length-set c.down.way c.down.height c.down.at.0 ∙ v.long;
      entries = set_inside c.down.way c.down.height c.down.at.0 _ v.inside v.entries;
      path = λ tells table levels leaves is.
          let pages = (g.P.Pages.shape c.args.pages.now).pages in
          let contents = g.P.Pages.contents c.args.pages.now in
          let at = c.down.at.0 in
          let fewer : ℕ = c.down.height - 1 in
          let key = to_z-of_z w64 c.args.key c.ranges.key in
          let more : c.down.height ≡ suc fewer = omega (arith, positive) in
          let here : OnPath pages contents table levels leaves c.args.key at c.down.height c.down.way = subst (λ (k : ℤ). OnPath pages contents table levels leaves k at c.down.height c.down.way) key (v.path tells table levels leaves is) in
          let step = path_on pages contents table levels leaves c.args.key at fewer c.down.way (subst (λ (n : ℕ). OnPath pages contents table levels leaves c.args.key at n c.down.way) more here) in
          let read : IsInnerPage (page_of (g.P.Pages.contents c.down.pages) at) table at (suc fewer) step.names = subst (λ (now : Contents). IsInnerPage (page_of now at) table at (suc fewer) step.names) (sym (v.contents tells)) step.stands in
          let stands : IsInnerPage (page_of (g.P.Pages.contents c.down.pages) at) table at c.down.height step.names = subst (λ (n : ℕ). IsInnerPage (page_of (g.P.Pages.contents c.down.pages) at) table at n step.names) (sym more) read in
          let child = c.in_ok-at.ensures.child tells table step.names stands in
          let same : step.child ≡ c.in_ok-at.at.0 = number_some c.in_ok-at.at.0 step.child (page_in_name (pick c.args.key step.names)) (ap (λ (k : ℤ). page_in_name (pick k step.names)) (sym key) ∙ child) step.picked in
          let low = v.low in
          let long = v.long in
          let now : List ℕ = slice_set c.down.way c.down.height at in
          let placed : slice_index now (suc fewer) ≡ at = subst (λ (n : ℕ). slice_index now n ≡ at) more (set_here c.down.way c.down.height at (omega (arith, low, long))) in
          let next : OnPath pages contents table levels leaves c.args.key c.in_ok-at.at.0 fewer now = subst (λ (p : ℕ). OnPath pages contents table levels leaves c.args.key p fewer now) same (step.next now placed (λ k far. set_beyond c.down.way c.down.height at k (omega (arith, far, more)))) in
          subst (λ (k : ℤ). OnPath pages contents table levels leaves k c.in_ok-at.at.0 fewer now) (sym key) next;
    }

pub returns-in_err-at-clause-sound : goal.returns-in_err-at-clause-sound
returns-in_err-at-clause-sound g c tells table levels leaves is =
    let v = c.down.invariant in
    let positive = c.down-test.true in
    let pages = (g.P.Pages.shape c.args.pages.now).pages in
    let contents = g.P.Pages.contents c.args.pages.now in
    let at = c.down.at.0 in
    let fewer : ℕ = c.down.height - 1 in
    let key = to_z-of_z w64 c.args.key c.ranges.key in
    let more : c.down.height ≡ suc fewer = omega (arith, positive) in
    let here : OnPath pages contents table levels leaves c.args.key at c.down.height c.down.way = subst (λ (k : ℤ). OnPath pages contents table levels leaves k at c.down.height c.down.way) key (v.path tells table levels leaves is) in
    let step = path_on pages contents table levels leaves c.args.key at fewer c.down.way (subst (λ (n : ℕ). OnPath pages contents table levels leaves c.args.key at n c.down.way) more here) in
    let read : IsInnerPage (page_of (g.P.Pages.contents c.down.pages) at) table at (suc fewer) step.names = subst (λ (now : Contents). IsInnerPage (page_of now at) table at (suc fewer) step.names) (sym (v.contents tells)) step.stands in
    let stands : IsInnerPage (page_of (g.P.Pages.contents c.down.pages) at) table at c.down.height step.names = subst (λ (n : ℕ). IsInnerPage (page_of (g.P.Pages.contents c.down.pages) at) table at n step.names) (sym more) read in
    let picked = ap (λ (k : ℤ). page_in_name (pick k step.names)) key ∙ step.picked in
    let inside = subst (λ (s : FileShape). step.child < s.pages) (sym v.kept.keeps.same_shape) step.inside in
    let sound = c.in_err-at.ensures.sound tells table step.child step.names stands picked inside in
    search (rules, sound, c.from_residual-in_err-at.ensures)

pub returns-clause-path : goal.returns-clause-path
returns-clause-path g c tells table levels leaves is =
    let v = c.down.invariant in
    let pages = (g.P.Pages.shape c.args.pages.now).pages in
    let contents = g.P.Pages.contents c.args.pages.now in
    let key = to_z-of_z w64 c.args.key c.ranges.key in
    let behind = c.down-test.false in
    let long = v.long in
    let at = c.down.at.0 in
    let here : OnPath pages contents table levels leaves c.args.key at c.down.height c.down.way = subst (λ (k : ℤ). OnPath pages contents table levels leaves k at c.down.height c.down.way) key (v.path tells table levels leaves is) in
    let ends = path_ends pages contents table levels leaves c.args.key at c.down.height c.down.way (slice_set c.down.way 0 at) (omega (arith, behind)) (λ k far. set_beyond c.down.way 0 at k (omega (arith, far))) here in
    record {
      height = c.in_ok-top.ensures.height tells ∙ (root_says _ _ table c.args.root.0 levels leaves is).level;
      leaf = ends.leaf ∙ ap (λ (p : ℕ). Some p) (sym (set_here c.down.way 0 at (omega (arith, long))));
      above = ends.above;
    }
