use Rattle.std.proofs.Common.{◌≡◌, ◌∙◌, ◌∷◌, ◌+◌, List, sym, arith, drop, drop_of_length-le, get_or, map}
use Rattle.isp_predlock.specs.declared.entries.Percolation.{Percolation}
use Rattle.isp_predlock.specs.Tables.{HeldSearch, with_pages}
use Rattle.isp_predlock.proofs.MemberLaws.{next_item}
use Rattle.isp_predlock.proofs.CallLaws.{attached_last, attached_next, there_next}
use Rattle.isp_predlock.proofs.table.PredLocks.attach_all.Goals as goal

abbrev none : Percolation
none = record { search = record { 0 = 0 }; session = 0; page = record { 0 = 0 } }

pub loop-found-preserved : goal.loop-found-preserved
loop-found-preserved c =
    let list : List Percolation = c.args.list.now in
    let i = c.loop-found.found-index in
    let f : Percolation = get_or list i none in
    let next : drop i list ≡ f ∷ drop (i + 1) list = next_item list i none c.loop-found-test.true in
    let now : List HeldSearch = c.loop-found.self.searches in
    let after : List HeldSearch = c.attach.new.self.searches in
    record {
      searches = attached_next list i f next now after c.attach.ensures.attached (map (with_pages list) c.args.self.now.searches) c.loop-found.invariant.searches;
      there = there_next list i f next now after c.attach.ensures.attached c.loop-found.invariant.there;
      spare = omega (arith, c.loop-found.invariant.spare, c.attach.ensures.spare);
    }

pub returns-clause-attached : goal.returns-clause-attached
returns-clause-attached c =
    sym (attached_last (drop c.loop-found.found-index c.args.list.now) c.loop-found.self.searches (drop_of_length-le c.args.list.now c.loop-found-test.false))
    ∙ c.loop-found.invariant.searches
