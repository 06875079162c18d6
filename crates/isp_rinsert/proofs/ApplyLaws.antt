-- A plan is carried out.
use Rattle.std.proofs.Common.{rules, ◌≡◌, ℕ, ℤ, ◌≤◌, List, length, reverse, sym, ◌∙◌, ap, subst, arith}
use Rattle.std.specs.Prelude.{Err, Ok, Result}
use Rattle.std.proofs.lemmas.List.{length-reverse}
use Rattle.isp_base.specs.declared.page_no.PageNo.{PageNo}
use Rattle.isp_mbr.specs.Corners.{Corners}
use Rattle.isp_page.specs.Calls.{Continued, Continues}
use Rattle.isp_page.specs.declared.fault.StoreFault.{StoreFault}
use Rattle.isp_page.specs.declared.fault.StoreFault.TheVariants.{Damaged, Disk, Print}
use Rattle.isp_page.specs.declared.pages.Pages.{Ghosts}
use Rattle.isp_space.specs.Spaces.{Space, free_pages}
use Rattle.isp_forest.specs.declared.entry.To.{To}
use Rattle.isp_forest.specs.declared.entry.To.TheVariants.{Row}
use Rattle.isp_forest.specs.Tree.{Tree, counter}
use Rattle.isp_rplan.specs.Divisions.{pages_needed}
use Rattle.isp_rplan.specs.declared.steps.Planned.{Planned}
use Rattle.isp_rsettle.specs.Placed.{settled_pages}
use Rattle.isp_rsettle.specs.Settling.{nodes_of, settled}
use Rattle.isp_rsettle.specs.declared.outcome.Settled.{Settled}
use Rattle.isp_rtree.specs.Making.{HasSpace}
use Rattle.isp_rinsert.specs.Applying.{AreTaken}
use Rattle.isp_rinsert.specs.Inserting.{CanInsert, drawn}
use Rattle.isp_rinsert.specs.Preparing.{IsPrepared}
use Rattle.isp_rinsert.specs.declared.preparing.Prepared.{Prepared}
use Rattle.isp_rinsert.proofs.InsertLaws.{Took, steps_of}
use Rattle.isp_rinsert.proofs.SettledLaws.{needed_few}

pub needed_is : (slice steps : List Planned) (count : ℕ) → count ≡ pages_needed (reverse slice) → slice ≡ steps → count ≡ pages_needed (reverse steps)
needed_is slice steps count is same = is ∙ ap (λ (l : List Planned). pages_needed (reverse l)) same

pub few_needed : (steps : List Planned) (count : ℕ) → count ≡ pages_needed (reverse steps) → length steps ≤ 17 → count ≤ 18
few_needed steps count is few = omega (arith, is, few, needed_few (reverse steps), length-reverse steps)

pub free_left : (pages pages_now count : ℕ) (s : Space) → pages_now ≡ pages → count ≤ 18 → 18 ≤ free_pages pages s → count ≤ free_pages pages_now (drawn s)
free_left pages pages_now count s same few free = subst (λ (n : ℕ). count ≤ free_pages n (drawn s)) (sym same) (omega (arith, few, free))

pub nodes_are : (slice writes : List Settled) (counter : ℕ) (to : To) (steps : List Planned) (given news : List PageNo) → slice ≡ writes → nodes_of writes ≡ settled counter to steps given → given ≡ news → nodes_of slice ≡ settled counter to steps news
nodes_are slice writes counter to steps given news same nodes are = ap nodes_of same ∙ nodes ∙ ap (settled counter to steps) are

pub nodes_settled : (tree : Tree) (k key : ℤ) (n number told : ℕ) (steps : List Planned) (news : List PageNo) (writes : List Settled) → nodes_of writes ≡ settled told (Row k n) steps news → told ≡ counter tree → k ≡ key → n ≡ number → nodes_of writes ≡ settled_pages tree key number steps news
nodes_settled tree k key n number told steps news writes nodes counter_is key_is number_is = nodes ∙ (λ i. settled (counter_is i) (Row (key_is i) (number_is i)) steps news)

pub took_of : {S : Type 0} (g : Ghosts S) (old mid at : S) (owner root : ℕ) (tree : Tree) (s : Space) (path : List ℕ) (b : Corners) (w : Prepared) (news : List PageNo) (count : ℕ) → CanInsert g old owner root tree s path → IsPrepared (g.shape old).fanout owner tree path b w
    → g.shape mid ≡ g.shape old → g.shape at ≡ g.shape mid → HasSpace g mid (drawn s) → length news ≡ count → count ≡ pages_needed (steps_of w) → AreTaken g count (drawn s) news mid at → Took g old mid at owner root tree s path b w news
took_of g old mid at owner root tree s path b w news count can prepared shape_mid shape_at space long is taken = record {
  can = can;
  prepared = prepared;
  shape_mid = shape_mid;
  shape_at = shape_at ∙ shape_mid;
  space = space;
  count = long ∙ is;
  taken = subst (λ (n : ℕ). AreTaken g n (drawn s) news mid at) (sym long) taken;
}

-- ---- a fault behind calls that went well

pub began : {S : Type 0} (T : Type 0) (g : Ghosts S) (old mid : S) (x : T) → Continues {T = T} g old mid (Ok x) → Continued g old mid
began T g old mid x first = search rules

failed : {S : Type 0} (A B : Type 0) (g : Ghosts S) (old mid new : S) (e : StoreFault) → Continued g old mid → Continues {T = A} g mid new (Err e) → Continues {T = B} g old new (Err e)
failed A B g old mid new Disk first second = search rules
failed A B g old mid new Print first second = search rules
failed A B g old mid new (Damaged page rule) first second = search rules

pub fails_behind : {S : Type 0} (A B : Type 0) (g : Ghosts S) (old mid new : S) (e found : StoreFault) (r : Result B StoreFault) → r ≡ Err found → found ≡ e → Continued g old mid → Continues {T = A} g mid new (Err e) → Continues {T = B} g old new r
fails_behind A B g old mid new e found r is same first second =
    subst (λ (x : Result B StoreFault). Continues {T = B} g old new x) (ap Err (sym same) ∙ sym is) (failed A B g old mid new e first second)
