-- A commit: the chain of a slot is finished, and its old rows are noted no more.
use Rattle.std.proofs.Common.{◌≡◌, ℕ, List, [], ◌++◌, map, refl, sym, subst}
use Rattle.isp_format.specs.Ranges.{Contents}
use Rattle.isp_space.specs.Giving.{with_chain}
use Rattle.isp_space.specs.Spaces.{Space}
use Rattle.isp_undo.specs.Calls.{HasStack, Restacks}
use Rattle.isp_undo.specs.Chains.{Chain, ends_of, pages_of}
use Rattle.isp_image.specs.Databases.{Database}
use Rattle.isp_chained.specs.Courses.{finishes}
use Rattle.isp_chained.proofs.DatabaseLaws.{finished_rows}
use Rattle.isp_chained.proofs.SlotLaws.{stack_of}
use Rattle.isp_chained.proofs.WrittenLaws.{finished_file}
use Rattle.isp_trx.specs.Writes.{CanCommit, Commits, DidCommit}

pub did_commit : (pages : ℕ) (old new : Contents) (chains : List Chain) (slot : ℕ) (chain : Chain) (d : Database) → CanCommit pages old chains slot chain d
    → Restacks pages old new (map ends_of chains) slot chain [] (with_chain (pages_of chain) d.space) [] → DidCommit pages new chains slot chain d
did_commit pages old new chains slot chain d can call =
    let f = finished_file pages old new d chains slot chain can.kept can.disjoint can.own call in
    let after : Database = record { space = with_chain (pages_of chain) d.space; tables = d.tables; images = f.newer ++ f.older } in
    record {
      after = after;
      kept = f.file;
      newer = f.newer;
      mine = f.mine;
      older = f.older;
      was = f.finishes.was;
      images = refl;
      newer_are = f.newer_are;
      mine_are = f.mine_are;
      tables = refl;
      finishing = finished_rows pages old d after chains f.newer f.mine f.older can.kept.holds f.finishes;
      step = finishes f.newer f.mine f.older (record { finishes = f.finishes; gone = pages_of chain; space = refl });
    }

-- what the call on the chain stands on
pub may_finish : (pages pages_now : ℕ) (old now : Contents) (chains : List Chain) (slot : ℕ) (chain : Chain) (d : Database) → pages_now ≡ pages → now ≡ old → CanCommit pages old chains slot chain d → HasStack pages_now now (map ends_of chains) slot chain d.space
may_finish pages pages_now old now chains slot chain d shape same can =
    subst (λ (n : ℕ). HasStack n now (map ends_of chains) slot chain d.space) (sym shape) (subst (λ (c : Contents). HasStack pages c (map ends_of chains) slot chain d.space) (sym same) (stack_of pages old d chains slot chain can.kept.holds can.own))

pub commits_of : (pages pages_mid pages_now : ℕ) (old mid new : Contents) (slot : ℕ) → pages_mid ≡ pages → pages_now ≡ pages → mid ≡ old
    → ((slots : List (ℕ × ℕ)) (chain : Chain) (s : Space) → HasStack pages_mid mid slots slot chain s → Restacks pages_now mid new slots slot chain [] (with_chain (pages_of chain) s) []) → Commits pages old slot new
commits_of pages pages_mid pages_now old mid new slot shape shape_now same call = record {
  makes = λ chains chain d can.
      let done = call (map ends_of chains) chain d.space (may_finish pages pages_mid old mid chains slot chain d shape same can) in
      did_commit pages old new chains slot chain d can
      (subst (λ (n : ℕ). Restacks n old new (map ends_of chains) slot chain [] (with_chain (pages_of chain) d.space) []) shape_now
      (subst (λ (c : Contents). Restacks pages_now c new (map ends_of chains) slot chain [] (with_chain (pages_of chain) d.space) []) same done));
}

pub can_commit_is : (pages : ℕ) (old : Contents) (chains : List Chain) (slot own : ℕ) (chain : Chain) (d : Database) → slot ≡ own → CanCommit pages old chains own chain d → CanCommit pages old chains slot chain d
can_commit_is pages old chains slot own chain d is can = subst (λ (n : ℕ). CanCommit pages old chains n chain d) (sym is) can
