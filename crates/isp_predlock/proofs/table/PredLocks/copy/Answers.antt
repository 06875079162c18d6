use Rattle.std.proofs.Common.{rules, ◌≡◌, ◌<◌, ◌≤◌, ◌∙◌, ℕ, List, ap, arith, subst, get_or, length, map}
use Rattle.std.proofs.lemmas.List.{length-map, take_all}
use Rattle.isp_predlock.specs.Tables.{HeldSearch, id_of}
use Rattle.isp_predlock.proofs.CallLaws.{copied_all, copied_among, copied_next, copied_nobody}
use Rattle.isp_predlock.proofs.table.PredLocks.copy.Goals as goal

pub loop-i-init : goal.loop-i-init
loop-i-init c = record { searches = copied_nobody c.args.from.0 c.args.to.0 c.args.b.now c.args.self.now.searches; spare = search rules }

pub loop-i-preserved : goal.loop-i-preserved
loop-i-preserved c =
    let searches : List HeldSearch = c.args.self.now.searches in
    let i = c.loop-i.i in
    let size : length c.ids-i-end.result.now ≡ length searches = ap (λ (l : List ℕ). length l) c.ids-i-end.ensures.ids ∙ length-map searches id_of in
    let inside : i < length searches = subst (λ (n : ℕ). i < n) size c.loop-i-test.true in
    record {
      searches = copied_next c.args.from.0 c.args.to.0 c.args.b.now searches c.loop-i.self.searches c.copy_one.new.self.searches i (get_or c.ids.result.now i 0) inside c.loop-i.invariant.searches
          (ap (λ (l : List ℕ). get_or l i 0) c.ids.ensures.ids) c.copy_one.ensures.copied;
      spare = omega (arith, c.loop-i.invariant.spare, c.copy_one.ensures.spare);
    }

pub returns-clause-copied : goal.returns-clause-copied
returns-clause-copied c =
    let searches : List HeldSearch = c.args.self.now.searches in
    let ids : List ℕ = map id_of searches in
    let size : length c.ids-i-end.result.now ≡ length ids = ap (λ (l : List ℕ). length l) c.ids-i-end.ensures.ids in
    let whole : length ids ≤ c.loop-i.i = subst (λ (n : ℕ). n ≤ c.loop-i.i) size c.loop-i-test.false in
    c.loop-i.invariant.searches
    ∙ ap (λ (l : List ℕ). map (copied_among l c.args.from.0 c.args.to.0 c.args.b.now) searches) (take_all c.loop-i.i ids whole)
    ∙ copied_all c.args.from.0 c.args.to.0 c.args.b.now searches
