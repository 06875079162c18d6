use Rattle.std.proofs.Common.{◌++◌, [], ◌∷◌, ℕ, sym, subst, arith, Option}
use Rattle.isp_disk.specs.Moments.{Image}
use Rattle.isp_disk.proofs.PhaseLaws.{reads_more}
use Rattle.isp_format.specs.Log.{log_of}
use Rattle.isp_redo.specs.Reading.{FindsTransaction, IsOnward, IsTransactionAt}
use Rattle.isp_redo.proofs.PlaceLaws.{transaction_forward, transactions_forward}
use Rattle.isp_redo.proofs.Positions.{transactions_on, transactions_rest}
use Rattle.isp_redo.proofs.scan.body_end.Goals as goal

pub returns-then-at-end-clause-found : goal.returns-then-at-end-clause-found
returns-then-at-end-clause-found g c tells [] some are = absurd (omega (arith, some))
returns-then-at-end-clause-found g c tells (t ∷ ts) some (mid, is, more) =
    let log = log_of (g.W.World.image c.args.world.now) in
    let here = c.if-at-end.true in
    absurd (omega (arith, here, transaction_forward c.args.pages log c.args.at t mid is, transactions_forward c.args.pages log mid ts c.args.end more))

pub transactions-preserved : goal.transactions-preserved
transactions-preserved g c =
    let w = g.W.World in
    let old = c.args.world.now in
    let mid = c.transactions.world in
    let inv = c.transactions.invariant in
    let onward = subst (λ (o : Option ℕ). IsOnward c.transactions.place c.args.end o) c.in-Some.is c.in_ok-next.ensures.onward in record {
      reads = reads_more w old mid c.transaction_end.new.world 0 _ 0 inv.reads c.in_ok-next.ensures.reads;
      inside = onward.1;
      so_far = λ tells.
          let so_far = inv.so_far tells in
          let found = subst (λ (o : Option ℕ). FindsTransaction c.args.pages (log_of (w.image mid)) c.transactions.place c.args.end o) c.in-Some.is (c.in_ok-next.ensures.found tells) in
          let is = subst (λ (i : Image). IsTransactionAt c.args.pages (log_of i) c.transactions.place found.0 c.in-Some.next) inv.reads.same found.1 in
          (so_far.0 ++ found.0 ∷ [], transactions_on c.args.pages (log_of (w.image old)) c.args.at so_far.0 c.transactions.place found.0 c.in-Some.next so_far.1 is);
    }

pub returns-in-None-clause-found : goal.returns-in-None-clause-found
returns-in-None-clause-found g c tells ts some are =
    let w = g.W.World in
    let old = c.args.world.now in
    let mid = c.transactions.world in
    let inv = c.transactions.invariant in
    let so_far = inv.so_far tells in
    let none = subst (λ (o : Option ℕ). FindsTransaction c.args.pages (log_of (w.image mid)) c.transactions.place c.args.end o) c.in-None.is (c.in_ok-next.ensures.found tells) in
    let next = transactions_rest c.args.pages (log_of (w.image old)) c.args.at so_far.0 ts c.transactions.place c.args.end c.requires.few so_far.1 are c.transactions-test.true in
    none next.0 next.1 next.3 (subst (λ (i : Image). IsTransactionAt c.args.pages (log_of i) c.transactions.place next.0 next.1) (sym inv.reads.same) next.2)
