use Rattle.std.proofs.Common.{◌≡◌, ◌+◌, ℕ, sym, ◌∙◌, ap, subst, arith, Option}
use Rattle.isp_disk.specs.Moments.{Image, slice}
use Rattle.isp_format.specs.Log.{IsBatch, log_of}
use Rattle.isp_format.specs.Numbers.{bytes_of}
use Rattle.isp_redo.specs.Reading.{AreTransactionsAt, FindsBody}
use Rattle.isp_redo.proofs.Positions.{batch_made, batch_read, size_is}
use Rattle.isp_redo.proofs.scan.batch_at.Goals as goal

pub returns-in-Some-clause-found : goal.returns-in-Some-clause-found
returns-in-Some-clause-found g c tells =
    let w = g.W.World in
    let old = c.args.world.now in
    let at = c.args.at in
    let size = c.from-size.result in
    let gate : log_of (w.image old) at ≡ 1 = c.in_ok-read_gate.ensures.gate tells ∙ c.if-branch-ne1.false in
    let same = c.read_size.ensures.reads.same ∙ c.read_gate.ensures.reads.same in
    let stands : slice (log_of (w.image old)) (at + 1) 4 ≡ bytes_of 4 size =
    ap (λ (i : Image). slice (log_of i) (at + 1) 4) (sym c.read_gate.ensures.reads.same) ∙ c.in_ok-read_size.ensures.size tells ∙ ap (bytes_of 4) (sym c.from-size.ensures) in
    let body = subst (λ (o : Option ℕ). FindsBody c.args.pages (log_of (w.image c.read_size.new.world)) (at + 5) (at + 5 + size) o) c.in-Some.is (c.in_ok-next.ensures.found tells) in
    let room = c.if-at.false in
    let small = c.if-size-at.false in
    let are = subst (λ (i : Image). AreTransactionsAt c.args.pages (log_of i) (at + 5) body.0 (at + 5 + size)) same body.2 in
    let is = batch_made c.args.pages (log_of (w.image old)) at size body.0 gate stands (omega (arith, room, small)) body.1 are in
    (body.0, subst (λ (next : ℕ). IsBatch c.args.pages (log_of (w.image old)) at body.0 next) (sym body.3) is)

pub returns-in-None-clause-found : goal.returns-in-None-clause-found
returns-in-None-clause-found g c tells =
    let w = g.W.World in
    let old = c.args.world.now in
    let at = c.args.at in
    let size = c.from-size.result in
    let gate : log_of (w.image old) at ≡ 1 = c.in_ok-read_gate.ensures.gate tells ∙ c.if-branch-ne1.false in
    let same = c.read_size.ensures.reads.same ∙ c.read_gate.ensures.reads.same in
    let stands : slice (log_of (w.image old)) (at + 1) 4 ≡ bytes_of 4 size =
    ap (λ (i : Image). slice (log_of i) (at + 1) 4) (sym c.read_gate.ensures.reads.same) ∙ c.in_ok-read_size.ensures.size tells ∙ ap (bytes_of 4) (sym c.from-size.ensures) in
    let body = subst (λ (o : Option ℕ). FindsBody c.args.pages (log_of (w.image c.read_size.new.world)) (at + 5) (at + 5 + size) o) c.in-None.is (c.in_ok-next.ensures.found tells) in
    let small = c.if-size-at.false in (
      gate,
      λ batch next is.
          let end = size_is c.args.pages (log_of (w.image old)) at size batch next (omega (arith, small)) stands is in
          let are = subst (λ (place : ℕ). AreTransactionsAt c.args.pages (log_of (w.image old)) (at + 5) batch place) end (batch_read c.args.pages (log_of (w.image old)) at batch next is) in
          body batch is.means.some (subst (λ (i : Image). AreTransactionsAt c.args.pages (log_of i) (at + 5) batch (at + 5 + size)) (sym same) are),
    )
