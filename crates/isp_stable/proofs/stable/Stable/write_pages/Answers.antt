use Rattle.std.proofs.Common.{map}
use Rattle.isp_disk.proofs.MomentLaws.{widens}
use Rattle.isp_doublewrite.specs.Batches.{number_of, whole_page}
use Rattle.isp_stable.proofs.FileLaws.{beside, file_of, stands_by_batch}
use Rattle.isp_stable.proofs.Moves.{beside_batch, log_beside_batch, log_by_batch}
use Rattle.isp_stable.proofs.stable.Stable.write_pages.Goals as goal

pub returns-clause-written : goal.returns-clause-written
returns-clause-written g c = λ tells file.
    let w = g.W.World in
    let s = c.args.self.now in
    let batch = c.args.batch.now in
    let done = c.in_ok-write_batch.ensures.done tells in
    record {
      placed_are = done.placed;
      batches_are = file_of w (record s { world = c.write_batch.new.world }) file.batches
          (beside_batch s.pages s.fanout (map whole_page batch) (map number_of batch) (w.image s.world) (w.image c.write_batch.new.world) done (beside w s file))
          (log_beside_batch s.pages (map whole_page batch) (map number_of batch) (w.image s.world) (w.image c.write_batch.new.world) file.batches s.log.end done file.log);
      log_bytes_are = log_by_batch (map number_of batch) (w.image s.world) (w.image c.write_batch.new.world) done.others;
    }

pub returns-clause-stops : goal.returns-clause-stops
returns-clause-stops g c = λ tells file covered.
    let w = g.W.World in
    let s = c.args.self.now in
    let batch = c.args.batch.now in
    widens w.clock w.left_since s.world c.write_batch.new.world _ _ (c.in_ok-write_batch.ensures.stops tells)
    (λ left printed has. (stands_by_batch w s file (map whole_page batch) (map number_of batch) left covered has.copies has.whole has.others, has.same))

pub returns-in_err-write_batch-clause-stops : goal.returns-in_err-write_batch-clause-stops
returns-in_err-write_batch-clause-stops g c = λ tells file covered.
    let w = g.W.World in
    let s = c.args.self.now in
    let batch = c.args.batch.now in
    widens w.clock w.left_since s.world c.write_batch.new.world _ _ (c.in_err-write_batch.ensures.stops tells)
    (λ left printed has. (stands_by_batch w s file (map whole_page batch) (map number_of batch) left covered has.copies has.whole has.others, has.same))

pub returns-clause-pages : goal.returns-clause-pages
returns-clause-pages g c = λ tells file.
    let w = g.W.World in
    widens w.clock w.left_since c.args.self.now.world c.write_batch.new.world _ _ (c.in_ok-write_batch.ensures.stops tells) (λ left printed has. has.whole)

pub returns-in_err-write_batch-clause-pages : goal.returns-in_err-write_batch-clause-pages
returns-in_err-write_batch-clause-pages g c = λ tells file.
    let w = g.W.World in
    widens w.clock w.left_since c.args.self.now.world c.write_batch.new.world _ _ (c.in_err-write_batch.ensures.stops tells) (λ left printed has. has.whole)
