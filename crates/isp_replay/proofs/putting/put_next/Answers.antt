use Rattle.std.proofs.Common.{◌≡◌, ◌∙◌, List, ℕ, arith, length, rules, sym, ap, subst, take}
use Rattle.std.specs.Prelude.{Option}
use Rattle.isp_format.specs.Log.{log_of}
use Rattle.isp_redo.specs.Places.{LiesInPage, TakesRange}
use Rattle.isp_redo.specs.declared.ranges.LogRange.{LogRange}
use Rattle.isp_replay.proofs.PutLaws.{all_put, as_stood, it_fits, keeps_put, put_stops, range_put, stays_reading, steady_reading, stops_change, unpinned_reading}
use Rattle.isp_replay.proofs.putting.put_next.Goals as goal

pub returns-in_err-range-clause-put : goal.returns-in_err-range-clause-put
returns-in_err-range-clause-put g c = λ tells before batches so_far. record {
  put = search rules;
  stops = as_stood g.W.World before batches c.args.cache.now _ c.read_range.new.self.stable.world so_far (c.in_err-range.ensures.reads.stops tells so_far.cached.file);
  tested = search rules;
}

pub returns-in_default-clause-put : goal.returns-in_default-clause-put
returns-in_default-clause-put g c = λ tells before batches so_far.
    let w = g.W.World in
    let s = c.args.cache.now in
    let mid = c.read_range.new.self in
    let read = c.in_ok-range.ensures in
    let none = subst (λ (found : Option LogRange). TakesRange s.stable.pages (log_of (w.image s.stable.world)) so_far.ahead c.read_range.new.into found) c.in_default.is
    (read.found tells so_far.cached.file so_far.ahead so_far.lie_ahead) in
    record {
      put = all_put w before batches s mid c.args.from so_far none (stays_reading w s mid so_far.cached read.others read.reads.reads.same read.reads.log read.reads.shape);
      stops = as_stood w before batches s _ mid.stable.world so_far (read.reads.stops tells so_far.cached.file);
      tested = tt;
    }

pub returns-then-range-pages-clause-put : goal.returns-then-range-pages-clause-put
returns-then-range-pages-clause-put g c = λ tells before batches so_far.
    let w = g.W.World in
    let s = c.args.cache.now in
    let read = c.in_ok-range.ensures in
    let took = subst (λ (found : Option LogRange). TakesRange s.stable.pages (log_of (w.image s.stable.world)) so_far.ahead c.read_range.new.into found) c.in-Some.is
    (read.found tells so_far.cached.file so_far.ahead so_far.lie_ahead) in
    let fits = it_fits w before batches s c.args.from so_far took.0 took.1 took.2 in
    let pages : c.pages.result ≡ c.read_range.new.self.stable.pages = search rules in
    absurd (omega (arith, fits.page, took.3, c.if-range-pages.true, pages, read.reads.shape.pages))

pub change-requires-clause-steady : goal.change-requires-clause-steady
change-requires-clause-steady g c =
    let read = c.in_ok-range.ensures in
    steady_reading g.W.World c.args.cache.now c.read_range.new.self c.requires.ready c.requires.cached read.others read.reads.reads.quiet read.reads.reads.same read.reads.log read.reads.shape

pub change-requires-clause-unpinned : goal.change-requires-clause-unpinned
change-requires-clause-unpinned g c = unpinned_reading g.W.World c.args.cache.now c.read_range.new.self c.requires.ready c.in_ok-range.ensures.others

pub returns-in_err-change-clause-put : goal.returns-in_err-change-clause-put
returns-in_err-change-clause-put g c = λ tells before batches so_far.
    let w = g.W.World in
    let s = c.args.cache.now in
    let mid = c.read_range.new.self in
    let found = c.in_ok-range.ensures in
    let read = found.reads in
    let stays = stays_reading w s mid so_far.cached found.others read.reads.same read.log read.shape in
    record {
      put = search rules;
      stops = put_stops w before batches s mid c.change.new.self.stable.world c.args.from so_far stays read.shape read.reads.calls.printed (read.stops tells so_far.cached.file)
          (c.in_err-change.ensures.put.failed.stops tells stays.after.cached);
      tested = search rules;
    }

pub returns-clause-put : goal.returns-clause-put
returns-clause-put g c = λ tells before batches so_far.
    let w = g.W.World in
    let s = c.args.cache.now in
    let mid = c.read_range.new.self in
    let range = c.in-Some.range in
    let found = c.in_ok-range.ensures in
    let read = found.reads in
    let did = c.in_ok-change.ensures.put.put in
    let stays = stays_reading w s mid so_far.cached found.others read.reads.same read.log read.shape in
    let took = subst (λ (found : Option LogRange). TakesRange s.stable.pages (log_of (w.image s.stable.world)) so_far.ahead c.read_range.new.into found) c.in-Some.is
    (found.found tells so_far.cached.file so_far.ahead so_far.lie_ahead) in
    let in_page = subst LiesInPage c.in-Some.is found.in_page in
    let bytes : List ℕ = take c.from.result c.read_range.new.into in
    let bytes_are : bytes ≡ took.0.bytes = ap (λ (n : ℕ). take n c.read_range.new.into) c.from.ensures ∙ took.6 in
    let long : length bytes ≡ range.len = ap (λ (list : List ℕ). length list) bytes_are ∙ sym took.5 in
    record {
      put = range_put w before batches s mid c.change.new.self c.args.from range.next so_far stays read.shape took.0 took.1 took.2 range.page range.at bytes took.3 took.4 bytes_are (omega (arith, long, in_page.1)) did took.7 tells;
      stops = put_stops w before batches s mid c.change.new.self.stable.world c.args.from so_far stays read.shape read.reads.calls.printed (read.stops tells so_far.cached.file)
          (stops_change w mid c.change.new.self range.page range.at bytes did tells stays.after.cached);
      tested = tt;
    }

pub returns-clause-kept : goal.returns-clause-kept
returns-clause-kept g c =
    let found = c.in_ok-range.ensures in
    keeps_put g.W.World c.args.cache.now c.read_range.new.self c.change.new.self c.in-Some.range.page c.in-Some.range.at (take c.from.result c.read_range.new.into) _ _ c.requires.ready found.others found.reads c.in_ok-change.ensures.put.put
