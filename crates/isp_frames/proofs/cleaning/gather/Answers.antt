use Rattle.std.proofs.Common.{◌≡◌, ◌+◌, ◌≤◌, List, arith, count_by, length, sym, subst}
use Rattle.isp_frames.specs.Gathered.{IsTaken}
use Rattle.isp_frames.proofs.Gathering.{none_left, taken_none}
use Rattle.isp_frames.proofs.KeptLaws.{cleaned_unpinned}
use Rattle.isp_format.specs.declared.page.Page.{Page}
use Rattle.isp_base.specs.declared.page_no.PageNo.{PageNo}
use Rattle.isp_pool.specs.Frames.{is_dirty}
use Rattle.isp_frames.proofs.cleaning.gather.Goals as goal

pub taking-init : goal.taking-init
taking-init c =
    let s = c.args.pool.now in
    let nothing = sym c.clear.ensures.items in
    record {
      taken = subst (λ (batch : List (PageNo × Page)). IsTaken s s batch) nothing (taken_none s);
      most = subst (λ (batch : List (PageNo × Page)). length batch ≤ 64) nothing (omega arith);
      room = c.clear.ensures.capacity;
    }

pub returns-in_default-clause-count : goal.returns-in_default-clause-count
returns-in_default-clause-count c =
    let so_far = c.taking.invariant in
    let none : count_by is_dirty c.taking.pool.frames ≡ 0 = none_left c.args.pool.now c.taking.pool so_far.taken.cleaned c.requires.unpinned (c.last_dirty.ensures.none c.in_default.is) in
    let all : count_by is_dirty c.taking.pool.frames + length c.taking.batch.items ≡ count_by is_dirty c.args.pool.now.frames = so_far.taken.count in
    omega (arith, none, all, so_far.most)

pub take-requires-clause-unpinned : goal.take-requires-clause-unpinned
take-requires-clause-unpinned c = λ i. cleaned_unpinned c.args.pool.now c.taking.pool c.taking.invariant.taken.cleaned c.requires.unpinned i
