use Rattle.std.proofs.Common.{[], length, rules, subst, sym, true, ◌==◌, ◌≡◌}
use Rattle.std.proofs.lemmas.Result.{on_ok_weaker}
use Rattle.isp_store.specs.Running.{IsRunning}
use Rattle.isp_store.proofs.Putting.{still_held}
use Rattle.isp_store.proofs.Cleaned.{cleaned_holds, none_open, stays_on}
use Rattle.isp_store.proofs.changing.change_page.Goals as goal

pub put_bytes-requires-2-clause-running : goal.put_bytes-requires-2-clause-running
put_bytes-requires-2-clause-running g c =
    let empty : (length c.args.changes.now == 0) ≡ true = search rules in
    subst (IsRunning g.W.World c.find_room.new.cache) (sym (none_open c.args.changes.now empty)) c.in_ok-find_room.ensures.kept.running

pub returns-clause-kept : goal.returns-clause-kept
returns-clause-kept g c =
    let mid = c.find_room.new.cache in
    let room = c.in_ok-find_room.ensures in
    stays_on g.W.World c.args.cache.now mid c.put_bytes-2.new.cache [] _ tt _ room.kept room.alike c.put_bytes-2.ensures.kept

pub returns-clause-held : goal.returns-clause-held
returns-clause-held g c =
    let old = c.args.cache.now.pool in
    let mid = c.find_room.new.cache.pool in
    let cleaned = c.in_ok-find_room.ensures.cleaned in
    on_ok_weaker c.put_bytes-2.result (still_held c.args.p old mid c.put_bytes-2.new.cache.pool cleaned.count (cleaned_holds old mid cleaned)) c.put_bytes-2.ensures.held
