use Rattle.std.proofs.Common.{rules, ◌≡◌, ◌+◌, ◌-◌, ◌<◌, ◌≤◌, ◌++◌, ℕ, List, get_or, length, sym, ◌∙◌, ap, subst}
use Rattle.isp_format.specs.Log.{range_bytes}
use Rattle.isp_format.specs.Ranges.{Contents}
use Rattle.isp_frames.specs.Held.{now_over}
use Rattle.isp_mini.specs.Extents.{body_front, largest_body, range_in}
use Rattle.isp_mini.specs.declared.changes.Extent.{Extent}
use Rattle.isp_mini.proofs.BodyLaws.{front_all, front_fits, front_next, front_none}
use Rattle.isp_store.proofs.logging.spell.Goals as goal

pub loop-extent-init : goal.loop-extent-init
loop-extent-init c = λ placed. c.begin.ensures ∙ sym (front_none (length c.args.extents.now) (now_over c.args.pool.now.frames placed) c.args.extents.now)

pub spell_range-requires-clause-room : goal.spell_range-requires-clause-room
spell_range-requires-clause-room c =
    let now : Contents = now_over c.args.pool.now.frames (λ place. 0) in
    let extents = c.args.extents.now in
    let i = c.loop-extent.extent-index in
    let d : Extent = record { page = record { 0 = 0 }; at = 0; end = 0 } in
    let lt : i < length extents = search rules in
    subst (λ (bytes : List ℕ). length bytes + 8 + ((get_or extents i d).end - (get_or extents i d).at) ≤ largest_body)
    (sym (c.loop-extent.invariant (λ place. 0))) (front_fits (length extents) now extents i d c.requires.extents lt)

pub loop-extent-preserved : goal.loop-extent-preserved
loop-extent-preserved c = λ placed.
    let now : Contents = now_over c.args.pool.now.frames placed in
    let extents = c.args.extents.now in
    let i = c.loop-extent.extent-index in
    let d : Extent = record { page = record { 0 = 0 }; at = 0; end = 0 } in
    let lt : i < length extents = search rules in
    c.spell_range.ensures placed
    ∙ ap (λ (bytes : List ℕ). bytes ++ range_bytes (range_in now (get_or extents i d))) (c.loop-extent.invariant placed)
    ∙ front_next (length extents) now extents i d lt

pub returns : goal.returns
returns c = λ placed.
    let now : Contents = now_over c.args.pool.now.frames placed in
    let extents = c.args.extents.now in
    let done : c.loop-extent.extent-index ≡ length extents = search rules in
    c.loop-extent.invariant placed ∙ ap (body_front (length extents) now extents) done ∙ front_all now extents
