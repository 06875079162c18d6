use Rattle.std.proofs.Common.{rules, Option, sym, ◌∙◌, ap, subst}
use Rattle.std.specs.Prelude.{IfSome}
use Rattle.std.specs.Option.{option_map}
use Rattle.isp_format.specs.Ranges.{Contents, page_of}
use Rattle.isp_page.specs.State.{FileShape}
use Rattle.isp_space.specs.Spaces.{next_free}
use Rattle.isp_undo_pages.specs.Directory.{ends_in}
use Rattle.isp_undo_pages.specs.Entries.{image_in}
use Rattle.isp_undo_pages.specs.declared.directory.Slot.{Slot}
use Rattle.isp_undo_walks.specs.Slots.{IsInside}
use Rattle.isp_undo.specs.Calls.{CanPush, Restacks, page_taken, space_after}
use Rattle.isp_undo_walks.specs.Chains.{Chain, ends_of}
use Rattle.isp_undo.specs.Chains.{pushed}
use Rattle.isp_undo_walks.proofs.ChainLaws.{ends_found, none_found}
use Rattle.isp_undo_walks.proofs.LinkLaws.{chain_end}
use Rattle.isp_undo.proofs.PopLaws.{restacks_from}
use Rattle.isp_undo.proofs.PushLaws.{can_push_now}
use Rattle.isp_undo_walks.proofs.WalkLaws.{some_pages}
use Rattle.isp_undo.proofs.pushing.push.Goals as goal

pub returns-in_err-push_behind-in-Some-clause-sound : goal.returns-in_err-push_behind-in-Some-clause-sound
returns-in_err-push_behind-in-Some-clause-sound g c tells slots chain s can =
    let f = c.in_ok-found.ensures in
    let image = image_in c.args.old.now in
    let ends = ends_found chain c.in-Some.ends (ap (λ (o : Option Slot). option_map ends_in o) (sym c.in-Some.is) ∙ f.found tells slots chain can.stack.stack) in
    let inside = subst (λ (o : Option Slot). IfSome o (IsInside (g.P.Pages.shape c.args.pages.now).pages)) c.in-Some.is f.inside in
    let e = chain_end chain (some_pages chain (ends_in c.in-Some.ends) ends inside.first_from) in
    let now = can_push_now _ _ _ _ slots c.args.slot chain s image (ap (λ (s : FileShape). s.pages) f.reads.kept.keeps.same_shape) (f.reads.contents tells) can in
    let sound = c.in_err-push_behind-in-Some.ensures.sound tells slots e.front e.last s (subst (λ (chain : Chain). CanPush (g.P.Pages.shape c.read_slot.new.pages).pages (g.P.Pages.contents c.read_slot.new.pages) slots c.args.slot chain s image) e.is now) (ends ∙ ap ends_of e.is) in
    search (rules, sound, c.from_residual-in_err-push_behind-in-Some.ensures)

pub returns-in_ok-push_behind-in-Some-clause-pushed : goal.returns-in_ok-push_behind-in-Some-clause-pushed
returns-in_ok-push_behind-in-Some-clause-pushed g c tells slots chain s can =
    let f = c.in_ok-found.ensures in
    let image = image_in c.args.old.now in
    let contents = f.reads.contents tells in
    let ends = ends_found chain c.in-Some.ends (ap (λ (o : Option Slot). option_map ends_in o) (sym c.in-Some.is) ∙ f.found tells slots chain can.stack.stack) in
    let inside = subst (λ (o : Option Slot). IfSome o (IsInside (g.P.Pages.shape c.args.pages.now).pages)) c.in-Some.is f.inside in
    let e = chain_end chain (some_pages chain (ends_in c.in-Some.ends) ends inside.first_from) in
    let now = can_push_now _ _ _ _ slots c.args.slot chain s image (ap (λ (s : FileShape). s.pages) f.reads.kept.keeps.same_shape) contents can in
    let done = c.in_ok-push_behind-in-Some.ensures.pushed tells (f.page tells ∙ sym (ap (λ (k : Contents). page_of k 1) contents)) slots e.front e.last s (subst (λ (chain : Chain). CanPush (g.P.Pages.shape c.read_slot.new.pages).pages (g.P.Pages.contents c.read_slot.new.pages) slots c.args.slot chain s image) e.is now) (ends ∙ ap ends_of e.is) in
    let whole = subst (λ (chain : Chain). Restacks (g.P.Pages.shape c.push_behind.new.pages).pages (g.P.Pages.contents c.read_slot.new.pages) (g.P.Pages.contents c.push_behind.new.pages) slots c.args.slot chain (pushed (next_free s) image chain) (space_after image chain s) (page_taken image chain s)) (sym e.is) done in
    restacks_from _ _ _ _ slots c.args.slot chain _ _ _ contents whole

pub returns-in_err-begin-in-None-clause-sound : goal.returns-in_err-begin-in-None-clause-sound
returns-in_err-begin-in-None-clause-sound g c tells slots chain s can =
    let f = c.in_ok-found.ensures in
    let image = image_in c.args.old.now in
    let none = none_found chain (ap (λ (o : Option Slot). option_map ends_in o) (sym c.in-None.is) ∙ f.found tells slots chain can.stack.stack) in
    let now = can_push_now _ _ _ _ slots c.args.slot chain s image (ap (λ (s : FileShape). s.pages) f.reads.kept.keeps.same_shape) (f.reads.contents tells) can in
    let sound = c.in_err-begin-in-None.ensures.sound tells slots s (subst (λ (chain : Chain). CanPush (g.P.Pages.shape c.read_slot.new.pages).pages (g.P.Pages.contents c.read_slot.new.pages) slots c.args.slot chain s image) none now) in
    search (rules, sound, c.from_residual-in_err-begin-in-None.ensures)

pub returns-in_ok-begin-in-None-clause-pushed : goal.returns-in_ok-begin-in-None-clause-pushed
returns-in_ok-begin-in-None-clause-pushed g c tells slots chain s can =
    let f = c.in_ok-found.ensures in
    let image = image_in c.args.old.now in
    let contents = f.reads.contents tells in
    let none = none_found chain (ap (λ (o : Option Slot). option_map ends_in o) (sym c.in-None.is) ∙ f.found tells slots chain can.stack.stack) in
    let now = can_push_now _ _ _ _ slots c.args.slot chain s image (ap (λ (s : FileShape). s.pages) f.reads.kept.keeps.same_shape) contents can in
    let done = c.in_ok-begin-in-None.ensures.pushed tells (f.page tells ∙ sym (ap (λ (k : Contents). page_of k 1) contents)) slots s (subst (λ (chain : Chain). CanPush (g.P.Pages.shape c.read_slot.new.pages).pages (g.P.Pages.contents c.read_slot.new.pages) slots c.args.slot chain s image) none now) in
    let whole = subst (λ (chain : Chain). Restacks (g.P.Pages.shape c.begin.new.pages).pages (g.P.Pages.contents c.read_slot.new.pages) (g.P.Pages.contents c.begin.new.pages) slots c.args.slot chain (pushed (next_free s) image chain) (space_after image chain s) (page_taken image chain s)) (sym none) done in
    restacks_from _ _ _ _ slots c.args.slot chain _ _ _ contents whole
