use Rattle.std.proofs.Common.{[], ◌∷◌, subst}
use Rattle.isp_page.specs.State.{MiniTransaction}
use Rattle.isp_page.specs.Touched.{Grows}
use Rattle.isp_halving.proofs.HalvingLaws.{room_next}
use Rattle.isp_halving.proofs.two_pages.write_two.Goals as goal

pub replace-requires-2-clause-room : goal.replace-requires-2-clause-room
replace-requires-2-clause-room g c =
    let right = c.args.right.0 in
    let mid = g.P.Pages.mini c.replace.new.pages in
    room_next right c.args.page.0 (g.P.Pages.mini c.args.pages.now) mid (subst (λ (m : MiniTransaction). Grows (right ∷ []) m mid) c.in_ok-read.ensures.mini c.in_ok-replace.ensures.grown) c.requires.can.room
