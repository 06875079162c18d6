use Rattle.std.proofs.Common.{◌≡◌, ◌∙◌, None, subst, sym, ap, IsSome}
use Rattle.std.specs.List.{fold}
use Rattle.isp_geom.proofs.AllPoints.{has_points, box_is_there}
use Rattle.isp_geom.specs.Bounds.{points_of, widened}
use Rattle.isp_geom.proofs.bounds.box_of.Goals as goal

pub unwrap-requires : goal.unwrap-requires
unwrap-requires c =
    let same : c.round_form.result ≡ fold widened None (points_of c.args.geometry.now) = c.round_form.ensures ∙ ap (λ f. fold widened None (points_of f)) c.form.ensures.form in
    subst IsSome (sym same) (box_is_there (points_of c.args.geometry.now) (has_points 9 c.args.geometry.now c.form.ensures.kept))
