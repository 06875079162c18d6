-- Further runs, by computation.
use Rattle.std.proofs.Common.{◌≡◌, refl, true}
use Rattle.std.specs.Fmt.{digits}
use Rattle.isp_waits.specs.Levels.{reaches, walk}
use Rattle.isp_geom.specs.Bounds.{points_of}
use Rattle.isp_geom.specs.Spelling.{spelling}
use Rattle.isp_wkt.specs.Printed.{printed}
use Rattle.isp_wkt.specs.Words.{word}
use Rattle.isp_plain.specs.Texts.{deadlock_text, end_text, full_text, ok_text}
use Rattle.isp_plain.specs.Refusals.{state, words}
use Rattle.isp_events.specs.Next.{next}
use Rattle.isp_events.specs.Lines.{untraced}
use Rattle.isp_event_laws.proofs.RunTests.{whole, whole_runs}
use Rattle.isp_event_examples.specs.Points.{five}
use Rattle.isp_event_examples.specs.FurtherRuns.{FurtherRunsFit, Prints, five_alone, small, doubling, doubling_choices, doubling_lines, filling, filling_choices, filling_lines, giving_way, giving_way_choices, giving_way_lines, going_over, going_over_choices, going_over_lines, listing, listing_choices, listing_lines}

good_listing : (whole listing 0 2 five listing_choices).good ≡ true
unfolding next points_of spelling reaches walk
good_listing = refl

told_listing : untraced (whole listing 0 2 five listing_choices).lines ≡ listing_lines
unfolding next points_of spelling printed word digits ok_text end_text state words full_text deadlock_text
told_listing = refl

prints_listing : Prints listing five listing_lines
prints_listing = (
  (whole listing 0 2 five listing_choices).lines,
  (whole listing 0 2 five listing_choices).left,
  whole_runs listing 0 2 five listing_choices (whole listing 0 2 five listing_choices).lines refl good_listing refl,
  told_listing,
)

good_giving_way : (whole giving_way 0 2 five giving_way_choices).good ≡ true
unfolding next points_of spelling reaches walk
good_giving_way = refl

told_giving_way : untraced (whole giving_way 0 2 five giving_way_choices).lines ≡ giving_way_lines
unfolding next points_of spelling printed word digits ok_text end_text state words full_text deadlock_text
told_giving_way = refl

prints_giving_way : Prints giving_way five giving_way_lines
prints_giving_way = (
  (whole giving_way 0 2 five giving_way_choices).lines,
  (whole giving_way 0 2 five giving_way_choices).left,
  whole_runs giving_way 0 2 five giving_way_choices (whole giving_way 0 2 five giving_way_choices).lines refl good_giving_way refl,
  told_giving_way,
)

good_doubling : (whole doubling 0 15 five_alone doubling_choices).good ≡ true
unfolding next points_of spelling reaches walk
good_doubling = refl

told_doubling : untraced (whole doubling 0 15 five_alone doubling_choices).lines ≡ doubling_lines
unfolding next points_of spelling printed word digits ok_text end_text state words full_text deadlock_text
told_doubling = refl

prints_doubling : Prints doubling five_alone doubling_lines
prints_doubling = (
  (whole doubling 0 15 five_alone doubling_choices).lines,
  (whole doubling 0 15 five_alone doubling_choices).left,
  whole_runs doubling 0 15 five_alone doubling_choices (whole doubling 0 15 five_alone doubling_choices).lines refl good_doubling refl,
  told_doubling,
)

good_going_over : (whole going_over 0 5 five going_over_choices).good ≡ true
unfolding next points_of spelling reaches walk
good_going_over = refl

told_going_over : untraced (whole going_over 0 5 five going_over_choices).lines ≡ going_over_lines
unfolding next points_of spelling printed word digits ok_text end_text state words full_text deadlock_text
told_going_over = refl

prints_going_over : Prints going_over five going_over_lines
prints_going_over = (
  (whole going_over 0 5 five going_over_choices).lines,
  (whole going_over 0 5 five going_over_choices).left,
  whole_runs going_over 0 5 five going_over_choices (whole going_over 0 5 five going_over_choices).lines refl good_going_over refl,
  told_going_over,
)

good_filling : (whole filling 1 32 small filling_choices).good ≡ true
unfolding next points_of spelling reaches walk
good_filling = refl

told_filling : untraced (whole filling 1 32 small filling_choices).lines ≡ filling_lines
unfolding next points_of spelling printed word digits ok_text end_text state words full_text deadlock_text
told_filling = refl

prints_filling : Prints filling small filling_lines
prints_filling = (
  (whole filling 1 32 small filling_choices).lines,
  (whole filling 1 32 small filling_choices).left,
  whole_runs filling 1 32 small filling_choices (whole filling 1 32 small filling_choices).lines refl good_filling refl,
  told_filling,
)

pub further_runs_fit : FurtherRunsFit
further_runs_fit = record { listing = prints_listing; giving_way = prints_giving_way; doubling = prints_doubling; going_over = prints_going_over; filling = prints_filling }
