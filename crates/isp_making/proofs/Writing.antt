-- What is written before the made-gate.
use Rattle.std.proofs.Common.{◌≡◌, ℕ, ◌+◌, ◌*◌, ◌<◌, [], ◌∷◌, refl, sym, ◌∙◌, ap, arith}
use Rattle.isp_disk.specs.Moments.{Image, Agree, Within, either, in_range, put, slice}
use Rattle.isp_format.specs.Control.{control_bytes, made_gate}
use Rattle.isp_format.specs.Doublewrite.{area, area_place, doublewrite_gate}
use Rattle.isp_format.specs.Empty.{empty_contents, first_fresh}
use Rattle.isp_format.specs.Log.{log_place}
use Rattle.isp_format.specs.Ranges.{page_bytes}
use Rattle.isp_format.proofs.Offsets.{put_first, range_within}
use Rattle.isp_format.proofs.Places.{below, not_first, not_second}
use Rattle.isp_format.proofs.Slices.{put_below, slice_agree, slice_put}
use Rattle.isp_making.specs.Places.{IsWritten, content_places, first_places}
use Rattle.isp_format.proofs.ControlBytes.{control_long}

-- the places of each write are among those of all

pub control_within : Within (in_range 0 made_gate) content_places
control_within place out = not_first (in_range 0 made_gate place) (either (in_range doublewrite_gate 1) (either (in_range log_place 1) first_places) place) out

pub copies_within : Within (in_range doublewrite_gate 1) content_places
copies_within place out = not_first (in_range doublewrite_gate 1 place) (either (in_range log_place 1) first_places place) (not_second (in_range 0 made_gate place) (either (in_range doublewrite_gate 1) (either (in_range log_place 1) first_places) place) out)

pub log_within : Within (in_range log_place 1) content_places
log_within place out = not_first (in_range log_place 1 place) (first_places place) (not_second (in_range doublewrite_gate 1 place) (either (in_range log_place 1) first_places place) (not_second (in_range 0 made_gate place) (either (in_range doublewrite_gate 1) (either (in_range log_place 1) first_places) place) out))

pub pages_within : Within first_places content_places
pages_within place out = not_second (in_range log_place 1 place) (first_places place) (not_second (in_range doublewrite_gate 1 place) (either (in_range log_place 1) first_places place) (not_second (in_range 0 made_gate place) (either (in_range doublewrite_gate 1) (either (in_range log_place 1) first_places) place) out))

pub page_within : (page : ℕ) → page < first_fresh → Within (in_range (area_place + page * page_bytes) page_bytes) first_places
page_within page less = range_within area_place (first_fresh * page_bytes) (area_place + page * page_bytes) page_bytes (omega arith) (omega (arith, less))

-- the image with the control block and the two closed gates
abbrev pub with_front : ℕ → ℕ → Image → Image
with_front pages fanout image = put (put (put image 0 (control_bytes pages fanout)) doublewrite_gate (0 ∷ [])) log_place (0 ∷ [])

front_control : (pages fanout : ℕ) (image : Image) → slice (with_front pages fanout image) 0 made_gate ≡ control_bytes pages fanout
front_control pages fanout image =
    let first : Image = put image 0 (control_bytes pages fanout) in
    slice_agree (with_front pages fanout image) first 0 made_gate (λ place low high.
    put_below (put first doublewrite_gate (0 ∷ [])) log_place (0 ∷ []) place (omega (arith, high))
    ∙ put_below first doublewrite_gate (0 ∷ []) place (omega (arith, high)))
    ∙ ap (slice first 0) (sym (control_long pages fanout))
    ∙ slice_put image 0 (control_bytes pages fanout)

front_copies : (pages fanout : ℕ) (image : Image) → with_front pages fanout image doublewrite_gate ≡ 0
front_copies pages fanout image =
    let first : Image = put image 0 (control_bytes pages fanout) in
    put_below (put first doublewrite_gate (0 ∷ [])) log_place (0 ∷ []) doublewrite_gate (omega arith)
    ∙ put_first first doublewrite_gate 0 []

front_log : (pages fanout : ℕ) (image : Image) → with_front pages fanout image log_place ≡ 0
front_log pages fanout image = put_first (put (put image 0 (control_bytes pages fanout)) doublewrite_gate (0 ∷ [])) log_place 0 []

-- with the pages behind it, all but the made-gate is written
pub written_by : (pages fanout : ℕ) (old now : Image) → Agree first_places (with_front pages fanout old) now → ((place : ℕ) → place < first_fresh * page_bytes → area now place ≡ empty_contents place) → IsWritten pages fanout now
written_by pages fanout old now agree first =
    let front : Image = with_front pages fanout old in
    record {
      control = slice_agree now front 0 made_gate (λ place low high. sym (agree place (below area_place (first_fresh * page_bytes) place (omega (arith, high))))) ∙ front_control pages fanout old;
      copies = sym (agree doublewrite_gate refl) ∙ front_copies pages fanout old;
      log = sym (agree log_place refl) ∙ front_log pages fanout old;
      first = first;
    }
