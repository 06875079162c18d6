-- What a stop leaves in each step.
use Rattle.std.proofs.Common.{◌≡◌, ◌≢◌, ◌⊎◌, inl, inr, ℕ, ◌+◌, ◌<◌, ◌^◌, List, [], ◌∷◌, ◌++◌, take, drop, refl, sym, ◌∙◌, ap, subst, arith}
use Rattle.std.proofs.lemmas.Bool.{cases_eq}
use Rattle.byteorder.specs.Endian.{big_number}
use Rattle.byteorder.specs.Numbers.{big_number-reads_back}
use Rattle.isp_disk.specs.Moments.{Image, Region, Agree, During, Elapses, LeavesOnly, Within, either, no_place, slice}
use Rattle.isp_disk.specs.Phases.{LeftOfPhase, Phase}
use Rattle.isp_disk.specs.declared.world.World.{Ghosts}
use Rattle.isp_disk.proofs.MomentLaws.{agree_wider, chains, goes_on, nothing_told, started, widens, within_both}
use Rattle.isp_format.specs.Contents.{StandsFor}
use Rattle.isp_format.specs.Control.{IsControl, IsFanout, IsPages, control_bytes, fanout_in, file_name, made_gate, pages_in}
use Rattle.isp_format.specs.Doublewrite.{area, area_place, doublewrite_gate}
use Rattle.isp_format.specs.Log.{log_of}
use Rattle.isp_format.specs.Ranges.{Range, puts}
use Rattle.isp_format.proofs.Local.{copies_closed}
use Rattle.isp_format.proofs.Places.{above, below}
use Rattle.isp_format.proofs.Slices.{slice_agree}
use Rattle.isp_making.specs.Making.{IsMade, LeavesMaking}
use Rattle.isp_making.specs.Places.{IsWritten, content_places, made_place}

-- the numbers of a control block

name_is : (pages fanout : ℕ) (image : Image) → slice image 0 made_gate ≡ control_bytes pages fanout → slice image 0 8 ≡ file_name
unfolding file_name
name_is pages fanout image is = ap (take 8) is

pages_are : (pages fanout : ℕ) (image : Image) → pages < 256 ^ 4 → slice image 0 made_gate ≡ control_bytes pages fanout → pages_in image ≡ pages
unfolding file_name
pages_are pages fanout image fits is = ap (λ (bytes : List ℕ). big_number 4 (take 4 (drop 8 bytes))) is ∙ big_number-reads_back 4 pages [] fits

fanout_is : (pages fanout : ℕ) (image : Image) → fanout < 256 ^ 4 → slice image 0 made_gate ≡ control_bytes pages fanout → fanout_in image ≡ fanout
unfolding file_name
fanout_is pages fanout image fits is = ap (λ (bytes : List ℕ). big_number 4 (take 4 (drop 12 bytes))) is ∙ big_number-reads_back 4 fanout [] fits

-- what is read beside the made-gate
beside : (written now : Image) → Agree made_place written now → slice now 0 made_gate ≡ slice written 0 made_gate
beside written now agree = slice_agree now written 0 made_gate (λ place low high. sym (agree place (below made_gate 1 place (omega (arith, high)))))

-- a file without copies and without batches stands for its page area
stands_for_area : (image : Image) → IsControl image → image doublewrite_gate ≡ 0 → log_of image 0 ≡ 0 → StandsFor image (area image)
stands_for_area image control copies log =
    let closed : image doublewrite_gate ≢ 1 = λ is. absurd (omega (arith, copies, is)) in
    record {
      control = control;
      copies = λ is. absurd (closed is);
      batches = [];
      end = 0;
      log = ((λ is. absurd (omega (arith, log, is))), refl);
      contents_are = ap (λ (ranges : List Range). puts ranges (area image)) (sym (copies_closed image closed));
    }

-- the made-gate makes what is written a file
pub made_by : (pages fanout : ℕ) (written now : Image) → IsPages pages → IsFanout fanout → IsWritten pages fanout written → Agree made_place written now → now made_gate ≡ 1 → IsMade pages fanout now
made_by pages fanout written now many wide is agree gate =
    let control : slice now 0 made_gate ≡ control_bytes pages fanout = beside written now agree ∙ is.control in
    let pages_now : pages_in now ≡ pages = pages_are pages fanout now (omega (arith, many.1)) control in
    let fanout_now : fanout_in now ≡ fanout = fanout_is pages fanout now (omega (arith, wide.1)) control in
    let control_now : IsControl now = record {
      name = name_is pages fanout now control;
      made = gate;
      pages = subst IsPages (sym pages_now) many;
      fanout = subst IsFanout (sym fanout_now) wide;
    } in
    let copies : now doublewrite_gate ≡ 0 = sym (agree doublewrite_gate refl) ∙ is.copies in
    let log : log_of now 0 ≡ 0 = sym (agree 266240 refl) ∙ is.log in
    record {
      control = control_now;
      block = λ i. control i ++ gate i ∷ [];
      pages_are = pages_now;
      fanout_is = fanout_now;
      copies = copies;
      log = log;
      first = λ place less. sym (agree (area_place + place) (above made_gate 1 (area_place + place) (omega arith))) ∙ is.first place less;
      stands = stands_for_area now control_now copies log;
    }

-- while it is written the made-gate is no 1, or the file is whole
whole_or_none : (pages fanout : ℕ) (written left : Image) → IsPages pages → IsFanout fanout → IsWritten pages fanout written → Agree made_place written left → (left made_gate ≢ 1) ⊎ IsMade pages fanout left
whole_or_none pages fanout written left many wide is agree = elim (cases_eq (left made_gate) 1) [
  | inl gate ↦ inr (made_by pages fanout written left many wide is agree gate)
  | inr shut ↦ inl shut
]

-- one step behind the other, from any world on
module _ {W : Type 0} (g : Ghosts W) (pages fanout : ℕ) (region : Region) (old : W) where
  abbrev Left : Image → List ℕ → Type 0
  Left left printed = (Agree region (g.image old) left ⊎ ((left made_gate ≢ 1) ⊎ IsMade pages fanout left)) × (printed ≡ g.printed old)

  abbrev Leaves : W → Type 0
  Leaves new = LeavesMaking g pages fanout region old new

  -- the first sync, which may find bytes pending
  pub syncs : (new : W) → ((left : Image) (printed : List ℕ) → g.left_since old (g.clock old) left printed → Agree (g.pending old) (g.image old) left × (printed ≡ g.printed old)) → Within (g.pending old) region → Elapses (g.clock old) (g.clock new) (g.left_since old) (g.left_since new) (During (g.image old) (g.pending old) no_place (g.printed old) []) → Leaves new
  syncs new only within time =
      let now : LeavesOnly g.clock g.left_since old old Left = started g.clock g.left_since old Left (λ left printed since. let was = only left printed since in (inl (agree_wider (g.pending old) region (g.image old) left within was.0), was.1)) in
      goes_on g.clock g.left_since old old new Left (During (g.image old) (g.pending old) no_place (g.printed old) []) now time (λ left printed during.
      (inl (agree_wider (either (g.pending old) no_place) region (g.image old) left (within_both (g.pending old) no_place region within (λ place out. refl)) during.agree), nothing_told (g.printed old) printed during.part))

  -- the made-gate is read, and closed where it is open
  pub closes : (mid new : W) (touched : Region) → Leaves mid → Within touched region → g.image mid ≡ g.image old → g.printed mid ≡ g.printed old → Phase g mid new touched → Leaves new
  closes mid new touched so_far within same printed phase =
      chains g.clock g.left_since old mid new Left so_far (widens g.clock g.left_since mid new (LeftOfPhase g mid touched) Left phase.leaves (λ left said has.
      (inl (agree_wider touched region (g.image old) left within (λ place out. ap (λ (x : Image). x place) (sym same) ∙ has.0 place out)), has.1 ∙ printed)))

  -- all else is written while the made-gate is no 1
  pub fills : (mid new : W) → Leaves mid → g.image mid made_gate ≢ 1 → g.printed mid ≡ g.printed old → Phase g mid new content_places → Leaves new
  fills mid new so_far shut printed phase =
      chains g.clock g.left_since old mid new Left so_far (widens g.clock g.left_since mid new (LeftOfPhase g mid content_places) Left phase.leaves (λ left said has.
      (inr (inl (λ is. shut (has.0 made_gate refl ∙ is))), has.1 ∙ printed)))

  -- the made-gate is opened: it is no 1, or the file is whole
  pub opens : (mid new : W) → Leaves mid → IsPages pages → IsFanout fanout → IsWritten pages fanout (g.image mid) → g.printed mid ≡ g.printed old → Phase g mid new made_place → Leaves new
  opens mid new so_far many wide written printed phase =
      chains g.clock g.left_since old mid new Left so_far (widens g.clock g.left_since mid new (LeftOfPhase g mid made_place) Left phase.leaves (λ left said has.
      (inr (whole_or_none pages fanout (g.image mid) left many wide written has.0), has.1 ∙ printed)))
