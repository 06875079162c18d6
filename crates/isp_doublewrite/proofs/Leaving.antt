-- What a stop leaves of the phases of a batch and of a restore, on images alone.
use Rattle.std.proofs.Common.{◌≡◌, ◌≢◌, ◌⊎◌, inl, inr, ⊎_elim, ℕ, zero, suc, ◌+◌, ◌*◌, ◌≤◌, false, List, [], ◌∷◌, map, min, refl, sym, ◌∙◌, ap, subst, arith}
use Rattle.std.proofs.lemmas.Bool.{cases_eq}
use Rattle.isp_disk.specs.Moments.{Image, Region, Agree, Within, either, in_range, no_place, put}
use Rattle.isp_disk.proofs.MomentLaws.{agree_on, agree_wider}
use Rattle.isp_doublewrite.specs.Batches.{AreWhole, BatchLeft, IsBatchDone, IsStaged}
use Rattle.isp_doublewrite.specs.Places.{batch_places, gate_place, page_places, staged_places}
use Rattle.isp_doublewrite.specs.Restores.{AreLaid, RestoreLeft, copied_pages, restored_places}
use Rattle.isp_format.specs.Control.{pages_in}
use Rattle.isp_format.specs.Doublewrite.{HasCopies, IsCopyList, area, area_place, copies, copies_from, copies_place, copy_count, doublewrite_gate, laid, most_copies}
use Rattle.isp_format.specs.Ranges.{Range, SameIn, cover, page_bytes, puts}
use Rattle.isp_format.proofs.Local.{copies_closed, copies_from_same, copies_open, count_same}
use Rattle.isp_format.proofs.Places.{above, neither, not_first, not_second}
use Rattle.isp_format.proofs.Puts.{absorbs, puts_again}
use Rattle.isp_format.proofs.Slices.{length-slice}
use Rattle.isp_doublewrite.proofs.InPlace.{pages_cover}
use Rattle.isp_doublewrite.proofs.PlaceLaws.{pages_above}

-- the page area of images that agree there
pub same_area : (region : Region) (one other : Image) → ((place : ℕ) → region (area_place + place) ≡ false) → Agree region one other → area other ≡ area one
same_area region one other out agree = λ i place. sym (agree (area_place + place) (out place)) i

pub staged_below_area : (place : ℕ) → staged_places (area_place + place) ≡ false
staged_below_area place = neither (in_range 1024 260 (area_place + place)) (in_range 4096 262144 (area_place + place)) (above 1024 260 (area_place + place) (omega arith)) (above 4096 262144 (area_place + place) (omega arith))

pub gate_below_area : (place : ℕ) → gate_place (area_place + place) ≡ false
gate_below_area place = above 512 1 (area_place + place) (omega arith)

-- the list and the copies of an image that agrees with another on them
pub staged_same : (count : ℕ) (ranges : List Range) (one other : Image) → count ≤ 64 → IsStaged count ranges one → SameIn 1024 260 one other → SameIn 4096 262144 one other → IsStaged count ranges other
staged_same count ranges one other most staged list pages = record {
  counted = sym (count_same one other list) ∙ staged.counted;
  listed = sym (copies_from_same one other 0 count (omega (arith, most)) list pages) ∙ staged.listed;
  whole = staged.whole;
}

-- where the gate is 1, a list and copies that are these pages are the copies that count
pub open_copies : (count : ℕ) (ranges : List Range) (image : Image) → count ≤ 64 → IsStaged count ranges image → image doublewrite_gate ≡ 1 → copies image ≡ ranges
open_copies count ranges image most staged gate =
    let cut : min (copy_count image) most_copies ≡ count = omega (arith, staged.counted, most) in
    copies_open image gate ∙ ap (copies_from image 0) cut ∙ staged.listed

-- the rule of the list where the list and the copies are these pages
pub open_rule : (pages count : ℕ) (ranges : List Range) (image : Image) → IsStaged count ranges image → IsCopyList pages count (map (λ copy. copy.page) ranges) → HasCopies pages image
open_rule pages count ranges image staged good gate =
    let small : count ≤ 64 = good.most in
    let is = open_copies count ranges image small staged gate in
    subst (λ (n : ℕ). IsCopyList pages n (map (λ copy. copy.page) (copies image))) (sym staged.counted)
    (subst (λ (all : List Range). IsCopyList pages count (map (λ copy. copy.page) all)) (sym is) good)

-- an image with the list and the copies of a batch
pub left_open : (count : ℕ) (ranges : List Range) (numbers : List ℕ) (before : Image) (printed_before : List ℕ) (left : Image) (printed : List ℕ) → IsCopyList (pages_in before) count (map (λ copy. copy.page) ranges) → IsStaged count ranges left → ((left doublewrite_gate ≢ 1) → (area left ≡ area before) ⊎ (area left ≡ puts ranges (area before))) → puts ranges (area left) ≡ puts ranges (area before) → Agree (batch_places numbers) before left → printed ≡ printed_before → BatchLeft ranges numbers before printed_before left printed
left_open count ranges numbers before printed_before left printed good staged closed whole others same = record {
  copies = open_rule (pages_in before) count ranges left staged good;
  whole = elim (cases_eq (left doublewrite_gate) 1) [
    | inl gate ↦ inr ((λ i. puts (open_copies count ranges left good.most staged gate i) (area left)) ∙ whole)
    | inr shut ↦
        let none : laid left ≡ area left = λ i. puts (copies_closed left shut i) (area left) in
        ⊎_elim (λ is. inl (none ∙ is)) (λ is. inr (none ∙ is)) (closed shut)
  ];
  others = others;
  same = same;
}

-- the regions of the phases lie in what a batch writes
pub staged_in_batch : (numbers : List ℕ) → Within staged_places (batch_places numbers)
staged_in_batch numbers place out = not_first (staged_places place) (either gate_place (page_places numbers) place) out

pub gate_in_batch : (numbers : List ℕ) → Within gate_place (batch_places numbers)
gate_in_batch numbers place out = not_first (gate_place place) (page_places numbers place) (not_second (staged_places place) (either gate_place (page_places numbers) place) out)

pub pages_in_batch : (numbers : List ℕ) → Within (page_places numbers) (batch_places numbers)
pages_in_batch numbers place out = not_second (gate_place place) (page_places numbers place) (not_second (staged_places place) (either gate_place (page_places numbers) place) out)

-- the first phase: the gate isn't 1
pub while_staging : (ranges : List Range) (numbers : List ℕ) (before : Image) (printed_before : List ℕ) (left : Image) (printed : List ℕ) → before doublewrite_gate ≢ 1 → Agree staged_places before left → printed ≡ printed_before → BatchLeft ranges numbers before printed_before left printed
while_staging ranges numbers before printed_before left printed shut agree same =
    let gate : left doublewrite_gate ≢ 1 = λ is. shut (agree 512 refl ∙ is) in
    record {
      copies = λ is. absurd (gate is);
      whole = inl ((λ i. puts (copies_closed left gate i) (area left)) ∙ same_area staged_places before left staged_below_area agree);
      others = agree_wider staged_places (batch_places numbers) before left (staged_in_batch numbers) agree;
      same = same;
    }

gate_beside_list : (one other : Image) → Agree gate_place one other → SameIn 1024 260 one other
gate_beside_list one other agree place low high = agree place (above 512 1 place (omega (arith, low)))

gate_beside_copies : (one other : Image) → Agree gate_place one other → SameIn 4096 262144 one other
gate_beside_copies one other agree place low high = agree place (above 512 1 place (omega (arith, low)))

-- the second: the gate is written
pub while_opening : (count : ℕ) (ranges : List Range) (numbers : List ℕ) (before staged : Image) (printed_before : List ℕ) (left : Image) (printed : List ℕ) → IsCopyList (pages_in before) count (map (λ copy. copy.page) ranges) → IsStaged count ranges staged → Agree staged_places before staged → Agree gate_place staged left → printed ≡ printed_before → BatchLeft ranges numbers before printed_before left printed
while_opening count ranges numbers before staged printed_before left printed good is_staged agree now same =
    let small : count ≤ 64 = good.most in
    let areas : area left ≡ area before = same_area gate_place staged left gate_below_area now ∙ same_area staged_places before staged staged_below_area agree in
    left_open count ranges numbers before printed_before left printed good
    (staged_same count ranges staged left small is_staged (gate_beside_list staged left now) (gate_beside_copies staged left now))
    (λ shut. inl areas)
    (ap (puts ranges) areas)
    (agree_on (batch_places numbers) before staged left (agree_wider staged_places (batch_places numbers) before staged (staged_in_batch numbers) agree) (agree_wider gate_place (batch_places numbers) staged left (gate_in_batch numbers) now))
    same

-- an image whose copies are open, before the pages are written in place
pub record IsOpen (count : ℕ) (ranges : List Range) (numbers : List ℕ) (before opened : Image) : Type 0 where
  pub gate : opened doublewrite_gate ≡ 1
  pub staged : IsStaged count ranges opened
  pub areas : area opened ≡ area before
  pub others : Agree (batch_places numbers) before opened

-- the third: the pages are written in place
pub while_placing : (count : ℕ) (ranges : List Range) (numbers : List ℕ) (before opened : Image) (printed_before : List ℕ) (left : Image) (printed : List ℕ) → IsCopyList (pages_in before) count (map (λ copy. copy.page) ranges) → map (λ range. range.page) ranges ≡ numbers → IsOpen count ranges numbers before opened → Agree (page_places numbers) opened left → printed ≡ printed_before → BatchLeft ranges numbers before printed_before left printed
while_placing count ranges numbers before opened printed_before left printed good are state now same =
    let small : count ≤ 64 = good.most in
    let gate : left doublewrite_gate ≡ 1 = sym (now 512 (pages_above numbers 512 (omega arith))) ∙ state.gate in
    let covered : Agree (cover ranges) (area opened) (area left) = λ place out. now (area_place + place) (ap (λ (ns : List ℕ). page_places ns (area_place + place)) (sym are) ∙ pages_cover ranges place state.staged.whole ∙ out) in
    left_open count ranges numbers before printed_before left printed good
    (staged_same count ranges opened left small state.staged (λ place low high. now place (pages_above numbers place (omega (arith, high)))) (λ place low high. now place (pages_above numbers place (omega (arith, high)))))
    (λ shut. absurd (shut gate))
    (sym (absorbs ranges (area opened) (area left) covered) ∙ ap (puts ranges) state.areas)
    (agree_on (batch_places numbers) before opened left state.others (agree_wider (page_places numbers) (batch_places numbers) opened left (pages_in_batch numbers) now))
    same

-- the fourth: the gate is closed
pub while_closing : (count : ℕ) (ranges : List Range) (numbers : List ℕ) (before placed : Image) (printed_before : List ℕ) (left : Image) (printed : List ℕ) → IsCopyList (pages_in before) count (map (λ copy. copy.page) ranges) → IsStaged count ranges placed → area placed ≡ puts ranges (area before) → Agree (batch_places numbers) before placed → Agree gate_place placed left → printed ≡ printed_before → BatchLeft ranges numbers before printed_before left printed
while_closing count ranges numbers before placed printed_before left printed good is_staged is_placed others now same =
    let small : count ≤ 64 = good.most in
    let areas : area left ≡ puts ranges (area before) = same_area gate_place placed left gate_below_area now ∙ is_placed in
    left_open count ranges numbers before printed_before left printed good
    (staged_same count ranges placed left small is_staged (gate_beside_list placed left now) (gate_beside_copies placed left now))
    (λ shut. inr areas)
    (ap (puts ranges) areas ∙ puts_again ranges (area before))
    (agree_on (batch_places numbers) before placed left others (agree_wider gate_place (batch_places numbers) placed left (gate_in_batch numbers) now))
    same

-- after the second phase
pub opened_by : (count : ℕ) (ranges : List Range) (numbers : List ℕ) (before staged now : Image) → count ≤ 64 → IsStaged count ranges staged → Agree staged_places before staged → Agree gate_place staged now → now ≡ put staged 512 (1 ∷ []) → IsOpen count ranges numbers before now
opened_by count ranges numbers before staged now most is_staged agree gate is = record {
  gate = λ i. is i 512;
  staged = staged_same count ranges staged now most is_staged (gate_beside_list staged now gate) (gate_beside_copies staged now gate);
  areas = same_area gate_place staged now gate_below_area gate ∙ same_area staged_places before staged staged_below_area agree;
  others = agree_on (batch_places numbers) before staged now (agree_wider staged_places (batch_places numbers) before staged (staged_in_batch numbers) agree) (agree_wider gate_place (batch_places numbers) staged now (gate_in_batch numbers) gate);
}

-- after the third
pub record IsInPlace (count : ℕ) (ranges : List Range) (numbers : List ℕ) (before placed : Image) : Type 0 where
  pub staged : IsStaged count ranges placed
  pub areas : area placed ≡ puts ranges (area before)
  pub others : Agree (batch_places numbers) before placed

pub placed_by : (count : ℕ) (ranges : List Range) (numbers : List ℕ) (before opened now : Image) → count ≤ 64 → IsOpen count ranges numbers before opened → Agree (page_places numbers) opened now → area now ≡ puts ranges (area opened) → IsInPlace count ranges numbers before now
placed_by count ranges numbers before opened now most state agree is = record {
  staged = staged_same count ranges opened now most state.staged (λ place low high. agree place (pages_above numbers place (omega (arith, high)))) (λ place low high. agree place (pages_above numbers place (omega (arith, high))));
  areas = is ∙ ap (puts ranges) state.areas;
  others = agree_on (batch_places numbers) before opened now state.others (agree_wider (page_places numbers) (batch_places numbers) opened now (pages_in_batch numbers) agree);
}

-- after the fourth
pub done_by : (count : ℕ) (ranges : List Range) (numbers : List ℕ) (before placed now : Image) → IsInPlace count ranges numbers before placed → Agree gate_place placed now → now ≡ put placed 512 (0 ∷ []) → IsBatchDone ranges numbers before now
done_by count ranges numbers before placed now state gate is = record {
  gate = λ i. is i 512;
  placed = same_area gate_place placed now gate_below_area gate ∙ state.areas;
  others = agree_on (batch_places numbers) before placed now state.others (agree_wider gate_place (batch_places numbers) placed now (gate_in_batch numbers) gate);
}

-- a restore: an image with the copies that counted
pub whole_copies : (image : Image) (k count : ℕ) → AreWhole (copies_from image k count)
whole_copies image k zero = tt
whole_copies image k (suc count) = (refl, length-slice image (copies_place + page_bytes * k) page_bytes, whole_copies image (suc k) count)

-- the copies that count are the list and the copies as they stand
pub stand_staged : (pages : ℕ) (before : Image) → before doublewrite_gate ≡ 1 → HasCopies pages before → IsStaged (copy_count before) (copies before) before
stand_staged pages before gate has =
    let most : copy_count before ≤ 64 = (has gate).most in
    let cut : min (copy_count before) most_copies ≡ copy_count before = omega (arith, most) in
    let is : copies before ≡ copies_from before 0 (copy_count before) = copies_open before gate ∙ ap (copies_from before 0) cut in
    record {
      counted = refl;
      listed = sym is;
      whole = subst AreWhole (sym is) (whole_copies before 0 (copy_count before));
    }

-- no write was made
pub unchanged : (pages : ℕ) (before : Image) (printed_before : List ℕ) (left : Image) (printed : List ℕ) → Agree no_place before left → printed ≡ printed_before → RestoreLeft pages before printed_before left printed
unchanged pages before printed_before left printed agree same =
    let is : before ≡ left = λ i place. agree place refl i in
    record {
      copies = λ has. subst (HasCopies pages) is has;
      same_pages = ap laid (sym is);
      others = λ place out. agree place refl;
      same = same;
    }

-- an image with the copies, whatever its gate
pub left_restoring : (pages : ℕ) (before : Image) (printed_before : List ℕ) (left : Image) (printed : List ℕ) → before doublewrite_gate ≡ 1 → HasCopies pages before → IsStaged (copy_count before) (copies before) left → ((left doublewrite_gate ≢ 1) → area left ≡ laid before) → puts (copies before) (area left) ≡ laid before → Agree (restored_places before) before left → printed ≡ printed_before → RestoreLeft pages before printed_before left printed
left_restoring pages before printed_before left printed gate has staged closed whole others same = record {
  copies = λ kept. open_rule pages (copy_count before) (copies before) left staged (has gate);
  same_pages = elim (cases_eq (left doublewrite_gate) 1) [
    | inl still ↦ (λ i. puts (open_copies (copy_count before) (copies before) left (has gate).most staged still i) (area left)) ∙ whole
    | inr shut ↦ (λ i. puts (copies_closed left shut i) (area left)) ∙ closed shut
  ];
  others = others;
  same = same;
}

gate_in_restore : (before : Image) → Within gate_place (restored_places before)
gate_in_restore before place out = not_first (gate_place place) (page_places (copied_pages before) place) out

pages_in_restore : (before : Image) → Within (page_places (copied_pages before)) (restored_places before)
pages_in_restore before place out = not_second (gate_place place) (page_places (copied_pages before) place) out

-- the copies are laid over their pages
pub while_laying : (pages : ℕ) (before : Image) (printed_before : List ℕ) (left : Image) (printed : List ℕ) → before doublewrite_gate ≡ 1 → HasCopies pages before → Agree (page_places (copied_pages before)) before left → printed ≡ printed_before → RestoreLeft pages before printed_before left printed
while_laying pages before printed_before left printed gate has agree same =
    let numbers = copied_pages before in
    let stand = stand_staged pages before gate has in
    let still : left doublewrite_gate ≡ 1 = sym (agree 512 (pages_above numbers 512 (omega arith))) ∙ gate in
    let covered : Agree (cover (copies before)) (area before) (area left) = λ place out. agree (area_place + place) (pages_cover (copies before) place stand.whole ∙ out) in
    left_restoring pages before printed_before left printed gate has
    (staged_same (copy_count before) (copies before) before left (has gate).most stand (λ place low high. agree place (pages_above numbers place (omega (arith, high)))) (λ place low high. agree place (pages_above numbers place (omega (arith, high)))))
    (λ shut. absurd (shut still))
    (sym (absorbs (copies before) (area before) (area left) covered))
    (agree_wider (page_places numbers) (restored_places before) before left (pages_in_restore before) agree)
    same

-- the copies stand in their places
pub record AreOver (pages : ℕ) (before placed : Image) : Type 0 where
  pub staged : IsStaged (copy_count before) (copies before) placed
  pub areas : area placed ≡ laid before
  pub others : Agree (restored_places before) before placed

pub over_by : (pages : ℕ) (before now : Image) → before doublewrite_gate ≡ 1 → HasCopies pages before → Agree (page_places (copied_pages before)) before now → area now ≡ puts (copies before) (area before) → AreOver pages before now
over_by pages before now gate has agree is =
    let numbers = copied_pages before in
    record {
      staged = staged_same (copy_count before) (copies before) before now (has gate).most (stand_staged pages before gate has) (λ place low high. agree place (pages_above numbers place (omega (arith, high)))) (λ place low high. agree place (pages_above numbers place (omega (arith, high))));
      areas = is;
      others = agree_wider (page_places numbers) (restored_places before) before now (pages_in_restore before) agree;
    }

-- the gate is closed behind them
pub while_ending : (pages : ℕ) (before placed : Image) (printed_before : List ℕ) (left : Image) (printed : List ℕ) → before doublewrite_gate ≡ 1 → HasCopies pages before → AreOver pages before placed → Agree gate_place placed left → printed ≡ printed_before → RestoreLeft pages before printed_before left printed
while_ending pages before placed printed_before left printed gate has over agree same =
    let areas : area left ≡ laid before = same_area gate_place placed left gate_below_area agree ∙ over.areas in
    left_restoring pages before printed_before left printed gate has
    (staged_same (copy_count before) (copies before) placed left (has gate).most over.staged (gate_beside_list placed left agree) (gate_beside_copies placed left agree))
    (λ shut. areas)
    (ap (puts (copies before)) areas ∙ puts_again (copies before) (area before))
    (agree_on (restored_places before) before placed left over.others (agree_wider gate_place (restored_places before) placed left (gate_in_restore before) agree))
    same

pub ended_by : (pages : ℕ) (before placed now : Image) → before doublewrite_gate ≡ 1 → HasCopies pages before → AreOver pages before placed → Agree gate_place placed now → now ≡ put placed 512 (0 ∷ []) → AreLaid pages before now
ended_by pages before placed now gate has over agree is = record {
  counted = gate;
  rule = has;
  gate = λ i. is i 512;
  placed = same_area gate_place placed now gate_below_area agree ∙ over.areas;
  others = agree_on (restored_places before) before placed now over.others (agree_wider gate_place (restored_places before) placed now (gate_in_restore before) agree);
}
