-- What images have that differ from a file in the log alone, or in the copies and the pages alone.
use Rattle.std.proofs.Common.{◌≡◌, ◌≢◌, ◌⊎◌, inl, inr, ⊎_elim, ℕ, ◌+◌, ◌<◌, false, List, [], ◌∷◌, ◌++◌, sym, ◌∙◌, ap, subst, arith}
use Rattle.isp_disk.specs.Moments.{Image, Agree, in_range}
use Rattle.isp_doublewrite.specs.Batches.{IsBatchDone}
use Rattle.isp_doublewrite.specs.Places.{batch_places, gate_place, staged_places}
use Rattle.isp_doublewrite.proofs.PlaceLaws.{pages_above}
use Rattle.isp_format.specs.Contents.{StandsFor, ranges_of}
use Rattle.isp_format.specs.Control.{IsControl, fanout_in, pages_in}
use Rattle.isp_format.specs.Doublewrite.{HasCopies, area, area_place, copies, doublewrite_gate, laid}
use Rattle.isp_format.specs.Log.{IsLog, Transaction, log_bytes, log_of, log_place}
use Rattle.isp_format.specs.Ranges.{Contents, Range, SameIn, cover, puts}
use Rattle.isp_format.proofs.Local.{control_same, fanout_same, log_kept, pages_same, stands_moved}
use Rattle.isp_format.proofs.Places.{above, below, neither}
use Rattle.isp_format.proofs.Puts.{mixes, puts_append}
use Rattle.isp_redo.specs.Changes.{HasLogOf, in_log}
use Rattle.isp_stable.proofs.ImageLaws.{laid_closed, ranges_more, stands_closed}

-- Images that agree outside the log.

abbrev pub log_out : (place : ℕ) → place < log_place → in_log place ≡ false
log_out place low = below log_place log_bytes place low

control_by_log : (one other : Image) → Agree in_log one other → SameIn 0 64 one other
control_by_log one other agree place low high = agree place (below log_place log_bytes place (omega (arith, high)))

gate_by_log : (one other : Image) → Agree in_log one other → one doublewrite_gate ≢ 1 → other doublewrite_gate ≢ 1
gate_by_log one other agree isnt is = isnt (agree doublewrite_gate (below log_place log_bytes doublewrite_gate (omega arith)) ∙ is)

pub area_by_log : (one other : Image) → Agree in_log one other → area other ≡ area one
area_by_log one other agree = λ i place. sym (agree (area_place + place) (above log_place log_bytes (area_place + place) (omega arith))) i

-- the pages stand as they did, and no copy counts
pub laid_by_log : (old left : Image) → old doublewrite_gate ≢ 1 → Agree in_log old left → laid left ≡ area old
laid_by_log old left isnt agree = laid_closed left (gate_by_log old left agree isnt) ∙ area_by_log old left agree

-- a file's shape, read from an image with the same control block
pub record HasShape (pages fanout : ℕ) (image : Image) : Type 0 where
  pub pages_are : pages_in image ≡ pages
  pub fanout_are : fanout_in image ≡ fanout

shape_same : (pages fanout : ℕ) (one other : Image) → SameIn 0 64 one other → HasShape pages fanout one → HasShape pages fanout other
shape_same pages fanout one other same shape = record {
  pages_are = sym (pages_same one other same) ∙ shape.pages_are;
  fanout_are = sym (fanout_same one other same) ∙ shape.fanout_are;
}

pub shape_by_log : (pages fanout : ℕ) (one other : Image) → Agree in_log one other → HasShape pages fanout one → HasShape pages fanout other
shape_by_log pages fanout one other agree = shape_same pages fanout one other (control_by_log one other agree)

-- with one of two logs it stands for the contents of that log
pub left_by_log : (pages : ℕ) (old : Image) (batches batches_now : List (List Transaction)) (end end_now : ℕ) (left : Image) → IsControl old → pages_in old ≡ pages → old doublewrite_gate ≢ 1 → HasLogOf pages old (record { batches = batches; end = end }) (record { batches = batches_now; end = end_now }) left
    → (contents : Contents) × StandsFor left contents × ((contents ≡ puts (ranges_of batches) (area old)) ⊎ (contents ≡ puts (ranges_of batches_now) (area old)))
left_by_log pages old batches batches_now end end_now left control are isnt has =
    let same = control_by_log old left has.others in
    let number : pages ≡ pages_in left = sym are ∙ pages_same old left same in
    let good = control_same old left same control in
    let shut = gate_by_log old left has.others isnt in
    let moved = area_by_log old left has.others in
    let made : (bs : List (List Transaction)) (e : ℕ) → IsLog pages (log_of left) 0 bs e → StandsFor left (puts (ranges_of bs) (area left)) = λ bs e log. stands_closed left bs e good shut (subst (λ (n : ℕ). IsLog n (log_of left) 0 bs e) number log) in
    ⊎_elim
    (λ log. (puts (ranges_of batches) (area left), made batches end log, inl (ap (puts (ranges_of batches)) moved)))
    (λ log. (puts (ranges_of batches_now) (area left), made batches_now end_now log, inr (ap (puts (ranges_of batches_now)) moved)))
    has.log

-- what a call on the log leaves of the rest
pub record IsBeside (pages fanout : ℕ) (image : Image) : Type 0 where
  pub control : IsControl image
  pub pages_are : pages_in image ≡ pages
  pub fanout_is : fanout_in image ≡ fanout
  pub closed : image doublewrite_gate ≢ 1

pub beside_log : (pages fanout : ℕ) (old new : Image) → Agree in_log old new → IsBeside pages fanout old → IsBeside pages fanout new
beside_log pages fanout old new agree is =
    let same = control_by_log old new agree in
    record {
      control = control_same old new same is.control;
      pages_are = sym (pages_same old new same) ∙ is.pages_are;
      fanout_is = sym (fanout_same old new same) ∙ is.fanout_is;
      closed = gate_by_log old new agree is.closed;
    }

-- Images that agree outside the copies, their gate and some pages.

batch_out : (numbers : List ℕ) (place : ℕ) → staged_places place ≡ false → gate_place place ≡ false → place < area_place → batch_places numbers place ≡ false
batch_out numbers place one two low = neither (staged_places place) _ one (neither (gate_place place) _ two (pages_above numbers place low))

control_by_batch : (numbers : List ℕ) (one other : Image) → Agree (batch_places numbers) one other → SameIn 0 64 one other
control_by_batch numbers one other agree place low high =
    agree place (batch_out numbers place
    (neither (in_range 1024 260 place) (in_range 4096 262144 place) (below 1024 260 place (omega (arith, high))) (below 4096 262144 place (omega (arith, high))))
    (below 512 1 place (omega (arith, high))) (omega (arith, high)))

pub log_by_batch : (numbers : List ℕ) (one other : Image) → Agree (batch_places numbers) one other → SameIn log_place log_bytes one other
log_by_batch numbers one other agree place low high =
    agree place (batch_out numbers place
    (neither (in_range 1024 260 place) (in_range 4096 262144 place) (above 1024 260 place (omega (arith, low))) (above 4096 262144 place (omega (arith, low))))
    (above 512 1 place (omega (arith, low))) (omega (arith, high)))

pub shape_by_batch : (numbers : List ℕ) (pages fanout : ℕ) (one other : Image) → Agree (batch_places numbers) one other → HasShape pages fanout one → HasShape pages fanout other
shape_by_batch numbers pages fanout one other agree = shape_same pages fanout one other (control_by_batch numbers one other agree)

-- what a stop within a batch leaves stands for the same contents, where the log covers what the batch changes
pub left_by_batch : (old : Image) (batches : List (List Transaction)) (end : ℕ) (ranges : List Range) (numbers : List ℕ) (left : Image) → IsControl old → old doublewrite_gate ≢ 1 → IsLog (pages_in old) (log_of old) 0 batches end
    → Agree (cover (ranges_of batches)) (area old) (puts ranges (area old)) → HasCopies (pages_in old) left → (laid left ≡ area old) ⊎ (laid left ≡ puts ranges (area old)) → Agree (batch_places numbers) old left
    → StandsFor left (puts (ranges_of batches) (area old))
left_by_batch old batches end ranges numbers left control isnt log covered copies whole others =
    let stands = stands_closed old batches end control isnt log in
    let shut = laid_closed old isnt in
    let same : puts (ranges_of batches) (laid left) ≡ puts (ranges_of batches) (laid old) = ⊎_elim
    (λ e. ap (puts (ranges_of batches)) (e ∙ sym shut))
    (λ e. ap (puts (ranges_of batches)) e ∙ mixes (ranges_of batches) (area old) (puts ranges (area old)) covered ∙ ap (puts (ranges_of batches)) (sym shut))
    whole in
    stands_moved old left (puts (ranges_of batches) (area old)) stands (control_by_batch numbers old left others) (log_by_batch numbers old left others) copies same

pub beside_batch : (pages fanout : ℕ) (ranges : List Range) (numbers : List ℕ) (old new : Image) → IsBatchDone ranges numbers old new → IsBeside pages fanout old → IsBeside pages fanout new
beside_batch pages fanout ranges numbers old new done is =
    let same = control_by_batch numbers old new done.others in
    record {
      control = control_same old new same is.control;
      pages_are = sym (pages_same old new same) ∙ is.pages_are;
      fanout_is = sym (fanout_same old new same) ∙ is.fanout_is;
      closed = λ is_one. let no_one : ◌≡◌ {A = ℕ} 0 1 → ⊥ = λ e. omega (arith, e) in no_one (sym done.gate ∙ is_one);
    }

pub log_beside_batch : (pages : ℕ) (ranges : List Range) (numbers : List ℕ) (old new : Image) (batches : List (List Transaction)) (end : ℕ) → IsBatchDone ranges numbers old new → IsLog pages (log_of old) 0 batches end → IsLog pages (log_of new) 0 batches end
log_beside_batch pages ranges numbers old new batches end done log = log_kept pages old new batches end (log_by_batch numbers old new done.others) log

-- a log with one mini-transaction more puts its ranges into what the log before puts
pub puts_more : (batches : List (List Transaction)) (ranges : Transaction) (contents : Contents) → puts (ranges_of (batches ++ (ranges ∷ []) ∷ [])) contents ≡ puts ranges (puts (ranges_of batches) contents)
puts_more batches ranges contents = ap (λ (all : List Range). puts all contents) (ranges_more batches ranges) ∙ puts_append (ranges_of batches) ranges contents
