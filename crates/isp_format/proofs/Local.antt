-- Which bytes of an image the page rules and the log read: an image that agrees with another there has the same control
-- block, copies, page area and log.
use Rattle.std.proofs.Common.{◌≡◌, ◌≢◌, ℕ, zero, suc, ◌+◌, ◌*◌, ◌<◌, ◌≤◌, ◌==◌, Bool, false, List, [], ◌∷◌, map, min, refl, sym, ◌∙◌, ap, subst, arith, if◌then◌else◌}
use Rattle.std.proofs.lemmas.Bool.Decides.{nat_tests}
use Rattle.isp_disk.specs.Moments.{Image, slice}
use Rattle.isp_format.specs.Contents.{StandsFor, ranges_of}
use Rattle.isp_format.specs.Control.{IsControl, IsFanout, IsPages, fanout_in, pages_in}
use Rattle.isp_format.specs.Doublewrite.{HasCopies, IsCopyList, area, copies, copies_from, copies_place, copy_at, copy_count, doublewrite_gate, laid, list_place, most_copies}
use Rattle.isp_format.specs.Log.{IsLog, Transaction, log_bytes, log_of, log_place}
use Rattle.isp_format.specs.Numbers.{number_at}
use Rattle.isp_format.specs.Ranges.{Contents, Range, SameIn, page_bytes, puts}
use Rattle.isp_format.proofs.LogWalks.{log_inside, log_same}
use Rattle.isp_format.proofs.Slices.{number_agree, slice_agree}

-- the control block is read from the first 64 bytes
pub pages_same : (one other : Image) → SameIn 0 64 one other → pages_in one ≡ pages_in other
pages_same one other same = number_agree 4 one other 8 (λ place low high. same place (omega arith) (omega (arith, high)))

pub fanout_same : (one other : Image) → SameIn 0 64 one other → fanout_in one ≡ fanout_in other
fanout_same one other same = number_agree 4 one other 12 (λ place low high. same place (omega arith) (omega (arith, high)))

pub control_same : (one other : Image) → SameIn 0 64 one other → IsControl one → IsControl other
control_same one other same control = record {
  name = sym (slice_agree one other 0 8 (λ place low high. same place low (omega (arith, high)))) ∙ control.name;
  made = sym (same 63 (omega arith) (omega arith)) ∙ control.made;
  pages = subst IsPages (pages_same one other same) control.pages;
  fanout = subst IsFanout (fanout_same one other same) control.fanout;
}

-- the copies are read from the gate, and where it is 1 from the count, the list and the pages behind it
pub record SameCopies (one other : Image) : Type 0 where
  pub gate : one doublewrite_gate ≡ other doublewrite_gate
  pub list : SameIn 1024 260 one other
  pub pages : SameIn 4096 262144 one other

pub count_same : (one other : Image) → SameIn 1024 260 one other → copy_count one ≡ copy_count other
count_same one other list = number_agree 4 one other 1024 (λ place low high. list place low (omega (arith, high)))

pub copy_same : (one other : Image) (k : ℕ) → k < 64 → SameIn 1024 260 one other → SameIn 4096 262144 one other → copy_at one k ≡ copy_at other k
copy_same one other k small list pages =
    let number : number_at 4 one (list_place + 4 * k) ≡ number_at 4 other (list_place + 4 * k) = number_agree 4 one other (list_place + 4 * k) (λ place low high. list place (omega (arith, low)) (omega (arith, high, small))) in
    let bytes : slice one (copies_place + page_bytes * k) page_bytes ≡ slice other (copies_place + page_bytes * k) page_bytes = slice_agree one other (copies_place + page_bytes * k) page_bytes (λ place low high. pages place (omega (arith, low)) (omega (arith, high, small))) in
    λ i. record { page = number i; at = 0; bytes = bytes i }

pub copies_from_same : (one other : Image) (k count : ℕ) → k + count ≤ 64 → SameIn 1024 260 one other → SameIn 4096 262144 one other → copies_from one k count ≡ copies_from other k count
copies_from_same one other k zero small list pages = refl
copies_from_same one other k (suc count) small list pages =
    let first = copy_same one other k (omega arith) list pages in
    let rest = copies_from_same one other (suc k) count (omega arith) list pages in
    λ i. first i ∷ rest i

-- the copies that a list has where its gate is 1
abbrev pub listed : Image → List Range
listed image = copies_from image 0 (min (copy_count image) most_copies)

pub listed_same : (one other : Image) → SameIn 1024 260 one other → SameIn 4096 262144 one other → listed one ≡ listed other
listed_same one other list pages =
    (λ i. copies_from one 0 (min (count_same one other list i) most_copies))
    ∙ copies_from_same one other 0 (min (copy_count other) most_copies) (omega arith) list pages

-- where the gate is 1 the copies are those of the list, else there are none
pub copies_open : (image : Image) → image doublewrite_gate ≡ 1 → copies image ≡ listed image
copies_open image is = ap (λ (gate : ℕ). if gate == 1 then listed image else []) is

pub copies_closed : (image : Image) → image doublewrite_gate ≢ 1 → copies image ≡ []
copies_closed image isnt =
    let test : (image doublewrite_gate == 1) ≡ false = grind (arith, nat_tests) in
    ap (λ (b : Bool). if b then listed image else []) test

pub copies_same : (one other : Image) → SameCopies one other → copies one ≡ copies other
copies_same one other same = λ i. if same.gate i == 1 then listed_same one other same.list same.pages i else []

pub has_copies_same : (pages : ℕ) (one other : Image) → SameCopies one other → HasCopies pages one → HasCopies pages other
has_copies_same pages one other same has gate =
    let both : ℕ → List Range → Type 0 = λ count ranges. IsCopyList pages count (map (λ copy. copy.page) ranges) in
    subst (λ (ranges : List Range). both (copy_count other) ranges) (copies_same one other same)
    (subst (λ (count : ℕ). both count (copies one)) (count_same one other same.list) (has (same.gate ∙ gate)))

-- Laid reads the copies, and the area where they do not lie over it
pub laid_same : (one other : Image) → SameCopies one other → ((place : ℕ) → area one place ≡ area other place) → laid one ≡ laid other
laid_same one other same areas = λ i. puts (copies_same one other same i) (λ place. areas place i)

-- the log reads its own bytes
pub log_kept : (pages : ℕ) (one other : Image) (batches : List (List Transaction)) (end : ℕ) → SameIn log_place log_bytes one other → IsLog pages (log_of one) 0 batches end → IsLog pages (log_of other) 0 batches end
log_kept pages one other batches end same log =
    let within = log_inside pages (log_of one) 0 batches end log (omega arith) in
    log_same pages (log_of one) (log_of other) 0 batches end log (λ k below. same (log_place + (0 + k)) (omega arith) (omega (arith, below, within)))

-- An image with the control block and the log of another, which keeps the second rule, stands for the same contents where
-- the ranges of the log make the same of both.
pub stands_moved : (one other : Image) (contents : Contents) (stands : StandsFor one contents) → SameIn 0 64 one other → SameIn log_place log_bytes one other → HasCopies (pages_in one) other → puts (ranges_of stands.batches) (laid other) ≡ puts (ranges_of stands.batches) (laid one) → StandsFor other contents
stands_moved one other contents stands control log copies same = record {
  control = control_same one other control stands.control;
  copies = subst (λ (pages : ℕ). HasCopies pages other) (pages_same one other control) copies;
  batches = stands.batches;
  end = stands.end;
  log = subst (λ (pages : ℕ). IsLog pages (log_of other) 0 stands.batches stands.end) (pages_same one other control) (log_kept (pages_in one) one other stands.batches stands.end log stands.log);
  contents_are = stands.contents_are ∙ sym same;
}
