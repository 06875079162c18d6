-- The walk along the log from gate to gate: what of an image it reads, what one more batch makes of it, and that it is one.
use Rattle.std.proofs.Common.{◌≡◌, ◌≢◌, ℕ, suc, ◌+◌, ◌-◌, ◌<◌, ◌≤◌, List, [], ◌∷◌, ◌++◌, length, refl, sym, ◌∙◌, ap, subst, arith}
use Rattle.isp_disk.specs.Moments.{Image}
use Rattle.isp_format.specs.Log.{IsBatch, IsLog, Transaction, log_bytes}
use Rattle.isp_format.proofs.Slices.{slice_moved}

-- images that are the same at so many places from one on
abbrev pub SameOn : Image → Image → ℕ → ℕ → Type 0
SameOn one other at size = (k : ℕ) → k < size → one (at + k) ≡ other (at + k)

-- the same on a part of the places
pub part_same : (one other : Image) (at size inner inner_size : ℕ) → SameOn one other at size → at ≤ inner → inner + inner_size ≤ at + size → SameOn one other inner inner_size
part_same one other at size inner inner_size same from to k below =
    let place : inner + k ≡ at + (inner - at + k) = omega (arith, from) in
    ap one place ∙ same (inner - at + k) (omega (arith, from, to, below)) ∙ ap other (sym place)

pub place_same : (one other : Image) (at size place : ℕ) → SameOn one other at size → at ≤ place → place < at + size → one place ≡ other place
place_same one other at size place same from to =
    let offset : place ≡ at + (place - at) = omega (arith, from) in
    ap one offset ∙ same (place - at) (omega (arith, from, to)) ∙ ap other (sym offset)

-- a batch takes five bytes and its body
pub batch_forward : (pages : ℕ) (log : Image) (at : ℕ) (batch : List Transaction) (next : ℕ) → IsBatch pages log at batch next → at + 5 ≤ next
batch_forward pages log at batch next is = omega (arith, is.behind)

pub log_forward : (pages : ℕ) (log : Image) (at : ℕ) (batches : List (List Transaction)) (end : ℕ) → IsLog pages log at batches end → at ≤ end
log_forward pages log at [] end is = omega (arith, is.1)
log_forward pages log at (batch ∷ batches) end (next, is, rest) =
    omega (arith, batch_forward pages log at batch next is, log_forward pages log next batches end rest)

-- a batch is read from its gate up to the next one's
pub batch_same : (pages : ℕ) (one other : Image) (at : ℕ) (batch : List Transaction) (next : ℕ) → IsBatch pages one at batch next → SameOn one other at (next - at) → IsBatch pages other at batch next
batch_same pages one other at batch next is same =
    let size : at + (next - at) ≡ next = omega (arith, is.behind) in
    record {
      body = is.body;
      gate = sym (place_same one other at (next - at) at same (omega arith) (omega (arith, is.behind))) ∙ is.gate;
      size = sym (slice_moved one other (at + 1) (at + 1) 4 (part_same one other at (next - at) (at + 1) 4 same (omega arith) (omega (arith, is.behind)))) ∙ is.size;
      stands = sym (slice_moved one other (at + 5) (at + 5) (length is.body) (part_same one other at (next - at) (at + 5) (length is.body) same (omega arith) (omega (arith, is.behind)))) ∙ is.stands;
      behind = is.behind;
      inside = is.inside;
      means = is.means;
    }

-- what stands behind the gate that ends the log is not read
pub log_same : (pages : ℕ) (one other : Image) (at : ℕ) (batches : List (List Transaction)) (end : ℕ) → IsLog pages one at batches end → SameOn one other at (suc end - at) → IsLog pages other at batches end
log_same pages one other at [] end is same =
    let here : one at ≡ other at = place_same one other at (suc end - at) at same (omega arith) (omega (arith, is.1)) in
    (λ opened. is.0 (here ∙ opened), is.1)
log_same pages one other at (batch ∷ batches) end (next, is, rest) same =
    let forward = batch_forward pages one at batch next is in
    let behind = log_forward pages one next batches end rest in
    (next, batch_same pages one other at batch next is (part_same one other at (suc end - at) at (next - at) same (omega arith) (omega (arith, forward, behind))), log_same pages one other next batches end rest (part_same one other at (suc end - at) next (suc end - next) same (omega (arith, forward)) (omega (arith, forward, behind))))

-- the batches before the end, and what stands at the gate there is left open
abbrev pub IsWalk : ℕ → Image → ℕ → List (List Transaction) → ℕ → Type 0
IsWalk pages log at [] end = end ≡ at
IsWalk pages log at (batch ∷ batches) end = (next : ℕ) × IsBatch pages log at batch next × IsWalk pages log next batches end

pub walk_forward : (pages : ℕ) (log : Image) (at : ℕ) (batches : List (List Transaction)) (end : ℕ) → IsWalk pages log at batches end → at ≤ end
walk_forward pages log at [] end is = omega (arith, is)
walk_forward pages log at (batch ∷ batches) end (next, is, rest) =
    omega (arith, batch_forward pages log at batch next is, walk_forward pages log next batches end rest)

pub walk_same : (pages : ℕ) (one other : Image) (at : ℕ) (batches : List (List Transaction)) (end : ℕ) → IsWalk pages one at batches end → SameOn one other at (end - at) → IsWalk pages other at batches end
walk_same pages one other at [] end is same = is
walk_same pages one other at (batch ∷ batches) end (next, is, rest) same =
    let forward = batch_forward pages one at batch next is in
    let behind = walk_forward pages one next batches end rest in
    (next, batch_same pages one other at batch next is (part_same one other at (end - at) at (next - at) same (omega arith) (omega (arith, forward, behind))), walk_same pages one other next batches end rest (part_same one other at (end - at) next (end - next) same (omega (arith, forward)) (omega (arith, forward, behind))))

pub walked : (pages : ℕ) (log : Image) (at : ℕ) (batches : List (List Transaction)) (end : ℕ) → IsLog pages log at batches end → IsWalk pages log at batches end
walked pages log at [] end is = is.1
walked pages log at (batch ∷ batches) end (next, is, rest) = (next, is, walked pages log next batches end rest)

pub closed : (pages : ℕ) (log : Image) (at : ℕ) (batches : List (List Transaction)) (end : ℕ) → IsLog pages log at batches end → log end ≢ 1
closed pages log at [] end is opened = is.0 (ap log (sym is.1) ∙ opened)
closed pages log at (batch ∷ batches) end (next, is, rest) opened = closed pages log next batches end rest opened

-- a walk that ends at a closed gate is the log
pub walk_ends : (pages : ℕ) (log : Image) (at : ℕ) (batches : List (List Transaction)) (end : ℕ) → IsWalk pages log at batches end → log end ≢ 1 → IsLog pages log at batches end
walk_ends pages log at [] end is shut = (λ opened. shut (ap log is ∙ opened), is)
walk_ends pages log at (batch ∷ batches) end (next, is, rest) shut = (next, is, walk_ends pages log next batches end rest shut)

-- one batch more at the end of a walk
pub walk_on : (pages : ℕ) (log : Image) (at : ℕ) (batches : List (List Transaction)) (mid : ℕ) (batch : List Transaction) (next : ℕ) → IsWalk pages log at batches mid → IsBatch pages log mid batch next → IsWalk pages log at (batches ++ batch ∷ []) next
walk_on pages log at [] mid batch next walk is = (next, subst (λ (place : ℕ). IsBatch pages log place batch next) walk is, refl)
walk_on pages log at (first ∷ batches) mid batch next (place, first_is, rest) is = (place, first_is, walk_on pages log place batches mid batch next rest is)

-- a new batch behind the log, once its gate is opened
pub one_more : (pages : ℕ) (old new : Image) (batches : List (List Transaction)) (end : ℕ) (batch : List Transaction) (next : ℕ) → IsLog pages old 0 batches end → SameOn old new 0 end → IsBatch pages new end batch next → new next ≢ 1 → IsLog pages new 0 (batches ++ batch ∷ []) next
one_more pages old new batches end batch next is same batch_is shut =
    let size : end - 0 ≡ end = omega arith in
    let kept = walk_same pages old new 0 batches end (walked pages old 0 batches end is) (subst (λ (n : ℕ). SameOn old new 0 n) (sym size) same) in
    walk_ends pages new 0 (batches ++ batch ∷ []) next (walk_on pages new 0 batches end batch next kept batch_is) shut

-- the end of a log lies in it
pub log_inside : (pages : ℕ) (log : Image) (at : ℕ) (batches : List (List Transaction)) (end : ℕ) → IsLog pages log at batches end → at < log_bytes → end < log_bytes
log_inside pages log at [] end is inside = omega (arith, is.1, inside)
log_inside pages log at (batch ∷ batches) end (next, is, rest) inside = log_inside pages log next batches end rest is.inside
