-- The writes of a stop, call by call.
use Rattle.std.proofs.Common.{◌≡◌, ℕ, zero, suc, ◌+◌, ◌-◌, ◌<◌, Bool, true, false, if◌then◌else◌, List, [], ◌∷◌, ◌++◌, length, get_or, set, take, drop, ◌||◌, ◌==◌, reverse, fold, ⊎_elim, refl, sym, ◌∙◌, ap, arith}
use Rattle.std.specs.Prelude.{filter, nat_lt}
use Rattle.std.proofs.lemmas.List.{take_more, length-take-le, length-set, get_or-set_same, get_or-set_other, drop_more, reverse-append}
use Rattle.std.proofs.lemmas.List.Elements.{filter-append}
use Rattle.std.proofs.lemmas.Bool.{cases_eq}
use Rattle.std.proofs.lemmas.Bool.Decides.{nat_tests}
use borrow.Author.Tests.{ltb-true}
use Rattle.isp_disk.specs.InMemory.{Event, read, wrote, synced, printed}
use Rattle.isp_disk.specs.Kept.{AreInside, IsInside}
use Rattle.isp_disk.specs.Stops.{AreBelow, call_at, is_written_at, last_writes, placed, still_pending, torn_behind, writes_of, written_by}

-- one more byte stands behind the others
placed_push : (at : ℕ) (bytes : List ℕ) (byte : ℕ) → placed at (bytes ++ byte ∷ []) ≡ placed at bytes ++ (at + length bytes, byte) ∷ []
placed_push at [] byte =
    let here : at ≡ at + 0 = omega arith in
    λ i. (here i, byte) ∷ []
placed_push at (b ∷ bytes) byte =
    let up : suc at + length bytes ≡ at + length (b ∷ bytes) = omega arith in
    ap (λ (l : List (ℕ × ℕ)). (at, b) ∷ l) (placed_push (suc at) bytes byte ∙ (λ i. placed (suc at) bytes ++ (up i, byte) ∷ []))

pub placed_more : (size at : ℕ) (bytes : List ℕ) (i : ℕ) → i < length bytes → let byte = get_or bytes i 0 in filter (λ write. nat_lt write.0 size) (placed at (take (i + 1) bytes)) ≡ filter (λ write. nat_lt write.0 size) (placed at (take i bytes)) ++ filter (λ write. nat_lt write.0 size) ((at + i, byte) ∷ [])
placed_more size at bytes i below =
    let byte = get_or bytes i 0 in
    let long : length (take i bytes) ≡ i = length-take-le i bytes (omega (arith, below)) in
    ap (λ (l : List ℕ). filter (λ write. nat_lt write.0 size) (placed at l)) (take_more bytes i 0 below)
    ∙ ap (filter (λ write. nat_lt write.0 size)) (placed_push at (take i bytes) byte)
    ∙ filter-append (λ write. nat_lt write.0 size) (placed at (take i bytes)) ((at + length (take i bytes), byte) ∷ [])
    ∙ ap (λ (n : ℕ). filter (λ write. nat_lt write.0 size) (placed at (take i bytes)) ++ filter (λ write. nat_lt write.0 size) ((at + n, byte) ∷ [])) long

-- each call is inside where all are
pub inside_at : (size : ℕ) (calls : List Event) (made : ℕ) → AreInside size calls → IsInside size (call_at calls made)
inside_at size [] made are = tt
inside_at size (call ∷ calls) zero are = are.0
inside_at size (call ∷ calls) (suc made) are = inside_at size calls made are.1

-- writes below the size, one list behind the other
below_append : (size : ℕ) (first second : List (ℕ × ℕ)) → AreBelow size first → AreBelow size second → AreBelow size (first ++ second)
below_append size [] second one two = two
below_append size (w ∷ first) second one two = (one.0, below_append size first second one.1 two)

below_kept : (size : ℕ) (write : ℕ × ℕ) (writes : List (ℕ × ℕ)) (is : Bool) → nat_lt write.0 size ≡ is → AreBelow size writes → AreBelow size (if is then write ∷ writes else writes)
below_kept size write writes true is are = (ltb-true write.0 size is, are)
below_kept size write writes false is are = are

below_filter : (size : ℕ) (writes : List (ℕ × ℕ)) → AreBelow size (filter (λ write. nat_lt write.0 size) writes)
below_filter size [] = tt
below_filter size (w ∷ writes) = below_kept size w (filter (λ write. nat_lt write.0 size) writes) (nat_lt w.0 size) refl (below_filter size writes)

below_writes : (size : ℕ) (event : Event) → AreBelow size (writes_of size event)
below_writes size (read ok) = tt
below_writes size (wrote at bytes ok) = below_filter size (placed at bytes)
below_writes size (synced ok) = tt
below_writes size (printed bytes ok) = tt

below_pending : (size : ℕ) (writes : List (ℕ × ℕ)) (event : Event) → AreBelow size writes → AreBelow size (still_pending size writes event)
below_pending size writes (read ok) are = are
below_pending size writes (wrote at bytes ok) are = below_append size writes (writes_of size (wrote at bytes ok)) are (below_writes size (wrote at bytes ok))
below_pending size writes (synced true) are = tt
below_pending size writes (synced false) are = are
below_pending size writes (printed bytes ok) are = are

below_fold : (size : ℕ) (calls : List Event) (writes : List (ℕ × ℕ)) → AreBelow size writes → AreBelow size (fold (still_pending size) writes calls)
below_fold size [] writes are = are
below_fold size (call ∷ calls) writes are = below_fold size calls (still_pending size writes call) (below_pending size writes call are)

pub below_written : (size : ℕ) (calls : List Event) (made : ℕ) → AreBelow size (written_by size calls made)
below_written size calls made = below_append size (fold (still_pending size) [] (take made calls)) (writes_of size (call_at calls made)) (below_fold size (take made calls) [] tt) (below_writes size (call_at calls made))

below_choice : (size : ℕ) (write : ℕ × ℕ) (writes : List (ℕ × ℕ)) (is : Bool) → write.0 < size → AreBelow size writes → AreBelow size (if is then writes else write ∷ writes)
below_choice size write writes true first are = are
below_choice size write writes false first are = (first, are)

pub below_last : (size : ℕ) (writes : List (ℕ × ℕ)) → AreBelow size writes → AreBelow size (last_writes writes)
below_last size [] are = tt
below_last size (w ∷ writes) are = below_choice size w (last_writes writes) (is_written_at w.0 writes) are.0 (below_last size writes are.1)

pub below_at : (size : ℕ) (writes : List (ℕ × ℕ)) (k : ℕ) (d : ℕ × ℕ) → AreBelow size writes → k < length writes → (get_or writes k d).0 < size
below_at size [] k d are below = absurd (omega (arith, below))
below_at size (w ∷ writes) zero d are below = are.0
below_at size (w ∷ writes) (suc k) d are below = below_at size writes k d are.1 (omega (arith, below))

-- the first of the writes that are left
torn_head : (kept fill : ℕ) (write : ℕ × ℕ) (writes : List (ℕ × ℕ)) → torn_behind kept fill (write ∷ writes) ≡ (write.0, if nat_lt 0 kept then write.1 else fill) ∷ torn_behind (kept - 1) fill writes
torn_head zero fill write writes = refl
torn_head (suc kept) fill write writes =
    let less : suc kept - 1 ≡ kept = omega arith in
    let is : nat_lt 0 (suc kept) ≡ true = grind (arith, nat_tests) in
    sym (λ j. (write.0, if is j then write.1 else fill) ∷ torn_behind (less j) fill writes)

pub torn_step : (kept i fill : ℕ) (write : ℕ × ℕ) (writes : List (ℕ × ℕ)) → torn_behind (kept - i) fill (write ∷ writes) ≡ (write.0, if nat_lt i kept then write.1 else fill) ∷ torn_behind (kept - (i + 1)) fill writes
torn_step kept i fill write writes =
    let less : kept - i - 1 ≡ kept - (i + 1) = omega arith in
    let same : nat_lt 0 (kept - i) ≡ nat_lt i kept = grind (arith, nat_tests) in
    torn_head (kept - i) fill write writes ∙ (λ j. (write.0, if same j then write.1 else fill) ∷ torn_behind (less j) fill writes)

turned : (write : ℕ × ℕ) (last : List (ℕ × ℕ)) (b : Bool) → (if b then reverse last else reverse last ++ write ∷ []) ≡ reverse (if b then last else write ∷ last)
turned write last true = refl
turned write last false = sym (reverse-append (write ∷ []) last)

-- one more write from the back
pub last_step : (write : ℕ × ℕ) (rest taken taken_now : List (ℕ × ℕ)) (is : Bool) → taken ≡ reverse (last_writes rest) → is ≡ is_written_at write.0 rest → taken_now ≡ (if is then taken else taken ++ write ∷ []) → taken_now ≡ reverse (last_writes (write ∷ rest))
last_step write rest taken taken_now is so_far seen now =
    now
    ∙ (λ i. if seen i then so_far i else so_far i ++ write ∷ [])
    ∙ turned write (last_writes rest) (is_written_at write.0 rest)

seen_here : (size : ℕ) (write : ℕ × ℕ) (rest : List (ℕ × ℕ)) (seen : List Bool) (p : ℕ) → length seen ≡ size → p < size → p ≡ write.0 → get_or (set seen write.0 true) p false ≡ is_written_at p (write ∷ rest)
seen_here size write rest seen p long below here =
    let found : get_or (set seen write.0 true) p false ≡ true =
    ap (λ (q : ℕ). get_or (set seen write.0 true) q false) here ∙ get_or-set_same seen write.0 true false (omega (arith, long, below, here)) in
    let is : (write.0 == p) ≡ true = grind (arith, nat_tests) in
    found ∙ sym (ap (λ (b : Bool). b || is_written_at p rest) is)

seen_there : (write : ℕ × ℕ) (rest : List (ℕ × ℕ)) (seen : List Bool) (p : ℕ) → get_or seen p false ≡ is_written_at p rest → (p ≡ write.0 → ⊥) → get_or (set seen write.0 true) p false ≡ is_written_at p (write ∷ rest)
seen_there write rest seen p so_far there =
    let is : (write.0 == p) ≡ false = grind (arith, nat_tests) in
    get_or-set_other seen write.0 p true false there ∙ so_far ∙ sym (ap (λ (b : Bool). b || is_written_at p rest) is)

pub seen_step : (size : ℕ) (write : ℕ × ℕ) (rest : List (ℕ × ℕ)) (seen : List Bool) → length seen ≡ size → ((p : ℕ) → p < size → get_or seen p false ≡ is_written_at p rest) → (p : ℕ) → p < size → get_or (set seen write.0 true) p false ≡ is_written_at p (write ∷ rest)
seen_step size write rest seen long so_far p below = ⊎_elim (seen_here size write rest seen p long below) (seen_there write rest seen p (so_far p below)) (cases_eq p write.0)

-- all of it, for the loop that goes over the writes from the last
pub back_step : (size i : ℕ) (writes taken taken_now : List (ℕ × ℕ)) (seen seen_now : List Bool) → i < length writes → let at = length writes - 1 - i in let write = get_or writes at (0, 0) in
    write.0 < size → (taken ≡ reverse (last_writes (drop (length writes - i) writes))) × (length seen ≡ size) × ((p : ℕ) → p < size → get_or seen p false ≡ is_written_at p (drop (length writes - i) writes))
    → taken_now ≡ (if get_or seen write.0 false then taken else taken ++ write ∷ []) → seen_now ≡ set seen write.0 true
    → (taken_now ≡ reverse (last_writes (drop (length writes - (i + 1)) writes))) × (length seen_now ≡ size) × ((p : ℕ) → p < size → get_or seen_now p false ≡ is_written_at p (drop (length writes - (i + 1)) writes))
back_step size i writes taken taken_now seen seen_now below first so_far now sees =
    let at = length writes - 1 - i in
    let write = get_or writes at (0, 0) in
    let rest = drop (length writes - i) writes in
    let here : length writes - (i + 1) ≡ at = omega arith in
    let behind : at + 1 ≡ length writes - i = omega (arith, below) in
    let split : drop (length writes - (i + 1)) writes ≡ write ∷ rest =
    ap (λ (n : ℕ). drop n writes) here ∙ drop_more writes at (0, 0) (omega (arith, below)) ∙ ap (λ (n : ℕ). write ∷ drop n writes) behind in
    let is_seen : get_or seen write.0 false ≡ is_written_at write.0 rest = so_far.2 write.0 first in (
      last_step write rest taken taken_now (get_or seen write.0 false) so_far.0 is_seen now ∙ ap (λ (l : List (ℕ × ℕ)). reverse (last_writes l)) (sym split),
      ap length sees ∙ length-set seen write.0 true ∙ so_far.1,
      λ p under. ap (λ (l : List Bool). get_or l p false) sees ∙ seen_step size write rest seen so_far.1 so_far.2 p under ∙ ap (is_written_at p) (sym split),
    )
