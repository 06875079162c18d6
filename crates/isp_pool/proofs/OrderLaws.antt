-- Which frame is the victim, and which the last dirty one.
use Rattle.std.proofs.Common.{◌≡◌, ◌∙◌, ◌+◌, ◌<◌, ◌≤◌, ◌&&◌, Bool, true, false, not, cond, List, [], ◌∷◌, ℕ, zero, suc, Option, Some, None, refl, sym, ap, nat_lt, arith, length, get_or, map}
use Rattle.std.specs.List.{position, position_or_len}
use Rattle.std.specs.Option.{is_none, IfSome}
use Rattle.std.proofs.lemmas.Bool.{false≢true, cond-true, cond-false, lt-ltb, le-ltb}
use Rattle.isp_recency.specs.Recent.{has, last_where}
use Rattle.isp_recency.proofs.RecentLaws.{last_passes, none_passes, last_agrees}
use Rattle.isp_pool.specs.declared.frames.Frame.{Frame}
use Rattle.isp_pool.specs.Frames.{frame_in, is_held, is_dirty, is_pinned, is_unpinned, is_cleanable, IsFirstFree}
use Rattle.isp_pool.proofs.PoolLaws.{flag_at}
use Rattle.isp_pool.proofs.StateLaws.{held_below}

-- the first free frame
held_some : (o : Option Frame) → is_held o ≡ true → is_none o ≡ false
held_some None h = absurd (false≢true h)
held_some (Some f) h = refl

free_place : (frames : List (Option Frame)) (k : ℕ) → k < length frames → ((j : ℕ) → j < k → is_held (frame_in frames j) ≡ true) → frame_in frames k ≡ None
    → position_or_len is_none frames ≡ k
free_place [] k lt held free = absurd (omega arith)
free_place (o ∷ os) zero lt held free = ap (λ b. cond (not b) (1 + position_or_len is_none os) 0) (ap is_none free)
free_place (o ∷ os) (suc k) lt held free =
    let rest : position_or_len is_none os ≡ k = free_place os k (omega arith) (λ j low. held (suc j) (omega arith)) free in
    let first : is_none o ≡ false = held_some o (held 0 (omega arith)) in
    ap (λ b. cond (not b) (1 + position_or_len is_none os) 0) first ∙ (let e : 1 + position_or_len is_none os ≡ suc k = omega arith in e)

no_free_place : (frames : List (Option Frame)) → ((j : ℕ) → j < length frames → is_held (frame_in frames j) ≡ true) → position_or_len is_none frames ≡ length frames
no_free_place [] held = refl
no_free_place (o ∷ os) held =
    let rest : position_or_len is_none os ≡ length os = no_free_place os (λ j low. held (suc j) (omega arith)) in
    let first : is_none o ≡ false = held_some o (held 0 (omega arith)) in
    ap (λ b. cond (not b) (1 + position_or_len is_none os) 0) first ∙ (let e : 1 + position_or_len is_none os ≡ suc (length os) = omega arith in e)

pub first_place : (frames : List (Option Frame)) (k : ℕ) → IsFirstFree frames k → k < length frames → position is_none frames ≡ Some k
first_place frames k first lt =
    ap (λ n. cond (nat_lt n (length frames)) (Some n) None) (free_place frames k lt first.held (first.free lt))
    ∙ cond-true (nat_lt k (length frames)) (Some k) None (lt-ltb k (length frames) lt)

pub all_held : (frames : List (Option Frame)) (k : ℕ) → IsFirstFree frames k → length frames ≤ k → (j : ℕ) → j < length frames → is_held (frame_in frames j) ≡ true
all_held frames k first le j lt = first.held j (omega arith)

pub no_place : (frames : List (Option Frame)) (k : ℕ) → IsFirstFree frames k → length frames ≤ k → position is_none frames ≡ None
no_place frames k first le =
    ap (λ n. cond (nat_lt n (length frames)) (Some n) None) (no_free_place frames (all_held frames k first le))
    ∙ cond-false (nat_lt (length frames) (length frames)) (Some (length frames)) None (le-ltb (length frames) (length frames) (omega arith))

-- the last of the order whose flag is set is the last that passes the test
pub by_flags : (test : Option Frame → Bool) → test None ≡ false → (frames : List (Option Frame)) (flags : List Bool) (recent : List ℕ) → flags ≡ map test frames
    → last_where (λ i. get_or flags i false) recent ≡ last_where (λ i. test (frame_in frames i)) recent
by_flags test none_is frames flags recent e =
    last_agrees (λ i. get_or flags i false) (λ i. test (frame_in frames i)) (λ i. ap (λ xs. get_or xs i false) e ∙ flag_at test none_is frames i) recent

unpinned_held : (o : Option Frame) → is_unpinned o ≡ true → (is_held o ≡ true) × (is_pinned o ≡ false)
unpinned_held None h = absurd (false≢true h)
unpinned_held (Some f) h = let P : Bool → Type 0 = λ b. not b ≡ true → (true ≡ true) × (b ≡ false) in
    elim f.pinned as P [ true ↦ λ e. absurd (false≢true e) | false ↦ λ e. (refl, refl) ] h

pinned_held : (o : Option Frame) → is_held o ≡ true → is_unpinned o ≡ false → is_pinned o ≡ true
pinned_held None h u = absurd (false≢true h)
pinned_held (Some f) h u = let P : Bool → Type 0 = λ b. not b ≡ false → b ≡ true in
    elim f.pinned as P [ true ↦ λ e. refl | false ↦ λ e. absurd (false≢true (sym e)) ] u

cleanable_is : (o : Option Frame) → is_cleanable o ≡ true → (is_held o ≡ true) × (is_dirty o ≡ true) × (is_pinned o ≡ false)
cleanable_is None h = absurd (false≢true h)
cleanable_is (Some f) h = let P : Bool → Bool → Type 0 = λ d b. (d && not b) ≡ true → (true ≡ true) × (d ≡ true) × (b ≡ false) in
    elim f.dirty as (λ d. P d f.pinned) [
      | true ↦ elim f.pinned as (P true) [ true ↦ λ e. absurd (false≢true e) | false ↦ λ e. (refl, refl, refl) ]
      | false ↦ λ e. absurd (false≢true e)
    ] h

dirty_stays : (o : Option Frame) → is_dirty o ≡ true → is_cleanable o ≡ false → (is_held o ≡ true) × (is_pinned o ≡ true)
dirty_stays None h c = absurd (false≢true h)
dirty_stays (Some f) h c = let P : Bool → Bool → Type 0 = λ d b. d ≡ true → (d && not b) ≡ false → (true ≡ true) × (b ≡ true) in
    elim f.dirty as (λ d. P d f.pinned) [
      | true ↦ elim f.pinned as (P true) [ true ↦ λ t e. (refl, refl) | false ↦ λ t e. absurd (false≢true (sym e)) ]
      | false ↦ λ t e. absurd (false≢true t)
    ] h c

-- the last unpinned one
pub victim_unpinned : (frames : List (Option Frame)) (recent : List ℕ) (r : Option ℕ) → r ≡ last_where (λ i. is_unpinned (frame_in frames i)) recent
    → IfSome r (λ i. (i < length frames) × (is_pinned (frame_in frames i) ≡ false))
victim_unpinned frames recent None e = tt
victim_unpinned frames recent (Some i) e =
    let found = last_passes (λ j. is_unpinned (frame_in frames j)) recent i (sym e) in
    let is = unpinned_held (frame_in frames i) found.1 in (held_below frames i is.0, is.1)

pub all_pinned : (frames : List (Option Frame)) (recent : List ℕ) → ((j : ℕ) → has recent j ≡ is_held (frame_in frames j))
    → last_where (λ i. is_unpinned (frame_in frames i)) recent ≡ None → (i : ℕ) → is_held (frame_in frames i) ≡ true → is_pinned (frame_in frames i) ≡ true
all_pinned frames recent members e i held =
    pinned_held (frame_in frames i) held (none_passes (λ j. is_unpinned (frame_in frames j)) recent e i (members i ∙ held))

-- the last dirty one
pub last_cleanable : (frames : List (Option Frame)) (recent : List ℕ) (r : Option ℕ) → r ≡ last_where (λ i. is_cleanable (frame_in frames i)) recent
    → IfSome r (λ i. (is_held (frame_in frames i) ≡ true) × (is_dirty (frame_in frames i) ≡ true) × (is_pinned (frame_in frames i) ≡ false))
last_cleanable frames recent None e = tt
last_cleanable frames recent (Some i) e = cleanable_is (frame_in frames i) (last_passes (λ j. is_cleanable (frame_in frames j)) recent i (sym e)).1

pub none_cleanable : (frames : List (Option Frame)) (recent : List ℕ) → ((j : ℕ) → has recent j ≡ is_held (frame_in frames j))
    → last_where (λ i. is_cleanable (frame_in frames i)) recent ≡ None → (i : ℕ) → is_dirty (frame_in frames i) ≡ true → is_pinned (frame_in frames i) ≡ true
none_cleanable frames recent members e i dirty =
    let held : is_held (frame_in frames i) ≡ true = let P : Option Frame → Type 0 = λ o. is_dirty o ≡ true → is_held o ≡ true in
    elim (frame_in frames i) as P [ None ↦ λ h. absurd (false≢true h) | Some f ↦ λ h. refl ] dirty in
    (dirty_stays (frame_in frames i) dirty (none_passes (λ j. is_cleanable (frame_in frames j)) recent e i (members i ∙ held))).1
