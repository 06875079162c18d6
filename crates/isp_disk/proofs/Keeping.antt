-- One more call is kept, and those from before stay what they were.
use Rattle.std.proofs.Common.{◌≡◌, ℕ, zero, suc, get_or, ◌<◌, ◌+◌, ◌≤◌, false, List, [], ◌∷◌, ◌++◌, length, take, drop, refl, sym, ◌∙◌, ap, subst, arith, length-append, length-drop}
use Rattle.std.proofs.lemmas.List.{take_all, drop_at, take-append-le, drop-append-le, map-append}
use Rattle.isp_disk.specs.declared.call_log.Call.{Call}
use Rattle.std.proofs.lemmas.Bool.Decides.{nat_tests}
use Rattle.isp_disk.specs.InMemory.{LogState, is_spent}
use Rattle.isp_disk.specs.Kept.{AreKept, event_with, event_of, events_of}

part_stays : (kept more : List ℕ) (from size : ℕ) → from + size ≤ length kept → take size (drop from (kept ++ more)) ≡ take size (drop from kept)
part_stays kept more from size inside =
    ap (λ (l : List ℕ). take size l) (drop-append-le from kept more (omega (arith, inside)))
    ∙ take-append-le size (drop from kept) more (omega (arith, inside, length-drop from kept))

-- more bytes behind those that are kept change no call
events_stay : (kept more : List ℕ) (calls : List Call) → AreKept (length kept) calls → events_of (kept ++ more) calls ≡ events_of kept calls
events_stay kept more [] are = refl
events_stay kept more (call ∷ calls) are =
    λ i. event_with call.kind call.is_ok (part_stays kept more call.from call.length are.0 i) ∷ events_stay kept more calls are.1 i

kept_more : (size more : ℕ) (calls : List Call) (call : Call) → size ≤ more → call.from + call.length ≤ more → AreKept size calls → AreKept more (calls ++ call ∷ [])
kept_more size more [] call le inside are = (inside, tt)
kept_more size more (c ∷ calls) call le inside are = (omega (arith, are.0, le), kept_more size more calls call le inside are.1)

-- a call whose bytes are put behind the others
pub push_kept : (kept bytes : List ℕ) (calls : List Call) (call : Call) → call.from ≡ length kept → call.length ≡ length bytes → AreKept (length kept) calls → AreKept (length (kept ++ bytes)) (calls ++ call ∷ [])
push_kept kept bytes calls call from size are =
    kept_more (length kept) (length (kept ++ bytes)) calls call (omega (arith, length-append kept bytes)) (omega (arith, length-append kept bytes, from, size)) are

new_part : (kept bytes : List ℕ) (from size : ℕ) → from ≡ length kept → size ≡ length bytes → take size (drop from (kept ++ bytes)) ≡ bytes
new_part kept bytes from size at long =
    ap (λ (l : List ℕ). take size l) (drop_at kept bytes from (sym at)) ∙ take_all size bytes (omega (arith, long))

pub push_events : (kept bytes : List ℕ) (calls : List Call) (call : Call) → call.from ≡ length kept → call.length ≡ length bytes → AreKept (length kept) calls → events_of (kept ++ bytes) (calls ++ call ∷ []) ≡ events_of kept calls ++ event_with call.kind call.is_ok bytes ∷ []
push_events kept bytes calls call from size are =
    map-append (event_of (kept ++ bytes)) calls (call ∷ [])
    ∙ (λ i. events_stay kept bytes calls are i ++ event_with call.kind call.is_ok (new_part kept bytes call.from call.length from size i) ∷ [])

-- the same of what the two calls of a `Vec` leave
pub kept_is : (kept bytes kept_now : List ℕ) (calls calls_now : List Call) (call : Call) → call.from ≡ length kept → call.length ≡ length bytes → kept_now ≡ kept ++ bytes → calls_now ≡ calls ++ call ∷ [] → AreKept (length kept) calls → AreKept (length kept_now) calls_now
kept_is kept bytes kept_now calls calls_now call from size kept_more calls_more are =
    let at_kept : List ℕ → Type 0 = λ l. AreKept (length l) calls_now in
    let at_calls : List Call → Type 0 = λ l. AreKept (length (kept ++ bytes)) l in
    subst at_kept (sym kept_more) (subst at_calls (sym calls_more) (push_kept kept bytes calls call from size are))

pub events_is : (kept bytes kept_now : List ℕ) (calls calls_now : List Call) (call : Call) → call.from ≡ length kept → call.length ≡ length bytes → kept_now ≡ kept ++ bytes → calls_now ≡ calls ++ call ∷ [] → AreKept (length kept) calls → events_of kept_now calls_now ≡ events_of kept calls ++ event_with call.kind call.is_ok bytes ∷ []
events_is kept bytes kept_now calls calls_now call from size kept_more calls_more are =
    (λ i. events_of (kept_more i) (calls_more i)) ∙ push_events kept bytes calls call from size are

-- memory that isn't spent has room for the call
pub has_room : (log : LogState) (size : ℕ) → is_spent log size ≡ false → size ≤ log.room
has_room log size left = grind (arith, nat_tests)

-- the bytes of one call
pub kept_at : (size : ℕ) (calls : List Call) (made : ℕ) (call : Call) → AreKept size calls → made < length calls → call ≡ get_or calls made call → call.from + call.length ≤ size
kept_at size [] made call are below is = absurd (omega (arith, below))
kept_at size (c ∷ calls) zero call are below is =
    let P : Call → Type 0 = λ x. x.from + x.length ≤ size in
    subst P (sym is) are.0
kept_at size (c ∷ calls) (suc made) call are below is = kept_at size calls made call are.1 (omega (arith, below)) is
