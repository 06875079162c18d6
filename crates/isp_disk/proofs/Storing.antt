-- What a world in memory keeps beside its calls is what they leave, also behind one more call.
use Rattle.std.proofs.Common.{◌≡◌, ℕ, ◌+◌, ◌-◌, ◌≤◌, Bool, true, false, List, [], ◌∷◌, ◌++◌, length, refl, sym, ◌∙◌, ap, subst, if◌then◌else◌}
use Rattle.isp_disk.specs.Moments.{Image, image_of, in_range, put}
use Rattle.isp_disk.specs.InMemory.{Event, read, wrote, synced, printed, Held, after_event, held_after, held_first}
use Rattle.isp_disk.specs.Kept.{IsInside, AreInside, IsReplayed}
use Rattle.isp_disk.proofs.Replay.{after_push}

inside_push : (size : ℕ) (calls : List Event) (event : Event) → AreInside size calls → IsInside size event → AreInside size (calls ++ event ∷ [])
inside_push size [] event are is = (is, tt)
inside_push size (call ∷ calls) event are is = (are.0, inside_push size calls event are.1 is)

replay : (first image image_now told told_now : List ℕ) (calls calls_now : List Event) (event : Event) → IsReplayed first image told calls → calls_now ≡ calls ++ event ∷ [] → length image_now ≡ length image → ((place : ℕ) → image_of image_now place ≡ (after_event (held_after first calls) event).image place) → told_now ≡ (after_event (held_after first calls) event).printed → IsInside (length first) event → IsReplayed first image_now told_now calls_now
replay first image image_now told told_now calls calls_now event before more size bytes tells inside =
    let at_calls : List Event → Type 0 = λ l. IsReplayed first image_now told_now l in
    let behind = after_push (held_first first) calls event in
    subst at_calls (sym more) record {
      size = size ∙ before.size;
      bytes = λ place. bytes place ∙ sym (ap (λ (held : Held). held.image place) behind);
      told = tells ∙ sym (ap (λ (held : Held). held.printed) behind);
      inside = inside_push (length first) calls event before.inside inside;
    }

pub replay_read : (first image told : List ℕ) (calls calls_now : List Event) (ok : Bool) → IsReplayed first image told calls → calls_now ≡ calls ++ read ok ∷ [] → IsReplayed first image told calls_now
replay_read first image told calls calls_now ok before more = replay first image image told told calls calls_now (read ok) before more refl before.bytes before.told tt

pub replay_sync : (first image told : List ℕ) (calls calls_now : List Event) (ok : Bool) → IsReplayed first image told calls → calls_now ≡ calls ++ synced ok ∷ [] → IsReplayed first image told calls_now
replay_sync first image told calls calls_now ok before more = replay first image image told told calls calls_now (synced ok) before more refl before.bytes before.told tt

pub replay_failed_write : (first image told : List ℕ) (calls calls_now : List Event) (at : ℕ) (bytes : List ℕ) (ok : Bool) → ok ≡ false → IsReplayed first image told calls → calls_now ≡ calls ++ wrote at bytes ok ∷ [] → IsReplayed first image told calls_now
replay_failed_write first image told calls calls_now at bytes ok failed before more =
    let event : calls_now ≡ calls ++ wrote at bytes false ∷ [] = more ∙ ap (λ (b : Bool). calls ++ wrote at bytes b ∷ []) failed in
    replay first image image told told calls calls_now (wrote at bytes false) before event refl before.bytes before.told (λ no. absurd (cc))

put_same : (one other : Image) (at : ℕ) (bytes : List ℕ) (place : ℕ) → one place ≡ other place → put one at bytes place ≡ put other at bytes place
put_same one other at bytes place same = ap (λ (n : ℕ). if in_range at (length bytes) place then image_of bytes (place - at) else n) same

pub replay_write : (first image image_now told : List ℕ) (calls calls_now : List Event) (at : ℕ) (bytes : List ℕ) (ok : Bool) → ok ≡ true → IsReplayed first image told calls → calls_now ≡ calls ++ wrote at bytes ok ∷ [] → length image_now ≡ length image → at + length bytes ≤ length image → ((place : ℕ) → image_of image_now place ≡ put (image_of image) at bytes place) → IsReplayed first image_now told calls_now
replay_write first image image_now told calls calls_now at bytes ok done before more size inside puts =
    let event : calls_now ≡ calls ++ wrote at bytes true ∷ [] = more ∙ ap (λ (b : Bool). calls ++ wrote at bytes b ∷ []) done in
    let within : ℕ → Type 0 = λ n. at + length bytes ≤ n in
    replay first image image_now told told calls calls_now (wrote at bytes true) before event size
    (λ place. puts place ∙ put_same (image_of image) (held_after first calls).image at bytes place (before.bytes place))
    before.told (λ yes. subst within before.size inside)

pub replay_failed_print : (first image told : List ℕ) (calls calls_now : List Event) (bytes : List ℕ) (ok : Bool) → ok ≡ false → IsReplayed first image told calls → calls_now ≡ calls ++ printed bytes ok ∷ [] → IsReplayed first image told calls_now
replay_failed_print first image told calls calls_now bytes ok failed before more =
    let event : calls_now ≡ calls ++ printed bytes false ∷ [] = more ∙ ap (λ (b : Bool). calls ++ printed bytes b ∷ []) failed in
    replay first image image told told calls calls_now (printed bytes false) before event refl before.bytes before.told tt

pub replay_print : (first image told told_now : List ℕ) (calls calls_now : List Event) (bytes : List ℕ) (ok : Bool) → ok ≡ true → IsReplayed first image told calls → calls_now ≡ calls ++ printed bytes ok ∷ [] → told_now ≡ told ++ bytes → IsReplayed first image told_now calls_now
replay_print first image told told_now calls calls_now bytes ok done before more tells =
    let event : calls_now ≡ calls ++ printed bytes true ∷ [] = more ∙ ap (λ (b : Bool). calls ++ printed bytes b ∷ []) done in
    replay first image image told told_now calls calls_now (printed bytes true) before event refl before.bytes (tells ∙ ap (λ (l : List ℕ). l ++ bytes) before.told) tt
