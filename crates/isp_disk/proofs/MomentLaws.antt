-- How a run of calls of any world goes on: what is said of each stop is carried over one more call, and a row of writes
-- into one region, with a sync behind it perhaps, leaves only images that differ there.
use Rattle.std.proofs.Common.{◌≡◌, inl, inr, ⊎_elim, ℕ, zero, suc, ◌||◌, List, [], take, ◌++◌, refl, sym, ◌∙◌, ap, arith}
use Rattle.isp_disk.specs.Outside.{PrintsPart}
use Rattle.isp_disk.specs.Moments.{Image, Region, Agree, Elapses, LeavesOnly, Quiet, Within, either}
use Rattle.std.proofs.lemmas.List.{append-nil}

-- images that agree outside a region

pub agree_self : (region : Region) (image : Image) → Agree region image image
agree_self region image place out = refl

pub agree_back : (region : Region) (one other : Image) → Agree region one other → Agree region other one
agree_back region one other agree place out = sym (agree place out)

pub agree_on : (region : Region) (one mid other : Image) → Agree region one mid → Agree region mid other → Agree region one other
agree_on region one mid other first second place out = first place out ∙ second place out

pub agree_wider : (region wider : Region) (one other : Image) → Within region wider → Agree region one other → Agree wider one other
agree_wider region wider one other within agree place out = agree place (within place out)

pub within_both : (first second region : Region) → Within first region → Within second region → Within (either first second) region
within_both first second region one other place out = (λ i. one place out i || second place) ∙ other place out

-- a quiet disk leaves what it reads
pub quiet_agrees : (pending : Region) (image left : Image) → Quiet pending → Agree pending image left → (place : ℕ) → image place ≡ left place
quiet_agrees pending image left quiet agree place = agree place (quiet place)

none_of_nothing : (n : ℕ) → take {A = ℕ} n [] ≡ []
none_of_nothing zero = refl
none_of_nothing (suc n) = refl

-- a call that prints nothing leaves what was told
pub nothing_told : (before told : List ℕ) → PrintsPart before [] told → told ≡ before
nothing_told before told part = part.printed ∙ ap (λ (bytes : List ℕ). before ++ bytes) (none_of_nothing part.count) ∙ append-nil before

module _ {W : Type 0} (clock : W → ℕ) (left_since : W → ℕ → Image → List ℕ → Type 0) where
  -- before the first call
  pub started : (old : W) (P : Image → List ℕ → Type 0) → ((left : Image) (told : List ℕ) → left_since old (clock old) left told → P left told) → LeavesOnly clock left_since old old P
  started old P here = record { later = omega arith; each = here; before = λ t left told le since. inl since }

  -- one call more, within which a stop leaves what has P
  pub goes_on : (old mid new : W) (P during : Image → List ℕ → Type 0) → LeavesOnly clock left_since old mid P → Elapses (clock mid) (clock new) (left_since mid) (left_since new) during
      → ((left : Image) (told : List ℕ) → during left told → P left told) → LeavesOnly clock left_since old new P
  goes_on old mid new P during so_far time here = record {
    later = omega (arith, so_far.later, time.later);
    each = λ left told since. ⊎_elim (so_far.each left told) (here left told) (time.nothing_else (clock old) left told so_far.later since);
    before = λ t left told le since. ⊎_elim (so_far.before t left told le) (λ now. inr (here left told now)) (time.nothing_else t left told (omega (arith, le, so_far.later)) since);
  }

  -- a weaker property
  pub widens : (old new : W) (P Q : Image → List ℕ → Type 0) → LeavesOnly clock left_since old new P → ((left : Image) (told : List ℕ) → P left told → Q left told) → LeavesOnly clock left_since old new Q
  widens old new P Q so_far weaker = record {
    later = so_far.later;
    each = λ left told since. weaker left told (so_far.each left told since);
    before = λ t left told le since. ⊎_elim (λ was. inl was) (λ has. inr (weaker left told has)) (so_far.before t left told le since);
  }

  -- one run behind another
  pub chains : (old mid new : W) (P : Image → List ℕ → Type 0) → LeavesOnly clock left_since old mid P → LeavesOnly clock left_since mid new P → LeavesOnly clock left_since old new P
  chains old mid new P first second = record {
    later = omega (arith, first.later, second.later);
    each = λ left told since. ⊎_elim (first.each left told) (λ has. has) (second.before (clock old) left told first.later since);
    before = λ t left told le since. ⊎_elim (first.before t left told le) (λ has. inr has) (second.before t left told (omega (arith, le, first.later)) since);
  }
