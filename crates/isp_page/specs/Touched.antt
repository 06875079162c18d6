-- Which pages calls leave as they are, and how far they let the mini-transaction grow.
use Rattle.std.specs.Prelude.{◌≡◌, ℕ, ◌+◌, ◌≤◌, ◌==◌, Bool, true, false, List, [], ◌∷◌, length, ⊤, if◌then◌else◌}
use Rattle.isp_format.specs.Ranges.{Contents, page_of}
use Rattle.isp_page.specs.State.{MiniTransaction, is_among}

-- the one page
abbrev pub is_page : ℕ → ℕ → Bool
is_page page other = other == page

-- all pages but those that the test names have the same bytes
abbrev pub KeepsPages : (ℕ → Bool) → Contents → Contents → Type 0
KeepsPages touched old new = (page : ℕ) → touched page ≡ false → page_of new page ≡ page_of old page

-- each of the pages is on the list
abbrev pub AreAmong : List ℕ → List ℕ → Type 0
AreAmong [] most = ⊤
AreAmong (page ∷ pages) most = (is_among page most ≡ true) × AreAmong pages most

-- how many of the list aren't changed yet
abbrev pub unchanged_of : List ℕ → List ℕ → ℕ
unchanged_of [] changed = 0
unchanged_of (page ∷ pages) changed = (if is_among page changed then 0 else 1) + unchanged_of pages changed

-- The mini-transaction is begun or not as before, and changed pages of this list alone, however often: at most as many more are
-- changed as it has, and of any list that has them, what is changed and what isn't are together no more than before.
pub record Grows (most : List ℕ) (old new : MiniTransaction) : Type 0 where
  pub begun : new.is_begun ≡ old.is_begun
  pub within : length new.changed ≤ length old.changed + length most
  pub few : (all : List ℕ) → AreAmong most all
      → length new.changed + unchanged_of all new.changed ≤ length old.changed + unchanged_of all old.changed
