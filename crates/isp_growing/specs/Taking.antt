-- Pages that are taken from the space one after another, and a lone leaf that moves to one of them.
use Rattle.std.specs.Prelude.{ℕ, zero, suc, List, [], ◌∷◌, Option, Some}
use Rattle.isp_levels.specs.Levels.{TreeLeaf}
use Rattle.isp_space.specs.Spaces.{Space, next_free, taken}

-- the space once so many pages are taken one after another, and these pages
abbrev pub taken_times : ℕ → Space → Space
taken_times zero s = s
taken_times (suc n) s = taken_times n (taken s)

abbrev pub takes : ℕ → Space → List ℕ
takes zero s = []
takes (suc n) s = next_free s ∷ takes n (taken s)

-- a lone leaf may move to another page
abbrev pub moved_leaves : Option ℕ → List TreeLeaf → List TreeLeaf
moved_leaves (Some page) (leaf ∷ []) = record leaf { page = page } ∷ []
moved_leaves moved leaves = leaves
