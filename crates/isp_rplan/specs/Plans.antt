-- What an insert makes of the pages of its path, as lists of entries (Guttman 1984). The numbers of the new entry and of the new
-- pages aren't known yet; no choice goes by them, so a new entry leads nowhere for now.
use Rattle.std.specs.Prelude.{◌≡◌, ℕ, ◌*◌, ◌/◌, ◌<◌, ◌≤◌, List, [], ◌∷◌, ◌++◌, ◌==◌, cond, Option, Some, None, length, map, max}
use Rattle.std.specs.Option.{option_map}
use Rattle.isp_base.specs.declared.page_no.PageNo.{PageNo}
use Rattle.isp_mbr.specs.Corners.{Corners}
use Rattle.isp_forest.specs.declared.entry.Entry.{Entry}
use Rattle.isp_forest.specs.declared.entry.To.{To}
use Rattle.isp_forest.specs.declared.entry.To.TheVariants.{Child}
use Rattle.isp_forest.specs.Place.{Division}
use Rattle.isp_forest.specs.Steps.{names, reboxed, split, widened}
use Rattle.isp_forest.specs.Tree.{Node, Tree, child_of, least, page_at}
use Rattle.isp_laws.specs.DivisionLaws.{boxes_of, picked}
use Rattle.isp_split.specs.Division.{IsQuadraticSplit}
use Rattle.isp_rplan.specs.declared.steps.Carry.{Carry}
use Rattle.isp_rplan.specs.declared.steps.Carry.TheVariants.{Added, Divided, Grown}
use Rattle.isp_rplan.specs.declared.steps.Moves.{Moves}
use Rattle.isp_rplan.specs.declared.steps.PathPage.{PathPage}
use Rattle.isp_rplan.specs.declared.steps.Planned.{Planned}

-- how many entries a part has at least
abbrev pub least_fill : ℕ → ℕ
least_fill fanout = max 2 (2 * fanout / 5)

-- where a new entry leads as long as its number isn't known
abbrev pub nowhere : To
nowhere = Child (record { 0 = 0 })

abbrev pub new_entry : Corners → Entry
new_entry b = record { b = b; to = nowhere }

-- the entries of a page with what comes from below: a new entry; that the page below stays whole, so its box grows; that it was
-- divided, by the boxes of its parts
abbrev pub with_carry : Carry → List Entry → List Entry
with_carry (Added b) es = es ++ new_entry b ∷ []
with_carry (Grown child b) es = map (widened (child.0 ∷ []) b) es
with_carry (Divided child left right) es = map (reboxed child.0 left) es ++ new_entry right ∷ []

-- the places of the entries that stay and of those that move, in the quadratic split with the least fill
pub record AreDivided (fanout : ℕ) (all stays moves : List Entry) : Type 0 where
  pub over : fanout < length all
  pub first : List ℕ
  pub second : List ℕ
  pub division : IsQuadraticSplit (boxes_of all) (least_fill fanout) first second
  pub stays_is : stays ≡ picked all first
  pub moves_is : moves ≡ picked all second

-- the entries all stay, of which there are no more than the fan-out
pub record AreWhole (fanout : ℕ) (all stays : List Entry) : Type 0 where
  pub few : length all ≤ fanout
  pub stays_is : stays ≡ all

-- what goes up from it, where b is the new entry's box
abbrev pub carry_up : Corners → PageNo → List Entry → Option (List Entry) → Carry
carry_up b page stays None = Grown page b
carry_up b page stays (Some moves) = Divided page (least stays) (least moves)

abbrev pub moves_of : Planned → Option (List Entry)
moves_of s = option_map (λ (m : Moves). m.entries.items) s.moves

abbrev pub carry_of : Corners → Planned → Carry
carry_of b s = carry_up b s.page s.stays.items (moves_of s)

-- the box round all entries, where some move
abbrev pub AreRound : List Entry → Option Moves → Type 0
AreRound all None = Unit {0}
AreRound all (Some m) = m.round ≡ least all

-- these entries stay of all, and these move, if some do: exactly where there are more than the fan-out
abbrev pub AreParted : ℕ → List Entry → List Entry → Option (List Entry) → Type 0
AreParted fanout all stays None = AreWhole fanout all stays
AreParted fanout all stays (Some moves) = AreDivided fanout all stays moves

-- what is made of a page
pub record IsPlanned (fanout : ℕ) (page : PathPage) (carry : Carry) (s : Planned) : Type 0 where
  pub page_is : s.page ≡ page.page
  pub head_is : s.head ≡ page.head
  pub parts : AreParted fanout (with_carry carry page.entries.items) s.stays.items (moves_of s)
  pub round : AreRound (with_carry carry page.entries.items) s.moves

-- the plan for these pages, from the leaf up, where b is the new entry's box
abbrev pub IsPlan : ℕ → Corners → List PathPage → Carry → List Planned → Type 0
IsPlan fanout b [] carry steps = steps ≡ []
IsPlan fanout b (page ∷ pages) carry [] = ⊥
IsPlan fanout b (page ∷ pages) carry (s ∷ steps) = IsPlanned fanout page carry s × IsPlan fanout b pages (carry_of b s) steps

-- ---- once the number of a new entry is known

-- the entry leads there, if it led nowhere
abbrev pub known : To → Entry → Entry
known to e = record { b = e.b; to = cond (names (λ q. q == 0) (child_of e)) to e.to }

-- the entries of a page with what comes from below, where a new one leads there
abbrev pub with_known : Carry → To → List Entry → List Entry
with_known (Added b) to es = es ++ (record { b = b; to = to }) ∷ []
with_known (Grown child b) to es = map (widened (child.0 ∷ []) b) es
with_known (Divided child left right) to es = map (reboxed child.0 left) es ++ (record { b = right; to = to }) ∷ []

-- from the page at hand up, exactly the pages with more entries than the fan-out are divided, by the quadratic split with the least
-- fill (Guttman 1984); the new pages are those of the divisions
pub record IsDivided (fanout : ℕ) (page : Option Node) (d : Division) : Type 0 where
  pub node : Node
  pub there : page ≡ Some node
  pub parts : AreDivided fanout node.entries d.left d.right

abbrev pub entry_count : Option Node → ℕ
entry_count None = 0
entry_count (Some page) = length page.entries

abbrev pub DividesAll : ℕ → Tree → ℕ → List ℕ → List Division → Type 0
DividesAll fanout tree q [] ds = ds ≡ []
DividesAll fanout tree q (o ∷ up) [] = entry_count (page_at tree o) ≤ fanout
DividesAll fanout tree q (o ∷ []) (d ∷ ds) = IsDivided fanout (page_at tree o) d × (ds ≡ [])
DividesAll fanout tree q (o ∷ above ∷ up) (d ∷ ds) = IsDivided fanout (page_at tree o) d × DividesAll fanout (split tree o above d.left d.right d.page) q (above ∷ up) ds
