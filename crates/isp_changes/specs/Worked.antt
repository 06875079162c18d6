-- A table of three rows on two leaves, and statements on it step by step.
use Rattle.std.specs.Prelude.{◌≡◌, ℕ, ℤ, pos, Bool, true, false, List, [], ◌∷◌, Some, None}
use Rattle.isp_plain.specs.declared.refusal.Refusal.TheVariants.{DuplicateKey, FileFull}
use Rattle.isp_plain.specs.declared.value.Row.{Row}
use Rattle.isp_plain.specs.declared.value.Value.TheVariants.{Int}
use Rattle.isp_plain.specs.declared.statement.Atom.TheVariants.{Cmp}
use Rattle.isp_plain.specs.declared.statement.Op.TheVariants.{Ge}
use Rattle.isp_plain.specs.declared.statement.Reply.TheVariants as reply
use Rattle.isp_plain.specs.declared.statement.Statement.{Statement}
use Rattle.isp_plain.specs.declared.statement.Statement.TheVariants.{Delete, Insert, Update}
use Rattle.isp_plain.specs.Tables.{Table}
use Rattle.isp_changes.specs.Changes.{RowChange, after_changes, changes_of}
use Rattle.isp_changes.specs.Stages.{Stage, after_step, begun, changing, ready, stage_at, undoing}

-- the steps, with room at each or not
abbrev pub after_steps : Statement → List Bool → Stage → Stage
after_steps statement [] stage = stage
after_steps statement (room ∷ rooms) stage = after_steps statement rooms (after_step statement room stage)

abbrev pub numbers : ℕ → ℕ → Row
numbers key value = record { values = Int (pos key) ∷ Int (pos value) ∷ [] }

abbrev pub entry : ℕ → ℕ → ℤ × Row
entry key value = (pos key, numbers key value)

abbrev pub tables_of : List (ℤ × Row) → List Table
tables_of rows = record { name = 112 ∷ []; schema = record { columns = [] }; rows = rows } ∷ []

abbrev pub leaves : List (List (ℤ × Row))
leaves = (entry 1 10 ∷ entry 2 20 ∷ []) ∷ (entry 4 40 ∷ []) ∷ []

abbrev pub three : List Table
three = tables_of (entry 1 10 ∷ entry 2 20 ∷ entry 4 40 ∷ [])

-- a row put at a key, or taken out
abbrev pub puts : ℕ → ℕ → RowChange
puts key value = record { table = 0; key = pos key; new = Some (numbers key value) }

abbrev pub takes : ℕ → RowChange
takes key = record { table = 0; key = pos key; new = None }

-- INSERT of the keys 3 and 1, UPDATE of the rows from value 20 on, and DELETE of these
abbrev pub inserting : Statement
inserting = Insert (112 ∷ []) (numbers 3 30 ∷ numbers 1 11 ∷ [])

abbrev pub updating : Statement
updating = Update (112 ∷ []) (record { column = 1; v = Int (pos 7) } ∷ []) (record { atoms = Cmp 1 Ge (Int (pos 20)) ∷ [] })

abbrev pub deleting : Statement
deleting = Delete (112 ∷ []) (record { atoms = Cmp 1 Ge (Int (pos 20)) ∷ [] })

-- A key, its row, a key that is there already, and the first row put back. UPDATE and DELETE read two leaves and change two
-- rows; a row that finds no room puts back the one before it.
pub record WorkedSteps : Type 0 where
  pub put : after_steps inserting (true ∷ true ∷ true ∷ []) (begun three inserting [])
      ≡ stage_at (tables_of (entry 1 10 ∷ entry 2 20 ∷ entry 3 30 ∷ entry 4 40 ∷ [])) (takes 3 ∷ [])
      (undoing (DuplicateKey (pos 1)))
  pub put_back : after_steps inserting (true ∷ true ∷ true ∷ true ∷ []) (begun three inserting [])
      ≡ stage_at three [] (ready (reply.Err (DuplicateKey (pos 1))))
  pub read : after_steps updating (true ∷ true ∷ []) (begun three updating leaves)
      ≡ stage_at three [] (changing 0 (puts 2 7 ∷ puts 4 7 ∷ []))
  pub written : after_steps updating (true ∷ true ∷ true ∷ true ∷ []) (begun three updating leaves)
      ≡ stage_at (tables_of (entry 1 10 ∷ entry 2 7 ∷ entry 4 7 ∷ [])) (puts 4 40 ∷ puts 2 20 ∷ [])
      (ready (reply.Count 2))
  pub full : after_steps updating (true ∷ true ∷ true ∷ false ∷ true ∷ []) (begun three updating leaves)
      ≡ stage_at three [] (ready (reply.Err FileFull))
  pub deleted : after_changes three (changes_of three deleting) ≡ tables_of (entry 1 10 ∷ [])
