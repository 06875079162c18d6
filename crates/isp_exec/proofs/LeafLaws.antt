-- What a step reads of its table: the row of a key, or a leaf.
use Rattle.std.proofs.Common.{◌≡◌, ℕ, ℤ, List, [], ◌∷◌, Option, None, sym, ◌∙◌, ap, subst}
use Rattle.std.specs.Prelude.{Result, Ok, Err, IfErr, IfOk}
use Rattle.isp_catalog.specs.declared.table.TableDef.{TableDef}
use Rattle.isp_image.specs.Databases.{FileTable}
use Rattle.isp_page.specs.Steps.{IsNoDamageOrLacks}
use Rattle.isp_page.specs.declared.fault.Fault.{Fault}
use Rattle.isp_plain.specs.declared.statement.Statement.{Statement}
use Rattle.isp_plain.specs.declared.value.Schema.{Schema}
use Rattle.isp_scan.specs.Keys.{named_key}
use Rattle.isp_scan.specs.Leaves.{HasPiece, IsBehind, IsLeafFound, Piece}
use Rattle.isp_scan.specs.declared.leaves.LeafFound.{LeafFound}
use Rattle.isp_exec.specs.Standing.{IsFoundBehind, IsLeft, pieces_by}

-- ---- a leaf

-- the next leaf has the first of the pieces that are left, if there are any
module _ (schema : Schema) (s : Statement) (t : FileTable) (after : Option ℕ) (left : List Piece) (result : Result LeafFound Fault) where
  no_piece : (result : Result LeafFound Fault) → IfOk result (λ leaf. Unit {0})
  no_piece (Ok leaf) = tt
  no_piece (Err fault) = tt

  pub behind_found : ((piece : Piece) (later : List Piece) → IsBehind t after (piece ∷ later) → IfOk result (IsLeafFound schema s t piece later)) → IsBehind t after left → IfOk result (IsFoundBehind schema s t left)
  behind_found finds behind = by left behind
    where
      by : (left : List Piece) → IsBehind t after left → IfOk result (IsFoundBehind schema s t left)
      by [] behind = no_piece result
      by (piece ∷ later) behind = finds piece later behind

  pub behind_sound : ((piece : Piece) (later : List Piece) → IsBehind t after (piece ∷ later) → IfErr result IsNoDamageOrLacks) → IsBehind t after left → HasPiece left → IfErr result IsNoDamageOrLacks
  behind_sound sound behind some = sound some.first some.later (subst (IsBehind t after) some.is behind)

-- ---- what is read first

module _ (def : TableDef) (s : Statement) (t : FileTable) (same : t.def ≡ def) (left : List Piece) (is : IsLeft t s None left) where
  first_pieces : (o : Option ℤ) → named_key def s ≡ o → left ≡ pieces_by o t
  first_pieces o named = is ∙ ap (λ (k : Option ℤ). pieces_by k t) (ap (λ (x : TableDef). named_key x s) same ∙ named)

  -- all leaves are left where no key is named
  pub first_behind : named_key def s ≡ None → IsBehind t None left
  first_behind named = record { is = sym (first_pieces None named) }
