-- What a row that is written makes of a file.
use Rattle.std.specs.Prelude.{◌≡◌, ℕ, ◌+◌, ◌-◌, ◌≤◌, nat_le, nat_lt, Bool, true, false, List, ◌∷◌, length, slice_get, Option, Some, None, if◌then◌else◌}
use Rattle.std.specs.Option.{option_map}
use Rattle.isp_catalog.specs.declared.table.TableDef.{TableDef}
use Rattle.isp_changes.specs.Changes.{RowChange, after_change, image_of}
use Rattle.isp_clustered.specs.Cells.{kept_of}
use Rattle.isp_clustered.specs.Rows.{find}
use Rattle.isp_clustered.specs.Trees.{rows_of}
use Rattle.isp_clustered.specs.declared.kept.Kept.{Kept}
use Rattle.isp_format.specs.Ranges.{Contents}
use Rattle.isp_chained.specs.Courses.{Reaches}
use Rattle.isp_image.specs.Databases.{Database, FileImage, FileTable, back_of, tables_of}
use Rattle.isp_image.specs.Files.{IsSpelling}
use Rattle.isp_undo.specs.Chains.{Chain}
use Rattle.isp_chained.specs.Chained.{ChainedFile}
use Rattle.isp_chained.specs.Steps.{IsFreeIn}
use Rattle.isp_page.specs.declared.pages.Pages.{Ghosts}
use Rattle.isp_plain.specs.Lined.{is_lined_row}
use Rattle.isp_plain.specs.Values.{key_of}
use Rattle.isp_plain.specs.RowBytes.{row_limit}
use Rattle.isp_plain.specs.declared.value.Row.{Row}
use Rattle.isp_plain.specs.declared.value.Schema.{Schema}
use Rattle.isp_trx.specs.Transactions.{HasNoted, TrxState, old_image}
use Rattle.isp_trx.specs.Writes.{CanWrite, Write, Wrote, is_smaller, place_of}
use Rattle.isp_writes.specs.Causes.{IsFull}
use Rattle.isp_tables.specs.Creations.{HasRoom}
use Rattle.isp_tables.specs.Opened.{IsOpen}

-- ---- bytes

-- what stands there, if anything does, has no more bytes than a row may have
abbrev pub is_short : Option Kept → Bool
is_short None = true
is_short (Some kept) = nat_le (length kept.row) row_limit

-- the bytes that stand there
abbrev pub IsCopyOf : Option Kept → Option (List ℕ) → Type 0
IsCopyOf old found = (kept : Kept) → old ≡ Some kept → found ≡ Some kept.row

-- bytes that spell the row, if it has no line feed
abbrev pub SpellsNew : Schema → Row → Option (List ℕ) → Type 0
SpellsNew schema row None = ⊥
SpellsNew schema row (Some bytes) = is_lined_row row ≡ true → IsSpelling schema (key_of row) bytes row

-- what is written for a row: bytes that spell it, or where it is deleted those that stand there
abbrev pub IsBytesOf : Schema → Row → Bool → Option Kept → Option (List ℕ) → Type 0
IsBytesOf schema row true old found = IsCopyOf old found
IsBytesOf schema row false old found = SpellsNew schema row found

-- ---- one write

-- The contents are this database with these chains, of which the slot's is this one; what stands at the key is known, no other slot has
-- an old row of it, and the bytes spell a row of the table. Whether there is room isn't said.
pub record MayWrite (pages : ℕ) (contents : Contents) (chains : List Chain) (slot : ℕ) (chain : Chain) (w : Write) (d : Database) (t : FileTable) (row : Row) : Type 0 where
  pub kept : ChainedFile pages contents d chains
  pub own : slice_get chains slot ≡ Some chain
  pub free : IsFreeIn (old_image w.at w.old) slot chains
  pub from : 1 ≤ w.at.table
  pub is_there : slice_get d.tables (place_of w.at) ≡ Some t
  pub root : t.def.root.0 ≡ w.root
  pub stands : w.old ≡ option_map kept_of (find w.at.key (rows_of t.tree))
  pub spells : IsSpelling t.def.schema w.at.key w.row row
  pub unmarked : is_smaller (length w.row) w.old ≡ true → w.marked ≡ false

-- it was written, or there was no room, and nothing changed
abbrev pub WroteOrFull : ℕ → Contents → Contents → List Chain → Chain → TrxState → TrxState → Write → Database → FileTable → Row → Bool → Type 0
WroteOrFull pages old new chains chain trx trx_now w d t row true = CanWrite pages old chains trx.session chain w d t row × Wrote pages new chains trx.session chain w row d × HasNoted w.at trx trx_now
WroteOrFull pages old new chains chain trx trx_now w d t row false = (new ≡ old) × (trx_now ≡ trx) × IsFull pages d

-- so many changes are noted
abbrev pub Notes : TrxState → TrxState → Bool → Type 0
Notes trx trx_now done = trx_now.count ≡ trx.count + (if done then 1 else 0)

-- ---- one row of a table

-- There was room, and the change was made, with what stood there noted, and nothing else.
pub record DidWrite {S : Type 0} (g : Ghosts S) (now : S) (defs : List TableDef) (trx : TrxState) (change : RowChange) (d : Database) : Type 0 where
  pub room : HasRoom g now d
  pub after : Database
  pub opened : IsOpen g now defs trx after
  pub image : FileImage
  pub noted : after.images ≡ image ∷ d.images
  pub back : back_of image ≡ image_of (tables_of d) change
  pub tables : tables_of after ≡ after_change (tables_of d) change
  pub reaches : Reaches (g.shape now).pages d after

-- it was, or there was no room, and nothing changed
abbrev pub WritesOrFull : {S : Type 0} → Ghosts S → S → List TableDef → TrxState → RowChange → Database → Bool → Type 0
WritesOrFull g now defs trx change d true = DidWrite g now defs trx change d
WritesOrFull g now defs trx change d false = IsOpen g now defs trx d × IsFull (g.shape now).pages d

-- ---- a change that is taken back

-- one less, where there are more than so many
abbrev pub fewer : ℕ → ℕ → ℕ
fewer base noted = if nat_lt base noted then noted - 1 else noted

-- The newest old row was put back, and is noted no more.
pub record DidUndo {S : Type 0} (g : Ghosts S) (now : S) (defs : List TableDef) (trx : TrxState) (d : Database) : Type 0 where
  pub after : Database
  pub opened : IsOpen g now defs trx after
  pub image : FileImage
  pub noted : d.images ≡ image ∷ after.images
  pub tables : tables_of after ≡ after_change (tables_of d) (back_of image)
  pub reaches : Reaches (g.shape now).pages d after

-- it was, or nothing changed
abbrev pub UndidOrNot : {S : Type 0} → Ghosts S → S → List TableDef → TrxState → Bool → Database → Type 0
UndidOrNot g now defs trx true d = DidUndo g now defs trx d
UndidOrNot g now defs trx false d = IsOpen g now defs trx d
