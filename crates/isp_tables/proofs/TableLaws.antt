-- The tables of a database and their definitions, place by place.
use Rattle.std.proofs.Common.{◌≡◌, ℕ, zero, suc, ◌+◌, ◌<◌, not, cond, List, [], ◌∷◌, map, length, slice_get, Some, None, refl, sym, ◌∙◌, ap, subst}
use Rattle.std.specs.Prelude.{All, nat_lt}
use Rattle.std.specs.List.{position_or_len}
use Rattle.std.proofs.lemmas.List.Elements.{All-head, All-tail}
use Rattle.std.specs.Option.{option_map}
use Rattle.std.specs.Str.{bytes_eq}
use Rattle.isp_catalog.specs.declared.table.TableDef.{TableDef}
use Rattle.isp_format.specs.Ranges.{Contents}
use Rattle.isp_image.specs.Databases.{Database, FileTable, table_of, tables_of}
use Rattle.isp_image.specs.Files.{IsFileTable}
use Rattle.isp_chained.specs.Chained.{ChainedFile, alone}
use Rattle.isp_chained.specs.Laws.{OneChain}
use Rattle.isp_chained.proofs.AloneLaws.{alone_one}
use Rattle.isp_page.specs.declared.pages.Pages.{Ghosts}
use Rattle.isp_plain.specs.Does.{place_of}
use Rattle.isp_plain.specs.Tables.{Table}
use Rattle.isp_scan.specs.Scanning.{HasFileTable}
use Rattle.isp_trx.specs.Transactions.{TrxState}
use Rattle.isp_tables.specs.Opened.{IsAtPlace, IsOpen, defs_in}
use Rattle.isp_tables.specs.TableLists.{place_in}

abbrev pub def_of : FileTable → TableDef
def_of t = t.def

-- ---- a name's place

first_is : (name : List ℕ) (tables : List FileTable) → position_or_len (λ (def : TableDef). bytes_eq def.name name) (map def_of tables) ≡ position_or_len (λ (table : Table). bytes_eq table.name name) (map table_of tables)
first_is name [] = refl
first_is name (t ∷ tables) = ap (λ (n : ℕ). cond (not (bytes_eq t.def.name name)) (1 + n) 0) (first_is name tables)

as_many : (tables : List FileTable) → length (map def_of tables) ≡ length (map table_of tables)
as_many [] = refl
as_many (t ∷ tables) = ap suc (as_many tables)

pub place_is : (d : Database) (defs : List TableDef) (name : List ℕ) → defs_in d ≡ defs → place_in defs name ≡ place_of (tables_of d) name
place_is d defs name are =
    sym (ap (λ (l : List TableDef). place_in l name) are)
    ∙ (λ i. cond (nat_lt (first_is name d.tables i) (as_many d.tables i)) (Some (first_is name d.tables i)) None)

-- ---- the table at a place

some_def : (a b : TableDef) → Some a ≡ Some b → a ≡ b
some_def a b same = cc

none_def : (a : TableDef) → None ≡ Some a → ⊥
none_def a same = cc

table_there : (tables : List FileTable) (place : ℕ) (def : TableDef) → slice_get (map def_of tables) place ≡ Some def → (t : FileTable) × (slice_get tables place ≡ Some t) × (t.def ≡ def)
table_there [] place def is = absurd (none_def def is)
table_there (t ∷ tables) zero def is = (t, refl, some_def t.def def is)
table_there (t ∷ tables) (suc place) def is = table_there tables place def is

pub at_place : (d : Database) (defs : List TableDef) (place : ℕ) (def : TableDef) → defs_in d ≡ defs → slice_get defs place ≡ Some def → IsAtPlace place def d
at_place d defs place def are is =
    let t = table_there d.tables place def (ap (λ (l : List TableDef). slice_get l place) are ∙ is) in
    record { table = t.0; is_there = t.1; is = t.2 }

plain_there : (tables : List FileTable) (place : ℕ) (t : FileTable) → slice_get tables place ≡ Some t → slice_get (map table_of tables) place ≡ Some (table_of t)
plain_there [] place t is = ap (option_map table_of) is
plain_there (u ∷ tables) zero t is = ap (option_map table_of) is
plain_there (u ∷ tables) (suc place) t is = plain_there tables place t is

pub plain_at : (d : Database) (place : ℕ) (def : TableDef) (at : IsAtPlace place def d) → slice_get (tables_of d) place ≡ Some (table_of at.table)
plain_at d place def at = plain_there d.tables place at.table at.is_there

-- the store has it
pub file_table : {S : Type 0} (g : Ghosts S) (now : S) (defs : List TableDef) (trx : TrxState) (d : Database) (place : ℕ) (def : TableDef) → IsOpen g now defs trx d → (at : IsAtPlace place def d) → HasFileTable g now def at.table
file_table g now defs trx d place def opened at =
    let t = opened.kept.holds.kept.each place at.table at.is_there in
    let number : suc place ≡ def.number = sym t.number_is ∙ ap (λ (x : TableDef). x.number) at.is in
    record { is = at.is; table = subst (λ (n : ℕ). IsFileTable (g.shape now).pages (g.contents now) n at.table) number t }

pub def_number : {S : Type 0} (g : Ghosts S) (now : S) (defs : List TableDef) (trx : TrxState) (d : Database) (place : ℕ) (def : TableDef) → IsOpen g now defs trx d → (at : IsAtPlace place def d) → def.number ≡ suc place
def_number g now defs trx d place def opened at = ap (λ (x : TableDef). x.number) (sym at.is) ∙ (opened.kept.holds.kept.each place at.table at.is_there).number_is

-- ---- one chain

pub one_chain : {S : Type 0} (g : Ghosts S) (now : S) (defs : List TableDef) (trx : TrxState) (d : Database) (opened : IsOpen g now defs trx d) → OneChain trx.session opened.chain d
one_chain g now defs trx d opened = alone_one (g.shape now).pages (g.contents now) d trx.session opened.chain opened.slot opened.kept

-- ---- the same pages

pub open_on : {S : Type 0} (g : Ghosts S) (old new : S) (defs : List TableDef) (trx : TrxState) (d : Database) → (g.shape new).pages ≡ (g.shape old).pages → g.contents new ≡ g.contents old → IsOpen g old defs trx d → IsOpen g new defs trx d
open_on g old new defs trx d pages contents opened = record {
  chain = opened.chain;
  kept = subst (λ (n : ℕ). ChainedFile n (g.contents new) d (alone trx.session opened.chain)) (sym pages) (subst (λ (c : Contents). ChainedFile (g.shape old).pages c d (alone trx.session opened.chain)) (sym contents) opened.kept);
  slot = opened.slot;
  defs_are = opened.defs_are;
  noted = opened.noted;
  written = opened.written;
}

-- ---- a table among those inside

pub all_at : (P : TableDef → Type 0) (defs : List TableDef) (place : ℕ) (def : TableDef) → All P defs → slice_get defs place ≡ Some def → P def
all_at P [] place def all is = absurd (none_def def is)
all_at P (x ∷ defs) zero def all is = subst P (some_def x def is) (All-head P x defs all)
all_at P (x ∷ defs) (suc place) def all is = all_at P defs place def (All-tail P x defs all) is

pub inside_at : (pages : ℕ) (defs : List TableDef) (place : ℕ) (def : TableDef) → All (λ (def : TableDef). def.root.0 < pages) defs → slice_get defs place ≡ Some def → def.root.0 < pages
inside_at pages defs place def all is = all_at (λ (def : TableDef). def.root.0 < pages) defs place def all is
