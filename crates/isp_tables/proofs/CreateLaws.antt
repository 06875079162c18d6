-- What a table that is made leaves of an open file.
use Rattle.std.proofs.Common.{◌≡◌, ℕ, suc, ◌+◌, ◌<◌, ◌≤◌, ◌&&◌, Bool, true, false, List, [], ◌∷◌, ◌++◌, length, map, refl, sym, ◌∙◌, ap, subst, arith}
use Rattle.std.specs.Prelude.{nat_le, nat_lt}
use Rattle.std.specs.List.{list_all}
use Rattle.std.proofs.lemmas.List.Elements.{All-push}
use Rattle.std.proofs.lemmas.Bool.Decides.{nat_tests}
use Rattle.isp_catalog.specs.Catalogue.{has_table}
use Rattle.isp_catalog.specs.Limits.{AreColumns, are_distinct, has_key, is_indexable, most_indexed}
use Rattle.isp_catalog.specs.declared.table.TableDef.{TableDef}
use Rattle.isp_changes.specs.Stages.{with_empty}
use Rattle.isp_creating.specs.Creating.{CanCreate, Created}
use Rattle.isp_image.specs.Databases.{Database, FileImage, FileTable, tables_of}
use Rattle.isp_chained.specs.Chained.{ChainedFile, alone}
use Rattle.isp_chained.proofs.CourseLaws.{reaches_more, reaches_self}
use Rattle.isp_page.specs.declared.pages.Pages.{Ghosts}
use Rattle.isp_plain.specs.RowBytes.{indexed_columns}
use Rattle.isp_plain.specs.declared.value.Column.{Column}
use Rattle.isp_plain.specs.declared.value.Schema.{Schema}
use Rattle.isp_space.specs.Spaces.{Space, free_pages, has_room, most_counted, room_pages}
use Rattle.isp_trx.specs.Transactions.{TrxState}
use Rattle.isp_trx_laws.proofs.MarkLaws.{create_adds_none}
use Rattle.isp_tables.specs.Calls.{AreInside, AreKeyed}
use Rattle.isp_tables.specs.Creations.{DidCreate, HasRoom, IsNewDefinition}
use Rattle.isp_tables.specs.Opened.{IsOpen}
use Rattle.isp_tables.proofs.TableLaws.{def_of}

false_true : {X : Type 0} → true ≡ false → X
false_true is = cc

and_first : (a b : Bool) → (a && b) ≡ true → a ≡ true
and_first true b is = refl
and_first false b is = cc

-- ---- a table that is made

append_map : (tables : List FileTable) (t : FileTable) → map def_of (tables ++ t ∷ []) ≡ map def_of tables ++ t.def ∷ []
append_map [] t = refl
append_map (u ∷ tables) t = ap (λ (l : List TableDef). u.def ∷ l) (append_map tables t)

length_map : {X Y : Type 0} (f : X → Y) (xs : List X) → length (map f xs) ≡ length xs
length_map f [] = refl
length_map f (x ∷ xs) = ap suc (length_map f xs)

room_free : (pages : ℕ) (s : Space) → has_room pages s ≡ true → 0 < free_pages pages s
room_free pages s room =
    let some = and_first (nat_le room_pages (free_pages pages s)) (nat_lt s.entries most_counted && nat_lt s.bytes most_counted) room in
    let least : room_pages ≤ free_pages pages s = grind (arith, nat_tests, some) in omega (arith, least)

pub can_create : {S : Type 0} (g : Ghosts S) (now : S) (defs : List TableDef) (trx : TrxState) (d : Database) (name : List ℕ) (schema : Schema) (number : ℕ) (opened : IsOpen g now defs trx d) → IsNewDefinition defs name schema → number ≡ length defs + 1
    → has_room (g.shape now).pages d.space ≡ true → CanCreate (g.shape now).pages (g.contents now) (alone trx.session opened.chain) number name d
can_create g now defs trx d name schema number opened new is room = record {
  kept = opened.kept;
  next = is ∙ ap (λ (n : ℕ). n + 1) (sym (ap (λ (l : List TableDef). length l) opened.defs_are) ∙ length_map def_of d.tables);
  new = ap (λ (l : List TableDef). has_table l name) opened.defs_are ∙ new.new;
  free = room_free (g.shape now).pages d.space room;
}

pub did_create : {S : Type 0} (g : Ghosts S) (old new : S) (defs defs_now : List TableDef) (trx : TrxState) (d : Database) (name : List ℕ) (schema : Schema) (def : TableDef) (opened : IsOpen g old defs trx d)
    → (g.shape new).pages ≡ (g.shape old).pages → HasRoom g old d → def.name ≡ name → def.schema ≡ schema → defs_now ≡ defs ++ def ∷ [] → Created (g.shape old).pages (g.contents new) (alone trx.session opened.chain) def d
    → DidCreate g new defs_now trx name schema d
did_create g old new defs defs_now trx d name schema def opened pages room name_is schema_is defs_are c =
    let n = (g.shape new).pages in
    let chains = alone trx.session opened.chain in
    let kept_now : ChainedFile n (g.contents new) c.after chains = subst (λ (k : ℕ). ChainedFile k (g.contents new) c.after chains) (sym pages) c.kept in
    record {
      room = ap (λ (k : ℕ). has_room k d.space) pages ∙ room;
      after = c.after;
      opened = record {
        chain = opened.chain;
        kept = kept_now;
        slot = opened.slot;
        defs_are = ap (map def_of) c.tables ∙ append_map d.tables c.table ∙ (λ i. opened.defs_are i ++ c.def_is i ∷ []) ∙ sym defs_are;
        noted = opened.noted ∙ sym (ap (λ (images : List FileImage). length images) c.images);
        written = create_adds_none (g.shape old).pages (g.contents new) chains trx.keys def d opened.written c;
      };
      images = c.images;
      tables = c.now ∙ (λ i. with_empty (tables_of d) (name_is i) (schema_is i));
      reaches = reaches_more n d d c.after (reaches_self n d) c.step (g.contents new, chains, kept_now);
    }

-- ---- the store goes on

pub keyed_of : (columns : List Column) → AreColumns columns → has_key columns ≡ true
keyed_of columns are = and_first (has_key columns) (list_all is_indexable columns && (nat_le (indexed_columns columns) most_indexed && are_distinct columns)) are.limits

pub inside_more : (pages : ℕ) (defs : List TableDef) (def : TableDef) → AreInside pages defs → def.root.0 < pages → AreInside pages (defs ++ def ∷ [])
inside_more pages defs def all one = All-push (λ (def : TableDef). def.root.0 < pages) defs def all one

pub keyed_more : (defs : List TableDef) (def : TableDef) → AreKeyed defs → has_key def.schema.columns ≡ true → AreKeyed (defs ++ def ∷ [])
keyed_more defs def all one = All-push (λ (def : TableDef). has_key def.schema.columns ≡ true) defs def all one
