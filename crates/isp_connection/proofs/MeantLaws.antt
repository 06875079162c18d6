-- What a text means for a session, by what its connection knows of the file's tables.
use Rattle.std.proofs.Common.{◌≡◌, ℕ, ◌==◌, Bool, true, false, List, [], ◌∷◌, map, refl, sym, ◌∙◌, ap, subst, arith, if◌then◌else◌}
use Rattle.isp_bound_rows.proofs.MeaningLaws.{create_in_setup}
use Rattle.isp_image.specs.Databases.{Database, FileTable, table_of}
use Rattle.isp_page.specs.declared.pages.Pages.{Ghosts}
use Rattle.isp_plain.specs.declared.statement.Statement.{Statement}
use Rattle.isp_plain.specs.declared.statement.Statement.TheVariants.{Create, Insert, Select, Update, Delete, Begin, Commit, Rollback, Refused}
use Rattle.isp_plain.specs.declared.value.Schema.{Schema}
use Rattle.isp_plan.specs.Meaning.{definitions, meaning, whole}
use Rattle.isp_plan.proofs.FaithfulLaws.{whole_is_faithful}
use Rattle.isp_serial.specs.Alone.{State}
use Rattle.isp_serial.specs.Serial.{place_at}
use Rattle.isp_serial.specs.declared.script.Place.TheVariants as place
use Rattle.isp_tables.specs.TableLists.{definitions_of}
use Rattle.isp_tables.proofs.TableLaws.{def_of}
use Rattle.isp_connection.specs.Answering.{MayCome, is_create, meant}
use Rattle.isp_connection.specs.Connections.{ConnectionState, Holds}
use Rattle.isp_connection.proofs.EndLaws.{no_way}

-- ---- the tables that it is read against

same_definitions : (tables : List FileTable) → definitions_of (map def_of tables) ≡ definitions (map table_of tables)
same_definitions [] = refl
same_definitions (t ∷ tables) = ap (λ (l : List (List ℕ × Schema)). (t.def.name, t.def.schema) ∷ l) (same_definitions tables)

pub meant_is : {S : Type 0} (g : Ghosts S) (now : S) (c : ConnectionState) (state : State) (d : Database) (text : List ℕ) (s : Statement) → Holds g now c state d → s ≡ meaning (definitions_of c.defs) (place_at c.trx.session c.inside) text → s ≡ meant c.trx.session text state
unfolding whole
meant_is g now c state d text s h is =
    let tables : definitions_of c.defs ≡ definitions state.present = ap definitions_of (sym h.opened.defs_are) ∙ same_definitions d.tables ∙ ap definitions h.present in
    is ∙ (λ k. meaning (tables k) (place_at c.trx.session (h.inside k)) text)

-- ---- what it may not mean

not_created : (s : Statement) → ((name : List ℕ) (schema : Schema) → s ≡ Create name schema → ⊥) → is_create s ≡ false
not_created (Create name schema) none = absurd (none name schema refl)
not_created (Insert name rows) none = refl
not_created (Select name columns w) none = refl
not_created (Update name sets w) none = refl
not_created (Delete name w) none = refl
not_created Begin none = refl
not_created Commit none = refl
not_created Rollback none = refl
not_created (Refused refusal) none = refl

in_setup : (session : ℕ) → place_at session true ≡ place.Setup → session ≡ 0
in_setup session is = by (session == 0) refl is
  where
    by : (b : Bool) → (session == 0) ≡ b → (if b then place.Setup else place.InTransaction) ≡ place.Setup → session ≡ 0
    by true zero same = let h : session ≡ 0 = grind (arith, zero) in h
    by false zero same = cc

no_create : (session : ℕ) (text : List ℕ) (state : State) → (session ≡ 0 → state.inside ≡ false) → state.inside ≡ true → (name : List ℕ) (schema : Schema) → meant session text state ≡ Create name schema → ⊥
unfolding whole
no_create session text state setup inside name schema is =
    let at : place_at session state.inside ≡ place.Setup = create_in_setup (definitions state.present) (place_at session state.inside) text name schema is in
    no_way (sym inside ∙ setup (in_setup session (ap (place_at session) (sym inside) ∙ at)))

may_come : (session : ℕ) (text : List ℕ) (state : State) → (session ≡ 0 → state.inside ≡ false) → MayCome session state (meant session text state)
may_come session text state setup = record {
  lined = whole_is_faithful.lined state.present (place_at session state.inside) text;
  outside = λ inside. not_created (meant session text state) (no_create session text state setup inside);
  begins = λ zero is. whole_is_faithful.setup state.present text (subst (λ (n : ℕ). whole.meaning state.present (place_at n state.inside) text ≡ Begin) zero is);
}

pub may_mean : {S : Type 0} (g : Ghosts S) (now : S) (c : ConnectionState) (state : State) (d : Database) (text : List ℕ) (s : Statement) → Holds g now c state d → s ≡ meant c.trx.session text state → MayCome c.trx.session state s
may_mean g now c state d text s h is =
    subst (MayCome c.trx.session state) (sym is) (may_come c.trx.session text state (λ zero. sym h.inside ∙ h.setup zero))
