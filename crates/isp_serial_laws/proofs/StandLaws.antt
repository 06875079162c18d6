-- Answers that stand, one more of them, and locks and searches that stay.
use Rattle.std.proofs.Common.{◌≡◌, ◌⊎◌, ◌∙◌, inl, inr, refl, sym, ap, subst, ℕ, suc, ℤ, ◌==◌, ◌&&◌, ◌||◌, Bool, true, false, cond, Option, Some, None, List, [], ◌∷◌, ◌++◌, map, slice_get, eqb-true}
use Rattle.std.specs.Prelude.{MatchBool}
use Rattle.std.specs.List.{list_any}
use Rattle.std.specs.Map.{values_of}
use Rattle.std.proofs.lemmas.Bool.{and_parts}
use Rattle.isp_base.specs.Lists.{Has}
use Rattle.isp_mbr.specs.declared.predicate.Predicate.{Predicate}
use Rattle.isp_reclock.specs.declared.modes.Mode.{Mode}
use Rattle.isp_reclock.specs.declared.modes.Mode.TheVariants.{S, X}
use Rattle.isp_reclock.specs.Tables.{takes}
use Rattle.isp_plain.specs.declared.refusal.Refusal.TheVariants.{RowTooLarge}
use Rattle.isp_plain.specs.declared.statement.Assign.{Assign}
use Rattle.isp_plain.specs.declared.statement.Condition.{Condition}
use Rattle.isp_plain.specs.declared.statement.Reply.TheVariants as reply
use Rattle.isp_plain.specs.declared.statement.Statement.{Statement}
use Rattle.isp_plain.specs.declared.statement.Statement.TheVariants.{Create, Insert, Select, Update, Delete, Begin, Commit, Rollback, Refused}
use Rattle.isp_plain.specs.declared.value.Row.{Row}
use Rattle.isp_plain.specs.Does.{Change as TableChange, changed_at, changed_in, count_of, delete, does, insert, insert_or, outgrows, place_of, refused, update, updated}
use Rattle.isp_plain.specs.Entries.{first_duplicate, has_key, with_row}
use Rattle.isp_plain.specs.Tables.{Table, definition_of}
use Rattle.isp_plain.specs.Values.{key_of}
use Rattle.isp_serial.specs.Answers.{Answer}
use Rattle.isp_serial.specs.Script.{text_at}
use Rattle.isp_serial.specs.Serial.{Agrees, Repeats, Replays, effect_of, is_given, is_inside, place_at}
use Rattle.isp_serial.specs.Transactions.{is_begin, is_ok}
use Rattle.isp_events.specs.State.{State, TreeSearch}
use Rattle.isp_events.specs.Ways.{Machine, Way, by_key, by_box, by_scan}
use Rattle.isp_events.specs.Reading.{is_of}
use Rattle.isp_order.specs.Locks.{Holds}
use Rattle.isp_order_locks.proofs.LockLists.{Keeps, keeps_taken}
use Rattle.isp_locality.proofs.TableLocal.{definitions_set}
use Rattle.isp_answers.specs.Told.{AreBegun, AreTaken, IsReadBy, IsSearched, IsTooLarge, Rests, RestsAt, RestsIn, RestsOn, RestsText, Stand}

-- ---- whether the replay is inside, behind these answers

abbrev pub flag : Machine → Bool → List Answer → Bool
flag m inside [] = inside
flag m inside (answer ∷ answers) = flag m (inside || (is_begin (effect_of m.language (text_at m.script answer.session answer.number)) && is_ok answer)) answers

flag_inside : (m : Machine) (answers : List Answer) → flag m true answers ≡ true
flag_inside m [] = refl
flag_inside m (answer ∷ answers) = flag_inside m answers

pub flag_begun : (m : Machine) (answers : List Answer) → AreBegun m answers → flag m false answers ≡ is_inside answers
flag_begun m [] begun = refl
flag_begun m (answer ∷ answers) begun = ap (λ b. flag m b answers) begun ∙ flag_inside m answers

-- ---- one answer more

pub stand_replays : (m : Machine) (state : State) (s : ℕ) (inside : Bool) (tables : List Table) (answers : List Answer) (after : List Table)
    → Stand m state s inside tables answers after → Replays m.language m.script inside tables answers after
stand_replays m state s inside tables [] after h = h
stand_replays m state s inside tables (answer ∷ answers) after h =
    (h.0, h.1, stand_replays m state s (inside || (is_begin (effect_of m.language (text_at m.script answer.session answer.number)) && is_ok answer)) h.0 answers after h.3)

pub replays_more : (m : Machine) (inside : Bool) (tables : List Table) (answers : List Answer) (mid : List Table) (answer : Answer) (after : List Table)
    → Replays m.language m.script inside tables answers mid → Agrees m.language m.script (flag m inside answers) mid answer after
    → Replays m.language m.script inside tables (answers ++ answer ∷ []) after
replays_more m inside tables [] mid answer after h agrees = (after, subst (λ ts. Agrees m.language m.script inside ts answer after) h agrees, refl)
replays_more m inside tables (first ∷ answers) mid answer after h agrees =
    (h.0, h.1, replays_more m (inside || (is_begin (effect_of m.language (text_at m.script first.session first.number)) && is_ok first)) h.0 answers mid answer after h.2 agrees)

pub stand_more : (m : Machine) (state : State) (s : ℕ) (inside : Bool) (tables : List Table) (answers : List Answer) (mid : List Table) (answer : Answer) (after : List Table)
    → Stand m state s inside tables answers mid → Agrees m.language m.script (flag m inside answers) mid answer after
    → RestsAt m state s (flag m inside answers) mid answer → Stand m state s inside tables (answers ++ answer ∷ []) after
stand_more m state s inside tables [] mid answer after h agrees rests =
    (after, subst (λ ts. Agrees m.language m.script inside ts answer after) h agrees, subst (λ ts. RestsAt m state s inside ts answer) h rests, refl)
stand_more m state s inside tables (first ∷ answers) mid answer after h agrees rests =
    (h.0, h.1, h.2, stand_more m state s (inside || (is_begin (effect_of m.language (text_at m.script first.session first.number)) && is_ok first)) h.0 answers mid answer after h.3 agrees rests)

-- ---- what stays of a session's locks and searches

-- a search with nothing left to visit, as it is then
pub record StillThere (searches : List TreeSearch) (x : TreeSearch) : Type 0 where
  pub now : TreeSearch
  pub among : Has searches now
  pub table : now.table ≡ x.table
  pub column : now.column ≡ x.column
  pub session : now.search.session ≡ x.search.session
  pub statement : now.search.statement ≡ x.search.statement
  pub predicate : now.search.predicate ≡ x.search.predicate
  pub stack : now.search.stack ≡ x.search.stack
  pub found : now.search.found ≡ x.search.found

pub there_itself : (searches : List TreeSearch) (x : TreeSearch) → Has searches x → StillThere searches x
there_itself searches x h =
    record { now = x; among = h; table = refl; column = refl; session = refl; statement = refl; predicate = refl; stack = refl; found = refl }

pub record KeepsHeld (before now : State) (s : ℕ) : Type 0 where
  pub locks : Keeps before.locks now.locks s
  pub searches : (x : TreeSearch) → Has before.searches x → x.search.session ≡ s → x.search.stack ≡ [] → StillThere now.searches x

module _ (m : Machine) (state now : State) (s : ℕ) (keeps : KeepsHeld state now s) where
  pub searched_moves : (number table column : ℕ) (predicate : Predicate) (mode : Mode) → IsSearched state s number table column predicate mode → IsSearched now s number table column predicate mode
  searched_moves number table column predicate mode x =
      let parts = and_parts (x.search.search.session == s) (x.search.search.statement == number) x.of in
      let t : StillThere now.searches x.search = keeps.searches x.search x.among (eqb-true x.search.search.session s parts.0) x.done in
      record {
        search = t.now;
        among = t.among;
        of = ap (λ i. (i == s) && (t.now.search.statement == number)) t.session ∙ ap (λ i. (x.search.search.session == s) && (i == number)) t.statement ∙ x.of;
        of_table = t.table ∙ x.of_table;
        of_column = t.column ∙ x.of_column;
        same_predicate = t.predicate ∙ x.same_predicate;
        done = t.stack ∙ x.done;
        each = λ key h. keeps.locks table (Some key) mode (x.each key (subst (λ (keys : List ℤ). Has keys key) t.found h));
      }

  pub read_moves : (number table : ℕ) (mode : Mode) (way : Way) → IsReadBy state s number table mode way → IsReadBy now s number table mode way
  read_moves number table mode (by_key key) h = keeps.locks table (Some key) mode h
  read_moves number table mode (by_box column predicate) h = searched_moves number table column predicate mode h
  read_moves number table mode by_scan (inl h) = inl (keeps.locks table None S h)
  read_moves number table mode by_scan (inr h) = inr (keeps.locks table None X h)

  taken_moves : (table : ℕ) (entries : List (ℤ × Row)) (rows : List Row) → AreTaken state s table entries rows → AreTaken now s table entries rows
  taken_moves table entries [] h = tt
  taken_moves table entries (row ∷ rows) h =
      (keeps_taken state.locks now.locks s table (key_of row) keeps.locks h.0, by_there (has_key entries (key_of row)) (taken_moves table (with_row entries (key_of row) row) rows) h.1)
    where
      by_there : (b : Bool) → (AreTaken state s table (with_row entries (key_of row) row) rows → AreTaken now s table (with_row entries (key_of row) row) rows)
          → MatchBool b (Unit {0}) (AreTaken state s table (with_row entries (key_of row) row) rows) → MatchBool b (Unit {0}) (AreTaken now s table (with_row entries (key_of row) row) rows)
      by_there true again k = tt
      by_there false again k = again k

  large_moves : (number : ℕ) (table : Table) (statement : Statement) → IsTooLarge state s number table statement → IsTooLarge now s number table statement
  large_moves number table statement l =
      record { key = l.key; row = l.row; there = l.there; outgrows = l.outgrows; taken = keeps_taken state.locks now.locks s number l.key keeps.locks l.taken }

  on_moves : (number place : ℕ) (table : Table) (statement : Statement) → RestsOn m state s number place table statement → RestsOn m now s number place table statement
  on_moves number place table (Insert name rows) h = taken_moves (suc place) table.rows rows h
  on_moves number place table (Select name columns w) h = read_moves number (suc place) S (m.ways table.schema (Select name columns w)) h
  on_moves number place table (Update name sets w) (inl l) = inl (large_moves (suc place) table (Update name sets w) l)
  on_moves number place table (Update name sets w) (inr h) = inr (read_moves number (suc place) X (m.ways table.schema (Update name sets w)) h)
  on_moves number place table (Delete name w) h = read_moves number (suc place) X (m.ways table.schema (Delete name w)) h
  on_moves number place table (Create name schema) h = tt
  on_moves number place table Begin h = tt
  on_moves number place table Commit h = tt
  on_moves number place table Rollback h = tt
  on_moves number place table (Refused refusal) h = tt

  in_moves : (number : ℕ) (tables : List Table) (name : List ℕ) (statement : Statement) → RestsIn m state s number tables name statement → RestsIn m now s number tables name statement
  in_moves number tables name statement r =
      record { place = r.place; table = r.table; place_is = r.place_is; there = r.there; rests = on_moves number r.place r.table statement r.rests }

  rests_move : (number : ℕ) (tables : List Table) (statement : Statement) → Rests m state s number tables statement → Rests m now s number tables statement
  rests_move number tables (Insert name rows) h = in_moves number tables name (Insert name rows) h
  rests_move number tables (Select name columns w) h = in_moves number tables name (Select name columns w) h
  rests_move number tables (Update name sets w) h = in_moves number tables name (Update name sets w) h
  rests_move number tables (Delete name w) h = in_moves number tables name (Delete name w) h
  rests_move number tables (Create name schema) h = absurd h
  rests_move number tables Begin h = tt
  rests_move number tables Commit h = tt
  rests_move number tables Rollback h = tt
  rests_move number tables (Refused refusal) h = tt

  pub at_moves : (inside : Bool) (tables : List Table) (answer : Answer) → RestsAt m state s inside tables answer → RestsAt m now s inside tables answer
  at_moves inside tables answer h = by_given (is_given answer) h
    where
      by_text : (text : Option (List ℕ)) → RestsText m state s answer.number inside tables text → RestsText m now s answer.number inside tables text
      by_text None k = tt
      by_text (Some text) k = rests_move answer.number tables (m.language.meaning tables (place_at s inside) text) k

      by_given : (b : Bool) → MatchBool b (Unit {0}) (RestsText m state s answer.number inside tables (text_at m.script answer.session answer.number))
          → MatchBool b (Unit {0}) (RestsText m now s answer.number inside tables (text_at m.script answer.session answer.number))
      by_given true k = tt
      by_given false k = by_text (text_at m.script answer.session answer.number) k

  pub stand_moves : (inside : Bool) (tables : List Table) (answers : List Answer) (after : List Table) → Stand m state s inside tables answers after → Stand m now s inside tables answers after
  stand_moves inside tables [] after h = h
  stand_moves inside tables (answer ∷ answers) after h = (
    h.0,
    h.1,
    at_moves inside tables answer h.2,
    stand_moves (inside || (is_begin (effect_of m.language (text_at m.script answer.session answer.number)) && is_ok answer)) h.0 answers after h.3,
  )

-- ---- definitions stay in a transaction

set_definition : (tables : List Table) (place : Option ℕ) (change : Table → TableChange) → ((t : Table) → definition_of (change t).table ≡ definition_of t)
    → map definition_of (changed_in tables place change).tables ≡ map definition_of tables
set_definition tables None change same = refl
set_definition tables (Some place) change same = by_table (slice_get tables place) refl
  where
    by_table : (found : Option Table) → slice_get tables place ≡ found → map definition_of (changed_at tables place change found).tables ≡ map definition_of tables
    by_table None e = refl
    by_table (Some table) e = definitions_set tables place table (change table).table e (same table)

insert_same : (rows : List Row) (table : Table) → definition_of (insert rows table).table ≡ definition_of table
insert_same rows table = by_first (first_duplicate table.rows rows)
  where
    by_first : (d : Option ℤ) → definition_of (insert_or rows table d).table ≡ definition_of table
    by_first None = refl
    by_first (Some key) = refl

update_same : (sets : List Assign) (w : Condition) (table : Table) → definition_of (update sets w table).table ≡ definition_of table
update_same sets w table = by_large (list_any (outgrows table.schema sets w) (values_of table.rows))
  where
    by_large : (b : Bool) → definition_of (cond b (refused RowTooLarge table) (record {
      reply = reply.Count (count_of w (values_of table.rows));
      table = record table { rows = map (λ e. (e.0, updated sets w e.1)) table.rows };
    })).table ≡ definition_of table
    by_large true = refl
    by_large false = refl

does_definitions : (m : Machine) (state : State) (s number : ℕ) (tables : List Table) (st : Statement) → Rests m state s number tables st → map definition_of (does tables st).tables ≡ map definition_of tables
does_definitions m state s number tables (Insert name rows) h = set_definition tables (place_of tables name) (insert rows) (insert_same rows)
does_definitions m state s number tables (Select name columns w) h = refl
does_definitions m state s number tables (Update name sets w) h = set_definition tables (place_of tables name) (update sets w) (update_same sets w)
does_definitions m state s number tables (Delete name w) h = set_definition tables (place_of tables name) (delete w) (λ t. refl)
does_definitions m state s number tables (Create name schema) h = absurd h
does_definitions m state s number tables Begin h = refl
does_definitions m state s number tables Commit h = refl
does_definitions m state s number tables Rollback h = refl
does_definitions m state s number tables (Refused refusal) h = refl

pub stand_definitions : (m : Machine) (state : State) (s : ℕ) (inside : Bool) (tables : List Table) (answers : List Answer) (after : List Table) → ((answer : Answer) → Has answers answer → answer.session ≡ s)
    → Stand m state s inside tables answers after → map definition_of after ≡ map definition_of tables
stand_definitions m state s inside tables [] after own h = ap (map definition_of) h
stand_definitions m state s inside tables (answer ∷ answers) after own h =
    stand_definitions m state s (inside || (is_begin (effect_of m.language (text_at m.script answer.session answer.number)) && is_ok answer)) h.0 answers after (λ a has. own a (inr has)) h.3
    ∙ by_given (is_given answer) h.1 h.2
  where
    by_text : (text : Option (List ℕ)) → Repeats m.language text inside tables answer h.0 → RestsText m state s answer.number inside tables text → map definition_of h.0 ≡ map definition_of tables
    by_text None r k = absurd r
    by_text (Some text) r k =
        ap (map definition_of) r.1
        ∙ does_definitions m state s answer.number tables (m.language.meaning tables (place_at answer.session inside) text)
        (subst (λ i. Rests m state s answer.number tables (m.language.meaning tables (place_at i inside) text)) (sym (own answer (inl refl))) k)

    by_given : (b : Bool) → MatchBool b (h.0 ≡ tables) (Repeats m.language (text_at m.script answer.session answer.number) inside tables answer h.0)
        → MatchBool b (Unit {0}) (RestsText m state s answer.number inside tables (text_at m.script answer.session answer.number)) → map definition_of h.0 ≡ map definition_of tables
    by_given true r k = ap (map definition_of) r
    by_given false r k = by_text (text_at m.script answer.session answer.number) r k
