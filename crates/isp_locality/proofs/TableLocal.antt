-- Tables: a statement on one of them.
use Rattle.std.proofs.Common.{◌≡◌, ◌⊎◌, ◌∙◌, inl, inr, refl, sym, ap, subst, ℕ, zero, suc, ℤ, Bool, true, false, not, cond, ◌&&◌, ◌==◌, ◌+◌, Option, Some, None, List, [], ◌∷◌, length, map, slice_get, eqb-true, eq-eqb, arith}
use Rattle.std.specs.Prelude.{filter, slice_set, nat_lt}
use Rattle.std.specs.List.{list_any, position, prefix_len}
use Rattle.std.specs.Map.{values_of}
use Rattle.std.specs.Option.{option_and_then}
use Rattle.std.specs.Str.{bytes_eq}
use Rattle.std.proofs.lemmas.Bool.{false≢true}
use Rattle.std.proofs.lemmas.Bool.Decides.{nat_tests}
use Rattle.isp_plain.specs.declared.refusal.Refusal.TheVariants.{DuplicateKey, RowTooLarge}
use Rattle.isp_plain.specs.declared.statement.Assign.{Assign}
use Rattle.isp_plain.specs.declared.statement.Condition.{Condition}
use Rattle.isp_plain.specs.declared.statement.Reply.{Reply}
use Rattle.isp_plain.specs.declared.statement.Reply.TheVariants as reply
use Rattle.isp_plain.specs.declared.statement.Statement.{Statement}
use Rattle.isp_plain.specs.declared.statement.Statement.TheVariants.{Create, Insert, Select, Update, Delete, Begin, Commit, Rollback, Refused}
use Rattle.isp_plain.specs.declared.value.Row.{Row}
use Rattle.isp_plain.specs.declared.value.Schema.{Schema}
use Rattle.isp_plain.specs.Conditions.{holds}
use Rattle.isp_plain.specs.Does.{Change, Outcome, changed_at, changed_in, count_of, cut, delete, does, insert, insert_or, outgrows, place_of, refused, select_reply, selected, table_at, update, updated, with_sets}
use Rattle.isp_plain.specs.Entries.{first_duplicate, with_rows}
use Rattle.isp_plain.specs.RowBytes.{row_bytes, row_limit}
use Rattle.isp_plain.specs.Tables.{Table, definition_of}
use Rattle.isp_changes.specs.Rows.{AreRisingTables, row_at}
use Rattle.isp_changes.specs.Changes.{is_held, row_in}
use Rattle.isp_changes.proofs.ChangeProofs.{get_set, rising_get, rising_set}
use Rattle.isp_locality.specs.Apart.{AgreeBut, AgreeRows, Apart, HasLarge, IsApart, IsApartIn, IsLocal, Keys, NoneHeld, Places, RowsStay, Stays}
use Rattle.isp_locality.specs.LocalLaws.{StatementsAreLocal}
use Rattle.isp_locality.proofs.RowLocal.{Inserts, IsInserted, NonePass, any_at, any_both, delete_agrees, delete_others, delete_stays, inserted, same_count, same_values, update_agrees, update_others, update_stays}

-- ---- tables by place

cons_head : {Y : Type 0} (x y : Y) (xs ys : List Y) → x ∷ xs ≡ y ∷ ys → x ≡ y
cons_head x y xs ys h = cc

cons_tail : {Y : Type 0} (x y : Y) (xs ys : List Y) → x ∷ xs ≡ y ∷ ys → xs ≡ ys
cons_tail x y xs ys h = cc

nil_cons : {Y : Type 0} (x : Y) (xs : List Y) → [] ≡ x ∷ xs → ⊥
nil_cons x xs h = cc

some_is : {X : Type 0} (x y : X) → Some x ≡ Some y → x ≡ y
some_is x y h = cc

some_none : {X : Type 0} (x : X) → Some x ≡ None → ⊥
some_none x h = cc

one_less : (n m : ℕ) → (suc n == suc m) ≡ false → (n == m) ≡ false
one_less n m is = grind (arith, nat_tests)

pub get_other : (tables : List Table) (place other : ℕ) (new : Table) → (other == place) ≡ false → slice_get (slice_set tables place new) other ≡ slice_get tables other
get_other [] place other new is = refl
get_other (t ∷ tables) zero zero new is = cc
get_other (t ∷ tables) zero (suc other) new is = refl
get_other (t ∷ tables) (suc place) zero new is = refl
get_other (t ∷ tables) (suc place) (suc other) new is = get_other tables place other new (one_less other place is)

pub definitions_set : (tables : List Table) (place : ℕ) (table new : Table) → slice_get tables place ≡ Some table → definition_of new ≡ definition_of table →
    map definition_of (slice_set tables place new) ≡ map definition_of tables
definitions_set [] place table new is same = refl
definitions_set (t ∷ tables) zero table new is same = ap (λ d. d ∷ map definition_of tables) (same ∙ ap definition_of (sym (some_is t table is)))
definitions_set (t ∷ tables) (suc place) table new is same = ap (λ ds. definition_of t ∷ ds) (definitions_set tables place table new is same)

-- tables with the same names and columns have the table of a name at one place
same_position : (name : List ℕ) (tables others : List Table) → map definition_of tables ≡ map definition_of others
    → prefix_len (λ (table : Table). not (bytes_eq table.name name)) tables ≡ prefix_len (λ (table : Table). not (bytes_eq table.name name)) others
same_position name [] [] h = refl
same_position name [] (t ∷ others) h = absurd (nil_cons (definition_of t) (map definition_of others) h)
same_position name (t ∷ tables) [] h = absurd (nil_cons (definition_of t) (map definition_of tables) (sym h))
same_position name (t ∷ tables) (u ∷ others) h =
    let head : t.name ≡ u.name = ap (λ d. d.0) (cons_head (definition_of t) (definition_of u) (map definition_of tables) (map definition_of others) h) in
    let tail = same_position name tables others (cons_tail (definition_of t) (definition_of u) (map definition_of tables) (map definition_of others) h) in
    ap (λ b. cond (not b) (1 + prefix_len (λ (table : Table). not (bytes_eq table.name name)) tables) 0) (ap (λ n. bytes_eq n name) head)
    ∙ ap (λ o. cond (not (bytes_eq u.name name)) (1 + o) 0) tail

same_length : (tables others : List Table) → map definition_of tables ≡ map definition_of others → length tables ≡ length others
same_length [] [] h = refl
same_length [] (t ∷ others) h = absurd (nil_cons (definition_of t) (map definition_of others) h)
same_length (t ∷ tables) [] h = absurd (nil_cons (definition_of t) (map definition_of tables) (sym h))
same_length (t ∷ tables) (u ∷ others) h = ap suc (same_length tables others (cons_tail (definition_of t) (definition_of u) (map definition_of tables) (map definition_of others) h))

pub same_place : (tables others : List Table) (name : List ℕ) → map definition_of tables ≡ map definition_of others → place_of tables name ≡ place_of others name
same_place tables others name h =
    ap (λ l. at_place l (length tables)) (same_position name tables others h) ∙ ap (at_place (prefix_len (λ (table : Table). not (bytes_eq table.name name)) others)) (same_length tables others h)
  where
    at_place : ℕ → ℕ → Option ℕ
    at_place place n = cond (nat_lt place n) (Some place) None

-- at one place they have tables of one definition
pub same_definition : (tables others : List Table) (place : ℕ) (table other : Table) → map definition_of tables ≡ map definition_of others
    → slice_get tables place ≡ Some table → slice_get others place ≡ Some other → definition_of table ≡ definition_of other
same_definition [] others place table other h is other_is = absurd (some_none table (sym is))
same_definition (t ∷ tables) [] place table other h is other_is = absurd (some_none other (sym other_is))
same_definition (t ∷ tables) (u ∷ others) zero table other h is other_is =
    ap definition_of (sym (some_is t table is)) ∙ cons_head (definition_of t) (definition_of u) (map definition_of tables) (map definition_of others) h ∙ ap definition_of (some_is u other other_is)
same_definition (t ∷ tables) (u ∷ others) (suc place) table other h is other_is =
    same_definition tables others place table other (cons_tail (definition_of t) (definition_of u) (map definition_of tables) (map definition_of others) h) is other_is

pub other_place : (tables others : List Table) (place : ℕ) (table : Table) → map definition_of tables ≡ map definition_of others
    → slice_get tables place ≡ Some table → (other : Table) × (slice_get others place ≡ Some other)
other_place [] others place table h is = absurd (some_none table (sym is))
other_place (t ∷ tables) [] place table h is = absurd (nil_cons (definition_of t) (map definition_of tables) (sym h))
other_place (t ∷ tables) (u ∷ others) zero table h is = (u, refl)
other_place (t ∷ tables) (u ∷ others) (suc place) table h is =
    other_place tables others place table (cons_tail (definition_of t) (definition_of u) (map definition_of tables) (map definition_of others) h) is

-- ---- one table is changed

abbrev pub with_rows_at : List Table → ℕ → Table → List (ℤ × Row) → List Table
with_rows_at tables place table rows = slice_set tables place (record table { rows = rows })

pub row_here : (tables : List Table) (place : ℕ) (table : Table) (rows : List (ℤ × Row)) (key : ℤ) → slice_get tables place ≡ Some table
    → row_in (with_rows_at tables place table rows) place key ≡ row_at rows key
row_here tables place table rows key is = ap (λ found. option_and_then (λ (t : Table). row_at t.rows key) found) (get_set tables place table (record table { rows = rows }) is)

pub row_there : (tables : List Table) (place : ℕ) (table : Table) (key : ℤ) → slice_get tables place ≡ Some table → row_in tables place key ≡ row_at table.rows key
row_there tables place table key is = ap (λ found. option_and_then (λ (t : Table). row_at t.rows key) found) is

pub row_elsewhere : (tables : List Table) (place : ℕ) (table : Table) (rows : List (ℤ × Row)) (p : ℕ) (key : ℤ) → (p == place) ≡ false
    → row_in (with_rows_at tables place table rows) p key ≡ row_in tables p key
row_elsewhere tables place table rows p key ne = ap (λ found. option_and_then (λ (t : Table). row_at t.rows key) found) (get_other tables place p (record table { rows = rows }) ne)

module _ (apart : Places) (tables others : List Table) (agree : AgreeBut apart tables others) (place : ℕ) (table other : Table)
    (there : slice_get tables place ≡ Some table) (other_there : slice_get others place ≡ Some other) where
  pub rows_agree : AgreeRows (apart place) table.rows other.rows
  rows_agree = record {
    rises = rising_get tables place table agree.rise there;
    others_rise = rising_get others place other agree.others_rise other_there;
    each = λ key h. sym (row_there tables place table key there) ∙ agree.each place key h ∙ row_there others place other key other_there;
  }

  changed_agree : (rows more : List (ℤ × Row)) → AgreeRows (apart place) rows more → AgreeBut apart (with_rows_at tables place table rows) (with_rows_at others place other more)
  changed_agree rows more same = record {
    definitions = definitions_set tables place table (record table { rows = rows }) there refl ∙ agree.definitions
        ∙ sym (definitions_set others place other (record other { rows = more }) other_there refl);
    rise = rising_set tables place (record table { rows = rows }) agree.rise same.rises;
    others_rise = rising_set others place (record other { rows = more }) agree.others_rise same.others_rise;
    each = λ p key h. by_place p key h (p == place) refl;
  }
    where
      by_place : (p : ℕ) (key : ℤ) → apart p key ≡ false → (b : Bool) → (p == place) ≡ b
          → row_in (with_rows_at tables place table rows) p key ≡ row_in (with_rows_at others place other more) p key
      by_place p key h true e =
          let is : p ≡ place = eqb-true p place e in
          ap (λ q. row_in (with_rows_at tables place table rows) q key) is ∙ row_here tables place table rows key there
          ∙ same.each key (subst (λ q. apart q key ≡ false) is h)
          ∙ sym (row_here others place other more key other_there) ∙ ap (λ q. row_in (with_rows_at others place other more) q key) (sym is)
      by_place p key h false e = row_elsewhere tables place table rows p key e ∙ agree.each p key h ∙ sym (row_elsewhere others place other more p key e)

pub changed_stays : (apart : Places) (tables : List Table) (place : ℕ) (table : Table) (rows : List (ℤ × Row)) → slice_get tables place ≡ Some table
    → RowsStay (apart place) table.rows rows → Stays apart tables (with_rows_at tables place table rows)
changed_stays apart tables place table rows there stay p key h = by_place (p == place) refl
  where
    by_place : (b : Bool) → (p == place) ≡ b → row_in (with_rows_at tables place table rows) p key ≡ row_in tables p key
    by_place true e =
        let is : p ≡ place = eqb-true p place e in
        ap (λ q. row_in (with_rows_at tables place table rows) q key) is ∙ row_here tables place table rows key there
        ∙ stay key (subst (λ q. apart q key ≡ true) is h) ∙ sym (row_there tables place table key there) ∙ ap (λ q. row_in tables q key) (sym is)
    by_place false e = row_elsewhere tables place table rows p key e

-- ---- a statement on a table

-- what a change of one table answers and leaves on the two
pub record IsChanged (apart : Keys) (table other : Table) (one two : Change) : Type 0 where
  pub reply : one.reply ≡ two.reply
  pub rows : List (ℤ × Row)
  pub more : List (ℤ × Row)
  pub one_is : one.table ≡ record table { rows = rows }
  pub two_is : two.table ≡ record other { rows = more }
  pub agree : AgreeRows apart rows more
  pub stay : RowsStay apart table.rows rows
  pub others_stay : RowsStay apart other.rows more

module _ (apart : Places) (tables others : List Table) (agree : AgreeBut apart tables others) where
  unchanged : (statement : Statement) → (does tables statement).tables ≡ tables → (does others statement).tables ≡ others → (does tables statement).reply ≡ (does others statement).reply
      → IsLocal apart tables others statement
  unchanged statement one two same = record {
    reply = same;
    agree = subst (λ ts. AgreeBut apart ts (does others statement).tables) (sym one) (subst (λ ts. AgreeBut apart tables ts) (sym two) agree);
    stay = λ place key h. ap (λ ts. row_in ts place key) one;
    others_stay = λ place key h. ap (λ ts. row_in ts place key) two;
  }

  module _ (name : List ℕ) (place : ℕ) (table other : Table) (place_is : place_of tables name ≡ Some place)
      (there : slice_get tables place ≡ Some table) (other_there : slice_get others place ≡ Some other) where
    other_place_is : place_of others name ≡ Some place
    other_place_is = sym (same_place tables others name agree.definitions) ∙ place_is

    found_in : (ts : List Table) (t : Table) (change : Table → Change) → place_of ts name ≡ Some place → slice_get ts place ≡ Some t
        → changed_in ts (place_of ts name) change ≡ record { reply = (change t).reply; tables = slice_set ts place (change t).table }
    found_in ts t change is at = ap (λ p. changed_in ts p change) is ∙ ap (λ found. changed_at ts place change found) at

    changes : (statement : Statement) (change : Table → Change) → does tables statement ≡ changed_in tables (place_of tables name) change
        → does others statement ≡ changed_in others (place_of others name) change → IsChanged (apart place) table other (change table) (change other)
        → IsLocal apart tables others statement
    changes statement change one two c =
        let first = one ∙ found_in tables table change place_is there in
        let second = two ∙ found_in others other change other_place_is other_there in
        let left : (does tables statement).tables ≡ with_rows_at tables place table c.rows = ap (λ (o : Outcome). o.tables) first ∙ ap (λ t. slice_set tables place t) c.one_is in
        let right : (does others statement).tables ≡ with_rows_at others place other c.more = ap (λ (o : Outcome). o.tables) second ∙ ap (λ t. slice_set others place t) c.two_is in
        record {
          reply = ap (λ (o : Outcome). o.reply) first ∙ c.reply ∙ sym (ap (λ (o : Outcome). o.reply) second);
          agree = subst (λ ts. AgreeBut apart ts (does others statement).tables) (sym left)
              (subst (λ ts. AgreeBut apart (with_rows_at tables place table c.rows) ts) (sym right)
              (changed_agree apart tables others agree place table other there other_there c.rows c.more c.agree));
          stay = λ p key h. ap (λ ts. row_in ts p key) left ∙ changed_stays apart tables place table c.rows there c.stay p key h;
          others_stay = λ p key h. ap (λ ts. row_in ts p key) right ∙ changed_stays apart others place other c.more other_there c.others_stay p key h;
        }

    same_rows_agree : AgreeRows (apart place) table.rows other.rows
    same_rows_agree = rows_agree apart tables others agree place table other there other_there

    same_schema : table.schema ≡ other.schema
    same_schema = ap (λ d. d.1) (same_definition tables others place table other agree.definitions there other_there)

    -- refused on both
    both_refused : (one two : Change) → one.table ≡ table → two.table ≡ other → one.reply ≡ two.reply → IsChanged (apart place) table other one two
    both_refused one two is other_is reply = record {
      reply = reply;
      rows = table.rows;
      more = other.rows;
      one_is = is;
      two_is = other_is;
      agree = same_rows_agree;
      stay = λ key h. refl;
      others_stay = λ key h. refl;
    }

    inserts : (rows : List Row) → IsInserted (apart place) table.rows other.rows rows → IsChanged (apart place) table other (insert rows table) (insert rows other)
    inserts rows i = by_first (first_duplicate table.rows rows) refl
      where
        by_first : (d : Option ℤ) → first_duplicate table.rows rows ≡ d → IsChanged (apart place) table other (insert rows table) (insert rows other)
        by_first None e =
            let j : Inserts (apart place) table.rows other.rows rows = i.inserts e in
            let one : insert rows table ≡ insert_or rows table None = ap (insert_or rows table) e in
            let two : insert rows other ≡ insert_or rows other None = ap (insert_or rows other) (sym i.same ∙ e) in
            record {
              reply = ap (λ (c : Change). c.reply) one ∙ sym (ap (λ (c : Change). c.reply) two);
              rows = with_rows table.rows rows;
              more = with_rows other.rows rows;
              one_is = ap (λ (c : Change). c.table) one;
              two_is = ap (λ (c : Change). c.table) two;
              agree = j.agree;
              stay = j.stay;
              others_stay = j.others_stay;
            }
        by_first (Some key) e =
            let one : insert rows table ≡ insert_or rows table (Some key) = ap (insert_or rows table) e in
            let two : insert rows other ≡ insert_or rows other (Some key) = ap (insert_or rows other) (sym i.same ∙ e) in
            both_refused (insert rows table) (insert rows other) (ap (λ (c : Change). c.table) one) (ap (λ (c : Change). c.table) two)
            (ap (λ (c : Change). c.reply) one ∙ sym (ap (λ (c : Change). c.reply) two))

    module _ (w : Condition) (none : NonePass (apart place) (holds w) table.rows) (other_none : NonePass (apart place) (holds w) other.rows) where
      large_same : (sets : List Assign) → list_any (outgrows table.schema sets w) (values_of table.rows) ≡ list_any (outgrows other.schema sets w) (values_of other.rows)
      large_same sets =
          any_both (holds w) (λ row. nat_lt row_limit (row_bytes table.schema (with_sets sets row))) (values_of table.rows)
          ∙ ap (λ xs. list_any (λ row. nat_lt row_limit (row_bytes table.schema (with_sets sets row))) xs) (same_values (apart place) (holds w) table.rows other.rows same_rows_agree none other_none)
          ∙ ap (λ (s : Schema). list_any (λ row. nat_lt row_limit (row_bytes s (with_sets sets row))) (filter (holds w) (values_of other.rows))) same_schema
          ∙ sym (any_both (holds w) (λ row. nat_lt row_limit (row_bytes other.schema (with_sets sets row))) (values_of other.rows))

      updates : (sets : List Assign) → IsChanged (apart place) table other (update sets w table) (update sets w other)
      updates sets = by_large (list_any (outgrows table.schema sets w) (values_of table.rows)) (list_any (outgrows other.schema sets w) (values_of other.rows)) (large_same sets)
        where
          change : Table → Bool → Change
          change t b = cond b (refused RowTooLarge t) (record {
            reply = reply.Count (count_of w (values_of t.rows));
            table = record t { rows = map (λ e. (e.0, updated sets w e.1)) t.rows };
          })

          by_large : (a b : Bool) → a ≡ b → IsChanged (apart place) table other (change table a) (change other b)
          by_large true true e = both_refused (refused RowTooLarge table) (refused RowTooLarge other) refl refl refl
          by_large true false e = absurd (false≢true (sym e))
          by_large false true e = absurd (false≢true e)
          by_large false false e = record {
            reply = ap reply.Count (same_count (apart place) w table.rows other.rows same_rows_agree none other_none);
            rows = map (λ e. (e.0, updated sets w e.1)) table.rows;
            more = map (λ e. (e.0, updated sets w e.1)) other.rows;
            one_is = refl;
            two_is = refl;
            agree = update_agrees (apart place) w table.rows other.rows same_rows_agree none other_none sets;
            stay = update_stays (apart place) w table.rows other.rows same_rows_agree none other_none sets;
            others_stay = update_others (apart place) w table.rows other.rows same_rows_agree none other_none sets;
          }

      deletes : IsChanged (apart place) table other (delete w table) (delete w other)
      deletes = record {
        reply = ap reply.Count (same_count (apart place) w table.rows other.rows same_rows_agree none other_none);
        rows = filter (λ e. not (holds w e.1)) table.rows;
        more = filter (λ e. not (holds w e.1)) other.rows;
        one_is = refl;
        two_is = refl;
        agree = delete_agrees (apart place) w table.rows other.rows same_rows_agree none other_none;
        stay = delete_stays (apart place) w table.rows other.rows same_rows_agree none other_none;
        others_stay = delete_others (apart place) w table.rows other.rows same_rows_agree none other_none;
      }

    -- a row that would get too large stands in both
    both_large : (sets : List Assign) (w : Condition) → HasLarge (apart place) table.schema (Update name sets w) table.rows → IsChanged (apart place) table other (update sets w table) (update sets w other)
    both_large sets w h =
        let one : list_any (outgrows table.schema sets w) (values_of table.rows) ≡ true = any_at (outgrows table.schema sets w) table.rows h.key h.row h.there h.outgrows in
        let two : list_any (outgrows other.schema sets w) (values_of other.rows) ≡ true =
        any_at (outgrows other.schema sets w) other.rows h.key h.row (sym (same_rows_agree.each h.key h.outside) ∙ h.there)
        (subst (λ (s : Schema). outgrows s sets w h.row ≡ true) same_schema h.outgrows) in
        subst (λ b. IsChanged (apart place) table other (change table b) (update sets w other)) (sym one)
        (subst (λ b. IsChanged (apart place) table other (change table true) (change other b)) (sym two)
        (both_refused (refused RowTooLarge table) (refused RowTooLarge other) refl refl refl))
      where
        change : Table → Bool → Change
        change t b = cond b (refused RowTooLarge t) (record {
          reply = reply.Count (count_of w (values_of t.rows));
          table = record t { rows = map (λ e. (e.0, updated sets w e.1)) t.rows };
        })

    selects : (columns : List ℕ) (w : Condition) → NonePass (apart place) (holds w) table.rows → NonePass (apart place) (holds w) other.rows
        → (does tables (Select name columns w)).reply ≡ (does others (Select name columns w)).reply
    selects columns w none other_none =
        ap (λ t. select_reply t columns w) (ap (table_at tables) place_is ∙ there)
        ∙ ap (λ rows. reply.Rows (map (cut columns) rows)) (same_values (apart place) (holds w) table.rows other.rows same_rows_agree none other_none)
        ∙ sym (ap (λ t. select_reply t columns w) (ap (table_at others) other_place_is ∙ other_there))

  local : (statement : Statement) → Apart apart tables others statement → IsLocal apart tables others statement
  local (Create name schema) h = absurd h
  local (Insert name rows) h =
      changes name h.place h.table h.other h.place_is h.there h.other_there (Insert name rows) (insert rows) refl refl
      (inserts name h.place h.table h.other h.place_is h.there h.other_there rows
      (inserted (apart h.place) h.table.rows h.other.rows rows (same_rows_agree name h.place h.table h.other h.place_is h.there h.other_there) h.is_apart))
  local (Select name columns w) h =
      unchanged (Select name columns w) refl refl (selects name h.place h.table h.other h.place_is h.there h.other_there columns w h.is_apart.0 h.is_apart.1)
  local (Update name sets w) h =
      changes name h.place h.table h.other h.place_is h.there h.other_there (Update name sets w) (update sets w) refl refl (by_case h.is_apart)
    where
      by_case : HasLarge (apart h.place) h.table.schema (Update name sets w) h.table.rows
          ⊎ (NoneHeld (apart h.place) (Update name sets w) h.table.rows × NoneHeld (apart h.place) (Update name sets w) h.other.rows)
          → IsChanged (apart h.place) h.table h.other (update sets w h.table) (update sets w h.other)
      by_case (inl large) = both_large name h.place h.table h.other h.place_is h.there h.other_there sets w large
      by_case (inr none) = updates name h.place h.table h.other h.place_is h.there h.other_there w none.0 none.1 sets
  local (Delete name w) h =
      changes name h.place h.table h.other h.place_is h.there h.other_there (Delete name w) (delete w) refl refl
      (deletes name h.place h.table h.other h.place_is h.there h.other_there w h.is_apart.0 h.is_apart.1)
  local Begin h = unchanged Begin refl refl refl
  local Commit h = unchanged Commit refl refl refl
  local Rollback h = unchanged Rollback refl refl refl
  local (Refused refusal) h = unchanged (Refused refusal) refl refl refl

pub statements_are_local : StatementsAreLocal
statements_are_local apart tables others statement agree h = local apart tables others agree statement h
