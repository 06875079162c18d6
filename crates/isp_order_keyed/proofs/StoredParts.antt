-- Rows that INSERT adds and UPDATE makes are such as their table may have.
use Rattle.std.proofs.Common.{◌≡◌, ◌⊎◌, ◌∙◌, inl, inr, refl, sym, ap, subst, ℕ, ℤ, zero, suc, ◌==◌, cond, Bool, true, false, List, [], ◌∷◌, Option, Some, None}
use Rattle.std.specs.Prelude.{All, slice_get, slice_set}
use Rattle.std.specs.List.{fold}
use Rattle.std.proofs.lemmas.Bool.{false≢true}
use Rattle.std.proofs.lemmas.List.Elements.{All-head, All-tail}
use Rattle.isp_base.specs.Lists.{Has}
use Rattle.isp_plain.specs.declared.statement.Assign.{Assign}
use Rattle.isp_plain.specs.declared.statement.Statement.{Statement}
use Rattle.isp_plain.specs.declared.statement.Statement.TheVariants.{Create, Insert, Select, Update, Delete, Begin, Commit, Rollback, Refused}
use Rattle.isp_plain.specs.declared.value.Row.{Row}
use Rattle.isp_plain.specs.declared.value.Schema.{Schema}
use Rattle.isp_plain.specs.declared.value.Value.{Value}
use Rattle.isp_plain.specs.declared.value.Value.TheVariants.{Int, Text, Geo}
use Rattle.isp_plain.specs.Conditions.{holds}
use Rattle.isp_plain.specs.Does.{with_set, with_sets}
use Rattle.isp_plain.specs.Values.{first_number, key_of}
use Rattle.isp_laws.proofs.ListLaws.{Has-map, Source}
use Rattle.isp_events.specs.Sessions.{Change, adding, change_of, change_of_row, changes_of}
use Rattle.isp_events.specs.Ways.{IsSettable, IsStorable, begins_with_number, is_geometry, is_indexed}
use Rattle.isp_order.specs.Work.{IsServed, changes_by}
use Rattle.isp_order_trees.proofs.NoteParts.{noted_in}

pub some_is : {X : Type 0} (x y : X) → Some x ≡ Some y → x ≡ y
some_is x y h = cc

pub none_some : {X : Type 0} (x : X) → None ≡ Some x → ⊥
none_some x h = cc

all_has : {X : Type 0} (P : X → Type 0) (xs : List X) (x : X) → All P xs → Has xs x → P x
all_has P [] x all h = absurd h
all_has P (y ∷ xs) x all (inl same) = subst P same (All-head P y xs all)
all_has P (y ∷ xs) x all (inr h) = all_has P xs x (All-tail P y xs all) h

-- ---- new values

begins_set : (values : List Value) (c : ℕ) (v : Value) → (c == 0) ≡ false → begins_with_number values ≡ true → begins_with_number (slice_set values c v) ≡ true
begins_set [] c v other h = absurd (false≢true h)
begins_set (Int k ∷ values) zero v other h = absurd (false≢true (sym other))
begins_set (Int k ∷ values) (suc c) v other h = refl
begins_set (Text t ∷ values) c v other h = absurd (false≢true h)
begins_set (Geo form ∷ values) c v other h = absurd (false≢true h)

first_set : (values : List Value) (c : ℕ) (v : Value) → (c == 0) ≡ false → first_number (slice_set values c v) ≡ first_number values
first_set [] c v other = refl
first_set (x ∷ values) zero v other = absurd (false≢true (sym other))
first_set (Int k ∷ values) (suc c) v other = refl
first_set (Text t ∷ values) (suc c) v other = refl
first_set (Geo form ∷ values) (suc c) v other = refl

set_at : (values : List Value) (c : ℕ) (v : Value) (k : ℕ) → (slice_get (slice_set values c v) k ≡ slice_get values k) ⊎ ((k ≡ c) × (slice_get (slice_set values c v) k ≡ Some v))
set_at [] c v k = inl refl
set_at (x ∷ values) zero v zero = inr (refl, refl)
set_at (x ∷ values) zero v (suc k) = inl refl
set_at (x ∷ values) (suc c) v zero = inl refl
set_at (x ∷ values) (suc c) v (suc k) = elim (set_at values c v k) [ inl same ↦ inl same | inr new ↦ inr (ap suc new.0, new.1) ]

abbrev row_with : List Value → Row
row_with values = record { values = values }

set_storable : (schema : Schema) (values : List Value) (set : Assign) → IsSettable schema set → IsStorable schema (row_with values) → IsStorable schema (row_with (with_set values set))
set_storable schema values set new i = record {
  key = begins_set values set.column set.v new.not_key i.key;
  geometries = λ column listed. elim (set_at values set.column set.v column) [
    | inl same ↦ subst (λ (o : Option Value). is_geometry o ≡ true) (sym same) (i.geometries column listed)
    | inr is ↦ subst (λ (o : Option Value). is_geometry o ≡ true) (sym is.1) (new.geometry (subst (λ c. is_indexed schema c ≡ true) is.0 listed))
  ];
}

sets_storable : (schema : Schema) (sets : List Assign) (values : List Value) → All (IsSettable schema) sets → IsStorable schema (row_with values)
    → IsStorable schema (row_with (fold with_set values sets)) × (first_number (fold with_set values sets) ≡ first_number values)
sets_storable schema [] values all i = (i, refl)
sets_storable schema (set ∷ sets) values all i =
    let new : IsSettable schema set = All-head (IsSettable schema) set sets all in
    let r = sets_storable schema sets (with_set values set) (All-tail (IsSettable schema) set sets all) (set_storable schema values set new i) in
    (r.0, r.1 ∙ first_set values set.column set.v new.not_key)

-- ---- the new row of a change

abbrev pub IsRowOf : Schema → ℤ → Row → Type 0
IsRowOf schema key row = IsStorable schema row × (key_of row ≡ key)

updated_storable : (schema : Schema) (sets : List Assign) (key : ℤ) (row : Row) → All (IsSettable schema) sets → IsRowOf schema key row → IsRowOf schema key (with_sets sets row)
updated_storable schema sets key row all i =
    let r = sets_storable schema sets row.values all (record { key = i.0.key; geometries = i.0.geometries }) in
    (r.0, r.1 ∙ i.1)

row_changes : (schema : Schema) (statement : Statement) (key : ℤ) (row : Row) (c : Change) (new : Row) → IsServed schema statement → change_of_row statement key row ≡ Some c → c.new ≡ Some new
    → ((old : Row) → c.old ≡ Some old → IsRowOf schema c.key old) → IsRowOf schema c.key new
row_changes schema (Update name sets w) key row c new served h is olds = one (holds w row) h
  where
    one : (b : Bool) → cond b (Some (record { key = key; old = Some row; new = Some (with_sets sets row) })) None ≡ Some c → IsRowOf schema c.key new
    one true k =
        let same : record { key = key; old = Some row; new = Some (with_sets sets row) } ≡ c = some_is _ c k in
        let old : c.old ≡ Some row = ap (λ (z : Change). z.old) (sym same) in
        let made : with_sets sets row ≡ new = some_is (with_sets sets row) new (ap (λ (z : Change). z.new) same ∙ is) in
        subst (IsRowOf schema c.key) made (updated_storable schema sets c.key row served (olds row old))
    one false k = absurd (none_some c k)
row_changes schema (Delete name w) key row c new served h is olds = one (holds w row) h
  where
    one : (b : Bool) → cond b (Some (record { key = key; old = Some row; new = None })) None ≡ Some c → IsRowOf schema c.key new
    one true k =
        let same : record { key = key; old = Some row; new = None } ≡ c = some_is _ c k in
        absurd (none_some new (ap (λ (z : Change). z.new) same ∙ is))
    one false k = absurd (none_some c k)
row_changes schema (Select name columns w) key row c new served h is olds = absurd (none_some c h)
row_changes schema (Insert name rows) key row c new served h is olds = absurd (none_some c h)
row_changes schema (Create name other) key row c new served h is olds = absurd served
row_changes schema Begin key row c new served h is olds = absurd served
row_changes schema Commit key row c new served h is olds = absurd served
row_changes schema Rollback key row c new served h is olds = absurd served
row_changes schema (Refused refusal) key row c new served h is olds = absurd served

read_changes : (schema : Schema) (statement : Statement) (read : List (ℤ × Option Row)) (c : Change) (new : Row) → IsServed schema statement → Has (changes_of statement read) c → c.new ≡ Some new
    → ((old : Row) → c.old ≡ Some old → IsRowOf schema c.key old) → IsRowOf schema c.key new
read_changes schema statement read c new served h is olds =
    let r = noted_in (λ (x : ℤ × Option Row). change_of statement x.0 x.1) read c h in
    one r.0.0 r.0.1 r.2
  where
    one : (key : ℤ) (row : Option Row) → change_of statement key row ≡ Some c → IsRowOf schema c.key new
    one key None k = absurd (none_some c k)
    one key (Some row) k = row_changes schema statement key row c new served k is olds

-- where the old one is one that its table may have, so is the new one, with the same key
pub new_row : (schema : Schema) (statement : Statement) (read : List (ℤ × Option Row)) (c : Change) (new : Row) → IsServed schema statement → Has (changes_by statement read) c → c.new ≡ Some new
    → ((old : Row) → c.old ≡ Some old → IsRowOf schema c.key old) → IsRowOf schema c.key new
new_row schema (Insert name rows) read c new served h is olds =
    let s : Source adding rows c = Has-map adding rows c h in
    let same : s.x ≡ new = some_is s.x new (ap (λ (z : Change). z.new) s.is ∙ is) in
    subst (IsRowOf schema c.key) same (all_has (IsStorable schema) rows s.x served s.has, ap (λ (z : Change). z.key) s.is)
new_row schema (Select name columns w) read c new served h is olds = read_changes schema (Select name columns w) read c new served h is olds
new_row schema (Update name sets w) read c new served h is olds = read_changes schema (Update name sets w) read c new served h is olds
new_row schema (Delete name w) read c new served h is olds = read_changes schema (Delete name w) read c new served h is olds
new_row schema (Create name other) read c new served h is olds = absurd served
new_row schema Begin read c new served h is olds = absurd served
new_row schema Commit read c new served h is olds = absurd served
new_row schema Rollback read c new served h is olds = absurd served
new_row schema (Refused refusal) read c new served h is olds = absurd served
