-- A row with the last set of each column is the row with all of them, so that UPDATE needs no other.
use Rattle.std.proofs.Common.{◌≡◌, ◌∙◌, ℕ, zero, suc, Bool, true, false, ◌||◌, ◌&&◌, ◌==◌, nat_lt, map, List, [], ◌∷◌, ◌++◌, refl, ap, sym, arith, if◌then◌else◌}
use Rattle.std.specs.Prelude.{slice_set}
use Rattle.std.specs.List.{fold, list_any}
use Rattle.std.specs.Map.{values_of}
use Rattle.std.proofs.lemmas.Bool.Decides.{nat_tests}
use Rattle.isp_plain.specs.declared.refusal.Refusal.TheVariants.{RowTooLarge}
use Rattle.isp_plain.specs.declared.value.Row.{Row}
use Rattle.isp_plain.specs.declared.value.Value.{Value}
use Rattle.isp_plain.specs.declared.statement.Assign.{Assign}
use Rattle.isp_plain.specs.declared.statement.Condition.{Condition}
use Rattle.isp_plain.specs.declared.statement.Reply.TheVariants as reply
use Rattle.isp_plain.specs.Conditions.{holds}
use Rattle.isp_plain.specs.Does.{Change, count_of, refused, update, with_set, with_sets}
use Rattle.isp_plain.specs.RowBytes.{row_bytes, row_limit}
use Rattle.isp_plain.specs.Tables.{Table}
use Rattle.isp_plain.specs.Updating.{is_set, last_sets}

-- two values for one column: the later one stands there
set_twice : (values : List Value) (at : ℕ) (v w : Value) → slice_set (slice_set values at v) at w ≡ slice_set values at w
set_twice [] at v w = refl
set_twice (x ∷ xs) zero v w = refl
set_twice (x ∷ xs) (suc at) v w = ap (λ ys. x ∷ ys) (set_twice xs at v w)

-- values for two columns, in any order
set_apart : (values : List Value) (i j : ℕ) (v w : Value) → (i ≡ j → ⊥) → slice_set (slice_set values i v) j w ≡ slice_set (slice_set values j w) i v
set_apart [] i j v w other = refl
set_apart (x ∷ xs) zero zero v w other = absurd (other refl)
set_apart (x ∷ xs) zero (suc j) v w other = refl
set_apart (x ∷ xs) (suc i) zero v w other = refl
set_apart (x ∷ xs) (suc i) (suc j) v w other = ap (λ ys. x ∷ ys) (set_apart xs i j v w (λ same. other (ap suc same)))

same_number : (i j : ℕ) → (i == j) ≡ true → i ≡ j
same_number i j is = grind (arith, nat_tests)

other_number : (i j : ℕ) → (i == j) ≡ false → i ≡ j → ⊥
other_number i j is same = grind (arith, nat_tests)

-- whether the first of the sets is of the column, or a later one
over_at : (b : Bool) (set : Assign) (sets : List Assign) (values : List Value) (column : ℕ) (v : Value) → (set.column == column) ≡ b → (b || is_set sets column) ≡ true →
    ((others : List Value) → is_set sets column ≡ true → fold with_set (slice_set others column v) sets ≡ fold with_set others sets) →
    fold with_set (slice_set (slice_set values column v) set.column set.v) sets ≡ fold with_set (slice_set values set.column set.v) sets
over_at true set sets values column v same one later =
    let is_column : set.column ≡ column = same_number set.column column same in
    ap (λ vs. fold with_set vs sets) (ap (λ c. slice_set (slice_set values c v) set.column set.v) (sym is_column) ∙ set_twice values set.column v set.v)
over_at false set sets values column v other one later =
    ap (λ vs. fold with_set vs sets) (sym (set_apart values set.column column set.v v (other_number set.column column other)))
    ∙ later (slice_set values set.column set.v) one

-- a value whose column is set again leaves nothing
over : (sets : List Assign) (values : List Value) (column : ℕ) (v : Value) → is_set sets column ≡ true → fold with_set (slice_set values column v) sets ≡ fold with_set values sets
over [] values column v is = cc
over (set ∷ sets) values column v is = over_at (set.column == column) set sets values column v refl is (λ others again. over sets others column v again)

last_at : (b : Bool) (set : Assign) (sets : List Assign) (values : List Value) → is_set sets set.column ≡ b →
    ((others : List Value) → fold with_set others (last_sets sets) ≡ fold with_set others sets) →
    fold with_set values ((if b then [] else set ∷ []) ++ last_sets sets) ≡ fold with_set (slice_set values set.column set.v) sets
last_at true set sets values again later = later values ∙ sym (over sets values set.column set.v again)
last_at false set sets values last later = later (slice_set values set.column set.v)

last_count : (sets : List Assign) (values : List Value) → fold with_set values (last_sets sets) ≡ fold with_set values sets
last_count [] values = refl
last_count (set ∷ sets) values = last_at (is_set sets set.column) set sets values refl (last_count sets)

-- so UPDATE with the last sets is UPDATE with all
pub update_last : (sets : List Assign) (condition : Condition) (table : Table) → update (last_sets sets) condition table ≡ update sets condition table
update_last sets condition table = ap with_rows same
  where
    same : with_sets (last_sets sets) ≡ with_sets sets
    same i row = record { values = last_count sets row.values i }

    with_rows : (Row → Row) → Change
    with_rows new =
        if list_any (λ row. holds condition row && nat_lt row_limit (row_bytes table.schema (new row))) (values_of table.rows) then refused RowTooLarge table
        else record {
          reply = reply.Count (count_of condition (values_of table.rows));
          table = record table { rows = map (λ e. (e.0, if holds condition e.1 then new e.1 else e.1)) table.rows };
        }
