-- The table of a name, by its columns and by its place.
use Rattle.std.proofs.Common.{◌≡◌, ℕ, suc, ◌+◌, ◌<◌, Bool, true, false, cond, not, nat_lt, List, [], ◌∷◌, length, Some, None, refl, ◌∙◌, ap, arith, if◌then◌else◌}
use Rattle.std.specs.Prelude.{slice_get}
use Rattle.std.specs.List.{position_or_len}
use Rattle.std.specs.Str.{bytes_eq}
use Rattle.std.proofs.lemmas.Bool.Decides.{nat_tests}
use Rattle.isp_plain.specs.declared.value.Schema.{Schema}
use Rattle.isp_plain.specs.Tables.{Table}
use Rattle.isp_plan.specs.Binding.{schema_named}
use Rattle.isp_plan.specs.Meaning.{definitions}
use Rattle.isp_bound_rows.specs.Laws.{NamedStands}

abbrev has : List ℕ → Table → Bool
has name table = bytes_eq table.name name

-- the first table of that name, so many places on
record First (tables : List Table) (name : List ℕ) (schema : Schema) : Type 0 where
  pub place : ℕ
  pub is : position_or_len (has name) tables ≡ place
  pub below : place < length tables
  pub table : Table
  pub is_there : slice_get tables place ≡ Some table
  pub schema_is : table.schema ≡ schema

some_is : (x y : Schema) → Some x ≡ Some y → x ≡ y
some_is x y is = cc

none_some : (x : Schema) → None ≡ Some x → ⊥
none_some x is = cc

first : (tables : List Table) (name : List ℕ) (schema : Schema) → schema_named (definitions tables) name ≡ Some schema → First tables name schema
first [] name schema is = absurd (none_some schema is)
first (t ∷ tables) name schema is = by (bytes_eq t.name name) refl is (first tables name schema)
  where
    one_more : (later : First tables name schema) → 1 + position_or_len (has name) tables ≡ suc later.place
    one_more later = let is = later.is in omega (arith, is)

    by : (b : Bool) → bytes_eq t.name name ≡ b → (if b then Some t.schema else schema_named (definitions tables) name) ≡ Some schema → (schema_named (definitions tables) name ≡ Some schema → First tables name schema) → First (t ∷ tables) name schema
    by true same found rest = record {
      place = 0;
      is = ap (λ (b : Bool). cond (not b) (1 + position_or_len (has name) tables) 0) same;
      below = omega arith;
      table = t;
      is_there = refl;
      schema_is = some_is t.schema schema found;
    }
    by false other found rest =
        let later = rest found in
        let below = later.below in
        record {
          place = suc later.place;
          is = ap (λ (b : Bool). cond (not b) (1 + position_or_len (has name) tables) 0) other ∙ one_more later;
          below = omega (arith, below);
          table = later.table;
          is_there = later.is_there;
          schema_is = later.schema_is;
        }

pub named_stands : NamedStands
named_stands tables name schema is = record {
  place = found.place;
  place_is = (λ i. cond (nat_lt (found.is i) (length tables)) (Some (found.is i)) None) ∙ ap (λ (b : Bool). cond b (Some found.place) None) (under found.place (length tables) found.below);
  table = found.table;
  is_there = found.is_there;
  schema_is = found.schema_is;
}
  where
    found : First tables name schema
    found = first tables name schema is

    under : (a b : ℕ) → a < b → nat_lt a b ≡ true
    under a b less = grind (arith, nat_tests, less)
