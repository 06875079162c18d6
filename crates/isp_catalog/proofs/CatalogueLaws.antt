-- Catalogues: they are local, there is one at most, they grow at their end, and what breaks them.
use Rattle.std.proofs.Common.{◌≡◌, ℕ, zero, suc, ◌+◌, ◌<◌, ◌≤◌, ◌&&◌, ◌||◌, not, Bool, true, false, List, [], ◌∷◌, ◌++◌, length, take, drop, refl, sym, ◌∙◌, ap, subst, inl, inr, arith}
use Rattle.std.specs.Str.{bytes_eq}
use Rattle.std.proofs.lemmas.Bool.{and_parts}
use Rattle.std.proofs.lemmas.List.{length-append, length-take, take-append-drop}
use Rattle.std.proofs.lemmas.Slice.Eq.{bytes_eq-Decides}
use Rattle.isp_disk.specs.Moments.{image_of, slice}
use Rattle.isp_format.specs.Definition.{definition_page, definition_place}
use Rattle.isp_format.specs.Ranges.{Contents, page_of}
use Rattle.isp_format.proofs.PageOnce.{space_once}
use Rattle.isp_page.specs.Steps.{IsNoDamageOrLacks}
use Rattle.isp_page.specs.declared.fault.Fault.{Fault}
use Rattle.isp_page.specs.declared.fault.Fault.TheVariants.{Memory, Store}
use Rattle.isp_page.specs.declared.fault.StoreFault.TheVariants.{Damaged, Disk, Print}
use Rattle.isp_space.specs.Spaces.{Space, space_page}
use Rattle.isp_catalog.specs.Catalogue.{AreDefined, BreaksRule, HasTables, IsBroken, IsCatalogue, IsDefined, NamesBroken, NamesDefinition, NoNewTable, are_tables, definition_piece, has_table}
use Rattle.isp_catalog.specs.Laws.{CatalogueIsLocal, CatalogueIsOne, TablesAreOne}
use Rattle.isp_catalog.specs.declared.table.TableDef.{TableDef}
use Rattle.isp_catalog.proofs.DefinitionLaws.{defined_once}

-- ---- local

-- a definition whose bytes stand in other contents
pub defined_moved : (pages number : ℕ) (contents other : Contents) (def : TableDef) → definition_piece other number ≡ definition_piece contents number → IsDefined pages contents number def → IsDefined pages other number def
defined_moved pages number contents other def same is = record {
  number_is = is.number_is;
  says = is.says;
  starts = record { bytes = is.starts.bytes; more = is.starts.more; spells = is.starts.spells; starts = same ∙ is.starts.starts };
  is = is.is;
  table = is.table;
}

-- definitions, where each of these numbers has the same bytes
pub all_moved : (pages number : ℕ) (contents other : Contents) (defs : List TableDef) → ((k : ℕ) → number ≤ k → k < number + length defs → definition_piece other k ≡ definition_piece contents k) → AreDefined pages contents number defs → AreDefined pages other number defs
all_moved pages number contents other [] same are = tt
all_moved pages number contents other (def ∷ defs) same are = (
  defined_moved pages number contents other def (same number (omega arith) (omega arith)) are.0,
  all_moved pages (number + 1) contents other defs (λ k low high. same k (omega (arith, low)) (omega (arith, high))) are.1,
)

pub piece_same : (contents other : Contents) (number : ℕ) → page_of other (definition_page number) ≡ page_of contents (definition_page number) → definition_piece other number ≡ definition_piece contents number
piece_same contents other number same = ap (λ (bytes : List ℕ). slice (image_of bytes) (definition_place number) 800) same

page_below : (number : ℕ) → number ≤ 64 → definition_page number < 16
page_below number few = omega (arith, few)

pub local : CatalogueIsLocal
local pages contents other defs same is =
    let few = is.few in
    record {
      few = is.few;
      each = all_moved pages 1 contents other defs (λ k low high. piece_same contents other k (same (definition_page k) (omega arith) (page_below k (omega (arith, high, few))))) is.each;
      names = is.names;
    }

-- ---- one

pub all_once : (pages number : ℕ) (contents : Contents) (defs others : List TableDef) → length defs ≡ length others → AreDefined pages contents number defs → AreDefined pages contents number others → defs ≡ others
all_once pages number contents [] [] long one other = refl
all_once pages number contents [] (d ∷ others) long one other = absurd (omega (arith, long))
all_once pages number contents (d ∷ defs) [] long one other = absurd (omega (arith, long))
all_once pages number contents (d ∷ defs) (e ∷ others) long one other =
    let first = defined_once pages number contents d e one.0 other.0 in
    let rest = all_once pages (number + 1) contents defs others (omega (arith, long)) one.1 other.1 in
    λ i. first i ∷ rest i

pub one : CatalogueIsOne
one pages contents defs others long is other = all_once pages 1 contents defs others long is.each other.each

pub tables_one : TablesAreOne
tables_one pages contents space other defs others is is_other =
    let same = ap (λ s. s.tables) (space_once (page_of contents 0) (space_page space) (space_page other) is.space_is.says is_other.space_is.says) in
    one pages contents defs others (is.count ∙ same ∙ sym is_other.count) is.catalogue is_other.catalogue

-- ---- names

bytes_sym : (xs ys : List ℕ) → bytes_eq xs ys ≡ bytes_eq ys xs
bytes_sym xs ys = by (bytes_eq xs ys) (bytes_eq ys xs) refl refl
  where
    by : (b c : Bool) → bytes_eq xs ys ≡ b → bytes_eq ys xs ≡ c → b ≡ c
    by true true one other = refl
    by false false one other = refl
    by true false one other = sym ((bytes_eq-Decides ys xs).1 (sym ((bytes_eq-Decides xs ys).0 one))) ∙ other
    by false true one other = sym one ∙ (bytes_eq-Decides xs ys).1 (sym ((bytes_eq-Decides ys xs).0 other))

two_or : (p q : Bool) → (p || (q || false)) ≡ false → (p ≡ false) × (q ≡ false)
two_or true q is = absurd cc
two_or false true is = absurd cc
two_or false false is = (refl, refl)

or_two : (p q : Bool) → p ≡ false → q ≡ false → (p || (q || false)) ≡ false
or_two p q one other = λ i. one i || (other i || false)

not_false : (b : Bool) → not b ≡ true → b ≡ false
not_false true is = absurd cc
not_false false is = refl

false_not : (b : Bool) → b ≡ false → not b ≡ true
false_not b is = ap (λ (c : Bool). not c) is

or_false : (p q : Bool) → (p || q) ≡ false → (p ≡ false) × (q ≡ false)
or_false true q is = absurd cc
or_false false q is = (refl, is)

has_last : (defs : List TableDef) (def : TableDef) (name : List ℕ) → has_table (defs ++ def ∷ []) name ≡ (has_table defs name || (bytes_eq def.name name || false))
has_last [] def name = refl
has_last (d ∷ defs) def name = by (bytes_eq d.name name) (has_last defs def name)
  where
    by : (b : Bool) → has_table (defs ++ def ∷ []) name ≡ (has_table defs name || (bytes_eq def.name name || false)) → (b || has_table (defs ++ def ∷ []) name) ≡ ((b || has_table defs name) || (bytes_eq def.name name || false))
    by true is = refl
    by false is = is

-- one more name
pub names_more : (defs : List TableDef) (def : TableDef) → are_tables defs ≡ true → has_table defs def.name ≡ false → are_tables (defs ++ def ∷ []) ≡ true
names_more [] def are new = refl
names_more (d ∷ defs) def are new =
    let both = and_parts (not (has_table defs d.name)) (are_tables defs) are in
    let apart = or_false (bytes_eq d.name def.name) (has_table defs def.name) new in
    let other : bytes_eq def.name d.name ≡ false = bytes_sym def.name d.name ∙ apart.0 in
    let first : not (has_table (defs ++ def ∷ []) d.name) ≡ true = false_not _ (has_last defs def d.name ∙ or_two (has_table defs d.name) (bytes_eq def.name d.name) (not_false _ both.0) other) in
    let rest = names_more defs def both.1 apart.1 in
    λ i. first i && rest i

-- and one less
pub names_less : (defs : List TableDef) (def : TableDef) → are_tables (defs ++ def ∷ []) ≡ true → (are_tables defs ≡ true) × (has_table defs def.name ≡ false)
names_less [] def are = (refl, refl)
names_less (d ∷ defs) def are =
    let both = and_parts (not (has_table (defs ++ def ∷ []) d.name)) (are_tables (defs ++ def ∷ [])) are in
    let rest = names_less defs def both.1 in
    let two = two_or (has_table defs d.name) (bytes_eq def.name d.name) (sym (has_last defs def d.name) ∙ not_false _ both.0) in
    let first : not (has_table defs d.name) ≡ true = false_not _ two.0 in
    ((λ i. first i && rest.0 i), (λ i. (bytes_sym d.name def.name ∙ two.1) i || rest.1 i))

-- ---- one more

pub defined_more : (pages number : ℕ) (contents : Contents) (defs : List TableDef) (def : TableDef) → AreDefined pages contents number defs → IsDefined pages contents (number + length defs) def → AreDefined pages contents number (defs ++ def ∷ [])
defined_more pages number contents [] def are is = let none : number + 0 ≡ number = omega arith in (subst (λ (n : ℕ). IsDefined pages contents n def) none is, tt)
defined_more pages number contents (d ∷ defs) def are is =
    let next : number + suc (length defs) ≡ number + 1 + length defs = omega arith in
    (are.0, defined_more pages (number + 1) contents defs def are.1 (subst (λ (n : ℕ). IsDefined pages contents n def) next is))

pub defined_less : (pages number : ℕ) (contents : Contents) (defs : List TableDef) (def : TableDef) → AreDefined pages contents number (defs ++ def ∷ []) → AreDefined pages contents number defs × IsDefined pages contents (number + length defs) def
defined_less pages number contents [] def are = let none : number ≡ number + 0 = omega arith in (tt, subst (λ (n : ℕ). IsDefined pages contents n def) none are.0)
defined_less pages number contents (d ∷ defs) def are =
    let next : number + 1 + length defs ≡ number + suc (length defs) = omega arith in
    let rest = defined_less pages (number + 1) contents defs def are.1 in
    ((are.0, rest.0), subst (λ (n : ℕ). IsDefined pages contents n def) next rest.1)

pub catalogue_more : (pages number : ℕ) (contents : Contents) (defs : List TableDef) (def : TableDef) → number ≡ length defs + 1 → number ≤ 64 → IsCatalogue pages contents defs → IsDefined pages contents number def → has_table defs def.name ≡ false → IsCatalogue pages contents (defs ++ def ∷ [])
catalogue_more pages number contents defs def number_is few is defined new =
    let place : number ≡ 1 + length defs = omega (arith, number_is) in
    let long = length-append defs (def ∷ []) in
    record {
      few = omega (arith, long, number_is, few);
      each = defined_more pages 1 contents defs def is.each (subst (λ (n : ℕ). IsDefined pages contents n def) place defined);
      names = names_more defs def is.names new;
    }

-- ---- what breaks it

-- a list by its last member
record HasLast (k : ℕ) (defs : List TableDef) : Type 0 where
  front : List TableDef
  last : TableDef
  is : defs ≡ front ++ last ∷ []
  long : length front ≡ k

last_of : (k : ℕ) (defs : List TableDef) → length defs ≡ k + 1 → HasLast k defs
last_of k [] long = absurd (omega (arith, long))
last_of zero (d ∷ []) long = record { front = []; last = d; is = refl; long = refl }
last_of (suc k) (d ∷ []) long = absurd (omega (arith, long))
last_of zero (d ∷ e ∷ defs) long = absurd (omega (arith, long))
last_of (suc k) (d ∷ e ∷ defs) long =
    let rest = last_of k (e ∷ defs) (omega (arith, long)) in
    record { front = d ∷ rest.front; last = rest.last; is = (λ i. d ∷ rest.is i); long = ap suc rest.long }

yes_no : (b : Bool) → b ≡ true → b ≡ false → ⊥
yes_no true yes_is no_is = cc
yes_no false yes_is no_is = cc

-- the definition behind a catalogue is none that is new
pub broken_at : (pages tables number : ℕ) (contents : Contents) (defs : List TableDef) → number ≡ length defs + 1 → number ≤ tables → IsCatalogue pages contents defs → NoNewTable pages contents number defs → IsBroken pages contents tables number
broken_at pages tables number contents defs number_is to is none_new = record {
  from = omega (arith, number_is);
  to = to;
  before = defs;
  long = sym number_is;
  good = is;
  none = λ others long other.
      let l = last_of (length defs) others (long ∙ number_is) in
      let whole = subst (λ (ds : List TableDef). IsCatalogue pages contents ds) l.is other in
      let parts = defined_less pages 1 contents l.front l.last whole.each in
      let same : l.front ≡ defs = all_once pages 1 contents l.front defs l.long parts.0 is.each in
      let number_one : 1 + length l.front ≡ number = (let e = l.long in omega (arith, e, number_is)) in
      let defined = subst (λ (n : ℕ). IsDefined pages contents n l.last) number_one parts.1 in
      let new = (names_less l.front l.last whole.names).1 in
      yes_no (has_table defs l.last.name) (none_new l.last defined) (ap (λ (ds : List TableDef). has_table ds l.last.name) (sym same) ∙ new);
}

front_defined : (pages number : ℕ) (contents : Contents) (defs more : List TableDef) → AreDefined pages contents number (defs ++ more) → AreDefined pages contents number defs
front_defined pages number contents [] more are = tt
front_defined pages number contents (d ∷ defs) more are = (are.0, front_defined pages (number + 1) contents defs more are.1)

has_front : (defs more : List TableDef) (name : List ℕ) → has_table (defs ++ more) name ≡ false → has_table defs name ≡ false
has_front [] more name is = refl
has_front (d ∷ defs) more name is =
    let both = or_false (bytes_eq d.name name) (has_table (defs ++ more) name) is in
    let rest = has_front defs more name both.1 in
    λ i. both.0 i || rest i

front_names : (defs more : List TableDef) → are_tables (defs ++ more) ≡ true → are_tables defs ≡ true
front_names [] more are = refl
front_names (d ∷ defs) more are =
    let both = and_parts (not (has_table (defs ++ more) d.name)) (are_tables (defs ++ more)) are in
    let first = false_not _ (has_front defs more d.name (not_false _ both.0)) in
    let rest = front_names defs more both.1 in
    λ i. first i && rest i

-- the first tables of a catalogue are one
front_catalogue : (pages : ℕ) (contents : Contents) (defs more : List TableDef) → IsCatalogue pages contents (defs ++ more) → IsCatalogue pages contents defs
front_catalogue pages contents defs more is =
    let long = length-append defs more in
    let few = is.few in
    record { few = omega (arith, long, few); each = front_defined pages 1 contents defs more is.each; names = front_names defs more is.names }

-- what has its tables breaks no rule
pub breaks_none : (pages page : ℕ) (contents : Contents) (space : Space) (defs : List TableDef) → HasTables pages contents space defs → BreaksRule pages contents space.tables page → ⊥
breaks_none pages page contents space defs has (inl many) =
    let few = has.catalogue.few in
    let count = has.count in
    let over = many.1 in
    omega (arith, few, count, over)
breaks_none pages page contents space defs has (inr (number, page_is, broken)) =
    let count = has.count in
    let to = broken.to in
    let cut = take-append-drop number defs in
    let long = length-take number defs in
    broken.none (take number defs) (omega (arith, long, count, to))
    (front_catalogue pages contents (take number defs) (drop number defs) (subst (λ (ds : List TableDef). IsCatalogue pages contents ds) (sym cut) has.catalogue))

pub sound_from : (pages : ℕ) (contents : Contents) (space : Space) (defs : List TableDef) (fault : Fault) → HasTables pages contents space defs → NamesBroken pages contents space.tables fault → IsNoDamageOrLacks fault
sound_from pages contents space defs (Store Disk) has names = tt
sound_from pages contents space defs (Store Print) has names = tt
sound_from pages contents space defs (Store (Damaged page rule)) has names = breaks_none pages page contents space defs has names.1
sound_from pages contents space defs Memory has names = tt

-- a definition that names its page breaks the catalogue
pub names_from : (pages tables number : ℕ) (contents : Contents) (defs : List TableDef) (fault : Fault) → number ≡ length defs + 1 → number ≤ tables → IsCatalogue pages contents defs → NamesDefinition pages contents number defs fault → NamesBroken pages contents tables fault
names_from pages tables number contents defs (Store Disk) number_is to is names = tt
names_from pages tables number contents defs (Store Print) number_is to is names = tt
names_from pages tables number contents defs (Store (Damaged page rule)) number_is to is names = (names.0, inr (number, names.1, broken_at pages tables number contents defs number_is to is names.2))
names_from pages tables number contents defs Memory number_is to is names = tt
