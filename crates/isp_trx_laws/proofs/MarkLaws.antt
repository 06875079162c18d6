-- The keys that a transaction has written.
use Rattle.std.proofs.Common.{◌≡◌, ℕ, zero, suc, pred, ◌<◌, ◌==◌, ℤ, Bool, true, false, ◌&&◌, ◌||◌, List, [], ◌∷◌, ◌++◌, length, map, get_or, Option, Some, None, refl, sym, ◌∙◌, ap, subst, arith, if◌then◌else◌}
use Rattle.std.specs.Prelude.{All, int_lt, slice_get}
use Rattle.std.specs.List.{AllByRecursion, list_any}
use Rattle.std.specs.List.Sorted.{IsPermutation}
use Rattle.std.specs.Ordering.{int_eq}
use Rattle.std.proofs.lemmas.Int.{ints}
use Rattle.std.proofs.lemmas.List.Folds.{list_any_none}
use Rattle.std.proofs.lemmas.List.Sorted.{All-permutation, IsPermutation-sym}
use Rattle.isp_format.specs.Ranges.{Contents}
use Rattle.isp_format.specs.Undo.{OldImage}
use Rattle.isp_clustered.specs.declared.kept.Kept.{Kept}
use Rattle.isp_image.specs.Courses.{ChangesOnly, names, stood, stood_at}
use Rattle.isp_image.specs.Databases.{Database, FileImage, FileRow, FileTable, row_key}
use Rattle.isp_image.specs.Keyed.{IsBelowEach, RisesBy, found}
use Rattle.isp_image.proofs.FileLaws.{def_of, rises_in}
use Rattle.isp_image.proofs.KeyedLaws.{found_each, key_is}
use Rattle.isp_undo.specs.Chains.{Chain}
use Rattle.isp_trx.specs.Transactions.{old_image}
use Rattle.isp_trx.specs.Writes.{IsFree, IsUnmarked, SweptAll, is_marked, place_of}
use Rattle.isp_trx.specs.declared.keys.RowKey.{RowKey}
use Rattle.isp_trx.proofs.SweepLaws.{get_def}
use Rattle.isp_trx_laws.specs.Laws.{CommitAddsNone, CreateAddsNone, NoneWritten, SweepLeavesNone, UndoAddsNone, WriteAddsKey, WrittenInAnyOrder, WrittenMaySweep}
use Rattle.isp_trx_laws.specs.Written.{AreWritten, IsOfTable, is_written}

bad : false ≡ true → ⊥
bad is = cc

-- ---- tests of keys

or_last : (a b : Bool) → b ≡ true → (a || b) ≡ true
or_last true b is = refl
or_last false b is = is

or_first : (a b : Bool) → a ≡ true → (a || b) ≡ true
or_first true b is = refl
or_first false b is = absurd (bad is)

written_last : (keys : List RowKey) (at : RowKey) (place : ℕ) (key : ℤ) → ((place_of at == place) && int_eq at.key key) ≡ true → is_written (keys ++ at ∷ []) place key ≡ true
written_last [] at place key is = or_first ((place_of at == place) && int_eq at.key key) false is
written_last (k ∷ keys) at place key is = or_last ((place_of k == place) && int_eq k.key key) (is_written (keys ++ at ∷ []) place key) (written_last keys at place key is)

written_more : (keys : List RowKey) (at : RowKey) (place : ℕ) (key : ℤ) → is_written keys place key ≡ true → is_written (keys ++ at ∷ []) place key ≡ true
written_more [] at place key is = absurd (bad is)
written_more (k ∷ keys) at place key is = by ((place_of k == place) && int_eq k.key key) is (written_more keys at place key)
  where
    by : (b : Bool) → (b || is_written keys place key) ≡ true → (is_written keys place key ≡ true → is_written (keys ++ at ∷ []) place key ≡ true) → (b || is_written (keys ++ at ∷ []) place key) ≡ true
    by true h rest = refl
    by false h rest = rest h

same_key : (at : RowKey) → ((place_of at == place_of at) && int_eq at.key at.key) ≡ true
same_key at =
    let place : (place_of at == place_of at) ≡ true = grind arith in
    (λ i. place i && int_eq at.key at.key) ∙ key_is at.key at.key refl

-- ---- tables that stay

of_table_on : (old new : List FileTable) (at : RowKey) (d e : Database) → d.tables ≡ old → e.tables ≡ new → map def_of new ≡ map def_of old → IsOfTable d at → IsOfTable e at
of_table_on old new at d e d_is e_is defs is =
    let u = get_def old new (place_of at) is.table (sym defs) (ap (λ (tables : List FileTable). slice_get tables (place_of at)) (sym d_is) ∙ is.is_there) in
    record { from = is.from; table = u.0; is_there = ap (λ (tables : List FileTable). slice_get tables (place_of at)) e_is ∙ u.1 }

of_tables : (d e : Database) → map def_of e.tables ≡ map def_of d.tables → (keys : List RowKey) → AllByRecursion (IsOfTable d) keys → AllByRecursion (IsOfTable e) keys
of_tables d e defs [] all = tt
of_tables d e defs (at ∷ keys) all = (of_table_on d.tables e.tables at d e refl refl defs all.0, of_tables d e defs keys all.1)

one_more : (d : Database) (keys : List RowKey) (at : RowKey) → AllByRecursion (IsOfTable d) keys → IsOfTable d at → AllByRecursion (IsOfTable d) (keys ++ at ∷ [])
one_more d [] at all is = (is, tt)
one_more d (k ∷ keys) at all is = (all.0, one_more d keys at all.1 is)

-- ---- one row is another

-- what is marked then is that row, or was marked before
marked_on : (place : ℕ) (key : ℤ) (d e : Database) (Q : Type 0) → ChangesOnly place key d e → (p : ℕ) (k : ℤ) → is_marked (stood_at p k e) ≡ true
    → (((place == p) && int_eq key k) ≡ true → Q) → (is_marked (stood_at p k d) ≡ true → Q) → Q
marked_on place key d e Q only p k is here before = by ((place == p) && int_eq key k) refl
  where
    by : (b : Bool) → ((place == p) && int_eq key k) ≡ b → Q
    by true at = here at
    by false apart = before (sym (ap is_marked (only.others p k apart)) ∙ is)

old_at : (at : RowKey) (o : Option Kept) → ((old_image at o).table ≡ at.table) × ((old_image at o).key ≡ at.key)
old_at at None = (refl, refl)
old_at at (Some kept) = (refl, refl)

noted_more : (keys : List RowKey) (at : RowKey) (images : List FileImage) → AllByRecursion (λ (i : FileImage). is_written keys (pred i.image.table) i.image.key ≡ true) images
    → AllByRecursion (λ (i : FileImage). is_written (keys ++ at ∷ []) (pred i.image.table) i.image.key ≡ true) images
noted_more keys at [] all = tt
noted_more keys at (i ∷ images) all = (written_more keys at (pred i.image.table) i.image.key all.0, noted_more keys at images all.1)

-- old rows among others
module _ (P : FileImage → Type 0) (i : FileImage) where
  all_among : (newer older : List FileImage) → P i → AllByRecursion P (newer ++ older) → AllByRecursion P (newer ++ i ∷ older)
  all_among [] older one all = (one, all)
  all_among (x ∷ newer) older one all = (all.0, all_among newer older one all.1)

  one_among : (newer older : List FileImage) → AllByRecursion P (newer ++ i ∷ older) → P i
  one_among [] older all = all.0
  one_among (x ∷ newer) older all = one_among newer older all.1

all_but : (P : FileImage → Type 0) (newer mine older : List FileImage) → AllByRecursion P (newer ++ (mine ++ older)) → AllByRecursion P (newer ++ older)
all_but P [] [] older all = all
all_but P [] (x ∷ mine) older all = all_but P [] mine older all.1
all_but P (x ∷ newer) mine older all = (all.0, all_but P newer mine older all.1)

-- old rows are of keys that were written
abbrev AreOf : List RowKey → List FileImage → Type 0
AreOf keys images = AllByRecursion (λ (i : FileImage). is_written keys (pred i.image.table) i.image.key ≡ true) images

pub write_adds_key : WriteAddsKey
write_adds_key pages old new chains slot chain keys w d t row can are s = record {
  marked = λ place key is. marked_on (place_of w.at) w.at.key d s.after (is_written (keys ++ w.at ∷ []) place key ≡ true) s.only place key is
      (λ at. written_last keys w.at place key at) (λ was. written_more keys w.at place key (are.marked place key was));
  noted = subst (AreOf (keys ++ w.at ∷ [])) (sym s.images)
      (all_among (λ (i : FileImage). is_written (keys ++ w.at ∷ []) (pred i.image.table) i.image.key ≡ true) s.image s.newer s.older newest
      (subst (AreOf (keys ++ w.at ∷ [])) s.was (noted_more keys w.at d.images are.noted)));
  there = one_more s.after keys w.at (of_tables d s.after s.only.defs keys are.there)
      (of_table_on d.tables s.after.tables w.at d s.after refl refl s.only.defs (record { from = can.from; table = t; is_there = can.is_there }));
}
  where
    newest : is_written (keys ++ w.at ∷ []) (pred s.image.image.table) s.image.image.key ≡ true
    newest =
        ap (λ (i : OldImage). is_written (keys ++ w.at ∷ []) (pred i.table) i.key) s.image_is
        ∙ (λ i. is_written (keys ++ w.at ∷ []) (pred ((old_at w.at w.old).0 i)) ((old_at w.at w.old).1 i))
        ∙ written_last keys w.at (place_of w.at) w.at.key (same_key w.at)

-- ---- put back, committed, made

same_place : (a b : ℕ) (x y : ℤ) → ((a == b) && int_eq x y) ≡ true → (a ≡ b) × (x ≡ y)
same_place a b x y is = by (a == b) refl is
  where
    by : (c : Bool) → (a == b) ≡ c → (c && int_eq x y) ≡ true → (a ≡ b) × (x ≡ y)
    by true at both = ((let h : a ≡ b = grind (arith, at) in h), (let h : x ≡ y = grind (arith, ints, both) in h))
    by false at both = absurd (bad both)

pub undo_adds_none : UndoAddsNone
undo_adds_none pages new chains slot chain keys d are s = record {
  marked = λ place key is. marked_on (pred s.image.image.table) s.image.image.key d s.after (is_written keys place key ≡ true) s.only place key is
      (λ at. let same = same_place (pred s.image.image.table) place s.image.image.key key at in (λ i. is_written keys (sym same.0 i) (sym same.1 i)) ∙ one_among (λ (i : FileImage). is_written keys (pred i.image.table) i.image.key ≡ true) s.image s.newer s.older noted_now) (λ was. are.marked place key was);
  noted = subst (AreOf keys) (sym s.images) (all_but (λ (i : FileImage). is_written keys (pred i.image.table) i.image.key ≡ true) s.newer (s.image ∷ []) s.older noted_now);
  there = of_tables d s.after s.only.defs keys are.there;
}
  where
    noted_now : AreOf keys (s.newer ++ s.image ∷ s.older)
    noted_now = subst (AreOf keys) s.was are.noted

pub commit_adds_none : CommitAddsNone
commit_adds_none pages new chains slot chain keys d are s = record {
  marked = λ place key is. are.marked place key (sym (ap (λ (tables : List FileTable). is_marked (stood key (slice_get tables place))) s.tables) ∙ is);
  noted = subst (AreOf keys) (sym s.images)
      (all_but (λ (i : FileImage). is_written keys (pred i.image.table) i.image.key ≡ true) s.newer s.mine s.older (subst (AreOf keys) s.was are.noted));
  there = of_tables d s.after (ap (map def_of) s.tables) keys are.there;
}

-- a table behind the others
none_marked_in : (xs : List FileTable) (last : FileTable) (place : ℕ) (key : ℤ) → last.rows ≡ [] → is_marked (stood key (slice_get (xs ++ last ∷ []) place)) ≡ true → is_marked (stood key (slice_get xs place)) ≡ true
none_marked_in [] last zero key empty is = absurd (bad (sym (ap (λ (rows : List FileRow). is_marked (found row_key key rows)) empty) ∙ is))
none_marked_in [] last (suc place) key empty is = is
none_marked_in (x ∷ xs) last zero key empty is = is
none_marked_in (x ∷ xs) last (suc place) key empty is = none_marked_in xs last place key empty is

get_front : (xs ys : List FileTable) (n : ℕ) (t : FileTable) → slice_get xs n ≡ Some t → slice_get (xs ++ ys) n ≡ Some t
get_front [] ys n t is = absurd (let none : None ≡ Some t = is in let no_way : ⊥ = cc in no_way)
get_front (x ∷ xs) ys zero t is = is
get_front (x ∷ xs) ys (suc n) t is = get_front xs ys n t is

of_more : (d e : Database) (last : FileTable) → e.tables ≡ d.tables ++ last ∷ [] → (keys : List RowKey) → AllByRecursion (IsOfTable d) keys → AllByRecursion (IsOfTable e) keys
of_more d e last tables [] all = tt
of_more d e last tables (at ∷ keys) all = (
  record { from = all.0.from; table = all.0.table; is_there = ap (λ (l : List FileTable). slice_get l (place_of at)) tables ∙ get_front d.tables (last ∷ []) (place_of at) all.0.table all.0.is_there },
  of_more d e last tables keys all.1,
)

pub create_adds_none : CreateAddsNone
create_adds_none pages new chains keys def d are s = record {
  marked = λ place key is. are.marked place key (none_marked_in d.tables s.table place key s.empty (sym (ap (λ (tables : List FileTable). is_marked (stood key (slice_get tables place))) s.tables) ∙ is));
  noted = subst (λ (l : List FileImage). AllByRecursion (λ (i : FileImage). is_written keys (pred i.image.table) i.image.key ≡ true) l) (sym s.images) are.noted;
  there = of_more d s.after s.table s.tables keys are.there;
}

-- ---- none

row_unmarked : (o : Option FileRow) (rows : List FileRow) (key : ℤ) → found row_key key rows ≡ o → AllByRecursion (λ (r : FileRow). r.stored.marked ≡ false) rows → is_marked o ≡ false
row_unmarked None rows key is all = refl
row_unmarked (Some r) rows key is all = found_each row_key (λ (x : FileRow). x.stored.marked ≡ false) key rows r all is

stood_unmarked : (tables : List FileTable) (place : ℕ) (key : ℤ) → AllByRecursion (λ (t : FileTable). AllByRecursion (λ (r : FileRow). r.stored.marked ≡ false) t.rows) tables → is_marked (stood key (slice_get tables place)) ≡ false
stood_unmarked [] place key all = refl
stood_unmarked (t ∷ tables) zero key all = row_unmarked (found row_key key t.rows) t.rows key refl all.0
stood_unmarked (t ∷ tables) (suc place) key all = stood_unmarked tables place key all.1

pub none_written : NoneWritten
none_written d none tidy = record {
  marked = λ place key is. absurd (bad (sym (stood_unmarked d.tables place key tidy) ∙ is));
  noted = subst (λ (l : List FileImage). AllByRecursion (λ (i : FileImage). is_written [] (pred i.image.table) i.image.key ≡ true) l) (sym none) tt;
  there = tt;
}

-- ---- sweeps

all_free : (d : Database) → d.images ≡ [] → (keys : List RowKey) → AllByRecursion (IsOfTable d) keys → AllByRecursion (λ at. IsFree at d) keys
all_free d none [] all = tt
all_free d none (at ∷ keys) all = (
  record { from = all.0.from; table = all.0.table; is_there = all.0.is_there; unnamed = ap (list_any (names (place_of at) at.key)) none },
  all_free d none keys all.1,
)

pub written_may_sweep : WrittenMaySweep
written_may_sweep pages contents chains roots keys d kept roots_are none are = record { kept = kept; roots_are = roots_are; free = all_free d none keys are.there }

-- each row of rows that rise is what is found at its key
below_found : (low key : ℤ) (rows : List FileRow) (r : FileRow) → IsBelowEach row_key low rows → found row_key key rows ≡ Some r → int_lt low r.stored.key ≡ true
below_found low key [] r all is = absurd (let none : None ≡ Some r = is in let no_way : ⊥ = cc in no_way)
below_found low key (x ∷ rows) r all is = by (int_lt x.stored.key key) (int_eq x.stored.key key) is (below_found low key rows r all.1)
  where
    by : (b c : Bool) → (if b then found row_key key rows else (if c then Some x else None)) ≡ Some r → (found row_key key rows ≡ Some r → int_lt low r.stored.key ≡ true) → int_lt low r.stored.key ≡ true
    by true c h rest = rest h
    by false true h rest = let same : x ≡ r = cc in subst (λ (y : FileRow). int_lt low y.stored.key ≡ true) same all.0
    by false false h rest = absurd (let none : None ≡ Some r = h in let no_way : ⊥ = cc in no_way)

not_below_itself : (a : ℤ) → int_lt a a ≡ false
not_below_itself a = grind (arith, ints)

found_later : (x : FileRow) (rows : List FileRow) (key : ℤ) → int_lt x.stored.key key ≡ true → found row_key key (x ∷ rows) ≡ found row_key key rows
found_later x rows key less = ap (λ (b : Bool). if b then found row_key key rows else (if int_eq x.stored.key key then Some x else None)) less

found_first : (x : FileRow) (rows : List FileRow) → found row_key x.stored.key (x ∷ rows) ≡ Some x
found_first x rows =
    ap (λ (b : Bool). if b then found row_key x.stored.key rows else (if int_eq x.stored.key x.stored.key then Some x else None)) (not_below_itself x.stored.key)
    ∙ ap (λ (b : Bool). if b then Some x else None) (key_is x.stored.key x.stored.key refl)

each_found : (P : FileRow → Type 0) (rows : List FileRow) → RisesBy row_key rows → ((x : FileRow) → found row_key x.stored.key rows ≡ Some x → P x) → AllByRecursion P rows
each_found P [] rises each = tt
each_found P (x ∷ rows) rises each = (
  each x (found_first x rows),
  each_found P rows rises.1 (λ y is. each y (found_later x rows y.stored.key (below_found x.stored.key y.stored.key rows y rises.0 is) ∙ is)),
)

-- a written key of which the row isn't marked
one_gone : (d : Database) (keys : List RowKey) (place : ℕ) (key : ℤ) → AllByRecursion (λ at. IsUnmarked at d) keys → is_written keys place key ≡ true → is_marked (stood_at place key d) ≡ false
one_gone d [] place key gone is = absurd (bad is)
one_gone d (k ∷ keys) place key gone is = by ((place_of k == place) && int_eq k.key key) refl is (one_gone d keys place key gone.1)
  where
    by : (b : Bool) → ((place_of k == place) && int_eq k.key key) ≡ b → (b || is_written keys place key) ≡ true → (is_written keys place key ≡ true → is_marked (stood_at place key d) ≡ false) → is_marked (stood_at place key d) ≡ false
    by true at h rest = let same = same_place (place_of k) place k.key key at in (λ i. is_marked (stood_at (sym same.0 i) (sym same.1 i) d)) ∙ gone.0
    by false at h rest = rest h

swept_at : (pages : ℕ) (new : Contents) (chains : List Chain) (keys : List RowKey) (d : Database) → AreWritten keys d → (s : SweptAll pages new chains keys d) → (place : ℕ) (key : ℤ) → is_marked (stood_at place key s.swept.after) ≡ false
swept_at pages new chains keys d are s place key = by (is_marked (stood_at place key d)) refl
  where
    by : (b : Bool) → is_marked (stood_at place key d) ≡ b → is_marked (stood_at place key s.swept.after) ≡ false
    by true was = one_gone s.swept.after keys place key s.gone (are.marked place key was)
    by false was = s.swept.unmarked (record { table = suc place; key = key }) was

all_places : (P : FileTable → Type 0) (xs : List FileTable) → ((n : ℕ) (x : FileTable) → slice_get xs n ≡ Some x → P x) → AllByRecursion P xs
all_places P [] each = tt
all_places P (x ∷ xs) each = (each 0 x refl, all_places P xs (λ n y is. each (suc n) y is))

pub sweep_leaves_none : SweepLeavesNone
sweep_leaves_none pages new chains keys d are s =
    all_places (λ (t : FileTable). AllByRecursion (λ (r : FileRow). r.stored.marked ≡ false) t.rows) s.swept.after.tables
    (λ place t there. each_found (λ (r : FileRow). r.stored.marked ≡ false) t.rows (rises_in pages new s.swept.after place t s.swept.kept.holds.kept there)
    (λ r is. sym (ap is_marked (ap (stood r.stored.key) there ∙ is)) ∙ swept_at pages new chains keys d are s place r.stored.key))

-- ---- in any order

module _ {X : Type 0} (P : X → Type 0) where
  to_places : (xs : List X) → AllByRecursion P xs → All P xs
  to_places [] all = λ k d inside. absurd (omega (arith, inside))
  to_places (x ∷ xs) all = by (to_places xs all.1)
    where
      by : All P xs → (k : ℕ) (d : X) → k < length (x ∷ xs) → P (get_or (x ∷ xs) k d)
      by rest zero d inside = all.0
      by rest (suc k) d inside = rest k d (omega (arith, inside))

  from_places : (xs : List X) → All P xs → AllByRecursion P xs
  from_places [] all = tt
  from_places (x ∷ xs) all = (all 0 x (omega arith), from_places xs (λ k d inside. all (suc k) d (omega (arith, inside))))

  in_any_order : (xs ys : List X) → IsPermutation xs ys → AllByRecursion P xs → AllByRecursion P ys
  in_any_order xs ys same all = from_places ys (All-permutation P xs ys same (to_places xs all))

none_pass : {X : Type 0} (p : X → Bool) (xs : List X) → list_any p xs ≡ false → AllByRecursion (λ x. p x ≡ false) xs
none_pass p [] out = tt
none_pass p (x ∷ xs) out = by (p x) refl out (none_pass p xs)
  where
    by : (b : Bool) → p x ≡ b → (b || list_any p xs) ≡ false → (list_any p xs ≡ false → AllByRecursion (λ y. p y ≡ false) xs) → AllByRecursion (λ y. p y ≡ false) (x ∷ xs)
    by true is h rest = absurd (bad (sym h))
    by false is h rest = (is, rest h)

any_in_order : {X : Type 0} (p : X → Bool) (xs ys : List X) → IsPermutation xs ys → list_any p xs ≡ true → list_any p ys ≡ true
any_in_order p xs ys same is = by (list_any p ys) refl
  where
    by : (b : Bool) → list_any p ys ≡ b → b ≡ true
    by true there = refl
    by false out =
        let none = list_any_none p xs (to_places (λ x. p x ≡ false) xs (in_any_order (λ x. p x ≡ false) ys xs (IsPermutation-sym xs ys same) (none_pass p ys out))) in
        absurd (bad (sym none ∙ is))

noted_in_order : (keys others : List RowKey) → IsPermutation keys others → (images : List FileImage) → AllByRecursion (λ (i : FileImage). is_written keys (pred i.image.table) i.image.key ≡ true) images
    → AllByRecursion (λ (i : FileImage). is_written others (pred i.image.table) i.image.key ≡ true) images
noted_in_order keys others same [] all = tt
noted_in_order keys others same (i ∷ images) all = (
  any_in_order (λ (at : RowKey). (place_of at == pred i.image.table) && int_eq at.key i.image.key) keys others same all.0,
  noted_in_order keys others same images all.1,
)

pub written_in_any_order : WrittenInAnyOrder
written_in_any_order keys others d same are = record {
  marked = λ place key is. any_in_order (λ (at : RowKey). (place_of at == place) && int_eq at.key key) keys others same (are.marked place key is);
  noted = noted_in_order keys others same d.images are.noted;
  there = in_any_order (IsOfTable d) keys others same are.there;
}
