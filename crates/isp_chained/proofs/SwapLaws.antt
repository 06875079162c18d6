-- Old rows among newer and older ones, put back.
use Rattle.std.proofs.Common.{◌≡◌, ℕ, zero, suc, pred, ◌≤◌, ◌==◌, ◌&&◌, ◌||◌, ℤ, Bool, true, false, cond, List, [], ◌∷◌, ◌++◌, map, Option, is_some, refl, sym, ◌∙◌, ap, subst, arith}
use Rattle.std.specs.Prelude.{slice_get}
use Rattle.std.specs.List.{AllByRecursion, list_any}
use Rattle.std.specs.Ordering.{int_eq}
use Rattle.std.proofs.lemmas.Bool.Decides.{nat_tests}
use Rattle.std.proofs.lemmas.Int.{ints}
use Rattle.isp_plain.specs.declared.value.Row.{Row}
use Rattle.isp_plain.specs.Tables.{Table, definition_of}
use Rattle.isp_changes.specs.Rows.{AreRisingTables}
use Rattle.isp_changes.specs.Changes.{RowChange, after_change, after_changes, row_in}
use Rattle.isp_changes.proofs.ChangeProofs.{change_rises}
use Rattle.isp_changes.proofs.TableProofs.{change_in_tables, same_tables}
use Rattle.isp_image.specs.Databases.{FileImage, back_of, put_back}
use Rattle.isp_image.specs.Courses.{names}

-- ---- two changes of different keys

-- the changes are of different rows
abbrev pub AreOther : RowChange → RowChange → Type 0
AreOther c d = (place : ℕ) (key : ℤ) → ((place == c.table) && int_eq key c.key) ≡ true → ((place == d.table) && int_eq key d.key) ≡ false

pub there_is : {A B : Type 0} (f : A → B) (xs ys : List A) (n : ℕ) → map f xs ≡ map f ys → is_some (slice_get xs n) ≡ is_some (slice_get ys n)
there_is f [] [] n is = refl
there_is f [] (y ∷ ys) n is = cc
there_is f (x ∷ xs) [] n is = cc
there_is f (x ∷ xs) (y ∷ ys) zero is = refl
there_is f (x ∷ xs) (y ∷ ys) (suc n) is = there_is f xs ys n (let later : map f xs ≡ map f ys = cc in later)

swap_rows : (a b c : Bool) (x y old : Option Row) → (a ≡ true → b ≡ false) → cond (b && c) y (cond (a && c) x old) ≡ cond (a && c) x (cond (b && c) y old)
swap_rows true b true x y old apart = ap (λ (b : Bool). cond (b && true) y x) (apart refl)
swap_rows true true false x y old apart = refl
swap_rows true false false x y old apart = refl
swap_rows false true c x y old apart = refl
swap_rows false false c x y old apart = refl

pub swap : (tables : List Table) (c d : RowChange) → AreRisingTables tables → AreOther c d → after_change (after_change tables c) d ≡ after_change (after_change tables d) c
swap tables c d rise apart =
    let with_c = change_in_tables tables c rise in
    let with_d = change_in_tables tables d rise in
    let both = change_in_tables (after_change tables c) d with_c.rises in
    let other = change_in_tables (after_change tables d) c with_d.rises in
    same_tables (after_change (after_change tables c) d) (after_change (after_change tables d) c) both.rises other.rises
    (both.definitions ∙ with_c.definitions ∙ sym (other.definitions ∙ with_d.definitions))
    (λ place key.
    both.each place key
    ∙ (λ i. cond (((place == d.table) && int_eq key d.key) && there_is definition_of (after_change tables c) tables place with_c.definitions i) d.new (with_c.each place key i))
    ∙ swap_rows ((place == c.table) && int_eq key c.key) ((place == d.table) && int_eq key d.key) (is_some (slice_get tables place)) c.new d.new (row_in tables place key) (apart place key)
    ∙ sym (other.each place key
    ∙ (λ i. cond (((place == c.table) && int_eq key c.key) && there_is definition_of (after_change tables d) tables place with_d.definitions i) c.new (with_d.each place key i))))

-- ---- through many

-- none of the changes is of that row
abbrev pub AllOther : RowChange → List RowChange → Type 0
AllOther d changes = AllByRecursion (λ c. AreOther c d) changes

pub through : (tables : List Table) (changes : List RowChange) (d : RowChange) → AreRisingTables tables → AllOther d changes → after_change (after_changes tables changes) d ≡ after_changes (after_change tables d) changes
through tables [] d rise apart = refl
through tables (c ∷ changes) d rise apart =
    through (after_change tables c) changes d (change_rises tables c rise) apart.1
    ∙ ap (λ (tables : List Table). after_changes tables changes) (swap tables c d rise apart.0)

pub changes_append : (tables : List Table) (changes more : List RowChange) → after_changes tables (changes ++ more) ≡ after_changes (after_changes tables changes) more
changes_append tables [] more = refl
changes_append tables (change ∷ changes) more = changes_append (after_change tables change) changes more

map_append : {A B : Type 0} (f : A → B) (xs ys : List A) → map f (xs ++ ys) ≡ map f xs ++ map f ys
map_append f [] ys = refl
map_append f (x ∷ xs) ys = ap (λ (rest : List _). f x ∷ rest) (map_append f xs ys)

pub back_append : (tables : List Table) (newer older : List FileImage) → put_back (newer ++ older) tables ≡ put_back older (put_back newer tables)
back_append tables newer older = ap (after_changes tables) (map_append back_of newer older) ∙ changes_append tables (map back_of newer) (map back_of older)

-- an image that is put back among others, none of the newer ones of its key, as if it were the first
pub back_among : (tables : List Table) (newer : List FileImage) (image : FileImage) (older : List FileImage) → AreRisingTables tables → AllOther (back_of image) (map back_of newer)
    → put_back (newer ++ image ∷ older) tables ≡ put_back (newer ++ older) (after_change tables (back_of image))
back_among tables newer image older rise apart =
    back_append tables newer (image ∷ older)
    ∙ ap (λ (tables : List Table). put_back older tables) (through tables (map back_of newer) (back_of image) rise apart)
    ∙ sym (back_append (after_change tables (back_of image)) newer older)

-- ---- old rows of other keys

-- the row of another key isn't the one that an old row is of
pub image_other : (place : ℕ) (key : ℤ) (i : FileImage) → 1 ≤ i.image.table → names place key i ≡ false → ((place == pred i.image.table) && int_eq key i.image.key) ≡ false
image_other place key i from out = by ((place == pred i.image.table) && int_eq key i.image.key) refl
  where
    first : (a b : Bool) → (a && b) ≡ true → a ≡ true
    first true b is = refl
    first false b is = is

    second : (a b : Bool) → (a && b) ≡ true → b ≡ true
    second true b is = is
    second false b is = let bad : false ≡ true = is in absurd (let no : ⊥ = cc in no)

    table_at : (t p : ℕ) → 1 ≤ t → (p == pred t) ≡ true → (t == suc p) ≡ true
    table_at (suc t) p some here = let one : p ≡ t = grind (arith, nat_tests, here) in let same : suc t ≡ suc p = omega (arith, one) in grind (arith, nat_tests, same)
    table_at zero p some here = absurd (omega (arith, some))

    key_at : (a b : ℤ) → int_eq a b ≡ true → int_eq b a ≡ true
    key_at a b one = grind (arith, ints, one)

    joint : (a b : Bool) → a ≡ true → b ≡ true → (a && b) ≡ true
    joint a b one other = ap (λ (x : Bool). x && b) one ∙ other

    by : (b : Bool) → ((place == pred i.image.table) && int_eq key i.image.key) ≡ b → b ≡ false
    by false is = refl
    by true is =
        let table = table_at i.image.table place from (first (place == pred i.image.table) (int_eq key i.image.key) is) in
        let keys = key_at key i.image.key (second (place == pred i.image.table) (int_eq key i.image.key) is) in
        let named : names place key i ≡ true = joint (i.image.table == suc place) (int_eq i.image.key key) table keys in
        let bad : true ≡ false = sym named ∙ out in
        cc

image_apart : (place : ℕ) (key : ℤ) (i : FileImage) (d : RowChange) → 1 ≤ i.image.table → d.table ≡ place → d.key ≡ key → names place key i ≡ false → AreOther (back_of i) d
image_apart place key i d from place_is key_is out at k mine = by ((at == d.table) && int_eq k d.key) refl
  where
    first : (a b : Bool) → (a && b) ≡ true → a ≡ true
    first true b is = refl
    first false b is = is

    second : (a b : Bool) → (a && b) ≡ true → b ≡ true
    second true b is = is
    second false b is = let bad : false ≡ true = is in absurd (let no : ⊥ = cc in no)

    by : (b : Bool) → ((at == d.table) && int_eq k d.key) ≡ b → b ≡ false
    by false is = refl
    by true is =
        let at_place : at ≡ place = same_number at d.table (first (at == d.table) (int_eq k d.key) is) ∙ place_is in
        let at_key : k ≡ key = same_key k d.key (second (at == d.table) (int_eq k d.key) is) ∙ key_is in
        let out_there : ((at == pred i.image.table) && int_eq k i.image.key) ≡ false = subst (λ (p : ℕ). ((p == pred i.image.table) && int_eq k i.image.key) ≡ false) (sym at_place) (subst (λ (q : ℤ). ((place == pred i.image.table) && int_eq q i.image.key) ≡ false) (sym at_key) (image_other place key i from out)) in
        let bad : true ≡ false = sym mine ∙ out_there in
        cc
      where
        same_number : (a b : ℕ) → (a == b) ≡ true → a ≡ b
        same_number a b is = grind (arith, nat_tests, is)

        same_key : (a b : ℤ) → int_eq a b ≡ true → a ≡ b
        same_key a b is = grind (arith, ints, is)

-- old rows of which none is of the key
pub all_apart : (place : ℕ) (key : ℤ) (images : List FileImage) (d : RowChange) → AllByRecursion (λ (i : FileImage). 1 ≤ i.image.table) images → d.table ≡ place → d.key ≡ key → list_any (names place key) images ≡ false → AllOther d (map back_of images)
all_apart place key [] d from place_is key_is out = tt
all_apart place key (i ∷ images) d from place_is key_is out =
    let parts = neither (names place key i) (list_any (names place key) images) out in
    (image_apart place key i d from.0 place_is key_is parts.0, all_apart place key images d from.1 place_is key_is parts.1)
  where
    neither : (a b : Bool) → (a || b) ≡ false → (a ≡ false) × (b ≡ false)
    neither true b bad = cc
    neither false b is = (refl, is)
