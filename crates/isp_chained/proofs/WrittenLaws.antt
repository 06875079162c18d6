-- A row that is written with what stood there pushed onto the chain of a slot, the newest one that is put back and popped, and a
-- chain that is finished: files with chains go to files with chains.
use Rattle.std.proofs.Common.{◌≡◌, ◌≢◌, ℕ, zero, suc, ◌+◌, ◌<◌, ◌≤◌, ◌==◌, ◌&&◌, ◌||◌, ℤ, Bool, true, false, List, [], ◌∷◌, ◌++◌, drop, map, reverse, take, Option, Some, None, refl, sym, ◌∙◌, ap, subst, arith}
use Rattle.std.specs.Prelude.{slice_get, slice_set}
use Rattle.std.specs.List.{AllByRecursion, list_any}
use Rattle.std.specs.Ordering.{int_eq}
use Rattle.std.proofs.lemmas.Bool.Decides.{nat_tests}
use Rattle.std.proofs.lemmas.Int.{ints}
use Rattle.std.proofs.lemmas.List.{reverse-append}
use Rattle.isp_format.specs.Leaf.{slot_of}
use Rattle.isp_format.specs.Ranges.{Contents}
use Rattle.isp_format.specs.Undo.{OldImage}
use Rattle.isp_space.specs.Giving.{with_chain}
use Rattle.isp_space.specs.Spaces.{Space, next_free}
use Rattle.isp_clustered.specs.Rows.{without}
use Rattle.isp_clustered.specs.Trees.{IsEdited, Tree, on_leaves}
use Rattle.isp_clustered.proofs.TreeLaws.{drops_at}
use Rattle.isp_image.specs.Courses.{IsDropped, change_at, names, stood, stood_at}
use Rattle.isp_image.specs.Databases.{Database, FileImage, FileRow, FileTable, back_of, image_of, row_key}
use Rattle.isp_image.specs.Files.{IsFileImage, IsFileRow}
use Rattle.isp_image.specs.Keyed.{found, placed}
use Rattle.isp_image.proofs.FileLaws.{Regrown, image_noted, images_dropped, images_written, rises_in, with_table}
use Rattle.isp_image.proofs.KeyedLaws.{each_placed}
use Rattle.isp_image.proofs.StoredLaws.{exchanged_rows}
use Rattle.isp_image.proofs.TreeChanges.{edited_regrown}
use Rattle.isp_undo.specs.Calls.{Restacks, page_taken, space_after}
use Rattle.isp_undo.specs.Chains.{Chain, ends_of, gone, images_of, pages_of, popped, pushed, without_last}
use Rattle.isp_undo.proofs.StackLaws.{popped_images, pushed_images}
use Rattle.isp_chained.specs.Chained.{ChainedFile, Holds, images_in, old_of}
use Rattle.isp_chained.specs.Laws.{newer_of, older_of, with_space}
use Rattle.isp_chained.specs.Steps.{AreDisjoint, FinishesAmong, IsFreeIn, IsUnnamed, NotesAmong, UndoesAmong, are_of_one}
use Rattle.isp_chained.proofs.HoldLaws.{regrown_holds, space_now, table_now}
use Rattle.isp_chained.proofs.OrderLaws.{pushing_notes, stands_in_order}
use Rattle.isp_chained.proofs.SlotLaws.{finished_holds, popped_holds, pushed_holds}

-- ---- lists of old rows, divided as their images are

pub record Divided (images : List FileImage) (first second : List OldImage) : Type 0 where
  pub front : List FileImage
  pub rest : List FileImage
  pub is : images ≡ front ++ rest
  pub front_are : map old_of front ≡ first
  pub rest_are : map old_of rest ≡ second

pub divided : (images : List FileImage) (first second : List OldImage) → map old_of images ≡ first ++ second → Divided images first second
divided images [] second is = record { front = []; rest = images; is = refl; front_are = refl; rest_are = is }
divided [] (x ∷ first) second is = cc
divided (i ∷ images) (x ∷ first) second is =
    let head : i.image ≡ x = cc in
    let tail : map old_of images ≡ first ++ second = cc in
    let d = divided images first second tail in
    record {
      front = i ∷ d.front;
      rest = d.rest;
      is = ap (λ (images : List FileImage). i ∷ images) d.is;
      front_are = (λ k. head k ∷ d.front_are k);
      rest_are = d.rest_are;
    }

map_both : (xs ys : List FileImage) → map old_of (xs ++ ys) ≡ map old_of xs ++ map old_of ys
map_both [] ys = refl
map_both (x ∷ xs) ys = ap (λ (images : List OldImage). x.image ∷ images) (map_both xs ys)

get_set_same : (chains : List Chain) (slot : ℕ) (chain : Chain) → slice_get chains slot ≡ Some chain → slice_set chains slot chain ≡ chains
get_set_same [] slot chain is = cc
get_set_same (c ∷ chains) zero chain is = let same : c ≡ chain = cc in ap (λ (c : Chain). c ∷ chains) (sym same)
get_set_same (c ∷ chains) (suc slot) chain is = ap (λ (rest : List Chain). c ∷ rest) (get_set_same chains slot chain is)

-- the old rows of a file, by slots
pub in_order : (chains : List Chain) (slot : ℕ) (chain : Chain) → slice_get chains slot ≡ Some chain → images_in chains ≡ newer_of slot chains ++ (reverse (images_of chain) ++ older_of slot chains)
in_order chains slot chain is = ap images_in (sym (get_set_same chains slot chain is)) ∙ stands_in_order chains slot chain chain is

-- ---- keys that no other slot names

neither : (a b : Bool) → (a || b) ≡ false → (a ≡ false) × (b ≡ false)
neither true b bad = cc
neither false b is = (refl, is)

both_out : (a b : Bool) → a ≡ false → b ≡ false → (a || b) ≡ false
both_out a b no_a no_b = ap (λ (x : Bool). x || b) no_a ∙ no_b

any_both : (f : OldImage → Bool) (xs ys : List OldImage) → list_any f xs ≡ false → list_any f ys ≡ false → list_any f (xs ++ ys) ≡ false
any_both f [] ys first second = second
any_both f (x ∷ xs) ys first second = let parts = neither (f x) (list_any f xs) first in both_out (f x) (list_any f (xs ++ ys)) parts.0 (any_both f xs ys parts.1 second)

any_turned : (f : OldImage → Bool) (xs : List OldImage) → list_any f xs ≡ false → list_any f (reverse xs) ≡ false
any_turned f [] none = refl
any_turned f (x ∷ xs) none =
    let parts = neither (f x) (list_any f xs) none in
    ap (list_any f) (reverse-append (x ∷ []) xs) ∙ any_both f (reverse xs) (x ∷ []) (any_turned f xs parts.1) (both_out (f x) false parts.0 refl)

-- none of these chains has one
none_in : (f : OldImage → Bool) (chains : List Chain) → ((n : ℕ) (c : Chain) → slice_get chains n ≡ Some c → list_any f (images_of c) ≡ false) → list_any f (images_in chains) ≡ false
none_in f [] each = refl
none_in f (c ∷ chains) each = any_both f (images_in chains) (reverse (images_of c)) (none_in f chains (λ n d got. each (suc n) d got)) (any_turned f (images_of c) (each 0 c refl))

get_drop : (chains : List Chain) (slot n : ℕ) (c : Chain) → slice_get (drop (suc slot) chains) n ≡ Some c → slice_get chains (suc (slot + n)) ≡ Some c
get_drop [] slot n c is = cc
get_drop (d ∷ chains) zero n c is = let same : 0 + n ≡ n = omega arith in ap (slice_get chains) same ∙ is
get_drop (d ∷ chains) (suc slot) n c is = let same : suc slot + n ≡ suc (slot + n) = omega arith in ap (slice_get chains) same ∙ get_drop chains slot n c is

get_take : (chains : List Chain) (slot n : ℕ) (c : Chain) → slice_get (take slot chains) n ≡ Some c → (n < slot) × (slice_get chains n ≡ Some c)
get_take chains zero n c is = cc
get_take [] (suc slot) n c is = cc
get_take (d ∷ chains) (suc slot) zero c is = (omega arith, is)
get_take (d ∷ chains) (suc slot) (suc n) c is = let rest = get_take chains slot n c is in (let less = rest.0 in omega (arith, less), rest.1)

pub newer_free : (f : OldImage → Bool) (chains : List Chain) (slot : ℕ) → ((other : ℕ) (more : Chain) → slot ≢ other → slice_get chains other ≡ Some more → list_any f (images_of more) ≡ false) → list_any f (newer_of slot chains) ≡ false
newer_free f chains slot free = none_in f (drop (suc slot) chains) (λ n c got. free (suc (slot + n)) c (λ same. omega (arith, same)) (get_drop chains slot n c got))

pub older_free : (f : OldImage → Bool) (chains : List Chain) (slot : ℕ) → ((other : ℕ) (more : Chain) → slot ≢ other → slice_get chains other ≡ Some more → list_any f (images_of more) ≡ false) → list_any f (older_of slot chains) ≡ false
older_free f chains slot free = none_in f (take slot chains) (λ n c got. (let at = get_take chains slot n c got in free n c (λ same. (let less = at.0 in omega (arith, less, same))) at.1))

-- an image names the row that another is of
names_is : (place : ℕ) (key : ℤ) (one : OldImage) (i : FileImage) → one.table ≡ suc place → one.key ≡ key → are_of_one one i.image ≡ false → names place key i ≡ false
names_is place key one i table_is key_is out = by (names place key i) refl
  where
    first : (a b : Bool) → (a && b) ≡ true → a ≡ true
    first true b is = refl
    first false b is = is

    second : (a b : Bool) → (a && b) ≡ true → b ≡ true
    second true b is = is
    second false b is = let bad : false ≡ true = is in absurd (let no : ⊥ = cc in no)

    table_too : (a b : ℕ) → (a == b) ≡ true → (b == a) ≡ true
    table_too a b is = grind (arith, nat_tests, is)

    key_too : (a b : ℤ) → int_eq a b ≡ true → int_eq b a ≡ true
    key_too a b is = grind (arith, ints, is)

    joint : (a b : Bool) → a ≡ true → b ≡ true → (a && b) ≡ true
    joint a b x other = ap (λ (x : Bool). x && b) x ∙ other

    by : (b : Bool) → names place key i ≡ b → b ≡ false
    by false is = refl
    by true is =
        let tables : (one.table == i.image.table) ≡ true = ap (λ (n : ℕ). n == i.image.table) table_is ∙ table_too i.image.table (suc place) (first (i.image.table == suc place) (int_eq i.image.key key) is) in
        let keys : int_eq one.key i.image.key ≡ true = ap (λ (k : ℤ). int_eq k i.image.key) key_is ∙ key_too i.image.key key (second (i.image.table == suc place) (int_eq i.image.key key) is) in
        let there : are_of_one one i.image ≡ true = joint (one.table == i.image.table) (int_eq one.key i.image.key) tables keys in
        let bad : true ≡ false = sym there ∙ out in
        cc

pub unnamed_of : (place : ℕ) (key : ℤ) (one : OldImage) (images : List FileImage) → one.table ≡ suc place → one.key ≡ key → list_any (are_of_one one) (map old_of images) ≡ false → IsUnnamed place key images
unnamed_of place key one [] table_is key_is none = refl
unnamed_of place key one (i ∷ images) table_is key_is none =
    let parts = neither (are_of_one one i.image) (list_any (are_of_one one) (map old_of images)) none in
    both_out (names place key i) (list_any (names place key) images) (names_is place key one i table_is key_is parts.0) (unnamed_of place key one images table_is key_is parts.1)

-- ---- a row is written

all_back : (P : FileImage → Type 0) (xs ys : List FileImage) → AllByRecursion P (xs ++ ys) → AllByRecursion P xs × AllByRecursion P ys
all_back P [] ys all = (tt, all)
all_back P (x ∷ xs) ys all = let rest = all_back P xs ys all.1 in ((all.0, rest.0), rest.1)

all_among : (P : FileImage → Type 0) (xs : List FileImage) (i : FileImage) (ys : List FileImage) → AllByRecursion P xs → P i → AllByRecursion P ys → AllByRecursion P (xs ++ i ∷ ys)
all_among P [] i ys first here second = (here, second)
all_among P (x ∷ xs) i ys first here second = (first.0, all_among P xs i ys first.1 here second)

-- what stood at the key of a table, as an old row
abbrev pub stood_image : ℕ → ℤ → Database → FileImage
stood_image place key db = image_of place key (stood_at place key db)

pub record WrittenFile (pages : ℕ) (new : Contents) (db : Database) (chains : List Chain) (slot : ℕ) (after : Chain) (place : ℕ) (key : ℤ) (row : FileRow) (now : FileTable) (space : Space) : Type 0 where
  pub newer : List FileImage
  pub older : List FileImage
  pub newer_are : map old_of newer ≡ newer_of slot chains
  pub file : ChainedFile pages new (with_table db place now space (newer ++ stood_image place key db ∷ older)) (slice_set chains slot after)
  pub notes : NotesAmong place key row newer older db (with_table db place now space (newer ++ stood_image place key db ∷ older))

image_names : (place : ℕ) (key : ℤ) (o : Option FileRow) → ((image_of place key o).image.table ≡ suc place) × ((image_of place key o).image.key ≡ key)
image_names place key None = (refl, refl)
image_names place key (Some r) = (refl, refl)

pub written_file : (pages : ℕ) (old mid new : Contents) (db : Database) (chains : List Chain) (slot : ℕ) (chain : Chain) (place : ℕ) (t : FileTable) (tree : Tree) (key : ℤ) (row : FileRow) (count bytes : ℕ)
    → ChainedFile pages old db chains → slice_get chains slot ≡ Some chain
    → (let image = (stood_image place key db).image in
    let s = space_after image chain db.space in
    let after = pushed (next_free db.space) image chain in
    let now = table_now t tree (placed row_key key (Some row) t.rows) in
    Restacks pages old mid (map ends_of chains) slot chain after s (page_taken image chain db.space) → IsFreeIn image slot chains → slice_get db.tables place ≡ Some t
    → Regrown pages mid new (with_space db s) place t tree (placed row_key key (Some row) t.rows) count bytes → row.stored.key ≡ key → ((r : FileRow) → found row_key key t.rows ≡ Some r → slot_of r.stored ≤ slot_of row.stored)
    → WrittenFile pages new db chains slot after place key row now (space_now count bytes s))
written_file pages old mid new db chains slot chain place t tree key row count bytes file is call free there change at slots =
    let image : OldImage = (stood_image place key db).image in
    let s : Space = space_after image chain db.space in
    let after : Chain = pushed (next_free db.space) image chain in
    let rows : List FileRow = placed row_key key (Some row) t.rows in
    let now : FileTable = table_now t tree rows in
    let held = pushed_holds pages old mid db chains slot chain image file.holds is call in
    let d = divided db.images (newer_of slot chains) (reverse (images_of chain) ++ older_of slot chains) (file.noted ∙ in_order chains slot chain is) in
    let noted = all_back (IsFileImage db.tables) d.front d.rest (subst (λ (images : List FileImage). AllByRecursion (IsFileImage db.tables) images) d.is file.holds.kept.noted) in
    let rises = rises_in pages old db place t file.holds.kept there in
    let stood_is : stood_at place key db ≡ found row_key key t.rows = ap (stood key) there in
    let here : IsFileImage (slice_set db.tables place now) (stood_image place key db) = subst (λ (o : Option FileRow). IsFileImage (slice_set db.tables place now) (image_of place key o)) (sym stood_is) (image_noted db.tables place t tree key row there at rises (file.holds.kept.each place t there).each slots) in
    let images : List FileImage = d.front ++ stood_image place key db ∷ d.rest in
    let all : AllByRecursion (IsFileImage (slice_set db.tables place now)) images = all_among (IsFileImage (slice_set db.tables place now)) d.front (stood_image place key db) d.rest (images_written db.tables place t tree key row d.front there at rises slots noted.0) here (images_written db.tables place t tree key row d.rest there at rises slots noted.1) in
    let holds = regrown_holds pages mid new (with_space db s) (slice_set chains slot after) place t tree rows count bytes images held there change all in
    let named = image_names place key (stood_at place key db) in
    record {
      newer = d.front;
      older = d.rest;
      newer_are = d.front_are;
      file = record {
        holds = holds;
        noted = map_both d.front (stood_image place key db ∷ d.rest) ∙ (λ k. d.front_are k ++ image ∷ d.rest_are k) ∙ sym (pushing_notes chains slot chain after image is (pushed_images (next_free db.space) image chain));
      };
      notes = record {
        at = at;
        exchanges = record { table = t; is_there = there; tree = tree; tables = refl };
        was = d.is;
        noted = refl;
        free = unnamed_of place key image d.front named.0 named.1 (subst (λ (images : List OldImage). list_any (are_of_one image) images ≡ false) (sym d.front_are) (newer_free (are_of_one image) chains slot free));
      };
    }

-- ---- the newest old row of a slot is put back

-- the newest old row of a slot among all
pub record NewestOf (images : List FileImage) (first : List OldImage) (newest : OldImage) (second : List OldImage) : Type 0 where
  pub front : List FileImage
  pub image : FileImage
  pub rest : List FileImage
  pub is : images ≡ front ++ image ∷ rest
  pub front_are : map old_of front ≡ first
  pub image_is : image.image ≡ newest
  pub rest_are : map old_of rest ≡ second

pub newest_among : (images : List FileImage) (first : List OldImage) (newest : OldImage) (second : List OldImage) → map old_of images ≡ first ++ newest ∷ second → NewestOf images first newest second
newest_among images first newest second is = by (divided images first (newest ∷ second) is)
  where
    by : Divided images first (newest ∷ second) → NewestOf images first newest second
    by d = at d.rest d.is d.rest_are
      where
        at : (rest : List FileImage) → images ≡ d.front ++ rest → map old_of rest ≡ newest ∷ second → NewestOf images first newest second
        at [] parts are = cc
        at (i ∷ rest) parts are = record { front = d.front; image = i; rest = rest; is = parts; front_are = d.front_are; image_is = (let head : i.image ≡ newest = cc in head); rest_are = (let tail : map old_of rest ≡ second = cc in tail) }

-- the image of a slot that is the newest
pub slot_newest : (chains : List Chain) (slot : ℕ) (chain : Chain) (images : List OldImage) (newest : OldImage) → slice_get chains slot ≡ Some chain → images_of chain ≡ images ++ newest ∷ [] → images_in chains ≡ newer_of slot chains ++ newest ∷ (reverse images ++ older_of slot chains)
slot_newest chains slot chain images newest is newest_is =
    in_order chains slot chain is
    ∙ ap (λ (mine : List OldImage). newer_of slot chains ++ (mine ++ older_of slot chains)) (ap reverse newest_is ∙ reverse-append images (newest ∷ []))

but_last : (images : List OldImage) (newest : OldImage) → without_last (images ++ newest ∷ []) ≡ images
but_last [] newest = refl
but_last (i ∷ []) newest = refl
but_last (i ∷ j ∷ images) newest = ap (λ (images : List OldImage). i ∷ images) (but_last (j ∷ images) newest)

pub record UndoneFile (pages : ℕ) (new : Contents) (db : Database) (chains : List Chain) (slot : ℕ) (after : Chain) (place : ℕ) (key : ℤ) (row : FileRow) (now : FileTable) (space : Space) (newer : List FileImage) (image : FileImage) (older : List FileImage) : Type 0 where
  pub file : ChainedFile pages new (with_table db place now space (newer ++ older)) (slice_set chains slot after)
  pub undoes : UndoesAmong place key row newer image older db (with_table db place now space (newer ++ older))

pub undone_file : (pages : ℕ) (old mid new : Contents) (db : Database) (chains : List Chain) (slot : ℕ) (chain : Chain) (images : List OldImage) (newest : OldImage) (place : ℕ) (t : FileTable) (tree : Tree) (key : ℤ) (row : FileRow) (count bytes : ℕ)
    → ChainedFile pages old db chains → slice_get chains slot ≡ Some chain → images_of chain ≡ images ++ newest ∷ [] → (n : NewestOf db.images (newer_of slot chains) newest (reverse images ++ older_of slot chains)) → newest.table ≡ suc place → newest.key ≡ key → IsFreeIn newest slot chains
    → (let s = space_now count bytes db.space in
    let now = table_now t tree (placed row_key key (Some row) t.rows) in
    slice_get db.tables place ≡ Some t → Regrown pages old mid db place t tree (placed row_key key (Some row) t.rows) count bytes → row.stored.key ≡ key → ((r : FileRow) → found row_key key t.rows ≡ Some r → slot_of r.stored ≤ slot_of row.stored)
    → back_of n.image ≡ change_at place key (Some row)
    → Restacks pages mid new (map ends_of chains) slot chain (popped chain) (with_chain (gone chain) s) []
    → UndoneFile pages new db chains slot (popped chain) place key row now (with_chain (gone chain) s) n.front n.image n.rest)
undone_file pages old mid new db chains slot chain images newest place t tree key row count bytes file is newest_is n table_is key_is free there change at slots back call =
    let s : Space = space_now count bytes db.space in
    let rows : List FileRow = placed row_key key (Some row) t.rows in
    let now : FileTable = table_now t tree rows in
    let noted = all_back (IsFileImage db.tables) n.front (n.image ∷ n.rest) (subst (λ (images : List FileImage). AllByRecursion (IsFileImage db.tables) images) n.is file.holds.kept.noted) in
    let rises = rises_in pages old db place t file.holds.kept there in
    let left : List FileImage = n.front ++ n.rest in
    let all : AllByRecursion (IsFileImage (slice_set db.tables place now)) left = all_joined (IsFileImage (slice_set db.tables place now)) n.front n.rest (images_written db.tables place t tree key row n.front there at rises slots noted.0) (images_written db.tables place t tree key row n.rest there at rises slots noted.1.1) in
    let changed = regrown_holds pages old mid db chains place t tree rows count bytes left file.holds there change all in
    let holds = popped_holds pages mid new (with_table db place now s left) chains slot chain changed is call in
    let less : images_of (popped chain) ≡ images = popped_images chain ∙ ap without_last newest_is ∙ but_last images newest in
    record {
      file = record {
        holds = holds;
        noted = map_both n.front n.rest ∙ (λ k. n.front_are k ++ n.rest_are k) ∙ sym (stands_in_order chains slot chain (popped chain) is ∙ ap (λ (mine : List OldImage). newer_of slot chains ++ (reverse mine ++ older_of slot chains)) less);
      };
      undoes = record {
        at = at;
        exchanges = record { table = t; is_there = there; tree = tree; tables = refl };
        was = n.is;
        noted = refl;
        back = back;
        free = unnamed_of place key newest n.front table_is key_is (subst (λ (images : List OldImage). list_any (are_of_one newest) images ≡ false) (sym n.front_are) (newer_free (are_of_one newest) chains slot free));
      };
    }
  where
    all_joined : (P : FileImage → Type 0) (xs ys : List FileImage) → AllByRecursion P xs → AllByRecursion P ys → AllByRecursion P (xs ++ ys)
    all_joined P [] ys first second = second
    all_joined P (x ∷ xs) ys first second = (first.0, all_joined P xs ys first.1 second)

-- ---- the old rows of a slot go

pub record FinishedFile (pages : ℕ) (new : Contents) (db : Database) (chains : List Chain) (slot : ℕ) (chain : Chain) (space : Space) : Type 0 where
  pub newer : List FileImage
  pub mine : List FileImage
  pub older : List FileImage
  pub newer_are : map old_of newer ≡ newer_of slot chains
  pub mine_are : map old_of mine ≡ reverse (images_of chain)
  pub file : ChainedFile pages new (record { space = space; tables = db.tables; images = newer ++ older }) (slice_set chains slot [])
  pub finishes : FinishesAmong newer mine older db (record { space = space; tables = db.tables; images = newer ++ older })

-- old rows may be fewer
holds_fewer : (pages : ℕ) (contents : Contents) (db : Database) (chains : List Chain) (images : List FileImage) → Holds pages contents db chains → AllByRecursion (IsFileImage db.tables) images → Holds pages contents (record { space = db.space; tables = db.tables; images = images }) chains
holds_fewer pages contents db chains images was all = record {
  kept = record {
    catalogue = was.kept.catalogue;
    each = was.kept.each;
    noted = all;
    owner = was.kept.owner;
    shared = was.kept.shared;
    trees = was.kept.trees;
    known = was.kept.known;
  };
  directory = was.directory;
  stands = was.stands;
  stacks = was.stacks;
}

-- no other slot names the key of one of these
abbrev AreFreeIn : List OldImage → ℕ → List Chain → Type 0
AreFreeIn images slot chains = AllByRecursion (λ (image : OldImage). IsFreeIn image slot chains) images

all_free : (chains : List Chain) (slot : ℕ) (images : List OldImage) → ((other : ℕ) (more : Chain) → slot ≢ other → slice_get chains other ≡ Some more → AllByRecursion (λ (image : OldImage). list_any (are_of_one image) (images_of more) ≡ false) images) → AreFreeIn images slot chains
all_free chains slot [] each = tt
all_free chains slot (i ∷ images) each = ((λ other more differ got. (each other more differ got).0), all_free chains slot images (λ other more differ got. (each other more differ got).1))

all_turned : (P : OldImage → Type 0) (xs : List OldImage) → AllByRecursion P xs → AllByRecursion P (reverse xs)
all_turned P [] all = tt
all_turned P (x ∷ xs) all = subst (λ (images : List OldImage). AllByRecursion P images) (sym (reverse-append (x ∷ []) xs)) (joined (reverse xs) (all_turned P xs all.1))
  where
    joined : (ys : List OldImage) → AllByRecursion P ys → AllByRecursion P (ys ++ x ∷ [])
    joined [] rest = (all.0, tt)
    joined (y ∷ ys) rest = (rest.0, joined ys rest.1)

-- the one of these that is of the key
named_one : (P : OldImage → Type 0) (place : ℕ) (key : ℤ) (images : List FileImage) → AllByRecursion P (map old_of images) → list_any (names place key) images ≡ true → (i : FileImage) × (names place key i ≡ true) × P i.image
named_one P place key [] all is = cc
named_one P place key (i ∷ images) all is = by (names place key i) refl is (λ there. named_one P place key images all.1 there)
  where
    by : (b : Bool) → names place key i ≡ b → (b || list_any (names place key) images) ≡ true → (list_any (names place key) images ≡ true → (i : FileImage) × (names place key i ≡ true) × P i.image) → (i : FileImage) × (names place key i ≡ true) × P i.image
    by true here there below = (i, here, all.0)
    by false here there below = below there

named_at : (place : ℕ) (key : ℤ) (i : FileImage) → names place key i ≡ true → (i.image.table ≡ suc place) × (i.image.key ≡ key)
named_at place key i is = (table_at i.image.table (suc place) (first (i.image.table == suc place) (int_eq i.image.key key) is), key_at i.image.key key (second (i.image.table == suc place) (int_eq i.image.key key) is))
  where
    first : (a b : Bool) → (a && b) ≡ true → a ≡ true
    first true b is = refl
    first false b is = is

    second : (a b : Bool) → (a && b) ≡ true → b ≡ true
    second true b is = is
    second false b is = let bad : false ≡ true = is in absurd (let no : ⊥ = cc in no)

    table_at : (a b : ℕ) → (a == b) ≡ true → a ≡ b
    table_at a b is = grind (arith, nat_tests, is)

    key_at : (a b : ℤ) → int_eq a b ≡ true → a ≡ b
    key_at a b is = grind (arith, ints, is)

pub finished_file : (pages : ℕ) (old new : Contents) (db : Database) (chains : List Chain) (slot : ℕ) (chain : Chain) → ChainedFile pages old db chains → AreDisjoint chains → slice_get chains slot ≡ Some chain
    → Restacks pages old new (map ends_of chains) slot chain [] (with_chain (pages_of chain) db.space) [] → FinishedFile pages new db chains slot chain (with_chain (pages_of chain) db.space)
finished_file pages old new db chains slot chain file apart is call =
    let s : Space = with_chain (pages_of chain) db.space in
    let d = divided db.images (newer_of slot chains) (reverse (images_of chain) ++ older_of slot chains) (file.noted ∙ in_order chains slot chain is) in
    let e = divided d.rest (reverse (images_of chain)) (older_of slot chains) d.rest_are in
    let parts : db.images ≡ d.front ++ (e.front ++ e.rest) = d.is ∙ ap (λ (rest : List FileImage). d.front ++ rest) e.is in
    let noted = all_back (IsFileImage db.tables) d.front (e.front ++ e.rest) (subst (λ (images : List FileImage). AllByRecursion (IsFileImage db.tables) images) parts file.holds.kept.noted) in
    let noted_rest = all_back (IsFileImage db.tables) e.front e.rest noted.1 in
    let held = finished_holds pages old new db chains slot chain file.holds is call in
    let holds = holds_fewer pages new (with_space db s) (slice_set chains slot []) (d.front ++ e.rest) held (all_joined (IsFileImage db.tables) d.front e.rest noted.0 noted_rest.1) in
    let free : AreFreeIn (images_of chain) slot chains = all_free chains slot (images_of chain) (λ other more differ got. apart slot other chain more differ is got) in
    let mine_free : AreFreeIn (map old_of e.front) slot chains = subst (λ (images : List OldImage). AreFreeIn images slot chains) (sym e.front_are) (all_turned (λ (image : OldImage). IsFreeIn image slot chains) (images_of chain) free) in
    record {
      newer = d.front;
      mine = e.front;
      older = e.rest;
      newer_are = d.front_are;
      mine_are = e.front_are;
      file = record {
        holds = holds;
        noted = map_both d.front e.rest ∙ (λ k. d.front_are k ++ e.rest_are k) ∙ sym (stands_in_order chains slot chain [] is);
      };
      finishes = record {
        tables = refl;
        was = parts;
        noted = refl;
        apart = λ place key named. (
            let one = named_one (λ (image : OldImage). IsFreeIn image slot chains) place key e.front mine_free named in
            let at = named_at place key one.0 one.1 in (
              unnamed_of place key one.0.image d.front at.0 at.1 (subst (λ (images : List OldImage). list_any (are_of_one one.0.image) images ≡ false) (sym d.front_are) (newer_free (are_of_one one.0.image) chains slot one.2)),
              unnamed_of place key one.0.image e.rest at.0 at.1 (subst (λ (images : List OldImage). list_any (are_of_one one.0.image) images ≡ false) (sym e.rest_are) (older_free (are_of_one one.0.image) chains slot one.2)),
            )
            );
      };
    }
  where
    all_joined : (P : FileImage → Type 0) (xs ys : List FileImage) → AllByRecursion P xs → AllByRecursion P ys → AllByRecursion P (xs ++ ys)
    all_joined P [] ys first second = second
    all_joined P (x ∷ xs) ys first second = (first.0, all_joined P xs ys first.1 second)

-- ---- a marked row goes that no old row was noted of

pub record DroppedFile (pages : ℕ) (new : Contents) (db : Database) (chains : List Chain) (place : ℕ) (key : ℤ) (now : FileTable) : Type 0 where
  pub file : ChainedFile pages new (with_table db place now db.space db.images) chains
  pub dropped : IsDropped place key db (with_table db place now db.space db.images)

pub dropped_file : (pages : ℕ) (old new : Contents) (db : Database) (chains : List Chain) (place : ℕ) (t : FileTable) (key : ℤ) (row : FileRow) → ChainedFile pages old db chains → slice_get db.tables place ≡ Some t
    → found row_key key t.rows ≡ Some row → row.stored.marked ≡ true → IsUnnamed place key db.images → IsEdited pages old new (suc place) t.def.root.0 t.tree (without key)
    → DroppedFile pages new db chains place key (table_now t (on_leaves (without key) t.tree) (placed row_key key None t.rows))
dropped_file pages old new db chains place t key row file there is marked free edited =
    let rises = rises_in pages old db place t file.holds.kept there in
    let tree : Tree = on_leaves (without key) t.tree in
    let rows : List FileRow = placed row_key key None t.rows in
    let change = edited_regrown pages old new db place t (without key) rows (drops_at key) file.holds.kept there edited (exchanged_rows key None t.rows)
    (each_placed row_key (IsFileRow t.def.schema) key None t.rows tt (file.holds.kept.each place t there).each) in
    record {
      file = record {
        holds = regrown_holds pages old new db chains place t tree rows 0 db.space.bytes db.images file.holds there change (images_dropped db.tables place t tree key db.images there rises free file.holds.kept.noted);
        noted = file.noted;
      };
      dropped = record {
        row = row;
        stood = ap (stood key) there ∙ is;
        marked = marked;
        free = free;
        exchanges = record { table = t; is_there = there; tree = tree; tables = refl };
        images = refl;
        space = refl;
      };
    }
