-- Entries that stand in the bytes of a page, gone over from the first to the last.
use Rattle.std.proofs.Common.{◌≡◌, ℕ, suc, ◌+◌, ◌*◌, ℤ, Bool, true, false, List, [], ◌∷◌, ◌++◌, length, Option, Some, None, refl, sym, ◌∙◌, ap, arith, if◌then◌else◌}
use Rattle.std.specs.Prelude.{int_le}
use Rattle.std.specs.Int.{cast_signed, cast_unsigned, w64}
use Rattle.std.specs.List.{flat_map}
use Rattle.std.proofs.lemmas.Int.{to_z-of_z}
use Rattle.std.proofs.lemmas.List.{append_assoc}
use Rattle.isp_disk.specs.Moments.{Image, image_of, slice}
use Rattle.isp_format.specs.Inner.{IsInnerPage, Name, name_bytes}
use Rattle.isp_format.specs.Leaf.{key_bytes}
use Rattle.isp_format.specs.Numbers.{bytes_of, number_at}
use Rattle.isp_format.proofs.Parts.{number_next}
use Rattle.isp_levels.specs.Inners.{NamesStand, page_in_name}
use Rattle.isp_levels.specs.Levels.{or_else, pick}
use Rattle.isp_cells.proofs.CellLaws.{key_small}

pub record FirstName (image : Image) (at : ℕ) (name : Name) (names : List Name) : Type 0 where
  pub key : cast_signed w64 (number_at 8 image at) ≡ name.0
  pub page : number_at 4 image (at + 8) ≡ name.1
  pub next : NamesStand image (at + 12) names

pub first_name : (image : Image) (at : ℕ) (name : Name) (names : List Name) → NamesStand image at (name ∷ names) → FirstName image at name names
first_name image at name names st =
    let is = st.each 0 name (omega arith) in
    let more : List ℕ = flat_map name_bytes names in
    let left : ℕ = 12 * length names in
    let long : 12 * length (name ∷ names) ≡ 8 + (4 + left) = omega arith in
    let spread : slice image at (8 + (4 + left)) ≡ key_bytes name.0 ++ (bytes_of 4 name.1 ++ more) = ap (slice image at) (sym long) ∙ st.spelled ∙ append_assoc (key_bytes name.0) (bytes_of 4 name.1) more in
    let key = number_next 8 (cast_unsigned w64 name.0) image at (4 + left) (at + 8) (bytes_of 4 name.1 ++ more) (key_small name.0 is.0) refl spread in
    let page = number_next 4 name.1 image (at + 8) left (at + 12) more is.1 (omega arith) key.1 in
    record {
      key = ap (cast_signed w64) key.0 ∙ to_z-of_z w64 name.0 is.0;
      page = page.0;
      next = record {
        spelled = page.1;
        each = λ k d h. st.each (suc k) d (omega (arith, h));
      };
    }

pub names_stand : (bytes : List ℕ) (table own level : ℕ) (names : List Name) → IsInnerPage bytes table own level names → NamesStand (image_of bytes) 64 names
names_stand bytes table own level names is = record { spelled = is.spelled; each = is.each }

or_three : {X : Type 0} (a b c : Option X) → or_else a (or_else b c) ≡ or_else (or_else a b) c
or_three (Some x) b c = refl
or_three None b c = refl

or_none : {X : Type 0} (o : Option X) → or_else o None ≡ o
or_none None = refl
or_none (Some x) = refl

-- so many entries stand ahead, and with what is picked of those before what is picked of them is what is picked of all
pub record Picking (image : Image) (key : ℤ) (all : List Name) (at left : ℕ) (found : Option ℕ) : Type 0 where
  pub rest : List Name
  pub stand : NamesStand image at rest
  pub so_far : Option Name
  pub found_is : found ≡ page_in_name so_far
  pub whole : or_else (pick key rest) so_far ≡ pick key all
  pub count : length rest ≡ left

pub pick_begins : (bytes : List ℕ) (table own level : ℕ) (key : ℤ) (names : List Name) (left : ℕ) → IsInnerPage bytes table own level names → left ≡ length names → Picking (image_of bytes) key names 64 left None
pick_begins bytes table own level key names left is count = record {
  rest = names;
  stand = names_stand bytes table own level names is;
  so_far = None;
  found_is = refl;
  whole = or_none (pick key names);
  count = sym count;
}

pub pick_on : (image : Image) (key : ℤ) (all : List Name) (at left fewer : ℕ) (found now : Option ℕ) → left ≡ suc fewer → Picking image key all at left found
    → now ≡ (if int_le (cast_signed w64 (number_at 8 image at)) key then Some (number_at 4 image (at + 8)) else found) → Picking image key all (at + 12) fewer now
pick_on image key all at left fewer found now left_is p now_is = by p.rest p.stand p.whole p.count
  where
    step : (name : Name) (b : Bool) → found ≡ page_in_name p.so_far → (if b then Some name.1 else found) ≡ page_in_name (or_else (if b then Some name else None) p.so_far)
    step name true is = refl
    step name false is = is

    by : (rest : List Name) → NamesStand image at rest → or_else (pick key rest) p.so_far ≡ pick key all → length rest ≡ left → Picking image key all (at + 12) fewer now
    by [] st whole count = let none : 0 ≡ left = count in absurd (omega (arith, none, left_is))
    by (name ∷ rest) st whole count =
        let f = first_name image at name rest st in
        let long : suc (length rest) ≡ left = count in
        let here : Option Name = if int_le name.0 key then Some name else None in
        record {
          rest = rest;
          stand = f.next;
          so_far = or_else here p.so_far;
          found_is = now_is ∙ (λ i. if int_le (f.key i) key then Some (f.page i) else found) ∙ step name (int_le name.0 key) p.found_is;
          whole = or_three (pick key rest) here p.so_far ∙ whole;
          count = omega (arith, long, left_is);
        }

pub pick_ends : (image : Image) (key : ℤ) (all : List Name) (at left : ℕ) (found : Option ℕ) → left ≡ 0 → Picking image key all at left found → found ≡ page_in_name (pick key all)
pick_ends image key all at left found none p = by p.rest p.whole p.count
  where
    by : (rest : List Name) → or_else (pick key rest) p.so_far ≡ pick key all → length rest ≡ left → found ≡ page_in_name (pick key all)
    by [] whole count = p.found_is ∙ ap page_in_name whole
    by (name ∷ rest) whole count = let some : suc (length rest) ≡ left = count in absurd (omega (arith, some, none))
