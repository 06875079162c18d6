-- An empty file is kept, and stands for no table.
use Rattle.std.proofs.Common.{◌≡◌, ℕ, zero, suc, ◌*◌, ◌^◌, ◌<◌, List, length, get_or, replicate, Some, None, refl, sym, ap, subst, arith}
use Rattle.std.specs.Prelude.{All}
use Rattle.std.specs.List.{flat_map}
use Rattle.isp_disk.specs.Moments.{image_of, slice}
use Rattle.isp_format.specs.Control.{IsPages}
use Rattle.isp_format.specs.Empty.{empty_contents, first_fresh, first_header}
use Rattle.isp_format.specs.Header.{header_of}
use Rattle.isp_format.specs.Kinds.{content_place}
use Rattle.isp_format.specs.Ranges.{Contents, page_bytes, page_of}
use Rattle.isp_format.specs.Space.{IsSpacePage, SpacePage, space_bytes, space_size}
use Rattle.isp_format.specs.Undo.{IsSlot, IsUndoDirectory, slot_bytes}
use Rattle.isp_format.proofs.Slices.{slice_agree}
use Rattle.isp_space.specs.Spaces.{space_page}
use Rattle.isp_image.specs.Files.{KeptFile, Owner, OwnsSpace, nobody}
use Rattle.isp_chained.specs.Chained.{no_slots}
use Rattle.isp_chained.proofs.PlainLaws.{plain_chained}
use Rattle.isp_file_laws.specs.Kept.{empty_database, empty_space}
use Rattle.isp_file_laws.specs.Laws.{EmptyIsKept, EmptyStandsForNone}

-- ---- its first two pages, by computation

empty_numbers : SpacePage
empty_numbers = record { free_head = 0; free_count = 0; fresh = 16; tables = 0; entries = 0; bytes = 0 }

first_head : header_of (page_of empty_contents 0) ≡ first_header 0
unfolding empty_contents page_of
first_head = refl

first_numbers : slice (image_of (page_of empty_contents 0)) content_place space_size ≡ space_bytes (space_page empty_space)
unfolding empty_contents page_of
first_numbers = refl

second_head : header_of (page_of empty_contents 1) ≡ first_header 1
unfolding empty_contents page_of
second_head = refl

second_slots : slice (image_of (page_of empty_contents 1)) content_place (length (flat_map slot_bytes no_slots)) ≡ flat_map slot_bytes no_slots
unfolding empty_contents page_of no_slots
second_slots = refl

slots_count : length no_slots ≡ 32
unfolding no_slots
slots_count = refl

small_number : 0 < 256 ^ 4
small_number = omega arith

empty_says : IsSpacePage (page_of empty_contents 0) (space_page empty_space)
empty_says = record {
  head = record {
    kind_is = ap (λ h. h.kind) first_head;
    level_is = ap (λ h. h.level) first_head;
    owner_is = ap (λ h. h.owner) first_head;
    own_is = ap (λ h. h.own) first_head;
  };
  spelled = first_numbers;
  fits = record { free_head = omega arith; free_count = omega arith; fresh = omega arith; tables = omega arith; entries = omega arith; bytes = omega arith };
}

same_slots : (n k : ℕ) (d : ℕ × ℕ) → k < n → get_or (replicate n (0, 0)) k d ≡ (0, 0)
same_slots zero k d inside = absurd (omega (arith, inside))
same_slots (suc n) zero d inside = refl
same_slots (suc n) (suc k) d inside = same_slots n k d (omega (arith, inside))

each_slot : All IsSlot no_slots
unfolding no_slots
each_slot k d inside = subst IsSlot (sym (same_slots 32 k d inside)) (small_number, small_number)

empty_directory : IsUndoDirectory (page_of empty_contents 1) no_slots
empty_directory = record {
  head = record {
    kind_is = ap (λ h. h.kind) second_head;
    level_is = ap (λ h. h.level) second_head;
    owner_is = ap (λ h. h.owner) second_head;
    own_is = ap (λ h. h.own) second_head;
  };
  count = slots_count;
  spelled = second_slots;
  each = each_slot;
}

-- ---- contents that begin so

page_same : (contents : Contents) (page : ℕ) → ((place : ℕ) → place < first_fresh * page_bytes → contents place ≡ empty_contents place) → page < first_fresh → page_of contents page ≡ page_of empty_contents page
unfolding page_of
page_same contents page same below = slice_agree contents empty_contents (page * page_bytes) page_bytes (λ place from to. same place (omega (arith, below, from, to)))

abbrev nobody_has : ℕ → Owner
nobody_has page = nobody

shared : OwnsSpace nobody_has empty_space
shared = record {
  free = λ page. refl;
  first = λ page below. refl;
  used = λ page from below is. let no_way : ⊥ = omega (arith, from, below) in no_way;
  never = λ page from. refl;
}

none_there : {X : Type 0} (x : X) → None ≡ Some x → ⊥
none_there x is = cc

-- as these contents begin
abbrev BeginsEmpty : Contents → Type 0
BeginsEmpty contents = (place : ℕ) → place < first_fresh * page_bytes → contents place ≡ empty_contents place

abbrev empty_kept : (pages : ℕ) (contents : Contents) → IsPages pages → BeginsEmpty contents → KeptFile pages contents empty_database
empty_kept pages contents many same = record {
  catalogue = record {
    space_is = record {
      says = subst (λ (bytes : List ℕ). IsSpacePage bytes (space_page empty_space)) (sym (page_same contents 0 same (omega arith))) empty_says;
      chain = tt;
      inside = λ k d inside. absurd (omega (arith, inside));
      once = tt;
      fresh_from = omega arith;
      fresh_to = let least = many.0 in omega (arith, least);
    };
    count = refl;
    catalogue = record { few = omega arith; each = tt; names = refl };
  };
  each = λ place t is. absurd (none_there t is);
  noted = tt;
  owner = nobody_has;
  shared = shared;
  trees = λ place t is. absurd (none_there t is);
  known = λ page. refl;
}

pub empty_is_kept : EmptyIsKept
empty_is_kept pages contents many same = plain_chained pages contents empty_database (record {
  kept = empty_kept pages contents many same;
  directory = subst (λ (bytes : List ℕ). IsUndoDirectory bytes no_slots) (sym (page_same contents 1 same (omega arith))) empty_directory;
  none = refl;
  slots = λ slot page. refl;
})

pub empty_stands_for_none : EmptyStandsForNone
empty_stands_for_none image contents stands_for same = record {
  contents = contents;
  stands_for = stands_for;
  stands = record { db = empty_database; kept = empty_is_kept _ contents stands_for.control.pages same; stand = refl };
  tidy = tt;
}
