-- Files without chains.
use Rattle.std.proofs.Common.{◌≡◌, ℕ, zero, suc, ◌<◌, ◌≤◌, Bool, true, false, List, [], ◌∷◌, ◌++◌, length, map, Some, refl, sym, ◌∙◌, ap, subst, arith}
use Rattle.std.specs.Prelude.{nat_lt, replicate, reverse, slice_get}
use Rattle.std.proofs.lemmas.Bool.Decides.{nat_tests}
use Rattle.isp_format.specs.Ranges.{Contents, page_of}
use Rattle.isp_format.specs.Undo.{IsUndoDirectory, OldImage, Slot as Ends}
use Rattle.isp_image.specs.Databases.{FileImage, put_back, tables_of}
use Rattle.isp_image.specs.Files.{Owner, is_known, is_owner, nobody, of_free, of_slot, of_table}
use Rattle.isp_image.proofs.ListLaws.{counted}
use Rattle.isp_base.specs.Lists.{times}
use Rattle.isp_undo.specs.Chains.{Chain, IsUndoChain, ends_of, pages_of}
use Rattle.isp_chained.specs.Chained.{images_in, no_chains, no_slots, old_of}
use Rattle.isp_chained.specs.Laws.{ChainedIsPlain, PlainIsChained, PlainStands}

slots_are : map ends_of no_chains ≡ no_slots
unfolding no_chains no_slots
slots_are = refl

copies : {X : Type 0} (n : ℕ) (x y : X) (k : ℕ) → slice_get (replicate n x) k ≡ Some y → y ≡ x
copies zero x y k is = cc
copies (suc n) x y zero is = let same : Some x ≡ Some y = is in cc
copies (suc n) x y (suc k) is = copies n x y k is

pub none_of : (slot : ℕ) (chain : Chain) → slice_get no_chains slot ≡ Some chain → chain ≡ []
unfolding no_chains
none_of slot chain is = copies 32 [] chain slot is

there_at : {X : Type 0} (n : ℕ) (x : X) (k : ℕ) → k < n → slice_get (replicate n x) k ≡ Some x
there_at zero x k less = absurd (omega (arith, less))
there_at (suc n) x zero less = refl
there_at (suc n) x (suc k) less = there_at n x k (omega (arith, less))

pub slot_there : (slot : ℕ) → slot < 32 → slice_get no_chains slot ≡ Some []
unfolding no_chains
slot_there slot less = there_at 32 [] slot less

pub no_images : (n : ℕ) → images_in (replicate n []) ≡ []
no_images zero = refl
no_images (suc n) = ap (λ (images : List OldImage). images ++ reverse []) (no_images n)

none_noted : images_in no_chains ≡ []
unfolding no_chains
none_noted = no_images 32

empty_chain : (pages : ℕ) (contents : Contents) → IsUndoChain pages contents []
empty_chain pages contents = record { linked = tt; inside = λ k d h. absurd (omega (arith, h)); once = tt }

pub plain_chained : PlainIsChained
plain_chained pages contents db is = record {
  holds = record {
    kept = is.kept;
    directory = subst (λ (slots : List Ends). IsUndoDirectory (page_of contents 1) slots) (sym slots_are) is.directory;
    stands = λ slot chain got. subst (λ (c : Chain). IsUndoChain pages contents c) (sym (none_of slot chain got)) (empty_chain pages contents);
    stacks = λ slot chain got page. (ap (λ (c : Chain). times page (pages_of c)) (none_of slot chain got) ∙ sym (ap counted (is.slots slot page)));
  };
  noted = ap (map old_of) is.none ∙ sym none_noted;
}

no_more : (images : List FileImage) → map old_of images ≡ [] → images ≡ []
no_more [] is = refl
no_more (i ∷ images) is = cc

none_counted : (b : Bool) → 0 ≡ counted b → b ≡ false
none_counted true is = absurd (omega (arith, is))
none_counted false is = refl

far_slot : (n tables : ℕ) (w : Owner) → 32 ≤ n → is_known tables w ≡ true → is_owner (of_slot n) w ≡ false
far_slot n tables nobody far known = refl
far_slot n tables of_free far known = refl
far_slot n tables (of_table k) far known = refl
far_slot n tables (of_slot k) far known = grind (arith, nat_tests, known, far)

pub chained_plain : ChainedIsPlain
chained_plain pages contents db is = record {
  kept = is.holds.kept;
  directory = subst (λ (slots : List Ends). IsUndoDirectory (page_of contents 1) slots) slots_are is.holds.directory;
  none = no_more db.images (is.noted ∙ none_noted);
  slots = λ slot page. by slot page (nat_lt slot 32) refl;
}
  where
    by : (slot page : ℕ) (b : Bool) → nat_lt slot 32 ≡ b → is_owner (of_slot slot) (is.holds.kept.owner page) ≡ false
    by slot page true less = none_counted (is_owner (of_slot slot) (is.holds.kept.owner page)) (is.holds.stacks slot [] (slot_there slot (grind (arith, nat_tests, less))) page)
    by slot page false far = far_slot slot (length db.tables) (is.holds.kept.owner page) (grind (arith, nat_tests, far)) (is.holds.kept.known page)

pub plain_stands : PlainStands
plain_stands pages contents db is = record {
  db = db;
  kept = plain_chained pages contents db is;
  stand = ap (λ (images : List FileImage). put_back images (tables_of db)) is.none;
}
