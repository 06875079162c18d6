-- What the calls on the chain of a slot leave of a database and chains beside each other.
use Rattle.std.proofs.Common.{◌≡◌, ◌≢◌, ℕ, zero, suc, ◌+◌, ◌<◌, ◌≤◌, ◌==◌, ◌||◌, Bool, true, false, List, [], ◌∷◌, ◌++◌, length, map, Some, refl, sym, ◌∙◌, ap, subst, arith, if◌then◌else◌}
use Rattle.std.specs.Prelude.{All, get_or, nat_lt, set, slice_get, slice_set}
use Rattle.std.proofs.lemmas.Bool.Decides.{nat_tests}
use Rattle.std.proofs.lemmas.List.{append-nil, length-map}
use Rattle.isp_base.specs.Lists.{times}
use Rattle.isp_format.specs.Ranges.{Contents, page_of}
use Rattle.isp_format.specs.Undo.{IsUndoDirectory, OldImage, Slot as Ends}
use Rattle.isp_page.specs.State.{is_among}
use Rattle.isp_space.specs.Giving.{with_chain}
use Rattle.isp_space.specs.Spaces.{Space, next_free, taken}
use Rattle.isp_clustered.specs.Trees.{pages_of as tree_pages}
use Rattle.isp_image.specs.Databases.{Database, FileTable}
use Rattle.isp_image.specs.Files.{Owner, Owns, OwnsSpace, is_known, is_owner, nobody, of_free, of_slot, of_table}
use Rattle.isp_format.specs.Doublewrite.{AreDistinct}
use Rattle.isp_image.proofs.ListLaws.{all_of, counted, map_set, page_itself}
use Rattle.isp_image.proofs.OwnerLaws.{given, has_owner}
use Rattle.isp_undo.specs.Calls.{HasStack, Restacks, page_taken, space_after}
use Rattle.isp_undo.specs.Chains.{Chain, ends_of, gone, pages_of, popped, pushed, takes_page}
use Rattle.isp_undo_walks.proofs.LinkLaws.{pages_all}
use Rattle.isp_undo_walks.proofs.PageLaws.{both_out, other_page}
use Rattle.isp_undo.proofs.PushLaws.{from_of}
use Rattle.isp_undo.proofs.StackLaws.{popped_pages, pushed_pages}
use Rattle.isp_chained.specs.Chained.{Holds}
use Rattle.isp_chained.specs.Laws.{with_space}
use Rattle.isp_chained.proofs.HoldLaws.{get_below, Spares, restacked_holds}
use Rattle.isp_chained.proofs.OwnerLaws.{among_times, back_shared, back_shrinks, back_stays, free_slot, free_table, given_back, given_grows, given_stays, next_other, slot_free, slot_is, slot_table, slot_taken, slots_differ}

bool_bad : false ≡ true → ⊥
bool_bad is = cc

set_is : (xs : List Ends) (n : ℕ) (y : Ends) → set xs n y ≡ slice_set xs n y
set_is [] n y = refl
set_is (x ∷ xs) zero y = refl
set_is (x ∷ xs) (suc n) y = ap (λ (ends : List Ends). x ∷ ends) (set_is xs n y)

-- the directory, as the list of chains has it
directory_is : (bytes : List ℕ) (chains : List Chain) (slot : ℕ) (after : Chain) → IsUndoDirectory bytes (set (map ends_of chains) slot (ends_of after)) → IsUndoDirectory bytes (map ends_of (slice_set chains slot after))
directory_is bytes chains slot after is = subst (λ (slots : List Ends). IsUndoDirectory bytes slots) (set_is (map ends_of chains) slot (ends_of after) ∙ sym (map_set ends_of chains slot after)) is

-- pages of somebody else aren't those of a slot, nor free ones
spares_of : (owner : ℕ → Owner) (slot : ℕ) (s : Space) (xs : List ℕ) → OwnsSpace owner s → All (λ x. 16 ≤ x) xs → ((page : ℕ) → is_among page xs ≡ true → ((n : ℕ) → is_owner (of_table n) (owner page) ≡ false) × ((n : ℕ) → slot ≢ n → is_owner (of_slot n) (owner page) ≡ false)) → Spares owner slot (0 ∷ 1 ∷ xs)
spares_of owner slot s xs shared from each = record {
  catalogue = λ page low high. heads_out page xs (λ same. omega (arith, low, same)) (λ same. omega (arith, low, same)) (low_out page xs high from);
  tables = λ n page mine. others (is_owner (of_table n) (owner page)) page mine (λ there. (each page there).0 n) (λ none. ap (is_owner (of_table n)) none);
  slots = λ n page differ mine. others (is_owner (of_slot n) (owner page)) page mine (λ there. (each page there).1 n differ) (λ none. ap (is_owner (of_slot n)) none);
}
  where
    heads_out : (page : ℕ) (xs : List ℕ) → (page ≡ 0 → ⊥) → (page ≡ 1 → ⊥) → is_among page xs ≡ false → is_among page (0 ∷ 1 ∷ xs) ≡ false
    heads_out page xs not_0 not_1 out = both_out (0 == page) ((1 == page) || is_among page xs) (other_page 0 page (λ same. not_0 (sym same))) (both_out (1 == page) (is_among page xs) (other_page 1 page (λ same. not_1 (sym same))) out)

    low_out : (page : ℕ) (xs : List ℕ) → page < 16 → All (λ x. 16 ≤ x) xs → is_among page xs ≡ false
    low_out page [] low all = refl
    low_out page (x ∷ xs) low all = both_out (x == page) (is_among page xs) (other_page x page (λ same. let at = all 0 x (omega arith) in omega (arith, at, low, same))) (low_out page xs low (λ k d h. all (suc k) d (omega (arith, h))))

    others : (m : Bool) (page : ℕ) → m ≡ true → (is_among page xs ≡ true → m ≡ false) → (owner page ≡ nobody → m ≡ false) → is_among page (0 ∷ 1 ∷ xs) ≡ false
    others m page mine there none =
        heads_out page xs (λ same. bool_bad (sym (none (ap owner same ∙ shared.first 0 (omega arith))) ∙ mine)) (λ same. bool_bad (sym (none (ap owner same ∙ shared.first 1 (omega arith))) ∙ mine)) (by (is_among page xs) refl)
      where
        by : (b : Bool) → is_among page xs ≡ b → is_among page xs ≡ false
        by true is = absurd (bool_bad (sym (there is) ∙ mine))
        by false is = is

-- ---- one image more

-- who has which page then
abbrev pub owner_after : Bool → ℕ → ℕ → (ℕ → Owner) → ℕ → Owner
owner_after true slot next owner = given (of_slot slot) next owner
owner_after false slot next owner = owner

mine_apart : (owner : ℕ → Owner) (slot : ℕ) (xs : List ℕ) → Owns owner (of_slot slot) xs → (page : ℕ) → is_among page xs ≡ true → ((n : ℕ) → is_owner (of_table n) (owner page) ≡ false) × ((n : ℕ) → slot ≢ n → is_owner (of_slot n) (owner page) ≡ false)
mine_apart owner slot xs mine page there =
    let has = has_owner owner (of_slot slot) xs page mine (among_times page xs there) in
    (λ n. slot_table slot n (owner page) has, λ n differ. slots_differ slot n differ (owner page) has)

pub pushed_holds : (pages : ℕ) (old new : Contents) (db : Database) (chains : List Chain) (slot : ℕ) (chain : Chain) (image : OldImage) → Holds pages old db chains → slice_get chains slot ≡ Some chain
    → Restacks pages old new (map ends_of chains) slot chain (pushed (next_free db.space) image chain) (space_after image chain db.space) (page_taken image chain db.space)
    → Holds pages new (with_space db (space_after image chain db.space)) (slice_set chains slot (pushed (next_free db.space) image chain))
pushed_holds pages old new db chains slot chain image was is call =
    let after : Chain = pushed (next_free db.space) image chain in
    let owner : ℕ → Owner = owner_after (takes_page image chain) slot (next_free db.space) was.kept.owner in
    let pages_are : pages_of after ≡ pages_of chain ++ page_taken image chain db.space = pushed_pages (next_free db.space) image chain in
    let shared = shared_by (takes_page image chain) in
    let mine : Owns owner (of_slot slot) (pages_of chain ++ page_taken image chain db.space) = mine_by (takes_page image chain) in
    restacked_holds pages old new db chains slot chain after (space_after image chain db.space) owner (0 ∷ 1 ∷ (pages_of chain ++ page_taken image chain db.space)) was (record {
      is_there = is;
      directory = directory_is (page_of new 1) chains slot after call.stack.stack.directory;
      stands = call.stack.stack.stands;
      space = call.stack.space;
      tables = tables_by (takes_page image chain);
      keeps = call.others;
      spares = spares_of owner slot (space_after image chain db.space) (pages_of chain ++ page_taken image chain db.space) shared (subst (λ (xs : List ℕ). All (λ x. 16 ≤ x) xs) pages_are (from_of pages new after call.stack.stack.stands)) (mine_apart owner slot (pages_of chain ++ page_taken image chain db.space) mine);
      shared = shared;
      trees = λ place t got. trees_by (takes_page image chain) place t got;
      own = subst (λ (xs : List ℕ). Owns owner (of_slot slot) xs) (sym pages_are) mine;
      others = λ n c differ got. others_by (takes_page image chain) n c differ got;
      known = λ page. known_by (takes_page image chain) page;
    })
  where
    from : 16 ≤ db.space.fresh
    from = was.kept.catalogue.space_is.fresh_from

    shared_by : (b : Bool) → OwnsSpace (owner_after b slot (next_free db.space) was.kept.owner) (if b then taken db.space else db.space)
    shared_by true = slot_taken was.kept.owner slot db.space was.kept.shared from
    shared_by false = was.kept.shared

    mine_by : (b : Bool) → Owns (owner_after b slot (next_free db.space) was.kept.owner) (of_slot slot) (pages_of chain ++ (if b then next_free db.space ∷ [] else []))
    mine_by true = given_grows was.kept.owner (of_slot slot) (next_free db.space) (pages_of chain) (slot_is slot) (next_other was.kept.owner (of_slot slot) db.space (free_slot slot) refl was.kept.shared) (was.stacks slot chain is)
    mine_by false = subst (λ (xs : List ℕ). Owns was.kept.owner (of_slot slot) xs) (sym (append-nil (pages_of chain))) (was.stacks slot chain is)

    few : slot < 32
    few = let less = get_below chains slot chain is in let long = was.directory.count in let same = length-map chains ends_of in omega (arith, less, long, same)

    known_by : (b : Bool) (page : ℕ) → is_known (length db.tables) (owner_after b slot (next_free db.space) was.kept.owner page) ≡ true
    known_by true page = by (next_free db.space == page)
      where
        by : (b : Bool) → is_known (length db.tables) (if b then of_slot slot else was.kept.owner page) ≡ true
        by true = grind (arith, nat_tests, few)
        by false = was.kept.known page
    known_by false page = was.kept.known page

    tables_by : (b : Bool) → ◌≡◌ {A = ℕ} ((if b then taken db.space else db.space).tables) db.space.tables
    tables_by true = refl
    tables_by false = refl

    trees_by : (b : Bool) (place : ℕ) (t : FileTable) → slice_get db.tables place ≡ Some t → Owns (owner_after b slot (next_free db.space) was.kept.owner) (of_table (suc place)) (tree_pages t.tree)
    trees_by true place t got = given_stays was.kept.owner (of_slot slot) (of_table (suc place)) (next_free db.space) (tree_pages t.tree) refl (next_other was.kept.owner (of_table (suc place)) db.space (free_table (suc place)) refl was.kept.shared) (was.kept.trees place t got)
    trees_by false place t got = was.kept.trees place t got

    others_by : (b : Bool) (n : ℕ) (c : Chain) → (slot ≡ n → ⊥) → slice_get chains n ≡ Some c → Owns (owner_after b slot (next_free db.space) was.kept.owner) (of_slot n) (pages_of c)
    others_by true n c differ got = given_stays was.kept.owner (of_slot slot) (of_slot n) (next_free db.space) (pages_of c) (slots_differ slot n differ (of_slot slot) (slot_is slot)) (next_other was.kept.owner (of_slot n) db.space (free_slot n) refl was.kept.shared) (was.stacks n c got)
    others_by false n c differ got = was.stacks n c got

-- ---- pages are given back

pub given_holds : (pages : ℕ) (old new : Contents) (db : Database) (chains : List Chain) (slot : ℕ) (chain after : Chain) (back : List ℕ) → Holds pages old db chains → slice_get chains slot ≡ Some chain → pages_of after ++ back ≡ pages_of chain
    → Restacks pages old new (map ends_of chains) slot chain after (with_chain back db.space) [] → Holds pages new (with_space db (with_chain back db.space)) (slice_set chains slot after)
given_holds pages old new db chains slot chain after back was is parts call =
    let mine : Owns was.kept.owner (of_slot slot) (pages_of after ++ back) = subst (λ (xs : List ℕ). Owns was.kept.owner (of_slot slot) xs) (sym parts) (was.stacks slot chain is) in
    let owner : ℕ → Owner = given_back back was.kept.owner in
    let shared = back_shared was.kept.owner slot (pages_of after) back db.space mine was.kept.shared in
    restacked_holds pages old new db chains slot chain after (with_chain back db.space) owner (0 ∷ 1 ∷ (pages_of chain ++ [])) was (record {
      is_there = is;
      directory = directory_is (page_of new 1) chains slot after call.stack.stack.directory;
      stands = call.stack.stack.stands;
      space = call.stack.space;
      tables = refl;
      keeps = call.others;
      spares = spares_of owner slot (with_chain back db.space) (pages_of chain ++ []) shared (subst (λ (xs : List ℕ). All (λ x. 16 ≤ x) xs) (sym (append-nil (pages_of chain))) (from_of pages old chain (was.stands slot chain is)))
          (λ page there. apart_by page (is_among page back) (mine_apart was.kept.owner slot (pages_of chain) (was.stacks slot chain is) page (subst (λ (xs : List ℕ). is_among page xs ≡ true) (append-nil (pages_of chain)) there)));
      shared = shared;
      trees = λ place t got. back_stays was.kept.owner slot (pages_of after) back (of_table (suc place)) (tree_pages t.tree) refl (slot_table slot (suc place)) mine (was.kept.trees place t got);
      own = back_shrinks was.kept.owner slot (pages_of after) back mine;
      others = λ n c differ got. back_stays was.kept.owner slot (pages_of after) back (of_slot n) (pages_of c) refl (slots_differ slot n differ) mine (was.stacks n c got);
      known = λ page. known_by page (is_among page back);
    })
  where
    known_by : (page : ℕ) (b : Bool) → is_known (length db.tables) (if b then of_free else was.kept.owner page) ≡ true
    known_by page true = refl
    known_by page false = was.kept.known page

    apart_by : (page : ℕ) (b : Bool) → ((n : ℕ) → is_owner (of_table n) (was.kept.owner page) ≡ false) × ((n : ℕ) → slot ≢ n → is_owner (of_slot n) (was.kept.owner page) ≡ false)
        → ((n : ℕ) → is_owner (of_table n) (if b then of_free else was.kept.owner page) ≡ false) × ((n : ℕ) → slot ≢ n → is_owner (of_slot n) (if b then of_free else was.kept.owner page) ≡ false)
    apart_by page true was = (λ n. refl, λ n differ. refl)
    apart_by page false was = was

pub popped_holds : (pages : ℕ) (old new : Contents) (db : Database) (chains : List Chain) (slot : ℕ) (chain : Chain) → Holds pages old db chains → slice_get chains slot ≡ Some chain
    → Restacks pages old new (map ends_of chains) slot chain (popped chain) (with_chain (gone chain) db.space) [] → Holds pages new (with_space db (with_chain (gone chain) db.space)) (slice_set chains slot (popped chain))
popped_holds pages old new db chains slot chain was is call = given_holds pages old new db chains slot chain (popped chain) (gone chain) was is (popped_pages chain) call

pub finished_holds : (pages : ℕ) (old new : Contents) (db : Database) (chains : List Chain) (slot : ℕ) (chain : Chain) → Holds pages old db chains → slice_get chains slot ≡ Some chain
    → Restacks pages old new (map ends_of chains) slot chain [] (with_chain (pages_of chain) db.space) [] → Holds pages new (with_space db (with_chain (pages_of chain) db.space)) (slice_set chains slot [])
finished_holds pages old new db chains slot chain was is call = given_holds pages old new db chains slot chain [] (pages_of chain) was is refl call

-- ---- the stack of a slot

times_at : (xs : List ℕ) (k d : ℕ) → k < length xs → 1 ≤ times (get_or xs k d) xs
times_at [] k d h = absurd (omega (arith, h))
times_at (x ∷ xs) zero d h = let one : counted (x == x) ≡ 1 = ap counted (page_itself x) in omega (arith, one)
times_at (x ∷ xs) (suc k) d h = let rest = times_at xs k d (omega (arith, h)) in omega (arith, rest)

distinct_by_times : (xs : List ℕ) → ((page : ℕ) → times page xs ≤ 1) → AreDistinct xs
distinct_by_times [] few = tt
distinct_by_times (x ∷ xs) few = (
  λ k d h same. (let there = times_at xs k d h in let here : 1 ≤ times x xs = subst (λ (n : ℕ). 1 ≤ times n xs) (sym same) there in let one : counted (x == x) ≡ 1 = ap counted (page_itself x) in let most = few x in omega (arith, here, one, most)),
  distinct_by_times xs (λ page. (let most = few page in omega (arith, most))),
)

few_of : (owner : ℕ → Owner) (who : Owner) (xs : List ℕ) (page : ℕ) → Owns owner who xs → times page xs ≤ 1
few_of owner who xs page has = by (is_owner who (owner page)) (has page)
  where
    by : (b : Bool) → times page xs ≡ counted b → times page xs ≤ 1
    by true is = omega (arith, is)
    by false is = omega (arith, is)

times_both : (page : ℕ) (xs ys : List ℕ) → times page (xs ++ ys) ≡ times page xs + times page ys
times_both page [] ys = omega arith
times_both page (x ∷ xs) ys = let rest = times_both page xs ys in omega (arith, rest)

ends_there : (chains : List Chain) (slot : ℕ) (chain : Chain) → slice_get chains slot ≡ Some chain → get_or (map ends_of chains) slot (0, 0) ≡ ends_of chain
ends_there [] slot chain is = cc
ends_there (c ∷ chains) zero chain is = ap ends_of (some_chain c chain is)
  where
    some_chain : (c chain : Chain) → Some c ≡ Some chain → c ≡ chain
    some_chain c chain is = cc
ends_there (c ∷ chains) (suc slot) chain is = ends_there chains slot chain is

-- what the calls on the chain of a slot stand on
pub stack_of : (pages : ℕ) (contents : Contents) (db : Database) (chains : List Chain) (slot : ℕ) (chain : Chain) → Holds pages contents db chains → slice_get chains slot ≡ Some chain → HasStack pages contents (map ends_of chains) slot chain db.space
stack_of pages contents db chains slot chain was is =
    let stands = was.stands slot chain is in
    let mine = was.stacks slot chain is in
    record {
      stack = record {
        directory = was.directory;
        ends = ends_there chains slot chain is;
        stands = stands;
      };
      space = was.kept.catalogue.space_is;
      apart = record {
        used = pages_all (λ x. x < db.space.fresh) chain (all_of (λ page. page < db.space.fresh) (pages_of chain) (λ page some. below page (has_owner was.kept.owner (of_slot slot) (pages_of chain) page mine some)));
        once = distinct_by_times (pages_of chain ++ db.space.free) (λ page. once page);
      };
    }
  where
    below : (page : ℕ) → is_owner (of_slot slot) (was.kept.owner page) ≡ true → page < db.space.fresh
    below page mine = by (nat_lt page db.space.fresh) refl
      where
        by : (b : Bool) → nat_lt page db.space.fresh ≡ b → page < db.space.fresh
        by true less = grind (arith, nat_tests, less)
        by false far = let from : db.space.fresh ≤ page = grind (arith, nat_tests, far) in absurd (bool_bad (sym (ap (is_owner (of_slot slot)) (was.kept.shared.never page from)) ∙ mine))

    once : (page : ℕ) → times page (pages_of chain ++ db.space.free) ≤ 1
    once page = by (is_owner (of_slot slot) (was.kept.owner page)) refl
      where
        mine : Owns was.kept.owner (of_slot slot) (pages_of chain)
        mine = was.stacks slot chain is

        by : (b : Bool) → is_owner (of_slot slot) (was.kept.owner page) ≡ b → times page (pages_of chain ++ db.space.free) ≤ 1
        by true has =
            let none : times page db.space.free ≡ 0 = was.kept.shared.free page ∙ ap counted (slot_free slot (was.kept.owner page) has) in
            let few = few_of was.kept.owner (of_slot slot) (pages_of chain) page mine in
            let sum = times_both page (pages_of chain) db.space.free in
            omega (arith, none, few, sum)
        by false has =
            let none : times page (pages_of chain) ≡ 0 = mine page ∙ ap counted has in
            let few = few_of was.kept.owner of_free db.space.free page was.kept.shared.free in
            let sum = times_both page (pages_of chain) db.space.free in
            omega (arith, none, few, sum)
