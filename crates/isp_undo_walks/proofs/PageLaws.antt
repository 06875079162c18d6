-- Pages on lists: which are changed, and what stays beside them.
use Rattle.std.proofs.Common.{◌≡◌, ◌≢◌, ◌==◌, ◌||◌, Bool, true, false, ℕ, zero, suc, ◌<◌, ◌≤◌, List, [], ◌∷◌, ◌++◌, get_or, refl, sym, ◌∙◌, ap, subst, arith}
use Rattle.std.specs.Prelude.{All}
use Rattle.std.proofs.lemmas.Bool.Decides.{nat_tests}
use Rattle.isp_format.specs.Doublewrite.{AreDistinct}
use Rattle.isp_format.specs.Ranges.{Contents}
use Rattle.isp_format.specs.Space.{IsSpacePage}
use Rattle.isp_page.proofs.GrowthLaws.{grows_within}
use Rattle.isp_page.specs.State.{is_among}
use Rattle.isp_page.specs.Touched.{AreAmong, KeepsPages}
use Rattle.isp_page.specs.declared.pages.Pages.{Ghosts}
use Rattle.isp_space.proofs.ChangesLaws.{changes_on}
use Rattle.isp_space.specs.Changes.{ChangesOf}
use Rattle.isp_space.specs.Spaces.{IsSpace, Space, space_page}
use Rattle.isp_space.proofs.SpaceLaws.{chain_same}

three : (a b c : Bool) → (a || (b || c)) ≡ ((a || b) || c)
three true b c = refl
three false b c = refl

pub among_append : (page : ℕ) (xs ys : List ℕ) → is_among page (xs ++ ys) ≡ (is_among page xs || is_among page ys)
among_append page [] ys = refl
among_append page (x ∷ xs) ys = ap (λ b. (x == page) || b) (among_append page xs ys) ∙ three (x == page) (is_among page xs) (is_among page ys)

pub neither : (a b : Bool) → (a || b) ≡ false → (a ≡ false) × (b ≡ false)
neither true b bad = cc
neither false b is = (refl, is)

pub both_out : (a b : Bool) → a ≡ false → b ≡ false → (a || b) ≡ false
both_out a b no_a no_b = ap (λ (x : Bool). x || b) no_a ∙ no_b

-- what isn't among more isn't among fewer
pub out_of : (page : ℕ) (list wider : List ℕ) → AreAmong list wider → is_among page wider ≡ false → is_among page list ≡ false
out_of page [] wider all out = refl
out_of page (x ∷ list) wider all out = both_out (x == page) (is_among page list) (by (x == page) refl) (out_of page list wider all.1 out)
  where
    by : (b : Bool) → (x == page) ≡ b → (x == page) ≡ false
    by true is = let same : x ≡ page = grind (arith, nat_tests, is) in let there : is_among page wider ≡ true = ap (λ (q : ℕ). is_among q wider) (sym same) ∙ all.0 in cc
    by false is = is

pub keeps_within : (list wider : List ℕ) (old new : Contents) → AreAmong list wider → KeepsPages (λ page. is_among page list) old new → KeepsPages (λ page. is_among page wider) old new
keeps_within list wider old new all keeps page out = keeps page (out_of page list wider all out)

pub changes_within : {S : Type 0} (g : Ghosts S) (list wider : List ℕ) (old new : S) → AreAmong list wider → ChangesOf g list old new → ChangesOf g wider old new
changes_within g list wider old new all changes = record {
  grows = grows_within list wider (g.mini old) (g.mini new) changes.grows all;
  others = λ tells. keeps_within list wider (g.contents old) (g.contents new) all (changes.others tells);
}

itself : (page : ℕ) → (page == page) ≡ true
itself page = grind arith

either : (a b : Bool) → b ≡ true → (a || b) ≡ true
either true b is = refl
either false b is = is

pub among_here : (page : ℕ) (xs ys : List ℕ) → is_among page (xs ++ page ∷ ys) ≡ true
among_here page [] ys = ap (λ (b : Bool). b || is_among page ys) (itself page)
among_here page (x ∷ xs) ys = either (x == page) (is_among page (xs ++ page ∷ ys)) (among_here page xs ys)

-- what a page that is taken, made and linked changes
pub changes_three : {S : Type 0} (g : Ghosts S) (page last : ℕ) (old taken made linked : S) → ChangesOf g (0 ∷ page ∷ []) old taken → ChangesOf g (page ∷ []) taken made → ChangesOf g (last ∷ []) made linked → ChangesOf g (0 ∷ page ∷ last ∷ []) old linked
changes_three g page last old taken made linked first second third =
    let whole = changes_on g (0 ∷ page ∷ page ∷ []) (last ∷ []) old made linked (changes_on g (0 ∷ page ∷ []) (page ∷ []) old taken made first second) third in
    changes_within g (0 ∷ page ∷ page ∷ last ∷ []) (0 ∷ page ∷ last ∷ []) old linked (refl, (among_here page (0 ∷ []) (last ∷ []), (among_here page (0 ∷ []) (last ∷ []), (among_here last (0 ∷ page ∷ []) [], tt)))) whole

pub among_more : (page : ℕ) (xs ys : List ℕ) → is_among page ys ≡ true → is_among page (xs ++ ys) ≡ true
among_more page [] ys is = is
among_more page (x ∷ xs) ys is = either (x == page) (is_among page (xs ++ ys)) (among_more page xs ys is)

pub among_less : (page : ℕ) (xs ys : List ℕ) → is_among page xs ≡ true → is_among page (xs ++ ys) ≡ true
among_less page [] ys is = cc
among_less page (x ∷ xs) ys is = by (x == page) is (λ there. among_less page xs ys there)
  where
    by : (b : Bool) → (b || is_among page xs) ≡ true → (is_among page xs ≡ true → is_among page (xs ++ ys) ≡ true) → (b || is_among page (xs ++ ys)) ≡ true
    by true there deeper = refl
    by false there deeper = deeper there

pub other_page : (page other : ℕ) → page ≢ other → (page == other) ≡ false
other_page page other differs = by (page == other) refl
  where
    by : (b : Bool) → (page == other) ≡ b → (page == other) ≡ false
    by true is = absurd (differs (grind (arith, nat_tests, is)))
    by false is = is

-- a page that none of these is isn't among them
pub none_among : (page : ℕ) (xs : List ℕ) → All (λ x. (page ≡ x) → ⊥) xs → is_among page xs ≡ false
none_among page [] all = refl
none_among page (x ∷ xs) all = both_out (x == page) (is_among page xs) (other_page x page (λ same. all 0 x (omega arith) (sym same))) (none_among page xs (λ k d h. all (suc k) d (omega (arith, h))))

-- pages below 16 are none that are given away
pub low_among : (page : ℕ) (xs : List ℕ) → page < 16 → All (λ x. 16 ≤ x) xs → is_among page xs ≡ false
low_among page xs low all = none_among page xs (λ k d h same. let from = all k d h in omega (arith, low, from, same))

-- ---- lists of distinct pages

pub distinct_front : (xs ys : List ℕ) → AreDistinct (xs ++ ys) → AreDistinct xs
distinct_front [] ys once = tt
distinct_front (x ∷ xs) ys once = (front xs ys once.0, distinct_front xs ys once.1)
  where
    front : (xs ys : List ℕ) → All (λ other. (x ≡ other) → ⊥) (xs ++ ys) → All (λ other. (x ≡ other) → ⊥) xs
    front [] ys all k d h = absurd (omega (arith, h))
    front (y ∷ xs) ys all zero d h = all 0 d (omega arith)
    front (y ∷ xs) ys all (suc k) d h = front xs ys (λ k d h. all (suc k) d (omega (arith, h))) k d (omega (arith, h))

pub distinct_rest : (xs ys : List ℕ) → AreDistinct (xs ++ ys) → AreDistinct ys
distinct_rest [] ys once = once
distinct_rest (x ∷ xs) ys once = distinct_rest xs ys once.1

-- what holds of all of both holds of all of the second
pub all_rest : (P : ℕ → Type 0) (xs ys : List ℕ) → All P (xs ++ ys) → All P ys
all_rest P [] ys all = all
all_rest P (x ∷ xs) ys all = all_rest P xs ys (λ k d h. all (suc k) d (omega (arith, h)))

-- none of the second list is among the first
pub apart_lists : (xs ys : List ℕ) → AreDistinct (xs ++ ys) → All (λ y. is_among y xs ≡ false) ys
apart_lists [] ys once k d h = refl
apart_lists (x ∷ xs) ys once k d h = both_out (x == get_or ys k d) (is_among (get_or ys k d) xs) (other_page x (get_or ys k d) (all_rest (λ other. (x ≡ other) → ⊥) xs ys once.0 k d h)) (apart_lists xs ys once.1 k d h)

-- one more, which is none of them
pub distinct_more : (xs : List ℕ) (x : ℕ) → AreDistinct xs → All (λ other. (x ≡ other) → ⊥) xs → AreDistinct (xs ++ x ∷ [])
distinct_more [] x once apart = (λ k d h. absurd (omega (arith, h)), tt)
distinct_more (y ∷ xs) x once apart = (all_more xs once.0, distinct_more xs x once.1 (λ k d h. apart (suc k) d (omega (arith, h))))
  where
    all_more : (xs : List ℕ) → All (λ other. (y ≡ other) → ⊥) xs → All (λ other. (y ≡ other) → ⊥) (xs ++ x ∷ [])
    all_more [] all zero d h = λ same. apart 0 y (omega arith) (sym same)
    all_more [] all (suc k) d h = absurd (omega (arith, h))
    all_more (z ∷ xs) all zero d h = all 0 d (omega arith)
    all_more (z ∷ xs) all (suc k) d h = all_more xs (λ k d h. all (suc k) d (omega (arith, h))) k d (omega (arith, h))

-- ---- the space beside pages that are changed

pub space_same : (pages : ℕ) (old new : Contents) (list : List ℕ) (s : Space) → IsSpace pages old s → KeepsPages (λ page. is_among page list) old new → is_among 0 list ≡ false → All (λ page. is_among page list ≡ false) s.free → IsSpace pages new s
space_same pages old new list s is keeps zero_out free_out = record {
  says = subst (λ (bytes : List ℕ). IsSpacePage bytes (space_page s)) (sym (keeps 0 zero_out)) is.says;
  chain = chain_same (λ page. is_among page list) old new s.free keeps free_out is.chain;
  inside = is.inside;
  once = is.once;
  fresh_from = is.fresh_from;
  fresh_to = is.fresh_to;
}

-- none of the first list is among the second
pub apart_front : (xs ys : List ℕ) → AreDistinct (xs ++ ys) → All (λ x. is_among x ys ≡ false) xs
apart_front [] ys once k d h = absurd (omega (arith, h))
apart_front (x ∷ xs) ys once zero d h = none_among x ys (all_rest (λ other. (x ≡ other) → ⊥) xs ys once.0)
apart_front (x ∷ xs) ys once (suc k) d h = apart_front xs ys once.1 k d (omega (arith, h))

-- a page that is given away is neither the space's nor the directory's
pub beside_heads : (page : ℕ) (list : List ℕ) → 16 ≤ page → is_among page list ≡ false → is_among page (0 ∷ 1 ∷ list) ≡ false
beside_heads page list from out =
    both_out (0 == page) ((1 == page) || is_among page list) (other_page 0 page (λ same. omega (arith, from, same)))
    (both_out (1 == page) (is_among page list) (other_page 1 page (λ same. omega (arith, from, same))) out)

-- pages of a list that are none of the changed ones
pub front_out : (xs ys list : List ℕ) → All (λ x. 16 ≤ x) xs → AreDistinct (xs ++ ys) → AreAmong list (0 ∷ 1 ∷ ys) → All (λ x. is_among x list ≡ false) xs
front_out xs ys list from once among k d h = out_of (get_or xs k d) list (0 ∷ 1 ∷ ys) among (beside_heads (get_or xs k d) ys (from k d h) (apart_front xs ys once k d h))

pub rest_out : (xs ys list : List ℕ) → All (λ y. 16 ≤ y) ys → AreDistinct (xs ++ ys) → AreAmong list (0 ∷ 1 ∷ xs) → All (λ y. is_among y list ≡ false) ys
rest_out xs ys list from once among k d h = out_of (get_or ys k d) list (0 ∷ 1 ∷ xs) among (beside_heads (get_or ys k d) xs (from k d h) (apart_lists xs ys once k d h))

-- changes of contents one behind another
pub keeps_on : (first second : List ℕ) (old mid new : Contents) → KeepsPages (λ page. is_among page first) old mid → KeepsPages (λ page. is_among page second) mid new → KeepsPages (λ page. is_among page (first ++ second)) old new
keeps_on first second old mid new one two page out =
    let parts = neither (is_among page first) (is_among page second) (sym (among_append page first second) ∙ out) in
    two page parts.1 ∙ one page parts.0
