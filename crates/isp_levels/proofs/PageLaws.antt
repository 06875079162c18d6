-- Pages of a tree that are changed, and its other pages, which stay.
use Rattle.std.proofs.Common.{◌≡◌, ℕ, ◌+◌, ◌<◌, ◌≤◌, ◌==◌, ◌||◌, Bool, true, false, List, [], ◌∷◌, ◌++◌, map, refl, sym, ◌∙◌, ap, subst, arith, cond}
use Rattle.isp_base.specs.Lists.{times}
use Rattle.isp_cells.specs.LeafPages.{IsLeaf}
use Rattle.isp_format.specs.Inner.{Name}
use Rattle.isp_format.specs.Ranges.{Contents, page_of}
use Rattle.isp_page.specs.State.{is_among}
use Rattle.isp_page.specs.Touched.{KeepsPages}
use Rattle.isp_levels.specs.Levels.{ArePages, InnerNode, IsTreeOf, Lead, LeavesStand, Ranged, TreeLeaf, first_page, leaf_names, leaf_pages, least_key, level_pages, tree_pages}
use Rattle.isp_levels.proofs.DividingLaws.{leaf_names_append}
use Rattle.isp_levels.proofs.StandLaws.{Same, leaves_same, levels_same}
use Rattle.isp_levels.proofs.WayLaws.{pages_first, pages_second}

-- ---- how often a page stands on a list

pub times_append : (page : ℕ) (xs ys : List ℕ) → times page (xs ++ ys) ≡ times page xs + times page ys
times_append page [] ys = omega arith
times_append page (x ∷ xs) ys = let rest = times_append page xs ys in omega (arith, rest)

pub times_itself : (page : ℕ) (xs : List ℕ) → times page (page ∷ xs) ≡ 1 + times page xs
times_itself page xs = let same : (page == page) ≡ true = grind arith in ap (λ (b : Bool). cond b 1 0 + times page xs) same

pub leaf_pages_append : (xs ys : List TreeLeaf) → leaf_pages (xs ++ ys) ≡ leaf_pages xs ++ leaf_pages ys
leaf_pages_append [] ys = refl
leaf_pages_append (x ∷ xs) ys = λ i. x.page ∷ leaf_pages_append xs ys i

-- none of the first pages is one of the second
abbrev pub NoneOf : List ℕ → List ℕ → Type 0
NoneOf [] pages = Unit {0}
NoneOf (p ∷ ps) pages = (times p pages ≡ 0) × NoneOf ps pages

other_page : (p q : ℕ) (rest : List ℕ) → times p (q ∷ rest) ≡ 0 → (p == q) ≡ false
other_page p q rest none = by (q == p) refl none
  where
    by : (b : Bool) → (q == p) ≡ b → cond b 1 0 + times p rest ≡ 0 → (p == q) ≡ false
    by true is none = absurd (omega (arith, none))
    by false is none = grind (arith, is)

fewer_times : (p q : ℕ) (rest : List ℕ) → times p (q ∷ rest) ≡ 0 → times p rest ≡ 0
fewer_times p q rest none = omega (arith, none)

none_fewer : (ps : List ℕ) (q : ℕ) (rest : List ℕ) → NoneOf ps (q ∷ rest) → NoneOf ps rest
none_fewer [] q rest none = tt
none_fewer (p ∷ ps) q rest none = (fewer_times p q rest none.0, none_fewer ps q rest none.1)

not_among : (ps : List ℕ) (q : ℕ) (rest : List ℕ) → NoneOf ps (q ∷ rest) → is_among q ps ≡ false
not_among [] q rest none = refl
not_among (p ∷ ps) q rest none = (λ i. other_page p q rest none.0 i || is_among q ps) ∙ not_among ps q rest none.1

-- where these alone are changed, pages of which none is one of them have their bytes
pub keeps_same : (ps pages : List ℕ) (old new : Contents) → NoneOf ps pages → KeepsPages (λ page. is_among page ps) old new → Same pages old new
keeps_same ps [] old new none keeps = tt
keeps_same ps (q ∷ pages) old new none keeps = (keeps q (not_among ps q pages none), keeps_same ps pages old new (none_fewer ps q pages none) keeps)

-- ---- one leaf's page among a tree's

pub record Alone (page : ℕ) (levels : List (List InnerNode)) (before after : List TreeLeaf) : Type 0 where
  pub left : times page (leaf_pages before) ≡ 0
  pub right : times page (leaf_pages after) ≡ 0
  pub above : times page (level_pages levels) ≡ 0

pub leaf_alone : (levels : List (List InnerNode)) (before after : List TreeLeaf) (leaf : TreeLeaf) → ((page : ℕ) → times page (tree_pages levels (before ++ (leaf ∷ after))) ≤ 1) → Alone leaf.page levels before after
leaf_alone levels before after leaf once =
    let most = once leaf.page in
    let all = times_append leaf.page (leaf_pages (before ++ (leaf ∷ after))) (level_pages levels) in
    let parts = ap (times leaf.page) (leaf_pages_append before (leaf ∷ after)) in
    let both = times_append leaf.page (leaf_pages before) (leaf.page ∷ leaf_pages after) in
    let here = times_itself leaf.page (leaf_pages after) in
    record {
      left = omega (arith, most, all, parts, both, here);
      right = omega (arith, most, all, parts, both, here);
      above = omega (arith, most, all, parts, both, here);
    }

-- ---- leaves with other leaves among them

pub leaf_stands : (contents : Contents) (table : ℕ) (before after : List TreeLeaf) (leaf : TreeLeaf) → LeavesStand contents table (before ++ (leaf ∷ after)) → IsLeaf (page_of contents leaf.page) table leaf.page (first_page after) leaf.rows
leaf_stands contents table [] after leaf stand = stand.0
leaf_stands contents table (b ∷ before) after leaf stand = leaf_stands contents table before after leaf stand.1

pub stand_after : (contents : Contents) (table : ℕ) (before after : List TreeLeaf) (leaf : TreeLeaf) → LeavesStand contents table (before ++ (leaf ∷ after)) → LeavesStand contents table after
stand_after contents table [] after leaf stand = stand.1
stand_after contents table (b ∷ before) after leaf stand = stand_after contents table before after leaf stand.1

first_is : (before xs ys : List TreeLeaf) → first_page xs ≡ first_page ys → first_page (before ++ xs) ≡ first_page (before ++ ys)
first_is [] xs ys same = same
first_is (b ∷ before) xs ys same = refl

-- in the place of what stood from a leaf on, leaves that begin on its page
pub stand_with : (old new : Contents) (table : ℕ) (before now after : List TreeLeaf) (leaf : TreeLeaf) → Same (leaf_pages before) old new → first_page now ≡ leaf.page → LeavesStand new table now → LeavesStand old table (before ++ (leaf ∷ after)) → LeavesStand new table (before ++ now)
stand_with old new table [] now after leaf same first there stand = there
stand_with old new table (b ∷ before) now after leaf same first there stand = (
  subst (λ (bytes : List ℕ). IsLeaf bytes table b.page (first_page (before ++ now)) b.rows) (sym same.0)
      (subst (λ (next : ℕ). IsLeaf (page_of old b.page) table b.page next b.rows) (first_is before (leaf ∷ after) now (sym first)) stand.0),
  stand_with old new table before now after leaf same.1 first there stand.1,
)

-- ---- a tree with other rows on one leaf

names_edited : (before after : List TreeLeaf) (leaf other : TreeLeaf) → other.low ≡ leaf.low → other.page ≡ leaf.page → leaf_names (before ++ (other ∷ after)) ≡ leaf_names (before ++ (leaf ∷ after))
names_edited before after leaf other low page =
    leaf_names_append before (other ∷ after) ∙ (λ i. leaf_names before ++ ((low i, page i) ∷ leaf_names after)) ∙ sym (leaf_names_append before (leaf ∷ after))

pub pages_edited : (before after : List TreeLeaf) (leaf other : TreeLeaf) → other.page ≡ leaf.page → leaf_pages (before ++ (other ∷ after)) ≡ leaf_pages (before ++ (leaf ∷ after))
pages_edited before after leaf other page =
    leaf_pages_append before (other ∷ after) ∙ (λ i. leaf_pages before ++ (page i ∷ leaf_pages after)) ∙ sym (leaf_pages_append before (leaf ∷ after))

pub zero_absent : (pages : ℕ) (qs : List ℕ) → ArePages pages qs → times 0 qs ≡ 0
zero_absent pages [] are = refl
zero_absent pages (q ∷ qs) are = let rest = zero_absent pages qs are.2 in let first = from q are.0 in omega (arith, rest, first)
  where
    from : (q : ℕ) → 16 ≤ q → ◌≡◌ {A = ℕ} (cond (q == 0) 1 0) 0
    from q large = let no : (q == 0) ≡ false = grind (arith, large) in ap (λ (b : Bool). let n : ℕ = cond b 1 0 in n) no

-- none of these pages is one of a tree's, but for the leaf's
abbrev pub AreApart : ℕ → ℕ → List ℕ → Type 0
AreApart pages page ps = (qs : List ℕ) → times page qs ≡ 0 → ArePages pages qs → NoneOf ps qs

pub tree_edited : (pages : ℕ) (old new : Contents) (table root : ℕ) (levels : List (List InnerNode)) (before after : List TreeLeaf) (leaf other : TreeLeaf) (ps : List ℕ) → IsTreeOf pages old table root levels (before ++ (leaf ∷ after)) → other.low ≡ leaf.low → other.page ≡ leaf.page
    → Ranged (before ++ (other ∷ after)) → IsLeaf (page_of new leaf.page) table leaf.page (first_page after) other.rows → AreApart pages leaf.page ps → KeepsPages (λ page. is_among page ps) old new → IsTreeOf pages new table root levels (before ++ (other ∷ after))
tree_edited pages old new table root levels before after leaf other ps is low page ranged there apart keeps =
    let alone = leaf_alone levels before after leaf is.once in
    let outer : ArePages pages (leaf_pages before ++ (leaf.page ∷ leaf_pages after)) = subst (ArePages pages) (leaf_pages_append before (leaf ∷ after)) (pages_first pages (leaf_pages (before ++ (leaf ∷ after))) (level_pages levels) is.inside) in
    let inner = pages_second pages (leaf_pages (before ++ (leaf ∷ after))) (level_pages levels) is.inside in
    let left = keeps_same ps (leaf_pages before) old new (apart (leaf_pages before) alone.left (pages_first pages (leaf_pages before) (leaf.page ∷ leaf_pages after) outer)) keeps in
    let right = keeps_same ps (leaf_pages after) old new (apart (leaf_pages after) alone.right (pages_second pages (leaf_pages before) (leaf.page ∷ leaf_pages after) outer).2) keeps in
    let above = keeps_same ps (level_pages levels) old new (apart (level_pages levels) alone.above inner) keeps in
    let pages_are = pages_edited before after leaf other page in
    let was = is.levelled in
    let now : IsLeaf (page_of new other.page) table other.page (first_page after) other.rows = subst (λ (p : ℕ). IsLeaf (page_of new p) table p (first_page after) other.rows) (sym page) there in
    let behind : LeavesStand new table after = leaves_same old new table after right (stand_after old table before after leaf is.stand) in
    let names = names_edited before after leaf other low page in
    record {
      levelled = record {
        leads = subst (λ (l : List Name). Lead ((least_key, root) ∷ []) levels l) (sym names) was.leads;
        begin = was.begin;
        forked = was.forked;
        ranged = ranged;
      };
      inner = levels_same old new table levels above is.inner;
      stand = stand_with old new table before (other ∷ after) after leaf left page (now, behind) is.stand;
      inside = subst (λ (l : List ℕ). ArePages pages (l ++ level_pages levels)) (sym pages_are) is.inside;
      once = λ p. subst (λ (l : List ℕ). times p (l ++ level_pages levels) ≤ 1) (sym pages_are) (is.once p);
      most = is.most;
    }
