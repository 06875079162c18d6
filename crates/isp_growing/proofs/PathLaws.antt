-- The way down to the leaf of a key, with the page of each level.
use Rattle.std.proofs.Common.{◌≡◌, ℕ, zero, suc, ◌<◌, ◌≤◌, ℤ, Bool, List, [], ◌∷◌, ◌++◌, length, Option, Some, None, refl, sym, ◌∙◌, ap, subst, arith, if◌then◌else◌}
use Rattle.std.specs.Prelude.{FitsSigned, replicate, slice_index, slice_set}
use Rattle.std.proofs.lemmas.List.{get_or-set_other, get_or-set_same}
use Rattle.std.specs.Int.{w64}
use Rattle.std.specs.Option.{option_map}
use Rattle.isp_format.specs.Header.{header_of}
use Rattle.isp_format.specs.Inner.{IsInnerPage, Name}
use Rattle.isp_format.specs.Ranges.{Contents, page_of}
use Rattle.isp_levels.specs.Inners.{page_in_leaf, page_in_name}
use Rattle.isp_levels.specs.Levels.{AllBegin, BeginsAt, InnerNode, IsTreeOf, Lead, LevelStands, LevelsBegin, LevelsInside, LevelsStand, NamesInside, Ranged, TreeLeaf, entries_of, leaf_names, leaf_pages, least_key, level_pages, pick, pick_in, pick_leaf, pick_node}
use Rattle.isp_levels.proofs.LevelLaws.{descends, lead_rises, leaves_rise, node_picked}
use Rattle.isp_levels.proofs.WayLaws.{least_le, levels_inside, pages_first, pages_second, root_says, way_ends}
use Rattle.isp_growth.specs.Growing.{ups}
use Rattle.isp_growing.specs.Paths.{IsPath, page_in_node}
use Rattle.isp_growth.proofs.SpotLaws.{name_spot, node_spot, some_pick}
use Rattle.isp_growth.proofs.StepLaws.{level_right}

-- so far down, with the levels passed and the pages of them
pub record OnPath (pages : ℕ) (contents : Contents) (table : ℕ) (all : List (List InnerNode)) (leaves : List TreeLeaf) (key : ℤ) (page height : ℕ) (path : List ℕ) : Type 0 where
  pub names : List Name
  pub passed : List (List InnerNode)
  pub ahead : List (List InnerNode)
  pub all_is : ups ahead passed ≡ ups all []
  pub leads : Lead names ahead (leaf_names leaves)
  pub begin : LevelsBegin ahead
  pub stand : LevelsStand contents table ahead
  pub inside : LevelsInside pages ahead
  pub ranged : Ranged leaves
  pub high : length ahead ≡ height
  pub picked : page_in_name (pick key names) ≡ Some page
  pub above : IsPath key path (suc height) passed

pub path_begins : (pages : ℕ) (contents : Contents) (table root : ℕ) (all : List (List InnerNode)) (leaves : List TreeLeaf) (key : ℤ) (height : ℕ) (path : List ℕ) → FitsSigned w64 key → IsTreeOf pages contents table root all leaves → height ≡ (header_of (page_of contents root)).level → OnPath pages contents table all leaves key root height path
path_begins pages contents table root all leaves key height path fits is high = record {
  names = (least_key, root) ∷ [];
  passed = [];
  ahead = all;
  all_is = refl;
  leads = is.levelled.leads;
  begin = is.levelled.begin;
  stand = is.inner;
  inside = levels_inside pages ((least_key, root) ∷ []) all leaves is.levelled.leads (pages_second pages (leaf_pages leaves) (level_pages all) is.inside) (pages_first pages (leaf_pages leaves) (level_pages all) is.inside);
  ranged = is.levelled.ranged;
  high = sym (high ∙ (root_says pages contents table root all leaves is).level);
  picked = ap (λ (b : Bool). page_in_name (if b then Some (least_key, root) else None)) (least_le key fits);
  above = tt;
}

some_page : (a b : ℕ) → Some a ≡ Some b → a ≡ b
some_page a b same = cc

node_page_is : (o : Option InnerNode) (page : ℕ) → page_in_name (option_map (λ (node : InnerNode). let n : Name = (node.low, node.page) in n) o) ≡ Some page → page_in_node o ≡ Some page
node_page_is None page is = absurd (let no : None ≡ Some page = is in cc)
node_page_is (Some m) page is = is

inside_at : (pages : ℕ) (before after : List Name) (n : Name) → NamesInside pages (before ++ (n ∷ after)) → n.1 < pages
inside_at pages [] after n inside = inside.0
inside_at pages (x ∷ before) after n inside = inside_at pages before after n inside.1

begin_of : (left right : List InnerNode) (node : InnerNode) → AllBegin (left ++ (node ∷ right)) → BeginsAt node.low node.names
begin_of [] right node all = all.0
begin_of (x ∷ left) right node all = begin_of left right node all.1

-- the page on the path is one so high, with an entry to go on by
pub record PathStep (pages : ℕ) (contents : Contents) (table : ℕ) (all : List (List InnerNode)) (leaves : List TreeLeaf) (key : ℤ) (page height : ℕ) (path : List ℕ) : Type 0 where
  pub names : List Name
  pub stands : IsInnerPage (page_of contents page) table page (suc height) names
  pub child : ℕ
  pub picked : page_in_name (pick key names) ≡ Some child
  pub inside : child < pages
  pub next : (now : List ℕ) → slice_index now (suc height) ≡ page → ((k : ℕ) → suc height < k → slice_index now k ≡ slice_index path k) → OnPath pages contents table all leaves key child height now

path_same : (key : ℤ) (path now : List ℕ) (at : ℕ) (up : List (List InnerNode)) → ((k : ℕ) → at ≤ k → slice_index now k ≡ slice_index path k) → IsPath key path at up → IsPath key now at up
path_same key path now at [] same is = tt
path_same key path now at (level ∷ up) same is =
    (is.0 ∙ ap (λ (p : ℕ). Some p) (sym (same at (omega arith))), path_same key path now (suc at) up (λ k low. same k (omega (arith, low))) is.1)

pub path_on : (pages : ℕ) (contents : Contents) (table : ℕ) (all : List (List InnerNode)) (leaves : List TreeLeaf) (key : ℤ) (page height : ℕ) (path : List ℕ) → OnPath pages contents table all leaves key page (suc height) path → PathStep pages contents table all leaves key page height path
path_on pages contents table all leaves key page height path w = by w.ahead w.all_is w.leads w.begin w.stand w.inside w.high
  where
    here : (level : List InnerNode) (ahead : List (List InnerNode)) → ups ahead (level ∷ w.passed) ≡ ups all [] → Lead (entries_of level) ahead (leaf_names leaves) → AllBegin level → LevelsBegin ahead → LevelStands contents table (suc (length ahead)) level → LevelsStand contents table ahead → NamesInside pages (entries_of level) → LevelsInside pages ahead → length ahead ≡ height
        → pick key (entries_of level) ≡ pick_in key (pick_node key level) → (o : Option InnerNode) → pick_node key level ≡ o → page_in_node o ≡ Some page → PathStep pages contents table all leaves key page height path
    here level ahead all_is leads begins begin stands stand named inside high down None is at = absurd (let no : None ≡ Some page = at in cc)
    here level ahead all_is leads begins begin stands stand named inside high down (Some m) is at =
        let same = some_page m.page page at in
        let spot = node_spot key level m is in
        let own : IsInnerPage (page_of contents m.page) table m.page (suc (length ahead)) m.names = (level_right contents table (suc (length ahead)) spot.left (m ∷ spot.right) (subst (LevelStands contents table (suc (length ahead))) spot.is stands)).0 in
        let some = some_pick key m.low m.names (begin_of spot.left spot.right m (subst AllBegin spot.is begins)) spot.near in
        let whole : pick key (entries_of level) ≡ Some some.0 = down ∙ ap (pick_in key) is ∙ some.1 in
        let place = name_spot key (entries_of level) some.0 whole in
        record {
          names = m.names;
          stands = subst (λ (n : ℕ). IsInnerPage (page_of contents page) table page (suc n) m.names) high (subst (λ (p : ℕ). IsInnerPage (page_of contents p) table p (suc (length ahead)) m.names) same own);
          child = some.0.1;
          picked = ap page_in_name some.1;
          inside = inside_at pages place.before place.after some.0 (subst (NamesInside pages) place.is named);
          next = λ now at_now others. record {
            names = entries_of level;
            passed = level ∷ w.passed;
            ahead = ahead;
            all_is = all_is;
            leads = leads;
            begin = begin;
            stand = stand;
            inside = inside;
            ranged = w.ranged;
            high = high;
            picked = ap page_in_name whole;
            above = (ap page_in_node is ∙ at ∙ ap (λ (p : ℕ). Some p) (sym at_now), path_same key path now (suc (suc height)) w.passed (λ k low. others k (omega (arith, low))) w.above);
          };
        }

    by : (ahead : List (List InnerNode)) → ups ahead w.passed ≡ ups all [] → Lead w.names ahead (leaf_names leaves) → LevelsBegin ahead → LevelsStand contents table ahead → LevelsInside pages ahead → length ahead ≡ suc height → PathStep pages contents table all leaves key page height path
    by [] all_is leads begin stand inside high = absurd (let no : 0 ≡ suc height = high in omega (arith, no))
    by (level ∷ ahead) all_is leads begin stand inside high =
        let long : suc (length ahead) ≡ suc height = high in
        let rises = lead_rises (entries_of level) ahead (leaf_names leaves) leads.1 begin.1 (leaves_rise leaves w.ranged) in
        let at : page_in_node (pick_node key level) ≡ Some page = node_page_is (pick_node key level) page (ap page_in_name (sym (node_picked key level)) ∙ ap (λ (n : List Name). page_in_name (pick key n)) leads.0 ∙ w.picked) in
        here level ahead all_is leads.1 begin.0 begin.1 stand.0 stand.1 inside.0 inside.1 (omega (arith, long)) (descends key level begin.0 rises) (pick_node key level) refl at

pub record PathEnds (all : List (List InnerNode)) (leaves : List TreeLeaf) (key : ℤ) (page : ℕ) (path : List ℕ) : Type 0 where
  pub leaf : page_in_leaf (pick_leaf key leaves) ≡ Some page
  pub above : IsPath key path 1 (ups all [])

pub path_ends : (pages : ℕ) (contents : Contents) (table : ℕ) (all : List (List InnerNode)) (leaves : List TreeLeaf) (key : ℤ) (page height : ℕ) (path now : List ℕ) → height ≡ 0 → ((k : ℕ) → 1 ≤ k → slice_index now k ≡ slice_index path k) → OnPath pages contents table all leaves key page height path → PathEnds all leaves key page now
path_ends pages contents table all leaves key page height path now none same w = by w.ahead w.all_is w.high (subst (λ (n : ℕ). IsPath key path (suc n) w.passed) none w.above)
  where
    by : (ahead : List (List InnerNode)) → ups ahead w.passed ≡ ups all [] → length ahead ≡ height → IsPath key path 1 w.passed → PathEnds all leaves key page now
    by [] all_is high above = record {
      leaf = way_ends pages contents table leaves key page height none (record { names = w.names; levels = w.ahead; leads = w.leads; begin = w.begin; stand = w.stand; inside = w.inside; ranged = w.ranged; high = w.high; picked = w.picked });
      above = subst (IsPath key now 1) all_is (path_same key path now 1 w.passed same above);
    }
    by (level ∷ ahead) all_is high above = let some : suc (length ahead) ≡ height = high in absurd (omega (arith, some, none))

-- ---- the pages of the path

pub replicated : (n k page most : ℕ) → page < most → slice_index (replicate n page) k < most
replicated zero k page most less = omega (arith, less)
replicated (suc n) zero page most less = less
replicated (suc n) (suc k) page most less = replicated n k page most less

pub set_inside : (xs : List ℕ) (i page most : ℕ) → page < most → ((k : ℕ) → slice_index xs k < most) → (k : ℕ) → slice_index (slice_set xs i page) k < most
set_inside xs i page most less all k = by xs i k all
  where
    by : (xs : List ℕ) (i k : ℕ) → ((k : ℕ) → slice_index xs k < most) → slice_index (slice_set xs i page) k < most
    by [] i k all = all k
    by (x ∷ xs) zero zero all = less
    by (x ∷ xs) zero (suc k) all = all (suc k)
    by (x ∷ xs) (suc i) zero all = all zero
    by (x ∷ xs) (suc i) (suc k) all = by xs i k (λ j. all (suc j))

pub set_here : (xs : List ℕ) (i page : ℕ) → i < length xs → slice_index (slice_set xs i page) i ≡ page
set_here xs i page less = get_or-set_same xs i page 0 less

pub set_beyond : (xs : List ℕ) (i page k : ℕ) → i < k → slice_index (slice_set xs i page) k ≡ slice_index xs k
set_beyond xs i page k less = get_or-set_other xs i k page 0 (λ same. omega (arith, less, same))
