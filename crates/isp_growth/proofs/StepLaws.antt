-- One page of a tree that is changed or divided on its level, in the bytes of pages.
use Rattle.std.proofs.Common.{◌≡◌, ℕ, zero, suc, ◌+◌, ◌<◌, ◌≤◌, List, [], ◌∷◌, ◌++◌, length, refl, ap, subst, arith}
use Rattle.isp_base.specs.Lists.{times}
use Rattle.isp_format.specs.Ranges.{Contents}
use Rattle.isp_page.specs.State.{is_among}
use Rattle.isp_page.specs.Touched.{KeepsPages}
use Rattle.isp_levels.specs.Levels.{AllBegin, AllForked, InnerNode, LeavesStand, LevelStands, Ranged, TreeLeaf, first_page, leaf_pages, level_pages, node_pages}
use Rattle.isp_levels.proofs.PageLaws.{NoneOf, keeps_same, leaf_pages_append, stand_after, stand_with, times_append}
use Rattle.isp_levels.proofs.StandLaws.{Same, leaves_same, level_same, levels_same, same_first, same_second}
use Rattle.isp_growth.specs.Growing.{Forked, Parts, UpsStand, grown_pages}
use Rattle.isp_growth.proofs.SeamLaws.{forked_on, grown_times, level_forked}

pub ups_same : (old new : Contents) (table height : ℕ) (up : List (List InnerNode)) → Same (level_pages up) old new → UpsStand old table height up → UpsStand new table height up
ups_same old new table height [] same stands = tt
ups_same old new table height (level ∷ up) same stands =
    (level_same old new table height level (same_first (node_pages level) (level_pages up) old new same) stands.0, ups_same old new table (suc height) up (same_second (node_pages level) (level_pages up) old new same) stands.1)

pub node_pages_append : (xs ys : List InnerNode) → node_pages (xs ++ ys) ≡ node_pages xs ++ node_pages ys
node_pages_append [] ys = refl
node_pages_append (x ∷ xs) ys = λ i. x.page ∷ node_pages_append xs ys i

level_left : (contents : Contents) (table height : ℕ) (xs ys : List InnerNode) → LevelStands contents table height (xs ++ ys) → LevelStands contents table height xs
level_left contents table height [] ys stands = tt
level_left contents table height (x ∷ xs) ys stands = (stands.0, level_left contents table height xs ys stands.1)

pub level_right : (contents : Contents) (table height : ℕ) (xs ys : List InnerNode) → LevelStands contents table height (xs ++ ys) → LevelStands contents table height ys
level_right contents table height [] ys stands = stands
level_right contents table height (x ∷ xs) ys stands = level_right contents table height xs ys stands.1

level_both : (contents : Contents) (table height : ℕ) (xs ys : List InnerNode) → LevelStands contents table height xs → LevelStands contents table height ys → LevelStands contents table height (xs ++ ys)
level_both contents table height [] ys one other = other
level_both contents table height (x ∷ xs) ys one other = (one.0, level_both contents table height xs ys one.1 other)

begin_left : (xs ys : List InnerNode) → AllBegin (xs ++ ys) → AllBegin xs
begin_left [] ys all = tt
begin_left (x ∷ xs) ys all = (all.0, begin_left xs ys all.1)

begin_right : (xs ys : List InnerNode) → AllBegin (xs ++ ys) → AllBegin ys
begin_right [] ys all = all
begin_right (x ∷ xs) ys all = begin_right xs ys all.1

begin_both : (xs ys : List InnerNode) → AllBegin xs → AllBegin ys → AllBegin (xs ++ ys)
begin_both [] ys one other = other
begin_both (x ∷ xs) ys one other = (one.0, begin_both xs ys one.1 other)

fork_left : (xs ys : List InnerNode) → AllForked (xs ++ ys) → AllForked xs
fork_left [] ys all = tt
fork_left (x ∷ xs) ys all = (all.0, fork_left xs ys all.1)

fork_right : (xs ys : List InnerNode) → AllForked (xs ++ ys) → AllForked ys
fork_right [] ys all = all
fork_right (x ∷ xs) ys all = fork_right xs ys all.1

fork_both : (xs ys : List InnerNode) → AllForked xs → AllForked ys → AllForked (xs ++ ys)
fork_both [] ys one other = other
fork_both (x ∷ xs) ys one other = (one.0, fork_both xs ys one.1 other)

-- a level goes from above to below, with other pages
forked_step : (level other : List InnerNode) (up below : List (List InnerNode)) → Forked (level ∷ up) below → (AllForked level → AllForked other) → Forked up (other ∷ below)
forked_step level other [] below forked all = forked.1
forked_step level other (next ∷ up) below forked all = forked_on level other (next ∷ up) below forked (all (level_forked level next up below forked))

-- none of the changed pages is one of the tree's but for this one
abbrev pub ChangesOne : List ℕ → ℕ → List ℕ → Type 0
ChangesOne ps page all = (others : List ℕ) → ((q : ℕ) → times q all ≡ times q (page ∷ []) + times q others) → NoneOf ps others

-- where pages are taken for it, they are of the file and none of the tree's
pub record AreTaken (pages : ℕ) (all taken : List ℕ) : Type 0 where
  pub inside : (page : ℕ) → 1 ≤ times page taken → (16 ≤ page) × (page < pages)
  pub once : (page : ℕ) → times page all + times page taken ≤ 1

pub level_changed : (pages : ℕ) (old new : Contents) (table : ℕ) (level left right now : List InnerNode) (node : InnerNode) (up below : List (List InnerNode)) (leaves : List TreeLeaf) (ps taken : List ℕ) → Parts pages old table (level ∷ up) below leaves → level ≡ left ++ (node ∷ right)
    → node_pages now ≡ node.page ∷ taken → AllBegin now → AllForked now → LevelStands new table (suc (length below)) now → AreTaken pages (grown_pages (level ∷ up) below leaves) taken → ChangesOne ps node.page (grown_pages (level ∷ up) below leaves) → KeepsPages (λ page. is_among page ps) old new
    → Parts pages new table up ((left ++ (now ++ right)) ∷ below) leaves
level_changed pages old new table level left right now node up below leaves ps taken p level_is pages_are begins forks stands are_taken one keeps = record {
  begin_up = p.begin_up.1;
  begin_below = (begin_both left (now ++ right) (begin_left left (node ∷ right) begun) (begin_both now right begins (begin_right left (node ∷ right) begun).1), p.begin_below);
  forked = forked_step level (left ++ (now ++ right)) up below p.forked (λ all. let was = subst AllForked level_is all in fork_both left (now ++ right) (fork_left left (node ∷ right) was) (fork_both now right forks (fork_right left (node ∷ right) was).1));
  ranged = p.ranged;
  above = ups_same old new table (suc (suc (length below))) up (same_second (level_pages below) (level_pages up) old new rest2) p.above.1;
  inner = (
    level_both new table height left (now ++ right) (level_same old new table height left (same_first (node_pages left) (node_pages right) old new sides) (level_left old table height left (node ∷ right) stood))
        (level_both new table height now right stands (level_same old new table height right (same_second (node_pages left) (node_pages right) old new sides) (level_right old table height left (node ∷ right) stood).1)),
    levels_same old new table below (same_first (level_pages below) (level_pages up) old new rest2) p.inner,
  );
  stand = leaves_same old new table leaves (same_first (leaf_pages leaves) ((node_pages left ++ node_pages right) ++ (level_pages below ++ level_pages up)) old new same) p.stand;
  inside = λ page some. by_inside page (let e = now_times page in omega (arith, some, e));
  once = λ page. let few = are_taken.once page in let e = now_times page in omega (arith, few, e);
  most = let most = p.most in omega (arith, most);
}
  where
    height : ℕ
    height = suc (length below)

    begun : AllBegin (left ++ (node ∷ right))
    begun = subst AllBegin level_is p.begin_up.0

    stood : LevelStands old table height (left ++ (node ∷ right))
    stood = subst (LevelStands old table height) level_is p.above.0

    all : List ℕ
    all = grown_pages (level ∷ up) below leaves

    others : List ℕ
    others = leaf_pages leaves ++ ((node_pages left ++ node_pages right) ++ (level_pages below ++ level_pages up))

    level_times : (q : ℕ) → times q (node_pages level) ≡ times q (node_pages left) + (times q (node.page ∷ []) + times q (node_pages right))
    level_times q =
        let one = ap (λ (l : List InnerNode). times q (node_pages l)) level_is in
        let two = ap (times q) (node_pages_append left (node ∷ right)) in
        let three = times_append q (node_pages left) (node.page ∷ node_pages right) in
        let four = times_append q (node.page ∷ []) (node_pages right) in
        omega (arith, one, two, three, four)

    others_times : (q : ℕ) → times q all ≡ times q (node.page ∷ []) + times q others
    others_times q =
        let one = grown_times q (level ∷ up) below leaves in
        let two = times_append q (node_pages level) (level_pages up) in
        let three = level_times q in
        let four = times_append q (leaf_pages leaves) ((node_pages left ++ node_pages right) ++ (level_pages below ++ level_pages up)) in
        let five = times_append q (node_pages left ++ node_pages right) (level_pages below ++ level_pages up) in
        let six = times_append q (node_pages left) (node_pages right) in
        let seven = times_append q (level_pages below) (level_pages up) in
        omega (arith, one, two, three, four, five, six, seven)

    same : Same others old new
    same = keeps_same ps others old new (one others others_times) keeps

    inner_same : Same ((node_pages left ++ node_pages right) ++ (level_pages below ++ level_pages up)) old new
    inner_same = same_second (leaf_pages leaves) ((node_pages left ++ node_pages right) ++ (level_pages below ++ level_pages up)) old new same

    sides : Same (node_pages left ++ node_pages right) old new
    sides = same_first (node_pages left ++ node_pages right) (level_pages below ++ level_pages up) old new inner_same

    rest2 : Same (level_pages below ++ level_pages up) old new
    rest2 = same_second (node_pages left ++ node_pages right) (level_pages below ++ level_pages up) old new inner_same

    now_times : (q : ℕ) → times q (grown_pages up ((left ++ (now ++ right)) ∷ below) leaves) ≡ times q all + times q taken
    now_times q =
        let one = grown_times q up ((left ++ (now ++ right)) ∷ below) leaves in
        let two = times_append q (node_pages (left ++ (now ++ right))) (level_pages below) in
        let three = ap (times q) (node_pages_append left (now ++ right)) in
        let four = times_append q (node_pages left) (node_pages (now ++ right)) in
        let five = ap (times q) (node_pages_append now right) in
        let six = times_append q (node_pages now) (node_pages right) in
        let seven = ap (times q) pages_are in
        let eight = times_append q (node.page ∷ []) taken in
        let nine = grown_times q (level ∷ up) below leaves in
        let ten = times_append q (node_pages level) (level_pages up) in
        let eleven = level_times q in
        omega (arith, one, two, three, four, five, six, seven, eight, nine, ten, eleven)

    by_inside : (page : ℕ) → 1 ≤ times page all + times page taken → (16 ≤ page) × (page < pages)
    by_inside page some = either (times page all) (times page taken) some (p.inside page) (are_taken.inside page)
      where
        either : (a b : ℕ) → 1 ≤ a + b → (1 ≤ a → (16 ≤ page) × (page < pages)) → (1 ≤ b → (16 ≤ page) × (page < pages)) → (16 ≤ page) × (page < pages)
        either zero b some first second = second (omega (arith, some))
        either (suc a) b some first second = first (omega arith)

pub leaf_changed : (pages : ℕ) (old new : Contents) (table : ℕ) (before after now : List TreeLeaf) (leaf : TreeLeaf) (up : List (List InnerNode)) (ps taken : List ℕ) → Parts pages old table up [] (before ++ (leaf ∷ after))
    → leaf_pages now ≡ leaf.page ∷ taken → Ranged (before ++ (now ++ after)) → first_page (now ++ after) ≡ leaf.page → (LeavesStand new table after → LeavesStand new table (now ++ after)) → AreTaken pages (grown_pages up [] (before ++ (leaf ∷ after))) taken
    → ChangesOne ps leaf.page (grown_pages up [] (before ++ (leaf ∷ after))) → KeepsPages (λ page. is_among page ps) old new → Parts pages new table up [] (before ++ (now ++ after))
leaf_changed pages old new table before after now leaf up ps taken p pages_are ranged first stands are_taken one keeps = record {
  begin_up = p.begin_up;
  begin_below = tt;
  forked = p.forked;
  ranged = ranged;
  above = ups_same old new table 1 up (same_second (leaf_pages before ++ leaf_pages after) (level_pages up) old new same) p.above;
  inner = tt;
  stand = stand_with old new table before (now ++ after) after leaf (same_first (leaf_pages before) (leaf_pages after) old new sides) first
      (stands (leaves_same old new table after (same_second (leaf_pages before) (leaf_pages after) old new sides) (stand_after old table before after leaf p.stand))) p.stand;
  inside = λ page some. by_inside page (let e = now_times page in omega (arith, some, e));
  once = λ page. let few = are_taken.once page in let e = now_times page in omega (arith, few, e);
  most = p.most;
}
  where
    all : List ℕ
    all = grown_pages up [] (before ++ (leaf ∷ after))

    others : List ℕ
    others = (leaf_pages before ++ leaf_pages after) ++ level_pages up

    leaves_times : (q : ℕ) → times q (leaf_pages (before ++ (leaf ∷ after))) ≡ times q (leaf_pages before) + (times q (leaf.page ∷ []) + times q (leaf_pages after))
    leaves_times q =
        let one = ap (times q) (leaf_pages_append before (leaf ∷ after)) in
        let two = times_append q (leaf_pages before) (leaf.page ∷ leaf_pages after) in
        let three = times_append q (leaf.page ∷ []) (leaf_pages after) in
        omega (arith, one, two, three)

    others_times : (q : ℕ) → times q all ≡ times q (leaf.page ∷ []) + times q others
    others_times q =
        let one = grown_times q up [] (before ++ (leaf ∷ after)) in
        let two = leaves_times q in
        let three = times_append q (leaf_pages before ++ leaf_pages after) (level_pages up) in
        let four = times_append q (leaf_pages before) (leaf_pages after) in
        omega (arith, one, two, three, four)

    same : Same others old new
    same = keeps_same ps others old new (one others others_times) keeps

    sides : Same (leaf_pages before ++ leaf_pages after) old new
    sides = same_first (leaf_pages before ++ leaf_pages after) (level_pages up) old new same

    now_times : (q : ℕ) → times q (grown_pages up [] (before ++ (now ++ after))) ≡ times q all + times q taken
    now_times q =
        let one = grown_times q up [] (before ++ (now ++ after)) in
        let two = ap (times q) (leaf_pages_append before (now ++ after)) in
        let three = times_append q (leaf_pages before) (leaf_pages (now ++ after)) in
        let four = ap (times q) (leaf_pages_append now after) in
        let five = times_append q (leaf_pages now) (leaf_pages after) in
        let six = ap (times q) pages_are in
        let seven = times_append q (leaf.page ∷ []) taken in
        let eight = grown_times q up [] (before ++ (leaf ∷ after)) in
        let nine = leaves_times q in
        omega (arith, one, two, three, four, five, six, seven, eight, nine)

    by_inside : (page : ℕ) → 1 ≤ times page all + times page taken → (16 ≤ page) × (page < pages)
    by_inside page some = either (times page all) (times page taken) some (p.inside page) (are_taken.inside page)
      where
        either : (a b : ℕ) → 1 ≤ a + b → (1 ≤ a → (16 ≤ page) × (page < pages)) → (1 ≤ b → (16 ≤ page) × (page < pages)) → (16 ≤ page) × (page < pages)
        either zero b some first second = second (omega (arith, some))
        either (suc a) b some first second = first (omega arith)
