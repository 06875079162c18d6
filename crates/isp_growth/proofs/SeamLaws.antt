-- A tree from the root down, and by the levels above and below a place.
use Rattle.std.proofs.Common.{◌≡◌, ℕ, suc, ◌+◌, ◌<◌, ◌≤◌, ◌==◌, Bool, true, false, List, [], ◌∷◌, ◌++◌, length, refl, sym, subst, arith, cond}
use Rattle.isp_base.specs.Lists.{times}
use Rattle.isp_format.specs.Inner.{Name}
use Rattle.isp_format.specs.Ranges.{Contents}
use Rattle.isp_levels.specs.Levels.{AllForked, ArePages, ForkedBelow, InnerNode, IsTreeOf, Lead, LevelsBegin, LevelsStand, TreeLeaf, entries_of, leaf_names, leaf_pages, least_key, level_pages, names_of, node_pages, tree_pages}
use Rattle.isp_levels.proofs.PageLaws.{times_append, times_itself}
use Rattle.isp_growth.specs.Growing.{Forked, IsWhole, Linked, Parts, UpsStand, downs, grown_pages, ups}

-- ---- up from the root down, the other way round

pub linked_of : (root : ℕ) (names : List Name) (levels acc : List (List InnerNode)) (out : List Name) → Linked root acc names → Lead names levels out → Linked root (ups levels acc) out
linked_of root names [] acc out linked leads = subst (Linked root acc) leads linked
linked_of root names (level ∷ levels) acc out linked leads = linked_of root (entries_of level) levels (level ∷ acc) out (refl, subst (Linked root acc) (sym leads.0) linked) leads.1

pub leads_of : (root : ℕ) (seam : List Name) (up below : List (List InnerNode)) (out : List Name) → Linked root up seam → Lead seam below out → Lead ((least_key, root) ∷ []) (downs up below) out
leads_of root seam [] below out linked leads = subst (λ (n : List Name). Lead n below out) linked leads
leads_of root seam (level ∷ up) below out linked leads = leads_of root (names_of level) up (level ∷ below) out linked.1 (refl, subst (λ (n : List Name). Lead n below out) (sym linked.0) leads)

pub ups_stand : (contents : Contents) (table : ℕ) (levels acc : List (List InnerNode)) → UpsStand contents table (suc (length levels)) acc → LevelsStand contents table levels → UpsStand contents table 1 (ups levels acc)
ups_stand contents table [] acc above inner = above
ups_stand contents table (level ∷ levels) acc above inner = ups_stand contents table levels (level ∷ acc) (inner.0, above) inner.1

pub downs_stand : (contents : Contents) (table : ℕ) (up below : List (List InnerNode)) → UpsStand contents table (suc (length below)) up → LevelsStand contents table below → LevelsStand contents table (downs up below)
downs_stand contents table [] below above inner = inner
downs_stand contents table (level ∷ up) below above inner = downs_stand contents table up (level ∷ below) above.1 (above.0, inner)

pub ups_begin : (levels acc : List (List InnerNode)) → LevelsBegin acc → LevelsBegin levels → LevelsBegin (ups levels acc)
ups_begin [] acc above inner = above
ups_begin (level ∷ levels) acc above inner = ups_begin levels (level ∷ acc) (inner.0, above) inner.1

pub downs_begin : (up below : List (List InnerNode)) → LevelsBegin up → LevelsBegin below → LevelsBegin (downs up below)
downs_begin [] below above inner = inner
downs_begin (level ∷ up) below above inner = downs_begin up (level ∷ below) above.1 (above.0, inner)

-- a level goes from above to below, with other pages
pub forked_on : (level other : List InnerNode) (up below : List (List InnerNode)) → Forked (level ∷ up) below → AllForked other → Forked up (other ∷ below)
forked_on level other [] below forked all = forked.1
forked_on level other (next ∷ up) below forked all = (forked.0.1, (all, forked.1))

pub level_forked : (level : List InnerNode) (next : List InnerNode) (up below : List (List InnerNode)) → Forked (level ∷ next ∷ up) below → AllForked level
level_forked level next up below forked = forked.0.0

pub downs_forked : (up below : List (List InnerNode)) → Forked up below → ForkedBelow (downs up below)
downs_forked [] below forked = forked
downs_forked (level ∷ []) below forked = forked.1
downs_forked (level ∷ next ∷ up) below forked = downs_forked (next ∷ up) (level ∷ below) (forked.0.1, (forked.0.0, forked.1))

-- and back
back_one : (level : List InnerNode) (up below : List (List InnerNode)) → Forked up (level ∷ below) → Forked (level ∷ up) below
back_one level [] below forked = (tt, forked)
back_one level (next ∷ up) below forked = ((forked.1.0, forked.0), forked.1.1)

pub ups_forked : (levels acc : List (List InnerNode)) → Forked acc levels → Forked (ups levels acc) []
ups_forked [] acc forked = forked
ups_forked (level ∷ levels) acc forked = ups_forked levels (level ∷ acc) (back_one level acc levels forked)

pub ups_long : (levels acc : List (List InnerNode)) → length (ups levels acc) ≡ length levels + length acc
ups_long [] acc = omega arith
ups_long (level ∷ levels) acc = let rest = ups_long levels (level ∷ acc) in omega (arith, rest)

pub downs_long : (up below : List (List InnerNode)) → length (downs up below) ≡ length up + length below
downs_long [] below = omega arith
downs_long (level ∷ up) below = let rest = downs_long up (level ∷ below) in omega (arith, rest)

pub ups_times : (page : ℕ) (levels acc : List (List InnerNode)) → times page (level_pages (ups levels acc)) ≡ times page (level_pages levels) + times page (level_pages acc)
ups_times page [] acc = omega arith
ups_times page (level ∷ levels) acc =
    let rest = ups_times page levels (level ∷ acc) in
    let one = times_append page (node_pages level) (level_pages levels) in
    let two = times_append page (node_pages level) (level_pages acc) in
    omega (arith, rest, one, two)

pub downs_times : (page : ℕ) (up below : List (List InnerNode)) → times page (level_pages (downs up below)) ≡ times page (level_pages up) + times page (level_pages below)
downs_times page [] below = omega arith
downs_times page (level ∷ up) below =
    let rest = downs_times page up (level ∷ below) in
    let one = times_append page (node_pages level) (level_pages up) in
    let two = times_append page (node_pages level) (level_pages below) in
    omega (arith, rest, one, two)

-- ---- pages, by how often they stand there

pub are_inside : (pages : ℕ) (xs : List ℕ) (page : ℕ) → ArePages pages xs → 1 ≤ times page xs → (16 ≤ page) × (page < pages)
are_inside pages [] page are some = absurd (omega (arith, some))
are_inside pages (x ∷ xs) page are some = by (x == page) refl some (are_inside pages xs page are.2)
  where
    same : (a b : ℕ) → (a == b) ≡ true → a ≡ b
    same a b is = grind (arith, is)

    by : (b : Bool) → (x == page) ≡ b → 1 ≤ cond b 1 0 + times page xs → (1 ≤ times page xs → (16 ≤ page) × (page < pages)) → (16 ≤ page) × (page < pages)
    by true is some deeper = subst (λ (p : ℕ). (16 ≤ p) × (p < pages)) (same x page is) (are.0, are.1)
    by false is some deeper = deeper (omega (arith, some))

pub are_of : (pages : ℕ) (xs : List ℕ) → ((page : ℕ) → 1 ≤ times page xs → (16 ≤ page) × (page < pages)) → ArePages pages xs
are_of pages [] inside = tt
are_of pages (x ∷ xs) inside =
    let here = inside x (let one = times_itself x xs in omega (arith, one)) in
    (here.0, here.1, are_of pages xs (λ page some. inside page (let more = times_more page x xs in omega (arith, some, more))))
  where
    times_more : (page x : ℕ) (xs : List ℕ) → times page xs ≤ times page (x ∷ xs)
    times_more page x xs = omega arith

pub grown_times : (page : ℕ) (up below : List (List InnerNode)) (leaves : List TreeLeaf) → times page (grown_pages up below leaves) ≡ times page (leaf_pages leaves) + (times page (level_pages below) + times page (level_pages up))
grown_times page up below leaves =
    let one = times_append page (leaf_pages leaves) (level_pages below ++ level_pages up) in
    let two = times_append page (level_pages below) (level_pages up) in
    omega (arith, one, two)

-- ---- a whole tree

pub whole_of : (pages : ℕ) (contents : Contents) (table root : ℕ) (levels : List (List InnerNode)) (leaves : List TreeLeaf) → IsTreeOf pages contents table root levels leaves → IsWhole pages contents table root (ups levels []) [] leaves
whole_of pages contents table root levels leaves is = record {
  seam = leaf_names leaves;
  upper = linked_of root ((least_key, root) ∷ []) levels [] (leaf_names leaves) refl is.levelled.leads;
  lower = refl;
  parts = record {
    begin_up = ups_begin levels [] tt is.levelled.begin;
    begin_below = tt;
    forked = ups_forked levels [] is.levelled.forked;
    ranged = is.levelled.ranged;
    above = ups_stand contents table levels [] tt is.inner;
    inner = tt;
    stand = is.stand;
    inside = λ page some. are_inside pages (tree_pages levels leaves) page is.inside (let e = same page in omega (arith, some, e));
    once = λ page. let few = is.once page in let e = same page in omega (arith, few, e);
    most = let most = is.most in let long = ups_long levels [] in omega (arith, most, long);
  };
}
  where
    same : (page : ℕ) → times page (grown_pages (ups levels []) [] leaves) ≡ times page (tree_pages levels leaves)
    same page =
        let one = grown_times page (ups levels []) [] leaves in
        let two = ups_times page levels [] in
        let three = times_append page (leaf_pages leaves) (level_pages levels) in
        omega (arith, one, two, three)

pub tree_of : (pages : ℕ) (contents : Contents) (table root : ℕ) (up below : List (List InnerNode)) (leaves : List TreeLeaf) → IsWhole pages contents table root up below leaves → IsTreeOf pages contents table root (downs up below) leaves
tree_of pages contents table root up below leaves w = record {
  levelled = record {
    leads = leads_of root w.seam up below (leaf_names leaves) w.upper w.lower;
    begin = downs_begin up below p.begin_up p.begin_below;
    forked = downs_forked up below p.forked;
    ranged = p.ranged;
  };
  inner = downs_stand contents table up below p.above p.inner;
  stand = p.stand;
  inside = are_of pages (tree_pages (downs up below) leaves) (λ page some. p.inside page (let e = same page in omega (arith, some, e)));
  once = λ page. let few = p.once page in let e = same page in omega (arith, few, e);
  most = let most = p.most in let long = downs_long up below in omega (arith, most, long);
}
  where
    p : Parts pages contents table up below leaves
    p = w.parts

    same : (page : ℕ) → times page (tree_pages (downs up below) leaves) ≡ times page (grown_pages up below leaves)
    same page =
        let one = grown_times page up below leaves in
        let two = downs_times page up below in
        let three = times_append page (leaf_pages leaves) (level_pages (downs up below)) in
        omega (arith, one, two, three)
