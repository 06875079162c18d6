-- A division on its way up, step by step.
use Rattle.std.proofs.Common.{◌≡◌, ℕ, zero, suc, ◌+◌, ◌<◌, ◌≤◌, ℤ, Bool, true, false, List, [], ◌∷◌, ◌++◌, drop, take, length, length-append, Option, Some, None, refl, sym, ◌∙◌, ap, subst, arith, if◌then◌else◌}
use Rattle.std.specs.Prelude.{int_le, int_lt, nat_lt, slice_index}
use Rattle.std.proofs.lemmas.Bool.Decides.{nat_tests}
use Rattle.std.proofs.lemmas.Int.{ints}
use Rattle.isp_base.specs.Lists.{times}
use Rattle.isp_format.specs.Inner.{IsInnerPage, Name}
use Rattle.isp_format.specs.Ranges.{Contents, page_of}
use Rattle.isp_page.specs.State.{is_among}
use Rattle.isp_page.specs.Touched.{KeepsPages}
use Rattle.isp_space.specs.Spaces.{Space, free_pages, taken}
use Rattle.isp_levels.specs.Dividing.{left_names}
use Rattle.isp_levels.specs.Levels.{InnerNode, LevelStands, TreeLeaf, leaf_names, leaf_pages, least_key, level_pages, names_of, node_pages, or_else, pick_node}
use Rattle.isp_levels.proofs.PageLaws.{times_append, times_itself}
use Rattle.isp_growth.specs.Entries.{with_name}
use Rattle.isp_growth.specs.Growing.{IsLacking, Linked, grown_pages}
use Rattle.isp_growth.proofs.BesideLaws.{are_taken, changes_one}
use Rattle.isp_growth.proofs.GrowLaws.{entry_grown, first_key_is, first_page_is, node_grown, raised_root, root_grown}
use Rattle.isp_growth.proofs.SeamLaws.{grown_times}
use Rattle.isp_growth.proofs.SpotLaws.{node_spot}
use Rattle.isp_growth.proofs.StepLaws.{AreTaken, level_right, node_pages_append}
use Rattle.isp_halving.specs.Calls.{IsOutside}
use Rattle.isp_halving.specs.Halved.{IsInnerHalved, IsRaised}
use Rattle.isp_halving.specs.declared.Entry.{Entry}
use Rattle.isp_growing.specs.Paths.{IsPath, page_in_node}
use Rattle.isp_growing.specs.Rising.{CanGoUp, HasGoneUp, HasTaken, IsOnPath}
use Rattle.isp_growing.specs.declared.path.Path.{Path}
use Rattle.isp_growing.proofs.CountLaws.{distinct_few, lead_long, leaves_long, too_many, twice}
use Rattle.isp_growing.proofs.TakenLaws.{outside_of, none_taken, one_alone, one_taken, taken_then}

-- ---- the page of a level

pub node_there : (key : ℤ) (level : List InnerNode) (node : InnerNode) (up below : List (List InnerNode)) (leaves : List TreeLeaf) → pick_node key level ≡ Some node → 1 ≤ times node.page (grown_pages (level ∷ up) below leaves)
node_there key level node up below leaves picked =
    let spot = node_spot key level node picked in
    let one = ap (λ (l : List InnerNode). times node.page (node_pages l)) spot.is in
    let two = ap (times node.page) (node_pages_append spot.left (node ∷ spot.right)) in
    let three = times_append node.page (node_pages spot.left) (node.page ∷ node_pages spot.right) in
    let four = times_itself node.page (node_pages spot.right) in
    let five = grown_times node.page (level ∷ up) below leaves in
    let six = times_append node.page (node_pages level) (level_pages up) in
    omega (arith, one, two, three, four, five, six)

-- that page of the path is the one by which the key goes on, so high above the leaves
pub record AtNode (contents : Contents) (table : ℕ) (key : ℤ) (level : List InnerNode) (page height : ℕ) : Type 0 where
  pub node : InnerNode
  pub picked : pick_node key level ≡ Some node
  pub page_is : node.page ≡ page
  pub stands : IsInnerPage (page_of contents page) table page height node.names

some_page : (a b : ℕ) → Some a ≡ Some b → a ≡ b
some_page a b same = cc

node_at : (contents : Contents) (table : ℕ) (key : ℤ) (level : List InnerNode) (page height : ℕ) → page_in_node (pick_node key level) ≡ Some page → LevelStands contents table height level → AtNode contents table key level page height
node_at contents table key level page height at stands = by (pick_node key level) refl at
  where
    by : (o : Option InnerNode) → pick_node key level ≡ o → page_in_node o ≡ Some page → AtNode contents table key level page height
    by None is at = absurd (let no : None ≡ Some page = at in cc)
    by (Some node) is at =
        let same = some_page node.page page at in
        let spot = node_spot key level node is in
        let own : IsInnerPage (page_of contents node.page) table node.page height node.names = (level_right contents table height spot.left (node ∷ spot.right) (subst (LevelStands contents table height) spot.is stands)).0 in
        record { node = node; picked = is; page_is = same; stands = subst (λ (p : ℕ). IsInnerPage (page_of contents p) table p height node.names) same own }

-- the level that the entry is put into, and its page on the path
pub record Here (pages : ℕ) (contents : Contents) (table root : ℕ) (key : ℤ) (path : Path) (at : ℕ) (up below : List (List InnerNode)) (leaves : List TreeLeaf) (o : Name) (n : Entry) (s : Space) : Type 0 where
  pub level : List InnerNode
  pub rest : List (List InnerNode)
  pub up_is : up ≡ level ∷ rest
  pub can : CanGoUp pages contents table root key (level ∷ rest) below leaves o n s
  pub node : InnerNode
  pub picked : pick_node key level ≡ Some node
  pub page_is : node.page ≡ slice_index path.pages at
  pub stands : IsInnerPage (page_of contents (slice_index path.pages at)) table (slice_index path.pages at) at node.names
  pub level_is : at ≡ suc (length below)
  pub next : IsPath key path.pages (suc at) rest
  pub height_is : path.height ≡ suc (length rest) + length below

pub here_of : (pages : ℕ) (contents : Contents) (table root : ℕ) (key : ℤ) (path : Path) (at : ℕ) (up below : List (List InnerNode)) (leaves : List TreeLeaf) (o : Name) (n : Entry) (s : Space) → CanGoUp pages contents table root key up below leaves o n s → IsOnPath key path at up below → at ≤ path.height → Here pages contents table root key path at up below leaves o n s
here_of pages contents table root key path at [] below leaves o n s can on to =
    let high = on.height_is in
    let level = on.level_is in
    let none : length {A = List InnerNode} [] ≡ 0 = refl in
    absurd (omega (arith, high, level, to, none))
here_of pages contents table root key path at (level ∷ rest) below leaves o n s can on to =
    let found = node_at contents table key level (slice_index path.pages at) (suc (length below)) on.pages_are.0 can.lacks.parts.above.0 in
    record {
      level = level;
      rest = rest;
      up_is = refl;
      can = can;
      node = found.node;
      picked = found.picked;
      page_is = found.page_is;
      stands = subst (λ (h : ℕ). IsInnerPage (page_of contents (slice_index path.pages at)) table (slice_index path.pages at) h found.node.names) (sym on.level_is) found.stands;
      level_is = on.level_is;
      next = on.pages_are.1;
      height_is = on.height_is;
    }

-- ---- behind calls that read, and in other words for the number of pages

pub can_behind : (pages pages_now : ℕ) (old now : Contents) (table root : ℕ) (key : ℤ) (up below : List (List InnerNode)) (leaves : List TreeLeaf) (o : Name) (n : Entry) (s : Space) → pages_now ≡ pages → now ≡ old → CanGoUp pages old table root key up below leaves o n s → CanGoUp pages_now now table root key up below leaves o n s
can_behind pages pages_now old now table root key up below leaves o n s shape same can =
    subst (λ (p : ℕ). CanGoUp p now table root key up below leaves o n s) (sym shape) (subst (λ (c : Contents). CanGoUp pages c table root key up below leaves o n s) (sym same) can)

pub gone_behind : (pages pages_now : ℕ) (old mid new : Contents) (table root : ℕ) (up below : List (List InnerNode)) (leaves : List TreeLeaf) (s : Space) → pages_now ≡ pages → mid ≡ old → HasGoneUp pages mid new table root up below leaves s → HasGoneUp pages_now old new table root up below leaves s
gone_behind pages pages_now old mid new table root up below leaves s shape same gone =
    subst (λ (p : ℕ). HasGoneUp p old new table root up below leaves s) (sym shape) (subst (λ (c : Contents). HasGoneUp pages c new table root up below leaves s) same gone)

-- ---- the entry finds room

pub goes_in : (pages : ℕ) (old new : Contents) (table root at : ℕ) (key : ℤ) (level : List InnerNode) (rest below : List (List InnerNode)) (leaves : List TreeLeaf) (o : Name) (n : Entry) (s : Space) (node : InnerNode) → CanGoUp pages old table root key (level ∷ rest) below leaves o n s → at ≡ suc (length below) → pick_node key level ≡ Some node
    → IsInnerPage (page_of new node.page) table node.page at (with_name (n.key, n.page.0) node.names) → KeepsPages (λ q. is_among q (node.page ∷ [])) old new → HasGoneUp pages old new table root (level ∷ rest) below leaves s
goes_in pages old new table root at key level rest below leaves o n s node can high picked stands keeps =
    let all = grown_pages (level ∷ rest) below leaves in
    let there : IsInnerPage (page_of new node.page) table node.page (suc (length below)) (with_name (n.key, n.page.0) node.names) = subst (λ (h : ℕ). IsInnerPage (page_of new node.page) table node.page h (with_name (n.key, n.page.0) node.names)) high stands in
    let grown = entry_grown pages old new table root key level rest below leaves o (n.key, n.page.0) node (node.page ∷ []) can.lacks picked there (one_alone node.page all can.lacks.parts.once) keeps in
    record {
      up_now = rest;
      below_now = grown.level ∷ below;
      whole = grown.whole;
      count = zero;
      few = omega arith;
      has = none_taken pages old new all (grown_pages rest (grown.level ∷ below) leaves) s node.page can.beside grown.pages_are (node_there key level node rest below leaves picked) keeps;
    }

-- ---- a page in two

pub record DividedUp (pages : ℕ) (old mid : Contents) (table root : ℕ) (key : ℤ) (level : List InnerNode) (rest below : List (List InnerNode)) (leaves : List TreeLeaf) (s : Space) (node : InnerNode) (entry : Entry) : Type 0 where
  pub now : List InnerNode
  pub can : CanGoUp pages mid table root key rest (now ∷ below) leaves (node.low, node.page) entry (taken s)
  pub has : HasTaken pages old mid (grown_pages (level ∷ rest) below leaves) (grown_pages rest (now ∷ below) leaves) s (suc zero)

pub goes_divided : (pages : ℕ) (old mid : Contents) (table root at : ℕ) (key : ℤ) (level : List InnerNode) (rest below : List (List InnerNode)) (leaves : List TreeLeaf) (o : Name) (n : Entry) (s : Space) (node : InnerNode) (entry : Entry) → CanGoUp pages old table root key (level ∷ rest) below leaves o n s → at ≡ suc (length below) → pick_node key level ≡ Some node → length node.names ≡ 336
    → IsInnerHalved pages mid table node.page at (with_name (n.key, n.page.0) node.names) s entry → entry.page.0 < pages → KeepsPages (λ q. is_among q (0 ∷ entry.page.0 ∷ node.page ∷ [])) old mid → DividedUp pages old mid table root key level rest below leaves s node entry
goes_divided pages old mid table root at key level rest below leaves o n s node entry can high picked full h inside keeps =
    let all = grown_pages (level ∷ rest) below leaves in
    let page = entry.page.0 in
    let names : List Name = with_name (n.key, n.page.0) node.names in
    let are = are_taken pages old all s page can.beside h.is_next inside in
    let few = are.once page in
    let itself : times page (page ∷ []) ≡ 1 + times page [] = times_itself page [] in
    let left = subst (λ (k : ℕ). IsInnerPage (page_of mid node.page) table node.page k (take left_names names)) high h.left in
    let right_is = subst (λ (k : ℕ). IsInnerPage (page_of mid page) table page k (drop left_names names)) high h.right_is in
    let grown = node_grown pages old mid table root key level rest below leaves o (n.key, n.page.0) node (0 ∷ page ∷ node.page ∷ []) page can.lacks picked full left right_is are
    (changes_one pages all node.page page can.lacks.parts.inside can.lacks.parts.once (omega (arith, few, itself))) keeps in
    record {
      now = grown.level;
      can = record {
        lacks = subst (λ (k : ℤ). IsLacking pages mid table root key rest (grown.level ∷ below) leaves (node.low, node.page) (k, page)) (sym h.key_is) grown.lacks;
        least = can.least;
        beside = (one_taken pages old mid all (grown_pages rest (grown.level ∷ below) leaves) s page node.page can.beside h.is_next h.is_space grown.pages_are (node_there key level node rest below leaves picked) keeps).beside;
      };
      has = one_taken pages old mid all (grown_pages rest (grown.level ∷ below) leaves) s page node.page can.beside h.is_next h.is_space grown.pages_are (node_there key level node rest below leaves picked) keeps;
    }

pub gone_through : (pages : ℕ) (old mid new : Contents) (table root : ℕ) (key : ℤ) (level : List InnerNode) (rest below : List (List InnerNode)) (leaves : List TreeLeaf) (s : Space) (node : InnerNode) (entry : Entry) (d : DividedUp pages old mid table root key level rest below leaves s node entry) → HasGoneUp pages mid new table root rest (d.now ∷ below) leaves (taken s) → HasGoneUp pages old new table root (level ∷ rest) below leaves s
gone_through pages old mid new table root key level rest below leaves s node entry d gone =
    let few = gone.few in
    record {
      up_now = gone.up_now;
      below_now = gone.below_now;
      whole = gone.whole;
      count = suc gone.count;
      few = omega (arith, few);
      has = taken_then pages old mid new (grown_pages (level ∷ rest) below leaves) (grown_pages rest (d.now ∷ below) leaves) (grown_pages gone.up_now gone.below_now leaves) s gone.count d.has gone.has;
    }

-- ---- a root that is raised

pub least_picked : (key : ℤ) (node : InnerNode) → node.low ≡ least_key → int_lt key least_key ≡ false → pick_node key (node ∷ []) ≡ Some node
least_picked key node low least =
    let from : int_le node.low key ≡ true = subst (λ (k : ℤ). int_le k key ≡ true) (sym low) (le_of least_key key least) in
    ap (λ (b : Bool). if b then Some node else None) from
  where
    le_of : (l k : ℤ) → int_lt k l ≡ false → int_le l k ≡ true
    le_of l k less = grind (arith, ints)

-- the one page of the highest level is the root's
pub record IsTop (root : ℕ) (level : List InnerNode) : Type 0 where
  pub node : InnerNode
  pub level_is : level ≡ node ∷ []
  pub page_is : node.page ≡ root
  pub low_is : node.low ≡ least_key

pub top_of : (root : ℕ) (level : List InnerNode) → Linked root [] (names_of level) → IsTop root level
top_of root [] linked = absurd (let no : [] ≡ (least_key, root) ∷ [] = linked in cc)
top_of root (node ∷ []) linked = record { node = node; level_is = refl; page_is = first_page_is (node.low, node.page) (least_key, root) [] [] linked; low_is = first_key_is (node.low, node.page) (least_key, root) [] [] linked }
top_of root (node ∷ next ∷ level) linked =
    absurd (two_names (node.low, node.page) (next.low, next.page) (least_key, root) (names_of level) linked)
  where
    two_names : (a b c : Name) (more : List Name) → a ∷ b ∷ more ≡ c ∷ [] → ⊥
    two_names a b c more same = let long : suc (suc (length more)) ≡ 1 = ap (λ (l : List Name). length l) same in omega (arith, long)

pub record RaisedUp (pages : ℕ) (old mid : Contents) (table root : ℕ) (key : ℤ) (node : InnerNode) (below : List (List InnerNode)) (leaves : List TreeLeaf) (o : Name) (n : Entry) (s : Space) (to : ℕ) : Type 0 where
  pub can : CanGoUp pages mid table root key ((record node { page = to } ∷ []) ∷ (raised_root root to ∷ []) ∷ []) below leaves o n (taken s)
  pub has : HasTaken pages old mid (grown_pages ((node ∷ []) ∷ []) below leaves) (grown_pages ((record node { page = to } ∷ []) ∷ (raised_root root to ∷ []) ∷ []) below leaves) s (suc zero)
  pub low : node.low ≡ least_key

pub goes_raised_up : (pages : ℕ) (old mid : Contents) (table root at : ℕ) (key : ℤ) (node : InnerNode) (below : List (List InnerNode)) (leaves : List TreeLeaf) (o : Name) (n : Entry) (s : Space) (to : ℕ) → CanGoUp pages old table root key ((node ∷ []) ∷ []) below leaves o n s → at ≡ suc (length below) → at < 15 → length node.names ≡ 336
    → IsRaised pages mid table root at s to → IsInnerPage (page_of mid to) table to at node.names → to < pages → KeepsPages (λ q. is_among q (0 ∷ to ∷ root ∷ [])) old mid → RaisedUp pages old mid table root key node below leaves o n s to
goes_raised_up pages old mid table root at key node below leaves o n s to can high less full r moved inside keeps = record {
  can = record {
    lacks = root_grown pages old mid table root key node below leaves o (n.key, n.page.0) to (0 ∷ to ∷ root ∷ []) can.lacks can.least (omega (arith, full)) (omega (arith, less, high))
        (subst (λ (k : ℕ). IsInnerPage (page_of mid to) table to k node.names) high moved) (subst (λ (k : ℕ). IsInnerPage (page_of mid root) table root (suc k) ((least_key, to) ∷ [])) high r.root_is) are
        (changes_one pages all root to can.lacks.parts.inside can.lacks.parts.once (omega (arith, few, itself))) keeps;
    least = can.least;
    beside = took.beside;
  };
  has = took;
  low = top.low_is;
}
  where
    all : List ℕ
    all = grown_pages ((node ∷ []) ∷ []) below leaves

    now : List ℕ
    now = grown_pages ((record node { page = to } ∷ []) ∷ (raised_root root to ∷ []) ∷ []) below leaves

    are : AreTaken pages all (to ∷ [])
    are = are_taken pages old all s to can.beside r.is_next inside

    few : times to all + times to (to ∷ []) ≤ 1
    few = are.once to

    itself : times to (to ∷ []) ≡ 1 + times to []
    itself = times_itself to []

    name_is : ◌≡◌ {A = List Name} ((node.low, node.page) ∷ []) ((least_key, root) ∷ [])
    name_is = can.lacks.upper.1

    page_is : node.page ≡ root
    page_is = first_page_is (node.low, node.page) (least_key, root) [] [] name_is

    top : IsTop root (node ∷ [])
    top = record { node = node; level_is = refl; page_is = page_is; low_is = first_key_is (node.low, node.page) (least_key, root) [] [] name_is }

    there : 1 ≤ times root all
    there =
        let a = grown_times root ((node ∷ []) ∷ []) below leaves in
        let b = ap (λ (r : ℕ). times root (r ∷ [])) page_is in
        let c = times_itself root [] in
        omega (arith, a, b, c)

    now_times : (q : ℕ) → times q now ≡ times q all + times q (to ∷ [])
    now_times q =
        let a = grown_times q ((record node { page = to } ∷ []) ∷ (raised_root root to ∷ []) ∷ []) below leaves in
        let b = grown_times q ((node ∷ []) ∷ []) below leaves in
        let d = ap (λ (r : ℕ). times q (r ∷ [])) page_is in
        omega (arith, a, b, d)

    took : HasTaken pages old mid all now s (suc zero)
    took = one_taken pages old mid all now s to root can.beside r.is_next r.is_space now_times there keeps

-- a root so high has more leaves below it than a file has pages
pub not_so_high : (pages : ℕ) (contents : Contents) (table root at : ℕ) (key : ℤ) (node : InnerNode) (below : List (List InnerNode)) (leaves : List TreeLeaf) (o : Name) (n : Entry) (s : Space) → CanGoUp pages contents table root key ((node ∷ []) ∷ []) below leaves o n s → at ≡ suc (length below) → 15 ≤ at → length node.names ≡ 336 → pages ≤ 65536 → ⊥
not_so_high pages contents table root at key node below leaves o n s can high high_is full few =
    let l = can.lacks in
    let p = l.parts in
    let most = p.most in
    let names = l.before ++ (o ∷ (n.key, n.page.0) ∷ l.after) in
    let long : twice (length below) (length names) ≤ length (leaf_names leaves) = lead_long names below (leaf_names leaves) l.lower p.forked.1 in
    let a = ap (λ (x : List Name). length x) l.upper.0 in
    let b = length-append node.names [] in
    let c = length-append l.before (o ∷ l.after) in
    let d = length-append l.before (o ∷ (n.key, n.page.0) ∷ l.after) in
    let names_long : 336 ≤ length names = omega (arith, a, b, c, d, full) in
    let grows = more (length below) 336 (length names) names_long in
    let same = leaves_long leaves in
    let pages_few = distinct_few pages (leaf_pages leaves) (λ q some. (p.inside q (let e = grown_times q ((node ∷ []) ∷ []) below leaves in omega (arith, some, e))).1) (λ q. let once = p.once q in let e = grown_times q ((node ∷ []) ∷ []) below leaves in omega (arith, once, e)) in
    too_many (length below) pages (omega (arith, most, high, high_is)) few (omega (arith, long, grows, same, pages_few))
  where
    more : (k m n : ℕ) → m ≤ n → twice k m ≤ twice k n
    more zero m n less = less
    more (suc k) m n less = more k (m + m) (n + n) (omega (arith, less))

-- ---- the steps at a root that is raised

pub root_stands : (pages : ℕ) (contents : Contents) (table root at : ℕ) (key : ℤ) (node : InnerNode) (below : List (List InnerNode)) (leaves : List TreeLeaf) (o : Name) (n : Entry) (s : Space) → CanGoUp pages contents table root key ((node ∷ []) ∷ []) below leaves o n s → at ≡ suc (length below) → IsInnerPage (page_of contents root) table root at node.names
unfolding top_of
root_stands pages contents table root at key node below leaves o n s can high =
    let page_is = (top_of root (node ∷ []) can.lacks.upper.1).page_is in
    subst (λ (k : ℕ). IsInnerPage (page_of contents root) table root k node.names) (sym high) (subst (λ (p : ℕ). IsInnerPage (page_of contents p) table p (suc (length below)) node.names) page_is can.lacks.parts.above.0.0)

pub root_apart : (pages : ℕ) (contents : Contents) (table root : ℕ) (key : ℤ) (node : InnerNode) (below : List (List InnerNode)) (leaves : List TreeLeaf) (o : Name) (n : Entry) (s : Space) → CanGoUp pages contents table root key ((node ∷ []) ∷ []) below leaves o n s → IsOutside root s
unfolding top_of
root_apart pages contents table root key node below leaves o n s can =
    let top = top_of root (node ∷ []) can.lacks.upper.1 in
    let page_is = top.page_is in
    let there = node_there key (node ∷ []) node [] below leaves (least_picked key node top.low_is can.least) in
    outside_of pages contents (grown_pages ((node ∷ []) ∷ []) below leaves) s root can.beside (subst (λ (p : ℕ). 1 ≤ times p (grown_pages ((node ∷ []) ∷ []) below leaves)) page_is there)

pub moved_apart : (pages : ℕ) (from mid : Contents) (table root : ℕ) (key : ℤ) (node : InnerNode) (below : List (List InnerNode)) (leaves : List TreeLeaf) (o : Name) (n : Entry) (s : Space) (to : ℕ) → RaisedUp pages from mid table root key node below leaves o n s to → IsOutside to (taken s)
moved_apart pages from mid table root key node below leaves o n s to up =
    let moved : InnerNode = record node { page = to } in
    outside_of pages mid (grown_pages ((moved ∷ []) ∷ (raised_root root to ∷ []) ∷ []) below leaves) (taken s) to up.can.beside
    (node_there key (moved ∷ []) moved ((raised_root root to ∷ []) ∷ []) below leaves (least_picked key moved up.low up.can.least))

abbrev pub DividedRoot : (pages : ℕ) (mid next : Contents) (table root : ℕ) (key : ℤ) (node : InnerNode) (below : List (List InnerNode)) (leaves : List TreeLeaf) (s : Space) (to : ℕ) (entry : Entry) → Type 0
DividedRoot pages mid next table root key node below leaves s to entry = DividedUp pages mid next table root key (record node { page = to } ∷ []) ((raised_root root to ∷ []) ∷ []) below leaves (taken s) (record node { page = to }) entry

pub divided_root : (pages : ℕ) (mid next : Contents) (table root at : ℕ) (key : ℤ) (node : InnerNode) (below : List (List InnerNode)) (leaves : List TreeLeaf) (o : Name) (n : Entry) (s : Space) (to : ℕ) (entry : Entry) (from : Contents) → RaisedUp pages from mid table root key node below leaves o n s to → at ≡ suc (length below) → length node.names ≡ 336
    → IsInnerHalved pages next table to at (with_name (n.key, n.page.0) node.names) (taken s) entry → entry.page.0 < pages → KeepsPages (λ q. is_among q (0 ∷ entry.page.0 ∷ to ∷ [])) mid next → DividedRoot pages mid next table root key node below leaves s to entry
divided_root pages mid next table root at key node below leaves o n s to entry from up high full h inside keeps =
    let moved : InnerNode = record node { page = to } in
    goes_divided pages mid next table root at key (moved ∷ []) ((raised_root root to ∷ []) ∷ []) below leaves o n (taken s) moved entry up.can high (least_picked key moved up.low up.can.least) full h inside keeps

pub top_stands : (pages : ℕ) (mid next : Contents) (table root at : ℕ) (key : ℤ) (node : InnerNode) (below : List (List InnerNode)) (leaves : List TreeLeaf) (s : Space) (to : ℕ) (entry : Entry) → at ≡ suc (length below) → DividedRoot pages mid next table root key node below leaves s to entry → IsInnerPage (page_of next root) table root (at + 1) ((least_key, to) ∷ [])
top_stands pages mid next table root at key node below leaves s to entry high two =
    subst (λ (k : ℕ). IsInnerPage (page_of next root) table root k ((least_key, to) ∷ [])) (omega (arith, high)) two.can.lacks.parts.above.0.0

two_at_most : suc (suc zero) ≤ suc (suc zero)
two_at_most = omega arith

pub raised_whole : (pages : ℕ) (from mid next last : Contents) (table root at : ℕ) (key : ℤ) (node : InnerNode) (below : List (List InnerNode)) (leaves : List TreeLeaf) (o : Name) (n : Entry) (s : Space) (to : ℕ) (entry : Entry) → RaisedUp pages from mid table root key node below leaves o n s to → (two : DividedRoot pages mid next table root key node below leaves s to entry) → at ≡ suc (length below)
    → IsInnerPage (page_of last root) table root (at + 1) (with_name (entry.key, entry.page.0) ((least_key, to) ∷ [])) → KeepsPages (λ q. is_among q (root ∷ [])) next last → HasGoneUp pages from last table root ((node ∷ []) ∷ []) below leaves s
unfolding least_picked goes_in gone_through
raised_whole pages from mid next last table root at key node below leaves o n s to entry up two high stands keeps =
    let moved : InnerNode = record node { page = to } in
    let top : InnerNode = raised_root root to in
    let third = goes_in pages next last table root (at + 1) key (top ∷ []) [] (two.now ∷ below) leaves (moved.low, moved.page) entry (taken (taken s)) top two.can (omega (arith, high)) (least_picked key top refl two.can.least) stands keeps in
    let second = gone_through pages mid next last table root key (moved ∷ []) ((top ∷ []) ∷ []) below leaves (taken s) moved entry two third in
    record {
      up_now = second.up_now;
      below_now = second.below_now;
      whole = second.whole;
      count = suc second.count;
      few = two_at_most;
      has = taken_then pages from mid last (grown_pages ((node ∷ []) ∷ []) below leaves) (grown_pages ((moved ∷ []) ∷ (top ∷ []) ∷ []) below leaves) (grown_pages second.up_now second.below_now leaves) s second.count up.has second.has;
    }

-- ---- the steps at a page of the path

module _ (pages : ℕ) (old : Contents) (table root : ℕ) (key : ℤ) (path : Path) (at : ℕ) (up below : List (List InnerNode)) (leaves : List TreeLeaf) (o : Name) (n : Entry) (s : Space) (h : Here pages old table root key path at up below leaves o n s) where
  -- the page that the key goes on by
  abbrev pub spot_page : ℕ
  spot_page = slice_index path.pages at

  pub spot_apart : IsOutside spot_page s
  spot_apart =
      let all = grown_pages (h.level ∷ h.rest) below leaves in
      outside_of pages old all s spot_page h.can.beside (subst (λ (p : ℕ). 1 ≤ times p all) h.page_is (node_there key h.level h.node h.rest below leaves h.picked))

  pub room_in : (pages_now : ℕ) (mid new : Contents) → pages_now ≡ pages → mid ≡ old → IsInnerPage (page_of new spot_page) table spot_page at (with_name (n.key, n.page.0) h.node.names) → KeepsPages (λ q. is_among q (spot_page ∷ [])) mid new → HasGoneUp pages_now old new table root up below leaves s
  room_in pages_now mid new shape same stands keeps =
      let kept = subst (λ (c : Contents). KeepsPages (λ q. is_among q (spot_page ∷ [])) c new) same keeps in
      let gone = goes_in pages old new table root at key h.level h.rest below leaves o n s h.node h.can h.level_is h.picked
      (subst (λ (p : ℕ). IsInnerPage (page_of new p) table p at (with_name (n.key, n.page.0) h.node.names)) (sym h.page_is) stands) (subst (λ (p : ℕ). KeepsPages (λ q. is_among q (p ∷ [])) old new) (sym h.page_is) kept) in
      subst (λ (p : ℕ). HasGoneUp p old new table root up below leaves s) (sym shape) (subst (λ (u : List (List InnerNode)). HasGoneUp pages old new table root u below leaves s) (sym h.up_is) gone)

  pub divided_in : (pages_now : ℕ) (mid next : Contents) (entry : Entry) → pages_now ≡ pages → mid ≡ old → length h.node.names ≡ 336 → IsInnerHalved pages_now next table spot_page at (with_name (n.key, n.page.0) h.node.names) s entry → entry.page.0 < pages → KeepsPages (λ q. is_among q (0 ∷ entry.page.0 ∷ spot_page ∷ [])) mid next
      → DividedUp pages old next table root key h.level h.rest below leaves s h.node entry
  divided_in pages_now mid next entry shape same full halved inside keeps =
      let kept = subst (λ (c : Contents). KeepsPages (λ q. is_among q (0 ∷ entry.page.0 ∷ spot_page ∷ [])) c next) same keeps in
      let here = subst (λ (k : ℕ). IsInnerHalved k next table spot_page at (with_name (n.key, n.page.0) h.node.names) s entry) shape halved in
      goes_divided pages old next table root at key h.level h.rest below leaves o n s h.node entry h.can h.level_is h.picked full
      (subst (λ (p : ℕ). IsInnerHalved pages next table p at (with_name (n.key, n.page.0) h.node.names) s entry) (sym h.page_is) here) inside (subst (λ (p : ℕ). KeepsPages (λ q. is_among q (0 ∷ entry.page.0 ∷ p ∷ [])) old next) (sym h.page_is) kept)

  pub on_next : (now : List InnerNode) → IsOnPath key path (at + 1) h.rest (now ∷ below)
  on_next now =
      let level_is = h.level_is in
      let height_is = h.height_is in
      let more : suc at ≡ at + 1 = omega arith in
      record {
        pages_are = subst (λ (k : ℕ). IsPath key path.pages k h.rest) more h.next;
        level_is = omega (arith, level_is);
        height_is = omega (arith, height_is);
      }

  pub long_next : length up < free_pages pages s → suc (length h.rest) < free_pages pages s
  long_next less = let e = ap (λ (u : List (List InnerNode)). length u) h.up_is in omega (arith, less, e)

  pub through_in : (pages_now : ℕ) (next last : Contents) (entry : Entry) → pages_now ≡ pages → (d : DividedUp pages old next table root key h.level h.rest below leaves s h.node entry) → HasGoneUp pages_now next last table root h.rest (d.now ∷ below) leaves (taken s) → HasGoneUp pages_now old last table root up below leaves s
  through_in pages_now next last entry shape d gone =
      let here = subst (λ (p : ℕ). HasGoneUp p next last table root h.rest (d.now ∷ below) leaves (taken s)) shape gone in
      let whole = gone_through pages old next last table root key h.level h.rest below leaves s h.node entry d here in
      subst (λ (p : ℕ). HasGoneUp p old last table root up below leaves s) (sym shape) (subst (λ (u : List (List InnerNode)). HasGoneUp pages old last table root u below leaves s) (sym h.up_is) whole)

  -- the page is the root's
  pub record AtTop : Type 0 where
    pub up_is : up ≡ (h.node ∷ []) ∷ []
    pub root_is : spot_page ≡ root
    pub can : CanGoUp pages old table spot_page key ((h.node ∷ []) ∷ []) below leaves o n s

  pub at_top : path.height ≡ at → AtTop
  at_top high = by h.rest h.up_is h.can h.height_is
    where
      only : (a b : InnerNode) → pick_node key (a ∷ []) ≡ Some b → a ≡ b
      only a b is = one (int_le a.low key) is
        where
          one : (t : Bool) → or_else None (if t then Some a else None) ≡ Some b → a ≡ b
          one true is = let same : Some a ≡ Some b = is in cc
          one false is = absurd (let no : None ≡ Some b = is in cc)

      by : (rest : List (List InnerNode)) → up ≡ h.level ∷ rest → CanGoUp pages old table root key (h.level ∷ rest) below leaves o n s → path.height ≡ suc (length rest) + length below → AtTop
      by (other ∷ rest) up_is can height_is =
          let level_is = h.level_is in
          absurd (omega (arith, height_is, level_is, high))
      by [] up_is can height_is =
          let top = top_of root h.level can.lacks.upper.1 in
          let same : top.node ≡ h.node = only top.node h.node (subst (λ (l : List InnerNode). pick_node key l ≡ Some h.node) top.level_is h.picked) in
          let level_now : h.level ≡ h.node ∷ [] = top.level_is ∙ ap (λ (m : InnerNode). m ∷ []) same in
          let root_is : spot_page ≡ root = sym h.page_is ∙ ap (λ (m : InnerNode). m.page) (sym same) ∙ top.page_is in
          record {
            up_is = up_is ∙ ap (λ (l : List InnerNode). l ∷ []) level_now;
            root_is = root_is;
            can = subst (λ (r : ℕ). CanGoUp pages old table r key ((h.node ∷ []) ∷ []) below leaves o n s) (sym root_is) (subst (λ (l : List InnerNode). CanGoUp pages old table root key (l ∷ []) below leaves o n s) level_now can);
          }

  pub top_in : (pages_now : ℕ) (mid new : Contents) → mid ≡ old → (t : AtTop) → HasGoneUp pages_now mid new table spot_page ((h.node ∷ []) ∷ []) below leaves s → HasGoneUp pages_now old new table root up below leaves s
  top_in pages_now mid new same t gone =
      subst (λ (u : List (List InnerNode)). HasGoneUp pages_now old new table root u below leaves s) (sym t.up_is)
      (subst (λ (r : ℕ). HasGoneUp pages_now old new table r ((h.node ∷ []) ∷ []) below leaves s) t.root_is
      (subst (λ (c : Contents). HasGoneUp pages_now c new table spot_page ((h.node ∷ []) ∷ []) below leaves s) same gone))

-- a page that isn't full, and one that is
pub not_full : (count : ℕ) (said : Bool) → said ≡ nat_lt count 336 → said ≡ true → count < 336
not_full count said is yes_is = less count (sym is ∙ yes_is)
  where
    less : (count : ℕ) → nat_lt count 336 ≡ true → count < 336
    less count is = grind (arith, nat_tests, is)

pub is_full : (count : ℕ) (said : Bool) → said ≡ nat_lt count 336 → said ≡ false → count ≤ 336 → count ≡ 336
is_full count said is no_is most = same count (sym is ∙ no_is) most
  where
    same : (count : ℕ) → nat_lt count 336 ≡ false → count ≤ 336 → count ≡ 336
    same count is most = let more : 336 ≤ count = grind (arith, nat_tests, is) in omega (arith, more, most)
