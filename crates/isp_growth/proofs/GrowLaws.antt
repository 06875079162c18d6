-- A division on its way up: an entry that finds room, a page in two, a root that is raised.
use Rattle.std.proofs.Common.{◌≡◌, ℕ, zero, suc, ◌+◌, ◌<◌, ◌≤◌, ℤ, Bool, true, false, List, [], ◌∷◌, ◌++◌, drop, length, take, Some, refl, sym, ◌∙◌, ap, subst, arith, if◌then◌else◌}
use Rattle.std.specs.Prelude.{int_le, int_lt}
use Rattle.std.proofs.lemmas.List.{append_assoc, length-drop, length-take, take-append-drop}
use Rattle.isp_base.specs.Lists.{times}
use Rattle.isp_format.specs.Inner.{IsInnerPage, Name}
use Rattle.isp_format.specs.Ranges.{Contents, page_of}
use Rattle.isp_page.specs.State.{is_among}
use Rattle.isp_page.specs.Touched.{KeepsPages}
use Rattle.isp_levels.specs.Dividing.{first_low, left_names}
use Rattle.isp_levels.specs.Levels.{AllBegin, BeginsAt, InnerNode, IsUnder, Lead, NamesRise, TreeLeaf, entries_of, leaf_names, leaf_pages, least_key, level_pages, names_of, node_pages, pick_node}
use Rattle.isp_levels.proofs.DividingLaws.{entries_append, names_append}
use Rattle.isp_levels.proofs.LevelLaws.{lead_rises, leaves_rise, rise_first, rise_second}
use Rattle.isp_growth.specs.Entries.{beyond, up_to, with_name}
use Rattle.isp_growth.specs.Growing.{IsLacking, IsWhole, Linked, Parts, grown_pages}
use Rattle.isp_growth.proofs.SpotLaws.{StandsAt, name_put, stands_at}
use Rattle.isp_levels.proofs.PageLaws.{keeps_same, times_append}
use Rattle.isp_levels.proofs.StandLaws.{Same, leaves_same, levels_same, same_first, same_second}
use Rattle.isp_growth.proofs.SeamLaws.{grown_times}
use Rattle.isp_growth.proofs.StepLaws.{AreTaken, ChangesOne, level_changed, node_pages_append}

-- ---- lists

pub first_key_is : (a b : Name) (xs ys : List Name) → a ∷ xs ≡ b ∷ ys → a.0 ≡ b.0
first_key_is a b xs ys same = let is : a ≡ b = cc in ap (λ (n : Name). n.0) is

pub first_page_is : (a b : Name) (xs ys : List Name) → a ∷ xs ≡ b ∷ ys → a.1 ≡ b.1
first_page_is a b xs ys same = let is : a ≡ b = cc in ap (λ (n : Name). n.1) is

rise_without : (before after : List Name) (o n : Name) → NamesRise (before ++ (o ∷ n ∷ after)) → NamesRise (before ++ (o ∷ after))
rise_without [] after o n rises = (rises.0.1, rises.1.1)
rise_without (x ∷ before) after o n rises = (under_without x.0 before after rises.0, rise_without before after o n rises.1)
  where
    under_without : (key : ℤ) (before after : List Name) → IsUnder key (before ++ (o ∷ n ∷ after)) → IsUnder key (before ++ (o ∷ after))
    under_without key [] after under = (under.0, under.1.1)
    under_without key (x ∷ before) after under = (under.0, under_without key before after under.1)

entries_with : (left right : List InnerNode) (node : InnerNode) (first last before after : List Name) (o n : Name) → node.names ≡ first ++ (o ∷ n ∷ last) → before ≡ entries_of left ++ first → after ≡ last ++ entries_of right
    → entries_of (left ++ (node ∷ right)) ≡ before ++ (o ∷ n ∷ after)
entries_with left right node first last before after o n names before_is after_is =
    entries_append left (node ∷ right)
    ∙ (λ i. entries_of left ++ (names i ++ entries_of right))
    ∙ ap (λ (l : List Name). entries_of left ++ l) (append_assoc first (o ∷ n ∷ last) (entries_of right))
    ∙ sym (append_assoc (entries_of left) first (o ∷ n ∷ (last ++ entries_of right)))
    ∙ (λ i. sym before_is i ++ (o ∷ n ∷ sym after_is i))

names_with : (left right : List InnerNode) (node other : InnerNode) → other.low ≡ node.low → other.page ≡ node.page → names_of (left ++ (other ∷ right)) ≡ names_of (left ++ (node ∷ right))
names_with left right node other low page =
    names_append left (other ∷ right) ∙ (λ i. names_of left ++ ((low i, page i) ∷ names_of right)) ∙ sym (names_append left (node ∷ right))

begins_more : (low : ℤ) (first last : List Name) (o n : Name) → BeginsAt low (first ++ (o ∷ last)) → BeginsAt low (first ++ (o ∷ n ∷ last))
begins_more low [] last o n begins = begins
begins_more low (x ∷ first) last o n begins = begins

two_more : (first last : List Name) (o n : Name) → 2 ≤ length (first ++ (o ∷ n ∷ last))
two_more [] last o n = omega arith
two_more (x ∷ first) last o n = let rest = two_more first last o n in omega (arith, rest)

begin_in : (left right : List InnerNode) (node : InnerNode) → AllBegin (left ++ (node ∷ right)) → BeginsAt node.low node.names
begin_in [] right node all = all.0
begin_in (x ∷ left) right node all = begin_in left right node all.1

pub with_long : (n : Name) (names : List Name) → length (with_name n names) ≡ suc (length names)
with_long n [] = refl
with_long n (x ∷ names) = by (int_le x.0 n.0) (with_long n names)
  where
    by : (b : Bool) → length (with_name n names) ≡ suc (length names)
        → length ((if b then x ∷ up_to n.0 names else []) ++ (n ∷ (if b then beyond n.0 names else x ∷ names))) ≡ suc (suc (length names))
    by true rest = ap suc rest
    by false rest = refl

-- ---- the page that the entry belongs to

pub record Spot (pages : ℕ) (old : Contents) (table root : ℕ) (key : ℤ) (level : List InnerNode) (up below : List (List InnerNode)) (leaves : List TreeLeaf) (o n : Name) (node : InnerNode) (before after : List Name) : Type 0 where
  pub at : StandsAt key level before after o node
  pub begins : BeginsAt node.low node.names
  pub whole : NamesRise (before ++ (o ∷ n ∷ after))
  pub names_now : with_name n node.names ≡ at.first ++ (o ∷ n ∷ at.last)

pub spot : (pages : ℕ) (old : Contents) (table root : ℕ) (key : ℤ) (level : List InnerNode) (up below : List (List InnerNode)) (leaves : List TreeLeaf) (o n : Name) (node : InnerNode) (l : IsLacking pages old table root key (level ∷ up) below leaves o n) → pick_node key level ≡ Some node
    → Spot pages old table root key level up below leaves o n node l.before l.after
spot pages old table root key level up below leaves o n node l picked =
    let p = l.parts in
    let whole : NamesRise (l.before ++ (o ∷ n ∷ l.after)) = lead_rises (l.before ++ (o ∷ n ∷ l.after)) below (leaf_names leaves) l.lower p.begin_below (leaves_rise leaves p.ranged) in
    let rises : NamesRise (entries_of level) = subst NamesRise (sym l.upper.0) (rise_without l.before l.after o n whole) in
    let at = stands_at key level l.before l.after o node p.begin_up.0 rises picked l.upper.0 l.near l.under in
    let other : InnerNode = record { low = node.low; page = node.page; names = at.first ++ (o ∷ n ∷ at.last) } in
    let entries : entries_of at.left ++ (other.names ++ entries_of at.right) ≡ l.before ++ (o ∷ n ∷ l.after) = sym (entries_append at.left (other ∷ at.right)) ∙ entries_with at.left at.right other at.first at.last l.before l.after o n refl at.before_is at.after_is in
    let here : NamesRise (entries_of at.left ++ (other.names ++ entries_of at.right)) = subst NamesRise (sym entries) whole in
    let names_rise : NamesRise (at.first ++ (o ∷ n ∷ at.last)) = rise_first other.names (entries_of at.right) (rise_second (entries_of at.left) (other.names ++ entries_of at.right) here) in
    record {
      at = at;
      begins = begin_in at.left at.right node (subst AllBegin at.level_is p.begin_up.0);
      whole = whole;
      names_now = ap (with_name n) at.names_are ∙ name_put at.first at.last o n names_rise;
    }

-- ---- an entry finds room

none_taken : (pages : ℕ) (all : List ℕ) → ((page : ℕ) → times page all ≤ 1) → AreTaken pages all []
none_taken pages all once = record { inside = λ page some. absurd (omega (arith, some)); once = λ page. let few = once page in omega (arith, few) }

pub record IsPutUp (pages : ℕ) (new : Contents) (table root : ℕ) (up below : List (List InnerNode)) (leaves : List TreeLeaf) (all : List ℕ) : Type 0 where
  pub level : List InnerNode
  pub whole : IsWhole pages new table root up (level ∷ below) leaves
  pub pages_are : (page : ℕ) → times page (grown_pages up (level ∷ below) leaves) ≡ times page all

pub entry_grown : (pages : ℕ) (old new : Contents) (table root : ℕ) (key : ℤ) (level : List InnerNode) (up below : List (List InnerNode)) (leaves : List TreeLeaf) (o n : Name) (node : InnerNode) (ps : List ℕ) → IsLacking pages old table root key (level ∷ up) below leaves o n → pick_node key level ≡ Some node
    → IsInnerPage (page_of new node.page) table node.page (suc (length below)) (with_name n node.names) → ChangesOne ps node.page (grown_pages (level ∷ up) below leaves) → KeepsPages (λ page. is_among page ps) old new
    → IsPutUp pages new table root up below leaves (grown_pages (level ∷ up) below leaves)
entry_grown pages old new table root key level up below leaves o n node ps l picked stands one keeps =
    let p = l.parts in
    let s = spot pages old table root key level up below leaves o n node l picked in
    let at = s.at in
    let now : InnerNode = record node { names = with_name n node.names } in
    let begins : BeginsAt now.low now.names = subst (BeginsAt node.low) (sym s.names_now) (begins_more node.low at.first at.last o n (subst (BeginsAt node.low) at.names_are s.begins)) in
    let two : 2 ≤ length now.names = subst (λ (l : List Name). 2 ≤ length l) (sym s.names_now) (two_more at.first at.last o n) in
    let entries = entries_with at.left at.right now at.first at.last l.before l.after o n s.names_now at.before_is at.after_is in
    let names : names_of (at.left ++ (now ∷ at.right)) ≡ names_of level = names_with at.left at.right node now refl refl ∙ sym (ap names_of at.level_is) in
    record {
      level = at.left ++ (now ∷ at.right);
      whole = record {
        seam = names_of (at.left ++ (now ∷ at.right));
        upper = subst (Linked root up) (sym names) l.upper.1;
        lower = (refl, subst (λ (e : List Name). Lead e below (leaf_names leaves)) (sym entries) l.lower);
        parts = level_changed pages old new table level at.left at.right (now ∷ []) node up below leaves ps [] p at.level_is refl (begins, tt) (two, tt) (stands, tt) (none_taken pages (grown_pages (level ∷ up) below leaves) p.once) one keeps;
      };
      pages_are = λ q.
          let a = grown_times q up ((at.left ++ (now ∷ at.right)) ∷ below) leaves in
          let b = grown_times q (level ∷ up) below leaves in
          let c = times_append q (node_pages (at.left ++ (now ∷ at.right))) (level_pages below) in
          let d = times_append q (node_pages level) (level_pages up) in
          let e = ap (times q) (node_pages_append at.left (now ∷ at.right)) in
          let f = ap (λ (l : List InnerNode). times q (node_pages l)) at.level_is in
          let g = ap (times q) (node_pages_append at.left (node ∷ at.right)) in
          omega (arith, a, b, c, d, e, f, g);
    }

-- ---- a page in two

pub record IsDividedUp (pages : ℕ) (new : Contents) (table root : ℕ) (key : ℤ) (up below : List (List InnerNode)) (leaves : List TreeLeaf) (o n : Name) (all : List ℕ) (taken : ℕ) : Type 0 where
  pub level : List InnerNode
  pub lacks : IsLacking pages new table root key up (level ∷ below) leaves o n
  pub pages_are : (page : ℕ) → times page (grown_pages up (level ∷ below) leaves) ≡ times page all + times page (taken ∷ [])

begins_take : (low : ℤ) (names : List Name) → BeginsAt low names → BeginsAt low (take left_names names)
begins_take low [] begins = absurd begins
begins_take low (x ∷ names) begins = begins

first_begins : (low : ℤ) (names : List Name) → 1 ≤ length names → BeginsAt (first_low low names) names
first_begins low [] some = absurd (omega (arith, some))
first_begins low (x ∷ names) some = refl

pub node_grown : (pages : ℕ) (old new : Contents) (table root : ℕ) (key : ℤ) (level : List InnerNode) (up below : List (List InnerNode)) (leaves : List TreeLeaf) (o n : Name) (node : InnerNode) (ps : List ℕ) (taken : ℕ) → IsLacking pages old table root key (level ∷ up) below leaves o n → pick_node key level ≡ Some node → length node.names ≡ 336
    → IsInnerPage (page_of new node.page) table node.page (suc (length below)) (take left_names (with_name n node.names)) → IsInnerPage (page_of new taken) table taken (suc (length below)) (drop left_names (with_name n node.names))
    → AreTaken pages (grown_pages (level ∷ up) below leaves) (taken ∷ []) → ChangesOne ps node.page (grown_pages (level ∷ up) below leaves) → KeepsPages (λ page. is_among page ps) old new
    → IsDividedUp pages new table root key up below leaves (node.low, node.page) (first_low least_key (drop left_names (with_name n node.names)), taken) (grown_pages (level ∷ up) below leaves) taken
node_grown pages old new table root key level up below leaves o n node ps taken l picked full stands_left stands_right are one keeps =
    let p = l.parts in
    let s = spot pages old table root key level up below leaves o n node l picked in
    let at = s.at in
    let names : List Name = with_name n node.names in
    let long : length names ≡ 337 = with_long n node.names ∙ ap suc full in
    let left : InnerNode = record node { names = take left_names names } in
    let right : InnerNode = record { low = first_low least_key (drop left_names names); page = taken; names = drop left_names names } in
    let left_long = length-take left_names names in
    let right_long = length-drop left_names names in
    let begins : BeginsAt node.low names = subst (BeginsAt node.low) (sym s.names_now) (begins_more node.low at.first at.last o n (subst (BeginsAt node.low) at.names_are s.begins)) in
    let some : 1 ≤ length right.names = omega (arith, right_long, long) in
    let two_left : 2 ≤ length left.names = omega (arith, left_long, long) in
    let two_right : 2 ≤ length right.names = omega (arith, right_long, long) in
    let whole : InnerNode = record node { names = names } in
    let joined : take left_names names ++ drop left_names names ≡ names = take-append-drop left_names names in
    let entries : entries_of (at.left ++ (left ∷ right ∷ at.right)) ≡ l.before ++ (o ∷ n ∷ l.after) =
    entries_append at.left (left ∷ right ∷ at.right)
    ∙ ap (λ (m : List Name). entries_of at.left ++ m) (sym (append_assoc left.names right.names (entries_of at.right)) ∙ ap (λ (m : List Name). m ++ entries_of at.right) joined)
    ∙ sym (entries_append at.left (whole ∷ at.right))
    ∙ entries_with at.left at.right whole at.first at.last l.before l.after o n s.names_now at.before_is at.after_is in
    let stood : names_of level ≡ names_of at.left ++ ((node.low, node.page) ∷ names_of at.right) = ap names_of at.level_is ∙ names_append at.left (node ∷ at.right) in
    record {
      level = at.left ++ (left ∷ right ∷ at.right);
      lacks = record {
        before = names_of at.left;
        after = names_of at.right;
        upper = subst (Linked root up) stood l.upper.1;
        lower = (names_append at.left (left ∷ right ∷ at.right), subst (λ (e : List Name). Lead e below (leaf_names leaves)) (sym entries) l.lower);
        near = at.near;
        under = at.under;
        parts = level_changed pages old new table level at.left at.right (left ∷ right ∷ []) node up below leaves ps (taken ∷ []) p at.level_is refl (begins_take node.low names begins, (first_begins least_key right.names some, tt)) (two_left, (two_right, tt)) (stands_left, (stands_right, tt)) are one keeps;
      };
      pages_are = λ q.
          let a = grown_times q up ((at.left ++ (left ∷ right ∷ at.right)) ∷ below) leaves in
          let b = grown_times q (level ∷ up) below leaves in
          let c = times_append q (node_pages (at.left ++ (left ∷ right ∷ at.right))) (level_pages below) in
          let d = times_append q (node_pages level) (level_pages up) in
          let e = ap (times q) (node_pages_append at.left (left ∷ right ∷ at.right)) in
          let f = ap (λ (l : List InnerNode). times q (node_pages l)) at.level_is in
          let g = ap (times q) (node_pages_append at.left (node ∷ at.right)) in
          let h = times_append q (node_pages at.left) (node.page ∷ taken ∷ node_pages at.right) in
          let i = times_append q (node_pages at.left) (node.page ∷ node_pages at.right) in
          omega (arith, a, b, c, d, e, f, g, h, i);
    }

-- ---- a root that is raised

abbrev pub raised_root : ℕ → ℕ → InnerNode
raised_root root page = record { low = least_key; page = root; names = (least_key, page) ∷ [] }

pub root_grown : (pages : ℕ) (old new : Contents) (table root : ℕ) (key : ℤ) (node : InnerNode) (below : List (List InnerNode)) (leaves : List TreeLeaf) (o n : Name) (taken : ℕ) (ps : List ℕ) → IsLacking pages old table root key ((node ∷ []) ∷ []) below leaves o n → int_lt key least_key ≡ false
    → 2 ≤ length node.names → length below + 1 < 15 → IsInnerPage (page_of new taken) table taken (suc (length below)) node.names → IsInnerPage (page_of new root) table root (suc (suc (length below))) ((least_key, taken) ∷ [])
    → AreTaken pages (grown_pages ((node ∷ []) ∷ []) below leaves) (taken ∷ []) → ChangesOne ps root (grown_pages ((node ∷ []) ∷ []) below leaves) → KeepsPages (λ page. is_among page ps) old new
    → IsLacking pages new table root key ((record node { page = taken } ∷ []) ∷ (raised_root root taken ∷ []) ∷ []) below leaves o n
root_grown pages old new table root key node below leaves o n taken ps l from two low stands_moved stands_root are one keeps = record {
  before = l.before;
  after = l.after;
  upper = (l.upper.0, ((λ i. (sym name_low i, taken) ∷ []), refl));
  lower = l.lower;
  near = l.near;
  under = l.under;
  parts = record {
    begin_up = ((p.begin_up.0.0, tt), ((refl, tt), tt));
    begin_below = p.begin_below;
    forked = (((two, tt), tt), p.forked.1);
    ranged = p.ranged;
    above = ((stands_moved, tt), ((stands_root, tt), tt));
    inner = levels_same old new table below (same_first (level_pages below) [] old new (same_second (leaf_pages leaves) (level_pages below ++ []) old new same)) p.inner;
    stand = leaves_same old new table leaves (same_first (leaf_pages leaves) (level_pages below ++ []) old new same) p.stand;
    inside = λ page some. by_inside page (let e = now_times page in omega (arith, some, e));
    once = λ page. let few = are.once page in let e = now_times page in omega (arith, few, e);
    most = omega (arith, low);
  };
}
  where
    p : Parts pages old table ((node ∷ []) ∷ []) below leaves
    p = l.parts

    name_is : ◌≡◌ {A = List Name} ((node.low, node.page) ∷ []) ((least_key, root) ∷ [])
    name_is = l.upper.1

    name_low : node.low ≡ least_key
    name_low = first_key_is (node.low, node.page) (least_key, root) [] [] name_is

    name_page : node.page ≡ root
    name_page = first_page_is (node.low, node.page) (least_key, root) [] [] name_is

    others : List ℕ
    others = leaf_pages leaves ++ (level_pages below ++ [])

    all : List ℕ
    all = grown_pages ((node ∷ []) ∷ []) below leaves

    root_once : (q : ℕ) → times q (node.page ∷ []) ≡ times q (root ∷ [])
    root_once q = ap (λ (r : ℕ). times q (r ∷ [])) name_page

    others_times : (q : ℕ) → times q all ≡ times q (root ∷ []) + times q others
    others_times q =
        let a = grown_times q ((node ∷ []) ∷ []) below leaves in
        let b = times_append q (leaf_pages leaves) (level_pages below ++ []) in
        let c = times_append q (level_pages below) [] in
        let d = root_once q in
        let e = times_append q (node.page ∷ []) [] in
        omega (arith, a, b, c, d, e)

    same : Same others old new
    same = keeps_same ps others old new (one others others_times) keeps

    now_times : (q : ℕ) → times q (grown_pages ((record node { page = taken } ∷ []) ∷ (raised_root root taken ∷ []) ∷ []) below leaves) ≡ times q all + times q (taken ∷ [])
    now_times q =
        let a = grown_times q ((record node { page = taken } ∷ []) ∷ (raised_root root taken ∷ []) ∷ []) below leaves in
        let b = grown_times q ((node ∷ []) ∷ []) below leaves in
        let d = root_once q in
        omega (arith, a, b, d)

    by_inside : (page : ℕ) → 1 ≤ times page all + times page (taken ∷ []) → (16 ≤ page) × (page < pages)
    by_inside page some = either (times page all) (times page (taken ∷ [])) some (p.inside page) (are.inside page)
      where
        either : (a b : ℕ) → 1 ≤ a + b → (1 ≤ a → (16 ≤ page) × (page < pages)) → (1 ≤ b → (16 ≤ page) × (page < pages)) → (16 ≤ page) × (page < pages)
        either zero b some first second = second (omega (arith, some))
        either (suc a) b some first second = first (omega arith)
