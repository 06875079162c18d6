-- Divisions: of a leaf, of a page above the leaves, of the root; and which rows go left.
use Rattle.std.proofs.Common.{◌≡◌, ℕ, zero, suc, ◌+◌, ◌*◌, ◌<◌, ◌≤◌, Bool, true, false, List, [], ◌∷◌, ◌++◌, drop, length, take, refl, sym, ◌∙◌, ap, subst, arith, if◌then◌else◌}
use Rattle.std.specs.Prelude.{All, nat_le}
use Rattle.std.proofs.lemmas.Bool.Decides.{nat_tests}
use Rattle.std.proofs.lemmas.List.{append_assoc}
use Rattle.isp_format.specs.Inner.{Name}
use Rattle.isp_format.specs.Leaf.{IsStored, Stored, slot_of}
use Rattle.isp_levels.specs.Dividing.{LacksOne, halves, left_rows}
use Rattle.isp_levels.specs.Levels.{InnerNode, Lead, entries_of, leaf_names, led_to, names_of, TreeLeaf, least_key}
use Rattle.isp_cells.specs.Rows.{bytes_in}

-- ---- lists of pages one behind another

pub names_append : (xs ys : List InnerNode) → names_of (xs ++ ys) ≡ names_of xs ++ names_of ys
names_append [] ys = refl
names_append (x ∷ xs) ys = ap (λ (names : List Name). (x.low, x.page) ∷ names) (names_append xs ys)

pub entries_append : (xs ys : List InnerNode) → entries_of (xs ++ ys) ≡ entries_of xs ++ entries_of ys
entries_append [] ys = refl
entries_append (x ∷ xs) ys = ap (λ (names : List Name). x.names ++ names) (entries_append xs ys) ∙ sym (append_assoc x.names (entries_of xs) (entries_of ys))

pub leaf_names_append : (xs ys : List TreeLeaf) → leaf_names (xs ++ ys) ≡ leaf_names xs ++ leaf_names ys
leaf_names_append [] ys = refl
leaf_names_append (x ∷ xs) ys = ap (λ (names : List Name). (x.low, x.page) ∷ names) (leaf_names_append xs ys)

-- ---- levels one below another

pub lead_on : (names : List Name) (above below : List (List InnerNode)) (mid out : List Name) → Lead names above mid → Lead mid below out → Lead names (above ++ below) out
lead_on names [] below mid out first second = subst (λ (l : List Name). Lead l below out) (sym first) second
lead_on names (level ∷ above) below mid out first second = (first.0, lead_on (entries_of level) above below mid out first.1 second)

pub lead_above : (names : List Name) (above below : List (List InnerNode)) (out : List Name) → Lead names (above ++ below) out → Lead names above (led_to names above)
lead_above names [] below out leads = refl
lead_above names (level ∷ above) below out leads = (leads.0, lead_above (entries_of level) above below out leads.1)

pub lead_below : (names : List Name) (above below : List (List InnerNode)) (out : List Name) → Lead names (above ++ below) out → Lead (led_to names above) below out
lead_below names [] below out leads = leads
lead_below names (level ∷ above) below out leads = lead_below (entries_of level) above below out leads.1

-- ---- a division on its way up

-- a leaf is divided: the levels above lack the right part
pub leaf_divided : (root : ℕ) (levels : List (List InnerNode)) (before after : List TreeLeaf) (leaf left right : TreeLeaf) → Lead ((least_key, root) ∷ []) levels (leaf_names (before ++ (leaf ∷ after))) → left.low ≡ leaf.low → left.page ≡ leaf.page
    → LacksOne root levels [] (before ++ (left ∷ right ∷ after)) (leaf.low, leaf.page) (right.low, right.page)
leaf_divided root levels before after leaf left right leads low page = record {
  before = leaf_names before;
  after = leaf_names after;
  upper = subst (λ (l : List Name). Lead ((least_key, root) ∷ []) levels l) (leaf_names_append before (leaf ∷ after)) leads;
  lower = sym (leaf_names_append before (left ∷ right ∷ after) ∙ (λ i. leaf_names before ++ ((low i, page i) ∷ (right.low, right.page) ∷ leaf_names after)));
}

-- how the entry of a page that was divided stands on the level above
pub record StandsAt (level : List InnerNode) (before after : List Name) (old : Name) : Type 0 where
  pub left : List InnerNode
  pub node : InnerNode
  pub right : List InnerNode
  pub first : List Name
  pub last : List Name
  pub level_is : level ≡ left ++ (node ∷ right)
  pub names_are : node.names ≡ first ++ (old ∷ last)
  pub before_is : before ≡ entries_of left ++ first
  pub after_is : after ≡ last ++ entries_of right

-- the page above has the new entry directly behind the old one
abbrev pub with_entry : List Name → Name → Name → List Name → List Name
with_entry first old new last = first ++ (old ∷ new ∷ last)

entries_with : (left right : List InnerNode) (node : InnerNode) (first last before after : List Name) (old new : Name) → node.names ≡ with_entry first old new last → before ≡ entries_of left ++ first → after ≡ last ++ entries_of right
    → entries_of (left ++ (node ∷ right)) ≡ before ++ (old ∷ new ∷ after)
entries_with left right node first last before after old new names before_is after_is =
    entries_append left (node ∷ right)
    ∙ (λ i. entries_of left ++ (names i ++ entries_of right))
    ∙ ap (λ (l : List Name). entries_of left ++ l) (append_assoc first (old ∷ new ∷ last) (entries_of right))
    ∙ sym (append_assoc (entries_of left) first (old ∷ new ∷ (last ++ entries_of right)))
    ∙ (λ i. sym before_is i ++ (old ∷ new ∷ sym after_is i))

level_names : (left right : List InnerNode) (node other : InnerNode) → other.low ≡ node.low → other.page ≡ node.page → names_of (left ++ (other ∷ right)) ≡ names_of (left ++ (node ∷ right))
level_names left right node other low page =
    names_append left (other ∷ right) ∙ (λ i. names_of left ++ ((low i, page i) ∷ names_of right)) ∙ sym (names_append left (node ∷ right))

-- the page above takes the new entry: the levels lead down again
pub entry_put : (root : ℕ) (above below : List (List InnerNode)) (level : List InnerNode) (leaves : List TreeLeaf) (old new : Name) (l : LacksOne root (above ++ level ∷ []) below leaves old new) (at : StandsAt level l.before l.after old) (other : InnerNode)
    → other.low ≡ at.node.low → other.page ≡ at.node.page → other.names ≡ with_entry at.first old new at.last
    → Lead ((least_key, root) ∷ []) (above ++ ((at.left ++ (other ∷ at.right)) ∷ below)) (leaf_names leaves)
entry_put root above below level leaves old new l at other low page names =
    let top : List Name = (least_key, root) ∷ [] in
    let down = lead_below top above (level ∷ []) _ l.upper in
    let same : names_of (at.left ++ (other ∷ at.right)) ≡ led_to top above = level_names at.left at.right at.node other low page ∙ sym (ap names_of at.level_is) ∙ down.0 in
    let entries = entries_with at.left at.right other at.first at.last l.before l.after old new names at.before_is at.after_is in
    lead_on top above ((at.left ++ (other ∷ at.right)) ∷ below) (led_to top above) (leaf_names leaves) (lead_above top above (level ∷ []) _ l.upper)
    (same, subst (λ (n : List Name). Lead n below (leaf_names leaves)) (sym entries) l.lower)

-- the page above would have too many entries and is divided itself: the levels above it lack its right half
pub node_divided : (root : ℕ) (above below : List (List InnerNode)) (level : List InnerNode) (leaves : List TreeLeaf) (old new : Name) (l : LacksOne root (above ++ level ∷ []) below leaves old new) (at : StandsAt level l.before l.after old) (left right : InnerNode)
    → left.low ≡ at.node.low → left.page ≡ at.node.page → left.names ++ right.names ≡ with_entry at.first old new at.last
    → LacksOne root above ((at.left ++ (left ∷ right ∷ at.right)) ∷ below) leaves (at.node.low, at.node.page) (right.low, right.page)
node_divided root above below level leaves old new l at left right low page names =
    let top : List Name = (least_key, root) ∷ [] in
    let down = lead_below top above (level ∷ []) _ l.upper in
    let stood : led_to top above ≡ names_of at.left ++ ((at.node.low, at.node.page) ∷ names_of at.right) = sym down.0 ∙ ap names_of at.level_is ∙ names_append at.left (at.node ∷ at.right) in
    let whole : InnerNode = record { low = at.node.low; page = at.node.page; names = left.names ++ right.names } in
    let entries : entries_of (at.left ++ (left ∷ right ∷ at.right)) ≡ l.before ++ (old ∷ new ∷ l.after) =
    entries_append at.left (left ∷ right ∷ at.right)
    ∙ ap (λ (n : List Name). entries_of at.left ++ n) (sym (append_assoc left.names right.names (entries_of at.right)))
    ∙ sym (entries_append at.left (whole ∷ at.right))
    ∙ entries_with at.left at.right whole at.first at.last l.before l.after old new names at.before_is at.after_is in
    record {
      before = names_of at.left;
      after = names_of at.right;
      upper = subst (λ (n : List Name). Lead top above n) stood (lead_above top above (level ∷ []) _ l.upper);
      lower = (names_append at.left (left ∷ right ∷ at.right) ∙ (λ i. names_of at.left ++ ((low i, page i) ∷ (right.low, right.page) ∷ names_of at.right)), subst (λ (n : List Name). Lead n below (leaf_names leaves)) (sym entries) l.lower);
    }

-- ---- a root is raised: what stood on its page moves, and its page gets one entry

pub leaf_raised : (root page : ℕ) (leaf : TreeLeaf) → leaf.low ≡ least_key → Lead ((least_key, root) ∷ []) ((record { low = least_key; page = root; names = (least_key, page) ∷ [] } ∷ []) ∷ []) (leaf_names (record leaf { page = page } ∷ []))
leaf_raised root page leaf low = (refl, λ i. (sym low i, page) ∷ [])

pub node_raised : (root page : ℕ) (node : InnerNode) (levels : List (List InnerNode)) (below : List Name) → Lead ((least_key, root) ∷ []) ((node ∷ []) ∷ levels) below → node.low ≡ least_key
    → Lead ((least_key, root) ∷ []) ((record { low = least_key; page = root; names = (least_key, page) ∷ [] } ∷ []) ∷ (record node { page = page } ∷ []) ∷ levels) below
node_raised root page node levels below leads low = (refl, ((λ i. (low i, page) ∷ []), leads.1))

-- ---- which rows go left

-- the rows that go left, and those that go right, are some; neither part is longer than half of all and one row more
pub record IsHalved (rows : List Stored) (count : ℕ) : Type 0 where
  pub left_some : 1 ≤ count
  pub right_some : count < length rows
  pub left_few : 2 * bytes_in (take count rows) ≤ bytes_in rows + 2 * 1013
  pub right_few : 2 * bytes_in (drop count rows) ≤ bytes_in rows

-- the same where rows of so many bytes went left before
record IsParted (all before : ℕ) (rows : List Stored) (count : ℕ) : Type 0 where
  left_some : 1 ≤ count
  right_some : count < length rows
  most : 2 * (before + bytes_in (take count rows)) ≤ all + 2 * 1013
  least : all ≤ 2 * (before + bytes_in (take count rows))

bytes_parted : (count : ℕ) (rows : List Stored) → bytes_in (take count rows) + bytes_in (drop count rows) ≡ bytes_in rows
bytes_parted count [] = none count
  where
    none : (count : ℕ) → bytes_in (take count []) + bytes_in (drop count []) ≡ 0
    none zero = refl
    none (suc n) = refl
bytes_parted zero (s ∷ rows) = zero_and (bytes_in (s ∷ rows))
  where
    zero_and : (n : ℕ) → 0 + n ≡ n
    zero_and n = omega arith
bytes_parted (suc n) (s ∷ rows) = let rest = bytes_parted n rows in omega (arith, rest)

part : (all before : ℕ) (rows : List Stored) → All IsStored rows → before + bytes_in rows ≡ all → 2 * before < all → 2026 < all → IsParted all before rows (left_rows all before rows)
part all before [] each whole less large = absurd (omega (arith, whole, less))
part all before (s ∷ rows) each whole less large =
    by (nat_le all (2 * (before + (13 + slot_of s)))) refl rows refl (λ fits. part all (before + (13 + slot_of s)) rows (λ k d h. each (suc k) d (omega (arith, h))) (omega (arith, whole)) fits large)
  where
    slot : slot_of s ≤ 1000
    slot = (each 0 s (omega arith)).slot

    reached : (a b : ℕ) → nat_le a b ≡ true → a ≤ b
    reached a b is = grind (arith, nat_tests)

    not_reached : (a b : ℕ) → nat_le a b ≡ false → b < a
    not_reached a b is = grind (arith, nat_tests)

    by : (b : Bool) → nat_le all (2 * (before + (13 + slot_of s))) ≡ b → (rest : List Stored) → rows ≡ rest → (2 * (before + (13 + slot_of s)) < all → IsParted all (before + (13 + slot_of s)) rows (left_rows all (before + (13 + slot_of s)) rows))
        → IsParted all before (s ∷ rows) (if b then 1 else suc (left_rows all (before + (13 + slot_of s)) rows))
    by true is [] none below =
        let few = slot in
        let bytes : bytes_in rows ≡ 0 = ap (λ (l : List Stored). bytes_in l) none in
        absurd (omega (arith, whole, less, large, few, bytes))
    by true is (t ∷ rest) some below =
        let few = slot in
        let near = reached _ _ is in
        let long : length rows ≡ suc (length rest) = ap (λ (l : List Stored). length l) some in
        record {
          left_some = omega arith;
          right_some = omega (arith, long);
          most = omega (arith, less, few);
          least = omega (arith, near);
        }
    by false is rest some below =
        let p = below (not_reached _ _ is) in
        let left = p.left_some in
        let right = p.right_some in
        let most = p.most in
        let least = p.least in
        record {
          left_some = omega arith;
          right_some = omega (arith, right);
          most = omega (arith, most);
          least = omega (arith, least);
        }

-- rows that have no room on one page are parted well
pub halved : (rows : List Stored) → All IsStored rows → 4032 < bytes_in rows → IsHalved rows (halves rows)
halved rows each large =
    let p = part (bytes_in rows) 0 rows each (omega arith) (omega (arith, large)) (omega (arith, large)) in
    let most = p.most in
    let least = p.least in
    let both = bytes_parted (halves rows) rows in
    record {
      left_some = p.left_some;
      right_some = p.right_some;
      left_few = omega (arith, most);
      right_few = omega (arith, least, both);
    }
