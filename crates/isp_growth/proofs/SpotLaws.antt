-- The entry that a key goes on by, among the entries of a level; and an entry more behind it.
use Rattle.std.proofs.Common.{◌≡◌, ℤ, Bool, true, false, List, [], ◌∷◌, ◌++◌, Option, Some, None, refl, sym, ◌∙◌, ap, subst, arith, if◌then◌else◌}
use Rattle.std.specs.Prelude.{int_le, int_lt}
use Rattle.std.proofs.lemmas.Int.{ints}
use Rattle.std.proofs.lemmas.List.{append_assoc}
use Rattle.isp_format.specs.Inner.{Name}
use Rattle.isp_levels.specs.Levels.{AllBegin, BeginsAt, InnerNode, IsUnder, NamesRise, entries_of, names_of, or_else, pick, pick_node}
use Rattle.isp_levels.proofs.DividingLaws.{entries_append}
use Rattle.isp_levels.proofs.LevelLaws.{rise_first, rise_second}
use Rattle.isp_growth.specs.Entries.{beyond, up_to, with_name}

near_from : (low key : ℤ) → int_le low key ≡ true → int_lt key low ≡ false
near_from low key is = grind (arith, ints)

far_below : (low key : ℤ) → int_le low key ≡ false → int_lt key low ≡ true
far_below low key is = grind (arith, ints)

-- a list of entries, parted behind the last one that begins at the key or before it
pub record IsSpot (key : ℤ) (names : List Name) (name : Name) : Type 0 where
  pub before : List Name
  pub after : List Name
  pub is : names ≡ before ++ (name ∷ after)
  pub near : int_lt key name.0 ≡ false
  pub under : IsUnder key after

none_under : (key : ℤ) (names : List Name) → pick key names ≡ None → IsUnder key names
none_under key [] is = tt
none_under key (name ∷ names) is = by (pick key names) (int_le name.0 key) refl refl is (none_under key names)
  where
    by : (o : Option Name) (b : Bool) → pick key names ≡ o → int_le name.0 key ≡ b → or_else o (if b then Some name else None) ≡ None → (pick key names ≡ None → IsUnder key names) → IsUnder key (name ∷ names)
    by (Some n) b below near same deeper = absurd (let no : Some n ≡ None = same in cc)
    by None true below near same deeper = absurd (let no : Some name ≡ None = same in cc)
    by None false below near same deeper = (far_below name.0 key near, deeper below)

pub name_spot : (key : ℤ) (names : List Name) (n : Name) → pick key names ≡ Some n → IsSpot key names n
name_spot key [] n is = absurd (let no : None ≡ Some n = is in cc)
name_spot key (name ∷ names) n is = by (pick key names) (int_le name.0 key) refl refl is (name_spot key names n)
  where
    by : (o : Option Name) (b : Bool) → pick key names ≡ o → int_le name.0 key ≡ b → or_else o (if b then Some name else None) ≡ Some n → (pick key names ≡ Some n → IsSpot key names n) → IsSpot key (name ∷ names) n
    by (Some m) b below near same deeper =
        let at = deeper (below ∙ same) in
        record { before = name ∷ at.before; after = at.after; is = λ i. name ∷ at.is i; near = at.near; under = at.under }
    by None true below near same deeper =
        let name_is : name ≡ n = cc in
        subst (λ (m : Name). IsSpot key (name ∷ names) m) name_is (record { before = []; after = names; is = refl; near = near_from name.0 key near; under = none_under key names below })
    by None false below near same deeper = absurd (let no : None ≡ Some n = same in cc)

-- a level, parted behind the last page that begins at the key or before it
pub record IsNodeSpot (key : ℤ) (level : List InnerNode) (node : InnerNode) : Type 0 where
  pub left : List InnerNode
  pub right : List InnerNode
  pub is : level ≡ left ++ (node ∷ right)
  pub near : int_le node.low key ≡ true
  pub under : IsUnder key (names_of right)

no_node_under : (key : ℤ) (level : List InnerNode) → pick_node key level ≡ None → IsUnder key (names_of level)
no_node_under key [] is = tt
no_node_under key (node ∷ level) is = by (pick_node key level) (int_le node.low key) refl refl is (no_node_under key level)
  where
    by : (o : Option InnerNode) (b : Bool) → pick_node key level ≡ o → int_le node.low key ≡ b → or_else o (if b then Some node else None) ≡ None → (pick_node key level ≡ None → IsUnder key (names_of level)) → IsUnder key (names_of (node ∷ level))
    by (Some n) b below near same deeper = absurd (let no : Some n ≡ None = same in cc)
    by None true below near same deeper = absurd (let no : Some node ≡ None = same in cc)
    by None false below near same deeper = (far_below node.low key near, deeper below)

pub node_spot : (key : ℤ) (level : List InnerNode) (n : InnerNode) → pick_node key level ≡ Some n → IsNodeSpot key level n
node_spot key [] n is = absurd (let no : None ≡ Some n = is in cc)
node_spot key (node ∷ level) n is = by (pick_node key level) (int_le node.low key) refl refl is (node_spot key level n)
  where
    by : (o : Option InnerNode) (b : Bool) → pick_node key level ≡ o → int_le node.low key ≡ b → or_else o (if b then Some node else None) ≡ Some n → (pick_node key level ≡ Some n → IsNodeSpot key level n) → IsNodeSpot key (node ∷ level) n
    by (Some m) b below near same deeper =
        let at = deeper (below ∙ same) in
        record { left = node ∷ at.left; right = at.right; is = λ i. node ∷ at.is i; near = at.near; under = at.under }
    by None true below near same deeper =
        let node_is : node ≡ n = cc in
        subst (λ (m : InnerNode). IsNodeSpot key (node ∷ level) m) node_is (record { left = []; right = level; is = refl; near = near; under = no_node_under key level below })
    by None false below near same deeper = absurd (let no : None ≡ Some n = same in cc)

-- ---- there is one such place

under_there : (key : ℤ) (xs : List Name) (m : Name) (ys : List Name) → IsUnder key (xs ++ (m ∷ ys)) → int_lt key m.0 ≡ true
under_there key [] m ys all = all.0
under_there key (x ∷ xs) m ys all = under_there key xs m ys all.1

not_both : (b : Bool) → b ≡ false → b ≡ true → ⊥
not_both true one other = cc
not_both false one other = cc

head_same : (a b : Name) (xs ys : List Name) → a ∷ xs ≡ b ∷ ys → a ≡ b
head_same a b xs ys same = cc

tail_same : (a b : Name) (xs ys : List Name) → a ∷ xs ≡ b ∷ ys → xs ≡ ys
tail_same a b xs ys same = cc

pub record SameSpot (xs others : List Name) (m o : Name) (ys more : List Name) : Type 0 where
  pub before_is : xs ≡ others
  pub name_is : m ≡ o
  pub after_is : ys ≡ more

pub spot_once : (key : ℤ) (xs others : List Name) (m o : Name) (ys more : List Name) → xs ++ (m ∷ ys) ≡ others ++ (o ∷ more) → int_lt key m.0 ≡ false → int_lt key o.0 ≡ false → IsUnder key ys → IsUnder key more → SameSpot xs others m o ys more
spot_once key [] [] m o ys more same near also under too = record { before_is = refl; name_is = head_same m o ys more same; after_is = tail_same m o ys more same }
spot_once key [] (x ∷ others) m o ys more same near also under too =
    let rest : ys ≡ others ++ (o ∷ more) = tail_same m x ys (others ++ (o ∷ more)) same in
    absurd (not_both (int_lt key o.0) also (under_there key others o more (subst (IsUnder key) rest under)))
spot_once key (x ∷ xs) [] m o ys more same near also under too =
    let rest : xs ++ (m ∷ ys) ≡ more = tail_same x o (xs ++ (m ∷ ys)) more same in
    absurd (not_both (int_lt key m.0) near (under_there key xs m ys (subst (IsUnder key) (sym rest) too)))
spot_once key (x ∷ xs) (y ∷ others) m o ys more same near also under too =
    let rest = spot_once key xs others m o ys more (tail_same x y (xs ++ (m ∷ ys)) (others ++ (o ∷ more)) same) near also under too in
    let first : x ≡ y = head_same x y (xs ++ (m ∷ ys)) (others ++ (o ∷ more)) same in
    record { before_is = λ i. first i ∷ rest.before_is i; name_is = rest.name_is; after_is = rest.after_is }

-- ---- the entries of the pages to the right lie behind the key

under_append : (key : ℤ) (xs ys : List Name) → IsUnder key xs → IsUnder key ys → IsUnder key (xs ++ ys)
under_append key [] ys one other = other
under_append key (x ∷ xs) ys one other = (one.0, under_append key xs ys one.1 other)

under_on : (key low : ℤ) (names : List Name) → int_lt key low ≡ true → IsUnder low names → IsUnder key names
under_on key low [] less under = tt
under_on key low (name ∷ names) less under = (less_on key low name.0 less under.0, under_on key low names less under.1)
  where
    less_on : (a b c : ℤ) → int_lt a b ≡ true → int_lt b c ≡ true → int_lt a c ≡ true
    less_on a b c one other = grind (arith, ints)

page_under : (key low : ℤ) (names : List Name) → BeginsAt low names → int_lt key low ≡ true → NamesRise names → IsUnder key names
page_under key low [] begins less rises = absurd begins
page_under key low (name ∷ names) begins less rises =
    let here : int_lt key name.0 ≡ true = ap (int_lt key) begins ∙ less in
    (here, under_on key name.0 names here rises.0)

entries_under : (key : ℤ) (level : List InnerNode) → AllBegin level → NamesRise (entries_of level) → IsUnder key (names_of level) → IsUnder key (entries_of level)
entries_under key [] all rises under = tt
entries_under key (node ∷ level) all rises under =
    under_append key node.names (entries_of level) (page_under key node.low node.names all.0 under.0 (rise_first node.names (entries_of level) rises)) (entries_under key level all.1 (rise_second node.names (entries_of level) rises) under.1)

-- how the entry stands on the level above
pub record StandsAt (key : ℤ) (level : List InnerNode) (before after : List Name) (old : Name) (node : InnerNode) : Type 0 where
  pub left : List InnerNode
  pub right : List InnerNode
  pub first : List Name
  pub last : List Name
  pub level_is : level ≡ left ++ (node ∷ right)
  pub names_are : node.names ≡ first ++ (old ∷ last)
  pub before_is : before ≡ entries_of left ++ first
  pub after_is : after ≡ last ++ entries_of right
  pub near : int_lt key node.low ≡ false
  pub under : IsUnder key (names_of right)

begin_at : (left right : List InnerNode) (node : InnerNode) → AllBegin (left ++ (node ∷ right)) → BeginsAt node.low node.names × AllBegin right
begin_at [] right node all = (all.0, all.1)
begin_at (x ∷ left) right node all = begin_at left right node all.1

pub some_pick : (key low : ℤ) (names : List Name) → BeginsAt low names → int_le low key ≡ true → (n : Name) × (pick key names ≡ Some n)
some_pick key low [] begins near = absurd begins
some_pick key low (first ∷ rest) begins near = by (pick key rest) (int_le first.0 key) (ap (λ (k : ℤ). int_le k key) begins ∙ near)
  where
    by : (o : Option Name) (b : Bool) → b ≡ true → (n : Name) × (or_else o (if b then Some first else None) ≡ Some n)
    by (Some n) b is = (n, refl)
    by None true is = (first, refl)
    by None false is = absurd (let no : false ≡ true = is in cc)

pub stands_at : (key : ℤ) (level : List InnerNode) (before after : List Name) (old : Name) (node : InnerNode) → AllBegin level → NamesRise (entries_of level) → pick_node key level ≡ Some node → entries_of level ≡ before ++ (old ∷ after) → int_lt key old.0 ≡ false → IsUnder key after → StandsAt key level before after old node
stands_at key level before after old node all rises picked entries near under =
    let at = node_spot key level node picked in
    let begins = begin_at at.left at.right node (subst AllBegin at.is all) in
    let some = some_pick key node.low node.names begins.0 at.near in
    let spot = name_spot key node.names some.0 some.1 in
    let parts : entries_of (at.left ++ (node ∷ at.right)) ≡ entries_of at.left ++ (node.names ++ entries_of at.right) = entries_append at.left (node ∷ at.right) in
    let up : NamesRise (entries_of at.left ++ (node.names ++ entries_of at.right)) = subst NamesRise (ap entries_of at.is ∙ parts) rises in
    let right_up = rise_second node.names (entries_of at.right) (rise_second (entries_of at.left) (node.names ++ entries_of at.right) up) in
    let behind : IsUnder key (spot.after ++ entries_of at.right) = under_append key spot.after (entries_of at.right) spot.under (entries_under key at.right begins.1 right_up at.under) in
    let whole : (entries_of at.left ++ spot.before) ++ (some.0 ∷ (spot.after ++ entries_of at.right)) ≡ before ++ (old ∷ after) =
    append_assoc (entries_of at.left) spot.before (some.0 ∷ (spot.after ++ entries_of at.right))
    ∙ ap (λ (l : List Name). entries_of at.left ++ l) (sym (append_assoc spot.before (some.0 ∷ spot.after) (entries_of at.right)))
    ∙ ap (λ (l : List Name). entries_of at.left ++ (l ++ entries_of at.right)) (sym spot.is)
    ∙ sym parts
    ∙ ap entries_of (sym at.is)
    ∙ entries in
    let one = spot_once key (entries_of at.left ++ spot.before) before some.0 old (spot.after ++ entries_of at.right) after whole spot.near near behind under in
    record {
      left = at.left;
      right = at.right;
      first = spot.before;
      last = spot.after;
      level_is = at.is;
      names_are = spot.is ∙ ap (λ (n : Name). spot.before ++ (n ∷ spot.after)) one.name_is;
      before_is = sym one.before_is;
      after_is = sym one.after_is;
      near = near_from node.low key at.near;
      under = at.under;
    }

-- ---- an entry more, in the order of the keys, stands behind the old one

up_passes : (key : ℤ) (x : Name) (names : List Name) → int_le x.0 key ≡ true → (up_to key (x ∷ names) ≡ x ∷ up_to key names) × (beyond key (x ∷ names) ≡ beyond key names)
up_passes key x names is = (ap (λ (b : Bool). if b then x ∷ up_to key names else []) is, ap (λ (b : Bool). if b then beyond key names else x ∷ names) is)

lt_le : (a b : ℤ) → int_lt a b ≡ true → int_le a b ≡ true
lt_le a b less = grind (arith, ints)

lt_not_le : (a b : ℤ) → int_lt a b ≡ true → int_le b a ≡ false
lt_not_le a b less = grind (arith, ints)

put_here : (new : Name) (last : List Name) → IsUnder new.0 last → with_name new last ≡ new ∷ last
put_here new [] under = refl
put_here new (x ∷ last) under =
    let far = lt_not_le new.0 x.0 under.0 in
    (λ i. (if far i then x ∷ up_to new.0 last else []) ++ (new ∷ (if far i then beyond new.0 last else x ∷ last)))

with_passed : (new x : Name) (names : List Name) → int_le x.0 new.0 ≡ true → with_name new (x ∷ names) ≡ x ∷ with_name new names
with_passed new x names near = (λ i. (if near i then x ∷ up_to new.0 names else []) ++ (new ∷ (if near i then beyond new.0 names else x ∷ names)))

under_new : (low : ℤ) (first : List Name) (old new : Name) (last : List Name) → IsUnder low (first ++ (old ∷ new ∷ last)) → int_lt low new.0 ≡ true
under_new low [] old new last under = under.1.0
under_new low (x ∷ first) old new last under = under_new low first old new last under.1

pub name_put : (first last : List Name) (old new : Name) → NamesRise (first ++ (old ∷ new ∷ last)) → with_name new (first ++ (old ∷ last)) ≡ first ++ (old ∷ new ∷ last)
name_put [] last old new rises = with_passed new old last (lt_le old.0 new.0 rises.0.0) ∙ ap (λ (l : List Name). old ∷ l) (put_here new last rises.1.0)
name_put (x ∷ first) last old new rises = with_passed new x (first ++ (old ∷ last)) (lt_le x.0 new.0 (under_new x.0 first old new last rises.0)) ∙ ap (λ (l : List Name). x ∷ l) (name_put first last old new rises.1)
