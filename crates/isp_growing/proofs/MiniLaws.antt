-- How many pages a division changes, level by level.
use Rattle.std.proofs.Common.{◌≡◌, ℕ, ◌+◌, ◌*◌, ◌≤◌, ◌==◌, ◌||◌, Bool, true, false, List, [], ◌∷◌, ◌++◌, length, length-append, refl, sym, ◌∙◌, ap, subst, arith, if◌then◌else◌}
use Rattle.std.specs.Prelude.{Err, IfErr, Result}
use Rattle.isp_page.specs.declared.fault.StoreFault.{StoreFault}
use Rattle.isp_page.proofs.GrowthLaws.{among_both, among_first, among_second, among_self, grows_within}
use Rattle.isp_page.specs.State.{MiniTransaction, is_among}
use Rattle.isp_page.specs.Touched.{AreAmong, Grows, KeepsPages, unchanged_of}
use Rattle.isp_page.specs.declared.pages.Pages.{Ghosts}
use Rattle.isp_space.proofs.ChangesLaws.{changes_on}
use Rattle.isp_space.specs.Changes.{ChangesBy, ChangesOf, MayChange}
use Rattle.isp_growing.specs.Rising.{GoesUp, MayGoUp}

one_at_most : (b : Bool) → (if b then 0 else 1) ≤ 1
one_at_most true = omega arith
one_at_most false = omega arith

-- pages that aren't on the longer list aren't on the shorter one
pub out_all : (q : ℕ) (xs ys : List ℕ) → AreAmong xs ys → is_among q ys ≡ false → is_among q xs ≡ false
out_all q [] ys all out = refl
out_all q (x ∷ xs) ys all out = by (x == q) refl (out_all q xs ys all.1 out)
  where
    by : (b : Bool) → (x == q) ≡ b → is_among q xs ≡ false → (b || is_among q xs) ≡ false
    by true is rest =
        let same : x ≡ q = grind (arith, is) in
        let there : is_among q ys ≡ true = subst (λ (p : ℕ). is_among p ys ≡ true) same all.0 in
        absurd (let no : true ≡ false = sym there ∙ out in cc)
    by false is rest = rest

pub changes_within : {S : Type 0} (g : Ghosts S) (xs ys : List ℕ) (old new : S) → AreAmong xs ys → ChangesOf g xs old new → ChangesOf g ys old new
changes_within g xs ys old new all changes = record {
  grows = grows_within xs ys (g.mini old) (g.mini new) changes.grows all;
  others = λ tells page out. changes.others tells page (out_all page xs ys all out);
}

-- page 0 counts once
joined_among : (xs ys : List ℕ) → AreAmong ((0 ∷ xs) ++ (0 ∷ ys)) (0 ∷ (xs ++ ys))
joined_among xs ys =
    let self = among_self (0 ∷ (xs ++ ys)) in
    among_both (0 ∷ xs) (0 ∷ ys) (0 ∷ (xs ++ ys)) (among_first (0 ∷ xs) ys (0 ∷ (xs ++ ys)) self) (refl, among_second (0 ∷ xs) ys (0 ∷ (xs ++ ys)) self)

pub changes_joined : {S : Type 0} (g : Ghosts S) (xs ys : List ℕ) (old mid new : S) → ChangesOf g (0 ∷ xs) old mid → ChangesOf g (0 ∷ ys) mid new → ChangesOf g (0 ∷ (xs ++ ys)) old new
changes_joined g xs ys old mid new one other = changes_within g ((0 ∷ xs) ++ (0 ∷ ys)) (0 ∷ (xs ++ ys)) old new (joined_among xs ys) (changes_on g (0 ∷ xs) (0 ∷ ys) old mid new one other)

-- a page beside page 0
pub changes_beside : {S : Type 0} (g : Ghosts S) (xs : List ℕ) (old new : S) → ChangesOf g xs old new → ChangesOf g (0 ∷ xs) old new
changes_beside g xs old new changes = changes_within g xs (0 ∷ xs) old new (among_second (0 ∷ []) xs (0 ∷ xs) (among_self (0 ∷ xs))) changes

-- ---- room for what is still to come

pub may_change : {S : Type 0} (g : Ghosts S) (level most : ℕ) (now : S) → MayGoUp g level now → most + 2 * level ≤ 33 → MayChange g most now
may_change g level most now may few = let room = may.room in record { usable = may.usable; begun = may.begun; room = omega (arith, room, few) }

-- two pages and page 0 are changed
pub may_on : {S : Type 0} (g : Ghosts S) (level next a b : ℕ) (old mid : S) → next ≡ level + 1 → MayGoUp g level old → g.usable mid ≡ true → ChangesOf g (0 ∷ a ∷ b ∷ []) old mid → MayGoUp g next mid
may_on g level next a b old mid is may can changes =
    let few = changes.grows.few (0 ∷ a ∷ b ∷ []) (among_self (0 ∷ a ∷ b ∷ [])) in
    let room = may.room in
    let one = one_at_most (is_among a (g.mini old).changed) in
    let two = one_at_most (is_among b (g.mini old).changed) in
    record { usable = can; begun = changes.grows.begun ∙ may.begun; room = omega (arith, few, room, one, two, is) }

pub may_behind : {S : Type 0} (g : Ghosts S) (level : ℕ) (old now : S) → MayGoUp g level old → g.usable now ≡ true → g.mini now ≡ g.mini old → MayGoUp g level now
may_behind g level old now may can same = record {
  usable = can;
  begun = ap (λ (m : MiniTransaction). m.is_begun) same ∙ may.begun;
  room = subst (λ (m : MiniTransaction). length m.changed + unchanged_of (0 ∷ []) m.changed + 33 ≤ 48 + 2 * level) (sym same) may.room;
}

-- behind a call that reads
pub changes_behind : {S : Type 0} (g : Ghosts S) (list : List ℕ) (old mid new : S) → (g.tells → g.contents mid ≡ g.contents old) → g.mini mid ≡ g.mini old → ChangesOf g list mid new → ChangesOf g list old new
changes_behind g list old mid new contents mini changes = record {
  grows = subst (λ (m : MiniTransaction). Grows list m (g.mini new)) mini changes.grows;
  others = λ tells. subst (λ c. KeepsPages (λ page. is_among page list) c (g.contents new)) (contents tells) (changes.others tells);
}

pub goes_behind : {S : Type 0} (g : Ghosts S) (level : ℕ) (old mid new : S) → (g.tells → g.contents mid ≡ g.contents old) → g.mini mid ≡ g.mini old → GoesUp g level mid new → GoesUp g level old new
goes_behind g level old mid new contents mini up = record { list = up.list; few = up.few; changes = changes_behind g (0 ∷ up.list) old mid new contents mini up.changes }

-- one page alone
pub goes_one : {S : Type 0} (g : Ghosts S) (level page : ℕ) (old new : S) → level ≤ 15 → ChangesOf g (page ∷ []) old new → GoesUp g level old new
goes_one g level page old new low changes = record { list = page ∷ []; few = omega (arith, low); changes = changes_beside g (page ∷ []) old new changes }

-- a page in two, and then the levels above
pub goes_on : {S : Type 0} (g : Ghosts S) (level next a b : ℕ) (old mid new : S) → next ≡ level + 1 → ChangesOf g (0 ∷ a ∷ b ∷ []) old mid → GoesUp g next mid new → GoesUp g level old new
goes_on g level next a b old mid new is changes up =
    let few = up.few in
    record {
      list = a ∷ b ∷ up.list;
      few = omega (arith, few, is);
      changes = changes_joined g (a ∷ b ∷ []) up.list old mid new changes up.changes;
    }

-- a root that is raised, and what stood on it in two
pub goes_raised : {S : Type 0} (g : Ghosts S) (level a root b : ℕ) (old one two new : S) → level ≤ 14 → ChangesOf g (0 ∷ a ∷ root ∷ []) old one → ChangesOf g (0 ∷ b ∷ a ∷ []) one two → ChangesOf g (root ∷ []) two new → GoesUp g level old new
goes_raised g level a root b old one two new low first second third = record {
  list = a ∷ root ∷ b ∷ a ∷ root ∷ [];
  few = omega (arith, low);
  changes = changes_joined g (a ∷ root ∷ []) (b ∷ a ∷ root ∷ []) old one new first (changes_joined g (b ∷ a ∷ []) (root ∷ []) one two new second (changes_beside g (root ∷ []) two new third));
}

-- all of them
pub goes_by : {S : Type 0} (g : Ghosts S) (level most : ℕ) (old new : S) → GoesUp g level old new → 34 ≤ most + 2 * level → ChangesBy g most old new
goes_by g level most old new up many = let few = up.few in record { list = 0 ∷ up.list; few = omega (arith, few, many); changes = up.changes }

-- ---- a few changes one behind another

pub change_on : {S : Type 0} (g : Ghosts S) (most less : ℕ) (list : List ℕ) (old new : S) → MayChange g most old → g.usable new ≡ true → ChangesOf g list old new → less + length list ≤ most → MayChange g less new
change_on g most less list old new may can changes few =
    let within = changes.grows.within in
    let room = may.room in
    record { usable = can; begun = changes.grows.begun ∙ may.begun; room = omega (arith, within, room, few) }

pub changes_three : {S : Type 0} (g : Ghosts S) (a b c : List ℕ) (old one two new : S) → ChangesOf g a old one → ChangesOf g b one two → ChangesOf g c two new → length a + (length b + length c) ≤ 35 → ChangesBy g 35 old new
changes_three g a b c old one two new first second third few =
    let long = length-append a (b ++ c) in
    let more = length-append b c in
    record { list = a ++ (b ++ c); few = omega (arith, few, long, more); changes = changes_on g a (b ++ c) old one new first (changes_on g b c one two new second third) }

pub change_less : {S : Type 0} (g : Ghosts S) (most less : ℕ) (now : S) → MayChange g most now → less ≤ most → MayChange g less now
change_less g most less now may few = let room = may.room in record { usable = may.usable; begun = may.begun; room = omega (arith, room, few) }

pub change_behind : {S : Type 0} (g : Ghosts S) (most : ℕ) (old now : S) → MayChange g most old → g.usable now ≡ true → g.mini now ≡ g.mini old → MayChange g most now
change_behind g most old now may can same = record {
  usable = can;
  begun = ap (λ (m : MiniTransaction). m.is_begun) same ∙ may.begun;
  room = subst (λ (m : MiniTransaction). length m.changed + most ≤ 48) (sym same) may.room;
}

pub changed_behind : {S : Type 0} (g : Ghosts S) (most : ℕ) (old mid new : S) → (g.tells → g.contents mid ≡ g.contents old) → g.mini mid ≡ g.mini old → ChangesBy g most mid new → ChangesBy g most old new
changed_behind g most old mid new contents mini by = record { list = by.list; few = by.few; changes = changes_behind g by.list old mid new contents mini by.changes }

-- a leaf in two leaves room for all levels above it
pub begins_up : {S : Type 0} (g : Ghosts S) (a b : ℕ) (old mid : S) → MayChange g 35 old → g.usable mid ≡ true → ChangesOf g (0 ∷ a ∷ b ∷ []) old mid → MayGoUp g 1 mid
begins_up g a b old mid may can changes =
    let few = changes.grows.few (0 ∷ a ∷ b ∷ []) (among_self (0 ∷ a ∷ b ∷ [])) in
    let room = may.room in
    let zero_one = one_at_most (is_among 0 (g.mini old).changed) in
    let one = one_at_most (is_among a (g.mini old).changed) in
    let two = one_at_most (is_among b (g.mini old).changed) in
    record { usable = can; begun = changes.grows.begun ∙ may.begun; room = omega (arith, few, room, zero_one, one, two) }

pub goes_all : {S : Type 0} (g : Ghosts S) (a b : ℕ) (old mid new : S) → ChangesOf g (0 ∷ a ∷ b ∷ []) old mid → GoesUp g 1 mid new → ChangesBy g 35 old new
goes_all g a b old mid new changes up =
    let few = up.few in
    record { list = 0 ∷ a ∷ b ∷ up.list; few = omega (arith, few); changes = changes_joined g (a ∷ b ∷ []) up.list old mid new changes up.changes }

-- ---- a fault that is handed on

pub err_is : {T : Type 0} (P : StoreFault → Type 0) (r : Result T StoreFault) (found known : StoreFault) → r ≡ Err found → found ≡ known → P known → IfErr r P
err_is {T = T} P r found known is same holds = subst (λ (x : Result T StoreFault). IfErr x P) (sym is) (subst P (sym same) holds)
