-- Lists of changed pages.
use Rattle.std.proofs.Common.{◌≡◌, ℕ, suc, ◌+◌, ◌≤◌, ◌==◌, ◌||◌, Bool, true, false, List, [], ◌∷◌, ◌++◌, length, refl, sym, ◌∙◌, ap, subst, arith, eqb-true, if◌then◌else◌}
use Rattle.isp_page.proofs.GrowthLaws.{among_both, among_self, grows_none, grows_within}
use Rattle.isp_page.specs.State.{HasRoom, MiniTransaction, is_among, most_changed}
use Rattle.isp_page.specs.Touched.{AreAmong, Grows, KeepsPages, is_page, unchanged_of}
use Rattle.isp_page.specs.declared.pages.Pages.{Ghosts}
use Rattle.isp_space.specs.Changes.{ChangesOf}
use Rattle.isp_space.proofs.ChangesLaws.{among_one, changes_on}

pub in_left : (x : ℕ) (xs ys : List ℕ) → is_among x xs ≡ true → is_among x (xs ++ ys) ≡ true
in_left x [] ys h = let bad : false ≡ true = h in cc
in_left x (p ∷ xs) ys h = by (p == x) h (in_left x xs ys)
  where
    by : (b : Bool) → (b || is_among x xs) ≡ true → (is_among x xs ≡ true → is_among x (xs ++ ys) ≡ true) → (b || is_among x (xs ++ ys)) ≡ true
    by true h later = refl
    by false h later = later h

pub in_right : (x : ℕ) (xs ys : List ℕ) → is_among x ys ≡ true → is_among x (xs ++ ys) ≡ true
in_right x [] ys h = h
in_right x (p ∷ xs) ys h = by (p == x) (in_right x xs ys h)
  where
    by : (b : Bool) → is_among x (xs ++ ys) ≡ true → (b || is_among x (xs ++ ys)) ≡ true
    by true h = refl
    by false h = h

pub among_left : (xs most ys : List ℕ) → AreAmong xs most → AreAmong xs (most ++ ys)
among_left [] most ys all = tt
among_left (x ∷ xs) most ys all = (in_left x most ys all.0, among_left xs most ys all.1)

pub among_right : (xs most ys : List ℕ) → AreAmong xs ys → AreAmong xs (most ++ ys)
among_right [] most ys all = tt
among_right (x ∷ xs) most ys all = (in_right x most ys all.0, among_right xs most ys all.1)

-- a page that isn't on the longer list isn't on the shorter one
pub out_of : (page : ℕ) (list most : List ℕ) → AreAmong list most → is_among page most ≡ false → is_among page list ≡ false
out_of page [] most all out = refl
out_of page (p ∷ list) most all out = by (p == page) refl (out_of page list most all.1 out)
  where
    by : (b : Bool) → (p == page) ≡ b → is_among page list ≡ false → (b || is_among page list) ≡ false
    by false is rest = rest
    by true is rest =
        let same : p ≡ page = eqb-true p page is in
        let there : is_among page most ≡ true = subst (λ (q : ℕ). is_among q most ≡ true) same all.0 in
        let bad : true ≡ false = sym there ∙ out in cc

pub changes_within : {S : Type 0} (g : Ghosts S) (list most : List ℕ) (old new : S) → ChangesOf g list old new → AreAmong list most → ChangesOf g most old new
changes_within g list most old new changes among = record {
  grows = grows_within list most (g.mini old) (g.mini new) changes.grows among;
  others = λ tells page out. changes.others tells page (out_of page list most among out);
}

pub changes_none : {S : Type 0} (g : Ghosts S) (most : List ℕ) (old : S) → ChangesOf g most old old
changes_none g most old = record { grows = grows_none most (g.mini old); others = λ tells page out. refl }

-- changes one behind another, within one list
pub changes_among : {S : Type 0} (g : Ghosts S) (first second most : List ℕ) (old mid new : S) → ChangesOf g first old mid → ChangesOf g second mid new → AreAmong first most → AreAmong second most → ChangesOf g most old new
changes_among g first second most old mid new one two a b =
    changes_within g (first ++ second) most old new (changes_on g first second old mid new one two) (among_both first second most a b)

-- a page that isn't changed yet counts
pub counts_one : (list changed : List ℕ) (page : ℕ) → is_among page list ≡ true → is_among page changed ≡ false → 1 ≤ unchanged_of list changed
counts_one [] changed page there out = let bad : false ≡ true = there in cc
counts_one (p ∷ list) changed page there out = by (p == page) refl there (λ h. counts_one list changed page h out)
  where
    by : (b : Bool) → (p == page) ≡ b → (b || is_among page list) ≡ true → (is_among page list ≡ true → 1 ≤ unchanged_of list changed) → 1 ≤ unchanged_of (p ∷ list) changed
    by true is h later =
        let same : p ≡ page = eqb-true p page is in
        let gone : is_among p changed ≡ false = subst (λ (q : ℕ). is_among q changed ≡ false) (sym same) out in
        let one : ◌≡◌ {A = ℕ} (if is_among p changed then 0 else 1) 1 = ap (λ (b : Bool). let n : ℕ = if b then 0 else 1 in n) gone in
        omega (arith, one)
    by false is h later = let rest = later h in omega (arith, rest)

-- a page of the list has room where all of the list have
pub has_room : (list : List ℕ) (old now : MiniTransaction) (page : ℕ) → Grows list old now → length old.changed + unchanged_of list old.changed ≤ most_changed → is_among page list ≡ true → HasRoom page now
has_room list old now page grows room there out =
    let few = grows.few list (among_self list) in
    let one = counts_one list now.changed page there out in
    omega (arith, few, one, room)

unchanged_few : (list changed : List ℕ) → unchanged_of list changed ≤ length list
unchanged_few [] changed = omega arith
unchanged_few (p ∷ list) changed = by (is_among p changed) (unchanged_few list changed)
  where
    by : (b : Bool) → unchanged_of list changed ≤ length list → (if b then 0 else 1) + unchanged_of list changed ≤ suc (length list)
    by true h = omega (arith, h)
    by false h = omega (arith, h)

-- pages that were taken leave room for all of a list that has them
pub room_left : (list : List ℕ) (old now : MiniTransaction) → Grows (0 ∷ list) old now → length old.changed + 36 ≤ most_changed → length list ≤ 35 → length now.changed + unchanged_of list now.changed ≤ most_changed
room_left list old now grows room few =
    let most = grows.few (0 ∷ list) (among_self (0 ∷ list)) in
    let before = unchanged_few (0 ∷ list) old.changed in
    omega (arith, most, before, room, few)

-- page 0 and pages of a list are changed, in three steps
pub taken_within : {S : Type 0} (g : Ghosts S) (list news : List ℕ) (old mid at : S) → ChangesOf g (0 ∷ []) old mid → ChangesOf g (0 ∷ news) mid at → AreAmong news list → ChangesOf g (0 ∷ list) old at
taken_within g list news old mid at draws takes among =
    changes_among g (0 ∷ []) (0 ∷ news) (0 ∷ list) old mid at draws takes (refl, tt) (refl, among_right news (0 ∷ []) list among)

pub written_within : {S : Type 0} (g : Ghosts S) (list : List ℕ) (old at new : S) → ChangesOf g (0 ∷ list) old at → ChangesOf g list at new → ChangesOf g (0 ∷ list) old new
written_within g list old at new taken writes =
    changes_among g (0 ∷ list) list (0 ∷ list) old at new taken writes (among_self (0 ∷ list)) (among_right list (0 ∷ []) list (among_self list))

-- the number of an entry was drawn
pub draws_of : {S : Type 0} (g : Ghosts S) (old mid : S) → Grows (0 ∷ []) (g.mini old) (g.mini mid) → (g.tells → KeepsPages (is_page 0) (g.contents old) (g.contents mid)) → ChangesOf g (0 ∷ []) old mid
draws_of g old mid grows others = record { grows = grows; others = λ tells. among_one 0 (g.contents old) (g.contents mid) (others tells) }
