-- A page that is taken and another one, on which is written: what becomes of the space, of other pages, and of the mini-transaction.
use Rattle.std.proofs.Common.{◌≡◌, ℕ, suc, ◌+◌, ◌<◌, ◌≤◌, ◌==◌, ◌||◌, Bool, true, false, List, [], ◌∷◌, drop, length, take, Option, Some, None, Result, Err, refl, sym, ◌∙◌, ap, subst, arith, cond, if◌then◌else◌}
use Rattle.std.specs.Prelude.{All, IfErr, IfSome, is_none}
use Rattle.std.proofs.lemmas.Bool.Decides.{nat_tests}
use Rattle.isp_base.specs.Lists.{times}
use Rattle.isp_cells.specs.LeafPages.{IsLeaf}
use Rattle.isp_division.specs.Entries.{AreNodeHalves}
use Rattle.isp_division.specs.Halves.{AreHalves}
use Rattle.isp_division.specs.declared.halves.Halves.{Halves}
use Rattle.isp_format.specs.Doublewrite.{AreDistinct}
use Rattle.isp_format.specs.Inner.{IsInnerPage, Name}
use Rattle.isp_format.specs.Leaf.{Stored}
use Rattle.isp_format.specs.Ranges.{Contents, page_of}
use Rattle.isp_growth.proofs.BesideLaws.{space_kept}
use Rattle.isp_levels.proofs.PageLaws.{NoneOf}
use Rattle.isp_levels.specs.Dividing.{halves, left_names}
use Rattle.isp_levels.specs.Levels.{least_key}
use Rattle.isp_page.proofs.GrowthLaws.{among_self, grows_among}
use Rattle.isp_page.specs.State.{HasRoom, MiniTransaction, is_among, most_changed}
use Rattle.isp_page.specs.Touched.{Grows, KeepsPages, is_page, unchanged_of}
use Rattle.isp_page.specs.declared.fault.StoreFault.{StoreFault}
use Rattle.isp_page.specs.declared.pages.Pages.{Ghosts}
use Rattle.isp_space.specs.Changes.{ChangesOf, MayChange}
use Rattle.isp_space.specs.Spaces.{IsSpace, Space, next_of, rest_of, taken}
use Rattle.isp_halving.specs.Calls.{IsOutside}
use Rattle.isp_halving.specs.Halved.{IsInnerHalved, IsLeafHalved, IsRaised}
use Rattle.isp_halving.specs.Standing.{IsTakenFor, IsWritten, MayWrite}
use Rattle.isp_halving.specs.declared.Entry.{Entry}

-- ---- the taken page, the other one, and the space

apart_times : (page : ℕ) (xs : List ℕ) → All (λ other. is_page page other ≡ false) xs → times page xs ≡ 0
apart_times page [] apart = refl
apart_times page (x ∷ xs) apart =
    let first : (x == page) ≡ false = apart 0 x (omega arith) in
    let rest = apart_times page xs (λ k d h. apart (suc k) d (omega (arith, h))) in
    omega (arith, ap {B = ℕ} (λ (b : Bool). cond b 1 0) first, rest)

distinct_times : (n : ℕ) (xs : List ℕ) → All (λ other. (n ≡ other) → ⊥) xs → times n xs ≡ 0
distinct_times n [] all = refl
distinct_times n (x ∷ xs) all =
    let differs = all 0 x (omega arith) in
    let first : (x == n) ≡ false = grind (arith, nat_tests, differs) in
    let rest = distinct_times n xs (λ k d h. all (suc k) d (omega (arith, h))) in
    omega (arith, ap {B = ℕ} (λ (b : Bool). cond b 1 0) first, rest)

not_zero : (n : ℕ) → 16 ≤ n → times n (0 ∷ []) ≡ 0
not_zero n from = let no : (0 == n) ≡ false = grind (arith, from) in ap (λ (b : Bool). cond b 1 0 + 0) no

-- neither is one of the space once it is taken
none_of : (free : List ℕ) (fresh page right : ℕ) → All (λ q. (16 ≤ q) × (q < fresh)) free → AreDistinct free → 16 ≤ fresh → All (λ other. is_page page other ≡ false) (0 ∷ free) → right ≡ next_of free fresh → NoneOf (right ∷ page ∷ []) (0 ∷ rest_of free)
none_of [] fresh page right inside once from apart is = (not_zero right (omega (arith, is, from)), (apart_times page (0 ∷ []) apart, tt))
none_of (first ∷ rest) fresh page right inside once from apart is =
    let low = (inside 0 first (omega arith)).0 in
    let zero_in = not_zero first low in
    let here = distinct_times first rest once.0 in
    let all = apart_times page (0 ∷ first ∷ rest) apart in
    let none : times first (0 ∷ rest) ≡ 0 = omega (arith, zero_in, here) in
    (subst (λ (n : ℕ). times n (0 ∷ rest) ≡ 0) (sym is) none, (omega (arith, all), tt))

differs_from : (free : List ℕ) (fresh page right : ℕ) → All (λ other. is_page page other ≡ false) (0 ∷ free) → page < fresh → right ≡ next_of free fresh → is_page right page ≡ false
differs_from [] fresh page right apart used is = let less : page < right = omega (arith, used, is) in grind (arith, less)
differs_from (first ∷ rest) fresh page right apart used is = let other : (first == page) ≡ false = apart 1 first (omega arith) in grind (arith, other, is)

pub taken_differs : (s : Space) (page right : ℕ) → IsOutside page s → right ≡ next_of s.free s.fresh → is_page right page ≡ false
taken_differs s page right out is = differs_from s.free s.fresh page right out.0 out.1 is

pub page_stays : (s : Space) (old new : Contents) (page right : ℕ) → IsOutside page s → right ≡ next_of s.free s.fresh → KeepsPages (λ q. is_page 0 q || is_page right q) old new → page_of new page ≡ page_of old page
page_stays s old new page right out is keeps =
    let first : (0 == page) ≡ false = out.0 0 0 (omega arith) in
    let zero_not : (page == 0) ≡ false = grind (arith, first) in
    let other = taken_differs s page right out is in
    keeps page (λ i. zero_not i || other i)

space_after : (pages pages_mid pages_now : ℕ) (old mid new : Contents) (s : Space) (page right : ℕ) (bytes : List ℕ) → IsSpace pages old s → IsOutside page s → IsTakenFor pages_mid old mid page bytes s right → pages_now ≡ pages_mid → KeepsPages (λ q. is_among q (right ∷ page ∷ [])) mid new → IsSpace pages_now new (taken s)
space_after pages pages_mid pages_now old mid new s page right bytes is out t shape keeps =
    subst (λ (n : ℕ). IsSpace n new (taken s)) (sym shape)
    (space_kept pages_mid mid new (taken s) (right ∷ page ∷ []) (none_of s.free s.fresh page right is.inside is.once is.fresh_from out.0 t.is_next) keeps t.is_space)

-- ---- the mini-transaction

one_at_most : (b : Bool) → (if b then 0 else 1) ≤ 1
one_at_most true = omega arith
one_at_most false = omega arith

pub room_next : (right page : ℕ) (old mid : MiniTransaction) → Grows (right ∷ []) old mid → length old.changed + unchanged_of (right ∷ page ∷ []) old.changed ≤ most_changed → HasRoom page mid
room_next right page old mid grows room out =
    let few = grows.few (right ∷ page ∷ []) ((among_self (right ∷ page ∷ [])).0, tt) in
    let one : ◌≡◌ {A = ℕ} (if is_among page mid.changed then 0 else 1) 1 = ap {B = ℕ} (λ (b : Bool). if b then 0 else 1) out in
    omega (arith, few, room, one)

pub may_write : {S : Type 0} (g : Ghosts S) (right page : ℕ) (old mid : S) → MayChange g 3 old → g.usable mid ≡ true → ChangesOf g (0 ∷ right ∷ []) old mid → MayWrite g (right ∷ page ∷ []) mid
may_write g right page old mid can usable changes =
    let all = among_self (0 ∷ right ∷ page ∷ []) in
    let few = changes.grows.few (0 ∷ right ∷ page ∷ []) (all.0, (all.1.0, tt)) in
    let was = (g.mini old).changed in
    let room = can.room in
    record {
      usable = usable;
      begun = changes.grows.begun ∙ can.begun;
      room = omega (arith, few, room, one_at_most (is_among 0 was), one_at_most (is_among right was), one_at_most (is_among page was));
    }

pub changes_three : {S : Type 0} (g : Ghosts S) (right page now : ℕ) (old mid new : S) → now ≡ right → ChangesOf g (0 ∷ right ∷ []) old mid → ChangesOf g (right ∷ page ∷ []) mid new → ChangesOf g (0 ∷ now ∷ page ∷ []) old new
changes_three g right page now old mid new is one two =
    let all = among_self (0 ∷ right ∷ page ∷ []) in
    let both : ChangesOf g (0 ∷ right ∷ page ∷ []) old new = record {
      grows = grows_among (0 ∷ right ∷ []) (right ∷ page ∷ []) (0 ∷ right ∷ page ∷ []) (g.mini old) (g.mini mid) (g.mini new) one.grows two.grows (all.0, (all.1.0, tt)) all.1;
      others = λ tells q out. by q (0 == q) (right == q) (page == q) out (two.others tells q) (one.others tells q);
    } in
    subst (λ (n : ℕ). ChangesOf g (0 ∷ n ∷ page ∷ []) old new) (sym is) both
  where
    by : (q : ℕ) (a b c : Bool) → (a || (b || (c || false))) ≡ false → ((b || (c || false)) ≡ false → page_of (g.contents new) q ≡ page_of (g.contents mid) q) → ((a || (b || false)) ≡ false → page_of (g.contents mid) q ≡ page_of (g.contents old) q) → page_of (g.contents new) q ≡ page_of (g.contents old) q
    by q true b c bad later sooner = absurd (let no : true ≡ false = bad in cc)
    by q false true c bad later sooner = absurd (let no : true ≡ false = bad in cc)
    by q false false c out later sooner = later out ∙ sooner refl

-- ---- a fault that is handed on

pub err_is : {T : Type 0} (P : StoreFault → Type 0) (result : Result T StoreFault) (y fault : StoreFault) → result ≡ Err y → y ≡ fault → P fault → IfErr result P
err_is {T = T} P result y fault is same holds = subst (λ (r : Result T StoreFault). IfErr r P) (sym is) (subst P (sym same) holds)

-- ---- what is made

pub halved_leaf : (pages pages_mid pages_now : ℕ) (old mid new : Contents) (table page next : ℕ) (rows : List Stored) (s : Space) (bytes : List ℕ) (right : ℕ) (parts : Option Halves) (entry : Entry) → IsSpace pages old s → IsOutside page s → IsTakenFor pages_mid old mid page bytes s right → pages_now ≡ pages_mid → KeepsPages (λ q. is_among q (right ∷ page ∷ [])) mid new → entry.page.0 ≡ right
    → is_none parts ≡ false → IfSome parts (λ h. AreHalves h table page right next rows) → IfSome parts (λ h. IsWritten new page h entry) → IsLeafHalved pages_now new table page next rows s entry
halved_leaf pages pages_mid pages_now old mid new table page next rows s bytes right None entry is out t shape keeps at some parts w = cc
halved_leaf pages pages_mid pages_now old mid new table page next rows s bytes right (Some h) entry is out t shape keeps at some parts w = record {
  is_next = at ∙ t.is_next;
  left = subst (λ (b : List ℕ). IsLeaf b table page entry.page.0 (take (halves rows) rows)) (sym w.left) (subst (λ (n : ℕ). IsLeaf h.left.bytes table page n (take (halves rows) rows)) (sym at) parts.left);
  right_is = subst (λ (b : List ℕ). IsLeaf b table entry.page.0 next (drop (halves rows) rows)) (sym w.right_is) (subst (λ (n : ℕ). IsLeaf h.right.bytes table n next (drop (halves rows) rows)) (sym at) parts.right_is);
  key_is = w.key_is ∙ parts.key;
  is_space = space_after pages pages_mid pages_now old mid new s page right bytes is out t shape keeps;
}

pub halved_inner : (pages pages_mid pages_now : ℕ) (old mid new : Contents) (table page level : ℕ) (names : List Name) (s : Space) (bytes : List ℕ) (right : ℕ) (parts : Option Halves) (entry : Entry) → IsSpace pages old s → IsOutside page s → IsTakenFor pages_mid old mid page bytes s right → pages_now ≡ pages_mid → KeepsPages (λ q. is_among q (right ∷ page ∷ [])) mid new → entry.page.0 ≡ right
    → is_none parts ≡ false → IfSome parts (λ h. AreNodeHalves h table page right level names) → IfSome parts (λ h. IsWritten new page h entry) → IsInnerHalved pages_now new table page level names s entry
halved_inner pages pages_mid pages_now old mid new table page level names s bytes right None entry is out t shape keeps at some parts w = cc
halved_inner pages pages_mid pages_now old mid new table page level names s bytes right (Some h) entry is out t shape keeps at some parts w = record {
  is_next = at ∙ t.is_next;
  left = subst (λ (b : List ℕ). IsInnerPage b table page level (take left_names names)) (sym w.left) parts.left;
  right_is = subst (λ (b : List ℕ). IsInnerPage b table entry.page.0 level (drop left_names names)) (sym w.right_is) (subst (λ (n : ℕ). IsInnerPage h.right.bytes table n level (drop left_names names)) (sym at) parts.right_is);
  key_is = w.key_is ∙ parts.key;
  is_space = space_after pages pages_mid pages_now old mid new s page right bytes is out t shape keeps;
}

pub raised_root : (pages pages_mid pages_now : ℕ) (old mid new : Contents) (table root level up : ℕ) (s : Space) (bytes : List ℕ) (to : ℕ) (root_bytes : List ℕ) → IsSpace pages old s → IsOutside root s → IsTakenFor pages_mid old mid root bytes s to → pages_now ≡ pages_mid → KeepsPages (λ q. is_among q (to ∷ root ∷ [])) mid new
    → up ≡ suc level → IsInnerPage root_bytes table root up ((least_key, to) ∷ []) → page_of new root ≡ root_bytes → IsRaised pages_now new table root level s to
raised_root pages pages_mid pages_now old mid new table root level up s bytes to root_bytes is out t shape keeps high raised written = record {
  is_next = t.is_next;
  root_is = subst (λ (b : List ℕ). IsInnerPage b table root (suc level) ((least_key, to) ∷ [])) (sym written) (subst (λ (n : ℕ). IsInnerPage root_bytes table root n ((least_key, to) ∷ [])) high raised);
  is_space = space_after pages pages_mid pages_now old mid new s root to bytes is out t shape keeps;
}
