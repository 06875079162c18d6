-- Walks along the pages of a chain, step by step.
use Rattle.std.proofs.Common.{◌≡◌, ◌≢◌, inl, inr, ◌==◌, Bool, true, false, ℕ, zero, suc, ◌+◌, ◌<◌, ◌≤◌, List, [], ◌∷◌, ◌++◌, length, refl, sym, ◌∙◌, ap, subst, arith}
use Rattle.std.specs.Prelude.{All}
use Rattle.std.specs.List.{flat_map}
use Rattle.std.proofs.lemmas.Bool.Decides.{nat_tests}
use Rattle.std.proofs.lemmas.List.{append_assoc, length-append}
use Rattle.std.proofs.lemmas.Map.Steps.{length-le_from_distinct_below}
use Rattle.isp_format.specs.Doublewrite.{AreDistinct}
use Rattle.isp_format.specs.Header.{header_of}
use Rattle.isp_format.specs.Ranges.{Contents, page_of}
use Rattle.isp_format.specs.Undo.{IsUndoPage, OldImage, Slot as Ends, image_bytes}
use Rattle.isp_base.specs.declared.page_no.PageNo.{PageNo}
use Rattle.isp_space.proofs.SpaceLaws.{distinct_by_tests, on_list}
use Rattle.isp_undo_pages.proofs.EntryLaws.{image_long}
use Rattle.isp_undo_walks.specs.Chains.{Chain, IsInFile, IsUndoChain, UndoPage, end_of, ends_of, first_page, is_empty, last_page, pages_of}
use Rattle.isp_undo_walks.specs.Walks.{AreEmpty, IsBack, IsLastUsed, IsOn, IsWay}
use Rattle.isp_undo_walks.specs.declared.walking.Stop.{Stop}
use Rattle.isp_undo_walks.specs.declared.counting.Place.{Place}
use Rattle.isp_undo_walks.proofs.ChainLaws.{last_has}
use Rattle.isp_undo_walks.proofs.LinkLaws.{all_pages, all_rest, ending, last_behind, last_is, linked_rest, pages_both}
use Rattle.isp_undo_walks.proofs.PageLaws.{distinct_rest}

-- a chain is a way that nothing stands behind
pub way_of : (pages : ℕ) (contents : Contents) (chain : Chain) → IsUndoChain pages contents chain → IsWay pages contents 0 chain
way_of pages contents chain is = record { linked = is.linked; inside = is.inside; once = is.once }

pub way_now : (pages pages_now behind : ℕ) (old now : Contents) (way : Chain) → pages_now ≡ pages → now ≡ old → IsWay pages old behind way → IsWay pages_now now behind way
way_now pages pages_now behind old now way shape same is = subst (λ (n : ℕ). IsWay n now behind way) (sym shape) (subst (λ (c : Contents). IsWay pages c behind way) (sym same) is)

-- ---- a page in the middle of a way

pub record Middle (pages : ℕ) (contents : Contents) (behind : ℕ) (front : Chain) (p : UndoPage) (rest : Chain) : Type 0 where
  pub page : IsUndoPage (page_of contents p.page) p.page (last_page 0 front) (first_page behind rest) p.images
  pub inside : IsInFile pages p

pub middle : (pages : ℕ) (contents : Contents) (behind : ℕ) (way front : Chain) (p : UndoPage) (rest : Chain) → way ≡ front ++ p ∷ rest → IsWay pages contents behind way → Middle pages contents behind front p rest
middle pages contents behind way front p rest parts is =
    let whole = subst (λ (w : Chain). IsWay pages contents behind w) parts is in
    record {
      page = (linked_rest contents 0 behind front (p ∷ rest) whole.linked).0;
      inside = all_rest (IsInFile pages) front (p ∷ rest) whole.inside 0 p (omega arith);
    }

-- a way has no more pages than the file
pub way_short : (pages : ℕ) (contents : Contents) (behind : ℕ) (way : Chain) → IsWay pages contents behind way → length way ≤ pages
way_short pages contents behind way is =
    let below = all_pages (λ x. x < pages) way (λ k d h. (is.inside k d h).1) in
    let few = length-le_from_distinct_below (pages_of way) pages (distinct_by_tests (pages_of way) is.once) (λ q there. on_list (λ page. page < pages) q (pages_of way) below there) in
    subst (λ (n : ℕ). n ≤ pages) (long way) few
  where
    long : (chain : Chain) → length (pages_of chain) ≡ length chain
    long [] = refl
    long (p ∷ rest) = ap suc (long rest)

-- ---- where a page's entries end

pub none_ends : (p : UndoPage) → end_of p ≡ 64 → p.images ≡ []
none_ends p is = by p.images is
  where
    by : (images : List OldImage) → 64 + length (flat_map image_bytes images) ≡ 64 → images ≡ []
    by [] is = refl
    by (i ∷ images) is = absurd (let one = image_long i in let sum = length-append (image_bytes i) (flat_map image_bytes images) in omega (arith, is, one, sum))

pub some_ends : (p : UndoPage) → (end_of p ≡ 64 → ⊥) → is_empty p.images ≡ false
some_ends p is = by p.images is
  where
    by : (images : List OldImage) → (64 + length (flat_map image_bytes images) ≡ 64 → ⊥) → is_empty images ≡ false
    by [] is = absurd (is refl)
    by (i ∷ images) is = refl

pub empty_ends : (p : UndoPage) → p.images ≡ [] → end_of p ≡ 64
empty_ends p is = ap (λ (images : List OldImage). 64 + length (flat_map image_bytes images)) is

-- ---- the first and the last page

-- the first page stands nowhere behind
pub first_alone : (front : Chain) (p : UndoPage) (rest : Chain) → AreDistinct (pages_of (front ++ p ∷ rest)) → first_page 0 (front ++ p ∷ rest) ≡ p.page → front ≡ []
first_alone [] p rest once is = refl
first_alone (x ∷ front) p rest once is = absurd (apart front once.0 is)
  where
    apart : (front : Chain) → All (λ other. (x.page ≡ other) → ⊥) (pages_of (front ++ p ∷ rest)) → x.page ≡ p.page → ⊥
    apart [] all same = all 0 0 (omega arith) same
    apart (y ∷ front) all same = apart front (λ k d h. all (suc k) d (omega (arith, h))) same

-- the last page stands nowhere before
pub last_alone : (front : Chain) (p : UndoPage) (rest : Chain) → AreDistinct (pages_of (front ++ p ∷ rest)) → last_page 0 (front ++ p ∷ rest) ≡ p.page → rest ≡ []
last_alone front p [] once is = refl
last_alone front p (q ∷ rest) once is =
    let behind : AreDistinct (pages_of (p ∷ q ∷ rest)) = distinct_rest (pages_of front) (pages_of (p ∷ q ∷ rest)) (subst (λ (xs : List ℕ). AreDistinct xs) (pages_both front (p ∷ q ∷ rest)) once) in
    let same : p.page ≡ last_page q.page rest = sym is ∙ last_behind 0 front (p ∷ q ∷ rest) in
    absurd (last_has (λ other. (p.page ≡ other) → ⊥) q rest (pages_all_too q rest behind.0) same)
  where
    pages_all_too : (q : UndoPage) (rest : Chain) → All (λ other. (p.page ≡ other) → ⊥) (pages_of (q ∷ rest)) → All (λ (x : UndoPage). (p.page ≡ x.page) → ⊥) (q ∷ rest)
    pages_all_too q rest all zero d h = all 0 q.page (omega arith)
    pages_all_too q [] all (suc k) d h = absurd (omega (arith, h))
    pages_all_too q (r ∷ rest) all (suc k) d h = pages_all_too r rest (λ k d h. all (suc k) d (omega (arith, h))) k d (omega (arith, h))

-- ---- the walk back

no_pages : (d : UndoPage) → AreEmpty []
no_pages d k e h = absurd (omega (arith, h))

-- the end of a way
pub record WayEnd (pages : ℕ) (contents : Contents) (behind : ℕ) (way : Chain) (last : ℕ) : Type 0 where
  pub front : Chain
  pub p : UndoPage
  pub is : way ≡ front ++ p ∷ []
  pub page : p.page ≡ last
  pub stands : IsUndoPage (page_of contents last) last (last_page 0 front) behind p.images

pub way_end : (pages : ℕ) (contents : Contents) (behind : ℕ) (way : Chain) (last : ℕ) → IsWay pages contents behind way → 0 < length way → last_page 0 way ≡ last → WayEnd pages contents behind way last
way_end pages contents behind [] last is some at = absurd (omega (arith, some))
way_end pages contents behind (x ∷ rest) last is some at =
    let e = ending x rest in
    let page : e.last.page ≡ last = sym (last_is 0 e.front e.last) ∙ ap (last_page 0) (sym e.is) ∙ at in
    let m = middle pages contents behind (x ∷ rest) e.front e.last [] e.is is in
    record { front = e.front; p = e.last; is = e.is; page = page; stands = subst (λ (n : ℕ). IsUndoPage (page_of contents n) n (last_page 0 e.front) behind e.last.images) page m.page }

pub back_begins : (pages : ℕ) (contents : Contents) (behind : ℕ) (way : Chain) (last : PageNo) (used : ℕ) → WayEnd pages contents behind way last.0
    → ((before : ℕ) (images : List OldImage) → IsUndoPage (page_of contents last.0) last.0 before behind images → used ≡ 64 + length (flat_map image_bytes images)) → IsBack way (record { page = last; used = used; passed = 0 })
back_begins pages contents behind way last used e says = record {
  front = e.front;
  p = e.p;
  behind = [];
  is = e.is;
  page = e.page;
  used = says (last_page 0 e.front) e.p.images e.stands;
  empty = no_pages e.p;
  passed = refl;
}

-- the page before the one to which a walk has come
pub record StepBack (pages : ℕ) (contents : Contents) (way : Chain) (stop : Stop) : Type 0 where
  pub front : Chain
  pub q : UndoPage
  pub p : UndoPage
  pub behind : Chain
  pub is : way ≡ front ++ q ∷ p ∷ behind
  pub prev : (header_of (page_of contents stop.page.0)).prev ≡ q.page
  pub stands : IsUndoPage (page_of contents q.page) q.page (last_page 0 front) stop.page.0 q.images
  pub inside : IsInFile pages q
  pub used : stop.used ≡ end_of p
  pub empty : AreEmpty behind
  pub passed : stop.passed ≡ length behind

pub step_back_on : (pages : ℕ) (contents : Contents) (behind : ℕ) (way : Chain) (stop : Stop) → IsWay pages contents behind way → IsBack way stop → first_page 0 way ≢ stop.page.0 → StepBack pages contents way stop
step_back_on pages contents behind way stop is back other = by back.front back.is
  where
    by : (front : Chain) → way ≡ front ++ back.p ∷ back.behind → StepBack pages contents way stop
    by [] parts = absurd (other (ap (first_page 0) parts ∙ back.page))
    by (x ∷ front) parts =
        let e = ending x front in
        let whole : way ≡ e.front ++ e.last ∷ back.p ∷ back.behind = parts ∙ ap (λ (c : Chain). c ++ back.p ∷ back.behind) e.is ∙ append_assoc e.front (e.last ∷ []) (back.p ∷ back.behind) in
        let here = middle pages contents behind way (x ∷ front) back.p back.behind parts is in
        let m = middle pages contents behind way e.front e.last (back.p ∷ back.behind) whole is in
        record {
          front = e.front;
          q = e.last;
          p = back.p;
          behind = back.behind;
          is = whole;
          prev = ap (λ (n : ℕ). (header_of (page_of contents n)).prev) (sym back.page) ∙ here.page.before_is ∙ ap (last_page 0) e.is ∙ last_is 0 e.front e.last;
          stands = subst (λ (n : ℕ). IsUndoPage (page_of contents e.last.page) e.last.page (last_page 0 e.front) n e.last.images) back.page m.page;
          inside = m.inside;
          used = back.used;
          empty = back.empty;
          passed = back.passed;
        }

pub back_on : (pages : ℕ) (contents : Contents) (way : Chain) (stop : Stop) (page : PageNo) (used passed : ℕ) (s : StepBack pages contents way stop) → stop.used ≡ 64 → page.0 ≡ (header_of (page_of contents stop.page.0)).prev → passed ≡ stop.passed + 1
    → ((before : ℕ) (images : List OldImage) → IsUndoPage (page_of contents page.0) page.0 before stop.page.0 images → used ≡ 64 + length (flat_map image_bytes images)) → IsBack way (record { page = page; used = used; passed = passed })
back_on pages contents way stop page used passed s empty at on says =
    let same : page.0 ≡ s.q.page = at ∙ s.prev in
    let behind = s.passed in
    record {
      front = s.front;
      p = s.q;
      behind = s.p ∷ s.behind;
      is = s.is;
      page = sym same;
      used = says (last_page 0 s.front) s.q.images (subst (λ (n : ℕ). IsUndoPage (page_of contents n) n (last_page 0 s.front) stop.page.0 s.q.images) (sym same) s.stands);
      empty = one_more (none_ends s.p (sym s.used ∙ empty)) s.behind s.empty;
      passed = omega (arith, on, behind);
    }
  where
    one_more : s.p.images ≡ [] → (rest : Chain) → AreEmpty rest → AreEmpty (s.p ∷ rest)
    one_more none rest all zero d h = none
    one_more none rest all (suc k) d h = all k d (omega (arith, h))

-- pages that were passed are fewer than the file has
pub back_short : (pages : ℕ) (contents : Contents) (behind : ℕ) (way : Chain) (stop : Stop) → IsWay pages contents behind way → IsBack way stop → stop.passed < pages
back_short pages contents behind way stop is back =
    let few = way_short pages contents behind way is in
    let long = ap length back.is in
    let sum = length-append back.front (back.p ∷ back.behind) in
    let passed = back.passed in
    omega (arith, few, long, sum, passed)

-- a walk that ends
pub back_used : (way : Chain) (stop : Stop) → IsBack way stop → (stop.used ≡ 64 → ⊥) → IsLastUsed way stop
back_used way stop back some = record { back = back; stops = inl (some_ends back.p (λ is. some (back.used ∙ is))) }

pub back_first : (pages : ℕ) (contents : Contents) (behind : ℕ) (way : Chain) (stop : Stop) → IsWay pages contents behind way → IsBack way stop → first_page 0 way ≡ stop.page.0 → IsLastUsed way stop
back_first pages contents behind way stop is back at = record {
  back = back;
  stops = inr (first_alone back.front back.p back.behind (subst (λ (w : Chain). AreDistinct (pages_of w)) back.is is.once) (ap (first_page 0) (sym back.is) ∙ at ∙ sym back.page));
}

-- ---- the walk on

pub on_begins : (pages : ℕ) (contents : Contents) (way : Chain) (first next : PageNo) → IsWay pages contents 0 way → 0 < length way → first_page 0 way ≡ first.0 → ((after : ℕ) (images : List OldImage) → IsUndoPage (page_of contents first.0) first.0 0 after images → next.0 ≡ after) → IsOn way (record { page = first; next = next; passed = 0 })
on_begins pages contents [] first next is some at says = absurd (omega (arith, some))
on_begins pages contents (p ∷ rest) first next is some at says = record {
  front = [];
  p = p;
  rest = rest;
  is = refl;
  page = at;
  next = says (first_page 0 rest) p.images (subst (λ (n : ℕ). IsUndoPage (page_of contents n) n 0 (first_page 0 rest) p.images) at is.linked.0);
  passed = refl;
}

pub first_stands : (pages : ℕ) (contents : Contents) (way : Chain) (first : ℕ) → IsWay pages contents 0 way → 0 < length way → first_page 0 way ≡ first → (after : ℕ) × (images : List OldImage) × IsUndoPage (page_of contents first) first 0 after images
first_stands pages contents [] first is some at = absurd (omega (arith, some))
first_stands pages contents (p ∷ rest) first is some at = (first_page 0 rest, p.images, subst (λ (n : ℕ). IsUndoPage (page_of contents n) n 0 (first_page 0 rest) p.images) at is.linked.0)

pub record StepOn (pages : ℕ) (contents : Contents) (way : Chain) (place : Place) : Type 0 where
  pub front : Chain
  pub p : UndoPage
  pub q : UndoPage
  pub rest : Chain
  pub is : way ≡ (front ++ p ∷ []) ++ q ∷ rest
  pub next : place.next.0 ≡ q.page
  pub stands : IsUndoPage (page_of contents q.page) q.page place.page.0 (first_page 0 rest) q.images
  pub inside : IsInFile pages q
  pub passed : place.passed ≡ length front

pub step_on_next : (pages : ℕ) (contents : Contents) (way : Chain) (place : Place) → IsWay pages contents 0 way → IsOn way place → last_page 0 way ≢ place.page.0 → StepOn pages contents way place
step_on_next pages contents way place is on other = by on.rest on.is on.next
  where
    by : (rest : Chain) → way ≡ on.front ++ on.p ∷ rest → place.next.0 ≡ first_page 0 rest → StepOn pages contents way place
    by [] parts next = absurd (other (ap (last_page 0) parts ∙ last_is 0 on.front on.p ∙ on.page))
    by (q ∷ rest) parts next =
        let whole : way ≡ (on.front ++ on.p ∷ []) ++ q ∷ rest = parts ∙ sym (append_assoc on.front (on.p ∷ []) (q ∷ rest)) in
        let m = middle pages contents 0 way (on.front ++ on.p ∷ []) q rest whole is in
        record {
          front = on.front;
          p = on.p;
          q = q;
          rest = rest;
          is = whole;
          next = next;
          stands = subst (λ (n : ℕ). IsUndoPage (page_of contents q.page) q.page n (first_page 0 rest) q.images) (last_is 0 on.front on.p ∙ on.page) m.page;
          inside = m.inside;
          passed = on.passed;
        }

pub on_next : (pages : ℕ) (contents : Contents) (way : Chain) (place : Place) (next : PageNo) (passed : ℕ) (s : StepOn pages contents way place) → passed ≡ place.passed + 1
    → ((after : ℕ) (images : List OldImage) → IsUndoPage (page_of contents place.next.0) place.next.0 place.page.0 after images → next.0 ≡ after) → IsOn way (record { page = place.next; next = next; passed = passed })
on_next pages contents way place next passed s more says =
    let long = length-append s.front (s.p ∷ []) in
    let count = s.passed in
    record {
      front = s.front ++ s.p ∷ [];
      p = s.q;
      rest = s.rest;
      is = s.is;
      page = sym s.next;
      next = says (first_page 0 s.rest) s.q.images (subst (λ (n : ℕ). IsUndoPage (page_of contents n) n place.page.0 (first_page 0 s.rest) s.q.images) (sym s.next) s.stands);
      passed = omega (arith, long, count, more);
    }

pub on_short : (pages : ℕ) (contents : Contents) (way : Chain) (place : Place) → IsWay pages contents 0 way → IsOn way place → place.passed < pages
on_short pages contents way place is on =
    let few = way_short pages contents 0 way is in
    let long = ap length on.is in
    let sum = length-append on.front (on.p ∷ on.rest) in
    let passed = on.passed in
    omega (arith, few, long, sum, passed)

-- all pages were counted at the last one
pub on_ends : (pages : ℕ) (contents : Contents) (way : Chain) (place : Place) → IsWay pages contents 0 way → IsOn way place → last_page 0 way ≡ place.page.0 → (place.next.0 ≡ 0) × (place.passed + 1 ≡ length way)
on_ends pages contents way place is on at =
    let none : on.rest ≡ [] = last_alone on.front on.p on.rest (subst (λ (w : Chain). AreDistinct (pages_of w)) on.is is.once) (ap (last_page 0) (sym on.is) ∙ at ∙ sym on.page) in
    let long = ap length on.is in
    let sum = length-append on.front (on.p ∷ on.rest) in
    let short : length on.rest ≡ 0 = ap length none in
    let passed = on.passed in
    (on.next ∙ ap (first_page 0) none, omega (arith, long, sum, short, passed))

-- a chain with ends in the file has a page
pub some_pages : (chain : Chain) (ends : Ends) → ends ≡ ends_of chain → 16 ≤ ends.0 → 0 < length chain
some_pages [] ends is from = absurd (let none = ap (λ (e : Ends). e.0) is in omega (arith, none, from))
some_pages (p ∷ rest) ends is from = omega arith

-- a walk back ends on a page with an entry, or on the first
pub back_ends : (pages : ℕ) (contents : Contents) (behind : ℕ) (way : Chain) (stop : Stop) (first : ℕ) → IsWay pages contents behind way → IsBack way stop → first_page 0 way ≡ first → (first ≢ stop.page.0 → stop.used ≢ 64) → IsLastUsed way stop
back_ends pages contents behind way stop first is back at stops = by (first == stop.page.0) refl
  where
    same : (a b : ℕ) → (a == b) ≡ true → a ≡ b
    same a b is = grind (arith, nat_tests, is)

    other : (a b : ℕ) → (a == b) ≡ false → a ≢ b
    other a b is one = let there : (a == b) ≡ true = grind (arith, nat_tests, one) in let bad : true ≡ false = sym there ∙ is in cc

    by : (b : Bool) → (first == stop.page.0) ≡ b → IsLastUsed way stop
    by true here = back_first pages contents behind way stop is back (at ∙ same first stop.page.0 here)
    by false there = back_used way stop back (stops (other first stop.page.0 there))
