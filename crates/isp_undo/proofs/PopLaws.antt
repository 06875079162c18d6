-- The newest image of a chain, where a walk back has stopped, and the chain without it.
use Rattle.std.proofs.Common.{◌≡◌, ◌≢◌, inl, inr, ◌==◌, Bool, true, false, ℕ, suc, ◌+◌, ◌<◌, ◌≤◌, List, [], ◌∷◌, ◌++◌, length, Some, None, Result, Err, refl, sym, ◌∙◌, ap, subst, arith}
use Rattle.std.specs.Prelude.{All, IfErr}
use Rattle.std.specs.List.{flat_map}
use Rattle.std.proofs.lemmas.Bool.Decides.{nat_tests}
use Rattle.std.proofs.lemmas.List.{append-nil, append_assoc, length-append}
use Rattle.isp_format.specs.Doublewrite.{AreDistinct}
use Rattle.isp_format.specs.Header.{header_of}
use Rattle.isp_format.specs.Ranges.{Contents, page_of}
use Rattle.isp_format.specs.Undo.{IsUndoPage, OldImage, Slot as Ends, image_bytes}
use Rattle.isp_page.specs.declared.fault.StoreFault.{StoreFault}
use Rattle.isp_space.specs.Giving.{with_chain}
use Rattle.isp_space.specs.Spaces.{Space}
use Rattle.isp_undo_pages.specs.Directory.{ends_in}
use Rattle.isp_undo_pages.specs.declared.directory.Slot.{Slot}
use Rattle.isp_undo_pages.specs.declared.entries.Spot.{Spot}
use Rattle.isp_undo.specs.Calls.{HasStack, Restacks}
use Rattle.isp_undo_walks.specs.Chains.{Chain, IsInFile, IsLinked, UndoPage, end_of, ends_of, first_page, images_of, is_empty, last_page, pages_of, undo_page}
use Rattle.isp_undo.specs.Chains.{gone, newest_of, popped}
use Rattle.isp_undo_walks.specs.Walks.{AreEmpty, IsBack, IsLastUsed, IsWay, Stops}
use Rattle.isp_undo.specs.Cutting.{CanCut, MayPop}
use Rattle.isp_undo_walks.specs.declared.walking.Stop.{Stop}
use Rattle.isp_undo_walks.proofs.LinkLaws.{all_front, ending, last_is, linked_front, pages_both}
use Rattle.isp_undo_walks.proofs.PageLaws.{distinct_front}
use Rattle.isp_undo.proofs.StackLaws.{empty_images, gone_at, newest_at, popped_goes, popped_stays}
use Rattle.isp_undo_walks.proofs.WalkLaws.{first_alone, middle, none_ends, some_ends}

-- ---- none

none_if : (front : Chain) (p : UndoPage) (behind : Chain) → AreEmpty behind → p.images ≡ [] → Stops front p → images_of (front ++ p ∷ behind) ≡ []
none_if front p behind empty none (inl some) = let has : is_empty p.images ≡ true = ap is_empty none in let bad : true ≡ false = sym has ∙ some in cc
none_if front p behind empty none (inr first) =
    ap (λ (front : Chain). images_of (front ++ p ∷ behind)) first
    ∙ ap (λ (images : List OldImage). images ++ images_of behind) none ∙ empty_images behind empty

-- a walk back that stops on a page without an entry has found none
pub stopped_none : (way : Chain) (stop : Stop) → IsLastUsed way stop → stop.used ≡ 64 → images_of way ≡ []
stopped_none way stop is at =
    let b = is.back in
    ap images_of b.is ∙ none_if b.front b.p b.behind b.empty (none_ends b.p (sym b.used ∙ at)) is.stops

-- ---- the newest

pub record Newest (pages : ℕ) (contents : Contents) (way : Chain) (stop : Stop) (is : IsLastUsed way stop) : Type 0 where
  pub images : List OldImage
  pub image : OldImage
  pub before : ℕ
  pub next : ℕ
  pub newest : is.back.p.images ≡ images ++ image ∷ []
  pub stands : IsUndoPage (page_of contents stop.page.0) stop.page.0 before next (images ++ image ∷ [])
  pub used : stop.used ≡ 64 + length (flat_map image_bytes (images ++ image ∷ []))
  pub found : newest_of way ≡ Some image

record Snoc (xs : List OldImage) : Type 0 where
  front : List OldImage
  last : OldImage
  is : xs ≡ front ++ last ∷ []

snoc : (xs : List OldImage) → is_empty xs ≡ false → Snoc xs
snoc [] some = let bad : true ≡ false = some in absurd (let no : ⊥ = cc in no)
snoc (x ∷ []) some = record { front = []; last = x; is = refl }
snoc (x ∷ y ∷ xs) some = let s = snoc (y ∷ xs) refl in record { front = x ∷ s.front; last = s.last; is = ap (λ (xs : List OldImage). x ∷ xs) s.is }

pub stopped_some : (pages : ℕ) (contents : Contents) (behind : ℕ) (way : Chain) (stop : Stop) (is : IsLastUsed way stop) → IsWay pages contents behind way → stop.used ≢ 64 → Newest pages contents way stop is
stopped_some pages contents behind way stop is stands some =
    let b = is.back in
    let s = snoc b.p.images (some_ends b.p (λ at. some (b.used ∙ at))) in
    let m = middle pages contents behind way b.front b.p b.behind b.is stands in
    record {
      images = s.front;
      image = s.last;
      before = last_page 0 b.front;
      next = first_page behind b.behind;
      newest = s.is;
      stands = subst (λ (n : ℕ). IsUndoPage (page_of contents n) n (last_page 0 b.front) (first_page behind b.behind) (s.front ++ s.last ∷ [])) b.page (subst (λ (images : List OldImage). IsUndoPage (page_of contents b.p.page) b.p.page (last_page 0 b.front) (first_page behind b.behind) images) s.is m.page);
      used = b.used ∙ ap (λ (images : List OldImage). 64 + length (flat_map image_bytes images)) s.is;
      found = ap newest_of b.is ∙ newest_at b.front b.p b.behind s.front s.last b.empty s.is;
    }

-- ---- the page stays

-- the page where the walk stopped, as it is named
pub page_is : (way : Chain) (stop : Stop) (is : IsLastUsed way stop) (images : List OldImage) → is.back.p.images ≡ images → way ≡ is.back.front ++ undo_page stop.page.0 images ∷ is.back.behind
page_is way stop is images has =
    let b = is.back in
    let one : b.p ≡ undo_page stop.page.0 images = λ i. record { page = b.page i; images = has i } in
    b.is ∙ ap (λ (p : UndoPage). b.front ++ p ∷ b.behind) one

pub can_cut : (pages : ℕ) (contents : Contents) (slots : List Ends) (slot : ℕ) (ends : Slot) (stop : Stop) (at : ℕ) (chain : Chain) (s : Space) (may : MayPop pages contents slots slot ends stop at chain s)
    → CanCut pages contents slots slot ends (record { page = stop.page; used = at; passed = stop.passed }) may.stopped.back.front may.images (may.image ∷ []) may.stopped.back.behind s
can_cut pages contents slots slot ends stop at chain s may =
    let is = page_is chain stop may.stopped (may.images ++ may.image ∷ []) may.newest in
    record {
      stack = subst (λ (c : Chain). HasStack pages contents slots slot c s) is may.stack;
      ends_are = may.ends_are ∙ ap ends_of is;
      used = may.begins;
      passed = may.stopped.back.passed;
    }

same_number : (a b : ℕ) → (a == b) ≡ true → a ≡ b
same_number a b is = grind (arith, nat_tests, is)

other_number : (a b : ℕ) → (a == b) ≡ false → a ≢ b
other_number a b is one = let there : (a == b) ≡ true = grind (arith, nat_tests, one) in let bad : true ≡ false = sym there ∙ is in cc

stays_with : (chain : Chain) (stop : Stop) (is : IsLastUsed chain stop) (images : List OldImage) (at first : ℕ) → AreDistinct (pages_of chain) → first_page 0 chain ≡ first → at ≡ end_of (undo_page stop.page.0 images) → (first ≢ stop.page.0 → 64 < at) → Stops is.back.front (undo_page stop.page.0 images)
stays_with chain stop is images at first once first_is begins stays = by (first == stop.page.0) refl
  where
    b : IsBack chain stop
    b = is.back

    by : (e : Bool) → (first == stop.page.0) ≡ e → Stops is.back.front (undo_page stop.page.0 images)
    by true here = inr (first_alone is.back.front is.back.p is.back.behind (subst (λ (w : Chain). AreDistinct (pages_of w)) is.back.is once) (ap (first_page 0) (sym is.back.is) ∙ first_is ∙ same_number first stop.page.0 here ∙ sym is.back.page))
    by false there = inl (some_ends (undo_page stop.page.0 images) (λ empty. (let less = stays (other_number first stop.page.0 there) in omega (arith, less, begins, empty))))

-- the chain that is cut there is the one without its newest image
pub cut_stays : (pages : ℕ) (old new : Contents) (pages_old : ℕ) (slots : List Ends) (slot : ℕ) (ends : Slot) (stop : Stop) (at : ℕ) (chain : Chain) (s : Space) (may : MayPop pages_old old slots slot ends stop at chain s) → (ends.first.0 ≢ stop.page.0 → 64 < at)
    → Restacks pages old new slots slot (may.stopped.back.front ++ undo_page stop.page.0 (may.images ++ may.image ∷ []) ∷ may.stopped.back.behind) (may.stopped.back.front ++ undo_page stop.page.0 may.images ∷ []) (with_chain (pages_of may.stopped.back.behind) s) []
    → Restacks pages old new slots slot chain (popped chain) (with_chain (gone chain) s) []
cut_stays pages old new pages_old slots slot ends stop at chain s may stays done =
    let b = may.stopped.back in
    let front : Chain = b.front in
    let p : UndoPage = undo_page stop.page.0 (may.images ++ may.image ∷ []) in
    let is = page_is chain stop may.stopped (may.images ++ may.image ∷ []) may.newest in
    let first : first_page 0 chain ≡ ends.first.0 = sym (ap (λ (e : Ends). e.0) may.ends_are) in
    let stops = stays_with chain stop may.stopped may.images at ends.first.0 may.stack.stack.stands.once first may.begins stays in
    let popped_is = popped_stays chain front p b.behind may.images may.image is b.empty refl stops in
    let gone_is = gone_at chain front p (undo_page stop.page.0 may.images) b.behind is popped_is in
    subst (λ (c : Chain). Restacks pages old new slots slot c (popped chain) (with_chain (gone chain) s) []) (sym is)
    (subst (λ (c : Chain). Restacks pages old new slots slot (front ++ p ∷ b.behind) c (with_chain (gone chain) s) []) (sym popped_is)
    (subst (λ (xs : List ℕ). Restacks pages old new slots slot (front ++ p ∷ b.behind) (front ++ undo_page stop.page.0 may.images ∷ []) (with_chain xs s) []) (sym gone_is) done))

-- ---- the page goes

-- the pages before it are a way
pub record Before (pages : ℕ) (contents : Contents) (chain : Chain) (stop : Stop) (is : IsLastUsed chain stop) (prev : ℕ) : Type 0 where
  pub way : IsWay pages contents stop.page.0 is.back.front
  pub some : 0 < length is.back.front
  pub first : first_page 0 is.back.front ≡ first_page 0 chain
  pub last : last_page 0 is.back.front ≡ prev
  pub from : 16 ≤ prev
  pub to : prev < pages

some_front : (front rest : Chain) (page : ℕ) (p : UndoPage) → p.page ≡ page → first_page 0 (front ++ p ∷ rest) ≢ page → (0 < length front) × (first_page 0 front ≡ first_page 0 (front ++ p ∷ rest))
some_front [] rest page p at other = absurd (other at)
some_front (x ∷ front) rest page p at other = (omega arith, refl)

last_inside : (pages : ℕ) (front : Chain) → 0 < length front → All (IsInFile pages) front → (16 ≤ last_page 0 front) × (last_page 0 front < pages)
last_inside pages [] some inside = absurd (omega (arith, some))
last_inside pages (x ∷ front) some inside =
    let e = ending x front in
    let here = at_last e.front e.last (subst (λ (c : Chain). All (IsInFile pages) c) e.is inside) in
    let last : last_page 0 (x ∷ front) ≡ e.last.page = ap (last_page 0) e.is ∙ last_is 0 e.front e.last in
    (subst (λ (n : ℕ). 16 ≤ n) (sym last) here.0, subst (λ (n : ℕ). n < pages) (sym last) here.1)
  where
    at_last : (front : Chain) (p : UndoPage) → All (IsInFile pages) (front ++ p ∷ []) → IsInFile pages p
    at_last [] p all = all 0 p (omega arith)
    at_last (y ∷ front) p all = at_last front p (λ k d h. all (suc k) d (omega (arith, h)))

pub before_of : (pages : ℕ) (contents : Contents) (chain : Chain) (stop : Stop) (is : IsLastUsed chain stop) (prev : ℕ) → IsWay pages contents 0 chain → first_page 0 chain ≢ stop.page.0 → prev ≡ (header_of (page_of contents stop.page.0)).prev → Before pages contents chain stop is prev
before_of pages contents chain stop is prev stands other prev_is =
    let b = is.back in
    let whole = subst (λ (w : Chain). IsWay pages contents 0 w) b.is stands in
    let m = middle pages contents 0 chain b.front b.p b.behind b.is stands in
    let f = some_front b.front b.behind stop.page.0 b.p b.page (λ at. other (ap (first_page 0) b.is ∙ at)) in
    let last : last_page 0 b.front ≡ prev = sym (prev_is ∙ ap (λ (n : ℕ). (header_of (page_of contents n)).prev) (sym b.page) ∙ m.page.before_is) in
    let inside = all_front (IsInFile pages) b.front (b.p ∷ b.behind) whole.inside in
    let ends = last_inside pages b.front f.0 inside in
    record {
      way = record {
        linked = subst (λ (n : ℕ). IsLinked contents 0 n b.front) b.page (linked_front contents 0 0 b.front (b.p ∷ b.behind) whole.linked);
        inside = inside;
        once = distinct_front (pages_of b.front) (pages_of (b.p ∷ b.behind)) (subst (λ (xs : List ℕ). AreDistinct xs) (pages_both b.front (b.p ∷ b.behind)) whole.once);
      };
      some = f.0;
      first = f.1 ∙ ap (first_page 0) (sym b.is);
      last = last;
      from = subst (λ (n : ℕ). 16 ≤ n) last ends.0;
      to = subst (λ (n : ℕ). n < pages) last ends.1;
    }

-- the whole chain around the page where the second walk stopped
whole_is : (chain : Chain) (stop left : Stop) (is : IsLastUsed chain stop) (at : IsLastUsed is.back.front left) → chain ≡ at.back.front ++ at.back.p ∷ (at.back.behind ++ is.back.p ∷ is.back.behind)
whole_is chain stop left is at = is.back.is ∙ ap (λ (front : Chain). front ++ is.back.p ∷ is.back.behind) at.back.is ∙ append_assoc at.back.front (at.back.p ∷ at.back.behind) (is.back.p ∷ is.back.behind)

left_is : (left : Stop) (way : Chain) (at : IsLastUsed way left) → at.back.p ≡ undo_page left.page.0 (at.back.p.images ++ [])
left_is left way at = λ i. record { page = at.back.page i; images = sym (append-nil at.back.p.images) i }

pub can_drop : (pages : ℕ) (contents : Contents) (slots : List Ends) (slot : ℕ) (ends : Slot) (stop left : Stop) (at : ℕ) (chain : Chain) (s : Space) (may : MayPop pages contents slots slot ends stop at chain s) (where_left : IsLastUsed may.stopped.back.front left) (passed : ℕ) → passed ≡ stop.passed + 1 + left.passed
    → CanCut pages contents slots slot ends (record { page = left.page; used = left.used; passed = passed }) where_left.back.front where_left.back.p.images [] (where_left.back.behind ++ may.stopped.back.p ∷ may.stopped.back.behind) s
can_drop pages contents slots slot ends stop left at chain s may where_left passed passed_is =
    let l = where_left.back in
    let b = may.stopped.back in
    let is : chain ≡ l.front ++ undo_page left.page.0 (l.p.images ++ []) ∷ (l.behind ++ b.p ∷ b.behind) = whole_is chain stop left may.stopped where_left ∙ ap (λ (p : UndoPage). l.front ++ p ∷ (l.behind ++ b.p ∷ b.behind)) (left_is left b.front where_left) in
    let sum = length-append l.behind (b.p ∷ b.behind) in
    let first = b.passed in
    let second = l.passed in
    record {
      stack = subst (λ (c : Chain). HasStack pages contents slots slot c s) is may.stack;
      ends_are = may.ends_are ∙ ap ends_of is;
      used = l.used;
      passed = omega (arith, passed_is, sum, first, second);
    }

pub drop_goes : (pages : ℕ) (old new : Contents) (pages_old : ℕ) (slots : List Ends) (slot : ℕ) (ends : Slot) (stop left : Stop) (chain : Chain) (s : Space) (may : MayPop pages_old old slots slot ends stop 64 chain s) (where_left : IsLastUsed may.stopped.back.front left)
    → (let l = where_left.back in let b = may.stopped.back in
    Restacks pages old new slots slot (l.front ++ undo_page left.page.0 (l.p.images ++ []) ∷ (l.behind ++ b.p ∷ b.behind)) (l.front ++ undo_page left.page.0 l.p.images ∷ []) (with_chain (pages_of (l.behind ++ b.p ∷ b.behind)) s) []
    → Restacks pages old new slots slot chain (popped chain) (with_chain (gone chain) s) [])
drop_goes pages old new pages_old slots slot ends stop left chain s may where_left done =
    let l = where_left.back in
    let b = may.stopped.back in
    let rest : Chain = l.behind ++ b.p ∷ b.behind in
    let whole = whole_is chain stop left may.stopped where_left in
    let one = left_is left b.front where_left in
    let plain : l.p ≡ undo_page left.page.0 l.p.images = λ i. record { page = l.page i; images = l.p.images } in
    let is : chain ≡ l.front ++ undo_page left.page.0 (l.p.images ++ []) ∷ rest = whole ∙ ap (λ (p : UndoPage). l.front ++ p ∷ rest) one in
    let none : may.images ≡ [] = none_ends (undo_page stop.page.0 may.images) (sym may.begins) in
    let alone : b.p.images ≡ may.image ∷ [] = may.newest ∙ ap (λ (images : List OldImage). images ++ may.image ∷ []) none in
    let popped_is : popped chain ≡ l.front ++ undo_page left.page.0 l.p.images ∷ [] = popped_goes chain l.front l.p l.behind b.p b.behind may.image whole l.empty b.empty alone where_left.stops ∙ ap (λ (p : UndoPage). l.front ++ p ∷ []) plain in
    let gone_is : gone chain ≡ pages_of rest = gone_at chain l.front l.p (undo_page left.page.0 l.p.images) rest whole popped_is in
    subst (λ (c : Chain). Restacks pages old new slots slot c (popped chain) (with_chain (gone chain) s) []) (sym is)
    (subst (λ (c : Chain). Restacks pages old new slots slot (l.front ++ undo_page left.page.0 (l.p.images ++ []) ∷ rest) c (with_chain (gone chain) s) []) (sym popped_is)
    (subst (λ (xs : List ℕ). Restacks pages old new slots slot (l.front ++ undo_page left.page.0 (l.p.images ++ []) ∷ rest) (l.front ++ undo_page left.page.0 l.p.images ∷ []) (with_chain xs s) []) (sym gone_is) done))

pub one_spot : (a b : Spot) → Some a ≡ Some b → a ≡ b
one_spot a b same = cc

pub no_spot : (a : Spot) → None ≡ Some a → ⊥
no_spot a same = cc

-- ---- whether pages stand behind

pub record SomeBehind (all : Chain) : Type 0 where
  pub q : UndoPage
  pub rest : Chain
  pub is : all ≡ q ∷ rest

pub some_behind : (all : Chain) (passed : ℕ) → passed ≡ length all → (passed ≡ 0 → ⊥) → SomeBehind all
some_behind [] passed is some = absurd (some is)
some_behind (q ∷ rest) passed is some = record { q = q; rest = rest; is = refl }

pub none_behind : (rest : Chain) (passed : ℕ) → passed ≡ length rest → passed ≡ 0 → rest ≡ []
none_behind [] passed is none = refl
none_behind (q ∷ rest) passed is none = absurd (omega (arith, is, none))

-- ---- behind calls that read

pub can_cut_now : (pages pages_now : ℕ) (old now : Contents) (slots : List Ends) (slot : ℕ) (ends : Slot) (stop : Stop) (front : Chain) (images more : List OldImage) (rest : Chain) (s : Space) → pages_now ≡ pages → now ≡ old → CanCut pages old slots slot ends stop front images more rest s → CanCut pages_now now slots slot ends stop front images more rest s
can_cut_now pages pages_now old now slots slot ends stop front images more rest s shape same can =
    subst (λ (n : ℕ). CanCut n now slots slot ends stop front images more rest s) (sym shape) (subst (λ (c : Contents). CanCut pages c slots slot ends stop front images more rest s) (sym same) can)

pub may_pop_now : (pages pages_now : ℕ) (old now : Contents) (slots : List Ends) (slot : ℕ) (ends : Slot) (stop : Stop) (at : ℕ) (chain : Chain) (s : Space) → pages_now ≡ pages → now ≡ old → MayPop pages old slots slot ends stop at chain s → MayPop pages_now now slots slot ends stop at chain s
may_pop_now pages pages_now old now slots slot ends stop at chain s shape same may =
    subst (λ (n : ℕ). MayPop n now slots slot ends stop at chain s) (sym shape) (subst (λ (c : Contents). MayPop pages c slots slot ends stop at chain s) (sym same) may)

pub restacks_from : (pages : ℕ) (old mid new : Contents) (slots : List Ends) (slot : ℕ) (before after : Chain) (s : Space) (more : List ℕ) → mid ≡ old → Restacks pages mid new slots slot before after s more → Restacks pages old new slots slot before after s more
restacks_from pages old mid new slots slot before after s more same done = subst (λ (c : Contents). Restacks pages c new slots slot before after s more) same done

-- a newest image that begins at the front of its page
pub at_front : (pages : ℕ) (contents : Contents) (slots : List Ends) (slot : ℕ) (ends : Slot) (stop : Stop) (at : ℕ) (chain : Chain) (s : Space) → MayPop pages contents slots slot ends stop at chain s → at ≤ 64 → MayPop pages contents slots slot ends stop 64 chain s
at_front pages contents slots slot ends stop at chain s may front =
    let begins = may.begins in
    let here : at ≡ 64 = omega (arith, begins, front) in
    subst (λ (n : ℕ). MayPop pages contents slots slot ends stop n chain s) here may

-- a walk back over a chain with an image ends on a page with an entry
pub some_used : (chain : Chain) (stop : Stop) → IsLastUsed chain stop → 0 < length (images_of chain) → stop.used ≢ 64
some_used chain stop is some at = let none = ap length (stopped_none chain stop is at) in omega (arith, none, some)

pub may_pop_of : (pages : ℕ) (contents : Contents) (slots : List Ends) (slot : ℕ) (ends : Slot) (stop : Stop) (at : ℕ) (chain : Chain) (s : Space) → HasStack pages contents slots slot chain s → ends_in ends ≡ ends_of chain → (is : IsLastUsed chain stop) (n : Newest pages contents chain stop is) → at ≡ 64 + length (flat_map image_bytes n.images) → MayPop pages contents slots slot ends stop at chain s
may_pop_of pages contents slots slot ends stop at chain s was ends_are is n begins = record {
  stack = was;
  ends_are = ends_are;
  stopped = is;
  images = n.images;
  image = n.image;
  newest = n.newest;
  begins = begins;
}

-- what holds of the error that a call hands on
pub err_is : {T : Type 0} (P : StoreFault → Type 0) (result : Result T StoreFault) (e other : StoreFault) → result ≡ Err e → e ≡ other → P other → IfErr result P
err_is {T = T} P result e other is same holds = subst (λ (r : Result T StoreFault). IfErr r P) (sym is) (subst P (sym same) holds)
