-- The slot once a call has changed its chain.
use Rattle.std.proofs.Common.{◌≡◌, ◌≢◌, ◌==◌, Bool, true, false, not, ℕ, zero, suc, ◌+◌, ◌<◌, ◌≤◌, List, [], ◌∷◌, ◌++◌, length, set, get_or, refl, sym, ◌∙◌, ap, subst, arith, if◌then◌else◌}
use Rattle.std.specs.Prelude.{All, nat_le}
use Rattle.std.proofs.lemmas.List.{append-nil, append_assoc, get_or-set_same, set-get_or}
use Rattle.isp_format.specs.Doublewrite.{AreDistinct}
use Rattle.isp_format.specs.Ranges.{Contents, page_of}
use Rattle.isp_format.specs.Undo.{IsUndoDirectory, IsUndoPage, OldImage, Slot as Ends, image_bytes}
use Rattle.isp_page.specs.State.{is_among}
use Rattle.isp_page.specs.Touched.{AreAmong, KeepsPages}
use Rattle.isp_space.specs.Spaces.{IsSpace, Space, fresh_after, next_free, next_of, rest_of as rest_free, taken}
use Rattle.isp_undo_pages.specs.Directory.{ends_at}
use Rattle.isp_undo.specs.Calls.{CanPush, HasStack, Restacks, page_taken, space_after}
use Rattle.isp_undo_walks.specs.Chains.{Chain, IsLinked, IsUndoChain, UndoPage, end_of, ends_of, first_page, last_page, pages_of}
use Rattle.isp_undo.specs.Chains.{IsApart, one_image, pushed, takes_page, with_image}
use Rattle.isp_undo_walks.proofs.LinkLaws.{all_pages, first_front, last_is, linked_both, linked_front, linked_rest, linked_same, pages_all, pages_both}
use Rattle.isp_undo_walks.proofs.PageLaws.{among_here, among_more, both_out, distinct_front, distinct_more, distinct_rest, front_out, keeps_on, keeps_within, low_among, other_page, rest_out, space_same}
use Rattle.isp_undo.proofs.StackLaws.{pushed_behind, pushed_on, takes_last}

-- every page of a chain is one that may be given away
pub from_of : (pages : ℕ) (contents : Contents) (chain : Chain) → IsUndoChain pages contents chain → All (λ x. 16 ≤ x) (pages_of chain)
from_of pages contents chain is = all_pages (λ x. 16 ≤ x) chain (λ k d h. (is.inside k d h).0)

-- the slot with another chain
pub restacked : (pages : ℕ) (old new : Contents) (slots : List Ends) (slot : ℕ) (before after : Chain) (s t : Space) (more : List ℕ) → slot < 32 → HasStack pages old slots slot before s
    → IsUndoDirectory (page_of new 1) (set slots slot (ends_of after)) → IsLinked new 0 0 after → All (λ x. 16 ≤ x) (pages_of after) → IsSpace pages new t → IsApart after t
    → KeepsPages (λ other. is_among other (0 ∷ 1 ∷ (pages_of before ++ more))) old new → Restacks pages old new slots slot before after t more
restacked pages old new slots slot before after s t more few was directory linked from space apart others =
    let to = space.fresh_to in
    let count = was.stack.directory.count in
    let from_each = pages_all (λ x. 16 ≤ x) after from in
    record {
      stack = record {
        stack = record {
          directory = directory;
          ends = get_or-set_same slots slot (ends_of after) (0, 0) (omega (arith, few, count));
          stands = record {
            linked = linked;
            inside = λ k d h. (from_each k d h, let below = apart.used k d h in omega (arith, below, to));
            once = distinct_front (pages_of after) t.free apart.once;
          };
        };
        space = space;
        apart = apart;
      };
      others = others;
    }

-- a chain behind whose front other pages stand
pub linked_anew : (old new : Contents) (front : Chain) (p : UndoPage) (rest : Chain) (images : List OldImage) (more : Chain) (list : List ℕ) → IsLinked old 0 0 (front ++ p ∷ rest) → KeepsPages (λ page. is_among page list) old new → All (λ x. is_among x list ≡ false) (pages_of front)
    → IsUndoPage (page_of new p.page) p.page (last_page 0 front) (first_page 0 more) images → IsLinked new p.page 0 more → IsLinked new 0 0 (front ++ record { page = p.page; images = images } ∷ more)
linked_anew old new front p rest images more list linked keeps out page behind =
    let stays = pages_all (λ x. is_among x list ≡ false) front out in
    linked_both new 0 0 front (record { page = p.page; images = images } ∷ more) (linked_same old new 0 p.page front (λ k d h. keeps (get_or front k d).page (stays k d h)) (linked_front old 0 0 front (p ∷ rest) linked)) (page, behind)

-- ends by the page that is last
pub ends_same : (front : Chain) (p q : UndoPage) → p.page ≡ q.page → ends_of (front ++ p ∷ []) ≡ ends_of (front ++ q ∷ [])
ends_same front p q same =
    let first : first_page 0 (front ++ p ∷ []) ≡ first_page 0 (front ++ q ∷ []) = first_front 0 front (p ∷ []) ∙ ap (λ (n : ℕ). first_page n front) same ∙ sym (first_front 0 front (q ∷ [])) in
    let last : last_page 0 (front ++ p ∷ []) ≡ last_page 0 (front ++ q ∷ []) = last_is 0 front p ∙ same ∙ sym (last_is 0 front q) in
    λ i. (first i, last i)

-- a directory that says of a slot what it said
pub same_slots : (bytes : List ℕ) (slots : List Ends) (slot : ℕ) (ends : Ends) → IsUndoDirectory bytes slots → ends_at slot slots ≡ ends → IsUndoDirectory bytes (set slots slot ends)
same_slots bytes slots slot ends is at = subst (λ (slots : List Ends). IsUndoDirectory bytes slots) (sym (ap (set slots slot) (sym at) ∙ set-get_or slots slot (0, 0))) is

-- the same pages lie apart
pub apart_same : (xs ys : Chain) (s : Space) → pages_of xs ≡ pages_of ys → IsApart xs s → IsApart ys s
apart_same xs ys s same apart = record {
  used = pages_all (λ x. x < s.fresh) ys (subst (λ (pages : List ℕ). All (λ x. x < s.fresh) pages) same (all_pages (λ x. x < s.fresh) xs apart.used));
  once = subst (λ (pages : List ℕ). AreDistinct (pages ++ s.free)) same apart.once;
}

pub same_pages : (front : Chain) (p : UndoPage) (images : List OldImage) (rest : Chain) → pages_of (front ++ p ∷ rest) ≡ pages_of (front ++ record { page = p.page; images = images } ∷ rest)
same_pages front p images rest = pages_both front (p ∷ rest) ∙ sym (pages_both front (record { page = p.page; images = images } ∷ rest))

-- what a stack says of its last page and of those before it
pub record Parts (pages : ℕ) (old : Contents) (front : Chain) (p : UndoPage) (rest : Chain) (s : Space) : Type 0 where
  pub from : All (λ x. 16 ≤ x) (pages_of front ++ p.page ∷ pages_of rest)
  pub once : AreDistinct (pages_of front ++ (p.page ∷ (pages_of rest ++ s.free)))
  pub page : IsUndoPage (page_of old p.page) p.page (last_page 0 front) (first_page 0 rest) p.images

pub parts_of : (pages : ℕ) (old : Contents) (slots : List Ends) (slot : ℕ) (front : Chain) (p : UndoPage) (rest : Chain) (s : Space) → HasStack pages old slots slot (front ++ p ∷ rest) s → Parts pages old front p rest s
parts_of pages old slots slot front p rest s was = record {
  from = subst (λ (pages : List ℕ). All (λ x. 16 ≤ x) pages) (pages_both front (p ∷ rest)) (from_of pages old (front ++ p ∷ rest) was.stack.stands);
  once = subst (λ (pages : List ℕ). AreDistinct pages) (ap (λ (pages : List ℕ). pages ++ s.free) (pages_both front (p ∷ rest)) ∙ append_assoc (pages_of front) (p.page ∷ pages_of rest) s.free) was.apart.once;
  page = (linked_rest old 0 0 front (p ∷ rest) was.stack.stands.linked).0;
}

pub front_of : (P : ℕ → Type 0) (xs ys : List ℕ) → All P (xs ++ ys) → All P xs
front_of P [] ys all k d h = absurd (omega (arith, h))
front_of P (x ∷ xs) ys all zero d h = all 0 d (omega arith)
front_of P (x ∷ xs) ys all (suc k) d h = front_of P xs ys (λ k d h. all (suc k) d (omega (arith, h))) k d (omega (arith, h))

pub rest_of : (P : ℕ → Type 0) (xs ys : List ℕ) → All P (xs ++ ys) → All P ys
rest_of P [] ys all = all
rest_of P (x ∷ xs) ys all = rest_of P xs ys (λ k d h. all (suc k) d (omega (arith, h)))

pub here_of : (P : ℕ → Type 0) (xs : List ℕ) (x : ℕ) (ys : List ℕ) → All P (xs ++ x ∷ ys) → P x
here_of P xs x ys all = rest_of P xs (x ∷ ys) all 0 x (omega arith)

pub free_from : (pages : ℕ) (contents : Contents) (s : Space) → IsSpace pages contents s → All (λ x. 16 ≤ x) s.free
free_from pages contents s is k d h = (is.inside k d h).0

-- ---- no page is taken

pub pushed_stays : (pages : ℕ) (old new : Contents) (slots : List Ends) (slot : ℕ) (front : Chain) (p : UndoPage) (s : Space) (image : OldImage) → slot < 32 → HasStack pages old slots slot (front ++ p ∷ []) s → takes_page image (front ++ p ∷ []) ≡ false
    → KeepsPages (λ page. is_among page (p.page ∷ [])) old new → IsUndoPage (page_of new p.page) p.page (last_page 0 front) 0 (p.images ++ image ∷ [])
    → Restacks pages old new slots slot (front ++ p ∷ []) (pushed (next_free s) image (front ++ p ∷ [])) (space_after image (front ++ p ∷ []) s) (page_taken image (front ++ p ∷ []) s)
pushed_stays pages old new slots slot front p s image few was takes keeps page =
    let chain : Chain = front ++ p ∷ [] in
    let after : Chain = front ++ with_image image p ∷ [] in
    let parts = parts_of pages old slots slot front p [] s was in
    let front_from = front_of (λ x. 16 ≤ x) (pages_of front) (p.page ∷ []) parts.from in
    let page_from = here_of (λ x. 16 ≤ x) (pages_of front) p.page [] parts.from in
    let on_heads : AreAmong (p.page ∷ []) (0 ∷ 1 ∷ p.page ∷ s.free) = (among_here p.page (0 ∷ 1 ∷ []) s.free, tt) in
    let out = front_out (pages_of front) (p.page ∷ s.free) (p.page ∷ []) front_from parts.once on_heads in
    let linked = linked_anew old new front p [] (p.images ++ image ∷ []) [] (p.page ∷ []) was.stack.stands.linked keeps out page tt in
    let one_page : All (λ x. 16 ≤ x) (p.page ∷ []) = λ k d h. rest_of (λ x. 16 ≤ x) (pages_of front) (p.page ∷ []) parts.from k d h in
    let same = keeps 1 (low_among 1 (p.page ∷ []) (omega arith) one_page) in
    let directory = same_slots (page_of new 1) slots slot (ends_of after) (subst (λ (bytes : List ℕ). IsUndoDirectory bytes slots) (sym same) was.stack.directory) (was.stack.ends ∙ ends_same front p (with_image image p) refl) in
    let free_out = rest_out (pages_of chain) s.free (p.page ∷ []) (free_from pages old s was.space) was.apart.once (subst (λ (xs : List ℕ). AreAmong (p.page ∷ []) (0 ∷ 1 ∷ xs)) (sym (pages_both front (p ∷ []))) (among_here p.page (0 ∷ 1 ∷ pages_of front) [], tt)) in
    let space = space_same pages old new (p.page ∷ []) s was.space keeps (low_among 0 (p.page ∷ []) (omega arith) one_page) free_out in
    let wide : AreAmong (p.page ∷ []) (0 ∷ 1 ∷ (pages_of chain ++ [])) =
    subst (λ (xs : List ℕ). AreAmong (p.page ∷ []) (0 ∷ 1 ∷ xs)) (sym (append-nil (pages_of chain) ∙ pages_both front (p ∷ []))) (among_here p.page (0 ∷ 1 ∷ pages_of front) [], tt) in
    let from = subst (λ (xs : List ℕ). All (λ x. 16 ≤ x) xs) (same_pages front p (p.images ++ image ∷ []) []) (from_of pages old chain was.stack.stands) in
    let done : Restacks pages old new slots slot chain after s [] =
    restacked pages old new slots slot chain after s s [] few was directory linked from space (apart_same chain after s (same_pages front p (p.images ++ image ∷ []) []) was.apart) (keeps_within (p.page ∷ []) (0 ∷ 1 ∷ (pages_of chain ++ [])) old new wide keeps) in
    subst (λ (c : Chain). Restacks pages old new slots slot chain c (space_after image chain s) (page_taken image chain s)) (sym (pushed_on (next_free s) image front p takes))
    (subst (λ (b : Bool). Restacks pages old new slots slot chain after (if b then taken s else s) (if b then next_free s ∷ [] else [])) (sym takes) done)

-- ---- a page is taken

-- the page that is taken, beside the others
pub record Taken (xs free : List ℕ) (fresh n : ℕ) : Type 0 where
  pub from : 16 ≤ n
  pub once : AreDistinct (xs ++ (n ∷ rest_free free))
  pub used : All (λ x. x < fresh_after free fresh) xs
  pub below : n < fresh_after free fresh

pub next_taken : (xs free : List ℕ) (fresh n : ℕ) → n ≡ next_of free fresh → 16 ≤ fresh → All (λ x. (16 ≤ x) × (x < fresh)) free → All (λ x. x < fresh) xs → AreDistinct (xs ++ free) → Taken xs free fresh n
next_taken xs [] fresh n is from inside used once = record {
  from = omega (arith, is, from);
  once = distinct_more xs n (distinct_front xs [] once) (λ k d h same. let below = used k d h in omega (arith, below, same, is));
  used = λ k d h. (let below = used k d h in omega (arith, below));
  below = omega (arith, is);
}
next_taken xs (x ∷ free) fresh n is from inside used once =
    let here = inside 0 x (omega arith) in
    record {
      from = subst (λ (k : ℕ). 16 ≤ k) (sym is) here.0;
      once = subst (λ (k : ℕ). AreDistinct (xs ++ (k ∷ free))) (sym is) once;
      used = used;
      below = subst (λ (k : ℕ). k < fresh) (sym is) here.1;
    }

all_one_more : (P : ℕ → Type 0) (xs : List ℕ) (x : ℕ) → All P xs → P x → All P (xs ++ x ∷ [])
all_one_more P [] x all is zero d h = is
all_one_more P [] x all is (suc k) d h = absurd (omega (arith, h))
all_one_more P (y ∷ xs) x all is zero d h = all 0 d (omega arith)
all_one_more P (y ∷ xs) x all is (suc k) d h = all_one_more P xs x (λ k d h. all (suc k) d (omega (arith, h))) is k d (omega (arith, h))

-- a chain with the taken page behind it lies apart
pub longer_apart : (chain : Chain) (s : Space) (n : ℕ) (image : OldImage) → Taken (pages_of chain) s.free s.fresh n → IsApart (chain ++ one_image n image ∷ []) (taken s)
longer_apart chain s n image t =
    let pages : pages_of (chain ++ one_image n image ∷ []) ≡ pages_of chain ++ n ∷ [] = pages_both chain (one_image n image ∷ []) in
    record {
      used = pages_all (λ x. x < fresh_after s.free s.fresh) (chain ++ one_image n image ∷ []) (subst (λ (xs : List ℕ). All (λ x. x < fresh_after s.free s.fresh) xs) (sym pages) (all_one_more (λ x. x < fresh_after s.free s.fresh) (pages_of chain) n t.used t.below));
      once = subst (λ (xs : List ℕ). AreDistinct xs) (sym (ap (λ (xs : List ℕ). xs ++ rest_free s.free) pages ∙ append_assoc (pages_of chain) (n ∷ []) (rest_free s.free))) t.once;
    }

pub taken_of : (pages : ℕ) (old : Contents) (slots : List Ends) (slot : ℕ) (chain : Chain) (s : Space) (n : ℕ) → n ≡ next_free s → HasStack pages old slots slot chain s → Taken (pages_of chain) s.free s.fresh n
taken_of pages old slots slot chain s n is was = next_taken (pages_of chain) s.free s.fresh n is was.space.fresh_from was.space.inside (all_pages (λ x. x < s.fresh) chain was.apart.used) was.apart.once

-- a chain is begun
pub pushed_first : (pages : ℕ) (old mid new : Contents) (slots : List Ends) (slot n : ℕ) (s : Space) (image : OldImage) → slot < 32 → n ≡ next_free s → HasStack pages old slots slot [] s → IsSpace pages mid (taken s)
    → KeepsPages (λ page. is_among page (0 ∷ n ∷ [])) old mid → KeepsPages (λ page. is_among page (n ∷ 1 ∷ [])) mid new → IsUndoPage (page_of new n) n 0 0 (image ∷ []) → IsUndoDirectory (page_of new 1) (set slots slot (n, n))
    → Restacks pages old new slots slot [] (pushed (next_free s) image []) (taken s) (next_free s ∷ [])
pushed_first pages old mid new slots slot n s image few is was space first second page directory =
    let after : Chain = one_image n image ∷ [] in
    let t = taken_of pages old slots slot [] s n is was in
    let apart = longer_apart [] s n image t in
    let one : All (λ x. 16 ≤ x) (n ∷ []) = all_one_more (λ x. 16 ≤ x) [] n (λ k d h. absurd (omega (arith, h))) t.from in
    let on_heads : AreAmong (n ∷ 1 ∷ []) (0 ∷ 1 ∷ n ∷ []) = (among_here n (0 ∷ 1 ∷ []) [], (refl, tt)) in
    let zero_out : is_among 0 (n ∷ 1 ∷ []) ≡ false = both_out (n == 0) (is_among 0 (1 ∷ [])) (other_page n 0 (λ same. let from = t.from in omega (arith, from, same))) refl in
    let free_out = rest_out (n ∷ []) (rest_free s.free) (n ∷ 1 ∷ []) (free_from pages mid (taken s) space) t.once on_heads in
    let space_new = space_same pages mid new (n ∷ 1 ∷ []) (taken s) space second zero_out free_out in
    let wide : AreAmong (0 ∷ n ∷ n ∷ 1 ∷ []) (0 ∷ 1 ∷ n ∷ []) = (refl, (among_here n (0 ∷ 1 ∷ []) [], (among_here n (0 ∷ 1 ∷ []) [], (refl, tt)))) in
    let keeps = keeps_within (0 ∷ n ∷ n ∷ 1 ∷ []) (0 ∷ 1 ∷ n ∷ []) old new wide (keeps_on (0 ∷ n ∷ []) (n ∷ 1 ∷ []) old mid new first second) in
    let done = restacked pages old new slots slot [] after s (taken s) (n ∷ []) few was directory (page, tt) one space_new apart keeps in
    subst (λ (k : ℕ). Restacks pages old new slots slot [] (one_image k image ∷ []) (taken s) (k ∷ [])) is done

-- a page is linked behind the last one
pub pushed_takes : (pages : ℕ) (old mid new : Contents) (slots : List Ends) (slot n : ℕ) (front : Chain) (p : UndoPage) (s : Space) (image : OldImage) → slot < 32 → n ≡ next_free s → HasStack pages old slots slot (front ++ p ∷ []) s → takes_page image (front ++ p ∷ []) ≡ true → IsSpace pages mid (taken s)
    → KeepsPages (λ page. is_among page (0 ∷ n ∷ [])) old mid → KeepsPages (λ page. is_among page (n ∷ p.page ∷ 1 ∷ [])) mid new
    → IsUndoPage (page_of new p.page) p.page (last_page 0 front) n p.images → IsUndoPage (page_of new n) n p.page 0 (image ∷ []) → IsUndoDirectory (page_of new 1) (set slots slot (first_page 0 (front ++ p ∷ []), n))
    → Restacks pages old new slots slot (front ++ p ∷ []) (pushed (next_free s) image (front ++ p ∷ [])) (space_after image (front ++ p ∷ []) s) (page_taken image (front ++ p ∷ []) s)
pushed_takes pages old mid new slots slot n front p s image few is was takes space first second page next directory =
    let chain : Chain = front ++ p ∷ [] in
    let q : UndoPage = one_image n image in
    let after : Chain = front ++ p ∷ q ∷ [] in
    let joint : chain ++ q ∷ [] ≡ after = append_assoc front (p ∷ []) (q ∷ []) in
    let t = taken_of pages old slots slot chain s n is was in
    let apart = subst (λ (c : Chain). IsApart c (taken s)) joint (longer_apart chain s n image t) in
    let parts = parts_of pages old slots slot front p [] s was in
    let front_from = front_of (λ x. 16 ≤ x) (pages_of front) (p.page ∷ []) parts.from in
    let page_from = here_of (λ x. 16 ≤ x) (pages_of front) p.page [] parts.from in
    let pages_after : pages_of chain ++ n ∷ [] ≡ pages_of front ++ p.page ∷ n ∷ [] = ap (λ (xs : List ℕ). xs ++ n ∷ []) (pages_both front (p ∷ [])) ∙ append_assoc (pages_of front) (p.page ∷ []) (n ∷ []) in
    let once : AreDistinct (pages_of front ++ (p.page ∷ n ∷ rest_free s.free)) = subst (λ (xs : List ℕ). AreDistinct xs) (ap (λ (xs : List ℕ). xs ++ (n ∷ rest_free s.free)) (pages_both front (p ∷ [])) ∙ append_assoc (pages_of front) (p.page ∷ []) (n ∷ rest_free s.free)) t.once in
    let all_changed : AreAmong (0 ∷ n ∷ n ∷ p.page ∷ 1 ∷ []) (0 ∷ 1 ∷ p.page ∷ n ∷ rest_free s.free) =
    (refl, (among_here n (0 ∷ 1 ∷ p.page ∷ []) (rest_free s.free), (among_here n (0 ∷ 1 ∷ p.page ∷ []) (rest_free s.free), (among_here p.page (0 ∷ 1 ∷ []) (n ∷ rest_free s.free), (refl, tt))))) in
    let keeps = keeps_on (0 ∷ n ∷ []) (n ∷ p.page ∷ 1 ∷ []) old mid new first second in
    let out = front_out (pages_of front) (p.page ∷ n ∷ rest_free s.free) (0 ∷ n ∷ n ∷ p.page ∷ 1 ∷ []) front_from once all_changed in
    let linked = linked_anew old new front p [] p.images (q ∷ []) (0 ∷ n ∷ n ∷ p.page ∷ 1 ∷ []) was.stack.stands.linked keeps out page (next, tt) in
    let zero_out : is_among 0 (n ∷ p.page ∷ 1 ∷ []) ≡ false =
    both_out (n == 0) (is_among 0 (p.page ∷ 1 ∷ [])) (other_page n 0 (λ same. let from = t.from in omega (arith, from, same)))
    (both_out (p.page == 0) (is_among 0 (1 ∷ [])) (other_page p.page 0 (λ same. omega (arith, page_from, same))) refl) in
    let once_more : AreDistinct ((pages_of front ++ p.page ∷ n ∷ []) ++ rest_free s.free) = subst (λ (xs : List ℕ). AreDistinct xs) (sym (append_assoc (pages_of front) (p.page ∷ n ∷ []) (rest_free s.free))) once in
    let on_heads : AreAmong (n ∷ p.page ∷ 1 ∷ []) (0 ∷ 1 ∷ (pages_of front ++ p.page ∷ n ∷ [])) =
    (among_more n (0 ∷ 1 ∷ pages_of front) (p.page ∷ n ∷ []) (among_here n (p.page ∷ []) []), (among_here p.page (0 ∷ 1 ∷ pages_of front) (n ∷ []), (refl, tt))) in
    let free_out = rest_out (pages_of front ++ p.page ∷ n ∷ []) (rest_free s.free) (n ∷ p.page ∷ 1 ∷ []) (free_from pages mid (taken s) space) once_more on_heads in
    let space_new = space_same pages mid new (n ∷ p.page ∷ 1 ∷ []) (taken s) space second zero_out free_out in
    let from_front : All (λ x. 16 ≤ x) (pages_of chain ++ n ∷ []) = all_one_more (λ x. 16 ≤ x) (pages_of chain) n (from_of pages old chain was.stack.stands) t.from in
    let from : All (λ x. 16 ≤ x) (pages_of after) = subst (λ (xs : List ℕ). All (λ x. 16 ≤ x) xs) (pages_after ∙ sym (pages_both front (p ∷ q ∷ []))) from_front in
    let wide : AreAmong (0 ∷ n ∷ n ∷ p.page ∷ 1 ∷ []) (0 ∷ 1 ∷ (pages_of chain ++ n ∷ [])) =
    subst (λ (xs : List ℕ). AreAmong (0 ∷ n ∷ n ∷ p.page ∷ 1 ∷ []) (0 ∷ 1 ∷ xs)) (sym pages_after)
    (refl, (among_more n (0 ∷ 1 ∷ pages_of front) (p.page ∷ n ∷ []) (among_here n (p.page ∷ []) []), (among_more n (0 ∷ 1 ∷ pages_of front) (p.page ∷ n ∷ []) (among_here n (p.page ∷ []) []), (among_here p.page (0 ∷ 1 ∷ pages_of front) (n ∷ []), (refl, tt))))) in
    let ends : (first_page 0 chain, n) ≡ ends_of after =
    let firsts : first_page 0 chain ≡ first_page 0 after = first_front 0 front (p ∷ []) ∙ sym (first_front 0 front (p ∷ q ∷ [])) in
    let lasts : n ≡ last_page 0 after = sym (ap (last_page 0) (sym joint) ∙ last_is 0 chain q) in
    λ i. (firsts i, lasts i) in
    let says : IsUndoDirectory (page_of new 1) (set slots slot (ends_of after)) = subst (λ (e : Ends). IsUndoDirectory (page_of new 1) (set slots slot e)) ends directory in
    let done : Restacks pages old new slots slot chain after (taken s) (n ∷ []) =
    restacked pages old new slots slot chain after s (taken s) (n ∷ []) few was says linked from space_new apart (keeps_within (0 ∷ n ∷ n ∷ p.page ∷ 1 ∷ []) (0 ∷ 1 ∷ (pages_of chain ++ n ∷ [])) old new wide keeps) in
    subst (λ (c : Chain). Restacks pages old new slots slot chain c (space_after image chain s) (page_taken image chain s)) (sym (pushed_behind (next_free s) image front p takes))
    (subst (λ (b : Bool). Restacks pages old new slots slot chain (front ++ p ∷ one_image (next_free s) image ∷ []) (if b then taken s else s) (if b then next_free s ∷ [] else [])) (sym takes)
    (subst (λ (k : ℕ). Restacks pages old new slots slot chain (front ++ p ∷ one_image k image ∷ []) (taken s) (k ∷ [])) is done))

-- ---- as the calls have it

low_pair : (n : ℕ) → 16 ≤ n → is_among 1 (0 ∷ n ∷ []) ≡ false
low_pair n from = both_out (n == 1) false (other_page n 1 (λ same. omega (arith, from, same))) refl

pub begun_first : (pages : ℕ) (old mid made new : Contents) (slots : List Ends) (slot n : ℕ) (s : Space) (image : OldImage) (directory : List ℕ) → slot < 32 → n ≡ next_free s → HasStack pages old slots slot [] s → IsSpace pages mid (taken s)
    → KeepsPages (λ page. is_among page (0 ∷ n ∷ [])) old mid → KeepsPages (λ page. is_among page (n ∷ [])) mid made → KeepsPages (λ page. is_among page (1 ∷ [])) made new → IsUndoPage (page_of made n) n 0 0 (image ∷ [])
    → directory ≡ page_of old 1 → (directory ≡ page_of made 1 → IsUndoDirectory (page_of made 1) slots → IsUndoDirectory (page_of new 1) (set slots slot (n, n)))
    → Restacks pages old new slots slot [] (pushed (next_free s) image []) (taken s) (next_free s ∷ [])
begun_first pages old mid made new slots slot n s image directory few is was space first second third page same writes =
    let from = (taken_of pages old slots slot [] s n is was).from in
    let one_stays : page_of made 1 ≡ page_of old 1 = second 1 (both_out (n == 1) false (other_page n 1 (λ at. omega (arith, from, at))) refl) ∙ first 1 (low_pair n from) in
    let says = writes (same ∙ sym one_stays) (subst (λ (bytes : List ℕ). IsUndoDirectory bytes slots) (sym one_stays) was.stack.directory) in
    let page_now : IsUndoPage (page_of new n) n 0 0 (image ∷ []) = subst (λ (bytes : List ℕ). IsUndoPage bytes n 0 0 (image ∷ [])) (sym (third n (both_out (1 == n) false (other_page 1 n (λ at. omega (arith, from, at))) refl))) page in
    pushed_first pages old mid new slots slot n s image few is was space first (keeps_on (n ∷ []) (1 ∷ []) mid made new second third) page_now says

pub extended : (pages : ℕ) (old mid made linked new : Contents) (slots : List Ends) (slot n : ℕ) (front : Chain) (p : UndoPage) (s : Space) (image : OldImage) (directory bytes : List ℕ) (ends : Ends) → slot < 32 → n ≡ next_free s → HasStack pages old slots slot (front ++ p ∷ []) s → takes_page image (front ++ p ∷ []) ≡ true → IsSpace pages mid (taken s)
    → KeepsPages (λ page. is_among page (0 ∷ n ∷ [])) old mid → KeepsPages (λ page. is_among page (n ∷ [])) mid made → KeepsPages (λ page. is_among page (p.page ∷ [])) made linked → KeepsPages (λ page. is_among page (1 ∷ [])) linked new
    → IsUndoPage (page_of made n) n p.page 0 (image ∷ []) → bytes ≡ page_of old p.page
    → (bytes ≡ page_of made p.page → IsUndoPage (page_of made p.page) p.page (last_page 0 front) 0 p.images → IsUndoPage (page_of linked p.page) p.page (last_page 0 front) n p.images)
    → directory ≡ page_of old 1 → ends ≡ ends_of (front ++ p ∷ []) → (directory ≡ page_of linked 1 → IsUndoDirectory (page_of linked 1) slots → IsUndoDirectory (page_of new 1) (set slots slot (ends.0, n)))
    → Restacks pages old new slots slot (front ++ p ∷ []) (pushed (next_free s) image (front ++ p ∷ [])) (space_after image (front ++ p ∷ []) s) (page_taken image (front ++ p ∷ []) s)
extended pages old mid made linked new slots slot n front p s image directory bytes ends few is was takes space first second third fourth page same_page links same_slots ends_are writes =
    let t = taken_of pages old slots slot (front ++ p ∷ []) s n is was in
    let from = t.from in
    let parts = parts_of pages old slots slot front p [] s was in
    let page_from = here_of (λ x. 16 ≤ x) (pages_of front) p.page [] parts.from in
    let once : AreDistinct (pages_of front ++ (p.page ∷ n ∷ rest_free s.free)) = subst (λ (xs : List ℕ). AreDistinct xs) (ap (λ (xs : List ℕ). xs ++ (n ∷ rest_free s.free)) (pages_both front (p ∷ [])) ∙ append_assoc (pages_of front) (p.page ∷ []) (n ∷ rest_free s.free)) t.once in
    let behind : AreDistinct (p.page ∷ n ∷ rest_free s.free) = distinct_rest (pages_of front) (p.page ∷ n ∷ rest_free s.free) once in
    let differs : p.page ≢ n = λ at. behind.0 0 0 (omega arith) at in
    let n_other : is_among p.page (n ∷ []) ≡ false = both_out (n == p.page) false (other_page n p.page (λ at. differs (sym at))) refl in
    let page_stays : page_of made p.page ≡ page_of old p.page =
    second p.page n_other ∙ first p.page (both_out (0 == p.page) (is_among p.page (n ∷ [])) (other_page 0 p.page (λ at. omega (arith, page_from, at))) n_other) in
    let one_made : page_of made 1 ≡ page_of old 1 = second 1 (both_out (n == 1) false (other_page n 1 (λ at. omega (arith, from, at))) refl) ∙ first 1 (low_pair n from) in
    let one_linked : page_of linked 1 ≡ page_of old 1 = third 1 (both_out (p.page == 1) false (other_page p.page 1 (λ at. omega (arith, page_from, at))) refl) ∙ one_made in
    let link_now = links (same_page ∙ sym page_stays) (subst (λ (b : List ℕ). IsUndoPage b p.page (last_page 0 front) 0 p.images) (sym page_stays) parts.page) in
    let says = writes (same_slots ∙ sym one_linked) (subst (λ (b : List ℕ). IsUndoDirectory b slots) (sym one_linked) was.stack.directory) in
    let says_first : IsUndoDirectory (page_of new 1) (set slots slot (first_page 0 (front ++ p ∷ []), n)) = subst (λ (k : ℕ). IsUndoDirectory (page_of new 1) (set slots slot (k, n))) (ap (λ (e : Ends). e.0) ends_are) says in
    let not_one : (k : ℕ) → 16 ≤ k → is_among k (1 ∷ []) ≡ false = λ k from. both_out (1 == k) false (other_page 1 k (λ at. omega (arith, from, at))) refl in
    let last_new = subst (λ (b : List ℕ). IsUndoPage b p.page (last_page 0 front) n p.images) (sym (fourth p.page (not_one p.page page_from))) link_now in
    let next_linked : page_of linked n ≡ page_of made n = third n (both_out (p.page == n) false (other_page p.page n differs) refl) in
    let next_new = subst (λ (b : List ℕ). IsUndoPage b n p.page 0 (image ∷ [])) (sym (fourth n (not_one n from) ∙ next_linked)) page in
    pushed_takes pages old mid new slots slot n front p s image few is was takes space first (keeps_on (n ∷ []) (p.page ∷ 1 ∷ []) mid made new second (keeps_on (p.page ∷ []) (1 ∷ []) made linked new third fourth)) last_new next_new says_first

-- whether a page is taken, by the places
pub takes_by : (image : OldImage) (front : Chain) (p : UndoPage) (used size : ℕ) (b : Bool) → used ≡ end_of p → size ≡ length (image_bytes image) → b ≡ nat_le (used + size) 4096 → takes_page image (front ++ p ∷ []) ≡ not b
takes_by image front p used size b used_is size_is is =
    takes_last image front p ∙ ap not (sym (is ∙ (λ i. nat_le (used_is i + size_is i) 4096)))

pub can_push_now : (pages pages_now : ℕ) (old now : Contents) (slots : List Ends) (slot : ℕ) (chain : Chain) (s : Space) (image : OldImage) → pages_now ≡ pages → now ≡ old → CanPush pages old slots slot chain s image → CanPush pages_now now slots slot chain s image
can_push_now pages pages_now old now slots slot chain s image shape same can = subst (λ (n : ℕ). CanPush n now slots slot chain s image) (sym shape) (subst (λ (c : Contents). CanPush pages c slots slot chain s image) (sym same) can)
