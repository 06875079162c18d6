-- A chain with one image more, and without its newest one.
use Rattle.std.proofs.Common.{◌≡◌, inl, inr, Bool, true, false, not, ℕ, zero, suc, List, [], ◌∷◌, ◌++◌, length, drop, Some, refl, sym, ◌∙◌, ap, arith, if◌then◌else◌}
use Rattle.std.proofs.lemmas.List.{append-nil, append_assoc}
use Rattle.isp_format.specs.Undo.{OldImage}
use Rattle.isp_undo_walks.specs.Chains.{Chain, UndoPage, images_of, is_empty, pages_of}
use Rattle.isp_undo.specs.Chains.{filled, gone, has_room, joined, newest_in, newest_of, one_image, popped, pushed, takes_page, trimmed, with_image, without_last, without_newest}
use Rattle.isp_undo_walks.specs.Walks.{AreEmpty, Stops}
use Rattle.isp_undo_walks.proofs.LinkLaws.{pages_both}

-- ---- one more

pub takes_last : (image : OldImage) (front : Chain) (p : UndoPage) → takes_page image (front ++ p ∷ []) ≡ not (has_room image p.images)
takes_last image [] p = refl
takes_last image (x ∷ []) p = refl
takes_last image (x ∷ y ∷ front) p = takes_last image (y ∷ front) p

pub pushed_last : (page : ℕ) (image : OldImage) (front : Chain) (p : UndoPage) → pushed page image (front ++ p ∷ []) ≡ front ++ pushed page image (p ∷ [])
pushed_last page image [] p = refl
pushed_last page image (x ∷ []) p = refl
pushed_last page image (x ∷ y ∷ front) p = ap (λ (chain : Chain). x ∷ chain) (pushed_last page image (y ∷ front) p)

not_true : (b : Bool) → not b ≡ true → b ≡ false
not_true false is = refl
not_true true is = cc

not_false : (b : Bool) → not b ≡ false → b ≡ true
not_false true is = refl
not_false false is = cc

on_last : (page : ℕ) (image : OldImage) (p : UndoPage) (b : Bool) → has_room image p.images ≡ b → pushed page image (p ∷ []) ≡ (if b then with_image image p ∷ [] else p ∷ one_image page image ∷ [])
on_last page image p b is = ap (λ (b : Bool). if b then with_image image p ∷ [] else p ∷ one_image page image ∷ []) is

-- where no page is taken the last one has the image
pub pushed_on : (page : ℕ) (image : OldImage) (front : Chain) (p : UndoPage) → takes_page image (front ++ p ∷ []) ≡ false → pushed page image (front ++ p ∷ []) ≡ front ++ with_image image p ∷ []
pushed_on page image front p takes = pushed_last page image front p ∙ ap (λ (chain : Chain). front ++ chain) (on_last page image p true (not_false (has_room image p.images) (sym (takes_last image front p) ∙ takes)))

-- where one is taken it stands behind all
pub pushed_behind : (page : ℕ) (image : OldImage) (front : Chain) (p : UndoPage) → takes_page image (front ++ p ∷ []) ≡ true → pushed page image (front ++ p ∷ []) ≡ front ++ p ∷ one_image page image ∷ []
pushed_behind page image front p takes = pushed_last page image front p ∙ ap (λ (chain : Chain). front ++ chain) (on_last page image p false (not_true (has_room image p.images) (sym (takes_last image front p) ∙ takes)))

-- ---- the images of chains

pub images_both : (xs ys : Chain) → images_of (xs ++ ys) ≡ images_of xs ++ images_of ys
images_both [] ys = refl
images_both (p ∷ xs) ys = ap (λ (images : List OldImage). p.images ++ images) (images_both xs ys) ∙ sym (append_assoc p.images (images_of xs) (images_of ys))

images_one : (p : UndoPage) → images_of (p ∷ []) ≡ p.images
images_one p = append-nil p.images

-- an image that is pushed is the newest, and the others stay
pub pushed_images : (page : ℕ) (image : OldImage) (chain : Chain) → images_of (pushed page image chain) ≡ images_of chain ++ image ∷ []
pushed_images page image [] = refl
pushed_images page image (p ∷ []) = by (has_room image p.images)
  where
    by : (b : Bool) → images_of (if b then with_image image p ∷ [] else p ∷ one_image page image ∷ []) ≡ images_of (p ∷ []) ++ image ∷ []
    by true = images_one (with_image image p) ∙ ap (λ (images : List OldImage). images ++ image ∷ []) (sym (images_one p))
    by false = ap (λ (images : List OldImage). images ++ image ∷ []) (sym (images_one p))
pushed_images page image (p ∷ q ∷ rest) = ap (λ (images : List OldImage). p.images ++ images) (pushed_images page image (q ∷ rest)) ∙ sym (append_assoc p.images (images_of (q ∷ rest)) (image ∷ []))

-- ---- the newest

pub newest_last : (images : List OldImage) (image : OldImage) → newest_in (images ++ image ∷ []) ≡ Some image
newest_last [] image = refl
newest_last (i ∷ []) image = refl
newest_last (i ∷ j ∷ images) image = newest_last (j ∷ images) image

all_but : (images : List OldImage) (image : OldImage) → without_last (images ++ image ∷ []) ≡ images
all_but [] image = refl
all_but (i ∷ []) image = refl
all_but (i ∷ j ∷ images) image = ap (λ (images : List OldImage). i ∷ images) (all_but (j ∷ images) image)

pub empty_images : (chain : Chain) → AreEmpty chain → images_of chain ≡ []
empty_images [] all = refl
empty_images (p ∷ rest) all = ap (λ (images : List OldImage). images ++ images_of rest) (all 0 p (omega arith)) ∙ empty_images rest (λ k d h. all (suc k) d (omega (arith, h)))

some_first : (xs ys : List OldImage) → is_empty xs ≡ false → is_empty (xs ++ ys) ≡ false
some_first [] ys some = cc
some_first (x ∷ xs) ys some = refl

some_rest : (xs ys : List OldImage) → is_empty ys ≡ false → is_empty (xs ++ ys) ≡ false
some_rest [] ys some = some
some_rest (x ∷ xs) ys some = refl

pub some_last : (images : List OldImage) (image : OldImage) → is_empty (images ++ image ∷ []) ≡ false
some_last images image = some_rest images (image ∷ []) refl

some_images : (front : Chain) (p : UndoPage) (behind : Chain) → is_empty p.images ≡ false → is_empty (images_of (front ++ p ∷ behind)) ≡ false
some_images [] p behind some = some_first p.images (images_of behind) some
some_images (x ∷ front) p behind some = some_rest x.images (images_of (front ++ p ∷ behind)) (some_images front p behind some)

-- the page with the newest image, among the others
pub newest_at : (front : Chain) (p : UndoPage) (behind : Chain) (images : List OldImage) (image : OldImage) → AreEmpty behind → p.images ≡ images ++ image ∷ [] → newest_of (front ++ p ∷ behind) ≡ Some image
newest_at front p behind images image empty is =
    let all : images_of (front ++ p ∷ behind) ≡ (images_of front ++ images) ++ image ∷ [] =
    images_both front (p ∷ behind)
    ∙ ap (λ (rest : List OldImage). images_of front ++ (p.images ++ rest)) (empty_images behind empty)
    ∙ ap (λ (rest : List OldImage). images_of front ++ rest) (append-nil p.images ∙ is)
    ∙ sym (append_assoc (images_of front) images (image ∷ [])) in
    ap newest_in all ∙ newest_last (images_of front ++ images) image

pub without_at : (front : Chain) (p : UndoPage) (behind : Chain) (images : List OldImage) (image : OldImage) → AreEmpty behind → p.images ≡ images ++ image ∷ [] → without_newest (front ++ p ∷ behind) ≡ front ++ record { page = p.page; images = images } ∷ behind
without_at [] p behind images image empty is =
    ap (λ (others : List OldImage). if is_empty others then record { page = p.page; images = without_last p.images } ∷ behind else p ∷ without_newest behind) (empty_images behind empty)
    ∙ ap (λ (images : List OldImage). record { page = p.page; images = images } ∷ behind) (ap without_last is ∙ all_but images image)
without_at (x ∷ front) p behind images image empty is =
    let some : is_empty p.images ≡ false = ap is_empty is ∙ some_last images image in
    ap (λ (b : Bool). if b then record { page = x.page; images = without_last x.images } ∷ (front ++ p ∷ behind) else x ∷ without_newest (front ++ p ∷ behind)) (some_images front p behind some)
    ∙ ap (λ (chain : Chain). x ∷ chain) (without_at front p behind images image empty is)

empty_filled : (chain : Chain) → AreEmpty chain → filled chain ≡ []
empty_filled [] all = refl
empty_filled (p ∷ rest) all =
    ap (joined p) (empty_filled rest (λ k d h. all (suc k) d (omega (arith, h))))
    ∙ ap (λ (images : List OldImage). if is_empty images then [] else p ∷ []) (all 0 p (omega arith))

joined_some : (x : UndoPage) (front : Chain) (p : UndoPage) → joined x (front ++ p ∷ []) ≡ x ∷ (front ++ p ∷ [])
joined_some x [] p = refl
joined_some x (y ∷ front) p = refl

filled_at : (front : Chain) (p : UndoPage) (behind : Chain) → AreEmpty behind → is_empty p.images ≡ false → filled (front ++ p ∷ behind) ≡ front ++ p ∷ []
filled_at [] p behind empty some =
    ap (joined p) (empty_filled behind empty) ∙ ap (λ (b : Bool). if b then [] else p ∷ []) some
filled_at (x ∷ front) p behind empty some = ap (joined x) (filled_at front p behind empty some) ∙ joined_some x front p

pub trimmed_at : (front : Chain) (p : UndoPage) (behind : Chain) → AreEmpty behind → Stops front p → trimmed (front ++ p ∷ behind) ≡ front ++ p ∷ []
trimmed_at [] p behind empty stops = ap (λ (rest : Chain). p ∷ rest) (empty_filled behind empty)
trimmed_at (x ∷ front) p behind empty (inl some) = ap (λ (rest : Chain). x ∷ rest) (filled_at front p behind empty some)
trimmed_at (x ∷ front) p behind empty (inr none) = cc

-- ---- the chain without its newest image

drop_front : (xs ys : List ℕ) → drop (length xs) (xs ++ ys) ≡ ys
drop_front [] ys = refl
drop_front (x ∷ xs) ys = drop_front xs ys

pages_long : (chain : Chain) → length (pages_of chain) ≡ length chain
pages_long [] = refl
pages_long (p ∷ rest) = ap suc (pages_long rest)

one_longer : (front : Chain) (p : UndoPage) → length (front ++ p ∷ []) ≡ suc (length front)
one_longer [] p = refl
one_longer (x ∷ front) p = ap suc (one_longer front p)

-- what goes behind a page that is the last then
pub gone_at : (chain front : Chain) (p q : UndoPage) (behind : Chain) → chain ≡ front ++ p ∷ behind → popped chain ≡ front ++ q ∷ [] → gone chain ≡ pages_of behind
gone_at chain front p q behind is popped_is =
    let parts : chain ≡ (front ++ p ∷ []) ++ behind = is ∙ sym (append_assoc front (p ∷ []) behind) in
    let long : length (popped chain) ≡ length (pages_of (front ++ p ∷ [])) =
    ap length popped_is ∙ one_longer front q ∙ sym (one_longer front p) ∙ sym (pages_long (front ++ p ∷ [])) in
    ap (λ (n : ℕ). drop n (pages_of chain)) long
    ∙ ap (λ (pages : List ℕ). drop (length (pages_of (front ++ p ∷ []))) pages) (ap pages_of parts ∙ pages_both (front ++ p ∷ []) behind)
    ∙ drop_front (pages_of (front ++ p ∷ [])) (pages_of behind)

-- where the page keeps images, or is the first, it stays
pub popped_stays : (chain front : Chain) (p : UndoPage) (behind : Chain) (images : List OldImage) (image : OldImage) → chain ≡ front ++ p ∷ behind → AreEmpty behind → p.images ≡ images ++ image ∷ [] → Stops front (record { page = p.page; images = images })
    → popped chain ≡ front ++ record { page = p.page; images = images } ∷ []
popped_stays chain front p behind images image is empty has stops =
    ap (λ (c : Chain). popped c) is ∙ ap trimmed (without_at front p behind images image empty has) ∙ trimmed_at front (record { page = p.page; images = images }) behind empty stops

empty_behind : (mid : Chain) (page : ℕ) (behind : Chain) → AreEmpty mid → AreEmpty behind → AreEmpty (mid ++ record { page = page; images = [] } ∷ behind)
empty_behind [] page behind first second zero d h = refl
empty_behind [] page behind first second (suc k) d h = second k d (omega (arith, h))
empty_behind (q ∷ mid) page behind first second zero d h = first 0 d (omega arith)
empty_behind (q ∷ mid) page behind first second (suc k) d h = empty_behind mid page behind (λ k d h. first (suc k) d (omega (arith, h))) second k d (omega (arith, h))

-- else it goes too, and the empty pages before it
pub popped_goes : (chain front : Chain) (q : UndoPage) (mid : Chain) (p : UndoPage) (behind : Chain) (image : OldImage) → chain ≡ front ++ q ∷ (mid ++ p ∷ behind) → AreEmpty mid → AreEmpty behind → p.images ≡ image ∷ [] → Stops front q
    → popped chain ≡ front ++ q ∷ []
popped_goes chain front q mid p behind image is empty_mid empty has stops =
    let gone : Chain = record { page = p.page; images = [] } ∷ behind in
    let parts : chain ≡ (front ++ q ∷ mid) ++ p ∷ behind = is ∙ sym (append_assoc front (q ∷ mid) (p ∷ behind)) in
    ap (λ (c : Chain). popped c) parts
    ∙ ap trimmed (without_at (front ++ q ∷ mid) p behind [] image empty has)
    ∙ ap trimmed (append_assoc front (q ∷ mid) gone)
    ∙ trimmed_at front q (mid ++ gone) (empty_behind mid p.page behind empty_mid empty) stops

-- ---- laws for callers

filled_images : (chain : Chain) → images_of (filled chain) ≡ images_of chain
filled_images [] = refl
filled_images (p ∷ rest) = by (filled rest) (filled_images rest)
  where
    alone : (images others : List OldImage) → [] ≡ others → images_of (if is_empty images then [] else record { page = p.page; images = images } ∷ []) ≡ images ++ others
    alone [] others is = is
    alone (i ∷ images) others is = ap (λ (rest : List OldImage). (i ∷ images) ++ rest) is

    by : (chain : Chain) → images_of chain ≡ images_of rest → images_of (joined p chain) ≡ p.images ++ images_of rest
    by [] is = alone p.images (images_of rest) is
    by (q ∷ more) is = ap (λ (rest : List OldImage). p.images ++ rest) is

trimmed_images : (chain : Chain) → images_of (trimmed chain) ≡ images_of chain
trimmed_images [] = refl
trimmed_images (p ∷ rest) = ap (λ (images : List OldImage). p.images ++ images) (filled_images rest)

without_append : (xs ys : List OldImage) → is_empty ys ≡ false → without_last (xs ++ ys) ≡ xs ++ without_last ys
without_append [] ys some = refl
without_append (x ∷ []) [] some = cc
without_append (x ∷ []) (y ∷ ys) some = refl
without_append (x ∷ z ∷ xs) ys some = ap (λ (images : List OldImage). x ∷ images) (without_append (z ∷ xs) ys some)

none_of : (xs : List OldImage) → is_empty xs ≡ true → xs ≡ []
none_of [] is = refl
none_of (x ∷ xs) is = cc

without_images : (chain : Chain) → images_of (without_newest chain) ≡ without_last (images_of chain)
without_images [] = refl
without_images (p ∷ rest) = by (is_empty (images_of rest)) refl (without_images rest)
  where
    by : (b : Bool) → is_empty (images_of rest) ≡ b → images_of (without_newest rest) ≡ without_last (images_of rest) → images_of (if b then record { page = p.page; images = without_last p.images } ∷ rest else p ∷ without_newest rest) ≡ without_last (p.images ++ images_of rest)
    by true is below =
        let none = none_of (images_of rest) is in
        ap (λ (others : List OldImage). without_last p.images ++ others) none ∙ append-nil (without_last p.images)
        ∙ sym (ap without_last (ap (λ (others : List OldImage). p.images ++ others) none ∙ append-nil p.images))
    by false is below = ap (λ (images : List OldImage). p.images ++ images) below ∙ sym (without_append p.images (images_of rest) is)

-- the images are all but the newest
pub popped_images : (chain : Chain) → images_of (popped chain) ≡ without_last (images_of chain)
popped_images chain = trimmed_images (without_newest chain) ∙ without_images chain

-- ---- their pages

without_pages : (chain : Chain) → pages_of (without_newest chain) ≡ pages_of chain
without_pages [] = refl
without_pages (p ∷ rest) = by (is_empty (images_of rest)) (without_pages rest)
  where
    by : (b : Bool) → pages_of (without_newest rest) ≡ pages_of rest → pages_of (if b then record { page = p.page; images = without_last p.images } ∷ rest else p ∷ without_newest rest) ≡ p.page ∷ pages_of rest
    by true below = refl
    by false below = ap (λ (pages : List ℕ). p.page ∷ pages) below

filled_front : (chain : Chain) → (rest : List ℕ) × (pages_of chain ≡ pages_of (filled chain) ++ rest)
filled_front [] = ([], refl)
filled_front (p ∷ rest) = by (filled rest) (filled_front rest)
  where
    alone : (b : Bool) → (more : List ℕ) × (p.page ∷ pages_of rest ≡ pages_of (if b then [] else p ∷ []) ++ more)
    alone true = (p.page ∷ pages_of rest, refl)
    alone false = (pages_of rest, refl)

    by : (chain : Chain) → (more : List ℕ) × (pages_of rest ≡ pages_of chain ++ more) → (more : List ℕ) × (p.page ∷ pages_of rest ≡ pages_of (joined p chain) ++ more)
    by [] front = alone (is_empty p.images)
    by (q ∷ chain) front = (front.0, ap (λ (pages : List ℕ). p.page ∷ pages) front.1)

trimmed_front : (chain : Chain) → (rest : List ℕ) × (pages_of chain ≡ pages_of (trimmed chain) ++ rest)
trimmed_front [] = ([], refl)
trimmed_front (p ∷ rest) = let front = filled_front rest in (front.0, ap (λ (pages : List ℕ). p.page ∷ pages) front.1)

-- the chain's pages are those that stay and those that go
pub popped_pages : (chain : Chain) → pages_of (popped chain) ++ gone chain ≡ pages_of chain
popped_pages chain =
    let front = trimmed_front (without_newest chain) in
    let is : pages_of chain ≡ pages_of (popped chain) ++ front.0 = sym (without_pages chain) ∙ front.1 in
    let rest : gone chain ≡ front.0 = (λ i. drop (sym (pages_long (popped chain)) i) (is i)) ∙ drop_front (pages_of (popped chain)) front.0 in
    ap (λ (pages : List ℕ). pages_of (popped chain) ++ pages) rest ∙ sym is

-- a page that is taken stands behind those that were there
pub pushed_pages : (page : ℕ) (image : OldImage) (chain : Chain) → pages_of (pushed page image chain) ≡ pages_of chain ++ (if takes_page image chain then page ∷ [] else [])
pushed_pages page image [] = refl
pushed_pages page image (p ∷ []) = by (has_room image p.images)
  where
    by : (b : Bool) → pages_of (if b then with_image image p ∷ [] else p ∷ one_image page image ∷ []) ≡ (p.page ∷ []) ++ (if not b then page ∷ [] else [])
    by true = refl
    by false = refl
pushed_pages page image (p ∷ q ∷ rest) = ap (λ (pages : List ℕ). p.page ∷ pages) (pushed_pages page image (q ∷ rest))
