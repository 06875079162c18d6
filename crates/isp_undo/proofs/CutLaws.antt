-- Chains that end earlier, or at all: pages that are given back.
use Rattle.std.proofs.Common.{◌≡◌, ◌==◌, ◌||◌, Bool, true, false, ℕ, suc, ◌<◌, ◌≤◌, List, [], ◌∷◌, ◌++◌, length, set, get_or, refl, sym, ◌∙◌, ap, subst, arith}
use Rattle.std.specs.Prelude.{All}
use Rattle.std.proofs.lemmas.List.{append-nil, append_assoc}
use Rattle.isp_format.specs.Doublewrite.{AreDistinct}
use Rattle.isp_format.specs.Header.{header_of}
use Rattle.isp_format.specs.Ranges.{Contents, page_of}
use Rattle.isp_format.specs.Undo.{IsUndoDirectory, IsUndoPage, OldImage, Slot as Ends}
use Rattle.isp_page.specs.State.{is_among}
use Rattle.isp_page.specs.Touched.{AreAmong, KeepsPages, is_page}
use Rattle.isp_space.specs.Giving.{AreLinked, IsGiven, last_of, with_chain}
use Rattle.isp_space.specs.Spaces.{IsSpace, Space, first_of}
use Rattle.isp_undo.specs.Calls.{HasStack, Restacks}
use Rattle.isp_undo_walks.specs.Chains.{Chain, IsLinked, UndoPage, ends_of, first_page, last_page, pages_of, undo_page}
use Rattle.isp_undo.specs.Chains.{IsApart}
use Rattle.isp_undo_walks.proofs.LinkLaws.{all_pages, all_rest, all_tail, first_front, last_behind, last_is, linked_rest, linked_same, pages_all, pages_both}
use Rattle.isp_undo_walks.proofs.PageLaws.{among_here, among_less, among_more, both_out, distinct_front, distinct_rest, front_out, keeps_on, keeps_within, low_among, other_page, rest_out, space_same}
use Rattle.isp_undo.proofs.PushLaws.{apart_same, ends_same, free_from, from_of, front_of, here_of, linked_anew, parts_of, rest_of, restacked, same_pages, same_slots}

-- the pages of a chain, linked as the space takes them
pub links_of : (contents : Contents) (before behind : ℕ) (chain : Chain) → IsLinked contents before behind chain → AreLinked contents (pages_of chain)
links_of contents before behind [] linked = tt
links_of contents before behind (p ∷ []) linked = tt
links_of contents before behind (p ∷ q ∷ rest) linked = (linked.0.next_is, links_of contents p.page behind (q ∷ rest) linked.1)

first_is : (chain : Chain) → first_of (pages_of chain) ≡ first_page 0 chain
first_is [] = refl
first_is (p ∷ rest) = refl

last_is_page : (p : UndoPage) (rest : Chain) → last_of (pages_of (p ∷ rest)) ≡ last_page p.page rest
last_is_page p [] = refl
last_is_page p (q ∷ rest) = last_is_page q rest

long_is : (chain : Chain) → length (pages_of chain) ≡ length chain
long_is [] = refl
long_is (p ∷ rest) = ap suc (long_is rest)

-- the last page is among those of the chain
pub last_among : (p : UndoPage) (rest : Chain) → is_among (last_page p.page rest) (pages_of (p ∷ rest)) ≡ true
last_among p [] = among_here p.page [] []
last_among p (q ∷ rest) = among_more (last_page q.page rest) (p.page ∷ []) (pages_of (q ∷ rest)) (last_among q rest)

-- pages of a chain that is linked are given as one chain
pub given_of : (contents : Contents) (s : Space) (before : ℕ) (q : UndoPage) (rest : Chain) (first last count : ℕ) → IsLinked contents before 0 (q ∷ rest) → All (λ x. 16 ≤ x) (pages_of (q ∷ rest)) → All (λ (p : UndoPage). p.page < s.fresh) (q ∷ rest) → AreDistinct (pages_of (q ∷ rest) ++ s.free)
    → q.page ≡ first → last_page q.page rest ≡ last → count ≡ length (q ∷ rest) → IsGiven contents s first last count (pages_of (q ∷ rest))
given_of contents s before q rest first last count linked from used once first_at last_at count_is =
    let below = all_pages (λ x. x < s.fresh) (q ∷ rest) used in
    record {
      from = first_at;
      to = last_is_page q rest ∙ last_at;
      size = long_is (q ∷ rest) ∙ sym count_is;
      links = links_of contents before 0 (q ∷ rest) linked;
      inside = λ k d h. (from k d h, below k d h);
      once = once;
    }

-- what the space changed, as a list
pub given_pages : (last : ℕ) (old new : Contents) → KeepsPages (λ q. is_page last q || is_page 0 q) old new → KeepsPages (λ page. is_among page (last ∷ 0 ∷ [])) old new
given_pages last old new keeps page out = keeps page (both_out (page == last) (page == 0) (first_out (last == page) refl out) (second_out (last == page) out))
  where
    first_out : (b : Bool) → (last == page) ≡ b → (b || is_among page (0 ∷ [])) ≡ false → (page == last) ≡ false
    first_out true is bad = cc
    first_out false is out = grind (arith, is)

    second_out : (b : Bool) → (b || is_among page (0 ∷ [])) ≡ false → (page == 0) ≡ false
    second_out true bad = cc
    second_out false out = zero_out (0 == page) refl out
      where
        zero_out : (b : Bool) → (0 == page) ≡ b → (b || false) ≡ false → (page == 0) ≡ false
        zero_out true is bad = cc
        zero_out false is out = grind (arith, is)

-- ---- nothing stands behind the page

pub cut_alone : (pages : ℕ) (old new : Contents) (slots : List Ends) (slot : ℕ) (front : Chain) (page : ℕ) (images more : List OldImage) (s : Space) → slot < 32 → HasStack pages old slots slot (front ++ undo_page page (images ++ more) ∷ []) s
    → KeepsPages (λ other. is_among other (page ∷ [])) old new → IsUndoPage (page_of new page) page (last_page 0 front) 0 images
    → Restacks pages old new slots slot (front ++ undo_page page (images ++ more) ∷ []) (front ++ undo_page page images ∷ []) (with_chain [] s) []
cut_alone pages old new slots slot front page images more s few was keeps stands =
    let p : UndoPage = undo_page page (images ++ more) in
    let q : UndoPage = undo_page page images in
    let chain : Chain = front ++ p ∷ [] in
    let after : Chain = front ++ q ∷ [] in
    let parts = parts_of pages old slots slot front p [] s was in
    let front_from = front_of (λ x. 16 ≤ x) (pages_of front) (page ∷ []) parts.from in
    let on_heads : AreAmong (page ∷ []) (0 ∷ 1 ∷ page ∷ s.free) = (among_here page (0 ∷ 1 ∷ []) s.free, tt) in
    let out = front_out (pages_of front) (page ∷ s.free) (page ∷ []) front_from parts.once on_heads in
    let linked = linked_anew old new front p [] images [] (page ∷ []) was.stack.stands.linked keeps out stands tt in
    let one_page : All (λ x. 16 ≤ x) (page ∷ []) = λ k d h. rest_of (λ x. 16 ≤ x) (pages_of front) (page ∷ []) parts.from k d h in
    let same = keeps 1 (low_among 1 (page ∷ []) (omega arith) one_page) in
    let directory = same_slots (page_of new 1) slots slot (ends_of after) (subst (λ (bytes : List ℕ). IsUndoDirectory bytes slots) (sym same) was.stack.directory) (was.stack.ends ∙ ends_same front p q refl) in
    let here : AreAmong (page ∷ []) (0 ∷ 1 ∷ pages_of chain) = subst (λ (xs : List ℕ). AreAmong (page ∷ []) (0 ∷ 1 ∷ xs)) (sym (pages_both front (p ∷ []))) (among_here page (0 ∷ 1 ∷ pages_of front) [], tt) in
    let free_out = rest_out (pages_of chain) s.free (page ∷ []) (free_from pages old s was.space) was.apart.once here in
    let space = space_same pages old new (page ∷ []) s was.space keeps (low_among 0 (page ∷ []) (omega arith) one_page) free_out in
    let wide : AreAmong (page ∷ []) (0 ∷ 1 ∷ (pages_of chain ++ [])) = subst (λ (xs : List ℕ). AreAmong (page ∷ []) (0 ∷ 1 ∷ xs)) (sym (append-nil (pages_of chain))) here in
    let from = subst (λ (xs : List ℕ). All (λ x. 16 ≤ x) xs) (same_pages front p images []) (from_of pages old chain was.stack.stands) in
    restacked pages old new slots slot chain after s s [] few was directory linked from space (apart_same chain after s (same_pages front p images []) was.apart) (keeps_within (page ∷ []) (0 ∷ 1 ∷ (pages_of chain ++ [])) old new wide keeps)

-- ---- pages behind it are given back

pub cut_behind : (pages : ℕ) (old mid given new : Contents) (slots : List Ends) (slot : ℕ) (front : Chain) (page last : ℕ) (images more : List OldImage) (q : UndoPage) (rest : Chain) (s : Space) → slot < 32 → HasStack pages old slots slot (front ++ undo_page page (images ++ more) ∷ q ∷ rest) s → last_page q.page rest ≡ last
    → KeepsPages (λ other. is_among other (page ∷ [])) old mid → IsUndoPage (page_of mid page) page (last_page 0 front) 0 images → KeepsPages (λ other. is_among other (last ∷ 0 ∷ [])) mid given → IsSpace pages given (with_chain (pages_of (q ∷ rest)) s)
    → KeepsPages (λ other. is_among other (1 ∷ [])) given new → IsUndoDirectory (page_of new 1) (set slots slot (first_page 0 (front ++ undo_page page (images ++ more) ∷ q ∷ rest), page))
    → Restacks pages old new slots slot (front ++ undo_page page (images ++ more) ∷ q ∷ rest) (front ++ undo_page page images ∷ []) (with_chain (pages_of (q ∷ rest)) s) []
cut_behind pages old mid given new slots slot front page last images more q rest s few was at first stands second space third directory =
    let p : UndoPage = undo_page page (images ++ more) in
    let short : UndoPage = undo_page page images in
    let chain : Chain = front ++ p ∷ q ∷ rest in
    let after : Chain = front ++ short ∷ [] in
    let gone : List ℕ = pages_of (q ∷ rest) in
    let t : Space = with_chain gone s in
    let parts = parts_of pages old slots slot front p (q ∷ rest) s was in
    let front_from = front_of (λ x. 16 ≤ x) (pages_of front) (page ∷ gone) parts.from in
    let last_there : is_among last gone ≡ true = subst (λ (n : ℕ). is_among n gone ≡ true) at (last_among q rest) in
    let list : List ℕ = page ∷ last ∷ 0 ∷ 1 ∷ [] in
    let keeps_both : KeepsPages (λ other. is_among other (last ∷ 0 ∷ 1 ∷ [])) mid new = keeps_on (last ∷ 0 ∷ []) (1 ∷ []) mid given new second third in
    let keeps : KeepsPages (λ other. is_among other list) old new = keeps_on (page ∷ []) (last ∷ 0 ∷ 1 ∷ []) old mid new first keeps_both in
    let on_heads : AreAmong list (0 ∷ 1 ∷ page ∷ (gone ++ s.free)) =
    (among_here page (0 ∷ 1 ∷ []) (gone ++ s.free), (among_more last (0 ∷ 1 ∷ page ∷ []) (gone ++ s.free) (among_less last gone s.free last_there), (refl, (refl, tt)))) in
    let out = front_out (pages_of front) (page ∷ (gone ++ s.free)) list front_from parts.once on_heads in
    let behind_once : AreDistinct (page ∷ (gone ++ s.free)) = distinct_rest (pages_of front) (page ∷ (gone ++ s.free)) parts.once in
    let page_from : 16 ≤ page = here_of (λ x. 16 ≤ x) (pages_of front) page gone parts.from in
    let one_from : All (λ x. 16 ≤ x) (page ∷ []) = λ k d h. rest_of (λ x. 16 ≤ x) (pages_of front) (page ∷ []) (front_of (λ x. 16 ≤ x) (pages_of front ++ page ∷ []) gone (subst (λ (xs : List ℕ). All (λ x. 16 ≤ x) xs) (sym (append_assoc (pages_of front) (page ∷ []) gone)) parts.from)) k d h in
    let page_out : is_among page (last ∷ 0 ∷ 1 ∷ []) ≡ false = front_out (page ∷ []) (gone ++ s.free) (last ∷ 0 ∷ 1 ∷ []) one_from behind_once (among_more last (0 ∷ 1 ∷ []) (gone ++ s.free) (among_less last gone s.free last_there), (refl, (refl, tt))) 0 page (omega arith) in
    let stands_now : IsUndoPage (page_of new page) page (last_page 0 front) 0 images = subst (λ (bytes : List ℕ). IsUndoPage bytes page (last_page 0 front) 0 images) (sym (keeps_both page page_out)) stands in
    let linked = linked_anew old new front p (q ∷ rest) images [] list was.stack.stands.linked keeps out stands_now tt in
    let free_from_16 : All (λ x. 16 ≤ x) t.free = free_from pages given t space in
    let free_out = rest_out [] t.free (1 ∷ []) free_from_16 space.once (refl, tt) in
    let space_now = space_same pages given new (1 ∷ []) t space third refl free_out in
    let parts_after : pages_of after ≡ pages_of front ++ page ∷ [] = pages_both front (short ∷ []) in
    let from : All (λ x. 16 ≤ x) (pages_of after) =
    subst (λ (xs : List ℕ). All (λ x. 16 ≤ x) xs) (sym parts_after) (front_of (λ x. 16 ≤ x) (pages_of front ++ page ∷ []) gone (subst (λ (xs : List ℕ). All (λ x. 16 ≤ x) xs) (sym (append_assoc (pages_of front) (page ∷ []) gone)) parts.from)) in
    let apart : IsApart after t = record {
      used = pages_all (λ x. x < s.fresh) after (subst (λ (xs : List ℕ). All (λ x. x < s.fresh) xs) (sym parts_after)
          (front_of (λ x. x < s.fresh) (pages_of front ++ page ∷ []) gone (subst (λ (xs : List ℕ). All (λ x. x < s.fresh) xs) (pages_both front (p ∷ q ∷ rest) ∙ sym (append_assoc (pages_of front) (page ∷ []) gone)) (all_pages (λ x. x < s.fresh) chain was.apart.used))));
      once = subst (λ (xs : List ℕ). AreDistinct xs) (sym (append_assoc (pages_of front) (page ∷ []) (gone ++ s.free)) ∙ ap (λ (xs : List ℕ). xs ++ (gone ++ s.free)) (sym parts_after)) parts.once;
    } in
    let ends : (first_page 0 chain, page) ≡ ends_of after =
    let firsts : first_page 0 chain ≡ first_page 0 after = first_front 0 front (p ∷ q ∷ rest) ∙ sym (first_front 0 front (short ∷ [])) in
    let lasts : page ≡ last_page 0 after = sym (last_is 0 front short) in
    λ i. (firsts i, lasts i) in
    let says : IsUndoDirectory (page_of new 1) (set slots slot (ends_of after)) = subst (λ (e : Ends). IsUndoDirectory (page_of new 1) (set slots slot e)) ends directory in
    let wide : AreAmong list (0 ∷ 1 ∷ (pages_of chain ++ [])) =
    subst (λ (xs : List ℕ). AreAmong list (0 ∷ 1 ∷ xs)) (sym (append-nil (pages_of chain) ∙ pages_both front (p ∷ q ∷ rest)))
    (among_here page (0 ∷ 1 ∷ pages_of front) gone, (among_more last (0 ∷ 1 ∷ pages_of front) (page ∷ gone) (among_more last (page ∷ []) gone last_there), (refl, (refl, tt)))) in
    restacked pages old new slots slot chain after s t [] few was says linked from space_now apart (keeps_within list (0 ∷ 1 ∷ (pages_of chain ++ [])) old new wide keeps)

-- ---- no chain any more

no_images : (s : Space) (gone : List ℕ) → AreDistinct (gone ++ s.free) → IsApart [] (with_chain gone s)
no_images s gone once = record { used = λ k d h. absurd (omega (arith, h)); once = once }

pub all_given : (pages : ℕ) (old given new : Contents) (slots : List Ends) (slot last : ℕ) (p : UndoPage) (rest : Chain) (s : Space) → slot < 32 → HasStack pages old slots slot (p ∷ rest) s → last_page p.page rest ≡ last
    → KeepsPages (λ other. is_among other (last ∷ 0 ∷ [])) old given → IsSpace pages given (with_chain (pages_of (p ∷ rest)) s) → KeepsPages (λ other. is_among other (1 ∷ [])) given new → IsUndoDirectory (page_of new 1) (set slots slot (0, 0))
    → Restacks pages old new slots slot (p ∷ rest) [] (with_chain (pages_of (p ∷ rest)) s) []
all_given pages old given new slots slot last p rest s few was at first space second directory =
    let gone : List ℕ = pages_of (p ∷ rest) in
    let t : Space = with_chain gone s in
    let keeps : KeepsPages (λ other. is_among other (last ∷ 0 ∷ 1 ∷ [])) old new = keeps_on (last ∷ 0 ∷ []) (1 ∷ []) old given new first second in
    let last_there : is_among last gone ≡ true = subst (λ (n : ℕ). is_among n gone ≡ true) at (last_among p rest) in
    let wide : AreAmong (last ∷ 0 ∷ 1 ∷ []) (0 ∷ 1 ∷ (gone ++ [])) = (among_more last (0 ∷ 1 ∷ []) (gone ++ []) (among_less last gone [] last_there), (refl, (refl, tt))) in
    let space_now = space_same pages given new (1 ∷ []) t space second refl (rest_out [] t.free (1 ∷ []) (free_from pages given t space) space.once (refl, tt)) in
    restacked pages old new slots slot (p ∷ rest) [] s t [] few was directory tt (λ k d h. absurd (omega (arith, h))) space_now (no_images s gone was.apart.once) (keeps_within (last ∷ 0 ∷ 1 ∷ []) (0 ∷ 1 ∷ (gone ++ [])) old new wide keeps)

-- a slot without a chain stays as it is
pub none_given : (pages : ℕ) (old new : Contents) (slots : List Ends) (slot : ℕ) (s : Space) → slot < 32 → new ≡ old → HasStack pages old slots slot [] s → Restacks pages old new slots slot [] [] (with_chain [] s) []
none_given pages old new slots slot s few same was =
    subst (λ (c : Contents). Restacks pages old c slots slot [] [] (with_chain [] s) []) (sym same)
    (restacked pages old old slots slot [] [] s s [] few was (same_slots (page_of old 1) slots slot (ends_of []) was.stack.directory was.stack.ends) tt (λ k d h. absurd (omega (arith, h))) was.space was.apart (λ page out. refl))

-- ---- as the calls have it

-- what stands in a store whose pages and contents are the same
pub stack_now : (pages pages_now : ℕ) (old now : Contents) (slots : List Ends) (slot : ℕ) (chain : Chain) (s : Space) → pages_now ≡ pages → now ≡ old → HasStack pages old slots slot chain s → HasStack pages_now now slots slot chain s
stack_now pages pages_now old now slots slot chain s shape same is = subst (λ (n : ℕ). HasStack n now slots slot chain s) (sym shape) (subst (λ (c : Contents). HasStack pages c slots slot chain s) (sym same) is)

-- the pages behind one that was cut are given as one chain
pub record Behind (pages : ℕ) (mid : Contents) (s : Space) (first last count : ℕ) (gone : List ℕ) : Type 0 where
  pub space : IsSpace pages mid s
  pub given : IsGiven mid s first last count gone

pub behind_cut : (pages : ℕ) (old mid : Contents) (slots : List Ends) (slot : ℕ) (front : Chain) (page : ℕ) (images : List OldImage) (q : UndoPage) (rest : Chain) (s : Space) (first last count : ℕ) → HasStack pages old slots slot (front ++ undo_page page images ∷ q ∷ rest) s
    → KeepsPages (λ other. is_among other (page ∷ [])) old mid → first ≡ (header_of (page_of old page)).next → last_page q.page rest ≡ last → count ≡ length (q ∷ rest) → Behind pages mid s first last count (pages_of (q ∷ rest))
behind_cut pages old mid slots slot front page images q rest s first last count was keeps first_at last_at count_is =
    let p : UndoPage = undo_page page images in
    let gone : List ℕ = pages_of (q ∷ rest) in
    let chain : Chain = front ++ p ∷ q ∷ rest in
    let parts = parts_of pages old slots slot front p (q ∷ rest) s was in
    let behind_once : AreDistinct (page ∷ (gone ++ s.free)) = distinct_rest (pages_of front) (page ∷ (gone ++ s.free)) parts.once in
    let gone_from : All (λ x. 16 ≤ x) gone = rest_of (λ x. 16 ≤ x) (pages_of front ++ page ∷ []) gone (subst (λ (xs : List ℕ). All (λ x. 16 ≤ x) xs) (sym (append_assoc (pages_of front) (page ∷ []) gone)) parts.from) in
    let on_heads : AreAmong (page ∷ []) (0 ∷ 1 ∷ page ∷ []) = (among_here page (0 ∷ 1 ∷ []) [], tt) in
    let gone_out : All (λ x. is_among x (page ∷ []) ≡ false) gone = rest_out (page ∷ []) gone (page ∷ []) gone_from (distinct_front (page ∷ gone) s.free behind_once) on_heads in
    let linked : IsLinked old page 0 (q ∷ rest) = (linked_rest old 0 0 front (p ∷ q ∷ rest) was.stack.stands.linked).1 in
    let stays = pages_all (λ x. is_among x (page ∷ []) ≡ false) (q ∷ rest) gone_out in
    let linked_now = linked_same old mid page 0 (q ∷ rest) (λ k d h. keeps (get_or (q ∷ rest) k d).page (stays k d h)) linked in
    let used : All (λ (x : UndoPage). x.page < s.fresh) (q ∷ rest) = all_tail (λ (x : UndoPage). x.page < s.fresh) p (q ∷ rest) (all_rest (λ (x : UndoPage). x.page < s.fresh) front (p ∷ q ∷ rest) was.apart.used) in
    let page_from = here_of (λ x. 16 ≤ x) (pages_of front) page gone parts.from in
    let one_page : All (λ x. 16 ≤ x) (page ∷ []) = rest_of (λ x. 16 ≤ x) (pages_of front) (page ∷ []) (front_of (λ x. 16 ≤ x) (pages_of front ++ page ∷ []) gone (subst (λ (xs : List ℕ). All (λ x. 16 ≤ x) xs) (sym (append_assoc (pages_of front) (page ∷ []) gone)) parts.from)) in
    let here : AreAmong (page ∷ []) (0 ∷ 1 ∷ pages_of chain) = subst (λ (xs : List ℕ). AreAmong (page ∷ []) (0 ∷ 1 ∷ xs)) (sym (pages_both front (p ∷ q ∷ rest))) (among_here page (0 ∷ 1 ∷ pages_of front) gone, tt) in
    let free_out = rest_out (pages_of chain) s.free (page ∷ []) (free_from pages old s was.space) was.apart.once here in
    record {
      space = space_same pages old mid (page ∷ []) s was.space keeps (low_among 0 (page ∷ []) (omega arith) one_page) free_out;
      given = given_of mid s page q rest first last count linked_now gone_from used behind_once.1 (sym (first_at ∙ parts.page.next_is)) last_at count_is;
    }

-- the last page of a chain, by its ends
pub last_at_end : (front : Chain) (p q : UndoPage) (rest : Chain) (ends : Ends) → ends ≡ ends_of (front ++ p ∷ q ∷ rest) → last_page q.page rest ≡ ends.1
last_at_end front p q rest ends is = sym (ap (λ (e : Ends). e.1) is ∙ last_behind 0 front (p ∷ q ∷ rest))

-- the directory stays where a page and the end of the chain change
pub directory_stays : (old mid given : Contents) (page last : ℕ) → 16 ≤ page → 16 ≤ last → KeepsPages (λ other. is_among other (page ∷ [])) old mid → KeepsPages (λ other. is_among other (last ∷ 0 ∷ [])) mid given → page_of given 1 ≡ page_of old 1
directory_stays old mid given page last page_from last_from first second =
    second 1 (both_out (last == 1) (is_among 1 (0 ∷ [])) (other_page last 1 (λ same. omega (arith, last_from, same))) refl)
    ∙ first 1 (both_out (page == 1) false (other_page page 1 (λ same. omega (arith, page_from, same))) refl)

-- a whole chain is given
pub given_all : (pages : ℕ) (contents : Contents) (slots : List Ends) (slot : ℕ) (chain : Chain) (s : Space) (ends : Ends) (count : ℕ) → HasStack pages contents slots slot chain s → ends ≡ ends_of chain → 16 ≤ ends.0 → count ≡ length chain → IsGiven contents s ends.0 ends.1 count (pages_of chain)
given_all pages contents slots slot [] s ends count was is from count_is = absurd (let none = ap (λ (e : Ends). e.0) is in omega (arith, none, from))
given_all pages contents slots slot (p ∷ rest) s ends count was is from count_is =
    given_of contents s 0 p rest ends.0 ends.1 count was.stack.stands.linked (from_of pages contents (p ∷ rest) was.stack.stands) was.apart.used was.apart.once (sym (ap (λ (e : Ends). e.0) is)) (sym (ap (λ (e : Ends). e.1) is)) count_is

pub all_back : (pages : ℕ) (old given new : Contents) (slots : List Ends) (slot : ℕ) (ends : Ends) (chain : Chain) (s : Space) → slot < 32 → HasStack pages old slots slot chain s → ends ≡ ends_of chain → 16 ≤ ends.0
    → KeepsPages (λ other. is_among other (ends.1 ∷ 0 ∷ [])) old given → IsSpace pages given (with_chain (pages_of chain) s) → KeepsPages (λ other. is_among other (1 ∷ [])) given new → IsUndoDirectory (page_of new 1) (set slots slot (0, 0))
    → Restacks pages old new slots slot chain [] (with_chain (pages_of chain) s) []
all_back pages old given new slots slot ends [] s few was is from first space second directory = absurd (let none = ap (λ (e : Ends). e.0) is in omega (arith, none, from))
all_back pages old given new slots slot ends (p ∷ rest) s few was is from first space second directory = all_given pages old given new slots slot ends.1 p rest s few was (sym (ap (λ (e : Ends). e.1) is)) first space second directory

pub one_stays : (mid given : Contents) (last : ℕ) → 16 ≤ last → KeepsPages (λ other. is_among other (last ∷ 0 ∷ [])) mid given → page_of given 1 ≡ page_of mid 1
one_stays mid given last from keeps = keeps 1 (both_out (last == 1) (is_among 1 (0 ∷ [])) (other_page last 1 (λ same. omega (arith, from, same))) refl)
