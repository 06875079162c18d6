-- Walks along chains, and chains after one frame came in or went.
use Rattle.std.proofs.Common.{◌≡◌, ◌∙◌, ◌+◌, ◌<◌, ◌≤◌, ◌%◌, Bool, true, false, List, ℕ, zero, suc, Option, Some, None, refl, sym, ap, subst, arith, ⊎_elim, length, get_or, set, length-set, replicate}
use Rattle.std.proofs.lemmas.Bool.{false≢true, eqb-true, eq-eqb, ne_eqb, cases_eq, cases_lt, cases_order}
use Rattle.std.proofs.lemmas.List.{get_or_past, get_or-set_same, get_or-set_other, length-replicate}
use Rattle.isp_base.specs.declared.page_no.PageNo.{PageNo}
use Rattle.isp_pool.specs.Chains.{page_of_frame, falls, in_chain, IsLast, IsAbove, AreLinked, AreHeads, IsChained, follower, start_with, links_with}

nothing_at : {X : Type 0} (n i : ℕ) → ◌≡◌ {A = Option X} (get_or (replicate n None) i None) None
nothing_at zero i = refl
nothing_at (suc n) zero = refl
nothing_at (suc n) (suc i) = nothing_at n i

-- how far a place on a walk is from its end
abbrev pub left : Option ℕ → ℕ
left None = 0
left (Some i) = i + 1

-- where a walk that has come so far goes on: below the frame passed last
abbrev pub limit : Option ℕ → ℕ → ℕ
limit None n = n
limit (Some i) n = i

-- what is known of the frame passed last
abbrev pub IsOver : (ℕ → Bool) → ℕ → ℕ → Option ℕ → Type 0
IsOver test low n None = Unit {0}
IsOver test low n (Some i) = (low < i) × (i < n) × (test i ≡ true)

-- a frame's page and its chain
pub frame_below : (pages : List (Option PageNo)) (j : ℕ) (p : PageNo) → page_of_frame pages j ≡ Some p → j < length pages
frame_below pages j p e =
    ⊎_elim (λ lt. lt) (λ past. let none_is = get_or_past pages j None past in let bad : Some p ≡ None = sym e ∙ none_is in cc) (cases_lt j (length pages))

chain_has : (n : ℕ) (pages : List (Option PageNo)) (j : ℕ) (p : PageNo) → page_of_frame pages j ≡ Some p → in_chain n pages (p.0 % n) j ≡ true
chain_has n pages j p e = ap (falls n (p.0 % n)) e ∙ eq-eqb (p.0 % n) (p.0 % n) refl

falls_page : (n c : ℕ) (o : Option PageNo) → falls n c o ≡ true → (q : PageNo) × (o ≡ Some q) × (q.0 % n ≡ c)
falls_page n c None h = absurd (false≢true h)
falls_page n c (Some q) h = (q, refl, eqb-true (q.0 % n) c h)

-- a frame of a chain leads to the last one before it
linked_at : (n : ℕ) (pages : List (Option PageNo)) (next : List (Option ℕ)) (c i : ℕ) → AreLinked n pages next → in_chain n pages c i ≡ true
    → IsLast (in_chain n pages c) i (get_or next i None)
linked_at n pages next c i linked h =
    let q = falls_page n c (page_of_frame pages i) h in
    subst (λ d. IsLast (in_chain n pages d) i (get_or next i None)) q.2 (linked.links i q.0 q.1)

between : (test : ℕ → Bool) (low n : ℕ) (above : Option ℕ) → IsAbove test low n above → (j : ℕ) → low < j → j < limit above n → test j ≡ false
between test low n None h j a b = h j a b
between test low n (Some i) h j a b = h.3 j a b

-- last numbers under another test
last_agrees : (test other : ℕ → Bool) (bound : ℕ) (r : Option ℕ) → ((j : ℕ) → j < bound → test j ≡ other j) → IsLast test bound r → IsLast other bound r
last_agrees test other bound None same last = λ j lt. sym (same j lt) ∙ last j lt
last_agrees test other bound (Some i) same last = (last.0, sym (same i last.0) ∙ last.1, λ j a b. sym (same j b) ∙ last.2 j a b)

-- the tests differ at one number, and one above it passes
last_kept : (test other : ℕ → Bool) (low k bound : ℕ) (r : Option ℕ) → ((j : ℕ) → (j ≡ low → ⊥) → test j ≡ other j) → low < k → k < bound → test k ≡ true
    → IsLast test bound r → IsLast other bound r
last_kept test other low k bound None same a b passes last = absurd (false≢true (sym (last k b) ∙ passes))
last_kept test other low k bound (Some i) same a b passes last =
    let high : k ≤ i = ⊎_elim (λ lt. absurd (false≢true (sym (last.2 k lt b) ∙ passes))) (λ le. le) (cases_lt i k) in
    (last.0, sym (same i (λ e. omega arith)) ∙ last.1, λ j c d. sym (same j (λ e. omega arith)) ∙ last.2 j c d)

-- none from a number on passes
last_lower : (test : ℕ → Bool) (low bound : ℕ) (r : Option ℕ) → low < bound → test low ≡ false → ((j : ℕ) → low < j → j < bound → test j ≡ false)
    → IsLast test bound r → IsLast test low r
last_lower test low bound None lt fails gap last = λ j a. last j (omega arith)
last_lower test low bound (Some i) lt fails gap last =
    let below : i < low = ⊎_elim (λ e. absurd (false≢true (sym fails ∙ ap test (sym e) ∙ last.1)))
    (λ differ. ⊎_elim (λ a. a) (λ b. absurd (false≢true (sym (gap i b last.0) ∙ last.1))) differ) (cases_order i low) in
    (below, last.1, λ j a b. last.2 j a (omega arith))

last_higher : (test : ℕ → Bool) (low bound : ℕ) (r : Option ℕ) → low ≤ bound → ((j : ℕ) → low ≤ j → j < bound → test j ≡ false)
    → IsLast test low r → IsLast test bound r
last_higher test low bound None le gap last = λ j lt. ⊎_elim (λ a. last j a) (λ b. gap j b lt) (cases_lt j low)
last_higher test low bound (Some i) le gap last =
    let a : i < low = last.0 in (omega arith, last.1, λ j b c. ⊎_elim (λ d. last.2 j b d) (λ d. gap j d c) (cases_lt j low))

-- a page put into a frame changes no other
pub elsewhere : (n : ℕ) (pages : List (Option PageNo)) (frame c : ℕ) (o : Option PageNo) (j : ℕ) → (j ≡ frame → ⊥)
    → in_chain n pages c j ≡ in_chain n (set pages frame o) c j
elsewhere n pages frame c o j d = ap (falls n c) (sym (get_or-set_other pages frame j o None d))

here : (n : ℕ) (pages : List (Option PageNo)) (frame c : ℕ) (o : Option PageNo) → frame < length pages → in_chain n (set pages frame o) c frame ≡ falls n c o
here n pages frame c o lt = ap (falls n c) (get_or-set_same pages frame o None lt)

-- the frame's own chain, where it came in or went
pub record IsMoving (n : ℕ) (pages : List (Option PageNo)) (heads next : List (Option ℕ)) (frame c : ℕ) (above : Option ℕ) : Type 0 where
  pub chained : IsChained n pages heads next
  pub frame_fits : frame < n
  pub chain_fits : c < n
  pub gap : IsAbove (in_chain n pages c) frame n above

-- what an option at a place of the starts or the links is after one was turned
start_other : (heads : List (Option ℕ)) (c d : ℕ) (above to : Option ℕ) → (d ≡ c → ⊥) → get_or (start_with heads c above to) d None ≡ get_or heads d None
start_other heads c d None to differ = get_or-set_other heads c d to None differ
start_other heads c d (Some i) to differ = refl

link_other : (next : List (Option ℕ)) (i : ℕ) (above to : Option ℕ) → ((g : ℕ) → above ≡ Some g → i ≡ g → ⊥) → get_or (links_with next above to) i None ≡ get_or next i None
link_other next i None to differ = refl
link_other next i (Some g) to differ = get_or-set_other next g i to None (differ g refl)

length_starts : (heads : List (Option ℕ)) (c : ℕ) (above to : Option ℕ) → length (start_with heads c above to) ≡ length heads
length_starts heads c None to = length-set heads c to
length_starts heads c (Some i) to = refl

length_links : (next : List (Option ℕ)) (above to : Option ℕ) → length (links_with next above to) ≡ length next
length_links next None to = refl
length_links next (Some i) to = length-set next i to

-- The chains after the frame's own one was turned: what follows the frame above it, or the chain itself, is the last of the
-- new chain below that. The frame itself is looked at apart.
pub record IsTurned (n : ℕ) (pages : List (Option PageNo)) (heads next : List (Option ℕ)) (frame c : ℕ) (above : Option ℕ) (o : Option PageNo) (to : Option ℕ) : Type 0 where
  pub moving : IsMoving n pages heads next frame c above
  -- the frame came into no other chain and left none
  pub only : (d : ℕ) → (d ≡ c → ⊥) → in_chain n pages d frame ≡ in_chain n (set pages frame o) d frame
  pub follows : IsLast (in_chain n (set pages frame o) c) (limit above n) to

-- another chain is as it was
other_chain : (n : ℕ) (pages : List (Option PageNo)) (frame c d : ℕ) (o : Option PageNo)
    → ((e : ℕ) → (e ≡ c → ⊥) → in_chain n pages e frame ≡ in_chain n (set pages frame o) e frame) → (d ≡ c → ⊥)
    → (j : ℕ) → in_chain n pages d j ≡ in_chain n (set pages frame o) d j
other_chain n pages frame c d o only differ j =
    ⊎_elim (λ e. ap (in_chain n pages d) e ∙ only d differ ∙ ap (in_chain n (set pages frame o) d) (sym e)) (λ away. elsewhere n pages frame d o j away) (cases_eq j frame)

turned_start : (n : ℕ) (pages : List (Option PageNo)) (heads next : List (Option ℕ)) (frame c : ℕ) (above : Option ℕ) (o : Option PageNo) (to : Option ℕ)
    → IsTurned n pages heads next frame c above o to → IsLast (in_chain n (set pages frame o) c) n (get_or (start_with heads c above to) c None)
turned_start n pages heads next frame c None o to t =
    let begun = t.moving.chained.begun in
    let long : c < length heads = let a = begun.long in let b = t.moving.chain_fits in omega arith in
    subst (λ r. IsLast (in_chain n (set pages frame o) c) n r) (sym (get_or-set_same heads c to None long)) t.follows
turned_start n pages heads next frame c (Some g) o to t =
    let gap = t.moving.gap in
    last_kept (in_chain n pages c) (in_chain n (set pages frame o) c) frame g n (get_or heads c None) (λ j away. elsewhere n pages frame c o j away)
    gap.0 gap.1 gap.2 (t.moving.chained.begun.starts c t.moving.chain_fits)

pub turned_starts : (n : ℕ) (pages : List (Option PageNo)) (heads next : List (Option ℕ)) (frame c : ℕ) (above : Option ℕ) (o : Option PageNo) (to : Option ℕ)
    → IsTurned n pages heads next frame c above o to → AreHeads n (set pages frame o) (start_with heads c above to)
turned_starts n pages heads next frame c above o to t = record {
  long = length_starts heads c above to ∙ t.moving.chained.begun.long;
  starts = λ d fits.
      ⊎_elim (λ same. subst (λ e. IsLast (in_chain n (set pages frame o) e) n (get_or (start_with heads c above to) e None)) (sym same) (turned_start n pages heads next frame c above o to t))
      (λ differ. subst (λ r. IsLast (in_chain n (set pages frame o) d) n r) (sym (start_other heads c d above to differ))
      (last_agrees (in_chain n pages d) (in_chain n (set pages frame o) d) n (get_or heads d None) (λ j lt. other_chain n pages frame c d o t.only differ j)
      (t.moving.chained.begun.starts d fits)))
      (cases_eq d c);
}

fits_in : (a b g : ℕ) → a ≡ b → g < b → g < a
fits_in a b g e lt = omega arith

strictly : (g i : ℕ) → (i ≡ g → ⊥) → g ≤ i → g < i
strictly g i apart le = ⊎_elim (λ e. absurd (apart e)) (λ differ. ⊎_elim (λ lt. absurd (omega arith)) (λ gt. gt) differ) (cases_order i g)

-- a frame of the turned chain, but for the one that came or went
turned_link : (n : ℕ) (pages : List (Option PageNo)) (heads next : List (Option ℕ)) (frame c : ℕ) (above : Option ℕ) (o : Option PageNo) (to : Option ℕ)
    → IsTurned n pages heads next frame c above o to → (i : ℕ) → (i ≡ frame → ⊥) → i < n → in_chain n pages c i ≡ true
    → IsLast (in_chain n (set pages frame o) c) i (get_or (links_with next above to) i None)
turned_link n pages heads next frame c above o to t i away fits inside =
    let test = in_chain n pages c in
    let other = in_chain n (set pages frame o) c in
    let old : IsLast test i (get_or next i None) = linked_at n pages next c i t.moving.chained.linked inside in
    let agree = λ (j : ℕ) (d : j ≡ frame → ⊥). elsewhere n pages frame c o j d in
    let P : Option ℕ → Type 0 = λ a. IsAbove test frame n a → IsLast other (limit a n) to → IsLast other i (get_or (links_with next a to) i None) in
    ⊎_elim (λ same. absurd (away same))
    (λ differ. ⊎_elim
    (λ low. let keep : IsLast other i (get_or next i None) = last_agrees test other i (get_or next i None) (λ j lt. agree j (λ e. omega arith)) old in
    elim above as P [
      | None ↦ λ gap follows. keep
      | Some g ↦ λ gap follows. let high : frame < g = gap.0 in subst (λ r. IsLast other i r) (sym (get_or-set_other next g i to None (λ e. omega arith))) keep
    ] t.moving.gap t.follows)
    (λ high. elim above as P [
      | None ↦ λ gap follows. absurd (false≢true (sym (gap i high fits) ∙ inside))
      | Some g ↦ λ gap follows.
          ⊎_elim
          (λ here_is. let long = fits_in (length next) n g t.moving.chained.linked.long gap.1 in
          subst (λ k. IsLast other k (get_or (set next g to) k None)) (sym here_is)
          (subst (λ r. IsLast other g r) (sym (get_or-set_same next g to None long)) follows))
          (λ apart. let below : g < i = ⊎_elim (λ lt. absurd (false≢true (sym (gap.3 i high lt) ∙ inside))) (λ le. strictly g i apart le) (cases_lt i g) in
          subst (λ r. IsLast other i r) (sym (get_or-set_other next g i to None apart))
          (last_kept test other frame g i (get_or next i None) agree gap.0 below gap.2 old))
          (cases_eq i g)
    ] t.moving.gap t.follows)
    differ)
    (cases_order i frame)

-- a frame of another chain
other_link : (n : ℕ) (pages : List (Option PageNo)) (heads next : List (Option ℕ)) (frame c : ℕ) (above : Option ℕ) (o : Option PageNo) (to : Option ℕ)
    → IsTurned n pages heads next frame c above o to → (i d : ℕ) → (d ≡ c → ⊥) → in_chain n pages d i ≡ true
    → IsLast (in_chain n (set pages frame o) d) i (get_or (links_with next above to) i None)
other_link n pages heads next frame c above o to t i d differ inside =
    let P : Option ℕ → Type 0 = λ a. IsAbove (in_chain n pages c) frame n a → (g : ℕ) → a ≡ Some g → in_chain n pages c g ≡ true in
    let passes : (g : ℕ) → above ≡ Some g → in_chain n pages c g ≡ true =
    elim above as P [ None ↦ λ gap g e. cc | Some k ↦ λ gap g e. let same : k ≡ g = cc in ap (in_chain n pages c) (sym same) ∙ gap.2 ] t.moving.gap in
    let apart : (g : ℕ) → above ≡ Some g → i ≡ g → ⊥ = λ g e same.
    let mine = falls_page n d (page_of_frame pages i) inside in
    let its = falls_page n c (page_of_frame pages g) (passes g e) in
    let one : mine.0 ≡ its.0 = let a : Some mine.0 ≡ Some its.0 = sym mine.1 ∙ ap (page_of_frame pages) same ∙ its.1 in cc in
    differ (sym mine.2 ∙ ap (λ (q : PageNo). q.0 % n) one ∙ its.2) in
    subst (λ r. IsLast (in_chain n (set pages frame o) d) i r) (sym (link_other next i above to apart))
    (last_agrees (in_chain n pages d) (in_chain n (set pages frame o) d) i (get_or next i None) (λ j lt. other_chain n pages frame c d o t.only differ j)
    (linked_at n pages next d i t.moving.chained.linked inside))

-- each frame's link, but for the one that came or went
pub turned_links : (n : ℕ) (pages : List (Option PageNo)) (heads next : List (Option ℕ)) (frame c : ℕ) (above : Option ℕ) (o : Option PageNo) (to : Option ℕ)
    → IsTurned n pages heads next frame c above o to → (i : ℕ) (q : PageNo) → (i ≡ frame → ⊥) → page_of_frame (set pages frame o) i ≡ Some q
    → IsLast (in_chain n (set pages frame o) (q.0 % n)) i (get_or (links_with next above to) i None)
turned_links n pages heads next frame c above o to t i q away e =
    let was : page_of_frame pages i ≡ Some q = sym (get_or-set_other pages frame i o None away) ∙ e in
    let fits : i < n = let a = frame_below pages i q was in let b = t.moving.chained.linked.count in omega arith in
    let inside = chain_has n pages i q was in
    ⊎_elim
    (λ same. subst (λ d. IsLast (in_chain n (set pages frame o) d) i (get_or (links_with next above to) i None)) (sym same)
    (turned_link n pages heads next frame c above o to t i away fits (subst (λ d. in_chain n pages d i ≡ true) same inside)))
    (λ differ. other_link n pages heads next frame c above o to t i (q.0 % n) differ inside)
    (cases_eq (q.0 % n) c)

-- what follows on the walk, and what the walk has before it
followed : (n : ℕ) (pages : List (Option PageNo)) (heads next : List (Option ℕ)) (frame c : ℕ) (above : Option ℕ)
    → IsMoving n pages heads next frame c above → IsLast (in_chain n pages c) (limit above n) (follower heads next c above)
followed n pages heads next frame c None m = m.chained.begun.starts c m.chain_fits
followed n pages heads next frame c (Some g) m = linked_at n pages next c g m.chained.linked m.gap.2

low_limit : (test : ℕ → Bool) (low n : ℕ) (above : Option ℕ) → low < n → IsAbove test low n above → low < limit above n
low_limit test low n None lt gap = lt
low_limit test low n (Some g) lt gap = gap.0

not_itself : (test : ℕ → Bool) (low n : ℕ) (above : Option ℕ) → IsAbove test low n above → (g : ℕ) → above ≡ Some g → low ≡ g → ⊥
not_itself test low n None gap g e same = let bad : None ≡ Some g = e in cc
not_itself test low n (Some k) gap g e same = let one : k ≡ g = cc in let lt : low < k = gap.0 in omega arith

-- a frame that came in
free_link : (n : ℕ) (pages : List (Option PageNo)) (next : List (Option ℕ)) (frame : ℕ) (r : Option ℕ) → page_of_frame pages frame ≡ None
    → AreLinked n pages next → AreLinked n pages (set next frame r)
free_link n pages next frame r free linked = record {
  count = linked.count;
  long = length-set next frame r ∙ linked.long;
  links = λ i p e.
      let away : i ≡ frame → ⊥ = λ same. (let bad : None ≡ Some p = sym free ∙ ap (page_of_frame pages) (sym same) ∙ e in cc) in
      subst (λ k. IsLast (in_chain n pages (p.0 % n)) i k) (sym (get_or-set_other next frame i r None away)) (linked.links i p e);
}

pub came_in : (n : ℕ) (pages : List (Option PageNo)) (heads next : List (Option ℕ)) (frame : ℕ) (p : PageNo) (above : Option ℕ)
    → IsMoving n pages heads next frame (p.0 % n) above → page_of_frame pages frame ≡ None
    → IsChained n (set pages frame (Some p)) (start_with heads (p.0 % n) above (Some frame))
    (links_with (set next frame (follower heads next (p.0 % n) above)) above (Some frame))
came_in n pages heads next frame p above m free =
    let c = p.0 % n in
    let test = in_chain n pages c in
    let other = in_chain n (set pages frame (Some p)) c in
    let below = follower heads next c above in
    let links = set next frame below in
    let fits : frame < length pages = let a = m.chained.linked.count in let b = m.frame_fits in omega arith in
    let has : other frame ≡ true = here n pages frame c (Some p) fits ∙ eq-eqb c c refl in
    let m2 : IsMoving n pages heads links frame c above = record {
      chained = record { some = m.chained.some; begun = m.chained.begun; linked = free_link n pages next frame below free m.chained.linked };
      frame_fits = m.frame_fits;
      chain_fits = m.chain_fits;
      gap = m.gap;
    } in
    let turned : IsTurned n pages heads links frame c above (Some p) (Some frame) = record {
      moving = m2;
      only = λ d differ. ap (falls n d) free ∙ sym (here n pages frame d (Some p) fits ∙ ne_eqb c d (λ e. differ (sym e)));
      follows = (low_limit test frame n above m.frame_fits m.gap, has, λ j a b. sym (elsewhere n pages frame c (Some p) j (λ e. omega arith)) ∙ between test frame n above m.gap j a b);
    } in
    let long : frame < length next = let a = m.chained.linked.long in let b = m.frame_fits in omega arith in
    let own : get_or (links_with links above (Some frame)) frame None ≡ below =
    link_other links frame above (Some frame) (not_itself test frame n above m.gap) ∙ get_or-set_same next frame below None long in
    let mine : IsLast other frame below =
    last_agrees test other frame below (λ j lt. elsewhere n pages frame c (Some p) j (λ e. omega arith))
    (last_lower test frame (limit above n) below (low_limit test frame n above m.frame_fits m.gap) (ap (falls n c) free) (between test frame n above m.gap)
    (followed n pages heads next frame c above m)) in
    record {
      some = m.chained.some;
      begun = turned_starts n pages heads links frame c above (Some p) (Some frame) turned;
      linked = record {
        count = length-set pages frame (Some p) ∙ m.chained.linked.count;
        long = length_links links above (Some frame) ∙ length-set next frame below ∙ m.chained.linked.long;
        links = λ i q e.
            ⊎_elim
            (λ same. let one : p ≡ q = let a : Some p ≡ Some q = sym (get_or-set_same pages frame (Some p) None fits) ∙ ap (page_of_frame (set pages frame (Some p))) (sym same) ∙ e in cc in
            subst (λ k. IsLast (in_chain n (set pages frame (Some p)) (q.0 % n)) k (get_or (links_with links above (Some frame)) k None)) (sym same)
            (subst (λ r. IsLast (in_chain n (set pages frame (Some p)) (q.0 % n)) frame r) (sym own)
            (subst (λ (x : PageNo). IsLast (in_chain n (set pages frame (Some p)) (x.0 % n)) frame below) one mine)))
            (λ away. turned_links n pages heads links frame c above (Some p) (Some frame) turned i q away e)
            (cases_eq i frame);
      };
    }

-- a frame that went
pub went : (n : ℕ) (pages : List (Option PageNo)) (heads next : List (Option ℕ)) (frame : ℕ) (p : PageNo) (above : Option ℕ)
    → IsMoving n pages heads next frame (p.0 % n) above → page_of_frame pages frame ≡ Some p
    → IsChained n (set pages frame None) (start_with heads (p.0 % n) above (get_or next frame None)) (links_with next above (get_or next frame None))
went n pages heads next frame p above m holds =
    let c = p.0 % n in
    let test = in_chain n pages c in
    let other = in_chain n (set pages frame None) c in
    let to = get_or next frame None in
    let fits : frame < length pages = frame_below pages frame p holds in
    let lacks : other frame ≡ false = here n pages frame c None fits in
    let agree : (j : ℕ) → (j ≡ frame → ⊥) → test j ≡ other j = λ j d. elsewhere n pages frame c None j d in
    let turned : IsTurned n pages heads next frame c above None to = record {
      moving = m;
      only = λ d differ. ap (falls n d) holds ∙ ne_eqb c d (λ e. differ (sym e)) ∙ sym (here n pages frame d None fits);
      follows = last_higher other frame (limit above n) to (let lt = low_limit test frame n above m.frame_fits m.gap in omega arith)
          (λ j a b. ⊎_elim (λ same. ap other same ∙ lacks)
          (λ differ. ⊎_elim (λ lt. absurd (omega arith)) (λ gt. sym (agree j (λ e. omega arith)) ∙ between test frame n above m.gap j gt b) differ) (cases_order j frame))
          (last_agrees test other frame to (λ j lt. agree j (λ e. omega arith)) (linked_at n pages next c frame m.chained.linked (chain_has n pages frame p holds)));
    } in
    record {
      some = m.chained.some;
      begun = turned_starts n pages heads next frame c above None to turned;
      linked = record {
        count = length-set pages frame None ∙ m.chained.linked.count;
        long = length_links next above to ∙ m.chained.linked.long;
        links = λ i q e.
            ⊎_elim
            (λ same. let bad : None ≡ Some q = sym (get_or-set_same pages frame None None fits) ∙ ap (page_of_frame (set pages frame None)) (sym same) ∙ e in cc)
            (λ away. turned_links n pages heads next frame c above None to turned i q away e)
            (cases_eq i frame);
      };
    }

-- no frame has a page
pub none_linked : (n : ℕ) (pages : List (Option PageNo)) (heads next : List (Option ℕ)) → 0 < n → pages ≡ replicate n None → heads ≡ replicate n None → next ≡ replicate n None
    → IsChained n pages heads next
none_linked n pages heads next some a b c =
    let free : (i : ℕ) → page_of_frame pages i ≡ None = λ i. ap (λ xs. page_of_frame xs i) a ∙ nothing_at n i in
    record {
      some = some;
      begun = record {
        long = ap length b ∙ length-replicate n None;
        starts = λ d fits. subst (λ r. IsLast (in_chain n pages d) n r) (sym (ap (λ xs. get_or xs d None) b ∙ nothing_at n d)) (λ j lt. ap (falls n d) (free j));
      };
      linked = record {
        count = ap length a ∙ length-replicate n None;
        long = ap length c ∙ length-replicate n None;
        links = λ i p e. (let bad : None ≡ Some p = sym (free i) ∙ e in cc);
      };
    }

-- the same in the words of the calls
pub gap_in : (xs ys : List (Option PageNo)) (p : PageNo) (frame : ℕ) (above : Option ℕ) → xs ≡ ys
    → IsAbove (in_chain (length xs) xs (p.0 % length xs)) frame (length xs) above → IsAbove (in_chain (length ys) ys (p.0 % length ys)) frame (length ys) above
gap_in xs ys p frame above e h = subst (λ zs. IsAbove (in_chain (length zs) zs (p.0 % length zs)) frame (length zs) above) e h

pub came_in_by : (pages : List (Option PageNo)) (heads next heads2 next2 : List (Option ℕ)) (frame chain : ℕ) (p : PageNo) (above below : Option ℕ)
    → IsChained (length pages) pages heads next → frame < length pages → page_of_frame pages frame ≡ None → chain ≡ p.0 % length pages → chain < length pages
    → IsAbove (in_chain (length pages) pages (p.0 % length pages)) frame (length pages) above → below ≡ follower heads next chain above
    → heads2 ≡ start_with heads chain above (Some frame) → next2 ≡ links_with (set next frame below) above (Some frame)
    → IsChained (length (set pages frame (Some p))) (set pages frame (Some p)) heads2 next2
came_in_by pages heads next heads2 next2 frame chain p above below chained fits free c low gap b h l =
    let n = length pages in
    let m : IsMoving n pages heads next frame (p.0 % n) above = record { chained = chained; frame_fits = fits; chain_fits = subst (λ k. k < n) c low; gap = gap } in
    let done = came_in n pages heads next frame p above m free in
    let hs : start_with heads (p.0 % n) above (Some frame) ≡ heads2 = ap (λ k. start_with heads k above (Some frame)) (sym c) ∙ sym h in
    let ns : links_with (set next frame (follower heads next (p.0 % n) above)) above (Some frame) ≡ next2 =
    ap (λ r. links_with (set next frame r) above (Some frame)) (ap (λ k. follower heads next k above) (sym c) ∙ sym b) ∙ sym l in
    subst (λ k. IsChained k (set pages frame (Some p)) heads2 next2) (sym (length-set pages frame (Some p)))
    (subst (λ xs. IsChained n (set pages frame (Some p)) xs next2) hs
    (subst (λ xs. IsChained n (set pages frame (Some p)) (start_with heads (p.0 % n) above (Some frame)) xs) ns done))

pub went_by : (pages : List (Option PageNo)) (heads next heads2 next2 : List (Option ℕ)) (frame chain : ℕ) (p : PageNo) (above below : Option ℕ)
    → IsChained (length pages) pages heads next → page_of_frame pages frame ≡ Some p → chain ≡ p.0 % length pages → chain < length pages
    → IsAbove (in_chain (length pages) pages (p.0 % length pages)) frame (length pages) above → below ≡ get_or next frame None
    → heads2 ≡ start_with heads chain above below → next2 ≡ links_with next above below
    → IsChained (length (set pages frame None)) (set pages frame None) heads2 next2
went_by pages heads next heads2 next2 frame chain p above below chained holds c low gap b h l =
    let n = length pages in
    let fits : frame < n = frame_below pages frame p holds in
    let m : IsMoving n pages heads next frame (p.0 % n) above = record { chained = chained; frame_fits = fits; chain_fits = subst (λ k. k < n) c low; gap = gap } in
    let done = went n pages heads next frame p above m holds in
    let to = get_or next frame None in
    let hs : start_with heads (p.0 % n) above to ≡ heads2 = ap (λ k. start_with heads k above to) (sym c) ∙ ap (λ r. start_with heads chain above r) (sym b) ∙ sym h in
    let ns : links_with next above to ≡ next2 = ap (λ r. links_with next above r) (sym b) ∙ sym l in
    subst (λ k. IsChained k (set pages frame None) heads2 next2) (sym (length-set pages frame None))
    (subst (λ xs. IsChained n (set pages frame None) xs next2) hs
    (subst (λ xs. IsChained n (set pages frame None) (start_with heads (p.0 % n) above to) xs) ns done))
