-- Pages that are taken one after another.
use Rattle.std.proofs.Common.{rules, ◌≡◌, ℕ, zero, suc, ◌+◌, ◌<◌, ◌≤◌, List, [], ◌∷◌, ◌++◌, length, refl, sym, ◌∙◌, ap, subst, arith}
use Rattle.std.specs.Prelude.{Ok}
use Rattle.std.proofs.lemmas.List.{append_assoc, append-nil, map-append}
use Rattle.isp_base.specs.Lists.{Has, times}
use Rattle.isp_growth.proofs.BesideLaws.{beside_on, next_from}
use Rattle.isp_growth.specs.Growing.{IsSpaceBeside}
use Rattle.isp_laws.proofs.ListLaws.{times-append}
use Rattle.isp_base.specs.declared.page_no.PageNo.{PageNo}
use Rattle.isp_page.proofs.GrowthLaws.{among_self}
use Rattle.isp_page.specs.Calls.{Continued, Continues}
use Rattle.isp_page.specs.Touched.{AreAmong}
use Rattle.isp_page.specs.declared.pages.Pages.{Ghosts}
use Rattle.isp_space.specs.Changes.{ChangesOf}
use Rattle.isp_space.specs.Spaces.{Space, free_pages, next_free, taken}
use Rattle.isp_growing.proofs.TakenLaws.{free_taken}
use Rattle.isp_growing.specs.Taking.{taken_times, takes}
use Rattle.isp_rsettle.specs.Placed.{page_number}
use Rattle.isp_rtree.specs.Making.{HasSpace}
use Rattle.isp_rinsert.specs.Applying.{AreTaken, numbers_of}
use Rattle.isp_rinsert.proofs.ChangeLaws.{among_left, among_right, changes_among}
use Rattle.isp_rinsert.proofs.WriteLaws.{has_pushed}

-- turns that continue, and one that does
pub one_more : {S T : Type 0} (g : Ghosts S) (old mid new : S) (x : T) → Continued g old mid → Continues {T = T} g mid new (Ok x) → Continued g old new
one_more g old mid new x first second = search rules

pub numbers_pushed : (news : List PageNo) (p : PageNo) → numbers_of (news ++ p ∷ []) ≡ numbers_of news ++ p.0 ∷ []
numbers_pushed news p = map-append page_number news (p ∷ [])

pub numbers_long : (news : List PageNo) → length (numbers_of news) ≡ length news
numbers_long [] = refl
numbers_long (p ∷ news) = ap suc (numbers_long news)

-- the pages that are changed when one more is taken
pub taken_changes : {S : Type 0} (g : Ghosts S) (news now : List PageNo) (p : PageNo) (old mid new : S) → now ≡ news ++ p ∷ [] → ChangesOf g (0 ∷ numbers_of news) old mid → ChangesOf g (0 ∷ p.0 ∷ []) mid new → ChangesOf g (0 ∷ numbers_of now) old new
taken_changes g news now p old mid new pushed first second =
    let ns : List ℕ = numbers_of news in
    let is : 0 ∷ (ns ++ p.0 ∷ []) ≡ 0 ∷ numbers_of now = ap (λ (l : List ℕ). 0 ∷ l) (sym (numbers_pushed news p) ∙ ap numbers_of (sym pushed)) in
    let left : AreAmong (0 ∷ ns) ((0 ∷ ns) ++ p.0 ∷ []) = among_left (0 ∷ ns) (0 ∷ ns) (p.0 ∷ []) (among_self (0 ∷ ns)) in
    let right : AreAmong (p.0 ∷ []) ((0 ∷ ns) ++ p.0 ∷ []) = among_right (p.0 ∷ []) (0 ∷ ns) (p.0 ∷ []) (among_self (p.0 ∷ [])) in
    subst (λ (l : List ℕ). ChangesOf g l old new) is (changes_among g (0 ∷ ns) (0 ∷ p.0 ∷ []) (0 ∷ (ns ++ p.0 ∷ [])) old mid new first second left (refl, right))

-- what holds of all that were taken, once one more is
pub all_pushed : (P : PageNo → Type 0) (news now : List PageNo) (p : PageNo) → now ≡ news ++ p ∷ [] → ((x : PageNo) → Has news x → P x) → P p → (x : PageNo) → Has now x → P x
all_pushed P news now p pushed all last x has = has_pushed P news p all last x (subst (λ (l : List PageNo). Has l x) pushed has)

-- so many of the count were taken, and those that are left come next
pub record Taking {S : Type 0} (g : Ghosts S) (count so_many : ℕ) (s : Space) (news : List PageNo) (old now : S) : Type 0 where
  pub at : Space
  pub is_space : HasSpace g now at
  pub left : ℕ
  pub sum : so_many + left ≡ count
  pub are : numbers_of news ++ takes left at ≡ takes count s
  pub last : taken_times left at ≡ taken_times count s
  pub free : left ≤ free_pages (g.shape now).pages at
  pub from : (p : PageNo) → Has news p → 16 ≤ p.0
  pub beside : (all : List ℕ) → IsSpaceBeside (g.shape old).pages (g.contents old) all s → IsSpaceBeside (g.shape now).pages (g.contents now) (all ++ numbers_of news) at

pub taking_none : {S : Type 0} (g : Ghosts S) (count : ℕ) (s : Space) (news : List PageNo) (now : S) → news ≡ [] → HasSpace g now s → count ≤ free_pages (g.shape now).pages s → Taking g count 0 s news now now
taking_none g count s news now none is free = record {
  at = s;
  is_space = is;
  left = count;
  sum = omega arith;
  are = ap (λ (l : List PageNo). numbers_of l ++ takes count s) none;
  last = refl;
  free = free;
  from = λ p h. absurd (subst (λ (l : List PageNo). Has l p) none h);
  beside = λ all b. subst (λ (l : List ℕ). IsSpaceBeside (g.shape now).pages (g.contents now) l s) (sym (append-nil all) ∙ ap (λ (l : List PageNo). all ++ numbers_of l) (sym none)) b;
}

pub some_free : {S : Type 0} (g : Ghosts S) (count so_many : ℕ) (s : Space) (news : List PageNo) (old now : S) → so_many < count → (t : Taking g count so_many s news old now) → 0 < free_pages (g.shape now).pages t.at
some_free g count so_many s news old now more t = let sum = t.sum in let free = t.free in omega (arith, more, sum, free)

free_one : (pages left : ℕ) (s : Space) → s.fresh ≤ pages → suc left ≤ free_pages pages s → left ≤ free_pages pages (taken s)
free_one pages zero s to free = omega arith
free_one pages (suc left) s to free = let h = free_taken pages left s to (omega (arith, free)) in omega (arith, h)

pub taking_on : {S : Type 0} (g : Ghosts S) (count so_many : ℕ) (s : Space) (news now : List PageNo) (p : PageNo) (old mid new : S) → so_many < count → now ≡ news ++ p ∷ [] → (g.shape new).pages ≡ (g.shape mid).pages
    → (t : Taking g count so_many s news old mid) → p.0 ≡ next_free t.at → HasSpace g new (taken t.at) → Taking g count (so_many + 1) s now old new
taking_on g count so_many s news now p old mid new more pushed shape t page is = by t.left refl
  where
    one_more_times : (q : ℕ) (all : List ℕ) → times q (all ++ numbers_of now) ≡ times q (all ++ numbers_of news) + times q (p.0 ∷ [])
    one_more_times q all =
        let parts : times q (numbers_of now) ≡ times q (numbers_of news ++ p.0 ∷ []) = ap (times q) (ap numbers_of pushed ∙ numbers_pushed news p) in
        omega (arith, parts, times-append q all (numbers_of now), times-append q all (numbers_of news), times-append q (numbers_of news) (p.0 ∷ []))

    by : (left : ℕ) → t.left ≡ left → Taking g count (so_many + 1) s now old new
    by zero e = let sum = t.sum in absurd (omega (arith, more, sum, e))
    by (suc left) e = record {
      at = taken t.at;
      is_space = is;
      left = left;
      sum = let sum = t.sum in omega (arith, sum, e);
      are =
          let parts : numbers_of now ≡ numbers_of news ++ p.0 ∷ [] = ap numbers_of pushed ∙ numbers_pushed news p in
          ap (λ (l : List ℕ). l ++ takes left (taken t.at)) parts
          ∙ append_assoc (numbers_of news) (p.0 ∷ []) (takes left (taken t.at))
          ∙ ap (λ (q : ℕ). numbers_of news ++ q ∷ takes left (taken t.at)) page
          ∙ ap (λ (n : ℕ). numbers_of news ++ takes n t.at) (sym e)
          ∙ t.are;
      last = ap (λ (n : ℕ). taken_times n t.at) (sym e) ∙ t.last;
      free =
          let free : suc left ≤ free_pages (g.shape mid).pages t.at = subst (λ (n : ℕ). n ≤ free_pages (g.shape mid).pages t.at) e t.free in
          subst (λ (n : ℕ). left ≤ free_pages n (taken t.at)) (sym shape) (free_one (g.shape mid).pages left t.at t.is_space.fresh_to free);
      from = all_pushed (λ (x : PageNo). 16 ≤ x.0) news now p pushed t.from (subst (λ (n : ℕ). 16 ≤ n) (sym page) (next_from t.at.free t.at.fresh t.is_space.inside t.is_space.fresh_from));
      beside = λ all b.
          beside_on (g.shape new).pages (g.contents new) (all ++ numbers_of news) (all ++ numbers_of now) t.at p.0 (g.contents mid)
          (subst (λ (n : ℕ). IsSpaceBeside n (g.contents mid) (all ++ numbers_of news) t.at) (sym shape) (t.beside all b)) page (λ q. one_more_times q all) is;
    }

pub taking_all : {S : Type 0} (g : Ghosts S) (count so_many : ℕ) (s : Space) (news : List PageNo) (old now : S) → count ≤ so_many → Taking g count so_many s news old now → AreTaken g count s news old now
taking_all g count so_many s news old now all t = by t.left refl
  where
    by : (left : ℕ) → t.left ≡ left → AreTaken g count s news old now
    by (suc left) e = let sum = t.sum in absurd (omega (arith, all, sum, e))
    by zero e = record {
      are = sym (append-nil (numbers_of news)) ∙ ap (λ (n : ℕ). numbers_of news ++ takes n t.at) (sym e) ∙ t.are;
      is_space = subst (λ (x : Space). HasSpace g now x) (ap (λ (n : ℕ). taken_times n t.at) (sym e) ∙ t.last) t.is_space;
      from = t.from;
      beside = λ more b. subst (λ (x : Space). IsSpaceBeside (g.shape now).pages (g.contents now) (more ++ numbers_of news) x) (ap (λ (n : ℕ). taken_times n t.at) (sym e) ∙ t.last) (t.beside more b);
    }
