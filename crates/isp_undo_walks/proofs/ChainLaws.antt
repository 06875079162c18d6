-- Chains on their pages.
use Rattle.std.proofs.Common.{◌≡◌, ℕ, suc, ◌<◌, ◌≤◌, [], ◌∷◌, Option, Some, None, Result, Ok, Err, refl, sym, ◌∙◌, ap, subst, arith}
use Rattle.std.specs.Prelude.{All, is_some}
use Rattle.std.specs.Option.{option_map}
use Rattle.isp_format.specs.Undo.{Slot as Ends}
use Rattle.isp_page.specs.declared.fault.StoreFault.{StoreFault}
use Rattle.isp_undo_walks.specs.Slots.{IsInside, found_of, is_begun}
use Rattle.isp_undo_walks.specs.Chains.{Chain, UndoPage, ends_of, last_page}
use Rattle.isp_undo_pages.specs.Directory.{ends_in}
use Rattle.isp_undo_pages.specs.declared.directory.Slot.{Slot}

-- what holds of each page of a chain holds of its last
pub last_has : (P : ℕ → Type 0) (p : UndoPage) (rest : Chain) → All (λ (q : UndoPage). P q.page) (p ∷ rest) → P (last_page p.page rest)
last_has P p [] all = all 0 p (omega arith)
last_has P p (q ∷ rest) all = last_has P q rest (λ k d h. all (suc k) d (omega (arith, h)))

pub ends_inside : (pages : ℕ) (p : UndoPage) (rest : Chain) (s : Slot) → All (λ (q : UndoPage). (16 ≤ q.page) × (q.page < pages)) (p ∷ rest) → ends_in s ≡ ends_of (p ∷ rest) → IsInside pages s
ends_inside pages p rest s inside is =
    let first : s.first.0 ≡ p.page = ap (λ (e : Ends). e.0) is in
    let last : s.last.0 ≡ last_page p.page rest = ap (λ (e : Ends). e.1) is in
    let at_first = inside 0 p (omega arith) in
    let at_last = last_has (λ page. (16 ≤ page) × (page < pages)) p rest inside in
    record {
      first_from = subst (λ (n : ℕ). 16 ≤ n) (sym first) at_first.0;
      first_to = subst (λ (n : ℕ). n < pages) (sym first) at_first.1;
      last_from = subst (λ (n : ℕ). 16 ≤ n) (sym last) at_last.0;
      last_to = subst (λ (n : ℕ). n < pages) (sym last) at_last.1;
    }

-- what is found of a slot, by what its two numbers say
pub found_is : (pages : ℕ) (chain : Chain) (s : Slot) (result : Result (Option Slot) StoreFault) → All (λ (q : UndoPage). (16 ≤ q.page) × (q.page < pages)) chain → ends_in s ≡ ends_of chain
    → (s.first.0 ≡ 0 → s.last.0 ≡ 0 → result ≡ Ok None) → (IsInside pages s → result ≡ Ok (Some s))
    → (found : Option Slot) × (result ≡ Ok found) × (option_map ends_in found ≡ found_of chain)
found_is pages [] s result inside is none some = (None, none (ap (λ (e : Ends). e.0) is) (ap (λ (e : Ends). e.1) is), refl)
found_is pages (p ∷ rest) s result inside is none some = (Some s, some (ends_inside pages p rest s inside is), ap (λ (e : Ends). Some e) is)

pub begun_is : (chain : Chain) (found : Option Slot) → option_map ends_in found ≡ found_of chain → is_some found ≡ is_begun chain
begun_is [] None is = refl
begun_is [] (Some s) is = cc
begun_is (p ∷ rest) None is = cc
begun_is (p ∷ rest) (Some s) is = refl

pub same_ok : (o : Result (Option Slot) StoreFault) (found other : Option Slot) → o ≡ Ok found → o ≡ Ok other → other ≡ found
same_ok o found other is was = let same : Ok other ≡ Ok found = sym was ∙ is in cc

pub no_err : (o : Result (Option Slot) StoreFault) (found : Option Slot) (e : StoreFault) → o ≡ Ok found → o ≡ Err e → ⊥
no_err o found e is was = let bad : Ok found ≡ Err e = sym is ∙ was in cc

some_ends : (a b : Ends) → Some a ≡ Some b → a ≡ b
some_ends a b same = cc

-- the ends that are found are those of the chain
pub ends_found : (chain : Chain) (s : Slot) → option_map ends_in (Some s) ≡ found_of chain → ends_in s ≡ ends_of chain
ends_found [] s is = cc
ends_found (p ∷ rest) s is = some_ends (ends_in s) (ends_of (p ∷ rest)) is

pub none_found : (chain : Chain) → option_map ends_in None ≡ found_of chain → chain ≡ []
none_found [] is = refl
none_found (p ∷ rest) is = cc
