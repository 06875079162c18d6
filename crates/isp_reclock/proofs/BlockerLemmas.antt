-- That the blockers found among rising transactions, which all holders are among, are the blockers.
use Rattle.std.proofs.Common.{◌≡◌, ◌∙◌, ◌&&◌, ◌==◌, ◌↔◌, Bool, true, false, List, [], ◌∷◌, ℕ, ℤ, Option, None, Some, refl, sym, ap, subst, cond, map, ⊎_elim, arith, IsTrue}
use Rattle.std.specs.List.{list_any, filter_map, cons_option, find, AllByRecursion, All, Contains}
use Rattle.std.specs.List.Sorted.{IsStrictlySortedBy}
use Rattle.std.specs.Option.{option_map}
use Rattle.std.specs.Ordering.{nat_cmp}
use Rattle.std.specs.BTreeMap.{is_at}
use Rattle.std.specs.declared.cmp.Ordering.TheVariants.{Less}
use Rattle.std.proofs.lemmas.Bool.{false≢true, and_parts, or_cases, or_left, or_right}
use Rattle.std.proofs.lemmas.Bool.Decides.{nat_tests}
use Rattle.std.proofs.lemmas.List.Elements.{All-nil, All-cons, All-contains, Contains-append_left, Contains-append_right, Contains-push}
use Rattle.std.proofs.lemmas.Map.Keys.{IsStrictlyIncreasing-from_sorted}
use Rattle.isp_reclock.specs.declared.modes.Mode.{Mode}
use Rattle.isp_reclock.specs.declared.modes.Mode.TheVariants.{X}
use Rattle.isp_reclock.specs.declared.entries.Lock.{Lock}
use Rattle.isp_reclock.specs.declared.entries.Blocker.{Blocker}
use Rattle.isp_reclock.specs.Modes.{conflicts, modes}
use Rattle.isp_reclock.specs.Tables.{holds, takes, IsTaken, key_lock, table_lock}
use Rattle.isp_reclock.specs.Blockers.{lock_of, first_conflict, blocker_of, AreBlockers}

-- the set's test of a number is the equality of numbers
pub at_from_same : (a b : ℕ) → is_at (nat_cmp a) b ≡ true → a ≡ b
at_from_same a b h = grind (arith, nat_tests)

pub apart_at : (a b : ℕ) → (b == a) ≡ false → is_at (nat_cmp a) b ≡ false
apart_at a b h = grind (arith, nat_tests)

find_step : {X : Type 0} (p : X → Bool) (b : Bool) (y : X) (rest : Option X) (x : X) → p y ≡ b → (rest ≡ Some x → p x ≡ true) → cond b (Some y) rest ≡ Some x → p x ≡ true
find_step p true y rest x e later h = let same : y ≡ x = cc in subst (λ v. p v ≡ true) same e
find_step p false y rest x e later h = later h

-- what a search finds passes its test
pub find_passes : {X : Type 0} (p : X → Bool) (xs : List X) (x : X) → find p xs ≡ Some x → p x ≡ true
find_passes p [] x h = absurd (let no : None ≡ Some x = h in cc)
find_passes p (y ∷ ys) x h = find_step p (p y) y (find p ys) x refl (find_passes p ys x) h

-- who blocks is named as itself, by a mode that it holds
pub blocker_parts : (c : Bool) (mode : Option Mode) (trx : ℕ) (b : Blocker) →
    cond c None (option_map (λ m. record { trx = trx; held = m }) mode) ≡ Some b → (b.trx ≡ trx) × (mode ≡ Some b.held)
blocker_parts true mode trx b h = absurd cc
blocker_parts false None trx b h = absurd cc
blocker_parts false (Some m) trx b h =
    let is : b ≡ record { trx = trx; held = m } = cc in (ap (λ v. v.trx) is, ap (λ v. Some v.held) (sym is))

module _ (f : ℕ → Option Blocker) (named : (t : ℕ) (b : Blocker) → f t ≡ Some b → b.trx ≡ t) where
  all_cons : (P : ℕ → Type 0) (o : Option Blocker) (x : ℕ) (rest : List Blocker) → f x ≡ o → P x → AllByRecursion P (map (λ b. b.trx) rest) → AllByRecursion P (map (λ b. b.trx) (cons_option o rest))
  all_cons P None x rest e h r = r
  all_cons P (Some b) x rest e h r = (subst P (sym (named x b e)) h, r)

  -- what holds of the numbers holds of the blockers' numbers
  all_named : (P : ℕ → Type 0) (xs : List ℕ) → AllByRecursion P xs → AllByRecursion P (map (λ b. b.trx) (filter_map f xs))
  all_named P [] h = tt
  all_named P (x ∷ xs) h = all_cons P (f x) x (filter_map f xs) refl h.0 (all_named P xs h.1)

  sorted_cons : (o : Option Blocker) (x : ℕ) (rest : List Blocker) → f x ≡ o → AllByRecursion (λ y. nat_cmp x y ≡ Less) (map (λ b. b.trx) rest) →
      IsStrictlySortedBy nat_cmp (map (λ b. b.trx) rest) → IsStrictlySortedBy nat_cmp (map (λ b. b.trx) (cons_option o rest))
  unfolding IsStrictlySortedBy
  sorted_cons None x rest e h r = r
  sorted_cons (Some b) x rest e h r =
      (subst (λ t. AllByRecursion (λ y. nat_cmp t y ≡ Less) (map (λ b'. b'.trx) rest)) (sym (named x b e)) h, r)

  pub sorted_named : (xs : List ℕ) → IsStrictlySortedBy nat_cmp xs → IsStrictlySortedBy nat_cmp (map (λ b. b.trx) (filter_map f xs))
  unfolding IsStrictlySortedBy
  sorted_named [] h = tt
  sorted_named (x ∷ xs) h =
      sorted_cons (f x) x (filter_map f xs) refl (all_named (λ y. nat_cmp x y ≡ Less) xs h.0) (sorted_named xs h.1)

  found_cons : (o : Option Blocker) (x : ℕ) (rest : List Blocker) → f x ≡ o → All (λ b. f b.trx ≡ Some b) rest → All (λ b. f b.trx ≡ Some b) (cons_option o rest)
  found_cons None x rest e r = r
  found_cons (Some b) x rest e r = All-cons (λ b'. f b'.trx ≡ Some b') b rest (ap f (named x b e) ∙ e) r

  -- each that was found stands in the way
  pub found : (xs : List ℕ) → All (λ b. f b.trx ≡ Some b) (filter_map f xs)
  found [] = All-nil (λ b. f b.trx ≡ Some b)
  found (x ∷ xs) = found_cons (f x) x (filter_map f xs) refl (found xs)

  there_cons : (o : Option Blocker) (rest : List Blocker) (b : Blocker) → Contains rest b → Contains (cons_option o rest) b
  there_cons None rest b h = h
  there_cons (Some y) rest b h = Contains-append_right (y ∷ []) rest b h

  here_cons : (o : Option Blocker) (rest : List Blocker) (b : Blocker) → o ≡ Some b → Contains (cons_option o rest) b
  here_cons o rest b e =
      subst (λ v. Contains (cons_option v rest) b) (sym e) (Contains-append_left (b ∷ []) rest b (Contains-push [] b))

  -- each among the numbers that stands in the way was found
  pub all_found : (xs : List ℕ) (b : Blocker) → list_any (is_at (nat_cmp b.trx)) xs ≡ true → f b.trx ≡ Some b → Contains (filter_map f xs) b
  all_found [] b h e = absurd (false≢true h)
  all_found (x ∷ xs) b h e =
      ⊎_elim (λ here. here_cons (f x) (filter_map f xs) b (ap f (sym (at_from_same b.trx x here)) ∙ e))
      (λ there. there_cons (f x) (filter_map f xs) b (all_found xs b there e))
      (or_cases (is_at (nat_cmp b.trx) x) (list_any (is_at (nat_cmp b.trx)) xs) h)

-- the blockers, where all holders are among the rising numbers
pub are_blockers : (locks : List Lock) (asked : Lock) (trxs : List ℕ) → IsStrictlySortedBy nat_cmp trxs →
    ((lock : Lock) → holds locks lock ≡ true → list_any (is_at (nat_cmp lock.trx)) trxs ≡ true) →
    (by : List Blocker) → by ≡ filter_map (blocker_of locks asked) trxs → AreBlockers locks asked by
are_blockers locks asked trxs rises known by is =
    let named : (t : ℕ) (b : Blocker) → blocker_of locks asked t ≡ Some b → b.trx ≡ t =
    λ t b e. (blocker_parts (t == asked.trx) (first_conflict locks asked t) t b e).0 in
    let holds_one : (b : Blocker) → blocker_of locks asked b.trx ≡ Some b → holds locks (lock_of b.trx asked b.held) ≡ true =
    λ b e. (and_parts (conflicts b.held asked.held.mode) _ (find_passes (λ mode. conflicts mode asked.held.mode && holds locks (lock_of b.trx asked mode)) modes b.held (blocker_parts (b.trx == asked.trx) (first_conflict locks asked b.trx) b.trx b e).1)).1 in
    subst (AreBlockers locks asked) (sym is)
    (record {
      rising = IsStrictlyIncreasing-from_sorted _ (sorted_named (blocker_of locks asked) named trxs rises);
      exact = λ b. (
        λ there. All-contains (λ b'. blocker_of locks asked b'.trx ≡ Some b') _ b (found (blocker_of locks asked) named trxs) there,
        λ e. all_found (blocker_of locks asked) named trxs b (known (lock_of b.trx asked b.held) (holds_one b e)) e,
      );
    })

-- a test passes at some element exactly where there is one at which it passes
pub some_passes : (p : ℕ → Bool) (xs : List ℕ) → list_any p xs ≡ true → (x : ℕ) × (p x ≡ true)
some_passes p [] h = absurd (false≢true h)
some_passes p (x ∷ xs) h = ⊎_elim (λ here. (x, here)) (λ there. some_passes p xs there) (or_cases (p x) (list_any p xs) h)

pub passes_at : (p : ℕ → Bool) (xs : List ℕ) (x : ℕ) → list_any (is_at (nat_cmp x)) xs ≡ true → p x ≡ true → list_any p xs ≡ true
passes_at p [] x h e = absurd (false≢true h)
passes_at p (y ∷ ys) x h e =
    ⊎_elim (λ here. or_left (p y) (list_any p ys) (ap p (sym (at_from_same x y here)) ∙ e))
    (λ there. or_right (p y) (list_any p ys) (passes_at p ys x there e))
    (or_cases (is_at (nat_cmp x) y) (list_any (is_at (nat_cmp x)) ys) h)

-- where all holders are among the numbers, a key is taken exactly where one of these takes it
pub taken : (locks : List Lock) (table : ℕ) (key : ℤ) (trxs : List ℕ) →
    ((lock : Lock) → holds locks lock ≡ true → list_any (is_at (nat_cmp lock.trx)) trxs ≡ true) →
    (result : Bool) → result ≡ list_any (takes locks table key) trxs → IsTrue result ↔ IsTaken locks table key
taken locks table key trxs known result is =
    let known_taker : (trx : ℕ) → takes locks table key trx ≡ true → list_any (is_at (nat_cmp trx)) trxs ≡ true =
    λ trx h. ⊎_elim (λ of_key. known (key_lock trx table key X) of_key) (λ of_table. known (table_lock trx table X) of_table)
    (or_cases (holds locks (key_lock trx table key X)) (holds locks (table_lock trx table X)) h) in (
      λ yes. some_passes (takes locks table key) trxs (sym is ∙ yes),
      λ some. is ∙ passes_at (takes locks table key) trxs some.0 (known_taker some.0 some.1) some.1,
    )
