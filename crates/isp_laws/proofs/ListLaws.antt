-- What stands on lists that were joined, changed or filtered, and how often.
use Rattle.std.proofs.Common.{◌≡◌, ◌⊎◌, inl, inr, ℕ, suc, ◌+◌, ◌<◌, ◌==◌, ◌≤◌, Bool, true, false, cond, List, [], ◌∷◌, ◌++◌, map, length, length-append, refl, ap, ◌∙◌, arith, eqb-true, eq-eqb}
use Rattle.std.specs.Prelude.{filter}
use Rattle.isp_base.specs.Lists.{Has, times}

pub Has-append_left : {X : Type 0} (xs ys : List X) (x : X) → Has xs x → Has (xs ++ ys) x
Has-append_left [] ys x h = absurd h
Has-append_left (z ∷ xs) ys x (inl e) = inl e
Has-append_left (z ∷ xs) ys x (inr h) = inr (Has-append_left xs ys x h)

pub Has-append_right : {X : Type 0} (xs ys : List X) (x : X) → Has ys x → Has (xs ++ ys) x
Has-append_right [] ys x h = h
Has-append_right (z ∷ xs) ys x h = inr (Has-append_right xs ys x h)

pub Has-append : {X : Type 0} (xs ys : List X) (x : X) → Has (xs ++ ys) x → Has xs x ⊎ Has ys x
Has-append [] ys x h = inr h
Has-append (z ∷ xs) ys x (inl e) = inl (inl e)
Has-append (z ∷ xs) ys x (inr h) = elim (Has-append xs ys x h) [ inl k ↦ inl (inr k) | inr k ↦ inr k ]

pub record Source {X Y : Type 0} (f : X → Y) (xs : List X) (y : Y) : Type 0 where
  pub x : X
  pub has : Has xs x
  pub is : f x ≡ y

pub Has-map : {X Y : Type 0} (f : X → Y) (xs : List X) (y : Y) → Has (map f xs) y → Source f xs y
Has-map f [] y h = absurd h
Has-map f (x ∷ xs) y (inl e) = record { x = x; has = inl refl; is = e }
Has-map f (x ∷ xs) y (inr h) = let s : Source f xs y = Has-map f xs y h in record { x = s.x; has = inr s.has; is = s.is }

pub Has-map_of : {X Y : Type 0} (f : X → Y) (xs : List X) (x : X) → Has xs x → Has (map f xs) (f x)
Has-map_of f [] x h = absurd h
Has-map_of f (z ∷ xs) x (inl e) = inl (ap f e)
Has-map_of f (z ∷ xs) x (inr h) = inr (Has-map_of f xs x h)

kept_at : {X : Type 0} (b : Bool) (z x : X) (zs xs : List X) → (Has zs x → Has xs x) → Has (cond b (z ∷ zs) zs) x → Has (z ∷ xs) x
kept_at true z x zs xs f (inl e) = inl e
kept_at true z x zs xs f (inr h) = inr (f h)
kept_at false z x zs xs f h = inr (f h)

pub Has-filter : {X : Type 0} (t : X → Bool) (xs : List X) (x : X) → Has (filter t xs) x → Has xs x
Has-filter t [] x h = h
Has-filter t (z ∷ xs) x h = kept_at (t z) z x (filter t xs) xs (Has-filter t xs x) h

pub times-append : (n : ℕ) (xs ys : List ℕ) → times n (xs ++ ys) ≡ times n xs + times n ys
times-append n [] ys = omega arith
times-append n (x ∷ xs) ys = let e : times n (xs ++ ys) ≡ times n xs + times n ys = times-append n xs ys in omega arith

pub times-Has : (n : ℕ) (xs : List ℕ) → Has xs n → 0 < times n xs
times-Has n [] h = absurd h
times-Has n (x ∷ xs) (inl e) = let t : (x == n) ≡ true = eq-eqb x n e in rw t (omega arith)
times-Has n (x ∷ xs) (inr h) = let k : 0 < times n xs = times-Has n xs h in omega arith

has_at : (n x : ℕ) (xs : List ℕ) (b : Bool) → (b ≡ true → x ≡ n) → (0 < times n xs → Has xs n) → 0 < cond b 1 0 + times n xs → Has (x ∷ xs) n
has_at n x xs true e f h = inl (e refl)
has_at n x xs false e f h = let k : 0 < times n xs = omega arith in inr (f k)

pub Has-times : (n : ℕ) (xs : List ℕ) → 0 < times n xs → Has xs n
Has-times n [] h = let no : ⊥ = omega arith in absurd no
Has-times n (x ∷ xs) h = has_at n x xs (x == n) (eqb-true x n) (Has-times n xs) h

pub times-other : (n x : ℕ) (xs : List ℕ) → (x == n) ≡ false → times n (x ∷ xs) ≡ times n xs
times-other n x xs e = rw e (omega arith)

pub times-same : (n : ℕ) (xs : List ℕ) → times n (n ∷ xs) ≡ suc (times n xs)
times-same n xs = let t : (n == n) ≡ true = eq-eqb n n refl in rw t (omega arith)

-- a list with x on it is what stands before x, x, and what stands behind it
pub record Parting (ys : List ℕ) (x : ℕ) : Type 0 where
  pub before : List ℕ
  pub after : List ℕ
  pub is : ys ≡ before ++ x ∷ after

pub parting : (ys : List ℕ) (x : ℕ) → Has ys x → Parting ys x
parting [] x h = absurd h
parting (y ∷ ys) x (inl e) = record { before = []; after = ys; is = ap (λ z. z ∷ ys) e }
parting (y ∷ ys) x (inr h) = let p : Parting ys x = parting ys x h in record { before = y ∷ p.before; after = p.after; is = ap (λ zs. y ∷ zs) p.is }

pub times-parts : (q x : ℕ) (before after : List ℕ) → times q (before ++ x ∷ after) ≡ times q (x ∷ []) + times q (before ++ after)
times-parts q x before after = omega (arith, times-append q before (x ∷ after), times-append q before after)

-- a list on which each number stands no more often is no longer
pub no_longer : (xs ys : List ℕ) → ((q : ℕ) → times q xs ≤ times q ys) → length xs ≤ length ys
no_longer [] ys h = omega arith
no_longer (x ∷ xs) ys h =
    let here : Has ys x = Has-times x ys (omega (arith, h x, times-same x xs)) in
    let p : Parting ys x = parting ys x here in
    let rest : length xs ≤ length (p.before ++ p.after) = no_longer xs (p.before ++ p.after) (λ q. (
    let e : times q ys ≡ times q (x ∷ []) + times q (p.before ++ p.after) = ap (times q) p.is ∙ times-parts q x p.before p.after in
    let k : times q (x ∷ xs) ≤ times q ys = h q in
    omega arith)) in
    let all : length ys ≡ length (p.before ++ x ∷ p.after) = ap (λ (zs : List ℕ). length zs) p.is in
    omega (arith, rest, all, length-append p.before (x ∷ p.after), length-append p.before p.after)
