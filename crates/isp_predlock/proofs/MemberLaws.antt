-- Lists of which each member is changed the same way, and lists of what is there of each member.
use Rattle.std.proofs.Common.{◌≡◌, ℕ, suc, ◌+◌, ◌<◌, arith, drop, drop-cons, get_or, length, Bool, true, false, cond, List, [], ◌∷◌, map, filter, filter_map, option_map, Option, Some, None, inl, inr, refl, ap, sym, ◌∙◌, subst}
use Rattle.std.specs.List.{cons_option}
use Rattle.isp_base.specs.Lists.{Has}

pub map_members : {A B : Type 0} (f g : A → B) (xs : List A) → ((x : A) → Has xs x → f x ≡ g x) → map f xs ≡ map g xs
map_members f g [] h = refl
map_members f g (x ∷ xs) h = ap (λ y. y ∷ map f xs) (h x (inl refl)) ∙ ap (λ ys. g x ∷ ys) (map_members f g xs (λ y k. h y (inr k)))

pub map_still : {A : Type 0} (f : A → A) (xs : List A) → ((x : A) → Has xs x → f x ≡ x) → map f xs ≡ xs
map_still f [] h = refl
map_still f (x ∷ xs) h = ap (λ y. y ∷ map f xs) (h x (inl refl)) ∙ ap (λ ys. x ∷ ys) (map_still f xs (λ y k. h y (inr k)))

pub map_twice : {A B C : Type 0} (g : B → C) (f : A → B) (xs : List A) → map g (map f xs) ≡ map (λ x. g (f x)) xs
map_twice g f [] = refl
map_twice g f (x ∷ xs) = ap (λ ys. g (f x) ∷ ys) (map_twice g f xs)

pub filter_members : {A : Type 0} (s t : A → Bool) (xs : List A) → ((x : A) → Has xs x → s x ≡ t x) → filter s xs ≡ filter t xs
filter_members s t [] h = refl
filter_members s t (x ∷ xs) h =
    ap (λ b. cond b (x ∷ filter s xs) (filter s xs)) (h x (inl refl)) ∙ ap (λ ys. cond (t x) (x ∷ ys) ys) (filter_members s t xs (λ y k. h y (inr k)))

pub filter_map_members : {A B : Type 0} (f g : A → Option B) (xs : List A) → ((x : A) → Has xs x → f x ≡ g x) → filter_map f xs ≡ filter_map g xs
filter_map_members f g [] h = refl
filter_map_members f g (x ∷ xs) h =
    ap (λ o. cons_option o (filter_map f xs)) (h x (inl refl)) ∙ ap (λ ys. cons_option (g x) ys) (filter_map_members f g xs (λ y k. h y (inr k)))

pub filter_map_of_map : {A B C : Type 0} (f : B → Option C) (g : A → B) (xs : List A) → filter_map f (map g xs) ≡ filter_map (λ x. f (g x)) xs
filter_map_of_map f g [] = refl
filter_map_of_map f g (x ∷ xs) = ap (λ ys. cons_option (f (g x)) ys) (filter_map_of_map f g xs)

map_option : {A B : Type 0} (g : A → B) (o : Option A) (xs : List A) → map g (cons_option o xs) ≡ cons_option (option_map g o) (map g xs)
map_option g None xs = refl
map_option g (Some x) xs = refl

pub map_of_filter_map : {A B C : Type 0} (g : B → C) (f : A → Option B) (xs : List A) → map g (filter_map f xs) ≡ filter_map (λ x. option_map g (f x)) xs
map_of_filter_map g f [] = refl
map_of_filter_map g f (x ∷ xs) = map_option g (f x) (filter_map f xs) ∙ ap (λ ys. cons_option (option_map g (f x)) ys) (map_of_filter_map g f xs)

option_cond : {A : Type 0} (b : Bool) (x : A) (xs : List A) → cons_option (cond b (Some x) None) xs ≡ cond b (x ∷ xs) xs
option_cond true x xs = refl
option_cond false x xs = refl

map_cond : {A B : Type 0} (g : A → B) (b : Bool) (x : A) (xs : List A) → map g (cond b (x ∷ xs) xs) ≡ cond b (g x ∷ map g xs) (map g xs)
map_cond g true x xs = refl
map_cond g false x xs = refl

-- what is there of those that pass a test
pub filter_map_tests : {A B : Type 0} (t : A → Bool) (g : A → B) (xs : List A) → filter_map (λ x. cond (t x) (Some (g x)) None) xs ≡ map g (filter t xs)
filter_map_tests t g [] = refl
filter_map_tests t g (x ∷ xs) =
    option_cond (t x) (g x) (filter_map (λ y. cond (t y) (Some (g y)) None) xs) ∙ ap (λ ys. cond (t x) (g x ∷ ys) ys) (filter_map_tests t g xs)
    ∙ sym (map_cond g (t x) x (filter t xs))

passed_at : {A : Type 0} (t : A → Bool) (b : Bool) (z x : A) (zs : List A) → t z ≡ b → (Has zs x → t x ≡ true) → Has (cond b (z ∷ zs) zs) x → t x ≡ true
passed_at t true z x zs e f (inl same) = ap t (sym same) ∙ e
passed_at t true z x zs e f (inr h) = f h
passed_at t false z x zs e f h = f h

-- what a filter keeps passes its test
pub filter_passes : {A : Type 0} (t : A → Bool) (xs : List A) (x : A) → Has (filter t xs) x → t x ≡ true
filter_passes t [] x h = absurd h
filter_passes t (z ∷ xs) x h = passed_at t (t z) z x (filter t xs) refl (filter_passes t xs x) h

later : {A : Type 0} (b : Bool) (z x : A) (zs : List A) → Has zs x → Has (cond b (z ∷ zs) zs) x
later true z x zs h = inr h
later false z x zs h = h

-- and what passes it is kept
pub has_filter : {A : Type 0} (t : A → Bool) (xs : List A) (x : A) → Has xs x → t x ≡ true → Has (filter t xs) x
has_filter t [] x h e = absurd h
has_filter t (z ∷ xs) x (inl same) e =
    let b : t z ≡ true = ap t same ∙ e in
    subst (λ (c : Bool). Has (cond c (z ∷ filter t xs) (filter t xs)) x) (sym b) (inl same)
has_filter t (z ∷ xs) x (inr h) e = later (t z) z x (filter t xs) (has_filter t xs x h e)

-- what stands at a place, and what is behind it
pub next_item : {A : Type 0} (xs : List A) (i : ℕ) (d : A) → i < length xs → drop i xs ≡ get_or xs i d ∷ drop (i + 1) xs
next_item xs i d inside =
    let one : suc i ≡ i + 1 = omega arith in
    drop-cons xs i d inside ∙ ap (λ (k : ℕ). get_or xs i d ∷ drop k xs) one
