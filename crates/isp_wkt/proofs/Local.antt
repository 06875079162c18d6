-- A reader looks no further than the byte that it stops at: what it makes of bytes up to a byte stays the same
-- whatever stands behind that byte. So behind the bytes before a fault and the byte at it no text of the grammar goes on.
use Rattle.std.proofs.Common.{◌≡◌, ℕ, ℤ, zero, suc, ◌+◌, ◌-◌, ◌*◌, ◌≤◌, ◌==◌, nat_le, Bool, true, false, cond, List, [], ◌∷◌, ◌++◌, length, Ok, Err, refl, sym, ap, subst, ◌∙◌, arith}
use Rattle.isp_wkt.specs.declared.cause.WktCause.{WktCause}
use Rattle.isp_wkt.specs.declared.cause.WktCause.TheVariants.{Truncated, NotWhole, OutOfRange, Empty, Unknown}
use Rattle.isp_wkt.specs.declared.cause.Fault.{Fault}
use Rattle.isp_geom.specs.declared.form.Point as p
use Rattle.isp_wkt.specs.Reading.{◌>>=◌, Outcome, fault, is_blank, is_digit, is_e, skipped, limit, digits_at, nonzero_at, zeros_at, fraction_at, end_at, first_at, size_at, sign_at, signed, number_at, blank_at, point_at, inside_at, paren_at, open_at, comma_at, more_at, shut_at, close_at, member_at, items_at, single_at, marked_at}
use Rattle.isp_wkt.proofs.Sound.{ok_parts}

-- how much an outcome leaves
abbrev pub Leaves : {X : Type 0} → Outcome X → ℕ → Type 0
Leaves (Ok x) n = length x.1 ≤ n
Leaves (Err f) n = f.left ≤ n

pub leaves_less : {X : Type 0} (o : Outcome X) (m n : ℕ) → m ≤ n → Leaves o m → Leaves o n
leaves_less (Ok x) m n le h = omega arith
leaves_less (Err f) m n le h = omega arith

module _ (b : ℕ) (more other : List ℕ) where
  abbrev pub A : List ℕ
  A = b ∷ more

  abbrev pub B : List ℕ
  B = b ∷ other

  -- what a reader makes of the bytes before A it makes of them before B, where it leaves A
  abbrev pub Follows : {X : Type 0} → Outcome X → Outcome X → Type 0
  Follows {X} (Ok x) out = length A ≤ length x.1 → (v : List ℕ) × (x.1 ≡ v ++ A) × (out ≡ Ok (x.0, v ++ B))
  Follows (Err f) out = length A ≤ f.left → (g : Fault) × (out ≡ Err g)

  pub record IsLocal (X : Type 0) (r : List ℕ → Outcome X) : Type 0 where
    pub local : (u : List ℕ) → Follows (r (u ++ A)) (r (u ++ B))
    pub bounded : (bytes : List ℕ) → Leaves (r bytes) (length bytes)

  -- an outcome at the front: the bytes that are left are those of u and A
  pub here : {X : Type 0} (x : X) (u : List ℕ) → Follows {X = X} (Ok (x, u ++ A)) (Ok (x, u ++ B))
  here x u = λ le. (u, refl, refl)

  pub fault_here : {X : Type 0} (c : WktCause) (u : List ℕ) → Follows {X = X} (fault c (u ++ A)) (fault c (u ++ B))
  fault_here c u = λ le. (record { cause = c; left = length (u ++ B) }, refl)

  -- an outcome that leaves less than A
  pub beyond : {X : Type 0} (o out : Outcome X) → Leaves o (length more) → Follows o out
  beyond (Ok x) out h = λ le. absurd (omega arith)
  beyond (Err f) out h = λ le. absurd (omega arith)

  pub choice : {X : Type 0} (t : Bool) (x y v w : Outcome X) → Follows x v → Follows y w → Follows (cond t x y) (cond t v w)
  choice true x y v w h k = h
  choice false x y v w h k = k

  pub leaves_choice : {X : Type 0} (t : Bool) (x y : Outcome X) (n : ℕ) → Leaves x n → Leaves y n → Leaves (cond t x y) n
  leaves_choice true x y n h k = h
  leaves_choice false x y n h k = k

  then_follows : {X Y : Type 0} (r s : Outcome X) (k : X × List ℕ → Outcome Y) → Follows r s
      → ((x : X) (v : List ℕ) → Follows (k (x, v ++ A)) (k (x, v ++ B))) → ((x : X × List ℕ) → Leaves (k x) (length x.1)) → Follows (r >>= k) (s >>= k)
  then_follows (Err f) s k h l m = λ le. let q = h le in (q.0, ap (λ t. t >>= k) q.1)
  then_follows {X} {Y} (Ok x) s k h l m = at (k x) refl
    where
      same : (v : List ℕ) → x.1 ≡ v ++ A → k x ≡ k (x.0, v ++ A)
      same v e = ap (λ (t : List ℕ). k (x.0, t)) e

      at : (o : Outcome Y) → k x ≡ o → Follows o (s >>= k)
      at (Ok y) e = λ le.
          let small : length y.1 ≤ length x.1 = subst (λ (o : Outcome Y). Leaves o (length x.1)) e (m x) in
          let q = h (omega arith) in
          let f : Follows (Ok y) (k (x.0, q.0 ++ B)) = subst (λ (o : Outcome Y). Follows o (k (x.0, q.0 ++ B))) (sym (same q.0 q.1) ∙ e) (l x.0 q.0) in
          let g = f le in
          (g.0, g.1, ap (λ t. t >>= k) q.2 ∙ g.2)
      at (Err d) e = λ le.
          let small : d.left ≤ length x.1 = subst (λ (o : Outcome Y). Leaves o (length x.1)) e (m x) in
          let q = h (omega arith) in
          let f : Follows (Err d) (k (x.0, q.0 ++ B)) = subst (λ (o : Outcome Y). Follows o (k (x.0, q.0 ++ B))) (sym (same q.0 q.1) ∙ e) (l x.0 q.0) in
          let g = f le in
          (g.0, ap (λ t. t >>= k) q.2 ∙ g.1)

  then_leaves : {X Y : Type 0} (r : Outcome X) (k : X × List ℕ → Outcome Y) (n : ℕ) → Leaves r n → ((x : X × List ℕ) → Leaves (k x) (length x.1)) → Leaves (r >>= k) n
  then_leaves (Ok x) k n h m = leaves_less (k x) (length x.1) n h (m x)
  then_leaves (Err f) k n h m = h

  pub bind_local : {X Y : Type 0} (r : List ℕ → Outcome X) (k : X × List ℕ → Outcome Y) → IsLocal X r → ((x : X) → IsLocal Y (λ bytes. k (x, bytes))) → IsLocal Y (λ bytes. r bytes >>= k)
  bind_local r k h m = record {
    local = λ u. then_follows (r (u ++ A)) (r (u ++ B)) k (h.local u) (λ x v. (m x).local v) (λ x. (m x.0).bounded x.1);
    bounded = λ bytes. then_leaves (r bytes) k (length bytes) (h.bounded bytes) (λ x. (m x.0).bounded x.1);
  }

  pub done : {X : Type 0} (x : X) → IsLocal X (λ bytes. Ok (x, bytes))
  done x = record { local = λ u. here x u; bounded = λ bytes. omega arith }

  -- ---- bytes

  pub skipped_le : (bs : List ℕ) → length (skipped bs) ≤ length bs
  skipped_le [] = omega arith
  skipped_le (c ∷ bs) = at (is_blank c) (skipped_le bs)
    where
      at : (t : Bool) → length (skipped bs) ≤ length bs → length (cond t (skipped bs) (c ∷ bs)) ≤ length (c ∷ bs)
      at true h = omega arith
      at false h = omega arith

  abbrev pub skip_at : List ℕ → Outcome (Unit {0})
  skip_at bytes = Ok (tt, skipped bytes)

  skip_choice : (t : Bool) (x y v w : List ℕ) → Follows {X = Unit {0}} (Ok (tt, x)) (Ok (tt, v)) → Follows {X = Unit {0}} (Ok (tt, y)) (Ok (tt, w)) → Follows {X = Unit {0}} (Ok (tt, cond t x y)) (Ok (tt, cond t v w))
  skip_choice true x y v w h k = h
  skip_choice false x y v w h k = k

  skip_follows : (u : List ℕ) → Follows (skip_at (u ++ A)) (skip_at (u ++ B))
  skip_follows [] = skip_choice (is_blank b) (skipped more) A (skipped other) B (beyond {X = Unit {0}} (Ok (tt, skipped more)) _ (skipped_le more)) (here tt [])
  skip_follows (c ∷ u) = skip_choice (is_blank c) (skipped (u ++ A)) (c ∷ (u ++ A)) (skipped (u ++ B)) (c ∷ (u ++ B)) (skip_follows u) (here tt (c ∷ u))

  pub skip_local : IsLocal (Unit {0}) skip_at
  skip_local = record { local = skip_follows; bounded = skipped_le }

  -- ---- numbers

  -- a reader that looks at one byte
  pub at_byte : {X : Type 0} (r : List ℕ → Outcome X) → Follows (r A) (r B) → ((c : ℕ) (u : List ℕ) → Follows (r (c ∷ (u ++ A))) (r (c ∷ (u ++ B)))) → ((bytes : List ℕ) → Leaves (r bytes) (length bytes)) → IsLocal X r
  at_byte {X} r first later bounded = record { local = local; bounded = bounded }
    where
      local : (u : List ℕ) → Follows (r (u ++ A)) (r (u ++ B))
      local [] = first
      local (c ∷ u) = later c u

  digits_leaves : (size : ℕ) (bytes : List ℕ) → Leaves (digits_at size bytes) (length bytes)
  digits_leaves size [] = omega arith
  digits_leaves size (c ∷ bs) =
      leaves_choice (is_digit c) _ _ (length (c ∷ bs))
      (leaves_choice (nat_le (size * 10 + (c - 48)) limit) (digits_at (size * 10 + (c - 48)) bs) _ (length (c ∷ bs)) (leaves_less (digits_at (size * 10 + (c - 48)) bs) (length bs) (length (c ∷ bs)) (omega arith) (digits_leaves (size * 10 + (c - 48)) bs)) (omega arith))
      (omega arith)

  digits_follows : (size : ℕ) (u : List ℕ) → Follows (digits_at size (u ++ A)) (digits_at size (u ++ B))
  digits_follows size [] =
      choice (is_digit b) _ _ _ _
      (choice (nat_le (size * 10 + (b - 48)) limit) _ _ _ _ (beyond (digits_at (size * 10 + (b - 48)) more) (digits_at (size * 10 + (b - 48)) other) (digits_leaves (size * 10 + (b - 48)) more)) (fault_here OutOfRange []))
      (here size [])
  digits_follows size (c ∷ u) =
      choice (is_digit c) _ _ _ _
      (choice (nat_le (size * 10 + (c - 48)) limit) _ _ _ _ (digits_follows (size * 10 + (c - 48)) u) (fault_here OutOfRange (c ∷ u)))
      (here size (c ∷ u))

  digits_local : (size : ℕ) → IsLocal ℕ (digits_at size)
  digits_local size = record { local = digits_follows size; bounded = digits_leaves size }

  nonzero_leaves : (bytes : List ℕ) → Leaves (nonzero_at bytes) (length bytes)
  nonzero_leaves [] = omega arith
  nonzero_leaves (c ∷ bs) = leaves_choice (is_digit c) _ _ (length (c ∷ bs)) (omega arith) (omega arith)

  zeros_leaves : (bytes : List ℕ) → Leaves (zeros_at bytes) (length bytes)
  zeros_leaves [] = omega arith
  zeros_leaves (c ∷ bs) = leaves_choice (c == 48) (zeros_at bs) _ (length (c ∷ bs)) (leaves_less (zeros_at bs) (length bs) (length (c ∷ bs)) (omega arith) (zeros_leaves bs)) (nonzero_leaves (c ∷ bs))

  zeros_follows : (u : List ℕ) → Follows (zeros_at (u ++ A)) (zeros_at (u ++ B))
  zeros_follows [] = choice (b == 48) _ _ _ _ (beyond (zeros_at more) (zeros_at other) (zeros_leaves more)) (choice (is_digit b) _ _ _ _ (fault_here NotWhole []) (here tt []))
  zeros_follows (c ∷ u) = choice (c == 48) _ _ _ _ (zeros_follows u) (choice (is_digit c) _ _ _ _ (fault_here NotWhole (c ∷ u)) (here tt (c ∷ u)))

  fraction_leaves : (bytes : List ℕ) → Leaves (fraction_at bytes) (length bytes)
  fraction_leaves [] = omega arith
  fraction_leaves (c ∷ bs) = leaves_choice (c == 46) (zeros_at bs) _ (length (c ∷ bs)) (leaves_less (zeros_at bs) (length bs) (length (c ∷ bs)) (omega arith) (zeros_leaves bs)) (omega arith)

  fraction_local : IsLocal (Unit {0}) fraction_at
  fraction_local = at_byte fraction_at
      (choice (b == 46) _ _ _ _ (beyond (zeros_at more) (zeros_at other) (zeros_leaves more)) (here tt []))
      (λ c u. choice (c == 46) _ _ _ _ (zeros_follows u) (here tt (c ∷ u)))
      fraction_leaves

  end_leaves : (bytes : List ℕ) → Leaves (end_at bytes) (length bytes)
  end_leaves [] = omega arith
  end_leaves (c ∷ bs) = leaves_choice (is_e c) _ _ (length (c ∷ bs)) (omega arith) (omega arith)

  end_local : IsLocal (Unit {0}) end_at
  end_local = at_byte end_at
      (choice (is_e b) _ _ _ _ (fault_here NotWhole []) (here tt []))
      (λ c u. choice (is_e c) _ _ _ _ (fault_here NotWhole (c ∷ u)) (here tt (c ∷ u)))
      end_leaves

  first_leaves : (bytes : List ℕ) → Leaves (first_at bytes) (length bytes)
  first_leaves [] = omega arith
  first_leaves (c ∷ bs) = leaves_choice (is_digit c) _ _ (length (c ∷ bs)) (omega arith) (omega arith)

  first_local : IsLocal (Unit {0}) first_at
  first_local = at_byte first_at
      (choice (is_digit b) _ _ _ _ (here tt []) (fault_here Unknown []))
      (λ c u. choice (is_digit c) _ _ _ _ (here tt (c ∷ u)) (fault_here Unknown (c ∷ u)))
      first_leaves

  size_local : IsLocal ℕ size_at
  unfolding size_at
  size_local =
      bind_local first_at _ first_local (λ _. bind_local (digits_at 0) _ (digits_local 0) (λ size. bind_local fraction_at _ fraction_local (λ _. bind_local end_at _ end_local (λ _. done size))))

  sign_leaves : (bytes : List ℕ) → Leaves (sign_at bytes) (length bytes)
  sign_leaves [] = omega arith
  sign_leaves (c ∷ bs) = leaves_choice (c == 45) _ _ (length (c ∷ bs)) (omega arith) (leaves_choice (c == 43) _ _ (length (c ∷ bs)) (omega arith) (omega arith))

  sign_local : IsLocal Bool sign_at
  sign_local = at_byte sign_at
      (choice (b == 45) _ _ _ _ (beyond {X = Bool} (Ok (true, more)) _ (omega arith)) (choice (b == 43) _ _ _ _ (beyond {X = Bool} (Ok (false, more)) _ (omega arith)) (here false [])))
      (λ c u. choice (c == 45) _ _ _ _ (here true u) (choice (c == 43) _ _ _ _ (here false u) (here false (c ∷ u))))
      sign_leaves

  number_local : IsLocal ℤ number_at
  unfolding number_at
  number_local = bind_local sign_at _ sign_local (λ is_negative. bind_local size_at _ size_local (λ size. done (signed is_negative size)))

  blank_leaves : (bytes : List ℕ) → Leaves (blank_at bytes) (length bytes)
  blank_leaves [] = omega arith
  blank_leaves (c ∷ bs) = leaves_choice (is_blank c) (skip_at bs) _ (length (c ∷ bs)) (leaves_less (skip_at bs) (length bs) (length (c ∷ bs)) (omega arith) (skipped_le bs)) (omega arith)

  blank_local : IsLocal (Unit {0}) blank_at
  blank_local = at_byte blank_at
      (choice (is_blank b) _ _ _ _ (beyond (skip_at more) (skip_at other) (skipped_le more)) (fault_here Unknown []))
      (λ c u. choice (is_blank c) _ _ _ _ (skip_follows u) (fault_here Unknown (c ∷ u)))
      blank_leaves

  pub point_local : IsLocal p.Point point_at
  unfolding point_at
  point_local = bind_local number_at _ number_local (λ x. bind_local blank_at _ blank_local (λ _. bind_local number_at _ number_local (λ y. done (record { x = x; y = y }))))

  -- ---- parentheses and commas

  inside_leaves : (nothing : WktCause) (bytes : List ℕ) → Leaves (inside_at nothing bytes) (length bytes)
  inside_leaves nothing [] = omega arith
  inside_leaves nothing (c ∷ bs) = leaves_choice (c == 41) _ _ (length (c ∷ bs)) (omega arith) (omega arith)

  inside_local : (nothing : WktCause) → IsLocal (Unit {0}) (inside_at nothing)
  inside_local nothing = at_byte (inside_at nothing)
      (choice (b == 41) _ _ _ _ (fault_here nothing []) (here tt []))
      (λ c u. choice (c == 41) _ _ _ _ (fault_here nothing (c ∷ u)) (here tt (c ∷ u)))
      (inside_leaves nothing)

  -- blanks, and then what stands inside
  within : (nothing : WktCause) → IsLocal (Unit {0}) (λ bytes. inside_at nothing (skipped bytes))
  within nothing = bind_local skip_at (λ x. inside_at nothing x.1) skip_local (λ _. inside_local nothing)

  paren_leaves : (nothing : WktCause) (bytes : List ℕ) → Leaves (paren_at nothing bytes) (length bytes)
  paren_leaves nothing [] = omega arith
  paren_leaves nothing (c ∷ bs) = leaves_choice (c == 40) (inside_at nothing (skipped bs)) _ (length (c ∷ bs)) (leaves_less (inside_at nothing (skipped bs)) (length bs) (length (c ∷ bs)) (omega arith) ((within nothing).bounded bs)) (leaves_choice (is_e c) _ _ (length (c ∷ bs)) (omega arith) (omega arith))

  paren_local : (nothing : WktCause) → IsLocal (Unit {0}) (paren_at nothing)
  paren_local nothing = at_byte (paren_at nothing)
      (choice (b == 40) _ _ _ _ (beyond (inside_at nothing (skipped more)) (inside_at nothing (skipped other)) ((within nothing).bounded more)) (choice (is_e b) _ _ _ _ (fault_here Empty []) (fault_here Unknown [])))
      (λ c u. choice (c == 40) _ _ _ _ ((within nothing).local u) (choice (is_e c) _ _ _ _ (fault_here Empty (c ∷ u)) (fault_here Unknown (c ∷ u))))
      (paren_leaves nothing)

  pub open_local : (nothing : WktCause) → IsLocal (Unit {0}) (open_at nothing)
  open_local nothing = bind_local skip_at (λ x. paren_at nothing x.1) skip_local (λ _. paren_local nothing)

  comma_leaves : (bytes : List ℕ) → Leaves (comma_at bytes) (length bytes)
  comma_leaves [] = omega arith
  comma_leaves (c ∷ bs) = leaves_choice (c == 44) _ _ (length (c ∷ bs)) (omega (arith, skipped_le bs)) (leaves_choice (c == 41) _ _ (length (c ∷ bs)) (omega arith) (omega arith))

  true_follows : (u : List ℕ) → Follows {X = Unit {0}} (skip_at (u ++ A)) (skip_at (u ++ B)) → Follows {X = Bool} (Ok (true, skipped (u ++ A))) (Ok (true, skipped (u ++ B)))
  true_follows u h = λ le. let q = h le in (q.0, q.1, ap (λ (t : List ℕ). Ok (true, t)) (ok_parts tt tt (skipped (u ++ B)) (q.0 ++ B) q.2).1)

  comma_local : IsLocal Bool comma_at
  comma_local = at_byte comma_at
      (choice (b == 44) _ _ _ _ (beyond {X = Bool} (Ok (true, skipped more)) _ (skipped_le more)) (choice (b == 41) _ _ _ _ (beyond {X = Bool} (Ok (false, more)) _ (omega arith)) (fault_here Unknown [])))
      (λ c u. choice (c == 44) _ _ _ _ (true_follows u (skip_follows u)) (choice (c == 41) _ _ _ _ (here false u) (fault_here Unknown (c ∷ u))))
      comma_leaves

  pub more_local : IsLocal Bool more_at
  more_local = bind_local skip_at (λ x. comma_at x.1) skip_local (λ _. comma_local)

  shut_leaves : (bytes : List ℕ) → Leaves (shut_at bytes) (length bytes)
  shut_leaves [] = omega arith
  shut_leaves (c ∷ bs) = leaves_choice (c == 41) _ _ (length (c ∷ bs)) (omega arith) (omega arith)

  shut_local : IsLocal (Unit {0}) shut_at
  shut_local = at_byte shut_at
      (choice (b == 41) _ _ _ _ (beyond {X = Unit {0}} (Ok (tt, more)) _ (omega arith)) (fault_here Unknown []))
      (λ c u. choice (c == 41) _ _ _ _ (here tt u) (fault_here Unknown (c ∷ u)))
      shut_leaves

  close_local : IsLocal (Unit {0}) close_at
  close_local = bind_local skip_at (λ x. shut_at x.1) skip_local (λ _. shut_local)

  pub single_local : IsLocal p.Point single_at
  unfolding single_at
  single_local = bind_local (open_at Empty) _ (open_local Empty) (λ _. bind_local point_at _ point_local (λ point. bind_local close_at _ close_local (λ _. done point)))

  marked_leaves : (bytes : List ℕ) → Leaves (marked_at bytes) (length bytes)
  marked_leaves [] = point_local.bounded []
  marked_leaves (c ∷ bs) = leaves_choice (c == 40) (single_at (c ∷ bs)) (point_at (c ∷ bs)) (length (c ∷ bs)) (single_local.bounded (c ∷ bs)) (point_local.bounded (c ∷ bs))

  pub marked_local : IsLocal p.Point marked_at
  marked_local = at_byte marked_at
      (choice (b == 40) _ _ _ _ (single_local.local []) (point_local.local []))
      (λ c u. choice (c == 40) _ _ _ _ (single_local.local (c ∷ u)) (point_local.local (c ∷ u)))
      marked_leaves

  pub member_local : {X : Type 0} (item : List ℕ → Outcome X) → IsLocal X item → IsLocal (X × Bool) (member_at item)
  member_local item h = bind_local item _ h (λ x. bind_local more_at _ more_local (λ g. done (x, g)))

  pub items_local : {X : Type 0} (item : List ℕ → Outcome X) → IsLocal X item → (n : ℕ) → IsLocal (List X) (items_at item n)
  items_local {X} item h zero = record { local = λ u. fault_here Truncated u; bounded = λ bytes. omega arith }
  items_local {X} item h (suc n) = bind_local (member_at item) _ (member_local item h) (λ x. by x.1 x (items_local item h n))
    where
      by : (g : Bool) (x : X × Bool) → IsLocal (List X) (items_at item n) → IsLocal (List X) (λ bytes. cond g (items_at item n bytes >>= λ others. Ok (x.0 ∷ others.0, others.1)) (Ok (x.0 ∷ [], bytes)))
      by true x r = bind_local (items_at item n) _ r (λ others. done (x.0 ∷ others))
      by false x r = done (x.0 ∷ [])
