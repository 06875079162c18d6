-- Reading with one level more gives the same, but where a `(` was too deep.
use Rattle.std.proofs.Common.{◌≡◌, ℕ, zero, suc, ◌==◌, Bool, true, false, cond, ◌⊎◌, inl, inr, List, [], ◌∷◌, length, Ok, Err, refl, ap, subst}
use Rattle.isp_geom.specs.declared.form.Form.{Form}
use Rattle.isp_geom.specs.declared.form.Form.TheVariants as form
use Rattle.isp_wkt.specs.declared.cause.WktCause.{WktCause}
use Rattle.isp_wkt.specs.declared.cause.WktCause.TheVariants.{TooDeep, Empty, Unknown}
use Rattle.isp_wkt.specs.declared.cause.Fault.{Fault}
use Rattle.isp_wkt.specs.declared.kind.Kind.{Kind}
use Rattle.isp_wkt.specs.declared.kind.Kind.TheVariants as kind
use Rattle.isp_wkt.specs.Reading.{◌>>=◌, Outcome, fault, is_e, skipped, inside_at, paren_at, open_at, more_at, member_at, items_at, list_at, word_in, kinds, body_at, deep_paren_at, geometry_at, members_at, rest_at}
use Rattle.isp_wkt.proofs.SoundForms.{text_of}

-- the same outcome, or TooDeep
abbrev pub Agrees : {X : Type 0} → Outcome X → Outcome X → Type 0
Agrees {X} o q = (o ≡ q) ⊎ ((f : Fault) × (o ≡ Err f) × (f.cause ≡ TooDeep))

then_agrees : {X Y : Type 0} (r s : Outcome X) (k m : X × List ℕ → Outcome Y) → Agrees r s → ((x : X × List ℕ) → Agrees (k x) (m x)) → Agrees (r >>= k) (s >>= m)
then_agrees {X} {Y} r s k m (inl e) h = subst (λ (o : Outcome X). Agrees (r >>= k) (o >>= m)) e (at r)
  where
    at : (o : Outcome X) → Agrees (o >>= k) (o >>= m)
    at (Ok x) = h x
    at (Err f) = inl refl
then_agrees r s k m (inr y) h = inr (y.0, ap (λ t. t >>= k) y.1, y.2)

module _ {X : Type 0} (item deeper : List ℕ → Outcome X) (agrees : (bytes : List ℕ) → Agrees (item bytes) (deeper bytes)) where
  member_agrees : (bytes : List ℕ) → Agrees (member_at item bytes) (member_at deeper bytes)
  member_agrees bytes = then_agrees (item bytes) (deeper bytes) (λ member. more_at member.1 >>= λ more. Ok ((member.0, more.0), more.1)) (λ member. more_at member.1 >>= λ more. Ok ((member.0, more.0), more.1)) (agrees bytes) (λ x. inl refl)

  items_agrees : (n : ℕ) (bytes : List ℕ) → Agrees (items_at item n bytes) (items_at deeper n bytes)
  items_agrees zero bytes = inl refl
  items_agrees (suc n) bytes =
      then_agrees (member_at item bytes) (member_at deeper bytes)
      (λ first. cond first.0.1 (items_at item n first.1 >>= λ others. Ok (first.0.0 ∷ others.0, others.1)) (Ok (first.0.0 ∷ [], first.1)))
      (λ first. cond first.0.1 (items_at deeper n first.1 >>= λ others. Ok (first.0.0 ∷ others.0, others.1)) (Ok (first.0.0 ∷ [], first.1)))
      (member_agrees bytes) (λ x. at x x.0.1 (items_agrees n x.1))
    where
      at : (x : (X × Bool) × List ℕ) (t : Bool) → Agrees (items_at item n x.1) (items_at deeper n x.1)
          → Agrees (cond t (items_at item n x.1 >>= λ others. Ok (x.0.0 ∷ others.0, others.1)) (Ok (x.0.0 ∷ [], x.1))) (cond t (items_at deeper n x.1 >>= λ others. Ok (x.0.0 ∷ others.0, others.1)) (Ok (x.0.0 ∷ [], x.1)))
      at x true h = then_agrees (items_at item n x.1) (items_at deeper n x.1) (λ others. Ok (x.0.0 ∷ others.0, others.1)) (λ others. Ok (x.0.0 ∷ others.0, others.1)) h (λ y. inl refl)
      at x false h = inl refl

  list_agrees : (nothing : WktCause) (bytes : List ℕ) → Agrees (list_at nothing item bytes) (list_at nothing deeper bytes)
  unfolding list_at
  list_agrees nothing bytes = then_agrees (open_at nothing bytes) (open_at nothing bytes) (λ opened. items_at item (length opened.1) opened.1) (λ opened. items_at deeper (length opened.1) opened.1) (inl refl) (λ x. items_agrees (length x.1) x.1)

module _ (members deeper : List ℕ → Outcome (List Form)) (agrees : (bytes : List ℕ) → Agrees (members bytes) (deeper bytes)) where
  body_agrees : (k : Kind) (bytes : List ℕ) → Agrees (body_at members k bytes) (body_at deeper k bytes)
  body_agrees kind.Point bytes = inl refl
  body_agrees kind.LineString bytes = inl refl
  body_agrees kind.Polygon bytes = inl refl
  body_agrees kind.MultiPoint bytes = inl refl
  body_agrees kind.MultiLineString bytes = inl refl
  body_agrees kind.MultiPolygon bytes = inl refl
  body_agrees kind.Collection bytes = then_agrees (members bytes) (deeper bytes) (λ x. Ok (form.Collection x.0, x.1)) (λ x. Ok (form.Collection x.0, x.1)) (agrees bytes) (λ x. inl refl)

  geometry_agrees : (bytes : List ℕ) → Agrees (geometry_at members bytes) (geometry_at deeper bytes)
  unfolding geometry_at
  geometry_agrees bytes = then_agrees (word_in kinds 0 bytes) (word_in kinds 0 bytes) (λ k. body_at members k.0 k.1) (λ k. body_at deeper k.0 k.1) (inl refl) (λ x. body_agrees x.0 x.1)

deep_agrees : (m : Unit {0} × List ℕ → Outcome (List Form)) (bs : List ℕ) → Agrees (deep_paren_at bs >>= λ opened. fault TooDeep opened.1) (paren_at Empty bs >>= m)
deep_agrees m [] = inl refl
deep_agrees m (b ∷ bs) = at (b == 40) (is_e b)
  where
    at : (s t : Bool) → Agrees {X = List Form} (cond {A = Outcome (Unit {0})} s (fault TooDeep (b ∷ bs)) (cond t (fault Empty (b ∷ bs)) (fault Unknown (b ∷ bs))) >>= λ opened. fault TooDeep opened.1)
        (cond {A = Outcome (Unit {0})} s (inside_at Empty (skipped bs)) (cond t (fault Empty (b ∷ bs)) (fault Unknown (b ∷ bs))) >>= m)
    at true t = inr (record { cause = TooDeep; left = length (b ∷ bs) }, refl, refl)
    at false true = inl refl
    at false false = inl refl

none_agrees : (bytes : List ℕ) → Agrees (members_at 0 bytes) (members_at 1 bytes)
unfolding members_at list_at
none_agrees bytes = deep_agrees (λ opened. items_at (geometry_at (members_at 0)) (length opened.1) opened.1) (skipped bytes)

some_agrees : (depth : ℕ) → ((bytes : List ℕ) → Agrees (members_at depth bytes) (members_at (suc depth) bytes)) → (bytes : List ℕ) → Agrees (members_at (suc depth) bytes) (members_at (suc (suc depth)) bytes)
unfolding members_at
some_agrees depth h = list_agrees (geometry_at (members_at depth)) (geometry_at (members_at (suc depth))) (geometry_agrees (members_at depth) (members_at (suc depth)) h) Empty

members_agrees : (depth : ℕ) (bytes : List ℕ) → Agrees (members_at depth bytes) (members_at (suc depth) bytes)
members_agrees zero = none_agrees
members_agrees (suc depth) = some_agrees depth (members_agrees depth)

pub text_agrees : (depth : ℕ) (text : List ℕ) → Agrees (text_of depth text) (text_of (suc depth) text)
text_agrees depth text =
    then_agrees (geometry_at (members_at depth) (skipped text)) (geometry_at (members_at (suc depth)) (skipped text)) (λ form. rest_at form.0 (skipped form.1)) (λ form. rest_at form.0 (skipped form.1))
    (geometry_agrees (members_at depth) (members_at (suc depth)) (members_agrees depth) (skipped text)) (λ x. inl refl)
