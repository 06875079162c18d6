-- No text of the grammar goes on behind the byte at a fault.
use Rattle.std.proofs.Common.{◌≡◌, ℕ, zero, suc, ◌+◌, ◌-◌, ◌<◌, ◌≤◌, List, [], ◌∷◌, ◌++◌, length, take, Option, Some, Ok, Err, refl, sym, ap, subst, ◌∙◌, append_assoc, arith, length-append}
use Rattle.isp_geom.specs.declared.form.Form.{Form}
use Rattle.isp_wkt.specs.declared.cause.WktCause.{WktCause}
use Rattle.isp_wkt.specs.declared.cause.Fault.{Fault}
use Rattle.isp_wkt.specs.Grammar.{IsTextOf, IsText}
use Rattle.isp_wkt.specs.Reading.{Outcome, text_at, fault_in, fault_of}
use Rattle.isp_wkt.proofs.SoundForms.{text_of}
use Rattle.isp_wkt.proofs.CompleteForms.{text_again_of}
use Rattle.isp_wkt.proofs.Local.{Leaves, Follows}
use Rattle.isp_wkt.proofs.LocalForms.{text_local_of}

-- a text by the byte at a place
record Split (at : ℕ) (text : List ℕ) : Type 0 where
  pub front : List ℕ
  pub byte : ℕ
  pub rest : List ℕ
  pub parts : text ≡ front ++ byte ∷ rest
  pub long : length front ≡ at
  pub taken : take (at + 1) text ≡ front ++ byte ∷ []

cut : (at : ℕ) (text : List ℕ) → at < length text → Split at text
cut at [] h = absurd (omega arith)
cut zero (c ∷ text) h = record { front = []; byte = c; rest = text; parts = refl; long = refl; taken = refl }
cut (suc at) (c ∷ text) h =
    let r = cut at text (omega arith) in
    let next : suc at + 1 ≡ suc (at + 1) = omega arith in
    record {
      front = c ∷ r.front;
      byte = r.byte;
      rest = r.rest;
      parts = ap (λ (t : List ℕ). c ∷ t) r.parts;
      long = ap suc r.long;
      taken = ap (λ (n : ℕ). take n (c ∷ text)) next ∙ ap (λ (t : List ℕ). c ∷ t) r.taken;
    }

some_is : (x y : WktCause × ℕ) → ◌≡◌ {A = Option (WktCause × ℕ)} (Some x) (Some y) → x ≡ y
some_is x y e = cc

-- the fault of a text as it is read
pub faulty : (text : List ℕ) (cause : WktCause) (at : ℕ) (o : Outcome Form) → text_at text ≡ o → fault_in (length text) o ≡ Some (cause, at) → (f : Fault) × (text_at text ≡ Err f) × (length text - f.left ≡ at) × (f.cause ≡ cause)
faulty text cause at (Ok x) e h = absurd cc
faulty text cause at (Err f) e h = let both = some_is (f.cause, length text - f.left) (cause, at) h in (f, e, ap (λ (q : WktCause × ℕ). q.1) both, ap (λ (q : WktCause × ℕ). q.0) both)

-- no text of the grammar goes on behind the byte at the fault of a text that is read with so many levels
pub stops_of : (depth : ℕ) (front rest more : List ℕ) (b : ℕ) (f : Fault) (form : Form) → text_of depth (front ++ b ∷ rest) ≡ Err f → length (b ∷ rest) ≤ f.left → IsTextOf (suc depth) form ((front ++ b ∷ []) ++ more) → ⊥
stops_of depth front rest more b f form e le means =
    let local = text_local_of b rest more depth in
    let follows : Follows b rest more (Err f) (text_of depth (front ++ b ∷ more)) = subst (λ (o : Outcome Form). Follows b rest more o (text_of depth (front ++ b ∷ more))) e (local.local front) in
    let again : text_of depth (front ++ b ∷ more) ≡ Ok (form, []) = ap (text_of depth) (sym (append_assoc front (b ∷ []) more)) ∙ text_again_of depth form ((front ++ b ∷ []) ++ more) means in
    let bad = follows le in
    let no : ◌≡◌ {A = Outcome Form} (Ok (form, [])) (Err bad.0) = sym again ∙ bad.1 in
    cc

-- a text is read with eight collections in one another
pub text_is : (text : List ℕ) → text_at text ≡ text_of 8 text
unfolding text_at
text_is text = refl

pub stops : (text more : List ℕ) (cause : WktCause) (at : ℕ) (form : Form) → fault_of text ≡ Some (cause, at) → at < length text → IsText form (take (at + 1) text ++ more) → ⊥
stops text more cause at form h lt means =
    let f = faulty text cause at (text_at text) refl h in
    let c = cut at text lt in
    let small : f.0.left ≤ length text = subst (λ (o : Outcome Form). Leaves o (length text)) (sym (text_is text) ∙ f.1) ((text_local_of 0 [] [] 8).bounded text) in
    let whole : text_of 8 (c.front ++ c.byte ∷ c.rest) ≡ Err f.0 = ap (text_of 8) (sym c.parts) ∙ sym (text_is text) ∙ f.1 in
    stops_of 8 c.front c.rest more c.byte f.0 form whole (omega (arith, ap length c.parts, length-append c.front (c.byte ∷ c.rest), c.long)) (subst (λ (t : List ℕ). IsText form (t ++ more)) c.taken means)
