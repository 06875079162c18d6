-- All of the bytes as one form: found exactly where a geometry is spelled so.
use Rattle.std.proofs.Common.{◌≡◌, ℕ, cond, List, [], ◌∷◌, ◌++◌, Option, Some, None, Err, refl, sym, ap, subst, ◌∙◌}
use Rattle.std.proofs.lemmas.List.{append-nil}
use Rattle.isp_geom.specs.declared.error.GeomError.{GeomError}
use Rattle.isp_geom.specs.declared.error.GeomError.TheVariants.{NotGeometry, OutOfMemory}
use Rattle.isp_geom.specs.declared.form.Form.{Form}
use Rattle.isp_geom.specs.Rules.{IsGeometry}
use Rattle.isp_geom.specs.Spelling.{spelling}
use Rattle.isp_geom.specs.Reading.{Gives, form_at, whole_at, is_empty}
use Rattle.isp_geom.proofs.Readers.{IsBytes, some_is, bind_some}
use Rattle.isp_geom.proofs.Forms.{form_reader}

nothing_left : (f g : Form) (rest : List ℕ) → cond {A = Option (Form × List ℕ)} (is_empty rest) (Some (f, [])) None ≡ Some (g, []) → (rest ≡ []) × (f ≡ g)
nothing_left f g [] e = (refl, ap (λ (r : Form × List ℕ). r.0) (some_is (f, []) (g, []) e))
nothing_left f g (b ∷ rest) e = absurd cc

pub whole_found : (bytes : List ℕ) (f : Form) → IsBytes bytes → whole_at (form_at 9 bytes) ≡ Some (f, []) → bytes ≡ spelling f
whole_found bytes f fits e =
    let b = bind_some (form_at 9 bytes) (λ x. cond {A = Option (Form × List ℕ)} (is_empty x.1) (Some (x.0, [])) None) (f, []) e in
    let n = nothing_left b.0.0 f b.0.1 b.2 in
    let t = (form_reader 9).back bytes b.0.0 b.0.1 fits b.1 in
    t.parts ∙ ap (λ (rest : List ℕ). spelling b.0.0 ++ rest) n.0 ∙ append-nil (spelling b.0.0) ∙ ap spelling n.1

pub whole_again : (bytes : List ℕ) (g : Form) → IsGeometry g → bytes ≡ spelling g → whole_at (form_at 9 bytes) ≡ Some (g, [])
whole_again bytes g h e = ap whole_at (ap (form_at 9) (e ∙ sym (append-nil (spelling g))) ∙ (form_reader 9).again g [] h)

pub refused : (e : GeomError) (bytes : List ℕ) → Gives {X = Form} (Err e) (whole_at (form_at 9 bytes)) [] → e ≡ NotGeometry → (g : Form) → IsGeometry g → bytes ≡ spelling g → ⊥
refused NotGeometry bytes h is g k e = let again = whole_again bytes g k e in cc
refused OutOfMemory bytes h is g k e = absurd cc

pub one_form : (f : Form) (bytes : List ℕ) → whole_at (form_at 9 bytes) ≡ Some (f, []) → (g : Form) → IsGeometry g → bytes ≡ spelling g → f ≡ g
one_form f bytes h g k e = ap (λ (r : Form × List ℕ). r.0) (some_is (f, []) (g, []) (sym h ∙ whole_again bytes g k e))

pub no_rules : (f : Form) (bytes : List ℕ) → whole_at (form_at 9 bytes) ≡ Some (f, []) → (IsGeometry f → ⊥) → (g : Form) → IsGeometry g → bytes ≡ spelling g → ⊥
no_rules f bytes h broken g k e =
    broken (subst IsGeometry (sym (one_form f bytes h g k e)) k)

-- no spelling begins another
pub apart : (g h : Form) (more others : List ℕ) → IsGeometry g → IsGeometry h → spelling g ++ more ≡ spelling h ++ others → (g ≡ h) × (more ≡ others)
apart g h more others p q e =
    let same : Some (g, more) ≡ Some (h, others) = sym ((form_reader 9).again g more p) ∙ ap (form_at 9) e ∙ (form_reader 9).again h others q in
    let pair = some_is (g, more) (h, others) same in
    (ap (λ (r : Form × List ℕ). r.0) pair, ap (λ (r : Form × List ℕ). r.1) pair)
