-- New entries whose number comes to be known: boxes and places stay.
use Rattle.std.proofs.Common.{◌≡◌, inl, inr, ℕ, ◌*◌, ◌/◌, ◌<◌, ◌≤◌, ◌==◌, Bool, true, false, cond, Option, Some, None, List, [], ◌∷◌, ◌++◌, length, map, refl, sym, ◌∙◌, ap, subst, arith}
use Rattle.std.specs.Prelude.{slice_get}
use Rattle.std.specs.List.{cons_option}
use Rattle.std.specs.Option.{option_map}
use Rattle.std.proofs.lemmas.Int.{clamps}
use Rattle.std.proofs.lemmas.List.{length-map}
use Rattle.std.proofs.lemmas.Option.{slice_get-map}
use Rattle.std.proofs.Math.Nat.{mul-div-le}
use Rattle.isp_base.specs.Lists.{Has}
use Rattle.isp_format.specs.Control.{IsFanout}
use Rattle.isp_mbr.specs.Boxes.{union}
use Rattle.isp_mbr.specs.Corners.{Corners}
use Rattle.isp_forest.specs.declared.entry.Entry.{Entry}
use Rattle.isp_forest.specs.declared.entry.To.{To}
use Rattle.isp_forest.specs.Steps.{names, reboxed, widened}
use Rattle.isp_forest.specs.Tree.{around, child_of, least}
use Rattle.isp_laws.specs.DivisionLaws.{AreParts, boxes_of, picked}
use Rattle.isp_laws.proofs.PartLaws.{split_gives_parts}
use Rattle.isp_split.specs.Division.{IsQuadraticSplit}
use Rattle.isp_rplan.specs.Plans.{AreDivided, known, least_fill, new_entry, with_carry, with_known}
use Rattle.isp_rplan.specs.declared.steps.Carry.{Carry}
use Rattle.isp_rplan.specs.declared.steps.Carry.TheVariants.{Added, Divided, Grown}

pub boxes_known : (to : To) (es : List Entry) → boxes_of (map (known to) es) ≡ boxes_of es
boxes_known to [] = refl
boxes_known to (e ∷ es) = ap (λ (bs : List Corners). e.b ∷ bs) (boxes_known to es)

around_known : (to : To) (b : Corners) (es : List Entry) → around b (map (known to) es) ≡ around b es
around_known to b [] = refl
around_known to b (e ∷ es) = ap (union e.b) (around_known to b es)

pub least_known : (to : To) (es : List Entry) → least (map (known to) es) ≡ least es
least_known to [] = refl
least_known to (e ∷ es) = around_known to e.b es

pub picked_known : (to : To) (es : List Entry) (places : List ℕ) → picked (map (known to) es) places ≡ map (known to) (picked es places)
picked_known to es [] = refl
picked_known to es (k ∷ places) =
    ap (λ (o : Option Entry). cons_option o (picked (map (known to) es) places)) (slice_get-map (known to) es k)
    ∙ ap (cons_option (option_map (known to) (slice_get es k))) (picked_known to es places)
    ∙ one (slice_get es k)
  where
    one : (o : Option Entry) → cons_option (option_map (known to) o) (map (known to) (picked es places)) ≡ map (known to) (cons_option o (picked es places))
    one None = refl
    one (Some e) = refl

-- an entry that leads somewhere stays
stays_known : (to : To) (e : Entry) (b : Bool) → names (λ q. q == 0) (child_of e) ≡ b → b ≡ false → known to e ≡ e
stays_known to e true is off = cc
stays_known to e false is off = ap (λ (t : Bool). record { b = e.b; to = cond t to e.to }) is

all_known : (to : To) (es : List Entry) → ((e : Entry) → Has es e → names (λ q. q == 0) (child_of e) ≡ false) → map (known to) es ≡ es
all_known to [] none = refl
all_known to (e ∷ es) none =
    ap (λ (x : Entry). x ∷ map (known to) es) (stays_known to e (names (λ q. q == 0) (child_of e)) refl (none e (inl refl)))
    ∙ ap (λ (xs : List Entry). e ∷ xs) (all_known to es (λ x h. none x (inr h)))

last_known : (to : To) (b : Corners) (es : List Entry) → ((e : Entry) → Has es e → names (λ q. q == 0) (child_of e) ≡ false) → map (known to) (es ++ new_entry b ∷ []) ≡ es ++ (record { b = b; to = to }) ∷ []
last_known to b [] none = refl
last_known to b (e ∷ es) none =
    ap (λ (x : Entry). x ∷ map (known to) (es ++ new_entry b ∷ [])) (stays_known to e (names (λ q. q == 0) (child_of e)) refl (none e (inl refl)))
    ∙ ap (λ (xs : List Entry). e ∷ xs) (last_known to b es (λ x h. none x (inr h)))

has_left : {X : Type 0} (xs ys : List X) (x : X) → Has xs x → Has (xs ++ ys) x
has_left [] ys x h = absurd h
has_left (z ∷ xs) ys x (inl e) = inl e
has_left (z ∷ xs) ys x (inr h) = inr (has_left xs ys x h)

-- where the page's own entries lead somewhere, only the new one changes
pub carry_known : (carry : Carry) (to : To) (es : List Entry) → ((e : Entry) → Has (with_known carry to es) e → names (λ q. q == 0) (child_of e) ≡ false) → map (known to) (with_carry carry es) ≡ with_known carry to es
carry_known (Added b) to es none = last_known to b es (λ e h. none e (has_left es (record { b = b; to = to } ∷ []) e h))
carry_known (Grown child b) to es none = all_known to (map (widened (child.0 ∷ []) b) es) none
carry_known (Divided child left right) to es none = last_known to right (map (reboxed child.0 left) es) (λ e h. none e (has_left (map (reboxed child.0 left) es) (record { b = right; to = to } ∷ []) e h))

-- ---- the parts

pub fill_some : (fanout : ℕ) → 2 ≤ least_fill fanout
fill_some fanout = omega (arith, clamps)

pub fill_enough : (fanout n : ℕ) → IsFanout fanout → fanout < n → 2 * least_fill fanout ≤ n
fill_enough fanout n fan over =
    let low = fan.0 in
    let fifth : 5 * (2 * fanout / 5) ≤ 2 * fanout = mul-div-le (2 * fanout) 5 in
    omega (arith, clamps, low, fifth, over)

-- the parts that a plan has are those of the page's entries
pub divided_known : (fanout : ℕ) (to : To) (all stays moves : List Entry) → AreDivided fanout all stays moves → AreDivided fanout (map (known to) all) (map (known to) stays) (map (known to) moves)
divided_known fanout to all stays moves d =
    let long : length (map (known to) all) ≡ length all = length-map all (known to) in
    record {
      over = omega (arith, d.over, long);
      first = d.first;
      second = d.second;
      division = subst (λ (bs : List Corners). IsQuadraticSplit bs (least_fill fanout) d.first d.second) (sym (boxes_known to all)) d.division;
      stays_is = ap (map (known to)) d.stays_is ∙ sym (picked_known to all d.first);
      moves_is = ap (map (known to)) d.moves_is ∙ sym (picked_known to all d.second);
    }

pub parts_of : (level fanout : ℕ) (all stays moves : List Entry) → IsFanout fanout → AreDivided fanout all stays moves → AreParts level (least_fill fanout) all stays moves
parts_of level fanout all stays moves fan d =
    let some = fill_some fanout in
    let parts : AreParts level (least_fill fanout) all (picked all d.first) (picked all d.second) = split_gives_parts level (least_fill fanout) all d.first d.second (omega (arith, some)) (λ inner. some) (fill_enough fanout (length all) fan d.over) d.division in
    subst (λ (es : List Entry). AreParts level (least_fill fanout) all es moves) (sym d.stays_is) (subst (λ (es : List Entry). AreParts level (least_fill fanout) all (picked all d.first) es) (sym d.moves_is) parts)
