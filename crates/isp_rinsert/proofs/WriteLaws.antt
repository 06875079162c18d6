-- Pages that are written one after another.
use Rattle.std.proofs.Common.{inl, inr, ◌≡◌, ℕ, suc, ◌+◌, ◌<◌, ◌≤◌, ◌==◌, ◌||◌, Bool, true, false, cond, zero, List, [], ◌∷◌, ◌++◌, get_or, length, take, refl, sym, ◌∙◌, ap, subst, arith, eqb-true, eq-eqb}
use Rattle.std.proofs.lemmas.List.{map-append, take_all, take_more}
use Rattle.isp_base.specs.Lists.{Has, times}
use Rattle.isp_forest.specs.declared.entry.Entry.{Entry}
use Rattle.isp_forest.specs.Tree.{Node}
use Rattle.isp_format.specs.Header.{header_of}
use Rattle.isp_format.specs.Ranges.{Contents}
use Rattle.isp_laws.proofs.ListLaws.{times-append}
use Rattle.isp_page.specs.State.{is_among}
use Rattle.isp_page.specs.Touched.{KeepsPages}
use Rattle.isp_rnode.specs.Nodes.{IsNode, link_of, node_of}
use Rattle.isp_rplan.specs.declared.steps.NodeHead.{NodeHead}
use Rattle.isp_rsettle.specs.Settling.{node_with}
use Rattle.isp_rsettle.specs.declared.outcome.Settled.{Settled}
use Rattle.isp_rtree.proofs.TreeLaws.{level_is, next_is, ssn_is}
use Rattle.isp_rinsert.specs.Applying.{AreWritten, IsWritten, written_numbers}

-- a header and entries are what the bytes mean
pub node_by : (bytes : List ℕ) (h : NodeHead) (es : List Entry) → (header_of bytes).level ≡ h.level → (header_of bytes).ssn ≡ h.ssn → (header_of bytes).next ≡ h.next.0 → ◌≡◌ {A = Node} (record (node_of bytes) { entries = es }) (node_with h es)
node_by bytes h es level ssn next =
    λ i. record { level = (level_is bytes ∙ level) i; ssn = (ssn_is bytes ∙ ssn) i; next = (next_is bytes ∙ ap link_of next) i; entries = es }

-- ---- what holds of all items before the next one

pub has_pushed : {X : Type 0} (P : X → Type 0) (xs : List X) (x : X) → ((y : X) → Has xs y → P y) → P x → (y : X) → Has (xs ++ x ∷ []) y → P y
has_pushed P [] x all last y (inl same) = subst P same last
has_pushed P [] x all last y (inr none) = absurd none
has_pushed P (z ∷ xs) x all last y (inl same) = all y (inl same)
has_pushed P (z ∷ xs) x all last y (inr more) = has_pushed P xs x (λ w h. all w (inr h)) last y more

pub all_next : {X : Type 0} (P : X → Type 0) (xs : List X) (i : ℕ) (d : X) → i < length xs → ((y : X) → Has (take i xs) y → P y) → P (get_or xs i d) → (y : X) → Has (take (i + 1) xs) y → P y
all_next P xs i d inside all last y has = has_pushed P (take i xs) (get_or xs i d) all last y (subst (λ (l : List _). Has l y) (take_more xs i d inside) has)

pub has_item : {X : Type 0} (xs : List X) (i : ℕ) (d : X) → i < length xs → Has xs (get_or xs i d)
has_item [] i d inside = absurd (omega arith)
has_item (x ∷ xs) zero d inside = inl refl
has_item (x ∷ xs) (suc i) d inside = inr (has_item xs i d (omega (arith, inside)))

-- ---- each page is written once

pub has_number : (list : List Settled) (w : Settled) → Has list w → 0 < times w.page.0 (written_numbers list)
has_number [] w h = absurd h
has_number (x ∷ list) w (inl same) =
    let e : (x.page.0 == w.page.0) ≡ true = eq-eqb x.page.0 w.page.0 (ap (λ (z : Settled). z.page.0) same) in
    let one : ◌≡◌ {A = ℕ} (cond (x.page.0 == w.page.0) 1 0) 1 = ap (λ (b : Bool). let n : ℕ = cond b 1 0 in n) e in
    omega (arith, one)
has_number (x ∷ list) w (inr h) = let later = has_number list w h in omega (arith, later)

pub has_page : (list : List Settled) (w : Settled) → Has list w → is_among w.page.0 (written_numbers list) ≡ true
has_page [] w h = absurd h
has_page (x ∷ list) w (inl same) = let e : (x.page.0 == w.page.0) ≡ true = eq-eqb x.page.0 w.page.0 (ap (λ (z : Settled). z.page.0) same) in rw e refl
has_page (x ∷ list) w (inr h) = by (x.page.0 == w.page.0) (has_page list w h)
  where
    by : (b : Bool) → is_among w.page.0 (written_numbers list) ≡ true → (b || is_among w.page.0 (written_numbers list)) ≡ true
    by true e = refl
    by false e = e

fewer : (n : ℕ) (list : List Settled) (x : ℕ) → times x (written_numbers (take n list)) ≤ times x (written_numbers list)
fewer zero list x = omega arith
fewer (suc n) [] x = omega arith
fewer (suc n) (y ∷ list) x = let h = fewer n list x in omega (arith, h)

-- a page that was written before isn't written again
pub written_apart : (list : List Settled) (i : ℕ) (d v : Settled) → i < length list → ((x : ℕ) → times x (written_numbers list) ≤ 1) → Has (take i list) v → is_among v.page.0 ((get_or list i d).page.0 ∷ []) ≡ false
written_apart list i d v inside once has = by ((get_or list i d).page.0 == v.page.0) refl
  where
    w : Settled
    w = get_or list i d

    by : (b : Bool) → (w.page.0 == v.page.0) ≡ b → (b || false) ≡ false
    by false is = refl
    by true is =
        let same : w.page.0 ≡ v.page.0 = eqb-true w.page.0 v.page.0 is in
        let parts : written_numbers (take (i + 1) list) ≡ written_numbers (take i list) ++ w.page.0 ∷ [] = ap written_numbers (take_more list i d inside) ∙ map-append (λ (z : Settled). z.page.0) (take i list) (w ∷ []) in
        let all : times v.page.0 (written_numbers (take (i + 1) list)) ≤ times v.page.0 (written_numbers list) = fewer (i + 1) list v.page.0 in
        let sum : times v.page.0 (written_numbers (take (i + 1) list)) ≡ times v.page.0 (written_numbers (take i list)) + times v.page.0 (w.page.0 ∷ []) = ap (times v.page.0) parts ∙ times-append v.page.0 (written_numbers (take i list)) (w.page.0 ∷ []) in
        let one : ◌≡◌ {A = ℕ} (cond (w.page.0 == v.page.0) 1 0) 1 = ap (λ (b : Bool). let n : ℕ = cond b 1 0 in n) is in
        absurd (omega (arith, has_number (take i list) v has, all, sum, one, once v.page.0))

pub written_next : (owner : ℕ) (old new : Contents) (list : List Settled) (i : ℕ) (w : Settled) → w ≡ get_or list i w → i < length list → ((x : ℕ) → times x (written_numbers list) ≤ 1)
    → KeepsPages (λ p. is_among p (w.page.0 ∷ [])) old new → IsWritten owner new w → AreWritten owner old (take i list) → AreWritten owner new (take (i + 1) list)
written_next owner old new list i w is inside once keeps last all =
    all_next (IsWritten owner new) list i w inside
    (λ v has. subst (λ (bytes : List ℕ). IsNode owner v.page.0 (node_with v.head v.entries.items) bytes) (sym (keeps v.page.0 (ap (λ (z : Settled). is_among v.page.0 (z.page.0 ∷ [])) is ∙ written_apart list i w v inside once has))) (all v has)) (subst (IsWritten owner new) is last)

pub item_of : {X : Type 0} (xs : List X) (i : ℕ) (x : X) → x ≡ get_or xs i x → i < length xs → Has xs x
item_of xs i x is inside = subst (Has xs) (sym is) (has_item xs i x inside)

pub written_all : (owner : ℕ) (now : Contents) (list : List Settled) (i : ℕ) → length list ≤ i → AreWritten owner now (take i list) → AreWritten owner now list
written_all owner now list i end all = subst (λ (l : List Settled). AreWritten owner now l) (take_all i list end) all
