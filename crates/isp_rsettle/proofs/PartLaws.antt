-- The pages of a settled plan: their numbers are those of the path and of the new pages, and none has more entries than the fan-out.
use Rattle.std.proofs.Common.{◌≡◌, inl, inr, ℕ, ◌+◌, ◌≤◌, Option, Some, None, List, [], ◌∷◌, ◌++◌, length, length-append, map, refl, ◌∙◌, ap, subst, arith}
use Rattle.std.proofs.lemmas.List.{length-map}
use Rattle.std.proofs.lemmas.List.Sorted.{length_permutation}
use Rattle.isp_base.specs.Lists.{Has, times}
use Rattle.isp_base.specs.declared.page_no.PageNo.{PageNo}
use Rattle.isp_format.specs.Control.{IsFanout}
use Rattle.isp_mbr.specs.Corners.{Corners}
use Rattle.isp_forest.specs.declared.entry.Entry.{Entry}
use Rattle.isp_forest.specs.declared.entry.To.{To}
use Rattle.isp_forest.specs.Steps.{reboxed, widened}
use Rattle.isp_forest.specs.Tree.{Node, numbers}
use Rattle.isp_laws.specs.DivisionLaws.{AreParts}
use Rattle.isp_laws.proofs.ListLaws.{Has-append, times-append}
use Rattle.isp_laws.proofs.PageLaws.{numbers-append}
use Rattle.isp_rplan.specs.Divisions.{known_after, needs, news_after, number_of, page_numbers, pages_needed}
use Rattle.isp_rplan.specs.Plans.{AreDivided, AreParted, AreWhole, IsPlan, carry_of, known, least_fill, moves_of, new_entry, with_carry}
use Rattle.isp_rplan.specs.declared.steps.Carry.{Carry}
use Rattle.isp_rplan.specs.declared.steps.Carry.TheVariants.{Added, Divided, Grown}
use Rattle.isp_rplan.specs.declared.steps.PathPage.{PathPage}
use Rattle.isp_rplan.specs.declared.steps.Planned.{Planned}
use Rattle.isp_rplan.proofs.KnownLaws.{fill_some, parts_of}
use Rattle.isp_rsettle.specs.Settling.{counter_after, raised_page, settled, settled_page, settled_root}

pub divided_parts : (fanout : ℕ) (all stays moves : List Entry) (m : Option (List Entry)) → AreParted fanout all stays m → m ≡ Some moves → AreDivided fanout all stays moves
divided_parts fanout all stays moves m parts is = subst (λ (m : Option (List Entry)). AreParted fanout all stays m) is parts

pub whole_parts : (fanout : ℕ) (all stays : List Entry) (m : Option (List Entry)) → AreParted fanout all stays m → m ≡ None → AreWhole fanout all stays
whole_parts fanout all stays m parts is = subst (λ (m : Option (List Entry)). AreParted fanout all stays m) is parts

-- the root's page once it was raised
abbrev pub top_page : ℕ → Planned → List Entry → PageNo → PageNo → Node
top_page counter s moves q n = raised_page counter s moves q n

-- ---- the new pages that are left

pub left_after : (m : Option (List Entry)) (news : List PageNo) (rest : ℕ) → length news ≡ needs m + rest → length (news_after m news) ≡ rest
left_after None news rest count = omega (arith, count)
left_after (Some moves) [] rest count = absurd (omega (arith, count))
left_after (Some moves) (n ∷ news) rest count = omega (arith, count)

-- ---- numbers

page_numbered : (x counter : ℕ) (to : To) (s : Planned) (m : Option (List Entry)) (news : List PageNo) → needs m ≤ length news
    → times x (numbers (settled_page counter to s m news)) + times x (map number_of (news_after m news)) ≡ times x (s.page.0 ∷ []) + times x (map number_of news)
page_numbered x counter to s None news enough = omega arith
page_numbered x counter to s (Some moves) [] enough = absurd (omega (arith, enough))
page_numbered x counter to s (Some moves) (n ∷ news) enough = omega arith

root_numbered : (x counter : ℕ) (to : To) (s : Planned) (m : Option (List Entry)) (news : List PageNo) → length news ≡ needs m + needs m
    → times x (numbers (settled_root counter to s m news)) ≡ times x (s.page.0 ∷ []) + times x (map number_of news)
root_numbered x counter to s None [] count = omega arith
root_numbered x counter to s None (n ∷ news) count = absurd (omega (arith, count))
root_numbered x counter to s (Some moves) [] count = absurd (omega (arith, count))
root_numbered x counter to s (Some moves) (q ∷ []) count = absurd (omega (arith, count))
root_numbered x counter to s (Some moves) (q ∷ n ∷ []) count = omega arith
root_numbered x counter to s (Some moves) (q ∷ n ∷ p ∷ news) count = absurd (omega (arith, count))

pub numbered : (fanout : ℕ) (b : Corners) (pages : List PathPage) (carry : Carry) (steps : List Planned) (counter : ℕ) (to : To) (news : List PageNo) → IsPlan fanout b pages carry steps → length news ≡ pages_needed steps
    → (x : ℕ) → times x (numbers (settled counter to steps news)) ≡ times x (page_numbers pages) + times x (map number_of news)
numbered fanout b [] carry [] counter to [] plan count x = omega arith
numbered fanout b [] carry [] counter to (n ∷ news) plan count x = absurd (omega (arith, count))
numbered fanout b [] carry (s ∷ steps) counter to news plan count x = absurd (let bad : ◌≡◌ {A = List Planned} (s ∷ steps) [] = plan in cc)
numbered fanout b (p ∷ pages) carry [] counter to news plan count x = absurd plan
numbered fanout b (p ∷ []) carry (s ∷ []) counter to news plan count x =
    let same : times x (s.page.0 ∷ []) ≡ times x (p.page.0 ∷ []) = ap (λ (n : PageNo). times x (n.0 ∷ [])) plan.0.page_is in
    let root = root_numbered x counter to s (moves_of s) news count in
    omega (arith, root, same)
numbered fanout b (p ∷ []) carry (s ∷ t ∷ steps) counter to news plan count x = absurd (let bad : ◌≡◌ {A = List Planned} (t ∷ steps) [] = plan.1 in cc)
numbered fanout b (p ∷ q ∷ pages) carry (s ∷ []) counter to news plan count x = absurd plan.1
numbered fanout b (p ∷ q ∷ pages) carry (s ∷ t ∷ steps) counter to news plan count x =
    let m = moves_of s in
    let same : times x (s.page.0 ∷ []) ≡ times x (p.page.0 ∷ []) = ap (λ (n : PageNo). times x (n.0 ∷ [])) plan.0.page_is in
    let here = page_numbered x counter to s (moves_of s) news (omega (arith, count)) in
    let rest = numbered fanout b (q ∷ pages) (carry_of b s) (t ∷ steps) (counter_after counter (moves_of s)) (known_after to (moves_of s) news) (news_after (moves_of s) news) plan.1 (left_after (moves_of s) news (pages_needed (t ∷ steps)) count) x in
    let first = settled_page counter to s (moves_of s) news in
    let others = settled (counter_after counter (moves_of s)) (known_after to (moves_of s) news) (t ∷ steps) (news_after (moves_of s) news) in
    let joined : times x (numbers (settled_page counter to s (moves_of s) news ++ settled (counter_after counter (moves_of s)) (known_after to (moves_of s) news) (t ∷ steps) (news_after (moves_of s) news)))
    ≡ times x (numbers (settled_page counter to s (moves_of s) news)) + times x (numbers (settled (counter_after counter (moves_of s)) (known_after to (moves_of s) news) (t ∷ steps) (news_after (moves_of s) news))) =
    ap (times x) (numbers-append first others) ∙ times-append x (numbers first) (numbers others) in
    omega (arith, same, here, rest, joined)

-- ---- entries

-- the parts have no more entries than the fan-out
abbrev pub AreFewParts : ℕ → List Entry → Option (List Entry) → Type 0
AreFewParts fanout stays None = length stays ≤ fanout
AreFewParts fanout stays (Some moves) = (length stays ≤ fanout) × (length moves ≤ fanout)

carried : (carry : Carry) (es : List Entry) → length (with_carry carry es) ≤ length es + 1
carried (Added b) es = let more = length-append es (new_entry b ∷ []) in omega (arith, more)
carried (Grown child b) es = let same = length-map es (widened (child.0 ∷ []) b) in omega (arith, same)
carried (Divided child left right) es =
    let same = length-map es (reboxed child.0 left) in
    let more = length-append (map (reboxed child.0 left) es) (new_entry right ∷ []) in
    omega (arith, same, more)

few_parts : (fanout : ℕ) → IsFanout fanout → (all stays : List Entry) (m : Option (List Entry)) → AreParted fanout all stays m → length all ≤ fanout + 1 → AreFewParts fanout stays m
few_parts fanout fan all stays None whole few = let same : length stays ≡ length all = ap length whole.stays_is in omega (arith, same, whole.few)
few_parts fanout fan all stays (Some moves) d few =
    let parts : AreParts 0 (least_fill fanout) all stays moves = parts_of 0 fanout all stays moves fan d in
    let joined : length (stays ++ moves) ≡ length all = length_permutation all (stays ++ moves) parts.division.all in
    let two = fill_some fanout in
    (omega (arith, joined, two, parts.left_fill, parts.right_fill, few, length-append stays moves), omega (arith, joined, two, parts.left_fill, parts.right_fill, few, length-append stays moves))

page_few : (fanout counter : ℕ) (to : To) (s : Planned) (m : Option (List Entry)) (news : List PageNo) → AreFewParts fanout s.stays.items m → (p : ℕ × Node) → Has (settled_page counter to s m news) p → length p.1.entries ≤ fanout
page_few fanout counter to s None news few p (inl same) = subst (λ (w : ℕ × Node). length w.1.entries ≤ fanout) same (let long = length-map s.stays.items (known to) in omega (arith, few, long))
page_few fanout counter to s None news few p (inr none) = absurd none
page_few fanout counter to s (Some moves) [] few p none = absurd none
page_few fanout counter to s (Some moves) (n ∷ news) few p (inl same) = subst (λ (w : ℕ × Node). length w.1.entries ≤ fanout) same (let long = length-map s.stays.items (known to) in omega (arith, few.0, long))
page_few fanout counter to s (Some moves) (n ∷ news) few p (inr (inl same)) = subst (λ (w : ℕ × Node). length w.1.entries ≤ fanout) same (let long = length-map moves (known to) in omega (arith, few.1, long))
page_few fanout counter to s (Some moves) (n ∷ news) few p (inr (inr none)) = absurd none

root_few : (fanout : ℕ) → IsFanout fanout → (counter : ℕ) (to : To) (s : Planned) (m : Option (List Entry)) (news : List PageNo) → AreFewParts fanout s.stays.items m → (p : ℕ × Node) → Has (settled_root counter to s m news) p → length p.1.entries ≤ fanout
root_few fanout fan counter to s None news few p (inl same) = subst (λ (w : ℕ × Node). length w.1.entries ≤ fanout) same (let long = length-map s.stays.items (known to) in omega (arith, few, long))
root_few fanout fan counter to s None news few p (inr none) = absurd none
root_few fanout fan counter to s (Some moves) [] few p none = absurd none
root_few fanout fan counter to s (Some moves) (q ∷ []) few p none = absurd none
root_few fanout fan counter to s (Some moves) (q ∷ n ∷ news) few p (inl same) = subst (λ (w : ℕ × Node). length w.1.entries ≤ fanout) same (let long = length-map s.stays.items (known to) in omega (arith, few.0, long))
root_few fanout fan counter to s (Some moves) (q ∷ n ∷ news) few p (inr (inl same)) = subst (λ (w : ℕ × Node). length w.1.entries ≤ fanout) same (let long = length-map moves (known to) in omega (arith, few.1, long))
root_few fanout fan counter to s (Some moves) (q ∷ n ∷ news) few p (inr (inr (inl same))) = subst (λ (w : ℕ × Node). length w.1.entries ≤ fanout) same (let low = fan.0 in omega (arith, low))
root_few fanout fan counter to s (Some moves) (q ∷ n ∷ news) few p (inr (inr (inr none))) = absurd none

pub few_settled : (fanout : ℕ) → IsFanout fanout → (b : Corners) (pages : List PathPage) (carry : Carry) (steps : List Planned) (counter : ℕ) (to : To) (news : List PageNo) → IsPlan fanout b pages carry steps
    → ((p : PathPage) → Has pages p → length p.entries.items ≤ fanout) → (w : ℕ × Node) → Has (settled counter to steps news) w → length w.1.entries ≤ fanout
few_settled fanout fan b [] carry [] counter to news plan few w has = absurd has
few_settled fanout fan b [] carry (s ∷ steps) counter to news plan few w has = absurd (let bad : ◌≡◌ {A = List Planned} (s ∷ steps) [] = plan in cc)
few_settled fanout fan b (p ∷ pages) carry [] counter to news plan few w has = absurd plan
few_settled fanout fan b (p ∷ []) carry (s ∷ []) counter to news plan few w has =
    let most : length (with_carry carry p.entries.items) ≤ fanout + 1 = (let one = carried carry p.entries.items in let low = few p (inl refl) in omega (arith, one, low)) in
    root_few fanout fan counter to s (moves_of s) news (few_parts fanout fan (with_carry carry p.entries.items) s.stays.items (moves_of s) plan.0.parts most) w has
few_settled fanout fan b (p ∷ []) carry (s ∷ t ∷ steps) counter to news plan few w has = absurd (let bad : ◌≡◌ {A = List Planned} (t ∷ steps) [] = plan.1 in cc)
few_settled fanout fan b (p ∷ q ∷ pages) carry (s ∷ []) counter to news plan few w has = absurd plan.1
few_settled fanout fan b (p ∷ q ∷ pages) carry (s ∷ t ∷ steps) counter to news plan few w has =
    let most : length (with_carry carry p.entries.items) ≤ fanout + 1 = (let one = carried carry p.entries.items in let low = few p (inl refl) in omega (arith, one, low)) in
    elim (Has-append (settled_page counter to s (moves_of s) news) (settled (counter_after counter (moves_of s)) (known_after to (moves_of s) news) (t ∷ steps) (news_after (moves_of s) news)) w has) [
      | inl here ↦ page_few fanout counter to s (moves_of s) news (few_parts fanout fan (with_carry carry p.entries.items) s.stays.items (moves_of s) plan.0.parts most) w here
      | inr above ↦ few_settled fanout fan b (q ∷ pages) (carry_of b s) (t ∷ steps) (counter_after counter (moves_of s)) (known_after to (moves_of s) news) (news_after (moves_of s) news) plan.1 (λ x h. few x (inr h)) w above
    ]
