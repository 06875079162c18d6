-- A plan is settled page by page: what stands on the lists so far, with what is to come.
use Rattle.std.proofs.Common.{◌≡◌, inl, ℕ, suc, ◌+◌, ◌*◌, ◌<◌, ◌≤◌, Option, Some, None, List, [], ◌∷◌, ◌++◌, length, length-append, map, reverse, drop, get_or, refl, sym, ◌∙◌, ap, subst, arith}
use Rattle.std.specs.Option.{option_map}
use Rattle.std.proofs.lemmas.List.{append_assoc, append-nil, drop_more, length-map, length-reverse, reverse-append}
use Rattle.isp_base.specs.Lists.{Has}
use Rattle.isp_base.specs.declared.page_no.PageNo.{PageNo}
use Rattle.isp_forest.specs.declared.entry.Entry.{Entry}
use Rattle.isp_forest.specs.declared.entry.To.{To}
use Rattle.isp_forest.specs.Steps.{entry_for}
use Rattle.isp_forest.specs.Tree.{Node, least}
use Rattle.isp_laws.proofs.ListLaws.{Has-append_left, Has-append_right}
use Rattle.isp_rnode.specs.Nodes.{link_of}
use Rattle.isp_rplan.specs.Divisions.{known_after, needs, news_after, pages_needed, stays_of}
use Rattle.isp_rplan.specs.Plans.{known, moves_of}
use Rattle.isp_rplan.specs.declared.steps.Moves.{Moves}
use Rattle.isp_rplan.specs.declared.steps.NodeHead.{NodeHead}
use Rattle.isp_rplan.specs.declared.steps.Planned.{Planned}
use Rattle.isp_rsettle.specs.declared.outcome.Parted.{Parted}
use Rattle.isp_rsettle.specs.declared.outcome.Raised.{Raised}
use Rattle.isp_rsettle.specs.declared.outcome.Settled.{Settled}
use Rattle.isp_rsettle.specs.Settling.{AreLow, AreSome, HaveSome, counter_after, node_with, nodes_of, part, part_page, part_root, parts, raised, raised_root, left_page, raised_page, right_page, settled, settled_page, settled_root, written}

abbrev written_node : Settled → ℕ × Node
written_node w = written w

-- what was settled of all steps when these are left, which are given from the root down, with room for what comes of them
pub record OnWay (all : List Planned) (news : List PageNo) (counter : ℕ) (to : To) (steps : List Planned) (now : ℕ) (leads : To) (taken : ℕ) (written : List Settled) (told : List Parted) (most_written most_told : ℕ) : Type 0 where
  pub writes : nodes_of written ++ settled now leads (reverse steps) (drop taken news) ≡ settled counter to (reverse all) news
  pub tells : told ++ parts (reverse steps) (drop taken news) ≡ parts (reverse all) news
  pub raises : raised (reverse steps) (drop taken news) ≡ raised (reverse all) news
  pub enough : pages_needed (reverse steps) + taken ≤ length news
  pub counts : now + length steps ≤ counter + length all
  pub low : AreLow steps
  pub some : HaveSome steps
  pub room : length written + 2 * length steps + 1 ≤ most_written
  pub room_told : length told + length steps ≤ most_told

pub begins : (all : List Planned) (news : List PageNo) (counter : ℕ) (to : To) (written : List Settled) (told : List Parted) (most_written most_told : ℕ)
    → pages_needed (reverse all) ≤ length news → AreLow all → HaveSome all → written ≡ [] → told ≡ [] → 2 * length all + 1 ≤ most_written → length all ≤ most_told
    → OnWay all news counter to all counter to 0 written told most_written most_told
begins all news counter to [] [] most_written most_told enough low some no_writes no_parts room room_told = record {
  writes = refl;
  tells = refl;
  raises = refl;
  enough = omega (arith, enough);
  counts = omega arith;
  low = low;
  some = some;
  room = omega (arith, room);
  room_told = omega (arith, room_told);
}
begins all news counter to (w ∷ written) told most_written most_told enough low some no_writes no_parts room room_told = absurd (let bad : ◌≡◌ {A = List Settled} (w ∷ written) [] = no_writes in cc)
begins all news counter to [] (p ∷ told) most_written most_told enough low some no_writes no_parts room room_told = absurd (let bad : ◌≡◌ {A = List Parted} (p ∷ told) [] = no_parts in cc)

-- ---- one page below the root

settled_on : (counter : ℕ) (to : To) (s : Planned) (rest : List Planned) (news : List PageNo) → 0 < length rest
    → settled counter to (s ∷ rest) news ≡ settled_page counter to s (moves_of s) news ++ settled (counter_after counter (moves_of s)) (known_after to (moves_of s) news) rest (news_after (moves_of s) news)
settled_on counter to s [] news more = absurd (omega (arith, more))
settled_on counter to s (t ∷ rest) news more = refl

parts_on : (s : Planned) (rest : List Planned) (news : List PageNo) → 0 < length rest → parts (s ∷ rest) news ≡ part_page s (moves_of s) news ++ parts rest (news_after (moves_of s) news)
parts_on s [] news more = absurd (omega (arith, more))
parts_on s (t ∷ rest) news more = refl

raised_on : (s : Planned) (rest : List Planned) (news : List PageNo) → 0 < length rest → raised (s ∷ rest) news ≡ raised rest (news_after (moves_of s) news)
raised_on s [] news more = absurd (omega (arith, more))
raised_on s (t ∷ rest) news more = refl

needed_on : (s : Planned) (rest : List Planned) → 0 < length rest → pages_needed (s ∷ rest) ≡ needs (moves_of s) + pages_needed rest
needed_on s [] more = absurd (omega (arith, more))
needed_on s (t ∷ rest) more = refl

two_at_most : (counter : ℕ) (to : To) (s : Planned) (m : Option (List Entry)) (news : List PageNo) → length (settled_page counter to s m news) ≤ 2
two_at_most counter to s None news = omega arith
two_at_most counter to s (Some moves) [] = omega arith
two_at_most counter to s (Some moves) (n ∷ news) = omega arith

one_at_most : (s : Planned) (m : Option (List Entry)) (news : List PageNo) → length (part_page s m news) ≤ 1
one_at_most s None news = omega arith
one_at_most s (Some moves) [] = omega arith
one_at_most s (Some moves) (n ∷ news) = omega arith

counted_one : (counter : ℕ) (m : Option (List Entry)) → counter_after counter m ≤ counter + 1
counted_one counter None = omega arith
counted_one counter (Some moves) = omega arith

-- the last of the steps is taken, and others are left
module _ (all : List Planned) (news : List PageNo) (counter : ℕ) (to : To) (steps rest : List Planned) (s : Planned) (now : ℕ) (leads : To) (taken : ℕ) (written : List Settled) (told : List Parted) (most_written most_told : ℕ)
    (popped : steps ≡ rest ++ s ∷ []) (way : OnWay all news counter to steps now leads taken written told most_written most_told) where
  turned : reverse steps ≡ s ∷ reverse rest
  turned = ap reverse popped ∙ reverse-append rest (s ∷ [])

  longer : length steps ≡ length rest + 1
  longer = ap length popped ∙ length-append rest (s ∷ [])

  more_left : 0 < length rest → 0 < length (reverse rest)
  more_left more = let same = length-reverse rest in omega (arith, more, same)

  is_among : Has steps s
  is_among = subst (λ (l : List Planned). Has l s) (sym popped) (Has-append_right rest (s ∷ []) s (inl refl))

  pub page_enough : 0 < length rest → taken + needs (moves_of s) ≤ length news
  page_enough more =
      let all_of : pages_needed (reverse steps) ≡ needs (moves_of s) + pages_needed (reverse rest) = ap pages_needed turned ∙ needed_on s (reverse rest) (more_left more) in
      omega (arith, all_of, way.enough)

  pub page_number : counter + length all < 18446744073709551616 → now + 1 < 18446744073709551616
  page_number low = omega (arith, low, way.counts, longer)

  pub page_some : AreSome s.stays.items (moves_of s)
  page_some = way.some s is_among

  pub page_low : s.head.level < 255
  page_low = way.low s is_among

  pub page_room : length written + 2 ≤ most_written
  page_room = omega (arith, way.room, longer)

  pub page_parts : length told + 1 ≤ most_told
  page_parts = omega (arith, way.room_told, longer)

  pub goes_on : (now' : ℕ) (leads' : To) (taken' : ℕ) (written' : List Settled) (told' : List Parted) (most_written' most_told' : ℕ) → 0 < length rest
      → nodes_of written' ≡ nodes_of written ++ settled_page now leads s (moves_of s) (drop taken news)
      → told' ≡ told ++ part_page s (moves_of s) (drop taken news)
      → now' ≡ counter_after now (moves_of s) → leads' ≡ known_after leads (moves_of s) (drop taken news) → taken' ≡ taken + needs (moves_of s)
      → drop taken' news ≡ news_after (moves_of s) (drop taken news)
      → most_written' ≡ most_written → most_told' ≡ most_told
      → OnWay all news counter to rest now' leads' taken' written' told' most_written' most_told'
  goes_on now' leads' taken' written' told' most_written' most_told' more wrote told_more now_is leads_is taken_is left_is same_room same_parts = record {
    writes =
        (λ i. wrote i ++ settled (now_is i) (leads_is i) (reverse rest) (left_is i))
        ∙ append_assoc (nodes_of written) (settled_page now leads s (moves_of s) (drop taken news)) (settled (counter_after now (moves_of s)) (known_after leads (moves_of s) (drop taken news)) (reverse rest) (news_after (moves_of s) (drop taken news)))
        ∙ ap (λ (l : List (ℕ × Node)). nodes_of written ++ l) (sym (settled_on now leads s (reverse rest) (drop taken news) (more_left more)) ∙ ap (λ (l : List Planned). settled now leads l (drop taken news)) (sym turned))
        ∙ way.writes;
    tells =
        (λ i. told_more i ++ parts (reverse rest) (left_is i))
        ∙ append_assoc told (part_page s (moves_of s) (drop taken news)) (parts (reverse rest) (news_after (moves_of s) (drop taken news)))
        ∙ ap (λ (l : List Parted). told ++ l) (sym (parts_on s (reverse rest) (drop taken news) (more_left more)) ∙ ap (λ (l : List Planned). parts l (drop taken news)) (sym turned))
        ∙ way.tells;
    raises =
        ap (raised (reverse rest)) left_is
        ∙ sym (raised_on s (reverse rest) (drop taken news) (more_left more)) ∙ ap (λ (l : List Planned). raised l (drop taken news)) (sym turned)
        ∙ way.raises;
    enough =
        let all_of : pages_needed (reverse steps) ≡ needs (moves_of s) + pages_needed (reverse rest) = ap pages_needed turned ∙ needed_on s (reverse rest) (more_left more) in
        omega (arith, all_of, way.enough, taken_is);
    counts = let one = counted_one now (moves_of s) in omega (arith, way.counts, longer, one, now_is);
    low = λ x h. way.low x (subst (λ (l : List Planned). Has l x) (sym popped) (Has-append_left rest (s ∷ []) x h));
    some = λ x h. way.some x (subst (λ (l : List Planned). Has l x) (sym popped) (Has-append_left rest (s ∷ []) x h));
    room =
        let old : length (nodes_of written) ≡ length written = length-map written _ in
        let new : length (nodes_of written') ≡ length written' = length-map written' _ in
        let joined : length (nodes_of written') ≡ length (nodes_of written) + length (settled_page now leads s (moves_of s) (drop taken news)) = ap length wrote ∙ length-append (nodes_of written) (settled_page now leads s (moves_of s) (drop taken news)) in
        let two = two_at_most now leads s (moves_of s) (drop taken news) in
        omega (arith, old, new, joined, two, way.room, longer, same_room);
    room_told =
        let joined : length told' ≡ length told + length (part_page s (moves_of s) (drop taken news)) = ap length told_more ∙ length-append told (part_page s (moves_of s) (drop taken news)) in
        let one = one_at_most s (moves_of s) (drop taken news) in
        omega (arith, joined, one, way.room_told, longer, same_parts);
  }

  -- ---- the root

  alone : (l : List Planned) → length l ≡ 0 → l ≡ []
  alone [] none = refl
  alone (x ∷ l) none = absurd (omega (arith, none))

  is_root : length rest ≡ 0 → reverse steps ≡ s ∷ []
  is_root none = turned ∙ ap (λ (l : List Planned). s ∷ reverse l) (alone rest none)

  pub root_enough : length rest ≡ 0 → taken + (needs (moves_of s) + needs (moves_of s)) ≤ length news
  root_enough none = let all_of : pages_needed (reverse steps) ≡ needs (moves_of s) + needs (moves_of s) = ap pages_needed (is_root none) in omega (arith, all_of, way.enough)

  pub root_room : length written + 3 ≤ most_written
  root_room = omega (arith, way.room, longer)

  pub root_writes : length rest ≡ 0 → (written' : List Settled) → nodes_of written' ≡ nodes_of written ++ settled_root now leads s (moves_of s) (drop taken news) → nodes_of written' ≡ settled counter to (reverse all) news
  root_writes none written' wrote = wrote ∙ ap (λ (l : List Planned). nodes_of written ++ settled now leads l (drop taken news)) (sym (is_root none)) ∙ way.writes

  pub root_parts : length rest ≡ 0 → (told' : List Parted) → told' ≡ told ++ part_root s (moves_of s) (drop taken news) → told' ≡ parts (reverse all) news
  root_parts none told' told_more = told_more ∙ ap (λ (l : List Planned). told ++ parts l (drop taken news)) (sym (is_root none)) ∙ way.tells

  pub root_raised : length rest ≡ 0 → (r : Option Raised) → r ≡ raised_root s.moves (drop taken news) → r ≡ raised (reverse all) news
  root_raised none r is = is ∙ ap (λ (l : List Planned). raised l (drop taken news)) (sym (is_root none)) ∙ way.raises

-- ---- the root is divided

pub three_more : (written two three four : List Settled) (a b c : Settled) → two ≡ written ++ a ∷ [] → three ≡ two ++ b ∷ [] → four ≡ three ++ c ∷ [] → nodes_of four ≡ nodes_of written ++ written_node a ∷ written_node b ∷ written_node c ∷ []
three_more written two three four a b c is_two is_three is_four =
    ap nodes_of (is_four ∙ ap (λ (l : List Settled). l ++ c ∷ []) (is_three ∙ ap (λ (l : List Settled). l ++ b ∷ []) is_two)) ∙ joined written
  where
    joined : (l : List Settled) → nodes_of (((l ++ a ∷ []) ++ b ∷ []) ++ c ∷ []) ≡ nodes_of l ++ written_node a ∷ written_node b ∷ written_node c ∷ []
    joined [] = refl
    joined (x ∷ l) = ap (λ (ns : List (ℕ × Node)). written_node x ∷ ns) (joined l)

pub root_divided : (counter : ℕ) (to : To) (s : Planned) (m : Moves) (news left : List PageNo) (q n : PageNo) → s.moves ≡ Some m → news ≡ q ∷ n ∷ left
    → settled_root counter to s (moves_of s) news ≡ (q.0, left_page counter to s n) ∷ (n.0, record (right_page to s m.entries.items) { ssn = counter }) ∷ (s.page.0, raised_page counter s m.entries.items q n) ∷ []
root_divided counter to s m news left q n divided is = λ i. settled_root counter to s (option_map (λ (m : Moves). m.entries.items) (divided i)) (is i)

-- the three pages that are pushed are those
pub root_list : (counter : ℕ) (to : To) (s : Planned) (m : Moves) (q n : PageNo) (left old top : NodeHead) (stays moves root : List Entry) (two : Parted)
    → left ≡ record { level = s.head.level; ssn = counter + 1; next = n } → old ≡ record { level = s.head.level; ssn = counter; next = s.head.next }
    → top ≡ record { level = s.head.level + 1; ssn = counter + 1; next = record { 0 = 0 } }
    → stays ≡ map (known to) s.stays.items → moves ≡ map (known to) m.entries.items → two ≡ part q s m.entries.items n → root ≡ entry_for two.old_box two.old.0 ∷ entry_for two.new_box two.new.0 ∷ []
    → ◌≡◌ {A = List (ℕ × Node)} ((q.0, node_with left stays) ∷ (n.0, node_with old moves) ∷ (s.page.0, node_with top root) ∷ [])
    ((q.0, left_page counter to s n) ∷ (n.0, record (right_page to s m.entries.items) { ssn = counter }) ∷ (s.page.0, raised_page counter s m.entries.items q n) ∷ [])
root_list counter to s m q n left old top stays moves root two left_is old_is top_is stays_is moves_is two_is root_is =
    let next : counter + 1 ≡ suc counter = omega arith in
    let up : s.head.level + 1 ≡ suc s.head.level = omega arith in
    (λ i. (q.0, node_with (left_is i) (stays_is i)) ∷ (n.0, node_with (old_is i) (moves_is i)) ∷ (s.page.0, node_with (top_is i) ((root_is ∙ ap (λ (p : Parted). entry_for p.old_box p.old.0 ∷ entry_for p.new_box p.new.0 ∷ []) two_is) i)) ∷ [])
    ∙ (λ i. (q.0, record { level = s.head.level; ssn = next i; next = link_of n.0; entries = stays_of to s })
    ∷ (n.0, record (right_page to s m.entries.items) { ssn = counter })
    ∷ (s.page.0, record { level = up i; ssn = next i; next = None; entries = entry_for (least s.stays.items) q.0 ∷ entry_for (least m.entries.items) n.0 ∷ [] }) ∷ [])

pub two_pages : (news : List PageNo) (taken : ℕ) (d e : PageNo) → taken + 2 ≤ length news → drop taken news ≡ get_or news taken d ∷ get_or news (taken + 1) e ∷ drop (taken + 1 + 1) news
two_pages news taken d e enough = drop_more news taken d (omega (arith, enough)) ∙ ap (λ (l : List PageNo). get_or news taken d ∷ l) (drop_more news (taken + 1) e (omega (arith, enough)))

-- ---- nothing is left

pub ends : (all : List Planned) (news : List PageNo) (counter : ℕ) (to : To) (steps : List Planned) (now : ℕ) (leads : To) (taken : ℕ) (written : List Settled) (told : List Parted) (most_written most_told : ℕ)
    → length steps ≡ 0 → OnWay all news counter to steps now leads taken written told most_written most_told
    → (nodes_of written ≡ settled counter to (reverse all) news) × (◌≡◌ {A = Option Raised} None (raised (reverse all) news)) × (told ≡ parts (reverse all) news)
ends all news counter to [] now leads taken written told most_written most_told none way =
    (sym (append-nil (nodes_of written)) ∙ way.writes, way.raises, sym (append-nil told) ∙ way.tells)
ends all news counter to (s ∷ steps) now leads taken written told most_written most_told none way = absurd (omega (arith, none))
