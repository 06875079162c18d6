-- There is one plan.
use Rattle.std.proofs.Common.{◌≡◌, ℕ, Option, Some, None, List, [], ◌∷◌, map, refl, sym, ◌∙◌, ap, subst, arith}
use Rattle.std.specs.Option.{option_map}
use Rattle.isp_mbr.specs.Corners.{Corners}
use Rattle.isp_forest.specs.declared.entry.Entry.{Entry}
use Rattle.isp_laws.specs.DivisionLaws.{boxes_of, picked}
use Rattle.isp_laws.proofs.OneLaws.{one_division}
use Rattle.isp_rplan.specs.Divisions.{Made, made_of, round_of}
use Rattle.isp_rplan.specs.Plans.{AreParted, AreRound, IsPlan, IsPlanned, carry_of, carry_up, least_fill, moves_of, with_carry}
use Rattle.isp_rplan.specs.declared.steps.Carry.{Carry}
use Rattle.isp_rplan.specs.declared.steps.Moves.{Moves}
use Rattle.isp_rplan.specs.declared.steps.PathPage.{PathPage}
use Rattle.isp_rplan.specs.declared.steps.Planned.{Planned}

one_parting : (fanout : ℕ) (all stays other : List Entry) (moves others : Option (List Entry)) → AreParted fanout all stays moves → AreParted fanout all other others → (stays ≡ other) × (moves ≡ others)
one_parting fanout all stays other None None one two = (one.stays_is ∙ sym two.stays_is, refl)
one_parting fanout all stays other None (Some others) one two = absurd (omega (arith, one.few, two.over))
one_parting fanout all stays other (Some moves) None one two = absurd (omega (arith, one.over, two.few))
one_parting fanout all stays other (Some moves) (Some others) one two =
    let same = one_division (boxes_of all) (least_fill fanout) one.first one.second two.first two.second one.division two.division in
    (one.stays_is ∙ ap (picked all) same.0 ∙ sym two.stays_is, ap Some (one.moves_is ∙ ap (picked all) same.1 ∙ sym two.moves_is))

one_round : (all : List Entry) (moves others : Option Moves) → option_map (λ (m : Moves). m.entries.items) moves ≡ option_map (λ (m : Moves). m.entries.items) others → AreRound all moves → AreRound all others → round_of moves ≡ round_of others
one_round all None None same one two = refl
one_round all None (Some others) same one two = cc
one_round all (Some moves) None same one two = cc
one_round all (Some moves) (Some others) same one two = ap Some (one ∙ sym two)

one_step : (fanout : ℕ) (page : PathPage) (carry : Carry) (s t : Planned) → IsPlanned fanout page carry s → IsPlanned fanout page carry t → made_of s ≡ made_of t
one_step fanout page carry s t one two =
    let all = with_carry carry page.entries.items in
    let parts = one_parting fanout all s.stays.items t.stays.items (moves_of s) (moves_of t) one.parts two.parts in
    let same_page : s.page ≡ t.page = one.page_is ∙ sym two.page_is in
    let same_head : s.head ≡ t.head = one.head_is ∙ sym two.head_is in
    let same_round : round_of s.moves ≡ round_of t.moves = one_round all s.moves t.moves parts.1 one.round two.round in
    λ i. record { page = same_page i; head = same_head i; stays = parts.0 i; moves = parts.1 i; round = same_round i }

pub one_plan : (fanout : ℕ) (b : Corners) (pages : List PathPage) (carry : Carry) (steps other : List Planned) → IsPlan fanout b pages carry steps → IsPlan fanout b pages carry other → map made_of steps ≡ map made_of other
one_plan fanout b [] carry steps other one two = ap (map made_of) (one ∙ sym two)
one_plan fanout b (page ∷ pages) carry [] other one two = absurd one
one_plan fanout b (page ∷ pages) carry (s ∷ steps) [] one two = absurd two
one_plan fanout b (page ∷ pages) carry (s ∷ steps) (t ∷ other) one two =
    let same : made_of s ≡ made_of t = one_step fanout page carry s t one.0 two.0 in
    let up : carry_of b s ≡ carry_of b t = ap (λ (m : Made). carry_up b m.page m.stays m.moves) same in
    ap (λ (m : Made). m ∷ map made_of steps) same
    ∙ ap (λ (ms : List Made). made_of t ∷ ms) (one_plan fanout b pages (carry_of b t) steps other (subst (λ (c : Carry). IsPlan fanout b pages c steps) up one.1) two.1)
