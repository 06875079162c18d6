use Rattle.std.proofs.Common.{◌≡◌, ℕ, min, refl, sym, ◌∙◌, ap, subst, take, List}
use Rattle.isp_disk.proofs.PhaseLaws.{reads_phase}
use Rattle.isp_disk.specs.Moments.{Image}
use Rattle.isp_doublewrite.specs.Lists.{IsNumbers, is_copy_list}
use Rattle.isp_doublewrite.proofs.Numbered.{rule_back, rule_means}
use Rattle.isp_format.specs.Doublewrite.{copy_count, doublewrite_gate}
use Rattle.isp_doublewrite.proofs.list.check_copies.Goals as goal

pub returns-clause-kept : goal.returns-clause-kept
returns-clause-kept g c = λ tells.
    let w = g.W.World in
    let old = c.args.world.now in
    let before : Image = w.image old in
    let first = reads_phase w old c.read_gate.new.world _ c.in_ok-read_gate.ensures.reads in
    let mid = c.read_gate.new.world in
    let same : w.image mid ≡ before = λ i place. sym (first.agrees place refl) i in
    let gate : before doublewrite_gate ≡ 1 = sym (c.in_ok-read_gate.ensures.gate tells) ∙ c.if-branch-ne1.false in
    let numbers : List ℕ = c.read_list.new.numbers in
    let all : IsNumbers before numbers = subst (λ (im : Image). IsNumbers im numbers) same (c.in_ok-count.ensures.numbers tells) in
    let count : c.in_ok-count.count ≡ copy_count before = c.in_ok-count.ensures.count tells ∙ ap copy_count same in
    let tests : c.is_copy_list.result ≡ is_copy_list c.args.pages (copy_count before) (take (min (copy_count before) 64) numbers) = c.is_copy_list.ensures ∙ (λ i. is_copy_list c.args.pages (count i) (take (min (count i) 64) numbers)) in
    ((λ yes. rule_means c.args.pages before numbers gate all (sym tests ∙ yes)), (λ has. tests ∙ rule_back c.args.pages before numbers gate all has))
