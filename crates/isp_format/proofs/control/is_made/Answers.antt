use Rattle.std.proofs.Common.{◌≡◌, ℕ, true, false, List, take, sym, ◌∙◌, arith}
use Rattle.std.specs.Cmp.Lexicographic.{other_text, same_text}
use Rattle.std.proofs.lemmas.Bool.Decides.{nat_tests}
use Rattle.isp_disk.specs.Moments.{image_of, slice}
use Rattle.isp_format.specs.Control.{file_name}
use Rattle.isp_format.proofs.Slices.{piece_slice}
use Rattle.isp_format.proofs.control.is_made.Goals as goal

pub returns-then-eq : goal.returns-then-eq
unfolding file_name
returns-then-eq c =
    let block : List ℕ = c.args.block.now in
    let front : take 8 block ≡ slice (image_of block) 0 8 = piece_slice block 0 8 (omega (arith, c.told-block)) in
    let named : slice (image_of block) 0 8 ≡ file_name = sym front ∙ same_text (take 8 block) c.as_slice.result.now (sym c.if-eq.true ∙ c.eq.ensures) ∙ c.as_slice.ensures in
    ((λ opened. (named, grind (arith, nat_tests, opened))), (λ made. let gate = made.1 in grind (arith, nat_tests, gate)))

pub returns-else-eq : goal.returns-else-eq
unfolding file_name
returns-else-eq c =
    let block : List ℕ = c.args.block.now in
    let front : take 8 block ≡ slice (image_of block) 0 8 = piece_slice block 0 8 (omega (arith, c.told-block)) in
    let fails : (false ≡ true) → ⊥ = λ e. absurd (cc) in
    ((λ is. absurd (fails (sym c.if-eq.false ∙ is))), (λ made. absurd (other_text (take 8 block) c.as_slice.result.now (sym c.if-eq.false ∙ c.eq.ensures) (front ∙ made.0 ∙ sym c.as_slice.ensures))))
