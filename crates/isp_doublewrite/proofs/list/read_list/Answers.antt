use Rattle.std.proofs.Common.{◌≡◌, ◌+◌, ◌*◌, ◌<◌, ◌∙◌, refl, length, arith}
use Rattle.isp_format.specs.Doublewrite.{most_copies}
use Rattle.isp_doublewrite.proofs.Numbered.{listed_number}
use Rattle.isp_doublewrite.proofs.list.read_list.Goals as goal

pub returns-clause-count : goal.returns-clause-count
returns-clause-count g c = λ tells.
    c.copy_numbers.ensures.count ∙ listed_number (g.W.World.image c.args.world.now) c.read.new.into 0 _ (c.in_ok-read.ensures.bytes tells) (omega arith) refl

pub returns-clause-numbers : goal.returns-clause-numbers
returns-clause-numbers g c = λ tells.
    let all : length c.copy_numbers.new.numbers ≡ most_copies = c.copy_numbers.ensures.all in
    record {
      all = all;
      each = λ k less.
          let small : k < most_copies = omega (arith, less, all) in
          c.copy_numbers.ensures.numbers k small ∙ listed_number (g.W.World.image c.args.world.now) c.read.new.into (4 + 4 * k) _ (c.in_ok-read.ensures.bytes tells) (omega (arith, small)) (omega arith);
    }
