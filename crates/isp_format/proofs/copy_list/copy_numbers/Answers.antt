use Rattle.std.proofs.Common.{◌≡◌, length, ◌∙◌, arith}
use Rattle.isp_format.specs.Doublewrite.{most_copies}
use Rattle.isp_format.proofs.Listing.{listed_number}
use Rattle.isp_format.proofs.copy_list.copy_numbers.Goals as goal

pub returns-clause-numbers : goal.returns-clause-numbers
returns-clause-numbers c = λ k less.
    let all : length c.read_u32_into.new.dst ≡ most_copies = omega (arith, c.read_u32_into.auto.dst, c.requires.all) in
    c.read_u32_into.ensures k (omega (arith, less, all)) ∙ listed_number c.args.list.now k less
