use Rattle.std.proofs.Common.{◌∙◌}
use Rattle.isp_disk.specs.Moments.{image_of}
use Rattle.isp_page.proofs.Making.{first_more, none_behind}
use Rattle.isp_page.proofs.mem_pages.put_first_page.Goals as goal

pub returns-clause-before : goal.returns-clause-before
returns-clause-before c = λ place low.
    c.put_over.ensures.put place
    ∙ first_more (image_of c.args.bytes.now.items) c.args.page c.first_page-first.result.bytes c.first_page-first.ensures.size c.requires.before c.first_page-first.ensures.bytes place low

pub returns-clause-behind : goal.returns-clause-behind
returns-clause-behind c = λ place behind.
    c.put_over.ensures.put place
    ∙ none_behind (image_of c.args.bytes.now.items) c.args.page c.first_page-first.result.bytes c.first_page-first.ensures.size c.requires.behind place behind
