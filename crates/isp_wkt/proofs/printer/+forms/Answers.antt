use Rattle.std.proofs.Common.{rules, append_assoc}
use Rattle.isp_wkt.proofs.Texts.{text-members}
use Rattle.isp_wkt.proofs.printer.+forms.Goals as goal

pub print_form-returns-in_ok-print_members-in-Collection : goal.print_form-returns-in_ok-print_members-in-Collection
print_form-returns-in_ok-print_members-in-Collection t c = search (rules, append_assoc, text-members)
