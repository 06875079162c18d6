use Rattle.isp_event_examples.proofs.LanguageLaws.{language_fits}
use Rattle.isp_event_examples.proofs.worked.law_language_fits.Goals as goal

pub returns : goal.returns
returns c = language_fits
