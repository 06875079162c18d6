use Rattle.std.proofs.Common.{◌∙◌, Some}
use Rattle.isp_image.specs.Databases.{row_key}
use Rattle.isp_image.specs.Keyed.{found}
use Rattle.isp_image.proofs.KeyedLaws.{placed_back, placed_twice}
use Rattle.isp_image.proofs.laws.law_set_back_is_old.Goals as goal

pub returns : goal.returns
returns c = λ key row rows at rises. placed_twice row_key key (found row_key key rows) (Some row) rows at rises ∙ placed_back row_key key rows
