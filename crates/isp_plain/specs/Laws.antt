-- What holds of the replies to all statements.
use Rattle.std.specs.Prelude.{◌≡◌, true, List}
use Rattle.isp_plain.specs.declared.statement.Statement.{Statement}
use Rattle.isp_plain.specs.Does.{does}
use Rattle.isp_plain.specs.Lined.{are_lined, is_lined_statement, is_one_line}
use Rattle.isp_plain.specs.Tables.{Table}
use Rattle.isp_plain.specs.Texts.{reply_text}

-- on tables without a line feed the reply's text is one line, and a statement that has none leaves such tables
abbrev pub RepliesAreLines : Type 0
RepliesAreLines =
    (tables : List Table) (statement : Statement) → are_lined tables ≡ true →
    (is_one_line (reply_text (does tables statement).reply) ≡ true) × (is_lined_statement statement ≡ true → are_lined (does tables statement).tables ≡ true)
