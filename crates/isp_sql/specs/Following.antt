-- Members behind those that were found.
use Rattle.std.specs.Prelude.{List, ◌++◌, Some}
use Rattle.isp_tokens.specs.OneToken.{◌>>=◌, Outcome}

-- what was found before, and what is still read
abbrev pub with_front : {X : Type 0} → List X → Outcome (List X) → Outcome (List X)
with_front front read = read >>= λ x. Some (front ++ x.0, x.1)
