-- What the words ask for.
use Rattle.std.specs.Prelude.{ℕ, Option, Some, None}
use Rattle.isp_words.specs.declared.Command.{Command}
use Rattle.isp_words.specs.declared.Command.TheVariants as commands

-- the words are a `make`, and of its pages and fan-out this is so; or they are none
abbrev pub OnMake : Option Command → (ℕ → ℕ → Type 0) → Type 0
OnMake (Some (commands.Make pages fanout)) P = P pages fanout
OnMake (Some (commands.Run frames)) P = Unit {0}
OnMake None P = Unit {0}

-- the words are a `run`, and this is so; or they are none
abbrev pub OnRun : Option Command → Type 0 → Type 0
OnRun (Some (commands.Run frames)) P = P
OnRun (Some (commands.Make pages fanout)) P = Unit {0}
OnRun None P = Unit {0}
