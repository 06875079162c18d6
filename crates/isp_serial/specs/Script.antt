-- The texts that a script gives its setup, which is session 0, and its sessions.
use Rattle.std.specs.Prelude.{ℕ, ◌-◌, ◌+◌, ◌==◌, List, length, slice_get, if◌then◌else◌, Option, Some, None}
use Rattle.std.specs.List.{find}
use Rattle.std.specs.Option.{option_map, option_and_then}
use Rattle.isp_serial.specs.declared.script.Script.{Script}

abbrev pub texts_of : Script → ℕ → Option (List (List ℕ))
texts_of script session =
    if session == 0 then Some script.setup
    else option_map (λ s. s.texts) (find (λ s. s.number == session) script.sessions)

-- the text of a session's statement, numbered from 1
abbrev pub text_in : List (List ℕ) → ℕ → Option (List ℕ)
text_in texts number = if number == 0 then None else slice_get texts (number - 1)

abbrev pub text_at : Script → ℕ → ℕ → Option (List ℕ)
text_at script session number = option_and_then (λ texts. text_in texts number) (texts_of script session)

-- how many answers a session gives that runs to its end: each session one more than it has texts, and the setup none
abbrev pub answers_due : ℕ → List (List ℕ) → ℕ
answers_due session texts = if session == 0 then length texts else length texts + 1
