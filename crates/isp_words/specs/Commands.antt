-- The words of the command line: the commands that they ask for.
use Rattle.std.specs.Prelude.{ℕ, ◌&&◌, Bool, List, [], ◌∷◌, Option, Some, None, codes, length, nat_le, nat_lt, if◌then◌else◌}
use Rattle.std.specs.Option.{option_and_then}
use Rattle.std.specs.Char.{is_ascii_digit}
use Rattle.std.specs.List.{list_all}
use Rattle.std.specs.Str.{bytes_eq}
use Rattle.std.specs.Str.Parse.{digits_value}
use Rattle.isp_format.specs.Control.{least_fanout, least_pages, most_fanout, most_pages}
use Rattle.isp_words.specs.declared.Command.{Command}
use Rattle.isp_words.specs.declared.Command.TheVariants as commands

unfoldable pub make_word : List ℕ
make_word = codes "make"

unfoldable pub run_word : List ℕ
run_word = codes "run"

unfoldable pub pages_option : List ℕ
pages_option = codes "--pages"

unfoldable pub fanout_option : List ℕ
fanout_option = codes "--fanout"

unfoldable pub frames_option : List ℕ
frames_option = codes "--frames"

-- a word of one to ten decimal digits
abbrev pub is_count : List ℕ → Bool
is_count word = nat_lt 0 (length word) && nat_le (length word) 10 && list_all is_ascii_digit word

-- the number that a word writes, where it is no less than the first and no more than the second
abbrev pub number_in : ℕ → ℕ → List ℕ → Option ℕ
number_in least most word = if is_count word && nat_le least (digits_value 10 word) && nat_le (digits_value 10 word) most
    then Some (digits_value 10 word) else None

-- `--pages N --fanout M`
abbrev pub made_of : List ℕ → List ℕ → List ℕ → List ℕ → Option Command
made_of option pages other fanout = if bytes_eq option pages_option && bytes_eq other fanout_option
    then option_and_then (λ n. option_and_then (λ m. Some (commands.Make n m)) (number_in least_fanout most_fanout fanout)) (number_in least_pages most_pages pages)
    else None

-- how many pages a `run` may hold in memory
abbrev pub least_frames : ℕ
least_frames = 64

abbrev pub most_frames : ℕ
most_frames = 4096

-- `--frames F`
abbrev pub framed_of : List ℕ → List ℕ → Option Command
framed_of option frames = if bytes_eq option frames_option
    then option_and_then (λ f. Some (commands.Run f)) (number_in least_frames most_frames frames)
    else None

-- the options of `make`
abbrev pub make_of : List (List ℕ) → Option Command
make_of [] = None
make_of (option ∷ []) = None
make_of (option ∷ pages ∷ []) = None
make_of (option ∷ pages ∷ other ∷ []) = None
make_of (option ∷ pages ∷ other ∷ fanout ∷ []) = made_of option pages other fanout
make_of (option ∷ pages ∷ other ∷ fanout ∷ more ∷ others) = None

-- the options of `run`
abbrev pub run_of : List (List ℕ) → Option Command
run_of [] = Some (commands.Run 256)
run_of (option ∷ []) = None
run_of (option ∷ frames ∷ []) = framed_of option frames
run_of (option ∷ frames ∷ more ∷ others) = None

-- a command with its options
abbrev pub asked : List ℕ → List (List ℕ) → Option Command
asked command options = if bytes_eq command make_word then make_of options
    else if bytes_eq command run_word then run_of options else None

-- the command that words ask for: a file's name, the command, its options
abbrev pub command_of : List (List ℕ) → Option Command
command_of [] = None
command_of (file ∷ []) = None
command_of (file ∷ command ∷ options) = asked command options
