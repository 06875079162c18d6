-- What the words ask for, and what a run of them may end with.
use Rattle.std.proofs.Common.{◌≡◌, inl, inr, ◌≤◌, ◌&&◌, ℕ, refl, subst, Bool, true, false, List, [], ◌∷◌, Option, Some, None, arith, if◌then◌else◌}
use Rattle.std.specs.Prelude.{nat_le}
use Rattle.std.specs.Option.{option_and_then}
use Rattle.std.specs.Str.{bytes_eq}
use Rattle.std.specs.Str.Parse.{digits_value}
use Rattle.std.proofs.lemmas.Bool.Decides.{nat_tests}
use Rattle.isp_disk.specs.Moments.{Image}
use Rattle.isp_disk.specs.Outside.{Rose}
use Rattle.isp_format.specs.Control.{IsFanout, IsPages, made_gate}
use Rattle.isp_chained.specs.Chained.{IsKeptFile}
use Rattle.isp_plain.specs.Tables.{Table}
use Rattle.isp_script.specs.BadLines.{IsBadLine}
use Rattle.isp_words.specs.Commands.{command_of, fanout_option, frames_option, is_count, make_of, make_word, number_in, pages_option, run_of, run_word}
use Rattle.isp_words.specs.declared.Command.{Command}
use Rattle.isp_words.specs.declared.Command.TheVariants as commands
use Rattle.isp_run.specs.Asking.{OnMake, OnRun}
use Rattle.isp_run.specs.Causes.{CountsAt}
use Rattle.isp_run.specs.Files.{IsDamage, IsRunStatus}
use Rattle.isp_run.specs.Ran.{IsDue}
use Rattle.isp_run.specs.Reading.{HasScript}
use Rattle.isp_run.specs.declared.status.Status.{Status}
use Rattle.isp_run.specs.declared.status.Status.TheVariants as status
use Rattle.isp_run.proofs.RunLaws.{not_bad}
use Rattle.isp_run.proofs.StartLaws.{never_broken}

-- ---- the words

abbrev InRange : ℕ → ℕ → Option ℕ → Type 0
InRange least most None = Unit {0}
InRange least most (Some n) = (least ≤ n) × (n ≤ most)

last_two : (a b c : Bool) → (a && b && c) ≡ true → (b ≡ true) × (c ≡ true)
last_two true true true is = (refl, refl)
last_two true true false is = let no : ⊥ = cc in absurd no
last_two true false c is = let no : ⊥ = cc in absurd no
last_two false b c is = let no : ⊥ = cc in absurd no

in_range : (least most n : ℕ) (counts : Bool) → InRange least most (if counts && nat_le least n && nat_le n most then Some n else None)
in_range least most n counts = by (counts && nat_le least n && nat_le n most) refl
  where
    by : (b : Bool) → (counts && nat_le least n && nat_le n most) ≡ b → InRange least most (if b then Some n else None)
    by true is =
        let two = last_two counts (nat_le least n) (nat_le n most) is in
        let low : nat_le least n ≡ true = two.0 in
        let high : nat_le n most ≡ true = two.1 in
        (grind (arith, nat_tests, low), grind (arith, nat_tests, high))
    by false is = tt

-- a `make` has possible numbers
abbrev IsPossible : Option Command → Type 0
IsPossible command = OnMake command (λ pages fanout. IsPages pages × IsFanout fanout)

either_possible : (b : Bool) (one other : Option Command) → IsPossible one → IsPossible other → IsPossible (if b then one else other)
either_possible true one other is_one is_other = is_one
either_possible false one other is_one is_other = is_other

made_possible : (pages fanout : Option ℕ) → InRange 64 65536 pages → InRange 4 120 fanout
    → IsPossible (option_and_then (λ n. option_and_then (λ m. Some (commands.Make n m)) fanout) pages)
made_possible None fanout is_pages is_fanout = tt
made_possible (Some n) None is_pages is_fanout = tt
made_possible (Some n) (Some m) is_pages is_fanout = (is_pages, is_fanout)

run_possible : (frames : Option ℕ) → IsPossible (option_and_then (λ f. Some (commands.Run f)) frames)
run_possible None = tt
run_possible (Some f) = tt

number_possible : (least most : ℕ) (word : List ℕ) → InRange least most (number_in least most word)
number_possible least most word = in_range least most (digits_value 10 word) (is_count word)

make_possible : (options : List (List ℕ)) → IsPossible (make_of options)
make_possible [] = tt
make_possible (option ∷ []) = tt
make_possible (option ∷ pages ∷ []) = tt
make_possible (option ∷ pages ∷ other ∷ []) = tt
make_possible (option ∷ pages ∷ other ∷ fanout ∷ []) =
    either_possible (bytes_eq option pages_option && bytes_eq other fanout_option) (option_and_then (λ n. option_and_then (λ m. Some (commands.Make n m)) (number_in 4 120 fanout)) (number_in 64 65536 pages)) None
    (made_possible (number_in 64 65536 pages) (number_in 4 120 fanout) (number_possible 64 65536 pages) (number_possible 4 120 fanout)) tt
make_possible (option ∷ pages ∷ other ∷ fanout ∷ more ∷ others) = tt

run_of_possible : (options : List (List ℕ)) → IsPossible (run_of options)
run_of_possible [] = tt
run_of_possible (option ∷ []) = tt
run_of_possible (option ∷ frames ∷ []) =
    either_possible (bytes_eq option frames_option) (option_and_then (λ f. Some (commands.Run f)) (number_in 64 4096 frames)) None (run_possible (number_in 64 4096 frames)) tt
run_of_possible (option ∷ frames ∷ more ∷ others) = tt

command_possible : (words : List (List ℕ)) → IsPossible (command_of words)
command_possible [] = tt
command_possible (file ∷ []) = tt
command_possible (file ∷ command ∷ options) =
    either_possible (bytes_eq command make_word) (make_of options) (if bytes_eq command run_word then run_of options else None) (make_possible options)
    (either_possible (bytes_eq command run_word) (run_of options) None (run_of_possible options) tt)

-- the numbers of a `make` that words ask for
pub made_numbers : (words : List (List ℕ)) (pages fanout : ℕ) → command_of words ≡ Some (commands.Make pages fanout) → IsPages pages × IsFanout fanout
made_numbers words pages fanout is = subst (λ (c : Option Command). IsPossible c) is (command_possible words)

-- ---- the status

-- a kept file, a script, and no fault: it is done, or there was no memory
due : (end : Status) (bytes : List ℕ) (image : Image) (tables : List Table) (read read_now disk disk_now print print_now : ℕ) → IsRunStatus end
    → (end ≡ status.NotMade → image made_gate ≡ 1 → ⊥) → ((line : ℕ) → end ≡ status.BadScript line → IsBadLine bytes line) → IsDamage image end
    → CountsAt status.ReadFault end read read_now → CountsAt status.DiskFault end disk disk_now → CountsAt status.PrintFault end print print_now
    → IsKeptFile image tables → HasScript bytes → (Rose read read_now → ⊥) → (Rose disk disk_now → ⊥) → (Rose print print_now → ⊥) → IsDue end
due status.Done bytes image tables r r1 d d1 p p1 is gate bad damage reads disks prints kept script calm quiet silent = tt
due status.OutOfMemory bytes image tables r r1 d d1 p p1 is gate bad damage reads disks prints kept script calm quiet silent = tt
due status.ReadFault bytes image tables r r1 d d1 p p1 is gate bad damage reads disks prints kept script calm quiet silent = calm (reads.rose refl)
due status.DiskFault bytes image tables r r1 d d1 p p1 is gate bad damage reads disks prints kept script calm quiet silent = quiet (disks.rose refl)
due status.PrintFault bytes image tables r r1 d d1 p p1 is gate bad damage reads disks prints kept script calm quiet silent = silent (prints.rose refl)
due (status.BadScript line) bytes image tables r r1 d d1 p p1 is gate bad damage reads disks prints kept script calm quiet silent = not_bad bytes line (bad line refl) script
due status.NotMade bytes image tables r r1 d d1 p p1 is gate bad damage reads disks prints kept script calm quiet silent = gate refl kept.stands_for.control.made
due (status.Damaged page rule) bytes image tables r r1 d d1 p p1 is gate bad (inl broken) reads disks prints kept script calm quiet silent = never_broken rule image kept.contents kept.stands_for broken.1
due (status.Damaged page rule) bytes image tables r r1 d d1 p p1 is gate bad (inr later) reads disks prints kept script calm quiet silent = later.1 (tables, kept)
due status.Usage bytes image tables r r1 d d1 p p1 is gate bad damage reads disks prints kept script calm quiet silent = is
due status.AlreadyMade bytes image tables r r1 d d1 p p1 is gate bad damage reads disks prints kept script calm quiet silent = is

-- the same where the words are a `run`
pub due_on_run : (command : Option Command) (end : Status) (bytes : List ℕ) (image : Image) (read read_now disk disk_now print print_now : ℕ) → IsRunStatus end
    → (end ≡ status.NotMade → image made_gate ≡ 1 → ⊥) → ((line : ℕ) → end ≡ status.BadScript line → IsBadLine bytes line) → IsDamage image end
    → CountsAt status.ReadFault end read read_now → CountsAt status.DiskFault end disk disk_now → CountsAt status.PrintFault end print print_now
    → OnRun command ((tables : List Table) → IsKeptFile image tables → HasScript bytes → (Rose read read_now → ⊥) → (Rose disk disk_now → ⊥) → (Rose print print_now → ⊥) → IsDue end)
due_on_run None end bytes image r r1 d d1 p p1 is gate bad damage reads disks prints = tt
due_on_run (Some (commands.Make pages fanout)) end bytes image r r1 d d1 p p1 is gate bad damage reads disks prints = tt
due_on_run (Some (commands.Run frames)) end bytes image r r1 d d1 p p1 is gate bad damage reads disks prints = λ tables kept script calm quiet silent.
    due end bytes image tables r r1 d d1 p p1 is gate bad damage reads disks prints kept script calm quiet silent
