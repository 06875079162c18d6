-- What a run has printed, and what it leaves of the file. Where it was done: the lines of answers, and nothing else. They fit
-- the script, and their transactions, done again one by one on plain tables, from those that the file stood for to those that
-- it stands for now, give these answers. Where it ended before its end: the first bytes of such lines, and nothing else.
use Rattle.std.specs.Prelude.{◌≡◌, ◌⊎◌, ℕ, ⊤, true, List, [], ◌++◌, All}
use Rattle.std.specs.List.{flat_map}
use Rattle.isp_disk.specs.Moments.{Image}
use Rattle.isp_disk.specs.Outside.{PrintsPart}
use Rattle.isp_format.specs.Contents.{StandsFor}
use Rattle.isp_format.specs.Control.{fanout_in, pages_in}
use Rattle.isp_format.specs.Ranges.{Contents}
use Rattle.isp_image.specs.Databases.{Database}
use Rattle.isp_chained.specs.Chained.{ChainedFile, IsKeptFile, no_chains}
use Rattle.isp_plain.specs.Tables.{Table}
use Rattle.isp_script.specs.Grammar.{IsScript}
use Rattle.isp_serial.specs.Alone.{IsAnswerAlone}
use Rattle.isp_serial.specs.Answers.{Answer, is_full}
use Rattle.isp_serial.specs.Serial.{Serial}
use Rattle.isp_serial.specs.Spelling.{line_of}
use Rattle.isp_serial.specs.declared.script.Script.{Script}
use Rattle.isp_writes.specs.Causes.{FillsUp}
use Rattle.isp_sessions.specs.Plays.{ReachesFull}
use Rattle.isp_sessions.specs.Sql.{sql}
use Rattle.isp_run.specs.Files.{IsTidy}
use Rattle.isp_run.specs.declared.status.Status.{Status}
use Rattle.isp_run.specs.declared.status.Status.TheVariants.{Done, Damaged, PrintFault, OutOfMemory}

-- the image stands for contents that are this database, without a chain
pub record IsDatabaseIn (image : Image) (d : Database) : Type 0 where
  pub contents : Contents
  pub stands : StandsFor image contents
  pub kept : ChainedFile (pages_in image) contents d no_chains

-- a full file's answer: on the way from the first file's database to the last one's, one has no room
pub record IsFullBetween (file file_now : Image) : Type 0 where
  pub first : Database
  pub last : Database
  pub first_in : IsDatabaseIn file first
  pub last_in : IsDatabaseIn file_now last
  pub was_full : FillsUp (pages_in file) first last

-- the same of a run that wasn't done
pub record IsFullAfter (file : Image) : Type 0 where
  pub first : Database
  pub first_in : IsDatabaseIn file first
  pub was_full : ReachesFull (pages_in file) first

-- the script was run, with what was printed before it, and now, and the file before it, and now
pub record Ran (script : Script) (first : List Table) (before now : List ℕ) (file file_now : Image) : Type 0 where
  pub answers : List Answer
  pub printed : now ≡ before ++ flat_map line_of answers
  pub alone : All IsAnswerAlone answers
  pub full : All (λ answer. is_full answer ≡ true → IsFullBetween file file_now) answers
  pub after : List Table
  pub serial : Serial sql script first answers after
  pub kept : IsKeptFile file_now after
  pub pages_stay : pages_in file_now ≡ pages_in file
  pub fanout_stays : fanout_in file_now ≡ fanout_in file
  pub tidy : IsTidy file_now

-- the same from whatever tables the file is kept for
abbrev pub RanOn : Script → List ℕ → List ℕ → Image → Image → Type 0
RanOn script before now file file_now = (first : List Table) → IsKeptFile file first → Ran script first before now file file_now

-- the same of the script that the bytes are, from whatever tables the file is kept for
abbrev pub RanOf : List ℕ → List ℕ → List ℕ → Image → Image → Type 0
RanOf bytes before now file file_now =
    (first : List Table) → IsKeptFile file first → (script : Script) × IsScript bytes script × Ran script first before now file file_now

-- a front, by bytes, of the lines of answers to the script that are serial
pub record Front (script : Script) (first : List Table) (file : Image) (before now : List ℕ) : Type 0 where
  pub answers : List Answer
  pub alone : All IsAnswerAlone answers
  pub full : All (λ answer. is_full answer ≡ true → IsFullAfter file) answers
  pub after : List Table
  pub serial : Serial sql script first answers after
  pub part : PrintsPart before (flat_map line_of answers) now

-- whatever the status: nothing was printed; or such a front of the script's lines
abbrev pub FrontOn : Script → List ℕ → List ℕ → Image → Type 0
FrontOn script before now file = (now ≡ before) ⊎ ((first : List Table) → IsKeptFile file first → Front script first file before now)

-- the same of the script that the bytes of the source are, which was read to its end
abbrev pub FrontOf : List ℕ → List ℕ → List ℕ → List ℕ → Image → Type 0
FrontOf bytes rest before now file =
    (now ≡ before) ⊎ ((rest ≡ []) × ((first : List Table) → IsKeptFile file first → (script : Script) × IsScript bytes script × Front script first file before now))

-- the script was read and is in the grammar
abbrev pub IsRead : Status → Type 0
IsRead Done = ⊤
IsRead (Damaged page rule) = ⊤
IsRead PrintFault = ⊤
IsRead _ = ⊥

-- what a run that meets no fault may end with
abbrev pub IsDue : Status → Type 0
IsDue Done = ⊤
IsDue OutOfMemory = ⊤
IsDue _ = ⊥
