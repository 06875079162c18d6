-- How far a run has come: the lines that it has printed, the database that the store has, and which statements found the file full.
use Rattle.std.specs.Prelude.{◌≡◌, ◌⊎◌, ℕ, ◌+◌, ◌==◌, Bool, true, false, List, [], ◌∷◌, ◌++◌, length}
use Rattle.std.specs.List.{flat_map}
use Rattle.isp_connection.specs.Answering.{reply_or_full, state_or_full}
use Rattle.isp_connection.specs.Connections.{ConnectionState, Holds}
use Rattle.isp_disk.specs.Outside.{PrintsPart}
use Rattle.isp_writes.specs.Causes.{FillsUp}
use Rattle.isp_chained.specs.Courses.{Reaches}
use Rattle.isp_image.specs.Databases.{Database, HasNoMarked, tables_of}
use Rattle.isp_page.specs.declared.pages.Pages.{Ghosts}
use Rattle.isp_plain.specs.declared.statement.Reply.{Reply}
use Rattle.isp_plain.specs.declared.statement.Statement.{Statement}
use Rattle.isp_plain.specs.Texts.{end_text, reply_text}
use Rattle.isp_serial.specs.Alone.{Full, State, after_sessions, after_texts, answer_with, answers_to, none_full, rolled_back, sessions_answers, settled}
use Rattle.isp_serial.specs.declared.script.Session.{Session}
use Rattle.isp_serial.specs.Spelling.{line_of}
use Rattle.isp_sessions.specs.Plays.{IsAtRest, ReachesFull}
use Rattle.isp_sessions.specs.Sql.{sql}

-- the line of a statement's answer, where it is done or finds the file full
abbrev pub reply_line : ℕ → ℕ → Bool → State → Statement → List ℕ
reply_line session number full state statement = line_of (answer_with session number (reply_text (reply_or_full full state statement)))

-- of other sessions the same statements find the file full
abbrev pub SameElsewhere : ℕ → Full → Full → Type 0
SameElsewhere session base full = (other number : ℕ) → (other == session) ≡ false → full other number ≡ base other number

-- each statement that does, but for those that did before, has its cause
abbrev pub FilledBetween : ℕ → Full → Full → Database → Database → Type 0
FilledBetween pages base full d after = (session number : ℕ) → full session number ≡ true → (base session number ≡ true) ⊎ FillsUp pages d after

abbrev pub FilledBehind : ℕ → Full → Full → Database → Type 0
FilledBehind pages base full d = (session number : ℕ) → full session number ≡ true → (base session number ≡ true) ⊎ ReachesFull pages d

-- a session's answers, the last of them its END
abbrev pub all_lines : Full → ℕ → List (List ℕ) → State → List ℕ
all_lines full session texts state = flat_map line_of (answers_to sql full session 1 texts state ++ answer_with session (length texts + 1) end_text ∷ [])

module _ {S : Type 0} (g : Ghosts S) where
  -- The connection is open on the database, and the run stands so; where no transaction is open no row is marked.
  pub record Runs (now : S) (c : ConnectionState) (state : State) (d : Database) : Type 0 where
    pub holds : Holds g now c state d
    pub tidy : c.inside ≡ false → HasNoMarked d

  -- The same of a database on the way from that one.
  pub record RunsOn (pages : ℕ) (d : Database) (now : S) (c : ConnectionState) (state : State) : Type 0 where
    pub after : Database
    pub runs : Runs now c state after
    pub reaches : Reaches pages d after

  -- ---- one answer

  -- an answer's line was printed, and nothing else changed but that marked rows went
  pub record HasPrinted (pages : ℕ) (d : Database) (session number : ℕ) (answer : Reply) (state : State) (old new : S) (c : ConnectionState) : Type 0 where
    pub printed : g.printed new ≡ g.printed old ++ line_of (answer_with session number (reply_text answer))
    pub runs_on : RunsOn pages d new c state

  -- a part of an answer's line was printed
  abbrev pub PrintsReply : ℕ → ℕ → Reply → S → S → Type 0
  PrintsReply session number answer old new = PrintsPart (g.printed old) (line_of (answer_with session number (reply_text answer))) (g.printed new)

  -- what was open is given up, and the line of the end was printed
  pub record HasEnded (pages : ℕ) (d : Database) (session number : ℕ) (state : State) (old new : S) (c : ConnectionState) : Type 0 where
    pub printed : g.printed new ≡ g.printed old ++ line_of (answer_with session number end_text)
    pub runs_on : RunsOn pages d new c (rolled_back state)

  -- it was answered, and its line printed
  pub record HasAnswered (pages : ℕ) (d : Database) (session number : ℕ) (state : State) (statement : Statement) (old new : S) (c : ConnectionState) : Type 0 where
    pub full : Bool
    pub printed : g.printed new ≡ g.printed old ++ reply_line session number full state statement
    pub runs_on : RunsOn pages d new c (state_or_full full state statement)
    pub cause : full ≡ true → FillsUp pages d runs_on.after

  -- a part of the line was printed, from its first byte on
  pub record AnswersPart (pages : ℕ) (d : Database) (session number : ℕ) (state : State) (statement : Statement) (old new : S) : Type 0 where
    pub full : Bool
    pub part : PrintsPart (g.printed old) (reply_line session number full state statement) (g.printed new)
    pub cause : full ≡ true → ReachesFull pages d

  -- ---- a session's answers

  -- the texts were answered, and their lines printed
  pub record HasTexts (pages : ℕ) (base : Full) (d : Database) (session : ℕ) (texts : List (List ℕ)) (state : State) (old new : S) (c : ConnectionState) : Type 0 where
    pub full : Full
    pub elsewhere : SameElsewhere session base full
    pub printed : g.printed new ≡ g.printed old ++ flat_map line_of (answers_to sql full session 1 texts state)
    pub runs_on : RunsOn pages d new c (after_texts sql full session 1 texts state)
    pub causes : FilledBetween pages base full d runs_on.after

  pub record TextsPart (pages : ℕ) (base : Full) (d : Database) (session : ℕ) (texts : List (List ℕ)) (state : State) (old new : S) : Type 0 where
    pub full : Full
    pub elsewhere : SameElsewhere session base full
    pub part : PrintsPart (g.printed old) (flat_map line_of (answers_to sql full session 1 texts state)) (g.printed new)
    pub causes : FilledBehind pages base full d

  -- ---- a whole session

  -- The store has a database at rest, on the way from that one.
  pub record RestsOn (pages : ℕ) (d : Database) (now : S) : Type 0 where
    pub after : Database
    pub rests : IsAtRest pages (g.contents now) after
    pub reaches : Reaches pages d after

  -- the setup, on a database at rest
  pub record HasSetup (pages : ℕ) (d : Database) (texts : List (List ℕ)) (old new : S) : Type 0 where
    pub full : Full
    pub printed : g.printed new ≡ g.printed old ++ flat_map line_of (answers_to sql full 0 1 texts (settled (tables_of d)))
    pub rests_on : RestsOn pages d new
    pub leaves : after_texts sql full 0 1 texts (settled (tables_of d)) ≡ settled (tables_of rests_on.after)
    pub causes : FilledBetween pages none_full full d rests_on.after

  pub record SetupPart (pages : ℕ) (d : Database) (texts : List (List ℕ)) (old new : S) : Type 0 where
    pub full : Full
    pub part : PrintsPart (g.printed old) (flat_map line_of (answers_to sql full 0 1 texts (settled (tables_of d)))) (g.printed new)
    pub causes : FilledBehind pages none_full full d

  -- a session, with the line of its end
  pub record HasSession (pages : ℕ) (base : Full) (d : Database) (session : ℕ) (texts : List (List ℕ)) (state : State) (old new : S) : Type 0 where
    pub full : Full
    pub elsewhere : SameElsewhere session base full
    pub printed : g.printed new ≡ g.printed old ++ all_lines full session texts state
    pub rests_on : RestsOn pages d new
    pub leaves : (rolled_back (after_texts sql full session 1 texts state)).committed ≡ tables_of rests_on.after
    pub causes : FilledBetween pages base full d rests_on.after

  pub record SessionPart (pages : ℕ) (base : Full) (d : Database) (session : ℕ) (texts : List (List ℕ)) (state : State) (old new : S) : Type 0 where
    pub full : Full
    pub elsewhere : SameElsewhere session base full
    pub part : PrintsPart (g.printed old) (all_lines full session texts state) (g.printed new)
    pub causes : FilledBehind pages base full d

  -- the sessions, of which there is one at most; the setup's statements find the file full that did before
  pub record HasSessions (pages : ℕ) (base : Full) (d : Database) (sessions : List Session) (old new : S) : Type 0 where
    pub full : Full
    pub setup : (number : ℕ) → full 0 number ≡ base 0 number
    pub printed : g.printed new ≡ g.printed old ++ flat_map line_of (sessions_answers sql full sessions (settled (tables_of d)))
    pub rests_on : RestsOn pages d new
    pub leaves : (after_sessions sql full sessions (settled (tables_of d))).committed ≡ tables_of rests_on.after
    pub causes : FilledBetween pages base full d rests_on.after

  pub record SessionsPart (pages : ℕ) (base : Full) (d : Database) (sessions : List Session) (old new : S) : Type 0 where
    pub full : Full
    pub setup : (number : ℕ) → full 0 number ≡ base 0 number
    pub part : PrintsPart (g.printed old) (flat_map line_of (sessions_answers sql full sessions (settled (tables_of d)))) (g.printed new)
    pub causes : FilledBehind pages base full d

  -- no page changes, and the store can be used as before
  pub record KeepsPages (old new : S) : Type 0 where
    pub contents : g.tells → g.contents new ≡ g.contents old
    pub mini : g.mini new ≡ g.mini old
    pub usable : g.usable old ≡ true → g.usable new ≡ true
