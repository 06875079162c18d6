-- A statement's answer that is printed, and a session's end.
use Rattle.std.proofs.Common.{◌≡◌, ◌∙◌, ℕ, ap, sym, subst, true, false, ◌++◌, Result, Ok, Err}
use Rattle.std.specs.Prelude.{OnErr, OnOk}
use Rattle.isp_connection.specs.Answering.{Answered, Comes, ComesTidy, state_or_full}
use Rattle.isp_connection.specs.Connections.{ConnectionState, Holds}
use Rattle.isp_disk.specs.Outside.{PrintsPart}
use Rattle.isp_tables.specs.Calls.{AreInside, Serves}
use Rattle.isp_writes.specs.Causes.{FillsUp}
use Rattle.isp_chained.specs.Courses.{Reaches}
use Rattle.isp_image.specs.Databases.{Database}
use Rattle.isp_chained.specs.Chained.{alone}
use Rattle.isp_connection.proofs.EndLaws.{kept_same}
use Rattle.isp_page.specs.State.{FileShape}
use Rattle.isp_page.specs.declared.fault.Fault.{Fault}
use Rattle.isp_page.specs.declared.pages.Pages.{Ghosts}
use Rattle.isp_plain.specs.Texts.{end_text, reply_text}
use Rattle.isp_plain.specs.declared.statement.Reply.{Reply}
use Rattle.isp_plain.specs.declared.statement.Reply.TheVariants as reply
use Rattle.isp_plain.specs.declared.statement.Statement.{Statement}
use Rattle.isp_serial.specs.Alone.{State, answer_with, rolled_back}
use Rattle.isp_serial.specs.Spelling.{line_of}
use Rattle.isp_sessions.specs.Runs.{AnswersPart, HasAnswered, HasEnded, HasPrinted, PrintsReply, reply_line}
use Rattle.isp_sessions.proofs.PrintLaws.{all_printed, none_printed}
use Rattle.isp_sessions.proofs.RunLaws.{fills_later, fills_reach, reaches_on}

module _ {S : Type 0} (g : Ghosts S) where
  -- where no page changes the connection holds what it held, and has the tables that it had
  module _ (old new : S) (c c_now : ConnectionState) (is : c_now ≡ c) (shape : g.shape new ≡ g.shape old) where
    still_open : (state : State) (d : Database) → g.contents new ≡ g.contents old → Holds g old c state d → Holds g new c state d
    still_open state d same holds = record {
      opened = record {
        chain = holds.opened.chain;
        kept = kept_same (g.shape old).pages (g.shape new).pages (g.contents old) (g.contents new) d (alone c.trx.session holds.opened.chain) (ap (λ (n : FileShape). n.pages) shape) same holds.opened.kept;
        slot = holds.opened.slot;
        defs_are = holds.opened.defs_are;
        noted = holds.opened.noted;
        written = holds.opened.written;
      };
      outside = holds.outside;
      setup = holds.setup;
      inside = holds.inside;
      present = holds.present;
      committed_are = holds.committed_are;
    }

    pub still_holds : (state : State) (d : Database) → g.contents new ≡ g.contents old → Holds g old c state d → Holds g new c_now state d
    still_holds state d same holds = subst (λ (k : ConnectionState). Holds g new k state d) (sym is) (still_open state d same holds)

    pub still_serves : g.usable new ≡ true → (g.mini new).is_begun ≡ false → Serves g old c.defs → Serves g new c_now.defs
    still_serves usable none serves = subst (λ (k : ConnectionState). Serves g new k.defs) (sym is) (record {
      usable = usable;
      none = none;
      inside = subst (λ (s : FileShape). AreInside s.pages c.defs) (sym shape) serves.inside;
      keyed = serves.keyed;
    })

  module _ (d : Database) (session number : ℕ) (old mid new : S) where
    -- the line was printed, and then marked rows went
    pub printed_and_swept : (answer : Reply) (state : State) (c_now : ConnectionState) (result : Result (Unit {0}) Fault)
        → g.printed mid ≡ g.printed old ++ line_of (answer_with session number (reply_text answer)) → g.printed new ≡ g.printed mid → g.shape new ≡ g.shape old
        → OnOk result (ComesTidy g new c_now state d) → OnOk result (HasPrinted g (g.shape old).pages d session number answer state old new c_now)
    printed_and_swept answer state c_now (Ok x) printed silent shape tidy = record {
      printed = silent ∙ printed;
      runs_on = record {
        after = tidy.comes.after;
        runs = record { holds = tidy.comes.holds; tidy = tidy.tidy };
        reaches = subst (λ (n : FileShape). Reaches n.pages d tidy.comes.after) shape tidy.comes.reaches;
      };
    }
    printed_and_swept answer state c_now (Err e) printed silent shape tidy = tt

  -- behind a call of the connection, which keeps its session
  module _ (d : Database) (here session number : ℕ) (same : here ≡ session) (old mid new : S) where
    -- it was answered, and the answer printed
    pub answered_and_printed : (answer : Reply) (state : State) (statement : Statement) (c c_now : ConnectionState) (result : Result (Unit {0}) Fault)
        → g.printed mid ≡ g.printed old → g.shape mid ≡ g.shape old → (has : Answered g mid c state statement d answer)
        → OnOk result (HasPrinted g (g.shape mid).pages has.comes.after here number answer (state_or_full has.full state statement) mid new c_now)
        → OnOk result (HasAnswered g (g.shape old).pages d session number state statement old new c_now)
    answered_and_printed answer state statement c c_now (Ok x) silent shape has printed =
        let pages : (g.shape mid).pages ≡ (g.shape old).pages = ap (λ (s : FileShape). s.pages) shape in
        let first : Reaches (g.shape old).pages d has.comes.after = subst (λ n. Reaches n d has.comes.after) pages has.comes.reaches in
        let later : Reaches (g.shape old).pages has.comes.after printed.runs_on.after = subst (λ n. Reaches n has.comes.after printed.runs_on.after) pages printed.runs_on.reaches in
        record {
          full = has.full;
          printed = printed.printed ∙ (ap (λ xs. xs ++ line_of (answer_with here number (reply_text answer))) silent
              ∙ (ap (λ (a : Reply). g.printed old ++ line_of (answer_with here number (reply_text a))) has.answer_is
              ∙ ap (λ n. g.printed old ++ reply_line n number has.full state statement) same));
          runs_on = record {
            after = printed.runs_on.after;
            runs = printed.runs_on.runs;
            reaches = reaches_on (g.shape old).pages d has.comes.after printed.runs_on.after first later;
          };
          cause = λ is. fills_later (g.shape old).pages d has.comes.after printed.runs_on.after (subst (λ n. FillsUp n d has.comes.after) pages (has.cause is)) later;
        }
    answered_and_printed answer state statement c c_now (Err e) silent shape has printed = tt

    pub answered_in_part : (answer : Reply) (state : State) (statement : Statement) (c : ConnectionState) (result : Result (Unit {0}) Fault)
        → g.printed mid ≡ g.printed old → g.shape mid ≡ g.shape old → (has : Answered g mid c state statement d answer)
        → OnErr result (PrintsReply g here number answer mid new)
        → OnErr result (AnswersPart g (g.shape old).pages d session number state statement old new)
    answered_in_part answer state statement c (Ok x) silent shape has part = tt
    answered_in_part answer state statement c (Err e) silent shape has part =
        let pages : (g.shape mid).pages ≡ (g.shape old).pages = ap (λ (s : FileShape). s.pages) shape in
        record {
          full = has.full;
          part = subst (λ before. PrintsPart before (reply_line session number has.full state statement) (g.printed new)) silent
              (subst (λ n. PrintsPart (g.printed mid) (reply_line n number has.full state statement) (g.printed new)) same
              (subst (λ (a : Reply). PrintsPart (g.printed mid) (line_of (answer_with here number (reply_text a))) (g.printed new)) has.answer_is part));
          cause = λ is. fills_reach (g.shape old).pages d has.comes.after (subst (λ n. FillsUp n d has.comes.after) pages (has.cause is));
        }

    -- what was open was given up, and the end printed
    pub ended_and_printed : (state : State) (c c_now : ConnectionState) (result : Result (Unit {0}) Fault)
        → g.printed mid ≡ g.printed old → g.shape mid ≡ g.shape old → (comes : Comes g mid c (rolled_back state) d)
        → OnOk result (HasPrinted g (g.shape mid).pages comes.after here number reply.End (rolled_back state) mid new c_now)
        → OnOk result (HasEnded g (g.shape old).pages d session number state old new c_now)
    ended_and_printed state c c_now (Ok x) silent shape comes printed =
        let pages : (g.shape mid).pages ≡ (g.shape old).pages = ap (λ (s : FileShape). s.pages) shape in
        record {
          printed = printed.printed ∙ (ap (λ xs. xs ++ line_of (answer_with here number end_text)) silent
              ∙ ap (λ n. g.printed old ++ line_of (answer_with n number end_text)) same);
          runs_on = record {
            after = printed.runs_on.after;
            runs = printed.runs_on.runs;
            reaches = reaches_on (g.shape old).pages d comes.after printed.runs_on.after
                (subst (λ n. Reaches n d comes.after) pages comes.reaches) (subst (λ n. Reaches n comes.after printed.runs_on.after) pages printed.runs_on.reaches);
          };
        }
    ended_and_printed state c c_now (Err e) silent shape comes printed = tt

  -- the session stays over a call behind one that leaves the connection as it was
  pub session_stays : (c : ConnectionState) (mid : ConnectionState) (session : ℕ) (result : Result (Unit {0}) Fault) → mid ≡ c → OnOk result (session ≡ mid.trx.session) → OnOk result (session ≡ c.trx.session)
  session_stays c mid session (Ok x) is same = same ∙ ap (λ (k : ConnectionState). k.trx.session) is
  session_stays c mid session (Err e) is same = tt

  -- the line was printed, and the sweep failed
  pub printed_unswept : (session number : ℕ) (old mid new : S) (answer : Reply) (result : Result (Unit {0}) Fault)
      → g.printed mid ≡ g.printed old ++ line_of (answer_with session number (reply_text answer)) → g.printed new ≡ g.printed mid
      → OnErr result (PrintsReply g session number answer old new)
  printed_unswept session number old mid new answer (Ok x) printed silent = tt
  printed_unswept session number old mid new answer (Err e) printed silent = all_printed (g.printed old) (line_of (answer_with session number (reply_text answer))) (g.printed new) (silent ∙ printed)

  -- the statement wasn't answered
  pub unanswered : (pages : ℕ) (d : Database) (session number : ℕ) (state : State) (statement : Statement) (old new : S) → g.printed new ≡ g.printed old
      → AnswersPart g pages d session number state statement old new
  unanswered pages d session number state statement old new silent = record {
    full = false;
    part = none_printed (g.printed old) (reply_line session number false state statement) (g.printed new) silent;
    cause = λ is. cc;
  }
