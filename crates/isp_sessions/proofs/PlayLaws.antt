-- A session from its connection to its end, and a script from its setup to its last session.
use Rattle.std.proofs.Common.{◌≡◌, ◌⊎◌, inl, inr, ◌∙◌, ℕ, ◌+◌, ◌==◌, ap, sym, refl, subst, true, false, List, [], ◌∷◌, ◌++◌, length, append_assoc, append-nil, arith}
use Rattle.std.specs.List.{flat_map}
use Rattle.std.proofs.lemmas.Bool.{false≢true}
use Rattle.std.proofs.lemmas.Bool.Decides.{nat_tests}
use Rattle.std.proofs.lemmas.List.Concat.{flat_map-append}
use Rattle.isp_connection.specs.Connections.{ConnectionState, Holds}
use Rattle.isp_connection.proofs.EndLaws.{as_plain}
use Rattle.isp_disk.specs.Outside.{PrintsPart}
use Rattle.isp_writes.specs.Causes.{FillsUp}
use Rattle.isp_image.specs.Databases.{Database, tables_of}
use Rattle.isp_page.specs.declared.pages.Pages.{Ghosts}
use Rattle.isp_plain.specs.Texts.{end_text}
use Rattle.isp_plan.proofs.FaithfulLaws.{whole_is_faithful}
use Rattle.isp_serial.specs.Alone.{Full, State, after_sessions, after_texts, answer_with, answers_to, none_full, rolled_back, sessions_answers, settled}
use Rattle.isp_serial.specs.Laws.{AnswersAlike}
use Rattle.isp_serial.specs.Spelling.{line_of}
use Rattle.isp_serial.specs.declared.script.Script.{Script}
use Rattle.isp_serial.specs.declared.script.Session.{Session}
use Rattle.isp_serial.proofs.AloneSerial.{full_decides}
use Rattle.isp_sessions.specs.Plays.{IsAtRest, Played, PlayedPart, ReachesFull, lines_of}
use Rattle.isp_sessions.specs.Runs.{HasEnded, HasSession, HasSessions, HasSetup, HasTexts, RestsOn, Runs, RunsOn, SessionPart, SessionsPart, SetupPart, TextsPart, all_lines}
use Rattle.isp_sessions.specs.Sql.{sql}
use Rattle.isp_sessions.proofs.PrintLaws.{none_printed, part_behind, part_longer}
use Rattle.isp_sessions.proofs.RunLaws.{between_behind, fills_earlier, fills_later, fills_reach, reach_earlier, reaches_none, reaches_on}
use Rattle.isp_sessions.proofs.TextLaws.{setup_settled}

module _ {S : Type 0} (g : Ghosts S) where
  -- where no transaction is open the database is at rest
  pub at_rest : (now : S) (c : ConnectionState) (state : State) (d : Database) → Runs g now c state d → state.inside ≡ false → IsAtRest (g.shape now).pages (g.contents now) d
  at_rest now c state d runs outside =
      let closed : c.inside ≡ false = runs.holds.inside ∙ outside in
      record { kept = as_plain c.trx.session (g.shape now).pages (g.contents now) d runs.holds.opened.chain (runs.holds.outside closed) runs.holds.opened.kept; tidy = runs.tidy closed }

  -- a connection that was opened on a database at rest
  pub opened : (now : S) (c : ConnectionState) (d : Database) (pages : ℕ) (old : S) → IsAtRest pages (g.contents old) d → Holds g now c (settled (tables_of d)) d → Runs g now c (settled (tables_of d)) d
  opened now c d pages old rests holds = record { holds = holds; tidy = λ closed. rests.tidy }

  module _ (pages : ℕ) where
    abbrev rests_here : (d : Database) (now : S) (c : ConnectionState) (state : State) → (g.shape now).pages ≡ pages → state.inside ≡ false → RunsOn g pages d now c state → RestsOn g pages d now
    rests_here d now c state shape outside on = record {
      after = on.after;
      rests = subst (λ n. IsAtRest n (g.contents now) on.after) shape (at_rest now c state on.after on.runs outside);
      reaches = on.reaches;
    }

    -- the setup
    pub setup_over : (d : Database) (texts : List (List ℕ)) (old mid new : S) (c : ConnectionState) → (g.shape new).pages ≡ pages → g.printed mid ≡ g.printed old
        → HasTexts g pages none_full d 0 texts (settled (tables_of d)) mid new c → HasSetup g pages d texts old new
    setup_over d texts old mid new c shape silent has =
        let settles = setup_settled sql has.full whole_is_faithful 1 texts (tables_of d) in
        let outside : (after_texts sql has.full 0 1 texts (settled (tables_of d))).inside ≡ false = ap (λ (s : State). s.inside) settles in
        record {
          full = has.full;
          printed = has.printed ∙ ap (λ xs. xs ++ flat_map line_of (answers_to sql has.full 0 1 texts (settled (tables_of d)))) silent;
          rests_on = rests_here d new c (after_texts sql has.full 0 1 texts (settled (tables_of d))) shape outside has.runs_on;
          leaves = settles ∙ ap settled (sym has.runs_on.runs.holds.present);
          causes = has.causes;
        }

    pub setup_stops : (d : Database) (texts : List (List ℕ)) (old mid new : S) → g.printed mid ≡ g.printed old
        → TextsPart g pages none_full d 0 texts (settled (tables_of d)) mid new → SetupPart g pages d texts old new
    setup_stops d texts old mid new silent has = record {
      full = has.full;
      part = subst (λ before. PrintsPart before (flat_map line_of (answers_to sql has.full 0 1 texts (settled (tables_of d)))) (g.printed new)) silent has.part;
      causes = has.causes;
    }

    pub setup_unopened : (d : Database) (texts : List (List ℕ)) (old new : S) → g.printed new ≡ g.printed old → SetupPart g pages d texts old new
    setup_unopened d texts old new silent = record {
      full = none_full;
      part = none_printed (g.printed old) (flat_map line_of (answers_to sql none_full 0 1 texts (settled (tables_of d)))) (g.printed new) silent;
      causes = λ session number is. inl is;
    }

    module _ (base : Full) (d : Database) (session : ℕ) (texts : List (List ℕ)) (state : State) where
      lines_are : (full : Full) → all_lines full session texts state ≡ flat_map line_of (answers_to sql full session 1 texts state) ++ line_of (answer_with session (length texts + 1) end_text)
      lines_are full = flat_map-append line_of (answers_to sql full session 1 texts state) (answer_with session (length texts + 1) end_text ∷ [])
          ∙ ap (λ xs. flat_map line_of (answers_to sql full session 1 texts state) ++ xs) (append-nil (line_of (answer_with session (length texts + 1) end_text)))

      -- a session, with its end
      pub session_over : (old mid new : S) (c c_now : ConnectionState) → (g.shape new).pages ≡ pages
          → (has : HasTexts g pages base d session texts state old mid c)
          → HasEnded g pages has.runs_on.after session (length texts + 1) (after_texts sql has.full session 1 texts state) mid new c_now
          → HasSession g pages base d session texts state old new
      session_over old mid new c c_now shape has ended =
          let last = rests_here has.runs_on.after new c_now (rolled_back (after_texts sql has.full session 1 texts state)) shape refl ended.runs_on in
          record {
            full = has.full;
            elsewhere = has.elsewhere;
            printed = ended.printed ∙ (ap (λ xs. xs ++ line_of (answer_with session (length texts + 1) end_text)) has.printed
                ∙ (append_assoc (g.printed old) (flat_map line_of (answers_to sql has.full session 1 texts state)) (line_of (answer_with session (length texts + 1) end_text))
                ∙ ap (λ xs. g.printed old ++ xs) (sym (lines_are has.full))));
            rests_on = record { after = last.after; rests = last.rests; reaches = reaches_on pages d has.runs_on.after last.after has.runs_on.reaches last.reaches };
            leaves = sym ended.runs_on.runs.holds.present;
            causes = λ other n is. later_one other n (has.causes other n is);
          }
        where
          later_one : (other n : ℕ) → (base other n ≡ true) ⊎ FillsUp pages d has.runs_on.after → (base other n ≡ true) ⊎ FillsUp pages d ended.runs_on.after
          later_one other n (inl was) = inl was
          later_one other n (inr fills) = inr (fills_later pages d has.runs_on.after ended.runs_on.after fills ended.runs_on.reaches)

      pub session_ends_partly : (old mid new : S) (c : ConnectionState)
          → (has : HasTexts g pages base d session texts state old mid c)
          → PrintsPart (g.printed mid) (line_of (answer_with session (length texts + 1) end_text)) (g.printed new)
          → SessionPart g pages base d session texts state old new
      session_ends_partly old mid new c has part = record {
        full = has.full;
        elsewhere = has.elsewhere;
        part = subst (λ lines. PrintsPart (g.printed old) lines (g.printed new)) (sym (lines_are has.full))
            (part_behind (g.printed old) (flat_map line_of (answers_to sql has.full session 1 texts state)) (g.printed mid) (line_of (answer_with session (length texts + 1) end_text)) (g.printed new) has.printed part);
        causes = between_behind pages base has.full d has.runs_on.after has.causes;
      }

      pub session_stops : (old new : S) → TextsPart g pages base d session texts state old new → SessionPart g pages base d session texts state old new
      session_stops old new has = record {
        full = has.full;
        elsewhere = has.elsewhere;
        part = subst (λ lines. PrintsPart (g.printed old) lines (g.printed new)) (sym (lines_are has.full))
            (part_longer (g.printed old) (flat_map line_of (answers_to sql has.full session 1 texts state)) (line_of (answer_with session (length texts + 1) end_text)) (g.printed new) has.part);
        causes = has.causes;
      }

      pub session_unopened : (old new : S) → g.printed new ≡ g.printed old → SessionPart g pages base d session texts state old new
      session_unopened old new silent = record {
        full = base;
        elsewhere = λ other number not. refl;
        part = none_printed (g.printed old) (all_lines base session texts state) (g.printed new) silent;
        causes = λ other number is. inl is;
      }

      -- from the time before the connection was opened
      pub session_from : (old mid new : S) → g.printed mid ≡ g.printed old → HasSession g pages base d session texts state mid new → HasSession g pages base d session texts state old new
      session_from old mid new silent has = record {
        full = has.full;
        elsewhere = has.elsewhere;
        printed = has.printed ∙ ap (λ xs. xs ++ all_lines has.full session texts state) silent;
        rests_on = has.rests_on;
        leaves = has.leaves;
        causes = has.causes;
      }

      pub part_from : (old mid new : S) → g.printed mid ≡ g.printed old → SessionPart g pages base d session texts state mid new → SessionPart g pages base d session texts state old new
      part_from old mid new silent has = record {
        full = has.full;
        elsewhere = has.elsewhere;
        part = subst (λ before. PrintsPart before (all_lines has.full session texts state) (g.printed new)) silent has.part;
        causes = has.causes;
      }

    -- ---- the sessions, of which there is one at most

    pub no_session : (base : Full) (d : Database) (now : S) → IsAtRest pages (g.contents now) d → HasSessions g pages base d [] now now
    no_session base d now rests = record {
      full = base;
      setup = λ number. refl;
      printed = sym (append-nil (g.printed now));
      rests_on = record { after = d; rests = rests; reaches = reaches_none pages d };
      leaves = refl;
      causes = λ other number is. inl is;
    }

    zero_other : (n : ℕ) → (n == 0) ≡ false → (0 == n) ≡ false
    zero_other n not = grind (arith, nat_tests)

    module _ (base : Full) (d : Database) (session : Session) (alone : (session.number == 0) ≡ false) where
      sessions_lines : (full : Full) → flat_map line_of (sessions_answers sql full (session ∷ []) (settled (tables_of d))) ≡ all_lines full session.number session.texts (settled (tables_of d))
      sessions_lines full = ap (flat_map line_of) (append-nil (answers_to sql full session.number 1 session.texts (settled (tables_of d)) ++ answer_with session.number (length session.texts + 1) end_text ∷ []))

      pub one_session : (old new : S) → HasSession g pages base d session.number session.texts (settled (tables_of d)) old new → HasSessions g pages base d (session ∷ []) old new
      one_session old new has = record {
        full = has.full;
        setup = λ number. has.elsewhere 0 number (zero_other session.number alone);
        printed = has.printed ∙ ap (λ xs. g.printed old ++ xs) (sym (sessions_lines has.full));
        rests_on = has.rests_on;
        leaves = has.leaves;
        causes = has.causes;
      }

      pub one_part : (old new : S) → SessionPart g pages base d session.number session.texts (settled (tables_of d)) old new → SessionsPart g pages base d (session ∷ []) old new
      one_part old new has = record {
        full = has.full;
        setup = λ number. has.elsewhere 0 number (zero_other session.number alone);
        part = subst (λ lines. PrintsPart (g.printed old) lines (g.printed new)) (sym (sessions_lines has.full)) has.part;
        causes = has.causes;
      }

    -- ---- the script

    module _ (script : Script) (d : Database) where
      abbrev pub first : State
      first = settled (tables_of d)

      alike : (full other : Full) → ((number : ℕ) → other 0 number ≡ full 0 number) → AnswersAlike sql other full 0 1 script.setup first
      alike full other same = full_decides sql other full 0 1 script.setup first (λ k below. same (1 + k))

      -- the lines of the setup, and of the sessions behind it
      script_lines : (full other : Full) (mid : Database) → ((number : ℕ) → other 0 number ≡ full 0 number)
          → after_texts sql full 0 1 script.setup first ≡ settled (tables_of mid)
          → lines_of other script d ≡ flat_map line_of (answers_to sql full 0 1 script.setup first) ++ flat_map line_of (sessions_answers sql other script.sessions (settled (tables_of mid)))
      script_lines full other mid same leaves =
          flat_map-append line_of (answers_to sql other 0 1 script.setup first) (sessions_answers sql other script.sessions (after_texts sql other 0 1 script.setup first))
          ∙ (ap (λ xs. flat_map line_of xs ++ flat_map line_of (sessions_answers sql other script.sessions (after_texts sql other 0 1 script.setup first))) (alike full other same).answers
          ∙ ap (λ (s : State). flat_map line_of (answers_to sql full 0 1 script.setup first) ++ flat_map line_of (sessions_answers sql other script.sessions s)) ((alike full other same).after ∙ leaves))

      none_before : (P : Type 0) (session number : ℕ) → (none_full session number ≡ true) ⊎ P → P
      none_before P session number (inl is) = absurd (false≢true is)
      none_before P session number (inr p) = p

      pub script_over : (old mid new : S) → (setup : HasSetup g pages d script.setup old mid) → HasSessions g pages setup.full setup.rests_on.after script.sessions mid new
          → Played pages script d (g.contents new) (g.printed old) (g.printed new)
      script_over old mid new setup has =
          let mid_d = setup.rests_on.after in
          let last = has.rests_on.after in
          let lines = flat_map line_of (answers_to sql setup.full 0 1 script.setup first) in
          let more = flat_map line_of (sessions_answers sql has.full script.sessions (settled (tables_of mid_d))) in
          record {
            full = has.full;
            printed = has.printed ∙ (ap (λ xs. xs ++ more) setup.printed ∙ (append_assoc (g.printed old) lines more
                ∙ ap (λ xs. g.printed old ++ xs) (sym (script_lines setup.full has.full mid_d has.setup setup.leaves))));
            last = last;
            rests = has.rests_on.rests;
            tables = sym has.leaves ∙ ap (λ (s : State). (after_sessions sql has.full script.sessions s).committed) (sym ((alike setup.full has.full has.setup).after ∙ setup.leaves));
            course = reaches_on pages d mid_d last setup.rests_on.reaches has.rests_on.reaches;
            was_full = λ session number is. by session number (has.causes session number is);
          }
        where
          by : (session number : ℕ) → (setup.full session number ≡ true) ⊎ FillsUp pages setup.rests_on.after has.rests_on.after → FillsUp pages d has.rests_on.after
          by session number (inl was) = fills_later pages d setup.rests_on.after has.rests_on.after
              (none_before (FillsUp pages d setup.rests_on.after) session number (setup.causes session number was)) has.rests_on.reaches
          by session number (inr fills) = fills_earlier pages d setup.rests_on.after has.rests_on.after setup.rests_on.reaches fills

      pub sessions_stop : (old mid new : S) → (setup : HasSetup g pages d script.setup old mid) → SessionsPart g pages setup.full setup.rests_on.after script.sessions mid new
          → PlayedPart pages script d (g.printed old) (g.printed new)
      sessions_stop old mid new setup has = record {
        full = has.full;
        part = subst (λ lines. PrintsPart (g.printed old) lines (g.printed new)) (sym (script_lines setup.full has.full setup.rests_on.after has.setup setup.leaves))
            (part_behind (g.printed old) (flat_map line_of (answers_to sql setup.full 0 1 script.setup first)) (g.printed mid)
            (flat_map line_of (sessions_answers sql has.full script.sessions (settled (tables_of setup.rests_on.after)))) (g.printed new) setup.printed has.part);
        was_full = λ session number is. by session number (has.causes session number is);
      }
        where
          by : (session number : ℕ) → (setup.full session number ≡ true) ⊎ ReachesFull pages setup.rests_on.after → ReachesFull pages d
          by session number (inl was) = fills_reach pages d setup.rests_on.after (none_before (FillsUp pages d setup.rests_on.after) session number (setup.causes session number was))
          by session number (inr found) = reach_earlier pages d setup.rests_on.after setup.rests_on.reaches found

      pub setup_stops_script : (old new : S) → SetupPart g pages d script.setup old new → PlayedPart pages script d (g.printed old) (g.printed new)
      setup_stops_script old new has = record {
        full = has.full;
        part = subst (λ lines. PrintsPart (g.printed old) lines (g.printed new))
            (sym (flat_map-append line_of (answers_to sql has.full 0 1 script.setup first) (sessions_answers sql has.full script.sessions (after_texts sql has.full 0 1 script.setup first))))
            (part_longer (g.printed old) (flat_map line_of (answers_to sql has.full 0 1 script.setup first)) (flat_map line_of (sessions_answers sql has.full script.sessions (after_texts sql has.full 0 1 script.setup first))) (g.printed new) has.part);
        was_full = λ session number is. none_before (ReachesFull pages d) session number (has.causes session number is);
      }
