-- A run that goes on: by an answer, by the texts of a session, by a session.
use Rattle.std.proofs.Common.{◌≡◌, ◌⊎◌, inl, inr, ◌∙◌, ℕ, ◌+◌, ◌==◌, ◌&&◌, ap, sym, refl, subst, Bool, true, false, List, [], ◌∷◌, ◌++◌, length, append_assoc, append-nil, if◌then◌else◌}
use Rattle.std.specs.List.{flat_map}
use Rattle.std.proofs.lemmas.List.Concat.{flat_map-append}
use Rattle.isp_connection.specs.Answering.{meant, state_or_full}
use Rattle.isp_connection.specs.Connections.{ConnectionState}
use Rattle.isp_disk.specs.Outside.{PrintsPart}
use Rattle.isp_writes.specs.Causes.{FillsUp}
use Rattle.isp_chained.specs.Courses.{Course, Reaches}
use Rattle.isp_image.specs.Databases.{Database}
use Rattle.isp_page.specs.declared.pages.Pages.{Ghosts}
use Rattle.isp_plain.specs.Texts.{full_text}
use Rattle.isp_serial.specs.Alone.{Full, State, after_text, after_texts, answer_to, answers_to}
use Rattle.isp_serial.specs.Spelling.{line_of}
use Rattle.isp_sessions.specs.Plays.{ReachesFull}
use Rattle.isp_sessions.specs.Runs.{AnswersPart, FilledBehind, FilledBetween, HasAnswered, HasTexts, Runs, SameElsewhere, TextsPart, reply_line}
use Rattle.isp_sessions.specs.Sql.{sql}
use Rattle.isp_sessions.proofs.PrintLaws.{part_behind, part_longer}
use Rattle.isp_sessions.proofs.TextLaws.{after-append, answers-append, noting, noting_alike, noting_elsewhere, noting_here}

-- ---- the way of databases

course-append : (pages : ℕ) (old mid new : Database) (first second : List Database) → Course pages old first mid → Course pages mid second new → Course pages old (first ++ second) new
course-append pages old mid new [] second one two = subst (λ (d : Database). Course pages d second new) one two
course-append pages old mid new (next ∷ first) second one two = (one.0, one.1, course-append pages next mid new first second one.2 two)

pub reaches_on : (pages : ℕ) (old mid new : Database) → Reaches pages old mid → Reaches pages mid new → Reaches pages old new
reaches_on pages old mid new one two = (one.0 ++ two.0, course-append pages old mid new one.0 two.0 one.1 two.1)

-- nothing was done
pub reaches_none : (pages : ℕ) (d : Database) → Reaches pages d d
reaches_none pages d = ([], refl)

pub fills_later : (pages : ℕ) (old mid new : Database) → FillsUp pages old mid → Reaches pages mid new → FillsUp pages old new
fills_later pages old mid new fills on = record { at = fills.at; before = fills.before; behind = reaches_on pages fills.at mid new fills.behind on; full = fills.full }

pub fills_earlier : (pages : ℕ) (old mid new : Database) → Reaches pages old mid → FillsUp pages mid new → FillsUp pages old new
fills_earlier pages old mid new on fills = record { at = fills.at; before = reaches_on pages old mid fills.at on fills.before; behind = fills.behind; full = fills.full }

pub fills_reach : (pages : ℕ) (old new : Database) → FillsUp pages old new → ReachesFull pages old
fills_reach pages old new fills = record { at = fills.at; before = fills.before; full = fills.full }

pub reach_earlier : (pages : ℕ) (old mid : Database) → Reaches pages old mid → ReachesFull pages mid → ReachesFull pages old
reach_earlier pages old mid on found = record { at = found.at; before = reaches_on pages old mid found.at on found.before; full = found.full }

between_one : (pages : ℕ) (base : Full) (d after : Database) (session number : ℕ) → (base session number ≡ true) ⊎ FillsUp pages d after → (base session number ≡ true) ⊎ ReachesFull pages d
between_one pages base d after session number (inl old) = inl old
between_one pages base d after session number (inr fills) = inr (fills_reach pages d after fills)

pub between_behind : (pages : ℕ) (base full : Full) (d after : Database) → FilledBetween pages base full d after → FilledBehind pages base full d
between_behind pages base full d after between session number is = between_one pages base d after session number (between session number is)

-- ---- an answer

-- the line of the statement that a text means is that of the text's answer
line_is : (session number : ℕ) (full : Full) (text : List ℕ) (state : State) → (b : Bool) → full session number ≡ b →
    reply_line session number b state (meant session text state) ≡ line_of (answer_to sql full session number text state)
unfolding full_text
line_is session number full text state true is = rw is refl
line_is session number full text state false is = rw is refl

state_is : (session number : ℕ) (full : Full) (text : List ℕ) (state : State) → (b : Bool) → full session number ≡ b →
    state_or_full b state (meant session text state) ≡ after_text sql full session number text state
state_is session number full text state true is = rw is refl
state_is session number full text state false is = rw is refl

module _ {S : Type 0} (g : Ghosts S) (pages : ℕ) (base : Full) (d : Database) (session : ℕ) (state : State) where
  pub no_texts : (old : S) (c : ConnectionState) → Runs g old c state d → HasTexts g pages base d session [] state old old c
  no_texts old c runs = record {
    full = base;
    elsewhere = λ other number not. refl;
    printed = sym (append-nil (g.printed old));
    runs_on = record { after = d; runs = runs; reaches = reaches_none pages d };
    causes = λ other number is. inl is;
  }

  module _ (texts : List (List ℕ)) (text : List ℕ) (old mid : S) (c : ConnectionState) (before : HasTexts g pages base d session texts state old mid c) where
    abbrev pub number : ℕ
    number = 1 + length texts

    abbrev pub there : State
    there = after_texts sql before.full session 1 texts state

    -- with one statement more that finds the file full, or doesn't
    abbrev pub full_with : Bool → Full
    full_with b = noting before.full session number b

    elsewhere_with : (b : Bool) → SameElsewhere session base (full_with b)
    elsewhere_with b other n not = noting_elsewhere before.full session number b other n not ∙ before.elsewhere other n not

    same_answers : (b : Bool) → answers_to sql (full_with b) session 1 texts state ≡ answers_to sql before.full session 1 texts state
    same_answers b = (noting_alike sql before.full session texts b state).answers

    same_state : (b : Bool) → after_texts sql (full_with b) session 1 texts state ≡ there
    same_state b = (noting_alike sql before.full session texts b state).after

    -- the lines of the texts, and of one more
    lines_with : (b : Bool) → flat_map line_of (answers_to sql (full_with b) session 1 (texts ++ text ∷ []) state)
        ≡ flat_map line_of (answers_to sql before.full session 1 texts state) ++ reply_line session number b there (meant session text there)
    lines_with b =
        ap (flat_map line_of) (answers-append sql (full_with b) session 1 texts (text ∷ []) state)
        ∙ (flat_map-append line_of (answers_to sql (full_with b) session 1 texts state) (answer_to sql (full_with b) session number text (after_texts sql (full_with b) session 1 texts state) ∷ [])
        ∙ (ap (λ answers. flat_map line_of answers ++ flat_map line_of (answer_to sql (full_with b) session number text (after_texts sql (full_with b) session 1 texts state) ∷ [])) (same_answers b)
        ∙ ap (λ line. flat_map line_of (answers_to sql before.full session 1 texts state) ++ line) (append-nil (line_of (answer_to sql (full_with b) session number text (after_texts sql (full_with b) session 1 texts state)))
        ∙ (ap (λ s. line_of (answer_to sql (full_with b) session number text s)) (same_state b)
        ∙ sym (line_is session number (full_with b) text there b (noting_here before.full session number b))))))

    after_with : (b : Bool) → after_texts sql (full_with b) session 1 (texts ++ text ∷ []) state ≡ state_or_full b there (meant session text there)
    after_with b =
        after-append sql (full_with b) session 1 texts (text ∷ []) state
        ∙ (ap (λ s. after_text sql (full_with b) session number text s) (same_state b)
        ∙ sym (state_is session number (full_with b) text there b (noting_here before.full session number b)))

    causes_with : (b : Bool) (P : Type 0) → ((other n : ℕ) → before.full other n ≡ true → (base other n ≡ true) ⊎ P) → (b ≡ true → P)
        → (other n : ℕ) → full_with b other n ≡ true → (base other n ≡ true) ⊎ P
    causes_with b P old here other n = by ((other == session) && (n == number))
      where
        by : (same : Bool) → (if same then b else before.full other n) ≡ true → (base other n ≡ true) ⊎ P
        by true is = inr (here is)
        by false is = old other n is

    pub texts_more : (new : S) (c_now : ConnectionState) → HasAnswered g pages before.runs_on.after session number there (meant session text there) mid new c_now
        → HasTexts g pages base d session (texts ++ text ∷ []) state old new c_now
    texts_more new c_now here =
        let mid_d = before.runs_on.after in
        let last = here.runs_on.after in
        let onward = here.runs_on.reaches in
        record {
          full = full_with here.full;
          elsewhere = elsewhere_with here.full;
          printed = here.printed ∙ (ap (λ xs. xs ++ reply_line session number here.full there (meant session text there)) before.printed
              ∙ (append_assoc (g.printed old) (flat_map line_of (answers_to sql before.full session 1 texts state)) (reply_line session number here.full there (meant session text there))
              ∙ ap (λ xs. g.printed old ++ xs) (sym (lines_with here.full))));
          runs_on = record {
            after = last;
            runs = subst (λ (s : State). Runs g new c_now s last) (sym (after_with here.full)) here.runs_on.runs;
            reaches = reaches_on pages d mid_d last before.runs_on.reaches onward;
          };
          causes = causes_with here.full (FillsUp pages d last)
              (λ other n is. later_one other n (before.causes other n is))
              (λ is. fills_earlier pages d mid_d last before.runs_on.reaches (here.cause is));
        }
      where
        later_one : (other n : ℕ) → (base other n ≡ true) ⊎ FillsUp pages d before.runs_on.after → (base other n ≡ true) ⊎ FillsUp pages d here.runs_on.after
        later_one other n (inl was) = inl was
        later_one other n (inr fills) = inr (fills_later pages d before.runs_on.after here.runs_on.after fills here.runs_on.reaches)

    -- the answer was printed in part, with more texts behind it
    pub texts_stop : (more : List (List ℕ)) (new : S) → AnswersPart g pages before.runs_on.after session number there (meant session text there) mid new
        → TextsPart g pages base d session (texts ++ text ∷ more) state old new
    texts_stop more new here = record {
      full = full_with here.full;
      elsewhere = elsewhere_with here.full;
      part = subst (λ lines. PrintsPart (g.printed old) lines (g.printed new)) (sym all)
          (part_longer (g.printed old) (flat_map line_of (answers_to sql (full_with here.full) session 1 (texts ++ text ∷ []) state)) rest (g.printed new) shorter);
      causes = causes_with here.full (ReachesFull pages d)
          (λ other n is. between_one pages base d before.runs_on.after other n (before.causes other n is))
          (λ is. reach_earlier pages d before.runs_on.after before.runs_on.reaches (here.cause is));
    }
      where
        rest : List ℕ
        rest = flat_map line_of (answers_to sql (full_with here.full) session (1 + length (texts ++ text ∷ [])) more (after_texts sql (full_with here.full) session 1 (texts ++ text ∷ []) state))

        all : flat_map line_of (answers_to sql (full_with here.full) session 1 (texts ++ text ∷ more) state)
            ≡ flat_map line_of (answers_to sql (full_with here.full) session 1 (texts ++ text ∷ []) state) ++ rest
        all = ap (λ ts. flat_map line_of (answers_to sql (full_with here.full) session 1 ts state)) (sym (append_assoc texts (text ∷ []) more))
            ∙ (ap (flat_map line_of) (answers-append sql (full_with here.full) session 1 (texts ++ text ∷ []) more state)
            ∙ flat_map-append line_of (answers_to sql (full_with here.full) session 1 (texts ++ text ∷ []) state)
            (answers_to sql (full_with here.full) session (1 + length (texts ++ text ∷ [])) more (after_texts sql (full_with here.full) session 1 (texts ++ text ∷ []) state)))

        shorter : PrintsPart (g.printed old) (flat_map line_of (answers_to sql (full_with here.full) session 1 (texts ++ text ∷ []) state)) (g.printed new)
        shorter = subst (λ lines. PrintsPart (g.printed old) lines (g.printed new)) (sym (lines_with here.full))
            (part_behind (g.printed old) (flat_map line_of (answers_to sql before.full session 1 texts state)) (g.printed mid)
            (reply_line session number here.full there (meant session text there)) (g.printed new) before.printed here.part)
