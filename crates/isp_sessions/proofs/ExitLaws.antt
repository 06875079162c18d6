-- A run that goes on at the exits of calls: their results may be errors, and they speak of the session, the number and the pages
-- that stand at their beginning.
use Rattle.std.proofs.Common.{◌≡◌, ◌∙◌, ℕ, ◌+◌, ◌<◌, ◌≤◌, ap, sym, subst, List, [], ◌∷◌, ◌++◌, get_or, length, take, drop, arith, Result, Ok, Err}
use Rattle.std.specs.Prelude.{IfErr, OnErr, OnOk}
use Rattle.std.proofs.lemmas.List.{drop_more, length-take-le, take-append-drop, take_more}
use Rattle.isp_connection.specs.Answering.{meant}
use Rattle.isp_connection.specs.Connections.{ConnectionState}
use Rattle.isp_disk.specs.Outside.{PrintsPart}
use Rattle.isp_image.specs.Databases.{Database, tables_of}
use Rattle.isp_page.specs.State.{FileShape}
use Rattle.isp_page.specs.declared.fault.Fault.{Fault}
use Rattle.isp_page.specs.declared.pages.Pages.{Ghosts}
use Rattle.isp_plain.specs.Texts.{end_text}
use Rattle.isp_plain.specs.declared.statement.Reply.TheVariants as reply
use Rattle.isp_serial.specs.Alone.{Full, IsAlone, State, after_texts, answer_with, none_full, settled}
use Rattle.isp_serial.specs.Spelling.{line_of}
use Rattle.isp_serial.specs.declared.script.Script.{Script}
use Rattle.isp_serial.specs.declared.script.Session.{Session}
use Rattle.isp_sessions.specs.Plays.{IsAtRest, Played, PlayedPart}
use Rattle.isp_sessions.specs.Runs.{AnswersPart, HasAnswered, HasEnded, HasSession, HasSessions, HasSetup, HasTexts, PrintsReply, SessionPart, SessionsPart, SetupPart, TextsPart}
use Rattle.isp_sessions.specs.Sql.{sql}
use Rattle.isp_sessions.proofs.PlayLaws.{no_session, one_part, one_session, part_from, script_over, session_ends_partly, session_from, session_over, sessions_stop, setup_over, setup_stops}
use Rattle.isp_sessions.proofs.RunLaws.{texts_more, texts_stop}

-- what is known of a call that is known to have ended so
pub on_ok : (X : Type 0) (result : Result (Unit {0}) Fault) (x : Unit {0}) → result ≡ Ok x → OnOk result X → X
on_ok X result x is has = subst (λ (r : Result (Unit {0}) Fault). OnOk r X) is has

pub on_err : (X : Type 0) (result : Result (Unit {0}) Fault) (e : Fault) → result ≡ Err e → OnErr result X → X
on_err X result e is has = subst (λ (r : Result (Unit {0}) Fault). OnErr r X) is has

pub if_err : (P : Fault → Type 0) (result : Result (Unit {0}) Fault) (e : Fault) → result ≡ Err e → IfErr result P → P e
if_err P result e is has = subst (λ (r : Result (Unit {0}) Fault). IfErr r P) is has

module _ {S : Type 0} (g : Ghosts S) where
  same_pages : (old mid : S) → g.shape mid ≡ g.shape old → (g.shape mid).pages ≡ (g.shape old).pages
  same_pages old mid shape = ap (λ (s : FileShape). s.pages) shape

  -- ---- one text more of these

  module _ (base : Full) (d : Database) (session : ℕ) (texts : List (List ℕ)) (state : State) (old mid : S) (c : ConnectionState)
      (i : ℕ) (text : List ℕ) (within : i < length texts) (is : text ≡ get_or texts i text) (here : ℕ) (same : here ≡ session) (shape : g.shape mid ≡ g.shape old)
      (before : HasTexts g (g.shape old).pages base d session (take i texts) state old mid c) where
    abbrev pub there : State
    there = after_texts sql before.full session 1 (take i texts) state

    further : take (i + 1) texts ≡ take i texts ++ text ∷ []
    further = take_more texts i text within ∙ ap (λ (t : List ℕ). take i texts ++ t ∷ []) (sym is)

    whole : texts ≡ take i texts ++ text ∷ drop (i + 1) texts
    whole = sym (take-append-drop i texts) ∙ ap (λ ts. take i texts ++ ts) (drop_more texts i text within ∙ ap (λ (t : List ℕ). t ∷ drop (i + 1) texts) (sym is))

    numbered : i + 1 ≡ 1 + length (take i texts)
    numbered = let count : length (take i texts) ≡ i = length-take-le i texts (omega (arith, within)) in omega (arith, count)

    pub texts_next : (new : S) (c_now : ConnectionState)
        → HasAnswered g (g.shape mid).pages before.runs_on.after here (i + 1) there (meant here text there) mid new c_now
        → HasTexts g (g.shape old).pages base d session (take (i + 1) texts) state old new c_now
    texts_next new c_now has =
        let by_pages = subst (λ n. HasAnswered g n before.runs_on.after here (i + 1) there (meant here text there) mid new c_now) (same_pages old mid shape) has in
        let by_session = subst (λ n. HasAnswered g (g.shape old).pages before.runs_on.after n (i + 1) there (meant n text there) mid new c_now) same by_pages in
        let by_number = subst (λ n. HasAnswered g (g.shape old).pages before.runs_on.after session n there (meant session text there) mid new c_now) numbered by_session in
        subst (λ ts. HasTexts g (g.shape old).pages base d session ts state old new c_now) (sym further)
        (texts_more g (g.shape old).pages base d session state (take i texts) text old mid c before new c_now by_number)

    pub texts_cut : (new : S)
        → AnswersPart g (g.shape mid).pages before.runs_on.after here (i + 1) there (meant here text there) mid new
        → TextsPart g (g.shape old).pages base d session texts state old new
    texts_cut new has =
        let by_pages = subst (λ n. AnswersPart g n before.runs_on.after here (i + 1) there (meant here text there) mid new) (same_pages old mid shape) has in
        let by_session = subst (λ n. AnswersPart g (g.shape old).pages before.runs_on.after n (i + 1) there (meant n text there) mid new) same by_pages in
        let by_number = subst (λ n. AnswersPart g (g.shape old).pages before.runs_on.after session n there (meant session text there) mid new) numbered by_session in
        subst (λ ts. TextsPart g (g.shape old).pages base d session ts state old new) (sym whole)
        (texts_stop g (g.shape old).pages base d session state (take i texts) text old mid c before (drop (i + 1) texts) new by_number)

  -- ---- a session's end

  module _ (base : Full) (d : Database) (session : ℕ) (texts : List (List ℕ)) (state : State) (old mid new : S) (c : ConnectionState)
      (here number : ℕ) (same : here ≡ session) (last : number ≡ length texts + 1)
      (has : HasTexts g (g.shape old).pages base d session texts state old mid c) where
    pub session_ends : (c_now : ConnectionState) → g.shape mid ≡ g.shape old → g.shape new ≡ g.shape mid → (result : Result (Unit {0}) Fault)
        → OnOk result (HasEnded g (g.shape mid).pages has.runs_on.after here number (after_texts sql has.full session 1 texts state) mid new c_now)
        → OnOk result (HasSession g (g.shape old).pages base d session texts state old new)
    session_ends c_now shape later (Ok x) ended =
        let by_pages = subst (λ n. HasEnded g n has.runs_on.after here number (after_texts sql has.full session 1 texts state) mid new c_now) (same_pages old mid shape) ended in
        let by_session = subst (λ n. HasEnded g (g.shape old).pages has.runs_on.after n number (after_texts sql has.full session 1 texts state) mid new c_now) same by_pages in
        let by_number = subst (λ n. HasEnded g (g.shape old).pages has.runs_on.after session n (after_texts sql has.full session 1 texts state) mid new c_now) last by_session in
        session_over g (g.shape old).pages base d session texts state old mid new c c_now (same_pages old new (later ∙ shape)) has by_number
    session_ends c_now shape later (Err e) ended = tt

    pub session_cut : (result : Result (Unit {0}) Fault) → OnErr result (PrintsReply g here number reply.End mid new)
        → OnErr result (SessionPart g (g.shape old).pages base d session texts state old new)
    session_cut (Ok x) part = tt
    session_cut (Err e) part =
        let by_session = subst (λ n. PrintsPart (g.printed mid) (line_of (answer_with n number end_text)) (g.printed new)) same part in
        let by_number = subst (λ n. PrintsPart (g.printed mid) (line_of (answer_with session n end_text)) (g.printed new)) last by_session in
        session_ends_partly g (g.shape old).pages base d session texts state old mid new c has by_number

  -- ---- behind a connection's opening, of a session whose texts are those of the slice

  module _ (d : Database) (slice texts : List (List ℕ)) (are : slice ≡ texts) (old mid new : S) (here : ℕ) (shape : g.shape mid ≡ g.shape old) (silent : g.printed mid ≡ g.printed old) where
    pub setup_ends : here ≡ 0 → (c_now : ConnectionState) → g.shape new ≡ g.shape mid → (result : Result (Unit {0}) Fault)
        → OnOk result (HasTexts g (g.shape mid).pages none_full d here slice (settled (tables_of d)) mid new c_now)
        → OnOk result (HasSetup g (g.shape old).pages d texts old new)
    setup_ends same c_now later (Ok x) has =
        let by_pages = subst (λ n. HasTexts g n none_full d here slice (settled (tables_of d)) mid new c_now) (same_pages old mid shape) has in
        let by_session = subst (λ n. HasTexts g (g.shape old).pages none_full d n slice (settled (tables_of d)) mid new c_now) same by_pages in
        let by_texts = subst (λ ts. HasTexts g (g.shape old).pages none_full d 0 ts (settled (tables_of d)) mid new c_now) are by_session in
        setup_over g (g.shape old).pages d texts old mid new c_now (same_pages old new (later ∙ shape)) silent by_texts
    setup_ends same c_now later (Err e) has = tt

    pub setup_cut : here ≡ 0 → (result : Result (Unit {0}) Fault)
        → OnErr result (TextsPart g (g.shape mid).pages none_full d here slice (settled (tables_of d)) mid new)
        → OnErr result (SetupPart g (g.shape old).pages d texts old new)
    setup_cut same (Ok x) has = tt
    setup_cut same (Err e) has =
        let by_pages = subst (λ n. TextsPart g n none_full d here slice (settled (tables_of d)) mid new) (same_pages old mid shape) has in
        let by_session = subst (λ n. TextsPart g (g.shape old).pages none_full d n slice (settled (tables_of d)) mid new) same by_pages in
        let by_texts = subst (λ ts. TextsPart g (g.shape old).pages none_full d 0 ts (settled (tables_of d)) mid new) are by_session in
        setup_stops g (g.shape old).pages d texts old mid new silent by_texts

    pub opened_ends : (session : ℕ) → here ≡ session → (base : Full) (result : Result (Unit {0}) Fault)
        → OnOk result (HasSession g (g.shape mid).pages base d here slice (settled (tables_of d)) mid new)
        → OnOk result (HasSession g (g.shape old).pages base d session texts (settled (tables_of d)) old new)
    opened_ends session same base (Ok x) has =
        let by_pages = subst (λ n. HasSession g n base d here slice (settled (tables_of d)) mid new) (same_pages old mid shape) has in
        let by_session = subst (λ n. HasSession g (g.shape old).pages base d n slice (settled (tables_of d)) mid new) same by_pages in
        let by_texts = subst (λ ts. HasSession g (g.shape old).pages base d session ts (settled (tables_of d)) mid new) are by_session in
        session_from g (g.shape old).pages base d session texts (settled (tables_of d)) old mid new silent by_texts
    opened_ends session same base (Err e) has = tt

    pub opened_cut : (session : ℕ) → here ≡ session → (base : Full) (result : Result (Unit {0}) Fault)
        → OnErr result (SessionPart g (g.shape mid).pages base d here slice (settled (tables_of d)) mid new)
        → OnErr result (SessionPart g (g.shape old).pages base d session texts (settled (tables_of d)) old new)
    opened_cut session same base (Ok x) has = tt
    opened_cut session same base (Err e) has =
        let by_pages = subst (λ n. SessionPart g n base d here slice (settled (tables_of d)) mid new) (same_pages old mid shape) has in
        let by_session = subst (λ n. SessionPart g (g.shape old).pages base d n slice (settled (tables_of d)) mid new) same by_pages in
        let by_texts = subst (λ ts. SessionPart g (g.shape old).pages base d session ts (settled (tables_of d)) mid new) are by_session in
        part_from g (g.shape old).pages base d session texts (settled (tables_of d)) old mid new silent by_texts

  -- ---- the one session of a slice, or none

  module _ (pages : ℕ) (base : Full) (d : Database) (old new : S) where
    pub none_ends : (slice sessions : List Session) → slice ≡ sessions → length slice < 1 → IsAtRest pages (g.contents old) d → HasSessions g pages base d sessions old old
    none_ends slice sessions are few rests = subst (λ ss. HasSessions g pages base d ss old old) are (by slice few)
      where
        by : (ss : List Session) → length ss < 1 → HasSessions g pages base d ss old old
        by [] less = no_session g pages base d old rests
        by (s ∷ ss) less = absurd (omega (arith, less))

    one_ends : (sessions : List Session) → IsAlone sessions → (first : Session) → 1 ≤ length sessions → first ≡ get_or sessions 0 first → (result : Result (Unit {0}) Fault)
        → OnOk result (HasSession g pages base d first.number first.texts (settled (tables_of d)) old new) → OnOk result (HasSessions g pages base d sessions old new)
    one_ends [] alone first some is result has = absurd (omega (arith, some))
    one_ends (s ∷ []) alone first some is (Ok x) has =
        one_session g pages base d s alone old new (subst (λ (f : Session). HasSession g pages base d f.number f.texts (settled (tables_of d)) old new) is has)
    one_ends (s ∷ []) alone first some is (Err e) has = tt
    one_ends (s ∷ other ∷ sessions) alone first some is result has = absurd alone

    one_cut : (sessions : List Session) → IsAlone sessions → (first : Session) → 1 ≤ length sessions → first ≡ get_or sessions 0 first → (result : Result (Unit {0}) Fault)
        → OnErr result (SessionPart g pages base d first.number first.texts (settled (tables_of d)) old new) → OnErr result (SessionsPart g pages base d sessions old new)
    one_cut [] alone first some is result has = absurd (omega (arith, some))
    one_cut (s ∷ []) alone first some is (Ok x) has = tt
    one_cut (s ∷ []) alone first some is (Err e) has =
        one_part g pages base d s alone old new (subst (λ (f : Session). SessionPart g pages base d f.number f.texts (settled (tables_of d)) old new) is has)
    one_cut (s ∷ other ∷ sessions) alone first some is result has = absurd alone

    module _ (slice sessions : List Session) (are : slice ≡ sessions) (alone : IsAlone sessions) (first : Session) (some : 1 ≤ length slice) (is : first ≡ get_or slice 0 first) (result : Result (Unit {0}) Fault) where
      pub sessions_end : OnOk result (HasSession g pages base d first.number first.texts (settled (tables_of d)) old new) → OnOk result (HasSessions g pages base d sessions old new)
      sessions_end has = subst (λ ss. OnOk result (HasSessions g pages base d ss old new)) are (one_ends slice (subst IsAlone (sym are) alone) first some is result has)

      pub sessions_cut : OnErr result (SessionPart g pages base d first.number first.texts (settled (tables_of d)) old new) → OnErr result (SessionsPart g pages base d sessions old new)
      sessions_cut has = subst (λ ss. OnErr result (SessionsPart g pages base d ss old new)) are (one_cut slice (subst IsAlone (sym are) alone) first some is result has)

  -- ---- behind the setup

  module _ (script : Script) (d : Database) (old mid new : S) (shape : g.shape mid ≡ g.shape old) (setup : HasSetup g (g.shape old).pages d script.setup old mid) where
    pub rests_behind : IsAtRest (g.shape mid).pages (g.contents mid) setup.rests_on.after
    rests_behind = subst (λ n. IsAtRest n (g.contents mid) setup.rests_on.after) (sym (same_pages old mid shape)) setup.rests_on.rests

    pub script_ends : (result : Result (Unit {0}) Fault)
        → OnOk result (HasSessions g (g.shape mid).pages setup.full setup.rests_on.after script.sessions mid new)
        → OnOk result (Played (g.shape old).pages script d (g.contents new) (g.printed old) (g.printed new))
    script_ends (Ok x) has =
        script_over g (g.shape old).pages script d old mid new setup
        (subst (λ n. HasSessions g n setup.full setup.rests_on.after script.sessions mid new) (same_pages old mid shape) has)
    script_ends (Err e) has = tt

    pub script_cut : (result : Result (Unit {0}) Fault)
        → OnErr result (SessionsPart g (g.shape mid).pages setup.full setup.rests_on.after script.sessions mid new)
        → OnErr result (PlayedPart (g.shape old).pages script d (g.printed old) (g.printed new))
    script_cut (Ok x) has = tt
    script_cut (Err e) has =
        sessions_stop g (g.shape old).pages script d old mid new setup
        (subst (λ n. SessionsPart g n setup.full setup.rests_on.after script.sessions mid new) (same_pages old mid shape) has)
