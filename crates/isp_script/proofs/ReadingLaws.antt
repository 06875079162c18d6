-- What reading lines gives: the lines of a script lead to its end, and what leads to an end is a script.
use Rattle.std.proofs.Common.{◌≡◌, ◌∙◌, ℕ, false, ap, sym, subst, refl, List, [], ◌∷◌, ◌++◌, map, append_assoc, append-nil, Option, Some, None, option_and_then}
use Rattle.std.specs.List.{cons_option}
use Rattle.std.proofs.lemmas.List.{map-append}
use Rattle.isp_serial.specs.declared.script.Script.{Script}
use Rattle.isp_serial.specs.declared.script.Session.{Session}
use Rattle.isp_script.specs.Grammar.{said_in, sessions_said, script_said, AtMostOne, Rises, IsScriptOfLines}
use Rattle.isp_script.specs.Lines.{line_of, setup_word, schedule_word, end_word, session_word}
use Rattle.isp_script.specs.Reading.{step, heard}
use Rattle.isp_script.specs.declared.lines.Line.{Line}
use Rattle.isp_script.specs.declared.lines.Line.TheVariants as line
use Rattle.isp_script.specs.declared.script.Reading.{Reading}
use Rattle.isp_script.specs.declared.script.Reading.TheVariants.{Nothing, InSetup, InSession, Scheduled, Ended}

-- how far lines lead
abbrev pub leads : Reading → List (List ℕ) → Option Reading
leads reading [] = Some reading
leads reading (bytes ∷ lines) = option_and_then (λ next. leads next lines) (heard reading (line_of bytes))

-- how far what is said leads
abbrev hear_all : Reading → List Line → Option Reading
hear_all reading [] = Some reading
hear_all reading (said ∷ others) = option_and_then (λ next. hear_all next others) (step reading said)

heard_first : (reading : Reading) (o : Option Line) (others : List Line) →
    option_and_then (λ next. hear_all next others) (heard reading o) ≡ hear_all reading (cons_option o others)
heard_first reading None others = refl
heard_first reading (Some said) others = refl

same_then : (f g : Reading → Option Reading) → ((next : Reading) → f next ≡ g next) → (o : Option Reading) → option_and_then f o ≡ option_and_then g o
same_then f g same None = refl
same_then f g same (Some next) = same next

-- lines lead as far as what they say
leads_as_said : (reading : Reading) (lines : List (List ℕ)) → leads reading lines ≡ hear_all reading (said_in lines)
leads_as_said reading [] = refl
leads_as_said reading (bytes ∷ lines) =
    same_then (λ next. leads next lines) (λ next. hear_all next (said_in lines)) (λ next. leads_as_said next lines) (heard reading (line_of bytes))
    ∙ heard_first reading (line_of bytes) (said_in lines)

leads_then : (lines more : List (List ℕ)) → ((next : Reading) → leads next (lines ++ more) ≡ option_and_then (λ end. leads end more) (leads next lines)) → (o : Option Reading) →
    option_and_then (λ next. leads next (lines ++ more)) o ≡ option_and_then (λ end. leads end more) (option_and_then (λ next. leads next lines) o)
leads_then lines more later None = refl
leads_then lines more later (Some next) = later next

pub leads_on : (reading : Reading) (lines more : List (List ℕ)) → leads reading (lines ++ more) ≡ option_and_then (λ end. leads end more) (leads reading lines)
leads_on reading [] more = refl
leads_on reading (bytes ∷ lines) more = leads_then lines more (λ next. leads_on next lines more) (heard reading (line_of bytes))

-- what has been said where so much is read
abbrev so_far : Reading → List Line
so_far Nothing = []
so_far (InSetup texts) = line.Setup ∷ map line.Statement texts
so_far (InSession first number texts) = (line.Setup ∷ map line.Statement first) ++ line.Session number ∷ map line.Statement texts
so_far (Scheduled texts sessions) = (line.Setup ∷ map line.Statement texts) ++ (sessions_said sessions ++ line.Schedule ∷ [])
so_far (Ended texts sessions) = (line.Setup ∷ map line.Statement texts) ++ (sessions_said sessions ++ line.Schedule ∷ line.End ∷ [])

abbrev HasOne : Reading → Type 0
HasOne Nothing = Unit {0}
HasOne (InSetup texts) = Unit {0}
HasOne (InSession first number texts) = Unit {0}
HasOne (Scheduled texts sessions) = AtMostOne sessions
HasOne (Ended texts sessions) = AtMostOne sessions

-- what is read next is what was said and one thing more
abbrev IsMore : Reading → Line → Option Reading → Type 0
IsMore reading said None = Unit {0}
IsMore reading said (Some next) = HasOne reading → HasOne next × (so_far next ≡ so_far reading ++ said ∷ [])

one_more : (reading : Reading) (said : Line) → IsMore reading said (step reading said)
one_more Nothing line.Setup = λ good. (tt, refl)
one_more Nothing (line.Statement t) = tt
one_more Nothing (line.Session k) = tt
one_more Nothing line.Schedule = tt
one_more Nothing line.End = tt
one_more Nothing line.Other = tt
one_more (InSetup texts) line.Setup = tt
one_more (InSetup texts) (line.Statement t) = λ good. (tt, ap (λ xs. line.Setup ∷ xs) (map-append line.Statement texts (t ∷ [])))
one_more (InSetup texts) (line.Session k) = λ good. (tt, refl)
one_more (InSetup texts) line.Schedule = λ good. (tt, refl)
one_more (InSetup texts) line.End = tt
one_more (InSetup texts) line.Other = tt
one_more (InSession first number texts) line.Setup = tt
one_more (InSession first number texts) (line.Statement t) = λ good. (
  tt,
  ap (λ xs. (line.Setup ∷ map line.Statement first) ++ line.Session number ∷ xs) (map-append line.Statement texts (t ∷ []))
      ∙ sym (append_assoc (line.Setup ∷ map line.Statement first) (line.Session number ∷ map line.Statement texts) (line.Statement t ∷ [])),
)
one_more (InSession first number texts) (line.Session k) = tt
one_more (InSession first number texts) line.Schedule = λ good. (
  tt,
  ap (λ xs. (line.Setup ∷ map line.Statement first) ++ (xs ++ line.Schedule ∷ [])) (append-nil (line.Session number ∷ map line.Statement texts))
      ∙ sym (append_assoc (line.Setup ∷ map line.Statement first) (line.Session number ∷ map line.Statement texts) (line.Schedule ∷ [])),
)
one_more (InSession first number texts) line.End = tt
one_more (InSession first number texts) line.Other = tt
one_more (Scheduled texts sessions) line.Setup = tt
one_more (Scheduled texts sessions) (line.Statement t) = tt
one_more (Scheduled texts sessions) (line.Session k) = tt
one_more (Scheduled texts sessions) line.Schedule = tt
one_more (Scheduled texts sessions) line.End = λ good. (
  good,
  ap (λ xs. (line.Setup ∷ map line.Statement texts) ++ xs) (sym (append_assoc (sessions_said sessions) (line.Schedule ∷ []) (line.End ∷ [])))
      ∙ sym (append_assoc (line.Setup ∷ map line.Statement texts) (sessions_said sessions ++ line.Schedule ∷ []) (line.End ∷ [])),
)
one_more (Scheduled texts sessions) line.Other = tt
one_more (Ended texts sessions) line.Setup = tt
one_more (Ended texts sessions) (line.Statement t) = tt
one_more (Ended texts sessions) (line.Session k) = tt
one_more (Ended texts sessions) line.Schedule = tt
one_more (Ended texts sessions) line.End = tt
one_more (Ended texts sessions) line.Other = tt

-- what is read is what was said
abbrev Spells : Reading → List Line → Reading → Type 0
Spells reading said end = HasOne end × (so_far end ≡ so_far reading ++ said)

spells_more : (reading : Reading) (said : Line) (others : List Line) (end : Reading) (o : Option Reading) → HasOne reading → IsMore reading said o →
    option_and_then (λ next. hear_all next others) o ≡ Some end → ((next : Reading) → HasOne next → hear_all next others ≡ Some end → Spells next others end) → Spells reading (said ∷ others) end
spells_more reading said others end None good more is later = cc
spells_more reading said others end (Some next) good more is later =
    let here = more good in
    let rest = later next here.0 is in
    (rest.0, rest.1 ∙ (ap (λ xs. xs ++ others) here.1 ∙ append_assoc (so_far reading) (said ∷ []) others))

spelled : (reading : Reading) (said : List Line) (end : Reading) → HasOne reading → hear_all reading said ≡ Some end → Spells reading said end
spelled reading [] end good is =
    let same : reading ≡ end = cc in
    (let P : Reading → Type 0 = HasOne in subst P same good, ap so_far (sym same) ∙ sym (append-nil (so_far reading)))
spelled reading (said ∷ others) end good is =
    spells_more reading said others end (step reading said) good (one_more reading said) is (λ next. spelled next others end)

rising : (sessions : List Session) → AtMostOne sessions → Rises sessions
rising [] one = tt
rising (s ∷ []) one = tt
rising (s ∷ t ∷ sessions) one = absurd one

abbrev pub script_with : List (List ℕ) → List Session → Script
script_with setup sessions = record { setup = setup; sessions = sessions; words = []; stop = false }

-- lines that lead to an end are a script
pub ends : (lines : List (List ℕ)) (setup : List (List ℕ)) (sessions : List Session) → leads Nothing lines ≡ Some (Ended setup sessions) → IsScriptOfLines lines (script_with setup sessions)
ends lines setup sessions is =
    let all = spelled Nothing (said_in lines) (Ended setup sessions) tt (sym (leads_as_said Nothing lines) ∙ is) in
    record { said = sym all.1; rising = rising sessions all.0; built = record { one = all.0; no_words = refl; no_stop = refl } }

hear_setup : (before texts : List (List ℕ)) (others : List Line) → hear_all (InSetup before) (map line.Statement texts ++ others) ≡ hear_all (InSetup (before ++ texts)) others
hear_setup before [] others = ap (λ ts. hear_all (InSetup ts) others) (sym (append-nil before))
hear_setup before (t ∷ texts) others =
    hear_setup (before ++ t ∷ []) texts others ∙ ap (λ ts. hear_all (InSetup ts) others) (append_assoc before (t ∷ []) texts)

hear_session : (first : List (List ℕ)) (number : ℕ) (before texts : List (List ℕ)) (others : List Line) →
    hear_all (InSession first number before) (map line.Statement texts ++ others) ≡ hear_all (InSession first number (before ++ texts)) others
hear_session first number before [] others = ap (λ ts. hear_all (InSession first number ts) others) (sym (append-nil before))
hear_session first number before (t ∷ texts) others =
    hear_session first number (before ++ t ∷ []) texts others ∙ ap (λ ts. hear_all (InSession first number ts) others) (append_assoc before (t ∷ []) texts)

hear_script : (texts : List (List ℕ)) (sessions : List Session) → AtMostOne sessions → hear_all Nothing (script_said texts sessions) ≡ Some (Ended texts sessions)
hear_script texts [] one = hear_setup [] texts (line.Schedule ∷ line.End ∷ [])
hear_script texts (s ∷ []) one =
    hear_setup [] texts ((line.Session s.number ∷ map line.Statement s.texts ++ []) ++ line.Schedule ∷ line.End ∷ [])
    ∙ (ap (λ xs. hear_all (InSession texts s.number []) (xs ++ line.Schedule ∷ line.End ∷ [])) (append-nil (map line.Statement s.texts))
    ∙ hear_session texts s.number [] s.texts (line.Schedule ∷ line.End ∷ []))
hear_script texts (s ∷ t ∷ sessions) one = absurd one

-- the lines of a script lead to its end
pub ended : (lines : List (List ℕ)) (script : Script) → IsScriptOfLines lines script → leads Nothing lines ≡ Some (Ended script.setup script.sessions)
ended lines script is =
    leads_as_said Nothing lines ∙ (ap (hear_all Nothing) is.said ∙ hear_script script.setup script.sessions is.built.one)

-- lines that lead from here to an end
abbrev pub completion : Reading → List (List ℕ)
completion Nothing = setup_word ∷ schedule_word ∷ end_word ∷ []
completion (InSetup setup) = schedule_word ∷ end_word ∷ []
completion (InSession setup number texts) = schedule_word ∷ end_word ∷ []
completion (Scheduled setup sessions) = end_word ∷ []
completion (Ended setup sessions) = []

pub completed : (reading : Reading) → (setup : List (List ℕ)) × (sessions : List Session) × (leads reading (completion reading) ≡ Some (Ended setup sessions))
unfolding setup_word schedule_word end_word session_word
completed Nothing = ([], [], refl)
completed (InSetup setup) = (setup, [], refl)
completed (InSession setup number texts) = (setup, record { number = number; texts = texts } ∷ [], refl)
completed (Scheduled setup sessions) = (setup, sessions, refl)
completed (Ended setup sessions) = (setup, sessions, refl)
