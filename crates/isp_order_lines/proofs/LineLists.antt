-- Lines one behind the other: waits, victims and answers, and where a line stands.
use Rattle.std.proofs.Common.{◌≡◌, ◌⊎◌, ◌∙◌, ◌+◌, ◌<◌, inl, inr, refl, sym, ap, subst, ℕ, zero, suc, ◌==◌, ◌||◌, not, cond, Bool, true, false, Option, Some, None, List, [], ◌∷◌, ◌++◌, length, arith, eqb-true, eq-eqb}
use Rattle.std.specs.Prelude.{MatchBool, slice_set}
use Rattle.std.specs.List.{cons_option}
use Rattle.std.proofs.lemmas.Bool.{false≢true}
use Rattle.isp_waits.specs.Graphs.{WaitsFor, waits_of}
use Rattle.isp_waits.specs.Cycles.{IsLeastCycle}
use Rattle.isp_waits.specs.Victims.{IsVictim}
use Rattle.isp_waits.proofs.Lists.{some_list}
use Rattle.isp_serial.specs.declared.script.Script.{Script}
use Rattle.isp_serial.specs.Answers.{Answer, answers_of}
use Rattle.isp_serial.specs.Transactions.{Language}
use Rattle.isp_forest.specs.Steps.{is_among}
use Rattle.isp_event_laws.proofs.ListTests.{empty_is}
use Rattle.isp_events.specs.Sessions.{SessionState, session_at}
use Rattle.isp_events.specs.State.{without}
use Rattle.isp_events.specs.Lines.{Edges, Line, Whose, answer_in, answers_in, deadlock, edges_after, edges_after_answer, edges_told}
use Rattle.isp_events.specs.Deadlocks.{AreDeadlocks, Deadlock, as_victim, broken, deadlock_lines, with_victims}
use Rattle.isp_order.proofs.SessionLaws.{other_at, same_at}
use Rattle.isp_order_locks.proofs.WaitGraphs.{Waiting, member_waits, nobody}
use Rattle.isp_order_lines.specs.Told.{victims_after, victims_answered, victims_told}

-- ---- one behind the other

pub edges_append : (script : Script) (language : Language) (edges : Edges) (lines more : List Line)
    → edges_after script language edges (lines ++ more) ≡ edges_after script language (edges_after script language edges lines) more
edges_append script language edges [] more = refl
edges_append script language edges (line ∷ lines) more = edges_append script language (edges_after_answer script language (answer_in line) (edges_told line.whose line.told edges)) lines more

pub victims_append : (victims : List ℕ) (lines more : List Line) → victims_after victims (lines ++ more) ≡ victims_after (victims_after victims lines) more
victims_append victims [] more = refl
victims_append victims (line ∷ lines) more = victims_append (victims_answered (answer_in line) (victims_told line.told victims)) lines more

answers_append : (lines more : List Line) → answers_in (lines ++ more) ≡ answers_in lines ++ answers_in more
answers_append [] more = refl
answers_append (line ∷ lines) more = by_answer (answer_in line) (answers_append lines more)
  where
    by_answer : (o : Option Answer) → answers_in (lines ++ more) ≡ answers_in lines ++ answers_in more → cons_option o (answers_in (lines ++ more)) ≡ cons_option o (answers_in lines) ++ answers_in more
    by_answer None again = again
    by_answer (Some a) again = ap (λ xs. a ∷ xs) again

-- how many answers of a session
abbrev pub count_in : ℕ → List Line → ℕ
count_in k lines = length (answers_of k (answers_in lines))

count_of : (k : ℕ) (xs ys : List Answer) → length (answers_of k (xs ++ ys)) ≡ length (answers_of k xs) + length (answers_of k ys)
count_of k [] ys = omega arith
count_of k (a ∷ xs) ys = by_test (a.session == k) (count_of k xs ys)
  where
    by_test : (b : Bool) → length (answers_of k (xs ++ ys)) ≡ length (answers_of k xs) + length (answers_of k ys)
        → length (cond b (a ∷ answers_of k (xs ++ ys)) (answers_of k (xs ++ ys))) ≡ length (cond b (a ∷ answers_of k xs) (answers_of k xs)) + length (answers_of k ys)
    by_test true again = omega (arith, again)
    by_test false again = again

pub count_append : (k : ℕ) (lines more : List Line) → count_in k (lines ++ more) ≡ count_in k lines + count_in k more
count_append k lines more = ap (λ xs. length (answers_of k xs)) (answers_append lines more) ∙ count_of k (answers_in lines) (answers_in more)

-- ---- where a line stands

-- within the first part, or behind it
pub record IsWithin (xs ys front later : List Line) (line : Line) : Type 0 where
  pub others : List Line
  pub here : xs ≡ front ++ line ∷ others

pub record IsBehind (xs ys front later : List Line) (line : Line) : Type 0 where
  pub mid : List Line
  pub front_is : front ≡ xs ++ mid
  pub there : ys ≡ mid ++ line ∷ later

cons_head : {Y : Type 0} (x y : Y) (xs ys : List Y) → x ∷ xs ≡ y ∷ ys → x ≡ y
cons_head x y xs ys h = cc

cons_tail : {Y : Type 0} (x y : Y) (xs ys : List Y) → x ∷ xs ≡ y ∷ ys → xs ≡ ys
cons_tail x y xs ys h = cc

pub divided : (xs ys front later : List Line) (line : Line) → xs ++ ys ≡ front ++ line ∷ later → IsWithin xs ys front later line ⊎ IsBehind xs ys front later line
divided [] ys front later line h = inr (record { mid = front; front_is = refl; there = h })
divided (x ∷ xs) ys [] later line h =
    inl (record { others = xs; here = ap (λ y. y ∷ xs) (cons_head x line (xs ++ ys) later h) })
divided (x ∷ xs) ys (y ∷ front) later line h =
    let head : x ≡ y = cons_head x y (xs ++ ys) (front ++ line ∷ later) h in
    elim (divided xs ys front later line (cons_tail x y (xs ++ ys) (front ++ line ∷ later) h)) [
      | inl w ↦ inl (record { others = w.others; here = ap (λ z. z ∷ xs) head ∙ ap (λ zs. y ∷ zs) w.here })
      | inr b ↦ inr (record { mid = b.mid; front_is = ap (λ z. z ∷ front) (sym head) ∙ ap (λ zs. x ∷ zs) b.front_is; there = b.there })
    ]

-- ---- numbers among others

pub among_self : (x : ℕ) (xs : List ℕ) → is_among (x ∷ xs) x ≡ true
among_self x xs = let own : (x == x) ≡ true = eq-eqb x x refl in ap (λ b. b || is_among xs x) own

pub among_other : (x k : ℕ) (xs : List ℕ) → (x == k) ≡ false → is_among (x ∷ xs) k ≡ is_among xs k
among_other x k xs ne = ap (λ b. b || is_among xs k) ne

pub gone_self : (xs : List ℕ) (s : ℕ) → is_among (without s xs) s ≡ false
gone_self [] s = refl
gone_self (x ∷ xs) s = by_test (x == s) refl (gone_self xs s)
  where
    by_test : (b : Bool) → (x == s) ≡ b → is_among (without s xs) s ≡ false → is_among (cond (not b) (x ∷ without s xs) (without s xs)) s ≡ false
    by_test true e again = again
    by_test false e again = ap (λ c. c || is_among (without s xs) s) e ∙ again

pub gone_other : (xs : List ℕ) (s k : ℕ) → (k == s) ≡ false → is_among (without s xs) k ≡ is_among xs k
gone_other [] s k ne = refl
gone_other (x ∷ xs) s k ne = by_test (x == s) refl (gone_other xs s k ne)
  where
    by_test : (b : Bool) → (x == s) ≡ b → is_among (without s xs) k ≡ is_among xs k → is_among (cond (not b) (x ∷ without s xs) (without s xs)) k ≡ ((x == k) || is_among xs k)
    by_test true e again = again ∙ sym (ap (λ c. c || is_among xs k) (other (x == k) refl))
      where
        other : (c : Bool) → (x == k) ≡ c → (x == k) ≡ false
        other false i = i
        other true i = absurd (false≢true (sym ne ∙ eq-eqb k s (sym (eqb-true x k i) ∙ eqb-true x s e)))
    by_test false e again = ap (λ c. (x == k) || c) again

-- ---- a list that is set to what it has

pub set_same : (waits : List (List ℕ)) (s : ℕ) → waits_of waits s ≡ [] → slice_set waits s [] ≡ waits
set_same [] zero h = refl
set_same [] (suc s) h = refl
set_same (x ∷ waits) zero h = ap (λ y. y ∷ waits) (sym h)
set_same (x ∷ waits) (suc s) h = ap (λ ys. x ∷ ys) (set_same waits s h)

pub set_length : (waits : List (List ℕ)) (s : ℕ) (list : List ℕ) → length (slice_set waits s list) ≡ length waits
set_length [] zero list = refl
set_length [] (suc s) list = refl
set_length (x ∷ waits) zero list = refl
set_length (x ∷ waits) (suc s) list = ap suc (set_length waits s list)

pub sessions_length : (sessions : List SessionState) (s : ℕ) (new : SessionState) → length (slice_set sessions s new) ≡ length sessions
sessions_length [] zero new = refl
sessions_length [] (suc s) new = refl
sessions_length (x ∷ sessions) zero new = refl
sessions_length (x ∷ sessions) (suc s) new = ap suc (sessions_length sessions s new)

-- ---- the lines of deadlocks

pub deadlock_edges : (script : Script) (language : Language) (edges : Edges) (turn : ℕ) (whose : Whose) (ds : List Deadlock)
    → edges_after script language edges (deadlock_lines turn whose ds) ≡ record edges { waits = broken edges.waits ds }
deadlock_edges script language edges turn whose [] = refl
deadlock_edges script language edges turn whose (d ∷ ds) = deadlock_edges script language (record edges { waits = slice_set edges.waits d.victim [] }) turn whose ds

pub deadlocks_answer_none : (turn : ℕ) (whose : Whose) (ds : List Deadlock) → answers_in (deadlock_lines turn whose ds) ≡ []
deadlocks_answer_none turn whose [] = refl
deadlocks_answer_none turn whose (d ∷ ds) = deadlocks_answer_none turn whose ds

-- a member of a cycle has a place among those who wait
pub member_within : (waits : List (List ℕ)) (s : ℕ) (d : Deadlock) (undo : List ℕ) → IsLeastCycle waits s d.members → IsVictim d.members undo d.victim → d.victim < length waits
member_within waits s d undo least chosen =
    let w : Waiting waits d.victim = member_waits waits d.members d.victim least.cycle chosen.member in
    some_list waits d.victim (by_test (length (waits_of waits d.victim) == 0) refl w.for w.edge)
  where
    by_test : (b : Bool) → (length (waits_of waits d.victim) == 0) ≡ b → (y : ℕ) → WaitsFor waits d.victim y → b ≡ false
    by_test false e y w = refl
    by_test true e y w = absurd (nobody waits d.victim y (empty_is (waits_of waits d.victim) e) w)

-- those named as victims are known as such
pub victims_known : (turn : ℕ) (whose : Whose) (undo : List ℕ) (s : ℕ) (ds : List Deadlock) (waits : List (List ℕ)) (sessions : List SessionState) (victims : List ℕ)
    → AreDeadlocks waits undo s ds → length sessions ≡ length waits → ((k : ℕ) → is_among victims k ≡ (session_at sessions k).victim) → (k : ℕ)
    → is_among (victims_after victims (deadlock_lines turn whose ds)) k ≡ (session_at (with_victims sessions ds) k).victim
victims_known turn whose undo s [] waits sessions victims are same known k = known k
victims_known turn whose undo s (d ∷ ds) waits sessions victims are same known k =
    by_test (d.victim == s) are.2 (λ more. victims_known turn whose undo s ds (slice_set waits d.victim []) now (d.victim ∷ victims) more
    (sessions_length sessions d.victim (as_victim (session_at sessions d.victim)) ∙ same ∙ sym (set_length waits d.victim [])) known_now k)
  where
    now : List SessionState
    now = slice_set sessions d.victim (as_victim (session_at sessions d.victim))

    inside : d.victim < length sessions
    inside = subst (λ n. d.victim < n) (sym same) (member_within waits s d undo are.0 are.1)

    known_now : (j : ℕ) → is_among (d.victim ∷ victims) j ≡ (session_at (slice_set sessions d.victim (as_victim (session_at sessions d.victim))) j).victim
    known_now j = by_place (d.victim == j) refl
      where
        by_place : (b : Bool) → (d.victim == j) ≡ b → is_among (d.victim ∷ victims) j ≡ (session_at (slice_set sessions d.victim (as_victim (session_at sessions d.victim))) j).victim
        by_place true e =
            let at : d.victim ≡ j = eqb-true d.victim j e in
            subst (λ i. is_among (d.victim ∷ victims) i ≡ (session_at (slice_set sessions d.victim (as_victim (session_at sessions d.victim))) i).victim) at
            (among_self d.victim victims ∙ sym (ap (λ (x : SessionState). x.victim) (same_at sessions d.victim (as_victim (session_at sessions d.victim)) inside)))
        by_place false e =
            among_other d.victim j victims e ∙ known j
            ∙ sym (ap (λ (x : SessionState). x.victim) (other_at sessions d.victim j (as_victim (session_at sessions d.victim)) (apart (j == d.victim) refl)))
          where
            apart : (c : Bool) → (j == d.victim) ≡ c → (j == d.victim) ≡ false
            apart false i = i
            apart true i = absurd (false≢true (sym e ∙ eq-eqb d.victim j (sym (eqb-true j d.victim i))))

    by_test : (b : Bool) → MatchBool b (ds ≡ []) (AreDeadlocks (slice_set waits d.victim []) undo s ds)
        → (AreDeadlocks (slice_set waits d.victim []) undo s ds → is_among (victims_after (d.victim ∷ victims) (deadlock_lines turn whose ds)) k ≡ (session_at (with_victims now ds) k).victim)
        → is_among (victims_after (d.victim ∷ victims) (deadlock_lines turn whose ds)) k ≡ (session_at (with_victims now ds) k).victim
    by_test true none again =
        subst (λ (xs : List Deadlock). is_among (victims_after (d.victim ∷ victims) (deadlock_lines turn whose xs)) k ≡ (session_at (with_victims now xs) k).victim) (sym none) (known_now k)
    by_test false more again = again more

-- ---- a deadlock among the lines of deadlocks

pub record IsAmongDeadlocks (waits : List (List ℕ)) (undo : List ℕ) (s turn : ℕ) (whose : Whose) (behind : List Line) (line : Line) : Type 0 where
  pub first : List Deadlock
  pub d : Deadlock
  pub behind_is : behind ≡ deadlock_lines turn whose first
  pub line_is : line ≡ record { turn = turn; whose = whose; told = deadlock d.members d.victim }
  pub cycle : IsLeastCycle (broken waits first) s d.members
  pub chosen : IsVictim d.members undo d.victim

pub among_deadlocks : (waits : List (List ℕ)) (undo : List ℕ) (s turn : ℕ) (whose : Whose) (ds : List Deadlock) (behind others : List Line) (line : Line)
    → AreDeadlocks waits undo s ds → deadlock_lines turn whose ds ≡ behind ++ line ∷ others → IsAmongDeadlocks waits undo s turn whose behind line
among_deadlocks waits undo s turn whose [] [] others line are h = let no : ⊥ = cc in absurd no
among_deadlocks waits undo s turn whose [] (b ∷ behind) others line are h = let no : ⊥ = cc in absurd no
among_deadlocks waits undo s turn whose (d ∷ ds) [] others line are h = record {
  first = [];
  d = d;
  behind_is = refl;
  line_is = sym (cons_head _ line (deadlock_lines turn whose ds) others h);
  cycle = are.0;
  chosen = are.1;
}
among_deadlocks waits undo s turn whose (d ∷ ds) (b ∷ behind) others line are h =
    by_test (d.victim == s) are.2 (λ more. among_deadlocks (slice_set waits d.victim []) undo s turn whose ds behind others line more tail)
  where
    tail : deadlock_lines turn whose ds ≡ behind ++ line ∷ others
    tail = cons_tail _ b (deadlock_lines turn whose ds) (behind ++ line ∷ others) h

    wrap : IsAmongDeadlocks (slice_set waits d.victim []) undo s turn whose behind line → IsAmongDeadlocks waits undo s turn whose (b ∷ behind) line
    wrap r = record {
      first = d ∷ r.first;
      d = r.d;
      behind_is = ap (λ x. x ∷ behind) (sym (cons_head _ b (deadlock_lines turn whose ds) (behind ++ line ∷ others) h)) ∙ ap (λ xs. record { turn = turn; whose = whose; told = deadlock d.members d.victim } ∷ xs) r.behind_is;
      line_is = r.line_is;
      cycle = r.cycle;
      chosen = r.chosen;
    }

    by_test : (t : Bool) → MatchBool t (ds ≡ []) (AreDeadlocks (slice_set waits d.victim []) undo s ds)
        → (AreDeadlocks (slice_set waits d.victim []) undo s ds → IsAmongDeadlocks (slice_set waits d.victim []) undo s turn whose behind line) → IsAmongDeadlocks waits undo s turn whose (b ∷ behind) line
    by_test true none again = absurd (nothing behind (sym (ap (deadlock_lines turn whose) none) ∙ tail))
      where
        nothing : (xs : List Line) → [] ≡ xs ++ line ∷ others → ⊥
        nothing [] e = cc
        nothing (x ∷ xs) e = cc
    by_test false more again = wrap (again more)
