-- Sessions of which one changes, and the entries that they placed in a tree.
use Rattle.std.proofs.Common.{◌≡◌, ◌∙◌, ◌+◌, inl, inr, refl, sym, ap, subst, ℕ, zero, suc, ◌&&◌, Bool, true, false, cond, Option, Some, None, List, [], ◌∷◌, arith}
use Rattle.std.specs.Prelude.{filter_map, slice_set}
use Rattle.std.specs.List.{cons_option}
use Rattle.std.proofs.lemmas.Bool.{and_parts}
use Rattle.isp_base.specs.Lists.{Has}
use Rattle.isp_forest.specs.Tree.{Tree}
use Rattle.isp_forest.specs.Search.{Search, Item, Known}
use Rattle.isp_laws.proofs.ListLaws.{Has-append, Has-append_left, Has-append_right}
use Rattle.isp_searches.proofs.FoundLaws.{forgetting_known}
use Rattle.isp_events.specs.Sessions.{Note, SessionState, session_at}
use Rattle.isp_events.specs.Deadlocks.{Deadlock, as_victim, with_victims}
use Rattle.isp_order.specs.Trees.{is_placing}
use Rattle.isp_order.specs.Searches.{is_in_tree, item_of, items_from, items_of}

-- ---- one session changes

-- what ties the session to its new state, and each session to itself, ties each to what it is then
pub set_relates : (R : SessionState → SessionState → Type 0) → ((x : SessionState) → R x x) → (sessions : List SessionState) (s : ℕ) (new : SessionState) → R (session_at sessions s) new
    → (j : ℕ) → R (session_at sessions j) (session_at (slice_set sessions s new) j)
set_relates R itself [] s new h j = itself (session_at [] j)
set_relates R itself (x ∷ sessions) zero new h zero = h
set_relates R itself (x ∷ sessions) zero new h (suc j) = itself (session_at sessions j)
set_relates R itself (x ∷ sessions) (suc s) new h zero = itself x
set_relates R itself (x ∷ sessions) (suc s) new h (suc j) = set_relates R itself sessions s new h j

-- what the change leaves is left of each
pub set_leaves : {Y : Type 0} (g : SessionState → Y) (sessions : List SessionState) (s : ℕ) (new : SessionState) → g new ≡ g (session_at sessions s)
    → (j : ℕ) → g (session_at (slice_set sessions s new) j) ≡ g (session_at sessions j)
set_leaves g sessions s new h j = set_relates (λ x y. g y ≡ g x) (λ x. refl) sessions s new h j

pub victims_leave : {Y : Type 0} (g : SessionState → Y) → ((x : SessionState) → g (as_victim x) ≡ g x) → (sessions : List SessionState) (ds : List Deadlock) (j : ℕ)
    → g (session_at (with_victims sessions ds) j) ≡ g (session_at sessions j)
victims_leave g same sessions [] j = refl
victims_leave g same sessions (d ∷ ds) j =
    victims_leave g same (slice_set sessions d.victim (as_victim (session_at sessions d.victim))) ds j
    ∙ set_leaves g sessions d.victim (as_victim (session_at sessions d.victim)) (same (session_at sessions d.victim)) j

-- ---- who placed an entry

pub record IsNoted (sessions : List SessionState) (k table column : ℕ) (i : Item) : Type 0 where
  pub place : ℕ
  pub note : Note
  pub has : Has (session_at sessions place).notes note
  pub is : item_of (k + place) table column note ≡ Some i

pub noted_in : {X Y : Type 0} (f : X → Option Y) (notes : List X) (i : Y) → Has (filter_map f notes) i → (note : X) × Has notes note × (f note ≡ Some i)
noted_in f [] i h = absurd h
noted_in {X = X} {Y = Y} f (n ∷ notes) i h = by_item (f n) refl h (λ k. noted_in f notes i k)
  where
    by_item : (o : Option Y) → f n ≡ o → Has (cons_option o (filter_map f notes)) i → (Has (filter_map f notes) i → (note : X) × Has notes note × (f note ≡ Some i))
        → (note : X) × Has (n ∷ notes) note × (f note ≡ Some i)
    by_item None e k again = let r = again k in (r.0, inr r.1, r.2)
    by_item (Some j) e (inl same) again = (n, inl refl, e ∙ ap Some same)
    by_item (Some j) e (inr k) again = let r = again k in (r.0, inr r.1, r.2)

pub in_noted : {X Y : Type 0} (f : X → Option Y) (notes : List X) (note : X) (i : Y) → Has notes note → f note ≡ Some i → Has (filter_map f notes) i
in_noted f [] note i h e = absurd h
in_noted f (n ∷ notes) note i (inl same) e = let here : f n ≡ Some i = ap f same ∙ e in rw here (inl refl)
in_noted {Y = Y} f (n ∷ notes) note i (inr h) e = later (f n) (in_noted f notes note i h e)
  where
    later : (o : Option Y) → Has (filter_map f notes) i → Has (cons_option o (filter_map f notes)) i
    later None k = k
    later (Some j) k = inr k

pub items_noted : (k table column : ℕ) (sessions : List SessionState) (i : Item) → Has (items_from k table column sessions) i → IsNoted sessions k table column i
items_noted k table column [] i h = absurd h
items_noted k table column (x ∷ sessions) i h = elim (Has-append (filter_map (item_of k table column) x.notes) (items_from (suc k) table column sessions) i h) [
  | inl here ↦ (let r = noted_in (item_of k table column) x.notes i here in
      let at : k + 0 ≡ k = omega arith in
      record { place = 0; note = r.0; has = r.1; is = subst (λ z. item_of z table column r.0 ≡ Some i) (sym at) r.2 })
  | inr more ↦ (let r : IsNoted sessions (suc k) table column i = items_noted (suc k) table column sessions i more in
      let at : suc k + r.place ≡ k + suc r.place = omega arith in
      record { place = suc r.place; note = r.note; has = r.has; is = subst (λ z. item_of z table column r.note ≡ Some i) at r.is })
]

pub noted_items : (k table column : ℕ) (sessions : List SessionState) (place : ℕ) (note : Note) (i : Item) → Has (session_at sessions place).notes note
    → item_of (k + place) table column note ≡ Some i → Has (items_from k table column sessions) i
noted_items k table column [] place note i h e = absurd h
noted_items k table column (x ∷ sessions) zero note i h e =
    let at : k + 0 ≡ k = omega arith in
    Has-append_left (filter_map (item_of k table column) x.notes) (items_from (suc k) table column sessions) i
    (in_noted (item_of k table column) x.notes note i h (subst (λ z. item_of z table column note ≡ Some i) at e))
noted_items k table column (x ∷ sessions) (suc place) note i h e =
    let at : k + suc place ≡ suc k + place = omega arith in
    Has-append_right (filter_map (item_of k table column) x.notes) (items_from (suc k) table column sessions) i
    (noted_items (suc k) table column sessions place note i h (subst (λ z. item_of z table column note ≡ Some i) at e))

-- it is of its session, and was placed
pub record IsItemOf (s : ℕ) (note : Note) (i : Item) : Type 0 where
  pub session : i.session ≡ s
  pub placing : is_placing note.how ≡ true
  pub statement : i.statement ≡ note.statement
  pub key : i.key ≡ note.entry.key
  pub number : i.number ≡ note.entry.number

pub item_is : (s table column : ℕ) (note : Note) (i : Item) → item_of s table column note ≡ Some i → IsItemOf s note i
item_is s table column note i h = by_test (is_placing note.how && is_in_tree table column note.entry) refl h
  where
    by_test : (b : Bool) → (is_placing note.how && is_in_tree table column note.entry) ≡ b
        → cond b (Some (record { session = s; statement = note.statement; key = note.entry.key; number = note.entry.number })) None ≡ Some i → IsItemOf s note i
    by_test true e k =
        let same : record { session = s; statement = note.statement; key = note.entry.key; number = note.entry.number } ≡ i = cc in
        record {
          session = ap (λ (z : Item). z.session) (sym same);
          placing = (and_parts (is_placing note.how) (is_in_tree table column note.entry) e).0;
          statement = ap (λ (z : Item). z.statement) (sym same);
          key = ap (λ (z : Item). z.key) (sym same);
          number = ap (λ (z : Item). z.number) (sym same);
        }
    by_test false e k = let no : ⊥ = cc in absurd no

-- ---- what is known, where sessions note more

-- each entry that the session placed is noted after
abbrev pub KeepsPlaced : List SessionState → List SessionState → ℕ → Type 0
KeepsPlaced sessions after s = (note : Note) → Has (session_at sessions s).notes note → is_placing note.how ≡ true → Has (session_at after s).notes note

pub items_kept : (sessions after : List SessionState) (table column : ℕ) (i : Item) → KeepsPlaced sessions after i.session → Has (items_of sessions table column) i
    → Has (items_of after table column) i
items_kept sessions after table column i keeps h =
    let n : IsNoted sessions 0 table column i = items_noted 0 table column sessions i h in
    let is : IsItemOf (0 + n.place) n.note i = item_is (0 + n.place) table column n.note i n.is in
    let at : n.place ≡ i.session = omega (arith, is.session) in
    let kept : Has (session_at after n.place).notes n.note =
    subst (λ z. Has (session_at after z).notes n.note) (sym at) (keeps n.note (subst (λ z. Has (session_at sessions z).notes n.note) at n.has) is.placing) in
    noted_items 0 table column after n.place n.note i kept n.is

pub known_noted : (tree : Tree) (x : Search) (sessions after : List SessionState) (table column : ℕ) → KeepsPlaced sessions after x.session
    → Known tree x (items_of sessions table column) → Known tree x (items_of after table column)
known_noted tree x sessions after table column keeps known = forgetting_known tree x (items_of sessions table column) (items_of after table column)
    (λ i h own. items_kept sessions after table column i (subst (λ z. KeepsPlaced sessions after z) (sym own) keeps) h) known

pub same_notes_keep : (sessions after : List SessionState) → ((j : ℕ) → (session_at after j).notes ≡ (session_at sessions j).notes) → (s : ℕ) → KeepsPlaced sessions after s
same_notes_keep sessions after same s = λ note h is. subst (λ (notes : List Note). Has notes note) (sym (same s)) h
