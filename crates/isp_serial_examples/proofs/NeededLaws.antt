-- Weaker clauses hold in states from which answers come that are not serial, by computation.
use Rattle.std.proofs.Common.{◌≡◌, ◌⊎◌, ◌≤◌, inl, inr, refl, sym, ap, subst, ◌∙◌, ℕ, ℤ, pos, true, false, Some, None, List, [], ◌∷◌, arith}
use Rattle.std.specs.Prelude.{codes}
use Rattle.std.specs.Fmt.{digits}
use Rattle.std.specs.Ordering.{int_eq}
use Rattle.std.proofs.lemmas.Bool.{false≢true}
use Rattle.isp_base.specs.Lists.{Has}
use Rattle.isp_waits.specs.Levels.{reaches, walk}
use Rattle.isp_geom.specs.Bounds.{points_of}
use Rattle.isp_geom.specs.Spelling.{spelling}
use Rattle.isp_wkt.specs.Printed.{printed}
use Rattle.isp_wkt.specs.Words.{word}
use Rattle.isp_mbr.specs.Predicates.{satisfies}
use Rattle.isp_plain.specs.Texts.{deadlock_text, end_text, full_text, ok_text}
use Rattle.isp_plain.specs.Refusals.{state, words}
use Rattle.isp_plain.specs.declared.statement.Statement.{Statement}
use Rattle.isp_plain.specs.declared.statement.Statement.TheVariants.{Begin, Commit}
use Rattle.isp_serial.specs.declared.script.Word.{Word}
use Rattle.isp_forest.specs.declared.entry.Entry.{Entry}
use Rattle.isp_forest.specs.declared.entry.To.{To}
use Rattle.isp_forest.specs.declared.entry.To.TheVariants as to
use Rattle.isp_forest.specs.Tree.{Node, Tree, page_at}
use Rattle.isp_forest.specs.Search.{IsOwn, Item, Known, Search}
use Rattle.isp_laws.specs.Examples.{box, point}
use Rattle.isp_forest.specs.Steps.{entry_for}
use Rattle.isp_laws.specs.SearchExamples.{meets_box}
use Rattle.isp_events.specs.Stored.{StoredTable, table_at, tree_of}
use Rattle.isp_events.specs.Sessions.{SessionState}
use Rattle.isp_events.specs.State.{TreeSearch}
use Rattle.isp_events.specs.Views.{committed}
use Rattle.isp_event_laws.specs.SerialAfter.{serial_from}
use Rattle.isp_serial.specs.Serial.{none_pending}
use Rattle.isp_events.specs.Ways.{Machine}
use Rattle.isp_events.specs.Next.{next}
use Rattle.isp_events.specs.Events.{Event, MayFollow, after_all, lines_of_all}
use Rattle.isp_event_laws.proofs.EventTests.{follow_by_test}
use Rattle.isp_order.specs.Searches.{AreKnown, items_of}
use Rattle.isp_order.specs.InOrder.{InOrder, IsProper}
use Rattle.isp_order.proofs.RestedLaws.{in_order}
use Rattle.isp_order_whole.proofs.WholeLaws.{stays_in_order}
use Rattle.isp_order_examples.proofs.RestedPointLaws.{five_rested}
use Rattle.isp_event_examples.specs.Points.{adding_point, five, machine_of, points_meeting}
use Rattle.isp_event_examples.specs.WrongRuns.{texts}
use Rattle.isp_event_examples.proofs.LanguageLaws.{language_fits}
use Rattle.isp_serial_examples.proofs.LeftOutLaws.{ended, left_out_in_order, on_course, tell, told}
use Rattle.isp_serial_examples.specs.NeededClauses.{AreKnownOrOwn, IsPlacedByOwn, KnownIsNeeded, KnownOrOwn, answers_left_out, left_out, looking, texts_in, to_commit, until_leaf}

-- ---- events lead from the five points to states in order

led : (statements : List Statement) (first second : List (List ℕ)) (words : List Word) (events : List Event) → MayFollow (machine_of statements first second words) 1 1 five events
    → InOrder (machine_of statements first second words) (after_all (machine_of statements first second words) five events)
led statements first second words events happen =
    let m : Machine = machine_of statements first second words in
    let good : IsProper m = record { faithful = language_fits.faithful statements; servable = language_fits.servable statements; sound = language_fits.sound } in
    stays_in_order m 1 1 five (after_all m five events) (lines_of_all m five events) good (in_order m five (five_rested statements first second words))
    (record { events = events; happen = happen; told = refl; ends = refl })

-- ---- one search, that lacks one entry

abbrev key_in : To → ℤ
key_in (to.Child p) = pos 0
key_in (to.Row key number) = key

abbrev number_in : To → ℕ
number_in (to.Child p) = 0
number_in (to.Row key number) = number

abbrev lacking : List Entry
lacking = point 0 0 1 0 ∷ point 10 0 2 1 ∷ point 5 5 5 4 ∷ point 1 1 6 5 ∷ []

-- the search is on the root and the leaf, whose last entry it hasn't found, and which its session placed in an earlier statement
record Lacks (tree : Tree) (x : Search) (items : List Item) : Type 0 where
  root : Node
  leaf : Node
  item : Item
  on : x.on ≡ 17 ∷ 19 ∷ []
  root_there : page_at tree 17 ≡ Some root
  above : root.level ≡ 1
  leaf_there : page_at tree 19 ≡ Some leaf
  level : leaf.level ≡ 0
  entries : leaf.entries ≡ lacking
  second : satisfies x.predicate (point 10 0 2 1).b ≡ false
  third : satisfies x.predicate (point 5 5 5 4).b ≡ false
  last : satisfies x.predicate (point 1 1 6 5).b ≡ true
  found : x.found ≡ pos 1 ∷ []
  items_are : items ≡ item ∷ []
  session : item.session ≡ x.session
  key : item.key ≡ pos 6
  number : item.number ≡ 5
  statement : item.statement ≡ 2
  searching : x.statement ≡ 3

some_is : {A : Type 0} (x y : A) → Some x ≡ Some y → x ≡ y
some_is x y h = cc

not_both : (k n : ℕ) → k ≡ 1 → k ≡ n → n ≡ 0 → ⊥
not_both k n one same none = omega (arith, one, same, none)

lacks_weaker : (tree : Tree) (x : Search) (items : List Item) → Lacks tree x items → KnownOrOwn tree x items
lacks_weaker tree x items l p leaf e key number on there level has is_row sat = by_page (subst (λ (ps : List ℕ). Has ps p) l.on on)
  where
    by_entry : Has lacking e → Has x.found key ⊎ IsPlacedByOwn x items key number
    by_entry (inl is) = inl (subst (λ (keys : List ℤ). Has keys key) (sym l.found) (inl (ap (λ (y : Entry). key_in y.to) is ∙ ap key_in is_row)))
    by_entry (inr (inl is)) = absurd (false≢true (sym l.second ∙ (ap (λ (y : Entry). satisfies x.predicate y.b) is ∙ sat)))
    by_entry (inr (inr (inl is))) = absurd (false≢true (sym l.third ∙ (ap (λ (y : Entry). satisfies x.predicate y.b) is ∙ sat)))
    by_entry (inr (inr (inr (inl is)))) = inr (record {
      item = l.item;
      among = subst (λ (is : List Item). Has is l.item) (sym l.items_are) (inl refl);
      session = l.session;
      same_key = l.key ∙ (ap (λ (y : Entry). key_in y.to) is ∙ ap key_in is_row);
      same_number = l.number ∙ (ap (λ (y : Entry). number_in y.to) is ∙ ap number_in is_row);
    })
    by_entry (inr (inr (inr (inr h)))) = absurd h

    by_page : Has (17 ∷ 19 ∷ []) p → Has x.found key ⊎ IsPlacedByOwn x items key number
    by_page (inl is) =
        let same : l.root ≡ leaf = some_is l.root leaf (sym l.root_there ∙ (ap (page_at tree) is ∙ there)) in
        absurd (not_both l.root.level leaf.level l.above (ap (λ (n : Node). n.level) same) level)
    by_page (inr (inl is)) =
        let same : l.leaf ≡ leaf = some_is l.leaf leaf (sym l.leaf_there ∙ (ap (page_at tree) is ∙ there)) in
        by_entry (subst (λ (es : List Entry). Has es e) (sym (ap (λ (n : Node). n.entries) same) ∙ l.entries) has)
    by_page (inr (inr h)) = absurd h

lacks_fails : (tree : Tree) (x : Search) (items : List Item) → Lacks tree x items → Known tree x items → ⊥
lacks_fails tree x items l h =
    by_case (h 19 l.leaf (point 1 1 6 5) (pos 6) 5 (subst (λ (ps : List ℕ). Has ps 19) (sym l.on) (inr (inl refl))) l.leaf_there l.level
    (subst (λ (es : List Entry). Has es (point 1 1 6 5)) (sym l.entries) (inr (inr (inr (inl refl))))) refl l.last)
  where
    not_found : Has (pos 1 ∷ []) (pos 6) → ⊥
    not_found (inl is) = false≢true (sym (ap (int_eq (pos 1)) is))
    not_found (inr h) = h

    of_item : (o : IsOwn x items (pos 6) 5) → Has (l.item ∷ []) o.item → ⊥
    of_item o (inl is) = let late : 3 ≤ 2 = subst (λ (k : ℕ). k ≤ 2) l.searching (subst (λ (k : ℕ). x.statement ≤ k) (sym (ap (λ (i : Item). i.statement) is) ∙ l.statement) o.later) in omega (arith, late)
    of_item o (inr h) = h

    by_case : Has x.found (pos 6) ⊎ IsOwn x items (pos 6) 5 → ⊥
    by_case (inl has) = not_found (subst (λ (keys : List ℤ). Has keys (pos 6)) l.found has)
    by_case (inr o) = of_item o (subst (λ (is : List Item). Has is o.item) l.items_are o.among)

-- of the one search there is
one_is_weaker : (tables : List StoredTable) (searches : List TreeSearch) (sessions : List SessionState) (y : TreeSearch) → searches ≡ y ∷ []
    → Lacks (tree_of (table_at tables y.table) y.column) y.search (items_of sessions y.table y.column) → AreKnownOrOwn tables searches sessions
one_is_weaker tables searches sessions y one l x has = by_place (subst (λ (xs : List TreeSearch). Has xs x) one has)
  where
    by_place : Has (y ∷ []) x → KnownOrOwn (tree_of (table_at tables x.table) x.column) x.search (items_of sessions x.table x.column)
    by_place (inl is) =
        subst (λ (z : TreeSearch). KnownOrOwn (tree_of (table_at tables z.table) z.column) z.search (items_of sessions z.table z.column)) is
        (lacks_weaker (tree_of (table_at tables y.table) y.column) y.search (items_of sessions y.table y.column) l)
    by_place (inr h) = absurd h

one_fails : (tables : List StoredTable) (searches : List TreeSearch) (sessions : List SessionState) (y : TreeSearch) → searches ≡ y ∷ []
    → Lacks (tree_of (table_at tables y.table) y.column) y.search (items_of sessions y.table y.column) → AreKnown tables searches sessions → ⊥
one_fails tables searches sessions y one l h =
    lacks_fails (tree_of (table_at tables y.table) y.column) y.search (items_of sessions y.table y.column) l
    (h y (subst (λ (xs : List TreeSearch). Has xs y) (sym one) (inl refl)))

-- ---- a search leaves out an entry of its own transaction

looking_happens : MayFollow looking 1 1 five until_leaf
unfolding next points_of spelling
looking_happens = follow_by_test looking 1 1 five until_leaf refl

goes_on : MayFollow looking 1 1 left_out to_commit
unfolding next points_of spelling
goes_on = follow_by_test looking 1 1 left_out to_commit refl

-- what there is then, written out
abbrev the_search : TreeSearch
the_search = record {
  table = 1;
  column = 1;
  search = record { session = 1; statement = 3; predicate = meets_box 0 0 2 2; on = 17 ∷ 19 ∷ []; stack = []; found = pos 1 ∷ [] };
}

abbrev the_item : Item
the_item = record { session = 1; statement = 2; key = pos 6; number = 5 }

abbrev the_root : Node
the_root = record { level = 1; ssn = 1; next = None; entries = entry_for (box 0 0 10 5) 19 ∷ entry_for (box 0 10 10 10) 20 ∷ [] }

abbrev the_leaf : Node
the_leaf = record { level = 0; ssn = 1; next = Some 20; entries = lacking }

root_is : page_at (tree_of (table_at left_out.tables 1) 1) 17 ≡ Some the_root
unfolding next points_of spelling
root_is = refl

leaf_is : page_at (tree_of (table_at left_out.tables 1) 1) 19 ≡ Some the_leaf
unfolding next points_of spelling
leaf_is = refl

items_are : items_of left_out.sessions 1 1 ≡ the_item ∷ []
unfolding next points_of spelling
items_are = refl

one_search : left_out.searches ≡ the_search ∷ []
unfolding next points_of spelling
one_search = refl

misses_second : satisfies (meets_box 0 0 2 2) (point 10 0 2 1).b ≡ false
unfolding points_of
misses_second = refl

misses_third : satisfies (meets_box 0 0 2 2) (point 5 5 5 4).b ≡ false
unfolding points_of
misses_third = refl

meets_last : satisfies (meets_box 0 0 2 2) (point 1 1 6 5).b ≡ true
unfolding points_of
meets_last = refl

lacks : Lacks (tree_of (table_at left_out.tables 1) 1) the_search.search (items_of left_out.sessions 1 1)
lacks = record {
  root = the_root;
  leaf = the_leaf;
  item = the_item;
  on = refl;
  root_there = root_is;
  above = refl;
  leaf_there = leaf_is;
  level = refl;
  entries = refl;
  second = misses_second;
  third = misses_third;
  last = meets_last;
  found = refl;
  items_are = items_are;
  session = refl;
  key = refl;
  number = refl;
  statement = refl;
  searching = refl;
}

answered : texts_in answers_left_out ≡ codes "OK" ∷ codes "OK 1 rows" ∷ codes "OK 1 rows (1,POINT(0 0))" ∷ codes "OK" ∷ []
unfolding next points_of spelling printed word digits ok_text end_text full_text deadlock_text state words reaches walk
answered = refl

not_serial : serial_from looking.language looking.script (committed five) none_pending answers_left_out ≡ None
unfolding next points_of spelling printed word digits ok_text end_text full_text deadlock_text state words reaches walk
not_serial = refl

abbrev looking_statements : List Statement
looking_statements = Begin ∷ adding_point 6 1 1 ∷ points_meeting 0 0 2 2 ∷ Commit ∷ []

looking_in_order : InOrder looking (after_all looking five until_leaf)
looking_in_order = led looking_statements (texts (0 ∷ 1 ∷ 2 ∷ 3 ∷ [])) [] [] until_leaf looking_happens

pub known_is_needed : KnownIsNeeded
known_is_needed = record {
  happen = looking_happens;
  in_order = looking_in_order;
  weaker = left_out_in_order looking_in_order (AreKnownOrOwn left_out.tables left_out.searches left_out.sessions)
      (one_is_weaker left_out.tables left_out.searches left_out.sessions the_search one_search lacks);
  fails = one_fails left_out.tables left_out.searches left_out.sessions the_search one_search lacks;
  on_course = on_course;
  tell = tell;
  ended = ended;
  told = told;
  goes_on = goes_on;
  answered = answered;
  not_serial = not_serial;
}
