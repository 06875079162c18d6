-- A path that goes down has less before it, and so has one that is emptied because it doesn't stand.
use Rattle.std.proofs.Common.{◌≡◌, ◌∙◌, refl, sym, ap, subst, ℕ, suc, ◌+◌, ◌<◌, ◌==◌, ◌&&◌, ◌||◌, not, cond, Bool, true, false, Option, Some, None, List, [], ◌∷◌, ◌++◌, arith, length, eqb-true}
use Rattle.std.specs.Prelude.{slice_set}
use Rattle.std.specs.List.{last_or}
use Rattle.std.specs.Option.{option_map}
use Rattle.std.proofs.lemmas.Bool.{false≢true}
use Rattle.isp_laws.proofs.ForestLaws.{child_there, same_page}
use Rattle.isp_laws.proofs.PageLaws.{There}
use Rattle.isp_forest.specs.declared.entry.Entry.{Entry}
use Rattle.isp_forest.specs.Tree.{Node, Tree, child_of, page_at}
use Rattle.isp_forest.specs.Forest.{Forest, IsBelow}
use Rattle.isp_forest.specs.Steps.{names}
use Rattle.isp_forest.specs.Place.{Names}
use Rattle.isp_events.specs.Stored.{table_at, tree_of}
use Rattle.isp_events.specs.Sessions.{Entering, SessionState, Work, entering, session_at, writing}
use Rattle.isp_events.specs.State.{State, is_empty}
use Rattle.isp_events.specs.Ways.{Machine}
use Rattle.isp_events.specs.Next.{Descent, has_entry_for, is_leaf, leads_to_leaf, path_stands, starts_at}
use Rattle.isp_events.specs.Asking.{change_work}
use Rattle.isp_events.specs.Placing.{after_stale, after_step, change_entering, follows, may_step, phase_with_entry, stepped, tree_for, without_path}
use Rattle.isp_order.specs.Work.{IsInner, IsOnPath, IsPathIn, IsPathOf}
use Rattle.isp_order.specs.InOrder.{InOrder, IsProper}
use Rattle.isp_causes.specs.Causes.{GoesOn, IsActive, IsEntering, IsStale, IsStepping}
use Rattle.isp_event_laws.proofs.ListTests.{Passing, any_has}
use Rattle.isp_order_paths.proofs.PathLaws.{next_listed}
use Rattle.isp_order_work.proofs.WorkParts.{none_some, some_is}
use Rattle.isp_measure.specs.Measure.{down_of_columns, down_of_phase, leads_down, leaves_left, leaves_of_phase, level_of, level_of_last, measure, pages_down, pages_of_path, phases_behind, phases_left, stands_so_far, steps_left, steps_of_phase, whole_descent}
use Rattle.isp_measure.proofs.OrderLaws.{Falls, here, later}
use Rattle.isp_measure.proofs.SumLaws.{same}
use Rattle.isp_measure_laws.proofs.SearchFalls.{last_push}
use Rattle.isp_measure_laws.proofs.SessionParts.{answers_sum, columns_of, leaves_at, leaves_sum, not_giving_up, onward_still, onward_sum, path_at, path_less, phases_at, phases_sum, steps_at, steps_sum}

-- ---- paths of one tree

starts_push : (root p : ℕ) (path : List ℕ) (q : ℕ) → starts_at root ((p ∷ path) ++ q ∷ []) ≡ starts_at root (p ∷ path)
starts_push root p path q = refl

-- where the last page has an entry for the next, a path that leads down goes on doing so
leads_push : (tree : Tree) (p : ℕ) (path : List ℕ) (q l : ℕ) → last_or None (p ∷ path) ≡ Some l → has_entry_for (page_at tree l) q ≡ true → leads_down tree ((p ∷ path) ++ q ∷ []) ≡ leads_down tree (p ∷ path)
leads_push tree p [] q l last entry = ap (λ b. b && true) (ap (λ k. has_entry_for (page_at tree k) q) (some_is p l last) ∙ entry)
leads_push tree p (r ∷ path) q l last entry = ap (λ b. has_entry_for (page_at tree p) r && b) (leads_push tree r path q l last entry)

-- and with a leaf it leads to one
leaf_push : (tree : Tree) (p : ℕ) (path : List ℕ) (q l : ℕ) → last_or None (p ∷ path) ≡ Some l → has_entry_for (page_at tree l) q ≡ true → is_leaf (page_at tree q) ≡ true
    → leads_to_leaf tree ((p ∷ path) ++ q ∷ []) ≡ leads_down tree (p ∷ path)
leaf_push tree p [] q l last entry leaf =
    ap (λ b. b && is_leaf (page_at tree q)) (ap (λ k. has_entry_for (page_at tree k) q) (some_is p l last) ∙ entry) ∙ leaf
leaf_push tree p (r ∷ path) q l last entry leaf = ap (λ b. has_entry_for (page_at tree p) r && b) (leaf_push tree r path q l last entry leaf)

-- an entry for the page is one that names it
pub entry_names : (tree : Tree) (p : ℕ) (page : Node) (q : ℕ) → page_at tree p ≡ Some page → has_entry_for (page_at tree p) q ≡ true → (e : Entry) × Names tree p q e
entry_names tree p page q there has =
    let found : Passing (λ (e : Entry). names (λ c. c == q) (child_of e)) page.entries =
    any_has (λ (e : Entry). names (λ c. c == q) (child_of e)) page.entries (ap (λ o. has_entry_for o q) (sym there) ∙ has) in
    (found.x, record { page = page; there = there; has = found.has; to = named (child_of found.x) found.passes })
  where
    named : (c : Option ℕ) → names (λ k. k == q) c ≡ true → c ≡ Some q
    named None h = absurd (false≢true h)
    named (Some k) h = ap Some (eqb-true k q h)

-- a page that an inner page has an entry for is one level lower
level_down : (tree : Tree) → Forest tree → (l q : ℕ) (page : Node) → page_at tree l ≡ Some page → has_entry_for (page_at tree l) q ≡ true → page.level ≡ suc (level_of (page_at tree q))
level_down tree f l q page there entry =
    let by : (e : Entry) × Names tree l q e = entry_names tree l page q there entry in
    let child : There tree.pages q = child_there tree f l q by.0 by.1 in
    let is : IsBelow by.0 by.1.page child.page = f.below l q by.1.page child.page by.0 by.1.there by.1.has by.1.to child.there in
    ap (λ (n : Node). n.level) (same_page (page_at tree l) page by.1.page there by.1.there) ∙ is.level ∙ ap suc (ap level_of (sym child.there))

cons_some : (p : ℕ) (path : List ℕ) → is_empty (p ∷ path) ≡ false
cons_some p path = by_test (is_empty (p ∷ path)) refl
  where
    by_test : (b : Bool) → is_empty (p ∷ path) ≡ b → b ≡ false
    by_test true e = let none : length (p ∷ path) ≡ 0 = eqb-true (length (p ∷ path)) 0 e in absurd (omega (arith, none))
    by_test false e = refl

-- a path goes down by a page
down_less : (tree : Tree) → Forest tree → (path : List ℕ) (at_leaf : Bool) (q : ℕ) → (is_empty path || not at_leaf) ≡ true → IsPathIn tree path at_leaf → may_step tree path q ≡ true
    → pages_down tree (path ++ q ∷ []) (is_leaf (page_at tree q)) < pages_down tree path at_leaf
down_less tree f [] at_leaf q under_way is may = by_leaf (is_leaf (page_at tree q)) refl
  where
    root : q ≡ tree.root
    root = eqb-true q tree.root may

    starts : starts_at tree.root (q ∷ []) ≡ true
    starts = may

    by_leaf : (b : Bool) → is_leaf (page_at tree q) ≡ b → pages_down tree (q ∷ []) b < whole_descent tree
    by_leaf true e =
        let stands : stands_so_far tree (q ∷ []) true ≡ true = ap (λ b. b && is_leaf (page_at tree q)) starts ∙ e in
        let now : pages_down tree (q ∷ []) true ≡ 0 = ap (λ b. 0 + cond b 0 (suc (whole_descent tree))) stands in
        omega (arith, now)
    by_leaf false e =
        let stands : stands_so_far tree (q ∷ []) false ≡ true = ap (λ b. b && true) starts in
        let now : pages_down tree (q ∷ []) false ≡ level_of (page_at tree tree.root) + 0 =
        ap (λ b. level_of (page_at tree q) + cond b 0 (suc (whole_descent tree))) stands ∙ ap (λ k. level_of (page_at tree k) + 0) root in
        omega (arith, now)
down_less tree f (p ∷ path) true q under_way is may = absurd (false≢true (ap (λ b. b || false) (sym (cons_some p path)) ∙ under_way))
down_less tree f (p ∷ path) false q under_way is may = by_last (last_or None (p ∷ path)) refl may
  where
    never : (path : List ℕ) (o : Option ℕ) (r : ℕ) → last_or (Some r) path ≡ None → ⊥
    never [] o r h = none_some r (sym h)
    never (x ∷ path) o r h = never path o x h

    by_last : (o : Option ℕ) → last_or None (p ∷ path) ≡ o → follows tree o q ≡ true
        → pages_down tree ((p ∷ path) ++ q ∷ []) (is_leaf (page_at tree q)) < pages_down tree (p ∷ path) false
    by_last None last entry = absurd (never path None p last)
    by_last (Some l) last entry = by_leaf (is_leaf (page_at tree q)) refl
      where
        inner : IsInner tree l
        inner = is.last_inner l last refl

        level : inner.page.level ≡ suc (level_of (page_at tree q))
        level = level_down tree f l q inner.page inner.there entry

        before : pages_down tree (p ∷ path) false ≡ suc (level_of (page_at tree q)) + cond (stands_so_far tree (p ∷ path) false) 0 (suc (whole_descent tree))
        before =
            ap (λ o. level_of_last tree o + cond (stands_so_far tree (p ∷ path) false) 0 (suc (whole_descent tree))) last
            ∙ ap (λ n. n + cond (stands_so_far tree (p ∷ path) false) 0 (suc (whole_descent tree))) (ap level_of inner.there ∙ level)

        by_leaf : (b : Bool) → is_leaf (page_at tree q) ≡ b → pages_down tree ((p ∷ path) ++ q ∷ []) b < pages_down tree (p ∷ path) false
        by_leaf true e =
            let stands : stands_so_far tree ((p ∷ path) ++ q ∷ []) true ≡ stands_so_far tree (p ∷ path) false = ap (λ b. starts_at tree.root (p ∷ path) && b) (leaf_push tree p path q l last entry e) in
            let now : pages_down tree ((p ∷ path) ++ q ∷ []) true ≡ 0 + cond (stands_so_far tree (p ∷ path) false) 0 (suc (whole_descent tree)) = ap (λ b. 0 + cond b 0 (suc (whole_descent tree))) stands in
            omega (arith, now, before)
        by_leaf false e =
            let stands : stands_so_far tree ((p ∷ path) ++ q ∷ []) false ≡ stands_so_far tree (p ∷ path) false = ap (λ b. starts_at tree.root (p ∷ path) && b) (leads_push tree p path q l last entry) in
            let now : pages_down tree ((p ∷ path) ++ q ∷ []) false ≡ level_of (page_at tree q) + cond (stands_so_far tree (p ∷ path) false) 0 (suc (whole_descent tree)) =
            ap (λ o. level_of_last tree o + cond (stands_so_far tree ((p ∷ path) ++ q ∷ []) false) 0 (suc (whole_descent tree))) (last_push (Some p) path q)
            ∙ ap (λ b. level_of (page_at tree q) + cond b 0 (suc (whole_descent tree))) stands in
            omega (arith, now, before)

-- a path that doesn't stand is emptied
stale_less : (tree : Tree) (path : List ℕ) (at_leaf : Bool) → (is_empty path || not at_leaf) ≡ false → path_stands tree path ≡ false → pages_down tree [] false < pages_down tree path at_leaf
stale_less tree [] at_leaf complete stale = absurd (false≢true (sym complete))
stale_less tree (p ∷ path) false complete stale = absurd (false≢true (sym complete ∙ ap (λ b. b || true) (cons_some p path)))
stale_less tree (p ∷ path) true complete stale =
    let before : pages_down tree (p ∷ path) true ≡ 0 + suc (whole_descent tree) = ap (λ b. 0 + cond b 0 (suc (whole_descent tree))) stale in
    omega (arith, before)

-- ---- the events

module _ (m : Machine) (state : State) (good : IsProper m) (o : InOrder m state) (s : ℕ) (active : IsActive state s) where
  -- the entry at hand changes, with the same columns, and less of its path is left
  entering_falls : (f : Entering → Entering) (en : IsEntering (session_at state.sessions s)) → (f en.e).columns ≡ en.e.columns
      → down_of_columns (table_at state.tables en.work.table) (f en.e) en.e.columns < down_of_columns (table_at state.tables en.work.table) en.e en.e.columns
      → Falls (measure m.script (record state { sessions = slice_set state.sessions s (change_work (change_entering f) (session_at state.sessions s)) })) (measure m.script state)
  entering_falls f en columns less =
      later _ _ _ _ (answers_sum m state o s active new refl) (later _ _ _ _ (same (length state.queue))
      (later _ _ _ _ (onward_sum m state o s active new (onward_still m state o s active new state.tables state.searches en.work now go refl go.undisturbed at_work))
      (later _ _ _ _ (phases_sum m state o s active new state.searches (λ k ne n. refl) (omega (arith, phases_before, phases_now)))
      (later _ _ _ _ (steps_sum m state o s active new state.tables (λ n. refl) (omega (arith, steps_before, steps_now)))
      (later _ _ _ _ (leaves_sum m state o s active new (omega (arith, leaves_before, leaves_now)))
      (later _ _ _ _ (same _) (later _ _ _ _ (same _) (later _ _ _ _ (same _) (here _ _ _ _ (path_falls _ _ _ (path_less m state o s active new (omega (arith, path_before, path_now, less)))))))))))))
    where
      go : GoesOn (session_at state.sessions s) en.work
      go = en.goes_on

      now : Work
      now = change_entering f en.work

      new : SessionState
      new = change_work (change_entering f) (session_at state.sessions s)

      at_work : new.work ≡ Some now
      at_work = ap (option_map (change_entering f)) go.at_work

      phase_now : now.phase ≡ writing en.done (en.change ∷ en.left) (entering (f en.e))
      phase_now = ap (phase_with_entry f) en.phase

      phases_before : phases_left state.searches s (session_at state.sessions s) ≡ 1
      phases_before = phases_at state.searches s (session_at state.sessions s) en.work go.at_work ∙ ap (phases_behind _) en.phase

      phases_now : phases_left state.searches s new ≡ 1
      phases_now = phases_at state.searches s new now at_work ∙ ap (phases_behind _) phase_now

      steps_before : steps_left state.tables s (session_at state.sessions s) ≡ steps_of_phase (columns_of state.tables en.work.table) (writing en.done (en.change ∷ en.left) (entering en.e))
      steps_before =
          steps_at state.tables s (session_at state.sessions s) en.work (not_giving_up (session_at state.sessions s) en.work go.undisturbed go.at_work go.unfailed) go.at_work
          ∙ ap (steps_of_phase (columns_of state.tables en.work.table)) en.phase

      steps_now : steps_left state.tables s new ≡ steps_of_phase (columns_of state.tables en.work.table) (writing en.done (en.change ∷ en.left) (entering en.e))
      steps_now =
          steps_at state.tables s new now (not_giving_up new now go.undisturbed at_work go.unfailed) at_work
          ∙ ap (steps_of_phase (columns_of state.tables en.work.table)) phase_now
          ∙ ap (λ (cs : List ℕ). steps_of_phase (columns_of state.tables en.work.table) (writing en.done (en.change ∷ en.left) (entering (record en.e { columns = cs })))) columns

      leaves_before : leaves_left state.tables s (session_at state.sessions s) ≡ 0
      leaves_before = leaves_at state.tables s (session_at state.sessions s) en.work go.at_work ∙ ap (leaves_of_phase _) en.phase

      leaves_now : leaves_left state.tables s new ≡ 0
      leaves_now = leaves_at state.tables s new now at_work ∙ ap (leaves_of_phase _) phase_now

      path_before : pages_of_path state.tables s (session_at state.sessions s) ≡ down_of_columns (table_at state.tables en.work.table) en.e en.e.columns
      path_before = path_at state.tables s (session_at state.sessions s) en.work go.at_work ∙ ap (down_of_phase (table_at state.tables en.work.table)) en.phase

      path_now : pages_of_path state.tables s new ≡ down_of_columns (table_at state.tables en.work.table) (f en.e) en.e.columns
      path_now =
          path_at state.tables s new now at_work ∙ ap (down_of_phase (table_at state.tables en.work.table)) phase_now
          ∙ ap (down_of_columns (table_at state.tables en.work.table) (f en.e)) columns

      path_falls : (a b c : ℕ) → a < b → a + c < b + c
      path_falls a b c lt = omega (arith, lt)

  pub step_falls : (d : Descent) (q : ℕ) → IsStepping (session_at state.sessions s) d → may_step (tree_for state d) d.path q ≡ true → Falls (measure m.script (after_step state s d q)) (measure m.script state)
  step_falls d q at may = entering_falls (stepped (tree_for state d) q) en refl less
    where
      en : IsEntering (session_at state.sessions s)
      en = at.descending.entering

      tree : Tree
      tree = tree_of (table_at state.tables en.work.table) at.descending.column

      is_tree : tree_for state d ≡ tree
      is_tree = ap (tree_for state) at.descending.descent

      path : IsPathIn tree en.e.path en.e.at_leaf
      path = subst (IsPathOf (table_at state.tables en.work.table) en.e) at.descending.next
          (subst (IsOnPath (table_at state.tables en.work.table)) en.phase (o.paths s en.work en.goes_on.at_work))

      on : may_step tree en.e.path q ≡ true
      on = subst (λ (x : Descent). may_step (tree_for state x) x.path q ≡ true) at.descending.descent may

      less : down_of_columns (table_at state.tables en.work.table) (stepped (tree_for state d) q en.e) en.e.columns < down_of_columns (table_at state.tables en.work.table) en.e en.e.columns
      less =
          subst (λ (cs : List ℕ). down_of_columns (table_at state.tables en.work.table) (stepped (tree_for state d) q en.e) cs < down_of_columns (table_at state.tables en.work.table) en.e cs) (sym at.descending.next)
          (subst (λ (t : Tree). pages_down tree (en.e.path ++ q ∷ []) (is_leaf (page_at t q)) < pages_down tree en.e.path en.e.at_leaf) (sym is_tree)
          (down_less tree (o.whole en.work.table at.descending.column (next_listed m state good o s en at.descending.column at.descending.columns at.descending.next)) en.e.path en.e.at_leaf q at.under_way path on))

  pub stale_falls : (d : Descent) → IsStale state (session_at state.sessions s) d → Falls (measure m.script (after_stale state s)) (measure m.script state)
  stale_falls d at = entering_falls without_path en refl less
    where
      en : IsEntering (session_at state.sessions s)
      en = at.descending.entering

      stale : path_stands (tree_of (table_at state.tables en.work.table) at.descending.column) en.e.path ≡ false
      stale = subst (λ (x : Descent). path_stands (tree_for state x) x.path ≡ false) at.descending.descent at.stale

      less : down_of_columns (table_at state.tables en.work.table) (without_path en.e) en.e.columns < down_of_columns (table_at state.tables en.work.table) en.e en.e.columns
      less =
          subst (λ (cs : List ℕ). down_of_columns (table_at state.tables en.work.table) (without_path en.e) cs < down_of_columns (table_at state.tables en.work.table) en.e cs) (sym at.descending.next)
          (stale_less (tree_of (table_at state.tables en.work.table) at.descending.column) en.e.path en.e.at_leaf at.complete stale)
