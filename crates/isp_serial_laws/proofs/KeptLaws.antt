-- Events that answer nothing: what was told stands as it did.
use Rattle.std.proofs.Common.{◌≡◌, ◌⊎◌, ◌∙◌, inl, inr, refl, sym, ap, subst, ℕ, ℤ, ◌==◌, ◌&&◌, ◌||◌, Bool, true, false, cond, Option, Some, None, List, [], ◌∷◌, ◌++◌, map, eqb-true, eq-eqb}
use Rattle.std.specs.List.{list_any}
use Rattle.std.proofs.lemmas.Bool.{false≢true, and_parts}
use Rattle.isp_base.specs.Lists.{Has}
use Rattle.isp_laws.proofs.ListLaws.{Has-append_left, Has-map_of}
use Rattle.isp_mbr.specs.declared.predicate.Predicate.{Predicate}
use Rattle.isp_reclock.specs.declared.modes.Mode.{Mode}
use Rattle.isp_reclock.specs.Tables.{key_lock, table_lock}
use Rattle.isp_plain.specs.declared.statement.Statement.{Statement}
use Rattle.isp_plain.specs.Tables.{Table}
use Rattle.isp_serial.specs.Answers.{Answer}
use Rattle.isp_serial.specs.Serial.{Pending}
use Rattle.isp_forest.specs.Place.{Division}
use Rattle.isp_forest.specs.Search.{Search}
use Rattle.isp_forest.specs.Attach.{attached}
use Rattle.isp_forest.specs.Tree.{Tree}
use Rattle.isp_events.specs.Stored.{table_at, tree_of}
use Rattle.isp_events.specs.Sessions.{SessionState, session_at, Work}
use Rattle.isp_events.specs.State.{State, TreeSearch}
use Rattle.isp_events.specs.Views.{beginning_view, committed, committed_row, view_at_beginning}
use Rattle.isp_events.specs.Ways.{Machine}
use Rattle.isp_events.specs.Next.{Descent}
use Rattle.isp_events.specs.Asking.{after_key_lock, after_table_lock}
use Rattle.isp_events.specs.Reading.{after_visit, is_of, search_before, visited, with_search}
use Rattle.isp_events.specs.Placing.{after_place, is_of_tree, search_after_place, tree_for}
use Rattle.isp_order.specs.Searches.{IsOfWork, is_visiting}
use Rattle.isp_order.specs.InOrder.{InOrder, IsProper}
use Rattle.isp_causes.specs.Causes.{IsVisiting}
use Rattle.isp_order_locks.proofs.LockLists.{Keeps}
use Rattle.isp_order_locks.proofs.LockedLaws.{keeps_all}
use Rattle.isp_order_locks.proofs.SearchParts.{attached_keeps, now_session, now_statement}
use Rattle.isp_answers.specs.Told.{AreTold, IsTold, Stand, gives_up}
use Rattle.isp_views.specs.Views.{IsShown, IsUnmoved, definition_at}
use Rattle.isp_views.proofs.SeenLaws.{same_shown}
use Rattle.isp_views.proofs.ViewLaws.{are_shown}
use Rattle.isp_serial_laws.proofs.StandLaws.{KeepsHeld, StillThere, stand_moves, there_itself}

some_is : {X : Type 0} (x y : X) → Some x ≡ Some y → x ≡ y
some_is x y h = cc

module _ (m : Machine) (state : State) (good : IsProper m) (o : InOrder m state) where
  -- ---- what stays of locks and searches

  -- the same searches, and no lock less
  pub held_by_locks : (now : State) → now.searches ≡ state.searches → ((s : ℕ) → Keeps state.locks now.locks s) → (s : ℕ) → KeepsHeld state now s
  held_by_locks now same locks s = record {
    locks = locks s;
    searches = λ x h session done. there_itself now.searches x (subst (λ (xs : List TreeSearch). Has xs x) (sym same) h);
  }

  placed_search : (tree : Tree) (d : Descent) (number q : ℕ) (ds : List Division) (x : TreeSearch) → Has state.searches x → StillThere (map (search_after_place tree d number q ds) state.searches) x
  placed_search tree d number q ds x h = by_tree (is_of_tree d.table d.column x) refl
    where
      then : TreeSearch
      then = search_after_place tree d number q ds x

      keeps : {Y : Type 0} (g : Search → Y) → ((y : Search) (on : List ℕ) → g (record y { on = on }) ≡ g y) → (b : Bool)
          → g (cond b (attached tree d.path d.box d.key number q ds x.search) x.search) ≡ g x.search
      keeps g on true = attached_keeps g on tree d.path d.box d.key number q ds x.search
      keeps g on false = refl

      by_tree : (b : Bool) → is_of_tree d.table d.column x ≡ b → StillThere (map (search_after_place tree d number q ds) state.searches) x
      by_tree b e = record {
        now = then;
        among = Has-map_of (search_after_place tree d number q ds) state.searches x h;
        table = refl;
        column = refl;
        session = keeps (λ (y : Search). y.session) (λ y on. refl) (is_of_tree d.table d.column x);
        statement = keeps (λ (y : Search). y.statement) (λ y on. refl) (is_of_tree d.table d.column x);
        predicate = keeps (λ (y : Search). y.predicate) (λ y on. refl) (is_of_tree d.table d.column x);
        stack = keeps (λ (y : Search). y.stack) (λ y on. refl) (is_of_tree d.table d.column x);
        found = keeps (λ (y : Search). y.found) (λ y on. refl) (is_of_tree d.table d.column x);
      }

  pub held_placed : (s : ℕ) (d : Descent) (q : ℕ) (ds : List Division) (j : ℕ) → KeepsHeld state (after_place state s d q ds) j
  held_placed s d q ds j = record { locks = λ table key mode h. h; searches = λ x h session done. placed_search (tree_for state d) d state.entries q ds x h }

  -- a search that visits is none that has visited all
  pub held_visited : (s number column : ℕ) (predicate : Predicate) → IsVisiting m state (session_at state.sessions s) number column predicate → (j : ℕ)
      → KeepsHeld state (after_visit state s number column predicate) j
  held_visited s number column predicate at j = record { locks = λ table key mode h. h; searches = λ x h session done. there x h done }
    where
      tree : Tree
      tree = tree_of (table_at state.tables number) column

      v : Search
      v = visited tree (search_before state.searches tree s (session_at state.sessions s).number predicate)

      session_is : v.session ≡ s
      session_is = now_session m state o s number column predicate at

      statement_is : v.statement ≡ (session_at state.sessions s).number
      statement_is = now_statement m state o s number column predicate at

      other : (x : TreeSearch) → Has state.searches x → x.search.stack ≡ [] → (b : Bool) → is_of v.session v.statement x ≡ b → b ≡ false
      other x h done false e = refl
      other x h done true e =
          let parts = and_parts (x.search.session == v.session) (x.search.statement == v.statement) e in
          let session : x.search.session ≡ s = eqb-true x.search.session v.session parts.0 ∙ session_is in
          let statement : x.search.statement ≡ (session_at state.sessions s).number = eqb-true x.search.statement v.statement parts.1 ∙ statement_is in
          let w : IsOfWork m.ways state.tables (session_at state.sessions x.search.session) x =
          (o.belongs.each x h).present (statement ∙ ap (λ i. (session_at state.sessions i).number) (sym session)) in
          let same : w.work ≡ at.work = some_is w.work at.work (sym w.at_work ∙ ap (λ i. (session_at state.sessions i).work) session ∙ at.goes_on.at_work) in
          absurd (w.visits (ap (λ (y : Work). is_visiting y.phase) same ∙ ap is_visiting at.phase) done)

      there : (x : TreeSearch) → Has state.searches x → x.search.stack ≡ [] → StillThere (with_search state.searches number column v) x
      there x h done = by_test (list_any (is_of v.session v.statement) state.searches)
        where
          apart : is_of v.session v.statement x ≡ false
          apart = other x h done (is_of v.session v.statement x) refl

          by_test : (b : Bool)
              → StillThere (cond b (map (λ (y : TreeSearch). record y { search = cond (is_of v.session v.statement y) v y.search }) state.searches) (state.searches ++ record { table = number; column = column; search = v } ∷ [])) x
          by_test true = record {
            now = record x { search = cond (is_of v.session v.statement x) v x.search };
            among = Has-map_of (λ (y : TreeSearch). record y { search = cond (is_of v.session v.statement y) v y.search }) state.searches x h;
            table = refl;
            column = refl;
            session = ap (λ b. (cond b v x.search).session) apart;
            statement = ap (λ b. (cond b v x.search).statement) apart;
            predicate = ap (λ b. (cond b v x.search).predicate) apart;
            stack = ap (λ b. (cond b v x.search).stack) apart;
            found = ap (λ b. (cond b v x.search).found) apart;
          }
          by_test false = there_itself (state.searches ++ record { table = number; column = column; search = v } ∷ []) x
              (Has-append_left state.searches (record { table = number; column = column; search = v } ∷ []) x h)

  -- ---- what was told stands

  pub committed_unmoved : (now : State) → InOrder m now → IsUnmoved m state now → committed now ≡ committed state
  committed_unmoved now onow u =
      same_shown now.tables state.tables (committed_row now) (committed_row state) (committed now) (committed state) u.definitions
      (are_shown m now onow).committed_shown (are_shown m state o).committed_shown u.committed_same

  pub told_unmoved : (now : State) (pending : Pending) → InOrder m now → IsUnmoved m state now → ((s : ℕ) → KeepsHeld state now s) → AreTold m state pending → AreTold m now pending
  told_unmoved now pending onow u held told s =
      let t : IsTold m state s (pending s) = told s in
      record {
        own = t.own;
        inside = t.inside ∙ sym (u.inside s);
        begun = t.begun;
        left = t.left;
        stand = subst (λ ts. Stand m now s false ts (pending s) t.left) (sym (committed_unmoved now onow u)) (stand_moves m state now s (held s) false (committed state) (pending s) t.left t.stand);
        seen = λ goes_on. (let before : gives_up m state.tables s (session_at state.sessions s) ≡ false = u.going s goes_on in
            t.seen before
            ∙ same_shown state.tables now.tables (view_at_beginning state s) (view_at_beginning now s) (beginning_view state s) (beginning_view now s) (sym u.definitions)
            ((are_shown m state o).views_shown s) ((are_shown m now onow).views_shown s) (λ t' key. sym (u.views s before t' key)));
      }
