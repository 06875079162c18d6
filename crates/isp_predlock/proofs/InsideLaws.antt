-- What is seen of a table, by what it keeps: its searches by their numbers, and the table after each change of it.
use Rattle.std.proofs.Common.{◌≡◌, ◌≢◌, ℕ, ◌==◌, Bool, true, false, not, cond, is_some, List, [], ◌∷◌, ◌++◌, append-nil, map, filter, filter_map, find, option_map, Option, Some, None, inl, inr, refl, ap, sym, ◌∙◌, subst, arith, eqb-true, eq-eqb, ◌&&◌, ◌||◌}
use Rattle.std.specs.List.{cons_option, list_any}
use Rattle.std.proofs.lemmas.List.Elements.{filter_map-append}
use Rattle.std.proofs.lemmas.Bool.Decides.{nat_tests}
use Rattle.std.proofs.lemmas.Option.{same_Some}
use Rattle.slab.specs.Slab.{Slab, get}
use Rattle.isp_base.specs.Lists.{Has}
use Rattle.isp_base.specs.declared.page_no.PageNo.{PageNo}
use Rattle.isp_forest.specs.Steps.{is_among}
use Rattle.isp_laws.proofs.ListLaws.{Has-append, Has-append_left, Has-append_right}
use Rattle.isp_searches.proofs.SeesLaws.{has_among, among_has}
use Rattle.isp_predlock.specs.contracts.table.AttachedPartialEq.TheImpl.{eq-value}
use Rattle.isp_predlock.specs.declared.entries.Sought.{Sought}
use Rattle.isp_predlock.specs.declared.table.Attached.{Attached}
use Rattle.isp_predlock.specs.declared.table.PredLocks.TheInside.{Inside}
use Rattle.isp_predlock.specs.Inside.{IsKept, held_as, held_at, is_kept_id, is_kept_pair, kept_without, page_for, view_of}
use Rattle.isp_predlock.specs.Tables.{AreNamed, HeldSearch, attached_by, has_id, id_of, is_on_page, page_number, pages_found, passes_found}
use Rattle.isp_predlock.proofs.MemberLaws.{filter_map_members, filter_passes, has_filter, map_of_filter_map}

-- the pair says that the search of that number is on page q
abbrev pub is_pair : ℕ → ℕ → Attached → Bool
is_pair id q pair = (pair.search == id) && (pair.page == q)

abbrev pub AllThere : Slab Sought → List ℕ → Type 0
AllThere slab order = (id : ℕ) → Has order id → is_some (get slab id) ≡ true

-- ---- the searches by their numbers

module _ (slab : Slab Sought) (pairs : List Attached) where
  ids_step : (o : Option Sought) (k : ℕ) (rest : List HeldSearch) (ks : List ℕ) → is_some o ≡ true → map id_of rest ≡ ks
      → map id_of (cons_option (option_map (held_as pairs k) o) rest) ≡ k ∷ ks
  ids_step None k rest ks h e = let no : ⊥ = cc in absurd no
  ids_step (Some sought) k rest ks h e = ap (λ (l : List ℕ). k ∷ l) e

  pub ids_listed : (order : List ℕ) → AllThere slab order → map id_of (filter_map (held_at slab pairs) order) ≡ order
  ids_listed [] h = refl
  ids_listed (k ∷ ks) h = ids_step (get slab k) k (filter_map (held_at slab pairs) ks) ks (h k (inl refl)) (ids_listed ks (λ id there. h id (inr there)))

  find_step : (b : Bool) (k id : ℕ) (o : Option Sought) (rest : List HeldSearch) (among : Bool) → (k == id) ≡ b → is_some o ≡ true → get slab k ≡ o
      → find (has_id id) rest ≡ cond among (held_at slab pairs id) None
      → find (has_id id) (cons_option (option_map (held_as pairs k) o) rest) ≡ cond (b || among) (held_at slab pairs id) None
  find_step b k id None rest among e h at f = let no : ⊥ = cc in absurd no
  find_step true k id (Some s) rest among e h at f =
      let first : Option HeldSearch = Some (held_as pairs k s) in
      let is : first ≡ held_at slab pairs k = ap (option_map (held_as pairs k)) (sym at) in
      ap (λ (c : Bool). cond c first (find (has_id id) rest)) e ∙ is ∙ ap (λ (j : ℕ). held_at slab pairs j) (eqb-true k id e)
  find_step false k id (Some s) rest among e h at f =
      let first : Option HeldSearch = Some (held_as pairs k s) in
      ap (λ (c : Bool). cond c first (find (has_id id) rest)) e ∙ f

  find_listed : (order : List ℕ) (id : ℕ) → AllThere slab order → find (has_id id) (filter_map (held_at slab pairs) order) ≡ cond (is_among order id) (held_at slab pairs id) None
  find_listed [] id h = refl
  find_listed (k ∷ ks) id h =
      find_step (k == id) k id (get slab k) (filter_map (held_at slab pairs) ks) (is_among ks id) refl (h k (inl refl)) refl (find_listed ks id (λ j there. h j (inr there)))

  or_none : (o : Option Sought) (id : ℕ) (b : Bool) → (is_some o ≡ true → b ≡ true) → cond b (option_map (held_as pairs id) o) None ≡ option_map (held_as pairs id) o
  or_none None id true h = refl
  or_none None id false h = refl
  or_none (Some s) id true h = refl
  or_none (Some s) id false h = let e : false ≡ true = h refl in let no : ⊥ = cc in absurd no

  has_step : (o : Option Sought) (k : ℕ) (rest : List HeldSearch) (x : HeldSearch) → get slab k ≡ o → (Has rest x → held_at slab pairs x.id ≡ Some x)
      → Has (cons_option (option_map (held_as pairs k) o) rest) x → held_at slab pairs x.id ≡ Some x
  has_step None k rest x at f h = f h
  has_step (Some s) k rest x at f (inl same) =
      let is : held_at slab pairs k ≡ Some (held_as pairs k s) = ap (option_map (held_as pairs k)) at in
      subst (λ (y : HeldSearch). held_at slab pairs y.id ≡ Some y) same is
  has_step (Some s) k rest x at f (inr h) = f h

  pub held_has : (order : List ℕ) (x : HeldSearch) → Has (filter_map (held_at slab pairs) order) x → held_at slab pairs x.id ≡ Some x
  held_has [] x h = absurd h
  held_has (k ∷ ks) x h = has_step (get slab k) k (filter_map (held_at slab pairs) ks) x refl (held_has ks x) h

  pub named : (order : List ℕ) → AreNamed (filter_map (held_at slab pairs) order)
  named order x y hx hy e = same_Some x y (sym (held_has order x hx) ∙ ap (λ (j : ℕ). held_at slab pairs j) e ∙ held_has order y hy)

-- ---- the pages of a search

among_step : (b : Bool) (p q : ℕ) (rest : List ℕ) (more : Bool) → is_among rest q ≡ more
    → is_among (cons_option (cond b (Some p) None) rest) q ≡ ((b && (p == q)) || more)
among_step true p q rest more e = ap (λ (m : Bool). (p == q) || m) e
among_step false p q rest more e = e

pub among_pairs : (pairs : List Attached) (id q : ℕ) → is_among (filter_map (page_for id) pairs) q ≡ list_any (is_pair id q) pairs
among_pairs [] id q = refl
among_pairs (a ∷ pairs) id q = among_step (a.search == id) a.page q (filter_map (page_for id) pairs) (list_any (is_pair id q) pairs) (among_pairs pairs id q)

none_step : (slab : Slab Sought) (b : Bool) (a : Attached) (id : ℕ) (rest : List ℕ) → (a.search == id) ≡ b → is_some (get slab a.search) ≡ true → get slab id ≡ None → rest ≡ []
    → cons_option (cond b (Some a.page) None) rest ≡ []
none_step slab true a id rest e there none f =
    let at : get slab a.search ≡ None = ap (get slab) (eqb-true a.search id e) ∙ none in
    let absent : Option Sought = None in
    let none_there : is_some absent ≡ true = ap (λ (o : Option Sought). is_some o) (sym at) ∙ there in
    let never : ⊥ = cc in absurd never
none_step slab false a id rest e there none f = f

pub none_attached : (slab : Slab Sought) (pairs : List Attached) (id : ℕ) → ((a : Attached) → Has pairs a → is_some (get slab a.search) ≡ true) → get slab id ≡ None
    → filter_map (page_for id) pairs ≡ []
none_attached slab [] id h none = refl
none_attached slab (a ∷ pairs) id h none =
    none_step slab (a.search == id) a id (filter_map (page_for id) pairs) refl (h a (inl refl)) none (none_attached slab pairs id (λ b there. h b (inr there)) none)

-- ---- what is seen of the table

module _ (t : Inside) (k : IsKept t) where
  pub found : (id : ℕ) → find (has_id id) (view_of t).searches ≡ held_at t.searches t.attached.keys id
  found id =
      find_listed t.searches t.attached.keys t.order.items id k.there
      ∙ or_none t.searches t.attached.keys (get t.searches id) id (is_among t.order.items id) (λ s. has_among t.order.items id (k.listed id s))

  on_held : (o : Option Sought) (id q : ℕ) → get t.searches id ≡ o
      → passes_found (is_on_page q) (option_map (held_as t.attached.keys id) o) ≡ is_among (filter_map (page_for id) t.attached.keys) q
  on_held (Some s) id q at = refl
  on_held None id q at = ap (λ (on : List ℕ). is_among on q) (sym (none_attached t.searches t.attached.keys id k.attached at))

  pub on_seen : (id q : ℕ) → passes_found (is_on_page q) (find (has_id id) (view_of t).searches) ≡ list_any (is_pair id q) t.attached.keys
  on_seen id q =
      ap (passes_found (is_on_page q)) (found id) ∙ on_held (get t.searches id) id q refl ∙ among_pairs t.attached.keys id q

  pages_held : (o : Option Sought) (id : ℕ) → get t.searches id ≡ o → pages_found (option_map (held_as t.attached.keys id) o) ≡ filter_map (page_for id) t.attached.keys
  pages_held (Some s) id at = refl
  pages_held None id at = sym (none_attached t.searches t.attached.keys id k.attached at)

  pub pages_seen : (id : ℕ) → pages_found (find (has_id id) (view_of t).searches) ≡ filter_map (page_for id) t.attached.keys
  pages_seen id = ap pages_found (found id) ∙ pages_held (get t.searches id) id refl

  sought_held : (o : Option Sought) (id : ℕ) → option_map (λ (x : HeldSearch). x.sought) (option_map (held_as t.attached.keys id) o) ≡ o
  sought_held None id = refl
  sought_held (Some s) id = refl

  pub sought_seen : (id : ℕ) → option_map (λ (x : HeldSearch). x.sought) (find (has_id id) (view_of t).searches) ≡ get t.searches id
  sought_seen id = ap (option_map (λ (x : HeldSearch). x.sought)) (found id) ∙ sought_held (get t.searches id) id

-- ---- a search is begun

module _ (old new : Slab Sought) (pairs : List Attached) (order : List ℕ) (id : ℕ) (sought : Sought) where
  other_than : AllThere old order → get old id ≡ None → (j : ℕ) → Has order j → j ≢ id
  other_than there was j h e =
      let absent : Option Sought = None in
      let none_there : is_some absent ≡ true = ap (λ (o : Option Sought). is_some o) (sym (ap (get old) e ∙ was)) ∙ there j h in
      let never : ⊥ = cc in never

  pub fresh : AllThere old order → get old id ≡ None → is_among (map id_of (filter_map (held_at old pairs) order)) id ≡ false
  fresh there was =
      ap (λ (l : List ℕ). is_among l id) (ids_listed old pairs order there)
      ∙ by (is_among order id) (λ e. other_than there was id (among_has order id e) refl)
    where
      by : (b : Bool) → (b ≡ true → ⊥) → b ≡ false
      by true h = absurd (h refl)
      by false h = refl

  pub begun : AllThere old order → ((a : Attached) → Has pairs a → is_some (get old a.search) ≡ true) → get old id ≡ None
      → get new id ≡ Some sought → ((j : ℕ) → j ≢ id → get new j ≡ get old j)
      → filter_map (held_at new pairs) (order ++ id ∷ []) ≡ filter_map (held_at old pairs) order ++ record { id = id; sought = sought; on = [] } ∷ []
  begun there attached was now others =
      filter_map-append (held_at new pairs) order (id ∷ [])
      ∙ ap (λ (l : List HeldSearch). l ++ filter_map (held_at new pairs) (id ∷ []))
      (filter_map_members (held_at new pairs) (held_at old pairs) order (λ j h. ap (option_map (held_as pairs j)) (others j (other_than there was j h))))
      ∙ ap (λ (o : Option Sought). filter_map (held_at old pairs) order ++ cons_option (option_map (held_as pairs id) o) []) now
      ∙ ap (λ (on : List ℕ). filter_map (held_at old pairs) order ++ record { id = id; sought = sought; on = on } ∷ []) (none_attached old pairs id attached was)

  begun_now : get new id ≡ Some sought → is_some (get new id) ≡ true
  begun_now now = ap (λ (o : Option Sought). is_some o) now

  begun_still : get old id ≡ None → ((j : ℕ) → j ≢ id → get new j ≡ get old j) → (j : ℕ) → is_some (get old j) ≡ true → is_some (get new j) ≡ true
  begun_still was others j there =
      ap (λ (o : Option Sought). is_some o) (others j (λ e.
      (let absent : Option Sought = None in
      let none_there : is_some absent ≡ true = ap (λ (o : Option Sought). is_some o) (sym (ap (get old) e ∙ was)) ∙ there in
      let never : ⊥ = cc in never))) ∙ there

  pub begun_there : AllThere old order → get old id ≡ None → get new id ≡ Some sought → ((j : ℕ) → j ≢ id → get new j ≡ get old j) → AllThere new (order ++ id ∷ [])
  begun_there there was now others j h = elim (Has-append order (id ∷ []) j h) [
    | inl before ↦ begun_still was others j (there j before)
    | inr last ↦ elim last [ inl same ↦ subst (λ (k : ℕ). is_some (get new k) ≡ true) same (begun_now now) | inr none ↦ absurd none ]
  ]

  pub begun_listed : ((j : ℕ) → is_some (get old j) ≡ true → Has order j) → ((j : ℕ) → j ≢ id → get new j ≡ get old j)
      → (j : ℕ) → is_some (get new j) ≡ true → Has (order ++ id ∷ []) j
  begun_listed listed others j h = by (j == id) refl
    where
      by : (b : Bool) → (j == id) ≡ b → Has (order ++ id ∷ []) j
      by true e = Has-append_right order (id ∷ []) j (inl (sym (eqb-true j id e)))
      by false e =
          let other : j ≢ id = λ same. (let is : (j == id) ≡ true = eq-eqb j id same in let never : ⊥ = cc in never) in
          Has-append_left order (id ∷ []) j (listed j (ap (λ (o : Option Sought). is_some o) (sym (others j other)) ∙ h))

  pub begun_attached : get old id ≡ None → ((j : ℕ) → j ≢ id → get new j ≡ get old j) → ((a : Attached) → Has pairs a → is_some (get old a.search) ≡ true)
      → (a : Attached) → Has pairs a → is_some (get new a.search) ≡ true
  begun_attached was others attached a h = begun_still was others a.search (attached a h)

-- ---- a search is attached to a page

pages_step : (b c : Bool) (on : List ℕ) (q : ℕ) → (c ≡ true → is_among on q ≡ b)
    → cond b on (on ++ cons_option (cond c (Some q) None) []) ≡ cond c (cond (is_among on q) on (on ++ q ∷ [])) on
pages_step true true on q h = ap (λ (d : Bool). cond d on (on ++ q ∷ [])) (sym (h refl))
pages_step false true on q h = ap (λ (d : Bool). cond d on (on ++ q ∷ [])) (sym (h refl))
pages_step true false on q h = refl
pages_step false false on q h = append-nil on

pull : (f : List Attached → List ℕ) (b : Bool) (xs ys : List Attached) → f (cond b xs ys) ≡ cond b (f xs) (f ys)
pull f true xs ys = refl
pull f false xs ys = refl

same_test : (a b : ℕ) → (a == b) ≡ (b == a)
same_test a b = grind (arith, nat_tests)

module _ (pairs : List Attached) (id q : ℕ) (b : Bool) (is : list_any (is_pair id q) pairs ≡ b) where
  abbrev pub pair : Attached
  pair = record { search = id; page = q }

  abbrev pub pairs_after : List Attached
  pairs_after = cond b pairs (pairs ++ pair ∷ [])

  pages_after : (k : ℕ) → filter_map (page_for k) pairs_after
      ≡ cond (k == id) (cond (is_among (filter_map (page_for k) pairs) q) (filter_map (page_for k) pairs) (filter_map (page_for k) pairs ++ q ∷ [])) (filter_map (page_for k) pairs)
  pages_after k =
      let on : List ℕ = filter_map (page_for k) pairs in
      pull (filter_map (page_for k)) b pairs (pairs ++ pair ∷ [])
      ∙ ap (λ (l : List ℕ). cond b on l) (filter_map-append (page_for k) pairs (pair ∷ []))
      ∙ ap (λ (c : Bool). cond b on (on ++ cons_option (cond c (Some q) None) [])) (same_test id k)
      ∙ pages_step b (k == id) on q (λ e. among_pairs pairs k q ∙ ap (λ (j : ℕ). list_any (is_pair j q) pairs) (eqb-true k id e) ∙ is)

  into : (c : Bool) (k : ℕ) (s : Sought) (on more : List ℕ)
      → ◌≡◌ {A = HeldSearch} (record { id = k; sought = s; on = cond c more on }) (cond c (record { id = k; sought = s; on = more }) (record { id = k; sought = s; on = on }))
  into true k s on more = refl
  into false k s on more = refl

  held_after : (o : Option Sought) (k : ℕ) → option_map (held_as pairs_after k) o ≡ option_map (attached_by id q) (option_map (held_as pairs k) o)
  held_after None k = refl
  held_after (Some s) k =
      let on : List ℕ = filter_map (page_for k) pairs in
      ap (λ (l : List ℕ). Some (record { id = k; sought = s; on = l })) (pages_after k)
      ∙ ap Some (into (k == id) k s on (cond (is_among on q) on (on ++ q ∷ [])))

  pub attached_after : (slab : Slab Sought) (order : List ℕ) → filter_map (held_at slab pairs_after) order ≡ map (attached_by id q) (filter_map (held_at slab pairs) order)
  attached_after slab order =
      filter_map_members (held_at slab pairs_after) (λ k. option_map (attached_by id q) (held_at slab pairs k)) order (λ k h. held_after (get slab k) k)
      ∙ sym (map_of_filter_map (attached_by id q) (held_at slab pairs) order)

  pub attached_there : (slab : Slab Sought) → ((a : Attached) → Has pairs a → is_some (get slab a.search) ≡ true) → is_some (get slab id) ≡ true
      → (a : Attached) → Has pairs_after a → is_some (get slab a.search) ≡ true
  attached_there slab all there a h = by b h
    where
      by : (c : Bool) → Has (cond c pairs (pairs ++ pair ∷ [])) a → is_some (get slab a.search) ≡ true
      by true k = all a k
      by false k = elim (Has-append pairs (pair ∷ []) a k) [
        | inl old ↦ all a old
        | inr new ↦ elim new [ inl same ↦ ap (λ (z : Attached). is_some (get slab z.search)) (sym same) ∙ there | inr none ↦ absurd none ]
      ]

-- ---- a session's searches go

module _ (old new : Slab Sought) (session : ℕ) (kept : (id : ℕ) → get new id ≡ kept_without session (get old id)) where
  stay_step : (b c : Bool) (a : Attached) (id : ℕ) (xs ys : List Attached) → is_some (get new a.search) ≡ b → (a.search == id) ≡ c → is_some (get new id) ≡ true
      → filter_map (page_for id) xs ≡ filter_map (page_for id) ys
      → filter_map (page_for id) (cond b (a ∷ xs) xs) ≡ cons_option (cond c (Some a.page) None) (filter_map (page_for id) ys)
  stay_step true c a id xs ys e s there f = ap (λ (d : Bool). cons_option (cond d (Some a.page) None) (filter_map (page_for id) xs)) s ∙ ap (λ (l : List ℕ). cons_option (cond c (Some a.page) None) l) f
  stay_step false true a id xs ys e s there f =
      let no : false ≡ true = sym e ∙ ap (λ (j : ℕ). is_some (get new j)) (eqb-true a.search id s) ∙ there in
      let never : ⊥ = cc in absurd never
  stay_step false false a id xs ys e s there f = f

  pages_stay : (pairs : List Attached) (id : ℕ) → is_some (get new id) ≡ true → filter_map (page_for id) (filter (is_kept_pair new) pairs) ≡ filter_map (page_for id) pairs
  pages_stay [] id there = refl
  pages_stay (a ∷ pairs) id there =
      stay_step (is_kept_pair new a) (a.search == id) a id (filter (is_kept_pair new) pairs) pairs refl refl there (pages_stay pairs id there)

  module _ (pairs : List Attached) where
    abbrev left : List Attached
    left = filter (is_kept_pair new) pairs

    abbrev others : HeldSearch → Bool
    others x = not (x.sought.session == session)

    go_step : (o : Option Sought) (c : Bool) (k : ℕ) (ks : List ℕ) (rest : List HeldSearch) → get old k ≡ o → ((s : Sought) → o ≡ Some s → (s.session == session) ≡ c)
        → filter_map (held_at new left) ks ≡ filter others rest
        → filter_map (held_at new left) (cond (is_some (kept_without session o)) (k ∷ ks) ks) ≡ filter others (cons_option (option_map (held_as pairs k) o) rest)
    go_step None c k ks rest at s f = f
    go_step (Some x) true k ks rest at s f =
        let is : (x.session == session) ≡ true = s x refl in
        ap (λ (d : Bool). filter_map (held_at new left) (cond (is_some (cond d None (Some x))) (k ∷ ks) ks)) is ∙ f
        ∙ ap (λ (d : Bool). cond (not d) (held_as pairs k x ∷ filter others rest) (filter others rest)) (sym is)
    go_step (Some x) false k ks rest at s f =
        let is : (x.session == session) ≡ false = s x refl in
        let now : get new k ≡ Some x = kept k ∙ ap (kept_without session) at ∙ ap (λ (d : Bool). cond d None (Some x)) is in
        let there : is_some (get new k) ≡ true = ap (λ (o : Option Sought). is_some o) now in
        ap (λ (d : Bool). filter_map (held_at new left) (cond (is_some (cond d None (Some x))) (k ∷ ks) ks)) is
        ∙ ap (λ (o : Option Sought). cons_option (option_map (held_as left k) o) (filter_map (held_at new left) ks)) now
        ∙ ap (λ (on : List ℕ). record { id = k; sought = x; on = on } ∷ filter_map (held_at new left) ks) (pages_stay pairs k there)
        ∙ ap (λ (l : List HeldSearch). held_as pairs k x ∷ l) f
        ∙ ap (λ (d : Bool). cond (not d) (held_as pairs k x ∷ filter others rest) (filter others rest)) (sym is)

    abbrev session_of : Option Sought → Bool
    session_of None = false
    session_of (Some s) = s.session == session

    pub gone : (order : List ℕ) → filter_map (held_at new left) (filter (is_kept_id new) order) ≡ filter others (filter_map (held_at old pairs) order)
    gone [] = refl
    gone (k ∷ ks) =
        ap (λ (o : Option Sought). filter_map (held_at new left) (cond (is_some o) (k ∷ filter (is_kept_id new) ks) (filter (is_kept_id new) ks))) (kept k)
        ∙ go_step (get old k) (session_of (get old k)) k (filter (is_kept_id new) ks) (filter_map (held_at old pairs) ks) refl (λ s e. by s (get old k) e) (gone ks)
      where
        by : (s : Sought) (o : Option Sought) → o ≡ Some s → (s.session == session) ≡ session_of o
        by s o e = ap session_of (sym e)

  was_there : (o : Option Sought) → is_some (kept_without session o) ≡ true → is_some o ≡ true
  was_there None h = h
  was_there (Some s) h = refl

  pub still_listed : (order : List ℕ) → ((id : ℕ) → is_some (get old id) ≡ true → Has order id) → (id : ℕ) → is_some (get new id) ≡ true → Has (filter (is_kept_id new) order) id
  still_listed order listed id there =
      let was : is_some (get old id) ≡ true = was_there (get old id) (ap (λ (o : Option Sought). is_some o) (sym (kept id)) ∙ there) in
      has_filter (is_kept_id new) order id (listed id was) there

pub kept_there : (slab : Slab Sought) (order : List ℕ) (id : ℕ) → Has (filter (is_kept_id slab) order) id → is_some (get slab id) ≡ true
kept_there slab order id h = filter_passes (is_kept_id slab) order id h

pub kept_attached : (slab : Slab Sought) (pairs : List Attached) (a : Attached) → Has (filter (is_kept_pair slab) pairs) a → is_some (get slab a.search) ≡ true
kept_attached slab pairs a h = filter_passes (is_kept_pair slab) pairs a h

-- the derived equality of pairs is the test of both numbers
pub pairs_same : (of : Attached) (pairs : List Attached) → list_any (eq-value.it of) pairs ≡ list_any (is_pair of.search of.page) pairs
pairs_same of [] = refl
pairs_same of (a ∷ pairs) =
    ap (λ (b : Bool). b || list_any (eq-value.it of) pairs) (one (same_test of.search a.search) (same_test of.page a.page))
    ∙ ap (λ (b : Bool). is_pair of.search of.page a || b) (pairs_same of pairs)
  where
    one : (of.search == a.search) ≡ (a.search == of.search) → (of.page == a.page) ≡ (a.page == of.page) → eq-value.it of a ≡ is_pair of.search of.page a
    one e f = ap (λ (b : Bool). b && (of.page == a.page)) e ∙ ap (λ (b : Bool). (a.search == of.search) && b) f

-- pages by their numbers, and back
abbrev pub numbered_pages : ℕ → PageNo
numbered_pages page = record { 0 = page }

pub numbers_back : (pages : List ℕ) → map page_number (map numbered_pages pages) ≡ pages
numbers_back [] = refl
numbers_back (page ∷ pages) = ap (λ (l : List ℕ). page ∷ l) (numbers_back pages)
