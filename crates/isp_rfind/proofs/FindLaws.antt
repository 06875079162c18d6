-- Looking for an entry as the visits of a search over a tree that stays: each page is read once, and with none left each page that
-- could have the entry was read.
use Rattle.std.proofs.Common.{◌≡◌, inl, inr, ℕ, zero, suc, ◌+◌, ◌≤◌, ◌==◌, Bool, true, false, cond, Option, Some, None, List, [], ◌∷◌, ◌++◌, length, refl, sym, ◌∙◌, ap, subst, arith, eqb-true}
use Rattle.std.specs.Prelude.{is_none}
use Rattle.std.specs.List.{cons_option, filter_map}
use Rattle.std.proofs.lemmas.List.{append-nil}
use Rattle.isp_base.specs.Lists.{Has}
use Rattle.isp_base.specs.declared.page_no.PageNo.{PageNo}
use Rattle.isp_format.specs.Ranges.{Contents, page_of}
use Rattle.isp_page.specs.State.{FileShape}
use Rattle.isp_rnode.specs.Nodes.{node_of}
use Rattle.isp_mbr.specs.Boxes.{covers}
use Rattle.isp_mbr.specs.Corners.{Corners}
use Rattle.isp_mbr.specs.Predicates.{may_hold}
use Rattle.isp_mbr.specs.declared.predicate.Predicate.{Predicate}
use Rattle.isp_mbr.specs.declared.predicate.Test.TheVariants.{Equals}
use Rattle.isp_mbr.proofs.BoxLaws.{covers_refl, covers_trans}
use Rattle.isp_forest.specs.declared.entry.Entry.{Entry}
use Rattle.isp_forest.specs.declared.entry.To.{To}
use Rattle.isp_forest.specs.declared.entry.To.TheVariants.{Child, Row}
use Rattle.isp_forest.specs.Forest.{Forest, IsBelow, IsPage}
use Rattle.isp_forest.specs.Search.{Covered, Search, Sees}
use Rattle.isp_forest.specs.Steps.{is_among}
use Rattle.isp_forest.specs.Tree.{Node, Tree, child_in, child_of, counter, page_at}
use Rattle.isp_forest.specs.Visit.{begun, looked_at, remembered, to_visit, visit, visited_at}
use Rattle.isp_forest.specs.Walk.{split_since}
use Rattle.isp_laws.proofs.ForestLaws.{Above, above, below_root, same_page}
use Rattle.isp_laws.proofs.ListLaws.{Has-append, Has-append_left, Has-append_right}
use Rattle.isp_searches.specs.SearchLaws.{IsVisit, VisitedOnce, Visits}
use Rattle.isp_searches.proofs.SeesLaws.{stays_here}
use Rattle.isp_searches.proofs.VisitOnceLaws.{visits_once}
use Rattle.isp_searches.proofs.VisitSearchLaws.{begun_covered, visit_covered}
use Rattle.isp_rfind.specs.Finding.{Finds, HasEntry}
use Rattle.isp_rfind.specs.Stack.{AreNext, Takes, children_of, pending_in, pending_of}
use Rattle.isp_rfind.specs.declared.pending.Pending.{Pending}
use Rattle.isp_rtree.specs.Trees.{IsTreeIn}
use Rattle.isp_rtree.proofs.TreeLaws.{level_is, next_of, reads_tree}

-- the search that asks for the box
abbrev equals : Corners → Predicate
equals b = record { test = Equals; q = b }

-- the pages that are still to be read, as that search remembers them
abbrev remembers : ℕ → List Pending → List (ℕ × ℕ)
remembers now [] = []
remembers now (s ∷ stack) = (s.page.0, now) ∷ remembers now stack

remembers-append : (now : ℕ) (xs ys : List Pending) → remembers now (xs ++ ys) ≡ remembers now xs ++ remembers now ys
remembers-append now [] ys = refl
remembers-append now (x ∷ xs) ys = ap (λ (zs : List (ℕ × ℕ)). (x.page.0, now) ∷ zs) (remembers-append now xs ys)

-- ---- the children of a page

remembers_children : (b : Corners) (level now : ℕ) (es : List Entry) → remembers now (filter_map (pending_of level b) es) ≡ to_visit (equals b) now es
remembers_children b level now [] = refl
remembers_children b level now (e ∷ es) = one (covers e.b b) e.to (remembers_children b level now es)
  where
    one : (t : Bool) (to : To) → remembers now (filter_map (pending_of level b) es) ≡ to_visit (equals b) now es → remembers now (cons_option (pending_in t level to) (filter_map (pending_of level b) es)) ≡ cond t (remembered now (child_in to)) [] ++ to_visit (equals b) now es
    one false to h = h
    one true (Row key number) h = h
    one true (Child p) h = ap (λ (zs : List (ℕ × ℕ)). (p.0, now) ∷ zs) h

-- a leaf has none
no_children : (b : Corners) (level : ℕ) (es : List Entry) → ((e : Entry) → Has es e → is_none (child_of e) ≡ true) → filter_map (pending_of level b) es ≡ []
no_children b level [] leaf = refl
no_children b level (e ∷ es) leaf = ap (λ (o : Option Pending). cons_option o (filter_map (pending_of level b) es)) (one (covers e.b b) e.to (leaf e (inl refl))) ∙ no_children b level es (λ x h. leaf x (inr h))
  where
    one : (t : Bool) (to : To) → is_none (child_in to) ≡ true → pending_in t level to ≡ None
    one false to h = refl
    one true (Row key number) h = refl
    one true (Child p) h = cc

visits_children : (tree : Tree) → Forest tree → (b : Corners) (q : ℕ) (page : Node) → page_at tree q ≡ Some page → remembers (counter tree) (filter_map (pending_of page.level b) page.entries) ≡ cond (page.level == 0) [] (to_visit (equals b) (counter tree) page.entries)
visits_children tree forest b q page there = by (page.level == 0) refl
  where
    is : IsPage tree q page
    is = forest.each q page there

    by : (t : Bool) → (page.level == 0) ≡ t → remembers (counter tree) (filter_map (pending_of page.level b) page.entries) ≡ cond t [] (to_visit (equals b) (counter tree) page.entries)
    by true t = ap (remembers (counter tree)) (no_children b page.level page.entries (λ e h. is.kinds e h ∙ t))
    by false t = remembers_children b page.level (counter tree) page.entries

pub record FromEntry (es : List Entry) (level : ℕ) (s : Pending) : Type 0 where
  pub e : Entry
  pub has : Has es e
  pub to : child_of e ≡ Some s.page.0
  pub above : s.above ≡ level

pub from_entry : (b : Corners) (level : ℕ) (es : List Entry) (s : Pending) → Has (filter_map (pending_of level b) es) s → FromEntry es level s
from_entry b level [] s h = absurd h
from_entry b level (e ∷ es) s h = one (covers e.b b) e.to refl (λ k. behind (from_entry b level es s k)) h
  where
    behind : FromEntry es level s → FromEntry (e ∷ es) level s
    behind f = record { e = f.e; has = inr f.has; to = f.to; above = f.above }

    one : (t : Bool) (to : To) → e.to ≡ to → (Has (filter_map (pending_of level b) es) s → FromEntry (e ∷ es) level s) → Has (cons_option (pending_in t level to) (filter_map (pending_of level b) es)) s → FromEntry (e ∷ es) level s
    one false to is later k = later k
    one true (Row key number) is later k = later k
    one true (Child p) is later (inl same) = record { e = e; has = inl refl; to = ap child_in is ∙ ap (λ (x : Pending). Some x.page.0) same; above = ap (λ (x : Pending). x.above) (sym same) }
    one true (Child p) is later (inr k) = later k

next_children : (tree : Tree) → Forest tree → (b : Corners) (q : ℕ) (page : Node) → page_at tree q ≡ Some page → AreNext tree (filter_map (pending_of page.level b) page.entries)
next_children tree forest b q page there s h =
    let f = from_entry b page.level page.entries s h in
    let n = next_of tree forest q s.page.0 page f.e there f.has f.to in
    (n.node, n.there, f.above ∙ n.level)

next_both : (tree : Tree) (xs ys : List Pending) → AreNext tree xs → AreNext tree ys → AreNext tree (xs ++ ys)
next_both tree xs ys one other s h = elim (Has-append xs ys s h) [ inl k ↦ one s k | inr k ↦ other s k ]

-- ---- the search so far

-- no page that was read has the entry
abbrev NoneOn : Tree → List ℕ → Corners → ℕ → Type 0
NoneOn tree on b number = (p : ℕ) (page : Node) → Has on p → page_at tree p ≡ Some page → HasEntry page b number → ⊥

-- So many visits were made; page q is read and looked at next, and these pages are still to be read.
pub record Looking (tree : Tree) (b : Corners) (number visited q : ℕ) (stack : List Pending) : Type 0 where
  pub x : Search
  pub run : Visits tree visited (begun tree 0 0 (equals b)) x
  pub asks : x.predicate ≡ equals b
  pub covered : Covered tree x
  pub stack_is : x.stack ≡ remembers (counter tree) stack ++ (q, counter tree) ∷ []
  pub next : AreNext tree stack
  pub none : NoneOn tree x.on b number
  pub page : Node
  pub there : page_at tree q ≡ Some page

pub begins : (tree : Tree) → Forest tree → (b : Corners) (number root : ℕ) → tree.root ≡ root → Looking tree b number 0 root []
begins tree forest b number root is = record {
  x = begun tree 0 0 (equals b);
  run = refl;
  asks = refl;
  covered = begun_covered tree 0 0 (equals b) forest;
  stack_is = ap (λ (r : ℕ). (r, counter tree) ∷ []) is;
  next = λ s h. absurd h;
  none = λ p page h there has. h;
  page = forest.top;
  there = subst (λ (r : ℕ). page_at tree r ≡ Some forest.top) is forest.rooted;
}

visits_on : (tree : Tree) (n : ℕ) (x y z : Search) → Visits tree n x y → IsVisit tree y z → Visits tree (suc n) x z
visits_on tree zero x y z run last = (z, subst (λ (w : Search). IsVisit tree w z) (sym run) last, refl)
visits_on tree (suc n) x y z run last = (run.0, run.1, visits_on tree n run.0 y z run.2 last)

-- the next visit
abbrev visited : (tree : Tree) (b : Corners) (number n q : ℕ) (stack : List Pending) → Looking tree b number n q stack → Search
visited tree b number n q stack l = looked_at (counter tree) l.page q (record l.x { stack = remembers (counter tree) stack ++ [] })

-- the same as the forest's definitions have it
visited_is : (tree : Tree) (forest : Forest tree) (b : Corners) (number n q : ℕ) (stack : List Pending) (l : Looking tree b number n q stack) → visit tree (remembers (counter tree) stack) q (counter tree) l.x ≡ visited tree b number n q stack l
visited_is tree forest b number n q stack l =
    let rest = remembers (counter tree) stack in
    let once : VisitedOnce tree n l.x = visits_once tree 0 0 (equals b) n l.x forest l.run in
    let some : IsVisit tree l.x (visit tree rest q (counter tree) l.x) = record { rest = rest; p = q; s = counter tree; stack = l.stack_is; is = refl } in
    let fresh : is_among l.x.on q ≡ false = once.next (visit tree rest q (counter tree) l.x) some in
    let alone : split_since (counter tree) (Some l.page) ≡ None = ap (split_since (counter tree)) (sym l.there) ∙ stays_here tree forest q l.page l.there in
    ap (λ (o : Option Node). visited_at tree q (counter tree) o (record l.x { stack = rest })) l.there
    ∙ ap (λ (t : Bool). cond t (record l.x { stack = rest ++ remembered (counter tree) (split_since (counter tree) (Some l.page)) })
    (looked_at (counter tree) l.page q (record l.x { stack = rest ++ remembered (counter tree) (split_since (counter tree) (Some l.page)) }))) fresh
    ∙ ap (λ (o : Option ℕ). looked_at (counter tree) l.page q (record l.x { stack = rest ++ remembered (counter tree) o })) alone

-- page q was looked at and has no such entry; its children are put on the stack, whose last page is read next, if there is one
pub record Looked (tree : Tree) (b : Corners) (number visited : ℕ) (stack : List Pending) : Type 0 where
  pub x : Search
  pub run : Visits tree visited (begun tree 0 0 (equals b)) x
  pub asks : x.predicate ≡ equals b
  pub covered : Covered tree x
  pub stack_is : x.stack ≡ remembers (counter tree) stack
  pub next : AreNext tree stack
  pub none : NoneOn tree x.on b number

pub looks : (tree : Tree) (forest : Forest tree) (b : Corners) (number n q : ℕ) (stack now : List Pending) (l : Looking tree b number n q stack) → (HasEntry l.page b number → ⊥) → now ≡ stack ++ filter_map (pending_of l.page.level b) l.page.entries → Looked tree b number (suc n) now
looks tree forest b number n q stack now l lacks pushed = record {
  x = y;
  run = visits_on tree n (begun tree 0 0 (equals b)) l.x y l.run (record { rest = rest; p = q; s = counter tree; stack = l.stack_is; is = visited_is tree forest b number n q stack l });
  asks = l.asks;
  covered = subst (λ (z : Search). Covered tree z) (visited_is tree forest b number n q stack l) (visit_covered tree l.x rest q (counter tree) forest l.stack_is l.covered);
  stack_is = stacked;
  next = subst (λ (s : List Pending). AreNext tree s) (sym pushed) (next_both tree stack kids l.next (next_children tree forest b q l.page l.there));
  none = λ p page on there has. elim (Has-append l.x.on (q ∷ []) p on) [
    | inl before ↦ l.none p page before there has
    | inr new ↦ lacks (subst (λ (z : Node). HasEntry z b number) (at_q p page new there) has)
  ];
}
  where
    rest : List (ℕ × ℕ)
    rest = remembers (counter tree) stack

    kids : List Pending
    kids = filter_map (pending_of l.page.level b) l.page.entries

    y : Search
    y = visited tree b number n q stack l

    at_q : (p : ℕ) (page : Node) → Has (q ∷ []) p → page_at tree p ≡ Some page → page ≡ l.page
    at_q p page (inl is) there = same_page (page_at tree p) page l.page there (subst (λ (z : ℕ). page_at tree z ≡ Some l.page) is l.there)
    at_q p page (inr none) there = absurd none

    stacked : y.stack ≡ remembers (counter tree) now
    stacked =
        ap (λ (r : List (ℕ × ℕ)). r ++ cond (l.page.level == 0) [] (to_visit l.x.predicate (counter tree) l.page.entries)) (append-nil rest)
        ∙ ap (λ (p : Predicate). rest ++ cond (l.page.level == 0) [] (to_visit p (counter tree) l.page.entries)) l.asks
        ∙ ap (λ (r : List (ℕ × ℕ)). rest ++ r) (sym (visits_children tree forest b q l.page l.there))
        ∙ sym (remembers-append (counter tree) stack kids)
        ∙ ap (remembers (counter tree)) (sym pushed)

-- the last page of the stack is read next
pub goes_on : (tree : Tree) (b : Corners) (number n : ℕ) (stack left : List Pending) (s : Pending) → stack ≡ left ++ s ∷ [] → Looked tree b number n stack → Looking tree b number n s.page.0 left
goes_on tree b number n stack left s popped l =
    let last : Has stack s = subst (λ (z : List Pending). Has z s) (sym popped) (Has-append_right left (s ∷ []) s (inl refl)) in
    let there = l.next s last in
    record {
      x = l.x;
      run = l.run;
      asks = l.asks;
      covered = l.covered;
      stack_is = l.stack_is ∙ ap (remembers (counter tree)) popped ∙ remembers-append (counter tree) left (s ∷ []);
      next = λ r h. l.next r (subst (λ (z : List Pending). Has z r) (sym popped) (Has-append_left left (s ∷ []) r h));
      none = l.none;
      page = there.0;
      there = there.1;
    }

pub next_level : (tree : Tree) (b : Corners) (number n : ℕ) (stack left : List Pending) (s : Pending) → stack ≡ left ++ s ∷ [] → (l : Looked tree b number n stack) → (node : Node) × (page_at tree s.page.0 ≡ Some node) × (s.above ≡ suc node.level)
next_level tree b number n stack left s popped l = l.next s (subst (λ (z : List Pending). Has z s) (sym popped) (Has-append_right left (s ∷ []) s (inl refl)))

-- there is one more page at least than was visited
pub not_over : (tree : Tree) (forest : Forest tree) (b : Corners) (number n q : ℕ) (stack : List Pending) → Looking tree b number n q stack → suc n ≤ length tree.pages
not_over tree forest b number n q stack l =
    let rest = remembers (counter tree) stack in
    let y = visit tree rest q (counter tree) l.x in
    let some : IsVisit tree l.x y = record { rest = rest; p = q; s = counter tree; stack = l.stack_is; is = refl } in
    (visits_once tree 0 0 (equals b) (suc n) y forest (visits_on tree n (begun tree 0 0 (equals b)) l.x y l.run some)).bound

-- ---- with none left, each page with a box round the one that is sought was read

sees_on : (tree : Tree) (x : Search) → x.stack ≡ [] → (q : ℕ) → Sees tree x q → Has x.on q
sees_on tree x done q (inl on) = on
sees_on tree x done q (inr r) = absurd (subst (λ (st : List (ℕ × ℕ)). Has st (r.from, r.ssn)) done r.remembered)

-- where each page above it was read, the page was
on_by_above : (tree : Tree) (f : Forest tree) (b : Corners) (x : Search) → Covered tree x → x.predicate ≡ equals b → x.stack ≡ [] → (q : ℕ) (page : Node) (e : Entry) → page_at tree q ≡ Some page → Has page.entries e → covers e.b b ≡ true
    → ((a : Above tree q) → covers (a.e).b b ≡ true → (a.names.page).level ≡ suc page.level → Has x.on a.p) → Has x.on q
on_by_above tree f b x c asks done q page e there has round up = by (q == tree.root) refl
  where
    by : (t : Bool) → (q == tree.root) ≡ t → Has x.on q
    by true t = subst (λ (z : ℕ). Has x.on z) (sym (eqb-true q tree.root t)) (sees_on tree x done tree.root c.root)
    by false t =
        let a : Above tree q = above tree f q page there t in
        let is : IsBelow a.e a.names.page page = f.below a.p q a.names.page page a.e a.names.there a.names.has a.names.to there in
        let round' : covers (a.e).b b ≡ true = covers_trans (a.e).b e.b b (is.inside e has) round in
        let may : may_hold x.predicate (a.e).b ≡ true = ap (λ (z : Predicate). may_hold z (a.e).b) asks ∙ round' in
        sees_on tree x done q (c.children a.p q a.e (up a round' is.level) a.names may)

on_it : (tree : Tree) (f : Forest tree) (b : Corners) (x : Search) → Covered tree x → x.predicate ≡ equals b → x.stack ≡ [] → (k q : ℕ) (page : Node) (e : Entry) → page_at tree q ≡ Some page → Has page.entries e → covers e.b b ≡ true → f.top.level ≤ page.level + k → Has x.on q
on_it tree f b x c asks done zero q page e there has round high =
    on_by_above tree f b x c asks done q page e there has round (λ a round' level. elim (below_root tree f a.p a.names.page a.names.there) [
      | inl root ↦ subst (λ (z : ℕ). Has x.on z) (sym root) (sees_on tree x done tree.root c.root)
      | inr less ↦ absurd (omega (arith, level, less, high))
    ])
on_it tree f b x c asks done (suc k) q page e there has round high =
    on_by_above tree f b x c asks done q page e there has round (λ a round' level.
    on_it tree f b x c asks done k a.p a.names.page a.e a.names.there a.names.has round' (omega (arith, level, high)))

-- with none left, no page has the entry
pub none_left : (tree : Tree) (forest : Forest tree) (b : Corners) (number n : ℕ) → Looked tree b number n [] → Finds tree b number None
none_left tree forest b number n l p sought =
    let e = sought.entry in
    let round : covers e.b b ≡ true = ap (λ (c : Corners). covers c b) sought.is.box_is ∙ covers_refl b in
    let on : Has l.x.on p = on_it tree forest b l.x l.covered l.asks l.stack_is forest.top.level p sought.page e sought.there sought.has round (omega arith) in
    l.none p sought.page on sought.there (e, sought.has, sought.is)

-- ---- the same of a page that was read

pub found_here : (contents : Contents) (shape : FileShape) (owner : ℕ) (tree : Tree) → IsTreeIn contents shape owner tree → (b : Corners) (number n : ℕ) (at : PageNo) (stack : List Pending) (bytes : List ℕ) → bytes ≡ page_of contents at.0 → Looking tree b number n at.0 stack → HasEntry (node_of bytes) b number → Finds tree b number (Some at)
found_here contents shape owner tree is b number n at stack bytes read l has =
    let means : node_of bytes ≡ l.page = reads_tree contents shape owner tree is at.0 l.page l.there bytes read in
    record { page = l.page; there = l.there; entry = has.0; has = subst (λ (x : Node). Has x.entries has.0) means has.1; is = has.2 }

pub looked_here : (contents : Contents) (shape : FileShape) (owner : ℕ) (tree : Tree) → IsTreeIn contents shape owner tree → (b : Corners) (number n q : ℕ) (stack : List Pending) (bytes : List ℕ) → bytes ≡ page_of contents q → Looking tree b number n q stack → (HasEntry (node_of bytes) b number → ⊥) → Looked tree b number (suc n) (stack ++ children_of b bytes)
looked_here contents shape owner tree is b number n q stack bytes read l lacks =
    let means : node_of bytes ≡ l.page = reads_tree contents shape owner tree is q l.page l.there bytes read in
    let same : children_of b bytes ≡ filter_map (pending_of l.page.level b) l.page.entries =
    ap (λ (level : ℕ). filter_map (pending_of level b) (node_of bytes).entries) (sym (level_is bytes)) ∙ ap (λ (x : Node). filter_map (pending_of x.level b) x.entries) means in
    looks tree is.forest b number n q stack (stack ++ children_of b bytes) l (λ has. lacks (subst (λ (x : Node). HasEntry x b number) (sym means) has)) (ap (λ (xs : List Pending). stack ++ xs) same)

pub takes_none : (tree : Tree) → Forest tree → (b : Corners) (number n : ℕ) (all left : List Pending) → Takes all None left → Looked tree b number n all → Finds tree b number None
takes_none tree forest b number n all left takes l = none_left tree forest b number n (subst (λ (xs : List Pending). Looked tree b number n xs) takes l)

pub takes_next : (tree : Tree) (b : Corners) (number n m : ℕ) (all left : List Pending) (p : PageNo) → m ≡ n → Takes all (Some p) left → Looked tree b number n all → Looking tree b number m p.0 left
takes_next tree b number n m all left p same takes l =
    let on : Looking tree b number n (takes.0).page.0 left = goes_on tree b number n all left takes.0 takes.1 l in
    subst (λ (k : ℕ). Looking tree b number k p.0 left) (sym same) (subst (λ (x : PageNo). Looking tree b number n x.0 left) takes.2 on)
