-- A path, page by page.
use Rattle.std.proofs.Common.{◌≡◌, ℕ, suc, ◌+◌, ◌-◌, ◌<◌, ◌≤◌, ◌==◌, Option, Some, None, true, false, List, [], ◌∷◌, length, drop, take, get_or, eqb-true, eq-eqb, refl, sym, ◌∙◌, ap, subst, arith}
use Rattle.std.specs.Prelude.{◌↔◌, Bool, IfSome, is_none, not}
use Rattle.std.specs.Option.{is_some}
use Rattle.std.proofs.lemmas.List.{drop_all, drop_more, take_all}
use Rattle.isp_base.specs.Lists.{Has}
use Rattle.isp_base.specs.declared.page_no.PageNo.{PageNo}
use Rattle.isp_format.specs.Header.{header_of}
use Rattle.isp_format.specs.Ranges.{Contents, page_of}
use Rattle.isp_page.specs.State.{FileShape}
use Rattle.isp_forest.specs.declared.entry.Entry.{Entry}
use Rattle.isp_forest.specs.Place.{IsPath, Names, Stands}
use Rattle.isp_forest.specs.Tree.{Node, Tree, child_of, page_at}
use Rattle.isp_laws.proofs.ForestLaws.{same_page}
use Rattle.isp_page.specs.declared.fault.StoreFault.{StoreFault}
use Rattle.isp_page.specs.declared.fault.StoreFault.TheVariants.{Damaged, Disk, Print}
use Rattle.isp_rtree.specs.Calls.{NamesPage, NamesTree}
use Rattle.isp_rtree.specs.Paths.{BeginsAt, BeginsInside, Leads, LeadsTo, numbers_of}
use Rattle.isp_rtree.specs.Trees.{IsPageOf, IsTreeIn}
use Rattle.isp_rnode.specs.Nodes.{node_of}
use Rattle.isp_rtree.proofs.TreeLaws.{Next, level_in, level_is, next_of, page_of_tree, reads_tree}

-- ---- whether a path leads to a leaf

pub leads_on : (tree : Tree) (p q : ℕ) (page : Node) (e : Entry) (rest : List ℕ) → page_at tree p ≡ Some page → Has page.entries e → child_of e ≡ Some q → Leads tree (p ∷ q ∷ rest) ↔ Leads tree (q ∷ rest)
leads_on tree p q page e rest there has to = (
  λ leads. (leads.0.1, leads.1),
  λ leads. (((e, record { page = page; there = there; has = has; to = to }), leads.0), leads.1),
)

-- the page has the entry that leads on
pub names_next : (tree : Tree) (p q : ℕ) (page : Node) (rest : List ℕ) → page_at tree p ≡ Some page → IsPath tree (p ∷ q ∷ rest) → LeadsTo page q
names_next tree p q page rest there path =
    let names : Names tree p q path.0.0 = path.0.1 in
    let same : names.page ≡ page = same_page (page_at tree p) names.page page names.there there in
    (path.0.0, subst (λ (n : Node). Has n.entries path.0.0) same names.has, names.to)

pub leads_not : (tree : Tree) (p q : ℕ) (page : Node) (rest : List ℕ) → page_at tree p ≡ Some page → ((e : Entry) → Has page.entries e → child_of e ≡ Some q → ⊥) → Leads tree (p ∷ q ∷ rest) → ⊥
leads_not tree p q page rest there none leads =
    let n = names_next tree p q page rest there leads.0 in
    none n.0 n.1 n.2

pub leads_end : (tree : Tree) (p : ℕ) (page : Node) → page_at tree p ≡ Some page → Leads tree (p ∷ []) ↔ (page.level ≡ 0)
leads_end tree p page there = (
  λ leads. (let same : leads.1.0 ≡ page = same_page (page_at tree p) leads.1.0 page leads.1.1 there in ap (λ (n : Node). n.level) (sym same) ∙ leads.1.2),
  λ level. (tt, (page, there, level)),
)

pub stands_or_leads : (tree : Tree) (root : ℕ) (rest : List ℕ) → tree.root ≡ root → Leads tree (root ∷ rest) ↔ Stands tree (root ∷ rest)
stands_or_leads tree root rest is = (
  λ leads. record { starts = sym is; steps = leads.0; leaf = leads.1 },
  λ stands. (stands.steps, stands.leaf),
)

pub none_stands : (tree : Tree) → Stands tree [] → ⊥
none_stands tree stands = stands.starts

pub iff_on : {A B C : Type 0} → A ↔ B → B ↔ C → A ↔ C
iff_on f g = (λ a. g.0 (f.0 a), λ c. f.1 (g.1 c))

pub iff_back : {A B : Type 0} → A ↔ B → B ↔ A
iff_back f = (f.1, f.0)

-- ---- where a call stands on a path

-- page `at` was read, and what is left of the path leads to a leaf where all of it does
pub record OnWay (contents : Contents) (tree : Tree) (at : ℕ) (bytes whole left : List ℕ) : Type 0 where
  pub node : Node
  pub there : page_at tree at ≡ Some node
  pub read : bytes ≡ page_of contents at
  pub same : Leads tree (at ∷ left) ↔ Leads tree whole

-- the entry that was found on the page
pub some_leads : (page : Node) (q : ℕ) (o : Option Entry) → IfSome o (λ e. Has page.entries e × (child_of e ≡ Some q)) → is_none o ≡ false → LeadsTo page q
some_leads page q None is some = cc
some_leads page q (Some e) is some = (e, is.0, is.1)

-- the page that is read next, one below the page that was read
pub record Below (contents : Contents) (shape : FileShape) (owner : ℕ) (tree : Tree) (bytes : List ℕ) (q : ℕ) : Type 0 where
  pub node : Node
  pub there : page_at tree q ≡ Some node
  pub page : IsPageOf shape.pages owner q (page_of contents q)
  pub level : (header_of bytes).level ≡ suc (header_of (page_of contents q)).level

pub below_of : (contents : Contents) (shape : FileShape) (owner : ℕ) (tree : Tree) → IsTreeIn contents shape owner tree → (at q : ℕ) (node : Node) (bytes : List ℕ) → page_at tree at ≡ Some node → bytes ≡ page_of contents at → LeadsTo (node_of bytes) q → Below contents shape owner tree bytes q
below_of contents shape owner tree is at q node bytes there read leads =
    let means : node_of bytes ≡ node = reads_tree contents shape owner tree is at node there bytes read in
    let next : Next tree node q = next_of tree is.forest at q node leads.0 there (subst (λ (n : Node). Has n.entries leads.0) means leads.1) leads.2 in
    let level = level_in contents shape owner tree is q next.node next.there in
    record {
      node = next.node;
      there = next.there;
      page = page_of_tree contents shape owner tree is q next.node next.there;
      level = sym (level_is bytes) ∙ ap (λ (n : Node). n.level) means ∙ next.level ∙ ap suc (sym level);
    }

pub way_on : (contents : Contents) (shape : FileShape) (owner : ℕ) (tree : Tree) → IsTreeIn contents shape owner tree → (at q : ℕ) (bytes new whole left rest : List ℕ) → left ≡ q ∷ rest → LeadsTo (node_of bytes) q → new ≡ page_of contents q → OnWay contents tree at bytes whole left → OnWay contents tree q new whole rest
way_on contents shape owner tree is at q bytes new whole left rest ahead leads read w =
    let means : node_of bytes ≡ w.node = reads_tree contents shape owner tree is at w.node w.there bytes w.read in
    let has : Has w.node.entries leads.0 = subst (λ (n : Node). Has n.entries leads.0) means leads.1 in
    let next = below_of contents shape owner tree is at q w.node bytes w.there w.read leads in
    record {
      node = next.node;
      there = next.there;
      read = read;
      same = iff_on (iff_back (leads_on tree at q w.node leads.0 rest w.there has leads.2)) (subst (λ (l : List ℕ). Leads tree (at ∷ l) ↔ Leads tree whole) ahead w.same);
    }

-- the path ends where the page has no entry for the next
pub way_ends : (contents : Contents) (shape : FileShape) (owner : ℕ) (tree : Tree) → IsTreeIn contents shape owner tree → (at q : ℕ) (bytes whole left rest : List ℕ) → left ≡ q ∷ rest → ((e : Entry) → Has (node_of bytes).entries e → child_of e ≡ Some q → ⊥) → OnWay contents tree at bytes whole left → Leads tree whole → ⊥
way_ends contents shape owner tree is at q bytes whole left rest ahead none w leads =
    let means : node_of bytes ≡ w.node = reads_tree contents shape owner tree is at w.node w.there bytes w.read in
    let on : Leads tree (at ∷ q ∷ rest) = subst (λ (l : List ℕ). Leads tree (at ∷ l)) ahead (w.same.1 leads) in
    leads_not tree at q w.node rest w.there (λ e has to. none e (subst (λ (n : Node). Has n.entries e) (sym means) has) to) on

-- with none left it leads to a leaf exactly where the page is one
pub way_leaf : (contents : Contents) (shape : FileShape) (owner : ℕ) (tree : Tree) → IsTreeIn contents shape owner tree → (at : ℕ) (bytes whole left : List ℕ) → left ≡ [] → OnWay contents tree at bytes whole left → ((header_of bytes).level ≡ 0) ↔ Leads tree whole
way_leaf contents shape owner tree is at bytes whole left none w =
    let means : node_of bytes ≡ w.node = reads_tree contents shape owner tree is at w.node w.there bytes w.read in
    let level : (header_of bytes).level ≡ w.node.level = sym (level_is bytes) ∙ ap (λ (n : Node). n.level) means in
    let end : Leads tree (at ∷ []) ↔ (w.node.level ≡ 0) = leads_end tree at w.node w.there in
    let same : Leads tree (at ∷ []) ↔ Leads tree whole = subst (λ (l : List ℕ). Leads tree (at ∷ l) ↔ Leads tree whole) none w.same in
    (λ leaf. same.0 (end.1 (sym level ∙ leaf)), λ leads. level ∙ end.0 (same.1 leads))

-- the pages that are left begin with the next one
pub ahead : (rest : List PageNo) (k : ℕ) (d : PageNo) → k < length rest → numbers_of (drop k rest) ≡ (get_or rest k d).0 ∷ numbers_of (drop (k + 1) rest)
ahead rest k d inside = ap numbers_of (drop_more rest k d inside)

pub none_ahead : (rest : List PageNo) (k : ℕ) → length rest ≤ k → numbers_of (drop k rest) ≡ []
none_ahead rest k end = ap numbers_of (drop_all k rest end)

pub none_is : (o : Option Entry) → is_none o ≡ true → o ≡ None
none_is None is = refl
none_is (Some e) is = cc

pub zero_iff : (n m : ℕ) (A : Type 0) → n ≡ m → (m ≡ 0) ↔ A → ((n == 0) ≡ true) ↔ A
zero_iff n m A same iff = (λ yes. iff.0 (sym same ∙ eqb-true n 0 yes), λ a. eq-eqb n 0 (same ∙ iff.1 a))

-- a page of the file is named
pub names_page : (q pages : ℕ) (fault : StoreFault) → q < pages → NamesPage q fault → NamesTree pages fault
names_page q pages Disk inside names = tt
names_page q pages Print inside names = tt
names_page q pages (Damaged page rule) inside names = (subst (λ (p : ℕ). p < pages) (sym names.0) inside, names.1)

pub names_broken : (q pages : ℕ) (fault : StoreFault) → q < pages → fault ≡ Damaged q 9 → NamesTree pages fault
names_broken q pages fault inside is = subst (λ (f : StoreFault). NamesTree pages f) (sym is) (inside, refl)

-- the first page of a path, and the others
abbrev pub others : List PageNo → List PageNo
others path = take (length path - 1) (drop 1 path)

pub parts_of : (path : List PageNo) (d : PageNo) → 0 < length path → numbers_of path ≡ (get_or path 0 d).0 ∷ numbers_of (others path)
parts_of [] d some = absurd (omega arith)
parts_of (p ∷ rest) d some = ap (λ (l : List PageNo). p.0 ∷ numbers_of l) (sym (take_all (length (p ∷ rest) - 1) rest (omega arith)))

pub others_fit : (path : List PageNo) (room : ℕ) → length path ≤ room → length (others path) ≤ room
others_fit [] room fits =
    let none : List PageNo = [] in
    let same : length (others none) ≡ length none = ap length (take_all (length none - 1) none (omega arith)) in
    omega (arith, fits, same)
others_fit (p ∷ rest) room fits =
    let same : length (others (p ∷ rest)) ≡ length rest = ap length (take_all (length (p ∷ rest) - 1) rest (omega arith)) in
    omega (arith, fits, same)

pub no_path : (path : List PageNo) → length path ≡ 0 → numbers_of path ≡ []
no_path [] none = refl
no_path (p ∷ rest) none = absurd (omega (arith, none))

pub first_inside : (path : List PageNo) (d : PageNo) (pages : ℕ) → 0 < length path → BeginsInside pages (numbers_of path) → (get_or path 0 d).0 < pages
first_inside [] d pages some inside = absurd (omega arith)
first_inside (p ∷ rest) d pages some inside = inside

pub first_is : (path : List PageNo) (d : PageNo) (root : ℕ) → 0 < length path → BeginsAt root (numbers_of path) → (get_or path 0 d).0 ≡ root
first_is [] d root some begins = absurd (omega arith)
first_is (p ∷ rest) d root some begins = begins

pub is_there : (o : Option Entry) (r : Bool) → is_some o ≡ not r → r ≡ false → is_none o ≡ false
is_there o true is other = absurd (let both : true ≡ false = other in cc)
is_there None false is other = absurd (let both : false ≡ true = is in cc)
is_there (Some e) false is other = refl

pub isnt_there : (o : Option Entry) (r : Bool) → is_some o ≡ not r → r ≡ true → is_none o ≡ true
isnt_there o false is other = absurd (let both : false ≡ true = other in cc)
isnt_there None true is other = refl
isnt_there (Some e) true is other = absurd (let both : true ≡ false = is in cc)
