-- The pages of a path as they are read.
use Rattle.std.proofs.Common.{rules, inl, inr, ◌≡◌, ℕ, suc, ◌+◌, ◌<◌, ◌≤◌, Some, List, [], ◌∷◌, ◌++◌, get_or, length, map, take, refl, sym, ◌∙◌, ap, subst, arith, length-append}
use Rattle.std.specs.Prelude.{Err, Ok, Result, ⊤}
use Rattle.std.proofs.lemmas.List.{append_assoc, append-nil, map-append, take_all, take_more}
use Rattle.isp_base.specs.Lists.{Has}
use Rattle.isp_base.specs.declared.page_no.PageNo.{PageNo}
use Rattle.isp_format.specs.Header.{header_of}
use Rattle.isp_format.specs.Ranges.{Contents, page_of}
use Rattle.isp_page.specs.Calls.{ContinuesOrLacks}
use Rattle.isp_page.specs.State.{FileShape}
use Rattle.isp_page.specs.declared.fault.Fault.{Fault}
use Rattle.isp_page.specs.declared.fault.Fault.TheVariants.{Memory, Store}
use Rattle.isp_page.specs.declared.fault.StoreFault.TheVariants.{Damaged, Disk, Print}
use Rattle.isp_page.specs.declared.pages.Pages.{Ghosts}
use Rattle.isp_forest.specs.Tree.{Node, Tree, counter, page_at}
use Rattle.isp_laws.proofs.ForestLaws.{counter_is}
use Rattle.isp_rnode.specs.Nodes.{link_of, node_of}
use Rattle.isp_rplan.specs.declared.steps.PathPage.{PathPage}
use Rattle.isp_rsettle.specs.Placed.{IsPathPage, page_number, path_number}
use Rattle.isp_rtree.specs.Paths.{Leads, LeadsTo, numbers_of}
use Rattle.isp_rtree.specs.Calls.{NamesTreeOrLacks}
use Rattle.isp_rtree.specs.Trees.{IsAtPage, IsPageOf, IsTreeAt, IsTreeIn}
use Rattle.isp_rtree.proofs.PathLaws.{Below, below_of, leads_end, names_next, others, parts_of}
use Rattle.isp_rtree.proofs.TreeLaws.{level_is, next_is, reads_tree, ssn_is, top_of}
use Rattle.isp_rinsert.specs.Calls.{ReadsTree, StaysAtLack}
use Rattle.isp_rinsert.specs.Preparing.{IsWay, IsWayOf}
use Rattle.isp_rinsert.specs.declared.way.Way.{Way}
use Rattle.isp_rinsert.specs.Ways.{GoesDown, GoesDownIn, IsReadAs}
use Rattle.isp_rinsert.proofs.WriteLaws.{has_pushed}

abbrev pub so_far : Result ⊤ Fault
so_far = Ok tt

-- turns that continue, and one that does
pub one_more : {S T : Type 0} (g : Ghosts S) (old mid new : S) (x : T) → ContinuesOrLacks {T = ⊤} g old mid so_far → ContinuesOrLacks {T = T} g mid new (Ok x) → ContinuesOrLacks {T = ⊤} g old new so_far
one_more g old mid new x first second = search rules

-- a call that ends with a fault, behind turns that read
pub lacks_on : {S : Type 0} (A B : Type 0) (g : Ghosts S) (old mid new : S) (e : Fault) → g.mini mid ≡ g.mini old → (g.tells → g.contents mid ≡ g.contents old) → StaysAtLack {T = A} g mid new (Err e) → StaysAtLack {T = B} g old new (Err e)
lacks_on A B g old mid new (Store fault) mini contents stays = tt
lacks_on A B g old mid new Memory mini contents stays = (stays.0 ∙ mini, λ tells. stays.1 tells ∙ contents tells)

fails_on : {S A B : Type 0} (g : Ghosts S) (old mid new : S) (e : Fault) → ContinuesOrLacks {T = ⊤} g old mid so_far → ContinuesOrLacks {T = A} g mid new (Err e) → ContinuesOrLacks {T = B} g old new (Err e)
fails_on g old mid new (Store Disk) first second = search rules
fails_on g old mid new (Store Print) first second = search rules
fails_on g old mid new (Store (Damaged page rule)) first second = search rules
fails_on g old mid new Memory first second = search rules

pub reads_on : {S A B : Type 0} (g : Ghosts S) (old mid new : S) (e : Fault) (r : Result B Fault) → r ≡ Err e → ContinuesOrLacks {T = ⊤} g old mid so_far → g.mini mid ≡ g.mini old → (g.tells → g.contents mid ≡ g.contents old) → ReadsTree {T = A} g mid new (Err e) → ReadsTree {T = B} g old new r
reads_on {A = A} {B = B} g old mid new e r is kept mini contents w = subst (λ (x : Result B Fault). ReadsTree {T = B} g old new x) (sym is) (record {
  kept = fails_on {A = A} {B = B} g old mid new e kept w.kept;
  contents = λ tells. tt;
  mini = tt;
  lacks = lacks_on A B g old mid new e mini contents w.lacks;
  names = subst (λ (s : FileShape). NamesTreeOrLacks s.pages e) kept.keeps.same_shape w.names;
})

-- the root that was read is the tree's, and tells its owner
pub owner_told : (contents : Contents) (shape : FileShape) (owner told root pages : ℕ) (tree : Tree) (bytes : List ℕ) → IsTreeAt contents shape owner root tree → bytes ≡ page_of contents root → IsPageOf pages told root bytes → owner ≡ told
owner_told contents shape owner told root pages tree bytes at read is =
    let node = at.is.nodes root at.is.forest.top (top_of contents shape owner root tree at) in
    sym node.owner_is ∙ ap (λ (b : List ℕ). (header_of b).owner) (sym read) ∙ is.node.owner_is

pub at_top : (contents : Contents) (shape : FileShape) (owner told root pages : ℕ) (tree : Tree) (bytes : List ℕ) → IsTreeAt contents shape owner root tree → bytes ≡ page_of contents root → IsPageOf pages told root bytes → IsAtPage contents shape told tree root bytes
at_top contents shape owner told root pages tree bytes at read is = record {
  is = subst (λ (o : ℕ). IsTreeIn contents shape o tree) (owner_told contents shape owner told root pages tree bytes at read is) at.is;
  node = at.is.forest.top;
  there = top_of contents shape owner root tree at;
  read = read;
}

-- the root's sequence number is the counter
pub counter_read : (contents : Contents) (shape : FileShape) (owner root : ℕ) (tree : Tree) (bytes : List ℕ) → IsTreeAt contents shape owner root tree → bytes ≡ page_of contents root → (header_of bytes).ssn ≡ counter tree
counter_read contents shape owner root tree bytes at read =
    let top = top_of contents shape owner root tree at in
    let means : node_of bytes ≡ at.is.forest.top = reads_tree contents shape owner tree at.is root at.is.forest.top top bytes read in
    sym (ssn_is bytes) ∙ ap (λ (n : Node). n.ssn) means ∙ sym (counter_is tree at.is.forest)

-- a page that was read is the tree's
pub path_page_of : (contents : Contents) (shape : FileShape) (owner : ℕ) (tree : Tree) → IsTreeIn contents shape owner tree → (page : PageNo) (node : Node) (bytes : List ℕ) (p : PathPage) → page_at tree page.0 ≡ Some node → bytes ≡ page_of contents page.0 → IsReadAs page bytes p → IsPathPage tree p
path_page_of contents shape owner tree is page node bytes p there read as_read =
    let means : node_of bytes ≡ node = reads_tree contents shape owner tree is page.0 node there bytes read in
    record {
      node = node;
      there = ap (λ (q : PageNo). page_at tree q.0) as_read.page_is ∙ there;
      level = as_read.level ∙ sym (level_is bytes) ∙ ap (λ (n : Node). n.level) means;
      ssn = as_read.ssn ∙ sym (ssn_is bytes) ∙ ap (λ (n : Node). n.ssn) means;
      next = ap link_of as_read.next ∙ sym (next_is bytes) ∙ ap (λ (n : Node). n.next) means;
      entries = as_read.entries ∙ ap (λ (n : Node). n.entries) means;
    }

-- ---- on the way down

-- these pages were added so far, and the last one has that level
pub record Goes (pages top level : ℕ) (passed : List PageNo) (before now : List PathPage) : Type 0 where
  pub added : List PathPage
  pub is : now ≡ before ++ added
  pub numbers : map path_number added ≡ map page_number passed
  pub deep : length added + level ≡ top
  pub low : (p : PathPage) → Has added p → p.head.level < top
  pub inside : (p : PathPage) → Has added p → p.page.0 < pages

pub goes_none : (pages top : ℕ) (before : List PathPage) → Goes pages top top [] before before
goes_none pages top before = record {
  added = [];
  is = sym (append-nil before);
  numbers = refl;
  deep = omega arith;
  low = λ p h. absurd h;
  inside = λ p h. absurd h;
}

pub goes_on : (pages top level deeper : ℕ) (rest : List PageNo) (i : ℕ) (d : PageNo) (before now next : List PathPage) (bytes : List ℕ) (p : PathPage) → i < length rest → level ≡ suc deeper → (get_or rest i d).0 < pages → (header_of bytes).level ≡ deeper → IsReadAs (get_or rest i d) bytes p → next ≡ now ++ p ∷ []
    → Goes pages top level (take i rest) before now → Goes pages top deeper (take (i + 1) rest) before next
goes_on pages top level deeper rest i d before now next bytes p more below in_file at_level as_read pushed g =
    let q : PageNo = get_or rest i d in
    let long : length (g.added ++ p ∷ []) ≡ length g.added + 1 = length-append g.added (p ∷ []) in
    let deep = g.deep in
    record {
      added = g.added ++ p ∷ [];
      is = pushed ∙ ap (λ (l : List PathPage). l ++ p ∷ []) g.is ∙ append_assoc before g.added (p ∷ []);
      numbers = map-append path_number g.added (p ∷ [])
          ∙ ap (λ (l : List ℕ). l ++ p.page.0 ∷ []) g.numbers
          ∙ ap (λ (x : PageNo). map page_number (take i rest) ++ x.0 ∷ []) as_read.page_is
          ∙ sym (map-append page_number (take i rest) (q ∷ []))
          ∙ ap (map page_number) (sym (take_more rest i d more));
      deep = omega (arith, long, deep, below);
      low = has_pushed (λ (x : PathPage). x.head.level < top) g.added p g.low (let l : p.head.level ≡ deeper = as_read.level ∙ at_level in omega (arith, l, deep, below));
      inside = has_pushed (λ (x : PathPage). x.page.0 < pages) g.added p g.inside (subst (λ (x : PageNo). x.0 < pages) (sym as_read.page_is) in_file);
    }

pub goes_all : (pages top level : ℕ) (rest : List PageNo) (i : ℕ) (before now : List PathPage) → length rest ≤ i → Goes pages top level (take i rest) before now → GoesDown pages top rest before now
goes_all pages top level rest i before now end g = record {
  added = g.added;
  is = g.is;
  numbers = g.numbers ∙ ap (map page_number) (take_all i rest end);
  few = let deep = g.deep in omega (arith, deep);
  low = g.low;
  inside = g.inside;
}

-- the same in a tree, where the pages that are left lead to a leaf
pub record Walks (contents : Contents) (tree : Tree) (at : ℕ) (bytes left : List ℕ) (before now : List PathPage) : Type 0 where
  pub node : Node
  pub there : page_at tree at ≡ Some node
  pub read : bytes ≡ page_of contents at
  pub leads : Leads tree (at ∷ left)
  pub added : List PathPage
  pub is : now ≡ before ++ added
  pub are : (p : PathPage) → Has added p → IsPathPage tree p

pub walks_none : (contents : Contents) (shape : FileShape) (owner : ℕ) (tree : Tree) (at : ℕ) (bytes left : List ℕ) (before : List PathPage) → IsAtPage contents shape owner tree at bytes → Leads tree (at ∷ left) → Walks contents tree at bytes left before before
walks_none contents shape owner tree at bytes left before is leads = record {
  node = is.node;
  there = is.there;
  read = is.read;
  leads = leads;
  added = [];
  is = sym (append-nil before);
  are = λ p h. absurd h;
}

-- the page that comes next
pub walks_next : (contents : Contents) (shape : FileShape) (owner : ℕ) (tree : Tree) → IsTreeIn contents shape owner tree → (at q : ℕ) (bytes left rest : List ℕ) (before now : List PathPage) → left ≡ q ∷ rest → Walks contents tree at bytes left before now → Below contents shape owner tree bytes q
walks_next contents shape owner tree is at q bytes left rest before now ahead w =
    let leads : Leads tree (at ∷ q ∷ rest) = subst (λ (l : List ℕ). Leads tree (at ∷ l)) ahead w.leads in
    let means : node_of bytes ≡ w.node = reads_tree contents shape owner tree is at w.node w.there bytes w.read in
    let to : LeadsTo w.node q = names_next tree at q w.node rest w.there leads.0 in
    below_of contents shape owner tree is at q w.node bytes w.there w.read (subst (λ (n : Node). LeadsTo n q) (sym means) to)

pub walks_on : (contents : Contents) (shape : FileShape) (owner : ℕ) (tree : Tree) → IsTreeIn contents shape owner tree → (at : ℕ) (q : PageNo) (bytes new left rest : List ℕ) (before now next : List PathPage) (p : PathPage) → left ≡ q.0 ∷ rest → new ≡ page_of contents q.0 → IsReadAs q new p → next ≡ now ++ p ∷ []
    → Walks contents tree at bytes left before now → Walks contents tree q.0 new rest before next
walks_on contents shape owner tree is at q bytes new left rest before now next p ahead read as_read pushed w =
    let leads : Leads tree (at ∷ q.0 ∷ rest) = subst (λ (l : List ℕ). Leads tree (at ∷ l)) ahead w.leads in
    let b : Below contents shape owner tree bytes q.0 = walks_next contents shape owner tree is at q.0 bytes left rest before now ahead w in
    record {
      node = b.node;
      there = b.there;
      read = read;
      leads = (leads.0.1, leads.1);
      added = w.added ++ p ∷ [];
      is = pushed ∙ ap (λ (l : List PathPage). l ++ p ∷ []) w.is ∙ append_assoc before w.added (p ∷ []);
      are = has_pushed (IsPathPage tree) w.added p w.are (path_page_of contents shape owner tree is q b.node new p b.there read as_read);
    }

pub walks_leaf : (contents : Contents) (shape : FileShape) (owner : ℕ) (tree : Tree) → IsTreeIn contents shape owner tree → (at : ℕ) (bytes left : List ℕ) (before now : List PathPage) → left ≡ [] → Walks contents tree at bytes left before now → (header_of bytes).level ≡ 0
walks_leaf contents shape owner tree is at bytes left before now none w =
    let leads : Leads tree (at ∷ []) = subst (λ (l : List ℕ). Leads tree (at ∷ l)) none w.leads in
    let means : node_of bytes ≡ w.node = reads_tree contents shape owner tree is at w.node w.there bytes w.read in
    sym (level_is bytes) ∙ ap (λ (n : Node). n.level) means ∙ (leads_end tree at w.node w.there).0 leads

pub walks_all : (contents : Contents) (tree : Tree) (at : ℕ) (bytes left : List ℕ) (before now : List PathPage) → Walks contents tree at bytes left before now → GoesDownIn tree before now
walks_all contents tree at bytes left before now w = record { added = w.added; is = w.is; are = w.are }

-- ---- all of a path

pub way_numbers : (path : List PageNo) (d : PageNo) (before now : List PathPage) (p : PathPage) (added : List PathPage) → 0 < length path → before ≡ p ∷ [] → p.page ≡ get_or path 0 d → map path_number added ≡ map page_number (others path) → now ≡ before ++ added → map path_number now ≡ numbers_of path
way_numbers path d before now p added some first page numbers is =
    ap (map path_number) (is ∙ ap (λ (l : List PathPage). l ++ added) first)
    ∙ ap (λ (l : List ℕ). p.page.0 ∷ l) numbers
    ∙ ap (λ (q : PageNo). q.0 ∷ map page_number (others path)) page
    ∙ sym (parts_of path d some)

pub way_all : (P : PathPage → Type 0) (before now : List PathPage) (p : PathPage) (added : List PathPage) → before ≡ p ∷ [] → now ≡ before ++ added → P p → ((x : PathPage) → Has added x → P x) → (x : PathPage) → Has now x → P x
way_all P before now p added first is here all x has = by (subst (λ (l : List PathPage). Has l x) (is ∙ ap (λ (l : List PathPage). l ++ added) first) has)
  where
    by : Has (p ∷ added) x → P x
    by (inl same) = subst P same here
    by (inr more) = all x more

pub way_of : (pages : ℕ) (path : List PageNo) (d : PageNo) (bytes : List ℕ) (before now : List PathPage) (p : PathPage) (way : Way) → 0 < length path → (header_of bytes).level ≤ 16 → before ≡ p ∷ [] → IsReadAs (get_or path 0 d) bytes p → (get_or path 0 d).0 < pages → GoesDown pages (header_of bytes).level (others path) before now → way.pages.items ≡ now → IsWay pages (numbers_of path) way
way_of pages path d bytes before now p way some low first as_read in_file down is =
    let long : length now ≡ suc (length down.added) = ap length (down.is ∙ ap (λ (l : List PathPage). l ++ down.added) first) in
    let long_way : length way.pages.items ≡ length now = ap length is in
    let few = down.few in
    let top : p.head.level ≤ 16 = (let l = as_read.level in omega (arith, l, low)) in
    record {
      numbers = ap (map path_number) is ∙ way_numbers path d before now p down.added some first as_read.page_is down.numbers down.is;
      few = omega (arith, long, long_way, few, low);
      low = subst (λ (l : List PathPage). (x : PathPage) → Has l x → x.head.level ≤ 16) (sym is) (way_all (λ (x : PathPage). x.head.level ≤ 16) before now p down.added first down.is top (λ x h. (let l = down.low x h in omega (arith, l, low))));
      inside = subst (λ (l : List PathPage). (x : PathPage) → Has l x → x.page.0 < pages) (sym is) (way_all (λ (x : PathPage). x.page.0 < pages) before now p down.added first down.is (subst (λ (q : PageNo). q.0 < pages) (sym as_read.page_is) in_file) down.inside);
    }

pub way_in : (contents : Contents) (shape : FileShape) (owner told root pages : ℕ) (tree : Tree) (path : List PageNo) (d : PageNo) (bytes : List ℕ) (before now : List PathPage) (p : PathPage) (way : Way) → IsTreeAt contents shape owner root tree → (get_or path 0 d).0 ≡ root → 0 < length path → bytes ≡ page_of contents root → IsPageOf pages told root bytes → before ≡ p ∷ [] → IsReadAs (get_or path 0 d) bytes p
    → map path_number now ≡ numbers_of path → GoesDownIn tree before now → way.pages.items ≡ now → way.owner ≡ told → way.counter ≡ (header_of bytes).ssn → IsWayOf owner tree (numbers_of path) way
way_in contents shape owner told root pages tree path d bytes before now p way at first_is some read is first as_read numbers down items owner_is counter_is =
    let q : PageNo = get_or path 0 d in
    let top = top_of contents shape owner root tree at in
    let here : IsPathPage tree p = path_page_of contents shape owner tree at.is q at.is.forest.top bytes p (ap (page_at tree) first_is ∙ top) (read ∙ ap (page_of contents) (sym first_is)) as_read in
    record {
      owner_is = owner_is ∙ sym (owner_told contents shape owner told root pages tree bytes at read is);
      counter_is = counter_is ∙ counter_read contents shape owner root tree bytes at read;
      are = record {
        numbers = ap (map path_number) items ∙ numbers;
        each = subst (λ (l : List PathPage). (x : PathPage) → Has l x → IsPathPage tree x) (sym items) (way_all (IsPathPage tree) before now p down.added first down.is here down.are);
      };
    }
