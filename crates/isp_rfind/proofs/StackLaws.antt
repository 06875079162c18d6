-- What the pages that are still to be read are, one step after the other, and which page a call names.
use Rattle.std.proofs.Common.{◌≡◌, inl, inr, ℕ, suc, ◌+◌, ◌<◌, Option, Some, None, List, [], ◌∷◌, ◌++◌, ◌≤◌, length, drop, get_or, refl, sym, ◌∙◌, ap, subst}
use Rattle.std.specs.Prelude.{slice_get}
use Rattle.std.specs.List.{cons_option, filter_map}
use Rattle.std.proofs.lemmas.List.{append-nil, append_assoc, drop_all, drop_more}
use Rattle.std.proofs.lemmas.Option.{get_or_from_slice_get, slice_get_within}
use Rattle.isp_base.specs.Lists.{Has}
use Rattle.isp_format.specs.Header.{header_of}
use Rattle.isp_format.specs.Ranges.{Contents, page_of}
use Rattle.isp_page.specs.State.{FileShape}
use Rattle.isp_page.specs.declared.fault.Fault.{Fault}
use Rattle.isp_page.specs.declared.fault.Fault.TheVariants.{Memory, Store}
use Rattle.isp_page.specs.declared.fault.StoreFault.{StoreFault}
use Rattle.isp_page.specs.declared.fault.StoreFault.TheVariants.{Damaged, Disk, Print}
use Rattle.isp_mbr.specs.Corners.{Corners}
use Rattle.isp_forest.specs.declared.entry.Entry.{Entry}
use Rattle.isp_forest.specs.Tree.{Tree}
use Rattle.isp_laws.proofs.ListLaws.{Has-append, Has-append_left, Has-append_right}
use Rattle.isp_rnode.specs.Nodes.{node_of}
use Rattle.isp_rtree.specs.Calls.{NamesPage, NamesTreeOrLacks}
use Rattle.isp_rtree.specs.Trees.{IsInside, IsPageOf, IsRead, IsTreeIn, LeadsInside}
use Rattle.isp_rtree.proofs.TreeLaws.{level_in, page_of_tree}
use Rattle.isp_rfind.specs.Stack.{AreInside, AreNext, children_of, pending_of}
use Rattle.isp_rfind.specs.Walks.{NamesWalkOrLacks}
use Rattle.isp_rfind.specs.declared.pending.Pending.{Pending}
use Rattle.isp_rfind.proofs.FindLaws.{FromEntry, from_entry}

-- ---- the children of a page are added

joins : (o : Option Pending) (xs : List Pending) → cons_option o [] ++ xs ≡ cons_option o xs
joins None xs = refl
joins (Some s) xs = refl

pub add_more : (b : Corners) (level : ℕ) (es : List Entry) (i : ℕ) (e : Entry) (before now whole : List Pending) → slice_get es i ≡ Some e → now ≡ before ++ cons_option (pending_of level b e) [] → before ++ filter_map (pending_of level b) (drop i es) ≡ whole
    → now ++ filter_map (pending_of level b) (drop (i + 1) es) ≡ whole
add_more b level es i e before now whole there added sum =
    let rest : List Pending = filter_map (pending_of level b) (drop (i + 1) es) in
    let read : get_or es i e ≡ e = get_or_from_slice_get es i e e there in
    let ahead : drop i es ≡ e ∷ drop (i + 1) es = drop_more es i e (slice_get_within es i e there) ∙ ap (λ (x : Entry). x ∷ drop (i + 1) es) read in
    ap (λ (xs : List Pending). xs ++ rest) added
    ∙ append_assoc before (cons_option (pending_of level b e) []) rest
    ∙ ap (λ (xs : List Pending). before ++ xs) (joins (pending_of level b e) rest)
    ∙ ap (λ (xs : List Entry). before ++ filter_map (pending_of level b) xs) (sym ahead)
    ∙ sum

-- with none left, all are added
pub all_added : (b : Corners) (level : ℕ) (es : List Entry) (i : ℕ) (now whole : List Pending) → length es ≤ i → now ++ filter_map (pending_of level b) (drop i es) ≡ whole → now ≡ whole
all_added b level es i now whole end sum = sym (append-nil now) ∙ ap (λ (xs : List Entry). now ++ filter_map (pending_of level b) xs) (sym (drop_all i es end)) ∙ sum

-- ---- all are pages of the file

children_inside : (pages : ℕ) (b : Corners) (level : ℕ) (es : List Entry) → LeadsInside pages es → (s : Pending) → Has (filter_map (pending_of level b) es) s → s.page.0 < pages
children_inside pages b level es inside s h =
    let f : FromEntry es level s = from_entry b level es s h in
    subst (λ (o : Option ℕ). IsInside pages o) f.to (inside f.e f.has)

pub added_inside : (pages owner : ℕ) (b : Corners) (bytes : List ℕ) (stack now : List Pending) → IsRead pages owner bytes → AreInside pages stack → now ≡ stack ++ children_of b bytes → AreInside pages now
added_inside pages owner b bytes stack now is inside added s h =
    elim (Has-append stack (children_of b bytes) s (subst (λ (xs : List Pending). Has xs s) added h)) [
      | inl before ↦ inside s before
      | inr child ↦ children_inside pages b (header_of bytes).level (node_of bytes).entries is.children s child
    ]

pub last_has : (all left : List Pending) (s : Pending) → all ≡ left ++ s ∷ [] → Has all s
last_has all left s is = subst (λ (xs : List Pending). Has xs s) (sym is) (Has-append_right left (s ∷ []) s (inl refl))

pub last_inside : (pages : ℕ) (all left : List Pending) (s : Pending) → all ≡ left ++ s ∷ [] → AreInside pages all → s.page.0 < pages
last_inside pages all left s is inside = inside s (last_has all left s is)

pub left_inside : (pages : ℕ) (all left : List Pending) (s : Pending) → all ≡ left ++ s ∷ [] → AreInside pages all → AreInside pages left
left_inside pages all left s is inside x h = inside x (subst (λ (xs : List Pending). Has xs x) (sym is) (Has-append_left left (s ∷ []) x h))

-- ---- the page that is read next

pub record IsBelow (contents : Contents) (shape : FileShape) (owner : ℕ) (s : Pending) : Type 0 where
  pub page : IsPageOf shape.pages owner s.page.0 (page_of contents s.page.0)
  pub level : s.above ≡ suc (header_of (page_of contents s.page.0)).level

pub next_page : (contents : Contents) (shape : FileShape) (owner : ℕ) (tree : Tree) → IsTreeIn contents shape owner tree → (all left : List Pending) (s : Pending) → all ≡ left ++ s ∷ [] → AreNext tree all → IsBelow contents shape owner s
next_page contents shape owner tree is all left s last next =
    let n = next s (last_has all left s last) in
    record {
      page = page_of_tree contents shape owner tree is s.page.0 n.0 n.1;
      level = n.2 ∙ ap suc (sym (level_in contents shape owner tree is s.page.0 n.0 n.1));
    }

-- ---- which page is named

pub walks : (pages : ℕ) (fault : Fault) → NamesTreeOrLacks pages fault → NamesWalkOrLacks pages fault
walks pages (Store Disk) names = tt
walks pages (Store Print) names = tt
walks pages (Store (Damaged page rule)) names = (names.0, inl names.1)
walks pages Memory names = tt

pub page_walks : (pages q : ℕ) (fault : StoreFault) → q < pages → NamesPage q fault → NamesTreeOrLacks pages (Store fault)
page_walks pages q Disk inside names = tt
page_walks pages q Print inside names = tt
page_walks pages q (Damaged page rule) inside names = (subst (λ (p : ℕ). p < pages) (sym names.0) inside, names.1)
