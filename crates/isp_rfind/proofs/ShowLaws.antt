-- What is wrong with a page that is named.
use Rattle.std.proofs.Common.{◌≡◌, inl, inr, ℕ, suc, List, [], ◌∷◌, ◌++◌, sym, ◌∙◌, ap, subst}
use Rattle.isp_base.specs.Lists.{Has}
use Rattle.isp_format.specs.Header.{header_of}
use Rattle.isp_format.specs.Ranges.{Contents, page_of}
use Rattle.isp_page.specs.State.{FileShape}
use Rattle.isp_page.specs.Steps.{IsNoDamage}
use Rattle.isp_page.specs.declared.fault.Fault.{Fault}
use Rattle.isp_page.specs.declared.fault.Fault.TheVariants.{Memory, Store}
use Rattle.isp_page.specs.declared.fault.StoreFault.{StoreFault}
use Rattle.isp_page.specs.declared.fault.StoreFault.TheVariants.{Damaged, Disk, Print}
use Rattle.isp_mbr.specs.Corners.{Corners}
use Rattle.isp_laws.proofs.ListLaws.{Has-append, Has-append_left}
use Rattle.isp_rnode.specs.Nodes.{node_of}
use Rattle.isp_rtree.specs.Calls.{NamesPage}
use Rattle.isp_rtree.specs.Paths.{LeadsTo}
use Rattle.isp_rtree.specs.Trees.{IsPageOf, IsRootOf}
use Rattle.isp_rfind.specs.Stack.{children_of}
use Rattle.isp_rfind.specs.Walks.{AreChildren, IsBadChild, IsChild, IsOnWay, ShowsChildOrLacks, ShowsOrLacks}
use Rattle.isp_rfind.specs.declared.pending.Pending.{Pending}
use Rattle.isp_rfind.proofs.FindLaws.{FromEntry, from_entry}
use Rattle.isp_rfind.proofs.StackLaws.{last_has}

-- the children of the page are added
pub added_children : (contents : Contents) (pages owner : ℕ) (b : Corners) (bytes : List ℕ) (stack now : List Pending) → IsOnWay contents pages owner bytes stack → now ≡ stack ++ children_of b bytes → AreChildren contents pages owner now
added_children contents pages owner b bytes stack now w added s h =
    elim (Has-append stack (children_of b bytes) s (subst (λ (xs : List Pending). Has xs s) added h)) [
      | inl before ↦ w.others s before
      | inr child ↦ from_here child
    ]
  where
    from_here : Has (children_of b bytes) s → IsChild contents pages owner s.above s.page.0
    from_here child =
        let f : FromEntry (node_of bytes).entries (header_of bytes).level s = from_entry b (header_of bytes).level (node_of bytes).entries s child in
        let leads : LeadsTo (node_of bytes) s.page.0 = (f.e, f.has, f.to) in
        record {
          from = w.at;
          page = subst (λ (x : List ℕ). IsPageOf pages owner w.at x) w.read w.page;
          level_is = ap (λ (x : List ℕ). (header_of x).level) (sym w.read) ∙ sym f.above;
          leads = subst (λ (x : List ℕ). LeadsTo (node_of x) s.page.0) w.read leads;
        }

pub left_children : (contents : Contents) (pages owner : ℕ) (all left : List Pending) (s : Pending) → all ≡ left ++ s ∷ [] → AreChildren contents pages owner all → AreChildren contents pages owner left
left_children contents pages owner all left s is children x h = children x (subst (λ (xs : List Pending). Has xs x) (sym is) (Has-append_left left (s ∷ []) x h))

-- ---- what is shown

pub bad_child : (contents : Contents) (pages owner : ℕ) (all left : List Pending) (s : Pending) (fault : StoreFault) → all ≡ left ++ s ∷ [] → AreChildren contents pages owner all → NamesPage s.page.0 fault
    → (IsPageOf pages owner s.page.0 (page_of contents s.page.0) → s.above ≡ suc (header_of (page_of contents s.page.0)).level → IsNoDamage fault) → ShowsChildOrLacks contents pages owner (Store fault)
bad_child contents pages owner all left s Disk is children names sound = tt
bad_child contents pages owner all left s Print is children names sound = tt
bad_child contents pages owner all left s (Damaged page rule) is children names sound = λ nine.
    let bad : IsBadChild contents pages owner s.page.0 = record { level = s.above; child = children s (last_has all left s is); bad = sound } in
    subst (λ (q : ℕ). IsBadChild contents pages owner q) (sym names.0) bad

pub bad_root : (contents : Contents) (pages root : ℕ) (fault : StoreFault) → NamesPage root fault → ((owner : ℕ) → IsRootOf pages owner root (page_of contents root) → IsNoDamage fault) → ShowsOrLacks contents pages root (Store fault)
bad_root contents pages root Disk names sound = tt
bad_root contents pages root Print names sound = tt
bad_root contents pages root (Damaged page rule) names sound = λ nine. inl (record { is_root = names.0; bad = sound })

pub below_it : (contents : Contents) (pages root owner : ℕ) (fault : Fault) → IsRootOf pages owner root (page_of contents root) → ShowsChildOrLacks contents pages owner fault → ShowsOrLacks contents pages root fault
below_it contents pages root owner Memory is shows = tt
below_it contents pages root owner (Store Disk) is shows = tt
below_it contents pages root owner (Store Print) is shows = tt
below_it contents pages root owner (Store (Damaged page rule)) is shows = λ nine. inr (owner, is, shows nine)

-- ---- over contents that are the same, and a file of the same shape

pub on_way : (old mid : Contents) (shape now : FileShape) (owner at : ℕ) (bytes : List ℕ) (stack : List Pending) → mid ≡ old → now ≡ shape → IsPageOf shape.pages owner at bytes → bytes ≡ page_of old at → AreChildren old shape.pages owner stack → IsOnWay mid now.pages owner bytes stack
on_way old mid shape now owner at bytes stack same kept page read others =
    let here : IsOnWay old shape.pages owner bytes stack = record { at = at; page = page; read = read; others = others } in
    subst (λ (s : FileShape). IsOnWay mid s.pages owner bytes stack) (sym kept) (subst (λ (x : Contents). IsOnWay x shape.pages owner bytes stack) (sym same) here)

pub children_then : (old mid : Contents) (shape now : FileShape) (owner : ℕ) (stack : List Pending) → mid ≡ old → now ≡ shape → AreChildren mid now.pages owner stack → AreChildren old shape.pages owner stack
children_then old mid shape now owner stack same kept children = subst (λ (s : FileShape). AreChildren old s.pages owner stack) kept (subst (λ (x : Contents). AreChildren x now.pages owner stack) same children)

pub shows_then : (old mid : Contents) (shape now : FileShape) (owner : ℕ) (fault : Fault) → mid ≡ old → now ≡ shape → ShowsChildOrLacks mid now.pages owner fault → ShowsChildOrLacks old shape.pages owner fault
shows_then old mid shape now owner fault same kept shows = subst (λ (s : FileShape). ShowsChildOrLacks old s.pages owner fault) kept (subst (λ (x : Contents). ShowsChildOrLacks x now.pages owner fault) same shows)
