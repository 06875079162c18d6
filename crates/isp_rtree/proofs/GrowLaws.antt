-- What grows on a path, page by page.
use Rattle.std.proofs.Common.{rules, ◌≡◌, ℕ, Some, List, [], ◌∷◌, ◌++◌, refl, sym, ◌∙◌, ap, subst}
use Rattle.std.specs.Prelude.{Ok}
use Rattle.std.proofs.lemmas.List.{append_assoc, append-nil}
use Rattle.isp_format.specs.Ranges.{Contents, page_of}
use Rattle.isp_mbr.specs.Corners.{Corners}
use Rattle.isp_page.specs.Calls.{Continued, Continues}
use Rattle.isp_page.specs.State.{FileShape}
use Rattle.isp_page.specs.declared.pages.Pages.{Ghosts}
use Rattle.isp_forest.specs.Place.{IsPath}
use Rattle.isp_forest.specs.Tree.{Node, Tree, page_at}
use Rattle.isp_rnode.specs.Nodes.{node_of}
use Rattle.isp_rtree.specs.Growing.{AreGrowths, IsGrowth, IsGrowthOf}
use Rattle.isp_rtree.specs.Paths.{LeadsTo}
use Rattle.isp_rtree.specs.Trees.{IsTreeIn}
use Rattle.isp_rtree.specs.declared.growing.Growth.{Growth}
use Rattle.isp_rtree.proofs.PathLaws.{below_of, names_next}
use Rattle.isp_rtree.proofs.TreeLaws.{reads_tree}

-- turns that continue, and one that does
pub one_more : {S T : Type 0} (g : Ghosts S) (old mid new : S) (x : T) → Continued g old mid → Continues {T = T} g mid new (Ok x) → Continued g old new
one_more g old mid new x first second = search rules

pub growth_of : (tree : Tree) (b : Corners) (p q : ℕ) (page : Node) (g : Growth) → page_at tree p ≡ Some page → IsGrowthOf page b p q g → IsGrowth tree b p q g
growth_of tree b p q page g there is = record {
  parent_is = is.parent_is;
  child_is = is.child_is;
  entry = is.entry;
  names = record { page = page; there = there; has = is.has; to = is.to };
  old_is = is.old_is;
  new_is = is.new_is;
}

-- with what grows on the rest of a path, what grew so far is all
abbrev pub GrowsWith : Tree → Corners → List ℕ → List ℕ → List Growth → Type 0
GrowsWith tree b whole left so_far = (grown : List Growth) → AreGrowths tree b left grown → AreGrowths tree b whole (so_far ++ grown)

pub grows_none : (tree : Tree) (b : Corners) (whole : List ℕ) → GrowsWith tree b whole whole []
grows_none tree b whole grown are = are

pub grows_more : (tree : Tree) (b : Corners) (whole rest : List ℕ) (p q : ℕ) (page : Node) (g : Growth) (so_far now : List Growth) → page_at tree p ≡ Some page → IsGrowthOf page b p q g → now ≡ so_far ++ g ∷ [] → GrowsWith tree b whole (p ∷ q ∷ rest) so_far → GrowsWith tree b whole (q ∷ rest) now
grows_more tree b whole rest p q page g so_far now there is pushed more grown are =
    let all : AreGrowths tree b whole (so_far ++ g ∷ grown) = more (g ∷ grown) (growth_of tree b p q page g there is, are) in
    let same : so_far ++ g ∷ grown ≡ now ++ grown = sym (append_assoc so_far (g ∷ []) grown) ∙ ap (λ (l : List Growth). l ++ grown) (sym pushed) in
    subst (λ (l : List Growth). AreGrowths tree b whole l) same all

pub grows_all : (tree : Tree) (b : Corners) (whole : List ℕ) (p : ℕ) (so_far : List Growth) → GrowsWith tree b whole (p ∷ []) so_far → AreGrowths tree b whole so_far
grows_all tree b whole p so_far more = subst (λ (l : List Growth). AreGrowths tree b whole l) (append-nil so_far) (more [] refl)

-- page `at` was read, each page that is left has an entry for the next, and what grows on them is all that is missing
pub record Grows (contents : Contents) (tree : Tree) (b : Corners) (at : ℕ) (bytes whole left : List ℕ) (grown : List Growth) : Type 0 where
  pub node : Node
  pub there : page_at tree at ≡ Some node
  pub read : bytes ≡ page_of contents at
  pub path : IsPath tree (at ∷ left)
  pub more : GrowsWith tree b whole (at ∷ left) grown

-- the growth to the next page, and what is left of the path
pub grows_on : (contents : Contents) (shape : FileShape) (owner : ℕ) (tree : Tree) → IsTreeIn contents shape owner tree → (b : Corners) (at q : ℕ) (bytes new whole left rest : List ℕ) (g : Growth) (grown now : List Growth) → left ≡ q ∷ rest → IsGrowthOf (node_of bytes) b at q g → new ≡ page_of contents q → now ≡ grown ++ g ∷ []
    → Grows contents tree b at bytes whole left grown → Grows contents tree b q new whole rest now
grows_on contents shape owner tree is b at q bytes new whole left rest g grown now ahead growth read pushed w =
    let means : node_of bytes ≡ w.node = reads_tree contents shape owner tree is at w.node w.there bytes w.read in
    let leads : LeadsTo (node_of bytes) q = (growth.entry, growth.has, growth.to) in
    let next = below_of contents shape owner tree is at q w.node bytes w.there w.read leads in
    let path : IsPath tree (at ∷ q ∷ rest) = subst (λ (l : List ℕ). IsPath tree (at ∷ l)) ahead w.path in
    record {
      node = next.node;
      there = next.there;
      read = read;
      path = path.1;
      more = grows_more tree b whole rest at q w.node g grown now w.there (subst (λ (n : Node). IsGrowthOf n b at q g) means growth) pushed (subst (λ (l : List ℕ). GrowsWith tree b whole (at ∷ l) grown) ahead w.more);
    }

-- the page that was read has an entry for the next one of the path
pub grows_leads : (contents : Contents) (shape : FileShape) (owner : ℕ) (tree : Tree) → IsTreeIn contents shape owner tree → (b : Corners) (at q : ℕ) (bytes whole left rest : List ℕ) (grown : List Growth) → left ≡ q ∷ rest → Grows contents tree b at bytes whole left grown → LeadsTo (node_of bytes) q
grows_leads contents shape owner tree is b at q bytes whole left rest grown ahead w =
    let means : node_of bytes ≡ w.node = reads_tree contents shape owner tree is at w.node w.there bytes w.read in
    let n = names_next tree at q w.node rest w.there (subst (λ (l : List ℕ). IsPath tree (at ∷ l)) ahead w.path) in
    subst (λ (x : Node). LeadsTo x q) (sym means) n
