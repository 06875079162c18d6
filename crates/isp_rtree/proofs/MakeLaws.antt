-- A tree that is made on a page that was taken.
use Rattle.std.proofs.Common.{◌≡◌, ℕ, ◌+◌, ◌*◌, ◌<◌, ◌≤◌, ◌==◌, ◌||◌, Bool, true, false, cond, Option, Some, None, List, [], ◌∷◌, length, refl, sym, ◌∙◌, ap, subst, arith, eqb-true}
use Rattle.std.specs.Prelude.{All}
use Rattle.isp_base.specs.Lists.{Has}
use Rattle.isp_format.specs.Header.{Header, header_of}
use Rattle.isp_format.specs.Kinds.{content_place}
use Rattle.isp_format.specs.Ranges.{Contents, page_of}
use Rattle.isp_format.specs.Space.{IsSpacePage}
use Rattle.isp_page.specs.State.{FileShape, is_among}
use Rattle.isp_page.specs.Touched.{KeepsPages, is_page}
use Rattle.isp_space.specs.Spaces.{IsSpace, Space, free_pages, next_free, next_of, space_page, taken}
use Rattle.isp_space.proofs.TakingLaws.{page_0_stays, taken_space}
use Rattle.isp_forest.specs.Tree.{Node, page_at}
use Rattle.isp_leaf_laws.proofs.StayLaws.{empty_forest}
use Rattle.isp_rnode.specs.Nodes.{IsNode, entries_from, link_of, node_of}
use Rattle.isp_rtree.specs.Making.{empty_header, empty_leaf, empty_tree}
use Rattle.isp_rtree.specs.Trees.{IsTreeAt}

-- a page with that header is a leaf without entries
empty_means : (bytes : List ℕ) (h : Header) → header_of bytes ≡ h → h.count ≡ 0 → node_of bytes ≡ record { level = h.level; ssn = h.ssn; next = link_of h.next; entries = [] }
unfolding node_of
empty_means bytes h is none = ap (λ (g : Header). record { level = g.level; ssn = g.ssn; next = link_of g.next; entries = entries_from g.level bytes content_place g.count }) is ∙ ap (λ (n : ℕ). record { level = h.level; ssn = h.ssn; next = link_of h.next; entries = entries_from h.level bytes content_place n }) none

pub empty_node : (owner own : ℕ) (bytes : List ℕ) → header_of bytes ≡ empty_header owner own → IsNode owner own empty_leaf bytes
empty_node owner own bytes is =
    let means : node_of bytes ≡ empty_leaf = empty_means bytes (empty_header owner own) is refl in
    let count = ap (λ (h : Header). h.count) is in
    record {
      readable = record {
        kind = ap (λ (h : Header). h.kind) is;
        count = omega (arith, count);
        boxes = λ e has. absurd (subst (λ (n : Node). Has n.entries e) means has);
      };
      owner_is = ap (λ (h : Header). h.owner) is;
      own = ap (λ (h : Header). h.own) is;
      used = ap (λ (h : Header). h.used) is ∙ ap (λ (n : ℕ). 64 + 32 * n) (sym count);
      means = means;
    }

pub next_from : (xs : List ℕ) (fresh : ℕ) → All (λ page. (16 ≤ page) × (page < fresh)) xs → 16 ≤ fresh → 16 ≤ next_of xs fresh
next_from [] fresh inside from = from
next_from (page ∷ rest) fresh inside from = (inside 0 page (omega arith)).0

at_root : (root q : ℕ) (page : Node) → page_at (empty_tree root) q ≡ Some page → (root ≡ q) × (empty_leaf ≡ page)
at_root root q page there = by (root == q) refl there
  where
    by : (b : Bool) → (root == q) ≡ b → cond b (Some empty_leaf) None ≡ Some page → (root ≡ q) × (empty_leaf ≡ page)
    by true is h = (eqb-true root q is, let same : empty_leaf ≡ page = cc in same)
    by false is h = absurd (let no : ◌≡◌ {A = Option Node} None (Some page) = h in cc)

pub made_tree : (contents : Contents) (shape : FileShape) (owner root : ℕ) → header_of (page_of contents root) ≡ empty_header owner root → 16 ≤ root → root < shape.pages → IsTreeAt contents shape owner root (empty_tree root)
made_tree contents shape owner root header from to = record {
  is = record {
    nodes = λ q page there. (let at : (root ≡ q) × (empty_leaf ≡ page) = at_root root q page there in
        subst (λ (z : ℕ). IsNode owner z page (page_of contents z)) at.0 (subst (λ (n : Node). IsNode owner root n (page_of contents root)) at.1 (empty_node owner root (page_of contents root) header)));
    few = λ q page there. (let at : (root ≡ q) × (empty_leaf ≡ page) = at_root root q page there in subst (λ (n : Node). length n.entries ≤ shape.fanout) at.1 (omega arith));
    inside = λ q page there. (let at : (root ≡ q) × (empty_leaf ≡ page) = at_root root q page there in subst (λ (z : ℕ). (16 ≤ z) × (z < shape.pages)) at.0 (from, to));
    forest = empty_forest root;
  };
  root_is = refl;
}

not_second : (a b : Bool) → (a || b) ≡ false → b ≡ false
not_second true b is = let bad : true ≡ false = is in cc
not_second false b is = is

turned : (a b : ℕ) → (b == a) ≡ false → (a == b) ≡ false
turned a b is = grind (arith, is)

-- all but page 0 and the new page stay
pub keeps_two : (p : ℕ) (old mid new : Contents) → KeepsPages (λ q. is_page 0 q || is_page p q) old mid → KeepsPages (λ q. is_among q (p ∷ [])) mid new → KeepsPages (λ q. is_page 0 q || is_page p q) old new
keeps_two p old mid new first second q out =
    second q (ap (λ (b : Bool). b || false) (turned p q (not_second (is_page 0 q) (is_page p q) out))) ∙ first q out

pub made_space : (pages now : ℕ) (old mid new : Contents) (p : ℕ) (s : Space) → IsSpace pages old s → 0 < free_pages pages s → p ≡ next_free s → now ≡ pages
    → KeepsPages (λ q. is_page 0 q || is_page p q) old mid → KeepsPages (λ q. is_among q (p ∷ [])) mid new → IsSpacePage (page_of mid 0) (space_page (taken s)) → IsSpace now new (taken s)
made_space pages now old mid new p s is some next shape first second says =
    let from : 16 ≤ p = subst (λ (n : ℕ). 16 ≤ n) (sym next) (next_from s.free s.fresh is.inside is.fresh_from) in
    let keeps : KeepsPages (λ q. is_page 0 q || is_page (next_free s) q) old new = subst (λ (k : ℕ). KeepsPages (λ q. is_page 0 q || is_page k q) old new) next (keeps_two p old mid new first second) in
    let alone : KeepsPages (is_page p) mid new = λ q out. second q (ap (λ (b : Bool). b || false) (turned p q out)) in
    let says_now : IsSpacePage (page_of new 0) (space_page (taken s)) = subst (λ (bytes : List ℕ). IsSpacePage bytes (space_page (taken s))) (sym (page_0_stays p mid new from alone)) says in
    subst (λ (n : ℕ). IsSpace n new (taken s)) (sym shape) (taken_space pages old new s is some keeps says_now)
