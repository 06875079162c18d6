-- Covered and known don't look at the order of the pages that a search is on, nor at that of the keys that it found.
use Rattle.std.proofs.Common.{◌≡◌, inl, inr, ℕ, ◌≤◌, true, List, sym, ◌∙◌, subst}
use Rattle.isp_mbr.specs.Predicates.{satisfies, may_hold}
use Rattle.isp_mbr.specs.declared.predicate.Predicate.{Predicate}
use Rattle.isp_base.specs.Lists.{Has}
use Rattle.isp_forest.specs.Tree.{Tree}
use Rattle.isp_forest.specs.Search.{Search, Item, Reached, Sees, Covered, Known}
use Rattle.isp_searches.specs.SearchLaws.{IsLike}

pub like_covered : (tree : Tree) (x y : Search) → IsLike x y → Covered tree x → Covered tree y
like_covered tree x y like c = record {
  pages = λ p on. c.pages p (like.on_back p on);
  root = sees tree.root c.root;
  children = λ p q e on n may. sees q (c.children p q e (like.on_back p on) n (subst (λ (z : Predicate). may_hold z e.b ≡ true) (sym like.predicate) may));
  stack = λ p s h. c.stack p s (subst (λ (st : List (ℕ × ℕ)). Has st (p, s)) (sym like.stack) h);
}
  where
    sees : (q : ℕ) → Sees tree x q → Sees tree y q
    sees q (inl on) = inl (like.on q on)
    sees q (inr r) = inr (subst (λ (st : List (ℕ × ℕ)). Reached tree st q) like.stack r)

pub like_known : (tree : Tree) (x y : Search) (items : List Item) → IsLike x y → Known tree x items → Known tree y items
like_known tree x y items like known = λ p leaf e k n on there level has to good. (
    let good' : satisfies x.predicate e.b ≡ true = subst (λ (z : Predicate). satisfies z e.b ≡ true) (sym like.predicate) good in
    elim (known p leaf e k n (like.on_back p on) there level has to good') [
      | inl found ↦ inl (like.found k found)
      | inr o ↦ inr (record {
        item = o.item;
        among = o.among;
        session = o.session ∙ like.session;
        later = subst (λ (z : ℕ). z ≤ (o.item).statement) like.statement o.later;
        same_key = o.same_key;
        same_number = o.same_number;
      })
    ])
