-- An entry that is removed leaves a search covered and known, since no box shrinks and leaves only have less on them.
use Rattle.std.proofs.Common.{◌≡◌, ℕ, ◌≤◌, List, refl, ap, sym, ◌∙◌, arith, subst}
use Rattle.std.specs.Prelude.{not}
use Rattle.isp_forest.specs.declared.entry.Entry.{Entry}
use Rattle.isp_base.specs.Lists.{Has}
use Rattle.isp_forest.specs.Tree.{Node, Tree, counter}
use Rattle.isp_forest.specs.Walk.{onward}
use Rattle.isp_forest.specs.Steps.{is_row, without, remove}
use Rattle.isp_forest.specs.Search.{Search, Item, Sees, Covered, Known}
use Rattle.isp_laws.proofs.ListLaws.{Has-filter}
use Rattle.isp_laws.proofs.PageLaws.{Before, before, after_each}
use Rattle.isp_laws.proofs.RoundLaws.{rounded, counter-rounded, onward-rounded}
use Rattle.isp_laws.proofs.RemoveLaws.{remove-still}
use Rattle.isp_searches.proofs.SeesLaws.{IsThere, sees_same, remembered_same}

had : (number : ℕ) (page : Node) (e : Entry) → Has (without number 0 page).entries e → Has page.entries e
had number page e h = Has-filter (λ x. not (is_row number x.to)) page.entries e h

pub remove_covered : (tree : Tree) (number : ℕ) (x : Search) → Covered tree x → Covered (remove tree number) x
remove_covered tree number x c = record {
  pages = λ p on. still p (c.pages p on);
  root = sees tree.root c.root;
  children = λ p q e on n may. (let was : Before (without number) tree.pages p n.page = before (without number) tree.pages p n.page n.there in
      let has : Has (without number p was.old).entries e = subst (λ (z : Node). Has z.entries e) (sym was.is) n.has in
      sees q (c.children p q e on (record { page = was.old; there = was.there; has = had number was.old e has; to = n.to }) may));
  stack = λ p s h. remembered_same tree (rounded tree (without number)) same grows p s (still p) (c.stack p s h);
}
  where
    same : (s p : ℕ) → onward tree s p ≡ onward (rounded tree (without number)) s p
    same = onward-rounded tree (without number) (remove-still number)

    grows : counter tree ≤ counter (rounded tree (without number))
    grows = omega (arith, counter-rounded tree (without number) (remove-still number))

    still : (p : ℕ) → IsThere tree p → IsThere (remove tree number) p
    still p t = (without number p t.0, after_each (without number) tree.pages p t.0 t.1)

    sees : (q : ℕ) → Sees tree x q → Sees (remove tree number) x q
    sees = sees_same tree (rounded tree (without number)) same x x (λ q on. on) refl

pub remove_known : (tree : Tree) (number : ℕ) (x : Search) (items : List Item) → Known tree x items → Known (remove tree number) x items
remove_known tree number x items known = λ p leaf e k n on there level has to good. (
    let was : Before (without number) tree.pages p leaf = before (without number) tree.pages p leaf there in
    let has' : Has (without number p was.old).entries e = subst (λ (z : Node). Has z.entries e) (sym was.is) has in
    known p was.old e k n on was.there (ap (λ (z : Node). z.level) was.is ∙ level) (had number was.old e has') to good)
