-- A step that changes the entries of all pages at once, and no level, number or right link of a page.
use Rattle.std.proofs.Common.{◌≡◌, ℕ, suc, ◌+◌, ◌<◌, ◌≤◌, ◌==◌, true, cond, Option, Some, None, List, length, refl, ap, sym, ◌∙◌, arith, subst}
use Rattle.std.specs.Prelude.{is_none, nat_lt}
use Rattle.isp_mbr.specs.Boxes.{IsBox, covers}
use Rattle.isp_forest.specs.declared.entry.Entry.{Entry}
use Rattle.isp_base.specs.Lists.{Has, times}
use Rattle.isp_forest.specs.Tree.{Node, Tree, page_at, counter, ssn_of, child_of, children, numbers, named}
use Rattle.isp_forest.specs.Forest.{Forest, IsBelow, IsPage, IsLinked}
use Rattle.isp_forest.specs.Walk.{split_since, onward, right_of, link, Links}
use Rattle.isp_forest.specs.Steps.{each}
use Rattle.isp_laws.proofs.PageLaws.{Before, before, after_each, changed, page_in-each, numbers-each, named-each, total_none}
use Rattle.isp_laws.proofs.WalkLaws.{links_same}

abbrev pub rounded : Tree → (ℕ → Node → Node) → Tree
rounded tree f = record tree { pages = each f tree.pages }

pub record Still (f : ℕ → Node → Node) : Type 0 where
  pub level : (q : ℕ) (page : Node) → (f q page).level ≡ page.level
  pub ssn : (q : ℕ) (page : Node) → (f q page).ssn ≡ page.ssn
  pub next : (q : ℕ) (page : Node) → (f q page).next ≡ page.next
  pub kids : (r q : ℕ) (page : Node) → times r (children (f q page).entries) ≡ times r (children page.entries)

pub record Fits (tree : Tree) (f : ℕ → Node → Node) : Type 0 where
  pub kinds : (q : ℕ) (page : Node) (e : Entry) → page_at tree q ≡ Some page → Has (f q page).entries e → is_none (child_of e) ≡ (page.level == 0)
  pub boxes : (q : ℕ) (page : Node) (e : Entry) → page_at tree q ≡ Some page → Has (f q page).entries e → IsBox e.b
  pub filled : (q : ℕ) (page : Node) → page_at tree q ≡ Some page → 0 < page.level → length page.entries ≤ length (f q page).entries
  pub level : (p q : ℕ) (above below : Node) (e : Entry) → page_at tree p ≡ Some above → Has (f p above).entries e → child_of e ≡ Some q
      → page_at tree q ≡ Some below → above.level ≡ suc below.level
  pub inside : (p q : ℕ) (above below : Node) (e g : Entry) → page_at tree p ≡ Some above → Has (f p above).entries e → child_of e ≡ Some q
      → page_at tree q ≡ Some below → Has (f q below).entries g → covers e.b g.b ≡ true

ssn-changed : (f : ℕ → Node → Node) → Still f → (q : ℕ) (o : Option Node) → ssn_of (changed f q o) ≡ ssn_of o
ssn-changed f still q None = refl
ssn-changed f still q (Some page) = still.ssn q page

pub counter-rounded : (tree : Tree) (f : ℕ → Node → Node) → Still f → counter (rounded tree f) ≡ counter tree
counter-rounded tree f still = ap ssn_of (page_in-each f tree.pages tree.root) ∙ ssn-changed f still tree.root (page_at tree tree.root)

link-changed : (f : ℕ → Node → Node) → Still f → (q : ℕ) (o : Option Node) → right_of o ≡ right_of (changed f q o)
link-changed f still q None = refl
link-changed f still q (Some page) = sym (still.next q page)

pub link-rounded : (tree : Tree) (f : ℕ → Node → Node) → Still f → (p : ℕ) → link tree p ≡ link (rounded tree f) p
link-rounded tree f still p = link-changed f still p (page_at tree p) ∙ ap right_of (sym (page_in-each f tree.pages p))

since-changed : (s : ℕ) (f : ℕ → Node → Node) → Still f → (q : ℕ) (o : Option Node) → split_since s o ≡ split_since s (changed f q o)
since-changed s f still q None = refl
since-changed s f still q (Some page) = ap (λ n. cond (nat_lt s n) page.next None) (sym (still.ssn q page)) ∙ ap (λ o. cond (nat_lt s (f q page).ssn) o None) (sym (still.next q page))

pub onward-rounded : (tree : Tree) (f : ℕ → Node → Node) → Still f → (s p : ℕ) → onward tree s p ≡ onward (rounded tree f) s p
onward-rounded tree f still s p = since-changed s f still p (page_at tree p) ∙ ap (split_since s) (sym (page_in-each f tree.pages p))

pub named-rounded : (tree : Tree) (f : ℕ → Node → Node) → Still f → (r : ℕ) → times r (named (rounded tree f).pages) ≡ times r (named tree.pages)
named-rounded tree f still r =
    let e : times r (named (each f tree.pages)) ≡ times r (named tree.pages) + _ = named-each f (λ q. 0) r (λ q page. still.kids r q page ∙ plus_none (times r (children page.entries))) tree.pages in
    omega (arith, e, total_none (numbers tree.pages))
  where
    plus_none : (n : ℕ) → n ≡ n + 0
    plus_none n = omega arith

pub links-rounded : (tree : Tree) (f : ℕ → Node → Node) → Still f → Links tree → Links (rounded tree f)
links-rounded tree f still links = links_same tree (rounded tree f) (link-rounded tree f still) links

pub forest-rounded : (tree : Tree) (f : ℕ → Node → Node) → Still f → Fits tree f → Forest tree → Forest (rounded tree f)
forest-rounded tree f still fits forest = record {
  top = f tree.root forest.top;
  rooted = after_each f tree.pages tree.root forest.top forest.rooted;
  alone = still.next tree.root forest.top ∙ forest.alone;
  once = λ q. subst (λ (ns : List ℕ). times q ns ≤ 1) (sym (numbers-each f tree.pages)) (forest.once q);
  by_one = λ q. (let e : times q (numbers (each f tree.pages)) ≡ times q (numbers tree.pages) = ap (times q) (numbers-each f tree.pages) in
      omega (arith, e, named-rounded tree f still q, forest.by_one q));
  each = λ q page h. (let was : Before f tree.pages q page = before f tree.pages q page h in
      subst (λ (x : Node). IsPage (rounded tree f) q x) was.is (page_of q was.old was.there));
  below = λ p q a b e h has to k. (let wa : Before f tree.pages p a = before f tree.pages p a h in
      let wb : Before f tree.pages q b = before f tree.pages q b k in
      let has' : Has (f p wa.old).entries e = subst (λ (x : Node). Has x.entries e) (sym wa.is) has in
      subst (λ (x : Node). IsBelow e x b) wa.is (subst (λ (x : Node). IsBelow e (f p wa.old) x) wb.is (below_of p q wa.old wb.old e wa.there has' to wb.there)));
  linked = λ q r page h next. (let was : Before f tree.pages q page = before f tree.pages q page h in
      let next' : was.old.next ≡ Some r = sym (still.next q was.old) ∙ ap (λ (x : Node). x.next) was.is ∙ next in
      let is : IsLinked tree was.old r = forest.linked q r was.old was.there next' in
      subst (λ (x : Node). IsLinked (rounded tree f) x r) was.is (record {
        right = f r is.right;
        there = after_each f tree.pages r is.right is.there;
        level = still.level r is.right ∙ is.level ∙ sym (still.level q was.old);
      }));
}
  where
    page_of : (q : ℕ) (page : Node) → page_at tree q ≡ Some page → IsPage (rounded tree f) q (f q page)
    page_of q page there =
        let is : IsPage tree q page = forest.each q page there in
        record {
          kinds = λ e h. fits.kinds q page e there h ∙ ap (λ n. n == 0) (sym (still.level q page));
          boxes = λ e h. fits.boxes q page e there h;
          filled = λ h. (let h' : 0 < page.level = subst (λ (n : ℕ). 0 < n) (still.level q page) h in
              let old : cond (q == tree.root) 1 2 ≤ length page.entries = is.filled h' in
              omega (arith, fits.filled q page there h'));
          numbered = omega (arith, still.ssn q page, is.numbered, counter-rounded tree f still);
        }

    below_of : (p q : ℕ) (a b : Node) (e : Entry) → page_at tree p ≡ Some a → Has (f p a).entries e → child_of e ≡ Some q → page_at tree q ≡ Some b → IsBelow e (f p a) (f q b)
    below_of p q a b e h has to k = record {
      level = still.level p a ∙ fits.level p q a b e h has to k ∙ ap suc (sym (still.level q b));
      inside = λ g hg. fits.inside p q a b e g h has to k hg;
    }
