-- Removing a leaf's entry keeps the forest, and leaves all links and numbers.
use Rattle.std.proofs.Common.{◌≡◌, inl, inr, ℕ, ◌<◌, ◌==◌, true, false, List, [], ◌∷◌, length, refl, ap, ◌∙◌, arith, eqb-true}
use Rattle.std.specs.Prelude.{is_none, not, filter}
use Rattle.isp_forest.specs.declared.entry.Entry.{Entry}
use Rattle.isp_forest.specs.declared.entry.To.{To}
use Rattle.isp_forest.specs.declared.entry.To.TheVariants.{Child, Row}
use Rattle.isp_base.specs.Lists.{Has, times}
use Rattle.isp_forest.specs.Tree.{Node, Tree, child_in, child_of}
use Rattle.isp_forest.specs.Forest.{Forest, IsBelow, IsPage}
use Rattle.isp_forest.specs.Walk.{Links}
use Rattle.isp_forest.specs.Steps.{is_row, without, remove}
use Rattle.isp_laws.proofs.ListLaws.{Has-filter}
use Rattle.isp_laws.proofs.EntryLaws.{children-without_row}
use Rattle.isp_laws.proofs.RoundLaws.{Still, Fits, forest-rounded, links-rounded}

pub remove-still : (number : ℕ) → Still (without number)
remove-still number = record {
  level = λ q page. refl;
  ssn = λ q page. refl;
  next = λ q page. refl;
  kids = λ r q page. ap (times r) (children-without_row number page.entries);
}

-- an entry that names a page stays
stays_at : (to : To) (number : ℕ) → is_none (child_in to) ≡ false → not (is_row number to) ≡ true
stays_at (Child p) number h = refl
stays_at (Row key m) number h = cc

all_stay : (number : ℕ) (es : List Entry) → ((e : Entry) → Has es e → is_none (child_of e) ≡ false) → filter (λ e. not (is_row number e.to)) es ≡ es
all_stay number [] h = refl
all_stay number (e ∷ es) h =
    let t : not (is_row number e.to) ≡ true = stays_at e.to number (h e (inl refl)) in
    rw t (ap (λ xs. e ∷ xs) (all_stay number es (λ x k. h x (inr k))))

not_zero : (n : ℕ) → 0 < n → (n == 0) ≡ false
not_zero n h = elim (n == 0) as (λ b. (n == 0) ≡ b → b ≡ false) [ true ↦ λ t. (let z : n ≡ 0 = eqb-true n 0 t in let no : ⊥ = omega arith in absurd no) | false ↦ λ t. refl ] refl

remove-fits : (tree : Tree) (number : ℕ) → Forest tree → Fits tree (without number)
remove-fits tree number forest = record {
  kinds = λ q page e there h. (let is : IsPage tree q page = forest.each q page there in is.kinds e (had page e h));
  boxes = λ q page e there h. (let is : IsPage tree q page = forest.each q page there in is.boxes e (had page e h));
  filled = λ q page there inner. (let is : IsPage tree q page = forest.each q page there in
      let same : filter (λ e. not (is_row number e.to)) page.entries ≡ page.entries = all_stay number page.entries (λ e h. is.kinds e h ∙ not_zero page.level inner) in
      let n : length (filter (λ e. not (is_row number e.to)) page.entries) ≡ length page.entries = ap length same in
      omega arith);
  level = λ p q a b e h has to k. (let is : IsBelow e a b = forest.below p q a b e h (had a e has) to k in is.level);
  inside = λ p q a b e g h has to k hg. (let is : IsBelow e a b = forest.below p q a b e h (had a e has) to k in is.inside g (had b g hg));
}
  where
    had : (page : Node) (e : Entry) → Has (filter (λ x. not (is_row number x.to)) page.entries) e → Has page.entries e
    had page e h = Has-filter (λ x. not (is_row number x.to)) page.entries e h

pub remove_keeps : (tree : Tree) (number : ℕ) → Forest tree → Forest (remove tree number)
remove_keeps tree number forest = forest-rounded tree (without number) (remove-still number) (remove-fits tree number forest) forest

pub remove_links : (tree : Tree) (number : ℕ) → Links tree → Links (remove tree number)
remove_links tree number links = links-rounded tree (without number) (remove-still number) links
