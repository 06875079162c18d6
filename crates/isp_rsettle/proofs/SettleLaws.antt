-- A settled plan's pages, over those of the tree, are the pages of the tree in which the entry was placed.
use Rattle.std.proofs.Common.{◌≡◌, ℕ, ℤ, ◌+◌, ◌≤◌, ◌==◌, ◌||◌, Bool, true, false, cond, Option, Some, None, List, [], ◌∷◌, ◌++◌, length, map, reverse, refl, sym, ◌∙◌, ap, subst, arith}
use Rattle.std.proofs.lemmas.List.{append-nil, reverse-append}
use Rattle.isp_base.specs.Lists.{Has, times}
use Rattle.isp_base.specs.declared.page_no.PageNo.{PageNo}
use Rattle.isp_mbr.specs.Boxes.{union}
use Rattle.isp_mbr.specs.Corners.{Corners}
use Rattle.isp_forest.specs.declared.entry.Entry.{Entry}
use Rattle.isp_forest.specs.declared.entry.To.TheVariants.{Row}
use Rattle.isp_forest.specs.Forest.{Forest}
use Rattle.isp_forest.specs.Place.{IsFree, Stands}
use Rattle.isp_forest.specs.Steps.{add, added_to, is_among, is_last, names, widened}
use Rattle.isp_forest.specs.Tree.{Node, Tree, child_of, counter, numbers, page_at}
use Rattle.isp_laws.proofs.AddLaws.{above_on_path, add_keeps, last_among}
use Rattle.isp_laws.proofs.ListLaws.{Has-map_of, times-append}
use Rattle.isp_laws.proofs.PageLaws.{changed, numbers-each, page_in-each, times_free}
use Rattle.isp_rplan.specs.Divisions.{AreDue, HasEntries, divisions, number_of, page_numbers, raised_to}
use Rattle.isp_rplan.specs.Plans.{IsPlan}
use Rattle.isp_rplan.specs.declared.steps.Carry.TheVariants.{Added}
use Rattle.isp_rplan.specs.declared.steps.PathPage.{PathPage}
use Rattle.isp_rplan.specs.declared.steps.Planned.{Planned}
use Rattle.isp_rplan.proofs.BeginLaws.{BeginsUp, begins_up, grown_free}
use Rattle.isp_rplan.proofs.DivideLaws.{Has-reverse, numbers_reverse, plan_divides}
use Rattle.isp_rplan.proofs.StepLaws.{map_same}
use Rattle.isp_rsettle.specs.Placed.{CanSettle, IsPathPage, IsSettled, Settles, path_number}
use Rattle.isp_rsettle.specs.Settling.{parts, raised, settled}
use Rattle.isp_rsettle.proofs.PartLaws.{few_settled, numbered}
use Rattle.isp_rsettle.proofs.RiseLaws.{CanRise, HasHead, Rises, all_rise, before}

numbers_are : (pages : List PathPage) → map path_number pages ≡ page_numbers pages
numbers_are [] = refl
numbers_are (p ∷ pages) = ap (λ (l : List ℕ). p.page.0 ∷ l) (numbers_are pages)

times_reverse : (x : ℕ) (list : List ℕ) → times x (reverse list) ≡ times x list
times_reverse x [] = refl
times_reverse x (n ∷ list) =
    let turned : times x (reverse (n ∷ list)) ≡ times x (reverse list ++ n ∷ []) = ap (times x) (reverse-append (n ∷ []) list) in
    let both = times-append x (reverse list) (n ∷ []) in
    let later = times_reverse x list in
    omega (arith, turned, both, later)

off_path : (path : List ℕ) (x : ℕ) → times x path ≡ 0 → is_among path x ≡ false
off_path [] x none = refl
off_path (p ∷ path) x none = by (p == x) none (off_path path x)
  where
    by : (t : Bool) → cond t 1 0 + times x path ≡ 0 → (times x path ≡ 0 → is_among path x ≡ false) → (t || is_among path x) ≡ false
    by true none again = absurd (omega (arith, none))
    by false none again = again (omega (arith, none))

-- ---- a page that isn't on the path is left by the new entry

module _ (tree : Tree) (forest : Forest tree) (path : List ℕ) (stands : Stands tree path) (b : Corners) (key : ℤ) (number : ℕ) where
  no_last : (x : ℕ) → is_among path x ≡ false → is_last path x ≡ false
  no_last x off = by (is_last path x) refl
    where
      by : (t : Bool) → is_last path x ≡ t → t ≡ false
      by false is = refl
      by true is = absurd (let bad : true ≡ false = sym (last_among path x is) ∙ off in cc)

  names_none : (x : ℕ) (page : Node) → page_at tree x ≡ Some page → is_among path x ≡ false → (e : Entry) → Has page.entries e → (m : Option ℕ) → child_of e ≡ m → names (is_among path) m ≡ false
  names_none x page there off e has None to = refl
  names_none x page there off e has (Some q) to = by (is_among path q) refl
    where
      by : (t : Bool) → is_among path q ≡ t → t ≡ false
      by false is = refl
      by true is = absurd (let bad : true ≡ false = sym (above_on_path tree forest path stands x q e (record { page = page; there = there; has = has; to = to }) is) ∙ off in cc)

  widened_none : (e : Entry) → names (is_among path) (child_of e) ≡ false → widened path b e ≡ e
  widened_none e none = ap (λ (t : Bool). record { b = cond t (union e.b b) e.b; to = e.to }) none

  left_alone : (x : ℕ) (page : Node) → page_at tree x ≡ Some page → is_among path x ≡ false → added_to path b key number x page ≡ page
  left_alone x page there off =
      let entries : map (widened path b) page.entries ++ cond (is_last path x) (record { b = b; to = Row key number } ∷ []) [] ≡ page.entries =
      ap (λ (t : Bool). map (widened path b) page.entries ++ cond t (record { b = b; to = Row key number } ∷ []) []) (no_last x off)
      ∙ append-nil (map (widened path b) page.entries)
      ∙ map_same (widened path b) page.entries (λ e has. widened_none e (names_none x page there off e has (child_of e) refl)) in
      λ i. record { level = page.level; ssn = page.ssn; next = page.next; entries = entries i }

  pub added_off : (x : ℕ) → is_among path x ≡ false → page_at (add tree path b key number) x ≡ page_at tree x
  added_off x off = page_in-each (added_to path b key number) tree.pages x ∙ by (page_at tree x) refl
    where
      by : (o : Option Node) → page_at tree x ≡ o → changed (added_to path b key number) x (page_at tree x) ≡ page_at tree x
      by None free = ap (changed (added_to path b key number) x) free ∙ sym free
      by (Some page) there = ap (changed (added_to path b key number) x) there ∙ ap Some (left_alone x page there off) ∙ sym there

  pub grown_counter : counter (add tree path b key number) ≡ counter tree
  grown_counter = ap ssn_in (page_in-each (added_to path b key number) tree.pages tree.root) ∙ by (page_at tree tree.root)
    where
      ssn_in : Option Node → ℕ
      ssn_in None = 0
      ssn_in (Some page) = page.ssn

      by : (o : Option Node) → ssn_in (changed (added_to path b key number) tree.root o) ≡ ssn_in o
      by None = refl
      by (Some page) = refl

  pub grown_head : (p : PathPage) → IsPathPage tree p → HasHead (add tree path b key number) p
  grown_head p is = record {
    node = added_to path b key number p.page.0 is.node;
    there = page_in-each (added_to path b key number) tree.pages p.page.0 ∙ ap (changed (added_to path b key number) p.page.0) is.there;
    level = is.level;
    next = is.next;
    ssn = λ inner. is.ssn;
  }

-- ---- the whole path

has_entries : (tree : Tree) (p : PathPage) → IsPathPage tree p → HasEntries tree p.page.0 p.entries.items
has_entries tree p is = record { node = is.node; there = is.there; entries_are = sym is.entries }

settles_path : (fanout : ℕ) (tree : Tree) (b : Corners) (key : ℤ) (number : ℕ) (pages : List PathPage) (steps : List Planned) (news : List PageNo) → CanSettle fanout tree (page_numbers pages) b pages steps news → IsSettled fanout tree (page_numbers pages) b key number steps news
settles_path fanout tree b key number pages steps news c =
    let path = page_numbers pages in
    let grown : Tree = add tree (page_numbers pages) b key number in
    let few : (p : PathPage) → Has pages p → length p.entries.items ≤ fanout = λ p h. (let is = c.are.each p h in subst (λ (es : List Entry). length es ≤ fanout) (sym is.entries) (c.few p.page.0 is.node is.there)) in
    let begun : BeginsUp tree (page_numbers pages) pages b key number = begins_up tree c.forest pages b key number c.stands c.none (λ p h. has_entries tree p (c.are.each p h)) in
    let inside : (p : PathPage) → Has (begun.leaf ∷ begun.above) p → Has pages p = λ p h. Has-reverse pages p (subst (λ (l : List PathPage). Has l p) (sym begun.is) h) in
    let plan : IsPlan fanout b (begun.leaf ∷ begun.above) (Added b) steps = subst (λ (l : List PathPage). IsPlan fanout b l (Added b) steps) begun.is c.plan in
    let up : page_numbers (begun.leaf ∷ begun.above) ≡ reverse (page_numbers pages) = ap page_numbers (sym begun.is) ∙ numbers_reverse pages in
    let free : (n : PageNo) → Has news n → IsFree tree n.0 = λ n h. c.free n.0 (Has-map_of number_of news n h) in
    let can : CanRise fanout b grown (Added b) (Row key number) begun.leaf begun.above steps news = record {
      forest = add_keeps tree path b key number c.forest c.stands c.box;
      up = begun.are_up;
      few = λ p h. few p (inside p h);
      heads = λ p h. grown_head tree c.forest path c.stands b key number p (c.are.each p (inside p h));
      plan = plan;
      new = record { free = λ n h. grown_free tree c.forest path c.stands b key number n.0 (free n h); once = c.once };
      count = c.count;
    } in
    let risen = all_rise fanout c.fan b begun.leaf begun.above steps grown (Added b) (Row key number) news can in
    let r = subst (λ (k : ℕ). Rises grown (reverse path) (map number_of news) (raised_to steps news) (divisions (Row key number) steps news) (settled k (Row key number) steps news) (parts steps news) (raised steps news))
    (grown_counter tree c.forest path c.stands b key number)
    (subst (λ (l : List ℕ). Rises grown l (map number_of news) (raised_to steps news) (divisions (Row key number) steps news) (settled (counter grown) (Row key number) steps news) (parts steps news) (raised steps news)) up risen) in
    let due : AreDue fanout grown (reverse path) (Row key number) steps news = plan_divides fanout tree pages b key number steps news (record {
      fan = c.fan;
      forest = c.forest;
      none = c.none;
      stands = c.stands;
      has = λ p h. has_entries tree p (c.are.each p h);
      few = few;
      box = c.box;
      plan = c.plan;
      new = record { free = free; once = c.once };
      enough = (let k = c.count in omega (arith, k));
    }) in
    let are : (x : ℕ) → times x (numbers (settled (counter tree) (Row key number) steps news)) ≡ times x path + times x (map number_of news) = λ x. (
    let k = numbered fanout b (begun.leaf ∷ begun.above) (Added b) steps (counter tree) (Row key number) news plan c.count x in
    let same : times x (page_numbers (begun.leaf ∷ begun.above)) ≡ times x (page_numbers pages) = ap (times x) up ∙ times_reverse x (page_numbers pages) in
    omega (arith, k, same)) in
    record {
      can = due.can;
      divides = due.all;
      pages = λ x. r.pages x ∙ before (settled (counter tree) (Row key number) steps news) grown.pages tree.pages x (λ off. (
          let none : times x (numbers (settled (counter tree) (Row key number) steps news)) ≡ 0 = times_free (settled (counter tree) (Row key number) steps news) x off in
          let k = are x in
          added_off tree c.forest path c.stands b key number x (off_path path x (omega (arith, none, k)))));
      few = few_settled fanout c.fan b (begun.leaf ∷ begun.above) (Added b) steps (counter tree) (Row key number) news plan (λ p h. few p (inside p h));
      are = are;
      all = λ x. (
          let k = r.all x in
          let same : times x (numbers grown.pages) ≡ times x (numbers tree.pages) = ap (times x) (numbers-each (added_to (page_numbers pages) b key number) tree.pages) in
          omega (arith, k, same));
      root = r.root;
      counted = r.counted ∙ ap (λ (k : ℕ). k + length (divisions (Row key number) steps news)) (grown_counter tree c.forest path c.stands b key number);
      taken = r.taken;
      parted = r.parted;
      raises = r.raises;
    }

pub settles : Settles
settles fanout tree path b key number pages steps news c =
    let same : path ≡ page_numbers pages = sym c.are.numbers ∙ numbers_are pages in
    subst (λ (l : List ℕ). IsSettled fanout tree l b key number steps news) (sym same)
    (settles_path fanout tree b key number pages steps news (subst (λ (l : List ℕ). CanSettle fanout tree l b pages steps news) same c))
