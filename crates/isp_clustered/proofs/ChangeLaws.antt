-- What the calls that change a tree make of it, and of the space.
use Rattle.std.proofs.Common.{◌≡◌, ℕ, suc, ◌+◌, ◌<◌, ◌≤◌, ◌==◌, ℤ, ◌||◌, Bool, true, false, List, [], ◌∷◌, ◌++◌, drop, length, take, Option, Some, None, refl, sym, ◌∙◌, ap, subst, arith, cond, if◌then◌else◌}
use Rattle.std.specs.Prelude.{All, IfSome, is_none, nat_lt, not}
use Rattle.std.proofs.lemmas.Bool.Decides.{nat_tests}
use Rattle.isp_base.specs.Lists.{times}
use Rattle.isp_format.specs.Header.{Header, header_of}
use Rattle.isp_format.specs.Leaf.{Stored}
use Rattle.isp_format.specs.Ranges.{Contents, page_of}
use Rattle.isp_format.specs.Space.{IsSpacePage}
use Rattle.isp_format.specs.declared.page.Page.{Page}
use Rattle.isp_format.proofs.Places.{not_second}
use Rattle.isp_page.specs.State.{is_among}
use Rattle.isp_page.specs.Touched.{KeepsPages, is_page}
use Rattle.isp_space.specs.Spaces.{IsSpace, Space, free_pages, next_free, next_of, space_page, space_pages, taken}
use Rattle.isp_space.proofs.SpaceLaws.{chain_same}
use Rattle.isp_space.proofs.TakingLaws.{page_0_stays, taken_space}
use Rattle.isp_cells.specs.LeafPages.{IsLeaf, leaf_header}
use Rattle.isp_cells.specs.Rows.{bytes_in, exchanged, find, new_row, with_put}
use Rattle.isp_cells.proofs.CellLaws.{rows_length}
use Rattle.isp_cells.proofs.RowLaws.{HasKey, found_key}
use Rattle.isp_levels.specs.Dividing.{divided, first_key, halves, is_divided}
use Rattle.isp_levels.specs.Edits.{ChangesAt, IsAt, IsOfKey}
use Rattle.isp_levels.specs.Levels.{ArePages, IsTreeOf, Ranged, TreeLeaf, first_page, leaf_pages, level_pages}
use Rattle.isp_levels.proofs.AmongLaws.{exchanged_at, one_changed}
use Rattle.isp_levels.proofs.PageLaws.{AreApart, leaf_pages_append, pages_edited, times_append, times_itself, tree_edited, zero_absent}
use Rattle.isp_levels.proofs.RangeLaws.{ranged_exchanged}
use Rattle.isp_clustered.specs.Calls.{IsCreated}
use Rattle.isp_clustered.specs.Found.{IsFoundLeaf}
use Rattle.isp_clustered.specs.Puts.{IsApart, IsBeside, IsPut}
use Rattle.isp_clustered.specs.Trees.{IsEdited, IsTree, Tree, one_leaf, pages_of}
use Rattle.isp_clustered.proofs.TreeLaws.{leaf_tree}

pub not_false : (b : Bool) → not b ≡ false → b ≡ true
not_false true is = refl
not_false false is = cc

-- ---- rows are exchanged on one leaf

has_key : (key : ℤ) (o : Option Stored) → IsOfKey key o → HasKey key o
has_key key None is = tt
has_key key (Some s) is = is

made_key : (key : ℤ) (rows : List Stored) (change : List Stored → List Stored) (changes : ChangesAt key change) (o : Option Stored) → find key rows ≡ o → HasKey key (changes.made o)
made_key key rows change changes None is = subst (HasKey key) (sym changes.none) tt
made_key key rows change changes (Some s) is = has_key key (changes.made (Some s)) (changes.keyed s (found_key key rows s is))

-- the tree with other rows on the leaf of a key
pub replaced : (pages pages_now : ℕ) (old new : Contents) (table root : ℕ) (tree : Tree) (key : ℤ) (leaf : TreeLeaf) (row : Option Stored) (ps : List ℕ) (rows : List Stored) → IsTree pages old table root tree → pages_now ≡ pages → (at : IsAt key tree.leaves leaf) → HasKey key row
    → rows ≡ exchanged key row leaf.rows → IsLeaf (page_of new leaf.page) table leaf.page (first_page at.after) rows → AreApart pages leaf.page ps → KeepsPages (λ other. is_among other ps) old new
    → IsTree pages_now new table root (record { leaves = at.before ++ (record leaf { rows = rows } ∷ at.after); inner = tree.inner })
replaced pages pages_now old new table root tree key leaf row ps rows is shape at has rows_are there apart keeps =
    let was : IsTreeOf pages old table root is.levels (at.before ++ (leaf ∷ at.after)) = subst (λ (l : List TreeLeaf). IsTreeOf pages old table root is.levels l) at.is is.levelled in
    let ranged : Ranged (at.before ++ (record leaf { rows = exchanged key row leaf.rows } ∷ at.after)) = ranged_exchanged at.before at.after leaf key row has at.near at.under was.levelled.ranged in
    let now = subst (λ (l : List Stored). Ranged (at.before ++ (record leaf { rows = l } ∷ at.after))) (sym rows_are) ranged in
    record {
      levels = is.levels;
      levelled = subst (λ (n : ℕ). IsTreeOf n new table root is.levels (at.before ++ (record leaf { rows = rows } ∷ at.after))) (sym shape)
          (tree_edited pages old new table root is.levels at.before at.after leaf (record leaf { rows = rows }) ps was refl refl now there apart keeps);
      inner_is = is.inner_is;
    }

is_one : (page : ℕ) (pages : ℕ) → AreApart pages page (page ∷ [])
is_one page pages qs none are = (none, tt)

not_leaf : (q : ℕ) (leaf : TreeLeaf) (before after : List TreeLeaf) (inner : List ℕ) → is_among q (leaf_pages (before ++ (leaf ∷ after)) ++ inner) ≡ false → is_among q (leaf.page ∷ []) ≡ false
not_leaf q leaf [] after inner out = by (leaf.page == q) (is_among q (leaf_pages after ++ inner)) out
  where
    by : (a b : Bool) → (a || b) ≡ false → (a || false) ≡ false
    by true b bad = bad
    by false b out = refl
not_leaf q leaf (x ∷ before) after inner out = not_leaf q leaf before after inner (by (x.page == q) (is_among q (leaf_pages (before ++ (leaf ∷ after)) ++ inner)) out)
  where
    by : (a b : Bool) → (a || b) ≡ false → b ≡ false
    by true b bad = absurd (let no : true ≡ false = bad in cc)
    by false b out = out

pub edited : (pages pages_now : ℕ) (old new : Contents) (table root : ℕ) (tree : Tree) (key : ℤ) (change : List Stored → List Stored) (bytes : List ℕ) (page used : ℕ) → IsTree pages old table root tree → pages_now ≡ pages → (f : IsFoundLeaf bytes page used table key tree) → ChangesAt key change
    → IsLeaf (page_of new page) table page (first_page f.at.after) (change f.leaf.rows) → KeepsPages (λ other. is_among other (page ∷ [])) old new → IsEdited pages_now old new table root tree change
edited pages pages_now old new table root tree key change bytes page used is shape f changes there keeps =
    let leaf = f.leaf in
    let at = f.at in
    let here : IsLeaf (page_of new leaf.page) table leaf.page (first_page at.after) (change leaf.rows) = subst (λ (p : ℕ). IsLeaf (page_of new p) table p (first_page at.after) (change leaf.rows)) (sym f.page_is) there in
    let kept : KeepsPages (λ other. is_among other (leaf.page ∷ [])) old new = subst (λ (p : ℕ). KeepsPages (λ other. is_among other (p ∷ [])) old new) (sym f.page_is) keeps in
    let now = replaced pages pages_now old new table root tree key leaf (changes.made (find key leaf.rows)) (leaf.page ∷ []) (change leaf.rows) is shape at (made_key key leaf.rows change changes (find key leaf.rows) refl) (changes.is leaf.rows) here (is_one leaf.page pages) kept in
    record {
      is_tree = subst (λ (l : List TreeLeaf). IsTree pages_now new table root (record { leaves = l; inner = tree.inner })) (sym (one_changed key change tree.leaves leaf at changes is.levelled.levelled.ranged)) now;
      others = λ q out. kept q (not_leaf q leaf at.before at.after tree.inner (subst (λ (l : List TreeLeaf). is_among q (leaf_pages l ++ tree.inner) ≡ false) at.is out));
    }

-- what stands on the page where it is exchanged for an edited one
pub edited_page : (edit : Option Page) (bytes : List ℕ) (table page next : ℕ) (rows : List Stored) → is_none edit ≡ false → IfSome edit (λ new. IsLeaf new.bytes table page next rows) → IfSome edit (λ new. bytes ≡ new.bytes) → IsLeaf bytes table page next rows
edited_page None bytes table page next rows some leaf is = cc
edited_page (Some new) bytes table page next rows some leaf is = subst (λ (b : List ℕ). IsLeaf b table page next rows) (sym is) leaf

-- ---- a row is put

apart : (root : ℕ) (xs : List ℕ) → times root xs ≡ 0 → All (λ other. is_page root other ≡ false) xs
apart root [] none = λ k d h. absurd (omega (arith, h))
apart root (x ∷ xs) none = cons x xs (by (x == root) refl none) (apart root xs (let rest : times root (x ∷ xs) ≡ 0 = none in omega (arith, rest)))
  where
    by : (b : Bool) → (x == root) ≡ b → cond b 1 0 + times root xs ≡ 0 → b ≡ false
    by false is none = refl
    by true is none = absurd (omega (arith, none))

    cons : (x : ℕ) (xs : List ℕ) → is_page root x ≡ false → All (λ other. is_page root other ≡ false) xs → All (λ other. is_page root other ≡ false) (x ∷ xs)
    cons x xs first rest = search (arith, first, rest)

-- a tree's page is none of the space
pub page_apart : (leaf : TreeLeaf) (tree : Tree) (s : Space) (key : ℤ) → IsAt key tree.leaves leaf → IsBeside tree s → IsApart leaf.page s
page_apart leaf tree s key at beside =
    let most = beside.once leaf.page in
    let one = times_append leaf.page (pages_of tree) (space_pages s) in
    let two = times_append leaf.page (leaf_pages tree.leaves) tree.inner in
    let three = ap (λ (l : List TreeLeaf). times leaf.page (leaf_pages l)) at.is in
    let four = ap (times leaf.page) (leaf_pages_append at.before (leaf ∷ at.after)) in
    let five = times_append leaf.page (leaf_pages at.before) (leaf.page ∷ leaf_pages at.after) in
    let six = times_itself leaf.page (leaf_pages at.after) in
    apart leaf.page (space_pages s) (omega (arith, most, one, two, three, four, five, six))

-- a leaf's page is none of those that every file has
pub page_from : (pages : ℕ) (contents : Contents) (table root : ℕ) (tree : Tree) (key : ℤ) (bytes : List ℕ) (page used : ℕ) → IsTree pages contents table root tree → IsFoundLeaf bytes page used table key tree → 16 ≤ page
page_from pages contents table root tree key bytes page used is f =
    subst (λ (n : ℕ). 16 ≤ n) f.page_is (by f.at.before f.at.after f.leaf (subst (λ (l : List TreeLeaf). ArePages pages (leaf_pages l ++ level_pages is.levels)) f.at.is is.levelled.inside))
  where
    by : (before after : List TreeLeaf) (leaf : TreeLeaf) → ArePages pages (leaf_pages (before ++ (leaf ∷ after)) ++ level_pages is.levels) → 16 ≤ leaf.page
    by [] after leaf are = are.0
    by (x ∷ before) after leaf are = by before after leaf are.2

zero_and : (page pages : ℕ) → AreApart pages page (0 ∷ page ∷ [])
zero_and page pages qs none are = (zero_absent pages qs are, (none, tt))

not_divided : (bytes : List ℕ) (table own next : ℕ) (rows : List Stored) → IsLeaf bytes table own next rows → is_divided rows ≡ false
not_divided bytes table own next rows leaf =
    let within = leaf.page.within in
    let long = rows_length rows in
    small (bytes_in rows) (omega (arith, within, long))
  where
    small : (n : ℕ) → n ≤ 4032 → nat_lt 4032 n ≡ false
    small n few = grind (arith, nat_tests, few)

whole_leaf : (page : ℕ) (leaf : TreeLeaf) → is_divided leaf.rows ≡ false → divided page leaf ≡ leaf ∷ []
whole_leaf page leaf is = by (is_divided leaf.rows) is
  where
    left : TreeLeaf
    left = record leaf { rows = take (halves leaf.rows) leaf.rows }

    right : TreeLeaf
    right = record { page = page; low = first_key (drop (halves leaf.rows) leaf.rows); rows = drop (halves leaf.rows) leaf.rows }

    by : (b : Bool) → b ≡ false → (if b then left ∷ right ∷ [] else leaf ∷ []) ≡ leaf ∷ []
    by true is = cc
    by false is = refl

among_zero : (q page : ℕ) (b : Bool) → (q == 0) ≡ b → (b || is_among q (page ∷ [])) ≡ false → is_among q (0 ∷ page ∷ []) ≡ false
among_zero q page true is bad = cc
among_zero q page false is out = let zero : (0 == q) ≡ false = grind (arith, is) in ap (λ (b : Bool). b || is_among q (page ∷ [])) zero ∙ out

-- the tree once a row is put where it has room
pub put_tree : (pages pages_now : ℕ) (old new : Contents) (table root : ℕ) (tree : Tree) (s : Space) (key : ℤ) (row bytes : List ℕ) (page used : ℕ) → IsTree pages old table root tree → pages_now ≡ pages → (f : IsFoundLeaf bytes page used table key tree)
    → IsLeaf (page_of new page) table page (first_page f.at.after) (with_put key row f.leaf.rows) → IsSpace pages_now new (record s { bytes = s.bytes + (13 + length row) })
    → KeepsPages (λ other. is_among other (0 ∷ page ∷ [])) old new → IsPut pages_now old new table root key row tree s
put_tree pages pages_now old new table root tree s key row bytes page used is shape f there space keeps =
    let leaf = f.leaf in
    let at = f.at in
    let rows = with_put key row leaf.rows in
    let here : IsLeaf (page_of new leaf.page) table leaf.page (first_page at.after) rows = subst (λ (p : ℕ). IsLeaf (page_of new p) table p (first_page at.after) rows) (sym f.page_is) there in
    let kept : KeepsPages (λ other. is_among other (0 ∷ leaf.page ∷ [])) old new = subst (λ (p : ℕ). KeepsPages (λ other. is_among other (0 ∷ p ∷ [])) old new) (sym f.page_is) keeps in
    let ranged = is.levelled.levelled.ranged in
    let same : leaf_pages (at.before ++ (record leaf { rows = rows } ∷ at.after)) ≡ leaf_pages tree.leaves = pages_edited at.before at.after leaf (record leaf { rows = rows }) refl ∙ ap leaf_pages (sym at.is) in
    record {
      after = record { leaves = at.before ++ (record leaf { rows = rows } ∷ at.after); inner = tree.inner };
      put = record {
        rows = sym (exchanged_at key (Some (new_row key row)) tree.leaves leaf at ranged);
        moved = None;
        left = at.before;
        mid = leaf;
        right = at.after;
        stood = at.is;
        page = page;
        stand = ap (λ (l : List TreeLeaf). at.before ++ (l ++ at.after)) (sym (whole_leaf page (record leaf { rows = rows }) (not_divided (page_of new leaf.page) table leaf.page (first_page at.after) rows here)));
      };
      is_tree = replaced pages pages_now old new table root tree key leaf (Some (new_row key row)) (0 ∷ leaf.page ∷ []) rows is shape at refl refl here (zero_and leaf.page pages) kept;
      count = 0;
      few = omega arith;
      pages_are = λ q. ap (λ (l : List ℕ). times q (l ++ tree.inner)) same ∙ more (times q (pages_of tree));
      is_space = space;
      others = λ q out. kept q (among_zero q leaf.page (q == 0) refl (either q (q == 0) (is_among q (pages_of (record { leaves = at.before ++ (record leaf { rows = rows } ∷ at.after); inner = tree.inner }))) out
          (λ free. not_leaf q (record leaf { rows = rows }) at.before at.after tree.inner free)));
    }
  where
    more : (n : ℕ) → n ≡ n + 0
    more n = omega arith

    either : {c : Bool} (q : ℕ) (a b : Bool) → (a || b) ≡ false → (b ≡ false → c ≡ false) → (a || c) ≡ false
    either q true b bad more = bad
    either q false b out more = more out

-- a space beside a page stays where that page alone is changed
pub space_beside : (pages : ℕ) (old new : Contents) (root : ℕ) (s : Space) → KeepsPages (is_page root) old new → IsApart root s → IsSpace pages old s → IsSpace pages new s
space_beside pages old new root s keeps out is = record {
  says = subst (λ (bytes : List ℕ). IsSpacePage bytes (space_page s)) (sym (keeps 0 (out 0 0 (omega arith)))) is.says;
  chain = chain_same (is_page root) old new s.free keeps (λ k d h. out (suc k) d (omega (arith, h))) is.chain;
  inside = is.inside;
  once = is.once;
  fresh_from = is.fresh_from;
  fresh_to = is.fresh_to;
}

-- ---- a tree is made

-- a page with the header of an empty leaf is one
pub empty_leaf : (bytes : List ℕ) (table own : ℕ) → header_of bytes ≡ leaf_header table own → IsLeaf bytes table own 0 []
empty_leaf bytes table own is = record {
  page = record {
    head = record {
      kind_is = ap (λ (h : Header). h.kind) is;
      level_is = ap (λ (h : Header). h.level) is;
      owner_is = ap (λ (h : Header). h.owner) is;
      own_is = ap (λ (h : Header). h.own) is;
    };
    next_is = ap (λ (h : Header). h.next) is;
    used = ap (λ (h : Header). h.used) is;
    within = omega arith;
    spelled = refl;
    each = λ k d h. absurd (omega (arith, h));
  };
  count = ap (λ (h : Header). h.count) is;
}

pub next_from : (xs : List ℕ) (fresh : ℕ) → All (λ page. (16 ≤ page) × (page < fresh)) xs → 16 ≤ fresh → 16 ≤ next_of xs fresh
next_from [] fresh inside from = from
next_from (page ∷ rest) fresh inside from = (inside 0 page (omega arith)).0

made_tree : (pages pages_now : ℕ) (old new : Contents) (table page : ℕ) (s : Space) → IsSpace pages old s → page ≡ next_free s → page < pages → pages_now ≡ pages → header_of (page_of new page) ≡ leaf_header table page → IsTree pages_now new table page (one_leaf page [])
made_tree pages pages_now old new table page s is page_is inside shape head =
    leaf_tree pages_now new table page [] (empty_leaf (page_of new page) table page head) tt (subst (λ (n : ℕ). 16 ≤ n) (sym page_is) (next_from s.free s.fresh is.inside is.fresh_from)) (subst (λ (n : ℕ). page < n) (sym shape) inside)

pub keeps_two : (p : ℕ) (old mid new : Contents) → KeepsPages (λ q. is_page 0 q || is_page p q) old mid → KeepsPages (is_page p) mid new → KeepsPages (λ q. is_page 0 q || is_page p q) old new
keeps_two p old mid new first second q out = second q (not_second (is_page 0 q) (is_page p q) out) ∙ first q out

made_space : (pages pages_now : ℕ) (old mid new : Contents) (page : ℕ) (s : Space) → IsSpace pages old s → 0 < free_pages pages s → page ≡ next_free s → pages_now ≡ pages
    → KeepsPages (λ q. is_page 0 q || is_page page q) old mid → KeepsPages (is_page page) mid new → IsSpacePage (page_of mid 0) (space_page (taken s)) → IsSpace pages_now new (taken s)
made_space pages pages_now old mid new page s is some page_is shape first second says =
    let from : 16 ≤ page = subst (λ (n : ℕ). 16 ≤ n) (sym page_is) (next_from s.free s.fresh is.inside is.fresh_from) in
    let keeps : KeepsPages (λ q. is_page 0 q || is_page (next_free s) q) old new = subst (λ (k : ℕ). KeepsPages (λ q. is_page 0 q || is_page k q) old new) page_is (keeps_two page old mid new first second) in
    let now : IsSpacePage (page_of new 0) (space_page (taken s)) = subst (λ (bytes : List ℕ). IsSpacePage bytes (space_page (taken s))) (sym (page_0_stays page mid new from second)) says in
    subst (λ (n : ℕ). IsSpace n new (taken s)) (sym shape) (taken_space pages old new s is some keeps now)

pub made : (pages pages_now : ℕ) (old mid new : Contents) (table page : ℕ) (s : Space) → IsSpace pages old s → 0 < free_pages pages s → page ≡ next_free s → page < pages → pages_now ≡ pages
    → KeepsPages (λ q. is_page 0 q || is_page page q) old mid → KeepsPages (λ other. is_among other (page ∷ [])) mid new → IsSpacePage (page_of mid 0) (space_page (taken s)) → header_of (page_of new page) ≡ leaf_header table page
    → IsCreated pages_now old new table s page
made pages pages_now old mid new table page s is some page_is inside shape first second says head =
    let kept : KeepsPages (is_page page) mid new = λ other out. second other (ap (λ (b : Bool). b || false) (either page other out)) in
    record {
      is_next = page_is;
      is_tree = made_tree pages pages_now old new table page s is page_is inside shape head;
      is_space = made_space pages pages_now old mid new page s is some page_is shape first kept says;
      others = keeps_two page old mid new first kept;
    }
  where
    either : (a b : ℕ) → (b == a) ≡ false → (a == b) ≡ false
    either a b is = grind (arith, is)
