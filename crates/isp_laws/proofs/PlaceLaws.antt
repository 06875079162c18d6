-- The placing of an entry: whatever pages are divided, and how, the forest and its links are kept.
use Rattle.std.proofs.Common.{◌≡◌, ℕ, Some, List, [], ◌∷◌, ◌++◌, length, reverse, ap, ◌∙◌, arith, length-append, ℤ}
use Rattle.std.proofs.lemmas.List.Sorted.{length_permutation}
use Rattle.isp_mbr.specs.Corners.{Corners}
use Rattle.isp_mbr.specs.Boxes.{IsBox}
use Rattle.isp_forest.specs.declared.entry.Entry.{Entry}
use Rattle.isp_forest.specs.Tree.{Node, Tree, page_at}
use Rattle.isp_forest.specs.Forest.{Forest}
use Rattle.isp_forest.specs.Walk.{Links, LinkedForest}
use Rattle.isp_forest.specs.Steps.{add, raise, split}
use Rattle.isp_forest.specs.Place.{Stands, IsFree, CanRaise, CanSplit, Division, relieve, CanRelieve, place}
use Rattle.isp_laws.proofs.PageLaws.{page_in-put_same, page_in-put_other}
use Rattle.isp_laws.proofs.ForestLaws.{same_page}
use Rattle.isp_laws.proofs.AddLaws.{add_keeps, add_links}
use Rattle.isp_laws.proofs.RaiseLaws.{apart, lifted, moved, made, raise_keeps, raise_links}
use Rattle.isp_laws.proofs.SplitLaws.{split_keeps}
use Rattle.isp_laws.proofs.SplitWalkLaws.{split_links}

pub raised_page : (tree : Tree) (forest : Forest tree) (q : ℕ) → IsFree tree q → page_at (raise tree q) q ≡ Some (moved forest.top)
raised_page tree forest q free =
    ap (λ (t : Tree). page_at t q) (made tree q forest.top forest.rooted)
    ∙ page_in-put_other tree.root q (lifted forest.top q) _ (apart tree.pages tree.root q forest.top forest.rooted free)
    ∙ page_in-put_same q (moved forest.top) tree.pages

-- a page that was divided had two entries, so its root could be raised
pub can_raise : (tree : Tree) (forest : Forest tree) (q o n : ℕ) (left right : List Entry) → IsFree tree q → CanSplit (raise tree q) q o left right n → CanRaise tree q
can_raise tree forest q o n left right free can = record {
  free = free;
  two = λ top rooted inner. (
      let same : forest.top ≡ top = same_page (page_at tree tree.root) forest.top top forest.rooted rooted in
      let page : can.page ≡ moved forest.top = same_page (page_at (raise tree q) q) can.page (moved forest.top) can.there (raised_page tree forest q free) in
      let n : length (left ++ right) ≡ length can.page.entries = length_permutation can.page.entries (left ++ right) can.parts.all in
      let entries : length can.page.entries ≡ length top.entries = ap (λ (x : Node). length x.entries) page ∙ ap (λ (x : Node). length x.entries) same in
      omega (arith, n, entries, length-append left right, can.parts.left_some, can.parts.right_some));
}

pub relieve_keeps : (tree : Tree) (q : ℕ) (up : List ℕ) (ds : List Division) → LinkedForest tree → CanRelieve tree q up ds → LinkedForest (relieve tree q up ds)
relieve_keeps tree q up [] sound can = sound
relieve_keeps tree q [] (d ∷ ds) sound can = sound
relieve_keeps tree q (o ∷ []) (d ∷ ds) sound can =
    let raise_can : CanRaise tree q = can_raise tree sound.forest q o d.page d.left d.right can.0 can.1 in
    let forest : Forest (raise tree q) = raise_keeps tree sound.forest q raise_can in
    let links : Links (raise tree q) = raise_links tree sound.forest q can.0 sound.links in
    record { forest = split_keeps (raise tree q) q o d.left d.right d.page forest can.1; links = split_links (raise tree q) q o d.left d.right d.page forest can.1 links }
relieve_keeps tree q (o ∷ above ∷ up) (d ∷ ds) sound can =
    relieve_keeps (split tree o above d.left d.right d.page) q (above ∷ up) ds
    (record { forest = split_keeps tree o above d.left d.right d.page sound.forest can.0; links = split_links tree o above d.left d.right d.page sound.forest can.0 sound.links }) can.1

pub place_keeps : (tree : Tree) (path : List ℕ) (box : Corners) (key : ℤ) (number q : ℕ) (ds : List Division) → LinkedForest tree → Stands tree path → IsBox box
    → CanRelieve (add tree path box key number) q (reverse path) ds → LinkedForest (place tree path box key number q ds)
place_keeps tree path box key number q ds sound stands is_box can =
    relieve_keeps (add tree path box key number) q (reverse path) ds
    (record { forest = add_keeps tree path box key number sound.forest stands is_box; links = add_links tree path box key number sound.links }) can

-- the same where nothing is known of right links
pub relieve_forest : (tree : Tree) (q : ℕ) (up : List ℕ) (ds : List Division) → Forest tree → CanRelieve tree q up ds → Forest (relieve tree q up ds)
relieve_forest tree q up [] forest can = forest
relieve_forest tree q [] (d ∷ ds) forest can = forest
relieve_forest tree q (o ∷ []) (d ∷ ds) forest can =
    split_keeps (raise tree q) q o d.left d.right d.page (raise_keeps tree forest q (can_raise tree forest q o d.page d.left d.right can.0 can.1)) can.1
relieve_forest tree q (o ∷ above ∷ up) (d ∷ ds) forest can =
    relieve_forest (split tree o above d.left d.right d.page) q (above ∷ up) ds (split_keeps tree o above d.left d.right d.page forest can.0) can.1

pub place_forest : (tree : Tree) (path : List ℕ) (box : Corners) (key : ℤ) (number q : ℕ) (ds : List Division) → Forest tree → Stands tree path → IsBox box
    → CanRelieve (add tree path box key number) q (reverse path) ds → Forest (place tree path box key number q ds)
place_forest tree path box key number q ds forest stands is_box can =
    relieve_forest (add tree path box key number) q (reverse path) ds (add_keeps tree path box key number forest stands is_box) can
