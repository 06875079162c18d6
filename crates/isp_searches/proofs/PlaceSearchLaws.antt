-- A placing leaves a search covered and known, whatever pages are divided, and how: it is an add and then splits from the leaf up.
use Rattle.std.proofs.Common.{ℕ, ℤ, List, [], ◌∷◌, ◌++◌, reverse}
use Rattle.isp_mbr.specs.Corners.{Corners}
use Rattle.isp_mbr.specs.Boxes.{IsBox}
use Rattle.isp_forest.specs.Tree.{Tree}
use Rattle.isp_forest.specs.Forest.{Forest}
use Rattle.isp_forest.specs.Steps.{add, raise, split}
use Rattle.isp_forest.specs.Place.{Stands, Division, relieve, CanRaise, CanRelieve, place}
use Rattle.isp_forest.specs.Search.{Search, Item, Covered, Known}
use Rattle.isp_forest.specs.Attach.{let_in, copied_at_raise, copied_at_split, copied_up, attached}
use Rattle.isp_laws.proofs.AddLaws.{add_keeps}
use Rattle.isp_laws.proofs.RaiseLaws.{raise_keeps}
use Rattle.isp_laws.proofs.SplitLaws.{split_keeps}
use Rattle.isp_laws.proofs.PlaceLaws.{can_raise}
use Rattle.isp_searches.specs.SearchLaws.{MayPlace, item}
use Rattle.isp_searches.proofs.AddSearchLaws.{add_covered, add_known}
use Rattle.isp_searches.proofs.RaiseSearchLaws.{raise_covered, raise_known}
use Rattle.isp_searches.proofs.SplitSearchLaws.{split_covered, split_known}

relieve_covered : (tree : Tree) (q : ℕ) (up : List ℕ) (ds : List Division) (x : Search) → Forest tree → CanRelieve tree q up ds → Covered tree x
    → Covered (relieve tree q up ds) (copied_up tree q up ds x)
relieve_covered tree q up [] x f can c = c
relieve_covered tree q [] (d ∷ ds) x f can c = c
relieve_covered tree q (o ∷ []) (d ∷ ds) x f can c =
    let may : CanRaise tree q = can_raise tree f q o d.page d.left d.right can.0 can.1 in
    split_covered (raise tree q) q o d.left d.right d.page (copied_at_raise tree q x) (raise_keeps tree f q may) can.1 (raise_covered tree q x f can.0 c)
relieve_covered tree q (o ∷ above ∷ up) (d ∷ ds) x f can c =
    relieve_covered (split tree o above d.left d.right d.page) q (above ∷ up) ds (copied_at_split o d.right d.page x)
    (split_keeps tree o above d.left d.right d.page f can.0) can.1 (split_covered tree o above d.left d.right d.page x f can.0 c)

relieve_known : (tree : Tree) (q : ℕ) (up : List ℕ) (ds : List Division) (x : Search) (items : List Item) → Forest tree → CanRelieve tree q up ds → Covered tree x → Known tree x items
    → Known (relieve tree q up ds) (copied_up tree q up ds x) items
relieve_known tree q up [] x items f can c known = known
relieve_known tree q [] (d ∷ ds) x items f can c known = known
relieve_known tree q (o ∷ []) (d ∷ ds) x items f can c known =
    let may : CanRaise tree q = can_raise tree f q o d.page d.left d.right can.0 can.1 in
    split_known (raise tree q) q o d.left d.right d.page (copied_at_raise tree q x) items (raise_keeps tree f q may) can.1 (raise_covered tree q x f can.0 c) (raise_known tree q x items f can.0 c known)
relieve_known tree q (o ∷ above ∷ up) (d ∷ ds) x items f can c known =
    relieve_known (split tree o above d.left d.right d.page) q (above ∷ up) ds (copied_at_split o d.right d.page x) items
    (split_keeps tree o above d.left d.right d.page f can.0) can.1 (split_covered tree o above d.left d.right d.page x f can.0 c) (split_known tree o above d.left d.right d.page x items f can.0 c known)

pub place_covered : (tree : Tree) (path : List ℕ) (box : Corners) (key : ℤ) (number q : ℕ) (ds : List Division) (x : Search) → Forest tree → Stands tree path → IsBox box
    → CanRelieve (add tree path box key number) q (reverse path) ds → Covered tree x → Covered (place tree path box key number q ds) (attached tree path box key number q ds x)
place_covered tree path box key number q ds x f stands is_box can c =
    relieve_covered (add tree path box key number) q (reverse path) ds (let_in tree path box x) (add_keeps tree path box key number f stands is_box) can (add_covered tree path box key number x f stands c)

pub place_known : (tree : Tree) (path : List ℕ) (box : Corners) (key : ℤ) (number q : ℕ) (ds : List Division) (x : Search) (items : List Item) (session statement : ℕ)
    → Forest tree → Stands tree path → IsBox box → CanRelieve (add tree path box key number) q (reverse path) ds → MayPlace tree path box session statement x
    → Covered tree x → Known tree x items → Known (place tree path box key number q ds) (attached tree path box key number q ds x) (items ++ item session statement key number ∷ [])
place_known tree path box key number q ds x items session statement f stands is_box can may c known =
    relieve_known (add tree path box key number) q (reverse path) ds (let_in tree path box x) (items ++ item session statement key number ∷ [])
    (add_keeps tree path box key number f stands is_box) can (add_covered tree path box key number x f stands c)
    (add_known tree path box key number x items session statement f stands may known)
