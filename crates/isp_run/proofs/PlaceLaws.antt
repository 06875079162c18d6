-- Files whose pages all stand in their places.
use Rattle.std.proofs.Common.{◌≡◌, ◌≢◌, ◌∙◌, ℕ, sym, refl, subst, List, []}
use Rattle.isp_disk.specs.Moments.{Image}
use Rattle.isp_disk.specs.declared.world.World.{Ghosts}
use Rattle.isp_file_laws.proofs.EmptyLaws.{empty_stands_for_none}
use Rattle.isp_format.specs.Control.{IsControl, pages_in}
use Rattle.isp_format.specs.Doublewrite.{area, doublewrite_gate}
use Rattle.isp_format.specs.Log.{IsLog, Transaction, log_of}
use Rattle.isp_making.specs.Making.{IsMade}
use Rattle.isp_stable.proofs.ImageLaws.{stands_closed}
use Rattle.isp_store.specs.Calls.{IsAllInPlace}
use Rattle.isp_store.specs.State.{StoreState, contents, shape}
use Rattle.isp_run.specs.Files.{IsFullyPlaced, IsMadeFile, IsTidy}

-- no copy counts, and the log has no batch
tidy_from : (image : Image) (end : ℕ) → IsControl image → image doublewrite_gate ≢ 1 → IsLog (pages_in image) (log_of image) 0 [] end → IsTidy image
tidy_from image end control closed log = record { closed = closed; in_place = stands_closed image [] end control closed log; empty = refl }

-- an empty file
pub made_file : (pages fanout : ℕ) (image : Image) → IsMade pages fanout image → IsMadeFile pages fanout image
made_file pages fanout image made = record {
  kept = empty_stands_for_none image (area image) made.stands made.first;
  pages_are = made.pages_are;
  fanout_are = made.fanout_is;
  tidy = tidy_from image 0 made.control (λ one. let never : 0 ≡ 1 = sym made.copies ∙ one in cc) ((λ one. let never : 0 ≡ 1 = sym made.log ∙ one in cc), refl);
}

-- a store whose pages are in place
pub in_place : {W : Type 0} (g : Ghosts W) (s : StoreState W) → g.tells → IsAllInPlace g s → IsFullyPlaced (shape g s) (g.image s.stable.world) (contents g s)
in_place g s tells placed =
    let now = placed.stands tells in
    let file = (placed.emptied tells).0 in
    let none = (placed.emptied tells).1 in
    let log : IsLog (pages_in (g.image s.stable.world)) (log_of (g.image s.stable.world)) 0 [] s.stable.log.end =
    subst (λ (bs : List (List Transaction)). IsLog (pages_in (g.image s.stable.world)) (log_of (g.image s.stable.world)) 0 bs s.stable.log.end) none
    (subst (λ (n : ℕ). IsLog n (log_of (g.image s.stable.world)) 0 file.batches s.stable.log.end) (sym file.pages) file.log) in
    record {
      stands = now.stands;
      pages = now.pages;
      fanout = now.fanout;
      tidy = tidy_from (g.image s.stable.world) s.stable.log.end file.control file.closed log;
    }
