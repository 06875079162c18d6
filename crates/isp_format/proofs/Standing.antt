-- What an image stands for is one: no two contents.
use Rattle.std.proofs.Common.{◌≡◌, List, sym, ◌∙◌, ap}
use Rattle.isp_disk.specs.Moments.{Image}
use Rattle.isp_format.specs.Contents.{StandsFor, ranges_of}
use Rattle.isp_format.specs.Control.{pages_in}
use Rattle.isp_format.specs.Doublewrite.{laid}
use Rattle.isp_format.specs.Log.{Transaction, log_of}
use Rattle.isp_format.specs.Ranges.{Contents, puts}
use Rattle.isp_format.proofs.LogOnce.{log_once}

-- an image stands for one contents at most
pub stands_once : (image : Image) (one other : Contents) → StandsFor image one → StandsFor image other → one ≡ other
stands_once image one other a b =
    let same = log_once (pages_in image) (log_of image) 0 a.batches b.batches a.end b.end a.control.pages.1 a.log b.log in
    a.contents_are ∙ ap (λ (batches : List (List Transaction)). puts (ranges_of batches) (laid image)) same.0 ∙ sym b.contents_are
