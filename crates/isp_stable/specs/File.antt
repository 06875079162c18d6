-- A file between two calls: pages in their places, and batches in its log; and what a call on it leaves.
use Rattle.std.specs.Prelude.{◌≡◌, ◌≢◌, ◌⊎◌, ℕ, ◌+◌, ◌<◌, List, Result, OnOk}
use Rattle.isp_disk.specs.Calls.{DiskCall}
use Rattle.isp_disk.specs.Moments.{During, Elapses, Image, Keeps, LeavesOnly, Quiet, no_place}
use Rattle.isp_disk.specs.Outside.{HasCause, Prints}
use Rattle.isp_disk.specs.Phases.{OnlyReads}
use Rattle.isp_disk.specs.declared.world.World.{Ghosts}
use Rattle.isp_format.specs.Contents.{StandsFor, ranges_of}
use Rattle.isp_format.specs.Control.{IsControl, fanout_in, pages_in}
use Rattle.isp_format.specs.Doublewrite.{area, doublewrite_gate, laid}
use Rattle.isp_format.specs.Log.{IsLog, Transaction, batch_head, log_bytes, log_of, log_place}
use Rattle.isp_format.specs.Ranges.{Contents, Range, SameIn, page_of, puts}
use Rattle.isp_stable.specs.declared.stable.Stable.{Stable}

-- each page of these contents is the page of one of two others
abbrev pub ArePagesOf : Contents → Contents → Contents → Type 0
ArePagesOf one other contents = (page : ℕ) → (page_of contents page ≡ page_of one page) ⊎ (page_of contents page ≡ page_of other page)

module _ {W : Type 0} (g : Ghosts W) where
  -- The file keeps the first three page rules, no copy counts, and these are its shape and the end of its log.
  pub record IsFile (s : Stable W) : Type 0 where
    pub control : IsControl (g.image s.world)
    pub pages : pages_in (g.image s.world) ≡ s.pages
    pub fanout : fanout_in (g.image s.world) ≡ s.fanout
    pub closed : g.image s.world doublewrite_gate ≢ 1
    pub batches : List (List Transaction)
    pub log : IsLog s.pages (log_of (g.image s.world)) 0 batches s.log.end

  -- the pages as they stand in their places
  abbrev pub placed : Stable W → Contents
  placed s = area (g.image s.world)

  -- the contents that the file stands for: its pages with the ranges of its log put into them
  abbrev pub flushed : (s : Stable W) → List (List Transaction) → Contents
  flushed s batches = puts (ranges_of batches) (placed s)

  -- the file with these batches in its log
  abbrev pub HasBatches : Stable W → List (List Transaction) → Type 0
  HasBatches s batches = (file : IsFile s) × (file.batches ≡ batches)

  -- an image that stands for contents with P, and has the shape of the file
  pub record StandsAs (s : Stable W) (P : Contents → Type 0) (left : Image) : Type 0 where
    pub contents : Contents
    pub stands : StandsFor left contents
    pub has : P contents
    pub pages : pages_in left ≡ s.pages
    pub fanout : fanout_in left ≡ s.fanout

  -- each stop since old leaves such an image, and what was printed
  abbrev pub StandsOnly : Stable W → W → (Contents → Type 0) → Type 0
  StandsOnly old new P = LeavesOnly g.clock g.left_since old.world new (λ left printed. StandsAs old P left × (printed ≡ g.printed old.world))

  -- each stop since old leaves pages that have P, with the copies that count laid over them
  abbrev pub LaysOnly : W → W → (Contents → Type 0) → Type 0
  LaysOnly old new P = LeavesOnly g.clock g.left_since old new (λ left printed. P (laid left))

  -- the pages stand as they did before but for these ranges, and no byte of the log was changed
  pub record HasWritten (ranges : List Range) (batches : List (List Transaction)) (old new : Stable W) : Type 0 where
    pub placed_are : placed new ≡ puts ranges (placed old)
    pub batches_are : HasBatches new batches
    pub log_bytes_are : SameIn log_place log_bytes (g.image old.world) (g.image new.world)

-- the log has room for a batch whose body has so many bytes, and for the gate behind it
abbrev pub HasRoomFor : {W : Type 0} → Stable W → ℕ → Type 0
HasRoomFor s size = s.log.end + batch_head + size < log_bytes

-- the log is empty
abbrev pub IsLogEmpty : {W : Type 0} → Stable W → Type 0
IsLogEmpty s = s.log.end ≡ 0

-- what no call changes
pub record KeepsShape {W : Type 0} (old new : Stable W) : Type 0 where
  pub pages : new.pages ≡ old.pages
  pub fanout : new.fanout ≡ old.fanout

-- What every call keeps: it works on the disk alone, and an Ok leaves nothing pending.
pub record KeepsStable {W T E : Type 0} (g : Ghosts W) (old new : Stable W) (result : Result T E) : Type 0 where
  pub shape : KeepsShape old new
  pub quiet : OnOk result (Quiet (g.pending new.world))
  pub calls : DiskCall g old.world new.world result

-- What a call keeps that only reads. A stop within it leaves what the file stood for before, and the pages as they stood.
pub record ReadsStable {W T E : Type 0} (g : Ghosts W) (old new : Stable W) (result : Result T E) : Type 0 where
  pub shape : KeepsShape old new
  pub log : new.log ≡ old.log
  pub reads : OnlyReads g old.world new.world result
  pub stops : g.tells → (file : IsFile g old) → StandsOnly g old new.world (λ contents. contents ≡ flushed g old file.batches)
  pub pages : g.tells → IsFile g old → LaysOnly g old.world new.world (λ contents. contents ≡ placed g old)

-- What a call makes of the log: an Ok leaves these batches. A stop within it leaves contents that have P, and the pages as
-- they stood.
pub record MakesLog {W T E : Type 0} (g : Ghosts W) (batches : List (List Transaction)) (P : Contents → Type 0) (old new : Stable W) (result : Result T E) : Type 0 where
  pub batches_are : OnOk result (HasBatches g new batches)
  pub stops : StandsOnly g old new.world P
  pub pages : LaysOnly g old.world new.world (λ contents. contents ≡ placed g old)

-- What a print leaves: the file as it reads, and the line printed behind what was before, or a part of it. No call of the disk
-- fails in it.
pub record PrintsBeside {W T E : Type 0} (g : Ghosts W) (line : List ℕ) (old new : Stable W) (result : Result T E) : Type 0 where
  pub same : new ≡ record old { world = new.world }
  pub prints : g.tells → Prints (g.printed old.world) line (g.printed new.world) result
  pub keeps : Keeps (g.image old.world) (g.pending old.world) (g.image new.world) (g.pending new.world)
  pub time : Elapses (g.clock old.world) (g.clock new.world) (g.left_since old.world) (g.left_since new.world) (During (g.image old.world) (g.pending old.world) no_place (g.printed old.world) line)
  pub cause : HasCause (g.print_faults old.world) (g.print_faults new.world) result
  pub disk : g.disk_faults new.world ≡ g.disk_faults old.world
