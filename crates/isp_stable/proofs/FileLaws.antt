-- A file between two calls, over any world.
use Rattle.std.proofs.Common.{◌≡◌, ◌⊎◌, ◌∙◌, inl, inr, ⊎_elim, ℕ, List, [], ◌∷◌, ◌++◌, Result, refl, sym, ap, subst}
use Rattle.isp_disk.specs.Moments.{Agree, Image, LeavesOnly, no_place}
use Rattle.isp_disk.specs.Phases.{LeftOfPhase, OnlyReads}
use Rattle.isp_disk.specs.declared.world.World.{Ghosts}
use Rattle.isp_disk.proofs.MomentLaws.{chains, widens}
use Rattle.isp_format.specs.Contents.{StandsFor, ranges_of}
use Rattle.isp_doublewrite.specs.Places.{batch_places}
use Rattle.isp_format.specs.Control.{IsControl, fanout_in, pages_in}
use Rattle.isp_format.specs.Doublewrite.{HasCopies, doublewrite_gate, laid}
use Rattle.isp_format.specs.Log.{IsLog, Transaction, log_of}
use Rattle.isp_format.specs.Ranges.{Contents, Range, cover, puts}
use Rattle.isp_redo.specs.Changes.{HasLogOf}
use Rattle.isp_stable.specs.File.{HasBatches, IsFile, KeepsShape, LaysOnly, ReadsStable, StandsAs, StandsOnly, flushed, placed}
use Rattle.isp_stable.specs.declared.stable.Stable.{Stable}
use Rattle.isp_stable.proofs.ImageLaws.{laid_closed, stands_closed}
use Rattle.isp_stable.proofs.Moves.{HasShape, IsBeside, left_by_batch, left_by_log, puts_more, shape_by_batch, shape_by_log}

module _ {W : Type 0} (g : Ghosts W) where
  -- the file stands for its contents
  pub stands : (s : Stable W) (file : IsFile g s) → StandsFor (g.image s.world) (flushed g s file.batches)
  stands s file = stands_closed (g.image s.world) file.batches s.log.end file.control file.closed
      (subst (λ (pages : ℕ). IsLog pages (log_of (g.image s.world)) 0 file.batches s.log.end) (sym file.pages) file.log)

  -- its shape is read from its image
  pub shape : (s : Stable W) → IsFile g s → HasShape s.pages s.fanout (g.image s.world)
  shape s file = record { pages_are = file.pages; fanout_are = file.fanout }

  -- so does an image with the same bytes
  pub stands_now : (s : Stable W) (file : IsFile g s) (left : Image) → ((place : ℕ) → g.image s.world place ≡ left place) → StandsAs g s (λ contents. contents ≡ flushed g s file.batches) left
  stands_now s file left same =
      let is : g.image s.world ≡ left = λ i place. same place i in
      subst (λ (image : Image). StandsAs g s (λ contents. contents ≡ flushed g s file.batches) image) is
      (record { contents = flushed g s file.batches; stands = stands s file; has = refl; pages = file.pages; fanout = file.fanout })

  -- calls that write nothing leave what the file stands for
  pub reads_only : (s : Stable W) (file : IsFile g s) (new : W) → LeavesOnly g.clock g.left_since s.world new (LeftOfPhase g s.world no_place)
      → StandsOnly g s new (λ contents. contents ≡ flushed g s file.batches)
  reads_only s file new leaves = widens g.clock g.left_since s.world new _ _ leaves (λ left printed has. (stands_now s file left (λ place. has.0 place refl), has.1))

  -- and the pages as they stand
  pub reads_pages : (s : Stable W) → IsFile g s → (new : W) → LeavesOnly g.clock g.left_since s.world new (LeftOfPhase g s.world no_place)
      → LaysOnly g s.world new (λ contents. contents ≡ placed g s)
  reads_pages s file new leaves = widens g.clock g.left_since s.world new _ _ leaves
      (λ left printed has.
      let same : left ≡ g.image s.world = λ i place. sym (has.0 place refl) i in
      ap laid same ∙ laid_closed (g.image s.world) file.closed)

  -- a call that reads the world alone reads the file alone
  pub reads_stable : {T E : Type 0} (old new : Stable W) (result : Result T E) → KeepsShape old new → new.log ≡ old.log → OnlyReads g old.world new.world result → ReadsStable g old new result
  reads_stable old new result kept log reads = record {
    shape = kept;
    log = log;
    reads = reads;
    stops = λ tells file. reads_only old file new.world reads.leaves;
    pages = λ tells file. reads_pages old file new.world reads.leaves;
  }

  -- one run behind another
  pub stands_on : (old mid : Stable W) (new : W) (P : Contents → Type 0) → KeepsShape old mid → g.printed mid.world ≡ g.printed old.world → StandsOnly g old mid.world P → StandsOnly g mid new P → StandsOnly g old new P
  stands_on old mid new P kept same_printed first second = chains g.clock g.left_since old.world mid.world new _ first
      (widens g.clock g.left_since mid.world new _ _ second
      (λ left printed has. (record { contents = has.0.contents; stands = has.0.stands; has = has.0.has; pages = has.0.pages ∙ kept.pages; fanout = has.0.fanout ∙ kept.fanout }, has.1 ∙ same_printed)))

  -- a weaker property
  pub stands_weaker : (old : Stable W) (new : W) (P Q : Contents → Type 0) → ((contents : Contents) → P contents → Q contents) → StandsOnly g old new P → StandsOnly g old new Q
  stands_weaker old new P Q weaker only = widens g.clock g.left_since old.world new _ _ only
      (λ left printed has. (record { contents = has.0.contents; stands = has.0.stands; has = weaker has.0.contents has.0.has; pages = has.0.pages; fanout = has.0.fanout }, has.1))

  -- a log that is emptied where all that it has stands in its pages' places
  pub stands_emptied : (old : Stable W) (new : W) (contents : Contents) → contents ≡ placed g old → StandsOnly g old new (λ left. (left ≡ contents) ⊎ (left ≡ placed g old)) → StandsOnly g old new (λ left. left ≡ contents)
  stands_emptied old new contents is = stands_weaker old new _ _ (λ left either. ⊎_elim (λ e. e) (λ e. e ∙ sym is) either)

  -- an image with one of two logs stands for the contents of that log
  pub stands_by_log : (s : Stable W) (file : IsFile g s) (batches_now : List (List Transaction)) (end_now : ℕ) (left : Image) → HasLogOf s.pages (g.image s.world) (record { batches = file.batches; end = s.log.end }) (record { batches = batches_now; end = end_now }) left
      → StandsAs g s (λ contents. (contents ≡ flushed g s file.batches) ⊎ (contents ≡ flushed g s batches_now)) left
  stands_by_log s file batches_now end_now left has =
      let is = left_by_log s.pages (g.image s.world) file.batches batches_now s.log.end end_now left file.control file.pages file.closed has in
      let its = shape_by_log s.pages s.fanout (g.image s.world) left has.others (shape s file) in
      record { contents = is.0; stands = is.1; has = is.2; pages = its.pages_are; fanout = its.fanout_are }

  -- where the other log has one mini-transaction more, these are the contents with its ranges put into them
  pub more_as : (s : Stable W) (batches : List (List Transaction)) (ranges : Transaction) (left : Image)
      → StandsAs g s (λ contents. (contents ≡ flushed g s batches) ⊎ (contents ≡ flushed g s (batches ++ (ranges ∷ []) ∷ []))) left
      → StandsAs g s (λ contents. (contents ≡ flushed g s batches) ⊎ (contents ≡ puts ranges (flushed g s batches))) left
  more_as s batches ranges left is = record {
    contents = is.contents;
    stands = is.stands;
    has = ⊎_elim (λ e. inl e) (λ e. inr (e ∙ puts_more batches ranges (placed g s))) is.has;
    pages = is.pages;
    fanout = is.fanout;
  }

  -- an image that a stop within a batch leaves, where the log covers what the batch changes
  pub stands_by_batch : (s : Stable W) (file : IsFile g s) (ranges : List Range) (numbers : List ℕ) (left : Image) → Agree (cover (ranges_of file.batches)) (placed g s) (puts ranges (placed g s))
      → HasCopies (pages_in (g.image s.world)) left → (laid left ≡ placed g s) ⊎ (laid left ≡ puts ranges (placed g s)) → Agree (batch_places numbers) (g.image s.world) left
      → StandsAs g s (λ contents. contents ≡ flushed g s file.batches) left
  stands_by_batch s file ranges numbers left covered copies whole others =
      let image : Image = g.image s.world in
      let its = shape_by_batch numbers s.pages s.fanout image left others (shape s file) in
      record {
        contents = flushed g s file.batches;
        stands = left_by_batch image file.batches s.log.end ranges numbers left file.control file.closed
            (subst (λ (pages : ℕ). IsLog pages (log_of image) 0 file.batches s.log.end) (sym file.pages) file.log) covered copies whole others;
        has = refl;
        pages = its.pages_are;
        fanout = its.fanout_are;
      }

  -- all but the log
  pub beside : (s : Stable W) → IsFile g s → IsBeside s.pages s.fanout (g.image s.world)
  beside s file = record { control = file.control; pages_are = file.pages; fanout_is = file.fanout; closed = file.closed }

  -- a file out of its parts
  pub file_of : (s : Stable W) (batches : List (List Transaction)) → IsBeside s.pages s.fanout (g.image s.world) → IsLog s.pages (log_of (g.image s.world)) 0 batches s.log.end → HasBatches g s batches
  file_of s batches is log = (record { control = is.control; pages = is.pages_are; fanout = is.fanout_is; closed = is.closed; batches = batches; log = log }, refl)

  -- the file after calls that wrote nothing
  pub file_same : (s t : Stable W) (file : IsFile g s) → g.image t.world ≡ g.image s.world → t.log ≡ s.log → KeepsShape s t → HasBatches g t file.batches
  file_same s t file image log kept =
      let is = beside s file in
      let end : t.log.end ≡ s.log.end = λ i. (log i).end in
      file_of t file.batches (record {
        control = subst IsControl (sym image) is.control;
        pages_are = ap pages_in image ∙ is.pages_are ∙ sym kept.pages;
        fanout_is = ap fanout_in image ∙ is.fanout_is ∙ sym kept.fanout;
        closed = λ one. is.closed ((λ i. sym image i doublewrite_gate) ∙ one);
      })
      (subst (λ (pages : ℕ). IsLog pages (log_of (g.image t.world)) 0 file.batches t.log.end) (sym kept.pages)
      (subst (λ (im : Image). IsLog s.pages (log_of im) 0 file.batches t.log.end) (sym image)
      (subst (λ (n : ℕ). IsLog s.pages (log_of (g.image s.world)) 0 file.batches n) (sym end) file.log)))
