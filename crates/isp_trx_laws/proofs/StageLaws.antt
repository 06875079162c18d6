-- The steps of a statement, on a file.
use Rattle.std.proofs.Common.{◌≡◌, ℕ, zero, suc, true, List, [], ◌∷◌, ◌++◌, drop, map, refl, sym, ◌∙◌, ap, subst}
use Rattle.std.specs.Prelude.{replicate, slice_set}
use Rattle.isp_format.specs.Ranges.{Contents}
use Rattle.isp_plain.specs.declared.refusal.Refusal.{Refusal}
use Rattle.isp_plain.specs.declared.value.Row.{Row}
use Rattle.isp_plain.specs.Tables.{Table}
use Rattle.isp_changes.specs.Changes.{RowChange, after_change, image_of}
use Rattle.isp_changes.specs.Stages.{Phase, Stage, after_step, failed, stage_at, step_of, undoing, with_empty}
use Rattle.isp_image.specs.Databases.{Database, FileImage, back_of, tables_of}
use Rattle.isp_undo.specs.Chains.{Chain}
use Rattle.isp_chained.specs.Chained.{alone, images_in, no_chains, old_of}
use Rattle.isp_chained.specs.Laws.{newer_of}
use Rattle.isp_chained.proofs.PlainLaws.{no_images}
use Rattle.isp_trx.specs.Writes.{Undid, Write, Wrote, change_of}
use Rattle.isp_trx_laws.specs.FileStages.{IsStageOf}
use Rattle.isp_trx_laws.specs.Laws.{StageBegins, StageCreates, StageUndoes, StageWrites}

pub stage_begins : StageBegins
stage_begins d phase = record { tables = refl; since = []; images = refl; noted = refl }

-- whatever comes next
pub stage_goes_on : (before : List FileImage) (d : Database) (stage : Stage) (phase : Phase) → IsStageOf before d stage → IsStageOf before d (stage_at stage.tables stage.noted phase)
stage_goes_on before d stage phase is = record { tables = is.tables; since = is.since; images = is.images; noted = is.noted }

-- it fails
pub stage_fails : (before : List FileImage) (d : Database) (tables : List Table) (noted : List RowChange) (refusal : Refusal) (phase : Phase) → IsStageOf before d (stage_at tables noted phase) → IsStageOf before d (failed tables noted refusal)
stage_fails before d tables [] refusal phase is = record { tables = is.tables; since = is.since; images = is.images; noted = is.noted }
stage_fails before d tables (image ∷ noted) refusal phase is = record { tables = is.tables; since = is.since; images = is.images; noted = is.noted }

-- ---- newer old rows are none where the slot alone has a chain

none_behind : (n k : ℕ) (chain : Chain) → images_in (drop (suc k) (slice_set (replicate n []) k chain)) ≡ []
none_behind zero k chain = refl
none_behind (suc n) zero chain = no_images n
none_behind (suc n) (suc k) chain = none_behind n k chain

alone_newer : (slot : ℕ) (chain : Chain) → newer_of slot (alone slot chain) ≡ []
unfolding no_chains
alone_newer slot chain = none_behind 32 slot chain

none_noted : (images : List FileImage) → map old_of images ≡ [] → images ≡ []
none_noted [] is = refl
none_noted (i ∷ images) is = cc

no_newer : (slot : ℕ) (chain : Chain) (newer : List FileImage) → map old_of newer ≡ newer_of slot (alone slot chain) → newer ≡ []
no_newer slot chain newer is = none_noted newer (is ∙ alone_newer slot chain)

-- so what is noted is the newest of all
pub written_images : (pages : ℕ) (new : Contents) (slot : ℕ) (chain : Chain) (w : Write) (row : Row) (d : Database) (s : Wrote pages new (alone slot chain) slot chain w row d) → s.after.images ≡ s.image ∷ d.images
written_images pages new slot chain w row d s =
    let none = no_newer slot chain s.newer s.newer_are in
    s.images ∙ (λ i. none i ++ s.image ∷ s.older) ∙ sym (ap (λ (images : List FileImage). s.image ∷ images) (s.was ∙ (λ i. none i ++ s.older)))

-- and so is what is put back
pub undone_images : (pages : ℕ) (new : Contents) (slot : ℕ) (chain : Chain) (d : Database) (s : Undid pages new (alone slot chain) slot chain d) → d.images ≡ s.image ∷ s.after.images
undone_images pages new slot chain d s =
    let none = no_newer slot chain s.newer s.newer_are in
    s.was ∙ (λ i. none i ++ s.image ∷ s.older) ∙ sym (ap (λ (images : List FileImage). s.image ∷ images) (s.images ∙ (λ i. none i ++ s.older)))

-- ---- written

pub stage_writes : StageWrites
stage_writes pages new slot chain before w row d statement stage made left is next s =
    subst (IsStageOf before s.after) (sym (ap (step_of statement true stage.tables stage.noted) next))
    (record {
      tables = ap (λ (tables : List Table). after_change tables (change_of w row)) is.tables ∙ sym s.now;
      since = s.image ∷ is.since;
      images = written_images pages new slot chain w row d s ∙ ap (λ (images : List FileImage). s.image ∷ images) is.images;
      noted = (λ i. image_of (is.tables i) (change_of w row) ∷ is.noted i) ∙ (λ i. sym s.back i ∷ map back_of is.since);
    })

-- ---- put back

one_change : (a b : RowChange) (xs ys : List RowChange) → a ∷ xs ≡ b ∷ ys → (a ≡ b) × (xs ≡ ys)
one_change a b xs ys same = (cc, cc)

one_image : (a b : FileImage) (xs ys : List FileImage) → a ∷ xs ≡ b ∷ ys → (a ≡ b) × (xs ≡ ys)
one_image a b xs ys same = (cc, cc)

none_one : (b : RowChange) (ys : List RowChange) → [] ≡ b ∷ ys → ⊥
none_one b ys same = cc

pub stage_undoes : StageUndoes
stage_undoes pages new slot chain before d statement room stage refusal image noted is next there s =
    subst (IsStageOf before s.after) (sym step)
    (stage_fails before s.after (after_change stage.tables image) noted refusal (undoing refusal) (by is.since is.images (sym there ∙ is.noted)))
  where
    step : after_step statement room stage ≡ failed (after_change stage.tables image) noted refusal
    step = (λ i. step_of statement room stage.tables (there i) (next i))

    by : (since : List FileImage) → d.images ≡ since ++ before → image ∷ noted ≡ map back_of since → IsStageOf before s.after (stage_at (after_change stage.tables image) noted (undoing refusal))
    by [] images are = absurd (none_one image noted (sym are))
    by (i ∷ since) images are =
        let change = one_change image (back_of i) noted (map back_of since) are in
        let newest = one_image s.image i s.after.images (since ++ before) (sym (undone_images pages new slot chain d s) ∙ images) in
        record {
          tables = (λ k. after_change (is.tables k) (change.0 k)) ∙ ap (λ (j : FileImage). after_change (tables_of d) (back_of j)) (sym newest.0) ∙ sym s.now;
          since = since;
          images = newest.1;
          noted = change.1;
        }

pub stage_creates : StageCreates
stage_creates pages new chains before def d statement stage is next s =
    subst (IsStageOf before s.after) (sym (ap (step_of statement true stage.tables stage.noted) next))
    (record {
      tables = ap (λ (tables : List Table). with_empty tables def.name def.schema) is.tables ∙ sym s.now;
      since = is.since;
      images = s.images ∙ is.images;
      noted = is.noted;
    })
