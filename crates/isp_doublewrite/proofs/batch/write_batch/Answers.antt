use Rattle.std.proofs.Common.{◌≡◌, ℕ, List, length, map, sym, ◌∙◌, subst, arith}
use Rattle.std.proofs.lemmas.List.{length-map}
use Rattle.isp_disk.specs.Moments.{Image}
use Rattle.isp_disk.proofs.MomentLaws.{chains, widens}
use Rattle.isp_doublewrite.specs.Batches.{BatchLeft, number_of, whole_page}
use Rattle.isp_doublewrite.proofs.InPlace.{numbers_of_pages}
use Rattle.isp_doublewrite.proofs.Leaving.{done_by, opened_by, placed_by, while_closing, while_opening, while_placing, while_staging}
use Rattle.isp_format.specs.Control.{pages_in}
use Rattle.isp_format.specs.Doublewrite.{IsCopyList}
use Rattle.isp_format.specs.Ranges.{Range}
use Rattle.isp_doublewrite.proofs.batch.write_batch.Goals as goal

pub returns-in_err-set_gate-clause-stops : goal.returns-in_err-set_gate-clause-stops
returns-in_err-set_gate-clause-stops g c = λ tells.
    let w = g.W.World in
    let old = c.args.world.now in
    let batch = c.args.batch.now in
    let numbers : List ℕ = map number_of batch in
    let ranges : List Range = map whole_page batch in
    let count = length batch in
    let before : Image = w.image old in
    let are : map (λ range. range.page) ranges ≡ numbers = numbers_of_pages batch in
    let long : length numbers ≡ count = length-map batch number_of in
    let good : IsCopyList (pages_in before) count (map (λ copy. copy.page) ranges) = subst (λ (ns : List ℕ). IsCopyList (pages_in before) count ns) (sym are) (record { some = omega (arith, c.requires.fits.some, long); most = omega (arith, c.requires.fits.most, long); below = (c.requires.takes tells).below; distinct = c.requires.fits.distinct }) in
    let P : Image → List ℕ → Type 0 = BatchLeft ranges numbers before (w.printed old) in
    let shut = (c.requires.takes tells).closed in
    let s1 = c.stage.new.world in
    let staging = c.in_ok-stage.ensures.wrote.phase in
    let l1 = widens w.clock w.left_since old s1 _ P staging.leaves (λ left printed has. while_staging ranges numbers before (w.printed old) left printed shut has.0 has.1) in
    let staged = c.in_ok-stage.ensures.staged tells in
    let s2 = c.set_gate.new.world in
    let opening = c.in_err-set_gate.ensures.wrote.phase in
    let l2 = chains w.clock w.left_since old s1 s2 P l1 (widens w.clock w.left_since s1 s2 _ P opening.leaves (λ left printed has. while_opening count ranges numbers before (w.image s1) (w.printed old) left printed good staged staging.agrees has.0 (has.1 ∙ staging.told))) in
    l2

pub returns-in_err-place-clause-stops : goal.returns-in_err-place-clause-stops
returns-in_err-place-clause-stops g c = λ tells.
    let w = g.W.World in
    let old = c.args.world.now in
    let batch = c.args.batch.now in
    let numbers : List ℕ = map number_of batch in
    let ranges : List Range = map whole_page batch in
    let count = length batch in
    let before : Image = w.image old in
    let are : map (λ range. range.page) ranges ≡ numbers = numbers_of_pages batch in
    let long : length numbers ≡ count = length-map batch number_of in
    let good : IsCopyList (pages_in before) count (map (λ copy. copy.page) ranges) = subst (λ (ns : List ℕ). IsCopyList (pages_in before) count ns) (sym are) (record { some = omega (arith, c.requires.fits.some, long); most = omega (arith, c.requires.fits.most, long); below = (c.requires.takes tells).below; distinct = c.requires.fits.distinct }) in
    let P : Image → List ℕ → Type 0 = BatchLeft ranges numbers before (w.printed old) in
    let shut = (c.requires.takes tells).closed in
    let s1 = c.stage.new.world in
    let staging = c.in_ok-stage.ensures.wrote.phase in
    let l1 = widens w.clock w.left_since old s1 _ P staging.leaves (λ left printed has. while_staging ranges numbers before (w.printed old) left printed shut has.0 has.1) in
    let staged = c.in_ok-stage.ensures.staged tells in
    let s2 = c.set_gate.new.world in
    let opening = c.in_ok-set_gate.ensures.wrote.phase in
    let l2 = chains w.clock w.left_since old s1 s2 P l1 (widens w.clock w.left_since s1 s2 _ P opening.leaves (λ left printed has. while_opening count ranges numbers before (w.image s1) (w.printed old) left printed good staged staging.agrees has.0 (has.1 ∙ staging.told))) in
    let is_open = opened_by count ranges numbers before (w.image s1) (w.image s2) good.most staged staging.agrees opening.agrees (c.in_ok-set_gate.ensures.written tells) in
    let told2 = opening.told ∙ staging.told in
    let s3 = c.place.new.world in
    let placing = c.in_err-place.ensures.wrote.phase in
    let l3 = chains w.clock w.left_since old s2 s3 P l2 (widens w.clock w.left_since s2 s3 _ P placing.leaves (λ left printed has. while_placing count ranges numbers before (w.image s2) (w.printed old) left printed good are is_open has.0 (has.1 ∙ told2))) in
    l3

pub returns-in_err-set_gate-2-clause-stops : goal.returns-in_err-set_gate-2-clause-stops
returns-in_err-set_gate-2-clause-stops g c = λ tells.
    let w = g.W.World in
    let old = c.args.world.now in
    let batch = c.args.batch.now in
    let numbers : List ℕ = map number_of batch in
    let ranges : List Range = map whole_page batch in
    let count = length batch in
    let before : Image = w.image old in
    let are : map (λ range. range.page) ranges ≡ numbers = numbers_of_pages batch in
    let long : length numbers ≡ count = length-map batch number_of in
    let good : IsCopyList (pages_in before) count (map (λ copy. copy.page) ranges) = subst (λ (ns : List ℕ). IsCopyList (pages_in before) count ns) (sym are) (record { some = omega (arith, c.requires.fits.some, long); most = omega (arith, c.requires.fits.most, long); below = (c.requires.takes tells).below; distinct = c.requires.fits.distinct }) in
    let P : Image → List ℕ → Type 0 = BatchLeft ranges numbers before (w.printed old) in
    let shut = (c.requires.takes tells).closed in
    let s1 = c.stage.new.world in
    let staging = c.in_ok-stage.ensures.wrote.phase in
    let l1 = widens w.clock w.left_since old s1 _ P staging.leaves (λ left printed has. while_staging ranges numbers before (w.printed old) left printed shut has.0 has.1) in
    let staged = c.in_ok-stage.ensures.staged tells in
    let s2 = c.set_gate.new.world in
    let opening = c.in_ok-set_gate.ensures.wrote.phase in
    let l2 = chains w.clock w.left_since old s1 s2 P l1 (widens w.clock w.left_since s1 s2 _ P opening.leaves (λ left printed has. while_opening count ranges numbers before (w.image s1) (w.printed old) left printed good staged staging.agrees has.0 (has.1 ∙ staging.told))) in
    let is_open = opened_by count ranges numbers before (w.image s1) (w.image s2) good.most staged staging.agrees opening.agrees (c.in_ok-set_gate.ensures.written tells) in
    let told2 = opening.told ∙ staging.told in
    let s3 = c.place.new.world in
    let placing = c.in_ok-place.ensures.wrote.phase in
    let l3 = chains w.clock w.left_since old s2 s3 P l2 (widens w.clock w.left_since s2 s3 _ P placing.leaves (λ left printed has. while_placing count ranges numbers before (w.image s2) (w.printed old) left printed good are is_open has.0 (has.1 ∙ told2))) in
    let placed = placed_by count ranges numbers before (w.image s2) (w.image s3) good.most is_open placing.agrees (c.in_ok-place.ensures.placed tells).placed in
    let told3 = placing.told ∙ told2 in
    let s4 = c.set_gate-2.new.world in
    let closing = c.in_err-set_gate-2.ensures.wrote.phase in
    let l4 = chains w.clock w.left_since old s3 s4 P l3 (widens w.clock w.left_since s3 s4 _ P closing.leaves (λ left printed has. while_closing count ranges numbers before (w.image s3) (w.printed old) left printed good placed.staged placed.areas placed.others has.0 (has.1 ∙ told3))) in
    l4

pub returns-clause-stops : goal.returns-clause-stops
returns-clause-stops g c = λ tells.
    let w = g.W.World in
    let old = c.args.world.now in
    let batch = c.args.batch.now in
    let numbers : List ℕ = map number_of batch in
    let ranges : List Range = map whole_page batch in
    let count = length batch in
    let before : Image = w.image old in
    let are : map (λ range. range.page) ranges ≡ numbers = numbers_of_pages batch in
    let long : length numbers ≡ count = length-map batch number_of in
    let good : IsCopyList (pages_in before) count (map (λ copy. copy.page) ranges) = subst (λ (ns : List ℕ). IsCopyList (pages_in before) count ns) (sym are) (record { some = omega (arith, c.requires.fits.some, long); most = omega (arith, c.requires.fits.most, long); below = (c.requires.takes tells).below; distinct = c.requires.fits.distinct }) in
    let P : Image → List ℕ → Type 0 = BatchLeft ranges numbers before (w.printed old) in
    let shut = (c.requires.takes tells).closed in
    let s1 = c.stage.new.world in
    let staging = c.in_ok-stage.ensures.wrote.phase in
    let l1 = widens w.clock w.left_since old s1 _ P staging.leaves (λ left printed has. while_staging ranges numbers before (w.printed old) left printed shut has.0 has.1) in
    let staged = c.in_ok-stage.ensures.staged tells in
    let s2 = c.set_gate.new.world in
    let opening = c.in_ok-set_gate.ensures.wrote.phase in
    let l2 = chains w.clock w.left_since old s1 s2 P l1 (widens w.clock w.left_since s1 s2 _ P opening.leaves (λ left printed has. while_opening count ranges numbers before (w.image s1) (w.printed old) left printed good staged staging.agrees has.0 (has.1 ∙ staging.told))) in
    let is_open = opened_by count ranges numbers before (w.image s1) (w.image s2) good.most staged staging.agrees opening.agrees (c.in_ok-set_gate.ensures.written tells) in
    let told2 = opening.told ∙ staging.told in
    let s3 = c.place.new.world in
    let placing = c.in_ok-place.ensures.wrote.phase in
    let l3 = chains w.clock w.left_since old s2 s3 P l2 (widens w.clock w.left_since s2 s3 _ P placing.leaves (λ left printed has. while_placing count ranges numbers before (w.image s2) (w.printed old) left printed good are is_open has.0 (has.1 ∙ told2))) in
    let placed = placed_by count ranges numbers before (w.image s2) (w.image s3) good.most is_open placing.agrees (c.in_ok-place.ensures.placed tells).placed in
    let told3 = placing.told ∙ told2 in
    let s4 = c.set_gate-2.new.world in
    let closing = c.in_ok-set_gate-2.ensures.wrote.phase in
    let l4 = chains w.clock w.left_since old s3 s4 P l3 (widens w.clock w.left_since s3 s4 _ P closing.leaves (λ left printed has. while_closing count ranges numbers before (w.image s3) (w.printed old) left printed good placed.staged placed.areas placed.others has.0 (has.1 ∙ told3))) in
    l4

pub returns-clause-done : goal.returns-clause-done
returns-clause-done g c = λ tells.
    let w = g.W.World in
    let old = c.args.world.now in
    let batch = c.args.batch.now in
    let numbers : List ℕ = map number_of batch in
    let ranges : List Range = map whole_page batch in
    let count = length batch in
    let before : Image = w.image old in
    let are : map (λ range. range.page) ranges ≡ numbers = numbers_of_pages batch in
    let long : length numbers ≡ count = length-map batch number_of in
    let good : IsCopyList (pages_in before) count (map (λ copy. copy.page) ranges) = subst (λ (ns : List ℕ). IsCopyList (pages_in before) count ns) (sym are) (record { some = omega (arith, c.requires.fits.some, long); most = omega (arith, c.requires.fits.most, long); below = (c.requires.takes tells).below; distinct = c.requires.fits.distinct }) in
    let P : Image → List ℕ → Type 0 = BatchLeft ranges numbers before (w.printed old) in
    let shut = (c.requires.takes tells).closed in
    let s1 = c.stage.new.world in
    let staging = c.in_ok-stage.ensures.wrote.phase in
    let l1 = widens w.clock w.left_since old s1 _ P staging.leaves (λ left printed has. while_staging ranges numbers before (w.printed old) left printed shut has.0 has.1) in
    let staged = c.in_ok-stage.ensures.staged tells in
    let s2 = c.set_gate.new.world in
    let opening = c.in_ok-set_gate.ensures.wrote.phase in
    let l2 = chains w.clock w.left_since old s1 s2 P l1 (widens w.clock w.left_since s1 s2 _ P opening.leaves (λ left printed has. while_opening count ranges numbers before (w.image s1) (w.printed old) left printed good staged staging.agrees has.0 (has.1 ∙ staging.told))) in
    let is_open = opened_by count ranges numbers before (w.image s1) (w.image s2) good.most staged staging.agrees opening.agrees (c.in_ok-set_gate.ensures.written tells) in
    let told2 = opening.told ∙ staging.told in
    let s3 = c.place.new.world in
    let placing = c.in_ok-place.ensures.wrote.phase in
    let l3 = chains w.clock w.left_since old s2 s3 P l2 (widens w.clock w.left_since s2 s3 _ P placing.leaves (λ left printed has. while_placing count ranges numbers before (w.image s2) (w.printed old) left printed good are is_open has.0 (has.1 ∙ told2))) in
    let placed = placed_by count ranges numbers before (w.image s2) (w.image s3) good.most is_open placing.agrees (c.in_ok-place.ensures.placed tells).placed in
    let told3 = placing.told ∙ told2 in
    let s4 = c.set_gate-2.new.world in
    let closing = c.in_ok-set_gate-2.ensures.wrote.phase in
    let l4 = chains w.clock w.left_since old s3 s4 P l3 (widens w.clock w.left_since s3 s4 _ P closing.leaves (λ left printed has. while_closing count ranges numbers before (w.image s3) (w.printed old) left printed good placed.staged placed.areas placed.others has.0 (has.1 ∙ told3))) in
    done_by count ranges numbers before (w.image s3) (w.image s4) placed closing.agrees (c.in_ok-set_gate-2.ensures.written tells)
