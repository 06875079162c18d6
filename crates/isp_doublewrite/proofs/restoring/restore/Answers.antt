use Rattle.std.proofs.Common.{◌≡◌, ℕ, ◌≤◌, true, false, List, length, min, take, refl, sym, ◌∙◌, ap, subst, arith}
use Rattle.isp_disk.proofs.PhaseLaws.{reads_phase}
use Rattle.isp_disk.specs.Moments.{Agree, Image, no_place}
use Rattle.isp_disk.proofs.MomentLaws.{agree_on, chains, widens}
use Rattle.isp_doublewrite.specs.Lists.{IsNumbers, is_copy_list}
use Rattle.isp_doublewrite.specs.Places.{page_places}
use Rattle.isp_doublewrite.specs.Restores.{RestoreLeft, copied_pages}
use Rattle.isp_doublewrite.proofs.Leaving.{ended_by, over_by, unchanged, while_ending, while_laying}
use Rattle.isp_doublewrite.proofs.Numbered.{copies_taken, pages_taken, rule_back, rule_means}
use Rattle.isp_format.specs.Doublewrite.{HasCopies, area, copies, copies_from, copy_count, doublewrite_gate}
use Rattle.isp_format.specs.Ranges.{Range, puts}
use Rattle.isp_doublewrite.proofs.restoring.restore.Goals as goal

pub returns-in_err-read_gate-clause-stops : goal.returns-in_err-read_gate-clause-stops
returns-in_err-read_gate-clause-stops g c = λ tells.
    let w = g.W.World in
    let old = c.args.world.now in
    let before : Image = w.image old in
    let pages = c.args.pages in
    let P : Image → List ℕ → Type 0 = RestoreLeft pages before (w.printed old) in
    let s1 = c.read_gate.new.world in
    let first = reads_phase w old c.read_gate.new.world _ c.in_err-read_gate.ensures.reads in
    let l1 = widens w.clock w.left_since old s1 _ P first.leaves (λ left printed has. unchanged pages before (w.printed old) left printed has.0 has.1) in
    l1

pub returns-in_err-count-clause-stops : goal.returns-in_err-count-clause-stops
returns-in_err-count-clause-stops g c = λ tells.
    let w = g.W.World in
    let old = c.args.world.now in
    let before : Image = w.image old in
    let pages = c.args.pages in
    let P : Image → List ℕ → Type 0 = RestoreLeft pages before (w.printed old) in
    let s1 = c.read_gate.new.world in
    let first = reads_phase w old c.read_gate.new.world _ c.in_ok-read_gate.ensures.reads in
    let l1 = widens w.clock w.left_since old s1 _ P first.leaves (λ left printed has. unchanged pages before (w.printed old) left printed has.0 has.1) in
    let s2 = c.read_list.new.world in
    let second = reads_phase w c.read_gate.new.world c.read_list.new.world _ c.in_err-count.ensures.reads in
    let told2 = second.told ∙ first.told in
    let l2 = chains w.clock w.left_since old s1 s2 P l1 (widens w.clock w.left_since s1 s2 _ P second.leaves (λ left printed has. unchanged pages before (w.printed old) left printed (agree_on no_place before (w.image s1) left first.agrees has.0) (has.1 ∙ first.told))) in
    l2

pub returns-then-not-is_copy_list-clause-stops : goal.returns-then-not-is_copy_list-clause-stops
returns-then-not-is_copy_list-clause-stops g c = λ tells.
    let w = g.W.World in
    let old = c.args.world.now in
    let before : Image = w.image old in
    let pages = c.args.pages in
    let P : Image → List ℕ → Type 0 = RestoreLeft pages before (w.printed old) in
    let s1 = c.read_gate.new.world in
    let first = reads_phase w old c.read_gate.new.world _ c.in_ok-read_gate.ensures.reads in
    let l1 = widens w.clock w.left_since old s1 _ P first.leaves (λ left printed has. unchanged pages before (w.printed old) left printed has.0 has.1) in
    let s2 = c.read_list.new.world in
    let second = reads_phase w c.read_gate.new.world c.read_list.new.world _ c.in_ok-count.ensures.reads in
    let told2 = second.told ∙ first.told in
    let l2 = chains w.clock w.left_since old s1 s2 P l1 (widens w.clock w.left_since s1 s2 _ P second.leaves (λ left printed has. unchanged pages before (w.printed old) left printed (agree_on no_place before (w.image s1) left first.agrees has.0) (has.1 ∙ first.told))) in
    l2

pub returns-then-not-is_copy_list-clause-done : goal.returns-then-not-is_copy_list-clause-done
returns-then-not-is_copy_list-clause-done g c = λ tells.
    let w = g.W.World in
    let old = c.args.world.now in
    let before : Image = w.image old in
    let pages = c.args.pages in
    let P : Image → List ℕ → Type 0 = RestoreLeft pages before (w.printed old) in
    let s1 = c.read_gate.new.world in
    let first = reads_phase w old c.read_gate.new.world _ c.in_ok-read_gate.ensures.reads in
    let l1 = widens w.clock w.left_since old s1 _ P first.leaves (λ left printed has. unchanged pages before (w.printed old) left printed has.0 has.1) in
    let s2 = c.read_list.new.world in
    let second = reads_phase w c.read_gate.new.world c.read_list.new.world _ c.in_ok-count.ensures.reads in
    let told2 = second.told ∙ first.told in
    let l2 = chains w.clock w.left_since old s1 s2 P l1 (widens w.clock w.left_since s1 s2 _ P second.leaves (λ left printed has. unchanged pages before (w.printed old) left printed (agree_on no_place before (w.image s1) left first.agrees has.0) (has.1 ∙ first.told))) in
    let same1 : w.image s1 ≡ before = λ i place. sym (first.agrees place refl) i in
    let same2 : w.image s2 ≡ before = (λ i place. sym (second.agrees place refl) i) ∙ same1 in
    let gate : before doublewrite_gate ≡ 1 = sym (c.in_ok-read_gate.ensures.gate tells) ∙ c.if-branch-ne1.false in
    let numbers : List ℕ = c.read_list.new.numbers in
    let all : IsNumbers before numbers = subst (λ (im : Image). IsNumbers im numbers) same1 (c.in_ok-count.ensures.numbers tells) in
    let count : c.in_ok-count.count ≡ copy_count before = c.in_ok-count.ensures.count tells ∙ ap copy_count same1 in
    let tests : c.is_copy_list.result ≡ is_copy_list pages (copy_count before) (take (min (copy_count before) 64) numbers) = c.is_copy_list.ensures ∙ (λ i. is_copy_list pages (count i) (take (min (count i) 64) numbers)) in
    let fails : (true ≡ false) → ⊥ = λ e. absurd (cc) in
    ((λ has. fails (sym (rule_back pages before numbers gate all has) ∙ sym tests ∙ c.if-not-is_copy_list.true)), same2)

pub returns-in_err-lay-clause-stops : goal.returns-in_err-lay-clause-stops
returns-in_err-lay-clause-stops g c = λ tells.
    let w = g.W.World in
    let old = c.args.world.now in
    let before : Image = w.image old in
    let pages = c.args.pages in
    let P : Image → List ℕ → Type 0 = RestoreLeft pages before (w.printed old) in
    let s1 = c.read_gate.new.world in
    let first = reads_phase w old c.read_gate.new.world _ c.in_ok-read_gate.ensures.reads in
    let l1 = widens w.clock w.left_since old s1 _ P first.leaves (λ left printed has. unchanged pages before (w.printed old) left printed has.0 has.1) in
    let s2 = c.read_list.new.world in
    let second = reads_phase w c.read_gate.new.world c.read_list.new.world _ c.in_ok-count.ensures.reads in
    let told2 = second.told ∙ first.told in
    let l2 = chains w.clock w.left_since old s1 s2 P l1 (widens w.clock w.left_since s1 s2 _ P second.leaves (λ left printed has. unchanged pages before (w.printed old) left printed (agree_on no_place before (w.image s1) left first.agrees has.0) (has.1 ∙ first.told))) in
    let same1 : w.image s1 ≡ before = λ i place. sym (first.agrees place refl) i in
    let same2 : w.image s2 ≡ before = (λ i place. sym (second.agrees place refl) i) ∙ same1 in
    let gate : before doublewrite_gate ≡ 1 = sym (c.in_ok-read_gate.ensures.gate tells) ∙ c.if-branch-ne1.false in
    let numbers : List ℕ = c.read_list.new.numbers in
    let all : IsNumbers before numbers = subst (λ (im : Image). IsNumbers im numbers) same1 (c.in_ok-count.ensures.numbers tells) in
    let count : c.in_ok-count.count ≡ copy_count before = c.in_ok-count.ensures.count tells ∙ ap copy_count same1 in
    let tests : c.is_copy_list.result ≡ is_copy_list pages (copy_count before) (take (min (copy_count before) 64) numbers) = c.is_copy_list.ensures ∙ (λ i. is_copy_list pages (count i) (take (min (count i) 64) numbers)) in
    let has : HasCopies pages before = rule_means pages before numbers gate all (sym tests ∙ c.if-not-is_copy_list.false) in
    let small : c.in_ok-count.count ≤ 64 = omega (arith, count, (has gate).most) in
    let taken : List ℕ = take c.in_ok-count.count numbers in
    let are : taken ≡ copied_pages before = pages_taken before numbers c.in_ok-count.count gate all count small in
    let moved : (left : Image) → Agree (page_places taken) (w.image s2) left → Agree (page_places (copied_pages before)) before left = λ left agree place out. (λ i. sym same2 i place) ∙ agree place (ap (λ (ns : List ℕ). page_places ns place) are ∙ out) in
    let s3 = c.lay.new.world in
    let third = c.in_err-lay.ensures.wrote.phase in
    let l3 = chains w.clock w.left_since old s2 s3 P l2 (widens w.clock w.left_since s2 s3 _ P third.leaves (λ left printed left_has. while_laying pages before (w.printed old) left printed gate has (moved left left_has.0) (left_has.1 ∙ told2))) in
    l3

pub returns-in_err-set_gate-clause-stops : goal.returns-in_err-set_gate-clause-stops
returns-in_err-set_gate-clause-stops g c = λ tells.
    let w = g.W.World in
    let old = c.args.world.now in
    let before : Image = w.image old in
    let pages = c.args.pages in
    let P : Image → List ℕ → Type 0 = RestoreLeft pages before (w.printed old) in
    let s1 = c.read_gate.new.world in
    let first = reads_phase w old c.read_gate.new.world _ c.in_ok-read_gate.ensures.reads in
    let l1 = widens w.clock w.left_since old s1 _ P first.leaves (λ left printed has. unchanged pages before (w.printed old) left printed has.0 has.1) in
    let s2 = c.read_list.new.world in
    let second = reads_phase w c.read_gate.new.world c.read_list.new.world _ c.in_ok-count.ensures.reads in
    let told2 = second.told ∙ first.told in
    let l2 = chains w.clock w.left_since old s1 s2 P l1 (widens w.clock w.left_since s1 s2 _ P second.leaves (λ left printed has. unchanged pages before (w.printed old) left printed (agree_on no_place before (w.image s1) left first.agrees has.0) (has.1 ∙ first.told))) in
    let same1 : w.image s1 ≡ before = λ i place. sym (first.agrees place refl) i in
    let same2 : w.image s2 ≡ before = (λ i place. sym (second.agrees place refl) i) ∙ same1 in
    let gate : before doublewrite_gate ≡ 1 = sym (c.in_ok-read_gate.ensures.gate tells) ∙ c.if-branch-ne1.false in
    let numbers : List ℕ = c.read_list.new.numbers in
    let all : IsNumbers before numbers = subst (λ (im : Image). IsNumbers im numbers) same1 (c.in_ok-count.ensures.numbers tells) in
    let count : c.in_ok-count.count ≡ copy_count before = c.in_ok-count.ensures.count tells ∙ ap copy_count same1 in
    let tests : c.is_copy_list.result ≡ is_copy_list pages (copy_count before) (take (min (copy_count before) 64) numbers) = c.is_copy_list.ensures ∙ (λ i. is_copy_list pages (count i) (take (min (count i) 64) numbers)) in
    let has : HasCopies pages before = rule_means pages before numbers gate all (sym tests ∙ c.if-not-is_copy_list.false) in
    let small : c.in_ok-count.count ≤ 64 = omega (arith, count, (has gate).most) in
    let taken : List ℕ = take c.in_ok-count.count numbers in
    let are : taken ≡ copied_pages before = pages_taken before numbers c.in_ok-count.count gate all count small in
    let moved : (left : Image) → Agree (page_places taken) (w.image s2) left → Agree (page_places (copied_pages before)) before left = λ left agree place out. (λ i. sym same2 i place) ∙ agree place (ap (λ (ns : List ℕ). page_places ns place) are ∙ out) in
    let s3 = c.lay.new.world in
    let third = c.in_ok-lay.ensures.wrote.phase in
    let l3 = chains w.clock w.left_since old s2 s3 P l2 (widens w.clock w.left_since s2 s3 _ P third.leaves (λ left printed left_has. while_laying pages before (w.printed old) left printed gate has (moved left left_has.0) (left_has.1 ∙ told2))) in
    let told3 = third.told ∙ told2 in
    let placed : area (w.image s3) ≡ puts (copies before) (area before) = (c.in_ok-lay.ensures.placed tells).placed ∙ (λ i. puts (copies_from (same2 i) 0 (length taken)) (area (same2 i))) ∙ ap (λ (ranges : List Range). puts ranges (area before)) (copies_taken before numbers c.in_ok-count.count gate all.all count small) in
    let over = over_by pages before (w.image s3) gate has (moved (w.image s3) third.agrees) placed in
    let s4 = c.set_gate.new.world in
    let fourth = c.in_err-set_gate.ensures.wrote.phase in
    let l4 = chains w.clock w.left_since old s3 s4 P l3 (widens w.clock w.left_since s3 s4 _ P fourth.leaves (λ left printed left_has. while_ending pages before (w.image s3) (w.printed old) left printed gate has over left_has.0 (left_has.1 ∙ told3))) in
    l4

pub returns-clause-stops : goal.returns-clause-stops
returns-clause-stops g c = λ tells.
    let w = g.W.World in
    let old = c.args.world.now in
    let before : Image = w.image old in
    let pages = c.args.pages in
    let P : Image → List ℕ → Type 0 = RestoreLeft pages before (w.printed old) in
    let s1 = c.read_gate.new.world in
    let first = reads_phase w old c.read_gate.new.world _ c.in_ok-read_gate.ensures.reads in
    let l1 = widens w.clock w.left_since old s1 _ P first.leaves (λ left printed has. unchanged pages before (w.printed old) left printed has.0 has.1) in
    let s2 = c.read_list.new.world in
    let second = reads_phase w c.read_gate.new.world c.read_list.new.world _ c.in_ok-count.ensures.reads in
    let told2 = second.told ∙ first.told in
    let l2 = chains w.clock w.left_since old s1 s2 P l1 (widens w.clock w.left_since s1 s2 _ P second.leaves (λ left printed has. unchanged pages before (w.printed old) left printed (agree_on no_place before (w.image s1) left first.agrees has.0) (has.1 ∙ first.told))) in
    let same1 : w.image s1 ≡ before = λ i place. sym (first.agrees place refl) i in
    let same2 : w.image s2 ≡ before = (λ i place. sym (second.agrees place refl) i) ∙ same1 in
    let gate : before doublewrite_gate ≡ 1 = sym (c.in_ok-read_gate.ensures.gate tells) ∙ c.if-branch-ne1.false in
    let numbers : List ℕ = c.read_list.new.numbers in
    let all : IsNumbers before numbers = subst (λ (im : Image). IsNumbers im numbers) same1 (c.in_ok-count.ensures.numbers tells) in
    let count : c.in_ok-count.count ≡ copy_count before = c.in_ok-count.ensures.count tells ∙ ap copy_count same1 in
    let tests : c.is_copy_list.result ≡ is_copy_list pages (copy_count before) (take (min (copy_count before) 64) numbers) = c.is_copy_list.ensures ∙ (λ i. is_copy_list pages (count i) (take (min (count i) 64) numbers)) in
    let has : HasCopies pages before = rule_means pages before numbers gate all (sym tests ∙ c.if-not-is_copy_list.false) in
    let small : c.in_ok-count.count ≤ 64 = omega (arith, count, (has gate).most) in
    let taken : List ℕ = take c.in_ok-count.count numbers in
    let are : taken ≡ copied_pages before = pages_taken before numbers c.in_ok-count.count gate all count small in
    let moved : (left : Image) → Agree (page_places taken) (w.image s2) left → Agree (page_places (copied_pages before)) before left = λ left agree place out. (λ i. sym same2 i place) ∙ agree place (ap (λ (ns : List ℕ). page_places ns place) are ∙ out) in
    let s3 = c.lay.new.world in
    let third = c.in_ok-lay.ensures.wrote.phase in
    let l3 = chains w.clock w.left_since old s2 s3 P l2 (widens w.clock w.left_since s2 s3 _ P third.leaves (λ left printed left_has. while_laying pages before (w.printed old) left printed gate has (moved left left_has.0) (left_has.1 ∙ told2))) in
    let told3 = third.told ∙ told2 in
    let placed : area (w.image s3) ≡ puts (copies before) (area before) = (c.in_ok-lay.ensures.placed tells).placed ∙ (λ i. puts (copies_from (same2 i) 0 (length taken)) (area (same2 i))) ∙ ap (λ (ranges : List Range). puts ranges (area before)) (copies_taken before numbers c.in_ok-count.count gate all.all count small) in
    let over = over_by pages before (w.image s3) gate has (moved (w.image s3) third.agrees) placed in
    let s4 = c.set_gate.new.world in
    let fourth = c.in_ok-set_gate.ensures.wrote.phase in
    let l4 = chains w.clock w.left_since old s3 s4 P l3 (widens w.clock w.left_since s3 s4 _ P fourth.leaves (λ left printed left_has. while_ending pages before (w.image s3) (w.printed old) left printed gate has over left_has.0 (left_has.1 ∙ told3))) in
    l4

pub returns-clause-done : goal.returns-clause-done
returns-clause-done g c = λ tells.
    let w = g.W.World in
    let old = c.args.world.now in
    let before : Image = w.image old in
    let pages = c.args.pages in
    let P : Image → List ℕ → Type 0 = RestoreLeft pages before (w.printed old) in
    let s1 = c.read_gate.new.world in
    let first = reads_phase w old c.read_gate.new.world _ c.in_ok-read_gate.ensures.reads in
    let l1 = widens w.clock w.left_since old s1 _ P first.leaves (λ left printed has. unchanged pages before (w.printed old) left printed has.0 has.1) in
    let s2 = c.read_list.new.world in
    let second = reads_phase w c.read_gate.new.world c.read_list.new.world _ c.in_ok-count.ensures.reads in
    let told2 = second.told ∙ first.told in
    let l2 = chains w.clock w.left_since old s1 s2 P l1 (widens w.clock w.left_since s1 s2 _ P second.leaves (λ left printed has. unchanged pages before (w.printed old) left printed (agree_on no_place before (w.image s1) left first.agrees has.0) (has.1 ∙ first.told))) in
    let same1 : w.image s1 ≡ before = λ i place. sym (first.agrees place refl) i in
    let same2 : w.image s2 ≡ before = (λ i place. sym (second.agrees place refl) i) ∙ same1 in
    let gate : before doublewrite_gate ≡ 1 = sym (c.in_ok-read_gate.ensures.gate tells) ∙ c.if-branch-ne1.false in
    let numbers : List ℕ = c.read_list.new.numbers in
    let all : IsNumbers before numbers = subst (λ (im : Image). IsNumbers im numbers) same1 (c.in_ok-count.ensures.numbers tells) in
    let count : c.in_ok-count.count ≡ copy_count before = c.in_ok-count.ensures.count tells ∙ ap copy_count same1 in
    let tests : c.is_copy_list.result ≡ is_copy_list pages (copy_count before) (take (min (copy_count before) 64) numbers) = c.is_copy_list.ensures ∙ (λ i. is_copy_list pages (count i) (take (min (count i) 64) numbers)) in
    let has : HasCopies pages before = rule_means pages before numbers gate all (sym tests ∙ c.if-not-is_copy_list.false) in
    let small : c.in_ok-count.count ≤ 64 = omega (arith, count, (has gate).most) in
    let taken : List ℕ = take c.in_ok-count.count numbers in
    let are : taken ≡ copied_pages before = pages_taken before numbers c.in_ok-count.count gate all count small in
    let moved : (left : Image) → Agree (page_places taken) (w.image s2) left → Agree (page_places (copied_pages before)) before left = λ left agree place out. (λ i. sym same2 i place) ∙ agree place (ap (λ (ns : List ℕ). page_places ns place) are ∙ out) in
    let s3 = c.lay.new.world in
    let third = c.in_ok-lay.ensures.wrote.phase in
    let l3 = chains w.clock w.left_since old s2 s3 P l2 (widens w.clock w.left_since s2 s3 _ P third.leaves (λ left printed left_has. while_laying pages before (w.printed old) left printed gate has (moved left left_has.0) (left_has.1 ∙ told2))) in
    let told3 = third.told ∙ told2 in
    let placed : area (w.image s3) ≡ puts (copies before) (area before) = (c.in_ok-lay.ensures.placed tells).placed ∙ (λ i. puts (copies_from (same2 i) 0 (length taken)) (area (same2 i))) ∙ ap (λ (ranges : List Range). puts ranges (area before)) (copies_taken before numbers c.in_ok-count.count gate all.all count small) in
    let over = over_by pages before (w.image s3) gate has (moved (w.image s3) third.agrees) placed in
    let s4 = c.set_gate.new.world in
    let fourth = c.in_ok-set_gate.ensures.wrote.phase in
    let l4 = chains w.clock w.left_since old s3 s4 P l3 (widens w.clock w.left_since s3 s4 _ P fourth.leaves (λ left printed left_has. while_ending pages before (w.image s3) (w.printed old) left printed gate has over left_has.0 (left_has.1 ∙ told3))) in
    ended_by pages before (w.image s3) (w.image s4) gate has over fourth.agrees (c.in_ok-set_gate.ensures.written tells)
