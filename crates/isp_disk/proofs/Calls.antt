-- What upper crates need of calls in a row: a count that rose in one of them rose in all of them, and what was
-- printed by each of them is joined.
use Rattle.std.proofs.Common.{◌≡◌, inl, inr, ℕ, ◌+◌, ◌≤◌, List, ◌++◌, length, take, Result, Ok, subst, sym, ◌∙◌, ap, arith, append_assoc, length-append}
use Rattle.std.proofs.lemmas.List.{take-append-le}
use Rattle.std.proofs.Math.Seq.{take-append-add}
use Rattle.isp_disk.specs.Outside.{Rose, HasCause, PrintsPart}

-- a count that rose stays risen
pub rose_before : (before mid now : ℕ) → Rose before mid → mid ≤ now → Rose before now
rose_before before mid now (inl more) later = inl (omega arith)
rose_before before mid now (inr last) later = inr (omega arith)

-- a count that rose later rose since it was lower
pub rose_behind : (before mid now : ℕ) → before ≤ mid → Rose mid now → Rose before now
rose_behind before mid now earlier (inl more) = inl (omega arith)
rose_behind before mid now earlier (inr last) = inr last

-- the cause of a call is the cause of it and of one before it that came about
pub cause_joined : {T U E : Type 0} (before mid now : ℕ) (first : T) (result : Result U E) → HasCause {E = E} before mid (Ok first) → HasCause mid now result → HasCause before now result
cause_joined before mid now first result earlier cause = subst (λ (count : ℕ). HasCause count now result) earlier.steady cause

-- a part of the first piece is a part of both
pub part_of_first : (before now first second : List ℕ) → PrintsPart before first now → PrintsPart before (first ++ second) now
part_of_first before now first second part = record {
  count = part.count;
  within = omega (arith, part.within, length-append first second);
  printed = part.printed ∙ ap (λ (bytes : List ℕ). before ++ bytes) (sym (take-append-le part.count first second part.within));
}

-- the first piece and a part of the second are a part of both
pub part_of_second : (before mid now first second : List ℕ) → mid ≡ before ++ first → PrintsPart mid second now → PrintsPart before (first ++ second) now
part_of_second before mid now first second whole part = record {
  count = length first + part.count;
  within = omega (arith, part.within, length-append first second);
  printed = part.printed
      ∙ ap (λ (told : List ℕ). told ++ take part.count second) whole
      ∙ append_assoc before first (take part.count second)
      ∙ ap (λ (bytes : List ℕ). before ++ bytes) (sym (take-append-add first second part.count));
}
