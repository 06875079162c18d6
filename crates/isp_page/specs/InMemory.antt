-- Pages in memory.
use Rattle.std.specs.Prelude.{ℕ, List, [], Result, true, ⊤}
use Rattle.isp_page.specs.State.{FileShape, MiniTransaction, none_begun}
use Rattle.isp_page.specs.Steps.{PrintsBy}
use Rattle.isp_page.specs.declared.fault.StoreFault.{StoreFault}

pub record MemState : Type 0 where
  -- the bytes of all pages
  pub bytes : List ℕ
  pub shape : FileShape
  pub mini : MiniTransaction
  pub printed : List ℕ
  -- for how many printed bytes memory is left
  pub room : ℕ
  pub print_faults : ℕ

-- pages that were just made, with these bytes
abbrev pub new_pages : ℕ → ℕ → ℕ → List ℕ → MemState
new_pages pages fanout room bytes = record {
  bytes = bytes;
  shape = record { pages = pages; fanout = fanout };
  mini = none_begun;
  printed = [];
  room = room;
  print_faults = 0;
}

-- pages in memory, which leave nothing at a stop, tell this piece
abbrev pub PrintsInMemory : List ℕ → MemState → MemState → Result ⊤ StoreFault → Type 0
PrintsInMemory = PrintsBy ⊤ (λ m. m.shape) (λ m. m.printed) (λ m left. ⊥) (λ m. 0) (λ m t left printed. ⊥) (λ m. 0) (λ m. m.print_faults) (λ m. true)
