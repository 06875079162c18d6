-- Page 0 as the numbers that stand in it.
use Rattle.std.specs.Prelude.{ℕ, List}
use Rattle.isp_format.specs.Header.{number_in}
use Rattle.isp_format.specs.Space.{SpacePage}
use Rattle.isp_format.specs.declared.space_fields.SpaceNumbers.{SpaceNumbers}

abbrev pub page_in : SpaceNumbers → SpacePage
page_in f = record { free_head = f.free_head; free_count = f.free_count; fresh = f.fresh; tables = f.tables; entries = f.entries; bytes = f.bytes }

-- the numbers that stand in the places of page 0's fields
abbrev pub numbers_in : List ℕ → SpacePage
numbers_in bytes = record {
  free_head = number_in 4 bytes 64;
  free_count = number_in 4 bytes 68;
  fresh = number_in 4 bytes 72;
  tables = number_in 4 bytes 76;
  entries = number_in 8 bytes 80;
  bytes = number_in 8 bytes 88;
}
