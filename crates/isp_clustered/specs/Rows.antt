-- The rows of a tree as a list, by the words of isp_cells.
pub use Rattle.isp_cells.specs.Rows.{IsBelowAll, Rises, bytes_in, below, from, first_at, without_first_at, find, behind, one_or_none}
pub use Rattle.isp_cells.specs.Rows.{exchanged, stands, slot_holds, slot_less, is_marked, has_key, may_put, can_rewrite, can_drop}
pub use Rattle.isp_cells.specs.Rows.{new_row, rewritten, with_mark, is_fitting, with_put, with_row, marked_at, without}
