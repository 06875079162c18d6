-- The sizes and places that the code has are those of the definitions.
use Rattle.std.specs.Prelude.{◌≡◌}
use Rattle.isp_format.specs.Control.{control_size, made_gate, most_fanout}
use Rattle.isp_format.specs.Definition.{most_tables}
use Rattle.isp_format.specs.Doublewrite.{count_place, doublewrite_gate, list_size, most_copies}
use Rattle.isp_format.specs.Empty.{first_fresh}
use Rattle.isp_format.specs.Kinds.{content_place, free_kind, inner_kind, leaf_kind, rtree_kind, undo_kind}
use Rattle.isp_format.specs.Leaf.{length_place, mark_place, slot_place, stored_head}
use Rattle.isp_format.specs.Log.{batch_head, count_size, log_bytes, log_place, range_head}
use Rattle.isp_format.specs.Ranges.{page_bytes}
use Rattle.isp_format.specs.declared.kinds.TheConstants.{FREE_KIND, INNER_KIND, LEAF_KIND, RTREE_KIND, UNDO_KIND}
use Rattle.isp_format.specs.declared.sizes.TheConstants.{BATCH_HEAD, CONTENT_PLACE, CONTROL_BYTES, COUNT_BYTES, COUNT_PLACE, DOUBLEWRITE_GATE, FIRST_FRESH, LENGTH_PLACE, LIST_BYTES, LOG_BYTES, LOG_PLACE, MADE_GATE, MARK_PLACE, MOST_COPIES, MOST_FANOUT, MOST_TABLES, PAGE_BYTES, RANGE_HEAD, SLOT_PLACE, STORED_HEAD}

pub record AreFileSizes : Type 0 where
  pub page : PAGE_BYTES ≡ page_bytes
  pub control : CONTROL_BYTES ≡ control_size
  pub made : MADE_GATE ≡ made_gate
  pub fanout : MOST_FANOUT ≡ most_fanout
  pub gate : DOUBLEWRITE_GATE ≡ doublewrite_gate
  pub count : COUNT_PLACE ≡ count_place
  pub list : LIST_BYTES ≡ list_size
  pub copies : MOST_COPIES ≡ most_copies

pub record AreLogSizes : Type 0 where
  pub place : LOG_PLACE ≡ log_place
  pub bytes : LOG_BYTES ≡ log_bytes
  pub batch : BATCH_HEAD ≡ batch_head
  pub count : COUNT_BYTES ≡ count_size
  pub range : RANGE_HEAD ≡ range_head

pub record ArePageSizes : Type 0 where
  pub content : CONTENT_PLACE ≡ content_place
  pub fresh : FIRST_FRESH ≡ first_fresh
  pub tables : MOST_TABLES ≡ most_tables
  pub head : STORED_HEAD ≡ stored_head
  pub mark : MARK_PLACE ≡ mark_place
  pub slot : SLOT_PLACE ≡ slot_place
  pub row : LENGTH_PLACE ≡ length_place
  pub free : FREE_KIND ≡ free_kind
  pub leaf : LEAF_KIND ≡ leaf_kind
  pub inner : INNER_KIND ≡ inner_kind
  pub rtree : RTREE_KIND ≡ rtree_kind
  pub undo : UNDO_KIND ≡ undo_kind

-- those of the file, of the log and of a page
pub record AreSizes : Type 0 where
  pub file : AreFileSizes
  pub log : AreLogSizes
  pub page : ArePageSizes
