-- The numbers of the page rules, as a fault names them, and of the pages that have a place of their own.
use Rattle.std.specs.Prelude.{◌≡◌, ℕ}
use Rattle.isp_format.specs.declared.rules.TheConstants.{CATALOGUE_PAGE, CATALOGUE_RULE, CHAIN_RULE, CONTROL_RULE, COPIES_RULE, LOG_RULE, ROWS_RULE, RTREE_RULE, SPACE_PAGE, SPACE_RULE, TREE_RULE, UNDO_DIRECTORY_PAGE, UNDO_RULE, WALK_RULE}

-- the page that says which pages are free, the directory of undo chains, and the first page of the catalogue
abbrev pub space_number : ℕ
space_number = 0

abbrev pub undo_directory_number : ℕ
undo_directory_number = 1

abbrev pub catalogue_number : ℕ
catalogue_number = 2

-- the control block, the copies, the log
abbrev pub control_rule : ℕ
control_rule = 1

abbrev pub copies_rule : ℕ
copies_rule = 2

abbrev pub log_rule : ℕ
log_rule = 3

-- each page below the first one never used has its kind and its own number; the free chain has its stated length
abbrev pub space_rule : ℕ
space_rule = 4

abbrev pub chain_rule : ℕ
chain_rule = 5

-- the definitions of tables
abbrev pub catalogue_rule : ℕ
catalogue_rule = 6

-- clustered trees, the rows of their leaves, R-trees, undo chains
abbrev pub tree_rule : ℕ
tree_rule = 7

abbrev pub rows_rule : ℕ
rows_rule = 8

abbrev pub rtree_rule : ℕ
rtree_rule = 9

abbrev pub undo_rule : ℕ
undo_rule = 10

-- no rule of a file: a walk along its pages read more of them than it has
abbrev pub walk_rule : ℕ
walk_rule = 13

-- the numbers that the code has are those of the definitions
pub record AreRules : Type 0 where
  pub space_page : SPACE_PAGE ≡ space_number
  pub undo_page : UNDO_DIRECTORY_PAGE ≡ undo_directory_number
  pub catalogue_page : CATALOGUE_PAGE ≡ catalogue_number
  pub control : CONTROL_RULE ≡ control_rule
  pub copies : COPIES_RULE ≡ copies_rule
  pub log : LOG_RULE ≡ log_rule
  pub space : SPACE_RULE ≡ space_rule
  pub chain : CHAIN_RULE ≡ chain_rule
  pub catalogue : CATALOGUE_RULE ≡ catalogue_rule
  pub tree : TREE_RULE ≡ tree_rule
  pub rows : ROWS_RULE ≡ rows_rule
  pub rtree : RTREE_RULE ≡ rtree_rule
  pub undo : UNDO_RULE ≡ undo_rule
  pub walk : WALK_RULE ≡ walk_rule
