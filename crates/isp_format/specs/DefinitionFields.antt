-- The sizes and places that the code has within the definitions of tables are those of the definitions.
use Rattle.std.specs.Prelude.{◌≡◌}
use Rattle.isp_format.specs.Definition.{bigint_kind, column_count_place, column_flag_place, column_kind_place, column_size, column_size_place, columns_place, definition_size, definitions_a_page, first_tree_place, geometry_kind, most_columns, most_definition, most_name, name_field_size, root_place, second_tree_place, varchar_kind}
use Rattle.isp_format.specs.declared.definition_fields.TheConstants.{BIGINT_KIND, COLUMNS_PLACE, COLUMN_BYTES, COLUMN_COUNT_PLACE, COLUMN_FLAG_PLACE, COLUMN_KIND_PLACE, COLUMN_SIZE_PLACE, DEFINITIONS_A_PAGE, DEFINITION_BYTES, FIRST_TREE_PLACE, GEOMETRY_KIND, MOST_COLUMNS, MOST_DEFINITION, MOST_NAME, NAME_FIELD_BYTES, ROOT_PLACE, SECOND_TREE_PLACE, VARCHAR_KIND}

pub record AreColumnFields : Type 0 where
  pub longest : MOST_NAME ≡ most_name
  pub name : NAME_FIELD_BYTES ≡ name_field_size
  pub column : COLUMN_BYTES ≡ column_size
  pub kind : COLUMN_KIND_PLACE ≡ column_kind_place
  pub size : COLUMN_SIZE_PLACE ≡ column_size_place
  pub flag : COLUMN_FLAG_PLACE ≡ column_flag_place
  pub bigint : BIGINT_KIND ≡ bigint_kind
  pub varchar : VARCHAR_KIND ≡ varchar_kind
  pub geometry : GEOMETRY_KIND ≡ geometry_kind

pub record AreTableFields : Type 0 where
  pub columns : MOST_COLUMNS ≡ most_columns
  pub size : DEFINITION_BYTES ≡ definition_size
  pub used : MOST_DEFINITION ≡ most_definition
  pub a_page : DEFINITIONS_A_PAGE ≡ definitions_a_page
  pub count : COLUMN_COUNT_PLACE ≡ column_count_place
  pub root : ROOT_PLACE ≡ root_place
  pub first : FIRST_TREE_PLACE ≡ first_tree_place
  pub second : SECOND_TREE_PLACE ≡ second_tree_place
  pub from : COLUMNS_PLACE ≡ columns_place

-- those of columns and of tables
pub record AreDefinitionFields : Type 0 where
  pub column : AreColumnFields
  pub table : AreTableFields
