-- Lists of fields of two images, compared (this project's own).
use Rattle.std.specs.Prelude.{Bool, List}
use Rattle.std.specs.Cmp.Lexicographic.{pointwise}
use Rattle.ob_code.specs.declared.image.FieldCode.{FieldCode}
use Rattle.ob_code.specs.declared.image.Image.{Image}
use Rattle.ob_code_table.specs.ImageTables.{field_of_code, table_of_image}
use Rattle.ob_upgrade_spec.specs.Matching.{is_same_field}

-- whether two fields are the same
abbrev pub same_field_code : Image → Image → FieldCode → FieldCode → Bool
same_field_code old new f g = is_same_field (table_of_image old) (table_of_image new) (field_of_code f) (field_of_code g)

-- whether fields are, in their order
abbrev pub same_field_codes : Image → Image → List FieldCode → List FieldCode → Bool
same_field_codes old new fs gs = pointwise (same_field_code old new) fs gs
