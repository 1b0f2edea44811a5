-- Where a run finds its values, and what is noted there (Coblenz et al., TOPLAS 42(3), 2020, "Silica", where a
-- reference carries its permission; slots and notes are this project's own).
use Rattle.std.specs.Prelude.{ℕ, Option, Some, None, option_map}
use Rattle.ob_perm.specs.Permissions.{Permission, unowned}
use Rattle.ob_table.specs.declared.seen.Kind.{Kind}
use Rattle.ob_heap_spec.specs.Values.{Value, int_value, bool_value, text_value, referred}
use Rattle.ob_silica.specs.declared.place.Constant.{Constant}
use Rattle.ob_silica.specs.declared.place.Constant.TheVariants as constant
use Rattle.ob_silica_places.specs.Known.{Known, kind_of_constant, known}

-- What is noted.

-- a value and what is noted of it; no step tests a noted permission
pub record Cell : Type 0 where
  pub value : Value
  pub note : Known

-- a value with its kind and permission
abbrev pub cell : Value → Kind → Permission → Cell
cell value kind permission = record { value = value; note = known kind permission }

-- a value that is no reference
abbrev pub plain_cell : Value → Kind → Cell
plain_cell value kind = cell value kind unowned

-- the same value with another permission
abbrev pub noted : Permission → Cell → Cell
noted permission c = record { value = c.value; note = known c.note.kind permission }

-- the permission on a value, which is Unowned where there is none
abbrev pub permission_in : Option Cell → Permission
permission_in None = unowned
permission_in (Some c) = c.note.permission

-- the object to which a cell's value refers, if it is a reference
abbrev pub object_in : Option Cell → Option ℕ
object_in None = None
object_in (Some c) = referred c.value

-- the value in a cell
abbrev pub value_in : Option Cell → Option Value
value_in cells = option_map (λ (c : Cell). c.value) cells

-- Values of the text, and of operators.

-- the value that a constant is
abbrev pub value_of_constant : Constant → Value
value_of_constant (constant.Int z) = int_value z
value_of_constant (constant.Bool b) = bool_value b
value_of_constant (constant.Text bytes) = text_value bytes

-- a constant as a cell
abbrev pub constant_cell : Constant → Cell
constant_cell value = plain_cell (value_of_constant value) (kind_of_constant value)
