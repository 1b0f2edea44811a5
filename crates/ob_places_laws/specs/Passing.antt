-- What a class table promises of the parameters of a call, `this` among them (this project's own).
use Rattle.ob_table.specs.Tables.{ClassTable}
use Rattle.ob_table_spec.specs.Conditions.{IsType, IsExitOf}
use Rattle.ob_silica_places.specs.Parameters.{Parameter}

-- a parameter, or `this`: its type, and the permission at the exit
pub record IsParameter (table : ClassTable) (p : Parameter) : Type 0 where
  pub kind : IsType table p.of
  pub exit : IsExitOf table p.of p.exit
