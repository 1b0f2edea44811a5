-- What the tree of the instances of a program is for.
use Rattle.std.specs.Prelude.{◌≡◌}
use Rattle.ob_resolve_spec.specs.Declarations.{Program}
use Rattle.ob_generic_spec.specs.TypeFaults.{HasNoTypeFault}
use Rattle.ob_generic_spec.specs.InstanceTrees.{instance_tree}

-- the program has no fault of type parameters and type arguments, and this is the tree of its instances
pub record HasInstanceTree (program : Program) (made : Program) : Type 0 where
  pub clean : HasNoTypeFault program
  pub is : made ≡ instance_tree program
