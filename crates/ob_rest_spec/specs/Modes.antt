-- How a place holds its object, without the states (Coblenz et al., TOPLAS 42(3), 2020, "Permissions").
use Rattle.std.specs.Prelude.{Bool, true, false}
use Rattle.ob_base.specs.declared.permission.Mode.{Mode}
use Rattle.ob_base.specs.declared.permission.Mode.TheVariants.{Owned, Shared, Unowned}

-- whether it is the owner's mode
abbrev pub is_owned : Mode → Bool
is_owned Owned = true
is_owned Shared = false
is_owned Unowned = false

-- whether it is the mode of one of those that share the object
abbrev pub is_shared : Mode → Bool
is_shared Owned = false
is_shared Shared = true
is_shared Unowned = false

-- whether it is the mode of one that has no say
abbrev pub is_unowned : Mode → Bool
is_unowned Owned = false
is_unowned Shared = false
is_unowned Unowned = true
