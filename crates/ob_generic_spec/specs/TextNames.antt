-- That names in the types of a program are texts, as they are in each tree of a text (this project's own).
use Rattle.std.specs.Prelude.{IsTrue, All, ⊤}
use Rattle.ob_base.specs.Names.{is_text}
use Rattle.ob_tree.specs.Names.{Named, bare_name, name_with, Ref, ref_with}
use Rattle.ob_tree.specs.declared.name.PermNode.{PermNode}
use Rattle.ob_tree.specs.declared.name.PermNode.TheVariants.{Mode, States}
use Rattle.ob_resolve_spec.specs.Declarations.{Program}
use Rattle.ob_generic_spec.specs.Uses.{Use, types_in_contract}
use Rattle.ob_generic_spec.specs.Instances.{type_of_use}

-- the states of a permission
abbrev pub HasTextStates : PermNode → Type 0
HasTextStates (Mode mode span) = ⊤
HasTextStates (States states) = All (λ s. IsTrue (is_text s.name)) states

abbrev mutual
  -- the names in a type
  pub HasTextNames : Named → Type 0
  HasTextNames (bare_name name span) = IsTrue (is_text name)
  HasTextNames (name_with name argument span) = IsTrue (is_text name) × HasTextArgument argument

  -- the names in an argument
  pub HasTextArgument : Ref → Type 0
  HasTextArgument (ref_with of perm) = HasTextNames of × HasTextStates perm

-- the names in a type that stands somewhere
abbrev pub IsTextUse : Use → Type 0
IsTextUse u = HasTextNames (type_of_use u)

-- the names in all types of a program
abbrev pub HaveTextNames : Program → Type 0
HaveTextNames program = All (λ c. All IsTextUse (types_in_contract c)) program
