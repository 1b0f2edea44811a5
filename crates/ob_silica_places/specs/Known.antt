-- What is known of a value: its kind and the permission on it (Coblenz et al., TOPLAS 42(3), 2020, "Silica").
use Rattle.std.specs.Prelude.{ℕ, nat_eq, if◌then◌else◌}
use Rattle.ob_perm.specs.Permissions.{Permission, unowned, owned, shared}
use Rattle.ob_perm.specs.Masks.{permission_of}
use Rattle.ob_table.specs.declared.contract.ResolvedType.{ResolvedType}
use Rattle.ob_table.specs.declared.contract.ResolvedType.TheVariants.{Reference as TypedReference}
use Rattle.ob_table.specs.declared.seen.Kind.{Kind}
use Rattle.ob_table.specs.declared.seen.Kind.TheVariants as kind
use Rattle.ob_table_spec.specs.WellFormed.{kind_of_unary, kind_of_binary}
use Rattle.ob_silica.specs.declared.place.Constant.{Constant}
use Rattle.ob_silica.specs.declared.place.Constant.TheVariants as constant
use Rattle.ob_silica.specs.declared.term.SilicaOperator.{SilicaOperator}
use Rattle.ob_silica.specs.declared.term.SilicaOperator.TheVariants.{Unary, Binary}

-- what the permission rules know of a value: its kind and the permission on it, which is Unowned if it is no reference
pub record Known : Type 0 where
  pub kind : Kind
  pub permission : Permission

-- a kind and a permission, as what is known
abbrev pub known : Kind → Permission → Known
known kind permission = record { kind = kind; permission = permission }

-- the permission of a type, which is Unowned if it is no reference's
abbrev pub permission_of_type : ResolvedType → Permission
permission_of_type (TypedReference id p) = permission_of p
permission_of_type of = unowned

-- the kind of a constant
abbrev pub kind_of_constant : Constant → Kind
kind_of_constant (constant.Int z) = kind.Int
kind_of_constant (constant.Bool b) = kind.Bool
kind_of_constant (constant.Text bytes) = kind.Text

-- the kind of an operator's value
abbrev pub kind_of_operator : SilicaOperator → Kind
kind_of_operator (Unary operator) = kind_of_unary operator
kind_of_operator (Binary operator) = kind_of_binary operator

-- a field's permission as it counts under that of `this`: an owner's as Unowned where `this` is Unowned
abbrev pub unowned_under : Permission → Permission → Permission
unowned_under (owned a) p = p
unowned_under shared p = p
unowned_under unowned (owned a) = unowned
unowned_under unowned shared = shared
unowned_under unowned unowned = unowned

-- what stands at each number, with another thing at one of them
abbrev pub at : {A : Type 0} → (ℕ → A) → ℕ → A → ℕ → A
at xs k x = λ i. if nat_eq i k then x else xs i
