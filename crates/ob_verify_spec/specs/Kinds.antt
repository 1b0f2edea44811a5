-- The kinds of values in code: types without their permissions.
use Rattle.std.specs.Prelude.{◌≡◌, ℕ, zero, suc, ◌+◌, Option, Some, None, Bool, true, false, ◌==◌, ◌&&◌, ◌||◌, slice_get, if◌then◌else◌, ◌⊎◌}
use Rattle.std.specs.Option.{option_map_or, option_and_then}
use Rattle.ob_base.specs.declared.id.ContractId.{ContractId}
use Rattle.ob_table.specs.declared.seen.Kind.{Kind}
use Rattle.ob_table.specs.declared.seen.Kind.TheVariants as kind
use Rattle.ob_code.specs.declared.image.TypeCode.{TypeCode}
use Rattle.ob_code.specs.declared.image.TypeCode.TheVariants as type
use Rattle.ob_code.specs.declared.image.ParamCode.{ParamCode}
use Rattle.ob_code.specs.declared.image.ParamCode.TheVariants as param
use Rattle.ob_code.specs.declared.image.ContractCode.{ContractCode}
use Rattle.ob_code.specs.declared.image.Image.{Image}
use Rattle.ob_code.specs.Code.{is_interface}

-- the kind of a field's or a result's type
abbrev pub kind_of_type : TypeCode → Kind
kind_of_type type.Int = kind.Int
kind_of_type type.Bool = kind.Bool
kind_of_type type.Text = kind.Text
kind_of_type (type.Reference c p) = kind.Reference c

-- the kind of a parameter
abbrev pub kind_of_param : ParamCode → Kind
kind_of_param param.Int = kind.Int
kind_of_param param.Bool = kind.Bool
kind_of_param param.Text = kind.Text
kind_of_param (param.Reference c entry exit) = kind.Reference c

-- whether two kinds are one
abbrev pub same_kind : Kind → Kind → Bool
same_kind kind.Int kind.Int = true
same_kind kind.Bool kind.Bool = true
same_kind kind.Text kind.Text = true
same_kind (kind.Reference c) (kind.Reference d) = c.0 == d.0
same_kind x y = false

-- whether a contract implements the interface of a number
abbrev pub implements_number : ContractId → ContractCode → Bool
implements_number declared c = c.implements == declared.0 + 1

-- whether a reference to the first contract may stand where the second is wanted: it is that one, or implements it
abbrev pub fits_contract : Image → ContractId → ContractId → Bool
fits_contract m given wanted = given.0 == wanted.0 || option_map_or (implements_number wanted) (slice_get m.contracts given.0) false

-- whether a value of the first kind may stand where the second is wanted
abbrev pub fits : Image → Kind → Kind → Bool
fits m (kind.Reference c) (kind.Reference d) = fits_contract m c d
fits m given wanted = same_kind given wanted

-- whether a kind is that of a reference
abbrev pub is_reference : Kind → Bool
is_reference (kind.Reference c) = true
is_reference other = false

-- What kinds have in common. An interface counts here where it implements none: so it is its own interface and represents itself
-- alone, in each image, and in which order ways meet makes no difference.

-- whether a contract is an interface that implements none
abbrev pub is_plain_interface : ContractCode → Bool
is_plain_interface c = is_interface c && c.implements == 0

-- a reference to the interface of a number, where it is one that implements none
abbrev pub interface_at : Image → ℕ → Option Kind
interface_at m n =
    if option_map_or is_plain_interface (slice_get m.contracts n) false then Some (kind.Reference (record { 0 = n })) else None

-- the interface that is declared as implemented, by its number and 1; 0 represents none
abbrev pub interface_declared : Image → ℕ → Option Kind
interface_declared m zero = None
interface_declared m (suc n) = interface_at m n

-- the interface that a contract is or implements
abbrev pub interface_of_contract : Image → ContractId → ContractCode → Option Kind
interface_of_contract m c own = if is_plain_interface own then Some (kind.Reference c) else interface_declared m own.implements

-- the interface of a kind: of references to a contract the one that it is or implements, if there is one
abbrev pub interface_of : Image → Kind → Option Kind
interface_of m (kind.Reference c) = option_and_then (interface_of_contract m c) (slice_get m.contracts c.0)
interface_of m other = None

-- a kind belongs to another: it is that one, or that is its interface
abbrev pub BelongsTo : Image → Kind → Kind → Type 0
BelongsTo m x y = (x ≡ y) ⊎ (interface_of m x ≡ Some y)

-- the one kind, where two are the same
abbrev pub one_kind : Option Kind → Option Kind → Option Kind
one_kind (Some x) (Some y) = if same_kind x y then Some x else None
one_kind x y = None

-- what two kinds have in common: the kind, where they are the same, or else the interface of both
abbrev pub common : Image → Kind → Kind → Option Kind
common m x y = if same_kind x y then Some x else one_kind (interface_of m x) (interface_of m y)

-- what a slot is known to hold where two ways meet: what its kinds on both have in common
abbrev pub both_hold : Image → Option Kind → Option Kind → Option Kind
both_hold m (Some x) (Some y) = common m x y
both_hold m x y = None
