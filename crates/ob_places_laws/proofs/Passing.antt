-- Parameters of a call, `this` among them.
use Rattle.std.proofs.Common.{◌≡◌, true, false, Some, sym, ap, subst, ◌∙◌}
use Rattle.std.specs.Prelude.{All}
use Rattle.std.proofs.lemmas.Bool.{both_ways, true_from_ne_false}
use Rattle.std.proofs.lemmas.List.Elements.{All-map, All-cons}
use Rattle.ob_base.specs.declared.id.ContractId.{ContractId}
use Rattle.ob_base.specs.declared.permission.Perm.{Perm}
use Rattle.ob_perm.specs.Permissions.{owns, IsNumberedPermission}
use Rattle.ob_perm.specs.Masks.{permission_of}
use Rattle.ob_table.specs.Tables.{ClassTable, contract_at}
use Rattle.ob_table.specs.declared.contract.Contract.{Contract}
use Rattle.ob_table.specs.declared.contract.Param.{Param}
use Rattle.ob_table.specs.declared.contract.ResolvedType.{ResolvedType}
use Rattle.ob_table.specs.declared.contract.ResolvedType.TheVariants.{Int, Bool as BoolKind, Text, Reference}
use Rattle.ob_table.specs.declared.contract.Signature.{Signature}
use Rattle.ob_table_spec.specs.Conditions.{IsPermOn, IsParam, IsExitOf, IsSignature, IsTransaction}
use Rattle.ob_silica_places.specs.Known.{permission_of_type}
use Rattle.ob_silica_places.specs.Parameters.{Parameter, parameter_of, parameters, this_parameter, all_parameters}
use Rattle.ob_places_laws.specs.Passing.{IsParameter}
use Rattle.ob_places_laws.proofs.Tables.{there_is, there_from, exit_came}
use Rattle.ob_places_laws.proofs.Types.{type_numbered, perm_numbered}

pub parameter_is : (table : ClassTable) (p : Param) → IsParam table p → IsParameter table (parameter_of p)
parameter_is table p is = record { kind = is.kind; exit = is.exit }

pub parameters_are : (table : ClassTable) (c : Contract) (s : Signature) → IsSignature table c s
    → All (IsParameter table) (parameters s)
parameters_are table c s is =
    All-map (IsParameter table) parameter_of s.params (λ k d low. parameter_is table _ (is.params k d low))

pub this_is_parameter : (table : ClassTable) (id : ContractId) (c : Contract) (s : Signature)
    → contract_at table id ≡ Some c
    → IsTransaction table c s → IsParameter table (this_parameter id s)
this_is_parameter table id c s e is = record {
  kind = there_from (contract_at table id) (λ x. IsPermOn x s.entry) c e is.signature.entry;
  exit = (there_from (contract_at table id) (λ x. IsPermOn x s.exit) c e is.signature.exit, is.exit_may_follow);
}

pub all_are : (table : ClassTable) (id : ContractId) (c : Contract) (s : Signature) → contract_at table id ≡ Some c
    → IsTransaction table c s → All (IsParameter table) (all_parameters id s)
all_are table id c s e is =
    All-cons (IsParameter table) (this_parameter id s) (parameters s) (this_is_parameter table id c s e is)
    (parameters_are table c s is.signature)

-- What doesn't come as an owner's goes as it came.
pub parameter_as_came : (table : ClassTable) (p : Parameter) → IsParameter table p
    → owns (permission_of_type p.of) ≡ false
    → permission_of p.exit ≡ permission_of_type p.of
parameter_as_came table p is e = exit_came table p.of p.exit is.exit e

-- So what is an owner's at the exit came as one.
pub exit_owner_came : (table : ClassTable) (p : Parameter) → IsParameter table p → owns (permission_of p.exit) ≡ true
    → owns (permission_of_type p.of) ≡ true
exit_owner_came table p is e = true_from_ne_false (owns (permission_of_type p.of)) (λ none.
    both_ways (owns (permission_of p.exit)) (ap owns (parameter_as_came table p is none) ∙ none) e)

-- Its permissions speak of states that have numbers.
pub entry_numbered : (table : ClassTable) (p : Parameter) → IsParameter table p
    → IsNumberedPermission (permission_of_type p.of)
entry_numbered table p is = type_numbered table p.of is.kind

of_exit : (table : ClassTable) (of : ResolvedType) (exit : Perm) → IsExitOf table of exit
    → IsNumberedPermission (permission_of exit)
of_exit table Int exit is = subst (λ p. IsNumberedPermission (permission_of p)) (sym is) tt
of_exit table BoolKind exit is = subst (λ p. IsNumberedPermission (permission_of p)) (sym is) tt
of_exit table Text exit is = subst (λ p. IsNumberedPermission (permission_of p)) (sym is) tt
of_exit table (Reference id p) exit is =
    let c = there_is (contract_at table id) (λ x. IsPermOn x exit) is.0 in perm_numbered c.0 exit c.2

pub exit_numbered : (table : ClassTable) (p : Parameter) → IsParameter table p
    → IsNumberedPermission (permission_of p.exit)
exit_numbered table p is = of_exit table p.of p.exit is.exit
