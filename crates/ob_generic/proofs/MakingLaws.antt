-- A program has no fault or a first one, and where it has none its instances are what it needs.
use Rattle.std.proofs.Common.{◌≡◌, ◌⊎◌, inl, inr, List, ◌++◌, Option, Some, None, refl, sym, ◌∙◌, ap, subst}
use Rattle.std.specs.List.{flat_map}
use Rattle.ob_base.specs.declared.fault.ProgramFault.{ProgramFault}
use Rattle.ob_resolve_spec.specs.Declarations.{Program}
use Rattle.ob_resolve_spec.specs.Least.{least_from}
use Rattle.ob_generic_spec.specs.Instances.{needed_by, instances_of}
use Rattle.ob_generic_spec.specs.InstanceTrees.{plain_contracts, instance_contracts}
use Rattle.ob_generic_spec.specs.TypeFaults.{type_faults_of, least_type_fault, HasNoTypeFault, IsLeastTypeFaultOrNone, IsFirstTypeFault}
use Rattle.ob_generic_spec.specs.declared.instance.Instance.{Instance}
use Rattle.ob_generic_laws.proofs.Closed.{nothing_else}
use Rattle.ob_generic_laws.proofs.Least.{least_is}
use Rattle.ob_generic.specs.Instantiating.{HasInstanceTree}

some_injective : {A : Type 0} (a b : A) → Some a ≡ Some b → a ≡ b
some_injective a b e = cc

clean : (program : Program) (least : Option ProgramFault) → least ≡ least_type_fault program → least ≡ None
    → HasNoTypeFault program
clean program least is none = subst (IsLeastTypeFaultOrNone program) (sym is ∙ none) (least_is program)

pub told : (program : Program) (least : Option ProgramFault) (fault : ProgramFault) → least ≡ least_type_fault program
    → least ≡ Some fault → IsFirstTypeFault program fault
told program least fault is some = record {
  least = subst (IsLeastTypeFaultOrNone program) (sym is ∙ some) (least_is program);
  first = sym is ∙ some;
}

-- where there is no fault, the tree that is made of what is needed is that of the instances
pub made_of : (program made : Program) (least : Option ProgramFault) (known : List Instance)
    → least ≡ least_type_fault program → least ≡ None → known ≡ needed_by program (instances_of program)
    → made ≡ flat_map plain_contracts program ++ flat_map (instance_contracts program) known
    → HasInstanceTree program made
made_of program made least known is none needed e =
    let c = clean program least is none in
    record {
      clean = c;
      is = e ∙ ap (λ xs. flat_map plain_contracts program ++ flat_map (instance_contracts program) xs)
          (needed ∙ sym (nothing_else program c));
    }

pub never_both : (program : Program) (fault : ProgramFault) → IsFirstTypeFault program fault → ¬ (HasNoTypeFault program)
never_both program fault is none =
    let e : least_from None (type_faults_of program) ≡ None = ap (least_from None) none in
    let f = is.first in
    cc

either_of : (program : Program) (least : Option ProgramFault) → least ≡ least_type_fault program
    → HasNoTypeFault program ⊎ ((fault : ProgramFault) × IsFirstTypeFault program fault)
either_of program None is = inl (clean program None is refl)
either_of program (Some fault) is = inr (fault, told program (Some fault) fault is refl)

pub either : (program : Program) → HasNoTypeFault program ⊎ ((fault : ProgramFault) × IsFirstTypeFault program fault)
either program = either_of program (least_type_fault program) refl

pub one_first : (program : Program) (a b : ProgramFault) → IsFirstTypeFault program a → IsFirstTypeFault program b → a ≡ b
one_first program a b one other = some_injective a b (sym one.first ∙ other.first)
