-- What holds where a call or a `new` derives.
use Rattle.std.proofs.Common.{List, ◌++◌}
use Rattle.std.specs.Prelude.{not}
use Rattle.ob_base.specs.Faults.{this_in_constructor, under_test}
use Rattle.ob_base.specs.declared.fault.Span.{Span}
use Rattle.ob_base.specs.declared.id.ContractId.{ContractId}
use Rattle.ob_table.specs.declared.contract.Signature.{Signature}
use Rattle.ob_silica.specs.declared.place.Operand.{Operand}
use Rattle.ob_silica_places.specs.Parameters.{parameters, all_parameters}
use Rattle.ob_silica_places.specs.Places.{field}
use Rattle.ob_flow_spec.specs.Premises.{Premise, one, each}
use Rattle.ob_flow_spec.specs.Contexts.{BodyFrame, constructs, field_count, entry_of_field, Context, is_held_as, maybe_there, TestedPlaces, tests_field}
use Rattle.ob_flow_spec.specs.Uses.{uses_place}
use Rattle.ob_flow_spec.specs.Binding.{read_of, reads_of, each_once, keeps_fields, gives_all}
use Rattle.ob_flow_spec.specs.Calling.{makes_object, all_reads, calls_object, reads_with_this, given_with_this, enters_field, calls_this}
use Rattle.ob_flow_laws.specs.Premises.{Hold}
use Rattle.ob_flow_laws.specs.Calling.{CanMake, CanCall, CanCallThis}
use Rattle.ob_flow_laws.proofs.Tests.{isnt, where_first}
use Rattle.ob_flow_laws.proofs.Premises.{both_hold, each_holds}
use Rattle.ob_flow_laws.proofs.Uses.{can_use}
use Rattle.ob_flow_laws.proofs.Binding.{each_is_once, fields_kept, can_give_all}

pub can_make : (b : BodyFrame) (ts : TestedPlaces) (g : Context) (s : Signature) (args : List Operand)
    → Hold (makes_object b ts g s args) → CanMake b ts g s args
can_make b ts g s args h =
    let r = both_hold (each_once (reads_of args) (parameters s)) (gives_all b ts g (reads_of args) (parameters s)) h in
    record {
      once = each_is_once (reads_of args) (parameters s) r.0;
      gives = can_give_all b ts g (reads_of args) (parameters s) r.1;
    }

pub can_call : (b : BodyFrame) (ts : TestedPlaces) (g : Context) (receiver : Operand) (contract : ContractId)
    (s : Signature) (args : List Operand) → Hold (calls_object b ts g receiver contract s args)
    → CanCall b ts g receiver contract s args
can_call b ts g receiver contract s args h =
    let rs = all_reads receiver args in
    let ps = all_parameters contract s in
    let last = both_hold (uses_place b g (read_of receiver) ++ each_once rs ps) (gives_all b ts g rs ps) h in
    let first = both_hold (uses_place b g (read_of receiver)) (each_once rs ps) last.0 in
    record {
      usable = can_use b g (read_of receiver) first.0;
      once = each_is_once rs ps first.1;
      gives = can_give_all b ts g rs ps last.1;
    }

-- what is asked up to the fields that are kept
abbrev to_kept : BodyFrame → Span → Signature → List Operand → List Premise
to_kept b at s args =
    one this_in_constructor at (not (constructs b))
    ++ each_once (reads_with_this at args) (all_parameters b.here s)
    ++ keeps_fields (reads_of args) (parameters s)

-- what is asked up to what is given
abbrev to_given : BodyFrame → TestedPlaces → Context → Span → Signature → List Operand → List Premise
to_given b ts g at s args =
    to_kept b at s args ++ one under_test at (not (tests_field ts))
    ++ gives_all b ts g (reads_with_this at args) (all_parameters b.here s)

pub can_call_this : (b : BodyFrame) (ts : TestedPlaces) (g : Context) (at : Span) (s : Signature)
    (args : List Operand) → Hold (calls_this b ts g at s args) → CanCallThis b ts g at s args
can_call_this b ts g at s args h =
    let rs = reads_with_this at args in
    let ps = all_parameters b.here s in
    let says = enters_field b g (given_with_this b g at s args) at s in
    let fields = both_hold (to_given b ts g at s args) (each (field_count b) says) h in
    let gives = both_hold (to_kept b at s args ++ one under_test at (not (tests_field ts))) (gives_all b ts g rs ps)
    fields.0 in
    let tests = both_hold (to_kept b at s args) _ gives.0 in
    let keeps = both_hold (each_once rs ps) (keeps_fields (reads_of args) (parameters s)) tests.0.1 in
    record {
      no_constructor = isnt (constructs b) tests.0.0;
      once = each_is_once rs ps keeps.0;
      keeps = fields_kept (reads_of args) (parameters s) keeps.1;
      untested = isnt (tests_field ts) tests.1.0;
      gives = can_give_all b ts g rs ps gives.1;
      enters = λ f lt. where_first (maybe_there b g f)
          (is_held_as (given_with_this b g at s args (field f)) (entry_of_field b s f))
          (each_holds (field_count b) says fields.1 f lt).0;
    }
