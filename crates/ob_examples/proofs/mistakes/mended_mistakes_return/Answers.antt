-- Each answer is computed.
use Rattle.std.proofs.Common.{refl}
use Rattle.ob_perm.specs.States.{states_max}
use Rattle.ob_perm.specs.Masks.{states_of}
use Rattle.ob_examples.proofs.mistakes.mended_mistakes_return.Goals as goal

pub returns : goal.returns
unfolding states_max states_of
returns c = record {
  field_is_lacking = refl;
  field_is_unset = refl;
  assigned_field_is_lacking = refl;
  given_field_is_lacking = refl;
  value_is_missing = refl;
  new_object_lacks_value = refl;
  new_object_lacks_state = refl;
  receiver_is_outside = refl;
  receiver_in_body_is_outside = refl;
  this_is_outside = refl;
  argument_is_outside = refl;
  argument_of_new_is_outside = refl;
  exit_is_outside = refl;
  exit_of_parameter_is_outside = refl;
  result_is_outside = refl;
  result_of_constructor_is_outside = refl;
  row_is_broken = refl;
  row_is_interrupted = refl;
}
