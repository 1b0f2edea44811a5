-- How the code changes the state of `this`, once it may (this project's own).
use Rattle.std.specs.Prelude.{Option}
use Rattle.ob_base.specs.Optional.{◌>>=◌, where_true}
use Rattle.ob_base.specs.declared.id.StateId.{StateId}
use Rattle.ob_code.specs.declared.image.ContractCode.{ContractCode}
use Rattle.ob_machine_steps.specs.Changing.{GivenSlots, given_values, are_available, edits_this}
use Rattle.ob_machine_steps.specs.Configurations.{Configuration, Next}
use Rattle.ob_machine_steps.specs.Parts.{this_object}
use Rattle.ob_machine_parts.specs.Changes.{kept_in}
use Rattle.ob_machine_parts.specs.Editing.{with_state}

-- `this` changes its state, with the values of these slots given, if each is set
abbrev pub changed_to : ContractCode → StateId → GivenSlots → Configuration → Option Next
changed_to own state given c =
    this_object c >>= λ o.
    where_true (are_available own state given) o >>= λ o.
    given_values c.top.slots given (kept_in own state o.fields) >>= λ fields.
    edits_this (with_state state fields) c
