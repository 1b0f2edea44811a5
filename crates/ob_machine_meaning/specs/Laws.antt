-- What an invocation by code runs (this project's own).
use Rattle.std.specs.Prelude.{◌≡◌, ℕ, Some, None}
use Rattle.ob_heap_spec.specs.Contents.{Content}
use Rattle.ob_invocation_spec.specs.Entries as invocation
use Rattle.ob_invocation_spec.specs.Entering.{run_entry}
use Rattle.ob_code.specs.declared.image.Image.{Image}
use Rattle.ob_code_table.specs.Images.{constructor_of}
use Rattle.ob_machine_steps.specs.Entries.{started}
use Rattle.ob_machine_steps.specs.Outcomes.{outcome}
use Rattle.ob_machine_meaning.specs.Meanings.{machine_meaning, entry_of_request}

-- what a request enters without a receiver is the constructor of its contract
pub record HasItsBody (image : Image) (e : invocation.Entry) : Type 0 where
  pub constructor : e.receiver ≡ None → constructor_of image e.contract ≡ Some e.tx

-- What an invocation runs is what the machine's entry comes to, begun on the store's objects with the entry's lock.
abbrev pub RequestsRun : Type 0
RequestsRun =
    (image : Image) (content : Content) (fuel : ℕ) (e : invocation.Entry) → HasItsBody image e
    → run_entry (machine_meaning image) content fuel e
    ≡ outcome image (started image (entry_of_request content e) content.objects fuel)
