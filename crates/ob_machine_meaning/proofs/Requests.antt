-- What an invocation runs is the run of the machine's entry.
use Rattle.std.proofs.Common.{◌≡◌, ℕ, Option, Some, None, refl, ap}
use Rattle.std.specs.Option.{option_map_or}
use Rattle.ob_base.specs.declared.id.TxId.{TxId}
use Rattle.ob_heap_spec.specs.Contents.{Content}
use Rattle.ob_heap_spec.specs.Worlds.{wrong, first_world}
use Rattle.ob_invocation_spec.specs.Entries.{HandleUse, Entry, values_of}
use Rattle.ob_invocation_spec.specs.Entering.{run_entry}
use Rattle.ob_code.specs.declared.image.Image.{Image}
use Rattle.ob_machine_steps.specs.Entries.{started}
use Rattle.ob_machine_steps.specs.Outcomes.{outcome, entry_outcome, entry_of_constructor}
use Rattle.ob_machine_meaning.specs.Meanings.{machine_meaning, entry_of_request}
use Rattle.ob_machine_meaning.specs.Laws.{HasItsBody}

-- the same of a request with this receiver
runs_on : (image : Image) (content : Content) (fuel : ℕ) (e : Entry) (receiver : Option HandleUse) → HasItsBody image (record e { receiver = receiver })
    → run_entry (machine_meaning image) content fuel (record e { receiver = receiver }) ≡ outcome image (started image (entry_of_request content (record e { receiver = receiver })) content.objects fuel)
runs_on image content fuel e None h =
    ap (λ o. option_map_or (λ (tx : TxId). entry_outcome image (entry_of_constructor e.contract (values_of content (record e { receiver = None })) tx) (first_world content.objects fuel)) o wrong) (h.constructor refl)
runs_on image content fuel e (Some u) h = refl

pub requests_run : (image : Image) (content : Content) (fuel : ℕ) (e : Entry) → HasItsBody image e
    → run_entry (machine_meaning image) content fuel e ≡ outcome image (started image (entry_of_request content e) content.objects fuel)
requests_run image content fuel e h = runs_on image content fuel e e.receiver h
