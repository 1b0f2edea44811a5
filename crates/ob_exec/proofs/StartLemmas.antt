-- What an invocation runs is the run of the machine's entry.
use Rattle.std.proofs.Common.{◌≡◌, ℕ, Option, Some, None, refl, subst}
use Rattle.std.specs.Prelude.{IsSome}
use Rattle.std.specs.Option.{option_map_or}
use Rattle.ob_base.specs.declared.id.TxId.{TxId}
use Rattle.ob_verify_spec.proofs.Cells.{some_same}
use Rattle.ob_heap_spec.specs.Values.{Value}
use Rattle.ob_heap_spec.specs.Contents.{Content}
use Rattle.ob_heap_spec.specs.Worlds.{RunOutcome, wrong, first_world}
use Rattle.ob_invocation_spec.specs.Entries.{HandleUse, Entry, values_of}
use Rattle.ob_invocation_spec.specs.Entering.{run_entry}
use Rattle.ob_code.specs.declared.image.Image.{Image}
use Rattle.ob_machine_steps.specs.Entries.{MachineEntry, started}
use Rattle.ob_machine_steps.specs.Outcomes.{outcome, entry_outcome, entry_of_constructor}
use Rattle.ob_code_table.specs.Images.{constructor_of}
use Rattle.ob_machine_meaning.specs.Meanings.{machine_meaning, entry_of_request}
use Rattle.ob_machine_meaning.proofs.Requests.{requests_run}
use Rattle.ob_exec.specs.Ending.{IsRight}
use Rattle.ob_exec.specs.Bodies.{body_number}

-- an entry whose body has this number
abbrev pub with_number : TxId → MachineEntry → MachineEntry
with_number tx e = record e { tx = tx }

-- the same of a request with this receiver
runs_on : (image : Image) (content : Content) (fuel : ℕ) (e : Entry) (tx : TxId) (receiver : Option HandleUse)
    → body_number image (entry_of_request content (record e { receiver = receiver })).receiver e.contract e.tx ≡ Some tx
    → run_entry (machine_meaning image) content fuel (record e { receiver = receiver })
    ≡ outcome image (started image (with_number tx (entry_of_request content (record e { receiver = receiver }))) content.objects fuel)
runs_on image content fuel e tx None h =
    requests_run image content fuel (record e { receiver = None; tx = tx }) (record { constructor = λ none. h })
runs_on image content fuel e tx (Some u) h =
    subst (λ x. run_entry (machine_meaning image) content fuel (record e { receiver = Some u })
    ≡ outcome image (started image (with_number x (entry_of_request content (record e { receiver = Some u }))) content.objects fuel)) (some_same h)
    (requests_run image content fuel (record e { receiver = Some u }) (record { constructor = λ none. absurd (let same : ◌≡◌ {A = Option HandleUse} (Some u) None = none in cc) }))

pub runs_by : (image : Image) (content : Content) (fuel : ℕ) (e : Entry) (tx : TxId)
    → body_number image (entry_of_request content e).receiver e.contract e.tx ≡ Some tx
    → run_entry (machine_meaning image) content fuel e ≡ outcome image (started image (with_number tx (entry_of_request content e)) content.objects fuel)
runs_by image content fuel e tx h = runs_on image content fuel e tx e.receiver h

some_right : (f : TxId → RunOutcome (Option Value)) (o : Option TxId) → IsRight (option_map_or f o wrong) → IsSome o
some_right f None h = absurd h
some_right f (Some tx) h = refl

-- a body runs where the run doesn't go wrong
numbered_on : (image : Image) (content : Content) (fuel : ℕ) (e : Entry) (receiver : Option HandleUse)
    → IsRight (run_entry (machine_meaning image) content fuel (record e { receiver = receiver }))
    → IsSome (body_number image (entry_of_request content (record e { receiver = receiver })).receiver e.contract e.tx)
numbered_on image content fuel e None h =
    some_right (λ tx. entry_outcome image (entry_of_constructor e.contract (values_of content e) tx) (first_world content.objects fuel)) (constructor_of image e.contract) h
numbered_on image content fuel e (Some u) h = refl

pub numbered : (image : Image) (content : Content) (fuel : ℕ) (e : Entry) → IsRight (run_entry (machine_meaning image) content fuel e)
    → IsSome (body_number image (entry_of_request content e).receiver e.contract e.tx)
numbered image content fuel e h = numbered_on image content fuel e e.receiver h
