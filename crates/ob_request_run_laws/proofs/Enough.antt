-- One slice of all the units that a request has ends its run.
use Rattle.std.proofs.Common.{◌≡◌, ℕ, ◌≤◌, Bool, true, false, List, [], ◌∷◌, Option, Some, None, refl, sym, ◌∙◌, subst}
use Rattle.std.specs.Prelude.{if◌then◌else◌}
use Rattle.ob_base.specs.declared.id.ContractId.{ContractId}
use Rattle.ob_perm.specs.Permissions.{is_shared}
use Rattle.ob_perm.specs.Masks.{permission_of}
use Rattle.ob_table.specs.Tables.{ClassTable}
use Rattle.ob_table.specs.declared.contract.ResolvedType.{ResolvedType}
use Rattle.ob_table.specs.declared.contract.ResolvedType.TheVariants.{Int, Bool as BoolKind, Text, Reference}
use Rattle.ob_heap_spec.specs.Values.{Value, int_value, bool_value, text_value, reference}
use Rattle.ob_heap_spec.specs.Objects.{Object}
use Rattle.ob_heap_spec.specs.Contents.{Content}
use Rattle.ob_heap_spec.specs.Worlds.{ReadItem, World, first_world}
use Rattle.ob_heap_spec.specs.Marks.{mark_shared, comes_into}
use Rattle.ob_heap_spec.specs.Handles.{handle_at}
use Rattle.ob_rest_spec.specs.Incoming.{IncomingReference, owner_of}
use Rattle.ob_invocation_spec.specs.Checks.{Check, refusal_of, reads_of}
use Rattle.ob_invocation_spec.specs.Entering.{first_outside_use}
use Rattle.ob_invocation_spec.specs.Entries.{HandleUse, Entry, entry_of_new, entry_of_call}
use Rattle.ob_invocation_spec.specs.Handles.{handle_name}
use Rattle.ob_invocation_spec.specs.Refusals.{handle_check, new_checks, call_checks, give_checks}
use Rattle.ob_invocation_spec.specs.Replies.{Refusal}
use Rattle.ob_invocation_spec.specs.Requests.{Operation, new_request, call_request, disown_request, give_request, see_request, owner_request, Request}
use Rattle.ob_invocation_spec.specs.Showing.{shown_at, shown_place}
use Rattle.ob_code.specs.declared.image.BodyCode.{BodyCode}
use Rattle.ob_code.specs.declared.image.Image.{Image}
use Rattle.ob_code.specs.declared.image.ParamCode.{ParamCode}
use Rattle.ob_code.specs.Code.{body_code}
use Rattle.ob_machine_steps.specs.Configurations.{ended, aborted}
use Rattle.ob_machine_steps.specs.Entries.{MachineEntry, lock_receiver, args_come_in, receiver_comes_in, comes_into_body, entry_world, Phase, started}
use Rattle.ob_code_table.specs.ImageTables.{perm_of_code, type_of_param, table_of_image}
use Rattle.ob_machine_steps.specs.Measures.{steps_left}
use Rattle.ob_machine_steps.specs.Runs.{Stop, over, run_in}
use Rattle.ob_machine_steps.specs.Runs as steps
use Rattle.ob_machine_laws.proofs.Fuel.{shared_fuel}
use Rattle.ob_machine_laws.proofs.Paying.{whole_ends}
use Rattle.ob_request_run_laws.specs.Runs.{Run, opened}
use Rattle.ob_request_run_laws.specs.Slices.{stops_so, with_thing, refused_or, unless_refused, entered, after_entry_test, enters, begins, shows_owner, opens, slice}
use Rattle.ob_request_run_laws.specs.Laws.{HasEnded}

-- Marks take no unit, so a run begins with all its units.

if_fuel : (b : Bool) (u w : World) → u.fuel ≡ w.fuel → (if b then u else w).fuel ≡ w.fuel
if_fuel true u w h = h
if_fuel false u w h = refl

value_fuel : (of : ResolvedType) (v : Value) (w : World) → (comes_into of v w).fuel ≡ w.fuel
value_fuel (Reference id p) (reference n) w = if_fuel (is_shared (permission_of p)) (mark_shared n w) w (shared_fuel w n)
value_fuel (Reference id p) (int_value z) w = refl
value_fuel (Reference id p) (bool_value b) w = refl
value_fuel (Reference id p) (text_value bytes) w = refl
value_fuel Int v w = refl
value_fuel BoolKind v w = refl
value_fuel Text v w = refl

args_fuel : (params : List ParamCode) (args : List Value) (w : World) → (args_come_in params args w).fuel ≡ w.fuel
args_fuel [] args w = refl
args_fuel (p ∷ params) [] w = refl
args_fuel (p ∷ params) (a ∷ args) w = args_fuel params args (comes_into (type_of_param p) a w) ∙ value_fuel (type_of_param p) a w

receiver_fuel : (contract : ContractId) (b : BodyCode) (receiver : Option ℕ) (w : World) → (receiver_comes_in contract b receiver w).fuel ≡ w.fuel
receiver_fuel contract b None w = refl
receiver_fuel contract b (Some n) w = value_fuel (Reference contract (perm_of_code b.entry)) (reference n) w

body_fuel : (contract : ContractId) (b : Option BodyCode) (receiver : Option ℕ) (args : List Value) (w : World) → (comes_into_body contract b receiver args w).fuel ≡ w.fuel
body_fuel contract None receiver args w = refl
body_fuel contract (Some b) receiver args w = args_fuel b.params args (receiver_comes_in contract b receiver w) ∙ receiver_fuel contract b receiver w

locked_fuel : (locked : Bool) (receiver : Option ℕ) (w : World) → (lock_receiver locked receiver w).fuel ≡ w.fuel
locked_fuel locked None w = refl
locked_fuel true (Some n) w = refl
locked_fuel false (Some n) w = refl

pub entry_fuel : (image : Image) (e : MachineEntry) (xs : List Object) (fuel : ℕ) → (entry_world image e xs fuel).fuel ≡ fuel
entry_fuel image e xs fuel =
    body_fuel e.contract (body_code image e.contract e.tx) e.receiver e.args (lock_receiver e.lock e.receiver (first_world xs fuel)) ∙ locked_fuel e.lock e.receiver (first_world xs fuel)

-- Runs.

stops_end : (table : ClassTable) (c : Content) (q : Request) (e : Entry) (reads : List ReadItem) (o : Option Stop) → ((p : Phase) → o ≡ Some (steps.paused p) → ⊥) → HasEnded (stops_so table c q e reads o)
stops_end table c q e reads None h = tt
stops_end table c q e reads (Some (steps.paused p)) h = absurd (h p refl)
stops_end table c q e reads (Some (over (ended result w))) h = tt
stops_end table c q e reads (Some (over (aborted cause s))) h = tt

started_ends : (image : Image) (fuel : ℕ) (c : Content) (q : Request) (units : ℕ) (e : Entry) (reads : List ReadItem) (m : MachineEntry) → fuel ≤ units
    → HasEnded (stops_so (table_of_image image) c q e reads (run_in image (steps_left image (started image m c.objects fuel)) units (started image m c.objects fuel)))
started_ends image fuel c q units e reads m enough = stops_end (table_of_image image) c q e reads _ (λ p f.
    whole_ends image units (started image m c.objects fuel) p (subst (λ k. k ≤ units) (sym (entry_fuel image m c.objects fuel)) enough)
    (record { steps = steps_left image (started image m c.objects fuel); by = f }))

thing_ends : {A : Type 0} (o : Option A) (f : A → Run) → ((a : A) → HasEnded (f a)) → HasEnded (with_thing o f)
thing_ends None f h = tt
thing_ends (Some a) f h = h a

refused_ends : (o : Option Refusal) (reads : List ReadItem) (f : List ReadItem → Run) → HasEnded (f reads) → HasEnded (refused_or o reads f)
refused_ends (Some refusal) reads f h = tt
refused_ends None reads f h = h

unless_ends : (cs : List Check) (f : List ReadItem → Run) → HasEnded (f (reads_of cs)) → HasEnded (unless_refused cs f)
unless_ends cs f h = refused_ends (refusal_of cs) (reads_of cs) f h

tested_ends : (image : Image) (fuel : ℕ) (c : Content) (units : ℕ) (q : Request) (e : Entry) (reads : List ReadItem) (o : Option HandleUse) → fuel ≤ units → HasEnded (after_entry_test image fuel c units q e reads o)
tested_ends image fuel c units q e reads (Some u) enough = tt
tested_ends image fuel c units q e reads None enough = thing_ends (entered image c e) _ (λ m. started_ends image fuel c q units e reads m enough)

begins_end : (image : Image) (fuel : ℕ) (c : Content) (units : ℕ) (q : Request) (cs : List Check) (o : Option Entry) → fuel ≤ units → HasEnded (begins image fuel c units q cs o)
begins_end image fuel c units q cs o enough = unless_ends cs _ (thing_ends o (enters image fuel c units q (reads_of cs)) (λ e.
    tested_ends image fuel c units q e (reads_of cs) (first_outside_use (table_of_image image) c e) enough))

owner_ends : (table : ClassTable) (c : Content) (reads : List ReadItem) (o : Option IncomingReference) → HasEnded (shows_owner table c reads o)
owner_ends table c reads None = tt
owner_ends table c reads (Some r) = thing_ends (shown_place table c.objects r.place) _ (λ place. tt)

opens_end : (image : Image) (fuel : ℕ) (c : Content) (units : ℕ) (q : Request) (operation : Operation) → fuel ≤ units → HasEnded (opens image fuel c units q operation)
opens_end image fuel c units q (new_request r) enough = begins_end image fuel c units q (new_checks (table_of_image image) c q.who r) (entry_of_new (table_of_image image) q.who r) enough
opens_end image fuel c units q (call_request r) enough = begins_end image fuel c units q (call_checks (table_of_image image) c q.who r) (entry_of_call (table_of_image image) c q.who r) enough
opens_end image fuel c units q (disown_request on) enough = unless_ends (handle_check c (handle_name q.who on) ∷ []) _ (thing_ends (handle_at c (handle_name q.who on)) _ (λ h. tt))
opens_end image fuel c units q (give_request r) enough = unless_ends (give_checks c q.who r) _ (thing_ends (handle_at c (handle_name q.who r.on)) _ (λ h. tt))
opens_end image fuel c units q (see_request on) enough = unless_ends (handle_check c (handle_name q.who on) ∷ []) _ (thing_ends (handle_at c (handle_name q.who on)) _ (λ h.
    thing_ends (shown_at (table_of_image image) c.objects h.object) _ (λ shown. tt)))
opens_end image fuel c units q (owner_request on) enough = unless_ends (handle_check c (handle_name q.who on) ∷ []) _ (thing_ends (handle_at c (handle_name q.who on)) _ (λ h.
    owner_ends (table_of_image image) c (reads_of (handle_check c (handle_name q.who on) ∷ [])) (owner_of (table_of_image image) c h.object)))

pub whole_slices_end : (image : Image) (fuel : ℕ) (c : Content) (q : Request) (units : ℕ) → fuel ≤ units → HasEnded (slice image fuel c units (opened q))
whole_slices_end image fuel c q units enough = opens_end image fuel c units q q.operation enough
