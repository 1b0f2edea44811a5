-- No run of code tells a state where it aborts.
use Rattle.std.proofs.Common.{◌≡◌, ℕ, zero, suc, List, [], ◌∷◌, length, Option, Some, None, Bool, true, false, refl, subst}
use Rattle.std.specs.Prelude.{⊤, ◌==◌, nat_le, if◌then◌else◌}
use Rattle.ob_base.specs.Optional.{◌>>=◌}
use Rattle.ob_base.specs.Limits.{most_objects}
use Rattle.ob_base.specs.declared.id.ContractId.{ContractId}
use Rattle.ob_base.specs.declared.id.FieldId.{FieldId}
use Rattle.ob_base.specs.declared.id.StateId.{StateId}
use Rattle.ob_base.specs.declared.id.TxId.{TxId}
use Rattle.ob_table.specs.Tables.{ClassTable}
use Rattle.ob_table.specs.declared.contract.Contract.{Contract}
use Rattle.ob_heap_spec.specs.Values.{Value, nothing}
use Rattle.ob_heap_spec.specs.Objects.{Object}
use Rattle.ob_heap_spec.specs.Contents.{object_at}
use Rattle.ob_heap_spec.specs.Operations.{Operated, operated, overflows, other_kinds}
use Rattle.ob_heap_spec.specs.Worlds.{World, AbortCause, by_revert, by_state, by_reentry, by_overflow, by_fuel, by_full, read_object, with_unit_taken}
use Rattle.ob_heap_spec.specs.Marks.{mark_shared, mark_disowned, is_in_progress}
use Rattle.ob_invocation_spec.specs.Showing.{contract_of_object, state_name, told_state}
use Rattle.ob_code.specs.declared.image.Image.{Image}
use Rattle.ob_code.specs.declared.instruction.Instruction.{Instruction}
use Rattle.ob_code.specs.declared.instruction.Instruction.TheVariants as ins
use Rattle.ob_code.specs.Code.{contract_code, body_code}
use Rattle.ob_code_table.specs.Images.{constructor_of, callee, has_field_code}
use Rattle.ob_machine_steps.specs.Slots.{value_at, truth_at, text_at, reference_at, values_at, with_value_at}
use Rattle.ob_machine_steps.specs.Configurations.{MachineFrame, Configuration, End, ended, aborted, Next, goes, stops}
use Rattle.ob_machine_steps.specs.Parts.{with_world, sets, with_units, with_unit, this_object}
use Rattle.ob_machine_steps.specs.Straight.{operation, with_operated, marks_object}
use Rattle.ob_machine_steps.specs.Changing.{GivenSlots, given_values, are_available, is_locked_out, store_step, change_step}
use Rattle.ob_machine_steps.specs.Testing.{branches, is_barred, lock_of, ends_test, test_step}
use Rattle.ob_machine_steps.specs.Calling.{Caller, caller, calls_object, makes_object}
use Rattle.ob_machine_steps.specs.Returning.{with_result, resumes}
use Rattle.ob_machine_steps.specs.Steps.{act, next_instruction}
use Rattle.ob_machine_steps.specs.Entries.{MachineEntry, Phase, starting, running, nobody, enters, next_step}
use Rattle.ob_machine_steps.specs.Runs.{Stop, paused, over, after_step, waits, pays, left_after, run_in}

-- a cause tells no state
abbrev pub TellsNone : AbortCause → Type 0
TellsNone (by_state n (Some s)) = ⊥
TellsNone (by_state n None) = ⊤
TellsNone (by_revert bytes) = ⊤
TellsNone (by_reentry n) = ⊤
TellsNone (by_overflow line) = ⊤
TellsNone by_fuel = ⊤
TellsNone by_full = ⊤

none_told : (o : Option Contract) → (o >>= λ c. None >>= state_name c) ≡ None
none_told None = refl
none_told (Some c) = refl

-- so none is told on any content
pub told_none : (table : ClassTable) (objects : List Object) (cause : AbortCause) → TellsNone cause → told_state table objects cause ≡ None
told_none table objects (by_state n (Some s)) h = absurd h
told_none table objects (by_state n None) h = none_told (contract_of_object table objects n)
told_none table objects (by_revert bytes) h = refl
told_none table objects (by_reentry n) h = refl
told_none table objects (by_overflow line) h = refl
told_none table objects by_fuel h = refl
told_none table objects by_full h = refl

-- Steps.

abbrev pub EndTellsNone : End → Type 0
EndTellsNone (ended result w) = ⊤
EndTellsNone (aborted cause s) = TellsNone cause

abbrev NextPlain : Option Next → Type 0
NextPlain None = ⊤
NextPlain (Some (goes c)) = ⊤
NextPlain (Some (stops e)) = EndTellsNone e

then_plain : {A : Type 0} (o : Option A) (f : A → Option Next) → ((a : A) → NextPlain (f a)) → NextPlain (o >>= f)
then_plain None f h = tt
then_plain (Some a) f h = h a

if_plain : (b : Bool) (x y : Option Next) → NextPlain x → NextPlain y → NextPlain (if b then x else y)
if_plain true x y h k = h
if_plain false x y h k = k

units_plain : (k : ℕ) (w : World) (go : World → Option Next) → ((u : World) → NextPlain (go u)) → NextPlain (with_units k w go)
units_plain zero w go each = tt
units_plain (suc k) w go each = each (with_unit_taken w k)

unit_plain : (w : World) (go : World → Option Next) → ((u : World) → NextPlain (go u)) → NextPlain (with_unit w go)
unit_plain w go each = units_plain w.fuel w go each

sets_plain : (c : Configuration) (k : ℕ) (v : Value) → NextPlain (sets k v c)
sets_plain c k v = then_plain (with_value_at c.top.slots k v) _ (λ slots. tt)

operated_plain : (c : Configuration) (k line : ℕ) (x : Operated) → NextPlain (with_operated line c.world x (λ v. sets k v c))
operated_plain c k line (operated v) = sets_plain c k v
operated_plain c k line overflows = tt
operated_plain c k line other_kinds = tt

store_plain : (image : Image) (c : Configuration) (field : FieldId) (a : ℕ) → NextPlain (store_step image field a c)
store_plain image c field a = then_plain (value_at c.top.slots a) _ (λ v. then_plain (this_object c) _ (λ o. then_plain (contract_code image o.contract) _ (λ own.
    if_plain (has_field_code own o.state field.0) _ None tt tt)))

change_plain : (image : Image) (c : Configuration) (state : StateId) (given : GivenSlots) → NextPlain (change_step image state given c)
change_plain image c state given = then_plain (contract_code image c.top.contract) _ (λ own. then_plain (given_values c.top.slots given nothing) _ (λ got.
    if_plain (is_locked_out c c.top.this) _ _ tt (then_plain (this_object c) _ (λ o. if_plain (are_available own state given) _ None tt tt))))

branches_plain : (c : Configuration) (v : World) (t : Option ℕ) (target : ℕ) (holds : Bool) → NextPlain (branches t target (with_world v c) holds)
branches_plain c v t target true = tt
branches_plain c v t target false = tt

test_plain : (image : Image) (c : Configuration) (a : ℕ) (of : ContractId) (state : StateId) (target : ℕ) → NextPlain (test_step image a of state target c)
test_plain image c a of state target = then_plain (reference_at c.top.slots a) _ (λ n. then_plain (object_at c.world.objects n) _ (λ o.
    let v = read_object c.world n in
    if_plain (a == 0) _ _ (if_plain (is_locked_out (with_world v c) n) _ _ tt (branches_plain c v None target _)) (if_plain (is_barred v n o) _ _ tt (branches_plain c v (lock_of n o) target _))))

ends_plain : (c : Configuration) (ts : List (Option ℕ)) → NextPlain (ends_test ts c)
ends_plain c [] = tt
ends_plain c (t ∷ ts) = tt

marks_plain : (c : Configuration) (mark : ℕ → World → World) (a : ℕ) → NextPlain (marks_object mark a c)
marks_plain c mark a = then_plain (reference_at c.top.slots a) _ (λ n. then_plain (object_at c.world.objects n) _ (λ o. tt))

object_plain : (image : Image) (by : Caller) (contract : ContractId) (tx : TxId) (n : ℕ) (args : List Value) (u : World) → NextPlain (calls_object image by contract tx n args u)
object_plain image by contract tx n args u =
    let v = read_object u n in
    if_plain (is_in_progress v n) _ _ tt (then_plain (object_at v.objects n) _ (λ o. then_plain (callee image contract tx o) _ (λ id. then_plain (body_code image id.0 id.1) _ (λ b. tt))))

made_plain : (image : Image) (by : Caller) (contract : ContractId) (constructor : Option TxId) (args : List Value) (u : World) → NextPlain (makes_object image by contract constructor args u)
made_plain image by contract constructor args u = if_plain (nat_le most_objects (length u.objects)) _ _ tt (then_plain constructor _ (λ tx. then_plain (body_code image contract tx) _ (λ b. tt)))

resumes_plain : (fs : List MachineFrame) (into : ℕ) (result : Option Value) (v : World) → NextPlain (resumes fs into result v)
resumes_plain [] into result v = tt
resumes_plain (f ∷ fs) into result v = then_plain (with_result f.slots into result) _ (λ slots. tt)

act_plain : (image : Image) (i : Instruction) (c : Configuration) → NextPlain (act image i c)
act_plain image ins.Unit c = unit_plain c.world _ (λ u. tt)
act_plain image (ins.Int to z) c = sets_plain c to _
act_plain image (ins.Bool to b) c = sets_plain c to _
act_plain image (ins.Text to bytes) c = sets_plain c to _
act_plain image (ins.Copy to a) c = then_plain (value_at c.top.slots a) _ (λ v. sets_plain c to v)
act_plain image (ins.Load to field) c = then_plain (this_object c) _ (λ o. then_plain (o.fields field.0) _ (λ v. sets_plain c to v))
act_plain image (ins.Store field a) c = store_plain image c field a
act_plain image (ins.Op to operator a b line) c = then_plain (operation operator c.top.slots a b) _ (λ x. operated_plain c to line x)
act_plain image (ins.Jump target) c = tt
act_plain image (ins.Unless a target) c = then_plain (truth_at c.top.slots a) _ (λ b. if_plain b _ _ tt tt)
act_plain image (ins.Test a of state target) c = test_plain image c a of state target
act_plain image ins.EndTest c = ends_plain c c.top.tests
act_plain image (ins.Change state given) c = change_plain image c state given
act_plain image (ins.New to contract args) c = then_plain (values_at c.top.slots args) _ (λ vs. unit_plain c.world _ (λ u. made_plain image (caller c to) contract (constructor_of image contract) vs u))
act_plain image (ins.Call to r contract tx args) c =
    then_plain (reference_at c.top.slots r) _ (λ n. then_plain (values_at c.top.slots args) _ (λ vs. unit_plain c.world _ (λ u. object_plain image (caller c to) contract tx n vs u)))
act_plain image (ins.SelfCall to tx args) c = then_plain (values_at c.top.slots args) _ (λ vs. unit_plain c.world _ (λ u. then_plain (body_code image c.top.contract tx) _ (λ b. tt)))
act_plain image (ins.Share a) c = marks_plain c mark_shared a
act_plain image (ins.Disown a) c = marks_plain c mark_disowned a
act_plain image ins.Ret c = resumes_plain c.below c.top.into _ _
act_plain image (ins.RetValue a) c = then_plain (value_at c.top.slots a) _ (λ v. resumes_plain c.below c.top.into _ _)
act_plain image (ins.Revert a) c = then_plain (text_at c.top.slots a) _ (λ bytes. tt)

enters_plain : (image : Image) (e : MachineEntry) (receiver : Option ℕ) (u : World) → NextPlain (enters image e receiver u)
enters_plain image e None u = made_plain image nobody e.contract (Some e.tx) e.args u
enters_plain image e (Some n) u = object_plain image nobody e.contract e.tx n e.args u

next_plain : (image : Image) (p : Phase) → NextPlain (next_step image p)
next_plain image (starting e w) = unit_plain w _ (λ u. enters_plain image e e.receiver u)
next_plain image (running c) = then_plain (next_instruction image c) _ (λ i. act_plain image i c)

-- Slices.

abbrev StopPlain : Option Stop → Type 0
StopPlain None = ⊤
StopPlain (Some (paused p)) = ⊤
StopPlain (Some (over e)) = EndTellsNone e

after_plain : (x : Option Next) (go : Phase → Option Stop) → NextPlain x → ((q : Phase) → StopPlain (go q)) → StopPlain (after_step x go)
after_plain None go h k = tt
after_plain (Some (goes c)) go h k = k (running c)
after_plain (Some (stops e)) go h k = h

waits_plain : (b : Bool) (p : Phase) (x : Option Stop) → StopPlain x → StopPlain (if b then Some (paused p) else x)
waits_plain true p x h = tt
waits_plain false p x h = h

slice_plain : (image : Image) (n units : ℕ) (p : Phase) → StopPlain (run_in image n units p)
slice_plain image zero units p = tt
slice_plain image (suc n) units p = waits_plain (waits image units p) p _ (after_plain (next_step image p) _ (next_plain image p) (λ q. slice_plain image n (left_after (pays image p) units) q))

-- the end of a slice tells no state
pub end_plain : (image : Image) (n units : ℕ) (p : Phase) (e : End) → run_in image n units p ≡ Some (over e) → EndTellsNone e
end_plain image n units p e h = subst StopPlain h (slice_plain image n units p)
