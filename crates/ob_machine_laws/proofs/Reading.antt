-- No step looks at what was read.
use Rattle.std.proofs.Common.{◌≡◌, ℕ, zero, suc, ◌+◌, List, [], ◌∷◌, length, Option, Some, None, Bool, true, false, refl, ap, ◌∙◌}
use Rattle.std.specs.Prelude.{option_map, ◌==◌, ◌&&◌, nat_eq, nat_le, if◌then◌else◌}
use Rattle.std.specs.Option.{option_map_or}
use Rattle.ob_base.specs.Optional.{◌>>=◌}
use Rattle.ob_base.specs.Limits.{most_objects}
use Rattle.ob_base.specs.declared.id.ContractId.{ContractId}
use Rattle.ob_base.specs.declared.id.FieldId.{FieldId}
use Rattle.ob_base.specs.declared.id.StateId.{StateId}
use Rattle.ob_base.specs.declared.id.TxId.{TxId}
use Rattle.ob_heap_spec.specs.Values.{Value, nothing}
use Rattle.ob_heap_spec.specs.Objects.{Object, with_field}
use Rattle.ob_heap_spec.specs.Contents.{object_at}
use Rattle.ob_heap_spec.specs.Operations.{Operated, operated, overflows, other_kinds}
use Rattle.ob_heap_spec.specs.Worlds.{ReadItem, object_item, World, by_reentry, is_made, with_read, read_object, set_object, edit_object, with_unit_taken}
use Rattle.ob_heap_spec.specs.Marks.{has_mark, mark_shared, mark_disowned, is_in_progress}
use Rattle.ob_code.specs.declared.image.Image.{Image}
use Rattle.ob_code.specs.declared.instruction.Instruction.{Instruction}
use Rattle.ob_code.specs.declared.instruction.Instruction.TheVariants as ins
use Rattle.ob_code.specs.Code.{contract_code, body_code}
use Rattle.ob_code_table.specs.Images.{constructor_of, callee, has_field_code, is_in_state_of}
use Rattle.ob_machine_steps.specs.Slots.{value_at, truth_at, text_at, reference_at, values_at, with_value_at}
use Rattle.ob_machine_steps.specs.Configurations.{Entered, on_receiver, on_this, on_new, MachineFrame, Configuration, Next, goes, stops, abort}
use Rattle.ob_machine_steps.specs.Parts.{with_world, sets, with_units, with_unit, this_object}
use Rattle.ob_machine_steps.specs.Straight.{operation, with_operated, marks_object}
use Rattle.ob_machine_steps.specs.Changing.{GivenSlots, given_values, edits_this, are_available, object_changed, is_locked_out, store_step, change_step}
use Rattle.ob_machine_steps.specs.Testing.{with_lock, without_lock, without_locks, branches, tests_this, tests_other, is_barred, lock_of, ends_test, test_step}
use Rattle.ob_machine_steps.specs.Calling.{Caller, caller, answers, calls_object, calls_this, makes_object}
use Rattle.ob_machine_steps.specs.Returning.{with_result, without_progress, world_left, resumes, returns}
use Rattle.ob_machine_steps.specs.Steps.{act, next_instruction}
use Rattle.ob_machine_steps.specs.Entries.{MachineEntry, Phase, starting, running, nobody, enters, next_step}
use Rattle.ob_machine_steps.specs.Runs.{Stop, paused, after_step, pays, waits, left_after, run_in}
use Rattle.ob_machine_laws.specs.Laws.{read_before, phase_before, next_before, stop_before}

-- Worlds.

if_world : (items : List ReadItem) (b : Bool) (u v x y : World) → u ≡ read_before items x → v ≡ read_before items y → (if b then u else v) ≡ read_before items (if b then x else y)
if_world items true u v x y e f = e
if_world items false u v x y e f = f

read_reads : (items : List ReadItem) (w : World) (n : ℕ) → read_object (read_before items w) n ≡ read_before items (read_object w n)
read_reads items w n = if_world items (is_made w n) (read_before items w) (with_read (read_before items w) (object_item n)) w (with_read w (object_item n)) refl refl

edited_reads : (items : List ReadItem) (w : World) (f : Object → Object) (n : ℕ) (o : Option Object)
    → option_map_or (λ x. set_object (read_before items w) n (f x)) o (read_before items w) ≡ read_before items (option_map_or (λ x. set_object w n (f x)) o w)
edited_reads items w f n None = refl
edited_reads items w f n (Some o) = refl

edit_reads : (items : List ReadItem) (w : World) (f : Object → Object) (n : ℕ) → edit_object f n (read_before items w) ≡ read_before items (edit_object f n w)
edit_reads items w f n = edited_reads items w f n (object_at w.objects n)

-- a mark, once the object was read
abbrev marks_in : (Object → Bool) → (Object → Object) → ℕ → World → World
marks_in mark f n v = if has_mark mark v n then v else edit_object f n v

marks_reads : (items : List ReadItem) (mark : Object → Bool) (f : Object → Object) (n : ℕ) (w : World)
    → marks_in mark f n (read_object (read_before items w) n) ≡ read_before items (marks_in mark f n (read_object w n))
marks_reads items mark f n w =
    ap (marks_in mark f n) (read_reads items w n)
    ∙ if_world items (has_mark mark (read_object w n) n) _ _ (read_object w n) (edit_object f n (read_object w n)) refl (edit_reads items (read_object w n) f n)

shared_reads : (items : List ReadItem) (n : ℕ) (w : World) → mark_shared n (read_before items w) ≡ read_before items (mark_shared n w)
shared_reads items n w = marks_reads items (λ o. o.shared) (λ o. record o { shared = true }) n w

disowned_reads : (items : List ReadItem) (n : ℕ) (w : World) → mark_disowned n (read_before items w) ≡ read_before items (mark_disowned n w)
disowned_reads items n w = marks_reads items (λ o. o.disowned) (λ o. record o { disowned = true }) n w

lock_reads : (items : List ReadItem) (t : Option ℕ) (w : World) → with_lock t (read_before items w) ≡ read_before items (with_lock t w)
lock_reads items None w = refl
lock_reads items (Some n) w = refl

unlock_reads : (items : List ReadItem) (t : Option ℕ) (w : World) → without_lock t (read_before items w) ≡ read_before items (without_lock t w)
unlock_reads items None w = refl
unlock_reads items (Some n) w = refl

unlocks_reads : (items : List ReadItem) (ts : List (Option ℕ)) (w : World) → without_locks ts (read_before items w) ≡ read_before items (without_locks ts w)
unlocks_reads items [] w = refl
unlocks_reads items (t ∷ ts) w = ap (without_locks ts) (unlock_reads items t w) ∙ unlocks_reads items ts (without_lock t w)

progress_reads : (items : List ReadItem) (e : Entered) (n : ℕ) (w : World) → without_progress e n (read_before items w) ≡ read_before items (without_progress e n w)
progress_reads items on_receiver n w = refl
progress_reads items on_this n w = refl
progress_reads items on_new n w = refl

left_reads : (items : List ReadItem) (f : MachineFrame) (w : World) → world_left f (read_before items w) ≡ read_before items (world_left f w)
left_reads items f w = ap (without_progress f.entered f.this) (unlocks_reads items f.tests w) ∙ progress_reads items f.entered f.this (without_locks f.tests w)

-- Combinators.

-- a step that leads to the same, with more read before
abbrev Same : List ReadItem → Option Next → Option Next → Type 0
Same items m n = m ≡ option_map (next_before items) n

-- a configuration in which more was read before
abbrev earlier : List ReadItem → Configuration → Configuration
earlier items c = record c { world = read_before items c.world }

then_same : (items : List ReadItem) {A : Type 0} (o : Option A) (f g : A → Option Next) → ((a : A) → Same items (f a) (g a)) → Same items (o >>= f) (o >>= g)
then_same items None f g h = refl
then_same items (Some a) f g h = h a

if_same : (items : List ReadItem) (b : Bool) (x y u v : Option Next) → Same items x u → Same items y v → Same items (if b then x else y) (if b then u else v)
if_same items true x y u v e f = e
if_same items false x y u v e f = f

units_same : (items : List ReadItem) (k : ℕ) (w : World) (f g : World → Option Next) → ((v : World) → Same items (f (read_before items v)) (g v))
    → Same items (with_units k (read_before items w) f) (with_units k w g)
units_same items zero w f g h = refl
units_same items (suc k) w f g h = h (with_unit_taken w k)

unit_same : (items : List ReadItem) (w : World) (f g : World → Option Next) → ((v : World) → Same items (f (read_before items v)) (g v))
    → Same items (with_unit (read_before items w) f) (with_unit w g)
unit_same items w f g h = units_same items w.fuel w f g h

-- the next instruction follows in a world
world_same : (items : List ReadItem) (f : MachineFrame) (fs : List MachineFrame) (u w : World) → u ≡ read_before items w
    → Same items (Some (goes (record { top = f; below = fs; world = u }))) (Some (goes (record { top = f; below = fs; world = w })))
world_same items f fs u w e = ap (λ x. Some (goes (record { top = f; below = fs; world = x }))) e

sets_same : (items : List ReadItem) (c : Configuration) (k : ℕ) (v : Value) → Same items (sets k v (earlier items c)) (sets k v c)
sets_same items c k v = then_same items (with_value_at c.top.slots k v) _ _ (λ slots. refl)

operated_same : (items : List ReadItem) (c : Configuration) (k line : ℕ) (x : Operated)
    → Same items (with_operated line (read_before items c.world) x (λ v. sets k v (earlier items c))) (with_operated line c.world x (λ v. sets k v c))
operated_same items c k line (operated v) = sets_same items c k v
operated_same items c k line overflows = refl
operated_same items c k line other_kinds = refl

edits_same : (items : List ReadItem) (c : Configuration) (f : Object → Object) → Same items (edits_this f (earlier items c)) (edits_this f c)
edits_same items c f = world_same items (record c.top { at = c.top.at + 1 }) c.below _ (edit_object f c.top.this c.world) (edit_reads items c.world f c.top.this)

store_same : (items : List ReadItem) (image : Image) (c : Configuration) (field : FieldId) (a : ℕ) → Same items (store_step image field a (earlier items c)) (store_step image field a c)
store_same items image c field a = then_same items (value_at c.top.slots a) _ _ (λ v. then_same items (this_object c) _ _ (λ o. then_same items (contract_code image o.contract) _ _ (λ own.
    if_same items (has_field_code own o.state field.0) _ None _ None (edits_same items c (with_field field.0 v)) refl)))

change_same : (items : List ReadItem) (image : Image) (c : Configuration) (state : StateId) (given : GivenSlots)
    → Same items (change_step image state given (earlier items c)) (change_step image state given c)
change_same items image c state given = then_same items (contract_code image c.top.contract) _ _ (λ own. then_same items (given_values c.top.slots given nothing) _ _ (λ got.
    if_same items (is_locked_out c c.top.this) _ _ _ _ refl
    (then_same items (this_object c) _ _ (λ o. if_same items (are_available own state given) _ None _ None (edits_same items c (object_changed own state got)) refl))))

branches_same : (items : List ReadItem) (c : Configuration) (w : World) (t : Option ℕ) (target : ℕ) (holds : Bool)
    → Same items (branches t target (with_world (read_before items w) c) holds) (branches t target (with_world w c) holds)
branches_same items c w t target true = world_same items (record c.top { at = c.top.at + 1; tests = t ∷ c.top.tests }) c.below _ (with_lock t w) (lock_reads items t w)
branches_same items c w t target false = refl

-- a test once its object was read, in this world
abbrev tested : ℕ → ℕ → Object → ℕ → Configuration → Bool → World → Option Next
tested a n o target c holds w = if a == 0 then tests_this n target (with_world w c) holds else tests_other n o target (with_world w c) holds

tested_same : (items : List ReadItem) (c : Configuration) (a n : ℕ) (o : Object) (target : ℕ) (holds : Bool) (w : World)
    → Same items (tested a n o target c holds (read_before items w)) (tested a n o target c holds w)
tested_same items c a n o target holds w = if_same items (a == 0) _ _ _ _
    (if_same items (is_locked_out (with_world w c) n) _ _ _ _ refl (branches_same items c w None target holds))
    (if_same items (is_barred w n o) _ _ _ _ refl (branches_same items c w (lock_of n o) target holds))

test_same : (items : List ReadItem) (image : Image) (c : Configuration) (a : ℕ) (of : ContractId) (state : StateId) (target : ℕ)
    → Same items (test_step image a of state target (earlier items c)) (test_step image a of state target c)
test_same items image c a of state target = then_same items (reference_at c.top.slots a) _ _ (λ n. then_same items (object_at c.world.objects n) _ _ (λ o.
    ap (tested a n o target c (is_in_state_of image of state o)) (read_reads items c.world n) ∙ tested_same items c a n o target (is_in_state_of image of state o) (read_object c.world n)))

ends_same : (items : List ReadItem) (c : Configuration) (ts : List (Option ℕ)) → Same items (ends_test ts (earlier items c)) (ends_test ts c)
ends_same items c [] = refl
ends_same items c (t ∷ ts) = world_same items (record c.top { at = c.top.at + 1; tests = ts }) c.below _ (without_lock t c.world) (unlock_reads items t c.world)

marks_same : (items : List ReadItem) (c : Configuration) (mark : ℕ → World → World) (a : ℕ) → ((n : ℕ) → mark n (read_before items c.world) ≡ read_before items (mark n c.world))
    → Same items (marks_object mark a (earlier items c)) (marks_object mark a c)
marks_same items c mark a h =
    then_same items (reference_at c.top.slots a) _ _ (λ n. then_same items (object_at c.world.objects n) _ _
    (λ o. world_same items (record c.top { at = c.top.at + 1 }) c.below _ (mark n c.world) (h n)))

-- a call of an object that was read, in this world
abbrev called : Image → Caller → ContractId → TxId → ℕ → List Value → World → Option Next
called image by contract tx n args v =
    if is_in_progress v n then Some (abort (by_reentry n) v)
    else object_at v.objects n >>= λ o. callee image contract tx o >>= answers image by n args v

called_same : (items : List ReadItem) (image : Image) (by : Caller) (contract : ContractId) (tx : TxId) (n : ℕ) (args : List Value) (v : World)
    → Same items (called image by contract tx n args (read_before items v)) (called image by contract tx n args v)
called_same items image by contract tx n args v = if_same items (is_in_progress v n) _ _ _ _ refl
    (then_same items (object_at v.objects n) _ _ (λ o. then_same items (callee image contract tx o) _ _ (λ id. then_same items (body_code image id.0 id.1) _ _ (λ b. refl))))

object_same : (items : List ReadItem) (image : Image) (by : Caller) (contract : ContractId) (tx : TxId) (n : ℕ) (args : List Value) (w : World)
    → Same items (calls_object image by contract tx n args (read_before items w)) (calls_object image by contract tx n args w)
object_same items image by contract tx n args w = ap (called image by contract tx n args) (read_reads items w n) ∙ called_same items image by contract tx n args (read_object w n)

made_same : (items : List ReadItem) (image : Image) (by : Caller) (contract : ContractId) (constructor : Option TxId) (args : List Value) (w : World)
    → Same items (makes_object image by contract constructor args (read_before items w)) (makes_object image by contract constructor args w)
made_same items image by contract constructor args w = if_same items (nat_le most_objects (length w.objects)) _ _ _ _ refl
    (then_same items constructor _ _ (λ tx. then_same items (body_code image contract tx) _ _ (λ b. refl)))

this_same : (items : List ReadItem) (image : Image) (c : Configuration) (k : ℕ) (tx : TxId) (args : List Value) (w : World)
    → Same items (calls_this image k tx args (earlier items c) (read_before items w)) (calls_this image k tx args c w)
this_same items image c k tx args w = then_same items (body_code image c.top.contract tx) _ _ (λ b. refl)

resumes_same : (items : List ReadItem) (fs : List MachineFrame) (into : ℕ) (result : Option Value) (w : World) → Same items (resumes fs into result (read_before items w)) (resumes fs into result w)
resumes_same items [] into result w = refl
resumes_same items (f ∷ fs) into result w = then_same items (with_result f.slots into result) _ _ (λ slots. refl)

returns_same : (items : List ReadItem) (c : Configuration) (result : Option Value) → Same items (returns result (earlier items c)) (returns result c)
returns_same items c result = ap (resumes c.below c.top.into _) (left_reads items c.top c.world) ∙ resumes_same items c.below c.top.into _ (world_left c.top c.world)

-- Instructions.

act_same : (items : List ReadItem) (image : Image) (i : Instruction) (c : Configuration) → Same items (act image i (earlier items c)) (act image i c)
act_same items image ins.Unit c = unit_same items c.world _ _ (λ v. refl)
act_same items image (ins.Int to z) c = sets_same items c to _
act_same items image (ins.Bool to b) c = sets_same items c to _
act_same items image (ins.Text to bytes) c = sets_same items c to _
act_same items image (ins.Copy to a) c = then_same items (value_at c.top.slots a) _ _ (λ v. sets_same items c to v)
act_same items image (ins.Load to field) c = then_same items (this_object c) _ _ (λ o. then_same items (o.fields field.0) _ _ (λ v. sets_same items c to v))
act_same items image (ins.Store field a) c = store_same items image c field a
act_same items image (ins.Op to operator a b line) c = then_same items (operation operator c.top.slots a b) _ _ (λ x. operated_same items c to line x)
act_same items image (ins.Jump target) c = refl
act_same items image (ins.Unless a target) c = then_same items (truth_at c.top.slots a) _ _ (λ b. if_same items b _ _ _ _ refl refl)
act_same items image (ins.Test a of state target) c = test_same items image c a of state target
act_same items image ins.EndTest c = ends_same items c c.top.tests
act_same items image (ins.Change state given) c = change_same items image c state given
act_same items image (ins.New to contract args) c =
    then_same items (values_at c.top.slots args) _ _ (λ vs. unit_same items c.world _ _ (λ v. made_same items image (caller c to) contract (constructor_of image contract) vs v))
act_same items image (ins.Call to a contract tx args) c =
    then_same items (reference_at c.top.slots a) _ _ (λ n. then_same items (values_at c.top.slots args) _ _
    (λ vs. unit_same items c.world _ _ (λ v. object_same items image (caller c to) contract tx n vs v)))
act_same items image (ins.SelfCall to tx args) c = then_same items (values_at c.top.slots args) _ _ (λ vs. unit_same items c.world _ _ (λ v. this_same items image c to tx vs v))
act_same items image (ins.Share a) c = marks_same items c mark_shared a (λ n. shared_reads items n c.world)
act_same items image (ins.Disown a) c = marks_same items c mark_disowned a (λ n. disowned_reads items n c.world)
act_same items image ins.Ret c = returns_same items c None
act_same items image (ins.RetValue a) c = then_same items (value_at c.top.slots a) _ _ (λ v. returns_same items c (Some v))
act_same items image (ins.Revert a) c = then_same items (text_at c.top.slots a) _ _ (λ bytes. refl)

enters_same : (items : List ReadItem) (image : Image) (e : MachineEntry) (receiver : Option ℕ) (w : World) → Same items (enters image e receiver (read_before items w)) (enters image e receiver w)
enters_same items image e None w = made_same items image nobody e.contract (Some e.tx) e.args w
enters_same items image e (Some n) w = object_same items image nobody e.contract e.tx n e.args w

pub next_reads : (image : Image) (items : List ReadItem) (p : Phase) → next_step image (phase_before items p) ≡ option_map (next_before items) (next_step image p)
next_reads image items (starting e w) = unit_same items w _ _ (λ v. enters_same items image e e.receiver v)
next_reads image items (running c) = then_same items (next_instruction image c) _ _ (λ i. act_same items image i c)

-- Slices.

pays_same : (image : Image) (items : List ReadItem) (p : Phase) → pays image (phase_before items p) ≡ pays image p
pays_same image items (starting e w) = refl
pays_same image items (running c) = refl

after_same : (items : List ReadItem) (next : Option Next) (f g : Phase → Option Stop) → ((q : Phase) → f (phase_before items q) ≡ option_map (stop_before items) (g q))
    → after_step (option_map (next_before items) next) f ≡ option_map (stop_before items) (after_step next g)
after_same items None f g h = refl
after_same items (Some (goes c)) f g h = h (running c)
after_same items (Some (stops end)) f g h = refl

if_stop : (items : List ReadItem) (b : Bool) (p : Phase) (x y : Option Stop) → x ≡ option_map (stop_before items) y
    → (if b then Some (paused (phase_before items p)) else x) ≡ option_map (stop_before items) (if b then Some (paused p) else y)
if_stop items true p x y e = refl
if_stop items false p x y e = e

-- a slice, by whether its next step takes a unit
abbrev sliced : Image → ℕ → ℕ → Phase → Option Next → Bool → Option Stop
sliced image n units p next paid = if paid && nat_eq units 0 then Some (paused p) else after_step next (run_in image n (left_after paid units))

pub slice_reads : (image : Image) (items : List ReadItem) (n units : ℕ) (p : Phase) → run_in image n units (phase_before items p) ≡ option_map (stop_before items) (run_in image n units p)
slice_reads image items zero units p = refl
slice_reads image items (suc n) units p =
    ap (sliced image n units (phase_before items p) (next_step image (phase_before items p))) (pays_same image items p)
    ∙ ap (λ next. sliced image n units (phase_before items p) next (pays image p)) (next_reads image items p)
    ∙ if_stop items (waits image units p) p _ _ (after_same items (next_step image p) (run_in image n (left_after (pays image p) units)) (run_in image n (left_after (pays image p) units))
    (λ q. slice_reads image items n (left_after (pays image p) units) q))
