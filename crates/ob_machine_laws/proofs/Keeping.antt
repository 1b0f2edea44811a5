-- What each step keeps of a world.
use Rattle.std.proofs.Common.{◌≡◌, ℕ, zero, suc, ◌+◌, ◌≤◌, List, [], ◌∷◌, length, Option, Some, None, Bool, true, false, refl, ◌∙◌, arith}
use Rattle.std.specs.Prelude.{◌==◌, nat_le, if◌then◌else◌, ⊤}
use Rattle.ob_base.specs.Optional.{◌>>=◌}
use Rattle.ob_base.specs.Limits.{most_objects}
use Rattle.ob_base.specs.declared.id.ContractId.{ContractId}
use Rattle.ob_base.specs.declared.id.FieldId.{FieldId}
use Rattle.ob_base.specs.declared.id.StateId.{StateId}
use Rattle.ob_base.specs.declared.id.TxId.{TxId}
use Rattle.ob_heap_spec.specs.Values.{Value, nothing}
use Rattle.ob_heap_spec.specs.Objects.{Object, with_field, unfinished}
use Rattle.ob_heap_spec.specs.Contents.{object_at}
use Rattle.ob_heap_spec.specs.Operations.{Operated, operated, overflows, other_kinds}
use Rattle.ob_heap_spec.specs.Worlds.{World, Spent, spent, next_item, with_read, read_object, with_unit_taken}
use Rattle.ob_heap_spec.specs.Marks.{without_first, mark_shared, mark_disowned, is_in_progress}
use Rattle.ob_source_laws.specs.Laws.{Grows, IsSameObject, KeepsObjects}
use Rattle.ob_source_laws.proofs.Follows.{Follows, Tells, grows_none, grows_on, keeps_all, keeps_on, follows_unit, follows_read, follows_read_object, follows_edit, follows_make, spared_this}
use Rattle.ob_source_laws.proofs.Marking.{follows_mark_shared, follows_mark_disowned}
use Rattle.ob_code.specs.declared.image.Image.{Image}
use Rattle.ob_code.specs.declared.instruction.Instruction.{Instruction}
use Rattle.ob_code.specs.declared.instruction.Instruction.TheVariants as ins
use Rattle.ob_code.specs.Code.{contract_code, body_code}
use Rattle.ob_code_table.specs.Images.{constructor_of, callee, has_field_code}
use Rattle.ob_machine_steps.specs.Slots.{value_at, truth_at, text_at, reference_at, values_at, with_value_at}
use Rattle.ob_machine_steps.specs.Configurations.{Entered, on_receiver, on_this, on_new, MachineFrame, Configuration, ended, aborted, Next, goes, stops}
use Rattle.ob_machine_steps.specs.Parts.{with_world, sets, with_units, with_unit, this_object}
use Rattle.ob_machine_steps.specs.Straight.{operation, with_operated, marks_object}
use Rattle.ob_machine_steps.specs.Changing.{GivenSlots, given_values, edits_this, are_available, object_changed, is_locked_out, store_step, change_step}
use Rattle.ob_machine_steps.specs.Testing.{with_lock, without_lock, without_locks, branches, is_barred, lock_of, ends_test, test_step}
use Rattle.ob_machine_steps.specs.Calling.{Caller, caller, calls_object, calls_this, makes_object}
use Rattle.ob_machine_steps.specs.Returning.{with_result, without_progress, world_left, resumes, returns}
use Rattle.ob_machine_steps.specs.Steps.{act, next_instruction}
use Rattle.ob_machine_steps.specs.Entries.{MachineEntry, Phase, starting, running, nobody, enters, next_step}
use Rattle.ob_machine_steps.specs.Runs.{Stop, paused, over, after_step, after_steps, world_of}
use Rattle.ob_machine_laws.specs.Laws.{LeadsSo}

-- all that steps keep of a world
pub record Keeps (w v : World) : Type 0 where
  pub units : v.fuel + v.taken ≡ w.fuel + w.taken
  pub reads : Grows w.reads v.reads
  pub objects : KeepsObjects w v

pub keeps_self : (w : World) → Keeps w w
keeps_self w = record { units = refl; reads = grows_none w.reads; objects = keeps_all w }

pub keeps_then : {w v u : World} → Keeps w v → Keeps v u → Keeps w u
keeps_then a b = record { units = b.units ∙ a.units; reads = grows_on a.reads b.reads; objects = keeps_on a.objects b.objects }

pub then_follows : {w v u : World} {t : Option ℕ} → Keeps w v → Follows t v u → Keeps w u
then_follows a b = record { units = b.units ∙ a.units; reads = grows_on a.reads b.reads; objects = keeps_on a.objects b.objects }

-- locks and progress don't matter
pub keeps_lists : {w v : World} (locked progress : List ℕ) → Keeps w v → Keeps w (record v { locked = locked; progress = progress })
keeps_lists locked progress a = record {
  units = a.units;
  reads = a.reads;
  objects = record { same = a.objects.same; more = a.objects.more; made = a.objects.made; count = a.objects.count };
}

pub keeps_lock : {w v : World} (t : Option ℕ) → Keeps w v → Keeps w (with_lock t v)
keeps_lock None a = a
keeps_lock {v = v} (Some n) a = keeps_lists (n ∷ v.locked) v.progress a

pub keeps_unlock : {w v : World} (t : Option ℕ) → Keeps w v → Keeps w (without_lock t v)
keeps_unlock None a = a
keeps_unlock {v = v} (Some n) a = keeps_lists (without_first n v.locked) v.progress a

pub keeps_unlocks : (ts : List (Option ℕ)) {w v : World} → Keeps w v → Keeps w (without_locks ts v)
keeps_unlocks [] a = a
keeps_unlocks (t ∷ ts) a = keeps_unlocks ts (keeps_unlock t a)

pub keeps_progress : {w v : World} (e : Entered) (n : ℕ) → Keeps w v → Keeps w (without_progress e n v)
keeps_progress {v = v} on_receiver n a = keeps_lists v.locked (without_first n v.progress) a
keeps_progress on_this n a = a
keeps_progress on_new n a = a

-- Steps.

-- a step leads to a world that keeps all of w, or tells of it
abbrev NextSo : World → Option Next → Type 0
NextSo w None = ⊤
NextSo w (Some (goes c)) = Keeps w c.world
NextSo w (Some (stops (ended result v))) = Keeps w v
NextSo w (Some (stops (aborted cause s))) = Tells w s

abort_so : {w : World} (v : World) → Keeps w v → Tells w (spent v)
abort_so v a = record { units = omega (arith, a.units); reads = a.reads }

then_so : (w : World) {A : Type 0} (o : Option A) (f : A → Option Next) → ((a : A) → NextSo w (f a)) → NextSo w (o >>= f)
then_so w None f h = tt
then_so w (Some a) f h = h a

if_so : (w : World) (b : Bool) (x y : Option Next) → NextSo w x → NextSo w y → NextSo w (if b then x else y)
if_so w true x y a b = a
if_so w false x y a b = b

units_so : (w : World) (k : ℕ) (v : World) (go : World → Option Next) → v.fuel ≡ k → Keeps w v → ((u : World) → Keeps w u → NextSo w (go u)) → NextSo w (with_units k v go)
units_so w zero v go e a h = abort_so v a
units_so w (suc k) v go e a h = h (with_unit_taken v k) (then_follows {t = None} a (follows_unit v k e))

unit_so : (w : World) (go : World → Option Next) → ((u : World) → Keeps w u → NextSo w (go u)) → NextSo w (with_unit w go)
unit_so w go h = units_so w w.fuel w go refl (keeps_self w) h

sets_so : (c : Configuration) (k : ℕ) (v : Value) → NextSo c.world (sets k v c)
sets_so c k v = then_so c.world (with_value_at c.top.slots k v) _ (λ slots. keeps_self c.world)

operated_so : (c : Configuration) (k line : ℕ) (x : Operated) → NextSo c.world (with_operated line c.world x (λ v. sets k v c))
operated_so c k line (operated v) = sets_so c k v
operated_so c k line overflows = abort_so c.world (keeps_self c.world)
operated_so c k line other_kinds = tt

edits_so : (c : Configuration) (f : Object → Object) → ((o : Object) → IsSameObject o (f o)) → NextSo c.world (edits_this f c)
edits_so c f same = then_follows {t = Some c.top.this} (keeps_self c.world) (follows_edit c.world f c.top.this same (spared_this c.world c.top.this))

store_so : (image : Image) (c : Configuration) (field : FieldId) (a : ℕ) → NextSo c.world (store_step image field a c)
store_so image c field a = then_so c.world (value_at c.top.slots a) _ (λ v. then_so c.world (this_object c) _ (λ o. then_so c.world (contract_code image o.contract) _ (λ own.
    if_so c.world (has_field_code own o.state field.0) _ None (edits_so c (with_field field.0 v) (λ o. record { contract = refl; shared = λ e. e; disowned = λ e. e })) tt)))

change_so : (image : Image) (c : Configuration) (state : StateId) (given : GivenSlots) → NextSo c.world (change_step image state given c)
change_so image c state given = then_so c.world (contract_code image c.top.contract) _ (λ own. then_so c.world (given_values c.top.slots given nothing) _ (λ got.
    if_so c.world (is_locked_out c c.top.this) _ _ (abort_so c.world (keeps_self c.world))
    (then_so c.world (this_object c) _ (λ o. if_so c.world (are_available own state given) _ None (edits_so c (object_changed own state got) (λ o. record { contract = refl; shared = λ e. e; disowned = λ e. e })) tt))))

branches_so : (w : World) (c : Configuration) (v : World) (t : Option ℕ) (target : ℕ) (holds : Bool) → Keeps w v → NextSo w (branches t target (with_world v c) holds)
branches_so w c v t target true a = keeps_lock t a
branches_so w c v t target false a = a

test_so : (image : Image) (c : Configuration) (a : ℕ) (of : ContractId) (state : StateId) (target : ℕ) → NextSo c.world (test_step image a of state target c)
test_so image c a of state target = then_so c.world (reference_at c.top.slots a) _ (λ n. then_so c.world (object_at c.world.objects n) _ (λ o.
    let v = read_object c.world n in
    let k : Keeps c.world v = then_follows {t = None} (keeps_self c.world) (follows_read_object c.world n) in
    if_so c.world (a == 0) _ _
    (if_so c.world (is_locked_out (with_world v c) n) _ _ (abort_so v k) (branches_so c.world c v None target _ k))
    (if_so c.world (is_barred v n o) _ _ (abort_so v k) (branches_so c.world c v (lock_of n o) target _ k))))

ends_so : (c : Configuration) (ts : List (Option ℕ)) → NextSo c.world (ends_test ts c)
ends_so c [] = tt
ends_so c (t ∷ ts) = keeps_unlock t (keeps_self c.world)

marks_so : (c : Configuration) (mark : ℕ → World → World) (a : ℕ) → ((n : ℕ) → Follows None c.world (mark n c.world)) → NextSo c.world (marks_object mark a c)
marks_so c mark a h = then_so c.world (reference_at c.top.slots a) _ (λ n. then_so c.world (object_at c.world.objects n) _ (λ o. then_follows (keeps_self c.world) (h n)))

object_so : (w : World) (image : Image) (by : Caller) (contract : ContractId) (tx : TxId) (n : ℕ) (args : List Value) (u : World) → Keeps w u → NextSo w (calls_object image by contract tx n args u)
object_so w image by contract tx n args u a =
    let v = read_object u n in
    let k : Keeps w v = then_follows {t = None} a (follows_read_object u n) in
    if_so w (is_in_progress v n) _ _ (abort_so v k)
    (then_so w (object_at v.objects n) _ (λ o. then_so w (callee image contract tx o) _ (λ id. then_so w (body_code image id.0 id.1) _ (λ b. keeps_lists v.locked (n ∷ v.progress) k))))

made_so : (w : World) (image : Image) (by : Caller) (contract : ContractId) (constructor : Option TxId) (args : List Value) (u : World) → Keeps w u
    → NextSo w (makes_object image by contract constructor args u)
made_so w image by contract constructor args u a =
    let v = with_read u next_item in
    let k : Keeps w v = then_follows {t = None} a (follows_read u next_item) in
    if_so w (nat_le most_objects (length u.objects)) _ _ (abort_so v k)
    (then_so w constructor _ (λ tx. then_so w (body_code image contract tx) _ (λ b. then_follows {t = None} k (follows_make v (unfinished contract)))))

this_so : (w : World) (image : Image) (c : Configuration) (k : ℕ) (tx : TxId) (args : List Value) (u : World) → Keeps w u → NextSo w (calls_this image k tx args c u)
this_so w image c k tx args u a = then_so w (body_code image c.top.contract tx) _ (λ b. a)

resumes_so : (w : World) (fs : List MachineFrame) (into : ℕ) (result : Option Value) (v : World) → Keeps w v → NextSo w (resumes fs into result v)
resumes_so w [] into result v a = a
resumes_so w (f ∷ fs) into result v a = then_so w (with_result f.slots into result) _ (λ slots. a)

returns_so : (c : Configuration) (result : Option Value) → NextSo c.world (returns result c)
returns_so c result = resumes_so c.world c.below c.top.into _ (world_left c.top c.world) (keeps_progress c.top.entered c.top.this (keeps_unlocks c.top.tests (keeps_self c.world)))

act_so : (image : Image) (i : Instruction) (c : Configuration) → NextSo c.world (act image i c)
act_so image ins.Unit c = unit_so c.world _ (λ u a. a)
act_so image (ins.Int to z) c = sets_so c to _
act_so image (ins.Bool to b) c = sets_so c to _
act_so image (ins.Text to bytes) c = sets_so c to _
act_so image (ins.Copy to a) c = then_so c.world (value_at c.top.slots a) _ (λ v. sets_so c to v)
act_so image (ins.Load to field) c = then_so c.world (this_object c) _ (λ o. then_so c.world (o.fields field.0) _ (λ v. sets_so c to v))
act_so image (ins.Store field a) c = store_so image c field a
act_so image (ins.Op to operator a b line) c = then_so c.world (operation operator c.top.slots a b) _ (λ x. operated_so c to line x)
act_so image (ins.Jump target) c = keeps_self c.world
act_so image (ins.Unless a target) c = then_so c.world (truth_at c.top.slots a) _ (λ b. if_so c.world b _ _ (keeps_self c.world) (keeps_self c.world))
act_so image (ins.Test a of state target) c = test_so image c a of state target
act_so image ins.EndTest c = ends_so c c.top.tests
act_so image (ins.Change state given) c = change_so image c state given
act_so image (ins.New to contract args) c =
    then_so c.world (values_at c.top.slots args) _ (λ vs. unit_so c.world _ (λ u a. made_so c.world image (caller c to) contract (constructor_of image contract) vs u a))
act_so image (ins.Call to r contract tx args) c =
    then_so c.world (reference_at c.top.slots r) _ (λ n. then_so c.world (values_at c.top.slots args) _
    (λ vs. unit_so c.world _ (λ u a. object_so c.world image (caller c to) contract tx n vs u a)))
act_so image (ins.SelfCall to tx args) c = then_so c.world (values_at c.top.slots args) _ (λ vs. unit_so c.world _ (λ u a. this_so c.world image c to tx vs u a))
act_so image (ins.Share a) c = marks_so c mark_shared a (λ n. follows_mark_shared c.world n)
act_so image (ins.Disown a) c = marks_so c mark_disowned a (λ n. follows_mark_disowned c.world n)
act_so image ins.Ret c = returns_so c None
act_so image (ins.RetValue a) c = then_so c.world (value_at c.top.slots a) _ (λ v. returns_so c (Some v))
act_so image (ins.Revert a) c = then_so c.world (text_at c.top.slots a) _ (λ bytes. abort_so c.world (keeps_self c.world))

enters_so : (w : World) (image : Image) (e : MachineEntry) (receiver : Option ℕ) (u : World) → Keeps w u → NextSo w (enters image e receiver u)
enters_so w image e None u a = made_so w image nobody e.contract (Some e.tx) e.args u a
enters_so w image e (Some n) u a = object_so w image nobody e.contract e.tx n e.args u a

next_so : (image : Image) (p : Phase) → NextSo (world_of p) (next_step image p)
next_so image (starting e w) = unit_so w _ (λ u a. enters_so w image e e.receiver u a)
next_so image (running c) = then_so c.world (next_instruction image c) _ (λ i. act_so image i c)

-- Any number of steps.

-- where steps lead, all of a world is kept
pub record StopSo (w : World) (s : Option Stop) : Type 0 where
  pub by : LeadsSo (Keeps w) (Tells w) s

tells_then : {w v : World} {s : Spent} → Keeps w v → Tells v s → Tells w s
tells_then a b = record { units = omega (arith, a.units, b.units); reads = grows_on a.reads b.reads }

stop_then : (w v : World) (s : Option Stop) → Keeps w v → StopSo v s → StopSo w s
stop_then w v None a b = record { by = tt }
stop_then w v (Some (paused p)) a b = record { by = keeps_then a b.by }
stop_then w v (Some (over (ended result u))) a b = record { by = keeps_then a b.by }
stop_then w v (Some (over (aborted cause s))) a b = record { by = tells_then a b.by }

after_so : (w : World) (next : Option Next) (go : Phase → Option Stop) → NextSo w next → ((q : Phase) → StopSo (world_of q) (go q)) → StopSo w (after_step next go)
after_so w None go a h = record { by = tt }
after_so w (Some (goes c)) go a h = stop_then w c.world (go (running c)) a (h (running c))
after_so w (Some (stops (ended result v))) go a h = record { by = a }
after_so w (Some (stops (aborted cause s))) go a h = record { by = a }

pub steps_so : (image : Image) (n : ℕ) (p : Phase) → StopSo (world_of p) (after_steps image n p)
steps_so image zero p = record { by = keeps_self (world_of p) }
steps_so image (suc n) p = after_so (world_of p) (next_step image p) (after_steps image n) (next_so image p) (λ q. steps_so image n q)

units_of : (w : World) (s : Option Stop) → StopSo w s → LeadsSo (λ v. v.fuel + v.taken ≡ w.fuel + w.taken) (λ t. t.taken ≤ w.fuel + w.taken) s
units_of w None a = tt
units_of w (Some (paused p)) a = a.by.units
units_of w (Some (over (ended result v))) a = a.by.units
units_of w (Some (over (aborted cause t))) a = a.by.units

reads_of : (w : World) (s : Option Stop) → StopSo w s → LeadsSo (λ v. Grows w.reads v.reads) (λ t. Grows w.reads t.reads) s
reads_of w None a = tt
reads_of w (Some (paused p)) a = a.by.reads
reads_of w (Some (over (ended result v))) a = a.by.reads
reads_of w (Some (over (aborted cause t))) a = a.by.reads

objects_of : (w : World) (s : Option Stop) → StopSo w s → LeadsSo (KeepsObjects w) (λ t. ⊤) s
objects_of w None a = tt
objects_of w (Some (paused p)) a = a.by.objects
objects_of w (Some (over (ended result v))) a = a.by.objects
objects_of w (Some (over (aborted cause t))) a = tt

pub units_add : (image : Image) (n : ℕ) (p : Phase)
    → LeadsSo (λ v. v.fuel + v.taken ≡ (world_of p).fuel + (world_of p).taken) (λ s. s.taken ≤ (world_of p).fuel + (world_of p).taken) (after_steps image n p)
units_add image n p = units_of (world_of p) (after_steps image n p) (steps_so image n p)

pub reads_grow : (image : Image) (n : ℕ) (p : Phase) → LeadsSo (λ v. Grows (world_of p).reads v.reads) (λ s. Grows (world_of p).reads s.reads) (after_steps image n p)
reads_grow image n p = reads_of (world_of p) (after_steps image n p) (steps_so image n p)

pub objects_stay : (image : Image) (n : ℕ) (p : Phase) → LeadsSo (KeepsObjects (world_of p)) (λ s. ⊤) (after_steps image n p)
objects_stay image n p = objects_of (world_of p) (after_steps image n p) (steps_so image n p)
