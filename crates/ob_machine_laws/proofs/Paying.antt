-- A step that pays leaves one unit less, and any other as many; so a slice of all that a run has left never waits.
use Rattle.std.proofs.Common.{◌≡◌, ℕ, zero, suc, ◌-◌, ◌≤◌, Bool, true, false, ◌&&◌, List, [], ◌∷◌, length, Option, Some, None, refl, sym, subst, ◌∙◌, arith, true≢false}
use Rattle.std.specs.Prelude.{◌==◌, nat_eq, nat_lt, nat_le, if◌then◌else◌}
use Rattle.std.specs.Option.{option_map_or}
use Rattle.ob_base.specs.Optional.{◌>>=◌}
use Rattle.ob_base.specs.Limits.{most_objects}
use Rattle.ob_base.specs.declared.id.ContractId.{ContractId}
use Rattle.ob_base.specs.declared.id.FieldId.{FieldId}
use Rattle.ob_base.specs.declared.id.StateId.{StateId}
use Rattle.ob_base.specs.declared.id.TxId.{TxId}
use Rattle.ob_heap_spec.specs.Values.{Value, nothing}
use Rattle.ob_heap_spec.specs.Objects.{Object, with_field}
use Rattle.ob_heap_spec.specs.Contents.{object_at}
use Rattle.ob_heap_spec.specs.Operations.{Operated, operated, overflows, other_kinds}
use Rattle.ob_heap_spec.specs.Worlds.{World, with_unit_taken, read_object}
use Rattle.ob_heap_spec.specs.Marks.{mark_shared, mark_disowned, is_in_progress}
use Rattle.ob_code.specs.declared.image.Image.{Image}
use Rattle.ob_code.specs.declared.instruction.Instruction.{Instruction}
use Rattle.ob_code.specs.declared.instruction.Instruction.TheVariants as ins
use Rattle.ob_code.specs.Code.{contract_code, body_code}
use Rattle.ob_code_table.specs.Images.{constructor_of, callee, has_field_code}
use Rattle.ob_machine_steps.specs.Slots.{value_at, truth_at, text_at, reference_at, values_at, with_value_at}
use Rattle.ob_machine_steps.specs.Configurations.{MachineFrame, Configuration, Next, goes, stops}
use Rattle.ob_machine_steps.specs.Parts.{with_world, sets, with_units, with_unit, this_object}
use Rattle.ob_machine_steps.specs.Straight.{operation, with_operated, marks_object}
use Rattle.ob_machine_steps.specs.Changing.{GivenSlots, given_values, edits_this, are_available, object_changed, is_locked_out, store_step, change_step}
use Rattle.ob_machine_steps.specs.Testing.{branches, is_barred, lock_of, ends_test, test_step}
use Rattle.ob_machine_steps.specs.Calling.{Caller, caller, calls_object, calls_this, makes_object}
use Rattle.ob_machine_steps.specs.Returning.{with_result, world_left, resumes, returns}
use Rattle.ob_machine_steps.specs.Steps.{act, next_instruction}
use Rattle.ob_machine_steps.specs.Entries.{MachineEntry, Phase, starting, running, nobody, enters, next_step}
use Rattle.ob_machine_steps.specs.Runs.{paused, after_step, takes_unit, world_of, needs_unit, pays, waits, left_after, run_in, Slices}
use Rattle.ob_machine_laws.proofs.Fuel.{read_fuel, edit_fuel, shared_fuel, disowned_fuel, lock_fuel, unlock_fuel, left_fuel}
use Rattle.ob_machine_laws.proofs.Slicing.{none_paused, over_paused}

-- Steps.

-- where a step goes on, so many units are left
abbrev pub Leaves : ℕ → Option Next → Type 0
Leaves n None = Unit {0}
Leaves n (Some (goes c)) = c.world.fuel ≡ n
Leaves n (Some (stops end)) = Unit {0}

then_leaves : (n : ℕ) {A : Type 0} (o : Option A) (f : A → Option Next) → ((a : A) → Leaves n (f a)) → Leaves n (o >>= f)
then_leaves n None f h = tt
then_leaves n (Some a) f h = h a

if_leaves : (n : ℕ) (b : Bool) (x y : Option Next) → Leaves n x → Leaves n y → Leaves n (if b then x else y)
if_leaves n true x y h k = h
if_leaves n false x y h k = k

units_leave : (n k : ℕ) (w : World) (go : World → Option Next) → ((v : World) → v.fuel ≡ k - 1 → Leaves n (go v)) → Leaves n (with_units k w go)
units_leave n zero w go h = tt
units_leave n (suc k) w go h = h (with_unit_taken w k) (omega arith)

unit_leaves : (w : World) (go : World → Option Next) → ((v : World) → v.fuel ≡ w.fuel - 1 → Leaves (w.fuel - 1) (go v)) → Leaves (w.fuel - 1) (with_unit w go)
unit_leaves w go h = units_leave (w.fuel - 1) w.fuel w go h

sets_leave : (c : Configuration) (k : ℕ) (v : Value) → Leaves c.world.fuel (sets k v c)
sets_leave c k v = then_leaves c.world.fuel (with_value_at c.top.slots k v) _ (λ slots. refl)

operated_leaves : (c : Configuration) (k line : ℕ) (x : Operated) → Leaves c.world.fuel (with_operated line c.world x (λ v. sets k v c))
operated_leaves c k line (operated v) = sets_leave c k v
operated_leaves c k line overflows = tt
operated_leaves c k line other_kinds = tt

edits_leave : (c : Configuration) (f : Object → Object) → Leaves c.world.fuel (edits_this f c)
edits_leave c f = edit_fuel c.world f c.top.this

store_leaves : (image : Image) (c : Configuration) (field : FieldId) (a : ℕ) → Leaves c.world.fuel (store_step image field a c)
store_leaves image c field a = then_leaves _ (value_at c.top.slots a) _ (λ v. then_leaves _ (this_object c) _ (λ o. then_leaves _ (contract_code image o.contract) _ (λ own.
    if_leaves _ (has_field_code own o.state field.0) _ None (edits_leave c (with_field field.0 v)) tt)))

change_leaves : (image : Image) (c : Configuration) (state : StateId) (given : GivenSlots) → Leaves c.world.fuel (change_step image state given c)
change_leaves image c state given = then_leaves _ (contract_code image c.top.contract) _ (λ own. then_leaves _ (given_values c.top.slots given nothing) _ (λ got.
    if_leaves _ (is_locked_out c c.top.this) _ _ tt
    (then_leaves _ (this_object c) _ (λ o. if_leaves _ (are_available own state given) _ None (edits_leave c (object_changed own state got)) tt))))

branches_leave : (n : ℕ) (c : Configuration) (w : World) (t : Option ℕ) (target : ℕ) (holds : Bool) → w.fuel ≡ n → Leaves n (branches t target (with_world w c) holds)
branches_leave n c w t target true e = lock_fuel t w ∙ e
branches_leave n c w t target false e = e

test_leaves : (image : Image) (c : Configuration) (a : ℕ) (of : ContractId) (state : StateId) (target : ℕ) → Leaves c.world.fuel (test_step image a of state target c)
test_leaves image c a of state target = then_leaves _ (reference_at c.top.slots a) _ (λ n. then_leaves _ (object_at c.world.objects n) _ (λ o.
    let d = with_world (read_object c.world n) c in
    if_leaves _ (a == 0) _ _
    (if_leaves _ (is_locked_out d n) _ _ tt (branches_leave c.world.fuel c (read_object c.world n) None target _ (read_fuel c.world n)))
    (if_leaves _ (is_barred d.world n o) _ _ tt (branches_leave c.world.fuel c (read_object c.world n) (lock_of n o) target _ (read_fuel c.world n)))))

ends_leave : (c : Configuration) (ts : List (Option ℕ)) → Leaves c.world.fuel (ends_test ts c)
ends_leave c [] = tt
ends_leave c (t ∷ ts) = unlock_fuel t c.world

marks_leave : (c : Configuration) (mark : ℕ → World → World) (a : ℕ) → ((n : ℕ) → (mark n c.world).fuel ≡ c.world.fuel) → Leaves c.world.fuel (marks_object mark a c)
marks_leave c mark a h = then_leaves _ (reference_at c.top.slots a) _ (λ n. then_leaves _ (object_at c.world.objects n) _ (λ o. h n))

object_leaves : (n : ℕ) (image : Image) (by : Caller) (contract : ContractId) (tx : TxId) (this : ℕ) (args : List Value) (w : World) → w.fuel ≡ n
    → Leaves n (calls_object image by contract tx this args w)
object_leaves n image by contract tx this args w e =
    let v = read_object w this in
    if_leaves n (is_in_progress v this) _ _ tt
    (then_leaves n (object_at v.objects this) _ (λ o. then_leaves n (callee image contract tx o) _ (λ id. then_leaves n (body_code image id.0 id.1) _ (λ b. read_fuel w this ∙ e))))

made_leaves : (n : ℕ) (image : Image) (by : Caller) (contract : ContractId) (constructor : Option TxId) (args : List Value) (w : World) → w.fuel ≡ n
    → Leaves n (makes_object image by contract constructor args w)
made_leaves n image by contract constructor args w e =
    if_leaves n (nat_le most_objects (length w.objects)) _ _ tt (then_leaves n constructor _ (λ tx. then_leaves n (body_code image contract tx) _ (λ b. e)))

this_leaves : (n : ℕ) (image : Image) (c : Configuration) (k : ℕ) (tx : TxId) (args : List Value) (w : World) → w.fuel ≡ n → Leaves n (calls_this image k tx args c w)
this_leaves n image c k tx args w e = then_leaves n (body_code image c.top.contract tx) _ (λ b. e)

resumes_leave : (n : ℕ) (fs : List MachineFrame) (into : ℕ) (result : Option Value) (w : World) → w.fuel ≡ n → Leaves n (resumes fs into result w)
resumes_leave n [] into result w e = tt
resumes_leave n (f ∷ fs) into result w e = then_leaves n (with_result f.slots into result) _ (λ slots. e)

returns_leave : (c : Configuration) (result : Option Value) → Leaves c.world.fuel (returns result c)
returns_leave c result = resumes_leave c.world.fuel c.below c.top.into _ (world_left c.top c.world) (left_fuel c.top c.world)

act_leaves : (image : Image) (i : Instruction) (c : Configuration) → Leaves (left_after (takes_unit i) c.world.fuel) (act image i c)
act_leaves image ins.Unit c = unit_leaves c.world _ (λ u e. e)
act_leaves image (ins.Int to z) c = sets_leave c to _
act_leaves image (ins.Bool to b) c = sets_leave c to _
act_leaves image (ins.Text to bytes) c = sets_leave c to _
act_leaves image (ins.Copy to a) c = then_leaves _ (value_at c.top.slots a) _ (λ v. sets_leave c to v)
act_leaves image (ins.Load to field) c = then_leaves _ (this_object c) _ (λ o. then_leaves _ (o.fields field.0) _ (λ v. sets_leave c to v))
act_leaves image (ins.Store field a) c = store_leaves image c field a
act_leaves image (ins.Op to operator a b line) c = then_leaves _ (operation operator c.top.slots a b) _ (λ x. operated_leaves c to line x)
act_leaves image (ins.Jump target) c = refl
act_leaves image (ins.Unless a target) c = then_leaves _ (truth_at c.top.slots a) _ (λ b. if_leaves _ b _ _ refl refl)
act_leaves image (ins.Test a of state target) c = test_leaves image c a of state target
act_leaves image ins.EndTest c = ends_leave c c.top.tests
act_leaves image (ins.Change state given) c = change_leaves image c state given
act_leaves image (ins.New to contract args) c =
    then_leaves _ (values_at c.top.slots args) _ (λ vs. unit_leaves c.world _ (λ u e. made_leaves _ image (caller c to) contract (constructor_of image contract) vs u e))
act_leaves image (ins.Call to r contract tx args) c = then_leaves _ (reference_at c.top.slots r) _ (λ n. then_leaves _ (values_at c.top.slots args) _ (λ vs.
    unit_leaves c.world _ (λ u e. object_leaves _ image (caller c to) contract tx n vs u e)))
act_leaves image (ins.SelfCall to tx args) c = then_leaves _ (values_at c.top.slots args) _ (λ vs. unit_leaves c.world _ (λ u e. this_leaves _ image c to tx vs u e))
act_leaves image (ins.Share a) c = marks_leave c mark_shared a (λ n. shared_fuel c.world n)
act_leaves image (ins.Disown a) c = marks_leave c mark_disowned a (λ n. disowned_fuel c.world n)
act_leaves image ins.Ret c = returns_leave c None
act_leaves image (ins.RetValue a) c = then_leaves _ (value_at c.top.slots a) _ (λ v. returns_leave c (Some v))
act_leaves image (ins.Revert a) c = then_leaves _ (text_at c.top.slots a) _ (λ bytes. tt)

enters_leave : (n : ℕ) (image : Image) (e : MachineEntry) (receiver : Option ℕ) (w : World) → w.fuel ≡ n → Leaves n (enters image e receiver w)
enters_leave n image e None w h = made_leaves n image nobody e.contract (Some e.tx) e.args w h
enters_leave n image e (Some this) w h = object_leaves n image nobody e.contract e.tx this e.args w h

pays_one : (b : Bool) (n : ℕ) → left_after b n ≡ left_after (b && nat_lt 0 n) n
pays_one true n = grind arith
pays_one false n = refl

step_leaves : (image : Image) (c : Configuration) (o : Option Instruction)
    → Leaves (left_after (option_map_or takes_unit o false && nat_lt 0 c.world.fuel) c.world.fuel) (o >>= λ i. act image i c)
step_leaves image c None = tt
step_leaves image c (Some i) = subst (λ n. Leaves n (act image i c)) (pays_one (takes_unit i) c.world.fuel) (act_leaves image i c)

-- the units left after a step
pub next_leaves : (image : Image) (p : Phase) → Leaves (left_after (pays image p) (world_of p).fuel) (next_step image p)
next_leaves image (starting e w) =
    subst (λ n. Leaves n (with_unit w (enters image e e.receiver))) (pays_one true w.fuel) (unit_leaves w _ (λ u h. enters_leave _ image e e.receiver u h))
next_leaves image (running c) = step_leaves image c (next_instruction image c)

-- Slices of all that a run has left.

never_waits : (b : Bool) (fuel units : ℕ) → fuel ≤ units → ((b && nat_lt 0 fuel) && nat_eq units 0) ≡ false
never_waits true fuel units h = grind (arith, h)
never_waits false fuel units h = refl

left_within : (b : Bool) (fuel units : ℕ) → fuel ≤ units → left_after b fuel ≤ left_after b units
left_within true fuel units h = omega (arith, h)
left_within false fuel units h = h

never_by : (image : Image) (k units : ℕ) (p q : Phase) (b : Bool) (r : Option Next) → b ≡ false → Leaves (left_after (pays image p) (world_of p).fuel) r → (world_of p).fuel ≤ units
    → (if b then Some (paused p) else after_step r (run_in image k (left_after (pays image p) units))) ≡ Some (paused q)
    → ((x : Phase) → (world_of x).fuel ≤ left_after (pays image p) units → run_in image k (left_after (pays image p) units) x ≡ Some (paused q) → ⊥) → ⊥
never_by image k units p q true r e l h f ih = true≢false e
never_by image k units p q false None e l h f ih = none_paused f
never_by image k units p q false (Some (stops end)) e l h f ih = over_paused f
never_by image k units p q false (Some (goes c)) e l h f ih =
    ih (running c) (subst (λ n. n ≤ left_after (pays image p) units) (sym l) (left_within (pays image p) (world_of p).fuel units h)) f

never_paused : (image : Image) (k units : ℕ) (p q : Phase) → (world_of p).fuel ≤ units → run_in image k units p ≡ Some (paused q) → ⊥
never_paused image zero units p q h f = none_paused f
never_paused image (suc k) units p q h f =
    never_by image k units p q (waits image units p) (next_step image p) (never_waits (needs_unit image p) (world_of p).fuel units h) (next_leaves image p) h f
    (λ x i g. never_paused image k (left_after (pays image p) units) x q i g)

pub whole_ends : (image : Image) (units : ℕ) (p q : Phase) → (world_of p).fuel ≤ units → ¬ (Slices image units p (paused q))
whole_ends image units p q h s = never_paused image s.steps units p q h s.by
