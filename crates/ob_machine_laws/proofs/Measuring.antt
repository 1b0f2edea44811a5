-- Each step leaves fewer steps that can still come.
use Rattle.std.proofs.Common.{◌≡◌, ℕ, zero, suc, ◌<◌, ◌≤◌, ◌+◌, ◌-◌, ◌*◌, List, [], ◌∷◌, length, Option, Some, None, Bool, true, false, refl, sym, ap, ◌∙◌, subst, arith, inl, inr}
use Rattle.std.specs.Prelude.{slice_get, ◌==◌, nat_le, if◌then◌else◌}
use Rattle.std.proofs.lemmas.Option.{slice_get_within}
use Rattle.ob_base.specs.Optional.{◌>>=◌}
use Rattle.ob_base.specs.Limits.{most_objects}
use Rattle.ob_base.specs.declared.id.ContractId.{ContractId}
use Rattle.ob_base.specs.declared.id.StateId.{StateId}
use Rattle.ob_base.specs.declared.id.FieldId.{FieldId}
use Rattle.ob_base.specs.declared.id.TxId.{TxId}
use Rattle.ob_heap_spec.specs.Values.{Value, nothing}
use Rattle.ob_heap_spec.specs.Objects.{Object, with_field, unfinished}
use Rattle.ob_heap_spec.specs.Contents.{object_at}
use Rattle.ob_heap_spec.specs.Operations.{Operated, operated, overflows, other_kinds}
use Rattle.ob_heap_spec.specs.Worlds.{World, with_unit_taken, with_read, next_item, read_object, edit_object, make_object}
use Rattle.ob_heap_spec.specs.Marks.{mark_shared, mark_disowned, is_in_progress, enter}
use Rattle.ob_code.specs.declared.image.BodyCode.{BodyCode}
use Rattle.ob_code.specs.declared.image.ContractCode.{ContractCode}
use Rattle.ob_code.specs.declared.image.Image.{Image}
use Rattle.ob_code.specs.declared.instruction.Instruction.{Instruction}
use Rattle.ob_code.specs.declared.instruction.Instruction.TheVariants as ins
use Rattle.ob_code.specs.Code.{contract_code, body_code, is_shared_at_entry}
use Rattle.ob_code_table.specs.Images.{constructor_of, callee, CalleeId, has_field_code, instruction_at}
use Rattle.ob_machine_steps.specs.Slots.{Slots, value_at, truth_at, text_at, reference_at, values_at, with_value_at}
use Rattle.ob_machine_steps.specs.Configurations.{Entered, on_receiver, on_this, on_new, MachineFrame, Configuration, Next, goes, stops}
use Rattle.ob_machine_steps.specs.Parts.{moved_to, with_world, goes_on, sets, with_units, with_unit, this_object, waiting}
use Rattle.ob_machine_steps.specs.Straight.{operation, with_operated, marks_object}
use Rattle.ob_machine_steps.specs.Changing.{GivenSlots, edits_this, are_available, object_changed, is_locked_out, store_step, change_step, given_values}
use Rattle.ob_machine_steps.specs.Testing.{branches, is_barred, lock_of, ends_test, test_step, without_lock, with_lock}
use Rattle.ob_machine_steps.specs.Calling.{Caller, caller, begun, calls_object, calls_this, makes_object}
use Rattle.ob_machine_steps.specs.Returning.{with_result, world_left, resumes, returns}
use Rattle.ob_machine_steps.specs.Steps.{act, next_instruction}
use Rattle.ob_machine_steps.specs.Entries.{MachineEntry, Phase, starting, running, nobody, enters, next_step}
use Rattle.ob_machine_steps.specs.Measures.{length_of, longest_body, longest_of, longest, left_of_round, rest, rests, steps_most, steps_left, IsAheadOrUnit, LeadsAheadOrToUnit}
use Rattle.ob_machine_laws.proofs.Fetching.{none_is_some, instruction_in_body}
use Rattle.ob_machine_laws.proofs.Fuel.{read_fuel, edit_fuel, shared_fuel, disowned_fuel, lock_fuel, unlock_fuel, left_fuel}

-- where a step goes on, fewer than n steps can still come
abbrev pub Below : Image → ℕ → Option Next → Type 0
Below image n None = Unit {0}
Below image n (Some (goes d)) = steps_most image d < n
Below image n (Some (stops end)) = Unit {0}

then_below : (image : Image) (n : ℕ) {A : Type 0} (o : Option A) (f : A → Option Next) → ((a : A) → Below image n (f a)) → Below image n (o >>= f)
then_below image n None f h = tt
then_below image n (Some a) f h = h a

if_below : (image : Image) (n : ℕ) (b : Bool) (x y : Option Next) → Below image n x → Below image n y → Below image n (if b then x else y)
if_below image n true x y h k = h
if_below image n false x y h k = k

units_below : (image : Image) (n k : ℕ) (w : World) (go : World → Option Next) → w.fuel ≡ k → ((v : World) → suc v.fuel ≡ w.fuel → Below image n (go v)) → Below image n (with_units k w go)
units_below image n zero w go e h = tt
units_below image n (suc k) w go e h = h (with_unit_taken w k) (sym e)

unit_below : (image : Image) (n : ℕ) (w : World) (go : World → Option Next) → ((v : World) → suc v.fuel ≡ w.fuel → Below image n (go v)) → Below image n (with_unit w go)
unit_below image n w go h = units_below image n w.fuel w go refl h

-- Frames that go on.

-- how many instructions a round has still before it at a place of a body, at most
abbrev rest_from : Image → ContractId → TxId → ℕ → ℕ
rest_from image contract tx place = left_of_round (instruction_at image contract tx place) (length_of (body_code image contract tx) - place)

round_le : (i : Option Instruction) (n : ℕ) → left_of_round i n ≤ n
round_le (Some ins.Unit) n = omega arith
round_le i n = omega arith

rest_le : (image : Image) (contract : ContractId) (tx : TxId) (place : ℕ) → rest_from image contract tx place ≤ length_of (body_code image contract tx) - place
rest_le image contract tx place = round_le (instruction_at image contract tx place) (length_of (body_code image contract tx) - place)

-- the innermost frame has this instruction before it
abbrev IsBefore : Image → Instruction → MachineFrame → Type 0
IsBefore image i f = (f.at < length_of (body_code image f.contract f.tx)) × (rest image f ≡ left_of_round (Some i) (length_of (body_code image f.contract f.tx) - f.at))

-- the innermost frame has an instruction before it that is no `unit`
abbrev HasNext : Image → MachineFrame → Type 0
HasNext image f = (f.at < length_of (body_code image f.contract f.tx)) × (rest image f ≡ length_of (body_code image f.contract f.tx) - f.at)

sub_some : (l a : ℕ) → a < l → 0 < l - a
sub_some l a h = omega arith

-- so something is left of its round
some_left : (image : Image) (f : MachineFrame) → HasNext image f → 0 < rest image f
some_left image f k = subst (λ x. 0 < x) (sym k.1) (sub_some (length_of (body_code image f.contract f.tx)) f.at k.0)

sub_less : (l a b x : ℕ) → x ≤ l - b → a < b → a < l → x < l - a
sub_less l a b x e h k = omega arith

next_less : (a : ℕ) → a < a + 1
next_less a = omega arith

-- and less of it is left at a place ahead, or at a `unit`
less_left : (image : Image) (f : MachineFrame) (place : ℕ) → HasNext image f → IsAheadOrUnit image f.contract f.tx f.at place
    → rest_from image f.contract f.tx place < rest image f
less_left image f place k (inl h) = subst (λ x. rest_from image f.contract f.tx place < x) (sym k.1)
    (sub_less (length_of (body_code image f.contract f.tx)) f.at place (rest_from image f.contract f.tx place) (rest_le image f.contract f.tx place) h k.0)
less_left image f place k (inr h) = subst (λ x. x < rest image f) (sym (ap (λ i. left_of_round i (length_of (body_code image f.contract f.tx) - place)) h)) (some_left image f k)

sums_less : (x y r f g m : ℕ) → x < y → f ≡ g → suc ((x + r) + f * m) < suc ((y + r) + g * m)
sums_less x y r f g m h e = subst (λ k. suc ((x + r) + f * m) < suc ((y + r) + k * m)) e (omega (arith, h))

-- the next instruction follows
on_below : (image : Image) (c : Configuration) (slots : Slots) (tests : List (Option ℕ)) (w : World) → HasNext image c.top → w.fuel ≡ c.world.fuel
    → Below image (steps_most image c) (goes_on (record c { top = record c.top { slots = slots; tests = tests }; world = w }))
on_below image c slots tests w k u =
    sums_less (rest_from image c.top.contract c.top.tx (c.top.at + 1)) (rest image c.top) (rests image c.below) w.fuel c.world.fuel (longest image)
    (less_left image c.top (c.top.at + 1) k (inl (next_less c.top.at))) u

-- an instruction at a place follows
to_below : (image : Image) (c : Configuration) (place : ℕ) (w : World) → HasNext image c.top → IsAheadOrUnit image c.top.contract c.top.tx c.top.at place → w.fuel ≡ c.world.fuel
    → Below image (steps_most image c) (Some (goes (moved_to place (with_world w c))))
to_below image c place w k h u =
    sums_less (rest_from image c.top.contract c.top.tx place) (rest image c.top) (rests image c.below) w.fuel c.world.fuel (longest image)
    (less_left image c.top place k h) u

sets_below : (image : Image) (c : Configuration) (k : ℕ) (v : Value) → HasNext image c.top → Below image (steps_most image c) (sets k v c)
sets_below image c k v h = then_below image _ (with_value_at c.top.slots k v) _ (λ slots. on_below image c slots c.top.tests c.world h refl)

operated_below : (image : Image) (c : Configuration) (k line : ℕ) (x : Operated) → HasNext image c.top → Below image (steps_most image c) (with_operated line c.world x (λ v. sets k v c))
operated_below image c k line (operated v) h = sets_below image c k v h
operated_below image c k line overflows h = tt
operated_below image c k line other_kinds h = tt

-- Bodies that begin.

longest_le : (bs : List BodyCode) (n : ℕ) → length_of (slice_get bs n) ≤ longest_body bs
longest_le [] n = omega arith
longest_le (b ∷ bs) zero = grind arith
longest_le (b ∷ bs) (suc n) = let h : length_of (slice_get bs n) ≤ longest_body bs = longest_le bs n in grind arith

contracts_le : (cs : List ContractCode) (n k : ℕ) → length_of (slice_get cs n >>= λ (c : ContractCode). slice_get c.bodies k) ≤ longest_of cs
contracts_le [] n k = omega arith
contracts_le (c ∷ cs) zero k = let h : length_of (slice_get c.bodies k) ≤ longest_body c.bodies = longest_le c.bodies k in grind arith
contracts_le (c ∷ cs) (suc n) k = let h : length_of (slice_get cs n >>= λ (c : ContractCode). slice_get c.bodies k) ≤ longest_of cs = contracts_le cs n k in grind arith

pub body_le : (image : Image) (contract : ContractId) (tx : TxId) → length_of (body_code image contract tx) ≤ longest image
body_le image contract tx = contracts_le image.contracts contract.0 tx.0

-- a unit less, for which a round begins behind the `unit`
spent_less : (l a x y r f g m : ℕ) → a < l → l ≤ m → x ≤ l - (a + 1) → suc f ≡ g → suc ((x + r) + f * m) < suc ((y + r) + g * m)
spent_less l a x y r f g m h k b e = subst (λ n. suc ((x + r) + f * m) < suc ((y + r) + n * m)) e (grind arith)

unit_step_below : (image : Image) (c : Configuration) → c.top.at < length_of (body_code image c.top.contract c.top.tx)
    → Below image (steps_most image c) (with_unit c.world (λ w. goes_on (with_world w c)))
unit_step_below image c k =
    let contract = c.top.contract in
    let tx = c.top.tx in
    unit_below image _ c.world _ (λ v e. spent_less (length_of (body_code image contract tx)) c.top.at (rest_from image contract tx (c.top.at + 1)) (rest image c.top) (rests image c.below)
    v.fuel c.world.fuel (longest image) k (body_le image contract tx) (rest_le image contract tx (c.top.at + 1)) e)

-- what a body may take that begins for these frames, with this fuel
abbrev MayBegin : Image → ℕ → List MachineFrame → ℕ → Type 0
MayBegin image n frames fuel = suc ((longest image + rests image frames) + fuel * longest image) < n

begun_sums : (l x m r f g n : ℕ) → x ≤ l - 0 → l ≤ m → g ≡ f → suc ((m + r) + f * m) < n → suc ((x + r) + g * m) < n
begun_sums l x m r f g n b h e k = subst (λ y. suc ((x + r) + y * m) < n) (sym e) (omega (arith, b, h, k))

begun_below : (image : Image) (n : ℕ) (by : Caller) (id : CalleeId) (b : BodyCode) (this : ℕ) (args : List Value) (entered : Entered) (share_entered : Bool) (w : World) (fuel : ℕ)
    → w.fuel ≡ fuel → MayBegin image n by.frames fuel → Below image n (Some (goes (begun by id b this args entered share_entered w)))
begun_below image n by id b this args entered share_entered w fuel e h =
    begun_sums (length_of (body_code image id.0 id.1)) (rest_from image id.0 id.1 0) (longest image) (rests image by.frames) fuel w.fuel n (rest_le image id.0 id.1 0) (body_le image id.0 id.1) e h

object_below : (image : Image) (n : ℕ) (by : Caller) (contract : ContractId) (tx : TxId) (this : ℕ) (args : List Value) (w : World) → MayBegin image n by.frames w.fuel
    → Below image n (calls_object image by contract tx this args w)
object_below image n by contract tx this args w h =
    let v = read_object w this in
    if_below image n (is_in_progress v this) _ _ tt
    (then_below image n (object_at v.objects this) _ (λ o. then_below image n (callee image contract tx o) _ (λ id. then_below image n (body_code image id.0 id.1) _ (λ b.
    begun_below image n by id b this args on_receiver (is_shared_at_entry b) (enter this v) w.fuel (read_fuel w this) h))))

made_below : (image : Image) (n : ℕ) (by : Caller) (contract : ContractId) (constructor : Option TxId) (args : List Value) (w : World) → MayBegin image n by.frames w.fuel
    → Below image n (makes_object image by contract constructor args w)
made_below image n by contract constructor args w h =
    if_below image n (nat_le most_objects (length w.objects)) _ _ tt
    (then_below image n constructor _ (λ tx. then_below image n (body_code image contract tx) _ (λ b.
    begun_below image n by (contract, tx) b (length w.objects) args on_new false (make_object (with_read w next_item) (unfinished contract)) w.fuel refl h)))

this_below : (image : Image) (n : ℕ) (c : Configuration) (k : ℕ) (tx : TxId) (args : List Value) (w : World) → MayBegin image n (waiting c) w.fuel → Below image n (calls_this image k tx args c w)
this_below image n c k tx args w h =
    then_below image n (body_code image c.top.contract tx) _ (λ b. begun_below image n (caller c k) (c.top.contract, tx) b c.top.this args on_this c.top.share_entered w w.fuel refl h)

waiting_sums : (x y r m f g : ℕ) → x < y → suc f ≡ g → suc ((m + (x + r)) + f * m) < suc ((y + r) + g * m)
waiting_sums x y r m f g h e = subst (λ k. suc ((m + (x + r)) + f * m) < suc ((y + r) + k * m)) e (grind arith)

-- a caller may begin a body with one unit less
may_begin : (image : Image) (c : Configuration) (fuel : ℕ) → HasNext image c.top → suc fuel ≡ c.world.fuel → MayBegin image (steps_most image c) (waiting c) fuel
may_begin image c fuel k e =
    waiting_sums (rest_from image c.top.contract c.top.tx (c.top.at + 1)) (rest image c.top) (rests image c.below) (longest image) fuel c.world.fuel
    (less_left image c.top (c.top.at + 1) k (inl (next_less c.top.at))) e

-- Returns.

leave_sums : (x s r f g m : ℕ) → 0 < x → f ≡ g → suc ((s + r) + f * m) < suc ((x + (s + r)) + g * m)
leave_sums x s r f g m h e = subst (λ k. suc ((s + r) + f * m) < suc ((x + (s + r)) + k * m)) e (omega (arith, h))

resumes_below : (image : Image) (c : Configuration) (fs : List MachineFrame) (into : ℕ) (result : Option Value) (w : World) → HasNext image c.top → c.below ≡ fs → w.fuel ≡ c.world.fuel
    → Below image (steps_most image c) (resumes fs into result w)
resumes_below image c [] into result w k e u = tt
resumes_below image c (f ∷ fs) into result w k e u = then_below image _ (with_result f.slots into result) _ (λ slots.
    subst (λ x. suc ((rest image f + rests image fs) + w.fuel * longest image) < suc ((rest image c.top + rests image x) + c.world.fuel * longest image)) (sym e)
    (leave_sums (rest image c.top) (rest image f) (rests image fs) w.fuel c.world.fuel (longest image) (some_left image c.top k) u))

returns_below : (image : Image) (c : Configuration) (result : Option Value) → HasNext image c.top → Below image (steps_most image c) (returns result c)
returns_below image c result k = resumes_below image c c.below c.top.into _ (world_left c.top c.world) k refl (left_fuel c.top c.world)

-- Tests, changes and marks.

branches_below : (image : Image) (c : Configuration) (w : World) (t : Option ℕ) (target : ℕ) (holds : Bool) → HasNext image c.top → IsAheadOrUnit image c.top.contract c.top.tx c.top.at target → w.fuel ≡ c.world.fuel
    → Below image (steps_most image c) (branches t target (with_world w c) holds)
branches_below image c w t target true k h u = on_below image c c.top.slots (t ∷ c.top.tests) (with_lock t w) k (lock_fuel t w ∙ u)
branches_below image c w t target false k h u = to_below image c target w k h u

test_below : (image : Image) (c : Configuration) (a : ℕ) (of : ContractId) (state : StateId) (target : ℕ) → HasNext image c.top → IsAheadOrUnit image c.top.contract c.top.tx c.top.at target
    → Below image (steps_most image c) (test_step image a of state target c)
test_below image c a of state target k h = then_below image _ (reference_at c.top.slots a) _ (λ n. then_below image _ (object_at c.world.objects n) _ (λ o.
    let d = with_world (read_object c.world n) c in
    if_below image _ (a == 0) _ _
    (if_below image _ (is_locked_out d n) _ _ tt (branches_below image c (read_object c.world n) None target _ k h (read_fuel c.world n)))
    (if_below image _ (is_barred d.world n o) _ _ tt (branches_below image c (read_object c.world n) (lock_of n o) target _ k h (read_fuel c.world n)))))

ends_below : (image : Image) (c : Configuration) (ts : List (Option ℕ)) → HasNext image c.top → Below image (steps_most image c) (ends_test ts c)
ends_below image c [] k = tt
ends_below image c (t ∷ ts) k = on_below image c c.top.slots ts (without_lock t c.world) k (unlock_fuel t c.world)

edits_below : (image : Image) (c : Configuration) (f : Object → Object) → HasNext image c.top → Below image (steps_most image c) (edits_this f c)
edits_below image c f k = on_below image c c.top.slots c.top.tests (edit_object f c.top.this c.world) k (edit_fuel c.world f c.top.this)

store_below : (image : Image) (c : Configuration) (field : FieldId) (a : ℕ) → HasNext image c.top → Below image (steps_most image c) (store_step image field a c)
store_below image c field a k = then_below image _ (value_at c.top.slots a) _ (λ v. then_below image _ (this_object c) _ (λ o. then_below image _ (contract_code image o.contract) _ (λ own.
    if_below image _ (has_field_code own o.state field.0) _ None (edits_below image c (with_field field.0 v) k) tt)))

change_below : (image : Image) (c : Configuration) (state : StateId) (given : GivenSlots) → HasNext image c.top → Below image (steps_most image c) (change_step image state given c)
change_below image c state given k = then_below image _ (contract_code image c.top.contract) _ (λ own. then_below image _ (given_values c.top.slots given nothing) _ (λ got.
    if_below image _ (is_locked_out c c.top.this) _ _ tt
    (then_below image _ (this_object c) _ (λ o. if_below image _ (are_available own state given) _ None (edits_below image c (object_changed own state got) k) tt))))

marks_below : (image : Image) (c : Configuration) (mark : ℕ → World → World) (a : ℕ) → HasNext image c.top → ((n : ℕ) → (mark n c.world).fuel ≡ c.world.fuel)
    → Below image (steps_most image c) (marks_object mark a c)
marks_below image c mark a k same =
    then_below image _ (reference_at c.top.slots a) _ (λ n. then_below image _ (object_at c.world.objects n) _ (λ o. on_below image c c.top.slots c.top.tests (mark n c.world) k (same n)))

-- Instructions.

act_below : (image : Image) (i : Instruction) (c : Configuration) → LeadsAheadOrToUnit image → next_instruction image c ≡ Some i → IsBefore image i c.top → Below image (steps_most image c) (act image i c)
act_below image ins.Unit c ahead e k = unit_step_below image c k.0
act_below image (ins.Int to z) c ahead e k = sets_below image c to _ k
act_below image (ins.Bool to b) c ahead e k = sets_below image c to _ k
act_below image (ins.Text to bytes) c ahead e k = sets_below image c to _ k
act_below image (ins.Copy to a) c ahead e k = then_below image _ (value_at c.top.slots a) _ (λ v. sets_below image c to v k)
act_below image (ins.Load to field) c ahead e k = then_below image _ (this_object c) _ (λ o. then_below image _ (o.fields field.0) _ (λ v. sets_below image c to v k))
act_below image (ins.Store field a) c ahead e k = store_below image c field a k
act_below image (ins.Op to operator a b line) c ahead e k = then_below image _ (operation operator c.top.slots a b) _ (λ x. operated_below image c to line x k)
act_below image (ins.Jump target) c ahead e k = to_below image c target c.world k (ahead.jumps c.top.contract c.top.tx c.top.at target e) refl
act_below image (ins.Unless a target) c ahead e k =
    then_below image _ (truth_at c.top.slots a) _ (λ b. if_below image _ b _ _ (on_below image c c.top.slots c.top.tests c.world k refl)
    (to_below image c target c.world k (ahead.branches c.top.contract c.top.tx c.top.at a target e) refl))
act_below image (ins.Test a of state target) c ahead e k = test_below image c a of state target k (ahead.tests c.top.contract c.top.tx c.top.at a of state target e)
act_below image ins.EndTest c ahead e k = ends_below image c c.top.tests k
act_below image (ins.Change state given) c ahead e k = change_below image c state given k
act_below image (ins.New to contract args) c ahead e k =
    then_below image _ (values_at c.top.slots args) _ (λ vs. unit_below image _ c.world _
    (λ v u. made_below image _ (caller c to) contract (constructor_of image contract) vs v (may_begin image c v.fuel k u)))
act_below image (ins.Call to a contract tx args) c ahead e k = then_below image _ (reference_at c.top.slots a) _ (λ n. then_below image _ (values_at c.top.slots args) _ (λ vs.
    unit_below image _ c.world _ (λ v u. object_below image _ (caller c to) contract tx n vs v (may_begin image c v.fuel k u))))
act_below image (ins.SelfCall to tx args) c ahead e k =
    then_below image _ (values_at c.top.slots args) _ (λ vs. unit_below image _ c.world _ (λ v u. this_below image _ c to tx vs v (may_begin image c v.fuel k u)))
act_below image (ins.Share a) c ahead e k = marks_below image c mark_shared a k (λ n. shared_fuel c.world n)
act_below image (ins.Disown a) c ahead e k = marks_below image c mark_disowned a k (λ n. disowned_fuel c.world n)
act_below image ins.Ret c ahead e k = returns_below image c None k
act_below image (ins.RetValue a) c ahead e k = then_below image _ (value_at c.top.slots a) _ (λ v. returns_below image c (Some v) k)
act_below image (ins.Revert a) c ahead e k = then_below image _ (text_at c.top.slots a) _ (λ bytes. tt)

-- Steps.

pub within_body : (b : Option BodyCode) (place : ℕ) (i : Instruction) → (b >>= λ (x : BodyCode). slice_get x.instructions place) ≡ Some i → place < length_of b
within_body None place i e = absurd (none_is_some e)
within_body (Some b) place i e = slice_get_within b.instructions place i e

step_below : (image : Image) (c : Configuration) (i : Option Instruction) → LeadsAheadOrToUnit image → next_instruction image c ≡ i → Below image (steps_most image c) (i >>= λ x. act image x c)
step_below image c None ahead e = tt
step_below image c (Some i) ahead e =
    let contract = c.top.contract in
    let tx = c.top.tx in
    act_below image i c ahead e (
      within_body (body_code image contract tx) c.top.at i (instruction_in_body image contract tx c.top.at i e),
      ap (λ x. left_of_round x (length_of (body_code image contract tx) - c.top.at)) e,
    )

start_sums : (m f g : ℕ) → suc f ≡ g → suc ((m + 0) + f * m) < suc (suc (g * m))
start_sums m f g e = subst (λ k. suc ((m + 0) + f * m) < suc (suc (k * m))) e (grind arith)

enters_below : (image : Image) (e : MachineEntry) (receiver : Option ℕ) (n : ℕ) (w : World) → MayBegin image n [] w.fuel → Below image n (enters image e receiver w)
enters_below image e None n w h = made_below image n nobody e.contract (Some e.tx) e.args w h
enters_below image e (Some this) n w h = object_below image n nobody e.contract e.tx this e.args w h

-- the next step leaves fewer
pub next_below : (image : Image) (p : Phase) → LeadsAheadOrToUnit image → Below image (steps_left image p) (next_step image p)
next_below image (starting e w) ahead = unit_below image _ w _ (λ v u. enters_below image e e.receiver _ v (start_sums (longest image) v.fuel w.fuel u))
next_below image (running c) ahead = step_below image c (next_instruction image c) ahead refl

pub lowers : (image : Image) (p : Phase) (d : Configuration) → LeadsAheadOrToUnit image → next_step image p ≡ Some (goes d) → steps_left image (running d) < steps_left image p
lowers image p d ahead e = subst (Below image (steps_left image p)) e (next_below image p ahead)
