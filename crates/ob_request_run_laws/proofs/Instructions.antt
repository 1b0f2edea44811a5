-- Each kind of instruction, on two contents.
use Rattle.std.proofs.Common.{◌≡◌, ℕ, ◌+◌, inl, Bool, true, false, List, [], ◌∷◌, length, Contains, Option, Some, None, refl, sym, ap, ◌∙◌, subst, arith}
use Rattle.std.specs.Prelude.{◌==◌, nat_le, if◌then◌else◌}
use Rattle.ob_base.specs.Optional.{◌>>=◌}
use Rattle.ob_base.specs.Limits.{most_objects}
use Rattle.ob_base.specs.declared.id.ContractId.{ContractId}
use Rattle.ob_base.specs.declared.id.FieldId.{FieldId}
use Rattle.ob_base.specs.declared.id.StateId.{StateId}
use Rattle.ob_base.specs.declared.id.TxId.{TxId}
use Rattle.ob_heap_spec.specs.Values.{Value, nothing}
use Rattle.ob_heap_spec.specs.Objects.{Object, with_field, unfinished}
use Rattle.ob_heap_spec.specs.Contents.{object_at}
use Rattle.ob_heap_spec.specs.Operations.{Operated, operated, overflows, other_kinds}
use Rattle.ob_heap_spec.specs.Worlds.{ReadItem, next_item, World, by_reentry, by_full, with_read, read_object, edit_object, make_object, AllRead}
use Rattle.ob_heap_spec.specs.Marks.{mark_shared, mark_disowned, is_in_progress, is_among, enter}
use Rattle.ob_code.specs.declared.image.BodyCode.{BodyCode}
use Rattle.ob_code.specs.declared.image.Image.{Image}
use Rattle.ob_code.specs.declared.instruction.Instruction.{Instruction}
use Rattle.ob_code.specs.declared.instruction.Instruction.TheVariants as ins
use Rattle.ob_code.specs.Code.{contract_code, body_code}
use Rattle.ob_code_table.specs.Images.{constructor_of, callee, has_field_code, is_in_state_of}
use Rattle.ob_machine_steps.specs.Slots.{value_at, truth_at, text_at, reference_at, values_at, with_value_at}
use Rattle.ob_machine_steps.specs.Configurations.{Entered, on_receiver, on_this, on_new, MachineFrame, Configuration, ended, Next, goes, stops, abort}
use Rattle.ob_machine_steps.specs.Parts.{with_world, sets, with_unit, this_object}
use Rattle.ob_machine_steps.specs.Straight.{operation, with_operated, marks_object}
use Rattle.ob_machine_steps.specs.Changing.{GivenSlots, given_values, edits_this, are_available, object_changed, is_locked_out, store_step, change_step}
use Rattle.ob_machine_steps.specs.Testing.{with_lock, without_lock, without_locks, branches, tests_this, tests_other, is_barred, lock_of, ends_test, test_step}
use Rattle.ob_machine_steps.specs.Calling.{Caller, caller, answers, begun, calls_object, calls_this, makes_object}
use Rattle.ob_machine_steps.specs.Returning.{with_result, without_progress, world_left, resumes, returns}
use Rattle.ob_machine_steps.specs.Steps.{act, next_instruction}
use Rattle.ob_machine_steps.specs.Entries.{MachineEntry, Phase, starting, running, nobody, enters, next_step}
use Rattle.ob_machine_steps.specs.Runs.{world_of}
use Rattle.ob_request_run_laws.specs.Locality.{Setting, Alike, onto, configuration_onto, phase_onto, IsGood, IsTold, AreTold, IsGoodPhase}
use Rattle.ob_request_run_laws.proofs.Lists.{is_below, all_read_self, all_read_on}
use Rattle.ob_request_run_laws.proofs.Moves.{HasAlike, Moves, moves_self, told_known, reads_told, reads_grow, reads_objects, reads_good, reads_progress, read_moves, edit_moves, MarkMoves, shared_moves, disowned_moves, make_moves, enter_moves, leave_moves, locks_move, next_moves, no_progress}
use Rattle.ob_request_run_laws.proofs.Follows.{Follows, follows_on, then_follows, found_follows, if_follows, are_told_on, moves_follow, abort_follows, units_follow, same_follows, world_follows}

-- what each of them has before it
record Before (s : Setting) (c : Configuration) (ys : List Object) : Type 0 where
  good : IsGood s.count c.world
  told : AreTold s.count c.world.reads (c.top ∷ c.below)
  alike : HasAlike s c.world ys

-- Slots and places.

goes_follows : (s : Setting) (c : Configuration) (ys : List Object) → Before s c ys → (f : MachineFrame) → f.this ≡ c.top.this
    → Follows s c.world.reads (Some (goes (record c { top = f }))) (Some (goes (record c { top = f; world = onto ys c.world })))
goes_follows s c ys b f e = same_follows s f c.below c.world ys b.good b.alike (subst (λ n. IsTold s.count c.world.reads n) (sym e) b.told.0, b.told.1)

sets_follows : (s : Setting) (c : Configuration) (ys : List Object) → Before s c ys → (k : ℕ) (v : Value) → Follows s c.world.reads (sets k v c) (sets k v (configuration_onto ys c))
sets_follows s c ys b k v = then_follows s c.world.reads (with_value_at c.top.slots k v) _ _ (λ slots. goes_follows s c ys b (record c.top { at = c.top.at + 1; slots = slots }) refl)

operated_follows : (s : Setting) (c : Configuration) (ys : List Object) → Before s c ys → (k line : ℕ) (x : Operated)
    → Follows s c.world.reads (with_operated line c.world x (λ v. sets k v c)) (with_operated line (onto ys c.world) x (λ v. sets k v (configuration_onto ys c)))
operated_follows s c ys b k line (operated v) = sets_follows s c ys b k v
operated_follows s c ys b k line overflows = abort_follows s _ c.world ys
operated_follows s c ys b k line other_kinds = tt

-- `this`.

-- the object that is `this`
this_follows : (s : Setting) (c : Configuration) (ys : List Object) → Before s c ys → (f g : Object → Option Next) → ((o : Object) → this_object c ≡ Some o → Follows s c.world.reads (f o) (g o))
    → Follows s c.world.reads (this_object c >>= f) (this_object (configuration_onto ys c) >>= g)
this_follows s c ys b f g h = found_follows s c.world.reads c.world.reads (this_object c) (this_object (configuration_onto ys c)) f g (all_read_self c.world.reads)
    (λ o e all. (b.alike all).known c.top.this (told_known s c.world c.top.this o b.good e b.told.0 all)) h

edits_follows : (s : Setting) (c : Configuration) (ys : List Object) → Before s c ys → (f : Object → Object) (o : Object) → this_object c ≡ Some o
    → Follows s c.world.reads (edits_this f c) (edits_this f (configuration_onto ys c))
edits_follows s c ys b f o e = moves_follow s c.world.reads (record c.top { at = c.top.at + 1 }) c.below (edit_object f c.top.this c.world) (edit_object f c.top.this (onto ys c.world)) b.told
    (edit_moves s f c.world ys c.top.this o b.good b.alike e b.told.0)

store_follows : (s : Setting) (image : Image) (c : Configuration) (ys : List Object) → Before s c ys → (field : FieldId) (a : ℕ)
    → Follows s c.world.reads (store_step image field a c) (store_step image field a (configuration_onto ys c))
store_follows s image c ys b field a = then_follows s c.world.reads (value_at c.top.slots a) _ _ (λ v. this_follows s c ys b _ _ (λ o e. then_follows s c.world.reads (contract_code image o.contract) _ _ (λ own.
    if_follows s c.world.reads (has_field_code own o.state field.0) _ None _ None (edits_follows s c ys b (with_field field.0 v) o e) tt)))

change_follows : (s : Setting) (image : Image) (c : Configuration) (ys : List Object) → Before s c ys → (state : StateId) (given : GivenSlots)
    → Follows s c.world.reads (change_step image state given c) (change_step image state given (configuration_onto ys c))
change_follows s image c ys b state given = then_follows s c.world.reads (contract_code image c.top.contract) _ _ (λ own. then_follows s c.world.reads (given_values c.top.slots given nothing) _ _ (λ got.
    if_follows s c.world.reads (is_locked_out c c.top.this) _ _ _ _ (abort_follows s _ c.world ys)
    (this_follows s c ys b _ _ (λ o e. if_follows s c.world.reads (are_available own state given) _ None _ None (edits_follows s c ys b (object_changed own state got) o e) tt))))

-- Tests and marks.

-- an object that is found and read is the same in both
found_same : (s : Setting) (w : World) (ys : List Object) (n : ℕ) (o : Object) → IsGood s.count w → HasAlike s w ys → object_at w.objects n ≡ Some o → AllRead (read_object w n).reads s.items
    → object_at ys n ≡ object_at w.objects n
found_same s w ys n o good alike e all =
    (alike (all_read_on w.reads (read_object w n).reads s.items (reads_grow w n) all)).known n
    (told_known s (read_object w n) n o (reads_good s.count w n good) (ap (λ xs. object_at xs n) (reads_objects w n) ∙ e) (reads_told s.count w n good) all)

-- what a configuration has in another world of the run
record BeforeIn (s : Setting) (c : Configuration) (w : World) (ys : List Object) : Type 0 where
  good : IsGood s.count w
  told : AreTold s.count w.reads (c.top ∷ c.below)
  alike : HasAlike s w ys

lock_moves : (s : Setting) (w : World) (ys : List Object) (t : Option ℕ) → IsGood s.count w → HasAlike s w ys → Moves s w.reads (with_lock t w) (with_lock t (onto ys w))
lock_moves s w ys None good alike = moves_self s w ys good alike
lock_moves s w ys (Some n) good alike = locks_move s w ys _ good alike

branches_follow : (s : Setting) (c : Configuration) (w : World) (ys : List Object) → BeforeIn s c w ys → (t : Option ℕ) (target : ℕ) (holds : Bool)
    → Follows s w.reads (branches t target (with_world w c) holds) (branches t target (with_world (onto ys w) c) holds)
branches_follow s c w ys b t target true =
    moves_follow s w.reads (record c.top { at = c.top.at + 1; tests = t ∷ c.top.tests }) c.below (with_lock t w) (with_lock t (onto ys w)) b.told (lock_moves s w ys t b.good b.alike)
branches_follow s c w ys b t target false = same_follows s (record c.top { at = target }) c.below w ys b.good b.alike b.told

-- a test once its object was read, in this world
abbrev tested : ℕ → ℕ → Object → ℕ → Configuration → Bool → World → Option Next
tested a n o target c holds w = if a == 0 then tests_this n target (with_world w c) holds else tests_other n o target (with_world w c) holds

tested_follows : (s : Setting) (c : Configuration) (w : World) (ys : List Object) → BeforeIn s c w ys → (a n : ℕ) (o : Object) (target : ℕ) (holds : Bool)
    → Follows s w.reads (tested a n o target c holds w) (tested a n o target c holds (onto ys w))
tested_follows s c w ys b a n o target holds = if_follows s w.reads (a == 0) _ _ _ _
    (if_follows s w.reads (is_locked_out (with_world w c) n) _ _ _ _ (abort_follows s _ w ys) (branches_follow s c w ys b None target holds))
    (if_follows s w.reads (is_barred w n o) _ _ _ _ (abort_follows s _ w ys) (branches_follow s c w ys b (lock_of n o) target holds))

test_follows : (s : Setting) (image : Image) (c : Configuration) (ys : List Object) → Before s c ys → (a : ℕ) (of : ContractId) (state : StateId) (target : ℕ)
    → Follows s c.world.reads (test_step image a of state target c) (test_step image a of state target (configuration_onto ys c))
test_follows s image c ys b a of state target = then_follows s c.world.reads (reference_at c.top.slots a) _ _ (λ n.
    found_follows s c.world.reads (read_object c.world n).reads (object_at c.world.objects n) (object_at ys n) _ _ (reads_grow c.world n) (λ o e all. found_same s c.world ys n o b.good b.alike e all)
    (λ o e.
    let m = read_moves s c.world ys n o b.good b.alike e in
    let test = tested a n o target c (is_in_state_of image of state o) in
    follows_on s (read_object c.world n).reads (read_object c.world n).reads _ (test (onto m.ys (read_object c.world n))) _ (all_read_self (read_object c.world n).reads) (λ all. ap test (m.is all))
    (tested_follows s c (read_object c.world n) m.ys (record { good = m.good; told = are_told_on s.count c.world.reads (read_object c.world n).reads (c.top ∷ c.below) m.grows b.told; alike = m.alike }) a n o target _)))

unlock_moves : (s : Setting) (w : World) (ys : List Object) (t : Option ℕ) → IsGood s.count w → HasAlike s w ys → Moves s w.reads (without_lock t w) (without_lock t (onto ys w))
unlock_moves s w ys None good alike = moves_self s w ys good alike
unlock_moves s w ys (Some n) good alike = locks_move s w ys _ good alike

ends_follows : (s : Setting) (c : Configuration) (ys : List Object) → Before s c ys → (ts : List (Option ℕ)) → Follows s c.world.reads (ends_test ts c) (ends_test ts (configuration_onto ys c))
ends_follows s c ys b [] = tt
ends_follows s c ys b (t ∷ ts) =
    moves_follow s c.world.reads (record c.top { at = c.top.at + 1; tests = ts }) c.below (without_lock t c.world) (without_lock t (onto ys c.world)) b.told (unlock_moves s c.world ys t b.good b.alike)

marks_follow : (s : Setting) (c : Configuration) (ys : List Object) → Before s c ys → (mark : ℕ → World → World) (a : ℕ) → MarkMoves mark
    → Follows s c.world.reads (marks_object mark a c) (marks_object mark a (configuration_onto ys c))
marks_follow s c ys b mark a h = then_follows s c.world.reads (reference_at c.top.slots a) _ _ (λ n.
    found_follows s c.world.reads (read_object c.world n).reads (object_at c.world.objects n) (object_at ys n) _ _ (reads_grow c.world n) (λ o e all. found_same s c.world ys n o b.good b.alike e all)
    (λ o e. moves_follow s (read_object c.world n).reads (record c.top { at = c.top.at + 1 }) c.below (mark n c.world) (mark n (onto ys c.world))
    (are_told_on s.count c.world.reads (read_object c.world n).reads (c.top ∷ c.below) (reads_grow c.world n) b.told) (h s c.world ys n o b.good b.alike e)))

-- Calls.

-- a call of an object that was read, in this world
abbrev called : Image → Caller → ContractId → TxId → ℕ → List Value → World → Option Next
called image by contract tx n args v =
    if is_in_progress v n then Some (abort (by_reentry n) v)
    else object_at v.objects n >>= λ o. callee image contract tx o >>= answers image by n args v

called_follows : (s : Setting) (image : Image) (by : Caller) (contract : ContractId) (tx : TxId) (n : ℕ) (args : List Value) (w : World) (ys : List Object) → IsGood s.count w → HasAlike s w ys
    → AreTold s.count w.reads by.frames → IsTold s.count w.reads n → Follows s w.reads (called image by contract tx n args w) (called image by contract tx n args (onto ys w))
called_follows s image by contract tx n args w ys good alike told this = if_follows s w.reads (is_in_progress w n) _ _ _ _ (abort_follows s _ w ys)
    (found_follows s w.reads w.reads (object_at w.objects n) (object_at ys n) _ _ (all_read_self w.reads) (λ o e all. (alike all).known n (told_known s w n o good e this all))
    (λ o e. then_follows s w.reads (callee image contract tx o) _ _ (λ id. then_follows s w.reads (body_code image id.0 id.1) _ _ (λ b.
    moves_follow s w.reads _ by.frames (enter n w) (enter n (onto ys w)) (this, told) (enter_moves s w ys n good alike (is_below w.objects n o e))))))

not_called : (s : Setting) (r : List ReadItem) (image : Image) (by : Caller) (contract : ContractId) (tx : TxId) (n : ℕ) (args : List Value) (v : World) (y : Option Next)
    → is_in_progress v n ≡ false → object_at v.objects n ≡ None → Follows s r (called image by contract tx n args v) y
not_called s r image by contract tx n args v y e f = rw (e, f) tt

object_by : (s : Setting) (image : Image) (by : Caller) (contract : ContractId) (tx : TxId) (n : ℕ) (args : List Value) (w : World) (ys : List Object) → IsGood s.count w → HasAlike s w ys
    → AreTold s.count w.reads by.frames → (x : Option Object) → object_at w.objects n ≡ x
    → Follows s w.reads (calls_object image by contract tx n args w) (calls_object image by contract tx n args (onto ys w))
object_by s image by contract tx n args w ys good alike told None e =
    not_called s w.reads image by contract tx n args (read_object w n) _ (ap (is_among n) (reads_progress w n) ∙ no_progress s.count w n good e) (ap (λ xs. object_at xs n) (reads_objects w n) ∙ e)
object_by s image by contract tx n args w ys good alike told (Some o) e =
    let m = read_moves s w ys n o good alike e in
    world_follows s w.reads (read_object w n) (read_object (onto ys w) n) m (called image by contract tx n args) (called image by contract tx n args)
    (called_follows s image by contract tx n args (read_object w n) m.ys m.good m.alike (are_told_on s.count w.reads (read_object w n).reads by.frames m.grows told) (reads_told s.count w n good))

object_follows : (s : Setting) (image : Image) (by : Caller) (contract : ContractId) (tx : TxId) (n : ℕ) (args : List Value) (w : World) (ys : List Object) → IsGood s.count w → HasAlike s w ys
    → AreTold s.count w.reads by.frames → Follows s w.reads (calls_object image by contract tx n args w) (calls_object image by contract tx n args (onto ys w))
object_follows s image by contract tx n args w ys good alike told = object_by s image by contract tx n args w ys good alike told (object_at w.objects n) refl

-- a call on `this`
on_this_follows : (s : Setting) (image : Image) (c : Configuration) (k : ℕ) (tx : TxId) (args : List Value) (w : World) (ys : List Object) → BeforeIn s c w ys
    → Follows s w.reads (calls_this image k tx args c w) (calls_this image k tx args (configuration_onto ys c) (onto ys w))
on_this_follows s image c k tx args w ys b = then_follows s w.reads (body_code image c.top.contract tx) _ _ (λ x.
    same_follows s _ ((caller c k).frames) w ys b.good b.alike (b.told.0, b.told))

-- New objects.

-- an object is made of this number
abbrev made : Image → Caller → ContractId → Option TxId → List Value → World → ℕ → Option Next
made image by contract constructor args v n =
    if nat_le most_objects n then Some (abort by_full v)
    else constructor >>= λ tx. body_code image contract tx >>= λ (b : BodyCode). Some (goes (begun by (contract, tx) b n args on_new false (make_object v (unfinished contract))))

made_follows : (s : Setting) (image : Image) (by : Caller) (contract : ContractId) (constructor : Option TxId) (args : List Value) (w : World) (ys : List Object) → IsGood s.count w → HasAlike s w ys
    → AreTold s.count w.reads by.frames → Contains w.reads next_item
    → Follows s w.reads (made image by contract constructor args w (length w.objects)) (made image by contract constructor args (onto ys w) (length w.objects))
made_follows s image by contract constructor args w ys good alike told next = if_follows s w.reads (nat_le most_objects (length w.objects)) _ _ _ _ (abort_follows s _ w ys)
    (then_follows s w.reads constructor _ _ (λ tx. then_follows s w.reads (body_code image contract tx) _ _ (λ b.
    moves_follow s w.reads _ by.frames (make_object w (unfinished contract)) (make_object (onto ys w) (unfinished contract)) (inl (omega (arith, good.objects)), told) (make_moves s w ys (unfinished contract) good alike next))))

makes_follows : (s : Setting) (image : Image) (by : Caller) (contract : ContractId) (constructor : Option TxId) (args : List Value) (w : World) (ys : List Object) → IsGood s.count w → HasAlike s w ys
    → AreTold s.count w.reads by.frames → Follows s w.reads (makes_object image by contract constructor args w) (makes_object image by contract constructor args (onto ys w))
makes_follows s image by contract constructor args w ys good alike told =
    let v = with_read w next_item in
    let m = next_moves s w ys good alike in
    follows_on s w.reads v.reads (made image by contract constructor args v (length w.objects)) (made image by contract constructor args (onto ys v) (length w.objects))
    (made image by contract constructor args (onto ys v) (length ys)) m.grows
    (λ all. ap (made image by contract constructor args (onto ys v)) ((m.alike all).next (all next_item (0, omega arith, refl))))
    (made_follows s image by contract constructor args v ys m.good m.alike (are_told_on s.count w.reads v.reads by.frames m.grows told) (0, omega arith, refl))

-- Returns.

unlocks_move : (s : Setting) (r : List ReadItem) (w v : World) (ts : List (Option ℕ)) → Moves s r w v → Moves s r (without_locks ts w) (without_locks ts v)
unlocks_move s r w v [] m = m
unlocks_move s r w v (t ∷ ts) m = unlocks_move s r (without_lock t w) (without_lock t v) ts (by t)
  where
    by : (t : Option ℕ) → Moves s r (without_lock t w) (without_lock t v)
    by None = m
    by (Some n) = let l = locks_move s w m.ys _ m.good m.alike in record { grows = m.grows; good = l.good; ys = m.ys; is = λ all. ap (without_lock (Some n)) (m.is all); alike = m.alike }

progress_moves : (s : Setting) (r : List ReadItem) (e : Entered) (n : ℕ) (w v : World) → Moves s r w v → Moves s r (without_progress e n w) (without_progress e n v)
progress_moves s r on_receiver n w v m =
    let l = leave_moves s w m.ys n m.good m.alike in record { grows = m.grows; good = l.good; ys = m.ys; is = λ all. ap (without_progress on_receiver n) (m.is all); alike = m.alike }
progress_moves s r on_this n w v m = m
progress_moves s r on_new n w v m = m

resumes_follow : (s : Setting) (r : List ReadItem) (fs : List MachineFrame) (into : ℕ) (result : Option Value) (w u : World) → AreTold s.count r fs → Moves s r w u
    → Follows s r (resumes fs into result w) (resumes fs into result u)
resumes_follow s r [] into result w u told m = record { grows = m.grows; good = m.good; ys = m.ys; is = λ all. ap (λ x. Some (stops (ended result x))) (m.is all); alike = m.alike }
resumes_follow s r (f ∷ fs) into result w u told m = then_follows s r (with_result f.slots into result) _ _ (λ slots. moves_follow s r (record f { slots = slots }) fs w u told m)

returns_follow : (s : Setting) (c : Configuration) (ys : List Object) → Before s c ys → (result : Option Value) → Follows s c.world.reads (returns result c) (returns result (configuration_onto ys c))
returns_follow s c ys b result =
    resumes_follow s c.world.reads c.below c.top.into _ (world_left c.top c.world) (world_left c.top (onto ys c.world)) b.told.1
    (progress_moves s c.world.reads c.top.entered c.top.this _ _ (unlocks_move s c.world.reads c.world (onto ys c.world) c.top.tests (moves_self s c.world ys b.good b.alike)))

-- Each instruction.

unit_follows : (s : Setting) (c : Configuration) (ys : List Object) → Before s c ys → (f g : World → Option Next)
    → ((v : World) → BeforeIn s c v ys → Follows s v.reads (f v) (g (onto ys v))) → Follows s c.world.reads (with_unit c.world f) (with_unit (onto ys c.world) g)
unit_follows s c ys b f g h = units_follow s c.world.fuel c.world ys f g b.good (λ v good objects reads.
    h v (record {
      good = good;
      told = subst (λ r. AreTold s.count r (c.top ∷ c.below)) (sym reads) b.told;
      alike = λ all. subst (λ xs. Alike s xs ys) (sym objects) (b.alike (subst (λ r. AllRead r s.items) reads all));
    }))

act_follows : (s : Setting) (image : Image) (i : Instruction) (c : Configuration) (ys : List Object) → Before s c ys → Follows s c.world.reads (act image i c) (act image i (configuration_onto ys c))
act_follows s image ins.Unit c ys b = unit_follows s c ys b _ _ (λ v a. same_follows s (record c.top { at = c.top.at + 1 }) c.below v ys a.good a.alike a.told)
act_follows s image (ins.Int to z) c ys b = sets_follows s c ys b to _
act_follows s image (ins.Bool to x) c ys b = sets_follows s c ys b to _
act_follows s image (ins.Text to bytes) c ys b = sets_follows s c ys b to _
act_follows s image (ins.Copy to a) c ys b = then_follows s c.world.reads (value_at c.top.slots a) _ _ (λ v. sets_follows s c ys b to v)
act_follows s image (ins.Load to field) c ys b = this_follows s c ys b _ _ (λ o e. then_follows s c.world.reads (o.fields field.0) _ _ (λ v. sets_follows s c ys b to v))
act_follows s image (ins.Store field a) c ys b = store_follows s image c ys b field a
act_follows s image (ins.Op to operator x y line) c ys b = then_follows s c.world.reads (operation operator c.top.slots x y) _ _ (λ z. operated_follows s c ys b to line z)
act_follows s image (ins.Jump target) c ys b = goes_follows s c ys b (record c.top { at = target }) refl
act_follows s image (ins.Unless a target) c ys b = then_follows s c.world.reads (truth_at c.top.slots a) _ _ (λ x.
    if_follows s c.world.reads x _ _ _ _ (goes_follows s c ys b (record c.top { at = c.top.at + 1 }) refl) (goes_follows s c ys b (record c.top { at = target }) refl))
act_follows s image (ins.Test a of state target) c ys b = test_follows s image c ys b a of state target
act_follows s image ins.EndTest c ys b = ends_follows s c ys b c.top.tests
act_follows s image (ins.Change state given) c ys b = change_follows s image c ys b state given
act_follows s image (ins.New to contract args) c ys b = then_follows s c.world.reads (values_at c.top.slots args) _ _ (λ vs.
    unit_follows s c ys b _ _ (λ v a. makes_follows s image (caller c to) contract (constructor_of image contract) vs v ys a.good a.alike a.told))
act_follows s image (ins.Call to r contract tx args) c ys b = then_follows s c.world.reads (reference_at c.top.slots r) _ _ (λ n. then_follows s c.world.reads (values_at c.top.slots args) _ _ (λ vs.
    unit_follows s c ys b _ _ (λ v a. object_follows s image (caller c to) contract tx n vs v ys a.good a.alike a.told)))
act_follows s image (ins.SelfCall to tx args) c ys b = then_follows s c.world.reads (values_at c.top.slots args) _ _ (λ vs.
    unit_follows s c ys b _ _ (λ v a. on_this_follows s image c to tx vs v ys a))
act_follows s image (ins.Share a) c ys b = marks_follow s c ys b mark_shared a shared_moves
act_follows s image (ins.Disown a) c ys b = marks_follow s c ys b mark_disowned a disowned_moves
act_follows s image ins.Ret c ys b = returns_follow s c ys b None
act_follows s image (ins.RetValue a) c ys b = then_follows s c.world.reads (value_at c.top.slots a) _ _ (λ v. returns_follow s c ys b (Some v))
act_follows s image (ins.Revert a) c ys b = then_follows s c.world.reads (text_at c.top.slots a) _ _ (λ bytes. abort_follows s _ c.world ys)

enters_follow : (s : Setting) (image : Image) (e : MachineEntry) (receiver : Option ℕ) (w : World) (ys : List Object) → IsGood s.count w → HasAlike s w ys
    → Follows s w.reads (enters image e receiver w) (enters image e receiver (onto ys w))
enters_follow s image e None w ys good alike = makes_follows s image nobody e.contract (Some e.tx) e.args w ys good alike tt
enters_follow s image e (Some n) w ys good alike = object_follows s image nobody e.contract e.tx n e.args w ys good alike tt

-- the next step
pub step_follows : (s : Setting) (image : Image) (p : Phase) (ys : List Object) → IsGoodPhase s.count p → HasAlike s (world_of p) ys
    → Follows s (world_of p).reads (next_step image p) (next_step image (phase_onto ys p))
step_follows s image (starting e w) ys good alike = units_follow s w.fuel w ys _ _ good (λ v g objects reads.
    enters_follow s image e e.receiver v ys g (λ all. subst (λ xs. Alike s xs ys) (sym objects) (alike (subst (λ r. AllRead r s.items) reads all))))
step_follows s image (running c) ys good alike = then_follows s c.world.reads (next_instruction image c) _ _ (λ i. act_follows s image i c ys (record { good = good.0; told = good.1; alike = alike }))
