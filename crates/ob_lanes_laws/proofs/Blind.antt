-- No step of the machine looks at the mark of a disowned object.
use Rattle.std.proofs.Common.{◌≡◌, ℕ, zero, suc, ◌+◌, ◌<◌, List, [], ◌∷◌, ◌++◌, length, Option, Some, None, Bool, true, false, refl, sym, ap, ◌∙◌, arith}
use Rattle.std.specs.Prelude.{option_map, ◌==◌, nat_le, slice_set, if◌then◌else◌}
use Rattle.std.specs.Option.{option_map_or}
use Rattle.ob_base.specs.Optional.{◌>>=◌}
use Rattle.ob_base.specs.Limits.{most_objects}
use Rattle.ob_base.specs.declared.id.ContractId.{ContractId}
use Rattle.ob_base.specs.declared.id.FieldId.{FieldId}
use Rattle.ob_base.specs.declared.id.StateId.{StateId}
use Rattle.ob_base.specs.declared.id.TxId.{TxId}
use Rattle.ob_heap_spec.specs.Values.{Value, Numbered, nothing}
use Rattle.ob_heap_spec.specs.Objects.{Object, with_field, unfinished}
use Rattle.ob_heap_spec.specs.Contents.{object_at}
use Rattle.ob_heap_spec.specs.Operations.{Operated, operated, overflows, other_kinds}
use Rattle.ob_heap_spec.specs.Worlds.{object_item, next_item, World, by_reentry, by_full, is_made, with_read, read_object, set_object, edit_object, with_unit_taken}
use Rattle.ob_heap_spec.specs.Marks.{has_mark, mark_shared, mark_disowned, is_in_progress}
use Rattle.ob_code.specs.declared.image.ContractCode.{ContractCode}
use Rattle.ob_code.specs.declared.image.Image.{Image}
use Rattle.ob_code.specs.declared.instruction.Instruction.{Instruction}
use Rattle.ob_code.specs.declared.instruction.Instruction.TheVariants as ins
use Rattle.ob_code.specs.Code.{contract_code, body_code}
use Rattle.ob_code_table.specs.Images.{constructor_of, callee, has_field_code, is_in_state_of}
use Rattle.ob_machine_steps.specs.Slots.{value_at, truth_at, text_at, reference_at, values_at, with_value_at}
use Rattle.ob_machine_steps.specs.Configurations.{Entered, on_receiver, on_this, on_new, MachineFrame, Configuration, End, ended, aborted, Next, goes, stops, abort}
use Rattle.ob_machine_steps.specs.Parts.{with_world, sets, with_units, with_unit}
use Rattle.ob_machine_steps.specs.Straight.{operation, with_operated, marks_object}
use Rattle.ob_machine_steps.specs.Changing.{GivenSlots, given_values, edits_this, are_available, object_changed, is_locked_out, store_step, change_step}
use Rattle.ob_machine_steps.specs.Testing.{with_lock, without_lock, without_locks, branches, tests_this, tests_other, is_barred, lock_of, ends_test, test_step}
use Rattle.ob_machine_steps.specs.Calling.{Caller, caller, begun, answers, calls_object, calls_this, makes_object}
use Rattle.ob_machine_steps.specs.Returning.{with_result, without_progress, world_left, resumes, returns}
use Rattle.ob_machine_steps.specs.Steps.{act, next_instruction}
use Rattle.ob_machine_steps.specs.Entries.{MachineEntry, Phase, starting, running, nobody, enters, next_step}
use Rattle.ob_machine_steps.specs.Runs.{world_of}

-- Objects.

-- the numbers are the same
abbrev pub is_same : ℕ → ℕ → Bool
is_same zero zero = true
is_same zero (suc m) = false
is_same (suc n) zero = false
is_same (suc n) (suc m) = is_same n m

-- an object with the mark of a disowned one, where a test holds
abbrev pub mark_if : Bool → Object → Object
mark_if true o = record o { disowned = true }
mark_if false o = o

-- objects of which that of a number has the mark of a disowned one
abbrev pub marked : ℕ → List Object → List Object
marked n [] = []
marked zero (o ∷ os) = record o { disowned = true } ∷ os
marked (suc n) (o ∷ os) = o ∷ marked n os

same_option : (x : Option Object) → x ≡ option_map (λ (o : Object). o) x
same_option None = refl
same_option (Some o) = refl

pub marked_get : (n m : ℕ) (xs : List Object) → object_at (marked n xs) m ≡ option_map (mark_if (is_same n m)) (object_at xs m)
marked_get n m [] = refl
marked_get zero zero (o ∷ os) = refl
marked_get zero (suc m) (o ∷ os) = same_option (object_at os m)
marked_get (suc n) zero (o ∷ os) = refl
marked_get (suc n) (suc m) (o ∷ os) = marked_get n m os

pub marked_length : (n : ℕ) (xs : List Object) → length (marked n xs) ≡ length xs
marked_length n [] = refl
marked_length zero (o ∷ os) = refl
marked_length (suc n) (o ∷ os) = let e = marked_length n os in omega (arith, e)

marked_set : (n m : ℕ) (xs : List Object) (p : Object) → marked n (slice_set xs m p) ≡ slice_set (marked n xs) m (mark_if (is_same n m) p)
marked_set n m [] p = refl
marked_set zero zero (o ∷ os) p = refl
marked_set zero (suc m) (o ∷ os) p = refl
marked_set (suc n) zero (o ∷ os) p = refl
marked_set (suc n) (suc m) (o ∷ os) p = ap (λ ys. o ∷ ys) (marked_set n m os p)

marked_append : (n : ℕ) (xs : List Object) (p : Object) → n < length xs → marked n (xs ++ p ∷ []) ≡ marked n xs ++ p ∷ []
marked_append n [] p l = absurd (omega (arith, l))
marked_append zero (o ∷ os) p l = refl
marked_append (suc n) (o ∷ os) p l = ap (λ ys. o ∷ ys) (marked_append n os p (omega (arith, l)))

-- marking the object of the number itself changes nothing more
marked_own : (n m : ℕ) (xs : List Object) (o : Object) → is_same n m ≡ true → object_at xs m ≡ Some o → marked n (slice_set xs m (record o { disowned = true })) ≡ marked n xs
marked_own n m [] o e h = refl
marked_own zero zero (x ∷ xs) o e h = ap (λ (y : Option Object). option_map_or (λ (z : Object). record z { disowned = true }) y x ∷ xs) (sym h)
marked_own zero (suc m) (x ∷ xs) o e h = absurd cc
marked_own (suc n) zero (x ∷ xs) o e h = absurd cc
marked_own (suc n) (suc m) (x ∷ xs) o e h = ap (λ ys. x ∷ ys) (marked_own n m xs o e h)

-- Worlds.

-- a world in which the object of a number has the mark
abbrev pub hold : ℕ → World → World
hold n w = record w { objects = marked n w.objects }

pub if_world : (n : ℕ) (b : Bool) (u v x y : World) → u ≡ hold n x → v ≡ hold n y → (if b then u else v) ≡ hold n (if b then x else y)
if_world n true u v x y e f = e
if_world n false u v x y e f = f

read_held : (n : ℕ) (w : World) (m : ℕ) → read_object (hold n w) m ≡ hold n (read_object w m)
read_held n w m =
    ap (λ l. if nat_le l (m + w.made) then hold n w else with_read (hold n w) (object_item m)) (marked_length n w.objects)
    ∙ if_world n (is_made w m) (hold n w) (with_read (hold n w) (object_item m)) w (with_read w (object_item m)) refl refl

-- what is done to an object leaves its mark
abbrev Leaves : (Object → Object) → Type 0
Leaves f = (b : Bool) (o : Object) → mark_if b (f o) ≡ f (mark_if b o)

edited_held : (n m : ℕ) (w : World) (f : Object → Object) → Leaves f → (x : Option Object)
    → option_map_or (λ o. set_object (hold n w) m (f o)) (option_map (mark_if (is_same n m)) x) (hold n w) ≡ hold n (option_map_or (λ o. set_object w m (f o)) x w)
edited_held n m w f same None = refl
edited_held n m w f same (Some o) =
    ap (λ p. record w { objects = slice_set (marked n w.objects) m p }) (sym (same (is_same n m) o)) ∙ ap (λ xs. record w { objects = xs }) (sym (marked_set n m w.objects (f o)))

edit_held : (n : ℕ) (w : World) (f : Object → Object) (m : ℕ) → Leaves f → edit_object f m (hold n w) ≡ hold n (edit_object f m w)
edit_held n w f m same = ap (λ x. option_map_or (λ o. set_object (hold n w) m (f o)) x (hold n w)) (marked_get n m w.objects) ∙ edited_held n m w f same (object_at w.objects m)

-- Marks.

leaves_shared : Leaves (λ o. record o { shared = true })
leaves_shared true o = refl
leaves_shared false o = refl

shared_of : (b : Bool) (x : Option Object) → option_map_or (λ (o : Object). o.shared) (option_map (mark_if b) x) true ≡ option_map_or (λ (o : Object). o.shared) x true
shared_of b None = refl
shared_of true (Some o) = refl
shared_of false (Some o) = refl

-- once the object was read
share_in : (n m : ℕ) (v : World) → (if has_mark (λ o. o.shared) (hold n v) m then hold n v else edit_object (λ o. record o { shared = true }) m (hold n v))
    ≡ hold n (if has_mark (λ o. o.shared) v m then v else edit_object (λ o. record o { shared = true }) m v)
share_in n m v =
    ap (λ b. if b then hold n v else edit_object (λ o. record o { shared = true }) m (hold n v))
    (ap (λ x. option_map_or (λ (o : Object). o.shared) x true) (marked_get n m v.objects) ∙ shared_of (is_same n m) (object_at v.objects m))
    ∙ if_world n (has_mark (λ o. o.shared) v m) (hold n v) (edit_object (λ o. record o { shared = true }) m (hold n v)) v (edit_object (λ o. record o { shared = true }) m v) refl
    (edit_held n v (λ o. record o { shared = true }) m leaves_shared)

pub shared_held : (n m : ℕ) (w : World) → mark_shared m (hold n w) ≡ hold n (mark_shared m w)
shared_held n m w = ap (λ v. if has_mark (λ o. o.shared) v m then v else edit_object (λ o. record o { shared = true }) m v) (read_held n w m) ∙ share_in n m (read_object w m)

leaves_disowned : Leaves (λ o. record o { disowned = true })
leaves_disowned true o = refl
leaves_disowned false o = refl

-- an object is marked, by whether it is that of the number, whether it is there, and whether it has the mark
disown_by : (n m : ℕ) (v : World) (b : Bool) (x : Option Object) → is_same n m ≡ b → object_at v.objects m ≡ x
    → (if option_map_or (λ (o : Object). o.disowned) (option_map (mark_if b) x) true then hold n v else option_map_or (λ o. set_object (hold n v) m (record o { disowned = true })) (option_map (mark_if b) x) (hold n v))
    ≡ hold n (if option_map_or (λ (o : Object). o.disowned) x true then v else option_map_or (λ o. set_object v m (record o { disowned = true })) x v)
disown_by n m v b None e h = refl
disown_by n m v false (Some o) e h = by o.disowned
  where
    by : (d : Bool) → (if d then hold n v else set_object (hold n v) m (record o { disowned = true })) ≡ hold n (if d then v else set_object v m (record o { disowned = true }))
    by true = refl
    by false = ap (λ xs. record v { objects = xs })
        (ap (λ b. slice_set (marked n v.objects) m (mark_if b (record o { disowned = true }))) (sym e) ∙ sym (marked_set n m v.objects (record o { disowned = true })))
disown_by n m v true (Some o) e h = by o.disowned
  where
    by : (d : Bool) → hold n v ≡ hold n (if d then v else set_object v m (record o { disowned = true }))
    by true = refl
    by false = ap (λ xs. record v { objects = xs }) (sym (marked_own n m v.objects o e h))

disown_in : (n m : ℕ) (v : World) → (if has_mark (λ o. o.disowned) (hold n v) m then hold n v else edit_object (λ o. record o { disowned = true }) m (hold n v))
    ≡ hold n (if has_mark (λ o. o.disowned) v m then v else edit_object (λ o. record o { disowned = true }) m v)
disown_in n m v =
    ap (λ x. if option_map_or (λ (o : Object). o.disowned) x true then hold n v else option_map_or (λ o. set_object (hold n v) m (record o { disowned = true })) x (hold n v)) (marked_get n m v.objects)
    ∙ disown_by n m v (is_same n m) (object_at v.objects m) refl refl

pub disowned_held : (n m : ℕ) (w : World) → mark_disowned m (hold n w) ≡ hold n (mark_disowned m w)
disowned_held n m w = ap (λ v. if has_mark (λ o. o.disowned) v m then v else edit_object (λ o. record o { disowned = true }) m v) (read_held n w m) ∙ disown_in n m (read_object w m)

-- Locks and progress.

lock_held : (n : ℕ) (t : Option ℕ) (w : World) → with_lock t (hold n w) ≡ hold n (with_lock t w)
lock_held n None w = refl
lock_held n (Some m) w = refl

unlock_held : (n : ℕ) (t : Option ℕ) (w : World) → without_lock t (hold n w) ≡ hold n (without_lock t w)
unlock_held n None w = refl
unlock_held n (Some m) w = refl

unlocks_held : (n : ℕ) (ts : List (Option ℕ)) (w : World) → without_locks ts (hold n w) ≡ hold n (without_locks ts w)
unlocks_held n [] w = refl
unlocks_held n (t ∷ ts) w = ap (without_locks ts) (unlock_held n t w) ∙ unlocks_held n ts (without_lock t w)

progress_held : (n : ℕ) (e : Entered) (m : ℕ) (w : World) → without_progress e m (hold n w) ≡ hold n (without_progress e m w)
progress_held n on_receiver m w = refl
progress_held n on_this m w = refl
progress_held n on_new m w = refl

left_held : (n : ℕ) (f : MachineFrame) (w : World) → world_left f (hold n w) ≡ hold n (world_left f w)
left_held n f w = ap (without_progress f.entered f.this) (unlocks_held n f.tests w) ∙ progress_held n f.entered f.this (without_locks f.tests w)

-- Combinators.

-- a configuration in which the object has the mark
abbrev pub held : ℕ → Configuration → Configuration
held n c = record c { world = hold n c.world }

abbrev pub end_held : ℕ → End → End
end_held n (ended result w) = ended result (hold n w)
end_held n (aborted cause s) = aborted cause s

abbrev pub next_held : ℕ → Next → Next
next_held n (goes c) = goes (held n c)
next_held n (stops e) = stops (end_held n e)

abbrev pub phase_held : ℕ → Phase → Phase
phase_held n (starting e w) = starting e (hold n w)
phase_held n (running c) = running (held n c)

-- a step that leads to the same with the mark
abbrev Same : ℕ → Option Next → Option Next → Type 0
Same n x y = x ≡ option_map (next_held n) y

then_same : (n : ℕ) {A : Type 0} (o : Option A) (f g : A → Option Next) → ((a : A) → Same n (f a) (g a)) → Same n (o >>= f) (o >>= g)
then_same n None f g h = refl
then_same n (Some a) f g h = h a

-- what follows from an object looks at its mark in neither
object_by : (n : ℕ) (b : Bool) (x : Option Object) (f g : Object → Option Next) → ((d : Bool) (o : Object) → Same n (f (record o { disowned = d })) (g o)) → Same n (option_map (mark_if b) x >>= f) (x >>= g)
object_by n b None f g h = refl
object_by n true (Some o) f g h = h true o
object_by n false (Some o) f g h = h o.disowned o

then_object : (n m : ℕ) (xs : List Object) (f g : Object → Option Next) → ((d : Bool) (o : Object) → Same n (f (record o { disowned = d })) (g o)) → Same n (object_at (marked n xs) m >>= f) (object_at xs m >>= g)
then_object n m xs f g h = ap (λ x. x >>= f) (marked_get n m xs) ∙ object_by n (is_same n m) (object_at xs m) f g h

if_same : (n : ℕ) (b : Bool) (x y u v : Option Next) → Same n x u → Same n y v → Same n (if b then x else y) (if b then u else v)
if_same n true x y u v e f = e
if_same n false x y u v e f = f

units_same : (n k : ℕ) (w : World) (f g : World → Option Next) → ((v : World) → v.objects ≡ w.objects → Same n (f (hold n v)) (g v)) → Same n (with_units k (hold n w) f) (with_units k w g)
units_same n zero w f g h = refl
units_same n (suc k) w f g h = h (with_unit_taken w k) refl

unit_same : (n : ℕ) (w : World) (f g : World → Option Next) → ((v : World) → v.objects ≡ w.objects → Same n (f (hold n v)) (g v)) → Same n (with_unit (hold n w) f) (with_unit w g)
unit_same n w f g h = units_same n w.fuel w f g h

world_same : (n : ℕ) (f : MachineFrame) (fs : List MachineFrame) (u w : World) → u ≡ hold n w → Same n (Some (goes (record { top = f; below = fs; world = u }))) (Some (goes (record { top = f; below = fs; world = w })))
world_same n f fs u w e = ap (λ x. Some (goes (record { top = f; below = fs; world = x }))) e

sets_same : (n : ℕ) (c : Configuration) (k : ℕ) (v : Value) → Same n (sets k v (held n c)) (sets k v c)
sets_same n c k v = then_same n (with_value_at c.top.slots k v) _ _ (λ slots. refl)

operated_same : (n : ℕ) (c : Configuration) (k line : ℕ) (x : Operated) → Same n (with_operated line (hold n c.world) x (λ v. sets k v (held n c))) (with_operated line c.world x (λ v. sets k v c))
operated_same n c k line (operated v) = sets_same n c k v
operated_same n c k line overflows = refl
operated_same n c k line other_kinds = refl

edits_same : (n : ℕ) (c : Configuration) (f : Object → Object) → Leaves f → Same n (edits_this f (held n c)) (edits_this f c)
edits_same n c f same = world_same n (record c.top { at = c.top.at + 1 }) c.below _ (edit_object f c.top.this c.world) (edit_held n c.world f c.top.this same)

leaves_field : (k : ℕ) (v : Value) → Leaves (with_field k v)
leaves_field k v true o = refl
leaves_field k v false o = refl

store_same : (n : ℕ) (image : Image) (c : Configuration) (field : FieldId) (a : ℕ) → Same n (store_step image field a (held n c)) (store_step image field a c)
store_same n image c field a = then_same n (value_at c.top.slots a) _ _ (λ v. then_object n c.top.this c.world.objects _ _ (λ d o. then_same n (contract_code image o.contract) _ _ (λ own.
    if_same n (has_field_code own o.state field.0) _ None _ None (edits_same n c (with_field field.0 v) (leaves_field field.0 v)) refl)))

change_same : (n : ℕ) (image : Image) (c : Configuration) (state : StateId) (given : GivenSlots) → Same n (change_step image state given (held n c)) (change_step image state given c)
change_same n image c state given = then_same n (contract_code image c.top.contract) _ _ (λ own. then_same n (given_values c.top.slots given nothing) _ _ (λ got.
    if_same n (is_locked_out c c.top.this) _ _ _ _ refl
    (then_object n c.top.this c.world.objects _ _ (λ d o. if_same n (are_available own state given) _ None _ None (edits_same n c (object_changed own state got) (λ b p. changed own got b p)) refl))))
  where
    changed : (own : ContractCode) (got : Numbered Value) → Leaves (object_changed own state got)
    changed own got true p = refl
    changed own got false p = refl

branches_same : (n : ℕ) (c : Configuration) (w : World) (t : Option ℕ) (target : ℕ) (holds : Bool) → Same n (branches t target (with_world (hold n w) c) holds) (branches t target (with_world w c) holds)
branches_same n c w t target true = world_same n (record c.top { at = c.top.at + 1; tests = t ∷ c.top.tests }) c.below _ (with_lock t w) (lock_held n t w)
branches_same n c w t target false = refl

-- a test once its object was read, in this world
abbrev tested : ℕ → ℕ → Object → ℕ → Configuration → Bool → World → Option Next
tested a m o target c holds w = if a == 0 then tests_this m target (with_world w c) holds else tests_other m o target (with_world w c) holds

tested_same : (n : ℕ) (c : Configuration) (a m : ℕ) (d : Bool) (o : Object) (target : ℕ) (holds : Bool) (w : World)
    → Same n (tested a m (record o { disowned = d }) target c holds (hold n w)) (tested a m o target c holds w)
tested_same n c a m d o target holds w = if_same n (a == 0) _ _ _ _
    (if_same n (is_locked_out (with_world w c) m) _ _ _ _ refl (branches_same n c w None target holds))
    (if_same n (is_barred w m o) _ _ _ _ refl (branches_same n c w (lock_of m o) target holds))

test_same : (n : ℕ) (image : Image) (c : Configuration) (a : ℕ) (of : ContractId) (state : StateId) (target : ℕ) → Same n (test_step image a of state target (held n c)) (test_step image a of state target c)
test_same n image c a of state target = then_same n (reference_at c.top.slots a) _ _ (λ m. then_object n m c.world.objects _ _ (λ d o.
    ap (tested a m (record o { disowned = d }) target c (is_in_state_of image of state o)) (read_held n c.world m) ∙ tested_same n c a m d o target (is_in_state_of image of state o) (read_object c.world m)))

ends_same : (n : ℕ) (c : Configuration) (ts : List (Option ℕ)) → Same n (ends_test ts (held n c)) (ends_test ts c)
ends_same n c [] = refl
ends_same n c (t ∷ ts) = world_same n (record c.top { at = c.top.at + 1; tests = ts }) c.below _ (without_lock t c.world) (unlock_held n t c.world)

marks_same : (n : ℕ) (c : Configuration) (mark : ℕ → World → World) (a : ℕ) → ((m : ℕ) → mark m (hold n c.world) ≡ hold n (mark m c.world)) → Same n (marks_object mark a (held n c)) (marks_object mark a c)
marks_same n c mark a h = then_same n (reference_at c.top.slots a) _ _ (λ m. then_object n m c.world.objects _ _
    (λ d o. world_same n (record c.top { at = c.top.at + 1 }) c.below _ (mark m c.world) (h m)))

-- a call of an object that was read, in this world
abbrev called : Image → Caller → ContractId → TxId → ℕ → List Value → World → Option Next
called image by contract tx m args v =
    if is_in_progress v m then Some (abort (by_reentry m) v)
    else object_at v.objects m >>= λ o. callee image contract tx o >>= answers image by m args v

called_same : (n : ℕ) (image : Image) (by : Caller) (contract : ContractId) (tx : TxId) (m : ℕ) (args : List Value) (v : World) → Same n (called image by contract tx m args (hold n v)) (called image by contract tx m args v)
called_same n image by contract tx m args v = if_same n (is_in_progress v m) _ _ _ _ refl
    (then_object n m v.objects _ _ (λ d o. then_same n (callee image contract tx o) _ _ (λ id. then_same n (body_code image id.0 id.1) _ _ (λ b. refl))))

object_same : (n : ℕ) (image : Image) (by : Caller) (contract : ContractId) (tx : TxId) (m : ℕ) (args : List Value) (w : World)
    → Same n (calls_object image by contract tx m args (hold n w)) (calls_object image by contract tx m args w)
object_same n image by contract tx m args w = ap (called image by contract tx m args) (read_held n w m) ∙ called_same n image by contract tx m args (read_object w m)

-- a `new` with the number of its object, and the objects with it
abbrev made_with : Image → Caller → ContractId → Option TxId → List Value → World → ℕ → List Object → Option Next
made_with image by contract constructor args w l ys =
    if nat_le most_objects l then Some (abort by_full (with_read w next_item))
    else constructor >>= λ tx. body_code image contract tx >>= λ b. Some (goes (begun by (contract, tx) b l args on_new false (record (with_read w next_item) { objects = ys; made = suc w.made })))

made_same : (n : ℕ) (image : Image) (by : Caller) (contract : ContractId) (constructor : Option TxId) (args : List Value) (w : World) → n < length w.objects
    → Same n (makes_object image by contract constructor args (hold n w)) (makes_object image by contract constructor args w)
made_same n image by contract constructor args w l =
    ap (λ k. made_with image by contract constructor args w k (marked n w.objects ++ unfinished contract ∷ [])) (marked_length n w.objects)
    ∙ ap (made_with image by contract constructor args w (length w.objects)) (sym (marked_append n w.objects (unfinished contract) l))
    ∙ if_same n (nat_le most_objects (length w.objects)) _ _ _ _ refl (then_same n constructor _ _ (λ tx. then_same n (body_code image contract tx) _ _ (λ b. refl)))

this_same : (n : ℕ) (image : Image) (c : Configuration) (k : ℕ) (tx : TxId) (args : List Value) (w : World) → Same n (calls_this image k tx args (held n c) (hold n w)) (calls_this image k tx args c w)
this_same n image c k tx args w = then_same n (body_code image c.top.contract tx) _ _ (λ b. refl)

resumes_same : (n : ℕ) (fs : List MachineFrame) (into : ℕ) (result : Option Value) (w : World) → Same n (resumes fs into result (hold n w)) (resumes fs into result w)
resumes_same n [] into result w = refl
resumes_same n (f ∷ fs) into result w = then_same n (with_result f.slots into result) _ _ (λ slots. refl)

returns_same : (n : ℕ) (c : Configuration) (result : Option Value) → Same n (returns result (held n c)) (returns result c)
returns_same n c result = ap (resumes c.below c.top.into _) (left_held n c.top c.world) ∙ resumes_same n c.below c.top.into _ (world_left c.top c.world)

-- Instructions.

still_below : (n : ℕ) (v w : World) → v.objects ≡ w.objects → n < length w.objects → n < length v.objects
still_below n v w e l = let k = ap length e in omega (arith, k, l)

act_same : (n : ℕ) (image : Image) (i : Instruction) (c : Configuration) → n < length c.world.objects → Same n (act image i (held n c)) (act image i c)
act_same n image ins.Unit c l = unit_same n c.world _ _ (λ v e. refl)
act_same n image (ins.Int to z) c l = sets_same n c to _
act_same n image (ins.Bool to b) c l = sets_same n c to _
act_same n image (ins.Text to bytes) c l = sets_same n c to _
act_same n image (ins.Copy to a) c l = then_same n (value_at c.top.slots a) _ _ (λ v. sets_same n c to v)
act_same n image (ins.Load to field) c l = then_object n c.top.this c.world.objects _ _ (λ d o. then_same n (o.fields field.0) _ _ (λ v. sets_same n c to v))
act_same n image (ins.Store field a) c l = store_same n image c field a
act_same n image (ins.Op to operator a b line) c l = then_same n (operation operator c.top.slots a b) _ _ (λ x. operated_same n c to line x)
act_same n image (ins.Jump target) c l = refl
act_same n image (ins.Unless a target) c l = then_same n (truth_at c.top.slots a) _ _ (λ b. if_same n b _ _ _ _ refl refl)
act_same n image (ins.Test a of state target) c l = test_same n image c a of state target
act_same n image ins.EndTest c l = ends_same n c c.top.tests
act_same n image (ins.Change state given) c l = change_same n image c state given
act_same n image (ins.New to contract args) c l = then_same n (values_at c.top.slots args) _ _ (λ vs. unit_same n c.world _ _ (λ v e.
    made_same n image (caller c to) contract (constructor_of image contract) vs v (still_below n v c.world e l)))
act_same n image (ins.Call to a contract tx args) c l = then_same n (reference_at c.top.slots a) _ _ (λ m. then_same n (values_at c.top.slots args) _ _
    (λ vs. unit_same n c.world _ _ (λ v e. object_same n image (caller c to) contract tx m vs v)))
act_same n image (ins.SelfCall to tx args) c l = then_same n (values_at c.top.slots args) _ _ (λ vs. unit_same n c.world _ _ (λ v e. this_same n image c to tx vs v))
act_same n image (ins.Share a) c l = marks_same n c mark_shared a (λ m. shared_held n m c.world)
act_same n image (ins.Disown a) c l = marks_same n c mark_disowned a (λ m. disowned_held n m c.world)
act_same n image ins.Ret c l = returns_same n c None
act_same n image (ins.RetValue a) c l = then_same n (value_at c.top.slots a) _ _ (λ v. returns_same n c (Some v))
act_same n image (ins.Revert a) c l = then_same n (text_at c.top.slots a) _ _ (λ bytes. refl)

enters_same : (n : ℕ) (image : Image) (e : MachineEntry) (receiver : Option ℕ) (w : World) → n < length w.objects → Same n (enters image e receiver (hold n w)) (enters image e receiver w)
enters_same n image e None w l = made_same n image nobody e.contract (Some e.tx) e.args w l
enters_same n image e (Some m) w l = object_same n image nobody e.contract e.tx m e.args w

pub next_is_held : (n : ℕ) (image : Image) (p : Phase) → n < length (world_of p).objects → next_step image (phase_held n p) ≡ option_map (next_held n) (next_step image p)
next_is_held n image (starting e w) l = unit_same n w _ _ (λ v same. enters_same n image e e.receiver v (still_below n v w same l))
next_is_held n image (running c) l = then_same n (next_instruction image c) _ _ (λ i. act_same n image i c l)
