-- Locks and transactions in progress are sets.
use Rattle.std.proofs.Common.{◌≡◌, ℕ, zero, suc, List, [], ◌∷◌, length, Option, Some, None, Bool, true, false, refl, sym, ap, subst, true≢false, arith}
use Rattle.std.specs.Prelude.{◌==◌, ◌&&◌, ◌||◌, nat_eq, nat_le, is_some, unwrap_or, if◌then◌else◌, ⊤}
use Rattle.ob_base.specs.Optional.{◌>>=◌}
use Rattle.ob_base.specs.Limits.{most_objects}
use Rattle.ob_base.specs.declared.id.ContractId.{ContractId}
use Rattle.ob_base.specs.declared.id.FieldId.{FieldId}
use Rattle.ob_base.specs.declared.id.StateId.{StateId}
use Rattle.ob_base.specs.declared.id.TxId.{TxId}
use Rattle.ob_table.specs.declared.contract.ResolvedType.TheVariants.{Reference}
use Rattle.ob_heap_spec.specs.Values.{Value, reference, nothing}
use Rattle.ob_heap_spec.specs.Objects.{Object, with_field}
use Rattle.ob_heap_spec.specs.Contents.{object_at}
use Rattle.ob_heap_spec.specs.Operations.{Operated, operated, overflows, other_kinds}
use Rattle.ob_heap_spec.specs.Worlds.{World, first_world, read_object, with_unit_taken}
use Rattle.ob_heap_spec.specs.Marks.{is_among, without_first, is_locked, is_in_progress, mark_shared, mark_disowned, comes_into}
use Rattle.ob_source_laws.specs.Laws.{IsSameObject}
use Rattle.ob_source_laws.proofs.Follows.{Follows, follows_read_object, follows_edit, spared_this}
use Rattle.ob_source_laws.proofs.Marking.{follows_mark_shared, follows_mark_disowned, follows_into}
use Rattle.ob_code.specs.declared.image.BodyCode.{BodyCode}
use Rattle.ob_code.specs.declared.image.Image.{Image}
use Rattle.ob_code.specs.declared.image.ParamCode.{ParamCode}
use Rattle.ob_code.specs.declared.instruction.Instruction.{Instruction}
use Rattle.ob_code.specs.declared.instruction.Instruction.TheVariants as ins
use Rattle.ob_code.specs.Code.{contract_code, body_code}
use Rattle.ob_code_table.specs.Images.{constructor_of, callee, has_field_code}
use Rattle.ob_code_table.specs.ImageTables.{perm_of_code, type_of_param}
use Rattle.ob_machine_steps.specs.Slots.{value_at, truth_at, text_at, reference_at, values_at, with_value_at}
use Rattle.ob_machine_steps.specs.Configurations.{Entered, on_receiver, on_this, on_new, MachineFrame, Configuration, ended, aborted, Next, goes, stops}
use Rattle.ob_machine_steps.specs.Parts.{with_world, sets, with_units, with_unit, this_object}
use Rattle.ob_machine_steps.specs.Straight.{operation, with_operated, marks_object}
use Rattle.ob_machine_steps.specs.Changing.{GivenSlots, given_values, edits_this, are_available, object_changed, is_locked_out, store_step, change_step}
use Rattle.ob_machine_steps.specs.Testing.{with_lock, without_lock, without_locks, branches, is_barred, lock_of, ends_test, test_step}
use Rattle.ob_machine_steps.specs.Calling.{Caller, caller, calls_object, calls_this, makes_object}
use Rattle.ob_machine_steps.specs.Returning.{with_result, without_progress, world_left, resumes, returns}
use Rattle.ob_machine_steps.specs.Steps.{act, next_instruction}
use Rattle.ob_machine_steps.specs.Entries.{MachineEntry, lock_receiver, args_come_in, receiver_comes_in, comes_into_body, entry_world, Phase, starting, running, nobody, enters, next_step}
use Rattle.ob_machine_steps.specs.Runs.{Stop, after_step, after_steps, world_of}
use Rattle.ob_machine_laws.specs.Laws.{LeadsSo, HasEachOnce, LocksOnce}

-- Lists.

-- a number isn't among these
abbrev IsOut : ℕ → List ℕ → Type 0
IsOut n ns = is_among n ns ≡ false

or_false : (a b : Bool) → a || b ≡ false → (a ≡ false) × (b ≡ false)
or_false true b e = absurd (true≢false e)
or_false false b e = (refl, e)

out_cons : (n x : ℕ) (xs : List ℕ) → nat_eq n x ≡ false → IsOut n xs → IsOut n (x ∷ xs)
out_cons n x xs e h = rw e h

out_if : (n x : ℕ) (xs ys : List ℕ) (b : Bool) → nat_eq n x ≡ false → IsOut n xs → IsOut n ys → IsOut n (if b then xs else x ∷ ys)
out_if n x xs ys true e h k = h
out_if n x xs ys false e h k = out_cons n x ys e k

-- what isn't among numbers isn't among fewer
out_less : (n m : ℕ) (ns : List ℕ) → IsOut n ns → IsOut n (without_first m ns)
out_less n m [] h = refl
out_less n m (x ∷ xs) h =
    let p = or_false (nat_eq n x) (is_among n xs) h in
    out_if n x xs (without_first m xs) (nat_eq m x) p.0 p.1 (out_less n m xs p.1)

-- a number is at most once in a list
abbrev IsOnce : ℕ → List ℕ → Type 0
IsOnce n ns = IsOut n (without_first n ns)

once_head : (n x : ℕ) (xs : List ℕ) (b : Bool) → nat_eq n x ≡ b → IsOut n (if b then xs else x ∷ without_first n xs) → (b ≡ true → IsOut n xs) × (b ≡ false → IsOnce n xs)
once_head n x xs true e h = (λ f. h, λ f. absurd (true≢false f))
once_head n x xs false e h = (λ f. absurd (true≢false (sym f)), λ f. (or_false (nat_eq n x) (is_among n (without_first n xs)) h).1)

once_back : (n x : ℕ) (xs : List ℕ) (b : Bool) → nat_eq n x ≡ b → (b ≡ true → IsOut n xs) → (b ≡ false → IsOnce n xs) → IsOut n (if b then xs else x ∷ without_first n xs)
once_back n x xs true e h k = h refl
once_back n x xs false e h k = out_cons n x (without_first n xs) e (k refl)

out_once : (n : ℕ) (ns : List ℕ) → IsOut n ns → IsOnce n ns
out_once n ns h = out_less n n ns h

less_by : (n m x : ℕ) (xs : List ℕ) (b : Bool) → (nat_eq n x ≡ true → IsOut n xs) → (nat_eq n x ≡ false → IsOnce n xs) → (IsOnce n xs → IsOnce n (without_first m xs))
    → IsOnce n (if b then xs else x ∷ without_first m xs)
less_by n m x xs true h k ih = elim (nat_eq n x) as (λ b. (b ≡ true → IsOut n xs) → (b ≡ false → IsOnce n xs) → IsOnce n xs) [ true ↦ λ f g. out_once n xs (f refl) | false ↦ λ f g. g refl ] h k
less_by n m x xs false h k ih = once_back n x (without_first m xs) (nat_eq n x) refl (λ e. out_less n m xs (h e)) (λ e. ih (k e))

once_less : (n m : ℕ) (ns : List ℕ) → IsOnce n ns → IsOnce n (without_first m ns)
once_less n m [] h = refl
once_less n m (x ∷ xs) h =
    let p = once_head n x xs (nat_eq n x) refl h in
    less_by n m x xs (nat_eq m x) p.0 p.1 (once_less n m xs)

out_same : (n m : ℕ) (ns : List ℕ) → IsOut m ns → nat_eq n m ≡ true → IsOut n ns
out_same n m ns h e = subst (λ k. IsOut k ns) (let same : n ≡ m = grind arith in sym same) h

once_more : (n m : ℕ) (ns : List ℕ) → IsOut m ns → IsOnce n ns → IsOnce n (m ∷ ns)
once_more n m ns h k = once_back n m ns (nat_eq n m) refl (λ e. out_same n m ns h e) (λ e. k)

each_less : (m : ℕ) (ns : List ℕ) → HasEachOnce ns → HasEachOnce (without_first m ns)
each_less m ns h = record { once = λ n. once_less n m ns (h.once n) }

each_more : (m : ℕ) (ns : List ℕ) → IsOut m ns → HasEachOnce ns → HasEachOnce (m ∷ ns)
each_more m ns out h = record { once = λ n. once_more n m ns out (h.once n) }

-- Worlds.

-- what follows a world has its lists
follows_once : {w v : World} {t : Option ℕ} → Follows t w v → LocksOnce w → LocksOnce v
follows_once a h = record { locked = subst HasEachOnce (sym a.locked) h.locked; progress = subst HasEachOnce (sym a.progress) h.progress }

-- so has one that has the same lists
lists_once : (w v : World) → v.locked ≡ w.locked → v.progress ≡ w.progress → LocksOnce w → LocksOnce v
lists_once w v e f h = record { locked = subst HasEachOnce (sym e) h.locked; progress = subst HasEachOnce (sym f) h.progress }

lock_once : (t : Option ℕ) (w : World) → ((n : ℕ) → t ≡ Some n → is_locked w n ≡ false) → LocksOnce w → LocksOnce (with_lock t w)
lock_once None w out h = h
lock_once (Some n) w out h = record { locked = each_more n w.locked (out n refl) h.locked; progress = h.progress }

unlock_once : (t : Option ℕ) (w : World) → LocksOnce w → LocksOnce (without_lock t w)
unlock_once None w h = h
unlock_once (Some n) w h = record { locked = each_less n w.locked h.locked; progress = h.progress }

unlocks_once : (ts : List (Option ℕ)) (w : World) → LocksOnce w → LocksOnce (without_locks ts w)
unlocks_once [] w h = h
unlocks_once (t ∷ ts) w h = unlocks_once ts (without_lock t w) (unlock_once t w h)

progress_once : (e : Entered) (n : ℕ) (w : World) → LocksOnce w → LocksOnce (without_progress e n w)
progress_once on_receiver n w h = record { locked = h.locked; progress = each_less n w.progress h.progress }
progress_once on_this n w h = h
progress_once on_new n w h = h

-- Steps.

-- a step leads to a world with each once
abbrev NextOnce : Option Next → Type 0
NextOnce None = ⊤
NextOnce (Some (goes c)) = LocksOnce c.world
NextOnce (Some (stops (ended result w))) = LocksOnce w
NextOnce (Some (stops (aborted cause s))) = ⊤

then_once : {A : Type 0} (o : Option A) (f : A → Option Next) → ((a : A) → NextOnce (f a)) → NextOnce (o >>= f)
then_once None f h = tt
then_once (Some a) f h = h a

if_once : (b : Bool) (x y : Option Next) → (b ≡ true → NextOnce x) → (b ≡ false → NextOnce y) → NextOnce (if b then x else y)
if_once true x y h k = h refl
if_once false x y h k = k refl

units_once : (k : ℕ) (w : World) (go : World → Option Next) → LocksOnce w → ((u : World) → LocksOnce u → NextOnce (go u)) → NextOnce (with_units k w go)
units_once zero w go h each = tt
units_once (suc k) w go h each = each (with_unit_taken w k) (lists_once w (with_unit_taken w k) refl refl h)

unit_once : (w : World) (go : World → Option Next) → LocksOnce w → ((u : World) → LocksOnce u → NextOnce (go u)) → NextOnce (with_unit w go)
unit_once w go h each = units_once w.fuel w go h each

sets_once : (c : Configuration) (k : ℕ) (v : Value) → LocksOnce c.world → NextOnce (sets k v c)
sets_once c k v h = then_once (with_value_at c.top.slots k v) _ (λ slots. h)

operated_once : (c : Configuration) (k line : ℕ) (x : Operated) → LocksOnce c.world → NextOnce (with_operated line c.world x (λ v. sets k v c))
operated_once c k line (operated v) h = sets_once c k v h
operated_once c k line overflows h = tt
operated_once c k line other_kinds h = tt

edits_once : (c : Configuration) (f : Object → Object) → ((o : Object) → IsSameObject o (f o)) → LocksOnce c.world → NextOnce (edits_this f c)
edits_once c f same h = follows_once {t = Some c.top.this} (follows_edit c.world f c.top.this same (spared_this c.world c.top.this)) h

store_once : (image : Image) (c : Configuration) (field : FieldId) (a : ℕ) → LocksOnce c.world → NextOnce (store_step image field a c)
store_once image c field a h = then_once (value_at c.top.slots a) _ (λ v. then_once (this_object c) _ (λ o. then_once (contract_code image o.contract) _ (λ own.
    if_once (has_field_code own o.state field.0) _ None (λ e. edits_once c (with_field field.0 v) (λ o. record { contract = refl; shared = λ e. e; disowned = λ e. e }) h) (λ e. tt))))

change_once : (image : Image) (c : Configuration) (state : StateId) (given : GivenSlots) → LocksOnce c.world → NextOnce (change_step image state given c)
change_once image c state given h = then_once (contract_code image c.top.contract) _ (λ own. then_once (given_values c.top.slots given nothing) _ (λ got.
    if_once (is_locked_out c c.top.this) _ _ (λ e. tt) (λ e. then_once (this_object c) _ (λ o.
    if_once (are_available own state given) _ None (λ e. edits_once c (object_changed own state got) (λ o. record { contract = refl; shared = λ e. e; disowned = λ e. e }) h) (λ e. tt)))))

branches_once : (c : Configuration) (v : World) (t : Option ℕ) (target : ℕ) (holds : Bool) → ((n : ℕ) → t ≡ Some n → is_locked v n ≡ false) → LocksOnce v
    → NextOnce (branches t target (with_world v c) holds)
branches_once c v t target true out h = lock_once t v out h
branches_once c v t target false out h = h

none_some : {A : Type 0} {a : A} → None ≡ Some a → ⊥
none_some e = true≢false (sym (ap is_some e))

some_same : {n m : ℕ} → Some n ≡ Some m → n ≡ m
some_same {n = n} e = ap (λ o. unwrap_or o n) e

-- the lock of an object that isn't barred is a new one
free_by : (shared : Bool) (v : World) (n m : ℕ) → shared && (is_locked v n || is_in_progress v n) ≡ false → (if shared then Some n else None) ≡ Some m → is_locked v m ≡ false
free_by true v n m e f = subst (λ k. is_locked v k ≡ false) (some_same f) (or_false (is_locked v n) (is_in_progress v n) e).0
free_by false v n m e f = absurd (none_some f)

test_once : (image : Image) (c : Configuration) (a : ℕ) (of : ContractId) (state : StateId) (target : ℕ) → LocksOnce c.world → NextOnce (test_step image a of state target c)
test_once image c a of state target h = then_once (reference_at c.top.slots a) _ (λ n. then_once (object_at c.world.objects n) _ (λ o.
    let v = read_object c.world n in
    let k : LocksOnce v = follows_once {t = None} (follows_read_object c.world n) h in
    if_once (a == 0) _ _
    (λ e. if_once (is_locked_out (with_world v c) n) _ _ (λ f. tt) (λ f. branches_once c v None target _ (λ m g. absurd (none_some g)) k))
    (λ e. if_once (is_barred v n o) _ _ (λ f. tt) (λ f. branches_once c v (lock_of n o) target _ (λ m g. free_by o.shared v n m f g) k))))

ends_once : (c : Configuration) (ts : List (Option ℕ)) → LocksOnce c.world → NextOnce (ends_test ts c)
ends_once c [] h = tt
ends_once c (t ∷ ts) h = unlock_once t c.world h

marks_once : (c : Configuration) (mark : ℕ → World → World) (a : ℕ) → ((n : ℕ) → Follows None c.world (mark n c.world)) → LocksOnce c.world → NextOnce (marks_object mark a c)
marks_once c mark a f h = then_once (reference_at c.top.slots a) _ (λ n. then_once (object_at c.world.objects n) _ (λ o. follows_once (f n) h))

object_once : (image : Image) (by : Caller) (contract : ContractId) (tx : TxId) (n : ℕ) (args : List Value) (u : World) → LocksOnce u → NextOnce (calls_object image by contract tx n args u)
object_once image by contract tx n args u h =
    let v = read_object u n in
    let k : LocksOnce v = follows_once {t = None} (follows_read_object u n) h in
    if_once (is_in_progress v n) _ _ (λ e. tt)
    (λ e. then_once (object_at v.objects n) _ (λ o. then_once (callee image contract tx o) _ (λ id. then_once (body_code image id.0 id.1) _ (λ b.
    record { locked = k.locked; progress = each_more n v.progress e k.progress }))))

made_once : (image : Image) (by : Caller) (contract : ContractId) (constructor : Option TxId) (args : List Value) (u : World) → LocksOnce u
    → NextOnce (makes_object image by contract constructor args u)
made_once image by contract constructor args u h =
    if_once (nat_le most_objects (length u.objects)) _ _ (λ e. tt)
    (λ e. then_once constructor _ (λ tx. then_once (body_code image contract tx) _ (λ b. record { locked = h.locked; progress = h.progress })))

this_once : (image : Image) (c : Configuration) (k : ℕ) (tx : TxId) (args : List Value) (u : World) → LocksOnce u → NextOnce (calls_this image k tx args c u)
this_once image c k tx args u h = then_once (body_code image c.top.contract tx) _ (λ b. h)

resumes_once : (fs : List MachineFrame) (into : ℕ) (result : Option Value) (v : World) → LocksOnce v → NextOnce (resumes fs into result v)
resumes_once [] into result v h = h
resumes_once (f ∷ fs) into result v h = then_once (with_result f.slots into result) _ (λ slots. h)

returns_once : (c : Configuration) (result : Option Value) → LocksOnce c.world → NextOnce (returns result c)
returns_once c result h = resumes_once c.below c.top.into _ (world_left c.top c.world) (progress_once c.top.entered c.top.this _ (unlocks_once c.top.tests c.world h))

act_once : (image : Image) (i : Instruction) (c : Configuration) → LocksOnce c.world → NextOnce (act image i c)
act_once image ins.Unit c h = unit_once c.world _ h (λ u a. a)
act_once image (ins.Int to z) c h = sets_once c to _ h
act_once image (ins.Bool to b) c h = sets_once c to _ h
act_once image (ins.Text to bytes) c h = sets_once c to _ h
act_once image (ins.Copy to a) c h = then_once (value_at c.top.slots a) _ (λ v. sets_once c to v h)
act_once image (ins.Load to field) c h = then_once (this_object c) _ (λ o. then_once (o.fields field.0) _ (λ v. sets_once c to v h))
act_once image (ins.Store field a) c h = store_once image c field a h
act_once image (ins.Op to operator a b line) c h = then_once (operation operator c.top.slots a b) _ (λ x. operated_once c to line x h)
act_once image (ins.Jump target) c h = h
act_once image (ins.Unless a target) c h = then_once (truth_at c.top.slots a) _ (λ b. if_once b _ _ (λ e. h) (λ e. h))
act_once image (ins.Test a of state target) c h = test_once image c a of state target h
act_once image ins.EndTest c h = ends_once c c.top.tests h
act_once image (ins.Change state given) c h = change_once image c state given h
act_once image (ins.New to contract args) c h =
    then_once (values_at c.top.slots args) _ (λ vs. unit_once c.world _ h (λ u k. made_once image (caller c to) contract (constructor_of image contract) vs u k))
act_once image (ins.Call to r contract tx args) c h =
    then_once (reference_at c.top.slots r) _ (λ n. then_once (values_at c.top.slots args) _ (λ vs. unit_once c.world _ h (λ u k. object_once image (caller c to) contract tx n vs u k)))
act_once image (ins.SelfCall to tx args) c h = then_once (values_at c.top.slots args) _ (λ vs. unit_once c.world _ h (λ u k. this_once image c to tx vs u k))
act_once image (ins.Share a) c h = marks_once c mark_shared a (λ n. follows_mark_shared c.world n) h
act_once image (ins.Disown a) c h = marks_once c mark_disowned a (λ n. follows_mark_disowned c.world n) h
act_once image ins.Ret c h = returns_once c None h
act_once image (ins.RetValue a) c h = then_once (value_at c.top.slots a) _ (λ v. returns_once c (Some v) h)
act_once image (ins.Revert a) c h = then_once (text_at c.top.slots a) _ (λ bytes. tt)

enters_once : (image : Image) (e : MachineEntry) (receiver : Option ℕ) (u : World) → LocksOnce u → NextOnce (enters image e receiver u)
enters_once image e None u h = made_once image nobody e.contract (Some e.tx) e.args u h
enters_once image e (Some n) u h = object_once image nobody e.contract e.tx n e.args u h

next_once : (image : Image) (p : Phase) → LocksOnce (world_of p) → NextOnce (next_step image p)
next_once image (starting e w) h = unit_once w _ h (λ u k. enters_once image e e.receiver u k)
next_once image (running c) h = then_once (next_instruction image c) _ (λ i. act_once image i c h)

-- Any number of steps.

-- where steps lead, each is there once
record StopOnce (s : Option Stop) : Type 0 where
  by : LeadsSo LocksOnce (λ t. ⊤) s

after_once : (next : Option Next) (go : Phase → Option Stop) → NextOnce next → ((q : Phase) → LocksOnce (world_of q) → StopOnce (go q)) → StopOnce (after_step next go)
after_once None go a h = record { by = tt }
after_once (Some (goes c)) go a h = h (running c) a
after_once (Some (stops (ended result v))) go a h = record { by = a }
after_once (Some (stops (aborted cause s))) go a h = record { by = tt }

all_once : (n : ℕ) (image : Image) (p : Phase) → LocksOnce (world_of p) → StopOnce (after_steps image n p)
all_once zero image p h = record { by = h }
all_once (suc n) image p h = after_once (next_step image p) (after_steps image n) (next_once image p h) (λ q k. all_once n image q k)

pub steps_once : (image : Image) (n : ℕ) (p : Phase) → LocksOnce (world_of p) → LeadsSo LocksOnce (λ s. ⊤) (after_steps image n p)
steps_once image n p h = (all_once n image p h).by

-- Entries.

first_once : (objects : List Object) (fuel : ℕ) → LocksOnce (first_world objects fuel)
first_once objects fuel = record { locked = record { once = λ n. refl }; progress = record { once = λ n. refl } }

if_lock : (b : Bool) (n : ℕ) (objects : List Object) (fuel : ℕ) → LocksOnce (lock_receiver b (Some n) (first_world objects fuel))
if_lock true n objects fuel = record { locked = each_more n [] refl (first_once objects fuel).locked; progress = (first_once objects fuel).progress }
if_lock false n objects fuel = first_once objects fuel

receiver_once : (b : Bool) (receiver : Option ℕ) (objects : List Object) (fuel : ℕ) → LocksOnce (lock_receiver b receiver (first_world objects fuel))
receiver_once b None objects fuel = first_once objects fuel
receiver_once b (Some n) objects fuel = if_lock b n objects fuel

args_once : (params : List ParamCode) (args : List Value) (w : World) → LocksOnce w → LocksOnce (args_come_in params args w)
args_once [] args w h = h
args_once (p ∷ params) [] w h = h
args_once (p ∷ params) (v ∷ args) w h = args_once params args (comes_into (type_of_param p) v w) (follows_once {t = None} (follows_into w (type_of_param p) v) h)

this_in_once : (contract : ContractId) (b : BodyCode) (receiver : Option ℕ) (w : World) → LocksOnce w → LocksOnce (receiver_comes_in contract b receiver w)
this_in_once contract b None w h = h
this_in_once contract b (Some n) w h = follows_once {t = None} (follows_into w (Reference contract (perm_of_code b.entry)) (reference n)) h

body_once : (contract : ContractId) (b : Option BodyCode) (receiver : Option ℕ) (args : List Value) (w : World) → LocksOnce w → LocksOnce (comes_into_body contract b receiver args w)
body_once contract None receiver args w h = h
body_once contract (Some b) receiver args w h = args_once b.params args (receiver_comes_in contract b receiver w) (this_in_once contract b receiver w h)

pub entry_once : (image : Image) (e : MachineEntry) (objects : List Object) (fuel : ℕ) → LocksOnce (entry_world image e objects fuel)
entry_once image e objects fuel = body_once e.contract (body_code image e.contract e.tx) e.receiver e.args _ (receiver_once e.lock e.receiver objects fuel)
