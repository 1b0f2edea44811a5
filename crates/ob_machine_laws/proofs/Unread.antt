-- What a run changes it has made or read.
use Rattle.std.proofs.Common.{◌≡◌, ℕ, zero, suc, inl, inr, List, [], ◌∷◌, length, Option, Some, None, Bool, true, false, refl, sym, ap, ◌∙◌, subst, arith}
use Rattle.std.proofs.lemmas.List.Elements.{Contains-append_right}
use Rattle.std.specs.Prelude.{◌==◌, nat_le, Contains, if◌then◌else◌, ⊤}
use Rattle.ob_base.specs.Optional.{◌>>=◌}
use Rattle.ob_base.specs.Limits.{most_objects}
use Rattle.ob_base.specs.declared.id.ContractId.{ContractId}
use Rattle.ob_base.specs.declared.id.FieldId.{FieldId}
use Rattle.ob_base.specs.declared.id.StateId.{StateId}
use Rattle.ob_base.specs.declared.id.TxId.{TxId}
use Rattle.ob_heap_spec.specs.Values.{Value, nothing}
use Rattle.ob_heap_spec.specs.Objects.{Object, with_field, unfinished}
use Rattle.ob_heap_spec.specs.Contents.{object_at}
use Rattle.ob_heap_spec.specs.Operations.{Operated, operated, overflows, other_kinds}
use Rattle.ob_heap_spec.specs.Worlds.{World, ReadItem, next_item, with_read, read_object, edit_object, make_object, with_unit_taken}
use Rattle.ob_heap_spec.specs.Marks.{without_first, mark_shared, mark_disowned, is_in_progress}
use Rattle.ob_source_laws.specs.Laws.{Grows, IsSameObject, KeepsUnread}
use Rattle.ob_source_laws.proofs.Follows.{Follows, narrower, told_read, told_made, follows_unit, follows_read, follows_read_object, follows_edit, follows_make, spared_this}
use Rattle.ob_source_laws.proofs.Marking.{follows_mark_shared, follows_mark_disowned}
use Rattle.ob_code.specs.declared.image.Image.{Image}
use Rattle.ob_code.specs.declared.instruction.Instruction.{Instruction}
use Rattle.ob_code.specs.declared.instruction.Instruction.TheVariants as ins
use Rattle.ob_code.specs.Code.{contract_code, body_code}
use Rattle.ob_code_table.specs.Images.{constructor_of, callee, has_field_code}
use Rattle.ob_machine_steps.specs.Slots.{value_at, truth_at, text_at, reference_at, values_at, with_value_at}
use Rattle.ob_machine_steps.specs.Configurations.{Entered, on_receiver, on_this, on_new, MachineFrame, Configuration, ended, aborted, Next, goes, stops}
use Rattle.ob_machine_steps.specs.Parts.{with_world, sets, with_units, with_unit, this_object, waiting}
use Rattle.ob_machine_steps.specs.Straight.{operation, with_operated, marks_object}
use Rattle.ob_machine_steps.specs.Changing.{GivenSlots, given_values, edits_this, are_available, object_changed, is_locked_out, store_step, change_step}
use Rattle.ob_machine_steps.specs.Testing.{with_lock, without_lock, without_locks, branches, is_barred, lock_of, ends_test, test_step}
use Rattle.ob_machine_steps.specs.Calling.{Caller, caller, calls_object, calls_this, makes_object}
use Rattle.ob_machine_steps.specs.Returning.{with_result, without_progress, world_left, resumes, returns}
use Rattle.ob_machine_steps.specs.Steps.{act, next_instruction}
use Rattle.ob_machine_steps.specs.Entries.{MachineEntry, Phase, starting, running, nobody, enters, next_step}
use Rattle.ob_machine_steps.specs.Runs.{Stop, paused, over, after_step, after_steps, world_of}
use Rattle.ob_machine_laws.specs.Laws.{LeadsSo, IsTold, AreTold, HasToldFrames}
use Rattle.ob_machine_laws.proofs.Keeping.{Keeps, keeps_self, keeps_then, then_follows, keeps_lists}

-- all that is kept of a world, with the objects that the run has neither made nor read
record Spares (w v : World) : Type 0 where
  keeps : Keeps w v
  unread : KeepsUnread None w v

still_read : {xs ys : List ReadItem} {x : ReadItem} → Grows xs ys → Contains xs x → Contains ys x
still_read {xs = xs} {x = x} g c = subst (λ l. Contains l x) (sym g.1) (Contains-append_right g.0 xs x c)

spares_self : (w : World) → Spares w w
spares_self w = record { keeps = keeps_self w; unread = record { same = λ n old mine none. refl } }

spares_then : {w v u : World} → Spares w v → Spares v u → Spares w u
spares_then a b = record {
  keeps = keeps_then a.keeps b.keeps;
  unread = record {
    same = λ n old mine none.
        b.unread.same n (omega (arith, old, a.keeps.objects.made, a.keeps.objects.count)) mine none
        ∙ a.unread.same n old mine (λ c. none (still_read b.keeps.reads c));
  };
}

spares_follows : {w v : World} → Follows None w v → Spares w v
spares_follows {w = w} a = record { keeps = then_follows (keeps_self w) a; unread = a.unread }

then_spares : {w v u : World} → Spares w v → Follows None v u → Spares w u
then_spares a b = spares_then a (spares_follows b)

spares_lists : {w v : World} (locked progress : List ℕ) → Spares w v → Spares w (record v { locked = locked; progress = progress })
spares_lists locked progress a = record { keeps = keeps_lists locked progress a.keeps; unread = record { same = a.unread.same } }

spares_lock : {w v : World} (t : Option ℕ) → Spares w v → Spares w (with_lock t v)
spares_lock None a = a
spares_lock {v = v} (Some n) a = spares_lists (n ∷ v.locked) v.progress a

spares_unlock : {w v : World} (t : Option ℕ) → Spares w v → Spares w (without_lock t v)
spares_unlock None a = a
spares_unlock {v = v} (Some n) a = spares_lists (without_first n v.locked) v.progress a

spares_unlocks : (ts : List (Option ℕ)) {w v : World} → Spares w v → Spares w (without_locks ts v)
spares_unlocks [] a = a
spares_unlocks (t ∷ ts) a = spares_unlocks ts (spares_unlock t a)

spares_progress : {w v : World} (e : Entered) (n : ℕ) → Spares w v → Spares w (without_progress e n v)
spares_progress {v = v} on_receiver n a = spares_lists v.locked (without_first n v.progress) a
spares_progress on_this n a = a
spares_progress on_new n a = a

-- Frames.

told_on : {w v : World} (n : ℕ) → Keeps w v → IsTold w n → IsTold v n
told_on n a (inl h) = inl (omega (arith, h, a.objects.made, a.objects.count))
told_on n a (inr c) = inr (still_read a.reads c)

all_on : {w v : World} (fs : List MachineFrame) → Keeps w v → AreTold w fs → AreTold v fs
all_on [] a h = tt
all_on (f ∷ fs) a h = (told_on f.this a h.0, all_on fs a h.1)

-- Steps.

-- a step spares what was neither made nor read, and has the objects of its frames told
abbrev NextTold : World → Option Next → Type 0
NextTold w None = ⊤
NextTold w (Some (goes c)) = Spares w c.world × AreTold c.world (c.top ∷ c.below)
NextTold w (Some (stops (ended result v))) = Spares w v
NextTold w (Some (stops (aborted cause s))) = ⊤

then_told : (w : World) {A : Type 0} (o : Option A) (f : A → Option Next) → ((a : A) → NextTold w (f a)) → NextTold w (o >>= f)
then_told w None f h = tt
then_told w (Some a) f h = h a

if_told : (w : World) (b : Bool) (x y : Option Next) → NextTold w x → NextTold w y → NextTold w (if b then x else y)
if_told w true x y a b = a
if_told w false x y a b = b

units_told : (w : World) (k : ℕ) (v : World) (go : World → Option Next) → v.fuel ≡ k → Spares w v → ((u : World) → Spares w u → NextTold w (go u)) → NextTold w (with_units k v go)
units_told w zero v go e a h = tt
units_told w (suc k) v go e a h = h (with_unit_taken v k) (then_spares a (follows_unit v k e))

unit_told : (w : World) (go : World → Option Next) → ((u : World) → Spares w u → NextTold w (go u)) → NextTold w (with_unit w go)
unit_told w go h = units_told w w.fuel w go refl (spares_self w) h

-- the frames of a configuration are told in its world
abbrev IsKnown : Configuration → Type 0
IsKnown c = AreTold c.world (c.top ∷ c.below)

-- a configuration goes on with the same frames in a world that keeps its own
on_told : (c : Configuration) (v : World) → IsKnown c → Spares c.world v → Spares c.world v × AreTold v (c.top ∷ c.below)
on_told c v h a = (a, all_on (c.top ∷ c.below) a.keeps h)

sets_told : (c : Configuration) (k : ℕ) (v : Value) → IsKnown c → NextTold c.world (sets k v c)
sets_told c k v h = then_told c.world (with_value_at c.top.slots k v) _ (λ slots. on_told c c.world h (spares_self c.world))

operated_told : (c : Configuration) (k line : ℕ) (x : Operated) → IsKnown c → NextTold c.world (with_operated line c.world x (λ v. sets k v c))
operated_told c k line (operated v) h = sets_told c k v h
operated_told c k line overflows h = tt
operated_told c k line other_kinds h = tt

edits_told : (c : Configuration) (f : Object → Object) → ((o : Object) → IsSameObject o (f o)) → IsKnown c → NextTold c.world (edits_this f c)
edits_told c f same h = on_told c (edit_object f c.top.this c.world) h (spares_follows (narrower c.top.this h.0 (follows_edit c.world f c.top.this same (spared_this c.world c.top.this))))

store_told : (image : Image) (c : Configuration) (field : FieldId) (a : ℕ) → IsKnown c → NextTold c.world (store_step image field a c)
store_told image c field a h = then_told c.world (value_at c.top.slots a) _ (λ v. then_told c.world (this_object c) _ (λ o. then_told c.world (contract_code image o.contract) _ (λ own.
    if_told c.world (has_field_code own o.state field.0) _ None (edits_told c (with_field field.0 v) (λ o. record { contract = refl; shared = λ e. e; disowned = λ e. e }) h) tt)))

change_told : (image : Image) (c : Configuration) (state : StateId) (given : GivenSlots) → IsKnown c → NextTold c.world (change_step image state given c)
change_told image c state given h = then_told c.world (contract_code image c.top.contract) _ (λ own. then_told c.world (given_values c.top.slots given nothing) _ (λ got.
    if_told c.world (is_locked_out c c.top.this) _ _ tt
    (then_told c.world (this_object c) _ (λ o. if_told c.world (are_available own state given) _ None
    (edits_told c (object_changed own state got) (λ o. record { contract = refl; shared = λ e. e; disowned = λ e. e }) h) tt))))

branches_told : (c : Configuration) (v : World) (t : Option ℕ) (target : ℕ) (holds : Bool) → IsKnown c → Spares c.world v → NextTold c.world (branches t target (with_world v c) holds)
branches_told c v t target true h a = on_told c (with_lock t v) h (spares_lock t a)
branches_told c v t target false h a = on_told c v h a

test_told : (image : Image) (c : Configuration) (a : ℕ) (of : ContractId) (state : StateId) (target : ℕ) → IsKnown c → NextTold c.world (test_step image a of state target c)
test_told image c a of state target h = then_told c.world (reference_at c.top.slots a) _ (λ n. then_told c.world (object_at c.world.objects n) _ (λ o.
    let v = read_object c.world n in
    let k : Spares c.world v = spares_follows (follows_read_object c.world n) in
    if_told c.world (a == 0) _ _
    (if_told c.world (is_locked_out (with_world v c) n) _ _ tt (branches_told c v None target _ h k))
    (if_told c.world (is_barred v n o) _ _ tt (branches_told c v (lock_of n o) target _ h k))))

ends_told : (c : Configuration) (ts : List (Option ℕ)) → IsKnown c → NextTold c.world (ends_test ts c)
ends_told c [] h = tt
ends_told c (t ∷ ts) h = on_told c (without_lock t c.world) h (spares_unlock t (spares_self c.world))

marks_told : (c : Configuration) (mark : ℕ → World → World) (a : ℕ) → ((n : ℕ) → Follows None c.world (mark n c.world)) → IsKnown c → NextTold c.world (marks_object mark a c)
marks_told c mark a f h = then_told c.world (reference_at c.top.slots a) _ (λ n. then_told c.world (object_at c.world.objects n) _ (λ o. on_told c (mark n c.world) h (spares_follows (f n))))

object_told : (w : World) (image : Image) (by : Caller) (contract : ContractId) (tx : TxId) (n : ℕ) (args : List Value) (u : World) → AreTold w by.frames → Spares w u
    → NextTold w (calls_object image by contract tx n args u)
object_told w image by contract tx n args u h a =
    let v = read_object u n in
    let k : Spares w v = then_spares a (follows_read_object u n) in
    if_told w (is_in_progress v n) _ _ tt
    (then_told w (object_at v.objects n) _ (λ o. then_told w (callee image contract tx o) _ (λ id. then_told w (body_code image id.0 id.1) _ (λ b.
    (spares_lists v.locked (n ∷ v.progress) k, (told_read u n, all_on by.frames (keeps_lists v.locked (n ∷ v.progress) k.keeps) h))))))

made_told : (w : World) (image : Image) (by : Caller) (contract : ContractId) (constructor : Option TxId) (args : List Value) (u : World) → AreTold w by.frames → Spares w u
    → NextTold w (makes_object image by contract constructor args u)
made_told w image by contract constructor args u h a =
    let v = with_read u next_item in
    let k : Spares w (make_object v (unfinished contract)) = then_spares (then_spares a (follows_read u next_item)) (follows_make v (unfinished contract)) in
    if_told w (nat_le most_objects (length u.objects)) _ _ tt
    (then_told w constructor _ (λ tx. then_told w (body_code image contract tx) _ (λ b. (k, (told_made v (unfinished contract), all_on by.frames k.keeps h)))))

this_told : (image : Image) (c : Configuration) (k : ℕ) (tx : TxId) (args : List Value) (u : World) → IsKnown c → Spares c.world u → NextTold c.world (calls_this image k tx args c u)
this_told image c k tx args u h a = then_told c.world (body_code image c.top.contract tx) _ (λ b. (a, (told_on c.top.this a.keeps h.0, all_on (waiting c) a.keeps h)))

resumes_told : (w : World) (fs : List MachineFrame) (into : ℕ) (result : Option Value) (v : World) → AreTold w fs → Spares w v → NextTold w (resumes fs into result v)
resumes_told w [] into result v h a = a
resumes_told w (f ∷ fs) into result v h a = then_told w (with_result f.slots into result) _ (λ slots. (a, all_on (f ∷ fs) a.keeps h))

returns_told : (c : Configuration) (result : Option Value) → IsKnown c → NextTold c.world (returns result c)
returns_told c result h = resumes_told c.world c.below c.top.into _ (world_left c.top c.world) h.1 (spares_progress c.top.entered c.top.this (spares_unlocks c.top.tests (spares_self c.world)))

act_told : (image : Image) (i : Instruction) (c : Configuration) → IsKnown c → NextTold c.world (act image i c)
act_told image ins.Unit c h = unit_told c.world _ (λ u a. on_told c u h a)
act_told image (ins.Int to z) c h = sets_told c to _ h
act_told image (ins.Bool to b) c h = sets_told c to _ h
act_told image (ins.Text to bytes) c h = sets_told c to _ h
act_told image (ins.Copy to a) c h = then_told c.world (value_at c.top.slots a) _ (λ v. sets_told c to v h)
act_told image (ins.Load to field) c h = then_told c.world (this_object c) _ (λ o. then_told c.world (o.fields field.0) _ (λ v. sets_told c to v h))
act_told image (ins.Store field a) c h = store_told image c field a h
act_told image (ins.Op to operator a b line) c h = then_told c.world (operation operator c.top.slots a b) _ (λ x. operated_told c to line x h)
act_told image (ins.Jump target) c h = on_told c c.world h (spares_self c.world)
act_told image (ins.Unless a target) c h =
    then_told c.world (truth_at c.top.slots a) _ (λ b. if_told c.world b _ _ (on_told c c.world h (spares_self c.world)) (on_told c c.world h (spares_self c.world)))
act_told image (ins.Test a of state target) c h = test_told image c a of state target h
act_told image ins.EndTest c h = ends_told c c.top.tests h
act_told image (ins.Change state given) c h = change_told image c state given h
act_told image (ins.New to contract args) c h = then_told c.world (values_at c.top.slots args) _ (λ vs.
    unit_told c.world _ (λ u a. made_told c.world image (caller c to) contract (constructor_of image contract) vs u h a))
act_told image (ins.Call to r contract tx args) c h = then_told c.world (reference_at c.top.slots r) _ (λ n. then_told c.world (values_at c.top.slots args) _ (λ vs.
    unit_told c.world _ (λ u a. object_told c.world image (caller c to) contract tx n vs u h a)))
act_told image (ins.SelfCall to tx args) c h = then_told c.world (values_at c.top.slots args) _ (λ vs. unit_told c.world _ (λ u a. this_told image c to tx vs u h a))
act_told image (ins.Share a) c h = marks_told c mark_shared a (λ n. follows_mark_shared c.world n) h
act_told image (ins.Disown a) c h = marks_told c mark_disowned a (λ n. follows_mark_disowned c.world n) h
act_told image ins.Ret c h = returns_told c None h
act_told image (ins.RetValue a) c h = then_told c.world (value_at c.top.slots a) _ (λ v. returns_told c (Some v) h)
act_told image (ins.Revert a) c h = then_told c.world (text_at c.top.slots a) _ (λ bytes. tt)

enters_told : (w : World) (image : Image) (e : MachineEntry) (receiver : Option ℕ) (u : World) → Spares w u → NextTold w (enters image e receiver u)
enters_told w image e None u a = made_told w image nobody e.contract (Some e.tx) e.args u tt a
enters_told w image e (Some n) u a = object_told w image nobody e.contract e.tx n e.args u tt a

next_told : (image : Image) (p : Phase) → HasToldFrames p → NextTold (world_of p) (next_step image p)
next_told image (starting e w) h = unit_told w _ (λ u a. enters_told w image e e.receiver u a)
next_told image (running c) h = then_told c.world (next_instruction image c) _ (λ i. act_told image i c h)

-- Any number of steps.

-- where steps lead, what was neither made nor read is spared
record StopTold (w : World) (s : Option Stop) : Type 0 where
  by : LeadsSo (Spares w) (λ t. ⊤) s
  frames : (q : Phase) → s ≡ Some (paused q) → HasToldFrames q

abbrev phase_at : Phase → Option Stop → Phase
phase_at p None = p
phase_at p (Some (paused q)) = q
phase_at p (Some (over end)) = p

abbrev IsPaused : Option Stop → Type 0
IsPaused None = ⊥
IsPaused (Some (paused q)) = ⊤
IsPaused (Some (over end)) = ⊥

not_paused : {A : Type 0} (s : Option Stop) (q : Phase) → (IsPaused s → ⊥) → s ≡ Some (paused q) → A
not_paused s q h e = absurd (h (subst IsPaused (sym e) tt))

stop_then : (w v : World) (s : Option Stop) → Spares w v → StopTold v s → StopTold w s
stop_then w v None a b = record { by = tt; frames = b.frames }
stop_then w v (Some (paused p)) a b = record { by = spares_then a b.by; frames = b.frames }
stop_then w v (Some (over (ended result u))) a b = record { by = spares_then a b.by; frames = b.frames }
stop_then w v (Some (over (aborted cause s))) a b = record { by = tt; frames = b.frames }

after_told : (w : World) (next : Option Next) (go : Phase → Option Stop) → NextTold w next → ((q : Phase) → HasToldFrames q → StopTold (world_of q) (go q)) → StopTold w (after_step next go)
after_told w None go a h = record { by = tt; frames = λ q e. not_paused None q (λ x. x) e }
after_told w (Some (goes c)) go a h = stop_then w c.world (go (running c)) a.0 (h (running c) a.1)
after_told w (Some (stops (ended result v))) go a h = record { by = a; frames = λ q e. not_paused (Some (over (ended result v))) q (λ x. x) e }
after_told w (Some (stops (aborted cause s))) go a h = record { by = tt; frames = λ q e. not_paused (Some (over (aborted cause s))) q (λ x. x) e }

steps_told : (n : ℕ) (image : Image) (p : Phase) → HasToldFrames p → StopTold (world_of p) (after_steps image n p)
steps_told zero image p h = record { by = spares_self (world_of p); frames = λ q e. subst HasToldFrames (ap (phase_at p) e) h }
steps_told (suc n) image p h = after_told (world_of p) (next_step image p) (after_steps image n) (next_told image p h) (λ q k. steps_told n image q k)

unread_of : (w : World) (s : Option Stop) → StopTold w s → LeadsSo (KeepsUnread None w) (λ t. ⊤) s
unread_of w None a = tt
unread_of w (Some (paused p)) a = a.by.unread
unread_of w (Some (over (ended result v))) a = a.by.unread
unread_of w (Some (over (aborted cause t))) a = tt

pub unread_stay : (image : Image) (n : ℕ) (p : Phase) → HasToldFrames p → LeadsSo (KeepsUnread None (world_of p)) (λ s. ⊤) (after_steps image n p)
unread_stay image n p h = unread_of (world_of p) (after_steps image n p) (steps_told n image p h)

pub frames_told : (image : Image) (n : ℕ) (p q : Phase) → HasToldFrames p → after_steps image n p ≡ Some (paused q) → HasToldFrames q
frames_told image n p q h e = (steps_told n image p h).frames q e
