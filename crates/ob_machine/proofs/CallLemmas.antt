-- Calls, from what their parts give.
use Rattle.std.proofs.Common.{◌≡◌, ℕ, Bool, true, false, List, ◌∷◌, Option, Some, None, refl, sym, ap, subst, ◌∙◌}
use Rattle.std.specs.Prelude.{not, nat_le, length, if◌then◌else◌}
use Rattle.ob_base.specs.Limits.{most_objects}
use Rattle.ob_machine_parts.specs.Guards.{Guarded, with_entry}
use Rattle.ob_base.specs.Optional.{◌>>=◌}
use Rattle.ob_base.specs.declared.id.ContractId.{ContractId}
use Rattle.ob_base.specs.declared.id.TxId.{TxId}
use Rattle.ob_heap_spec.specs.Contents.{object_at}
use Rattle.ob_heap_spec.specs.Marks.{is_among, is_in_progress, enter}
use Rattle.ob_heap_spec.specs.Objects.{Object as PlainObject, unfinished}
use Rattle.ob_heap_spec.specs.Values.{Value as PlainValue}
use Rattle.ob_heap_spec.specs.Worlds.{World, read_object, with_read, next_item, make_object, SameWorld, AbortCause, by_fuel, by_reentry, by_full}
use Rattle.ob_code.specs.declared.image.BodyCode.{BodyCode}
use Rattle.ob_code.specs.declared.image.Image.{Image}
use Rattle.ob_heap.specs.declared.object.Object.{Object}
use Rattle.ob_heap.specs.Overlays.{Changes}
use Rattle.ob_code.specs.Code.{body_code, is_shared_at_entry}
use Rattle.ob_code_table.specs.Images.{CalleeId, callee, constructor_of}
use Rattle.ob_machine_steps.specs.Slots.{values_at, reference_at}
use Rattle.ob_machine_steps.specs.Configurations.{Configuration, Next, goes, abort, on_receiver, on_this, on_new}
use Rattle.ob_machine_steps.specs.Parts.{with_world, with_unit, with_units}
use Rattle.ob_machine_steps.specs.Calling.{Caller, caller, begun, answers, calls_object, call_step, calls_this, self_step, makes_object, constructs, new_step}
use Rattle.ob_machine_laws.specs.Laws.{SameNext}
use Rattle.ob_machine.specs.Beginning.{runs}
use Rattle.ob_machine.specs.Calls.{calls_with, makes_with, constructs_with}
use Rattle.ob_machine_parts.specs.Units.{Metered, IsTaken}
use Rattle.ob_machine.specs.Shown.{world_of}
use Rattle.ob_machine.specs.declared.run.Run.{Run}

-- Units.

-- the machine once so many units are left and taken
abbrev pub with_units_of : Run → Metered → Run
with_units_of m u = record m { units = u }

pub unit_taken : (m : Run) (base : List Object) (o : Changes) (u : Metered) (go : World → Option Next) → IsTaken true m.units u
    → with_unit (world_of m base o) go ≡ go (world_of (with_units_of m u) base o)
unit_taken m base o u go h =
    ap (λ f. with_units f (world_of m base o) go) h.0
    ∙ ap (λ t. go (record (world_of m base o) { fuel = u.fuel; taken = t })) (sym h.1)

pub no_unit : (m : Run) (base : List Object) (o : Changes) (u : Metered) (go : World → Option Next) → IsTaken false m.units u
    → with_unit (world_of m base o) go ≡ Some (abort by_fuel (world_of (with_units_of m u) base o))
no_unit m base o u go h =
    ap (λ f. with_units f (world_of m base o) go) h.0
    ∙ ap (λ x. Some (abort by_fuel (world_of (with_units_of m x) base o))) (sym h.1)

-- Calls with a receiver.

pub called : (image : Image) (k a : ℕ) (contract : ContractId) (tx : TxId) (args : List ℕ) (c : Configuration) (n : ℕ) (vs : List PlainValue) (w : World)
    → reference_at c.top.slots a ≡ Some n → values_at c.top.slots args ≡ Some vs
    → with_unit c.world (calls_object image (caller c k) contract tx n vs) ≡ calls_object image (caller c k) contract tx n vs w
    → call_step image k a contract tx args c ≡ calls_with image k contract tx n args (with_world w c)
called image k a contract tx args c n vs w e f g =
    ap (λ (r : Option ℕ). r >>= λ n. values_at c.top.slots args >>= λ vs. with_unit c.world (calls_object image (caller c k) contract tx n vs)) e
    ∙ ap (λ (r : Option (List PlainValue)). r >>= λ vs. with_unit c.world (calls_object image (caller c k) contract tx n vs)) f
    ∙ g
    ∙ sym (ap (λ (r : Option (List PlainValue)). r >>= λ vs. calls_object image (caller c k) contract tx n vs w) f)

pub call_unpaid : (image : Image) (k a : ℕ) (contract : ContractId) (tx : TxId) (args : List ℕ) (c : Configuration) (n : ℕ) (vs : List PlainValue) (next : Option Next)
    → reference_at c.top.slots a ≡ Some n → values_at c.top.slots args ≡ Some vs
    → with_unit c.world (calls_object image (caller c k) contract tx n vs) ≡ next
    → call_step image k a contract tx args c ≡ next
call_unpaid image k a contract tx args c n vs next e f g =
    ap (λ (r : Option ℕ). r >>= λ n. values_at c.top.slots args >>= λ vs. with_unit c.world (calls_object image (caller c k) contract tx n vs)) e
    ∙ ap (λ (r : Option (List PlainValue)). r >>= λ vs. with_unit c.world (calls_object image (caller c k) contract tx n vs)) f
    ∙ g

pub call_unset : (image : Image) (k a : ℕ) (contract : ContractId) (tx : TxId) (args : List ℕ) (c : Configuration) (n : ℕ)
    → reference_at c.top.slots a ≡ Some n → values_at c.top.slots args ≡ None → call_step image k a contract tx args c ≡ None
call_unset image k a contract tx args c n e f =
    ap (λ (r : Option ℕ). r >>= λ n. values_at c.top.slots args >>= λ vs. with_unit c.world (calls_object image (caller c k) contract tx n vs)) e
    ∙ ap (λ (r : Option (List PlainValue)). r >>= λ vs. with_unit c.world (calls_object image (caller c k) contract tx n vs)) f

pub entered_same : (n : ℕ) (w v : World) → SameWorld w v → SameWorld (enter n w) (enter n v)
entered_same n w v s = record {
  objects = s.objects;
  made = s.made;
  locked = s.locked;
  progress = ap (λ x. n ∷ x) s.progress;
  fuel = s.fuel;
  taken = s.taken;
  reads = s.reads;
}

-- what a call does once its object was read
abbrev pub after_read : Image → ℕ → ContractId → TxId → ℕ → List PlainValue → Configuration → World → Bool → Option PlainObject → Option Next
after_read image k contract tx n vs c w busy found =
    if busy then Some (abort (by_reentry n) w) else (found >>= λ o. callee image contract tx o >>= answers image (caller c k) n vs w)

reading : (image : Image) (k : ℕ) (contract : ContractId) (tx : TxId) (n : ℕ) (args : List ℕ) (vs : List PlainValue) (c : Configuration) (v : World) (busy : Bool) (found : Option PlainObject)
    → values_at c.top.slots args ≡ Some vs → SameWorld (read_object c.world n) v → is_in_progress v n ≡ busy → object_at v.objects n ≡ found
    → calls_with image k contract tx n args c ≡ after_read image k contract tx n vs c (read_object c.world n) busy found
reading image k contract tx n args vs c v busy found e s f g =
    let w = read_object c.world n in
    let p : is_in_progress w n ≡ busy = ap (λ xs. is_in_progress (record w { progress = xs }) n) (sym s.progress) ∙ f in
    let q : object_at w.objects n ≡ found = ap (λ xs. object_at xs n) (sym s.objects) ∙ g in
    ap (λ (r : Option (List PlainValue)). r >>= λ vs. calls_object image (caller c k) contract tx n vs c.world) e
    ∙ ap (λ b. after_read image k contract tx n vs c w b (object_at w.objects n)) p
    ∙ ap (after_read image k contract tx n vs c w busy) q

pub reentered : (image : Image) (k : ℕ) (contract : ContractId) (tx : TxId) (n : ℕ) (args : List ℕ) (vs : List PlainValue) (c : Configuration) (v : World)
    → values_at c.top.slots args ≡ Some vs → SameWorld (read_object c.world n) v → is_in_progress v n ≡ true
    → SameNext (calls_with image k contract tx n args c) (Some (abort (by_reentry n) v))
reentered image k contract tx n args vs c v e s f =
    subst (λ x. SameNext x (Some (abort (by_reentry n) v))) (sym (reading image k contract tx n args vs c v true (object_at v.objects n) e s f refl))
    (refl, record { taken = s.taken; reads = s.reads })

-- what a call of an object runs, which an object answers that there is
answered : (image : Image) (contract : ContractId) (tx : TxId) (found : Option PlainObject) (go : CalleeId → Option Next) (r : Option CalleeId)
    → (found >>= λ o. callee image contract tx o) ≡ r → (found >>= λ o. callee image contract tx o >>= go) ≡ (r >>= go)
answered image contract tx None go r h = ap (λ (x : Option CalleeId). x >>= go) h
answered image contract tx (Some o) go r h = ap (λ (x : Option CalleeId). x >>= go) h

pub calls_same : (image : Image) (k : ℕ) (contract : ContractId) (tx : TxId) (n : ℕ) (args : List ℕ) (vs : List PlainValue) (c : Configuration) (v : World) (id : CalleeId)
    → values_at c.top.slots args ≡ Some vs → SameWorld (read_object c.world n) v → is_in_progress v n ≡ false
    → (object_at v.objects n >>= λ o. callee image contract tx o) ≡ Some id
    → SameNext (calls_with image k contract tx n args c) (runs image k id n on_receiver args (with_world (enter n v) c))
calls_same image k contract tx n args vs c v id e s f h =
    let w = read_object c.world n in
    let left : calls_with image k contract tx n args c ≡ answers image (caller c k) n vs w id =
    reading image k contract tx n args vs c v false (object_at v.objects n) e s f refl
    ∙ answered image contract tx (object_at v.objects n) (answers image (caller c k) n vs w) (Some id) h in
    let right : runs image k id n on_receiver args (with_world (enter n v) c)
    ≡ (body_code image id.0 id.1 >>= λ (b : BodyCode). Some (goes (begun (caller c k) id b n vs on_receiver (is_shared_at_entry b) (enter n v)))) =
    ap (λ (r : Option (List PlainValue)). r >>= λ vs. body_code image id.0 id.1 >>= λ (b : BodyCode). Some (goes (begun (caller c k) id b n vs on_receiver (is_shared_at_entry b) (enter n v)))) e in
    subst (λ x. SameNext x (runs image k id n on_receiver args (with_world (enter n v) c))) (sym left)
    (subst (λ y. SameNext (answers image (caller c k) n vs w id) y) (sym right) (by (body_code image id.0 id.1)))
  where
    by : (r : Option BodyCode)
        → SameNext (r >>= λ (b : BodyCode). Some (goes (begun (caller c k) id b n vs on_receiver (is_shared_at_entry b) (enter n (read_object c.world n)))))
        (r >>= λ (b : BodyCode). Some (goes (begun (caller c k) id b n vs on_receiver (is_shared_at_entry b) (enter n v))))
    by None = tt
    by (Some b) = record { top = refl; below = refl; world = entered_same n (read_object c.world n) v s }

-- Calls on `this`.

pub self_called : (image : Image) (k : ℕ) (tx : TxId) (args : List ℕ) (c : Configuration) (vs : List PlainValue) (w : World)
    → values_at c.top.slots args ≡ Some vs
    → with_unit c.world (calls_this image k tx vs c) ≡ calls_this image k tx vs c w
    → self_step image k tx args c ≡ runs image k (c.top.contract, tx) c.top.this on_this args (with_world w c)
self_called image k tx args c vs w e g =
    ap (λ (r : Option (List PlainValue)). r >>= λ vs. with_unit c.world (calls_this image k tx vs c)) e
    ∙ g
    ∙ sym (ap (λ (r : Option (List PlainValue)). r >>= λ vs. calls_this image k tx vs c w) e)

pub self_unpaid : (image : Image) (k : ℕ) (tx : TxId) (args : List ℕ) (c : Configuration) (vs : List PlainValue) (next : Option Next)
    → values_at c.top.slots args ≡ Some vs → with_unit c.world (calls_this image k tx vs c) ≡ next → self_step image k tx args c ≡ next
self_unpaid image k tx args c vs next e g =
    ap (λ (r : Option (List PlainValue)). r >>= λ vs. with_unit c.world (calls_this image k tx vs c)) e ∙ g

pub self_unset : (image : Image) (k : ℕ) (tx : TxId) (args : List ℕ) (c : Configuration) → values_at c.top.slots args ≡ None → self_step image k tx args c ≡ None
self_unset image k tx args c e = ap (λ (r : Option (List PlainValue)). r >>= λ vs. with_unit c.world (calls_this image k tx vs c)) e

pub same_abort : (cause : AbortCause) (w : World) → SameNext (Some (abort cause w)) (Some (abort cause w))
same_abort cause w = (refl, record { taken = refl; reads = (λ item h. h, λ item h. h) })

pub not_false : (b : Bool) → not b ≡ false → b ≡ true
not_false true e = refl
not_false false e = absurd cc

pub not_true : (b : Bool) → not b ≡ true → b ≡ false
not_true true e = absurd cc
not_true false e = refl

-- a machine with another guard, which a transaction of an object has entered
pub entry_shown : (m : Run) (base : List Object) (o : Changes) (n : ℕ) (g : Guarded) → g ≡ with_entry n m.guard → is_among n m.guard.progress ≡ false
    → world_of (record m { guard = g }) base o ≡ enter n (world_of m base o)
entry_shown m base o n g e f =
    ap (λ x. world_of (record m { guard = x }) base o) (e ∙ ap (λ b. if b then m.guard else record m.guard { progress = n ∷ m.guard.progress }) f)

-- `new`

pub new_unset : (image : Image) (k : ℕ) (contract : ContractId) (args : List ℕ) (c : Configuration) → values_at c.top.slots args ≡ None → new_step image k contract args c ≡ None
new_unset image k contract args c e =
    ap (λ (r : Option (List PlainValue)). r >>= λ vs. with_unit c.world (makes_object image (caller c k) contract (constructor_of image contract) vs)) e

pub new_unpaid : (image : Image) (k : ℕ) (contract : ContractId) (args : List ℕ) (c : Configuration) (vs : List PlainValue) (next : Option Next)
    → values_at c.top.slots args ≡ Some vs → with_unit c.world (makes_object image (caller c k) contract (constructor_of image contract) vs) ≡ next
    → new_step image k contract args c ≡ next
new_unpaid image k contract args c vs next e g =
    ap (λ (r : Option (List PlainValue)). r >>= λ vs. with_unit c.world (makes_object image (caller c k) contract (constructor_of image contract) vs)) e ∙ g

pub new_called : (image : Image) (k : ℕ) (contract : ContractId) (args : List ℕ) (c : Configuration) (vs : List PlainValue) (w : World)
    → values_at c.top.slots args ≡ Some vs
    → with_unit c.world (makes_object image (caller c k) contract (constructor_of image contract) vs) ≡ makes_object image (caller c k) contract (constructor_of image contract) vs w
    → new_step image k contract args c ≡ makes_with image k contract args (with_world w c)
new_called image k contract args c vs w e g =
    ap (λ (r : Option (List PlainValue)). r >>= λ vs. with_unit c.world (makes_object image (caller c k) contract (constructor_of image contract) vs)) e
    ∙ g
    ∙ sym (ap (λ (r : Option (List PlainValue)). r >>= λ vs. makes_object image (caller c k) contract (constructor_of image contract) vs w) e)

-- what a `new` does, by whether there are as many objects as there may be
abbrev pub making : Image → ℕ → ContractId → List PlainValue → Configuration → Bool → Option Next
making image k contract vs c full =
    if full then Some (abort by_full (with_read c.world next_item))
    else constructor_of image contract >>= constructs image (caller c k) contract vs (with_read c.world next_item)

made_so : (image : Image) (k : ℕ) (contract : ContractId) (args : List ℕ) (vs : List PlainValue) (c : Configuration) (full : Bool)
    → values_at c.top.slots args ≡ Some vs → nat_le most_objects (length c.world.objects) ≡ full
    → makes_with image k contract args c ≡ making image k contract vs c full
made_so image k contract args vs c full e f =
    ap (λ (r : Option (List PlainValue)). r >>= λ vs. makes_object image (caller c k) contract (constructor_of image contract) vs c.world) e
    ∙ ap (making image k contract vs c) f

pub full_same : (image : Image) (k : ℕ) (contract : ContractId) (args : List ℕ) (vs : List PlainValue) (c : Configuration) (v : World)
    → values_at c.top.slots args ≡ Some vs → nat_le most_objects (length c.world.objects) ≡ true → SameWorld (with_read c.world next_item) v
    → SameNext (makes_with image k contract args c) (Some (abort by_full v))
full_same image k contract args vs c v e f s =
    subst (λ x. SameNext x (Some (abort by_full v))) (sym (made_so image k contract args vs c true e f)) (refl, record { taken = s.taken; reads = s.reads })

pub makes_same : (image : Image) (k : ℕ) (contract : ContractId) (args : List ℕ) (vs : List PlainValue) (c : Configuration) (n : ℕ) (v : World)
    → values_at c.top.slots args ≡ Some vs → nat_le most_objects (length c.world.objects) ≡ false → length c.world.objects ≡ n
    → SameWorld (make_object (with_read c.world next_item) (unfinished contract)) v
    → SameNext (makes_with image k contract args c) (constructs_with image k contract n args (with_world v c))
makes_same image k contract args vs c n v e f g s =
    let w = make_object (with_read c.world next_item) (unfinished contract) in
    let right : constructs_with image k contract n args (with_world v c)
    ≡ (constructor_of image contract >>= λ tx. body_code image contract tx >>= λ (b : BodyCode). Some (goes (begun (caller c k) (contract, tx) b n vs on_new false v))) =
    ap (λ (r : Option (List PlainValue)). constructor_of image contract >>= λ tx. r >>= λ vs. body_code image contract tx >>= λ (b : BodyCode). Some (goes (begun (caller c k) (contract, tx) b n vs on_new false v))) e in
    let left : makes_with image k contract args c
    ≡ (constructor_of image contract >>= λ tx. body_code image contract tx >>= λ (b : BodyCode). Some (goes (begun (caller c k) (contract, tx) b n vs on_new false w))) =
    made_so image k contract args vs c false e f
    ∙ ap (λ n. constructor_of image contract >>= λ tx. body_code image contract tx >>= λ (b : BodyCode). Some (goes (begun (caller c k) (contract, tx) b n vs on_new false w))) g in
    subst (λ x. SameNext x (constructs_with image k contract n args (with_world v c))) (sym left)
    (subst (λ y. SameNext (constructor_of image contract >>= λ tx. body_code image contract tx >>= λ (b : BodyCode). Some (goes (begun (caller c k) (contract, tx) b n vs on_new false w))) y) (sym right)
    (outer (constructor_of image contract)))
  where
    inner : (tx : TxId) (r : Option BodyCode)
        → SameNext (r >>= λ (b : BodyCode). Some (goes (begun (caller c k) (contract, tx) b n vs on_new false (make_object (with_read c.world next_item) (unfinished contract)))))
        (r >>= λ (b : BodyCode). Some (goes (begun (caller c k) (contract, tx) b n vs on_new false v)))
    inner tx None = tt
    inner tx (Some b) = record { top = refl; below = refl; world = s }

    outer : (r : Option TxId)
        → SameNext (r >>= λ tx. body_code image contract tx >>= λ (b : BodyCode). Some (goes (begun (caller c k) (contract, tx) b n vs on_new false (make_object (with_read c.world next_item) (unfinished contract)))))
        (r >>= λ tx. body_code image contract tx >>= λ (b : BodyCode). Some (goes (begun (caller c k) (contract, tx) b n vs on_new false v)))
    outer None = tt
    outer (Some tx) = inner tx (body_code image contract tx)

-- Calls from an entry.

pub entry_reentered : (image : Image) (by : Caller) (contract : ContractId) (tx : TxId) (n : ℕ) (vs : List PlainValue) (w v : World)
    → SameWorld (read_object w n) v → is_in_progress v n ≡ true → SameNext (calls_object image by contract tx n vs w) (Some (abort (by_reentry n) v))
entry_reentered image by contract tx n vs w v s f =
    let r = read_object w n in
    let p : is_in_progress r n ≡ true = ap (λ xs. is_in_progress (record r { progress = xs }) n) (sym s.progress) ∙ f in
    subst (λ b. SameNext (if b then Some (abort (by_reentry n) r) else (object_at r.objects n >>= λ o. callee image contract tx o >>= answers image by n vs r)) (Some (abort (by_reentry n) v)))
    (sym p) (refl, record { taken = s.taken; reads = s.reads })

entering : (image : Image) (by : Caller) (contract : ContractId) (tx : TxId) (n : ℕ) (vs : List PlainValue) (w v : World) (r : Option CalleeId)
    → SameWorld (read_object w n) v → is_in_progress v n ≡ false → (object_at v.objects n >>= λ o. callee image contract tx o) ≡ r
    → calls_object image by contract tx n vs w ≡ (r >>= answers image by n vs (read_object w n))
entering image by contract tx n vs w v r s f h =
    let u = read_object w n in
    let p : is_in_progress u n ≡ false = ap (λ xs. is_in_progress (record u { progress = xs }) n) (sym s.progress) ∙ f in
    ap (λ b. if b then Some (abort (by_reentry n) u) else (object_at u.objects n >>= λ o. callee image contract tx o >>= answers image by n vs u)) p
    ∙ ap (λ xs. object_at xs n >>= λ o. callee image contract tx o >>= answers image by n vs u) (sym s.objects)
    ∙ answered image contract tx (object_at v.objects n) (answers image by n vs u) r h

pub entry_called : (image : Image) (by : Caller) (contract : ContractId) (tx : TxId) (n : ℕ) (vs : List PlainValue) (w v : World) (id : CalleeId)
    → SameWorld (read_object w n) v → is_in_progress v n ≡ false → (object_at v.objects n >>= λ o. callee image contract tx o) ≡ Some id
    → SameNext (calls_object image by contract tx n vs w)
    (body_code image id.0 id.1 >>= λ (b : BodyCode). Some (goes (begun by id b n vs on_receiver (is_shared_at_entry b) (enter n v))))
entry_called image by contract tx n vs w v id s f h =
    subst (λ x. SameNext x (body_code image id.0 id.1 >>= λ (b : BodyCode). Some (goes (begun by id b n vs on_receiver (is_shared_at_entry b) (enter n v)))))
    (sym (entering image by contract tx n vs w v (Some id) s f h)) (inner (body_code image id.0 id.1))
  where
    inner : (x : Option BodyCode)
        → SameNext (x >>= λ (b : BodyCode). Some (goes (begun by id b n vs on_receiver (is_shared_at_entry b) (enter n (read_object w n)))))
        (x >>= λ (b : BodyCode). Some (goes (begun by id b n vs on_receiver (is_shared_at_entry b) (enter n v))))
    inner None = tt
    inner (Some b) = record { top = refl; below = refl; world = entered_same n (read_object w n) v s }

pub entry_full : (image : Image) (by : Caller) (contract : ContractId) (tx : TxId) (vs : List PlainValue) (w v : World)
    → nat_le most_objects (length w.objects) ≡ true → SameWorld (with_read w next_item) v
    → SameNext (makes_object image by contract (Some tx) vs w) (Some (abort by_full v))
entry_full image by contract tx vs w v f s =
    subst (λ b. SameNext (if b then Some (abort by_full (with_read w next_item)) else constructs image by contract vs (with_read w next_item) tx) (Some (abort by_full v)))
    (sym f) (refl, record { taken = s.taken; reads = s.reads })

pub entry_made : (image : Image) (by : Caller) (contract : ContractId) (tx : TxId) (vs : List PlainValue) (w v : World) (n : ℕ)
    → nat_le most_objects (length w.objects) ≡ false → length w.objects ≡ n → SameWorld (make_object (with_read w next_item) (unfinished contract)) v
    → SameNext (makes_object image by contract (Some tx) vs w)
    (body_code image contract tx >>= λ (b : BodyCode). Some (goes (begun by (contract, tx) b n vs on_new false v)))
entry_made image by contract tx vs w v n f g s =
    let u = make_object (with_read w next_item) (unfinished contract) in
    let left : makes_object image by contract (Some tx) vs w ≡ (body_code image contract tx >>= λ (b : BodyCode). Some (goes (begun by (contract, tx) b n vs on_new false u))) =
    ap (λ b. if b then Some (abort by_full (with_read w next_item)) else constructs image by contract vs (with_read w next_item) tx) f
    ∙ ap (λ n. body_code image contract tx >>= λ (b : BodyCode). Some (goes (begun by (contract, tx) b n vs on_new false u))) g in
    subst (λ x. SameNext x (body_code image contract tx >>= λ (b : BodyCode). Some (goes (begun by (contract, tx) b n vs on_new false v)))) (sym left) (inner (body_code image contract tx))
  where
    inner : (x : Option BodyCode)
        → SameNext (x >>= λ (b : BodyCode). Some (goes (begun by (contract, tx) b n vs on_new false (make_object (with_read w next_item) (unfinished contract)))))
        (x >>= λ (b : BodyCode). Some (goes (begun by (contract, tx) b n vs on_new false v)))
    inner None = tt
    inner (Some b) = record { top = refl; below = refl; world = s }
