-- What comes into a body is marked.
use Rattle.std.proofs.Common.{◌≡◌, ℕ, suc, Bool, true, false, List, [], ◌∷◌, length, map, drop, Option, Some, None, refl, sym, ap, subst, ◌∙◌, inl, inr, append-nil, min, ◌≤◌, ◌<◌, ◌⊎◌, get_or, add-one, drop-cons, arith}
use Rattle.std.specs.Prelude.{Contains, nat_le, ◌+◌, option_map, if◌then◌else◌}
use Rattle.std.specs.Option.{option_map_or}
use Rattle.std.proofs.lemmas.List.{drop_all}
use Rattle.std.proofs.lemmas.List.Elements.{Contains-append_left, Contains-append_right, Contains-append_cases}
use Rattle.ob_base.specs.declared.id.ContractId.{ContractId}
use Rattle.ob_base.specs.declared.id.ObjectId.{ObjectId}
use Rattle.ob_perm.specs.Masks.{permission_of}
use Rattle.ob_perm.specs.Permissions.{is_shared}
use Rattle.ob_table.specs.declared.contract.ResolvedType.{ResolvedType}
use Rattle.ob_table.specs.declared.contract.ResolvedType.TheVariants as typed
use Rattle.ob_heap_spec.specs.Values.{Value, int_value, bool_value, text_value, reference}
use Rattle.ob_heap_spec.specs.Objects.{Object as PlainObject}
use Rattle.ob_heap_spec.specs.Contents.{object_at}
use Rattle.ob_heap_spec.specs.Worlds.{World, ReadItem, object_item, first_world, is_made, with_read, read_object, edit_object, AllRead, SameWorld}
use Rattle.ob_heap_spec.specs.Marks.{has_mark, mark_shared, comes_into}
use Rattle.ob_code.specs.declared.image.Image.{Image}
use Rattle.ob_code.specs.declared.image.BodyCode.{BodyCode}
use Rattle.ob_code.specs.declared.image.ParamCode.{ParamCode}
use Rattle.ob_code.specs.declared.image.ParamCode.TheVariants as param
use Rattle.ob_code.specs.declared.image.PermCode.{PermCode}
use Rattle.ob_code.specs.Code.{body_code}
use Rattle.ob_heap.specs.declared.object.Object.{Object}
use Rattle.ob_heap.specs.Overlays.{Changes, no_changes, laid_from, objects_over}
use Rattle.ob_heap.specs.Plain.{object_of, value_of}
use Rattle.ob_heap.specs.declared.value.Value.{Value as Argument}
use Rattle.ob_heap.specs.declared.value.Value.TheVariants as argument
use Rattle.ob_code_table.specs.ImageTables.{perm_of_code, type_of_param}
use Rattle.ob_machine_steps.specs.Entries.{MachineEntry, lock_receiver, args_come_in, receiver_comes_in, comes_into_body, marked_world, starting, started}
use Rattle.ob_machine_steps.specs.Runs.{world_of as world_of_phase}
use Rattle.ob_machine_steps.specs.Configurations.{Configuration}
use Rattle.ob_machine_laws.specs.Laws.{SamePhase}
use Rattle.ob_machine.specs.Phases.{entry_of, phase_at, phase_of, world_at_start}
use Rattle.ob_machine_parts.specs.Shown.{number_of}
use Rattle.ob_machine.specs.Shown.{shown, world_of}
use Rattle.ob_machine.specs.declared.entry.Entry.{Entry}
use Rattle.ob_machine.specs.declared.machine.Machine.{Machine}
use Rattle.ob_machine.specs.declared.run.Run.{Run}
use Rattle.ob_machine_parts.proofs.WorldLemmas.{same_world, edit_same}
use Rattle.ob_machine.proofs.SliceLemmas.{world_on}

-- Worlds that are the same but for reads.

if_alike : (b : Bool) (w v x y : World) → SameWorld w x → SameWorld v y → SameWorld (if b then w else v) (if b then x else y)
if_alike true w v x y s t = s
if_alike false w v x y s t = t

more_read : (x : ReadItem) (rs ss : List ReadItem) → AllRead rs ss → AllRead (x ∷ rs) (x ∷ ss)
more_read x rs ss h item c =
    elim (Contains-append_cases (x ∷ []) rs item c) as (λ s. Contains (x ∷ ss) item)
    [ inl d ↦ Contains-append_left (x ∷ []) ss item d | inr d ↦ Contains-append_right (x ∷ []) ss item (h item d) ]

with_read_alike : (w v : World) (item : ReadItem) → SameWorld w v → SameWorld (with_read w item) (with_read v item)
with_read_alike w v item s = record {
  objects = s.objects;
  made = s.made;
  locked = s.locked;
  progress = s.progress;
  fuel = s.fuel;
  taken = s.taken;
  reads = (more_read item w.reads v.reads s.reads.0, more_read item v.reads w.reads s.reads.1);
}

read_alike : (n : ℕ) (w v : World) → SameWorld w v → SameWorld (read_object w n) (read_object v n)
read_alike n w v s =
    let made : is_made w n ≡ is_made v n =
    ap (λ (xs : List PlainObject). nat_le (length xs) (n + w.made)) (sym s.objects) ∙ ap (λ m. nat_le (length v.objects) (n + m)) (sym s.made) in
    subst (λ b. SameWorld (read_object w n) (if b then v else with_read v (object_item n))) made
    (if_alike (is_made w n) w (with_read w (object_item n)) v (with_read v (object_item n)) s (with_read_alike w v (object_item n) s))

marked_alike : (n : ℕ) (w v : World) → SameWorld w v
    → SameWorld (if has_mark (λ o. o.shared) w n then w else edit_object (λ o. record o { shared = true }) n w)
    (if has_mark (λ o. o.shared) v n then v else edit_object (λ o. record o { shared = true }) n v)
marked_alike n w v s =
    let mark : has_mark (λ o. o.shared) w n ≡ has_mark (λ o. o.shared) v n = ap (λ xs. option_map_or (λ (o : PlainObject). o.shared) (object_at xs n) true) (sym s.objects) in
    let edit : World → World = edit_object (λ o. record o { shared = true }) n in
    subst (λ b. SameWorld (if has_mark (λ o. o.shared) w n then w else edit w) (if b then v else edit v)) mark
    (if_alike (has_mark (λ o. o.shared) w n) w (edit w) v (edit v) s (edit_same (λ o. record o { shared = true }) n w v s))

shared_alike : (n : ℕ) (w v : World) → SameWorld w v → SameWorld (mark_shared n w) (mark_shared n v)
shared_alike n w v s = marked_alike n (read_object w n) (read_object v n) (read_alike n w v s)

pub into_alike : (of : ResolvedType) (x : Value) (w v : World) → SameWorld w v → SameWorld (comes_into of x w) (comes_into of x v)
into_alike typed.Int x w v s = s
into_alike typed.Bool x w v s = s
into_alike typed.Text x w v s = s
into_alike (typed.Reference id p) (int_value z) w v s = s
into_alike (typed.Reference id p) (bool_value b) w v s = s
into_alike (typed.Reference id p) (text_value bytes) w v s = s
into_alike (typed.Reference id p) (reference n) w v s = if_alike (is_shared (permission_of p)) (mark_shared n w) w (mark_shared n v) v (shared_alike n w v s) s

pub args_alike : (params : List ParamCode) (args : List Value) (w v : World) → SameWorld w v → SameWorld (args_come_in params args w) (args_come_in params args v)
args_alike [] args w v s = s
args_alike (p ∷ params) [] w v s = s
args_alike (p ∷ params) (x ∷ args) w v s = args_alike params args (comes_into (type_of_param p) x w) (comes_into (type_of_param p) x v) (into_alike (type_of_param p) x w v s)

-- Arguments, one after another.

no_args : (params : List ParamCode) (w : World) → args_come_in params [] w ≡ w
no_args [] w = refl
no_args (p ∷ params) w = refl

least_of : (m n k : ℕ) → k ≡ min m n → (m ≤ k) ⊎ (n ≤ k)
least_of m n k e = grind (arith, e)

-- after as many arguments as there are parameters, or the reverse
pub args_end : (params : List ParamCode) (args : List Argument) (n : ℕ) (w : World) → n ≡ min (length params) (length args)
    → args_come_in (drop n params) (map value_of (drop n args)) w ≡ w
args_end params args n w e = by (least_of (length params) (length args) n e)
  where
    by : (length params ≤ n) ⊎ (length args ≤ n) → args_come_in (drop n params) (map value_of (drop n args)) w ≡ w
    by (inl h) = rw (drop_all n params h) refl
    by (inr h) = rw (drop_all n args h) (no_args (drop n params) w)

-- the argument at a place comes in, and then those after it
pub args_turn : (params : List ParamCode) (args : List Argument) (n : ℕ) (p : ParamCode) (x : Argument) (w v u : World) → n < length params → n < length args
    → p ≡ get_or params n p → x ≡ get_or args n x → SameWorld (comes_into (type_of_param p) (value_of x) w) v
    → SameWorld (args_come_in (drop (n + 1) params) (map value_of (drop (n + 1) args)) v) u
    → SameWorld (args_come_in (drop n params) (map value_of (drop n args)) w) u
args_turn params args n p x w v u lp la ep ex s t =
    let dp : drop n params ≡ p ∷ drop (n + 1) params = rw (add-one, drop-cons params n p lp) (ap (λ y. y ∷ drop (suc n) params) (sym ep)) in
    let da : drop n args ≡ x ∷ drop (n + 1) args = rw (add-one, drop-cons args n x la) (ap (λ y. y ∷ drop (suc n) args) (sym ex)) in
    let now : World = args_come_in (drop (n + 1) params) (map value_of (drop (n + 1) args)) (comes_into (type_of_param p) (value_of x) w) in
    let next : World = args_come_in (drop (n + 1) params) (map value_of (drop (n + 1) args)) v in
    subst (λ ps. SameWorld (args_come_in ps (map value_of (drop n args)) w) u) (sym dp)
    (subst (λ xs. SameWorld (args_come_in (p ∷ drop (n + 1) params) (map value_of xs) w) u) (sym da)
    (world_on now next u (args_alike (drop (n + 1) params) (map value_of (drop (n + 1) args)) (comes_into (type_of_param p) (value_of x) w) v s) t))

-- What comes in is told by its parts.

pub reference_in : (p : ParamCode) (x : Argument) (of : ContractId) (entry exit : PermCode) (id : ObjectId) (w v : World) → p ≡ param.Reference of entry exit → x ≡ argument.Object id
    → SameWorld (comes_into (typed.Reference of (perm_of_code entry)) (reference id.0) w) v → SameWorld (comes_into (type_of_param p) (value_of x) w) v
reference_in p x of entry exit id w v e f s =
    subst (λ y. SameWorld (comes_into (type_of_param y) (value_of x) w) v) (sym e)
    (subst (λ y. SameWorld (comes_into (typed.Reference of (perm_of_code entry)) (value_of y) w) v) (sym f) s)

pub receiver_in : (of : ContractId) (b : BodyCode) (r : Option ObjectId) (id : ObjectId) (w v : World) → r ≡ Some id
    → SameWorld (comes_into (typed.Reference of (perm_of_code b.entry)) (reference id.0) w) v → SameWorld (receiver_comes_in of b (option_map number_of r) w) v
receiver_in of b r id w v e s = subst (λ x. SameWorld (receiver_comes_in of b (option_map number_of x) w) v) (sym e) s

pub then_args : (params ps : List ParamCode) (args xs : List Argument) (w v u : World) → ps ≡ params → xs ≡ args → SameWorld w v
    → SameWorld (args_come_in ps (map value_of xs) v) u → SameWorld (args_come_in params (map value_of args) w) u
then_args params ps args xs w v u e f s t =
    world_on (args_come_in params (map value_of args) w) (args_come_in params (map value_of args) v) u (args_alike params (map value_of args) w v s)
    (subst (λ x. SameWorld (args_come_in x (map value_of args) v) u) e (subst (λ x. SameWorld (args_come_in ps (map value_of x) v) u) f t))

pub body_in : (image : Image) (e : MachineEntry) (b : BodyCode) (w v : World) → body_code image e.contract e.tx ≡ Some b
    → SameWorld (args_come_in b.params e.args (receiver_comes_in e.contract b e.receiver w)) v → SameWorld (marked_world image e w) v
body_in image e b w v h s = subst (λ o. SameWorld (comes_into_body e.contract o e.receiver e.args w) v) (sym h) s

pub no_body_in : (image : Image) (e : MachineEntry) (w : World) → body_code image e.contract e.tx ≡ None → SameWorld (marked_world image e w) w
no_body_in image e w h = subst (λ o. SameWorld (comes_into_body e.contract o e.receiver e.args w) w) (sym h) (same_world w)

-- The start.

world_of_at : (e : Option Entry) (c : Configuration) → world_of_phase (phase_at e c) ≡ c.world
world_of_at None c = refl
world_of_at (Some e) c = refl

-- the world of a machine that starts
starts_in : (m : Machine) (base : List Object) (o : Changes) (e : MachineEntry) (w : World) → phase_of m base o ≡ starting e w → world_of m.run base o ≡ w
starts_in m base o e w h = sym (world_of_at m.entry (shown m.run base o)) ∙ ap world_of_phase h

laid_nothing : (n : ℕ) (base : List Object) → laid_from [] n base ≡ base
laid_nothing n [] = refl
laid_nothing n (o ∷ os) = ap (λ x. o ∷ x) (laid_nothing (suc n) os)

over_nothing : (base : List Object) → objects_over base no_changes ≡ map object_of base
over_nothing base = ap (map object_of) (append-nil (laid_from [] 0 base) ∙ laid_nothing 0 base)

at_start_by : (lock : Bool) (receiver : Option ℕ) (objects : List PlainObject) (fuel : ℕ)
    → (let w = lock_receiver lock receiver (first_world objects fuel) in record w { made = 0; reads = [] }) ≡ lock_receiver lock receiver (first_world objects fuel)
at_start_by lock None objects fuel = refl
at_start_by true (Some n) objects fuel = refl
at_start_by false (Some n) objects fuel = refl

-- without changes a machine starts in the world of the entry's lock
started_in : (e : Entry) (base : List Object) (fuel : ℕ)
    → world_at_start e base no_changes fuel ≡ lock_receiver e.lock (option_map number_of e.receiver) (first_world (map object_of base) fuel)
started_in e base fuel =
    at_start_by e.lock (option_map number_of e.receiver) (objects_over base no_changes) fuel
    ∙ ap (λ xs. lock_receiver e.lock (option_map number_of e.receiver) (first_world xs fuel)) (over_nothing base)

-- what a machine enters once what comes in was marked
pub entered : (image : Image) (m : Machine) (e : Entry) (base : List Object) (old new : Changes) (fuel : ℕ)
    → ((b : List Object) (o : Changes) → phase_of m b o ≡ starting (entry_of e) (world_at_start e b o fuel))
    → ((r : Run) → SameWorld (marked_world image (entry_of e) (world_of r base old)) (world_of r base new))
    → SamePhase (starting (entry_of e) (marked_world image (entry_of e) (world_at_start e base old fuel))) (phase_of m base new)
entered image m e base old new fuel starts marks =
    let first : world_of m.run base old ≡ world_at_start e base old fuel = starts_in m base old (entry_of e) (world_at_start e base old fuel) (starts base old) in
    let last : world_of m.run base new ≡ world_at_start e base new fuel = starts_in m base new (entry_of e) (world_at_start e base new fuel) (starts base new) in
    let same : SameWorld (marked_world image (entry_of e) (world_at_start e base old fuel)) (world_at_start e base new fuel) =
    subst (λ w. SameWorld (marked_world image (entry_of e) w) (world_at_start e base new fuel)) first
    (subst (λ w. SameWorld (marked_world image (entry_of e) (world_of m.run base old)) w) last (marks m.run)) in
    subst (SamePhase (starting (entry_of e) (marked_world image (entry_of e) (world_at_start e base old fuel)))) (sym (starts base new)) (refl, same)

pub entered_first : (image : Image) (m : Machine) (e : Entry) (base : List Object) (old new : Changes) (fuel : ℕ)
    → SamePhase (starting (entry_of e) (marked_world image (entry_of e) (world_at_start e base old fuel))) (phase_of m base new)
    → old ≡ no_changes → SamePhase (started image (entry_of e) (map object_of base) fuel) (phase_of m base new)
entered_first image m e base old new fuel s h =
    subst (λ w. SamePhase (starting (entry_of e) (marked_world image (entry_of e) w)) (phase_of m base new))
    (ap (λ o. world_at_start e base o fuel) h ∙ started_in e base fuel) s
