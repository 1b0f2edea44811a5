-- What is known of the entries of what isn't read, from step to step.
use Rattle.std.proofs.Common.{◌≡◌, ℕ, zero, suc, ◌+◌, ◌<◌, ◌≤◌, Bool, true, false, List, [], ◌∷◌, length, map, inl, inr, Option, Some, None, Result, Ok, Err, refl, sym, ap, subst, arith}
use Rattle.std.specs.Prelude.{nat_eq, ◌||◌, Contains, OnOk, IfOk}
use Rattle.std.specs.List.{list_any}
use Rattle.std.proofs.lemmas.List.Elements.{Contains-append_cases}
use Rattle.ob_code.specs.declared.image.Image.{Image}
use Rattle.ob_heap_spec.specs.Worlds.{World, object_item, SameWorld}
use Rattle.ob_heap.specs.declared.object.Object.{Object}
use Rattle.ob_heap.specs.Overlays.{Changes, is_read, KeepsUnread, no_object, only}
use Rattle.ob_heap.proofs.UnreadLemmas.{unread_itself, unread_onward, unread_within, unread_where_read}
use Rattle.ob_machine_steps.specs.Configurations.{MachineFrame, Configuration, Next, goes, stops}
use Rattle.ob_machine_steps.specs.Entries.{Phase, running, next_step}
use Rattle.ob_machine_steps.specs.Runs.{after_step, after_steps}
use Rattle.ob_machine_laws.specs.Laws.{IsTold, AreTold, HasToldFrames, SameConfiguration, SameNext}
use Rattle.ob_machine_laws.proofs.Unread.{frames_told}
use Rattle.ob_machine_parts.specs.Guards.{Guarded}
use Rattle.ob_machine_parts.specs.Shown.{next_read, world_with}
use Rattle.ob_machine_parts.specs.Units.{Metered}
use Rattle.ob_machine_parts.specs.declared.off.Off.{Off}
use Rattle.ob_machine_parts.proofs.WorldLemmas.{count_over}
use Rattle.ob_machine.specs.Phases.{phase_of, HasBegun}
use Rattle.ob_machine.specs.Shown.{shown, told, Tells}
use Rattle.ob_machine.specs.Slicing.{Tries}
use Rattle.ob_machine.specs.Stretching.{Strides}
use Rattle.ob_machine.specs.Unread.{IsToldOn, Leaves, TurnLeaves}
use Rattle.ob_machine.specs.declared.machine.Machine.{Machine}
use Rattle.ob_machine.specs.declared.progress.Progress.{Progress}
use Rattle.ob_machine.specs.declared.progress.Progress.TheVariants.{Finished, Aborted, Going}
use Rattle.ob_machine.specs.declared.run.Run.{Run}
use Rattle.ob_machine.specs.declared.slice.Turn.{Turn}
use Rattle.ob_machine.specs.declared.slice.Turn.TheVariants.{Waits, Made}
use Rattle.ob_machine.proofs.SliceLemmas.{begun_at}

pub on_ok_so : {A E P : Type 0} (r : Result A E) → P → OnOk r P
on_ok_so (Ok a) h = h
on_ok_so (Err x) h = tt

-- where the changes are the same
pub still : {A E : Type 0} (r : Result A E) (exempt : ℕ → Type 0) (c : Changes) → OnOk r (KeepsUnread exempt c c)
still r exempt c = on_ok_so r (unread_itself exempt c)

-- where no object is exempt, neither is more than one
pub alone : {A E : Type 0} (r : Result A E) (count n : ℕ) (a b : Changes) → OnOk r (KeepsUnread no_object a b) → OnOk r (KeepsUnread (only count n) a b)
alone (Ok x) count n a b h = unread_within no_object (only count n) (λ m e. absurd e) a b h
alone (Err x) count n a b h = tt

pub ruleset leaving = (still, alone, unread_itself)

-- What is told.

reads_among : (n : ℕ) (ns : List ℕ) → Contains (map object_item ns) (object_item n) → list_any (nat_eq n) ns ≡ true
reads_among n [] (k, h, e) = absurd (omega (arith, h))
reads_among n (m ∷ ns) (zero, h, e) =
    let k : m ≡ n = cc in
    let same : nat_eq n m ≡ true = grind (arith, k) in
    ap (λ b. b || list_any (nat_eq n) ns) same
reads_among n (m ∷ ns) (suc k, h, e) = by (nat_eq n m) (reads_among n ns (k, omega (arith, h), e))
  where
    by : (b : Bool) → list_any (nat_eq n) ns ≡ true → (b || list_any (nat_eq n) ns) ≡ true
    by true f = refl
    by false f = f

not_next : (n : ℕ) (b : Bool) → Contains (next_read b) (object_item n) → ⊥
not_next n true (zero, h, e) = absurd cc
not_next n true (suc k, h, e) = omega (arith, h)
not_next n false (k, h, e) = omega (arith, h)

-- an object of the base of which a run has told was read
pub told_read : (g : Guarded) (u : Metered) (base : List Object) (o : Changes) (n : ℕ) → IsTold (world_with g u base o) n → n < length base → is_read n o ≡ true
told_read g u base o n (inl made) low = let count = count_over base o in absurd (omega (arith, made, count, low))
told_read g u base o n (inr read) low =
    elim (Contains-append_cases (next_read o.next) (map object_item o.reads) (object_item n) read) as (λ s. is_read n o ≡ true)
    [ inl next ↦ absurd (not_next n o.next next) | inr item ↦ reads_among n o.reads item ]

-- where a run has told of its frames, a step of it leaves all that isn't read
pub top_read : {A E : Type 0} (r : Result A E) (m : Run) (base : List Object) (old new : Changes) → HasToldFrames (running (shown m base old))
    → OnOk r (KeepsUnread (only (length base) m.top.this.0) old new) → OnOk r (KeepsUnread no_object old new)
top_read (Ok x) m base old new known k = unread_where_read (length base) m.top.this.0 old new k (told_read m.guard m.units base old m.top.this.0 known.0)
top_read (Err x) m base old new known k = tt

-- the same where it has begun
pub begun_read : {A E : Type 0} (r : Result A E) (m : Machine) (base : List Object) (old new : Changes) → HasBegun m → HasToldFrames (phase_of m base old)
    → OnOk r (KeepsUnread (only (length base) m.run.top.this.0) old new) → OnOk r (KeepsUnread no_object old new)
begun_read r m base old new begun known k = top_read r m.run base old new (subst HasToldFrames (begun_at m base old begun) known) k

-- What stays told.

told_alike : (w v : World) (n : ℕ) → SameWorld w v → IsTold w n → IsTold v n
told_alike w v n s (inl made) =
    inl (subst (λ k. length v.objects ≤ n + k) (sym s.made) (subst (λ xs. length xs ≤ n + w.made) (sym s.objects) made))
told_alike w v n s (inr read) = inr (s.reads.0 (object_item n) read)

frames_alike : (w v : World) (fs : List MachineFrame) → SameWorld w v → AreTold w fs → AreTold v fs
frames_alike w v [] s h = tt
frames_alike w v (f ∷ fs) s h = (told_alike w v f.this s h.0, frames_alike w v fs s h.1)

known_alike : (c d : Configuration) → SameConfiguration c d → HasToldFrames (running c) → HasToldFrames (running d)
known_alike c d s h =
    frames_alike c.world d.world (d.top ∷ d.below) s.world
    (subst (λ fs. AreTold c.world (d.top ∷ fs)) (sym s.below) (subst (λ f. AreTold c.world (f ∷ c.below)) (sym s.top) h))

-- after a step
pub stays_told : (image : Image) (p : Phase) (d : Configuration) → HasToldFrames p → next_step image p ≡ Some (goes d) → HasToldFrames (running d)
stays_told image p d known e = frames_told image (suc zero) p (running d) known (ap (λ x. after_step x (after_steps image zero)) e)

next_told : (image : Image) (p : Phase) (c : Configuration) (n : Option Next) → HasToldFrames p → next_step image p ≡ n → SameNext n (Some (goes c))
    → HasToldFrames (running c)
next_told image p c None known e s = absurd s
next_told image p c (Some (goes d)) known e s = known_alike d c s (stays_told image p d known e)
next_told image p c (Some (stops x)) known e s = absurd s

-- where a machine comes to after a step
made_told : (image : Image) (p : Phase) (progress : Progress) (m : Machine) (base : List Object) (o : Changes) → HasToldFrames p → HasBegun m
    → SameNext (next_step image p) (Some (told (shown m.run base o) progress)) → IsToldOn progress (phase_of m base o)
made_told image p Going m base o known begun s =
    subst HasToldFrames (sym (begun_at m base o begun)) (next_told image p (shown m.run base o) (next_step image p) known refl s)
made_told image p (Finished result) m base o known begun s = tt
made_told image p (Aborted cause) m base o known begun s = tt

pub step_leaves : (image : Image) (p : Phase) (r : Result Progress Off) (progress : Progress) (m : Machine) (base : List Object) (old new : Changes) → HasToldFrames p
    → Tells r (next_step image p) (shown m.run base new) → OnOk r (HasBegun m) → OnOk r (KeepsUnread no_object old new) → r ≡ Ok progress
    → Leaves progress old new (phase_of m base new)
step_leaves image p r progress m base old new known tells begun kept e =
    let P : Result Progress Off → Type 0 = λ r. Tells r (next_step image p) (shown m.run base new) in (
      subst (λ r. OnOk r (KeepsUnread no_object old new)) e kept,
      made_told image p progress m base new known (subst (λ r. OnOk r (HasBegun m)) e begun) (subst P e tells),
    )

pub turn_leaves : (image : Image) (left : ℕ) (p : Phase) (r : Result Turn Off) (m : Machine) (base : List Object) (old new : Changes) → HasToldFrames p
    → Tries r image left p m base new → OnOk r (KeepsUnread no_object old new) → IfOk r (λ turn. TurnLeaves turn old new (phase_of m base new))
turn_leaves image left p (Ok Waits) m base old new known t kept = (kept, subst HasToldFrames (sym t.1) known)
turn_leaves image left p (Ok (Made progress rest)) m base old new known t kept =
    (kept, made_told image p progress m base new known t.3 t.2)
turn_leaves image left p (Err off) m base old new known t kept = tt

-- a turn after a stretch
pub then_turn : (r : Result Turn Off) (a b c : Changes) (p : Phase) → KeepsUnread no_object a b → IfOk r (λ turn. TurnLeaves turn b c p)
    → IfOk r (λ turn. TurnLeaves turn a c p)
then_turn (Ok Waits) a b c p k h = (unread_onward no_object a b c k h.0, h.1)
then_turn (Ok (Made progress rest)) a b c p k h = (unread_onward no_object a b c k h.0, h.1)
then_turn (Err off) a b c p k h = tt

-- Stretches.

-- what is known of a stretch: what isn't read is left, and the object of each frame is told
abbrev pub Spared : Changes → Changes → Configuration → Type 0
Spared old new c = KeepsUnread no_object old new × HasToldFrames (running c)

pub stride_spares : (image : Image) (left rest : ℕ) (start : Changes) (m after : Run) (base : List Object) (old new : Changes)
    (r : Result (Option ℕ) Off) (x : Option ℕ) → Spared start old (shown m base old)
    → Strides r image left (shown m base old) (shown after base new) → OnOk r (KeepsUnread (only (length base) m.top.this.0) old new)
    → r ≡ Ok x → x ≡ Some rest → Spared start new (shown after base new)
stride_spares image left rest start m after base old new r x s t k e f =
    let c = shown m base old in
    let d = shown after base new in
    let h = subst (λ y. Strides (Ok y) image left c d) f (subst (λ y. Strides y image left c d) e t) in
    let kept : KeepsUnread (only (length base) m.top.this.0) old new = subst (λ y. OnOk y (KeepsUnread (only (length base) m.top.this.0) old new)) e k in (
      unread_onward no_object start old new s.0 (unread_where_read (length base) m.top.this.0 old new kept (told_read m.guard m.units base old m.top.this.0 s.1.0)),
      stays_told image (running c) d s.1 h.2,
    )

-- nothing is done
pub stride_still : (image : Image) (left : ℕ) (start : Changes) (m after : Run) (base : List Object) (old new : Changes)
    (r : Result (Option ℕ) Off) (x : Option ℕ) → Spared start old (shown m base old)
    → Strides r image left (shown m base old) (shown after base new) → OnOk r (KeepsUnread (only (length base) m.top.this.0) old new)
    → r ≡ Ok x → x ≡ None → Spared start new (shown after base new)
stride_still image left start m after base old new r x s t k e f =
    let c = shown m base old in
    let d = shown after base new in
    let h : d ≡ c = subst (λ y. Strides (Ok y) image left c d) f (subst (λ y. Strides y image left c d) e t) in
    let kept : KeepsUnread (only (length base) m.top.this.0) old new = subst (λ y. OnOk y (KeepsUnread (only (length base) m.top.this.0) old new)) e k in (
      unread_onward no_object start old new s.0 (unread_where_read (length base) m.top.this.0 old new kept (told_read m.guard m.units base old m.top.this.0 s.1.0)),
      subst (λ x. HasToldFrames (running x)) (sym h) s.1,
    )

-- Slices.

-- what a slice has left so far, and what a turn leaves then
pub then_leaves : (a b c : Changes) (p : Phase) (progress : Progress) → KeepsUnread no_object a b → Leaves progress b c p → Leaves progress a c p
then_leaves a b c p progress k h = (unread_onward no_object a b c k h.0, h.1)

pub made_leaves : (r : Result Turn Off) (turn : Turn) (x progress : Progress) (rest : ℕ) (old new : Changes) (p : Phase)
    → IfOk r (λ t. TurnLeaves t old new p) → r ≡ Ok turn → turn ≡ Made x rest → x ≡ progress → Leaves progress old new p
made_leaves r turn x progress rest old new p h e f g =
    subst (λ y. Leaves y old new p) g
    (subst (λ t. TurnLeaves t old new p) f (subst (λ y. IfOk y (λ t. TurnLeaves t old new p)) e h))

pub waits_leaves : (r : Result Turn Off) (turn : Turn) (old new : Changes) (p : Phase)
    → IfOk r (λ t. TurnLeaves t old new p) → r ≡ Ok turn → turn ≡ Waits → Leaves Going old new p
waits_leaves r turn old new p h e f =
    subst (λ t. TurnLeaves t old new p) f (subst (λ y. IfOk y (λ t. TurnLeaves t old new p)) e h)
