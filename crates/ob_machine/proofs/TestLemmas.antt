-- Tests, and steps up to the order of what was read.
use Rattle.std.proofs.Common.{◌≡◌, ℕ, Bool, true, false, List, Option, Some, None, Result, Ok, Err, refl, sym, ap, subst, ◌∙◌}
use Rattle.std.specs.Prelude.{not, ◌==◌, ◌&&◌, ◌||◌, if◌then◌else◌}
use Rattle.ob_base.specs.Optional.{◌>>=◌}
use Rattle.ob_base.specs.declared.id.ContractId.{ContractId}
use Rattle.ob_base.specs.declared.id.StateId.{StateId}
use Rattle.ob_heap_spec.specs.Contents.{object_at}
use Rattle.ob_heap_spec.specs.Marks.{is_locked, is_in_progress}
use Rattle.ob_heap_spec.specs.Objects.{Object as PlainObject}
use Rattle.ob_heap_spec.specs.Worlds.{World, ReadItem, read_object, SameWorld, ReadSame, by_state}
use Rattle.ob_code.specs.declared.image.Image.{Image}
use Rattle.ob_code_table.specs.Images.{is_in_state_of}
use Rattle.ob_machine_steps.specs.Slots.{reference_at}
use Rattle.ob_machine_steps.specs.Configurations.{Configuration, Next, goes, stops, ended, aborted, abort}
use Rattle.ob_machine_steps.specs.Parts.{with_world}
use Rattle.ob_machine_steps.specs.Changing.{is_locked_out}
use Rattle.ob_machine_steps.specs.Testing.{branches, tests_this, tests_other, test_step, is_barred, lock_of}
use Rattle.ob_machine_laws.specs.Laws.{SameNext}
use Rattle.ob_machine_parts.specs.Giving.{Gives}
use Rattle.ob_machine.specs.Shown.{told, Tells}
use Rattle.ob_machine_parts.specs.declared.off.Off.{Off}
use Rattle.ob_machine_parts.specs.declared.off.Off.TheVariants.{Memory, NoStep}
use Rattle.ob_machine.specs.declared.progress.Progress.{Progress}

pub not_true : (b : Bool) → not b ≡ true → b ≡ false
not_true true e = absurd cc
not_true false e = refl

-- Tests without what was read.

pub locked_out : (n target : ℕ) (c : Configuration) (holds : Bool) → is_locked_out c n ≡ true → tests_this n target c holds ≡ Some (abort (by_state n None) c.world)
locked_out n target c holds e = ap (λ b. if b then Some (abort (by_state n None) c.world) else branches None target c holds) e

pub not_locked_out : (n target : ℕ) (c : Configuration) (holds : Bool) → is_locked_out c n ≡ false → tests_this n target c holds ≡ branches None target c holds
not_locked_out n target c holds e = ap (λ b. if b then Some (abort (by_state n None) c.world) else branches None target c holds) e

pub unshared : (n target : ℕ) (o : PlainObject) (c : Configuration) (holds : Bool) → o.shared ≡ false → tests_other n o target c holds ≡ branches None target c holds
unshared n target o c holds e =
    let h : is_barred c.world n o ≡ false = ap (λ b. b && (is_locked c.world n || is_in_progress c.world n)) e in
    ap (λ b. if b then Some (abort (by_state n None) c.world) else branches (lock_of n o) target c holds) h
    ∙ ap (λ b. branches (if b then Some n else None) target c holds) e

pub unbarred : (n target : ℕ) (o : PlainObject) (c : Configuration) (holds : Bool) → o.shared ≡ true → is_locked c.world n ≡ false → is_in_progress c.world n ≡ false
    → tests_other n o target c holds ≡ branches (Some n) target c holds
unbarred n target o c holds e f g =
    let h : is_barred c.world n o ≡ false = rw (e, f, g) refl in
    ap (λ b. if b then Some (abort (by_state n None) c.world) else branches (lock_of n o) target c holds) h
    ∙ ap (λ b. branches (if b then Some n else None) target c holds) e

-- What was read.

-- worlds that are the same but for what was read
pub but_reads : (w v : World) → SameWorld w v → v ≡ record w { reads = v.reads }
but_reads w v s =
    ap {B = World} (λ x. record v { objects = x }) s.objects
    ∙ ap {B = World} (λ x. record v { objects = w.objects; made = x }) s.made
    ∙ ap {B = World} (λ x. record v { objects = w.objects; made = w.made; locked = x }) s.locked
    ∙ ap {B = World} (λ x. record v { objects = w.objects; made = w.made; locked = w.locked; progress = x }) s.progress
    ∙ ap {B = World} (λ x. record v { objects = w.objects; made = w.made; locked = w.locked; progress = w.progress; fuel = x }) s.fuel
    ∙ ap {B = World} (λ x. record v { objects = w.objects; made = w.made; locked = w.locked; progress = w.progress; fuel = w.fuel; taken = x }) s.taken

abbrev reading : World → List ReadItem → World
reading w rs = record w { reads = rs }

branch_reads : (t : Option ℕ) (target : ℕ) (c : Configuration) (w : World) (rs : List ReadItem) (holds : Bool) → ReadSame w.reads rs
    → SameNext (branches t target (with_world w c) holds) (branches t target (with_world (reading w rs) c) holds)
branch_reads t target c w rs false h =
    record { top = refl; below = refl; world = record { objects = refl; made = refl; locked = refl; progress = refl; fuel = refl; taken = refl; reads = h } }
branch_reads None target c w rs true h =
    record { top = refl; below = refl; world = record { objects = refl; made = refl; locked = refl; progress = refl; fuel = refl; taken = refl; reads = h } }
branch_reads (Some n) target c w rs true h =
    record { top = refl; below = refl; world = record { objects = refl; made = refl; locked = refl; progress = refl; fuel = refl; taken = refl; reads = h } }

abort_reads : (b : Bool) (n : ℕ) (t : Option ℕ) (target : ℕ) (c : Configuration) (w : World) (rs : List ReadItem) (holds : Bool) → ReadSame w.reads rs
    → SameNext (if b then Some (abort (by_state n None) w) else branches t target (with_world w c) holds)
    (if b then Some (abort (by_state n None) (reading w rs)) else branches t target (with_world (reading w rs) c) holds)
abort_reads true n t target c w rs holds h = (refl, record { taken = refl; reads = h })
abort_reads false n t target c w rs holds h = branch_reads t target c w rs holds h

pub this_reads : (n target : ℕ) (c : Configuration) (w v : World) (holds : Bool) → SameWorld w v
    → SameNext (tests_this n target (with_world w c) holds) (tests_this n target (with_world v c) holds)
this_reads n target c w v holds s =
    subst (λ x. SameNext (tests_this n target (with_world w c) holds) (tests_this n target (with_world x c) holds)) (sym (but_reads w v s))
    (abort_reads (is_locked_out (with_world w c) n) n None target c w v.reads holds s.reads)

pub other_reads : (n target : ℕ) (o : PlainObject) (c : Configuration) (w v : World) (holds : Bool) → SameWorld w v
    → SameNext (tests_other n o target (with_world w c) holds) (tests_other n o target (with_world v c) holds)
other_reads n target o c w v holds s =
    subst (λ x. SameNext (tests_other n o target (with_world w c) holds) (tests_other n o target (with_world x c) holds)) (sym (but_reads w v s))
    (abort_reads (is_barred w n o) n (lock_of n o) target c w v.reads holds s.reads)

none_same : (n : Option Next) → SameNext n None → n ≡ None
none_same None h = refl
none_same (Some (goes c)) h = absurd h
none_same (Some (stops x)) h = absurd h

-- what tells of one step tells of one that is the same but for what was read
pub told_same : (r : Result Progress Off) (n m : Option Next) (c : Configuration) → SameNext n m → Gives r m (told c) → Tells r n c
told_same (Ok p) n m c s g = subst (SameNext n) g s
told_same (Err Memory) n m c s g = tt
told_same (Err NoStep) n m c s g = none_same n (subst (SameNext n) g s)

-- The whole test.

pub tested : (image : Image) (a : ℕ) (contract : ContractId) (state : StateId) (target : ℕ) (c : Configuration) (n : ℕ) (o : PlainObject) (first holds : Bool)
    → reference_at c.top.slots a ≡ Some n → object_at c.world.objects n ≡ Some o → holds ≡ is_in_state_of image contract state o → (a == 0) ≡ first
    → test_step image a contract state target c
    ≡ (if first then tests_this n target (with_world (read_object c.world n) c) holds else tests_other n o target (with_world (read_object c.world n) c) holds)
tested image a contract state target c n o first holds e f g h =
    let tests : ℕ → PlainObject → Option Next = λ n o.
    if a == 0 then tests_this n target (with_world (read_object c.world n) c) (is_in_state_of image contract state o)
    else tests_other n o target (with_world (read_object c.world n) c) (is_in_state_of image contract state o) in
    ap (λ (r : Option ℕ). r >>= λ n. object_at c.world.objects n >>= λ o. tests n o) e
    ∙ ap (λ (r : Option PlainObject). r >>= λ o. tests n o) f
    ∙ ap (λ b. if b then tests_this n target (with_world (read_object c.world n) c) (is_in_state_of image contract state o)
    else tests_other n o target (with_world (read_object c.world n) c) (is_in_state_of image contract state o)) h
    ∙ ap (λ b. if first then tests_this n target (with_world (read_object c.world n) c) b else tests_other n o target (with_world (read_object c.world n) c) b) (sym g)

next_itself : (n : Next) → SameNext (Some n) (Some n)
next_itself (goes c) =
    record { top = refl; below = refl; world = record { objects = refl; made = refl; locked = refl; progress = refl; fuel = refl; taken = refl; reads = (λ item h. h, λ item h. h) } }
next_itself (stops (ended result w)) =
    (refl, record { objects = refl; made = refl; locked = refl; progress = refl; fuel = refl; taken = refl; reads = (λ item h. h, λ item h. h) })
next_itself (stops (aborted cause s)) = (refl, record { taken = refl; reads = (λ item h. h, λ item h. h) })

same_itself : (n : Option Next) → SameNext n n
same_itself None = tt
same_itself (Some n) = next_itself n

-- an exact step tells
pub tells : (r : Result Progress Off) (n : Option Next) (c : Configuration) → Gives r n (told c) → Tells r n c
tells r n c g = told_same r n n c (same_itself n) g

pub tells_ok : (p : Progress) (n : Option Next) (c : Configuration) → n ≡ Some (told c p) → SameNext n (Some (told c p))
tells_ok p n c e = subst (λ x. SameNext x (Some (told c p))) (sym e) (next_itself (told c p))

pub ruleset telling = (tells, tells_ok)
