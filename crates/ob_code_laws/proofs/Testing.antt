-- Instructions that test, mark, go to a place, or abort.
use Rattle.std.proofs.Common.{◌≡◌, ℕ, ◌+◌, List, [], ◌∷◌, Option, None, Bool, true, false, Contains, refl, ◌∙◌}
use Rattle.std.specs.Prelude.{◌==◌}
use Rattle.ob_base.specs.declared.id.ContractId.{ContractId}
use Rattle.ob_base.specs.declared.id.StateId.{StateId}
use Rattle.ob_table.specs.declared.seen.Kind.{Kind}
use Rattle.ob_heap_spec.specs.Contents.{object_at}
use Rattle.ob_heap_spec.specs.Worlds.{World, read_object}
use Rattle.ob_heap_spec.specs.Marks.{mark_shared, mark_disowned}
use Rattle.ob_code.specs.declared.image.Image.{Image}
use Rattle.ob_code.specs.declared.instruction.Instruction.{Instruction}
use Rattle.ob_code.specs.declared.instruction.Instruction.TheVariants as is
use Rattle.ob_machine_steps.specs.Slots.{truth_at, text_at, reference_at}
use Rattle.ob_machine_steps.specs.Configurations.{Configuration}
use Rattle.ob_machine_steps.specs.Parts.{with_world}
use Rattle.ob_machine_steps.specs.Straight.{unit_step, jump_step, unless_step, marks_object, revert_step}
use Rattle.ob_machine_steps.specs.Changing.{is_locked_out}
use Rattle.ob_machine_steps.specs.Testing.{with_lock, without_lock, branches, is_barred, lock_of, ends_test, test_step}
use Rattle.ob_verify_spec.specs.Instructions.{leads, done, effect}
use Rattle.ob_verify_spec.specs.Ways.{IsAt}
use Rattle.ob_verify_spec.proofs.Listed.{head, behind}
use Rattle.ob_code_laws.proofs.Worlds.{Follows, follows_same, read_objects, locked_objects, unlocked_objects, shared_follows, disowned_follows}
use Rattle.ob_code_laws.proofs.Frames.{code, IsRunning, Good, then_good, if_good, unit_good, stays}

pub unit_step_good : (image : Image) (out : Option Kind) (c : Configuration) (g : IsRunning image out c) → IsAt (code image c.world.objects c.top g.top.frame) c.top.at is.Unit
    → Good image out (unit_step c)
unit_step_good image out c g at =
    unit_good image out c.world _ (λ v e. stays image out c g is.Unit at (c.top.at + 1) (head (c.top.at + 1) []) c.top.tests v (follows_same image c.world.objects v.objects g.objects e) (λ k. refl))

pub jump_good : (image : Image) (out : Option Kind) (c : Configuration) (g : IsRunning image out c) (t : ℕ) → IsAt (code image c.world.objects c.top g.top.frame) c.top.at (is.Jump t)
    → Good image out (jump_step t c)
jump_good image out c g t at = stays image out c g (is.Jump t) at t (head t []) c.top.tests c.world (follows_same image c.world.objects c.world.objects g.objects refl) (λ k. refl)

pub unless_good : (image : Image) (out : Option Kind) (c : Configuration) (g : IsRunning image out c) (a t : ℕ) → IsAt (code image c.world.objects c.top g.top.frame) c.top.at (is.Unless a t)
    → Good image out (unless_step a t c)
unless_good image out c g a t at = then_good image out (truth_at c.top.slots a) _ (λ b e.
    let same : Follows image c.world.objects c.world.objects = follows_same image c.world.objects c.world.objects g.objects refl in
    if_good image out b _ _
    (stays image out c g (is.Unless a t) at (c.top.at + 1) (behind t (c.top.at + 1) ((c.top.at + 1) ∷ []) (head (c.top.at + 1) [])) c.top.tests c.world same (λ k. refl))
    (stays image out c g (is.Unless a t) at t (head t ((c.top.at + 1) ∷ [])) c.top.tests c.world same (λ k. refl)))

branches_good : (image : Image) (out : Option Kind) (c : Configuration) (g : IsRunning image out c) (x : Instruction) → IsAt (code image c.world.objects c.top g.top.frame) c.top.at x
    → (target : ℕ) → Contains (leads c.top.at x) (c.top.at + 1) → Contains (leads c.top.at x) target
    → ((k : ℕ) → done (effect (code image c.world.objects c.top g.top.frame) x) g.top.known k ≡ g.top.known k)
    → (w : World) → w.objects ≡ c.world.objects → (t : Option ℕ) (holds : Bool) → Good image out (branches t target (with_world w c) holds)
branches_good image out c g x at target next lead same w e t true =
    stays image out c g x at (c.top.at + 1) next (t ∷ c.top.tests) (with_lock t w) (follows_same image c.world.objects (with_lock t w).objects g.objects (locked_objects t w ∙ e)) same
branches_good image out c g x at target next lead same w e t false =
    stays image out c g x at target lead c.top.tests w (follows_same image c.world.objects w.objects g.objects e) same

pub test_good : (image : Image) (out : Option Kind) (c : Configuration) (g : IsRunning image out c) (a : ℕ) (of : ContractId) (state : StateId) (target : ℕ)
    → IsAt (code image c.world.objects c.top g.top.frame) c.top.at (is.Test a of state target) → Good image out (test_step image a of state target c)
test_good image out c g a of state target at = then_good image out (reference_at c.top.slots a) _ (λ n e. then_good image out (object_at c.world.objects n) _ (λ o there.
    let d = with_world (read_object c.world n) c in
    let branch : (t : Option ℕ) (holds : Bool) → Good image out (branches t target d holds) = λ t holds.
    branches_good image out c g (is.Test a of state target) at target (behind target (c.top.at + 1) ((c.top.at + 1) ∷ []) (head (c.top.at + 1) [])) (head target ((c.top.at + 1) ∷ [])) (λ k. refl)
    (read_object c.world n) (read_objects c.world n) t holds in
    if_good image out (a == 0) _ _ (if_good image out (is_locked_out d n) _ _ tt (branch None _)) (if_good image out (is_barred d.world n o) _ _ tt (branch (lock_of n o) _))))

pub ends_good : (image : Image) (out : Option Kind) (c : Configuration) (g : IsRunning image out c) (ts : List (Option ℕ)) → IsAt (code image c.world.objects c.top g.top.frame) c.top.at is.EndTest
    → Good image out (ends_test ts c)
ends_good image out c g [] at = tt
ends_good image out c g (t ∷ ts) at =
    stays image out c g is.EndTest at (c.top.at + 1) (head (c.top.at + 1) []) ts (without_lock t c.world)
    (follows_same image c.world.objects (without_lock t c.world).objects g.objects (unlocked_objects t c.world)) (λ k. refl)

marks_good : (image : Image) (out : Option Kind) (c : Configuration) (g : IsRunning image out c) (x : Instruction) → IsAt (code image c.world.objects c.top g.top.frame) c.top.at x
    → Contains (leads c.top.at x) (c.top.at + 1) → ((k : ℕ) → done (effect (code image c.world.objects c.top g.top.frame) x) g.top.known k ≡ g.top.known k)
    → (mark : ℕ → World → World) (a : ℕ) → ((n : ℕ) → Follows image c.world.objects (mark n c.world).objects) → Good image out (marks_object mark a c)
marks_good image out c g x at lead same mark a f = then_good image out (reference_at c.top.slots a) _ (λ n e. then_good image out (object_at c.world.objects n) _ (λ o there.
    stays image out c g x at (c.top.at + 1) lead c.top.tests (mark n c.world) (f n) same))

pub share_good : (image : Image) (out : Option Kind) (c : Configuration) (g : IsRunning image out c) (a : ℕ) → IsAt (code image c.world.objects c.top g.top.frame) c.top.at (is.Share a)
    → Good image out (marks_object mark_shared a c)
share_good image out c g a at = marks_good image out c g (is.Share a) at (head (c.top.at + 1) []) (λ k. refl) mark_shared a (λ n. shared_follows image c.world n g.objects)

pub disown_good : (image : Image) (out : Option Kind) (c : Configuration) (g : IsRunning image out c) (a : ℕ) → IsAt (code image c.world.objects c.top g.top.frame) c.top.at (is.Disown a)
    → Good image out (marks_object mark_disowned a c)
disown_good image out c g a at = marks_good image out c g (is.Disown a) at (head (c.top.at + 1) []) (λ k. refl) mark_disowned a (λ n. disowned_follows image c.world n g.objects)

pub revert_good : (image : Image) (out : Option Kind) (c : Configuration) (a : ℕ) → Good image out (revert_step a c)
revert_good image out c a = then_good image out (text_at c.top.slots a) _ (λ bytes e. tt)
