-- Stretches, step by step, and turns of a slice.
use Rattle.std.proofs.Common.{◌≡◌, ℕ, ◌<◌, ◌≤◌, Bool, true, false, List, Option, Some, None, Result, Ok, Err, refl, sym, ap, subst, ◌∙◌, arith}
use Rattle.std.specs.Prelude.{option_map, slice_get}
use Rattle.ob_base.specs.declared.id.ContractId.{ContractId}
use Rattle.ob_base.specs.declared.id.TxId.{TxId}
use Rattle.ob_code.specs.declared.image.Image.{Image}
use Rattle.ob_code.specs.declared.instruction.Instruction.{Instruction}
use Rattle.ob_heap_spec.specs.Worlds.{spent}
use Rattle.ob_heap.specs.Plain.{value_of}
use Rattle.ob_heap.specs.declared.object.Object.{Object}
use Rattle.ob_heap.specs.Overlays.{Changes}
use Rattle.ob_machine_steps.specs.Configurations.{Configuration, Next, goes, ended, aborted}
use Rattle.ob_machine_steps.specs.Entries.{Phase, running, next_step}
use Rattle.ob_machine_steps.specs.Measures.{steps_left, LeadsAheadOrToUnit}
use Rattle.ob_machine_steps.specs.Runs.{Stop, paused, over, waits, pays, left_after}
use Rattle.ob_machine_laws.specs.Laws.{SameNext}
use Rattle.ob_machine.specs.Phases.{phase_of, HasBegun}
use Rattle.ob_machine.specs.Shown.{cause_of, shown, world_of}
use Rattle.ob_machine.specs.Slicing.{ComesTo, Tries}
use Rattle.ob_machine_parts.specs.Images.{AreInstructionsOf}
use Rattle.ob_machine.specs.Stretching.{IsSameBody, LeadsOn, Strides, Stretches, Turns}
use Rattle.ob_machine.specs.declared.machine.Machine.{Machine}
use Rattle.ob_machine_parts.specs.declared.off.Off.{Off}
use Rattle.ob_machine_parts.specs.declared.off.Off.TheVariants.{Memory, NoStep}
use Rattle.ob_machine.specs.declared.progress.Progress.{Progress}
use Rattle.ob_machine.specs.declared.progress.Progress.TheVariants.{Finished, Aborted, Going}
use Rattle.ob_machine.specs.declared.slice.Turn.{Turn}
use Rattle.ob_machine.specs.declared.slice.Turn.TheVariants.{Waits, Made}
use Rattle.ob_machine.proofs.AlikeLemmas.{stops_alike, stuck_alike}
use Rattle.ob_machine.proofs.SliceLemmas.{At, at_start, waits_at, ends_at, stuck_at, goes_at, goes_turn, lower, lower_turn, phase_itself}

-- where a slice has come leads on
pub comes_on : (image : Image) (units left : ℕ) (start q : Phase) → At image units left start q → LeadsOn image units start left q
comes_on image units left start q a (Some s) h =
    let k = stops_alike image left a.phase q s a.same h in
    record { stop = k.stop; by = a.on k.stop k.by; same = k.same }
comes_on image units left start q a None h =
    let k = stuck_alike image left a.phase q a.same h in
    let m = a.met k.steps k.at k.met in
    record { steps = m.steps; at = k.at; met = m.by; stuck = k.stuck }

same_next : (n : Option Next) (d : Configuration) → n ≡ Some (goes d) → SameNext n (Some (goes d))
same_next n d e = subst (λ x. SameNext x (Some (goes d))) (sym e) (phase_itself (running d))

-- Strides.

-- how far a stretch has come
pub record Stretched (image : Image) (units left : ℕ) (start now : Configuration) (instructions : List Instruction) : Type 0 where
  pub on : LeadsOn image units (running start) left (running now)
  pub less : steps_left image (running now) ≤ steps_left image (running start)
  pub body : AreInstructionsOf image now.top.contract now.top.tx instructions

pub stretch_begins : (image : Image) (units : ℕ) (c : Configuration) (instructions : List Instruction) → AreInstructionsOf image c.top.contract c.top.tx instructions
    → Stretched image units units c c instructions
stretch_begins image units c instructions body = record { on = λ found h. h; less = omega arith; body = body }

at_or_below : (m n k : ℕ) → m < n → n ≤ k → m ≤ k
at_or_below m n k h g = omega (arith, h, g)

pub strode : (image : Image) (units left rest : ℕ) (start c d : Configuration) (instructions : List Instruction) (r : Result (Option ℕ) Off) (x : Option ℕ) → LeadsAheadOrToUnit image
    → Stretched image units left start c instructions → Strides r image left c d → r ≡ Ok x → x ≡ Some rest → Stretched image units rest start d instructions
strode image units left rest start c d instructions r x ahead s t e f =
    let h = subst (λ y. Strides (Ok y) image left c d) f (subst (λ y. Strides y image left c d) e t) in
    let n : SameNext (next_step image (running c)) (Some (goes d)) = same_next (next_step image (running c)) d h.2 in
    record {
      on = λ found g. s.on found (comes_on image left rest (running c) (running d) (goes_at image left left rest (running c) (running c) d (at_start image left (running c)) h.0 h.1 n) found g);
      less = at_or_below (steps_left image (running d)) (steps_left image (running c)) (steps_left image (running start)) (lower image (running c) d ahead n) s.less;
      body = subst (λ k. AreInstructionsOf image d.top.contract k instructions) (sym h.3.1) (subst (λ k. AreInstructionsOf image k c.top.tx instructions) (sym h.3.0) s.body);
    }

pub strode_less : (image : Image) (left rest : ℕ) (c d : Configuration) (r : Result (Option ℕ) Off) (x : Option ℕ) → LeadsAheadOrToUnit image
    → Strides r image left c d → r ≡ Ok x → x ≡ Some rest → steps_left image (running d) < steps_left image (running c)
strode_less image left rest c d r x ahead t e f =
    let h = subst (λ y. Strides (Ok y) image left c d) f (subst (λ y. Strides y image left c d) e t) in
    lower image (running c) d ahead (same_next (next_step image (running c)) d h.2)

pub stretch_ends : (image : Image) (units left : ℕ) (start c d : Configuration) (instructions : List Instruction) (r : Result (Option ℕ) Off) (x : Option ℕ)
    → Stretched image units left start c instructions → Strides r image left c d → r ≡ Ok x → x ≡ None → Stretches (Ok left) image units start d
stretch_ends image units left start c d instructions r x s t e f =
    let h = subst (λ y. Strides (Ok y) image left c d) f (subst (λ y. Strides y image left c d) e t) in
    subst (λ y. Stretches (Ok left) image units start y) (sym h) (s.on, s.less)

pub stretch_stops : (image : Image) (units left : ℕ) (start c d : Configuration) (instructions : List Instruction) (r : Result (Option ℕ) Off) (off : Off)
    → Stretched image units left start c instructions → Strides r image left c d → r ≡ Err off → Stretches (Err off) image units start d
stretch_stops image units left start c d instructions r off s t e = by off (subst (λ y. Strides y image left c d) e t)
  where
    by : (off : Off) → Strides (Err off) image left c d → Stretches (Err off) image units start d
    by Memory h = tt
    by NoStep h = s.on None (stuck_at image left left (running c) (running c) (at_start image left (running c)) h.0 h.1)

-- Turns.

below : (m n k : ℕ) → m < n → n ≤ k → m < k
below m n k h g = omega (arith, h, g)

pub turned : (image : Image) (units left : ℕ) (start q : Phase) (r : Result Turn Off) (m : Machine) (base : List Object) (o : Changes) → LeadsAheadOrToUnit image
    → LeadsOn image units start left q → steps_left image q ≤ steps_left image start → Tries r image left q m base o → Turns r image units start m base o
turned image units left start q (Ok Waits) m base o ahead on less t =
    on (Some (paused (phase_of m base o))) (waits_at image left left q q (phase_of m base o) (at_start image left q) t.0 t.1)
turned image units left start q (Ok (Made Going rest)) m base o ahead on less t = (
  λ found h. on found (comes_on image left rest q (phase_of m base o) (goes_turn image left left rest q q m base o (at_start image left q) t) found h),
  below (steps_left image (phase_of m base o)) (steps_left image q) (steps_left image start) (lower_turn image left rest q m base o ahead t) less,
)
turned image units left start q (Ok (Made (Finished result) rest)) m base o ahead on less t =
    let end = ended (option_map value_of result) (world_of m.run base o) in
    on (Some (over end)) (ends_at image left left q q end (at_start image left q) t.0 t.2)
turned image units left start q (Ok (Made (Aborted cause) rest)) m base o ahead on less t =
    let end = aborted (cause_of cause) (spent (world_of m.run base o)) in
    on (Some (over end)) (ends_at image left left q q end (at_start image left q) t.0 t.2)
turned image units left start q (Err NoStep) m base o ahead on less t = on None (stuck_at image left left q q (at_start image left q) t.0 t.1)
turned image units left start q (Err Memory) m base o ahead on less t = tt

pub turned_first : (image : Image) (left : ℕ) (p : Phase) (r : Result Turn Off) (m : Machine) (base : List Object) (o : Changes) → LeadsAheadOrToUnit image
    → Tries r image left p m base o → Turns r image left p m base o
turned_first image left p r m base o ahead t = turned image left left p p r m base o ahead (λ found h. h) (omega arith) t

pub turned_later : (image : Image) (units left : ℕ) (c d : Configuration) (p q : Phase) (s : Result ℕ Off) (r : Result Turn Off) (m : Machine) (base : List Object) (o : Changes)
    → LeadsAheadOrToUnit image → p ≡ running c → q ≡ running d → Stretches s image units c d → s ≡ Ok left → Tries r image left q m base o → Turns r image units p m base o
turned_later image units left c d p q s r m base o ahead e f h g t =
    let k = subst (λ x. Stretches x image units c d) g h in
    subst (λ x. Turns r image units x m base o) (sym e)
    (turned image units left (running c) (running d) r m base o ahead k.0 k.1 (subst (λ x. Tries r image left x m base o) f t))

pub turned_off : (image : Image) (units : ℕ) (c d : Configuration) (p : Phase) (s : Result ℕ Off) (off : Off) (m : Machine) (base : List Object) (o : Changes)
    → p ≡ running c → Stretches s image units c d → s ≡ Err off → Turns (Err off) image units p m base o
turned_off image units c d p s off m base o e h g = subst (λ x. Turns (Err off) image units x m base o) (sym e) (by off (subst (λ x. Stretches x image units c d) g h))
  where
    by : (off : Off) → Stretches (Err off) image units c d → Turns (Err off) image units (running c) m base o
    by Memory h = tt
    by NoStep h = h

-- what a turn of a slice comes to
pub on_turn : (image : Image) (left : ℕ) (p : Phase) (r : Result Turn Off) (turn other : Turn) (m : Machine) (base : List Object) (o : Changes)
    → Turns r image left p m base o → r ≡ Ok turn → turn ≡ other → Turns (Ok other) image left p m base o
on_turn image left p r turn other m base o h e f = subst (λ t. Turns (Ok t) image left p m base o) f (subst (λ x. Turns x image left p m base o) e h)

pub off_turn : (image : Image) (left : ℕ) (p : Phase) (r : Result Turn Off) (off other : Off) (m : Machine) (base : List Object) (o : Changes)
    → Turns r image left p m base o → r ≡ Err off → off ≡ other → Turns (Err other) image left p m base o
off_turn image left p r off other m base o h e f = subst (λ t. Turns (Err t) image left p m base o) f (subst (λ x. Turns x image left p m base o) e h)

pub on_made : (image : Image) (left : ℕ) (p : Phase) (r : Result Turn Off) (turn : Turn) (x progress : Progress) (rest : ℕ) (m : Machine) (base : List Object) (o : Changes)
    → Turns r image left p m base o → r ≡ Ok turn → turn ≡ Made x rest → x ≡ progress → Turns (Ok (Made progress rest)) image left p m base o
on_made image left p r turn x progress rest m base o h e f g =
    subst (λ y. Turns (Ok (Made y rest)) image left p m base o) g (on_turn image left p r turn (Made x rest) m base o h e f)
