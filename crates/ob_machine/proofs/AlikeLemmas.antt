-- Slices of runs that are the same but for what was read before, and slices that come to where there is no next step.
use Rattle.std.proofs.Common.{◌≡◌, ◌≤◌, ℕ, zero, suc, Bool, true, false, Option, Some, None, refl, sym, ap, subst, ◌∙◌}
use Rattle.std.specs.Prelude.{nat_eq, ◌&&◌, if◌then◌else◌}
use Rattle.ob_code.specs.declared.image.Image.{Image}
use Rattle.ob_machine_steps.specs.Configurations.{Configuration, Next, goes, stops}
use Rattle.ob_machine_steps.specs.Entries.{Phase, running, next_step}
use Rattle.ob_machine_steps.specs.Runs.{world_of, Stop, paused, over, after_step, pays, waits, left_after, run_in, met_after, met_in, Slices}
use Rattle.ob_machine_laws.specs.Laws.{SameConfiguration, SamePhase, SameNext, SameStop}
use Rattle.ob_machine_laws.proofs.Paying.{whole_ends}
use Rattle.ob_machine_laws.proofs.SameReads.{same_steps, same_slices}
use Rattle.ob_verify_spec.proofs.Cells.{none_some, some_same}
use Rattle.ob_machine.specs.Slicing.{StopsSo, StuckSlicesNeverStop, SoundAlike, StopsAlike, StuckAlike, WholeSlicesAreOver}
use Rattle.ob_machine.proofs.SliceLemmas.{end_on, phase_on, none_same, has_same, pays_same, met_next}

-- Where a slice comes to no next step.

stuck_now : (image : Image) (k units : ℕ) (p q : Phase) (s : Stop) (b : Bool) (r : Option Next) → next_step image p ≡ r → (if b then None else Some p) ≡ Some q
    → next_step image q ≡ None → (if b then Some (paused p) else after_step r (run_in image k units)) ≡ Some s → ⊥
stuck_now image k units p q s true r e f g h = none_some f
stuck_now image k units p q s false None e f g h = none_some h
stuck_now image k units p q s false (Some x) e f g h = none_some (sym g ∙ ap (next_step image) (sym (some_same f)) ∙ e)

stuck_later : (image : Image) (n k units : ℕ) (p q : Phase) (s : Stop) (b : Bool) (r : Option Next) → (if b then None else met_after r (met_in image n units)) ≡ Some q
    → (if b then Some (paused p) else after_step r (run_in image k units)) ≡ Some s
    → ((x : Phase) → met_in image n units x ≡ Some q → run_in image k units x ≡ Some s → ⊥) → ⊥
stuck_later image n k units p q s true r f h ih = none_some f
stuck_later image n k units p q s false None f h ih = none_some f
stuck_later image n k units p q s false (Some (goes c)) f h ih = ih (running c) f h
stuck_later image n k units p q s false (Some (stops end)) f h ih = none_some f

never_in : (image : Image) (n k units : ℕ) (p q : Phase) (s : Stop) → met_in image n units p ≡ Some q → next_step image q ≡ None → run_in image k units p ≡ Some s → ⊥
never_in image n zero units p q s f g h = none_some h
never_in image zero (suc k) units p q s f g h = stuck_now image k (left_after (pays image p) units) p q s (waits image units p) (next_step image p) refl f g h
never_in image (suc n) (suc k) units p q s f g h =
    stuck_later image n k (left_after (pays image p) units) p q s (waits image units p) (next_step image p) f h
    (λ x i j. never_in image n k (left_after (pays image p) units) x q s i g j)

pub stuck_never_stops : StuckSlicesNeverStop
stuck_never_stops image units p s stuck ends = never_in image stuck.steps ends.steps units p stuck.at s stuck.met stuck.stuck ends.by

-- Slices of all the units that a run has left.

over_by : (image : Image) (units : ℕ) (p q : Phase) (x : Stop) → (world_of p).fuel ≤ units → Slices image units p x → SameStop (Some x) (Some (paused q)) → ⊥
over_by image units p q (paused r) h s same = whole_ends image units p r h s
over_by image units p q (over end) h s same = same

pub whole_over : WholeSlicesAreOver
whole_over image units p q h s = over_by image units p q s.stop h s.by s.same

-- Runs that are the same but for reads.

waits_same : (image : Image) (units : ℕ) (p q : Phase) → SamePhase p q → waits image units p ≡ waits image units q
waits_same image units p q s = ap (λ b. b && nat_eq units 0) (pays_same image p q s)

-- a slice of the first goes on from a phase that is the same as one from which the second does
record MeetsAlike (image : Image) (n units : ℕ) (p r : Phase) : Type 0 where
  phase : Phase
  by : met_in image n units p ≡ Some phase
  same : SamePhase phase r

alike_now : (image : Image) (units : ℕ) (p q r : Phase) (b : Bool) → SamePhase p q → waits image units p ≡ b → (if b then None else Some q) ≡ Some r → MeetsAlike image 0 units p r
alike_now image units p q r true s w f = absurd (none_some f)
alike_now image units p q r false s w f = record { phase = p; by = rw w refl; same = subst (SamePhase p) (some_same f) s }

alike_later : (image : Image) (n units : ℕ) (p r : Phase) (b : Bool) (x y : Option Next) → waits image units p ≡ b → next_step image p ≡ x → SameNext x y
    → (if b then None else met_after y (met_in image n (left_after (pays image p) units))) ≡ Some r
    → ((c d : Configuration) → SameConfiguration c d → met_in image n (left_after (pays image p) units) (running d) ≡ Some r
    → MeetsAlike image n (left_after (pays image p) units) (running c) r)
    → MeetsAlike image (suc n) units p r
alike_later image n units p r true x y w e s f ih = absurd (none_some f)
alike_later image n units p r false x None w e s f ih = absurd (none_some f)
alike_later image n units p r false x (Some (stops z)) w e s f ih = absurd (none_some f)
alike_later image n units p r false None (Some (goes d)) w e s f ih = absurd s
alike_later image n units p r false (Some (stops z)) (Some (goes d)) w e s f ih = absurd s
alike_later image n units p r false (Some (goes c)) (Some (goes d)) w e s f ih =
    let m : MeetsAlike image n (left_after (pays image p) units) (running c) r = ih c d s f in
    record { phase = m.phase; by = met_next image units p c n m.phase w e m.by; same = m.same }

alike_in : (image : Image) (n units : ℕ) (p q r : Phase) → SamePhase p q → met_in image n units q ≡ Some r → MeetsAlike image n units p r
alike_in image zero units p q r s f =
    alike_now image units p q r (waits image units p) s refl (subst (λ b. (if b then None else Some q) ≡ Some r) (sym (waits_same image units p q s)) f)
alike_in image (suc n) units p q r s f =
    let g : (if waits image units p then None else met_after (next_step image q) (met_in image n (left_after (pays image q) units))) ≡ Some r =
    subst (λ b. (if b then None else met_after (next_step image q) (met_in image n (left_after (pays image q) units))) ≡ Some r) (sym (waits_same image units p q s)) f in
    let h : (if waits image units p then None else met_after (next_step image q) (met_in image n (left_after (pays image p) units))) ≡ Some r =
    subst (λ b. (if waits image units p then None else met_after (next_step image q) (met_in image n (left_after b units))) ≡ Some r) (sym (pays_same image p q s)) g in
    alike_later image n units p r (waits image units p) (next_step image p) (next_step image q) refl refl (same_steps image p q s) h
    (λ c d t i. alike_in image n (left_after (pays image p) units) (running c) (running d) r t i)

pub sound_alike : SoundAlike
sound_alike image units p q s sound = record {
  at = λ n r f.
      let m : MeetsAlike image n units p r = alike_in image n units p q r s f in
      has_same (next_step image m.phase) (next_step image r) (same_steps image m.phase r m.same) (sound.at n m.phase m.by);
}

pub stuck_alike : StuckAlike
stuck_alike image units p q s stuck =
    let m : MeetsAlike image stuck.steps units p stuck.at = alike_in image stuck.steps units p q stuck.at s stuck.met in
    record {
      steps = stuck.steps;
      at = m.phase;
      met = m.by;
      stuck = none_same (next_step image m.phase) (next_step image stuck.at) (same_steps image m.phase stuck.at m.same) stuck.stuck;
    }

stop_on : (x y z : Stop) → SameStop (Some x) (Some y) → SameStop (Some y) (Some z) → SameStop (Some x) (Some z)
stop_on (paused p) (paused q) (paused r) s t = phase_on p q r s t
stop_on (over x) (over y) (over z) s t = end_on x y z s t
stop_on (paused p) (over y) z s t = absurd s
stop_on (over x) (paused q) z s t = absurd s
stop_on (paused p) (paused q) (over z) s t = absurd t
stop_on (over x) (over y) (paused r) s t = absurd t

stops_same : (image : Image) (n units : ℕ) (p : Phase) (o : Option Stop) (stop s : Stop) → run_in image n units p ≡ o → SameStop o (Some stop) → SameStop (Some stop) (Some s)
    → StopsSo image units p s
stops_same image n units p None stop s e h t = absurd h
stops_same image n units p (Some x) stop s e h t = record { stop = x; by = record { steps = n; by = e }; same = stop_on x stop s h t }

pub stops_alike : StopsAlike
stops_alike image units p q s same ends =
    stops_same image ends.by.steps units p (run_in image ends.by.steps units p) ends.stop s refl
    (subst (SameStop (run_in image ends.by.steps units p)) ends.by.by (same_slices image ends.by.steps units p q same)) ends.same
