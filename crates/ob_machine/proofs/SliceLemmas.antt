-- Slices, turn by turn.
use Rattle.std.proofs.Common.{◌≡◌, ℕ, suc, ◌<◌, true, false, Option, Some, None, Result, Ok, Err, true≢false, refl, sym, ap, subst, ◌∙◌}
use Rattle.std.specs.Prelude.{nat_eq, nat_lt, ◌&&◌, ◌+◌, ◌*◌, is_some, IsTrue}
use Rattle.std.specs.Option.{option_map_or}
use Rattle.ob_heap_spec.specs.Worlds.{World, ReadItem, ReadSame, SameWorld}
use Rattle.std.specs.Prelude.{List}
use Rattle.ob_code.specs.declared.image.Image.{Image}
use Rattle.ob_code_table.specs.Images.{instruction_at}
use Rattle.ob_machine_steps.specs.Configurations.{Configuration, End, ended, aborted, Next, goes, stops}
use Rattle.ob_machine_steps.specs.Entries.{Phase, starting, running, next_step}
use Rattle.ob_machine_steps.specs.Measures.{steps_left, rest, rests, longest}
use Rattle.ob_machine_steps.specs.Runs.{Stop, paused, over, takes_unit, pays, waits, left_after, Slices, met_in, IsSoundIn}
use Rattle.ob_machine_laws.specs.Laws.{SameConfiguration, SamePhase, SameEnd, SameNext}
use Rattle.ob_machine_laws.proofs.SameReads.{same_steps}
use Rattle.ob_machine_laws.proofs.Slicing.{steps_on}
use Rattle.ob_machine_laws.proofs.Measuring.{lowers}
use Rattle.ob_machine_steps.specs.Measures.{LeadsAheadOrToUnit}
use Rattle.ob_heap.specs.declared.object.Object.{Object}
use Rattle.ob_heap.specs.Overlays.{Changes}
use Rattle.ob_machine.specs.Phases.{phase_at, phase_of, HasBegun}
use Rattle.ob_machine.specs.Shown.{shown}
use Rattle.ob_machine.specs.Slicing.{StopsSo, IsStuckIn, TurnsSo, Tries}
use Rattle.ob_machine.specs.declared.machine.Machine.{Machine}
use Rattle.ob_machine_parts.specs.declared.off.Off.{Off}
use Rattle.ob_machine_parts.specs.declared.off.Off.TheVariants.{NoStep}
use Rattle.ob_machine.specs.declared.progress.Progress.{Progress}
use Rattle.ob_machine.specs.declared.progress.Progress.TheVariants.{Going}
use Rattle.ob_machine.specs.declared.slice.Turn.{Turn}
use Rattle.ob_machine.specs.declared.slice.Turn.TheVariants.{Waits, Made}

-- What is the same but for reads.

reads_on : (xs ys zs : List ReadItem) → ReadSame xs ys → ReadSame ys zs → ReadSame xs zs
reads_on xs ys zs s t = (λ item c. t.0 item (s.0 item c), λ item c. s.1 item (t.1 item c))

pub world_on : (u v w : World) → SameWorld u v → SameWorld v w → SameWorld u w
world_on u v w s t = record {
  objects = t.objects ∙ s.objects;
  made = t.made ∙ s.made;
  locked = t.locked ∙ s.locked;
  progress = t.progress ∙ s.progress;
  fuel = t.fuel ∙ s.fuel;
  taken = t.taken ∙ s.taken;
  reads = reads_on u.reads v.reads w.reads s.reads t.reads;
}

pub end_on : (x y z : End) → SameEnd x y → SameEnd y z → SameEnd x z
end_on (ended a u) (ended b v) (ended d w) s t = (t.0 ∙ s.0, world_on u v w s.1 t.1)
end_on (aborted a u) (aborted b v) (aborted d w) s t =
    (t.0 ∙ s.0, record { taken = t.1.taken ∙ s.1.taken; reads = reads_on u.reads v.reads w.reads s.1.reads t.1.reads })
end_on (ended a u) (aborted b v) z s t = absurd s
end_on (aborted a u) (ended b v) z s t = absurd s
end_on (ended a u) (ended b v) (aborted d w) s t = absurd t
end_on (aborted a u) (aborted b v) (ended d w) s t = absurd t

configuration_on : (a b c : Configuration) → SameConfiguration a b → SameConfiguration b c → SameConfiguration a c
configuration_on a b c s t = record { top = t.top ∙ s.top; below = t.below ∙ s.below; world = world_on a.world b.world c.world s.world t.world }

pub phase_on : (p q r : Phase) → SamePhase p q → SamePhase q r → SamePhase p r
phase_on (starting e u) (starting f v) (starting g w) s t = (t.0 ∙ s.0, world_on u v w s.1 t.1)
phase_on (running a) (running b) (running c) s t = configuration_on a b c s t
phase_on (starting e u) (running b) r s t = absurd s
phase_on (running a) (starting f v) r s t = absurd s
phase_on (starting e u) (starting f v) (running c) s t = absurd t
phase_on (running a) (running b) (starting g w) s t = absurd t

-- a step that leads to what is the same as this
pub record GoesTo (n : Option Next) (c : Configuration) : Type 0 where
  pub to : Configuration
  pub is : n ≡ Some (goes to)
  pub same : SameConfiguration to c

pub record StopsAt (n : Option Next) (x : End) : Type 0 where
  pub end : End
  pub is : n ≡ Some (stops end)
  pub same : SameEnd end x

pub goes_to : (n m : Option Next) (c : Configuration) → SameNext n m → SameNext m (Some (goes c)) → GoesTo n c
goes_to (Some (goes a)) (Some (goes b)) c s t = record { to = a; is = refl; same = configuration_on a b c s t }
goes_to None None c s t = absurd t
goes_to None (Some m) c s t = absurd s
goes_to (Some (goes a)) None c s t = absurd s
goes_to (Some (goes a)) (Some (stops y)) c s t = absurd t
goes_to (Some (stops x)) m c s t = by m s t
  where
    by : (m : Option Next) → SameNext (Some (stops x)) m → SameNext m (Some (goes c)) → GoesTo (Some (stops x)) c
    by None s t = absurd s
    by (Some (goes b)) s t = absurd s
    by (Some (stops y)) s t = absurd t

pub stops_at : (n m : Option Next) (z : End) → SameNext n m → SameNext m (Some (stops z)) → StopsAt n z
stops_at (Some (stops x)) (Some (stops y)) z s t = record { end = x; is = refl; same = end_on x y z s t }
stops_at None None z s t = absurd t
stops_at None (Some m) z s t = absurd s
stops_at (Some (stops x)) None z s t = absurd s
stops_at (Some (stops x)) (Some (goes b)) z s t = absurd s
stops_at (Some (goes a)) m z s t = by m s t
  where
    by : (m : Option Next) → SameNext (Some (goes a)) m → SameNext m (Some (stops z)) → StopsAt (Some (goes a)) z
    by None s t = absurd s
    by (Some (stops y)) s t = absurd s
    by (Some (goes b)) s t = absurd t

some_none : (n : Next) → SameNext (Some n) None → ⊥
some_none (goes c) s = s
some_none (stops x) s = s

pub has_same : (n m : Option Next) → SameNext n m → IsTrue (is_some n) → IsTrue (is_some m)
has_same None m s h = absurd cc
has_same (Some n) None s h = absurd (some_none n s)
has_same (Some n) (Some m) s h = refl

pub pays_same : (image : Image) (p q : Phase) → SamePhase p q → pays image p ≡ pays image q
pays_same image (starting e w) (starting f v) s = ap (λ n. true && nat_lt 0 n) (sym s.1.fuel)
pays_same image (running c) (running d) s =
    ap (λ t. option_map_or takes_unit (instruction_at image t.contract t.tx t.at) false && nat_lt 0 c.world.fuel) (sym s.top)
    ∙ ap (λ n. option_map_or takes_unit (instruction_at image d.top.contract d.top.tx d.top.at) false && nat_lt 0 n) (sym s.world.fuel)
pays_same image (starting e w) (running d) s = absurd s
pays_same image (running c) (starting f v) s = absurd s

pub none_same : (n m : Option Next) → SameNext n m → m ≡ None → n ≡ None
none_same None m s e = refl
none_same (Some n) m s e = absurd (some_none n (subst (SameNext (Some n)) e s))

-- a slice goes on from this phase
pub record Meets (image : Image) (units : ℕ) (start r : Phase) : Type 0 where
  pub steps : ℕ
  pub by : met_in image steps units start ≡ Some r

-- Where a slice has come: a phase that is the same as the machine's but for reads; what it comes to from there, and where it goes
-- on, it does from the start.
pub record At (image : Image) (units left : ℕ) (start q : Phase) : Type 0 where
  pub phase : Phase
  pub same : SamePhase phase q
  pub on : (s : Stop) → Slices image left phase s → Slices image units start s
  pub met : (n : ℕ) (r : Phase) → met_in image n left phase ≡ Some r → Meets image units start r

pub stuck_at : (image : Image) (units left : ℕ) (start q : Phase) → At image units left start q → waits image left q ≡ false → next_step image q ≡ None → IsStuckIn image units start
stuck_at image units left start q a e f =
    let w : waits image left a.phase ≡ false = ap (λ b. b && nat_eq left 0) (pays_same image a.phase q a.same) ∙ e in
    let m : Meets image units start a.phase = a.met 0 a.phase (rw w refl) in
    record { steps = m.steps; at = a.phase; met = m.by; stuck = none_same (next_step image a.phase) (next_step image q) (same_steps image a.phase q a.same) f }

pub waits_at : (image : Image) (units left : ℕ) (start q r : Phase) → At image units left start q → waits image left q ≡ true → r ≡ q → StopsSo image units start (paused r)
waits_at image units left start q r a e f =
    let w : waits image left a.phase ≡ true = ap (λ b. b && nat_eq left 0) (pays_same image a.phase q a.same) ∙ e in
    record { stop = paused a.phase; by = a.on (paused a.phase) (record { steps = 1; by = rw w refl }); same = subst (SamePhase a.phase) (sym f) a.same }

pub ends_at : (image : Image) (units left : ℕ) (start q : Phase) (x : End) → At image units left start q → waits image left q ≡ false
    → SameNext (next_step image q) (Some (stops x)) → StopsSo image units start (over x)
ends_at image units left start q x a e f =
    let w : waits image left a.phase ≡ false = ap (λ b. b && nat_eq left 0) (pays_same image a.phase q a.same) ∙ e in
    let end : StopsAt (next_step image a.phase) x = stops_at (next_step image a.phase) (next_step image q) x (same_steps image a.phase q a.same) f in
    record { stop = over end.end; by = a.on (over end.end) (steps_on image left a.phase (over end.end) (stops end.end) w end.is 0 refl); same = end.same }

pub met_next : (image : Image) (left : ℕ) (p : Phase) (d : Configuration) (n : ℕ) (r : Phase) → waits image left p ≡ false → next_step image p ≡ Some (goes d)
    → met_in image n (left_after (pays image p) left) (running d) ≡ Some r → met_in image (suc n) left p ≡ Some r
met_next image left p d n r e f h = rw (e, f) h

pub goes_at : (image : Image) (units left rest : ℕ) (start q : Phase) (c : Configuration) → At image units left start q → waits image left q ≡ false
    → rest ≡ left_after (pays image q) left → SameNext (next_step image q) (Some (goes c)) → At image units rest start (running c)
goes_at image units left rest start q c a e r f =
    let w : waits image left a.phase ≡ false = ap (λ b. b && nat_eq left 0) (pays_same image a.phase q a.same) ∙ e in
    let step : GoesTo (next_step image a.phase) c = goes_to (next_step image a.phase) (next_step image q) c (same_steps image a.phase q a.same) f in
    let k : rest ≡ left_after (pays image a.phase) left = r ∙ ap (λ b. left_after b left) (sym (pays_same image a.phase q a.same)) in
    record {
      phase = running step.to;
      same = step.same;
      on = λ s h.
          let g : Slices image (left_after (pays image a.phase) left) (running step.to) s = subst (λ n. Slices image n (running step.to) s) k h in
          a.on s (steps_on image left a.phase s (goes step.to) w step.is g.steps g.by);
      met = λ n r h. a.met (suc n) r (met_next image left a.phase step.to n r w step.is (subst (λ l. met_in image n l (running step.to) ≡ Some r) k h));
    }

next_to : (n : Option Next) (c : Configuration) → SameNext n (Some (goes c)) → GoesTo n c
next_to None c s = absurd s
next_to (Some (goes a)) c s = record { to = a; is = refl; same = s }
next_to (Some (stops x)) c s = absurd s

-- each step lowers the measure
pub lower : (image : Image) (q : Phase) (c : Configuration) → LeadsAheadOrToUnit image → SameNext (next_step image q) (Some (goes c)) → steps_left image (running c) < steps_left image q
lower image q c ahead f =
    let step : GoesTo (next_step image q) c = next_to (next_step image q) c f in
    let e : steps_left image (running c) ≡ steps_left image (running step.to) =
    ap (λ t. suc ((rest image t + rests image c.below) + c.world.fuel * longest image)) step.same.top
    ∙ ap (λ b. suc ((rest image step.to.top + rests image b) + c.world.fuel * longest image)) step.same.below
    ∙ ap (λ n. suc ((rest image step.to.top + rests image step.to.below) + n * longest image)) step.same.world.fuel in
    subst (λ n. n < steps_left image q) (sym e) (lowers image q step.to ahead step.is)

world_itself : (w : World) → SameWorld w w
world_itself w = record { objects = refl; made = refl; locked = refl; progress = refl; fuel = refl; taken = refl; reads = (λ item c. c, λ item c. c) }

pub phase_itself : (p : Phase) → SamePhase p p
phase_itself (starting e w) = (refl, world_itself w)
phase_itself (running c) = record { top = refl; below = refl; world = world_itself c.world }

pub at_start : (image : Image) (units : ℕ) (p : Phase) → At image units units p p
at_start image units p = record { phase = p; same = phase_itself p; on = λ s h. h; met = λ n r h. record { steps = n; by = h } }

-- Turns.

pub waited : (image : Image) (left : ℕ) (p : Phase) (r : Result Turn Off) (turn : Turn) (m : Machine) (base : List Object) (o : Changes)
    → Tries r image left p m base o → r ≡ Ok turn → turn ≡ Waits → TurnsSo image left p Waits m base o
waited image left p r turn m base o h e f = subst (λ t. TurnsSo image left p t m base o) f (subst (λ x. Tries x image left p m base o) e h)

pub made_turn : (image : Image) (left : ℕ) (p : Phase) (r : Result Turn Off) (turn : Turn) (x progress : Progress) (rest : ℕ) (m : Machine) (base : List Object) (o : Changes)
    → Tries r image left p m base o → r ≡ Ok turn → turn ≡ Made x rest → x ≡ progress → TurnsSo image left p (Made progress rest) m base o
made_turn image left p r turn x progress rest m base o h e f g =
    subst (λ y. TurnsSo image left p (Made y rest) m base o) g
    (subst (λ t. TurnsSo image left p t m base o) f (subst (λ y. Tries y image left p m base o) e h))

pub stopped : (image : Image) (left : ℕ) (p : Phase) (r : Result Turn Off) (off : Off) (m : Machine) (base : List Object) (o : Changes)
    → Tries r image left p m base o → r ≡ Err off → off ≡ NoStep → (waits image left p ≡ false) × (next_step image p ≡ None)
stopped image left p r off m base o h e f =
    subst (λ x. Tries (Err x) image left p m base o) f (subst (λ y. Tries y image left p m base o) e h)

-- a slice that goes on soundly never comes to where there is no next step
pub never_stuck : (image : Image) (units : ℕ) (p : Phase) → IsSoundIn image units p → ¬ (IsStuckIn image units p)
never_stuck image units p sound stuck = true≢false (sym (sound.at stuck.steps stuck.at stuck.met) ∙ ap is_some stuck.stuck)

pub begun_at : (m : Machine) (base : List Object) (o : Changes) → HasBegun m → phase_of m base o ≡ running (shown m.run base o)
begun_at m base o h = ap (λ e. phase_at e (shown m.run base o)) h

pub goes_turn : (image : Image) (units left rest : ℕ) (start q : Phase) (m : Machine) (base : List Object) (o : Changes) → At image units left start q
    → TurnsSo image left q (Made Going rest) m base o → At image units rest start (phase_of m base o)
goes_turn image units left rest start q m base o a t =
    subst (At image units rest start) (sym (begun_at m base o t.3)) (goes_at image units left rest start q (shown m.run base o) a t.0 t.1 t.2)

pub lower_turn : (image : Image) (left rest : ℕ) (q : Phase) (m : Machine) (base : List Object) (o : Changes) → LeadsAheadOrToUnit image
    → TurnsSo image left q (Made Going rest) m base o → steps_left image (phase_of m base o) < steps_left image q
lower_turn image left rest q m base o ahead t =
    subst (λ p. steps_left image p < steps_left image q) (sym (begun_at m base o t.3)) (lower image q (shown m.run base o) ahead t.2)
