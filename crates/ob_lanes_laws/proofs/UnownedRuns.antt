-- Runs of code don't look at the mark of a disowned object.
use Rattle.std.proofs.Common.{◌≡◌, ℕ, zero, suc, ◌+◌, ◌<◌, List, [], ◌∷◌, length, Option, Some, None, Bool, true, false, refl, ap, ◌∙◌, arith}
use Rattle.std.specs.Prelude.{⊤, option_map}
use Rattle.ob_base.specs.declared.id.ContractId.{ContractId}
use Rattle.ob_perm.specs.Permissions.{is_shared}
use Rattle.ob_perm.specs.Masks.{permission_of}
use Rattle.ob_table.specs.declared.contract.ResolvedType.{ResolvedType}
use Rattle.ob_table.specs.declared.contract.ResolvedType.TheVariants.{Int, Bool as BoolKind, Text, Reference}
use Rattle.ob_heap_spec.specs.Values.{Value, int_value, bool_value, text_value, reference}
use Rattle.ob_heap_spec.specs.Objects.{Object}
use Rattle.ob_heap_spec.specs.Worlds.{World, first_world, RunOutcome, gives, aborts, wrong}
use Rattle.ob_heap_spec.specs.Marks.{mark_shared, comes_into}
use Rattle.ob_code.specs.declared.image.BodyCode.{BodyCode}
use Rattle.ob_code.specs.declared.image.Image.{Image}
use Rattle.ob_code.specs.declared.image.ParamCode.{ParamCode}
use Rattle.ob_code.specs.Code.{body_code}
use Rattle.ob_machine_steps.specs.Configurations.{Configuration, ended, aborted, Next, goes, stops}
use Rattle.ob_machine_steps.specs.Entries.{MachineEntry, lock_receiver, args_come_in, receiver_comes_in, comes_into_body, entry_world, Phase, starting, running, started, next_step}
use Rattle.ob_code_table.specs.ImageTables.{perm_of_code, type_of_param}
use Rattle.ob_machine_steps.specs.Outcomes.{outcome_at, outcome}
use Rattle.ob_machine_steps.specs.Measures.{steps_left}
use Rattle.ob_machine_steps.specs.Runs.{Stop, paused, over, after_step, after_steps, world_of}
use Rattle.ob_request_run_laws.specs.Locality.{IsGoodPhase}
use Rattle.ob_request_run_laws.proofs.Entries.{entry_good}
use Rattle.ob_request_run_laws.proofs.Local.{steps_stay_good, run_stays_good, phase_world_good}
use Rattle.ob_lanes_laws.proofs.Blind.{marked, hold, if_world, shared_held, end_held, next_held, phase_held, next_is_held}

-- Steps.

abbrev stop_held : ℕ → Stop → Stop
stop_held n (paused p) = paused (phase_held n p)
stop_held n (over e) = over (end_held n e)

below_more : (n count l made : ℕ) → n < count → l ≡ count + made → n < l
below_more n count l made a e = omega (arith, a, e)

good_below : (n count : ℕ) (p : Phase) → n < count → IsGoodPhase count p → n < length (world_of p).objects
good_below n count p low good = below_more n count (length (world_of p).objects) (world_of p).made low (phase_world_good count p good).objects

step_held : (n : ℕ) (image : Image) (k : ℕ) (r : Option Next) → ((c : Configuration) → r ≡ Some (goes c) → after_steps image k (phase_held n (running c)) ≡ option_map (stop_held n) (after_steps image k (running c)))
    → after_step (option_map (next_held n) r) (after_steps image k) ≡ option_map (stop_held n) (after_step r (after_steps image k))
step_held n image k None h = refl
step_held n image k (Some (goes c)) h = h c refl
step_held n image k (Some (stops e)) h = refl

after_held : (n : ℕ) (image : Image) (count : ℕ) → n < count → (k : ℕ) (p : Phase) → IsGoodPhase count p → after_steps image k (phase_held n p) ≡ option_map (stop_held n) (after_steps image k p)
after_held n image count low zero p good = refl
after_held n image count low (suc k) p good =
    ap (λ r. after_step r (after_steps image k)) (next_is_held n image p (good_below n count p low good))
    ∙ step_held n image k (next_step image p) (λ c h. after_held n image count low k (running c) (steps_stay_good image count p (goes c) good h))

-- Whole runs.

abbrev pub outcome_held : ℕ → RunOutcome (Option Value) → RunOutcome (Option Value)
outcome_held n (gives result w) = gives result (hold n w)
outcome_held n (aborts cause s) = aborts cause s
outcome_held n wrong = wrong

at_held : (n : ℕ) (o : Option Stop) → outcome_at (option_map (stop_held n) o) ≡ outcome_held n (outcome_at o)
at_held n None = refl
at_held n (Some (paused p)) = refl
at_held n (Some (over (ended result w))) = refl
at_held n (Some (over (aborted cause s))) = refl

left_held : (n : ℕ) (image : Image) (p : Phase) → steps_left image (phase_held n p) ≡ steps_left image p
left_held n image (starting e w) = refl
left_held n image (running c) = refl

outcome_is_held : (n : ℕ) (image : Image) (count : ℕ) → n < count → (p : Phase) → IsGoodPhase count p → outcome image (phase_held n p) ≡ outcome_held n (outcome image p)
outcome_is_held n image count low p good =
    ap (λ k. outcome_at (after_steps image k (phase_held n p))) (left_held n image p) ∙ ap outcome_at (after_held n image count low (steps_left image p) p good) ∙ at_held n (after_steps image (steps_left image p) p)

-- the object is there where a run has ended
abbrev pub IsThere : ℕ → RunOutcome (Option Value) → Type 0
IsThere n (gives result w) = n < length w.objects
IsThere n (aborts cause s) = ⊤
IsThere n wrong = ⊤

there_at : (n : ℕ) (image : Image) (count : ℕ) → n < count → (p : Phase) → IsGoodPhase count p → (k : ℕ) (o : Option Stop) → after_steps image k p ≡ o → IsThere n (outcome_at o)
there_at n image count low p good k None h = tt
there_at n image count low p good k (Some (paused q)) h = tt
there_at n image count low p good k (Some (over (ended result w))) h =
    below_more n count (length w.objects) w.made low (run_stays_good image count k p (over (ended result w)) good h).0.objects
there_at n image count low p good k (Some (over (aborted cause s))) h = tt

-- From an entry.

value_held : (n : ℕ) (of : ResolvedType) (v : Value) (w : World) → comes_into of v (hold n w) ≡ hold n (comes_into of v w)
value_held n (Reference id p) (reference m) w = if_world n (is_shared (permission_of p)) (mark_shared m (hold n w)) (hold n w) (mark_shared m w) w (shared_held n m w) refl
value_held n (Reference id p) (int_value z) w = refl
value_held n (Reference id p) (bool_value b) w = refl
value_held n (Reference id p) (text_value bytes) w = refl
value_held n Int v w = refl
value_held n BoolKind v w = refl
value_held n Text v w = refl

args_held : (n : ℕ) (params : List ParamCode) (args : List Value) (w : World) → args_come_in params args (hold n w) ≡ hold n (args_come_in params args w)
args_held n [] args w = refl
args_held n (p ∷ params) [] w = refl
args_held n (p ∷ params) (a ∷ args) w = ap (args_come_in params args) (value_held n (type_of_param p) a w) ∙ args_held n params args (comes_into (type_of_param p) a w)

receiver_held : (n : ℕ) (contract : ContractId) (b : BodyCode) (receiver : Option ℕ) (w : World) → receiver_comes_in contract b receiver (hold n w) ≡ hold n (receiver_comes_in contract b receiver w)
receiver_held n contract b None w = refl
receiver_held n contract b (Some m) w = value_held n (Reference contract (perm_of_code b.entry)) (reference m) w

body_held : (n : ℕ) (contract : ContractId) (b : Option BodyCode) (receiver : Option ℕ) (args : List Value) (w : World) → comes_into_body contract b receiver args (hold n w) ≡ hold n (comes_into_body contract b receiver args w)
body_held n contract None receiver args w = refl
body_held n contract (Some b) receiver args w = ap (args_come_in b.params args) (receiver_held n contract b receiver w) ∙ args_held n b.params args (receiver_comes_in contract b receiver w)

locked_held : (n : ℕ) (locked : Bool) (receiver : Option ℕ) (w : World) → lock_receiver locked receiver (hold n w) ≡ hold n (lock_receiver locked receiver w)
locked_held n locked None w = refl
locked_held n true (Some m) w = refl
locked_held n false (Some m) w = refl

entry_held : (n : ℕ) (image : Image) (e : MachineEntry) (xs : List Object) (fuel : ℕ) → entry_world image e (marked n xs) fuel ≡ hold n (entry_world image e xs fuel)
entry_held n image e xs fuel =
    ap (comes_into_body e.contract (body_code image e.contract e.tx) e.receiver e.args) (locked_held n e.lock e.receiver (first_world xs fuel))
    ∙ body_held n e.contract (body_code image e.contract e.tx) e.receiver e.args (lock_receiver e.lock e.receiver (first_world xs fuel))

pub started_held : (n : ℕ) (image : Image) (e : MachineEntry) (xs : List Object) (fuel : ℕ) → n < length xs → outcome image (started image e (marked n xs) fuel) ≡ outcome_held n (outcome image (started image e xs fuel))
started_held n image e xs fuel low =
    ap (λ w. outcome image (starting e w)) (entry_held n image e xs fuel) ∙ outcome_is_held n image (length xs) low (started image e xs fuel) (entry_good image e xs fuel)

pub started_there : (n : ℕ) (image : Image) (e : MachineEntry) (xs : List Object) (fuel : ℕ) → n < length xs → IsThere n (outcome image (started image e xs fuel))
started_there n image e xs fuel low = there_at n image (length xs) low (started image e xs fuel) (entry_good image e xs fuel) (steps_left image (started image e xs fuel)) (after_steps image (steps_left image (started image e xs fuel)) (started image e xs fuel)) refl
