-- What a turn answers.
use Rattle.std.proofs.Common.{◌≡◌, ℕ, zero, suc, ◌+◌, ◌<◌, Bool, true, false, ◌&&◌, List, [], ◌∷◌, length, Option, Some, None, refl, sym, ap, ◌∙◌, subst, arith, true≢false}
use Rattle.std.proofs.lemmas.Bool.{ltb-true}
use Rattle.std.proofs.lemmas.Bool.Decides.{Decides-eqb}
use Rattle.std.specs.Prelude.{ℤ, nat_eq, nat_lt, slice_get, if◌then◌else◌}
use Rattle.ob_heap.specs.Contents.{Stored}
use Rattle.ob_heap.specs.declared.delta.Delta.{Delta}
use Rattle.ob_invocation_spec.specs.Requests.{Request}
use Rattle.ob_code.specs.declared.image.Image.{Image}
use Rattle.ob_request_run_laws.specs.Runs.{opened, paused, answered, lost}
use Rattle.ob_request_run_laws.specs.Runs as plain
use Rattle.ob_wire.specs.declared.reply.Reply.{Reply}
use Rattle.ob_exec.specs.declared.runs.SliceOutcome.{SliceOutcome}
use Rattle.ob_exec.specs.declared.runs.SliceOutcome.TheVariants as slice_outcome
use Rattle.ob_lanes_laws.specs.Schedule.{is_done, may_start, with_lane, starts, runs, sliced}
use Rattle.ob_lanes_laws.specs.Schedule as schedule
use Rattle.ob_lanes_laws.specs.Requests.{has_ended}
use Rattle.ob_lanes_laws.specs.Turns.{first_start, started, turned, next_lane, is_answered, are_done_from}
use Rattle.ob_lanes_laws.proofs.Keeping.{none_is_some, some_same, both_true, differ}
use Rattle.ob_lanes.specs.Starting.{are_all_done}
use Rattle.ob_lanes.specs.Standing.{Fits, rules_on, BusyLane, State, IsLane, requests_of, LanesRepresent, NoneHasEnded, EndsAlone, OthersGoOn, AreIdle, Tells, LaneTells, HadTurn, CanTurn, TurnComesTo, Answers, Turned}
use Rattle.ob_lanes.specs.declared.batch.Busy.{Busy}
use Rattle.ob_lanes.specs.declared.batch.BatchRequest.{BatchRequest}
use Rattle.ob_lanes.specs.declared.lanes.Lanes.{Lanes}
use Rattle.ob_lanes.specs.declared.lanes.Turn.{Turn}
use Rattle.ob_lanes.specs.declared.lanes.Turn.TheVariants.{Going, Done}
use Rattle.ob_lanes.proofs.Standing.{Pair, beyond, within, pair_at, pair_length, set_length}

-- Whose run has ended.

tells_ended : (base : Stored) (id : ℤ) (r : plain.Run) (reply : Reply) (delta : Delta) → Tells base id r (slice_outcome.Ended reply delta) → has_ended r ≡ true
tells_ended base id (opened q) reply delta h = absurd h
tells_ended base id (paused q reads p held) reply delta h = absurd h
tells_ended base id (answered a) reply delta h = refl
tells_ended base id lost reply delta h = absurd h

tells_going : (base : Stored) (id : ℤ) (r : plain.Run) → Tells base id r slice_outcome.Paused → has_ended r ≡ false
tells_going base id (opened q) h = refl
tells_going base id (paused q reads p held) h = refl
tells_going base id (answered a) h = absurd h
tells_going base id lost h = absurd h

-- the entry of a busy lane of the schedule
record EntryOf (entries : List BatchRequest) (s : BusyLane) : Type 0 where
  entry : BatchRequest
  is : slice_get entries s.number ≡ Some entry

entry_at : (image : Image) (fuel : ℕ) (base : Stored) (entries : List BatchRequest) (lanes : List (Option Busy)) (l : State) (k : ℕ) (s : BusyLane) → LanesRepresent image fuel base entries lanes l → slice_get l.lanes k ≡ Some (Some s) → EntryOf entries s
entry_at image fuel base entries lanes l k s h e = by (pair_at image fuel base entries lanes l.lanes k h.each)
  where
    busy : (b : Option Busy) → IsLane image fuel base entries b (Some s) → EntryOf entries s
    busy None g = absurd g
    busy (Some b) g = record { entry = g.entry; is = ap (slice_get entries) (sym g.number) ∙ g.entry_is }

    by : Pair image fuel base entries (slice_get lanes k) (slice_get l.lanes k) → EntryOf entries s
    by (beyond f g) = absurd (none_is_some (sym g ∙ e))
    by (within b x f g i) = busy b (subst (λ y. IsLane image fuel base entries b y) (some_same x (Some s) (sym g ∙ e)) i)

pub same_or : (j k : ℕ) (A : Type 0) → (j ≡ k → A) → (¬ (j ≡ k) → A) → A
same_or zero zero A f g = f refl
same_or zero (suc k) A f g = g (λ e. absurd (omega (arith, e)))
same_or (suc j) zero A f g = g (λ e. absurd (omega (arith, e)))
same_or (suc j) (suc k) A f g = same_or j k A (λ e. f (ap suc e)) (λ n. g (λ e. n (omega (arith, e))))

pub eq_itself : (n : ℕ) → nat_eq n n ≡ true
eq_itself n = (Decides-eqb n n).1 refl

told_lane : (base : Stored) (entries : List BatchRequest) (y : Option (Option BusyLane)) (s : BusyLane) (outcome : SliceOutcome) → y ≡ Some (Some s) → LaneTells base entries y outcome → (e : EntryOf entries s) → Tells base e.entry.request.id s.run outcome
told_lane base entries y s outcome e h en = let its = subst (λ x. LaneTells base entries x outcome) e h in its en.entry en.is

pub ends_alone : (image : Image) (fuel : ℕ) (base : Stored) (entries : List BatchRequest) (lanes : List (Option Busy)) (k : ℕ) (l : State) (reply : Reply) (delta : Delta) → LanesRepresent image fuel base entries lanes l → OthersGoOn k l
    → LaneTells base entries (slice_get l.lanes k) (slice_outcome.Ended reply delta) → EndsAlone k l
ends_alone image fuel base entries lanes k l reply delta h o t = λ j b e. same_or j k (has_ended b.run ≡ nat_eq j k)
    (λ s. tells_ended base (entry_at image fuel base entries lanes l j b h e).entry.request.id b.run reply delta
    (told_lane base entries (slice_get l.lanes k) b (slice_outcome.Ended reply delta) (ap (slice_get l.lanes) (sym s) ∙ e) t (entry_at image fuel base entries lanes l j b h e))
    ∙ sym (ap (λ m. nat_eq m k) s ∙ eq_itself k))
    (λ n. o j b e n ∙ sym (differ j k n))

pub none_ends : (image : Image) (fuel : ℕ) (base : Stored) (entries : List BatchRequest) (lanes : List (Option Busy)) (k : ℕ) (l : State) → LanesRepresent image fuel base entries lanes l → OthersGoOn k l
    → LaneTells base entries (slice_get l.lanes k) slice_outcome.Paused → NoneHasEnded l
none_ends image fuel base entries lanes k l h o t = λ j b e. same_or j k (has_ended b.run ≡ false)
    (λ s. tells_going base (entry_at image fuel base entries lanes l j b h e).entry.request.id b.run
    (told_lane base entries (slice_get l.lanes k) b slice_outcome.Paused (ap (slice_get l.lanes) (sym s) ∙ e) t (entry_at image fuel base entries lanes l j b h e)))
    (λ n. o j b e n)

-- Whether all is answered.

done_from : (k : ℕ) (entries : List BatchRequest) (l : State) → ((i : ℕ) (e : BatchRequest) → slice_get entries i ≡ Some e → is_done (k + i) l.done ≡ e.is_done) → are_all_done entries ≡ are_done_from k (requests_of entries) l.done
done_from k [] l h = refl
done_from k (e ∷ es) l h =
    ap (λ b. b && are_all_done es) (sym (h zero e refl) ∙ ap (λ n. is_done n l.done) (omega arith))
    ∙ ap (λ c. is_done k l.done && c) (done_from (suc k) es l (λ i x f. ap (λ n. is_done n l.done) (omega arith) ∙ h (suc i) x f))

pub all_done : (image : Image) (fuel : ℕ) (base : Stored) (entries : List BatchRequest) (lanes : List (Option Busy)) (l : State) → LanesRepresent image fuel base entries lanes l → are_all_done entries ≡ is_answered (requests_of entries) l
all_done image fuel base entries lanes l h = done_from 0 entries l (λ i e f. ap (λ n. is_done n l.done) (omega arith) ∙ h.done i e f)

-- where all is answered, so is the request of each entry
done_each : (entries : List BatchRequest) (n : ℕ) (e : BatchRequest) → are_all_done entries ≡ true → slice_get entries n ≡ Some e → e.is_done ≡ true
done_each [] n e h f = absurd (none_is_some f)
done_each (x ∷ xs) zero e h f = ap (λ (y : BatchRequest). y.is_done) (sym (some_same x e f)) ∙ (both_true x.is_done (are_all_done xs) h).0
done_each (x ∷ xs) (suc n) e h f = done_each xs n e (both_true x.is_done (are_all_done xs) h).1 f

-- then no lane is busy
idle_then : (image : Image) (fuel : ℕ) (base : Stored) (entries : List BatchRequest) (lanes : List (Option Busy)) (l : State) → LanesRepresent image fuel base entries lanes l → are_all_done entries ≡ true → AreIdle l
idle_then image fuel base entries lanes l h all k b at =
    let e = entry_at image fuel base entries lanes l k b h at in
    true≢false (sym (done_each entries b.number e.entry all e.is) ∙ sym (h.done b.number e.entry e.is) ∙ h.own.unanswered k b at)

-- The answer.

going_so : (base : Stored) (batch : List Request) (entries : List BatchRequest) (k : ℕ) (l : State) (b : Bool) (turn : Turn) (next : ℕ) → turn ≡ (if b then Done else Going) → next ≡ next_lane (length l.lanes) k → NoneHasEnded l → is_answered batch l ≡ b
    → (b ≡ true → AreIdle l) → Answers base batch entries k l turn next
going_so base batch entries k l true turn next t n g a idle = subst (λ x. Answers base batch entries k l x next) (sym t) (g, a, n, idle refl)
going_so base batch entries k l false turn next t n g a idle = subst (λ x. Answers base batch entries k l x next) (sym t) (g, a, n)

-- by what the slice of the lane has led to
pub answers_so : (image : Image) (fuel : ℕ) (base : Stored) (mid : Lanes) (l : State) (outcome : SliceOutcome) (turn : Turn) (next : ℕ) → LanesRepresent image fuel base mid.entries.items mid.lanes.items l → OthersGoOn mid.next l
    → LaneTells base mid.entries.items (slice_get l.lanes mid.next) outcome → TurnComesTo mid outcome next turn → Answers base (requests_of mid.entries.items) mid.entries.items mid.next l turn next
answers_so image fuel base mid l (slice_outcome.Ended reply delta) turn next h o t g =
    subst (λ x. Answers base (requests_of mid.entries.items) mid.entries.items mid.next l x next) (sym g.0)
    (t, ends_alone image fuel base mid.entries.items mid.lanes.items mid.next l reply delta h o t, g.1)
answers_so image fuel base mid l slice_outcome.Paused turn next h o t g =
    going_so base (requests_of mid.entries.items) mid.entries.items mid.next l (are_all_done mid.entries.items) turn next g.0
    (g.1 ∙ ap (λ n. next_lane n mid.next) (pair_length image fuel base mid.entries.items mid.lanes.items l.lanes h.each))
    (none_ends image fuel base mid.entries.items mid.lanes.items mid.next l h o t) (sym (all_done image fuel base mid.entries.items mid.lanes.items l h))
    (λ all. idle_then image fuel base mid.entries.items mid.lanes.items l h all)

pub next_within : (count k : ℕ) → k < count → next_lane count k < count
next_within count k h = by (nat_lt (k + 1) count) refl
  where
    by : (b : Bool) → nat_lt (k + 1) count ≡ b → (if b then k + 1 else 0) < count
    by true e = ltb-true (k + 1) count e
    by false e = omega (arith, h)

turn_within : (mid : Lanes) (outcome : SliceOutcome) (next : ℕ) (turn : Turn) → TurnComesTo mid outcome next turn → mid.next < length mid.lanes.items → next < length mid.lanes.items
turn_within mid (slice_outcome.Ended reply delta) next turn g h = subst (λ n. n < length mid.lanes.items) (sym g.1) h
turn_within mid slice_outcome.Paused next turn g h = subst (λ n. n < length mid.lanes.items) (sym g.1) (next_within (length mid.lanes.items) mid.next h)

-- How many lanes there are.

either_length : (b : Bool) (k : ℕ) (s : Option BusyLane) (l : State) → length (if b then with_lane k s l else l).lanes ≡ length l.lanes
either_length true k s l = set_length l.lanes k s
either_length false k s l = refl

starts_length : (fits : Fits) (image : Image) (fuel : ℕ) (batch : List Request) (k n : ℕ) (q : Option Request) (x : Option (Option BusyLane)) (l : State) → length (starts (rules_on fits image fuel) batch k n q x l).lanes ≡ length l.lanes
starts_length fits image fuel batch k n None x l = refl
starts_length fits image fuel batch k n (Some q) None l = refl
starts_length fits image fuel batch k n (Some q) (Some None) l = either_length (may_start (rules_on fits image fuel) batch n q l) k (Some (schedule.opened (rules_on fits image fuel) n q)) l
starts_length fits image fuel batch k n (Some q) (Some (Some b)) l = refl

started_length : (fits : Fits) (image : Image) (fuel : ℕ) (batch : List Request) (k : ℕ) (o : Option ℕ) (l : State) → length (started (rules_on fits image fuel) batch k o l).lanes ≡ length l.lanes
started_length fits image fuel batch k None l = refl
started_length fits image fuel batch k (Some n) l = starts_length fits image fuel batch k n (slice_get batch n) (slice_get l.lanes k) l

runs_length : (fits : Fits) (image : Image) (fuel k units : ℕ) (x : Option (Option BusyLane)) (l : State) → length (runs (rules_on fits image fuel) k units x l).lanes ≡ length l.lanes
runs_length fits image fuel k units None l = refl
runs_length fits image fuel k units (Some None) l = refl
runs_length fits image fuel k units (Some (Some b)) l = by (has_ended b.run)
  where
    by : (e : Bool) → length (if e then l else with_lane k (Some (sliced (rules_on fits image fuel) l.store units b)) l).lanes ≡ length l.lanes
    by true = refl
    by false = set_length l.lanes k (Some (sliced (rules_on fits image fuel) l.store units b))

pub turned_length : (fits : Fits) (image : Image) (fuel : ℕ) (batch : List Request) (units k : ℕ) (l : State) → length (turned (rules_on fits image fuel) batch units k l).lanes ≡ length l.lanes
turned_length fits image fuel batch units k l =
    let m = started (rules_on fits image fuel) batch k (first_start (rules_on fits image fuel) batch l 0 batch) l in
    runs_length fits image fuel k units (slice_get m.lanes k) m ∙ started_length fits image fuel batch k (first_start (rules_on fits image fuel) batch l 0 batch) l

-- The whole turn: `mid` is what the lanes are once the lane had its turn, `new` once what its run tells is answered.
pub turned_so : (image : Image) (fuel : ℕ) (batch : List Request) (base : Stored) (old mid new : Lanes) (l : State) (outcome : SliceOutcome) (turn : Turn) → CanTurn image fuel batch base old l
    → mid.slice ≡ old.slice → mid.next ≡ old.next → mid.entries.items ≡ old.entries.items
    → HadTurn image fuel base old.entries.items old.slice old.next l mid.lanes.items outcome
    → TurnComesTo mid outcome new.next turn → new.slice ≡ mid.slice → new.entries.items ≡ mid.entries.items → new.lanes.items ≡ mid.lanes.items
    → Turned image fuel batch base old l new turn
turned_so image fuel batch base old mid new l outcome turn can s1 n1 e1 had g s2 e2 l2 = record {
  stands = λ fits. record {
    requests = can.stands.requests ∙ ap requests_of (sym (e2 ∙ e1));
    state = subst (λ es. LanesRepresent image fuel base es new.lanes.items (after fits)) (sym e2) (subst (λ ls. LanesRepresent image fuel base mid.entries.items ls (after fits)) (sym l2) (those fits));
    next = subst (λ ls. new.next < length ls) (sym l2) (turn_within mid outcome new.next turn g within_mid);
    slice = subst (λ n. 0 < n) (sym (s2 ∙ s1)) can.stands.slice;
  };
  slice = s2 ∙ s1;
  count = ap length l2 ∙ count_mid;
  answers = λ fits. subst (λ n. Answers base batch old.entries.items n (after fits) turn new.next) n1
      (subst (λ es. Answers base batch es mid.next (after fits) turn new.next) e1
      (subst (λ q. Answers base q mid.entries.items mid.next (after fits) turn new.next) (ap requests_of e1 ∙ sym can.stands.requests)
      (answers_so image fuel base mid (after fits) outcome turn new.next (those fits) (others fits) (tells fits) g)));
}
  where
    all_fit : Fits
    all_fit before after = true

    after : Fits → State
    after fits = turned (rules_on fits image fuel) batch old.slice old.next l

    of_batch : (P : State → Type 0) (fits : Fits) → P (turned (rules_on fits image fuel) (requests_of old.entries.items) old.slice old.next l) → P (turned (rules_on fits image fuel) batch old.slice old.next l)
    of_batch P fits h = subst (λ q. P (turned (rules_on fits image fuel) q old.slice old.next l)) (sym can.stands.requests) h

    those : (fits : Fits) → LanesRepresent image fuel base mid.entries.items mid.lanes.items (turned (rules_on fits image fuel) batch old.slice old.next l)
    those fits = subst (λ es. LanesRepresent image fuel base es mid.lanes.items (turned (rules_on fits image fuel) batch old.slice old.next l)) (sym e1)
        (of_batch (λ x. LanesRepresent image fuel base old.entries.items mid.lanes.items x) fits (had.state fits))

    others : (fits : Fits) → OthersGoOn mid.next (turned (rules_on fits image fuel) batch old.slice old.next l)
    others fits = subst (λ n. OthersGoOn n (turned (rules_on fits image fuel) batch old.slice old.next l)) (sym n1) (of_batch (λ x. OthersGoOn old.next x) fits (had.others fits))

    tells : (fits : Fits) → LaneTells base mid.entries.items (slice_get (turned (rules_on fits image fuel) batch old.slice old.next l).lanes mid.next) outcome
    tells fits = subst (λ n. LaneTells base mid.entries.items (slice_get (turned (rules_on fits image fuel) batch old.slice old.next l).lanes n) outcome) (sym n1)
        (subst (λ es. LaneTells base es (slice_get (turned (rules_on fits image fuel) batch old.slice old.next l).lanes old.next) outcome) (sym e1)
        (of_batch (λ x. LaneTells base old.entries.items (slice_get x.lanes old.next) outcome) fits (had.tells fits)))

    count_mid : length mid.lanes.items ≡ length old.lanes.items
    count_mid = pair_length image fuel base mid.entries.items mid.lanes.items (turned (rules_on all_fit image fuel) batch old.slice old.next l).lanes (those all_fit).each
        ∙ turned_length all_fit image fuel batch old.slice old.next l ∙ sym (pair_length image fuel base old.entries.items old.lanes.items l.lanes can.stands.state.each)

    within_mid : mid.next < length mid.lanes.items
    within_mid = subst (λ n. mid.next < n) (sym count_mid) (subst (λ n. n < length old.lanes.items) (sym n1) can.stands.next)
