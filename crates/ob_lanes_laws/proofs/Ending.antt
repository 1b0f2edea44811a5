-- The turns of a batch end.
use Rattle.std.proofs.Common.{◌≡◌, ℕ, zero, suc, ◌+◌, ◌<◌, ◌≤◌, ◌⊎◌, inl, inr, Bool, true, false, not, ◌&&◌, ◌||◌, List, [], ◌∷◌, length, replicate, Option, Some, None, refl, sym, ap, ◌∙◌, subst, arith, true≢false}
use Rattle.std.specs.Prelude.{nat_eq, nat_lt, slice_get, if◌then◌else◌}
use Rattle.std.proofs.lemmas.Bool.{ltb-true}
use Rattle.ob_lanes_laws.specs.Schedule.{Rules, Busy, Done, Lanes, Event, start, slice, commit, is_done, is_held, are_earlier_done, may_start, opened, sliced, with_lane, starts, runs, committed, commits, step, idle}
use Rattle.ob_lanes_laws.specs.Serial.{Meaning, RunsAlone, IsReached, IsOf, AreLocal}
use Rattle.ob_lanes_laws.specs.Turns.{first_start, started, turn, next_lane, Round, after_turns, are_done_from, is_answered}
use Rattle.ob_lanes_laws.specs.Measures.{Distances, turns_left}
use Rattle.ob_lanes_laws.specs.Laws.{OfEach, AreUnderWay, IsAnsweredIn}
use Rattle.ob_lanes_laws.proofs.Keeping.{none_is_some, both_true, Fits, Keeps, step_keeps, idle_keeps, idle_lane, local_fits, each_of, first_reached}
use Rattle.ob_lanes_laws.proofs.Lowering.{AreNear, turns_lower, turn_length, turn_near}

-- What is answered stays answered.

more_done : {S Q A : Type 0} (n : ℕ) (qs : List Q) (d : Done S A) (ds : List (Done S A)) → are_done_from n qs ds ≡ true → are_done_from n qs (d ∷ ds) ≡ true
more_done n [] d ds h = refl
more_done n (q ∷ qs) d ds h =
    let two = both_true (is_done n ds) (are_done_from (suc n) qs ds) h in
    both (nat_eq n d.number) (is_done n ds) (are_done_from (suc n) qs (d ∷ ds)) two.0 (more_done (suc n) qs d ds two.1)
  where
    both : (a b c : Bool) → b ≡ true → c ≡ true → (a || b) && c ≡ true
    both true b c e f = f
    both false true c e f = f
    both false false c e f = absurd (true≢false (sym e))

start_stays : {S Q R A : Type 0} (rules : Rules S Q R A) (batch : List Q) (k n : ℕ) (q : Option Q) (x : Option (Option (Busy Q R))) (l : Lanes S Q R A) → is_answered batch l ≡ true → is_answered batch (starts rules batch k n q x l) ≡ true
start_stays rules batch k n None x l h = h
start_stays rules batch k n (Some q) None l h = h
start_stays rules batch k n (Some q) (Some (Some b)) l h = h
start_stays {S = S} {Q = Q} {R = R} {A = A} rules batch k n (Some q) (Some None) l h = by (may_start rules batch n q l)
  where
    by : (b : Bool) → is_answered batch (if b then with_lane k (Some (opened rules n q)) l else l) ≡ true
    by true = h
    by false = h

run_stays : {S Q R A : Type 0} (rules : Rules S Q R A) (batch : List Q) (k units : ℕ) (x : Option (Option (Busy Q R))) (l : Lanes S Q R A) → is_answered batch l ≡ true → is_answered batch (runs rules k units x l) ≡ true
run_stays rules batch k units None l h = h
run_stays rules batch k units (Some None) l h = h
run_stays rules batch k units (Some (Some b)) l h = by (rules.has_ended b.run)
  where
    by : (over : Bool) → is_answered batch (if over then l else with_lane k (Some (sliced rules l.store units b)) l) ≡ true
    by true = h
    by false = h

commit_stays : {S Q R A : Type 0} (rules : Rules S Q R A) (batch : List Q) (k : ℕ) (x : Option (Option (Busy Q R))) (l : Lanes S Q R A) → is_answered batch l ≡ true → is_answered batch (commits rules k x l) ≡ true
commit_stays rules batch k None l h = h
commit_stays rules batch k (Some None) l h = h
commit_stays rules batch k (Some (Some b)) l h = by (rules.has_ended b.run)
  where
    by : (over : Bool) → is_answered batch (if over then committed rules k b l else l) ≡ true
    by true = more_done 0 batch _ l.done h
    by false = h

step_stays : {S Q R A : Type 0} (rules : Rules S Q R A) (batch : List Q) (l : Lanes S Q R A) (e : Event) → is_answered batch l ≡ true → is_answered batch (step rules batch l e) ≡ true
step_stays rules batch l (start k n) h = start_stays rules batch k n (slice_get batch n) (slice_get l.lanes k) l h
step_stays rules batch l (slice k units) h = run_stays rules batch k units (slice_get l.lanes k) l h
step_stays rules batch l (commit k) h = commit_stays rules batch k (slice_get l.lanes k) l h

started_stays : {S Q R A : Type 0} (rules : Rules S Q R A) (batch : List Q) (k : ℕ) (o : Option ℕ) (l : Lanes S Q R A) → is_answered batch l ≡ true → is_answered batch (started rules batch k o l) ≡ true
started_stays rules batch k None l h = h
started_stays rules batch k (Some n) l h = step_stays rules batch l (start k n) h

turn_stays : {S Q R A : Type 0} (rules : Rules S Q R A) (batch : List Q) (units k : ℕ) (l : Lanes S Q R A) → is_answered batch l ≡ true → is_answered batch (turn rules batch units k l) ≡ true
turn_stays rules batch units k l h =
    let s = started rules batch k (first_start rules batch l 0 batch) l in
    step_stays rules batch (step rules batch s (slice k units)) (commit k) (step_stays rules batch s (slice k units) (started_stays rules batch k (first_start rules batch l 0 batch) l h))

-- A turn keeps what the schedule keeps.

started_keeps : {S Q R A : Type 0} (rules : Rules S Q R A) (IsFit : S → Type 0) (IsAsked : Q → Type 0) (means : Meaning S Q A) (batch : List Q) (s : S) (k : ℕ) (o : Option ℕ) (l : Lanes S Q R A) → Fits rules IsFit IsAsked means → OfEach IsAsked batch
    → Keeps rules IsFit means batch s l → Keeps rules IsFit means batch s (started rules batch k o l)
started_keeps rules IsFit IsAsked means batch s k None l local asked h = h
started_keeps rules IsFit IsAsked means batch s k (Some n) l local asked h = step_keeps rules IsFit IsAsked means batch s l (start k n) local asked h

pub turn_keeps : {S Q R A : Type 0} (rules : Rules S Q R A) (IsFit : S → Type 0) (IsAsked : Q → Type 0) (means : Meaning S Q A) (batch : List Q) (s : S) (units k : ℕ) (l : Lanes S Q R A) → Fits rules IsFit IsAsked means → OfEach IsAsked batch
    → Keeps rules IsFit means batch s l → Keeps rules IsFit means batch s (turn rules batch units k l)
turn_keeps rules IsFit IsAsked means batch s units k l local asked h =
    let t = started rules batch k (first_start rules batch l 0 batch) l in
    step_keeps rules IsFit IsAsked means batch s (step rules batch t (slice k units)) (commit k) local asked
    (step_keeps rules IsFit IsAsked means batch s t (slice k units) local asked (started_keeps rules IsFit IsAsked means batch s k (first_start rules batch l 0 batch) l local asked h))

under_way : {S Q R A : Type 0} (rules : Rules S Q R A) (IsFit : S → Type 0) (means : Meaning S Q A) (d : Distances rules) (batch : List Q) (s : S) (l : Lanes S Q R A) → Keeps rules IsFit means batch s l → AreNear d.left d.most l.lanes → AreUnderWay rules d batch l
under_way rules IsFit means d batch s l h near = λ k b e. let t = h.stand k b e in (t.request, t.unanswered, near k b e)

next_below : (count k : ℕ) → 0 < count → next_lane count k < count
next_below count k h = by (nat_lt (k + 1) count) refl
  where
    by : (b : Bool) → nat_lt (k + 1) count ≡ b → (if b then k + 1 else 0) < count
    by true e = ltb-true (k + 1) count e
    by false e = h

-- Turns one after another.

-- what a batch has come to: it is answered, or has had so many turns of those that the measure told at first
record HasCome {S Q R A : Type 0} (rules : Rules S Q R A) (IsFit : S → Type 0) (means : Meaning S Q A) (d : Distances rules) (batch : List Q) (count : ℕ) (s : S) (n : ℕ) (r : Round S Q R A) : Type 0 where
  keeps : Keeps rules IsFit means batch s r.lanes
  near : AreNear d.left d.most r.lanes.lanes
  length_is : length r.lanes.lanes ≡ count
  place : r.next < count
  left : (is_answered batch r.lanes ≡ true) ⊎ (turns_left rules d batch r.next r.lanes + n ≤ turns_left rules d batch 0 (idle s count))

replicate_length : {A : Type 0} (n : ℕ) (x : A) → length (replicate n x) ≡ n
replicate_length zero x = refl
replicate_length (suc n) x = ap suc (replicate_length n x)

left_by : {S Q R A : Type 0} (rules : Rules S Q R A) (IsFit : S → Type 0) (means : Meaning S Q A) (d : Distances rules) (batch : List Q) (units count : ℕ) (s : S) (n : ℕ) (r : Round S Q R A) (b : Bool) → HasCome rules IsFit means d batch count s n r → 0 < units → is_answered batch r.lanes ≡ b
    → (is_answered batch (turn rules batch units r.next r.lanes) ≡ true) ⊎ (turns_left rules d batch (next_lane count r.next) (turn rules batch units r.next r.lanes) + suc n ≤ turns_left rules d batch 0 (idle s count))
left_by rules IsFit means d batch units count s n r true h u e = inl (turn_stays rules batch units r.next r.lanes e)
left_by {S = S} {Q = Q} {R = R} {A = A} rules IsFit means d batch units count s n r false h u e = inr (by h.left)
  where
    lower : turns_left rules d batch (next_lane count r.next) (turn rules batch units r.next r.lanes) < turns_left rules d batch r.next r.lanes
    lower = subst (λ m. turns_left rules d batch (next_lane m r.next) (turn rules batch units r.next r.lanes) < turns_left rules d batch r.next r.lanes) h.length_is
        (turns_lower rules d batch units r.next r.lanes (under_way rules IsFit means d batch s r.lanes h.keeps h.near) u (subst (λ m. r.next < m) (sym h.length_is) h.place) e)

    by : (is_answered batch r.lanes ≡ true) ⊎ (turns_left rules d batch r.next r.lanes + n ≤ turns_left rules d batch 0 (idle s count)) → turns_left rules d batch (next_lane count r.next) (turn rules batch units r.next r.lanes) + suc n ≤ turns_left rules d batch 0 (idle s count)
    by (inl f) = absurd (true≢false (sym f ∙ e))
    by (inr f) = sum (turns_left rules d batch (next_lane count r.next) (turn rules batch units r.next r.lanes)) (turns_left rules d batch r.next r.lanes) n (turns_left rules d batch 0 (idle s count)) lower f
      where
        sum : (a b n t : ℕ) → a < b → b + n ≤ t → a + suc n ≤ t
        sum a b n t h g = omega (arith, h, g)

reached : {S Q R A : Type 0} (rules : Rules S Q R A) (IsFit : S → Type 0) (IsAsked : Q → Type 0) (means : Meaning S Q A) (d : Distances rules) (batch : List Q) (units count : ℕ) (s : S) (n : ℕ) → Fits rules IsFit IsAsked means → OfEach IsAsked batch → IsFit s
    → 0 < units → 0 < count → HasCome rules IsFit means d batch count s n (after_turns rules batch units count s n)
reached rules IsFit IsAsked means d batch units count s zero local asked fit u c = record {
  keeps = idle_keeps rules IsFit means batch s count fit;
  near = λ k b e. absurd (idle_lane count k b e);
  length_is = replicate_length count None;
  place = c;
  left = inr (omega arith);
}
reached rules IsFit IsAsked means d batch units count s (suc n) local asked fit u c =
    let r = after_turns rules batch units count s n in
    let h = reached rules IsFit IsAsked means d batch units count s n local asked fit u c in
    let known = under_way rules IsFit means d batch s r.lanes h.keeps h.near in
    let place = subst (λ m. r.next < m) (sym h.length_is) h.place in
    record {
      keeps = turn_keeps rules IsFit IsAsked means batch s units r.next r.lanes local asked h.keeps;
      near = turn_near rules d batch units r.next r.lanes known u place;
      length_is = turn_length rules d batch units r.next r.lanes known u place ∙ h.length_is;
      place = next_below count r.next c;
      left = left_by rules IsFit means d batch units count s n r (is_answered batch r.lanes) h u refl;
    }

-- from a fit store
pub batch_ends : {S Q R A : Type 0} (rules : Rules S Q R A) (IsFit : S → Type 0) (IsAsked : Q → Type 0) (means : Meaning S Q A) (d : Distances rules) (batch : List Q) (units count : ℕ) (s : S) → Fits rules IsFit IsAsked means → OfEach IsAsked batch → IsFit s
    → 0 < units → 0 < count → IsAnsweredIn rules means batch units count s (turns_left rules d batch 0 (idle s count)) × IsFit (after_turns rules batch units count s (turns_left rules d batch 0 (idle s count))).lanes.store
batch_ends {S = S} {Q = Q} {R = R} {A = A} rules IsFit IsAsked means d batch units count s local asked fit u c = (record { all = by (is_answered batch r.lanes) refl h.left; serializable = h.keeps.serial }, h.keeps.fit)
  where
    most : ℕ
    most = turns_left rules d batch 0 (idle s count)

    r : Round S Q R A
    r = after_turns rules batch units count s most

    h : HasCome rules IsFit means d batch count s most r
    h = reached rules IsFit IsAsked means d batch units count s most local asked fit u c

    lower : is_answered batch r.lanes ≡ false → turns_left rules d batch (next_lane (length r.lanes.lanes) r.next) (turn rules batch units r.next r.lanes) < turns_left rules d batch r.next r.lanes
    lower e = turns_lower rules d batch units r.next r.lanes (under_way rules IsFit means d batch s r.lanes h.keeps h.near) u (subst (λ m. r.next < m) (sym h.length_is) h.place) e

    none : (a b t : ℕ) → a < b → b + t ≤ t → ⊥
    none a b t f g = omega (arith, f, g)

    by : (b : Bool) → is_answered batch r.lanes ≡ b → (is_answered batch r.lanes ≡ true) ⊎ (turns_left rules d batch r.next r.lanes + most ≤ most) → is_answered batch r.lanes ≡ true
    by true e x = e
    by false e (inl f) = f
    by false e (inr f) = absurd (none _ _ most (lower e) f)

pub batches_end : {S Q R A : Type 0} (rules : Rules S Q R A) (d : Distances rules) (batch : List Q) (units count : ℕ) (s : S) → AreLocal rules batch s → 0 < units → 0 < count
    → IsAnsweredIn rules (RunsAlone rules) batch units count s (turns_left rules d batch 0 (idle s count))
batches_end rules d batch units count s local u c =
    (batch_ends rules (IsReached rules batch s) (IsOf batch) (RunsAlone rules) d batch units count s (local_fits rules batch s local) (each_of batch) (first_reached rules batch s) u c).0

-- What is answered changes no more.

turns_keep : {S Q R A : Type 0} (rules : Rules S Q R A) (IsFit : S → Type 0) (IsAsked : Q → Type 0) (means : Meaning S Q A) (batch : List Q) (units count : ℕ) (s : S) (n : ℕ) → Fits rules IsFit IsAsked means → OfEach IsAsked batch → IsFit s
    → Keeps rules IsFit means batch s (after_turns rules batch units count s n).lanes
turns_keep rules IsFit IsAsked means batch units count s zero local asked fit = idle_keeps rules IsFit means batch s count fit
turns_keep rules IsFit IsAsked means batch units count s (suc n) local asked fit =
    let r = after_turns rules batch units count s n in
    turn_keeps rules IsFit IsAsked means batch s units r.next r.lanes local asked (turns_keep rules IsFit IsAsked means batch units count s n local asked fit)

done_at : {S Q A : Type 0} (n i : ℕ) (qs : List Q) (q : Q) (ds : List (Done S A)) → are_done_from n qs ds ≡ true → slice_get qs i ≡ Some q → is_done (n + i) ds ≡ true
done_at n i [] q ds h e = absurd (none_is_some e)
done_at n zero (p ∷ qs) q ds h e = ap (λ m. is_done m ds) (let same : n + 0 ≡ n = omega arith in same) ∙ (both_true (is_done n ds) (are_done_from (suc n) qs ds) h).0
done_at n (suc i) (p ∷ qs) q ds h e =
    ap (λ m. is_done m ds) (let same : n + suc i ≡ suc n + i = omega arith in same) ∙ done_at (suc n) i qs q ds (both_true (is_done n ds) (are_done_from (suc n) qs ds) h).1 e

none_starts : {S Q R A : Type 0} (rules : Rules S Q R A) (batch : List Q) (l : Lanes S Q R A) (n : ℕ) (qs : List Q) → are_done_from n qs l.done ≡ true → first_start rules batch l n qs ≡ None
none_starts rules batch l n [] h = refl
none_starts rules batch l n (q ∷ qs) h =
    let two = both_true (is_done n l.done) (are_done_from (suc n) qs l.done) h in
    ap (λ b. if not b && (not (is_held n l.lanes) && are_earlier_done rules q n 0 batch l.done) then Some n else first_start rules batch l (suc n) qs) two.0 ∙ none_starts rules batch l (suc n) qs two.1

still_by : {S Q R A : Type 0} (rules : Rules S Q R A) (batch : List Q) (units k : ℕ) (l : Lanes S Q R A) (x : Option (Option (Busy Q R))) → slice_get l.lanes k ≡ x → ((b : Busy Q R) → slice_get l.lanes k ≡ Some (Some b) → ⊥)
    → step rules batch (step rules batch l (slice k units)) (commit k) ≡ l
still_by rules batch units k l None e free = ap (λ x. step rules batch (runs rules k units x l) (commit k)) e ∙ ap (λ x. commits rules k x l) e
still_by rules batch units k l (Some None) e free = ap (λ x. step rules batch (runs rules k units x l) (commit k)) e ∙ ap (λ x. commits rules k x l) e
still_by rules batch units k l (Some (Some b)) e free = absurd (free b e)

answered_still : {S Q R A : Type 0} (rules : Rules S Q R A) (IsFit : S → Type 0) (means : Meaning S Q A) (batch : List Q) (s : S) (units k : ℕ) (l : Lanes S Q R A) → Keeps rules IsFit means batch s l → is_answered batch l ≡ true → turn rules batch units k l ≡ l
answered_still rules IsFit means batch s units k l h all =
    ap (λ o. step rules batch (step rules batch (started rules batch k o l) (slice k units)) (commit k)) (none_starts rules batch l 0 batch all)
    ∙ still_by rules batch units k l (slice_get l.lanes k) refl (λ b e. let t = h.stand k b e in
    true≢false (sym (done_at 0 b.number batch b.request l.done all t.request) ∙ ap (λ n. is_done n l.done) (let same : 0 + b.number ≡ b.number = omega arith in same) ∙ t.unanswered))

pub answered_batches_stay : {S Q R A : Type 0} (rules : Rules S Q R A) (batch : List Q) (units count : ℕ) (s : S) (turns more : ℕ) → AreLocal rules batch s → is_answered batch (after_turns rules batch units count s turns).lanes ≡ true
    → (after_turns rules batch units count s (turns + more)).lanes ≡ (after_turns rules batch units count s turns).lanes
answered_batches_stay rules batch units count s turns zero local all = ap (λ n. (after_turns rules batch units count s n).lanes) (let same : turns + 0 ≡ turns = omega arith in same)
answered_batches_stay rules batch units count s turns (suc more) local all =
    let r = after_turns rules batch units count s (turns + more) in
    let ih = answered_batches_stay rules batch units count s turns more local all in
    let keeps = turns_keep rules (IsReached rules batch s) (IsOf batch) (RunsAlone rules) batch units count s turns (local_fits rules batch s local) (each_of batch) (first_reached rules batch s) in
    ap (λ n. (after_turns rules batch units count s n).lanes) (let same : turns + suc more ≡ suc (turns + more) = omega arith in same)
    ∙ ap (turn rules batch units r.next) ih
    ∙ answered_still rules (IsReached rules batch s) (RunsAlone rules) batch s units r.next (after_turns rules batch units count s turns).lanes keeps all
