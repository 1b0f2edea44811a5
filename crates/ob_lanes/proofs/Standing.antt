-- The code's turn makes the events of the schedule.
use Rattle.std.proofs.Common.{◌≡◌, ℕ, zero, suc, ◌+◌, ◌<◌, ◌⊎◌, inl, inr, Bool, true, false, not, ◌&&◌, ◌||◌, List, [], ◌∷◌, map, length, Option, Some, None, refl, sym, ap, ◌∙◌, subst, arith}
use Rattle.std.specs.Prelude.{nat_eq, bytes_eq, slice_get, slice_set, slice_index_or, option_map, if◌then◌else◌}
use Rattle.std.specs.Option.{unwrap_or}
use Rattle.ob_heap.specs.Contents.{Stored}
use Rattle.ob_invocation_spec.specs.Requests.{Request}
use Rattle.ob_code.specs.declared.image.Image.{Image}
use Rattle.ob_request_run_laws.specs.Runs as plain
use Rattle.ob_wire.specs.Meanings.{request_of}
use Rattle.ob_exec.specs.declared.runs.SliceOutcome.{SliceOutcome}
use Rattle.ob_lanes_laws.specs.Schedule.{is_done, with_lane, slice, step, starts, runs, sliced}
use Rattle.ob_lanes_laws.specs.Schedule as schedule
use Rattle.ob_lanes_laws.specs.Requests.{has_ended}
use Rattle.ob_lanes_laws.specs.Turns.{first_start, started, turned}
use Rattle.ob_lanes_laws.proofs.Keeping.{none_is_some, some_same, set_cases}
use Rattle.ob_lanes.specs.Starting.{is_held, are_earlier_done, may_start, first_from, opened_busy, begun_with, begun}
use Rattle.ob_lanes.specs.Standing.{Fits, rules_on, BusyLane, State, IsBusy, IsLane, AreLanes, requests_of, HaveOwnRequests, LanesRepresent, NoneHasEnded, OthersGoOn, is_going, MayRun, Ran, LaneTells, HadTurn}
use Rattle.ob_lanes.specs.declared.batch.Busy.{Busy}
use Rattle.ob_lanes.specs.declared.batch.BatchRequest.{BatchRequest}
use Rattle.ob_lanes.proofs.Own.{own_opened, own_sliced}

-- Lists.

pub get_map : {A B : Type 0} (f : A → B) (xs : List A) (k : ℕ) → slice_get (map f xs) k ≡ option_map f (slice_get xs k)
get_map f [] k = refl
get_map f (x ∷ xs) zero = refl
get_map f (x ∷ xs) (suc k) = get_map f xs k

pub set_same : {A : Type 0} (xs : List A) (k : ℕ) (x : A) → slice_get xs k ≡ Some x → slice_set xs k x ≡ xs
set_same [] k x e = refl
set_same (y ∷ ys) zero x e = ap (λ z. z ∷ ys) (sym (some_same y x e))
set_same (y ∷ ys) (suc k) x e = ap (λ l. y ∷ l) (set_same ys k x e)

pub set_get : {A : Type 0} (xs : List A) (k : ℕ) (x z : A) → slice_get xs k ≡ Some z → slice_get (slice_set xs k x) k ≡ Some x
set_get [] k x z e = absurd (none_is_some e)
set_get (y ∷ ys) zero x z e = refl
set_get (y ∷ ys) (suc k) x z e = set_get ys k x z e

pub index_get : {A : Type 0} (xs : List A) (k : ℕ) (x : A) → slice_index_or xs k x ≡ unwrap_or (slice_get xs k) x
index_get [] k x = refl
index_get (y ∷ ys) zero x = refl
index_get (y ∷ ys) (suc k) x = index_get ys k x

-- Lanes in pairs.

-- the lanes of a number, of the code and of the schedule
pub data Pair (image : Image) (fuel : ℕ) (base : Stored) (entries : List BatchRequest) (x : Option (Option Busy)) (y : Option (Option BusyLane)) : Type 0 where
  beyond : x ≡ None → y ≡ None → Pair image fuel base entries x y
  within : (b : Option Busy) (s : Option BusyLane) → x ≡ Some b → y ≡ Some s → IsLane image fuel base entries b s → Pair image fuel base entries x y

pub pair_at : (image : Image) (fuel : ℕ) (base : Stored) (entries : List BatchRequest) (bs : List (Option Busy)) (ss : List (Option BusyLane)) (k : ℕ) → AreLanes image fuel base entries bs ss
    → Pair image fuel base entries (slice_get bs k) (slice_get ss k)
pair_at image fuel base entries [] [] k h = beyond refl refl
pair_at image fuel base entries [] (s ∷ ss) k h = absurd h
pair_at image fuel base entries (b ∷ bs) [] k h = absurd h
pair_at image fuel base entries (b ∷ bs) (s ∷ ss) zero h = within b s refl refl h.0
pair_at image fuel base entries (b ∷ bs) (s ∷ ss) (suc k) h = pair_at image fuel base entries bs ss k h.1

pub pair_set : (image : Image) (fuel : ℕ) (base : Stored) (entries : List BatchRequest) (bs : List (Option Busy)) (ss : List (Option BusyLane)) (k : ℕ) (b : Option Busy) (s : Option BusyLane) → AreLanes image fuel base entries bs ss
    → IsLane image fuel base entries b s → AreLanes image fuel base entries (slice_set bs k b) (slice_set ss k s)
pair_set image fuel base entries [] [] k b s h g = tt
pair_set image fuel base entries [] (y ∷ ss) k b s h g = absurd h
pair_set image fuel base entries (x ∷ bs) [] k b s h g = absurd h
pair_set image fuel base entries (x ∷ bs) (y ∷ ss) zero b s h g = (g, h.1)
pair_set image fuel base entries (x ∷ bs) (y ∷ ss) (suc k) b s h g = (h.0, pair_set image fuel base entries bs ss k b s h.1 g)

pub pair_length : (image : Image) (fuel : ℕ) (base : Stored) (entries : List BatchRequest) (bs : List (Option Busy)) (ss : List (Option BusyLane)) → AreLanes image fuel base entries bs ss → length bs ≡ length ss
pair_length image fuel base entries [] [] h = refl
pair_length image fuel base entries [] (s ∷ ss) h = absurd h
pair_length image fuel base entries (b ∷ bs) [] h = absurd h
pair_length image fuel base entries (b ∷ bs) (s ∷ ss) h = ap suc (pair_length image fuel base entries bs ss h.1)

-- Which request may start.

held_same : (image : Image) (fuel : ℕ) (base : Stored) (entries : List BatchRequest) (n : ℕ) (bs : List (Option Busy)) (ss : List (Option BusyLane)) → AreLanes image fuel base entries bs ss → is_held n bs ≡ schedule.is_held n ss
held_same image fuel base entries n [] [] h = refl
held_same image fuel base entries n [] (s ∷ ss) h = absurd h
held_same image fuel base entries n (b ∷ bs) [] h = absurd h
held_same image fuel base entries n (None ∷ bs) (None ∷ ss) h = held_same image fuel base entries n bs ss h.1
held_same image fuel base entries n (None ∷ bs) (Some s ∷ ss) h = absurd h.0
held_same image fuel base entries n (Some b ∷ bs) (None ∷ ss) h = absurd h.0
held_same image fuel base entries n (Some b ∷ bs) (Some s ∷ ss) h =
    ap (λ m. nat_eq n m || is_held n bs) h.0.number ∙ ap (λ c. nat_eq n s.number || c) (held_same image fuel base entries n bs ss h.1)

-- entries from a number on, and what is answered
abbrev IsTold : ℕ → List BatchRequest → (ℕ → Bool) → Type 0
IsTold k entries done = (i : ℕ) (e : BatchRequest) → slice_get entries i ≡ Some e → done (k + i) ≡ e.is_done

told_head : (k : ℕ) (e : BatchRequest) (es : List BatchRequest) (done : ℕ → Bool) → IsTold k (e ∷ es) done → done k ≡ e.is_done
told_head k e es done h = ap done (omega arith) ∙ h zero e refl

told_tail : (k : ℕ) (e : BatchRequest) (es : List BatchRequest) (done : ℕ → Bool) → IsTold k (e ∷ es) done → IsTold (suc k) es done
told_tail k e es done h = λ i x f. ap done (omega arith) ∙ h (suc i) x f

earlier_same : (fits : Fits) (image : Image) (fuel : ℕ) (q : Request) (n k : ℕ) (entries : List BatchRequest) (l : State) → IsTold k entries (λ i. is_done i l.done)
    → are_earlier_done q.who n k entries ≡ schedule.are_earlier_done (rules_on fits image fuel) q n k (requests_of entries) l.done
earlier_same fits image fuel q n k [] l h = refl
earlier_same fits image fuel q n k (e ∷ es) l h =
    ap (λ d. nat_eq n k || ((not (bytes_eq e.request.who q.who) || d) && are_earlier_done q.who n (suc k) es)) (sym (told_head k e es (λ i. is_done i l.done) h))
    ∙ ap (λ c. nat_eq n k || ((not (bytes_eq e.request.who q.who) || is_done k l.done) && c)) (earlier_same fits image fuel q n (suc k) es l (told_tail k e es (λ i. is_done i l.done) h))

told_all : (image : Image) (fuel : ℕ) (base : Stored) (entries : List BatchRequest) (lanes : List (Option Busy)) (l : State) → LanesRepresent image fuel base entries lanes l → IsTold 0 entries (λ i. is_done i l.done)
told_all image fuel base entries lanes l h = λ i e f. ap (λ m. is_done m l.done) (omega arith) ∙ h.done i e f

may_same : (fits : Fits) (image : Image) (fuel : ℕ) (base : Stored) (entries : List BatchRequest) (lanes : List (Option Busy)) (l : State) (n : ℕ) (e : BatchRequest) → LanesRepresent image fuel base entries lanes l → is_done n l.done ≡ e.is_done
    → may_start entries lanes n e ≡ schedule.may_start (rules_on fits image fuel) (requests_of entries) n (request_of e.request) l
may_same fits image fuel base entries lanes l n e h d =
    ap (λ x. not x && (not (is_held n lanes) && are_earlier_done e.request.who n 0 entries)) (sym d)
    ∙ ap (λ x. not (is_done n l.done) && (not x && are_earlier_done e.request.who n 0 entries)) (held_same image fuel base entries n lanes l.lanes h.each)
    ∙ ap (λ x. not (is_done n l.done) && (not (schedule.is_held n l.lanes) && x)) (earlier_same fits image fuel (request_of e.request) n 0 entries l (told_all image fuel base entries lanes l h))

first_by : (fits : Fits) (image : Image) (fuel : ℕ) (base : Stored) (entries : List BatchRequest) (lanes : List (Option Busy)) (l : State) (k : ℕ) (es : List BatchRequest) → LanesRepresent image fuel base entries lanes l → IsTold k es (λ i. is_done i l.done)
    → first_from entries lanes k es ≡ first_start (rules_on fits image fuel) (requests_of entries) l k (requests_of es)
first_by fits image fuel base entries lanes l k [] h t = refl
first_by fits image fuel base entries lanes l k (e ∷ es) h t =
    ap (λ b. if b then Some k else first_from entries lanes (suc k) es) (may_same fits image fuel base entries lanes l k e h (told_head k e es (λ i. is_done i l.done) t))
    ∙ ap (λ o. if schedule.may_start (rules_on fits image fuel) (requests_of entries) k (request_of e.request) l then Some k else o) (first_by fits image fuel base entries lanes l (suc k) es h (told_tail k e es (λ i. is_done i l.done) t))

pub first_same : (fits : Fits) (image : Image) (fuel : ℕ) (base : Stored) (entries : List BatchRequest) (lanes : List (Option Busy)) (l : State) → LanesRepresent image fuel base entries lanes l
    → first_from entries lanes 0 entries ≡ first_start (rules_on fits image fuel) (requests_of entries) l 0 (requests_of entries)
first_same fits image fuel base entries lanes l h = first_by fits image fuel base entries lanes l 0 entries h (told_all image fuel base entries lanes l h)

-- The start.

-- the first request that may start is one of these, and it may
record Startable (fits : Fits) (image : Image) (fuel : ℕ) (batch : List Request) (l : State) (n : ℕ) : Type 0 where
  request : Request
  is : slice_get batch n ≡ Some request
  may : schedule.may_start (rules_on fits image fuel) batch n request l ≡ true

startable : (fits : Fits) (image : Image) (fuel : ℕ) (batch : List Request) (l : State) (k n : ℕ) (qs : List Request) → ((i : ℕ) → slice_get batch (k + i) ≡ slice_get qs i)
    → first_start (rules_on fits image fuel) batch l k qs ≡ Some n → Startable fits image fuel batch l n
startable fits image fuel batch l k n [] h e = absurd (none_is_some e)
startable fits image fuel batch l k n (q ∷ qs) h e =
    by (schedule.may_start (rules_on fits image fuel) batch k q l) refl e (startable fits image fuel batch l (suc k) n qs (λ i. ap (slice_get batch) (omega arith) ∙ h (suc i)))
  where
    by : (b : Bool) → schedule.may_start (rules_on fits image fuel) batch k q l ≡ b → (if b then Some k else first_start (rules_on fits image fuel) batch l (suc k) qs) ≡ Some n
        → (first_start (rules_on fits image fuel) batch l (suc k) qs ≡ Some n → Startable fits image fuel batch l n) → Startable fits image fuel batch l n
    by true m f ih = subst (Startable fits image fuel batch l) (some_same k n f) (record { request = q; is = ap (slice_get batch) (omega arith) ∙ h zero; may = m })
    by false m f ih = ih f

-- the entry of a request
pub entry_of : (entries : List BatchRequest) (n : ℕ) (q : Request) → slice_get (requests_of entries) n ≡ Some q → (e : BatchRequest) × (slice_get entries n ≡ Some e) × (q ≡ request_of e.request)
entry_of entries n q f = by (slice_get entries n) refl
  where
    by : (x : Option BatchRequest) → slice_get entries n ≡ x → (e : BatchRequest) × (slice_get entries n ≡ Some e) × (q ≡ request_of e.request)
    by None g = absurd (none_is_some (sym (get_map (λ (e : BatchRequest). request_of e.request) entries n ∙ ap (option_map (λ (e : BatchRequest). request_of e.request)) g) ∙ f))
    by (Some e) g = (e, g, some_same q (request_of e.request) (sym f ∙ get_map (λ (e : BatchRequest). request_of e.request) entries n ∙ ap (option_map (λ (e : BatchRequest). request_of e.request)) g))

opened_is : (image : Image) (fuel : ℕ) (base : Stored) (entries : List BatchRequest) (n : ℕ) (q : Request) → slice_get (requests_of entries) n ≡ Some q
    → (fits : Fits) → IsBusy image fuel base entries (opened_busy n) (schedule.opened (rules_on fits image fuel) n q)
opened_is image fuel base entries n q f fits =
    let e = entry_of entries n q f in
    record { number = refl; entry = e.0; entry_is = e.1; request = e.2; run = ap plain.opened e.2; holds = tt }

-- another lane in the place of one
with_pair : (image : Image) (fuel : ℕ) (base : Stored) (entries : List BatchRequest) (lanes : List (Option Busy)) (l : State) (k : ℕ) (b : Option Busy) (s : Option BusyLane) → LanesRepresent image fuel base entries lanes l → IsLane image fuel base entries b s
    → HaveOwnRequests (with_lane k s l) → LanesRepresent image fuel base entries (slice_set lanes k b) (with_lane k s l)
with_pair image fuel base entries lanes l k b s h g own = record { store = h.store; done = h.done; each = pair_set image fuel base entries lanes l.lanes k b s h.each g; own = own }

begin_at : (fits : Fits) (image : Image) (fuel : ℕ) (base : Stored) (entries : List BatchRequest) (lanes : List (Option Busy)) (l : State) (k n : ℕ) (b : Option Busy) (s : Option BusyLane) → LanesRepresent image fuel base entries lanes l
    → (st : Startable fits image fuel (requests_of entries) l n) → IsLane image fuel base entries b s
    → LanesRepresent image fuel base entries (begun_with k (Some n) (Some b) lanes) (starts (rules_on fits image fuel) (requests_of entries) k n (Some st.request) (Some s) l)
begin_at fits image fuel base entries lanes l k n None None h st g =
    subst (λ m. LanesRepresent image fuel base entries (slice_set lanes k (Some (opened_busy n))) (if m then with_lane k (Some (schedule.opened (rules_on fits image fuel) n st.request)) l else l)) (sym st.may)
    (with_pair image fuel base entries lanes l k (Some (opened_busy n)) (Some (schedule.opened (rules_on fits image fuel) n st.request)) h (opened_is image fuel base entries n st.request st.is fits)
    (own_opened fits image fuel (requests_of entries) l k n st.request st.may h.own))
begin_at fits image fuel base entries lanes l k n None (Some s) h st g = absurd g
begin_at fits image fuel base entries lanes l k n (Some b) None h st g = absurd g
begin_at fits image fuel base entries lanes l k n (Some b) (Some s) h st g = h

begin_by : (fits : Fits) (image : Image) (fuel : ℕ) (base : Stored) (entries : List BatchRequest) (lanes : List (Option Busy)) (l : State) (k n : ℕ) → LanesRepresent image fuel base entries lanes l
    → (st : Startable fits image fuel (requests_of entries) l n) → Pair image fuel base entries (slice_get lanes k) (slice_get l.lanes k)
    → LanesRepresent image fuel base entries (begun_with k (Some n) (slice_get lanes k) lanes) (starts (rules_on fits image fuel) (requests_of entries) k n (Some st.request) (slice_get l.lanes k) l)
begin_by fits image fuel base entries lanes l k n h st (beyond e f) =
    subst (λ x. LanesRepresent image fuel base entries (begun_with k (Some n) x lanes) (starts (rules_on fits image fuel) (requests_of entries) k n (Some st.request) (slice_get l.lanes k) l)) (sym e)
    (subst (λ y. LanesRepresent image fuel base entries lanes (starts (rules_on fits image fuel) (requests_of entries) k n (Some st.request) y l)) (sym f) h)
begin_by fits image fuel base entries lanes l k n h st (within b s e f g) =
    subst (λ x. LanesRepresent image fuel base entries (begun_with k (Some n) x lanes) (starts (rules_on fits image fuel) (requests_of entries) k n (Some st.request) (slice_get l.lanes k) l)) (sym e)
    (subst (λ y. LanesRepresent image fuel base entries (begun_with k (Some n) (Some b) lanes) (starts (rules_on fits image fuel) (requests_of entries) k n (Some st.request) y l)) (sym f)
    (begin_at fits image fuel base entries lanes l k n b s h st g))

begin_with : (fits : Fits) (image : Image) (fuel : ℕ) (base : Stored) (entries : List BatchRequest) (lanes : List (Option Busy)) (l : State) (k : ℕ) (o : Option ℕ) → LanesRepresent image fuel base entries lanes l
    → first_start (rules_on fits image fuel) (requests_of entries) l 0 (requests_of entries) ≡ o
    → LanesRepresent image fuel base entries (begun_with k o (slice_get lanes k) lanes) (started (rules_on fits image fuel) (requests_of entries) k o l)
begin_with fits image fuel base entries lanes l k None h e = h
begin_with fits image fuel base entries lanes l k (Some n) h e =
    let st = startable fits image fuel (requests_of entries) l 0 n (requests_of entries) (λ i. ap (slice_get (requests_of entries)) (omega arith)) e in
    subst (λ q. LanesRepresent image fuel base entries (begun_with k (Some n) (slice_get lanes k) lanes) (starts (rules_on fits image fuel) (requests_of entries) k n q (slice_get l.lanes k) l)) (sym st.is)
    (begin_by fits image fuel base entries lanes l k n h st (pair_at image fuel base entries lanes l.lanes k h.each))

-- the schedule once an idle lane has started a request
abbrev pub begun_state : Fits → Image → ℕ → List BatchRequest → ℕ → State → State
begun_state fits image fuel entries k l =
    started (rules_on fits image fuel) (requests_of entries) k (first_start (rules_on fits image fuel) (requests_of entries) l 0 (requests_of entries)) l

pub begin_stands : (fits : Fits) (image : Image) (fuel : ℕ) (base : Stored) (entries : List BatchRequest) (lanes : List (Option Busy)) (l : State) (k : ℕ) → LanesRepresent image fuel base entries lanes l
    → LanesRepresent image fuel base entries (begun entries k lanes) (begun_state fits image fuel entries k l)
begin_stands fits image fuel base entries lanes l k h =
    subst (λ o. LanesRepresent image fuel base entries (begun_with k o (slice_get lanes k) lanes) (begun_state fits image fuel entries k l)) (sym (first_same fits image fuel base entries lanes l h))
    (begin_with fits image fuel base entries lanes l k (first_start (rules_on fits image fuel) (requests_of entries) l 0 (requests_of entries)) h refl)

-- No run has ended then.

with_going : (l : State) (k : ℕ) (s : BusyLane) → has_ended s.run ≡ false → NoneHasEnded l → NoneHasEnded (with_lane k (Some s) l)
with_going l k s e h = λ j b f. by j b (set_cases l.lanes k j (Some s) (Some b) f) (h j b)
  where
    by : (j : ℕ) (b : BusyLane) → ((j ≡ k) × (Some s ≡ Some b)) ⊎ (slice_get l.lanes j ≡ Some (Some b)) → (slice_get l.lanes j ≡ Some (Some b) → has_ended b.run ≡ false) → has_ended b.run ≡ false
    by j b (inl f) g = subst (λ (x : BusyLane). has_ended x.run ≡ false) (some_same s b f.1) e
    by j b (inr f) g = g f

starts_going : (fits : Fits) (image : Image) (fuel : ℕ) (batch : List Request) (l : State) (k n : ℕ) (q : Option Request) (y : Option (Option BusyLane)) → NoneHasEnded l → NoneHasEnded (starts (rules_on fits image fuel) batch k n q y l)
starts_going fits image fuel batch l k n None y h = h
starts_going fits image fuel batch l k n (Some q) None h = h
starts_going fits image fuel batch l k n (Some q) (Some (Some b)) h = h
starts_going fits image fuel batch l k n (Some q) (Some None) h = by (schedule.may_start (rules_on fits image fuel) batch n q l)
  where
    by : (m : Bool) → NoneHasEnded (if m then with_lane k (Some (schedule.opened (rules_on fits image fuel) n q)) l else l)
    by true = with_going l k (schedule.opened (rules_on fits image fuel) n q) refl h
    by false = h

pub begin_going : (fits : Fits) (image : Image) (fuel : ℕ) (entries : List BatchRequest) (l : State) (k : ℕ) → NoneHasEnded l → NoneHasEnded (begun_state fits image fuel entries k l)
begin_going fits image fuel entries l k h = by (first_start (rules_on fits image fuel) (requests_of entries) l 0 (requests_of entries))
  where
    by : (o : Option ℕ) → NoneHasEnded (started (rules_on fits image fuel) (requests_of entries) k o l)
    by None = h
    by (Some n) = starts_going fits image fuel (requests_of entries) l k n (slice_get (requests_of entries) n) (slice_get l.lanes k) h

-- The slice.

-- what a turn has led to, by the schedule with these rules
pub record HasTurned (fits : Fits) (image : Image) (fuel : ℕ) (base : Stored) (entries : List BatchRequest) (k : ℕ) (l : State) (lanes : List (Option Busy)) (outcome : SliceOutcome) : Type 0 where
  pub state : LanesRepresent image fuel base entries lanes l
  pub others : OthersGoOn k l
  pub tells : LaneTells base entries (slice_get l.lanes k) outcome

idle_ran : (fits : Fits) (image : Image) (fuel : ℕ) (base : Stored) (entries : List BatchRequest) (lanes : List (Option Busy)) (l : State) (units k : ℕ) (b : Option Busy) (outcome : SliceOutcome) → LanesRepresent image fuel base entries lanes l
    → NoneHasEnded l → slice_get l.lanes k ≡ Some None → Ran image fuel base entries units None b outcome → HasTurned fits image fuel base entries k l (slice_set lanes k b) outcome
idle_ran fits image fuel base entries lanes l units k b outcome h g e r = record {
  state = record {
    store = h.store;
    done = h.done;
    each = subst (λ ss. AreLanes image fuel base entries (slice_set lanes k b) ss) (set_same l.lanes k None e) (pair_set image fuel base entries lanes l.lanes k b None h.each r.is);
    own = h.own;
  };
  others = λ j d f n. g j d f;
  tells = subst (λ y. LaneTells base entries y outcome) (sym e) r.tells;
}

others_with : (l : State) (k : ℕ) (s : Option BusyLane) → NoneHasEnded l → OthersGoOn k (with_lane k s l)
others_with l k s g = λ j d f n. by j d (set_cases l.lanes k j s (Some d) f) n
  where
    by : (j : ℕ) (d : BusyLane) → ((j ≡ k) × (s ≡ Some d)) ⊎ (slice_get l.lanes j ≡ Some (Some d)) → ¬ (j ≡ k) → has_ended d.run ≡ false
    by j d (inl f) n = absurd (n f.0)
    by j d (inr f) n = g j d f

busy_ran : (fits : Fits) (image : Image) (fuel : ℕ) (base : Stored) (entries : List BatchRequest) (lanes : List (Option Busy)) (l : State) (units k : ℕ) (s : BusyLane) (b : Option Busy) (outcome : SliceOutcome) → LanesRepresent image fuel base entries lanes l
    → NoneHasEnded l → slice_get l.lanes k ≡ Some (Some s) → Ran image fuel base entries units (Some s) b outcome
    → HasTurned fits image fuel base entries k (with_lane k (Some (sliced (rules_on fits image fuel) l.store units s)) l) (slice_set lanes k b) outcome
busy_ran fits image fuel base entries lanes l units k s b outcome h g e r =
    let is = ap (λ c. Some (sliced (rules_on fits image fuel) c units s)) (sym h.store) in
    record {
      state = with_pair image fuel base entries lanes l k b (Some (sliced (rules_on fits image fuel) l.store units s)) h (subst (λ y. IsLane image fuel base entries b y) is r.is)
          (own_sliced l k s (sliced (rules_on fits image fuel) l.store units s) e refl h.own);
      others = others_with l k (Some (sliced (rules_on fits image fuel) l.store units s)) g;
      tells = subst (λ y. LaneTells base entries y outcome) (ap (λ y. Some y) is ∙ sym (set_get l.lanes k (Some (sliced (rules_on fits image fuel) l.store units s)) (Some s) e)) r.tells;
    }

ran_by : (fits : Fits) (image : Image) (fuel : ℕ) (base : Stored) (entries : List BatchRequest) (lanes : List (Option Busy)) (l : State) (units k : ℕ) (s : Option BusyLane) (b : Option Busy) (outcome : SliceOutcome) → LanesRepresent image fuel base entries lanes l
    → NoneHasEnded l → slice_get l.lanes k ≡ Some s → Ran image fuel base entries units s b outcome
    → HasTurned fits image fuel base entries k (runs (rules_on fits image fuel) k units (Some s) l) (slice_set lanes k b) outcome
ran_by fits image fuel base entries lanes l units k None b outcome h g e r = idle_ran fits image fuel base entries lanes l units k b outcome h g e r
ran_by fits image fuel base entries lanes l units k (Some s) b outcome h g e r =
    subst (λ x. HasTurned fits image fuel base entries k (if x then l else with_lane k (Some (sliced (rules_on fits image fuel) l.store units s)) l) (slice_set lanes k b) outcome) (sym (g k s e))
    (busy_ran fits image fuel base entries lanes l units k s b outcome h g e r)

ran_stands : (fits : Fits) (image : Image) (fuel : ℕ) (base : Stored) (entries : List BatchRequest) (lanes : List (Option Busy)) (l : State) (units k : ℕ) (s : Option BusyLane) (b : Option Busy) (outcome : SliceOutcome) → LanesRepresent image fuel base entries lanes l
    → NoneHasEnded l → slice_get l.lanes k ≡ Some s → Ran image fuel base entries units s b outcome
    → HasTurned fits image fuel base entries k (step (rules_on fits image fuel) (requests_of entries) l (slice k units)) (slice_set lanes k b) outcome
ran_stands fits image fuel base entries lanes l units k s b outcome h g e r =
    subst (λ y. HasTurned fits image fuel base entries k (runs (rules_on fits image fuel) k units y l) (slice_set lanes k b) outcome) (sym e) (ran_by fits image fuel base entries lanes l units k s b outcome h g e r)

-- The turn.

going_lane : (l : State) (k : ℕ) (s : Option BusyLane) → NoneHasEnded l → slice_get l.lanes k ≡ Some s → is_going s ≡ true
going_lane l k None h e = refl
going_lane l k (Some s) h e = ap not (h k s e)

pub set_length : {A : Type 0} (xs : List A) (k : ℕ) (x : A) → length (slice_set xs k x) ≡ length xs
set_length [] k x = refl
set_length (y ∷ ys) zero x = refl
set_length (y ∷ ys) (suc k) x = ap suc (set_length ys k x)

begun_length : (k : ℕ) (o : Option ℕ) (x : Option (Option Busy)) (lanes : List (Option Busy)) → length (begun_with k o x lanes) ≡ length lanes
begun_length k None x lanes = refl
begun_length k (Some n) None lanes = refl
begun_length k (Some n) (Some None) lanes = set_length lanes k (Some (opened_busy n))
begun_length k (Some n) (Some (Some b)) lanes = refl

pub begun_within : (entries : List BatchRequest) (k : ℕ) (lanes : List (Option Busy)) → k < length lanes → k < length (begun entries k lanes)
begun_within entries k lanes h = subst (λ n. k < n) (sym (begun_length k (first_from entries lanes 0 entries) (slice_get lanes k) lanes)) h

get_within : {A : Type 0} (xs : List A) (k : ℕ) → k < length xs → slice_get xs k ≡ None → ⊥
get_within [] k h e = absurd (omega (arith, h))
get_within (x ∷ xs) zero h e = none_is_some (sym e)
get_within (x ∷ xs) (suc k) h e = get_within xs k (omega (arith, h)) e

-- the lanes of a number, where there is one
pub record Both (image : Image) (fuel : ℕ) (base : Stored) (entries : List BatchRequest) (lanes : List (Option Busy)) (l : State) (k : ℕ) : Type 0 where
  pub lane : Option BusyLane
  pub lane_is : slice_get l.lanes k ≡ Some lane
  pub may : MayRun image fuel base entries (slice_index_or lanes k None) lane

pub both_at : (image : Image) (fuel : ℕ) (base : Stored) (entries : List BatchRequest) (lanes : List (Option Busy)) (l : State) (k : ℕ) → LanesRepresent image fuel base entries lanes l → NoneHasEnded l → k < length lanes
    → Both image fuel base entries lanes l k
both_at image fuel base entries lanes l k h g w = by (pair_at image fuel base entries lanes l.lanes k h.each)
  where
    by : Pair image fuel base entries (slice_get lanes k) (slice_get l.lanes k) → Both image fuel base entries lanes l k
    by (beyond e f) = absurd (get_within lanes k w e)
    by (within b s e f i) = record {
      lane = s;
      lane_is = f;
      may = record {
        is = subst (λ x. IsLane image fuel base entries x s) (sym (index_get lanes k None ∙ ap (λ o. unwrap_or o None) e)) i;
        going = going_lane l k s g f;
      };
    }

pub had_turn : (image : Image) (fuel : ℕ) (base : Stored) (entries : List BatchRequest) (units k : ℕ) (l : State) (old : List (Option Busy)) (b : Option Busy) (outcome : SliceOutcome) → LanesRepresent image fuel base entries old l → NoneHasEnded l → k < length old
    → ((s : Option BusyLane) → MayRun image fuel base entries (slice_index_or (begun entries k old) k None) s → Ran image fuel base entries units s b outcome)
    → HadTurn image fuel base entries units k l (slice_set (begun entries k old) k b) outcome
had_turn image fuel base entries units k l old b outcome h g w run = record { state = λ fits. (by fits).state; others = λ fits. (by fits).others; tells = λ fits. (by fits).tells }
  where
    by : (fits : Fits) → HasTurned fits image fuel base entries k (turned (rules_on fits image fuel) (requests_of entries) units k l) (slice_set (begun entries k old) k b) outcome
    by fits =
        let begun_stands = begin_stands fits image fuel base entries old l k h in
        let going = begin_going fits image fuel entries l k g in
        let both = both_at image fuel base entries (begun entries k old) (begun_state fits image fuel entries k l) k begun_stands going (begun_within entries k old w) in
        ran_stands fits image fuel base entries (begun entries k old) (begun_state fits image fuel entries k l) units k both.lane b outcome begun_stands going both.lane_is (run both.lane both.may)
