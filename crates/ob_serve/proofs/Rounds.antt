-- The schedule of a batch, turn after turn: its items so far, the store, and that its turns end.
use Rattle.std.proofs.Common.{◌≡◌, ◌⊎◌, inl, inr, ℕ, ℤ, zero, suc, ◌+◌, ◌-◌, ◌*◌, ◌≤◌, Bool, true, false, List, [], ◌∷◌, ◌++◌, length, map, reverse, replicate, Option, None, Some, refl, sym, ◌∙◌, ap, subst, arith, true≢false}
use Rattle.std.specs.Prelude.{Result, Ok, Err, slice_get, option_map, if◌then◌else◌}
use Rattle.std.proofs.lemmas.List.{map-append, reverse-append, length-replicate}
use Rattle.std.proofs.lemmas.List.Concat.{flat_map-append}
use Rattle.std.proofs.lemmas.Option.{slice_get-map}
use Rattle.ob_invocation_spec.specs.Replies as told
use Rattle.ob_invocation_spec.specs.Requests as asked
use Rattle.ob_invocation_spec.specs.Requests.{HasLabels}
use Rattle.ob_lanes_laws.specs.Laws.{IsAtRestIn}
use Rattle.ob_lanes_laws.proofs.Distance.{request_distances, request_most}
use Rattle.ob_lanes_laws.proofs.Ending.{turn_keeps, batch_ends, answered_batches_stay}
use Rattle.ob_lanes_laws.proofs.Keeping.{Fits, Keeps, idle_keeps}
use Rattle.ob_lanes_laws.proofs.Requests.{requests_fit}
use Rattle.ob_lanes_laws.proofs.Rounds.{true_most, length_map, round_length}
use Rattle.ob_lanes_laws.specs.Measures.{Distances, count_open, weights, does, round_from, idle_turns, most_until, turns_left, may_one}
use Rattle.ob_lanes_laws.specs.Requests.{Stores, Answer, replied, lacks_room, went_wrong, answer_by, store_by, IsInvoked, has_ended, commit, answer}
use Rattle.ob_lanes_laws.specs.Schedule.{Rules, Busy, Done, Lanes, committed, commits, idle}
use Rattle.ob_lanes_laws.specs.Serial.{Meaning, AreSerial, store_after, RunsAlone, AreLocal}
use Rattle.ob_lanes_laws.specs.Turns.{is_answered}
use Rattle.ob_request_run_laws.specs.Runs.{Run}
use Rattle.ob_store_spec.specs.Settling.{settled}
use Rattle.ob_store_spec.specs.Stores.{StoreProgram, StoreState}
use Rattle.ob_store.specs.Stores.{program_of}
use Rattle.ob_wire.specs.Meanings.{request_of, answer_of}
use Rattle.ob_wire.specs.declared.reply.Answer.TheVariants.{Abort}
use Rattle.ob_wire.specs.declared.reply.Cause.TheVariants.{Room}
use Rattle.ob_wire.specs.declared.request.Request.{Request}
use Rattle.ob_serve.specs.Batches.{session_stores, batch_rules, answered_numbers}
use Rattle.ob_serve.specs.Items.{Service, by_machine, settled_item, invoked_item, request_item, request_items, request_at, in_order}
use Rattle.ob_serve.specs.Session.{SessionItem, state_after}
use Rattle.ob_serve.specs.Turning.{BatchOn, asked_in, round_after, round_turned, items_after, all_items, turns_of, CanBeAnswered}
use Rattle.ob_serve.proofs.Growing.{turned_still, turns_grow}
use Rattle.ob_serve.proofs.Sessions.{state_after-append}

-- ---- requests one after another

pub request_items-append : (service : Service) (s : StoreState) (xs ys : List Request) → request_items service s (xs ++ ys) ≡ request_items service s xs ++ request_items service (state_after s (request_items service s xs)) ys
request_items-append service s [] ys = refl
request_items-append service s (x ∷ xs) ys = ap (λ is. request_item service s x ∷ is) (request_items-append service (request_item service s x).after xs ys)

abbrev pub DoneHere : Type 0
DoneHere = Done StoreState (Answer (ℕ × ℕ))

numbers-append : (more ds : List DoneHere) → answered_numbers (more ++ ds) ≡ answered_numbers ds ++ answered_numbers more
numbers-append more ds =
    ap reverse (map-append (λ (d : DoneHere). d.number) more ds) ∙ reverse-append (map (λ (d : DoneHere). d.number) more) (map (λ (d : DoneHere). d.number) ds)

-- the items of what was done, and of more
pub items_grow : (service : Service) (s : StoreState) (batch : List Request) (more ds : List DoneHere)
    → request_items service s (in_order batch (answered_numbers (more ++ ds)))
    ≡ request_items service s (in_order batch (answered_numbers ds)) ++ request_items service (state_after s (request_items service s (in_order batch (answered_numbers ds)))) (in_order batch (answered_numbers more))
items_grow service s batch more ds =
    ap (λ order. request_items service s (in_order batch order)) (numbers-append more ds)
    ∙ ap (request_items service s) (flat_map-append (request_at batch) (answered_numbers ds) (answered_numbers more))
    ∙ request_items-append service s (in_order batch (answered_numbers ds)) (in_order batch (answered_numbers more))

-- ---- items by their answers

-- the item of a request of this id that was answered so on a store, by which that became another
abbrev pub done_item : ℤ → Answer (ℕ × ℕ) → StoreState → SessionItem StoreState
done_item id (replied reply) after = record { reply = Some (record { id = Some id; answer = answer_of reply }); after = after }
done_item id (lacks_room lack) after = record { reply = Some (record { id = Some id; answer = Abort (Room lack.0 lack.1) }); after = after }
done_item id went_wrong after = record { reply = None; after = after }

settled_done : (s : StoreState) (id : ℤ) (reply : told.Reply) (r : Result StoreState (ℕ × ℕ)) → settled_item id (answer_of reply) s r ≡ done_item id (answer_by reply r) (store_by s r)
settled_done s id reply (Ok t) = refl
settled_done s id reply (Err lack) = refl

pub found_of : (o : Option Request) (q : asked.Request) → option_map request_of o ≡ Some q → (r : Request) × (o ≡ Some r) × (request_of r ≡ q)
found_of None q is = absurd cc
found_of (Some r) q is = (r, refl, cc)

module _ (b : BatchOn) where
  abbrev pub program : StoreProgram
  program = program_of b.code

  abbrev pub stores : Stores StoreState (ℕ × ℕ)
  stores = session_stores (program_of b.code) b.area

  abbrev pub rules : Rules StoreState asked.Request Run (Answer (ℕ × ℕ))
  rules = batch_rules (program_of b.code) b.code b.limits b.area

  abbrev pub means : Meaning StoreState asked.Request (Answer (ℕ × ℕ))
  means = IsInvoked stores b.code b.limits.fuel

  abbrev pub machine : Service
  machine = by_machine b.code b.limits b.area

  -- an answer of the schedule is an item
  request_done : (s : StoreState) (r : Request) (told : Answer (ℕ × ℕ)) (after : StoreState) → means s (request_of r) told after → request_item machine s r ≡ done_item r.id told after
  request_done s r told after is =
      ap (invoked_item program b.area s r.id) is.is ∙ settled_done s r.id is.comes_to.reply (settled program b.area s is.comes_to.content)
      ∙ ap (λ t. done_item r.id t (store_by s (settled program b.area s is.comes_to.content))) (sym is.answer_is) ∙ ap (done_item r.id told) (sym is.after_is)

  -- the items of what was done
  abbrev pub items_of_done : List DoneHere → List (SessionItem StoreState)
  items_of_done ds = request_items machine b.start (in_order b.requests (answered_numbers ds))

  -- with one more request
  one_done : (d : DoneHere) (ds : List DoneHere) (r : Request) → slice_get b.requests d.number ≡ Some r
      → items_of_done (d ∷ ds) ≡ items_of_done ds ++ request_item machine (state_after b.start (items_of_done ds)) r ∷ []
  one_done d ds r is =
      let t = state_after b.start (items_of_done ds) in
      items_grow machine b.start b.requests (d ∷ []) ds
      ∙ ap (λ rs. items_of_done ds ++ request_items machine t rs) (let one : in_order b.requests (d.number ∷ []) ≡ r ∷ [] = rw is refl in one)

  -- after them the store is that of the schedule
  serial_state : (ds : List DoneHere) → AreSerial means (asked_in b) b.start ds → state_after b.start (items_of_done ds) ≡ store_after b.start ds
  serial_state [] serial = refl
  serial_state (d ∷ ds) serial =
      let first = serial.0 in
      let found = found_of (slice_get b.requests d.number) first.request (sym (slice_get-map request_of b.requests d.number) ∙ first.is_its) in
      let before = serial_state ds serial.1 in
      let comes : means (store_after b.start ds) (request_of found.0) d.answer d.after = rw found.2 first.comes in
      ap (state_after b.start) (one_done d ds found.0 found.1)
      ∙ state_after-append b.start (items_of_done ds) (request_item machine (state_after b.start (items_of_done ds)) found.0 ∷ [])
      ∙ ap (λ t. (request_item machine t found.0).after) before
      ∙ ap (λ (i : SessionItem StoreState). i.after) (request_done (store_after b.start ds) found.0 d.answer d.after comes) ∙ after_of found.0.id d.answer d.after
    where
      after_of : (id : ℤ) (told : Answer (ℕ × ℕ)) (after : StoreState) → (done_item id told after).after ≡ after
      after_of id (replied reply) after = refl
      after_of id (lacks_room lack) after = refl
      after_of id went_wrong after = refl

-- ---- that its turns end

split : (n m : ℕ) → ((d : ℕ) × (n + d ≡ m)) ⊎ ((d : ℕ) × (m + d ≡ n))
split zero m = inl (m, omega arith)
split (suc n) zero = inr (suc n, omega arith)
split (suc n) (suc m) = by (split n m)
  where
    by : ((d : ℕ) × (n + d ≡ m)) ⊎ ((d : ℕ) × (m + d ≡ n)) → ((d : ℕ) × (suc n + d ≡ suc m)) ⊎ ((d : ℕ) × (suc m + d ≡ suc n))
    by (inl x) = inl (x.0, omega (arith, x.1))
    by (inr x) = inr (x.0, omega (arith, x.1))

open_all : (S A : Type 0) {Q : Type 0} (n : ℕ) (qs : List Q) → count_open {S = S} {Q = Q} {A = A} n qs [] ≡ length qs
open_all S A n [] = refl
open_all S A {Q = Q} n (q ∷ qs) = let more = open_all S A {Q = Q} (suc n) qs in let one : 1 + count_open {S = S} {Q = Q} {A = A} (suc n) qs [] ≡ suc (length qs) = omega (arith, more) in one

suc_times : (a m : ℕ) → suc a * m ≡ m + a * m
suc_times a m = grind arith

idle_weights : (Q : Type 0) {R : Type 0} (left : R → ℕ) (most count : ℕ) → weights {Q = Q} {R = R} left most (replicate count None) ≡ count * (most + 2)
idle_weights Q left most zero = let none : 0 ≡ 0 * (most + 2) = omega arith in none
idle_weights Q {R = R} left most (suc count) = ap (λ n. (most + 2) + n) (idle_weights Q {R = R} left most count) ∙ sym (suc_times count (most + 2))

idle_few : {Q R : Type 0} (may : Bool) (k : ℕ) (lanes : List (Option (Busy Q R))) → idle_turns may k lanes ≤ length lanes
idle_few may k lanes =
    let a = true_most (map (does may) (round_from k lanes)) in
    let c = length_map (does may) (round_from k lanes) in
    let e = round_length k lanes in
    omega (arith, a, c, e)

sums : (l m w wi i c big : ℕ) → wi ≡ w → i ≤ c → big ≡ suc (w + c) → l * big + (wi + i) ≤ suc l * big
sums l m w wi i c big a h e = let t = suc_times l big in omega (arith, a, h, e, t)

module _ {S Q R A : Type 0} (rules : Rules S Q R A) (d : Distances rules) (batch : List Q) (count : ℕ) (s : S) where
  abbrev first : Lanes S Q R A
  first = idle s count

  few_turns : turns_left rules d batch 0 first ≤ suc (length batch) * most_until d.most count
  few_turns =
      let big = most_until d.most count in
      let n = length-replicate count (none_of Q R) in
      let may = may_one rules batch first in
      let opened = open_all S A {Q = Q} 0 batch in
      let heavy : weights d.left d.most first.lanes * suc (length first.lanes) ≡ (count * (d.most + 2)) * suc count =
      ap (λ w. w * suc (length first.lanes)) (idle_weights Q {R = R} d.left d.most count) ∙ ap (λ c. (count * (d.most + 2)) * suc c) n in
      let few : idle_turns may 0 first.lanes ≤ count = subst (λ c. idle_turns may 0 first.lanes ≤ c) n (idle_few may 0 first.lanes) in
      subst (λ x. x ≤ suc (length batch) * big) (sym (ap (λ l. l * most_until d.most (length first.lanes) + (weights d.left d.most first.lanes * suc (length first.lanes) + idle_turns may 0 first.lanes)) opened
      ∙ ap (λ c. length batch * most_until d.most c + (weights d.left d.most first.lanes * suc (length first.lanes) + idle_turns may 0 first.lanes)) n))
      (sums (length batch) d.most ((count * (d.most + 2)) * suc count) (weights d.left d.most first.lanes * suc (length first.lanes)) (idle_turns may 0 first.lanes) count big heavy few refl)
    where
      none_of : (Q R : Type 0) → Option (Busy Q R)
      none_of Q R = None

module _ (b : BatchOn) (can : CanBeAnswered b) where
  IsFit : StoreState → Type 0
  IsFit = IsAtRestIn (stores b) b.code

  fits : Fits (rules b) (IsAtRestIn (stores b) b.code) HasLabels (means b)
  fits = requests_fit (stores b) b.code b.limits.fuel can.ahead can.sound.rests

  -- what the schedule keeps, turn after turn
  pub keeps : (n : ℕ) → Keeps (rules b) (IsAtRestIn (stores b) b.code) (means b) (asked_in b) b.start (round_after b n).lanes
  keeps zero = idle_keeps (rules b) (IsAtRestIn (stores b) b.code) (means b) (asked_in b) b.start b.limits.lanes can.at_rest
  keeps (suc n) =
      let r = round_after b n in
      turn_keeps (rules b) (IsAtRestIn (stores b) b.code) HasLabels (means b) (asked_in b) b.start b.limits.slice r.next r.lanes fits can.labels (keeps n)

  -- after the items so far the store is the schedule's
  pub store_so_far : (n : ℕ) → state_after b.start (items_after b n) ≡ (round_after b n).lanes.store
  store_so_far n = let serial = (keeps n).serial in serial_state b (round_after b n).lanes.done serial.serial ∙ sym serial.store

  -- so many turns are enough
  abbrev last : ℕ
  last = turns_left (rules b) (request_distances (stores b) b.code b.limits.fuel can.ahead) (asked_in b) 0 (idle b.start b.limits.lanes)

  all_answered : is_answered (asked_in b) (round_after b last).lanes ≡ true
  all_answered =
      (batch_ends (rules b) (IsAtRestIn (stores b) b.code) HasLabels (means b) (request_distances (stores b) b.code b.limits.fuel can.ahead) (asked_in b) b.limits.slice b.limits.lanes b.start
      fits can.labels can.at_rest can.slice can.lanes).0.all

  last_few : last ≤ turns_of b
  last_few =
      subst (λ most. last ≤ suc (length (asked_in b)) * most_until most b.limits.lanes) (request_most (stores b) b.code b.limits.fuel can.ahead)
      (few_turns (rules b) (request_distances (stores b) b.code b.limits.fuel can.ahead) (asked_in b) b.limits.lanes b.start)

  reached_rests : (ds : List DoneHere) → AreSerial (RunsAlone (rules b)) (asked_in b) b.start ds → IsAtRestIn (stores b) b.code (store_after b.start ds)
  reached_rests [] serial = can.at_rest
  reached_rests (d ∷ ds) serial =
      let one = serial.0 in
      subst (IsAtRestIn (stores b) b.code) (sym one.comes.after_is)
      (fits.fit (store_after b.start ds) one.request one.comes.run (reached_rests ds serial.1) (can.labels d.number one.request one.is_its) one.comes.ended)

  are_local : AreLocal (rules b) (asked_in b) b.start
  are_local = λ t p q r given reached p_is q_is ended fresh.
      fits.local t p q r given (subst (IsAtRestIn (stores b) b.code) (sym reached.is) (reached_rests reached.done reached.serial)) (can.labels p_is.0 p p_is.1) (can.labels q_is.0 q q_is.1) ended fresh

  stay : (n more : ℕ) → is_answered (asked_in b) (round_after b n).lanes ≡ true → (round_after b (n + more)).lanes ≡ (round_after b n).lanes
  stay n more all = answered_batches_stay (rules b) (asked_in b) b.limits.slice b.limits.lanes b.start n more are_local all

  -- the schedule after the last turn, and after any that follow
  past : (n d : ℕ) → last + d ≡ n → (round_after b n).lanes ≡ (round_after b last).lanes
  past n d is = ap (λ m. (round_after b m).lanes) (sym is) ∙ stay last d all_answered

  in_the_end : (round_after b (turns_of b)).lanes ≡ (round_after b last).lanes
  in_the_end = past (turns_of b) (turns_of b - last) (omega (arith, last_few))

  -- then all is answered
  pub all_in_the_end : is_answered (asked_in b) (round_after b (turns_of b)).lanes ≡ true
  all_in_the_end = ap (is_answered (asked_in b)) in_the_end ∙ all_answered

  -- once all is answered, the items are all there are
  pub last_items : (n : ℕ) → is_answered (asked_in b) (round_after b n).lanes ≡ true → all_items b ≡ items_after b n
  last_items n all = ap (λ (l : Lanes StoreState asked.Request Run (Answer (ℕ × ℕ))). items_of_done b l.done) (in_the_end ∙ by (split n last))
    where
      by : ((d : ℕ) × (n + d ≡ last)) ⊎ ((d : ℕ) × (last + d ≡ n)) → (round_after b last).lanes ≡ (round_after b n).lanes
      by (inl x) = ap (λ m. (round_after b m).lanes) (sym x.1) ∙ stay n x.0 all
      by (inr x) = sym (past n x.0 x.1)

  -- before that they come first
  pub rest_items : (n : ℕ) → n ≤ turns_of b → (rest : List (SessionItem StoreState)) × (all_items b ≡ items_after b n ++ rest)
  rest_items n few =
      let e : n + (turns_of b - n) ≡ turns_of b = omega (arith, few) in
      let grown = turns_grow (rules b) (asked_in b) b.limits.slice b.limits.lanes b.start n (turns_of b - n) in
      let ds = (round_after b n).lanes.done in
      let same : (round_after b (turns_of b)).lanes.done ≡ grown.0 ++ ds = ap (λ m. (round_after b m).lanes.done) (sym e) ∙ grown.1 in (
        request_items (machine b) (state_after b.start (items_after b n)) (in_order b.requests (answered_numbers grown.0)),
        ap (items_of_done b) same ∙ items_grow (machine b) b.start b.requests grown.0 ds,
      )

  -- a turn after which something isn't answered is one of these
  pub not_yet : (n : ℕ) → is_answered (asked_in b) (round_after b n).lanes ≡ false → n ≤ turns_of b
  not_yet n undone = by (split n last)
    where
      by : ((d : ℕ) × (n + d ≡ last)) ⊎ ((d : ℕ) × (last + d ≡ n)) → n ≤ turns_of b
      by (inl x) = omega (arith, x.1, last_few)
      by (inr x) = absurd (true≢false (sym (ap (is_answered (asked_in b)) (past n x.0 x.1) ∙ all_answered) ∙ undone))

  longer : (d : DoneHere) (ds : List DoneHere) → d ∷ ds ≡ ds → ⊥
  longer d ds is = let n : suc (length ds) ≡ length ds = ap length is in omega (arith, n)

  -- so is one in which something is
  pub just_now : (n : ℕ) (d : DoneHere) → (round_after b (suc n)).lanes.done ≡ d ∷ (round_after b n).lanes.done → suc n ≤ turns_of b
  just_now n d is = by (split n last)
    where
      never : (e : ℕ) → last + e ≡ n → ⊥
      never e at =
          let next : last + suc e ≡ suc n = omega (arith, at) in
          longer d (round_after b n).lanes.done (sym is ∙ ap (λ (l : Lanes StoreState asked.Request Run (Answer (ℕ × ℕ))). l.done) (past (suc n) (suc e) next ∙ sym (past n e at)))

      by : ((d : ℕ) × (n + d ≡ last)) ⊎ ((d : ℕ) × (last + d ≡ n)) → suc n ≤ turns_of b
      by (inl (zero, at)) = absurd (never 0 (omega (arith, at)))
      by (inl (suc e, at)) = omega (arith, at, last_few)
      by (inr x) = absurd (never x.0 x.1)

  -- ---- a turn

  -- where no run of the lane has ended, nothing commits
  pub no_commit : (n : ℕ) → ((busy : Busy asked.Request Run) → slice_get (round_turned b n).lanes (round_after b n).next ≡ Some (Some busy) → has_ended busy.run ≡ false)
      → (round_after b (suc n)).lanes ≡ round_turned b n
  no_commit n going = by (slice_get (round_turned b n).lanes (round_after b n).next) refl
    where
      l : Lanes StoreState asked.Request Run (Answer (ℕ × ℕ))
      l = round_turned b n

      by : (x : Option (Option (Busy asked.Request Run))) → slice_get (round_turned b n).lanes (round_after b n).next ≡ x → commits (rules b) (round_after b n).next (slice_get (round_turned b n).lanes (round_after b n).next) l ≡ l
      by None is = ap (λ x. commits (rules b) (round_after b n).next x l) is
      by (Some None) is = ap (λ x. commits (rules b) (round_after b n).next x l) is
      by (Some (Some busy)) is = ap (λ x. commits (rules b) (round_after b n).next x l) is ∙ ap (λ (over : Bool). if over then committed (rules b) (round_after b n).next busy l else l) (going busy is)

  -- what a lane commits whose run has ended
  pub record Committed (n : ℕ) (r : Request) : Type 0 where
    pub more : items_after b (suc n) ≡ items_after b n ++ request_item (machine b) (round_after b n).lanes.store r ∷ []
    pub few : suc n ≤ turns_of b

  pub commits_one : (n : ℕ) (busy : Busy asked.Request Run) (r : Request) → slice_get (round_turned b n).lanes (round_after b n).next ≡ Some (Some busy) → has_ended busy.run ≡ true
      → slice_get b.requests busy.number ≡ Some r → Committed n r
  commits_one n busy r at over request =
      let k = (round_after b n).next in
      let l = round_turned b n in
      let quiet = turned_still (rules b) (asked_in b) b.limits.slice k (round_after b n).lanes in
      let ds = (round_after b n).lanes.done in
      let d : DoneHere = record { number = busy.number; answer = answer (stores b) l.store busy.run; after = commit (stores b) l.store busy.run } in
      let next : (round_after b (suc n)).lanes ≡ committed (rules b) k busy l =
      ap (λ x. commits (rules b) k x l) at ∙ ap (λ (over : Bool). if over then committed (rules b) k busy l else l) over in
      let done : (round_after b (suc n)).lanes.done ≡ d ∷ ds = ap (λ (l : Lanes StoreState asked.Request Run (Answer (ℕ × ℕ))). l.done) next ∙ ap (λ xs. d ∷ xs) quiet.done in
      record {
        more = ap (items_of_done b) done ∙ one_done b d ds r request ∙ ap (λ s. items_of_done b ds ++ request_item (machine b) s r ∷ []) (store_so_far n);
        few = just_now n d done;
      }
