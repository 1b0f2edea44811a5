-- The lanes of the code follow the schedule of a batch.
use Rattle.std.proofs.Common.{◌≡◌, ℕ, ℤ, suc, ◌≤◌, Bool, true, false, List, [], ◌∷◌, ◌++◌, length, map, replicate, Option, None, Some, refl, sym, ◌∙◌, ap, subst, arith}
use Rattle.std.specs.Prelude.{Ok, Err, slice_get, option_map, ◌&&◌}
use Rattle.std.proofs.lemmas.List.{length-map, length-replicate}
use Rattle.std.proofs.lemmas.Option.{slice_get-map}
use Rattle.ob_code.specs.declared.image.Image.{Image}
use Rattle.ob_code_table.specs.ImageTables.{table_of_image}
use Rattle.ob_exec.specs.declared.runs.SliceOutcome.TheVariants.{Ended}
use Rattle.ob_exec_handles.specs.Coming.{ComesTo, LeadsTo}
use Rattle.ob_base.specs.Limits.{most_handles}
use Rattle.ob_heap.specs.Contents.{Stored, content_of, named_of}
use Rattle.ob_heap.specs.Deltas.{IsDelta}
use Rattle.ob_heap.specs.declared.delta.Delta.{Delta}
use Rattle.ob_heap_spec.specs.Contents.{Content}
use Rattle.ob_invocation_laws.specs.Laws.{KeepsStoreAtRest}
use Rattle.ob_invocation_spec.specs.Replies.{Invocation, invoked, goes_wrong}
use Rattle.ob_invocation_spec.specs.Requests as asked
use Rattle.ob_invocation_spec.specs.Requests.{HasLabels}
use Rattle.ob_lanes_laws.specs.Laws.{OfEach}
use Rattle.ob_lanes_laws.proofs.Keeping.{idle_lane}
use Rattle.ob_machine_steps.specs.Measures.{LeadsAheadOrToUnit}
use Rattle.ob_sound_code.specs.SoundCode.{IsSoundImage}
use Rattle.ob_lanes_laws.specs.Requests.{has_ended}
use Rattle.ob_lanes_laws.specs.Schedule.{Done, Lanes, is_done, idle, step, commit}
use Rattle.ob_lanes_laws.specs.Turns.{turned, next_lane, is_answered, are_done_from}
use Rattle.ob_lanes_laws.specs.Requests.{Answer}
use Rattle.ob_lanes.specs.Seen.{IsSeenAs}
use Rattle.ob_lanes.specs.Standing.{State, BusyLane, LanesRepresentBatch, NoneHasEnded, EndsAlone, LaneTells, Tells, CanTurn, Turned, rules_on, Commits, committed_by, in_order, requests_kept}
use Rattle.ob_lanes.specs.declared.batch.BatchRequest.{BatchRequest}
use Rattle.ob_lanes.specs.declared.lanes.Lanes as lanes_here
use Rattle.ob_lanes.specs.declared.lanes.Turn.{Turn}
use Rattle.ob_lanes.proofs.Commits.{committer}
use Rattle.ob_lanes.proofs.Seen.{turns_are_seen, commits_are_seen}
use Rattle.ob_lanes.proofs.Standing.{pair_length}
use Rattle.ob_machine_meaning.specs.Meanings.{machine_invocation}
use Rattle.ob_request_run_laws.specs.Laws.{ComesTo as ComesAlone}
use Rattle.ob_request_run_laws.proofs.Whole.{slices_come_to}
use Rattle.ob_request_run_laws.specs.Runs.{Run, opened, paused, answered, lost, invoked_by}
use Rattle.ob_request_run_laws.specs.Runs as plain
use Rattle.ob_rest_spec.specs.AtRest.{IsStoreAtRest}
use Rattle.ob_store_laws.specs.Recorded.{content_with}
use Rattle.ob_store_spec.specs.Settling.{settled}
use Rattle.ob_store_spec.specs.Stores.{StoreState}
use Rattle.ob_store.specs.Preparing.{delta_prepared}
use Rattle.ob_store.specs.declared.store.Prepared.{Prepared}
use Rattle.ob_store.specs.Stores.{program_of, area_of_store, kept_of, state_of}
use Rattle.ob_store.specs.declared.store.Store.{Store}
use Rattle.ob_wire.specs.Meanings.{request_of, answer_of}
use Rattle.ob_wire.specs.declared.reply.Answer.{Answer as Answer_of}
use Rattle.ob_wire.specs.declared.reply.Reply.{Reply}
use Rattle.ob_wire.specs.declared.request.Request.{Request}
use Rattle.ob_serve.specs.Items.{settled_item, invoked_item, request_item}
use Rattle.ob_serve.specs.Session.{SessionItem, state_after}
use Rattle.ob_serve.specs.Settled.{settled_holds}
use Rattle.ob_serve.specs.Stops.{IsOfDelta}
use Rattle.ob_serve.specs.declared.limits.Limits.{Limits}
use Rattle.ob_serve.specs.Kept.{AreLimits}
use Rattle.ob_serve.specs.Turning.{BatchOn, batch_on, asked_in, round_after, round_turned, items_after, all_items, turns_of, CanBeAnswered, AreAsFar, WaitsWith}
use Rattle.ob_serve.proofs.Growing.{turned_still, lanes_count}
use Rattle.ob_serve.proofs.Keeping.{within_limits}
use Rattle.ob_serve.proofs.Rounds.{stores, rules, machine, items_of_done, keeps, store_so_far, no_commit, not_yet, last_items, commits_one}
use Rattle.ob_serve.proofs.Readied.{comes_by_delta, comes_to_content}
use Rattle.ob_serve.proofs.Sessions.{state_after-append}

-- lanes of which none is busy are where a batch begins
pub begins : (b : BatchOn) (store : Store) (lanes : lanes_here.Lanes) → state_of store ≡ b.start → area_of_store store ≡ b.area
    → LanesRepresentBatch b.code b.limits.fuel (asked_in b) (kept_of store) lanes (idle (content_of (kept_of store)) b.limits.lanes) → requests_kept lanes ≡ b.requests
    → lanes.next ≡ 0 → lanes.slice ≡ b.limits.slice → AreAsFar b 0 store lanes
begins b store lanes start area stand requests next slice = record {
  few = omega arith;
  state = idle (content_of (kept_of store)) b.limits.lanes;
  seen = record { store = ap (λ (s : StoreState). s.content) start; lanes = refl; done = λ n. refl };
  stand = stand;
  requests = requests;
  going = λ k busy is. absurd (idle_lane b.limits.lanes k busy is);
  next = next;
  slice = slice;
  store_is = start;
  area = area;
}

pub nothing_stored : Stored
nothing_stored = record { objects = []; handles = []; object_room = 0; handle_room = 0 }

pub no_code : Image
no_code = record { contracts = [] }

-- as many lanes as at first
pub lanes_there : (code : Image) (limits : Limits) (batch : List Request) (base : Stored) (old new : lanes_here.Lanes) → LanesRepresentBatch code limits.fuel [] base old (idle (content_of base) limits.lanes)
    → LanesRepresentBatch code limits.fuel (map request_of batch) base new (idle (content_of base) (length old.lanes.items)) → LanesRepresentBatch code limits.fuel (map request_of batch) base new (idle (content_of base) limits.lanes)
lanes_there code limits batch base old new was stands =
    let count : length old.lanes.items ≡ limits.lanes =
    pair_length code limits.fuel base old.entries.items old.lanes.items (idle_lanes limits.lanes) was.state.each ∙ length-replicate limits.lanes None in
    subst (λ n. LanesRepresentBatch code limits.fuel (map request_of batch) base new (idle (content_of base) n)) count stands
  where
    idle_lanes : ℕ → List (Option BusyLane)
    idle_lanes n = replicate n None

-- what a batch needs to be answered
pub can_be_answered : (code : Image) (limits : Limits) (area : Option ℕ) (start : StoreState) (requests : List Request) → LeadsAheadOrToUnit code → IsSoundImage code → OfEach HasLabels (map request_of requests)
    → IsStoreAtRest (table_of_image code) start.content → AreLimits limits → CanBeAnswered (batch_on code limits area start requests)
can_be_answered code limits area start requests ahead sound labels rests are =
    record { ahead = ahead; sound = sound; labels = labels; at_rest = rests; lanes = are.lanes; slice = are.slice }

answered_alike : {S L : Type 0} (n : ℕ) (batch : List asked.Request) (xs : List (Done S L)) {T M : Type 0} (ys : List (Done T M)) → ((k : ℕ) → is_done k xs ≡ is_done k ys) → are_done_from n batch xs ≡ are_done_from n batch ys
answered_alike n [] xs ys same = refl
answered_alike n (q ∷ qs) xs ys same =
    ap (λ (d : Bool). d && are_done_from (suc n) qs xs) (same n) ∙ ap (λ (d : Bool). is_done n ys && d) (answered_alike (suc n) qs xs ys same)

-- a delta of nothing is one of every content, and leads to the same
pub nothing_is_delta : (base : Stored) (nothing : Delta) → nothing.objects ≡ [] → nothing.handles ≡ [] → IsDelta base nothing
nothing_is_delta base nothing objects handles = record {
  objects = rw objects tt;
  next = rw objects tt;
  handles = rw handles (λ i j d lt within. absurd (omega (arith, within)));
}

leads_nowhere : (base : Stored) (nothing : Delta) → nothing.objects ≡ [] → nothing.handles ≡ [] → LeadsTo base nothing (content_of base)
leads_nowhere base nothing objects handles = record {
  is = nothing_is_delta base nothing objects handles;
  objects = rw objects refl;
  handles = rw handles refl;
  other_objects = rw objects (λ k d lt. absurd (omega (arith, lt)));
  other_handles = rw handles (λ k d lt. absurd (omega (arith, lt)));
}

module _ (b : BatchOn) (can : CanBeAnswered b) (n : ℕ) (store : Store) where
  -- what the store holds is at rest
  pub store_rests : state_of store ≡ (round_after b n).lanes.store → IsStoreAtRest (table_of_image b.code) (content_of (kept_of store))
  store_rests is = subst (λ (s : StoreState). IsStoreAtRest (table_of_image b.code) s.content) (sym is) (keeps b can n).fit

  -- a turn can be made
  pub can_turn : (lanes : lanes_here.Lanes) (far : AreAsFar b n store lanes) → CanTurn b.code b.limits.fuel (asked_in b) (kept_of store) lanes far.state
  can_turn lanes far = record {
    stands = far.stand;
    going = far.going;
    limits = λ k q is.
        within_limits (table_of_image b.code) _ (can.sound.rests (content_of (kept_of store)) q b.limits.fuel (store_rests far.store_is) (can.labels k q is));
  }

  module _ (old new : lanes_here.Lanes) (turn : Turn) (far : AreAsFar b n store old) (did : Turned b.code b.limits.fuel (asked_in b) (kept_of store) old far.state new turn)
      (entries : new.entries ≡ old.entries) where
    abbrev after : State
    after = turned (rules_on (λ c d. true) b.code b.limits.fuel) (asked_in b) old.slice old.next far.state

    pub turn_seen : IsSeenAs (stores b) (round_turned b n) (turned (rules_on (λ c d. true) b.code b.limits.fuel) (asked_in b) old.slice old.next far.state)
    turn_seen =
        subst (λ k. IsSeenAs (stores b) (turned (rules b) (asked_in b) b.limits.slice k (round_after b n).lanes) after) far.next
        (subst (λ u. IsSeenAs (stores b) (turned (rules b) (asked_in b) u old.next (round_after b n).lanes) after) far.slice
        (turns_are_seen (stores b) (λ c d. true) b.code b.limits.fuel (asked_in b) old.slice old.next (round_after b n).lanes far.state far.seen))

    same_requests : requests_kept new ≡ b.requests
    same_requests = ap (λ es. map (λ (e : BatchRequest). e.request) es.items) entries ∙ far.requests

    stays : NoneHasEnded after → (round_after b (suc n)).lanes ≡ round_turned b n
    stays going = no_commit b can n (λ busy is. going (round_after b n).next busy (ap (λ ls. slice_get ls (round_after b n).next) turn_seen.lanes ∙ is))

    answered_so : NoneHasEnded after → is_answered (asked_in b) (round_after b (suc n)).lanes ≡ is_answered (asked_in b) after
    answered_so going = ap (is_answered (asked_in b)) (stays going) ∙ sym (answered_alike 0 (asked_in b) after.done (round_turned b n).done turn_seen.done)

    same_store : NoneHasEnded after → state_of store ≡ (round_after b (suc n)).lanes.store
    same_store going =
        far.store_is ∙ sym (turned_still (rules b) (asked_in b) b.limits.slice (round_after b n).next (round_after b n).lanes).store
        ∙ sym (ap (λ (l : Lanes StoreState asked.Request Run (Answer (ℕ × ℕ))). l.store) (stays going))

    -- nothing commits, and something isn't answered
    pub goes_far : NoneHasEnded after → is_answered (asked_in b) after ≡ false → new.next ≡ next_lane (length after.lanes) old.next → AreAsFar b (suc n) store new
    goes_far going undone next =
        let count : length after.lanes ≡ b.limits.lanes =
        ap length turn_seen.lanes ∙ (turned_still (rules b) (asked_in b) b.limits.slice (round_after b n).next (round_after b n).lanes).count
        ∙ lanes_count (rules b) (asked_in b) b.limits.slice b.limits.lanes b.start n in
        record {
          few = not_yet b can (suc n) (answered_so going ∙ undone);
          state = after;
          seen = subst (λ l. IsSeenAs (stores b) l after) (sym (stays going)) turn_seen;
          stand = did.stands (λ c d. true);
          requests = same_requests;
          going = going;
          next = next ∙ ap (λ c. next_lane c old.next) count ∙ ap (next_lane b.limits.lanes) far.next;
          slice = did.slice ∙ far.slice;
          store_is = same_store going;
          area = far.area;
        }

    -- there is no item in such a turn
    pub no_items : NoneHasEnded after → items_after b (suc n) ≡ items_after b n
    no_items going =
        ap (λ ds. items_of_done b ds)
        (ap (λ (l : Lanes StoreState asked.Request Run (Answer (ℕ × ℕ))). l.done) (stays going) ∙ (turned_still (rules b) (asked_in b) b.limits.slice (round_after b n).next (round_after b n).lanes).done)

    -- nothing commits, and all is answered
    pub is_last : NoneHasEnded after → is_answered (asked_in b) after ≡ true → all_items b ≡ items_after b n
    is_last going all = last_items b can (suc n) (answered_so going ∙ all) ∙ no_items going

    -- a commit is waited for
    pub waits_with : (reply : Reply) (delta : Delta) → LaneTells (kept_of store) old.entries.items (slice_get after.lanes old.next) (Ended reply delta) → EndsAlone old.next after → new.next ≡ old.next
        → WaitsWith b n store new reply delta
    waits_with reply delta tells alone next =
        let busy = busy_of (slice_get after.lanes old.next) refl tells in
        record {
          few = far.few;
          state = after;
          seen = turn_seen;
          waits = record {
            stands = did.stands (λ c d. true);
            lane = busy.0;
            lane_is = ap (slice_get after.lanes) next ∙ busy.1;
            ended = subst (λ k. EndsAlone k after) (sym next) alone;
          };
          tells = subst (λ es. LaneTells (kept_of store) es (slice_get after.lanes new.next) (Ended reply delta)) (sym (ap (λ es. es.items) entries))
              (subst (λ k. LaneTells (kept_of store) old.entries.items (slice_get after.lanes k) (Ended reply delta)) (sym next) tells);
          requests = same_requests;
          next = next ∙ far.next;
          slice = did.slice ∙ far.slice;
          store_is = far.store_is;
          area = far.area;
        }
      where
        busy_of : (x : Option (Option BusyLane)) → slice_get after.lanes old.next ≡ x → LaneTells (kept_of store) old.entries.items (slice_get after.lanes old.next) (Ended reply delta)
            → (busy : BusyLane) × (slice_get after.lanes old.next ≡ Some (Some busy))
        busy_of None is tells = absurd (subst (λ x. LaneTells (kept_of store) old.entries.items x (Ended reply delta)) is tells)
        busy_of (Some None) is tells = absurd (subst (λ x. LaneTells (kept_of store) old.entries.items x (Ended reply delta)) is tells)
        busy_of (Some (Some busy)) is tells = (busy, is)

  module _ (lanes : lanes_here.Lanes) (reply : Reply) (delta : Delta) (w : WaitsWith b n store lanes reply delta) where
    -- what the request comes to that commits, and its item
    abbrev pub comes_here : Request → Invocation
    comes_here r = machine_invocation b.code (content_of (kept_of store)) (request_of r) b.limits.fuel

    abbrev pub item_of : Request → SessionItem StoreState
    item_of r = invoked_item (program_of b.code) (area_of_store store) (state_of store) r.id (comes_here r)

    -- The request that commits.
    pub record Told : Type 0 where
      pub request : Request
      pub id : reply.id ≡ Some request.id
      pub labels : HasLabels (request_of request)
      pub comes : ComesTo (machine_invocation b.code (content_of (kept_of store)) (request_of request) b.limits.fuel) (kept_of store) reply.answer delta
      pub more : items_after b (suc n) ≡ items_after b n ++ invoked_item (program_of b.code) (area_of_store store) (state_of store) request.id
          (machine_invocation b.code (content_of (kept_of store)) (request_of request) b.limits.fuel) ∷ []
      pub few : suc n ≤ turns_of b

    tells_answer : (base : Stored) (id : ℤ) (run : Run) → Tells base id run (Ended reply delta)
        → (a : plain.Answer) × (run ≡ answered a) × (reply.id ≡ Some id) × ComesTo (invoked (invoked_by (content_of base) a)) base reply.answer delta
    tells_answer base id (answered a) tells = (a, refl, tells.0, tells.1)
    tells_answer base id (opened q) tells = absurd tells
    tells_answer base id (paused q reads p h) tells = absurd tells
    tells_answer base id lost tells = absurd tells

    pub told : Told
    told =
        let base = kept_of store in
        let entries = lanes.entries.items in
        let busy = w.waits.lane in
        let it = (committer b.code b.limits.fuel base entries lanes.lanes.items w.state lanes.next busy w.waits.stands.state w.waits.lane_is).is in
        let entry = it.entry in
        let at : slice_get entries busy.number ≡ Some entry = ap (slice_get entries) (sym it.number) ∙ it.entry_is in
        let r = entry.request in
        let stands : slice_get b.requests busy.number ≡ Some r =
        ap (λ rs. slice_get rs busy.number) (sym w.requests) ∙ slice_get-map (λ (e : BatchRequest). e.request) entries busy.number ∙ ap (option_map (λ (e : BatchRequest). e.request)) at in
        let tells = tells_answer base r.id busy.run (subst (λ x. LaneTells base entries x (Ended reply delta)) w.waits.lane_is w.tells entry at) in
        let alone : ComesAlone (content_of base) (comes_here r) (answered tells.0) =
        subst (ComesAlone (content_of base) (comes_here r)) (sym it.run ∙ tells.1) (slices_come_to b.code b.limits.fuel (content_of base) (request_of r) (in_order busy.given) can.ahead) in
        let here : slice_get (round_turned b n).lanes (round_after b n).next ≡ Some (Some busy) =
        ap (λ ls. slice_get ls (round_after b n).next) (sym w.seen.lanes) ∙ ap (slice_get w.state.lanes) (sym w.next) ∙ w.waits.lane_is in
        let one = commits_one b can n busy r here (ap has_ended tells.1) stands in
        let item : request_item (machine b) (round_after b n).lanes.store r ≡ item_of r =
        ap (λ s. request_item (machine b) s r) (sym w.store_is) ∙ ap (λ a. invoked_item (program_of b.code) a (state_of store) r.id (comes_here r)) (sym w.area) in
        record {
          request = r;
          id = tells.2;
          labels = can.labels busy.number (request_of r) (slice_get-map request_of b.requests busy.number ∙ ap (option_map request_of) stands);
          comes = subst (λ i. ComesTo i base reply.answer delta) (sym alone) tells.3;
          more = one.more ∙ ap (λ i. items_after b n ++ i ∷ []) item;
          few = one.few;
        }

    -- there are no more handles than there may be, and the delta is one of what the store holds
    pub few_handles : (base : Stored) → base ≡ kept_of store → length base.handles ≤ most_handles
    few_handles base is = let rests = store_rests w.store_is in let n = length-map (kept_of store).handles named_of in omega (arith, ap (λ (s : Stored). length s.handles) is, rests.few_handles, n)

    delta_by : (i : Invocation) (answer : Answer_of) → ComesTo i (kept_of store) answer delta → IsDelta (kept_of store) delta
    delta_by i answer comes = comes_by_delta i (kept_of store) answer delta comes

    pub delta_is : (base : Stored) (made : Delta) (prepared : Prepared) → base ≡ kept_of store → made ≡ delta_prepared prepared → delta_prepared prepared ≡ delta → IsDelta base made
    delta_is base made prepared is told_is same =
        subst (λ (s : Stored). IsDelta s made) (sym is) (subst (IsDelta (kept_of store)) (sym (told_is ∙ same)) (delta_by (comes_here told.request) reply.answer told.comes))

    -- and the request leaves the store at rest
    pub told_rests : (t : Told) → KeepsStoreAtRest (table_of_image b.code) (comes_here t.request)
    told_rests t = can.sound.rests (content_of (kept_of store)) (request_of t.request) b.limits.fuel (store_rests w.store_is) t.labels

    -- the store of the schedule is that after the item
    pub next_store : (t : Told) → (round_after b (suc n)).lanes.store ≡ (item_of t.request).after
    next_store t =
        sym (store_so_far b can (suc n)) ∙ ap (state_after b.start) t.more ∙ state_after-append b.start (items_after b n) (item_of t.request ∷ [])

    -- ---- the lanes are told of the commit

    module _ (new : lanes_here.Lanes) (after : Store) (now : state_of after ≡ (round_after b (suc n)).lanes.store) (area : area_of_store after ≡ b.area)
        (requests : requests_kept new ≡ requests_kept lanes)
        (next : new.next ≡ next_lane (length lanes.lanes.items) lanes.next) (slice : new.slice ≡ lanes.slice) where
      count : length lanes.lanes.items ≡ b.limits.lanes
      count =
          pair_length b.code b.limits.fuel (kept_of store) lanes.entries.items lanes.lanes.items w.state.lanes w.waits.stands.state.each
          ∙ ap length w.seen.lanes ∙ (turned_still (rules b) (asked_in b) b.limits.slice (round_after b n).next (round_after b n).lanes).count
          ∙ lanes_count (rules b) (asked_in b) b.limits.slice b.limits.lanes b.start n

      -- where this delta leads to what the store holds then, and has just what differs
      told_so : (made : Delta) → LeadsTo (kept_of store) made (content_of (kept_of after)) → Commits b.code b.limits.fuel (asked_in b) (kept_of store) made (kept_of after) lanes.next w.state new → AreAsFar b (suc n) after new
      told_so made differs commits =
          let seen = commits_are_seen (stores b) b.code b.limits.fuel (asked_in b) lanes.next (round_turned b n) w.state w.seen in
          let stands : IsSeenAs (stores b) (round_after b (suc n)).lanes (committed_by seen.0 b.code b.limits.fuel (asked_in b) lanes.next w.state) =
          subst (λ k. IsSeenAs (stores b) (step (rules b) (asked_in b) (round_turned b n) (commit k)) (committed_by seen.0 b.code b.limits.fuel (asked_in b) lanes.next w.state)) w.next seen.1 in
          let made_so = commits seen.0 can.ahead can.sound.rests can.labels (store_rests w.store_is) differs
          (stands.store ∙ ap (λ (s : StoreState). s.content) (sym now)) in
          record {
            few = told.few;
            state = committed_by seen.0 b.code b.limits.fuel (asked_in b) lanes.next w.state;
            seen = stands;
            stand = made_so.0;
            requests = requests ∙ w.requests;
            going = made_so.1;
            next = next ∙ ap (λ c. next_lane c lanes.next) count ∙ ap (next_lane b.limits.lanes) w.next;
            slice = slice ∙ w.slice;
            store_is = now;
            area = area;
          }

      leads_on : (i : Invocation) (answer : Answer_of) (content : Content) → ComesTo i (kept_of store) answer delta → content ≡ content_with (kept_of store) delta → LeadsTo (kept_of store) delta content
      leads_on (invoked i) answer content comes is = subst (LeadsTo (kept_of store) delta) (sym (is ∙ comes_to_content i (kept_of store) answer delta comes)) comes.1
      leads_on goes_wrong answer content comes is = absurd comes

      item_settled : (id : ℤ) (i : Invocation) (answer : Answer_of) (t : StoreState) → ComesTo i (kept_of store) answer delta
          → settled (program_of b.code) (area_of_store store) (state_of store) (content_with (kept_of store) delta) ≡ Ok t → (invoked_item (program_of b.code) (area_of_store store) (state_of store) id i).after ≡ t
      item_settled id (invoked i) answer t comes is =
          ap (λ r. (settled_item id (answer_of i.reply) (state_of store) r).after) (ap (settled (program_of b.code) (area_of_store store) (state_of store)) (sym (comes_to_content i (kept_of store) answer delta comes)) ∙ is)
      item_settled id goes_wrong answer t comes is = absurd comes

      item_lacking : (id : ℤ) (i : Invocation) (answer : Answer_of) (lack : ℕ × ℕ) → ComesTo i (kept_of store) answer delta
          → settled (program_of b.code) (area_of_store store) (state_of store) (content_with (kept_of store) delta) ≡ Err lack → (invoked_item (program_of b.code) (area_of_store store) (state_of store) id i).after ≡ state_of store
      item_lacking id (invoked i) answer lack comes is =
          ap (λ r. (settled_item id (answer_of i.reply) (state_of store) r).after) (ap (settled (program_of b.code) (area_of_store store) (state_of store)) (sym (comes_to_content i (kept_of store) answer delta comes)) ∙ is)
      item_lacking id goes_wrong answer lack comes is = absurd comes

      -- the store has room
      pub told_some : (prepared : Prepared) → IsOfDelta (program_of b.code) store delta (Some prepared)
          → Commits b.code b.limits.fuel (asked_in b) (kept_of store) (delta_prepared prepared) (kept_of after) lanes.next w.state new → AreAsFar b (suc n) after new
      told_some prepared of commits =
          let t = told in
          let holds : content_of (kept_of after) ≡ content_with (kept_of store) delta =
          ap (λ (s : StoreState). s.content) (now ∙ next_store t ∙ item_settled t.request.id (comes_here t.request) reply.answer of.1 t.comes of.2)
          ∙ settled_holds (program_of b.code) (area_of_store store) (state_of store) (content_with (kept_of store) delta) of.1 of.2 in
          told_so delta (leads_on (comes_here t.request) reply.answer (content_of (kept_of after)) t.comes holds)
          (subst (λ d. Commits b.code b.limits.fuel (asked_in b) (kept_of store) d (kept_of after) lanes.next w.state new) of.0 commits)

      -- it has none
      pub told_none : (nothing : Delta) → nothing.objects ≡ [] → nothing.handles ≡ [] → IsOfDelta (program_of b.code) store delta None
          → Commits b.code b.limits.fuel (asked_in b) (kept_of store) nothing (kept_of after) lanes.next w.state new → AreAsFar b (suc n) after new
      told_none nothing objects handles of commits =
          let t = told in
          let same : content_of (kept_of after) ≡ content_of (kept_of store) =
          ap (λ (s : StoreState). s.content) (now ∙ next_store t ∙ item_lacking t.request.id (comes_here t.request) reply.answer of.0 t.comes of.1) in
          told_so nothing (subst (LeadsTo (kept_of store) nothing) (sym same) (leads_nowhere (kept_of store) nothing objects handles)) commits
