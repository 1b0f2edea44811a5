-- What the code's run of a request is, and what a slice of it leads to.
use Rattle.std.proofs.Common.{◌≡◌, ℕ, List, ◌++◌, map, Option, Some, None, refl, sym, ap, subst, ◌∙◌}
use Rattle.ob_verify_spec.proofs.Cells.{none_some, some_same}
use Rattle.ob_heap_spec.specs.Contents.{Content}
use Rattle.ob_heap_spec.specs.Worlds.{ReadItem, AllRead, ReadSame}
use Rattle.ob_heap.specs.Contents.{Stored, content_of}
use Rattle.ob_invocation_spec.specs.Checks.{Check, refusal_of, reads_of, refused_or, unless_refused, with_found}
use Rattle.ob_invocation_spec.specs.Entries.{Entry, handle_uses, entry_of_new, entry_of_call}
use Rattle.ob_invocation_spec.specs.Invocation.{enter_entry}
use Rattle.ob_invocation_spec.specs.Refusals.{new_checks, call_checks}
use Rattle.ob_invocation_spec.specs.Replies.{Invocation}
use Rattle.ob_invocation_spec.specs.Requests.{Request, new_request, call_request, NewRequest, CallRequest}
use Rattle.ob_code.specs.declared.image.Image.{Image}
use Rattle.ob_code_table.specs.ImageTables.{table_of_image}
use Rattle.ob_table.specs.Tables.{ClassTable}
use Rattle.ob_machine_meaning.specs.Meanings.{machine_meaning, machine_invocation}
use Rattle.ob_machine_steps.specs.Entries.{Phase}
use Rattle.ob_machine_steps.specs.Runs.{world_of}
use Rattle.ob_request_run_laws.specs.Locality.{phase_onto}
use Rattle.ob_request_run_laws.specs.Held.{Held, laid_over}
use Rattle.ob_request_run_laws.specs.Runs.{Run, opened, paused, answered, lost, reads_of_run}
use Rattle.ob_request_run_laws.specs.Slices.{with_thing, sliced, entry_of, slice}
use Rattle.ob_request_run_laws.proofs.Whole.{phase_reads, checks_of, IsAsked, IsPause, IsSoFar}
use Rattle.ob_wire.specs.Meanings.{argument_meant, operation_of, request_of}
use Rattle.ob_wire.specs.declared.reply.Reply.{Reply}
use Rattle.ob_wire.specs.declared.request.Op.{Op}
use Rattle.ob_wire.specs.declared.request.Op.TheVariants.{New, Call, Disown, Give, See, Owner}
use Rattle.ob_wire.specs.declared.request.Request as wire
use Rattle.ob_exec_entries.specs.Entering.{EntersSo, use_of}
use Rattle.ob_exec_entries.specs.declared.entered.Entered.{Entered}
use Rattle.ob_exec_handles.specs.Coming.{IsInLimits}
use Rattle.ob_exec_handles.specs.declared.answered.Answered.{Answered}
use Rattle.ob_exec_handles.proofs.SpendingLemmas.{all_itself, all_on, all_right, same_items}
use Rattle.ob_exec.specs.Going.{Asked, Enters, IsAt, tested, sliced_at}
use Rattle.ob_exec.specs.Pausing.{StandsPaused, StandsAt, RunRepresents, LeadsBy, into_of, Leads}
use Rattle.ob_exec.specs.Putting.{AllStand}
use Rattle.ob_exec.specs.Standing.{AreUsesRead}
use Rattle.ob_exec.specs.declared.runs.SliceOutcome.TheVariants as slice_outcome
use Rattle.ob_exec.specs.declared.runs.Run.{Run as CodeRun}
use Rattle.ob_exec.specs.declared.stage.Paused.{Paused}
use Rattle.ob_exec.specs.declared.stage.SliceEnd.{SliceEnd}
use Rattle.ob_exec.specs.declared.stage.Stage.{Stage}
use Rattle.ob_exec.specs.declared.stage.Stage.TheVariants as stage
use Rattle.ob_exec.specs.declared.stage.State.{State}
use Rattle.ob_exec.proofs.OpeningLemmas.{passes_checks}
use Rattle.ob_exec.proofs.ReadingLemmas.{new_uses, call_uses}
use Rattle.ob_exec.proofs.StandingLemmas.{new_of, call_of, new_stands, call_stands}

-- What a request enters.

-- it is the client's, with its name for what is given, and the handles of its uses stand under their names
record IsOf (c : Content) (who : List ℕ) (op : Op) (e : Entry) : Type 0 where
  client : e.who ≡ who
  name : e.into ≡ into_of op
  stand : AllStand c (handle_uses c e)

entry_is_of : (table : ClassTable) (c : Content) (who : List ℕ) (op : Op) (e : Entry) → entry_of table c who (operation_of op) ≡ Some e → IsOf c who op e
entry_is_of table c who (New contract args into) e is =
    let r : NewRequest = record { contract = contract; args = map argument_meant args; into = into } in
    let of = new_of table who r e is in
    record { client = of.0; name = of.1; stand = new_stands table c who r e is }
entry_is_of table c who (Call on tx args into) e is =
    let r : CallRequest = record { on = on; tx = tx; args = map argument_meant args; into = into } in
    let of = call_of table c who r e is in
    record { client = of.0; name = of.1; stand = call_stands table c who r e is }
entry_is_of table c who (Disown on) e is = absurd (none_some is)
entry_is_of table c who (Give on to into mode) e is = absurd (none_some is)
entry_is_of table c who (See on) e is = absurd (none_some is)
entry_is_of table c who (Owner on) e is = absurd (none_some is)

-- the objects of its uses were read by its checks
uses_read : (image : Image) (c : Content) (who : List ℕ) (op : Op) (reads : List ReadItem) (e : Entry)
    → IsAsked image c (record { who = who; operation = operation_of op }) reads e → AreUsesRead reads (handle_uses c e)
uses_read image c who (New contract args into) reads e k =
    subst (λ rs. AreUsesRead rs (handle_uses c e)) (sym k.told)
    (new_uses (table_of_image image) c who (record { contract = contract; args = map argument_meant args; into = into }) e k.found k.passed)
uses_read image c who (Call on tx args into) reads e k =
    subst (λ rs. AreUsesRead rs (handle_uses c e)) (sym k.told)
    (call_uses (table_of_image image) c who (record { on = on; tx = tx; args = map argument_meant args; into = into }) e k.found k.passed)
uses_read image c who (Disown on) reads e k = absurd (none_some k.found)
uses_read image c who (Give on to into mode) reads e k = absurd (none_some k.found)
uses_read image c who (See on) reads e k = absurd (none_some k.found)
uses_read image c who (Owner on) reads e k = absurd (none_some k.found)

-- The first slice of a request that enters something.

abbrev pub asked_by : ℕ → List ℕ → Op → Entry → List ReadItem → Asked
asked_by fuel who op e reads = record { fuel = fuel; request = record { who = who; operation = operation_of op }; entry = e; reads = reads }

passes : (image : Image) (fuel : ℕ) (c : Content) (checks : List Check) (found : Option Entry) (e : Entry) → refusal_of checks ≡ None → found ≡ Some e
    → unless_refused c checks (λ reads. with_found found (enter_entry (machine_meaning image) (table_of_image image) c fuel reads))
    ≡ enter_entry (machine_meaning image) (table_of_image image) c fuel (reads_of checks) e
passes image fuel c checks found e none is =
    let go = enter_entry (machine_meaning image) (table_of_image image) c fuel in
    ap (λ o. refused_or c o (reads_of checks) (λ reads. with_found found (go reads))) none ∙ ap (λ o. with_found o (go (reads_of checks))) is

limits_on : (image : Image) (fuel : ℕ) (c : Content) (who : List ℕ) (op : Op) (e : Entry) → entry_of (table_of_image image) c who (operation_of op) ≡ Some e
    → refusal_of (checks_of (table_of_image image) c who (operation_of op)) ≡ None
    → IsInLimits (machine_invocation image c (record { who = who; operation = operation_of op }) fuel)
    → IsInLimits (enter_entry (machine_meaning image) (table_of_image image) c fuel (reads_of (checks_of (table_of_image image) c who (operation_of op))) e)
limits_on image fuel c who (New contract args into) e is none h =
    let r : NewRequest = record { contract = contract; args = map argument_meant args; into = into } in
    subst IsInLimits (passes image fuel c (new_checks (table_of_image image) c who r) (entry_of_new (table_of_image image) who r) e none is) h
limits_on image fuel c who (Call on tx args into) e is none h =
    let r : CallRequest = record { on = on; tx = tx; args = map argument_meant args; into = into } in
    subst IsInLimits (passes image fuel c (call_checks (table_of_image image) c who r) (entry_of_call (table_of_image image) c who r) e none is) h
limits_on image fuel c who (Disown on) e is none h = absurd (none_some is)
limits_on image fuel c who (Give on to into mode) e is none h = absurd (none_some is)
limits_on image fuel c who (See on) e is none h = absurd (none_some is)
limits_on image fuel c who (Owner on) e is none h = absurd (none_some is)

pub enters_so : (image : Image) (fuel : ℕ) (base : Stored) (who : List ℕ) (op : Op) (entered : Entered) (items : List ReadItem)
    → (k : EntersSo (content_of base) (checks_of (table_of_image image) (content_of base) who (operation_of op))
    (entry_of (table_of_image image) (content_of base) who (operation_of op)) who entered)
    → items ≡ reads_of (checks_of (table_of_image image) (content_of base) who (operation_of op))
    → IsInLimits (machine_invocation image (content_of base) (record { who = who; operation = operation_of op }) fuel)
    → Enters image fuel base who (into_of op) entered items
    (asked_by fuel who op k.entry (reads_of (checks_of (table_of_image image) (content_of base) who (operation_of op))))
enters_so image fuel base who op entered items k told h =
    let c = content_of base in
    let reads = reads_of (checks_of (table_of_image image) c who (operation_of op)) in
    let of = entry_is_of (table_of_image image) c who op k.entry k.is in
    record {
      units = refl;
      client = refl;
      enters = k.is;
      those = record {
        client = of.client;
        name = of.name;
        uses = k.uses;
        given = k.given;
        stand = of.stand;
        read = uses_read image c who op reads k.entry (record { found = k.is; passed = k.passed; told = refl });
      };
      stands = record { client = of.client; name = of.name; machine = k.machine; uses = k.uses; given = k.given };
      noted = same_items reads items (sym told);
      limits = limits_on image fuel c who op k.entry k.is k.passed h;
    }

pub opens_so : (image : Image) (fuel : ℕ) (base : Stored) (who : List ℕ) (op : Op) (e : Entry) (units : ℕ)
    → refusal_of (checks_of (table_of_image image) (content_of base) who (operation_of op)) ≡ None
    → entry_of (table_of_image image) (content_of base) who (operation_of op) ≡ Some e
    → slice image fuel (content_of base) units (opened (record { who = who; operation = operation_of op }))
    ≡ tested image base units (asked_by fuel who op e (reads_of (checks_of (table_of_image image) (content_of base) who (operation_of op))))
opens_so image fuel base who (New contract args into) e units none is =
    let r : NewRequest = record { contract = contract; args = map argument_meant args; into = into } in
    passes_checks image fuel (content_of base) units (record { who = who; operation = new_request r })
    (new_checks (table_of_image image) (content_of base) who r) (entry_of_new (table_of_image image) who r) e none is
opens_so image fuel base who (Call on tx args into) e units none is =
    let r : CallRequest = record { on = on; tx = tx; args = map argument_meant args; into = into } in
    passes_checks image fuel (content_of base) units (record { who = who; operation = call_request r })
    (call_checks (table_of_image image) (content_of base) who r) (entry_of_call (table_of_image image) (content_of base) who r) e none is
opens_so image fuel base who (Disown on) e units none is = absurd (none_some is)
opens_so image fuel base who (Give on to into mode) e units none is = absurd (none_some is)
opens_so image fuel base who (See on) e units none is = absurd (none_some is)
opens_so image fuel base who (Owner on) e units none is = absurd (none_some is)

-- A later slice.

-- the code is where the plain run is paused
pub record GoesOn (image : Image) (base : Stored) (who : List ℕ) (into : Option (List ℕ)) (s : Paused) (items : List ReadItem) (r : Run) : Type 0 where
  pub asked : Asked
  pub phase : Phase
  pub at : IsAt image base who into s items asked phase
  pub is : (fuel units : ℕ) → slice image fuel (content_of base) units r ≡ sliced_at image base units asked phase

paused_on : (image : Image) (fuel : ℕ) (base : Stored) (who : List ℕ) (op : Op) (i : Invocation) (x : Request) (reads : List ReadItem) (p : Phase) (h : Held)
    (s : Paused) (items : List ReadItem) → IsPause image fuel (content_of base) (record { who = who; operation = operation_of op }) i x reads p h → IsInLimits i
    → StandsPaused image base x p h s → ReadSame ((world_of p).reads ++ reads) items → GoesOn image base who (into_of op) s items (paused x reads p h)
paused_on image fuel base who op i x reads p h s items so limits at same =
    let c = content_of base in
    let q : Request = record { who = who; operation = operation_of op } in
    let here = phase_onto (laid_over c.objects h) p in
    let on = subst (λ y. StandsPaused image base y p h s) so.request at in
    let entry : on.entry ≡ so.entry = some_same (sym on.enters ∙ so.asked.found) in
    let of = entry_is_of (table_of_image image) c who op so.entry so.asked.found in
    let read = phase_reads p (laid_over c.objects h) in
    record {
      asked = asked_by fuel who op so.entry reads;
      phase = here;
      at = record {
        enters = so.asked.found;
        client = refl;
        those = record {
          client = of.client;
          name = of.name;
          uses = subst (λ e. map (use_of who) s.uses ≡ handle_uses c e) entry on.uses;
          given = on.given ∙ ap (λ (e : Entry). e.given) entry;
          stand = of.stand;
          read = uses_read image c who op reads so.entry so.asked;
        };
        reached = record { start = so.start; number = so.number; by = so.reaches; limits = subst IsInLimits so.is limits };
        phase = on.phase;
        unread = on.unread;
        noted = all_on reads ((world_of p).reads ++ reads) items (all_right (world_of p).reads reads reads (all_itself reads)) same.0;
        within = subst (λ rs. AllRead items (rs ++ reads)) (sym read) same.1;
      };
      is = λ n units. ap (λ y. slice image n c units (paused y reads p h)) so.request
          ∙ ap (λ o. with_thing o (λ e. sliced image c units q e reads here)) so.asked.found;
    }

goes_on_by : (image : Image) (fuel : ℕ) (base : Stored) (who : List ℕ) (op : Op) (i : Invocation) (r : Run) (s : Paused) (items : List ReadItem)
    → IsSoFar image fuel (content_of base) (record { who = who; operation = operation_of op }) i r → IsInLimits i → StandsAt image base r (stage.Paused s)
    → ReadSame (reads_of_run r) items → GoesOn image base who (into_of op) s items r
goes_on_by image fuel base who op i (opened q) s items so limits at same = absurd at
goes_on_by image fuel base who op i (paused x reads p h) s items so limits at same =
    paused_on image fuel base who op i x reads p h s items so limits at same
goes_on_by image fuel base who op i (answered a) s items so limits at same = absurd at
goes_on_by image fuel base who op i lost s items so limits at same = absurd at

pub goes_on_from : (image : Image) (fuel : ℕ) (base : Stored) (request : wire.Request) (i : Invocation) (r : Run) (s : Paused) (st : State)
    → IsSoFar image fuel (content_of base) (request_of request) i r → IsInLimits i → RunRepresents image base r st → st.stage ≡ stage.Paused s
    → GoesOn image base request.who (into_of request.op) s st.reads r
goes_on_from image fuel base request i r s st so limits k e =
    goes_on_by image fuel base request.who request.op i r s st.reads so limits (subst (StandsAt image base r) e k.at) k.reads

-- a run that was answered goes no further
answered_by : (image : Image) (fuel : ℕ) (base : Stored) (r : Run) (told : Answered) (units : ℕ) → StandsAt image base r (stage.Answered told)
    → slice image fuel (content_of base) units r ≡ r
answered_by image fuel base (opened q) told units at = absurd at
answered_by image fuel base (paused q reads p h) told units at = absurd at
answered_by image fuel base (answered a) told units at = refl
answered_by image fuel base lost told units at = refl

pub answered_stays : (image : Image) (fuel : ℕ) (base : Stored) (r : Run) (told : Answered) (st : State) (units : ℕ) → RunRepresents image base r st
    → st.stage ≡ stage.Answered told
    → RunRepresents image base (slice image fuel (content_of base) units r) (record { stage = stage.Answered told; reads = st.reads; taken = st.taken })
answered_stays image fuel base r told st units k e =
    let at = subst (StandsAt image base r) e k.at in
    subst (λ x. RunRepresents image base x (record { stage = stage.Answered told; reads = st.reads; taken = st.taken })) (sym (answered_by image fuel base r told units at))
    (record { at = at; reads = k.reads; taken = k.taken })

over_never : (image : Image) (base : Stored) (r : Run) → StandsAt image base r stage.Over → ⊥
over_never image base (opened q) at = at
over_never image base (paused q reads p h) at = at
over_never image base (answered a) at = at
over_never image base lost at = at

pub never_over : (image : Image) (base : Stored) (r : Run) (st : State) → RunRepresents image base r st → st.stage ≡ stage.Over → ⊥
never_over image base r st k e = over_never image base r (subst (StandsAt image base r) e k.at)

-- What a slice has led to.

paused_by : (image : Image) (base : Stored) (r : Run) (s : Paused) (run : CodeRun) → StandsAt image base r (stage.Paused s) → RunRepresents image base r run.state
    → Leads image base r run slice_outcome.Paused
paused_by image base (opened q) s run at k = absurd at
paused_by image base (paused q reads p h) s run at k = k
paused_by image base (answered a) s run at k = absurd at
paused_by image base lost s run at k = absurd at

pub leads_paused : (image : Image) (base : Stored) (r : Run) (s : Paused) (st : State) (run : CodeRun) → RunRepresents image base r st → st.stage ≡ stage.Paused s
    → run.state ≡ record { stage = stage.Paused s; reads = st.reads; taken = st.taken } → Leads image base r run slice_outcome.Paused
leads_paused image base r s st run k e f =
    let at = subst (StandsAt image base r) e k.at in
    paused_by image base r s run at (subst (RunRepresents image base r) (sym f) (record { at = at; reads = k.reads; taken = k.taken }))

ended_by : (image : Image) (base : Stored) (r : Run) (told : Answered) (st : State) (run : CodeRun) (reply : Reply) → StandsAt image base r (stage.Answered told)
    → RunRepresents image base r st → run.state.reads ≡ st.reads → run.state.taken ≡ st.taken → reply.id ≡ Some run.request.id → reply.answer ≡ told.answer
    → Leads image base r run (slice_outcome.Ended reply told.delta)
ended_by image base (opened q) told st run reply at k e f id answer = absurd at
ended_by image base (paused q reads p h) told st run reply at k e f id answer = absurd at
ended_by image base (answered a) told st run reply at k e f id answer =
    (id, (answer ∙ at.0, at.1), subst (ReadSame a.reads) (sym e) k.reads, f ∙ k.taken)
ended_by image base lost told st run reply at k e f id answer = absurd at

pub leads_ended : (image : Image) (base : Stored) (r : Run) (told : Answered) (st : State) (run : CodeRun) (reply : Reply) → RunRepresents image base r st
    → st.stage ≡ stage.Answered told → run.state.reads ≡ st.reads → run.state.taken ≡ st.taken → reply.id ≡ Some run.request.id → reply.answer ≡ told.answer
    → Leads image base r run (slice_outcome.Ended reply told.delta)
leads_ended image base r told st run reply k e f g id answer =
    ended_by image base r told st run reply (subst (StandsAt image base r) e k.at) k f g id answer

pub leads_on : (image : Image) (base : Stored) (r : Run) (items : List ReadItem) (taken : ℕ) (s : Stage) (run : CodeRun) → LeadsBy image base r None items taken s
    → run.state ≡ record { stage = s; reads = items; taken = taken } → Leads image base r run slice_outcome.Paused
leads_on image base r items taken (stage.Paused s) run k e = leads_paused image base r s (record { stage = stage.Paused s; reads = items; taken = taken }) run k refl e
leads_on image base r items taken (stage.Answered told) run k e = absurd k
leads_on image base r items taken stage.Over run k e = absurd k

pub leads_to_end : (image : Image) (base : Stored) (r : Run) (told : Answered) (items : List ReadItem) (taken : ℕ) (s : Stage) (run : CodeRun) (reply : Reply)
    → LeadsBy image base r (Some told) items taken s → run.state.reads ≡ items → run.state.taken ≡ taken → reply.id ≡ Some run.request.id → reply.answer ≡ told.answer
    → Leads image base r run (slice_outcome.Ended reply told.delta)
leads_to_end image base r told items taken s run reply k e f id answer =
    leads_ended image base r told (record { stage = stage.Answered told; reads = items; taken = taken }) run reply k refl e f id answer

-- Which stage it is.

abbrev told_of : Stage → Option Answered
told_of (stage.Paused s) = None
told_of (stage.Answered told) = Some told
told_of stage.Over = None

-- an answer as the end of a slice
abbrev pub end_told : List ReadItem → ℕ → Answered → SliceEnd
end_told items taken told = record { answered = Some told; reads = items; taken = taken }

pub same_end : (items : List ReadItem) (taken : ℕ) (told other : Answered) → stage.Answered told ≡ stage.Answered other
    → end_told items taken told ≡ end_told items taken other
same_end items taken told other e = ap (end_told items taken) (some_same (ap told_of e))

pub paused_answered : (s : Paused) (told : Answered) → stage.Paused s ≡ stage.Answered told → ⊥
paused_answered s told e = none_some (ap told_of e)

pub over_answered : (told : Answered) → stage.Over ≡ stage.Answered told → ⊥
over_answered told e = none_some (ap told_of e)
