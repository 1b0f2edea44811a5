-- The schedule of requests by code.
use Rattle.std.proofs.Common.{◌≡◌, ℕ, ◌<◌, ◌⊎◌, inl, inr, true, false, List, [], ◌∷◌, ◌++◌, None, refl, sym, ap, ◌∙◌, subst, true≢false}
use Rattle.std.specs.Prelude.{Result, Ok, Err}
use Rattle.ob_heap_spec.specs.Contents.{Content}
use Rattle.ob_rest_spec.specs.AtRest.{IsStoreAtRest}
use Rattle.ob_rest_spec.specs.Incoming.{owner_of}
use Rattle.ob_invocation_spec.specs.Handles.{handle_name}
use Rattle.ob_invocation_spec.specs.Replies.{Invoked, invoked}
use Rattle.ob_invocation_spec.specs.Requests.{Operation, new_request, call_request, disown_request, give_request, see_request, owner_request, Request, HasLabels}
use Rattle.ob_invocation_laws.specs.Laws.{KeepsStoreAtRest}
use Rattle.ob_code.specs.declared.image.Image.{Image}
use Rattle.ob_code_table.specs.ImageTables.{table_of_image}
use Rattle.ob_machine_meaning.specs.Meanings.{machine_invocation}
use Rattle.ob_machine_steps.specs.Measures.{LeadsAheadOrToUnit}
use Rattle.ob_lanes_laws.specs.UnownedLaws.{KeepsStores, LeavesUnowned}
use Rattle.ob_lanes_laws.proofs.Unowned.{unowned_stay_so}
use Rattle.ob_request_run_laws.specs.Runs.{Answer, Run, opened, paused, answered, lost, reads_of_run, content_after, invoked_by}
use Rattle.ob_request_run_laws.specs.Slices.{slice, slices}
use Rattle.ob_request_run_laws.specs.Laws.{ComesTo, OwnsAlike}
use Rattle.ob_request_run_laws.proofs.There.{handles_below}
use Rattle.ob_request_run_laws.proofs.Whole.{slices_come_to}
use Rattle.ob_request_run_laws.proofs.Requests.{requests_are_local}
use Rattle.ob_lanes_laws.specs.Schedule.{run_of, Event, after_events, idle}
use Rattle.ob_lanes_laws.specs.Serial.{IsSerializable, IsEnded}
use Rattle.ob_lanes_laws.specs.Conflicts.{conflicts}
use Rattle.ob_lanes_laws.specs.Requests.{Stores, store_by, IsInvoked, has_ended, commit, answer, request_rules}
use Rattle.ob_lanes_laws.specs.Turns.{after_turns}
use Rattle.ob_lanes_laws.specs.Measures.{turns_left}
use Rattle.ob_lanes_laws.specs.Laws.{OfEach, IsAtRestIn, IsAnsweredIn}
use Rattle.ob_lanes_laws.proofs.Keeping.{Fits, events_serializable}
use Rattle.ob_lanes_laws.proofs.Ending.{batch_ends}
use Rattle.ob_lanes_laws.proofs.Same.{agree_if}
use Rattle.ob_lanes_laws.proofs.Distance.{request_distances}

-- Slices.

-- units in the order in which they were given
abbrev in_order : List ℕ → List ℕ
in_order [] = []
in_order (units ∷ given) = in_order given ++ units ∷ []

slices_then : (image : Image) (fuel : ℕ) (c : Content) (more : List ℕ) (units : ℕ) (r : Run) → slices image fuel c (more ++ units ∷ []) r ≡ slice image fuel c units (slices image fuel c more r)
slices_then image fuel c [] units r = refl
slices_then image fuel c (u ∷ more) units r = slices_then image fuel c more units (slice image fuel c u r)

run_is : {S L : Type 0} (stores : Stores S L) (image : Image) (fuel : ℕ) (s : S) (given : List ℕ) (q : Request) → run_of (request_rules stores image fuel) s given q ≡ slices image fuel (stores.content_of s) (in_order given) (opened q)
run_is stores image fuel s [] q = refl
run_is stores image fuel s (units ∷ given) q =
    ap (slice image fuel (stores.content_of s) units) (run_is stores image fuel s given q) ∙ sym (slices_then image fuel (stores.content_of s) (in_order given) units (opened q))

-- A run that has ended.

-- it has been answered, and is the invocation of its request
record IsAnswerOf {S L : Type 0} (stores : Stores S L) (image : Image) (fuel : ℕ) (s : S) (q : Request) (r : Run) : Type 0 where
  it : Answer
  is : r ≡ answered it
  comes : machine_invocation image (stores.content_of s) q fuel ≡ invoked (invoked_by (stores.content_of s) it)

answer_by_run : {S L : Type 0} (stores : Stores S L) (image : Image) (fuel : ℕ) (s : S) (q : Request) (r : Run) → KeepsStoreAtRest (table_of_image image) (machine_invocation image (stores.content_of s) q fuel)
    → ComesTo (stores.content_of s) (machine_invocation image (stores.content_of s) q fuel) r → has_ended r ≡ true → IsAnswerOf stores image fuel s q r
answer_by_run stores image fuel s q (opened p) keeps comes over = absurd (true≢false (sym over))
answer_by_run stores image fuel s q (paused p reads x h) keeps comes over = absurd (true≢false (sym over))
answer_by_run stores image fuel s q (answered a) keeps comes over = record { it = a; is = refl; comes = comes }
answer_by_run stores image fuel s q lost keeps comes over = absurd (subst (KeepsStoreAtRest (table_of_image image)) comes keeps)

answer_of : {S L : Type 0} (stores : Stores S L) (image : Image) (fuel : ℕ) (s : S) (q : Request) (r : Run) → LeadsAheadOrToUnit image → KeepsStores image → IsAtRestIn stores image s → HasLabels q → IsEnded (request_rules stores image fuel) s q r
    → IsAnswerOf stores image fuel s q r
answer_of stores image fuel s q r ahead keeps rest labels ended =
    answer_by_run stores image fuel s q r (keeps (stores.content_of s) q fuel rest labels)
    (subst (ComesTo (stores.content_of s) (machine_invocation image (stores.content_of s) q fuel)) (sym (ended.is ∙ run_is stores image fuel s ended.given q)) (slices_come_to image fuel (stores.content_of s) q (in_order ended.given) ahead)) ended.over

-- what the store holds after its commit: what it held, or what the invocation leaves
record Leaves {S L : Type 0} (stores : Stores S L) (image : Image) (fuel : ℕ) (s t : S) (q : Request) : Type 0 where
  it : Invoked
  comes : machine_invocation image (stores.content_of s) q fuel ≡ invoked it
  content : (stores.content_of t ≡ stores.content_of s) ⊎ (stores.content_of t ≡ it.content)

settled_content : {S L : Type 0} (stores : Stores S L) (s : S) (after : Content) (o : Result S L) → stores.settle s after ≡ o → (stores.content_of (store_by s o) ≡ stores.content_of s) ⊎ (stores.content_of (store_by s o) ≡ after)
settled_content stores s after (Ok t) e = inr (stores.settles s after t e)
settled_content stores s after (Err lack) e = inl refl

leaves : {S L : Type 0} (stores : Stores S L) (image : Image) (fuel : ℕ) (s : S) (q : Request) (r : Run) → IsAnswerOf stores image fuel s q r → Leaves stores image fuel s (commit stores s r) q
leaves stores image fuel s q r a = record {
  it = invoked_by (stores.content_of s) a.it;
  comes = a.comes;
  content = subst (λ x. (stores.content_of (commit stores s x) ≡ stores.content_of s) ⊎ (stores.content_of (commit stores s x) ≡ content_after (stores.content_of s) a.it)) (sym a.is)
      (settled_content stores s (content_after (stores.content_of s) a.it) (stores.settle s (content_after (stores.content_of s) a.it)) refl);
}

rests : {S L : Type 0} (stores : Stores S L) (image : Image) (fuel : ℕ) (s t : S) (q : Request) → KeepsStores image → IsAtRestIn stores image s → HasLabels q → Leaves stores image fuel s t q → IsAtRestIn stores image t
rests stores image fuel s t q keeps rest labels l = by l.content
  where
    by : (stores.content_of t ≡ stores.content_of s) ⊎ (stores.content_of t ≡ l.it.content) → IsAtRestIn stores image t
    by (inl e) = subst (IsStoreAtRest (table_of_image image)) (sym e) rest
    by (inr e) = subst (IsStoreAtRest (table_of_image image)) (sym e) (subst (KeepsStoreAtRest (table_of_image image)) l.comes (keeps (stores.content_of s) q fuel rest labels))

unowned : {S L : Type 0} (stores : Stores S L) (image : Image) (fuel : ℕ) (s t : S) (q : Request) (n : ℕ) → KeepsStores image → IsAtRestIn stores image s → HasLabels q → Leaves stores image fuel s t q → LeavesUnowned (table_of_image image) n (machine_invocation image (stores.content_of s) q fuel)
    → owner_of (table_of_image image) (stores.content_of s) n ≡ None → owner_of (table_of_image image) (stores.content_of t) n ≡ None
unowned stores image fuel s t q n keeps rest labels l still none = by l.content
  where
    by : (stores.content_of t ≡ stores.content_of s) ⊎ (stores.content_of t ≡ l.it.content) → owner_of (table_of_image image) (stores.content_of t) n ≡ None
    by (inl e) = ap (λ c. owner_of (table_of_image image) c n) e ∙ none
    by (inr e) = ap (λ c. owner_of (table_of_image image) c n) e ∙ subst (LeavesUnowned (table_of_image image) n) l.comes still

owns_alike : {S L : Type 0} (stores : Stores S L) (image : Image) (fuel : ℕ) (s t : S) (p : Request) (who : List ℕ) (operation : Operation) → KeepsStores image → IsAtRestIn stores image s → HasLabels p → Leaves stores image fuel s t p
    → OwnsAlike (table_of_image image) (stores.content_of s) (stores.content_of t) who operation
owns_alike stores image fuel s t p who (owner_request on) keeps rest labels l = (
  rests stores image fuel s t p keeps rest labels l,
  λ h e none. unowned stores image fuel s t p h.object keeps rest labels l
      (unowned_stay_so image (stores.content_of s) p fuel h.object keeps rest labels (handles_below (table_of_image image) (stores.content_of s) rest (handle_name who on) h e) none) none,
)
owns_alike stores image fuel s t p who (new_request r) keeps rest labels l = tt
owns_alike stores image fuel s t p who (call_request r) keeps rest labels l = tt
owns_alike stores image fuel s t p who (disown_request on) keeps rest labels l = tt
owns_alike stores image fuel s t p who (give_request r) keeps rest labels l = tt
owns_alike stores image fuel s t p who (see_request on) keeps rest labels l = tt

-- The rules.

still_same : {S L : Type 0} (stores : Stores S L) (image : Image) (fuel : ℕ) (s t : S) (p q : Request) (given : List ℕ) → LeadsAheadOrToUnit image → KeepsStores image → IsAtRestIn stores image s → HasLabels p → HasLabels q → Leaves stores image fuel s t p
    → conflicts (table_of_image image) (stores.content_of s) (stores.content_of t) (reads_of_run (run_of (request_rules stores image fuel) s given q)) ≡ false
    → run_of (request_rules stores image fuel) t given q ≡ run_of (request_rules stores image fuel) s given q
still_same stores image fuel s t p q given ahead keeps rest labels asked l fresh =
    let c = stores.content_of s in
    let d = stores.content_of t in
    run_is stores image fuel t given q
    ∙ requests_are_local image fuel c d q (in_order given) ahead rest (keeps c q fuel rest asked)
    (agree_if (table_of_image image) c d (reads_of_run (slices image fuel c (in_order given) (opened q))) rest.is_content (rests stores image fuel s t p keeps rest labels l).is_content
    (ap (λ r. conflicts (table_of_image image) c d (reads_of_run r)) (sym (run_is stores image fuel s given q)) ∙ fresh))
    (owns_alike stores image fuel s t p q.who q.operation keeps rest labels l)
    ∙ sym (run_is stores image fuel s given q)

pub requests_fit : {S L : Type 0} (stores : Stores S L) (image : Image) (fuel : ℕ) → LeadsAheadOrToUnit image → KeepsStores image → Fits (request_rules stores image fuel) (IsAtRestIn stores image) HasLabels (IsInvoked stores image fuel)
requests_fit stores image fuel ahead keeps = record {
  local = λ s p q r given rest labels asked ended fresh.
      still_same stores image fuel s (commit stores s r) p q given ahead keeps rest labels asked (leaves stores image fuel s p r (answer_of stores image fuel s p r ahead keeps rest labels ended)) fresh;
  alone = λ s q r rest labels ended. let a = answer_of stores image fuel s q r ahead keeps rest labels ended in
      record { comes_to = invoked_by (stores.content_of s) a.it; is = a.comes; answer_is = ap (answer stores s) a.is; after_is = ap (commit stores s) a.is };
  fit = λ s q r rest labels ended. rests stores image fuel s (commit stores s r) q keeps rest labels (leaves stores image fuel s q r (answer_of stores image fuel s q r ahead keeps rest labels ended));
}

pub requests_are_serializable : {S L : Type 0} (stores : Stores S L) (image : Image) (fuel : ℕ) (batch : List Request) (s : S) (count : ℕ) (events : List Event) → LeadsAheadOrToUnit image → KeepsStores image → OfEach HasLabels batch → IsAtRestIn stores image s
    → IsSerializable (request_rules stores image fuel) (IsInvoked stores image fuel) batch s (after_events (request_rules stores image fuel) batch (idle s count) events)
    × IsAtRestIn stores image (after_events (request_rules stores image fuel) batch (idle s count) events).store
requests_are_serializable stores image fuel batch s count events ahead keeps labels rest =
    events_serializable (request_rules stores image fuel) (IsAtRestIn stores image) HasLabels (IsInvoked stores image fuel) batch s count events (requests_fit stores image fuel ahead keeps) labels rest

pub request_batches_end : {S L : Type 0} (stores : Stores S L) (image : Image) (fuel : ℕ) (batch : List Request) (units count : ℕ) (s : S) → LeadsAheadOrToUnit image → KeepsStores image → OfEach HasLabels batch → IsAtRestIn stores image s → 0 < units → 0 < count
    → (turns : ℕ) × IsAnsweredIn (request_rules stores image fuel) (IsInvoked stores image fuel) batch units count s turns × IsAtRestIn stores image (after_turns (request_rules stores image fuel) batch units count s turns).lanes.store
request_batches_end stores image fuel batch units count s ahead keeps labels rest u c =
    let d = request_distances stores image fuel ahead in
    let end = batch_ends (request_rules stores image fuel) (IsAtRestIn stores image) HasLabels (IsInvoked stores image fuel) d batch units count s (requests_fit stores image fuel ahead keeps) labels rest u c in
    (turns_left (request_rules stores image fuel) d batch 0 (idle s count), end.0, end.1)
