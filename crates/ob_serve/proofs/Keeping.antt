-- Each item of a session over sound code is kept, and is the same by the code and by the source meaning.
use Rattle.std.proofs.Common.{◌≡◌, ◌+◌, ℕ, ℤ, true, false, List, [], ◌∷◌, ◌++◌, map, Option, Some, None, refl, sym, ◌∙◌, ap, subst, arith}
use Rattle.std.specs.Prelude.{Result, Ok, Err, IfOk, slice_get, option_to_list}
use Rattle.ob_table.specs.Tables.{ClassTable}
use Rattle.ob_code.specs.declared.image.Image.{Image}
use Rattle.ob_heap_spec.specs.Contents.{Content, empty_content}
use Rattle.ob_rest_spec.specs.AtRest.{IsStoreAtRest}
use Rattle.ob_rest_laws.proofs.OneOwner.{one_owner}
use Rattle.ob_invocation_spec.specs.Requests.{HasLabels}
use Rattle.ob_invocation_spec.specs.Replies as told
use Rattle.ob_invocation_spec.specs.Replies.{Invocation, invoked, goes_wrong, is_ok}
use Rattle.ob_invocation_spec.specs.SourceInvocation.{source_invocation, source_meaning}
use Rattle.ob_invocation_laws.specs.Laws.{LeavesUnlessDone, KeepsStoreAtRest}
use Rattle.ob_invocation_laws.proofs.Leaving.{leaves}
use Rattle.ob_code_table.specs.ImageTables.{table_of_image}
use Rattle.ob_machine_meaning.specs.Meanings.{machine_invocation}
use Rattle.ob_silica_steps.specs.Configurations.{SilicaProgram}
use Rattle.ob_sound_code.specs.SoundCode.{SameInvocation, IsSoundCode}
use Rattle.ob_exec_handles.specs.Coming.{IsInLimits}
use Rattle.ob_store_spec.specs.Between.{changes_between}
use Rattle.ob_store_spec.specs.Settling.{say_nothing, settled}
use Rattle.ob_store_spec.specs.Stores.{StoreProgram, StoreState}
use Rattle.ob_wire.specs.Meanings.{request_of, answer_of}
use Rattle.ob_wire.specs.declared.refusal.Refusal.{Refusal}
use Rattle.ob_wire.specs.declared.request.Incoming.{Incoming}
use Rattle.ob_wire.specs.declared.request.Incoming.TheVariants.{One, Batch}
use Rattle.ob_wire.specs.declared.request.Request.{Request}
use Rattle.ob_wire.specs.declared.reply.Answer.{Answer}
use Rattle.ob_serve.specs.Session.{SessionItem, session, state_after, requests_in}
use Rattle.ob_serve.specs.Asked.{asked_by}
use Rattle.ob_serve.specs.Settled.{HoldsIfOk, settled_content}
use Rattle.ob_serve.specs.Batches.{commit_order}
use Rattle.ob_serve.specs.declared.limits.Limits.{Limits}
use Rattle.ob_serve.specs.Items.{Service, by_source, by_machine, refused_item, settled_item, invoked_item, request_item, request_items, in_order, items_of_asked, items_of_line}
use Rattle.ob_serve.specs.Kept.{says_done, IsKept, AreKept, KeepsSessions, IsSoundFor, GoesAsSource}
use Rattle.ob_serve.specs.Standing.{source_program}
use Rattle.ob_store.specs.Stores.{program_of}
use Rattle.ob_serve.proofs.Asking.{HasAllLabels, asked_labels}
use Rattle.ob_serve.proofs.Tables.{settles_alike}
use Rattle.ob_serve.proofs.Unchanged.{nothing_differs}

-- the store at the start is at rest
pub empty_rests : (table : ClassTable) → IsStoreAtRest table empty_content
empty_rests table = record {
  is_content = record {
    objects = λ k d lt. absurd (omega (arith, lt));
    handles = λ k d lt. absurd (omega (arith, lt));
    order = λ i j d e f. absurd (omega (arith, f));
  };
  at_rest = λ n lt. absurd (omega (arith, lt));
  few_objects = omega arith;
  few_handles = omega arith;
}

-- ---- what becomes of a store

-- where nothing changes, the store stays
pub settled_same : (program : StoreProgram) (area : Option ℕ) (s : StoreState) (after : Content) → after ≡ s.content → settled program area s after ≡ Ok s
settled_same program None s after same = ap (λ (c : Content). Ok (record s { content = c })) same
settled_same program (Some size) s after same =
    let none : say_nothing (changes_between program.table s.content after) ≡ true = ap (λ (c : Content). say_nothing (changes_between program.table s.content c)) same ∙ nothing_differs program.table s.content in
    rw none (ap (λ (c : Content). Ok (record s { content = c })) same)

-- ---- what an item keeps

-- what comes to the same gives the same item
same_item : (program : SilicaProgram) (image : Image) (area : Option ℕ) (s : StoreState) (id : ℤ) (a b : Invocation) → IsSoundFor program image → SameInvocation a b
    → invoked_item (program_of image) area s id b ≡ invoked_item (source_program program.table image) area s id a
same_item program image area s id (invoked a) (invoked b) sound same =
    ap (λ (reply : told.Reply). settled_item id (answer_of reply) s (settled (program_of image) area s b.content)) same.reply
    ∙ ap (λ (c : Content). settled_item id (answer_of a.reply) s (settled (program_of image) area s c)) same.content
    ∙ ap (settled_item id (answer_of a.reply) s) (settles_alike program image sound area s a.content)
same_item program image area s id (invoked a) goes_wrong sound same = absurd same
same_item program image area s id goes_wrong (invoked b) sound same = absurd same
same_item program image area s id goes_wrong goes_wrong sound same = refl

-- and leaves a store at rest alike
rests_alike : (table : ClassTable) (a b : Invocation) → SameInvocation a b → KeepsStoreAtRest table b → KeepsStoreAtRest table a
rests_alike table (invoked a) (invoked b) same rests = subst (IsStoreAtRest table) same.content rests
rests_alike table (invoked a) goes_wrong same rests = absurd same
rests_alike table goes_wrong (invoked b) same rests = absurd same
rests_alike table goes_wrong goes_wrong same rests = absurd rests

-- a store at rest has no more objects than there may be
pub within_limits : (table : ClassTable) (i : Invocation) → KeepsStoreAtRest table i → IsInLimits i
within_limits table (invoked i) rests = rests.few_objects
within_limits table goes_wrong rests = absurd rests

-- a reply says whether its request was done
told_done : (reply : told.Reply) → says_done (answer_of reply) ≡ is_ok reply
told_done told.ok_nothing = refl
told_done (told.ok_value value) = refl
told_done (told.ok_object n) = refl
told_done (told.ok_shown o) = refl
told_done (told.ok_place place) = refl
told_done (told.refused refusal) = refl
told_done (told.aborted cause state) = refl

one_store : (t s : StoreState) → ◌≡◌ {A = Result StoreState (ℕ × ℕ)} (Ok t) (Ok s) → t ≡ s
one_store t s same = cc

-- an item is kept, whether or not the store has room
settled_kept : (table : ClassTable) (s : StoreState) (id : ℤ) (answer : Answer) (after : Content) (r : Result StoreState (ℕ × ℕ)) → IsStoreAtRest table s.content → IsStoreAtRest table after
    → HoldsIfOk after r → (says_done answer ≡ false → r ≡ Ok s) → IsKept table s (settled_item id answer s r)
settled_kept table s id answer after (Ok t) before rests is stays =
    let quiet : IsStoreAtRest table t.content = subst (IsStoreAtRest table) (sym is) rests in
    record { answered = refl; at_rest = quiet; one_owner = one_owner table t.content quiet.at_rest; unchanged = λ undone. one_store t s (stays undone) }
settled_kept table s id answer after (Err lack) before rests is stays = record {
  answered = refl;
  at_rest = before;
  one_owner = one_owner table s.content before.at_rest;
  unchanged = λ undone. refl;
}

-- what a request comes to is kept, if it leaves the store at rest
invoked_kept : (program : StoreProgram) (area : Option ℕ) (s : StoreState) (id : ℤ) (i : Invocation) → IsStoreAtRest program.table s.content → KeepsStoreAtRest program.table i
    → LeavesUnlessDone s.content i → IsKept program.table s (invoked_item program area s id i)
invoked_kept program area s id (invoked i) before rests stays =
    settled_kept program.table s id (answer_of i.reply) i.content (settled program area s i.content) before rests (settled_content program area s i.content)
    (λ undone. settled_same program area s i.content (stays (sym (told_done i.reply) ∙ undone)))
invoked_kept program area s id goes_wrong before rests stays = absurd rests

refused_kept : (table : ClassTable) (s : StoreState) (refusal : Refusal) → IsStoreAtRest table s.content → IsKept table s (refused_item s refusal)
refused_kept table s refusal rests = record {
  answered = refl;
  at_rest = rests;
  one_owner = one_owner table s.content rests.at_rest;
  unchanged = λ undone. refl;
}

-- items are kept that follow kept ones
kept_append : (table : ClassTable) (s : StoreState) (xs ys : List (SessionItem StoreState)) → AreKept table s xs → AreKept table (state_after s xs) ys → AreKept table s (xs ++ ys)
kept_append table s [] ys kept more = more
kept_append table s (x ∷ xs) ys kept more = (kept.0, kept_append table x.after xs ys kept.1 more)

-- and after them the store is at rest
rests_after : (table : ClassTable) (s : StoreState) (xs : List (SessionItem StoreState)) → IsStoreAtRest table s.content → AreKept table s xs → IsStoreAtRest table (state_after s xs).content
rests_after table s [] rests kept = rests
rests_after table s (x ∷ xs) rests kept = rests_after table x.after xs kept.0.at_rest kept.1

-- the names in each of these requests are labels
abbrev AreLabeled : List Request → Type 0
AreLabeled [] = Unit {0}
AreLabeled (request ∷ requests) = HasLabels (request_of request) × AreLabeled requests

labeled_at : (o : Option Request) (requests : List Request) → ((request : Request) → o ≡ Some request → HasLabels (request_of request)) → AreLabeled requests → AreLabeled (option_to_list o ++ requests)
labeled_at None requests one rest = rest
labeled_at (Some request) requests one rest = (one request refl, rest)

labeled_order : (batch : List Request) (order : List ℕ) → HasAllLabels (Batch batch) → AreLabeled (in_order batch order)
labeled_order batch [] labels = tt
labeled_order batch (n ∷ order) labels = labeled_at (slice_get batch n) (in_order batch order) (labels n) (labeled_order batch order labels)

module _ (program : SilicaProgram) (image : Image) (limits : Limits) (area : Option ℕ) (for : IsSoundFor program image) where
  sound : IsSoundCode program image
  sound = for.sound

  abbrev machine : Service
  machine = by_machine image limits area

  abbrev source : Service
  source = by_source (source_program program.table image) image limits area

  request_same : (s : StoreState) (request : Request) → IsStoreAtRest program.table s.content → HasLabels (request_of request) → request_item machine s request ≡ request_item source s request
  request_same s request rests labels =
      same_item program image area s request.id (source_invocation program.table s.content (request_of request) limits.fuel) (machine_invocation image s.content (request_of request) limits.fuel)
      for (sound.source.requests s.content (request_of request) limits.fuel rests labels)

  request_kept : (s : StoreState) (request : Request) → IsStoreAtRest program.table s.content → HasLabels (request_of request) → IsKept program.table s (request_item source s request)
  request_kept s request rests labels =
      invoked_kept (source_program program.table image) area s request.id (source_invocation program.table s.content (request_of request) limits.fuel) rests
      (rests_alike program.table (source_invocation program.table s.content (request_of request) limits.fuel) (machine_invocation image s.content (request_of request) limits.fuel)
      (sound.source.requests s.content (request_of request) limits.fuel rests labels) (sound.by_table.rests s.content (request_of request) limits.fuel rests labels))
      (leaves (source_meaning program.table limits.fuel) program.table s.content (request_of request) limits.fuel)

  requests_same : (s : StoreState) (requests : List Request) → IsStoreAtRest program.table s.content → AreLabeled requests → request_items machine s requests ≡ request_items source s requests
  requests_same s [] rests labels = refl
  requests_same s (request ∷ requests) rests labels =
      let item = request_item source s request in
      ap (λ (i : SessionItem StoreState). i ∷ request_items machine i.after requests) (request_same s request rests labels.0)
      ∙ ap (λ (is : List (SessionItem StoreState)). item ∷ is) (requests_same item.after requests (request_kept s request rests labels.0).at_rest labels.1)

  requests_kept : (s : StoreState) (requests : List Request) → IsStoreAtRest program.table s.content → AreLabeled requests → AreKept program.table s (request_items source s requests)
  requests_kept s [] rests labels = tt
  requests_kept s (request ∷ requests) rests labels =
      let kept = request_kept s request rests labels.0 in
      (kept, requests_kept (request_item source s request).after requests kept.at_rest labels.1)

  asked_same : (s : StoreState) (asked : Result Incoming Refusal) → IsStoreAtRest program.table s.content → IfOk asked HasAllLabels → items_of_asked machine s asked ≡ items_of_asked source s asked
  asked_same s (Err refusal) rests labels = refl
  asked_same s (Ok (One request)) rests labels = requests_same s (request ∷ []) rests (labels, tt)
  asked_same s (Ok (Batch batch)) rests labels =
      let order = commit_order (program_of image) image limits area s (map request_of batch) in
      requests_same s (in_order batch order) rests (labeled_order batch order labels)

  asked_kept : (s : StoreState) (asked : Result Incoming Refusal) → IsStoreAtRest program.table s.content → IfOk asked HasAllLabels → AreKept program.table s (items_of_asked source s asked)
  asked_kept s (Err refusal) rests labels = (refused_kept program.table s refusal rests, tt)
  asked_kept s (Ok (One request)) rests labels = requests_kept s (request ∷ []) rests (labels, tt)
  asked_kept s (Ok (Batch batch)) rests labels =
      let order = commit_order (program_of image) image limits area s (map request_of batch) in
      requests_kept s (in_order batch order) rests (labeled_order batch order labels)

  -- a session goes by the code as by the source meaning
  pub same_items : (s : StoreState) (lines : List (List ℕ)) → IsStoreAtRest program.table s.content
      → session (items_of_line (by_machine image limits area)) s lines ≡ session (items_of_line (by_source (source_program program.table image) image limits area)) s lines
  same_items s [] rests = refl
  same_items s (line ∷ lines) rests =
      let xs = items_of_line source s line in
      ap (λ (is : List (SessionItem StoreState)). is ++ session (items_of_line machine) (state_after s is) lines) (asked_same s (asked_by line) rests (asked_labels line))
      ∙ ap (λ (is : List (SessionItem StoreState)). xs ++ is)
      (same_items (state_after s xs) lines (rests_after program.table s xs rests (asked_kept s (asked_by line) rests (asked_labels line))))

  pub kept_items : (s : StoreState) (lines : List (List ℕ)) → IsStoreAtRest program.table s.content
      → AreKept program.table s (session (items_of_line (by_source (source_program program.table image) image limits area)) s lines)
  kept_items s [] rests = tt
  kept_items s (line ∷ lines) rests =
      let xs = items_of_line source s line in
      let kept = asked_kept s (asked_by line) rests (asked_labels line) in
      kept_append program.table s xs (session (items_of_line source) (state_after s xs) lines) kept (kept_items (state_after s xs) lines (rests_after program.table s xs rests kept))

-- a session goes by the code as by the source meaning
pub goes_as_source : (program : SilicaProgram) (image : Image) (limits : Limits) → IsSoundFor program image → GoesAsSource program image limits
goes_as_source program image limits sound area start lines rests = same_items program image limits area sound start (requests_in lines) rests

-- and keeps what each item is to keep
pub keeps_sessions : (program : SilicaProgram) (image : Image) (limits : Limits) → IsSoundFor program image → KeepsSessions (source_program program.table image) image limits
keeps_sessions program image limits sound area start lines rests = kept_items program image limits area sound start (requests_in lines) rests

-- By sound code a store is at rest after each item.

settled_rests : (table : ClassTable) (s : StoreState) (id : ℤ) (answer : Answer) (after : Content) (r : Result StoreState (ℕ × ℕ)) → IsStoreAtRest table s.content → IsStoreAtRest table after
    → HoldsIfOk after r → IsStoreAtRest table (settled_item id answer s r).after.content
settled_rests table s id answer after (Ok t) before rests is = subst (IsStoreAtRest table) (sym is) rests
settled_rests table s id answer after (Err lack) before rests is = before

pub invoked_rests : (image : Image) (area : Option ℕ) (s : StoreState) (id : ℤ) (i : Invocation) → IsStoreAtRest (table_of_image image) s.content → KeepsStoreAtRest (table_of_image image) i
    → IsStoreAtRest (table_of_image image) (invoked_item (program_of image) area s id i).after.content
invoked_rests image area s id (invoked i) before rests =
    settled_rests (table_of_image image) s id (answer_of i.reply) i.content (settled (program_of image) area s i.content) before rests
    (settled_content (program_of image) area s i.content)
invoked_rests image area s id goes_wrong before rests = before
