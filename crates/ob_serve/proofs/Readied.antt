-- From what a request comes to, to what is made ready for its line.
use Rattle.std.proofs.Common.{◌≡◌, ℕ, ℤ, List, map, Option, Some, None, refl, sym, ◌∙◌, ap, subst}
use Rattle.std.specs.Prelude.{Result, Ok, Err, IfOk}
use Rattle.ob_table.specs.Tables.{ClassTable}
use Rattle.ob_code.specs.declared.image.Image.{Image}
use Rattle.ob_heap_spec.specs.Objects.{Object}
use Rattle.ob_heap_spec.specs.Contents.{HandleName, Handle, Content}
use Rattle.ob_heap.specs.Plain.{object_of}
use Rattle.ob_heap.specs.Contents.{Stored, content_of, named_of}
use Rattle.ob_heap.specs.Deltas.{with_handles, IsDelta}
use Rattle.ob_heap.specs.Differences.{with_objects}
use Rattle.ob_heap.specs.declared.delta.Delta.{Delta}
use Rattle.ob_rest_spec.specs.AtRest.{IsStoreAtRest}
use Rattle.ob_invocation_spec.specs.Replies.{Invoked, Invocation, invoked, goes_wrong}
use Rattle.ob_invocation_laws.specs.Laws.{KeepsStoreAtRest}
use Rattle.ob_code_table.specs.ImageTables.{table_of_image}
use Rattle.ob_exec_handles.specs.Coming.{ComesTo}
use Rattle.ob_store_spec.specs.Settling.{settled}
use Rattle.ob_store_spec.specs.Stores.{StoreState}
use Rattle.ob_store_laws.specs.Recorded.{content_with, IsStorable}
use Rattle.ob_store.specs.Stores.{program_of, area_of_store, kept_of, state_of}
use Rattle.ob_store.specs.Preparing.{delta_prepared, IsPrepared, Prepares}
use Rattle.ob_store.proofs.Committing.{prepared_settles}
use Rattle.ob_store.specs.declared.error.PrepareError.{PrepareError}
use Rattle.ob_store.specs.declared.error.PrepareError.TheVariants.{Room}
use Rattle.ob_store.specs.declared.store.Store.{Store}
use Rattle.ob_store.specs.declared.store.Prepared.{Prepared}
use Rattle.ob_wire.specs.Meanings.{answer_of}
use Rattle.ob_wire.specs.Replies.{reply_line}
use Rattle.ob_wire.specs.declared.reply.Answer.{Answer}
use Rattle.ob_wire.specs.declared.reply.Reply.{Reply}
use Rattle.ob_wire.specs.declared.refusal.Refusal.{Refusal}
use Rattle.ob_serve.specs.Session.{SessionItem}
use Rattle.ob_serve.specs.Items.{settled_item, invoked_item, refused_item}
use Rattle.ob_serve.specs.Stops.{LeadsOn, GivesItem, IsOfDelta, refusal_line, room_line}
use Rattle.ob_serve.specs.declared.answering.Ready.{Ready}

abbrev holding : List Object → List (HandleName × Handle) → Content
holding objects handles = record { objects = objects; handles = handles }

-- a delta that leads to a content leads to this one
leads_with : (base : Stored) (delta : Delta) (content : Content) → map object_of (with_objects base.objects delta.objects) ≡ content.objects
    → map named_of (with_handles base.handles delta.handles) ≡ content.handles → content_with base delta ≡ content
leads_with base delta content objects handles =
    ap (λ (os : List Object). holding os (map named_of (with_handles base.handles delta.handles))) objects ∙ ap (holding content.objects) handles

abbrev replying : Option ℤ → Answer → Reply
replying id answer = record { id = id; answer = answer }

-- a reply is its id and its answer
reply_is : (reply : Reply) (id : ℤ) (answer : Answer) → reply.id ≡ Some id → reply.answer ≡ answer → reply ≡ replying (Some id) answer
reply_is reply id answer same told = ap (λ (i : Option ℤ). replying i reply.answer) same ∙ ap (replying (Some id)) told

-- a delta is one of the content on which a request was answered
pub comes_by_delta : (i : Invocation) (base : Stored) (answer : Answer) (delta : Delta) → ComesTo i base answer delta → IsDelta base delta
comes_by_delta (invoked i) base answer delta comes = comes.1.is
comes_by_delta goes_wrong base answer delta comes = absurd comes

-- and it leads to the content after it
pub comes_to_content : (i : Invoked) (base : Stored) (answer : Answer) (delta : Delta) → ComesTo (invoked i) base answer delta → content_with base delta ≡ i.content
comes_to_content i base answer delta comes = leads_with base delta i.content comes.1.objects comes.1.handles

-- so that content is at rest
pub comes_to_rest : (table : ClassTable) (i : Invocation) (base : Stored) (answer : Answer) (delta : Delta) → ComesTo i base answer delta → KeepsStoreAtRest table i
    → IsStoreAtRest table (content_with base delta)
comes_to_rest table (invoked i) base answer delta comes rests = subst (IsStoreAtRest table) (sym (comes_to_content i base answer delta comes)) rests
comes_to_rest table goes_wrong base answer delta comes rests = absurd rests

-- ---- what was made ready

-- what preparing a delta answered
pub prepared_by : (code image : Image) (store : Store) (delta : Delta) (r : Result Prepared PrepareError) (prepared : Prepared) → image ≡ code → r ≡ Ok prepared
    → Prepares (program_of image) store delta r → (delta_prepared prepared ≡ delta) × IsPrepared (program_of code) store prepared
prepared_by code image store delta r prepared same is prepares =
    let at : Prepares (program_of code) store delta (Ok prepared) =
    subst (λ (i : Image). Prepares (program_of i) store delta (Ok prepared)) same (subst (Prepares (program_of image) store delta) is prepares) in (at.0, at.1)

pub room_by : (code image : Image) (store : Store) (delta : Delta) (r : Result Prepared PrepareError) (need size : ℕ) (e : PrepareError) → image ≡ code → r ≡ Err e → e ≡ Room need size
    → Prepares (program_of image) store delta r
    → settled (program_of code) (area_of_store store) (state_of store) (content_with (kept_of store) delta) ≡ Err (need, size)
room_by code image store delta r need size e same is lacks prepares =
    subst (λ (i : Image). settled (program_of i) (area_of_store store) (state_of store) (content_with (kept_of store) delta) ≡ Err (need, size)) same
    (subst (λ (x : PrepareError). Prepares (program_of image) store delta (Err x)) lacks (subst (Prepares (program_of image) store delta) is prepares))

-- ---- the item of a request

module _ (code : Image) (store : Store) where
  -- what a request comes to on this store
  abbrev pub item_here : ℤ → Invocation → SessionItem StoreState
  item_here id i = invoked_item (program_of code) (area_of_store store) (state_of store) id i

  -- it is done, and what it changed was made ready
  pub ready_item : (id : ℤ) (i : Invocation) (reply : Reply) (delta : Delta) (ready : Ready) (prepared : Prepared)
      → IsStorable (table_of_image code) → IsStoreAtRest (table_of_image code) (content_of (kept_of store)) → KeepsStoreAtRest (table_of_image code) i
      → reply.id ≡ Some id → ComesTo i (kept_of store) reply.answer delta → delta_prepared prepared ≡ delta → IsPrepared (program_of code) store prepared
      → ready.reply.items ≡ reply_line reply → ready.prepared ≡ Some prepared → GivesItem (program_of code) store (item_here id i) ready
  ready_item id (invoked i) reply delta ready prepared storable before rests same comes is prepares bytes some =
      let leads = prepared_settles (program_of code) store prepared prepares in
      let content : content_with (kept_of store) (delta_prepared prepared) ≡ i.content = ap (content_with (kept_of store)) is ∙ comes_to_content i (kept_of store) reply.answer delta comes in
      let settles : settled (program_of code) (area_of_store store) (state_of store) i.content ≡ Ok leads.0 =
      ap (settled (program_of code) (area_of_store store) (state_of store)) (sym content) ∙ leads.1 in
      subst (λ (item : SessionItem StoreState). GivesItem (program_of code) store item ready) (sym (ap (settled_item id (answer_of i.reply) (state_of store)) settles)) (record {
        reply = bytes ∙ ap reply_line (reply_is reply id (answer_of i.reply) same comes.0);
        next = subst (LeadsOn (program_of code) store leads.0) (sym some) (record {
          ready = record {
            storable = storable;
            before = before;
            after = subst (IsStoreAtRest (table_of_image code)) (sym content) rests;
            is_prepared = prepares;
          };
          settles = leads.1;
        });
      })
  ready_item id goes_wrong reply delta ready prepared storable before rests same comes is prepares bytes some = absurd comes

  -- the store has no room for it
  pub lacking_item : (id : ℤ) (i : Invocation) (answer : Answer) (delta : Delta) (ready : Ready) (need size : ℕ) → ComesTo i (kept_of store) answer delta
      → settled (program_of code) (area_of_store store) (state_of store) (content_with (kept_of store) delta) ≡ Err (need, size)
      → ready.reply.items ≡ room_line id need size → ready.prepared ≡ None → GivesItem (program_of code) store (item_here id i) ready
  lacking_item id (invoked i) answer delta ready need size comes lacks bytes none =
      let settles : settled (program_of code) (area_of_store store) (state_of store) i.content ≡ Err (need, size) =
      ap (settled (program_of code) (area_of_store store) (state_of store)) (sym (comes_to_content i (kept_of store) answer delta comes)) ∙ lacks in
      subst (λ (item : SessionItem StoreState). GivesItem (program_of code) store item ready) (sym (ap (settled_item id (answer_of i.reply) (state_of store)) settles))
      (record { reply = bytes; next = subst (LeadsOn (program_of code) store (state_of store)) (sym none) refl })
  lacking_item id goes_wrong answer delta ready need size comes lacks bytes none = absurd comes

-- the item of a line that is refused
pub refused_gives : (code : Image) (store : Store) (refusal : Refusal) (ready : Ready) → (ready.reply.items ≡ refusal_line refusal) × (ready.prepared ≡ None)
    → GivesItem (program_of code) store (refused_item (state_of store) refusal) ready
refused_gives code store refusal ready is = record { reply = is.0; next = subst (LeadsOn (program_of code) store (state_of store)) (sym is.1) refl }

-- what was made ready is of its delta
pub is_of_delta : (code : Image) (store : Store) (delta : Delta) (ready : Ready) (prepared : Prepared) → delta_prepared prepared ≡ delta → IsPrepared (program_of code) store prepared → ready.prepared ≡ Some prepared
    → IsOfDelta (program_of code) store delta ready.prepared
is_of_delta code store delta ready prepared is prepares some =
    let leads = prepared_settles (program_of code) store prepared prepares in
    subst (IsOfDelta (program_of code) store delta) (sym some)
    (is, leads.0, ap (λ (d : Delta). settled (program_of code) (area_of_store store) (state_of store) (content_with (kept_of store) d)) (sym is) ∙ leads.1)

pub lacks_for_delta : (code : Image) (store : Store) (delta : Delta) (need size : ℕ) (ready : Ready) → settled (program_of code) (area_of_store store) (state_of store) (content_with (kept_of store) delta) ≡ Err (need, size) → ready.prepared ≡ None
    → IsOfDelta (program_of code) store delta ready.prepared
lacks_for_delta code store delta need size ready lacks none = subst (IsOfDelta (program_of code) store delta) (sym none) ((need, size), lacks)

pub both_ok : {T E : Type 0} (r : Result T E) (P Q : T → Type 0) → IfOk r P → IfOk r Q → IfOk r (λ x. P x × Q x)
both_ok (Ok x) P Q p q = (p, q)
both_ok (Err e) P Q p q = tt
