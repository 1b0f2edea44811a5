-- What holds of each invocation: it is so where it holds of each way in which a request may go.
use Rattle.std.proofs.Common.{◌≡◌, ◌∙◌, ℕ, false, List, [], ◌∷◌, Option, Some, None, refl}
use Rattle.ob_table.specs.Tables.{ClassTable}
use Rattle.ob_heap_spec.specs.Contents.{HandleName, Handle, Content}
use Rattle.ob_heap_spec.specs.Worlds.{ReadItem}
use Rattle.ob_heap_spec.specs.Handles.{handle_at}
use Rattle.ob_invocation_spec.specs.Requests.{NewRequest, CallRequest, GiveRequest, Operation, new_request, call_request, disown_request, give_request, see_request, owner_request}
use Rattle.ob_invocation_spec.specs.Replies.{Refusal, permission, refused, Invocation, goes_wrong}
use Rattle.ob_invocation_spec.specs.Handles.{handle_name}
use Rattle.ob_invocation_spec.specs.Entries.{Entry, entry_of_new, entry_of_call}
use Rattle.ob_invocation_spec.specs.Checks.{Check, check, refusal_of, reads_of, left_as_it_was, refused_or, unless_refused, with_found}
use Rattle.ob_invocation_spec.specs.Refusals.{handle_check, making_checks, gives_too_much, new_checks, call_checks, give_checks}
use Rattle.ob_invocation_spec.specs.Entering.{Meaning}
use Rattle.ob_invocation_laws.specs.Laws.{runs}
use Rattle.ob_invocation_spec.specs.Invocation.{enter_entry, with_handle, disown_handle, invoke_disown, give_from, invoke_give, show_object, invoke_see, show_owner_of, invoke_owner, invoke_operation}

-- the ways in which a request that asks for no run may go: it is refused, or has its handle
pub record StillWays (P : Invocation → Type 0) (table : ClassTable) (content : Content) (who : List ℕ) : Type 0 where
  pub refusals : (refusal : Refusal) (reads : List ReadItem) → P (left_as_it_was content (refused refusal) reads)
  pub disowns : (name : HandleName) (h : Handle) (reads : List ReadItem) → handle_at content name ≡ Some h
      → P (disown_handle content name h reads)
  pub gives : (r : GiveRequest) (h : Handle) (reads : List ReadItem) → refusal_of (give_checks content who r) ≡ None
      → handle_at content (handle_name who r.on) ≡ Some h → P (give_from content who r reads h)
  pub sees : (name : HandleName) (h : Handle) (reads : List ReadItem) → handle_at content name ≡ Some h
      → P (show_object table content h reads)
  pub owners : (name : HandleName) (h : Handle) (reads : List ReadItem) → handle_at content name ≡ Some h
      → P (show_owner_of table content h reads)

-- the ways in which a request may go: such a one, or a `new` or a `call` that isn't refused and enters something, or
-- finds nothing to enter
pub record Ways (P : Invocation → Type 0) (meaning : Meaning) (table : ClassTable) (content : Content) (fuel : ℕ)
    (who : List ℕ) : Type 0 where
  pub still : StillWays P table content who
  pub news : (r : NewRequest) (e : Entry) → refusal_of (new_checks table content who r) ≡ None
      → entry_of_new table who r ≡ Some e
      → P (enter_entry meaning table content fuel (reads_of (new_checks table content who r)) e)
  pub lost_news : (r : NewRequest) → refusal_of (new_checks table content who r) ≡ None
      → entry_of_new table who r ≡ None → P goes_wrong
  pub calls : (r : CallRequest) (e : Entry) → refusal_of (call_checks table content who r) ≡ None
      → entry_of_call table content who r ≡ Some e
      → P (enter_entry meaning table content fuel (reads_of (call_checks table content who r)) e)
  pub lost_calls : (r : CallRequest) → refusal_of (call_checks table content who r) ≡ None
      → entry_of_call table content who r ≡ None → P goes_wrong

module _ (P : Invocation → Type 0) where
  -- what holds of a refusal, and of what follows else
  of_refusal : (content : Content) (found : Option Refusal) (reads : List ReadItem) (go : List ReadItem → Invocation)
      → ((refusal : Refusal) → P (left_as_it_was content (refused refusal) reads)) → (found ≡ None → P (go reads))
      → P (refused_or content found reads go)
  of_refusal content (Some refusal) reads go at_refusal rest = at_refusal refusal
  of_refusal content None reads go at_refusal rest = rest refl

  -- what holds of each refusal, and of what follows where no check holds
  pub of_checks : (content : Content) (checks : List Check) (go : List ReadItem → Invocation)
      → ((refusal : Refusal) (reads : List ReadItem) → P (left_as_it_was content (refused refusal) reads))
      → (refusal_of checks ≡ None → P (go (reads_of checks)))
      → P (unless_refused content checks go)
  of_checks content checks go at_refusal rest =
      of_refusal content (refusal_of checks) (reads_of checks) go
      (λ refusal. at_refusal refusal (reads_of checks)) rest

  -- what holds where nothing was found, and of what follows from what was found
  pub of_found : {A : Type 0} (found : Option A) (go : A → Invocation) → (found ≡ None → P goes_wrong)
      → ((a : A) → found ≡ Some a → P (go a)) → P (with_found found go)
  of_found None go lost rest = lost refl
  of_found (Some a) go lost rest = rest a refl

-- where the check of a handle doesn't hold, there is one
pub is_there : (content : Content) (name : HandleName) (checks : List Check) (found : Option Handle)
    → handle_at content name ≡ found → refusal_of (handle_check content name ∷ checks) ≡ None → found ≡ None → ⊥
is_there content name checks found same passed lost =
    let gone : handle_at content name ≡ None = same ∙ lost in
    absurd (let none = rw gone at passed in cc)

module _ (P : Invocation → Type 0) (content : Content)
    (refusals : (refusal : Refusal) (reads : List ReadItem) → P (left_as_it_was content (refused refusal) reads)) where
  -- a request that asks for no run, by its handle
  pub of_handle : (name : HandleName) (go : Handle → List ReadItem → Invocation)
      → ((h : Handle) (reads : List ReadItem) → handle_at content name ≡ Some h → P (go h reads))
      → P (with_handle content name go)
  of_handle name go rest =
      of_checks P content (handle_check content name ∷ [])
      (λ reads. with_found (handle_at content name) (λ h. go h reads)) refusals
      (λ passed. of_found P (handle_at content name) (λ h. go h (reads_of (handle_check content name ∷ [])))
      (λ lost. absurd (is_there content name [] (handle_at content name) refl passed lost))
      (λ h there. rest h (reads_of (handle_check content name ∷ [])) there))

  -- a `give`, by the giver's handle
  pub of_giver : (who : List ℕ) (r : GiveRequest)
      → ((h : Handle) (reads : List ReadItem) → refusal_of (give_checks content who r) ≡ None
      → handle_at content (handle_name who r.on) ≡ Some h → P (give_from content who r reads h))
      → P (invoke_give content who r)
  of_giver who r rest =
      let name = handle_name who r.on in
      of_checks P content (give_checks content who r)
      (λ reads. with_found (handle_at content (handle_name who r.on)) (give_from content who r reads)) refusals
      (λ passed. of_found P (handle_at content (handle_name who r.on))
      (give_from content who r (reads_of (give_checks content who r)))
      (λ lost. absurd (is_there content name
      (check permission (gives_too_much content name r.mode) ∷ making_checks content (handle_name r.to r.into))
      (handle_at content name) refl passed lost))
      (λ h there. rest h (reads_of (give_checks content who r)) passed there))

module _ (P : Invocation → Type 0) (table : ClassTable) (content : Content) (who : List ℕ)
    (ways : StillWays P table content who) where
  -- a `disown`
  pub of_disown : (on : List ℕ) → P (invoke_disown content (handle_name who on))
  of_disown on =
      of_handle P content ways.refusals (handle_name who on) (disown_handle content (handle_name who on))
      (ways.disowns (handle_name who on))

  -- a `give`
  pub of_give : (r : GiveRequest) → P (invoke_give content who r)
  of_give r = of_giver P content ways.refusals who r (ways.gives r)

  -- a `see`
  pub of_see : (on : List ℕ) → P (invoke_see table content (handle_name who on))
  of_see on =
      of_handle P content ways.refusals (handle_name who on) (show_object table content)
      (ways.sees (handle_name who on))

  -- an `owner`
  pub of_owner : (on : List ℕ) → P (invoke_owner table content (handle_name who on))
  of_owner on =
      of_handle P content ways.refusals (handle_name who on) (show_owner_of table content)
      (ways.owners (handle_name who on))

module _ (P : Invocation → Type 0) (meaning : Meaning) (table : ClassTable) (content : Content) (fuel : ℕ)
    (who : List ℕ) where
  -- a request that asks for no run
  pub of_still : StillWays P table content who → (operation : Operation) → runs operation ≡ false
      → P (invoke_operation meaning table content fuel who operation)
  of_still ways (new_request r) still = absurd cc
  of_still ways (call_request r) still = absurd cc
  of_still ways (disown_request on) still = of_disown P table content who ways on
  of_still ways (give_request r) still = of_give P table content who ways r
  of_still ways (see_request on) still = of_see P table content who ways on
  of_still ways (owner_request on) still = of_owner P table content who ways on

  -- each request
  pub of_operation : Ways P meaning table content fuel who → (operation : Operation)
      → P (invoke_operation meaning table content fuel who operation)
  of_operation ways (new_request r) =
      of_checks P content (new_checks table content who r)
      (λ reads. with_found (entry_of_new table who r) (enter_entry meaning table content fuel reads))
      ways.still.refusals
      (λ passed. of_found P (entry_of_new table who r)
      (enter_entry meaning table content fuel (reads_of (new_checks table content who r)))
      (λ lost. ways.lost_news r passed lost) (λ e found. ways.news r e passed found))
  of_operation ways (call_request r) =
      of_checks P content (call_checks table content who r)
      (λ reads. with_found (entry_of_call table content who r) (enter_entry meaning table content fuel reads))
      ways.still.refusals
      (λ passed. of_found P (entry_of_call table content who r)
      (enter_entry meaning table content fuel (reads_of (call_checks table content who r)))
      (λ lost. ways.lost_calls r passed lost) (λ e found. ways.calls r e passed found))
  of_operation ways (disown_request on) = of_disown P table content who ways.still on
  of_operation ways (give_request r) = of_give P table content who ways.still r
  of_operation ways (see_request on) = of_see P table content who ways.still on
  of_operation ways (owner_request on) = of_owner P table content who ways.still on
