-- The run of what a request enters starts with a first configuration, or with an abort.
use Rattle.std.proofs.Common.{◌≡◌, ℕ, ◌<◌, ◌≤◌, Bool, true, false, List, [], ◌∷◌, length, Option, Some, None, refl, sym, ap, subst, ◌∙◌, arith, ⊎_elim}
use Rattle.std.specs.Prelude.{nat_le, if◌then◌else◌}
use Rattle.std.proofs.lemmas.Bool.Decides.{nat_tests}
use Rattle.std.proofs.lemmas.Option.{same_Some}
use Rattle.ob_base.specs.Limits.{most_objects}
use Rattle.ob_base.specs.declared.permission.Mode.{Mode}
use Rattle.ob_base.specs.declared.permission.Mode.TheVariants.{Owned, Shared, Unowned}
use Rattle.ob_base.specs.declared.permission.Perm.{Perm}
use Rattle.ob_base.specs.declared.id.ContractId.{ContractId}
use Rattle.ob_base.specs.declared.id.TxId.{TxId}
use Rattle.ob_perm.specs.Permissions.{is_shared}
use Rattle.ob_perm.specs.Masks.{permission_of}
use Rattle.ob_heap_spec.specs.Values.{reference}
use Rattle.ob_heap_spec.specs.Objects.{Object, unfinished}
use Rattle.ob_heap_spec.specs.Contents.{Content}
use Rattle.ob_heap_spec.specs.Worlds.{World, first_world, make_object, next_item, with_read, with_unit_taken}
use Rattle.ob_silica.specs.Terms.{SilicaTerms}
use Rattle.ob_silica_places.specs.Parameters.{parameters, all_parameters}
use Rattle.ob_silica_steps.specs.Calling.{constructor_id}
use Rattle.ob_silica_steps.specs.Configurations.{SilicaProgram, by_receiver, by_new, How, Notes, NextStep, runs, goes, stuck, terms_at}
use Rattle.ob_silica_steps.specs.Entering.{Entered, enters}
use Rattle.ob_silica_steps.specs.Here.{if_there}
use Rattle.ob_silica_steps.specs.Starting.{first_notes}
use Rattle.ob_coherent_spec.specs.Counting.{nth_object}
use Rattle.ob_soundness_laws.proofs.counting.Objects.{object_found, make_length, make_other, no_object}
use Rattle.ob_soundness_laws.proofs.counting.Marking.{Keeps, read_objects}
use Rattle.ob_soundness_laws.proofs.counting.Passing.{passed_world, passed_keeps}
use Rattle.ob_rest_spec.specs.Modes.{is_owned}
use Rattle.ob_invocation_spec.specs.Entries.{HandleUse, Entry, values_of, used_as_receiver}
use Rattle.ob_invocation_spec.specs.Entering.{is_locked_at_entry, with_entry_lock, entry_world}
use Rattle.ob_soundness_laws.specs.Requests.{handles_in_run, started_on, started, IsEntered, by_request_new, by_request_call, StartsSo, RunsStart, EntersNew, EntersCall}
use Rattle.ob_soundness_laws.proofs.Staying.{below_or_not}
use Rattle.ob_soundness_laws.proofs.Entries.{has_passed, enters_new, enters_call, arguments_fit, fit_length}
use Rattle.ob_soundness_laws.proofs.Starting.{starts_call, starts_new}

-- the lock at the entry changes no object, and no transaction is in progress
pub lock_objects : (content : Content) (fuel : ℕ) (e : Entry) → (entry_world content fuel e).objects ≡ content.objects
lock_objects content fuel e = go e.receiver
  where
    by_lock : (u : HandleUse) (b : Bool) → (if b then (record (first_world content.objects fuel) { locked = u.handle.object ∷ [] })
        else first_world content.objects fuel).objects ≡ content.objects
    by_lock u true = refl
    by_lock u false = refl

    go : (x : Option HandleUse) → (with_entry_lock x (first_world content.objects fuel)).objects ≡ content.objects
    go None = refl
    go (Some u) = by_lock u (is_locked_at_entry u)

pub lock_progress : (content : Content) (fuel : ℕ) (e : Entry) → (entry_world content fuel e).progress ≡ []
lock_progress content fuel e = go e.receiver
  where
    by_lock : (u : HandleUse) (b : Bool) → (if b then (record (first_world content.objects fuel) { locked = u.handle.object ∷ [] })
        else first_world content.objects fuel).progress ≡ []
    by_lock u true = refl
    by_lock u false = refl

    go : (x : Option HandleUse) → (with_entry_lock x (first_world content.objects fuel)).progress ≡ []
    go None = refl
    go (Some u) = by_lock u (is_locked_at_entry u)

owned_not_shared : (p : Perm) → is_owned p.mode ≡ true → is_shared (permission_of p) ≡ false
owned_not_shared p e = go p.mode refl e
  where
    go : (m : Mode) → p.mode ≡ m → is_owned m ≡ true → is_shared (permission_of p) ≡ false
    go Owned is e = rw is refl
    go Shared is e = absurd cc
    go Unowned is e = absurd cc

-- two worlds where objects and marks stay
record StaysIn (objects more : List Object) : Type 0 where
  longer : length objects ≤ length more
  shared : (n : ℕ) → (nth_object objects n).shared ≡ true → (nth_object more n).shared ≡ true
  few : length objects ≤ most_objects → length more ≤ most_objects

stays_marked : (objects : List Object) (w v : World) → w.objects ≡ objects → Keeps w v → StaysIn objects v.objects
stays_marked objects w v same k = record {
  longer = let z = ap length same in omega (arith, z, k.count);
  shared = λ n s. k.shared n (ap (λ l. (nth_object l n).shared) same ∙ s);
  few = λ s. let z = ap length same in omega (arith, z, k.count);
}

stays_made : (objects : List Object) (w : World) (o : Object) → nat_le most_objects (length w.objects) ≡ false
    → StaysIn objects w.objects → StaysIn objects (make_object w o).objects
stays_made objects w o room s = record {
  longer = let z = make_length w o in omega (arith, z, s.longer);
  shared = λ n e. ap (λ (x : Object). x.shared) (make_other w o n (there n (s.shared n e))) ∙ s.shared n e;
  few = λ e. let z = make_length w o in let y = past in omega (arith, z, y);
}
  where
    past : length w.objects < most_objects
    past = grind (arith, nat_tests, room)

    there : (n : ℕ) → (nth_object w.objects n).shared ≡ true → n < length w.objects
    there n e = ⊎_elim (λ y. y) (λ y. absurd (let z : false ≡ true =
        sym (ap (λ (x : Object). x.shared) (no_object w.objects n y)) ∙ e in cc)) (below_or_not n (length w.objects))

module _ (program : SilicaProgram) (content : Content) (fuel : ℕ) (e : Entry) where
  abbrev P : NextStep → Type 0
  P next = StartsSo content e next

  abbrev notes : Notes
  notes = first_notes program.table (entry_world content fuel e).objects (handles_in_run content e)

  on_enters : (en : Entered) (contract : ContractId) (tx : TxId) (how : How) (share : Bool)
      → en.notes.handles ≡ handles_in_run content e → en.stack ≡ [] → StaysIn content.objects en.world.objects
      → ((u : HandleUse) → e.receiver ≡ Some u → is_owned u.entry.mode ≡ true → share ≡ false)
      → P (enters program en contract tx how share)
  on_enters en contract tx how share handles stack s shares = go (terms_at program contract tx)
    where
      go : (t : Option SilicaTerms) → P (if_there t (λ terms. goes (record {
        frame = record { slots = en.slots; contract = contract; tx = tx; how = how; share_entered = share };
        control = runs terms [];
        stack = en.stack;
        notes = en.notes;
        world = en.world;
      })))
      go None = tt
      go (Some t) = record {
        handles = handles;
        longer = s.longer;
        shared = s.shared;
        few = s.few;
        share_entered = λ u is owned. rw stack (shares u is owned);
      }

  on_if : (b : Bool) (x : NextStep) → P x → P (if b then x else stuck)
  on_if true x p = p
  on_if false x p = tt

  fits_count : IsEntered program.table content e → length (values_of content e) ≡ length e.signature.params
  fits_count entered = fit_length program.table content e.who e.signature.params e.args (values_of content e)
      (arguments_fit program.table content e (has_passed program.table content e entered))

  call_starts : IsEntered program.table content e → EntersCall program.table content e → P (started program content fuel e)
  call_starts entered c = subst (λ (r : Option HandleUse). P (started_on program e r (values_of content e) notes (entry_world content fuel e))) (sym c.receiver)
      (starts_call P (λ cause s. tt) program e.contract e.tx c.handle.object (values_of content e)
      notes (entry_world content fuel e) c.own e.signature c.is_own c.signature (fits_count entered)
      (let z = ap length (lock_objects content fuel e) in let y = (object_found content.objects c.handle.object c.object c.there).0 in omega (arith, z, y))
      (ap (λ l. (nth_object l c.handle.object).contract) (lock_objects content fuel e)
      ∙ ap (λ (o : Object). o.contract) (object_found content.objects c.handle.object c.object c.there).1 ∙ c.contract)
      (lock_progress content fuel e)
      (λ m is. on_if _ _ (on_enters _ _ e.tx by_receiver _ refl refl
      (subst (StaysIn content.objects) (sym (read_objects _ c.handle.object))
      (stays_marked content.objects (entry_world content fuel e)
      (passed_world (reference c.handle.object ∷ values_of content e) (all_parameters e.contract e.signature) (entry_world content fuel e))
      (lock_objects content fuel e)
      (passed_keeps (reference c.handle.object ∷ values_of content e) (all_parameters e.contract e.signature) (entry_world content fuel e))))
      (λ u at owned. owned_not_shared e.signature.entry (same_entry u at owned)))))
    where
      same_entry : (u : HandleUse) → e.receiver ≡ Some u → is_owned u.entry.mode ≡ true → is_owned e.signature.entry.mode ≡ true
      same_entry u at owned = let z : Some (used_as_receiver c.name c.handle e.contract e.signature) ≡ Some u = sym c.receiver ∙ at in
          ap (λ (v : HandleUse). is_owned v.entry.mode) (same_Some _ u z) ∙ owned

  new_starts : IsEntered program.table content e → EntersNew program.table e → P (started program content fuel e)
  new_starts entered c = subst (λ (r : Option HandleUse). P (started_on program e r (values_of content e) notes (entry_world content fuel e))) (sym c.receiver)
      (starts_new P (λ cause s. tt) program e.contract (values_of content e) notes (entry_world content fuel e) e.signature c.constructor
      (fits_count entered)
      (λ m is room. on_if _ _ (on_enters _ _ constructor_id by_new _ refl refl
      (stays_made content.objects (with_read (with_unit_taken
      (passed_world (values_of content e) (parameters e.signature) (entry_world content fuel e)) m) next_item) (unfinished e.contract) room
      (stays_marked content.objects (entry_world content fuel e)
      (passed_world (values_of content e) (parameters e.signature) (entry_world content fuel e)) (lock_objects content fuel e)
      (passed_keeps (values_of content e) (parameters e.signature) (entry_world content fuel e))))
      (λ u at owned. refl))))

pub runs_start : RunsStart
runs_start program content fuel e (by_request_new who r labels is passed within) =
    new_starts program content fuel e (by_request_new who r labels is passed within) (enters_new program.table content e who r is)
runs_start program content fuel e (by_request_call who r labels is passed within) =
    call_starts program content fuel e (by_request_call who r labels is passed within) (enters_call program.table content e who r labels is)
