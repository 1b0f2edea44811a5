-- What is shown of objects and places.
use Rattle.std.proofs.Common.{◌≡◌, ℕ, List, [], ◌∷◌, map, drop, Option, Some, None, refl, sym, ap, subst, ◌∙◌}
use Rattle.std.specs.Prelude.{option_map, filter_map}
use Rattle.std.specs.List.{enumerate_from}
use Rattle.ob_code.specs.declared.image.ContractCode.{ContractCode}
use Rattle.ob_table.specs.Tables.{ClassTable}
use Rattle.ob_table.specs.declared.contract.Contract.{Contract}
use Rattle.ob_table.specs.declared.contract.Field.{Field}
use Rattle.ob_heap_spec.specs.Contents.{HandleName}
use Rattle.ob_heap_spec.specs.Objects.{Object as PlainObject}
use Rattle.ob_heap_spec.specs.Values.{Value as PlainValue}
use Rattle.ob_rest_spec.specs.Incoming.{StorePlace, IncomingReference, owner_of}
use Rattle.ob_rest_spec.specs.References.{available_value}
use Rattle.ob_invocation_spec.specs.Checks.{left_as_it_was, reads_of, with_found}
use Rattle.ob_invocation_spec.specs.Invocation.{show_object, show_owner, show_owner_of, invoke_see, invoke_owner}
use Rattle.ob_invocation_spec.specs.Refusals.{handle_check}
use Rattle.ob_invocation_spec.specs.Replies.{ok_shown, ok_place}
use Rattle.ob_invocation_spec.specs.Showing.{shown_at, shown_place, place_item}
use Rattle.ob_heap.specs.declared.delta.Delta.{Delta}
use Rattle.ob_heap.specs.declared.object.Object.{Object}
use Rattle.ob_heap.specs.declared.object.Handle.{Handle}
use Rattle.ob_heap.specs.Contents.{Stored, content_of, handle_at}
use Rattle.ob_heap.specs.Plain.{object_of}
use Rattle.ob_code_table.specs.ImageTables.{contract_of_code, field_of_code}
use Rattle.ob_owners.specs.Spots.{owner_place}
use Rattle.ob_wire.specs.Meanings.{field_shown, object_shown, place_told}
use Rattle.ob_wire.specs.declared.reply.Answer.{Answer}
use Rattle.ob_wire.specs.declared.reply.Answer.TheVariants as answer
use Rattle.ob_wire.specs.declared.reply.Outcome.{Outcome}
use Rattle.ob_wire.specs.declared.reply.Outcome.TheVariants as outcome
use Rattle.ob_wire.specs.declared.reply.Shown.{Shown}
use Rattle.ob_wire.specs.declared.reply.ShownField.{ShownField}
use Rattle.ob_exec_handles.specs.Coming.{LeadsTo, ComesTo, IsInLimits}
use Rattle.ob_exec_handles.proofs.InvokingLemmas.{there_is, comes_with}

-- Fields.

-- a field with its value, if it is available
abbrev pub field_with : Contract → PlainObject → (ℕ × Field) → Option (List ℕ × PlainValue)
field_with c o f = option_map (λ (value : PlainValue). (f.1.name, value)) (available_value c o f.0)

-- the fields that are shown from a place on
abbrev pub shown_from : ContractCode → Object → ℕ → List ShownField
shown_from c o place =
    map field_shown (filter_map (field_with (contract_of_code c) (object_of o)) (enumerate_from place (map field_of_code (drop place c.fields))))

-- An object.

told_some : {A B : Type 0} (f : A → B) (r : Option A) (b : B) → Some b ≡ option_map f r → (a : A) × (r ≡ Some a) × (f a ≡ b)
told_some f None b e = absurd cc
told_some f (Some a) b e = (a, refl, cc)

told_none : {A B : Type 0} (f : A → B) (r : Option A) → None ≡ option_map f r → r ≡ None
told_none f None e = refl
told_none f (Some a) e = absurd cc

pub sees : (table : ClassTable) (base : Stored) (n : HandleName) (h : Handle) (shown : Shown) (a : Answer) (d : Delta) → handle_at n base.handles ≡ Some h
    → Some shown ≡ option_map object_shown (shown_at table (map object_of base.objects) h.object.0) → a ≡ answer.Ok (outcome.See shown)
    → LeadsTo base d (content_of base) → ComesTo (invoke_see table (content_of base) n) base a d
sees table base n h shown a d at is told same =
    let s = told_some object_shown (shown_at table (map object_of base.objects) h.object.0) shown is in
    comes_with base n (show_object table (content_of base)) h a d at (λ reads.
    subst (λ r. ComesTo (with_found r (λ x. left_as_it_was (content_of base) (ok_shown x) reads)) base a d) (sym s.1)
    (told ∙ ap (λ x. answer.Ok (outcome.See x)) (sym s.2), same))

pub sees_nothing : (table : ClassTable) (base : Stored) (n : HandleName) (h : Handle) → handle_at n base.handles ≡ Some h
    → None ≡ option_map object_shown (shown_at table (map object_of base.objects) h.object.0) → IsInLimits (invoke_see table (content_of base) n) → ⊥
sees_nothing table base n h at none limits =
    subst IsInLimits (there_is base n (show_object table (content_of base)) h at
    ∙ ap (λ r. with_found r (λ x. left_as_it_was (content_of base) (ok_shown x) (reads_of (handle_check (content_of base) n ∷ []))))
    (told_none object_shown (shown_at table (map object_of base.objects) h.object.0) none)) limits

-- A place.

pub owns_nothing : (table : ClassTable) (base : Stored) (n : HandleName) (h : Handle) (a : Answer) (d : Delta) → handle_at n base.handles ≡ Some h
    → None ≡ owner_place table (content_of base) h.object.0 → a ≡ answer.Ok outcome.Nothing
    → LeadsTo base d (content_of base) → ComesTo (invoke_owner table (content_of base) n) base a d
owns_nothing table base n h a d at none told same =
    comes_with base n (show_owner_of table (content_of base)) h a d at (λ reads.
    subst (λ r. ComesTo (show_owner table (content_of base) reads r) base a d)
    (sym (told_none (λ (r : IncomingReference). r.place) (owner_of table (content_of base) h.object.0) none)) (told, same))

-- what follows from the place of the owner
by_place : (table : ClassTable) (base : Stored) (n : HandleName) (h : Handle) (place : StorePlace) → handle_at n base.handles ≡ Some h
    → Some place ≡ owner_place table (content_of base) h.object.0
    → (r : IncomingReference) × (r.place ≡ place)
    × (invoke_owner table (content_of base) n
    ≡ with_found (shown_place table (map object_of base.objects) r.place)
    (λ p. left_as_it_was (content_of base) (ok_place p) (place_item r.place ∷ reads_of (handle_check (content_of base) n ∷ []))))
by_place table base n h place at is =
    let s = told_some (λ (r : IncomingReference). r.place) (owner_of table (content_of base) h.object.0) place is in (
      s.0,
      s.2,
      there_is base n (show_owner_of table (content_of base)) h at
          ∙ ap (show_owner table (content_of base) (reads_of (handle_check (content_of base) n ∷ []))) s.1,
    )

pub owns : (table : ClassTable) (base : Stored) (n : HandleName) (h : Handle) (place : StorePlace) (shown : Outcome) (a : Answer) (d : Delta)
    → handle_at n base.handles ≡ Some h → Some place ≡ owner_place table (content_of base) h.object.0
    → Some shown ≡ option_map place_told (shown_place table (map object_of base.objects) place) → a ≡ answer.Ok shown
    → LeadsTo base d (content_of base) → ComesTo (invoke_owner table (content_of base) n) base a d
owns table base n h place shown a d at owned is told same =
    let b = by_place table base n h place at owned in
    let s = told_some place_told (shown_place table (map object_of base.objects) place) shown is in
    subst (λ i. ComesTo i base a d)
    (sym (b.2 ∙ ap (λ r. with_found r (λ p. left_as_it_was (content_of base) (ok_place p) (place_item b.0.place ∷ reads_of (handle_check (content_of base) n ∷ []))))
    (ap (shown_place table (map object_of base.objects)) b.1 ∙ s.1)))
    (told ∙ ap answer.Ok (sym s.2), same)

pub owns_unshown : (table : ClassTable) (base : Stored) (n : HandleName) (h : Handle) (place : StorePlace) → handle_at n base.handles ≡ Some h
    → Some place ≡ owner_place table (content_of base) h.object.0
    → None ≡ option_map place_told (shown_place table (map object_of base.objects) place) → IsInLimits (invoke_owner table (content_of base) n) → ⊥
owns_unshown table base n h place at owned none limits =
    let b = by_place table base n h place at owned in
    subst IsInLimits (b.2 ∙ ap (λ r. with_found r (λ p. left_as_it_was (content_of base) (ok_place p) (place_item b.0.place ∷ reads_of (handle_check (content_of base) n ∷ []))))
    (ap (shown_place table (map object_of base.objects)) b.1 ∙ told_none place_told (shown_place table (map object_of base.objects) place) none)) limits
