-- Whether a slot holds a value of a kind after terms, from the last of them back (this project's own).
use Rattle.std.specs.Prelude.{ℕ, Bool, true, false, nat_eq, Option, None, Some, is_some, if◌then◌else◌}
use Rattle.ob_table.specs.declared.seen.Kind.{Kind}
use Rattle.ob_table_spec.specs.WellFormed.{StaticFrame}
use Rattle.ob_silica.specs.Terms.{SilicaForm, copy_form, test_form, if_form, loop_form, SilicaTerms, no_terms, and_term}
use Rattle.ob_silica.specs.declared.place.Place.{Place}
use Rattle.ob_silica.specs.declared.place.Place.TheVariants.{Slot}
use Rattle.ob_silica_formed.specs.Holdings.{slot_written, kind_written, kind_of_place, terms_end}
use Rattle.ob_silica_kinds.specs.Kinds.{Kinds, nothing_held, has_kind}
use Rattle.ob_silica_kinds.specs.declared.asking.Holds.{Holds}
use Rattle.ob_silica_kinds.specs.declared.asking.Holds.TheVariants.{Always, Never, As, Unclear}

-- what is so on each way or on none
abbrev pub settled : Bool → Holds
settled true = Always
settled false = Never

-- when both hold
abbrev pub both : Holds → Holds → Holds
both Always b = b
both Never b = Never
both (As i) Always = As i
both (As i) Never = Never
both (As i) (As j) = if nat_eq i j then As i else Unclear
both (As i) Unclear = Unclear
both Unclear Never = Never
both Unclear b = Unclear

-- whether two are the same
abbrev pub is_same : Holds → Holds → Bool
is_same Always Always = true
is_same Never Never = true
is_same (As i) (As j) = nat_eq i j
is_same Unclear Unclear = true
is_same a b = false

-- after two branches: where one of them ends, what is so after the other
abbrev pub joined_holds : Bool → Bool → Holds → Holds → Holds
joined_holds true other_ends a b = b
joined_holds false true a b = a
joined_holds false false a b = both a b

-- what is so after terms, from what is so after the rest of them
abbrev pub before : Holds → (ℕ → Holds) → Holds
before (As k) asked = asked k
before h asked = h

-- where a value at this place is of the kind
abbrev pub at_place : StaticFrame → Kind → Place → Holds
at_place f kind (Slot k) = As k
at_place f kind place = settled (has_kind kind (kind_of_place f nothing_held place))

-- where what a form without branches leaves in the slot that it sets is of the kind
abbrev pub written_holds : StaticFrame → Kind → SilicaForm → Holds
written_holds f kind (copy_form to from) = at_place f kind from.place
written_holds f kind form = settled (has_kind kind (kind_written f nothing_held form))

-- of the slot that is asked for, where the form sets this one if it sets one
abbrev pub asked_slot : Option ℕ → Holds → ℕ → Holds
asked_slot None there k = As k
asked_slot (Some written) there k = if nat_eq k written then there else As k

-- when a slot holds a value of the kind after a form without branches
abbrev pub straight_holds : StaticFrame → Kind → SilicaForm → ℕ → Holds
straight_holds f kind form k = asked_slot (slot_written form) (written_holds f kind form) k

-- of a slot that is left alone, what it holds already
abbrev pub unless_left : Kinds → ℕ → Holds → Holds
unless_left left k asked = if is_some (left k) then As k else asked

abbrev mutual
  -- When a slot holds a value of the kind after a form, where slots that are known in the kinds that are left are set by no form.
  pub form_holds : Kinds → StaticFrame → Kind → SilicaForm → ℕ → Holds
  form_holds left f kind (test_form place state branch other join) k = joined_holds (terms_end branch) (terms_end other)
      (unless_left left k (terms_asked left f kind branch k)) (unless_left left k (terms_asked left f kind other k))
  form_holds left f kind (if_form place branch other join) k = joined_holds (terms_end branch) (terms_end other)
      (unless_left left k (terms_asked left f kind branch k)) (unless_left left k (terms_asked left f kind other k))
  form_holds left f kind (loop_form first a body end) k =
      before (unless_left left k (terms_asked left f kind first k)) (λ j. joined_holds false (terms_end body) (As j)
      (before (unless_left left j (terms_asked left f kind body j)) (λ i. unless_left left i (terms_asked left f kind first i))))
  form_holds left f kind form k = straight_holds f kind form k

  -- the same of terms, from the last of them back
  pub terms_asked : Kinds → StaticFrame → Kind → SilicaTerms → ℕ → Holds
  terms_asked left f kind no_terms k = As k
  terms_asked left f kind (and_term form span rest) k =
      before (terms_asked left f kind rest k) (λ j. form_holds left f kind form j)

-- when a slot does so after terms
abbrev pub terms_hold : Kinds → StaticFrame → Kind → SilicaTerms → ℕ → Holds
terms_hold left f kind ts k = unless_left left k (terms_asked left f kind ts k)

-- when it does so after one turn of a loop with this first part and this body
abbrev pub turn_holds : Kinds → StaticFrame → Kind → SilicaTerms → SilicaTerms → ℕ → Holds
turn_holds left f kind first body k = before (terms_hold left f kind body k) (λ i. terms_hold left f kind first i)

-- what is known of a slot at the head, if that is clear, where a value of this kind is known before the loop and this is so after a turn
abbrev pub told : Kind → Holds → Kinds → Option (Option Kind)
told kind Always kinds = Some (Some kind)
told kind Never kinds = Some None
told kind (As k) kinds = Some (if has_kind kind (kinds k) then Some kind else None)
told kind Unclear kinds = None
