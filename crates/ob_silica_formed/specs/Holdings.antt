-- What the slots of a body hold where a form stands, from the terms before it (Coblenz et al., TOPLAS 42(3), 2020, "Silica",
-- where a context has the type of each variable; that slots are set and dropped is this project's own).
use Rattle.std.specs.Prelude.{ℕ, ◌+◌, Bool, true, false, ◌&&◌, ◌||◌, nat_eq, List, [], ◌∷◌, Option, Some, None, option_map, option_and_then, ⊤, if◌then◌else◌}
use Rattle.std.specs.Option.{option_map_or}
use Rattle.ob_base.specs.declared.id.ContractId.{ContractId}
use Rattle.ob_base.specs.declared.id.TxId.{TxId}
use Rattle.ob_table.specs.Tables.{field_at, signature_of}
use Rattle.ob_table.specs.declared.contract.Param.{Param}
use Rattle.ob_table.specs.declared.seen.Kind.{Kind}
use Rattle.ob_table.specs.declared.seen.Kind.TheVariants.{Int, Bool as BoolKind, Text, Reference}
use Rattle.ob_table_spec.specs.WellFormed.{StaticFrame, kind_of_resolved, is_reference}
use Rattle.ob_silica.specs.Terms.{SilicaForm, const_form, op_form, copy_form, move_form, new_form, call_form, call_this_form, test_form, if_form, loop_form, drop_form, return_form, revert_form, SilicaTerms, no_terms, and_term}
use Rattle.ob_silica.specs.declared.place.Operand.{Operand}
use Rattle.ob_silica.specs.declared.place.Place.{Place}
use Rattle.ob_silica.specs.declared.place.Place.TheVariants.{This, Slot, Field}
use Rattle.ob_silica_places.specs.Known.{kind_of_constant, kind_of_operator}

-- Slots.

-- what a slot holds: the kind of its value, where that is the same on each way that leads there, and whether on some way
-- it holds a reference
pub record SlotContent : Type 0 where
  pub kind : Option Kind
  pub refers : Bool

-- a value of this kind, if there is one
abbrev pub held : Option Kind → SlotContent
held kind = record { kind = kind; refers = option_map_or is_reference kind false }

-- what each slot holds
abbrev pub Holdings : Type 0
Holdings = ℕ → SlotContent

-- the same, but for one slot
abbrev pub with_slot : ℕ → SlotContent → Holdings → Holdings
with_slot k x h = λ j. if nat_eq j k then x else h j

-- the same, but for a slot if there is one
abbrev pub with_slot_if : Option ℕ → SlotContent → Holdings → Holdings
with_slot_if None x h = h
with_slot_if (Some k) x h = with_slot k x h

-- the parameters from this slot on
abbrev pub params_held : ℕ → List Param → Holdings
params_held n [] = λ k. held None
params_held n (p ∷ ps) = with_slot n (held (Some (kind_of_resolved p.of))) (params_held (n + 1) ps)

-- where a body of this contract begins, `this` and the parameters have slots
abbrev pub held_at_start : ContractId → List Param → Holdings
held_at_start here params = with_slot 0 (held (Some (Reference here))) (params_held 1 params)

-- Places.

-- the kind of the value at a place, if it is known
abbrev pub kind_of_place : StaticFrame → Holdings → Place → Option Kind
kind_of_place f h This = Some (Reference f.here)
kind_of_place f h (Slot k) = (h k).kind
kind_of_place f h (Field id) = option_map (λ field. kind_of_resolved field.of) (field_at f.own id)

-- the same of an operand
abbrev pub kind_of_operand : StaticFrame → Holdings → Operand → Option Kind
kind_of_operand f h o = kind_of_place f h o.place

-- the slot of a place; `this` is slot 0, and a field has none
abbrev pub slot_of_place : Place → Option ℕ
slot_of_place This = Some 0
slot_of_place (Slot k) = Some k
slot_of_place (Field id) = None

-- What forms do.

-- the slot that a form sets, if it sets one
abbrev pub slot_set : SilicaForm → Option ℕ
slot_set (const_form k value) = Some k
slot_set (op_form k operator a b line) = Some k
slot_set (copy_form to from) = slot_of_place to
slot_set (move_form to from contract) = slot_of_place to
slot_set (new_form k contract args) = Some k
slot_set (call_form k receiver contract tx args) = k
slot_set (call_this_form k tx args) = k
slot_set form = None

-- the slot that a form sets or drops, if it does so
abbrev pub slot_written : SilicaForm → Option ℕ
slot_written (drop_form k) = Some k
slot_written form = slot_set form

-- the kind of what a transaction gives back, if it gives something
abbrev pub kind_of_result : StaticFrame → ContractId → TxId → Option Kind
kind_of_result f contract tx = option_and_then (λ s. option_map kind_of_resolved s.result) (signature_of f.table contract tx)

-- the kind of what a form leaves in that slot; a slot that is dropped holds nothing
abbrev pub kind_written : StaticFrame → Holdings → SilicaForm → Option Kind
kind_written f h (const_form k value) = Some (kind_of_constant value)
kind_written f h (op_form k operator a b line) = Some (kind_of_operator operator)
kind_written f h (copy_form to from) = kind_of_operand f h from
kind_written f h (move_form to from contract) = option_map Reference contract
kind_written f h (new_form k contract args) = Some (Reference contract)
kind_written f h (call_form k receiver contract tx args) = kind_of_result f contract tx
kind_written f h (call_this_form k tx args) = kind_of_result f f.here tx
kind_written f h form = None

-- what slots hold after a form that has no branches
abbrev pub written : StaticFrame → SilicaForm → Holdings → Holdings
written f form h = with_slot_if (slot_written form) (held (kind_written f h form)) h

-- Ends.

abbrev mutual
  -- whether nothing is reached after a form: a `Return`, a `Revert`, or two branches that end so; a Loop may run no turn
  pub form_ends : SilicaForm → Bool
  form_ends (return_form place) = true
  form_ends (revert_form text) = true
  form_ends (test_form place state branch other join) = terms_end branch && terms_end other
  form_ends (if_form a branch other join) = terms_end branch && terms_end other
  form_ends form = false

  -- whether each way through terms ends so
  pub terms_end : SilicaTerms → Bool
  terms_end no_terms = false
  terms_end (and_term form span rest) = form_ends form || terms_end rest

-- Ways.

-- whether two kinds are the same
abbrev pub kinds_equal : Kind → Kind → Bool
kinds_equal Int Int = true
kinds_equal BoolKind BoolKind = true
kinds_equal Text Text = true
kinds_equal (Reference c) (Reference d) = nat_eq c.0 d.0
kinds_equal a b = false

-- the kind that is known after two ways
abbrev pub common_kind : Option Kind → Option Kind → Option Kind
common_kind (Some a) (Some b) = if kinds_equal a b then Some a else None
common_kind a b = None

-- what a slot holds after two ways
abbrev pub either_way : SlotContent → SlotContent → SlotContent
either_way a b = record { kind = common_kind a.kind b.kind; refers = a.refers || b.refers }

-- what slots hold after two branches: where one of them ends, what they hold after the other
abbrev pub joined : Bool → Bool → Holdings → Holdings → Holdings
joined true other_ends a b = b
joined false true a b = a
joined false false a b = λ k. either_way (a k) (b k)

abbrev mutual
  -- what slots hold after a form
  pub after_form : StaticFrame → SilicaForm → Holdings → Holdings
  after_form f (test_form place state branch other join) h =
      joined (terms_end branch) (terms_end other) (after_terms f branch h) (after_terms f other h)
  after_form f (if_form a branch other join) h =
      joined (terms_end branch) (terms_end other) (after_terms f branch h) (after_terms f other h)
  -- a Loop is left at the end of its first part, from the head
  after_form f (loop_form first a body end) h =
      after_terms f first (joined false (terms_end body) h (after_terms f body (after_terms f first h)))
  after_form f form h = written f form h

  -- what slots hold after terms
  pub after_terms : StaticFrame → SilicaTerms → Holdings → Holdings
  after_terms f no_terms h = h
  after_terms f (and_term form span rest) h = after_terms f rest (after_form f form h)

-- What slots hold at the head of a Loop: what they hold before it and after one turn, where the body doesn't end. Further
-- turns tell no more, since what a form copies is known to be of one kind.
abbrev pub at_head : StaticFrame → SilicaTerms → SilicaTerms → Holdings → Holdings
at_head f first body h = joined false (terms_end body) h (after_terms f body (after_terms f first h))

abbrev mutual
  -- this is so of each form of the branches of a form, with what slots hold where it stands
  pub EachWithin : (StaticFrame → Holdings → SilicaForm → Type 0) → StaticFrame → Holdings → SilicaForm → Type 0
  EachWithin P f h (test_form place state branch other join) = Each P f h branch × Each P f h other
  EachWithin P f h (if_form a branch other join) = Each P f h branch × Each P f h other
  EachWithin P f h (loop_form first a body end) =
      Each P f (at_head f first body h) first × Each P f (after_terms f first (at_head f first body h)) body
  EachWithin P f h form = ⊤

  -- this is so of each form of terms, with what slots hold where it stands
  pub Each : (StaticFrame → Holdings → SilicaForm → Type 0) → StaticFrame → Holdings → SilicaTerms → Type 0
  Each P f h no_terms = ⊤
  Each P f h (and_term form span rest) = P f h form × EachWithin P f h form × Each P f (after_form f form h) rest
