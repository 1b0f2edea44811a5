-- Parts of the rule of a Loop that the check works out on their own.
use Rattle.std.specs.Prelude.{ℕ, zero, suc, Bool, false, ◌||◌, nat_lt, List, map, Option, Some, None, option_map, if◌then◌else◌}
use Rattle.std.specs.Option.{option_map_or}
use Rattle.ob_base.specs.declared.fault.Span.{Span}
use Rattle.ob_table.specs.declared.seen.Kind.{Kind}
use Rattle.ob_table_spec.specs.WellFormed.{is_reference}
use Rattle.ob_silica_places.specs.Known.{Known}
use Rattle.ob_silica_places.specs.Places.{slot, field}
use Rattle.ob_silica_kinds.specs.Kinds.{Kinds}
use Rattle.ob_flow_spec.specs.Premises.{Premise}
use Rattle.ob_flow_spec.specs.Contexts.{BodyFrame, Context}
use Rattle.ob_flow_spec.specs.Joining.{same_kind}
use Rattle.ob_flow_spec.specs.Looping.{place_is_as_at_head}
use Rattle.ob_flow_context.specs.declared.context.Known.{Known as KnownOfPlace}

-- what is known of the slots or of the fields below a number
abbrev pub numbers_below : ℕ → (ℕ → Option Known) → ℕ → Option Known
numbers_below count g = λ n. if nat_lt n count then g n else None

-- the kinds of what is known of the places of a list
abbrev pub all_kinds : List (Option KnownOfPlace) → List (Option Kind)
all_kinds ks = map (λ k. option_map (λ x. x.kind) k) ks

-- whether a value of this kind is known at the head of a Loop, by the kind that its slot holds there
abbrev pub is_kept_by : Option Kind → Kind → Bool
is_kept_by there kind = is_reference kind || option_map_or (same_kind kind) there false

-- what is known of a slot at the head, by the kind that it holds there
abbrev pub kept_by : Option Kind → Option Known → Option Known
kept_by there None = None
kept_by there (Some x) = if is_kept_by there x.kind then Some x else None

-- what is known of `this` and of slots at the head, by the kinds that they hold there
abbrev pub numbers_kept : Kinds → (ℕ → Option Known) → ℕ → Option Known
numbers_kept there g zero = g zero
numbers_kept there g (suc k) = kept_by (there (suc k)) (g (suc k))

-- a slot is at the end of a turn as at the head
abbrev pub slot_is_as_at_head : BodyFrame → Context → Context → Span → ℕ → List Premise
slot_is_as_at_head b head g end k = place_is_as_at_head b head g end (slot k)

-- so is a field
abbrev pub field_is_as_at_head : BodyFrame → Context → Context → Span → ℕ → List Premise
field_is_as_at_head b head g end f = place_is_as_at_head b head g end (field f)
