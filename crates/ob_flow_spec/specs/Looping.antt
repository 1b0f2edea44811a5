-- Where the turn of a Loop ends, what is known is as at its head (this project's own).
use Rattle.std.specs.Prelude.{ℕ, zero, suc, Bool, false, not, ◌&&◌, ◌||◌, nat_lt, List, [], ◌++◌, Option, Some, None, option_map, if◌then◌else◌}
use Rattle.std.specs.Option.{option_map_or}
use Rattle.ob_base.specs.Faults.{loop_changes}
use Rattle.ob_base.specs.declared.fault.Span.{Span}
use Rattle.ob_perm.specs.Permissions.{matches}
use Rattle.ob_table.specs.Tables.{ClassTable}
use Rattle.ob_table_spec.specs.WellFormed.{is_reference}
use Rattle.ob_silica.specs.Terms.{SilicaTerms}
use Rattle.ob_silica_places.specs.Known.{Known}
use Rattle.ob_silica_places.specs.Places.{Location, slot, field, this}
use Rattle.ob_silica_formed.specs.Holdings.{held, Holdings, at_head}
use Rattle.ob_flow_spec.specs.Premises.{Premise, one, each}
use Rattle.ob_flow_spec.specs.Contexts.{BodyFrame, static_of, field_count, Context, is_owned_asset}
use Rattle.ob_flow_spec.specs.Joining.{same_kind}

-- what slots hold, as far as what is known of them says
abbrev pub holding : Context → Holdings
holding g = λ k. held (option_map (λ x. x.kind) (g (slot k)))

-- Whether what is known of a slot before a Loop is known at its head: of a reference it is, which a turn has to leave there; of another
-- value only where a turn leaves one of its kind, since a slot whose value is needed no more may be used anew.
abbrev pub is_kept : BodyFrame → SilicaTerms → SilicaTerms → Context → ℕ → Known → Bool
is_kept b first body g k x =
    is_reference x.kind || option_map_or (same_kind x.kind) (at_head (static_of b) first body (holding g) k).kind false

-- what is known of a slot at the head of a Loop, from what is known before it
abbrev pub slot_at_head : BodyFrame → SilicaTerms → SilicaTerms → Context → ℕ → Option Known → Option Known
slot_at_head b first body g k None = None
slot_at_head b first body g k (Some x) = if is_kept b first body g k x then Some x else None

-- What is known at the head of a Loop with this first part and this body, from what is known before it: of `this`, of the body's slots
-- as far as a turn may keep it, and of its fields.
abbrev pub head_context : BodyFrame → SilicaTerms → SilicaTerms → Context → Context
head_context b first body g (slot zero) = g (slot zero)
head_context b first body g (slot (suc k)) =
    if nat_lt (suc k) b.slots then slot_at_head b first body g (suc k) (g (slot (suc k))) else None
head_context b first body g (field f) = if nat_lt f (field_count b) then g (field f) else None

-- Whether a place is at the end of a turn as at the head: it matches, or it is unset at the head and owns no asset.
abbrev pub is_as_at_head : ClassTable → Option Known → Option Known → Bool
is_as_at_head table None y = not (is_owned_asset table y)
is_as_at_head table (Some x) None = false
is_as_at_head table (Some x) (Some y) = same_kind y.kind x.kind && matches y.permission x.permission

-- a place is at the end of a turn as at the head
abbrev pub place_is_as_at_head : BodyFrame → Context → Context → Span → Location → List Premise
place_is_as_at_head b head g end p = one loop_changes end (is_as_at_head b.table (head p) (g p))

-- `this`, each slot and each field is at the end of a turn as at the head
abbrev pub frame_is_as_at_head : BodyFrame → Context → Context → Span → List Premise
frame_is_as_at_head b head g end =
    place_is_as_at_head b head g end this
    ++ each b.slots (λ k. place_is_as_at_head b head g end (slot k))
    ++ each (field_count b) (λ f. place_is_as_at_head b head g end (field f))

-- the same, where the end of the body is reached
abbrev pub frame_is_as_at_head_if : BodyFrame → Context → Option Context → Span → List Premise
frame_is_as_at_head_if b head None end = []
frame_is_as_at_head_if b head (Some g) end = frame_is_as_at_head b head g end
