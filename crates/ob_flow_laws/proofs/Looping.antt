-- What holds where the turn of a Loop ends.
use Rattle.std.proofs.Common.{ℕ, Option, Some, None}
use Rattle.ob_base.specs.declared.fault.Span.{Span}
use Rattle.ob_silica_places.specs.Places.{slot, field}
use Rattle.ob_flow_spec.specs.Premises.{each}
use Rattle.ob_flow_spec.specs.Contexts.{BodyFrame, field_count, Context}
use Rattle.ob_flow_spec.specs.Looping.{place_is_as_at_head, frame_is_as_at_head, frame_is_as_at_head_if}
use Rattle.ob_flow_laws.specs.Premises.{Hold}
use Rattle.ob_flow_laws.specs.Looping.{TurnsBack, TurnsBackIf}
use Rattle.ob_flow_laws.proofs.Premises.{both_hold, each_holds}

turn_ends : (b : BodyFrame) (head g : Context) (end : Span) → Hold (frame_is_as_at_head b head g end) → TurnsBack b head g
turn_ends b head g end h =
    let r = both_hold (each b.slots (λ k. place_is_as_at_head b head g end (slot k))) (each (field_count b) (λ f. place_is_as_at_head b head g end (field f))) h.1 in
    record {
      itself = h.0;
      slots = λ k lt. (each_holds b.slots (λ k. place_is_as_at_head b head g end (slot k)) r.0 k lt).0;
      fields = λ f lt. (each_holds (field_count b) (λ f. place_is_as_at_head b head g end (field f)) r.1 f lt).0;
    }

pub turn_ends_if : (b : BodyFrame) (head : Context) (turned : Option Context) (end : Span) → Hold (frame_is_as_at_head_if b head turned end)
    → TurnsBackIf b head turned
turn_ends_if b head None end h = tt
turn_ends_if b head (Some g) end h = turn_ends b head g end h
