use Rattle.std.proofs.Common.{◌≡◌, refl, ap, arith}
use Rattle.slab.specs.Slab.{Slab}
use Rattle.ob_owners.specs.declared.spot.Spot.{Spot}
use Rattle.ob_owners.proofs.PlacesLemmas.{kept_with, room_kept}
use Rattle.ob_owners.proofs.places.Places.reserve.Goals as goal

pub invariant_of-self : goal.invariant_of-self
invariant_of-self c =
    let h = c.self.invariant in
    let slots : c.reserve.new.self.slots ≡ c.self.inside.spots.slots = ap (λ (s : Slab Spot). s.slots) c.reserve.ensures.rest_kept in
    kept_with c.self.inside.links c.self.inside.links c.self.inside.spots c.reserve.new.self c.self.inside.lists c.self.inside.count c.self.inside.room c.self.inside.room h refl slots
    h.nodes_room (room_kept c.self.inside.spots c.reserve.new.self c.self.inside.room slots c.reserve.ensures.capacity h.spots_room) h.few

pub invariant_of-self-in_err-reserve-2 : goal.invariant_of-self-in_err-reserve-2
invariant_of-self-in_err-reserve-2 c =
    let h = c.self.invariant in
    let slots : c.reserve.new.self.slots ≡ c.self.inside.spots.slots = ap (λ (s : Slab Spot). s.slots) c.reserve.ensures.rest_kept in
    kept_with c.self.inside.links c.reserve-2.new.self c.self.inside.spots c.reserve.new.self c.self.inside.lists c.self.inside.count c.self.inside.room c.self.inside.room h
    c.reserve-2.ensures.lists slots (omega (arith, h.nodes_room, c.reserve-2.ensures.spare))
    (room_kept c.self.inside.spots c.reserve.new.self c.self.inside.room slots c.reserve.ensures.capacity h.spots_room) h.few

pub invariant_of-self-2 : goal.invariant_of-self-2
invariant_of-self-2 c =
    let slots : c.reserve.new.self.slots ≡ c.self.inside.spots.slots = ap (λ (s : Slab Spot). s.slots) c.reserve.ensures.rest_kept in
    kept_with c.self.inside.links c.reserve-2.new.self c.self.inside.spots c.reserve.new.self c.self.inside.lists c.self.inside.count c.self.inside.room c.args.places c.self.invariant
    c.reserve-2.ensures.lists slots c.in_ok-reserve-2.ensures.room c.in_ok-reserve.ensures.room (omega (arith, c.if-places-self-2.false))
