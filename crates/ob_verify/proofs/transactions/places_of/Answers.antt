use Rattle.std.proofs.Common.{◌+◌, take, sym, subst, arith}
use Rattle.ob_verify.specs.Named.{HavePlaces}
use Rattle.ob_verify.proofs.PlaceLemmas.{bodies_turn, bodies_end}
use Rattle.ob_verify.proofs.transactions.places_of.Goals as goal

pub loop-place-preserved : goal.loop-place-preserved
loop-place-preserved c =
    subst (λ es. HavePlaces es (take (c.loop-place.place + 1) c.args.bodies.now)) (sym c.in_ok-add_body.ensures)
    (bodies_turn c.args.bodies.now c.loop-place.places c.loop-place.place c.index-bodies-place.result (omega arith) c.index-bodies-place.is c.loop-place.invariant)

pub returns : goal.returns
returns c = bodies_end c.args.bodies.now c.loop-place.places c.loop-place.place (omega arith) c.loop-place.invariant
