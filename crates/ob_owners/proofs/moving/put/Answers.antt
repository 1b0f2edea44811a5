use Rattle.std.proofs.Common.{◌<◌, ◌≤◌, ◌∙◌, length, subst}
use Rattle.ob_owners.specs.Order.{with_place}
use Rattle.ob_owners.specs.Spots.{place_of}
use Rattle.ob_owners.proofs.OwnersLemmas.{changed_at}
use Rattle.ob_owners.proofs.TallyLaws.{changed_past}
use Rattle.ob_owners.proofs.moving.put.Goals as goal

pub returns-then-object-count-clause-lists : goal.returns-then-object-count-clause-lists
returns-then-object-count-clause-lists g c =
    let lists = c.args.places.now.lists in
    let within : c.args.owning.object.0 < length lists = subst (λ k. c.args.owning.object.0 < k) c.count_lists-count.ensures c.if-object-count.true in
    c.put.ensures.lists ∙ changed_at (with_place (place_of c.args.owning.spot)) lists c.args.owning.object.0 within

pub returns-else-object-count-clause-lists : goal.returns-else-object-count-clause-lists
returns-else-object-count-clause-lists g c =
    let lists = c.args.places.now.lists in
    let past : length lists ≤ c.args.owning.object.0 = subst (λ k. k ≤ c.args.owning.object.0) c.count_lists-count.ensures c.if-object-count.false in
    changed_past (with_place (place_of c.args.owning.spot)) lists c.args.owning.object.0 past
