use Rattle.std.proofs.Common.{◌≡◌, [], true, false, subst, get_or}
use Rattle.ob_lanes.specs.Readers.{Listing, items_of, is_at}
use Rattle.ob_lanes.proofs.ListLemmas.{at_object, first_among, none_among}
use Rattle.ob_lanes.proofs.lists.Lists.first.Goals as goal

pub returns-in-Some-clause-some : goal.returns-in-Some-clause-some
returns-in-Some-clause-some c =
    let list = c.in_ok-list.list in
    let lane = c.in-Some.lane in
    at_object c.args.self.now lane c.args.object list true c.in_ok-list.ensures.found.is
    (subst (λ (l : Listing). is_at l.lanes lane list ≡ true) c.self.view_is (first_among lane (get_or (items_of c.self.inside.links) list []) c.in-Some.ensures))

pub returns-in-None-clause-none : goal.returns-in-None-clause-none
returns-in-None-clause-none c = λ k.
    let list = c.in_ok-list.list in
    at_object c.args.self.now k c.args.object list false c.in_ok-list.ensures.found.is
    (subst (λ (l : Listing). is_at l.lanes k list ≡ false) c.self.view_is (none_among k (get_or (items_of c.self.inside.links) list []) c.in-None.ensures))
