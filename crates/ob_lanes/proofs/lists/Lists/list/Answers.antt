use Rattle.std.proofs.Common.{◌≡◌, ◌≤◌, Some, None, length, map, subst, arith}
use Rattle.std.proofs.lemmas.List.{length-map}
use Rattle.ob_links.specs.Lists.{Pair}
use Rattle.ob_lanes.specs.Readers.{Listing, IsListOf, place_in, items_of}
use Rattle.ob_lanes.proofs.ListLemmas.{found_place, none_place}
use Rattle.ob_lanes.proofs.lists.Lists.list.Goals as goal

pub returns-in-Some-clause-found : goal.returns-in-Some-clause-found
returns-in-Some-clause-found c =
    let i = c.self.inside in
    let h = found_place c.args.object i.objects.keys (Some c.in-Some.at) c.in-Some.ensures.index in
    let counted : length (items_of i.links) ≡ length i.links.lists = length-map i.links.lists (map (λ (x : Pair). x.1)) in
    subst (λ (l : Listing). IsListOf c.args.object l c.in-Some.at) c.self.view_is
    (record { is = h.0; among = h.1; within = omega (arith, h.1, counted, c.self.invariant.lists) })

pub returns-in-None-clause-none : goal.returns-in-None-clause-none
returns-in-None-clause-none c =
    let i = c.self.inside in
    let h = none_place c.args.object i.objects.keys None c.in-None.ensures.index in
    let counted : length (items_of i.links) ≡ length i.links.lists = length-map i.links.lists (map (λ (x : Pair). x.1)) in
    subst (λ (l : Listing). length l.lanes ≤ place_in c.args.object l.objects) c.self.view_is (omega (arith, h, counted, c.self.invariant.lists))
