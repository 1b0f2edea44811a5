use Rattle.std.proofs.Common.{◌≤◌, ◌∙◌, suc, ◌<◌, ◌^◌, length, sym, ap, subst, arith}
use Rattle.ob_lanes.specs.Readers.{Listing, items_of, is_listed, place_in}
use Rattle.ob_lanes.proofs.ListLemmas.{length_items, counted_more, list_more, same_more}
use Rattle.ob_lanes.proofs.lists.Lists.add.Goals as goal

pub invariant_of-self-in-Ok : goal.invariant_of-self-in-Ok
invariant_of-self-in-Ok c =
    let i = c.self.inside in
    let few : suc (length i.objects.keys) < 2 ^ 32 = omega (arith, c.if-list.false, c.len-list.ensures.len) in
    counted_more i.objects.keys c.add_last.new.objects.keys i.links c.more.new.self i.count c.args.object c.self.invariant few c.in_ok-add_last.ensures.ok c.in-Ok.ensures.ok

pub returns-in-Ok-clause-found : goal.returns-in-Ok-clause-found
returns-in-Ok-clause-found c =
    let i = c.self.inside in
    let none : length (items_of i.links) ≤ place_in c.args.object i.objects.keys = subst (λ (l : Listing). length l.lanes ≤ place_in c.args.object l.objects) (sym c.self.view_is) c.requires in
    let past : length i.objects.keys ≤ place_in c.args.object i.objects.keys = omega (arith, none, length_items i.links, c.self.invariant.lists) in
    list_more i.objects.keys c.add_last.new.objects.keys i.links c.more.new.self c.args.object c.len-list.result c.self.invariant.lists past c.len-list.ensures.len c.in_ok-add_last.ensures.ok c.in-Ok.ensures.ok

pub returns-in-Ok-clause-same : goal.returns-in-Ok-clause-same
returns-in-Ok-clause-same c = λ k n.
    let i = c.self.inside in
    same_more i.objects.keys c.add_last.new.objects.keys i.links c.more.new.self c.args.object c.self.invariant.lists c.in_ok-add_last.ensures.ok c.in-Ok.ensures.ok k n
    ∙ ap (λ (l : Listing). is_listed l k n) c.self.view_is
