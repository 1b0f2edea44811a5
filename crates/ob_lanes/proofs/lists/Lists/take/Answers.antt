use Rattle.std.proofs.Common.{◌∙◌, sym, subst, refl}
use Rattle.ob_lanes.specs.Readers.{Listing, IsListOf, SameBut, items_of, is_listed}
use Rattle.ob_lanes.proofs.ListLemmas.{but_object}
use Rattle.ob_lanes.proofs.lists.Lists.take.Goals as goal

pub invariant_of-self : goal.invariant_of-self
invariant_of-self c = record {
  lists = c.take_out.ensures.lists ∙ c.self.invariant.lists;
  few_lists = c.self.invariant.few_lists;
  pairs = c.take_out.ensures.count;
}

pub returns-in-Some-clause-others : goal.returns-in-Some-clause-others
returns-in-Some-clause-others c =
    let i = c.self.inside in
    let was : Listing = record { objects = i.objects.keys; lanes = items_of i.links } in
    let now : Listing = record { objects = i.objects.keys; lanes = items_of c.take_out.new.links } in
    let list = subst (λ l. IsListOf c.args.object l c.in-Some.list) (sym c.self.view_is) c.in-Some.ensures.found in
    subst (λ l. SameBut c.args.lane c.args.object (is_listed l) (is_listed now)) c.self.view_is (but_object was now c.args.lane c.args.object c.in-Some.list list refl c.take_out.ensures.others)
