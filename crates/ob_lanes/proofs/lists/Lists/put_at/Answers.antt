use Rattle.std.proofs.Common.{◌≡◌, ◌∙◌, true, sym, subst}
use Rattle.ob_lanes.specs.Readers.{Listing, is_at}
use Rattle.ob_lanes.proofs.ListLemmas.{node_tells}
use Rattle.ob_lanes.proofs.lists.Lists.put_at.Goals as goal

pub returns-then-is_some-clause-listed : goal.returns-then-is_some-clause-listed
returns-then-is_some-clause-listed c =
    subst (λ (l : Listing). is_at l.lanes c.args.lane c.args.list ≡ true) c.self.view_is
    (sym (node_tells c.args.lane c.args.list c.self.inside.links c.node.result c.node.ensures.node) ∙ sym c.is_some.ensures ∙ c.if-is_some.true)
