use Rattle.std.proofs.Common.{sym, ◌∙◌}
use Rattle.ob_resolve_bodies.proofs.StatesLemmas.{has_states}
use Rattle.ob_resolve_bodies.proofs.permissions.count_of_states.Goals as goal

pub returns-in-Some-Some : goal.returns-in-Some-Some
returns-in-Some-Some c =
    has_states c.args.types.now c.args.contract c.args.node.now c.in-Some-Some.count c.in-Some-Some.names.now c.requires
    c.in-Some-Some.ensures c.in-Some-Some.ensures' c.if-count-le32.true (sym c.len.ensures ∙ c.if-len-count.true)
