use Rattle.std.proofs.Common.{take, ap, ◌∙◌}
use Rattle.ob_flow_context.specs.View.{known_at}
use Rattle.ob_flow_premises.proofs.LoopLemmas.{kept_is}
use Rattle.ob_flow_premises.proofs.looping.known_below.Goals as goal

pub returns : goal.returns
returns c =
    ap known_at (c.in_ok-from_slice.ensures ∙ ap (λ n. take n c.args.known.now) c.min-kept.ensures)
    ∙ kept_is c.args.known.now c.args.count
