use Rattle.std.proofs.Common.{◌≡◌, length}
use Rattle.ob_silica_kinds.specs.Kinds.{kinds_of}
use Rattle.ob_flow_context.specs.View.{known_at}
use Rattle.ob_flow_context.proofs.BeginningLemmas.{first}
use Rattle.ob_flow_premises.specs.Loops.{numbers_kept}
use Rattle.ob_flow_premises.proofs.looping.slots_at_head.Given as goal

abbrev pub invariant-loop-number : goal.invariant-loop-number
invariant-loop-number l = (length l.slots ≡ l.number)
    × (known_at l.slots ≡ first l.number (numbers_kept (kinds_of l.there.slots) (known_at l.context.slots)))
