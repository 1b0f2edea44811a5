use Rattle.std.proofs.Common.{ap, sym, ◌∙◌, map}
use Rattle.std.specs.Prelude.{nat_lt}
use Rattle.std.specs.List.{list_all}
use Rattle.ob_verify.proofs.ListLoops.{given_below}
use Rattle.ob_verify.proofs.conditions.reads_below.Goals as goal

pub returns-in-Change : goal.returns-in-Change
returns-in-Change c = rw c.in-Change.is
    (c.are_given_below.ensures ∙ sym (given_below c.args.slots c.as_slice.result.now)
    ∙ ap (λ gs. list_all (λ k. nat_lt k c.args.slots) (map (λ pair. pair.1) gs)) c.as_slice.ensures)
