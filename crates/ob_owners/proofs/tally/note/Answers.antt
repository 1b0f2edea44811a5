use Rattle.ob_owners.specs.Noting.{with_holding}
use Rattle.ob_owners.proofs.TallyLaws.{changed_is_set, changed_past}
use Rattle.ob_owners.proofs.tally.note.Goals as goal

pub returns-then-place-tallies : goal.returns-then-place-tallies
returns-then-place-tallies c =
    changed_is_set (with_holding c.args.holding) c.args.tallies.now c.args.holding.object.0 _ c.with_holding.result c.if-place-tallies.true c.with_holding.ensures

pub returns-else-place-tallies : goal.returns-else-place-tallies
returns-else-place-tallies c =
    changed_past (with_holding c.args.holding) c.args.tallies.now c.args.holding.object.0 c.if-place-tallies.false
