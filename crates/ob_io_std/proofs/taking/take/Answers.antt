use Rattle.ob_io_std.proofs.TakingLemmas.{looks_then, taken_then}
use Rattle.ob_io_std.proofs.taking.take.Goals as goal

pub returns-in_err-apart-clause-looks : goal.returns-in_err-apart-clause-looks
returns-in_err-apart-clause-looks g c =
    looks_then _ _ _ c.open_regular.ensures.looks c.apart.ensures.looks

pub returns-in_err-hold-clause-looks : goal.returns-in_err-hold-clause-looks
returns-in_err-hold-clause-looks g c =
    looks_then _ _ _ c.open_regular.ensures.looks (looks_then _ _ _ c.apart.ensures.looks c.hold.ensures.looks)

pub returns-clause-taken : goal.returns-clause-taken
returns-clause-taken g c =
    taken_then _ _ _ _ c.args.name.now c.args.access _ c.in_ok-own.own c.in_ok-own.ensures.opened c.in_ok-apart.ensures.apart c.in_ok-hold.ensures.held

pub returns-clause-looks : goal.returns-clause-looks
returns-clause-looks g c =
    looks_then _ _ _ c.open_regular.ensures.looks (looks_then _ _ _ c.apart.ensures.looks c.hold.ensures.looks)
