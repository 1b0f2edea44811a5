use Rattle.ob_io_std.proofs.TakingLemmas.{looks_none, looks_one, looks_then, opened_then}
use Rattle.ob_io_std.proofs.taking.open_regular.Goals as goal

pub returns-in_err-regular-clause-looks : goal.returns-in_err-regular-clause-looks
returns-in_err-regular-clause-looks g c =
    looks_then _ _ _ c.none_else.ensures.looks (looks_then _ _ _ (looks_one _ _ _ c.in_ok-open.ensures tt) c.regular.ensures.looks)

pub returns-in_err-own-clause-looks : goal.returns-in_err-own-clause-looks
returns-in_err-own-clause-looks g c =
    looks_then _ _ _ c.none_else.ensures.looks (looks_then _ _ _ (looks_one _ _ _ c.in_ok-open.ensures tt) (looks_then _ _ _ c.regular.ensures.looks (looks_none _ _ c.in_err-own.ensures)))

pub returns-clause-opened : goal.returns-clause-opened
returns-clause-opened g c =
    opened_then _ _ _ _ _ c.args.name.now c.args.access c.in_ok-own.own c.in_ok-none_else.ensures.seen c.in_ok-open.ensures c.in_ok-regular.ensures.regular c.in_ok-own.ensures

pub returns-clause-looks : goal.returns-clause-looks
returns-clause-looks g c =
    looks_then _ _ _ c.none_else.ensures.looks (looks_then _ _ _ (looks_one _ _ _ c.in_ok-open.ensures tt) (looks_then _ _ _ c.regular.ensures.looks (looks_one _ _ _ c.in_ok-own.ensures tt)))
