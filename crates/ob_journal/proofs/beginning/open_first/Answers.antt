use Rattle.std.proofs.Common.{arith}
use Rattle.ob_disk_spec.proofs.Behind.{behind_then}
use Rattle.ob_journal.proofs.Opens.{still_blank, blank_twice, seen_ready, first_opening, first_opens, first_during, first_held, opened_there}
use Rattle.ob_journal.proofs.beginning.open_first.Goals as goal

pub returns-in_err-closed-clause-crash : goal.returns-in_err-closed-clause-crash
returns-in_err-closed-clause-crash g c = λ image is fresh. still_blank c.args.area image c.args.built.now is _ fresh _ c.is_closed.ensures.quiet

pub returns-in_err-other_closed-clause-crash : goal.returns-in_err-other_closed-clause-crash
returns-in_err-other_closed-clause-crash g c = λ image is fresh.
    blank_twice c.args.area image c.args.built.now is _ fresh _ _ c.is_closed.ensures.quiet c.in_ok-closed.ensures.same c.is_closed-2.ensures.quiet

pub returns-in_err-put_area-clause-crash : goal.returns-in_err-put_area-clause-crash
returns-in_err-put_area-clause-crash g c = λ image is fresh.
    let ready = seen_ready c.args.area image c.args.built.now is _ fresh _ _ c.is_closed.ensures.quiet c.in_ok-closed.ensures.same c.is_closed-2.ensures.quiet _ c.in_ok-closed.ensures.looks in
    first_during c.args.area image c.args.built.now is _ fresh _ _ c.is_closed.ensures.quiet c.in_ok-closed.ensures.same c.is_closed-2.ensures.quiet _
    (c.put_area.ensures.crash (first_opening c.args.area image) (first_opens c.args.area image c.args.built.now is) ready)

pub returns-clause-crash : goal.returns-clause-crash
returns-clause-crash g c = λ image is fresh.
    let ready = seen_ready c.args.area image c.args.built.now is _ fresh _ _ c.is_closed.ensures.quiet c.in_ok-closed.ensures.same c.is_closed-2.ensures.quiet _ c.in_ok-closed.ensures.looks in
    first_during c.args.area image c.args.built.now is _ fresh _ _ c.is_closed.ensures.quiet c.in_ok-closed.ensures.same c.is_closed-2.ensures.quiet _
    (c.put_area.ensures.crash (first_opening c.args.area image) (first_opens c.args.area image c.args.built.now is) ready)

pub returns-clause-held : goal.returns-clause-held
returns-clause-held g c = λ image is fresh.
    let ready = seen_ready c.args.area image c.args.built.now is _ fresh _ _ c.is_closed.ensures.quiet c.in_ok-closed.ensures.same c.is_closed-2.ensures.quiet _ c.in_ok-closed.ensures.looks in
    first_held c.args.area image c.args.built.now is _ fresh _ _ c.is_closed.ensures.quiet c.in_ok-closed.ensures.same c.is_closed-2.ensures.quiet _ c.in_ok-other_closed.ensures.looks _
    (c.in_ok-put_area.ensures.opened (first_opening c.args.area image) (first_opens c.args.area image c.args.built.now is) ready) (c.put_area.ensures.behind c.args.area (omega (arith, is.within)))

pub returns-clause-opened : goal.returns-clause-opened
returns-clause-opened g c = opened_there _ _ c.in_ok-put_area.ensures.written

pub returns-in_err-closed-clause-behind : goal.returns-in_err-closed-clause-behind
returns-in_err-closed-clause-behind g c = λ size within. c.is_closed.ensures.behind size

pub returns-in_err-other_closed-clause-behind : goal.returns-in_err-other_closed-clause-behind
returns-in_err-other_closed-clause-behind g c = λ size within. behind_then size _ _ _ (c.is_closed.ensures.behind size) (c.is_closed-2.ensures.behind size)

pub returns-in_err-put_area-clause-behind : goal.returns-in_err-put_area-clause-behind
returns-in_err-put_area-clause-behind g c = λ size within.
    behind_then size _ _ _ (c.is_closed.ensures.behind size) (behind_then size _ _ _ (c.is_closed-2.ensures.behind size) (c.put_area.ensures.behind size (omega (arith, within))))

pub returns-clause-behind : goal.returns-clause-behind
returns-clause-behind g c = λ size within.
    behind_then size _ _ _ (c.is_closed.ensures.behind size) (behind_then size _ _ _ (c.is_closed-2.ensures.behind size) (c.put_area.ensures.behind size (omega (arith, within))))
