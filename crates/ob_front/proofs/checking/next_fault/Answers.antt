use Rattle.std.proofs.Common.{map, refl, true≢false}
use Rattle.ob_silica.specs.TermsView.{silica_body_of}
use Rattle.ob_front.proofs.MiddleTurns.{numbered_at, more_derive, next_here, next_or_all, rest_derives}
use Rattle.ob_front.proofs.checking.next_fault.Goals as goal

pub check-requires-clause-states : goal.check-requires-clause-states
check-requires-clause-states c =
    numbered_at c.args.bodies.now c.loop-number.number c.index-bodies-number.result c.loop-number-test.true c.index-bodies-number.is
    c.requires.states

pub loop-number-preserved : goal.loop-number-preserved
loop-number-preserved c =
    more_derive c.args.table.now c.args.bodies.now c.args.from c.loop-number.number c.index-bodies-number.result c.loop-number-test.true
    c.index-bodies-number.is c.in-Ok.ensures.derives c.loop-number.invariant

pub returns-in-Err-Fault : goal.returns-in-Err-Fault
returns-in-Err-Fault c =
    let next = next_here c.args.table.now c.args.bodies.now c.args.from c.loop-number.number c.index-bodies-number.result c.in-Err-Fault.fault
    c.loop-number-test.true c.index-bodies-number.is c.loop-number.auto.number c.loop-number.invariant
    (rw c.in-Err-Fault.field-0-is at c.in-Err-Fault.ensures.fault) in
    rw c.in-Err-Fault.field-0-is (record {
      found = next;
      none = (
        λ e. absurd (true≢false e),
        λ all. absurd (next_or_all c.args.table.now (map silica_body_of c.args.bodies.now) c.args.from c.loop-number.number
            c.in-Err-Fault.fault next all),
      );
    })

pub returns-clause-none : goal.returns-clause-none
returns-clause-none c = (
  λ _. rest_derives c.args.table.now c.args.bodies.now c.args.from c.loop-number.number c.loop-number-test.false c.loop-number.invariant,
  λ _. refl,
)
