use Rattle.std.proofs.Common.{◌≡◌, ◌+◌, map, sym, ◌∙◌, arith}
use Rattle.std.proofs.lemmas.Result.{err_from_is_err_and}
use Rattle.ob_base.specs.Limits.{most_instances}
use Rattle.ob_tree.specs.MembersView.{contract_of}
use Rattle.ob_generic_walk.proofs.Steps.{last_step, found_least}
use Rattle.ob_generic_walk.proofs.CopiedLemmas.{all_copied, too_much_walked, too_much_tree}
use Rattle.ob_generic_walk.proofs.finding.walk.Goals as goal

pub returns-clause-seen : goal.returns-clause-seen
returns-clause-seen c =
    c.loop-number.invariant.0 ∙ last_step (map contract_of c.args.nodes.now) c.loop-number.number
    (omega (arith, c.loop-number-test.false, c.loop-number.auto.number-end))

pub returns-clause-within : goal.returns-clause-within
returns-clause-within c =
    let program = map contract_of c.args.nodes.now in
    let end : c.loop-number.number ≡ most_instances = omega (arith, c.loop-number-test.false, c.loop-number.auto.number-end) in
    sym (too_much_tree program c.loop-number.found.least c.loop-number.copied
    (found_least program c.loop-number.found (c.loop-number.invariant.0 ∙ last_step program c.loop-number.number end))
    (c.loop-number.invariant.1 ∙ all_copied program c.loop-number.number end) c.loop-number.invariant.2)
    ∙ sym c.is_too_large.ensures ∙ c.if-is_too_large.false

pub returns-then-is_too_large-clause-too_much : goal.returns-then-is_too_large-clause-too_much
returns-then-is_too_large-clause-too_much c =
    let program = map contract_of c.args.nodes.now in
    let end : c.loop-number.number ≡ most_instances = omega (arith, c.loop-number-test.false, c.loop-number.auto.number-end) in
    let is = sym (too_much_tree program c.loop-number.found.least c.loop-number.copied
    (found_least program c.loop-number.found (c.loop-number.invariant.0 ∙ last_step program c.loop-number.number end))
    (c.loop-number.invariant.1 ∙ all_copied program c.loop-number.number end) c.loop-number.invariant.2)
    ∙ sym c.is_too_large.ensures ∙ c.if-is_too_large.true in
    λ e. is

pub returns-in_err-walk_number-clause-too_much : goal.returns-in_err-walk_number-clause-too_much
returns-in_err-walk_number-clause-too_much c =
    let program = map contract_of c.args.nodes.now in
    let p = err_from_is_err_and c.from_residual-in_err-walk_number.result c.from_residual-in_err-walk_number.ensures.1 in
    rw (p.1, p.2) (λ is. too_much_walked program (c.loop-number.number + 1) (omega (arith, c.loop-number-test.true))
    (c.in_err-walk_number.ensures.too_much (cc is)))
