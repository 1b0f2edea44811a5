use Rattle.std.proofs.Common.{◌<◌, ◌+◌, map, ap, sym, ◌∙◌, subst}
use Rattle.std.proofs.lemmas.Result.{on_ok_weaker}
use Rattle.ob_base.specs.Limits.{most_walked}
use Rattle.ob_tree.specs.MembersView.{contract_of}
use Rattle.ob_generic_spec.specs.Copied.{copied_by}
use Rattle.ob_generic_walk.proofs.Steps.{some_step, none_step}
use Rattle.ob_generic_walk.proofs.CopiedLemmas.{some_copied, none_copied}
use Rattle.ob_generic_walk.proofs.finding.walk_number.Goals as goal

pub returns-in-None-clause-seen : goal.returns-in-None-clause-seen
returns-in-None-clause-seen c =
    none_step (map contract_of c.args.nodes.now) c.args.number c.args.found.now c.requires.so_far
    (sym c.in-None.is ∙ c.in_ok-copy_at.ensures)

pub returns-in-None-clause-counted : goal.returns-in-None-clause-counted
returns-in-None-clause-counted c =
    c.requires.counted
    ∙ sym (none_copied (map contract_of c.args.nodes.now) c.args.number c.args.found.now c.requires.so_far
    (sym c.in-None.is ∙ c.in_ok-copy_at.ensures))

pub returns-in-Some-clause-seen : goal.returns-in-Some-clause-seen
returns-in-Some-clause-seen c =
    on_ok_weaker c.walk_counted.result (λ e. e
    ∙ some_step (map contract_of c.args.nodes.now) c.args.number c.args.found.now c.in-Some.instance c.requires.so_far
    (sym c.in-Some.is ∙ c.in_ok-copy_at.ensures)) c.walk_counted.ensures.seen

pub returns-in-Some-clause-counted : goal.returns-in-Some-clause-counted
returns-in-Some-clause-counted c =
    let program = map contract_of c.args.nodes.now in
    let sum = ap (λ n. n + copied_by program c.in-Some.instance) c.requires.counted
    ∙ sym (some_copied program c.args.number c.args.found.now c.in-Some.instance c.requires.so_far
    (sym c.in-Some.is ∙ c.in_ok-copy_at.ensures)) in
    on_ok_weaker c.walk_counted.result (λ e. e ∙ sum) c.walk_counted.ensures.counted

pub returns-in-Some-clause-too_much : goal.returns-in-Some-clause-too_much
returns-in-Some-clause-too_much c =
    let program = map contract_of c.args.nodes.now in
    let sum = ap (λ n. n + copied_by program c.in-Some.instance) c.requires.counted
    ∙ sym (some_copied program c.args.number c.args.found.now c.in-Some.instance c.requires.so_far
    (sym c.in-Some.is ∙ c.in_ok-copy_at.ensures)) in
    λ is. subst (λ n. most_walked < n) sum (c.walk_counted.ensures.too_much is)
