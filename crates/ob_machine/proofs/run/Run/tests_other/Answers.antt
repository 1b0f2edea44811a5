use Rattle.std.proofs.Common.{◌∙◌, sym, subst}
use Rattle.ob_heap_spec.specs.Marks.{is_among}
use Rattle.ob_machine_parts.specs.Giving.{Gives}
use Rattle.ob_machine.specs.Shown.{shown, told}
use Rattle.ob_machine.proofs.TestLemmas.{unshared, unbarred, not_true}
use Rattle.ob_machine.proofs.run.Run.tests_other.Goals as goal

pub returns-then-not-shared : goal.returns-then-not-shared
returns-then-not-shared c = λ base o x e.
    subst (λ n. Gives c.branches.result n (told (shown c.branches.new.self base o)))
    (sym (unshared c.args.id.0 c.args.target x (shown c.args.self.now base o) c.args.holds (e ∙ c.if-not-shared.true)))
    (c.branches.ensures base o)

pub returns : goal.returns
returns c = λ base o x e.
    subst (λ n. Gives c.branches-2.result n (told (shown c.branches-2.new.self base o)))
    (sym (unbarred c.args.id.0 c.args.target x (shown c.args.self.now base o) c.args.holds (e ∙ c.if-not-shared.false)
    (not_true (is_among c.args.id.0 c.args.self.now.guard.locked) (sym c.may_change.ensures ∙ c.if-not-may_change.false)) (sym c.busy.ensures ∙ c.if-busy.false)))
    (c.branches-2.ensures base o)
