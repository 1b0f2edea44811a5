use Rattle.std.proofs.Common.{◌∙◌, sym, subst}
use Rattle.ob_machine_parts.specs.Giving.{Gives}
use Rattle.ob_machine.specs.Shown.{shown, told}
use Rattle.ob_machine.proofs.TestLemmas.{locked_out, not_locked_out}
use Rattle.ob_machine.proofs.run.Run.tests_this.Goals as goal

pub returns-then-is_locked_out : goal.returns-then-is_locked_out
returns-then-is_locked_out c = λ base o.
    locked_out c.args.id.0 c.args.target (shown c.args.self.now base o) c.args.holds (sym (c.is_locked_out.ensures base o) ∙ c.if-is_locked_out.true)

pub returns : goal.returns
returns c = λ base o.
    subst (λ n. Gives c.branches.result n (told (shown c.branches.new.self base o)))
    (sym (not_locked_out c.args.id.0 c.args.target (shown c.args.self.now base o) c.args.holds (sym (c.is_locked_out.ensures base o) ∙ c.if-is_locked_out.false)))
    (c.branches.ensures base o)
