use Rattle.std.proofs.Common.{ap, ◌∙◌, option_map}
use Rattle.ob_tree.specs.MembersView.{contract_of}
use Rattle.ob_resolve_scope.specs.Once.{parts_of}
use Rattle.ob_resolve_scope.proofs.OnceTurns.{asked_one}
use Rattle.ob_resolve_scope.proofs.around.AroundBody.asked.Goals as goal

pub returns-in-Some : goal.returns-in-Some
returns-in-Some c =
    ap (option_map parts_of) c.get.ensures.value
    ∙ asked_one (contract_of c.args.self.now.own) c.in-Some.asked.now c.args.number c.in-Some.ensures
