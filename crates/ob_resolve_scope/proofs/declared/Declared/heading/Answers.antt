use Rattle.std.proofs.Common.{Some, None, ◌∙◌}
use Rattle.ob_resolve_spec.specs.Declarations.{declared_contract}
use Rattle.ob_resolve_scope.specs.Types.{program_of}
use Rattle.ob_resolve_scope.proofs.MembersLemmas.{heading_in}
use Rattle.ob_resolve_scope.proofs.declared.Declared.heading.Goals as goal

pub returns-in-Some : goal.returns-in-Some
returns-in-Some c =
    c.heading_in.ensures
    ∙ heading_in (program_of c.args.self.now) c.args.name.now (declared_contract (program_of c.args.self.now) c.args.contract)
    (Some c.in-Some.members.now) c.in-Some.ensures

pub returns-in-None : goal.returns-in-None
returns-in-None c =
    heading_in (program_of c.args.self.now) c.args.name.now
    (declared_contract (program_of c.args.self.now) c.args.contract) None
    c.in-None.ensures
