use Rattle.std.proofs.Common.{sym, ◌∙◌}
use Rattle.ob_tree.specs.MembersView.{contract_of}
use Rattle.ob_resolve_members.proofs.AgreeLemmas.{agree-modes}
use Rattle.ob_resolve_members.proofs.permissions.agree.Goals as goal

pub returns-in-Mode-other : goal.returns-in-Mode-other
returns-in-Mode-other c =
    rw (c.in-Mode.is, c.in-Mode-other.is)
    (c.same_mode.ensures
    ∙ sym (agree-modes
    (contract_of c.args.around.now.own) c.in-Mode.mode c.in-Mode-other.second c.in-Mode.field-1 c.in-Mode-other.field-1))
