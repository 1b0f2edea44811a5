use Rattle.std.proofs.Common.{◌∙◌, sym, ap}
use Rattle.ob_perm.specs.States.{intersection}
use Rattle.ob_perm.specs.Permissions.{owned, permission_within}
use Rattle.ob_perm.specs.Masks.{states_of, held}
use Rattle.ob_perm.proofs.permission.within.Goals as goal

pub returns-in-Owned-clause-is : goal.returns-in-Owned-clause-is
returns-in-Owned-clause-is c = let states = states_of c.args.p.states in
    c.owned.ensures.is
    ∙ ap owned (c.intersection.ensures ∙ ap (intersection states) c.bit.ensures)
    ∙ sym (ap (λ m. permission_within (held m states) c.args.state.0) c.in-Owned.is)
