use Rattle.std.proofs.Common.{◌∙◌, map, subst}
use Rattle.std.specs.Prelude.{IfOk, IfErr}
use Rattle.ob_tree.specs.MembersView.{contract_of}
use Rattle.ob_resolve.specs.Resolving.{HasClassTable, IsFirstFault}
use Rattle.ob_base.specs.TextErrors.{OnFault}
use Rattle.ob_resolve.proofs.resolving.resolve.Goals as goal

pub returns-clause-table : goal.returns-clause-table
returns-clause-table c =
    subst (λ nodes. IfOk c.resolve_declared.result (λ table. HasClassTable (map contract_of nodes) table))
    (c.in_ok-declared.ensures ∙ c.as_slice.ensures) c.resolve_declared.ensures.table

pub returns-clause-fault : goal.returns-clause-fault
returns-clause-fault c =
    subst (λ nodes. IfErr c.resolve_declared.result (λ e. OnFault e (IsFirstFault (map contract_of nodes))))
    (c.in_ok-declared.ensures ∙ c.as_slice.ensures) c.resolve_declared.ensures.fault
