use Rattle.std.proofs.lemmas.Result.{IfOk-weaker, IfErr-weaker}
use Rattle.ob_base.specs.TextErrors.{OnFault}
use Rattle.ob_tree.specs.MembersView.{tree_of}
use Rattle.ob_resolve.specs.Resolving.{HasClassTable, IsFirstFault}
use Rattle.ob_front.specs.Stages.{HasTable, IsWellFormedTable, HasTableFault}
use Rattle.ob_front.proofs.StagesLaws.{told_of_tree, table_is, well_formed, no_generics}
use Rattle.ob_front.proofs.stages.class_table.Goals as goal

pub resolve-resolved-requires : goal.resolve-resolved-requires
resolve-resolved-requires c = record { plain = no_generics _ _ c.in_ok-made.ensures.tree }

pub returns-clause-table : goal.returns-clause-table
returns-clause-table c =
    IfOk-weaker c.resolve-resolved.result (HasClassTable (tree_of c.in_ok-made.made)) (HasTable c.args.text.now)
    (λ table has. table_is _ _ table c.in_ok-made.ensures.tree has)
    c.resolve-resolved.ensures.table

pub returns-clause-well_formed : goal.returns-clause-well_formed
returns-clause-well_formed c =
    IfOk-weaker c.resolve-resolved.result (HasClassTable (tree_of c.in_ok-made.made)) IsWellFormedTable
    (λ table has. well_formed c.args.text.now table (table_is _ _ table c.in_ok-made.ensures.tree has))
    c.resolve-resolved.ensures.table

pub returns-clause-fault : goal.returns-clause-fault
returns-clause-fault c =
    IfErr-weaker c.resolve-resolved.result (λ e. OnFault e (IsFirstFault (tree_of c.in_ok-made.made)))
    (λ e. OnFault e (HasTableFault c.args.text.now))
    (λ cause has. told_of_tree _ _ cause c.in_ok-made.ensures.tree has)
    c.resolve-resolved.ensures.fault
