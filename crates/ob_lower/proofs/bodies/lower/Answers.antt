use Rattle.ob_table.specs.StatementsView.{resolved_body_of}
use Rattle.ob_silica.specs.TermsView.{silica_body_of}
use Rattle.ob_lower_functions.proofs.Bodies.{gives_terms}
use Rattle.ob_lower.proofs.BodiesLemmas.{few_slots, told}
use Rattle.ob_lower.proofs.bodies.lower.Goals as goal

pub returns-in-Ok-clause-lowered : goal.returns-in-Ok-clause-lowered
returns-in-Ok-clause-lowered c =
    (gives_terms c.args.table.now (resolved_body_of c.args.body.now) (silica_body_of c.in-Ok.terms) c.in-Ok.ensures).lowers

pub returns-in-Ok-clause-fits : goal.returns-in-Ok-clause-fits
returns-in-Ok-clause-fits c =
    (gives_terms c.args.table.now (resolved_body_of c.args.body.now) (silica_body_of c.in-Ok.terms) c.in-Ok.ensures).fits

pub returns-in-Ok-clause-few : goal.returns-in-Ok-clause-few
returns-in-Ok-clause-few c =
    few_slots c.args.table.now (resolved_body_of c.args.body.now) (silica_body_of c.in-Ok.terms) c.in-Ok.ensures

pub returns-in-Err-clause-fault : goal.returns-in-Err-clause-fault
returns-in-Err-clause-fault c =
    told c.args.table.now (resolved_body_of c.args.body.now) c.in-Err.stopped c.error_of.result c.error_of.ensures c.in-Err.ensures
