use Rattle.std.proofs.Common.{sym, ◌∙◌, arith}
use Rattle.std.proofs.lemmas.List.{length-map}
use Rattle.ob_heap.specs.Contents.{content_of, named_of}
use Rattle.ob_heap.specs.Plain.{object_of}
use Rattle.ob_code_table.specs.ImageTables.{table_of_image}
use Rattle.ob_rest_spec.proofs.FirstFailing.{told}
use Rattle.ob_owners.proofs.RestLemmas.{failing_below}
use Rattle.ob_owners.proofs.rest.check_at_rest.Goals as goal

pub overflow_cast-result : goal.overflow_cast-result
overflow_cast-result c =
    let below = failing_below (table_of_image c.args.code.now) c.args.content.now c.in-Some.place (sym c.first_failing.ensures ∙ c.in-Some.is) in
    omega (arith, below, c.requires)

pub returns-clause-answer : goal.returns-clause-answer
returns-clause-answer c =
    (told (table_of_image c.args.code.now) (content_of c.args.content.now)).0 (sym c.first_failing.ensures ∙ c.in_default.is)

pub returns-clause-store : goal.returns-clause-store
returns-clause-store c = λ is_content few_handles. record {
  is_content = is_content;
  at_rest = (told (table_of_image c.args.code.now) (content_of c.args.content.now)).0 (sym c.first_failing.ensures ∙ c.in_default.is);
  few_objects = omega (arith, length-map c.args.content.now.objects object_of, c.requires);
  few_handles = omega (arith, length-map c.args.content.now.handles named_of, few_handles);
}
