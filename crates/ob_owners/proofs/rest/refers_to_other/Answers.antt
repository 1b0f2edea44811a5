use Rattle.std.proofs.Common.{Some, None, not, sym, ap, ◌∙◌, map}
use Rattle.std.specs.List.{list_any}
use Rattle.std.specs.Option.{option_copied}
use Rattle.ob_heap.specs.Plain.{object_of}
use Rattle.ob_code_table.specs.ImageTables.{table_of_image}
use Rattle.ob_rest_spec.specs.Failing.{refers_as_declared}
use Rattle.ob_rest_spec.specs.References.{FieldReference}
use Rattle.ob_owners.proofs.NotingLemmas.{references_there}
use Rattle.ob_owners.proofs.rest.refers_to_other.Goals as goal

pub returns-in-Some : goal.returns-in-Some
returns-in-Some c = λ holder.
    c.refers_to_other_by.ensures holder
    ∙ sym (ap (list_any (λ (r : FieldReference). not (refers_as_declared (table_of_image c.args.code.now) (map object_of c.args.objects.now) r)))
    (references_there c.args.code.now holder c.args.object.now (Some c.in-Some.contract.now) (sym c.get.ensures.value ∙ ap option_copied c.in-Some.is)))

pub returns-in-None : goal.returns-in-None
returns-in-None c = λ holder.
    sym (ap (list_any (λ (r : FieldReference). not (refers_as_declared (table_of_image c.args.code.now) (map object_of c.args.objects.now) r)))
    (references_there c.args.code.now holder c.args.object.now None (sym c.get.ensures.value ∙ ap option_copied c.in-None.is)))
