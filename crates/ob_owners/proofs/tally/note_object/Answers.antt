use Rattle.std.proofs.Common.{Some, None, ap, sym, ◌∙◌, map}
use Rattle.std.specs.Option.{option_copied}
use Rattle.ob_heap.specs.Plain.{object_of}
use Rattle.ob_code_table.specs.ImageTables.{table_of_image}
use Rattle.ob_owners.specs.Noting.{holding_of_field, after_holdings}
use Rattle.ob_owners.proofs.NotingLemmas.{references_there}
use Rattle.ob_owners.proofs.tally.note_object.Goals as goal

pub returns-in-Some : goal.returns-in-Some
returns-in-Some c = λ holder.
    c.note_fields.ensures holder
    ∙ sym (ap (λ rs. after_holdings (map (holding_of_field (table_of_image c.args.code.now) (map object_of c.args.objects.now)) rs) c.args.tallies.now)
    (references_there c.args.code.now holder c.args.object.now (Some c.in-Some.contract.now) (sym c.get.ensures.value ∙ ap option_copied c.in-Some.is)))

pub returns-in_default : goal.returns-in_default
returns-in_default c = λ holder.
    sym (ap (λ rs. after_holdings (map (holding_of_field (table_of_image c.args.code.now) (map object_of c.args.objects.now)) rs) c.args.tallies.now)
    (references_there c.args.code.now holder c.args.object.now None (sym c.get.ensures.value ∙ ap option_copied c.in_default.is)))
