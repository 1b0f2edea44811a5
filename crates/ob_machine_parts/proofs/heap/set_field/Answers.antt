use Rattle.std.proofs.Common.{ap}
use Rattle.ob_heap_spec.specs.Objects.{with_field, Object as PlainObject}
use Rattle.ob_heap.specs.declared.edit.Edit.TheVariants.{Field}
use Rattle.ob_heap.specs.Plain.{value_of, object_of}
use Rattle.ob_machine_parts.proofs.FieldLemmas.{fields_put}
use Rattle.ob_machine_parts.proofs.WorldLemmas.{edited_ok}
use Rattle.ob_machine_parts.proofs.UnreadLemmas.{edited_only}
use Rattle.ob_machine_parts.proofs.heap.set_field.Goals as goal

pub returns-clause-world : goal.returns-clause-world
returns-clause-world c =
    edited_ok (with_field c.args.field.0 (value_of c.args.value)) c.edit.result c.args.base.now.objects c.args.overlay.now c.edit.new.self c.args.id.0
    (Field c.args.field c.args.value) c.requires c.edit.ensures.objects c.edit.ensures.same
    (λ x. ap {B = PlainObject} (λ g. record (object_of x) { fields = g }) (fields_put c.args.field c.args.value x.fields))

pub returns-clause-unread : goal.returns-clause-unread
returns-clause-unread c =
    edited_only c.edit.result c.args.base.now.objects c.args.overlay.now c.edit.new.self c.args.id.0 c.edit.ensures.others c.edit.ensures.same
