use Rattle.std.proofs.Common.{◌≡◌, ℕ, Bool, true, Option, Some, None, sym, ap, ◌∙◌}
use Rattle.std.specs.Prelude.{if◌then◌else◌}
use Rattle.ob_base.specs.Optional.{◌>>=◌}
use Rattle.ob_base.specs.declared.id.FieldId.{FieldId}
use Rattle.ob_code.specs.declared.image.Image.{Image}
use Rattle.ob_heap_spec.specs.Contents.{object_at}
use Rattle.ob_heap_spec.specs.Objects.{Object, with_field}
use Rattle.ob_heap_spec.specs.Values.{Value}
use Rattle.ob_heap_spec.specs.Worlds.{World, edit_object}
use Rattle.ob_heap.specs.Plain.{object_of, value_of}
use Rattle.ob_machine_steps.specs.Slots.{Slots, value_at}
use Rattle.ob_machine_parts.specs.Changes.{is_storable, stored}
use Rattle.ob_machine_parts.specs.Shown.{slots_of, world_with}
use Rattle.ob_machine_parts.proofs.fields.store.Goals as goal

stored_so : (image : Image) (field : FieldId) (a n : ℕ) (slots : Slots) (w : World) (o : Object) (b : Bool) (v : Value)
    → object_at w.objects n ≡ Some o → is_storable image field o ≡ Some b → b ≡ true → value_at slots a ≡ Some v
    → stored image field a n slots w ≡ Some (edit_object (with_field field.0 v) n w)
stored_so image field a n slots w o b v e f g h =
    ap (λ (r : Option Object). r >>= λ o. is_storable image field o >>= λ may. if may then (value_at slots a >>= λ v. Some (edit_object (with_field field.0 v) n w)) else None) e
    ∙ ap (λ (r : Option Bool). r >>= λ may. if may then (value_at slots a >>= λ v. Some (edit_object (with_field field.0 v) n w)) else None) (f ∙ ap Some g)
    ∙ ap (λ (r : Option Value). r >>= λ v. Some (edit_object (with_field field.0 v) n w)) h

pub returns-clause-told : goal.returns-clause-told
returns-clause-told c = λ g u.
    stored_so c.args.code.now c.args.field c.args.a c.args.this.0 (slots_of c.args.slots.now) (world_with g u c.args.base.now.objects c.args.overlay.now)
    (object_of c.in_ok-find.field-0.now) c.in_ok-is_storable.field-0 (value_of c.in_ok-value.value) c.in_ok-find.ensures.object
    c.in_ok-is_storable.ensures c.if-not-branch.false c.in_ok-value.ensures
    ∙ ap Some (sym (c.in_ok-set_field.ensures.world g u))
