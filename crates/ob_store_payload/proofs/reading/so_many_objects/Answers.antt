use Rattle.std.proofs.Common.{◌∙◌, [], ◌∷◌, map, ap, sym, subst, ◌<◌, All, rules}
use Rattle.std.proofs.lemmas.List.{map-append}
use Rattle.std.proofs.lemmas.List.Elements.{All-push}
use Rattle.ob_format_spec.specs.Combinators.{read_times}
use Rattle.ob_format.proofs.Loops.{times_step}
use Rattle.ob_heap.specs.Plain.{object_of}
use Rattle.ob_code_table.specs.ImageTables.{table_of_image}
use Rattle.ob_store_laws.specs.Recorded.{object_change}
use Rattle.ob_store_spec.specs.Payloads.{object}
use Rattle.ob_store_payload.specs.Values.{HasItsValues}
use Rattle.ob_store_payload.proofs.reading.so_many_objects.Goals as goal

pub objects-preserved : goal.objects-preserved
objects-preserved c =
    let table = table_of_image c.args.code.now in
    let f = object_change table in
    let less : c.objects.counter < c.args.count = search rules in (
      times_step (object table).read c.args.count c.objects.counter (map f c.objects.objects) (map f c.push.new.self) (f c.in_ok-next.next) c.objects.rest.now c.in_ok-next.after.now
          (read_times (object table).read c.args.count c.args.bytes.now) less c.objects.invariant.0 c.in_ok-next.ensures.read
          (ap (map f) c.in-Ok.ensures.ok ∙ map-append f c.objects.objects (c.in_ok-next.next ∷ [])),
      subst (All (λ e. HasItsValues table (object_of e.1))) (sym c.in-Ok.ensures.ok)
          (All-push (λ e. HasItsValues table (object_of e.1)) c.objects.objects c.in_ok-next.next c.objects.invariant.1 c.in_ok-next.ensures.values),
    )
