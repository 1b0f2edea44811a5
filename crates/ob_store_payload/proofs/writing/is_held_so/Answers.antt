use Rattle.std.proofs.Common.{◌∙◌, ap}
use Rattle.std.specs.Str.{bytes_eq}
use Rattle.ob_store_payload.proofs.ValueLemmas.{held_same}
use Rattle.ob_store_payload.proofs.writing.is_held_so.Goals as goal

pub returns : goal.returns
returns c =
    held_same c.args.content.now c.args.name.now c.handle.result c.in_ok-before.before.items c.args.bytes.now c.are_same.result c.handle.ensures c.in_ok-before.ensures
    (c.are_same.ensures ∙ ap (λ l. bytes_eq l c.args.bytes.now) c.as_slice.ensures.value)
