use Rattle.std.proofs.Common.{◌≡◌, ◌∷◌, ◌++◌, ◌∙◌, [], sym, ap, Some}
use Rattle.ob_heap_spec.specs.Values.{reference}
use Rattle.ob_machine_parts.specs.Shown.{slots_of}
use Rattle.ob_machine_parts.proofs.ArgumentsLemmas.{first_gives, first_fails, some_same}
use Rattle.ob_machine_parts.proofs.arguments.first.Goals as goal

pub returns-in-Ok : goal.returns-in-Ok
returns-in-Ok c =
    let empty = ap slots_of c.in_ok-first.ensures.items in
    let one : slots_of c.push.new.slots.items ≡ Some (reference c.args.this.0) ∷ [] =
    sym (some_same _ _ c.in_ok-push.ensures) ∙ ap (λ s. s ++ Some (reference c.args.this.0) ∷ []) empty in
    first_gives c.pad.result slots_of (slots_of c.args.slots.now) c.args.args.now c.args.this.0 c.args.count (slots_of c.push.new.slots.items)
    (slots_of c.in-Ok.given.items) one c.in-Ok.ensures c.pad.ensures

pub returns-in-Err : goal.returns-in-Err
returns-in-Err c =
    let empty = ap slots_of c.in_ok-first.ensures.items in
    let one : slots_of c.push.new.slots.items ≡ Some (reference c.args.this.0) ∷ [] =
    sym (some_same _ _ c.in_ok-push.ensures) ∙ ap (λ s. s ++ Some (reference c.args.this.0) ∷ []) empty in
    first_fails c.in-Err.off slots_of (λ v. slots_of v.items) (slots_of c.args.slots.now) c.args.args.now c.args.this.0 c.args.count (slots_of c.push.new.slots.items) one c.in-Err.ensures
