use Rattle.std.proofs.Common.{◌≡◌, ◌+◌, ◌-◌, ◌<◌, ◌∷◌, length, get_or, ap, sym, ◌∙◌, arith, drop}
use Rattle.ob_table_spec.specs.WellFormed.{kind_of_resolved}
use Rattle.ob_lower_spec.specs.Forms.{SlotVariable, params_from}
use Rattle.ob_lower_parts.specs.Visible.{newest_first}
use Rattle.ob_lower_parts.proofs.VariablesLemmas.{newest_first-push, params_from-drop}
use Rattle.ob_lower_parts.proofs.variables.Variables.of_params.Goals as goal

pub loop-index-preserved : goal.loop-index-preserved
loop-index-preserved c =
    let l = c.loop-index in
    let k = l.index - 1 in
    let next : k + 1 ≡ l.index = omega arith in
    let below : k < length c.args.params.now = omega arith in
    let p = get_or c.args.params.now k c.index-params-index.result in
    let first : SlotVariable = record { local = k + 1; kind = kind_of_resolved p.of; slot = k + 1 } in
    ap newest_first c.in_ok-push.ensures.items
    ∙ newest_first-push l.items.items (record { local = k + 1; kind = c.kind_of_resolved.result; slot = k + 1 })
    ∙ ap (λ of. record { local = k + 1; kind = of; slot = k + 1 } ∷ newest_first l.items.items) c.kind_of_resolved.ensures
    ∙ ap (λ vs. first ∷ vs) l.invariant
    ∙ ap (λ i. first ∷ params_from (i + 1) (drop i c.args.params.now)) (sym next)
    ∙ sym (params_from-drop (k + 1) c.args.params.now k c.index-params-index.result below)
