use Rattle.std.proofs.Common.{Some, None, sym, ap, ◌∙◌}
use Rattle.std.specs.Prelude.{position}
use Rattle.std.specs.Option.{option_copied, option_map_or}
use Rattle.ob_table_spec.specs.Names.{same}
use Rattle.ob_owners.proofs.SeenLemmas.{seen_by}
use Rattle.ob_owners.proofs.seen.seen.Goals as goal

pub returns-in-Some-place_of_name : goal.returns-in-Some-place_of_name
returns-in-Some-place_of_name c =
    sym (seen_by c.args.declared.now c.args.own.now c.args.number (Some c.in-Some.name.now) c.if-number-eq-NO_STATE_BIT.false
    (sym c.get.ensures.value ∙ ap option_copied c.in-Some.is)
    ∙ ap (λ q. option_map_or (λ n. n) q 33)
    (sym (ap (λ name. position (same name) c.args.declared.now.states) c.as_bytes.ensures.bytes)
    ∙ sym (ap (position (same c.as_bytes.result.now)) c.as_slice.ensures) ∙ sym c.place_of_name.ensures ∙ c.in-Some-place_of_name.is))

pub returns-in-None-place_of_name : goal.returns-in-None-place_of_name
returns-in-None-place_of_name c =
    sym (seen_by c.args.declared.now c.args.own.now c.args.number (Some c.in-Some.name.now) c.if-number-eq-NO_STATE_BIT.false
    (sym c.get.ensures.value ∙ ap option_copied c.in-Some.is)
    ∙ ap (λ q. option_map_or (λ n. n) q 33)
    (sym (ap (λ name. position (same name) c.args.declared.now.states) c.as_bytes.ensures.bytes)
    ∙ sym (ap (position (same c.as_bytes.result.now)) c.as_slice.ensures) ∙ sym c.place_of_name.ensures ∙ c.in-None-place_of_name.is))

pub returns-in-None : goal.returns-in-None
returns-in-None c =
    sym (seen_by c.args.declared.now c.args.own.now c.args.number None c.if-number-eq-NO_STATE_BIT.false
    (sym c.get.ensures.value ∙ ap option_copied c.in-None.is))
