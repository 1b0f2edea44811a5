use Rattle.std.proofs.Common.{ap, sym, ◌∙◌, map, length}
use Rattle.std.specs.Prelude.{nat_lt, not}
use Rattle.std.specs.List.{list_all}
use Rattle.ob_verify.proofs.ListLoops.{given_fields}
use Rattle.ob_verify.proofs.conditions.bad_field.Goals as goal

pub returns-in-Change : goal.returns-in-Change
returns-in-Change c = rw c.in-Change.is (ap not
    (c.has_fields.ensures ∙ sym (given_fields (length c.args.frame.now.own.fields) c.as_slice.result.now)
    ∙ ap (λ gs. list_all (λ field. nat_lt field.0 (length c.args.frame.now.own.fields)) (map (λ pair. pair.0) gs)) c.as_slice.ensures))
