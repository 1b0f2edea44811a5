use Rattle.std.proofs.Common.{Some, None, sym, ap, ◌∙◌}
use Rattle.std.specs.Option.{option_copied}
use Rattle.ob_owners.proofs.SeenLemmas.{seen_there}
use Rattle.ob_owners.proofs.seen.seen_between.Goals as goal
use Rattle.ob_owners.proofs.seen.seen_between.Goals.{in_default-via-in-Some+in_default, in_default-via-in_default}

pub returns-in-Some-Some : goal.returns-in-Some-Some
returns-in-Some-Some c =
    c.seen.ensures
    ∙ seen_there c.args.code.now c.args.declared c.args.own (Some c.in-Some-Some.declared.now) (Some c.in-Some-Some.own.now) c.args.number
    (sym c.get-declared.ensures.value ∙ ap option_copied c.in-Some-Some.is-0) (sym c.get-own.ensures.value ∙ ap option_copied c.in-Some-Some.is-1)

pub returns-in_default : goal.returns-in_default
returns-in_default c =
    elim c.in_default.branch [
      | in_default-via-in-Some+in_default w ↦
          seen_there c.args.code.now c.args.declared c.args.own (Some w.in_default.field-0-0.now) None c.args.number
          (sym c.get-declared.ensures.value ∙ ap option_copied w.in_default.is-0) (sym c.get-own.ensures.value ∙ ap option_copied w.in_default.is-1)
      | in_default-via-in_default w ↦
          seen_there c.args.code.now c.args.declared c.args.own None (option_copied c.get-own.result) c.args.number
          (sym c.get-declared.ensures.value ∙ ap option_copied w.in_default.is-0) (sym c.get-own.ensures.value)
    ]
