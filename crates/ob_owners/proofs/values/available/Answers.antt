use Rattle.std.proofs.Common.{◌∙◌, sym, ap}
use Rattle.std.specs.Option.{option_copied}
use Rattle.ob_owners.proofs.ValuesLemmas.{value_there, number_there, value_missing}
use Rattle.ob_owners.proofs.values.available.Goals as goal

pub returns-in-Some : goal.returns-in-Some
returns-in-Some c = record {
  value = value_there c.args.contract.now c.args.object.now c.args.place c.in-Some.field.now (option_copied c.available_in.result)
      (sym c.get.ensures.value ∙ ap option_copied c.in-Some.is) c.available_in.ensures;
  number = number_there c.args.object.now c.args.place c.in-Some.field.now (option_copied c.available_in.result) c.available_in.ensures;
}

pub returns-in-None-clause-value : goal.returns-in-None-clause-value
returns-in-None-clause-value c = value_missing c.args.contract.now c.args.object.now c.args.place (sym c.get.ensures.value ∙ ap option_copied c.in-None.is)
