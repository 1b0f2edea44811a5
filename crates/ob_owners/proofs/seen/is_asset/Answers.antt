use Rattle.std.proofs.Common.{Some, None, sym, ap, ◌∙◌}
use Rattle.std.specs.Option.{option_copied}
use Rattle.ob_perm.specs.Masks.{states_of}
use Rattle.ob_owners.proofs.SeenLemmas.{asset_there}
use Rattle.ob_owners.proofs.seen.is_asset.Goals as goal

pub returns-in-Some : goal.returns-in-Some
unfolding states_of
returns-in-Some c =
    c.has_bit.ensures
    ∙ asset_there c.args.code.now c.args.object.now (Some c.in-Some.contract.now) (sym c.get.ensures.value ∙ ap option_copied c.in-Some.is)

pub returns-in-None : goal.returns-in-None
returns-in-None c = asset_there c.args.code.now c.args.object.now None (sym c.get.ensures.value ∙ ap option_copied c.in-None.is)
