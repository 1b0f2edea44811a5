use Rattle.std.proofs.Common.{◌∙◌, option_map, position, bytes_eq, sym, ap}
use Rattle.ob_table.specs.Tables.{contract_id}
use Rattle.ob_code.specs.declared.image.ContractCode.{ContractCode}
use Rattle.ob_upgrade.proofs.Naming.{position_mapped}
use Rattle.ob_upgrade.proofs.matching.place_named.Goals as goal

pub returns : goal.returns
returns c =
    ap (option_map contract_id) (c.place_in.ensures
    ∙ ap (position (λ (own : ContractCode). bytes_eq c.args.name.now own.name)) c.as_slice.ensures)
    ∙ sym (position_mapped c.args.image.now c.args.name.now)
