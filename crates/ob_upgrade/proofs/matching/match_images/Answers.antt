use Rattle.std.proofs.Common.{◌∙◌, List, length, get_or, ap, arith}
use Rattle.ob_code.specs.declared.image.ContractCode.{ContractCode}
use Rattle.ob_code_table.specs.ImageTables.{table_of_image}
use Rattle.ob_upgrade.proofs.Naming.{goes_at, goes_more}
use Rattle.ob_upgrade.proofs.matching.match_images.Goals as goal

pub loop-number-preserved : goal.loop-number-preserved
loop-number-preserved c = λ n low.
    goes_more (table_of_image c.args.old.now) (table_of_image c.args.new.now) c.loop-number.number n c.loop-number.invariant
    (goes_at c.args.old.now (table_of_image c.args.new.now) c.loop-number.number c.index-contracts-number.result
    (omega (arith, c.loop-number-test.true, ap length c.as_slice-contracts.ensures))
    (c.index-contracts-number.is
    ∙ ap (λ (cs : List ContractCode). get_or cs c.loop-number.number c.index-contracts-number.result) c.as_slice-contracts.ensures)
    c.in_ok-match_contract.ensures.goes) low
