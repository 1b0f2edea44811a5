use Rattle.std.proofs.Common.{◌∙◌, sym, map, rules}
use Rattle.ob_tree.specs.MembersView.{contract_of}
use Rattle.ob_parser_spec.specs.Readers.{read_many}
use Rattle.ob_parser_spec.specs.NameReaders.{read_named}
use Rattle.ob_parser_spec.specs.ContractReaders.{contract_first, read_contract}
use Rattle.ob_parser_spec.specs.AllReaders.{all_refs, all_blocks}
use Rattle.ob_parser_expressions.proofs.Loops.{kept_as}
use Rattle.ob_parser_expressions.proofs.Tails.{halts_in, begun_as}
use Rattle.ob_parser.proofs.CodeMembers.{contract_item}
use Rattle.ob_parser.proofs.contracts.program.Goals as goal

pub contracts-init : goal.contracts-init
contracts-init c = begun_as contract_of c.new-contracts.result (read_many contract_first (read_contract (read_named all_refs c.args.room) (all_refs c.args.room) (all_blocks c.args.room)) c.args.tokens.now) c.new-contracts.ensures

pub returns-in_err-contract : goal.returns-in_err-contract
returns-in_err-contract c =
    let why = halts_in contract_first (read_contract (read_named all_refs c.args.room) (all_refs c.args.room) (all_blocks c.args.room)) (map contract_of c.contracts.contracts) c.contracts.rest.now c.in_err-contract.field-0.0 (read_many contract_first (read_contract (read_named all_refs c.args.room) (all_refs c.args.room) (all_blocks c.args.room)) c.args.tokens.now) c.contracts.invariant (sym c.starts_with_one_of.ensures ∙ c.contracts-test.true) c.in_err-contract.ensures in
    search rules

pub contracts-smaller : goal.contracts-smaller
contracts-smaller c = (contract_item c.args.room c.ranges.room.fits).fewer _ _ _ c.in_ok-contract.ensures

pub contracts-preserved : goal.contracts-preserved
contracts-preserved c = kept_as contract_first (read_contract (read_named all_refs c.args.room) (all_refs c.args.room) (all_blocks c.args.room)) contract_of c.contracts.contracts c.push.new.self c.contracts.rest.now c.in_ok-contract.after.now c.in_ok-contract.contract _ (contract_item c.args.room c.ranges.room.fits) c.contracts.invariant c.in_ok-push.ensures.ok (sym c.starts_with_one_of.ensures ∙ c.contracts-test.true) c.in_ok-contract.ensures
