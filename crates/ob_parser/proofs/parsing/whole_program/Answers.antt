use Rattle.std.proofs.Common.{rules}
use Rattle.ob_base.specs.Limits.{most_open}
use Rattle.ob_parser_spec.specs.AllReaders.{all_programs}
use Rattle.ob_parser.proofs.Whole.{halts_whole}
use Rattle.ob_parser.proofs.parsing.whole_program.Goals as goal

pub returns-in_err-contracts : goal.returns-in_err-contracts
returns-in_err-contracts c =
    let why = halts_whole c.in_err-contracts.field-0.0 (all_programs most_open c.args.tokens.now) c.in_err-contracts.ensures in
    search rules
