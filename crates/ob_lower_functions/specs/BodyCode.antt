-- The terms of a body, with one slot after the other (this project's own).
use Rattle.std.specs.Prelude.{ℕ, ◌+◌, List, length, nat_le, Result, Ok, Err, if◌then◌else◌}
use Rattle.ob_base.specs.Limits.{most_slots}
use Rattle.ob_table.specs.Statements.{resolved_block, ResolvedBody}
use Rattle.ob_table.specs.Tables.{ClassTable, contract_at, signature_at}
use Rattle.ob_table.specs.declared.contract.Contract.{Contract}
use Rattle.ob_table.specs.declared.contract.Param.{Param}
use Rattle.ob_table.specs.declared.contract.Signature.{Signature}
use Rattle.ob_table_spec.specs.WellFormed.{frame_of}
use Rattle.ob_silica.specs.Terms.{SilicaTerms, then_terms, SilicaBody}
use Rattle.ob_silica.specs.Slots.{slots_of}
use Rattle.ob_lower_spec.specs.Forms.{params_from, ending}
use Rattle.ob_lower_functions.specs.Progress.{Stop, not_well_formed, ◌>>=◌, found}
use Rattle.ob_lower_functions.specs.StatementCode.{BlockPosition, none_waits, block_code}

-- the position at which a body with these parameters begins
abbrev pub first_position : List Param → BlockPosition
first_position params = record { variables = params_from 1 params; slots = length params + 1; waiting = none_waits }

-- a body with these terms
abbrev pub body_of_terms : ResolvedBody → ℕ → SilicaTerms → SilicaBody
body_of_terms body params terms = record {
  contract = body.contract;
  tx = body.tx;
  terms = terms;
  slots = slots_of params terms;
  end = body.end;
}

-- a body with this signature, of this contract; there are slots for `this` and its parameters
abbrev pub code_with : ClassTable → Contract → Signature → ResolvedBody → Result SilicaBody Stop
code_with table own s body =
    if nat_le (length s.params + 1) most_slots then
    block_code (frame_of table body.contract own s) (resolved_block body.statements body.end) (first_position s.params)
    >>= (λ block. Ok (body_of_terms body (length s.params) (then_terms block (ending body.statements body.end))))
    else Err not_well_formed

-- the body of a constructor or transaction of a class table
abbrev pub body_code : ClassTable → ResolvedBody → Result SilicaBody Stop
body_code table body =
    found (contract_at table body.contract)
    >>= (λ own. found (signature_at own body.tx) >>= (λ s. code_with table own s body))
