-- A well-formed body has terms where slots don't run out.
use Rattle.std.proofs.Common.{◌≡◌, ◌+◌, ◌≤◌, List, length, Option, Some, None, IsSomeAnd, Result, Ok, Err, sym, ap, ◌∙◌, subst}
use Rattle.std.specs.Prelude.{⊤, option_and_then, if◌then◌else◌}
use Rattle.std.proofs.lemmas.Bool.{le-leb}
use Rattle.ob_base.specs.Limits.{most_slots}
use Rattle.ob_base.specs.declared.fault.Span.{Span}
use Rattle.ob_table.specs.Statements.{resolved_block, ResolvedBody}
use Rattle.ob_table.specs.Tables.{ClassTable, contract_at, signature_at}
use Rattle.ob_table.specs.declared.contract.Contract.{Contract}
use Rattle.ob_table.specs.declared.contract.Param.{Param}
use Rattle.ob_table.specs.declared.contract.Signature.{Signature}
use Rattle.ob_table_spec.specs.WellFormed as made
use Rattle.ob_table_spec.specs.WellFormed.{local_kind, frame_of, IsBodyOf}
use Rattle.ob_silica.specs.Terms.{then_terms, SilicaBody}
use Rattle.ob_lower_spec.specs.Forms.{params_from, ending}
use Rattle.ob_lower_functions.specs.Progress.{Stop, full, not_well_formed, ◌>>=◌, found}
use Rattle.ob_lower_functions.specs.StatementCode.{block_code}
use Rattle.ob_lower_functions.specs.BodyCode.{first_position, body_of_terms, code_with, body_code}
use Rattle.ob_lower_functions.specs.Law.{EachHasTerms}
use Rattle.ob_lower_functions.proofs.Places.{params_seen, none_some}
use Rattle.ob_lower_functions.proofs.Bodies.{Answer, by_contract}
use Rattle.ob_lower_functions.proofs.Naming.{Keeps, keeps_bind, Names}
use Rattle.ob_lower_functions.proofs.WellFormedStatements.{block_keeps}

params_named : (ps : List Param) → Names (made.params_from 1 ps) (params_from 1 ps)
params_named ps = record { by = λ n. ap (λ ls. local_kind ls n) (sym (params_seen 1 ps)) }

module _ (table : ClassTable) (body : ResolvedBody) where
  with_keeps : (own : Contract) (s : Signature) → IsBodyOf table body own s → length s.params + 1 ≤ most_slots → Keeps (λ l. ⊤) (code_with table own s body)
  with_keeps own s is le =
      subst (λ b. Keeps (λ l. ⊤) (if b then block_code (frame_of table body.contract own s) (resolved_block body.statements body.end) (first_position s.params)
      >>= (λ block. Ok (body_of_terms body (length s.params) (then_terms block (ending body.statements body.end)))) else Err not_well_formed)) (sym (le-leb (length s.params + 1) most_slots le))
      (keeps_bind (λ ts. ⊤) (λ l. ⊤) (block_code (frame_of table body.contract own s) (resolved_block body.statements body.end) (first_position s.params)) _
      (block_keeps (frame_of table body.contract own s) (resolved_block body.statements body.end) (made.params_from 1 s.params) (first_position s.params) (params_named s.params) is.statements)
      (λ ts t. tt))

  signature_keeps : (own : Contract) (o : Option Signature) → IsSomeAnd o (λ s. IsBodyOf table body own s) → IsSomeAnd o (λ s. length s.params + 1 ≤ most_slots)
      → Keeps (λ l. ⊤) (found o >>= (λ s. code_with table own s body))
  signature_keeps own None is le = absurd is
  signature_keeps own (Some s) is le = with_keeps own s is le

  contract_keeps : (o : Option Contract) → IsSomeAnd o (λ own. IsSomeAnd (signature_at own body.tx) (λ s. IsBodyOf table body own s))
      → IsSomeAnd (option_and_then (λ c. signature_at c body.tx) o) (λ s. length s.params + 1 ≤ most_slots)
      → Keeps (λ l. ⊤) (found o >>= (λ own. found (signature_at own body.tx) >>= (λ s. code_with table own s body)))
  contract_keeps None is le = absurd is
  contract_keeps (Some own) is le = signature_keeps own (signature_at own body.tx) is le

  has_terms : (past : Option Span) (L : SilicaBody → Type 0) (r : Result SilicaBody Stop) → Answer past L r → Keeps (λ l. ⊤) r → past ≡ None → (l : SilicaBody) × L l
  has_terms past L (Ok l) a k e = (l, a.0)
  has_terms past L (Err (full at)) a k e = absurd (none_some (sym e ∙ a))
  has_terms past L (Err not_well_formed) a k e = absurd k

pub each_has_terms : EachHasTerms
each_has_terms table body is le e =
    has_terms table body _ _ (body_code table body) (by_contract table body (contract_at table body.contract))
    (contract_keeps table body (contract_at table body.contract) is le) e
