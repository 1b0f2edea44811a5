-- The law.
use Rattle.std.proofs.Common.{◌≡◌, ℕ, ◌≤◌, Bool, true, false, List, length, Option, Some, None, refl, sym, subst}
use Rattle.std.proofs.lemmas.Option.{get_or_from_slice_get, slice_get_within}
use Rattle.std.specs.Prelude.{IsSomeAnd, All, slice_get, if◌then◌else◌}
use Rattle.ob_base.specs.Limits.{most_states}
use Rattle.ob_base.specs.declared.fault.Span.{Span}
use Rattle.ob_table.specs.Statements.{Statements, resolved_block, ResolvedBody}
use Rattle.ob_table.specs.Tables.{ClassTable, contract_at, signature_at}
use Rattle.ob_table.specs.declared.contract.Contract.{Contract}
use Rattle.ob_table.specs.declared.contract.Signature.{Signature}
use Rattle.ob_table_spec.specs.Conditions.{IsContract, IsClassTable}
use Rattle.ob_table_spec.specs.WellFormed.{IsBodyOf, frame_of, params_from, one_ends_there}
use Rattle.ob_silica.specs.Terms.{SilicaBody, no_terms, one_term, return_form}
use Rattle.ob_flow_spec.specs.Numbered.{AllNameStates}
use Rattle.ob_lower_spec.specs.Forms.{ending}
use Rattle.ob_lower_spec.specs.BodyTerms.{LowersWith, beginning}
use Rattle.ob_lower_formed.specs.NamesStates.{LoweredTermsNameStates}
use Rattle.ob_lower_formed.proofs.NamedTerms.{both}
use Rattle.ob_lower_formed.proofs.NamedStatements.{Few, of_block}

few_at : (table : ClassTable) (cs : List Contract) → All (IsContract table) cs → (n : ℕ) (c : Contract) → slice_get cs n ≡ Some c → length c.states ≤ most_states
few_at table cs all n c e =
    let is : IsContract table c = subst (IsContract table) (get_or_from_slice_get cs n c c e) (all n c (slice_get_within cs n c e)) in
    is.few_states

of_ending : (statements : Statements) (end : Span) → AllNameStates (ending statements end)
of_ending statements end = by_end (one_ends_there statements)
  where
    by_end : (b : Bool) → AllNameStates (if b then no_terms else one_term (return_form None) end)
    by_end true = tt
    by_end false = (tt, tt)

of_body : (table : ClassTable) (own : Contract) (s : Signature) (body : ResolvedBody) (lowered : SilicaBody) → IsClassTable table
    → contract_at table body.contract ≡ Some own → IsBodyOf table body own s → LowersWith table own s body lowered → AllNameStates lowered.terms
of_body table own s body lowered is e made lowers =
    subst AllNameStates (sym lowers.terms)
    (both lowers.block _
    (of_block (frame_of table body.contract own s) few (params_from 1 s.params) (resolved_block body.statements body.end) made.statements (beginning s.params) lowers.block lowers.statements)
    (of_ending body.statements body.end))
  where
    few : Few (frame_of table body.contract own s)
    few = record {
      here = few_at table table.contracts is.contracts body.contract.0 own e;
      each = λ id c f. few_at table table.contracts is.contracts id.0 c f;
    }

pub lowered_terms_name_states_lem : LoweredTermsNameStates
lowered_terms_name_states_lem table body lowered is made lowers = by_contract (contract_at table body.contract) refl made lowers
  where
    by_signature : (own : Contract) → contract_at table body.contract ≡ Some own → (o : Option Signature)
        → IsSomeAnd o (λ s. IsBodyOf table body own s) → IsSomeAnd o (λ s. LowersWith table own s body lowered) → AllNameStates lowered.terms
    by_signature own e (Some s) made lowers = of_body table own s body lowered is e made lowers
    by_signature own e None made lowers = absurd made

    by_contract : (o : Option Contract) → contract_at table body.contract ≡ o
        → IsSomeAnd o (λ own. IsSomeAnd (signature_at own body.tx) (λ s. IsBodyOf table body own s))
        → IsSomeAnd o (λ own. IsSomeAnd (signature_at own body.tx) (λ s. LowersWith table own s body lowered)) → AllNameStates lowered.terms
    by_contract (Some own) e made lowers = by_signature own e (signature_at own body.tx) made lowers
    by_contract None e made lowers = absurd made
