-- What a body comes to, and what that says of its slots.
use Rattle.std.proofs.Common.{◌≡◌, ℕ, ◌+◌, ◌≤◌, Bool, true, false, length, Option, Some, None, IsSomeAnd, Result, Ok, Err, refl, ap, subst, arith}
use Rattle.std.specs.Prelude.{⊤, nat_le, if◌then◌else◌}
use Rattle.std.specs.Option.{option_and_then}
use Rattle.std.proofs.lemmas.Bool.{leb-true}
use Rattle.ob_base.specs.Limits.{most_slots}
use Rattle.ob_base.specs.declared.fault.Span.{Span}
use Rattle.ob_table.specs.Statements.{resolved_block, ResolvedBody}
use Rattle.ob_table.specs.Tables.{ClassTable, contract_at, signature_at}
use Rattle.ob_table.specs.declared.contract.Contract.{Contract}
use Rattle.ob_table.specs.declared.contract.Signature.{Signature}
use Rattle.ob_table_spec.specs.WellFormed.{frame_of, one_ends_there}
use Rattle.ob_silica.specs.Terms.{SilicaTerms, no_terms, one_term, then_terms, return_form, SilicaBody}
use Rattle.ob_silica.specs.Slots.{slots_of_terms}
use Rattle.ob_lower_spec.specs.Forms.{locals_of, params_from, ending}
use Rattle.ob_lower_spec.specs.BodyTerms.{slots_below, beginning, LowersWith}
use Rattle.ob_lower_spec.specs.SlotNeeds.{none_staged, needs_of_statements, needs_of_body, first_past}
use Rattle.ob_lower_functions.specs.Progress.{Stop, full, not_well_formed, ◌>>=◌, found}
use Rattle.ob_lower_functions.specs.StatementCode.{block_code}
use Rattle.ob_lower_functions.specs.BodyCode.{first_position, body_of_terms, code_with}
use Rattle.ob_lower_functions.specs.Law.{GivesTerms, FailsWhereFull}
use Rattle.ob_lower_functions.proofs.Places.{above_below, params_below, params_seen}
use Rattle.ob_lower_functions.proofs.Terms.{max_most, slots_then, slots_one}
use Rattle.ob_lower_functions.proofs.Outcomes.{Comes, comes_then, comes_same}
use Rattle.ob_lower_functions.proofs.Branches.{Blocked}
use Rattle.ob_lower_functions.proofs.Blocks.{block_comes}

ending_few : (b : Bool) (end : Span) → slots_of_terms (if b then no_terms else one_term (return_form None) end) ≤ most_slots
ending_few true end = omega arith
ending_few false end = slots_one (return_form None) end most_slots (omega arith)

-- terms of a body with this signature, with few slots
pub record Fits (table : ClassTable) (own : Contract) (s : Signature) (body : ResolvedBody) (l : SilicaBody) : Type 0 where
  pub lowers : LowersWith table own s body l
  pub few : l.slots ≤ most_slots

module _ (table : ClassTable) (own : Contract) (s : Signature) (body : ResolvedBody) where
  block_fits : (ts : SilicaTerms) → length s.params + 1 ≤ most_slots
      → Blocked (frame_of table body.contract own s) (beginning s.params) (resolved_block body.statements body.end) ts
      → Fits table own s body (body_of_terms body (length s.params) (then_terms ts (ending body.statements body.end)))
  block_fits ts le b = record {
    lowers = record { contract = refl; tx = refl; block = ts; statements = b.lowers; terms = refl; slots = refl; end = refl };
    few = max_most (length s.params + 1) (slots_of_terms (then_terms ts (ending body.statements body.end))) most_slots le
        (slots_then ts (ending body.statements body.end) most_slots b.few (ending_few (one_ends_there body.statements) body.end));
  }

  with_room : (b : Bool) → nat_le (length s.params + 1) most_slots ≡ b
      → Comes (needs_of_body table own s body) (Fits table own s body)
      (if b then block_code (frame_of table body.contract own s) (resolved_block body.statements body.end) (first_position s.params)
      >>= (λ block. Ok (body_of_terms body (length s.params) (then_terms block (ending body.statements body.end)))) else Err not_well_formed)
  with_room false e = tt
  with_room true e =
      let f = frame_of table body.contract own s in
      let le = leb-true (length s.params + 1) most_slots e in
      comes_then (needs_of_body table own s body) (Blocked f (beginning s.params) (resolved_block body.statements body.end)) (Fits table own s body)
      (block_code f (resolved_block body.statements body.end) (first_position s.params)) _
      (comes_same (needs_of_statements f (locals_of (params_from 1 s.params)) (length s.params + 1) none_staged body.statements) (needs_of_body table own s body)
      (Blocked f (beginning s.params) (resolved_block body.statements body.end)) (block_code f (resolved_block body.statements body.end) (first_position s.params))
      (ap (λ ls. needs_of_statements f ls (length s.params + 1) none_staged body.statements) (params_seen 1 s.params))
      (block_comes f (resolved_block body.statements body.end) (first_position s.params) (slots_below (length s.params + 1)) (beginning s.params) refl
      (record { below = params_below 1 s.params most_slots (swap (length s.params) most_slots le); above = above_below (length s.params + 1); top = le })))
      (λ ts b. (refl, block_fits ts le b))
    where
      swap : (n m : ℕ) → n + 1 ≤ m → 1 + n ≤ m
      swap n m le = omega (arith, le)

  with_comes : Comes (needs_of_body table own s body) (Fits table own s body) (code_with table own s body)
  with_comes = with_room (nat_le (length s.params + 1) most_slots) refl

-- what the code of a body answers: terms where its slots fit; else where they run out
abbrev pub Answer : Option Span → (SilicaBody → Type 0) → Result SilicaBody Stop → Type 0
Answer past L (Ok l) = L l × (past ≡ None) × (l.slots ≤ most_slots)
Answer past L (Err (full at)) = past ≡ Some at
Answer past L (Err not_well_formed) = ⊤

answered : (table : ClassTable) (own : Contract) (s : Signature) (body : ResolvedBody) (r : Result SilicaBody Stop)
    → Comes (needs_of_body table own s body) (Fits table own s body) r
    → Answer (first_past (needs_of_body table own s body)) (λ l. LowersWith table own s body l) r
answered table own s body (Ok l) c = let x = c.1 in (x.lowers, c.0, x.few)
answered table own s body (Err (full at)) c = c
answered table own s body (Err not_well_formed) c = tt

by_signature : (table : ClassTable) (own : Contract) (body : ResolvedBody) (o : Option Signature)
    → Answer (option_and_then (λ s. first_past (needs_of_body table own s body)) o) (λ l. IsSomeAnd o (λ s. LowersWith table own s body l))
    (found o >>= (λ s. code_with table own s body))
by_signature table own body None = tt
by_signature table own body (Some s) = answered table own s body (code_with table own s body) (with_comes table own s body)

pub by_contract : (table : ClassTable) (body : ResolvedBody) (o : Option Contract)
    → Answer (option_and_then (λ own. option_and_then (λ s. first_past (needs_of_body table own s body)) (signature_at own body.tx)) o)
    (λ l. IsSomeAnd o (λ own. IsSomeAnd (signature_at own body.tx) (λ s. LowersWith table own s body l)))
    (found o >>= (λ own. found (signature_at own body.tx) >>= (λ s. code_with table own s body)))
by_contract table body None = tt
by_contract table body (Some own) = by_signature table own body (signature_at own body.tx)

pub gives_terms : GivesTerms
gives_terms table body lowered e =
    let a = subst (Answer _ _) e (by_contract table body (contract_at table body.contract)) in record { lowers = a.0; fits = a.1; few = a.2 }

pub fails_where_full : FailsWhereFull
fails_where_full table body place e = subst (Answer _ _) e (by_contract table body (contract_at table body.contract))
