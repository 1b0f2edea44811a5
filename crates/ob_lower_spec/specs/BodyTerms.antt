-- To which terms the body of a transaction or a constructor may be lowered (this project's own).
use Rattle.std.specs.Prelude.{◌≡◌, ℕ, zero, suc, ◌+◌, List, [], ◌∷◌, length, IsSomeAnd, ⊤}
use Rattle.ob_table.specs.Statements.{resolved_block, ResolvedBody}
use Rattle.ob_table.specs.Tables.{ClassTable, contract_at, signature_at}
use Rattle.ob_table.specs.declared.contract.Contract.{Contract}
use Rattle.ob_table.specs.declared.contract.Param.{Param}
use Rattle.ob_table.specs.declared.contract.Signature.{Signature}
use Rattle.ob_table_spec.specs.WellFormed.{frame_of}
use Rattle.ob_silica.specs.Terms.{SilicaTerms, then_terms, SilicaBody}
use Rattle.ob_silica.specs.Slots.{slots_of}
use Rattle.ob_lower_spec.specs.Forms.{params_from, ending}
use Rattle.ob_lower_spec.specs.Points.{Point, no_row}
use Rattle.ob_lower_spec.specs.StatementTerms.{LowersBlock}

-- the slots below this one, the last first
abbrev pub slots_below : ℕ → List ℕ
slots_below zero = []
slots_below (suc n) = n ∷ slots_below n

-- the point at which a body with these parameters begins: `this` and the parameters have slots
abbrev pub beginning : List Param → Point
beginning params = record {
  variables = params_from 1 params;
  used = slots_below (length params + 1);
  declared = [];
  row = no_row;
}

-- a body with this signature, of this contract
pub record LowersWith (table : ClassTable) (own : Contract) (s : Signature) (body : ResolvedBody)
    (lowered : SilicaBody) : Type 0 where
  pub contract : lowered.contract ≡ body.contract
  pub tx : lowered.tx ≡ body.tx
  pub block : SilicaTerms
  pub statements : LowersBlock (frame_of table body.contract own s) (beginning s.params)
      (resolved_block body.statements body.end) block
  pub terms : lowered.terms ≡ then_terms block (ending body.statements body.end)
  pub slots : lowered.slots ≡ slots_of (length s.params) lowered.terms
  pub end : lowered.end ≡ body.end

-- The body of a constructor or transaction of a class table may be lowered to this one.
abbrev pub Lowers : ClassTable → ResolvedBody → SilicaBody → Type 0
Lowers table body lowered =
    IsSomeAnd (contract_at table body.contract)
    (λ own. IsSomeAnd (signature_at own body.tx) (λ s. LowersWith table own s body lowered))

-- bodies in their order may be lowered to these
abbrev pub AllLower : ClassTable → List ResolvedBody → List SilicaBody → Type 0
AllLower table [] [] = ⊤
AllLower table (b ∷ bs) (l ∷ ls) = Lowers table b l × AllLower table bs ls
AllLower table bs ls = ⊥
