-- The terms of Silica as plain data, with each part and place, in their order (Coblenz et al., TOPLAS 42(3), 2020,
-- "Silica"; that they stand in lists and name places is this project's own).
use Rattle.std.specs.Prelude.{ℕ, List, [], ◌∷◌, Option, ⊤}
use Rattle.ob_base.specs.declared.fault.Span.{Span}
use Rattle.ob_base.specs.declared.id.ContractId.{ContractId}
use Rattle.ob_base.specs.declared.id.StateId.{StateId}
use Rattle.ob_base.specs.declared.id.TxId.{TxId}
use Rattle.ob_base.specs.declared.permission.Perm.{Perm}
use Rattle.ob_silica.specs.declared.place.Place.{Place}
use Rattle.ob_silica.specs.declared.place.Operand.{Operand}
use Rattle.ob_silica.specs.declared.place.Given.{Given}
use Rattle.ob_silica.specs.declared.place.Constant.{Constant}
use Rattle.ob_silica.specs.declared.term.SilicaOperator.{SilicaOperator}

mutual
  -- what a term does
  pub data SilicaForm : Type 0 where
    unit_form : SilicaForm
    const_form : ℕ → Constant → SilicaForm
    -- the slot, the operator, its operands (of one operand twice the same) and its line
    op_form : ℕ → SilicaOperator → Operand → Operand → ℕ → SilicaForm
    copy_form : Place → Operand → SilicaForm
    move_form : Place → Operand → Option ContractId → SilicaForm
    new_form : ℕ → ContractId → List Operand → SilicaForm
    -- the slot of the result, the receiver, its contract, the transaction, the arguments
    call_form : Option ℕ → Operand → ContractId → TxId → List Operand → SilicaForm
    call_this_form : Option ℕ → TxId → List Operand → SilicaForm
    change_form : StateId → List Given → SilicaForm
    -- the place, the state, the two branches, the span where they join
    test_form : Operand → StateId → SilicaTerms → SilicaTerms → Span → SilicaForm
    if_form : Operand → SilicaTerms → SilicaTerms → Span → SilicaForm
    -- the first part of a turn, the operand that is true where the body runs, the body, the span of the body's end
    loop_form : SilicaTerms → Operand → SilicaTerms → Span → SilicaForm
    assert_form : Operand → Perm → SilicaForm
    disown_form : Operand → SilicaForm
    drop_form : ℕ → SilicaForm
    return_form : Option Operand → SilicaForm
    revert_form : Operand → SilicaForm
    bad_row_form : SilicaForm

  -- terms in their order, each a form with its span
  pub data SilicaTerms : Type 0 where
    no_terms : SilicaTerms
    and_term : SilicaForm → Span → SilicaTerms → SilicaTerms

-- the terms of a list
abbrev pub silica_terms : List (SilicaForm × Span) → SilicaTerms
silica_terms [] = no_terms
silica_terms (t ∷ ts) = and_term t.0 t.1 (silica_terms ts)

-- terms and then others
abbrev pub then_terms : SilicaTerms → SilicaTerms → SilicaTerms
then_terms no_terms others = others
then_terms (and_term form span rest) others = and_term form span (then_terms rest others)

-- one term
abbrev pub one_term : SilicaForm → Span → SilicaTerms
one_term form span = and_term form span no_terms

-- the body of a transaction or a constructor as terms, with the number of its slots and the place of its closing brace
pub record SilicaBody : Type 0 where
  pub contract : ContractId
  pub tx : TxId
  pub terms : SilicaTerms
  pub slots : ℕ
  pub end : Span
