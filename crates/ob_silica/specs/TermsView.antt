-- The terms of a body, as plain data.
use Rattle.std.specs.Prelude.{◌≡◌, ℕ, List, map, Option}
use Rattle.std.proofs.Common.{ap, sym, ◌∙◌}
use Rattle.ob_base.specs.declared.fault.Span.{Span}
use Rattle.ob_base.specs.declared.id.ContractId.{ContractId}
use Rattle.ob_base.specs.declared.id.StateId.{StateId}
use Rattle.ob_base.specs.declared.id.TxId.{TxId}
use Rattle.ob_base.specs.declared.permission.Perm.{Perm}
use Rattle.ob_silica.specs.Terms.{SilicaForm, unit_form, const_form, op_form, copy_form, move_form, new_form, call_form, call_this_form, change_form, test_form, if_form, loop_form, assert_form, disown_form, drop_form, return_form, revert_form, bad_row_form, SilicaTerms, silica_terms, SilicaBody}
use Rattle.ob_silica.specs.declared.place.Place.{Place}
use Rattle.ob_silica.specs.declared.place.Operand.{Operand}
use Rattle.ob_silica.specs.declared.place.Given.{Given}
use Rattle.ob_silica.specs.declared.place.Constant.{Constant}
use Rattle.ob_silica.specs.declared.body.TermBody.{TermBody}
use Rattle.ob_silica.specs.declared.term.SilicaOperator.{SilicaOperator}
use Rattle.ob_silica.specs.declared.term.Term.{Term, Term-F, fold-Term, fold_out-Term}
use Rattle.ob_silica.specs.declared.term.Form as made
use Rattle.ob_silica.specs.declared.term.Form.TheOpen as open'
use Rattle.ob_silica.specs.declared.term.Form.TheVariants.{rolls-Unit, rolls-Const, rolls-Op, rolls-Copy, rolls-Move, rolls-New, rolls-Call, rolls-CallThis, rolls-Change, rolls-Test, rolls-If, rolls-Loop, rolls-Assert, rolls-Disown, rolls-Drop, rolls-Return, rolls-Revert, rolls-BadRow}

-- a form whose branches are plain data already
abbrev pub form_step : made.Form-F SilicaForm (SilicaForm × Span) → SilicaForm
form_step open'.Unit = unit_form
form_step (open'.Const slot value) = const_form slot value
form_step (open'.Op slot operator a b line) = op_form slot operator a b line
form_step (open'.Copy to from) = copy_form to from
form_step (open'.Move to from contract) = move_form to from contract
form_step (open'.New slot contract args) = new_form slot contract args
form_step (open'.Call slot receiver contract tx args) = call_form slot receiver contract tx args
form_step (open'.CallThis slot tx args) = call_this_form slot tx args
form_step (open'.Change state given) = change_form state given
form_step (open'.Test place state branch other join) = test_form place state (silica_terms branch) (silica_terms other) join
form_step (open'.If a branch other join) = if_form a (silica_terms branch) (silica_terms other) join
form_step (open'.Loop first a body end) = loop_form (silica_terms first) a (silica_terms body) end
form_step (open'.Assert place perm) = assert_form place perm
form_step (open'.Disown place) = disown_form place
form_step (open'.Drop slot) = drop_form slot
form_step (open'.Return place) = return_form place
form_step (open'.Revert text) = revert_form text
form_step open'.BadRow = bad_row_form

-- a term whose form is plain data already
abbrev pub term_step : Term-F SilicaForm (SilicaForm × Span) → SilicaForm × Span
term_step node = (node.form, node.span)

-- a form
abbrev pub form_of : made.Form → SilicaForm
form_of = made.fold-Form SilicaForm (SilicaForm × Span) form_step term_step

-- a term: its form with its span
abbrev pub term_of : Term → SilicaForm × Span
term_of = fold-Term SilicaForm (SilicaForm × Span) form_step term_step

-- terms in their order
abbrev pub terms_of : List Term → SilicaTerms
terms_of nodes = silica_terms (map term_of nodes)

-- a body
abbrev pub silica_body_of : TermBody → SilicaBody
silica_body_of body = record { contract = body.contract; tx = body.tx; terms = terms_of body.terms; slots = body.slots; end = body.end }

pub form_of-Unit : form_of made.Unit ≡ unit_form
form_of-Unit = ap form_of (sym rolls-Unit) ∙ made.fold-roll-Form SilicaForm (SilicaForm × Span) form_step term_step open'.Unit

pub form_of-Const : (slot : ℕ) (value : Constant) → form_of (made.Const slot value) ≡ const_form slot value
form_of-Const slot value = ap form_of (sym (rolls-Const slot value)) ∙ made.fold-roll-Form SilicaForm (SilicaForm × Span) form_step term_step (open'.Const slot value)

pub form_of-Op : (slot : ℕ) (operator : SilicaOperator) (a b : Operand) (line : ℕ) → form_of (made.Op slot operator a b line) ≡ op_form slot operator a b line
form_of-Op slot operator a b line = ap form_of (sym (rolls-Op slot operator a b line)) ∙ made.fold-roll-Form SilicaForm (SilicaForm × Span) form_step term_step (open'.Op slot operator a b line)

pub form_of-Copy : (to : Place) (from : Operand) → form_of (made.Copy to from) ≡ copy_form to from
form_of-Copy to from = ap form_of (sym (rolls-Copy to from)) ∙ made.fold-roll-Form SilicaForm (SilicaForm × Span) form_step term_step (open'.Copy to from)

pub form_of-Move : (to : Place) (from : Operand) (contract : Option ContractId) → form_of (made.Move to from contract) ≡ move_form to from contract
form_of-Move to from contract = ap form_of (sym (rolls-Move to from contract)) ∙ made.fold-roll-Form SilicaForm (SilicaForm × Span) form_step term_step (open'.Move to from contract)

pub form_of-New : (slot : ℕ) (contract : ContractId) (args : List Operand) → form_of (made.New slot contract args) ≡ new_form slot contract args
form_of-New slot contract args = ap form_of (sym (rolls-New slot contract args)) ∙ made.fold-roll-Form SilicaForm (SilicaForm × Span) form_step term_step (open'.New slot contract args)

pub form_of-Call : (slot : Option ℕ) (receiver : Operand) (contract : ContractId) (tx : TxId) (args : List Operand) → form_of (made.Call slot receiver contract tx args) ≡ call_form slot receiver contract tx args
form_of-Call slot receiver contract tx args = ap form_of (sym (rolls-Call slot receiver contract tx args)) ∙ made.fold-roll-Form SilicaForm (SilicaForm × Span) form_step term_step (open'.Call slot receiver contract tx args)

pub form_of-CallThis : (slot : Option ℕ) (tx : TxId) (args : List Operand) → form_of (made.CallThis slot tx args) ≡ call_this_form slot tx args
form_of-CallThis slot tx args = ap form_of (sym (rolls-CallThis slot tx args)) ∙ made.fold-roll-Form SilicaForm (SilicaForm × Span) form_step term_step (open'.CallThis slot tx args)

pub form_of-Change : (state : StateId) (given : List Given) → form_of (made.Change state given) ≡ change_form state given
form_of-Change state given = ap form_of (sym (rolls-Change state given)) ∙ made.fold-roll-Form SilicaForm (SilicaForm × Span) form_step term_step (open'.Change state given)

pub form_of-Test : (place : Operand) (state : StateId) (branch other : List Term) (join : Span) → form_of (made.Test place state branch other join) ≡ test_form place state (terms_of branch) (terms_of other) join
form_of-Test place state branch other join = ap form_of (sym (rolls-Test place state branch other join)) ∙ made.fold-roll-Form SilicaForm (SilicaForm × Span) form_step term_step (open'.Test place state branch other join)

pub form_of-If : (a : Operand) (branch other : List Term) (join : Span) → form_of (made.If a branch other join) ≡ if_form a (terms_of branch) (terms_of other) join
form_of-If a branch other join = ap form_of (sym (rolls-If a branch other join)) ∙ made.fold-roll-Form SilicaForm (SilicaForm × Span) form_step term_step (open'.If a branch other join)

pub form_of-Loop : (first : List Term) (a : Operand) (body : List Term) (end : Span) → form_of (made.Loop first a body end) ≡ loop_form (terms_of first) a (terms_of body) end
form_of-Loop first a body end = ap form_of (sym (rolls-Loop first a body end)) ∙ made.fold-roll-Form SilicaForm (SilicaForm × Span) form_step term_step (open'.Loop first a body end)

pub form_of-Assert : (place : Operand) (perm : Perm) → form_of (made.Assert place perm) ≡ assert_form place perm
form_of-Assert place perm = ap form_of (sym (rolls-Assert place perm)) ∙ made.fold-roll-Form SilicaForm (SilicaForm × Span) form_step term_step (open'.Assert place perm)

pub form_of-Disown : (place : Operand) → form_of (made.Disown place) ≡ disown_form place
form_of-Disown place = ap form_of (sym (rolls-Disown place)) ∙ made.fold-roll-Form SilicaForm (SilicaForm × Span) form_step term_step (open'.Disown place)

pub form_of-Drop : (slot : ℕ) → form_of (made.Drop slot) ≡ drop_form slot
form_of-Drop slot = ap form_of (sym (rolls-Drop slot)) ∙ made.fold-roll-Form SilicaForm (SilicaForm × Span) form_step term_step (open'.Drop slot)

pub form_of-Return : (place : Option Operand) → form_of (made.Return place) ≡ return_form place
form_of-Return place = ap form_of (sym (rolls-Return place)) ∙ made.fold-roll-Form SilicaForm (SilicaForm × Span) form_step term_step (open'.Return place)

pub form_of-Revert : (text : Operand) → form_of (made.Revert text) ≡ revert_form text
form_of-Revert text = ap form_of (sym (rolls-Revert text)) ∙ made.fold-roll-Form SilicaForm (SilicaForm × Span) form_step term_step (open'.Revert text)

pub form_of-BadRow : form_of made.BadRow ≡ bad_row_form
form_of-BadRow = ap form_of (sym rolls-BadRow) ∙ made.fold-roll-Form SilicaForm (SilicaForm × Span) form_step term_step open'.BadRow

pub term_of-fields : (node : Term) → term_of node ≡ (form_of node.form, node.span)
term_of-fields = fold_out-Term SilicaForm (SilicaForm × Span) form_step term_step

pub ruleset term_views = (form_of-Unit, form_of-Const, form_of-Op, form_of-Copy, form_of-Move, form_of-New, form_of-Call, form_of-CallThis, form_of-Change, form_of-Test, form_of-If, form_of-Loop, form_of-Assert, form_of-Disown, form_of-Drop, form_of-Return, form_of-Revert, form_of-BadRow, term_of-fields)
