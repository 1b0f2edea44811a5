-- The code of terms as it is made: what there is so far is handed on, and the targets of jumps ahead are written back.
use Rattle.std.specs.Prelude.{ℕ, Bool, true, false, not, List, [], ◌∷◌, ◌++◌, length, slice_set, if◌then◌else◌, None}
use Rattle.ob_base.specs.declared.id.StateId.{StateId}
use Rattle.ob_table_spec.specs.WellFormed.{StaticFrame}
use Rattle.ob_silica.specs.Terms.{SilicaForm, new_form, call_form, call_this_form, test_form, if_form, loop_form}
use Rattle.ob_silica.specs.Terms.{SilicaTerms, no_terms, and_term}
use Rattle.ob_silica.specs.declared.place.Operand.{Operand}
use Rattle.ob_silica_formed.specs.Holdings.{kind_of_operand, terms_end}
use Rattle.ob_code.specs.declared.instruction.Instruction.{Instruction}
use Rattle.ob_code.specs.declared.instruction.Instruction.TheVariants as instruction
use Rattle.ob_emit_spec.specs.Operands.{slot_read, loads}
use Rattle.ob_emit_spec.specs.Emission.{EmissionFrame, contract_referred, jump_if, new_code, call_code, call_this_code, form_code}
use Rattle.ob_silica_kinds.specs.Kinds.{Kinds, holding, kinds_after_form, kinds_after, kinds_at_head}
use Rattle.ob_emit.specs.declared.code.Choice.{Choice}
use Rattle.ob_emit.specs.declared.code.Choice.TheVariants as choice

-- the object of a place is marked as disowned
abbrev pub disown_code : ℕ → Operand → List Instruction
disown_code scratch o = loads scratch 0 (o ∷ []) ++ instruction.Disown (slot_read scratch 0 o.place) ∷ []

-- a run is undone, with the text of a place
abbrev pub revert_code : ℕ → Operand → List Instruction
revert_code scratch o = loads scratch 0 (o ∷ []) ++ instruction.Revert (slot_read scratch 0 o.place) ∷ []

-- the code of a form that enters a body; of each other form, none
abbrev pub entering_code : EmissionFrame → SilicaForm → List Instruction
entering_code f (new_form k contract args) = new_code f k contract args
entering_code f (call_form k receiver contract tx args) = call_code f k receiver contract tx args
entering_code f (call_this_form k tx args) = call_this_code f k tx args
entering_code f form = []

-- The code of a form that has no branches and is no loop, for which neither kinds nor the place count; each other form has none.
abbrev pub straight_code : EmissionFrame → SilicaForm → List Instruction
straight_code f (test_form o state branch other join) = []
straight_code f (if_form o branch other join) = []
straight_code f (loop_form first o body end) = []
straight_code f form = form_code f (holding (λ k. None)) form 0

-- the instruction of a choice with its target
abbrev pub chooses : Choice → ℕ → Instruction
chooses (choice.Value a) target = instruction.Unless a target
chooses (choice.State a contract state) target = instruction.Test a contract state target

-- whether a branch ends with a jump over the other one, by whether the branch ends
abbrev pub jumps_over_terms : Bool → SilicaTerms → Bool
jumps_over_terms ends no_terms = false
jumps_over_terms ends (and_term form span rest) = not ends

-- the test of a branch ends where its end is reached
abbrev pub test_ended : Bool → List Instruction
test_ended ends = if ends then [] else instruction.EndTest ∷ []

-- what the first branch of a choice ends with: only one by a state is a test
abbrev pub branch_ended : Choice → Bool → List Instruction
branch_ended (choice.Value a) ends = []
branch_ended (choice.State a contract state) ends = test_ended ends

-- After the first branch of the choice at `start`, or after the body of a loop: a jump to `to`, if it jumps, and the choice's target.
abbrev pub between : Choice → Bool → ℕ → ℕ → List Instruction → List Instruction
between c jumps to start code = slice_set (code ++ jump_if jumps to) start (chooses c (length (code ++ jump_if jumps to)))

-- after both branches: the target of the jump over the other one, if there is one, whose place this is
abbrev pub landed : Bool → ℕ → List Instruction → List Instruction
landed true place code = slice_set code place (instruction.Jump (length code))
landed false place code = code

-- a choice after its operand is loaded, from what its branches make of the code before them
abbrev pub choice_made : Choice → Bool → (List Instruction → List Instruction) → (List Instruction → List Instruction)
    → List Instruction → List Instruction
choice_made c jumps branch other code =
    landed jumps (length (branch (code ++ chooses c 0 ∷ [])))
    (other (between c jumps 0 (length code) (branch (code ++ chooses c 0 ∷ []))))

-- a loop, from what its first part with the operand, and its body, make of the code before them
abbrev pub loop_made : Choice → Bool → (List Instruction → List Instruction) → (List Instruction → List Instruction)
    → List Instruction → List Instruction
loop_made c again first body code =
    between c again (length code) (length (first code)) (body (first code ++ chooses c 0 ∷ []))

-- the operand of a choice is loaded
abbrev pub with_operand : EmissionFrame → Operand → List Instruction → List Instruction
with_operand f o code = code ++ loads f.scratch 0 (o ∷ [])

-- the choice by a truth value
abbrev pub choice_of_value : EmissionFrame → Operand → Choice
choice_of_value f o = choice.Value (slot_read f.scratch 0 o.place)

-- the choice by the state of an object
abbrev pub choice_of_state : EmissionFrame → Kinds → Operand → StateId → Choice
choice_of_state f kinds o state =
    choice.State (slot_read f.scratch 0 o.place) (contract_referred (kind_of_operand f.static (holding kinds) o)) state

-- what a form with branches chooses by; each other form has no choice, and any will do
abbrev pub choice_of_form : EmissionFrame → Kinds → SilicaForm → Choice
choice_of_form f kinds (test_form o state branch other join) = choice_of_state f kinds o state
choice_of_form f kinds (if_form o branch other join) = choice_of_value f o
choice_of_form f kinds form = choice.Value 0

-- the operand of a form with branches is loaded; for each other form nothing is
abbrev pub with_operand_of : EmissionFrame → SilicaForm → List Instruction → List Instruction
with_operand_of f (test_form o state branch other join) code = with_operand f o code
with_operand_of f (if_form o branch other join) code = with_operand f o code
with_operand_of f form code = code

abbrev mutual
  -- the code after a form, where slots hold values of these kinds
  pub form_made : EmissionFrame → Kinds → SilicaForm → List Instruction → List Instruction
  form_made f kinds (test_form o state branch other join) code =
      choice_made (choice_of_state f kinds o state) (jumps_over_terms (terms_end branch) other)
      (λ x. terms_made f kinds branch x ++ test_ended (terms_end branch)) (λ x. terms_made f kinds other x)
      (with_operand f o code)
  form_made f kinds (if_form o branch other join) code =
      choice_made (choice_of_value f o) (jumps_over_terms (terms_end branch) other)
      (λ x. terms_made f kinds branch x) (λ x. terms_made f kinds other x) (with_operand f o code)
  form_made f kinds (loop_form first o body end) code =
      let head = kinds_at_head f.static first body kinds in
      loop_made (choice_of_value f o) (not (terms_end body)) (λ x. with_operand f o (terms_made f head first x))
      (λ x. terms_made f (kinds_after f.static first head) body x) code
  form_made f kinds form code = code ++ form_code f (holding kinds) form (length code)

  -- the code after terms
  pub terms_made : EmissionFrame → Kinds → SilicaTerms → List Instruction → List Instruction
  terms_made f kinds no_terms code = code
  terms_made f kinds (and_term form span rest) code =
      terms_made f (kinds_after_form f.static form kinds) rest (form_made f kinds form code)

-- the kinds after a loop; each other form changes none here
abbrev pub kinds_after_loop : StaticFrame → SilicaForm → Kinds → Kinds
kinds_after_loop f (loop_form first o body end) kinds = kinds_after f first (kinds_at_head f first body kinds)
kinds_after_loop f form kinds = kinds

-- the code after a loop; each other form adds none here
abbrev pub with_loop : EmissionFrame → Kinds → SilicaForm → List Instruction → List Instruction
with_loop f kinds (loop_form first o body end) code = form_made f kinds (loop_form first o body end) code
with_loop f kinds form code = code
