-- What holds where a form derives, and what is left after it (Coblenz et al., TOPLAS 42(3), 2020, "Silica"; the facts
-- are this project's own).
use Rattle.std.specs.Prelude.{◌≡◌, Option, Some, None, Ok}
use Rattle.ob_base.specs.declared.fault.Span.{Span}
use Rattle.ob_base.specs.declared.id.StateId.{StateId}
use Rattle.ob_perm.specs.Permissions.{unowned}
use Rattle.ob_table.specs.Tables.{signature_at, signature_of}
use Rattle.ob_table.specs.declared.contract.Signature.{Signature}
use Rattle.ob_silica.specs.Terms.{SilicaForm, unit_form, const_form, op_form, copy_form, move_form, new_form, call_form, call_this_form, change_form, test_form, if_form, loop_form, assert_form, disown_form, drop_form, return_form, revert_form, bad_row_form, SilicaTerms, no_terms, and_term}
use Rattle.ob_silica.specs.declared.place.Operand.{Operand}
use Rattle.ob_silica_places.specs.Known.{kind_of_constant, kind_of_operator}
use Rattle.ob_silica_places.specs.Places.{slot, located, location_of}
use Rattle.ob_flow_spec.specs.Contexts.{BodyFrame, Context, put, now, counted, TestedPlaces}
use Rattle.ob_flow_spec.specs.Straight.{put_value, after_copy, after_move}
use Rattle.ob_flow_spec.specs.Testing.{in_tested_state, in_other_state, tested_with, this_left}
use Rattle.ob_flow_spec.specs.Looping.{head_context}
use Rattle.ob_flow_spec.specs.Calling.{after_new, after_call, after_call_on_this}
use Rattle.ob_flow_spec.specs.Changing.{after_change}
use Rattle.ob_flow_spec.specs.Deriving.{derive, derive_all, constructor}
use Rattle.ob_flow_laws.specs.Uses.{CanUse}
use Rattle.ob_flow_laws.specs.Filling.{CanGiveUp}
use Rattle.ob_flow_laws.specs.Straight.{CanOperate, CanCopy, CanMove, IsAsserted, CanDrop}
use Rattle.ob_flow_laws.specs.Testing.{CanTest, EndsFirstBranch}
use Rattle.ob_flow_laws.specs.Joining.{LeavesBoth}
use Rattle.ob_flow_laws.specs.Looping.{TurnsBackIf}
use Rattle.ob_flow_laws.specs.Calling.{CanMake, CanCall, CanCallThis}
use Rattle.ob_flow_laws.specs.Changing.{CanChange}
use Rattle.ob_flow_laws.specs.Returning.{CanReturn}

-- A form with this signature, if the table has one, has this condition and leaves this context; without a signature
-- it changes nothing.
pub record PassesSigned (signature : Option Signature) (Can : Signature → Type 0) (after : Signature → Context)
    (g : Context) (left : Option Context) : Type 0 where
  pub signed : (s : Signature) → signature ≡ Some s → Can s × (left ≡ Some (after s))
  pub unsigned : signature ≡ None → left ≡ Some g

-- A test is passed: the place can be tested, the first branch derives from the tested state and ends, the second
-- derives from the others, and this is left after both.
pub record PassesTest (b : BodyFrame) (ts : TestedPlaces) (o : Operand) (state : StateId)
    (branch other : SilicaTerms) (g : Context) (left : Option Context) : Type 0 where
  pub can : CanTest b ts g o
  pub first : Option Context
  pub ended : Option Context
  pub second : Option Context
  pub branch_derives : derive_all b (tested_with (counted g (located o)) (located o) ts) branch
      (in_tested_state (counted g (located o)) state (located o) g) ≡ Ok first
  pub branch_ends : EndsFirstBranch (counted g (located o)) o first ended
  pub other_derives : derive_all b ts other (in_other_state (counted g (located o)) state (located o) g) ≡ Ok second
  pub joins : LeavesBoth b (this_left first) ended second left

-- a condition is passed: its place can be used, both branches derive, and this is left after them
pub record PassesIf (b : BodyFrame) (ts : TestedPlaces) (a : Operand) (branch other : SilicaTerms) (g : Context)
    (left : Option Context) : Type 0 where
  pub can : CanUse b g (located a)
  pub first : Option Context
  pub second : Option Context
  pub branch_derives : derive_all b ts branch g ≡ Ok first
  pub other_derives : derive_all b ts other g ≡ Ok second
  pub joins : LeavesBoth b (this_left first) first second left

-- A turn of a Loop is passed, from this head: its operand can be used after the first part, from where its body derives, and
-- where the body's end is reached all is as at the head; what is known after the first part is left.
pub record PassesTurn (b : BodyFrame) (ts : TestedPlaces) (a : Operand) (body : SilicaTerms) (head h : Context)
    (left : Option Context) : Type 0 where
  pub can : CanUse b h (located a)
  pub turned : Option Context
  pub body_derives : derive_all b ts body h ≡ Ok turned
  pub turns : TurnsBackIf b head turned
  pub leaves : left ≡ Some h

-- the same, if the end of the first part is reached
abbrev pub PassesTurnIf : BodyFrame → TestedPlaces → Operand → SilicaTerms → Context → Option Context → Option Context → Type 0
PassesTurnIf b ts a body head None left = left ≡ None
PassesTurnIf b ts a body head (Some h) left = PassesTurn b ts a body head h left

-- a Loop is passed: its first part derives from the head, and a turn is passed
pub record PassesLoop (b : BodyFrame) (ts : TestedPlaces) (first : SilicaTerms) (a : Operand) (body : SilicaTerms) (g : Context)
    (left : Option Context) : Type 0 where
  pub after : Option Context
  pub first_derives : derive_all b ts first (head_context b first body g) ≡ Ok after
  pub turn : PassesTurnIf b ts a body (head_context b first body g) after left

-- a form is passed in this context: its condition holds, and this is left after it
abbrev pub Passes : BodyFrame → TestedPlaces → SilicaForm → Span → Context → Option Context → Type 0
Passes b ts unit_form at g left = left ≡ Some g
Passes b ts (const_form k value) at g left = left ≡ Some (put_value g k (kind_of_constant value))
Passes b ts (op_form k operator x y line) at g left =
    CanOperate b g x y × (left ≡ Some (put_value g k (kind_of_operator operator)))
Passes b ts (copy_form to from) at g left =
    CanCopy b g (location_of to) from × (left ≡ Some (after_copy b g (location_of to) from))
Passes b ts (move_form to from contract) at g left =
    CanMove b ts g (location_of to) from × (left ≡ Some (after_move b g (location_of to) from contract))
Passes b ts (new_form k contract args) at g left =
    PassesSigned (signature_of b.table contract constructor) (λ s. CanMake b ts g s args)
    (λ s. after_new b g k contract s args) g left
Passes b ts (call_form k receiver contract tx args) at g left =
    PassesSigned (signature_of b.table contract tx) (λ s. CanCall b ts g receiver contract s args)
    (λ s. after_call b g k receiver contract s args) g left
Passes b ts (call_this_form k tx args) at g left =
    PassesSigned (signature_at b.own tx) (λ s. CanCallThis b ts g at s args)
    (λ s. after_call_on_this b g at k s args) g left
Passes b ts (change_form state given) at g left =
    CanChange b ts g state given × (left ≡ Some (after_change b g state given))
Passes b ts (test_form o state branch other join) at g left = PassesTest b ts o state branch other g left
Passes b ts (if_form a branch other join) at g left = PassesIf b ts a branch other g left
Passes b ts (loop_form first a body end) at g left = PassesLoop b ts first a body g left
Passes b ts (assert_form o perm) at g left = IsAsserted b g o perm × (left ≡ Some g)
Passes b ts (disown_form o) at g left = CanGiveUp b ts g (located o) × (left ≡ Some (now g (located o) unowned))
Passes b ts (drop_form k) at g left = CanDrop b ts g k × (left ≡ Some (put g (slot k) None))
Passes b ts (return_form value) at g left = CanReturn b ts g value × (left ≡ None)
Passes b ts (revert_form text) at g left = CanUse b g (located text) × (left ≡ None)
Passes b ts bad_row_form at g left = ⊥

-- the rest of terms derives from what the form before left, if it was passed
abbrev pub RestDerives : BodyFrame → TestedPlaces → SilicaTerms → Option Context → Option Context → Type 0
RestDerives b ts rest None left = left ≡ None
RestDerives b ts rest (Some h) left = derive_all b ts rest h ≡ Ok left

-- a form derives and leaves `mid`, from which the rest of the terms derives
pub record PassesThen (b : BodyFrame) (ts : TestedPlaces) (form : SilicaForm) (at : Span) (rest : SilicaTerms)
    (g : Context) (left : Option Context) : Type 0 where
  pub mid : Option Context
  pub derives : derive b ts form at g ≡ Ok mid
  pub rest_derives : RestDerives b ts rest mid left

-- terms are passed in this context: each form derives from what the one before left
abbrev pub PassesAll : BodyFrame → TestedPlaces → SilicaTerms → Context → Option Context → Type 0
PassesAll b ts no_terms g left = left ≡ Some g
PassesAll b ts (and_term form at rest) g left = PassesThen b ts form at rest g left
