-- What is asked of each form of a body, where slots hold this (Coblenz et al., TOPLAS 42(3), 2020, "Silica", where these are
-- premises of the rules; slots are this project's own).
use Rattle.std.specs.Prelude.{◌≡◌, ℕ, ◌<◌, true, false, List, [], ◌∷◌, map, length, Option, Some, None, is_some, IsTrue, IsSome, IsSomeAnd, IfSome, AllPairs, ◌≢◌, ⊤}
use Rattle.ob_base.specs.Names.{is_text}
use Rattle.ob_base.specs.Numbers.{is_int}
use Rattle.ob_base.specs.declared.id.ContractId.{ContractId}
use Rattle.ob_table.specs.Tables.{contract_at, field_at, signature_of}
use Rattle.ob_table.specs.declared.contract.Param.{Param}
use Rattle.ob_table.specs.declared.operator.BinaryOperator.TheVariants.{Equal, NotEqual}
use Rattle.ob_table.specs.declared.seen.Kind.{Kind}
use Rattle.ob_table.specs.declared.seen.Kind.TheVariants.{Int, Bool as BoolKind, Text, Reference}
use Rattle.ob_table_spec.specs.Conditions.{IsPermOn}
use Rattle.ob_table_spec.specs.WellFormed.{StaticFrame, kind_of_resolved, kind_of_unary, is_reference, is_constructor, serves_as, RefersTo, constructor_at}
use Rattle.ob_silica.specs.Terms.{SilicaForm, unit_form, const_form, op_form, copy_form, move_form, new_form, call_form, call_this_form, change_form, test_form, if_form, loop_form, assert_form, disown_form, return_form, revert_form, SilicaTerms, no_terms, and_term}
use Rattle.ob_silica.specs.declared.place.Constant.{Constant}
use Rattle.ob_silica.specs.declared.place.Constant.TheVariants as constant
use Rattle.ob_silica.specs.declared.place.Given.{Given}
use Rattle.ob_silica.specs.declared.place.Operand.{Operand}
use Rattle.ob_silica.specs.declared.place.Place.{Place}
use Rattle.ob_silica.specs.declared.place.Place.TheVariants.{This, Slot, Field}
use Rattle.ob_silica.specs.declared.term.SilicaOperator.{SilicaOperator}
use Rattle.ob_silica.specs.declared.term.SilicaOperator.TheVariants.{Unary, Binary}
use Rattle.ob_silica_formed.specs.Holdings.{Holdings, kind_of_place, kind_of_operand, slot_set, slot_written, form_ends, terms_end, after_form}

-- Numbers.

-- a place: a field is one of the contract's
abbrev pub IsPlace : StaticFrame → Place → Type 0
IsPlace f This = ⊤
IsPlace f (Slot k) = ⊤
IsPlace f (Field id) = IsSome (field_at f.own id)

-- the same of operands
abbrev pub ArePlaces : StaticFrame → List Operand → Type 0
ArePlaces f [] = ⊤
ArePlaces f (o ∷ os) = IsPlace f o.place × ArePlaces f os

-- fields of the contract are given the values of places
abbrev pub AreFields : StaticFrame → List Given → Type 0
AreFields f [] = ⊤
AreFields f (g ∷ gs) = IsSome (field_at f.own g.field) × IsPlace f g.from.place × AreFields f gs

-- Each number that a form names is that of a contract, transaction, field or state that there is; the states of a test
-- and of an assertion are those of the contract to which the place refers.
abbrev pub NamesWhatIsThere : StaticFrame → Holdings → SilicaForm → Type 0
NamesWhatIsThere f h (op_form k operator a b line) = IsPlace f a.place × IsPlace f b.place
NamesWhatIsThere f h (copy_form to from) = IsPlace f to × IsPlace f from.place
NamesWhatIsThere f h (move_form to from contract) =
    IsPlace f to × IsPlace f from.place × IfSome contract (λ id. IsSome (contract_at f.table id))
NamesWhatIsThere f h (new_form k contract args) = IsSome (contract_at f.table contract) × ArePlaces f args
NamesWhatIsThere f h (call_form k receiver contract tx args) =
    IsSome (signature_of f.table contract tx) × IsPlace f receiver.place × ArePlaces f args
NamesWhatIsThere f h (call_this_form k tx args) = IsSome (signature_of f.table f.here tx) × ArePlaces f args
NamesWhatIsThere f h (change_form state given) = (state.0 < length f.own.states) × AreFields f given
NamesWhatIsThere f h (test_form place state branch other join) =
    IsPlace f place.place
    × IsSomeAnd (kind_of_operand f h place) (RefersTo f.table (λ c. state.0 < length c.states))
NamesWhatIsThere f h (if_form a branch other join) = IsPlace f a.place
NamesWhatIsThere f h (loop_form first a body end) = IsPlace f a.place
NamesWhatIsThere f h (assert_form place perm) =
    IsPlace f place.place × IsSomeAnd (kind_of_operand f h place) (RefersTo f.table (λ c. IsPermOn c perm))
NamesWhatIsThere f h (disown_form place) = IsPlace f place.place
NamesWhatIsThere f h (return_form place) = IfSome place (λ o. IsPlace f o.place)
NamesWhatIsThere f h (revert_form text) = IsPlace f text.place
NamesWhatIsThere f h form = ⊤

-- Kinds.

-- a constant is a value of its kind: an `int` of 64 bits, a `bool`, or a text of at most 1,024 bytes
abbrev pub IsConstant : Constant → Type 0
IsConstant (constant.Int z) = IsTrue (is_int z)
IsConstant (constant.Bool b) = ⊤
IsConstant (constant.Text bytes) = IsTrue (is_text bytes)

-- an operand's value is known to serve where one of this kind is needed
abbrev pub HasKind : StaticFrame → Holdings → Kind → Operand → Type 0
HasKind f h wanted o = IsSomeAnd (kind_of_operand f h o) (λ kind. IsTrue (serves_as f.table wanted kind))

-- an operand is known to be a reference
abbrev pub IsReference : StaticFrame → Holdings → Operand → Type 0
IsReference f h o = IsSomeAnd (kind_of_operand f h o) (λ kind. is_reference kind ≡ true)

-- an operand is known to be a value that is no reference
abbrev pub IsNoReference : StaticFrame → Holdings → Operand → Type 0
IsNoReference f h o = IsSomeAnd (kind_of_operand f h o) (λ kind. is_reference kind ≡ false)

-- An operator's operands: a single one has the kind that the operator gives; `==` and `!=` compare two values of one kind
-- that is no reference.
abbrev pub HaveOperands : StaticFrame → Holdings → SilicaOperator → Operand → Operand → Type 0
HaveOperands f h (Unary operator) a b = HasKind f h (kind_of_unary operator) a × HasKind f h (kind_of_unary operator) b
HaveOperands f h (Binary Equal) a b =
    IsSomeAnd (kind_of_operand f h a) (λ kind. (is_reference kind ≡ false) × HasKind f h kind b)
HaveOperands f h (Binary NotEqual) a b =
    IsSomeAnd (kind_of_operand f h a) (λ kind. (is_reference kind ≡ false) × HasKind f h kind b)
HaveOperands f h (Binary operator) a b = HasKind f h Int a × HasKind f h Int b

-- there is one argument for each parameter beside `this`, of its kind
abbrev pub ArePassed : StaticFrame → Holdings → List Param → List Operand → Type 0
ArePassed f h [] [] = ⊤
ArePassed f h (p ∷ ps) (o ∷ os) = HasKind f h (kind_of_resolved p.of) o × ArePassed f h ps os
ArePassed f h ps os = ⊥

-- each given field gets a value of its kind
abbrev pub AreServed : StaticFrame → Holdings → List Given → Type 0
AreServed f h [] = ⊤
AreServed f h (g ∷ gs) =
    IfSome (field_at f.own g.field) (λ field. HasKind f h (kind_of_resolved field.of) g.from) × AreServed f h gs

-- no field is given twice
abbrev pub AreGivenOnce : List Given → Type 0
AreGivenOnce given = AllPairs (λ (a b : ℕ). a ≢ b) (map (λ g. g.field.0) given)

-- a copy to a field gives it a value of its kind
abbrev pub IsCopiedTo : StaticFrame → Holdings → Place → Operand → Type 0
IsCopiedTo f h (Field id) from = IfSome (kind_of_place f h (Field id)) (λ kind. HasKind f h kind from)
IsCopiedTo f h to from = ⊤

-- a move to a slot names the slot's contract, and one to a field gives it a value of its kind
abbrev pub IsMovedTo : StaticFrame → Holdings → Place → Option ContractId → Operand → Type 0
IsMovedTo f h (Field id) None from = IfSome (kind_of_place f h (Field id)) (λ kind. HasKind f h kind from)
IsMovedTo f h (Field id) (Some contract) from = ⊥
IsMovedTo f h to None from = ⊥
IsMovedTo f h to (Some contract) from = HasKind f h (Reference contract) from

-- A constant is a value of its kind, and each operand of a form has the kind that the form needs; there are as many
-- arguments as parameters beside `this`, and no field is given twice. Of a `new` of an interface, which has no constructor,
-- nothing is asked here: `NamesBody` rules it out.
abbrev pub HasKinds : StaticFrame → Holdings → SilicaForm → Type 0
HasKinds f h (const_form k value) = IsConstant value
HasKinds f h (op_form k operator a b line) = HaveOperands f h operator a b
HasKinds f h (copy_form to from) = IsNoReference f h from × IsCopiedTo f h to from
HasKinds f h (move_form to from contract) = IsReference f h from × IsMovedTo f h to contract from
HasKinds f h (new_form k contract args) =
    IfSome (constructor_at f.table contract) (λ s. ArePassed f h s.params args)
HasKinds f h (call_form k receiver contract tx args) =
    (kind_of_operand f h receiver ≡ Some (Reference contract))
    × IfSome (signature_of f.table contract tx) (λ s. ArePassed f h s.params args)
HasKinds f h (call_this_form k tx args) =
    IfSome (signature_of f.table f.here tx) (λ s. ArePassed f h s.params args)
HasKinds f h (change_form state given) = AreServed f h given × AreGivenOnce given
HasKinds f h (test_form place state branch other join) = IsReference f h place
HasKinds f h (if_form a branch other join) = HasKind f h BoolKind a
HasKinds f h (loop_form first a body end) = HasKind f (after_form f (loop_form first a body end) h) BoolKind a
HasKinds f h (assert_form place perm) = IsReference f h place
HasKinds f h (disown_form place) = IsReference f h place
HasKinds f h (revert_form text) = HasKind f h Text text
HasKinds f h form = ⊤

-- Slots.

-- a call has a slot for its result exactly where the called body has a result
abbrev pub TakesResult : StaticFrame → Holdings → SilicaForm → Type 0
TakesResult f h (call_form k receiver contract tx args) =
    IfSome (signature_of f.table contract tx) (λ s. is_some k ≡ is_some s.result)
TakesResult f h (call_this_form k tx args) =
    IfSome (signature_of f.table f.here tx) (λ s. is_some k ≡ is_some s.result)
TakesResult f h form = ⊤

-- no form sets or drops `this` or a parameter's slot
abbrev pub LeavesParams : StaticFrame → Holdings → SilicaForm → Type 0
LeavesParams f h form = IfSome (slot_written form) (λ k. f.params < k)

-- no form but a move sets a slot that on some way holds a reference
abbrev pub LosesNoReference : StaticFrame → Holdings → SilicaForm → Type 0
LosesNoReference f h (move_form to from contract) = ⊤
LosesNoReference f h form = IfSome (slot_set form) (λ k. (h k).refers ≡ false)

-- Bodies that are named.

-- no call names a private transaction or a constructor, no call of `this` a constructor, and no `new` an interface
abbrev pub NamesBody : StaticFrame → Holdings → SilicaForm → Type 0
NamesBody f h (new_form k contract args) = IfSome (contract_at f.table contract) (λ c. c.interface ≡ false)
NamesBody f h (call_form k receiver contract tx args) =
    IfSome (signature_of f.table contract tx) (λ s. s.private ≡ false)
    × (is_constructor f.table contract tx.0 ≡ false)
NamesBody f h (call_this_form k tx args) = is_constructor f.table f.here tx.0 ≡ false
NamesBody f h form = ⊤

-- a result, and the place of a `return`: both or neither, and the place's value serves
abbrev pub IsReturnedAs : StaticFrame → Holdings → Option Kind → Option Operand → Type 0
IsReturnedAs f h None None = ⊤
IsReturnedAs f h (Some kind) (Some o) = HasKind f h kind o
IsReturnedAs f h result place = ⊥

-- a `return` has a place exactly where the body has a result, and its value serves as that
abbrev pub ReturnsResult : StaticFrame → Holdings → SilicaForm → Type 0
ReturnsResult f h (return_form place) = IsReturnedAs f h f.result place
ReturnsResult f h form = ⊤

-- Turns.

-- terms begin by taking a unit
abbrev pub BeginsWithUnit : SilicaTerms → Type 0
BeginsWithUnit (and_term unit_form span rest) = ⊤
BeginsWithUnit terms = ⊥

-- each turn of a Loop takes a unit at first, and the end of the Loop's first part can be reached
abbrev pub TakesTurns : StaticFrame → Holdings → SilicaForm → Type 0
TakesTurns f h (loop_form first a body end) = BeginsWithUnit first × (terms_end first ≡ false)
TakesTurns f h form = ⊤

-- Ends.

abbrev mutual
  -- the same of the branches of a form
  pub NoneFollowsWithin : SilicaForm → Type 0
  NoneFollowsWithin (test_form place state branch other join) = NoneFollows branch × NoneFollows other
  NoneFollowsWithin (if_form a branch other join) = NoneFollows branch × NoneFollows other
  NoneFollowsWithin (loop_form first a body end) = NoneFollows first × NoneFollows body
  NoneFollowsWithin form = ⊤

  -- none follows a `Return` or a `Revert`, and none a form whose two branches end so
  pub NoneFollows : SilicaTerms → Type 0
  NoneFollows no_terms = ⊤
  NoneFollows (and_term form span rest) =
      (form_ends form ≡ true → rest ≡ no_terms) × NoneFollowsWithin form × NoneFollows rest
