-- What an instruction reads, needs, sets, and where it leads: each in one small function, so that a further instruction is a line
-- more in each.
use Rattle.std.specs.Prelude.{ℕ, ◌+◌, List, [], ◌∷◌, ◌++◌, map, Option, Some, None, Bool, true, false, ◌==◌, ◌&&◌, not, slice_get, if◌then◌else◌}
use Rattle.std.specs.Option.{option_and_then, option_map_or}
use Rattle.ob_base.specs.declared.id.FieldId.{FieldId}
use Rattle.ob_base.specs.declared.operator.Operator.{Operator}
use Rattle.ob_base.specs.declared.operator.Operator.TheVariants as operator
use Rattle.ob_table.specs.declared.seen.Kind.{Kind}
use Rattle.ob_table.specs.declared.seen.Kind.TheVariants as kind
use Rattle.ob_code.specs.declared.image.BodyCode.{BodyCode}
use Rattle.ob_code.specs.declared.image.Image.{Image}
use Rattle.ob_code.specs.declared.instruction.Instruction.{Instruction}
use Rattle.ob_code.specs.declared.instruction.Instruction.TheVariants as is
use Rattle.ob_verify_spec.specs.Kinds.{same_kind, fits, is_reference}
use Rattle.ob_code.specs.Code.{body_code, no_result}
use Rattle.ob_verify_spec.specs.Frames.{CodeFrame, constructor_code, kinds_of_params, kind_of_result, kind_of_field}

-- what each slot holds; one that is unset holds nothing
abbrev pub KindsOfSlots : Type 0
KindsOfSlots = ℕ → Option Kind

-- Slots and fields that are named.

-- the slots that an instruction reads
abbrev pub reads : Instruction → List ℕ
reads (is.Copy k a) = a ∷ []
reads (is.Store f a) = a ∷ []
reads (is.Op k o a b line) = a ∷ b ∷ []
reads (is.Unless a t) = a ∷ []
reads (is.Test a c s t) = a ∷ []
reads (is.Change s given) = map (λ pair. pair.1) given
reads (is.New k c args) = args
reads (is.Call k a c tx args) = a ∷ args
reads (is.SelfCall k tx args) = args
reads (is.Share a) = a ∷ []
reads (is.Disown a) = a ∷ []
reads (is.RetValue a) = a ∷ []
reads (is.Revert a) = a ∷ []
reads x = []

-- the slot of a call's result, if one gets it
abbrev pub slot_of_result : ℕ → Option ℕ
slot_of_result k = if k == no_result then None else Some k

-- the slot that an instruction sets
abbrev pub slot_set : Instruction → Option ℕ
slot_set (is.Int k z) = Some k
slot_set (is.Bool k b) = Some k
slot_set (is.Text k t) = Some k
slot_set (is.Copy k a) = Some k
slot_set (is.Load k f) = Some k
slot_set (is.Op k o a b line) = Some k
slot_set (is.New k c args) = Some k
slot_set (is.Call k a c tx args) = slot_of_result k
slot_set (is.SelfCall k tx args) = slot_of_result k
slot_set x = None

-- the fields of `this` that an instruction names
abbrev pub fields_named : Instruction → List FieldId
fields_named (is.Load k f) = f ∷ []
fields_named (is.Store f a) = f ∷ []
fields_named (is.Change s given) = map (λ pair. pair.0) given
fields_named x = []

-- Where an instruction leads.

-- the places where it may name the next instruction
abbrev pub targets : Instruction → List ℕ
targets (is.Jump t) = t ∷ []
targets (is.Unless a t) = t ∷ []
targets (is.Test a c s t) = t ∷ []
targets x = []

-- whether the next instruction may be the one after it
abbrev pub goes_on : Instruction → Bool
goes_on (is.Jump t) = false
goes_on is.Ret = false
goes_on (is.RetValue a) = false
goes_on (is.Revert a) = false
goes_on x = true

-- the place after an instruction, where that may be the next
abbrev pub after_it : Bool → ℕ → List ℕ
after_it true i = (i + 1) ∷ []
after_it false i = []

-- the places to which an instruction leads, a target first
abbrev pub leads : ℕ → Instruction → List ℕ
leads i (is.Jump t) = t ∷ []
leads i (is.Unless a t) = t ∷ (i + 1) ∷ []
leads i (is.Test a c s t) = t ∷ (i + 1) ∷ []
leads i x = after_it (goes_on x) i

-- What the slots must hold.

-- A need: a slot holds a value of a kind or of one that may take the place of it; a slot holds any value; a slot holds a reference; two
-- slots hold values of one kind, which is no reference's.
pub data Need : Type 0 where
  of_kind : ℕ → Kind → Need
  any_value : ℕ → Need
  any_reference : ℕ → Need
  alike : ℕ → ℕ → Need

-- the slots of which a need speaks
abbrev pub slots_needed : Need → List ℕ
slots_needed (of_kind k wanted) = k ∷ []
slots_needed (any_value k) = k ∷ []
slots_needed (any_reference k) = k ∷ []
slots_needed (alike k l) = k ∷ l ∷ []

-- whether the kind of a slot is one that a test passes; of an unset slot it isn't
abbrev pub passes : (Kind → Bool) → Option Kind → Bool
passes test held = option_map_or test held false

-- whether two slots hold values of one kind, which is no reference's
abbrev pub are_alike : Option Kind → Option Kind → Bool
are_alike None other = false
are_alike (Some x) other = not (is_reference x) && passes (same_kind x) other

-- whether slots meet a need
abbrev pub meets : Image → KindsOfSlots → Need → Bool
meets m s (of_kind k wanted) = passes (λ given. fits m given wanted) (s k)
meets m s (any_value k) = passes (λ given. true) (s k)
meets m s (any_reference k) = passes is_reference (s k)
meets m s (alike k l) = are_alike (s k) (s l)

-- the needs of arguments, as far as arguments and parameters both go
abbrev pub needs_of_args : List ℕ → List Kind → List Need
needs_of_args (a ∷ args) (p ∷ ps) = of_kind a p ∷ needs_of_args args ps
needs_of_args args ps = []

-- the same for the parameters of a body; where there is none nothing is needed
abbrev pub needs_of_call : List ℕ → Option BodyCode → List Need
needs_of_call args None = []
needs_of_call args (Some b) = needs_of_args args (kinds_of_params b)

-- what a slot must hold, where a kind is known
abbrev pub need_of : ℕ → Option Kind → List Need
need_of a None = []
need_of a (Some wanted) = of_kind a wanted ∷ []

-- what the slots of given fields must hold
abbrev pub needs_of_given : CodeFrame → List (FieldId × ℕ) → List Need
needs_of_given f [] = []
needs_of_given f (g ∷ given) = need_of g.1 (kind_of_field f g.0.0) ++ needs_of_given f given

-- what the slots of an operator's operands must hold
abbrev pub needs_of_operator : Operator → ℕ → ℕ → List Need
needs_of_operator operator.Equal a b = alike a b ∷ []
needs_of_operator operator.NotEqual a b = alike a b ∷ []
needs_of_operator operator.And a b = of_kind a kind.Bool ∷ of_kind b kind.Bool ∷ []
needs_of_operator operator.Or a b = of_kind a kind.Bool ∷ of_kind b kind.Bool ∷ []
needs_of_operator operator.Not a b = of_kind a kind.Bool ∷ of_kind b kind.Bool ∷ []
needs_of_operator o a b = of_kind a kind.Int ∷ of_kind b kind.Int ∷ []

-- what the receiver and the arguments of a call must hold; where the transaction isn't there nothing is needed
abbrev pub needs_of_receiver : ℕ → Kind → List ℕ → Option BodyCode → List Need
needs_of_receiver a wanted args None = []
needs_of_receiver a wanted args (Some b) = of_kind a wanted ∷ needs_of_args args (kinds_of_params b)

-- what an instruction needs
abbrev pub needs : CodeFrame → Instruction → List Need
needs f (is.Copy k a) = any_value a ∷ []
needs f (is.Store field a) = need_of a (kind_of_field f field.0)
needs f (is.Op k o a b line) = needs_of_operator o a b
needs f (is.Unless a t) = of_kind a kind.Bool ∷ []
needs f (is.Test a c s t) = of_kind a (kind.Reference c) ∷ []
needs f (is.Change s given) = needs_of_given f given
needs f (is.New k c args) = needs_of_call args (constructor_code f.image c)
needs f (is.Call k a c tx args) = needs_of_receiver a (kind.Reference c) args (body_code f.image c tx)
needs f (is.SelfCall k tx args) = needs_of_call args (slice_get f.own.bodies tx.0)
needs f (is.Share a) = any_reference a ∷ []
needs f (is.Disown a) = any_reference a ∷ []
needs f (is.RetValue a) = need_of a (kind_of_result f.body)
needs f (is.Revert a) = of_kind a kind.Text ∷ []
needs f x = []

-- What an instruction does to the slots.

-- nothing; a slot gets a value of a kind, or is unset; a slot gets what another holds
pub data Effect : Type 0 where
  keeps : Effect
  sets : ℕ → Option Kind → Effect
  copies : ℕ → ℕ → Effect

-- the slots with another value in one of them, or with none there
abbrev pub set_slot : ℕ → Option Kind → KindsOfSlots → KindsOfSlots
set_slot k held s = λ j. if j == k then held else s j

-- the slots after an effect
abbrev pub done : Effect → KindsOfSlots → KindsOfSlots
done keeps s = s
done (sets k held) s = set_slot k held s
done (copies k a) s = set_slot k (s a) s

-- the kind of what an operator gives
abbrev pub kind_given : Operator → Kind
kind_given operator.Add = kind.Int
kind_given operator.Sub = kind.Int
kind_given operator.Mul = kind.Int
kind_given operator.Div = kind.Int
kind_given operator.Rem = kind.Int
kind_given operator.Negate = kind.Int
kind_given o = kind.Bool

-- a call's result comes into its slot, if one gets it
abbrev pub effect_of_call : Option ℕ → Option BodyCode → Effect
effect_of_call None b = keeps
effect_of_call (Some k) b = sets k (option_and_then kind_of_result b)

-- the effect of an instruction
abbrev pub effect : CodeFrame → Instruction → Effect
effect f (is.Int k z) = sets k (Some kind.Int)
effect f (is.Bool k b) = sets k (Some kind.Bool)
effect f (is.Text k t) = sets k (Some kind.Text)
effect f (is.Copy k a) = copies k a
effect f (is.Load k field) = sets k (kind_of_field f field.0)
effect f (is.Op k o a b line) = sets k (Some (kind_given o))
effect f (is.New k c args) = sets k (Some (kind.Reference c))
effect f (is.Call k a c tx args) = effect_of_call (slot_of_result k) (body_code f.image c tx)
effect f (is.SelfCall k tx args) = effect_of_call (slot_of_result k) (slice_get f.own.bodies tx.0)
effect f x = keeps
