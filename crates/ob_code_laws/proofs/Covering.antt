-- Some need of an instruction speaks of each slot that it reads, so that each of them is set.
use Rattle.std.proofs.Common.{◌≡◌, ℕ, List, [], ◌∷◌, length, map, Option, Some, None, true, false, Contains, slice_get, refl, sym, ap, ◌∙◌, subst, arith, inl, inr}
use Rattle.std.specs.Prelude.{not, ◌&&◌, ◌==◌, is_some, find, option_map}
use Rattle.std.specs.Option.{option_and_then, option_map_or}
use Rattle.std.proofs.lemmas.Bool.{true≢false, and_parts, not-false, eqb-true}
use Rattle.std.proofs.lemmas.List.{length-map}
use Rattle.ob_base.specs.declared.id.FieldId.{FieldId}
use Rattle.ob_base.specs.declared.operator.Operator.{Operator}
use Rattle.ob_base.specs.declared.operator.Operator.TheVariants as operator
use Rattle.ob_table.specs.declared.seen.Kind.{Kind}
use Rattle.ob_table.specs.declared.seen.Kind.TheVariants as kind
use Rattle.ob_heap_spec.specs.Objects.{Object}
use Rattle.ob_code.specs.declared.image.BodyCode.{BodyCode}
use Rattle.ob_code.specs.declared.image.ContractCode.{ContractCode}
use Rattle.ob_code.specs.declared.image.FieldCode.{FieldCode}
use Rattle.ob_code.specs.declared.image.Image.{Image}
use Rattle.ob_code.specs.declared.image.TypeCode.{TypeCode}
use Rattle.ob_code.specs.declared.instruction.Instruction.{Instruction}
use Rattle.ob_code.specs.declared.instruction.Instruction.TheVariants as is
use Rattle.ob_machine_steps.specs.Slots.{Slots}
use Rattle.ob_code.specs.Code.{is_interface, is_constructor, contract_code, body_code}
use Rattle.ob_verify_spec.specs.Kinds.{kind_of_type, kind_of_param}
use Rattle.ob_verify_spec.specs.Frames.{CodeFrame, constructor_code, kinds_of_params, kind_of_result, kind_of_field}
use Rattle.ob_verify_spec.specs.Instructions.{reads, slot_of_result, Need, of_kind, any_value, any_reference, alike, slots_needed, needs_of_args, needs_of_call, need_of, needs_of_given, needs_of_operator, needs_of_receiver, needs}
use Rattle.ob_verify_spec.specs.Conditions.{takes, is_answered, constructs, may_go_on}
use Rattle.ob_verify_spec.proofs.Listed.{not_empty, head, behind, cases, only}
use Rattle.ob_code_laws.specs.Kinds.{IsSet, Holds, AreMet}
use Rattle.ob_code_laws.proofs.Basics.{passes_some}
use Rattle.ob_code_laws.proofs.Changing.{named_well, field_there, given_need, given_named}
use Rattle.ob_code_laws.proofs.Calling.{taken_parts}

-- one of these needs speaks of a slot
pub record Speaks (ns : List Need) (k : ℕ) : Type 0 where
  pub need : Need
  pub among : Contains ns need
  pub of : Contains (slots_needed need) k

one_speaks : (n : Need) (k : ℕ) → Contains (slots_needed n) k → Speaks (n ∷ []) k
one_speaks n k c = record { need = n; among = head n []; of = c }

later_speaks : (n : Need) (ns : List Need) (k : ℕ) → Speaks ns k → Speaks (n ∷ ns) k
later_speaks n ns k s = record { need = s.need; among = behind n s.need ns s.among; of = s.of }

two_speak : (a b k : ℕ) (x y : Kind) → Contains (a ∷ b ∷ []) k → Speaks (of_kind a x ∷ of_kind b y ∷ []) k
two_speak a b k x y c = elim (cases a k (b ∷ []) c) [
  | inl e ↦ record { need = of_kind a x; among = head (of_kind a x) (of_kind b y ∷ []); of = subst (Contains (a ∷ [])) e (head a []) }
  | inr h ↦ later_speaks (of_kind a x) (of_kind b y ∷ []) k (one_speaks (of_kind b y) k h)
]

operator_speaks : (o : Operator) (a b k : ℕ) → Contains (a ∷ b ∷ []) k → Speaks (needs_of_operator o a b) k
operator_speaks operator.Equal a b k c = one_speaks (alike a b) k c
operator_speaks operator.NotEqual a b k c = one_speaks (alike a b) k c
operator_speaks operator.And a b k c = two_speak a b k kind.Bool kind.Bool c
operator_speaks operator.Or a b k c = two_speak a b k kind.Bool kind.Bool c
operator_speaks operator.Not a b k c = two_speak a b k kind.Bool kind.Bool c
operator_speaks o a b k c = two_speak a b k kind.Int kind.Int c

known_speaks : (a k : ℕ) (o : Option Kind) (x : Kind) → o ≡ Some x → Contains (a ∷ []) k → Speaks (need_of a o) k
known_speaks a k o x e c = subst (λ z. Speaks (need_of a z) k) (sym e) (one_speaks (of_kind a x) k c)

args_speak : (args : List ℕ) (xs : List Kind) (k : ℕ) → length args ≡ length xs → Contains args k → Speaks (needs_of_args args xs) k
args_speak [] xs k same c = absurd (not_empty k c)
args_speak (a ∷ args) [] k same c = absurd (omega (arith, same))
args_speak (a ∷ args) (x ∷ xs) k same c = elim (cases a k args c) [
  | inl e ↦ record { need = of_kind a x; among = head (of_kind a x) (needs_of_args args xs); of = subst (Contains (a ∷ [])) e (head a []) }
  | inr h ↦ let count : length args ≡ length xs = omega (arith, same) in later_speaks (of_kind a x) (needs_of_args args xs) k (args_speak args xs k count h)
]

-- a field whose slot is this one
given_with : (given : List (FieldId × ℕ)) (k : ℕ) → Contains (map (λ (pair : FieldId × ℕ). pair.1) given) k → (g : FieldId × ℕ) × Contains given g × (g.1 ≡ k)
given_with [] k c = absurd (not_empty k c)
given_with (g ∷ given) k c = elim (cases g.1 k (map (λ (pair : FieldId × ℕ). pair.1) given) c) [
  | inl e ↦ (g, head g given, e)
  | inr h ↦ let f = given_with given k h in (f.0, behind g f.0 given f.1, f.2)
]

given_speaks : (f : CodeFrame) (given : List (FieldId × ℕ)) (g : FieldId × ℕ) (k : ℕ) (z : FieldCode) → Contains given g → g.1 ≡ k → slice_get f.own.fields g.0.0 ≡ Some z
    → Speaks (needs_of_given f given) k
given_speaks f given g k z c e at =
    let one : Speaks (need_of g.1 (kind_of_field f g.0.0)) k =
    known_speaks g.1 k (kind_of_field f g.0.0) (kind_of_type z.of) (ap (option_map (λ (y : FieldCode). kind_of_type y.of)) at) (subst (Contains (g.1 ∷ [])) e (head g.1 [])) in
    record { need = one.need; among = given_need f given g one.need c one.among; of = one.of }

result_known : (o : Option TypeCode) → is_some o ≡ true → (x : Kind) × (option_map kind_of_type o ≡ Some x)
result_known None e = absurd (true≢false (sym e))
result_known (Some t) e = (kind_of_type t, refl)

call_speaks : (args : List ℕ) (ob : Option BodyCode) (b : BodyCode) (k : ℕ) → ob ≡ Some b → length args ≡ length (kinds_of_params b) → Contains args k → Speaks (needs_of_call args ob) k
call_speaks args ob b k e same c = subst (λ z. Speaks (needs_of_call args z) k) (sym e) (args_speak args (kinds_of_params b) k same c)

receiver_speaks : (a : ℕ) (x : Kind) (args : List ℕ) (ob : Option BodyCode) (b : BodyCode) (k : ℕ) → ob ≡ Some b → length args ≡ length (kinds_of_params b) → Contains (a ∷ args) k
    → Speaks (needs_of_receiver a x args ob) k
receiver_speaks a x args ob b k e same c = subst (λ z. Speaks (needs_of_receiver a x args z) k) (sym e) (elim (cases a k args c) [
  | inl g ↦ record { need = of_kind a x; among = head (of_kind a x) (needs_of_args args (kinds_of_params b)); of = subst (Contains (a ∷ [])) g (head a []) }
  | inr h ↦ later_speaks (of_kind a x) (needs_of_args args (kinds_of_params b)) k (args_speak args (kinds_of_params b) k same h)
])

pub reads_needed : (f : CodeFrame) (i : ℕ) (x : Instruction) → may_go_on f i x ≡ true → (k : ℕ) → Contains (reads x) k → Speaks (needs f x) k
reads_needed f i (is.Copy j a) e k c = one_speaks (any_value a) k c
reads_needed f i (is.Store field a) e k c =
    let z = field_there f (is.Store field a) field (named_well f i (is.Store field a) e).0 (head field []) in
    known_speaks a k (kind_of_field f field.0) (kind_of_type z.0.of) (ap (option_map (λ (y : FieldCode). kind_of_type y.of)) z.1) c
reads_needed f i (is.Op j o a b line) e k c = operator_speaks o a b k c
reads_needed f i (is.Unless a t) e k c = one_speaks (of_kind a kind.Bool) k c
reads_needed f i (is.Test a d s t) e k c = one_speaks (of_kind a (kind.Reference d)) k c
reads_needed f i (is.Change s given) e k c =
    let g = given_with given k c in
    let z = field_there f (is.Change s given) g.0.0 (named_well f i (is.Change s given) e).0 (given_named given g.0 g.1) in
    given_speaks f given g.0 k z.0 g.1 g.2 z.1
reads_needed f i (is.New j d args) e k c =
    let well = not-false (option_map_or (constructs (length args)) (contract_code f.image d) false) (named_well f i (is.New j d args) e).1 in
    let own = passes_some (constructs (length args)) (contract_code f.image d) well in
    let p = and_parts (not (is_interface own.0)) (option_map_or (λ (b : BodyCode). length args == length b.params) (find is_constructor own.0.bodies) false) own.2 in
    let b = passes_some (λ (b : BodyCode). length args == length b.params) (find is_constructor own.0.bodies) p.1 in
    call_speaks args (constructor_code f.image d) b.0 k (ap (option_and_then (λ (z : ContractCode). find is_constructor z.bodies)) own.1 ∙ b.1)
    (eqb-true (length args) (length b.0.params) b.2 ∙ sym (length-map b.0.params kind_of_param)) c
reads_needed f i (is.Call j a d tx args) e k c =
    let well = not-false (option_map_or (λ (b : BodyCode). takes (length args) (slot_of_result j) b && is_answered f.image d b) (body_code f.image d tx) false)
    (named_well f i (is.Call j a d tx args) e).1 in
    let b = passes_some (λ (b : BodyCode). takes (length args) (slot_of_result j) b && is_answered f.image d b) (body_code f.image d tx) well in
    let p = and_parts (takes (length args) (slot_of_result j) b.0) (is_answered f.image d b.0) b.2 in
    receiver_speaks a (kind.Reference d) args (body_code f.image d tx) b.0 k b.1 (taken_parts (length args) (slot_of_result j) b.0 p.0) c
reads_needed f i (is.SelfCall j tx args) e k c =
    let well = not-false (option_map_or (takes (length args) (slot_of_result j)) (slice_get f.own.bodies tx.0) false) (named_well f i (is.SelfCall j tx args) e).1 in
    let b = passes_some (takes (length args) (slot_of_result j)) (slice_get f.own.bodies tx.0) well in
    call_speaks args (slice_get f.own.bodies tx.0) b.0 k b.1 (taken_parts (length args) (slot_of_result j) b.0 b.2) c
reads_needed f i (is.Share a) e k c = one_speaks (any_reference a) k c
reads_needed f i (is.Disown a) e k c = one_speaks (any_reference a) k c
reads_needed f i (is.RetValue a) e k c =
    let x = result_known f.body.result (not-false (is_some f.body.result) (named_well f i (is.RetValue a) e).1) in
    known_speaks a k (kind_of_result f.body) x.0 x.1 c
reads_needed f i (is.Revert a) e k c = one_speaks (of_kind a kind.Text) k c
reads_needed f i x e k c = absurd (not_empty k c)

-- a need that is met speaks of slots that are set

one_set : (slots : Slots) (a k : ℕ) → IsSet slots a → Contains (a ∷ []) k → IsSet slots k
one_set slots a k h c = subst (IsSet slots) (only a k c) h

holds_set : (image : Image) (objects : List Object) (slots : Slots) (a : ℕ) (x : Kind) → Holds image objects slots a x → IsSet slots a
holds_set image objects slots a x h = record { value = h.value; there = h.there }

pub met_set : (image : Image) (objects : List Object) (slots : Slots) (n : Need) (k : ℕ) → AreMet image objects slots n → Contains (slots_needed n) k → IsSet slots k
met_set image objects slots (of_kind a wanted) k h c = one_set slots a k (holds_set image objects slots a wanted h) c
met_set image objects slots (any_value a) k h c = one_set slots a k h c
met_set image objects slots (any_reference a) k h c = one_set slots a k (record { value = _; there = h.there }) c
met_set image objects slots (alike a b) k h c = elim (cases a k (b ∷ []) c) [
  | inl e ↦ subst (IsSet slots) e (holds_set image objects slots a h.kind h.left)
  | inr d ↦ one_set slots b k (holds_set image objects slots b h.kind h.right) d
]
