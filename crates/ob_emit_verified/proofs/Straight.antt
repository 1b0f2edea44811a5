-- The code of forms without branches and calls is certified.
use Rattle.std.proofs.Common.{◌≡◌, ℕ, ◌+◌, ◌<◌, ◌≤◌, [], ◌∷◌, ◌++◌, length, Option, Some, true, false, not, nat_lt, ◌&&◌, ◌==◌, Contains, refl, sym, ap, ◌∙◌, subst, arith}
use Rattle.std.specs.Prelude.{IsSomeAnd, IfSome, option_map, max}
use Rattle.std.specs.Option.{option_map_or}
use Rattle.std.proofs.lemmas.Bool.{true≢false, lt-ltb}
use Rattle.std.proofs.Math.Nat.{le-max_left, le-max_right, max-le}
use Rattle.ob_base.specs.declared.id.FieldId.{FieldId}
use Rattle.ob_base.specs.declared.operator.Operator.{Operator}
use Rattle.ob_table.specs.Tables.{ClassTable, field_at}
use Rattle.ob_table.specs.declared.contract.Field.{Field}
use Rattle.ob_table.specs.declared.operator.BinaryOperator.{BinaryOperator}
use Rattle.ob_table.specs.declared.operator.BinaryOperator.TheVariants as binary
use Rattle.ob_table.specs.declared.operator.UnaryOperator.{UnaryOperator}
use Rattle.ob_table.specs.declared.operator.UnaryOperator.TheVariants as unary
use Rattle.ob_table.specs.declared.seen.Kind.{Kind}
use Rattle.ob_table.specs.declared.seen.Kind.TheVariants as kind
use Rattle.ob_table_spec.specs.WellFormed.{StaticFrame, kind_of_resolved, kind_of_unary, kind_of_binary, serves_as, is_reference as refers}
use Rattle.ob_silica.specs.Slots.{slots_of_place, slots_of_operand, slots_of_operands}
use Rattle.ob_silica.specs.declared.place.Constant.{Constant}
use Rattle.ob_silica.specs.declared.place.Constant.TheVariants as constant
use Rattle.ob_silica.specs.declared.place.Operand.{Operand}
use Rattle.ob_silica.specs.declared.place.Place.{Place}
use Rattle.ob_silica.specs.declared.place.Place.TheVariants.{This, Slot, Field as FieldPlace}
use Rattle.ob_silica.specs.declared.term.SilicaOperator.{SilicaOperator}
use Rattle.ob_silica.specs.declared.term.SilicaOperator.TheVariants.{Unary, Binary}
use Rattle.ob_silica_places.specs.Known.{kind_of_constant, kind_of_operator}
use Rattle.ob_silica_formed.specs.Holdings.{Holdings, held, with_slot, kind_of_place, kind_of_operand}
use Rattle.ob_silica_formed.specs.Points.{IsPlace, HasKind, IsReference, HaveOperands}
use Rattle.ob_places_laws.proofs.Tables.{there_is, if_there_so}
use Rattle.ob_code.specs.declared.instruction.Instruction.TheVariants as is
use Rattle.ob_verify_spec.specs.Kinds.{is_reference, same_kind}
use Rattle.ob_verify_spec.specs.Frames.{CodeFrame, kind_of_field}
use Rattle.ob_verify_spec.specs.Instructions.{KindsOfSlots, Need, of_kind, any_value, any_reference, alike, meets, are_alike, need_of, needs_of_operator, kind_given}
use Rattle.ob_emit_spec.specs.Emission.{EmissionFrame, constant_code, unary_code, binary_code, operation_code, fetch_code, share_in_field, copy_code, move_code}
use Rattle.ob_emit_spec.specs.Operands.{slot_read, loads, scratch_slots, all_scratch_slots, share}
use Rattle.ob_verify_spec.proofs.Fitting.{fits_self}
use Rattle.ob_emit_verified.proofs.Flows.{Serves, IsSound, IsCertified, certified_last, certified_both}
use Rattle.ob_emit_verified.proofs.Operands.{known_of, knows_itself, below_fits, set_fits, IsCodeOf, HoldsThis, may_set_so, good_slots, one_read, none_needed, more_needed, one_needed, IsReadFrom, HaveRoom, is_there, sound_load}
use Rattle.ob_emit_verified.proofs.Marks.{value_met, operand_met, operand_refers, operand_shared, certified_share, loaded_then, regrouped, one_then}

-- a slot of the body that no entry sets
pub record IsOwnSlot (f : EmissionFrame) (k : ℕ) : Type 0 where
  pub past : 0 < k
  pub low : k < f.scratch

slot_within : (c : CodeFrame) (f : EmissionFrame) → IsCodeOf c f → (k : ℕ) → IsOwnSlot f k → k < c.body.slots
slot_within c f of k own = let a = own.low in let b = of.within in omega arith

pub may_set_own : (c : CodeFrame) (f : EmissionFrame) → IsCodeOf c f → (k : ℕ) → IsOwnSlot f k
    → option_map_or (λ (j : ℕ). not (j == 0) && nat_lt j c.body.slots) (Some k) true ≡ true
may_set_own c f of k own = may_set_so c k own.past (slot_within c f of k own)

-- Bounds.

pub max_parts : (a b n : ℕ) → max a b ≤ n → (a ≤ n) × (b ≤ n)
max_parts a b n le = let p = le-max_left a b in let q = le-max_right a b in (omega arith, omega arith)

-- room for one operand
pub one_room : (c : CodeFrame) (f : EmissionFrame) (o : Operand) → IsPlace f.static o.place → slots_of_operand o ≤ f.scratch
    → f.scratch + all_scratch_slots 0 (o ∷ []) ≤ c.body.slots → HaveRoom c f 0 (o ∷ [])
one_room c f o there low room =
    let none : 0 ≤ f.scratch = omega arith in
    record { places = (there, tt); low = max-le low none; room = room }

-- Constants.

sound_constant : (c : CodeFrame) (f : EmissionFrame) → IsCodeOf c f → (known : KindsOfSlots) (k : ℕ) → IsOwnSlot f k
    → (value : Constant) → IsSound c known (constant_code k value)
sound_constant c f of known k own (constant.Int z) =
    record { slots = good_slots c (is.Int k z) refl (may_set_own c f of k own); fields = refl; calls = refl; met = none_needed c known }
sound_constant c f of known k own (constant.Bool b) =
    record { slots = good_slots c (constant_code k (constant.Bool b)) refl (may_set_own c f of k own); fields = refl; calls = refl; met = none_needed c known }
sound_constant c f of known k own (constant.Text bytes) =
    record { slots = good_slots c (is.Text k bytes) refl (may_set_own c f of k own); fields = refl; calls = refl; met = none_needed c known }

-- what was given is just what the holdings say
same_given : (c : CodeFrame) (given left : Option Kind) → left ≡ given → (x : Kind) → left ≡ Some x
    → (y : Kind) × (given ≡ Some y) × Serves c.image y x
same_given c given left e x g = (x, sym e ∙ g, fits_self c.image x)

pub certified_constant : (c : CodeFrame) (f : EmissionFrame) → IsCodeOf c f → (h : Holdings) (at k : ℕ) → IsOwnSlot f k
    → (value : Constant)
    → IsCertified c at (constant_code k value ∷ []) (known_of f.scratch h) false (known_of f.scratch (with_slot k (held (Some (kind_of_constant value))) h))
certified_constant c f of h at k own (constant.Int z) =
    one_then c f of (with_slot k (held (Some kind.Int)) h) at (is.Int k z) (known_of f.scratch h) (refl, λ i. refl) (sound_constant c f of (known_of f.scratch h) k own (constant.Int z))
    (set_fits c f.scratch k h (Some kind.Int) (Some kind.Int) (known_of f.scratch h) (knows_itself f.scratch h) (same_given c (Some kind.Int) (Some kind.Int) refl))
certified_constant c f of h at k own (constant.Bool b) =
    one_then c f of (with_slot k (held (Some kind.Bool)) h) at (constant_code k (constant.Bool b)) (known_of f.scratch h) (refl, λ i. refl)
    (sound_constant c f of (known_of f.scratch h) k own (constant.Bool b))
    (set_fits c f.scratch k h (Some kind.Bool) (Some kind.Bool) (known_of f.scratch h) (knows_itself f.scratch h) (same_given c (Some kind.Bool) (Some kind.Bool) refl))
certified_constant c f of h at k own (constant.Text bytes) =
    one_then c f of (with_slot k (held (Some kind.Text)) h) at (is.Text k bytes) (known_of f.scratch h) (refl, λ i. refl) (sound_constant c f of (known_of f.scratch h) k own (constant.Text bytes))
    (set_fits c f.scratch k h (Some kind.Text) (Some kind.Text) (known_of f.scratch h) (knows_itself f.scratch h) (same_given c (Some kind.Text) (Some kind.Text) refl))

-- Operators.

sound_op : (c : CodeFrame) (f : EmissionFrame) → IsCodeOf c f → (known : KindsOfSlots) (k : ℕ) (o : Operator) (a b line : ℕ)
    → IsOwnSlot f k → a < c.body.slots → b < c.body.slots
    → ((m : Need) → Contains (needs_of_operator o a b) m → meets c.image known m ≡ true) → IsSound c known (is.Op k o a b line)
sound_op c f of known k o a b line own below second met =
    record { slots = good_slots c (is.Op k o a b line) (rw (lt-ltb a c.body.slots below, lt-ltb b c.body.slots second) refl) (may_set_own c f of k own); fields = refl; calls = refl; met = met }

two_needed : (c : CodeFrame) (known : KindsOfSlots) (n m : Need) → meets c.image known n ≡ true → meets c.image known m ≡ true
    → (need : Need) → Contains (n ∷ m ∷ []) need → meets c.image known need ≡ true
two_needed c known n m first second = more_needed c known n (m ∷ []) first (one_needed c known m second)

unary_met : (c : CodeFrame) (known : KindsOfSlots) (o : UnaryOperator) (a : ℕ)
    → meets c.image known (of_kind a (kind_of_unary o)) ≡ true
    → (m : Need) → Contains (needs_of_operator (unary_code o) a a) m → meets c.image known m ≡ true
unary_met c known unary.Not a met = two_needed c known (of_kind a kind.Bool) (of_kind a kind.Bool) met met
unary_met c known unary.Negate a met = two_needed c known (of_kind a kind.Int) (of_kind a kind.Int) met met

unary_given : (o : UnaryOperator) → ◌≡◌ {A = Option Kind} (Some (kind_of_unary o)) (Some (kind_given (unary_code o)))
unary_given unary.Not = refl
unary_given unary.Negate = refl

binary_given : (o : BinaryOperator) → ◌≡◌ {A = Option Kind} (Some (kind_of_binary o)) (Some (kind_given (binary_code o)))
binary_given binary.Add = refl
binary_given binary.Sub = refl
binary_given binary.Mul = refl
binary_given binary.Div = refl
binary_given binary.Rem = refl
binary_given binary.Equal = refl
binary_given binary.NotEqual = refl
binary_given binary.Less = refl
binary_given binary.LessEqual = refl
binary_given binary.Greater = refl
binary_given binary.GreaterEqual = refl

plain_serves : (table : ClassTable) (x y : Kind) → refers x ≡ false → serves_as table x y ≡ true
    → not (is_reference x) && same_kind x y ≡ true
plain_serves table kind.Int kind.Int e g = refl
plain_serves table kind.Bool kind.Bool e g = refl
plain_serves table kind.Text kind.Text e g = refl
plain_serves table (kind.Reference i) y e g = absurd (true≢false e)
plain_serves table kind.Int kind.Bool e g = absurd (true≢false (sym g))
plain_serves table kind.Int kind.Text e g = absurd (true≢false (sym g))
plain_serves table kind.Int (kind.Reference d) e g = absurd (true≢false (sym g))
plain_serves table kind.Bool kind.Int e g = absurd (true≢false (sym g))
plain_serves table kind.Bool kind.Text e g = absurd (true≢false (sym g))
plain_serves table kind.Bool (kind.Reference d) e g = absurd (true≢false (sym g))
plain_serves table kind.Text kind.Int e g = absurd (true≢false (sym g))
plain_serves table kind.Text kind.Bool e g = absurd (true≢false (sym g))
plain_serves table kind.Text (kind.Reference d) e g = absurd (true≢false (sym g))

alike_met : (c : CodeFrame) (f : EmissionFrame) (h : Holdings) (known : KindsOfSlots) (k l : ℕ) (a b : Operand)
    → IsSomeAnd (kind_of_operand f.static h a) (λ x. (refers x ≡ false) × HasKind f.static h x b)
    → IsReadFrom c f.static h known k a → IsReadFrom c f.static h known l b → meets c.image known (alike k l) ≡ true
alike_met c f h known k l a b have left right =
    let x = there_is (kind_of_operand f.static h a) _ have in
    let y = there_is (kind_of_operand f.static h b) _ x.2.1 in
    ap (λ z. are_alike z (known l)) (left.kind x.0 x.1) ∙ ap (are_alike (Some x.0)) (right.kind y.0 y.1) ∙ plain_serves f.static.table x.0 y.0 x.2.0 y.2

both_met : (c : CodeFrame) (f : EmissionFrame) → IsCodeOf c f → (h : Holdings) (known : KindsOfSlots) (k l : ℕ) (a b : Operand)
    → HasKind f.static h kind.Int a → HasKind f.static h kind.Int b
    → IsReadFrom c f.static h known k a → IsReadFrom c f.static h known l b → (m : Need) → Contains (of_kind k kind.Int ∷ of_kind l kind.Int ∷ []) m → meets c.image known m ≡ true
both_met c f of h known k l a b p q left right =
    two_needed c known (of_kind k kind.Int) (of_kind l kind.Int) (operand_met c f of h known k kind.Int a p left) (operand_met c f of h known l kind.Int b q right)

binary_met : (c : CodeFrame) (f : EmissionFrame) → IsCodeOf c f
    → (h : Holdings) (known : KindsOfSlots) (k l : ℕ) (o : BinaryOperator) (a b : Operand) → HaveOperands f.static h (Binary o) a b
    → IsReadFrom c f.static h known k a → IsReadFrom c f.static h known l b → (m : Need) → Contains (needs_of_operator (binary_code o) k l) m → meets c.image known m ≡ true
binary_met c f of h known k l binary.Equal a b have left right = one_needed c known (alike k l) (alike_met c f h known k l a b have left right)
binary_met c f of h known k l binary.NotEqual a b have left right = one_needed c known (alike k l) (alike_met c f h known k l a b have left right)
binary_met c f of h known k l binary.Add a b have left right = both_met c f of h known k l a b have.0 have.1 left right
binary_met c f of h known k l binary.Sub a b have left right = both_met c f of h known k l a b have.0 have.1 left right
binary_met c f of h known k l binary.Mul a b have left right = both_met c f of h known k l a b have.0 have.1 left right
binary_met c f of h known k l binary.Div a b have left right = both_met c f of h known k l a b have.0 have.1 left right
binary_met c f of h known k l binary.Rem a b have left right = both_met c f of h known k l a b have.0 have.1 left right
binary_met c f of h known k l binary.Less a b have left right = both_met c f of h known k l a b have.0 have.1 left right
binary_met c f of h known k l binary.LessEqual a b have left right = both_met c f of h known k l a b have.0 have.1 left right
binary_met c f of h known k l binary.Greater a b have left right = both_met c f of h known k l a b have.0 have.1 left right
binary_met c f of h known k l binary.GreaterEqual a b have left right = both_met c f of h known k l a b have.0 have.1 left right

pub certified_operation : (c : CodeFrame) (f : EmissionFrame) → IsCodeOf c f → (h : Holdings) → HoldsThis f h → (at k : ℕ)
    → IsOwnSlot f k → (o : SilicaOperator) (a b : Operand) (line : ℕ)
    → HaveOperands f.static h o a b → HaveRoom c f 0 (a ∷ b ∷ [])
    → IsCertified c at (operation_code f.scratch k o a b line) (known_of f.scratch h) false (known_of f.scratch (with_slot k (held (Some (kind_of_operator o))) h))
certified_operation c f of h this at k own (Unary o) a b line have room =
    let left = max_parts (slots_of_operand a) (slots_of_operands (b ∷ [])) f.scratch room.low in
    let first = le-max_left (scratch_slots 0 a.place) (all_scratch_slots 1 (b ∷ [])) in
    let whole = room.room in
    let none : max (scratch_slots 0 a.place) 0 ≤ max (scratch_slots 0 a.place) (all_scratch_slots 1 (b ∷ [])) = max-le first (omega arith) in
    let after = with_slot k (held (Some (kind_of_unary o))) h in
    loaded_then c f of h after this at (a ∷ []) (is.Op k (unary_code o) (slot_read f.scratch 0 a.place) (slot_read f.scratch 0 a.place) line ∷ []) false
    (one_room c f a room.places.0 left.0 (omega arith))
    (λ known knows. one_then c f of after (at + length (loads f.scratch 0 (a ∷ []))) (is.Op k (unary_code o) (slot_read f.scratch 0 a.place) (slot_read f.scratch 0 a.place) line) known (refl, λ i. refl)
    (sound_op c f of known k (unary_code o) (slot_read f.scratch 0 a.place) (slot_read f.scratch 0 a.place) line own knows.read.0.within knows.read.0.within
    (unary_met c known o (slot_read f.scratch 0 a.place) (operand_met c f of h known (slot_read f.scratch 0 a.place) (kind_of_unary o) a have.0 knows.read.0)))
    (set_fits c f.scratch k h (Some (kind_of_unary o)) (Some (kind_given (unary_code o))) known knows.below (same_given c (Some (kind_given (unary_code o))) (Some (kind_of_unary o)) (unary_given o))))
certified_operation c f of h this at k own (Binary o) a b line have room =
    let after = with_slot k (held (Some (kind_of_binary o))) h in
    loaded_then c f of h after this at (a ∷ b ∷ []) (is.Op k (binary_code o) (slot_read f.scratch 0 a.place) (slot_read f.scratch 1 b.place) line ∷ []) false room
    (λ known knows. one_then c f of after (at + length (loads f.scratch 0 (a ∷ b ∷ []))) (is.Op k (binary_code o) (slot_read f.scratch 0 a.place) (slot_read f.scratch 1 b.place) line) known (refl, λ i. refl)
    (sound_op c f of known k (binary_code o) (slot_read f.scratch 0 a.place) (slot_read f.scratch 1 b.place) line own knows.read.0.within knows.read.1.0.within
    (binary_met c f of h known (slot_read f.scratch 0 a.place) (slot_read f.scratch 1 b.place) o a b have knows.read.0 knows.read.1.0))
    (set_fits c f.scratch k h (Some (kind_of_binary o)) (Some (kind_given (binary_code o))) known knows.below (same_given c (Some (kind_given (binary_code o))) (Some (kind_of_binary o)) (binary_given o))))

-- Copies and moves.

sound_copy : (c : CodeFrame) (f : EmissionFrame) → IsCodeOf c f → (known : KindsOfSlots) (k a : ℕ) (x : Kind) → IsOwnSlot f k
    → a < c.body.slots → known a ≡ Some x → IsSound c known (is.Copy k a)
sound_copy c f of known k a x own below e = record {
  slots = good_slots c (is.Copy k a) (one_read c a below) (may_set_own c f of k own);
  fields = refl;
  calls = refl;
  met = one_needed c known (any_value a) (value_met c known a x e);
}

-- a slot gets the value of a place; the holdings then say of it a kind that it serves as
pub certified_fetch : (c : CodeFrame) (f : EmissionFrame) → IsCodeOf c f → (h : Holdings) → HoldsThis f h → (at k : ℕ)
    → IsOwnSlot f k → (place : Place) (x : Kind) (left : Option Kind)
    → IsPlace f.static place → slots_of_place place ≤ f.scratch → kind_of_place f.static h place ≡ Some x
    → ((y : Kind) → left ≡ Some y → Serves c.image x y)
    → IsCertified c at (fetch_code k place ∷ []) (known_of f.scratch h) false (known_of f.scratch (with_slot k (held left) h))
certified_fetch c f of h this at k own This x left there low e serves =
    let zero : known_of f.scratch h 0 ≡ Some x = knows_itself f.scratch h 0 of.first ∙ this ∙ e in
    one_then c f of (with_slot k (held left) h) at (is.Copy k 0) (known_of f.scratch h) (refl, λ i. refl)
    (sound_copy c f of (known_of f.scratch h) k 0 x own (let a = of.first in let b = of.within in omega arith) zero)
    (set_fits c f.scratch k h left (known_of f.scratch h 0) (known_of f.scratch h) (knows_itself f.scratch h) (λ y g. (x, zero, serves y g)))
certified_fetch c f of h this at k own (Slot a) x left there low e serves =
    let lt : a < f.scratch = omega arith in
    let same : known_of f.scratch h a ≡ Some x = knows_itself f.scratch h a lt ∙ e in
    one_then c f of (with_slot k (held left) h) at (is.Copy k a) (known_of f.scratch h) (refl, λ i. refl)
    (sound_copy c f of (known_of f.scratch h) k a x own (let b = of.within in omega arith) same)
    (set_fits c f.scratch k h left (known_of f.scratch h a) (known_of f.scratch h) (knows_itself f.scratch h) (λ y g. (x, same, serves y g)))
certified_fetch c f of h this at k own (FieldPlace id) x left there low e serves =
    let field = is_there (field_at f.static.own id) there in
    let in_image = of.says.field id field.0 field.1 in
    let same : kind_of_field c id.0 ≡ Some x = in_image.kind ∙ sym (ap (option_map (λ (z : Field). kind_of_resolved z.of)) field.1) ∙ e in
    one_then c f of (with_slot k (held left) h) at (is.Load k id) (known_of f.scratch h) (refl, λ i. refl)
    (sound_load c (known_of f.scratch h) k id own.past (slot_within c f of k own) in_image.within)
    (set_fits c f.scratch k h left (kind_of_field c id.0) (known_of f.scratch h) (knows_itself f.scratch h) (λ y g. (x, same, serves y g)))

-- a field gets the value of a slot
sound_store : (c : CodeFrame) (f : EmissionFrame) → IsCodeOf c f
    → (h : Holdings) (known : KindsOfSlots) (id : FieldId) (field : Field) (a : ℕ) (o : Operand)
    → field_at f.static.own id ≡ Some field
    → HasKind f.static h (kind_of_resolved field.of) o → IsReadFrom c f.static h known a o → IsSound c known (is.Store id a)
sound_store c f of h known id field a o there has read =
    let in_image = of.says.field id field there in
    record {
      slots = good_slots c (is.Store id a) (one_read c a read.within) refl;
      fields = rw (lt-ltb id.0 (length c.own.fields) in_image.within) refl;
      calls = refl;
      met = λ m d. one_needed c known (of_kind a (kind_of_resolved field.of)) (operand_met c f of h known a (kind_of_resolved field.of) o has read) m
          (subst (λ z. Contains (need_of a z) m) in_image.kind d);
    }

-- the kind of a field that there is
field_kind : (f : StaticFrame) (h : Holdings) (id : FieldId) (field : Field) (o : Operand) → field_at f.own id ≡ Some field
    → IfSome (kind_of_place f h (FieldPlace id)) (λ x. HasKind f h x o)
    → HasKind f h (kind_of_resolved field.of) o
field_kind f h id field o there has =
    if_there_so (kind_of_place f h (FieldPlace id)) (λ x. HasKind f h x o) (kind_of_resolved field.of) (ap (option_map (λ (z : Field). kind_of_resolved z.of)) there) has

pub certified_store : (c : CodeFrame) (f : EmissionFrame) → IsCodeOf c f → (h : Holdings) → HoldsThis f h
    → (at : ℕ) (id : FieldId) (o : Operand) → IsPlace f.static (FieldPlace id)
    → IfSome (kind_of_place f.static h (FieldPlace id)) (λ x. HasKind f.static h x o) → HaveRoom c f 0 (o ∷ [])
    → IsCertified c at (copy_code f.scratch (FieldPlace id) o) (known_of f.scratch h) false (known_of f.scratch h)
certified_store c f of h this at id o there has room =
    let field = is_there (field_at f.static.own id) there in
    loaded_then c f of h h this at (o ∷ []) (is.Store id (slot_read f.scratch 0 o.place) ∷ []) false room
    (λ known knows. one_then c f of h (at + length (loads f.scratch 0 (o ∷ []))) (is.Store id (slot_read f.scratch 0 o.place)) known (refl, λ i. refl)
    (sound_store c f of h known id field.0 (slot_read f.scratch 0 o.place) o field.1 (field_kind f.static h id field.0 o field.1 has) knows.read.0)
    (below_fits c f.scratch h known knows.below))

-- the object that comes into a field is marked, if the field is declared Shared
pub certified_share_in : (c : CodeFrame) (f : EmissionFrame) → IsCodeOf c f
    → (h : Holdings) (at : ℕ) (known : KindsOfSlots) (id : FieldId) (field : Field) (a : ℕ) (o : Operand)
    → field_at f.static.own id ≡ Some field → HasKind f.static h (kind_of_resolved field.of) o → IsReadFrom c f.static h known a o
    → IsCertified c at (share_in_field f.static.own id a) known false known
certified_share_in c f of h at known id field a o there has read =
    subst (λ z. IsCertified c at z known false known) (sym (ap (λ z. option_map_or (λ (g : Field). share g.of a) z []) there))
    (certified_share c f of at known a field.of (operand_shared c f h known a field.of o has read))

pub certified_store_reference : (c : CodeFrame) (f : EmissionFrame) → IsCodeOf c f → (h : Holdings) → HoldsThis f h
    → (at : ℕ) (id : FieldId) (o : Operand) → IsPlace f.static (FieldPlace id)
    → IfSome (kind_of_place f.static h (FieldPlace id)) (λ x. HasKind f.static h x o) → HaveRoom c f 0 (o ∷ [])
    → IsCertified c at (move_code f.static.own f.scratch (FieldPlace id) o) (known_of f.scratch h) false (known_of f.scratch h)
certified_store_reference c f of h this at id o there has room =
    let field = is_there (field_at f.static.own id) there in
    let a = slot_read f.scratch 0 o.place in
    let serves = field_kind f.static h id field.0 o field.1 has in
    let place = at + length (loads f.scratch 0 (o ∷ [])) in
    regrouped c at (loads f.scratch 0 (o ∷ [])) (share_in_field f.static.own id a) (is.Store id a ∷ []) (known_of f.scratch h) (known_of f.scratch h) false
    (loaded_then c f of h h this at (o ∷ []) (share_in_field f.static.own id a ++ is.Store id a ∷ []) false room
    (λ known knows. certified_both c place (share_in_field f.static.own id a) (is.Store id a ∷ []) known known (known_of f.scratch h) false
    (certified_share_in c f of h place known id field.0 a o field.1 serves knows.read.0)
    (one_then c f of h (place + length (share_in_field f.static.own id a)) (is.Store id a) known (refl, λ i. refl)
    (sound_store c f of h known id field.0 a o field.1 serves knows.read.0) (below_fits c f.scratch h known knows.below))))

-- Disowning and reverting.

pub certified_disown : (c : CodeFrame) (f : EmissionFrame) → IsCodeOf c f → (h : Holdings) → HoldsThis f h
    → (at : ℕ) (o : Operand) → IsReference f.static h o → HaveRoom c f 0 (o ∷ [])
    → IsCertified c at (loads f.scratch 0 (o ∷ []) ++ is.Disown (slot_read f.scratch 0 o.place) ∷ []) (known_of f.scratch h) false (known_of f.scratch h)
certified_disown c f of h this at o has room =
    let a = slot_read f.scratch 0 o.place in
    loaded_then c f of h h this at (o ∷ []) (is.Disown a ∷ []) false room
    (λ known knows. one_then c f of h (at + length (loads f.scratch 0 (o ∷ []))) (is.Disown a) known (refl, λ i. refl)
    (record { slots = good_slots c (is.Disown a) (one_read c a knows.read.0.within) refl; fields = refl; calls = refl; met = one_needed c known (any_reference a) (operand_refers c f h known a o has knows.read.0) })
    (below_fits c f.scratch h known knows.below))

pub certified_revert : (c : CodeFrame) (f : EmissionFrame) → IsCodeOf c f → (h after : Holdings) → HoldsThis f h
    → (at : ℕ) (o : Operand) → HasKind f.static h kind.Text o → HaveRoom c f 0 (o ∷ [])
    → IsCertified c at (loads f.scratch 0 (o ∷ []) ++ is.Revert (slot_read f.scratch 0 o.place) ∷ []) (known_of f.scratch h) true (known_of f.scratch after)
certified_revert c f of h after this at o has room =
    let a = slot_read f.scratch 0 o.place in
    loaded_then c f of h after this at (o ∷ []) (is.Revert a ∷ []) true room
    (λ known knows. certified_last c (at + length (loads f.scratch 0 (o ∷ []))) (is.Revert a) known (known_of f.scratch after) (refl, λ i. refl)
    (record { slots = good_slots c (is.Revert a) (one_read c a knows.read.0.within) refl; fields = refl; calls = refl; met = one_needed c known (of_kind a kind.Text) (operand_met c f of h known a kind.Text o has knows.read.0) }))
