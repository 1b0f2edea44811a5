-- A body that begins holds in its slots what its entry says.
use Rattle.std.proofs.Common.{◌≡◌, ℕ, zero, suc, ◌+◌, ◌-◌, ◌≤◌, List, [], ◌∷◌, ◌++◌, length, map, replicate, Option, Some, None, Bool, true, false, Contains, slice_get, refl, sym, ap, ◌∙◌, subst, arith}
use Rattle.std.proofs.lemmas.Bool.{or_parts, or_left, eq-eqb, ltb-false}
use Rattle.std.proofs.lemmas.List.{length-map}
use Rattle.ob_base.specs.declared.id.ContractId.{ContractId}
use Rattle.ob_base.specs.Optional.{◌>>=◌}
use Rattle.ob_table.specs.declared.seen.Kind.{Kind}
use Rattle.ob_table.specs.declared.seen.Kind.TheVariants as kind
use Rattle.ob_heap_spec.specs.Values.{Value, reference}
use Rattle.ob_heap_spec.specs.Objects.{Object}
use Rattle.ob_heap_spec.specs.Worlds.{World}
use Rattle.ob_code.specs.declared.image.BodyCode.{BodyCode}
use Rattle.ob_code.specs.declared.image.ContractCode.{ContractCode}
use Rattle.ob_code.specs.declared.image.Image.{Image}
use Rattle.ob_code.specs.declared.instruction.Instruction.{Instruction}
use Rattle.ob_code_table.specs.Images.{CalleeId}
use Rattle.ob_machine_steps.specs.Slots.{Slots, value_at, values_at}
use Rattle.ob_machine_steps.specs.Configurations.{Entered}
use Rattle.ob_machine_steps.specs.Calling.{Caller, begun}
use Rattle.ob_code.specs.Code.{is_interface}
use Rattle.ob_verify_spec.specs.Kinds.{kind_of_param, fits_contract}
use Rattle.ob_verify_spec.specs.Frames.{CodeFrame, kinds_of_params}
use Rattle.ob_verify_spec.specs.Instructions.{Need, of_kind, needs_of_args}
use Rattle.ob_verify_spec.specs.Conditions.{lacks_slots, names_bad_slot, may_go_on}
use Rattle.ob_verify_spec.specs.Ways.{at_entry}
use Rattle.ob_verify_spec.specs.Verified.{IsVerifiedBody}
use Rattle.ob_verify_spec.specs.Running.{AreKnownAt, KeepsKinds}
use Rattle.ob_verify_spec.specs.Laws.{frame_of, HasBody}
use Rattle.ob_verify_spec.proofs.Cells.{some_same, none_some}
use Rattle.ob_verify_spec.proofs.Listed.{head, behind}
use Rattle.ob_verify_spec.proofs.Naming.{goes_slot}
use Rattle.ob_verify_spec.proofs.Images.{has_verified_bodies}
use Rattle.ob_verify_spec.proofs.Running.{verified_keep}
use Rattle.ob_code_laws.specs.Kinds.{NamesObject, IsOfKind, AreOfKinds, Holds, AreMet, IsObjectOf, HaveFieldsOfKinds}
use Rattle.ob_code_laws.specs.Keeping.{kind_given}
use Rattle.ob_code_laws.proofs.Basics.{then_some, filled-length}
use Rattle.ob_code_laws.proofs.Fitting.{hold_less}
use Rattle.ob_code_laws.proofs.Frames.{IsSound, IsRunning, Wait}

-- The values of arguments.

args_no : {A : Type 0} (x : A) (xs : List A) → 0 ≡ length (x ∷ xs) → ⊥
args_no x xs e = omega arith

-- arguments that meet their needs are of the parameters' kinds
pub args_of : (image : Image) (objects : List Object) (slots : Slots) (args : List ℕ) (xs : List Kind) (vs : List Value) → length args ≡ length xs
    → ((n : Need) → Contains (needs_of_args args xs) n → AreMet image objects slots n) → values_at slots args ≡ Some vs → AreOfKinds image objects xs vs
args_of image objects slots [] [] vs same met e = subst (AreOfKinds image objects []) (some_same e) tt
args_of image objects slots [] (x ∷ xs) vs same met e = absurd (args_no x xs same)
args_of image objects slots (a ∷ args) [] vs same met e = absurd (args_no a args (sym same))
args_of image objects slots (a ∷ args) (x ∷ xs) vs same met e =
    let f = then_some (value_at slots a) (λ v. values_at slots args >>= λ ws. Some (v ∷ ws)) vs e in
    let s = then_some (values_at slots args) (λ ws. Some (f.0 ∷ ws)) vs f.2 in
    let h : Holds image objects slots a x = met (of_kind a x) (head (of_kind a x) (needs_of_args args xs)) in
    let first : IsOfKind image objects x f.0 = subst (IsOfKind image objects x) (some_same (sym h.there ∙ f.1)) h.kind in
    let count : length args ≡ length xs = omega (arith, same) in
    let rest : AreOfKinds image objects xs s.0 = args_of image objects slots args xs s.0 count (λ n c. met n (behind (of_kind a x) n (needs_of_args args xs) c)) s.1 in
    subst (AreOfKinds image objects (x ∷ xs)) (some_same s.2) (first, rest)

pub args_count : (image : Image) (objects : List Object) (xs : List Kind) (vs : List Value) → AreOfKinds image objects xs vs → length vs ≡ length xs
args_count image objects [] [] h = refl
args_count image objects (x ∷ xs) (v ∷ vs) h = ap suc (args_count image objects xs vs h.1)
args_count image objects xs vs h = absurd h

-- The first slots.

shifted : (image : Image) (objects : List Object) (slots : Slots) (v : Option Value) (k : ℕ) (x : Kind) → Holds image objects slots k x → Holds image objects (v ∷ slots) (suc k) x
shifted image objects slots v k x h = record { value = h.value; there = h.there; kind = h.kind }

args_held : (image : Image) (objects : List Object) (rest : Slots) (xs : List Kind) (vs : List Value) (k : ℕ) (x : Kind) → AreOfKinds image objects xs vs → slice_get xs k ≡ Some x
    → Holds image objects (map (λ (v : Value). Some v) vs ++ rest) k x
args_held image objects rest [] vs k x h e = absurd (none_some e)
args_held image objects rest (y ∷ xs) [] k x h e = absurd h
args_held image objects rest (y ∷ xs) (v ∷ vs) zero x h e = record { value = v; there = refl; kind = subst (λ z. IsOfKind image objects z v) (some_same e) h.0 }
args_held image objects rest (y ∷ xs) (v ∷ vs) (suc k) x h e =
    shifted image objects (map (λ (v : Value). Some v) vs ++ rest) (Some v) k x (args_held image objects rest xs vs k x h.1 e)

pub fits_self : (image : Image) (c : ContractId) → fits_contract image c c ≡ true
fits_self image c = or_left _ _ (eq-eqb c.0 c.0 refl)

pub names_own : (image : Image) (objects : List Object) (c : ContractId) (n : ℕ) → IsObjectOf objects c n → NamesObject image objects c n
names_own image objects c n h = record { object = h.object; there = h.there; fits = ap (λ z. fits_contract image z c) h.of ∙ fits_self image c }

entry_held : (image : Image) (objects : List Object) (rest : Slots) (c : ContractId) (this : ℕ) (xs : List Kind) (vs : List Value) (k : ℕ) (x : Kind) → IsObjectOf objects c this
    → AreOfKinds image objects xs vs
    → slice_get (kind.Reference c ∷ xs) k ≡ Some x → Holds image objects (Some (reference this) ∷ (map (λ (v : Value). Some v) vs ++ rest)) k x
entry_held image objects rest c this xs vs zero x h args e =
    record { value = reference this; there = refl; kind = subst (λ z. IsOfKind image objects z (reference this)) (some_same e) (names_own image objects c this h) }
entry_held image objects rest c this xs vs (suc k) x h args e =
    shifted image objects (map (λ (v : Value). Some v) vs ++ rest) (Some (reference this)) k x (args_held image objects rest xs vs k x args e)

-- a body has slots for `this` and its parameters
slots_enough : (f : CodeFrame) (x : Instruction) → may_go_on f 0 x ≡ true → length f.body.params + 1 ≤ f.body.slots
slots_enough f x e =
    let lacks : lacks_slots f 0 ≡ false = (or_parts (lacks_slots f 0) (names_bad_slot f x) (goes_slot f 0 x e)).0 in
    ltb-false f.body.slots (length f.body.params + 1) lacks

set_count : (this : ℕ) (vs : List Value) (xs : List Kind) (n m : ℕ) → length vs ≡ length xs → length xs ≡ m → m + 1 ≤ n → length (Some (reference this) ∷ map (λ (v : Value). Some v) vs) ≤ n
set_count this vs xs n m e g le = let same : length (map (λ (v : Value). Some v) vs) ≡ length vs = length-map vs (λ (v : Value). Some v) in omega (arith, same, e, g, le)

-- a body begins on an object of its contract with arguments of its parameters' kinds
pub begun_good : (image : Image) → IsSound image
    → (out : Option Kind) (by : Caller) (id : CalleeId) (own : ContractCode) (b : BodyCode) (this : ℕ) (args : List Value) (entered : Entered) (share : Bool) (w : World)
    → HasBody image id.0 own id.1 b → is_interface own ≡ false → HaveFieldsOfKinds image w.objects → IsObjectOf w.objects id.0 this → AreOfKinds image w.objects (kinds_of_params b) args
    → Wait image w.objects out by.frames (kind_given entered id.0 b) by.into → IsRunning image out (begun by id b this args entered share w)
begun_good image s out by id own b this args entered share w there contract objects at kinds wait =
    let f : CodeFrame = frame_of image id.0 own b in
    let v : IsVerifiedBody f = has_verified_bodies image s.verified id.0 own id.1 b there contract in
    let keeps : KeepsKinds f v.kinds = verified_keep f v in
    let a : AreKnownAt f v.kinds 0 (at_entry f) = keeps.enters in
    let x = keeps.stays 0 a.known a.there in
    let enough = slots_enough f x.0 (keeps.goes 0 x.0 x.1) in
    let set = Some (reference this) ∷ map (λ (z : Value). Some z) args in
    record {
      implements = s.implements;
      objects = objects;
      top = record {
        frame = record {
          own = own;
          body = b;
          there = there;
          contract = contract;
          kinds = v.kinds;
          keeps = keeps;
          count = filled-length set None b.slots
              (set_count this args (kinds_of_params b) b.slots (length b.params) (args_count image w.objects (kinds_of_params b) args kinds) (length-map b.params kind_of_param) enough);
          this = at;
          first = refl;
        };
        known = a.known;
        there = a.there;
        holds = hold_less image s.implements w.objects b.slots (at_entry f) a.known _ a.held
            (λ k y lt e. entry_held image w.objects (replicate (b.slots - length set) None) id.0 this (kinds_of_params b) args k y at kinds e);
      };
      below = wait;
    }
