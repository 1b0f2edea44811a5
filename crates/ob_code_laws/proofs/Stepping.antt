-- Where a run of verified code has no next step.
use Rattle.std.proofs.Common.{◌≡◌, ◌≢◌, ℕ, zero, suc, ◌<◌, List, [], ◌∷◌, length, Option, Some, None, Bool, true, false, Contains, slice_get, slice_set, refl, sym, ap, ◌∙◌, subst, ◌⊎◌, inl, inr}
use Rattle.std.specs.Prelude.{if◌then◌else◌, not, ◌&&◌, ◌==◌, nat_lt, nat_le, is_some, find, position, option_map}
use Rattle.std.specs.List.{position_or_len}
use Rattle.std.specs.Option.{option_map_or}
use Rattle.std.proofs.lemmas.Bool.{true≢false, false≢true, cases_eq, cond-true, cond-false, lt-ltb, eq-eqb, ne_eqb, and_parts, not-false}
use Rattle.std.proofs.lemmas.List.Folds.{find_at}
use Rattle.std.proofs.lemmas.Option.{slice_get_within}
use Rattle.ob_base.specs.Optional.{◌>>=◌}
use Rattle.ob_base.specs.Limits.{most_objects}
use Rattle.ob_base.specs.declared.id.ContractId.{ContractId}
use Rattle.ob_base.specs.declared.id.TxId.{TxId}
use Rattle.ob_table.specs.declared.seen.Kind.{Kind}
use Rattle.ob_table.specs.declared.seen.Kind.TheVariants as kind
use Rattle.ob_heap_spec.specs.Values.{Value, reference, Numbered, nothing, put, referred}
use Rattle.ob_heap_spec.specs.Objects.{Object}
use Rattle.ob_heap_spec.specs.Contents.{object_at}
use Rattle.ob_heap_spec.specs.Operations.{Operated, operated, overflows, other_kinds}
use Rattle.ob_heap_spec.specs.Worlds.{World, read_object, with_read, next_item, with_unit_taken}
use Rattle.ob_heap_spec.specs.Marks.{is_in_progress}
use Rattle.ob_code.specs.declared.image.BodyCode.{BodyCode}
use Rattle.ob_code.specs.declared.image.ContractCode.{ContractCode}
use Rattle.ob_code.specs.declared.image.Image.{Image}
use Rattle.ob_code.specs.declared.instruction.Instruction.{Instruction}
use Rattle.ob_code.specs.declared.instruction.Instruction.TheVariants as is
use Rattle.ob_code.specs.Code.{contract_code, body_code, no_result, is_interface, is_constructor, is_transaction_named}
use Rattle.ob_code_table.specs.Images.{constructor_number, transaction_number, CalleeId, answer_of, callee, has_field_code}
use Rattle.ob_machine_steps.specs.Slots.{Slots, value_at, truth_of, text_of, truth_at, text_at, reference_at, values_at, with_value_at}
use Rattle.ob_machine_steps.specs.Configurations.{MachineFrame, Configuration, Next}
use Rattle.ob_machine_steps.specs.Parts.{with_world, sets, this_object, with_units, with_unit}
use Rattle.ob_machine_steps.specs.Straight.{operation, with_operated}
use Rattle.ob_machine_steps.specs.Changing.{GivenSlots, given_values, are_available, is_locked_out}
use Rattle.ob_machine_steps.specs.Testing.{branches, is_barred, lock_of, ends_test}
use Rattle.ob_machine_steps.specs.Calling.{Caller, caller, answers, calls_object, call_step, makes_object}
use Rattle.ob_machine_steps.specs.Returning.{given_by, with_result, resumes, returns, world_left}
use Rattle.ob_machine_steps.specs.Steps.{act, next_instruction, step_of}
use Rattle.ob_verify_spec.specs.Kinds.{implements_number as implements_it, fits_contract}
use Rattle.ob_verify_spec.specs.Frames.{kinds_of_params, kind_of_result}
use Rattle.ob_verify_spec.specs.Instructions.{reads, slot_set, slot_of_result, of_kind, any_reference, needs_of_args, needs_of_receiver, needs}
use Rattle.ob_verify_spec.specs.Conditions.{takes, is_answered, has_answer, answers_for, bad_call}
use Rattle.ob_verify_spec.specs.Conditions as conditions
use Rattle.ob_verify_spec.specs.Ways.{IsAt}
use Rattle.ob_verify_spec.specs.Laws.{HasBody}
use Rattle.ob_verify_spec.proofs.Cells.{some_same, none_some}
use Rattle.ob_verify_spec.proofs.Listed.{head, behind}
use Rattle.ob_code_laws.specs.Kinds.{NamesObject, IsOfKind, IsResultOf, HasFieldsOfKinds, HaveFieldsOfKinds, IsObjectOf, IsSet, Holds, HoldsReference}
use Rattle.ob_code_laws.specs.Keeping.{kind_given}
use Rattle.ob_code_laws.specs.Stepping.{LacksStep}
use Rattle.ob_code_laws.proofs.Basics.{passes_some}
use Rattle.ob_code_laws.proofs.Worlds.{read_objects}
use Rattle.ob_code_laws.proofs.Fitting.{fits_cases}
use Rattle.ob_code_laws.proofs.Frames.{IsSound, code, Wait, IsRunning, need_met}
use Rattle.ob_code_laws.proofs.Changing.{named_well}
use Rattle.ob_code_laws.proofs.Calling.{body_there, body_found, number_of, Called, called, answer_there, referring}
use Rattle.ob_code_laws.proofs.Returning.{gives_of, no_kind, some_kind}
use Rattle.ob_code_laws.proofs.Covering.{Speaks, reads_needed, met_set}
use Rattle.ob_code_laws.proofs.Operating.{bool_of, bytes_of, Operates, Comes, operation_comes}

-- there is a step, or a cause why there is none
abbrev Steps : Type 0 → Option Next → Type 0
Steps cause None = cause
Steps cause (Some next) = Unit {0}

there_steps : (L : Type 0) {A : Type 0} (o : Option A) (f : A → Option Next) (a : A) → o ≡ Some a → Steps L (f a) → Steps L (o >>= f)
there_steps L o f a e h = subst (λ z. Steps L (z >>= f)) (sym e) h

if_steps : (L : Type 0) (b : Bool) (x y : Option Next) → (b ≡ true → Steps L x) → (b ≡ false → Steps L y) → Steps L (if b then x else y)
if_steps L true x y h k = h refl
if_steps L false x y h k = k refl

units_step : (L : Type 0) (n : ℕ) (w : World) (go : World → Option Next) → ((v : World) → v.objects ≡ w.objects → Steps L (go v)) → Steps L (with_units n w go)
units_step L zero w go h = tt
units_step L (suc n) w go h = h (with_unit_taken w n) refl

unit_steps : (L : Type 0) (w : World) (go : World → Option Next) → ((v : World) → v.objects ≡ w.objects → Steps L (go v)) → Steps L (with_unit w go)
unit_steps L w go h = units_step L w.fuel w go h

-- Slots.

-- each slot that an instruction reads is set
slot_is_set : (image : Image) → IsSound image → (out : Option Kind) (c : Configuration) (g : IsRunning image out c) (x : Instruction) → IsAt (code image c.world.objects c.top g.top.frame) c.top.at x
    → (k : ℕ) → Contains (reads x) k → IsSet c.top.slots k
slot_is_set image s out c g x at k read =
    let n : Speaks (needs (code image c.world.objects c.top g.top.frame) x) k = reads_needed (code image c.world.objects c.top g.top.frame) c.top.at x (g.top.frame.keeps.goes c.top.at x at) k read in
    met_set image c.world.objects c.top.slots n.need k (need_met image s out c g x at n.need n.among) n.of

setting : (slots : Slots) (k : ℕ) (v : Value) → k < length slots → with_value_at slots k v ≡ Some (slice_set slots k (Some v))
setting slots k v lt = cond-true (nat_lt k (length slots)) (Some (slice_set slots k (Some v))) None (lt-ltb k (length slots) lt)

set_steps : (image : Image) (out : Option Kind) (c : Configuration) (g : IsRunning image out c) (x : Instruction) → IsAt (code image c.world.objects c.top g.top.frame) c.top.at x
    → (L : Type 0) (k : ℕ) (v : Value) → slot_set x ≡ Some k → Steps L (sets k v c)
set_steps image out c g x at L k v slot =
    let lt : k < length c.top.slots = subst (λ z. k < z) (sym g.top.frame.count) (g.top.frame.keeps.sets_within c.top.at k x at slot).1 in
    there_steps L (with_value_at c.top.slots k v) _ (slice_set c.top.slots k (Some v)) (setting c.top.slots k v lt) tt

all_there : (slots : Slots) (args : List ℕ) → ((k : ℕ) → Contains args k → IsSet slots k) → (vs : List Value) × (values_at slots args ≡ Some vs)
all_there slots [] set = ([], refl)
all_there slots (a ∷ args) set =
    let first : IsSet slots a = set a (head a args) in
    let rest = all_there slots args (λ k c. set k (behind a k args c)) in (
      first.value ∷ rest.0,
      ap (λ (z : Option Value). z >>= λ v. values_at slots args >>= λ vs. Some (v ∷ vs)) first.there ∙ ap
          (λ (z : Option (List Value)). z >>= λ vs. Some (first.value ∷ vs)) rest.1,
    )

given_there : (slots : Slots) (gs : GivenSlots) (before : Numbered Value) → ((k : ℕ) → Contains (reads (is.Change (record { 0 = 0 }) gs)) k → IsSet slots k)
    → (got : Numbered Value) × (given_values slots gs before ≡ Some got)
given_there slots [] before set = (before, refl)
given_there slots (g ∷ gs) before set =
    let first : IsSet slots g.1 = set g.1 (head g.1 (reads (is.Change (record { 0 = 0 }) gs))) in
    let rest = given_there slots gs (put before g.0.0 first.value) (λ k c. set k (behind g.1 k (reads (is.Change (record { 0 = 0 }) gs)) c)) in
    (rest.0, ap (λ (z : Option Value). z >>= λ v. given_values slots gs (put before g.0.0 v)) first.there ∙ rest.1)

-- What `this` is.

-- `this` is there, of a contract that is there
record ThisIs (image : Image) (c : Configuration) (own : ContractCode) : Type 0 where
  object : Object
  there : this_object c ≡ Some object
  of : contract_code image object.contract ≡ Some own

this_is : (image : Image) (out : Option Kind) (c : Configuration) (g : IsRunning image out c) → ThisIs image c g.top.frame.own
this_is image out c g =
    let this : IsObjectOf c.world.objects c.top.contract c.top.this = g.top.frame.this in
    record { object = this.object; there = this.there; of = ap (contract_code image) this.of ∙ g.top.frame.there.contract }

value_cases : (L : Type 0) (o : Option Value) (f : Value → Option Next) → (o ≡ None → L) → ((v : Value) → Steps L (f v)) → Steps L (o >>= f)
value_cases L None f h k = h refl
value_cases L (Some v) f h k = k v

operated_steps : (line : ℕ) (w : World) (x : Operated) (go : Value → Option Next) → Operates x → ((v : Value) → Steps ⊥ (go v)) → Steps ⊥ (with_operated line w x go)
operated_steps line w (operated v) go h k = k v
operated_steps line w overflows go h k = tt
operated_steps line w other_kinds go h k = h

-- References.

-- a slot refers to an object that is there
record Refers (objects : List Object) (slots : Slots) (a : ℕ) : Type 0 where
  number : ℕ
  is : reference_at slots a ≡ Some number
  object : Object
  there : object_at objects number ≡ Some object

refers_any : (objects : List Object) (slots : Slots) (a : ℕ) → HoldsReference objects slots a → Refers objects slots a
refers_any objects slots a h = record { number = h.number; is = ap (λ (z : Option Value). z >>= referred) h.there; object = h.object; there = h.found }

referring_value : (image : Image) (objects : List Object) (slots : Slots) (a : ℕ) (d : ContractId) (v : Value) → value_at slots a ≡ Some v → IsOfKind image objects (kind.Reference d) v
    → Refers objects slots a
referring_value image objects slots a d (reference n) e h = record { number = n; is = ap (λ (z : Option Value). z >>= referred) e; object = h.object; there = h.there }
referring_value image objects slots a d v e h = absurd h

refers_to : (image : Image) (objects : List Object) (slots : Slots) (a : ℕ) (d : ContractId) → Holds image objects slots a (kind.Reference d) → Refers objects slots a
refers_to image objects slots a d h = referring_value image objects slots a d h.value h.there h.kind

branches_step : (t : Option ℕ) (target : ℕ) (c : Configuration) (holds : Bool) → Steps ⊥ (branches t target c holds)
branches_step t target c true = tt
branches_step t target c false = tt

ends_step : (c : Configuration) (ts : List (Option ℕ)) → Steps (ts ≡ []) (ends_test ts c)
ends_step c [] = refl
ends_step c (t ∷ ts) = tt

-- Calls.

found_place : {A : Type 0} (p : A → Bool) (xs : List A) (x : A) → find p xs ≡ Some x → position p xs ≡ Some (position_or_len p xs)
found_place p xs x e =
    let at : slice_get xs (position_or_len p xs) ≡ Some x = sym (find_at p xs) ∙ e in
    cond-true (nat_lt (position_or_len p xs) (length xs)) (Some (position_or_len p xs)) None (lt-ltb (position_or_len p xs) (length xs) (slice_get_within xs (position_or_len p xs) x at))

-- what a call runs is found
callee_if : (image : Image) (c : ContractId) (tx : TxId) (declared own : ContractCode) (asked : BodyCode) (o : Object) (interface : Bool) → HasBody image c declared tx asked
    → is_answered image c asked ≡ true
    → fits_contract image o.contract c ≡ true → is_interface declared ≡ interface → contract_code image o.contract ≡ Some own → is_interface own ≡ false
    → (id : CalleeId) × ((if interface then (slice_get declared.bodies tx.0 >>= answer_of image o) else Some (c, tx)) ≡ Some id)
callee_if image c tx declared own asked o false there answered fits same of contract = ((c, tx), refl)
callee_if image c tx declared own asked o true there answered fits same of contract = elim (fits_cases image o.contract c fits) [
  | inl h ↦ absurd (true≢false (sym same ∙ ap is_interface (some_same (sym there.contract ∙ ap (contract_code image) (sym h) ∙ of)) ∙ contract))
  | inr h ↦
      let imp : implements_it c own ≡ true = subst (λ z. implements_it c z ≡ true) (some_same (sym h.1 ∙ of)) h.2 in
      let has : has_answer asked own ≡ true = answer_there image c asked declared own o.contract there.contract same answered of contract imp in
      let f = passes_some (answers_for asked) (find (is_transaction_named asked.name) own.bodies) has in
      let number : transaction_number own asked.name ≡ Some (record { 0 = position_or_len (is_transaction_named asked.name) own.bodies }) =
      ap (λ (z : Option ℕ). option_map number_of z) (found_place (is_transaction_named asked.name) own.bodies f.0 f.1) in (
        (o.contract, number_of (position_or_len (is_transaction_named asked.name) own.bodies)),
        ap (λ (z : Option BodyCode). z >>= answer_of image o) there.body
            ∙ ap (λ (z : Option ContractCode). z >>= λ (d : ContractCode). transaction_number d asked.name >>= λ tx. Some (o.contract, tx)) of
            ∙ ap (λ (z : Option TxId). z >>= λ tx. Some (o.contract, tx)) number,
      )
]

callee_there : (image : Image) (objects : List Object) → HaveFieldsOfKinds image objects → (c : ContractId) (tx : TxId) (declared : ContractCode) (asked : BodyCode) (n : ℕ) (o : Object)
    → HasBody image c declared tx asked
    → is_answered image c asked ≡ true → object_at objects n ≡ Some o → fits_contract image o.contract c ≡ true → (id : CalleeId) × (callee image c tx o ≡ Some id)
callee_there image objects kinds c tx declared asked n o there answered at fits =
    let kept : HasFieldsOfKinds image objects o = kinds.each n o at in
    let f = callee_if image c tx declared kept.own asked o (is_interface declared) there answered fits refl kept.of kept.contract in
    (f.0, ap (λ (z : Option ContractCode). z >>= λ (d : ContractCode). if is_interface d then (slice_get d.bodies tx.0 >>= answer_of image o) else Some (c, tx)) there.contract ∙ f.1)

object_steps : (image : Image) → IsSound image → (by : Caller) (c : ContractId) (tx : TxId) (declared : ContractCode) (asked : BodyCode) (n : ℕ) (args : List Value) (w : World)
    → HasBody image c declared tx asked
    → is_answered image c asked ≡ true → HaveFieldsOfKinds image w.objects → NamesObject image w.objects c n → Steps ⊥ (calls_object image by c tx n args w)
object_steps image s by c tx declared asked n args w there answered objects names =
    let v = read_object w n in
    let at : object_at v.objects n ≡ Some names.object = ap (λ z. object_at z n) (read_objects w n) ∙ names.there in
    let f = callee_there image w.objects objects c tx declared asked n names.object there answered names.there names.fits in
    let h : Called image w.objects asked n f.0 = called image s w.objects objects c tx declared asked n names.object f.0 there answered names.there names.fits f.1 in
    if_steps ⊥ (is_in_progress v n) _ _ (λ e. tt) (λ e. there_steps ⊥ (object_at v.objects n) _ names.object at (there_steps ⊥ (callee image c tx names.object) (answers image by n args v) f.0 f.1
    (there_steps ⊥ (body_code image f.0.0 f.0.1) _ h.body (body_found image f.0.0 h.own f.0.1 h.body h.there) tt)))

made_steps : (image : Image) (by : Caller) (c : ContractId) (own : ContractCode) (b : BodyCode) (args : List Value) (w : World) → contract_code image c ≡ Some own
    → find is_constructor own.bodies ≡ Some b
    → Steps ⊥ (makes_object image by c (contract_code image c >>= constructor_number) args w)
made_steps image by c own b args w there first =
    let v = with_read w next_item in
    let n = position_or_len is_constructor own.bodies in
    let number : (contract_code image c >>= constructor_number) ≡ Some (number_of n) =
    ap (λ (z : Option ContractCode). z >>= constructor_number) there ∙ ap (λ (z : Option ℕ). option_map number_of z) (found_place is_constructor own.bodies b first) in
    let body : HasBody image c own (number_of n) b = record { contract = there; body = sym (find_at is_constructor own.bodies) ∙ first } in
    if_steps ⊥ (nat_le most_objects (length v.objects)) _ _ (λ e. tt) (λ e. there_steps ⊥ (contract_code image c >>= constructor_number) _ (number_of n) number
    (there_steps ⊥ (body_code image c (number_of n)) _ b (body_found image c own (number_of n) b body) tt))

-- Returns.

given_to : (slots : Slots) (into : ℕ) (given : Option Kind) (result : Option Value) (image : Image) (objects : List Object) → IsResultOf image objects given result → (into ≢ 255 → into < length slots)
    → (into ≢ 255 → is_some given ≡ true) → (into ≡ 255) ⊎ (into ≢ 255) → (new : Slots) × (with_result slots into result ≡ Some new)
given_to slots into None None image objects r within wanted (inl e) = (slots, cond-true (into == no_result) (Some slots) None (eq-eqb into no_result e))
given_to slots into None None image objects r within wanted (inr ne) = absurd (false≢true (wanted ne))
given_to slots into (Some x) (Some v) image objects r within wanted (inl e) = (slots, cond-true (into == no_result) (Some slots) (with_value_at slots into v) (eq-eqb into no_result e))
given_to slots into (Some x) (Some v) image objects r within wanted (inr ne) =
    (slice_set slots into (Some v), cond-false (into == no_result) (Some slots) (with_value_at slots into v) (ne_eqb into no_result ne) ∙ setting slots into v (within ne))
given_to slots into given result image objects r within wanted d = absurd r

resume_steps : (image : Image) (objects : List Object) (out : Option Kind) (fs : List MachineFrame) (given : Option Kind) (into : ℕ) (result : Option Value) (w : World)
    → IsResultOf image objects given result
    → Wait image objects out fs given into → Steps ⊥ (resumes fs into result w)
resume_steps image objects out [] given into result w r wait = tt
resume_steps image objects out (f ∷ fs) given into result w r wait =
    let new = given_to f.slots into given result image objects r (λ ne. subst (λ z. into < z) (sym wait.0.frame.count) (wait.0.within ne)) wait.0.wanted (cases_eq into 255) in
    there_steps ⊥ (with_result f.slots into result) _ new.0 new.1 tt

return_steps : (image : Image) (out : Option Kind) (c : Configuration) (g : IsRunning image out c) (result : Option Value)
    → IsResultOf image c.world.objects (kind_of_result g.top.frame.body) result → Steps ⊥ (returns result c)
return_steps image out c g result r =
    resume_steps image c.world.objects out c.below (kind_given c.top.entered c.top.contract g.top.frame.body) c.top.into (given_by c.top.entered c.top.this result) (world_left c.top c.world)
    (gives_of image c.world.objects c.top.entered c.top.contract c.top.this g.top.frame.body result g.top.frame.this r) g.below

-- the call of an object
call_steps : (image : Image) → IsSound image → (out : Option Kind) (c : Configuration) (g : IsRunning image out c) (k a : ℕ) (contract : ContractId) (tx : TxId) (args : List ℕ)
    → IsAt (code image c.world.objects c.top g.top.frame) c.top.at (is.Call k a contract tx args) → Steps ⊥ (call_step image k a contract tx args c)
call_steps image s out c g k a contract tx args at =
    let x = is.Call k a contract tx args in
    let vs = all_there c.top.slots args (λ j read. slot_is_set image s out c g x at j (behind a j args read)) in
    let well = not-false (option_map_or (λ (b : BodyCode). takes (length args) (slot_of_result k) b && is_answered image contract b) (body_code image contract tx) false)
    (named_well (code image c.world.objects c.top g.top.frame) c.top.at x (g.top.frame.keeps.goes c.top.at x at)).1 in
    let f = passes_some (λ (b : BodyCode). takes (length args) (slot_of_result k) b && is_answered image contract b) (body_code image contract tx) well in
    let p = and_parts (takes (length args) (slot_of_result k) f.0) (is_answered image contract f.0) f.2 in
    let there = body_there image contract tx f.0 f.1 in
    let holds : Holds image c.world.objects c.top.slots a (kind.Reference contract) =
    need_met image s out c g x at (of_kind a (kind.Reference contract))
    (subst (λ z. Contains (needs_of_receiver a (kind.Reference contract) args z) (of_kind a (kind.Reference contract))) (sym f.1)
    (head (of_kind a (kind.Reference contract)) (needs_of_args args (kinds_of_params f.0)))) in
    let r : Refers c.world.objects c.top.slots a = refers_to image c.world.objects c.top.slots a contract holds in
    let names : NamesObject image c.world.objects contract r.number = referring image c.world.objects c.top.slots a contract r.number holds r.is in
    there_steps ⊥ (reference_at c.top.slots a) _ r.number r.is (there_steps ⊥ (values_at c.top.slots args) _ vs.0 vs.1 (unit_steps ⊥ c.world _ (λ v e.
    object_steps image s (caller c k) contract tx there.0 f.0 r.number vs.0 v there.1 p.1 (subst (HaveFieldsOfKinds image) (sym e) g.objects)
    (subst (λ z. NamesObject image z contract r.number) (sym e) names))))

-- Instructions.

act_steps : (image : Image) → IsSound image → (out : Option Kind) (c : Configuration) (g : IsRunning image out c) (x : Instruction) → IsAt (code image c.world.objects c.top g.top.frame) c.top.at x
    → Steps (LacksStep image c x) (act image x c)
act_steps image s out c g is.Unit at = unit_steps ⊥ c.world _ (λ v e. tt)
act_steps image s out c g (is.Int k z) at = set_steps image out c g (is.Int k z) at ⊥ k _ refl
act_steps image s out c g (is.Bool k b) at = set_steps image out c g (is.Bool k b) at ⊥ k _ refl
act_steps image s out c g (is.Text k bytes) at = set_steps image out c g (is.Text k bytes) at ⊥ k _ refl
act_steps image s out c g (is.Copy k a) at =
    let v : IsSet c.top.slots a = slot_is_set image s out c g (is.Copy k a) at a (head a []) in
    there_steps ⊥ (value_at c.top.slots a) _ v.value v.there (set_steps image out c g (is.Copy k a) at ⊥ k v.value refl)
act_steps image s out c g (is.Load k field) at =
    let t : ThisIs image c g.top.frame.own = this_is image out c g in
    there_steps (LacksStep image c (is.Load k field)) (this_object c) _ t.object t.there
    (value_cases (LacksStep image c (is.Load k field)) (t.object.fields field.0) _ (λ e. record { object = t.object; there = t.there; none = e })
    (λ v. set_steps image out c g (is.Load k field) at (LacksStep image c (is.Load k field)) k v refl))
act_steps image s out c g (is.Store field a) at =
    let L = LacksStep image c (is.Store field a) in
    let v : IsSet c.top.slots a = slot_is_set image s out c g (is.Store field a) at a (head a []) in
    let t : ThisIs image c g.top.frame.own = this_is image out c g in
    there_steps L (value_at c.top.slots a) _ v.value v.there (there_steps L (this_object c) _ t.object t.there (there_steps L (contract_code image t.object.contract) _ g.top.frame.own t.of
    (if_steps L (has_field_code g.top.frame.own t.object.state field.0) _ None (λ e. tt) (λ e. record { object = t.object; there = t.there; own = g.top.frame.own; of = t.of; lacks = e }))))
act_steps image s out c g (is.Op k o a b line) at =
    let x : Comes (operation o c.top.slots a b) = operation_comes image c.world.objects c.top.slots o a b (need_met image s out c g (is.Op k o a b line) at) in
    there_steps ⊥ (operation o c.top.slots a b) _ x.to x.is (operated_steps line c.world x.to _ x.operates (λ v. set_steps image out c g (is.Op k o a b line) at ⊥ k v refl))
act_steps image s out c g (is.Jump t) at = tt
act_steps image s out c g (is.Unless a t) at =
    let h : Holds image c.world.objects c.top.slots a kind.Bool = need_met image s out c g (is.Unless a t) at (of_kind a kind.Bool) (head (of_kind a kind.Bool) []) in
    let b = bool_of image c.world.objects h.value h.kind in
    there_steps ⊥ (truth_at c.top.slots a) _ b.0 (ap (λ (z : Option Value). z >>= truth_of) (h.there ∙ ap Some b.1)) (if_steps ⊥ b.0 _ _ (λ e. tt) (λ e. tt))
act_steps image s out c g (is.Test a d state t) at =
    let r : Refers c.world.objects c.top.slots a = refers_to image c.world.objects c.top.slots a d
    (need_met image s out c g (is.Test a d state t) at (of_kind a (kind.Reference d)) (head (of_kind a (kind.Reference d)) [])) in
    let w = with_world (read_object c.world r.number) c in
    there_steps ⊥ (reference_at c.top.slots a) _ r.number r.is (there_steps ⊥ (object_at c.world.objects r.number) _ r.object r.there
    (if_steps ⊥ (a == 0) _ _ (λ e. if_steps ⊥ (is_locked_out w r.number) _ _ (λ e. tt) (λ e. branches_step None t w _))
    (λ e. if_steps ⊥ (is_barred w.world r.number r.object) _ _ (λ e. tt) (λ e. branches_step (lock_of r.number r.object) t w _))))
act_steps image s out c g is.EndTest at = ends_step c c.top.tests
act_steps image s out c g (is.Change state given) at =
    let L = LacksStep image c (is.Change state given) in
    let got = given_there c.top.slots given nothing (λ k read. slot_is_set image s out c g (is.Change state given) at k read) in
    let t : ThisIs image c g.top.frame.own = this_is image out c g in
    there_steps L (contract_code image c.top.contract) _ g.top.frame.own g.top.frame.there.contract (there_steps L (given_values c.top.slots given nothing) _ got.0 got.1
    (if_steps L (is_locked_out c c.top.this) _ _ (λ e. tt) (λ e. there_steps L (this_object c) _ t.object t.there
    (if_steps L (are_available g.top.frame.own state given) _ None (λ e. tt) (λ e. record { own = g.top.frame.own; of = g.top.frame.there.contract; lacks = e })))))
act_steps image s out c g (is.New k contract args) at =
    let vs = all_there c.top.slots args (λ j read. slot_is_set image s out c g (is.New k contract args) at j read) in
    let well = not-false (option_map_or (conditions.constructs (length args)) (contract_code image contract) false)
    (named_well (code image c.world.objects c.top g.top.frame) c.top.at (is.New k contract args) (g.top.frame.keeps.goes c.top.at (is.New k contract args) at)).1 in
    let f = passes_some (conditions.constructs (length args)) (contract_code image contract) well in
    let p = and_parts (not (is_interface f.0)) (option_map_or (λ (b : BodyCode). length args == length b.params) (find is_constructor f.0.bodies) false) f.2 in
    let b = passes_some (λ (b : BodyCode). length args == length b.params) (find is_constructor f.0.bodies) p.1 in
    there_steps ⊥ (values_at c.top.slots args) _ vs.0 vs.1 (unit_steps ⊥ c.world _ (λ v e. made_steps image (caller c k) contract f.0 b.0 vs.0 v f.1 b.1))
act_steps image s out c g (is.Call k a contract tx args) at = call_steps image s out c g k a contract tx args at
act_steps image s out c g (is.SelfCall k tx args) at =
    let vs = all_there c.top.slots args (λ j read. slot_is_set image s out c g (is.SelfCall k tx args) at j read) in
    let own = g.top.frame.own in
    let well = not-false (option_map_or (takes (length args) (slot_of_result k)) (slice_get own.bodies tx.0) false)
    (named_well (code image c.world.objects c.top g.top.frame) c.top.at (is.SelfCall k tx args) (g.top.frame.keeps.goes c.top.at (is.SelfCall k tx args) at)).1 in
    let f = passes_some (takes (length args) (slot_of_result k)) (slice_get own.bodies tx.0) well in
    there_steps ⊥ (values_at c.top.slots args) _ vs.0 vs.1 (unit_steps ⊥ c.world _ (λ v e. there_steps ⊥ (body_code image c.top.contract tx) _ f.0
    (body_found image c.top.contract own tx f.0 (record { contract = g.top.frame.there.contract; body = f.1 })) tt))
act_steps image s out c g (is.Share a) at =
    let r : Refers c.world.objects c.top.slots a = refers_any c.world.objects c.top.slots a (need_met image s out c g (is.Share a) at (any_reference a) (head (any_reference a) [])) in
    there_steps ⊥ (reference_at c.top.slots a) _ r.number r.is (there_steps ⊥ (object_at c.world.objects r.number) _ r.object r.there tt)
act_steps image s out c g (is.Disown a) at =
    let r : Refers c.world.objects c.top.slots a = refers_any c.world.objects c.top.slots a (need_met image s out c g (is.Disown a) at (any_reference a) (head (any_reference a) [])) in
    there_steps ⊥ (reference_at c.top.slots a) _ r.number r.is (there_steps ⊥ (object_at c.world.objects r.number) _ r.object r.there tt)
act_steps image s out c g is.Ret at =
    let none = (named_well (code image c.world.objects c.top g.top.frame) c.top.at is.Ret (g.top.frame.keeps.goes c.top.at is.Ret at)).1 in
    return_steps image out c g None (no_kind image c.world.objects g.top.frame.body.result none)
act_steps image s out c g (is.RetValue a) at =
    let v : IsSet c.top.slots a = slot_is_set image s out c g (is.RetValue a) at a (head a []) in
    let some = not-false (is_some g.top.frame.body.result)
    (named_well (code image c.world.objects c.top g.top.frame) c.top.at (is.RetValue a) (g.top.frame.keeps.goes c.top.at (is.RetValue a) at)).1 in
    there_steps ⊥ (value_at c.top.slots a) _ v.value v.there
    (return_steps image out c g (Some v.value) (some_kind image c a g.top.frame.body.result v.value some (need_met image s out c g (is.RetValue a) at) v.there))
act_steps image s out c g (is.Revert a) at =
    let h : Holds image c.world.objects c.top.slots a kind.Text = need_met image s out c g (is.Revert a) at (of_kind a kind.Text) (head (of_kind a kind.Text) []) in
    let b = bytes_of image c.world.objects h.value h.kind in
    there_steps ⊥ (text_at c.top.slots a) _ b.0 (ap (λ (z : Option Value). z >>= text_of) (h.there ∙ ap Some b.1)) tt

lacks : (L : Type 0) (o : Option Next) → Steps L o → o ≡ None → L
lacks L None h e = h
lacks L (Some next) h e = absurd (none_some (sym e))

-- where there is no step, there is a cause
pub lacks_step : (image : Image) → IsSound image → (out : Option Kind) (c : Configuration) (g : IsRunning image out c) (x : Instruction)
    → IsAt (code image c.world.objects c.top g.top.frame) c.top.at x
    → next_instruction image c ≡ Some x → step_of image c ≡ None → LacksStep image c x
lacks_step image s out c g x at next none =
    lacks (LacksStep image c x) (step_of image c) (there_steps (LacksStep image c x) (next_instruction image c) _ x next (act_steps image s out c g x at)) none
