-- Instructions that call a transaction or make an object.
use Rattle.std.proofs.Common.{◌≡◌, ◌≢◌, ℕ, ◌+◌, ◌<◌, ◌≤◌, List, [], ◌∷◌, length, Option, Some, None, Bool, true, false, Contains, slice_get, refl, sym, ap, ◌∙◌, subst, arith, inl, inr}
use Rattle.std.specs.Prelude.{if◌then◌else◌, not, ◌&&◌, ◌||◌, ◌==◌, nat_le, is_some, find, position, option_map}
use Rattle.std.specs.List.{list_all}
use Rattle.std.specs.Option.{option_and_then, option_map_or}
use Rattle.std.proofs.lemmas.Bool.{cond-false, true≢false, false≢true, and_parts, or_cases, not-true, not-false, eqb-true, ne_eqb}
use Rattle.std.proofs.lemmas.List.{length-map}
use Rattle.ob_base.specs.Optional.{◌>>=◌}
use Rattle.ob_base.specs.Limits.{most_objects}
use Rattle.ob_base.specs.declared.id.ContractId.{ContractId}
use Rattle.ob_base.specs.declared.id.TxId.{TxId}
use Rattle.ob_table.specs.declared.seen.Kind.{Kind}
use Rattle.ob_table.specs.declared.seen.Kind.TheVariants as kind
use Rattle.ob_heap_spec.specs.Values.{Value, reference, referred}
use Rattle.ob_heap_spec.specs.Objects.{Object, unfinished}
use Rattle.ob_heap_spec.specs.Contents.{object_at}
use Rattle.ob_heap_spec.specs.Worlds.{World, read_object, with_read, next_item, make_object}
use Rattle.ob_heap_spec.specs.Marks.{is_in_progress, enter}
use Rattle.ob_code.specs.declared.image.BodyCode.{BodyCode}
use Rattle.ob_code.specs.declared.image.ContractCode.{ContractCode}
use Rattle.ob_code.specs.declared.image.Image.{Image}
use Rattle.ob_code.specs.declared.image.TypeCode.{TypeCode}
use Rattle.ob_code.specs.declared.instruction.Instruction.{Instruction}
use Rattle.ob_code.specs.declared.instruction.Instruction.TheVariants as is
use Rattle.ob_code.specs.Code.{contract_code, body_code, is_shared_at_entry, is_interface, is_private, is_constructor, no_result, is_transaction_named}
use Rattle.ob_code_table.specs.Images.{constructor_number, transaction_number, CalleeId, answer_of, callee}
use Rattle.ob_machine_steps.specs.Slots.{Slots, reference_at, values_at}
use Rattle.ob_machine_steps.specs.Configurations.{on_receiver, on_this, on_new, Configuration}
use Rattle.ob_machine_steps.specs.Parts.{waiting}
use Rattle.ob_machine_steps.specs.Calling.{Caller, caller, calls_object, call_step, self_step, makes_object, new_step}
use Rattle.ob_verify_spec.specs.Kinds.{same_kind, kind_of_type, kind_of_param, implements_number as implements_it, fits_contract}
use Rattle.ob_verify_spec.specs.Frames.{constructor_code, kinds_of_params, kind_of_result}
use Rattle.ob_verify_spec.specs.Instructions.{slot_of_result, slot_set, leads, Need, of_kind, needs_of_args, needs_of_call, needs_of_receiver, needs, set_slot, done, effect_of_call, effect}
use Rattle.ob_verify_spec.specs.Instructions as kinds
use Rattle.ob_verify_spec.specs.Conditions.{takes, same_kinds, same_result, answers_for, has_answer, answers_if_implemented, is_answered, constructs}
use Rattle.ob_verify_spec.specs.Ways.{IsAt}
use Rattle.ob_verify_spec.specs.Running.{AreKnownAt}
use Rattle.ob_verify_spec.specs.Laws.{HasBody, SlotsFitByte}
use Rattle.ob_verify_spec.proofs.Cells.{some_same, none_some, same_kind_of}
use Rattle.ob_verify_spec.proofs.Listed.{head, behind, each_passes, from_get}
use Rattle.ob_code_laws.specs.Kinds.{NamesObject, IsOfKind, AreOfKinds, HasFieldsOfKinds, HaveFieldsOfKinds, IsObjectOf, Holds, AreMet}
use Rattle.ob_code_laws.proofs.Basics.{then_some, passes_some, found_at, get-append_last}
use Rattle.ob_code_laws.proofs.Growing.{kinds_grow}
use Rattle.ob_code_laws.proofs.Worlds.{Follows, read_objects, made_follows}
use Rattle.ob_code_laws.proofs.Fitting.{fits_cases, fits_of_contract, holds_widens}
use Rattle.ob_code_laws.proofs.Frames.{IsSound, IsFrame, code, Wait, IsRunning, Good, then_good, if_good, unit_good, wait_grows, need_met}
use Rattle.ob_code_laws.proofs.Setting.{set_slot_same, set_slot_other}
use Rattle.ob_code_laws.proofs.Changing.{named_well}
use Rattle.ob_code_laws.proofs.Beginning.{args_of, begun_good}

-- Bodies.

pub body_there : (image : Image) (contract : ContractId) (tx : TxId) (b : BodyCode) → body_code image contract tx ≡ Some b → (own : ContractCode) × HasBody image contract own tx b
body_there image contract tx b e =
    let f = then_some (contract_code image contract) (λ (own : ContractCode). slice_get own.bodies tx.0) b e in
    (f.0, record { contract = f.1; body = f.2 })

pub body_found : (image : Image) (contract : ContractId) (own : ContractCode) (tx : TxId) (b : BodyCode) → HasBody image contract own tx b → body_code image contract tx ≡ Some b
body_found image contract own tx b h = ap (λ (z : Option ContractCode). z >>= λ (own : ContractCode). slice_get own.bodies tx.0) h.contract ∙ h.body

-- Kinds of bodies that answer for one another.

kinds_same : (xs ys : List Kind) → same_kinds xs ys ≡ true → xs ≡ ys
kinds_same [] [] e = refl
kinds_same [] (y ∷ ys) e = absurd (false≢true e)
kinds_same (x ∷ xs) [] e = absurd (false≢true e)
kinds_same (x ∷ xs) (y ∷ ys) e =
    let p = and_parts (same_kind x y) (same_kinds xs ys) e in
    ap (λ z. z ∷ xs) (same_kind_of x y p.0) ∙ ap (λ z. y ∷ z) (kinds_same xs ys p.1)

result_same : (x y : Option Kind) → same_result x y ≡ true → x ≡ y
result_same None None e = refl
result_same None (Some y) e = absurd (false≢true e)
result_same (Some x) None e = absurd (false≢true e)
result_same (Some x) (Some y) e = ap Some (same_kind_of x y e)

-- a body takes and gives what another does
pub record AnswersFor (asked b : BodyCode) : Type 0 where
  pub params : kinds_of_params asked ≡ kinds_of_params b
  pub result : kind_of_result asked ≡ kind_of_result b

answers_parts : (asked b : BodyCode) → answers_for asked b ≡ true → AnswersFor asked b
answers_parts asked b e =
    let p = and_parts (not (is_private b) && same_kinds (kinds_of_params asked) (kinds_of_params b)) (same_result (kind_of_result asked) (kind_of_result b)) e in
    let q = and_parts (not (is_private b)) (same_kinds (kinds_of_params asked) (kinds_of_params b)) p.0 in
    record { params = kinds_same (kinds_of_params asked) (kinds_of_params b) q.1; result = result_same (kind_of_result asked) (kind_of_result b) p.1 }

-- What a call of an object runs.

-- the place of a number
abbrev pub number_of : ℕ → TxId
number_of n = record { 0 = n }

pub numbered : (o : Option ℕ) (tx : TxId) → option_map number_of o ≡ Some tx → o ≡ Some tx.0
numbered None tx e = absurd (none_some e)
numbered (Some n) tx e = ap (λ (z : TxId). Some z.0) (some_same e)

not_or : (a b : Bool) → a ≡ true → (not a || b) ≡ true → b ≡ true
not_or true b e h = h
not_or false b e h = absurd (false≢true e)

-- what a call of the object of a number runs is a body of the object's contract that takes and gives what was asked
pub record Called (image : Image) (objects : List Object) (asked : BodyCode) (n : ℕ) (id : CalleeId) : Type 0 where
  pub own : ContractCode
  pub body : BodyCode
  pub there : HasBody image id.0 own id.1 body
  pub contract : is_interface own ≡ false
  pub this : IsObjectOf objects id.0 n
  pub answers : AnswersFor asked body

-- the test of an interface's answers, at a contract that implements it
pub answer_there : (image : Image) (c : ContractId) (asked : BodyCode) (declared own : ContractCode) (d : ContractId) → contract_code image c ≡ Some declared → is_interface declared ≡ true
    → is_answered image c asked ≡ true → contract_code image d ≡ Some own → is_interface own ≡ false → implements_it c own ≡ true → has_answer asked own ≡ true
answer_there image c asked declared own d at interface answered there contract imp =
    let all = not_or (option_map_or is_interface (contract_code image c) false) (list_all (answers_if_implemented c asked) image.contracts)
    (ap (λ (z : Option ContractCode). option_map_or is_interface z false) at ∙ interface) answered in
    let one : answers_if_implemented c asked own ≡ true = each_passes (answers_if_implemented c asked) image.contracts own all (from_get image.contracts d.0 own there) in
    elim (or_cases (not (implements_it c own) || is_interface own) (has_answer asked own) one) [
      | inr h ↦ h
      | inl h ↦ elim (or_cases (not (implements_it c own)) (is_interface own) h) [
        | inl g ↦ absurd (true≢false (sym imp ∙ not-true (implements_it c own) g))
        | inr g ↦ absurd (true≢false (sym g ∙ contract))
      ]
    ]

-- the answer of an object of a contract that implements an interface
answered_by : (image : Image) (objects : List Object) (asked : BodyCode) (n : ℕ) (o : Object) (own : ContractCode) (tx : TxId) (id : CalleeId) → object_at objects n ≡ Some o
    → contract_code image o.contract ≡ Some own → is_interface own ≡ false → has_answer asked own ≡ true → transaction_number own asked.name ≡ Some tx → (o.contract, tx) ≡ id
    → Called image objects asked n id
answered_by image objects asked n o own tx id at there contract has number same =
    let f = passes_some (answers_for asked) (find (is_transaction_named asked.name) own.bodies) has in
    let p = numbered (position (is_transaction_named asked.name) own.bodies) tx number in
    let body : slice_get own.bodies tx.0 ≡ Some f.0 = sym (found_at (is_transaction_named asked.name) own.bodies tx.0 p) ∙ f.1 in
    subst (Called image objects asked n) same (record {
      own = own;
      body = f.0;
      there = record { contract = there; body = body };
      contract = contract;
      this = record { object = o; there = at; of = refl };
      answers = answers_parts asked f.0 f.2;
    })

interface_called : (image : Image) → IsSound image → (objects : List Object) → HaveFieldsOfKinds image objects
    → (c : ContractId) (tx : TxId) (declared : ContractCode) (asked : BodyCode) (n : ℕ) (o : Object) (id : CalleeId)
    → HasBody image c declared tx asked → is_answered image c asked ≡ true → object_at objects n ≡ Some o → fits_contract image o.contract c ≡ true → is_interface declared ≡ true
    → (slice_get declared.bodies tx.0 >>= answer_of image o) ≡ Some id → Called image objects asked n id
interface_called image s objects kinds c tx declared asked n o id there answered at fits interface e =
    let f = then_some (slice_get declared.bodies tx.0) (answer_of image o) id e in
    let same : f.0 ≡ asked = some_same (sym f.1 ∙ there.body) in
    let e2 : answer_of image o asked ≡ Some id = ap (answer_of image o) (sym same) ∙ f.2 in
    let own = then_some (contract_code image o.contract) (λ (own : ContractCode). transaction_number own asked.name >>= λ tx. Some (o.contract, tx)) id e2 in
    let number = then_some (transaction_number own.0 asked.name) (λ tx. Some (o.contract, tx)) id own.2 in
    let kept : HasFieldsOfKinds image objects o = kinds.each n o at in
    let contract : is_interface own.0 ≡ false = subst (λ z. is_interface z ≡ false) (some_same (sym kept.of ∙ own.1)) kept.contract in
    elim (fits_cases image o.contract c fits) [
      | inl h ↦ absurd (true≢false (sym interface ∙ ap is_interface (some_same (sym there.contract ∙ ap (contract_code image) (sym h) ∙ own.1)) ∙ contract))
      | inr h ↦
          let imp : implements_it c own.0 ≡ true = subst (λ z. implements_it c z ≡ true) (some_same (sym h.1 ∙ own.1)) h.2 in
          answered_by image objects asked n o own.0 number.0 id at own.1 contract
          (answer_there image c asked declared own.0 o.contract there.contract interface answered own.1 contract imp) number.1 (some_same number.2)
    ]

contract_called : (image : Image) → IsSound image → (objects : List Object) → (c : ContractId) (tx : TxId) (declared : ContractCode) (asked : BodyCode) (n : ℕ) (o : Object) (id : CalleeId)
    → HasBody image c declared tx asked → object_at objects n ≡ Some o → fits_contract image o.contract c ≡ true → is_interface declared ≡ false → (c, tx) ≡ id → Called image objects asked n id
contract_called image s objects c tx declared asked n o id there at fits contract e =
    subst (Called image objects asked n) e (record {
      own = declared;
      body = asked;
      there = there;
      contract = contract;
      this = record { object = o; there = at; of = fits_of_contract image s.implements o.contract c declared there.contract contract fits };
      answers = record { params = refl; result = refl };
    })

called_if : (image : Image) → IsSound image → (objects : List Object) → HaveFieldsOfKinds image objects
    → (c : ContractId) (tx : TxId) (declared : ContractCode) (asked : BodyCode) (n : ℕ) (o : Object) (id : CalleeId) (interface : Bool)
    → HasBody image c declared tx asked → is_answered image c asked ≡ true → object_at objects n ≡ Some o → fits_contract image o.contract c ≡ true → is_interface declared ≡ interface
    → (if interface then (slice_get declared.bodies tx.0 >>= answer_of image o) else Some (c, tx)) ≡ Some id → Called image objects asked n id
called_if image s objects kinds c tx declared asked n o id true there answered at fits same e = interface_called image s objects kinds c tx declared asked n o id there answered at fits same e
called_if image s objects kinds c tx declared asked n o id false there answered at fits same e = contract_called image s objects c tx declared asked n o id there at fits same (some_same e)

pub called : (image : Image) → IsSound image → (objects : List Object) → HaveFieldsOfKinds image objects
    → (c : ContractId) (tx : TxId) (declared : ContractCode) (asked : BodyCode) (n : ℕ) (o : Object) (id : CalleeId)
    → HasBody image c declared tx asked → is_answered image c asked ≡ true → object_at objects n ≡ Some o → fits_contract image o.contract c ≡ true → callee image c tx o ≡ Some id
    → Called image objects asked n id
called image s objects kinds c tx declared asked n o id there answered at fits e =
    called_if image s objects kinds c tx declared asked n o id (is_interface declared) there answered at fits refl
    (sym (ap (λ (z : Option ContractCode). z >>= λ (d : ContractCode). if is_interface d then (slice_get d.bodies tx.0 >>= answer_of image o) else Some (c, tx)) there.contract) ∙ e)

-- a call of an object, once its unit is taken
pub object_good : (image : Image) → IsSound image → (out : Option Kind) (by : Caller) (c : ContractId) (tx : TxId) (declared : ContractCode) (asked : BodyCode) (n : ℕ) (args : List Value) (w : World)
    → HasBody image c declared tx asked → is_answered image c asked ≡ true → HaveFieldsOfKinds image w.objects → NamesObject image w.objects c n
    → AreOfKinds image w.objects (kinds_of_params asked) args
    → Wait image w.objects out by.frames (kind_of_result asked) by.into → Good image out (calls_object image by c tx n args w)
object_good image s out by c tx declared asked n args w there answered objects names kinds wait =
    let v = read_object w n in
    let same : w.objects ≡ v.objects = sym (read_objects w n) in
    if_good image out (is_in_progress v n) _ _ tt
    (then_good image out (object_at v.objects n) _ (λ o at. then_good image out (callee image c tx o) _ (λ id e. then_good image out (body_code image id.0 id.1) _ (λ b found.
    let at_w : object_at w.objects n ≡ Some o = ap (λ z. object_at z n) same ∙ at in
    let fits : fits_contract image o.contract c ≡ true = subst (λ (z : Object). fits_contract image z.contract c ≡ true) (some_same (sym names.there ∙ at_w)) names.fits in
    let h : Called image w.objects asked n id = called image s w.objects objects c tx declared asked n o id there answered at_w fits e in
    let body : h.body ≡ b = some_same (sym (body_found image id.0 h.own id.1 h.body h.there) ∙ found) in
    begun_good image s out by id h.own b n args on_receiver (is_shared_at_entry b) (enter n v)
    (subst (HasBody image id.0 h.own id.1) body h.there) h.contract (subst (HaveFieldsOfKinds image) same objects) (subst (λ z. IsObjectOf z id.0 n) same h.this)
    (subst (λ z. AreOfKinds image v.objects (kinds_of_params z) args) body
    (subst (λ z. AreOfKinds image v.objects z args) h.answers.params (subst (λ z. AreOfKinds image z (kinds_of_params asked) args) same kinds)))
    (subst (λ z. Wait image v.objects out by.frames (kind_of_result z) by.into) body
    (subst (λ z. Wait image v.objects out by.frames z by.into) h.answers.result (subst (λ z. Wait image z out by.frames (kind_of_result asked) by.into) same wait)))))))

-- the first constructor of a contract is found by its number
constructor_body : (image : Image) (c : ContractId) (own : ContractCode) (b : BodyCode) → contract_code image c ≡ Some own → find is_constructor own.bodies ≡ Some b
    → (tx : TxId) → (contract_code image c >>= constructor_number) ≡ Some tx → HasBody image c own tx b
constructor_body image c own b there first tx e =
    let n = then_some (contract_code image c) constructor_number tx e in
    let number : constructor_number own ≡ Some tx = subst (λ z. constructor_number z ≡ Some tx) (some_same (sym n.1 ∙ there)) n.2 in
    let p = numbered (position is_constructor own.bodies) tx number in
    record { contract = there; body = sym (found_at is_constructor own.bodies tx.0 p) ∙ first }

-- a `new` of a contract by a constructor, once its unit is taken
pub object_made : (image : Image) → IsSound image → (out : Option Kind) (by : Caller) (c : ContractId) (own : ContractCode) (b : BodyCode) (constructor : Option TxId) (args : List Value) (w : World)
    → contract_code image c ≡ Some own → is_interface own ≡ false → ((tx : TxId) → constructor ≡ Some tx → HasBody image c own tx b) → HaveFieldsOfKinds image w.objects
    → AreOfKinds image w.objects (kinds_of_params b) args → Wait image w.objects out by.frames (Some (kind.Reference c)) by.into → Good image out (makes_object image by c constructor args w)
object_made image s out by c own b constructor args w there contract is objects kinds wait =
    let v = with_read w next_item in
    if_good image out (nat_le most_objects (length v.objects)) _ _ tt (then_good image out constructor _ (λ tx e. then_good image out (body_code image c tx) _ (λ z found.
    let body : HasBody image c own tx b = is tx e in
    let same : b ≡ z = some_same (sym (body_found image c own tx b body) ∙ found) in
    let made = make_object v (unfinished c) in
    let f : Follows image w.objects made.objects = made_follows image w c own objects there contract in
    begun_good image s out by (c, tx) own z (length v.objects) args on_new false made (subst (HasBody image c own tx) same body) contract f.kinds
    (record { object = unfinished c; there = get-append_last w.objects (unfinished c); of = refl })
    (subst (λ y. AreOfKinds image made.objects (kinds_of_params y) args) same (kinds_grow image w.objects made.objects f.grows (kinds_of_params b) args kinds))
    (wait_grows image out w.objects made.objects f.grows by.frames (Some (kind.Reference c)) by.into wait))))

-- The frame that waits.

-- the innermost frame waits for a result of a kind in a slot
pub caller_waits : (image : Image) (out : Option Kind) (c : Configuration) (g : IsRunning image out c) (x : Instruction) → IsAt (code image c.world.objects c.top g.top.frame) c.top.at x
    → (k : ℕ) (given : Option Kind) → Contains (leads c.top.at x) (c.top.at + 1) → k ≢ 0
    → ((j : ℕ) (y : Kind) → j ≢ k → done (effect (code image c.world.objects c.top g.top.frame) x) g.top.known j ≡ Some y → g.top.known j ≡ Some y)
    → ((y : Kind) → k < g.top.frame.body.slots → done (effect (code image c.world.objects c.top g.top.frame) x) g.top.known k ≡ Some y → given ≡ Some y)
    → (k ≢ 255 → k < g.top.frame.body.slots) → (k ≢ 255 → is_some given ≡ true) → Wait image c.world.objects out (waiting c) given k
caller_waits image out c g x at k given lead other others gives within wanted =
    let h : IsFrame image c.world.objects c.top = g.top.frame in
    let a : AreKnownAt (code image c.world.objects c.top h) h.kinds (c.top.at + 1) (done (effect (code image c.world.objects c.top h) x) g.top.known) = h.keeps.leads_on c.top.at
    (c.top.at + 1) x g.top.known at g.top.there lead in (
      record {
        frame = record { own = h.own; body = h.body; there = h.there; contract = h.contract; kinds = h.kinds; keeps = h.keeps; count = h.count; this = h.this; first = h.first };
        known = a.known;
        there = a.there;
        holds = λ j y lt ne e. let b = a.held j y lt e in holds_widens image g.implements c.world.objects c.top.slots j b.0 y b.2 (g.top.holds j b.0 lt (others j b.0 ne b.1));
        awaited = λ y lt e. let b = a.held k y lt e in (b.0, gives b.0 lt b.1, b.2);
        other = other;
        within = within;
        wanted = wanted;
      },
      g.below,
    )

call_others : (b : Bool) (k : ℕ) (ob : Option BodyCode) (known : kinds.KindsOfSlots) (j : ℕ) (y : Kind) → j ≢ k → done (effect_of_call (if b then None else Some k) ob) known j ≡ Some y → known j ≡ Some y
call_others true k ob known j y ne e = e
call_others false k ob known j y ne e = sym (set_slot_other k j (option_and_then kind_of_result ob) known ne) ∙ e

call_gives : (b : Bool) (k : ℕ) (ob : Option BodyCode) (z : BodyCode) (known : kinds.KindsOfSlots) (y : Kind) → b ≡ false → ob ≡ Some z
    → done (effect_of_call (if b then None else Some k) ob) known k ≡ Some y → kind_of_result z ≡ Some y
call_gives true k ob z known y e at h = absurd (true≢false e)
call_gives false k ob z known y e at h = ap (option_and_then kind_of_result) (sym at) ∙ sym (set_slot_same k k (option_and_then kind_of_result ob) known refl) ∙ h

result_not_first : (k : ℕ) (b : Bool) → (k == no_result) ≡ b → ((if b then None else Some k) ≡ Some k → k ≢ 0) → k ≢ 0
result_not_first k true e named zero_ = let same : k ≡ 255 = eqb-true k no_result e in omega arith
result_not_first k false e named zero_ = named refl zero_

-- a slot of a body isn't the one that represents no result
slot_is_one : (image : Image) → SlotsFitByte image → (c : ContractId) (own : ContractCode) (tx : TxId) (b : BodyCode) (k : ℕ) → HasBody image c own tx b → k < b.slots → (k == no_result) ≡ false
slot_is_one image bytes c own tx b k there lt = let le : b.slots ≤ 255 = bytes.each c own tx b there in ne_eqb k no_result (λ e. omega (arith, lt, le, e))

slot_given : (k : ℕ) → k ≢ 255 → slot_of_result k ≡ Some k
slot_given k ne = cond-false (k == no_result) None (Some k) (ne_eqb k no_result ne)

has_kind : (o : Option TypeCode) → is_some o ≡ true → is_some (option_map kind_of_type o) ≡ true
has_kind None e = e
has_kind (Some t) e = refl

-- a body has a result where a slot gets one
result_there : (count k : ℕ) (b : BodyCode) → takes count (slot_of_result k) b ≡ true → k ≢ 255 → is_some (kind_of_result b) ≡ true
result_there count k b e ne =
    let p = and_parts (not (is_constructor b) && count == length b.params) (not (is_some (slot_of_result k)) || is_some b.result) e in
    has_kind b.result (not_or (is_some (slot_of_result k)) (is_some b.result) (ap is_some (slot_given k ne)) p.1)

-- a frame that calls waits for the result of the body that it asks for
asker_waits : (image : Image) → IsSound image → (out : Option Kind) (c : Configuration) (g : IsRunning image out c) (x : Instruction) → IsAt (code image c.world.objects c.top g.top.frame) c.top.at x
    → (k : ℕ) (ob : Option BodyCode) (b : BodyCode) (count : ℕ) → takes count (slot_of_result k) b ≡ true → ob ≡ Some b → Contains (leads c.top.at x) (c.top.at + 1) → slot_set x ≡ slot_of_result k
    → ((j : ℕ) → done (effect (code image c.world.objects c.top g.top.frame) x) g.top.known j ≡ done (effect_of_call (slot_of_result k) ob) g.top.known j)
    → Wait image c.world.objects out (waiting c) (kind_of_result b) k
asker_waits image s out c g x at k ob b count taken found lead slot same =
    caller_waits image out c g x at k (kind_of_result b) lead
    (result_not_first k (k == no_result) refl (λ e. (g.top.frame.keeps.sets_within c.top.at k x at (slot ∙ e)).0))
    (λ j y ne e. call_others (k == no_result) k ob g.top.known j y ne (sym (same j) ∙ e))
    (λ y lt e. call_gives (k == no_result) k ob b g.top.known y (slot_is_one image s.slots c.top.contract g.top.frame.own c.top.tx g.top.frame.body k g.top.frame.there lt) found (sym (same k) ∙ e))
    (λ ne. (g.top.frame.keeps.sets_within c.top.at k x at (slot ∙ slot_given k ne)).1)
    (λ ne. result_there count k b taken ne)

-- Instructions.

named_by : (image : Image) (objects : List Object) (c : ContractId) (n : ℕ) (v : Value) → IsOfKind image objects (kind.Reference c) v → referred v ≡ Some n → NamesObject image objects c n
named_by image objects c n (reference m) h e = subst (NamesObject image objects c) (some_same e) h
named_by image objects c n v h e = absurd h

-- a slot with a reference of a kind
pub referring : (image : Image) (objects : List Object) (slots : Slots) (a : ℕ) (c : ContractId) (n : ℕ) → Holds image objects slots a (kind.Reference c) → reference_at slots a ≡ Some n
    → NamesObject image objects c n
referring image objects slots a c n h e =
    named_by image objects c n h.value h.kind (sym (ap (λ (z : Option Value). z >>= referred) h.there) ∙ e)

-- what a call takes is there
pub taken_parts : (count : ℕ) (slot : Option ℕ) (b : BodyCode) → takes count slot b ≡ true → count ≡ length (kinds_of_params b)
taken_parts count slot b e =
    let p = and_parts (not (is_constructor b) && count == length b.params) (not (is_some slot) || is_some b.result) e in
    let q = and_parts (not (is_constructor b)) (count == length b.params) p.0 in
    eqb-true count (length b.params) q.1 ∙ sym (length-map b.params kind_of_param)

pub call_good : (image : Image) → IsSound image → (out : Option Kind) (c : Configuration) (g : IsRunning image out c) (k a : ℕ) (contract : ContractId) (tx : TxId) (args : List ℕ)
    → IsAt (code image c.world.objects c.top g.top.frame) c.top.at (is.Call k a contract tx args) → Good image out (call_step image k a contract tx args c)
call_good image s out c g k a contract tx args at = then_good image out (reference_at c.top.slots a) _ (λ n refers. then_good image out (values_at c.top.slots args) _ (λ vs values.
    let here = code image c.world.objects c.top g.top.frame in
    let x = is.Call k a contract tx args in
    let well = not-false (option_map_or (λ (b : BodyCode). takes (length args) (slot_of_result k) b && is_answered image contract b) (body_code image contract tx) false)
    (named_well here c.top.at x (g.top.frame.keeps.goes c.top.at x at)).1 in
    let f = passes_some (λ (b : BodyCode). takes (length args) (slot_of_result k) b && is_answered image contract b) (body_code image contract tx) well in
    let p = and_parts (takes (length args) (slot_of_result k) f.0) (is_answered image contract f.0) f.2 in
    let there = body_there image contract tx f.0 f.1 in
    let met : (m : Need) → Contains (needs_of_receiver a (kind.Reference contract) args (Some f.0)) m → AreMet image c.world.objects c.top.slots m =
    λ m has. need_met image s out c g x at m (subst (λ z. Contains (needs_of_receiver a (kind.Reference contract) args z) m) (sym f.1) has) in
    let holds : Holds image c.world.objects c.top.slots a (kind.Reference contract) = met (of_kind a (kind.Reference contract))
    (head (of_kind a (kind.Reference contract)) (needs_of_args args (kinds_of_params f.0))) in
    let kinds : AreOfKinds image c.world.objects (kinds_of_params f.0) vs = args_of image c.world.objects c.top.slots args (kinds_of_params f.0) vs
    (taken_parts (length args) (slot_of_result k) f.0 p.0)
    (λ m has. met m (behind (of_kind a (kind.Reference contract)) m (needs_of_args args (kinds_of_params f.0)) has)) values in
    let names : NamesObject image c.world.objects contract n = referring image c.world.objects c.top.slots a contract n holds refers in
    let wait : Wait image c.world.objects out (waiting c) (kind_of_result f.0) k = asker_waits image s out c g x at k (body_code image contract tx) f.0 (length args) p.0 f.1
    (head (c.top.at + 1) []) refl (λ j. refl) in
    unit_good image out c.world _ (λ w e.
    object_good image s out (caller c k) contract tx there.0 f.0 n vs w there.1 p.1 (subst (HaveFieldsOfKinds image) (sym e) g.objects) (subst (λ z. NamesObject image z contract n) (sym e) names)
    (subst (λ z. AreOfKinds image z (kinds_of_params f.0) vs) (sym e) kinds) (subst (λ z. Wait image z out (waiting c) (kind_of_result f.0) k) (sym e) wait))))

pub self_good : (image : Image) → IsSound image → (out : Option Kind) (c : Configuration) (g : IsRunning image out c) (k : ℕ) (tx : TxId) (args : List ℕ)
    → IsAt (code image c.world.objects c.top g.top.frame) c.top.at (is.SelfCall k tx args) → Good image out (self_step image k tx args c)
self_good image s out c g k tx args at = then_good image out (values_at c.top.slots args) _ (λ vs values.
    let here = code image c.world.objects c.top g.top.frame in
    let x = is.SelfCall k tx args in
    let own = g.top.frame.own in
    let well = not-false (option_map_or (takes (length args) (slot_of_result k)) (slice_get own.bodies tx.0) false) (named_well here c.top.at x (g.top.frame.keeps.goes c.top.at x at)).1 in
    let f = passes_some (takes (length args) (slot_of_result k)) (slice_get own.bodies tx.0) well in
    let there : HasBody image c.top.contract own tx f.0 = record { contract = g.top.frame.there.contract; body = f.1 } in
    let kinds : AreOfKinds image c.world.objects (kinds_of_params f.0) vs = args_of image c.world.objects c.top.slots args (kinds_of_params f.0) vs
    (taken_parts (length args) (slot_of_result k) f.0 f.2)
    (λ m has. need_met image s out c g x at m (subst (λ z. Contains (needs_of_call args z) m) (sym f.1) has)) values in
    let wait : Wait image c.world.objects out (waiting c) (kind_of_result f.0) k = asker_waits image s out c g x at k (slice_get own.bodies tx.0) f.0 (length args) f.2 f.1
    (head (c.top.at + 1) []) refl (λ j. refl) in
    unit_good image out c.world _ (λ w e. then_good image out (body_code image c.top.contract tx) _ (λ b found.
    let body : f.0 ≡ b = some_same (sym (body_found image c.top.contract own tx f.0 there) ∙ found) in
    begun_good image s out (caller c k) (c.top.contract, tx) own b c.top.this vs on_this c.top.share_entered w (subst (HasBody image c.top.contract own tx) body there) g.top.frame.contract
    (subst (HaveFieldsOfKinds image) (sym e) g.objects) (subst (λ z. IsObjectOf z c.top.contract c.top.this) (sym e) g.top.frame.this)
    (subst (λ y. AreOfKinds image w.objects (kinds_of_params y) vs) body (subst (λ z. AreOfKinds image z (kinds_of_params f.0) vs) (sym e) kinds))
    (subst (λ y. Wait image w.objects out (waiting c) (kind_of_result y) k) body (subst (λ z. Wait image z out (waiting c) (kind_of_result f.0) k) (sym e) wait)))))

pub new_good : (image : Image) → IsSound image → (out : Option Kind) (c : Configuration) (g : IsRunning image out c) (k : ℕ) (contract : ContractId) (args : List ℕ)
    → IsAt (code image c.world.objects c.top g.top.frame) c.top.at (is.New k contract args) → Good image out (new_step image k contract args c)
new_good image s out c g k contract args at = then_good image out (values_at c.top.slots args) _ (λ vs values.
    let here = code image c.world.objects c.top g.top.frame in
    let x = is.New k contract args in
    let well = not-false (option_map_or (constructs (length args)) (contract_code image contract) false) (named_well here c.top.at x (g.top.frame.keeps.goes c.top.at x at)).1 in
    let f = passes_some (constructs (length args)) (contract_code image contract) well in
    let p = and_parts (not (is_interface f.0)) (option_map_or (λ (b : BodyCode). length args == length b.params) (find is_constructor f.0.bodies) false) f.2 in
    let b = passes_some (λ (b : BodyCode). length args == length b.params) (find is_constructor f.0.bodies) p.1 in
    let made : constructor_code image contract ≡ Some b.0 = ap (option_and_then (λ (own : ContractCode). find is_constructor own.bodies)) f.1 ∙ b.1 in
    let kinds : AreOfKinds image c.world.objects (kinds_of_params b.0) vs = args_of image c.world.objects c.top.slots args (kinds_of_params b.0) vs
    (eqb-true (length args) (length b.0.params) b.2 ∙ sym (length-map b.0.params kind_of_param))
    (λ m has. need_met image s out c g x at m (subst (λ z. Contains (needs_of_call args z) m) (sym made) has)) values in
    let wait : Wait image c.world.objects out (waiting c) (Some (kind.Reference contract)) k =
    caller_waits image out c g x at k (Some (kind.Reference contract)) (head (c.top.at + 1) []) (g.top.frame.keeps.sets_within c.top.at k x at refl).0
    (λ j y ne e. sym (set_slot_other k j (Some (kind.Reference contract)) g.top.known ne) ∙ e) (λ y lt e. sym (set_slot_same k k (Some (kind.Reference contract)) g.top.known refl) ∙ e)
    (λ ne. (g.top.frame.keeps.sets_within c.top.at k x at refl).1) (λ ne. refl) in
    unit_good image out c.world _ (λ w e.
    object_made image s out (caller c k) contract f.0 b.0 (contract_code image contract >>= constructor_number) vs w f.1 (not-true (is_interface f.0) p.0)
    (constructor_body image contract f.0 b.0 f.1 b.1) (subst (HaveFieldsOfKinds image) (sym e) g.objects)
    (subst (λ z. AreOfKinds image z (kinds_of_params b.0) vs) (sym e) kinds) (subst (λ z. Wait image z out (waiting c) (Some (kind.Reference contract)) k) (sym e) wait)))
