-- The code of calls, of changes of state and of returns is certified.
use Rattle.std.proofs.Common.{◌≡◌, ℕ, ◌+◌, ◌<◌, ◌≤◌, List, [], ◌∷◌, ◌++◌, map, length, Option, Some, None, Bool, true, false, not, nat_lt, ◌&&◌, ◌||◌, ◌==◌, Contains, refl, sym, ap, ◌∙◌, subst, arith, inl, inr, if◌then◌else◌}
use Rattle.std.specs.Prelude.{⊤, IfSome, is_some, option_map, option_and_then}
use Rattle.std.specs.List.{list_all}
use Rattle.std.specs.Option.{option_map_or}
use Rattle.std.proofs.lemmas.Bool.{lt-ltb, eq-eqb}
use Rattle.std.proofs.lemmas.Bool.Decides.{eqb_tells}
use Rattle.std.proofs.lemmas.List.Elements.{Contains-append_cases}
use Rattle.ob_base.specs.declared.id.ContractId.{ContractId}
use Rattle.ob_base.specs.declared.id.FieldId.{FieldId}
use Rattle.ob_base.specs.declared.id.StateId.{StateId}
use Rattle.ob_base.specs.declared.id.TxId.{TxId}
use Rattle.ob_table.specs.Tables.{field_at, signature_of}
use Rattle.ob_table.specs.declared.contract.ResolvedType.{ResolvedType}
use Rattle.ob_table.specs.declared.contract.ResolvedType.TheVariants as typed
use Rattle.ob_table.specs.declared.contract.Signature.{Signature}
use Rattle.ob_table.specs.declared.seen.Kind.{Kind}
use Rattle.ob_table.specs.declared.seen.Kind.TheVariants as kind
use Rattle.ob_table_spec.specs.WellFormed.{StaticFrame, kind_of_resolved, constructor_at}
use Rattle.ob_silica.specs.declared.place.Given.{Given}
use Rattle.ob_silica.specs.declared.place.Operand.{Operand}
use Rattle.ob_silica_places.specs.Parameters.{Parameter, parameters, all_parameters}
use Rattle.ob_silica_formed.specs.Holdings.{Holdings, held, with_slot, with_slot_if, kind_of_operand, kind_of_result as result_kind}
use Rattle.ob_silica_formed.specs.Points.{HasKind, ArePassed, AreFields, AreServed, IsReturnedAs}
use Rattle.ob_places_laws.proofs.Tables.{if_there_so}
use Rattle.ob_code.specs.Code.{no_result, contract_code}
use Rattle.ob_code.specs.declared.image.BodyCode.{BodyCode}
use Rattle.ob_code.specs.declared.instruction.Instruction.TheVariants as is
use Rattle.ob_verify_spec.specs.Frames.{CodeFrame, kind_of_result, kind_of_field}
use Rattle.ob_verify_spec.specs.Instructions.{KindsOfSlots, slot_of_result, Need, of_kind, meets, needs_of_args, needs_of_call, need_of, needs_of_given, needs_of_receiver, done, effect_of_call}
use Rattle.ob_verify_spec.specs.Conditions.{may_set, takes, is_answered, constructs}
use Rattle.ob_verify_spec.proofs.Cells.{some_same}
use Rattle.ob_verify_spec.proofs.Fitting.{fits_self}
use Rattle.ob_emit_spec.specs.Emission.{EmissionFrame, share_in_field, result_slot, shares_of_call, shares_of_new, call_code, call_this_code, new_code, given_slots, shares_of_given, change_code, return_none_code, share_result, return_code}
use Rattle.ob_emit_spec.specs.Operands.{slot_read, slots_read, loads, values_given, share, shares}
use Rattle.ob_emit_verified.proofs.Flows.{Fit, fit_self, IsSound, IsCertified, certified_none, certified_one, certified_last, certified_both, certified_after}
use Rattle.ob_emit_verified.proofs.Saying.{kinds_passed, IsTransactionOf, IsMade, IsCalled, IsCalledHere}
use Rattle.ob_emit_verified.proofs.Operands.{known_of, KnowsBelow, knows_itself, below_fits, set_fits, IsCodeOf, HoldsThis, good_slots, one_read, none_needed, more_needed, one_needed, IsReadFrom, AreReadFrom, HaveRoom, is_there, all_read}
use Rattle.ob_emit_verified.proofs.Marks.{kind_met, reference_met, operand_met, operand_shared, certified_share, certified_shares, passed_shared, passed_met, passed_count, loaded_then, regrouped, one_then}
use Rattle.ob_emit_verified.proofs.Straight.{IsOwnSlot, may_set_own, certified_share_in}

-- New.

sound_new : (c : CodeFrame) (f : EmissionFrame) → IsCodeOf c f
    → (h : Holdings) (known : KindsOfSlots) (k : ℕ) (contract : ContractId) (args : List Operand)
    (made : IsMade f.static c.image contract)
    → IsOwnSlot f k → ArePassed f.static h made.signature.params args → AreReadFrom c f h known 0 args → IsSound c known (is.New k contract (slots_read f.scratch 0 args))
sound_new c f of h known k contract args made own passed read =
    let count : length (slots_read f.scratch 0 args) ≡ length made.signature.params = passed_count f h 0 made.signature.params args passed in
    record {
      slots = good_slots c (is.New k contract (slots_read f.scratch 0 args)) (all_read c f h known 0 args read) (may_set_own c f of k own);
      fields = refl;
      calls = ap not (ap (λ (n : ℕ). option_map_or (constructs n) (contract_code c.image contract) false) count ∙ made.takes);
      met = λ m d. passed_met c f of h known 0 made.signature.params args passed read m
          (subst (λ z. Contains (needs_of_args (slots_read f.scratch 0 args) z) m) made.params.kinds
          (subst (λ z. Contains (needs_of_call (slots_read f.scratch 0 args) z) m) made.constructor d));
    }

pub certified_new : (c : CodeFrame) (f : EmissionFrame) → IsCodeOf c f → (h : Holdings) → HoldsThis f h → (at k : ℕ)
    → IsOwnSlot f k → (contract : ContractId) (args : List Operand)
    → IsMade f.static c.image contract → IfSome (constructor_at f.static.table contract) (λ s. ArePassed f.static h s.params args) → HaveRoom c f 0 args
    → IsCertified c at (new_code f k contract args) (known_of f.scratch h) false (known_of f.scratch (with_slot k (held (Some (kind.Reference contract))) h))
certified_new c f of h this at k own contract args made has room =
    let passed : ArePassed f.static h made.signature.params args = if_there_so (constructor_at f.static.table contract) _ made.signature made.there has in
    let slots = slots_read f.scratch 0 args in
    let after = with_slot k (held (Some (kind.Reference contract))) h in
    let marks = shares (map (λ (p : Parameter). p.of) (parameters made.signature)) slots in
    let place = at + length (loads f.scratch 0 args) in
    subst (λ z. IsCertified c at (loads f.scratch 0 args ++ shares_of_new z slots ++ is.New k contract slots ∷ []) (known_of f.scratch h) false (known_of f.scratch after)) (sym made.there)
    (regrouped c at (loads f.scratch 0 args) marks (is.New k contract slots ∷ []) (known_of f.scratch h) (known_of f.scratch after) false
    (loaded_then c f of h after this at args (marks ++ is.New k contract slots ∷ []) false room
    (λ known knows. certified_both c place marks (is.New k contract slots ∷ []) known known (known_of f.scratch after) false
    (certified_shares c f of place known (map (λ (p : Parameter). p.of) (parameters made.signature)) slots (passed_shared c f h known 0 made.signature.params args passed knows.read))
    (one_then c f of after (place + length marks) (is.New k contract slots) known (refl, λ i. refl) (sound_new c f of h known k contract args made own passed knows.read)
    (set_fits c f.scratch k h (Some (kind.Reference contract)) (Some (kind.Reference contract)) known knows.below (λ x e. (x, e, fits_self c.image x)))))))

-- Results of calls.

-- the slot of a result, if there is one, is one of the body's that no entry sets
abbrev pub IsResultSlot : EmissionFrame → Option ℕ → Type 0
IsResultSlot f None = ⊤
IsResultSlot f (Some k) = IsOwnSlot f k

slot_known : (f : EmissionFrame) (k : Option ℕ) → f.scratch ≤ 128 → IsResultSlot f k → slot_of_result (result_slot k) ≡ k
slot_known f None few own = refl
slot_known f (Some k) few own = elim (eqb_tells k no_result) [
  | inl u ↦ let e : k ≡ 255 = u.1 in let lt = own.low in absurd (omega arith)
  | inr u ↦ rw u.0 refl
]

may_set_result : (c : CodeFrame) (f : EmissionFrame) → IsCodeOf c f → (k : Option ℕ) → IsResultSlot f k
    → option_map_or (may_set c) k true ≡ true
may_set_result c f of None own = refl
may_set_result c f of (Some k) own = may_set_own c f of k own

-- after a call the slot of its result has that
result_fits : (c : CodeFrame) (f : EmissionFrame) (h : Holdings) (k : Option ℕ) (left : Option Kind) (b : BodyCode)
    (known : KindsOfSlots) → KnowsBelow f.scratch h known → left ≡ kind_of_result b
    → Fit c.image (known_of f.scratch (with_slot_if k (held left) h)) (done (effect_of_call k (Some b)) known)
result_fits c f h None left b known below e = below_fits c f.scratch h known below
result_fits c f h (Some k) left b known below e = set_fits c f.scratch k h left (kind_of_result b) known below (λ x g. (x, sym e ∙ g, fits_self c.image x))

or_not : (x y : Bool) → x ≡ y → not x || y ≡ true
or_not true y e = sym e
or_not false y e = refl

-- a transaction takes as many arguments as it has parameters, and gives a result to a slot where it has one
takes_so : (count : ℕ) (k : Option ℕ) (b : BodyCode) (s : Signature) → IsTransactionOf b s → count ≡ length s.params
    → is_some k ≡ is_some s.result → takes count k b ≡ true
takes_so count k b s of counted results =
    let same : (count == length b.params) ≡ true = eq-eqb count (length b.params) (counted ∙ sym of.params.count) in
    let given : not (is_some k) || is_some b.result ≡ true = or_not (is_some k) (is_some b.result) (results ∙ sym of.results) in
    rw (of.plain, same, given) refl

-- Calls with a receiver.

-- what a call with a receiver is known to be
pub record IsCallOf (c : CodeFrame) (f : EmissionFrame) (h : Holdings) (k : Option ℕ) (receiver : Operand) (contract : ContractId) (tx : TxId) (args : List Operand) : Type 0 where
  pub signature : Signature
  pub there : signature_of f.static.table contract tx ≡ Some signature
  pub called : IsCalled c.image contract tx signature
  pub receives : kind_of_operand f.static h receiver ≡ Some (kind.Reference contract)
  pub passed : ArePassed f.static h signature.params args
  pub results : is_some k ≡ is_some signature.result
  pub slot : IsResultSlot f k

sound_call : (c : CodeFrame) (f : EmissionFrame) → IsCodeOf c f
    → (h : Holdings) (known : KindsOfSlots) (k : Option ℕ) (receiver : Operand) (contract : ContractId) (tx : TxId)
    (args : List Operand)
    → IsCallOf c f h k receiver contract tx args → AreReadFrom c f h known 0 (receiver ∷ args)
    → IsSound c known (is.Call (result_slot k) (slot_read f.scratch 0 receiver.place) contract tx (slots_read f.scratch 1 args))
sound_call c f of h known k receiver contract tx args call read =
    let a = slot_read f.scratch 0 receiver.place in
    let slots = slots_read f.scratch 1 args in
    let result : slot_of_result (result_slot k) ≡ k = slot_known f k of.few call.slot in
    let body = call.called.body in
    let count : length slots ≡ length call.signature.params = passed_count f h 1 call.signature.params args call.passed in
    let may : takes (length slots) (slot_of_result (result_slot k)) body && is_answered c.image contract body ≡ true =
    rw (ap (λ z. takes (length slots) z body) result ∙ takes_so (length slots) k body call.signature call.called.of count call.results, call.called.answered) refl in
    record {
      slots = good_slots c (is.Call (result_slot k) a contract tx slots) (all_read c f h known 0 (receiver ∷ args) read) (ap (λ z. option_map_or (may_set c) z true) result ∙ may_set_result c f of k call.slot);
      fields = refl;
      calls = ap not (ap (λ z. option_map_or (λ (b : BodyCode). takes (length slots) (slot_of_result (result_slot k)) b && is_answered c.image contract b) z false) call.called.there ∙ may);
      met = λ m d. more_needed c known (of_kind a (kind.Reference contract)) (needs_of_args slots (kinds_passed call.signature.params))
          (kind_met c known a (kind.Reference contract) (kind.Reference contract) (read.0.kind (kind.Reference contract) call.receives) (fits_self c.image (kind.Reference contract)))
          (passed_met c f of h known 1 call.signature.params args call.passed read.1) m
          (subst (λ z. Contains (of_kind a (kind.Reference contract) ∷ needs_of_args slots z) m) call.called.of.params.kinds
          (subst (λ z. Contains (needs_of_receiver a (kind.Reference contract) slots z) m) call.called.there d));
    }

-- the kind of a result that is known
kind_of_called : (f : StaticFrame) (contract : ContractId) (tx : TxId) (s : Signature) (b : BodyCode)
    → signature_of f.table contract tx ≡ Some s → IsTransactionOf b s
    → result_kind f contract tx ≡ kind_of_result b
kind_of_called f contract tx s b there of = ap (option_and_then (λ (z : Signature). option_map kind_of_resolved z.result)) there ∙ sym of.result

pub certified_call : (c : CodeFrame) (f : EmissionFrame) → IsCodeOf c f → (h : Holdings) → HoldsThis f h
    → (at : ℕ) (k : Option ℕ) (receiver : Operand) (contract : ContractId) (tx : TxId)
    (args : List Operand) → IsCallOf c f h k receiver contract tx args → HaveRoom c f 0 (receiver ∷ args)
    → IsCertified c at (call_code f k receiver contract tx args) (known_of f.scratch h) false (known_of f.scratch (with_slot_if k (held (result_kind f.static contract tx)) h))
certified_call c f of h this at k receiver contract tx args call room =
    let s = call.signature in
    let slots = slots_read f.scratch 0 (receiver ∷ args) in
    let x = is.Call (result_slot k) (slot_read f.scratch 0 receiver.place) contract tx (slots_read f.scratch 1 args) in
    let after = with_slot_if k (held (result_kind f.static contract tx)) h in
    let marks = shares (map (λ (p : Parameter). p.of) (all_parameters contract s)) slots in
    let place = at + length (loads f.scratch 0 (receiver ∷ args)) in
    let result : slot_of_result (result_slot k) ≡ k = slot_known f k of.few call.slot in
    subst (λ z. IsCertified c at (loads f.scratch 0 (receiver ∷ args) ++ shares_of_call contract z slots ++ x ∷ []) (known_of f.scratch h) false (known_of f.scratch after)) (sym call.there)
    (regrouped c at (loads f.scratch 0 (receiver ∷ args)) marks (x ∷ []) (known_of f.scratch h) (known_of f.scratch after) false
    (loaded_then c f of h after this at (receiver ∷ args) (marks ++ x ∷ []) false room
    (λ known knows. certified_both c place marks (x ∷ []) known known (known_of f.scratch after) false
    (certified_shares c f of place known (map (λ (p : Parameter). p.of) (all_parameters contract s)) slots (
      (knows.read.0.within, reference_met c known (slot_read f.scratch 0 receiver.place) (kind.Reference contract) (knows.read.0.kind (kind.Reference contract) call.receives) refl),
      passed_shared c f h known 1 s.params args call.passed knows.read.1,
    ))
    (one_then c f of after (place + length marks) x known (refl, λ i. refl) (sound_call c f of h known k receiver contract tx args call knows.read)
    (subst (λ z. Fit c.image (known_of f.scratch after) (done (effect_of_call (slot_of_result (result_slot k)) z) known)) (sym call.called.there)
    (subst (λ z. Fit c.image (known_of f.scratch after) (done (effect_of_call z (Some call.called.body)) known)) (sym result)
    (result_fits c f h k (result_kind f.static contract tx) call.called.body known knows.below
    (kind_of_called f.static contract tx s call.called.body call.there call.called.of))))))))

-- Calls of `this`.

-- what a call of `this` is known to be
pub record IsCallHere (c : CodeFrame) (f : EmissionFrame) (h : Holdings) (k : Option ℕ) (tx : TxId) (args : List Operand) : Type 0 where
  pub signature : Signature
  pub there : signature_of f.static.table f.static.here tx ≡ Some signature
  pub called : IsCalledHere c tx signature
  pub passed : ArePassed f.static h signature.params args
  pub results : is_some k ≡ is_some signature.result
  pub slot : IsResultSlot f k

sound_call_here : (c : CodeFrame) (f : EmissionFrame) → IsCodeOf c f
    → (h : Holdings) (known : KindsOfSlots) (k : Option ℕ) (tx : TxId) (args : List Operand)
    → IsCallHere c f h k tx args → AreReadFrom c f h known 0 args → IsSound c known (is.SelfCall (result_slot k) tx (slots_read f.scratch 0 args))
sound_call_here c f of h known k tx args call read =
    let slots = slots_read f.scratch 0 args in
    let result : slot_of_result (result_slot k) ≡ k = slot_known f k of.few call.slot in
    let body = call.called.body in
    let count : length slots ≡ length call.signature.params = passed_count f h 0 call.signature.params args call.passed in
    let may : takes (length slots) (slot_of_result (result_slot k)) body ≡ true =
    ap (λ z. takes (length slots) z body) result ∙ takes_so (length slots) k body call.signature call.called.of count call.results in
    record {
      slots = good_slots c (is.SelfCall (result_slot k) tx slots) (all_read c f h known 0 args read) (ap (λ z. option_map_or (may_set c) z true) result ∙ may_set_result c f of k call.slot);
      fields = refl;
      calls = ap not (ap (λ z. option_map_or (takes (length slots) (slot_of_result (result_slot k))) z false) call.called.there ∙ may);
      met = λ m d. passed_met c f of h known 0 call.signature.params args call.passed read m
          (subst (λ z. Contains (needs_of_args slots z) m) call.called.of.params.kinds (subst (λ z. Contains (needs_of_call slots z) m) call.called.there d));
    }

pub certified_call_here : (c : CodeFrame) (f : EmissionFrame) → IsCodeOf c f → (h : Holdings) → HoldsThis f h
    → (at : ℕ) (k : Option ℕ) (tx : TxId)
    (args : List Operand) → IsCallHere c f h k tx args → HaveRoom c f 0 args
    → IsCertified c at (call_this_code f k tx args) (known_of f.scratch h) false (known_of f.scratch (with_slot_if k (held (result_kind f.static f.static.here tx)) h))
certified_call_here c f of h this at k tx args call room =
    let s = call.signature in
    let slots = slots_read f.scratch 0 args in
    let x = is.SelfCall (result_slot k) tx slots in
    let after = with_slot_if k (held (result_kind f.static f.static.here tx)) h in
    let marks = shares (map (λ (p : Parameter). p.of) (all_parameters f.static.here s)) (0 ∷ slots) in
    let place = at + length (loads f.scratch 0 args) in
    let result : slot_of_result (result_slot k) ≡ k = slot_known f k of.few call.slot in
    let zero : 0 < c.body.slots = let a = of.first in let b = of.within in omega arith in
    subst (λ z. IsCertified c at (loads f.scratch 0 args ++ shares_of_call f.static.here z (0 ∷ slots) ++ x ∷ []) (known_of f.scratch h) false (known_of f.scratch after)) (sym call.there)
    (regrouped c at (loads f.scratch 0 args) marks (x ∷ []) (known_of f.scratch h) (known_of f.scratch after) false
    (loaded_then c f of h after this at args (marks ++ x ∷ []) false room
    (λ known knows. certified_both c place marks (x ∷ []) known known (known_of f.scratch after) false
    (certified_shares c f of place known (map (λ (p : Parameter). p.of) (all_parameters f.static.here s)) (0 ∷ slots) (
      (zero, reference_met c known 0 (kind.Reference f.static.here) (knows.below 0 of.first ∙ this) refl),
      passed_shared c f h known 0 s.params args call.passed knows.read,
    ))
    (one_then c f of after (place + length marks) x known (refl, λ i. refl) (sound_call_here c f of h known k tx args call knows.read)
    (subst (λ z. Fit c.image (known_of f.scratch after) (done (effect_of_call (slot_of_result (result_slot k)) z) known)) (sym call.called.there)
    (subst (λ z. Fit c.image (known_of f.scratch after) (done (effect_of_call z (Some call.called.body)) known)) (sym result)
    (result_fits c f h k (result_kind f.static f.static.here tx) call.called.body known knows.below
    (kind_of_called f.static f.static.here tx s call.called.body call.there call.called.of))))))))

-- Changes of state.

given_read : (c : CodeFrame) (f : EmissionFrame) (h : Holdings) (known : KindsOfSlots) (n : ℕ) (given : List Given)
    → AreReadFrom c f h known n (values_given given)
    → list_all (λ (j : ℕ). nat_lt j c.body.slots) (map (λ (pair : FieldId × ℕ). pair.1) (given_slots f.scratch n given)) ≡ true
given_read c f h known n [] r = refl
given_read c f h known n (g ∷ gs) r = rw (lt-ltb (slot_read f.scratch n g.from.place) c.body.slots r.0.within, given_read c f h known (n + 1) gs r.1) refl

given_within : (c : CodeFrame) (f : EmissionFrame) → IsCodeOf c f → (n : ℕ) (given : List Given) → AreFields f.static given
    → list_all (λ (field : FieldId). nat_lt field.0 (length c.own.fields)) (map (λ (pair : FieldId × ℕ). pair.0) (given_slots f.scratch n given)) ≡ true
given_within c f of n [] fields = refl
given_within c f of n (g ∷ gs) fields =
    let field = is_there (field_at f.static.own g.field) fields.0 in
    rw (lt-ltb g.field.0 (length c.own.fields) (of.says.field g.field field.0 field.1).within, given_within c f of (n + 1) gs fields.2) refl

given_met : (c : CodeFrame) (f : EmissionFrame) → IsCodeOf c f
    → (h : Holdings) (known : KindsOfSlots) (n : ℕ) (given : List Given) → AreFields f.static given → AreServed f.static h given
    → AreReadFrom c f h known n (values_given given) → (m : Need) → Contains (needs_of_given c (given_slots f.scratch n given)) m → meets c.image known m ≡ true
given_met c f of h known n [] fields served r m d = none_needed c known m d
given_met c f of h known n (g ∷ gs) fields served r m d =
    let field = is_there (field_at f.static.own g.field) fields.0 in
    let a = slot_read f.scratch n g.from.place in
    let serves : HasKind f.static h (kind_of_resolved field.0.of) g.from = if_there_so (field_at f.static.own g.field) _ field.0 field.1 served.0 in
    elim (Contains-append_cases (need_of a (kind_of_field c g.field.0)) (needs_of_given c (given_slots f.scratch (n + 1) gs)) m d) [
      | inl w ↦ one_needed c known (of_kind a (kind_of_resolved field.0.of)) (operand_met c f of h known a (kind_of_resolved field.0.of) g.from serves r.0) m
          (subst (λ z. Contains (need_of a z) m) (of.says.field g.field field.0 field.1).kind w)
      | inr w ↦ given_met c f of h known (n + 1) gs fields.2 served.1 r.1 m w
    ]

given_shared : (c : CodeFrame) (f : EmissionFrame) → IsCodeOf c f
    → (h : Holdings) (at : ℕ) (known : KindsOfSlots) (n : ℕ) (given : List Given) → AreFields f.static given
    → AreServed f.static h given → AreReadFrom c f h known n (values_given given) → IsCertified c at (shares_of_given f.static.own (given_slots f.scratch n given)) known false known
given_shared c f of h at known n [] fields served r = certified_none c of.says.alone at known known (fit_self c.image known)
given_shared c f of h at known n (g ∷ gs) fields served r =
    let field = is_there (field_at f.static.own g.field) fields.0 in
    let a = slot_read f.scratch n g.from.place in
    let serves : HasKind f.static h (kind_of_resolved field.0.of) g.from = if_there_so (field_at f.static.own g.field) _ field.0 field.1 served.0 in
    certified_both c at (share_in_field f.static.own g.field a) (shares_of_given f.static.own (given_slots f.scratch (n + 1) gs)) known known known false
    (certified_share_in c f of h at known g.field field.0 a g.from field.1 serves r.0)
    (given_shared c f of h (at + length (share_in_field f.static.own g.field a)) known (n + 1) gs fields.2 served.1 r.1)

pub certified_change : (c : CodeFrame) (f : EmissionFrame) → IsCodeOf c f → (h : Holdings) → HoldsThis f h
    → (at : ℕ) (state : StateId) (given : List Given)
    → state.0 < length f.static.own.states → AreFields f.static given → AreServed f.static h given → HaveRoom c f 0 (values_given given)
    → IsCertified c at (change_code f.static.own f.scratch state given) (known_of f.scratch h) false (known_of f.scratch h)
certified_change c f of h this at state given there fields served room =
    let slots = given_slots f.scratch 0 given in
    let x = is.Change state slots in
    let marks = shares_of_given f.static.own slots in
    let place = at + length (loads f.scratch 0 (values_given given)) in
    loaded_then c f of h h this at (values_given given) (x ∷ marks) false room
    (λ known knows. certified_both c place (x ∷ []) marks known known (known_of f.scratch h) false
    (certified_one c place x known (refl, λ i. refl) (record {
      slots = good_slots c x (given_read c f h known 0 given knows.read) refl;
      fields = ap not (given_within c f of 0 given fields);
      calls = ap not (of.says.state state there);
      met = given_met c f of h known 0 given fields served knows.read;
    }))
    (certified_after c of.says.alone (place + 1) marks known known (known_of f.scratch h) false (below_fits c f.scratch h known knows.below)
    (given_shared c f of h (place + 1) known 0 given fields served knows.read)))

-- Returns.

mark_constructed : (c : CodeFrame) (f : EmissionFrame) → IsCodeOf c f → (h : Holdings) → HoldsThis f h → (at : ℕ) (b : Bool)
    → IsCertified c at (if b then share (typed.Reference f.static.here f.signature.exit) 0 else []) (known_of f.scratch h) false (known_of f.scratch h)
mark_constructed c f of h this at true =
    let zero : 0 < c.body.slots = let a = of.first in let b = of.within in omega arith in
    certified_share c f of at (known_of f.scratch h) 0 (typed.Reference f.static.here f.signature.exit)
    (zero, reference_met c (known_of f.scratch h) 0 (kind.Reference f.static.here) (knows_itself f.scratch h 0 of.first ∙ this) refl)
mark_constructed c f of h this at false = certified_none c of.says.alone at (known_of f.scratch h) (known_of f.scratch h) (fit_self c.image (known_of f.scratch h))

returns_none : (f : StaticFrame) (h : Holdings) (r : Option Kind) → IsReturnedAs f h r None → is_some r ≡ false
returns_none f h None returned = refl
returns_none f h (Some x) returned = absurd returned

returns_one : (f : StaticFrame) (h : Holdings) (r : Option Kind) (o : Operand) → IsReturnedAs f h r (Some o)
    → (x : Kind) × (r ≡ Some x) × HasKind f h x o
returns_one f h None o returned = absurd returned
returns_one f h (Some x) o returned = (x, refl, returned)

certified_return_none : (c : CodeFrame) (f : EmissionFrame) → IsCodeOf c f → (h after : Holdings) → HoldsThis f h → (at : ℕ)
    → IsReturnedAs f.static h f.static.result None
    → IsCertified c at (return_none_code f) (known_of f.scratch h) true (known_of f.scratch after)
certified_return_none c f of h after this at returned =
    let marks = if f.constructs then share (typed.Reference f.static.here f.signature.exit) 0 else [] in
    certified_both c at marks (is.Ret ∷ []) (known_of f.scratch h) (known_of f.scratch h) (known_of f.scratch after) true (mark_constructed c f of h this at f.constructs)
    (certified_last c (at + length marks) is.Ret (known_of f.scratch h) (known_of f.scratch after) (refl, λ i. refl) (record {
      slots = refl;
      fields = refl;
      calls = of.says.results ∙ returns_none f.static h f.static.result returned;
      met = none_needed c (known_of f.scratch h);
    }))

result_shared : (c : CodeFrame) (f : EmissionFrame) → IsCodeOf c f
    → (h : Holdings) (at : ℕ) (known : KindsOfSlots) (a : ℕ) (o : Operand) (x : Kind) (t : Option ResolvedType)
    → option_map kind_of_resolved t ≡ Some x → HasKind f.static h x o → IsReadFrom c f.static h known a o
    → IsCertified c at (option_map_or (λ (of_type : ResolvedType). share of_type a) t []) known false known
result_shared c f of h at known a o x None e has read = absurd (cc)
result_shared c f of h at known a o x (Some t) e has read =
    certified_share c f of at known a t (operand_shared c f h known a t o (subst (λ z. HasKind f.static h z o) (sym (some_same e)) has) read)

pub certified_return : (c : CodeFrame) (f : EmissionFrame) → IsCodeOf c f → (h after : Holdings) → HoldsThis f h
    → (at : ℕ) (value : Option Operand)
    → IsReturnedAs f.static h f.static.result value → ((o : Operand) → value ≡ Some o → HaveRoom c f 0 (o ∷ []))
    → IsCertified c at (return_code f value) (known_of f.scratch h) true (known_of f.scratch after)
certified_return c f of h after this at None returned room = certified_return_none c f of h after this at returned
certified_return c f of h after this at (Some o) returned room =
    let a = slot_read f.scratch 0 o.place in
    let w = returns_one f.static h f.static.result o returned in
    let marks = share_result f.signature a in
    let place = at + length (loads f.scratch 0 (o ∷ [])) in
    regrouped c at (loads f.scratch 0 (o ∷ [])) marks (is.RetValue a ∷ []) (known_of f.scratch h) (known_of f.scratch after) true
    (loaded_then c f of h after this at (o ∷ []) (marks ++ is.RetValue a ∷ []) true (room o refl)
    (λ known knows. certified_both c place marks (is.RetValue a ∷ []) known known (known_of f.scratch after) true
    (result_shared c f of h place known a o w.0 f.signature.result (sym of.result ∙ w.1) w.2 knows.read.0)
    (certified_last c (place + length marks) (is.RetValue a) known (known_of f.scratch after) (refl, λ i. refl) (record {
      slots = good_slots c (is.RetValue a) (one_read c a knows.read.0.within) refl;
      fields = refl;
      calls = ap not (of.says.results ∙ ap is_some w.1);
      met = λ m d. one_needed c known (of_kind a w.0) (operand_met c f of h known a w.0 o w.2 knows.read.0) m
          (subst (λ z. Contains (need_of a z) m) (of.says.result ∙ w.1) d);
    }))))
