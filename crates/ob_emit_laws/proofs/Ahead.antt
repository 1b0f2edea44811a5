-- Each jump of emitted code leads ahead, or to a `unit`.
use Rattle.std.proofs.Common.{◌≡◌, ℕ, zero, suc, ◌+◌, ◌<◌, Bool, true, false, List, [], ◌∷◌, ◌++◌, map, length, Option, Some, None, refl, sym, ap, ◌∙◌, subst, arith, ◌⊎◌, inl, inr, cond, eqb-true}
use Rattle.std.proofs.lemmas.Bool.{and_parts}
use Rattle.std.proofs.lemmas.List.{length-append, append_assoc}
use Rattle.std.proofs.lemmas.Option.{same_Some}
use Rattle.std.specs.Prelude.{find, slice_get, option_map, if◌then◌else◌, not, nat_eq, All, IsSomeAnd}
use Rattle.std.specs.Option.{option_map_or}
use Rattle.ob_base.specs.Optional.{◌>>=◌}
use Rattle.ob_base.specs.declared.id.ContractId.{ContractId}
use Rattle.ob_base.specs.declared.id.FieldId.{FieldId}
use Rattle.ob_base.specs.declared.id.TxId.{TxId}
use Rattle.ob_perm.specs.Masks.{permission_of}
use Rattle.ob_perm.specs.Permissions.{is_shared}
use Rattle.ob_table.specs.Tables.{ClassTable, contract_at, field_at, signature_at, signature_of}
use Rattle.ob_table.specs.declared.contract.Contract.{Contract}
use Rattle.ob_table.specs.declared.contract.Field.{Field as FieldOf}
use Rattle.ob_table.specs.declared.contract.ResolvedType.{ResolvedType}
use Rattle.ob_table.specs.declared.contract.ResolvedType.TheVariants as typed
use Rattle.ob_table.specs.declared.contract.Signature.{Signature}
use Rattle.ob_table_spec.specs.WellFormed.{constructor_at, frame_of}
use Rattle.ob_silica.specs.Terms.{SilicaForm, unit_form, const_form, op_form, copy_form, move_form, new_form, call_form, call_this_form, change_form, test_form, if_form, loop_form, assert_form, disown_form, drop_form, return_form, revert_form, bad_row_form, SilicaTerms, no_terms, and_term, SilicaBody}
use Rattle.ob_silica.specs.declared.place.Constant.{Constant}
use Rattle.ob_silica.specs.declared.place.Constant.TheVariants as constant
use Rattle.ob_silica.specs.declared.place.Operand.{Operand}
use Rattle.ob_silica.specs.declared.place.Place.{Place}
use Rattle.ob_silica.specs.declared.place.Place.TheVariants.{This, Slot, Field}
use Rattle.ob_silica.specs.declared.term.SilicaOperator.{SilicaOperator}
use Rattle.ob_silica.specs.declared.term.SilicaOperator.TheVariants.{Unary, Binary}
use Rattle.ob_silica_places.specs.Parameters.{Parameter, all_parameters, parameters}
use Rattle.ob_silica_formed.specs.Holdings.{Holdings, held_at_start, kind_of_operand, terms_end, after_form, after_terms, at_head, Each, EachWithin}
use Rattle.ob_silica_formed.specs.Points.{BeginsWithUnit, TakesTurns}
use Rattle.ob_silica_formed.specs.WellFormedTerms.{AreWellFormed, IsWellFormedTerms}
use Rattle.ob_silica_steps.specs.Configurations.{is_terms_of}
use Rattle.ob_code.specs.declared.image.BodyCode.{BodyCode}
use Rattle.ob_code.specs.declared.image.ContractCode.{ContractCode}
use Rattle.ob_code.specs.declared.image.Image.{Image}
use Rattle.ob_code.specs.declared.instruction.Instruction.{Instruction}
use Rattle.ob_code.specs.declared.instruction.Instruction.TheVariants as instruction
use Rattle.ob_code.specs.Code.{is_interface}
use Rattle.ob_code_table.specs.Images.{instruction_of, instruction_at}
use Rattle.ob_machine_steps.specs.Measures.{IsAheadOrUnit}
use Rattle.ob_emit_spec.specs.Operands.{slot_read, load, slots_read, loads, values_given, share, shares}
use Rattle.ob_emit_spec.specs.Emission.{EmissionFrame, constant_code, operation_code, fetch_code, share_in_field, copy_code, move_code, shares_of_call, shares_of_new, given_slots, shares_of_given, jumps_over, after_branch, choice_code, end_test, jump_if, turn_code, loop_code, contract_referred, share_result, return_code, after_load, choose_code, form_code, terms_code}
use Rattle.ob_emit_spec.specs.EmittedImages.{frame_of_body, emitted_body, emitted_contract, image_of}
use Rattle.ob_emit_laws.specs.Laws.{EmittedJumpsLeadAheadOrToUnit}
use Rattle.ob_emit_spec.proofs.Contracts.{contract_same, emitted_at, body_same, all_at}

-- where an instruction at a place of code may jump is ahead, or a `unit`
abbrev LeadsFrom : List Instruction → ℕ → Instruction → Type 0
LeadsFrom code at (instruction.Jump target) = (at < target) ⊎ (slice_get code target ≡ Some instruction.Unit)
LeadsFrom code at (instruction.Unless a target) = (at < target) ⊎ (slice_get code target ≡ Some instruction.Unit)
LeadsFrom code at (instruction.Test a of state target) = (at < target) ⊎ (slice_get code target ≡ Some instruction.Unit)
LeadsFrom code at other = Unit {0}

-- the same of instructions at a place of code
abbrev Ahead : List Instruction → ℕ → List Instruction → Type 0
Ahead code at [] = Unit {0}
Ahead code at (i ∷ is) = LeadsFrom code at i × Ahead code (at + 1) is

-- the same of instructions wherever they stand
abbrev Anywhere : List Instruction → Type 0
Anywhere is = (code : List Instruction) (at : ℕ) → Ahead code at is

-- these instructions stand at a place of code
abbrev HasAt : List Instruction → ℕ → List Instruction → Type 0
HasAt code at [] = Unit {0}
HasAt code at (i ∷ is) = (slice_get code at ≡ Some i) × HasAt code (at + 1) is

-- where these instructions stand so, they lead so
abbrev Placed : List Instruction → ℕ → List Instruction → Type 0
Placed code at is = HasAt code at is → Ahead code at is

-- Code behind code.

nil_place : (at : ℕ) → at ≡ at + 0
nil_place at = omega arith

next_place : (at n : ℕ) → at + 1 + n ≡ at + suc n
next_place at n = omega arith

both : (code : List Instruction) (at : ℕ) (xs ys : List Instruction) → Ahead code at xs → Ahead code (at + length xs) ys → Ahead code at (xs ++ ys)
both code at [] ys a b = subst (λ n. Ahead code n ys) (sym (nil_place at)) b
both code at (x ∷ xs) ys a b = (a.0, both code (at + 1) xs ys a.1 (subst (λ n. Ahead code n ys) (sym (next_place at (length xs))) b))

both_anywhere : (xs ys : List Instruction) → Anywhere xs → Anywhere ys → Anywhere (xs ++ ys)
both_anywhere xs ys a b code at = both code at xs ys (a code at) (b code (at + length xs))

has_front : (code : List Instruction) (at : ℕ) (xs ys : List Instruction) → HasAt code at (xs ++ ys) → HasAt code at xs
has_front code at [] ys h = tt
has_front code at (x ∷ xs) ys h = (h.0, has_front code (at + 1) xs ys h.1)

has_back : (code : List Instruction) (at : ℕ) (xs ys : List Instruction) → HasAt code at (xs ++ ys) → HasAt code (at + length xs) ys
has_back code at [] ys h = subst (λ n. HasAt code n ys) (nil_place at) h
has_back code at (x ∷ xs) ys h = subst (λ n. HasAt code n ys) (next_place at (length xs)) (has_back code (at + 1) xs ys h.1)

both_placed : (code : List Instruction) (at : ℕ) (xs ys : List Instruction) → Placed code at xs → Placed code (at + length xs) ys → Placed code at (xs ++ ys)
both_placed code at xs ys a b h = both code at xs ys (a (has_front code at xs ys h)) (b (has_back code at xs ys h))

-- the whole code stands at its beginning
has_all : (before is : List Instruction) → HasAt (before ++ is) (length before) is
has_all before [] = tt
has_all before (i ∷ is) = (
  there before,
  subst (λ n. HasAt (before ++ i ∷ is) n is) (length-append before (i ∷ []))
      (subst (λ l. HasAt l (length (before ++ i ∷ [])) is) (append_assoc before (i ∷ []) is) (has_all (before ++ i ∷ []) is)),
)
  where
    there : (xs : List Instruction) → slice_get (xs ++ i ∷ is) (length xs) ≡ Some i
    there [] = refl
    there (x ∷ xs) = there xs

nothing : Anywhere []
nothing code at = tt

if_anywhere : (b : Bool) (xs ys : List Instruction) → Anywhere xs → Anywhere ys → Anywhere (if b then xs else ys)
if_anywhere true xs ys a b = a
if_anywhere false xs ys a b = b

some_anywhere : {A : Type 0} (f : A → List Instruction) (o : Option A) → ((x : A) → Anywhere (f x))
    → Anywhere (option_map_or f o [])
some_anywhere f None h = nothing
some_anywhere f (Some x) h = h x

ahead_at : (code : List Instruction) (at : ℕ) (is : List Instruction) (k : ℕ) (i : Instruction) → Ahead code at is → slice_get is k ≡ Some i
    → LeadsFrom code (at + k) i
ahead_at code at [] k i h e = absurd (let none : ◌≡◌ {A = Option Instruction} None (Some i) = e in cc)
ahead_at code at (x ∷ xs) zero i h e =
    subst (λ n. LeadsFrom code n i) (nil_place at) (subst (LeadsFrom code at) (same_Some x i e) h.0)
ahead_at code at (x ∷ xs) (suc k) i h e =
    subst (λ n. LeadsFrom code n i) (next_place at k) (ahead_at code (at + 1) xs k i h.1 e)

-- Operands and marks.

load_anywhere : (scratch n : ℕ) (place : Place) → Anywhere (load scratch n place)
load_anywhere scratch n This = nothing
load_anywhere scratch n (Slot k) = nothing
load_anywhere scratch n (Field id) = λ code at. (tt, tt)

loads_anywhere : (scratch n : ℕ) (os : List Operand) → Anywhere (loads scratch n os)
loads_anywhere scratch n [] = nothing
loads_anywhere scratch n (o ∷ os) =
    both_anywhere (load scratch n o.place) (loads scratch (n + 1) os) (load_anywhere scratch n o.place)
    (loads_anywhere scratch (n + 1) os)

share_anywhere : (of : ResolvedType) (a : ℕ) → Anywhere (share of a)
share_anywhere typed.Int a = nothing
share_anywhere typed.Bool a = nothing
share_anywhere typed.Text a = nothing
share_anywhere (typed.Reference id p) a =
    if_anywhere (is_shared (permission_of p)) (instruction.Share a ∷ []) [] (λ code at. (tt, tt)) nothing

shares_anywhere : (types : List ResolvedType) (slots : List ℕ) → Anywhere (shares types slots)
shares_anywhere [] slots = nothing
shares_anywhere (of ∷ types) [] = nothing
shares_anywhere (of ∷ types) (a ∷ slots) =
    both_anywhere (share of a) (shares types slots) (share_anywhere of a) (shares_anywhere types slots)

field_anywhere : (own : Contract) (id : FieldId) (a : ℕ) → Anywhere (share_in_field own id a)
field_anywhere own id a = some_anywhere (λ (f : FieldOf). share f.of a) (field_at own id) (λ f. share_anywhere f.of a)

given_anywhere : (own : Contract) (given : List (FieldId × ℕ)) → Anywhere (shares_of_given own given)
given_anywhere own [] = nothing
given_anywhere own (g ∷ gs) =
    both_anywhere (share_in_field own g.0 g.1) (shares_of_given own gs) (field_anywhere own g.0 g.1) (given_anywhere own gs)

call_anywhere : (contract : ContractId) (s : Option Signature) (slots : List ℕ) → Anywhere (shares_of_call contract s slots)
call_anywhere contract None slots = nothing
call_anywhere contract (Some s) slots = shares_anywhere (map (λ (p : Parameter). p.of) (all_parameters contract s)) slots

new_anywhere : (s : Option Signature) (slots : List ℕ) → Anywhere (shares_of_new s slots)
new_anywhere None slots = nothing
new_anywhere (Some s) slots = shares_anywhere (map (λ (p : Parameter). p.of) (parameters s)) slots

-- Straight forms. Loads and marks stand before an instruction that is no jump.

-- an instruction wherever it stands
abbrev Plain : Instruction → Type 0
Plain i = (code : List Instruction) (at : ℕ) → LeadsFrom code at i

loaded : (scratch n : ℕ) (os : List Operand) (i : Instruction) → Plain i → Anywhere (loads scratch n os ++ i ∷ [])
loaded scratch n os i plain = both_anywhere (loads scratch n os) (i ∷ []) (loads_anywhere scratch n os) (λ code at. (plain code at, tt))

marked : (scratch n : ℕ) (os : List Operand) (marks : List Instruction) (i : Instruction) → Anywhere marks → Plain i
    → Anywhere (loads scratch n os ++ marks ++ i ∷ [])
marked scratch n os marks i anywhere plain =
    both_anywhere (loads scratch n os ++ marks) (i ∷ [])
    (both_anywhere (loads scratch n os) marks (loads_anywhere scratch n os) anywhere)
    (λ code at. (plain code at, tt))

constant_plain : (k : ℕ) (value : Constant) → Plain (constant_code k value)
constant_plain k (constant.Int z) = λ code at. tt
constant_plain k (constant.Bool b) = λ code at. tt
constant_plain k (constant.Text bytes) = λ code at. tt

operation_anywhere : (scratch k : ℕ) (o : SilicaOperator) (a b : Operand) (line : ℕ)
    → Anywhere (operation_code scratch k o a b line)
operation_anywhere scratch k (Unary o) a b line = loaded scratch 0 (a ∷ []) _ (λ code at. tt)
operation_anywhere scratch k (Binary o) a b line = loaded scratch 0 (a ∷ b ∷ []) _ (λ code at. tt)

fetch_plain : (k : ℕ) (place : Place) → Plain (fetch_code k place)
fetch_plain k This = λ code at. tt
fetch_plain k (Slot a) = λ code at. tt
fetch_plain k (Field id) = λ code at. tt

copy_anywhere : (scratch : ℕ) (to : Place) (from : Operand) → Anywhere (copy_code scratch to from)
copy_anywhere scratch This from = λ code at. (fetch_plain 0 from.place code at, tt)
copy_anywhere scratch (Slot k) from = λ code at. (fetch_plain k from.place code at, tt)
copy_anywhere scratch (Field id) from = loaded scratch 0 (from ∷ []) _ (λ code at. tt)

move_anywhere : (own : Contract) (scratch : ℕ) (to : Place) (from : Operand) → Anywhere (move_code own scratch to from)
move_anywhere own scratch This from = λ code at. (fetch_plain 0 from.place code at, tt)
move_anywhere own scratch (Slot k) from = λ code at. (fetch_plain k from.place code at, tt)
move_anywhere own scratch (Field id) from =
    marked scratch 0 (from ∷ []) (share_in_field own id (slot_read scratch 0 from.place)) _
    (field_anywhere own id (slot_read scratch 0 from.place)) (λ code at. tt)

return_anywhere : (f : EmissionFrame) (place : Option Operand) → Anywhere (return_code f place)
return_anywhere f None =
    both_anywhere (if f.constructs then share (typed.Reference f.static.here f.signature.exit) 0 else []) (instruction.Ret ∷ [])
    (if_anywhere f.constructs (share (typed.Reference f.static.here f.signature.exit) 0) []
    (share_anywhere (typed.Reference f.static.here f.signature.exit) 0) nothing) (λ code at. (tt, tt))
return_anywhere f (Some o) =
    marked f.scratch 0 (o ∷ []) (share_result f.signature (slot_read f.scratch 0 o.place)) _
    (some_anywhere (λ of. share of (slot_read f.scratch 0 o.place)) f.signature.result
    (λ of. share_anywhere of (slot_read f.scratch 0 o.place))) (λ code at. tt)

-- Branches.

end_anywhere : (branch : SilicaTerms) → Anywhere (end_test branch)
end_anywhere branch = if_anywhere (terms_end branch) [] (instruction.EndTest ∷ []) nothing (λ code at. (tt, tt))

-- an instruction that chooses leads ahead wherever its target is ahead
abbrev Chooses : (ℕ → Instruction) → Type 0
Chooses chooses = (code : List Instruction) (at target : ℕ) → at < target → LeadsFrom code at (chooses target)

choice_placed : (code : List Instruction) (at : ℕ) (chooses : ℕ → Instruction) (jumps : Bool) (branch other : List Instruction) → Chooses chooses
    → Placed code (at + 1) branch
    → Placed code (after_branch (at + 1) branch jumps) other → Placed code at (choice_code at chooses jumps branch other)
choice_placed code at chooses true branch other leads inside after = λ h.
    let target = after_branch (at + 1) branch true in
    let low : at < target = omega arith in
    let over : at + 1 + length branch < target + length other = omega arith in
    let jump = instruction.Jump (target + length other) ∷ [] in
    let place : at + 1 + length branch + 1 ≡ at + 1 + length (branch ++ jump) =
    (let e = length-append branch jump in omega (arith, e)) in (
      leads code at target low,
      both_placed code (at + 1) (branch ++ jump) other (both_placed code (at + 1) branch jump inside (λ k. (inl over, tt)))
          (subst (λ n. Placed code n other) place after) h.1,
    )
choice_placed code at chooses false branch other leads inside after = λ h.
    let target = after_branch (at + 1) branch false in
    let low : at < target = omega arith in
    let none : List Instruction = [] in
    let place : at + 1 + length branch + 0 ≡ at + 1 + length (branch ++ none) =
    (let e = length-append branch none in omega (arith, e)) in (
      leads code at target low,
      both_placed code (at + 1) (branch ++ []) other (both_placed code (at + 1) branch [] inside (λ k. tt))
          (subst (λ n. Placed code n other) place after) h.1,
    )

choose_placed : (code : List Instruction) (f : EmissionFrame) (o : Operand) (chooses : ℕ → ℕ → Instruction) (jumps : Bool)
    (branch other : ℕ → List Instruction) (at : ℕ)
    → ((a : ℕ) → Chooses (chooses a)) → ((n : ℕ) → Placed code n (branch n)) → ((n : ℕ) → Placed code n (other n))
    → Placed code at (choose_code f o chooses jumps branch other at)
choose_placed code f o chooses jumps branch other at leads inside after =
    let n = after_load f o at in
    both_placed code at (loads f.scratch 0 (o ∷ [])) _ (λ k. loads_anywhere f.scratch 0 (o ∷ []) code at)
    (choice_placed code n (chooses (slot_read f.scratch 0 o.place)) jumps (branch (n + 1))
    (other (after_branch (n + 1) (branch (n + 1)) jumps))
    (leads (slot_read f.scratch 0 o.place)) (inside (n + 1)) (after (after_branch (n + 1) (branch (n + 1)) jumps)))

-- Turns of a loop: its first part begins with a `unit`, to which the jump behind leads.

back_placed : (code : List Instruction) (at start : ℕ) (again : Bool) → slice_get code start ≡ Some instruction.Unit
    → Placed code at (jump_if again start)
back_placed code at start true unit = λ k. (inr unit, tt)
back_placed code at start false unit = λ k. tt

turn_low : (at n : ℕ) (again : Bool) → at < at + 1 + n + (if again then 1 else 0)
turn_low at n true = omega arith
turn_low at n false = omega arith

turn_placed : (code : List Instruction) (a start : ℕ) (again : Bool) (at : ℕ) (body : List Instruction) → slice_get code start ≡ Some instruction.Unit
    → Placed code (at + 1) body → Placed code at (turn_code a start again at body)
turn_placed code a start again at body unit inside = λ h. (
  inl (turn_low at (length body) again),
  both_placed code (at + 1) body (jump_if again start) inside (back_placed code (at + 1 + length body) start again unit) h.1,
)

loop_placed : (code : List Instruction) (f : EmissionFrame) (o : Operand) (again : Bool) (first : List Instruction)
    (body : ℕ → List Instruction) (start : ℕ)
    → (HasAt code start first → slice_get code start ≡ Some instruction.Unit) → Placed code start first
    → ((n : ℕ) → Placed code n (body n)) → Placed code start (loop_code f o again first body start)
loop_placed code f o again first body start unit before inside = λ h.
    let n = after_load f o (start + length first) in
    let turn = turn_code (slot_read f.scratch 0 o.place) start again n (body (n + 1)) in
    let begins = unit (has_front code start first (loads f.scratch 0 (o ∷ []) ++ turn) h) in
    both_placed code start first (loads f.scratch 0 (o ∷ []) ++ turn) before
    (both_placed code (start + length first) (loads f.scratch 0 (o ∷ [])) turn
    (λ k. loads_anywhere f.scratch 0 (o ∷ []) code (start + length first))
    (turn_placed code (slot_read f.scratch 0 o.place) start again n (body (n + 1)) begins (inside (n + 1)))) h

begins_so : (code : List Instruction) (f : EmissionFrame) (h : Holdings) (first : SilicaTerms) (at : ℕ) → BeginsWithUnit first
    → HasAt code at (terms_code f h first at) → slice_get code at ≡ Some instruction.Unit
begins_so code f h (and_term unit_form span rest) at b k = k.0
begins_so code f h first at b k = absurd b

-- Forms.

mutual
  form_placed : (code : List Instruction) (f : EmissionFrame) (h : Holdings) (form : SilicaForm) (at : ℕ)
      → TakesTurns f.static h form → EachWithin TakesTurns f.static h form → Placed code at (form_code f h form at)
  form_placed code f h (test_form o state branch other join) at t w =
      choose_placed code f o (λ a target. instruction.Test a (contract_referred (kind_of_operand f.static h o)) state target)
      (jumps_over branch other) (λ place. terms_code f h branch place ++ end_test branch) (λ place. terms_code f h other place) at
      (λ a code n target low. inl low)
      (λ n. both_placed code n (terms_code f h branch n) (end_test branch) (terms_placed code f h branch n w.0)
      (λ k. end_anywhere branch code (n + length (terms_code f h branch n))))
      (λ n. terms_placed code f h other n w.1)
  form_placed code f h (if_form o branch other join) at t w =
      choose_placed code f o (λ a target. instruction.Unless a target)
      (jumps_over branch other) (λ place. terms_code f h branch place) (λ place. terms_code f h other place) at
      (λ a code n target low. inl low) (λ n. terms_placed code f h branch n w.0) (λ n. terms_placed code f h other n w.1)
  form_placed code f h (loop_form first o body end) at t w =
      let head = at_head f.static first body h in
      loop_placed code f o (not (terms_end body)) (terms_code f head first at)
      (λ place. terms_code f (after_terms f.static first head) body place) at
      (begins_so code f head first at t.0) (terms_placed code f head first at w.0)
      (λ n. terms_placed code f (after_terms f.static first head) body n w.1)
  form_placed code f h unit_form at t w = λ k. (tt, tt)
  form_placed code f h (const_form k value) at t w = λ z. (constant_plain k value code at, tt)
  form_placed code f h (op_form k operator a b line) at t w = λ z. operation_anywhere f.scratch k operator a b line code at
  form_placed code f h (copy_form to from) at t w = λ z. copy_anywhere f.scratch to from code at
  form_placed code f h (move_form to from contract) at t w = λ z. move_anywhere f.static.own f.scratch to from code at
  form_placed code f h (new_form k contract args) at t w = λ z.
      marked f.scratch 0 args (shares_of_new (constructor_at f.static.table contract) (slots_read f.scratch 0 args)) _
      (new_anywhere (constructor_at f.static.table contract) (slots_read f.scratch 0 args)) (λ code n. tt) code at
  form_placed code f h (call_form k receiver contract tx args) at t w = λ z.
      marked f.scratch 0 (receiver ∷ args)
      (shares_of_call contract (signature_of f.static.table contract tx) (slots_read f.scratch 0 (receiver ∷ args))) _
      (call_anywhere contract (signature_of f.static.table contract tx) (slots_read f.scratch 0 (receiver ∷ args))) (λ code n. tt) code at
  form_placed code f h (call_this_form k tx args) at t w = λ z.
      marked f.scratch 0 args
      (shares_of_call f.static.here (signature_of f.static.table f.static.here tx) (0 ∷ slots_read f.scratch 0 args)) _
      (call_anywhere f.static.here (signature_of f.static.table f.static.here tx) (0 ∷ slots_read f.scratch 0 args)) (λ code n. tt) code at
  form_placed code f h (change_form state given) at t w = λ z.
      both_anywhere (loads f.scratch 0 (values_given given)) _ (loads_anywhere f.scratch 0 (values_given given))
      (both_anywhere (instruction.Change state (given_slots f.scratch 0 given) ∷ [])
      (shares_of_given f.static.own (given_slots f.scratch 0 given))
      (λ code n. (tt, tt)) (given_anywhere f.static.own (given_slots f.scratch 0 given))) code at
  form_placed code f h (assert_form o perm) at t w = λ z. tt
  form_placed code f h (disown_form o) at t w = λ z. loaded f.scratch 0 (o ∷ []) _ (λ code n. tt) code at
  form_placed code f h (drop_form k) at t w = λ z. tt
  form_placed code f h (return_form place) at t w = λ z. return_anywhere f place code at
  form_placed code f h (revert_form o) at t w = λ z. loaded f.scratch 0 (o ∷ []) _ (λ code n. tt) code at
  form_placed code f h bad_row_form at t w = λ z. tt

  terms_placed : (code : List Instruction) (f : EmissionFrame) (h : Holdings) (terms : SilicaTerms) (at : ℕ)
      → Each TakesTurns f.static h terms → Placed code at (terms_code f h terms at)
  terms_placed code f h no_terms at t = λ k. tt
  terms_placed code f h (and_term form span rest) at t =
      both_placed code at (form_code f h form at) (terms_code f (after_form f.static form h) rest (at + length (form_code f h form at)))
      (form_placed code f h form at t.0 t.1) (terms_placed code f (after_form f.static form h) rest (at + length (form_code f h form at)) t.2)

-- Bodies.

find_passes : (p : SilicaBody → Bool) (bodies : List SilicaBody) (body : SilicaBody) → find p bodies ≡ Some body
    → (n : ℕ) × (slice_get bodies n ≡ Some body) × (p body ≡ true)
find_passes p [] body e = absurd (let none : ◌≡◌ {A = Option SilicaBody} None (Some body) = e in cc)
find_passes p (x ∷ bodies) body e = by (p x) refl (λ rest. find_passes p bodies body rest)
  where
    by : (b : Bool) → p x ≡ b → (find p bodies ≡ Some body → (n : ℕ) × (slice_get bodies n ≡ Some body) × (p body ≡ true))
        → (n : ℕ) × (slice_get (x ∷ bodies) n ≡ Some body) × (p body ≡ true)
    by true passes later =
        let same : x ≡ body = same_Some x body (sym (ap (λ b. cond b (Some x) (find p bodies)) passes) ∙ e) in
        (0, ap Some same, ap p (sym same) ∙ passes)
    by false other later =
        let found = later (sym (ap (λ b. cond b (Some x) (find p bodies)) other) ∙ e) in
        (suc found.0, found.1, found.2)

-- what is found among well-formed bodies is one of them, and has these numbers
found_formed : (table : ClassTable) (id : ContractId) (tx : TxId) (bodies : List SilicaBody) (body : SilicaBody) → All (IsWellFormedTerms table) bodies
    → find (is_terms_of id tx) bodies ≡ Some body → IsWellFormedTerms table body × (is_terms_of id tx body ≡ true)
found_formed table id tx bodies body all e =
    let found = find_passes (is_terms_of id tx) bodies body e in (all_at (IsWellFormedTerms table) bodies found.0 body all found.1, found.2)

same_contract : (a b : ContractId) → a.0 ≡ b.0 → a ≡ b
same_contract a b e = ap (λ n. record { 0 = n }) e

same_tx : (a b : TxId) → a.0 ≡ b.0 → a ≡ b
same_tx a b e = ap (λ n. record { 0 = n }) e

there_so : {A : Type 0} (o : Option A) (P : A → Type 0) (x : A) → o ≡ Some x → IsSomeAnd o P → P x
there_so o P x e h = subst (λ z. IsSomeAnd z P) e h

-- the turns of a well-formed body with this signature
turns_taken : (table : ClassTable) (id : ContractId) (own : Contract) (tx : TxId) (s : Signature) (body : SilicaBody)
    → contract_at table id ≡ Some own → signature_at own tx ≡ Some s → is_terms_of id tx body ≡ true → IsWellFormedTerms table body
    → Each TakesTurns (frame_of table id own s) (held_at_start id s.params) body.terms
turns_taken table id own tx s body eo es is formed =
    let numbers = and_parts (nat_eq body.contract.0 id.0) (nat_eq body.tx.0 tx.0) is in
    let contract_is : body.contract ≡ id = same_contract body.contract id (eqb-true body.contract.0 id.0 numbers.0) in
    let tx_is : body.tx ≡ tx = same_tx body.tx tx (eqb-true body.tx.0 tx.0 numbers.1) in
    let with_own = there_so (contract_at table body.contract) (λ o. IsSomeAnd (signature_at o body.tx)
    (λ z. AreWellFormed (frame_of table body.contract o z) (held_at_start body.contract z.params) body)) own (ap (contract_at table) contract_is ∙ eo) formed in
    let with_signature = there_so (signature_at own body.tx)
    (λ z. AreWellFormed (frame_of table body.contract own z) (held_at_start body.contract z.params) body) s (ap (signature_at own) tx_is ∙ es) with_own in
    subst (λ (i : ContractId). Each TakesTurns (frame_of table i own s) (held_at_start i s.params) body.terms) contract_is with_signature.turns

-- the instructions of a body of an image
abbrev code_at : ClassTable → List SilicaBody → ContractId → Contract → TxId → Signature → List Instruction
code_at table bodies id own tx s = (emitted_at table bodies id own tx s).instructions

body_ahead : (table : ClassTable) (bodies : List SilicaBody) → All (IsWellFormedTerms table) bodies → (id : ContractId) (own : Contract) (tx : TxId) (s : Signature)
    → contract_at table id ≡ Some own → signature_at own tx ≡ Some s → Ahead (code_at table bodies id own tx s) 0 (code_at table bodies id own tx s)
body_ahead table bodies all id own tx s eo es = by_body (find (is_terms_of id tx) bodies) refl
  where
    by_body : (b : Option SilicaBody) → find (is_terms_of id tx) bodies ≡ b
        → Ahead (emitted_body table id own tx s b).instructions 0 (emitted_body table id own tx s b).instructions
    by_body None e = tt
    by_body (Some body) e =
        let found = found_formed table id tx bodies body all e in
        let frame = frame_of_body table id own tx s body in
        let code = terms_code frame (held_at_start id s.params) body.terms 0 in
        terms_placed code frame (held_at_start id s.params) body.terms 0 (turns_taken table id own tx s body eo es found.1 found.0) (has_all [] code)

-- Images.

-- where an instruction at a place of an image's body may jump is ahead, or a `unit`
abbrev LeadsIn : Image → ContractId → TxId → ℕ → Instruction → Type 0
LeadsIn image id tx at (instruction.Jump target) = IsAheadOrUnit image id tx at target
LeadsIn image id tx at (instruction.Unless a target) = IsAheadOrUnit image id tx at target
LeadsIn image id tx at (instruction.Test a of state target) = IsAheadOrUnit image id tx at target
LeadsIn image id tx at other = Unit {0}

leads_to : (image : Image) (id : ContractId) (tx : TxId) (code : List Instruction) (at target : ℕ)
    → ((n : ℕ) → instruction_at image id tx n ≡ slice_get code n) → (at < target) ⊎ (slice_get code target ≡ Some instruction.Unit)
    → IsAheadOrUnit image id tx at target
leads_to image id tx code at target is (inl low) = inl low
leads_to image id tx code at target is (inr unit) = inr (is target ∙ unit)

leads_in : (image : Image) (id : ContractId) (tx : TxId) (code : List Instruction) (at : ℕ) (i : Instruction)
    → ((n : ℕ) → instruction_at image id tx n ≡ slice_get code n) → LeadsFrom code at i → LeadsIn image id tx at i
leads_in image id tx code at (instruction.Jump target) is h = leads_to image id tx code at target is h
leads_in image id tx code at (instruction.Unless a target) is h = leads_to image id tx code at target is h
leads_in image id tx code at (instruction.Test a of state target) is h = leads_to image id tx code at target is h
leads_in image id tx code at other is h = tt

module _ (table : ClassTable) (bodies : List SilicaBody) (all : All (IsWellFormedTerms table) bodies) (id : ContractId) (tx : TxId) where
  abbrev image : Image
  image = image_of table bodies

  abbrev of_body : Option BodyCode → ℕ → Option Instruction
  of_body b place = b >>= λ (b : BodyCode). slice_get b.instructions place

  abbrev of_contract : Option ContractCode → ℕ → Option Instruction
  of_contract c place = c >>= λ (c : ContractCode). instruction_of c tx place

  instructions_ahead : (place : ℕ) (i : Instruction) → instruction_at image id tx place ≡ Some i → LeadsIn image id tx place i
  instructions_ahead place i e = by_own (contract_at table id) refl
    where
      by_signature : (own : Contract) → contract_at table id ≡ Some own
          → ((n : ℕ) → instruction_at image id tx n ≡ of_body (option_map (emitted_at table bodies id own tx) (signature_at own tx)) n)
          → (s : Option Signature) → signature_at own tx ≡ s → LeadsIn image id tx place i
      by_signature own eo is None es =
          absurd (let none : ◌≡◌ {A = Option Instruction} None (Some i) =
          sym (is place ∙ ap (λ z. of_body (option_map (emitted_at table bodies id own tx) z) place) es) ∙ e in cc)
      by_signature own eo is (Some s) es =
          let code = code_at table bodies id own tx s in
          let same : (n : ℕ) → instruction_at image id tx n ≡ slice_get code n =
          (λ n. is n ∙ ap (λ z. of_body (option_map (emitted_at table bodies id own tx) z) n) es) in
          let zero_more : 0 + place ≡ place = omega arith in
          leads_in image id tx code place i same
          (subst (λ n. LeadsFrom code n i) zero_more
          (ahead_at code 0 code place i (body_ahead table bodies all id own tx s eo es) (sym (same place) ∙ e)))

      -- an interface's bodies have none that are run
      by_class : (own : Contract) → contract_at table id ≡ Some own → (interface : Bool)
          → ((n : ℕ) → instruction_at image id tx n ≡ (if interface then None else of_body (slice_get (emitted_contract table bodies id own).bodies tx.0) n))
          → LeadsIn image id tx place i
      by_class own eo true is = absurd (let none : ◌≡◌ {A = Option Instruction} None (Some i) = sym (is place) ∙ e in cc)
      by_class own eo false is =
          by_signature own eo (λ n. is n ∙ ap (λ b. of_body b n) (body_same table bodies id own tx)) (signature_at own tx) refl

      by_own : (o : Option Contract) → contract_at table id ≡ o → LeadsIn image id tx place i
      by_own None eo =
          absurd (let none : ◌≡◌ {A = Option Instruction} None (Some i) =
          sym (ap (λ c. of_contract c place) (contract_same table bodies id ∙ ap (option_map (emitted_contract table bodies id)) eo)) ∙ e in cc)
      by_own (Some own) eo =
          by_class own eo (is_interface (emitted_contract table bodies id own))
          (λ n. ap (λ c. of_contract c n) (contract_same table bodies id ∙ ap (option_map (emitted_contract table bodies id)) eo))

pub jumps_lead_ahead_or_to_unit : EmittedJumpsLeadAheadOrToUnit
jumps_lead_ahead_or_to_unit table bodies all = record {
  jumps = λ contract tx place target e. instructions_ahead table bodies all contract tx place (instruction.Jump target) e;
  branches = λ contract tx place a target e. instructions_ahead table bodies all contract tx place (instruction.Unless a target) e;
  tests = λ contract tx place a of state target e. instructions_ahead table bodies all contract tx place
      (instruction.Test a of state target) e;
}
