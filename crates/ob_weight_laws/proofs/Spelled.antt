-- The instructions of well-formed terms have a spelling.
use Rattle.std.proofs.Common.{◌≡◌, ◌≤◌, ◌<◌, ◌^◌, ℕ, suc, ◌+◌, Bool, true, false, List, [], ◌∷◌, ◌++◌, length, map, Option, Some, None, IsTrue, refl, ap, arith, length-append}
use Rattle.std.specs.Prelude.{IsSome, IsSomeAnd, nat_le, max, not, if◌then◌else◌}
use Rattle.std.specs.Str.{IsUtf8, is_utf8}
use Rattle.std.specs.Option.{option_map_or}
use Rattle.std.proofs.lemmas.Bool.{and_parts, leb-true}
use Rattle.std.proofs.lemmas.List.{length-map}
use Rattle.std.proofs.lemmas.Option.{slice_get_within}
use Rattle.std.proofs.lemmas.Str.{IsUtf8-from_is_utf8}
use Rattle.std.proofs.Math.Nat.{le-max_left, le-max_right}
use Rattle.ob_base.specs.Limits.{longest_string, most_weight}
use Rattle.ob_base.specs.Names.{is_text}
use Rattle.ob_base.specs.declared.id.ContractId.{ContractId}
use Rattle.ob_base.specs.declared.id.FieldId.{FieldId}
use Rattle.ob_base.specs.declared.id.StateId.{StateId}
use Rattle.ob_base.specs.declared.id.TxId.{TxId}
use Rattle.ob_perm.specs.Masks.{permission_of}
use Rattle.ob_perm.specs.Permissions.{is_shared}
use Rattle.ob_table.specs.Tables.{contract_at, field_at, signature_of}
use Rattle.ob_table.specs.declared.contract.Contract.{Contract}
use Rattle.ob_table.specs.declared.contract.Field.{Field as FieldOf}
use Rattle.ob_table.specs.declared.contract.ResolvedType.{ResolvedType}
use Rattle.ob_table.specs.declared.contract.ResolvedType.TheVariants as typed
use Rattle.ob_table.specs.declared.contract.Signature.{Signature}
use Rattle.ob_table.specs.declared.seen.Kind.{Kind}
use Rattle.ob_table.specs.declared.seen.Kind.TheVariants as kind
use Rattle.ob_table_spec.specs.Conditions.{IsClassTable}
use Rattle.ob_table_spec.specs.WellFormed.{StaticFrame, constructor_at, RefersTo}
use Rattle.ob_silica.specs.Slots.{slots_of_place, slots_of_operand, slots_of_operands, slots_of_given, slots_of_result, slots_of_form, slots_of_terms}
use Rattle.ob_silica.specs.Terms.{SilicaForm, unit_form, const_form, op_form, copy_form, move_form, new_form, call_form, call_this_form, change_form, test_form, if_form, loop_form, assert_form, disown_form, drop_form, return_form, revert_form, bad_row_form, SilicaTerms, no_terms, and_term}
use Rattle.ob_silica.specs.declared.place.Constant.{Constant}
use Rattle.ob_silica.specs.declared.place.Constant.TheVariants as constant
use Rattle.ob_silica.specs.declared.place.Given.{Given}
use Rattle.ob_silica.specs.declared.place.Operand.{Operand}
use Rattle.ob_silica.specs.declared.place.Place.{Place}
use Rattle.ob_silica.specs.declared.place.Place.TheVariants.{This, Slot, Field}
use Rattle.ob_silica.specs.declared.term.SilicaOperator.{SilicaOperator}
use Rattle.ob_silica.specs.declared.term.SilicaOperator.TheVariants.{Unary, Binary}
use Rattle.ob_silica_places.specs.Parameters.{Parameter, all_parameters, parameters}
use Rattle.ob_silica_formed.specs.Holdings.{Holdings, kind_of_operand, after_form, after_terms, at_head, terms_end, EachWithin, Each as EachForm}
use Rattle.ob_silica_formed.specs.Points.{IsPlace, ArePlaces, AreFields, IsConstant, NamesWhatIsThere, HasKinds, NamesBody}
use Rattle.ob_places_laws.proofs.Tables.{there_is, contract_is}
use Rattle.ob_format_spec.specs.Combinators.{Each}
use Rattle.ob_code.specs.Instructions.{instruction}
use Rattle.ob_code.specs.declared.instruction.Instruction.{Instruction}
use Rattle.ob_code.specs.declared.instruction.Instruction.TheVariants as does
use Rattle.ob_emit_spec.specs.Operands.{slot_read, load, slots_read, loads, values_given, share, shares}
use Rattle.ob_emit_spec.specs.Emission.{EmissionFrame, constant_code, unary_code, binary_code, operation_code, fetch_code, share_in_field, copy_code, move_code, result_slot, shares_of_call, shares_of_new, call_code, call_this_code, new_code, given_slots, shares_of_given, change_code, jumps_over, jump_if, after_branch, choice_code, end_test, contract_referred, share_result, return_code, after_load, turn_code, form_code, terms_code}
use Rattle.ob_emit_spec.specs.Weights.{weight_of_form, weight_of_terms}
use Rattle.ob_weight_laws.specs.Lines.{FormLinesFit, LinesFit}
use Rattle.ob_weight_laws.proofs.Declared.{size_of_code}
use Rattle.ob_weight_laws.proofs.Few.{is_there, given_few, call_few, new_few, contract_low}
use Rattle.ob_weight_laws.proofs.Forms.{form_within, terms_within}
use Rattle.ob_weight_laws.proofs.Rows.{Fits, AllFit, IsByte, IsPair, byte_below, one_fits, both_fit, int_in_range, text_fits, unit_fits, int_fits, bool_fits, text_instruction_fits, copy_fits, load_instruction_fits, store_fits, op_fits, jump_fits, unless_fits, test_fits, end_fits, change_fits, new_fits, call_fits, self_call_fits, share_instruction_fits, disown_fits, ret_fits, ret_value_fits, revert_fits}
use Rattle.ob_weight_laws.proofs.Sizes.{size_more}

-- what is asked of a body's frame: it has few slots, and its class table meets the conditions
pub record HasRoom (f : EmissionFrame) : Type 0 where
  pub table : IsClassTable f.static.table
  pub slots : f.scratch ≤ 128
  pub fields : length f.static.own.fields ≤ 64
  pub states : length f.static.own.states ≤ 32

pub text_spelled : (t : List ℕ) → IsTrue (is_text t) → (length t ≤ 1024) × IsUtf8 t
text_spelled t h =
    let parts = and_parts (nat_le (length t) longest_string) (is_utf8 t) h in
    (leb-true (length t) 1024 parts.0, IsUtf8-from_is_utf8 t parts.1)

-- Operands.

field_low : (f : EmissionFrame) → HasRoom f → (id : FieldId) → IsSome (field_at f.static.own id) → IsByte id.0
field_low f room id there =
    let x = is_there (field_at f.static.own id) there in
    let lt = slice_get_within f.static.own.fields id.0 x.0 x.1 in
    let few = room.fields in
    byte_below id.0 (omega arith)

read_byte : (f : EmissionFrame) → HasRoom f → (n : ℕ) (place : Place) → n ≤ 64 → slots_of_place place ≤ f.scratch
    → IsByte (slot_read f.scratch n place)
read_byte f room n This few low = byte_below 0 (omega arith)
read_byte f room n (Slot k) few low = let s = room.slots in byte_below k (omega arith)
read_byte f room n (Field id) few low = let s = room.slots in byte_below (f.scratch + n) (omega arith)

load_fits : (f : EmissionFrame) → HasRoom f → (n : ℕ) (place : Place) → n ≤ 64 → IsPlace f.static place
    → AllFit (load f.scratch n place)
load_fits f room n This few there = tt
load_fits f room n (Slot k) few there = tt
load_fits f room n (Field id) few there =
    one_fits (does.Load (f.scratch + n) id)
    (load_instruction_fits (f.scratch + n) id (let s = room.slots in byte_below (f.scratch + n) (omega arith)) (field_low f room id there))

loads_fit : (f : EmissionFrame) → HasRoom f → (n : ℕ) (os : List Operand) → n + length os ≤ 65 → ArePlaces f.static os
    → AllFit (loads f.scratch n os)
loads_fit f room n [] few there = tt
loads_fit f room n (o ∷ os) few there =
    both_fit (load f.scratch n o.place) (loads f.scratch (n + 1) os)
    (load_fits f room n o.place (omega arith) there.0)
    (loads_fit f room (n + 1) os (omega arith) there.1)

one_load_fits : (f : EmissionFrame) → HasRoom f → (o : Operand) → IsPlace f.static o.place → AllFit (loads f.scratch 0 (o ∷ []))
one_load_fits f room o there = loads_fit f room 0 (o ∷ []) (omega arith) (there, tt)

reads_fit : (f : EmissionFrame) → HasRoom f → (n : ℕ) (os : List Operand) → n + length os ≤ 65
    → slots_of_operands os ≤ f.scratch → Each IsByte (slots_read f.scratch n os)
reads_fit f room n [] few low = tt
reads_fit f room n (o ∷ os) few low =
    let a = le-max_left (slots_of_operand o) (slots_of_operands os) in
    let b = le-max_right (slots_of_operand o) (slots_of_operands os) in
    (read_byte f room n o.place (omega arith) (omega arith), reads_fit f room (n + 1) os (omega arith) (omega arith))

count_read : (scratch n : ℕ) (os : List Operand) → length (slots_read scratch n os) ≡ length os
count_read scratch n [] = refl
count_read scratch n (o ∷ os) = ap (λ k. suc k) (count_read scratch (n + 1) os)

-- Marks.

share_if_fits : (shared : Bool) (a : ℕ) → IsByte a → AllFit (if shared then does.Share a ∷ [] else [])
share_if_fits true a h = one_fits (does.Share a) (share_instruction_fits a h)
share_if_fits false a h = tt

share_fits : (of : ResolvedType) (a : ℕ) → IsByte a → AllFit (share of a)
share_fits typed.Int a h = tt
share_fits typed.Bool a h = tt
share_fits typed.Text a h = tt
share_fits (typed.Reference id p) a h = share_if_fits (is_shared (permission_of p)) a h

shares_fit : (types : List ResolvedType) (slots : List ℕ) → Each IsByte slots → AllFit (shares types slots)
shares_fit [] slots h = tt
shares_fit (of ∷ types) [] h = tt
shares_fit (of ∷ types) (a ∷ slots) h = both_fit (share of a) (shares types slots) (share_fits of a h.0) (shares_fit types slots h.1)

call_shares_fit : (contract : ContractId) (s : Option Signature) (slots : List ℕ) → Each IsByte slots
    → AllFit (shares_of_call contract s slots)
call_shares_fit contract None slots h = tt
call_shares_fit contract (Some s) slots h = shares_fit (map (λ (p : Parameter). p.of) (all_parameters contract s)) slots h

new_shares_fit : (s : Option Signature) (slots : List ℕ) → Each IsByte slots → AllFit (shares_of_new s slots)
new_shares_fit None slots h = tt
new_shares_fit (Some s) slots h = shares_fit (map (λ (p : Parameter). p.of) (parameters s)) slots h

field_share_fits : (f : Option FieldOf) (a : ℕ) → IsByte a → AllFit (option_map_or (λ (f : FieldOf). share f.of a) f [])
field_share_fits None a h = tt
field_share_fits (Some f) a h = share_fits f.of a h

given_shares_fit : (own : Contract) (gs : List (FieldId × ℕ)) → Each IsPair gs → AllFit (shares_of_given own gs)
given_shares_fit own [] h = tt
given_shares_fit own (g ∷ gs) h =
    both_fit (share_in_field own g.0 g.1) (shares_of_given own gs) (field_share_fits (field_at own g.0) g.1 h.0.1)
    (given_shares_fit own gs h.1)

-- Forms without branches.

slot_low : (f : EmissionFrame) → HasRoom f → (k : ℕ) → k + 1 ≤ f.scratch → IsByte k
slot_low f room k low = let s = room.slots in byte_below k (omega arith)

constant_fits : (k : ℕ) (value : Constant) → IsByte k → IsConstant value → AllFit (constant_code k value ∷ [])
constant_fits k (constant.Int z) h is = one_fits (does.Int k z) (int_fits k z h (int_in_range z is))
constant_fits k (constant.Bool true) h is = one_fits (does.Bool k 1) (bool_fits k 1 h (omega arith))
constant_fits k (constant.Bool false) h is = one_fits (does.Bool k 0) (bool_fits k 0 h (omega arith))
constant_fits k (constant.Text bytes) h is =
    let t = text_spelled bytes is in
    one_fits (does.Text k bytes) (text_instruction_fits k bytes h (text_fits bytes t.0 t.1))

operation_fits : (f : EmissionFrame) → HasRoom f → (k : ℕ) (o : SilicaOperator) (a b : Operand) (line : ℕ) → IsByte k
    → IsPlace f.static a.place → IsPlace f.static b.place → slots_of_operand a ≤ f.scratch → slots_of_operand b ≤ f.scratch
    → line < 2 ^ 32 → AllFit (operation_code f.scratch k o a b line)
operation_fits f room k (Unary o) a b line hk ta tb la lb hl =
    let s = f.scratch in
    let x = read_byte f room 0 a.place (omega arith) la in
    both_fit (loads s 0 (a ∷ [])) (does.Op k (unary_code o) (slot_read s 0 a.place) (slot_read s 0 a.place) line ∷ [])
    (one_load_fits f room a ta)
    (one_fits (does.Op k (unary_code o) (slot_read s 0 a.place) (slot_read s 0 a.place) line)
    (op_fits k (unary_code o) (slot_read s 0 a.place) (slot_read s 0 a.place) line hk x x hl))
operation_fits f room k (Binary o) a b line hk ta tb la lb hl =
    let s = f.scratch in
    let x = read_byte f room 0 a.place (omega arith) la in
    let y = read_byte f room 1 b.place (omega arith) lb in
    both_fit (loads s 0 (a ∷ b ∷ [])) (does.Op k (binary_code o) (slot_read s 0 a.place) (slot_read s 1 b.place) line ∷ [])
    (loads_fit f room 0 (a ∷ b ∷ []) (omega arith) (ta, (tb, tt)))
    (one_fits (does.Op k (binary_code o) (slot_read s 0 a.place) (slot_read s 1 b.place) line)
    (op_fits k (binary_code o) (slot_read s 0 a.place) (slot_read s 1 b.place) line hk x y hl))

fetch_fits : (f : EmissionFrame) → HasRoom f → (k : ℕ) (place : Place) → IsByte k → IsPlace f.static place
    → slots_of_place place ≤ f.scratch → AllFit (fetch_code k place ∷ [])
fetch_fits f room k This hk there low = one_fits (does.Copy k 0) (copy_fits k 0 hk (byte_below 0 (omega arith)))
fetch_fits f room k (Slot a) hk there low = one_fits (does.Copy k a) (copy_fits k a hk (slot_low f room a low))
fetch_fits f room k (Field id) hk there low =
    one_fits (does.Load k id) (load_instruction_fits k id hk (field_low f room id there))

store_one_fits : (f : EmissionFrame) → HasRoom f → (id : FieldId) (from : Operand) → IsPlace f.static (Field id)
    → slots_of_operand from ≤ f.scratch → AllFit (does.Store id (slot_read f.scratch 0 from.place) ∷ [])
store_one_fits f room id from there low =
    one_fits (does.Store id (slot_read f.scratch 0 from.place))
    (store_fits id (slot_read f.scratch 0 from.place) (field_low f room id there) (read_byte f room 0 from.place (omega arith) low))

copied_fits : (f : EmissionFrame) → HasRoom f → (to : Place) (from : Operand) → IsPlace f.static to → IsPlace f.static from.place
    → slots_of_place to ≤ f.scratch → slots_of_operand from ≤ f.scratch → AllFit (copy_code f.scratch to from)
copied_fits f room This from tt' tf lt lf = fetch_fits f room 0 from.place (byte_below 0 (omega arith)) tf lf
copied_fits f room (Slot k) from tt' tf lt lf = fetch_fits f room k from.place (slot_low f room k lt) tf lf
copied_fits f room (Field id) from tt' tf lt lf =
    both_fit (loads f.scratch 0 (from ∷ [])) (does.Store id (slot_read f.scratch 0 from.place) ∷ [])
    (one_load_fits f room from tf) (store_one_fits f room id from tt' lf)

moved_fits : (f : EmissionFrame) → HasRoom f → (to : Place) (from : Operand) → IsPlace f.static to → IsPlace f.static from.place
    → slots_of_place to ≤ f.scratch → slots_of_operand from ≤ f.scratch → AllFit (move_code f.static.own f.scratch to from)
moved_fits f room This from tt' tf lt lf = fetch_fits f room 0 from.place (byte_below 0 (omega arith)) tf lf
moved_fits f room (Slot k) from tt' tf lt lf = fetch_fits f room k from.place (slot_low f room k lt) tf lf
moved_fits f room (Field id) from tt' tf lt lf =
    let a = slot_read f.scratch 0 from.place in
    both_fit (loads f.scratch 0 (from ∷ []) ++ share_in_field f.static.own id a) (does.Store id a ∷ [])
    (both_fit (loads f.scratch 0 (from ∷ [])) (share_in_field f.static.own id a) (one_load_fits f room from tf)
    (field_share_fits (field_at f.static.own id) a (read_byte f room 0 from.place (omega arith) lf)))
    (store_one_fits f room id from tt' lf)

result_fits : (f : EmissionFrame) → HasRoom f → (k : Option ℕ) → slots_of_result k ≤ f.scratch → IsByte (result_slot k)
result_fits f room None low = byte_below 255 (omega arith)
result_fits f room (Some k) low = slot_low f room k low

called_fits : (f : EmissionFrame) → HasRoom f → (k : Option ℕ) (receiver : Operand) (contract : ContractId) (tx : TxId)
    (args : List Operand) → slots_of_result k ≤ f.scratch → slots_of_operand receiver ≤ f.scratch
    → slots_of_operands args ≤ f.scratch → IsPlace f.static receiver.place → ArePlaces f.static args
    → contract.0 < 1024 → tx.0 < 257 → length args ≤ 16 → AllFit (call_code f k receiver contract tx args)
called_fits f room k receiver contract tx args lk lr la tr ta hc hx few =
    let s = f.scratch in
    let s' = signature_of f.static.table contract tx in
    let a = read_byte f room 0 receiver.place (omega arith) lr in
    let rest = reads_fit f room 1 args (omega arith) la in
    let count = count_read s 1 args in
    let call = does.Call (result_slot k) (slot_read s 0 receiver.place) contract tx (slots_read s 1 args) in
    both_fit (loads s 0 (receiver ∷ args) ++ shares_of_call contract s' (slots_read s 0 (receiver ∷ args))) (call ∷ [])
    (both_fit (loads s 0 (receiver ∷ args)) (shares_of_call contract s' (slots_read s 0 (receiver ∷ args)))
    (loads_fit f room 0 (receiver ∷ args) (omega arith) (tr, ta))
    (call_shares_fit contract s' (slots_read s 0 (receiver ∷ args)) (a, rest)))
    (one_fits call (call_fits (result_slot k) (slot_read s 0 receiver.place) contract tx (slots_read s 1 args)
    (result_fits f room k lk) a (omega (arith, hc)) (omega (arith, hx)) (omega (arith, count, few)) rest))

called_here_fits : (f : EmissionFrame) → HasRoom f → (k : Option ℕ) (tx : TxId) (args : List Operand)
    → slots_of_result k ≤ f.scratch → slots_of_operands args ≤ f.scratch → ArePlaces f.static args → tx.0 < 257
    → length args ≤ 16 → AllFit (call_this_code f k tx args)
called_here_fits f room k tx args lk la ta hx few =
    let s = f.scratch in
    let here = f.static.here in
    let s' = signature_of f.static.table here tx in
    let rest = reads_fit f room 0 args (omega arith) la in
    let count = count_read s 0 args in
    let call = does.SelfCall (result_slot k) tx (slots_read s 0 args) in
    both_fit (loads s 0 args ++ shares_of_call here s' (0 ∷ slots_read s 0 args)) (call ∷ [])
    (both_fit (loads s 0 args) (shares_of_call here s' (0 ∷ slots_read s 0 args)) (loads_fit f room 0 args (omega arith) ta)
    (call_shares_fit here s' (0 ∷ slots_read s 0 args) (byte_below 0 (omega arith), rest)))
    (one_fits call (self_call_fits (result_slot k) tx (slots_read s 0 args) (result_fits f room k lk) (omega (arith, hx))
    (omega (arith, count, few)) rest))

made_fits : (f : EmissionFrame) → HasRoom f → (k : ℕ) (contract : ContractId) (args : List Operand) → k + 1 ≤ f.scratch
    → slots_of_operands args ≤ f.scratch → ArePlaces f.static args → contract.0 < 1024 → length args ≤ 16
    → AllFit (new_code f k contract args)
made_fits f room k contract args lk la ta hc few =
    let s = f.scratch in
    let s' = constructor_at f.static.table contract in
    let rest = reads_fit f room 0 args (omega arith) la in
    let count = count_read s 0 args in
    let new = does.New k contract (slots_read s 0 args) in
    both_fit (loads s 0 args ++ shares_of_new s' (slots_read s 0 args)) (new ∷ [])
    (both_fit (loads s 0 args) (shares_of_new s' (slots_read s 0 args)) (loads_fit f room 0 args (omega arith) ta)
    (new_shares_fit s' (slots_read s 0 args) rest))
    (one_fits new (new_fits k contract (slots_read s 0 args) (slot_low f room k lk) (omega (arith, hc)) (omega (arith, count, few)) rest))

values_there : (f : StaticFrame) (gs : List Given) → AreFields f gs → ArePlaces f (values_given gs)
values_there f [] h = tt
values_there f (g ∷ gs) h = (h.1, values_there f gs h.2)

given_fit : (f : EmissionFrame) → HasRoom f → (n : ℕ) (gs : List Given) → n + length gs ≤ 65 → slots_of_given gs ≤ f.scratch
    → AreFields f.static gs → Each IsPair (given_slots f.scratch n gs)
given_fit f room n [] few low there = tt
given_fit f room n (g ∷ gs) few low there =
    let a = le-max_left (slots_of_operand g.from) (slots_of_given gs) in
    let b = le-max_right (slots_of_operand g.from) (slots_of_given gs) in (
      (field_low f room g.field there.0, read_byte f room n g.from.place (omega arith) (omega arith)),
      given_fit f room (n + 1) gs (omega arith) (omega arith) there.2,
    )

count_given : (scratch n : ℕ) (gs : List Given) → length (given_slots scratch n gs) ≡ length gs
count_given scratch n [] = refl
count_given scratch n (g ∷ gs) = ap (λ k. suc k) (count_given scratch (n + 1) gs)

changed_fits : (f : EmissionFrame) → HasRoom f → (state : StateId) (given : List Given)
    → state.0 < length f.static.own.states → slots_of_given given ≤ f.scratch → AreFields f.static given → length given ≤ 64
    → AllFit (change_code f.static.own f.scratch state given)
changed_fits f room state given hs low there few =
    let s = f.scratch in
    let pairs = given_fit f room 0 given (omega arith) low there in
    let count = count_given s 0 given in
    let values : length (values_given given) ≡ length given = length-map given (λ (g : Given). g.from) in
    let states = room.states in
    both_fit (loads s 0 (values_given given)) (does.Change state (given_slots s 0 given) ∷ shares_of_given f.static.own (given_slots s 0 given))
    (loads_fit f room 0 (values_given given) (omega arith) (values_there f.static given there)) (
      change_fits state (given_slots s 0 given) (byte_below state.0 (omega arith)) (omega (arith, count, few)) pairs,
      given_shares_fit f.static.own (given_slots s 0 given) pairs,
    )

result_share_fits : (of : Option ResolvedType) (a : ℕ) → IsByte a → AllFit (option_map_or (λ of. share of a) of [])
result_share_fits None a h = tt
result_share_fits (Some of) a h = share_fits of a h

given_if_fits : (constructs : Bool) (of : ResolvedType) → AllFit (if constructs then share of 0 else [])
given_if_fits true of = share_fits of 0 (byte_below 0 (omega arith))
given_if_fits false of = tt

returned_fits : (f : EmissionFrame) → HasRoom f → (o : Operand) → IsPlace f.static o.place → slots_of_operand o ≤ f.scratch
    → AllFit (return_code f (Some o))
returned_fits f room o there low =
    let a = slot_read f.scratch 0 o.place in
    let h = read_byte f room 0 o.place (omega arith) low in
    both_fit (loads f.scratch 0 (o ∷ []) ++ share_result f.signature a) (does.RetValue a ∷ [])
    (both_fit (loads f.scratch 0 (o ∷ [])) (share_result f.signature a) (one_load_fits f room o there)
    (result_share_fits f.signature.result a h))
    (one_fits (does.RetValue a) (ret_value_fits a h))

return_none_fits : (f : EmissionFrame) → AllFit (return_code f None)
return_none_fits f =
    both_fit (if f.constructs then share (typed.Reference f.static.here f.signature.exit) 0 else []) (does.Ret ∷ [])
    (given_if_fits f.constructs (typed.Reference f.static.here f.signature.exit)) (one_fits does.Ret ret_fits)

-- Branches.

-- instructions are no more than their bytes
one_byte : (i : Instruction) → 1 ≤ length (instruction.bytes i)
unfolding instruction
one_byte i = omega arith

pub code_counted : (code : List Instruction) → length code ≤ size_of_code code
code_counted [] = omega arith
code_counted (i ∷ code) =
    let e = size_more (i ∷ []) code in
    let one = one_byte i in
    let rest = code_counted code in
    let first = length-append (instruction.bytes i) [] in
    omega (arith, e, one, rest, first)

jump_if_fits : (jumps : Bool) (target : ℕ) → target < 2 ^ 32 → AllFit (jump_if jumps target)
jump_if_fits true target h = one_fits (does.Jump target) (jump_fits target h)
jump_if_fits false target h = tt

after_low : (at : ℕ) (branch : List Instruction) (jumps : Bool) → after_branch at branch jumps ≤ at + length branch + 1
after_low at branch true = omega arith
after_low at branch false = omega arith

end_test_fits : (ends : Bool) → AllFit (if ends then [] else does.EndTest ∷ [])
end_test_fits true = tt
end_test_fits false = one_fits does.EndTest end_fits

end_test_one : (ends : Bool) → length (if ends then [] else does.EndTest ∷ []) ≤ 1
end_test_one true = omega arith
end_test_one false = omega arith

choice_fits : (at : ℕ) (chooses : ℕ → Instruction) (jumps : Bool) (branch other : List Instruction)
    → ((target : ℕ) → target < 2 ^ 32 → Fits (chooses target)) → AllFit branch → AllFit other
    → at + 2 + length branch + length other ≤ most_weight → AllFit (choice_code at chooses jumps branch other)
choice_fits at chooses jumps branch other row hb ho low =
    let a = after_low (at + 1) branch jumps in (
      row (after_branch (at + 1) branch jumps) (omega (arith, a, low)),
      both_fit (branch ++ jump_if jumps (after_branch (at + 1) branch jumps + length other)) other
          (both_fit branch (jump_if jumps (after_branch (at + 1) branch jumps + length other)) hb
          (jump_if_fits jumps (after_branch (at + 1) branch jumps + length other) (omega (arith, a, low))))
          ho,
    )

one_loaded : (scratch : ℕ) (place : Place) → length (load scratch 0 place) ≤ 1
one_loaded scratch This = omega arith
one_loaded scratch (Slot k) = omega arith
one_loaded scratch (Field id) = omega arith

after_one : (f : EmissionFrame) (o : Operand) (at : ℕ) → after_load f o at ≤ at + 1
after_one f o at =
    let a = one_loaded f.scratch o.place in
    let b = length-append (load f.scratch 0 o.place) [] in
    omega (arith, a, b)

-- the contract of a test, and its state
tested_low : (f : EmissionFrame) → HasRoom f → (kind : Option Kind) (state : StateId)
    → IsSomeAnd kind (RefersTo f.static.table (λ c. state.0 < length c.states))
    → ((contract_referred kind).0 < 1024) × IsByte state.0
tested_low f room None state h = absurd h
tested_low f room (Some kind.Int) state h = absurd h
tested_low f room (Some kind.Bool) state h = absurd h
tested_low f room (Some kind.Text) state h = absurd h
tested_low f room (Some (kind.Reference id)) state h =
    let c = there_is (contract_at f.static.table id) (λ c. state.0 < length c.states) h in
    let few = (contract_is f.static.table room.table id c.0 c.1).few_states in
    let lt = c.2 in
    (contract_low f.static.table room.table id c.0 c.1, byte_below state.0 (omega arith))

-- where the branches of a choice stand
record HasPlaces (at start first second wb wo lb lo : ℕ) : Type 0 where
  branch : first + wb ≤ most_weight
  other : second + wo ≤ most_weight
  whole : start + 2 + lb + lo ≤ most_weight

places : (at start second wb wo lb lo : ℕ) → start ≤ at + 1 → lb ≤ wb + 1 → lo ≤ wo → second ≤ (start + 1) + lb + 1
    → at + (32 + (wb + wo)) ≤ most_weight → HasPlaces at start (start + 1) second wb wo lb lo
places at start second wb wo lb lo a b c d e = record {
  branch = omega (arith, a, e);
  other = omega (arith, a, b, d, e);
  whole = omega (arith, a, b, c, e);
}

-- where the parts of a loop stand
record HasTurns (at start wf wb lf lb : ℕ) : Type 0 where
  first : at + wf ≤ most_weight
  body : (start + 1) + wb ≤ most_weight
  whole : start + 2 + lb ≤ most_weight

turns : (at start wf wb lf lb : ℕ) → start ≤ at + lf + 1 → lf ≤ wf → lb ≤ wb → at + (32 + (wf + wb)) ≤ most_weight
    → HasTurns at start wf wb lf lb
turns at start wf wb lf lb a b c e = record {
  first = omega (arith, e);
  body = omega (arith, a, b, e);
  whole = omega (arith, a, b, c, e);
}

-- what is behind the operand of a loop
turn_fits : (a start : ℕ) (again : Bool) (at : ℕ) (body : List Instruction) → IsByte a → AllFit body → start < 2 ^ 32
    → at + 2 + length body ≤ most_weight → AllFit (turn_code a start again at body)
turn_fits a start again at body byte hb begins low =
    let p = after_low (at + 1) body again in (
      unless_fits a (after_branch (at + 1) body again) byte (omega (arith, p, low)),
      both_fit body (jump_if again start) hb (jump_if_fits again start begins),
    )

-- what is asked of a form at a place
record IsPut (f : EmissionFrame) (h : Holdings) (form : SilicaForm) (at : ℕ) : Type 0 where
  numbers : NamesWhatIsThere f.static h form
  kinds : HasKinds f.static h form
  bodies : NamesBody f.static h form
  slots : slots_of_form form ≤ f.scratch
  lines : FormLinesFit form
  place : at + weight_of_form form ≤ most_weight

-- two of three are at most a number where the greatest is
two_low : (a b m : ℕ) → max a b ≤ m → (a ≤ m) × (b ≤ m)
two_low a b m h = let l = le-max_left a b in let r = le-max_right a b in (omega arith, omega arith)

with_slot_read : (f : EmissionFrame) → HasRoom f → (o : Operand) (i : Instruction) → IsPlace f.static o.place → Fits i
    → AllFit (loads f.scratch 0 (o ∷ []) ++ i ∷ [])
with_slot_read f room o i there h = both_fit (loads f.scratch 0 (o ∷ [])) (i ∷ []) (one_load_fits f room o there) (one_fits i h)

mutual
  form_fits : (f : EmissionFrame) → HasRoom f → (h : Holdings) (form : SilicaForm) (at : ℕ) → IsPut f h form at
      → EachWithin NamesWhatIsThere f.static h form → EachWithin HasKinds f.static h form → EachWithin NamesBody f.static h form
      → AllFit (form_code f h form at)
  form_fits f room h unit_form at p nw kw bw = one_fits does.Unit unit_fits
  form_fits f room h (const_form k value) at p nw kw bw = constant_fits k value (slot_low f room k p.slots) p.kinds
  form_fits f room h (op_form k operator a b line) at p nw kw bw =
      let one = two_low (k + 1) (max (slots_of_operand a) (slots_of_operand b)) f.scratch p.slots in
      let two = two_low (slots_of_operand a) (slots_of_operand b) f.scratch one.1 in
      operation_fits f room k operator a b line (slot_low f room k one.0) p.numbers.0 p.numbers.1 two.0 two.1 p.lines
  form_fits f room h (copy_form to from) at p nw kw bw =
      let two = two_low (slots_of_place to) (slots_of_operand from) f.scratch p.slots in
      copied_fits f room to from p.numbers.0 p.numbers.1 two.0 two.1
  form_fits f room h (move_form to from contract) at p nw kw bw =
      let two = two_low (slots_of_place to) (slots_of_operand from) f.scratch p.slots in
      moved_fits f room to from p.numbers.0 p.numbers.1 two.0 two.1
  form_fits f room h (new_form k contract args) at p nw kw bw =
      let two = two_low (k + 1) (slots_of_operands args) f.scratch p.slots in
      let few = new_few f.static room.table h contract args p.numbers.0 p.bodies p.kinds in
      made_fits f room k contract args two.0 two.1 p.numbers.1 few.0 few.1
  form_fits f room h (call_form k receiver contract tx args) at p nw kw bw =
      let one = two_low (slots_of_result k) (max (slots_of_operand receiver) (slots_of_operands args)) f.scratch p.slots in
      let two = two_low (slots_of_operand receiver) (slots_of_operands args) f.scratch one.1 in
      let few = call_few f.static room.table h contract tx args p.numbers.0 p.kinds.1 in
      called_fits f room k receiver contract tx args one.0 two.0 two.1 p.numbers.1 p.numbers.2 few.0 few.1 few.2
  form_fits f room h (call_this_form k tx args) at p nw kw bw =
      let two = two_low (slots_of_result k) (slots_of_operands args) f.scratch p.slots in
      let few = call_few f.static room.table h f.static.here tx args p.numbers.0 p.kinds in
      called_here_fits f room k tx args two.0 two.1 p.numbers.1 few.1 few.2
  form_fits f room h (change_form state given) at p nw kw bw =
      changed_fits f room state given p.numbers.0 p.slots p.numbers.1 (given_few f.static given room.fields p.numbers.1 p.kinds.1)
  form_fits f room h (test_form o state branch other join) at p nw kw bw =
      let one = two_low (slots_of_operand o) (max (slots_of_terms branch) (slots_of_terms other)) f.scratch p.slots in
      let two = two_low (slots_of_terms branch) (slots_of_terms other) f.scratch one.1 in
      let start = after_load f o at in
      let jumps = jumps_over branch other in
      let main = terms_code f h branch (start + 1) in
      let first = main ++ end_test branch in
      let next = after_branch (start + 1) first jumps in
      let second = terms_code f h other next in
      let low = tested_low f room (kind_of_operand f.static h o) state p.numbers.1 in
      let a = read_byte f room 0 o.place (omega arith) one.0 in
      let wm = terms_within f h branch (start + 1) in
      let cm = code_counted main in
      let em = end_test_one (terms_end branch) in
      let lm = length-append main (end_test branch) in
      let ws = terms_within f h other next in
      let cs = code_counted second in
      let at' = places at start next (weight_of_terms branch) (weight_of_terms other) (length first) (length second)
      (after_one f o at) (omega (arith, wm, cm, em, lm)) (omega (arith, ws, cs)) (after_low (start + 1) first jumps) p.place in
      both_fit (loads f.scratch 0 (o ∷ []))
      (choice_code start (λ target. does.Test (slot_read f.scratch 0 o.place) (contract_referred (kind_of_operand f.static h o)) state target)
      jumps first second)
      (one_load_fits f room o p.numbers.0)
      (choice_fits start (λ target. does.Test (slot_read f.scratch 0 o.place) (contract_referred (kind_of_operand f.static h o)) state target)
      jumps first second
      (λ target lt. test_fits (slot_read f.scratch 0 o.place) (contract_referred (kind_of_operand f.static h o)) state target a
      (let c = low.0 in omega (arith, c)) low.1 lt)
      (both_fit main (end_test branch) (terms_fit f room h branch (start + 1) nw.0 kw.0 bw.0 two.0 p.lines.0 at'.branch)
      (end_test_fits (terms_end branch)))
      (terms_fit f room h other next nw.1 kw.1 bw.1 two.1 p.lines.1 at'.other)
      at'.whole)
  form_fits f room h (if_form o branch other join) at p nw kw bw =
      let one = two_low (slots_of_operand o) (max (slots_of_terms branch) (slots_of_terms other)) f.scratch p.slots in
      let two = two_low (slots_of_terms branch) (slots_of_terms other) f.scratch one.1 in
      let start = after_load f o at in
      let jumps = jumps_over branch other in
      let first = terms_code f h branch (start + 1) in
      let next = after_branch (start + 1) first jumps in
      let second = terms_code f h other next in
      let a = read_byte f room 0 o.place (omega arith) one.0 in
      let wm = terms_within f h branch (start + 1) in
      let cm = code_counted first in
      let ws = terms_within f h other next in
      let cs = code_counted second in
      let at' = places at start next (weight_of_terms branch) (weight_of_terms other) (length first) (length second)
      (after_one f o at) (omega (arith, wm, cm)) (omega (arith, ws, cs)) (after_low (start + 1) first jumps) p.place in
      both_fit (loads f.scratch 0 (o ∷ []))
      (choice_code start (λ target. does.Unless (slot_read f.scratch 0 o.place) target) jumps first second)
      (one_load_fits f room o p.numbers)
      (choice_fits start (λ target. does.Unless (slot_read f.scratch 0 o.place) target) jumps first second
      (λ target lt. unless_fits (slot_read f.scratch 0 o.place) target a lt)
      (terms_fit f room h branch (start + 1) nw.0 kw.0 bw.0 two.0 p.lines.0 at'.branch)
      (terms_fit f room h other next nw.1 kw.1 bw.1 two.1 p.lines.1 at'.other)
      at'.whole)
  form_fits f room h (loop_form first o body end) at p nw kw bw =
      let low = two_low (slots_of_terms first) (max (slots_of_operand o) (slots_of_terms body)) f.scratch p.slots in
      let two = two_low (slots_of_operand o) (slots_of_terms body) f.scratch low.1 in
      let head = at_head f.static first body h in
      let one = terms_code f head first at in
      let start = after_load f o (at + length one) in
      let inside = terms_code f (after_terms f.static first head) body (start + 1) in
      let a = read_byte f room 0 o.place (omega arith) two.0 in
      let wf = terms_within f head first at in
      let cf = code_counted one in
      let wb = terms_within f (after_terms f.static first head) body (start + 1) in
      let cb = code_counted inside in
      let at' = turns at start (weight_of_terms first) (weight_of_terms body) (length one) (length inside)
      (after_one f o (at + length one)) (omega (arith, wf, cf)) (omega (arith, wb, cb)) p.place in
      both_fit one (loads f.scratch 0 (o ∷ []) ++ turn_code (slot_read f.scratch 0 o.place) at (not (terms_end body)) start inside)
      (terms_fit f room head first at nw.0 kw.0 bw.0 low.0 p.lines.0 at'.first)
      (both_fit (loads f.scratch 0 (o ∷ [])) (turn_code (slot_read f.scratch 0 o.place) at (not (terms_end body)) start inside)
      (one_load_fits f room o p.numbers)
      (turn_fits (slot_read f.scratch 0 o.place) at (not (terms_end body)) start inside a
      (terms_fit f room (after_terms f.static first head) body (start + 1) nw.1 kw.1 bw.1 two.1 p.lines.1 at'.body)
      (let w = p.place in omega (arith, w)) at'.whole))
  form_fits f room h (assert_form o perm) at p nw kw bw = tt
  form_fits f room h (disown_form o) at p nw kw bw =
      with_slot_read f room o (does.Disown (slot_read f.scratch 0 o.place)) p.numbers
      (disown_fits (slot_read f.scratch 0 o.place) (read_byte f room 0 o.place (omega arith) p.slots))
  form_fits f room h (drop_form k) at p nw kw bw = tt
  form_fits f room h (return_form None) at p nw kw bw = return_none_fits f
  form_fits f room h (return_form (Some o)) at p nw kw bw = returned_fits f room o p.numbers p.slots
  form_fits f room h (revert_form o) at p nw kw bw =
      with_slot_read f room o (does.Revert (slot_read f.scratch 0 o.place)) p.numbers
      (revert_fits (slot_read f.scratch 0 o.place) (read_byte f room 0 o.place (omega arith) p.slots))
  form_fits f room h bad_row_form at p nw kw bw = tt

  pub terms_fit : (f : EmissionFrame) → HasRoom f → (h : Holdings) (ts : SilicaTerms) (at : ℕ)
      → EachForm NamesWhatIsThere f.static h ts → EachForm HasKinds f.static h ts → EachForm NamesBody f.static h ts
      → slots_of_terms ts ≤ f.scratch → LinesFit ts → at + weight_of_terms ts ≤ most_weight → AllFit (terms_code f h ts at)
  terms_fit f room h no_terms at n k b low lines place = tt
  terms_fit f room h (and_term form span rest) at n k b low lines place =
      let two = two_low (slots_of_form form) (slots_of_terms rest) f.scratch low in
      let w = form_within f h form at in
      let c = code_counted (form_code f h form at) in
      both_fit (form_code f h form at) (terms_code f (after_form f.static form h) rest (at + length (form_code f h form at)))
      (form_fits f room h form at (record {
        numbers = n.0;
        kinds = k.0;
        bodies = b.0;
        slots = two.0;
        lines = lines.0;
        place = omega (arith, place);
      }) n.1 k.1 b.1)
      (terms_fit f room (after_form f.static form h) rest (at + length (form_code f h form at)) n.2 k.2 b.2 two.1 lines.1
      (omega (arith, w, c, place)))
