-- How the run of a request starts: with the first configuration of its body, or with an abort.
use Rattle.std.proofs.Common.{◌≡◌, ℕ, zero, suc, ◌<◌, Bool, true, false, List, [], ◌∷◌, length, Option, Some, refl, sym, ap, subst, ◌∙◌, arith}
use Rattle.std.specs.Prelude.{nat_le, ◌==◌, if◌then◌else◌}
use Rattle.std.specs.Option.{option_and_then}
use Rattle.std.proofs.lemmas.Bool.Decides.{nat_tests}
use Rattle.std.proofs.lemmas.List.{length-map}
use Rattle.ob_base.specs.Limits.{most_objects}
use Rattle.ob_base.specs.declared.id.ContractId.{ContractId}
use Rattle.ob_base.specs.declared.id.TxId.{TxId}
use Rattle.ob_table.specs.Tables.{contract_at, signature_at}
use Rattle.ob_table.specs.declared.contract.Contract.{Contract}
use Rattle.ob_table.specs.declared.contract.Signature.{Signature}
use Rattle.ob_table_spec.specs.WellFormed.{constructor_at}
use Rattle.ob_heap_spec.specs.Values.{Value, reference, nothing}
use Rattle.ob_heap_spec.specs.Objects.{Object}
use Rattle.ob_heap_spec.specs.Contents.{object_at}
use Rattle.ob_heap_spec.specs.Worlds.{World, Spent, AbortCause, by_reentry, by_full, next_item, with_read, read_object, with_unit_taken}
use Rattle.ob_heap_spec.specs.Marks.{is_among}
use Rattle.ob_heap_spec.specs.Dispatch.{answering}
use Rattle.ob_silica_places.specs.Parameters.{parameter_of, parameters, this_parameter, all_parameters}
use Rattle.ob_silica_steps.specs.Calling.{constructor_id}
use Rattle.ob_silica_steps.specs.Configurations.{SilicaProgram, SlotCells, by_new, Notes, NextStep, aborted, stuck, abort_step}
use Rattle.ob_silica_steps.specs.Entering.{are_within, begins_on, calls_object, makes_object, enters, entered_new}
use Rattle.ob_silica_steps.specs.Here.{if_there, with_fuel_left, with_unit}
use Rattle.ob_silica_steps.specs.Starting.{pass_all, alone, started_call, started_new}
use Rattle.ob_coherent_spec.specs.Counting.{nth_object}
use Rattle.ob_soundness_laws.proofs.counting.Objects.{object_there}
use Rattle.ob_soundness_laws.proofs.counting.Marking.{read_objects, read_keeps}
use Rattle.ob_soundness_laws.proofs.counting.Passing.{passed_slots, passed_world, passes, passed_keeps}

params_length : (s : Signature) → length (parameters s) ≡ length s.params
params_length s = length-map s.params parameter_of

module _ (P : NextStep → Type 0) (aborts : (cause : AbortCause) (s : Spent) → P (aborted cause s)) where
  on_fuel : (n : ℕ) (w : World) (go : World → NextStep) → ((m : ℕ) → n ≡ suc m → P (go (with_unit_taken w m)))
      → P (with_fuel_left n w go)
  on_fuel zero w go on = aborts _ _
  on_fuel (suc n) w go on = on n refl

  module _ (program : SilicaProgram) (contract : ContractId) (tx : TxId) (n : ℕ) (args : List Value) (notes : Notes) (w : World)
      (own : Contract) (s : Signature) (is_own : contract_at program.table contract ≡ Some own)
      (is : signature_at own tx ≡ Some s) (count : length args ≡ length s.params)
      (there : n < length w.objects) (of : (nth_object w.objects n).contract ≡ contract) (idle : w.progress ≡ []) where
    abbrev call_slots : SlotCells
    call_slots = passed_slots (reference n ∷ args) 0 (all_parameters contract s) nothing

    abbrev call_world : World
    call_world = passed_world (reference n ∷ args) (all_parameters contract s) w

    -- the world in which the object is read, where so many units are left
    abbrev read_world : ℕ → World
    read_world m = read_object (with_unit_taken call_world m) n

    abbrev read_there : ℕ → Object
    read_there m = nth_object (read_world m).objects n

    world_objects : (m : ℕ) → (read_world m).objects ≡ call_world.objects
    world_objects m = read_objects (with_unit_taken call_world m) n

    -- what follows in turn from the object, its contract, its transaction and the signature
    abbrev on_signature : ℕ → Object → TxId → Signature → NextStep
    on_signature m o t r = begins_on program (alone call_slots notes (read_world m)) n o t r

    abbrev on_tx : ℕ → Object → Contract → TxId → NextStep
    on_tx m o d t = if_there (signature_at d t) (λ r. on_signature m o t r)

    abbrev on_contract : ℕ → Object → Contract → NextStep
    on_contract m o d = if_there (answering contract tx s o.contract d) (λ t. on_tx m o d t)

    abbrev on_object : ℕ → Option Object → NextStep
    on_object m x = if_there x (λ o. if_there (contract_at program.table o.contract) (λ d. on_contract m o d))

    -- the object's own transaction begins
    pub starts_call : ((m : ℕ) → call_world.fuel ≡ suc m
        → P (begins_on program (alone call_slots notes (read_world m)) n (read_there m) tx s))
        → P (started_call program contract tx n args notes w)
    starts_call on =
        subst P (sym (ap (λ (x : Option Signature). if_there x (λ s.
        pass_all (reference n ∷ args) 0 (this_parameter contract s ∷ parameters s) nothing w (λ slots v.
        with_unit v (λ x. calls_object program (alone slots notes x) contract tx s n))))
        (ap (option_and_then (λ c. signature_at c tx)) is_own ∙ is)
        ∙ passes (reference n ∷ args) 0 (all_parameters contract s) nothing w (λ slots v.
        with_unit v (λ x. calls_object program (alone slots notes x) contract tx s n))
        (let z = params_length s in omega (arith, count, z))))
        (on_fuel call_world.fuel call_world (λ x. calls_object program (alone call_slots notes x) contract tx s n)
        (λ m is. called m (on m is)))
      where
        keeps : (m : ℕ) → (read_world m).progress ≡ []
        keeps m = (read_keeps (with_unit_taken call_world m) n).progress
            ∙ (passed_keeps (reference n ∷ args) (all_parameters contract s) w).progress ∙ idle

        still_there : (m : ℕ) → n < length (read_world m).objects
        still_there m = let a = ap length (world_objects m) in
            let b = (passed_keeps (reference n ∷ args) (all_parameters contract s) w).count in omega (arith, a, b, there)

        still_of : (m : ℕ) → (read_there m).contract ≡ contract
        still_of m = ap (λ l. (nth_object l n).contract) (world_objects m)
            ∙ (passed_keeps (reference n ∷ args) (all_parameters contract s) w).contract n ∙ of

        answers : (d : ContractId) → d ≡ contract → answering contract tx s d own ≡ Some tx
        answers d e = rw (ap (λ (x : ContractId). contract.0 == x.0) e ∙ itself contract.0) refl
          where
            itself : (m : ℕ) → (m == m) ≡ true
            itself m = grind (arith, nat_tests)

        called : (m : ℕ) → P (begins_on program (alone call_slots notes (read_world m)) n (read_there m) tx s)
            → P (calls_object program (alone call_slots notes (with_unit_taken call_world m)) contract tx s n)
        called m p = subst P (sym (
            ap (λ (ns : List ℕ). if is_among n ns then abort_step (by_reentry n) (read_world m) else on_object m (object_at (read_world m).objects n)) (keeps m)
            ∙ ap (on_object m) (object_there (read_world m).objects n (still_there m))
            ∙ ap (λ (x : Option Contract). if_there x (λ d. on_contract m (read_there m) d))
            (ap (contract_at program.table) (still_of m) ∙ is_own)
            ∙ ap (λ (x : Option TxId). if_there x (λ t. on_tx m (read_there m) own t)) (answers (read_there m).contract (still_of m))
            ∙ ap (λ (x : Option Signature). if_there x (λ r. on_signature m (read_there m) tx r)) is)) p

  module _ (program : SilicaProgram) (contract : ContractId) (args : List Value) (notes : Notes) (w : World) (s : Signature)
      (is : constructor_at program.table contract ≡ Some s) (count : length args ≡ length s.params) where
    abbrev new_slots : SlotCells
    new_slots = passed_slots args 1 (parameters s) nothing

    abbrev new_world : World
    new_world = passed_world args (parameters s) w

    -- the world in which the next number is read, where so many units are left
    abbrev next_world : ℕ → World
    next_world m = with_read (with_unit_taken new_world m) next_item

    -- what begins if the values are within
    abbrev new_begins : ℕ → NextStep
    new_begins m =
        if are_within program.table new_world.objects new_slots 1 (parameters s)
        then enters program (entered_new (alone new_slots notes (next_world m)) contract) contract constructor_id by_new false
        else stuck

    -- a new object's constructor begins, unless there are as many objects as there may be
    pub starts_new : ((m : ℕ) → new_world.fuel ≡ suc m → nat_le most_objects (length new_world.objects) ≡ false → P (new_begins m))
        → P (started_new program contract args notes w)
    starts_new on =
        subst P (sym (ap (λ (x : Option Signature). if_there x (λ s.
        pass_all args 1 (parameters s) nothing w (λ slots v.
        with_unit v (λ x. makes_object program (alone slots notes x) contract constructor_id s)))) is
        ∙ passes args 1 (parameters s) nothing w (λ slots v.
        with_unit v (λ x. makes_object program (alone slots notes x) contract constructor_id s))
        (let z = params_length s in omega (arith, count, z))))
        (on_fuel new_world.fuel new_world (λ x. makes_object program (alone new_slots notes x) contract constructor_id s)
        (λ m is. by_room m (nat_le most_objects (length new_world.objects)) (on m is)))
      where
        by_room : (m : ℕ) (b : Bool) → (b ≡ false → P (new_begins m))
            → P (if b then abort_step by_full (next_world m) else new_begins m)
        by_room m true p = aborts _ _
        by_room m false p = p refl
