-- The objects of owning parameters are in their declared states.
use Rattle.std.proofs.Common.{◌≡◌, ℕ, suc, true, false, not, List, [], ◌∷◌, refl, ap, ◌∙◌, ⊎_elim}
use Rattle.std.specs.Option.{option_map_or}
use Rattle.std.proofs.lemmas.Bool.{cases_Bool, or_right, and_from}
use Rattle.ob_base.specs.declared.id.ContractId.{ContractId}
use Rattle.ob_base.specs.declared.permission.Perm.{Perm}
use Rattle.ob_base.specs.declared.permission.Mode.{Mode}
use Rattle.ob_base.specs.declared.permission.Mode.TheVariants.{Owned, Shared, Unowned}
use Rattle.ob_perm.specs.Permissions.{owned, owns}
use Rattle.ob_perm.specs.Masks.{states_of, held, permission_of}
use Rattle.ob_table.specs.Tables.{ClassTable}
use Rattle.ob_table.specs.declared.contract.ResolvedType.{ResolvedType}
use Rattle.ob_table.specs.declared.contract.ResolvedType.TheVariants.{Int, Bool as BoolKind, Text, Reference}
use Rattle.ob_heap_spec.specs.Values.{Value, int_value, bool_value, text_value, reference, referred}
use Rattle.ob_heap_spec.specs.Objects.{Object, is_in_states}
use Rattle.ob_heap_spec.specs.GoingWrong.{is_held_within, is_within}
use Rattle.ob_silica_places.specs.Parameters.{Parameter}
use Rattle.ob_silica_steps.specs.Cells.{value_in}
use Rattle.ob_silica_steps.specs.Configurations.{SlotCells}
use Rattle.ob_silica_steps.specs.Binding.{bound_cell}
use Rattle.ob_silica_steps.specs.Entering.{are_within}
use Rattle.ob_coherent_spec.specs.Standing.{Stands}
use Rattle.ob_soundness_laws.proofs.counting.Objects.{object_there}
use Rattle.ob_soundness_laws.specs.calls.Bound.{AreBound}

-- an owner's permission is that of its states
owned_states : (p : Perm) → owns (permission_of p) ≡ true → permission_of p ≡ owned (states_of p.states)
owned_states p e = at p.mode refl
  where
    at : (m : Mode) → p.mode ≡ m → permission_of p ≡ owned (states_of p.states)
    at Owned i = ap (λ m. held m (states_of p.states)) i
    at Shared i = absurd (let z : owns (held p.mode (states_of p.states)) ≡ true = e in
        let y : owns (held p.mode (states_of p.states)) ≡ false = ap (λ m. owns (held m (states_of p.states))) i in cc)
    at Unowned i = absurd (let z : owns (held p.mode (states_of p.states)) ≡ true = e in
        let y : owns (held p.mode (states_of p.states)) ≡ false = ap (λ m. owns (held m (states_of p.states))) i in cc)

-- an object that is owned as declared is in a declared state
held_within : (table : ClassTable) (objects : List Object) (id : ContractId) (p : Perm) (v : Value)
    → Stands table objects (bound_cell (Reference id p) v) → is_held_within table objects id p (referred v) ≡ true
held_within table objects id p (int_value z) s = absurd s.kind
held_within table objects id p (bool_value z) s = absurd s.kind
held_within table objects id p (text_value z) s = absurd s.kind
held_within table objects id p (reference n) s = ⊎_elim
    (λ own. or_right (not (owns (permission_of p))) _
    (ap (λ x. option_map_or (is_in_states table id p) x false) (object_there objects n s.kind.0)
    ∙ s.states (states_of p.states) (owned_states p own)))
    (λ other. rw other refl)
    (cases_Bool (owns (permission_of p)))

-- a value that is bound is as its type declares it
pub bound_within : (table : ClassTable) (objects : List Object) (of : ResolvedType) (v : Value)
    → Stands table objects (bound_cell of v) → is_within table objects of v ≡ true
bound_within table objects Int v s = refl
bound_within table objects BoolKind v s = refl
bound_within table objects Text v s = refl
bound_within table objects (Reference id p) v s = held_within table objects id p v s

-- all of them are
pub are_all_within : (table : ClassTable) (objects : List Object) (slots : SlotCells) (k : ℕ) (ps : List Parameter)
    → AreBound table objects slots k ps → are_within table objects slots k ps ≡ true
are_all_within table objects slots k [] b = refl
are_all_within table objects slots k (p ∷ ps) b = and_from
    (option_map_or (is_within table objects p.of) (value_in (slots k)) true) (are_within table objects slots (suc k) ps)
    (ap (λ x. option_map_or (is_within table objects p.of) (value_in x) true) b.0.set
    ∙ bound_within table objects p.of b.0.value b.0.stands)
    (are_all_within table objects slots (suc k) ps b.1)
