-- What is so of cells and of objects, of a changed list of objects.
use Rattle.std.proofs.Common.{◌≡◌, ℕ, ◌<◌, ⊎_elim, Bool, true, false, nat_eq, ◌&&◌, List, length, Option, Some, refl, subst, arith}
use Rattle.std.proofs.lemmas.Bool.Decides.{eqb_tells}
use Rattle.ob_base.specs.declared.id.ContractId.{ContractId}
use Rattle.ob_perm.specs.States.{States}
use Rattle.ob_perm.specs.Permissions.{owned, owns}
use Rattle.ob_table.specs.Tables.{ClassTable}
use Rattle.ob_table.specs.declared.seen.Kind.{Kind}
use Rattle.ob_table.specs.declared.seen.Kind.TheVariants.{Int, Bool as BoolKind, Text, Reference}
use Rattle.ob_heap_spec.specs.Values.{Value, int_value, bool_value, text_value, reference}
use Rattle.ob_heap_spec.specs.Objects.{Object, seen_state}
use Rattle.ob_silica_places.specs.Known.{Known}
use Rattle.ob_silica_steps.specs.Cells.{Cell}
use Rattle.ob_silica_steps.specs.Here.{field_value}
use Rattle.ob_coherent_spec.specs.Counting.{one_if, refers_to, in_cell}
use Rattle.ob_coherent_spec.specs.Standing.{Stands, IsOfKind, HasItsState}
use Rattle.ob_coherent_spec.specs.Saying.{SaysOf}

-- Objects.

-- an object's field is read from its contract, its state and the field's value
pub same_field_value : (table : ClassTable) (o p : Object) (k : ℕ) → p.contract ≡ o.contract → p.state ≡ o.state
    → p.fields k ≡ o.fields k → field_value table p k ≡ field_value table o k
same_field_value table o p k contract state fields = rw (contract, state, fields) refl

-- an object is seen in a state by its contract and its state
pub same_seen : (table : ClassTable) (id : ContractId) (o p : Object) → p.contract ≡ o.contract → p.state ≡ o.state
    → seen_state table id p ≡ seen_state table id o
same_seen table id o p contract state = rw (contract, state) refl

-- an object with the same contract and state is in one of its states too
pub same_has_state : (table : ClassTable) (o p : Object) → p.contract ≡ o.contract → p.state ≡ o.state
    → HasItsState table o → HasItsState table p
same_has_state table o p contract state h = rw (contract, state) h

-- Cells.

-- a number is equal to itself
pub same_number : (n : ℕ) → nat_eq n n ≡ true
same_number n = ⊎_elim (λ t. t.0) (λ t. absurd (t.1 refl)) (eqb_tells n n)

-- a cell that owns an object is counted for it
pub owns_counted : (n : ℕ) (x : Cell) (a : States) → x.note.permission ≡ owned a → x.value ≡ reference n
    → in_cell owns n (Some x) ≡ 1
owns_counted n x a owning refers = rw (owning, refers, same_number n) refl

-- an object to which a cell refers that is counted is there
refers_there : (table : ClassTable) (objects : List Object) (kind : Kind) (v : Value) (n : ℕ) (b : Bool)
    → IsOfKind table objects kind v → 0 < one_if (b && refers_to n v) → n < length objects
refers_there table objects kind v n false of has = absurd (omega arith)
refers_there table objects (Reference id) (reference m) n true of has = ⊎_elim
    (λ t. subst (λ j. j < length objects) t.1 of.0)
    (λ t. absurd (let z : 0 < one_if (nat_eq m n) = has in let y : one_if (nat_eq m n) ≡ 0 = rw t.0 refl in
    omega arith))
    (eqb_tells m n)
refers_there table objects Int (reference m) n true of has = absurd of
refers_there table objects BoolKind (reference m) n true of has = absurd of
refers_there table objects Text (reference m) n true of has = absurd of
refers_there table objects kind (int_value z) n true of has = absurd (omega arith)
refers_there table objects kind (bool_value z) n true of has = absurd (omega arith)
refers_there table objects kind (text_value z) n true of has = absurd (omega arith)

-- an object that a cell owns is there
pub owned_there : (table : ClassTable) (objects : List Object) (x : Cell) (n : ℕ) → Stands table objects x
    → 0 < in_cell owns n (Some x) → n < length objects
owned_there table objects x n stands has = refers_there table objects x.note.kind x.value n _ stands.kind has

-- an object to which a value of a kind refers is there
pub reference_there : (table : ClassTable) (objects : List Object) (kind : Kind) (v : Value) (n : ℕ)
    → IsOfKind table objects kind v → v ≡ reference n → n < length objects
reference_there table objects kind v n of e =
    refers_there table objects kind v n true of (rw (e, same_number n) (omega arith))

-- what holds of fewer objects that must have an owner is said of a place too
pub says_less : (N M : ℕ → Type 0) (y : Option Known) (x : Option Cell) → ((n : ℕ) → 0 < in_cell owns n x → M n → N n)
    → SaysOf N y x → SaysOf M y x
says_less N M y x fewer s = record { known = s.known; owner = λ n m has. s.owner n (fewer n has m) has }
