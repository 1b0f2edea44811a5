-- The objects of a world by number, and what an edit of one of them and a mark leave.
use Rattle.std.proofs.Common.{◌≡◌, ℕ, ◌<◌, true, false, length, sym, ap, subst, ⊎_elim, eq-eqb}
use Rattle.ob_perm.specs.Permissions.{shared, is_shared}
use Rattle.ob_table.specs.declared.contract.ResolvedType.{ResolvedType}
use Rattle.ob_table.specs.declared.contract.ResolvedType.TheVariants.{Int, Bool as BoolType, Text, Reference}
use Rattle.ob_heap_spec.specs.Values.{Value, reference}
use Rattle.ob_heap_spec.specs.Objects.{Object}
use Rattle.ob_heap_spec.specs.Worlds.{World, edit_object}
use Rattle.ob_heap_spec.specs.Marks.{mark_disowned, comes_into}
use Rattle.ob_silica_places.specs.Known.{at, permission_of_type}
use Rattle.ob_places_laws.proofs.Permissions.{shared_is}
use Rattle.ob_coherent_spec.specs.Counting.{nth_object}
use Rattle.ob_soundness_laws.proofs.counting.Objects.{edit_either}
use Rattle.ob_soundness_laws.proofs.counting.Marking.{Keeps, mark_disowned_keeps, mark_disowned_there, comes_shared, comes_newly_shared as newly_shared}
pub use Rattle.ob_soundness_laws.proofs.counting.Sums.{at_same, at_other}
pub use Rattle.ob_soundness_laws.proofs.counting.Marking.{mark_disowned_other}

-- what stands at a number, with another thing at that number
pub at_that : {A : Type 0} (xs : ℕ → A) (k : ℕ) (x : A) (n : ℕ) → n ≡ k → at xs k x n ≡ x
at_that xs k x n e = rw (eq-eqb n k e)

-- what holds of each object after an edit holds of the one edited, and held of each before
pub edit_each : (P : Object → Object → Type 0) (f : Object → Object) (n : ℕ) (w : World) → ((o : Object) → P o o)
    → ((o : Object) → P o (f o)) → (m : ℕ) → P (nth_object w.objects m) (nth_object (edit_object f n w).objects m)
edit_each P f n w same edited m = ⊎_elim
    (λ e. subst (P (nth_object w.objects m)) (sym e) (same (nth_object w.objects m)))
    (λ e. subst (P (nth_object w.objects m)) (sym e.2) (edited (nth_object w.objects m)))
    (edit_either f n w m)

-- Marks.

-- a world keeps all but marks where an object is disowned
pub mark_disowned_marks : (n : ℕ) (w : World) → Keeps w (mark_disowned n w)
mark_disowned_marks n w = mark_disowned_keeps n w

-- the object is marked afterwards
pub mark_disowned_sets : (n : ℕ) (w : World) → n < length w.objects
    → (nth_object (mark_disowned n w).objects n).disowned ≡ true
mark_disowned_sets n w lt = mark_disowned_there n w lt

-- newly shared is only the object given, where the type is declared Shared
pub comes_newly_shared : (of : ResolvedType) (v : Value) (w : World) (m : ℕ)
    → (nth_object w.objects m).shared ≡ false → (nth_object (comes_into of v w).objects m).shared ≡ true
    → (v ≡ reference m) × (permission_of_type of ≡ shared)
comes_newly_shared of v w m unset set =
    let r = newly_shared of v w m unset set in
    (r.0, shared_is (permission_of_type of) r.1)

-- an object that comes into a place declared Shared is marked so
shared_marks : (of : ResolvedType) (n : ℕ) (w : World) → n < length w.objects → permission_of_type of ≡ shared
    → (nth_object (comes_into of (reference n) w).objects n).shared ≡ true
shared_marks (Reference id p) n w lt e = comes_shared id p n w (ap is_shared e) lt
shared_marks Int n w lt e = absurd (cc)
shared_marks BoolType n w lt e = absurd (cc)
shared_marks Text n w lt e = absurd (cc)

pub comes_sets : (of : ResolvedType) (v : Value) (w : World) (n : ℕ) → n < length w.objects → v ≡ reference n
    → permission_of_type of ≡ shared → (nth_object (comes_into of v w).objects n).shared ≡ true
comes_sets of v w n lt is e = subst (λ u. (nth_object (comes_into of u w).objects n).shared ≡ true) (sym is)
    (shared_marks of n w lt e)
