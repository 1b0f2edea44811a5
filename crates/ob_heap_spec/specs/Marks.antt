-- The marks on objects, locks, and transactions in progress (Coblenz et al., TOPLAS 42(3), 2020, "Permissions" and
-- "State tests"; marks and locks are this project's own).
use Rattle.std.specs.Prelude.{ℕ, Bool, true, nat_eq, List, [], ◌∷◌, if◌then◌else◌}
use Rattle.std.specs.Option.{option_map_or}
use Rattle.std.specs.List.{list_any}
use Rattle.ob_perm.specs.Permissions.{is_shared}
use Rattle.ob_perm.specs.Masks.{permission_of}
use Rattle.ob_table.specs.declared.contract.ResolvedType.{ResolvedType}
use Rattle.ob_table.specs.declared.contract.ResolvedType.TheVariants.{Reference}
use Rattle.ob_heap_spec.specs.Values.{Value, reference}
use Rattle.ob_heap_spec.specs.Objects.{Object}
use Rattle.ob_heap_spec.specs.Contents.{object_at}
use Rattle.ob_heap_spec.specs.Worlds.{World, read_object, edit_object}

-- whether the object of a number has a mark already; where there is no object there is none to set
abbrev pub has_mark : (Object → Bool) → World → ℕ → Bool
has_mark mark w n = option_map_or mark (object_at w.objects n) true

-- an object is marked as shared, for good; it is read
abbrev pub mark_shared : ℕ → World → World
mark_shared n w =
    let w1 = read_object w n in
    if has_mark (λ o. o.shared) w1 n then w1 else edit_object (λ o. record o { shared = true }) n w1

-- an object is marked as disowned, for good; it is read
abbrev pub mark_disowned : ℕ → World → World
mark_disowned n w =
    let w1 = read_object w n in
    if has_mark (λ o. o.disowned) w1 n then w1 else edit_object (λ o. record o { disowned = true }) n w1

-- a value comes into a place of this type: a reference in a place declared Shared marks its object
abbrev pub comes_into : ResolvedType → Value → World → World
comes_into (Reference id p) (reference n) w = if is_shared (permission_of p) then mark_shared n w else w
comes_into kind value w = w

-- whether a number is among these
abbrev pub is_among : ℕ → List ℕ → Bool
is_among n ns = list_any (nat_eq n) ns

-- the numbers without the first that is this one
abbrev pub without_first : ℕ → List ℕ → List ℕ
without_first n [] = []
without_first n (m ∷ ns) = if nat_eq n m then ns else m ∷ without_first n ns

-- whether an object is locked
abbrev pub is_locked : World → ℕ → Bool
is_locked w n = is_among n w.locked

-- an object is locked
abbrev pub lock : ℕ → World → World
lock n w = record w { locked = n ∷ w.locked }

-- a lock on an object ends
abbrev pub unlock : ℕ → World → World
unlock n w = record w { locked = without_first n w.locked }

-- whether an object has a transaction in progress
abbrev pub is_in_progress : World → ℕ → Bool
is_in_progress w n = is_among n w.progress

-- a transaction of an object begins
abbrev pub enter : ℕ → World → World
enter n w = record w { progress = n ∷ w.progress }

-- a transaction of an object ends
abbrev pub leave : ℕ → World → World
leave n w = record w { progress = without_first n w.progress }
