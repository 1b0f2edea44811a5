-- What the parts of a step leave of the fuel.
use Rattle.std.proofs.Common.{◌≡◌, ℕ, Bool, true, false, List, [], ◌∷◌, Option, Some, None, refl, ◌∙◌}
use Rattle.std.specs.Prelude.{if◌then◌else◌}
use Rattle.std.specs.Option.{option_map_or}
use Rattle.ob_heap_spec.specs.Objects.{Object}
use Rattle.ob_heap_spec.specs.Contents.{object_at}
use Rattle.ob_heap_spec.specs.Worlds.{World, is_made, with_read, object_item, read_object, set_object, edit_object}
use Rattle.ob_heap_spec.specs.Marks.{has_mark, mark_shared, mark_disowned}
use Rattle.ob_machine_steps.specs.Configurations.{Entered, on_receiver, on_this, on_new, MachineFrame}
use Rattle.ob_machine_steps.specs.Testing.{with_lock, without_lock, without_locks}
use Rattle.ob_machine_steps.specs.Returning.{without_progress, world_left}

-- one of two worlds with as much fuel
fuel_if : (b : Bool) (u v : World) (n : ℕ) → u.fuel ≡ n → v.fuel ≡ n → (if b then u else v).fuel ≡ n
fuel_if true u v n e f = e
fuel_if false u v n e f = f

pub read_fuel : (w : World) (n : ℕ) → (read_object w n).fuel ≡ w.fuel
read_fuel w n = fuel_if (is_made w n) w (with_read w (object_item n)) w.fuel refl refl

edited_fuel : (w : World) (n : ℕ) (f : Object → Object) (o : Option Object) → (option_map_or (λ x. set_object w n (f x)) o w).fuel ≡ w.fuel
edited_fuel w n f None = refl
edited_fuel w n f (Some o) = refl

pub edit_fuel : (w : World) (f : Object → Object) (n : ℕ) → (edit_object f n w).fuel ≡ w.fuel
edit_fuel w f n = edited_fuel w n f (object_at w.objects n)

pub shared_fuel : (w : World) (n : ℕ) → (mark_shared n w).fuel ≡ w.fuel
shared_fuel w n =
    fuel_if (has_mark (λ o. o.shared) (read_object w n) n) (read_object w n) (edit_object (λ o. record o { shared = true }) n (read_object w n)) w.fuel (read_fuel w n)
    (edit_fuel (read_object w n) (λ o. record o { shared = true }) n ∙ read_fuel w n)

pub disowned_fuel : (w : World) (n : ℕ) → (mark_disowned n w).fuel ≡ w.fuel
disowned_fuel w n =
    fuel_if (has_mark (λ o. o.disowned) (read_object w n) n) (read_object w n) (edit_object (λ o. record o { disowned = true }) n (read_object w n)) w.fuel (read_fuel w n)
    (edit_fuel (read_object w n) (λ o. record o { disowned = true }) n ∙ read_fuel w n)

-- Locks and progress.

pub lock_fuel : (t : Option ℕ) (w : World) → (with_lock t w).fuel ≡ w.fuel
lock_fuel None w = refl
lock_fuel (Some n) w = refl

pub unlock_fuel : (t : Option ℕ) (w : World) → (without_lock t w).fuel ≡ w.fuel
unlock_fuel None w = refl
unlock_fuel (Some n) w = refl

unlocks_fuel : (ts : List (Option ℕ)) (w : World) → (without_locks ts w).fuel ≡ w.fuel
unlocks_fuel [] w = refl
unlocks_fuel (t ∷ ts) w = unlocks_fuel ts (without_lock t w) ∙ unlock_fuel t w

progress_fuel : (e : Entered) (n : ℕ) (w : World) → (without_progress e n w).fuel ≡ w.fuel
progress_fuel on_receiver n w = refl
progress_fuel on_this n w = refl
progress_fuel on_new n w = refl

pub left_fuel : (f : MachineFrame) (w : World) → (world_left f w).fuel ≡ w.fuel
left_fuel f w = progress_fuel f.entered f.this (without_locks f.tests w) ∙ unlocks_fuel f.tests w
