-- Steps, from what their parts give.
use Rattle.std.proofs.Common.{◌≡◌, ℕ, ◌+◌, Bool, true, false, List, [], ◌∷◌, Option, Some, None, Err, refl, sym, ap, ◌∙◌}
use Rattle.std.specs.Prelude.{if◌then◌else◌}
use Rattle.ob_base.specs.Optional.{◌>>=◌}
use Rattle.ob_base.specs.declared.id.FieldId.{FieldId}
use Rattle.ob_heap_spec.specs.Objects.{Object as PlainObject, with_field}
use Rattle.ob_heap_spec.specs.Values.{Value as PlainValue}
use Rattle.ob_heap_spec.specs.Worlds.{World, edit_object}
use Rattle.ob_machine_parts.specs.Guards.{Guarded}
use Rattle.ob_code.specs.declared.image.ContractCode.{ContractCode}
use Rattle.ob_code.specs.declared.image.Image.{Image}
use Rattle.ob_heap.specs.declared.object.Object.{Object}
use Rattle.ob_heap.specs.Overlays.{Changes}
use Rattle.ob_code.specs.Code.{contract_code}
use Rattle.ob_code_table.specs.Images.{has_field_code}
use Rattle.ob_machine_steps.specs.Slots.{value_at}
use Rattle.ob_machine_steps.specs.Configurations.{Entered, on_receiver, on_this, on_new, Configuration, Next, goes}
use Rattle.ob_machine_steps.specs.Parts.{goes_on, with_world, this_object}
use Rattle.ob_machine_steps.specs.Changing.{edits_this, store_step}
use Rattle.ob_machine_steps.specs.Testing.{without_lock, without_locks}
use Rattle.ob_machine_steps.specs.Returning.{without_progress}
use Rattle.ob_machine_parts.specs.Changes.{is_storable, stored}
use Rattle.ob_machine_parts.specs.Guarding.{released, all_released, left_by}
use Rattle.ob_machine_parts.specs.Giving.{Gives}
use Rattle.ob_machine_parts.specs.Shown.{slots_of}
use Rattle.ob_machine_parts.specs.declared.off.Off.{Off}
use Rattle.ob_machine_parts.specs.declared.off.Off.TheVariants.{Memory, NoStep}
use Rattle.ob_machine.specs.Shown.{frame_of, frames_of, shown, told, world_of}
use Rattle.ob_machine.specs.Stretching.{Acts}
use Rattle.ob_machine.specs.declared.run.Run.{Run}
use Rattle.ob_machine.specs.declared.progress.Progress.{Progress}
use Rattle.ob_machine.specs.declared.progress.Progress.TheVariants.{Going}

-- the machine goes on with another world
pub on_with : (m after : Run) (base : List Object) (old new : Changes) (next : ℕ) (progress : Progress) (w : World)
    → progress ≡ Going → after ≡ record m { top = record m.top { at = next } } → next ≡ m.top.at + 1 → world_of m base new ≡ w
    → goes_on (with_world w (shown m base old)) ≡ Some (told (shown after base new) progress)
on_with m after base old new next progress w e f g h =
    ap (λ x. Some (goes (record { top = record (frame_of m.top) { at = x }; below = frames_of m.below; world = w }))) (sym g)
    ∙ ap (λ x. Some (goes (record { top = record (frame_of m.top) { at = next }; below = frames_of m.below; world = x }))) (sym h)
    ∙ ap (λ x. Some (goes (shown x base new))) (sym f)
    ∙ ap (λ x. Some (told (shown after base new) x)) (sym e)

-- `store`

-- what follows a field that is set goes on from the world in which it is
pub stores_so : (image : Image) (field : FieldId) (a : ℕ) (c : Configuration)
    → store_step image field a c ≡ (stored image field a c.top.this c.top.slots c.world >>= λ w. goes_on (with_world w c))
stores_so image field a c = by (value_at c.top.slots a) (this_object c)
  where
    may : (v : PlainValue) (b : Bool)
        → (if b then edits_this (with_field field.0 v) c else None)
        ≡ ((if b then Some (edit_object (with_field field.0 v) c.top.this c.world) else None) >>= λ w. goes_on (with_world w c))
    may v true = refl
    may v false = refl

    never : (b : Bool) → None ≡ ((if b then None else None) >>= λ (w : World). goes_on (with_world w c))
    never true = refl
    never false = refl

    own : (v : Option PlainValue) (o : PlainObject) (r : Option ContractCode)
        → (v >>= λ v. r >>= λ own. if has_field_code own o.state field.0 then edits_this (with_field field.0 v) c else None)
        ≡ (((r >>= λ own. Some (has_field_code own o.state field.0)) >>= λ b. if b then (v >>= λ v. Some (edit_object (with_field field.0 v) c.top.this c.world)) else None)
        >>= λ w. goes_on (with_world w c))
    own None o None = refl
    own (Some v) o None = refl
    own None o (Some x) = never (has_field_code x o.state field.0)
    own (Some v) o (Some x) = may v (has_field_code x o.state field.0)

    by : (v : Option PlainValue) (o : Option PlainObject)
        → (v >>= λ v. o >>= λ o. contract_code image o.contract >>= λ own. if has_field_code own o.state field.0 then edits_this (with_field field.0 v) c else None)
        ≡ ((o >>= λ o. is_storable image field o >>= λ b. if b then (v >>= λ v. Some (edit_object (with_field field.0 v) c.top.this c.world)) else None)
        >>= λ w. goes_on (with_world w c))
    by None None = refl
    by (Some v) None = refl
    by v (Some o) = own v o (contract_code image o.contract)

-- where a field is set the machine goes on with it
pub stored_on : (image : Image) (field : FieldId) (a : ℕ) (m after : Run) (base : List Object) (old new : Changes) (next : ℕ) (progress : Progress)
    → stored image field a m.top.this.0 (slots_of m.top.slots) (world_of m base old) ≡ Some (world_of m base new)
    → progress ≡ Going → after ≡ record m { top = record m.top { at = next } } → next ≡ m.top.at + 1
    → store_step image field a (shown m base old) ≡ Some (told (shown after base new) progress)
stored_on image field a m after base old new next progress s e f g =
    stores_so image field a (shown m base old)
    ∙ ap (λ (r : Option World). r >>= λ w. goes_on (with_world w (shown m base old))) s
    ∙ on_with m after base old new next progress (world_of m base new) e f g refl

-- where none is there is no step
pub stored_off : (off : Off) (image : Image) (field : FieldId) (a : ℕ) (c : Configuration) (w : World) (show : Progress → Next)
    → Gives {A = Unit {0}} (Err off) (stored image field a c.top.this c.top.slots c.world) (λ _. w) → Gives {A = Progress} (Err off) (store_step image field a c) show
stored_off Memory image field a c w show s = tt
stored_off NoStep image field a c w show s =
    stores_so image field a c ∙ ap (λ (r : Option World). r >>= λ w. goes_on (with_world w c)) s

pub stretched_off : (off : Off) (image : Image) (field : FieldId) (a : ℕ) (c d : Configuration) (w : World)
    → Gives {A = Unit {0}} (Err off) (stored image field a c.top.this c.top.slots c.world) (λ _. w) → Acts (Err off) (store_step image field a c) c d
stretched_off Memory image field a c d w s = tt
stretched_off NoStep image field a c d w s =
    stores_so image field a c ∙ ap (λ (r : Option World). r >>= λ w. goes_on (with_world w c)) s

-- Returns.

-- a world with these locks, and these transactions in progress
abbrev pub guarded : Guarded → World → World
guarded g w = record w { locked = g.locked; progress = g.progress }

lock_ends : (t : Option ℕ) (g : Guarded) (w : World) → without_lock t (guarded g w) ≡ guarded (released t g) w
lock_ends None g w = refl
lock_ends (Some n) g w = refl

locks_end : (ts : List (Option ℕ)) (g : Guarded) (w : World) → without_locks ts (guarded g w) ≡ guarded (all_released ts g) w
locks_end [] g w = refl
locks_end (t ∷ ts) g w = ap (without_locks ts) (lock_ends t g w) ∙ locks_end ts (released t g) w

progress_ends : (e : Entered) (n : ℕ) (g : Guarded) (w : World) → without_progress e n (guarded g w) ≡ guarded (left_by e n g) w
progress_ends on_receiver n g w = refl
progress_ends on_this n g w = refl
progress_ends on_new n g w = refl

-- the world once the locks of tests have ended, and then what was in progress
pub left_as : (e : Entered) (n : ℕ) (ts : List (Option ℕ)) (g h i : Guarded) (w : World) → h ≡ all_released ts g → i ≡ left_by e n h
    → guarded i w ≡ without_progress e n (without_locks ts (guarded g w))
left_as e n ts g h i w p q =
    ap (λ x. guarded x w) (q ∙ ap (left_by e n) p)
    ∙ sym (ap (without_progress e n) (locks_end ts g w) ∙ progress_ends e n (all_released ts g) w)
