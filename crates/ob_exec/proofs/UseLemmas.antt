-- The uses of handles, one after another.
use Rattle.std.proofs.Common.{◌≡◌, ℕ, suc, ◌+◌, ◌<◌, ◌≤◌, Bool, true, false, cond, List, ◌∷◌, length, map, drop, get_or, Option, Some, None, refl, sym, ap, ◌∙◌, arith, add-one, drop-cons}
use Rattle.std.specs.Prelude.{not, ◌||◌, ◌==◌, find, option_map, slice_get}
use Rattle.std.specs.Option.{option_map_or}
use Rattle.std.proofs.lemmas.Option.{slice_get-map}
use Rattle.std.proofs.Math.ListN.{drop_of_length-le}
use Rattle.ob_base.specs.declared.id.ContractId.{ContractId}
use Rattle.ob_base.specs.declared.permission.Mode.{Mode}
use Rattle.ob_perm.specs.Permissions.{owns}
use Rattle.ob_perm.specs.Masks.{states_of, held}
use Rattle.ob_heap_spec.specs.Objects as plain
use Rattle.ob_heap_spec.specs.Objects.{seen_state}
use Rattle.ob_heap.specs.declared.object.Object.{Object}
use Rattle.ob_heap.specs.Plain.{object_of}
use Rattle.ob_invocation_spec.specs.Entering.{is_outside_use}
use Rattle.ob_code.specs.declared.image.Image.{Image}
use Rattle.ob_code_table.specs.Images.{bits_of, state_seen_by}
use Rattle.ob_code_table.specs.ImageTables.{table_of_image}
use Rattle.ob_machine_laws.proofs.Tables.{state_same}
use Rattle.ob_exec_entries.specs.Entering.{use_of}
use Rattle.ob_exec_entries.specs.declared.entered.HandleUse.{HandleUse}

-- Whether a use finds its object outside the declared states.

seen_same : (image : Image) (declared : ContractId) (o : plain.Object) → seen_state (table_of_image image) declared o ≡ state_seen_by image declared o
seen_same image declared o =
    let h : (seen_state (table_of_image image) declared o == state_seen_by image declared o) ≡ (state_seen_by image declared o == state_seen_by image declared o) =
    state_same image declared (record { 0 = state_seen_by image declared o }) o in
    grind arith

within_states : (image : Image) (u : HandleUse) (found : Option Object)
    → option_map_or (plain.is_in_states (table_of_image image) u.contract (record { mode = u.entry.mode; states = bits_of u.entry.states })) (option_map object_of found) false
    ≡ option_map_or (λ o. states_of (bits_of u.entry.states) (state_seen_by image u.contract (object_of o))) found false
within_states image u None = refl
within_states image u (Some o) = ap (states_of (bits_of u.entry.states)) (seen_same image u.contract (object_of o))

-- by the mode at the entry and what is found
pub outside_is : (image : Image) (objects : List Object) (who : List ℕ) (u : HandleUse) (found : Option Object) → slice_get objects u.handle.object.0 ≡ found
    → is_outside_use (table_of_image image) (map object_of objects) (use_of who u)
    ≡ not (not (owns (held u.entry.mode (states_of (bits_of u.entry.states))))
    || option_map_or (λ o. states_of (bits_of u.entry.states) (state_seen_by image u.contract (object_of o))) found false)
outside_is image objects who u found is =
    ap (λ b. not (not (owns (held u.entry.mode (states_of (bits_of u.entry.states)))) || b))
    (ap (λ f. option_map_or (plain.is_in_states (table_of_image image) u.contract (record { mode = u.entry.mode; states = bits_of u.entry.states })) f false)
    (slice_get-map object_of objects u.handle.object.0 ∙ ap (option_map object_of) is) ∙ within_states image u found)

pub outside_by : (image : Image) (objects : List Object) (who : List ℕ) (u : HandleUse) (mode : Mode) → u.entry.mode ≡ mode → (b : Bool)
    → b ≡ not (not (owns (held mode (states_of (bits_of u.entry.states))))
    || option_map_or (λ o. states_of (bits_of u.entry.states) (state_seen_by image u.contract (object_of o))) (slice_get objects u.handle.object.0) false)
    → b ≡ is_outside_use (table_of_image image) (map object_of objects) (use_of who u)
outside_by image objects who u mode is b h =
    h ∙ ap (λ m. not (not (owns (held m (states_of (bits_of u.entry.states))))
    || option_map_or (λ o. states_of (bits_of u.entry.states) (state_seen_by image u.contract (object_of o))) (slice_get objects u.handle.object.0) false)) (sym is)
    ∙ sym (outside_is image objects who u (slice_get objects u.handle.object.0) refl)

-- The first that a test holds of, place by place.

found_here : {A B : Type 0} (test : B → Bool) (f : A → B) (xs : List A) (i : ℕ) (x : A) → i < length xs → x ≡ get_or xs i x
    → find test (map f (drop i xs)) ≡ cond (test (f x)) (Some (f x)) (find test (map f (drop (i + 1) xs)))
found_here test f xs i x h is = rw add-one (ap (λ ys. find test (map f ys)) (drop-cons xs i x h ∙ ap (λ y. y ∷ drop (suc i) xs) (sym is)))

pub finding_found : {A B : Type 0} (test : B → Bool) (f : A → B) (xs : List A) (i : ℕ) (x : A) → i < length xs → x ≡ get_or xs i x
    → test (f x) ≡ true → find test (map f (drop i xs)) ≡ Some (f x)
finding_found test f xs i x h is e = found_here test f xs i x h is ∙ ap (λ b. cond b (Some (f x)) (find test (map f (drop (i + 1) xs)))) e

pub finding_passed : {A B : Type 0} (test : B → Bool) (f : A → B) (xs : List A) (i : ℕ) (x : A) → i < length xs → x ≡ get_or xs i x
    → test (f x) ≡ false → find test (map f (drop i xs)) ≡ find test (map f (drop (i + 1) xs))
finding_passed test f xs i x h is e = found_here test f xs i x h is ∙ ap (λ b. cond b (Some (f x)) (find test (map f (drop (i + 1) xs)))) e

pub finding_end : {A B : Type 0} (test : B → Bool) (f : A → B) (xs : List A) (i : ℕ) → length xs ≤ i → find test (map f (drop i xs)) ≡ None
finding_end test f xs i h = ap (λ ys. find test (map f ys)) (drop_of_length-le xs h)
