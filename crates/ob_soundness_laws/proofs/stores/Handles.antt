-- The owning handles of a store, and all owning places of an object together.
use Rattle.std.proofs.Common.{◌≡◌, ℕ, ◌+◌, ◌<◌, Bool, true, false, not, nat_eq, ◌&&◌, List, [], ◌∷◌, ◌++◌, length, map, filter, refl, ap, ◌∙◌, arith, length-append, cond}
use Rattle.ob_perm.specs.Permissions.{owns}
use Rattle.ob_table.specs.Tables.{ClassTable}
use Rattle.ob_table_spec.specs.Conditions.{IsClassTable}
use Rattle.ob_heap_spec.specs.Contents.{HandleName, Handle, Content}
use Rattle.ob_silica_steps.specs.Configurations.{Notes, HandleNote}
use Rattle.ob_coherent_spec.specs.Counting.{nth_object, one_if, in_objects, in_handles}
use Rattle.ob_rest_spec.specs.Modes.{is_owned}
use Rattle.ob_rest_spec.specs.References.{field_references}
use Rattle.ob_rest_spec.specs.Incoming.{IncomingReference, incoming_by_field, incoming_by_handle, fields_onto, handles_onto, owners}
use Rattle.ob_soundness_laws.proofs.stores.Fields.{owning, HasOwnFields, AreDeclared, objects_owning}

filter_append : {A : Type 0} (p : A → Bool) (xs ys : List A) → filter p (xs ++ ys) ≡ filter p xs ++ filter p ys
filter_append p [] ys = refl
filter_append {A} p (x ∷ xs) ys = go (p x) (filter_append p xs ys)
  where
    go : (b : Bool) → filter p (xs ++ ys) ≡ filter p xs ++ filter p ys
        → cond b (x ∷ filter p (xs ++ ys)) (filter p (xs ++ ys)) ≡ cond b (x ∷ filter p xs) (filter p xs) ++ filter p ys
    go true rest = ap (λ l. x ∷ l) rest
    go false rest = rest

-- how many of these handles own the object of a number
abbrev pub owning_handles : ℕ → List (HandleName × Handle) → ℕ
owning_handles n hs = length (filter (λ r. is_owned r.mode) (map incoming_by_handle (handles_onto hs n)))

-- how many of them own it, among those of which a test holds
abbrev pub owning_where : (HandleName × Handle → Bool) → ℕ → List (HandleName × Handle) → ℕ
owning_where test n [] = 0
owning_where test n (h ∷ hs) = one_if (test h && (is_owned h.1.mode && nat_eq h.1.object n)) + owning_where test n hs

module _ (n : ℕ) where
  pub handles_more : (h : HandleName × Handle) (hs : List (HandleName × Handle))
      → owning_handles n (h ∷ hs) ≡ one_if (is_owned h.1.mode && nat_eq h.1.object n) + owning_handles n hs
  handles_more h hs = go (nat_eq h.1.object n) (is_owned h.1.mode) refl refl
    where
      go : (a b : Bool) → nat_eq h.1.object n ≡ a → is_owned h.1.mode ≡ b
          → owning_handles n (h ∷ hs) ≡ one_if (is_owned h.1.mode && nat_eq h.1.object n) + owning_handles n hs
      go true true e f = rw (e, f) (omega arith)
      go true false e f = rw (e, f) (omega arith)
      go false true e f = rw (e, f) (omega arith)
      go false false e f = rw (e, f) (omega arith)

  -- handles as a run notes them, where each carries what its mode says
  pub handles_owning : (note : HandleName × Handle → HandleNote) (hs : List (HandleName × Handle))
      → ((h : HandleName × Handle) → (note h).object ≡ h.1.object)
      → ((h : HandleName × Handle) → owns (note h).permission ≡ is_owned h.1.mode)
      → in_handles owns n (map note hs) ≡ owning_handles n hs
  handles_owning note [] same owned = refl
  handles_owning note (h ∷ hs) same owned = omega (
    arith,
    handles_owning note hs same owned,
    handles_more h hs,
    ap (λ b. one_if (b && nat_eq (note h).object n)) (owned h),
    ap (λ m. one_if (is_owned h.1.mode && nat_eq m n)) (same h),
  )

  -- and where those of which a test holds are lent, and carry no owner
  pub handles_owning_but : (test : HandleName × Handle → Bool) (note : HandleName × Handle → HandleNote)
      (hs : List (HandleName × Handle))
      → ((h : HandleName × Handle) → (note h).object ≡ h.1.object)
      → ((h : HandleName × Handle) → owns (note h).permission ≡ (is_owned h.1.mode && not (test h)))
      → in_handles owns n (map note hs) + owning_where test n hs ≡ owning_handles n hs
  handles_owning_but test note [] same owned = refl
  handles_owning_but test note (h ∷ hs) same owned = omega (
    arith,
    handles_owning_but test note hs same owned,
    handles_more h hs,
    ap (λ b. one_if (b && nat_eq (note h).object n)) (owned h),
    ap (λ m. one_if ((is_owned h.1.mode && not (test h)) && nat_eq m n)) (same h),
    parts (is_owned h.1.mode) (test h) (nat_eq h.1.object n),
  )
    where
      parts : (a b c : Bool) → one_if ((a && not b) && c) + one_if (b && (a && c)) ≡ one_if (a && c)
      parts true true c = omega arith
      parts true false c = omega arith
      parts false true c = refl
      parts false false c = refl

-- the owning places of an object: its owning fields and its owning handles
pub store_owners : (table : ClassTable) (content : Content) (n : ℕ)
    → owners table content n ≡ owning n (field_references table content.objects) + owning_handles n content.handles
store_owners table content n =
    ap length (filter_append (λ (r : IncomingReference). is_owned r.mode)
    (map incoming_by_field (fields_onto table content.objects n))
    (map incoming_by_handle (handles_onto content.handles n)))
    ∙ length-append (filter (λ (r : IncomingReference). is_owned r.mode)
    (map incoming_by_field (fields_onto table content.objects n)))
    (filter (λ (r : IncomingReference). is_owned r.mode) (map incoming_by_handle (handles_onto content.handles n)))

-- a store counts its owning places as a run does, whose notes of fields are as they are declared
pub store_owners_counted : (table : ClassTable) → IsClassTable table → (content : Content) (notes : Notes)
    → AreDeclared table notes content.objects → ((i : ℕ) → i < length content.objects
    → HasOwnFields table (nth_object content.objects i))
    → (n : ℕ) → owners table content n ≡ in_objects owns n notes content.objects + owning_handles n content.handles
store_owners_counted table conditions content notes declared has n =
    omega (arith, store_owners table content n, objects_owning table conditions content.objects notes declared n has)
