-- Written permissions that agree represent one permission in the table.
use Rattle.std.proofs.Common.{◌≡◌, ℕ, zero, suc, ◌<◌, Bool, true, false, List, [], ◌∷◌, ◌++◌, map, length, refl, sym, ap, arith, ◌∙◌, ◌⊎◌, inl, inr}
use Rattle.std.proofs.lemmas.Bool.Decides.{nat_tests}
use Rattle.std.specs.Prelude.{◌||◌, nat_lt, ◌==◌, slice_get, if◌then◌else◌}
use Rattle.std.specs.Option.{option_map_or}
use Rattle.std.specs.List.{list_all}
use Rattle.std.proofs.lemmas.List.Folds.{list_all-append}
use Rattle.ob_base.specs.declared.permission.Mode.TheVariants.{Owned}
use Rattle.ob_base.specs.declared.permission.Perm.{Perm}
use Rattle.ob_tree.specs.Members.{Contract}
use Rattle.ob_perm.specs.States.{States, all_states, interface_states}
use Rattle.ob_perm.specs.Masks.{mask_of, perm_of}
use Rattle.ob_table_spec.specs.Names.{Name}
use Rattle.ob_resolve_spec.specs.Declarations.{state_names}
use Rattle.ob_resolve_spec.specs.Permissions.{WrittenPermission, as_shared, as_unowned, as_owner, as_owner_in, Situation, in_state, in_other_state, in_no_state, other_situations, allows, same_mode, same_answer, agree}
use Rattle.ob_resolve_spec.specs.Numbers.{numbers_of_states, whole, permission_on}
use Rattle.ob_resolve_laws.proofs.PermFacts.{same_mask_of}
use Rattle.ob_resolve_laws.proofs.TypeFacts.{and_left, and_right}

-- the states that an owner may find, by number
abbrev pub states_held : List Name → WrittenPermission → States
states_held states p = λ i. option_map_or (λ state. allows p (in_state state)) (slice_get states i) false

abbrev pub agree_at : WrittenPermission → WrittenPermission → Situation → Bool
agree_at p q s = same_answer (allows p s) (allows q s)

pub answers_same : (a b : Bool) → same_answer a b ≡ true → a ≡ b
answers_same true b h = sym h
answers_same false true h = absurd cc
answers_same false false h = refl

pub states_same : (p q : WrittenPermission) (states : List Name) → list_all (agree_at p q) (map in_state states) ≡ true
    → (i : ℕ) → states_held states p i ≡ states_held states q i
states_same p q [] h i = refl
states_same p q (s ∷ states) h zero =
    answers_same (allows p (in_state s)) (allows q (in_state s))
    (and_left _ (list_all (agree_at p q) (map in_state states)) h)
states_same p q (s ∷ states) h (suc i) = states_same p q states (and_right (agree_at p q (in_state s)) _ h) i

-- the owner that knows no more finds each of the states
pub owner_states : (states : List Name) (i : ℕ) → states_held states as_owner i ≡ nat_lt i (length states)
owner_states [] i = grind (arith, nat_tests)
owner_states (s ∷ states) zero = grind (arith, nat_tests)
owner_states (s ∷ states) (suc i) = owner_states states i ∙ grind (arith, nat_tests)

pub agree_states : (c : Contract) (p q : WrittenPermission) → agree c p q ≡ true
    → list_all (agree_at p q) (map in_state (state_names c)) ≡ true
agree_states c p q h =
    and_left _ (list_all (agree_at p q) (other_situations c (state_names c)))
    (sym (list_all-append (agree_at p q) (map in_state (state_names c)) (other_situations c (state_names c)))
    ∙ and_right (same_mode p q) _ h)

pub agree_others : (c : Contract) (p q : WrittenPermission) → agree c p q ≡ true
    → list_all (agree_at p q) (other_situations c (state_names c)) ≡ true
agree_others c p q h =
    and_right (list_all (agree_at p q) (map in_state (state_names c))) _
    (sym (list_all-append (agree_at p q) (map in_state (state_names c)) (other_situations c (state_names c)))
    ∙ and_right (same_mode p q) _ h)

-- where the owner that knows no more agrees with one that names states, the contract has states, and is no interface
some_states : (interface : Bool) (n : ℕ) (i : ℕ) → interface ≡ false → 0 < n
    → (if interface then interface_states n else all_states n) i ≡ nat_lt i n
some_states true n i e l = absurd cc
some_states false n i e l =
    let z : (n == 0) ≡ false = grind (arith, nat_tests) in
    rw z (or_false (nat_lt i n))
  where
    or_false : (b : Bool) → (b || false) ≡ b
    or_false true = refl
    or_false false = refl

apart : (c : Contract) (states names : List Name)
    → (list_all (agree_at as_owner (as_owner_in names)) (other_situations c states) ≡ true)
    ⊎ (list_all (agree_at (as_owner_in names) as_owner) (other_situations c states) ≡ true)
    → (c.interface ≡ false) × (0 < length states)
apart c [] names h = absurd (at c.interface h)
  where
    at : (b : Bool) → (list_all (agree_at as_owner (as_owner_in names))
        ((if b then in_other_state ∷ [] else []) ++ in_no_state ∷ []) ≡ true)
        ⊎ (list_all (agree_at (as_owner_in names) as_owner)
        ((if b then in_other_state ∷ [] else []) ++ in_no_state ∷ []) ≡ true) → ⊥
    at true (inl h) = absurd cc
    at true (inr h) = absurd cc
    at false (inl h) = absurd cc
    at false (inr h) = absurd cc
apart c (s ∷ states) names h = (at c.interface refl h, omega arith)
  where
    at : (b : Bool) → c.interface ≡ b → (list_all (agree_at as_owner (as_owner_in names))
        (if b then in_other_state ∷ [] else []) ≡ true)
        ⊎ (list_all (agree_at (as_owner_in names) as_owner) (if b then in_other_state ∷ [] else []) ≡ true)
        → c.interface ≡ false
    at true e (inl h) = absurd cc
    at true e (inr h) = absurd cc
    at false e h = e

owner_as_named : (c : Contract) (names : List Name) → (c.interface ≡ false) × (0 < length (state_names c))
    → ((i : ℕ) → states_held (state_names c) as_owner i ≡ states_held (state_names c) (as_owner_in names) i)
    → mask_of (whole c) ≡ mask_of (numbers_of_states (state_names c) names)
owner_as_named c names a same =
    same_mask_of (whole c) (numbers_of_states (state_names c) names)
    (λ i l. some_states c.interface (length (state_names c)) i a.0 a.1 ∙ sym (owner_states (state_names c) i)
    ∙ same i)

abbrev owned_with : ℕ → Perm
owned_with mask = record { mode = Owned; states = mask }

pub agree_same : (c : Contract) (p q : WrittenPermission) → agree c p q ≡ true
    → perm_of (permission_on c p) ≡ perm_of (permission_on c q)
agree_same c as_shared as_shared h = refl
agree_same c as_shared as_unowned h = absurd cc
agree_same c as_shared as_owner h = absurd cc
agree_same c as_shared (as_owner_in states) h = absurd cc
agree_same c as_unowned as_unowned h = refl
agree_same c as_unowned as_shared h = absurd cc
agree_same c as_unowned as_owner h = absurd cc
agree_same c as_unowned (as_owner_in states) h = absurd cc
agree_same c as_owner as_shared h = absurd cc
agree_same c as_owner as_unowned h = absurd cc
agree_same c as_owner as_owner h = refl
agree_same c as_owner (as_owner_in states) h =
    ap owned_with (owner_as_named c states (apart c (state_names c) states
    (inl (agree_others c as_owner (as_owner_in states) h))) (states_same as_owner (as_owner_in states)
    (state_names c) (agree_states c as_owner (as_owner_in states) h)))
agree_same c (as_owner_in states) as_shared h = absurd cc
agree_same c (as_owner_in states) as_unowned h = absurd cc
agree_same c (as_owner_in states) as_owner h =
    ap owned_with (sym (owner_as_named c states
    (apart c (state_names c) states (inr (agree_others c (as_owner_in states) as_owner h)))
    (λ i. sym (states_same (as_owner_in states) as_owner (state_names c)
    (agree_states c (as_owner_in states) as_owner h) i))))
agree_same c (as_owner_in states) (as_owner_in others) h =
    ap owned_with (same_mask_of (numbers_of_states (state_names c) states) (numbers_of_states (state_names c) others)
    (λ i l. states_same (as_owner_in states) (as_owner_in others) (state_names c)
    (agree_states c (as_owner_in states) (as_owner_in others) h) i))
