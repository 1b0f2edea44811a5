-- What is known of the places of a list, and of a context.
use Rattle.std.proofs.Common.{◌≡◌, ℕ, zero, suc, ◌<◌, List, [], ◌∷◌, ◌++◌, length, map, Option, Some, None, Bool, true, false, nat_eq, refl, sym, ap, ◌∙◌, arith}
use Rattle.std.specs.Prelude.{slice_get, slice_set, option_map, if◌then◌else◌}
use Rattle.std.specs.Option.{option_flatten}
use Rattle.std.proofs.Math.Path.{fun_ext}
use Rattle.std.proofs.Math.Dec.{eqb-suc-zero, eqb-zero-suc, eqb-suc-suc}
use Rattle.std.proofs.lemmas.Bool.{eqb-true}
use Rattle.ob_silica_places.specs.Known.{Known}
use Rattle.ob_silica_places.specs.Places.{Location, slot, field}
use Rattle.ob_silica_places.specs.Known.{at}
use Rattle.ob_flow_spec.specs.Contexts.{put}
use Rattle.ob_flow_context.specs.declared.context.Known.{Known as KnownOfPlace}
use Rattle.ob_flow_context.specs.declared.context.Context.{Context as ContextOfBody}
use Rattle.ob_flow_context.specs.View.{known_of, all_known, known_at, context_of}

-- what is known of the place of a number of a list
abbrev number_of_all : List (Option Known) → ℕ → Option Known
number_of_all ks n = option_flatten (slice_get ks n)

got : (ks : List (Option KnownOfPlace)) (n : ℕ) (k : Option KnownOfPlace) → slice_get ks n ≡ Some k
    → number_of_all (all_known ks) n ≡ option_map known_of k
got [] n k e = absurd cc
got (x ∷ ks) zero k e = ap (λ o. number_of_all (map (λ y. option_map known_of y) o) 0) (ap (λ o. some_list o) e)
  where
    some_list : Option (Option KnownOfPlace) → List (Option KnownOfPlace)
    some_list None = []
    some_list (Some y) = y ∷ []
got (x ∷ ks) (suc n) k e = got ks n k e

past : (ks : List (Option KnownOfPlace)) (n : ℕ) → slice_get ks n ≡ None → number_of_all (all_known ks) n ≡ None
past [] n e = refl
past (x ∷ ks) zero e = absurd cc
past (x ∷ ks) (suc n) e = past ks n e

pub known_some : (ks : List (Option KnownOfPlace)) (n : ℕ) (k : Option KnownOfPlace) → slice_get ks n ≡ Some k
    → known_at ks n ≡ option_map known_of k
unfolding known_at
known_some ks n k e = got ks n k e

pub known_none : (ks : List (Option KnownOfPlace)) (n : ℕ) → slice_get ks n ≡ None → known_at ks n ≡ None
unfolding known_at
known_none ks n e = past ks n e

within : (ks : List (Option KnownOfPlace)) (n : ℕ) (k : Known) → number_of_all (all_known ks) n ≡ Some k → n < length ks
within [] n k e = absurd cc
within (x ∷ ks) zero k e = omega arith
within (x ∷ ks) (suc n) k e = omega (arith, within ks n k e)

-- A place that is set stands in the list.
pub known_within : (ks : List (Option KnownOfPlace)) (n : ℕ) (k : Known) → known_at ks n ≡ Some k → n < length ks
unfolding known_at
known_within ks n k e = within ks n k e

grown : (ks : List (Option KnownOfPlace)) (n : ℕ) → number_of_all (all_known (ks ++ None ∷ [])) n ≡ number_of_all (all_known ks) n
grown [] zero = refl
grown [] (suc n) = refl
grown (x ∷ ks) zero = refl
grown (x ∷ ks) (suc n) = grown ks n

-- An unset place more changes nothing.
pub known_at-grown : (ks : List (Option KnownOfPlace)) → known_at (ks ++ None ∷ []) ≡ known_at ks
unfolding known_at
known_at-grown ks = fun_ext (λ n. grown ks n)

changed : (ks : List (Option KnownOfPlace)) (k : ℕ) (x : Option KnownOfPlace) → k < length ks → (n : ℕ)
    → number_of_all (all_known (slice_set ks k x)) n ≡ (if nat_eq n k then option_map known_of x else number_of_all (all_known ks) n)
changed [] k x h n = absurd (omega arith)
changed (y ∷ ks) zero x h zero = refl
changed (y ∷ ks) zero x h (suc n) = sym (ap (λ b. if b then option_map known_of x else number_of_all (all_known ks) n) (eqb-suc-zero n))
changed (y ∷ ks) (suc k) x h zero = sym (ap (λ b. if b then option_map known_of x else option_map known_of y) (eqb-zero-suc k))
changed (y ∷ ks) (suc k) x h (suc n) = changed ks k x (omega arith) n
    ∙ sym (ap (λ b. if b then option_map known_of x else number_of_all (all_known ks) n) (eqb-suc-suc n k))

-- Setting a place of the list sets it, and no other.
pub known_at-set : (ks : List (Option KnownOfPlace)) (k : ℕ) (x : Option KnownOfPlace) → k < length ks
    → known_at (slice_set ks k x) ≡ at (known_at ks) k (option_map known_of x)
unfolding known_at
known_at-set ks k x h = fun_ext (λ n. changed ks k x h n)

kept_same : (g : ℕ → Option Known) (k n : ℕ) (b : Bool) → nat_eq n k ≡ b → g n ≡ (if b then g k else g n)
kept_same g k n true e = ap g (eqb-true n k e)
kept_same g k n false e = refl

-- Setting a place to what it is changes nothing.
pub at-same : (g : ℕ → Option Known) (k : ℕ) (x : Option Known) → x ≡ g k → g ≡ at g k x
at-same g k x e = fun_ext (λ n. rw e (kept_same g k n (nat_eq n k) refl))

-- Slots and fields.

pub context_of-slot : (c : ContextOfBody) (k : ℕ) → context_of c (slot k) ≡ known_at c.slots k
unfolding context_of
context_of-slot c k = refl

pub context_of-field : (c : ContextOfBody) (f : ℕ) → context_of c (field f) ≡ known_at c.fields f
unfolding context_of
context_of-field c f = refl

-- Setting a slot sets it in the context.
pub put_slot : (slots after fields : List (Option KnownOfPlace)) (k : ℕ) (x : Option Known)
    → known_at after ≡ at (known_at slots) k x
    → context_of (record { slots = after; fields = fields }) ≡ put (context_of (record { slots = slots; fields = fields })) (slot k) x
unfolding context_of
put_slot slots after fields k x e = fun_ext by
  where
    by : (q : Location) → context_of (record { slots = after; fields = fields }) q
        ≡ put (context_of (record { slots = slots; fields = fields })) (slot k) x q
    by (slot j) = ap (λ g. g j) e
    by (field f) = refl

-- Setting a field sets it in the context.
pub put_field : (slots fields after : List (Option KnownOfPlace)) (f : ℕ) (x : Option Known)
    → known_at after ≡ at (known_at fields) f x
    → context_of (record { slots = slots; fields = after }) ≡ put (context_of (record { slots = slots; fields = fields })) (field f) x
unfolding context_of
put_field slots fields after f x e = fun_ext by
  where
    by : (q : Location) → context_of (record { slots = slots; fields = after }) q
        ≡ put (context_of (record { slots = slots; fields = fields })) (field f) x q
    by (slot j) = refl
    by (field g) = ap (λ h. h g) e

pub ruleset knowing = (
  known_some,
  known_none,
  known_within,
  known_at-grown,
  known_at-set,
  at-same,
  context_of-slot,
  context_of-field,
  put_slot,
  put_field,
)
