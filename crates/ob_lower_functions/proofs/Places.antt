-- Slots from a number on are free, and those of the variables are among the most that there are.
use Rattle.std.proofs.Common.{◌≡◌, ℕ, zero, suc, ◌+◌, ◌≤◌, Bool, true, false, List, [], ◌∷◌, ◌++◌, length, Option, Some, None, refl, sym, ap, subst, arith}
use Rattle.std.specs.Prelude.{option_map, nat_eq, if◌then◌else◌, ⊤}
use Rattle.ob_table.specs.declared.contract.Param.{Param}
use Rattle.ob_table.specs.declared.seen.Seen.{Seen}
use Rattle.ob_table.specs.declared.seen.Seen.TheVariants.{This as ThisSeen, Local, Field as FieldSeen}
use Rattle.ob_table_spec.specs.WellFormed as made
use Rattle.ob_table_spec.specs.WellFormed.{kind_of_resolved}
use Rattle.ob_silica.specs.Slots.{slots_of_place}
use Rattle.ob_silica.specs.declared.place.Place.{Place}
use Rattle.ob_silica.specs.declared.place.Place.TheVariants.{Slot}
use Rattle.ob_lower_spec.specs.Forms.{SlotVariable, slot_of, place_seen, locals_of, params_from}
use Rattle.ob_lower_spec.specs.Points.{IsFree, Temporary, in_use}
use Rattle.ob_lower_spec.specs.BodyTerms.{slots_below}

-- Free slots.

-- each slot from this number on is free
pub record Above (top : ℕ) (used : List ℕ) : Type 0 where
  pub by : (k : ℕ) → top ≤ k → IsFree k used

pub above_free : (top : ℕ) (used : List ℕ) → Above top used → IsFree top used
above_free top used above = above.by top (omega arith)

pub above_more : (top more : ℕ) (used : List ℕ) → top ≤ more → Above top used → Above more used
above_more top more used le above = record { by = λ k l. above.by k (omega arith) }

-- one more slot is in use
pub above_taken : (top : ℕ) (used : List ℕ) → Above top used → Above (top + 1) (top ∷ used)
above_taken top used above = record { by = λ k le. ((λ e. go k le e), above.by k (omega arith)) }
  where
    go : (k : ℕ) → top + 1 ≤ k → k ≡ top → ⊥
    go k le e = omega arith

pub above_below : (n : ℕ) → Above n (slots_below n)
above_below zero = record { by = λ k le. tt }
above_below (suc n) = let below = above_below n in record { by = λ k le. ((λ e. go k le e), below.by k (omega arith)) }
  where
    go : (k : ℕ) → suc n ≤ k → k ≡ n → ⊥
    go k le e = omega arith

free_after : (k : ℕ) (y : List Temporary) (rest : List ℕ) → IsFree k (in_use y rest) → IsFree k rest
free_after k [] rest f = f
free_after k (t ∷ y) rest f = free_after k y rest f.1

free_swap : (k : ℕ) (y : List Temporary) (some other : List ℕ) → IsFree k (in_use y some) → IsFree k other → IsFree k (in_use y other)
free_swap k [] some other f g = g
free_swap k (t ∷ y) some other f g = (f.0, free_swap k y some other f.1 g)

free_both : (k : ℕ) (x y : List Temporary) (used : List ℕ) → IsFree k (in_use x used) → IsFree k (in_use y used) → IsFree k (in_use (x ++ y) used)
free_both k [] y used f g = g
free_both k (t ∷ x) y used f g = (f.0, free_both k x y used f.1 g)

-- temporaries that were made in two parts
pub above_append : (top : ℕ) (x y : List Temporary) (used : List ℕ) → Above top (in_use y (in_use x used)) → Above top (in_use (x ++ y) used)
above_append top x y used above = record {
  by = λ k le. let f = above.by k le in let g = free_after k y (in_use x used) f in
      free_both k x y used g (free_swap k y (in_use x used) used f (free_after k x used g));
}

-- Variables.

abbrev some_is : {A : Type 0} → A → Option A → A
some_is d None = d
some_is d (Some x) = x

pub some_same : {A : Type 0} {x y : A} → Some x ≡ Some y → x ≡ y
some_same {x = x} e = ap (some_is x) e

abbrev is_there : {A : Type 0} → Option A → Type 0
is_there None = ⊥
is_there (Some x) = ⊤

pub none_some : {A : Type 0} {y : A} → None ≡ Some y → ⊥
none_some e = subst is_there (sym e) tt

-- the slots of variables are below this number
abbrev pub AllBelow : ℕ → List SlotVariable → Type 0
AllBelow n [] = ⊤
AllBelow n (v ∷ vs) = (v.slot + 1 ≤ n) × AllBelow n vs

slot_below : (n : ℕ) (vs : List SlotVariable) (i k : ℕ) → AllBelow n vs → slot_of vs i ≡ Some k → k + 1 ≤ n
slot_below n [] i k all e = absurd (none_some e)
slot_below n (v ∷ vs) i k all e = go (nat_eq i v.local) (slot_below n vs i k all.1) e
  where
    go : (b : Bool) → (slot_of vs i ≡ Some k → k + 1 ≤ n) → (if b then Some v.slot else slot_of vs i) ≡ Some k → k + 1 ≤ n
    go true next h = subst (λ m. m + 1 ≤ n) (some_same h) all.0
    go false next h = next h

pub place_below : (n : ℕ) (vs : List SlotVariable) (seen : Seen) (place : Place) → 1 ≤ n → AllBelow n vs → place_seen vs seen ≡ Some place → slots_of_place place ≤ n
place_below n vs ThisSeen place one all e = subst (λ p. slots_of_place p ≤ n) (some_same e) one
place_below n vs (FieldSeen f) place one all e = subst (λ p. slots_of_place p ≤ n) (some_same e) (omega arith)
place_below n vs (Local i) place one all e = go (slot_of vs i) refl e
  where
    go : (o : Option ℕ) → slot_of vs i ≡ o → option_map Slot o ≡ Some place → slots_of_place place ≤ n
    go None h e = absurd (none_some e)
    go (Some k) h e = subst (λ p. slots_of_place p ≤ n) (some_same e) (slot_below n vs i k all h)

-- Parameters.

pub params_below : (first : ℕ) (ps : List Param) (n : ℕ) → first + length ps ≤ n → AllBelow n (params_from first ps)
params_below first [] n le = tt
params_below first (p ∷ ps) n le = (omega (arith, le), params_below (first + 1) ps n (omega (arith, le)))

pub params_seen : (first : ℕ) (ps : List Param) → locals_of (params_from first ps) ≡ made.params_from first ps
params_seen first [] = refl
params_seen first (p ∷ ps) = ap (λ ls. (first, kind_of_resolved p.of) ∷ ls) (params_seen (first + 1) ps)
