-- Which slots are among some.
use Rattle.std.proofs.Common.{◌≡◌, ℕ, Bool, true, false, ◌||◌, nat_eq, List, [], ◌∷◌, ◌++◌, map, refl, sym, ap, ◌∙◌, subst, ne_eqb, eq-eqb, ◌⊎◌, inl, inr, true≢false, if◌then◌else◌}
use Rattle.std.proofs.lemmas.Bool.{or_parts, or_from, or_left, or_right}
use Rattle.ob_lower_spec.specs.Points.{IsFree, Temporary, in_use, references}

-- whether a slot is one of these
abbrev pub among : ℕ → List ℕ → Bool
among j [] = false
among j (u ∷ us) = nat_eq j u || among j us

pub by_bool : (b : Bool) → (b ≡ true) ⊎ (b ≡ false)
by_bool true = inl refl
by_bool false = inr refl

pub or_split : (x y : Bool) → (x || y) ≡ true → (x ≡ true) ⊎ (y ≡ true)
or_split true y e = inl refl
or_split false y e = inr e

or_assoc : (x y z : Bool) → (x || (y || z)) ≡ ((x || y) || z)
or_assoc true y z = refl
or_assoc false y z = refl

pub nat_same : (k : ℕ) → nat_eq k k ≡ true
nat_same k = eq-eqb k k refl

pub free_among : (k : ℕ) (used : List ℕ) → IsFree k used → among k used ≡ false
free_among k [] f = refl
free_among k (u ∷ us) f = or_from (nat_eq k u) (among k us) (ne_eqb k u f.0) (free_among k us f.1)

pub among_append : (j : ℕ) (a b : List ℕ) → among j (a ++ b) ≡ (among j a || among j b)
among_append j [] b = refl
among_append j (x ∷ a) b = ap (λ t. nat_eq j x || t) (among_append j a b) ∙ or_assoc (nat_eq j x) (among j a) (among j b)

pub among_left : (j : ℕ) (a b : List ℕ) → among j a ≡ true → among j (a ++ b) ≡ true
among_left j a b e = among_append j a b ∙ or_left (among j a) (among j b) e

pub among_right : (j : ℕ) (a b : List ℕ) → among j b ≡ true → among j (a ++ b) ≡ true
among_right j a b e = among_append j a b ∙ or_right (among j a) (among j b) e

pub among_split : (j : ℕ) (a b : List ℕ) → among j (a ++ b) ≡ true → (among j a ≡ true) ⊎ (among j b ≡ true)
among_split j a b e = or_split (among j a) (among j b) (sym (among_append j a b) ∙ e)

pub apart_parts : (j : ℕ) (a b : List ℕ) → among j (a ++ b) ≡ false → (among j a ≡ false) × (among j b ≡ false)
apart_parts j a b e = or_parts (among j a) (among j b) (sym (among_append j a b) ∙ e)

pub apart_both : (j : ℕ) (a b : List ℕ) → among j a ≡ false → among j b ≡ false → among j (a ++ b) ≡ false
apart_both j a b e f = among_append j a b ∙ or_from (among j a) (among j b) e f

-- the slots of temporaries
abbrev pub slots_made : List Temporary → List ℕ
slots_made made = map (λ t. t.slot) made

pub made_append : (a b : List Temporary) → slots_made (a ++ b) ≡ slots_made a ++ slots_made b
made_append [] b = refl
made_append (t ∷ a) b = ap (λ l. t.slot ∷ l) (made_append a b)

one_append : (t : Temporary) (x y : List Temporary) (b : Bool) → references (x ++ y) ≡ references x ++ references y
    → (if b then t.slot ∷ references (x ++ y) else references (x ++ y))
    ≡ (if b then t.slot ∷ references x else references x) ++ references y
one_append t x y true e = ap (λ l. t.slot ∷ l) e
one_append t x y false e = e

pub references_append : (x y : List Temporary) → references (x ++ y) ≡ references x ++ references y
references_append [] y = refl
references_append (t ∷ x) y = one_append t x y t.is_reference (references_append x y)

-- each of the one list is in the other
pub record Within (some all : List ℕ) : Type 0 where
  pub by : (j : ℕ) → among j some ≡ true → among j all ≡ true

pub within_self : (used : List ℕ) → Within used used
within_self used = record { by = λ j e. e }

pub within_on : {a b c : List ℕ} → Within a b → Within b c → Within a c
within_on f g = record { by = λ j e. g.by j (f.by j e) }

pub within_right : (a b : List ℕ) → Within b (a ++ b)
within_right a b = record { by = λ j e. among_right j a b e }

pub within_left : (a b : List ℕ) → Within a (a ++ b)
within_left a b = record { by = λ j e. among_left j a b e }

pub apart_within : {some all : List ℕ} (j : ℕ) → Within some all → among j all ≡ false → among j some ≡ false
apart_within {some} {all} j w e = go (by_bool (among j some))
  where
    go : (among j some ≡ true) ⊎ (among j some ≡ false) → among j some ≡ false
    go (inl t) = absurd (true≢false (sym (w.by j t) ∙ e))
    go (inr f) = f

one_within : (t : Temporary) (ts : List Temporary) (j : ℕ) (b : Bool) → Within (references ts) (slots_made ts)
    → among j (if b then t.slot ∷ references ts else references ts) ≡ true → among j (t.slot ∷ slots_made ts) ≡ true
one_within t ts j true w e = go (or_split (nat_eq j t.slot) (among j (references ts)) e)
  where
    go : (nat_eq j t.slot ≡ true) ⊎ (among j (references ts) ≡ true) → among j (t.slot ∷ slots_made ts) ≡ true
    go (inl f) = or_left (nat_eq j t.slot) (among j (slots_made ts)) f
    go (inr f) = or_right (nat_eq j t.slot) (among j (slots_made ts)) (w.by j f)
one_within t ts j false w e = or_right (nat_eq j t.slot) (among j (slots_made ts)) (w.by j e)

-- the temporaries that are references are among all
pub references_within : (made : List Temporary) → Within (references made) (slots_made made)
references_within [] = record { by = λ j e. e }
references_within (t ∷ ts) = record { by = λ j e. one_within t ts j t.is_reference (references_within ts) e }

-- the slots of the first temporaries and those in use are in use after all
pub within_first : (a b : List Temporary) (used : List ℕ) → Within (in_use a used) (in_use (a ++ b) used)
within_first a b used = record { by = λ j e. go j (among_split j (slots_made a) used e) }
  where
    go : (j : ℕ) → (among j (slots_made a) ≡ true) ⊎ (among j used ≡ true) → among j (in_use (a ++ b) used) ≡ true
    go j (inl e) = among_left j (slots_made (a ++ b)) used
        (subst (λ l. among j l ≡ true) (sym (made_append a b)) (among_left j (slots_made a) (slots_made b) e))
    go j (inr e) = among_right j (slots_made (a ++ b)) used e

pub within_second : (a b : List Temporary) (used : List ℕ) → Within (in_use b (in_use a used)) (in_use (a ++ b) used)
within_second a b used = record { by = λ j e. go j (among_split j (slots_made b) (in_use a used) e) }
  where
    go : (j : ℕ) → (among j (slots_made b) ≡ true) ⊎ (among j (in_use a used) ≡ true) → among j (in_use (a ++ b) used) ≡ true
    go j (inl e) = among_left j (slots_made (a ++ b)) used
        (subst (λ l. among j l ≡ true) (sym (made_append a b)) (among_right j (slots_made a) (slots_made b) e))
    go j (inr e) = (within_first a b used).by j e
