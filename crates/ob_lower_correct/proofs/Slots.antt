-- Which slots are in use, and which are free.
use Rattle.std.proofs.Common.{◌≡◌, ◌≢◌, ℕ, List, [], ◌∷◌, ◌++◌, map, refl, sym, ap, ◌∙◌, subst, ◌⊎◌, inl, inr}
use Rattle.ob_lower_spec.specs.Points.{IsFree, Temporary, in_use}

-- a slot in use
abbrev pub Used : ℕ → List ℕ → Type 0
Used n [] = ⊥
Used n (u ∷ used) = (n ≡ u) ⊎ Used n used

pub used_left : (n : ℕ) (a b : List ℕ) → Used n a → Used n (a ++ b)
used_left n [] b u = absurd u
used_left n (x ∷ a) b (inl e) = inl e
used_left n (x ∷ a) b (inr u) = inr (used_left n a b u)

pub used_right : (n : ℕ) (a b : List ℕ) → Used n b → Used n (a ++ b)
used_right n [] b u = u
used_right n (x ∷ a) b u = inr (used_right n a b u)

pub used_split : (n : ℕ) (a b : List ℕ) → Used n (a ++ b) → Used n a ⊎ Used n b
used_split n [] b u = inr u
used_split n (x ∷ a) b (inl e) = inl (inl e)
used_split n (x ∷ a) b (inr u) = go (used_split n a b u)
  where
    go : Used n a ⊎ Used n b → Used n (x ∷ a) ⊎ Used n b
    go (inl v) = inl (inr v)
    go (inr v) = inr v

pub free_differs : (k : ℕ) (used : List ℕ) → IsFree k used → (n : ℕ) → Used n used → n ≢ k
free_differs k [] f n u = absurd u
free_differs k (v ∷ used) f n (inl e) = λ h. f.0 (sym h ∙ e)
free_differs k (v ∷ used) f n (inr u) = free_differs k used f.1 n u

pub free_by : (k : ℕ) (used : List ℕ) → ((n : ℕ) → Used n used → n ≢ k) → IsFree k used
free_by k [] f = tt
free_by k (u ∷ used) f = ((λ e. f u (inl refl) (sym e)), free_by k used (λ n v. f n (inr v)))

-- the slots of temporaries
abbrev pub slots_made : List Temporary → List ℕ
slots_made made = map (λ t. t.slot) made

pub made_append : (a b : List Temporary) → slots_made (a ++ b) ≡ slots_made a ++ slots_made b
made_append [] b = refl
made_append (t ∷ a) b = ap (λ l. t.slot ∷ l) (made_append a b)

-- each of the one list is in the other
pub record Within (some all : List ℕ) : Type 0 where
  pub by : (n : ℕ) → Used n some → Used n all

pub within_self : (used : List ℕ) → Within used used
within_self used = record { by = λ n u. u }

pub within_on : {a b c : List ℕ} → Within a b → Within b c → Within a c
within_on f g = record { by = λ n u. g.by n (f.by n u) }

pub within_use : (made : List Temporary) (used : List ℕ) → Within used (in_use made used)
within_use made used = record { by = λ n u. used_right n (slots_made made) used u }

pub within_first : (a b : List Temporary) (used : List ℕ) → Within (in_use a used) (in_use (a ++ b) used)
within_first a b used = record { by = λ n u. both n (used_split n (slots_made a) used u) }
  where
    both : (n : ℕ) → Used n (slots_made a) ⊎ Used n used → Used n (in_use (a ++ b) used)
    both n (inl v) = used_left n (slots_made (a ++ b)) used (subst (Used n) (sym (made_append a b)) (used_left n (slots_made a) (slots_made b) v))
    both n (inr v) = used_right n (slots_made (a ++ b)) used v

pub within_second : (a b : List Temporary) (used : List ℕ) → Within (in_use b (in_use a used)) (in_use (a ++ b) used)
within_second a b used = record { by = λ n u. both n (used_split n (slots_made b) (in_use a used) u) }
  where
    both : (n : ℕ) → Used n (slots_made b) ⊎ Used n (in_use a used) → Used n (in_use (a ++ b) used)
    both n (inl v) = used_left n (slots_made (a ++ b)) used (subst (Used n) (sym (made_append a b)) (used_right n (slots_made a) (slots_made b) v))
    both n (inr v) = (within_first a b used).by n v

pub free_within : {some all : List ℕ} (k : ℕ) → Within some all → IsFree k all → IsFree k some
free_within {some} {all} k a f = free_by k some (λ n u. free_differs k all f n (a.by n u))
