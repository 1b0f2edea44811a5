-- Premises that are asked one after another.
use Rattle.std.proofs.Common.{◌≡◌, ℕ, zero, suc, ◌+◌, ◌<◌, ◌≤◌, ⊎_elim, List, [], ◌∷◌, ◌++◌, length, drop, get_or, Some, None, Bool, true, false, cond, refl, sym, ap, ◌∙◌, subst, arith, add-one, drop-cons}
use Rattle.std.proofs.lemmas.Bool.{cases_lt}
use Rattle.std.proofs.Math.ListN.{drop_of_length-le}
use Rattle.ob_base.specs.declared.fault.ProgramFault.{ProgramFault}
use Rattle.ob_flow_spec.specs.Premises.{Premise, first_failing, each, for_all}
use Rattle.ob_base.specs.declared.text_error.TextError.{TextError}
use Rattle.ob_base.specs.declared.text_error.TextError.TheVariants.{Fault, Memory}
use Rattle.ob_flow_context.specs.Checking.{FailsPremises}

-- Where the first premises hold, the rest decides.

holds_by : (p : Premise) (ps qs : List Premise) (b : Bool)
    → (first_failing ps ≡ None → first_failing (ps ++ qs) ≡ first_failing qs)
    → cond b (first_failing ps) (Some p.fault) ≡ None
    → cond b (first_failing (ps ++ qs)) (Some p.fault) ≡ first_failing qs
holds_by p ps qs true rest e = rest e
holds_by p ps qs false rest e = absurd cc

pub holds_more : (ps qs : List Premise) → first_failing ps ≡ None → first_failing (ps ++ qs) ≡ first_failing qs
holds_more [] qs e = refl
holds_more (p ∷ ps) qs e = holds_by p ps qs p.condition (holds_more ps qs) e

pub one_holds_more : (p : Premise) (qs : List Premise) → first_failing (p ∷ []) ≡ None
    → first_failing (p ∷ qs) ≡ first_failing qs
one_holds_more p qs e = holds_more (p ∷ []) qs e

-- Where one of the first fails, it decides.

fails_by : (p : Premise) (ps qs : List Premise) (f : ProgramFault) (b : Bool)
    → (first_failing ps ≡ Some f → first_failing (ps ++ qs) ≡ Some f)
    → cond b (first_failing ps) (Some p.fault) ≡ Some f
    → cond b (first_failing (ps ++ qs)) (Some p.fault) ≡ Some f
fails_by p ps qs f true rest e = rest e
fails_by p ps qs f false rest e = e

fails_here : (ps qs : List Premise) (f : ProgramFault) → first_failing ps ≡ Some f → first_failing (ps ++ qs) ≡ Some f
fails_here [] qs f e = absurd cc
fails_here (p ∷ ps) qs f e = fails_by p ps qs f p.condition (fails_here ps qs f) e

pub fails_first : (ps qs : List Premise) (e : TextError) → FailsPremises e ps → FailsPremises e (ps ++ qs)
fails_first ps qs (Fault f) h = fails_here ps qs f h
fails_first ps qs Memory h = h

pub one_fails_first : (p : Premise) (qs : List Premise) (e : TextError) → FailsPremises e (p ∷ []) → FailsPremises e (p ∷ qs)
one_fails_first p qs e h = fails_first (p ∷ []) qs e h

pub fails_same : (ps qs : List Premise) (e : TextError) → first_failing ps ≡ first_failing qs → FailsPremises e qs → FailsPremises e ps
fails_same ps qs (Fault f) s h = s ∙ h
fails_same ps qs Memory s h = h

pub fails_more : (ps qs : List Premise) (e : TextError) → first_failing ps ≡ None → FailsPremises e qs → FailsPremises e (ps ++ qs)
fails_more ps qs e h f = fails_same (ps ++ qs) qs e (holds_more ps qs h) f

pub one_fails_more : (p : Premise) (qs : List Premise) (e : TextError) → first_failing (p ∷ []) ≡ None → FailsPremises e qs
    → FailsPremises e (p ∷ qs)
one_fails_more p qs e h f = fails_more (p ∷ []) qs e h f

-- The last in turn.

pub holds_last : (ps qs : List Premise) → first_failing ps ≡ None → first_failing qs ≡ None → first_failing (ps ++ qs) ≡ None
holds_last ps qs h f = holds_more ps qs h ∙ f

pub one_holds_last : (p : Premise) (qs : List Premise) → first_failing (p ∷ []) ≡ None → first_failing qs ≡ None
    → first_failing (p ∷ qs) ≡ None
one_holds_last p qs h f = holds_last (p ∷ []) qs h f

pub ruleset premises = (
  holds_more,
  one_holds_more,
  holds_last,
  one_holds_last,
  fails_first,
  one_fails_first,
  fails_more,
  one_fails_more,
  fails_same,
)

-- Premises for each number, turn by turn.

pub each_none : (says : ℕ → List Premise) → first_failing (each 0 says) ≡ None
each_none says = refl

pub each_turn : (says : ℕ → List Premise) (n : ℕ) → first_failing (each n says) ≡ None → first_failing (says n) ≡ None
    → first_failing (each (n + 1) says) ≡ None
each_turn says n h f = rw add-one (holds_last (each n says) (says n) h f)

pub each_fails : (says : ℕ → List Premise) (n count : ℕ) (e : TextError) → n < count → first_failing (each n says) ≡ None
    → FailsPremises e (says n) → FailsPremises e (each count says)
each_fails says n zero e lt h f = absurd (omega arith)
each_fails says n (suc count) e lt h f = ⊎_elim
    (λ below. fails_first (each count says) (says count) e (each_fails says n count e below h f))
    (λ last. let same : n ≡ count = omega (arith, lt, last) in
    subst (λ c. FailsPremises e (each c says ++ says c)) same (fails_more (each n says) (says n) e h f))
    (cases_lt n count)

pub each_end : (says : ℕ → List Premise) (n count : ℕ) → n ≡ count → first_failing (each n says) ≡ None
    → first_failing (each count says) ≡ None
each_end says n count s h = ap (λ c. first_failing (each c says)) (sym s) ∙ h

pub ruleset for_each = (each_none, each_turn, each_fails, each_end)

-- Premises for each thing of a list, turn by turn: those that are left decide.

module _ {A : Type 0} where
  all_here : (xs : List A) (i : ℕ) (x : A) (says : A → List Premise) → i < length xs → x ≡ get_or xs i x
      → for_all (drop i xs) says ≡ says x ++ for_all (drop (i + 1) xs) says
  all_here xs i x says h is =
      rw add-one (ap (λ ys. for_all ys says) (drop-cons xs i x h ∙ ap (λ y. y ∷ drop (suc i) xs) (sym is)))

  pub all_turn : (xs : List A) (i : ℕ) (x : A) (says : A → List Premise) → i < length xs → x ≡ get_or xs i x
      → first_failing (says x) ≡ None
      → first_failing (for_all (drop i xs) says) ≡ first_failing (for_all (drop (i + 1) xs) says)
  all_turn xs i x says h is f =
      ap first_failing (all_here xs i x says h is) ∙ holds_more (says x) (for_all (drop (i + 1) xs) says) f

  pub all_fails : (xs : List A) (i : ℕ) (x : A) (says : A → List Premise) (e : TextError) → i < length xs → x ≡ get_or xs i x
      → FailsPremises e (says x) → FailsPremises e (for_all (drop i xs) says)
  all_fails xs i x says e h is f =
      subst (FailsPremises e) (sym (all_here xs i x says h is)) (fails_first (says x) (for_all (drop (i + 1) xs) says) e f)

  pub all_end : (xs : List A) (i : ℕ) (says : A → List Premise) → length xs ≤ i
      → first_failing (for_all (drop i xs) says) ≡ None
  all_end xs i says h = ap (λ ys. first_failing (for_all ys says)) (drop_of_length-le xs h)

pub ruleset for_all_things = (all_turn, all_fails, all_end, fails_same)
