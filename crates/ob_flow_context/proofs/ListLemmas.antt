-- Lists of places and parameters, turn by turn.
use Rattle.std.proofs.Common.{◌≡◌, ℕ, zero, suc, ◌+◌, ◌<◌, ◌≤◌, ◌⊎◌, inl, inr, min, ⊎_elim, List, [], ◌∷◌, ◌++◌, length, map, take, drop, get_or, Option, Some, None, refl, sym, ap, ap₂, ◌∙◌, subst, arith, add-one, append_assoc}
use Rattle.std.proofs.Math.Seq.{take-suc}
use Rattle.std.proofs.Math.ListN.{drop_of_length-le}
use Rattle.std.proofs.lemmas.Bool.{cases_lt}
use Rattle.std.proofs.lemmas.List.{take_all}
use Rattle.ob_silica.specs.declared.place.Operand.{Operand}
use Rattle.ob_table.specs.declared.contract.Param.{Param}
use Rattle.ob_silica_places.specs.Parameters.{Parameter, parameter_of}
use Rattle.ob_silica_places.specs.Places.{located}
use Rattle.ob_flow_spec.specs.Premises.{first_failing}
use Rattle.ob_flow_spec.specs.Contexts.{BodyFrame, Context, TestedPlaces}
use Rattle.ob_flow_spec.specs.Uses.{Read, gives_place, given_to}
use Rattle.ob_flow_spec.specs.Binding.{read_of, reads_of, gives_all, given_all, got_back, got_back_all}
use Rattle.ob_base.specs.declared.text_error.TextError.{TextError}
use Rattle.ob_flow_context.specs.Checking.{FailsPremises}
use Rattle.ob_flow_context.proofs.PremiseLemmas.{holds_more, fails_first, fails_same}
use Rattle.ob_flow_context.specs.declared.passing.Parameter.{Parameter as ParameterOfCall}
use Rattle.ob_flow_context.specs.Parameters.{plain_parameter, plain_parameters}
use Rattle.ob_flow_context.proofs.OnceLemmas.{dropped, get_or_same}

-- Parameters.

map_append : {A B : Type 0} (f : A → B) (xs ys : List A) → map f (xs ++ ys) ≡ map f xs ++ map f ys
map_append f [] ys = refl
map_append f (x ∷ xs) ys = ap (λ zs. f x ∷ zs) (map_append f xs ys)

pub plain_parameters-push : (ps : List ParameterOfCall) (p : ParameterOfCall)
    → plain_parameters (ps ++ p ∷ []) ≡ plain_parameters ps ++ plain_parameter p ∷ []
plain_parameters-push ps p = map_append plain_parameter ps (p ∷ [])

pub params_turn : (before now next : List Parameter) (ps : List Param) (i : ℕ) (p : Param) → i < length ps → p ≡ get_or ps i p
    → now ≡ before ++ map parameter_of (take i ps) → next ≡ now ++ parameter_of p ∷ []
    → next ≡ before ++ map parameter_of (take (i + 1) ps)
params_turn before now next ps i p h is e n = rw add-one
    (n ∙ ap (λ xs. xs ++ parameter_of p ∷ []) e
    ∙ append_assoc before (map parameter_of (take i ps)) (parameter_of p ∷ [])
    ∙ ap (λ xs. before ++ xs) (sym (map_append parameter_of (take i ps) (p ∷ []))
    ∙ ap (map parameter_of) (sym (take-suc ps i p h ∙ ap (λ x. take i ps ++ x ∷ []) (sym is)))))

pub ruleset listing = (plain_parameters-push, params_turn, take_all)

-- Giving.

-- what is left to ask, and to give, from this number on, in the context so far
pub record Giving (b : BodyFrame) (ts : TestedPlaces) (first : Context) (rs : List Operand) (ps : List ParameterOfCall) (i : ℕ) (g : Context) : Type 0 where
  pub asked : first_failing (gives_all b ts first (reads_of rs) (plain_parameters ps))
      ≡ first_failing (gives_all b ts g (reads_of (drop i rs)) (plain_parameters (drop i ps)))
  pub left : given_all first (reads_of rs) (plain_parameters ps)
      ≡ given_all g (reads_of (drop i rs)) (plain_parameters (drop i ps))

pub giving_none : (b : BodyFrame) (ts : TestedPlaces) (g : Context) (rs : List Operand) (ps : List ParameterOfCall)
    → Giving b ts g rs ps 0 g
giving_none b ts g rs ps = record { asked = refl; left = refl }

giving_next : (b : BodyFrame) (ts : TestedPlaces) (rs : List Operand) (ps : List ParameterOfCall) (i : ℕ) (g : Context)
    (r : Operand) (p : ParameterOfCall) → i < length rs → i < length ps → r ≡ get_or rs i r → p ≡ get_or ps i p
    → gives_all b ts g (reads_of (drop i rs)) (plain_parameters (drop i ps))
    ≡ gives_place b ts g (read_of r) (plain_parameter p)
    ++ gives_all b ts (given_to g (located r) (plain_parameter p)) (reads_of (drop (i + 1) rs)) (plain_parameters (drop (i + 1) ps))
giving_next b ts rs ps i g r p h k is at = ap₂ (λ xs ys. gives_all b ts g (reads_of xs) (plain_parameters ys))
    (dropped rs i r h is) (dropped ps i p k at)

pub giving_turn : (b : BodyFrame) (ts : TestedPlaces) (first : Context) (rs : List Operand) (ps : List ParameterOfCall) (i : ℕ)
    (g next : Context) (r : Operand) (p : ParameterOfCall) → i < length rs → i < length ps → r ≡ get_or rs i r
    → p ≡ get_or ps i p → Giving b ts first rs ps i g
    → first_failing (gives_place b ts g (read_of r) (plain_parameter p)) ≡ None
    → next ≡ given_to g (located r) (plain_parameter p)
    → Giving b ts first rs ps (i + 1) next
giving_turn b ts first rs ps i g next r p h k is at so e n =
    let R = reads_of (drop (i + 1) rs) in
    let P = plain_parameters (drop (i + 1) ps) in
    record {
      asked = so.asked ∙ ap first_failing (giving_next b ts rs ps i g r p h k is at)
          ∙ holds_more (gives_place b ts g (read_of r) (plain_parameter p)) (gives_all b ts (given_to g (located r) (plain_parameter p)) R P) e
          ∙ ap (λ c. first_failing (gives_all b ts c R P)) (sym n);
      left = so.left ∙ ap₂ (λ xs ys. given_all g (reads_of xs) (plain_parameters ys)) (dropped rs i r h is) (dropped ps i p k at)
          ∙ ap (λ c. given_all c R P) (sym n);
    }

pub giving_fails : (b : BodyFrame) (ts : TestedPlaces) (first : Context) (rs : List Operand) (ps : List ParameterOfCall) (i : ℕ)
    (g : Context) (r : Operand) (p : ParameterOfCall) (e : TextError) → i < length rs → i < length ps → r ≡ get_or rs i r
    → p ≡ get_or ps i p → Giving b ts first rs ps i g
    → FailsPremises e (gives_place b ts g (read_of r) (plain_parameter p))
    → FailsPremises e (gives_all b ts first (reads_of rs) (plain_parameters ps))
giving_fails b ts first rs ps i g r p e h k is at so f = fails_same _ _ e so.asked
    (subst (FailsPremises e) (sym (giving_next b ts rs ps i g r p h k is at)) (fails_first _ _ e f))

-- the same, for the things that stand at this number
pub giving_turn_at : (b : BodyFrame) (ts : TestedPlaces) (first : Context) (rs : List Operand) (ps : List ParameterOfCall) (i : ℕ)
    (g next : Context) (d : Operand) (k : ParameterOfCall) → i < length rs → i < length ps
    → Giving b ts first rs ps i g
    → (first_failing (gives_place b ts g (read_of (get_or rs i d)) (plain_parameter (get_or ps i k))) ≡ None)
    × (next ≡ given_to g (located (get_or rs i d)) (plain_parameter (get_or ps i k)))
    → Giving b ts first rs ps (i + 1) next
giving_turn_at b ts first rs ps i g next d k h l so e = giving_turn b ts first rs ps i g next (get_or rs i d) (get_or ps i k) h l
    (get_or_same rs i d (get_or rs i d) h) (get_or_same ps i k (get_or ps i k) l) so e.0 e.1

pub giving_fails_at : (b : BodyFrame) (ts : TestedPlaces) (first : Context) (rs : List Operand) (ps : List ParameterOfCall) (i : ℕ)
    (g : Context) (d : Operand) (k : ParameterOfCall) (e : TextError) → i < length rs → i < length ps
    → Giving b ts first rs ps i g
    → FailsPremises e (gives_place b ts g (read_of (get_or rs i d)) (plain_parameter (get_or ps i k)))
    → FailsPremises e (gives_all b ts first (reads_of rs) (plain_parameters ps))
giving_fails_at b ts first rs ps i g d k e h l so f = giving_fails b ts first rs ps i g (get_or rs i d) (get_or ps i k) e h l
    (get_or_same rs i d (get_or rs i d) h) (get_or_same ps i k (get_or ps i k) l) so f

none_asked : (b : BodyFrame) (ts : TestedPlaces) (g : Context) (rs : List Read) → gives_all b ts g rs [] ≡ []
none_asked b ts g [] = refl
none_asked b ts g (r ∷ rs) = refl

none_given : (g : Context) (rs : List Read) → given_all g rs [] ≡ g
none_given g [] = refl
none_given g (r ∷ rs) = refl

-- one of the lists is at its end
pub past_one : {A : Type 0} {B : Type 0} (rs : List A) (ps : List B) (i : ℕ) → min (length rs) (length ps) ≤ i
    → (drop i rs ≡ []) ⊎ (drop i ps ≡ [])
past_one rs ps i h = ⊎_elim (λ more. inr (drop_of_length-le ps (omega (arith, h, more)))) (λ past. inl (drop_of_length-le rs past))
    (cases_lt i (length rs))

pub giving_end : (b : BodyFrame) (ts : TestedPlaces) (first : Context) (rs : List Operand) (ps : List ParameterOfCall) (i : ℕ)
    (g : Context) → min (length rs) (length ps) ≤ i → Giving b ts first rs ps i g
    → (first_failing (gives_all b ts first (reads_of rs) (plain_parameters ps)) ≡ None)
    × (g ≡ given_all first (reads_of rs) (plain_parameters ps))
giving_end b ts first rs ps i g h so = ⊎_elim
    (λ e. (
      so.asked ∙ ap (λ xs. first_failing (gives_all b ts g (reads_of xs) (plain_parameters (drop i ps)))) e,
      sym (so.left ∙ ap (λ xs. given_all g (reads_of xs) (plain_parameters (drop i ps))) e),
    ))
    (λ e. (
      so.asked ∙ ap (λ ys. first_failing (gives_all b ts g (reads_of (drop i rs)) (plain_parameters ys))) e
          ∙ ap first_failing (none_asked b ts g (reads_of (drop i rs))),
      sym (so.left ∙ ap (λ ys. given_all g (reads_of (drop i rs)) (plain_parameters ys)) e
          ∙ none_given g (reads_of (drop i rs))),
    ))
    (past_one rs ps i h)

-- Getting back.

pub back_turn : (b : BodyFrame) (first g next : Context) (rs : List Operand) (ps : List ParameterOfCall) (i : ℕ)
    (r : Operand) (p : ParameterOfCall) → i < length rs → i < length ps → r ≡ get_or rs i r → p ≡ get_or ps i p
    → got_back_all b first (reads_of rs) (plain_parameters ps) ≡ got_back_all b g (reads_of (drop i rs)) (plain_parameters (drop i ps))
    → next ≡ got_back b g (located r) (plain_parameter p)
    → got_back_all b first (reads_of rs) (plain_parameters ps)
    ≡ got_back_all b next (reads_of (drop (i + 1) rs)) (plain_parameters (drop (i + 1) ps))
back_turn b first g next rs ps i r p h k is at so n = so
    ∙ ap₂ (λ xs ys. got_back_all b g (reads_of xs) (plain_parameters ys)) (dropped rs i r h is) (dropped ps i p k at)
    ∙ ap (λ c. got_back_all b c (reads_of (drop (i + 1) rs)) (plain_parameters (drop (i + 1) ps))) (sym n)

none_back : (b : BodyFrame) (g : Context) (rs : List Read) → got_back_all b g rs [] ≡ g
none_back b g [] = refl
none_back b g (r ∷ rs) = refl

pub back_end : (b : BodyFrame) (g : Context) (rs : List Operand) (ps : List ParameterOfCall) (i : ℕ)
    → min (length rs) (length ps) ≤ i → got_back_all b g (reads_of (drop i rs)) (plain_parameters (drop i ps)) ≡ g
back_end b g rs ps i h = ⊎_elim
    (λ e. ap (λ xs. got_back_all b g (reads_of xs) (plain_parameters (drop i ps))) e)
    (λ e. ap (λ ys. got_back_all b g (reads_of (drop i rs)) (plain_parameters ys)) e ∙ none_back b g (reads_of (drop i rs)))
    (past_one rs ps i h)

pub ruleset giving = (giving_none, giving_turn, giving_fails, giving_end, back_turn, back_end)
