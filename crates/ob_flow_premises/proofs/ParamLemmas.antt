-- Parameters' exits, turn by turn.
use Rattle.std.proofs.Common.{◌≡◌, ℕ, suc, ◌+◌, ◌<◌, ◌≤◌, List, ◌∷◌, ◌++◌, length, drop, get_or, None, refl, ap, sym, ◌∙◌, add-one, drop-cons}
use Rattle.std.proofs.Math.ListN.{drop_of_length-le}
use Rattle.ob_base.specs.declared.fault.Span.{Span}
use Rattle.ob_perm.specs.Masks.{permission_of}
use Rattle.ob_table.specs.declared.contract.Param.{Param}
use Rattle.ob_silica_places.specs.Places.{slot}
use Rattle.ob_flow_spec.specs.Premises.{Premise, first_failing}
use Rattle.ob_flow_spec.specs.Contexts.{BodyFrame, Context}
use Rattle.ob_flow_spec.specs.Returning.{leaves_as, leaves_params}
use Rattle.ob_base.specs.declared.text_error.TextError.{TextError}
use Rattle.ob_flow_context.specs.Checking.{FailsPremises}
use Rattle.ob_flow_context.proofs.PremiseLemmas.{holds_more, fails_first, fails_same}

-- what is left to ask of the parameters from this number on
pub params_from : BodyFrame → Context → Span → List Param → ℕ → List Premise
params_from b g at ps n = leaves_params b g at (n + 1) (drop n ps)

rest : (ps : List Param) (n : ℕ) (p : Param) → n < length ps → p ≡ get_or ps n p → drop n ps ≡ p ∷ drop (n + 1) ps
rest ps n p h is = rw add-one (drop-cons ps n p h ∙ ap (λ y. y ∷ drop (suc n) ps) (sym is))

here : (b : BodyFrame) (g : Context) (at : Span) (ps : List Param) (n : ℕ) (p : Param) → n < length ps → p ≡ get_or ps n p
    → params_from b g at ps n ≡ leaves_as b g at (slot (n + 1)) (permission_of p.exit) ++ params_from b g at ps (n + 1)
unfolding params_from
here b g at ps n p h is = ap (leaves_params b g at (n + 1)) (rest ps n p h is)

pub params_none : (b : BodyFrame) (g : Context) (at : Span) (ps : List Param)
    → first_failing (leaves_params b g at 1 ps) ≡ first_failing (params_from b g at ps 0)
unfolding params_from
params_none b g at ps = refl

pub params_turn : (b : BodyFrame) (g : Context) (at : Span) (ps : List Param) (n : ℕ) (p : Param) → n < length ps → p ≡ get_or ps n p
    → first_failing (leaves_as b g at (slot (n + 1)) (permission_of p.exit)) ≡ None
    → first_failing (params_from b g at ps n) ≡ first_failing (params_from b g at ps (n + 1))
params_turn b g at ps n p h is f = ap first_failing (here b g at ps n p h is) ∙ holds_more (leaves_as b g at (slot (n + 1)) (permission_of p.exit)) (params_from b g at ps (n + 1)) f

pub params_fail : (b : BodyFrame) (g : Context) (at : Span) (ps : List Param) (n : ℕ) (p : Param) (e : TextError) → n < length ps
    → p ≡ get_or ps n p → FailsPremises e (leaves_as b g at (slot (n + 1)) (permission_of p.exit)) → FailsPremises e (params_from b g at ps n)
params_fail b g at ps n p e h is f = rw (here b g at ps n p h is) (fails_first (leaves_as b g at (slot (n + 1)) (permission_of p.exit)) (params_from b g at ps (n + 1)) e f)

pub params_end : (b : BodyFrame) (g : Context) (at : Span) (ps : List Param) (n : ℕ) → length ps ≤ n → first_failing (params_from b g at ps n) ≡ None
unfolding params_from
params_end b g at ps n h = ap (λ qs. first_failing (leaves_params b g at (n + 1) qs)) (drop_of_length-le ps h)

pub ruleset params = (params_none, params_turn, params_fail, params_end, fails_same)
