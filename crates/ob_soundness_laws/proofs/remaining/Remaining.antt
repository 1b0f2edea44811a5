-- What is left to run, after a form, in its branches, and after a list.
use Rattle.std.proofs.Common.{◌≡◌, ℕ, ◌≤◌, List, [], ◌∷◌, Option, Some, Ok, Err, refl, subst, arith}
use Rattle.std.specs.Prelude.{max}
use Rattle.ob_base.specs.declared.fault.Span.{Span}
use Rattle.ob_silica.specs.Terms.{SilicaForm, SilicaTerms, no_terms, and_term}
use Rattle.ob_silica.specs.Slots.{slots_of_form, slots_of_terms}
use Rattle.ob_silica_steps.specs.Configurations.{Rest}
use Rattle.ob_silica_formed.specs.Holdings.{Holdings, after_form}
use Rattle.ob_flow_spec.specs.Contexts.{BodyFrame, Context, static_of}
use Rattle.ob_flow_spec.specs.Deriving.{Derived, derive, derive_all, if_reached}
use Rattle.ob_flow_spec.specs.Premises.{◌>>=◌}
use Rattle.ob_flow_laws.specs.Deriving.{Passes}
use Rattle.ob_flow_laws.proofs.Deriving.{passes}
use Rattle.ob_coherent_spec.specs.Runs.{tested_places}
use Rattle.ob_coherent_spec.specs.Remaining.{IsWellFormedForm, KnowsThis, HoldToo, Leads, at_end, StillOwns, MayTurn, GoOn, Remains}

-- Forms.

bound_first : (m n k : ℕ) → max m n ≤ k → m ≤ k
bound_first m n k h = omega (arith, h)

bound_second : (m n k : ℕ) → max m n ≤ k → n ≤ k
bound_second m n k h = omega (arith, h)

-- the first form of what is left is well-formed
pub first_formed : (b : BodyFrame) (h : Holdings) (g : Context) (form : SilicaForm) (span : Span) (rest : SilicaTerms) (outer : List Rest)
    → Remains b h g (and_term form span rest) outer → IsWellFormedForm (static_of b) h form
first_formed b h g form span rest outer r = r.formed.forms.0

-- it names slots of the body alone
pub first_slots : (b : BodyFrame) (h : Holdings) (g : Context) (form : SilicaForm) (span : Span) (rest : SilicaTerms) (outer : List Rest)
    → Remains b h g (and_term form span rest) outer → slots_of_form form ≤ b.slots
first_slots b h g form span rest outer r = bound_first (slots_of_form form) (slots_of_terms rest) b.slots r.formed.slots

-- what the form leaves
pub record IsFirst (b : BodyFrame) (g : Context) (form : SilicaForm) (span : Span) (outer : List Rest) : Type 0 where
  pub mid : Option Context
  pub derives : derive b (tested_places outer) form span g ≡ Ok mid
  pub passes : Passes b (tested_places outer) form span g mid

bound_ok : (r : Derived) (f : Context → Derived) (y : Option Context) → (r >>= (λ left. if_reached left f)) ≡ Ok y → (mid : Option Context) × (r ≡ Ok mid)
bound_ok (Ok mid) f y h = (mid, refl)
bound_ok (Err e) f y h = absurd (cc)

-- the first form of what is left derives
pub first_passes : (b : BodyFrame) (h : Holdings) (g : Context) (form : SilicaForm) (span : Span) (rest : SilicaTerms) (outer : List Rest)
    → Remains b h g (and_term form span rest) outer → IsFirst b g form span outer
first_passes b h g form span rest outer r =
    let m = bound_ok (derive b (tested_places outer) form span g) (λ j. derive_all b (tested_places outer) rest j) r.left r.derived in
    record { mid = m.0; derives = m.1; passes = passes b (tested_places outer) form span g m.0 m.1 }

-- after a form that leaves this context, the rest is left, if `this` is known there
pub rest_remains : (b : BodyFrame) (h : Holdings) (g j : Context) (form : SilicaForm) (span : Span) (rest : SilicaTerms) (outer : List Rest)
    → Remains b h g (and_term form span rest) outer → derive b (tested_places outer) form span g ≡ Ok (Some j) → KnowsThis b j
    → Remains b (after_form (static_of b) form h) j rest outer
rest_remains b h g j form span rest outer r d known = record {
  formed = record { forms = r.formed.forms.2; slots = bound_second (slots_of_form form) (slots_of_terms rest) b.slots r.formed.slots };
  itself = known;
  left = r.left;
  derived = subst (λ (x : Derived). (x >>= (λ left. if_reached left (λ i. derive_all b (tested_places outer) rest i))) ≡ Ok r.left) d r.derived;
  after = r.after;
}

-- Ends of lists.

ok_left : (left : Option Context) (g : Context) → ◌≡◌ {A = Derived} (Ok (Some g)) (Ok left) → left ≡ Some g
ok_left left g e = cc

-- the outermost list isn't left at its end
pub ends_inside : (b : BodyFrame) (h : Holdings) (g : Context) → Remains b h g no_terms [] → ⊥
ends_inside b h g r = subst (λ x. GoOn b x h []) (ok_left r.left g r.derived) r.after

-- what goes on after a list
pub record GoesOn (b : BodyFrame) (h : Holdings) (g : Context) (r : Rest) (outer : List Rest) : Type 0 where
  pub owns : StillOwns g r.ends
  pub turn : MayTurn b (tested_places outer) (λ left i. GoOn b left i outer) r.terms r.ends g h
  pub context : Context
  pub leads : Leads b (at_end g r.ends) context
  pub holdings : Holdings
  pub holds : HoldToo h holdings
  pub remains : Remains b holdings context r.terms outer

-- where a list is at its end, the one around it goes on
pub list_ends : (b : BodyFrame) (h : Holdings) (g : Context) (r : Rest) (outer : List Rest)
    → Remains b h g no_terms (r ∷ outer) → GoesOn b h g r outer
list_ends b h g r outer x =
    let y : GoOn b (Some g) h (r ∷ outer) = subst (λ z. GoOn b z h (r ∷ outer)) (ok_left x.left g x.derived) x.after in
    record {
      owns = y.0;
      turn = y.1;
      context = y.2.0;
      leads = y.2.3;
      holdings = y.2.1;
      holds = y.2.5;
      remains = record { formed = y.2.6; itself = y.2.4; left = y.2.2; derived = y.2.7; after = y.2.8 };
    }
