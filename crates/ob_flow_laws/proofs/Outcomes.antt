-- Outcomes, and terms one after another.
use Rattle.std.proofs.Common.{◌≡◌, ◌⊎◌, inl, inr, Option, Some, None, Ok, Err, refl}
use Rattle.std.specs.Prelude.{IsOk}
use Rattle.ob_base.specs.declared.fault.ProgramFault.{ProgramFault}
use Rattle.ob_table.specs.Tables.{ClassTable}
use Rattle.ob_silica.specs.Terms.{SilicaTerms, no_terms, and_term, then_terms, SilicaBody}
use Rattle.ob_flow_spec.specs.Premises.{◌>>=◌}
use Rattle.ob_flow_spec.specs.Contexts.{BodyFrame, Context, TestedPlaces}
use Rattle.ob_flow_spec.specs.Deriving.{Derived, if_reached, derive, derive_all, derive_body}
use Rattle.ob_flow_laws.specs.Laws.{HasOneOutcome}

some_outcome : (r : Derived) → IsOk r ⊎ ((fault : ProgramFault) × (r ≡ Err fault))
some_outcome (Ok left) = inl refl
some_outcome (Err fault) = inr (fault, refl)

not_both : (r : Derived) → IsOk r → (fault : ProgramFault) → r ≡ Err fault → ⊥
not_both (Ok left) ok fault e = cc
not_both (Err other) ok fault e = absurd (cc)

same_fault : (r : Derived) (a b : ProgramFault) → r ≡ Err a → r ≡ Err b → a ≡ b
same_fault r a b d e = cc

pub one_outcome : (table : ClassTable) (body : SilicaBody) → HasOneOutcome table body
one_outcome table body = record {
  some = some_outcome (derive_body table body);
  never_both = not_both (derive_body table body);
  one_fault = same_fault (derive_body table body);
}

-- one part after another
reached_then : (left : Option Context) (f h : Context → Derived)
    → (if_reached left (λ g. f g >>= (λ l. if_reached l h))) ≡ (if_reached left f >>= (λ l. if_reached l h))
reached_then None f h = refl
reached_then (Some g) f h = refl

bind_then : (r : Derived) (f h : Context → Derived)
    → (r >>= (λ left. if_reached left (λ g. f g >>= (λ l. if_reached l h)))) ≡ ((r >>= (λ left. if_reached left f)) >>= (λ l. if_reached l h))
bind_then (Ok left) f h = reached_then left f h
bind_then (Err e) f h = refl

pub in_turn : (b : BodyFrame) (ts : TestedPlaces) (front rest : SilicaTerms) (g : Context)
    → derive_all b ts (then_terms front rest) g ≡ (derive_all b ts front g >>= (λ left. if_reached left (λ h. derive_all b ts rest h)))
in_turn b ts no_terms rest g = refl
in_turn b ts (and_term form at more) rest g =
    simp (in_turn b ts more rest) (bind_then (derive b ts form at g) (λ h. derive_all b ts more h)
    (λ h. derive_all b ts rest h))
