-- How far lowering is that takes one slot after the other (this project's own).
use Rattle.std.specs.Prelude.{ℕ, ◌+◌, Bool, true, false, List, [], ◌∷◌, ◌++◌, Option, Some, None, Result, Ok, Err, nat_le, if◌then◌else◌}
use Rattle.ob_base.specs.Limits.{most_slots}
use Rattle.ob_base.specs.declared.fault.Span.{Span}
use Rattle.ob_silica.specs.Terms.{SilicaForm, SilicaTerms, one_term, then_terms}
use Rattle.ob_silica.specs.declared.place.Operand.{Operand}
use Rattle.ob_lower_spec.specs.Forms.{AroundExpression, drops, slot_operand}

-- Why lowering stops: a slot past the most is needed at this place; or something isn't there that a body names, as a
-- variable, or the value of a call, which is so in no body that is well-formed.
pub data Stop : Type 0 where
  full : Span → Stop
  not_well_formed : Stop

infixl 10 ◌>>=◌
-- what follows, unless lowering stops
abbrev pub ◌>>=◌ : {A B : Type 0} → Result A Stop → (A → Result B Stop) → Result B Stop
(Ok x) >>= f = f x
(Err e) >>= f = Err e

-- what must be there
abbrev pub found : {A : Type 0} → Option A → Result A Stop
found None = Err not_well_formed
found (Some x) = Ok x

-- the slots of a statement: how many are in use, and those of its temporaries that are references, in the order made
pub record Slots : Type 0 where
  pub top : ℕ
  pub references : List ℕ

-- so many slots in use, and no temporaries
abbrev pub slots_from : ℕ → Slots
slots_from top = record { top = top; references = [] }

-- the next slot, which is needed at this place
abbrev pub next_slot : Span → Slots → Result (Slots × ℕ) Stop
next_slot place s =
    if nat_le (s.top + 1) most_slots then Ok (record { top = s.top + 1; references = s.references }, s.top)
    else Err (full place)

-- a temporary that is kept to be dropped, if it is a reference
abbrev pub kept : Bool → ℕ → Slots → Slots
kept true k s = record { top = s.top; references = s.references ++ k ∷ [] }
kept false k s = s

-- the terms so far, and the slots
pub record Progress : Type 0 where
  pub terms : SilicaTerms
  pub slots : Slots

-- one more term
abbrev pub with_term : SilicaTerms → SilicaForm → Span → SilicaTerms
with_term terms form span = then_terms terms (one_term form span)

-- a form that sets the next slot, which represents the expression at this place
abbrev pub into_slot : AroundExpression → Bool → Span → (ℕ → SilicaForm) → Progress → Result (Progress × Operand) Stop
into_slot a is_ref span form p =
    next_slot span p.slots >>= (λ s. Ok (
      record {
        terms = with_term p.terms (form s.1) a.span;
        slots = kept is_ref s.1 s.0;
      },
      slot_operand s.1 span,
    ))

-- one more term, and then the end of the temporaries
abbrev pub ended : Span → SilicaForm → Progress → SilicaTerms
ended span form p = then_terms (with_term p.terms form span) (drops p.slots.references span)
