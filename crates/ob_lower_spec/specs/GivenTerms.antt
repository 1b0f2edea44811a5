-- To which terms given fields and staged statements may be lowered (this project's own).
use Rattle.std.specs.Prelude.{◌≡◌, ℕ, List, [], ◌∷◌, ◌++◌, Option, Some, None}
use Rattle.ob_base.specs.declared.fault.Span.{Span}
use Rattle.ob_table.specs.Statements.{GivenField}
use Rattle.ob_table_spec.specs.WellFormed.{StaticFrame}
use Rattle.ob_silica.specs.Terms.{unit_form, bad_row_form, SilicaTerms, no_terms, and_term, one_term, then_terms}
use Rattle.ob_silica.specs.declared.place.Given.{Given}
use Rattle.ob_lower_spec.specs.Forms.{AroundExpression, given_from}
use Rattle.ob_lower_spec.specs.Points.{in_use, Temporary, StagedRow, no_row, staged_row, refused_row, Point, with_row, around}
use Rattle.ob_lower_spec.specs.ExpressionTerms.{Lowered, LowersExpression}

-- a unit of fuel, and then these terms
abbrev pub with_unit : Span → SilicaTerms → SilicaTerms
with_unit span terms = and_term unit_form span terms

-- what fields are given: the terms of the values, the fields, and the temporaries in the order made
pub record LoweredGiven : Type 0 where
  pub terms : SilicaTerms
  pub given : List Given
  pub made : List Temporary

-- the given fields from left to right
abbrev pub LowersGiven : AroundExpression → List ℕ → List GivenField → LoweredGiven → Type 0
LowersGiven a used [] l = l ≡ record { terms = no_terms; given = []; made = [] }
LowersGiven a used (g ∷ gs) l =
    (x : Lowered) × LowersExpression a used g.value x
    × (y : LoweredGiven) × LowersGiven a (in_use x.made used) gs y
    × (l ≡ record {
      terms = then_terms x.terms y.terms;
      given = given_from g x.operand ∷ y.given;
      made = x.made ++ y.made;
    })

-- The first staged statement of a row: if the row is refused it is one bad row; else it takes a unit and evaluates
-- its value, and the field waits for the change of state.
abbrev pub LowersFirstStage : StaticFrame → Point → Option Span → GivenField → Span → SilicaTerms → Point → Type 0
LowersFirstStage f p (Some at) given span ts q = (ts ≡ one_term bad_row_form at) × (q ≡ with_row p refused_row)
LowersFirstStage f p None given span ts q =
    (x : Lowered) × LowersExpression (around f p span) p.used given.value x
    × (ts ≡ with_unit span x.terms) × (q ≡ with_row p (staged_row span (given_from given x.operand ∷ []) x.made))

-- a staged statement after such a row; of a refused row the others have no term
abbrev pub LowersStage : StaticFrame → Point → StagedRow → Option Span → GivenField → Span → SilicaTerms → Point → Type 0
LowersStage f p no_row refused given span ts q = LowersFirstStage f p refused given span ts q
LowersStage f p refused_row refused given span ts q = (ts ≡ no_terms) × (q ≡ p)
LowersStage f p (staged_row first givens made) refused given span ts q =
    (x : Lowered) × LowersExpression (around f p first) (in_use made p.used) given.value x
    × (ts ≡ with_unit first x.terms)
    × (q ≡ with_row p (staged_row first (givens ++ given_from given x.operand ∷ []) (made ++ x.made)))
