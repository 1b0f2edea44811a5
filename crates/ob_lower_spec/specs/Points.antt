-- What stands around a part of a body while it is lowered: variables, temporaries, staged fields (this project's own).
use Rattle.std.specs.Prelude.{◌≢◌, ℕ, Bool, List, [], ◌∷◌, ◌++◌, map, ⊤, if◌then◌else◌}
use Rattle.ob_base.specs.declared.fault.Span.{Span}
use Rattle.ob_table_spec.specs.WellFormed.{StaticFrame}
use Rattle.ob_silica.specs.Terms.{SilicaTerms}
use Rattle.ob_silica.specs.declared.place.Given.{Given}
use Rattle.ob_lower_spec.specs.Forms.{SlotVariable, AroundExpression, drops}

-- Slots.

-- a slot that isn't in use
abbrev pub IsFree : ℕ → List ℕ → Type 0
IsFree k [] = ⊤
IsFree k (u ∷ used) = (k ≢ u) × IsFree k used

-- a temporary: its slot, and whether it is a reference
pub record Temporary : Type 0 where
  pub slot : ℕ
  pub is_reference : Bool

-- the slots in use once these temporaries were made
abbrev pub in_use : List Temporary → List ℕ → List ℕ
in_use made used = map (λ t. t.slot) made ++ used

-- the slots of the temporaries that are references
abbrev pub references : List Temporary → List ℕ
references [] = []
references (t ∷ ts) = if t.is_reference then t.slot ∷ references ts else references ts

-- at the end of a statement its temporaries that are references are dropped, in the order made
abbrev pub drops_of : List Temporary → Span → SilicaTerms
drops_of made span = drops (references made) span

-- Staged statements.

-- What stands before a statement: no staged one; staged ones, with the place of the first, the fields given so far
-- and the temporaries made; or staged ones that are refused, since no change of state to their state follows.
pub data StagedRow : Type 0 where
  no_row : StagedRow
  staged_row : Span → List Given → List Temporary → StagedRow
  refused_row : StagedRow

-- the span of the terms of a statement: with staged ones before it, that of the first of them
abbrev pub span_of_terms : StagedRow → Span → Span
span_of_terms no_row span = span
span_of_terms (staged_row first given made) span = first
span_of_terms refused_row span = span

-- the fields that are given before a statement
abbrev pub given_before : StagedRow → List Given
given_before no_row = []
given_before (staged_row first given made) = given
given_before refused_row = []

-- the temporaries that staged statements made
abbrev pub made_before : StagedRow → List Temporary
made_before no_row = []
made_before (staged_row first given made) = made
made_before refused_row = []

-- Points.

-- A point of a block: what is visible, the slots in use, the slots of the block's own variables (the last declared
-- first), and the staged statements before it.
pub record Point : Type 0 where
  pub variables : List SlotVariable
  pub used : List ℕ
  pub declared : List ℕ
  pub row : StagedRow

-- the point after a statement that declares and stages nothing
abbrev pub passed : Point → Point
passed p = record { variables = p.variables; used = p.used; declared = p.declared; row = no_row }

-- the point after a declaration
abbrev pub declares : Point → SlotVariable → Point
declares p v = record {
  variables = v ∷ p.variables;
  used = v.slot ∷ p.used;
  declared = v.slot ∷ p.declared;
  row = no_row;
}

-- the point with these staged statements before it
abbrev pub with_row : Point → StagedRow → Point
with_row p row = record { variables = p.variables; used = p.used; declared = p.declared; row = row }

-- the slots in use at a point, with the temporaries of staged statements
abbrev pub used_at : Point → List ℕ
used_at p = in_use (made_before p.row) p.used

-- the first point of a block
abbrev pub inside : Point → Point
inside p = record { variables = p.variables; used = p.used; declared = []; row = no_row }

-- what stands around the expressions of a statement
abbrev pub around : StaticFrame → Point → Span → AroundExpression
around f p span = record { frame = f; variables = p.variables; span = span }
