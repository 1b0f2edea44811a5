-- Where statements stand, and what one comes to.
use Rattle.std.proofs.Common.{◌≡◌, ℕ, ◌+◌, ◌≤◌, List, [], Result, refl, ap, ◌∙◌, subst, arith}
use Rattle.ob_base.specs.Limits.{most_slots}
use Rattle.ob_base.specs.declared.fault.Span.{Span}
use Rattle.ob_table.specs.Statements.{Statement, Statements}
use Rattle.ob_table_spec.specs.WellFormed.{StaticFrame, LocalKinds}
use Rattle.ob_silica.specs.Terms.{SilicaForm, unit_form, SilicaTerms, and_term, one_term, then_terms}
use Rattle.ob_silica.specs.Slots.{slots_of_terms, slots_of_form, slots_of_given}
use Rattle.ob_silica.specs.declared.place.Given.{Given}
use Rattle.ob_lower_spec.specs.Forms.{drops, locals_of}
use Rattle.ob_lower_spec.specs.Points.{Temporary, in_use, references, drops_of, StagedRow, no_row, staged_row, refused_row, Point, passed}
use Rattle.ob_lower_spec.specs.GivenTerms.{with_unit}
use Rattle.ob_lower_spec.specs.StatementTerms.{ended_by, LowersStatement}
use Rattle.ob_lower_spec.specs.SlotNeeds.{SlotNeed, Staged, none_staged, row_staged, row_refused, visible_after, in_use_after, staged_after}
use Rattle.ob_lower_functions.specs.Progress.{Stop, ◌>>=◌, Slots, slots_from, Progress, with_term, ended}
use Rattle.ob_lower_functions.specs.StatementCode.{Waiting, none_waits, row_waits, refused_waits, BlockPosition, settled, slots_between, past_statement, begun}
use Rattle.ob_lower_functions.proofs.Places.{Above, AllBelow}
use Rattle.ob_lower_functions.proofs.Terms.{max_most, then_on, slots_then, EachBelow, slots_drops}
use Rattle.ob_lower_functions.proofs.Outcomes.{Comes, comes_then}
use Rattle.ob_lower_functions.proofs.Growing.{Grown, Ready}

-- fields and temporaries that wait for a change of state
pub record Held (n : ℕ) (used : List ℕ) (given : List Given) (made : List Temporary) (s : Slots) (kept : ℕ) : Type 0 where
  pub listed : s.references ≡ references made
  pub count : s.top ≡ n + kept
  pub above : Above s.top (in_use made used)
  pub top : s.top ≤ most_slots
  pub few : slots_of_given given ≤ most_slots
  pub dropped : EachBelow most_slots (references made)

-- what waits, as it is in the code, at a point and among the needs
pub data Waits (n : ℕ) (used : List ℕ) : Waiting → StagedRow → Staged → Type 0 where
  waits_none : Waits n used none_waits no_row none_staged
  waits_row : {first : Span} {given : List Given} {made : List Temporary} {s : Slots} {kept : ℕ} → Held n used given made s kept
      → Waits n used (row_waits first given s) (staged_row first given made) (row_staged kept)
  waits_refused : Waits n used refused_waits refused_row row_refused

-- the point of a position
abbrev pub point : BlockPosition → List ℕ → List ℕ → StagedRow → Point
point q used own row = record { variables = q.variables; used = used; declared = own; row = row }

-- a position of a block that begins with so many slots, at its point
pub record Stands (start : ℕ) (q : BlockPosition) (used own : List ℕ) (row : StagedRow) (staged : Staged) : Type 0 where
  pub below : AllBelow most_slots q.variables
  pub above : Above q.slots used
  pub top : q.slots ≤ most_slots
  pub low : start ≤ q.slots
  pub declares : own ≡ slots_between start q.slots
  pub waits : Waits q.slots used q.waiting row staged

-- a statement comes to a position and terms
pub record Goes (start : ℕ) (L : SilicaTerms → Point → Type 0) (seen : LocalKinds) (n : ℕ) (staged : Staged) (out : SilicaTerms)
    (x : BlockPosition × SilicaTerms) : Type 0 where
  pub ts : SilicaTerms
  pub used : List ℕ
  pub own : List ℕ
  pub row : StagedRow
  pub lowers : L ts (point x.0 used own row)
  pub is : x.1 ≡ then_terms out ts
  pub few : slots_of_terms ts ≤ most_slots
  pub names : locals_of x.0.variables ≡ seen
  pub count : x.0.slots ≡ n
  pub stands : Stands start x.0 used own row staged

-- what a statement after such staged ones comes to
abbrev pub Done : StaticFrame → ℕ → BlockPosition → List ℕ → List ℕ → StagedRow → Staged → Statement → Statements → SilicaTerms → BlockPosition × SilicaTerms → Type 0
Done f start q used own row staged s rest out =
    Goes start (LowersStatement f (point q used own row) s rest) (visible_after (locals_of q.variables) s) (in_use_after q.slots s)
    (staged_after f (locals_of q.variables) staged s rest) out

-- a statement that declares and stages nothing comes to terms
pub record Straight (f : StaticFrame) (p : Point) (s : Statement) (rest : Statements) (out : SilicaTerms) (o : SilicaTerms) : Type 0 where
  pub ts : SilicaTerms
  pub lowers : LowersStatement f p s rest ts (passed p)
  pub is : o ≡ then_terms out ts
  pub few : slots_of_terms ts ≤ most_slots

pub settled_stands : (start : ℕ) (q : BlockPosition) (used own : List ℕ) (row : StagedRow) (staged : Staged) → Stands start q used own row staged
    → Stands start (settled q) used own no_row none_staged
settled_stands start q used own row staged st = record {
  below = st.below;
  above = st.above;
  top = st.top;
  low = st.low;
  declares = st.declares;
  waits = waits_none;
}

-- such a statement leaves the position as it is
pub straight_done : (f : StaticFrame) (start : ℕ) (q : BlockPosition) (used own : List ℕ) (row : StagedRow) (staged : Staged) (s : Statement) (rest : Statements) (out : SilicaTerms)
    (o : SilicaTerms) → Stands start q used own row staged → locals_of q.variables ≡ visible_after (locals_of q.variables) s → q.slots ≡ in_use_after q.slots s
    → none_staged ≡ staged_after f (locals_of q.variables) staged s rest
    → Straight f (point q used own row) s rest out o → Done f start q used own row staged s rest out (settled q, o)
straight_done f start q used own row staged s rest out o st ev en es x = record {
  ts = x.ts;
  used = used;
  own = own;
  row = no_row;
  lowers = x.lowers;
  is = x.is;
  few = x.few;
  names = ev;
  count = en;
  stands = subst (Stands start (settled q) used own no_row) es (settled_stands start q used own row staged st);
}

pub comes_straight : (f : StaticFrame) (start : ℕ) (q : BlockPosition) (used own : List ℕ) (row : StagedRow) (staged : Staged) (s : Statement) (rest : Statements) (out : SilicaTerms)
    (ns : List SlotNeed) (r : Result SilicaTerms Stop) → Stands start q used own row staged → locals_of q.variables ≡ visible_after (locals_of q.variables) s → q.slots ≡ in_use_after q.slots s
    → none_staged ≡ staged_after f (locals_of q.variables) staged s rest
    → Comes ns (Straight f (point q used own row) s rest out) r → Comes ns (Done f start q used own row staged s rest out) (r >>= past_statement q)
comes_straight f start q used own row staged s rest out ns r st ev en es c =
    comes_then ns (Straight f (point q used own row) s rest out) (Done f start q used own row staged s rest out) r (past_statement q) c
    (λ o x. (refl, straight_done f start q used own row staged s rest out o st ev en es x))

-- the slots of a statement without staged ones before it
pub begun_ready : (start : ℕ) (q : BlockPosition) (used own : List ℕ) (row : StagedRow) (staged : Staged) (span : Span) (out : SilicaTerms) → Stands start q used own row staged
    → Ready used (begun (slots_from q.slots) span out)
begun_ready start q used own row staged span out st = record { above = st.above; top = st.top }

-- nothing waits yet
pub held_none : (start : ℕ) (q : BlockPosition) (used own : List ℕ) (row : StagedRow) (staged : Staged) → Stands start q used own row staged
    → Held q.slots used [] [] (slots_from q.slots) 0
held_none start q used own row staged st = record {
  listed = refl;
  count = omega arith;
  above = st.above;
  top = st.top;
  few = omega arith;
  dropped = tt;
}

-- Terms after a unit.

pub begun_is : (slots : Slots) (span : Span) (out ts : SilicaTerms) (made : List Temporary) (n : ℕ) (used : List ℕ) (r : Progress)
    → Grown (begun slots span out) ts made n used r → r.terms ≡ then_terms out (with_unit span ts)
begun_is slots span out ts made n used r g = g.terms ∙ then_on out (one_term unit_form span) ts

pub term_is : (out us ts : SilicaTerms) (form : SilicaForm) (span : Span) → ts ≡ then_terms out us
    → with_term ts form span ≡ then_terms out (then_terms us (one_term form span))
term_is out us ts form span e = ap (λ t. with_term t form span) e ∙ then_on out us (one_term form span)

pub drops_is : (out us ts : SilicaTerms) (refs : List ℕ) (made : List Temporary) (span : Span) → ts ≡ then_terms out us → refs ≡ references made
    → then_terms ts (drops refs span) ≡ then_terms out (then_terms us (drops_of made span))
drops_is out us ts refs made span e f =
    ap (λ t. then_terms t (drops refs span)) e ∙ ap (λ l. then_terms (then_terms out us) (drops l span)) f ∙ then_on out us (drops_of made span)

pub ended_is : (out us : SilicaTerms) (made : List Temporary) (form : SilicaForm) (span : Span) (r : Progress) → r.terms ≡ then_terms out us
    → r.slots.references ≡ references made → ended span form r ≡ then_terms out (then_terms us (and_term form span (drops_of made span)))
ended_is out us made form span r e f =
    drops_is out (then_terms us (one_term form span)) (with_term r.terms form span) r.slots.references made span (term_is out us r.terms form span e) f
    ∙ ap (then_terms out) (then_on us (one_term form span) (drops_of made span))

pub unit_few : (span : Span) (ts : SilicaTerms) → slots_of_terms ts ≤ most_slots → slots_of_terms (with_unit span ts) ≤ most_slots
unit_few span ts le = max_most 0 (slots_of_terms ts) most_slots (omega arith) le

pub ended_few : (span : Span) (ts : SilicaTerms) (form : SilicaForm) (made : List Temporary) → slots_of_terms ts ≤ most_slots → slots_of_form form ≤ most_slots
    → EachBelow most_slots (references made) → slots_of_terms (with_unit span (ended_by span ts form made)) ≤ most_slots
ended_few span ts form made lt lf each =
    unit_few span (ended_by span ts form made) (slots_then ts (and_term form span (drops_of made span)) most_slots lt
    (max_most (slots_of_form form) (slots_of_terms (drops_of made span)) most_slots lf (slots_drops (references made) span most_slots each)))
