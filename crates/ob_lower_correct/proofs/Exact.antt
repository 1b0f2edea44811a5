-- Today's steps read the items of the source meaning in its very order: that is proved within, and the laws follow from
-- it.
use Rattle.std.proofs.Common.{◌≡◌, ◌≢◌, ℕ, List, [], ◌∷◌, Option, Some, subst, sym}
use Rattle.ob_table.specs.Tables.{ClassTable}
use Rattle.ob_heap_spec.specs.Values.{Value}
use Rattle.ob_heap_spec.specs.Worlds.{World, RunOutcome, gives, aborts, wrong, SameWorld}
use Rattle.ob_source_meaning.proofs.Same.{same_world, same_spent}
use Rattle.ob_silica_steps.specs.Cells.{value_in}
use Rattle.ob_silica_steps.specs.Configurations.{SilicaProgram, Waiting, runs, Configuration, NextStep, goes, ended, aborted, stuck}
use Rattle.ob_silica_steps.specs.Steps.{then_steps, steps}
use Rattle.ob_lower_correct.specs.Law.{EndsAs}
use Rattle.ob_lower_correct.specs.Bodies.{shape, Noted, GoesOn, Returned, BodyEndsAs}

-- after some steps the run of terms ends as the source meaning says, with the very same world
abbrev pub EndsExactly : SilicaProgram → NextStep → RunOutcome (Option Value) → Type 0
EndsExactly program next (gives result w) = (n : ℕ) × (then_steps next (steps program n) ≡ ended result w)
EndsExactly program next (aborts cause s) = (n : ℕ) × (then_steps next (steps program n) ≡ aborted cause s)
EndsExactly program next wrong = (n : ℕ) × (then_steps next (steps program n) ≡ stuck)

-- the frame that waited goes on, in this very world
pub record GoesOnExactly (table : ClassTable) (h : Waiting) (below : List Waiting) (value : Option Value) (w : World)
    (d : Configuration) : Type 0 where
  pub frame : d.frame ≡ record h.frame { slots = d.frame.slots }
  pub control : d.control ≡ runs h.terms h.outer
  pub stack : d.stack ≡ below
  pub world : d.world ≡ w
  pub result : (k : ℕ) → h.result ≡ Some k → value_in (d.frame.slots k) ≡ value
  pub others : (k : ℕ) → h.result ≢ Some k → shape (d.frame.slots k) ≡ shape (h.frame.slots k)
  pub noted : Noted table d.notes w.objects

-- the run has returned to the frame that waits, if there is one; else it has ended with the result
abbrev pub ReturnedExactly : ClassTable → List Waiting → Option Value → World → NextStep → Type 0
ReturnedExactly table [] result w next = next ≡ ended result w
ReturnedExactly table (h ∷ below) result w next =
    (d : Configuration) × (next ≡ goes d) × GoesOnExactly table h below result w d

-- after some steps the run stands as the source meaning of the body says, in the very same world
abbrev pub BodyEndsExactly : SilicaProgram → Configuration → RunOutcome (Option Value) → Type 0
BodyEndsExactly program c (gives result w) =
    (n : ℕ) × ReturnedExactly program.table c.stack result w (steps program n c)
BodyEndsExactly program c (aborts cause s) = (n : ℕ) × (steps program n c ≡ aborted cause s)
BodyEndsExactly program c wrong = (n : ℕ) × (steps program n c ≡ stuck)

pub ends_as : (program : SilicaProgram) (next : NextStep) (o : RunOutcome (Option Value)) → EndsExactly program next o
    → EndsAs program next o
ends_as program next (gives result w) e = (e.0, w, e.1, same_world w)
ends_as program next (aborts cause s) e = (e.0, s, e.1, same_spent s)
ends_as program next wrong e = e

goes_on : (table : ClassTable) (h : Waiting) (below : List Waiting) (value : Option Value) (w : World)
    (d : Configuration) → GoesOnExactly table h below value w d → GoesOn table h below value w d
goes_on table h below value w d a = record {
  frame = a.frame;
  control = a.control;
  stack = a.stack;
  world = subst (λ v. SameWorld w v) (sym a.world) (same_world w);
  result = a.result;
  others = a.others;
  noted = a.noted;
}

returned_as : (table : ClassTable) (stack : List Waiting) (result : Option Value) (w : World) (next : NextStep)
    → ReturnedExactly table stack result w next → Returned table stack result w next
returned_as table [] result w next e = (w, e, same_world w)
returned_as table (h ∷ below) result w next e = (e.0, e.1, goes_on table h below result w e.0 e.2)

pub body_ends_as : (program : SilicaProgram) (c : Configuration) (o : RunOutcome (Option Value))
    → BodyEndsExactly program c o → BodyEndsAs program c o
body_ends_as program c (gives result w) e = (e.0, returned_as program.table c.stack result w (steps program e.0 c) e.1)
body_ends_as program c (aborts cause s) e = (e.0, s, e.1, same_spent s)
body_ends_as program c wrong e = e
