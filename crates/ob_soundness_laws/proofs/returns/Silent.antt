-- The silent steps of a return, once all tests have ended: the run ends, a loan goes back, or the frame that waits goes
-- on.
use Rattle.std.proofs.Common.{◌≡◌, ℕ, List, [], ◌∷◌, Option, refl, sym, ap, ◌∙◌, subst}
use Rattle.ob_table.specs.Tables.{ClassTable}
use Rattle.ob_table_spec.specs.Conditions.{IsClassTable}
use Rattle.ob_heap_spec.specs.Worlds.{World}
use Rattle.ob_silica_steps.specs.Cells.{Cell}
use Rattle.ob_silica_steps.specs.Configurations.{SilicaFrame, Loan, Waiting, Rest, Control, runs, leaves, Notes, Configuration}
use Rattle.ob_silica_steps.specs.Returning.{gives_back, goes_back, leave_step}
use Rattle.ob_coherent_spec.specs.Coherent.{Beginning, IsLeaving, IsReturning, IsCoherent, running, leaving, returning, StepsSo}
use Rattle.ob_soundness_laws.proofs.returns.Leaving.{ends_alone, leaving_returns}
use Rattle.ob_soundness_laws.proofs.returns.Returned.{back_to, Returned, from_returning}
use Rattle.ob_soundness_laws.proofs.returns.Resuming.{resumes_so}
use Rattle.ob_soundness_laws.proofs.returns.GivingBack.{unlends_so}
use Rattle.ob_soundness_laws.proofs.returns.Ending.{leaving_steps}

-- what was lent goes back, or the frame goes on
gives_so : (table : ClassTable) (entry : Option ℕ) (beginning : Beginning) → IsClassTable table → (f : SilicaFrame)
    (result : Option Cell)
    (h : Waiting) (hs : List Waiting) (notes : Notes) (w : World) → Returned table entry beginning f result h hs notes w
    → (ls : List Loan) → h.loans ≡ ls
    → StepsSo table entry beginning (gives_back ls result h hs (back_to f result h hs notes w))
gives_so table entry beginning t f result h hs notes w k [] e = resumes_so table entry beginning t f result h hs notes w
    k e
gives_so table entry beginning t f result h hs notes w k (l ∷ ls) e = unlends_so table entry beginning t f result h hs
    notes w k l ls e

-- the step of a frame that returns to one that waits
pub returning_steps : (table : ClassTable) (entry : Option ℕ) (beginning : Beginning) → IsClassTable table
    → (c : Configuration)
    → (result : Option Cell) (h : Waiting) (hs : List Waiting) → c.control ≡ leaves result [] → c.stack ≡ h ∷ hs
    → IsReturning table entry beginning c → StepsSo table entry beginning (leave_step result [] c)
returning_steps table entry beginning t c result h hs control stack =
    subst (λ s. IsReturning table entry beginning (with_parts c.control s) → StepsSo table entry beginning
    (leave_step result [] (with_parts c.control s)))
    (sym stack)
    (subst (λ x. IsReturning table entry beginning (with_parts x (h ∷ hs)) → StepsSo table entry beginning
    (leave_step result [] (with_parts x (h ∷ hs))))
    (sym control)
    (λ r. gives_so table entry beginning t c.frame result h hs c.notes c.world
    (from_returning table entry beginning c.frame result h hs c.notes c.world r) h.loans refl))
  where
    with_parts : Control → List Waiting → Configuration
    with_parts control stack = record {
      frame = c.frame;
      control = control;
      stack = stack;
      notes = c.notes;
      world = c.world;
    }

-- the step of a frame that leaves, all of whose tests have ended
pub left_steps : (table : ClassTable) (entry : Option ℕ) (beginning : Beginning) → IsClassTable table
    → (c : Configuration)
    → (k : IsLeaving table entry beginning c) → k.outer ≡ [] → StepsSo table entry beginning (leave_step k.result [] c)
left_steps table entry beginning t c k outer = by_stack c.stack refl
  where
    by_stack : (stack : List Waiting) → c.stack ≡ stack → StepsSo table entry beginning (leave_step k.result [] c)
    by_stack [] e = subst (λ s. StepsSo table entry beginning (goes_back s k.result c)) (sym e) (ends_alone table entry
        beginning c k outer e)
    by_stack (h ∷ hs) e = returning_steps table entry beginning t c k.result h hs
        (k.control ∙ ap (leaves k.result) outer) e (leaving_returns table entry beginning c t k outer h hs e)

leaves_result : (x y : Option Cell) (xs ys : List Rest) → leaves x xs ≡ leaves y ys → x ≡ y
leaves_result x y xs ys e = cc

leaves_lists : (x y : Option Cell) (xs ys : List Rest) → leaves x xs ≡ leaves y ys → xs ≡ ys
leaves_lists x y xs ys e = cc

-- a list around ends, or all have
leaving_goes : (table : ClassTable) (entry : Option ℕ) (beginning : Beginning) → IsClassTable table
    → (c : Configuration)
    → (k : IsLeaving table entry beginning c) → (outer : List Rest) → k.outer ≡ outer → StepsSo table entry beginning
    (leave_step k.result outer c)
leaving_goes table entry beginning t c k [] e = left_steps table entry beginning t c k e
leaving_goes table entry beginning t c k (r ∷ outer) e = leaving_steps table entry beginning t c k r outer e

-- Each silent step of a return leads from a coherent configuration to another one, or to the end of the run.
pub leave_keeps : (table : ClassTable) (entry : Option ℕ) (beginning : Beginning) → IsClassTable table
    → (c : Configuration)
    → (result : Option Cell) (outer : List Rest) → c.control ≡ leaves result outer → IsCoherent table entry beginning c
    → StepsSo table entry beginning (leave_step result outer c)
leave_keeps table entry beginning t c result outer so (running k) = absurd (never k.terms k.outer result outer
    (sym k.control ∙ so))
  where
    never : (terms : _) (lists : List Rest) (result : Option Cell) (outer : List Rest) → runs terms lists ≡ leaves
        result outer → ⊥
    never terms lists result outer e = cc
leave_keeps table entry beginning t c result outer so (leaving k) =
    subst (λ x. StepsSo table entry beginning (leave_step x outer c)) (leaves_result k.result result k.outer outer
    (sym k.control ∙ so))
    (leaving_goes table entry beginning t c k outer (leaves_lists k.result result k.outer outer (sym k.control ∙ so)))
leave_keeps table entry beginning t c result outer so (returning k) =
    subst (λ x. StepsSo table entry beginning (leave_step x outer c)) (leaves_result k.result result [] outer
    (sym k.control ∙ so))
    (subst (λ xs. StepsSo table entry beginning (leave_step k.result xs c)) (leaves_lists k.result result [] outer
    (sym k.control ∙ so))
    (returning_steps table entry beginning t c k.result k.below k.others k.control k.stack k))
