-- A step by which the innermost frame changes its own places leads to a coherent configuration.
use Rattle.std.proofs.Common.{ℕ, ◌<◌, List, Option, refl, sym, subst, arith}
use Rattle.ob_table.specs.Tables.{ClassTable}
use Rattle.ob_table_spec.specs.Conditions.{IsClassTable}
use Rattle.ob_silica.specs.Terms.{SilicaTerms}
use Rattle.ob_silica_formed.specs.Holdings.{Holdings}
use Rattle.ob_silica_steps.specs.Configurations.{Rest, runs, Configuration}
use Rattle.ob_silica_steps.specs.Here.{Here, self_of}
use Rattle.ob_flow_spec.specs.Contexts.{Context}
use Rattle.ob_coherent_spec.specs.Counting.{nth_object}
use Rattle.ob_coherent_spec.specs.Runs.{around, constructions}
use Rattle.ob_coherent_spec.specs.Standing.{HasItsState, NeedsOwner}
use Rattle.ob_coherent_spec.specs.Saying.{Says, every}
use Rattle.ob_coherent_spec.specs.Remaining.{BodyParts, body_of, AreHeld, Remains}
use Rattle.ob_coherent_spec.specs.Coherent.{Beginning, IsRunning}
use Rattle.ob_soundness_laws.specs.frames.Steps.{moved, KeepsWhole, KeepsQuietly, IsOwnStep, IsQuietStep}
use Rattle.ob_soundness_laws.proofs.frames.Cells.{same_has_state}
pub use Rattle.ob_soundness_laws.proofs.frames.Quiet.{EndsSame}
use Rattle.ob_soundness_laws.proofs.frames.Quiet.{quiet_shares, quiet_whole}
use Rattle.ob_soundness_laws.proofs.frames.Whole.{same_constructions, whole_kept}

-- what such a step leaves of the whole
pub own_keeps : (table : ClassTable) (entry : Option ℕ) (c : Configuration) (parts : BodyParts) (h : Here)
    (terms : SilicaTerms)
    (outer : List Rest) → IsOwnStep table entry c parts h terms outer
    → KeepsWhole table entry c parts h (runs terms outer)
own_keeps table entry c parts h terms outer m = record {
  others = m.others;
  free = m.free;
  this = m.this;
  arguments = m.arguments;
  unset = m.unset;
  slots = m.slots;
  fields = m.fields;
  object = m.object;
  one_owner = m.one_owner;
  disowned = m.disowned;
  shared = m.shared;
  assets = m.assets;
  balanced = m.balanced;
  lock_ends = m.lock_ends;
  tested = m.tested;
  locked = m.locked;
  locked_once = m.locked_once;
}

-- A step of the innermost frame leads from a coherent configuration to a coherent one.
pub own_step_keeps : (table : ClassTable) (entry : Option ℕ) (beginning : Beginning) (c : Configuration) (h : Here)
    (terms : SilicaTerms) (outer : List Rest) → IsClassTable table → (k : IsRunning table entry beginning c)
    → IsOwnStep table entry c k.whole.parts h terms outer
    → (g : Context) → Says (body_of table c.frame k.whole.parts) (NeedsOwner table h.world.objects) g h every
    → (i : Holdings) → AreHeld i h.slots every → Remains (body_of table c.frame k.whole.parts) i g terms outer
    → IsRunning table entry beginning (moved c h terms outer)
own_step_keeps table entry beginning c h terms outer t k m g says i held remains = record {
  whole = whole_kept table entry beginning c h (runs terms outer) t k.whole
      (own_keeps table entry c k.whole.parts h terms outer m);
  terms = terms;
  outer = outer;
  control = refl;
  context = g;
  says = says;
  holdings = i;
  held = held;
  remains = remains;
  opens = m.opens;
  placed = λ made. subst (λ n. HasItsState table (nth_object h.world.objects n)) (sym m.this) (m.placed made);
  shares = m.shares;
  owns_made = m.owns_made;
  lends = k.lends;
  unreferred = λ n has.
      let same = same_constructions table entry beginning c h (runs terms outer) t k.whole
      (own_keeps table entry c k.whole.parts h terms outer m) n in
      let made : 0 < constructions n c = omega arith in
      let few = m.unreferred n made in let one = k.unreferred n made in omega arith;
}

-- what a step that opens and ends no test leaves of the whole
pub quiet_keeps : (table : ClassTable) (c : Configuration) (parts : BodyParts) (h : Here) (terms : SilicaTerms)
    (outer : List Rest) → IsQuietStep table c parts h terms outer → KeepsQuietly table c parts h (runs terms outer)
quiet_keeps table c parts h terms outer m = record {
  others = m.others;
  state = m.state;
  locks = m.locks;
  this = m.this;
  arguments = m.arguments;
  unset = m.unset;
  slots = m.slots;
  fields = m.fields;
  object = m.object;
  fewer = m.fewer;
  keeps_owner = m.keeps_owner;
  newly_shared = m.newly_shared;
  newly_disowned = m.newly_disowned;
}

-- such a step is one of the innermost frame
pub quiet_is_own : (table : ClassTable) (entry : Option ℕ) (beginning : Beginning) (c : Configuration) (h : Here)
    (terms : SilicaTerms) (outer : List Rest) → (k : IsRunning table entry beginning c)
    → EndsSame (around c.control) outer
    → IsQuietStep table c k.whole.parts h terms outer → IsOwnStep table entry c k.whole.parts h terms outer
quiet_is_own table entry beginning c h terms outer k same m = record {
  others = whole.others;
  free = whole.free;
  this = m.this;
  arguments = m.arguments;
  unset = m.unset;
  slots = m.slots;
  fields = m.fields;
  object = m.object;
  placed = λ made. same_has_state table (nth_object c.world.objects (self_of c.frame.slots))
      (nth_object h.world.objects (self_of c.frame.slots)) (m.others.contracts (self_of c.frame.slots)) m.state
      (k.placed made);
  opens = m.opens;
  shares = quiet_shares table entry beginning c h (runs terms outer) k.whole same quietly k.shares m.shares;
  owns_made = m.owns_made;
  one_owner = whole.one_owner;
  disowned = whole.disowned;
  shared = whole.shared;
  assets = whole.assets;
  balanced = whole.balanced;
  lock_ends = whole.lock_ends;
  tested = whole.tested;
  locked = whole.locked;
  locked_once = whole.locked_once;
  unreferred = m.unreferred;
}
  where
    quietly : KeepsQuietly table c k.whole.parts h (runs terms outer)
    quietly = quiet_keeps table c k.whole.parts h terms outer m

    whole : KeepsWhole table entry c k.whole.parts h (runs terms outer)
    whole = quiet_whole table entry beginning c h (runs terms outer) k.whole same quietly

-- A step of the innermost frame that opens and ends no test leads from a coherent configuration to a coherent one.
pub quiet_step_keeps : (table : ClassTable) (entry : Option ℕ) (beginning : Beginning) (c : Configuration) (h : Here)
    (terms : SilicaTerms) (outer : List Rest) → IsClassTable table → (k : IsRunning table entry beginning c)
    → EndsSame (around c.control) outer → IsQuietStep table c k.whole.parts h terms outer
    → (g : Context) → Says (body_of table c.frame k.whole.parts) (NeedsOwner table h.world.objects) g h every
    → (i : Holdings) → AreHeld i h.slots every → Remains (body_of table c.frame k.whole.parts) i g terms outer
    → IsRunning table entry beginning (moved c h terms outer)
quiet_step_keeps table entry beginning c h terms outer t k same m g says i held remains =
    own_step_keeps table entry beginning c h terms outer t k
    (quiet_is_own table entry beginning c h terms outer k same m) g says i held remains
