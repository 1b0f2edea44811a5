-- Configurations that are near where a frame has changed its own places, and others come or go.
use Rattle.std.proofs.Common.{◌≡◌, ℕ, ◌<◌, ◌⊎◌, ⊎_elim, true, List, length, ap, ◌∙◌, subst, arith}
use Rattle.std.proofs.lemmas.Bool.{both_ways, cases_Bool}
use Rattle.ob_table.specs.Tables.{ClassTable}
use Rattle.ob_table.specs.declared.seen.Kind.TheVariants.{Reference}
use Rattle.ob_heap_spec.specs.Objects.{Object}
use Rattle.ob_silica_places.specs.Known.{Known}
use Rattle.ob_silica_steps.specs.Configurations.{SilicaFrame, Configuration}
use Rattle.ob_silica_steps.specs.Here.{Here, self_of}
use Rattle.ob_flow_spec.specs.Contexts.{is_asset}
use Rattle.ob_coherent_spec.specs.Counting.{nth_object, field_cell, owners}
use Rattle.ob_coherent_spec.specs.Runs.{times}
use Rattle.ob_coherent_spec.specs.Standing.{AllStand, NeedsOwner}
use Rattle.ob_soundness_laws.specs.frames.Steps.{LeavesOthers}
use Rattle.ob_soundness_laws.proofs.frames.Near.{IsNear}

-- the same configuration with another innermost frame
abbrev pub with_frame : Configuration → SilicaFrame → Configuration
with_frame c f = record c { frame = f }

-- Where a frame, innermost or not, leaves the objects of others, and the next configuration has its objects and notes,
-- the two are near, but for the object of that frame.
pub near_after : (table : ClassTable) (stays : ℕ → Type 0) (c d : Configuration) (f : SilicaFrame) (h : Here)
    → LeavesOthers (with_frame c f) h → d.world.objects ≡ h.world.objects → d.notes.fields ≡ h.notes.fields
    → ((n : ℕ) → stays n → 0 < times n c.world.progress → 0 < times n d.world.progress)
    → ((n : ℕ) → 0 < times n c.world.locked → (0 < times n d.world.locked) ⊎ (owners n d ≡ 0))
    → ((n : ℕ) → AllStand table c.world.objects (field_cell c.notes c.world.objects n))
    → IsNear table (self_of f.slots) stays (NeedsOwner table c.world.objects) (NeedsOwner table d.world.objects) c d
near_after table stays c d f h others objects notes progress locks stand = record {
  count = let e = others.count in let same = ap (λ (os : List Object). length os) objects in omega arith;
  contracts = λ n below. contracts n;
  states = λ n below ne. ap (λ os. (nth_object os n).state) objects ∙ others.states n ne;
  fields = λ n k below ne. ap (λ os. (nth_object os n).fields k) objects ∙ others.fields n k ne;
  notes = λ n k below ne. ap (λ (fs : ℕ → ℕ → Known). fs n k) notes ∙ others.notes n k ne;
  shared = shared;
  progress = progress;
  lock_ends = locks;
  needs = λ n below l. record {
    there = below;
    asset = subst (λ id. is_asset table (Reference id) ≡ true) (contracts n) l.asset;
    unshared = ⊎_elim (λ e. absurd (both_ways _ l.unshared (shared n e))) (λ e. e)
        (cases_Bool (nth_object c.world.objects n).shared);
    kept = ⊎_elim (λ e. absurd (both_ways _ l.kept (disowned n e))) (λ e. e)
        (cases_Bool (nth_object c.world.objects n).disowned);
  };
  stand = stand;
}
  where
    contracts : (n : ℕ) → (nth_object d.world.objects n).contract ≡ (nth_object c.world.objects n).contract
    contracts n = ap (λ os. (nth_object os n).contract) objects ∙ others.contracts n

    shared : (n : ℕ) → (nth_object c.world.objects n).shared ≡ true → (nth_object d.world.objects n).shared ≡ true
    shared n e = ap (λ os. (nth_object os n).shared) objects ∙ others.shared n e

    disowned : (n : ℕ) → (nth_object c.world.objects n).disowned ≡ true → (nth_object d.world.objects n).disowned ≡ true
    disowned n e = ap (λ os. (nth_object os n).disowned) objects ∙ others.disowned n e
