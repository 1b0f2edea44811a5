-- Branches: what ends with them, and tests of states.
use Rattle.std.proofs.Common.{◌≡◌, ℕ, ◌≤◌, Bool, true, false, List, ◌∷◌, length, Option, Some, None, refl, sym, ap, ◌∙◌, subst, le_of_eq}
use Rattle.std.specs.Prelude.{option_map, if◌then◌else◌}
use Rattle.ob_table.specs.Tables.{ClassTable, contract_at}
use Rattle.ob_table_spec.specs.WellFormed as made
use Rattle.ob_heap_spec.specs.Values.{Value}
use Rattle.ob_heap_spec.specs.Worlds.{World, RunOutcome, gives, aborts, wrong, ◌>>=◌}
use Rattle.ob_heap_spec.specs.Marks.{unlock}
use Rattle.ob_source_meaning.specs.Frames as meaning
use Rattle.ob_source_meaning.specs.Frames.{Calls, Flow, goes_on, returns}
use Rattle.ob_silica.specs.Terms.{SilicaTerms, no_terms}
use Rattle.ob_silica_places.specs.Places.{Location}
use Rattle.ob_silica_steps.specs.Configurations.{SilicaProgram, SlotCells, Rest, runs, leaves, Configuration, goes}
use Rattle.ob_silica_steps.specs.Here.{Here, here, goes_to}
use Rattle.ob_silica_steps.specs.Steps.{step, end_step}
use Rattle.ob_lower_spec.specs.Points.{Point, passed}
use Rattle.ob_lower_correct.proofs.Slots.{Used, Within, within_self}
use Rattle.ob_lower_correct.proofs.Runs.{Ends, leads_on, one_step, ends_map, ends_then}
use Rattle.ob_lower_correct.proofs.Standing.{Setting, frame_in, made_in, config, Comes, kept_on, none_some, some_same, comes_on, comes_fewer}
use Rattle.ob_lower_correct.proofs.Calling.{CallsRun}
use Rattle.ob_lower_correct.proofs.Flows.{Placed, At, Flows, step_flows, at_on}
use Rattle.ob_lower_correct.proofs.Changes.{noted_quiet, permission_alike}
use Rattle.ob_lower_correct.proofs.Ending.{Finishes}
use Rattle.ob_lower_correct.proofs.Changes.{Alike, alike_self, Quiet, bare}
use Rattle.ob_lower_correct.proofs.Placing.{moved_world}
use Rattle.ob_lower_correct.proofs.Standing.{later_on, none_some}
use Rattle.ob_silica_steps.specs.Configurations.{Ends as BranchEnds, plain_end, test_end, lock_end}
use Rattle.ob_silica_steps.specs.Testing.{end_branch}
use Rattle.ob_perm.specs.Permissions.{shared}
use Rattle.ob_heap_spec.specs.Contents.{object_at}
use Rattle.ob_heap_spec.specs.Worlds.{read_object, is_made, with_read, object_item}

-- at the end of a branch only permissions change, and the world so
pub record EndsTo (e : BranchEnds) (change : World → World) : Type 0 where
  pub steps_so : (program : SilicaProgram) (rest : SilicaTerms) (outer : List Rest) (c : Configuration) → end_step program e rest outer c ≡ goes_to c (end_branch e (here c)) (runs rest outer)
  pub alike : (t : Here) → Alike t (end_branch e t)
  pub world : (t : Here) → (end_branch e t).world ≡ change t.world

pub read_objects : (w : World) (n : ℕ) → (read_object w n).objects ≡ w.objects
read_objects w n = go (is_made w n)
  where
    go : (b : Bool) → (if b then w else with_read w (object_item n)).objects ≡ w.objects
    go true = refl
    go false = refl

pub quiet_same : (w v : World) → v.objects ≡ w.objects → v.fuel ≡ w.fuel → Quiet w v
quiet_same w v e h = record { by = λ n. ap (λ xs. option_map bare (object_at xs n)) e; fuel = h }

pub some_map : {A B : Type 0} (o : Option A) (g : A → B) (b : B) → option_map g o ≡ Some b → (a : A) × (o ≡ Some a) × (g a ≡ b)
some_map None g b e = absurd (none_some e)
some_map (Some a) g b e = (a, refl, some_same (g a) b e)

pub if_some : {A : Type 0} (b : Bool) (o : Option A) (a : A) → (if b then o else None) ≡ Some a → o ≡ Some a
if_some true o a e = e
if_some false o a e = absurd (none_some e)

pub then_gives : {A : Type 0} (o : RunOutcome A) → (o >>= (λ v w. gives v w)) ≡ o
then_gives (gives v w) = refl
then_gives (aborts cause s) = refl
then_gives wrong = refl

module _ (program : SilicaProgram) (most : ℕ) (calls : Calls) (called : CallsRun program most calls) (s : Setting) (found : contract_at program.table s.here ≡ Some s.own)
    (start : SlotCells) (finish : Option Value → World → RunOutcome (Option Value)) (fixed : List ℕ) (zero_fixed : Used 0 fixed) where
  abbrev table : ClassTable
  table = program.table

  abbrev f : meaning.SourceFrame
  f = frame_in program.table s

  abbrev F : made.StaticFrame
  F = made_in program.table s

  abbrev Stand : Point → meaning.Locals → Here → Type 0
  Stand p ls h = At program most calls called s found start finish fixed zero_fixed p ls h

  abbrev Runs : Point → SilicaTerms → List Rest → Here → Configuration → RunOutcome Flow → Type 0
  Runs q rest outer h c o = Ends program (Flows program most calls called s found start finish fixed zero_fixed q rest outer h) c o

  abbrev Places : Point → made.LocalKinds → Type 0
  Places p ws = Placed (length s.signature.params) fixed p ws

  pub plain_ends : EndsTo plain_end (λ w. w)
  plain_ends = record { steps_so = λ program rest outer c. refl; alike = λ t. alike_self t; world = λ t. refl }

  pub test_ends : (place : Location) → EndsTo (test_end place) (λ w. w)
  test_ends place = record { steps_so = λ program rest outer c. refl; alike = λ t. permission_alike place shared t; world = λ t. moved_world program most place shared t }

  pub lock_ends : (place : Location) (n : ℕ) → EndsTo (lock_end place n) (unlock n)
  lock_ends place n = record {
    steps_so = λ program rest outer c. refl;
    alike = λ t. let a = permission_alike place shared t in record { slots = a.slots; notes = a.notes };
    world = λ t. ap (unlock n) (moved_world program most place shared t);
  }

  -- a branch has ended
  pub flow_ended : (p : Point) (rest : SilicaTerms) (outer : List Rest) (h : Here) (e : BranchEnds) (change : World → World) (c : Configuration)
      → EndsTo e change → ((w : World) → ((change w).objects ≡ w.objects) × ((change w).fuel ≡ w.fuel)) → ((r : Option Value) (w : World) → finish r (change w) ≡ (finish r w >>= (λ v w1. gives v (change w1)))) → Within fixed p.used
      → (flow : Flow) (w : World) → Flows program most calls called s found start finish fixed zero_fixed (passed p) no_terms (record { terms = rest; ends = e } ∷ outer) h flow w c → Flows program most calls called s found start finish fixed zero_fixed (passed p) rest outer h flow (change w) c
  flow_ended p rest outer h e change c ends same commutes within (goes_on ls) w r =
      let t : Here = record { slots = r.by.slots; notes = r.by.notes; world = w } in
      let t2 = end_branch e t in
      let comes : Comes table most p.used t (record { slots = t2.slots; notes = t2.notes; world = change w }) = record {
        kept = record { by = λ n u. (ends.alike t).slots n };
        later = record { by = λ n o eo. (o, ap (λ xs. object_at xs n) (same w).0 ∙ eo, refl); fuel = le_of_eq (same w).1 };
        noted = noted_quiet {w = w} {v = change w} r.by.comes.noted (quiet_same w (change w) (same w).0 (same w).1) (ends.alike t).notes;
        fuel = subst (λ n. n ≤ most) (sym (same w).1) r.by.comes.fuel;
      } in
      record {
        by = record {
          slots = t2.slots;
          notes = t2.notes;
          comes = comes_on table most r.by.comes (comes_fewer table most within comes);
          holds = at_on program most calls called s found start finish fixed zero_fixed within (within_self p.used) r.by.holds comes;
          leads = leads_on program r.by.leads (one_step program (ends.steps_so program rest outer (config s t (runs no_terms (record { terms = rest; ends = e } ∷ outer)))
              ∙ ap (λ v. goes (config s (record { slots = t2.slots; notes = t2.notes; world = v }) (runs rest outer))) (ends.world t)));
        };
      }
  flow_ended p rest outer h e change c ends same commutes within (returns v) w r =
      record {
        by = rw (commutes v w) (ends_then program (finish v w) (λ u w1. gives u (change w1)) r.by (λ u w1 l.
            let t : Here = record { slots = l.slots; notes = l.notes; world = w1 } in
            let t2 = end_branch e t in
            record {
              by = record {
                slots = t2.slots;
                notes = t2.notes;
                cell = l.cell;
                value = l.value;
                answers = l.answers;
                comes = record {
                  kept = kept_on l.comes.kept (record { by = λ n z. (ends.alike t).slots n });
                  later = later_on l.comes.later (record { by = λ n o eo. (o, ap (λ xs. object_at xs n) (same w1).0 ∙ eo, refl); fuel = le_of_eq (same w1).1 });
                  noted = noted_quiet {w = w1} {v = change w1} l.comes.noted (quiet_same w1 (change w1) (same w1).0 (same w1).1) (ends.alike t).notes;
                  fuel = subst (λ n. n ≤ most) (sym (same w1).1) l.comes.fuel;
                };
                leads = leads_on program l.leads (one_step program (ap (λ v. goes (config s (record { slots = t2.slots; notes = t2.notes; world = v }) (leaves l.cell outer))) (ends.world t)));
              };
            }));
      }

  -- a branch without a lock
  pub branch_runs : (p : Point) (rest : SilicaTerms) (outer : List Rest) (h h2 : Here) (w : World) (e : BranchEnds) (ts : SilicaTerms) (c : Configuration) (go : World → RunOutcome Flow)
      → EndsTo e (λ w. w) → Within fixed p.used → Comes table most fixed h (record { slots = h2.slots; notes = h2.notes; world = w })
      → step program c ≡ goes (config s (record { slots = h2.slots; notes = h2.notes; world = w }) (runs ts (record { terms = rest; ends = e } ∷ outer)))
      → Runs (passed p) no_terms (record { terms = rest; ends = e } ∷ outer) (record { slots = h2.slots; notes = h2.notes; world = w }) (config s (record { slots = h2.slots; notes = h2.notes; world = w }) (runs ts (record { terms = rest; ends = e } ∷ outer))) (go w)
      → Runs (passed p) rest outer h c (go w)
  branch_runs p rest outer h h2 w e ts c go ends within comes st r =
      step_flows program most calls called s found start finish fixed zero_fixed (go w) comes st
      (ends_map program (go w) (λ flow w1 x. flow_ended p rest outer _ e (λ v. v) _ ends (λ v. (refl, refl)) (λ v w2. sym (then_gives (finish v w2))) within flow w1 x) r)

  -- a branch with a lock
  pub locked_runs : (finishes : Finishes program most calls called s found start finish fixed zero_fixed) (p : Point) (rest : SilicaTerms) (outer : List Rest) (h h2 : Here) (w : World) (place : Location) (n : ℕ) (ts : SilicaTerms) (c : Configuration) (go : World → RunOutcome Flow)
      → Within fixed p.used → Comes table most fixed h (record { slots = h2.slots; notes = h2.notes; world = w })
      → step program c ≡ goes (config s (record { slots = h2.slots; notes = h2.notes; world = w }) (runs ts (record { terms = rest; ends = lock_end place n } ∷ outer)))
      → Runs (passed p) no_terms (record { terms = rest; ends = lock_end place n } ∷ outer) (record { slots = h2.slots; notes = h2.notes; world = w }) (config s (record { slots = h2.slots; notes = h2.notes; world = w }) (runs ts (record { terms = rest; ends = lock_end place n } ∷ outer))) (go w)
      → Runs (passed p) rest outer h c (go w >>= (λ flow w1. gives flow (unlock n w1)))
  locked_runs finishes p rest outer h h2 w place n ts c go within comes st r =
      step_flows program most calls called s found start finish fixed zero_fixed (go w >>= (λ flow w1. gives flow (unlock n w1))) comes st
      (ends_then program (go w) _ r (λ flow w1 x. record { by = flow_ended p rest outer _ (lock_end place n) (unlock n) _ (lock_ends place n) (λ v. (refl, refl)) (λ v w2. finishes.unlocks v n w2) within flow w1 x }))
