-- What is so of a frame amid a straight form, and how a coherent configuration follows where the form is at its end.
use Rattle.std.proofs.Common.{◌≡◌, ℕ, ◌+◌, ◌<◌, ◌≤◌, ◌⊎◌, inl, inr, ⊎_elim, true, false, List, length, Option, Some, refl, sym, ap, ◌∙◌, subst, arith}
use Rattle.std.proofs.lemmas.Bool.{both_ways}
use Rattle.ob_perm.specs.Permissions.{shared, owns}
use Rattle.ob_table.specs.Tables.{ClassTable}
use Rattle.ob_table_spec.specs.Conditions.{IsClassTable}
use Rattle.ob_heap_spec.specs.Values.{reference}
use Rattle.ob_silica.specs.Terms.{SilicaTerms}
use Rattle.ob_silica_formed.specs.Holdings.{Holdings}
use Rattle.ob_silica_places.specs.Known.{Known}
use Rattle.ob_silica_places.specs.Places.{Location, slot, this}
use Rattle.ob_silica_steps.specs.Cells.{Cell, permission_in}
use Rattle.ob_silica_steps.specs.Configurations.{by_new, Rest, Control, runs, Configuration}
use Rattle.ob_silica_steps.specs.Here.{Here, here, self_of}
use Rattle.ob_flow_spec.specs.Contexts.{Context, put, is_tested}
use Rattle.ob_coherent_spec.specs.Counting.{nth_object, field_cell, Counted, any, in_all, owners}
use Rattle.ob_coherent_spec.specs.Runs.{times, around, constructions, tested_places}
use Rattle.ob_coherent_spec.specs.Standing.{Stands, AllStand, IsObjectInRun, NeedsOwner}
use Rattle.ob_coherent_spec.specs.Saying.{SaysOf, own_object}
use Rattle.ob_coherent_spec.specs.Remaining.{BodyParts, body_of, AreHeld, Remains, IsPlaceIn}
use Rattle.ob_coherent_spec.specs.Coherent.{Beginning, IsRunning, IsCoherent, running}
use Rattle.ob_coherent_spec.specs.Saying.{every}
use Rattle.ob_soundness_laws.proofs.counting.Whole.{all_but_running}
use Rattle.ob_soundness_laws.proofs.counting.Writing.{in_here}
use Rattle.ob_soundness_laws.specs.frames.Steps.{moved, IsQuietStep}
use Rattle.ob_soundness_laws.proofs.frames.Entered.{innermost_in_progress}
use Rattle.ob_soundness_laws.proofs.frames.Own.{EndsSame, quiet_step_keeps}
use Rattle.ob_soundness_laws.specs.places.Placed.{cell_at, Stays, Written, Sits, IsAlike, SlotsKept, HasRoom, TellsThis}
use Rattle.ob_soundness_laws.proofs.places.Finding.{is_new}
use Rattle.ob_soundness_laws.proofs.places.Keeping.{argument_kept, OpensKept, opens_kept, opens_onward, opens_written, sits_written, slots_kept, slots_kept_itself, slots_kept_onward}
use Rattle.ob_soundness_laws.proofs.places.Writing.{stays_itself, stays_leaves, stays_onward}
use Rattle.ob_soundness_laws.proofs.tests.Unchanged.{opens_so}

-- A frame amid a form, with these lists around: other frames and objects are as they were, its places are as this context
-- says, and places under test keep their values, as its arguments do.
pub record Amid (table : ClassTable) (c : Configuration) (parts : BodyParts) (outer : List Rest) (h : Here)
    (g : Context) : Type 0 where
  pub stays : Stays (here c) h
  pub sits : Sits table c.frame parts h g
  pub opens : OpensKept table outer (here c) h
  pub arguments : SlotsKept (length parts.signature.params) (here c) h

-- What the places count after a form, and what is marked by it.
pub record Counts (table : ClassTable) (c : Configuration) (parts : BodyParts) (h : Here) (rest : SilicaTerms)
    (outer : List Rest) : Type 0 where
  pub fewer : (n : ℕ) → in_here owns n h ≤ in_here owns n (here c)
  pub keeps_owner : (n : ℕ) → NeedsOwner table h.world.objects n → in_here owns n (here c) ≤ in_here owns n h
  pub newly_shared : (n : ℕ) → (nth_object c.world.objects n).shared ≡ false
      → (nth_object h.world.objects n).shared ≡ true
      → owners n (moved c h rest outer) ≡ 0
  pub newly_disowned : (n : ℕ) → (nth_object c.world.objects n).disowned ≡ false
      → (nth_object h.world.objects n).disowned ≡ true → owners n (moved c h rest outer) ≡ 0
  -- an argument that is Shared afterwards was so before, or no place owns its object any more
  pub shares : (j : ℕ) (x y : Cell) → j ≤ length parts.signature.params → c.frame.slots j ≡ Some x → h.slots j ≡ Some y
      → y.note.permission ≡ shared
      → (x.note.permission ≡ shared) ⊎ ((n : ℕ) → x.value ≡ reference n → owners n (moved c h rest outer) ≡ 0)
  pub unreferred : (n : ℕ) → 0 < constructions n c → in_here any n h ≤ in_here any n (here c)

module _ (table : ClassTable) (t : IsClassTable table) (entry : Option ℕ) (beginning : Beginning) (c : Configuration)
    (k : IsRunning table entry beginning c) where
  -- the frame sits so
  pub sits : Sits table c.frame k.whole.parts (here c) k.context
  sits = record {
    frame = k.whole.frame;
    slots = k.whole.slots;
    fields = k.whole.fields (self_of c.frame.slots);
    object = k.whole.objects (self_of c.frame.slots) k.whole.frame.there;
    says = k.says;
    placed = k.placed;
    owns_made = k.owns_made;
  }

  module _ (terms : SilicaTerms) (outer : List Rest) (so : c.control ≡ runs terms outer) where
    pub amid_first : Amid table c k.whole.parts outer (here c) k.context
    amid_first = record {
      stays = stays_itself (here c);
      sits = sits;
      opens = λ q z is e. (z, e, refl);
      arguments = slots_kept_itself (length k.whole.parts.signature.params) (here c);
    }

    -- what all places count
    pub counted_all : (counts : Counted) (n : ℕ) (h : Here) (rest : SilicaTerms) → Stays (here c) h
        → in_all counts n (moved c h rest outer) + in_here counts n (here c) ≡ in_all counts n c + in_here counts n h
    counted_all counts n h rest s = all_but_running counts n c
        (moved c h rest outer) terms rest outer outer so refl refl s.handles

    step_quiet : (h : Here) (g : Context) (rest : SilicaTerms) → Amid table c k.whole.parts outer h g
        → Counts table c k.whole.parts h rest outer
        → IsQuietStep table c k.whole.parts h rest outer
    step_quiet h g rest a m = record {
      others = stays_leaves c h a.stays;
      state = a.stays.states (self_of c.frame.slots);
      locks = a.stays.locked;
      this = a.stays.this;
      arguments = λ j x le e. argument_kept (λ n. owners n (moved c h rest outer)) x (h.slots j)
          (λ z is. a.arguments j le z (e ∙ is))
          (λ y is e'. m.shares j x y le e is e');
      unset = a.sits.frame.unset;
      slots = a.sits.slots;
      fields = subst (λ n. AllStand table h.world.objects (field_cell h.notes h.world.objects n)) a.stays.this
          a.sits.fields;
      object = subst (λ n. IsObjectInRun table h.notes n (nth_object h.world.objects n)) a.stays.this a.sits.object;
      opens = opens_kept (body_of table c.frame k.whole.parts) (here c) h a.stays outer a.opens
          (opens_so table entry beginning c k terms outer so);
      owns_made = a.sits.owns_made;
      fewer = λ n. let e = counted_all owns n h rest a.stays in let l = m.fewer n in omega (arith, e, l);
      keeps_owner = λ n need. let e = counted_all owns n h rest a.stays in let l = m.keeps_owner n need in
          omega (arith, e, l);
      newly_shared = m.newly_shared;
      newly_disowned = m.newly_disowned;
      shares = this_shared;
      unreferred = λ n has. let e = counted_all any n h rest a.stays in let l = m.unreferred n has in
          omega (arith, e, l);
    }
      where
        this_shared : permission_in (h.slots 0) ≡ shared → (permission_in (c.frame.slots 0) ≡ shared)
            ⊎ ((0 < times (self_of c.frame.slots) c.world.progress)
            × (owners (self_of c.frame.slots) (moved c h rest outer) ≡ 0))
        this_shared e = ⊎_elim
            (λ made. absurd (both_ways _ (ap owns e) (a.sits.owns_made made)))
            (λ not. ⊎_elim
            (λ was. inl (ap permission_in k.whole.frame.set ∙ was))
            (λ gone. inr (
              innermost_in_progress table entry beginning c k.whole not,
              gone
                  (self_of c.frame.slots) k.whole.frame.refers,
            ))
            (m.shares 0 k.whole.frame.this a.sits.frame.this (omega arith) k.whole.frame.set a.sits.frame.set
            (sym (ap permission_in a.sits.frame.set) ∙ e)))
            (is_new c.frame.how)

    -- At the end of a form the configuration is coherent again.
    pub form_done : (h : Here) (g : Context) (rest : SilicaTerms) (i : Holdings) → Amid table c k.whole.parts outer h g
        → Counts table c k.whole.parts h rest outer
        → AreHeld i h.slots every → Remains (body_of table c.frame k.whole.parts) i g rest outer
        → IsCoherent table entry beginning (moved c h rest outer)
    form_done h g rest i a m held remains = running (quiet_step_keeps table entry beginning c h rest outer t k
        (subst (λ (x : Control). EndsSame (around x) outer) (sym so) (record { locks = λ n. refl; tests = λ n. refl }))
        (step_quiet h g rest a m) g a.sits.says i held remains)

  -- A place is written.
  pub amid_written : (outer : List Rest) (h after : Here) (g : Context) (p : Location) (x : Option Cell)
      (y : Option Known)
      → (a : Amid table c k.whole.parts outer h g) → Written p x h after
      → IsPlaceIn (body_of table c.frame k.whole.parts) p
      → ((n : ℕ) → p ≡ slot n → n ≤ length k.whole.parts.signature.params → IsAlike (cell_at h p) x)
      → HasRoom a.sits.object.own (own_object h).state p x
      → ((z : Cell) → x ≡ Some z → Stands table after.world.objects z)
      → SaysOf (NeedsOwner table after.world.objects) y x → TellsThis p y x
      → (c.frame.how ≡ by_new → p ≡ this → owns (permission_in x) ≡ true)
      → (is_tested (tested_places outer) p ≡ true → IsAlike (cell_at h p) x)
      → Amid table c k.whole.parts outer after (put g p y)
  amid_written outer h after g p x y a w inside like room st says tells made tested =
      let s = sits_written table c.frame k.whole.parts h after g p x y a.sits w inside like room st says tells made in
      record {
        stays = stays_onward (here c) h after a.stays w.stays;
        sits = s;
        opens = opens_onward table outer (here c) h after a.opens
            (opens_written table outer h after p x w a.sits.frame.there a.sits.object s.object tested);
        arguments = slots_kept_onward (length k.whole.parts.signature.params) (here c) h after a.arguments
            (slots_kept h after p x w (length k.whole.parts.signature.params) like);
      }
