-- Code at its places, and what every form has in common: what is known where its code begins, and how the frame goes on after it.
use Rattle.std.proofs.Common.{◌≡◌, ℕ, ◌+◌, false, Bool, List, [], ◌∷◌, ◌++◌, length, Option, Some, refl, sym, ap, ◌∙◌, subst, arith, length-append}
use Rattle.std.specs.Prelude.{◌||◌, slice_get, ⊤}
use Rattle.ob_base.specs.declared.fault.Span.{Span}
use Rattle.ob_table.specs.Tables.{ClassTable, contract_at}
use Rattle.ob_table.specs.declared.contract.Contract.{Contract}
use Rattle.ob_heap_spec.specs.Worlds.{World, SameWorld}
use Rattle.ob_silica.specs.Terms.{SilicaForm, SilicaTerms, and_term}
use Rattle.ob_silica_formed.specs.Holdings.{Holdings, form_ends, terms_end, after_form}
use Rattle.ob_silica_steps.specs.Configurations.{SilicaProgram, Rest, Control, runs, leaves, Configuration, goes}
use Rattle.ob_silica_steps.specs.Steps as silica_steps
use Rattle.ob_silica_steps.specs.Here.{Here, goes_to, self_of}
use Rattle.ob_coherent_spec.specs.Coherent.{Beginning, Holds, IsRunning, IsCoherent, running, leaving, returning}
use Rattle.ob_coherent_spec.specs.Remaining.{IsWellFormedForm, IsCheckedProgram}
use Rattle.ob_code.specs.declared.instruction.Instruction.{Instruction}
use Rattle.ob_machine_steps.specs.Configurations as machine
use Rattle.ob_code_table.specs.Images.{instruction_at}
use Rattle.ob_machine_steps.specs.Slots.{Slots}
use Rattle.ob_machine_steps.specs.Steps.{act, next_instruction}
use Rattle.ob_emit_spec.specs.Emission.{EmissionFrame, form_code, terms_code}
use Rattle.ob_lower_correct.proofs.Standing.{some_same}
use Rattle.ob_emit_correct.specs.Law.{code_of}
use Rattle.ob_emit_correct.proofs.Placing.{HasAt, AreEmitted, Around, Stands, KindsHold}
use Rattle.ob_emit_correct.proofs.Matching.{HasBody, SameFrame, frame_in, code_in, slots_in, SameSlots, GoesOnWith, kind_given_by, AllWaitFor, as_running, Does}
use Rattle.ob_emit_correct.proofs.Agreeing.{instruction_found}
use Rattle.ob_emit_correct.proofs.Stepping.{Reaches, reaches_by, does_reached}

-- Places.

pub has_front : (code : List Instruction) (at : ℕ) (a b : List Instruction) → HasAt code at (a ++ b) → HasAt code at a
has_front code at [] b h = tt
has_front code at (i ∷ a) b h = (h.0, has_front code (at + 1) a b h.1)

pub has_back : (code : List Instruction) (at : ℕ) (a b : List Instruction) → HasAt code at (a ++ b) → HasAt code (at + length a) b
has_back code at [] b h = let e : at ≡ at + 0 = omega arith in subst (λ n. HasAt code n b) e h
has_back code at (i ∷ a) b h =
    let e : at + 1 + length a ≡ at + length (i ∷ a) =
    omega arith in subst (λ n. HasAt code n b) e (has_back code (at + 1) a b h.1)

-- the place after two pieces of code
pub place_after : (at : ℕ) (a b : List Instruction) → at + length (a ++ b) ≡ at + length a + length b
place_after at a b = omega (arith, length-append a b)

-- The rest of terms.

pub emitted_rest : {f : EmissionFrame} {count : ℕ} {h : Holdings} {form : SilicaForm} {span : Span} {rest : SilicaTerms}
    → AreEmitted f count h (and_term form span rest)
    → AreEmitted f count (after_form f.static form h) rest
emitted_rest e =
    record { forms = e.forms.2; slots = omega (arith, e.slots); scratch = omega (arith, e.scratch); follows = e.follows.2 }

-- the lists around, at a place and with an end that are these
pub around_as : {f : EmissionFrame} {count : ℕ} {code : List Instruction} {at place : ℕ} {b
    ended : Bool} {h : Holdings} {outer : List Rest} {tests : List (Option ℕ)}
    → at ≡ place → b ≡ ended → Around f count code at b h outer tests → Around f count code place ended h outer tests
around_as {f} {count} {code} {at} {place} {b} {ended} {h} {outer} {tests} e g a =
    subst (λ n. Around f count code n ended h outer tests) e (subst (λ x. Around f count code at x h outer tests) g a)

pub stands_rest : {f : EmissionFrame} {count : ℕ} {code : List
    Instruction} {at : ℕ} {h : Holdings} {form : SilicaForm} {span : Span} {rest : SilicaTerms} {outer : List Rest}
    {tests : List (Option ℕ)}
    → Stands f count code at h (and_term form span rest) outer tests → form_ends form ≡ false
    → Stands f count code (at + length (form_code f h form at)) (after_form f.static form h) rest outer tests
stands_rest {f} {count} {code} {at} {h} {form} {span} {rest} s e =
    let here = form_code f h form at in
    let more = terms_code f (after_form f.static form h) rest (at + length here) in
    record {
      placed = has_back code at here more s.placed;
      emitted = emitted_rest s.emitted;
      around = around_as (place_after at here more) (ap (λ b. b || terms_end rest) e) s.around;
    }

-- The machine's configurations while it runs the code of a form.

-- the innermost frame goes on at a place with these slots, in a world
abbrev pub machine_at : machine.Configuration → ℕ → Slots → World → machine.Configuration
machine_at m place slots w = record { top = record m.top { at = place; slots = slots }; below = m.below; world = w }

-- a frame of the machine that runs the body of one of the terms
pub record Framed (program : SilicaProgram) (c : Configuration) (m : machine.Configuration) : Type 0 where
  pub frame : SameFrame c.frame m.top
  pub has : HasBody program c.frame.contract c.frame.tx

module _ {program : SilicaProgram} {c : Configuration} {m : machine.Configuration} (y : Framed program c m) where
  -- the code of the body
  abbrev pub code_framed : List Instruction
  code_framed = code_in program c.frame.contract c.frame.tx y.has

  -- the instruction at a place of the code is next there
  pub instruction_framed : (place : ℕ) (slots : Slots) (w : World) (i : Instruction) → slice_get code_framed place ≡ Some i
      → next_instruction (code_of program) (machine_at m place slots w) ≡ Some i
  instruction_framed place slots w i e =
      ap (λ id. instruction_at (code_of program) id m.top.tx place) y.frame.contract
      ∙ ap (λ tx. instruction_at (code_of program) c.frame.contract tx place) y.frame.tx
      ∙ instruction_found program c.frame.contract c.frame.tx y.has place i e

  -- the machine takes a step by the instruction at a place
  pub steps_framed : (place : ℕ) (slots : Slots) (w : World) (n : machine.Configuration) (i : Instruction)
      → slice_get code_framed place ≡ Some i
      → act (code_of program) i (machine_at m place slots w) ≡ Some (machine.goes n)
      → Reaches program (machine_at m place slots w) n
  steps_framed place slots w n i e a = reaches_by program (machine_at m place slots w) n i (instruction_framed place slots w i e) a

-- Where a form is about to be run.

-- A coherent configuration is about to run a form, and the machine represents it.
pub record FormStep (program : SilicaProgram) (form : SilicaForm) (span : Span) (rest : SilicaTerms) (outer : List Rest)
    (c : Configuration) (m : machine.Configuration) : Type 0 where
  pub checked : IsCheckedProgram program
  pub entry : Option ℕ
  pub beginning : Beginning
  pub coherent : IsRunning program.table entry beginning c
  pub next : (d : Configuration) → silica_steps.act program form rest outer c ≡ goes d → IsCoherent program.table entry beginning d
  pub goes_on : GoesOnWith program c.frame (and_term form span rest) outer m.top
  pub kinds : KindsHold goes_on.holdings c.frame.slots
  pub below : AllWaitFor program (kind_given_by program c.frame) c.stack m.top.into m.below
  pub world : SameWorld c.world m.world

-- a frame that runs doesn't leave
abbrev IsRuns : Control → Type 0
IsRuns (runs terms outer) = ⊤
IsRuns (leaves result outer) = ⊥

-- what is coherent and runs terms is running
pub running_of : {table : ClassTable} {entry : Option ℕ} {beginning : Beginning} {c : Configuration} (terms : SilicaTerms)
    (outer : List Rest) → c.control ≡ runs terms outer
    → IsCoherent table entry beginning c → IsRunning table entry beginning c
running_of terms outer e (running r) = r
running_of terms outer e (leaving l) = absurd (subst IsRuns (sym e ∙ l.control) tt)
running_of terms outer e (returning l) = absurd (subst IsRuns (sym e ∙ l.control) tt)

-- the contract whose body a frame runs is no interface
pub runs_class : (table : ClassTable) (entry : Option ℕ) (beginning : Beginning) (d : Configuration) (own : Contract)
    → contract_at table d.frame.contract ≡ Some own → IsCoherent table entry beginning d → own.interface ≡ false
runs_class table entry beginning d own eo coherent = by coherent
  where
    of : Holds table entry beginning d → own.interface ≡ false
    of whole = subst (λ (o : Contract). o.interface ≡ false) (some_same whole.parts.own own (sym whole.frame.own ∙ eo)) whole.frame.class

    by : IsCoherent table entry beginning d → own.interface ≡ false
    by (running r) = of r.whole
    by (leaving l) = of l.whole
    by (returning r) = of r.whole

module _ {program : SilicaProgram} {form : SilicaForm} {span : Span} {rest : SilicaTerms} {outer : List Rest} {c : Configuration}
    {m : machine.Configuration} (x : FormStep program form span rest outer c m) where
  -- the body of the frame, what stands around its forms, its code, and the number of its slots
  abbrev pub body_in : HasBody program c.frame.contract c.frame.tx
  body_in = x.goes_on.has

  abbrev pub around_forms : EmissionFrame
  around_forms = frame_in program c.frame.contract c.frame.tx x.goes_on.has

  abbrev pub code_here : List Instruction
  code_here = code_in program c.frame.contract c.frame.tx x.goes_on.has

  abbrev pub slot_count : ℕ
  slot_count = slots_in program c.frame.contract c.frame.tx x.goes_on.has

  abbrev pub framed : Framed program c m
  framed = record { frame = x.goes_on.frame; has = x.goes_on.has }

  -- the code of the form
  abbrev pub own_code : List Instruction
  own_code = form_code around_forms x.goes_on.holdings form m.top.at

  -- the code of the form stands where the machine is
  pub form_placed : HasAt code_here m.top.at own_code
  form_placed = has_front code_here m.top.at own_code _ x.goes_on.stands.placed

  -- the form is well-formed
  pub form_formed : IsWellFormedForm around_forms.static x.goes_on.holdings form
  form_formed = x.goes_on.stands.emitted.forms.0

  -- the instruction at a place of the code is next there
  pub instruction_here : (place : ℕ) (slots : Slots) (w : World) (i : Instruction) → slice_get code_here place ≡ Some i
      → next_instruction (code_of program) (machine_at m place slots w) ≡ Some i
  instruction_here place slots w i e = instruction_framed framed place slots w i e

  -- the machine takes a step by the instruction at a place
  pub steps_here : (place : ℕ) (slots : Slots) (w : World) (n : machine.Configuration) (i : Instruction)
      → slice_get code_here place ≡ Some i
      → act (code_of program) i (machine_at m place slots w) ≡ Some (machine.goes n)
      → Reaches program (machine_at m place slots w) n
  steps_here place slots w n i e a = steps_framed framed place slots w n i e a

  -- after the form the frame is left with this, and the machine with these slots, in this world
  pub record LeftWith (h : Here) (slots : Slots) (w : World) : Type 0 where
    pub this : self_of h.slots ≡ self_of c.frame.slots
    pub slots_same : SameSlots x.goes_on.has.body.slots slot_count h.slots slots
    pub kinds : KindsHold (after_form around_forms.static form x.goes_on.holdings) h.slots
    pub world : SameWorld h.world w

  -- the frame goes on after the form
  pub goes_on : (h : Here) (place : ℕ) (slots : Slots) (w : World) → form_ends form ≡ false → place ≡ m.top.at + length own_code
      → LeftWith h slots w
      → Reaches program m (machine_at m place slots w) → Does program m (goes_to c h (runs rest outer))
  goes_on h place slots w ends e l r = does_reached r (record {
    by = (
      0,
      machine_at m place slots w,
      refl,
      as_running (record {
        terms = rest;
        outer = outer;
        control = refl;
        goes_on = record {
          frame = record {
            this = x.goes_on.frame.this ∙ sym l.this;
            contract = x.goes_on.frame.contract;
            tx = x.goes_on.frame.tx;
            entered = x.goes_on.frame.entered;
            share_entered = x.goes_on.frame.share_entered;
          };
          has = x.goes_on.has;
          slots = l.slots_same;
          holdings = after_form around_forms.static form x.goes_on.holdings;
          stands = subst
              (λ n. Stands around_forms slot_count code_here n
              (after_form around_forms.static form x.goes_on.holdings) rest outer m.top.tests) (sym e)
              (stands_rest x.goes_on.stands ends);
        };
        kinds = l.kinds;
        below = x.below;
        world = l.world;
      }),
    );
  })
