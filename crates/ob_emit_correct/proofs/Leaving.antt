-- What a frame does while it leaves: its lists end and loans go back without a step of the machine, and one instruction then
-- returns to the frame that waits, or ends the run.
use Rattle.std.proofs.Common.{◌≡◌, ◌≢◌, ℕ, ◌<◌, ◌≤◌, List, [], ◌∷◌, length, Option, Some, None, refl, sym, ap, ◌∙◌, subst, arith, ◌⊎◌, inl, inr}
use Rattle.std.specs.Prelude.{slice_set, option_map, option_and_then, if◌then◌else◌}
use Rattle.std.proofs.lemmas.Bool.{ne_eqb}
use Rattle.ob_base.specs.Limits.{most_slots}
use Rattle.ob_base.specs.Optional.{◌>>=◌}
use Rattle.ob_perm.specs.Permissions.{unowned}
use Rattle.ob_table.specs.Tables.{ClassTable, signature_at, signature_of}
use Rattle.ob_table.specs.declared.contract.ResolvedType.{ResolvedType}
use Rattle.ob_table.specs.declared.contract.Signature.{Signature}
use Rattle.ob_table.specs.declared.seen.Kind.{Kind}
use Rattle.ob_table_spec.specs.WellFormed.{kind_of_resolved}
use Rattle.ob_heap_spec.specs.Objects.{Object}
use Rattle.ob_heap_spec.specs.Values.{Value}
use Rattle.ob_heap_spec.specs.Worlds.{World, SameWorld}
use Rattle.ob_heap_spec.specs.Marks.{without_first}
use Rattle.ob_silica.specs.Terms.{SilicaTerms}
use Rattle.ob_silica_places.specs.Known.{at}
use Rattle.ob_silica_places.specs.Places.{slot, field}
use Rattle.ob_silica_steps.specs.Cells.{Cell, noted, value_in}
use Rattle.ob_silica_steps.specs.Configurations.{SilicaProgram, SlotCells, How, by_receiver, by_this, by_new, SilicaFrame, Ends, plain_end, test_end, lock_end, loop_end, Rest, Loan, Waiting, runs, leaves, Configuration, goes}
use Rattle.ob_silica_steps.specs.Here.{Here, here, self_of}
use Rattle.ob_silica_steps.specs.Returning.{leaves_progress, left_world, with_result, resumes, without_owner, returned_to, unlends, gives_back, goes_back, leave_step}
use Rattle.ob_silica_steps.specs.Steps.{control_step, step}
use Rattle.ob_silica_steps.specs.Testing.{end_branch}
use Rattle.ob_flow_spec.specs.Contexts.{Context}
use Rattle.ob_coherent_spec.specs.Coherent.{Beginning, IsCoherent, running, leaving, returning, IsGivenBack, Holds}
use Rattle.ob_coherent_spec.specs.Remaining.{BodyParts, body_of}
use Rattle.ob_coherent_spec.specs.Standing.{NeedsOwner}
use Rattle.ob_coherent_spec.specs.Runs.{around}
use Rattle.ob_coherent_spec.specs.Waiting.{tests_of, IsFrame, AwaitsResult, gives_back_as, gives_back_by, AllWait}
use Rattle.ob_code.specs.Code.{no_result}
use Rattle.ob_code.specs.declared.image.Image.{Image}
use Rattle.ob_code.specs.declared.instruction.Instruction.{Instruction}
use Rattle.ob_code.specs.declared.instruction.Instruction.TheVariants as instruction
use Rattle.ob_machine_steps.specs.Configurations as machine
use Rattle.ob_machine_steps.specs.Configurations.{Entered, MachineFrame, Next}
use Rattle.ob_machine_steps.specs.Entries.{Phase, next_step}
use Rattle.ob_machine_steps.specs.Entries as phase
use Rattle.ob_machine_steps.specs.Returning as returning
use Rattle.ob_machine_steps.specs.Returning.{given_by, without_progress, world_left, returns}
use Rattle.ob_machine_steps.specs.Runs.{after_step, after_steps}
use Rattle.ob_machine_steps.specs.Slots.{Slots, with_value_at}
use Rattle.ob_machine_steps.specs.Steps.{act, next_instruction, step_of}
use Rattle.ob_machine_steps.specs.Testing.{without_locks}
use Rattle.ob_emit_spec.specs.Emission.{result_slot}
use Rattle.ob_lower_correct.proofs.Standing.{shape, at_same, at_other, none_some, some_same}
use Rattle.ob_lower_correct.proofs.Changes.{Alike, alike_self, permission_alike, at_alike, same_or}
use Rattle.ob_emit_correct.specs.Law.{code_of}
use Rattle.ob_emit_correct.proofs.Placing.{KindsHold}
use Rattle.ob_emit_correct.proofs.Slots.{same_alike, same_set, self_alike, self_other, slots_set}
use Rattle.ob_emit_correct.proofs.Matching.{entered_as, SameSlots, SameFrame, slots_in, kind_given, kind_given_by, WaitsFor, AllWaitFor, RunsAs, world_after_end, world_after_ends, Returns, LeavesAs, as_running, as_leaving, Does}

-- Slots in which permissions alone differ.

-- the cell of a slot before permissions changed
pub record CellBefore (cells : SlotCells) (k : ℕ) (c : Cell) : Type 0 where
  pub cell : Cell
  pub set : cells k ≡ Some cell
  pub value : cell.value ≡ c.value
  pub kind : cell.note.kind ≡ c.note.kind

pub cell_before : (cells later : SlotCells) → ((n : ℕ) → shape (later n) ≡ shape (cells n)) → (k : ℕ) (c : Cell)
    → later k ≡ Some c
    → CellBefore cells k c
cell_before cells later alike k c e = go (cells k) refl
  where
    go : (o : Option Cell) → cells k ≡ o → CellBefore cells k c
    go None is = absurd (none_some (sym (ap shape is) ∙ sym (alike k) ∙ ap shape e))
    go (Some x) is =
        let same : (x.value, x.note.kind) ≡ (c.value, c.note.kind) =
        some_same (x.value, x.note.kind) (c.value, c.note.kind) (sym (ap shape is) ∙ sym (alike k) ∙ ap shape e) in
        record { cell = x; set = is; value = ap (λ (p : Value × Kind). p.0) same; kind = ap (λ (p : Value × Kind). p.1) same }

pub frame_alike : (f : SilicaFrame) (later : SlotCells) (m : MachineFrame) → ((n : ℕ) → shape (later n) ≡ shape (f.slots n))
    → SameFrame f m → SameFrame (record f { slots = later }) m
frame_alike f later m alike s = record {
  this = s.this ∙ sym (self_alike f.slots later alike);
  contract = s.contract;
  tx = s.tx;
  entered = s.entered;
  share_entered = s.share_entered;
}

-- The ends of lists.

end_alike : (e : Ends) (h : Here) → Alike h (end_branch e h)
end_alike plain_end h = alike_self h
end_alike (test_end p) h = permission_alike p _ h
end_alike (lock_end p n) h = record { slots = (permission_alike p _ h).slots; notes = (permission_alike p _ h).notes }
end_alike (loop_end first a body end) h = alike_self h

-- what ends with a list, in the world
pub end_world : (e : Ends) (h : Here) → (end_branch e h).world ≡ world_after_end e h.world
end_world plain_end h = refl
end_world (test_end (slot k)) h = refl
end_world (test_end (field k)) h = refl
end_world (lock_end (slot k) n) h = refl
end_world (lock_end (field k) n) h = refl
end_world (loop_end first a body end) h = refl

-- The world that a frame leaves.

same_progress : (how : How) (n : ℕ) (w v : World) → SameWorld w v
    → SameWorld (leaves_progress how n w) (without_progress (entered_as how) n v)
same_progress by_receiver n w v s = record {
  objects = s.objects;
  made = s.made;
  locked = s.locked;
  progress = ap (without_first n) s.progress;
  fuel = s.fuel;
  taken = s.taken;
  reads = s.reads;
}
same_progress by_this n w v s = s
same_progress by_new n w v s = s

same_left : (c : Configuration) (m : machine.Configuration) → SameFrame c.frame m.top
    → SameWorld c.world (without_locks m.top.tests m.world)
    → SameWorld (left_world c) (world_left m.top m.world)
same_left c m f s =
    let w = without_locks m.top.tests m.world in
    subst (λ e. SameWorld (left_world c) (without_progress e m.top.this w)) (sym f.entered)
    (subst (λ n. SameWorld (left_world c) (without_progress (entered_as c.frame.how) n w)) (sym f.this)
    (same_progress c.frame.how (self_of c.frame.slots) c.world w s))

-- The machine returns.

returns_so : (image : Image) (m : machine.Configuration) (result : Option Value) → Returns (next_instruction image m) m.top result
    → step_of image m ≡ returning.resumes m.below m.top.into result (world_left m.top m.world)
returns_so image m result r = go (next_instruction image m) refl r
  where
    go : (o : Option Instruction) → next_instruction image m ≡ o → Returns o m.top result
        → step_of image m ≡ returning.resumes m.below m.top.into result (world_left m.top m.world)
    go (Some instruction.Ret) e r =
        ap (λ o. o >>= λ i. act image i m) e ∙ ap (λ x. returning.resumes m.below m.top.into x (world_left m.top m.world)) (sym r)
    go (Some (instruction.RetValue a)) e (v, set, r) =
        ap (λ o. o >>= λ i. act image i m) e ∙ ap (λ o. o >>= λ v. returns (Some v) m) set
        ∙ ap (λ x. returning.resumes m.below m.top.into x (world_left m.top m.world)) (sym r)
    go o e r = absurd r

-- What goes to the frame that waits.

-- the slot for the result of a frame that leaves, if there is one, and what it gets
data GoesInto (program : SilicaProgram) (f : SilicaFrame) (result : Option Cell) (h : Waiting) : Type 0 where
  no_slot : h.result ≡ None → GoesInto program f result h
  one_slot : (k : ℕ) (x : Cell) → h.result ≡ Some k → result ≡ Some x → k < no_result
      → kind_given_by program f ≡ Some x.note.kind → GoesInto program f result h

-- the kind of what a frame gives back is that of what its body declares
given_kind : (table : ClassTable) (objects : List Object) (f : SilicaFrame) (parts : BodyParts) → IsFrame table objects f parts
    → kind_given table f.how f.contract f.tx ≡ option_map kind_of_resolved (gives_back_as f parts)
given_kind table objects f parts frame = go f.how
  where
    result_kind : Signature → Option Kind
    result_kind s = option_map kind_of_resolved s.result

    found : signature_of table f.contract f.tx ≡ Some parts.signature
    found = ap (option_and_then (λ c. signature_at c f.tx)) frame.own ∙ frame.signature

    go : (how : How) → kind_given table how f.contract f.tx ≡ option_map kind_of_resolved (gives_back_by how f parts)
    go by_receiver = ap (option_and_then (λ (s : Signature). option_map kind_of_resolved s.result)) found
    go by_this = ap (option_and_then (λ (s : Signature). option_map kind_of_resolved s.result)) found
    go by_new = refl

-- a frame runs or leaves, not both, and leaves with one result
runs_leaves : (terms : SilicaTerms) (outer : List Rest) (result : Option Cell) (others : List Rest)
    → runs terms outer ≡ leaves result others → ⊥
runs_leaves terms outer result others e = cc

left_same : (result other : Option Cell) (outer others : List Rest) → leaves result outer ≡ leaves other others → result ≡ other
left_same result other outer others e = cc

-- a slot of the machine is set
set_slot : (slots : Slots) (k : ℕ) (v : Value) → k < no_result → k < length slots
    → returning.with_result slots k (Some v) ≡ Some (slice_set slots k (Some v))
set_slot slots k v few within =
    ap (λ b. if b then Some slots else with_value_at slots k v) (ne_eqb k no_result (λ e. below_not k e few))
    ∙ slots_set slots k v within
  where
    below_not : (k : ℕ) → k ≡ no_result → k < no_result → ⊥
    below_not k e a = omega arith

few_slots : (k slots : ℕ) → k < slots → slots ≤ most_slots → k < no_result
unfolding most_slots
few_slots k slots a b = omega arith

module _ (program : SilicaProgram) where
  goes_into : (c : Configuration) (h : Waiting) (result : Option Cell) (called parts : BodyParts) (context : Context)
      → IsFrame program.table c.world.objects c.frame called → parts.slots ≤ most_slots
      → AwaitsResult (body_of program.table h.frame parts) context h h.result (gives_back_as c.frame called)
      → IsGivenBack (NeedsOwner program.table c.world.objects) result (gives_back_as c.frame called)
      → GoesInto program c.frame result h
  goes_into c h result called parts context frame few awaits given =
      go h.result (gives_back_as c.frame called) result refl refl refl awaits given
    where
      go : (slot : Option ℕ) (of : Option ResolvedType) (x : Option Cell) → h.result ≡ slot → gives_back_as c.frame called ≡ of
          → result ≡ x
          → AwaitsResult (body_of program.table h.frame parts) context h slot of
          → IsGivenBack (NeedsOwner program.table c.world.objects) x of → GoesInto program c.frame result h
      go None of x es eo ex a g = no_slot es
      go (Some k) None x es eo ex a g = absurd a
      go (Some k) (Some of) None es eo ex a g = absurd g
      go (Some k) (Some of) (Some x) es eo ex a g =
          one_slot k x es ex (few_slots k parts.slots a.1 few)
          (given_kind program.table c.world.objects c.frame called frame ∙ ap (option_map kind_of_resolved) eo
          ∙ ap Some (sym g.known.0))

  -- the machine goes on in the frame that waits
  resumed : (c : Configuration) (m : machine.Configuration) (result : Option Cell) (h : Waiting) (stack : List Waiting)
      (f : MachineFrame) (fs : List MachineFrame) (cells : SlotCells) (slots : Slots) → m.below ≡ f ∷ fs
      → SameFrame c.frame m.top → Returns (next_instruction (code_of program) m) m.top (value_in result)
      → SameWorld c.world (without_locks m.top.tests m.world)
      → (w : WaitsFor program (kind_given_by program c.frame) h f)
      → AllWaitFor program (kind_given_by program h.frame) stack f.into fs
      → with_result h.result result h.frame.slots ≡ cells
      → returning.with_result f.slots m.top.into (value_in result) ≡ Some slots
      → self_of cells ≡ self_of h.frame.slots
      → SameSlots w.goes_on.has.body.slots (slots_in program h.frame.contract h.frame.tx w.goes_on.has) cells slots
      → KindsHold w.goes_on.holdings cells → Does program m (resumes h result stack c)
  resumed c m result h stack f fs cells slots eb frame ret world w below ec es self same kinds =
      let n : machine.Configuration = record { top = record f { slots = slots }; below = fs; world = world_left m.top m.world } in
      let image = code_of program in
      let stepped : next_step image (phase.running m) ≡ Some (machine.goes n) =
      returns_so image m (value_in result) ret
      ∙ ap (λ b. returning.resumes b m.top.into (value_in result) (world_left m.top m.world)) eb
      ∙ ap (λ o. o >>= λ slots. Some
      (machine.goes (record { top = record f { slots = slots }; below = fs; world = world_left m.top m.world }))) es in
      let g = w.goes_on in
      let d : Configuration = record {
        frame = record h.frame { slots = cells };
        control = runs h.terms h.outer;
        stack = stack;
        notes = c.notes;
        world = left_world c;
      } in
      let matched : RunsAs program d n = record {
        terms = h.terms;
        outer = h.outer;
        control = refl;
        goes_on = record {
          frame = record {
            this = g.frame.this ∙ sym self;
            contract = g.frame.contract;
            tx = g.frame.tx;
            entered = g.frame.entered;
            share_entered = g.frame.share_entered;
          };
          has = g.has;
          slots = same;
          holdings = g.holdings;
          stands = g.stands;
        };
        kinds = kinds;
        below = below;
        world = same_left c m frame world;
      } in
      subst (λ s. Does program m (goes (record {
        frame = record h.frame { slots = s };
        control = runs h.terms h.outer;
        stack = stack;
        notes = c.notes;
        world = left_world c;
      }))) (sym ec)
      (record { by = (1, n, ap (λ x. after_step x (after_steps image 0)) stepped, as_running matched) })

  -- no slot waits for what is given back
  resumed_none : (c : Configuration) (m : machine.Configuration) (result : Option Cell) (h : Waiting) (stack : List Waiting)
      (f : MachineFrame) (fs : List MachineFrame) → m.below ≡ f ∷ fs
      → SameFrame c.frame m.top → Returns (next_instruction (code_of program) m) m.top (value_in result)
      → SameWorld c.world (without_locks m.top.tests m.world) → m.top.into ≡ result_slot h.result
      → WaitsFor program (kind_given_by program c.frame) h f → AllWaitFor program (kind_given_by program h.frame) stack f.into fs
      → h.result ≡ None → Does program m (resumes h result stack c)
  resumed_none c m result h stack f fs eb frame ret world ei w below none =
      resumed c m result h stack f fs h.frame.slots f.slots eb frame ret world w below
      (ap (λ r. with_result r result h.frame.slots) none)
      (ap (λ i. returning.with_result f.slots i (value_in result)) (ei ∙ ap result_slot none) ∙ unset (value_in result))
      refl w.goes_on.slots
      (λ k x c e is. w.kinds k x c (λ r. none_some (sym none ∙ r)) e is)
    where
      unset : (v : Option Value) → returning.with_result f.slots no_result v ≡ Some f.slots
      unset None = refl
      unset (Some v) = refl

  -- a slot waits for it
  resumed_one : (c : Configuration) (m : machine.Configuration) (result : Option Cell) (h : Waiting) (stack : List Waiting)
      (f : MachineFrame) (fs : List MachineFrame) → m.below ≡ f ∷ fs
      → SameFrame c.frame m.top → Returns (next_instruction (code_of program) m) m.top (value_in result)
      → SameWorld c.world (without_locks m.top.tests m.world) → m.top.into ≡ result_slot h.result
      → WaitsFor program (kind_given_by program c.frame) h f → AllWaitFor program (kind_given_by program h.frame) stack f.into fs
      → (k : ℕ) (x : Cell) → h.result ≡ Some k → result ≡ Some x → k < no_result
      → kind_given_by program c.frame ≡ Some x.note.kind → Does program m (resumes h result stack c)
  resumed_one c m result h stack f fs eb frame ret world ei w below k x es ex few kind =
      resumed c m result h stack f fs (at h.frame.slots k (Some x))
      (slice_set f.slots k (Some x.value)) eb frame ret world w below
      (ap (λ r. with_result r result h.frame.slots) es ∙ ap (at h.frame.slots k) ex)
      (ap (λ i. returning.with_result f.slots i (value_in result)) (ei ∙ ap result_slot es)
      ∙ ap (λ r. returning.with_result f.slots k (value_in r)) ex ∙ set_slot f.slots k x.value few within)
      (self_other h.frame.slots k (Some x) (w.into k es).0)
      (same_set k x (w.into k es).1 (omega arith) w.goes_on.slots)
      (λ j y d e is. kinds_set j y d e is (same_or j k))
    where
      within : k < length f.slots
      within = let a = w.goes_on.slots.many in let b = (w.into k es).1 in omega arith

      kinds_set : (j : ℕ) (y : Kind) (d : Cell) → (w.goes_on.holdings j).kind ≡ Some y → at h.frame.slots k (Some x) j ≡ Some d
          → (j ≡ k) ⊎ (j ≢ k) → d.note.kind ≡ y
      kinds_set j y d e is (inl same) =
          let here : x ≡ d =
          some_same x d (sym (at_same h.frame.slots k (Some x)) ∙ ap (at h.frame.slots k (Some x)) (sym same) ∙ is) in
          let want : kind_given_by program c.frame ≡ Some y = w.result j y (es ∙ ap Some (sym same)) e in
          ap (λ (z : Cell). z.note.kind) (sym here) ∙ some_same x.note.kind y (sym kind ∙ want)
      kinds_set j y d e is (inr other) =
          w.kinds j y d (λ r. other (some_same j k (sym r ∙ es))) e (sym (at_other h.frame.slots k (Some x) j other) ∙ is)

  -- all loans have gone back
  resumes_does : (c : Configuration) (m : machine.Configuration) (result : Option Cell) (h : Waiting) (stack : List Waiting)
      (f : MachineFrame) (fs : List MachineFrame) → m.below ≡ f ∷ fs
      → SameFrame c.frame m.top → Returns (next_instruction (code_of program) m) m.top (value_in result)
      → SameWorld c.world (without_locks m.top.tests m.world) → m.top.into ≡ result_slot h.result
      → WaitsFor program (kind_given_by program c.frame) h f → AllWaitFor program (kind_given_by program h.frame) stack f.into fs
      → GoesInto program c.frame result h → Does program m (resumes h result stack c)
  resumes_does c m result h stack f fs eb frame ret world ei w below (no_slot none) =
      resumed_none c m result h stack f fs eb frame ret world ei w below none
  resumes_does c m result h stack f fs eb frame ret world ei w below (one_slot k x es ex few kind) =
      resumed_one c m result h stack f fs eb frame ret world ei w below k x es ex few kind

  -- Loans.

  -- the frame that waits, once a place of it has other permissions
  waits_alike : (given : Option Kind) (h : Waiting) (later : SlotCells) (loans : List Loan) (f : MachineFrame)
      → ((n : ℕ) → shape (later n) ≡ shape (h.frame.slots n)) → WaitsFor program given h f
      → WaitsFor program given (record h { frame = record h.frame { slots = later }; loans = loans }) f
  waits_alike given h later loans f alike w = record {
    goes_on = record {
      frame = frame_alike h.frame later f alike w.goes_on.frame;
      has = w.goes_on.has;
      slots = same_alike alike w.goes_on.slots;
      holdings = w.goes_on.holdings;
      stands = w.goes_on.stands;
    };
    kinds = λ k x c r e is. let b = cell_before h.frame.slots later alike k c is in sym b.kind ∙ w.kinds k x b.cell r e b.set;
    result = w.result;
    into = w.into;
  }

  without_alike : (k : ℕ) (cells : SlotCells) (n : ℕ) → shape (without_owner k cells n) ≡ shape (cells n)
  without_alike k cells n = at_alike shape cells k (option_map (noted unowned) (cells k)) (same (cells k)) n
    where
      same : (c : Option Cell) → shape (option_map (noted unowned) c) ≡ shape c
      same None = refl
      same (Some x) = refl

  unlends_does : (c : Configuration) (m : machine.Configuration) (result : Option Cell) (h : Waiting) (loan : Loan)
      (loans : List Loan)
      (stack : List Waiting) (f : MachineFrame) (fs : List MachineFrame) → m.below ≡ f ∷ fs
      → SameFrame c.frame m.top → Returns (next_instruction (code_of program) m) m.top (value_in result)
      → SameWorld c.world (without_locks m.top.tests m.world) → m.top.into ≡ result_slot h.result
      → WaitsFor program (kind_given_by program c.frame) h f → AllWaitFor program (kind_given_by program h.frame) stack f.into fs
      → Does program m (unlends result h loan loans stack c)
  unlends_does c m result h loan loans stack f fs eb frame ret world ei w below =
      let alike = permission_alike loan.place loan.exit (record { slots = h.frame.slots; notes = c.notes; world = c.world }) in
      let waits = waits_alike (kind_given_by program c.frame) h (returned_to h loan c).slots loans f alike.slots w in
      record {
        by = (
          0,
          m,
          refl,
          as_leaving (record {
            result = result;
            outer = [];
            control = refl;
            frame = frame_alike c.frame (without_owner loan.param c.frame.slots) m.top
                (without_alike loan.param c.frame.slots) frame;
            returns = ret;
            below = subst (AllWaitFor program (kind_given_by program c.frame)
                (record h { frame = record h.frame { slots = (returned_to h loan c).slots }; loans = loans } ∷ stack) m.top.into)
                (sym eb)
                (ei, waits, below);
            world = world;
          }),
        );
      }

  -- Frames that wait.

  goes_back_does : (c : Configuration) (m : machine.Configuration) (result : Option Cell) (stack : List Waiting)
      (frames : List MachineFrame)
      → m.below ≡ frames → SameFrame c.frame m.top → Returns (next_instruction (code_of program) m) m.top (value_in result)
      → SameWorld c.world (without_locks m.top.tests m.world)
      → AllWaitFor program (kind_given_by program c.frame) stack m.top.into frames
      → ((h : Waiting) (hs : List Waiting) → stack ≡ h ∷ hs → GoesInto program c.frame result h)
      → Does program m (goes_back stack result c)
  goes_back_does c m result [] [] eb frame ret world below into =
      let image = code_of program in
      let v = world_left m.top m.world in
      let stopped : next_step image (phase.running m) ≡ Some (machine.stops (machine.ended (value_in result) v)) =
      returns_so image m (value_in result) ret ∙ ap (λ b. returning.resumes b m.top.into (value_in result) v) eb in
      record { by = (1, v, ap (λ x. after_step x (after_steps image 0)) stopped, same_left c m frame world) }
  goes_back_does c m result [] (f ∷ fs) eb frame ret world below into = absurd below
  goes_back_does c m result (h ∷ hs) [] eb frame ret world below into = absurd below
  goes_back_does c m result (h ∷ hs) (f ∷ fs) eb frame ret world (ei, waits, below) into = by_loans h.loans
    where
      by_loans : (loans : List Loan) → Does program m (gives_back loans result h hs c)
      by_loans [] = resumes_does c m result h hs f fs eb frame ret world ei waits below (into h hs refl)
      by_loans (loan ∷ loans) = unlends_does c m result h loan loans hs f fs eb frame ret world ei waits below

  -- each step of a frame that leaves
  leave_step_does : (c : Configuration) (m : machine.Configuration) (result : Option Cell) (outer : List Rest)
      → SameFrame c.frame m.top → Returns (next_instruction (code_of program) m) m.top (value_in result)
      → SameWorld (world_after_ends outer c.world) (without_locks m.top.tests m.world)
      → AllWaitFor program (kind_given_by program c.frame) c.stack m.top.into m.below
      → ((h : Waiting) (hs : List Waiting) → c.stack ≡ h ∷ hs → GoesInto program c.frame result h)
      → Does program m (leave_step result outer c)
  leave_step_does c m result [] frame ret world below into =
      goes_back_does c m result c.stack m.below refl frame ret world below into
  leave_step_does c m result (r ∷ outer) frame ret world below into = record {
    by = (
      0,
      m,
      refl,
      as_leaving (record {
        result = result;
        outer = outer;
        control = refl;
        frame = frame_alike c.frame (end_branch r.ends (here c)).slots m.top (end_alike r.ends (here c)).slots frame;
        returns = ret;
        below = below;
        world = subst (λ w. SameWorld (world_after_ends outer w) (without_locks m.top.tests m.world))
            (sym (end_world r.ends (here c))) world;
      }),
    );
  }

  -- What coherence says of what is given back.

  module _ (entry : Option ℕ) (beginning : Beginning) where
    waiting_into : (c : Configuration) (result : Option Cell) (whole : Holds program.table entry beginning c)
        → IsGivenBack (NeedsOwner program.table c.world.objects) result (gives_back_as c.frame whole.parts)
        → (h : Waiting) (hs : List Waiting) → c.stack ≡ h ∷ hs → GoesInto program c.frame result h
    waiting_into c result whole given h hs e =
        let w =
        (subst (AllWait program.table (NeedsOwner program.table c.world.objects) c c.frame whole.parts
        (self_of c.frame.slots ∷ [])
        (λ n. tests_of n c.frame.slots (around c.control))) e whole.waiting).0 in
        goes_into c h result whole.parts w.parts w.context whole.frame w.frame.few w.result given

    -- what is given back by a configuration that leaves with a result
    given_into : (c : Configuration) (result : Option Cell) (outer : List Rest) → IsCoherent program.table entry beginning c
        → c.control ≡ leaves result outer → (h : Waiting) (hs : List Waiting) → c.stack ≡ h ∷ hs
        → GoesInto program c.frame result h
    given_into c result outer (running r) e = absurd (runs_leaves r.terms r.outer result outer (sym r.control ∙ e))
    given_into c result outer (leaving l) e =
        waiting_into c result l.whole
        (subst (λ x. IsGivenBack (NeedsOwner program.table c.world.objects) x (gives_back_as c.frame l.whole.parts))
        (left_same l.result result l.outer outer (sym l.control ∙ e)) l.given)
    given_into c result outer (returning r) e =
        waiting_into c result r.whole
        (subst (λ x. IsGivenBack (NeedsOwner program.table c.world.objects) x (gives_back_as c.frame r.whole.parts))
        (left_same r.result result [] outer (sym r.control ∙ e)) r.given)

    pub leave_does : (c : Configuration) (m : machine.Configuration) → IsCoherent program.table entry beginning c
        → LeavesAs program c m
        → Does program m (step program c)
    leave_does c m coherent l =
        subst (λ k. Does program m (control_step program k c)) (sym l.control)
        (leave_step_does c m l.result l.outer l.frame l.returns l.world l.below
        (given_into c l.result l.outer coherent l.control))
