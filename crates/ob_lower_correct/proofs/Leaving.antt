-- How a call comes back: what was lent goes back, and the caller goes on.
use Rattle.std.proofs.Common.{◌≡◌, ◌≢◌, ℕ, ◌≤◌, List, [], ◌∷◌, Option, Some, None, refl, sym, ap, ◌∙◌, subst, arith, ◌⊎◌, le_of_eq}
use Rattle.std.specs.Prelude.{option_map, IsSome}
use Rattle.ob_perm.specs.Permissions.{unowned}
use Rattle.ob_table.specs.Tables.{contract_at}
use Rattle.ob_heap_spec.specs.Values.{Value}
use Rattle.ob_heap_spec.specs.Contents.{object_at}
use Rattle.ob_heap_spec.specs.Worlds.{World, RunOutcome, gives, aborts, wrong, ◌>>=◌}
use Rattle.ob_source_meaning.specs.Frames.{Calls}
use Rattle.ob_silica.specs.Terms.{SilicaTerms}
use Rattle.ob_silica_steps.specs.Cells.{Cell, noted, value_in}
use Rattle.ob_silica_steps.specs.Configurations.{SilicaProgram, SlotCells, Notes, How, by_receiver, by_this, by_new, Rest, Loan, Waiting, runs, leaves, Configuration, goes}
use Rattle.ob_silica_steps.specs.Here.{Here, self_of}
use Rattle.ob_silica_steps.specs.Returning.{leaves_progress, with_result, without_owner, returned_to}
use Rattle.ob_lower_correct.proofs.Slots.{Used}
use Rattle.ob_lower_correct.proofs.Runs.{Leads, Ends, leads_on, one_step}
use Rattle.ob_lower_correct.proofs.Standing.{Setting, config, shape, Later, Stands, later_on, at_same, at_other, none_some, some_same, self_is, stands_on}
use Rattle.ob_lower_correct.proofs.Changes.{at_alike, permission_alike, noted_quiet}
use Rattle.ob_lower_correct.proofs.Filling.{self_value}
use Rattle.ob_lower_correct.proofs.Branches.{quiet_same}
use Rattle.ob_lower_correct.proofs.Calling.{Called, CallsRun}
use Rattle.ob_lower_correct.proofs.Flows.{Left}

-- a setting with other frames waiting
abbrev pub with_stack : Setting → List Waiting → Setting
with_stack s stack = record { this = s.this; here = s.here; own = s.own; tx = s.tx; signature = s.signature; how = s.how; share_entered = s.share_entered; stack = stack }

-- a frame that waits, whose slots and loans are these
abbrev pub with_slots : Waiting → SlotCells → List Loan → Waiting
with_slots w slots loans = record {
  frame = record { slots = slots; contract = w.frame.contract; tx = w.frame.tx; how = w.frame.how; share_entered = w.frame.share_entered };
  terms = w.terms;
  outer = w.outer;
  result = w.result;
  loans = loans;
}

-- the frame that waits goes on
pub record Resumed (program : SilicaProgram) (cs : Setting) (w : Waiting) (stack : List Waiting) (slots : SlotCells) (t : Here) (cell : Option Cell) (c : Configuration) : Type 0 where
  pub after : SlotCells
  pub notes : Notes
  pub same : (n : ℕ) → shape (after n) ≡ shape (slots n)
  pub kinds : (n k : ℕ) → (notes.fields n k).kind ≡ (t.notes.fields n k).kind
  pub leads : Leads program c (goes (record {
    frame = record { slots = with_result w.result cell after; contract = w.frame.contract; tx = w.frame.tx; how = w.frame.how; share_entered = w.frame.share_entered };
    control = runs w.terms w.outer;
    stack = stack;
    notes = notes;
    world = leaves_progress cs.how (self_of t.slots) t.world;
  }))

no_owner : (c : Option Cell) → shape (option_map (noted unowned) c) ≡ shape c
no_owner None = refl
no_owner (Some x) = refl

pub loans_back : (program : SilicaProgram) (cs : Setting) (w : Waiting) (stack : List Waiting) (cell : Option Cell) (loans : List Loan) (slots : SlotCells) (t : Here)
    → Resumed program cs w stack slots t cell (config (with_stack cs (with_slots w slots loans ∷ stack)) t (leaves cell []))
loans_back program cs w stack cell [] slots t = record { after = slots; notes = t.notes; same = λ n. refl; kinds = λ n k. refl; leads = one_step program refl }
loans_back program cs w stack cell (loan ∷ loans) slots t =
    let waiting = with_slots w slots (loan ∷ loans) in
    let c = config (with_stack cs (waiting ∷ stack)) t (leaves cell []) in
    let back = returned_to waiting loan c in
    let t2 : Here = record { slots = without_owner loan.param t.slots; notes = back.notes; world = t.world } in
    let alike = permission_alike loan.place loan.exit (record { slots = slots; notes = t.notes; world = t.world }) in
    let rest = loans_back program cs w stack cell loans back.slots t2 in
    let self : self_of t2.slots ≡ self_of t.slots = self_value t.slots t2.slots (at_alike shape t.slots loan.param (option_map (noted unowned) (t.slots loan.param)) (no_owner (t.slots loan.param)) 0) in
    record {
      after = rest.after;
      notes = rest.notes;
      same = λ n. rest.same n ∙ alike.slots n;
      kinds = λ n k. rest.kinds n k ∙ alike.notes n k;
      leads = leads_on program (one_step program refl) (subst (λ n. Leads program (config (with_stack cs (with_slots w back.slots loans ∷ stack)) t2 (leaves cell [])) (goes (record {
        frame = record { slots = with_result w.result cell rest.after; contract = w.frame.contract; tx = w.frame.tx; how = w.frame.how; share_entered = w.frame.share_entered };
        control = runs w.terms w.outer;
        stack = stack;
        notes = rest.notes;
        world = leaves_progress cs.how n t.world;
      }))) self rest.leads);
    }

pub leave_objects : (how : How) (n : ℕ) (w : World) → ((leaves_progress how n w).objects ≡ w.objects) × ((leaves_progress how n w).fuel ≡ w.fuel)
leave_objects by_receiver n w = (refl, refl)
leave_objects by_this n w = (refl, refl)
leave_objects by_new n w = (refl, refl)

pub result_others : (k : Option ℕ) (cell : Option Cell) (slots : SlotCells) (n : ℕ) → k ≢ Some n → shape (with_result k cell slots n) ≡ shape (slots n)
result_others None cell slots n d = refl
result_others (Some j) cell slots n d = ap shape (at_other slots j cell n (λ e. d (ap Some (sym e))))

pub result_there : (k : Option ℕ) (cell : Option Cell) (slots : SlotCells) (n : ℕ) → k ≡ Some n → with_result k cell slots n ≡ cell
result_there None cell slots n e = absurd (none_some e)
result_there (Some j) cell slots n e = ap (with_result (Some j) cell slots) (sym (some_same j n e)) ∙ at_same slots j cell

module _ (program : SilicaProgram) (most less : ℕ) (calls : Calls) (called : CallsRun program less calls) (cs : Setting) (found : contract_at program.table cs.here ≡ Some cs.own)
    (start : SlotCells) (finish : Option Value → World → RunOutcome (Option Value)) (fixed : List ℕ) (zero_fixed : Used 0 fixed) where
  -- a call has come back, from what its body came to
  pub called_from : (must : Type 0) (s : Setting) (h b : Here) (rest : SilicaTerms) (outer : List Rest) (k : Option ℕ) (loans : List Loan) (h0 : Here) (c : Configuration) (o : RunOutcome (Option Value))
      → less ≤ most → ((n : ℕ) → shape (b.slots n) ≡ shape (h.slots n)) → Stands program.table less cs h0 → Later h.world h0.world → (must → IsSome cs.signature.result ⊎ (cs.how ≡ by_new))
      → cs.stack ≡ record { frame = record { slots = b.slots; contract = s.here; tx = s.tx; how = s.how; share_entered = s.share_entered }; terms = rest; outer = outer; result = k; loans = loans } ∷ s.stack
      → Ends program (Left program less calls called cs found start finish fixed zero_fixed [] h0) c o
      → Ends program (Called program most must k s h (runs rest outer)) c (o >>= (λ r w. gives r (leaves_progress cs.how cs.this w)))
  called_from must s h b rest outer k loans h0 c (gives r w) le same st later answers es l =
      let t : Here = record { slots = l.by.slots; notes = l.by.notes; world = w } in
      let waiting : Waiting = record { frame = record { slots = b.slots; contract = s.here; tx = s.tx; how = s.how; share_entered = s.share_entered }; terms = rest; outer = outer; result = k; loans = loans } in
      let back = loans_back program cs waiting s.stack l.by.cell loans b.slots t in
      let st1 = stands_on program.table less zero_fixed st l.by.comes in
      let self : self_of t.slots ≡ cs.this = self_is program.table less st1 in
      let objects = leave_objects cs.how cs.this w in
      record {
        by = record {
          slots = with_result k l.by.cell back.after;
          notes = back.notes;
          kept = λ n d. result_others k l.by.cell back.after n d ∙ back.same n ∙ same n;
          value = λ n e. ap value_in (result_there k l.by.cell back.after n e) ∙ l.by.value;
          later = later_on (later_on later l.by.comes.later) (record { by = λ n o eo. (o, ap (λ xs. object_at xs n) objects.0 ∙ eo, refl); fuel = le_of_eq objects.1 });
          noted = noted_quiet {w = w} {v = leaves_progress cs.how cs.this w} l.by.comes.noted (quiet_same w (leaves_progress cs.how cs.this w) objects.0 objects.1) back.kinds;
          fuel = subst (λ n. n ≤ most) (sym objects.1) (at_most l.by.comes.fuel le);
          answers = λ m. l.by.answers (answers m);
          leads = leads_on program (subst (λ stack. Leads program c (goes (config (with_stack cs stack) t (leaves l.by.cell [])))) es l.by.leads)
              (subst (λ n. Leads program (config (with_stack cs (with_slots waiting b.slots loans ∷ s.stack)) t (leaves l.by.cell [])) (goes (config s (record { slots = with_result k l.by.cell back.after; notes = back.notes; world = leaves_progress cs.how n w }) (runs rest outer)))) self back.leads);
        };
      }
    where
      at_most : {a : ℕ} → a ≤ less → less ≤ most → a ≤ most
      at_most x y = omega (arith, x, y)
  called_from must s h b rest outer k loans h0 c (aborts cause x) le same st later answers es l = record { by = l.by }
  called_from must s h b rest outer k loans h0 c wrong le same st later answers es l = record { by = l.by }
