-- How many steps a run can still take: each step leaves fewer, or a unit is taken.
use Rattle.std.proofs.Common.{◌≡◌, ℕ, zero, suc, ◌+◌, ◌<◌, ◌≤◌, Bool, true, false, List, [], ◌∷◌, ◌++◌, length, Option, Some, None, refl, sym, ap, ◌∙◌, subst, arith, length-append}
use Rattle.std.specs.Prelude.{find, option_map, cond, nat_le, if◌then◌else◌, slice_get, ◌||◌, ⊤}
use Rattle.std.specs.Option.{option_map_or}
use Rattle.ob_base.specs.Limits.{most_objects}
use Rattle.ob_base.specs.declared.fault.Span.{Span}
use Rattle.ob_base.specs.declared.id.ContractId.{ContractId}
use Rattle.ob_base.specs.declared.id.StateId.{StateId}
use Rattle.ob_base.specs.declared.id.TxId.{TxId}
use Rattle.ob_perm.specs.Masks.{permission_of}
use Rattle.ob_perm.specs.Permissions.{Permission, owned, shared, unowned, owns, is_shared, kept}
use Rattle.ob_perm.specs.States.{only}
use Rattle.ob_table.specs.Tables.{ClassTable, contract_at, signature_at, signature_of}
use Rattle.ob_table.specs.declared.contract.Contract.{Contract}
use Rattle.ob_table.specs.declared.contract.Field.{Field}
use Rattle.ob_table.specs.declared.contract.ResolvedType.{ResolvedType}
use Rattle.ob_table.specs.declared.contract.ResolvedType.TheVariants.{Int, Bool as BoolKind, Text, Reference}
use Rattle.ob_table.specs.declared.contract.Signature.{Signature}
use Rattle.ob_table.specs.declared.seen.Kind.TheVariants.{Reference as ReferenceKind}
use Rattle.ob_table_spec.specs.WellFormed.{kind_of_resolved, constructor_at}
use Rattle.ob_heap_spec.specs.Contents.{object_at}
use Rattle.ob_heap_spec.specs.Dispatch.{answering}
use Rattle.ob_heap_spec.specs.GoingWrong.{is_within, is_finished}
use Rattle.ob_heap_spec.specs.Marks.{has_mark, mark_shared, mark_disowned, comes_into, is_locked, is_in_progress, lock, enter}
use Rattle.ob_heap_spec.specs.Objects.{Object, has_field, has_all_values, with_field}
use Rattle.ob_heap_spec.specs.Operations.{Operated, operated, overflows, other_kinds}
use Rattle.ob_heap_spec.specs.Values.{Value, int_value, bool_value, text_value, reference, referred, Numbered, nothing, put}
use Rattle.ob_heap_spec.specs.Worlds.{World, by_full, is_made, object_item, next_item, with_read, with_unit_taken, read_object, set_object, edit_object}
use Rattle.ob_silica.specs.Terms.{SilicaForm, unit_form, const_form, op_form, copy_form, move_form, new_form, call_form, call_this_form, change_form, test_form, if_form, loop_form, assert_form, disown_form, drop_form, return_form, revert_form, bad_row_form, SilicaTerms, no_terms, and_term, SilicaBody}
use Rattle.ob_silica.specs.declared.place.Given.{Given}
use Rattle.ob_silica.specs.declared.place.Operand.{Operand}
use Rattle.ob_silica_formed.specs.Points.{BeginsWithUnit}
use Rattle.ob_silica_places.specs.Converting.{converted}
use Rattle.ob_silica_places.specs.Known.{Known, permission_of_type, kind_of_operator}
use Rattle.ob_silica_places.specs.Parameters.{Parameter, parameters, all_parameters}
use Rattle.ob_silica_places.specs.Places.{Location, slot, field, located, all_located, location_of, this, same_location}
use Rattle.ob_silica_steps.specs.Binding.{bound_cell, loan_of, Bound, bind_one, bind_all, unbound, if_slot, slot_loans, without_field_loans}
use Rattle.ob_silica_steps.specs.Calling.{entered_with, constructor_id, call_step, call_this_step, new_step}
use Rattle.ob_silica_steps.specs.Cells.{Cell, cell, plain_cell, noted, constant_cell}
use Rattle.ob_silica_steps.specs.Changing.{all_there, fill_all, changed_object, changed_here, is_locked_out, change_with, change_step}
use Rattle.ob_silica_steps.specs.Configurations.{SilicaProgram, is_terms_of, Ends, plain_end, test_end, lock_end, loop_end, Rest, Loan, Waiting, Control, runs, leaves, How, by_receiver, by_this, by_new, SilicaFrame, Configuration, NextStep, goes, ended, aborted, abort_step, stuck}
use Rattle.ob_silica_steps.specs.Entering.{Entered, are_within, enters, entered_on, entered_new, calls_object, calls_this, makes_object}
use Rattle.ob_silica_steps.specs.Getting.{got_from}
use Rattle.ob_silica_steps.specs.Here.{Here, here, goes_to, self_of, self, read, counted, if_there, with_fuel_left, set_slot, set_permission, set_field, hand}
use Rattle.ob_silica_steps.specs.Returning.{exits_are_within, gives_this, gives_none, gives_result, return_step, gives_back, goes_back, leaves_progress}
use Rattle.ob_silica_steps.specs.Steps.{act, end_step, control_step, step, then_steps, steps}
use Rattle.ob_silica_steps.specs.Straight.{operate, with_operated, with_truth, with_text, available_field, copy_to, move_to, disowns_object}
use Rattle.ob_silica_steps.specs.Testing.{StateTest, narrowed, into_branch, tells, tests_from, test_shared_this, test_this_as, test_shared, test_object, is_in, reads_object, test_step, end_branch}
use Rattle.ob_silica_laws.specs.Laws.{TurnTakesUnit, NextTurnTakesUnit, IsOver, RunsEnd}
use Rattle.ob_silica_laws.proofs.Keeping.{Leads}
use Rattle.ob_silica_laws.proofs.StepsKeep.{step_keeps}

-- The measure.

abbrev mutual
  -- how many steps a form takes at most in its own frame, and one more for each loan that it gives; of a Loop only the one
  -- with which a turn begins
  size_of_form : SilicaForm → ℕ
  size_of_form (new_form k contract args) = 3 + length (all_located args)
  size_of_form (call_form k receiver contract tx args) = 3 + length (all_located args)
  size_of_form (call_this_form k tx args) = 3 + length (all_located args)
  size_of_form (test_form place state branch other join) = 2 + (size_of branch + size_of other)
  size_of_form (if_form a branch other join) = 2 + (size_of branch + size_of other)
  size_of_form (loop_form first a body end) = 1
  size_of_form unit_form = 1
  size_of_form (const_form k value) = 1
  size_of_form (op_form k operator a b line) = 1
  size_of_form (copy_form to from) = 1
  size_of_form (move_form to from contract) = 1
  size_of_form (change_form state given) = 1
  size_of_form (assert_form place perm) = 1
  size_of_form (disown_form place) = 1
  size_of_form (drop_form k) = 1
  size_of_form (return_form place) = 1
  size_of_form (revert_form text) = 1
  size_of_form bad_row_form = 1

  -- the same of terms
  size_of : SilicaTerms → ℕ
  size_of no_terms = 0
  size_of (and_term form span rest) = size_of_form form + size_of rest

-- how many steps come with the end of a list, where this many come after it: after the first part of a Loop its body, and
-- the Loop again
abbrev size_at_end : Ends → ℕ → ℕ
size_at_end (loop_end first a body end) n = 2 + (size_of body + n)
size_at_end ends n = n

-- the same of lists around one another: each takes a step for its end
abbrev size_of_lists : List Rest → ℕ
size_of_lists [] = 0
size_of_lists (r ∷ outer) = suc (size_at_end r.ends (size_of r.terms + size_of_lists outer))

-- the same of what a frame is about to do
abbrev size_of_control : Control → ℕ
size_of_control (runs terms outer) = size_of terms + size_of_lists outer
size_of_control (leaves result outer) = size_of_lists outer

-- the same of frames that wait: each loan takes a step, and one goes on
abbrev size_of_stack : List Waiting → ℕ
size_of_stack [] = 0
size_of_stack (h ∷ stack) = suc ((size_of h.terms + size_of_lists h.outer) + length h.loans) + size_of_stack stack

-- the same of all bodies together
abbrev size_of_bodies : List SilicaBody → ℕ
size_of_bodies [] = 0
size_of_bodies (b ∷ bodies) = size_of b.terms + size_of_bodies bodies

-- how much so many units can bring: each of them may enter one more body
abbrev size_of_units : ℕ → ℕ → ℕ
size_of_units most zero = 0
size_of_units most (suc n) = most + size_of_units most n

-- how many steps a configuration has still before it, at most
abbrev steps_left : SilicaProgram → Configuration → ℕ
steps_left program c =
    (size_of_control c.control + size_of_stack c.stack) + size_of_units (size_of_bodies program.bodies) c.world.fuel

-- What stays of the units.

fuel_if : (b : Bool) (u v : World) (n : ℕ) → u.fuel ≡ n → v.fuel ≡ n → (if b then u else v).fuel ≡ n
fuel_if true u v n e f = e
fuel_if false u v n e f = f

read_fuel : (w : World) (n : ℕ) → (read_object w n).fuel ≡ w.fuel
read_fuel w n = fuel_if (is_made w n) w (with_read w (object_item n)) w.fuel refl refl

edited_fuel : (w : World) (n : ℕ) (f : Object → Object) (o : Option Object) → (option_map_or (λ x. set_object w n (f x)) o w).fuel ≡ w.fuel
edited_fuel w n f None = refl
edited_fuel w n f (Some o) = refl

edit_fuel : (f : Object → Object) (n : ℕ) (w : World) → (edit_object f n w).fuel ≡ w.fuel
edit_fuel f n w = edited_fuel w n f (object_at w.objects n)

marked_fuel : (mark : Object → Bool) (f : Object → Object) (n : ℕ) (w : World)
    → (if has_mark mark (read_object w n) n then read_object w n else edit_object f n (read_object w n)).fuel ≡ w.fuel
marked_fuel mark f n w =
    fuel_if (has_mark mark (read_object w n) n) (read_object w n) (edit_object f n (read_object w n)) w.fuel (read_fuel w n)
    (edit_fuel f n (read_object w n) ∙ read_fuel w n)

into_fuel : (of : ResolvedType) (v : Value) (w : World) → (comes_into of v w).fuel ≡ w.fuel
into_fuel (Reference id p) (reference n) w =
    fuel_if (is_shared (permission_of p)) (mark_shared n w) w w.fuel
    (marked_fuel (λ o. o.shared) (λ o. record o { shared = true }) n w) refl
into_fuel (Reference id p) (int_value z) w = refl
into_fuel (Reference id p) (bool_value b) w = refl
into_fuel (Reference id p) (text_value bytes) w = refl
into_fuel Int v w = refl
into_fuel BoolKind v w = refl
into_fuel Text v w = refl

permission_fuel : (place : Location) (p : Permission) (h : Here) → (set_permission place p h).world.fuel ≡ h.world.fuel
permission_fuel (slot k) p h = refl
permission_fuel (field k) p h = refl

hand_fuel : (of : ResolvedType) (place : Location) (x : Cell) (h : Here) → (hand of place x h).world.fuel ≡ h.world.fuel
hand_fuel of place x h = permission_fuel place _ (record h { world = comes_into of x.value h.world }) ∙ into_fuel of x.value h.world

end_fuel : (ends : Ends) (h : Here) → (end_branch ends h).world.fuel ≡ h.world.fuel
end_fuel plain_end h = refl
end_fuel (test_end place) h = permission_fuel place shared h
end_fuel (lock_end place n) h = permission_fuel place shared h
end_fuel (loop_end first x body end) h = refl

left_fuel : (how : How) (n : ℕ) (w : World) → (leaves_progress how n w).fuel ≡ w.fuel
left_fuel by_receiver n w = refl
left_fuel by_this n w = refl
left_fuel by_new n w = refl

-- Sums.

straight_less : (k r o w e : ℕ) → ((r + o) + w) + e < (((suc k + r) + o) + w) + e
straight_less k r o w e = omega arith

return_less : (k r o w e : ℕ) → (o + w) + e < (((suc k + r) + o) + w) + e
return_less k r o w e = omega arith

first_less : (a b r o w e x : ℕ) → x ≡ r + o → ((a + suc x) + w) + e < ((((2 + (a + b)) + r) + o) + w) + e
first_less a b r o w e x h = omega (arith, h)

second_less : (a b r o w e x : ℕ) → x ≡ r + o → ((b + suc x) + w) + e < ((((2 + (a + b)) + r) + o) + w) + e
second_less a b r o w e x h = omega (arith, h)

turn_less : (b r o w e : ℕ) → ((b + suc ((1 + r) + o)) + w) + e < ((0 + suc (2 + (b + (r + o)))) + w) + e
turn_less b r o w e = omega arith

left_less : (b r o w e : ℕ) → ((r + o) + w) + e < ((0 + suc (2 + (b + (r + o)))) + w) + e
left_less b r o w e = omega arith

unit_less : (k r o w m e : ℕ) → ((r + o) + w) + e < (((suc k + r) + o) + w) + (m + e)
unit_less k r o w m e = omega arith

call_less : (a l r o w m e : ℕ) → l ≤ suc a
    → (m + (suc ((r + o) + l) + w)) + e < ((((3 + a) + r) + o) + w) + (m + e)
call_less a l r o w m e h = omega (arith, h)

body_less : (x m s e n : ℕ) → x ≤ m → (m + s) + e < n → ((x + 0) + s) + e < n
body_less x m s e n h k = omega (arith, h, k)

pop_less : (r o w e : ℕ) → ((r + o) + w) + e < ((0 + suc (r + o)) + w) + e
pop_less r o w e = omega arith

end_less : (r o w e x : ℕ) → r + o ≤ x → (o + w) + e < (suc x + w) + e
end_less r o w e x h = omega (arith, h)

at_most : (ends : Ends) (n : ℕ) → n ≤ size_at_end ends n
at_most (loop_end first a body end) n = omega arith
at_most plain_end n = omega arith
at_most (test_end place) n = omega arith
at_most (lock_end place k) n = omega arith

resume_less : (r o w e : ℕ) → ((r + o) + w) + e < (0 + (suc ((r + o) + 0) + w)) + e
resume_less r o w e = omega arith

loan_less : (r l w e : ℕ) → (0 + (suc (r + l) + w)) + e < (0 + (suc (r + suc l) + w)) + e
loan_less r l w e = omega arith

-- Steps that leave fewer.

-- what a step leads to: its units, and what the frame is about to do
abbrev fuel_of : NextStep → ℕ
fuel_of (goes d) = d.world.fuel
fuel_of (ended result w) = 0
fuel_of (aborted cause s) = 0
fuel_of stuck = 0

abbrev control_of : NextStep → Control
control_of (goes d) = d.control
control_of (ended result w) = runs no_terms []
control_of (aborted cause s) = runs no_terms []
control_of stuck = runs no_terms []

-- this is so, unless the form is a Loop
abbrev UnlessLoop : SilicaForm → Type 0 → Type 0
UnlessLoop (loop_form first a body end) P = ⊤
UnlessLoop form P = P

-- this is so, unless a turn of a Loop begins
abbrev UnlessTurn : Control → Type 0 → Type 0
UnlessTurn (runs no_terms outer) P = P
UnlessTurn (runs (and_term form span rest) outer) P = UnlessLoop form P
UnlessTurn (leaves result outer) P = P

-- where a step goes on, fewer steps than so many can still come
abbrev Below : SilicaProgram → ℕ → NextStep → Type 0
Below program n (goes d) = steps_left program d < n
Below program n (ended result w) = ⊤
Below program n (aborted cause s) = ⊤
Below program n stuck = ⊤

module _ (program : SilicaProgram) where
  abbrev most : ℕ
  most = size_of_bodies program.bodies

  there_below : {A : Type 0} (n : ℕ) (x : Option A) (go : A → NextStep) → ((a : A) → Below program n (go a)) → Below program n (if_there x go)
  there_below n None go each = tt
  there_below n (Some a) go each = each a

  if_below : (n : ℕ) (b : Bool) (x y : NextStep) → Below program n x → Below program n y → Below program n (if b then x else y)
  if_below n true x y p q = p
  if_below n false x y p q = q

  unit_below : (n k : ℕ) (w : World) (go : World → NextStep) → w.fuel ≡ k
      → ((v : World) → w.fuel ≡ suc v.fuel → Below program n (go v)) → Below program n (with_fuel_left k w go)
  unit_below n zero w go e each = tt
  unit_below n (suc k) w go e each = each (with_unit_taken w k) e

  -- the frame goes on, with as many units
  goes_below : (n : ℕ) (c : Configuration) (h : Here) (next : Control) → h.world.fuel ≡ c.world.fuel
      → (size_of_control next + size_of_stack c.stack) + size_of_units most c.world.fuel < n → Below program n (goes_to c h next)
  goes_below n c h next e less =
      subst (λ f. (size_of_control next + size_of_stack c.stack) + size_of_units most f < n) (sym e) less

  -- Bodies that begin.

  found_less : (p : SilicaBody → Bool) (bodies : List SilicaBody) (go : SilicaTerms → NextStep) (n : ℕ)
      → ((terms : SilicaTerms) → size_of terms ≤ size_of_bodies bodies → Below program n (go terms))
      → Below program n (if_there (option_map (λ (body : SilicaBody). body.terms) (find p bodies)) go)
  found_less p [] go n each = tt
  found_less p (b ∷ bodies) go n each =
      by (p b) (each b.terms (omega arith)) (found_less p bodies go n (λ terms less. each terms (omega (arith, less))))
    where
      by : (is : Bool) → Below program n (go b.terms)
          → Below program n (if_there (option_map (λ (body : SilicaBody). body.terms) (find p bodies)) go)
          → Below program n (if_there (option_map (λ (body : SilicaBody). body.terms) (cond is (Some b) (find p bodies))) go)
      by true x y = x
      by false x y = y

  enters_below : (n : ℕ) (e : Entered) (contract : ContractId) (tx : TxId) (how : How) (share : Bool)
      → (most + size_of_stack e.stack) + size_of_units most e.world.fuel < n → Below program n (enters program e contract tx how share)
  enters_below n e contract tx how share less = found_less (is_terms_of contract tx) program.bodies _ n
      (λ terms few. body_less (size_of terms) most (size_of_stack e.stack) (size_of_units most e.world.fuel) n few less)

  -- a world with as many units does as well
  as_many : (n s : ℕ) (w v : World) → v.fuel ≡ w.fuel → (most + s) + size_of_units most w.fuel < n → (most + s) + size_of_units most v.fuel < n
  as_many n s w v e less = subst (λ f. (most + s) + size_of_units most f < n) (sym e) less

  calls_below : (n : ℕ) (e : Entered) (contract : ContractId) (tx : TxId) (asked : Signature) (m : ℕ)
      → (most + size_of_stack e.stack) + size_of_units most e.world.fuel < n → Below program n (calls_object program e contract tx asked m)
  calls_below n e contract tx asked m less =
      let w = read_object e.world m in
      if_below n (is_in_progress w m) _ _ tt
      (there_below n (object_at w.objects m) _ (λ o.
      there_below n (contract_at program.table o.contract) _ (λ own.
      there_below n (answering contract tx asked o.contract own) _ (λ t.
      there_below n (signature_at own t) _ (λ s.
      if_below n (are_within program.table w.objects (entered_on (record e { world = w }) m o s).slots 0 (all_parameters o.contract s)) _ stuck
      (enters_below n (record (entered_on (record e { world = w }) m o s) { world = enter m w }) o.contract t by_receiver (is_shared (permission_of s.entry)) (as_many n (size_of_stack e.stack) e.world w (read_fuel e.world m) less)) tt)))))

  calls_this_below : (n : ℕ) (e : Entered) (caller : SilicaFrame) (tx : TxId) (s : Signature)
      → (most + size_of_stack e.stack) + size_of_units most e.world.fuel < n → Below program n (calls_this program e caller tx s)
  calls_this_below n e caller tx s less =
      if_below n (are_within program.table e.world.objects e.slots 0 (all_parameters caller.contract s)) _ stuck
      (enters_below n e caller.contract tx by_this caller.share_entered less) tt

  makes_below : (n : ℕ) (e : Entered) (contract : ContractId) (tx : TxId) (s : Signature)
      → (most + size_of_stack e.stack) + size_of_units most e.world.fuel < n → Below program n (makes_object program e contract tx s)
  makes_below n e contract tx s less =
      let w = with_read e.world next_item in
      let begun = entered_new (record e { world = w }) contract in
      let within = are_within program.table w.objects e.slots 1 (parameters s) in
      if_below n (nat_le most_objects (length e.world.objects)) (abort_step by_full w)
      (if within then enters program begun contract tx by_new false else stuck) tt
      (if_below n within (enters program begun contract tx by_new false) stuck
      (enters_below n begun contract tx by_new false less) tt)

  -- Binding.

  one_or_none : (b : Bool) (loan : Loan) → length (if b then loan ∷ [] else []) ≤ 1
  one_or_none true loan = omega arith
  one_or_none false loan = omega arith

  loan_few : (table : ClassTable) (place : Location) (k : ℕ) (p : Parameter) (note : Known) → length (loan_of table place k p note) ≤ 1
  loan_few table place k p note = one_or_none (owns (permission_of_type p.of)) _

  one_more : (b : Bound) (more : List Loan) (n a : ℕ) → length b.loans + suc n ≤ a → length more ≤ 1 → length (b.loans ++ more) + n ≤ a
  one_more b more n a few one = let e = length-append b.loans more in omega (arith, e, few, one)

  bind_below : (n a : ℕ) (table : ClassTable) (f : ℕ) (b : Bound) (places : List Location) (k : ℕ) (ps : List Parameter) (go : Bound → NextStep)
      → b.from.world.fuel ≡ f → length b.loans + length places ≤ a
      → ((d : Bound) → d.from.world.fuel ≡ f → length d.loans ≤ a → Below program n (go d)) → Below program n (bind_all table b places k ps go)
  bind_below n a table f b [] k [] go e few each = each b e (omega (arith, few))
  bind_below n a table f b [] k (p ∷ ps) go e few each = tt
  bind_below n a table f b (place ∷ places) k [] go e few each = tt
  bind_below n a table f b (place ∷ places) k (p ∷ ps) go e few each =
      there_below n (read table b.from place) _ (λ c. bind_below n a table f (bind_one table b place c k p) places (suc k) ps go
      (hand_fuel p.of place c b.from ∙ e)
      (one_more b (loan_of table place k p c.note) (length places) a few (loan_few table place k p c.note)) each)

  slots_few : (loans : List Loan) → length (slot_loans loans) ≤ length loans
  slots_few [] = omega arith
  slots_few (loan ∷ loans) = by loan.place (slots_few loans)
    where
      by : (place : Location) → length (slot_loans loans) ≤ length loans → length (if_slot place loan (slot_loans loans)) ≤ suc (length loans)
      by (slot k) h = omega (arith, h)
      by (field k) h = omega (arith, h)

  -- what waits for a body, once a unit is taken
  waits_less : (a l : ℕ) (c : Configuration) (rest : SilicaTerms) (outer : List Rest) (w v : World) → w.fuel ≡ c.world.fuel → w.fuel ≡ suc v.fuel
      → l ≤ suc a
      → (most + (suc ((size_of rest + size_of_lists outer) + l) + size_of_stack c.stack)) + size_of_units most v.fuel
      < ((((3 + a) + size_of rest) + size_of_lists outer) + size_of_stack c.stack) + size_of_units most c.world.fuel
  waits_less a l c rest outer w v e f few =
      subst (λ g. (most + (suc ((size_of rest + size_of_lists outer) + l) + size_of_stack c.stack)) + size_of_units most v.fuel
      < ((((3 + a) + size_of rest) + size_of_lists outer) + size_of_stack c.stack) + size_of_units most g) (sym f ∙ e)
      (call_less a l (size_of rest) (size_of_lists outer) (size_of_stack c.stack) most (size_of_units most v.fuel) few)

  -- Forms that go on.

  module _ (c : Configuration) (rest : SilicaTerms) (outer : List Rest) where
    -- how many steps can still come where the next form takes one and so many more
    abbrev here_left : ℕ → ℕ
    here_left k = ((((suc k) + size_of rest) + size_of_lists outer) + size_of_stack c.stack) + size_of_units most c.world.fuel

    on_below : (k : ℕ) (h : Here) → h.world.fuel ≡ c.world.fuel → Below program (here_left k) (goes_to c h (runs rest outer))
    on_below k h e = goes_below (here_left k) c h (runs rest outer) e
        (straight_less k (size_of rest) (size_of_lists outer) (size_of_stack c.stack) (size_of_units most c.world.fuel))

    leaves_below : (k : ℕ) (h : Here) (result : Option Cell) → h.world.fuel ≡ c.world.fuel
        → Below program (here_left k) (goes_to c h (leaves result outer))
    leaves_below k h result e = goes_below (here_left k) c h (leaves result outer) e
        (return_less k (size_of rest) (size_of_lists outer) (size_of_stack c.stack) (size_of_units most c.world.fuel))

    unit_form_below : (k : ℕ) → c.world.fuel ≡ k
        → Below program (here_left 0) (with_fuel_left k c.world (λ w. goes_to c (record (here c) { world = w }) (runs rest outer)))
    unit_form_below zero e = tt
    unit_form_below (suc k) e =
        subst (λ f. (size_of_control (runs rest outer) + size_of_stack c.stack) + size_of_units most k
        < ((((suc 0) + size_of rest) + size_of_lists outer) + size_of_stack c.stack) + size_of_units most f) (sym e)
        (unit_less 0 (size_of rest) (size_of_lists outer) (size_of_stack c.stack) most (size_of_units most k))

    operated_below : (k line : ℕ) (o : Operated) (go : Value → NextStep) → ((v : Value) → Below program (here_left k) (go v))
        → Below program (here_left k) (with_operated line c.world o go)
    operated_below k line (operated v) go each = each v
    operated_below k line overflows go each = tt
    operated_below k line other_kinds go each = tt

    copy_below : (table : ClassTable) (to : Location) (x : Cell)
        → Below program (here_left 0) (copy_to table to x (here c) (λ h. goes_to c h (runs rest outer)))
    copy_below table (slot k) x = on_below 0 (set_slot k (Some (plain_cell x.value x.note.kind)) (here c)) refl
    copy_below table (field k) x = there_below (here_left 0) (available_field table (here c) k) _ (λ f.
        on_below 0 (set_field k (plain_cell x.value (kind_of_resolved f.of)) (here c)) (edit_fuel (with_field k x.value) (self_of c.frame.slots) c.world))

    move_below : (table : ClassTable) (to : Location) (contract : Option ContractId) (place : Location) (x : Cell)
        → Below program (here_left 0) (move_to table to contract place x (here c) (λ h. goes_to c h (runs rest outer)))
    move_below table (slot k) None place x = tt
    move_below table (slot k) (Some id) place x =
        let kept_here = set_permission place (kept x.note.permission (counted (here c) place x)) (here c) in
        on_below 0 (set_slot k (Some (cell x.value (ReferenceKind id) (converted table x.note.kind (ReferenceKind id) (counted (here c) place x)))) kept_here)
        (permission_fuel place (kept x.note.permission (counted (here c) place x)) (here c))
    move_below table (field k) contract place x = there_below (here_left 0) (available_field table (here c) k) _ (λ f.
        on_below 0 (set_field k (got_from table f.of (here c) place x) (hand f.of place x (here c)))
        (edit_fuel (with_field k (got_from table f.of (here c) place x).value) (self_of (hand f.of place x (here c)).slots) (hand f.of place x (here c)).world
        ∙ hand_fuel f.of place x (here c)))

    disown_below : (place : Location) (x : Cell)
        → Below program (here_left 0) (disowns_object place x (here c) (λ h. goes_to c h (runs rest outer)))
    disown_below place x = there_below (here_left 0) (referred x.value) _ (λ n.
        on_below 0 (set_permission place unowned (record (here c) { world = mark_disowned n c.world }))
        (permission_fuel place unowned (record (here c) { world = mark_disowned n c.world })
        ∙ marked_fuel (λ o. o.disowned) (λ o. record o { disowned = true }) n c.world))

    -- Changes.

    change_below : (own : Contract) (state : StateId) (h : Here) (got : Numbered Cell) → h.world.fuel ≡ c.world.fuel
        → Below program (here_left 0) (change_with own state rest outer c h got)
    change_below own state h got e = there_below (here_left 0) (self (changed_here own state got h)) _ (λ o.
        if_below (here_left 0) (has_all_values own o) _ stuck
        (on_below 0 (changed_here own state got h) (edit_fuel (changed_object own state got) (self_of h.slots) h.world ∙ e)) tt)

    fill_below : (table : ClassTable) (own : Contract) (state : StateId) (h : Here) (gs : List Given) (got : Numbered Cell) → h.world.fuel ≡ c.world.fuel
        → Below program (here_left 0) (fill_all table own state h gs got (λ h got. change_with own state rest outer c h got))
    fill_below table own state h [] got e = change_below own state h got e
    fill_below table own state h (g ∷ gs) got e =
        there_below (here_left 0) (slice_get own.fields g.field.0) _ (λ (f : Field).
        there_below (here_left 0) (read table h (located g.from)) _ (λ x.
        if_below (here_left 0) (has_field own (Some state) g.field.0) _ stuck
        (fill_below table own state (hand f.of (located g.from) x h) gs (put got g.field.0 (got_from table f.of h (located g.from) x))
        (hand_fuel f.of (located g.from) x h ∙ e)) tt))

    change_step_below : (table : ClassTable) (state : StateId) (given : List Given) → Below program (here_left 0) (change_step table state given rest outer c)
    change_step_below table state given = there_below (here_left 0) (contract_at table c.frame.contract) _ (λ own.
        if_below (here_left 0) (all_there table (here c) given) _ stuck
        (if_below (here_left 0) (is_locked_out c.frame (here c)) _ _ tt (fill_below table own state (here c) given nothing refl)) tt)

    -- Returns.

    gives_this_below : (s : Signature) → Below program (here_left 0) (gives_this program s outer c)
    gives_this_below s =
        there_below (here_left 0) (contract_at program.table c.frame.contract) _ (λ own. there_below (here_left 0) (self (here c)) _ (λ o.
        there_below (here_left 0) (read program.table (here c) this) _ (λ x.
        if_below (here_left 0) (is_finished own o) _ stuck
        (leaves_below 0 (hand (Reference c.frame.contract s.exit) this x (here c))
        (Some (bound_cell (Reference c.frame.contract s.exit) x.value)) (hand_fuel (Reference c.frame.contract s.exit) this x (here c))) tt)))

    gives_none_below : (how : How) (s : Signature) → Below program (here_left 0) (gives_none how program s outer c)
    gives_none_below by_receiver s = leaves_below 0 (here c) None refl
    gives_none_below by_this s = leaves_below 0 (here c) None refl
    gives_none_below by_new s = gives_this_below s

    gives_below : (s : Signature) (result : Option ResolvedType) (place : Option Location)
        → Below program (here_left 0) (gives_result program s result place outer c)
    gives_below s result None = gives_none_below c.frame.how s
    gives_below s None (Some place) = there_below (here_left 0) (read program.table (here c) place) _ (λ x. leaves_below 0 (here c) (Some (noted unowned x)) refl)
    gives_below s (Some of) (Some place) = there_below (here_left 0) (read program.table (here c) place) _ (λ x.
        if_below (here_left 0) (is_within program.table c.world.objects of x.value) _ stuck
        (leaves_below 0 (hand of place x (here c)) (Some (bound_cell of x.value)) (hand_fuel of place x (here c))) tt)

    return_below : (place : Option Location) → Below program (here_left 0) (return_step program place outer c)
    return_below place = there_below (here_left 0) (signature_of program.table c.frame.contract c.frame.tx) _ (λ s.
        if_below (here_left 0) (exits_are_within program.table c s) _ stuck (gives_below s s.result place) tt)

    -- Calls.

    abbrev call_left : ℕ → ℕ
    call_left a = ((((3 + a) + size_of rest) + size_of_lists outer) + size_of_stack c.stack) + size_of_units most c.world.fuel

    call_below : (result : Option ℕ) (receiver : Location) (contract : ContractId) (tx : TxId) (args : List Location)
        → Below program (call_left (length args)) (call_step program result receiver contract tx args rest outer c)
    call_below result receiver contract tx args =
        let n = call_left (length args) in
        there_below n (signature_of program.table contract tx) _ (λ s.
        there_below n (read program.table (here c) receiver) _ (λ x. there_below n (referred x.value) _ (λ m.
        bind_below n (suc (length args)) program.table c.world.fuel (unbound (here c)) (receiver ∷ args) 0 (all_parameters contract s) _ refl (omega arith)
        (λ b e few. unit_below n b.from.world.fuel b.from.world _ refl (λ w f.
        calls_below n (entered_with c b rest outer result w) contract tx s m
        (waits_less (length args) (length b.loans) c rest outer b.from.world w e f few))))))

    call_this_below : (result : Option ℕ) (tx : TxId) (args : List Location)
        → Below program (call_left (length args)) (call_this_step program result tx args rest outer c)
    call_this_below result tx args =
        let n = call_left (length args) in
        there_below n (signature_of program.table c.frame.contract tx) _ (λ s.
        bind_below n (suc (length args)) program.table c.world.fuel (unbound (here c)) (this ∷ args) 0 (all_parameters c.frame.contract s) _ refl (omega arith)
        (λ b e few. unit_below n b.from.world.fuel b.from.world _ refl (λ w f.
        calls_this_below n (entered_with c (without_field_loans b) rest outer result w) c.frame tx s
        (waits_less (length args) (length (slot_loans b.loans)) c rest outer b.from.world w e f
        (let h = slots_few b.loans in omega (arith, h, few))))))

    new_below : (k : ℕ) (contract : ContractId) (args : List Location)
        → Below program (call_left (length args)) (new_step program k contract args rest outer c)
    new_below k contract args =
        let n = call_left (length args) in
        there_below n (constructor_at program.table contract) _ (λ s.
        bind_below n (suc (length args)) program.table c.world.fuel (unbound (here c)) args 1 (parameters s) _ refl (omega arith)
        (λ b e few. unit_below n b.from.world.fuel b.from.world _ refl (λ w f.
        makes_below n (entered_with c b rest outer (Some k) w) contract constructor_id s
        (waits_less (length args) (length b.loans) c rest outer b.from.world w e f few))))

  -- Tests.

  module _ (c : Configuration) (t : StateTest) where
    abbrev test_left : ℕ
    test_left = ((((2 + (size_of t.branch + size_of t.other)) + size_of t.rest) + size_of_lists t.outer) + size_of_stack c.stack)
        + size_of_units most c.world.fuel

    into_below : (h : Here) (holds : Bool) (ends : Ends) → ((n : ℕ) → size_at_end ends n ≡ n) → h.world.fuel ≡ c.world.fuel
        → Below program test_left (into_branch c h t holds ends)
    into_below h true ends plain e = goes_below test_left c h (runs t.branch (record { terms = t.rest; ends = ends } ∷ t.outer)) e
        (first_less (size_of t.branch) (size_of t.other) (size_of t.rest) (size_of_lists t.outer) (size_of_stack c.stack) (size_of_units most c.world.fuel) _ (plain _))
    into_below h false ends plain e = goes_below test_left c h (runs t.other (record { terms = t.rest; ends = ends } ∷ t.outer)) e
        (second_less (size_of t.branch) (size_of t.other) (size_of t.rest) (size_of_lists t.outer) (size_of_stack c.stack) (size_of_units most c.world.fuel) _ (plain _))

    tells_below : (h : Here) (x : Cell) (holds : Bool) → h.world.fuel ≡ c.world.fuel → Below program test_left (tells c h t x holds)
    tells_below h x holds e = into_below (set_permission t.place (narrowed x.note.permission t.state holds) h) holds plain_end (λ n. refl)
        (permission_fuel t.place (narrowed x.note.permission t.state holds) h ∙ e)

    shared_this_below : (h : Here) (holds : Bool) → h.world.fuel ≡ c.world.fuel → Below program test_left (test_shared_this c h t holds)
    shared_this_below h true e = into_below (tests_from h t) true (test_end t.place) (λ n. refl) (permission_fuel t.place (owned (only t.state)) h ∙ e)
    shared_this_below h false e = into_below h false plain_end (λ n. refl) e

    this_as_below : (p : Permission) (h : Here) (x : Cell) (holds : Bool) → h.world.fuel ≡ c.world.fuel → Below program test_left (test_this_as p c h t x holds)
    this_as_below shared h x holds e = shared_this_below h holds e
    this_as_below (owned s) h x holds e = tells_below h x holds e
    this_as_below unowned h x holds e = tells_below h x holds e

    shared_below : (h : Here) (n : ℕ) (holds : Bool) → h.world.fuel ≡ c.world.fuel → Below program test_left (test_shared c h t n holds)
    shared_below h n true e = into_below (record (tests_from h t) { world = lock n (tests_from h t).world }) true (lock_end t.place n) (λ m. refl)
        (permission_fuel t.place (owned (only t.state)) h ∙ e)
    shared_below h n false e = into_below h false plain_end (λ m. refl) e

    object_below : (h : Here) (x : Cell) (n : ℕ) (o : Object) (holds : Bool) → h.world.fuel ≡ c.world.fuel → Below program test_left (test_object c h t x n o holds)
    object_below h x n o holds e =
        if_below test_left (same_location t.place this) _ _
        (if_below test_left (is_locked_out c.frame h) _ _ tt (this_as_below x.note.permission h x holds e))
        (if_below test_left o.shared _ _
        (if_below test_left (is_locked h.world n || is_in_progress h.world n) _ _ tt (shared_below h n holds e))
        (tells_below h x holds e))

    test_below : (table : ClassTable) (state : StateId) → Below program test_left (test_step table t state c)
    test_below table state =
        there_below test_left (read table (here c) t.place) _ (λ x. there_below test_left (referred x.value) _ (λ n.
        there_below test_left (object_at c.world.objects n) _ (λ o.
        object_below (reads_object (here c) n) x n o (is_in table x.note.kind state o) (read_fuel c.world n))))

  -- All forms.

  truth_below : (n : ℕ) (v : Value) (x y : NextStep) → Below program n x → Below program n y → Below program n (with_truth v x y)
  truth_below n (bool_value true) x y a b = a
  truth_below n (bool_value false) x y a b = b
  truth_below n (int_value z) x y a b = tt
  truth_below n (text_value bytes) x y a b = tt
  truth_below n (reference m) x y a b = tt

  text_below : (n : ℕ) (v : Value) (go : List ℕ → NextStep) → ((bytes : List ℕ) → Below program n (go bytes)) → Below program n (with_text v go)
  text_below n (text_value bytes) go each = each bytes
  text_below n (int_value z) go each = tt
  text_below n (bool_value b) go each = tt
  text_below n (reference m) go each = tt

  act_below : (form : SilicaForm) (rest : SilicaTerms) (outer : List Rest) (c : Configuration)
      → UnlessLoop form (Below program ((((size_of_form form + size_of rest) + size_of_lists outer) + size_of_stack c.stack) + size_of_units most c.world.fuel)
      (act program form rest outer c))
  act_below unit_form rest outer c = unit_form_below c rest outer c.world.fuel refl
  act_below (const_form k value) rest outer c = on_below c rest outer 0 (set_slot k (Some (constant_cell value)) (here c)) refl
  act_below (op_form k operator a b line) rest outer c =
      there_below (here_left c rest outer 0) (read program.table (here c) (located a)) _ (λ x.
      there_below (here_left c rest outer 0) (read program.table (here c) (located b)) _ (λ y.
      operated_below c rest outer 0 line (operate operator x.value y.value) _ (λ v. on_below c rest outer 0 (set_slot k (Some (plain_cell v (kind_of_operator operator))) (here c)) refl)))
  act_below (copy_form to from) rest outer c =
      there_below (here_left c rest outer 0) (read program.table (here c) (located from)) _ (λ x. copy_below c rest outer program.table (location_of to) x)
  act_below (move_form to from contract) rest outer c =
      there_below (here_left c rest outer 0) (read program.table (here c) (located from)) _ (λ x.
      move_below c rest outer program.table (location_of to) contract (located from) x)
  act_below (new_form k contract args) rest outer c = new_below c rest outer k contract (all_located args)
  act_below (call_form result receiver contract tx args) rest outer c = call_below c rest outer result (located receiver) contract tx (all_located args)
  act_below (call_this_form result tx args) rest outer c = call_this_below c rest outer result tx (all_located args)
  act_below (change_form state given) rest outer c = change_step_below c rest outer program.table state given
  act_below (test_form place state branch other join) rest outer c =
      test_below c (record { place = located place; state = state.0; branch = branch; other = other; rest = rest; outer = outer }) program.table state
  act_below (if_form a branch other join) rest outer c =
      let n : ℕ = ((((2 + (size_of branch + size_of other)) + size_of rest) + size_of_lists outer) + size_of_stack c.stack) + size_of_units most c.world.fuel in
      there_below n (read program.table (here c) (located a)) _ (λ x. truth_below n x.value _ _
      (goes_below n c (here c) (runs branch (record { terms = rest; ends = plain_end } ∷ outer)) refl
      (first_less (size_of branch) (size_of other) (size_of rest) (size_of_lists outer) (size_of_stack c.stack) (size_of_units most c.world.fuel) _ refl))
      (goes_below n c (here c) (runs other (record { terms = rest; ends = plain_end } ∷ outer)) refl
      (second_less (size_of branch) (size_of other) (size_of rest) (size_of_lists outer) (size_of_stack c.stack) (size_of_units most c.world.fuel) _ refl)))
  act_below (loop_form first a body end) rest outer c = tt
  act_below (assert_form place perm) rest outer c = on_below c rest outer 0 (here c) refl
  act_below (disown_form place) rest outer c =
      there_below (here_left c rest outer 0) (read program.table (here c) (located place)) _ (λ x. disown_below c rest outer (located place) x)
  act_below (drop_form k) rest outer c = on_below c rest outer 0 (set_slot k None (here c)) refl
  act_below (return_form place) rest outer c = return_below c rest outer (option_map located place)
  act_below (revert_form text) rest outer c =
      there_below (here_left c rest outer 0) (read program.table (here c) (located text)) _ (λ x. text_below (here_left c rest outer 0) x.value _ (λ bytes. tt))
  act_below bad_row_form rest outer c = tt

  -- Frames that end.

  back_below : (loans : List Loan) (result : Option Cell) (h : Waiting) (stack : List Waiting) (c : Configuration)
      → Below program ((0 + (suc ((size_of h.terms + size_of_lists h.outer) + length loans) + size_of_stack stack)) + size_of_units most c.world.fuel)
      (gives_back loans result h stack c)
  back_below [] result h stack c =
      subst (λ f. (size_of_control (runs h.terms h.outer) + size_of_stack stack) + size_of_units most f
      < (0 + (suc ((size_of h.terms + size_of_lists h.outer) + 0) + size_of_stack stack)) + size_of_units most c.world.fuel)
      (sym (left_fuel c.frame.how (self_of c.frame.slots) c.world))
      (resume_less (size_of h.terms) (size_of_lists h.outer) (size_of_stack stack) (size_of_units most c.world.fuel))
  back_below (loan ∷ loans) result h stack c =
      loan_less (size_of h.terms + size_of_lists h.outer) (length loans) (size_of_stack stack) (size_of_units most c.world.fuel)

  goes_back_below : (stack : List Waiting) (result : Option Cell) (c : Configuration)
      → Below program ((0 + size_of_stack stack) + size_of_units most c.world.fuel) (goes_back stack result c)
  goes_back_below [] result c = tt
  goes_back_below (h ∷ stack) result c = back_below h.loans result h stack c

  -- how many steps are left where a list ends so
  abbrev ended_left : Ends → SilicaTerms → List Rest → Configuration → ℕ
  ended_left ends rest outer c = (size_of_control (runs no_terms (record { terms = rest; ends = ends } ∷ outer)) + size_of_stack c.stack)
      + size_of_units most c.world.fuel

  end_below : (ends : Ends) (rest : SilicaTerms) (outer : List Rest) (c : Configuration)
      → Below program (ended_left ends rest outer c) (end_step program ends rest outer c)
  end_below plain_end rest outer c = goes_below (ended_left plain_end rest outer c) c (here c) (runs rest outer) refl
      (pop_less (size_of rest) (size_of_lists outer) (size_of_stack c.stack) (size_of_units most c.world.fuel))
  end_below (test_end place) rest outer c = goes_below (ended_left (test_end place) rest outer c) c (end_branch (test_end place) (here c)) (runs rest outer)
      (end_fuel (test_end place) (here c)) (pop_less (size_of rest) (size_of_lists outer) (size_of_stack c.stack) (size_of_units most c.world.fuel))
  end_below (lock_end place n) rest outer c = goes_below (ended_left (lock_end place n) rest outer c) c (end_branch (lock_end place n) (here c)) (runs rest outer)
      (end_fuel (lock_end place n) (here c)) (pop_less (size_of rest) (size_of_lists outer) (size_of_stack c.stack) (size_of_units most c.world.fuel))
  end_below (loop_end first a body end) rest outer c =
      let n = ended_left (loop_end first a body end) rest outer c in
      there_below n (read program.table (here c) (located a)) _ (λ x. truth_below n x.value _ _
      (goes_below n c (here c) (runs body (record { terms = and_term (loop_form first a body end) end rest; ends = plain_end } ∷ outer)) refl
      (turn_less (size_of body) (size_of rest) (size_of_lists outer) (size_of_stack c.stack) (size_of_units most c.world.fuel)))
      (goes_below n c (here c) (runs rest outer) refl
      (left_less (size_of body) (size_of rest) (size_of_lists outer) (size_of_stack c.stack) (size_of_units most c.world.fuel))))

  control_below : (control : Control) (c : Configuration)
      → UnlessTurn control (Below program ((size_of_control control + size_of_stack c.stack) + size_of_units most c.world.fuel) (control_step program control c))
  control_below (runs no_terms []) c = tt
  control_below (runs no_terms (r ∷ outer)) c = end_below r.ends r.terms outer c
  control_below (runs (and_term form span rest) outer) c = act_below form rest outer c
  control_below (leaves result []) c = goes_back_below c.stack result c
  control_below (leaves result (r ∷ outer)) c = goes_below
      ((size_of_control (leaves result (r ∷ outer)) + size_of_stack c.stack) + size_of_units most c.world.fuel) c (end_branch r.ends (here c)) (leaves result outer) (end_fuel r.ends (here c))
      (end_less (size_of r.terms) (size_of_lists outer) (size_of_stack c.stack) (size_of_units most c.world.fuel) _ (at_most r.ends _))

  -- each step leaves fewer, unless a turn of a Loop begins
  step_below : (c : Configuration) → UnlessTurn c.control (Below program (steps_left program c) (step program c))
  step_below c = control_below c.control c

  -- Runs.

  -- the run from here comes to an end
  abbrev Ends' : Configuration → Type 0
  Ends' c = (n : ℕ) × IsOver (steps program n c)

  -- in the run from here each turn of a Loop takes a unit
  abbrev Pays : Configuration → Type 0
  Pays c = (n : ℕ) → NextTurnTakesUnit (steps program n c)

  pays_on : (c d : Configuration) → step program c ≡ goes d → Pays c → Pays d
  pays_on c d e pays n = subst (λ next. NextTurnTakesUnit (then_steps next (steps program n))) e (pays (suc n))

  -- a run ends where what comes after its first step does
  ends_after : (c : Configuration) (next : NextStep) → step program c ≡ next → ((d : Configuration) → next ≡ goes d → Ends' d) → Ends' c
  ends_after c (goes d) e go =
      let o = go d refl in (suc o.0, subst (λ next. IsOver (then_steps next (steps program o.0))) (sym e) o.1)
  ends_after c (ended result w) e go = (1, subst (λ next. IsOver (then_steps next (steps program 0))) (sym e) tt)
  ends_after c (aborted cause s) e go = (1, subst (λ next. IsOver (then_steps next (steps program 0))) (sym e) tt)
  ends_after c stuck e go = (1, subst (λ next. IsOver (then_steps next (steps program 0))) (sym e) tt)

  no_more_units : (c d : Configuration) → step program c ≡ goes d → d.world.fuel ≤ c.world.fuel
  no_more_units c d e = let k : Leads c.world (goes d) = subst (Leads c.world) e (step_keeps program c) in k.by.fuel

  begins_so : (first : SilicaTerms) → BeginsWithUnit first → (span : Span) × (more : SilicaTerms) × (first ≡ and_term unit_form span more)
  begins_so (and_term unit_form span more) h = (span, more, refl)
  begins_so terms h = absurd h

  -- runs with at most so many units end, if those with fewer do
  module _ (f : ℕ) (fewer : (d : Configuration) → d.world.fuel < f → Pays d → Ends' d) where
    -- where a unit is taken
    takes_unit : (c : Configuration) (span : Span) (more : SilicaTerms) (outer : List Rest) → c.control ≡ runs (and_term unit_form span more) outer
        → c.world.fuel ≤ f → Pays c → Ends' c
    takes_unit c span more outer is few pays = by_fuel c.world.fuel refl
      where
        takes : ℕ → NextStep
        takes n = with_fuel_left n c.world (λ w. goes_to c (record (here c) { world = w }) (runs more outer))

        steps_so : (n : ℕ) → c.world.fuel ≡ n → step program c ≡ takes n
        steps_so n e = ap (λ control. control_step program control c) is ∙ ap takes e

        by_fuel : (n : ℕ) → c.world.fuel ≡ n → Ends' c
        by_fuel zero e = ends_after c (takes zero) (steps_so zero e) (λ d z. absurd (cc))
        by_fuel (suc n) e = ends_after c (takes (suc n)) (steps_so (suc n) e) (λ d z. fewer d
            (let one : n ≡ d.world.fuel = ap fuel_of z in omega (arith, one, few, e))
            (pays_on c d (steps_so (suc n) e ∙ z) pays))

    -- where a turn of a Loop begins
    begins_turn : (c : Configuration) (first : SilicaTerms) (a : Operand) (body : SilicaTerms) (end span : Span) (rest : SilicaTerms) (outer : List Rest)
        → c.control ≡ runs (and_term (loop_form first a body end) span rest) outer → c.world.fuel ≤ f → Pays c → Ends' c
    begins_turn c first a body end span rest outer is few pays =
        let starts = begins_so first (subst TurnTakesUnit is (pays 0)) in
        ends_after c (goes begun) steps_so (λ d z. takes_unit d starts.0 starts.1 around
        (sym (ap control_of z) ∙ ap (λ ts. runs ts around) starts.2)
        (let same : c.world.fuel ≡ d.world.fuel = ap fuel_of z in omega (arith, same, few))
        (pays_on c d (steps_so ∙ z) pays))
      where
        around : List Rest
        around = record { terms = rest; ends = loop_end first a body end } ∷ outer

        begun : Configuration
        begun = record { frame = record c.frame { slots = c.frame.slots }; control = runs first around; stack = c.stack; notes = c.notes; world = c.world }

        steps_so : step program c ≡ goes begun
        steps_so = ap (λ control. control_step program control c) is

    -- a step that leaves fewer, where runs with fewer steps end
    straight : (c : Configuration) → ((d : Configuration) → steps_left program d < steps_left program c → d.world.fuel ≤ f → Pays d → Ends' d)
        → c.world.fuel ≤ f → Pays c → Below program (steps_left program c) (step program c) → Ends' c
    straight c shorter few pays below = ends_after c (step program c) refl (λ d z. shorter d
        (subst (Below program (steps_left program c)) z below)
        (let units = no_more_units c d z in omega (arith, units, few))
        (pays_on c d z pays))

    by_form : (c : Configuration) → ((d : Configuration) → steps_left program d < steps_left program c → d.world.fuel ≤ f → Pays d → Ends' d)
        → c.world.fuel ≤ f → Pays c → (form : SilicaForm) (span : Span) (rest : SilicaTerms) (outer : List Rest) → c.control ≡ runs (and_term form span rest) outer
        → UnlessLoop form (Below program (steps_left program c) (step program c)) → Ends' c
    by_form c shorter few pays (loop_form first a body end) span rest outer is below = begins_turn c first a body end span rest outer is few pays
    by_form c shorter few pays form span rest outer is below = straight c shorter few pays below

    by_control : (c : Configuration) → ((d : Configuration) → steps_left program d < steps_left program c → d.world.fuel ≤ f → Pays d → Ends' d)
        → c.world.fuel ≤ f → Pays c → (control : Control) → c.control ≡ control
        → UnlessTurn control (Below program (steps_left program c) (step program c)) → Ends' c
    by_control c shorter few pays (runs no_terms outer) is below = straight c shorter few pays below
    by_control c shorter few pays (runs (and_term form span rest) outer) is below = by_form c shorter few pays form span rest outer is below
    by_control c shorter few pays (leaves result outer) is below = straight c shorter few pays below

    by_size : (s : ℕ) (c : Configuration) → steps_left program c < s → c.world.fuel ≤ f → Pays c → Ends' c
    by_size zero c less few pays = absurd (omega (arith, less))
    by_size (suc s) c less few pays = by_control c (λ d fewer_left. by_size s d (omega (arith, fewer_left, less))) few pays c.control refl (step_below c)

  by_units : (f : ℕ) (c : Configuration) → c.world.fuel < f → Pays c → Ends' c
  by_units zero c less pays = absurd (omega (arith, less))
  by_units (suc f) c less pays = by_size f (by_units f) (suc (steps_left program c)) c (omega arith) (omega (arith, less)) pays

pub runs_end : RunsEnd
runs_end program (goes c) pays = by_units program (suc c.world.fuel) c (omega arith) pays
runs_end program (ended result w) pays = (0, tt)
runs_end program (aborted cause s) pays = (0, tt)
runs_end program stuck pays = (0, tt)
