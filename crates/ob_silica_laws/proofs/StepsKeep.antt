-- Each step keeps what all steps keep.
use Rattle.std.proofs.Common.{ℕ, zero, suc, Bool, true, false, List, [], ◌∷◌, Option, Some, None, refl}
use Rattle.std.specs.Prelude.{option_map, ◌||◌, slice_get}
use Rattle.ob_base.specs.declared.id.ContractId.{ContractId}
use Rattle.ob_base.specs.declared.id.StateId.{StateId}
use Rattle.ob_base.specs.declared.id.TxId.{TxId}
use Rattle.ob_perm.specs.Permissions.{Permission, owned, shared, unowned}
use Rattle.ob_table.specs.Tables.{ClassTable, contract_at, signature_at, signature_of}
use Rattle.ob_table.specs.declared.contract.Contract.{Contract}
use Rattle.ob_table.specs.declared.contract.Field.{Field}
use Rattle.ob_table.specs.declared.contract.ResolvedType.{ResolvedType}
use Rattle.ob_table.specs.declared.contract.ResolvedType.TheVariants.{Reference as TypedReference}
use Rattle.ob_table_spec.specs.WellFormed.{kind_of_resolved, constructor_at}
use Rattle.ob_table.specs.declared.contract.Signature.{Signature}
use Rattle.ob_heap_spec.specs.Values.{Value, int_value, bool_value, text_value, reference, referred, Numbered, nothing, put}
use Rattle.ob_heap_spec.specs.Objects.{Object, has_field, has_all_values}
use Rattle.ob_heap_spec.specs.Contents.{object_at}
use Rattle.ob_heap_spec.specs.Operations.{Operated, operated, overflows, other_kinds}
use Rattle.ob_heap_spec.specs.Worlds.{World, by_state, by_reentry, next_item, with_read, read_object}
use Rattle.ob_heap_spec.specs.Marks.{comes_into, is_locked, is_in_progress}
use Rattle.ob_heap_spec.specs.Dispatch.{answering}
use Rattle.ob_heap_spec.specs.Objects.{unfinished}
use Rattle.ob_heap_spec.specs.GoingWrong.{is_within, is_finished}
use Rattle.ob_source_laws.proofs.Follows.{follows_read, follows_read_object, follows_edit, follows_make, spared_this}
use Rattle.ob_source_laws.proofs.Marking.{follows_into, follows_mark_disowned}
use Rattle.ob_silica.specs.Terms.{SilicaForm, unit_form, const_form, op_form, copy_form, move_form, new_form, call_form, call_this_form, change_form, test_form, if_form, loop_form, assert_form, disown_form, drop_form, return_form, revert_form, bad_row_form, SilicaTerms, no_terms, and_term}
use Rattle.ob_silica.specs.declared.place.Given.{Given}
use Rattle.ob_silica_steps.specs.Cells.{Cell, plain_cell}
use Rattle.ob_silica_places.specs.Places.{Location, slot, field, located, all_located, location_of, this, same_location}
use Rattle.ob_silica_steps.specs.Configurations.{SilicaProgram, SlotCells, Notes, Ends, plain_end, test_end, lock_end, loop_end, Rest, Loan, Waiting, Control, runs, leaves, How, by_receiver, by_this, by_new, SilicaFrame, Configuration, NextStep, goes, ended, aborted, stuck}
use Rattle.ob_silica_steps.specs.Here.{Here, here, goes_to, self_of, self, read, hand}
use Rattle.ob_silica_places.specs.Known.{at}
use Rattle.ob_silica_steps.specs.Getting.{got_from}
use Rattle.ob_silica_steps.specs.Binding.{bound_cell, Bound, bind_one, bind_all, unbound, without_field_loans}
use Rattle.ob_silica_places.specs.Parameters.{Parameter, this_parameter, parameters, all_parameters}
use Rattle.ob_silica_steps.specs.Entering.{Entered, enters, begins_on, calls_object, calls_this, makes_object}
use Rattle.ob_silica_steps.specs.Changing.{all_there, fill_all, changed_object, changed_here, is_locked_out, change_with, change_step}
use Rattle.ob_silica_steps.specs.Testing.{StateTest, tells, test_shared_this, test_this_as, test_this, test_shared, test_other, test_object, is_in, reads_object, test_step}
use Rattle.ob_silica_steps.specs.Returning.{exits_are_within, gives_this, gives_none, gives_result, return_step, gives_back, goes_back, leave_step, left_world}
use Rattle.ob_silica_steps.specs.Straight.{with_operated, with_truth, with_text, available_field, copy_to, move_to_slot, move_to, disowns_object}
use Rattle.ob_silica_steps.specs.Calling.{entered_with, constructor_id, call_step, call_this_step, new_step}
use Rattle.ob_silica_steps.specs.Steps.{act, end_step, pop_step, run_step, control_step, step, then_steps, steps}
use Rattle.ob_silica_steps.specs.Starting.{pass_all, alone, started_call, started_new}
use Rattle.ob_silica_laws.proofs.Keeping.{Keeps, Leads, tells_then, keeps_self, keeps_then, then_follows, then_edits, keeps_lock, keeps_enter, keeps_progress, leads_abort, leads_there, leads_if, leads_unit, leads_goes, leads_to, leads_ended, leads_stuck, keeps_permission, keeps_field, keeps_hand, keeps_end}

-- Binding and entering.

bound_keeps : {w : World} (table : ClassTable) (b : Bound) (places : List Location) (k : ℕ) (ps : List Parameter) (go : Bound → NextStep) → Keeps w b.from.world → ((d : Bound) → Keeps w d.from.world → Leads w (go d)) → Leads w (bind_all table b places k ps go)
bound_keeps table b [] k [] go a each = each b a
bound_keeps {w = w} table b [] k (p ∷ ps) go a each = leads_stuck w
bound_keeps {w = w} table b (place ∷ places) k [] go a each = leads_stuck w
bound_keeps table b (place ∷ places) k (p ∷ ps) go a each =
    leads_there (read table b.from place) _ (λ c. bound_keeps table (bind_one table b place c k p) places (suc k) ps go (keeps_hand p.of place c b.from a) each)

enters_keeps : {w : World} (program : SilicaProgram) (e : Entered) (contract : ContractId) (tx : TxId) (how : How) (entry : Bool) → Keeps w e.world → Leads w (enters program e contract tx how entry)
enters_keeps program e contract tx how entry a = leads_there _ _ (λ terms. leads_goes _ a)

begins_keeps : {w : World} (program : SilicaProgram) (e : Entered) (n : ℕ) (o : Object) (tx : TxId) (s : Signature) → Keeps w e.world → Leads w (begins_on program e n o tx s)
begins_keeps program e n o tx s a = leads_if _ _ stuck (enters_keeps program _ o.contract tx by_receiver _ (keeps_enter n a)) (leads_stuck _)

pub calls_keep : {w : World} (program : SilicaProgram) (e : Entered) (contract : ContractId) (tx : TxId) (asked : Signature) (n : ℕ) → Keeps w e.world → Leads w (calls_object program e contract tx asked n)
calls_keep program e contract tx asked n a =
    let w = read_object e.world n in
    let k = then_follows a (follows_read_object e.world n) in
    leads_if (is_in_progress w n) _ _ (leads_abort (by_reentry n) k)
    (leads_there (object_at w.objects n) _ (λ o.
    leads_there (contract_at program.table o.contract) _ (λ own.
    leads_there (answering contract tx asked o.contract own) _ (λ t.
    leads_there (signature_at own t) _ (λ s.
    begins_keeps program (record e { world = w }) n o t s k)))))

calls_this_keep : {w : World} (program : SilicaProgram) (e : Entered) (caller : SilicaFrame) (tx : TxId) (s : Signature) → Keeps w e.world → Leads w (calls_this program e caller tx s)
calls_this_keep program e caller tx s a = leads_if _ _ stuck (enters_keeps program e caller.contract tx by_this _ a) (leads_stuck _)

pub makes_keep : {w : World} (program : SilicaProgram) (e : Entered) (contract : ContractId) (tx : TxId) (s : Signature) → Keeps w e.world → Leads w (makes_object program e contract tx s)
makes_keep program e contract tx s a =
    let k = then_follows a (follows_read e.world next_item) in
    leads_if _ _ _ (leads_abort _ k)
    (leads_if _ _ stuck (enters_keeps program _ contract tx by_new false (then_follows k (follows_make (with_read e.world next_item) (unfinished contract)))) (leads_stuck _))

-- Changes.

filled_keep : {w : World} (table : ClassTable) (c : Contract) (state : StateId) (h : Here) (gs : List Given) (got : Numbered Cell) (go : Here → Numbered Cell → NextStep) → Keeps w h.world → ((i : Here) (all : Numbered Cell) → Keeps w i.world → Leads w (go i all)) → Leads w (fill_all table c state h gs got go)
filled_keep table c state h [] got go a each = each h got a
filled_keep table c state h (g ∷ gs) got go a each =
    leads_there (slice_get c.fields g.field.0) _ (λ (f : Field). leads_there (read table h (located g.from)) _ (λ x.
    leads_if (has_field c (Some state) g.field.0) _ stuck
    (filled_keep table c state (hand f.of (located g.from) x h) gs (put got g.field.0 (got_from table f.of h (located g.from) x)) go
    (keeps_hand f.of (located g.from) x h a) each) (leads_stuck _)))

changed_keeps : {w : World} (own : Contract) (state : StateId) (rest : SilicaTerms) (outer : List Rest) (c : Configuration) (h : Here) (got : Numbered Cell) → Keeps w h.world → Leads w (change_with own state rest outer c h got)
changed_keeps own state rest outer c h got a =
    leads_there (self (changed_here own state got h)) _ (λ o.
    leads_if (has_all_values own o) (goes_to c (changed_here own state got h) (runs rest outer)) stuck
    (leads_goes _ (then_edits (self_of h.slots) a (follows_edit h.world (changed_object own state got) (self_of h.slots) (λ o. record { contract = refl; shared = λ e. e; disowned = λ e. e }) (spared_this h.world (self_of h.slots))))) (leads_stuck _))

change_keeps : (table : ClassTable) (state : StateId) (given : List Given) (rest : SilicaTerms) (outer : List Rest) (c : Configuration) → Leads c.world (change_step table state given rest outer c)
change_keeps table state given rest outer c =
    leads_there (contract_at table c.frame.contract) _ (λ own. leads_if (all_there table (here c) given) _ stuck
    (leads_if (is_locked_out c.frame (here c)) _ _ (leads_abort (by_state (self_of c.frame.slots) None) (keeps_self c.world))
    (filled_keep table own state (here c) given nothing _ (keeps_self c.world) (λ i got a. changed_keeps own state rest outer c i got a)))
    (leads_stuck _))

-- Tests.

tells_keep : {w : World} (c : Configuration) (h : Here) (t : StateTest) (x : Cell) (holds : Bool) → Keeps w h.world → Leads w (tells c h t x holds)
tells_keep c h t x holds a = leads_goes _ (keeps_permission t.place _ h a)

shared_this_keeps : {w : World} (c : Configuration) (h : Here) (t : StateTest) (holds : Bool) → Keeps w h.world → Leads w (test_shared_this c h t holds)
shared_this_keeps c h t true a = leads_goes _ (keeps_permission t.place _ h a)
shared_this_keeps c h t false a = leads_goes _ a

this_as_keeps : {w : World} (p : Permission) (c : Configuration) (h : Here) (t : StateTest) (x : Cell) (holds : Bool) → Keeps w h.world → Leads w (test_this_as p c h t x holds)
this_as_keeps shared c h t x holds a = shared_this_keeps c h t holds a
this_as_keeps (owned s) c h t x holds a = tells_keep c h t x holds a
this_as_keeps unowned c h t x holds a = tells_keep c h t x holds a

shared_keeps : {w : World} (c : Configuration) (h : Here) (t : StateTest) (n : ℕ) (holds : Bool) → Keeps w h.world → Leads w (test_shared c h t n holds)
shared_keeps c h t n true a = leads_goes _ (keeps_lock n (keeps_permission t.place _ h a))
shared_keeps c h t n false a = leads_goes _ a

this_keeps : {w : World} (c : Configuration) (h : Here) (t : StateTest) (x : Cell) (n : ℕ) (holds : Bool) → Keeps w h.world → Leads w (test_this c h t x n holds)
this_keeps c h t x n holds a =
    leads_if (is_locked_out c.frame h) _ _ (leads_abort (by_state n None) a) (this_as_keeps x.note.permission c h t x holds a)

other_keeps : {w : World} (c : Configuration) (h : Here) (t : StateTest) (x : Cell) (n : ℕ) (o : Object) (holds : Bool) → Keeps w h.world → Leads w (test_other c h t x n o holds)
other_keeps c h t x n o holds a =
    leads_if o.shared _ _
    (leads_if (is_locked h.world n || is_in_progress h.world n) _ _ (leads_abort (by_state n None) a) (shared_keeps c h t n holds a))
    (tells_keep c h t x holds a)

object_keeps : {w : World} (c : Configuration) (h : Here) (t : StateTest) (x : Cell) (n : ℕ) (o : Object) (holds : Bool) → Keeps w h.world → Leads w (test_object c h t x n o holds)
object_keeps c h t x n o holds a =
    leads_if (same_location t.place this) _ _ (this_keeps c h t x n holds a) (other_keeps c h t x n o holds a)

test_keeps : (table : ClassTable) (t : StateTest) (state : StateId) (c : Configuration) → Leads c.world (test_step table t state c)
test_keeps table t state c =
    leads_there (read table (here c) t.place) _ (λ x. leads_there (referred x.value) _ (λ n.
    leads_there (object_at c.world.objects n) _ (λ o.
    object_keeps c (reads_object (here c) n) t x n o (is_in table x.note.kind state o)
    (then_follows (keeps_self c.world) (follows_read_object c.world n)))))

-- Returns.

gives_this_keeps : (program : SilicaProgram) (s : Signature) (outer : List Rest) (c : Configuration) → Leads c.world (gives_this program s outer c)
gives_this_keeps program s outer c =
    leads_there (contract_at program.table c.frame.contract) _ (λ own. leads_there (self (here c)) _ (λ o.
    leads_there (read program.table (here c) this) _ (λ x.
    leads_if (is_finished own o) _ stuck
    (leads_goes _ (keeps_hand (TypedReference c.frame.contract s.exit) this x (here c) (keeps_self c.world))) (leads_stuck _))))

gives_none_keeps : (how : How) (program : SilicaProgram) (s : Signature) (outer : List Rest) (c : Configuration) → Leads c.world (gives_none how program s outer c)
gives_none_keeps by_receiver program s outer c = leads_goes _ (keeps_self c.world)
gives_none_keeps by_this program s outer c = leads_goes _ (keeps_self c.world)
gives_none_keeps by_new program s outer c = gives_this_keeps program s outer c

gives_keep : (program : SilicaProgram) (s : Signature) (result : Option ResolvedType) (place : Option Location) (outer : List Rest) (c : Configuration) → Leads c.world (gives_result program s result place outer c)
gives_keep program s result None outer c = gives_none_keeps c.frame.how program s outer c
gives_keep program s None (Some place) outer c =
    leads_there (read program.table (here c) place) _ (λ x. leads_goes _ (keeps_self c.world))
gives_keep program s (Some of) (Some place) outer c =
    leads_there (read program.table (here c) place) _ (λ x.
    leads_if (is_within program.table c.world.objects of x.value) _ stuck
    (leads_goes _ (keeps_hand of place x (here c) (keeps_self c.world))) (leads_stuck _))

return_keeps : (program : SilicaProgram) (place : Option Location) (outer : List Rest) (c : Configuration) → Leads c.world (return_step program place outer c)
return_keeps program place outer c = leads_there (signature_of program.table c.frame.contract c.frame.tx) _ (λ s.
    leads_if (exits_are_within program.table c s) _ stuck (gives_keep program s s.result place outer c) (leads_stuck _))

left_keeps : (c : Configuration) → Keeps c.world (left_world c)
left_keeps c = keeps_progress c.frame.how (self_of c.frame.slots) (keeps_self c.world)

back_keeps : (loans : List Loan) (result : Option Cell) (h : Waiting) (stack : List Waiting) (c : Configuration) → Leads c.world (gives_back loans result h stack c)
back_keeps [] result h stack c = leads_goes _ (left_keeps c)
back_keeps (loan ∷ loans) result h stack c = leads_goes _ (keeps_self c.world)

goes_back_keeps : (stack : List Waiting) (result : Option Cell) (c : Configuration) → Leads c.world (goes_back stack result c)
goes_back_keeps [] result c = leads_ended _ (left_keeps c)
goes_back_keeps (h ∷ stack) result c = back_keeps h.loans result h stack c

leave_keeps : (result : Option Cell) (outer : List Rest) (c : Configuration) → Leads c.world (leave_step result outer c)
leave_keeps result [] c = goes_back_keeps c.stack result c
leave_keeps result (r ∷ outer) c = leads_goes _ (keeps_end r.ends (here c) (keeps_self c.world))

-- Straight forms.

operated_keeps : {w : World} (line : ℕ) (o : Operated) (go : Value → NextStep) → ((v : Value) → Leads w (go v)) → Leads w (with_operated line w o go)
operated_keeps line (operated v) go each = each v
operated_keeps {w = w} line overflows go each = leads_abort _ (keeps_self w)
operated_keeps {w = w} line other_kinds go each = leads_stuck w

truth_keeps : {w : World} (v : Value) (x y : NextStep) → Leads w x → Leads w y → Leads w (with_truth v x y)
truth_keeps (bool_value true) x y a b = a
truth_keeps (bool_value false) x y a b = b
truth_keeps (int_value z) x y a b = leads_stuck _
truth_keeps (text_value bytes) x y a b = leads_stuck _
truth_keeps (reference n) x y a b = leads_stuck _

text_keeps : {w : World} (v : Value) (go : List ℕ → NextStep) → ((bytes : List ℕ) → Leads w (go bytes)) → Leads w (with_text v go)
text_keeps (text_value bytes) go each = each bytes
text_keeps (int_value z) go each = leads_stuck _
text_keeps (bool_value b) go each = leads_stuck _
text_keeps (reference n) go each = leads_stuck _

copy_keeps : {w : World} (table : ClassTable) (to : Location) (x : Cell) (h : Here) (go : Here → NextStep) → Keeps w h.world → ((i : Here) → Keeps w i.world → Leads w (go i)) → Leads w (copy_to table to x h go)
copy_keeps table (slot k) x h go a each = each _ a
copy_keeps table (field k) x h go a each = leads_there (available_field table h k) _ (λ f.
    each _ (keeps_field k (plain_cell x.value (kind_of_resolved f.of)) h a))

move_slot_keeps : {w : World} (table : ClassTable) (k : ℕ) (contract : Option ContractId) (place : Location) (x : Cell) (h : Here) (go : Here → NextStep) → Keeps w h.world → ((i : Here) → Keeps w i.world → Leads w (go i)) → Leads w (move_to_slot table k contract place x h go)
move_slot_keeps table k None place x h go a each = leads_stuck _
move_slot_keeps table k (Some id) place x h go a each = each _ (keeps_permission place _ h a)

move_keeps : {w : World} (table : ClassTable) (to : Location) (contract : Option ContractId) (place : Location) (x : Cell) (h : Here) (go : Here → NextStep) → Keeps w h.world → ((i : Here) → Keeps w i.world → Leads w (go i)) → Leads w (move_to table to contract place x h go)
move_keeps table (slot k) contract place x h go a each = move_slot_keeps table k contract place x h go a each
move_keeps table (field k) contract place x h go a each = leads_there (available_field table h k) _ (λ f.
    each _ (keeps_field k (got_from table f.of h place x) (hand f.of place x h) (keeps_hand f.of place x h a)))

disowns_keep : {w : World} (place : Location) (x : Cell) (h : Here) (go : Here → NextStep) → Keeps w h.world → ((i : Here) → Keeps w i.world → Leads w (go i)) → Leads w (disowns_object place x h go)
disowns_keep place x h go a each = leads_there _ _ (λ n. each _ (keeps_permission place _ _ (then_follows a (follows_mark_disowned h.world n))))

call_keeps : (program : SilicaProgram) (result : Option ℕ) (receiver : Location) (contract : ContractId) (tx : TxId) (args : List Location) (rest : SilicaTerms) (outer : List Rest) (c : Configuration) → Leads c.world (call_step program result receiver contract tx args rest outer c)
call_keeps program result receiver contract tx args rest outer c =
    leads_there (signature_of program.table contract tx) _ (λ s.
    leads_there (read program.table (here c) receiver) _ (λ x. leads_there (referred x.value) _ (λ n.
    bound_keeps program.table (unbound (here c)) (receiver ∷ args) 0 (all_parameters contract s) _ (keeps_self c.world) (λ b a.
    leads_unit b.from.world _ a (λ u k. calls_keep program (entered_with c b rest outer result u) contract tx s n k)))))

call_this_keeps : (program : SilicaProgram) (result : Option ℕ) (tx : TxId) (args : List Location) (rest : SilicaTerms) (outer : List Rest) (c : Configuration) → Leads c.world (call_this_step program result tx args rest outer c)
call_this_keeps program result tx args rest outer c =
    leads_there _ _ (λ s.
    bound_keeps program.table (unbound (here c)) (this ∷ args) 0 (all_parameters c.frame.contract s) _ (keeps_self c.world) (λ b a.
    leads_unit b.from.world _ a (λ u k. calls_this_keep program (entered_with c (without_field_loans b) rest outer result u) c.frame tx s k)))

new_keeps : (program : SilicaProgram) (k : ℕ) (contract : ContractId) (args : List Location) (rest : SilicaTerms) (outer : List Rest) (c : Configuration) → Leads c.world (new_step program k contract args rest outer c)
new_keeps program k contract args rest outer c =
    leads_there _ _ (λ s.
    bound_keeps program.table (unbound (here c)) args 1 (parameters s) _ (keeps_self c.world) (λ b a.
    leads_unit b.from.world _ a (λ u i. makes_keep program (entered_with c b rest outer (Some k) u) contract constructor_id s i)))

-- All forms, and any number of steps.

act_keeps : (program : SilicaProgram) (form : SilicaForm) (rest : SilicaTerms) (outer : List Rest) (c : Configuration) → Leads c.world (act program form rest outer c)
act_keeps program unit_form rest outer c = leads_unit c.world _ (keeps_self c.world) (λ u k. leads_goes _ k)
act_keeps program (const_form k value) rest outer c = leads_goes _ (keeps_self c.world)
act_keeps program (op_form k operator a b line) rest outer c =
    leads_there (read program.table (here c) (located a)) _ (λ x. leads_there (read program.table (here c) (located b)) _ (λ y. operated_keeps line _ _ (λ v. leads_goes _ (keeps_self c.world))))
act_keeps program (copy_form to from) rest outer c =
    leads_there (read program.table (here c) (located from)) _ (λ x. copy_keeps program.table (location_of to) x (here c) _ (keeps_self c.world) (λ i k. leads_to c i (runs rest outer) k))
act_keeps program (move_form to from contract) rest outer c =
    leads_there (read program.table (here c) (located from)) _ (λ x. move_keeps program.table (location_of to) contract (located from) x (here c) _ (keeps_self c.world) (λ i k. leads_to c i (runs rest outer) k))
act_keeps program (new_form k contract args) rest outer c = new_keeps program k contract (all_located args) rest outer c
act_keeps program (call_form result receiver contract tx args) rest outer c =
    call_keeps program result (located receiver) contract tx (all_located args) rest outer c
act_keeps program (call_this_form result tx args) rest outer c = call_this_keeps program result tx (all_located args) rest outer c
act_keeps program (change_form state given) rest outer c = change_keeps program.table state given rest outer c
act_keeps program (test_form place state branch other join) rest outer c = test_keeps program.table _ state c
act_keeps program (if_form a branch other join) rest outer c =
    leads_there (read program.table (here c) (located a)) _ (λ x. truth_keeps x.value _ _ (leads_goes _ (keeps_self c.world)) (leads_goes _ (keeps_self c.world)))
act_keeps program (loop_form first a body end) rest outer c = leads_goes _ (keeps_self c.world)
act_keeps program (assert_form place perm) rest outer c = leads_goes _ (keeps_self c.world)
act_keeps program (disown_form place) rest outer c =
    leads_there (read program.table (here c) (located place)) _ (λ x. disowns_keep (located place) x (here c) _ (keeps_self c.world) (λ i k. leads_to c i (runs rest outer) k))
act_keeps program (drop_form k) rest outer c = leads_goes _ (keeps_self c.world)
act_keeps program (return_form place) rest outer c = return_keeps program (option_map located place) outer c
act_keeps program (revert_form text) rest outer c =
    leads_there (read program.table (here c) (located text)) _ (λ x. text_keeps x.value _ (λ bytes. leads_abort _ (keeps_self c.world)))
act_keeps program bad_row_form rest outer c = leads_stuck _

end_keeps : (program : SilicaProgram) (ends : Ends) (rest : SilicaTerms) (outer : List Rest) (c : Configuration) → Leads c.world (end_step program ends rest outer c)
end_keeps program plain_end rest outer c = leads_goes _ (keeps_self c.world)
end_keeps program (test_end place) rest outer c = leads_goes _ (keeps_end (test_end place) (here c) (keeps_self c.world))
end_keeps program (lock_end place n) rest outer c = leads_goes _ (keeps_end (lock_end place n) (here c) (keeps_self c.world))
end_keeps program (loop_end first a body end) rest outer c =
    leads_there (read program.table (here c) (located a)) _ (λ x. truth_keeps x.value _ _ (leads_goes _ (keeps_self c.world)) (leads_goes _ (keeps_self c.world)))

pop_keeps : (program : SilicaProgram) (outer : List Rest) (c : Configuration) → Leads c.world (pop_step program outer c)
pop_keeps program [] c = leads_stuck _
pop_keeps program (r ∷ outer) c = end_keeps program r.ends r.terms outer c

run_keeps : (program : SilicaProgram) (terms : SilicaTerms) (outer : List Rest) (c : Configuration) → Leads c.world (run_step program terms outer c)
run_keeps program no_terms outer c = pop_keeps program outer c
run_keeps program (and_term form span rest) outer c = act_keeps program form rest outer c

control_keeps : (program : SilicaProgram) (control : Control) (c : Configuration) → Leads c.world (control_step program control c)
control_keeps program (runs terms outer) c = run_keeps program terms outer c
control_keeps program (leaves result outer) c = leave_keeps result outer c

pub step_keeps : (program : SilicaProgram) (c : Configuration) → Leads c.world (step program c)
step_keeps program c = control_keeps program c.control c

leads_after : {w v : World} (next : NextStep) → Keeps w v → Leads v next → Leads w next
leads_after (goes c) a b = record { by = keeps_then a b.by }
leads_after (ended result u) a b = record { by = keeps_then a b.by }
leads_after (aborted cause s) a b = record { by = tells_then a b.by }
leads_after stuck a b = leads_stuck _

then_leads : {w : World} (next : NextStep) (go : Configuration → NextStep) → Leads w next → ((c : Configuration) → Leads c.world (go c)) → Leads w (then_steps next go)
then_leads (goes c) go a each = leads_after (go c) a.by (each c)
then_leads (ended result u) go a each = a
then_leads (aborted cause s) go a each = a
then_leads stuck go a each = a

pub steps_keep : (program : SilicaProgram) (n : ℕ) (c : Configuration) → Leads c.world (steps program n c)
steps_keep program zero c = leads_goes c (keeps_self c.world)
steps_keep program (suc n) c = then_leads (step program c) (steps program n) (step_keeps program c) (steps_keep program n)

-- Runs from outside.

passed_keeps : {w : World} (vs : List Value) (k : ℕ) (ps : List Parameter) (slots : SlotCells) (v : World) (go : SlotCells → World → NextStep) → Keeps w v → ((s : SlotCells) (u : World) → Keeps w u → Leads w (go s u)) → Leads w (pass_all vs k ps slots v go)
passed_keeps [] k [] slots v go a each = each slots v a
passed_keeps [] k (p ∷ ps) slots v go a each = leads_stuck _
passed_keeps (x ∷ vs) k [] slots v go a each = leads_stuck _
passed_keeps (x ∷ vs) k (p ∷ ps) slots v go a each =
    passed_keeps vs (suc k) ps (at slots k (Some (bound_cell p.of x))) (comes_into p.of x v) go (then_follows a (follows_into v p.of x)) each

pub started_call_keeps : (program : SilicaProgram) (contract : ContractId) (tx : TxId) (n : ℕ) (args : List Value) (notes : Notes) (w : World) → Leads w (started_call program contract tx n args notes w)
started_call_keeps program contract tx n args notes w =
    leads_there (signature_of program.table contract tx) _ (λ s.
    passed_keeps (reference n ∷ args) 0 (this_parameter contract s ∷ parameters s) nothing w _ (keeps_self w) (λ slots v a.
    leads_unit v _ a (λ u k. calls_keep program (alone slots notes u) contract tx s n k)))

pub started_new_keeps : (program : SilicaProgram) (contract : ContractId) (args : List Value) (notes : Notes) (w : World) → Leads w (started_new program contract args notes w)
started_new_keeps program contract args notes w =
    leads_there (constructor_at program.table contract) _ (λ s.
    passed_keeps args 1 (parameters s) nothing w _ (keeps_self w) (λ slots v a.
    leads_unit v _ a (λ u k. makes_keep program (alone slots notes u) contract constructor_id s k)))

pub run_keeps_all : {w : World} (program : SilicaProgram) (next : NextStep) (most : ℕ) → Leads w next → Leads w (then_steps next (steps program most))
run_keeps_all program next most a = then_leads next (steps program most) a (steps_keep program most)
