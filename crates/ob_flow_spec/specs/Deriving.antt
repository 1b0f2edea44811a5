-- Which terms derive: the context after each form, or the first premise that fails (Coblenz et al., TOPLAS 42(3), 2020,
-- "Silica"; the premises and their order are this project's own).
use Rattle.std.specs.Prelude.{◌≡◌, [], Option, Some, None, option_map, Result, Ok, Err, IsOk}
use Rattle.std.specs.Option.{option_and_then, option_map_or}
use Rattle.ob_base.specs.Faults.{bad_transition}
use Rattle.ob_base.specs.declared.fault.ProgramFault.{ProgramFault}
use Rattle.ob_base.specs.declared.fault.Span.{Span}
use Rattle.ob_base.specs.declared.id.TxId.{TxId}
use Rattle.ob_table.specs.Tables.{ClassTable, contract_at, signature_at, signature_of}
use Rattle.ob_silica.specs.Terms.{SilicaForm, unit_form, const_form, op_form, copy_form, move_form, new_form, call_form, call_this_form, change_form, test_form, if_form, loop_form, assert_form, disown_form, drop_form, return_form, revert_form, bad_row_form, SilicaTerms, no_terms, and_term, SilicaBody}
use Rattle.ob_silica_places.specs.Known.{kind_of_constant, kind_of_operator}
use Rattle.ob_silica_places.specs.Places.{slot, located, location_of}
use Rattle.ob_flow_spec.specs.Premises.{checked, ◌>>=◌}
use Rattle.ob_flow_spec.specs.Contexts.{BodyFrame, Context, put, now, counted, TestedPlaces, beginning}
use Rattle.ob_flow_spec.specs.Uses.{uses_place}
use Rattle.ob_flow_spec.specs.Binding.{read_of}
use Rattle.ob_flow_spec.specs.Straight.{put_value, operates_on, copies_place, after_copy, moves_place, after_move, asserts_permission, disowns_place, drops_slot}
use Rattle.ob_flow_spec.specs.Calling.{makes_object, after_new, calls_object, after_call, calls_this, after_call_on_this}
use Rattle.ob_flow_spec.specs.Changing.{changes_state, after_change}
use Rattle.ob_flow_spec.specs.Returning.{returns_result}
use Rattle.ob_flow_spec.specs.Joining.{joined_branches}
use Rattle.ob_flow_spec.specs.Looping.{head_context, frame_is_as_at_head_if}
use Rattle.ob_flow_spec.specs.Testing.{tests_state, in_tested_state, in_other_state, tested_with, first_branch_ended, this_left}
use Rattle.ob_perm.specs.Permissions.{unowned}

-- The outcome of a derivation: the context after, or that nothing is reached after; or the fault of the first premise
-- that fails.
abbrev pub Derived : Type 0
Derived = Result (Option Context) ProgramFault

-- what follows if the point after is reached
abbrev pub if_reached : Option Context → (Context → Derived) → Derived
if_reached None go = Ok None
if_reached (Some g) go = go g

-- the number of a constructor
abbrev pub constructor : TxId
constructor = record { 0 = 0 }

abbrev mutual
  -- A form, with its span, after a context. A form that names a transaction that the table doesn't have
  -- says nothing.
  pub derive : BodyFrame → TestedPlaces → SilicaForm → Span → Context → Derived
  derive b ts unit_form at g = Ok (Some g)
  derive b ts (const_form k value) at g = Ok (Some (put_value g k (kind_of_constant value)))
  derive b ts (op_form k operator x y line) at g =
      checked (operates_on b g x y) (Some (put_value g k (kind_of_operator operator)))
  derive b ts (copy_form to from) at g =
      checked (copies_place b g at (location_of to) from) (Some (after_copy b g (location_of to) from))
  derive b ts (move_form to from contract) at g =
      checked (moves_place b ts g at (location_of to) from) (Some (after_move b g (location_of to) from contract))
  derive b ts (new_form k contract args) at g =
      option_map_or (λ s. checked (makes_object b ts g s args) (Some (after_new b g k contract s args)))
      (signature_of b.table contract constructor) (Ok (Some g))
  derive b ts (call_form k receiver contract tx args) at g =
      option_map_or (λ s. checked (calls_object b ts g receiver contract s args) (Some (after_call b g k receiver contract s args)))
      (signature_of b.table contract tx) (Ok (Some g))
  derive b ts (call_this_form k tx args) at g =
      option_map_or (λ s. checked (calls_this b ts g at s args) (Some (after_call_on_this b g at k s args)))
      (signature_at b.own tx) (Ok (Some g))
  derive b ts (change_form state given) at g = checked (changes_state b ts g at state given) (Some (after_change b g state given))
  derive b ts (test_form o state branch other join) at g =
      checked (tests_state b ts g o) g
      >>= (λ h. derive_all b (tested_with (counted h (located o)) (located o) ts) branch
      (in_tested_state (counted h (located o)) state (located o) h)
      >>= (λ left. first_branch_ended (counted h (located o)) o left
      >>= (λ first. derive_all b ts other (in_other_state (counted h (located o)) state (located o) h)
      >>= (λ second. joined_branches b (this_left left) first second join))))
  derive b ts (if_form a branch other join) at g =
      checked (uses_place b g (read_of a)) g
      >>= (λ h. derive_all b ts branch h
      >>= (λ first. derive_all b ts other h
      >>= (λ second. joined_branches b (this_left first) first second join)))
  derive b ts (loop_form first a body end) at g =
      derive_all b ts first (head_context b first body g)
      >>= (λ left. if_reached left (λ h. checked (uses_place b h (read_of a)) h
      >>= (λ h. derive_all b ts body h
      >>= (λ turned. checked (frame_is_as_at_head_if b (head_context b first body g) turned end) (Some h)))))
  derive b ts (assert_form o perm) at g = checked (asserts_permission b g o perm) (Some g)
  derive b ts (disown_form o) at g = checked (disowns_place b ts g o) (Some (now g (located o) unowned))
  derive b ts (drop_form k) at g = checked (drops_slot b ts g at k) (Some (put g (slot k) None))
  derive b ts (return_form value) at g = checked (returns_result b ts g at value) None
  derive b ts (revert_form text) at g = checked (uses_place b g (read_of text)) None
  derive b ts bad_row_form at g = Err (record { number = bad_transition; span = at })

  -- forms one after another; after one that ends nothing is looked at
  pub derive_all : BodyFrame → TestedPlaces → SilicaTerms → Context → Derived
  derive_all b ts no_terms g = Ok (Some g)
  derive_all b ts (and_term form at rest) g =
      derive b ts form at g >>= (λ left. if_reached left (λ h. derive_all b ts rest h))

-- Bodies.

-- a body in its frame, from its beginning
abbrev pub derive_in : BodyFrame → SilicaTerms → Derived
derive_in b terms = derive_all b [] terms (beginning b)

-- the frame of a body of a table
abbrev pub body_frame : ClassTable → SilicaBody → Option BodyFrame
body_frame table body =
    option_and_then (λ own. option_map (λ s. record {
      table = table;
      here = body.contract;
      own = own;
      tx = body.tx;
      signature = s;
      slots = body.slots;
    }) (signature_at own body.tx)) (contract_at table body.contract)

-- The outcome of a body. One of no transaction and no constructor of the table says nothing.
abbrev pub derive_body : ClassTable → SilicaBody → Derived
derive_body table body = option_map_or (λ b. derive_in b body.terms) (body_frame table body) (Ok None)

-- The body derives: no premise fails.
abbrev pub Derives : ClassTable → SilicaBody → Type 0
Derives table body = IsOk (derive_body table body)

-- The body doesn't derive, and this is the fault of the first premise that fails, of the first form that doesn't derive
-- from the context before it.
abbrev pub IsFlowFault : ClassTable → SilicaBody → ProgramFault → Type 0
IsFlowFault table body fault = derive_body table body ≡ Err fault
