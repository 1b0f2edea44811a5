-- Bodies of transactions that no accepted program has: each goes wrong in one way, and beside it stands what mends it (this
-- project's own program).
use Rattle.std.specs.Prelude.{ℕ, pos, true, false, List, [], ◌∷◌, ◌++◌, Option, Some, None}
use Rattle.ob_base.specs.declared.permission.Perm.{Perm}
use Rattle.ob_table.specs.Expressions.{resolved_number, resolved_call, resolved_new, arguments}
use Rattle.ob_table.specs.Statements.{GivenField, Statement, resolved_assign, resolved_stage, resolved_change, resolved_discard, resolved_return, resolved_assert, ResolvedBody}
use Rattle.ob_table.specs.Tables.{ClassTable}
use Rattle.ob_table.specs.declared.seen.SeenAt.{SeenAt}
use Rattle.ob_table.specs.declared.contract.ResolvedType.{ResolvedType}
use Rattle.ob_table.specs.declared.contract.ResolvedType.TheVariants.{Int, Reference}
use Rattle.ob_table.specs.declared.contract.Signature.{Signature}
use Rattle.ob_table.specs.declared.contract.Contract.{Contract}
use Rattle.ob_heap_spec.specs.Values.{int_value, reference, nothing, put}
use Rattle.ob_heap_spec.specs.Objects.{Object}
use Rattle.ob_heap_spec.specs.Worlds.{object_item}
use Rattle.ob_examples.specs.Written.{on_line, contract_number, field_number, state_of_number, transaction_number, owner_in, as_unowned, stateless_bit, this_at, local_at, field_at_line, value_at, param, signature, default_constructor, body, Told, tells, told, spending, run_on_store}

-- The jar.

-- `transaction look(Jar@Unowned this) returns int { return n; }`
abbrev pub look : ℕ
look = 1

-- `transaction open_empty(Jar@Shut >> Open this) { ->Open; }`
abbrev pub open_empty : ℕ
open_empty = 2

-- `transaction shut(Jar@Open >> Shut this) { ->Shut; }`
abbrev pub shut : ℕ
shut = 3

-- `transaction stay_shut(Jar@Shut >> Open this) { }`
abbrev pub stay_shut : ℕ
stay_shut = 4

-- `transaction half_fill(Jar@Shut this) { Open::n = 1; }`
abbrev pub half_fill : ℕ
half_fill = 5

-- `transaction fill(Jar@Shut >> Open this) { Open::n = 1; ->Open; }`
abbrev pub fill : ℕ
fill = 6

-- `transaction set_one(Jar@Unowned this) { n = 1; }`
abbrev pub set_one : ℕ
set_one = 7

-- `transaction shut_with_one(Jar@Open >> Shut this) { ->Shut(n = 1); }`
abbrev pub shut_with_one : ℕ
shut_with_one = 8

-- `transaction shut_twice(Jar@Open >> Shut this) { shut(); shut(); }`
abbrev pub shut_twice : ℕ
shut_twice = 9

-- `transaction shut_once(Jar@Open >> Shut this) { shut(); }`
abbrev pub shut_once : ℕ
shut_once = 10

-- `transaction fill_late(Jar@Shut >> Open this) { Open::n = 1; [this @ Owned]; ->Open; }`
abbrev pub fill_late : ℕ
fill_late = 11

-- `contract Jar { state Open { int n; } state Shut; Jar@Shut() { ->Shut; } .. }`, with these transactions
abbrev pub jar : Contract
jar = record {
  name = 74 ∷ [];
  asset = false;
  main = true;
  interface = false;
  implements = None;
  states = (79 ∷ []) ∷ (83 ∷ []) ∷ [];
  fields = record { name = 110 ∷ []; of = Int; available = 1 } ∷ [];
  constructor = Some (record { 0 = 0 });
  transactions =
      signature [] as_unowned (owner_in 2) [] None
      ∷ signature (108 ∷ []) as_unowned as_unowned [] (Some Int)
      ∷ signature (111 ∷ []) (owner_in 2) (owner_in 1) [] None
      ∷ signature (115 ∷ []) (owner_in 1) (owner_in 2) [] None
      ∷ signature (116 ∷ []) (owner_in 2) (owner_in 1) [] None
      ∷ signature (104 ∷ []) (owner_in 2) (owner_in 2) [] None
      ∷ signature (102 ∷ []) (owner_in 2) (owner_in 1) [] None
      ∷ signature (97 ∷ []) as_unowned as_unowned [] None
      ∷ signature (103 ∷ []) (owner_in 1) (owner_in 2) [] None
      ∷ signature (119 ∷ []) (owner_in 1) (owner_in 2) [] None
      ∷ signature (99 ∷ []) (owner_in 1) (owner_in 2) [] None
      ∷ signature (112 ∷ []) (owner_in 2) (owner_in 1) [] None
      ∷ [];
}

-- `n = 1`, where a change of state gives it
abbrev pub given_one : GivenField
given_one = record { field = field_number 0; span = on_line 1; value = resolved_number (pos 1) (on_line 1) }

-- `Open::n = 1;`
abbrev pub staged_one : Statement
staged_one = resolved_stage (state_of_number 0) given_one (on_line 1)

-- `n = 1;`
abbrev pub assigned_one : Statement
assigned_one = resolved_assign (field_at_line 0 1) (resolved_number (pos 1) (on_line 1)) (on_line 1)

-- `->Open;`
abbrev pub opening : Statement
opening = resolved_change (state_of_number 0) [] (on_line 1)

-- `->Shut;`
abbrev pub shutting : Statement
shutting = resolved_change (state_of_number 1) [] (on_line 1)

-- `->Shut(n = 1);`
abbrev pub shutting_with : Statement
shutting_with = resolved_change (state_of_number 1) (given_one ∷ []) (on_line 1)

-- `shut();` on `this`, or on the jar of a name
abbrev pub call_of_shut : Option SeenAt → Statement
call_of_shut receiver = resolved_discard
    (resolved_call receiver (contract_number 0) (transaction_number shut) (on_line 1) (arguments []) (on_line 1)) (on_line 1)

-- `[this @ Owned];`
abbrev pub asserted : Statement
asserted = resolved_assert (this_at 1) (owner_in 3) (on_line 1)

-- the bodies of the jar
abbrev pub jar_bodies : List ResolvedBody
jar_bodies =
    body 0 0 (shutting ∷ [])
    ∷ body 0 look (resolved_return (Some (value_at (field_at_line 0 1))) (on_line 1) ∷ [])
    ∷ body 0 open_empty (opening ∷ [])
    ∷ body 0 shut (shutting ∷ [])
    ∷ body 0 stay_shut []
    ∷ body 0 half_fill (staged_one ∷ [])
    ∷ body 0 fill (staged_one ∷ opening ∷ [])
    ∷ body 0 set_one (assigned_one ∷ [])
    ∷ body 0 shut_with_one (shutting_with ∷ [])
    ∷ body 0 shut_twice (call_of_shut None ∷ call_of_shut None ∷ [])
    ∷ body 0 shut_once (call_of_shut None ∷ [])
    ∷ body 0 fill_late (staged_one ∷ asserted ∷ opening ∷ [])
    ∷ []

-- A shelf, to whose transactions a jar is passed, and a label for a jar.

-- a transaction to which a jar is passed, with its permission at the call and at the return
abbrev pub taking_jar : ℕ → Perm → Perm → Option ResolvedType → Signature
taking_jar letter entry exit result =
    signature (letter ∷ []) as_unowned as_unowned (param (Reference (contract_number 0) entry) exit ∷ []) result

-- `transaction take_open(Jar@Open >> Unowned j) { }`
abbrev pub take_open : ℕ
take_open = 1

-- `transaction leave_open(Jar@Open >> Shut j) { }`
abbrev pub leave_open : ℕ
leave_open = 2

-- `transaction leave_shut(Jar@Open >> Shut j) { j.shut(); }`
abbrev pub leave_shut : ℕ
leave_shut = 3

-- `transaction give_back(Jar@Unowned j) returns Jar@Open { return j; }`
abbrev pub give_back : ℕ
give_back = 4

-- `transaction shut_it(Jar@Unowned j) { j.shut(); }`
abbrev pub shut_it : ℕ
shut_it = 5

-- `transaction label_it(Jar@Unowned j) { new Label(j); }`
abbrev pub label_it : ℕ
label_it = 6

-- `contract Shelf { .. }`, with these transactions
abbrev pub shelf : Contract
shelf = record {
  name = 72 ∷ [];
  asset = false;
  main = false;
  interface = false;
  implements = None;
  states = [];
  fields = [];
  constructor = Some (record { 0 = 0 });
  transactions =
      default_constructor
      ∷ taking_jar 116 (owner_in 1) as_unowned None
      ∷ taking_jar 107 (owner_in 1) (owner_in 2) None
      ∷ taking_jar 99 (owner_in 1) (owner_in 2) None
      ∷ taking_jar 103 as_unowned as_unowned (Some (Reference (contract_number 0) (owner_in 1)))
      ∷ taking_jar 112 as_unowned as_unowned None
      ∷ taking_jar 119 as_unowned as_unowned None
      ∷ [];
}

-- `contract Label { Label@Owned(Jar@Open >> Unowned j) { } }`
abbrev pub label : Contract
label = record shelf {
  name = 76 ∷ [];
  transactions =
      signature [] as_unowned (owner_in stateless_bit)
      (param (Reference (contract_number 0) (owner_in 1)) as_unowned ∷ []) None
      ∷ [];
}

-- `new Label(j);`
abbrev pub labelling : Statement
labelling = resolved_discard
    (resolved_new (contract_number 2) (arguments (value_at (local_at 1 1) ∷ [])) (on_line 1)) (on_line 1)

-- the bodies of the shelf and the label
abbrev pub shelf_bodies : List ResolvedBody
shelf_bodies =
    body 1 0 []
    ∷ body 1 take_open []
    ∷ body 1 leave_open []
    ∷ body 1 leave_shut (call_of_shut (Some (local_at 1 1)) ∷ [])
    ∷ body 1 give_back (resolved_return (Some (value_at (local_at 1 1))) (on_line 1) ∷ [])
    ∷ body 1 shut_it (call_of_shut (Some (local_at 1 1)) ∷ [])
    ∷ body 1 label_it (labelling ∷ [])
    ∷ body 2 0 []
    ∷ []

-- the program
abbrev pub mistakes : ClassTable
mistakes = record { contracts = jar ∷ shelf ∷ label ∷ []; bodies = jar_bodies ++ shelf_bodies }

-- Its runs.

-- a jar that is shut
abbrev pub shut_jar : Object
shut_jar = record {
  contract = contract_number 0;
  state = Some (state_of_number 1);
  fields = nothing;
  shared = false;
  disowned = false;
}

-- a jar that is open, with 1
abbrev pub open_jar : Object
open_jar = record shut_jar { state = Some (state_of_number 0); fields = put nothing 0 (int_value (pos 1)) }

-- a transaction of a jar, with so many units
abbrev pub run_on_jar : ℕ → Object → ℕ → Told
run_on_jar units o tx = told mistakes (run_on_store mistakes units (o ∷ []) 0 0 tx [])

-- a transaction of a jar that is shut
abbrev pub of_shut_jar : ℕ → Told
of_shut_jar tx = run_on_jar 20 shut_jar tx

-- a transaction of a jar that is open
abbrev pub of_open_jar : ℕ → Told
of_open_jar tx = run_on_jar 20 open_jar tx

-- the jar is open, and has 1
abbrev pub jar_is_filled : Told
jar_is_filled = tells None
    (record { contract = 0; state = 0; fields = Some (int_value (pos 1)) ∷ []; shared = false; disowned = false } ∷ [])
    (spending 3 (object_item 0 ∷ []))

-- a shelf
abbrev pub empty_shelf : Object
empty_shelf = record { contract = contract_number 1; state = None; fields = nothing; shared = false; disowned = false }

-- a transaction of a shelf to which a jar is passed
abbrev pub of_shelf_with : Object → ℕ → Told
of_shelf_with o tx = told mistakes (run_on_store mistakes 20 (o ∷ empty_shelf ∷ []) 1 1 tx (reference 0 ∷ []))
