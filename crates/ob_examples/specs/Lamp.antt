-- A lamp whose bodies have what the other programs don't: early stops, branches, staged statements, a text, a row of staged
-- statements that is refused (this project's own program).
use Rattle.std.specs.Prelude.{ℕ, ℤ, pos, true, false, Bool, List, [], ◌∷◌, Some, None}
use Rattle.ob_table.specs.declared.operator.BinaryOperator.{BinaryOperator}
use Rattle.ob_table.specs.declared.operator.BinaryOperator.TheVariants.{Add, Greater}
use Rattle.ob_table.specs.declared.operator.LogicalOperator.{LogicalOperator}
use Rattle.ob_table.specs.declared.operator.LogicalOperator.TheVariants.{And, Or}
use Rattle.ob_table.specs.declared.operator.UnaryOperator.TheVariants.{Not, Negate}
use Rattle.ob_table.specs.Expressions.{Expression, resolved_number, resolved_text, resolved_bool, resolved_unary, resolved_binary, resolved_logical, resolved_call, arguments}
use Rattle.ob_table.specs.Statements.{GivenField, Statement, resolved_declare, resolved_assign, resolved_stage, resolved_change, resolved_if, resolved_return, resolved_revert, Block, resolved_block, otherwise_block, statements}
use Rattle.ob_table.specs.Tables.{ClassTable}
use Rattle.ob_table.specs.declared.contract.Contract.{Contract}
use Rattle.ob_table.specs.declared.contract.ResolvedType.TheVariants.{Int, Bool as BoolKind}
use Rattle.ob_table.specs.declared.seen.Kind.TheVariants.{Int as IntLocal}
use Rattle.ob_heap_spec.specs.Values.{Value, int_value, bool_value, nothing, put}
use Rattle.ob_heap_spec.specs.Objects.{Object}
use Rattle.ob_heap_spec.specs.Worlds.{by_revert, object_item}
use Rattle.ob_examples.specs.Written.{on_line, contract_number, field_number, state_of_number, transaction_number, owner_in, as_unowned, anywhere_bits, local_at, field_at_line, value_at, param, signature, body, Told, tells, tells_abort, told, spending, run_on_store}

-- The program.

-- `state On { int level; int mark; } state Off; int uses;`, the constructor, and four transactions: `light` from Off to On
-- of a number and a truth, `twice` in On, `fail`, and `bad` from Off to On
abbrev pub lamp_contract : Contract
lamp_contract = record {
  name = 76 ∷ [];
  asset = false;
  main = true;
  interface = false;
  implements = None;
  states = (78 ∷ []) ∷ (70 ∷ []) ∷ [];
  fields =
      record { name = 108 ∷ []; of = Int; available = 1 }
      ∷ record { name = 109 ∷ []; of = Int; available = 1 }
      ∷ record { name = 117 ∷ []; of = Int; available = anywhere_bits }
      ∷ [];
  constructor = Some (transaction_number 0);
  transactions =
      signature [] as_unowned (owner_in 2) [] None
      ∷ signature (108 ∷ []) (owner_in 2) (owner_in 1) (param Int as_unowned ∷ param BoolKind as_unowned ∷ []) (Some Int)
      ∷ signature (116 ∷ []) (owner_in 1) (owner_in 1) [] (Some Int)
      ∷ signature (102 ∷ []) as_unowned as_unowned [] None
      ∷ signature (98 ∷ []) (owner_in 2) (owner_in 1) [] None
      ∷ [];
}

-- an expression of two others, on a line
abbrev pub both_of : BinaryOperator → ℕ → Expression → Expression → Expression
both_of operator n a b = resolved_binary operator (on_line n) a b (on_line n)

-- `&&` or `||` of two others, on a line
abbrev pub logical_on : LogicalOperator → ℕ → Expression → Expression → Expression
logical_on operator n a b = resolved_logical operator (on_line n) a b (on_line n)

-- a number, and the value of a local, on a line
abbrev pub number_on : ℤ → ℕ → Expression
number_on z n = resolved_number z (on_line n)

-- the value of a local on a line
abbrev pub local_on : ℕ → ℕ → Expression
local_on k n = value_at (local_at k n)

-- `b && n > 0 || !b` on line 7
abbrev pub condition : Expression
condition =
    logical_on Or 7 (logical_on And 7 (local_on 2 7) (both_of Greater 7 (local_on 1 7) (number_on (pos 0) 7)))
    (resolved_unary Not (on_line 7) (local_on 2 7) (on_line 7))

-- a field that is given a value, on a line
abbrev pub gives_on : ℕ → Expression → ℕ → GivenField
gives_on k value n = record { field = field_number k; span = on_line n; value = value }

-- `int m = n; On::level = m + 1; On::mark = m; ->On;` on lines 8 to 11, with the closing brace on line 12
abbrev pub first_branch : Block
first_branch = resolved_block (statements
    (resolved_declare 3 (on_line 8) IntLocal (local_on 1 8) (on_line 8)
    ∷ resolved_stage (state_of_number 0) (gives_on 0 (both_of Add 9 (local_on 3 9) (number_on (pos 1) 9)) 9) (on_line 9)
    ∷ resolved_stage (state_of_number 0) (gives_on 1 (local_on 3 10) 10) (on_line 10)
    ∷ resolved_change (state_of_number 0) [] (on_line 11)
    ∷ [])) (on_line 12)

-- `On::level = 2; ->On(mark = -n);` on lines 13 and 14, with the closing brace on line 15
abbrev pub second_branch : Block
second_branch = resolved_block (statements
    (resolved_stage (state_of_number 0) (gives_on 0 (number_on (pos 2) 13) 13) (on_line 13)
    ∷ resolved_change (state_of_number 0)
    (gives_on 1 (resolved_unary Negate (on_line 14) (local_on 1 14) (on_line 14)) 14 ∷ []) (on_line 14)
    ∷ [])) (on_line 15)

-- a block of one statement on a line
abbrev pub one_on : ℕ → Statement → Block
one_on n s = resolved_block (statements (s ∷ [])) (on_line n)

-- the class table: `uses = 0; ->Off;`; the `if`, `uses = uses + 1; return twice();`; `return level + mark;`;
-- `if (true) { revert; } else { revert "no"; }`; `On::level = 1; ->Off;`
abbrev pub lamp : ClassTable
lamp = record {
  contracts = lamp_contract ∷ [];
  bodies =
      body 0 0
      (resolved_assign (field_at_line 2 5) (number_on (pos 0) 5) (on_line 5)
      ∷ resolved_change (state_of_number 1) [] (on_line 5)
      ∷ [])
      ∷ body 0 1
      (resolved_if condition first_branch (otherwise_block second_branch) (on_line 7)
      ∷ resolved_assign (field_at_line 2 16) (both_of Add 16 (value_at (field_at_line 2 16)) (number_on (pos 1) 16)) (on_line 16)
      ∷ resolved_return
      (Some (resolved_call None (contract_number 0) (transaction_number 2) (on_line 17) (arguments []) (on_line 17)))
      (on_line 17)
      ∷ [])
      ∷ body 0 2
      (resolved_return (Some (both_of Add 19 (value_at (field_at_line 0 19)) (value_at (field_at_line 1 19)))) (on_line 19) ∷ [])
      ∷ body 0 3
      (resolved_if (resolved_bool true (on_line 20)) (one_on 20 (resolved_revert None (on_line 20)))
      (otherwise_block (one_on 20 (resolved_revert (Some (resolved_text (110 ∷ 111 ∷ []) (on_line 20))) (on_line 20))))
      (on_line 20)
      ∷ [])
      ∷ body 0 4
      (resolved_stage (state_of_number 0) (gives_on 0 (number_on (pos 1) 21) 21) (on_line 21)
      ∷ resolved_change (state_of_number 1) [] (on_line 21)
      ∷ [])
      ∷ [];
}

-- Its runs.

-- a store with a lamp that is off and was never used
abbrev pub dark_store : List Object
dark_store = record {
  contract = contract_number 0;
  state = Some (state_of_number 1);
  fields = put nothing 2 (int_value (pos 0));
  shared = false;
  disowned = false;
} ∷ []

-- what a transaction tells by the source meaning
abbrev pub by_meaning : ℕ → List Value → Told
by_meaning tx args = told lamp (run_on_store lamp 20 dark_store 0 0 tx args)

-- a number and a truth
abbrev pub number_and_truth : ℤ → Bool → List Value
number_and_truth z b = int_value z ∷ bool_value b ∷ []

-- a lamp that is on and was used once, with a result, after so many units
abbrev pub lit_with : ℤ → ℤ → ℤ → ℕ → Told
lit_with result level mark units = tells (Some (int_value result))
    (record {
      contract = 0;
      state = 0;
      fields = Some (int_value level) ∷ Some (int_value mark) ∷ Some (int_value (pos 1)) ∷ [];
      shared = false;
      disowned = false;
    } ∷ [])
    (spending units (object_item 0 ∷ []))

-- an abort by `revert` without a text
abbrev pub reverted : Told
reverted = tells_abort (by_revert []) (spending 3 (object_item 0 ∷ []))
