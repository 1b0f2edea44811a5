-- The transactions that an interface asks of a contract, by their parts.
use Rattle.std.specs.Prelude.{ℕ, Bool, true, false, not, ◌&&◌, List, Option, slice_get}
use Rattle.std.specs.Option.{option_map_or}
use Rattle.std.specs.Cmp.Lexicographic.{pointwise}
use Rattle.ob_tree.specs.Names.{TypeExpr}
use Rattle.ob_tree.specs.Members.{Contract, Formal}
use Rattle.ob_table_spec.specs.Names.{Name}
use Rattle.ob_resolve_spec.specs.Declarations.{Program, Transaction, params_of, transactions_of, transaction_named}
use Rattle.ob_resolve_spec.specs.Interfaces.{same_param, same_result, same_held, held_of_this, has_answer}

-- whether a contract's transaction is as its interface asks, with these parameters and this result
abbrev pub answers_with : Program → Contract → Contract → List Formal → Option TypeExpr → Transaction → Bool
answers_with program interface own params result t =
    not t.private
    && pointwise (same_param program) (params_of t.params) (params_of params)
    && same_result program t.result result
    && same_held own (held_of_this own t.params) (held_of_this interface params)

-- whether a contract has a transaction of this name, as its interface asks
abbrev pub has_answer_with : Program → Contract → Contract → Name → List Formal → Option TypeExpr → Bool
has_answer_with program interface own name params result =
    option_map_or (answers_with program interface own params result) (transaction_named own name) false

-- whether a contract has what an interface's transaction of this number asks
abbrev pub asked_at : Program → Contract → Contract → Name × ℕ → Bool
asked_at program interface own e =
    option_map_or (has_answer program interface own) (slice_get (transactions_of interface) e.1) true
