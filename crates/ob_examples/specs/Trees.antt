-- Small programs as plain data, and what is said of each.
use Rattle.std.specs.Prelude.{ℕ, pos, ◌+◌, Bool, true, false, List, [], ◌∷◌, Option, Some, None}
use Rattle.ob_base.specs.declared.fault.Span.{Span}
use Rattle.ob_base.specs.declared.fault.ProgramFault.{ProgramFault}
use Rattle.ob_base.specs.declared.permission.Mode.TheVariants.{Owned, Shared, Unowned}
use Rattle.ob_tree.specs.Names.{Named, bare_name, ref_with, int_type, ref_type}
use Rattle.ob_tree.specs.Exprs.{number_expr}
use Rattle.ob_tree.specs.Stmts.{assign_stmt, block_with, no_stmts, and_stmt}
use Rattle.ob_tree.specs.Members.{Member, field_member, constructor_member, transaction_member, Contract}
use Rattle.ob_tree.specs.declared.name.NamePart.{NamePart}
use Rattle.ob_tree.specs.declared.name.PermNode.TheVariants.{Mode}
use Rattle.ob_table.specs.Expressions.{resolved_number}
use Rattle.ob_table.specs.Statements.{resolved_assign, no_statements, and_statement}
use Rattle.ob_table.specs.Tables.{ClassTable}
use Rattle.ob_table.specs.declared.seen.Seen.TheVariants.{Field as FieldSeen}
use Rattle.ob_table.specs.declared.contract.ResolvedType.TheVariants.{Int}
use Rattle.ob_resolve_spec.specs.Declarations.{Program}

-- a place on the first line
abbrev pub at : ℕ → ℕ → Span
at start end = record { start = start; end = end; line = 1; column = start + 1 }

-- a name of one letter
abbrev pub letter : ℕ → ℕ → NamePart
letter byte start = record { name = byte ∷ []; span = at start (start + 1) }

-- such a name as a type, without an argument
abbrev pub named : ℕ → ℕ → Named
named byte start = bare_name (byte ∷ []) (at start (start + 1))

-- a fault at a stretch of the first line
abbrev pub fault : ℕ → ℕ → ℕ → ProgramFault
fault number start end = record { number = number; span = at start end }

-- a contract or an interface with a name of one letter, without a type parameter
abbrev pub contract : Bool → Bool → Bool → ℕ → Option Named → List Member → ℕ → ℕ → Contract
contract main asset interface byte implements members start end = record {
  main = main;
  asset = asset;
  interface = interface;
  name = byte ∷ [];
  param = None;
  implements = implements;
  members = members;
  span = at start (start + 1);
  end = at end (end + 1);
}

-- `interface I { } asset contract A implements I { }`
abbrev pub asset_behind_interface : Program
asset_behind_interface = contract false false true 73 None [] 10 14
    ∷ contract false true false 65 (Some (named 73 44)) [] 31 48 ∷ []

-- `asset contract C { } contract A { C@Owned c; }`
abbrev pub plain_owner : Program
plain_owner =
    contract false true false 67 None [] 15 19
    ∷ contract false false false 65 None (field_member
    (record { of = ref_type (ref_with (named 67 34) (Mode Owned (at 36 41))); name = letter 99 42; available = [] })
    ∷ []) 30 45
    ∷ []

-- `main contract A { transaction t() returns int { } }`
abbrev pub no_return : Program
no_return = contract true false false 65 None
    (transaction_member false [] (letter 116 30) [] (Some (int_type (at 42 45))) (Some (block_with no_stmts (at 48 49)))
    (at 18 49) ∷ []) 14 50 ∷ []

-- `contract A { B@Owned b; }`
abbrev pub unknown_type : Program
unknown_type = contract false false false 65 None
    (field_member (record {
      of = ref_type (ref_with (named 66 13) (Mode Owned (at 15 20)));
      name = letter 98 21;
      available = [];
    }) ∷ []) 9 24 ∷ []

-- `contract A { } contract A { }`
abbrev pub two_of_a_name : Program
two_of_a_name = contract false false false 65 None [] 9 13 ∷ contract false false false 65 None [] 24 28 ∷ []

-- `contract A { int n; A@Shared() { n = 1; } }`
abbrev pub counter : Program
counter =
    contract false false false 65 None
    (field_member (record { of = int_type (at 13 16); name = letter 110 17; available = [] })
    ∷ constructor_member (named 65 20) (Mode Shared (at 22 28)) []
    (block_with (and_stmt (assign_stmt (letter 110 33) (number_expr (pos 1) (at 37 38)) (at 33 39)) no_stmts)
    (at 40 41)) (at 20 41)
    ∷ []) 9 42
    ∷ []

-- the table of `counter`: a field that is there in all states and in none, and the constructor
abbrev pub counter_table : ClassTable
counter_table = record {
  contracts =
      record {
        name = 65 ∷ [];
        asset = false;
        main = false;
        interface = false;
        implements = None;
        states = [];
        fields = record { name = 110 ∷ []; of = Int; available = 8589934591 } ∷ [];
        constructor = Some (record { 0 = 0 });
        transactions =
            record {
              name = [];
              private = false;
              entry = record { mode = Unowned; states = 0 };
              exit = record { mode = Shared; states = 0 };
              params = [];
              result = None;
              listed = [];
            } ∷ [];
      } ∷ [];
  bodies =
      record {
        contract = record { 0 = 0 };
        tx = record { 0 = 0 };
        statements = and_statement (resolved_assign (record { of = FieldSeen (record { 0 = 0 }); span = at 33 34 })
            (resolved_number (pos 1) (at 37 38)) (at 33 39)) no_statements;
        end = at 40 41;
      } ∷ [];
}
