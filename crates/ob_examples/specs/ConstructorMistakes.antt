-- Bodies of constructors that no accepted program has: each goes wrong in one way, and beside it stands what mends it (this
-- project's own program).
use Rattle.std.specs.Prelude.{ℕ, [], ◌∷◌, None}
use Rattle.ob_base.specs.declared.permission.Perm.{Perm}
use Rattle.ob_table.specs.Statements.{Statement, resolved_assign}
use Rattle.ob_table.specs.Tables.{ClassTable}
use Rattle.ob_table.specs.declared.contract.ResolvedType.TheVariants.{Int}
use Rattle.ob_table.specs.declared.contract.Contract.{Contract}
use Rattle.ob_examples.specs.Written.{on_line, owner_in, as_shared, as_unowned, stateless_bit, anywhere_bits, field_at_line, value_at, signature, body, Told, told, new_on_store}
use Rattle.ob_examples.specs.Mistakes.{jar, assigned_one, shutting}

-- a jar with this permission of what its constructor gives, and without transactions
abbrev pub jar_given : Perm → Contract
jar_given p = record jar { transactions = signature [] as_unowned p [] None ∷ [] }

-- `contract Tally { int n; Tally@Owned() { .. } }`
abbrev pub tally : Contract
tally = record jar {
  name = 84 ∷ [];
  states = [];
  fields = record { name = 110 ∷ []; of = Int; available = anywhere_bits } ∷ [];
  transactions = signature [] as_unowned (owner_in stateless_bit) [] None ∷ [];
}

-- `n = n;`
abbrev pub assigned_itself : Statement
assigned_itself = resolved_assign (field_at_line 0 1) (value_at (field_at_line 0 1)) (on_line 1)

-- `contract Tally { int n; Tally@Owned() { n = n; } }`
abbrev pub tally_of_itself : ℕ
tally_of_itself = 0

-- `contract Tally { int n; Tally@Owned() { n = 1; n = n; } }`
abbrev pub tally_of_one : ℕ
tally_of_one = 1

-- `contract Tally { int n; Tally@Owned() { } }`
abbrev pub tally_of_nothing : ℕ
tally_of_nothing = 2

-- `contract Jar { .. Jar@Shared() { } }`
abbrev pub shared_in_no_state : ℕ
shared_in_no_state = 3

-- `contract Jar { .. Jar@Shared() { ->Shut; } }`
abbrev pub shared_and_shut : ℕ
shared_and_shut = 4

-- `contract Jar { .. Jar@Open() { ->Shut; } }`
abbrev pub shut_for_open : ℕ
shut_for_open = 5

-- `contract Jar { .. Jar@Shut() { ->Shut; } }`
abbrev pub shut_as_given : ℕ
shut_as_given = 6

-- the contracts with these constructors
abbrev pub constructor_mistakes : ClassTable
constructor_mistakes = record {
  contracts =
      tally ∷ tally ∷ tally ∷ jar_given as_shared ∷ jar_given as_shared ∷ jar_given (owner_in 1) ∷ jar_given (owner_in 2) ∷ [];
  bodies =
      body tally_of_itself 0 (assigned_itself ∷ [])
      ∷ body tally_of_one 0 (assigned_one ∷ assigned_itself ∷ [])
      ∷ body tally_of_nothing 0 []
      ∷ body shared_in_no_state 0 []
      ∷ body shared_and_shut 0 (shutting ∷ [])
      ∷ body shut_for_open 0 (shutting ∷ [])
      ∷ body shut_as_given 0 (shutting ∷ [])
      ∷ [];
}

-- a `new` of the contract of a number, on a store with no object
abbrev pub new_of : ℕ → Told
new_of contract = told constructor_mistakes (new_on_store constructor_mistakes 20 [] contract [])
