-- What the stages up to names and types find in a text: its class table, or its first fault.
use Rattle.std.specs.Prelude.{ℕ, ◌≡◌, List, All}
use Rattle.ob_base.specs.declared.fault.ProgramFault.{ProgramFault}
use Rattle.ob_lexer.specs.Lexis.{HasTokens}
use Rattle.ob_lexer.specs.Flaws.{HasFault}
use Rattle.ob_lexer.specs.declared.lexer.Lexed.{Lexed}
use Rattle.ob_tree.specs.Members.{Contract}
use Rattle.ob_parser_spec.specs.Grammar.{HasTree, HasSyntaxFault}
use Rattle.ob_table.specs.Tables.{ClassTable}
use Rattle.ob_resolve_spec.specs.Faults.{HasNoFault}
use Rattle.ob_resolve_spec.specs.TableOf.{table_of}
use Rattle.ob_table_spec.specs.Conditions.{IsClassTable}
use Rattle.ob_table_spec.specs.WellFormed.{IsWellFormed, HasBodies}
use Rattle.ob_resolve.specs.Resolving.{IsFirstFault}
use Rattle.ob_generic_spec.specs.TypeFaults.{HasNoTypeFault, IsFirstTypeFault}
use Rattle.ob_generic_spec.specs.InstanceTrees.{instance_tree}

-- the text spells tokens, and they spell the tree
pub record IsTreeOf (text : List ℕ) (tree : List Contract) : Type 0 where
  pub lexed : Lexed
  pub spelled : HasTokens text lexed
  pub parsed : HasTree lexed.tokens tree

-- the text has a tree whose type parameters and type arguments have no fault, and this is the tree of its instances
pub record IsInstanceTreeOf (text : List ℕ) (made : List Contract) : Type 0 where
  pub tree : List Contract
  pub of : IsTreeOf text tree
  pub right : HasNoTypeFault tree
  pub is : made ≡ instance_tree tree

-- the text has such a tree of instances, and that has no fault of names and types
pub record IsResolved (text : List ℕ) : Type 0 where
  pub made : List Contract
  pub is : IsInstanceTreeOf text made
  pub clean : HasNoFault made

-- the text has no fault up to names and types, and this is its class table: that of the tree of its instances
pub record HasTable (text : List ℕ) (table : ClassTable) : Type 0 where
  pub resolved : IsResolved text
  pub is : table ≡ table_of resolved.made

-- what the later stages need of a class table: it meets its conditions, and its bodies are well-formed, one for each constructor
-- and transaction
pub record IsWellFormedTable (table : ClassTable) : Type 0 where
  pub conditions : IsClassTable table
  pub bodies : All (IsWellFormed table) table.bodies
  pub each : HasBodies table

-- The first fault of a text that has no tree: that of its tokens, or, where it has tokens, theirs by the grammar.
pub data HasTreeFault (text : List ℕ) (fault : ProgramFault) : Type 0 where
  at_token : HasFault text fault → HasTreeFault text fault
  at_row : (lexed : Lexed) → HasTokens text lexed → HasSyntaxFault lexed.tokens lexed.end fault → HasTreeFault text fault

-- The first fault of a text that has no class table, stage by stage: that of a text without a tree; or, where it has a tree,
-- the first fault of type parameters and type arguments; or, where it has none of these, the first fault of names and types in the
-- tree of its instances.
pub data HasTableFault (text : List ℕ) (fault : ProgramFault) : Type 0 where
  at_tree : HasTreeFault text fault → HasTableFault text fault
  at_type : (tree : List Contract) → IsTreeOf text tree → IsFirstTypeFault tree fault → HasTableFault text fault
  at_site : (made : List Contract) → IsInstanceTreeOf text made → IsFirstFault made fault → HasTableFault text fault
