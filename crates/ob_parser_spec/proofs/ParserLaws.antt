-- Tokens spell one tree or have one fault.
use Rattle.std.proofs.Common.{◌≡◌, ◌⊎◌, true, List}
use Rattle.ob_base.specs.Limits.{most_open}
use Rattle.ob_base.specs.declared.fault.Span.{Span}
use Rattle.ob_base.specs.declared.fault.ProgramFault.{ProgramFault}
use Rattle.ob_lexer.specs.declared.token.Token.{Token}
use Rattle.ob_tree.specs.Members.{Contract}
use Rattle.ob_parser_spec.specs.Grammar.{HasTree, HasSyntaxFault}
use Rattle.ob_parser_spec.specs.ContractReaders.{contract_first}
use Rattle.ob_parser_spec.specs.AllReaders.{all_programs}
use Rattle.ob_parser_spec.proofs.ProgramLaws.{whole_laws}
use Rattle.ob_parser_spec.proofs.Outcomes as outcomes
use Rattle.ob_parser_spec.proofs.OneFault as faults

pub one_tree_lem : (tokens : List Token) (a b : List Contract) → HasTree tokens a → HasTree tokens b → a ≡ b
one_tree_lem = outcomes.one_tree (all_programs most_open) contract_first contract_first true whole_laws

pub one_fault_lem : (tokens : List Token) (end : Span) (a b : ProgramFault) → HasSyntaxFault tokens end a → HasSyntaxFault tokens end b → a ≡ b
one_fault_lem = faults.one_fault (all_programs most_open) contract_first contract_first true whole_laws

pub never_tree_and_fault_lem : (tokens : List Token) (tree : List Contract) (end : Span) (fault : ProgramFault) → HasTree tokens tree → ¬ (HasSyntaxFault tokens end fault)
never_tree_and_fault_lem = faults.never_tree_and_fault (all_programs most_open) contract_first contract_first true whole_laws

pub tree_or_fault_lem : (tokens : List Token) (end : Span) → ((tree : List Contract) × HasTree tokens tree) ⊎ ((fault : ProgramFault) × HasSyntaxFault tokens end fault)
tree_or_fault_lem = faults.tree_or_fault (all_programs most_open) contract_first contract_first true whole_laws
