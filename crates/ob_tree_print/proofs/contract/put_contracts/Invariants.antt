use Rattle.std.proofs.Common.{◌≡◌, true, map, drop, string_bytes}
use Rattle.std.specs.List.{flat_map}
use Rattle.ob_tree.specs.MembersView.{contract_of}
use Rattle.ob_tree_print.specs.MemberTokens.{tokens_of}
use Rattle.ob_tree_print.specs.Written.{written}
use Rattle.ob_tree_print.proofs.contract.put_contracts.Given as goal

-- what is left still has to be written
abbrev pub invariant-loop-contract : goal.invariant-loop-contract
invariant-loop-contract l = written (string_bytes l.out) (tokens_of (map contract_of (drop l.contract-index l.contracts))) ≡ written (string_bytes l.initial.out) (tokens_of (map contract_of l.contracts))
