use Rattle.std.proofs.Common.{map}
use Rattle.ob_tree.specs.MembersView.{contract_of}
use Rattle.ob_resolve.proofs.ResolvingLaws.{told, clean}
use Rattle.ob_resolve.proofs.resolving.resolve_declared.Goals as goal

pub returns-in-Some-clause-fault : goal.returns-in-Some-clause-fault
returns-in-Some-clause-fault c =
    told (map contract_of c.args.declared.now) c.in_ok-fault.field-0 c.in-Some.fault c.in_ok-fault.ensures c.in-Some.is

pub returns-in_ok-make_table-in-None-clause-table : goal.returns-in_ok-make_table-in-None-clause-table
returns-in_ok-make_table-in-None-clause-table c = record {
  clean = clean (map contract_of c.args.declared.now) c.in_ok-fault.field-0 c.in_ok-fault.ensures c.in-None.is;
  is = c.in_ok-make_table-in-None.ensures;
}
