use Rattle.std.proofs.Common.{◌≡◌, map, take}
use Rattle.ob_tree.specs.MembersView.{listed_of}
use Rattle.ob_resolve_members.proofs.listed.listed_names.Given as goal

abbrev pub invariant-loop-field : goal.invariant-loop-field
invariant-loop-field l = l.names ≡ map (λ l. l.name) (map listed_of (take l.field-index l.listed))
