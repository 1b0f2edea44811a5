use Rattle.std.proofs.Common.{◌≡◌, ◌++◌, Some}
use Rattle.serde_json.specs.View.{members_view}
use Rattle.ob_base.specs.Optional.{◌>>=◌}
use Rattle.ob_client.specs.ReplyReading.{fields_of}
use Rattle.ob_client.proofs.replies.fields_of.Given as goal

-- the fields so far and those of the rest are all
abbrev pub invariant-loop-name : goal.invariant-loop-name
invariant-loop-name l =
    (fields_of (members_view l.name-iterator) >>= λ more. Some (l.fields ++ more)) ≡ fields_of (members_view l.members.entries)
