use Rattle.std.proofs.Common.{◌≡◌, drop}
use Rattle.serde_json.specs.Data.{no_members}
use Rattle.serde_json.specs.View.{members_view}
use Rattle.ob_wire.specs.Replies.{with_fields}
use Rattle.ob_wire.proofs.writing.fields_map.Given as goal

-- with the fields that are left, the map has them all
abbrev pub invariant-loop-field : goal.invariant-loop-field
invariant-loop-field l = with_fields (members_view l.map.entries) (drop l.field-index l.fields) ≡ with_fields no_members l.fields
