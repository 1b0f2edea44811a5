use Rattle.std.proofs.Common.{◌≡◌, ◌++◌, Some, sym, ap, ◌∙◌, subst}
use Rattle.std.specs.Prelude.{string_bytes}
use Rattle.serde_json.specs.View.{view, members_view}
use Rattle.ob_base.specs.Optional.{◌>>=◌}
use Rattle.ob_client.specs.ReplyReading.{field_in, fields_of}
use Rattle.ob_client.proofs.ReplyLines.{one_more_field}
use Rattle.ob_client.proofs.replies.fields_of.Goals as goal

pub loop-name-preserved : goal.loop-name-preserved
loop-name-preserved c =
    let l = c.loop-name in
    let left = c.next.new.self in
    let all = fields_of (members_view c.args.members.now.entries) in
    let so_far = rw c.in-Some.ensures.steps at l.invariant in
    let read : field_in (string_bytes c.in-Some.name.now) (view c.in-Some.value.now) ≡ Some c.in_ok-field_in.field-0 =
    sym (ap (λ n. field_in n (view c.in-Some.value.now)) c.as_str.ensures.value) ∙ c.in_ok-field_in.ensures in
    subst (λ fields. (fields_of (members_view left) >>= λ more. Some (fields ++ more)) ≡ all) (sym c.in_ok-push.ensures.ok)
    (one_more_field l.fields (string_bytes c.in-Some.name.now) (view c.in-Some.value.now) (members_view left) c.in_ok-field_in.field-0 all read so_far)
