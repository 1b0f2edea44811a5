-- How the code's run ends where a plain one does.
use Rattle.std.proofs.Common.{◌≡◌, ℕ, ◌+◌, List, [], ◌++◌, length, map, Option, refl, sym, ap, subst, ◌∙◌}
use Rattle.std.specs.Prelude.{option_map, flat_map}
use Rattle.std.specs.Option.{option_map_or}
use Rattle.ob_base.specs.declared.permission.Mode.{Mode}
use Rattle.ob_heap_spec.specs.Values as values
use Rattle.ob_heap_spec.specs.Worlds.{World, ReadItem, ReadSame}
use Rattle.ob_heap_spec.specs.Handles.{NamedHandle}
use Rattle.ob_heap.specs.declared.value.Value.{Value}
use Rattle.ob_heap.specs.Contents.{Stored, content_of}
use Rattle.ob_heap.specs.Overlays.{Changes, objects_over}
use Rattle.ob_heap.specs.Plain.{value_of}
use Rattle.ob_invocation_spec.specs.Entries.{handle_uses}
use Rattle.ob_invocation_spec.specs.Entering.{put_after_use, put_given, put_into, puts_after}
use Rattle.ob_invocation_spec.specs.Handles.{handle_name, mark_puts}
use Rattle.ob_invocation_spec.specs.Invocation.{done_with}
use Rattle.ob_invocation_spec.specs.Replies.{aborted}
use Rattle.ob_invocation_spec.specs.Showing.{told_state, reply_of_result}
use Rattle.ob_code.specs.declared.image.Image.{Image}
use Rattle.ob_code_table.specs.ImageTables.{table_of_image}
use Rattle.ob_machine.specs.Shown.{cause_of}
use Rattle.ob_machine.specs.declared.progress.Cause.{Cause}
use Rattle.ob_machine_parts.specs.Shown.{reads_of}
use Rattle.ob_machine_parts.proofs.WorldLemmas.{count_over}
use Rattle.ob_request_run_laws.specs.Runs.{unchanged}
use Rattle.ob_request_run_laws.proofs.Standing.{unchanged_is}
use Rattle.ob_exec_entries.specs.Entering.{use_of}
use Rattle.ob_exec_entries.specs.declared.entered.HandleUse.{HandleUse}
use Rattle.ob_exec_handles.specs.Coming.{ComesTo}
use Rattle.ob_exec_handles.specs.declared.answered.Answered.{Answered}
use Rattle.ob_exec_handles.proofs.SpendingLemmas.{all_itself, all_on, all_both, all_left, all_right, onward_puts}
use Rattle.ob_exec.specs.Going.{Asked, AreThose, IsEnd, ended_so}
use Rattle.ob_exec.specs.Pausing.{RunRepresents}
use Rattle.ob_exec.specs.Putting.{LeaveTheSame}
use Rattle.ob_exec.specs.Reading.{given_read}
use Rattle.ob_exec.specs.declared.stage.Stage.TheVariants as stage
use Rattle.ob_exec.proofs.ComingLemmas.{AbortsSo, comes_same}
use Rattle.ob_exec.proofs.SpendingLemmas.{given_reads, made_test, done_reads}

-- Items that were read.

same_on : (xs ys zs : List ReadItem) → ReadSame xs ys → ReadSame ys zs → ReadSame xs zs
same_on xs ys zs f g = (all_on xs ys zs f.0 g.0, all_on zs ys xs g.1 f.1)

same_more : (xs ys more : List ReadItem) → ReadSame xs ys → ReadSame (xs ++ more) (ys ++ more)
same_more xs ys more f = (
  all_both xs more (ys ++ more) (all_left ys more xs f.0) (all_right ys more more (all_itself more)),
  all_both ys more (xs ++ more) (all_left xs more ys f.1) (all_right xs more more (all_itself more)),
)

-- What handles become.

puts_those : (base : Stored) (who : List ℕ) (into : Option (List ℕ)) (uses : List HandleUse) (given : Option Mode) (a : Asked) (result : Option values.Value)
    → AreThose base who into uses given a
    → puts_after (content_of base) a.entry result
    ≡ flat_map put_after_use (map (use_of who) uses) ++ option_map_or (λ name. put_given (handle_name who name) given result) into []
puts_those base who into uses given a result k =
    let e = a.entry in
    ap (λ us. flat_map put_after_use us ++ option_map_or (λ name. put_given (handle_name e.who name) e.given result) e.into []) (sym k.uses)
    ∙ ap (λ x. flat_map put_after_use (map (use_of who) uses) ++ option_map_or (λ name. put_given (handle_name x name) e.given result) e.into []) k.client
    ∙ ap (λ g. flat_map put_after_use (map (use_of who) uses) ++ option_map_or (λ name. put_given (handle_name who name) g result) e.into []) (sym k.given)
    ∙ ap (λ i. flat_map put_after_use (map (use_of who) uses) ++ option_map_or (λ name. put_given (handle_name who name) given result) i []) k.name

-- What was read.

ended_reads : (base : Stored) (who : List ℕ) (into : Option (List ℕ)) (uses : List HandleUse) (given : Option Mode) (a : Asked) (result : Option values.Value)
    (w : World) (o : Changes) (taken : ℕ) (noted reads : List ReadItem) → AreThose base who into uses given a → IsEnd base a result w o taken noted
    → reads ≡ noted ++ given_read (length base.objects) into given result
    → ReadSame ((mark_puts w (puts_after (content_of base) a.entry result)).reads ++ a.reads) reads
ended_reads base who into uses given a result w o taken noted reads k end told =
    let c = content_of base in
    let e = a.entry in
    let put = given_read (length base.objects) e.into e.given result in
    let marked = onward_puts (flat_map put_after_use (handle_uses c e)) w in
    let count : length w.objects ≡ length base.objects + length o.made = ap length end.objects ∙ count_over base.objects o in
    let all : ReadSame ((mark_puts w (flat_map put_after_use (handle_uses c e) ++ put_into e result)).reads ++ a.reads) ((a.reads ++ reads_of o) ++ put) =
    done_reads w (handle_uses c e) (put_into e result) a.reads (reads_of o) put ((a.reads ++ reads_of o) ++ put) refl end.read k.read
    (given_reads (mark_puts w (flat_map put_after_use (handle_uses c e))) (length base.objects) e.who e.into e.given result
    (λ n. made_test (length base.objects) (length o.made) n (length (mark_puts w (flat_map put_after_use (handle_uses c e))).objects)
    (mark_puts w (flat_map put_after_use (handle_uses c e))).made (marked.count ∙ count) (marked.made ∙ end.made))) in
    same_on ((mark_puts w (puts_after c e result)).reads ++ a.reads) ((a.reads ++ reads_of o) ++ put) reads all
    (subst (ReadSame ((a.reads ++ reads_of o) ++ put))
    (sym (told ∙ ap (λ i. noted ++ given_read (length base.objects) i given result) (sym k.name)
    ∙ ap (λ g. noted ++ given_read (length base.objects) e.into g result) k.given))
    (same_more (a.reads ++ reads_of o) noted put end.noted))

pub finishes : (image : Image) (base : Stored) (who : List ℕ) (into : Option (List ℕ)) (uses : List HandleUse) (given : Option Mode) (value : Option Value)
    (o : Changes) (taken : ℕ) (noted reads : List ReadItem) (a : Asked) (w : World) (puts : List NamedHandle) (answered : Answered)
    → AreThose base who into uses given a → IsEnd base a (option_map value_of value) w o taken noted
    → LeaveTheSame base o (flat_map put_after_use (map (use_of who) uses)
    ++ option_map_or (λ name. put_given (handle_name who name) given (option_map value_of value)) into []) puts
    → ((v : World) (rs : List ReadItem) → v.objects ≡ objects_over base.objects o
    → ComesTo (done_with (reply_of_result (option_map value_of value)) (content_of base) puts v rs) base answered.answer answered.delta)
    → reads ≡ noted ++ given_read (length base.objects) into given (option_map value_of value)
    → RunRepresents image base (ended_so base a (option_map value_of value) w) (record { stage = stage.Answered answered; reads = reads; taken = taken })
finishes image base who into uses given value o taken noted reads a w puts answered k end leave told told_reads =
    let c = content_of base in
    let result = option_map value_of value in
    let all = puts_after c a.entry result in
    let same = subst (λ ps. LeaveTheSame base o ps puts) (sym (puts_those base who into uses given a result k)) leave in
    record {
      at = subst (λ i. ComesTo i base answered.answer answered.delta) end.comes
          (comes_same (reply_of_result result) base o all puts w a.reads answered.answer answered.delta same end.objects (told w a.reads end.objects));
      reads = ended_reads base who into uses given a result w o taken noted reads k end told_reads;
      taken = sym ((onward_puts all w).taken ∙ end.taken);
    }

-- A run that aborts.

pub aborts : (image : Image) (base : Stored) (cause : Cause) (taken : ℕ) (items reads : List ReadItem) (answered : Answered)
    → AbortsSo (table_of_image image) base cause answered.answer answered.delta → ReadSame items reads
    → RunRepresents image base (unchanged (aborted (cause_of cause) (told_state (table_of_image image) (content_of base).objects (cause_of cause))) taken items)
    (record { stage = stage.Answered answered; reads = reads; taken = taken })
aborts image base cause taken items reads answered h same = record {
  at = subst (λ i. ComesTo i base answered.answer answered.delta)
      (unchanged_is (content_of base) (aborted (cause_of cause) (told_state (table_of_image image) (content_of base).objects (cause_of cause))) taken items) (h taken items);
  reads = same;
  taken = refl;
}
