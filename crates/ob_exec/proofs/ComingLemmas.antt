-- What comes of the end of a run.
use Rattle.std.proofs.Common.{◌≡◌, ◌≤◌, ℕ, Bool, true, false, List, [], ◌∷◌, length, Option, Some, None, refl, sym, ap, subst, ◌∙◌}
use Rattle.std.specs.Prelude.{if◌then◌else◌}
use Rattle.std.specs.Option.{option_map_or}
use Rattle.std.proofs.lemmas.List.{length-map}
use Rattle.std.proofs.Math.ListN.{length-set}
use Rattle.ob_base.specs.Limits.{most_objects}
use Rattle.ob_heap_spec.specs.Objects as plain
use Rattle.ob_heap_spec.specs.Values as values
use Rattle.ob_heap_spec.specs.Contents.{Content, object_at}
use Rattle.ob_heap_spec.specs.Worlds.{World, ReadItem, RunOutcome, gives, aborts, wrong, is_made, with_read, object_item, read_object, set_object, edit_object}
use Rattle.ob_heap_spec.specs.Marks.{has_mark, mark_shared}
use Rattle.ob_heap_spec.specs.Handles.{NamedHandle, put_handles}
use Rattle.ob_heap.specs.declared.delta.Delta.{Delta}
use Rattle.ob_heap.specs.declared.object.Object.{Object}
use Rattle.ob_heap.specs.declared.value.Value.{Value}
use Rattle.ob_heap.specs.Contents.{Stored, content_of}
use Rattle.ob_heap.specs.Overlays.{Changes, laid_over, objects_over}
use Rattle.ob_heap.specs.Plain.{object_of}
use Rattle.ob_rest_spec.specs.Modes.{is_shared}
use Rattle.ob_invocation_spec.specs.Entries.{Entry}
use Rattle.ob_invocation_spec.specs.Entering.{puts_after}
use Rattle.ob_invocation_spec.specs.Handles.{mark_put, mark_puts}
use Rattle.ob_invocation_spec.specs.Invocation.{done_with, ended}
use Rattle.ob_invocation_spec.specs.Replies.{Reply, invoked, aborted}
use Rattle.ob_invocation_spec.specs.Showing.{told_state}
use Rattle.ob_table.specs.Tables.{ClassTable}
use Rattle.ob_machine.specs.Shown.{cause_of}
use Rattle.ob_machine.specs.declared.progress.Cause.{Cause}
use Rattle.ob_machine.specs.declared.progress.Progress.TheVariants.{Finished}
use Rattle.ob_wire.specs.declared.reply.Answer.{Answer}
use Rattle.ob_exec_handles.specs.Coming.{ComesTo, LeadsTo, IsInLimits}
use Rattle.ob_exec_handles.specs.Marking.{with_put_marks}
use Rattle.ob_exec_handles.proofs.MarkingLemmas.{puts_objects}
use Rattle.ob_exec.specs.Ending.{IsRight, EndsSo}
use Rattle.ob_exec.specs.Putting.{LeaveTheSame}

-- Handles that are put leave as many objects.

if_length : (b : Bool) (w v : World) (n : ℕ) → length w.objects ≡ n → length v.objects ≡ n → length (if b then w else v).objects ≡ n
if_length true w v n e f = e
if_length false w v n e f = f

read_length : (w : World) (n : ℕ) → length (read_object w n).objects ≡ length w.objects
read_length w n = if_length (is_made w n) w (with_read w (object_item n)) (length w.objects) refl refl

edited_length : (f : plain.Object → plain.Object) (n : ℕ) (w : World) (o : Option plain.Object)
    → length (option_map_or (λ x. set_object w n (f x)) o w).objects ≡ length w.objects
edited_length f n w None = refl
edited_length f n w (Some o) = length-set w.objects n (f o)

edit_length : (f : plain.Object → plain.Object) (n : ℕ) (w : World) → length (edit_object f n w).objects ≡ length w.objects
edit_length f n w = edited_length f n w (object_at w.objects n)

shared_length : (w : World) (n : ℕ) → length (mark_shared n w).objects ≡ length w.objects
shared_length w n =
    if_length (has_mark (λ o. o.shared) (read_object w n) n) (read_object w n) (edit_object (λ o. record o { shared = true }) n (read_object w n)) (length w.objects)
    (read_length w n) (edit_length (λ o. record o { shared = true }) n (read_object w n) ∙ read_length w n)

put_length : (w : World) (h : NamedHandle) → length (mark_put w h).objects ≡ length w.objects
put_length w h = if_length (is_shared h.1.mode) (mark_shared h.1.object w) w (length w.objects) (shared_length w h.1.object) refl

puts_length : (puts : List NamedHandle) (w : World) → length (mark_puts w puts).objects ≡ length w.objects
puts_length [] w = refl
puts_length (h ∷ puts) w = puts_length puts (mark_put w h) ∙ put_length w h

-- The end of a run.

pub right_in_limits : (table : ClassTable) (content : Content) (e : Entry) (reads : List ReadItem) (o : RunOutcome (Option values.Value))
    → IsInLimits (ended table content e reads o) → IsRight o
right_in_limits table content e reads (gives result w) h = tt
right_in_limits table content e reads (aborts cause s) h = tt
right_in_limits table content e reads wrong h = absurd h

-- an end that is told so
pub within_limits : (table : ClassTable) (content : Content) (e : Entry) (reads : List ReadItem) (o : RunOutcome (Option values.Value))
    (given : Option Value) (base : List Object) (changes : Changes) → IsInLimits (ended table content e reads o)
    → EndsSo o (Finished given) base changes → length (laid_over base changes) ≤ most_objects
within_limits table content e reads (gives result w) given base changes h end =
    subst (λ n. n ≤ most_objects)
    (puts_length (puts_after content e result) w ∙ ap length end.1 ∙ length-map (laid_over base changes) object_of) h
within_limits table content e reads (aborts cause s) given base changes h end = absurd end
within_limits table content e reads wrong given base changes h end = absurd end

-- what a store holds, of the same parts
same_content : (a b : List plain.Object) (x y : List NamedHandle) → a ≡ b → x ≡ y
    → ◌≡◌ {A = Content} (record { objects = a; handles = x }) (record { objects = b; handles = y })
same_content a b x y p q = λ i. record { objects = p i; handles = q i }

pub comes_same : (reply : Reply) (base : Stored) (changes : Changes) (others puts : List NamedHandle) (w : World) (reads : List ReadItem) (answer : Answer) (delta : Delta)
    → LeaveTheSame base changes others puts → w.objects ≡ objects_over base.objects changes
    → ComesTo (done_with reply (content_of base) puts w reads) base answer delta → ComesTo (done_with reply (content_of base) others w reads) base answer delta
comes_same reply base changes others puts w reads answer delta same is h =
    let objects : (mark_puts w puts).objects ≡ (mark_puts w others).objects =
    puts_objects puts w ∙ ap (λ os. with_put_marks os puts) is ∙ sym same.objects ∙ ap (λ os. with_put_marks os others) (sym is) ∙ sym (puts_objects others w) in (
      h.0,
      subst (LeadsTo base delta)
          (same_content (mark_puts w puts).objects (mark_puts w others).objects (put_handles (content_of base).handles puts) (put_handles (content_of base).handles others)
          objects (sym same.handles)) h.1,
    )

-- what comes of an abort by this cause
abbrev pub AbortsSo : ClassTable → Stored → Cause → Answer → Delta → Type 0
AbortsSo table base cause answer delta =
    (taken : ℕ) (reads : List ReadItem) → ComesTo (invoked (record {
      reply = aborted (cause_of cause) (told_state table (content_of base).objects (cause_of cause));
      content = content_of base;
      taken = taken;
      reads = reads;
    })) base answer delta
