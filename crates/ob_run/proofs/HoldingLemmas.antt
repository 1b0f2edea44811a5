-- What is counted of a session over a blank store.
use Rattle.std.proofs.Common.{◌≡◌, inl, ℕ, pos, ◌+◌, ◌-◌, ◌^◌, ◌≤◌, ◌<◌, Bool, true, false, List, [], ◌∷◌, ◌++◌, length, length-append, take, Option, Some, None, refl, sym, ◌∙◌, ap, subst, arith, Err}
use Rattle.std.specs.Option.{IsSome}
use Rattle.std.proofs.lemmas.List.{take_all}
use Rattle.ob_client.specs.Trials.{trial_lines}
use Rattle.ob_code.specs.declared.image.Image.{Image}
use Rattle.ob_disk_spec.specs.Disk.{DiskView, Reads}
use Rattle.ob_io.specs.Causes.{Rose}
use Rattle.ob_io.specs.LinesOfText.{lines_of}
use Rattle.ob_io.specs.Told.{Takes, IsEnd, Gives}
use Rattle.ob_journal_spec.specs.Areas.{next_gate, begun}
use Rattle.ob_journal_spec.proofs.UniqueDisks.{no_bytes_blank}
use Rattle.ob_heap.specs.Contents.{content_of}
use Rattle.ob_heap_spec.specs.Contents.{empty_content}
use Rattle.ob_code_table.specs.ImageTables.{table_of_image}
use Rattle.ob_rest_spec.specs.AtRest.{IsStoreAtRest}
use Rattle.ob_silica_steps.specs.Configurations.{SilicaProgram}
use Rattle.ob_store.specs.Opening.{Opens, LacksArea, FaultsAs}
use Rattle.ob_store.specs.Stores.{program_of, area_of_store, kept_of, state_of}
use Rattle.ob_store.specs.declared.store.Store.{Store}
use Rattle.ob_store.specs.declared.error.OpenError.{OpenError}
use Rattle.ob_store.specs.declared.error.OpenError.TheVariants as unopened
use Rattle.ob_store_spec.specs.Stores.{StoreProgram, StoreState, IsStoreOf, StoreRefusal, IsRefused, not_store, damaged, other_program, not_at_rest}
use Rattle.ob_store_spec.proofs.Leading.{one_store}
use Rattle.ob_store_spec.proofs.Refusing.{never_both}
use Rattle.ob_table.specs.Tables.{ClassTable}
use Rattle.ob_wire.specs.Replies.{reply_line}
use Rattle.ob_wire.specs.declared.reply.Answer.{Answer}
use Rattle.ob_wire.specs.declared.reply.Reply.{Reply}
use Rattle.ob_serve.specs.Items.{by_machine, by_source, items_of_line, items_of}
use Rattle.ob_serve.specs.Kept.{says_done, IsSoundFor, AreKept}
use Rattle.ob_serve.specs.Served.{Ends, ReadsAll, SpeaksOf, IsCause}
use Rattle.ob_outside.specs.Devices.{Devices}
use Rattle.ob_serve.specs.Session.{SessionItem, items_from, state_after, replies, bytes_of}
use Rattle.ob_serve.specs.Standing.{RepresentsStore, source_program}
use Rattle.ob_serve.specs.declared.limits.Limits.{Limits}
use Rattle.ob_serve.specs.declared.serving.Served.{Served}
use Rattle.ob_serve.specs.declared.serving.Served.TheVariants as ended
use Rattle.ob_serve.proofs.Keeping.{keeps_sessions}
use Rattle.ob_serve.proofs.Tables.{rests_by_source, stands_by_source}
use Rattle.ob_run.specs.Counting.{is_aborted, is_refused, replies_so, count_replies, AreCountsOf}
use Rattle.ob_run.specs.Holding.{IsUnrefused, EndsUnlessMemory}
use Rattle.ob_run.specs.Kinds.{lines_of_replies, count_answers, CountsReplies}
use Rattle.ob_run.specs.Trials.{lines_of_trial, service, IsTrial}
use Rattle.ob_run.specs.declared.counts.Counts.{Counts}
use Rattle.ob_run.proofs.CountLemmas.{one_if, count_more}
use Rattle.ob_run.proofs.LengthLemmas.{trial_short}

-- ---- the replies of items

-- the replies of items, of which each has one
pub record AreRepliesOf {S : Type 0} (items : List (SessionItem S)) (rs : List Reply) : Type 0 where
  pub lines : replies items ≡ lines_of_replies rs
  pub many : length rs ≡ length items
  pub counts : (is : Answer → Bool) → count_answers is rs ≡ count_replies is items

count_item : {S : Type 0} (is : Answer → Bool) (i : SessionItem S) (items : List (SessionItem S)) → count_replies is (i ∷ items) ≡ one_if (replies_so is i.reply) + count_replies is items
count_item is i items = by (replies_so is i.reply) refl
  where
    by : (b : Bool) → replies_so is i.reply ≡ b → count_replies is (i ∷ items) ≡ one_if b + count_replies is items
    by true e = rw e (omega arith)
    by false e = rw e (omega arith)

with_reply : {S : Type 0} (i : SessionItem S) (items : List (SessionItem S)) (o : Option Reply) → i.reply ≡ o → IsSome o
    → (rs : List Reply) × AreRepliesOf items rs → (rs : List Reply) × AreRepliesOf (i ∷ items) rs
with_reply i items None is some rest = absurd cc
with_reply i items (Some r) is some rest = (
  r ∷ rest.0,
  record {
    lines = ap (λ (o : Option Reply). bytes_of o ++ replies items) is ∙ ap (λ (l : List ℕ). reply_line r ++ l) rest.1.lines;
    many = omega (arith, rest.1.many);
    counts = λ test. omega (arith, count_more test r rest.0, count_item test i items, rest.1.counts test, ap (λ (o : Option Reply). one_if (replies_so test o)) is);
  },
)

pub replies_of : (table : ClassTable) (before : StoreState) (items : List (SessionItem StoreState)) → AreKept table before items → (rs : List Reply) × AreRepliesOf items rs
replies_of table before [] kept = ([], record { lines = refl; many = refl; counts = λ test. refl })
replies_of table before (i ∷ items) kept = with_reply i items i.reply refl kept.0.answered (replies_of table i.after items kept.1)

-- ---- a blank disk, and one that is opened

same_bytes : (a b : List ℕ) → Some a ≡ Some b → a ≡ b
same_bytes a b e = cc

pub some_bytes : (o : Option (List ℕ)) (a b : List ℕ) → o ≡ Some a → a ≡ b → o ≡ Some b
some_bytes o a b is same = is ∙ ap (λ (l : List ℕ). Some l) same

-- a blank disk is refused for no cause
pub blank_unrefused : (program : StoreProgram) (area : ℕ) (v : DiskView) → v.content ≡ Some [] → IsUnrefused program area v
blank_unrefused program area v blank c reads r refused =
    let empty : c ≡ [] = same_bytes c [] (sym reads ∙ blank) in
    never_both program area [] r (record { content = empty_content; gate = next_gate (begun program.image); serial = pos 1 })
    (subst (λ (bytes : List ℕ). IsRefused program area bytes r) empty refused)
    (inl (record { blank = no_bytes_blank area; content = refl; gate = refl; serial = refl }))

-- what was opened on a blank disk
pub told_blank : (program : StoreProgram) (area : ℕ) (v : DiskView) (s : StoreState) → v.content ≡ Some [] → (c : List ℕ) × Reads v c × IsStoreOf program area c s
    → IsStoreOf program area [] s
told_blank program area v s blank told = subst (λ (bytes : List ℕ). IsStoreOf program area bytes s) (same_bytes told.0 [] (sym told.1 ∙ blank)) told.2

pub no_rise : Rose 0 0 → ⊥
no_rise rose = omega (arith, rose)

-- no cause but want of memory is left
pub opens_unless_memory : (program : StoreProgram) (size : ℕ) (bytes : List ℕ) (e : OpenError) → 18 + length program.image ≤ size → ((r : StoreRefusal) → ¬ (IsRefused program size bytes r))
    → Opens program size (Err e) bytes → LacksArea program size (Err e) → FaultsAs {T = Store} (Err e) 0 0 → e ≡ unopened.Memory
opens_unless_memory program size bytes unopened.NotStore room unrefused opens lacks faults = absurd (unrefused not_store opens)
opens_unless_memory program size bytes (unopened.Damaged offset) room unrefused opens lacks faults = absurd (unrefused (damaged offset) opens)
opens_unless_memory program size bytes (unopened.OtherProgram offset) room unrefused opens lacks faults = absurd (unrefused (other_program offset) opens)
opens_unless_memory program size bytes (unopened.NotAtRest object) room unrefused opens lacks faults = absurd (unrefused (not_at_rest object.0) opens)
opens_unless_memory program size bytes (unopened.Room need limit) room unrefused opens lacks faults = absurd (omega (arith, room, lacks.0, lacks.2))
opens_unless_memory program size bytes unopened.DiskFault room unrefused opens lacks faults = absurd (no_rise faults.0)
opens_unless_memory program size bytes unopened.Memory room unrefused opens lacks faults = refl

-- ---- how the session ends

taken_all : (all : List ℕ) (left : Option (List ℕ)) (input : List ℕ) → Takes (Some all) left input → IsEnd left → input ≡ all
taken_all all None input took end = absurd took
taken_all all (Some ys) input took end = sym (took ∙ ap (λ (l : List ℕ). input ++ l) end ∙ nothing_more input)
  where
    nothing_more : (l : List ℕ) → l ++ [] ≡ l
    nothing_more [] = refl
    nothing_more (b ∷ l) = ap (λ (m : List ℕ). b ∷ m) (nothing_more l)

taken_some : (all : List ℕ) (left : Option (List ℕ)) (bytes : List ℕ) → Takes (Some all) left bytes → length bytes ≤ length all
taken_some all None bytes took = absurd took
taken_some all (Some ys) bytes took = omega (arith, ap length took, length-append bytes ys)

-- its streams and its disk never fail, and the lines are short
module _ (n : ℕ) (old new : Devices) (left : old.input.left ≡ Some (trial_lines n)) where
  took_left : (bytes : List ℕ) → Takes old.input.left new.input.left bytes → Takes (Some (trial_lines n)) new.input.left bytes
  took_left bytes took = subst (λ (o : Option (List ℕ)). Takes o new.input.left bytes) left took

  pub ends_unless_memory : (lines : List (List ℕ)) (served : Served) → n < 2 ^ 32 → SpeaksOf served old.input new.input lines → IsCause served old new
      → old.input.faults ≡ 0 → new.input.faults ≡ 0 → old.output.faults ≡ 0 → new.output.faults ≡ 0 → old.disk.faults ≡ 0 → new.disk.faults ≡ 0 → EndsUnlessMemory served
  ends_unless_memory lines ended.Done lt speaks cause a b c d e f = tt
  ends_unless_memory lines ended.Memory lt speaks cause a b c d e f = tt
  ends_unless_memory lines ended.ReadFault lt speaks cause a b c d e f = no_rise (rw (a, b) at cause)
  ends_unless_memory lines ended.WriteFault lt speaks cause a b c d e f = no_rise (rw (c, d) at cause)
  ends_unless_memory lines ended.DiskFault lt speaks cause a b c d e f = no_rise (rw (e, f) at cause)
  ends_unless_memory lines ended.Long lt speaks cause a b c d e f =
      omega (arith, speaks.many, trial_short n lt, taken_some (trial_lines n) new.input.left speaks.taken (took_left speaks.taken speaks.took.told))

  pub lines_are : (lines : List (List ℕ)) → ReadsAll old.input new.input lines → lines ≡ lines_of_trial n
  lines_are lines all = all.is ∙ ap lines_of (taken_all (trial_lines n) new.input.left all.input (took_left all.input all.took.told) all.end)

-- ---- the trial

-- the disk is refused for no cause after a session by the code
pub session_unrefused : (code : Image) (limits : Limits) (area : ℕ) (store : Store) (old new : Devices) (served : Served) → area_of_store store ≡ Some area
    → Ends (items_of_line (by_machine code limits (area_of_store store))) (RepresentsStore (program_of code) (area_of_store store)) (state_of store) old new served
    → IsUnrefused (program_of code) area new.disk
session_unrefused code limits area store old new served area_is ends c reads r refused =
    let stood = (subst (λ (a : Option ℕ). Ends (items_of_line (by_machine code limits a)) (RepresentsStore (program_of code) a) (state_of store) old new served) area_is ends).stored.content c reads in
    never_both (program_of code) area c r _ refused stood.2

module _ (program : SilicaProgram) (code : Image) (sound : IsSoundFor program code) (limits : Limits) (area n : ℕ) where
  abbrev pub served_program : StoreProgram
  served_program = source_program program.table code

  abbrev pub line_items : StoreState → List ℕ → List (SessionItem StoreState)
  line_items = items_of_line (by_source served_program code limits (Some area))

  abbrev pub EndsSession : Store → Devices → Devices → Served → Type 0
  EndsSession store old new served =
      Ends (items_of_line (by_source served_program code limits (area_of_store store))) (RepresentsStore served_program (area_of_store store)) (state_of store) old new served

  -- a session that was read to its end
  pub done_session : (store : Store) (old new : Devices) (served : Served) → area_of_store store ≡ Some area → served ≡ ended.Done → EndsSession store old new served
      → Ends line_items (RepresentsStore served_program (Some area)) (state_of store) old new ended.Done
  done_session store old new served area_is done ends =
      subst (λ (e : Served). Ends line_items (RepresentsStore served_program (Some area)) (state_of store) old new e) done
      (subst (λ (a : Option ℕ). Ends (items_of_line (by_source served_program code limits a)) (RepresentsStore served_program a) (state_of store) old new served) area_is ends)

  module _ (store after : Store) (old new : Devices) (bytes c : List ℕ) (counts : Counts)
      (begins : IsStoreOf (program_of code) area [] (state_of store))
      (at_rest : IsStoreAtRest (table_of_image code) (content_of (kept_of store)))
      (left : old.input.left ≡ Some (trial_lines n)) (unwritten : old.output.written ≡ Some []) (written : new.output.written ≡ Some bytes)
      (ends : Ends line_items (RepresentsStore served_program (Some area)) (state_of store) old new ended.Done)
      (reads : Reads new.disk c) (opened : IsStoreOf (program_of code) area c (state_of after))
      (counted : (rs : List Reply) → bytes ≡ lines_of_replies rs → CountsReplies rs (length (state_of after).content.objects) (length (state_of after).content.handles) counts) where
    abbrev items : List (SessionItem StoreState)
    items = items_from line_items (state_of store) ends.lines

    given_all : Gives (Some []) (Some bytes) ends.given → bytes ≡ replies items
    given_all gives =
        let all : take ends.k items ≡ items = take_all ends.k items (omega (arith, ends.answered)) in
        gives ∙ ends.given_is ∙ ap replies all

    bytes_are : bytes ≡ replies items
    bytes_are = given_all (subst (λ (o : Option (List ℕ)). Gives (Some []) o ends.given) written (subst (λ (o : Option (List ℕ)). Gives o new.output.written ends.given) unwritten ends.written))

    -- the store that was opened is the one after the last item
    after_is : state_of after ≡ state_after (state_of store) items
    after_is =
        let stood = ends.stored.content c reads in
        let all : take stood.0 items ≡ items = take_all stood.0 items (omega (arith, stood.1, ends.answered)) in
        one_store served_program area c (state_of after) (state_after (state_of store) items)
        (stands_by_source program code sound area c (state_of after) opened)
        (subst (λ (l : List (SessionItem StoreState)). IsStoreOf served_program area c (state_after (state_of store) l)) all stood.2)

    counts_items : (rs : List Reply) → AreRepliesOf items rs → AreCountsOf items (state_after (state_of store) items) counts
    counts_items rs are =
        let told = counted rs (bytes_are ∙ are.lines) in
        subst (λ (s : StoreState). AreCountsOf items s counts) after_is (record {
          lines = told.lines ∙ are.many;
          ok = told.ok ∙ are.counts says_done;
          aborted = told.aborted ∙ are.counts is_aborted;
          refused = told.refused ∙ are.counts is_refused;
          objects = told.objects;
          handles = told.handles;
        })

    is_counted : AreCountsOf items (state_after (state_of store) items) counts
    is_counted =
        let rests = rests_by_source program code sound (content_of (kept_of store)) at_rest in
        let all = replies_of program.table (state_of store) items (keeps_sessions program code limits sound (Some area) (state_of store) ends.lines rests) in
        counts_items all.0 all.1

    pub is_trial : IsTrial served_program code limits area n counts
    is_trial = record {
      start = state_of store;
      begins = stands_by_source program code sound area [] (state_of store) begins;
      counted = subst (λ (ls : List (List ℕ)). AreCountsOf (items_of (service served_program code limits area) (state_of store) ls) (state_after (state_of store) (items_of (service served_program code limits area) (state_of store) ls)) counts)
          (lines_are n old new left ends.lines ends.of_input) is_counted;
    }
