-- From what each status says to what it says of the lines that were taken.
use Rattle.std.proofs.Common.{◌≡◌, inl, inr, ℕ, ◌+◌, List, ◌++◌, length, take, drop, Option, Some, sym, ◌∙◌, ap, subst, arith, append_assoc, take-append-drop}
use Rattle.std.proofs.lemmas.List.{take_all}
use Rattle.ob_io.specs.LinesOfText.{lines_of, whole_lines}
use Rattle.ob_io.specs.Told.{Gives}
use Rattle.ob_serve.specs.Session.{SessionItem, items_from, replies}
use Rattle.ob_serve.specs.Served.{IsToldAs, HasLines}
use Rattle.ob_serve.specs.declared.serving.Served.{Served}
use Rattle.ob_serve.specs.declared.serving.Served.TheVariants as ended
use Rattle.ob_serve.proofs.Sessions.{replies-append}
use Rattle.ob_words.specs.Asked.{Asked}
use Rattle.ob_run.specs.Answering.{BeginsSession, AnswersLines, AnswersSome, AnswersWhatItTook}
use Rattle.ob_run.specs.Commands.{file_of, text_in}
use Rattle.ob_outside.specs.Outside.{OutsideView, devices}
use Rattle.ob_run.specs.Sessions.{source_items, ServesProgram}
use Rattle.ob_run.specs.Statuses.{Treats, MeetsStatus}
use Rattle.ob_outside.specs.declared.exit.Exit.{Exit}
use Rattle.ob_outside.specs.declared.exit.Exit.TheVariants.{Done, Refused, Usage, ReadFault, WriteFault, DiskFault, StoreRefused, FileFault, Memory, Long}

module _ {S : Type 0} where
  -- the replies of as many items as there are
  all_replies : (items : List (SessionItem S)) (k : ℕ) → k ≡ length items → replies (take k items) ≡ replies items
  all_replies items k all = ap replies (take_all k items (omega (arith, all)))

  -- the replies of a prefix of the items, and of the others
  first_replies : (items : List (SessionItem S)) (k : ℕ) → replies items ≡ replies (take k items) ++ replies (drop k items)
  first_replies items k = ap replies (sym (take-append-drop k items)) ∙ replies-append (take k items) (drop k items)

  -- so what is written of them is a prefix of all
  first_written : (items : List (SessionItem S)) (k : ℕ) (given rest : List ℕ) → replies (take k items) ≡ given ++ rest → replies items ≡ given ++ (rest ++ replies (drop k items))
  first_written items k given rest is =
      first_replies items k ∙ ap (λ (l : List ℕ). l ++ replies (drop k items)) is ∙ append_assoc given rest (replies (drop k items))

  first_whole : (items : List (SessionItem S)) (k : ℕ) (given : List ℕ) → given ≡ replies (take k items) → replies items ≡ given ++ replies (drop k items)
  first_whole items k given is = first_replies items k ∙ ap (λ (l : List ℕ). l ++ replies (drop k items)) (sym is)

  module _ (items : S → List ℕ → List (SessionItem S)) (start : S) where
    -- of the lines of an input
    pub lines_replied : (lines others : List (List ℕ)) (k : ℕ) (given : List ℕ) → k ≡ length (items_from items start lines) → given ≡ replies (take k (items_from items start lines))
        → lines ≡ others → given ≡ replies (items_from items start others)
    lines_replied lines others k given all is same =
        is ∙ all_replies (items_from items start lines) k all ∙ ap (λ (ls : List (List ℕ)). replies (items_from items start ls)) same

    lines_begun : (lines others : List (List ℕ)) (given rest : List ℕ) → replies (items_from items start lines) ≡ given ++ rest → lines ≡ others
        → replies (items_from items start others) ≡ given ++ rest
    lines_begun lines others given rest is same = ap (λ (ls : List (List ℕ)). replies (items_from items start ls)) (sym same) ∙ is

module _ (words : Option Asked) (old new : OutsideView) (asked : Asked) (is : words ≡ Some asked) (text : List ℕ) (told : IsToldAs (text_in old.files (file_of asked.command)) text) where
  abbrev begun : (served : Served) → ServesProgram asked text (devices old) (devices new) served → BeginsSession words old
  begun served h = record { asked = asked; is = is; text = text; told = told; table = h.table; bodies = h.bodies; program = h.program; start = h.start; begins = h.begins }

  -- the input was read to its end
  at_end : ServesProgram asked text (devices old) (devices new) ended.Done → AnswersLines lines_of words old new
  at_end h = record {
    of = begun ended.Done h;
    taken = h.ends.of_input.input;
    took = h.ends.of_input.took;
    written = subst (λ (l : List ℕ). Gives old.output.written new.output.written l)
        (lines_replied (source_items asked h.table h.bodies) h.start h.ends.lines (lines_of h.ends.of_input.input) h.ends.k h.ends.given h.ends.answered h.ends.given_is h.ends.of_input.is)
        h.ends.written;
  }

  -- a read failed
  at_read_fault : ServesProgram asked text (devices old) (devices new) ended.ReadFault → AnswersLines whole_lines words old new
  at_read_fault h = record {
    of = begun ended.ReadFault h;
    taken = h.ends.of_input.taken;
    took = h.ends.of_input.took;
    written = subst (λ (l : List ℕ). Gives old.output.written new.output.written l)
        (lines_replied (source_items asked h.table h.bodies) h.start h.ends.lines (whole_lines h.ends.of_input.taken) h.ends.k h.ends.given h.ends.answered h.ends.given_is h.ends.of_input.is)
        h.ends.written;
  }

  -- the input is too long
  at_long : ServesProgram asked text (devices old) (devices new) ended.Long → AnswersLines whole_lines words old new
  at_long h = record {
    of = begun ended.Long h;
    taken = h.ends.of_input.taken;
    took = h.ends.of_input.took;
    written = subst (λ (l : List ℕ). Gives old.output.written new.output.written l)
        (lines_replied (source_items asked h.table h.bodies) h.start h.ends.lines (whole_lines h.ends.of_input.taken) h.ends.k h.ends.given h.ends.answered h.ends.given_is h.ends.of_input.is)
        h.ends.written;
  }

  -- a prefix of the replies was written
  at_prefix : (served : Served) (h : ServesProgram asked text (devices old) (devices new) served) (of_input : HasLines old.input h.ends.lines) (rest : List ℕ)
      → replies (items_from (source_items asked h.table h.bodies) h.start h.ends.lines) ≡ h.ends.given ++ rest → AnswersSome words old new
  at_prefix served h of_input rest is = record {
    of = begun served h;
    input = of_input.input;
    all = of_input.all;
    written = (h.ends.given, rest, lines_begun (source_items asked h.table h.bodies) h.start h.ends.lines (lines_of of_input.input) h.ends.given rest is of_input.is, h.ends.written);
  }

  -- a write failed, within a reply
  at_write_fault : ServesProgram asked text (devices old) (devices new) ended.WriteFault → AnswersSome words old new
  at_write_fault h =
      let items = items_from (source_items asked h.table h.bodies) h.start h.ends.lines in
      let next = h.ends.k + 1 in
      let rest = h.ends.given_is.1 in
      at_prefix ended.WriteFault h h.ends.of_input (rest ++ replies (drop next items))
      (first_written items next h.ends.given rest h.ends.given_is.3)

  at_disk_fault : ServesProgram asked text (devices old) (devices new) ended.DiskFault → AnswersSome words old new
  at_disk_fault h =
      let items = items_from (source_items asked h.table h.bodies) h.start h.ends.lines in
      at_prefix ended.DiskFault h h.ends.of_input (replies (drop h.ends.k items))
      (first_whole items h.ends.k h.ends.given h.ends.given_is)

  at_memory : ServesProgram asked text (devices old) (devices new) ended.Memory → AnswersSome words old new
  at_memory h =
      let items = items_from (source_items asked h.table h.bodies) h.start h.ends.lines in
      at_prefix ended.Memory h h.ends.of_input (replies (drop h.ends.k items))
      (first_whole items h.ends.k h.ends.given h.ends.given_is)

  treated_answers : (exit : Exit) → Treats asked text (devices old) (devices new) exit → AnswersWhatItTook words old new exit
  treated_answers Done (inl h) = inl h.input
  treated_answers Done (inr (inl h)) = inl h.input
  treated_answers Done (inr (inr h)) = inr (at_end h)
  treated_answers Refused h = h.input
  treated_answers ReadFault h = at_read_fault h
  treated_answers WriteFault (inl h) = inl h.input
  treated_answers WriteFault (inr (inl h)) = inl h.input
  treated_answers WriteFault (inr (inr (inl h))) = inl h.input
  treated_answers WriteFault (inr (inr (inr h))) = inr (at_write_fault h)
  treated_answers DiskFault (inl h) = inl h.0.input
  treated_answers DiskFault (inr h) = inr (at_disk_fault h)
  treated_answers StoreRefused h = h.input
  treated_answers Memory (inl h) = inl h.input
  treated_answers Memory (inr (inl h)) = inl h.input
  treated_answers Memory (inr (inr h)) = inr (at_memory h)
  treated_answers Long h = at_long h
  treated_answers Usage h = absurd h
  treated_answers FileFault h = absurd h

-- what a status says has the replies to what was taken
pub answers : (words : Option Asked) (old new : OutsideView) (exit : Exit) → MeetsStatus words old new exit → AnswersWhatItTook words old new exit
answers words old new Done h = treated_answers words old new h.asked h.is h.text h.told Done h.treats
answers words old new Refused h = treated_answers words old new h.asked h.is h.text h.told Refused h.treats
answers words old new Usage h = h.kept.input
answers words old new ReadFault h = treated_answers words old new h.asked h.is h.text h.told ReadFault h.treats
answers words old new WriteFault h = treated_answers words old new h.asked h.is h.text h.told WriteFault h.treats
answers words old new DiskFault h = treated_answers words old new h.asked h.is h.text h.told DiskFault h.treats
answers words old new StoreRefused h = treated_answers words old new h.asked h.is h.text h.told StoreRefused h.treats
answers words old new FileFault h = h.kept.input
answers words old new Memory (inl h) = inl h.input
answers words old new Memory (inr h) = treated_answers words old new h.asked h.is h.text h.told Memory h.treats
answers words old new Long h = treated_answers words old new h.asked h.is h.text h.told Long h.treats
