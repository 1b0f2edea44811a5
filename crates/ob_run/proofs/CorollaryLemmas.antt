-- From what a status says to what a run comes to where all bytes are observable.
use Rattle.std.proofs.Common.{◌≡◌, ◌⊎◌, inl, inr, ℕ, ◌≤◌, List, [], ◌++◌, length, Option, Some, sym, ◌∙◌, ap, subst, arith}
use Rattle.std.proofs.lemmas.List.{append-nil, take_all}
use Rattle.ob_base.specs.Limits.{area_bytes}
use Rattle.ob_table.specs.Tables.{ClassTable}
use Rattle.ob_silica.specs.Terms.{SilicaBody}
use Rattle.ob_io.specs.LinesOfText.{lines_of}
use Rattle.ob_io.specs.Told.{Takes, Gives, IsEnd}
use Rattle.ob_store_spec.specs.Stores.{StoreProgram, StoreState, IsStoreOf}
use Rattle.ob_store_spec.proofs.Leading.{one_store}
use Rattle.ob_serve.specs.Crash.{AfterFirst}
use Rattle.ob_serve.specs.Served.{IsStored}
use Rattle.ob_serve.specs.Session.{SessionItem, items_from, state_after, replies}
use Rattle.ob_serve.specs.Standing.{RepresentsStore}
use Rattle.ob_serve.specs.declared.serving.Served.TheVariants as ended
use Rattle.ob_words.specs.Asked.{Asked}
use Rattle.ob_run.specs.Corollary.{serving, IsObservable, ServesAll, IsUndisturbed, ServesObservable}
use Rattle.ob_outside.specs.Outside.{OutsideView, devices}
use Rattle.ob_run.specs.Reasons.{HasStoreFor, IsSmooth, HasReason}
use Rattle.ob_run.specs.Sessions.{program_with, source_items, ServesProgram}
use Rattle.ob_run.specs.Statuses.{Treats, MeetsStatus}
use Rattle.ob_outside.specs.declared.exit.Exit.{Exit}
use Rattle.ob_outside.specs.declared.exit.Exit.TheVariants.{Done, Memory}
use Rattle.ob_run.proofs.AnsweringLemmas.{lines_replied}
use Rattle.ob_run.proofs.ProgramLemmas.{one_table_of, one_bodies_of, one_program}
use Rattle.ob_run.proofs.TopLemmas.{treated_told, has_reason}

-- ---- what is observable

-- at the end nothing is left
nothing_left : (now : Option (List ℕ)) (ys : List ℕ) → now ≡ Some ys → IsEnd now → ys ≡ []
nothing_left now ys has end = subst (λ (o : Option (List ℕ)). IsEnd o) has end

-- so all was taken that was left
took_all : (left now : Option (List ℕ)) (xs ys input : List ℕ) → left ≡ Some xs → now ≡ Some ys → Takes left now input → IsEnd now → input ≡ xs
took_all left now xs ys input had has took end =
    let first : Takes (Some xs) now input = subst (λ (o : Option (List ℕ)). Takes o now input) had took in
    let split : xs ≡ input ++ ys = subst (λ (o : Option (List ℕ)). Takes (Some xs) o input) has first in
    sym (split ∙ ap (λ (l : List ℕ). input ++ l) (nothing_left now ys has end) ∙ append-nil input)

-- what was written comes behind what there was
wrote : (written now : Option (List ℕ)) (xs ys bytes : List ℕ) → written ≡ Some xs → now ≡ Some ys → Gives written now bytes → ys ≡ xs ++ bytes
wrote written now xs ys bytes had has gave =
    let first : Gives (Some xs) now bytes = subst (λ (o : Option (List ℕ)). Gives o now bytes) had gave in
    subst (λ (o : Option (List ℕ)). Gives (Some xs) o bytes) has first

-- the store after as many items as there are
after_all : {S : Type 0} (stands : S → List ℕ → Type 0) (start : S) (items : List (SessionItem S)) (k : ℕ) (c : List ℕ)
    → k ≡ length items → AfterFirst stands start items (IsStored ended.Done k) c → stands (state_after start items) c
after_all stands start items k c all after =
    let is : after.0 ≡ k = after.1 in
    let none_left : length items ≤ after.0 = omega (arith, all, is) in
    subst (λ (first : List (SessionItem _)). stands (state_after start first) c) (take_all after.0 items none_left) after.2

-- ---- where all bytes are observable

module _ (words : Option Asked) (old new : OutsideView) (given : IsObservable words old new) where
  abbrev asked : Asked
  asked = serving given.name given.store given.limits

  abbrev lines : List (List ℕ)
  lines = lines_of given.old.input

  -- what a run that is Done has served, for a program and a store
  abbrev Serves : ClassTable → List SilicaBody → StoreState → Type 0
  Serves table bodies start = ServesAll (program_with table bodies) start (items_from (source_items asked table bodies) start lines) given.old given.new new.disk.now

  -- a session that ended so has served all
  session_serves : (h : ServesProgram asked given.text (devices old) (devices new) ended.Done) → Serves h.table h.bodies h.start
  session_serves h = record {
    input = nothing_left new.input.left given.new.input given.has.input h.ends.of_input.end;
    output = wrote old.output.written new.output.written given.old.output given.new.output h.ends.given given.had.output given.has.output h.ends.written
        ∙ ap (λ (l : List ℕ). given.old.output ++ l) replied;
    disk = at_end given.new.disk (h.ends.stored.content given.new.disk given.has.disk);
    images = λ image left. at_end image (h.ends.stored.images image left);
  }
    where
      is_input : h.ends.lines ≡ lines
      is_input =
          h.ends.of_input.is ∙ ap (λ (l : List ℕ). lines_of l)
          (took_all old.input.left new.input.left given.old.input given.new.input h.ends.of_input.input given.had.input given.has.input h.ends.of_input.took.told h.ends.of_input.end)

      replied : h.ends.given ≡ replies (items_from (source_items asked h.table h.bodies) h.start lines)
      replied = lines_replied (source_items asked h.table h.bodies) h.start h.ends.lines lines h.ends.k h.ends.given h.ends.answered h.ends.given_is is_input

      at_end : (c : List ℕ)
          → AfterFirst (RepresentsStore (program_with h.table h.bodies) (Some area_bytes)) h.start (items_from (source_items asked h.table h.bodies) h.start h.ends.lines) (IsStored ended.Done h.ends.k) c
          → IsStoreOf (program_with h.table h.bodies) area_bytes c (state_after h.start (items_from (source_items asked h.table h.bodies) h.start lines))
      at_end c after =
          subst (λ (ls : List (List ℕ)). IsStoreOf (program_with h.table h.bodies) area_bytes c (state_after h.start (items_from (source_items asked h.table h.bodies) h.start ls))) is_input
          (after_all (RepresentsStore (program_with h.table h.bodies) (Some area_bytes)) h.start (items_from (source_items asked h.table h.bodies) h.start h.ends.lines) h.ends.k c h.ends.answered after)

  -- of the given program, and from the given store on
  served : ServesProgram asked given.text (devices old) (devices new) ended.Done → Serves given.table given.bodies given.start
  served h =
      let table = one_table_of given.text h.table given.table h.bodies given.bodies h.program given.program in
      let bodies = one_bodies_of given.text h.table given.table h.bodies given.bodies h.program given.program in
      let program = one_program given.text h.table given.table h.bodies given.bodies h.program given.program in
      let begun : IsStoreOf (program_with given.table given.bodies) area_bytes given.old.disk h.start =
      subst (λ (p : StoreProgram). IsStoreOf p area_bytes given.old.disk h.start) program (h.begins.1 given.old.disk given.had.disk) in
      let start = one_store (program_with given.table given.bodies) area_bytes given.old.disk h.start given.start begun given.represents in
      subst (λ (s : StoreState). Serves given.table given.bodies s) start
      (subst (λ (bs : List SilicaBody). Serves given.table bs h.start) bodies (subst (λ (t : ClassTable). Serves t h.bodies h.start) table (session_serves h)))

  -- a command that serves lines is Done by a session alone
  done_serves : Treats asked given.text (devices old) (devices new) Done → Serves given.table given.bodies given.start
  done_serves (inl h) = absurd h.output.said
  done_serves (inr (inl h)) = absurd h.is
  done_serves (inr (inr h)) = served h

  done : (exit : Exit) → MeetsStatus words old new exit → exit ≡ Done → Serves given.table given.bodies given.start
  done exit status is =
      let of_text = subst (λ (e : Exit). MeetsStatus words old new e) is status in
      done_serves (treated_told words old new asked given.text Done given.asks given.contains of_text)

  -- STORE represents a store of each program of the text, since there is one alone
  has_store : HasStoreFor asked.command given.text old.disk
  has_store = (
    given.old.disk,
    given.had.disk,
    λ table bodies program. (
      given.start,
      subst (λ (p : StoreProgram). IsStoreOf p area_bytes given.old.disk given.start)
          (one_program given.text given.table table given.bodies bodies given.program program) given.represents,
    ),
  )

  abbrev smooth : IsUndisturbed old new given.old.input → IsSmooth words old new
  smooth calm = record {
    asked = asked;
    is = given.asks;
    text = given.text;
    told = given.contains;
    files = calm.files;
    writes = calm.writes;
    input = record { input = given.old.input; told = given.had.input; few = calm.few; reads = calm.reads; disk = calm.disk };
  }

  -- and where nothing disturbs it, it is Done
  undisturbed : (exit : Exit) → HasReason words old new exit → IsUndisturbed old new given.old.input → (exit ≡ Done) ⊎ (exit ≡ Memory)
  undisturbed exit reason calm = reason.accepted (smooth calm) (record { table = given.table; bodies = given.bodies; is = given.program }) has_store

-- what a status says has what it comes to where all bytes are observable
pub serves_observable : (words : Option Asked) (old new : OutsideView) (exit : Exit) → MeetsStatus words old new exit → ServesObservable words old new exit
serves_observable words old new exit status = record {
  done = λ given is. done words old new given exit status is;
  undisturbed = λ given calm. undisturbed words old new given exit (has_reason words old new exit status) calm;
}
