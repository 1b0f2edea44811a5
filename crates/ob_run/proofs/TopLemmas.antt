-- From what is done with a text to what a run says.
use Rattle.std.proofs.Common.{◌≡◌, ◌⊎◌, inl, inr, ℕ, ◌<◌, List, length, Option, None, Some, refl, sym, ap, subst, arith, length-append}
use Rattle.ob_base.specs.Limits.{most_taken, area_bytes}
use Rattle.ob_disk_spec.specs.Disk.{DiskView, Reads}
use Rattle.ob_io.specs.Causes.{Rose}
use Rattle.ob_io.specs.Told.{Takes}
use Rattle.ob_io.specs.Views.{Ask}
use Rattle.ob_front.specs.Programs.{IsProgram, IsAccepted}
use Rattle.ob_front.proofs.ProgramsLaws.{never_accepted_and_faulty_lem}
use Rattle.ob_store_spec.specs.Stores.{StoreProgram, StoreState, IsStoreOf}
use Rattle.ob_store_spec.proofs.Refusing.{never_both}
use Rattle.ob_serve.specs.Served.{IsToldAs}
use Rattle.ob_outside.specs.Devices.{Devices}
use Rattle.ob_serve.specs.declared.serving.Served.{Served}
use Rattle.ob_serve.specs.declared.serving.Served.TheVariants as ended
use Rattle.ob_silica.specs.Terms.{SilicaBody}
use Rattle.ob_table.specs.Tables.{ClassTable}
use Rattle.ob_words.specs.Asked.{Command, check, serve, serve_stored, audit, trial, Asked}
use Rattle.ob_run.specs.Attaching.{UsesDisk, store_of, store_asked}
use Rattle.ob_outside.specs.Faults.{EndsAtFault, NamesFault}
use Rattle.ob_run.specs.Auditing.{AuditsStore}
use Rattle.ob_run.specs.FileAsks.{AsksOnce, AsksAtMostOnce, AsksFor, file_asked}
use Rattle.ob_run.specs.Commands.{file_of, text_in}
use Rattle.ob_run.specs.Openings.{RefusesStore}
use Rattle.ob_outside.specs.Outside.{OutsideView, devices}
use Rattle.ob_run.specs.Reasons.{HasInput, HasInputFor, HasStoreFor, HasRefusal, HasRefusalFor, IsSmooth, HasReason}
use Rattle.ob_run.specs.Runs.{IsRun}
use Rattle.ob_run.specs.Sessions.{program_with, BeginsAt, ServesProgram}
use Rattle.ob_run.specs.Statuses.{IsFinding, Treats, TreatsText, MeetsStatus}
use Rattle.ob_run.specs.TextRead.{IsReadOf}
use Rattle.ob_run.specs.VendingMachine.{vending_machine}
use Rattle.ob_outside.specs.Writes.{WritesWhole}
use Rattle.ob_outside.specs.declared.exit.Exit.{Exit}
use Rattle.ob_outside.specs.declared.exit.Exit.TheVariants.{Done, Refused, Usage, ReadFault, WriteFault, DiskFault, StoreRefused, FileFault, Memory, Long}
use Rattle.ob_run.proofs.AnsweringLemmas.{answers}
use Rattle.ob_run.proofs.AttachingLemmas.{uses_nothing}
use Rattle.ob_run.proofs.AuditingLemmas.{keeps_unless_served}
use Rattle.ob_run.proofs.ProgramLemmas.{one_program}
use Rattle.ob_run.proofs.SessionLemmas.{spared}
use Rattle.ob_run.proofs.TextLemmas.{TreatsAll, treated_all}

-- nothing is at most one ask
pub asks_nothing : (file : Option (List ℕ)) (asks : List Ask) → AsksAtMostOnce file asks asks
asks_nothing None asks = refl
asks_nothing (Some name) asks = inr refl

-- ---- what a command did with a text that was read is what its status says

module _ (words : Option Asked) (old new : OutsideView) where
  met : (exit : Exit) → TreatsText words old new exit → MeetsStatus words old new exit
  met Done h = h
  met Refused h = h
  met Usage h = absurd h.treats
  met ReadFault h = h
  met WriteFault h = h
  met DiskFault h = h
  met StoreRefused h = h
  met FileFault h = absurd h.treats
  met Memory h = inr h
  met Long h = h

  -- the text of P, as far as it was read
  pub treated : (asked : Asked) (name text : List ℕ) (exit : Exit) → words ≡ Some asked → file_of asked.command ≡ Some name → AsksOnce (Some name) old.files.asks new.files.asks
      → IsReadOf (old.files.content name) text → Treats asked text (devices old) (devices new) exit → MeetsStatus words old new exit
  treated asked name text exit is named file read h =
      let all = treated_all asked (old.files.content name) text (devices old) (devices new) exit read h in
      met exit (record {
        asked = asked;
        is = is;
        file = subst (λ (o : Option (List ℕ)). AsksOnce o old.files.asks new.files.asks) (sym named) file;
        text = all.text;
        told = subst (λ (o : Option (List ℕ)). IsToldAs (text_in old.files o) all.text) (sym named) all.told;
        treats = all.treats;
      })

  -- the text that a command has by itself
  pub treated_own : (asked : Asked) (exit : Exit) → words ≡ Some asked → file_of asked.command ≡ None → new.files.asks ≡ old.files.asks
      → Treats asked vending_machine (devices old) (devices new) exit → MeetsStatus words old new exit
  treated_own asked exit is none kept h = met exit (record {
    asked = asked;
    is = is;
    file = subst (λ (o : Option (List ℕ)). AsksOnce o old.files.asks new.files.asks) (sym none) kept;
    text = vending_machine;
    told = subst (λ (o : Option (List ℕ)). IsToldAs (text_in old.files o) vending_machine) (sym none) refl;
    treats = h;
  })

-- ---- nothing is refused without reason

-- the text that is observable is all of it
same_text : (content : Option (List ℕ)) (text whole : List ℕ) → content ≡ Some whole → IsToldAs content text → text ≡ whole
same_text content text whole told all = subst (λ (o : Option (List ℕ)). IsToldAs o text) told all

-- what a run says of what the words ask for, and of the observable text
pub treated_told : (words : Option Asked) (old new : OutsideView) (asked : Asked) (whole : List ℕ) (exit : Exit) → words ≡ Some asked → text_in old.files (file_of asked.command) ≡ Some whole → TreatsText words old new exit → Treats asked whole (devices old) (devices new) exit
treated_told words old new asked whole exit is told h =
    let same : h.asked ≡ asked = cc (h.is, is) in
    let all = subst (λ (a : Asked). TreatsAll a (text_in old.files (file_of a.command)) (devices old) (devices new) exit) same (record { text = h.text; told = h.told; treats = h.treats }) in
    subst (λ (l : List ℕ). Treats asked l (devices old) (devices new) exit) (same_text (text_in old.files (file_of asked.command)) all.text whole told all.told) all.treats

-- so many bytes weren't taken of an input that has fewer
too_many : (left now : Option (List ℕ)) (input taken : List ℕ) → left ≡ Some input → length input < most_taken → Takes left now taken → length taken ≡ most_taken → ⊥
too_many None now input taken told few took exactly = cc
too_many (Some xs) None input taken told few took exactly = took
too_many (Some xs) (Some ys) input taken told few took exactly =
    let same : xs ≡ input = cc in
    omega (arith, ap length took, ap length same, length-append taken ys)

-- a command that serves lines has them
begun_input : (command : Command) (program : StoreProgram) (disk : DiskView) (start : StoreState) (old new : Devices) → HasInputFor command old new → BeginsAt command program disk start → HasInput old new
begun_input (check name) program disk start old new input begins = absurd begins
begun_input (serve name) program disk start old new input begins = input
begun_input (serve_stored name store) program disk start old new input begins = input
begun_input (audit name store) program disk start old new input begins = absurd begins
begun_input (trial length) program disk start old new input begins = absurd begins

-- of the disk of a store no call failed
stored_calm : (command : Command) (store : List ℕ) (old new : Devices) → HasInputFor command old new → store_of command ≡ Some store → ¬ (Rose old.disk.faults new.disk.faults)
stored_calm (check given) store old new input is = absurd (cc is)
stored_calm (serve given) store old new input is = input.disk
stored_calm (serve_stored given kept) store old new input is = input.disk
stored_calm (audit given kept) store old new input is = input
stored_calm (trial length) store old new input is = absurd (cc is)

module _ (words : Option Asked) (old new : OutsideView) (smooth : IsSmooth words old new) where
  told : (exit : Exit) → TreatsText words old new exit → Treats smooth.asked smooth.text (devices old) (devices new) exit
  told exit h = treated_told words old new smooth.asked smooth.text exit smooth.is smooth.told h

  served_input : (served : Served) → ServesProgram smooth.asked smooth.text (devices old) (devices new) served → HasInput (devices old) (devices new)
  served_input served h = begun_input smooth.asked.command (program_with h.table h.bodies) old.disk h.start (devices old) (devices new) smooth.input h.begins

  -- no call failed
  no_read_fault : Treats smooth.asked smooth.text (devices old) (devices new) ReadFault → ⊥
  no_read_fault h = let input = served_input ended.ReadFault h in input.reads h.ends.cause

  no_write_fault : Treats smooth.asked smooth.text (devices old) (devices new) WriteFault → ⊥
  no_write_fault (inl h) = smooth.writes h.output.cause
  no_write_fault (inr (inl h)) = smooth.writes h.line.cause
  no_write_fault (inr (inr (inl h))) = smooth.writes h.numbers.cause
  no_write_fault (inr (inr (inr h))) = smooth.writes h.ends.cause

  no_disk_fault : Treats smooth.asked smooth.text (devices old) (devices new) DiskFault → ⊥
  no_disk_fault (inl h) = stored_calm smooth.asked.command h.0.of.store (devices old) (devices new) smooth.input h.0.of.is h.1
  no_disk_fault (inr h) = let input = served_input ended.DiskFault h in input.disk h.ends.cause

  not_long : Treats smooth.asked smooth.text (devices old) (devices new) Long → ⊥
  not_long h =
      let input = served_input ended.Long h in
      too_many old.input.left new.input.left input.input h.ends.of_input.taken input.told input.few h.ends.of_input.took.told h.ends.of_input.many

  -- a disk that represents a store isn't refused
  has_store : (command : Command) → HasStoreFor command smooth.text old.disk → RefusesStore command smooth.text WritesWhole (devices old) (devices new) → ⊥
  has_store (serve name) has h = cc h.of.is
  has_store (serve_stored name store) has h =
      let stands = has.2 h.of.table h.of.bodies h.of.program in
      never_both (program_with h.of.table h.of.bodies) area_bytes has.0 h.line.said.cause stands.0 (h.line.said.told has.0 has.1) stands.1
  has_store (audit name store) has h =
      let stands = has.2 h.of.table h.of.bodies h.of.program in
      never_both (program_with h.of.table h.of.bodies) area_bytes has.0 h.line.said.cause stands.0 (h.line.said.told has.0 has.1) stands.1
  has_store (check name) has h = cc h.of.is
  has_store (trial length) has h = cc h.of.is

  no_fault : IsAccepted smooth.text → Treats smooth.asked smooth.text (devices old) (devices new) Refused → ⊥
  no_fault accepted h = never_accepted_and_faulty_lem smooth.text h.output.said.fault h.output.said.told accepted

  -- a text that is accepted is served, or what is found of it is written
  accepted : (e : Exit) → MeetsStatus words old new e → IsAccepted smooth.text → HasStoreFor smooth.asked.command smooth.text old.disk → (e ≡ Done) ⊎ (e ≡ Memory)
  accepted Done h accepts has = inl refl
  accepted Memory h accepts has = inr refl
  accepted Refused h accepts has = absurd (no_fault accepts (told Refused h))
  accepted Usage h accepts has = absurd (cc (h.none, smooth.is))
  accepted ReadFault h accepts has = absurd (no_read_fault (told ReadFault h))
  accepted WriteFault h accepts has = absurd (no_write_fault (told WriteFault h))
  accepted DiskFault h accepts has = absurd (no_disk_fault (told DiskFault h))
  accepted StoreRefused h accepts has = absurd (has_store smooth.asked.command has (told StoreRefused h))
  accepted FileFault h accepts has = absurd (smooth.files h.cause)
  accepted Long h accepts has = absurd (not_long (told Long h))

  -- what is found is of a text that is accepted
  found : (command : Command) (bytes : List ℕ) → IsFinding command smooth.text bytes → IsAccepted smooth.text
  found (check name) bytes h = h.0
  found (serve name) bytes h = absurd h
  found (serve_stored name store) bytes h = absurd h
  found (audit name store) bytes h = absurd h
  found (trial length) bytes h = record { table = h.table; bodies = h.bodies; is = h.program }

  not_done : ¬ (IsAccepted smooth.text) → Treats smooth.asked smooth.text (devices old) (devices new) Done → ⊥
  not_done fault (inl h) = fault (found smooth.asked.command h.output.bytes h.output.said)
  not_done fault (inr (inl h)) = fault (record { table = h.of.table; bodies = h.of.bodies; is = h.of.program })
  not_done fault (inr (inr h)) = fault (record { table = h.table; bodies = h.bodies; is = h.program })

  no_store : ¬ (IsAccepted smooth.text) → Treats smooth.asked smooth.text (devices old) (devices new) StoreRefused → ⊥
  no_store fault h = fault (record { table = h.of.table; bodies = h.of.bodies; is = h.of.program })

  -- a store that is refused isn't one
  refused_is_none : HasRefusal smooth.text old.disk → (table : ClassTable) (bodies : List SilicaBody) → IsProgram smooth.text table bodies
      → ((c : List ℕ) → Reads old.disk c → (s : StoreState) × IsStoreOf (program_with table bodies) area_bytes c s) → ⊥
  refused_is_none has table bodies program stands =
      let one = stands has.bytes has.reads in
      never_both (program_with has.table has.bodies) area_bytes has.bytes has.cause one.0 has.refused
      (subst (λ (p : StoreProgram). IsStoreOf p area_bytes has.bytes one.0) (one_program smooth.text table has.table bodies has.bodies program has.program) one.1)

  -- so no session begins on it, and no audit counts it
  no_finding : (command : Command) → HasRefusalFor command smooth.text old.disk → (bytes : List ℕ) → IsFinding command smooth.text bytes → ⊥
  no_finding (check name) has bytes h = has
  no_finding (serve name) has bytes h = has
  no_finding (serve_stored name store) has bytes h = h
  no_finding (audit name store) has bytes h = h
  no_finding (trial length) has bytes h = has

  no_numbers : (command : Command) → HasRefusalFor command smooth.text old.disk → AuditsStore command smooth.text WritesWhole (devices old) (devices new) → ⊥
  no_numbers (check name) has h = has
  no_numbers (serve name) has h = has
  no_numbers (serve_stored name store) has h = h.is
  no_numbers (audit name store) has h =
      refused_is_none has h.of.table h.of.bodies h.of.program
      (λ c reads. let of = h.numbers.said.are.represents c reads in (of.store, of.represents))
  no_numbers (trial length) has h = has

  no_start : (command : Command) (table : ClassTable) (bodies : List SilicaBody) (start : StoreState) → IsProgram smooth.text table bodies → HasRefusalFor command smooth.text old.disk
      → BeginsAt command (program_with table bodies) old.disk start → ⊥
  no_start (check name) table bodies start program has begins = has
  no_start (serve name) table bodies start program has begins = has
  no_start (serve_stored name store) table bodies start program has begins = refused_is_none has table bodies program (λ c reads. (start, begins.1 c reads))
  no_start (audit name store) table bodies start program has begins = begins
  no_start (trial length) table bodies start program has begins = has

  not_opened : HasRefusalFor smooth.asked.command smooth.text old.disk → Treats smooth.asked smooth.text (devices old) (devices new) Done → ⊥
  not_opened has (inl h) = no_finding smooth.asked.command has h.output.bytes h.output.said
  not_opened has (inr (inl h)) = no_numbers smooth.asked.command has h
  not_opened has (inr (inr h)) = no_start smooth.asked.command h.table h.bodies h.start h.program has h.begins

  accepted_by : (command : Command) → HasRefusalFor command smooth.text old.disk → IsAccepted smooth.text
  accepted_by (check name) has = absurd has
  accepted_by (serve name) has = absurd has
  accepted_by (serve_stored name store) has = record { table = has.table; bodies = has.bodies; is = has.program }
  accepted_by (audit name store) has = record { table = has.table; bodies = has.bodies; is = has.program }
  accepted_by (trial length) has = absurd has

  -- what is refused is told
  store_refused : (e : Exit) → MeetsStatus words old new e → HasRefusalFor smooth.asked.command smooth.text old.disk → (e ≡ StoreRefused) ⊎ (e ≡ Memory)
  store_refused StoreRefused h has = inl refl
  store_refused Memory h has = inr refl
  store_refused Done h has = absurd (not_opened has (told Done h))
  store_refused Refused h has = absurd (no_fault (accepted_by smooth.asked.command has) (told Refused h))
  store_refused Usage h has = absurd (cc (h.none, smooth.is))
  store_refused ReadFault h has = absurd (no_read_fault (told ReadFault h))
  store_refused WriteFault h has = absurd (no_write_fault (told WriteFault h))
  store_refused DiskFault h has = absurd (no_disk_fault (told DiskFault h))
  store_refused FileFault h has = absurd (smooth.files h.cause)
  store_refused Long h has = absurd (not_long (told Long h))

  -- a text that isn't is refused
  refused : (e : Exit) → MeetsStatus words old new e → ¬ (IsAccepted smooth.text) → (e ≡ Refused) ⊎ (e ≡ Memory)
  refused Done h fault = absurd (not_done fault (told Done h))
  refused Memory h fault = inr refl
  refused Refused h fault = inl refl
  refused Usage h fault = absurd (cc (h.none, smooth.is))
  refused ReadFault h fault = absurd (no_read_fault (told ReadFault h))
  refused WriteFault h fault = absurd (no_write_fault (told WriteFault h))
  refused DiskFault h fault = absurd (no_disk_fault (told DiskFault h))
  refused StoreRefused h fault = absurd (no_store fault (told StoreRefused h))
  refused FileFault h fault = absurd (smooth.files h.cause)
  refused Long h fault = absurd (not_long (told Long h))

-- words that ask for nothing are Usage, where memory suffices
unknown : (words : Option Asked) (old new : OutsideView) (e : Exit) → MeetsStatus words old new e → words ≡ None → (e ≡ Usage) ⊎ (e ≡ Memory)
unknown words old new Usage h none = inl refl
unknown words old new Done h none = absurd (cc (h.is, none))
unknown words old new Refused h none = absurd (cc (h.is, none))
unknown words old new ReadFault h none = absurd (cc (h.is, none))
unknown words old new WriteFault h none = absurd (cc (h.is, none))
unknown words old new DiskFault h none = absurd (cc (h.is, none))
unknown words old new StoreRefused h none = absurd (cc (h.is, none))
unknown words old new FileFault h none = absurd (cc (h.is, none))
unknown words old new Memory h none = inr refl
unknown words old new Long h none = absurd (cc (h.is, none))

-- what a status says is reason enough
pub has_reason : (words : Option Asked) (old new : OutsideView) (e : Exit) → MeetsStatus words old new e → HasReason words old new e
has_reason words old new e h = record {
  unknown = unknown words old new e h;
  accepted = λ smooth. accepted words old new smooth e h;
  refused = λ smooth. store_refused words old new smooth e h;
  faulty = λ smooth. refused words old new smooth e h;
}

-- a status that names a fault has it for its cause
module _ (asked : Asked) (text : List ℕ) (old new : OutsideView) where
  write_named : Treats asked text (devices old) (devices new) WriteFault → Rose old.output.faults new.output.faults
  write_named (inl h) = h.output.cause
  write_named (inr (inl h)) = h.line.cause
  write_named (inr (inr (inl h))) = h.numbers.cause
  write_named (inr (inr (inr h))) = h.ends.cause

  disk_named : Treats asked text (devices old) (devices new) DiskFault → Rose old.disk.faults new.disk.faults
  disk_named (inl h) = h.1
  disk_named (inr h) = h.ends.cause

names_fault : (words : Option Asked) (old new : OutsideView) (e : Exit) → MeetsStatus words old new e → NamesFault e old new
names_fault words old new Done h = tt
names_fault words old new Refused h = tt
names_fault words old new Usage h = tt
names_fault words old new ReadFault h = h.treats.ends.cause
names_fault words old new WriteFault h = write_named h.asked h.text old new h.treats
names_fault words old new DiskFault h = disk_named h.asked h.text old new h.treats
names_fault words old new StoreRefused h = tt
names_fault words old new FileFault h = h.cause
names_fault words old new Memory h = tt
names_fault words old new Long h = tt

-- what is said of the words, the files, the streams and the disk is what a run promises
pub is_run : (words : Option Asked) (old new : OutsideView) (e : Exit) → MeetsStatus words old new e → AsksFor words old.files.asks new.files.asks → UsesDisk (store_asked words) old.disk new.disk
    → EndsAtFault old new e → IsRun words old new e
is_run words old new e status asks disk faults = record {
  status = status;
  reason = has_reason words old new e status;
  answers = answers words old new e status;
  asks = asks;
  disk = disk;
  kept = keeps_unless_served words old new e status disk;
  faults = faults;
  named = names_fault words old new e status;
}

-- no call was made
ends_untouched : (v : OutsideView) (exit : Exit) → EndsAtFault v v exit
ends_untouched v exit = record {
  files = omega arith;
  input = omega arith;
  output = omega arith;
  disk = omega arith;
  once = omega arith;
  calm = λ _ _ _ _. record { files = refl; input = refl; output = refl; disk = refl };
}

-- Memory ran out before anything was touched: that is a run of any words.
pub lacks_memory : (words : Option Asked) (v : OutsideView) → IsRun words v v Memory
lacks_memory words v =
    is_run words v v Memory (inl (record { input = refl; output = refl; disk = spared v.disk })) (asks_nothing (file_asked words) v.files.asks)
    (uses_nothing (store_asked words) v.disk) (ends_untouched v Memory)
