-- From what opening a store answers to what its command says.
use Rattle.std.proofs.Common.{◌≡◌, ◌⊎◌, inl, inr, ⊎_elim, ℕ, ◌<◌, ◌≤◌, ◌+◌, List, length, Some, refl, sym, ◌∙◌, subst, arith, Result, Ok, Err}
use Rattle.ob_base.specs.Limits.{area_bytes, most_weight}
use Rattle.ob_code.specs.Images.{image}
use Rattle.ob_code.specs.declared.image.Image.{Image}
use Rattle.ob_disk_spec.specs.Disk.{DiskView, Reads, LeavesOnly, IsQuiet}
use Rattle.ob_disk_spec.specs.Durable.{May, During}
use Rattle.ob_disk_spec.proofs.Moments.{weaker, then, call, during_to, throughout_to}
use Rattle.ob_emit_spec.specs.EmittedImages.{image_of}
use Rattle.ob_front.specs.Compiled.{IsCompiledProgram}
use Rattle.ob_front.specs.Programs.{IsProgram}
use Rattle.ob_heap.specs.Contents.{content_of}
use Rattle.ob_io.specs.Causes.{Rose}
use Rattle.ob_owners.specs.declared.counts.StoreCounts.{StoreCounts}
use Rattle.ob_journal_spec.specs.Areas.{begun}
use Rattle.ob_journal_spec.specs.Disks.{first, IsBlankOrBegunDisk}
use Rattle.ob_code_table.specs.ImageTables.{table_of_image}
use Rattle.ob_rest_spec.specs.AtRest.{IsStoreAtRest}
use Rattle.ob_silica.specs.Terms.{SilicaBody}
use Rattle.ob_sound_code.specs.SoundCode.{IsSoundCode}
use Rattle.ob_table.specs.Tables.{ClassTable}
use Rattle.ob_outside.specs.Devices.{Devices}
use Rattle.ob_serve.proofs.Tables.{refused_by_source}
use Rattle.ob_store.specs.Opening.{IsBlankStart}
use Rattle.ob_store.specs.Stores.{program_of, area_of_store, kept_of, state_of, StandsOn}
use Rattle.ob_store.specs.Unchanged.{KeepsBytes}
use Rattle.ob_store.specs.declared.store.Store.{Store}
use Rattle.ob_store.proofs.Unchanged.{kept_quiet, kept_then}
use Rattle.ob_store_spec.specs.Stores.{StoreProgram, StoreRefusal, IsStoreOf, IsRefused}
use Rattle.ob_words.specs.Asked.{Command, check, serve, serve_stored, audit, trial}
use Rattle.ob_run.specs.Attaching.{store_of}
use Rattle.ob_run.specs.Auditing.{CountsAs}
use Rattle.ob_run.specs.Openings.{KeepsStoreOf, OpensNot, IsOpenedAs, StaysUnopened, StaysFor, OpensAs}
use Rattle.ob_run.specs.Sessions.{program_with}
use Rattle.ob_run.specs.Statuses.{Treats}
use Rattle.ob_run.specs.TextRead.{TellsRefusal, asked_with}
use Rattle.ob_run.specs.declared.serving.Unopened.{Unopened}
use Rattle.ob_run.specs.declared.serving.Unopened.TheVariants as unopened
use Rattle.ob_outside.specs.declared.exit.Exit.{Exit}
use Rattle.ob_outside.specs.declared.exit.Exit.TheVariants.{Done, Refused, Usage, ReadFault, WriteFault, DiskFault, StoreRefused, FileFault, Memory, Long}
use Rattle.ob_run.proofs.SessionLemmas.{is_sound_for, same_program}

-- an image is far smaller than the area of a store
pub room_for : (code : Image) (need : ℕ) → length (image.bytes code) ≤ most_weight → need ≡ 18 + length (image.bytes code) → area_bytes < need → ⊥
room_for code need light is lacks = omega (arith, light, is, lacks)

-- a store that was opened on a disk
pub opened_at : (old new : DiskView) (code : Image) (store : Store) → area_of_store store ≡ Some area_bytes → IsStoreAtRest (table_of_image code) (content_of (kept_of store))
    → ((c : List ℕ) → Reads old c → IsStoreOf (program_of code) area_bytes c (state_of store)) → StandsOn (program_of code) store new
    → IsBlankStart (program_of code) (state_of store) ⊎ KeepsBytes old new
    → During old new (λ c. May old c ⊎ IsBlankOrBegunDisk area_bytes (image.bytes code) c) → IsOpenedAs (program_of code) old new store
opened_at old new code store area rest was stands still crash = record { area = area; at_rest = rest; was = was; stands = stands; since = since still }
  where
    Is : List ℕ → Type 0
    Is c = IsStoreOf (program_of code) area_bytes c (state_of store)

    begun_as : IsBlankStart (program_of code) (state_of store) → (c : List ℕ) → IsBlankOrBegunDisk area_bytes (image.bytes code) c → Is c
    begun_as start c (inl blank) = inl (record { blank = blank; content = start.content; gate = start.gate; serial = start.serial })
    begun_as start c (inr stood) = inr (record {
      place = first;
      says = begun (image.bytes code);
      opened = record { stands = stood; image = refl; content_is = sym start.content };
      at_rest = rest.at_rest;
      gate = start.gate;
      serial = start.serial;
    })

    since : IsBlankStart (program_of code) (state_of store) ⊎ KeepsBytes old new → LeavesOnly old new (λ c. May old c ⊎ Is c)
    since (inl start) = weaker old new _ _ crash.since (λ c either. ⊎_elim (λ may. inl may) (λ stood. inr (begun_as start c stood)) either)
    since (inr kept) = weaker old new _ _ kept.crash.since (λ c may. inl may)

-- a disk that was taken reads as before, and no byte of it changed
module _ (old mid new : DiskView) (same : mid.content ≡ old.content) (quiet : IsQuiet old mid) where
  -- what it may read or leave then, it might before
  may_before : (c : List ℕ) → May mid c → May old c
  may_before c may = ⊎_elim (λ reads. inl (quiet.content c reads)) (λ left. inr (quiet.images c left)) may

  taken : LeavesOnly old mid (May old)
  taken = call old mid (May old) quiet.time (λ c left. inr (quiet.images c left))

  or_before : (P : List ℕ → Type 0) (c : List ℕ) → May mid c ⊎ P c → May old c ⊎ P c
  or_before P c is = ⊎_elim (λ may. inl (may_before c may)) (λ p. inr p) is

  leaves_since : (P : List ℕ → Type 0) → LeavesOnly mid new (λ c. May mid c ⊎ P c) → LeavesOnly old new (λ c. May old c ⊎ P c)
  leaves_since P left =
      then old mid new (λ c. May old c ⊎ P c) (weaker old mid (May old) (λ c. May old c ⊎ P c) taken (λ c may. inl may))
      (weaker mid new (λ c. May mid c ⊎ P c) (λ c. May old c ⊎ P c) left (or_before P))

  kept_since : KeepsBytes mid new → KeepsBytes old new
  kept_since kept = kept_then old mid new (kept_quiet old mid quiet) kept

  stays_since : (program : StoreProgram) → StaysUnopened program mid new → StaysUnopened program old new
  stays_since program stays = record {
    quiet = λ c reads some. kept_since (stays.quiet c (same ∙ reads) some);
    content = λ c reads. ⊎_elim (λ was. inl (quiet.content c was)) (λ begun. inr begun) (stays.content c reads);
    disk = record {
      since = leaves_since (λ c. IsBlankOrBegunDisk area_bytes program.image c) stays.disk.since;
      now = throughout_to new (λ c. May mid c ⊎ IsBlankOrBegunDisk area_bytes program.image c) (λ c. May old c ⊎ IsBlankOrBegunDisk area_bytes program.image c) stays.disk.now
          (or_before (λ c. IsBlankOrBegunDisk area_bytes program.image c));
    };
  }

  -- so what its store was opened as, it is opened as since before
  pub opens_since : (program : StoreProgram) → mid.faults ≡ old.faults → (answer : Result Store Unopened) → OpensAs program mid new answer → OpensAs program old new answer
  opens_since program calm (Ok store) opened = record {
    area = opened.area;
    at_rest = opened.at_rest;
    was = λ c reads. opened.was c (same ∙ reads);
    stands = opened.stands;
    since = leaves_since (λ c. IsStoreOf program area_bytes c (state_of store)) opened.since;
  }
  opens_since program calm (Err (unopened.Refused refusal)) told = (λ c reads. told.0 c (same ∙ reads), kept_since told.1)
  opens_since program calm (Err unopened.DiskFault) failed = (stays_since program failed.0, subst (λ (n : ℕ). Rose n new.faults) calm failed.1)
  opens_since program calm (Err unopened.Memory) stays = stays_since program stays

  -- and what its numbers were counted as, they are since before
  pub counts_since : (program : StoreProgram) → mid.faults ≡ old.faults → (answer : Result StoreCounts Unopened) → CountsAs program mid new answer → CountsAs program old new answer
  counts_since program calm (Ok counts) are = (
    record { content = are.0.content; at_rest = are.0.at_rest; represents = λ c reads. are.0.represents c (same ∙ reads); counted = are.0.counted },
    kept_since are.1,
  )
  counts_since program calm (Err (unopened.Refused refusal)) told = (λ c reads. told.0 c (same ∙ reads), kept_since told.1)
  counts_since program calm (Err unopened.DiskFault) failed = (kept_since failed.0, subst (λ (n : ℕ). Rose n new.faults) calm failed.1)
  counts_since program calm (Err unopened.Memory) kept = kept_since kept

-- a disk of which no byte changed
kept_stays : (program : StoreProgram) (old new : DiskView) → KeepsBytes old new → StaysUnopened program old new
kept_stays program old new kept = record {
  quiet = λ c reads some. kept;
  content = λ c reads. inl (kept.content c reads);
  disk = during_to old new (May old) _ kept.crash (λ c may. inl may);
}

stays_for : (command : Command) (program : StoreProgram) (old new : DiskView) → KeepsBytes old new → StaysFor command program old new
stays_for (check name) program old new kept = kept_stays program old new kept
stays_for (serve name) program old new kept = kept_stays program old new kept
stays_for (serve_stored name store) program old new kept = kept_stays program old new kept
stays_for (audit name store) program old new kept = kept
stays_for (trial length) program old new kept = kept_stays program old new kept

-- a disk that couldn't be taken
pub untaken : (code : Image) (old new : DiskView) → IsQuiet old new → StaysUnopened (program_of code) old new
untaken code old new quiet = kept_stays (program_of code) old new (kept_quiet old new quiet)

module _ (table : ClassTable) (bodies : List SilicaBody) (code : Image) (compiled : IsCompiledProgram table bodies) (emitted : code ≡ image_of table bodies)
    (sound : IsSoundCode (record { table = table; bodies = bodies }) code) (text : List ℕ) (is : IsProgram text table bodies) where
  image_is : image.bytes code ≡ image.bytes (image_of table bodies)
  image_is = cc emitted

  abbrev pub kept_store : (command : Command) (file : List ℕ) → store_of command ≡ Some file → KeepsStoreOf command text
  kept_store command file keeps = record { store = file; is = keeps; table = table; bodies = bodies; program = is }

  -- its store wasn't opened
  pub opens_not : (name file : List ℕ) (old new : Devices) → StaysUnopened (program_of code) old.disk new.disk → new.input ≡ old.input → new.output ≡ old.output
      → OpensNot (serve_stored name file) text old new
  opens_not name file old new stays input output = record {
    of = kept_store (serve_stored name file) file refl;
    stays = record {
      quiet = stays.quiet;
      content = λ c reads. subst (λ (bytes : List ℕ). Reads old.disk c ⊎ IsBlankOrBegunDisk area_bytes bytes c) image_is (stays.content c reads);
      disk = subst (λ (bytes : List ℕ). During old.disk new.disk (λ c. May old.disk c ⊎ IsBlankOrBegunDisk area_bytes bytes c)) image_is stays.disk;
    };
    input = input;
    output = output;
  }

  -- nothing was done with the store of a command, and no byte of its disk changed
  pub leaves : (command : Command) (file : List ℕ) → store_of command ≡ Some file → (old new : Devices) → KeepsBytes old.disk new.disk → new.input ≡ old.input → new.output ≡ old.output
      → OpensNot command text old new
  leaves command file keeps old new kept input output = record {
    of = kept_store command file keeps;
    stays = stays_for command (program_with table bodies) old.disk new.disk kept;
    input = input;
    output = output;
  }

  -- what is said of a store that is refused
  pub refused_by_store : (command : Command) (file : List ℕ) (keeps : store_of command ≡ Some file) (old new : Devices) (cause : StoreRefusal) (exit : Exit) → TellsRefusal cause old.output new.output exit
      → ((c : List ℕ) → Reads old.disk c → IsRefused (program_of code) area_bytes c cause) → KeepsBytes old.disk new.disk → new.input ≡ old.input
      → (fuel lanes slice : ℕ) → Treats (asked_with command fuel lanes slice) text old new exit
  refused_by_store command file keeps old new cause exit tells told kept input fuel lanes slice = by exit tells
    where
      refused : (c : List ℕ) → Reads old.disk c → IsRefused (program_with table bodies) area_bytes c cause
      refused c reads =
          subst (λ (p : StoreProgram). IsRefused p area_bytes c cause) (same_program table bodies code compiled emitted sound)
          (refused_by_source (record { table = table; bodies = bodies }) code (is_sound_for table bodies code compiled emitted sound) area_bytes c cause (told c reads))

      by : (exit : Exit) → TellsRefusal cause old.output new.output exit → Treats (asked_with command fuel lanes slice) text old new exit
      by StoreRefused tells = record {
        of = kept_store command file keeps;
        line = record { bytes = tells.bytes; said = record { cause = cause; told = refused; line = tells.said }; written = tells.written };
        input = input;
        disk = kept;
      }
      by WriteFault tells = inr (inl (record {
        of = kept_store command file keeps;
        line = record { bytes = tells.bytes; said = record { cause = cause; told = refused; line = tells.said }; cause = tells.cause; front = tells.front };
        input = input;
        disk = kept;
      }))
      by Memory tells = inr (inl (leaves command file keeps old new kept input tells))
      by Done tells = absurd tells
      by Refused tells = absurd tells
      by Usage tells = absurd tells
      by ReadFault tells = absurd tells
      by DiskFault tells = absurd tells
      by FileFault tells = absurd tells
      by Long tells = absurd tells
