-- From what counting a store answers to what an audit says, and that an audit changes no byte of a disk.
use Rattle.std.specs.Prelude.{not, ◌&&◌, ◌==◌, map, filter, filter_map, flat_map, length, nat_eq}
use Rattle.std.specs.List.{enumerate_from}
use Rattle.std.proofs.Common.{◌≡◌, inl, inr, ℕ, ◌+◌, List, [], ◌++◌, Option, None, Some, Result, Ok, Err, refl, ◌∙◌, ap, subst, arith}
use Rattle.std.proofs.Math.Path.{fun_ext}
use Rattle.ob_base.specs.Limits.{area_bytes}
use Rattle.ob_code.specs.declared.image.Image.{Image}
use Rattle.ob_code_table.specs.ImageTables.{table_of_image}
use Rattle.ob_disk_spec.specs.Disk.{DiskView, Reads}
use Rattle.ob_emit_laws.specs.Names.{without_names}
use Rattle.ob_emit_laws.proofs.Tables.{tables_agree}
use Rattle.ob_emit_spec.specs.EmittedImages.{image_of}
use Rattle.ob_front.specs.Compiled.{IsCompiledProgram}
use Rattle.ob_front.specs.Programs.{IsProgram}
use Rattle.ob_heap.specs.Contents.{Stored, content_of}
use Rattle.ob_heap_spec.specs.Contents.{Content}
use Rattle.ob_heap_spec.specs.Objects.{Object}
use Rattle.ob_owners.specs.Counts.{count_objects, counts_of}
use Rattle.ob_owners.specs.declared.counts.StoreCounts.{StoreCounts}
use Rattle.ob_rest_spec.specs.AtRest.{IsStoreAtRest}
use Rattle.ob_rest_spec.specs.Failing.{is_marked}
use Rattle.ob_rest_spec.specs.Incoming.{IncomingReference, incoming_by_field, incoming_by_handle, handles_onto, owners}
use Rattle.ob_rest_spec.specs.Modes.{is_owned}
use Rattle.ob_rest_spec.specs.References.{FieldReference, reference_of, available_value, references_of}
use Rattle.ob_silica.specs.Terms.{SilicaBody}
use Rattle.ob_sound_code.specs.SoundCode.{IsSoundCode}
use Rattle.ob_store.specs.Opening.{FaultsAs}
use Rattle.ob_store.specs.Reading.{IsContentOf, ReadsStore, NeedsNoArea}
use Rattle.ob_store.specs.Stores.{program_of}
use Rattle.ob_store.specs.Unchanged.{KeepsBytes}
use Rattle.ob_store.specs.declared.error.OpenError.{OpenError}
use Rattle.ob_store.specs.declared.error.OpenError.TheVariants as of_store
use Rattle.ob_store.proofs.Unchanged.{kept_untouched}
use Rattle.ob_store_spec.specs.Stores.{StoreProgram, StoreState}
use Rattle.ob_store_table_laws.proofs.Unnamed.{said_of}
use Rattle.ob_table.specs.Tables.{ClassTable}
use Rattle.ob_outside.specs.Devices.{Devices}
use Rattle.ob_serve.specs.declared.serving.Served.{Served}
use Rattle.ob_serve.proofs.Tables.{rests_by_source}
use Rattle.ob_words.specs.Asked.{Command, check, serve, serve_stored, audit, trial, Asked}
use Rattle.ob_run.specs.Attaching.{AttachesAtMostOnce, UsesDisk, KeepsUnlessServed, KeepsUnlessAsked, store_of, store_asked}
use Rattle.ob_run.specs.Auditing.{AreNumbersOf, IsAudit, CountsAs, IsCountOf, TellsNumbers, unopened_by}
use Rattle.ob_outside.specs.Faults.{CountsFault}
use Rattle.ob_run.specs.Openings.{OpensNot, StaysFor}
use Rattle.ob_outside.specs.Outside.{OutsideView, devices}
use Rattle.ob_run.specs.Sessions.{program_with, BeginsAt, ServesProgram}
use Rattle.ob_run.specs.Statuses.{Treats, TreatsText, MeetsStatus}
use Rattle.ob_run.specs.TextRead.{asked_with}
use Rattle.ob_outside.specs.declared.exit.Exit.{Exit}
use Rattle.ob_outside.specs.declared.exit.Exit.TheVariants.{Done, Refused, Usage, ReadFault, WriteFault, DiskFault, StoreRefused, FileFault, Memory, Long}
use Rattle.ob_run.specs.declared.serving.Unopened.{Unopened}
use Rattle.ob_run.specs.declared.serving.Unopened.TheVariants as unopened
use Rattle.ob_run.proofs.OpeningLemmas.{kept_store, leaves}
use Rattle.ob_run.proofs.SessionLemmas.{by_program, is_sound_for}

-- ---- a store that was read, and counted

pub counted_as : (code : Image) (old new : DiskView) (content : Stored) (r : Result StoreCounts Unopened) → IsCountOf (table_of_image code) (content_of content) r → IsStoreAtRest (table_of_image code) (content_of content)
    → ((c : List ℕ) → Reads old c → IsContentOf (program_of code) area_bytes c (content_of content)) → KeepsBytes old new → CountsAs (program_of code) old new r
counted_as code old new content (Ok counts) is rests represents kept = (record { content = content_of content; at_rest = rests; represents = represents; counted = is }, kept)
counted_as code old new content (Err unopened.Memory) is rests represents kept = kept
counted_as code old new content (Err unopened.DiskFault) is rests represents kept = absurd is
counted_as code old new content (Err (unopened.Refused refusal)) is rests represents kept = absurd is

pub not_counted : (code : Image) (old new : DiskView) (e : OpenError) → NeedsNoArea (Err e) → ((c : List ℕ) → Reads old c → ReadsStore (program_of code) area_bytes (Err e) c) → KeepsBytes old new
    → FaultsAs {T = Stored} (Err e) old.faults new.faults → CountsAs (program_of code) old new (Err (unopened_by e))
not_counted code old new of_store.NotStore none read kept faults = (read, kept)
not_counted code old new (of_store.Damaged offset) none read kept faults = (read, kept)
not_counted code old new (of_store.OtherProgram offset) none read kept faults = (read, kept)
not_counted code old new (of_store.NotAtRest object) none read kept faults = (read, kept)
not_counted code old new (of_store.Room need limit) none read kept faults = absurd none
not_counted code old new of_store.DiskFault none read kept faults = (kept, faults.0)
not_counted code old new of_store.Memory none read kept faults = kept

-- ---- how often a call of the disk failed

-- the disk failed
abbrev pub Failed : Result StoreCounts Unopened → Type 0
Failed r = r ≡ Err unopened.DiskFault

calm : (failed : Type 0) (before now : ℕ) → now ≡ before → CountsFault failed before now
calm failed before now is = record { later = omega (arith, is); calm = λ none. is; once = omega (arith, is) }

pub counted_faults : (r : Result StoreCounts Unopened) (before now : ℕ) → now ≡ before → CountsFault (Failed r) before now
counted_faults r before now is = calm (Failed r) before now is

pub not_counted_faults : (e : OpenError) (before now : ℕ) → FaultsAs {T = Stored} (Err e) before now → CountsFault (Failed (Err (unopened_by e))) before now
not_counted_faults of_store.NotStore before now is = calm _ before now is
not_counted_faults (of_store.Damaged offset) before now is = calm _ before now is
not_counted_faults (of_store.OtherProgram offset) before now is = calm _ before now is
not_counted_faults (of_store.NotAtRest object) before now is = calm _ before now is
not_counted_faults (of_store.Room need limit) before now is = calm _ before now is
not_counted_faults of_store.DiskFault before now is = record { later = is.1; calm = λ none. absurd (none refl); once = is.2 }
not_counted_faults of_store.Memory before now is = calm _ before now is

-- ---- the numbers by the class table of a program are those by that of its code

module _ (table : ClassTable) where
  -- the references in the fields of each object
  abbrev References : Type 0
  References = ℕ → Object → List FieldReference

  references_unnamed : references_of (without_names table) ≡ references_of table
  references_unnamed = fun_ext (λ n. fun_ext (λ o.
      said_of table (λ c. filter_map (λ f. reference_of n f.0 f.1.of (available_value c o f.0)) (enumerate_from 0 c.fields)) [] (λ c. refl) o.contract))

  owners_unnamed : (content : Content) (n : ℕ) → owners (without_names table) content n ≡ owners table content n
  owners_unnamed content n =
      ap (λ (refs : References). length (filter (λ (r : IncomingReference). is_owned r.mode)
      (map incoming_by_field (filter (λ (r : FieldReference). nat_eq r.object n) (flat_map (λ o. refs o.0 o.1) (enumerate_from 0 content.objects)))
      ++ map incoming_by_handle (handles_onto content.handles n)))) references_unnamed

  counts_unnamed : (content : Content) → counts_of (without_names table) content ≡ counts_of table content
  counts_unnamed content =
      let numbers : (ℕ → ℕ) → StoreCounts = λ own. record {
        objects = length content.objects;
        handles = length content.handles;
        owned = count_objects content (λ n o. not (own n == 0));
        shared = count_objects content (λ n o. o.shared);
        disowned = count_objects content (λ n o. o.disowned);
        loose = count_objects content (λ n o. (own n == 0) && not (is_marked o));
      } in
      ap numbers (fun_ext (owners_unnamed content))

module _ (table : ClassTable) (bodies : List SilicaBody) (code : Image) (compiled : IsCompiledProgram table bodies) (emitted : code ≡ image_of table bodies)
    (sound : IsSoundCode (record { table = table; bodies = bodies }) code) (text : List ℕ) (is : IsProgram text table bodies) where
  counts_by_source : (content : Content) → counts_of (table_of_image code) content ≡ counts_of table content
  counts_by_source content =
      ap (λ (t : ClassTable). counts_of t content) (ap table_of_image emitted ∙ tables_agree table bodies compiled.lowered.table) ∙ counts_unnamed table content

  content_by_program : (c : List ℕ) (content : Content) → IsContentOf (program_of code) area_bytes c content → IsContentOf (program_with table bodies) area_bytes c content
  content_by_program c content of = record {
    store = of.store;
    represents = by_program table bodies code compiled emitted sound c of.store of.represents;
    content_is = of.content_is;
  }

  counts_by_program : (disk : DiskView) (counts : StoreCounts) → AreNumbersOf (program_of code) disk counts → AreNumbersOf (program_with table bodies) disk counts
  counts_by_program disk counts are = record {
    content = are.content;
    at_rest = rests_by_source (record { table = table; bodies = bodies }) code (is_sound_for table bodies code compiled emitted sound) are.content are.at_rest;
    represents = λ c reads. content_by_program c are.content (are.represents c reads);
    counted = are.counted ∙ counts_by_source are.content;
  }

  -- what is said of a store whose numbers were counted
  pub audited : (name file : List ℕ) (old new : Devices) (counts : StoreCounts) (exit : Exit) → AreNumbersOf (program_of code) old.disk counts → KeepsBytes old.disk new.disk
      → TellsNumbers counts old.output new.output exit → new.input ≡ old.input → (fuel lanes slice : ℕ) → Treats (asked_with (audit name file) fuel lanes slice) text old new exit
  audited name file old new counts exit are kept tells input fuel lanes slice = by exit tells
    where
      by : (exit : Exit) → TellsNumbers counts old.output new.output exit → Treats (asked_with (audit name file) fuel lanes slice) text old new exit
      by Done tells = inr (inl (record {
        is = tt;
        of = kept_store table bodies code compiled emitted sound text is (audit name file) file refl;
        numbers = record { bytes = tells.bytes; said = record { counts = counts; are = counts_by_program old.disk counts are; told = tells.said }; written = tells.written };
        input = input;
        disk = kept;
      }))
      by WriteFault tells = inr (inr (inl (record {
        is = tt;
        of = kept_store table bodies code compiled emitted sound text is (audit name file) file refl;
        numbers = record {
          bytes = tells.bytes;
          said = record { counts = counts; are = counts_by_program old.disk counts are; told = tells.said };
          cause = tells.cause;
          front = tells.front;
        };
        input = input;
        disk = kept;
      })))
      by Memory tells = inr (inl (leaves table bodies code compiled emitted sound text is (audit name file) file refl old new kept input tells))
      by Refused tells = absurd tells
      by Usage tells = absurd tells
      by ReadFault tells = absurd tells
      by DiskFault tells = absurd tells
      by StoreRefused tells = absurd tells
      by FileFault tells = absurd tells
      by Long tells = absurd tells

-- ---- an audit changes no byte

no_audit_begins : (command : Command) (program : StoreProgram) (disk : DiskView) (start : StoreState) → IsAudit command → BeginsAt command program disk start → ⊥
no_audit_begins (check name) program disk start is begins = absurd is
no_audit_begins (serve name) program disk start is begins = absurd is
no_audit_begins (serve_stored name store) program disk start is begins = absurd is
no_audit_begins (audit name store) program disk start is begins = begins
no_audit_begins (trial length) program disk start is begins = absurd is

stays_kept : (command : Command) (program : StoreProgram) (old new : DiskView) → IsAudit command → StaysFor command program old new → KeepsBytes old new
stays_kept (check name) program old new is stays = absurd is
stays_kept (serve name) program old new is stays = absurd is
stays_kept (serve_stored name store) program old new is stays = absurd is
stays_kept (audit name store) program old new is stays = stays
stays_kept (trial length) program old new is stays = absurd is

module _ (asked : Asked) (text : List ℕ) (old new : Devices) (is : IsAudit asked.command) where
  no_session : (served : Served) → ServesProgram asked text old new served → KeepsBytes old.disk new.disk
  no_session served h = absurd (no_audit_begins asked.command (program_with h.table h.bodies) old.disk h.start is h.begins)

  stayed : OpensNot asked.command text old new → KeepsBytes old.disk new.disk
  stayed h = stays_kept asked.command (program_with h.of.table h.of.bodies) old.disk new.disk is h.stays

  treated_keeps : (exit : Exit) → Treats asked text old new exit → KeepsBytes old.disk new.disk
  treated_keeps Done (inl h) = kept_untouched old.disk new.disk h.disk
  treated_keeps Done (inr (inl h)) = h.disk
  treated_keeps Done (inr (inr h)) = no_session _ h
  treated_keeps Refused h = kept_untouched old.disk new.disk h.disk
  treated_keeps ReadFault h = no_session _ h
  treated_keeps WriteFault (inl h) = kept_untouched old.disk new.disk h.disk
  treated_keeps WriteFault (inr (inl h)) = h.disk
  treated_keeps WriteFault (inr (inr (inl h))) = h.disk
  treated_keeps WriteFault (inr (inr (inr h))) = no_session _ h
  treated_keeps DiskFault (inl h) = stayed h.0
  treated_keeps DiskFault (inr h) = no_session _ h
  treated_keeps StoreRefused h = h.disk
  treated_keeps Memory (inl h) = kept_untouched old.disk new.disk h.disk
  treated_keeps Memory (inr (inl h)) = stayed h
  treated_keeps Memory (inr (inr h)) = no_session _ h
  treated_keeps Long h = no_session _ h
  treated_keeps Usage h = absurd h
  treated_keeps FileFault h = absurd h

module _ (words : Option Asked) (old new : OutsideView) (asked : Asked) (is : words ≡ Some asked) (audits : IsAudit asked.command) where
  text_keeps : (exit : Exit) → TreatsText words old new exit → KeepsBytes old.disk new.disk
  text_keeps exit h =
      let same : asked ≡ h.asked = cc (h.is, is) in
      treated_keeps h.asked h.text (devices old) (devices new) (subst (λ (a : Asked). IsAudit a.command) same audits) exit h.treats

  audit_keeps : (exit : Exit) → MeetsStatus words old new exit → KeepsBytes old.disk new.disk
  audit_keeps Done h = text_keeps Done h
  audit_keeps Refused h = text_keeps Refused h
  audit_keeps Usage h = kept_untouched old.disk new.disk h.kept.disk
  audit_keeps ReadFault h = text_keeps ReadFault h
  audit_keeps WriteFault h = text_keeps WriteFault h
  audit_keeps DiskFault h = text_keeps DiskFault h
  audit_keeps StoreRefused h = text_keeps StoreRefused h
  audit_keeps FileFault h = kept_untouched old.disk new.disk h.kept.disk
  audit_keeps Memory (inl h) = kept_untouched old.disk new.disk h.disk
  audit_keeps Memory (inr h) = text_keeps Memory h
  audit_keeps Long h = text_keeps Long h

kept_by : (command : Command) (old new : DiskView) → AttachesAtMostOnce (store_of command) old new → (IsAudit command → KeepsBytes old new) → KeepsUnlessServed command old new
kept_by (check name) old new untouched audits = kept_untouched old new untouched
kept_by (serve name) old new untouched audits = kept_untouched old new untouched
kept_by (serve_stored name store) old new untouched audits = tt
kept_by (audit name store) old new untouched audits = audits tt
kept_by (trial length) old new untouched audits = kept_untouched old new untouched

-- only a session over a store on a disk changes it
pub keeps_unless_served : (words : Option Asked) (old new : OutsideView) (exit : Exit) → MeetsStatus words old new exit → UsesDisk (store_asked words) old.disk new.disk → KeepsUnlessAsked words old.disk new.disk
keeps_unless_served None old new exit status uses = kept_untouched old.disk new.disk uses.attaches
keeps_unless_served (Some asked) old new exit status uses =
    kept_by asked.command old.disk new.disk uses.attaches (λ audits. audit_keeps (Some asked) old new asked refl audits exit status)
