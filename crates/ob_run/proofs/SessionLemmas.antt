-- From a session of a program to what its command says.
use Rattle.std.specs.Prelude.{◌≢◌, pos, option_map}
use Rattle.std.proofs.Common.{◌≡◌, ◌⊎◌, inl, inr, ⊎_elim, ℕ, ◌≤◌, ◌+◌, List, length, Option, None, Some, refl, sym, ◌∙◌, ap, subst, arith}
use Rattle.ob_code.specs.Images.{image}
use Rattle.ob_code.specs.declared.image.Image.{Image}
use Rattle.ob_disk_spec.specs.Disk.{DiskView}
use Rattle.ob_disk_spec.specs.Calls.{IsUntouched}
use Rattle.ob_disk_spec.proofs.Untouched.{untouched_none}
use Rattle.ob_disk_spec.specs.Durable.{Throughout}
use Rattle.ob_disk_spec.proofs.Moments.{weaker, then, throughout_to, throughout_may}
use Rattle.ob_io.specs.Causes.{Rose}
use Rattle.ob_base.specs.Limits.{most_taken, area_bytes, most_weight}
use Rattle.ob_io.specs.Told.{TakesAtMost, Gives}
use Rattle.ob_io.specs.Views.{SourceView, SinkView}
use Rattle.ob_store.proofs.Standing.{stores_stand}
use Rattle.ob_serve.specs.Session.{SessionItem, items_from}
use Rattle.ob_emit_spec.specs.EmittedImages.{image_of}
use Rattle.ob_front.specs.Compiled.{IsCompiledProgram}
use Rattle.ob_front.specs.Programs.{IsProgram}
use Rattle.ob_heap.specs.Contents.{content_of}
use Rattle.ob_heap_spec.specs.Contents.{Content, empty_content}
use Rattle.ob_code_table.specs.ImageTables.{table_of_image}
use Rattle.ob_rest_spec.specs.AtRest.{IsStoreAtRest}
use Rattle.ob_silica.specs.Terms.{SilicaBody}
use Rattle.ob_silica_steps.specs.Configurations.{SilicaProgram}
use Rattle.ob_sound_code.specs.SoundCode.{IsSoundCode}
use Rattle.ob_table.specs.Tables.{ClassTable}
use Rattle.ob_weight_laws.proofs.Weighing.{within_weight}
use Rattle.ob_journal.specs.Journals.{area_size}
use Rattle.ob_journal.specs.declared.journal.Journal.{Journal}
use Rattle.ob_front.proofs.CompiledLaws.{terms_in_order}
use Rattle.ob_store.specs.Stores.{program_of, area_of_store, gate_of, serial_of, kept_of, state_of, IsKeptIn, TellsOwners, StandsOn}
use Rattle.ob_store.specs.declared.store.Store.{Store}
use Rattle.ob_store_spec.specs.Stores.{StoreProgram, StoreState, IsStoreOf}
use Rattle.ob_serve.specs.Items.{by_source, items_of_line}
use Rattle.ob_serve.specs.Kept.{IsServable, IsSoundFor, AreLimits, KeepsSessions, KeepsOrders}
use Rattle.ob_serve.specs.Served.{SpeaksOf, Ends, IsCause}
use Rattle.ob_outside.specs.Devices.{Devices}
use Rattle.ob_serve.specs.Standing.{RepresentsStore, source_program}
use Rattle.ob_serve.specs.declared.limits.Limits.{Limits}
use Rattle.ob_serve.specs.declared.serving.Served.{Served}
use Rattle.ob_serve.specs.declared.serving.Served.TheVariants as ended
use Rattle.ob_serve.proofs.Keeping.{empty_rests, keeps_sessions}
use Rattle.ob_serve.proofs.Orders.{keeps_orders}
use Rattle.ob_serve.proofs.Progress.{stored_holds}
use Rattle.ob_serve.proofs.Tables.{rests_by_source, stands_by_source, storable}
use Rattle.ob_words.specs.Asked.{serve, serve_stored, Asked}
use Rattle.ob_run.specs.Openings.{IsOpenedAs}
use Rattle.ob_run.specs.Sessions.{program_with, store_in_memory, IsKeptAlways, IsOrderedAlways, ServesProgram}
use Rattle.ob_run.specs.Statuses.{Treats}
use Rattle.ob_run.specs.Survival.{Survives}
use Rattle.ob_run.specs.TextRead.{Tells, asked_with, exit_of}
use Rattle.ob_outside.specs.declared.exit.Exit.{Exit}
use Rattle.ob_outside.specs.declared.exit.Exit.TheVariants.{Done, Refused, Usage, ReadFault, WriteFault, DiskFault, StoreRefused, FileFault, Memory, Long}

-- nothing is done with a disk
pub spared : (v : DiskView) → IsUntouched v v
spared v = untouched_none v

-- what was written of the text alone is what the exit says
pub told_alone : (asked : Asked) (text : List ℕ) (old new : Devices) (exit : Exit) → Tells asked.command text old.output new.output exit → new.input ≡ old.input → IsUntouched old.disk new.disk → Treats asked text old new exit
told_alone asked text old new Done tells input disk = inl (record { output = tells; input = input; disk = disk })
told_alone asked text old new Refused tells input disk = record { output = tells; input = input; disk = disk }
told_alone asked text old new WriteFault tells input disk = inl (record { output = tells; input = input; disk = disk })
told_alone asked text old new Memory tells input disk = inl (record { output = tells; input = input; disk = disk })
told_alone asked text old new Usage tells input disk = absurd tells
told_alone asked text old new ReadFault tells input disk = absurd tells
told_alone asked text old new DiskFault tells input disk = absurd tells
told_alone asked text old new StoreRefused tells input disk = absurd tells
told_alone asked text old new FileFault tells input disk = absurd tells
told_alone asked text old new Long tells input disk = absurd tells

-- a session that ended is what the exit says
pub ends_session : (asked : Asked) (text : List ℕ) (old new : Devices) (served : Served) → ServesProgram asked text old new served → Treats asked text old new (exit_of served)
ends_session asked text old new ended.Done h = inr (inr h)
ends_session asked text old new ended.ReadFault h = h
ends_session asked text old new ended.WriteFault h = inr (inr (inr h))
ends_session asked text old new ended.DiskFault h = inr h
ends_session asked text old new ended.Memory h = inr (inr h)
ends_session asked text old new ended.Long h = h

-- what a crash leaves of a session, by its end
pub survives : {S : Type 0} (items : S → List ℕ → List (SessionItem S)) (stands : S → List ℕ → Type 0) (start : S) (old new : Devices) (served : Served) (ends : Ends items stands start old new served)
    → Survives stands start (items_from items start ends.lines) ends.given old.disk new.disk
survives items stands start old new served ends = record {
  now = throughout_to new.disk _ _ ends.stored (stored_holds items stands start old new served ends);
  since = ends.since;
}

-- a store in memory has no journal
no_journal : (journal : Option Journal) → option_map area_size journal ≡ None → journal ≡ None
no_journal None none = refl
no_journal (Some j) none = cc

pub stands_in_memory : (program : StoreProgram) (store : Store) (v : DiskView) → area_of_store store ≡ None → TellsOwners program store → StandsOn program store v
stands_in_memory program store v none owners = record {
  owners = owners;
  kept = subst (λ (j : Option Journal). IsKeptIn program (content_of store.content) j v) (sym (no_journal store.journal none)) tt;
}

pub begins_in_memory : (store : Store) → content_of (kept_of store) ≡ empty_content → area_of_store store ≡ None → state_of store ≡ store_in_memory
begins_in_memory store empty none =
    ap (λ (j : Option Journal). record { content = content_of store.content; gate = gate_of j; serial = serial_of j }) (no_journal store.journal none)
    ∙ ap (λ (c : Content). record { content = c; gate = 0; serial = pos 0 }) empty

-- it is at rest
pub rests_in_memory : (code : Image) (store : Store) → content_of (kept_of store) ≡ empty_content → IsStoreAtRest (table_of_image code) (content_of (kept_of store))
rests_in_memory code store empty = subst (IsStoreAtRest (table_of_image code)) (sym empty) (empty_rests (table_of_image code))

-- an image takes no more bytes than its program weighs
pub light_image : (text : List ℕ) (table : ClassTable) (bodies : List SilicaBody) (code : Image) → IsProgram text table bodies → IsCompiledProgram table bodies → code ≡ image_of table bodies
    → length (image.bytes code) ≤ most_weight
light_image text table bodies code is compiled emitted =
    omega (arith, ap (λ (i : Image). length (image.bytes i)) emitted, within_weight table bodies (terms_in_order table bodies compiled), is.light)

-- so an area has room for it behind its header
pub image_fits : (text : List ℕ) (table : ClassTable) (bodies : List SilicaBody) (code : Image) → IsProgram text table bodies → IsCompiledProgram table bodies → code ≡ image_of table bodies
    → 18 + length (image.bytes code) ≤ area_bytes
image_fits text table bodies code is compiled emitted = omega (arith, light_image text table bodies code is compiled emitted)

module _ (table : ClassTable) (bodies : List SilicaBody) (code : Image) (compiled : IsCompiledProgram table bodies) (emitted : code ≡ image_of table bodies)
    (sound : IsSoundCode (record { table = table; bodies = bodies }) code) where
  abbrev pub program : SilicaProgram
  program = record { table = table; bodies = bodies }

  -- its code is sound for it
  pub is_sound_for : IsSoundFor program code
  is_sound_for = record { sound = sound; emitted = emitted; table = compiled.lowered.table }

  -- and may be served
  pub is_servable : IsServable code
  is_servable = record { sound = sound.alone; storable = storable program code is_sound_for }

  -- a store knows it by its class table and its image
  pub same_program : source_program table code ≡ program_with table bodies
  same_program = ap (λ (i : Image). source_program table i) emitted

  -- an area that represents a store of the code represents one of the program
  pub by_program : (c : List ℕ) (s : StoreState) → IsStoreOf (program_of code) area_bytes c s → IsStoreOf (program_with table bodies) area_bytes c s
  by_program c s is =
      subst (λ (p : StoreProgram). IsStoreOf p area_bytes c s) same_program (stands_by_source program code is_sound_for area_bytes c s is)

  module _ (text : List ℕ) (is : IsProgram text table bodies) (limits : Limits) (are : AreLimits limits) where
    kept_always : IsKeptAlways table bodies limits
    kept_always = subst (λ (i : Image). KeepsSessions (source_program table i) i limits) emitted (keeps_sessions program code limits is_sound_for)

    ordered_always : IsOrderedAlways table bodies limits
    ordered_always = subst (λ (i : Image). KeepsOrders (source_program table i) i limits) emitted (keeps_orders program code limits is_sound_for are)

    -- the items of a line, by the source meaning of the program, over a store in areas of a size
    abbrev line_items : Image → Option ℕ → StoreState → List ℕ → List (SessionItem StoreState)
    line_items i area = items_of_line (by_source (source_program table i) i limits area)

    -- a session of the program's code ended
    abbrev EndsBy : Image → Option ℕ → StoreState → Devices → Devices → Served → Type 0
    EndsBy i area start old new served = Ends (line_items i area) (RepresentsStore (source_program table i) area) start old new served

    -- a session over a store in memory
    pub serves_in_memory : (name : List ℕ) (old new : Devices) (served : Served) (store : Store) → content_of (kept_of store) ≡ empty_content → area_of_store store ≡ None → state_of store ≡ store_in_memory
        → EndsBy code (area_of_store store) (state_of store) old new served
        → IsUntouched old.disk new.disk → served ≢ ended.DiskFault → TakesAtMost old.input new.input most_taken
        → ServesProgram (asked_with (serve name) limits.fuel limits.lanes limits.slice) text old new served
    serves_in_memory name old new served store empty memory begins ends quiet sure few = record {
      table = table;
      bodies = bodies;
      program = is;
      start = store_in_memory;
      begins = refl;
      ends = in_memory;
      crash = survives (line_items (image_of table bodies) None) (RepresentsStore (program_with table bodies) None) store_in_memory old new served in_memory;
      kept = kept_always;
      ordered = ordered_always;
      spared = λ none. (quiet, sure);
      few = few;
    }
      where
        in_memory : EndsBy (image_of table bodies) None store_in_memory old new served
        in_memory = subst (λ (i : Image). EndsBy i None store_in_memory old new served) emitted
            (subst (λ (s : StoreState). EndsBy code None s old new served) begins
            (subst (λ (area : Option ℕ). EndsBy code area (state_of store) old new served) memory ends))

    -- a session over the store of a disk, which was opened before
    pub serves_stored : (name file : List ℕ) (old mid new : Devices) (served : Served) (store : Store) → mid.input ≡ old.input → mid.output ≡ old.output → old.disk.faults ≤ mid.disk.faults
        → IsOpenedAs (program_of code) old.disk mid.disk store
        → EndsBy code (area_of_store store) (state_of store) mid new served
        → TakesAtMost mid.input new.input most_taken → ServesProgram (asked_with (serve_stored name file) limits.fuel limits.lanes limits.slice) text old new served
    serves_stored name file old mid new served store input output later opened ends few = record {
      table = table;
      bodies = bodies;
      program = is;
      start = state_of store;
      begins = (rests_by_source program code is_sound_for (content_of (kept_of store)) opened.at_rest, λ c reads. by_program c (state_of store) (opened.was c reads));
      ends = from_old;
      crash = survives (line_items (image_of table bodies) (Some area_bytes)) stands (state_of store) old new served from_old;
      kept = kept_always;
      ordered = ordered_always;
      spared = λ none. absurd (cc none);
      few = subst (λ (v : SourceView). TakesAtMost v new.input most_taken) input few;
    }
      where
        stands : StoreState → List ℕ → Type 0
        stands = RepresentsStore (program_with table bodies) (Some area_bytes)

        from_mid : EndsBy (image_of table bodies) (Some area_bytes) (state_of store) mid new served
        from_mid = subst (λ (i : Image). EndsBy i (Some area_bytes) (state_of store) mid new served) emitted
            (subst (λ (area : Option ℕ). EndsBy code area (state_of store) mid new served) opened.area ends)

        here : Throughout mid.disk (λ c. IsStoreOf (program_with table bodies) area_bytes c (state_of store))
        here = throughout_to mid.disk _ _ (stores_stand (program_of code) store area_bytes mid.disk opened.area opened.stands opened.at_rest) (λ c stood. by_program c (state_of store) stood)

        cause_from : (s : Served) → IsCause s mid new → IsCause s old new
        cause_from ended.Done cause = tt
        cause_from ended.Long cause = tt
        cause_from ended.Memory cause = tt
        cause_from ended.ReadFault cause = subst (λ (v : SourceView). Rose v.faults new.input.faults) input cause
        cause_from ended.WriteFault cause = subst (λ (v : SinkView). Rose v.faults new.output.faults) output cause
        cause_from ended.DiskFault cause = omega (arith, later, cause)

        from_old : EndsBy (image_of table bodies) (Some area_bytes) (state_of store) old new served
        from_old = record {
          lines = from_mid.lines;
          of_input = subst (λ (v : SourceView). SpeaksOf served v new.input from_mid.lines) input from_mid.of_input;
          k = from_mid.k;
          answered = from_mid.answered;
          given = from_mid.given;
          written = subst (λ (v : SinkView). Gives v.written new.output.written from_mid.given) output from_mid.written;
          given_is = from_mid.given_is;
          stored = from_mid.stored;
          since = then old.disk mid.disk new.disk _
              (weaker old.disk mid.disk _ _ opened.since (λ c was. ⊎_elim (λ may. inl may) (λ stood. inr (0, by_program c (state_of store) stood)) was))
              (weaker mid.disk new.disk _ _ from_mid.since (λ c next. ⊎_elim (λ may. inr (0, throughout_may mid.disk _ here c may)) (λ some. inr some) next));
          cause = cause_from served from_mid.cause;
        }
