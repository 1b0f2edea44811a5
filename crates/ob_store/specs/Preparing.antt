-- What is made ready for a store (this project's own).
use Rattle.std.specs.Prelude.{ℕ, ◌≡◌, ◌<◌, ◌⊎◌, ⊤, true, false, List, [], Option, Some, None, Result, Ok, Err}
use Rattle.ob_heap.specs.Contents.{content_of}
use Rattle.ob_heap.specs.Deltas.{IsDelta, HasRoom}
use Rattle.ob_heap.specs.declared.delta.Delta.{Delta}
use Rattle.ob_heap_spec.specs.Contents.{Content}
use Rattle.ob_journal_spec.specs.Lasting.{last_serial}
use Rattle.ob_journal.specs.Journals.{IsBuilt, IsBuiltArea, area_size, image_of, journaled, need_for, need_for_one}
use Rattle.ob_journal.specs.declared.error.BuildError.{BuildError}
use Rattle.ob_journal.specs.declared.error.BuildError.TheVariants as of_build
use Rattle.ob_journal.specs.declared.journal.Journal.{Journal}
use Rattle.ob_journal.specs.declared.journal.Built.{Built}
use Rattle.ob_journal.specs.declared.journal.BuiltArea.{BuiltArea}
use Rattle.ob_owners.specs.Indexes.{IsReadyFor}
use Rattle.ob_store_spec.specs.Between.{changes_between}
use Rattle.ob_store_spec.specs.Settling.{say_nothing, payload_between, payload_of_all, settled}
use Rattle.ob_store_spec.specs.Stores.{StoreProgram}
use Rattle.ob_store_laws.specs.Recorded.{content_with}
use Rattle.ob_store.specs.Stores.{area_of_store, state_of, HasImage}
use Rattle.ob_store.specs.Writing.{IsRecordOf}
use Rattle.ob_store.specs.declared.store.Store.{Store}
use Rattle.ob_store.specs.declared.store.Prepared.{Prepared}
use Rattle.ob_store.specs.declared.writing.BuiltChange.{BuiltChange}
use Rattle.ob_store.specs.declared.writing.BuiltChange.TheVariants.{Append, Move}
use Rattle.ob_store.specs.declared.error.PrepareError.{PrepareError}
use Rattle.ob_store.specs.declared.error.PrepareError.TheVariants.{Room, Memory}

-- the delta that was made ready
abbrev pub delta_prepared : Prepared → Delta
delta_prepared prepared = prepared.delta

-- what is written was built of this payload for a journal; in memory nothing is
abbrev pub IsRecordIn : Option Journal → List ℕ → Option BuiltChange → Type 0
IsRecordIn journal payload None = ⊤
IsRecordIn None payload (Some built) = ⊥
IsRecordIn (Some journal) payload (Some built) = IsRecordOf journal payload built

-- what is written was built for a journal
abbrev pub IsBuiltFor : Option Journal → Option BuiltChange → Type 0
IsBuiltFor journal built = (payload : List ℕ) × IsRecordIn journal payload built

-- what was made ready was built for the journal of a store
abbrev pub IsBuiltForStore : Store → Prepared → Type 0
IsBuiltForStore store prepared = IsBuiltFor store.journal prepared.built

-- to commit it writes nothing: the store is in memory, or what was made ready has no record
abbrev pub WritesNothing : Store → Prepared → Type 0
WritesNothing store prepared = (area_of_store store ≡ None) ⊎ (prepared.built ≡ None)

-- the payload of a record: it says what differs between two contents, or all of the second
abbrev pub payload_for : StoreProgram → Content → Content → BuiltChange → List ℕ
payload_for program before after (Append built) = payload_between program before after
payload_for program before after (Move built) = payload_of_all program after

-- a move comes only where a record of what differs doesn't fit
abbrev pub IsWanted : StoreProgram → Journal → Content → Content → BuiltChange → Type 0
IsWanted program journal before after (Append built) = ⊤
IsWanted program journal before after (Move built) = area_size journal < need_for journal (payload_between program before after)

-- a record says how one content becomes another; where nothing differs, or the store is in memory, there is none
abbrev pub SaysWhatDiffers : StoreProgram → Option Journal → Content → Content → Option BuiltChange → Type 0
SaysWhatDiffers program None before after built = built ≡ None
SaysWhatDiffers program (Some journal) before after None = say_nothing (changes_between program.table before after) ≡ true
SaysWhatDiffers program (Some journal) before after (Some built) =
    (say_nothing (changes_between program.table before after) ≡ false)
    × IsRecordOf journal (payload_for program before after built) built × IsWanted program journal before after built

-- It was made ready for this store of a program as it stands: its delta is one of the content, and its record was built for the journal
-- and says what differs.
pub record IsPrepared (program : StoreProgram) (store : Store) (prepared : Prepared) : Type 0 where
  pub image : HasImage program store
  pub delta : IsDelta store.content prepared.delta
  pub built : IsBuiltForStore store prepared
  pub says : SaysWhatDiffers program store.journal (content_of store.content) (content_with store.content prepared.delta) prepared.built

-- something differs, and the area of a journal has no room for the payload that says it
pub record LacksRoom (program : StoreProgram) (journal : Journal) (before after : Content) (need size : ℕ) : Type 0 where
  pub some : say_nothing (changes_between program.table before after) ≡ false
  pub needed : need ≡ need_for journal (payload_between program before after)
  pub area : size ≡ area_size journal
  pub lacks : size < need

-- a journal can't move with a record of this payload: the other area has no room for it, or no serial is left
abbrev pub CannotMove : Journal → List ℕ → Type 0
CannotMove journal payload = (area_size journal < need_for_one (image_of journal) payload) ⊎ ((journaled journal []).serial ≡ last_serial)

-- what building the record of what differs answers: there is none where nothing does
abbrev pub BuildsAppend : StoreProgram → Journal → Content → Content → Result (Option Built) BuildError → Type 0
BuildsAppend program journal before after (Ok None) = say_nothing (changes_between program.table before after) ≡ true
BuildsAppend program journal before after (Ok (Some built)) =
    (say_nothing (changes_between program.table before after) ≡ false) × IsBuilt journal (payload_between program before after) built
BuildsAppend program journal before after (Err (of_build.Room need size)) = LacksRoom program journal before after need size
BuildsAppend program journal before after (Err of_build.Memory) = ⊤

-- what building a move with this payload answers
abbrev pub BuildsMove : Journal → List ℕ → Result BuiltArea BuildError → Type 0
BuildsMove journal payload (Ok built) = IsBuiltArea journal payload built
BuildsMove journal payload (Err (of_build.Room need size)) = CannotMove journal payload
BuildsMove journal payload (Err of_build.Memory) = ⊤

-- What building a record answers: there is none where nothing differs, and `Room` comes exactly where the area has no room for what
-- differs, and the other one none for all.
abbrev pub BuildsWhatDiffers : StoreProgram → Journal → Content → Content → Result (Option BuiltChange) PrepareError → Type 0
BuildsWhatDiffers program journal before after (Ok built) = SaysWhatDiffers program (Some journal) before after built
BuildsWhatDiffers program journal before after (Err (Room need size)) =
    LacksRoom program journal before after need size × CannotMove journal (payload_of_all program after)
BuildsWhatDiffers program journal before after (Err Memory) = ⊤

-- What making a delta ready answers: `Room` exactly where neither area has room.
abbrev pub Prepares : StoreProgram → Store → Delta → Result Prepared PrepareError → Type 0
Prepares program store delta (Ok prepared) = (prepared.delta ≡ delta) × IsPrepared program store prepared
Prepares program store delta (Err (Room need size)) =
    settled program (area_of_store store) (state_of store) (content_with store.content delta) ≡ Err (need, size)
Prepares program store delta (Err Memory) = ⊤

-- All memory is there that committing takes, and what it changes in the index of owners is ready.
pub record HasRoomFor (store : Store) (prepared : Prepared) : Type 0 where
  pub content : HasRoom store.content prepared.delta
  pub owners : IsReadyFor store.content prepared.delta store.owners
