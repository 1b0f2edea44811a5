-- What a session learns of the next line; for private clauses.
use Rattle.std.specs.Prelude.{ℕ, ℤ, ◌≡◌, ◌+◌, ◌<◌, ◌≤◌, ⊤, Bool, true, false, List, [], length, Option, Some, None, Ok, Err}
use Rattle.ob_base.specs.Limits.{longest_line, most_taken}
use Rattle.ob_io.specs.Causes.{Rose}
use Rattle.ob_io.specs.Told.{Takes, IsEnd}
use Rattle.ob_io.specs.Lines.{has_newline, has_ended, IsLine, taken, handed, pending}
use Rattle.ob_io.specs.Views.{SourceView}
use Rattle.ob_io.specs.declared.lines.Lines.{Lines}
use Rattle.ob_store_spec.specs.Settling.{settled}
use Rattle.ob_store_spec.specs.Stores.{StoreProgram, StoreState}
use Rattle.ob_store_laws.specs.Recorded.{content_with}
use Rattle.ob_store.specs.Stores.{area_of_store, kept_of, state_of}
use Rattle.ob_store.specs.Preparing.{delta_prepared}
use Rattle.ob_store.specs.Committing.{IsReady}
use Rattle.ob_store.specs.declared.store.Store.{Store}
use Rattle.ob_store.specs.declared.store.Prepared.{Prepared}
use Rattle.ob_wire.specs.Replies.{reply_line}
use Rattle.ob_wire.specs.declared.refusal.Refusal.{Refusal}
use Rattle.ob_wire.specs.declared.reply.Answer.TheVariants.{Abort, Refused}
use Rattle.ob_wire.specs.declared.reply.Cause.TheVariants.{Room}
use Rattle.ob_heap.specs.declared.delta.Delta.{Delta}
use Rattle.ob_serve.specs.Session.{SessionItem, bytes_of}
use Rattle.ob_serve.specs.declared.answering.Ready.{Ready}
use Rattle.ob_serve.specs.declared.serving.Served.{Served}
use Rattle.ob_serve.specs.declared.serving.Served.TheVariants.{Done, ReadFault, WriteFault, DiskFault, Memory, Long}

-- a reader of lines and what its source has left, at a moment
pub record LineReader : Type 0 where
  pub pending : Option (List ℕ)
  pub left : Option (List ℕ)
  pub ended : Bool
  pub taken : ℕ
  pub handed : ℕ
  pub faults : ℕ

-- what is seen of a reader and its source
abbrev pub reader : Lines → SourceView → LineReader
reader lines source = record {
  pending = pending lines source.left;
  left = source.left;
  ended = has_ended lines;
  taken = taken lines;
  handed = handed lines;
  faults = source.faults;
}

-- the line that was read: a long one isn't kept
abbrev pub IsFull : Bool → List ℕ → List ℕ → Type 0
IsFull true line full = longest_line < length full
IsFull false line full = (full ≡ line) × (length line ≤ longest_line)

-- a line was read
pub record ReadsLine (old new : LineReader) (is_long : Bool) (line : List ℕ) : Type 0 where
  pub goes_on : old.ended ≡ false
  pub bytes : List ℕ
  pub took : Takes old.pending new.pending bytes
  pub counted : new.handed ≡ old.handed + length bytes
  pub ends : new.ended ≡ true → IsEnd new.pending
  pub full : List ℕ
  pub one_line : has_newline full ≡ false
  pub is : IsLine new.ended full bytes
  pub is_full : IsFull is_long line full
  pub some : 0 < length bytes
  pub short : length line ≤ longest_line

-- no line was read: all that was taken was handed on, and the last of it is a part of a line
pub record ReadsPart (old new : LineReader) : Type 0 where
  pub goes_on : old.ended ≡ false
  pub bytes : List ℕ
  pub took : Takes old.pending new.left bytes
  pub counted : new.handed ≡ old.handed + length bytes
  pub all : new.handed ≡ new.taken
  pub one_line : has_newline bytes ≡ false

-- no line is left, and the end was reached
pub record ReadsEnd (old new : LineReader) : Type 0 where
  pub took : Takes old.pending new.left []
  pub end : IsEnd new.left
  pub counted : new.handed ≡ old.handed
  pub all : new.handed ≡ new.taken
  pub within : new.handed < most_taken

-- why no line was read
abbrev pub IsStop : LineReader → LineReader → Served → Type 0
IsStop old new Done = ReadsEnd old new
IsStop old new ReadFault = Rose old.faults new.faults × ReadsPart old new × (new.handed < most_taken)
IsStop old new Long = ReadsPart old new × (new.handed ≡ most_taken)
IsStop old new Memory = ⊤
IsStop old new WriteFault = ⊥
IsStop old new DiskFault = ⊥

-- the bytes of the reply to a line that is refused
abbrev pub refusal_line : Refusal → List ℕ
refusal_line refusal = reply_line (record { id = None; answer = Refused refusal })

-- the bytes of the reply to a request that a store has no room for
abbrev pub room_line : ℤ → ℕ → ℕ → List ℕ
room_line id need size = reply_line (record { id = Some id; answer = Abort (Room need size) })

-- What was made ready for a store leads to another.
pub record CommitsTo (program : StoreProgram) (store : Store) (prepared : Prepared) (after : StoreState) : Type 0 where
  pub ready : IsReady program store prepared
  pub settles : settled program (area_of_store store) (state_of store) (content_with (kept_of store) (delta_prepared prepared)) ≡ Ok after

-- what was made ready leads to this store, where there is anything to commit; else the store is that already
abbrev pub LeadsOn : StoreProgram → Store → StoreState → Option Prepared → Type 0
LeadsOn program store after None = after ≡ state_of store
LeadsOn program store after (Some prepared) = CommitsTo program store prepared after

-- what was made ready is what an item gives: its reply, and the store after it
pub record GivesItem (program : StoreProgram) (store : Store) (item : SessionItem StoreState) (ready : Ready) : Type 0 where
  pub reply : ready.reply.items ≡ bytes_of item.reply
  pub next : LeadsOn program store item.after ready.prepared

-- What was made ready has this delta, and the store has room for what that leads to; or it has nothing to commit, since there is no room.
abbrev pub IsOfDelta : StoreProgram → Store → Delta → Option Prepared → Type 0
IsOfDelta program store delta (Some prepared) =
    (delta_prepared prepared ≡ delta) × (after : StoreState)
    × (settled program (area_of_store store) (state_of store) (content_with (kept_of store) delta) ≡ Ok after)
IsOfDelta program store delta None =
    (lack : ℕ × ℕ) × (settled program (area_of_store store) (state_of store) (content_with (kept_of store) delta) ≡ Err lack)
