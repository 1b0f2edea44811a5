-- What is noted of the calls that a scripted file answered.
use Rattle.std.specs.Prelude.{ℕ, Bool, List, map, string_bytes, Option, Some, None, if◌then◌else◌}
use Rattle.ob_io_std.specs.Calls.{Call, kind_of, opened, kind, identity, descriptor, identity_of, locked, folder_synced, measured, read, written, synced}
use Rattle.ob_conformance.specs.declared.noted.ByName.{ByName}
use Rattle.ob_conformance.specs.declared.noted.ByName.TheVariants.{KindOf, Opened, IdentityOf, FolderSynced}
use Rattle.ob_conformance.specs.declared.noted.OfFile.{OfFile}
use Rattle.ob_conformance.specs.declared.noted.OfFile.TheVariants.{Kind, Identity, Descriptor, Locked, Measured, Synced}
use Rattle.ob_conformance.specs.declared.noted.Made.{Made}
use Rattle.ob_conformance.specs.declared.noted.Made.TheVariants.{Named, Plain, Read, Written}
use Rattle.ob_conformance.specs.declared.noted.Log.{Log}

-- a call that has a name
abbrev pub by_name : List ℕ → ByName → Call
by_name name (KindOf seen) = kind_of name seen
by_name name (Opened access) = opened name access
by_name name (IdentityOf found) = identity_of name found
by_name name FolderSynced = folder_synced name

-- a call of the file that is open, without its bytes
abbrev pub of_file : OfFile → Call
of_file (Kind regular) = kind regular
of_file (Identity own) = identity own
of_file (Descriptor number) = descriptor number
of_file Locked = locked
of_file (Measured count) = measured count
of_file Synced = synced

-- a call that was noted
abbrev pub call_of : Made → Call
call_of (Named name what) = by_name (string_bytes name) what
call_of (Plain what) = of_file what
call_of (Read at bytes) = read at bytes.items
call_of (Written at bytes) = written at bytes.items

-- the calls, as long as each was noted
abbrev pub told : Bool → List Made → Option (List Call)
told notes_all made = if notes_all then Some (map call_of made) else None

-- what a log tells
abbrev pub calls_of : Log → Option (List Call)
calls_of log = told log.notes_all log.made.items
