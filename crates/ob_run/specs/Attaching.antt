-- What a run does with the disk: which calls of it are made, and what stays (this project's own).
use Rattle.std.specs.Prelude.{◌≡◌, ◌⊎◌, ⊤, List, ℕ, Option, Some, None}
use Rattle.std.specs.Option.{option_and_then}
use Rattle.ob_disk_spec.specs.Disk.{DiskView}
use Rattle.ob_disk_spec.specs.Calls.{IsAttached, IsUntouched}
use Rattle.ob_disk_spec.specs.Durable.{KeepsBehind}
use Rattle.ob_store.specs.Unchanged.{KeepsBytes}
use Rattle.ob_words.specs.Asked.{Command, check, serve, serve_stored, audit, trial, Asked}
use Rattle.ob_run.specs.Sessions.{both_areas}

-- the STORE of a command; the others have none
abbrev pub store_of : Command → Option (List ℕ)
store_of (check name) = None
store_of (serve name) = None
store_of (serve_stored name store) = Some store
store_of (audit name store) = Some store
store_of (trial length) = None

-- the STORE of what the words ask for, if they are a command that has one
abbrev pub store_asked : Option Asked → Option (List ℕ)
store_asked words = option_and_then (λ (a : Asked). store_of a.command) words

-- no disk is noted as taken, and no other call was made
pub record NotesNothing (before after : DiskView) : Type 0 where
  pub attaches : after.attaches ≡ before.attaches
  pub calls : after.calls ≡ before.calls

-- The disk of this name was taken, once, before any other call, and no other was; or taking it failed before it was noted, and no other
-- call was made. Without a name no call was made.
abbrev pub AttachesAtMostOnce : Option (List ℕ) → DiskView → DiskView → Type 0
AttachesAtMostOnce None before after = IsUntouched before after
AttachesAtMostOnce (Some name) before after = IsAttached before after name ⊎ NotesNothing before after

-- The disk of this name alone was used, and what follows the two areas of a store stays, a crash at any moment counted in.
pub record UsesDisk (store : Option (List ℕ)) (before after : DiskView) : Type 0 where
  pub attaches : AttachesAtMostOnce store before after
  pub behind : KeepsBehind both_areas before after

-- a session over a store on a disk changes it; by each other command no byte of a disk changes, a crash at any moment counted in
abbrev pub KeepsUnlessServed : Command → DiskView → DiskView → Type 0
KeepsUnlessServed (serve_stored name store) before after = ⊤
KeepsUnlessServed command before after = KeepsBytes before after

-- the same of what the words ask for; where they ask for nothing, no byte changes
abbrev pub KeepsUnlessAsked : Option Asked → DiskView → DiskView → Type 0
KeepsUnlessAsked None before after = KeepsBytes before after
KeepsUnlessAsked (Some asked) before after = KeepsUnlessServed asked.command before after
