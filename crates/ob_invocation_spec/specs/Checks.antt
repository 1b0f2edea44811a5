-- What is asked of a request one after another: the first check that holds refuses it (this project's own).
use Rattle.std.specs.Prelude.{Bool, List, [], ◌∷◌, ◌++◌, Option, Some, None, if◌then◌else◌}
use Rattle.ob_heap_spec.specs.Contents.{Content}
use Rattle.ob_heap_spec.specs.Worlds.{ReadItem}
use Rattle.ob_invocation_spec.specs.Replies.{Refusal, Reply, refused, Invocation, invoked, goes_wrong}

-- a check: how it refuses, whether it holds, and what is read to tell
pub record Check : Type 0 where
  pub refusal : Refusal
  pub holds : Bool
  pub reads : List ReadItem

-- a check that reads nothing more
abbrev pub check : Refusal → Bool → Check
check refusal holds = record { refusal = refusal; holds = holds; reads = [] }

-- the refusal of the first check that holds, if one does
abbrev pub refusal_of : List Check → Option Refusal
refusal_of [] = None
refusal_of (c ∷ checks) = if c.holds then Some c.refusal else refusal_of checks

-- what is read by the checks up to the first that holds
abbrev pub reads_of : List Check → List ReadItem
reads_of [] = []
reads_of (c ∷ checks) = c.reads ++ (if c.holds then [] else reads_of checks)

-- a request leaves what the store holds, and has taken so many units
abbrev pub left_as_it_was : Content → Reply → List ReadItem → Invocation
left_as_it_was content reply reads = invoked (record { reply = reply; content = content; taken = 0; reads = reads })

-- the request is refused, or else this follows, with what was read
abbrev pub refused_or : Content → Option Refusal → List ReadItem → (List ReadItem → Invocation) → Invocation
refused_or content (Some refusal) reads go = left_as_it_was content (refused refusal) reads
refused_or content None reads go = go reads

-- the request is refused by the first check that holds; else this follows, with what the checks have read
abbrev pub unless_refused : Content → List Check → (List ReadItem → Invocation) → Invocation
unless_refused content checks go = refused_or content (refusal_of checks) (reads_of checks) go

-- what follows from a thing that the checks have found; without it the request goes wrong
abbrev pub with_found : {A : Type 0} → Option A → (A → Invocation) → Invocation
with_found None go = goes_wrong
with_found (Some a) go = go a
