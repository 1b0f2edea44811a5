-- The run of a request, apart from any content (this project's own).
use Rattle.std.specs.Prelude.{ℕ, List, [], ◌++◌, map, fold, Option, Some, None}
use Rattle.ob_heap_spec.specs.Contents.{HandleName, Handle, Content}
use Rattle.ob_heap_spec.specs.Worlds.{ReadItem, World}
use Rattle.ob_heap_spec.specs.Handles.{NamedHandle, put_handle, without_handle}
use Rattle.ob_invocation_spec.specs.Handles.{mark_puts}
use Rattle.ob_invocation_spec.specs.Replies.{Reply, Invoked}
use Rattle.ob_invocation_spec.specs.Requests.{Request}
use Rattle.ob_machine_steps.specs.Entries.{Phase}
use Rattle.ob_machine_steps.specs.Runs.{world_of}
use Rattle.ob_request_run_laws.specs.Held.{Held, nothing_held, held_by, laid_over}

-- what a name denotes once a request is done: this handle, or none
abbrev pub NameChange : Type 0
NameChange = HandleName × Option Handle

-- What a request is answered, what becomes of the objects that it has read and made and of handles, the units that it has taken, and
-- what it has read.
pub record Answer : Type 0 where
  pub reply : Reply
  pub held : Held
  pub handles : List NameChange
  pub taken : ℕ
  pub reads : List ReadItem

-- The run of a request. It is opened: it has read nothing, and taken no unit. It is paused: the request, what was read before it
-- entered its body, where it is, without objects, and what it has of its content. It has been answered. Or it had no next step.
pub data Run : Type 0 where
  opened : Request → Run
  paused : Request → List ReadItem → Phase → Held → Run
  answered : Answer → Run
  lost : Run

-- what a run has read since its opening
abbrev pub reads_of_run : Run → List ReadItem
reads_of_run (opened q) = []
reads_of_run (paused q reads p h) = (world_of p).reads ++ reads
reads_of_run (answered a) = a.reads
reads_of_run lost = []

-- how many units it has taken
abbrev pub taken_by_run : Run → ℕ
taken_by_run (opened q) = 0
taken_by_run (paused q reads p h) = (world_of p).taken
taken_by_run (answered a) = a.taken
taken_by_run lost = 0

-- Answers.

-- a request was done: what becomes of objects is in this world
abbrev pub done_in : Reply → List NameChange → World → List ReadItem → Run
done_in reply handles w reads =
    answered (record { reply = reply; held = held_by w; handles = handles; taken = w.taken; reads = w.reads ++ reads })

-- a name denotes its handle
abbrev pub put_of : NamedHandle → NameChange
put_of h = (h.0, Some h.1)

-- the same where handles are put, one after another
abbrev pub puts_in : Reply → List NamedHandle → World → List ReadItem → Run
puts_in reply puts w reads = done_in reply (map put_of puts) (mark_puts w puts) reads

-- a request that changes nothing, and has taken so many units
abbrev pub unchanged : Reply → ℕ → List ReadItem → Run
unchanged reply taken reads =
    answered (record { reply = reply; held = nothing_held; handles = []; taken = taken; reads = reads })

-- On a content.

-- handles where a name denotes this from now on
abbrev pub changed_to : List NamedHandle → HandleName → Option Handle → List NamedHandle
changed_to handles name None = without_handle handles name
changed_to handles name (Some h) = put_handle handles (name, h)

-- the same by a change
abbrev pub changed_by : List NamedHandle → NameChange → List NamedHandle
changed_by handles change = changed_to handles change.0 change.1

-- what a content becomes by an answer
abbrev pub content_after : Content → Answer → Content
content_after c a = record { objects = laid_over c.objects a.held; handles = fold changed_by c.handles a.handles }

-- what a request has come to on a content that is answered so
abbrev pub invoked_by : Content → Answer → Invoked
invoked_by c a = record { reply = a.reply; content = content_after c a; taken = a.taken; reads = a.reads }
