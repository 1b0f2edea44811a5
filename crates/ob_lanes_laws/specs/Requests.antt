-- The schedule of requests by an image's code, over stores that may lack room for what a request changes (this project's own).
use Rattle.std.specs.Prelude.{◌≡◌, ℕ, suc, ◌*◌, Bool, true, false, bytes_eq, Result, Ok, Err}
use Rattle.ob_heap_spec.specs.Contents.{Content}
use Rattle.ob_invocation_spec.specs.Replies.{Reply, Invoked, invoked}
use Rattle.ob_invocation_spec.specs.Requests.{Request}
use Rattle.ob_code.specs.declared.image.Image.{Image}
use Rattle.ob_code_table.specs.ImageTables.{table_of_image}
use Rattle.ob_machine_steps.specs.Measures.{longest, steps_left}
use Rattle.ob_machine_meaning.specs.Meanings.{machine_invocation}
use Rattle.ob_request_run_laws.specs.Runs.{Run, opened, paused, answered, lost, reads_of_run, content_after}
use Rattle.ob_request_run_laws.specs.Slices.{slice}
use Rattle.ob_lanes_laws.specs.Schedule.{Rules}
use Rattle.ob_lanes_laws.specs.Conflicts.{conflicts}

-- Stores of a kind: what one holds, and what becomes of it where a request leads to another content: a store with that content, or it
-- lacks room.
pub record Stores (S L : Type 0) : Type 0 where
  pub content_of : S → Content
  pub settle : S → Content → Result S L
  pub settles : (s : S) (after : Content) (t : S) → settle s after ≡ Ok t → content_of t ≡ after

-- what a request is answered: its reply, or that the store lacks room for what it changed; or it went wrong
pub data Answer (L : Type 0) : Type 0 where
  replied : Reply → Answer L
  lacks_room : L → Answer L
  went_wrong : Answer L

-- the answer of a request with this reply, by what became of the store
abbrev pub answer_by : {S L : Type 0} → Reply → Result S L → Answer L
answer_by reply (Ok t) = replied reply
answer_by reply (Err lack) = lacks_room lack

-- the store after it: where it lacks room it stays as it was
abbrev pub store_by : {S L : Type 0} → S → Result S L → S
store_by s (Ok t) = t
store_by s (Err lack) = s

-- What a request comes to on a store, taken alone: the invocation by code, of which the store has room for the changes or lacks it.
pub record IsInvoked {S L : Type 0} (stores : Stores S L) (image : Image) (fuel : ℕ) (s : S) (q : Request) (answer : Answer L) (after : S) : Type 0 where
  pub comes_to : Invoked
  pub is : machine_invocation image (stores.content_of s) q fuel ≡ invoked comes_to
  pub answer_is : answer ≡ answer_by comes_to.reply (stores.settle s comes_to.content)
  pub after_is : after ≡ store_by s (stores.settle s comes_to.content)

-- The rules.

-- whether a run has been answered, or lost
abbrev pub has_ended : Run → Bool
has_ended (opened q) = false
has_ended (paused q reads p h) = false
has_ended (answered a) = true
has_ended lost = true

-- the store after the commit of a run
abbrev pub commit : {S L : Type 0} → Stores S L → S → Run → S
commit stores s (answered a) = store_by s (stores.settle s (content_after (stores.content_of s) a))
commit stores s r = s

-- and its answer
abbrev pub answer : {S L : Type 0} → Stores S L → S → Run → Answer L
answer stores s (answered a) = answer_by a.reply (stores.settle s (content_after (stores.content_of s) a))
answer stores s r = went_wrong

-- The rules of requests, each with so many units of fuel.
abbrev pub request_rules : {S L : Type 0} → Stores S L → Image → ℕ → Rules S Request Run (Answer L)
request_rules stores image fuel = record {
  same_client = λ p q. bytes_eq p.who q.who;
  opening = opened;
  slice = λ s units r. slice image fuel (stores.content_of s) units r;
  has_ended = has_ended;
  commit = commit stores;
  answer = answer stores;
  is_stale = λ s t r. conflicts (table_of_image image) (stores.content_of s) (stores.content_of t) (reads_of_run r);
}

-- how many steps are left to a run, at most
abbrev pub steps_of_run : Image → ℕ → Run → ℕ
steps_of_run image fuel (opened q) = suc (suc (fuel * longest image))
steps_of_run image fuel (paused q reads p h) = steps_left image p
steps_of_run image fuel (answered a) = 0
steps_of_run image fuel lost = 0
