-- The numbers of a session: of its replies by their kinds, and of what the store holds after it (this project's own).
use Rattle.std.specs.Prelude.{ℕ, ◌≡◌, Bool, true, false, List, length, filter, Option, Some, None}
use Rattle.ob_store_spec.specs.Stores.{StoreState}
use Rattle.ob_wire.specs.declared.reply.Answer.{Answer}
use Rattle.ob_wire.specs.declared.reply.Answer.TheVariants.{Ok, Abort, Refused}
use Rattle.ob_wire.specs.declared.reply.Reply.{Reply}
use Rattle.ob_serve.specs.Kept.{says_done}
use Rattle.ob_serve.specs.Session.{SessionItem}
use Rattle.ob_run.specs.declared.counts.Counts.{Counts}

-- whether an answer says that a request was begun and undone
abbrev pub is_aborted : Answer → Bool
is_aborted (Ok outcome) = false
is_aborted (Abort cause) = true
is_aborted (Refused refusal) = false

-- whether an answer says that nothing was begun
abbrev pub is_refused : Answer → Bool
is_refused (Ok outcome) = false
is_refused (Abort cause) = false
is_refused (Refused refusal) = true

-- whether there is a reply, with such an answer
abbrev pub replies_so : (Answer → Bool) → Option Reply → Bool
replies_so is None = false
replies_so is (Some reply) = is reply.answer

-- how many items have a reply with such an answer
abbrev pub count_replies : {S : Type 0} → (Answer → Bool) → List (SessionItem S) → ℕ
count_replies is items = length (filter (λ i. replies_so is i.reply) items)

-- These are the numbers of a session's items and of what the store holds after them.
pub record AreCountsOf (items : List (SessionItem StoreState)) (after : StoreState) (counts : Counts) : Type 0 where
  pub lines : counts.lines ≡ length items
  pub ok : counts.ok ≡ count_replies says_done items
  pub aborted : counts.aborted ≡ count_replies is_aborted items
  pub refused : counts.refused ≡ count_replies is_refused items
  pub objects : counts.objects ≡ length after.content.objects
  pub handles : counts.handles ≡ length after.content.handles
