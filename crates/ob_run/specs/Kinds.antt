-- Of which kind a reply is, and what is counted of replies; for private clauses.
use Rattle.std.specs.Prelude.{ℕ, ◌≡◌, ◌+◌, ◌≤◌, Bool, List, [], ◌∷◌, ◌++◌, length, filter}
use Rattle.ob_wire.specs.Replies.{reply_line}
use Rattle.ob_wire.specs.declared.reply.Answer.{Answer}
use Rattle.ob_wire.specs.declared.reply.Answer.TheVariants as answer
use Rattle.ob_wire.specs.declared.reply.Reply.{Reply}
use Rattle.ob_serve.specs.Kept.{says_done}
use Rattle.ob_run.specs.Counting.{is_aborted, is_refused}
use Rattle.ob_run.specs.declared.counts.Counts.{Counts}
use Rattle.ob_run.specs.declared.kinds.ReplyKind.{ReplyKind}
use Rattle.ob_run.specs.declared.kinds.ReplyKind.TheVariants.{Done, Aborted, Refused}

-- the kind of an answer
abbrev pub kind_of : Answer → ReplyKind
kind_of (answer.Ok outcome) = Done
kind_of (answer.Abort cause) = Aborted
kind_of (answer.Refused refusal) = Refused

-- the lines of replies, one after another
abbrev pub lines_of_replies : List Reply → List ℕ
lines_of_replies [] = []
lines_of_replies (r ∷ rs) = reply_line r ++ lines_of_replies rs

-- how many of the replies have such an answer
abbrev pub count_answers : (Answer → Bool) → List Reply → ℕ
count_answers is rs = length (filter (λ r. is r.answer) rs)

-- no kind has more replies than there are lines
pub record AreWithin (counts : Counts) : Type 0 where
  pub ok : counts.ok ≤ counts.lines
  pub aborted : counts.aborted ≤ counts.lines
  pub refused : counts.refused ≤ counts.lines

-- the numbers with one line more, which has a reply of this kind
abbrev pub counts_with : ReplyKind → Counts → Counts
counts_with Done counts = record counts { lines = counts.lines + 1; ok = counts.ok + 1 }
counts_with Aborted counts = record counts { lines = counts.lines + 1; aborted = counts.aborted + 1 }
counts_with Refused counts = record counts { lines = counts.lines + 1; refused = counts.refused + 1 }

-- these are the numbers of replies, of objects and of handles
pub record CountsReplies (rs : List Reply) (kept_objects kept_handles : ℕ) (counts : Counts) : Type 0 where
  pub lines : counts.lines ≡ length rs
  pub ok : counts.ok ≡ count_answers says_done rs
  pub aborted : counts.aborted ≡ count_answers is_aborted rs
  pub refused : counts.refused ≡ count_answers is_refused rs
  pub objects : counts.objects ≡ kept_objects
  pub handles : counts.handles ≡ kept_handles

-- Of the bytes of these replies some are left, and the lines before them are counted.
pub record IsCountedSoFar (rs : List Reply) (rest : List ℕ) (counts : Counts) : Type 0 where
  pub left : List Reply
  pub rest_is : rest ≡ lines_of_replies left
  pub lines : counts.lines + length left ≡ length rs
  pub ok : counts.ok + count_answers says_done left ≡ count_answers says_done rs
  pub aborted : counts.aborted + count_answers is_aborted left ≡ count_answers is_aborted rs
  pub refused : counts.refused + count_answers is_refused left ≡ count_answers is_refused rs
