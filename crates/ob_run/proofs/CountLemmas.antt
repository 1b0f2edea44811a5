-- Replies are counted line by line.
use Rattle.std.proofs.Common.{◌≡◌, ℕ, ◌+◌, ◌≤◌, ◌<◌, Bool, true, false, List, [], ◌∷◌, ◌++◌, length, length-drop, take, drop, append_assoc, Option, Some, None, refl, sym, ◌∙◌, ap, subst, arith}
use Rattle.std.specs.List.{position}
use Rattle.std.proofs.Math.Seq.{take-append_seam, drop-append-add}
use Rattle.serde_json.specs.Written.{compact_text}
use Rattle.ob_wire.specs.Replies.{reply_json}
use Rattle.ob_wire.specs.declared.reply.Answer.TheVariants as answer
use Rattle.ob_wire.specs.declared.reply.Answer.{Answer}
use Rattle.ob_wire.specs.declared.reply.Reply.{Reply}
use Rattle.ob_run.specs.declared.counts.Counts.{Counts}
use Rattle.ob_run.specs.declared.kinds.ReplyKind.{ReplyKind}
use Rattle.ob_run.specs.declared.kinds.ReplyKind.TheVariants.{Done, Aborted, Refused}
use Rattle.ob_serve.specs.Kept.{says_done}
use Rattle.ob_run.specs.Counting.{is_aborted, is_refused}
use Rattle.ob_run.specs.Kinds.{kind_of, lines_of_replies, count_answers, AreWithin, counts_with, CountsReplies, IsCountedSoFar}
use Rattle.ob_run.proofs.CompactText.{is_newline, one_line, found_at}

-- one, where it is so
abbrev pub one_if : Bool → ℕ
one_if true = 1
one_if false = 0

pub count_more : (is : Answer → Bool) (r : Reply) (rs : List Reply) → count_answers is (r ∷ rs) ≡ one_if (is r.answer) + count_answers is rs
count_more is r rs = by (is r.answer) refl
  where
    by : (b : Bool) → is r.answer ≡ b → count_answers is (r ∷ rs) ≡ one_if b + count_answers is rs
    by true e = rw e (omega arith)
    by false e = rw e (omega arith)

-- what one line more adds to the numbers
record AddsOne (a : Answer) (old new : Counts) : Type 0 where
  lines : new.lines ≡ old.lines + 1
  ok : new.ok ≡ old.ok + one_if (says_done a)
  aborted : new.aborted ≡ old.aborted + one_if (is_aborted a)
  refused : new.refused ≡ old.refused + one_if (is_refused a)

adds_one : (a : Answer) (counts : Counts) → AddsOne a counts (counts_with (kind_of a) counts)
adds_one (answer.Ok o) counts = record { lines = refl; ok = refl; aborted = omega arith; refused = omega arith }
adds_one (answer.Abort c) counts = record { lines = refl; ok = omega arith; aborted = refl; refused = omega arith }
adds_one (answer.Refused r) counts = record { lines = refl; ok = omega arith; aborted = omega arith; refused = refl }

-- at the start all are left
pub none_so_far : (rs : List Reply) (all : List ℕ) (counts : Counts) → all ≡ lines_of_replies rs → counts.lines ≡ 0 → counts.ok ≡ 0 → counts.aborted ≡ 0 → counts.refused ≡ 0
    → IsCountedSoFar rs all counts
none_so_far rs all counts is lines ok aborted refused = record {
  left = rs;
  rest_is = is;
  lines = omega (arith, lines);
  ok = omega (arith, ok);
  aborted = omega (arith, aborted);
  refused = omega (arith, refused);
}

-- where the first line ends
record Splits (rest : List ℕ) (r : Reply) (left : List Reply) (end : ℕ) : Type 0 where
  line : take end rest ≡ compact_text (reply_json r)
  more : drop (end + 1) rest ≡ lines_of_replies left

same_end : (m n : ℕ) (o : Option ℕ) → o ≡ Some m → o ≡ Some n → m ≡ n
same_end m n o hm hn = cc

splits : (rest : List ℕ) (r : Reply) (left : List Reply) (end : ℕ) → rest ≡ lines_of_replies (r ∷ left) → position is_newline rest ≡ Some end → Splits rest r left end
splits rest r left end is found = record {
  line = rw (at, whole) (take-append_seam line (10 ∷ lines_of_replies left));
  more = rw (at, whole) (drop-append-add line (10 ∷ lines_of_replies left) 1);
}
  where
    line : List ℕ
    line = compact_text (reply_json r)

    whole : rest ≡ line ++ 10 ∷ lines_of_replies left
    whole = is ∙ append_assoc line (10 ∷ []) (lines_of_replies left)

    at : end ≡ length line
    at = same_end end (length line) (position is_newline rest) found (ap (position is_newline) whole ∙ found_at is_newline line (lines_of_replies left) 10 (one_line (reply_json r)) refl)

-- one line more is counted
pub one_more_line : (rs : List Reply) (rest : List ℕ) (end : ℕ) (kind : ReplyKind) (counts : Counts) → IsCountedSoFar rs rest counts → position is_newline rest ≡ Some end
    → ((reply : Reply) → take end rest ≡ compact_text (reply_json reply) → kind ≡ kind_of reply.answer)
    → IsCountedSoFar rs (drop (end + 1) rest) (counts_with kind counts)
one_more_line rs rest end kind counts so_far found tells = by so_far.left so_far.rest_is so_far.lines so_far.ok so_far.aborted so_far.refused
  where
    by : (left : List Reply) → rest ≡ lines_of_replies left → counts.lines + length left ≡ length rs
        → counts.ok + count_answers says_done left ≡ count_answers says_done rs → counts.aborted + count_answers is_aborted left ≡ count_answers is_aborted rs
        → counts.refused + count_answers is_refused left ≡ count_answers is_refused rs → IsCountedSoFar rs (drop (end + 1) rest) (counts_with kind counts)
    by [] is lines ok aborted refused = absurd (let none : position is_newline rest ≡ None = rw is refl in cc)
    by (r ∷ left) is lines ok aborted refused =
        let two = splits rest r left end is found in
        subst (λ (k : ReplyKind). IsCountedSoFar rs (drop (end + 1) rest) (counts_with k counts)) (sym (tells r two.line))
        (let adds = adds_one r.answer counts in record {
          left = left;
          rest_is = two.more;
          lines = omega (arith, lines, adds.lines);
          ok = omega (arith, ok, adds.ok, count_more says_done r left);
          aborted = omega (arith, aborted, adds.aborted, count_more is_aborted r left);
          refused = omega (arith, refused, adds.refused, count_more is_refused r left);
        })

-- the rest has no newline, and so none is left
pub all_counted : (rs : List Reply) (rest : List ℕ) (counts : Counts) (objects handles : ℕ) → IsCountedSoFar rs rest counts → position is_newline rest ≡ None
    → counts.objects ≡ objects → counts.handles ≡ handles → CountsReplies rs objects handles counts
all_counted rs rest counts objects handles so_far none objects_is handles_is = by so_far.left so_far.rest_is so_far.lines so_far.ok so_far.aborted so_far.refused
  where
    by : (left : List Reply) → rest ≡ lines_of_replies left → counts.lines + length left ≡ length rs
        → counts.ok + count_answers says_done left ≡ count_answers says_done rs → counts.aborted + count_answers is_aborted left ≡ count_answers is_aborted rs
        → counts.refused + count_answers is_refused left ≡ count_answers is_refused rs → CountsReplies rs objects handles counts
    by [] is lines ok aborted refused = record {
      lines = omega (arith, lines);
      ok = omega (arith, ok);
      aborted = omega (arith, aborted);
      refused = omega (arith, refused);
      objects = objects_is;
      handles = handles_is;
    }
    by (r ∷ left) is lines ok aborted refused =
        let line = compact_text (reply_json r) in
        let whole : rest ≡ line ++ 10 ∷ lines_of_replies left = is ∙ append_assoc line (10 ∷ []) (lines_of_replies left) in
        let some : position is_newline rest ≡ Some (length line) = ap (position is_newline) whole ∙ found_at is_newline line (lines_of_replies left) 10 (one_line (reply_json r)) refl in
        absurd cc

-- ---- one step of the loop

with_lines : (kind : ReplyKind) (counts : Counts) → (counts_with kind counts).lines ≡ counts.lines + 1
with_lines Done counts = refl
with_lines Aborted counts = refl
with_lines Refused counts = refl

with_objects : (kind : ReplyKind) (counts : Counts) → (counts_with kind counts).objects ≡ counts.objects
with_objects Done counts = refl
with_objects Aborted counts = refl
with_objects Refused counts = refl

with_handles : (kind : ReplyKind) (counts : Counts) → (counts_with kind counts).handles ≡ counts.handles
with_handles Done counts = refl
with_handles Aborted counts = refl
with_handles Refused counts = refl

with_within : (kind : ReplyKind) (counts : Counts) → AreWithin counts → AreWithin (counts_with kind counts)
with_within Done counts h = record { ok = omega (arith, h.ok); aborted = omega (arith, h.aborted); refused = omega (arith, h.refused) }
with_within Aborted counts h = record { ok = omega (arith, h.ok); aborted = omega (arith, h.aborted); refused = omega (arith, h.refused) }
with_within Refused counts h = record { ok = omega (arith, h.ok); aborted = omega (arith, h.aborted); refused = omega (arith, h.refused) }

module _ (kind : ReplyKind) (old new : Counts) (is : new ≡ counts_with kind old) where
  pub keeps_within : AreWithin old → AreWithin new
  keeps_within h = subst AreWithin (sym is) (with_within kind old h)

  pub keeps_objects : (n : ℕ) → old.objects ≡ n → new.objects ≡ n
  keeps_objects n h = ap (λ (c : Counts). c.objects) is ∙ with_objects kind old ∙ h

  pub keeps_handles : (n : ℕ) → old.handles ≡ n → new.handles ≡ n
  keeps_handles n h = ap (λ (c : Counts). c.handles) is ∙ with_handles kind old ∙ h

  pub keeps_few : (rest : List ℕ) (end n : ℕ) → old.lines + length rest ≤ n → end < length rest → new.lines + length (drop (end + 1) rest) ≤ n
  keeps_few rest end n h lt = omega (arith, h, lt, ap (λ (c : Counts). c.lines) is ∙ with_lines kind old, length-drop (end + 1) rest)

  pub keeps_counted : (rs : List Reply) (rest : List ℕ) (end : ℕ) → IsCountedSoFar rs rest old → position is_newline rest ≡ Some end
      → ((reply : Reply) → take end rest ≡ compact_text (reply_json reply) → kind ≡ kind_of reply.answer) → IsCountedSoFar rs (drop (end + 1) rest) new
  keeps_counted rs rest end so_far found tells = subst (λ (c : Counts). IsCountedSoFar rs (drop (end + 1) rest) c) (sym is) (one_more_line rs rest end kind old so_far found tells)
