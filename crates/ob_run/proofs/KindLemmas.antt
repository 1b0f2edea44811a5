-- Of which kind a reply is, by its line.
use Rattle.std.proofs.Common.{◌≡◌, ◌≢◌, ℕ, ℤ, ◌+◌, ◌<◌, ◌==◌, Bool, false, List, [], ◌∷◌, ◌++◌, length, Option, Some, None, slice_get, refl, sym, ◌∙◌, ap, subst, arith}
use Rattle.std.specs.List.{list_any, position}
use Rattle.json.specs.Print.{escape_byte}
use Rattle.serde_json.specs.Data.{member, number, unsigned}
use Rattle.serde_json.specs.Find.{of_integer}
use Rattle.serde_json.specs.Written.{compact_text}
use Rattle.ob_wire.specs.Replies.{id_json, outcome_json, reply_json}
use Rattle.ob_wire.specs.declared.reply.Answer.TheVariants as answer
use Rattle.ob_wire.specs.declared.reply.Cause.TheVariants as cause
use Rattle.ob_wire.specs.declared.reply.Cause.{Cause}
use Rattle.ob_wire.specs.declared.reply.Answer.{Answer}
use Rattle.ob_wire.specs.declared.reply.Outcome.{Outcome}
use Rattle.ob_wire.specs.declared.reply.Reply.{Reply}
use Rattle.ob_wire.specs.declared.refusal.Refusal.{Refusal}
use Rattle.ob_wire.specs.Refusals.{number_of}
use Rattle.ob_run.specs.Kinds.{kind_of}
use Rattle.ob_run.specs.declared.kinds.ReplyKind.TheVariants.{Done, Aborted, Refused}
use Rattle.ob_run.proofs.CompactText.{fails_high, none_in_number, found_at, nth_after}

abbrev pub is_comma : ℕ → Bool
is_comma b = b == 44

abbrev pub line_of : Reply → List ℕ
line_of reply = compact_text (reply_json reply)

pub abort_line : (id : Option ℤ) (c : Cause) → slice_get (line_of (record { id = id; answer = answer.Abort c })) 2 ≡ Some 97
unfolding escape_byte
abort_line id (cause.Revert text) = refl
abort_line id (cause.State o None) = refl
abort_line id (cause.State o (Some state)) = refl
abort_line id (cause.Reentry o) = refl
abort_line id (cause.Overflow line) = refl
abort_line id cause.Fuel = refl
abort_line id cause.Full = refl
abort_line id (cause.Room need size) = refl

-- a line that begins with an id, behind which stands a member
abbrev with_id : Option ℤ → List ℕ → List ℕ
with_id id rest = (123 ∷ 34 ∷ 105 ∷ 100 ∷ 34 ∷ 58 ∷ compact_text (id_json id)) ++ 44 ∷ rest

none_in_id : (id : Option ℤ) → list_any is_comma (compact_text (id_json id)) ≡ false
none_in_id None = refl
none_in_id (Some z) = none_in_number is_comma (λ x high. fails_high 44 x (omega arith) high) (of_integer z)

none_before : (id : Option ℤ) → list_any is_comma (123 ∷ 34 ∷ 105 ∷ 100 ∷ 34 ∷ 58 ∷ compact_text (id_json id)) ≡ false
none_before id = none_in_id id

abbrev front : Option ℤ → List ℕ
front id = 123 ∷ 34 ∷ 105 ∷ 100 ∷ 34 ∷ 58 ∷ compact_text (id_json id)

-- where the comma behind the id is, and what stands two bytes behind it
pub record HasKey (line : List ℕ) (letter : ℕ) : Type 0 where
  pub third : slice_get line 2 ≡ Some 105
  pub comma : ℕ
  pub found : position is_comma line ≡ Some comma
  pub key : slice_get line (comma + 2) ≡ Some letter

has_key : (id : Option ℤ) (quote letter : ℕ) (more line : List ℕ) → line ≡ front id ++ 44 ∷ quote ∷ letter ∷ more → HasKey line letter
has_key id quote letter more line is = record {
  third = ap (λ (l : List ℕ). slice_get l 2) is;
  comma = length (front id);
  found = ap (position is_comma) is ∙ found_at is_comma (front id) (quote ∷ letter ∷ more) 44 (none_before id) refl;
  key = ap (λ (l : List ℕ). slice_get l (length (front id) + 2)) is ∙ nth_after (front id) (44 ∷ quote ∷ letter ∷ more) 2;
}

pub done_line : (id : Option ℤ) (o : Outcome) → HasKey (line_of (record { id = id; answer = answer.Ok o })) 111
unfolding escape_byte
done_line id o = has_key id 34 111 (107 ∷ 34 ∷ 58 ∷ (compact_text (outcome_json o) ++ 125 ∷ [])) _ refl

pub refused_line : (id : Option ℤ) (r : Refusal) → HasKey (line_of (record { id = id; answer = answer.Refused r })) 114
unfolding escape_byte
refused_line id r = has_key id 34 114 (101 ∷ 102 ∷ 117 ∷ 115 ∷ 101 ∷ 100 ∷ 34 ∷ 58 ∷ (compact_text (number (unsigned (number_of r))) ++ 125 ∷ [])) _ refl

-- ---- the kind of a line

same_place : (m n : ℕ) (o : Option ℕ) → o ≡ Some m → o ≡ Some n → m ≡ n
same_place m n o hm hn = cc

apart : (m n : ℕ) (o : Option ℕ) → o ≡ Some m → o ≡ Some n → m < n → ⊥
apart m n o hm hn lt = omega (arith, same_place m n o hm hn, lt)

gone : (o : Option ℕ) (n : ℕ) → o ≡ None → o ≡ Some n → ⊥
gone o n none some = let wrong : None ≡ Some n = sym none ∙ some in absurd cc

-- the byte behind the comma that was found
key_at : (line : List ℕ) (letter comma : ℕ) → HasKey line letter → position is_comma line ≡ Some comma → slice_get line (comma + 2) ≡ Some letter
key_at line letter comma has found = ap (λ (n : ℕ). slice_get line (n + 2)) (same_place comma has.comma (position is_comma line) found has.found) ∙ has.key

module _ (line : List ℕ) (id : Option ℤ) where
  abbrev Is : Answer → Type 0
  Is a = line ≡ line_of (record { id = id; answer = a })

  third_of_abort : (c : Cause) → Is (answer.Abort c) → slice_get line 2 ≡ Some 97
  third_of_abort c is = ap (λ (l : List ℕ). slice_get l 2) is ∙ abort_line id c

  done_has : (o : Outcome) → Is (answer.Ok o) → HasKey line 111
  done_has o is = subst (λ (l : List ℕ). HasKey l 111) (sym is) (done_line id o)

  refused_has : (r : Refusal) → Is (answer.Refused r) → HasKey line 114
  refused_has r is = subst (λ (l : List ℕ). HasKey l 114) (sym is) (refused_line id r)

  pub is_aborted_line : (a : Answer) → Is a → slice_get line 2 ≡ Some 97 → Aborted ≡ kind_of a
  is_aborted_line (answer.Ok o) is third = absurd (apart 97 105 (slice_get line 2) third (done_has o is).third (omega arith))
  is_aborted_line (answer.Abort c) is third = refl
  is_aborted_line (answer.Refused r) is third = absurd (apart 97 105 (slice_get line 2) third (refused_has r is).third (omega arith))

  pub is_done_line : (a : Answer) (comma : ℕ) → Is a → slice_get line 2 ≢ Some 97 → position is_comma line ≡ Some comma → slice_get line (comma + 2) ≡ Some 111 → Done ≡ kind_of a
  is_done_line (answer.Ok o) comma is third found key = refl
  is_done_line (answer.Abort c) comma is third found key = absurd (third (third_of_abort c is))
  is_done_line (answer.Refused r) comma is third found key = absurd (apart 111 114 (slice_get line (comma + 2)) key (key_at line 114 comma (refused_has r is) found) (omega arith))

  pub is_refused_line : (a : Answer) (comma : ℕ) → Is a → slice_get line 2 ≢ Some 97 → position is_comma line ≡ Some comma → slice_get line (comma + 2) ≢ Some 111 → Refused ≡ kind_of a
  is_refused_line (answer.Ok o) comma is third found key = absurd (key (key_at line 111 comma (done_has o is) found))
  is_refused_line (answer.Abort c) comma is third found key = absurd (third (third_of_abort c is))
  is_refused_line (answer.Refused r) comma is third found key = refl

  pub has_comma : (a : Answer) → Is a → slice_get line 2 ≢ Some 97 → position is_comma line ≡ None → Refused ≡ kind_of a
  has_comma (answer.Ok o) is third none = absurd (gone (position is_comma line) (done_has o is).comma none (done_has o is).found)
  has_comma (answer.Abort c) is third none = absurd (third (third_of_abort c is))
  has_comma (answer.Refused r) is third none = refl
