-- The lines of a trial, one after another.
use Rattle.std.proofs.Common.{◌≡◌, ◌∙◌, ℕ, suc, ◌-◌, ◌/◌, ◌<◌, ◌≤◌, false, List, ◌++◌, sym, ap, ap₂, subst, append_assoc, arith}
use Rattle.std.specs.Prelude.{codes}
use Rattle.serde_json.specs.Data.{Data}
use Rattle.serde_json.specs.Written.{has_float, compact_text}
use Rattle.ob_wire.specs.declared.request.Request.{Request}
use Rattle.ob_client.specs.RequestLines.{request_json, request_line}
use Rattle.ob_client.specs.Trials.{TrialClient, Wish, wish_of, holding_after, request_of, drawn_after, requests_from, lines_of_requests, trial_lines}
use Rattle.ob_client.proofs.RequestValues.{request_whole}

-- so many lines are written, and with those of the rest of the requests they are all
pub record IsWritten (length : ℕ) (lines : List ℕ) (done drawn : ℕ) (held : TrialClient) : Type 0 where
  pub few : done ≤ length
  pub below : drawn < 256
  pub all : lines ++ lines_of_requests (requests_from (length - done) (suc done) drawn held) ≡ trial_lines length

-- a line was put
abbrev pub Puts : List ℕ → List ℕ → Data → Type 0
Puts old new value = has_float value ≡ false → new ≡ old ++ (compact_text value ++ codes "\n")

line_put : (old new : List ℕ) (value : Data) (r : Request) → value ≡ request_json r → Puts old new value
    → new ≡ old ++ (request_line r ++ codes "\n")
line_put old new value r is put = put (ap has_float is ∙ request_whole r) ∙ ap (λ (d : Data). old ++ (compact_text d ++ codes "\n")) is

one_less : (length done : ℕ) → done < length → length - done ≡ suc (length - suc done)
one_less length done lt = omega (arith, lt)

after_one : (length : ℕ) (lines new : List ℕ) (done drawn next : ℕ) (held after : TrialClient) (wish : Wish) (value : Data) → IsWritten length lines done drawn held
    → done < length → next ≡ drawn_after drawn → next < 256 → wish ≡ wish_of (next / 64) held → value ≡ request_json (request_of (suc done) wish)
    → Puts lines new value → after ≡ holding_after (suc done) wish held → IsWritten length new (suc done) next after
after_one length lines new done drawn next held after wish value h lt next_is low wish_is is put after_is = record {
  few = omega (arith, lt);
  below = low;
  all = ap₂ (λ (l : List ℕ) (x : TrialClient). l ++ rest next x) (line_put lines new value (request_of (suc done) wish) is put) after_is
      ∙ append_assoc lines (request_line (request_of (suc done) wish) ++ codes "\n") (rest next (holding_after (suc done) wish held))
      ∙ ap (λ (l : List ℕ). lines ++ l) (append_assoc (request_line (request_of (suc done) wish)) (codes "\n") (rest next (holding_after (suc done) wish held)))
      ∙ ap₂ (λ (d : ℕ) (w : Wish). lines ++ (request_line (request_of (suc done) w) ++ (codes "\n" ++ rest d (holding_after (suc done) w held)))) next_is
      (wish_is ∙ ap (λ (d : ℕ). wish_of (d / 64) held) next_is)
      ∙ left (length - done) (one_less length done lt) h.all;
}
  where
    rest : ℕ → TrialClient → List ℕ
    rest d x = lines_of_requests (requests_from (length - suc done) (suc (suc done)) d x)

    left : (n : ℕ) → n ≡ suc (length - suc done) → lines ++ lines_of_requests (requests_from n (suc done) drawn held) ≡ trial_lines length
        → lines ++ lines_of_requests (requests_from (suc (length - suc done)) (suc done) drawn held) ≡ trial_lines length
    left n e all = subst (λ (m : ℕ). lines ++ lines_of_requests (requests_from m (suc done) drawn held) ≡ trial_lines length) e all

-- one more line
pub goes_on : (length : ℕ) (lines new : List ℕ) (done number drawn next : ℕ) (held after : TrialClient) (wish : Wish) (value : Data) → number ≡ suc done
    → IsWritten length lines done drawn held → done < length → next ≡ drawn_after drawn → next < 256 → wish ≡ wish_of (next / 64) held
    → value ≡ request_json (request_of number wish) → Puts lines new value → after ≡ holding_after number wish held → IsWritten length new number next after
goes_on length lines new done number drawn next held after wish value e h lt next_is low wish_is is put after_is =
    subst (λ (n : ℕ). IsWritten length new n next after) (sym e)
    (after_one length lines new done drawn next held after wish value h lt next_is low wish_is
    (subst (λ (n : ℕ). value ≡ request_json (request_of n wish)) e is) put (subst (λ (n : ℕ). after ≡ holding_after n wish held) e after_is))
