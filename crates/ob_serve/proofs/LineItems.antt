-- The items of a line, by what is known of it.
use Rattle.std.proofs.Common.{◌≡◌, ℕ, ◌<◌, ◌≤◌, Bool, true, false, List, [], length, refl, sym, ◌∙◌, ap, subst, arith}
use Rattle.std.specs.Prelude.{Result, Err, nat_le, IsTrue, ⊤, if◌then◌else◌}
use Rattle.std.proofs.lemmas.Bool.Decides.{nat_tests}
use Rattle.ob_base.specs.Limits.{longest_line, most_requests}
use Rattle.ob_code.specs.declared.image.Image.{Image}
use Rattle.ob_store_spec.specs.Stores.{StoreState}
use Rattle.ob_wire.specs.Reading.{value_of}
use Rattle.ob_lanes_laws.proofs.Keeping.{both_true}
use Rattle.ob_wire.specs.Requests.{is_batch_size}
use Rattle.ob_wire.specs.declared.refusal.Refusal.{Refusal}
use Rattle.ob_wire.specs.declared.refusal.Refusal.TheVariants.{LongLine}
use Rattle.ob_wire.specs.declared.request.Incoming.{Incoming}
use Rattle.ob_serve.specs.Asked.{asked_by_value}
use Rattle.ob_serve.specs.Items.{Service, items_of_asked, items_of_line}
use Rattle.ob_serve.specs.Serving.{Moment, Answers, items_shown}
use Rattle.ob_serve.specs.Session.{SessionItem, is_blank_line}
use Rattle.ob_serve.specs.Stops.{IsFull}
use Rattle.ob_serve.specs.declared.serving.Served.{Served}
use Rattle.ob_serve.proofs.Asking.{asks_too_long, asks_by_value}

-- what is answered, of other items that are the same
pub same_answers : (code : Image) (xs ys : List (SessionItem StoreState)) (old new : Moment) (result : Result ⊤ Served) → xs ≡ ys → Answers code ys old new result → Answers code xs old new result
same_answers code xs ys old new result same answers = subst (λ (items : List (SessionItem StoreState)). Answers code items old new result) (sym same) answers

-- what a line asks is what it is known to ask
pub asked_as : (code : Image) (service : Service) (s : StoreState) (asked known : Result Incoming Refusal) (old new : Moment) (result : Result ⊤ Served) → asked ≡ known
    → Answers code (items_of_asked service s known) old new result → Answers code (items_of_asked service s asked) old new result
asked_as code service s asked known old new result same answers =
    same_answers code (items_of_asked service s asked) (items_of_asked service s known) old new result (ap (items_of_asked service s) same) answers

long_shows : (line : List ℕ) → longest_line < length line → is_blank_line line ≡ false
long_shows line long = let over : nat_le (length line) longest_line ≡ false = grind (arith, nat_tests) in rw over refl

module _ (service : Service) (s : StoreState) where
  shown_if : (full : List ℕ) (b : Bool) → is_blank_line full ≡ b → items_shown (items_of_line service) s full ≡ (if b then [] else items_of_line service s full)
  shown_if full b is = ap (λ (x : Bool). if x then [] else items_of_line service s full) is

  -- a line that is too long
  pub long_items : (is_long : Bool) (line full : List ℕ) → is_long ≡ true → IsFull is_long line full → items_shown (items_of_line service) s full ≡ items_of_asked service s (Err LongLine)
  long_items false line full is whole = absurd cc
  long_items true line full is long = shown_if full false (long_shows full long) ∙ ap (items_of_asked service s) (asks_too_long full long)

  -- a blank one
  pub blank_items : (is_long : Bool) (line full : List ℕ) → is_long ≡ false → is_blank_line line ≡ true → IsFull is_long line full → items_shown (items_of_line service) s full ≡ []
  blank_items true line full is blank whole = absurd cc
  blank_items false line full is blank whole = shown_if full true (ap is_blank_line whole.0 ∙ blank)

  -- another
  pub text_items : (is_long : Bool) (line full : List ℕ) → is_long ≡ false → is_blank_line line ≡ false → IsFull is_long line full
      → items_shown (items_of_line service) s full ≡ items_of_asked service s (asked_by_value (value_of line))
  text_items true line full is shows whole = absurd cc
  text_items false line full is shows whole =
      shown_if full false (ap is_blank_line whole.0 ∙ shows) ∙ ap (items_of_line service s) whole.0 ∙ ap (items_of_asked service s) (asks_by_value line whole.1)

-- a batch has a request, and no more than there may be
pub some_requests : (count : ℕ) → IsTrue (is_batch_size count) → 0 < count
some_requests count fits = let is = (both_true (nat_le 1 count) (nat_le count most_requests) fits).0 in grind (arith, nat_tests)

pub few_requests : (count : ℕ) → IsTrue (is_batch_size count) → count ≤ most_requests
few_requests count fits = let is = (both_true (nat_le 1 count) (nat_le count most_requests) fits).1 in grind (arith, nat_tests)
