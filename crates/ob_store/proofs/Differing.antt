-- Where two rows of bytes differ.
use Rattle.std.proofs.Common.{◌≡◌, ⊎_elim, ℕ, ◌<◌, ◌≤◌, min, List, length, take, drop, get_or, Some, None, Option, sym, ◌∙◌, ap, arith, drop-cons}
use Rattle.std.proofs.lemmas.List.{drop_all, take_all}
use Rattle.std.proofs.lemmas.Bool.{cases_lt}
use Rattle.ob_format_spec.specs.Lawful.{first}
use Rattle.ob_journal_spec.specs.Differing.{DifferAt}

first_at : (xs : List ℕ) (n : ℕ) → n < length xs → first (drop n xs) ≡ Some (get_or xs n 0)
first_at xs n within = ap first (drop-cons xs n 0 within)

first_past : (xs : List ℕ) (n : ℕ) → length xs ≤ n → first (drop n xs) ≡ None
first_past xs n past = ap first (drop_all n xs past)

apart : (x y : ℕ) (a b : Option ℕ) → a ≡ Some x → b ≡ Some y → a ≡ b → x ≡ y
apart x y a b is other same = cc

one_ends : (y : ℕ) (a b : Option ℕ) → a ≡ None → b ≡ Some y → ¬ (a ≡ b)
one_ends y a b is other same = cc

pub differ_there : (xs ys : List ℕ) (n : ℕ) → n < length xs → n < length ys → take n xs ≡ take n ys → ¬ (get_or xs n 0 ≡ get_or ys n 0) → DifferAt n xs ys
differ_there xs ys n in_one in_other same unlike = record {
  within_one = omega arith;
  within_other = omega arith;
  before = same;
  at = λ e. unlike (apart _ _ _ _ (first_at xs n in_one) (first_at ys n in_other) e);
}

pub differ_at_end : (xs ys : List ℕ) (n : ℕ) → n ≡ min (length xs) (length ys) → take n xs ≡ take n ys → ¬ (length xs ≡ length ys) → DifferAt n xs ys
differ_at_end xs ys n is same unlike = record {
  within_one = omega (arith, is);
  within_other = omega (arith, is);
  before = same;
  at = λ e. ⊎_elim
      (λ shorter. one_ends (get_or ys n 0) _ _ (first_past xs n (omega (arith, is, shorter))) (first_at ys n (omega (arith, is, shorter))) e)
      (λ longer. one_ends (get_or xs n 0) _ _ (first_past ys n (omega (arith, is, longer))) (first_at xs n (omega (arith, is, longer, unlike))) (sym e))
      (cases_lt (length xs) (length ys));
}

pub same_whole : (xs ys : List ℕ) (n : ℕ) → n ≡ min (length xs) (length ys) → length xs ≡ length ys → take n xs ≡ take n ys → xs ≡ ys
same_whole xs ys n is long same = sym (take_all n xs (omega (arith, is, long))) ∙ same ∙ take_all n ys (omega (arith, is, long))
