-- What `parse` reads is what `number_in` says.
use Rattle.std.proofs.Common.{◌≡◌, ℕ, ◌<◌, ◌≤◌, ◌^◌, List, [], ◌∷◌, None, Some, Bool, true, false, ◌&&◌, nat_eq, refl, sym, length, arith}
use Rattle.std.specs.Prelude.{nat_lt, nat_le, slice_index, Result, Ok, Err}
use Rattle.std.specs.List.{list_all}
use Rattle.std.specs.Char.{digit_value}
use Rattle.std.specs.Str.Parse.{AllDigits, IsNumeral, ParsesUnsigned, digits_value, without_leading_plus}
use Rattle.std.proofs.lemmas.Bool.{lt-ltb, le-leb, ltb-true, leb-true, eqb-true}
use Rattle.clap.specs.ValueTests.{is_numeral}
use Rattle.ob_base.proofs.OptionalLemmas.{both_true}
use Rattle.ob_words.specs.Settings.{number_in}

digits_test : (ds : List ℕ) → AllDigits 10 ds → list_all (λ d. nat_lt (digit_value d) 10) ds ≡ true
digits_test [] h = refl
digits_test (d ∷ ds) h = rw (lt-ltb (digit_value d) 10 h.0) (digits_test ds h.1)

digits_hold : (ds : List ℕ) → list_all (λ d. nat_lt (digit_value d) 10) ds ≡ true → AllDigits 10 ds
digits_hold [] e = tt
digits_hold (d ∷ ds) e =
    let parts = both_true _ _ e in
    (ltb-true _ _ parts.0, digits_hold ds parts.1)

numeral_test : (ds : List ℕ) → IsNumeral 10 ds → is_numeral ds ≡ true
numeral_test ds h = rw (lt-ltb 0 (length ds) h.0, digits_test ds h.1) refl

numeral_holds : (ds : List ℕ) → is_numeral ds ≡ true → IsNumeral 10 ds
numeral_holds ds e =
    let parts = both_true _ _ e in
    (ltb-true _ _ parts.0, digits_hold ds parts.1)

no_plus : (text : List ℕ) → nat_eq (slice_index text 0) 43 ≡ false → without_leading_plus text ≡ text
no_plus text h = rw h refl

pub number_signed : (least most : ℕ) (text : List ℕ) → nat_eq (slice_index text 0) 43 ≡ true → number_in least most text ≡ None
number_signed least most [] h = refl
number_signed least most (c ∷ cs) h = let same : c ≡ 43 = eqb-true _ _ h in rw (same, lt-ltb 0 (length (43 ∷ cs)) (omega arith)) refl

pub number_read : {E : Type 0} (w least most n : ℕ) (text : List ℕ) → nat_eq (slice_index text 0) 43 ≡ false → (r : Result ℕ E) → ParsesUnsigned w 10 text r
    → r ≡ Ok n → least ≤ n → n ≤ most → number_in least most text ≡ Some n
number_read w least most n text h (Ok m) p e low high =
    let same : m ≡ n = cc in
    let parts = rw (no_plus text h) at p in
    rw (numeral_test text parts.0.0, sym parts.1, same, le-leb least n low, le-leb n most high) refl
number_read w least most n text h (Err x) p e low high = cc

pub number_refused : {E : Type 0} (w least most : ℕ) (text : List ℕ) → nat_eq (slice_index text 0) 43 ≡ false → (r : Result ℕ E) → ParsesUnsigned w 10 text r
    → (x : E) → r ≡ Err x → most < 2 ^ w → number_in least most text ≡ None
number_refused w least most text h (Ok m) p x e low = cc
number_refused w least most text h (Err y) p x e low = go (is_numeral text) refl
  where
    go : (t : Bool) → is_numeral text ≡ t → number_in least most text ≡ None
    go false t = rw t refl
    go true t = again (nat_le (digits_value 10 text) most) refl
      where
        again : (u : Bool) → nat_le (digits_value 10 text) most ≡ u → number_in least most text ≡ None
        again false u = rw (t, u) (grind arith)
        again true u = absurd ((rw (no_plus text h) at p) (numeral_holds text t, (let le = leb-true _ _ u in omega arith)))
