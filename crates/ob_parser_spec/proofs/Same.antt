-- Readers that answer alike whatever the tokens: put together of parts that do, they do.
use Rattle.std.proofs.Common.{ℕ, zero, suc, ◌≡◌, ◌-◌, ◌≤◌, nat_le, Bool, cond, List, [], ◌∷◌, length, Option, Some, None, inl, inr, refl, ap, ◌∙◌}
use Rattle.std.proofs.lemmas.Bool.{cases_Bool, leb-true}
use Rattle.ob_lexer.specs.declared.token.Token.{Token}
use Rattle.ob_lexer.specs.declared.token.Sign.{Sign}
use Rattle.ob_parser_spec.specs.Symbols.{a_sign}
use Rattle.ob_parser_spec.specs.Readers.{Read, done, stop, deep, Reader, ◌>>=◌, begin_with, span_if, and_after, read_then, read_both, read_either, read_as, open_if, read_opened, read_maybe, span_between, read_spanned, put_before, read_each, read_many_from, read_many}
use Rattle.ob_parser_spec.specs.NameReaders.{on, second, read_parted, inner, read_counted}

abbrev pub Same : {A : Type 0} → Reader A → Reader A → Type 0
Same p q = (ts : List Token) → p ts ≡ q ts

-- ---- answers

goes_on : {A B : Type 0} (f g : A → List Token → Read B) → ((x : A) (rest : List Token) → f x rest ≡ g x rest) → (r : Read A) → (r >>= f) ≡ (r >>= g)
goes_on f g same (done x rest) = same x rest
goes_on f g same (stop rest) = refl
goes_on f g same (deep rest) = refl

pub bind_same : {A B : Type 0} (r s : Read A) (f g : A → List Token → Read B) → r ≡ s → ((x : A) (rest : List Token) → f x rest ≡ g x rest) → (r >>= f) ≡ (s >>= g)
bind_same r s f g e same = ap (λ z. z >>= f) e ∙ goes_on f g same s

cond_same : {A : Type 0} (b : Bool) (x y z w : A) → x ≡ z → y ≡ w → cond b x y ≡ cond b z w
cond_same b x y z w e f = ap (λ v. cond b v y) e ∙ ap (λ v. cond b z v) f

-- ---- one row or two

pub itself : {A : Type 0} (p : Reader A) → Same p p
itself p ts = refl

pub as_same : {A B : Type 0} (f : A → B) {p q : Reader A} → Same p q → Same (read_as f p) (read_as f q)
as_same f same ts = ap (λ r. r >>= (λ x rest. done (f x) rest)) (same ts)

pub then_same : {A B : Type 0} {p q : Reader A} {u v : A → Reader B} → Same p q → ((x : A) → Same (u x) (v x)) → Same (read_then p u) (read_then q v)
then_same {p = p} {q = q} {u = u} {v = v} front back ts = bind_same (p ts) (q ts) (and_after u) (and_after v) (front ts) (λ x mid. ap (λ r. r >>= (λ y rest. done (x, y) rest)) (back x mid))

pub both_same : {A B : Type 0} {p q : Reader A} {u v : Reader B} → Same p q → Same u v → Same (read_both p u) (read_both q v)
both_same front back = then_same front (λ x. back)

pub either_same : {A : Type 0} (kinds : List ℕ) {p q u v : Reader A} → Same p q → Same u v → Same (read_either kinds p u) (read_either kinds q v)
either_same kinds {p = p} {q = q} {u = u} {v = v} one other ts = cond_same (begin_with kinds ts) (p ts) (u ts) (q ts) (v ts) (one ts) (other ts)

pub maybe_same : {A : Type 0} (kinds : List ℕ) {p q : Reader A} → Same p q → Same (read_maybe kinds p) (read_maybe kinds q)
maybe_same kinds same ts = ap (λ r. cond (begin_with kinds ts) (r >>= (λ x rest. done (Some x) rest)) (done None ts)) (same ts)

pub spanned_same : {A : Type 0} {p q : Reader A} → Same p q → Same (read_spanned p) (read_spanned q)
spanned_same same ts = ap (λ r. r >>= (λ x rest. done (x, span_between ts rest) rest)) (same ts)

-- ---- rows under tokens that count: all that matters is what is read in the room that is left

open_same : {A B : Type 0} (o : Option A) (more room : ℕ) (p q : ℕ → Reader B) (t : Token) → (more ≤ room → Same (p (room - more)) (q (room - more))) →
    Same (open_if o more room p t) (open_if o more room q t)
open_same None more room p q t same ts = refl
open_same (Some x) more room p q t same ts = elim (cases_Bool (nat_le more room)) [
  | inl is ↦ ap (λ r. cond (nat_le more room) (r >>= (λ y rest. done (x, y) rest)) (deep (t ∷ ts))) (same (leb-true more room is) ts)
  | inr isnt ↦ rw isnt refl
]

pub opened_same : {A B : Type 0} (f : Token → Option A) (more room : ℕ) (p q : ℕ → Reader B) → (more ≤ room → Same (p (room - more)) (q (room - more))) →
    Same (read_opened f more room p) (read_opened f more room q)
opened_same f more room p q same [] = refl
opened_same f more room p q same (t ∷ ts) = open_same (f t) more room p q t same ts

pub counted_same : {A : Type 0} (left : Sign) (room : ℕ) (p q : ℕ → Reader A) (right : Sign) → (1 ≤ room → Same (p (room - 1)) (q (room - 1))) →
    Same (read_counted left room p right) (read_counted left room q right)
counted_same left room p q right same = as_same inner (both_same (opened_same (span_if (a_sign left)) 1 room p q same) (λ ts. refl))

-- ---- rows one after the other

pub each_same : {A S : Type 0} (kinds : List ℕ) (p q : S → Reader A) (next : S → A → S) (n : ℕ) (s : S) → ((s : S) → Same (p s) (q s)) → Same (read_each kinds p next n s) (read_each kinds q next n s)
each_same kinds p q next zero s same = λ ts. refl
each_same kinds p q next (suc n) s same = either_same kinds (as_same put_before (then_same (same s) (λ x. each_same kinds p q next n (next s x) same))) (λ ts. refl)

pub many_from_same : {A S : Type 0} (kinds : List ℕ) (p q : S → Reader A) (next : S → A → S) (s : S) → ((s : S) → Same (p s) (q s)) →
    Same (read_many_from kinds p next s) (read_many_from kinds q next s)
many_from_same kinds p q next s same ts = each_same kinds p q next (suc (length ts)) s same ts

pub many_same : {A : Type 0} (kinds : List ℕ) {p q : Reader A} → Same p q → Same (read_many kinds p) (read_many kinds q)
many_same kinds {p = p} {q = q} same = many_from_same {S = Unit {0}} kinds (λ u. p) (λ u. q) (λ u x. u) tt (λ u. same)

pub parted_same : {A : Type 0} (s : Sign) {p q : Reader A} → Same p q → Same (read_parted s p) (read_parted s q)
parted_same s same = as_same put_before (both_same same (many_same (on s) (as_same second (both_same (λ ts. refl) same))))
