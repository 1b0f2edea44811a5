-- A statement's parts: what is after them is after the statement.
use Rattle.std.proofs.Common.{◌≡◌, Bool, false, ◌&&◌, Result, Ok, Err, IfOk, OnOk, IsOkAnd, MatchResult, is_ok}

pub after_both : {E : Type 0} (A B C D : Type 0) (r branch other : Result Bool E)
    → MatchResult r (λ both. IsOkAnd branch (λ a. IsOkAnd other (λ b. both ≡ (a && b))))
    (λ _. (is_ok branch && is_ok other) ≡ false)
    → OnOk branch A → OnOk branch B → OnOk other C → (A → B → C → D) → OnOk r D
after_both A B C D (Err e) branch other made p q v f = tt
after_both A B C D (Ok x) (Err e) other made p q v f = absurd made
after_both A B C D (Ok x) (Ok a) (Err e) made p q v f = absurd made
after_both A B C D (Ok x) (Ok a) (Ok b) made p q v f = f p q v

pub both_end : {E : Type 0} (r branch other : Result Bool E) (first second : Bool)
    → MatchResult r (λ both. IsOkAnd branch (λ a. IsOkAnd other (λ b. both ≡ (a && b))))
    (λ _. (is_ok branch && is_ok other) ≡ false)
    → IfOk branch (λ a. a ≡ first) → IfOk other (λ b. b ≡ second) → IfOk r (λ both. both ≡ (first && second))
both_end (Err e) branch other first second made p q = tt
both_end (Ok x) (Err e) other first second made p q = absurd made
both_end (Ok x) (Ok a) (Err e) first second made p q = absurd made
both_end (Ok x) (Ok a) (Ok b) first second made p q = cc

-- after a statement that doesn't end is what is after its parts
pub after_one : {W E : Type 0} (A D : Type 0) (r : Result Bool E) (walked : Result W E)
    → MatchResult r (λ ended. IsOkAnd walked (λ _. ended ≡ false))
    (λ _. is_ok walked ≡ false) → OnOk walked A → (A → D) → OnOk r D
after_one A D (Err e) walked made p f = tt
after_one A D (Ok x) (Err e) made p f = absurd made
after_one A D (Ok x) (Ok w) made p f = f p

pub going_on : {W E : Type 0} (r : Result Bool E) (walked : Result W E)
    → MatchResult r (λ ended. IsOkAnd walked (λ _. ended ≡ false))
    (λ _. is_ok walked ≡ false) → IfOk r (λ ended. ended ≡ false)
going_on (Err e) walked made = tt
going_on (Ok x) (Err e) made = absurd made
going_on (Ok x) (Ok w) made = made
