-- Loops that read one part after another.
use Rattle.std.proofs.Common.{ℕ, suc, ◌≡◌, ◌-◌, ◌+◌, ◌<◌, List, [], ◌∷◌, ◌++◌, length, take, get_or, refl, sym, ap, subst, ◌∙◌, append_assoc, append-nil, arith}
use Rattle.std.proofs.lemmas.List.{take_more}
use Rattle.ob_format_spec.specs.Formats.{Parsed, done, stop, ◌>>=◌, Format}
use Rattle.ob_format_spec.specs.Combinators.{read_and_then, read_times, read_each, each_bytes}
use Rattle.ob_format.specs.Answering.{Halts}
use Rattle.ob_format.specs.declared.halt.Halt.{Halt}
use Rattle.ob_format.specs.declared.halt.Halt.TheVariants as halt

-- after what was read of a list
abbrev pub prefixed : {A : Type 0} → List A → Parsed (List A) → Parsed (List A)
prefixed xs read = read >>= (λ ys rest. done (xs ++ ys) rest)

pub prefixed_none : {A : Type 0} (r : Parsed (List A)) → prefixed [] r ≡ r
prefixed_none (done xs rest) = refl
prefixed_none (stop left) = refl

abbrev after_one : {A : Type 0} → A → List A → A × List A
after_one x ys = (x, ys)

one_more : {A : Type 0} (xs : List A) (x : A) (r : Parsed (List A)) → prefixed xs ((r >>= (λ ys rest. done (after_one x ys) rest)) >>= (λ pair rest. done (pair.0 ∷ pair.1) rest)) ≡ prefixed (xs ++ x ∷ []) r
one_more xs x (done ys rest) = ap (λ l. done l rest) (sym (append_assoc xs (x ∷ []) ys))
one_more xs x (stop left) = refl

times_suc : {A : Type 0} (read : List ℕ → Parsed A) (n : ℕ) (items : List A) (x : A) (rest after : List ℕ) → read rest ≡ done x after → prefixed items (read_times read (suc n) rest) ≡ prefixed (items ++ x ∷ []) (read_times read n after)
times_suc read n items x rest after e = rw e (one_more items x (read_times read n after))

-- one more was read
pub times_step : {A : Type 0} (read : List ℕ → Parsed A) (n k : ℕ) (items more : List A) (x : A) (rest after : List ℕ) (whole : Parsed (List A)) → k < n → prefixed items (read_times read (n - k) rest) ≡ whole →
    read rest ≡ done x after → more ≡ items ++ x ∷ [] → prefixed more (read_times read (n - (k + 1)) after) ≡ whole
times_step read n k items more x rest after whole less is e one =
    let count : n - k ≡ suc (n - (k + 1)) = omega (arith, less) in
    ap (λ l. prefixed l (read_times read (n - (k + 1)) after)) one ∙ sym (times_suc read (n - (k + 1)) items x rest after e) ∙ ap (λ m. prefixed items (read_times read m rest)) (sym count) ∙ is

each_suc : {A S : Type 0} (one : ℕ → S → Format A) (next : ℕ → S → A → S) (n : ℕ) (s : S) (items : List A) (x : A) (rest after : List ℕ) → (one n s).read rest ≡ done x after →
    prefixed items (read_each one next (suc n) s rest) ≡ prefixed (items ++ x ∷ []) (read_each one next n (next n s x) after)
each_suc one next n s items x rest after e = rw e (one_more items x (read_each one next n (next n s x) after))

-- one more was read, where each may depend on those before it
pub each_step : {A S : Type 0} (one : ℕ → S → Format A) (next : ℕ → S → A → S) (n k left : ℕ) (s t : S) (items more : List A) (x : A) (rest after : List ℕ) (whole : Parsed (List A)) → k < n → left + (k + 1) ≡ n →
    prefixed items (read_each one next (n - k) s rest) ≡ whole → (one left s).read rest ≡ done x after → more ≡ items ++ x ∷ [] → t ≡ next left s x → prefixed more (read_each one next (n - (k + 1)) t after) ≡ whole
each_step one next n k left s t items more x rest after whole less split is e one_item state =
    let count : n - k ≡ suc left = omega (arith, less, split) in
    let after_it : n - (k + 1) ≡ left = omega (arith, less, split) in
    ap (λ l. prefixed l (read_each one next (n - (k + 1)) t after)) one_item ∙ ap (λ m. prefixed (items ++ x ∷ []) (read_each one next m t after)) after_it
    ∙ ap (λ u. prefixed (items ++ x ∷ []) (read_each one next left u after)) state
    ∙ sym (each_suc one next left s items x rest after e) ∙ ap (λ m. prefixed items (read_each one next m s rest)) (sym count) ∙ is

halts_alike : {A B : Type 0} (e : Halt) (r : Parsed A) (f : A → List ℕ → Parsed B) → Halts e r → Halts e (r >>= f)
halts_alike (halt.Stop left) r f h = ap (λ x. x >>= f) h
halts_alike halt.Memory r f h = tt

-- nothing more was read
pub each_halt : {A S : Type 0} (one : ℕ → S → Format A) (next : ℕ → S → A → S) (n k left : ℕ) (s : S) (items : List A) (rest : List ℕ) (whole : Parsed (List A)) → k < n → left + (k + 1) ≡ n →
    prefixed items (read_each one next (n - k) s rest) ≡ whole → (e : Halt) → Halts e ((one left s).read rest) → Halts e whole
each_halt one next n k left s items rest whole less split is e h =
    let count : n - k ≡ suc left = omega (arith, less, split) in
    let all = ap (λ m. prefixed items (read_each one next m s rest)) (sym count) ∙ is in
    subst (Halts e) all
    (halts_alike e (read_each one next (suc left) s rest) (λ ys rest. done (items ++ ys) rest)
    (halts_alike e (read_and_then (one left s).read (λ x. read_each one next left (next left s x)) rest) (λ pair rest. done (pair.0 ∷ pair.1) rest)
    (halts_alike e ((one left s).read rest) (λ x mid. read_each one next left (next left s x) mid >>= (λ ys rest. done (after_one x ys) rest)) h)))

-- ---- writing

each_bytes-append : {A : Type 0} (bytes : A → List ℕ) (xs ys : List A) → each_bytes bytes (xs ++ ys) ≡ each_bytes bytes xs ++ each_bytes bytes ys
each_bytes-append bytes [] ys = refl
each_bytes-append bytes (x ∷ xs) ys = ap (λ l. bytes x ++ l) (each_bytes-append bytes xs ys) ∙ sym (append_assoc (bytes x) (each_bytes bytes xs) (each_bytes bytes ys))

-- one more was written
pub put_step : {A : Type 0} (bytes : A → List ℕ) (items : List A) (k : ℕ) (x : A) (before out more : List ℕ) → k < length items → get_or items k x ≡ x → out ≡ before ++ each_bytes bytes (take k items) → more ≡ out ++ bytes x →
    more ≡ before ++ each_bytes bytes (take (k + 1) items)
put_step bytes items k x before out more less is e put =
    let one : take (k + 1) items ≡ take k items ++ x ∷ [] = take_more items k x less ∙ ap (λ y. take k items ++ y ∷ []) is in
    let all = ap (each_bytes bytes) one ∙ each_bytes-append bytes (take k items) (x ∷ []) ∙ ap (λ l. each_bytes bytes (take k items) ++ l) (append-nil (bytes x)) in
    put ∙ ap (λ l. l ++ bytes x) e ∙ append_assoc before (each_bytes bytes (take k items)) (bytes x) ∙ ap (λ l. before ++ l) (sym all)
