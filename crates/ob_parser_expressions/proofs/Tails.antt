-- Functions that end with what another function answers.
use Rattle.std.proofs.Common.{ℕ, ◌≡◌, ◌∙◌, ap, true, List, [], Some, map, Result, Ok, Err, refl}
use Rattle.std.specs.Borrow.{Bor}
use Rattle.ob_base.specs.declared.fault.Span.{Span}
use Rattle.ob_lexer.specs.declared.token.Token.{Token}
use Rattle.ob_lexer.specs.declared.token.Sign.{Sign}
use Rattle.ob_parser_spec.specs.Symbols.{a_sign}
use Rattle.ob_parser_spec.specs.Readers.{Read, done, stop, deep, Reader, ◌>>=◌, begin_with, span_if, read_token, read_as, read_maybe, read_many}
use Rattle.ob_parser_spec.specs.NameReaders.{read_item}
use Rattle.ob_parser_spec.specs.MemberReaders.{list_of}
use Rattle.ob_parser_expressions.specs.Answering.{Halts, Answers, prefixed}
use Rattle.ob_parser_expressions.specs.declared.halt.Halt.{Halt}
use Rattle.ob_parser_expressions.proofs.Halts.{halts_bind}
use Rattle.ob_parser_expressions.proofs.Loops.{halts_more}

-- something made of what another reads
pub made_answer : {T A B : Type 0} (view : T → A) (other : T → B) (r : Result (T × Bor (List Token)) Halt) (read : Read A) (then : A → List Token → Read B) → ((t : T) (rest : List Token) → then (view t) rest ≡ done (other t) rest) → Answers view r read → Answers other r (read >>= then)
made_answer view other (Ok x) read then same is = ap (λ l. l >>= then) is ∙ same x.0 x.1.now
made_answer view other (Err e) read then same is = halts_bind e read then is

-- a row after a sign
pub item_answer : {T A : Type 0} (view : T → A) (s : Sign) (p : Reader A) (r : Result (T × Bor (List Token)) Halt) (ts rest : List Token) (x : Span) → read_token (span_if (a_sign s)) ts ≡ done x rest → Answers view r (p rest) → Answers view r (read_item s p ts)
item_answer view s p r ts rest x e is =
    rw e (made_answer (λ t. (x, view t)) view r (p rest >>= (λ y left. done (x, y) left)) (λ pair left. done pair.1 left) (λ t left. refl)
    (made_answer view (λ t. (x, view t)) r (p rest) (λ y left. done (x, y) left) (λ t left. refl) is))

-- a list that isn't left out
pub list_answer : {T A : Type 0} (view : T → List A) (kinds : List ℕ) (p : Reader (List A)) (r : Result (T × Bor (List Token)) Halt) (ts : List Token) → begin_with kinds ts ≡ true → Answers view r (p ts) → Answers view r (read_as list_of (read_maybe kinds p) ts)
list_answer view kinds p r ts does is =
    rw does (made_answer (λ t. Some (view t)) view r (p ts >>= (λ x rest. done (Some x) rest)) (λ o rest. done (list_of o) rest) (λ t rest. refl)
    (made_answer view (λ t. Some (view t)) r (p ts) (λ x rest. done (Some x) rest) (λ t rest. refl) is))

-- where the next row of a loop isn't read, the whole isn't
pub halts_in : {A : Type 0} (kinds : List ℕ) (p : Reader A) (xs : List A) (ts : List Token) (e : Halt) (whole : Read (List A)) → whole ≡ prefixed xs (read_many kinds p ts) → begin_with kinds ts ≡ true → Halts e (p ts) → Halts e whole
halts_in kinds p xs ts e whole same does is = rw same (halts_more kinds p xs ts e does is)

-- before a loop nothing has been read
nothing_before : {A : Type 0} (read : Read (List A)) → read ≡ prefixed [] read
nothing_before (done xs rest) = refl
nothing_before (stop rest) = refl
nothing_before (deep rest) = refl

pub begun_as : {T A : Type 0} (view : T → A) (xs : List T) (read : Read (List A)) → xs ≡ [] → read ≡ prefixed (map view xs) read
begun_as view xs read none = rw none (nothing_before read)
