-- What is read after a part: what `with` hands on of it.
use Rattle.std.proofs.Common.{◌≡◌, sym, ap, List, Result, Ok, Err}
use Rattle.std.specs.Borrow.{Bor}
use Rattle.ob_lexer.specs.declared.token.Token.{Token}
use Rattle.ob_parser_spec.specs.Readers.{Read, done}
use Rattle.ob_parser_expressions.specs.Answering.{Halts, Answers}
use Rattle.ob_parser_expressions.specs.declared.halt.Halt.{Halt}

pub next_done : {T A : Type 0} (view : T → A) (r : Result (T × Bor (List Token)) Halt) (read : Read A) (x : T) (rest : Bor (List Token)) → r ≡ Ok (x, rest) → Answers view r read → read ≡ done (view x) rest.now
next_done view (Ok y) read x rest is answers =
    let same : y ≡ (x, rest) = cc in
    rw (sym (ap (λ p. p.0) same), sym (ap (λ p. p.1) same)) answers
next_done view (Err f) read x rest is answers = absurd cc

pub next_halts : {T A : Type 0} (view : T → A) (r : Result (T × Bor (List Token)) Halt) (read : Read A) (e : Halt) → r ≡ Err e → Answers view r read → Halts e read
next_halts view (Ok y) read e is answers = absurd cc
next_halts view (Err f) read e is answers = rw (let back : e ≡ f = cc in back) answers
