-- What holds of a result holds of another as far as it follows.
use Rattle.std.proofs.Common.{Result, Ok, Err}
use Rattle.std.specs.Prelude.{IfOk, IfErr}

pub all_ok : {A E : Type 0} (P Q : A → Type 0) (r : Result A E) → ((a : A) → P a → Q a) → IfOk r P → IfOk r Q
all_ok P Q (Ok a) f h = f a h
all_ok P Q (Err e) f h = h

pub all_err : {A E : Type 0} (P Q : E → Type 0) (r : Result A E) → ((e : E) → P e → Q e) → IfErr r P → IfErr r Q
all_err P Q (Ok a) f h = h
all_err P Q (Err e) f h = f e h
