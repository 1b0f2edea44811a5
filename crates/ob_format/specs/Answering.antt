-- What functions that read from the front of bytes answer, by what a format reads (this project's own).
use Rattle.std.specs.Prelude.{ℕ, ◌≡◌, List, Result, Ok, Err}
use Rattle.std.specs.Borrow.{Bor}
use Rattle.ob_format_spec.specs.Formats.{Parsed, done, stop}
use Rattle.ob_format.specs.declared.halt.Halt.{Halt}
use Rattle.ob_format.specs.declared.halt.Halt.TheVariants.{Stop, Memory}

-- why nothing was read. Where memory runs out nothing is said
abbrev pub Halts : {A : Type 0} → Halt → Parsed A → Type 0
Halts (Stop left) read = read ≡ stop left
Halts Memory read = Unit {0}

-- the value that was read and the bytes after it, or why nothing was
abbrev pub Answers : {A : Type 0} → Result (A × Bor (List ℕ)) Halt → Parsed A → Type 0
Answers (Ok x) read = read ≡ done x.0 x.1.now
Answers (Err e) read = Halts e read

-- something was read, with these bytes after it
abbrev pub Leaves : {A : Type 0} → List ℕ → Parsed A → Type 0
Leaves {A} rest read = (x : A) × (read ≡ done x rest)

-- the bytes after what was read, or why nothing was
abbrev pub AnswersRest : {A : Type 0} → Result (Bor (List ℕ)) Halt → Parsed A → Type 0
AnswersRest (Ok rest) read = Leaves rest.now read
AnswersRest (Err e) read = Halts e read
