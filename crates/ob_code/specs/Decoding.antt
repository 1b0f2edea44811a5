-- What decoding answers (this project's own).
use Rattle.std.specs.Prelude.{ℕ, List, Result, Ok, Err, ⊤}
use Rattle.ob_format_spec.specs.Formats.{Format, Spells, FailsAt}
use Rattle.ob_code.specs.declared.error.CodeError.{CodeError}
use Rattle.ob_code.specs.declared.error.CodeError.TheVariants.{BadImage, Memory}

-- The value that the bytes spell; or the first offset at which no value goes on. Where memory runs out nothing is said.
abbrev pub Decodes : {A : Type 0} → Format A → Result A CodeError → List ℕ → Type 0
Decodes f (Ok x) bytes = Spells f x bytes
Decodes f (Err (BadImage offset)) bytes = FailsAt f bytes offset
Decodes f (Err Memory) bytes = ⊤
