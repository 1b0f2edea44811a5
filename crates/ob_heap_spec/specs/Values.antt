-- The values of a run (the Obsidian language documentation, "Types").
use Rattle.std.specs.Prelude.{ℕ, ℤ, Bool, nat_eq, List, Option, Some, None, if◌then◌else◌}

-- a value: an `int`, a `bool`, a `string` by its bytes, or a reference to the object of a number
pub data Value : Type 0 where
  int_value : ℤ → Value
  bool_value : Bool → Value
  text_value : List ℕ → Value
  reference : ℕ → Value

-- the number of the object to which a value refers, if it is a reference
abbrev pub referred : Value → Option ℕ
referred (int_value z) = None
referred (bool_value b) = None
referred (text_value bytes) = None
referred (reference n) = Some n

-- things by number: at each number one, or none
abbrev pub Numbered : Type 0 → Type 0
Numbered A = ℕ → Option A

-- no thing at any number
abbrev pub nothing : {A : Type 0} → Numbered A
nothing = λ i. None

-- the same things, but at one number this one
abbrev pub put : {A : Type 0} → Numbered A → ℕ → A → Numbered A
put xs k x = λ i. if nat_eq i k then Some x else xs i
