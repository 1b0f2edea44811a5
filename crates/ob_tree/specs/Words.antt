-- The reserved words that denote permissions and the values of `bool` (the Obsidian language documentation,
-- "Permissions" and "Expressions").
use Rattle.std.specs.Prelude.{Bool, true, false, List, [], ◌∷◌}
use Rattle.ob_base.specs.declared.permission.Mode.{Mode}
use Rattle.ob_base.specs.declared.permission.Mode.TheVariants.{Owned, Shared, Unowned}
use Rattle.ob_lexer.specs.declared.token.Word.{Word}
use Rattle.ob_lexer.specs.declared.token.Word.TheVariants as word

-- every mode
abbrev pub modes : List Mode
modes = Owned ∷ Shared ∷ Unowned ∷ []

-- the word of a mode
abbrev pub word_of_mode : Mode → Word
word_of_mode Owned = word.Owned
word_of_mode Shared = word.Shared
word_of_mode Unowned = word.Unowned

-- `true` and `false`
abbrev pub word_of_bool : Bool → Word
word_of_bool true = word.True
word_of_bool false = word.False
