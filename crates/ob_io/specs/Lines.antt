-- What a reader of lines holds, and what comes next.
use Rattle.std.specs.Prelude.{ℕ, ◌≡◌, ◌+◌, ◌-◌, ◌<◌, ◌≤◌, Bool, true, false, ◌==◌, List, [], ◌∷◌, ◌++◌, length, slice_range, ⊤, Option}
use Rattle.std.specs.List.{list_any}
use Rattle.std.specs.Io.KnownBytes.{prepend_known}
use Rattle.ob_base.specs.Limits.{longest_line, most_taken}
use Rattle.ob_io.specs.Told.{Takes, TakesFrom, IsEnd}
use Rattle.ob_io.specs.Views.{SourceView}
use Rattle.ob_io.specs.declared.lines.Lines.{Lines}
use Rattle.ob_io.specs.declared.lines.Next.{Next}
use Rattle.ob_io.specs.declared.lines.Next.TheVariants.{Line, LongLine, End, Fault, Limit}

-- the bytes that were taken and not yet handed on
abbrev pub held : Lines → List ℕ
held lines = slice_range lines.buffer.items lines.start lines.end

-- how many bytes were taken: those that were handed on, and those that are held
abbrev pub taken : Lines → ℕ
taken lines = lines.taken

-- how many bytes were handed on
abbrev pub handed : Lines → ℕ
handed lines = taken lines - (lines.end - lines.start)

-- all that is still to come, where the source's bytes are observable
abbrev pub pending : Lines → Option (List ℕ) → Option (List ℕ)
pending lines left = prepend_known (held lines) left

-- whether the end was reached
abbrev pub has_ended : Lines → Bool
has_ended lines = lines.ended

-- whether a newline is among the bytes
abbrev pub has_newline : List ℕ → Bool
has_newline bytes = list_any (λ b. b == 10) bytes

-- the bytes of a line with its newline, or of the last line, which has none
abbrev pub IsLine : Bool → List ℕ → List ℕ → Type 0
IsLine false line bytes = bytes ≡ line ++ 10 ∷ []
IsLine true line bytes = (bytes ≡ line) × (0 < length line)

-- what `next` answers, whether the text has ended, the line, and the bytes that were handed on
abbrev pub IsNext : Next → Bool → List ℕ → List ℕ → Type 0
IsNext Line ended line bytes = (has_newline line ≡ false) × (length line ≤ longest_line) × IsLine ended line bytes
IsNext LongLine ended line bytes =
    (long : List ℕ) × (has_newline long ≡ false) × (longest_line < length long) × IsLine ended long bytes
IsNext End ended line bytes = (ended ≡ true) × (bytes ≡ [])
IsNext Fault ended line bytes = (ended ≡ false) × (has_newline bytes ≡ false)
IsNext Limit ended line bytes = (ended ≡ false) × (has_newline bytes ≡ false)

-- some bytes were handed on, and they are these
abbrev pub HandsOn : Lines → Lines → Option (List ℕ) → Option (List ℕ) → (List ℕ → Type 0) → Type 0
HandsOn old new left now P =
    (bytes : List ℕ) × Takes (pending old left) (pending new now) bytes × (handed new ≡ handed old + length bytes) × P bytes

-- what a reader took of its source, it counts
abbrev pub CountsTaken : Lines → Lines → SourceView → SourceView → Type 0
CountsTaken old new source now =
    (bytes : List ℕ) × TakesFrom source now bytes × (taken new ≡ taken old + length bytes)

-- a text that is said to have ended has
abbrev pub EndIsTold : Lines → Option (List ℕ) → Type 0
EndIsTold lines left = has_ended lines ≡ true → IsEnd (pending lines left)

-- a line so far, of which part has come: it is dropped once it is too long
abbrev pub IsSoFar : Bool → List ℕ → List ℕ → Type 0
IsSoFar true line part = (line ≡ []) × (longest_line < length part)
IsSoFar false line part = (line ≡ part) × (length part ≤ longest_line)

-- nothing is held: all that was taken was handed on
abbrev pub HoldsNothing : Lines → Type 0
HoldsNothing lines = (held lines ≡ []) × (handed lines ≡ taken lines)

-- at a stop nothing is held
abbrev pub HoldsAtStop : Next → Lines → Type 0
HoldsAtStop Line lines = ⊤
HoldsAtStop LongLine lines = ⊤
HoldsAtStop End lines = HoldsNothing lines
HoldsAtStop Fault lines = HoldsNothing lines
HoldsAtStop Limit lines = HoldsNothing lines

-- how many bytes were handed on, at each answer
abbrev pub IsWithin : Next → ℕ → Type 0
IsWithin Line count = count ≤ most_taken
IsWithin LongLine count = count ≤ most_taken
IsWithin End count = count < most_taken
IsWithin Fault count = count < most_taken
IsWithin Limit count = count ≡ most_taken
