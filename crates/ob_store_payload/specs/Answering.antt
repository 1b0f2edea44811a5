-- What functions that read a part of a payload answer, by what its format reads (this project's own).
use Rattle.std.specs.Prelude.{ℕ, ◌≡◌, Bool, true, false, List, Option, Result, Ok, Err, IsTrue}
use Rattle.std.specs.Borrow.{Bor}
use Rattle.ob_base.specs.Names.{is_label}
use Rattle.ob_base.specs.declared.id.FieldId.{FieldId}
use Rattle.ob_format_spec.specs.Formats.{Parsed, done}
use Rattle.ob_format.specs.Answering.{Halts}
use Rattle.ob_format.specs.declared.halt.Halt.{Halt}
use Rattle.ob_heap.specs.declared.value.Value.{Value}
use Rattle.ob_heap.specs.Fields.{with_value}
use Rattle.ob_heap.specs.Plain.{value_of}
use Rattle.ob_heap_spec.specs.Contents.{HandleName, Handle}
use Rattle.ob_store_spec.specs.Payloads.{value}
use Rattle.ob_store_payload.specs.declared.error.PayloadError.{PayloadError}
use Rattle.ob_store_payload.specs.declared.error.PayloadError.TheVariants.{Bad, Memory}

-- what was read, as plain data, and the bytes after it, or why nothing was
abbrev pub AnswersAs : {A P : Type 0} → (A → P) → Result (A × Bor (List ℕ)) Halt → Parsed P → Type 0
AnswersAs plain (Ok x) read = read ≡ done (plain x.0) x.1.now
AnswersAs plain (Err e) read = Halts e read

-- the same where things of one sort alone are wanted: `Bad` where nothing is read, or something of another sort
abbrev pub AnswersOnly : {A P : Type 0} → (A → P) → (P → Type 0) → Result (A × Bor (List ℕ)) PayloadError → Parsed P → Type 0
AnswersOnly plain wanted (Ok x) read = read ≡ done (plain x.0) x.1.now
AnswersOnly {A} {P} plain wanted (Err Bad) read = (p : P) (rest : List ℕ) → read ≡ done p rest → ¬ (wanted p)
AnswersOnly plain wanted (Err Memory) read = Unit {0}

-- a handle's name, or that of one removed, is two labels
abbrev pub IsLabelled : HandleName × Option Handle → Type 0
IsLabelled h = IsTrue (is_label h.0.who) × IsTrue (is_label h.0.name)

-- what reading the value of a field at a place has made of an object's fields, where the field is available or isn't
abbrev pub AnswersField : Bool → ℕ → List (FieldId × Value) → List (FieldId × Value) → List ℕ → Result (Bor (List ℕ)) Halt → Type 0
AnswersField true place old new bytes (Ok rest) =
    (v : Value) × (value.read bytes ≡ done (value_of v) rest.now) × (new ≡ with_value (record { 0 = place }) v old)
AnswersField true place old new bytes (Err e) = Halts e (value.read bytes)
AnswersField false place old new bytes (Ok rest) = (rest.now ≡ bytes) × (new ≡ old)
AnswersField false place old new bytes (Err e) = ⊥
