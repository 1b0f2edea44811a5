-- What decoding answers, by what the reader of a lawful format says.
use Rattle.std.proofs.Common.{ℕ, ◌≡◌, ◌-◌, ◌==◌, true, false, List, length, sym, ap, subst, ◌∙◌, Err}
use Rattle.ob_format_spec.specs.Formats.{done, Format, Spells, FailsAt}
use Rattle.ob_format_spec.specs.Lawful.{AreBytes, Lawful}
use Rattle.ob_format_spec.proofs.Failing.{whole, fails_after, fails_stop, nothing_left, something_left}
use Rattle.ob_format.specs.Answering.{Halts}
use Rattle.ob_format.specs.declared.halt.Halt.{Halt}
use Rattle.ob_format.specs.declared.halt.Halt.TheVariants.{Stop}
use Rattle.ob_code.specs.declared.error.CodeError.{CodeError}
use Rattle.ob_code.specs.declared.error.CodeError.TheVariants.{BadImage}
use Rattle.ob_code.specs.Decoding.{Decodes}

module _ {A : Type 0} (f : Format A) (a : Lawful f) (bytes : List ℕ) (all : AreBytes bytes) where
  -- an answer that fails at this offset
  fails_as : (e : CodeError) (offset : ℕ) → e ≡ BadImage offset → FailsAt f bytes offset → Decodes f (Err e) bytes
  fails_as e offset is fails = let P : CodeError → Type 0 = λ e. Decodes f (Err e) bytes in subst P (sym is) fails

  pub decodes_done : (x : A) (rest : List ℕ) → (length rest == 0) ≡ true → f.read bytes ≡ done x rest → Spells f x bytes
  decodes_done x rest none e = whole f a bytes all x (e ∙ ap (λ l. done x l) (nothing_left rest none))

  pub decodes_more : (x : A) (rest : List ℕ) (e : CodeError) → (length rest == 0) ≡ false → f.read bytes ≡ done x rest → e ≡ BadImage (length bytes - length rest) → Decodes f (Err e) bytes
  decodes_more x rest e some is bad = fails_as e (length bytes - length rest) bad (fails_after f a bytes all x rest (something_left rest some) is)

  pub decodes_stop : (h : Halt) (left : ℕ) (e : CodeError) → h ≡ Stop left → Halts h (f.read bytes) → e ≡ BadImage (length bytes - left) → Decodes f (Err e) bytes
  decodes_stop h left e same is bad =
      let P : Halt → Type 0 = λ h. Halts h (f.read bytes) in
      fails_as e (length bytes - left) bad (fails_stop f a bytes all left (subst P same is))
