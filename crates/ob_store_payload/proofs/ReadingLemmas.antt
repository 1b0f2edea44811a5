-- Bytes that are read to the end say what is read, if it may be said of a content; all others say nothing of it.
use Rattle.std.proofs.Common.{◌≡◌, ◌∙◌, ◌==◌, ℕ, true, false, List, [], length, Err, sym, ap, subst}
use Rattle.std.specs.Prelude.{All}
use Rattle.std.proofs.lemmas.List.Elements.{All-weaker}
use Rattle.ob_table.specs.Tables.{ClassTable}
use Rattle.ob_format_spec.specs.Formats.{done}
use Rattle.ob_format_spec.specs.Lawful.{AreBytes}
use Rattle.ob_format_spec.proofs.CombinatorLaws.{done_parts}
use Rattle.ob_format_spec.proofs.Failing.{whole, reads, nothing_left, something_left}
use Rattle.ob_heap_spec.specs.Contents.{Content}
use Rattle.ob_store_spec.specs.Payloads.{Changes, payload}
use Rattle.ob_store_spec.specs.Changes.{with_changes, IsHandleChange, AreChangesOf, SaysChanges}
use Rattle.ob_store_spec.proofs.PayloadLaws.{payload_lawful}
use Rattle.ob_store_payload.specs.declared.error.PayloadError.{PayloadError}
use Rattle.ob_store_payload.specs.declared.error.PayloadError.TheVariants.{Bad, Memory}
use Rattle.ob_store_payload.specs.Answering.{AnswersOnly, IsLabelled}

module _ (table : ClassTable) (base : Content) (bytes : List ℕ) where
  -- the bytes say nothing of the content
  abbrev pub SayNothing : Type 0
  SayNothing = (changes : Changes) → ¬ (SaysChanges table base changes bytes)

  pub says : AreBytes bytes → (changes : Changes) (rest : List ℕ) → (length rest == 0) ≡ true → (payload table).read bytes ≡ done changes rest → AreChangesOf table base changes → SaysChanges table base changes bytes
  says all changes rest none read are = record {
    are_changes = are;
    spelled = whole (payload table) (payload_lawful table) bytes all changes (read ∙ ap (λ l. done changes l) (nothing_left rest none));
  }

  -- what they say is what is read of them, and nothing is left
  is_read : (found : Changes) (rest : List ℕ) → (payload table).read bytes ≡ done found rest → (changes : Changes) → SaysChanges table base changes bytes → (changes ≡ found) × ([] ≡ rest)
  is_read found rest read changes said = done_parts changes found [] rest (sym (reads (payload table) (payload_lawful table) changes bytes said.spelled) ∙ read)

  pub none_with_more : (found : Changes) (rest : List ℕ) → (length rest == 0) ≡ false → (payload table).read bytes ≡ done found rest → SayNothing
  none_with_more found rest some read changes said = something_left rest some (sym (is_read found rest read changes said).1)

  pub none_unsaid : (found : Changes) (rest : List ℕ) → (payload table).read bytes ≡ done found rest → ¬ (AreChangesOf table base found) → SayNothing
  none_unsaid found rest read unsaid changes said = unsaid (subst (AreChangesOf table base) (is_read found rest read changes said).0 said.are_changes)

  are_named : (changes : Changes) → AreChangesOf table base changes → All IsLabelled changes.handles
  are_named changes are =
      All-weaker (IsHandleChange (length (with_changes table base changes).objects)) IsLabelled (λ h is. (is.who, is.name)) changes.handles are.handles

  pub none_read : {A : Type 0} (plain : A → Changes) (e : PayloadError) → AnswersOnly plain (λ c. All IsLabelled c.handles) (Err e) ((payload table).read bytes) → e ≡ Bad → SayNothing
  none_read plain Bad answer is =
      λ changes said. answer changes [] (reads (payload table) (payload_lawful table) changes bytes said.spelled) (are_named changes said.are_changes)
  none_read plain Memory answer is = absurd cc
