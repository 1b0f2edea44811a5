-- An accepted text is a program as the laws on programs want it.
use native.Mathlib.Omega.{arith}
use Rattle.std.proofs.Common.{◌≡◌, ◌≤◌, ℕ, List, [], ◌∷◌, map, Option, Some, None, refl, ap, ◌∙◌, sym, subst}
use Rattle.std.specs.Prelude.{All, IsSomeAnd}
use Rattle.std.proofs.lemmas.List.Elements.{All-cons}
use Rattle.ob_table.specs.Statements.{ResolvedBody}
use Rattle.ob_base.specs.Limits.{most_weight}
use Rattle.ob_base.specs.declared.id.ContractId.{ContractId}
use Rattle.ob_base.specs.declared.id.TxId.{TxId}
use Rattle.ob_table.specs.Tables.{ClassTable, contract_at, signature_at}
use Rattle.ob_table.specs.declared.contract.Contract.{Contract}
use Rattle.ob_table.specs.declared.contract.Signature.{Signature}
use Rattle.ob_table_spec.specs.Conditions.{IsClassTable}
use Rattle.ob_table_spec.specs.WellFormed.{place_of_body}
use Rattle.ob_silica.specs.Terms.{SilicaBody}
use Rattle.ob_silica_formed.specs.WellFormedTerms.{IsWellFormedTerms}
use Rattle.ob_lower_spec.specs.BodyTerms.{Lowers, LowersWith, AllLower}
use Rattle.ob_lower_formed.specs.Law.{HasFewSlots}
use Rattle.ob_lower_formed.proofs.Law.{lowering_makes_all_well}
use Rattle.ob_lower_functions.proofs.Bodies.{gives_terms}
use Rattle.ob_front.specs.Lowered.{AreLoweredTo}
use Rattle.ob_front.specs.Programs.{IsChecked, IsProgram, HasTextFault}
use Rattle.ob_base.specs.TextErrors.{OnFault}
use Rattle.ob_base.specs.declared.text_error.TextError.{TextError}
use Rattle.ob_code.specs.Images.{image as image_format}
use Rattle.ob_code.specs.declared.image.Image.{Image}
use Rattle.ob_emit_spec.specs.Weights.{weight, IsTooHeavy}
use Rattle.ob_silica.specs.TermsView.{silica_body_of}
use Rattle.ob_silica.specs.declared.body.TermBody.{TermBody}
use Rattle.ob_front.specs.Compiled.{IsCompiledProgram, IsSoundProgram, HasSoundCode}
use Rattle.ob_emit_spec.specs.EmittedImages.{image_of}
use Rattle.ob_weight_laws.specs.Bodies.{place_of_terms, StandInOrder}
use Rattle.ob_sound_code.proofs.Whole.{compiled_code_sound}
use Rattle.ob_soundness_laws.proofs.Together.{compiled_sound}
use Rattle.ob_soundness_laws.proofs.remaining.Programs.{lowered_has_terms}
use Rattle.ob_silica_steps.specs.Configurations.{SilicaProgram}
use Rattle.ob_verify_spec.specs.Verified.{IsVerified}
use Rattle.ob_emit_verified.proofs.Programs.{code_is_verified, checked_formed}
use Rattle.ob_front.proofs.StagesLaws.{well_formed}
use Rattle.ob_front.proofs.ProgramsLaws.{all_numbered, weight_told}

-- bodies may be lowered to their terms
all_lower : (table : ClassTable) (bs : List ResolvedBody) (ls : List SilicaBody) → AreLoweredTo table bs ls → AllLower table bs ls
all_lower table [] [] lowered = tt
all_lower table [] (l ∷ ls) lowered = absurd lowered
all_lower table (b ∷ bs) [] lowered = absurd lowered
all_lower table (b ∷ bs) (l ∷ ls) lowered = ((gives_terms table b l lowered.0).lowers, all_lower table bs ls lowered.1)

-- and these have few slots
all_few : (table : ClassTable) (bs : List ResolvedBody) (ls : List SilicaBody) → AreLoweredTo table bs ls → All HasFewSlots ls
all_few table [] [] lowered = λ k d h. absurd (omega (arith, h))
all_few table [] (l ∷ ls) lowered = absurd lowered
all_few table (b ∷ bs) [] lowered = absurd lowered
all_few table (b ∷ bs) (l ∷ ls) lowered =
    All-cons HasFewSlots l ls (gives_terms table b l lowered.0).few (all_few table bs ls lowered.1)

pub checked_texts_are_compiled : (text : List ℕ) (table : ClassTable) (bodies : List SilicaBody) → IsChecked text table bodies
    → IsCompiledProgram table bodies
checked_texts_are_compiled text table bodies is =
    let known = well_formed text table is.terms.has in
    let lower = all_lower table table.bodies bodies is.terms.lowered in
    record {
      lowered = record { table = known.conditions; well_formed = known.bodies; lowered = lower };
      each = known.each;
      checked = λ k d lt. record {
        well_formed = lowering_makes_all_well table table.bodies bodies known.bodies lower (all_few table table.bodies bodies is.terms.lowered) k d lt;
        derives = is.derive k d lt;
      };
      states = all_numbered text table bodies is.terms;
    }

-- such a program is sound
pub compiled_is_sound : (table : ClassTable) (bodies : List SilicaBody) → IsCompiledProgram table bodies → IsSoundProgram table bodies
compiled_is_sound table bodies is = compiled_sound table bodies is.lowered is.each is.checked

-- and its code is
pub compiled_has_sound_code : (table : ClassTable) (bodies : List SilicaBody) → IsCompiledProgram table bodies
    → HasSoundCode table bodies (image_of table bodies)
compiled_has_sound_code table bodies is = compiled_code_sound table bodies is.lowered is.each is.checked

-- and verified
pub emitted_verified : (table : ClassTable) (bodies : List SilicaBody) → IsCompiledProgram table bodies → IsVerified (image_of table bodies)
emitted_verified table bodies is =
    let program : SilicaProgram = record { table = table; bodies = bodies } in
    code_is_verified program (checked_formed program (record {
      table = is.lowered.table;
      terms = lowered_has_terms program is.each is.lowered.lowered;
      bodies = is.checked;
    }))

-- the place of the terms of a body is that of the body
same_place : (table : ClassTable) (b : ResolvedBody) (l : SilicaBody) → Lowers table b l → place_of_terms l ≡ place_of_body b
same_place table b l x = by_contract (contract_at table b.contract) x
  where
    by_signature : (own : Contract) (o : Option Signature) → IsSomeAnd o (λ s. LowersWith table own s b l) → place_of_terms l ≡ place_of_body b
    by_signature own None x = absurd x
    by_signature own (Some s) x =
        ap (λ (c : ContractId). (c.0, l.tx.0)) x.contract ∙ ap (λ (t : TxId). (b.contract.0, t.0)) x.tx

    by_contract : (o : Option Contract) → IsSomeAnd o (λ own. IsSomeAnd (signature_at own b.tx) (λ s. LowersWith table own s b l))
        → place_of_terms l ≡ place_of_body b
    by_contract None x = absurd x
    by_contract (Some own) x = by_signature own (signature_at own b.tx) x

same_places : (table : ClassTable) (bs : List ResolvedBody) (ls : List SilicaBody) → AllLower table bs ls → map place_of_terms ls ≡ map place_of_body bs
same_places table [] [] lower = refl
same_places table [] (l ∷ ls) lower = absurd lower
same_places table (b ∷ bs) [] lower = absurd lower
same_places table (b ∷ bs) (l ∷ ls) lower =
    ap (λ p. p ∷ map place_of_terms ls) (same_place table b l lower.0) ∙ ap (λ ps. place_of_body b ∷ ps) (same_places table bs ls lower.1)

-- its terms stand in the order of the table
pub terms_in_order : (table : ClassTable) (bodies : List SilicaBody) → IsCompiledProgram table bodies → StandInOrder table bodies
terms_in_order table bodies is = same_places table table.bodies bodies is.lowered.lowered ∙ is.each

-- ---- the same, where emission is asked of a slice of the bodies

module _ (text : List ℕ) (table : ClassTable) (bodies slice : List TermBody) (is : IsChecked text table (map silica_body_of bodies)) (whole : slice ≡ bodies) where
  compiled : IsCompiledProgram table (map silica_body_of bodies)
  compiled = checked_texts_are_compiled text table (map silica_body_of bodies) is

  pub slice_in_order : StandInOrder table (map silica_body_of slice)
  slice_in_order = subst (λ bs. StandInOrder table (map silica_body_of bs)) (sym whole) (terms_in_order table (map silica_body_of bodies) compiled)

  pub slice_program : weight table (map silica_body_of slice) ≤ most_weight → IsProgram text table (map silica_body_of bodies)
  slice_program light = record { checked = is; light = subst (λ bs. weight table (map silica_body_of bs) ≤ most_weight) whole light }

  pub slice_too_heavy : (cause : TextError) → OnFault cause (IsTooHeavy table (map silica_body_of slice)) → OnFault cause (HasTextFault text)
  slice_too_heavy cause told =
      weight_told text table (map silica_body_of bodies) cause is
      (subst (λ bs. OnFault cause (IsTooHeavy table (map silica_body_of bs))) whole told)

  pub slice_fits : (made : Image)
      → (IsClassTable table → All (IsWellFormedTerms table) (map silica_body_of slice) → image_format.fits made)
      → image_format.fits made
  slice_fits made fits =
      fits compiled.lowered.table (subst (λ bs. All (IsWellFormedTerms table) (map silica_body_of bs)) (sym whole)
      (λ k d lt. (compiled.checked k d lt).well_formed))

  module _ (image : Image) (emitted : image ≡ image_of table (map silica_body_of slice)) where
    pub slice_image : image ≡ image_of table (map silica_body_of bodies)
    slice_image = emitted ∙ ap (λ bs. image_of table (map silica_body_of bs)) whole

    pub slice_verified : IsVerified image
    slice_verified = subst IsVerified (sym slice_image) (emitted_verified table (map silica_body_of bodies) compiled)

    pub slice_sound_code : HasSoundCode table (map silica_body_of bodies) image
    slice_sound_code = subst (HasSoundCode table (map silica_body_of bodies)) (sym slice_image) (compiled_has_sound_code table (map silica_body_of bodies) compiled)
