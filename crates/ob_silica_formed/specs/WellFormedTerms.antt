-- Well-formed bodies of terms (Coblenz et al., TOPLAS 42(3), 2020, "Silica", where these are premises of the rules; the rest
-- is this project's own).
use Rattle.std.specs.Prelude.{◌≡◌, ◌≤◌, true, IsSomeAnd}
use Rattle.ob_base.specs.Limits.{most_slots}
use Rattle.ob_table.specs.Tables.{ClassTable, contract_at, signature_at}
use Rattle.ob_table_spec.specs.WellFormed.{StaticFrame, frame_of}
use Rattle.ob_silica.specs.Terms.{SilicaBody}
use Rattle.ob_silica.specs.Slots.{slots_of}
use Rattle.ob_silica_formed.specs.Holdings.{Holdings, held_at_start, terms_end, Each}
use Rattle.ob_silica_formed.specs.Points.{NamesWhatIsThere, HasKinds, TakesResult, LeavesParams, LosesNoReference, NamesBody, ReturnsResult, TakesTurns, NoneFollows}

-- Each number that a form names is that of something that there is. The slot of `this`, of a parameter, and each that a
-- form names, is below the number of the body's slots, of which there are few.
pub record HasNumbers (f : StaticFrame) (h : Holdings) (body : SilicaBody) : Type 0 where
  pub forms : Each NamesWhatIsThere f h body.terms
  pub slots : slots_of f.params body.terms ≤ body.slots
  pub few : body.slots ≤ most_slots

-- The body of a transaction or a constructor with this frame, where slots hold this at first.
pub record AreWellFormed (f : StaticFrame) (h : Holdings) (body : SilicaBody) : Type 0 where
  -- each number is in range
  pub numbers : HasNumbers f h body
  -- each constant is in range, each operand has the kind that its form needs, there are as many arguments as
  -- parameters, and no field is given twice
  pub kinds : Each HasKinds f h body.terms
  -- a call has a slot for its result exactly where there is a result
  pub results : Each TakesResult f h body.terms
  -- no form sets or drops `this` or a parameter's slot
  pub params : Each LeavesParams f h body.terms
  -- no form but a move sets a slot that on some way holds a reference
  pub references : Each LosesNoReference f h body.terms
  -- no call names a private transaction or a constructor, and no `new` an interface
  pub bodies : Each NamesBody f h body.terms
  -- a `return` has a place exactly where the body has a result, and its value serves as that
  pub returns : Each ReturnsResult f h body.terms
  -- each turn of a Loop takes a unit, and the end of its first part can be reached
  pub turns : Each TakesTurns f h body.terms
  -- each way ends in a `return` or a `revert`
  pub ends : terms_end body.terms ≡ true
  -- no form follows an end
  pub reached : NoneFollows body.terms

-- The terms of a body of a class table are well-formed.
abbrev pub IsWellFormedTerms : ClassTable → SilicaBody → Type 0
IsWellFormedTerms table body =
    IsSomeAnd (contract_at table body.contract)
    (λ own. IsSomeAnd (signature_at own body.tx)
    (λ s. AreWellFormed (frame_of table body.contract own s) (held_at_start body.contract s.params) body))
