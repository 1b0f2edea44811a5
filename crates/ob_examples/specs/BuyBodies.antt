-- A body of the vending machine's `buy` that is well-formed, and bodies that aren't, each by one point (this project's own).
use Rattle.std.specs.Prelude.{pos, ◌^◌, [], ◌∷◌, Some}
use Rattle.ob_examples.specs.Written.{contract_number}
use Rattle.ob_silica.specs.Terms.{const_form, move_form, drop_form, return_form, no_terms, SilicaBody}
use Rattle.ob_silica.specs.declared.place.Constant.TheVariants.{Int}
use Rattle.ob_silica.specs.declared.place.Place.TheVariants.{Slot}
use Rattle.ob_examples.specs.WrittenTerms.{field_on, slot_on, on, terms_body}
use Rattle.ob_examples.specs.VendingMachineTerms.{buy_terms}

-- the body as it is lowered
abbrev pub buy_lowered : SilicaBody
buy_lowered = terms_body 2 1 buy_terms 6

-- the same with a slot too few
abbrev pub buy_short : SilicaBody
buy_short = terms_body 2 1 buy_terms 5

-- `candy` is given back, but before the parameter's slot is dropped
abbrev pub buy_dropping : SilicaBody
buy_dropping = terms_body 2 1 (on 14 (drop_form 1 ∷ return_form (Some (field_on 0 14)) ∷ []) no_terms) 2

-- a number is put where a candy is
abbrev pub buy_losing : SilicaBody
buy_losing =
    terms_body 2 1
    (on 15
    (move_form (Slot 2) (field_on 0 15) (Some (contract_number 1)) ∷ const_form 2 (Int (pos 1))
    ∷ return_form (Some (field_on 0 15)) ∷ [])
    no_terms) 3

-- 2^63, which is no `int`, is put in a slot
abbrev pub buy_large : SilicaBody
buy_large =
    terms_body 2 1 (on 15 (const_form 2 (Int (pos (2 ^ 63))) ∷ return_form (Some (field_on 0 15)) ∷ []) no_terms) 3

-- the coin is given back in place of a candy
abbrev pub buy_returning : SilicaBody
buy_returning = terms_body 2 1 (on 18 (return_form (Some (slot_on 1 18)) ∷ []) no_terms) 2
