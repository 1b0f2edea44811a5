-- One more call is noted.
use Rattle.std.proofs.Common.{◌≡◌, Bool, true, false, List, [], ◌∷◌, ◌++◌, map, ◌∙◌, ap}
use Rattle.std.proofs.lemmas.List.{map-append}
use Rattle.ob_io_std.specs.Calls.{Adds}
use Rattle.ob_conformance.specs.declared.noted.Made.{Made}
use Rattle.ob_conformance.specs.Noted.{call_of, told}

pub noted : (notes_all : Bool) (made later : List Made) (one : Made) → later ≡ made ++ one ∷ [] → Adds (told notes_all made) (told notes_all later) (call_of one ∷ [])
noted true made later one is = ap (map call_of) is ∙ map-append call_of made (one ∷ [])
noted false made later one is = tt
