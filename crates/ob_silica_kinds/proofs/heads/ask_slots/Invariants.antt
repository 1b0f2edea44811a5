use Rattle.std.proofs.Common.{◌≡◌, ◌++◌, drop}
use Rattle.ob_silica.specs.TermsView.{terms_of}
use Rattle.ob_silica_kinds.specs.Kinds.{kinds_of, common_list, kinds_turned}
use Rattle.ob_silica_kinds.proofs.heads.ask_slots.Given as goal

abbrev pub invariant-loop-slot : goal.invariant-loop-slot
invariant-loop-slot l =
    l.kinds ++ common_list (drop l.slot l.slots) (kinds_turned l.frame (terms_of l.first) (terms_of l.body) (kinds_of l.slots)) l.slot
    ≡ common_list l.slots (kinds_turned l.frame (terms_of l.first) (terms_of l.body) (kinds_of l.slots)) 0
