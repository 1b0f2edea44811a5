use Rattle.std.proofs.Common.{sym, ◌∙◌}
use Rattle.ob_silica.specs.TermsView.{terms_of}
use Rattle.ob_silica_kinds.specs.Kinds.{kinds_of}
use Rattle.ob_silica_kinds.proofs.AskingLemmas.{slot_told}
use Rattle.ob_silica_kinds.proofs.heads.ask_slot.Goals as goal

pub returns-in-Some : goal.returns-in-Some
returns-in-Some c =
    slot_told (kinds_of c.args.left.now) c.args.frame.now c.in-Some.kind (terms_of c.args.first.now) (terms_of c.args.body.now) (kinds_of c.args.slots.now)
    c.args.slot c.ask_turn.result c.told.result c.requires (sym c.kind_in.ensures ∙ c.in-Some.is) c.ask_turn.ensures c.told.ensures
