use Rattle.std.proofs.Common.{◌∙◌, sym, ap}
use Rattle.std.specs.Prelude.{option_map}
use Rattle.ob_heap.specs.Contents.{content_of}
use Rattle.ob_invocation_spec.specs.Handles.{handle_name}
use Rattle.ob_invocation_spec.specs.Invocation.{show_owner_of}
use Rattle.ob_code_table.specs.ImageTables.{table_of_image}
use Rattle.ob_owners.specs.Spots.{place_of}
use Rattle.ob_exec_handles.proofs.InvokingLemmas.{comes_without}
use Rattle.ob_exec_handles.proofs.ShowingLemmas.{owns, owns_nothing, owns_unshown}
use Rattle.ob_exec_handles.proofs.owning.owner.Goals as goal

pub returns-in_default : goal.returns-in_default
returns-in_default g c =
    comes_without c.args.base.now (handle_name c.args.who.now c.args.on.now) (show_owner_of (table_of_image c.args.code.now) (content_of c.args.base.now))
    c.refused.result.answer c.refused.result.delta (sym c.handle.ensures ∙ c.in_default.is) c.refused.ensures.told (c.refused.ensures.same c.args.base.now)

pub returns-in_default-2 : goal.returns-in_default-2
returns-in_default-2 g c =
    owns_nothing (table_of_image c.args.code.now) c.args.base.now (handle_name c.args.who.now c.args.on.now) c.in-Some.handle
    c.unchanged.result.answer c.unchanged.result.delta (sym c.handle.ensures ∙ c.in-Some.is)
    (ap (option_map place_of) (sym c.in_default-2.is) ∙ c.in_ok-spot.ensures ∙ c.requires.index c.in-Some.handle.object.0)
    c.unchanged.ensures.told (c.unchanged.ensures.same c.args.base.now)

pub unreachable-requires : goal.unreachable-requires
unreachable-requires g c =
    owns_unshown (table_of_image c.args.code.now) c.args.base.now (handle_name c.args.who.now c.args.on.now) c.in-Some.handle (place_of c.in-Some-2.spot)
    (sym c.handle.ensures ∙ c.in-Some.is)
    (ap (option_map place_of) (sym c.in-Some-2.is) ∙ c.in_ok-spot.ensures ∙ c.requires.index c.in-Some.handle.object.0)
    (sym c.in-None.is ∙ c.in_ok-outcome.ensures) c.requires.limits

pub returns : goal.returns
returns g c =
    owns (table_of_image c.args.code.now) c.args.base.now (handle_name c.args.who.now c.args.on.now) c.in-Some.handle (place_of c.in-Some-2.spot)
    c.in-Some-3.outcome c.unchanged-in-Some-3.result.answer c.unchanged-in-Some-3.result.delta (sym c.handle.ensures ∙ c.in-Some.is)
    (ap (option_map place_of) (sym c.in-Some-2.is) ∙ c.in_ok-spot.ensures ∙ c.requires.index c.in-Some.handle.object.0)
    (sym c.in-Some-3.is ∙ c.in_ok-outcome.ensures) c.unchanged-in-Some-3.ensures.told (c.unchanged-in-Some-3.ensures.same c.args.base.now)
