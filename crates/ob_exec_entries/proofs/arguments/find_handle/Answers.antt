use Rattle.std.proofs.Common.{sym, ap, ◌∙◌}
use Rattle.std.specs.Prelude.{option_map}
use Rattle.ob_heap.specs.Plain.{handle_of}
use Rattle.ob_exec_entries.proofs.HandleLemmas.{handle_same}
use Rattle.ob_exec_entries.proofs.arguments.find_handle.Goals as goal

pub returns : goal.returns
returns c =
    ap (option_map handle_of) c.handle.ensures
    ∙ sym (handle_same (record { who = c.args.who.now; name = c.args.name.now }) c.args.content.now.handles)
