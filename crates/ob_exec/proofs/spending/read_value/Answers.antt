use Rattle.std.proofs.Common.{◌≡◌, [], ◌++◌, length, map, sym, ap, subst, ◌∙◌, append-nil}
use Rattle.std.specs.Prelude.{OnOk, option_map}
use Rattle.std.specs.Option.{option_map_or}
use Rattle.ob_machine_parts.specs.Shown.{number_of}
use Rattle.ob_exec_handles.specs.Spending.{item_of}
use Rattle.ob_exec.specs.Reading.{object_read}
use Rattle.ob_exec.proofs.spending.read_value.Goals as goal

pub returns-in-Some : goal.returns-in-Some
returns-in-Some c =
    subst (λ r. OnOk c.read_within.result
    (map item_of c.read_within.new.reads ≡ map item_of c.args.reads.now ++ option_map_or (object_read (length c.args.content.now.objects)) r []))
    (sym (ap (option_map number_of) c.in-Some.is) ∙ c.referred.ensures) c.read_within.ensures

pub returns-in-None : goal.returns-in-None
returns-in-None c =
    sym (append-nil (map item_of c.args.reads.now))
    ∙ ap (λ r. map item_of c.args.reads.now ++ option_map_or (object_read (length c.args.content.now.objects)) r [])
    (sym (ap (option_map number_of) c.in-None.is) ∙ c.referred.ensures)
