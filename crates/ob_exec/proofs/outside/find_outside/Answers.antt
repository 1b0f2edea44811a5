use Rattle.std.proofs.Common.{◌≡◌, map, Some, sym, ap, ◌∙◌, rules}
use Rattle.std.specs.Prelude.{find, option_map}
use Rattle.ob_heap.specs.Plain.{object_of}
use Rattle.ob_invocation_spec.specs.Entering.{is_outside_use, outside_cause}
use Rattle.ob_code_table.specs.ImageTables.{table_of_image}
use Rattle.ob_exec_entries.specs.Entering.{use_of}
use Rattle.ob_exec.proofs.UseLemmas.{finding_found, finding_passed}
use Rattle.ob_exec.proofs.outside.find_outside.Goals as goal

pub returns-then-is_outside : goal.returns-then-is_outside
returns-then-is_outside c = λ who.
    let objects = map object_of c.args.content.now.objects in
    let test = is_outside_use (table_of_image c.args.code.now) objects in
    let here : find test (map (use_of who) c.args.uses.now) ≡ Some (use_of who c.used-item.result) =
    c.loop-used.invariant who
    ∙ finding_found test (use_of who) c.args.uses.now c.loop-used.used-index c.used-item.result (search rules) (search rules) (sym (c.is_outside.ensures who) ∙ c.if-is_outside.true) in
    ap Some (c.outside_cause.ensures who) ∙ sym (ap (option_map (outside_cause objects)) here)

pub loop-used-preserved : goal.loop-used-preserved
loop-used-preserved c = λ who.
    let test = is_outside_use (table_of_image c.args.code.now) (map object_of c.args.content.now.objects) in
    c.loop-used.invariant who
    ∙ finding_passed test (use_of who) c.args.uses.now c.loop-used.used-index c.used-item.result (search rules) (search rules) (sym (c.is_outside.ensures who) ∙ c.if-is_outside.false)
