use Rattle.std.proofs.Common.{◌≡◌, map, Some, None, sym, subst}
use Rattle.std.specs.Prelude.{option_map, find, IfOk}
use Rattle.ob_heap.specs.Contents.{content_of}
use Rattle.ob_invocation_spec.specs.Entering.{is_outside_use, outside_cause}
use Rattle.ob_code_table.specs.ImageTables.{table_of_image}
use Rattle.ob_machine.specs.Shown.{cause_of}
use Rattle.ob_exec_entries.specs.Entering.{use_of}
use Rattle.ob_exec.specs.Pausing.{SliceLeads}
use Rattle.ob_exec.proofs.OpeningLemmas.{none_outside, tested_passed, tested_fails}
use Rattle.ob_exec.proofs.opening.enter.Goals as goal

pub run-requires : goal.run-requires
run-requires c =
    let content = content_of c.args.content.now in
    let who = c.args.who.now in
    let none : option_map cause_of None
    ≡ option_map (outside_cause content.objects) (find (is_outside_use (table_of_image c.args.code.now) content.objects) (map (use_of who) c.args.entered.uses)) =
    subst (λ found. option_map cause_of found
    ≡ option_map (outside_cause content.objects) (find (is_outside_use (table_of_image c.args.code.now) content.objects) (map (use_of who) c.args.entered.uses))) c.in-None.is
    (subst (λ image. option_map cause_of c.find_outside.result
    ≡ option_map (outside_cause content.objects) (find (is_outside_use (table_of_image image) content.objects) (map (use_of who) c.args.entered.uses))) c.image.ensures.image
    (c.find_outside.ensures who)) in (
      c.requires.0,
      c.requires.1,
      none_outside c.args.code.now c.args.fuel c.args.content.now who c.args.into.now c.args.entered c.args.reads c.requires.0 c.requires.1 none,
    )

pub returns-in-Some : goal.returns-in-Some
returns-in-Some c = λ a k.
    let image = c.args.code.now in
    let base = c.args.content.now in
    let content = content_of base in
    let who = c.args.who.now in
    let found : option_map cause_of (Some c.in-Some.cause)
    ≡ option_map (outside_cause content.objects) (find (is_outside_use (table_of_image image) content.objects) (map (use_of who) c.args.entered.uses)) =
    subst (λ o. option_map cause_of o
    ≡ option_map (outside_cause content.objects) (find (is_outside_use (table_of_image image) content.objects) (map (use_of who) c.args.entered.uses))) c.in-Some.is
    (subst (λ code. option_map cause_of c.find_outside.result
    ≡ option_map (outside_cause content.objects) (find (is_outside_use (table_of_image code) content.objects) (map (use_of who) c.args.entered.uses))) c.image.ensures.image
    (c.find_outside.ensures who)) in
    subst (λ r. IfOk c.aborted.result (λ end. SliceLeads image base r end c.args.stage.now))
    (sym (tested_fails image c.args.fuel base who c.args.into.now c.args.entered c.args.reads a c.args.units c.in-Some.cause k found))
    (c.aborted.ensures a.reads c.args.stage.now k.noted)

pub returns-in-None : goal.returns-in-None
returns-in-None c = λ a k.
    let image = c.args.code.now in
    let base = c.args.content.now in
    let content = content_of base in
    let who = c.args.who.now in
    let none : option_map cause_of None
    ≡ option_map (outside_cause content.objects) (find (is_outside_use (table_of_image image) content.objects) (map (use_of who) c.args.entered.uses)) =
    subst (λ found. option_map cause_of found
    ≡ option_map (outside_cause content.objects) (find (is_outside_use (table_of_image image) content.objects) (map (use_of who) c.args.entered.uses))) c.in-None.is
    (subst (λ code. option_map cause_of c.find_outside.result
    ≡ option_map (outside_cause content.objects) (find (is_outside_use (table_of_image code) content.objects) (map (use_of who) c.args.entered.uses))) c.image.ensures.image
    (c.find_outside.ensures who)) in
    let passed = none_outside image c.args.fuel base who c.args.into.now c.args.entered c.args.reads a k none in
    subst (λ r. IfOk c.run.result (λ end. SliceLeads image base r end c.run.new.stage)) (sym (tested_passed image base c.args.units a passed)) (c.run.ensures a k passed)
