use Rattle.std.proofs.Common.{◌∙◌, sym}
use Rattle.std.specs.Prelude.{Ok}
use Rattle.ob_store.specs.Stores.{area_of_store, state_of}
use Rattle.ob_serve.specs.Items.{by_machine}
use Rattle.ob_serve.proofs.LineItems.{same_answers, long_items, blank_items, text_items}
use Rattle.ob_serve.proofs.Progress.{answered_none}
use Rattle.ob_serve.proofs.Steps.{moment}
use Rattle.ob_serve.proofs.lines.answer_line.Goals as goal

pub returns-then-is_long : goal.returns-then-is_long
returns-then-is_long g c = λ full whole.
    let service = by_machine c.args.code.now c.args.limits (area_of_store c.args.store.now) in
    same_answers c.args.code.now _ _ _ _ _ (long_items service (state_of c.args.store.now) c.args.is_long c.args.line.now full c.if-is_long.true whole)
    (c.answer_refusal.ensures c.args.code.now c.args.limits (area_of_store c.args.store.now) c.requires.serving)

pub returns-then-is_blank : goal.returns-then-is_blank
returns-then-is_blank g c = λ full whole.
    let service = by_machine c.args.code.now c.args.limits (area_of_store c.args.store.now) in
    let m = moment c.args.store.now (g.K.Sink.view c.args.output.now) (g.D.Disk.view c.args.disk.now) in
    same_answers c.args.code.now _ _ m m (Ok tt)
    (blank_items service (state_of c.args.store.now) c.args.is_long c.args.line.now full c.if-is_long.false (sym c.is_blank.ensures ∙ c.if-is_blank.true) whole)
    (answered_none c.args.code.now m c.requires.serving)

pub returns : goal.returns
returns g c = λ full whole.
    let service = by_machine c.args.code.now c.args.limits (area_of_store c.args.store.now) in
    same_answers c.args.code.now _ _ _ _ _
    (text_items service (state_of c.args.store.now) c.args.is_long c.args.line.now full c.if-is_long.false (sym c.is_blank.ensures ∙ c.if-is_blank.false) whole)
    c.answer_text.ensures
