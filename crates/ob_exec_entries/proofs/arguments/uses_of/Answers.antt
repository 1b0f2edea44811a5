use Rattle.std.proofs.Common.{◌≡◌, ◌+◌, ◌++◌, List, [], ◌∷◌, map, length, drop, sym, ap, subst, ◌∙◌, append-nil, arith, length-append}
use Rattle.std.proofs.lemmas.Slice.Zip.{zip_end, zip_turn}
use Rattle.ob_heap.specs.Contents.{content_of}
use Rattle.ob_invocation_spec.specs.Entries.{HandleUse as Use, use_of_argument}
use Rattle.ob_code_table.specs.ImageTables.{param_of_code}
use Rattle.ob_wire.specs.Meanings.{argument_meant}
use Rattle.ob_exec_entries.specs.Arguments.{uses_of}
use Rattle.ob_exec_entries.specs.Entering.{use_of}
use Rattle.ob_exec_entries.proofs.ArgumentLemmas.{uses_end, uses_turn, uses_step}
use Rattle.ob_exec_entries.proofs.arguments.uses_of.Goals as goal

pub loop-param-preserved : goal.loop-param-preserved
loop-param-preserved c =
    let l = c.loop-param in
    let content = content_of c.args.content.now in
    let who = c.args.who.now in
    let ps = c.args.params.now in
    let args = c.args.args.now in
    let n = length l.yielded in
    let p = c.in-Some.param.now in
    let a = c.in-Some.arg.now in
    let turn = zip_turn ps args l.yielded c.into_iter-param-iterator.result l.param-iterator
    c.next.new.self c.next.result (grind arith) (grind arith) l.yielded_by (c.in-Some.param, c.in-Some.arg) c.in-Some.is c.next.ensures.steps in
    subst (λ k. map (use_of who) c.add_use.new.uses ++ uses_of content who (drop k ps) (drop k args) ≡ uses_of content who ps args)
    (sym (length-append l.yielded ((c.in-Some.param, c.in-Some.arg) ∷ [])))
    (uses_step (use_of who) l.uses c.add_use.new.uses c.in_ok-use_of_argument.field-0 (use_of_argument content who (param_of_code p) (argument_meant a))
    (uses_of content who (drop (n + 1) ps) (drop (n + 1) args)) (uses_of content who ps args) c.in_ok-add_use.ensures c.in_ok-use_of_argument.ensures
    (ap (λ (us : List Use). map (use_of who) l.uses ++ us) (sym (uses_turn content who ps args n p a turn.0 turn.1 (turn.2 p) (turn.3 a))) ∙ l.invariant))

pub returns : goal.returns
returns c =
    let l = c.loop-param in
    let content = content_of c.args.content.now in
    let who = c.args.who.now in
    let ps = c.args.params.now in
    let args = c.args.args.now in
    let ended = zip_end ps args l.yielded c.into_iter-param-iterator.result l.param-iterator
    c.next.new.self c.next.result (grind arith) (grind arith) l.yielded_by c.in-None.is c.next.ensures.steps in
    sym (append-nil (map (use_of who) l.uses))
    ∙ ap (λ (us : List Use). map (use_of who) l.uses ++ us) (sym (uses_end content who ps args (length l.yielded) ended))
    ∙ l.invariant
