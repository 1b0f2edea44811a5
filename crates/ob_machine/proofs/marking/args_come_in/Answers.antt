use Rattle.std.proofs.Common.{◌∷◌, [], length, drop, map, sym, subst, arith, length-append}
use Rattle.std.proofs.lemmas.Slice.Zip.{zip_end, zip_turn}
use Rattle.ob_heap.specs.Overlays.{no_object}
use Rattle.ob_heap.specs.Plain.{value_of}
use Rattle.ob_heap.proofs.UnreadLemmas.{unread_itself, unread_onward}
use Rattle.ob_heap_spec.specs.Worlds.{SameWorld}
use Rattle.ob_machine_steps.specs.Entries.{args_come_in}
use Rattle.ob_machine.specs.Shown.{world_of}
use Rattle.ob_machine_parts.proofs.WorldLemmas.{same_world}
use Rattle.ob_machine.proofs.MarkingLemmas.{args_end, args_turn}
use Rattle.ob_machine.proofs.marking.args_come_in.Goals as goal

pub loop-param-init : goal.loop-param-init
loop-param-init c = record { world = λ m v s. s; unread = unread_itself no_object c.args.overlay.now }

pub loop-param-preserved : goal.loop-param-preserved
loop-param-preserved c =
    let l = c.loop-param in
    let base = c.args.base.now.objects in
    let turn = zip_turn c.args.params.now c.args.args.now l.yielded c.into_iter-param-iterator.result l.param-iterator
    c.next.new.self c.next.result (grind arith) (grind arith) l.yielded_by (c.in-Some.param, c.in-Some.arg) c.in-Some.is c.next.ensures.steps in
    record {
      world = λ m v s. l.invariant.world m v
          (args_turn c.args.params.now c.args.args.now (length l.yielded) c.in-Some.param.now c.in-Some.arg.now (world_of m base l.overlay)
          (world_of m base c.arg_comes_in.new.overlay) v turn.0 turn.1 (turn.2 c.in-Some.param.now) (turn.3 c.in-Some.arg.now) (c.in_ok-arg_comes_in.ensures.world m)
          (subst (λ n. SameWorld (args_come_in (drop n c.args.params.now) (map value_of (drop n c.args.args.now)) (world_of m base c.arg_comes_in.new.overlay)) v)
          (length-append l.yielded ((c.in-Some.param, c.in-Some.arg) ∷ [])) s));
      unread = unread_onward no_object c.args.overlay.now l.overlay c.arg_comes_in.new.overlay l.invariant.unread c.in_ok-arg_comes_in.ensures.unread;
    }

pub returns-clause-world : goal.returns-clause-world
returns-clause-world c = λ m.
    let l = c.loop-param in
    let base = c.args.base.now.objects in
    let ended = zip_end c.args.params.now c.args.args.now l.yielded c.into_iter-param-iterator.result l.param-iterator
    c.next.new.self c.next.result (grind arith) (grind arith) l.yielded_by c.in-None.is c.next.ensures.steps in
    l.invariant.world m (world_of m base l.overlay)
    (subst (λ w. SameWorld w (world_of m base l.overlay)) (sym (args_end c.args.params.now c.args.args.now (length l.yielded) (world_of m base l.overlay) ended))
    (same_world (world_of m base l.overlay)))

pub returns-clause-unread : goal.returns-clause-unread
returns-clause-unread c = c.loop-param.invariant.unread
