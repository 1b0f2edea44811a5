use Rattle.std.proofs.Common.{List, ◌++◌, map, not, ap, arith}
use Rattle.ob_heap.specs.Contents.{content_of}
use Rattle.ob_heap_spec.specs.Worlds.{ReadItem}
use Rattle.ob_exec_handles.specs.Spending.{item_of}
use Rattle.ob_exec.specs.Reading.{read_then}
use Rattle.ob_exec.proofs.ReadingLemmas.{arguments_turn, arguments_stop, arguments_end}
use Rattle.ob_exec.proofs.reading.read_arguments.Goals as goal

pub returns-then-not-branch : goal.returns-then-not-branch
returns-then-not-branch c =
    let content = content_of c.args.content.now in
    arguments_stop content c.args.who.now c.args.args.now c.loop-arg.arg-index c.arg-item.result c.in_ok-read_argument.field-0 (map item_of c.loop-arg.reads)
    (map item_of c.read_argument.new.reads)
    (λ (rest : List ReadItem). map item_of c.args.reads.now ++ read_then content c.args.who.now c.args.args.now rest) (omega arith) c.arg-item.is
    c.in_ok-read_argument.ensures.there (ap not c.if-not-branch.true) c.in_ok-read_argument.ensures.reads c.loop-arg.invariant

pub loop-arg-preserved : goal.loop-arg-preserved
loop-arg-preserved c =
    let content = content_of c.args.content.now in
    arguments_turn content c.args.who.now c.args.args.now c.loop-arg.arg-index c.arg-item.result c.in_ok-read_argument.field-0 (map item_of c.loop-arg.reads)
    (map item_of c.read_argument.new.reads)
    (λ (rest : List ReadItem). map item_of c.args.reads.now ++ read_then content c.args.who.now c.args.args.now rest) (omega arith) c.arg-item.is
    c.in_ok-read_argument.ensures.there (ap not c.if-not-branch.false) c.in_ok-read_argument.ensures.reads c.loop-arg.invariant

pub returns : goal.returns
returns c =
    let content = content_of c.args.content.now in
    arguments_end content c.args.who.now c.args.args.now c.loop-arg.arg-index (map item_of c.loop-arg.reads)
    (λ (rest : List ReadItem). map item_of c.args.reads.now ++ read_then content c.args.who.now c.args.args.now rest) (omega arith) c.loop-arg.invariant
