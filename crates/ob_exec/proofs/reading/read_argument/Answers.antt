use Rattle.std.proofs.Common.{map, sym, ap, ◌∙◌}
use Rattle.std.specs.Option.{option_copied}
use Rattle.ob_heap.specs.Contents.{content_of}
use Rattle.ob_exec_handles.specs.Spending.{item_of}
use Rattle.ob_exec.proofs.ReadingLemmas.{is_none_missing, none_read_of, is_one_missing, one_read_of}
use Rattle.ob_exec.proofs.reading.read_argument.Goals as goal

pub returns-in-Some-clause-there : goal.returns-in-Some-clause-there
returns-in-Some-clause-there c =
    is_one_missing (content_of c.args.content.now) c.args.who.now c.args.arg.now c.in-Some.name.now c.read_handle.result
    (sym c.named.ensures ∙ ap option_copied c.in-Some.is) c.read_handle.ensures.there

pub returns-in-Some-clause-reads : goal.returns-in-Some-clause-reads
returns-in-Some-clause-reads c =
    one_read_of (content_of c.args.content.now) c.args.who.now c.args.arg.now c.in-Some.name.now c.read_handle.result (map item_of c.args.reads.now)
    (map item_of c.read_handle.new.reads) (sym c.named.ensures ∙ ap option_copied c.in-Some.is) c.read_handle.ensures.reads

pub returns-in-None-clause-there : goal.returns-in-None-clause-there
returns-in-None-clause-there c =
    is_none_missing (content_of c.args.content.now) c.args.who.now c.args.arg.now (sym c.named.ensures ∙ ap option_copied c.in-None.is)

pub returns-in-None-clause-reads : goal.returns-in-None-clause-reads
returns-in-None-clause-reads c =
    none_read_of (content_of c.args.content.now) c.args.who.now c.args.arg.now (map item_of c.args.reads.now)
    (sym c.named.ensures ∙ ap option_copied c.in-None.is)
