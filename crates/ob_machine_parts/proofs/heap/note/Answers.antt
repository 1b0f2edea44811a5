use Rattle.ob_machine_parts.proofs.WorldLemmas.{read_ok, laid_ok}
use Rattle.ob_machine_parts.proofs.UnreadLemmas.{noted_unread, noted_read}
use Rattle.ob_machine_parts.proofs.heap.note.Goals as goal

pub returns : goal.returns
returns c = record {
  world = read_ok c.note.result c.args.base.now.objects c.args.overlay.now c.note.new.self c.args.id.0 c.note.ensures;
  objects = laid_ok c.note.result c.args.base.now.objects c.args.overlay.now c.note.new.self c.args.id.0 c.note.ensures;
  unread = noted_unread c.note.result c.args.base.now.objects c.args.overlay.now c.note.new.self c.args.id.0 c.note.ensures;
  read = noted_read c.note.result c.args.base.now.objects c.args.overlay.now c.note.new.self c.args.id.0 c.note.ensures;
}
