use Rattle.ob_heap.specs.Blocks.{joined}
use Rattle.ob_owners.proofs.NotingLemmas.{places_noted}
use Rattle.ob_owners.proofs.tally.note_places.Goals as goal

pub returns : goal.returns
returns c =
    places_noted c.args.code.now c.args.content.now c.objects.result.now (joined c.handle_blocks.result.now) c.args.tallies.now c.note_objects.new.tallies
    c.note_blocks.new.tallies c.objects.ensures c.handle_blocks.ensures c.note_objects.ensures c.note_blocks.ensures
