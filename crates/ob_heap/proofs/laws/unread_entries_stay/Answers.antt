use Rattle.ob_heap.specs.Overlays.{no_object}
use Rattle.ob_heap.proofs.UnreadLemmas.{unread_noted, read_noted, unread_edited_read, unread_onward, changes_stay_read}
use Rattle.ob_heap.proofs.laws.unread_entries_stay.Goals as goal

pub returns-clause-noted : goal.returns-clause-noted
returns-clause-noted c = unread_noted

pub returns-clause-read : goal.returns-clause-read
returns-clause-read c = read_noted

pub returns-clause-edited : goal.returns-clause-edited
returns-clause-edited c = unread_edited_read

pub returns-clause-onward : goal.returns-clause-onward
returns-clause-onward c = unread_onward no_object

pub returns-clause-changes : goal.returns-clause-changes
returns-clause-changes c = changes_stay_read
