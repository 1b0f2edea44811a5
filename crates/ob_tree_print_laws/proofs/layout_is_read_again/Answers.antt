use Rattle.ob_tree_print_laws.proofs.LayoutAgain.{layout_again}
use Rattle.ob_tree_print_laws.proofs.layout_is_read_again.Goals as goal

pub returns : goal.returns
returns c = layout_again
