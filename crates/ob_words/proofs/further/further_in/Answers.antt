use Rattle.std.proofs.Common.{◌∙◌, codes}
use Rattle.clap.specs.Words.{found_of}
use Rattle.clap.proofs.WalkLemmas.{raw_values-rows}
use Rattle.ob_words.proofs.further.further_in.Goals as goal

pub returns : goal.returns
returns c =
    let words = c.get_strs.ensures ∙ raw_values-rows (found_of c.args.matches.now) (codes "words") in
    rw (c.limits_of-limits.ensures, c.value_in.ensures, c.value_in-2.ensures, c.value_in-3.ensures, c.value_in-4.ensures, words) at (c.further_with.ensures)
