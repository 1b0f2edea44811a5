use Rattle.std.proofs.Common.{Some, inl}
use Rattle.std.proofs.lemmas.Bool.Decides.{Decides-eqb}
use Rattle.std.proofs.lemmas.Slice.Eq.{strip_prefix_is}
use Rattle.ob_exec.proofs.reads.fresh.Goals as goal

pub returns-in-Some : goal.returns-in-Some
returns-in-Some c = inl (strip_prefix_is Decides-eqb c.args.numbers.now c.args.noted.now (Some c.in-Some.rest) c.in-Some.ensures.cases)
