use Rattle.std.proofs.Common.{[], ◌∷◌, ap, ◌∙◌}
use Rattle.std.specs.Prelude.{nat_eq}
use Rattle.std.specs.Cmp.Lexicographic.{pointwise}
use Rattle.indexmap.proofs.CallerLemmas.{insert_entry-new}
use Rattle.ob_verify.specs.Named.{plain}
use Rattle.ob_verify.proofs.PlaceLemmas.{find-plain, plain-append}
use Rattle.ob_verify.proofs.transactions.put_last.Goals as goal
use Rattle.ob_verify.proofs.transactions.put_last.Goals.{in-Ok, in-Err}

pub returns : goal.returns
returns c = elim c.match-insert.branch [
  | in-Ok w ↦ rw w.result-is
      (ap plain w.in-Ok.ensures.entries ∙ ap plain (insert_entry-new
      (λ x y. pointwise nat_eq x.items y.items) c.args.map.now c.args.key c.args.place
      (find-plain c.args.key.items c.args.map.now.entries ∙ c.requires))
      ∙ plain-append c.args.map.now.entries ((c.args.key, c.args.place) ∷ []))
  | in-Err w ↦ rw w.result-is tt
]
