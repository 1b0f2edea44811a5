use Rattle.std.proofs.Common.{◌≤◌, ◌∙◌, [], List, length, get_or, sym, ap, arith}
use Rattle.std.specs.Prelude.{slice_get}
use Rattle.std.proofs.lemmas.List.{get_or_past}
use Rattle.ob_rest_spec.specs.Incoming.{StorePlace}
use Rattle.ob_owners.specs.Indexes.{Indexed}
use Rattle.ob_owners.proofs.OwnersLemmas.{told_is_owner}
use Rattle.ob_owners.proofs.owners.Owners.owner.Goals as goal

pub returns-then-id-count-clause-place : goal.returns-then-id-count-clause-place
returns-then-id-count-clause-place g c = λ table content i.
    c.first.ensures.place ∙ ap (λ (v : Indexed). slice_get (get_or v.lists c.args.id.0 []) 0) c.self.view_is ∙ told_is_owner table content c.args.self.now c.args.id.0 i

pub returns-clause-place : goal.returns-clause-place
returns-clause-place g c = λ table content i.
    let lists = c.self.inside.places.lists in
    let past : length lists ≤ c.args.id.0 = omega (arith, c.if-id-count.false, c.count_lists-count.ensures) in
    sym (ap (λ (ps : List StorePlace). slice_get ps 0) (get_or_past lists c.args.id.0 [] past))
    ∙ ap (λ (v : Indexed). slice_get (get_or v.lists c.args.id.0 []) 0) c.self.view_is ∙ told_is_owner table content c.args.self.now c.args.id.0 i
