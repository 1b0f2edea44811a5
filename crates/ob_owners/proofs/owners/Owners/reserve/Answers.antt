use Rattle.std.proofs.Common.{◌≡◌, ◌∙◌, length, sym, ap, arith}
use Rattle.ob_code.specs.declared.image.Image.{Image}
use Rattle.ob_code_table.specs.ImageTables.{table_of_image}
use Rattle.ob_owners.specs.Indexes.{Indexed}
use Rattle.ob_owners.specs.Owning.{coming_places, going_places}
use Rattle.ob_owners.proofs.OwnersLemmas.{few_after, on_ok}
use Rattle.ob_owners.proofs.owners.Owners.reserve.Goals as goal

pub returns-clause-ready : goal.returns-clause-ready
returns-clause-ready c =
    let content = c.args.content.now in
    let delta = c.args.delta.now in
    let same : c.self.inside.declared ≡ c.lengthen.new.self.declared =
    ap (λ (v : Indexed). v.declared) c.self.view_is ∙ sym c.keep.ensures.declared ∙ sym c.lengthen.ensures.declared in
    on_ok c.lengthen.result
    (λ h. record {
      going = c.lengthen.ensures.going ∙ c.in_ok-keep.ensures.going ∙ c.in_ok-going.ensures ∙ ap (λ (i : Image). going_places (table_of_image i) content delta) same;
      coming = c.lengthen.ensures.coming ∙ c.in_ok-keep.ensures.coming ∙ c.in_ok-coming.ensures ∙ ap (λ (i : Image). coming_places (table_of_image i) delta) same;
      lists = let a = ap length c.objects.ensures in let b = ap length c.as_slice.ensures in omega (arith, few_after content.objects delta.objects, h, a, b);
    })
    c.lengthen.ensures.lists
