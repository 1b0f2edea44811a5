use Rattle.std.proofs.Common.{◌∙◌, List, length, map, sym, ap}
use Rattle.std.proofs.lemmas.List.{length-map}
use Rattle.ob_heap.specs.declared.object.Object.{Object}
use Rattle.ob_heap.specs.Contents.{content_of}
use Rattle.ob_heap.specs.Plain.{object_of}
use Rattle.ob_code_table.specs.ImageTables.{table_of_image}
use Rattle.ob_owners.specs.Owning.{owning_of}
use Rattle.ob_owners.proofs.OwnersLemmas.{built, empty_lists}
use Rattle.ob_owners.proofs.owners.Owners.build.Goals as goal

pub returns : goal.returns
returns c = λ is.
    built (table_of_image c.args.code.now) c.in_ok-declared.declared (content_of c.args.content.now) c.in_ok-places.places.lists c.fill.new.places.lists
    (map owning_of c.in_ok-gathered.gathered.items) (map owning_of c.new-3.result.items) (map owning_of c.new-4.result.items)
    (c.in_ok-places.ensures ∙ ap (λ (os : List Object). empty_lists (length os)) c.objects-count.ensures ∙ ap empty_lists (sym (length-map c.args.content.now.objects object_of)))
    c.in_ok-gathered.ensures c.in_ok-fill.ensures c.in_ok-declared.ensures is
