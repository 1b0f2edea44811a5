use Rattle.std.proofs.Common.{◌≡◌, ◌∙◌, List, map, Option, ap₂}
use Rattle.ob_base.specs.declared.id.ContractId.{ContractId}
use Rattle.ob_code.specs.declared.image.Image.{Image}
use Rattle.ob_code_table.specs.ImageTables.{table_of_image}
use Rattle.ob_heap.specs.Differences.{numbered_from}
use Rattle.ob_heap.specs.declared.object.Object.{Object}
use Rattle.ob_upgrade.specs.Renaming.{named_ids, renamed_object}
use Rattle.ob_upgrade.proofs.Renaming.{is_upgrade}
use Rattle.ob_upgrade.proofs.upgrading.upgraded.Goals as goal

pub returns : goal.returns
returns c =
    let ids : c.as_slice.result.now ≡ named_ids (table_of_image c.args.new.now) c.args.old.now.contracts =
    c.as_slice.ensures ∙ c.in_ok-ids.ensures
    ∙ ap₂ (λ (o n : Image). named_ids (table_of_image n) o.contracts) c.image.ensures.image c.image-2.ensures.image in
    is_upgrade c.args.old.now (table_of_image c.args.new.now) c.args.content.now (record { objects = c.in_ok-objects.objects; handles = c.new.result })
    (c.in_ok-objects.ensures
    ∙ ap₂ (λ (is : List (Option ContractId)) (os : List Object). numbered_from 0 (map (renamed_object is) os)) ids c.objects.ensures)
    c.new.ensures
