use Rattle.std.proofs.Common.{◌≡◌, [], ◌∷◌, ◌++◌, map, sym, subst}
use Rattle.std.specs.Prelude.{OnOk}
use Rattle.ob_invocation_spec.specs.Showing.{place_item}
use Rattle.ob_owners.specs.Spots.{place_of}
use Rattle.ob_exec_handles.specs.Spending.{item_of}
use Rattle.ob_exec_handles.proofs.spending.read_spot.Goals as goal

pub returns-in-Field : goal.returns-in-Field
returns-in-Field c =
    subst (λ s. OnOk c.read_item.result (map item_of c.read_item.new.reads ≡ map item_of c.args.reads.now ++ place_item (place_of s) ∷ [])) (sym c.in-Field.is)
    c.read_item.ensures

pub returns-in-Handle : goal.returns-in-Handle
returns-in-Handle c =
    subst (λ s. OnOk c.read_item-in-Handle.result (map item_of c.read_item-in-Handle.new.reads ≡ map item_of c.args.reads.now ++ place_item (place_of s) ∷ []))
    (sym c.in-Handle.is) c.read_item-in-Handle.ensures
