use Rattle.std.proofs.Common.{◌≡◌, ◌++◌, map, sym, ap, subst, ◌∙◌, append-nil}
use Rattle.std.specs.Prelude.{OnOk, option_map, option_to_list}
use Rattle.ob_invocation_spec.specs.Showing.{place_item}
use Rattle.ob_owners.specs.Spots.{place_of}
use Rattle.ob_exec_handles.specs.Spending.{item_of}
use Rattle.ob_exec_handles.proofs.spending.read_place.Goals as goal

pub returns-in-Some : goal.returns-in-Some
returns-in-Some c =
    subst (λ s. OnOk c.read_spot.result
    (map item_of c.read_spot.new.reads ≡ map item_of c.args.reads.now ++ option_to_list (option_map place_item (option_map place_of s)))) (sym c.in-Some.is)
    c.read_spot.ensures

pub returns-in-None : goal.returns-in-None
returns-in-None c =
    sym (append-nil (map item_of c.args.reads.now))
    ∙ ap (λ s. map item_of c.args.reads.now ++ option_to_list (option_map place_item (option_map place_of s))) (sym c.in-None.is)
