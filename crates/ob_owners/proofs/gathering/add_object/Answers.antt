use Rattle.std.proofs.Common.{◌≡◌, ◌++◌, Some, None, ap, sym, subst, map, ◌∙◌}
use Rattle.std.proofs.lemmas.List.{append-nil}
use Rattle.std.specs.Prelude.{OnOk}
use Rattle.std.specs.Option.{option_copied}
use Rattle.ob_owners.specs.Owning.{owning_of}
use Rattle.ob_owners.proofs.GatherLemmas.{object_there}
use Rattle.ob_owners.proofs.gathering.add_object.Goals as goal

pub returns-in-Some : goal.returns-in-Some
returns-in-Some c =
    subst (λ ps. OnOk c.add_fields.result (map owning_of c.add_fields.new.found.items ≡ map owning_of c.args.found.now.items ++ ps))
    (sym (object_there c.args.code.now c.args.holder c.args.object.now (Some c.in-Some.contract.now) (sym c.get.ensures.value ∙ ap option_copied c.in-Some.is)))
    c.add_fields.ensures

pub returns-in-None : goal.returns-in-None
returns-in-None c =
    sym (append-nil (map owning_of c.args.found.now.items))
    ∙ sym (ap (λ ps. map owning_of c.args.found.now.items ++ ps) (object_there c.args.code.now c.args.holder c.args.object.now None (sym c.get.ensures.value ∙ ap option_copied c.in-None.is)))
