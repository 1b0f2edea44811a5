use Rattle.std.proofs.Common.{◌≡◌, ℕ, ◌+◌, List, [], ◌∷◌, ◌++◌, map, take, sym, ap, subst, ◌∙◌, arith}
use Rattle.std.proofs.lemmas.List.{take_more, take_all}
use Rattle.std.proofs.lemmas.Slice.Zip.{all_zipped_more}
use Rattle.ob_code.specs.declared.image.BodyCode.{BodyCode}
use Rattle.ob_code.specs.declared.image.ContractCode.{ContractCode}
use Rattle.ob_exec_entries.specs.Naming.{AreNumbered, body_names}
use Rattle.ob_exec_entries.specs.Numbered.{IsNumbering}
use Rattle.ob_exec_entries.proofs.names.number_all.Goals as goal

pub loop-contract-preserved : goal.loop-contract-preserved
loop-contract-preserved c =
    let item = c.contract-item.result in
    let xs = c.args.contracts.now in
    let i = c.loop-contract.contract-index in
    let here : take (i + 1) xs ≡ take i xs ++ item ∷ [] = take_more xs i item (omega arith) ∙ ap (λ (y : ContractCode). take i xs ++ y ∷ []) (sym c.contract-item.is) in
    let numbered : IsNumbering (body_names item) c.in_ok-number_bodies.field-0 =
    subst (λ (bs : List BodyCode). IsNumbering (map (λ (b : BodyCode). b.name) bs) c.in_ok-number_bodies.field-0) c.as_slice.ensures c.in_ok-number_bodies.ensures in
    subst (λ (cs : List ContractCode). AreNumbered cs c.push.new.self) (sym here)
    (subst (λ (es : List (List (List ℕ × ℕ))). AreNumbered (take i xs ++ item ∷ []) es) (sym c.in_ok-push.ensures.ok)
    (all_zipped_more (λ (k : ContractCode) es. IsNumbering (body_names k) es) (take i xs) c.loop-contract.all item c.in_ok-number_bodies.field-0 c.loop-contract.invariant numbered))

pub returns : goal.returns
returns c =
    subst (λ (cs : List ContractCode). AreNumbered cs c.loop-contract.all) (take_all c.loop-contract.contract-index c.args.contracts.now (omega arith)) c.loop-contract.invariant
