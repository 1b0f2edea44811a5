use Rattle.std.proofs.Common.{◌≡◌, ℕ, ◌+◌, List, map, take, sym, ap, subst, ◌∙◌, arith}
use Rattle.ob_code.specs.declared.image.ContractCode.{ContractCode}
use Rattle.ob_exec_entries.specs.Numbered.{IsNumbering, added}
use Rattle.ob_exec_entries.proofs.NumberedLemmas.{numbering_turn, numbering_end}
use Rattle.ob_exec_entries.proofs.names.number_contracts.Goals as goal

pub loop-place-preserved : goal.loop-place-preserved
loop-place-preserved c =
    let item = c.index-contracts-place.result in
    let new : c.add_at.new.numbering ≡ added c.loop-place.numbering item.name c.loop-place.place =
    c.in_ok-add_at.ensures ∙ ap (λ (x : List ℕ). added c.loop-place.numbering x c.loop-place.place) c.as_bytes.ensures.bytes in
    subst (λ (es : List (List ℕ × ℕ)). IsNumbering (map (λ (x : ContractCode). x.name) (take (c.loop-place.place + 1) c.args.contracts.now)) es) (sym new)
    (numbering_turn ContractCode (λ x. x.name) c.args.contracts.now c.loop-place.place item c.loop-place.numbering (omega arith) c.index-contracts-place.is c.loop-place.invariant)

pub returns : goal.returns
returns c = numbering_end ContractCode (λ x. x.name) c.args.contracts.now c.loop-place.place c.loop-place.numbering (omega arith) c.loop-place.invariant
