use Rattle.std.proofs.Common.{◌≡◌, ◌+◌, ◌∙◌, ◌++◌, [], ◌∷◌, map, take, refl, sym, ap}
use Rattle.std.proofs.lemmas.List.{take_more}
use Rattle.ob_lanes.specs.Readers.{freed_by, freed_by_all}
use Rattle.ob_lanes.proofs.StaleLemmas.{mapped_same, mapped_both, freed_next}
use Rattle.ob_lanes.proofs.stale.reopen_by_all.Goals as goal

pub loop-item-init : goal.loop-item-init
loop-item-init c = record { so_far = sym (mapped_same (freed_by_all []) (λ x. refl) c.args.lanes.now); entered = c.requires.entered }

pub loop-item-preserved : goal.loop-item-preserved
loop-item-preserved c =
    let all = c.args.objects.now in
    let at = c.loop-item.item-index in
    let e = c.item-item.result in
    let more : take (at + 1) all ≡ take at all ++ e ∷ [] = take_more all at e c.loop-item-test.true ∙ ap (λ x. take at all ++ x ∷ []) (sym c.item-item.is) in
    record {
      so_far = c.reopen_by.ensures.is
          ∙ ap (map (freed_by e.0.0)) c.loop-item.invariant.so_far
          ∙ mapped_both (freed_by e.0.0) (freed_by_all (take at all)) (freed_by_all (take at all ++ e ∷ [])) (freed_next (take at all) e) c.args.lanes.now
          ∙ sym (ap (λ es. map (freed_by_all es) c.args.lanes.now) more);
      entered = c.reopen_by.ensures.entered;
    }
