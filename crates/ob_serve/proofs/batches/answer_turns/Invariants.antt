use Rattle.std.proofs.Common.{◌-◌, suc, List, length}
use Rattle.ob_store.specs.Stores.{area_of_store, state_of}
use Rattle.ob_wire.specs.declared.request.Request.{Request}
use Rattle.ob_serve.specs.Batches.{enough_turns}
use Rattle.ob_serve.specs.Serving.{IsServing, Answered}
use Rattle.ob_serve.specs.Turning.{batch_on, items_after, CanBeAnswered, AreAsFar}
use Rattle.ob_serve.proofs.Steps.{moment}
use Rattle.ob_serve.proofs.batches.answer_turns.Given as goal

-- the lanes are as far as the schedule after so many turns, and its items so far are answered
abbrev pub invariant-turns : goal.invariant-turns
invariant-turns g l = record {
  serving : IsServing l.code (moment l.store (g.K.Sink.view l.output) (g.D.Disk.view l.disk));
  far : (requests : List Request) → CanBeAnswered (batch_on l.code l.limits (area_of_store l.fn.store) (state_of l.fn.store) requests)
      → AreAsFar (batch_on l.code l.limits (area_of_store l.fn.store) (state_of l.fn.store) requests) 0 l.fn.store l.fn.lanes
      → AreAsFar (batch_on l.code l.limits (area_of_store l.fn.store) (state_of l.fn.store) requests) l.turns l.store l.lanes;
  answered : (requests : List Request) → CanBeAnswered (batch_on l.code l.limits (area_of_store l.fn.store) (state_of l.fn.store) requests)
      → AreAsFar (batch_on l.code l.limits (area_of_store l.fn.store) (state_of l.fn.store) requests) 0 l.fn.store l.fn.lanes
      → Answered l.code (items_after (batch_on l.code l.limits (area_of_store l.fn.store) (state_of l.fn.store) requests) l.turns)
      (moment l.fn.store (g.K.Sink.view l.fn.output) (g.D.Disk.view l.fn.disk)) (moment l.store (g.K.Sink.view l.output) (g.D.Disk.view l.disk));
}

abbrev pub decreases-turns : goal.decreases-turns
decreases-turns g l = suc (enough_turns l.code l.limits (length l.fn.lanes.entries.items)) - l.turns
