use Rattle.std.proofs.Common.{refl}
use Rattle.std.proofs.lemmas.Result.{on_ok_weaker}
use Rattle.ob_heap.specs.Contents.{content_of}
use Rattle.ob_store.specs.Stores.{IsSameStore}
use Rattle.ob_store.specs.declared.store.Store.{Store}
use Rattle.ob_store.proofs.Same.{same_state, same_area, same_after, same_prepared, same_owners}
use Rattle.ob_store.proofs.store.Store.reserve.Goals as goal

pub returns-in_default : goal.returns-in_default
returns-in_default c =
    let a = c.args.self.now in
    let b : Store = record { content = c.reserve.new.content; owners = a.owners; journal = a.journal } in
    let same : IsSameStore a b = record { objects = c.reserve.ensures.objects; handles = c.reserve.ensures.handles; journal = refl } in
    record {
      room = tt;
      same = same;
      state = same_state a b same;
      area = same_area a b same;
      content = same_after a.content b.content c.args.prepared.now.delta same.objects same.handles;
      prepared = λ program is. same_prepared program a b c.args.prepared.now same is;
      owners = λ program is. same_owners program a b same is;
    }

pub returns : goal.returns
returns c =
    let a = c.args.self.now in
    let b : Store = record { content = c.reserve.new.content; owners = c.reserve-2.new.self; journal = a.journal } in
    let same : IsSameStore a b = record { objects = c.reserve.ensures.objects; handles = c.reserve.ensures.handles; journal = refl } in
    record {
      room = on_ok_weaker c.reserve-2.result (λ ready. record { content = c.in-Ok.ensures.room; owners = ready }) c.reserve-2.ensures.ready;
      same = same;
      state = same_state a b same;
      area = same_area a b same;
      content = same_after a.content b.content c.args.prepared.now.delta same.objects same.handles;
      prepared = λ program is. same_prepared program a b c.args.prepared.now same is;
      owners = λ program is. same_owners program a b same (c.reserve-2.ensures.index program.table (content_of a.content) is);
    }
