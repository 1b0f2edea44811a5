use Rattle.std.proofs.Common.{◌≡◌, List, ◌++◌, map, sym, ap, subst, ◌∙◌}
use Rattle.ob_heap_spec.specs.Worlds.{ReadItem, object_item, ReadSame}
use Rattle.ob_machine_parts.specs.Shown.{next_read, reads_of}
use Rattle.ob_exec_handles.specs.Spending.{item_of}
use Rattle.ob_exec.specs.Going.{IsFresh}
use Rattle.ob_exec.proofs.NotedLemmas.{noted_all, noted_same}
use Rattle.ob_exec.proofs.reads.Reads.noted.Goals as goal

pub invariant_of-result : goal.invariant_of-result
invariant_of-result c =
    let has = c.has_read_next-has_next.result in
    let next = c.self.inside.next in
    let noted = c.self.inside.numbers in
    let xs = map item_of c.self.inside.items in
    noted_all has next noted c.from_vec.result c.fresh.result.now xs (map item_of c.read_next.new.reads) (map item_of c.read_numbers.new.reads) c.self.invariant
    (c.in_ok-read_next.ensures ∙ ap (λ b. xs ++ next_read b) c.is_first.ensures) c.in_ok-read_numbers.ensures
    (subst (λ ns. IsFresh ns c.from_vec.result c.fresh.result.now) c.as_slice.ensures
    (subst (λ ns. IsFresh c.as_slice.result.now ns c.fresh.result.now) (c.as_slice-2.ensures.value ∙ sym c.from_vec.ensures) c.fresh.ensures))

pub returns : goal.returns
returns c =
    let has = c.has_read_next-has_next.result in
    let next = c.self.inside.next in
    let noted = c.self.inside.numbers in
    let all = c.from_vec.result in
    let xs = map item_of c.self.inside.items in
    let zs = map item_of c.read_numbers.new.reads in
    let run : next_read has ++ map object_item all ≡ reads_of c.args.overlay.now =
    ap (λ b. next_read b ++ map object_item all) c.has_read_next-has_next.ensures
    ∙ ap (λ ns. next_read c.args.overlay.now.next ++ map object_item ns) (c.from_vec.ensures ∙ c.in_ok-all.ensures) in
    subst (λ (ys : List ReadItem). ReadSame (ys ++ reads_of c.args.overlay.now) zs) c.self.view_is
    (subst (λ rs. ReadSame (xs ++ rs) zs) run
    (noted_same has next noted all c.fresh.result.now xs (map item_of c.read_next.new.reads) zs c.self.invariant
    (c.in_ok-read_next.ensures ∙ ap (λ b. xs ++ next_read b) c.is_first.ensures) c.in_ok-read_numbers.ensures
    (subst (λ ns. IsFresh ns all c.fresh.result.now) c.as_slice.ensures
    (subst (λ ns. IsFresh c.as_slice.result.now ns c.fresh.result.now) (c.as_slice-2.ensures.value ∙ sym c.from_vec.ensures) c.fresh.ensures))))
