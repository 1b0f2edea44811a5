use Rattle.std.proofs.Common.{rules, ◌≡◌, ◌≤◌, ◌+◌, ◌-◌, ◌∙◌, ap, sym, subst, length}
use Rattle.std.specs.Vec.{vec_capacity, vec_len}
use Rattle.ob_heap.specs.Differences.{with_objects}
use Rattle.ob_heap.proofs.DeltasLemmas.{with_objects-le, room_after}
use Rattle.ob_heap.proofs.content.reserve.Goals as goal

pub overflow_sub-more : goal.overflow_sub-more
overflow_sub-more c =
    let xs = c.content.inside.objects.items in
    let es = c.args.delta.now.objects in
    let e : c.count_with-count.result ≡ length (with_objects xs es) = c.count_with-count.ensures
    ∙ ap (λ os. length (with_objects os c.as_slice-2.result.now)) c.as_slice.ensures.value
    ∙ ap (λ ys. length (with_objects xs ys)) c.as_slice-2.ensures in
    let n : c.len.result ≡ length xs = search rules in
    subst (λ m. m ≤ c.count_with-count.result) (sym n) (subst (λ m. length xs ≤ m) (sym e) (with_objects-le xs es))

pub returns-clause-room : goal.returns-clause-room
returns-clause-room c =
    let xs = c.content.inside.objects.items in
    let ys = c.reserve.new.self.items in
    let es = c.args.delta.now.objects in
    let e : c.count_with-count.result ≡ length (with_objects xs es) = c.count_with-count.ensures
    ∙ ap (λ os. length (with_objects os c.as_slice-2.result.now)) c.as_slice.ensures.value
    ∙ ap (λ ys. length (with_objects xs ys)) c.as_slice-2.ensures in
    let n : c.len.result ≡ length xs = search rules in
    let m : vec_len c.reserve.new.self ≡ length ys = search rules in
    let o : length ys + (c.count_with-count.result - c.len.result) ≤ vec_capacity c.reserve.new.self = search rules in
    let h : length c.as_slice-3.result.now ≤ c.reserve-2.new.self.room = search rules in
    record {
      objects = subst (λ l. length (with_objects ys es) ≤ length ys + (vec_capacity c.reserve.new.self - l)) (sym m)
          (room_after xs ys es c.count_with-count.result c.len.result (vec_capacity c.reserve.new.self) e n o c.reserve.ensures.items);
      handles = subst (λ ds. length ds ≤ c.reserve-2.new.self.room) c.as_slice-3.ensures h;
    }
