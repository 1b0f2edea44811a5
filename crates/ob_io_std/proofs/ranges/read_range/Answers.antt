use Rattle.std.proofs.Common.{rules, ℕ, List, ◌≡◌, ◌≤◌, ◌+◌, length, take, sym, subst, ◌∙◌, arith}
use Rattle.ob_io_std.specs.Calls.{read}
use Rattle.ob_io_std.specs.Ranges.{Cover}
use Rattle.ob_io_std.proofs.CallLemmas.{adds_same, piece_more}
use Rattle.ob_io_std.proofs.ranges.read_range.Goals.{in-Ok, in-Err+else-not-is_interrupted}
use Rattle.ob_io_std.proofs.ranges.read_range.Goals as goal

pub returns-in-Ok-eq0-clause-front : goal.returns-in-Ok-eq0-clause-front
returns-in-Ok-eq0-clause-front g c =
    let was = c.pieces.invariant in
    let into = c.read_rest.new.into in
    let within : c.pieces.done ≤ length into = omega (arith, c.in-Ok-eq0.ensures.bound) in
    let cover : Cover read c.args.at (take c.pieces.done into) was.calls = subst (λ (l : List ℕ). Cover read c.args.at l was.calls) (sym c.in-Ok-eq0.ensures.front) was.cover in
    let more = piece_more read c.args.at c.pieces.done c.in-Ok-eq0.field-0 into _ _ _ was.calls within cover was.adds c.in-Ok-eq0.ensures.bytes in
    (more.0, (c.pieces.done + c.in-Ok-eq0.field-0, c.in-Ok-eq0.ensures.bound, more.1), more.2)

pub pieces-preserved : goal.pieces-preserved
pieces-preserved g c =
    let was = c.pieces.invariant in
    let into = c.read_rest.new.into in
    let same : length into ≡ length c.pieces.into = search rules in
    elim c.match-read_rest.branch [
      | in-Ok w ↦
          let within : c.pieces.done ≤ length into = omega (arith, w.in-Ok.ensures.bound) in
          let cover : Cover read c.args.at (take c.pieces.done into) was.calls = subst (λ (l : List ℕ). Cover read c.args.at l was.calls) (sym w.in-Ok.ensures.front) was.cover in
          let more = piece_more read c.args.at c.pieces.done w.in-Ok.count into _ _ _ was.calls within cover was.adds w.in-Ok.ensures.bytes in
          record {
            calls = more.0;
            within = omega (arith, w.done-is, w.in-Ok.ensures.bound);
            same = same ∙ was.same;
            cover = subst (λ (k : ℕ). Cover read c.args.at (take k into) more.0) (sym w.done-is) more.1;
            adds = more.2;
          }
      | in-Err+else-not-is_interrupted w ↦ record {
        calls = was.calls;
        within = omega (arith, w.done-is, was.within, same);
        same = same ∙ was.same;
        cover = subst (λ (k : ℕ). Cover read c.args.at (take k into) was.calls) (sym w.done-is) (subst (λ (l : List ℕ). Cover read c.args.at l was.calls) (sym w.in-Err.ensures.front) was.cover);
        adds = adds_same _ _ _ was.calls was.adds w.in-Err.ensures.bytes;
      }
    ]
