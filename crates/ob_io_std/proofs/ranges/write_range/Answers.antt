use Rattle.std.proofs.Common.{ℕ, ◌+◌, take, sym, subst, arith}
use Rattle.ob_io_std.specs.Calls.{written}
use Rattle.ob_io_std.specs.Ranges.{Cover}
use Rattle.ob_io_std.proofs.CallLemmas.{adds_same, piece_more}
use Rattle.ob_io_std.proofs.ranges.write_range.Goals.{in-Ok, in-Err+else-not-is_interrupted}
use Rattle.ob_io_std.proofs.ranges.write_range.Goals as goal

pub returns-in-Ok-eq0-clause-front : goal.returns-in-Ok-eq0-clause-front
returns-in-Ok-eq0-clause-front g c =
    let was = c.pieces.invariant in
    let more = piece_more written c.args.at c.pieces.done c.in-Ok-eq0.field-0 c.args.bytes.now _ _ _ was.calls was.within was.cover was.adds c.in-Ok-eq0.ensures.bytes in
    (more.0, (c.pieces.done + c.in-Ok-eq0.field-0, c.in-Ok-eq0.ensures.bound, more.1), more.2)

pub pieces-preserved : goal.pieces-preserved
pieces-preserved g c =
    let was = c.pieces.invariant in
    elim c.match-write_rest.branch [
      | in-Ok w ↦
          let more = piece_more written c.args.at c.pieces.done w.in-Ok.count c.args.bytes.now _ _ _ was.calls was.within was.cover was.adds w.in-Ok.ensures.bytes in
          record {
            calls = more.0;
            within = omega (arith, w.done-is, w.in-Ok.ensures.bound);
            cover = subst (λ (k : ℕ). Cover written c.args.at (take k c.args.bytes.now) more.0) (sym w.done-is) more.1;
            adds = more.2;
          }
      | in-Err+else-not-is_interrupted w ↦ record {
        calls = was.calls;
        within = omega (arith, w.done-is, was.within);
        cover = subst (λ (k : ℕ). Cover written c.args.at (take k c.args.bytes.now) was.calls) (sym w.done-is) was.cover;
        adds = adds_same _ _ _ was.calls was.adds w.in-Err.ensures.bytes;
      }
    ]
