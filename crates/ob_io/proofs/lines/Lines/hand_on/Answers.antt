use Rattle.std.proofs.Common.{sym, ◌∙◌, ap, List, ℕ, ◌∷◌, ◌++◌, take, refl, arith, length-take}
use Rattle.ob_io.specs.Lines.{held}
use Rattle.ob_io.proofs.LinesLemmas.{newline_at, no_newline, held_after, range_nil, length-range, length-held}
use Rattle.ob_io.proofs.lines.Lines.hand_on.Goals as goal

pub returns-in_ok-is_long-in-Some-clause-piece : goal.returns-in_ok-is_long-in-Some-clause-piece
returns-in_ok-is_long-in-Some-clause-piece c =
    let bytes = held c.args.self.now in
    let at = c.in-Some.at in
    let found = newline_at bytes at (sym (rw c.deref.ensures.value at c.in-Some.ensures)) in
    (take at bytes, found.1, omega (arith, found.0, length-range c.args.self.now.buffer.items c.args.self.now.start c.args.self.now.end, length-take at bytes), found.2 ∙ ap (λ (l : List ℕ). take at bytes ++ 10 ∷ l) (held_after _ _ _ at found.0), rw c.deref.ensures.value at c.in_ok-is_long-in-Some.ensures.so_far)

pub returns-in_ok-is_long-in-None-clause-piece : goal.returns-in_ok-is_long-in-None-clause-piece
returns-in_ok-is_long-in-None-clause-piece c =
    let bytes = held c.args.self.now in
    (bytes, no_newline bytes (sym (rw c.deref.ensures.value at c.in-None.ensures)), omega (arith, length-held c.args.self.now.buffer.items c.args.self.now.start c.args.self.now.end (omega arith)), (refl, (range_nil c.args.self.now.buffer.items c.args.self.now.end, omega arith)), rw c.deref.ensures.value at c.in_ok-is_long-in-None.ensures.so_far)
