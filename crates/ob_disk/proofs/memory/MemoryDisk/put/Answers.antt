use Rattle.std.proofs.Common.{◌∙◌, ap, ◌++◌, ◌∷◌, [], List, ℕ, length, take, drop}
use Rattle.ob_disk.specs.declared.memory.Note.{Note}
use Rattle.ob_disk.specs.declared.memory.Note.TheVariants.{Written}
use Rattle.ob_disk.proofs.Undoing.{written_before}
use Rattle.ob_disk.proofs.memory.MemoryDisk.put.Goals as goal

pub returns-clause-noted : goal.returns-clause-noted
returns-clause-noted c =
    let note = c.in_ok-note.note in
    let is = c.in_ok-note.ensures in
    let new = c.args.bytes.now in
    let old = is.2 ∙ ap (λ (l : List ℕ). take (length new) (drop c.args.at l)) c.deref.ensures.value in
    let len = is.3 ∙ ap (λ (l : List ℕ). length l) c.deref.ensures.value in (
      note,
      c.in_ok-push.ensures.items ∙ ap (λ (l : List Note). l ++ Written note ∷ []) c.reserve.ensures.items,
      is.0,
      is.1,
      written_before note c.args.at new c.args.self.now.bytes.items is.0 old len,
    )
