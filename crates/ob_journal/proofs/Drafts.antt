-- An area is finished behind the payload of its record.
use Rattle.std.proofs.Common.{◌≡◌, ℕ, ◌+◌, ◌≤◌, List, [], ◌∷◌, ◌++◌, length, take, drop, refl, ◌∙◌, sym, ap, arith, append_assoc, length-append}
use Rattle.std.specs.Prelude.{pos, ◌+ℤ◌, ◌<ℤ◌}
use Rattle.std.proofs.Math.Seq.{take-append_seam, drop-append_seam}
use Rattle.ob_base.specs.Bytes.{u32_bytes}
use Rattle.ob_journal_spec.specs.Spellings.{sized, header}
use Rattle.ob_journal_spec.specs.Lasting.{last_serial}
use Rattle.ob_journal_spec.proofs.Spelled.{length-header}
use Rattle.ob_journal.specs.Journals.{IsBuiltArea, IsDraftOf, area_built}
use Rattle.ob_journal.specs.declared.journal.Journal.{Journal}
use Rattle.ob_journal.specs.declared.journal.AreaDraft.{AreaDraft}
use Rattle.ob_journal.specs.declared.journal.BuiltArea.{BuiltArea}

-- a number over the four bytes, and a gate behind the payload
closed_behind : (h number payload bytes built : List ℕ) (at : ℕ) → length number ≡ 4 → at ≡ length h + 1 → bytes ≡ (h ++ 1 ∷ number) ++ payload
    → built ≡ take at bytes ++ (sized.bytes (drop (at + 4) bytes) ++ 0 ∷ []) → built ≡ h ++ 1 ∷ (sized.bytes payload ++ 0 ∷ [])
closed_behind h number payload bytes built at four here is put =
    let head = h ++ 1 ∷ [] in
    let front = h ++ 1 ∷ number in
    let start : at ≡ length head = omega (arith, here, length-append h (1 ∷ [])) in
    let end : at + 4 ≡ length front = omega (arith, here, four, length-append h (1 ∷ number)) in
    let split : bytes ≡ head ++ (number ++ payload) = is ∙ append_assoc h (1 ∷ number) payload ∙ sym (append_assoc h (1 ∷ []) (number ++ payload)) in
    let taken : take at bytes ≡ head = ap (λ (n : ℕ). take n bytes) start ∙ ap (take (length head)) split ∙ take-append_seam head (number ++ payload) in
    let left : drop (at + 4) bytes ≡ payload = ap (λ (n : ℕ). drop n bytes) end ∙ ap (drop (length front)) is ∙ drop-append_seam front payload in
    put
    ∙ ap (λ (l : List ℕ). l ++ (sized.bytes (drop (at + 4) bytes) ++ 0 ∷ [])) taken
    ∙ ap (λ (l : List ℕ). head ++ (sized.bytes l ++ 0 ∷ [])) left
    ∙ append_assoc h (1 ∷ []) (sized.bytes payload ++ 0 ∷ [])

pub finished : (journal : Journal) (payload : List ℕ) (draft : AreaDraft) (built : BuiltArea) (at : ℕ) → at ≡ length journal.image.items + 17 → journal.serial <ℤ last_serial
    → length draft.bytes.items + 2 ≤ journal.area → IsDraftOf journal payload draft
    → area_built built ≡ take at draft.bytes.items ++ (sized.bytes (drop (at + 4) draft.bytes.items) ++ 0 ∷ []) → IsBuiltArea journal payload built
finished journal payload draft built at here left within of put =
    let image = journal.image.items in
    let h = header.bytes (journal.serial +ℤ pos 1, image) in
    record {
      serial = left;
      within = omega (arith, within, ap (λ (l : List ℕ). length l) of.is, length-append of.front payload, of.begins.length);
      is =
          closed_behind h (u32_bytes 0) payload draft.bytes.items (area_built built) at refl (omega (arith, here, length-header (journal.serial +ℤ pos 1) image))
          (of.is ∙ ap (λ (l : List ℕ). l ++ payload) (of.begins.is left)) put;
    }
