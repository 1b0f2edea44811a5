-- Payloads lead to one content at most, and a disk represents one store at most.
use Rattle.std.proofs.Common.{◌≡◌, ℕ, ℤ, inl, inr, List, [], ◌∷◌, sym, ◌∙◌, ap, subst}
use Rattle.ob_table.specs.Tables.{ClassTable}
use Rattle.ob_heap_spec.specs.Contents.{Content, empty_content}
use Rattle.ob_journal_spec.specs.Areas.{Journaled, next_gate}
use Rattle.ob_journal_spec.proofs.UniqueDisks.{one_journal, blank_or_journal}
use Rattle.ob_store_spec.specs.Payloads.{Changes}
use Rattle.ob_store_spec.specs.Changes.{SaysChanges, LeadFrom, with_changes}
use Rattle.ob_store_spec.specs.Stores.{StoreProgram, StoreState, IsStoreOf}
use Rattle.ob_store_spec.proofs.Sayings.{one_spelled}

pub one_saying : (table : ClassTable) (content : Content) (a b : Changes) (bytes : List ℕ) → SaysChanges table content a bytes → SaysChanges table content b bytes → a ≡ b
one_saying table content a b bytes p q = one_spelled table a b bytes p.spelled q.spelled

pub one_content : (table : ClassTable) (start : Content) (payloads : List (List ℕ)) (a b : Content) → LeadFrom table start payloads a → LeadFrom table start payloads b → a ≡ b
one_content table start [] a b p q = sym p ∙ q
one_content table start (payload ∷ payloads) a b p q =
    let same = one_saying table start p.0 q.0 payload p.1 q.1 in
    one_content table (with_changes table start p.0) payloads a b p.2 (subst (λ (c : Changes). LeadFrom table (with_changes table start c) payloads b) (sym same) q.2)

same_state : (a b : StoreState) → a.content ≡ b.content → a.gate ≡ b.gate → a.serial ≡ b.serial → a ≡ b
same_state a b c g s =
    ap (λ (x : Content). record { content = x; gate = a.gate; serial = a.serial }) c ∙ ap (λ (x : ℕ). record { content = b.content; gate = x; serial = a.serial }) g
    ∙ ap (λ (x : ℤ). record { content = b.content; gate = b.gate; serial = x }) s

pub one_store : (program : StoreProgram) (size : ℕ) (bytes : List ℕ) (a b : StoreState) → IsStoreOf program size bytes a → IsStoreOf program size bytes b → a ≡ b
one_store program size bytes a b (inl p) (inl q) = same_state a b (p.content ∙ sym q.content) (p.gate ∙ sym q.gate) (p.serial ∙ sym q.serial)
one_store program size bytes a b (inl p) (inr q) = absurd (blank_or_journal size bytes q.place q.says p.blank q.opened.stands)
one_store program size bytes a b (inr p) (inl q) = absurd (blank_or_journal size bytes p.place p.says q.blank p.opened.stands)
one_store program size bytes a b (inr p) (inr q) =
    let same = (one_journal size bytes p.place q.place p.says q.says p.opened.stands q.opened.stands).1 in
    let leads = subst (λ (j : Journaled). LeadFrom program.table empty_content j.payloads b.content) (sym same) q.opened.content_is in
    same_state a b (one_content program.table empty_content p.says.payloads a.content b.content p.opened.content_is leads) (p.gate ∙ ap next_gate same ∙ sym q.gate) (p.serial ∙ ap (λ (j : Journaled). j.serial) same ∙ sym q.serial)
