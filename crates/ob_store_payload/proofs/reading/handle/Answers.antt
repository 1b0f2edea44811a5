use Rattle.std.proofs.Common.{rules, ℕ, List, Option, IsTrue, Err}
use Rattle.ob_base.specs.Names.{is_label}
use Rattle.ob_format_spec.specs.Combinators.{read_and_then}
use Rattle.ob_format_spec.specs.Texts.{text}
use Rattle.ob_heap_spec.specs.Contents.{HandleName, Handle}
use Rattle.ob_store_laws.specs.Recorded.{handle_change}
use Rattle.ob_store_spec.specs.Payloads.{held, handle}
use Rattle.ob_store_payload.specs.Answering.{AnswersOnly, IsLabelled}
use Rattle.ob_store_payload.specs.declared.error.PayloadError.{PayloadError}
use Rattle.ob_store_payload.proofs.OnlyLemmas.{mapped_only, first_only, second_only}
use Rattle.ob_store_payload.proofs.reading.handle.Goals as goal

-- a handle by its parts
abbrev of_parts : List ℕ × (List ℕ × Option Handle) → HandleName × Option Handle
of_parts p = (record { who = p.0; name = p.1.0 }, p.1.1)

pub returns-in_err-who : goal.returns-in_err-who
unfolding handle
returns-in_err-who c =
    let only : (e : PayloadError) → AnswersOnly (λ (l : List ℕ). l) (λ t. IsTrue (is_label t)) (Err e) (text.read c.args.bytes.now) → AnswersOnly handle_change IsLabelled (Err e) (handle.read c.args.bytes.now) =
    λ e h. mapped_only handle_change IsLabelled of_parts e _
    (first_only (λ p. IsLabelled (of_parts p)) e (text.read c.args.bytes.now) (λ who. read_and_then text.read (λ name. held.read)) (λ l. l) (λ t. IsTrue (is_label t)) (λ x y named. named.0) h) in
    search (rules, only)

pub returns-in_err-name : goal.returns-in_err-name
unfolding handle
returns-in_err-name c =
    let who = c.in_ok-who.who in
    let rest = c.in_ok-who.rest.now in
    let only : (e : PayloadError) → AnswersOnly (λ (l : List ℕ). l) (λ t. IsTrue (is_label t)) (Err e) (text.read rest) → AnswersOnly handle_change IsLabelled (Err e) (handle.read c.args.bytes.now) =
    λ e h. mapped_only handle_change IsLabelled of_parts e _
    (second_only (λ p. IsLabelled (of_parts p)) e (text.read c.args.bytes.now) (λ x. read_and_then text.read (λ name. held.read)) (λ p. p) (λ p. IsTrue (is_label p.0)) who rest
    (λ y named. named.1) c.in_ok-who.ensures
    (first_only (λ p. IsTrue (is_label p.0)) e (text.read rest) (λ name. held.read) (λ l. l) (λ t. IsTrue (is_label t)) (λ x y named. named) h)) in
    search (rules, only)
