-- Lists of instructions.
use Rattle.std.proofs.Common.{◌≡◌, ◌≤◌, ◌<◌, ℕ, zero, suc, ◌+◌, List, [], ◌∷◌, ◌++◌, length, map, drop, get_or, true, Bool, refl, sym, ap, ◌∙◌, arith, add-one, drop-cons, append_assoc}
use Rattle.std.specs.Prelude.{min, nat_le, IsTrue}
use Rattle.std.specs.Str.{IsUtf8, is_utf8}
use Rattle.std.proofs.lemmas.List.{append-nil}
use Rattle.std.proofs.lemmas.Str.{IsUtf8-from_is_utf8}
use Rattle.ob_base.specs.Limits.{longest_string}
use Rattle.ob_base.specs.Names.{is_text}
use Rattle.ob_base.proofs.OptionalLemmas.{both_true}
use Rattle.ob_table.specs.declared.contract.Param.{Param}
use Rattle.ob_table.specs.declared.contract.ResolvedType.{ResolvedType}
use Rattle.ob_silica_places.specs.Parameters.{Parameter}
use Rattle.ob_emit_spec.specs.Operands.{share, shares}

pub ruleset codes = (append_assoc, append-nil)

-- a text is UTF-8
pub text_is_utf8 : (bytes : List ℕ) → IsTrue (is_text bytes) → IsUtf8 bytes
text_is_utf8 bytes t = IsUtf8-from_is_utf8 bytes (both_true (nat_le (length bytes) longest_string) (is_utf8 bytes) t).1

pub ruleset texts = (append_assoc, append-nil, text_is_utf8)

-- Marks, parameter by parameter.

-- one more
pub shares-step : (params : List Param) (slots : List ℕ) (p : Param) (i : ℕ) → i < length params → i < length slots
    → shares (map (λ (q : Param). q.of) (drop i params)) (drop i slots)
    ≡ share (get_or params i p).of (get_or slots i 0) ++ shares (map (λ (q : Param). q.of) (drop (i + 1) params))
    (drop (i + 1) slots)
shares-step params slots p i h k =
    rw add-one (ap (λ ps. shares (map (λ (q : Param). q.of) ps) (drop i slots)) (drop-cons params i p h)
    ∙ ap (λ ks. shares (map (λ (q : Param). q.of) (get_or params i p ∷ drop (suc i) params)) ks) (drop-cons slots i 0 k))

no_slots : (types : List ResolvedType) → shares types [] ≡ []
no_slots [] = refl
no_slots (of ∷ types) = refl

-- none is left
pub shares-done : (params : List Param) (slots : List ℕ) (i : ℕ) → min (length params) (length slots) ≤ i
    → shares (map (λ (q : Param). q.of) (drop i params)) (drop i slots) ≡ []
shares-done [] slots zero h = refl
shares-done [] slots (suc i) h = refl
shares-done (p ∷ ps) [] zero h = refl
shares-done (p ∷ ps) [] (suc i) h = no_slots (map (λ (q : Param). q.of) (drop i ps))
shares-done (p ∷ ps) (k ∷ ks) zero h = absurd (omega arith)
shares-done (p ∷ ps) (k ∷ ks) (suc i) h = shares-done ps ks i (omega arith)

pub ruleset sharing = (append_assoc, append-nil, shares-step, shares-done)

-- the types of parameters
pub types_of_parameters : (params : List Param) → map (λ (q : Parameter). q.of)
    (map (λ (p : Param). record { of = p.of; exit = p.exit }) params) ≡ map (λ (q : Param). q.of) params
types_of_parameters [] = refl
types_of_parameters (p ∷ ps) = ap (λ l. p.of ∷ l) (types_of_parameters ps)

pub ruleset parameters_marked = (append_assoc, append-nil, types_of_parameters)
