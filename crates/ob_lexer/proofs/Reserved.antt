-- Each reserved word has a spelling of its own.
use Rattle.std.proofs.Common.{ℕ, ◌≡◌, ◌≤◌, List, length, arith, true, false, [], ◌∷◌, Option, Some, None, inl, inr, refl, sym, ap, ◌∙◌, IsTrue}
use Rattle.std.proofs.lemmas.Bool.{cases_Bool}
use Rattle.std.proofs.lemmas.Slice.Eq.{bytes_eq-Decides}
use Rattle.std.specs.Str.{bytes_eq}
use Rattle.ob_base.specs.Limits.{longest_name}
use Rattle.ob_base.specs.Names.{is_word}
use Rattle.ob_lexer.specs.declared.token.Word.{Word}
use Rattle.ob_lexer.specs.declared.token.Word.TheVariants as word
use Rattle.ob_lexer.specs.Spelling.{spelling_of_word, IsReserved}
use Rattle.ob_lexer.specs.Lexing.{word_among, words, word_of, candidate}

among-Some : (among : List Word) (bytes : List ℕ) (w : Word) → word_among among bytes ≡ Some w → bytes ≡ spelling_of_word w
among-Some [] bytes w e = absurd cc
among-Some (v ∷ among) bytes w e = elim (cases_Bool (bytes_eq (spelling_of_word v) bytes)) [
  | inl is ↦
      let first : Some v ≡ Some w = rw is at e in
      let same : v ≡ w = cc in
      sym ((bytes_eq-Decides (spelling_of_word v) bytes).0 is) ∙ ap spelling_of_word same
  | inr isnt ↦ among-Some among bytes w (rw isnt at e)
]

pub word_of-Some : (bytes : List ℕ) (w : Word) → word_of bytes ≡ Some w → bytes ≡ spelling_of_word w
unfolding word_of
word_of-Some bytes w e = among-Some words bytes w e

-- a word is found by its spelling, which has the form of a name
spelled : (w : Word) → (word_of (spelling_of_word w) ≡ Some w) × IsTrue (is_word (spelling_of_word w)) × (length (spelling_of_word w) ≤ longest_name)
unfolding word_of
spelled word.Contract = (refl, refl, omega arith)
spelled word.Asset = (refl, refl, omega arith)
spelled word.Main = (refl, refl, omega arith)
spelled word.Interface = (refl, refl, omega arith)
spelled word.Implements = (refl, refl, omega arith)
spelled word.State = (refl, refl, omega arith)
spelled word.Transaction = (refl, refl, omega arith)
spelled word.Private = (refl, refl, omega arith)
spelled word.Returns = (refl, refl, omega arith)
spelled word.Available = (refl, refl, omega arith)
spelled word.In = (refl, refl, omega arith)
spelled word.If = (refl, refl, omega arith)
spelled word.Else = (refl, refl, omega arith)
spelled word.While = (refl, refl, omega arith)
spelled word.Return = (refl, refl, omega arith)
spelled word.Revert = (refl, refl, omega arith)
spelled word.Disown = (refl, refl, omega arith)
spelled word.New = (refl, refl, omega arith)
spelled word.This = (refl, refl, omega arith)
spelled word.True = (refl, refl, omega arith)
spelled word.False = (refl, refl, omega arith)
spelled word.Int = (refl, refl, omega arith)
spelled word.Bool = (refl, refl, omega arith)
spelled word.String = (refl, refl, omega arith)
spelled word.Owned = (refl, refl, omega arith)
spelled word.Unowned = (refl, refl, omega arith)
spelled word.Shared = (refl, refl, omega arith)
spelled word.Where = (refl, refl, omega arith)
spelled word.Is = (refl, refl, omega arith)

pub word_of-spelling : (w : Word) → word_of (spelling_of_word w) ≡ Some w
word_of-spelling w = (spelled w).0

-- what is no word's spelling isn't reserved
pub word_of-None : (bytes : List ℕ) → word_of bytes ≡ None → ¬ (IsReserved bytes)
word_of-None bytes none reserved =
    let some : word_of bytes ≡ Some reserved.0 = ap word_of reserved.1 ∙ word_of-spelling reserved.0 in
    absurd cc

pub words_differ : (v w : Word) → spelling_of_word v ≡ spelling_of_word w → v ≡ w
words_differ v w e =
    let same : Some v ≡ Some w = sym (word_of-spelling v) ∙ ap word_of e ∙ word_of-spelling w in
    cc

pub word_is_word : (w : Word) → IsTrue (is_word (spelling_of_word w))
word_is_word w = (spelled w).1

-- no reserved word is long
pub word_is_short : (w : Word) → length (spelling_of_word w) ≤ longest_name
word_is_short w = (spelled w).2

-- each reserved word is the candidate of its spelling
candidate-spelling : (w : Word) → candidate (spelling_of_word w) ≡ Some w
candidate-spelling word.Contract = refl
candidate-spelling word.Asset = refl
candidate-spelling word.Main = refl
candidate-spelling word.Interface = refl
candidate-spelling word.Implements = refl
candidate-spelling word.State = refl
candidate-spelling word.Transaction = refl
candidate-spelling word.Private = refl
candidate-spelling word.Returns = refl
candidate-spelling word.Available = refl
candidate-spelling word.In = refl
candidate-spelling word.If = refl
candidate-spelling word.Else = refl
candidate-spelling word.While = refl
candidate-spelling word.Return = refl
candidate-spelling word.Revert = refl
candidate-spelling word.Disown = refl
candidate-spelling word.New = refl
candidate-spelling word.This = refl
candidate-spelling word.True = refl
candidate-spelling word.False = refl
candidate-spelling word.Int = refl
candidate-spelling word.Bool = refl
candidate-spelling word.String = refl
candidate-spelling word.Owned = refl
candidate-spelling word.Unowned = refl
candidate-spelling word.Shared = refl
candidate-spelling word.Where = refl
candidate-spelling word.Is = refl

-- so a reserved word is the candidate
pub is_candidate : (bytes : List ℕ) (w : Word) → word_of bytes ≡ Some w → candidate bytes ≡ Some w
is_candidate bytes w e = ap candidate (word_of-Some bytes w e) ∙ candidate-spelling w

-- where there is no candidate, there is no reserved word
pub no_candidate : (bytes : List ℕ) → candidate bytes ≡ None → None ≡ word_of bytes
no_candidate bytes none = elim (word_of bytes) as (λ (o : Option Word). word_of bytes ≡ o → None ≡ o) [
  | None ↦ λ e. refl
  | Some w ↦ λ e. let some : None ≡ Some w = sym none ∙ is_candidate bytes w e in absurd cc
] refl

module _ (bytes spelling : List ℕ) (w : Word) (same : spelling ≡ spelling_of_word w) where
  -- where the candidate is spelled otherwise, there is none
  pub other_candidate : candidate bytes ≡ Some w → bytes_eq spelling bytes ≡ false → None ≡ word_of bytes
  other_candidate is other = elim (word_of bytes) as (λ (o : Option Word). word_of bytes ≡ o → None ≡ o) [
    | None ↦ λ e. refl
    | Some v ↦ λ e.
        let both : Some v ≡ Some w = sym (is_candidate bytes v e) ∙ is in
        let found : v ≡ w = cc in
        let spelled : spelling ≡ bytes = same ∙ ap spelling_of_word (sym found) ∙ sym (word_of-Some bytes v e) in
        let no : false ≡ true = sym other ∙ (bytes_eq-Decides spelling bytes).1 spelled in
        absurd cc
  ] refl

  -- and where it is spelled so, it is the one
  pub spelled_candidate : bytes_eq spelling bytes ≡ true → Some w ≡ word_of bytes
  spelled_candidate is =
      let spelled : bytes ≡ spelling_of_word w = sym ((bytes_eq-Decides spelling bytes).0 is) ∙ same in
      sym (ap word_of spelled ∙ word_of-spelling w)
