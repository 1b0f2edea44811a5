-- Which tree tokens spell, and where they spell none: the faults 201 and 202.
use Rattle.std.specs.Prelude.{ℕ, ◌≡◌, ◌<◌, ◌≤◌, ⊤, List, [], ◌∷◌, ◌++◌, map}
use Rattle.ob_base.specs.Limits.{most_open}
use Rattle.ob_base.specs.Faults.{expected, too_deep}
use Rattle.ob_base.specs.declared.fault.Span.{Span}
use Rattle.ob_base.specs.declared.fault.ProgramFault.{ProgramFault}
use Rattle.ob_lexer.specs.declared.token.Token.{Token}
use Rattle.ob_tree.specs.Members.{Contract}
use Rattle.ob_parser_spec.specs.Rows.{Loaded}
use Rattle.ob_parser_spec.specs.MemberRows.{program}

-- tokens without their loads
abbrev pub tokens_of : List Loaded → List Token
tokens_of read = map (λ l. l.token) read

-- the load passes `most_open` at none of these
abbrev pub IsWithin : List Loaded → Type 0
IsWithin [] = ⊤
IsWithin (l ∷ ls) = (l.load ≤ most_open) × IsWithin ls

-- these tokens spell this tree, and the load passes `most_open` at none
pub record HasTree (tokens : List Token) (tree : List Contract) : Type 0 where
  pub read : List Loaded
  pub all : tokens ≡ tokens_of read
  pub spelled : program tree read
  pub within : IsWithin read

-- some program begins with these tokens, whatever its load
pub record Begins (front : List Token) : Type 0 where
  pub tree : List Contract
  pub read : List Loaded
  pub others : List Loaded
  pub front_read : front ≡ tokens_of read
  pub spelled : program tree (read ++ others)

-- some program begins with them, and the load passes `most_open` at none
pub record BeginsWithin (front : List Token) : Type 0 where
  pub tree : List Contract
  pub read : List Loaded
  pub others : List Loaded
  pub front_read : front ≡ tokens_of read
  pub spelled : program tree (read ++ others)
  pub within : IsWithin read

-- Some program begins with these tokens and this one, at which the load first passes `most_open`.
pub record PassesAt (front : List Token) (token : Token) : Type 0 where
  pub tree : List Contract
  pub read : List Loaded
  pub deep : Loaded
  pub others : List Loaded
  pub front_read : front ≡ tokens_of read
  pub deep_read : token ≡ deep.token
  pub spelled : program tree (read ++ deep ∷ others)
  pub within : IsWithin read
  pub passes : most_open < deep.load

-- a fault at a place
abbrev pub fault_in : ℕ → Span → ProgramFault
fault_in number span = record { number = number; span = span }

-- the fault of tokens that spell no tree, of which this is the end
pub data HasSyntaxFault (tokens : List Token) (end : Span) (fault : ProgramFault) : Type 0 where
  at_token : (front back : List Token) (token : Token) → tokens ≡ front ++ token ∷ back → BeginsWithin front → ¬ (Begins (front ++ token ∷ [])) → fault ≡ fault_in expected token.span → HasSyntaxFault tokens end fault
  at_end : BeginsWithin tokens → ((tree : List Contract) → ¬ (HasTree tokens tree)) → fault ≡ fault_in expected end → HasSyntaxFault tokens end fault
  too_far : (front back : List Token) (token : Token) → tokens ≡ front ++ token ∷ back → PassesAt front token → fault ≡ fault_in too_deep token.span → HasSyntaxFault tokens end fault
