-- What all tokens have where they are to be one program: a tree, or the fault that is answered.
use Rattle.std.proofs.Common.{ℕ, ◌≡◌, ◌∙◌, ◌-◌, ◌+◌, true, List, [], ◌∷◌, ◌++◌, length, drop, subst, ap, arith}
use Rattle.std.proofs.lemmas.List.{length-append}
use Rattle.std.proofs.Math.Seq.{drop-append_seam}
use Rattle.ob_base.specs.Limits.{most_open}
use Rattle.ob_base.specs.Faults.{expected, too_deep}
use Rattle.ob_base.specs.declared.fault.Span.{Span}
use Rattle.ob_lexer.specs.declared.token.Token.{Token}
use Rattle.ob_tree.specs.Members.{Contract}
use Rattle.ob_parser_spec.specs.MemberRows.{program}
use Rattle.ob_parser_spec.specs.Grammar.{tokens_of, HasTree, fault_in, HasSyntaxFault}
use Rattle.ob_parser_spec.specs.Readers.{Read, done, stop, deep, Reader}
use Rattle.ob_parser_spec.specs.ContractReaders.{contract_first}
use Rattle.ob_parser_spec.specs.AllReaders.{all_programs}
use Rattle.ob_parser_expressions.specs.Answering.{Halts, not_halted, stopped_with, deep_with}
use Rattle.ob_parser.specs.Parsing.{whole, span_or_end, span_at, error_at}
use Rattle.ob_base.specs.TextErrors.{OnFault}
use Rattle.ob_parser_expressions.specs.declared.halt.Halt.{Halt}
use Rattle.ob_parser_expressions.specs.declared.halt.Halt.TheVariants as halt
use Rattle.ob_parser_spec.proofs.Laws.{Laws, Case, is_done, is_stop, is_deep, case_of}
use Rattle.ob_parser_spec.proofs.Outcomes.{has_tree, refused_at_token, refused_after, refused_at_end, refused_deep}
use Rattle.ob_parser_spec.proofs.ProgramLaws.{whole_laws}

-- what isn't read isn't read with nothing after it
pub halts_whole : {A : Type 0} (e : Halt) (read : Read A) → Halts e read → Halts e (whole read)
halts_whole (halt.Expected left) (done x rest) is = absurd cc
halts_whole (halt.Expected left) (stop rest) is = is
halts_whole (halt.Expected left) (deep rest) is = is
halts_whole (halt.TooDeep left) (done x rest) is = absurd cc
halts_whole (halt.TooDeep left) (stop rest) is = is
halts_whole (halt.TooDeep left) (deep rest) is = is
halts_whole halt.Memory read is = tt

-- the last tokens begin where the others end
span_after : (tokens front rest : List Token) (end : Span) → tokens ≡ front ++ rest → span_at tokens end (length rest) ≡ span_or_end rest end
span_after tokens front rest end parts =
    let count : length tokens ≡ length front + length rest = ap length parts ∙ length-append front rest in
    let before : length tokens - length rest ≡ length front = omega (arith, count) in
    ap (λ n. span_or_end (drop n tokens) end) before ∙ ap (λ l. span_or_end (drop (length front) l) end) parts ∙ ap (λ l. span_or_end l end) (drop-append_seam front rest)

-- some fault at a place
abbrev At : ℕ → List Token → Span → Span → Type 0
At number tokens end place = HasSyntaxFault tokens end (fault_in number place)

module _ (run : Reader (List Contract)) (first more : List ℕ) (a : Laws most_open program run first more true) (tokens : List Token) where
  tree_at : (tree : List Contract) → Case (run tokens) → whole (run tokens) ≡ done tree [] → HasTree tokens tree
  tree_at tree (is_done other [] is) h =
      let why : done other [] ≡ done tree [] = rw is at h in
      let same : other ≡ tree = cc in
      subst (λ t. HasTree tokens t) same (has_tree run first more true a tokens other is)
  tree_at tree (is_done other (t ∷ back) is) h = let wrong : stop (t ∷ back) ≡ done tree [] = rw is at h in absurd cc
  tree_at tree (is_stop rest is) h = let wrong : stop rest ≡ done tree [] = rw is at h in absurd cc
  tree_at tree (is_deep rest is) h = let wrong : deep rest ≡ done tree [] = rw is at h in absurd cc

module _ (run : Reader (List Contract)) (first more : List ℕ) (a : Laws most_open program run first more true) (tokens : List Token) (end : Span) where
  at_first : (rest : List Token) → run tokens ≡ stop rest → At expected tokens end (span_or_end rest end)
  at_first [] is = refused_at_end run first more true a tokens end is
  at_first (t ∷ back) is = refused_at_token run first more true a tokens back t end is

  stopped_at : (rest : List Token) → run tokens ≡ stop rest → At expected tokens end (span_at tokens end (length rest))
  stopped_at rest is = let s = a.stopped tokens rest is in rw (span_after tokens (tokens_of s.read) rest end s.parts) (at_first rest is)

  after_at : (tree : List Contract) (t : Token) (back : List Token) → run tokens ≡ done tree (t ∷ back) → At expected tokens end (span_at tokens end (length (t ∷ back)))
  after_at tree t back is =
      let s = a.sound tokens tree (t ∷ back) is in
      rw (span_after tokens (tokens_of s.read) (t ∷ back) end s.parts) (refused_after run first more true a tokens back tree t end is)

  deep_at : (rest : List Token) → run tokens ≡ deep rest → At too_deep tokens end (span_at tokens end (length rest))
  deep_at rest is =
      let s = a.deepened tokens rest is in
      let here : run tokens ≡ deep (s.top.token ∷ s.back) = is ∙ ap deep s.here in
      rw (span_after tokens (tokens_of s.read) rest end s.parts) (rw s.here (refused_deep run first more true a tokens s.back s.top.token end here))

  expected_at : (left : ℕ) → Case (run tokens) → Halts (halt.Expected left) (whole (run tokens)) → At expected tokens end (span_at tokens end left)
  expected_at left (is_done tree [] is) h = let wrong : not_halted ≡ stopped_with left = rw is at h in absurd cc
  expected_at left (is_done tree (t ∷ back) is) h =
      let why : stopped_with (length (t ∷ back)) ≡ stopped_with left = rw is at h in
      let same : length (t ∷ back) ≡ left = cc in
      subst (λ n. At expected tokens end (span_at tokens end n)) same (after_at tree t back is)
  expected_at left (is_stop rest is) h =
      let why : stopped_with (length rest) ≡ stopped_with left = rw is at h in
      let same : length rest ≡ left = cc in
      subst (λ n. At expected tokens end (span_at tokens end n)) same (stopped_at rest is)
  expected_at left (is_deep rest is) h = let wrong : deep_with (length rest) ≡ stopped_with left = rw is at h in absurd cc

  too_deep_at : (left : ℕ) → Case (run tokens) → Halts (halt.TooDeep left) (whole (run tokens)) → At too_deep tokens end (span_at tokens end left)
  too_deep_at left (is_done tree [] is) h = let wrong : not_halted ≡ deep_with left = rw is at h in absurd cc
  too_deep_at left (is_done tree (t ∷ back) is) h = let wrong : stopped_with (length (t ∷ back)) ≡ deep_with left = rw is at h in absurd cc
  too_deep_at left (is_stop rest is) h = let wrong : stopped_with (length rest) ≡ deep_with left = rw is at h in absurd cc
  too_deep_at left (is_deep rest is) h =
      let why : deep_with (length rest) ≡ deep_with left = rw is at h in
      let same : length rest ≡ left = cc in
      subst (λ n. At too_deep tokens end (span_at tokens end n)) same (deep_at rest is)

  fault_at : (e : Halt) → Halts e (whole (run tokens)) → OnFault (error_at e tokens end) (HasSyntaxFault tokens end)
  fault_at (halt.Expected left) h = expected_at left (case_of (run tokens)) h
  fault_at (halt.TooDeep left) h = too_deep_at left (case_of (run tokens)) h
  fault_at halt.Memory h = tt

-- the same of what the parser reads
pub tree_there : (tokens : List Token) (tree : List Contract) → whole (all_programs most_open tokens) ≡ done tree [] → HasTree tokens tree
tree_there tokens tree is = tree_at (all_programs most_open) contract_first contract_first whole_laws tokens tree (case_of (all_programs most_open tokens)) is

pub fault_there : (e : Halt) (tokens : List Token) (end : Span) → Halts e (whole (all_programs most_open tokens)) → OnFault (error_at e tokens end) (HasSyntaxFault tokens end)
fault_there e tokens end is = fault_at (all_programs most_open) contract_first contract_first whole_laws tokens end e is
