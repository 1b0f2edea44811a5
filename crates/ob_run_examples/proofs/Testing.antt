-- A text is accepted where the test of each stage, computed, says yes.
use Rattle.std.proofs.Common.{ℕ, ◌≡◌, Bool, true, false, ◌&&◌, nat_le, List, [], ◌∷◌, length, Result, Ok, Err, refl, sym, subst, arith}
use Rattle.std.specs.Prelude.{All, IsOk, is_ok, Option, None, Some, is_none, flat_map}
use Rattle.std.specs.Str.{is_utf8}
use Rattle.std.proofs.lemmas.Bool.{true≢false, and_parts, leb-true}
use Rattle.std.proofs.lemmas.List.Elements.{All-cons}
use Rattle.std.proofs.lemmas.Str.{IsUtf8-from_is_utf8}
use Rattle.ob_base.specs.Limits.{longest_program, most_open, most_weight}
use Rattle.ob_lexer.specs.declared.token.Token.{Token}
use Rattle.ob_tree.specs.Members.{Contract}
use Rattle.ob_parser_spec.specs.AllReaders.{all_programs}
use Rattle.ob_parser_spec.specs.Grammar.{HasTree}
use Rattle.ob_parser_spec.specs.Readers.{Read, done, stop, deep}
use Rattle.ob_parser.specs.Parsing.{whole}
use Rattle.ob_parser.proofs.Whole.{tree_there}
use Rattle.ob_resolve_spec.specs.Faults.{faults_of}
use Rattle.ob_resolve_spec.specs.Generics.{HasNoGenerics, arguments_in_contract}
use Rattle.ob_resolve_spec.specs.TableOf.{table_of}
use Rattle.ob_generic_laws.proofs.Same.{same_tree}
use Rattle.ob_generic_laws.proofs.Untyped.{no_type_fault}
use Rattle.ob_store_spec.specs.Settling.{is_empty}
use Rattle.ob_table.specs.Statements.{ResolvedBody}
use Rattle.ob_table.specs.Tables.{ClassTable}
use Rattle.ob_silica.specs.Terms.{SilicaBody}
use Rattle.ob_lower_functions.specs.BodyCode.{body_code}
use Rattle.ob_flow_spec.specs.Deriving.{derive_body, Derives}
use Rattle.ob_emit_spec.specs.Weights.{weight}
use Rattle.ob_front.specs.Lowered.{AreLoweredTo}
use Rattle.ob_front.specs.Stages.{HasTable}
use Rattle.ob_front.specs.Programs.{IsProgram, IsAccepted}
use Rattle.ob_run_examples.proofs.Lexing.{reading, lexed, has_tokens}

never : false ≡ true → ⊥
never is = true≢false (sym is)

nothing : {A : Type 0} (xs : List A) → is_empty xs ≡ true → xs ≡ []
nothing [] is = refl
nothing (x ∷ xs) is = absurd (never is)

-- ---- the tree

-- whether all was read
abbrev pub is_read : Read (List Contract) → Bool
is_read (done tree []) = true
is_read (done tree (t ∷ ts)) = false
is_read (stop rest) = false
is_read (deep rest) = false

-- what was read
abbrev pub tree_in : Read (List Contract) → List Contract
tree_in (done tree rest) = tree
tree_in (stop rest) = []
tree_in (deep rest) = []

all_read : (read : Read (List Contract)) → is_read read ≡ true → whole read ≡ done (tree_in read) []
all_read (done tree []) is = refl
all_read (done tree (t ∷ ts)) is = absurd (never is)
all_read (stop rest) is = absurd (never is)
all_read (deep rest) is = absurd (never is)

-- whether no contract has a type parameter
abbrev pub are_plain : List Contract → Bool
are_plain [] = true
are_plain (c ∷ cs) = is_none c.param && are_plain cs

has_none : {A : Type 0} (o : Option A) → is_none o ≡ true → o ≡ None
has_none None is = refl
has_none (Some x) is = absurd (never is)

all_plain : (cs : List Contract) → are_plain cs ≡ true → All (λ (c : Contract). c.param ≡ None) cs
all_plain [] is = λ k d less. absurd (omega (arith, less))
all_plain (c ∷ cs) is =
    let parts = and_parts (is_none c.param) (are_plain cs) is in
    All-cons (λ (x : Contract). x.param ≡ None) c cs (has_none c.param parts.0) (all_plain cs parts.1)

-- ---- the bodies

-- the terms of a body, if it has some, before those of others
abbrev pub with_body : {E : Type 0} → Result SilicaBody E → List SilicaBody → List SilicaBody
with_body (Ok body) bodies = body ∷ bodies
with_body (Err e) bodies = bodies

-- the terms of bodies
abbrev pub bodies_from : ClassTable → List ResolvedBody → List SilicaBody
bodies_from table [] = []
bodies_from table (b ∷ bs) = with_body (body_code table b) (bodies_from table bs)

-- whether each body has terms
abbrev pub are_lowered : ClassTable → List ResolvedBody → Bool
are_lowered table [] = true
are_lowered table (b ∷ bs) = is_ok (body_code table b) && are_lowered table bs

-- a body that has terms
pub record HasBody {E : Type 0} (code : Result SilicaBody E) (bodies : List SilicaBody) : Type 0 where
  pub body : SilicaBody
  pub is : code ≡ Ok body
  pub first : with_body code bodies ≡ body ∷ bodies

has_body : {E : Type 0} (code : Result SilicaBody E) (bodies : List SilicaBody) → is_ok code ≡ true → HasBody code bodies
has_body (Ok body) bodies is = record { body = body; is = refl; first = refl }
has_body (Err e) bodies is = absurd (never is)

all_lowered : (table : ClassTable) (bodies : List ResolvedBody) → are_lowered table bodies ≡ true → AreLoweredTo table bodies (bodies_from table bodies)
all_lowered table [] is = tt
all_lowered table (b ∷ bs) is =
    let parts = and_parts (is_ok (body_code table b)) (are_lowered table bs) is in
    let one = has_body (body_code table b) (bodies_from table bs) parts.0 in
    subst (λ (ls : List SilicaBody). AreLoweredTo table (b ∷ bs) ls) (sym one.first) (one.is, all_lowered table bs parts.1)

-- whether each body derives
abbrev pub do_derive : ClassTable → List SilicaBody → Bool
do_derive table [] = true
do_derive table (b ∷ bs) = is_ok (derive_body table b) && do_derive table bs

is_fine : {A E : Type 0} (r : Result A E) → is_ok r ≡ true → IsOk r
is_fine r is = is

all_derive : (table : ClassTable) (bodies : List SilicaBody) → do_derive table bodies ≡ true → All (Derives table) bodies
all_derive table [] is = λ k d less. absurd (omega (arith, less))
all_derive table (b ∷ bs) is =
    let parts = and_parts (is_ok (derive_body table b)) (do_derive table bs) is in
    All-cons (Derives table) b bs (is_fine (derive_body table b) parts.0) (all_derive table bs parts.1)

-- ---- all stages

-- what is computed of a text, in so many steps of its tokens
unfoldable pub tokens : ℕ → List ℕ → List Token
tokens n text = (reading n text).tokens

unfoldable pub tree : ℕ → List ℕ → List Contract
tree n text = tree_in (all_programs most_open (tokens n text))

unfoldable pub table : ℕ → List ℕ → ClassTable
table n text = table_of (tree n text)

unfoldable pub bodies : ℕ → List ℕ → List SilicaBody
bodies n text = bodies_from (table n text) (table n text).bodies

-- the test of each stage says yes
pub record Passes (n : ℕ) (text : List ℕ) : Type 0 where
  pub short : nat_le (length text) longest_program ≡ true
  pub utf8 : is_utf8 text ≡ true
  pub to_end : is_empty (reading n text).rest ≡ true
  pub read : is_read (all_programs most_open (tokens n text)) ≡ true
  pub plain : are_plain (tree n text) ≡ true
  pub unapplied : is_empty (flat_map arguments_in_contract (tree n text)) ≡ true
  pub clean : is_empty (faults_of (tree n text)) ≡ true
  pub lowered : are_lowered (table n text) (table n text).bodies ≡ true
  pub derive : do_derive (table n text) (bodies n text) ≡ true
  pub light : nat_le (weight (table n text) (bodies n text)) most_weight ≡ true

module _ (n : ℕ) (text : List ℕ) (passes : Passes n text) where
  has_tree : HasTree (tokens n text) (tree n text)
  unfolding tree
  has_tree = tree_there (tokens n text) (tree n text) (all_read (all_programs most_open (tokens n text)) passes.read)

  has_no_generics : HasNoGenerics (tree n text)
  has_no_generics = record {
    no_parameter = all_plain (tree n text) passes.plain;
    no_argument = nothing (flat_map arguments_in_contract (tree n text)) passes.unapplied;
  }

  has_table : HasTable text (table n text)
  unfolding tokens table
  has_table = record {
    resolved = record {
      made = tree n text;
      is = record {
        tree = tree n text;
        of = record {
          lexed = lexed n text;
          spelled = has_tokens n text (leb-true (length text) longest_program passes.short) (IsUtf8-from_is_utf8 text passes.utf8) (nothing (reading n text).rest passes.to_end);
          parsed = has_tree;
        };
        right = no_type_fault (tree n text) has_no_generics;
        is = sym (same_tree (tree n text) has_no_generics);
      };
      clean = nothing (faults_of (tree n text)) passes.clean;
    };
    is = refl;
  }

  pub is_program : IsProgram text (table n text) (bodies n text)
  unfolding bodies
  is_program = record {
    checked = record {
      terms = record { has = has_table; lowered = all_lowered (table n text) (table n text).bodies passes.lowered };
      derive = all_derive (table n text) (bodies n text) passes.derive;
    };
    light = leb-true (weight (table n text) (bodies n text)) most_weight passes.light;
  }

  pub is_accepted : IsAccepted text
  is_accepted = record { table = table n text; bodies = bodies n text; is = is_program }
