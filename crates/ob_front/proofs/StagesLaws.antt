-- A text has one tree at most, one class table, and one first fault up to names and types.
use Rattle.std.proofs.Common.{ℕ, ◌≡◌, ◌⊎◌, inl, inr, List, refl, sym, ap, ◌∙◌, subst}
use Rattle.ob_base.specs.declared.fault.ProgramFault.{ProgramFault}
use Rattle.ob_lexer.specs.Lexis.{HasTokens}
use Rattle.ob_lexer.specs.declared.token.Token.{Token}
use Rattle.ob_lexer.specs.declared.lexer.Lexed.{Lexed}
use Rattle.ob_base.specs.declared.text_error.TextError.{TextError}
use Rattle.ob_base.specs.declared.text_error.TextError.TheVariants.{Fault, Memory}
use Rattle.ob_lexer.specs.Flaws.{HasFault}
use Rattle.ob_base.specs.TextErrors.{OnFault}
use Rattle.ob_lexer.proofs.Readings as lexed'
use Rattle.ob_tree.specs.Members.{Contract}
use Rattle.ob_parser_spec.specs.Grammar.{HasTree, HasSyntaxFault}
use Rattle.ob_parser_spec.proofs.ParserLaws as parsed'
use Rattle.ob_parser_laws.proofs.ContractShapes.{tree_shape}
use Rattle.ob_table.specs.Tables.{ClassTable}
use Rattle.ob_resolve_spec.specs.Faults.{HasNoFault}
use Rattle.ob_resolve_spec.specs.TableOf.{table_of}
use Rattle.ob_resolve_laws.proofs.TableLaws.{table_conditions_lem, bodies_well_formed_lem, bodies_there_lem}
use Rattle.ob_resolve.specs.Resolving.{IsFirstFault, HasClassTable}
use Rattle.ob_resolve.proofs.ResolvingLaws.{never_table_and_fault_lem, one_first_fault_lem, table_or_fault_lem}
use Rattle.ob_resolve_spec.specs.Generics.{HasNoGenerics}
use Rattle.ob_resolve_spec.specs.Shape.{HasShape}
use Rattle.ob_generic_spec.specs.TypeFaults.{HasNoTypeFault, IsFirstTypeFault}
use Rattle.ob_generic_spec.specs.InstanceTrees.{instance_tree}
use Rattle.ob_generic_laws.proofs.Bare.{bare_tree}
use Rattle.ob_generic_laws.proofs.Shapes as instances'
use Rattle.ob_generic.specs.Instantiating.{HasInstanceTree}
use Rattle.ob_generic.proofs.MakingLaws as made'
use Rattle.ob_front.specs.Stages.{IsTreeOf, IsInstanceTreeOf, IsResolved, HasTable, IsWellFormedTable, HasTreeFault, at_token, at_row, HasTableFault, at_tree, at_type, at_site}

-- ---- trees

same_tokens : (text : List ℕ) (a b : List Contract) (one : IsTreeOf text a) (other : IsTreeOf text b) → one.lexed ≡ other.lexed
same_tokens text a b one other = lexed'.one_reading_lem text one.lexed other.lexed one.spelled other.spelled

-- texts with the same tokens have the same tree
one_tree_of : (a b : Lexed) (tree other : List Contract) → a ≡ b → HasTree a.tokens tree → HasTree b.tokens other → tree ≡ other
one_tree_of a b tree other same one two = parsed'.one_tree_lem b.tokens tree other (subst (λ (l : Lexed). HasTree l.tokens tree) same one) two

pub one_tree : (text : List ℕ) (a b : List Contract) → IsTreeOf text a → IsTreeOf text b → a ≡ b
one_tree text a b one other = one_tree_of one.lexed other.lexed a b (same_tokens text a b one other) one.parsed other.parsed

-- and one tree of instances
pub one_made : (text : List ℕ) (a b : List Contract) → IsInstanceTreeOf text a → IsInstanceTreeOf text b → a ≡ b
one_made text a b one other = one.is ∙ ap instance_tree (one_tree text one.tree other.tree one.of other.of) ∙ sym other.is

-- ---- what is told of a text

-- of a text without tokens
pub no_tokens : (text : List ℕ) (cause : TextError) → OnFault cause (HasFault text) → OnFault cause (HasTreeFault text)
no_tokens text (Fault fault) has = at_token has
no_tokens text Memory has = tt

pub told_of_text : (text : List ℕ) (cause : TextError) → OnFault cause (HasFault text) → OnFault cause (HasTableFault text)
told_of_text text (Fault fault) has = at_tree (at_token has)
told_of_text text Memory has = tt

-- of one whose tokens have no tree
row_of : (text : List ℕ) (lexed : Lexed) (slice : List Token) (fault : ProgramFault) → HasTokens text lexed → slice ≡ lexed.tokens → HasSyntaxFault slice lexed.end fault → HasTreeFault text fault
row_of text lexed slice fault spelled whole has = at_row lexed spelled (subst (λ ts. HasSyntaxFault ts lexed.end fault) whole has)

pub no_tree : (text : List ℕ) (lexed : Lexed) (slice : List Token) (cause : TextError) → HasTokens text lexed → slice ≡ lexed.tokens → OnFault cause (HasSyntaxFault slice lexed.end) → OnFault cause (HasTreeFault text)
no_tree text lexed slice (Fault fault) spelled whole has = row_of text lexed slice fault spelled whole has
no_tree text lexed slice Memory spelled whole has = tt

pub told_of_tokens : (text : List ℕ) (lexed : Lexed) (slice : List Token) (cause : TextError) → HasTokens text lexed → slice ≡ lexed.tokens → OnFault cause (HasSyntaxFault slice lexed.end) → OnFault cause (HasTableFault text)
told_of_tokens text lexed slice (Fault fault) spelled whole has = at_tree (row_of text lexed slice fault spelled whole has)
told_of_tokens text lexed slice Memory spelled whole has = tt

-- of one whose tree of instances has a fault
pub told_of_tree : (text : List ℕ) (made : List Contract) (cause : TextError) → IsInstanceTreeOf text made → OnFault cause (IsFirstFault made) → OnFault cause (HasTableFault text)
told_of_tree text made (Fault fault) is has = at_site made is has
told_of_tree text made Memory is has = tt

-- the tree that the tokens of a slice have is that of the text
abbrev pub tree_is : (text : List ℕ) (lexed : Lexed) (slice : List Token) (tree : List Contract) → HasTokens text lexed → slice ≡ lexed.tokens → HasTree slice tree → IsTreeOf text tree
tree_is text lexed slice tree spelled whole has = record { lexed = lexed; spelled = spelled; parsed = subst (λ ts. HasTree ts tree) whole has }

-- the tree of the instances of the text's tree is that of the text
pub made_is : (text : List ℕ) (lexed : Lexed) (slice : List Token) (tree made : List Contract) → HasTokens text lexed → slice ≡ lexed.tokens → HasTree slice tree → HasInstanceTree tree made → IsInstanceTreeOf text made
made_is text lexed slice tree made spelled whole parsed has =
    record { tree = tree; of = tree_is text lexed slice tree spelled whole parsed; right = has.clean; is = has.is }

-- and a fault of its types is told of the text
pub told_of_types : (text : List ℕ) (lexed : Lexed) (slice : List Token) (tree : List Contract) (cause : TextError) → HasTokens text lexed → slice ≡ lexed.tokens → HasTree slice tree → OnFault cause (IsFirstTypeFault tree) → OnFault cause (HasTableFault text)
told_of_types text lexed slice tree (Fault fault) spelled whole parsed has = at_type tree (tree_is text lexed slice tree spelled whole parsed) has
told_of_types text lexed slice tree Memory spelled whole parsed has = tt

-- it has no generics
pub no_generics : (text : List ℕ) (made : List Contract) → IsInstanceTreeOf text made → HasNoGenerics made
no_generics text made is = subst HasNoGenerics (sym is.is) (bare_tree is.tree)

-- the class table of a tree of instances is that of its text
pub table_is : (text : List ℕ) (made : List Contract) (table : ClassTable) → IsInstanceTreeOf text made → HasClassTable made table → HasTable text table
table_is text made table is has = record { resolved = record { made = made; is = is; clean = has.clean }; is = has.is }

-- a tree of the instances of a text's tree has the shape of a text's, so its table is well-formed
shape_of : (text : List ℕ) (made : List Contract) → IsInstanceTreeOf text made → HasShape made
shape_of text made is =
    subst HasShape (sym is.is) (instances'.tree_shape is.tree (tree_shape text is.of.lexed is.tree is.of.spelled is.of.parsed))

well_formed_of : (text : List ℕ) (made : List Contract) → IsInstanceTreeOf text made → HasNoFault made → IsWellFormedTable (table_of made)
well_formed_of text made is clean =
    let shape = shape_of text made is in
    record { conditions = table_conditions_lem made shape clean; bodies = bodies_well_formed_lem made shape clean; each = bodies_there_lem made shape clean }

pub well_formed : (text : List ℕ) (table : ClassTable) → HasTable text table → IsWellFormedTable table
well_formed text table has = subst IsWellFormedTable (sym has.is) (well_formed_of text has.resolved.made has.resolved.is has.resolved.clean)

-- ---- laws

-- tokens that have a tree have no fault
tree_or_fault : (text : List ℕ) (a b : Lexed) (tree : List Contract) (fault : ProgramFault) → HasTokens text a → HasTokens text b → HasTree a.tokens tree → ¬ (HasSyntaxFault b.tokens b.end fault)
tree_or_fault text a b tree fault one other is has =
    let same = lexed'.one_reading_lem text a b one other in
    parsed'.never_tree_and_fault_lem b.tokens tree b.end fault (subst (λ (l : Lexed). HasTree l.tokens tree) same is) has

-- a text with a tree has no fault of its tokens, nor of the grammar
tree_or_token : (text : List ℕ) (tree : List Contract) (fault : ProgramFault) → IsTreeOf text tree → ¬ (HasFault text fault)
tree_or_token text tree fault is has = lexed'.never_tokens_and_fault_lem text is.lexed fault is.spelled has

tree_or_row : (text : List ℕ) (tree : List Contract) (lexed : Lexed) (fault : ProgramFault) → IsTreeOf text tree → HasTokens text lexed → ¬ (HasSyntaxFault lexed.tokens lexed.end fault)
tree_or_row text tree lexed fault is spelled has = tree_or_fault text is.lexed lexed tree fault is.spelled spelled is.parsed has

-- a text with a tree of instances has no fault of its types
made_or_type : (text : List ℕ) (made tree : List Contract) (fault : ProgramFault) → IsInstanceTreeOf text made → IsTreeOf text tree → ¬ (IsFirstTypeFault tree fault)
made_or_type text made tree fault is of has =
    made'.never_both is.tree fault (subst (λ t. IsFirstTypeFault t fault) (one_tree text tree is.tree of is.of) has) is.right

-- nor two of the grammar
one_row_fault : (text : List ℕ) (a b : Lexed) (fault other : ProgramFault) → HasTokens text a → HasTokens text b → HasSyntaxFault a.tokens a.end fault → HasSyntaxFault b.tokens b.end other → fault ≡ other
one_row_fault text a b fault other one two has more =
    let same = lexed'.one_reading_lem text a b one two in
    parsed'.one_fault_lem b.tokens b.end fault other (subst (λ (l : Lexed). HasSyntaxFault l.tokens l.end fault) same has) more

-- nor two of types
one_type : (text : List ℕ) (tree other : List Contract) (a b : ProgramFault) → IsTreeOf text tree → IsTreeOf text other → IsFirstTypeFault tree a → IsFirstTypeFault other b → a ≡ b
one_type text tree other a b one two has more = made'.one_first other a b (subst (λ t. IsFirstTypeFault t a) (one_tree text tree other one two) has) more

one_site : (text : List ℕ) (made other : List Contract) (a b : ProgramFault) → IsInstanceTreeOf text made → IsInstanceTreeOf text other → IsFirstFault made a → IsFirstFault other b → a ≡ b
one_site text made other a b one two has more = one_first_fault_lem other a b (subst (λ t. IsFirstFault t a) (one_made text made other one two) has) more

-- a text without a tree has none
pub tree_or_none : (text : List ℕ) (tree : List Contract) (fault : ProgramFault) → IsTreeOf text tree → ¬ (HasTreeFault text fault)
tree_or_none text tree fault is (at_token has) = tree_or_token text tree fault is has
tree_or_none text tree fault is (at_row lexed spelled has) = tree_or_row text tree lexed fault is spelled has

-- a text without a fault up to names and types has none of these
pub resolved_or_fault_lem : (text : List ℕ) (fault : ProgramFault) → HasTableFault text fault → ¬ (IsResolved text)
resolved_or_fault_lem text fault (at_tree has) is = tree_or_none text is.is.tree fault is.is.of has
resolved_or_fault_lem text fault (at_type tree of has) is = made_or_type text is.made tree fault is.is of has
resolved_or_fault_lem text fault (at_site made of has) is =
    never_table_and_fault_lem is.made fault (subst (λ t. IsFirstFault t fault) (one_made text made is.made of is.is) has) is.clean

one_tree_fault : (text : List ℕ) (a b : ProgramFault) → HasTreeFault text a → HasTreeFault text b → a ≡ b
one_tree_fault text a b (at_token p) (at_token q) = lexed'.one_fault_lem text a b p q
one_tree_fault text a b (at_token p) (at_row lexed spelled q) = absurd (lexed'.never_tokens_and_fault_lem text lexed a spelled p)
one_tree_fault text a b (at_row lexed spelled p) (at_token q) = absurd (lexed'.never_tokens_and_fault_lem text lexed b spelled q)
one_tree_fault text a b (at_row lexed spelled p) (at_row other spelled' q) = one_row_fault text lexed other a b spelled spelled' p q

-- nor has any text two of them
pub one_table_fault_lem : (text : List ℕ) (a b : ProgramFault) → HasTableFault text a → HasTableFault text b → a ≡ b
one_table_fault_lem text a b (at_tree p) (at_tree q) = one_tree_fault text a b p q
one_table_fault_lem text a b (at_tree p) (at_type tree of q) = absurd (tree_or_none text tree a of p)
one_table_fault_lem text a b (at_tree p) (at_site made is q) = absurd (tree_or_none text is.tree a is.of p)
one_table_fault_lem text a b (at_type tree of p) (at_tree q) = absurd (tree_or_none text tree b of q)
one_table_fault_lem text a b (at_type tree of p) (at_type other of' q) = one_type text tree other a b of of' p q
one_table_fault_lem text a b (at_type tree of p) (at_site made is q) = absurd (made_or_type text made tree a is of p)
one_table_fault_lem text a b (at_site made is p) (at_tree q) = absurd (tree_or_none text is.tree b is.of q)
one_table_fault_lem text a b (at_site made is p) (at_type tree of q) = absurd (made_or_type text made tree b is of q)
one_table_fault_lem text a b (at_site made is p) (at_site other is' q) = one_site text made other a b is is' p q

-- a text has one class table at most
pub one_table : (text : List ℕ) (a b : ClassTable) → HasTable text a → HasTable text b → a ≡ b
one_table text a b one other =
    one.is ∙ ap table_of (one_made text one.resolved.made other.resolved.made one.resolved.is other.resolved.is) ∙ sym other.is

-- one with a class table has no fault up to names and types
pub table_or_none : (text : List ℕ) (table : ClassTable) (fault : ProgramFault) → HasTable text table → ¬ (HasTableFault text fault)
table_or_none text table fault has none = resolved_or_fault_lem text fault none has.resolved

-- ---- a text with a tree has a class table or such a fault

-- where its types have no fault, by the names and types in the tree of its instances
table_or_site : (text : List ℕ) (made : List Contract) → IsInstanceTreeOf text made
    → HasNoFault made ⊎ ((fault : ProgramFault) × IsFirstFault made fault)
    → ((table : ClassTable) × HasTable text table) ⊎ ((fault : ProgramFault) × HasTableFault text fault)
table_or_site text made is (inl clean) =
    inl (table_of made, record { resolved = record { made = made; is = is; clean = clean }; is = refl })
table_or_site text made is (inr has) = inr (has.0, at_site made is has.1)

table_or_type : (text : List ℕ) (tree : List Contract) → IsTreeOf text tree
    → HasNoTypeFault tree ⊎ ((fault : ProgramFault) × IsFirstTypeFault tree fault)
    → ((table : ClassTable) × HasTable text table) ⊎ ((fault : ProgramFault) × HasTableFault text fault)
table_or_type text tree of (inl right) =
    table_or_site text (instance_tree tree) (record { tree = tree; of = of; right = right; is = refl })
    (table_or_fault_lem (instance_tree tree))
table_or_type text tree of (inr has) = inr (has.0, at_type tree of has.1)

pub table_or_table_fault_lem : (text : List ℕ) (tree : List Contract) → IsTreeOf text tree
    → ((table : ClassTable) × HasTable text table) ⊎ ((fault : ProgramFault) × HasTableFault text fault)
table_or_table_fault_lem text tree of = table_or_type text tree of (made'.either tree)
