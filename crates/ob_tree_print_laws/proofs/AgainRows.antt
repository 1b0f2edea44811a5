-- Rows whose canonical layout is read again: tokens of its kinds spell the same but for places, and each of its kinds is a
-- word, a sign or the kind of a token that was read.
use Rattle.std.proofs.Common.{ℕ, ◌≡◌, Bool, true, false, if◌then◌else◌, List, [], ◌∷◌, ◌++◌, Option, Some, None, option_map, flat_map, map, inl, inr, refl, sym, ap, ap₂, subst, ◌∙◌, append-nil}
use Rattle.std.specs.Prelude.{⊤}
use Rattle.ob_base.specs.declared.fault.Span.{Span}
use Rattle.ob_lexer.specs.declared.token.Token.{Token}
use Rattle.ob_lexer.specs.declared.token.TokenKind.{TokenKind}
use Rattle.ob_lexer.specs.declared.token.TokenKind.TheVariants as kind
use Rattle.ob_lexer.specs.declared.token.Word.{Word}
use Rattle.ob_lexer.specs.declared.token.Sign.{Sign}
use Rattle.ob_parser_spec.specs.Rows.{Row, Loaded, Covers, never, nothing, either, provided, loaded, word, sign, ◌⨟◌, raise, raised, counted, flag, maybe, each, parted, maybe_parted, spanning}
use Rattle.ob_parser_spec.specs.Grammar.{tokens_of}
use Rattle.ob_parser_spec.specs.Readers.{span_of_tokens}
use Rattle.ob_parser_spec.proofs.Spanned.{covers}

infixr 5 ◌before◌
-- the kinds of tokens
abbrev pub kinds : List Token → List TokenKind
kinds ts = map (λ (t : Token). t.kind) ts

-- this holds of each of the kinds
abbrev pub AllKinds : (TokenKind → Type 0) → List TokenKind → Type 0
AllKinds P [] = ⊤
AllKinds P (k ∷ ks) = P k × AllKinds P ks

-- what holds of each word, of each sign and of each of the old kinds holds of each of the new
abbrev pub Within : List TokenKind → List TokenKind → Type 1
Within old new = (P : TokenKind → Type 0) → ((w : Word) → P (kind.Word w)) → ((s : Sign) → P (kind.Sign s)) → AllKinds P old → AllKinds P new

-- the row reads these tokens, with some loads
abbrev pub Spells : Row → List Token → Type 0
Spells row ts = (loads : List Loaded) × (tokens_of loads ≡ ts) × row loads

-- what a row reads, laid out as these kinds, is read again
pub record Laid (reads again : Row) (layout : List TokenKind) : Type 1 where
  pub can : (read : List Loaded) → reads read → (ts : List Token) → kinds ts ≡ layout → Spells again ts
  pub within : (read : List Loaded) → reads read → Within (kinds (tokens_of read)) layout

-- a row for what is the same as this but for places
abbrev pub alike : {A : Type 0} → (A → Row) → (A → A) → A → Row
alike {A} row plain x read = (y : A) × row y read × (plain y ≡ plain x)

-- what a row says of a thing is read again as a thing that is the same but for places
abbrev pub Again : {A : Type 0} → (A → Row) → (A → A) → (A → List TokenKind) → Type 1
Again {A} row plain layout = (x : A) → Laid (row x) (alike row plain x) (layout x)

-- ---- tokens and kinds

pub tokens-append : (a b : List Loaded) → tokens_of (a ++ b) ≡ tokens_of a ++ tokens_of b
tokens-append [] b = refl
tokens-append (l ∷ ls) b = ap (λ ts. l.token ∷ ts) (tokens-append ls b)

pub tokens_raised : (n : ℕ) (ls : List Loaded) → tokens_of (map (raise n) ls) ≡ tokens_of ls
tokens_raised n [] = refl
tokens_raised n (l ∷ ls) = ap (λ ts. l.token ∷ ts) (tokens_raised n ls)

kinds-append : (a b : List Token) → kinds (a ++ b) ≡ kinds a ++ kinds b
kinds-append [] b = refl
kinds-append (t ∷ ts) b = ap (λ ks. t.kind ∷ ks) (kinds-append ts b)

kinds_joined : (read front back : List Loaded) → read ≡ front ++ back → kinds (tokens_of read) ≡ kinds (tokens_of front) ++ kinds (tokens_of back)
kinds_joined read front back e = ap (λ r. kinds (tokens_of r)) e ∙ ap kinds (tokens-append front back) ∙ kinds-append (tokens_of front) (tokens_of back)

all_joined : (P : TokenKind → Type 0) (a b : List TokenKind) → AllKinds P a → AllKinds P b → AllKinds P (a ++ b)
all_joined P [] b front back = back
all_joined P (k ∷ ks) b front back = (front.0, all_joined P ks b front.1 back)

all_front : (P : TokenKind → Type 0) (a b : List TokenKind) → AllKinds P (a ++ b) → AllKinds P a
all_front P [] b all = tt
all_front P (k ∷ ks) b all = (all.0, all_front P ks b all.1)

all_back : (P : TokenKind → Type 0) (a b : List TokenKind) → AllKinds P (a ++ b) → AllKinds P b
all_back P [] b all = all
all_back P (k ∷ ks) b all = all_back P ks b all.1

-- tokens whose kinds come in two parts
record Cut (a b : List TokenKind) (ts : List Token) : Type 0 where
  front : List Token
  back : List Token
  parts : ts ≡ front ++ back
  front_is : kinds front ≡ a
  back_is : kinds back ≡ b

cut : (a b : List TokenKind) (ts : List Token) → kinds ts ≡ a ++ b → Cut a b ts
cut [] b ts e = record { front = []; back = ts; parts = refl; front_is = refl; back_is = e }
cut (k ∷ ks) b [] e = absurd cc
cut (k ∷ ks) b (t ∷ ts) e =
    let same : t.kind ≡ k = cc in
    let more : kinds ts ≡ ks ++ b = cc in
    let r = cut ks b ts more in
    record { front = t ∷ r.front; back = r.back; parts = ap (λ l. t ∷ l) r.parts; front_is = ap (λ l. t.kind ∷ l) r.front_is ∙ ap (λ l. l ∷ ks) same; back_is = r.back_is }

-- ---- tokens

spells_one : (k : TokenKind) (load : ℕ) (ts : List Token) → kinds ts ≡ k ∷ [] → Spells (λ read. (span : Span) × loaded k span load read) ts
spells_one k load [] e = absurd cc
spells_one k load (t ∷ []) e =
    let same : t.kind ≡ k = cc in
    (record { token = t; load = load } ∷ [], refl, (t.span, ap (λ (x : TokenKind). record { token = record { kind = x; span = t.span }; load = load } ∷ []) same))
spells_one k load (t ∷ u ∷ ts) e = absurd cc

-- a token that may be anywhere
pub token_laid : (k : TokenKind) (load : ℕ) → Laid (λ read. (span : Span) × loaded k span load read) (λ read. (span : Span) × loaded k span load read) (k ∷ [])
token_laid k load = record {
  can = λ read is ts e. spells_one k load ts e;
  within = λ read is P words signs all. rw (ap (λ r. kinds (tokens_of r)) is.1) at all;
}

-- a token at a place
pub span_laid : (k : TokenKind) (span : Span) (load : ℕ) → Laid (loaded k span load) (λ read. (s : Span) × loaded k s load read) (k ∷ [])
span_laid k span load = record {
  can = λ read is ts e. spells_one k load ts e;
  within = λ read is P words signs all. rw (ap (λ r. kinds (tokens_of r)) is) at all;
}

pub word_laid : (w : Word) → Laid (word w) (word w) (kind.Word w ∷ [])
word_laid w = token_laid (kind.Word w) 0

pub sign_laid : (s : Sign) → Laid (sign s) (sign s) (kind.Sign s ∷ [])
sign_laid s = token_laid (kind.Sign s) 0

-- a sign that wasn't read
pub put_laid : {reads : Row} (s : Sign) (load : ℕ) → Laid reads (λ read. (span : Span) × loaded (kind.Sign s) span load read) (kind.Sign s ∷ [])
put_laid s load = record {
  can = λ read is ts e. spells_one (kind.Sign s) load ts e;
  within = λ read is P words signs all. (signs s, tt);
}

-- ---- rows put together

-- what is read again says this too
pub said_laid : {reads again others : Row} {layout : List TokenKind} → ((read : List Loaded) → again read → others read) → Laid reads again layout → Laid reads others layout
said_laid says a = record {
  can = λ read is ts e. let r = a.can read is ts e in (r.0, r.1, says r.0 r.2);
  within = a.within;
}

-- and so do these tokens with other loads
pub loads_laid : {reads again others : Row} {layout : List TokenKind} → ((read : List Loaded) → again read → Spells others (tokens_of read)) → Laid reads again layout → Laid reads others layout
loads_laid says a = record {
  can = λ read is ts e. let r = a.can read is ts e in let s = says r.0 r.2 in (s.0, s.1 ∙ r.1, s.2);
  within = a.within;
}

-- a row that says more of what was read
pub known_laid : {reads more again : Row} {layout : List TokenKind} → ((read : List Loaded) → more read → reads read) → Laid reads again layout → Laid more again layout
known_laid knows a = record {
  can = λ read is. a.can read (knows read is);
  within = λ read is. a.within read (knows read is);
}

-- what was read says this
pub then_laid : {reads again : Row} {layout : List TokenKind} {Holds : Type 0} → ((read : List Loaded) → reads read → Holds) → (Holds → Laid reads again layout) → Laid reads again layout
then_laid holds a = record {
  can = λ read is. (a (holds read is)).can read is;
  within = λ read is. (a (holds read is)).within read is;
}

-- the same layout
pub layout_laid : {reads again : Row} {layout others : List TokenKind} → layout ≡ others → Laid reads again layout → Laid reads again others
layout_laid {reads} {again} same a = subst (Laid reads again) same a

spells_none : (ts : List Token) → kinds ts ≡ [] → Spells nothing ts
spells_none [] e = ([], refl, refl)
spells_none (t ∷ ts) e = absurd cc

-- what isn't laid out
pub none_laid : {reads : Row} → Laid reads nothing []
none_laid = record {
  can = λ read is ts e. spells_none ts e;
  within = λ read is P words signs all. tt;
}

-- no tokens
pub nothing_laid : Laid nothing nothing []
nothing_laid = none_laid

-- what is never read
pub never_laid : {again : Row} {layout : List TokenKind} → Laid never again layout
never_laid = record { can = λ read is ts e. elim is [ ]; within = λ read is P words signs all. elim is [ ] }

-- the tokens of one row after those of another
pub ◌before◌ : {reads again others others_again : Row} {a b : List TokenKind} → Laid reads again a → Laid others others_again b → Laid (reads ⨟ others) (again ⨟ others_again) (a ++ b)
◌before◌ {a = a} {b = b} first second = record {
  can = λ read is ts e.
      let c = cut a b ts e in
      let f = first.can is.0 is.3 c.front c.front_is in
      let s = second.can is.1 is.4 c.back c.back_is in
      (f.0 ++ s.0, tokens-append f.0 s.0 ∙ ap (λ l. l ++ tokens_of s.0) f.1 ∙ ap (λ l. c.front ++ l) s.1 ∙ sym c.parts, (f.0, s.0, refl, f.2, s.2));
  within = λ read is P words signs all.
      let parts : AllKinds P (kinds (tokens_of is.0) ++ kinds (tokens_of is.1)) = subst (AllKinds P) (kinds_joined read is.0 is.1 is.2) all in
      all_joined P a b (first.within is.0 is.3 P words signs (all_front P (kinds (tokens_of is.0)) (kinds (tokens_of is.1)) parts)) (second.within is.1 is.4 P words signs (all_back P (kinds (tokens_of is.0)) (kinds (tokens_of is.1)) parts));
}

-- a row under so many more that are open
pub raised_laid : {reads again : Row} {layout : List TokenKind} → (n : ℕ) → Laid reads again layout → Laid (raised n reads) (raised n again) layout
raised_laid n a = record {
  can = λ read is ts e. let r = a.can is.0 is.2 ts e in (map (raise n) r.0, tokens_raised n r.0 ∙ r.1, (r.0, refl, r.2));
  within = λ read is P words signs all. a.within is.0 is.2 P words signs (subst (AllKinds P) (ap (λ l. kinds (tokens_of l)) is.1 ∙ ap kinds (tokens_raised n is.0)) all);
}

-- what was read under none
pub more_laid : {reads again : Row} {layout : List TokenKind} → (n : ℕ) → Laid reads again layout → Laid reads (raised n again) layout
more_laid n a = loads_laid (λ read is. (map (raise n) read, tokens_raised n read, (read, refl, is))) a

-- a row between two signs that count
pub counted_laid : {reads again : Row} {layout : List TokenKind} → (left right : Sign) → Laid reads again layout → Laid (counted left reads right) (counted left again right) (kind.Sign left ∷ (layout ++ (kind.Sign right ∷ [])))
counted_laid left right a = token_laid (kind.Sign left) 1 before raised_laid 1 a before sign_laid right

-- what another row reads, among these tokens
pub record Around (inner : Row) (read : List Loaded) : Type 1 where
  pub low : List Loaded
  pub is : inner low
  pub kept : (P : TokenKind → Type 0) → AllKinds P (kinds (tokens_of read)) → AllKinds P (kinds (tokens_of low))

pub around_itself : {row : Row} {read : List Loaded} → row read → Around row read
around_itself {read = read} is = record { low = read; is = is; kept = λ P all. all }

pub around_raised : {row : Row} (n : ℕ) (read low : List Loaded) → read ≡ map (raise n) low → Around row low → Around row read
around_raised n read low up r = record {
  low = r.low;
  is = r.is;
  kept = λ P all. r.kept P (subst (AllKinds P) (ap (λ l. kinds (tokens_of l)) up ∙ ap kinds (tokens_raised n low)) all);
}

pub around_middle : {row : Row} (read first others middle last : List Loaded) → read ≡ first ++ others → others ≡ middle ++ last → Around row middle → Around row read
around_middle read first others middle last parts more r = record {
  low = r.low;
  is = r.is;
  kept = λ P all.
      let back : AllKinds P (kinds (tokens_of others)) = all_back P (kinds (tokens_of first)) (kinds (tokens_of others)) (subst (AllKinds P) (kinds_joined read first others parts) all) in
      r.kept P (all_front P (kinds (tokens_of middle)) (kinds (tokens_of last)) (subst (AllKinds P) (kinds_joined others middle last more) back));
}

pub around_laid : {outer inner again : Row} {layout : List TokenKind} → ((read : List Loaded) → outer read → Around inner read) → Laid inner again layout → Laid outer again layout
around_laid inside a = record {
  can = λ read is ts e. let i = inside read is in a.can i.low i.is ts e;
  within = λ read is P words signs all. let i = inside read is in a.within i.low i.is P words signs (i.kept P all);
}

-- between two signs that count, but weren't read
pub enclosed_laid : {reads again : Row} {layout : List TokenKind} → (left right : Sign) → Laid reads again layout → Laid reads (counted left again right) (kind.Sign left ∷ (layout ++ (kind.Sign right ∷ [])))
enclosed_laid left right a = known_laid (λ read is. ([], read, refl, refl, (read, [], sym (append-nil read), is, refl))) (put_laid {reads = nothing} left 1 before more_laid 1 a before put_laid {reads = nothing} right 0)

-- a row that is read under so many more, and again under none
pub lower_laid : {reads again : Row} {layout : List TokenKind} → (n : ℕ) → Laid reads again layout → Laid (raised n reads) again layout
lower_laid n a = around_laid (λ read is. around_raised n read is.0 is.1 (around_itself is.2)) a

-- one of two rows
pub either_laid : {one other again : Row} {layout : List TokenKind} → Laid one again layout → Laid other again layout → Laid (either one other) again layout
either_laid a b = record {
  can = λ read is ts e. elim is [ inl one ↦ a.can read one ts e | inr other ↦ b.can read other ts e ];
  within = λ read is P words signs all. elim is [ inl one ↦ a.within read one P words signs all | inr other ↦ b.within read other P words signs all ];
}

-- a row where this holds
pub provided_laid : {reads again : Row} {layout : List TokenKind} → (holds : Type 0) → (holds → Laid reads again layout) → Laid (provided holds reads) again layout
provided_laid holds a = record {
  can = λ read is ts e. (a is.0).can read is.1 ts e;
  within = λ read is P words signs all. (a is.0).within read is.1 P words signs all;
}

-- a row for some thing
pub some_laid : {A : Type 0} {reads : A → Row} {again : Row} {layout : List TokenKind} → ((x : A) → Laid (reads x) again layout) → Laid (λ read. (x : A) × reads x read) again layout
some_laid a = record {
  can = λ read is ts e. (a is.0).can read is.1 ts e;
  within = λ read is P words signs all. (a is.0).within read is.1 P words signs all;
}

-- ---- places

-- some kinds
abbrev pub Filled : List TokenKind → Type 0
Filled [] = ⊥
Filled (k ∷ ks) = ⊤

pub filled_after : (a : List TokenKind) (k : TokenKind) (b : List TokenKind) → Filled (a ++ k ∷ b)
filled_after [] k b = tt
filled_after (x ∷ xs) k b = tt

covers_filled : (loads : List Loaded) → Filled (kinds (tokens_of loads)) → Covers (span_of_tokens (tokens_of loads)) loads
covers_filled [] full = absurd full
covers_filled (l ∷ ls) full = covers l ls

-- a row and the place of its tokens
abbrev pub some_span : (Span → Row) → Row
some_span row read = (span : Span) × spanning span (row span) read

-- what is read again has some place
pub some_span_laid : {reads again : Row} {layout : List TokenKind} → Filled layout → Laid reads again layout → Laid reads (some_span (λ s. again)) layout
some_span_laid {layout = layout} full a = record {
  can = λ read is ts e.
      let r = a.can read is ts e in
      let filled : Filled (kinds (tokens_of r.0)) = subst Filled (sym e ∙ ap kinds (sym r.1)) full in
      (r.0, r.1, (span_of_tokens (tokens_of r.0), (covers_filled r.0 filled, r.2)));
  within = a.within;
}

pub spanned_laid : {reads again : Row} {layout : List TokenKind} → (span : Span) → Filled layout → Laid reads again layout → Laid (spanning span reads) (some_span (λ s. again)) layout
spanned_laid span full a = known_laid (λ read is. is.1) (some_span_laid full a)

-- ---- what may be missing, and lists

pub flag_laid : (w : Word) (b : Bool) → Laid (flag w b) (flag w b) (if b then kind.Word w ∷ [] else [])
flag_laid w true = word_laid w
flag_laid w false = nothing_laid

-- the layout of what may be missing
abbrev pub option_kinds : {A : Type 0} → (A → List TokenKind) → Option A → List TokenKind
option_kinds layout None = []
option_kinds layout (Some x) = layout x

pub maybe_laid : {A : Type 0} (row : A → Row) (plain : A → A) (layout : A → List TokenKind) → Again row plain layout → Again (maybe row) (option_map plain) (option_kinds layout)
maybe_laid row plain layout a None = said_laid (λ read is. (None, is, refl)) nothing_laid
maybe_laid row plain layout a (Some x) = said_laid (λ read is. (Some is.0, is.1, ap Some is.2)) (a x)

pub each_laid : {A : Type 0} (row : A → Row) (plain : A → A) (layout : A → List TokenKind) → Again row plain layout → Again (each row) (map plain) (flat_map layout)
each_laid row plain layout a [] = said_laid (λ read is. ([], is, refl)) nothing_laid
each_laid {A} row plain layout a (x ∷ xs) = said_laid says (a x before each_laid row plain layout a xs)
  where
    says : (read : List Loaded) → (alike row plain x ⨟ alike (each row) (map plain) xs) read → alike (each row) (map plain) (x ∷ xs) read
    says read (f, b, parts, (y, is, same), (ys, more, alike)) = (y ∷ ys, (f, b, parts, is, more), ap₂ (λ (z : A) (zs : List A). z ∷ zs) same alike)

-- the layout of a list with a sign between each two
abbrev pub separated : {A : Type 0} → Sign → (A → List TokenKind) → List A → List TokenKind
separated s layout [] = []
separated s layout (x ∷ xs) = layout x ++ flat_map (λ y. kind.Sign s ∷ layout y) xs

pub parted_laid : {A : Type 0} (s : Sign) (row : A → Row) (plain : A → A) (layout : A → List TokenKind) → Again row plain layout → Again (parted s row) (map plain) (separated s layout)
parted_laid s row plain layout a [] = never_laid
parted_laid {A} s row plain layout a (x ∷ xs) = said_laid says (a x before each_laid (λ y. sign s ⨟ row y) plain (λ y. kind.Sign s ∷ layout y) more xs)
  where
    more : Again (λ y. sign s ⨟ row y) plain (λ y. kind.Sign s ∷ layout y)
    more y = said_laid (λ read is. (is.4.0, (is.0, is.1, is.2, is.3, is.4.1), is.4.2)) (sign_laid s before a y)

    says : (read : List Loaded) → (alike row plain x ⨟ alike (each (λ y. sign s ⨟ row y)) (map plain) xs) read → alike (parted s row) (map plain) (x ∷ xs) read
    says read (f, b, parts, (y, is, same), (ys, others, alike)) = (y ∷ ys, (f, b, parts, is, others), ap₂ (λ (z : A) (zs : List A). z ∷ zs) same alike)

pub maybe_parted_laid : {A : Type 0} (s : Sign) (row : A → Row) (plain : A → A) (layout : A → List TokenKind) → Again row plain layout → Again (maybe_parted s row) (map plain) (separated s layout)
maybe_parted_laid s row plain layout a [] = said_laid (λ read is. ([], is, refl)) nothing_laid
maybe_parted_laid {A} s row plain layout a (x ∷ xs) = said_laid says (parted_laid s row plain layout a (x ∷ xs))
  where
    some : (ys : List A) (read : List Loaded) → parted s row ys read → maybe_parted s row ys read
    some [] read is = elim is [ ]
    some (y ∷ ys) read is = is

    says : (read : List Loaded) → alike (parted s row) (map plain) (x ∷ xs) read → alike (maybe_parted s row) (map plain) (x ∷ xs) read
    says read is = (is.0, some is.0 read is.1, is.2)
