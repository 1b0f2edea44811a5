-- Tokens have one fault at most, and none where they spell a tree: each of their faults is the one that their answer tells.
use Rattle.std.proofs.Common.{ℕ, ◌≡◌, ◌<◌, ◌≤◌, ◌⊎◌, nat_le, Bool, List, [], ◌∷◌, ◌++◌, length, Some, inl, inr, refl, sym, ap, subst, ◌∙◌, append_assoc, append-nil, arith}
use Rattle.std.proofs.lemmas.List.{append_cancel_right, length-map, map-append}
use Rattle.std.proofs.lemmas.Bool.{cases_Bool, lt-leb}
use Rattle.ob_base.specs.Limits.{most_open}
use Rattle.ob_base.specs.Faults.{expected, too_deep}
use Rattle.ob_base.specs.declared.fault.Span.{Span}
use Rattle.ob_base.specs.declared.fault.ProgramFault.{ProgramFault}
use Rattle.ob_lexer.specs.declared.token.Token.{Token}
use Rattle.ob_tree.specs.Members.{Contract}
use Rattle.ob_parser_spec.specs.Rows.{Loaded}
use Rattle.ob_parser_spec.specs.MemberRows.{program}
use Rattle.ob_parser_spec.specs.Grammar.{tokens_of, IsWithin, HasTree, Begins, BeginsWithin, PassesAt, fault_in, HasSyntaxFault, at_token, at_end, too_far}
use Rattle.ob_parser_spec.specs.Readers.{Read, done, stop, deep, Reader}
use Rattle.ob_parser_spec.proofs.Laws.{first_token, deep_part, answered, Sound, Stopped, Deepened, Laws, tokens-append, deep-none, Case, is_done, is_stop, is_deep, case_of}
use Rattle.ob_parser_spec.proofs.Outcomes.{within_to, has_tree, tree_read, reading, not_stopped, not_left, refused_at_token, refused_after, refused_at_end, refused_deep, Tells, told_once, Apart, same, shorter, longer, fronts}

-- ---- fewer of the tokens that a program begins with

-- what is read of the first of these tokens
record Cut (read : List Loaded) (front : List Token) : Type 0 where
  before : List Loaded
  after : List Loaded
  parts : read ≡ before ++ after
  front_read : front ≡ tokens_of before

cut_under : (l : Loaded) (ls : List Loaded) (front : List Token) → Cut ls front → Cut (l ∷ ls) (l.token ∷ front)
cut_under l ls front c = record { before = l ∷ c.before; after = c.after; parts = ap (λ r. l ∷ r) c.parts; front_read = ap (λ f. l.token ∷ f) c.front_read }

cut : (read : List Loaded) (front back : List Token) → front ++ back ≡ tokens_of read → Cut read front
cut read [] back e = record { before = []; after = read; parts = refl; front_read = refl }
cut [] (t ∷ ts) back e = absurd cc
cut (l ∷ ls) (t ∷ ts) back e =
    let head : l.token ≡ t = cc in
    let tail : ts ++ back ≡ tokens_of ls = cc in
    subst (λ u. Cut (l ∷ ls) (u ∷ ts)) head (cut_under l ls ts (cut ls ts back tail))

spelled_again : (tree : List Contract) (read before after others : List Loaded) → read ≡ before ++ after → program tree (read ++ others) → program tree (before ++ (after ++ others))
spelled_again tree read before after others parts spelled = subst (program tree) (ap (λ r. r ++ others) parts ∙ append_assoc before after others) spelled

within_before : (before after : List Loaded) → IsWithin (before ++ after) → IsWithin before
within_before [] after is = tt
within_before (l ∷ ls) after is = (is.0, within_before ls after is.1)

begins_before : (front back : List Token) → Begins (front ++ back) → Begins front
begins_before front back b =
    let c = cut b.read front back b.front_read in
    record { tree = b.tree; read = c.before; others = c.after ++ b.others; front_read = c.front_read; spelled = spelled_again b.tree b.read c.before c.after b.others c.parts b.spelled }

begins_within_before : (front back : List Token) → BeginsWithin (front ++ back) → BeginsWithin front
begins_within_before front back b =
    let c = cut b.read front back b.front_read in
    record {
      tree = b.tree;
      read = c.before;
      others = c.after ++ b.others;
      front_read = c.front_read;
      spelled = spelled_again b.tree b.read c.before c.after b.others c.parts b.spelled;
      within = within_before c.before c.after (subst IsWithin c.parts b.within);
    }

abbrev begins_any : (front : List Token) → BeginsWithin front → Begins front
begins_any front b = record { tree = b.tree; read = b.read; others = b.others; front_read = b.front_read; spelled = b.spelled }

-- up to the first token after a front of them
up_to : (front back : List Token) (t : Token) → BeginsWithin (front ++ t ∷ back) → BeginsWithin (front ++ t ∷ [])
up_to front back t b = begins_within_before (front ++ t ∷ []) back (subst BeginsWithin (sym (append_assoc front (t ∷ []) back)) b)

begins_up_to : (front back : List Token) (t : Token) → Begins (front ++ t ∷ back) → Begins (front ++ t ∷ [])
begins_up_to front back t b = begins_before (front ++ t ∷ []) back (subst Begins (sym (append_assoc front (t ∷ []) back)) b)

-- ---- what is left from the token on at which the load passes

deep_is_short : (tree : List Contract) (read : List Loaded) (left : List Token) → answered tree (deep_part most_open read) [] ≡ deep left → length left ≤ length read
deep_is_short tree [] left e = absurd cc
deep_is_short tree (l ∷ ls) left e = elim (cases_Bool (nat_le l.load most_open)) [
  | inl is ↦ let fewer = deep_is_short tree ls left (rw is at e) in omega (arith, fewer)
  | inr isnt ↦
      let all : deep (tokens_of (l ∷ ls) ++ []) ≡ deep left = rw isnt at e in
      let tokens : left ≡ tokens_of (l ∷ ls) ++ [] = cc in
      let count : length left ≡ length (l ∷ ls) = ap length (tokens ∙ append-nil (tokens_of (l ∷ ls))) ∙ length-map (l ∷ ls) (λ k. k.token) in
      omega (arith, count)
]

deep_front : (l : Loaded) (ls : List Loaded) → most_open < l.load → deep_part most_open (l ∷ ls) ≡ l ∷ ls
deep_front l ls passes = rw (lt-leb l.load most_open passes) refl

-- ---- two fronts of the same tokens

-- they are the same where neither ends inside the other
same_front : (p q : List Token) (t u : Token) (b c : List Token) → Apart p q t u b c → ((m : List Token) → ¬ (q ≡ p ++ t ∷ m)) → ((m : List Token) → ¬ (p ≡ q ++ u ∷ m)) → (p ≡ q) × (t ≡ u)
same_front p q t u b c (same e f) inside outside = (e, f)
same_front p q t u b c (shorter m e) inside outside = absurd (inside m e)
same_front p q t u b c (longer m e) inside outside = absurd (outside m e)

-- They are the same where a program begins with either, but with the one and its token none does, and with the other and its
-- token none within the limit.
same_end : (front ours back rest : List Token) (token t : Token) → ours ++ t ∷ rest ≡ front ++ token ∷ back → BeginsWithin front → ¬ (Begins (front ++ token ∷ [])) → Begins ours →
    ¬ (BeginsWithin (ours ++ t ∷ [])) → (ours ≡ front) × (t ≡ token)
same_end front ours back rest token t parts begins none is not_on =
    same_front ours front t token rest back (fronts ours front t token rest back parts)
    (λ m e. not_on (up_to ours m t (subst BeginsWithin e begins)))
    (λ m e. none (begins_up_to front m token (subst Begins e is)))

module _ (run : Reader (List Contract)) (first more : List ℕ) (null : Bool) (a : Laws most_open program run first more null) where
  -- where the load passes the limit at a token, the answer is that it does there
  deep_there : (front back : List Token) (token : Token) → PassesAt front token → run (front ++ token ∷ back) ≡ deep (token ∷ back)
  deep_there front back token p =
      let left : deep_part most_open (p.read ++ p.deep ∷ p.others) ≡ p.deep ∷ p.others = deep-none most_open p.read (p.deep ∷ p.others) (within_to p.read p.within) ∙ deep_front p.deep p.others p.passes in
      let is : run (tokens_of (p.read ++ p.deep ∷ p.others) ++ []) ≡ deep (tokens_of (p.deep ∷ p.others) ++ []) =
      a.full p.tree (p.read ++ p.deep ∷ p.others) [] p.spelled refl ∙ ap (λ d. answered p.tree d []) left in
      let s = a.deepened (tokens_of (p.read ++ p.deep ∷ p.others) ++ []) (tokens_of (p.deep ∷ p.others) ++ []) is in
      let read : tokens_of s.read ≡ tokens_of p.read =
      append_cancel_right (tokens_of s.read) (tokens_of p.read) (tokens_of (p.deep ∷ p.others) ++ []) (sym s.parts ∙ tokens-append p.read (p.deep ∷ p.others) []) in
      ap (λ f. run (f ++ token ∷ back)) (p.front_read ∙ sym read) ∙ s.local (token ∷ back) (ap Some p.deep_read)

  -- no answer is that it does at a token with which a program within the limit goes on
  not_deep : (front : List Token) (t : Token) → BeginsWithin (front ++ t ∷ []) → ¬ ((new : List Token) → first_token new ≡ Some t → run (front ++ new) ≡ deep new)
  not_deep front t b local =
      let whole : run (front ++ (t ∷ tokens_of b.others)) ≡ answered b.tree (deep_part most_open (b.read ++ b.others)) [] = reading run first more null a front t (begins_any (front ++ t ∷ []) b) in
      let is : answered b.tree (deep_part most_open b.others) [] ≡ deep (t ∷ tokens_of b.others) =
      ap (λ d. answered b.tree d []) (sym (deep-none most_open b.read b.others (within_to b.read b.within))) ∙ sym whole ∙ local (t ∷ tokens_of b.others) refl in
      let few : length (t ∷ tokens_of b.others) ≤ length b.others = deep_is_short b.tree b.others (t ∷ tokens_of b.others) is in
      let count : length (tokens_of b.others) ≡ length b.others = length-map b.others (λ l. l.token) in
      omega (arith, few, count)

  -- a program begins with what an answer has read
  begins_done : (tokens rest : List Token) (tree : List Contract) → (s : Sound most_open program run tokens tree rest) → Begins (tokens_of s.read)
  begins_done tokens rest tree s = record { tree = tree; read = s.read; others = []; front_read = refl; spelled = rw (append-nil s.read) s.spelled }

  begins_stop : (tokens rest : List Token) → (s : Stopped most_open program run tokens rest) → Begins (tokens_of s.read)
  begins_stop tokens rest s = record { tree = s.value; read = s.read; others = s.others; front_read = refl; spelled = s.spelled }

  -- and with the token at which the load passes
  begins_deep : (tokens rest : List Token) (t : Token) → (s : Deepened most_open program run tokens (t ∷ rest)) → Begins (tokens_of s.read ++ t ∷ [])
  begins_deep tokens rest t s =
      let here : t ∷ rest ≡ s.top.token ∷ s.back = s.here in
      let token : t ≡ s.top.token = cc in
      record {
        tree = s.value;
        read = s.read ++ s.top ∷ [];
        others = s.others;
        front_read = ap (λ u. tokens_of s.read ++ u ∷ []) token ∙ sym (map-append (λ l. l.token) s.read (s.top ∷ []));
        spelled = rw (append_assoc s.read (s.top ∷ []) s.others) s.spelled;
      }

  -- where a program begins with all tokens, none is refused
  none_refused : (tokens front back read : List Token) (token : Token) → tokens ≡ read ++ [] → tokens ≡ front ++ token ∷ back → ¬ (Begins (front ++ token ∷ [])) → ¬ (Begins read)
  none_refused tokens front back read token all parts none begins = none (begins_up_to front back token (subst Begins (sym (append-nil read) ∙ sym all ∙ parts) begins))

  -- ---- the fault is the one that is told

  told_at_token : (tokens front back : List Token) (token : Token) (end : Span) (fault : ProgramFault) (r : Read (List Contract)) → run tokens ≡ r → tokens ≡ front ++ token ∷ back →
      BeginsWithin front → ¬ (Begins (front ++ token ∷ [])) → fault ≡ fault_in expected token.span → Tells r end fault
  told_at_token tokens front back token end fault (done tree []) is parts begins none why =
      let s = a.sound tokens tree [] is in
      absurd (none_refused tokens front back (tokens_of s.read) token s.parts parts none (begins_done tokens [] tree s))
  told_at_token tokens front back token end fault (done tree (t ∷ rest)) is parts begins none why =
      let s = a.sound tokens tree (t ∷ rest) is in
      let not_on : ¬ (BeginsWithin (tokens_of s.read ++ t ∷ [])) = λ b. not_left run first more null a (tokens_of s.read) t tree (begins_any (tokens_of s.read ++ t ∷ []) b) s.local in
      let ends = same_end front (tokens_of s.read) back rest token t (sym s.parts ∙ parts) begins none (begins_done tokens (t ∷ rest) tree s) not_on in
      why ∙ ap (λ u. fault_in expected u.span) (sym ends.1)
  told_at_token tokens front back token end fault (stop []) is parts begins none why =
      let s = a.stopped tokens [] is in
      absurd (none_refused tokens front back (tokens_of s.read) token s.parts parts none (begins_stop tokens [] s))
  told_at_token tokens front back token end fault (stop (t ∷ rest)) is parts begins none why =
      let s = a.stopped tokens (t ∷ rest) is in
      let not_on : ¬ (BeginsWithin (tokens_of s.read ++ t ∷ [])) = λ b. not_stopped run first more null a (tokens_of s.read) t (begins_any (tokens_of s.read ++ t ∷ []) b) s.local in
      let ends = same_end front (tokens_of s.read) back rest token t (sym s.parts ∙ parts) begins none (begins_stop tokens (t ∷ rest) s) not_on in
      why ∙ ap (λ u. fault_in expected u.span) (sym ends.1)
  told_at_token tokens front back token end fault (deep []) is parts begins none why =
      let s = a.deepened tokens [] is in
      let here : [] ≡ s.top.token ∷ s.back = s.here in
      absurd cc
  told_at_token tokens front back token end fault (deep (t ∷ rest)) is parts begins none why =
      let s = a.deepened tokens (t ∷ rest) is in
      let on = begins_deep tokens rest t s in
      let ends = same_end front (tokens_of s.read) back rest token t (sym s.parts ∙ parts) begins none (begins_before (tokens_of s.read) (t ∷ []) on) (λ b. not_deep (tokens_of s.read) t b s.local) in
      absurd (none (subst Begins (ap (λ f. f ++ t ∷ []) ends.0 ∙ ap (λ u. front ++ u ∷ []) ends.1) on))

  told_at_end : (tokens : List Token) (end : Span) (fault : ProgramFault) (r : Read (List Contract)) → run tokens ≡ r → BeginsWithin tokens →
      ((tree : List Contract) → ¬ (HasTree tokens tree)) → fault ≡ fault_in expected end → Tells r end fault
  told_at_end tokens end fault (done tree []) is begins none why = absurd (none tree (has_tree run first more null a tokens tree is))
  told_at_end tokens end fault (done tree (t ∷ rest)) is begins none why =
      let s = a.sound tokens tree (t ∷ rest) is in
      absurd (not_left run first more null a (tokens_of s.read) t tree (begins_any (tokens_of s.read ++ t ∷ []) (up_to (tokens_of s.read) rest t (subst BeginsWithin s.parts begins))) s.local)
  told_at_end tokens end fault (stop []) is begins none why = why
  told_at_end tokens end fault (stop (t ∷ rest)) is begins none why =
      let s = a.stopped tokens (t ∷ rest) is in
      absurd (not_stopped run first more null a (tokens_of s.read) t (begins_any (tokens_of s.read ++ t ∷ []) (up_to (tokens_of s.read) rest t (subst BeginsWithin s.parts begins))) s.local)
  told_at_end tokens end fault (deep []) is begins none why =
      let s = a.deepened tokens [] is in
      let here : [] ≡ s.top.token ∷ s.back = s.here in
      absurd cc
  told_at_end tokens end fault (deep (t ∷ rest)) is begins none why =
      let s = a.deepened tokens (t ∷ rest) is in
      absurd (not_deep (tokens_of s.read) t (up_to (tokens_of s.read) rest t (subst BeginsWithin s.parts begins)) s.local)

  -- each fault of tokens is the one that their answer tells
  pub tells : (tokens : List Token) (end : Span) (fault : ProgramFault) → HasSyntaxFault tokens end fault → Tells (run tokens) end fault
  tells tokens end fault (at_token front back token parts begins none why) = told_at_token tokens front back token end fault (run tokens) refl parts begins none why
  tells tokens end fault (at_end begins none why) = told_at_end tokens end fault (run tokens) refl begins none why
  tells tokens end fault (too_far front back token parts passes why) =
      subst (λ r. Tells r end fault) (sym (ap run parts ∙ deep_there front back token passes)) why

  -- tokens have one fault at most
  pub one_fault : (tokens : List Token) (end : Span) (one other : ProgramFault) → HasSyntaxFault tokens end one → HasSyntaxFault tokens end other → one ≡ other
  one_fault tokens end one other p q = told_once (run tokens) end one other (tells tokens end one p) (tells tokens end other q)

  -- tokens that spell a tree have none
  pub never_tree_and_fault : (tokens : List Token) (tree : List Contract) (end : Span) (fault : ProgramFault) → HasTree tokens tree → ¬ (HasSyntaxFault tokens end fault)
  never_tree_and_fault tokens tree end fault has p =
      let never : Tells (done tree []) end fault = subst (λ r. Tells r end fault) (tree_read run first more null a tokens tree has) (tells tokens end fault p) in
      elim never [ ]

  -- tokens have one of the two
  tree_or_fault_of : (tokens : List Token) (end : Span) → Case (run tokens) → ((tree : List Contract) × HasTree tokens tree) ⊎ ((fault : ProgramFault) × HasSyntaxFault tokens end fault)
  tree_or_fault_of tokens end (is_done tree [] is) = inl (tree, has_tree run first more null a tokens tree is)
  tree_or_fault_of tokens end (is_done tree (t ∷ back) is) = inr (fault_in expected t.span, refused_after run first more null a tokens back tree t end is)
  tree_or_fault_of tokens end (is_stop [] is) = inr (fault_in expected end, refused_at_end run first more null a tokens end is)
  tree_or_fault_of tokens end (is_stop (t ∷ back) is) = inr (fault_in expected t.span, refused_at_token run first more null a tokens back t end is)
  tree_or_fault_of tokens end (is_deep [] is) =
      let s = a.deepened tokens [] is in
      let here : [] ≡ s.top.token ∷ s.back = s.here in
      absurd cc
  tree_or_fault_of tokens end (is_deep (t ∷ back) is) = inr (fault_in too_deep t.span, refused_deep run first more null a tokens back t end is)

  pub tree_or_fault : (tokens : List Token) (end : Span) → ((tree : List Contract) × HasTree tokens tree) ⊎ ((fault : ProgramFault) × HasSyntaxFault tokens end fault)
  tree_or_fault tokens end = tree_or_fault_of tokens end (case_of (run tokens))
