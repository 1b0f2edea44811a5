-- What the laws of the row of programs say of the answers to whole lists of tokens.
use Rattle.std.proofs.Common.{ℕ, ◌≡◌, nat_le, Bool, List, [], ◌∷◌, ◌++◌, Some, inl, inr, refl, sym, ap, subst, ◌∙◌, append_assoc, append-nil}
use Rattle.std.proofs.lemmas.List.{map-append}
use Rattle.std.proofs.lemmas.Bool.{cases_Bool, leb-true, le-leb}
use Rattle.ob_base.specs.Limits.{most_open}
use Rattle.ob_base.specs.Faults.{expected, too_deep}
use Rattle.ob_base.specs.declared.fault.Span.{Span}
use Rattle.ob_base.specs.declared.fault.ProgramFault.{ProgramFault}
use Rattle.ob_lexer.specs.declared.token.Token.{Token}
use Rattle.ob_tree.specs.Members.{Contract}
use Rattle.ob_parser_spec.specs.Rows.{Never, Loaded}
use Rattle.ob_parser_spec.specs.MemberRows.{program}
use Rattle.ob_parser_spec.specs.Grammar.{tokens_of, IsWithin, HasTree, Begins, BeginsWithin, fault_in, HasSyntaxFault, at_token, at_end, too_far}
use Rattle.ob_parser_spec.specs.Readers.{Read, done, stop, deep, Reader}
use Rattle.ob_parser_spec.proofs.Laws.{first_token, deep_part, answered, Stopped, Laws, answered_not_stop}

-- ---- loads

within_from : (read : List Loaded) → deep_part most_open read ≡ [] → IsWithin read
within_from [] e = tt
within_from (l ∷ ls) e = elim (cases_Bool (nat_le l.load most_open)) [
  | inl is ↦ (leb-true l.load most_open is, within_from ls (rw is at e))
  | inr isnt ↦ let some : l ∷ ls ≡ [] = rw isnt at e in absurd cc
]

pub within_to : (read : List Loaded) → IsWithin read → deep_part most_open read ≡ []
within_to [] is = refl
within_to (l ∷ ls) is = rw (le-leb l.load most_open is.0) (within_to ls is.1)

-- ---- what is answered is a tree, or that the load passes the limit

done_whole : (tree other : List Contract) (d : List Loaded) (left : List Token) → answered tree d [] ≡ done other left → left ≡ []
done_whole tree other [] left e = let end : [] ≡ left = cc in sym end
done_whole tree other (l ∷ ls) left e = absurd cc

not_whole : (t : Token) (ts : List Token) → ¬ (t ∷ ts ≡ [])
not_whole t ts e = cc

module _ (run : Reader (List Contract)) (first more : List ℕ) (null : Bool) (a : Laws most_open program run first more null) where
  -- where all is read, the tokens spell the tree
  pub has_tree : (tokens : List Token) (tree : List Contract) → run tokens ≡ done tree [] → HasTree tokens tree
  has_tree tokens tree is =
      let s = a.sound tokens tree [] is in
      record { read = s.read; all = s.parts ∙ append-nil (tokens_of s.read); spelled = s.spelled; within = within_from s.read s.within }

  -- a tree that tokens spell is read
  pub tree_read : (tokens : List Token) (tree : List Contract) → HasTree tokens tree → run tokens ≡ done tree []
  tree_read tokens tree has =
      ap run (has.all ∙ sym (append-nil (tokens_of has.read))) ∙ a.full tree has.read [] has.spelled refl ∙ ap (λ d. answered tree d []) (within_to has.read has.within)

  -- tokens spell one tree at most
  pub one_tree : (tokens : List Token) (one other : List Contract) → HasTree tokens one → HasTree tokens other → one ≡ other
  one_tree tokens one other p q =
      let same : done one [] ≡ done other [] = sym (tree_read tokens one p) ∙ tree_read tokens other q in
      cc

  -- what a program that begins so is answered
  pub reading : (front : List Token) (t : Token) (b : Begins (front ++ t ∷ [])) → run (front ++ (t ∷ tokens_of b.others)) ≡ answered b.tree (deep_part most_open (b.read ++ b.others)) []
  reading front t b =
      let parts : front ++ (t ∷ tokens_of b.others) ≡ tokens_of (b.read ++ b.others) ++ [] =
      sym (append_assoc front (t ∷ []) (tokens_of b.others)) ∙ ap (λ l. l ++ tokens_of b.others) b.front_read
      ∙ sym (map-append (λ l. l.token) b.read b.others) ∙ sym (append-nil (tokens_of (b.read ++ b.others))) in
      ap run parts ∙ a.full b.tree (b.read ++ b.others) [] b.spelled refl

  -- no answer stops at a token with which a program goes on
  pub not_stopped : (front : List Token) (t : Token) → Begins (front ++ t ∷ []) → ¬ ((new : List Token) → first_token new ≡ Some t → run (front ++ new) ≡ stop new)
  not_stopped front t b local = answered_not_stop b.tree (deep_part most_open (b.read ++ b.others)) [] (t ∷ tokens_of b.others) (sym (reading front t b) ∙ local (t ∷ tokens_of b.others) refl)

  -- or leaves it after a tree
  pub not_left : (front : List Token) (t : Token) (tree : List Contract) → Begins (front ++ t ∷ []) → ¬ ((new : List Token) → first_token new ≡ Some t → run (front ++ new) ≡ done tree new)
  not_left front t tree b local =
      let left = t ∷ tokens_of b.others in
      not_whole t (tokens_of b.others) (done_whole b.tree tree (deep_part most_open (b.read ++ b.others)) left (sym (reading front t b) ∙ local left refl))

  begins_stopped : (tokens rest : List Token) → (s : Stopped most_open program run tokens rest) → BeginsWithin (tokens_of s.read)
  begins_stopped tokens rest s = record { tree = s.value; read = s.read; others = s.others; front_read = refl; spelled = s.spelled; within = within_from s.read s.within }

  pub refused_at_token : (tokens back : List Token) (t : Token) (end : Span) → run tokens ≡ stop (t ∷ back) → HasSyntaxFault tokens end (fault_in expected t.span)
  refused_at_token tokens back t end is =
      let s = a.stopped tokens (t ∷ back) is in
      at_token (tokens_of s.read) back t s.parts (begins_stopped tokens (t ∷ back) s)
      (λ b. not_stopped (tokens_of s.read) t b s.local) refl

  pub refused_after : (tokens back : List Token) (tree : List Contract) (t : Token) (end : Span) → run tokens ≡ done tree (t ∷ back) → HasSyntaxFault tokens end (fault_in expected t.span)
  refused_after tokens back tree t end is =
      let s = a.sound tokens tree (t ∷ back) is in
      at_token (tokens_of s.read) back t s.parts
      (record { tree = tree; read = s.read; others = []; front_read = refl; spelled = rw (append-nil s.read) s.spelled; within = within_from s.read s.within })
      (λ b. not_left (tokens_of s.read) t tree b s.local) refl

  no_tree : (tokens : List Token) → run tokens ≡ stop [] → (tree : List Contract) → ¬ (HasTree tokens tree)
  no_tree tokens is tree has = let both : stop [] ≡ done tree [] = sym is ∙ tree_read tokens tree has in cc

  pub refused_at_end : (tokens : List Token) (end : Span) → run tokens ≡ stop [] → HasSyntaxFault tokens end (fault_in expected end)
  refused_at_end tokens end is =
      let s = a.stopped tokens [] is in
      let whole = s.parts ∙ append-nil (tokens_of s.read) in
      at_end (record { tree = s.value; read = s.read; others = s.others; front_read = whole; spelled = s.spelled; within = within_from s.read s.within }) (no_tree tokens is) refl

  pub refused_deep : (tokens back : List Token) (t : Token) (end : Span) → run tokens ≡ deep (t ∷ back) → HasSyntaxFault tokens end (fault_in too_deep t.span)
  refused_deep tokens back t end is =
      let s = a.deepened tokens (t ∷ back) is in
      let here : t ∷ back ≡ s.top.token ∷ s.back = s.here in
      let token : t ≡ s.top.token = cc in
      too_far (tokens_of s.read) back t s.parts (record {
        tree = s.value;
        read = s.read;
        deep = s.top;
        others = s.others;
        front_read = refl;
        deep_read = token;
        spelled = s.spelled;
        within = within_from s.read s.within;
        passes = s.passes;
      }) refl

-- ---- one fault

-- the fault that an answer tells, where all of it has to be read
abbrev pub Tells : Read (List Contract) → Span → ProgramFault → Type 0
Tells (done tree []) end fault = Never
Tells (done tree (t ∷ ts)) end fault = fault ≡ fault_in expected t.span
Tells (stop []) end fault = fault ≡ fault_in expected end
Tells (stop (t ∷ ts)) end fault = fault ≡ fault_in expected t.span
Tells (deep []) end fault = Never
Tells (deep (t ∷ ts)) end fault = fault ≡ fault_in too_deep t.span

pub told_once : (r : Read (List Contract)) (end : Span) (one other : ProgramFault) → Tells r end one → Tells r end other → one ≡ other
told_once (done tree []) end one other p q = elim p [ ]
told_once (done tree (t ∷ ts)) end one other p q = p ∙ sym q
told_once (stop []) end one other p q = p ∙ sym q
told_once (stop (t ∷ ts)) end one other p q = p ∙ sym q
told_once (deep []) end one other p q = elim p [ ]
told_once (deep (t ∷ ts)) end one other p q = p ∙ sym q

-- where two fronts of the same tokens end
pub data Apart (p q : List Token) (t u : Token) (b c : List Token) : Type 0 where
  same : p ≡ q → t ≡ u → Apart p q t u b c
  shorter : (m : List Token) → q ≡ p ++ t ∷ m → Apart p q t u b c
  longer : (m : List Token) → p ≡ q ++ u ∷ m → Apart p q t u b c

apart_under : (x : Token) (p q : List Token) (t u : Token) (b c : List Token) → Apart p q t u b c → Apart (x ∷ p) (x ∷ q) t u b c
apart_under x p q t u b c (same e f) = same (ap (λ l. x ∷ l) e) f
apart_under x p q t u b c (shorter m e) = shorter m (ap (λ l. x ∷ l) e)
apart_under x p q t u b c (longer m e) = longer m (ap (λ l. x ∷ l) e)

pub fronts : (p q : List Token) (t u : Token) (b c : List Token) → p ++ t ∷ b ≡ q ++ u ∷ c → Apart p q t u b c
fronts [] [] t u b c e = same refl cc
fronts [] (y ∷ q) t u b c e = let head : t ≡ y = cc in shorter q (ap (λ z. z ∷ q) (sym head))
fronts (x ∷ p) [] t u b c e = let head : x ≡ u = cc in longer p (ap (λ z. z ∷ p) head)
fronts (x ∷ p) (y ∷ q) t u b c e =
    let head : x ≡ y = cc in
    let tail : p ++ t ∷ b ≡ q ++ u ∷ c = cc in
    subst (λ z. Apart (x ∷ p) (z ∷ q) t u b c) head (apart_under x p q t u b c (fronts p q t u b c tail))
