-- The temporaries of an expression had been free.
use Rattle.std.proofs.Common.{◌≡◌, ◌≢◌, ℕ, Bool, true, false, List, [], ◌∷◌, ◌++◌, Option, Some, None, refl, sym, ap, ◌∙◌, subst, ◌⊎◌, inl, inr}
use Rattle.std.specs.Prelude.{if◌then◌else◌}
use Rattle.ob_table.specs.Expressions.{Expression, resolved_number, resolved_text, resolved_bool, resolved_seen, resolved_unary, resolved_binary, resolved_logical, resolved_call, resolved_new, Arguments, no_arguments, and_argument}
use Rattle.ob_table.specs.Statements.{GivenField}
use Rattle.ob_table.specs.declared.seen.Kind.{Kind}
use Rattle.ob_table_spec.specs.WellFormed.{is_reference}
use Rattle.ob_silica.specs.declared.place.Operand.{Operand}
use Rattle.ob_silica.specs.declared.place.Place.TheVariants.{Slot}
use Rattle.ob_lower_spec.specs.Forms.{AroundExpression, operand}
use Rattle.ob_lower_spec.specs.Points.{IsFree, Temporary, in_use, references}
use Rattle.ob_lower_spec.specs.ExpressionTerms.{Lowered, LoweredArguments, LoweredCall, temporary, LowersName, LowersExpression, LowersArguments, LowersDiscarded, LowersPlainCall}
use Rattle.ob_lower_spec.specs.GivenTerms.{LoweredGiven, LowersGiven}
use Rattle.ob_lower_correct.proofs.Slots.{Used, used_left, used_right, used_split, free_differs, free_by, slots_made, made_append, Within, within_use, free_within}

-- the slots of temporaries had been free
pub record Fresh (made : List Temporary) (used : List ℕ) : Type 0 where
  pub by : (n : ℕ) → Used n (slots_made made) → IsFree n used

fresh_none : (used : List ℕ) → Fresh [] used
fresh_none used = record { by = λ n u. absurd u }

pub fresh_append : (x y : List Temporary) (used : List ℕ) → Fresh x used → Fresh y (in_use x used) → Fresh (x ++ y) used
fresh_append x y used a b = record { by = λ n u. go n (used_split n (slots_made x) (slots_made y) (subst (Used n) (made_append x y) u)) }
  where
    go : (n : ℕ) → Used n (slots_made x) ⊎ Used n (slots_made y) → IsFree n used
    go n (inl u) = a.by n u
    go n (inr u) = free_within n (within_use x used) (b.by n u)

pub fresh_one : (k : ℕ) (b : Bool) (used : List ℕ) → IsFree k used → Fresh (temporary k b ∷ []) used
fresh_one k b used free = record { by = λ n u. go n u }
  where
    go : (n : ℕ) → (n ≡ k) ⊎ ⊥ → IsFree n used
    go n (inl e) = subst (λ m. IsFree m used) (sym e) free
    go n (inr u) = absurd u

fresh_last : (made : List Temporary) (k : ℕ) (b : Bool) (used : List ℕ) → Fresh made used → IsFree k (in_use made used) → Fresh (made ++ temporary k b ∷ []) used
fresh_last made k b used a free = fresh_append made (temporary k b ∷ []) used a (fresh_one k b (in_use made used) free)

name_fresh : (a : AroundExpression) (used : List ℕ) (b : Bool) (o : Operand) (l : Lowered) → LowersName a used b o l → Fresh l.made used
name_fresh a used true o l is = rw is (fresh_none used)
name_fresh a used false o l (k, free, is) = rw is (fresh_one k false used free)

mutual
  pub expression_fresh : (a : AroundExpression) (used : List ℕ) (e : Expression) (l : Lowered) → LowersExpression a used e l → Fresh l.made used
  expression_fresh a used (resolved_number z sp) l (k, free, is) = rw is (fresh_one k false used free)
  expression_fresh a used (resolved_text z sp) l (k, free, is) = rw is (fresh_one k false used free)
  expression_fresh a used (resolved_bool z sp) l (k, free, is) = rw is (fresh_one k false used free)
  expression_fresh a used (resolved_seen seen sp) l (kind, ek, place, ep, low) = name_fresh a used (is_reference kind) (operand place sp) l low
  expression_fresh a used (resolved_unary o sign e sp) l (x, lx, k, free, is) = rw is (fresh_last x.made k false used (expression_fresh a used e x lx) free)
  expression_fresh a used (resolved_logical o sign left right sp) l (x, lx, y, ly, is) =
      rw is (fresh_append x.made y.made used (expression_fresh a used left x lx) (expression_fresh a (in_use x.made used) right y ly))
  expression_fresh a used (resolved_binary o sign left right sp) l (x, lx, y, ly, k, free, is) =
      rw is (fresh_last (x.made ++ y.made) k false used (fresh_append x.made y.made used (expression_fresh a used left x lx) (expression_fresh a (in_use x.made used) right y ly)) free)
  expression_fresh a used (resolved_call r c tx name args sp) l (x, lx, kind, ek, k, free, form, is_call, is) = rw is (fresh_last x.made k (is_reference kind) used (arguments_fresh a used args x lx) free)
  expression_fresh a used (resolved_new c args sp) l (x, lx, k, free, is) = rw is (fresh_last x.made k true used (arguments_fresh a used args x lx) free)

  pub arguments_fresh : (a : AroundExpression) (used : List ℕ) (es : Arguments) (l : LoweredArguments) → LowersArguments a used es l → Fresh l.made used
  arguments_fresh a used no_arguments l is = rw is (fresh_none used)
  arguments_fresh a used (and_argument e es) l (x, lx, y, ly, is) =
      rw is (fresh_append x.made y.made used (expression_fresh a used e x lx) (arguments_fresh a (in_use x.made used) es y ly))

pub given_fresh : (a : AroundExpression) (used : List ℕ) (gs : List GivenField) (l : LoweredGiven) → LowersGiven a used gs l → Fresh l.made used
given_fresh a used [] l is = rw is (fresh_none used)
given_fresh a used (g ∷ gs) l (x, lx, y, ly, is) =
    rw is (fresh_append x.made y.made used (expression_fresh a used g.value x lx) (given_fresh a (in_use x.made used) gs y ly))

plain_call_fresh : (a : AroundExpression) (used : List ℕ) (e : Expression) (l : LoweredCall) → LowersPlainCall a used e l → Fresh l.made used
plain_call_fresh a used (resolved_call r c tx name args sp) l (x, lx, form, is_call, is) = rw is (arguments_fresh a used args x lx)
plain_call_fresh a used (resolved_number z sp) l low = absurd low
plain_call_fresh a used (resolved_text z sp) l low = absurd low
plain_call_fresh a used (resolved_bool z sp) l low = absurd low
plain_call_fresh a used (resolved_seen seen sp) l low = absurd low
plain_call_fresh a used (resolved_unary o sign e sp) l low = absurd low
plain_call_fresh a used (resolved_binary o sign e g sp) l low = absurd low
plain_call_fresh a used (resolved_logical o sign e g sp) l low = absurd low
plain_call_fresh a used (resolved_new c args sp) l low = absurd low

pub discarded_fresh : (a : AroundExpression) (used : List ℕ) (o : Option Kind) (e : Expression) (l : LoweredCall) → LowersDiscarded a used o e l → Fresh l.made used
discarded_fresh a used None e l low = plain_call_fresh a used e l low
discarded_fresh a used (Some kind) e l (x, lx, is) = rw is (expression_fresh a used e x lx)

one_within : (t : Temporary) (ts : List Temporary) (n : ℕ) (b : Bool) → Within (references ts) (slots_made ts) → Used n (if b then t.slot ∷ references ts else references ts) → Used n (t.slot ∷ slots_made ts)
one_within t ts n true w (inl e) = inl e
one_within t ts n true w (inr u) = inr (w.by n u)
one_within t ts n false w u = inr (w.by n u)

-- the temporaries that are references are among all
pub references_within : (made : List Temporary) → Within (references made) (slots_made made)
references_within [] = record { by = λ n u. u }
references_within (t ∷ ts) = record { by = λ n u. one_within t ts n t.is_reference (references_within ts) u }

one_append : (t : Temporary) (x y : List Temporary) (b : Bool) → references (x ++ y) ≡ references x ++ references y
    → (if b then t.slot ∷ references (x ++ y) else references (x ++ y)) ≡ (if b then t.slot ∷ references x else references x) ++ references y
one_append t x y true e = ap (λ l. t.slot ∷ l) e
one_append t x y false e = e

references_append : (x y : List Temporary) → references (x ++ y) ≡ references x ++ references y
references_append [] y = refl
references_append (t ∷ x) y = one_append t x y t.is_reference (references_append x y)

-- an expression that is no reference stands in a temporary that is none
pub record Value (l : Lowered) : Type 0 where
  pub slot : ℕ
  pub place : l.operand.place ≡ Slot slot
  pub inside : Used slot (slots_made l.made)
  pub apart : IsFree slot (references l.made)

pub value_last : (l : Lowered) (made : List Temporary) (k : ℕ) (b : Bool) (used : List ℕ) → b ≡ false → l.operand.place ≡ Slot k → l.made ≡ made ++ temporary k b ∷ [] → IsFree k (in_use made used) → Value l
value_last l made k b used eb place is free = record {
  slot = k;
  place = place;
  inside = subst (λ m. Used k (slots_made m)) (sym is) (subst (Used k) (sym (made_append made (temporary k b ∷ []))) (used_right k (slots_made made) (k ∷ []) (inl refl)));
  apart = subst (λ m. IsFree k (references m)) (sym is)
      (subst (λ d. IsFree k (references (made ++ temporary k d ∷ []))) (sym eb)
      (free_by k (references (made ++ temporary k false ∷ [])) (λ n u. free_differs k (in_use made used) free n
      (used_left n (slots_made made) used ((references_within made).by n (only n (used_split n (references made) [] (subst (Used n) (references_append made (temporary k false ∷ [])) u))))))));
}
  where
    only : (n : ℕ) → Used n (references made) ⊎ ⊥ → Used n (references made)
    only n (inl u) = u
    only n (inr u) = absurd u

pub value_left : (l x y : Lowered) (used : List ℕ) → l.operand.place ≡ x.operand.place → l.made ≡ x.made ++ y.made → Value x → Fresh y.made (in_use x.made used) → Value l
value_left l x y used place is v f = record {
  slot = v.slot;
  place = place ∙ v.place;
  inside = subst (λ m. Used v.slot (slots_made m)) (sym is) (subst (Used v.slot) (sym (made_append x.made y.made)) (used_left v.slot (slots_made x.made) (slots_made y.made) v.inside));
  apart = subst (λ m. IsFree v.slot (references m)) (sym is)
      (free_by v.slot (references (x.made ++ y.made)) (λ n u. go n (used_split n (references x.made) (references y.made) (subst (Used n) (references_append x.made y.made) u))));
}
  where
    go : (n : ℕ) → Used n (references x.made) ⊎ Used n (references y.made) → n ≢ v.slot
    go n (inl u) = free_differs v.slot (references x.made) v.apart n u
    go n (inr u) = λ e. free_differs n (in_use x.made used) (f.by n ((references_within y.made).by n u)) v.slot (used_left v.slot (slots_made x.made) used v.inside) (sym e)
