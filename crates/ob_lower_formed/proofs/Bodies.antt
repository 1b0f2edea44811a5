-- What stands where a body begins, and the terms of a body.
use Rattle.std.proofs.Common.{◌≡◌, ℕ, zero, suc, ◌+◌, ◌<◌, ◌≤◌, Bool, true, false, nat_eq, nat_lt, ltb-true, ltb-false, List, [], ◌∷◌, length, Option, Some, None, option_map, IsSome, refl, sym, ap, ◌∙◌, subst, ◌⊎◌, inl, inr, true≢false, arith, eqb-true, ne_eqb, le_of_eq, if◌then◌else◌}
use Rattle.std.proofs.lemmas.Bool.{or_left, or_right}
use Rattle.ob_base.specs.Limits.{most_slots}
use Rattle.ob_base.specs.declared.id.ContractId.{ContractId}
use Rattle.ob_table.specs.Statements.{Statements, resolved_block, ResolvedBody}
use Rattle.ob_table.specs.Tables.{ClassTable}
use Rattle.ob_table.specs.declared.contract.Contract.{Contract}
use Rattle.ob_table.specs.declared.contract.ResolvedType.{ResolvedType}
use Rattle.ob_table.specs.declared.contract.Param.{Param}
use Rattle.ob_table.specs.declared.contract.Signature.{Signature}
use Rattle.ob_table.specs.declared.seen.Kind.{Kind}
use Rattle.ob_table.specs.declared.seen.Kind.TheVariants.{Reference}
use Rattle.ob_table_spec.specs.WellFormed as typing
use Rattle.ob_table_spec.specs.WellFormed.{StaticFrame, frame_of, local_kind, kind_of_resolved, one_ends_there, IsBodyOf, AreStatements, IsWellFormed}
use Rattle.ob_silica.specs.Terms.{SilicaTerms, no_terms, one_term, then_terms, return_form, SilicaBody}
use Rattle.ob_silica_formed.specs.Holdings.{SlotContent, held, Holdings, params_held, held_at_start, after_terms, terms_end, Each}
use Rattle.ob_silica_formed.specs.Points.{NamesWhatIsThere, HasKinds, TakesResult, LeavesParams, LosesNoReference, NamesBody, ReturnsResult, TakesTurns, IsReturnedAs, NoneFollows}
use Rattle.ob_silica_formed.specs.WellFormedTerms.{AreWellFormed}
use Rattle.ob_lower_spec.specs.Forms.{locals_of, slot_of, params_from}
use Rattle.ob_lower_spec.specs.StatementTerms.{LowersBlock}
use Rattle.ob_lower_spec.specs.BodyTerms.{slots_below, beginning, LowersWith}
use Rattle.ob_lower_formed.proofs.Sets.{among, by_bool, nat_same}
use Rattle.ob_lower_formed.proofs.Ways.{IsWellFormedForm, each_map, end_then}
use Rattle.ob_lower_formed.proofs.Effects.{leaves_of}
use Rattle.ob_lower_formed.proofs.Operands.{none_some, some_same, Stands}
use Rattle.ob_lower_formed.proofs.Points.{same_runs, Low}
use Rattle.ob_lower_formed.proofs.Ending.{IsWellFormedBlock, return_runs}
use Rattle.ob_lower_formed.proofs.Statements.{then_none, block_did}

-- The beginning.

less : (k n : ℕ) → k < suc n → nat_eq k n ≡ false → k < n
less k n lt d = by_order (by_bool (nat_lt k n))
  where
    by_order : (nat_lt k n ≡ true) ⊎ (nat_lt k n ≡ false) → k < n
    by_order (inl e) = ltb-true k n e
    by_order (inr e) =
        let le : n ≤ k = ltb-false k n e in
        let same : k ≡ n = omega arith in
        absurd (true≢false (sym (subst (λ i. nat_eq k i ≡ true) same (nat_same k)) ∙ d))

below_among : (n k : ℕ) → k < n → among k (slots_below n) ≡ true
below_among zero k lt = absurd (omega arith)
below_among (suc n) k lt = go (by_bool (nat_eq k n)) (below_among n k)
  where
    go : (nat_eq k n ≡ true) ⊎ (nat_eq k n ≡ false) → (k < n → among k (slots_below n) ≡ true) → among k (slots_below (suc n)) ≡ true
    go (inl e) rest = or_left (nat_eq k n) (among k (slots_below n)) e
    go (inr d) rest = or_right (nat_eq k n) (among k (slots_below n)) (rest (less k n lt d))

-- what is known of a parameter's slot
record ParamHeld (m : ℕ) (ps : List Param) (n k : ℕ) : Type 0 where
  kind : Kind
  is : local_kind (locals_of (params_from m ps)) n ≡ Some kind
  same : n ≡ k
  from : m ≤ k
  below : k < m + length ps
  holds : params_held m ps k ≡ held (Some kind)

param_held : (m : ℕ) (ps : List Param) (n k : ℕ) → slot_of (params_from m ps) n ≡ Some k → ParamHeld m ps n k
param_held m [] n k e = absurd (none_some e)
param_held m (p ∷ ps) n k e = go (by_bool (nat_eq n m)) (λ s. param_held (m + 1) ps n k s)
  where
    go : (nat_eq n m ≡ true) ⊎ (nat_eq n m ≡ false) → (slot_of (params_from (m + 1) ps) n ≡ Some k → ParamHeld (m + 1) ps n k) → ParamHeld m (p ∷ ps) n k
    go (inl t) rest =
        let at : m ≡ k = some_same (sym (ap (λ b. if b then Some m else slot_of (params_from (m + 1) ps) n) t) ∙ e) in
        let named : n ≡ m = eqb-true n m t in
        record {
          kind = kind_of_resolved p.of;
          is = ap (λ b. if b then Some (kind_of_resolved p.of) else local_kind (locals_of (params_from (m + 1) ps)) n) t;
          same = named ∙ at;
          from = omega arith;
          below = omega arith;
          holds = ap (λ b. if b then held (Some (kind_of_resolved p.of)) else params_held (m + 1) ps k) (subst (λ i. nat_eq i m ≡ true) at (nat_same m));
        }
    go (inr d) rest =
        let r = rest (sym (ap (λ b. if b then Some m else slot_of (params_from (m + 1) ps) n) d) ∙ e) in
        let from : m + 1 ≤ k = r.from in
        let below : k < m + 1 + length ps = r.below in
        record {
          kind = r.kind;
          is = ap (λ b. if b then Some (kind_of_resolved p.of) else local_kind (locals_of (params_from (m + 1) ps)) n) d ∙ r.is;
          same = r.same;
          from = omega arith;
          below = omega arith;
          holds = ap (λ b. if b then held (Some (kind_of_resolved p.of)) else params_held (m + 1) ps k) (ne_eqb k m (λ s. let l : m + 1 ≤ m = subst (λ i. m + 1 ≤ i) s from in omega arith)) ∙ r.holds;
        }

params_none : (m : ℕ) (ps : List Param) (j : ℕ) → m + length ps ≤ j → params_held m ps j ≡ held None
params_none m [] j le = refl
params_none m (p ∷ ps) j le =
    ap (λ b. if b then held (Some (kind_of_resolved p.of)) else params_held (m + 1) ps j) (ne_eqb j m (λ s. let l : m + suc (length ps) ≤ m = subst (λ i. m + suc (length ps) ≤ i) s le in omega arith))
    ∙ params_none (m + 1) ps j (omega arith)

locals_same : (n : ℕ) (ps : List Param) → locals_of (params_from n ps) ≡ typing.params_from n ps
locals_same n [] = refl
locals_same n (p ∷ ps) = ap (λ l. (n, kind_of_resolved p.of) ∷ l) (locals_same (n + 1) ps)

module _ (table : ClassTable) (here : ContractId) (own : Contract) (s : Signature) where
  abbrev frame : StaticFrame
  frame = frame_of table here own s

  abbrev used : List ℕ
  used = slots_below (length s.params + 1)

  abbrev start : Holdings
  start = held_at_start here s.params

  fixed_start : (j : ℕ) → j ≤ length s.params → among j used ≡ true
  fixed_start j le = below_among (length s.params + 1) j (omega arith)

  above_none : (j : ℕ) → length s.params < j → start j ≡ held None
  above_none j lt =
      ap (λ b. if b then held (Some (Reference here)) else params_held 1 s.params j) (ne_eqb j 0 (λ e. let l : length s.params < 0 = subst (λ i. length s.params < i) e lt in omega arith))
      ∙ params_none 1 s.params j (omega arith)

  outside : (j : ℕ) → among j used ≡ false → length s.params < j
  outside j e = go (by_bool (nat_lt (length s.params) j))
    where
      go : (nat_lt (length s.params) j ≡ true) ⊎ (nat_lt (length s.params) j ≡ false) → length s.params < j
      go (inl t) = ltb-true (length s.params) j t
      go (inr d) = absurd (true≢false (sym (fixed_start j (ltb-false (length s.params) j d)) ∙ e))

  low_start : Low frame (params_from 1 s.params) used
  low_start = record { inside = λ n k e. let x = param_held 1 s.params n k e in let below : k < 1 + length s.params = x.below in fixed_start k (omega arith); fixed = fixed_start }

  stands_start : Stands frame (params_from 1 s.params) used start
  stands_start = record {
    sees = λ n k e.
        let x = param_held 1 s.params n k e in
        let from : 1 ≤ k = x.from in
        let below : k < 1 + length s.params = x.below in
        let same : n ≡ k = x.same in
        record {
          kind = x.kind;
          is = x.is;
          inside = fixed_start k (omega arith);
          holds = ap (λ b. if b then held (Some (Reference here)) else params_held 1 s.params k) (ne_eqb k 0 (λ z. let l : 1 ≤ 0 = subst (λ i. 1 ≤ i) z from in omega arith)) ∙ x.holds;
          own = λ l. subst (λ i. length s.params < i) same l;
          real = λ l. let lt : length s.params < n = l in absurd (omega arith);
        };
    fixed = fixed_start;
    quiet = record { by = λ j u l. ap (λ (o : SlotContent). o.refers) (above_none j (outside j u)) };
  }

  -- the terms of a body
  record IsWellFormedBodyTerms (lowered : SilicaBody) : Type 0 where
    each : Each IsWellFormedForm frame start lowered.terms
    follows : NoneFollows lowered.terms
    ends : terms_end lowered.terms ≡ true

  no_result : (ss : Statements) (r : Option ResolvedType) → (IsSome r → one_ends_there ss ≡ true) → one_ends_there ss ≡ false → option_map kind_of_resolved r ≡ None
  no_result ss None f e = refl
  no_result ss (Some kind) f e = absurd (true≢false (sym (f refl) ∙ e))

  body_from : (body : ResolvedBody) (lowered : SilicaBody) (block : SilicaTerms) → IsWellFormedBlock frame start used block (one_ends_there body.statements)
      → (IsSome s.result → one_ends_there body.statements ≡ true) → (c : Bool) → one_ends_there body.statements ≡ c
      → lowered.terms ≡ then_terms block (if c then no_terms else one_term (return_form None) body.end) → IsWellFormedBodyTerms lowered
  body_from body lowered block b returns true e is =
      let same : lowered.terms ≡ block = is ∙ then_none block in
      record {
        each = subst (λ t. Each IsWellFormedForm frame start t) (sym same) b.runs.each;
        follows = subst NoneFollows (sym same) b.runs.follows;
        ends = ap terms_end same ∙ b.ends_so ∙ e;
      }
  body_from body lowered block b returns false e is =
      let none : option_map kind_of_resolved s.result ≡ None = no_result body.statements s.result returns e in
      let whole = same_runs frame (leaves_of frame b.runs (b.ends_so ∙ e)) (return_runs None body.end used tt (subst (λ r. IsReturnedAs frame (after_terms frame block start) r None) (sym none) tt)) in
      record {
        each = subst (λ t. Each IsWellFormedForm frame start t) (sym is) whole.each;
        follows = subst NoneFollows (sym is) whole.follows;
        ends = ap terms_end is ∙ end_then block (one_term (return_form None) body.end) ∙ or_right (terms_end block) true refl;
      }

  pub body_made : (body : ResolvedBody) (lowered : SilicaBody) → body.contract ≡ here → IsBodyOf table body own s → LowersWith table own s body lowered
      → lowered.slots ≤ most_slots → AreWellFormed frame start lowered
  body_made body lowered at made low few =
      let block = block_did frame (beginning s.params) (typing.params_from 1 s.params) (resolved_block body.statements body.end) low.block start
      (subst (λ c. LowersBlock (frame_of table c own s) (beginning s.params) (resolved_block body.statements body.end) low.block) at low.statements)
      (subst (λ c. AreStatements (frame_of table c own s) (typing.params_from 1 s.params) [] body.statements) at made.statements)
      stands_start low_start (λ n. ap (λ l. local_kind l n) (sym (locals_same 1 s.params))) in
      let m : IsWellFormedBodyTerms lowered = body_from body lowered low.block block made.returns (one_ends_there body.statements) refl low.terms in
      record {
        numbers = record { forms = each_map IsWellFormedForm NamesWhatIsThere frame (λ h form x. x.numbers) start lowered.terms m.each; slots = le_of_eq (sym low.slots); few = few };
        kinds = each_map IsWellFormedForm HasKinds frame (λ h form x. x.kinds) start lowered.terms m.each;
        results = each_map IsWellFormedForm TakesResult frame (λ h form x. x.results) start lowered.terms m.each;
        params = each_map IsWellFormedForm LeavesParams frame (λ h form x. x.params) start lowered.terms m.each;
        references = each_map IsWellFormedForm LosesNoReference frame (λ h form x. x.references) start lowered.terms m.each;
        bodies = each_map IsWellFormedForm NamesBody frame (λ h form x. x.bodies) start lowered.terms m.each;
        returns = each_map IsWellFormedForm ReturnsResult frame (λ h form x. x.returns) start lowered.terms m.each;
        turns = each_map IsWellFormedForm TakesTurns frame (λ h form x. x.turns) start lowered.terms m.each;
        ends = m.ends;
        reached = m.follows;
      }
