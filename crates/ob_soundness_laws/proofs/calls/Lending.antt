-- The loans of a call, and what its places get back.
use Rattle.std.proofs.Common.{◌≡◌, ℕ, suc, ◌<◌, Bool, true, false, ◌||◌, List, [], ◌∷◌, ◌++◌, Option, Some, None, refl, sym, ap, subst, ◌∙◌, arith, ⊎_elim, ◌⊎◌, inl, inr, true≢false}
use Rattle.std.specs.Prelude.{if◌then◌else◌}
use Rattle.std.proofs.lemmas.Bool.{cases_Bool, both_ways, or_parts, ne_eqb}
use Rattle.ob_base.specs.declared.id.ContractId.{ContractId}
use Rattle.ob_perm.specs.States.{States}
use Rattle.ob_perm.specs.Permissions.{Permission, owned, owns}
use Rattle.ob_perm.specs.Masks.{permission_of}
use Rattle.ob_table.specs.Tables.{ClassTable, contract_at}
use Rattle.ob_table.specs.declared.contract.Contract.{Contract}
use Rattle.ob_table.specs.declared.seen.Kind.{Kind}
use Rattle.ob_table.specs.declared.seen.Kind.TheVariants.{Int, Bool as BoolKind, Text, Reference}
use Rattle.ob_table_spec.specs.Conditions.{IsClassTable}
use Rattle.ob_table_spec.specs.WellFormed.{kind_of_resolved, serves_as, is_implemented}
use Rattle.ob_heap_spec.specs.Objects.{Object, seen_state}
use Rattle.ob_heap_spec.specs.Contents.{IsStateOf}
use Rattle.ob_silica_places.specs.Known.{Known}
use Rattle.ob_silica_places.specs.Places.{Location, same_location}
use Rattle.ob_silica_places.specs.Parameters.{Parameter, all_parameters}
use Rattle.ob_silica_places.specs.Converting.{converted}
use Rattle.ob_silica_steps.specs.Configurations.{SilicaFrame, Configuration}
use Rattle.ob_silica_steps.specs.Here.{Here, read}
use Rattle.ob_silica_steps.specs.Binding.{Bound, bound_cell}
use Rattle.ob_flow_spec.specs.Contexts.{BodyFrame, Context, now, with_permission, permission_on, is_set}
use Rattle.ob_flow_spec.specs.Joining.{same_mode}
use Rattle.ob_flow_spec.specs.Uses.{Read, kind_known}
use Rattle.ob_flow_spec.specs.Binding.{wants_owner, is_among, got_back, got_back_all}
use Rattle.ob_places_laws.specs.Serving.{AllowsState}
use Rattle.ob_places_laws.proofs.Conversions.{converted_mode, serves_reference, serves_for_reference}
use Rattle.ob_places_laws.proofs.Interfaces.{interface_is}
use Rattle.ob_places_laws.proofs.Permissions.{same_mode_back}
use Rattle.ob_places_laws.proofs.SeenStates.{converted_allows_state, allowed_before}
use Rattle.ob_places_laws.proofs.Tables.{there_is}
use Rattle.ob_coherent_spec.specs.Standing.{is_in, HasItsState}
use Rattle.ob_coherent_spec.specs.Remaining.{BodyParts}
use Rattle.ob_coherent_spec.specs.Waiting.{is_lent, has_lent, Serves, IsLoan, AreLoans}
use Rattle.ob_soundness_laws.specs.places.Placed.{cell_at}
use Rattle.ob_soundness_laws.proofs.places.Reading.{place_is, same_place}
use Rattle.ob_soundness_laws.specs.calls.Binds.{IsLent, AreLent, lent_all, AreOnce}
use Rattle.ob_soundness_laws.specs.calls.Lending.{IsBack, AreBack, GivesBack, GiveBack, HasBound}
use Rattle.ob_soundness_laws.proofs.calls.BindingAll.{kind_now, set_now}
use Rattle.std.proofs.lemmas.Option.{same_Some}

-- Places that get nothing back.

same_back : (p q : Location) → same_location p q ≡ false → same_location q p ≡ false
same_back p q e = ⊎_elim
    (λ same. absurd (both_ways _ e (ap (same_location p) same ∙ same_place p)))
    (λ other. other)
    (place_is q p)

now_other : (g : Context) (p : Location) (w : Permission) (q : Location) → same_location q p ≡ false → now g p w q ≡ g q
now_other g p w q e = ap (λ b. if b then with_permission w (g p) else g q) e

now_that : (g : Context) (p : Location) (w : Permission) → now g p w p ≡ with_permission w (g p)
now_that g p w = ap (λ b. if b then with_permission w (g p) else g p) (same_place p)

module _ (b : BodyFrame) where
  back_other : (g : Context) (r : Read) (p : Parameter) (q : Location) → same_location q r.location ≡ false
      → got_back b g r.location p q ≡ g q
  back_other g r p q e = by_want (wants_owner p)
    where
      by_want : (w : Bool) → (if w then now g r.location
          (converted b.table (kind_of_resolved p.of) (kind_known (g r.location)) (permission_of p.exit)) else g) q ≡ g q
      by_want true = now_other g r.location _ q e
      by_want false = refl

  back_none : (g : Context) (r : Read) (p : Parameter) (q : Location) → wants_owner p ≡ false
      → got_back b g r.location p q ≡ g q
  back_none g r p q e = ap (λ w. (if w then now g r.location
      (converted b.table (kind_of_resolved p.of) (kind_known (g r.location)) (permission_of p.exit)) else g) q) e

  back_at : (g : Context) (r : Read) (p : Parameter) → wants_owner p ≡ true → got_back b g r.location p r.location
      ≡ with_permission (converted b.table (kind_of_resolved p.of) (kind_known (g r.location))
      (permission_of p.exit)) (g r.location)
  back_at g r p e = ap (λ w. (if w then now g r.location
      (converted b.table (kind_of_resolved p.of) (kind_known (g r.location)) (permission_of p.exit)) else g)
      r.location) e
      ∙ now_that g r.location _

  back_kind : (g : Context) (r : Read) (p : Parameter) (q : Location)
      → kind_known (got_back b g r.location p q) ≡ kind_known (g q)
  back_kind g r p q = by_want (wants_owner p)
    where
      by_want : (w : Bool) → kind_known ((if w then now g r.location
          (converted b.table (kind_of_resolved p.of) (kind_known (g r.location)) (permission_of p.exit)) else g) q)
          ≡ kind_known (g q)
      by_want true = kind_now g r.location _ q
      by_want false = refl

  back_set : (g : Context) (r : Read) (p : Parameter) (q : Location)
      → is_set (got_back b g r.location p q) ≡ is_set (g q)
  back_set g r p q = by_want (wants_owner p)
    where
      by_want : (w : Bool) → is_set ((if w then now g r.location
          (converted b.table (kind_of_resolved p.of) (kind_known (g r.location)) (permission_of p.exit)) else g) q)
          ≡ is_set (g q)
      by_want true = set_now g r.location _ q
      by_want false = refl

  -- places that aren't among those given are as they were
  pub backs_other : (g : Context) (rs : List Read) (ps : List Parameter) (q : Location) → is_among q rs ≡ false
      → got_back_all b g rs ps q ≡ g q
  backs_other g [] ps q none = refl
  backs_other g (r ∷ rs) [] q none = refl
  backs_other g (r ∷ rs) (p ∷ ps) q none =
      let parts = or_parts (same_location q r.location) (is_among q rs) none in
      backs_other (got_back b g r.location p) rs ps q parts.1 ∙ back_other g r p q parts.0

  -- and so are places that aren't lent
  pub backs_settled : (known g : Context) (rs : List Read) (ps : List Parameter) (n : ℕ) (q : Location)
      → is_lent (lent_all b.table known rs ps n) q ≡ false → got_back_all b g rs ps q ≡ g q
  backs_settled known g [] ps n q none = refl
  backs_settled known g (r ∷ rs) [] n q none = refl
  backs_settled known g (r ∷ rs) (p ∷ ps) n q none = ⊎_elim
      (λ wants.
      let parts = or_parts (same_location q r.location) (is_lent (lent_all b.table known rs ps (suc n)) q)
      (subst (λ w. is_lent ((if w then (record {
        place = r.location;
        param = n;
        exit = converted b.table (kind_of_resolved p.of) (kind_known (known r.location)) (permission_of p.exit);
      } ∷ []) else [])
      ++ lent_all b.table known rs ps (suc n)) q ≡ false) wants none) in
      backs_settled known (got_back b g r.location p) rs ps (suc n) q parts.1 ∙ back_other g r p q parts.0)
      (λ not. backs_settled known (got_back b g r.location p) rs ps (suc n) q
      (subst (λ w. is_lent ((if w then (record {
        place = r.location;
        param = n;
        exit = converted b.table (kind_of_resolved p.of) (kind_known (known r.location)) (permission_of p.exit);
      } ∷ []) else [])
      ++ lent_all b.table known rs ps (suc n)) q ≡ false) not none)
      ∙ back_none g r p q not)
      (cases_Bool (wants_owner p))

  permission_told : (w : Permission) (y : Option Known) → is_set y ≡ true → permission_on (with_permission w y) ≡ w
  permission_told w None e = absurd (true≢false (sym e))
  permission_told w (Some y) e = refl

  kind_told : (w : Permission) (y : Option Known) → kind_known (with_permission w y) ≡ kind_known y
  kind_told w None = refl
  kind_told w (Some y) = refl

  -- each place that was given to an owner gets back what the exit says
  pub backs_are : (known g : Context) (bound : Bound) (rs : List Read) (ps : List Parameter) (n : ℕ)
      → ((q : Location) → kind_known (g q) ≡ kind_known (known q)) → ((q : Location) → is_set (g q) ≡ is_set (known q))
      → AreLent known bound rs ps n → AreOnce rs ps → AreBack b.table known (got_back_all b g rs ps) rs ps
  backs_are known g bound [] ps n kinds sets lent once = tt
  backs_are known g bound (r ∷ rs) [] n kinds sets lent once = tt
  backs_are known g bound (r ∷ rs) (p ∷ ps) n kinds sets lent once = (
    λ wants.
        let w = converted b.table (kind_of_resolved p.of) (kind_known (g r.location)) (permission_of p.exit) in
        let is : got_back_all b (got_back b g r.location p) rs ps r.location ≡ with_permission w (g r.location) =
        backs_other (got_back b g r.location p) rs ps r.location (once.0 wants) ∙ back_at g r p wants in
        record {
          permission = ap permission_on is ∙ permission_told w (g r.location) (sets r.location ∙ (lent.0 wants).known)
              ∙ ap (λ k. converted b.table (kind_of_resolved p.of) k (permission_of p.exit)) (kinds r.location);
          kind = ap kind_known is ∙ kind_told w (g r.location) ∙ kinds r.location;
        },
    backs_are known (got_back b g r.location p) bound rs ps (suc n)
        (λ q. back_kind g r p q ∙ kinds q) (λ q. back_set g r p q ∙ sets q) lent.1 once.1,
  )

-- Loans of later places.

module _ (table : ClassTable) (known : Context) where
  later_place : (rs : List Read) (ps : List Parameter) (n : ℕ) (q : Location) → is_among q rs ≡ false
      → is_lent (lent_all table known rs ps n) q ≡ false
  later_place [] ps n q none = refl
  later_place (r ∷ rs) [] n q none = refl
  later_place (r ∷ rs) (p ∷ ps) n q none =
      let parts = or_parts (same_location q r.location) (is_among q rs) none in
      by_want (wants_owner p) parts.0 (later_place rs ps (suc n) q parts.1)
    where
      by_want : (w : Bool) → same_location q r.location ≡ false → is_lent (lent_all table known rs ps (suc n)) q ≡ false
          → is_lent ((if w then (record {
            place = r.location;
            param = n;
            exit = converted table (kind_of_resolved p.of) (kind_known (known r.location)) (permission_of p.exit);
          } ∷ []) else [])
          ++ lent_all table known rs ps (suc n)) q ≡ false
      by_want true e f = ap (λ b. b || is_lent (lent_all table known rs ps (suc n)) q) e ∙ f
      by_want false e f = f

  pub later_param : (rs : List Read) (ps : List Parameter) (n k : ℕ) → k < n
      → has_lent (lent_all table known rs ps n) k ≡ false
  later_param [] ps n k lt = refl
  later_param (r ∷ rs) [] n k lt = refl
  later_param (r ∷ rs) (p ∷ ps) n k lt = by_want (wants_owner p) (later_param rs ps (suc n) k (omega (arith, lt)))
    where
      by_want : (w : Bool) → has_lent (lent_all table known rs ps (suc n)) k ≡ false
          → has_lent ((if w then (record {
            place = r.location;
            param = n;
            exit = converted table (kind_of_resolved p.of) (kind_known (known r.location)) (permission_of p.exit);
          } ∷ []) else [])
          ++ lent_all table known rs ps (suc n)) k ≡ false
      by_want true f = ap (λ b. b || has_lent (lent_all table known rs ps (suc n)) k)
          (ne_eqb k n (λ e. omega (arith, e, lt))) ∙ f
      by_want false f = f

-- All loans of a call.

module _ (table : ClassTable) (d : Configuration) (callee : SilicaFrame) (called : BodyParts) (tests : ℕ → ℕ) (h : Here)
    (known g : Context) (bound : Bound) (reads : (q : Location) → read table h q ≡ cell_at bound.from q)
    (has : HasBound bound.slots callee.slots) where
  one_loan : (r : Read) (p : Parameter) (n : ℕ) → wants_owner p ≡ true → IsLent known bound r.location p n
      → IsBack table known g r p → GivesBack table (all_parameters callee.contract called.signature) known r p n
      → IsLoan table d callee called tests h g (record {
        place = r.location;
        param = n;
        exit = converted table (kind_of_resolved p.of) (kind_known (known r.location)) (permission_of p.exit);
      })
  one_loan r p n wants lent back gives =
      let y = has.has n (bound_cell p.of lent.cell.value) lent.given in
      record {
        cell = lent.cell;
        place = reads r.location ∙ lent.is;
        lent = lent.lent;
        parameter = gives.parameter;
        param = gives.is;
        given = y.0;
        found = y.1;
        same = y.2;
        serves = subst (λ k. Serves table (kind_of_resolved gives.parameter.of) (permission_of gives.parameter.exit) k
            (converted table (kind_of_resolved p.of) (kind_known (known r.location)) (permission_of p.exit)))
            (sym lent.kind) gives.serves;
        kind = back.kind ∙ sym lent.kind;
        exit = back.permission;
        gone = λ m refers e. absurd (true≢false (sym wants ∙ sym y.3 ∙ ap owns e));
      }

  pub all_loans : (rs : List Read) (ps : List Parameter) (n : ℕ) → AreLent known bound rs ps n
      → AreBack table known g rs ps
      → GiveBack table (all_parameters callee.contract called.signature) known rs ps n → AreOnce rs ps
      → AreLoans table d callee called tests h g (lent_all table known rs ps n)
  all_loans [] ps n lent back gives once = tt
  all_loans (r ∷ rs) [] n lent back gives once = tt
  all_loans (r ∷ rs) (p ∷ ps) n lent back gives once =
      let rest = all_loans rs ps (suc n) lent.1 back.1 gives.1 once.1 in
      ⊎_elim
      (λ wants. subst (λ w. AreLoans table d callee called tests h g ((if w then (record {
        place = r.location;
        param = n;
        exit = converted table (kind_of_resolved p.of) (kind_known (known r.location)) (permission_of p.exit);
      } ∷ []) else [])
      ++ lent_all table known rs ps (suc n))) (sym wants) (
        one_loan r p n wants (lent.0 wants) (back.0 wants) (gives.0 wants),
        later_place table known rs ps (suc n) r.location (once.0 wants),
        later_param table known rs ps (suc n) n (omega arith),
        rest,
      ))
      (λ not. subst (λ w. AreLoans table d callee called tests h g ((if w then (record {
        place = r.location;
        param = n;
        exit = converted table (kind_of_resolved p.of) (kind_known (known r.location)) (permission_of p.exit);
      } ∷ []) else [])
      ++ lent_all table known rs ps (suc n))) (sym not) rest)
      (cases_Bool (wants_owner p))

-- What serves.

module _ (table : ClassTable) (is : IsClassTable table) where
  -- an exit serves as what is said of it for another kind
  pub converted_serves : (k l : Kind) (p : Permission) → Serves table k p l (converted table k l p)
  converted_serves k l p = record {
    mode = same_mode_back (converted table k l p) p (converted_mode table k l p);
    states = λ a b o ea eb state sk sl h. by_kinds k l p a b o ea eb state sk sl h;
  }
    where
      by_kinds : (k l : Kind) (p : Permission) (a b : States) (o : Object) → p ≡ owned a
          → converted table k l p ≡ owned b
          → HasItsState table o → serves_as table k (Reference o.contract) ≡ true
          → serves_as table l (Reference o.contract) ≡ true → is_in table k a o ≡ true → is_in table l b o ≡ true
      by_kinds (Reference c) (Reference e) p a b o ea eb state sk sl h =
          let own = there_is (contract_at table o.contract) (λ x. IsStateOf x o.state) state in
          let old : AllowsState p (seen_state table c o) = subst (λ q. AllowsState q (seen_state table c o))
          (sym ea) h in
          subst (λ q. AllowsState q (seen_state table e o)) eb
          (converted_allows_state table is own.0 o own.1 own.2 c e p sk sl old)
      by_kinds (Reference c) Int p a b o ea eb state sk sl h = absurd
          (true≢false (sym (serves_reference table Int (Reference o.contract) sl)))
      by_kinds (Reference c) BoolKind p a b o ea eb state sk sl h = absurd
          (true≢false (sym (serves_reference table BoolKind (Reference o.contract) sl)))
      by_kinds (Reference c) Text p a b o ea eb state sk sl h = absurd
          (true≢false (sym (serves_reference table Text (Reference o.contract) sl)))
      by_kinds Int l p a b o ea eb state sk sl h = absurd (true≢false (sym h))
      by_kinds BoolKind l p a b o ea eb state sk sl h = absurd (true≢false (sym h))
      by_kinds Text l p a b o ea eb state sk sl h = absurd (true≢false (sym h))

  -- what a contract's own body leaves of `this` serves as what its interface asks
  pub answer_serves : (d e : ContractId) (own : Contract) (p q : Permission) → contract_at table e ≡ Some own
      → own.interface ≡ false
      → q ≡ converted table (Reference d) (Reference e) p → Serves table (Reference e) q (Reference d) p
  answer_serves d e own p q ee plain said = record {
    mode = subst (λ z. same_mode z p ≡ true) (sym said) (converted_mode table (Reference d) (Reference e) p);
    states = λ a b o ea eb state sk sl h.
        let x = there_is (contract_at table o.contract) (λ y. IsStateOf y o.state) state in
        let same : e ≡ o.contract = only o.contract x.0 x.1 (serves_for_reference table e o.contract sk) in
        let old : AllowsState (converted table (Reference d) (Reference o.contract) p) (seen_state table o.contract o) =
        subst (λ i. AllowsState (converted table (Reference d) (Reference i) p) (seen_state table i o)) same
        (subst (λ z. AllowsState z (seen_state table e o)) (sym ea ∙ said) h) in
        subst (λ z. AllowsState z (seen_state table d o)) eb
        (allowed_before table is x.0 o x.1 x.2 d p sl old);
  }
    where
      only : (c : ContractId) (x : Contract) → contract_at table c ≡ Some x
          → (e ≡ c) ⊎ (is_implemented table c e ≡ true) → e ≡ c
      only c x ec (inl same) = same
      only c x ec (inr i) =
          let r = interface_is table is c e x ec i in
          absurd (both_ways own.interface plain (ap (λ (y : Contract). y.interface)
          (same_Some own r.0 (sym ee ∙ r.1)) ∙ r.2))
