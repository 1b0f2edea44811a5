-- The states of an argument's permission, one after another.
use Rattle.std.proofs.Common.{◌≡◌, ℕ, ◌<◌, ◌+◌, Bool, true, false, not, List, Option, Some, None, is_some, is_none, map, length, drop, get_or, refl, ap, sym, ◌∙◌}
use Rattle.std.specs.Prelude.{option_map}
use Rattle.std.specs.Option.{option_map_or}
use Rattle.ob_base.specs.declared.fault.ProgramFault.{ProgramFault}
use Rattle.ob_base.specs.Faults as faults
use Rattle.ob_tree.specs.declared.name.NamePart.{NamePart}
use Rattle.ob_table_spec.specs.Names.{Name, is_among}
use Rattle.ob_resolve_scope.specs.Numbered.{find, numbered}
use Rattle.ob_resolve_scope.proofs.NumberedLemmas.{find-numbered, number_of-is_none}
use Rattle.ob_resolve_sites.specs.Noted.{noted_if}
use Rattle.ob_generic_spec.specs.TypeSites.{names_argument_state}
use Rattle.ob_generic_spec.specs.declared.head.Head.{Head}
use Rattle.ob_generic_walk.specs.Noted.{noted, noted_at}
use Rattle.ob_generic_walk.proofs.Turns.{turn}

-- whether a head lacks a state
abbrev pub lacks : Option Head → Name → Bool
lacks o name = option_map_or (λ h. not (is_among name h.states)) o false

pub states_turn : (o : Option Head) (l : Option ProgramFault) (xs : List NamePart) (i : ℕ) (x : NamePart)
    → i < length xs → x ≡ get_or xs i x
    → noted (noted_at l (names_argument_state o x)) (map (names_argument_state o) (drop (i + 1) xs))
    ≡ noted l (map (names_argument_state o) (drop i xs))
states_turn o l xs i x h is = ap (λ ys. noted l (map (names_argument_state o) ys)) (sym (turn xs i x h is))

pub state_noted : (l : Option ProgramFault) (o : Option Head) (x : NamePart)
    → noted_at l (names_argument_state o x) ≡ noted_if l (lacks o x.name) faults.no_state x.span
state_noted l None x = refl
state_noted l (Some h) x = refl

pub none_found : {A : Type 0} (o : Option A) (none : Bool) → is_some o ≡ not none → none ≡ is_none o
none_found None true e = refl
none_found None false e = absurd (cc e)
none_found (Some x) true e = absurd (cc e)
none_found (Some x) false e = refl

pub some_states : (o : Option Head) (s : List (Name × ℕ)) (name : Name) → Some s ≡ option_map (λ h. numbered h.states) o
    → is_none (find name s) ≡ lacks o name
some_states None s name e = absurd (cc e)
some_states (Some h) s name e =
    let same : s ≡ numbered h.states = cc e in
    ap (λ l. is_none (find name l)) same ∙ ap is_none (find-numbered name h.states) ∙ number_of-is_none name h.states

pub no_states : (o : Option Head) (name : Name) → None ≡ option_map (λ h. numbered h.states) o → false ≡ lacks o name
no_states None name e = refl
no_states (Some h) name e = absurd (cc e)

pub ruleset turns = (states_turn, state_noted)
