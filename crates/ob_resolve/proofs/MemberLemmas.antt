-- What is noted of members, one after another.
use Rattle.std.proofs.Common.{◌≡◌, ℕ, Bool, true, false, List, Option, Some, None, if◌then◌else◌, map, flat_map, length, drop, get_or, refl, sym, ap, ◌<◌, ◌+◌}
use Rattle.ob_base.specs.declared.fault.Span.{Span}
use Rattle.ob_base.specs.declared.fault.ProgramFault.{ProgramFault}
use Rattle.ob_base.specs.declared.permission.Mode.TheVariants.{Owned, Shared, Unowned}
use Rattle.ob_tree.specs.Members.{Contract}
use Rattle.ob_tree.specs.MembersView.{member_of}
use Rattle.ob_tree.specs.declared.name.PermNode.{PermNode}
use Rattle.ob_tree.specs.declared.name.PermNode.TheVariants.{Mode, States}
use Rattle.ob_tree.specs.declared.member.Member.{Member}
use Rattle.ob_resolve_spec.specs.Declarations.{Program}
use Rattle.ob_resolve_spec.specs.Permissions.{as_unowned, written_permission, is_of, known_permission, same_mode}
use Rattle.ob_resolve_spec.specs.Sites.{gives_object}
use Rattle.ob_resolve_spec.specs.Faults.{is_bad_exit}
use Rattle.ob_resolve_spec.specs.MemberSites.{member_sites}
use Rattle.ob_resolve_sites.specs.Noted.{noted_if, noted_at, noted, notes}
use Rattle.ob_resolve_members.proofs.ListTurns.{flat_map-turn}
use Rattle.ob_base.specs.Faults as faults

bad_gift : (c : Contract) (perm : PermNode) (span : Span)
    → is_bad_exit (gives_object (known_permission c perm) span) ≡ same_mode as_unowned (written_permission perm)
bad_gift c (Mode Owned at) span = refl
bad_gift c (Mode Shared at) span = refl
bad_gift c (Mode Unowned at) span = refl
bad_gift c (States states) span = by (is_of c (States states))
  where
    by : (b : Bool) → is_bad_exit (gives_object (if b then Some (written_permission (States states)) else None) span) ≡ false
    by true = refl
    by false = refl

-- what a constructor gives, on a contract of which it may say what isn't so
pub gift_noted : (l : Option ProgramFault) (c : Contract) (perm : PermNode) (span : Span)
    → noted_if l (same_mode as_unowned (written_permission perm)) faults.bad_exit span
    ≡ noted_at l (gives_object (known_permission c perm) span)
gift_noted l c perm span = ap (λ b. noted_if l b faults.bad_exit span) (sym (bad_gift c perm span))

pub members_turn : (program : Program) (own : Contract) (l : Option ProgramFault) (xs : List Member) (i : ℕ) (x : Member)
    → i < length xs → x ≡ get_or xs i x
    → noted (noted l (member_sites program own (member_of x)))
    (flat_map (member_sites program own) (map member_of (drop (i + 1) xs)))
    ≡ noted l (flat_map (member_sites program own) (map member_of (drop i xs)))
members_turn program own l xs i x h is = flat_map-turn (member_sites program own) member_of l xs i x h is

pub ruleset members = (notes, gift_noted, members_turn)
