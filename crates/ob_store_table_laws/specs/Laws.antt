-- Stores by a class table without what no image has (this project's own).
use Rattle.std.specs.Prelude.{◌≡◌, ◌↔◌, ℕ, List, Option}
use Rattle.ob_table.specs.Tables.{ClassTable}
use Rattle.ob_format_spec.specs.Formats.{Format}
use Rattle.ob_heap_spec.specs.Contents.{Content, IsContent}
use Rattle.ob_rest_spec.specs.AtRest.{IsStoreAtRest, first_failing_object}
use Rattle.ob_rest_spec.specs.Failing.{failing_ways}
use Rattle.ob_emit_laws.specs.Names.{without_names}
use Rattle.ob_store_spec.specs.Payloads.{Changes, payload}
use Rattle.ob_store_spec.specs.Changes.{with_changes, SaysChanges, LeadFrom}
use Rattle.ob_store_spec.specs.Between.{changes_between, all_of}
use Rattle.ob_store_spec.specs.Stores.{StoreState, StoreRefusal, IsStoreOf, IsRefused}
use Rattle.ob_store_spec.specs.Settling.{settled}

-- contents
abbrev pub ContentsIgnoreNames : Type 0
ContentsIgnoreNames = (table : ClassTable) (content : Content) → IsContent (without_names table) content ↔ IsContent table content

-- stores at rest
abbrev pub RestIgnoresNames : Type 0
RestIgnoresNames = (table : ClassTable) (content : Content) → IsStoreAtRest (without_names table) content ↔ IsStoreAtRest table content

-- in which ways an object fails
abbrev pub FailingIgnoresNames : Type 0
FailingIgnoresNames = (table : ClassTable) (content : Content) (n : ℕ) → failing_ways (without_names table) content n ≡ failing_ways table content n

-- which object fails first
abbrev pub FirstFailingIgnoresNames : Type 0
FirstFailingIgnoresNames =
    (table : ClassTable) (content : Content) → first_failing_object (without_names table) content ≡ first_failing_object table content

-- by both formats a value has a spelling, and the same one
pub record IsSpelledAlike {A : Type 0} (f g : Format A) (value : A) : Type 0 where
  pub fits : f.fits value ↔ g.fits value
  pub bytes : f.bytes value ≡ g.bytes value

-- payloads
abbrev pub PayloadsIgnoreNames : Type 0
PayloadsIgnoreNames = (table : ClassTable) (changes : Changes) → IsSpelledAlike (payload (without_names table)) (payload table) changes

-- what differs between contents
abbrev pub DifferencesIgnoreNames : Type 0
DifferencesIgnoreNames =
    (table : ClassTable) (before after : Content) → changes_between (without_names table) before after ≡ changes_between table before after

-- all that a content holds
abbrev pub WholesIgnoreNames : Type 0
WholesIgnoreNames = (table : ClassTable) (content : Content) → all_of (without_names table) content ≡ all_of table content

-- what changes make of a content
abbrev pub ChangesIgnoreNames : Type 0
ChangesIgnoreNames =
    (table : ClassTable) (content : Content) (changes : Changes)
    → with_changes (without_names table) content changes ≡ with_changes table content changes

-- what a payload says of a content
abbrev pub SayingIgnoresNames : Type 0
SayingIgnoresNames =
    (table : ClassTable) (content : Content) (changes : Changes) (bytes : List ℕ)
    → SaysChanges (without_names table) content changes bytes ↔ SaysChanges table content changes bytes

-- where payloads lead
abbrev pub LeadingIgnoresNames : Type 0
LeadingIgnoresNames =
    (table : ClassTable) (content : Content) (payloads : List (List ℕ)) (end : Content)
    → LeadFrom (without_names table) content payloads end ↔ LeadFrom table content payloads end

-- what a disk represents, by the bytes of an image
abbrev pub StoresIgnoreNames : Type 0
StoresIgnoreNames =
    (table : ClassTable) (image : List ℕ) (size : ℕ) (bytes : List ℕ) (s : StoreState)
    → IsStoreOf (record { table = without_names table; image = image }) size bytes s ↔ IsStoreOf (record { table = table; image = image }) size bytes s

-- why it is refused
abbrev pub RefusalsIgnoreNames : Type 0
RefusalsIgnoreNames =
    (table : ClassTable) (image : List ℕ) (size : ℕ) (bytes : List ℕ) (r : StoreRefusal)
    → IsRefused (record { table = without_names table; image = image }) size bytes r ↔ IsRefused (record { table = table; image = image }) size bytes r

-- what becomes of a store
abbrev pub SettlingIgnoresNames : Type 0
SettlingIgnoresNames =
    (table : ClassTable) (image : List ℕ) (area : Option ℕ) (s : StoreState) (after : Content)
    → settled (record { table = without_names table; image = image }) area s after ≡ settled (record { table = table; image = image }) area s after
