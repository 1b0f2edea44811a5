-- The handles of a store by their names: how one is found, put and removed (this project's own).
use Rattle.std.specs.Prelude.{not, List, fold, Option}
use Rattle.std.specs.Ordering.{eq_by_cmp}
use Rattle.std.specs.FinMap.Entries.{find as find_key, put as put_key, where_key}
use Rattle.ob_heap_spec.specs.Contents.{HandleName, Handle, Content, name_order}

-- a name with its handle
abbrev pub NamedHandle : Type 0
NamedHandle = HandleName × Handle

-- the handle of a name, if there is one
abbrev pub handle_at : Content → HandleName → Option Handle
handle_at content name = find_key name_order name content.handles

-- the handles, in the order of their names, with this one among them; another of its name goes
abbrev pub put_handle : List NamedHandle → NamedHandle → List NamedHandle
put_handle handles h = put_key name_order h.0 h.1 handles

-- the handles with these put among them, one after another
abbrev pub put_handles : List NamedHandle → List NamedHandle → List NamedHandle
put_handles handles puts = fold put_handle handles puts

-- the handles without that of a name
abbrev pub without_handle : List NamedHandle → HandleName → List NamedHandle
without_handle handles name = where_key name_order (λ other. not (eq_by_cmp name_order name other)) handles
