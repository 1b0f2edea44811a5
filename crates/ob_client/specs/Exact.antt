-- JSON values whose text is read as themselves (RFC 8259, as `serde_json` reads and writes it).
use Rattle.std.specs.Prelude.{◌≡◌, ◌<◌, ◌^◌, pos, negsuc, IsTrue, ⊤}
use Rattle.std.specs.Str.{is_utf8}
use Rattle.serde_json.specs.Data.{Num, unsigned, negative, float, Data, null, boolean, number, string, array, object, Items, no_items, item, Members, no_members, member, put}

-- a whole number of 64 bits, with a sign or without; one from 0 has none
abbrev pub IsWhole : Num → Type 0
IsWhole (unsigned n) = n < 2 ^ 64
IsWhole (negative (pos n)) = ⊥
IsWhole (negative (negsuc n)) = n < 2 ^ 63
IsWhole (float x) = ⊥

-- these members, and the others, each put at its place
abbrev pub with_members : Members → Members → Members
with_members members no_members = members
with_members members (member key value more) = with_members (put key value members) more

-- Its numbers are whole, its texts are UTF-8, and the members of its objects stand in the byte order of their keys, each key once.
abbrev mutual
  pub IsExact : Data → Type 0
  IsExact null = ⊤
  IsExact (boolean b) = ⊤
  IsExact (number n) = IsWhole n
  IsExact (string text) = IsTrue (is_utf8 text)
  IsExact (array items) = AreExact items
  IsExact (object members) = (with_members no_members members ≡ members) × HasExact members

  -- items, each of which is
  pub AreExact : Items → Type 0
  AreExact no_items = ⊤
  AreExact (item value items) = IsExact value × AreExact items

  -- members with such keys and values
  pub HasExact : Members → Type 0
  HasExact no_members = ⊤
  HasExact (member key value members) = IsTrue (is_utf8 key) × IsExact value × HasExact members
