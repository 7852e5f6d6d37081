-- The marks of HTML: the bytes that begin and end a tag or the value of an attribute.
use Rattle.std.specs.Prelude.{ℕ, Bool, ◌||◌, ◌==◌, List, filter}

-- one of `<`, `>`, `"` and `'`
unfoldable pub is_mark : ℕ → Bool
is_mark byte = byte == 60 || (byte == 62 || (byte == 34 || byte == 39))

-- the marks among the bytes, in their order
abbrev pub marks : List ℕ → List ℕ
marks bytes = filter is_mark bytes
