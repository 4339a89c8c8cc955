-- The tables of document 01: one list of 2,305 bytes, read at fixed offsets. (01, "Tables".)
use Rattle.std.specs.Prelude.{ℕ, ◌+◌, ◌*◌, Bool, ◌||◌, List, get_or, eqb, ltb}

abbrev pub Tables : Type 0
Tables = List ℕ

-- "One slice of 2,305 bytes"
abbrev pub tables_length : ℕ
tables_length = 2305

-- n is "1 to 31"
abbrev pub most_actions : ℕ
most_actions = 31

-- a part has rows of 32 entries: 32 rows, of actions 0 to 31, or 8, of the blocked sets
abbrev pub row_length : ℕ
row_length = 32

abbrev pub set_count : ℕ
set_count = 8

-- the byte at which each part begins
abbrev pub communication_at : ℕ
communication_at = 1

abbrev pub priority_at : ℕ
priority_at = 1025

abbrev pub sets_at : ℕ
sets_at = 2049

-- "entry 32 × a + b", in a part that begins at a byte
abbrev pub entry_of : Tables → ℕ → ℕ → ℕ → ℕ
entry_of t start a b = get_or t (start + (row_length * a + b)) 0

-- an entry that is 1
abbrev pub marked : Tables → ℕ → ℕ → ℕ → Bool
marked t start a b = eqb (entry_of t start a b) 1

-- "byte 0 is n, the count of actions"
unfoldable pub actions : Tables → ℕ
actions t = get_or t 0 0

-- an action "outside 1 to n" (requests 102 and 105)
abbrev pub outside? : ℕ → ℕ → Bool
outside? n a = eqb a 0 || ltb n a

-- "Then 1,024 bytes of communication: entry 32 × a + b is a|b"
unfoldable pub communication : Tables → ℕ → ℕ → ℕ
communication t a b = entry_of t communication_at a b

-- "Then 1,024 of priority: entry 32 × a + b is 1 where a < b"
unfoldable pub below : Tables → ℕ → ℕ → Bool
below t a b = marked t priority_at a b

-- "Then 256 of eight blocked sets: entry 32 × h + a is 1 where a is in set h"
unfoldable pub blocked : Tables → ℕ → ℕ → Bool
blocked t h a = marked t sets_at h a
