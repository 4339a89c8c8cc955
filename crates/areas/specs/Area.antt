-- What a lent area holds after words are put into it.
use Rattle.std.specs.Prelude.{ℕ, ◌+◌, ◌-◌, ◌≡◌, List, ◌++◌, length, take, drop, replicate}

-- "A plan is 1 to 16,384 bytes, called words": the most words of a plan
abbrev pub most_words : ℕ
most_words = 16384

-- the area d with the words v written over it from place k on
unfoldable pub overwrite : List ℕ → ℕ → List ℕ → List ℕ
overwrite d k v = take k d ++ (v ++ drop (k + length v) d)

-- the area is d before and d' after the words v are written over it from place k on, and they end before r
abbrev pub Written : List ℕ → List ℕ → ℕ → List ℕ → ℕ → Type 0
Written d d' k v r = (d' ≡ overwrite d k v) × (r ≡ k + length v)

-- "All bytes past a plan, in either area, and past the records are zero": the words l in an area of n bytes
unfoldable pub padded : List ℕ → ℕ → List ℕ
padded l n = l ++ replicate (n - length l) 0
