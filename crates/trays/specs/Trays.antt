-- The tables of the trial trays. (01, "Trial trays".)
use Rattle.std.specs.Prelude.{ℕ, ◌+◌, ◌*◌, set, replicate}
use Rattle.tables.specs.Tables.{Tables}

-- entries put into tables that are all zero
unfoldable pub communicate : ℕ → ℕ → ℕ → Tables → Tables
communicate a b c t = set t (1 + (32 * a + b)) c

unfoldable pub put_below : ℕ → ℕ → Tables → Tables
put_below a b t = set t (1025 + (32 * a + b)) 1

unfoldable pub block : ℕ → ℕ → Tables → Tables
block h a t = set t (2049 + (32 * h + a)) 1

-- "n = 4, 1|2 = 2|1 = 3, other communications 0; 0 below all, 1<4; set 0 = {1, 2}"
unfoldable pub trial : Tables
unfolding communicate put_below block
trial =
    communicate 1 2 3
    (communicate 2 1 3
    (put_below 0 1 (put_below 0 2 (put_below 0 3 (put_below 0 4 (put_below 1 4 (block 0 1 (block 0 2 (set (replicate 2305 0) 0 4)))))))))
